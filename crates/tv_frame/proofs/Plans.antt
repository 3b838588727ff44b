-- What is so of a flow of an accepted document: the levels that its ports walk are small, no leaf of a strategy stands twice, and its
-- depths tell the levels of its steps.
use Rattle.std.specs.Coded.{Coded-set, coded_bool}
use Rattle.std.specs.List.{list_all}
use Rattle.std.specs.Option.{option_map_or}
use Rattle.std.specs.Prelude.{◌≡◌, refl, ℕ, zero, suc, ◌+◌, ◌≤◌, Bool, true, false, ◌&&◌, nat_le, List, [], ◌∷◌, flat_map, if◌then◌else◌, length, map, Option, Some, None, slice_get, unwrap_or}
use Rattle.std.proofs.Common.{arith, sym, ap, subst, ◌∙◌}
use Rattle.std.proofs.Math.Logic.{∥∥₁_elim}
use Rattle.std.proofs.lemmas.List.{length-map}
use Rattle.std.proofs.lemmas.Bool.{and_parts}
use Rattle.tv_lemmas.specs.Members.{Each}
use Rattle.tv_lemmas.proofs.Options.{is_none-none}
use Rattle.tv_lemmas.proofs.Lists.{append-none}
use Rattle.tv_value.specs.Orders.{named, same_name}
use Rattle.tv_value.specs.Strategies.{Strategy, cross}
use Rattle.tv_value.specs.Values.{Name}
use Rattle.tv_value.proofs.NameLemmas.{same_name-is, same_name-refl}
use Rattle.tv_flow.specs.Flows.{Document, Flow, Step, StepInput}
use Rattle.tv_flow.specs.Formed.{is_ascending, is_formed, is_given_tree, is_step, is_step_input}
use Rattle.tv_strategy.specs.Conditions.{AllDotsAreFilled, EachOnce, Suits, names_in, number_of, times}
use Rattle.tv_strategy.specs.Measures.{DotsAgree, all_leaf_names, leaf_names, strategy_depth}
use Rattle.tv_naming.specs.Faulty.{Where, at_input, at_loop, at_output}
use Rattle.tv_naming.specs.Naming.{fits_ports, numbered}
use Rattle.tv_naming.proofs.ByPosition.{names_of}
use Rattle.tv_naming.proofs.FormedParts.{ascending, few, passes, step-at, step-inputs, steps-ascend}
use Rattle.tv_model.specs.instance.CheckedDepths.{StepDepths, feed_depth, flow_depths, port_depth, step_depths, steps_depths}
use Rattle.tv_check.specs.Depthwise.{depth_complaints, depth_most, fed_complaints, feed_depths, flow_complaints, loop_complaints, nested_complaints, past_limit, step_complaints, steps_complaints}
use Rattle.tv_check.specs.Cycles.{link_cycle_complaints, nesting_complaints}
use Rattle.tv_model.specs.instance.Ranks.{ranked}
use Rattle.tv_model.specs.instance.Steps.{ports_of, strategy_of}
use Rattle.tv_check.specs.Tables.{has_fitting, step_level}
use Rattle.tv_check.proofs.LevelLemmas.{mismatch-is, number-small, over-small, suits, within-one}
use Rattle.tv_check.proofs.Ranked.{all-ranked, one-place}
use Rattle.tv_model.proofs.Ranks.{IsOrdered, ranked-ordered}
use Rattle.tv_check.proofs.PortLemmas.{default-ports}
use Rattle.tv_naming.specs.Inputs.{given_complaints}
use Rattle.tv_check.specs.Passes.{checked, complaints}
use Rattle.tv_check.specs.Plans.{IsAccepted}
use Rattle.tv_check.specs.PlanViews.{IsOfDocument}
use Rattle.tv_check.proofs.Accepting.{first-none}
use Rattle.tv_check.proofs.Ranks as by_ranks
use Rattle.tv_check.proofs.Wired.{fitting}
use Rattle.tv_check.specs.Ports.{levels_of, mismatches}
use Rattle.tv_model.specs.instance.OwnDepths.{AreLevels}
use Rattle.tv_model.specs.Agreeing.{FlowAgrees, StepsAgree}
use Rattle.tv_framing.proofs.Lists.{named-each}
use Rattle.tv_framing.proofs.Nests.{Silent, all-silent}
use Rattle.tv_framing.specs.engine.WiredFlows.{IsWired}
use Rattle.tv_framing.proofs.engine.Accepted.{accepted-wired}
use Rattle.tv_model.proofs.Feeds.{none-feed, ports-settled, step-settled}
use Rattle.tv_frame.specs.Tables.{levels_in}
use Rattle.tv_frame.proofs.Keeping.{levels-are as levels-at}

-- ---- lists

pub each-there : {A : Type 0} (P : A → Type 0) (xs : List A) (j : ℕ) (x : A) → Each P xs → slice_get xs j ≡ Some x → P x
each-there P [] j x h e = cc
each-there P (y ∷ xs) zero x h e = let f : y ≡ x = cc in subst P f h.0
each-there P (y ∷ xs) (suc j) x h e = each-there P xs j x h.1 e

pub each-placed : {A : Type 0} (P : A → Type 0) (xs : List A) → ((j : ℕ) (x : A) → slice_get xs j ≡ Some x → P x) → Each P xs
each-placed P [] h = tt
each-placed P (x ∷ xs) h = (h 0 x refl, each-placed P xs (λ j y e. h (suc j) y e))

-- ---- levels are small

abbrev pub is_within : List (Name × ℕ) → List StepDepths → Name × StepInput → Bool
is_within given ds i = nat_le (feed_depth given ds i.1.from) depth_most

-- no port of the step is fed with more levels than there may be
abbrev pub is_small : Flow → Name × Step → Bool
is_small f s = list_all (is_within f.inputs (flow_depths f)) s.1.inputs

module _ (given : List (Name × ℕ)) where
  inputs-within : (w : Name × StepInput → Where) (so_far all : List StepDepths) (is : List (Name × StepInput)) → flat_map (λ i. fed_complaints given so_far (w i) i.1.from) is ≡ [] → Each (λ i. feed_depth given all i.1.from ≡ feed_depth given so_far i.1.from) is → list_all (is_within given all) is ≡ true
  inputs-within w so_far all [] h e = refl
  inputs-within w so_far all (i ∷ is) h e =
      let p = append-none (fed_complaints given so_far (w i) i.1.from) (flat_map (λ i. fed_complaints given so_far (w i) i.1.from) is) h in
      let q = append-none (feed_depths given so_far (w i) i.1.from) (past_limit (w i) (feed_depth given so_far i.1.from)) p.0 in
      let here : is_within given all i ≡ true = ap (λ n. nat_le n depth_most) e.0 ∙ within-one (w i) (feed_depth given so_far i.1.from) q.1 in
      ap (λ b. b && list_all (is_within given all) is) here ∙ inputs-within w so_far all is p.1 e.1

  steps-within : (d : Document) (n : Name) (all : List StepDepths) (done : List Name) (so_far : List StepDepths) (ss : List (Name × Step)) → IsOrdered done ss → steps_complaints d n given so_far ss ≡ [] → steps_depths given so_far ss ≡ all → Each (λ s. list_all (is_within given all) s.1.inputs ≡ true) ss
  steps-within d n all done so_far [] o h e = tt
  steps-within d n all done so_far ((m, s) ∷ ss) o h e =
      let p = append-none (step_complaints d n given so_far (m, s)) (steps_complaints d n given (step_depths given so_far (m, s) ∷ so_far) ss) h in
      let rounds = append-none _ (loop_complaints (at_loop n m) s) p.0 in
      let q = append-none _ (flat_map (nested_complaints d n m s) (numbered 0 s.activities)) rounds.0 in
      let r = append-none _ (flat_map (λ o. past_limit (at_output n m o.0) (o.1 + strategy_depth (port_depth given so_far s) (strategy_of s))) s.outputs) q.0 in
      let t = append-none (flat_map (λ i. fed_complaints given so_far (at_input n m i.0) i.1.from) s.inputs) _ r.0 in
      let settled : Each (λ i. feed_depth given all i.1.from ≡ feed_depth given so_far i.1.from) s.inputs = subst (λ ds. Each (λ i. feed_depth given ds i.1.from ≡ feed_depth given so_far i.1.from) s.inputs) e (step-settled given s so_far ((m, s) ∷ ss) (none-feed done (m, s) ss o)) in
      (inputs-within (λ i. at_input n m i.0) so_far all s.inputs t.0 settled, steps-within d n all (m ∷ done) (step_depths given so_far (m, s) ∷ so_far) ss o.1.1 p.1 e)

  -- ---- dots agree by the depths of all steps

  pub steps-agree : (flows : List (Name × Flow)) (all : List StepDepths) (done : List Name) (so_far : List StepDepths) (ss : List (Name × Step)) → IsOrdered done ss → StepsAgree flows given so_far ss → steps_depths given so_far ss ≡ all → Each (λ s. DotsAgree (port_depth given all s.1) (strategy_of s.1)) ss
  steps-agree flows all done so_far [] o h e = tt
  steps-agree flows all done so_far (s ∷ ss) o h e =
      let same : port_depth given so_far s.1 ≡ port_depth given all s.1 = sym (ports-settled given s.1 so_far (s ∷ ss) (none-feed done s ss o)) ∙ ap (λ ds. port_depth given ds s.1) e in
      (subst (λ f. DotsAgree f (strategy_of s.1)) same h.0.dots, steps-agree flows all (s.0 ∷ done) (step_depths given so_far s ∷ so_far) ss o.1.1 h.1 e)

  -- ---- levels by the depths of all steps

  pub levels-agree : (levels : Name → ℕ) (all : List StepDepths) (done : List Name) (so_far : List StepDepths) (ss : List (Name × Step)) → IsOrdered done ss → Each (λ s. levels s.0 ≡ strategy_depth (port_depth given all s.1) (strategy_of s.1)) ss → steps_depths given so_far ss ≡ all → AreLevels levels given so_far ss
  levels-agree levels all done so_far [] o h e = tt
  levels-agree levels all done so_far (s ∷ ss) o h e =
      let same : port_depth given all s.1 ≡ port_depth given so_far s.1 = ap (λ ds. port_depth given ds s.1) (sym e) ∙ ports-settled given s.1 so_far (s ∷ ss) (none-feed done s ss o) in
      (h.0 ∙ ap (λ f. strategy_depth f (strategy_of s.1)) same, levels-agree levels all (s.0 ∷ done) (step_depths given so_far s ∷ so_far) ss o.1.1 h.1 e)

-- of a flow of a document that is accepted the pass on depths says nothing
flow-silent : (d : Document) → is_formed d ≡ true → IsAccepted d → (n : Name) (f : Flow) → named n d.flows ≡ Some f → flow_complaints d (n, f) ≡ []
flow-silent d formed accepted n f is =
    let knows : Name → Bool = λ m. true in
    let all = first-none (complaints knows d) (is_none-none (checked knows d) accepted) in
    let a = append-none _ (given_complaints d) all in
    let b = append-none _ (depth_complaints d) a.0 in
    let c = append-none _ (link_cycle_complaints d) b.0 in
    let e = append-none _ (nesting_complaints d) c.0 in
    named-each (Silent d) n d.flows f (all-silent d e.1 b.1) is

flow-within : (d : Document) (n : Name) (f : Flow) → flow_complaints d (n, f) ≡ [] → Each (λ s. is_small f s ≡ true) (ranked f.steps)
flow-within d n f h =
    steps-within f.inputs d n (flow_depths f) [] [] (ranked f.steps) (ranked-ordered f.steps) (append-none (steps_complaints d n f.inputs [] (ranked f.steps)) _ h).0 refl

pub rank-of : (f : Flow) → IsWired f → (k : ℕ) (s : Name × Step) → slice_get f.steps k ≡ Some s → (j : ℕ) × (slice_get (ranked f.steps) j ≡ Some s)
rank-of f wired k s at = all-ranked f.steps (steps-ascend f wired.formed) wired.ranked s (k, at)

pub step-small : (f : Flow) → IsOfDocument f → (k : ℕ) (s : Name × Step) → slice_get f.steps k ≡ Some s → is_small f s ≡ true
step-small f of k s at =
    let r = rank-of f (accepted-wired f of) k s at in
    ∥∥₁_elim of (Coded-set coded_bool _ _) (λ x. each-there (λ t. is_small f t ≡ true) (ranked f.steps) r.0 s (flow-within x.0 x.1.0 f (flow-silent x.0 x.1.1 x.1.2 x.1.0 f x.1.3)) r.1)

-- ---- names in order stand once each

module _ {A : Type 0} where
  lacks : (n : Name) (xs : List (Name × A)) → ((l : ℕ) (t : Name × A) → slice_get xs l ≡ Some t → n ≡ t.0 → ⊥) → times n (map (λ x. x.0) xs) ≡ 0
  lacks n [] h = refl
  lacks n (x ∷ xs) h = by (same_name n x.0) refl (lacks n xs (λ l t f. h (suc l) t f))
    where
      by : (b : Bool) → same_name n x.0 ≡ b → times n (map (λ y. y.0) xs) ≡ 0 → (if b then suc (times n (map (λ y. y.0) xs)) else times n (map (λ y. y.0) xs)) ≡ 0
      by true e r = absurd (h 0 x refl (same_name-is n x.0 e))
      by false e r = r

  once-there : (xs : List (Name × A)) (k : ℕ) (x : Name × A) → slice_get xs k ≡ Some x → ((l : ℕ) (t : Name × A) → slice_get xs l ≡ Some t → x.0 ≡ t.0 → l ≡ k) → times x.0 (map (λ y. y.0) xs) ≡ 1
  once-there [] k x e h = cc
  once-there (y ∷ xs) zero x e h =
      let f : y ≡ x = cc in
      let here : same_name x.0 y.0 ≡ true = ap (λ z. same_name x.0 z.0) f ∙ same_name-refl x.0 in
      ap (λ b. if b then suc (times x.0 (map (λ z. z.0) xs)) else times x.0 (map (λ z. z.0) xs)) here
      ∙ ap suc (lacks x.0 xs (λ l t g m. not-zero l (h (suc l) t g m)))
    where
      not-zero : (l : ℕ) → suc l ≡ 0 → ⊥
      not-zero l p = omega (arith, p)
  once-there (y ∷ xs) (suc k) x e h = by (same_name x.0 y.0) refl (λ less. once-there xs k x e (λ l t f m. less l k (h (suc l) t f m)))
    where
      not-zero : (m : ℕ) → 0 ≡ suc m → ⊥
      not-zero m p = omega (arith, p)

      less : (l m : ℕ) → suc l ≡ suc m → l ≡ m
      less l m p = omega (arith, p)

      by : (b : Bool) → same_name x.0 y.0 ≡ b → (((l m : ℕ) → suc l ≡ suc m → l ≡ m) → times x.0 (map (λ z. z.0) xs) ≡ 1) → (if b then suc (times x.0 (map (λ z. z.0) xs)) else times x.0 (map (λ z. z.0) xs)) ≡ 1
      by true g r = absurd (not-zero k (h 0 y refl (same_name-is x.0 y.0 g)))
      by false g r = r less

  once-among : (xs : List (Name × A)) → is_ascending (names_of xs) ≡ true → (ys : List (Name × A)) → ((k : ℕ) (y : Name × A) → slice_get ys k ≡ Some y → (j : ℕ) × (slice_get xs j ≡ Some y)) → EachOnce (map (λ y. y.0) ys) (map (λ x. x.0) xs)
  once-among xs rise [] h = tt
  once-among xs rise (y ∷ ys) h =
      let p = h 0 y refl in
      (once-there xs p.0 y p.1 (λ l t e m. one-place xs l p.0 t y rise e p.1 (sym m)), once-among xs rise ys (λ k z e. h (suc k) z e))

  pub names-once : (xs : List (Name × A)) → is_ascending (names_of xs) ≡ true → EachOnce (map (λ x. x.0) xs) (map (λ x. x.0) xs)
  names-once xs rise = once-among xs rise xs (λ k y e. (k, e))

-- ---- strategies suit the levels of their ports

ports-filled : (is : List (Name × StepInput)) → AllDotsAreFilled (ports_of is)
ports-filled [] = tt
ports-filled (i ∷ is) = (tt, ports-filled is)

numbers-named : (g : StepInput → ℕ) (is : List (Name × StepInput)) → names_in (map (λ i. (i.0, g i.1)) is) ≡ map (λ i. i.0) is
numbers-named g [] = refl
numbers-named g (i ∷ is) = ap (λ ns. i.0 ∷ ns) (numbers-named g is)

module _ (f : Flow) (of : IsOfDocument f) (k : ℕ) (s : Name × Step) (at : slice_get f.steps k ≡ Some s) where
  is-wired : IsWired f
  is-wired = accepted-wired f of

  is-step : is_step s.1 ≡ true
  is-step = step-at f is-wired.formed k s at

  few-inputs : length s.1.inputs ≤ 16
  few-inputs = few is_step_input 0 16 s.1.inputs (step-inputs s.1 is-step)

  below : (i : StepInput) → levels_of f i ≤ feed_depth f.inputs (flow_depths f) i.from
  below i = omega arith

  once : EachOnce (map (λ i. i.0) s.1.inputs) (map (λ i. i.0) s.1.inputs)
  once = names-once s.1.inputs (ascending is_step_input 0 16 s.1.inputs (step-inputs s.1 is-step))

  default-suits : Suits (mismatches f s.1) (cross (ports_of s.1.inputs))
  default-suits =
      let leaves = default-ports s.1.inputs in
      record {
        leaves_differ = subst (λ ns. EachOnce ns ns) (sym leaves) once;
        dots_are_filled = ports-filled s.1.inputs;
        each_has_number = subst (λ ns. EachOnce ns (names_in (mismatches f s.1))) (sym leaves) (subst (EachOnce (map (λ i. i.0) s.1.inputs)) (sym (numbers-named (levels_of f) s.1.inputs)) once);
        sum_is_small =
            omega (arith, over-small (number_of (mismatches f s.1)) (number-small (levels_of f) (λ d. feed_depth f.inputs (flow_depths f) d) below s.1.inputs (step-small f of k s at)) (all_leaf_names (ports_of s.1.inputs)), ap length leaves, length-map s.1.inputs (λ (i : Name × StepInput). i.0), few-inputs);
      }

  by-strategy : (o : Option Strategy) → is_given_tree o ≡ true → option_map_or (fits_ports s.1) o true ≡ true → Suits (mismatches f s.1) (unwrap_or o (cross (ports_of s.1.inputs)))
  by-strategy None g h = default-suits
  by-strategy (Some t) g h = suits (levels_of f) (λ d. feed_depth f.inputs (flow_depths f) d) below s.1.inputs few-inputs (step-small f of k s at) t h g

  -- the levels of a step's ports suit its strategy
  pub step-suits : Suits (mismatches f s.1) (strategy_of s.1)
  step-suits = by-strategy s.1.strategy (and_parts _ _ (and_parts _ _ (and_parts _ _ (and_parts _ _ (and_parts _ _ (and_parts _ _ is-step).0).0).0).0).0).1 (passes (λ (t : Name × Step). has_fitting t.1) f.steps k s (fitting f of) at)

  -- no name stands at two of its leaves
  pub leaves-differ : EachOnce (leaf_names (strategy_of s.1)) (leaf_names (strategy_of s.1))
  leaves-differ = step-suits.leaves_differ

-- the levels that ports walk are those of their depths
pub numbers-are : (f : Flow) (s : Step) → number_of (mismatches f s) ≡ port_depth f.inputs (flow_depths f) s
numbers-are f s = mismatch-is (levels_of f) s.inputs

-- where the depths of a flow agree, the children of its dots have one depth
pub dots-agree : (flows : List (Name × Flow)) (f : Flow) → IsWired f → FlowAgrees flows f → (k : ℕ) (s : Name × Step) → slice_get f.steps k ≡ Some s → DotsAgree (number_of (mismatches f s.1)) (strategy_of s.1)
dots-agree flows f wired agrees k s at =
    let r = rank-of f wired k s at in
    subst (λ g. DotsAgree g (strategy_of s.1)) (sym (numbers-are f s.1))
    (each-there (λ t. DotsAgree (port_depth f.inputs (flow_depths f) t.1) (strategy_of t.1)) (ranked f.steps) r.0 s (steps-agree f.inputs flows (flow_depths f) [] [] (ranked f.steps) (ranked-ordered f.steps) agrees.steps refl) r.1)

-- ---- the levels of steps, by their names

pub levels-are : (f : Flow) → IsWired f → AreLevels (levels_in f) f.inputs [] (ranked f.steps)
levels-are f wired =
    levels-agree f.inputs (levels_in f) (flow_depths f) [] [] (ranked f.steps) (ranked-ordered f.steps)
    (by_ranks.each-ranked (λ s. levels_in f s.0 ≡ step_level f s.1) f.steps (each-placed (λ s. levels_in f s.0 ≡ step_level f s.1) f.steps (λ k s at. levels-at f wired k s at)))
    refl
