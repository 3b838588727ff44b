-- Where the pass on depths says nothing of a flow, the flow agrees.
use Rattle.std.specs.Prelude.{◌≡◌, refl, ℕ, suc, ◌+◌, List, [], ◌∷◌, map, length, find, flat_map, Bool, true, false, not, ◌&&◌, ◌==◌, count_by, Option, Some, None, is_some, nat_lt, unwrap_or, ◌<◌}
use Rattle.std.specs.List.{list_all, list_any}
use Rattle.std.specs.Option.{option_map_or}
use Rattle.std.proofs.Common.{arith, sym, ap, subst, ◌∙◌, cond, eqb-true}
use Rattle.std.proofs.lemmas.Bool.{ltb-false, and_parts}
use Rattle.std.proofs.lemmas.Simd.{map-map}
use Rattle.tv_lemmas.specs.Members.{Each}
use Rattle.tv_lemmas.proofs.Counts.{once-any}
use Rattle.tv_lemmas.proofs.Lists.{append-none}
use Rattle.tv_value.specs.Nested.{leaf, list}
use Rattle.tv_value.specs.Values.{HasDepth, Name, Value}
use Rattle.tv_value.specs.DepthSets.{depth_limit, least_depth}
use Rattle.tv_value.proofs.DepthLemmas.{least-least}
use Rattle.tv_value.specs.Orders.{same_name, named}
use Rattle.tv_value.specs.Activities.{Activity, service, nested}
use Rattle.tv_value.specs.Strategies.{Strategy, port, cross, strategy}
use Rattle.tv_flow.specs.Flows.{Feed, link, merge, constant, StepInput, Step, Flow, Document}
use Rattle.tv_flow.specs.Forms.{is_name}
use Rattle.tv_flow.specs.Formed.{is_value, is_feed, is_step_input, is_step, is_flow}
use Rattle.tv_strategy.specs.Measures.{Difference, first_difference, strategy_depth, leaf_names}
use Rattle.tv_strategy.proofs.LawLemmas.{agree-exactly}
use Rattle.tv_naming.specs.Faulty.{Where, with_numbers, merge_depths, too_deep, at_input, at_loop, at_step, at_output, at_flow_output}
use Rattle.tv_naming.specs.Naming.{complain_if, fits_ports, numbered}
use Rattle.tv_value.proofs.NameLemmas.{same_name-is}
use Rattle.tv_naming.proofs.FormedParts.{all-pass, ascending, flow-steps, flow-outputs, step-inputs}
use Rattle.tv_model.specs.instance.Ranks.{ranked}
use Rattle.tv_model.specs.instance.Steps.{strategy_of, ports_of, declared_depths}
use Rattle.tv_model.specs.instance.CheckedDepths.{StepDepths, constant_depth, link_depth, feed_depth, port_depth, step_depths, flow_depths, output_depths, measured_outputs}
use Rattle.tv_check.specs.Depthwise.{depth_most, past_limit, merge_difference, fed_complaints, same_ports, fits_flow, nested_complaints, node_complaints, loop_complaints, step_complaints, steps_complaints, flow_complaints}
use Rattle.tv_check.specs.Tables.{has_fitting}
use Rattle.tv_check.proofs.PortLemmas.{default-ports}
use Rattle.tv_check.proofs.Inside.{each-all, each-by, silent}
use Rattle.tv_check.proofs.CycleLemmas.{IsThere, each-there}
use Rattle.tv_check.proofs.Ranks.{each-ranked}
use Rattle.tv_model.specs.Agreeing.{AllAre, OneDepth, FeedAgrees, FeedsAgree, InputsAgree, FindThemselves, ActivityAgrees, ActivitiesAgree, StepAgrees, StepsAgree, FlowAgrees}
use Rattle.tv_history.proofs.Lists.{any-named, named-any, two-each}
use Rattle.tv_strategy.proofs.Each.{each-passes as all-each}

-- ---- what feeds deliver

pub all-same : (d : ℕ) (ds : List ℕ) → find (λ e. not (e == d)) ds ≡ None → AllAre d ds
all-same d [] h = tt
all-same d (e ∷ ds) h = cases (e == d) refl h (all-same d ds)
  where
    cases : (b : Bool) → (e == d) ≡ b → cond (not b) (Some e) (find (λ e. not (e == d)) ds) ≡ None → (find (λ e. not (e == d)) ds ≡ None → AllAre d ds) → AllAre d (e ∷ ds)
    cases true q k rec = (eqb-true e d q, rec k)
    cases false q k rec = cc

pub one-depth : (w : Where) (ds : List ℕ) → merge_difference w ds ≡ [] → OneDepth ds
one-depth w [] h = tt
one-depth w (d ∷ ds) h = all-same d ds (nothing (find (λ e. not (e == d)) ds) h)
  where
    nothing : (o : Option ℕ) → option_map_or (λ e. with_numbers merge_depths w d e ∷ []) o [] ≡ [] → o ≡ None
    nothing None h = refl
    nothing (Some e) h = cc

pub has-least : (v : Value) → is_value v ≡ true → is_some (least_depth v) ≡ true
has-least (leaf n a) h = refl
has-least (list n vs) h = (and_parts _ _ (and_parts _ _ h).0).1

-- within the limit the least depth is one that the value has
constant-has : (w : Where) (v : Value) → is_value v ≡ true → past_limit w (constant_depth v) ≡ [] → HasDepth v (constant_depth v)
constant-has w v k h = by (least_depth v) refl (has-least v k) h
  where
    within : (d : ℕ) → past_limit w d ≡ [] → d < depth_limit
    within d g = test (nat_lt depth_most d) refl g
      where
        test : (b : Bool) → nat_lt depth_most d ≡ b → complain_if b (with_numbers too_deep w d depth_most) ≡ [] → d < depth_limit
        test true q r = cc
        test false q r = let few = ltb-false depth_most d q in omega (arith, few)

    by : (o : Option ℕ) → least_depth v ≡ o → is_some o ≡ true → past_limit w (unwrap_or o 0) ≡ [] → HasDepth v (unwrap_or o 0)
    by None e s g = cc
    by (Some d) e s g = (least-least v d (within d g) e).0

module _ (given : List (Name × ℕ)) (so_far : List StepDepths) where
  feed-agrees : (w : Where) (f : Feed) → is_feed f ≡ true → fed_complaints given so_far w f ≡ [] → FeedAgrees given so_far f
  feed-agrees w (link l) k h = tt
  feed-agrees w (merge ls) k h = one-depth w (map (link_depth given so_far) ls) (append-none (merge_difference w (map (link_depth given so_far) ls)) _ h).0
  feed-agrees w (constant v) k h = constant-has w v k h

  inputs-agree : (w : Name × StepInput → Where) (is : List (Name × StepInput)) → list_all (λ e. is_name e.0 && is_step_input e.1) is ≡ true → flat_map (λ i. fed_complaints given so_far (w i) i.1.from) is ≡ [] → InputsAgree given so_far is
  inputs-agree w [] k h = tt
  inputs-agree w (i ∷ is) k h =
      let p = append-none (fed_complaints given so_far (w i) i.1.from) _ h in
      let b = and_parts (is_name i.0 && is_step_input i.1) _ k in
      (feed-agrees (w i) i.1.from (and_parts _ _ (and_parts _ _ b.0).1).1 p.0, inputs-agree w is b.1 p.1)

  feeds-agree : (w : Name × Feed → Where) (fs : List (Name × Feed)) → list_all (λ e. is_name e.0 && is_feed e.1) fs ≡ true → flat_map (λ o. fed_complaints given so_far (w o) o.1) fs ≡ [] → FeedsAgree given so_far fs
  feeds-agree w [] k h = tt
  feeds-agree w (f ∷ fs) k h =
      let p = append-none (fed_complaints given so_far (w f) f.1) _ h in
      let b = and_parts (is_name f.0 && is_feed f.1) _ k in
      (feed-agrees (w f) f.1 (and_parts _ _ b.0).1 p.0, feeds-agree w fs b.1 p.1)

-- ---- strategies

pub dots-silent : (w : Where) (o : Option Difference) → node_complaints w o ≡ [] → o ≡ None
dots-silent w None h = refl
dots-silent w (Some e) h = cc

pub find-themselves : (xs is : List (Name × StepInput)) → Each (IsThere xs) is → FindThemselves xs is
find-themselves xs [] h = tt
find-themselves xs (i ∷ is) h = (h.0.1, find-themselves xs is h.1)

-- each input is a port of the strategy, and each port an input
pub record Binds (s : Step) (ns : List Name) : Type 0 where
  pub bound : list_all (λ i. list_any (same_name i.0) ns) s.inputs ≡ true
  pub ports : list_all (λ p. is_some (named p s.inputs)) ns ≡ true

pub over-names : {A : Type 0} (q : Name → Bool) (xs : List (Name × A)) → list_all (λ x. q x.0) xs ≡ true → list_all q (map (λ x. x.0) xs) ≡ true
over-names q [] h = refl
over-names q (x ∷ xs) h = let b = and_parts (q x.0) _ h in ap (λ c. c && list_all q (map (λ x. x.0) xs)) b.0 ∙ over-names q xs b.1

pub under-names : {A : Type 0} (q : Name → Bool) (xs : List (Name × A)) → list_all q (map (λ x. x.0) xs) ≡ true → list_all (λ x. q x.0) xs ≡ true
under-names q [] h = refl
under-names q (x ∷ xs) h = let b = and_parts (q x.0) _ h in ap (λ c. c && list_all (λ x. q x.0) xs) b.0 ∙ under-names q xs b.1

pub weaker : {X : Type 0} (p q : X → Bool) (xs : List X) → ((x : X) → p x ≡ true → q x ≡ true) → list_all p xs ≡ true → list_all q xs ≡ true
weaker p q [] f h = refl
weaker p q (x ∷ xs) f h = let b = and_parts (p x) _ h in ap (λ c. c && list_all q xs) (f x b.0) ∙ weaker p q xs f b.1

pub binds-default : (s : Step) → Each (IsThere s.inputs) s.inputs → Binds s (map (λ i. i.0) s.inputs)
binds-default s e =
    record {
      bound = each-all (λ i. list_any (same_name i.0) (map (λ i. i.0) s.inputs)) s.inputs (each-by (IsThere s.inputs) _ s.inputs (λ i t. any-named i.0 s.inputs t.0) e);
      ports = over-names (λ p. is_some (named p s.inputs)) s.inputs (each-all (λ i. is_some (named i.0 s.inputs)) s.inputs (each-by (IsThere s.inputs) _ s.inputs (λ i t. t.0) e));
    }

pub binds-given : (s : Step) (t : Strategy) → fits_ports s t ≡ true → Binds s (leaf_names t)
binds-given s t h =
    let ns = map (λ (i : Name × StepInput). i.0) s.inputs in
    let ms = leaf_names t in
    let b = and_parts ((length ns == length ms) && list_all (λ n. count_by (same_name n) ms == 1) ns) (list_all (λ m. count_by (same_name m) ns == 1) ms) h in
    let c = and_parts (length ns == length ms) (list_all (λ n. count_by (same_name n) ms == 1) ns) b.0 in
    record {
      bound = under-names (λ n. list_any (same_name n) ms) s.inputs (weaker (λ n. count_by (same_name n) ms == 1) (λ n. list_any (same_name n) ms) ns (λ n k. once-any (same_name n) ms k) c.1);
      ports = weaker (λ m. count_by (same_name m) ns == 1) (λ m. is_some (named m s.inputs)) ms (λ m k. named-any m s.inputs (once-any (same_name m) ns k)) b.1;
    }

pub binds : (s : Step) → has_fitting s ≡ true → Each (IsThere s.inputs) s.inputs → Binds s (leaf_names (strategy_of s))
binds s h e = cases s.strategy h
  where
    cases : (o : Option Strategy) → option_map_or (fits_ports s) o true ≡ true → Binds s (leaf_names (unwrap_or o (cross (ports_of s.inputs))))
    cases None k = subst (Binds s) (sym (default-ports s.inputs)) (binds-default s e)
    cases (Some t) k = binds-given s t k

-- ---- activities

same-ports-are : (ps qs : List (Name × ℕ)) → same_ports ps qs ≡ true → ps ≡ qs
same-ports-are [] [] h = refl
same-ports-are [] (q ∷ qs) h = cc
same-ports-are (p ∷ ps) [] h = cc
same-ports-are ((n, k) ∷ ps) ((m, j) ∷ qs) h =
    let b = and_parts (same_name n m && k == j) (same_ports ps qs) h in
    let c = and_parts (same_name n m) (k == j) b.0 in
    ap (λ x. (x, k) ∷ ps) (same_name-is n m c.0) ∙ ap (λ x. (m, x) ∷ ps) (eqb-true k j c.1) ∙ ap (λ rs. (m, j) ∷ rs) (same-ports-are ps qs b.1)

activity-agrees : (d : Document) (f n : Name) (s : Step) (k : ℕ) (a : Activity) → nested_complaints d f n s (k, a) ≡ [] → ActivityAgrees d.flows s a
activity-agrees d f n s k (service m) h = tt
activity-agrees d f n s k (nested g) h = cases (named g d.flows) refl (silent (option_map_or (fits_flow s) (named g d.flows) false) _ h)
  where
    cases : (o : Option Flow) → named g d.flows ≡ o → option_map_or (fits_flow s) o false ≡ true → ActivityAgrees d.flows s (nested g)
    cases None e k = cc
    cases (Some flow) e k =
        let b = and_parts (same_ports (map (λ i. (i.0, i.1.depth)) s.inputs) flow.inputs) (same_ports s.outputs (measured_outputs flow)) k in
        let outs : s.outputs ≡ measured_outputs flow = same-ports-are s.outputs (measured_outputs flow) b.1 in
        let declared : declared_depths s ≡ output_depths flow = ap (map (λ (o : Name × ℕ). o.1)) outs ∙ map-map (λ (o : Name × ℕ). o.1) (λ (o : Name × Feed). (o.0, feed_depth flow.inputs (flow_depths flow) o.1)) flow.outputs in
        record { flow = flow; is_flow = e; inputs = sym (same-ports-are _ flow.inputs b.0); outputs = sym declared }

activities-agree : (d : Document) (f n : Name) (s : Step) (k : ℕ) (acts : List Activity) → flat_map (nested_complaints d f n s) (numbered k acts) ≡ [] → ActivitiesAgree d.flows s acts
activities-agree d f n s k [] h = tt
activities-agree d f n s k (a ∷ acts) h =
    let p = append-none (nested_complaints d f n s (k, a)) _ h in
    (activity-agrees d f n s k a p.0, activities-agree d f n s (suc k) acts p.1)

-- ---- steps and flows

abbrev pub IsSoundStep : Name × Step → Type 0
IsSoundStep s = (is_step s.1 ≡ true) × (has_fitting s.1 ≡ true)

pub step-agrees : (d : Document) (f : Name) (given : List (Name × ℕ)) (so_far : List StepDepths) (s : Name × Step) → IsSoundStep s → step_complaints d f given so_far s ≡ [] → StepAgrees d.flows given so_far s.1
step-agrees d f given so_far (n, s) sound h =
    let rounds = append-none _ (loop_complaints (at_loop f n) s) h in
    let p = append-none _ (flat_map (nested_complaints d f n s) (numbered 0 s.activities)) rounds.0 in
    let q = append-none _ (flat_map (λ o. past_limit (at_output f n o.0) (o.1 + strategy_depth (port_depth given so_far s) (strategy_of s))) s.outputs) p.0 in
    let r = append-none (flat_map (λ i. fed_complaints given so_far (at_input f n i.0) i.1.from) s.inputs) _ q.0 in
    let ins = step-inputs s sound.0 in
    let there = each-there s.inputs (ascending is_step_input 0 16 s.inputs ins) in
    let b = binds s sound.1 there in
    record {
      feeds = inputs-agree given so_far (λ i. at_input f n i.0) s.inputs (all-pass is_step_input 0 16 s.inputs ins) r.0;
      dots = (agree-exactly (port_depth given so_far s) (strategy_of s)).0 (dots-silent (at_step f n) (first_difference (port_depth given so_far s) (strategy_of s)) r.1);
      once = find-themselves s.inputs s.inputs there;
      bound = b.bound;
      ports = b.ports;
      activities = activities-agree d f n s 0 s.activities p.1;
    }

pub steps-agree : (d : Document) (f : Name) (given : List (Name × ℕ)) (so_far : List StepDepths) (ss : List (Name × Step)) → Each IsSoundStep ss → steps_complaints d f given so_far ss ≡ [] → StepsAgree d.flows given so_far ss
steps-agree d f given so_far [] e h = tt
steps-agree d f given so_far (s ∷ ss) e h =
    let p = append-none (step_complaints d f given so_far s) _ h in
    (step-agrees d f given so_far s e.0 p.0, steps-agree d f given (step_depths given so_far s ∷ so_far) ss e.1 p.1)

pub sound-steps : (f : Flow) → is_flow f ≡ true → list_all (λ s. has_fitting s.1) f.steps ≡ true → Each IsSoundStep f.steps
sound-steps f formed fitting =
    two-each _ _ f.steps
    (each-by _ (λ s. is_step s.1 ≡ true) f.steps (λ s b. (and_parts (is_name s.0) (is_step s.1) b).1) (all-each (λ s. is_name s.0 && is_step s.1) f.steps (all-pass is_step 0 1000 f.steps (flow-steps f formed))))
    (all-each (λ s. has_fitting s.1) f.steps fitting)

pub flow-agrees : (d : Document) (n : Name) (f : Flow) → is_flow f ≡ true → list_all (λ s. has_fitting s.1) f.steps ≡ true → flow_complaints d (n, f) ≡ [] → FlowAgrees d.flows f
flow-agrees d n f formed fitting h =
    let p = append-none (steps_complaints d n f.inputs [] (ranked f.steps)) _ h in
    record {
      steps = steps-agree d n f.inputs [] (ranked f.steps) (each-ranked IsSoundStep f.steps (sound-steps f formed fitting)) p.0;
      outputs = feeds-agree f.inputs (flow_depths f) (λ o. at_flow_output n o.0) f.outputs (all-pass is_feed 0 16 f.outputs (flow-outputs f formed)) p.1;
    }
