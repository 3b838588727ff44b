-- The steps of a flow, one after another, with a table of their depths.
use Rattle.std.proofs.Common.{◌≡◌, ◌∙◌, refl, sym, ap, subst, ℕ, zero, suc, ◌<◌, ◌≤◌, ◌+◌, ◌-◌, List, [], ◌∷◌, ◌++◌, length, map, flat_map, take, drop, true, false, ◌&&◌, Option, Some, None, option_map, unwrap_or, arith, get_or, set, slice_get, replicate, inl, inr, ◌⊎◌}
use Rattle.std.proofs.Math.Path.{fun_ext}
use Rattle.std.proofs.lemmas.Bool.{le-leb, and_parts, cases_eq}
use Rattle.std.proofs.lemmas.Option.{slice_get-get_or, slice_get_within}
use Rattle.std.proofs.lemmas.List.{length-set, length-replicate}
use Rattle.std.specs.List.{list_all}
use Rattle.std.specs.Option.{option_map_or}
use Rattle.tv_lemmas.proofs.Lists.{get-map}
use Rattle.tv_lemmas.proofs.Numbers.{none-below, none-after}
use Rattle.tv_lemmas.proofs.Tests.{from-true_false}
use Rattle.tv_value.specs.Values.{Name}
use Rattle.tv_value.specs.Orders.{same_name, named}
use Rattle.tv_value.proofs.NameLemmas.{same_name-refl}
use Rattle.tv_flow.specs.Flows.{Link, input, output, Feed, link, merge, constant, Step, Flow, Document}
use Rattle.tv_flow.specs.Formed.{is_flow}
use Rattle.tv_flow.specs.Views.{each, step_view, flow_view}
use Rattle.tv_flow.specs.declared.document.Step.{Step as CodeStep}
use Rattle.tv_flow.specs.declared.document.Flow.{Flow as CodeFlow}
use Rattle.tv_model.specs.instance.Ranks.{ranked}
use Rattle.tv_check.specs.Measured.{IsReady, step_opens}
use Rattle.tv_check.specs.declared.measured.Measured.{Measured}
use Rattle.tv_strategy.specs.Measures.{strategy_depth, first_difference}
use Rattle.tv_model.specs.instance.Steps.{strategy_of}
use Rattle.tv_naming.specs.Faulty.{CheckComplaint, Where, at_step, at_input, at_output, at_loop, at_flow_output}
use Rattle.tv_naming.specs.Naming.{numbered}
use Rattle.tv_model.specs.instance.CheckedDepths.{StepDepths, link_depth, merged_depth, feed_depth, port_depth, step_depths, steps_depths, flow_depths, measured_outputs}
use Rattle.tv_check.specs.Depthwise.{past_limit, fed_complaints, nested_complaints, node_complaints, loop_complaints, merge_difference, step_complaints, steps_complaints, flow_complaints}
use Rattle.tv_check.specs.Tables.{with_level, known_steps, IsTable, IsSound, IsMeasured, is_level, level_most, has_fitting, table_depth, Agree, AreAt}
use Rattle.tv_naming.specs.Told.{StopsAt}
use Rattle.tv_naming.specs.declared.faults.CheckRefused.{CheckRefused}
use Rattle.tv_check.proofs.Ranked.{one-place, get-set-same, get-set-other}
use Rattle.tv_model.proofs.Ranks.{IsOrdered, port-stays, feeds-none, ranks-apart}
use Rattle.tv_naming.proofs.FormedParts.{steps-ascend, step-at, passes}
use Rattle.tv_check.proofs.Links.{length-each, each-get}
use Rattle.tv_check.proofs.Tables.{agree-set, found-empty}
use Rattle.tv_naming.proofs.Told.{stops-left, stops-right, got-in}

-- ---- lists of steps so far in which each name finds the same give the same depths

module _ (given : List (Name × ℕ)) (made table : List StepDepths) (same : Agree made table) where
  pub link-agree : link_depth given made ≡ link_depth given table
  link-agree = fun_ext by_link
    where
      by_link : (l : Link) → link_depth given made l ≡ link_depth given table l
      by_link (input x) = refl
      by_link (output s p) = ap (λ o. option_map_or (λ m. unwrap_or (named p m.outputs) 1) o 1) (same s)

  pub feed-agree : feed_depth given made ≡ feed_depth given table
  feed-agree = fun_ext by_feed
    where
      by_feed : (f : Feed) → feed_depth given made f ≡ feed_depth given table f
      by_feed (link l) = ap (λ g. g l) link-agree
      by_feed (merge ls) = ap (λ g. merged_depth (map g ls)) link-agree
      by_feed (constant v) = refl

  pub fed-agree : (w : Where) (f : Feed) → fed_complaints given made w f ≡ fed_complaints given table w f
  fed-agree w (link l) = ap (λ g. past_limit w (g (link l))) feed-agree
  fed-agree w (merge ls) = ap (λ g. merge_difference w (map g ls) ++ past_limit w (merged_depth (map g ls))) link-agree
  fed-agree w (constant v) = refl

  pub port-agree : (s : Step) → port_depth given made s ≡ port_depth given table s
  port-agree s =
      let ports : (Feed → ℕ) → Name → ℕ = λ g p. option_map_or (λ i. g i.from - i.depth) (named p s.inputs) 0 in
      ap ports feed-agree

  pub step-agree : (d : Document) (f : Name) (s : Name × Step) → step_complaints d f given made s ≡ step_complaints d f given table s
  step-agree d f (n, s) =
      let parts : (Where → Feed → List CheckComplaint) → (Name → ℕ) → List CheckComplaint =
      λ fed ports. flat_map (λ i. fed (at_input f n i.0) i.1.from) s.inputs ++ node_complaints (at_step f n) (first_difference ports (strategy_of s)) ++ flat_map (λ o. past_limit (at_output f n o.0) (o.1 + strategy_depth ports (strategy_of s))) s.outputs ++ flat_map (nested_complaints d f n s) (numbered 0 s.activities) ++ loop_complaints (at_loop f n) s
      in
      ap (λ fed. parts fed (port_depth given made s)) (fun_ext (λ w. fun_ext (fed-agree w))) ∙ ap (parts (fed_complaints given table)) (port-agree s)

  pub depths-agree : (s : Name × Step) → step_depths given made s ≡ with_level s (strategy_depth (port_depth given table s.1) (strategy_of s.1))
  depths-agree s = ap (λ ports. with_level s (strategy_depth ports (strategy_of s.1))) (port-agree s.1)

-- ---- the steps so far, and the rest

module _ (given : List (Name × ℕ)) where
  taken-suc : (made : List StepDepths) (rs : List (Name × Step)) (i : ℕ) (r : Name × Step) → slice_get rs i ≡ Some r → steps_depths given made (take (suc i) rs) ≡ step_depths given (steps_depths given made (take i rs)) r ∷ steps_depths given made (take i rs)
  taken-suc made [] i r e = cc
  taken-suc made (x ∷ rs) zero r e = let p : x ≡ r = cc in ap (λ y. step_depths given made y ∷ made) p
  taken-suc made (x ∷ rs) (suc i) r e = taken-suc (step_depths given made x ∷ made) rs i r e

  rest-suc : (d : Document) (f : Name) (so : List StepDepths) (rs : List (Name × Step)) (i : ℕ) (r : Name × Step) → slice_get rs i ≡ Some r → steps_complaints d f given so (drop i rs) ≡ step_complaints d f given so r ++ steps_complaints d f given (step_depths given so r ∷ so) (drop (suc i) rs)
  rest-suc d f so [] i r e = cc
  rest-suc d f so (x ∷ rs) zero r e = let p : x ≡ r = cc in ap (λ y. step_complaints d f given so y ++ steps_complaints d f given (step_depths given so y ∷ so) rs) p
  rest-suc d f so (x ∷ rs) (suc i) r e = rest-suc d f so rs i r e

  pub rest-none : (d : Document) (f : Name) (so : List StepDepths) (rs : List (Name × Step)) (i : ℕ) → length rs ≤ i → steps_complaints d f given so (drop i rs) ≡ []
  rest-none d f so [] zero h = refl
  rest-none d f so [] (suc i) h = refl
  rest-none d f so (x ∷ rs) zero h = none-after (length rs) h
  rest-none d f so (x ∷ rs) (suc i) h = rest-none d f so rs i (omega arith)

-- ---- tables

small-set : (ls : List (Option ℕ)) (i v : ℕ) → v ≤ level_most → list_all is_level ls ≡ true → list_all is_level (set ls i (Some v)) ≡ true
small-set [] i v le h = h
small-set (l ∷ ls) zero v le h = ap (λ b. b && list_all is_level ls) (le-leb v level_most le) ∙ (and_parts _ _ h).1
small-set (l ∷ ls) (suc i) v le h = ap (λ b. b && list_all is_level (set ls i (Some v))) (and_parts _ _ h).0 ∙ small-set ls i v le (and_parts _ _ h).1

small-none : (k : ℕ) → list_all is_level (replicate k None) ≡ true
small-none zero = refl
small-none (suc k) = small-none k

-- the entry of an order and the step that it names
pub record Named {A : Type 0} (xs ys : List A) (i k : ℕ) : Type 0 where
  pub thing : A
  pub there : slice_get xs k ≡ Some thing
  pub here : slice_get ys i ≡ Some thing

pub named-by : {A : Type 0} (xs ys : List A) (ks : List ℕ) (i k : ℕ) → AreAt xs ks ys → slice_get ks i ≡ Some k → Named xs ys i k
named-by {A = A} xs ys ks i k h e =
    find-in (slice_get ys i) refl (sym (get-map-all ys i) ∙ sym (ap (λ zs. slice_get zs i) h) ∙ get-map (slice_get xs) ks i k e)
  where
    get-map-all : (zs : List A) (j : ℕ) → slice_get (map Some zs) j ≡ option_map Some (slice_get zs j)
    get-map-all [] j = refl
    get-map-all (z ∷ zs) zero = refl
    get-map-all (z ∷ zs) (suc j) = get-map-all zs j

    find-in : (o : Option A) → slice_get ys i ≡ o → option_map Some o ≡ Some (slice_get xs k) → Named xs ys i k
    find-in None f g = cc
    find-in (Some y) f g = record { thing = y; there = let p : Some y ≡ slice_get xs k = cc in sym p; here = f }

-- ---- a flow whose steps are taken one after another

-- the depth of a step's strategy once these steps are taken
abbrev pub level_after : Flow → List (Name × Step) → Step → ℕ
level_after f rs s = strategy_depth (port_depth f.inputs (steps_depths f.inputs [] rs) s) (strategy_of s)

pub record StepsSo (d : Document) (n : Name) (f : Flow) (rs : List (Name × Step)) (ls : List (Option ℕ)) (i : ℕ) : Type 0 where
  pub table : IsTable f ls
  pub agree : Agree (steps_depths f.inputs [] (take i rs)) (known_steps f.steps ls)
  pub rest : steps_complaints d n f.inputs [] rs ≡ steps_complaints d n f.inputs (steps_depths f.inputs [] (take i rs)) (drop i rs)
  pub kept : (j k : ℕ) (t : Name × Step) → j < i → slice_get rs j ≡ Some t → slice_get f.steps k ≡ Some t → slice_get ls k ≡ Some (Some (level_after f (take i rs) t.1))

module _ (d : Document) (n : Name) (f : Flow) (rs : List (Name × Step)) where
  pub steps-start : is_flow f ≡ true → (ls : List (Option ℕ)) → ls ≡ replicate (length f.steps) None → StepsSo d n f rs ls 0
  steps-start h ls e =
      subst (λ ms. StepsSo d n f rs ms 0) (sym e)
      (record {
        table = record { formed = h; entries = length-replicate (length f.steps) None; small = small-none (length f.steps) };
        agree = λ s. sym (found-empty s f.steps (length f.steps));
        rest = refl;
        kept = λ j k t lt. none-below j lt;
      })

  module _ (ordered : IsOrdered [] rs) (ls : List (Option ℕ)) (i k : ℕ) (r : Name × Step) (so : StepsSo d n f rs ls i) (there : slice_get f.steps k ≡ Some r) (here : slice_get rs i ≡ Some r) where
    abbrev made : List StepDepths
    made = steps_depths f.inputs [] (take i rs)

    next-is : steps_complaints d n f.inputs [] rs ≡ step_complaints d n f.inputs (known_steps f.steps ls) r ++ steps_complaints d n f.inputs (step_depths f.inputs made r ∷ made) (drop (suc i) rs)
    next-is =
        so.rest ∙ rest-suc f.inputs d n made rs i r here
        ∙ ap (λ cs. cs ++ steps_complaints d n f.inputs (step_depths f.inputs made r ∷ made) (drop (suc i) rs)) (step-agree f.inputs made (known_steps f.steps ls) so.agree d n r)

    pub steps-stop : (e : CheckRefused) → StopsAt (step_complaints d n f.inputs (known_steps f.steps ls) r) e → StopsAt (steps_complaints d n f.inputs [] rs) e
    steps-stop e h = subst (λ cs. StopsAt cs e) (sym next-is) (stops-left _ _ e h)

    -- the depths of steps that were taken stay as they are
    level-stays : (j : ℕ) (t : Name × Step) → j ≤ i → slice_get rs j ≡ Some t → level_after f (take (suc i) rs) t.1 ≡ level_after f (take i rs) t.1
    level-stays j t le e =
        ap (λ ms. strategy_depth (port_depth f.inputs ms t.1) (strategy_of t.1)) (taken-suc f.inputs [] rs i r here)
        ∙ ap (λ ports. strategy_depth ports (strategy_of t.1)) (port-stays f.inputs made (step_depths f.inputs made r) t.1 (feeds-none [] rs j i t r ordered e here le))

    pub steps-more : (v : ℕ) → v ≡ strategy_depth (port_depth f.inputs (known_steps f.steps ls) r.1) (strategy_of r.1) → v ≤ level_most → step_complaints d n f.inputs (known_steps f.steps ls) r ≡ [] → StepsSo d n f rs (set ls k (Some v)) (i + 1)
    steps-more v is small silent =
        let j : suc i ≡ i + 1 = omega arith in
        let taken : steps_depths f.inputs [] (take (suc i) rs) ≡ with_level r v ∷ made =
        taken-suc f.inputs [] rs i r here ∙ ap (λ m. m ∷ made) (depths-agree f.inputs made (known_steps f.steps ls) so.agree r ∙ ap (with_level r) (sym is))
        in
        subst (λ m. StepsSo d n f rs (set ls k (Some v)) m) j
        (record {
          table = record { formed = so.table.formed; entries = length-set ls k (Some v) ∙ so.table.entries; small = small-set ls k v small so.table.small };
          agree = subst (λ ms. Agree ms (known_steps f.steps (set ls k (Some v)))) (sym taken) (agree-set made f.steps ls k r v (steps-ascend f so.table.formed) there k-below so.agree);
          rest =
              next-is
              ∙ ap (λ cs. cs ++ steps_complaints d n f.inputs (step_depths f.inputs made r ∷ made) (drop (suc i) rs)) silent
              ∙ ap (λ ms. steps_complaints d n f.inputs ms (drop (suc i) rs)) (sym (taken-suc f.inputs [] rs i r here));
          kept = λ m l t lt e g. by_place m l t lt e g (cases_eq m i);
        })
      where
        k-below : k < length ls
        k-below = omega (arith, slice_get_within f.steps k r there, so.table.entries)

        by_place : (m l : ℕ) (t : Name × Step) → m < suc i → slice_get rs m ≡ Some t → slice_get f.steps l ≡ Some t → (m ≡ i) ⊎ (m ≡ i → ⊥) → slice_get (set ls k (Some v)) l ≡ Some (Some (level_after f (take (suc i) rs) t.1))
        by_place m l t lt e g (inl q) =
            let s : Some t ≡ Some r = sym e ∙ (ap (slice_get rs) q ∙ here) in
            let p : t ≡ r = cc in
            let place : k ≡ l = one-place f.steps k l r t (steps-ascend f so.table.formed) there g (ap (λ (u : Name × Step). u.0) (sym p)) in
            let value : v ≡ level_after f (take i rs) r.1 = is ∙ ap (λ ports. strategy_depth ports (strategy_of r.1)) (sym (port-agree f.inputs made (known_steps f.steps ls) so.agree r.1)) in
            subst (λ o. slice_get (set ls k (Some v)) o ≡ Some (Some (level_after f (take (suc i) rs) t.1))) place
            (get-set-same ls k (Some v) k-below ∙ ap (λ w. Some (Some w)) (value ∙ ap (λ (u : Name × Step). level_after f (take i rs) u.1) (sym p) ∙ sym (level-stays m t (omega (arith, q)) e)))
        by_place m l t lt e g (inr q) =
            let before : m < i = nearer m lt q in
            let apart : same_name r.0 t.0 ≡ false = ranks-apart [] rs m i t r ordered e here before in
            let other : k ≡ l → ⊥ = λ p.
            let s : Some r ≡ Some t = sym there ∙ (ap (slice_get f.steps) p ∙ g) in
            let w : r ≡ t = cc in
            let x : true ≡ false = sym (same_name-refl r.0) ∙ (ap (λ (u : Name × Step). same_name r.0 u.0) w ∙ apart) in
            from-true_false x
            in
            get-set-other ls k l (Some v) other ∙ so.kept m l t before e g ∙ ap (λ w. Some (Some w)) (sym (level-stays m t (omega (arith, before)) e))
          where
            nearer : (a : ℕ) → a < suc i → (a ≡ i → ⊥) → a < i
            nearer a le ne = omega arith

  pub steps-silent : (ls : List (Option ℕ)) (i : ℕ) → length rs ≤ i → StepsSo d n f rs ls i → steps_complaints d n f.inputs [] rs ≡ []
  steps-silent ls i h so = so.rest ∙ rest-none f.inputs d n (steps_depths f.inputs [] (take i rs)) rs i h

pub take-whole : {A : Type 0} (xs : List A) (i : ℕ) → length xs ≤ i → take i xs ≡ xs
take-whole [] zero h = refl
take-whole [] (suc i) h = refl
take-whole (x ∷ xs) zero h = none-after (length xs) h
take-whole (x ∷ xs) (suc i) h = ap (λ ys. x ∷ ys) (take-whole xs i (omega arith))

-- once all are taken
pub steps-end : (d : Document) (n : Name) (f : Flow) (ls : List (Option ℕ)) (i : ℕ) → length (ranked f.steps) ≤ i → StepsSo d n f (ranked f.steps) ls i → IsMeasured f ls (measured_outputs f)
steps-end d n f ls i h so =
    let rs = ranked f.steps in
    let whole = take-whole rs i h in
    record {
      table = so.table;
      agree = subst (λ xs. Agree (steps_depths f.inputs [] xs) (known_steps f.steps ls)) whole so.agree;
      levels = λ j k s e g. subst (λ xs. slice_get ls k ≡ Some (Some (level_after f xs s.1))) whole (so.kept j k s (omega (arith, slice_get_within rs j s e, h)) e g);
      outputs_are = refl;
    }

pub length-at : {A : Type 0} (xs ys : List A) (ks : List ℕ) → AreAt xs ks ys → length ys ≡ length ks
length-at xs ys ks h = sym (long Some ys) ∙ sym (ap length h) ∙ long (slice_get xs) ks
  where
    long : {X Y : Type 0} (g : X → Y) (zs : List X) → length (map g zs) ≡ length zs
    long g [] = refl
    long g (z ∷ zs) = ap suc (long g zs)

-- ---- a flow of the code

module _ (f : CodeFlow) (xs : List (Name × CodeStep)) (order : List ℕ) (i : ℕ) (is : xs ≡ f.steps) (at : AreAt (flow_view f).steps order (ranked (flow_view f).steps)) (lt : i < length order) where
  abbrev number : ℕ
  number = get_or order i 0

  entry : Named (flow_view f).steps (ranked (flow_view f).steps) i number
  entry = named-by (flow_view f).steps (ranked (flow_view f).steps) order i number at (slice_get-get_or order i 0 lt)

  pub number-below : number < length f.steps
  number-below = omega (arith, slice_get_within (flow_view f).steps number entry.thing entry.there, length-each step_view f.steps)

  pub number-in : number < length xs
  number-in = omega (arith, number-below, ap length is)

  module _ (e : Name × CodeStep) (item : e ≡ get_or xs number e) where
    pub step-there : slice_get (flow_view f).steps number ≡ Some (e.0, step_view e.1)
    step-there = each-get step_view f.steps number e (got-in xs f.steps number e is number-in item)

    pub step-here : slice_get (ranked (flow_view f).steps) i ≡ Some (e.0, step_view e.1)
    step-here = let p : Some entry.thing ≡ Some (e.0, step_view e.1) = sym entry.there ∙ step-there in entry.here ∙ p

    module _ (d : Document) (ws : List (Option Measured)) (ready : IsReady d ws (flow_view f)) where
      pub step-sound : IsSound (step_view e.1)
      step-sound = record { formed = step-at (flow_view f) ready.formed number (e.0, step_view e.1) step-there; fitting = passes (λ (s : Name × Step). has_fitting s.1) (flow_view f).steps number (e.0, step_view e.1) ready.fitting step-there }

      pub step-opens : step_opens d ws (step_view e.1) ≡ true
      step-opens = passes (λ (s : Name × Step). step_opens d ws s.1) (flow_view f).steps number (e.0, step_view e.1) ready.opening step-there

-- ---- the outputs of a flow

module _ (d : Document) (n : Name) (f : Flow) (ls : List (Option ℕ)) (same : Agree (flow_depths f) (known_steps f.steps ls)) where
  abbrev outputs_told : List CheckComplaint
  outputs_told = flat_map (λ o. fed_complaints f.inputs (known_steps f.steps ls) (at_flow_output n o.0) o.1) f.outputs

  abbrev steps_told : List CheckComplaint
  steps_told = steps_complaints d n f.inputs [] (ranked f.steps)

  flow-told : flow_complaints d (n, f) ≡ steps_told ++ outputs_told
  flow-told =
      let told : (Where → Feed → List CheckComplaint) → List CheckComplaint = λ fed. steps_complaints d n f.inputs [] (ranked f.steps) ++ flat_map (λ o. fed (at_flow_output n o.0) o.1) f.outputs in
      ap told (fun_ext (λ w. fun_ext (fed-agree f.inputs (flow_depths f) (known_steps f.steps ls) same w)))

  pub outputs-stop : (e : CheckRefused) → steps_told ≡ [] → StopsAt outputs_told e → StopsAt (flow_complaints d (n, f)) e
  outputs-stop e s h = subst (λ cs. StopsAt cs e) (sym flow-told) (stops-right steps_told outputs_told e s h)

  pub flow-silent : steps_told ≡ [] → outputs_told ≡ [] → flow_complaints d (n, f) ≡ []
  flow-silent s o = flow-told ∙ ap (λ cs. cs ++ outputs_told) s ∙ o

pub flow-measured : (f : Flow) (ls : List (Option ℕ)) → IsMeasured f ls (measured_outputs f) → (os : List (Name × ℕ)) → os ≡ each (table_depth f ls) f.outputs → IsMeasured f ls os
flow-measured f ls m os e = record { table = m.table; agree = m.agree; levels = m.levels; outputs_are = e ∙ ap (λ g. each g f.outputs) (sym (feed-agree f.inputs (flow_depths f) (known_steps f.steps ls) m.agree)) }
