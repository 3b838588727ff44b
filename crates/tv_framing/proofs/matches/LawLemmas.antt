-- The laws as they are stated.
use Rattle.std.specs.Prelude.{◌≡◌, refl, ℕ, ◌++◌, Bool, List, [], ◌∷◌, map, Option, Some, slice_get, IsPermutation}
use Rattle.std.proofs.Common.{sym, ap, subst, ◌∙◌}
use Rattle.std.proofs.lemmas.List.Sorted.{IsPermutation-sym, IsPermutation-trans, IsPermutation-map}
use Rattle.tv_lemmas.specs.Members.{Each, In}
use Rattle.tv_lemmas.proofs.Members.{each_in, in-right, in_each}
use Rattle.tv_value.specs.Nested.{at}
use Rattle.tv_value.specs.Orders.{same_name}
use Rattle.tv_value.specs.Values.{JobName, Name, Value}
use Rattle.tv_flow.specs.Flows.{Flow, Step}
use Rattle.tv_strategy.specs.Conditions.{number_of}
use Rattle.tv_strategy.specs.Measures.{leaf_names}
use Rattle.tv_strategy.specs.Origins.{Origin, plain}
use Rattle.tv_strategy.proofs.Each.{each-weaken}
use Rattle.tv_naming.specs.Numbers.{position}
use Rattle.tv_naming.proofs.Forms.{steps-named}
use Rattle.tv_model.specs.instance.Delivered.{Ported}
use Rattle.tv_model.specs.instance.Ranks.{ranked}
use Rattle.tv_model.specs.instance.Steps.{declared_depths, port_mismatch, strategy_of}
use Rattle.tv_matching.specs.Items.{Item, if_so, known_items}
use Rattle.tv_matching.specs.Levels.{KindAt}
use Rattle.tv_matching.specs.Matchers.{list_at, out}
use Rattle.tv_matching.specs.Members.{Once}
use Rattle.tv_matching.specs.Tellings.{Telling}
use Rattle.tv_matching.specs.Told.{matched_after, IsFit, Spot, item_there, telling, tellings, told_kind, told_leaf, told_place, told_to}
use Rattle.tv_matching.proofs.LawLemmas.{tellings-in_any_order}
use Rattle.tv_matching.proofs.Matchers.{can-tell_all-permutes}
use Rattle.tv_matching.proofs.Members.{in-permutes}
use Rattle.tv_matching.proofs.Onces.{known-once}
use Rattle.tv_matching.proofs.Permutes.{flat-permutes}
use Rattle.tv_model.specs.instance.ByResults.{InstanceStep, PlacedJob, Results}
use Rattle.tv_model.specs.instance.Events.{Event, Events, Extends, known_by}
use Rattle.tv_model.specs.instance.Legality.{AreLegal}
use Rattle.tv_model.specs.RightDepths.{HaveTheseDepths}
use Rattle.tv_framing.proofs.Arriving.{extends-parts}
use Rattle.tv_framing.proofs.Frames.{frame-comes, in-finds, steps-distinct, after-more}
use Rattle.tv_framing.proofs.Possible.{some-possible}
use Rattle.tv_framing.specs.Answers.{AreInputsOf}
use Rattle.tv_framing.specs.Frames.{new_jobs, with_event}
use Rattle.tv_framing.specs.Gaining.{gained_items}
use Rattle.tv_framing.specs.Views.{AreGiven, AreOfDepth, View, steps_with}
use Rattle.tv_framing.specs.keeping.Told.{PortIsTold}
use Rattle.tv_framing.specs.matches.Items.{StandAtParts, part_of_port}
use Rattle.tv_framing.specs.matches.Stated.{AllWaitAtFirst, FlowsStay, FramesStart, GivenGoesOn, JobsBindParts, KnownJobsAreMatched, NewJobsAreBrought, NextCanBeTold, NothingSettlesWhereNothingWaits, OutcomesAreKnown, OutcomesComeInAnyOrder, PartsAreInputs, PassedFaultsStand, StepsAreToldInAnyOrder, TakingLeavesWaiting, WaitingFaultsCanSettle, WaitingGoesOn, WaitingInAnyOrder, WaitingListsCanSettle}
use Rattle.tv_framing.specs.matches.Steps.{IsOfRankedFlow, IsStepAt}
use Rattle.tv_framing.proofs.matches.Binding.{job-of, same-values}
use Rattle.tv_framing.proofs.matches.Jobs.{all-steps, ends-permute, gained-jobs}
use Rattle.tv_framing.proofs.matches.Matched.{fault-stands, item-of, leaf-leveled, leaf-once, outcome-of, outcomes-known}
use Rattle.tv_framing.proofs.matches.Ranks.{one-named, position-at_number, ranked-permutes}
use Rattle.tv_lemmas.proofs.Members.{get-in as in-at}
use Rattle.tv_lemmas.proofs.Members.{in-slice as at-in}
use Rattle.tv_framing.proofs.matches.Settling.{event-step, fault-legal, list-legal, none-legal}
use Rattle.tv_framing.proofs.matches.Steps.{ArePaired, IsMadeOf, made-of, made-step, rising, steps-paired, there-is}
use Rattle.tv_framing.proofs.matches.Telling.{all-tell, fit-of_level, in-told}
use Rattle.tv_framing.proofs.matches.Waiting.{IsUntold, all-wait, brought-untold, left-waits, outcomes-once, taking-leaves, waiting-permutes, waits-more}

-- ---- the steps of an instance

module _ (flows : List (Name × Flow)) (levels : Name → ℕ) (v : View) (w : IsOfRankedFlow flows levels v) (instance : JobName) (results : Results) (depth : AreOfDepth v instance results) where
  abbrev fs : List InstanceStep
  fs = steps_with v instance results

  paired : ArePaired v.flow fs v.flow.steps
  paired = steps-paired flows levels v w instance results depth

  -- the step of that number
  named-made : (n : ℕ) (s : Name × Step) → IsStepAt v n s → (f : InstanceStep) → In f fs → f.step.step ≡ s.0 → IsMadeOf v.flow s f
  named-made n s a f i e = made-step v.flow fs v.flow.steps (rising flows levels v w) paired s (at-in v.flow.steps n s a) f i e

  is-there : (n : ℕ) (s : Name × Step) → IsStepAt v n s → (f : InstanceStep) × In f fs × IsMadeOf v.flow s f
  is-there n s a = there-is v.flow fs v.flow.steps paired s (at-in v.flow.steps n s a)

-- a step stands at the position of its name
at-position : (flows : List (Name × Flow)) (levels : Name → ℕ) (v : View) → IsOfRankedFlow flows levels v → (s : Name × Step) → In s v.flow.steps → IsStepAt v (position s.0 v.flow.steps) s
at-position flows levels v w s i =
    let r = in-at s v.flow.steps i in
    subst (λ n. slice_get v.flow.steps n ≡ Some s) (sym (position-at_number v.flow.steps (rising flows levels v w) r.0 s r.1)) r.1

older : (results : Results) (e : Event) (es : Events) → Extends results (e ∷ es) → Extends results es
older results e es x = (extends-parts results e es x).1

pub flows-stay : FlowsStay
flows-stay flows levels v w e new = record {
  depths = record { flow = w.depths.flow; inputs = w.depths.inputs; levels_are = w.depths.levels_are };
  formed = w.formed;
  ranked = w.ranked;
}

-- ---- what comes out

pub outcomes-are_known : OutcomesAreKnown
outcomes-are_known flows levels v w n s a ts os h instance results depth x f i e =
    outcomes-known v.flow s f (named-made flows levels v w instance results depth n s a f i e) instance v.events ts (h.told instance results depth x f i e) os h.outcomes

pub passed_faults-stand : PassedFaultsStand
passed_faults-stand flows levels v w n s a once ts os h q l j instance results depth x f i e =
    fault-stands v.flow s f (named-made flows levels v w instance results depth n s a f i e) instance v.events ts (h.told instance results depth x f i e) os h.outcomes once q l j

-- ---- tellings

pub steps-told_in_any_order : StepsAreToldInAnyOrder
steps-told_in_any_order v s ts us h k instance results depth x f i e =
    each-weaken (PortIsTold instance v.events ts) (PortIsTold instance v.events us)
    (λ d g values same. IsPermutation-trans _ _ _ (IsPermutation-map (item_there values) (told_to us d.0) (told_to ts d.0) (one d.0)) (g values same))
    f.step.inputs (k instance results depth x f i e)
  where
    one : (p : Name) → IsPermutation (told_to us p) (told_to ts p)
    one p = flat-permutes (λ (t : Telling Spot Spot). if_so (same_name p t.leaf) t.item) (tellings us) (tellings ts) (IsPermutation-map telling us ts (IsPermutation-sym _ _ h))

pub outcomes-come_in_any_order : OutcomesComeInAnyOrder
outcomes-come_in_any_order v s ts us os ps h k w = record {
  told = steps-told_in_any_order v s.0 ts us h w.told;
  outcomes =
      IsPermutation-trans _ _ _ (IsPermutation-sym _ _ k)
      (IsPermutation-trans _ _ _ w.outcomes
      (IsPermutation-map (out (strategy_of s.1)) (matched_after (strategy_of s.1) ts) (matched_after (strategy_of s.1) us) (tellings-in_any_order (strategy_of s.1) ts us h)));
}

pub next-can_be_told : NextCanBeTold
next-can_be_told flows levels v w given n s a ts more h leaves m mismatch_is told_is =
    let r = some-possible v [] given in
    let f = is-there flows levels v w [] r.0 r.1 n s a in
    let told = h [] r.0 r.1 r.2 f.0 f.1 f.2.name in
    let numbers : (p : Name) → port_mismatch f.0.step.inputs p ≡ number_of m.mismatch p = λ p. sym (f.2.numbers p) ∙ ap (λ l. number_of l p) (sym mismatch_is) in
    can-tell_all-permutes more (record m { told = ts }) m refl (IsPermutation-sym _ _ told_is)
    (all-tell m ts more
    (in_each (IsFit (number_of m.mismatch)) more
    (λ t i. let p = each_in (λ u. In (told_leaf u) (leaf_names (strategy_of s.1))) more leaves t i in
    fit-of_level (number_of m.mismatch) t
    (subst (λ d. KindAt d (told_place t) (told_kind t)) (numbers (told_leaf t))
    (each_in (λ (y : Item Spot Spot). KindAt (port_mismatch f.0.step.inputs (told_leaf t)) y.place y.kind) (told_to (ts ++ more) (told_leaf t)) (leaf-leveled v.flow s f.0 f.2 [] v.events (ts ++ more) told (told_leaf t) p) (telling t).item (in-told t (ts ++ more) (in-right t ts more i))))))
    (in_each (λ t. Once (told_to (ts ++ more) (told_leaf t))) more
    (λ t i. leaf-once v.flow s f.0 f.2 [] v.events (ts ++ more) told (told_leaf t) (each_in (λ u. In (told_leaf u) (leaf_names (strategy_of s.1))) more leaves t i))))

-- ---- jobs

pub known_jobs-are_matched : KnownJobsAreMatched
known_jobs-are_matched flows levels v w ts os h jobs instance results depth x =
    let fs = steps_with v instance results in
    let known : Origin → Bool = known_by instance v.events in
    IsPermutation-trans _ _ _ jobs
    (IsPermutation-sym _ _
    (all-steps v.flow fs (paired flows levels v w instance results depth) (rising flows levels v w) os (λ f. known_items known f.step.iteration)
    (λ s f i j m.
    let n = position s.0 v.flow.steps in
    let t = h n s (at-position flows levels v w s i) in
    ends-permute (os n) (known_items known f.step.iteration) (outcomes-known v.flow s f m instance v.events (ts n) (t.told instance results depth x f j m.name) (os n) t.outcomes))))

pub frames-start : FramesStart
frames-start flows levels v w ts os h jobs none = record {
  given = subst (AreGiven (ranked v.flow.steps)) (sym none) tt;
  legal = λ instance results depth x. subst (AreLegal instance (steps_with v instance results)) (sym none) tt;
  known = known_jobs-are_matched flows levels v w ts os h jobs;
}

pub new_jobs-are_brought : NewJobsAreBrought
new_jobs-are_brought flows levels v e told after os brought b new jobs = (come, frame-comes v b.next.frame e new b.next.given b.next.legal come)
  where
    w : IsOfRankedFlow flows levels v
    w = b.of_flow

    come : (instance : JobName) (results : Results) → AreOfDepth v instance results → Extends results (e ∷ v.events) → IsPermutation new (new_jobs (known_by instance v.events) (known_by instance (e ∷ v.events)) (steps_with v instance results))
    come instance results depth x =
        let fs = steps_with v instance results in
        let known : Origin → Bool = known_by instance v.events in
        let later : Origin → Bool = known_by instance (e ∷ v.events) in
        IsPermutation-trans _ _ _ jobs
        (IsPermutation-sym _ _
        (all-steps v.flow fs (paired flows levels v w instance results depth) (rising flows levels v w) brought (λ f. gained_items known later f.step.iteration)
        (λ s f i j m.
        let n = position s.0 v.flow.steps in
        let a = at-position flows levels v w s i in
        let t = b.before_it n s a in
        let u = b.after_it n s a in
        gained-jobs known later (after-more instance e v.events) f (os n) (brought n)
        (outcomes-known v.flow s f m instance v.events (told n) (t.told instance results depth (older results e v.events x) f j m.name) (os n) t.outcomes)
        (outcomes-known v.flow s f m instance (e ∷ v.events) (after n) (u.told instance results depth x f j m.name) (os n ++ brought n) u.outcomes))))

pub given-goes_on : GivenGoesOn
given-goes_on flows levels v w given n s a q vs depths fresh = (
  λ t i e. subst (λ (y : Name × Step). HaveTheseDepths (declared_depths y.1) vs) (sym (one-named v.flow.steps (rising flows levels v w) t s (in-permutes t v.flow.steps (ranked v.flow.steps) (IsPermutation-sym _ _ (ranked-permutes v.flow.steps (steps-named v.flow w.formed).rise w.ranked)) i) (at-in v.flow.steps n s a) e)) depths,
  fresh,
  given,
)

-- ---- what jobs bind

pub jobs-bind_parts : JobsBindParts
jobs-bind_parts flows levels v w n s a instance results depth x f i e =
    in_each (λ (k : PlacedJob). StandAtParts v.flow s.1 f k.place (map plain k.inputs)) f.jobs
    (λ k j. (job-of v.flow s f (named-made flows levels v w instance results depth n s a f i e) k j).parts)

pub parts-are_inputs : PartsAreInputs
parts-are_inputs flows levels v w n s a q vs h instance results depth x =
    let fs = steps_with v instance results in
    in_each (λ (f : InstanceStep). Each (AreInputsOf (s.0, q) vs) f.jobs) fs
    (λ f i. in_each (AreInputsOf (s.0, q) vs) f.jobs
    (λ k j step place.
    let t = made-of v.flow fs v.flow.steps (paired flows levels v w instance results depth) f i in
    let e : f.step.step ≡ s.0 = t.2.name ∙ sym (job-of v.flow t.0 f t.2 k j).name ∙ step in
    let g = job-of v.flow s f (named-made flows levels v w instance results depth n s a f i e) k j in
    same-values vs (map plain k.inputs)
    (h instance results depth x f i e ∙ ap (λ y. map {B = Option Value} (λ (d : Name × Ported). at (plain d.1.value) (part_of_port v.flow s.1 y d.0)) f.step.inputs) (sym place) ∙ sym g.parts)))

-- ---- lists and faults

pub waiting_lists-can_settle : WaitingListsCanSettle
waiting_lists-can_settle flows levels v w n s a ts os h q m i fresh = (
  refl,
  λ instance results depth x.
      let fs = steps_with v instance results in
      let f = is-there flows levels v w instance results depth n s a in
      let y = item-of v.flow s f.0 f.2 instance v.events ts (h.told instance results depth x f.0 f.1 f.2.name) os h.outcomes (list_at q m) i in
      list-legal instance fs f.0 (in-finds fs (steps-distinct v instance results) f.0 f.1) v.events s.0 f.2.name q m y.0 y.1 y.2 fresh,
)

pub waiting_faults-can_settle : WaitingFaultsCanSettle
waiting_faults-can_settle flows levels v w n s a once ts os h q l i fresh e is = (
  refl,
  λ instance results depth x.
      let fs = steps_with v instance results in
      let f = is-there flows levels v w instance results depth n s a in
      fault-legal instance fs f.0 (in-finds fs (steps-distinct v instance results) f.0 f.1) v.events s.0 f.2.name v.flow s.1 q l e
      (fault-stands v.flow s f.0 f.2 instance v.events ts (h.told instance results depth x f.0 f.1 f.2.name) os h.outcomes once q l i)
      (is instance results depth x f.0 f.1 f.2.name) fresh,
)

pub nothing-settles : NothingSettlesWhereNothingWaits
nothing-settles flows levels v w ts os h none e settles instance results depth x legal =
    let fs = steps_with v instance results in
    let f = event-step instance fs v.events e legal in
    let s = made-of v.flow fs v.flow.steps (paired flows levels v w instance results depth) f.0 f.1 in
    let n = position s.0.0 v.flow.steps in
    let a = at-position flows levels v w s.0 s.1 in
    let t = h n s.0 a in
    none-legal instance fs f.0 (in-finds fs (steps-distinct v instance results) f.0 f.1) v.events s.0.0 s.2.name (os n)
    (λ y i. outcome-of v.flow s.0 f.0 s.2 instance v.events (ts n) (t.told instance results depth x f.0 f.1 s.2.name) (os n) t.outcomes y i)
    (none n s.0 a) e settles (sym f.2 ∙ s.2.name) legal

pub waiting-goes_on : WaitingGoesOn
waiting-goes_on flows levels v e told after os brought b n s a waiting left waits is_left =
    let w = b.of_flow in
    let r = some-possible (with_event v e []) [] b.next.given in
    let results : Results = r.0 in
    let fs = steps_with v [] results in
    let f = is-there flows levels v w [] results r.1 n s a in
    let self = in-finds fs (steps-distinct v [] results) f.0 f.1 in
    let old = older results e v.events r.2 in
    let t = b.before_it n s a in
    let u = b.after_it n s a in
    let before_told = t.told [] results r.1 old f.0 f.1 f.2.name in
    let stand = outcomes-known v.flow s f.0 f.2 [] (e ∷ v.events) (after n) (u.told [] results r.1 r.2 f.0 f.1 f.2.name) (os n ++ brought n) u.outcomes in
    waits-more v.events e s.0 (os n) (brought n) left
    (left-waits v.events s.0 (os n)
    (outcomes-once (os n) (known_items (known_by [] v.events) f.0.step.iteration) (outcomes-known v.flow s f.0 f.2 [] v.events (told n) before_told (os n) t.outcomes) (λ q. known-once (known_by [] v.events) q f.0.step.iteration))
    waiting left waits e is_left)
    (subst (λ m. Each (IsUntold (e ∷ v.events) m) (brought n)) f.2.name
    (brought-untold [] fs f.0 self e v.events (b.next.legal [] results r.1 r.2) (b.next.frame.legal [] results r.1 old) (os n) (brought n) stand
    (λ y i. outcome-of v.flow s f.0 f.2 [] v.events (told n) before_told (os n) t.outcomes y i)))

pub all-wait_at_first : AllWaitAtFirst
all-wait_at_first s os = all-wait s os

pub waiting-in_any_order : WaitingInAnyOrder
waiting-in_any_order es s os ps h = waiting-permutes es s os ps h

pub taking-leaves_waiting : TakingLeavesWaiting
taking-leaves_waiting es t s q os = taking-leaves es t s q os
