-- Events that come in a frame.
use Rattle.std.specs.Prelude.{◌≡◌, refl, ℕ, ◌+◌, ◌==◌, ◌∷◌, false, true, if◌then◌else◌, List, [], slice_get, unwrap_or}
use Rattle.std.specs.Option.{option_map_or}
use Rattle.std.specs.Cmp.Lexicographic.{bytes_decides}
use Rattle.std.proofs.Common.{sym, ap, subst, ◌∙◌}
use Rattle.tv_value.specs.Nested.{Place, list, no_trees}
use Rattle.tv_value.specs.Orders.{same_name}
use Rattle.tv_value.specs.Values.{Name, Value, fault_value}
use Rattle.tv_flow.specs.Flows.{Flow, Step}
use Rattle.tv_strategy.specs.Levels.{HasLevels}
use Rattle.tv_naming.proofs.FormedParts.{steps-ascend}
use Rattle.tv_matching.specs.Items.{Bound, Kind, Stopped, closes, ends, passes}
use Rattle.tv_matching.proofs.Members.{in-permutes}
use Rattle.tv_matching.proofs.Permutes.{perm-from}
use Rattle.tv_parts.specs.Changes.{arrive, close_at}
use Rattle.tv_parts.specs.Partials.{Partial, whole}
use Rattle.std.proofs.lemmas.List.Sorted.{IsPermutation-sym}
use Rattle.tv_lemmas.specs.Members.{In}
use Rattle.tv_lemmas.proofs.Members.{each_in}
use Rattle.tv_model.specs.instance.ByResults.{InstanceStep}
use Rattle.tv_model.specs.instance.Counting.{whole_by}
use Rattle.tv_model.specs.instance.Events as events
use Rattle.tv_model.specs.instance.Events.{Event, event_place, event_step, fault_set, gave, has_result, is_taken, known_by, took}
use Rattle.tv_model.specs.instance.Legality.{IsLegalNext}
use Rattle.tv_framing.proofs.instances.Legal.{legal-fit}
use Rattle.tv_framing.specs.Arriving.{levels_below, part_so_far, put_event}
use Rattle.tv_framing.specs.Frames.{FitsKind, IsFrame, known_jobs, new_jobs, with_event}
use Rattle.tv_framing.specs.Stated.{IsOfDepths}
use Rattle.tv_framing.specs.Views.{InAll, View, steps_with}
use Rattle.tv_framing.proofs.Endings.{leveled-in_all}
use Rattle.tv_framing.proofs.Frames.{frame-comes, in-finds, job-end, known-legal, steps-distinct, taken-gains}
use Rattle.tv_framing.proofs.Possible.{some-possible}
use Rattle.tv_framing.specs.ways.Stated.{IsFrom}
use Rattle.tv_framing.specs.engine.TurningTrees.{CanPut, HasRightLength, IsNextOf, whole_from}
use Rattle.tv_framing.proofs.engine.Trees.{events-put, trees-turn, trees-whole}
use Rattle.tv_framing.proofs.engine.Wires.{position-same}
use Rattle.tv_framing.proofs.engine.Endings.{position-of}
use Rattle.tv_framing.specs.feeds.Fed.{event_number}
use Rattle.tv_framing.specs.feeds.Coming.{EventsAreInTrees, NextMakesFrame, TakingMakesFrame, TreesAreWholeWithSteps, TreesGoOn, put_here}
use Rattle.tv_framing.specs.PortTellings.{newly_by}
use Rattle.tv_framing.proofs.feeds.Next.{first, fit, fs, legal, leveled, of-event}
use Rattle.tv_framing.proofs.feeds.Standing.{stands}
use Rattle.tv_framing.proofs.feeds.WholeSteps.{named-there}

-- ---- what a frame is after one

same-depths : (flows : List (Name × Flow)) (levels : Name → ℕ) (v : View) (e : Event) (new : List (Name × Place)) → IsOfDepths flows levels v → IsOfDepths flows levels (with_event v e new)
same-depths flows levels v e new d = record { flow = d.flow; inputs = d.inputs; levels_are = d.levels_are }

pub next-makes_frame : NextMakesFrame
next-makes_frame flows levels v e next new are = record {
  frame = frame-comes v next.frame e new next.given next.legal are;
  depths = same-depths flows levels v e new next.depths;
}

taken-legal : (v : View) → IsFrame v → (s : Name) (q : Place) → In (s, q) v.jobs → has_result v.events s q ≡ false → is_taken v.events s q ≡ false → InAll v (λ instance results fs. IsLegalNext instance fs v.events (took s q))
taken-legal v w s q i n m instance results d x =
    let gs = steps_with v instance results in
    let j = job-end (known_by instance v.events) gs s q (in-permutes (s, q) (known_jobs (known_by instance v.events) gs) v.jobs (IsPermutation-sym _ _ (w.known instance results d x)) i) in
    known-legal instance gs j.0 (in-finds gs (steps-distinct v instance results) j.0 j.1) v.events (took s q) ((bytes_decides j.0.step.step s).1 j.2) j.3 j.4 j.5 (any-values j.3.kind j.6) (n, m)
  where
    any-values : (k : Kind Bound Stopped) → FitsKind (gave s q []) k → FitsKind (took s q) k
    any-values (ends b) h = h
    any-values (closes m) h = h
    any-values (passes f) h = h

pub taking-makes_frame : TakingMakesFrame
taking-makes_frame flows levels v frame depths s q known new free = record {
  frame =
      frame-comes v frame (took s q) [] frame.given (λ instance results d x. taken-legal v frame s q known new free instance results d x)
      (λ instance results d x. perm-from [] (new_jobs (known_by instance v.events) (known_by instance (took s q ∷ v.events)) (steps_with v instance results)) (sym (taken-gains instance s q v.events (steps_with v instance results))));
  depths = same-depths flows levels v (took s q) [] depths;
}

-- ---- the trees of outputs

pub trees-are_whole_with_steps : TreesAreWholeWithSteps
trees-are_whole_with_steps flows levels v frame depths wired n s e k declared =
    let r = some-possible v [] frame.given in
    let gs = steps_with v [] r.0 in
    let st = stands flows levels v depths wired [] r.0 n s e in
    let fits = legal-fit [] gs st.step (in-finds gs (steps-distinct v [] r.0) st.step st.there) v.events (frame.legal [] r.0 r.1 r.2) in
    let has = each_in (λ (f : InstanceStep). HasLevels f.step.iteration (levels f.step.step)) gs (leveled-in_all flows v frame depths.flow depths.inputs levels depths.levels_are [] r.0 r.1 r.2) st.step st.there in
    subst (λ (m : Name). whole (part_so_far m k (levels m) declared v.events) ≡ whole_by v.events m (levels m) []) st.stands.name
    (trees-whole st.step (levels st.step.step.step) has v.events fits k declared [] st.step.step.iteration refl)
    ∙ sym (ap (λ o. option_map_or (λ (u : Name × Step). whole_by v.events u.0 (levels u.0) []) o false) e)

pub events-are_in_trees : EventsAreInTrees
events-are_in_trees flows levels v e next wired k declared =
    let r = some-possible (with_event v e []) [] next.given in
    let gs = fs flows levels v e next wired [] r.0 r.1 r.2 in
    let ev = of-event flows levels v e next wired [] r.0 r.1 r.2 in
    let g = ev.step in
    let own : same_name g.step.step (event_step e) ≡ true = (bytes_decides g.step.step (event_step e)).1 (sym ev.name) in
    let is_next : IsNextOf [] gs g (levels g.step.step) v.events e = record {
      first = first flows levels v e next wired [] r.0 r.1 r.2 g ev.there;
      fit = (fit flows levels v e next wired [] r.0 r.1 r.2 g ev.there).1;
      leveled = leveled flows levels v e next wired [] r.0 r.1 r.2 g ev.there;
      own = own;
      legal = legal flows levels v e next wired [] r.0 r.1 r.2;
      tells = next.tells;
    } in
    let puts = events-put [] gs g (levels g.step.step) v.events e is_next k declared in
    record {
      stands = subst (λ (m : Name). HasRightLength (levels m) e) (sym ev.name) puts.1;
      put = subst (λ (m : Name). CanPut e (part_so_far m k (levels m) declared v.events)) (sym ev.name) puts.0;
      turns =
          subst (λ (m : Name). IsFrom (newly_by v.events e m (levels m)) (event_place e) (whole_from (event_place e) (part_so_far m k (levels m) declared (e ∷ v.events)))) (sym ev.name)
          (trees-turn [] gs g (levels g.step.step) v.events e is_next k declared);
    }

put-own : (s : Name) (k levels declared : ℕ) (e : Event) → same_name s (event_step e) ≡ true → (p : Partial Value) → put_event s k levels declared e p ≡ put_here k levels declared e p
put-own s k levels declared (gave t q vs) h p = ap (λ b. if b then arrive q (unwrap_or (slice_get vs k) (list tt no_trees)) p else p) h
put-own s k levels declared (events.closed t q n) h p = ap (λ b. if b then close_at q n p else p) h
put-own s k levels declared (fault_set t q d) h p = ap (λ b. if b then arrive q (fault_value (record d { depth = levels_below levels q + declared })) p else p) h
put-own s k levels declared (took t q) h p = refl

put-other : (s : Name) (k levels declared : ℕ) (e : Event) → same_name s (event_step e) ≡ false → (p : Partial Value) → put_event s k levels declared e p ≡ p
put-other s k levels declared (gave t q vs) h p = ap (λ b. if b then arrive q (unwrap_or (slice_get vs k) (list tt no_trees)) p else p) h
put-other s k levels declared (events.closed t q n) h p = ap (λ b. if b then close_at q n p else p) h
put-other s k levels declared (fault_set t q d) h p = ap (λ b. if b then arrive q (fault_value (record d { depth = levels_below levels q + declared })) p else p) h
put-other s k levels declared (took t q) h p = refl

pub trees-go_on : TreesGoOn
trees-go_on flows levels v e next wired n s there k declared =
    let r = some-possible (with_event v e []) [] next.given in
    let has = (of-event flows levels v e next wired [] r.0 r.1 r.2).has in
    -- numbers are the same where names are
    let same : (n == event_number v e) ≡ same_name s.0 (event_step e) =
    ap (λ m. m == event_number v e) (sym (position-of v.flow.steps n s (steps-ascend v.flow wired.formed) there))
    ∙ position-same s.0 (event_step e) v.flow.steps (named-there v.flow.steps n s there) has
    in
    let before = part_so_far s.0 k (levels s.0) declared v.events in
    record {
      own = λ h. put-own s.0 k (levels s.0) declared e (sym same ∙ h) before;
      other = λ h. put-other s.0 k (levels s.0) declared e (sym same ∙ h) before;
    }
