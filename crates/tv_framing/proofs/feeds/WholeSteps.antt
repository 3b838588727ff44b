-- Which steps are whole after an event.
use Rattle.std.specs.Option.{option_map_or}
use Rattle.std.specs.Prelude.{◌≡◌, refl, ℕ, zero, suc, ◌<◌, ◌==◌, ◌||◌, Bool, true, false, if◌then◌else◌, is_some, length, List, [], ◌∷◌, Some, slice_get, slice_index_or, slice_set, Option, None, replicate}
use Rattle.std.proofs.Common.{sym, ap, subst, ◌∙◌, arith}
use Rattle.std.proofs.lemmas.Bool.{eq-eqb, eqb-true, true≢false}
use Rattle.std.proofs.lemmas.Grind.{get_or-set_at}
use Rattle.std.proofs.lemmas.List.{get_or-set_other, length-map}
use Rattle.std.proofs.lemmas.Option.{none-some, same_Some}
use Rattle.tv_value.specs.Nested.{Place}
use Rattle.tv_value.specs.Orders.{named, same_name}
use Rattle.tv_value.specs.Values.{Name}
use Rattle.tv_value.proofs.NameLemmas.{same_name-refl}
use Rattle.tv_flow.specs.Flows.{Step}
use Rattle.tv_naming.specs.Naming.{has_name}
use Rattle.tv_naming.proofs.ByPosition.{there}
use Rattle.tv_naming.proofs.FormedParts.{steps-ascend}
use Rattle.tv_check.specs.Wirings.{after_of, all_after}
use Rattle.tv_telling.specs.endings.Ends.{is_whole}
use Rattle.tv_model.specs.instance.Counting.{count_whole, whole_by}
use Rattle.tv_model.specs.instance.Events.{Events, closed_with, event_step, has_fault, took}
use Rattle.tv_framing.specs.Frames.{with_event}
use Rattle.tv_framing.proofs.Possible.{some-possible}
use Rattle.tv_framing.specs.keeping.NextEvents.{is_whole_step}
use Rattle.tv_framing.specs.feeds.Fed.{event_number}
use Rattle.tv_framing.specs.feeds.Stated.{EndingsGoOn, EndingsStart, MarksAreWholeSteps, TakingEndsNothing, WholeStepsGoOn}
use Rattle.tv_framing.proofs.feeds.Names.{is-named}
use Rattle.tv_framing.proofs.feeds.Next.{of-event, marked-later, marks, not-yet_whole}
use Rattle.tv_framing.proofs.feeds.Standing.{stands}
use Rattle.tv_framing.proofs.feeds.Told.{turned-is}
use Rattle.tv_framing.proofs.engine.Endings.{position-of}

pub named-there : (xs : List (Name × Step)) (k : ℕ) (s : Name × Step) → slice_get xs k ≡ Some s → has_name xs s.0 ≡ true
named-there [] k s e = absurd (none-some s e)
named-there (x ∷ xs) zero s e = ap (λ (t : Name × Step). has_name (x ∷ xs) t.0) (sym (same_Some x s e)) ∙ ap (λ b. is_some (if b then Some x.1 else named x.0 xs)) (same_name-refl x.0)
named-there (x ∷ xs) (suc k) s e = by (same_name s.0 x.0) (named-there xs k s e)
  where
    by : (b : Bool) → has_name xs s.0 ≡ true → is_some (if b then Some x.1 else named s.0 xs) ≡ true
    by true h = refl
    by false h = h

pub whole-steps_go_on : WholeStepsGoOn
whole-steps_go_on flows levels v e next wired from turns =
    let r = some-possible (with_event v e []) [] next.given in
    record {
      before = λ h. not-yet_whole flows levels v e next wired [] r.0 r.1 r.2 (turned-is flows levels v e next wired [] r.0 r.1 r.2 from turns ∙ h);
      after = λ n s e1.
          let st = stands flows levels v next.depths wired [] r.0 n s e1 in
          sym (marked-later flows levels v e next wired [] r.0 r.1 r.2 (from == 0) (turned-is flows levels v e next wired [] r.0 r.1 r.2 from turns) s.0 (named-there v.flow.steps n s e1) st.step st.there st.stands.name)
          ∙ ap (marks flows levels v e next wired [] r.0 r.1 r.2 (from == 0)) (position-of v.flow.steps n s (steps-ascend v.flow wired.formed) e1);
    }

-- ---- counters

-- what is marked in a list of tests
marked-one : (xs : List Bool) (t n : ℕ) → t < length xs → slice_index_or (slice_set xs t true) n false ≡ (n == t || slice_index_or xs n false)
marked-one xs t n l = by (n == t) refl
  where
    by : (b : Bool) → (n == t) ≡ b → slice_index_or (slice_set xs t true) n false ≡ (b || slice_index_or xs n false)
    by true e = get_or-set_at xs t n true false (eqb-true n t e) l
    by false e = get_or-set_other xs t n true false (λ g. true≢false (sym (eq-eqb n t g) ∙ e))

pub endings-go_on : EndingsGoOn
endings-go_on flows levels v e next wired from turns x are =
    let r = some-possible (with_event v e []) [] next.given in
    let ev = of-event flows levels v e next wired [] r.0 r.1 r.2 in
    let t = event_number v e in
    let goes = whole-steps_go_on flows levels v e next wired from turns in
    let few = (there (event_step e) v.flow.steps ev.has).below in
    let many : length x.whole.items ≡ length v.flow.steps = are.sound.whole_each ∙ length-map v.flow.steps (λ (s : Name × Step). after_of v.flow.steps s.1) in
    let same : (n : ℕ) (s : Name × Step) → slice_get v.flow.steps n ≡ Some s → is_whole_step levels v n ≡ is_whole x n =
    λ n s h. ap (λ o. option_map_or (λ (u : Name × Step). whole_by v.events u.0 (levels u.0) []) o false) h ∙ sym (are.marked n s h)
    in
    record {
      within = few;
      before = λ h. let st = is-named (event_step e) v.flow.steps ev.has in sym (same t (event_step e, st.thing) st.here) ∙ goes.before h;
      after = λ y sound marks. record {
        sound = sound;
        marked = λ n s h.
            ap (λ bs. slice_index_or bs n false) marks
            ∙ marked-if (from == 0) x.whole.items t n (subst (λ m. t < m) (sym many) few)
            ∙ ap (λ b. if from == 0 then n == t || b else b) (sym (same n s h))
            ∙ sym (goes.after n s h);
      };
    }
  where
    marked-if : (b : Bool) (xs : List Bool) (t n : ℕ) → t < length xs → slice_index_or (if b then slice_set xs t true else xs) n false ≡ (if b then n == t || slice_index_or xs n false else slice_index_or xs n false)
    marked-if true xs t n l = marked-one xs t n l
    marked-if false xs t n l = refl

whole-taken : (es : Events) (s : Name) (q : Place) (t : Name) (d : ℕ) (r : Place) → whole_by es t d r ≡ whole_by (took s q ∷ es) t d r
whole-taken es s q t zero r = refl
whole-taken es s q t (suc d) r = ap (λ (w : Place → Bool). has_fault es t r || option_map_or (λ n. count_whole w r 0 n == n) (closed_with es t r) false) (λ i x. whole-taken es s q t d x i)

pub taking-ends_nothing : TakingEndsNothing
taking-ends_nothing f levels es s q x are = record { sound = are.sound; marked = λ n u h. are.marked n u h ∙ whole-taken es s q u.0 (levels u.0) [] }

none-marked : (m k : ℕ) → slice_index_or (replicate m false) k false ≡ false
none-marked zero k = refl
none-marked (suc m) zero = refl
none-marked (suc m) (suc k) = none-marked m k

none-whole : (s : Name) (d : ℕ) (r : Place) → whole_by [] s d r ≡ false
none-whole s zero r = refl
none-whole s (suc d) r = refl

pub endings-start : EndingsStart
endings-start f levels x sound none = record {
  sound = sound;
  marked = λ n s h. ap (λ bs. slice_index_or bs n false) none ∙ none-marked (length (all_after f)) n ∙ sym (none-whole s.0 (levels s.0) []);
}

pub marks-are_whole_steps : MarksAreWholeSteps
marks-are_whole_steps levels v x are n = by (slice_get v.flow.steps n) refl
  where
    -- past the end of both
    past : {A : Type 0} (bs : List Bool) (xs : List A) (k : ℕ) → length bs ≡ length xs → slice_get xs k ≡ None → slice_index_or bs k false ≡ false
    past [] xs k e h = refl
    past (b ∷ bs) [] k e h = absurd (omega arith)
    past (b ∷ bs) (y ∷ xs) zero e h = absurd (none-some y (sym h))
    past (b ∷ bs) (y ∷ xs) (suc k) e h = past bs xs k (less (length bs) (length xs) e) h
      where
        less : (i j : ℕ) → suc i ≡ suc j → i ≡ j
        less i j g = omega arith

    by : (o : Option (Name × Step)) → slice_get v.flow.steps n ≡ o → is_whole x n ≡ option_map_or (λ (s : Name × Step). whole_by v.events s.0 (levels s.0) []) o false
    by None h = past x.whole.items v.flow.steps n (are.sound.whole_each ∙ length-map v.flow.steps (λ (s : Name × Step). after_of v.flow.steps s.1)) h
    by (Some s) h = are.marked n s h
