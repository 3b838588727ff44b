-- Jobs that become known with an event neither run nor have a result.
use Rattle.std.specs.List.{list_any, sum_by}
use Rattle.std.specs.Prelude.{◌≡◌, refl, ℕ, ◌+◌, ◌≤◌, ◌||◌, Bool, true, false, cond, List, [], ◌∷◌, ◌++◌, map, IsPermutation}
use Rattle.std.specs.Cmp.Lexicographic.{bytes_decides}
use Rattle.std.proofs.Common.{sym, ap, subst, ◌∙◌, arith, inl, inr}
use Rattle.std.proofs.lemmas.Bool.{and_parts, true≢false, or_parts}
use Rattle.std.proofs.lemmas.List.Sums.{sum_by-append, sum_by-cons}
use Rattle.tv_lemmas.specs.Members.{In}
use Rattle.tv_lemmas.proofs.Members.{in-left, in-map, of-map}
use Rattle.tv_value.specs.Nested.{Place}
use Rattle.tv_value.specs.Orders.{same_name}
use Rattle.tv_value.specs.Values.{JobName, Name}
use Rattle.tv_flow.specs.Flows.{Flow, Step}
use Rattle.tv_lemmas.proofs.Cases.{on_or, on_test}
use Rattle.tv_strategy.specs.Splits.{same_place}
use Rattle.tv_strategy.proofs.PlaceLemmas.{same-equal, same-itself}
use Rattle.tv_matching.specs.Items.{Bound, Item, Kind, Stopped, closes, ends, known_items, passes}
use Rattle.tv_matching.specs.Matchers.{Outcome, fault_at, job_at, list_at}
use Rattle.tv_matching.specs.Told.{Told}
use Rattle.tv_matching.proofs.Members.{in-permutes}
use Rattle.tv_matching.proofs.Onces.{known-once}
use Rattle.tv_model.specs.instance.ByResults.{InstanceStep, Results}
use Rattle.tv_model.specs.instance.Events as events
use Rattle.tv_model.specs.instance.Events.{Event, Events, event_place, event_step, fault_set, gave, gives_at, has_result, is_spot, is_taken, known_by, takes_at, took}
use Rattle.tv_model.specs.instance.Legality.{AreLegal, IsLegalNext}
use Rattle.tv_framing.specs.instances.InHistory.{Finds}
use Rattle.tv_framing.proofs.Arriving.{extends-parts}
use Rattle.tv_framing.proofs.Frames.{in-finds, legal-known, steps-distinct, after-more}
use Rattle.tv_framing.proofs.Ports.{known-or_gained}
use Rattle.tv_framing.proofs.Possible.{some-possible}
use Rattle.tv_framing.specs.Frames.{with_event}
use Rattle.tv_framing.specs.Gaining.{gained_items}
use Rattle.tv_framing.specs.Views.{View, steps_with}
use Rattle.tv_framing.specs.matches.Items.{standing, standing_kind, unnamed}
use Rattle.tv_framing.specs.matches.Stated.{IsBrought}
use Rattle.tv_framing.specs.matches.Steps.{IsStepAt}
use Rattle.tv_match.specs.Stated.{outcome_place}
use Rattle.tv_framing.proofs.matches.LawLemmas.{flows-stay, outcomes-are_known}
use Rattle.tv_framing.proofs.matches.Settling.{event-step}
use Rattle.tv_framing.proofs.matches.Waiting.{outcomes-once}

-- the event is of the job that stands there: it runs, or gave
abbrev is_of_job : Name → Place → Event → Bool
is_of_job s q e = gives_at s q e || takes_at s q e

own-place : (s : Name) (q : Place) (e : Event) → is_of_job s q e ≡ true → (same_name s (event_step e) ≡ true) × (q ≡ event_place e)
own-place s q (gave t r vs) h = on_or (is_spot s q t r) false h (λ k. let p = and_parts (same_name s t) (same_place q r) k in (p.0, same-equal q r p.1)) (λ k. absurd (true≢false (sym k)))
own-place s q (events.closed t r n) h = absurd (true≢false (sym h))
own-place s q (fault_set t r d) h = absurd (true≢false (sym h))
own-place s q (took t r) h = let p = and_parts (same_name s t) (same_place q r) h in (p.0, same-equal q r p.1)

-- ---- where one was told of it, the job was known

module _ (instance : JobName) (fs : List InstanceStep) (f : InstanceStep) (self : Finds fs f) (q : Place) where
  abbrev KnownAt : Events → Type 0
  KnownAt es = (x : Item Bound Stopped) × In x (known_items (known_by instance es) f.step.iteration) × (x.place ≡ q)

  still-known : (e : Event) (es : Events) → KnownAt es → KnownAt (e ∷ es)
  still-known e es h = (
    h.0,
    in-permutes h.0 (known_items (known_by instance (e ∷ es)) f.step.iteration) (known_items (known_by instance es) f.step.iteration ++ gained_items (known_by instance es) (known_by instance (e ∷ es)) f.step.iteration)
        (known-or_gained (known_by instance es) (known_by instance (e ∷ es)) (after-more instance e es) f.step.iteration)
        (in-left h.0 (known_items (known_by instance es) f.step.iteration) (gained_items (known_by instance es) (known_by instance (e ∷ es)) f.step.iteration) h.1),
    h.2,
  )

  own-known : (e : Event) (es : Events) → IsLegalNext instance fs es e → is_of_job f.step.step q e ≡ true → KnownAt es
  own-known e es h k =
      let p = own-place f.step.step q e k in
      let w = legal-known instance fs f self es e p.0 h in
      (w.0, w.1, w.2 ∙ sym p.1)

  job-known : (e : Event) (es : Events) → IsLegalNext instance fs es e → AreLegal instance fs es → list_any (is_of_job f.step.step q) (e ∷ es) ≡ true → KnownAt es
  job-known e [] h l k = on_or (is_of_job f.step.step q e) false k (own-known e [] h) (λ g. absurd (true≢false (sym g)))
  job-known e (d ∷ es) h l k = on_or (is_of_job f.step.step q e) (list_any (is_of_job f.step.step q) (d ∷ es)) k (own-known e (d ∷ es) h) (λ g. still-known d es (job-known d es l.0 l.1 g))

-- ---- what is brought wasn't known

abbrev one_at : Place → Outcome → ℕ
one_at q o = cond (same_place q (outcome_place o)) 1 0

some-here : (q : Place) (o : Outcome) (os : List Outcome) → In o os → outcome_place o ≡ q → 1 ≤ sum_by (one_at q) os
some-here q o [] i e = absurd i
some-here q o (u ∷ os) (inl h) e =
    let one : one_at q u ≡ 1 = ap (one_at q) (sym h) ∙ ap (λ r. cond (same_place q r) 1 0) e ∙ ap (λ b. cond b 1 0) (same-itself q) in
    let s = sum_by-cons (one_at q) u os in
    first (one_at q u) (sum_by (one_at q) os) (sum_by (one_at q) (u ∷ os)) one s
  where
    first : (a b c : ℕ) → a ≡ 1 → c ≡ a + b → 1 ≤ c
    first a b c h k = omega arith
some-here q o (u ∷ os) (inr h) e =
    later (one_at q u) (sum_by (one_at q) os) (sum_by (one_at q) (u ∷ os)) (some-here q o os h e) (sum_by-cons (one_at q) u os)
  where
    later : (a b c : ℕ) → 1 ≤ b → c ≡ a + b → 1 ≤ c
    later a b c h k = omega arith

place-standing : (x : Item Bound Stopped) (o : Outcome) → standing x ≡ unnamed o → outcome_place o ≡ x.place
place-standing x o h = sym (of-outcome o) ∙ ap outcome_place (sym h) ∙ of-item x.place x.kind
  where
    of-outcome : (u : Outcome) → outcome_place (unnamed u) ≡ outcome_place u
    of-outcome (job_at q) = refl
    of-outcome (list_at q n) = refl
    of-outcome (fault_at q l) = refl

    of-item : (q : Place) (k : Kind Bound Stopped) → outcome_place (standing_kind q k) ≡ q
    of-item q (ends b) = refl
    of-item q (closes n) = refl
    of-item q (passes g) = refl

two : (a b c : ℕ) → 1 ≤ a → 1 ≤ b → c ≡ a + b → c ≤ 1 → ⊥
two a b c h k l m = omega arith

none-of : (s : Name) (q : Place) (es : Events) → list_any (is_of_job s q) es ≡ false → (has_result es s q ≡ false) × (is_taken es s q ≡ false)
none-of s q [] h = (refl, refl)
none-of s q (e ∷ es) h =
    let a = or_parts (is_of_job s q e) (list_any (is_of_job s q) es) h in
    let b = or_parts (gives_at s q e) (takes_at s q e) a.0 in
    let r = none-of s q es a.1 in
    (ap (λ c. c || has_result es s q) b.0 ∙ r.0, ap (λ c. c || is_taken es s q) b.1 ∙ r.1)

-- an item that was known stands in what came out before, so no job is brought at its place
not-twice :
    (instance : JobName) (f : InstanceStep) (es later : Events) (os brought : List Outcome) (q : Place)
    (x : Item Bound Stopped) → In x (known_items (known_by instance es) f.step.iteration) → x.place ≡ q
    → IsPermutation (map unnamed os) (map standing (known_items (known_by instance es) f.step.iteration))
    → IsPermutation (map unnamed (os ++ brought)) (map standing (known_items (known_by instance later) f.step.iteration))
    → In (job_at q) brought → ⊥
not-twice instance f es later os brought q x i at stand there job =
    let xs = known_items (known_by instance es) f.step.iteration in
    let o = of-map unnamed (standing x) os (in-permutes (standing x) (map unnamed os) (map standing xs) stand (in-map standing x xs i)) in
    let once = outcomes-once (os ++ brought) (known_items (known_by instance later) f.step.iteration) there (λ r. known-once (known_by instance later) r f.step.iteration) q in
    two (sum_by (one_at q) os) (sum_by (one_at q) brought) (sum_by (one_at q) (os ++ brought)) (found o.0 o.1 o.2) (some-here q (job_at q) brought job refl) (sum_by-append (one_at q) os brought) once
  where
    found : (o : Outcome) → In o os → standing x ≡ unnamed o → 1 ≤ sum_by (one_at q) os
    found o j e = some-here q o os j (place-standing x o e ∙ at)

module _ (flows : List (Name × Flow)) (levels : Name → ℕ) (v : View) (e : Event) (told after : ℕ → List Told) (os brought : ℕ → List Outcome) (b : IsBrought flows levels v e told after os brought) (n : ℕ) (s : Name × Step) (at : IsStepAt v n s) (q : Place) (i : In (job_at q) (brought n)) where
  -- the event that tells of the job, if there is one, tells of a step that is there
  any-step : (instance : JobName) (fs : List InstanceStep) (d : Event) (es : Events) → IsLegalNext instance fs es d → AreLegal instance fs es → list_any (is_of_job s.0 q) (d ∷ es) ≡ true → (f : InstanceStep) × In f fs × (f.step.step ≡ s.0)
  any-step instance fs d [] h l k =
      on_or (is_of_job s.0 q d) false k
      (λ g. let f = event-step instance fs [] d h in (f.0, f.1, f.2 ∙ sym ((bytes_decides s.0 (event_step d)).0 (own-place s.0 q d g).0)))
      (λ g. absurd (true≢false (sym g)))
  any-step instance fs d (c ∷ es) h l k =
      on_or (is_of_job s.0 q d) (list_any (is_of_job s.0 q) (c ∷ es)) k
      (λ g. let f = event-step instance fs (c ∷ es) d h in (f.0, f.1, f.2 ∙ sym ((bytes_decides s.0 (event_step d)).0 (own-place s.0 q d g).0)))
      (λ g. any-step instance fs c es l.0 l.1 g)

  not-told : list_any (is_of_job s.0 q) (e ∷ v.events) ≡ true → ⊥
  not-told k =
      let r = some-possible (with_event v e []) [] b.next.given in
      let results : Results = r.0 in
      let fs = steps_with v [] results in
      let old = (extends-parts results e v.events r.2).1 in
      let next = b.next.legal [] results r.1 r.2 in
      let legal = b.next.frame.legal [] results r.1 old in
      let f = any-step [] fs e v.events next legal k in
      let self = in-finds fs (steps-distinct v [] results) f.0 f.1 in
      let known = job-known [] fs f.0 self q e v.events next legal (subst (λ t. list_any (is_of_job t q) (e ∷ v.events) ≡ true) (sym f.2) k) in
      let stand = outcomes-are_known flows levels v b.of_flow n s at (told n) (os n) (b.before_it n s at) [] results r.1 old f.0 f.1 f.2 in
      let there = outcomes-are_known flows levels (with_event v e []) (flows-stay flows levels v b.of_flow e []) n s at (after n) (os n ++ brought n) (b.after_it n s at) [] results r.1 r.2 f.0 f.1 f.2 in
      not-twice [] f.0 v.events (e ∷ v.events) (os n) (brought n) q known.0 known.1 known.2 stand there i

  pub new-untold : (has_result (e ∷ v.events) s.0 q ≡ false) × (is_taken (e ∷ v.events) s.0 q ≡ false)
  new-untold = none-of s.0 q (e ∷ v.events) (on_test (list_any (is_of_job s.0 q) (e ∷ v.events)) (λ k. absurd (not-told k)) (λ k. k))
