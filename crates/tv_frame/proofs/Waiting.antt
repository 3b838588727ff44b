-- The lists and passed faults that wait in a frame, and which of them can be settled.
use Rattle.std.specs.Prelude.{◌≡◌, refl, ℕ, ◌-◌, ◌==◌, ◌<◌, Bool, true, false, filter, List, length, Option, Some, None, slice_get}
use Rattle.std.specs.Option.{option_map}
use Rattle.std.proofs.Common.{sym, ap, subst, ◌∙◌, eq-eqb}
use Rattle.std.proofs.lemmas.List.Sorted.{IsPermutation-sym, length_permutation}
use Rattle.std.proofs.lemmas.Option.{none-some, same_Some, slice_get-map}
use Rattle.std.proofs.lemmas.Bool.{not-true}
use Rattle.std.proofs.lemmas.List.{nil_from_length}
use Rattle.tv_lemmas.specs.Members.{In}
use Rattle.tv_lemmas.proofs.Members.{each_in, in-map, of-filter}
use Rattle.tv_lemmas.proofs.Lists.{get-within}
use Rattle.tv_value.specs.Nested.{Place}
use Rattle.tv_value.specs.Values.{Name}
use Rattle.tv_flow.specs.Flows.{Flow, Step}
use Rattle.tv_check.specs.declared.plans.FlowPlan.{FlowPlan}
use Rattle.tv_match.specs.declared.kinds.Kind as kinds
use Rattle.tv_match.specs.Seen.{outcome_kind}
use Rattle.tv_matching.specs.Matchers.{Outcome, fault_at, job_at, list_at}
use Rattle.tv_matching.proofs.Members.{in-permutes}
use Rattle.tv_intake.specs.declared.found.Found.{Found}
use Rattle.tv_intake.specs.Intaken.{followed_in, matcher_at, thing_in, waiting_things}
use Rattle.tv_intake.proofs.IntakeLemmas.{step-within, waiting-there}
use Rattle.tv_outputs.specs.Known.{Nodes}
use Rattle.tv_model.specs.instance.Events.{Event, Events, closed, has_level}
use Rattle.tv_framing.specs.Answers.{CanSettle, NothingSettles}
use Rattle.tv_framing.specs.Views.{View}
use Rattle.tv_framing.specs.matches.Steps.{IsStepAt}
use Rattle.tv_framing.specs.matches.Waiting.{is_waiting, waiting_of}
use Rattle.tv_framing.proofs.matches.LawLemmas.{nothing-settles, waiting_lists-can_settle}
use Rattle.tv_lemmas.proofs.Members.{in-slice as at-in}
use Rattle.tv_lemmas.proofs.Members.{in-filter}
use Rattle.tv_frame.specs.declared.frame.Frame.{Frame}
use Rattle.tv_frame.specs.Calls.{Brings, IsReadyToSettle}
use Rattle.tv_frame.specs.Kept.{Keeps, followed_by, things_of}
use Rattle.tv_frame.specs.Tables.{levels_in}
use Rattle.tv_frame.proofs.Bringing.{told-before, told_by}
use Rattle.tv_frame.proofs.Keeping.{kept-ranked}

-- no job waits
pub jobs-not_wait : (es : Events) (s : Name) (q : Place) (os : List Outcome) → In (job_at q) (waiting_of es s os) → ⊥
jobs-not_wait es s q os h = let w : false ≡ true = (of-filter (is_waiting es s) (job_at q) os h).1 in absurd (cc)

-- a thing that waits, of the step that has this number, and its outcome
pub record IsWaitingAt (f : Frame) (v : View) (n : ℕ) (o : Outcome) : Type 0 where
  pub step : Name × Step
  pub at : IsStepAt v n step
  pub waits : In o (waiting_of v.events step.0 (followed_by (matcher_at f.intakes n)))

module _ (flows : List (Name × Flow)) (plan : FlowPlan) (pool : Nodes) (f : Frame) (v : View) (k : Keeps flows plan pool f v) where
  -- a thing is of a step that there is
  number-there : (at : ℕ) (x : ℕ × Outcome) → slice_get (waiting_things f.intakes) at ≡ Some x → x.0 < length v.flow.steps
  number-there at x e = by (slice_get f.intakes.waiting.items at) refl (sym (slice_get-map (thing_in f.intakes.matchers.items) f.intakes.waiting.items at) ∙ e)
    where
      by : (o : Option Found) → slice_get f.intakes.waiting.items at ≡ o → option_map (thing_in f.intakes.matchers.items) o ≡ Some x → x.0 < length v.flow.steps
      by None g h = absurd (none-some x h)
      by (Some d) g h =
          let ms = f.intakes.matchers.items in
          let here = each_in (λ (y : Found). y.at < length (followed_in ms y.step)) f.intakes.waiting.items (waiting-there ms f.intakes.jobs.items f.intakes.waiting.items k.intaken) d (at-in f.intakes.waiting.items at d g) in
          let within : d.step < length ms = step-within ms d.step d.at here in
          let same : d.step ≡ x.0 = ap (λ (y : ℕ × Outcome). y.0) (same_Some (thing_in ms d) x h) in
          let many = k.as_many in
          subst (λ m. m < length v.flow.steps) same (subst (λ m. d.step < m) many within)

  pub waiting-at : (at : ℕ) (n : ℕ) (o : Outcome) → slice_get (waiting_things f.intakes) at ≡ Some (n, o) → IsWaitingAt f v n o
  waiting-at at n o e =
      let s = get-within v.flow.steps n (number-there at (n, o) e) in
      let here = at-in (waiting_things f.intakes) at (n, o) e in
      let own = in-filter (λ (x : ℕ × Outcome). x.0 == n) (n, o) (waiting_things f.intakes) here (eq-eqb n n refl) in
      let among : In o (things_of n (waiting_things f.intakes)) = in-map (λ (x : ℕ × Outcome). x.1) (n, o) (filter (λ (x : ℕ × Outcome). x.0 == n) (waiting_things f.intakes)) own in
      record {
        step = s.0;
        at = s.1;
        waits = in-permutes o (waiting_of v.events s.0.0 (followed_by (matcher_at f.intakes n))) (things_of n (waiting_things f.intakes)) (IsPermutation-sym (things_of n (waiting_things f.intakes)) (waiting_of v.events s.0.0 (followed_by (matcher_at f.intakes n))) (k.waiting_are n s.0 s.1)) among;
      }

  -- a list that waits can be closed
  pub lists-settle : (n : ℕ) (s : Name × Step) → IsStepAt v n s → (q : Place) (m : ℕ) → In (list_at q m) (waiting_of v.events s.0 (followed_by (matcher_at f.intakes n))) → CanSettle v (closed s.0 q m)
  lists-settle n s at q m w =
      let p = of-filter (is_waiting v.events s.0) (list_at q m) (followed_by (matcher_at f.intakes n)) w in
      waiting_lists-can_settle flows (levels_in v.flow) v (kept-ranked flows plan pool f v k) n s at (told_by (matcher_at f.intakes n)) (followed_by (matcher_at f.intakes n))
      (told-before v s (matcher_at f.intakes n) (k.matchers_are n s at) (k.intaken.sound n)) q m p.0 (not-true (has_level v.events s.0 q) p.1)

  -- where nothing waits, nothing can be settled
  pub none-settles : length (waiting_things f.intakes) ≡ 0 → NothingSettles v
  none-settles none =
      nothing-settles flows (levels_in v.flow) v (kept-ranked flows plan pool f v k) (λ n. told_by (matcher_at f.intakes n)) (λ n. followed_by (matcher_at f.intakes n))
      (λ n s at. told-before v s (matcher_at f.intakes n) (k.matchers_are n s at) (k.intaken.sound n))
      (λ n s at.
      let l = length_permutation (things_of n (waiting_things f.intakes)) (waiting_of v.events s.0 (followed_by (matcher_at f.intakes n))) (k.waiting_are n s at) in
      nil_from_length (waiting_of v.events s.0 (followed_by (matcher_at f.intakes n))) (l ∙ ap (λ xs. length (things_of n xs)) (nil_from_length (waiting_things f.intakes) none)))

-- ---- the last thing

module _ (things : List (ℕ × Outcome)) (at n : ℕ) (q p : Place) (kind : kinds.Kind) (h : slice_get things at ≡ Some (n, outcome_kind q kind)) (same : p ≡ q) where
  pub closed-thing : (m : ℕ) → kind ≡ kinds.Kind.Closed m → slice_get things at ≡ Some (n, list_at p m)
  closed-thing m e = subst (λ y. slice_get things at ≡ Some (n, list_at y m)) (sym same) (subst (λ d. slice_get things at ≡ Some (n, outcome_kind q d)) e h)

  pub passed-thing : (l : ℕ) → kind ≡ kinds.Kind.Passed l → slice_get things at ≡ Some (n, fault_at p l)
  passed-thing l e = subst (λ y. slice_get things at ≡ Some (n, fault_at y l)) (sym same) (subst (λ d. slice_get things at ≡ Some (n, outcome_kind q d)) e h)

  pub job-thing : (b : Bool) → kind ≡ kinds.Kind.Job b → slice_get things at ≡ Some (n, job_at p)
  job-thing b e = subst (λ y. slice_get things at ≡ Some (n, job_at y)) (sym same) (subst (λ d. slice_get things at ≡ Some (n, outcome_kind q d)) e h)

pub last-thing : (things later : List (ℕ × Outcome)) (count : ℕ) (x : ℕ × Outcome) → later ≡ things → count ≡ length things → slice_get things (count - 1) ≡ Some x → slice_get later (length later - 1) ≡ Some x
last-thing things later count x e many h =
    subst (λ ts. slice_get ts (length ts - 1) ≡ Some x) (sym e) (subst (λ c. slice_get things (c - 1) ≡ Some x) many h)

-- ---- ready to settle some event

abbrev pub SettlesSome : List (Name × Flow) → FlowPlan → Nodes → Frame → View → ℕ → Type 0
SettlesSome flows plan pool f v jobs =
    (n : ℕ) × (s : Name × Step) × (e : Event) × IsReadyToSettle flows plan pool f v n s e × CanSettle v e × Brings v e jobs

pub settles-same : (flows : List (Name × Flow)) (plan : FlowPlan) (v : View) (pool pool1 : Nodes) (f f1 : Frame) (jobs jobs1 : ℕ) → pool ≡ pool1 → f ≡ f1 → jobs ≡ jobs1 → SettlesSome flows plan pool1 f1 v jobs1 → SettlesSome flows plan pool f v jobs
settles-same flows plan v pool pool1 f f1 jobs jobs1 a b c h =
    subst (λ p. SettlesSome flows plan p f v jobs) (sym a) (subst (λ g. SettlesSome flows plan pool1 g v jobs) (sym b) (subst (λ j. SettlesSome flows plan pool1 f1 v j) (sym c) h))

pub keeps-same : (flows : List (Name × Flow)) (plan : FlowPlan) (v : View) (pool pool1 : Nodes) (f f1 : Frame) → pool ≡ pool1 → f ≡ f1 → Keeps flows plan pool1 f1 v → Keeps flows plan pool f v
keeps-same flows plan v pool pool1 f f1 a b h = subst (λ p. Keeps flows plan p f v) (sym a) (subst (λ g. Keeps flows plan pool1 g v) (sym b) h)
