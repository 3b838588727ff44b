-- What is said of a known job, whether it binds a value that holds a fault, doesn't change with more tellings.
use Rattle.std.specs.Prelude.{◌≡◌, refl, ℕ, ◌<◌, List, [], length, Option, Some, None, get_or, slice_get}
use Rattle.std.proofs.Common.{sym, ap, subst, ◌∙◌, arith}
use Rattle.std.proofs.lemmas.List.{get_or_default}
use Rattle.tv_lemmas.specs.Members.{Each}
use Rattle.tv_lemmas.proofs.Members.{each_in}
use Rattle.tv_value.specs.Nested.{Place}
use Rattle.tv_value.specs.Views.{strategy_view}
use Rattle.tv_lemmas.proofs.Cases.{on_test}
use Rattle.tv_matching.specs.Matchers.{job_at}
use Rattle.tv_matching.specs.Told.{faulty_at}
use Rattle.tv_match.specs.declared.matchers.Matcher.{Matcher}
use Rattle.tv_match.specs.Entries.{entry_at}
use Rattle.tv_match.specs.Filed.{filed}
use Rattle.tv_match.specs.Seen.{in_order, matching, outcome_kind}
use Rattle.tv_match.proofs.Faults.{in-order_within, item-faulty, item-out}
use Rattle.tv_match.proofs.FaultsAhead.{ahead-faulty}
use Rattle.tv_intake.specs.declared.found.Found.{Found}
use Rattle.tv_intake.specs.declared.intakes.Intakes.{Intakes}
use Rattle.tv_intake.specs.Intaken.{AreIntaken, CanShow, IsMadeAt, IsSoundAt, followed_in, known_jobs, matcher_at, placed, thing_in}
use Rattle.tv_match.specs.Stated.{outcome_place}
use Rattle.tv_intake.specs.Sorting.{faulty_ahead}
use Rattle.tv_intake.proofs.IntakeLemmas.{ahead-longer, jobs-there, place-kept, step-within}
use Rattle.tv_spread.specs.Spreads.{MakeAll, faulty_now_at}
use Rattle.tv_spread.proofs.Showing.{made-faulty}
use Rattle.tv_lemmas.proofs.Members.{in-slice as at-in}
use Rattle.tv_lemmas.proofs.Lists.{of-image}
use Rattle.tv_frame.specs.Kept.{followed_by}
use Rattle.tv_frame.specs.Prepared.{is_one_of}
use Rattle.tv_frame.proofs.Shown.{made-at, same-at}
use Rattle.tv_frame.proofs.ShownLists.{one-each}

-- ---- one step

flag-stays : (m : Matcher) → IsSoundAt (Some m) → CanShow (Some m) → (i : ℕ) → i < length (in_order m) → (q : Place) → outcome_place (get_or (in_order m) i (job_at [])) ≡ q → faulty_ahead m q ≡ faulty_at (matching m).strategy (matching m).told q
flag-stays m a can i l q e =
    let s = strategy_view m.tree in
    let x = entry_at m.out i in
    let w = in-order_within s m.mismatch (filed m.root) m.log m.out m.told m.given a.keeps i l in
    let o = outcome_kind x.place x.kind in
    let item = item-out s m.mismatch (filed m.root) m.log m.out m.told m.given a.keeps i w.0 x.kind x.place refl refl in
    let place : q ≡ x.place = sym e ∙ ap outcome_place (get_or_default (in_order m) i (job_at []) o l ∙ item) ∙ place-kept x.place x.kind in
    let longer = ahead-longer m in
    sym (ahead-faulty m a can i (omega (arith, l, longer)) x.kind q refl place)
    ∙ item-faulty s m.mismatch (filed m.root) m.log m.out m.told m.given a.keeps i w.0 x.kind q refl place

stays-at : (o p : Option Matcher) → IsMadeAt o p → IsSoundAt o → CanShow o → (at : ℕ) (q : Place) → at < length (followed_by o) → outcome_place (get_or (followed_by o) at (job_at [])) ≡ q → faulty_now_at p q ≡ faulty_now_at o q
stays-at None p h a can at q l e = absurd h
stays-at (Some m) p h a can at q l e = made-faulty (Some m) p h q ∙ flag-stays m a can at l q e

-- ---- all steps

module _ (cs : List ℕ) (i j : Intakes) (made : MakeAll cs i j) (sound : AreIntaken i) (can : Each (λ c. CanShow (matcher_at i c)) cs) (p n : ℕ) (q : Place) (there : slice_get (known_jobs i) p ≡ Some (n, q)) where
  abbrev ms : List Matcher
  ms = i.matchers.items

  found : (x : Found) × (slice_get i.jobs.items p ≡ Some x) × (placed (thing_in ms x) ≡ (n, q))
  found = of-image (λ (x : Found). placed (thing_in ms x)) i.jobs.items p (n, q) there

  same-step : found.0.step ≡ n
  same-step = ap (λ (y : ℕ × Place). y.0) found.2

  item-within : found.0.at < length (followed_in ms n)
  item-within =
      subst (λ d. found.0.at < length (followed_in ms d)) same-step
      (each_in (λ (x : Found). x.at < length (followed_in ms x.step)) i.jobs.items (jobs-there ms i.jobs.items i.waiting.items sound) found.0 (at-in i.jobs.items p found.0 found.1))

  pub known-within : n < length ms
  known-within = step-within ms n found.0.at item-within

  its-place : outcome_place (get_or (followed_in ms n) found.0.at (job_at [])) ≡ q
  its-place =
      ap (λ d. outcome_place (get_or (followed_in ms d) found.0.at (job_at []))) (sym same-step)
      ∙ ap (λ (y : ℕ × Place). y.1) found.2

  -- what is said of it stays
  pub flag-kept : faulty_now_at (matcher_at j n) q ≡ faulty_now_at (matcher_at i n) q
  flag-kept =
      on_test (is_one_of cs n)
      (λ h. stays-at (matcher_at i n) (matcher_at j n) (made-at cs i j made n h) (sound.sound n) (one-each (λ c. CanShow (matcher_at i c)) cs n can h) found.0.at q item-within its-place)
      (λ h. ap (λ o. faulty_now_at o q) (same-at cs i j made n h))
