-- At a quiet step of an open instance nothing is found.
use Rattle.std.specs.Prelude.{◌≡◌, ◌||◌, refl, ℕ, Bool, true, false, None, Some, not}
use Rattle.std.proofs.Common.{sym, ◌∙◌}
use Rattle.std.proofs.lemmas.Bool.{false_from_ne_true}
use Rattle.tv_lemmas.proofs.Cases.{on_either}
use Rattle.tv_gate.specs.Outcomes.{Giving}
use Rattle.tv_model.specs.Jobs.{Job}
use Rattle.tv_model.proofs.Tests.{true≠false}
use Rattle.tv_check.specs.RunViews.{run_view}
use Rattle.tv_instances.specs.FramingViews.{View}
use Rattle.tv_seats.specs.Seats.{Seat}
use Rattle.tv_seats.specs.Stages.{is_aside, is_idle, is_nested}
use Rattle.tv_instances.specs.Forest.{Instance, Instances, IsAt, IsJobAt}
use Rattle.tv_instances.specs.Quiet.{IsQuietSeat, IsQuietStep}
use Rattle.tv_instances.specs.declared.firsts.Seeking.{Seeking}
use Rattle.tv_instances.proofs.Quiet.{begun-unready}
use Rattle.tv_run.specs.Standing.{Stands}
use Rattle.tv_run.specs.Walking.{IsFoundOf, passes}
use Rattle.tv_run.specs.declared.run.OpenRun.{OpenRun}
use Rattle.tv_run.proofs.WalkGoing.{passes-by}
use Rattle.tv_run.proofs.WalkOpen.{step-there}
use Rattle.tv_run.proofs.WalkSteps.{nothing-at}

none-nested : (a b c : Bool) → not (a || b || c) ≡ true → c ≡ false
none-nested true b c h = absurd (true≠false (sym h))
none-nested false true c h = absurd (true≠false (sym h))
none-nested false false true h = absurd (true≠false (sym h))
none-nested false false false h = refl

none-idle : (a b c : Bool) → not (a || b || c) ≡ true → a ≡ false
none-idle true b c h = absurd (true≠false (sym h))
none-idle false b c h = refl

none-aside : (a b c : Bool) → not (a || b || c) ≡ true → b ≡ false
none-aside true b c h = absurd (true≠false (sym h))
none-aside false true c h = absurd (true≠false (sym h))
none-aside false false c h = refl

module _ (gives : Giving) (r : OpenRun) (xs : Instances) (st : Stands gives r xs) (i : ℕ) (x : Instance) (v : View)
    (at : IsAt xs i x) (told : x.view ≡ Some v) (k : Seeking) (step : ℕ) (quiet : IsQuietStep v x.seats step) where
  passes-not : (n : ℕ) (s : Seat) (j : Job) → IsJobAt gives (run_view r.run) xs i n x s j → IsQuietSeat v s
      → passes gives r k j ≡ false
  passes-not n s j it q =
      false_from_ne_true (passes gives r k j)
      (λ h.
      let t = step-there gives r xs st i x v at told n s it.seat in
      on_either (passes-by gives r xs st i x v at told n s j it t.0 t.1 k h)
      (λ e. true≠false (sym e ∙ none-idle (is_idle s.stage) (is_aside s.stage) (is_nested s.stage) q.calm))
      (λ w.
      on_either w
      (λ e. true≠false (sym e.1 ∙ none-aside (is_idle s.stage) (is_aside s.stage) (is_nested s.stage) q.calm))
      (λ c. begun-unready v s c.1.1 q.begun)))

  pub none-quiet : IsFoundOf gives r xs k i x step None
  none-quiet n s j it e =
      let q = quiet n s it.seat e in
      nothing-at gives r xs st i x v at told k step n s j it
      (none-nested (is_idle s.stage) (is_aside s.stage) (is_nested s.stage) q.calm) (passes-not n s j it q)
