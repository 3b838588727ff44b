-- A job of which a try is out: what it asks next, and the stage of its seat.
use Rattle.std.specs.Option.{option_map_or}
use Rattle.std.specs.Prelude.{◌≡◌, refl, ℕ, ◌==◌, ◌&&◌, Bool, true, false, if◌then◌else◌, None, Option, Some}
use Rattle.std.proofs.Common.{ap, eqb-true, subst, sym, ◌∙◌}
use Rattle.std.proofs.lemmas.Option.{none-some, same_Some}
use Rattle.std.specs.Cmp.{first_so, second_so}
use Rattle.tv_dispatch.specs.Jobs.{Ask}
use Rattle.tv_model.specs.Jobs.{Job}
use Rattle.tv_model.proofs.Tests.{true≠false}
use Rattle.tv_history.specs.Entries.{History, is_out}
use Rattle.tv_history.specs.Histories.{is_ask, next_ask}
use Rattle.tv_seats.specs.declared.stage.Stage.{Stage}
use Rattle.tv_seats.specs.declared.stage.Stage.TheVariants as stage
use Rattle.tv_instances.specs.seats.Seated.{IsStage}
use Rattle.tv_history.specs.Calls.{try_out}

is_ask-parts : (a u : ℕ) (k : Ask) → is_ask a u k ≡ true → (a ≡ k.activity) × (u ≡ k.attempt)
is_ask-parts a u k h = (
  eqb-true a k.activity (first_so (a == k.activity) (u == k.attempt) h),
  eqb-true u k.attempt (second_so (a == k.activity) (u == k.attempt) h),
)

-- the try is out, and is what the job asks next
pub record IsTryOut (past : History) (a u : ℕ) (j : Job) (k : Ask) : Type 0 where
  pub out : is_out past j.name ≡ true
  pub asks : next_ask past j ≡ Some k
  pub activity : k.activity ≡ a
  pub attempt : k.attempt ≡ u

module _ (past : History) (a u : ℕ) (j : Job) (k : Ask) where
  pub try_out-parts : try_out past a u j ≡ Some k → IsTryOut past a u j k
  try_out-parts h = by (is_out past j.name) refl (next_ask past j) refl h
    where
      found : (x : Ask) → is_out past j.name ≡ true → next_ask past j ≡ Some x → (b : Bool) → is_ask a u x ≡ b
          → (if b then Some x else None) ≡ Some k → IsTryOut past a u j k
      found x o p true q e =
          let s = same_Some x k e in
          let parts = is_ask-parts a u k (subst (λ y. is_ask a u y ≡ true) s q) in
          record { out = o; asks = p ∙ e; activity = sym parts.0; attempt = sym parts.1 }
      found x o p false q e = absurd (none-some k e)

      by : (b : Bool) → is_out past j.name ≡ b → (o : Option Ask) → next_ask past j ≡ o
          → (if b && option_map_or (is_ask a u) o false then o else None) ≡ Some k → IsTryOut past a u j k
      by false o n q e = absurd (none-some k e)
      by true o None q e = absurd (none-some k e)
      by true o (Some x) q e = found x o q (is_ask a u x) refl e

-- the stage of a job of which a try is out
pub out-stage : (past : History) (j : Job) (x : Stage) (a u : ℕ) (k : Ask) → IsStage past j x
    → IsTryOut past a u j k → x ≡ stage.Out a u
out-stage past j stage.Waiting a u k h o = absurd (true≠false (sym o.out ∙ h.is_out))
out-stage past j (stage.Out b w) a u k h o =
    let mine = is_ask-parts b w k (ap (λ y. option_map_or (is_ask b w) y false) (sym o.asks) ∙ h.1) in
    λ i. stage.Out ((mine.0 ∙ o.activity) i) ((mine.1 ∙ o.attempt) i)
out-stage past j (stage.Idle b w) a u k h o = absurd (true≠false (sym o.out ∙ h.0.is_out))
out-stage past j (stage.Aside b) a u k h o = absurd (true≠false (sym o.out ∙ h.0.is_out))
out-stage past j (stage.Nested i) a u k h o = absurd (true≠false (sym o.out ∙ h.is_out))
out-stage past j stage.Settled a u k h o = absurd (true≠false (sym o.out ∙ h.1))
