-- The steps taken one by one.
use Rattle.std.specs.Prelude.{◌≡◌, ℕ, zero, suc, ◌+◌, ◌<◌, Bool, List, [], ◌∷◌, drop, length, slice_index, if◌then◌else◌}
use Rattle.std.specs.Option.{option_or}
use Rattle.std.proofs.Common.{arith, ap, ◌∙◌}
use Rattle.std.proofs.lemmas.Bool.{eq-eqb, ne_eqb}
use Rattle.tv_idle.specs.Idles.{StepIdle}
use Rattle.tv_telling.specs.endings.Turns.{first_of_step_after, first_of_steps, first_of_steps_after}

next : (n : ℕ) → suc (n + 1) ≡ suc n + 1
next n = omega arith

module _ (may : ℕ → Bool) (ss : List StepIdle) (s : ℕ) (q : List ℕ) where
  -- at the step itself
  pub found : (order : List ℕ) (at : ℕ) → at < length order → slice_index order at ≡ s
      → first_of_steps_after may ss s q (drop at order) ≡ option_or (first_of_step_after may ss q s) (first_of_steps may ss (drop (at + 1) order))
  found [] at l e = absurd (omega arith)
  found (k ∷ ks) zero l e =
      ap (λ b. if b then option_or (first_of_step_after may ss q k) (first_of_steps may ss ks) else first_of_steps_after may ss s q ks) (eq-eqb k s e)
      ∙ ap (λ n. option_or (first_of_step_after may ss q n) (first_of_steps may ss ks)) e
  found (k ∷ ks) (suc at) l e = found ks at (omega arith) e ∙ ap (λ n. option_or (first_of_step_after may ss q s) (first_of_steps may ss (drop n (k ∷ ks)))) (next at)

  -- at another
  pub passed : (order : List ℕ) (at : ℕ) → at < length order → (slice_index order at ≡ s → ⊥)
      → first_of_steps_after may ss s q (drop at order) ≡ first_of_steps_after may ss s q (drop (at + 1) order)
  passed [] at l e = absurd (omega arith)
  passed (k ∷ ks) zero l e =
      ap (λ b. if b then option_or (first_of_step_after may ss q k) (first_of_steps may ss ks) else first_of_steps_after may ss s q ks) (ne_eqb k s e)
  passed (k ∷ ks) (suc at) l e = passed ks at (omega arith) e ∙ ap (λ n. first_of_steps_after may ss s q (drop n (k ∷ ks))) (next at)
