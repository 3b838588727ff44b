-- One-item lists.
use Rattle.std.specs.Prelude.{◌≡◌, refl, ℕ, zero, suc, ◌+◌, ◌++◌, replicate}
use Rattle.std.specs.List.{list_any}
use Rattle.std.proofs.Common.{ap, ◌∙◌}
use Rattle.std.proofs.lemmas.List.{append-nil}
use Rattle.tv_value.specs.Nested.{Place, at, leaves}
use Rattle.tv_value.specs.Values.{Value, is_fault, holds_fault}
use Rattle.tv_binding.specs.Delivered.{wrapped_value}
use Rattle.tv_binding.specs.Stated.{WrappingKeeps}

inside : (n : ℕ) (v : Value) (q : Place) → at (wrapped_value n v) (replicate n 0 ++ q) ≡ at v q
inside zero v q = refl
inside (suc n) v q = inside n v q

wrapped-faults : (n : ℕ) (v : Value) → holds_fault (wrapped_value n v) ≡ holds_fault v
wrapped-faults zero v = refl
wrapped-faults (suc n) v = ap (list_any is_fault) (append-nil (leaves (wrapped_value n v))) ∙ wrapped-faults n v

pub wrapping-keeps : WrappingKeeps
wrapping-keeps = record { inside = inside; faults = wrapped-faults }
