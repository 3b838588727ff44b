-- What the calls that note jobs and share parts give.
use Rattle.std.specs.Prelude.{◌≡◌, ℕ, ◌-◌, suc, Option, Some, None, option_map, Result, Ok, Err, OnOk}
use Rattle.std.proofs.Common.{arith, sym, ap, subst, ◌∙◌}
use Rattle.tv_value.specs.Nested.{Place}
use Rattle.tv_lineage.specs.Kept.{Kept}
use Rattle.tv_frame.specs.Levels as levels
use Rattle.tv_frame.specs.Levels.{came, closed}
use Rattle.tv_frame.specs.Views.{what_view}
use Rattle.tv_frame.specs.declared.level.What.{What}
use Rattle.tv_traces.specs.OfNodes.{IsBuilt, Telling}

pub both-ok : {T E P Q R : Type 0} (r : Result T E) → (P → Q → R) → OnOk r P → OnOk r Q → OnOk r R
both-ok (Ok x) f h k = f h k
both-ok (Err e) f h k = tt

-- what was told, as the code has it
pub told-is : (o : Option What) (w : What) (told : Option levels.What) → o ≡ Some w → option_map what_view o ≡ told → told ≡ Some (what_view w)
told-is o w told e f = sym f ∙ ap (option_map what_view) e

pub told-none : (o : Option What) (told : Option levels.What) → o ≡ None → option_map what_view o ≡ told → told ≡ None
told-none o told e f = sym f ∙ ap (option_map what_view) e

pub next-level : (n : ℕ) → (n ≡ 0 → ⊥) → suc (n - 1) ≡ n
next-level n h = omega (arith, h)

pub at-level : (t : Telling) (m n : ℕ) (q r : Place) (old new : Kept) (u : Rattle.tv_traces.specs.Shapes.Shape) → m ≡ n → r ≡ q → IsBuilt t m r old new u → IsBuilt t n q old new u
at-level t m n q r old new u e f h = subst (λ k. IsBuilt t k q old new u) e (subst (λ p. IsBuilt t m p old new u) f h)
