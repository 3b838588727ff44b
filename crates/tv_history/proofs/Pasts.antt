-- Names by numbers where there are more of them, and tests that an optional thing passes.
use Rattle.std.specs.Prelude.{List, None, Option, Some, [], is_some, length, nat_lt, option_and_then, refl, slice_get, suc, true, unwrap_or, zero, ℕ, ◌++◌, ◌<◌, ◌∷◌, ◌≡◌}
use Rattle.std.proofs.Common.{ap, arith}
use Rattle.std.proofs.lemmas.Bool.{ltb-true}
use Rattle.tv_value.specs.Values.{JobName}
use Rattle.tv_history.specs.Runs.{name_at}

pub get-more : {A : Type 0} (xs ys : List A) (k : ℕ) → k < length xs → slice_get (xs ++ ys) k ≡ slice_get xs k
get-more [] ys k h = absurd (omega arith)
get-more (x ∷ xs) ys zero h = refl
get-more (x ∷ xs) ys (suc k) h = get-more xs ys k (omega arith)

pub name-more : (ns ms : List JobName) (k : ℕ) → nat_lt k (length ns) ≡ true → name_at (ns ++ ms) k ≡ name_at ns k
name-more ns ms k h = ap (λ o. unwrap_or o []) (get-more ns ms k (ltb-true k (length ns) h))

pub and-some : {A B : Type 0} (f : A → Option B) (o : Option A) → is_some (option_and_then f o) ≡ true → is_some o ≡ true
and-some f None h = h
and-some f (Some x) h = refl
