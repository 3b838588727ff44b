-- Members of lists, by number, by a test or by a name.
use Rattle.std.specs.Prelude.{◌≡◌, refl, Bool, true, false, if◌then◌else◌, List, [], ◌∷◌, Some}
use Rattle.std.specs.Cmp.Lexicographic.{bytes_decides}
use Rattle.std.proofs.Common.{sym, ap₂, inl, inr}
use Rattle.std.proofs.lemmas.Option.{none-some, same_Some}
use Rattle.tv_lemmas.specs.Members.{In}
use Rattle.tv_value.specs.Orders.{named, same_name}
use Rattle.tv_value.specs.Values.{Name}

pub named-in : {A : Type 0} (n : Name) (xs : List (Name × A)) (a : A) → named n xs ≡ Some a → In (n, a) xs
named-in n [] a e = absurd (none-some a e)
named-in {A} n (x ∷ xs) a e = by (same_name n x.0) refl e (named-in n xs a)
  where
    by : (b : Bool) → same_name n x.0 ≡ b → (if b then Some x.1 else named n xs) ≡ Some a → (named n xs ≡ Some a → In (n, a) xs) → In (n, a) (x ∷ xs)
    by true t f rec = inl (ap₂ (λ (m : Name) (z : A). (m, z)) ((bytes_decides n x.0).0 t) (sym (same_Some x.1 a f)))
    by false t f rec = inr (rec f)
