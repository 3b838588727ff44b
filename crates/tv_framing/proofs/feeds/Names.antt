-- What stands at a name, and members of lists by their numbers.
use Rattle.std.specs.Prelude.{◌≡◌, refl, suc, Bool, true, false, if◌then◌else◌, is_some, List, [], ◌∷◌, Some, slice_get}
use Rattle.std.proofs.Common.{sym, ap, ◌∙◌}
use Rattle.std.proofs.lemmas.Bool.{true≢false}
use Rattle.tv_value.specs.Orders.{named, same_name}
use Rattle.tv_value.specs.Values.{Name}
use Rattle.tv_naming.specs.Naming.{has_name}
use Rattle.tv_naming.specs.Numbers.{position}
use Rattle.tv_value.proofs.NameLemmas.{same_name-is}

-- what has a name stands at its position
pub record IsNamed {A : Type 0} (n : Name) (xs : List (Name × A)) : Type 0 where
  pub thing : A
  pub here : slice_get xs (position n xs) ≡ Some (n, thing)
  pub named_so : named n xs ≡ Some thing

pub is-named : {A : Type 0} (n : Name) (xs : List (Name × A)) → has_name xs n ≡ true → IsNamed n xs
is-named n [] h = absurd (true≢false (sym h))
is-named {A = A} n (x ∷ xs) h = by (same_name n x.0) refl h (λ k. is-named n xs k)
  where
    by : (b : Bool) → same_name n x.0 ≡ b → is_some (if b then Some x.1 else named n xs) ≡ true → (has_name xs n ≡ true → IsNamed n xs) → IsNamed n (x ∷ xs)
    by true e k rec = record {
      thing = x.1;
      here = ap (λ b. slice_get (x ∷ xs) (if b then 0 else suc (position n xs))) e ∙ ap (λ m. Some (m, x.1)) (sym (same_name-is n x.0 e));
      named_so = ap (λ b. if b then Some x.1 else named n xs) e;
    }
    by false e k rec = let r = rec k in record {
      thing = r.thing;
      here = ap (λ b. slice_get (x ∷ xs) (if b then 0 else suc (position n xs))) e ∙ r.here;
      named_so = ap (λ b. if b then Some x.1 else named n xs) e ∙ r.named_so;
    }
