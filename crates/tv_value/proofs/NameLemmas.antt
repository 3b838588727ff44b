-- The same names.
use Rattle.std.specs.Prelude.{◌≡◌, [], ◌∷◌, refl, true}
use Rattle.std.specs.Cmp.Lexicographic.{bytes_decides}
use Rattle.std.proofs.lemmas.Cmp.{nat_list_eq_equiv}
use Rattle.std.proofs.lemmas.Bool.{eqb-true, and_parts}
use Rattle.tv_value.specs.Orders.{same_name}
use Rattle.tv_value.specs.Values.{Name}

pub same_name-refl : (n : Name) → same_name n n ≡ true
same_name-refl n = (bytes_decides n n).1 refl

pub same_name-is : (n m : Name) → same_name n m ≡ true → n ≡ m
same_name-is [] [] e = refl
same_name-is [] (y ∷ ys) e = cc
same_name-is (x ∷ xs) [] e = cc
same_name-is (x ∷ xs) (y ∷ ys) e =
    let h = and_parts _ _ e in
    let p : x ≡ y = eqb-true x y h.0 in
    let q : xs ≡ ys = same_name-is xs ys h.1 in
    cc

pub same_name-sym : (n m : Name) → same_name n m ≡ same_name m n
same_name-sym n m = nat_list_eq_equiv.symm n m
