-- Lists of names with numbers that are told to be the same are equal.
use Rattle.std.specs.Prelude.{◌≡◌, ℕ, ◌&&◌, ◌==◌, Bool, true, List}
use Rattle.std.specs.Cmp.Lexicographic.{bytes_decides, pointwise, pointwise_decides}
use Rattle.std.proofs.Common.{eqb-true}
use Rattle.std.proofs.lemmas.Bool.{eq-eqb, and_from}
use Rattle.std.specs.Cmp.{first_so, second_so}
use Rattle.tv_value.specs.Orders.{same_name}
use Rattle.tv_value.specs.Values.{Name}

abbrev same_depth : Name × ℕ → Name × ℕ → Bool
same_depth a b = same_name a.0 b.0 && a.1 == b.1

depth-decides : (a b : Name × ℕ) → (same_depth a b ≡ true → a ≡ b) × (a ≡ b → same_depth a b ≡ true)
depth-decides a b = (
  λ h. let e = (bytes_decides a.0 b.0).0 (first_so (same_name a.0 b.0) (a.1 == b.1) h) in
      let f = eqb-true a.1 b.1 (second_so (same_name a.0 b.0) (a.1 == b.1) h) in λ i. (e i, f i),
  λ e. and_from (same_name a.0 b.0) (a.1 == b.1) ((bytes_decides a.0 b.0).1 (λ i. (e i).0)) (eq-eqb a.1 b.1 (λ i. (e i).1)),
)

pub same-depths : (ds es : List (Name × ℕ)) → pointwise same_depth ds es ≡ true → ds ≡ es
same-depths ds es = (pointwise_decides depth-decides ds es).0
