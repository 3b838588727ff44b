-- Answers of comparisons.
use Rattle.std.specs.Prelude.{◌≡◌, refl, true, false}
use Rattle.std.specs.Ordering.{is_lt, ordering_reverse, ordering_then}
use Rattle.std.proofs.Common.{Ordering, Less, Equal, Greater}

pub is_lt-less : (o : Ordering) → is_lt o ≡ true → o ≡ Less
is_lt-less Less e = refl
is_lt-less Equal e = cc
is_lt-less Greater e = cc

pub not_lt-equal : (o : Ordering) → is_lt o ≡ false → is_lt (ordering_reverse o) ≡ false → o ≡ Equal
not_lt-equal Less g h = cc
not_lt-equal Equal g h = refl
not_lt-equal Greater g h = cc

pub then-not_reversed : (o p : Ordering) → is_lt (ordering_then o p) ≡ true → is_lt (ordering_reverse o) ≡ false
then-not_reversed Less p e = refl
then-not_reversed Equal p e = refl
then-not_reversed Greater p e = cc
