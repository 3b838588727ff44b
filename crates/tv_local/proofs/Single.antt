-- Each good outcome of a local service has one value.
use Rattle.std.specs.Prelude.{◌≡◌, refl, ℕ, List, [], ◌∷◌, ◌++◌, map, length, Bool, true, false, if◌then◌else◌, Option, Some, None, ℤ, pos, negsuc, ◌+ℤ◌, ◌-ℤ◌, nat_lt, nat_le, codes, decimal}
use Rattle.std.specs.Fmt.{signed_decimal}
use Rattle.std.proofs.Common.{subst}
use Rattle.tv_value.specs.Values.{Text, Name, Value}
use Rattle.tv_gate.specs.Outcomes.{Outcome, good, bad}
use Rattle.tv_value.specs.Orders.{named, same_name}
use Rattle.tv_local.specs.declared.row.Local.{Local}
use Rattle.tv_local.specs.declared.row.Local.TheVariants as local
use Rattle.tv_local.specs.Numbers.{count_of, count_up, span}
use Rattle.tv_local.specs.Texts.{parts}
use Rattle.tv_local.specs.Lists.{flat}
use Rattle.tv_local.specs.Reading.{complaint, text_of, texts_of, lists_of, number_of}
use Rattle.tv_local.specs.Table.{names, wants, with_one, with_two, one_text, one_list, one_number, list_limit, list_below, in_range, number_or, split_by, range_limit, range_of, take_of, fail_for, flaky_of}
use Rattle.tv_local.specs.LocalGives.{by_rule, unless, local_outcome, local_gives}

abbrev IsSingle : Outcome → Type 0
IsSingle (good us) = length us ≡ 1
IsSingle (bad t) = Unit {0}

either : (b : Bool) (o p : Outcome) → IsSingle o → IsSingle p → IsSingle (if b then o else p)
either true o p h k = h
either false o p h k = k

taken : (ts : List Text) (z : ℤ) → IsSingle (take_of ts z)
taken ts (pos n) = refl
taken ts (negsuc n) = tt

below : (why : Text) (ts : List Text) → IsSingle (list_below why ts)
below why ts = either (nat_lt (length ts) list_limit) (one_list ts) (bad why) refl tt

parted : (t s : Text) → IsSingle (split_by t s)
parted t [] = tt
parted t (c ∷ s) = below (codes "split too long") (parts (c ∷ s) t)

numbered : (why : Text) (z : ℤ) → IsSingle (number_or why z)
numbered why z = either (in_range z) (one_number z) (bad why) refl tt

ranged : (a b : ℤ) → IsSingle (range_of a b)
ranged a b = either (nat_le (span a b) range_limit) (one_list (map signed_decimal (count_up a (span a b)))) (bad (codes "range too long")) refl tt

failed : (t : Text) → IsSingle (fail_for t)
failed t = either (same_name t (codes "true")) (bad (codes "told to fail")) (one_text t) tt refl

flaked : (t : Text) (z : ℤ) (n : ℕ) → IsSingle (flaky_of t z n)
flaked t z n = either (nat_le (count_of z) n) (one_text t) (bad (codes "flaky attempt " ++ decimal n)) refl tt

ones : (k : Local) (v : Value) → IsSingle (with_one k v)
ones local.Upper v = refl
ones local.Lower v = refl
ones local.Reverse v = refl
ones local.Length v = refl
ones local.Count v = refl
ones local.Flatten v = below (codes "flatten too long") (flat (lists_of v))
ones local.Echo v = refl
ones local.Distinct v = refl
ones local.FailIf v = failed (text_of v)
ones local.Concat v = tt
ones local.Split v = tt
ones local.Join v = tt
ones local.Add v = tt
ones local.Subtract v = tt
ones local.Range v = tt
ones local.Take v = tt
ones local.Intersect v = tt
ones local.Flaky v = tt

twos : (k : Local) (v w : Value) (n : ℕ) → IsSingle (with_two k v w n)
twos local.Concat v w n = refl
twos local.Split v w n = parted (text_of v) (text_of w)
twos local.Join v w n = refl
twos local.Add v w n = numbered (codes "add out of range") (number_of v +ℤ number_of w)
twos local.Subtract v w n = numbered (codes "subtract out of range") (number_of v -ℤ number_of w)
twos local.Range v w n = ranged (number_of v) (number_of w)
twos local.Take v w n = taken (texts_of v) (number_of w)
twos local.Intersect v w n = refl
twos local.Flaky v w n = flaked (text_of v) (number_of w) n
twos local.Upper v w n = tt
twos local.Lower v w n = tt
twos local.Reverse v w n = tt
twos local.Length v w n = tt
twos local.Count v w n = tt
twos local.Flatten v w n = tt
twos local.Echo v w n = tt
twos local.Distinct v w n = tt
twos local.FailIf v w n = tt

ruled : (k : Local) (vs : List Value) (n : ℕ) → IsSingle (by_rule k vs n)
ruled k [] n = tt
ruled k (v ∷ []) n = ones k v
ruled k (v ∷ w ∷ []) n = twos k v w n
ruled k (v ∷ w ∷ u ∷ us) n = tt

but : (o : Option Text) (p : Outcome) → IsSingle p → IsSingle (unless o p)
but None p h = h
but (Some why) p h = tt

of_row : (o : Option Local) (name : Name) (vs : List Value) (n : ℕ) → IsSingle (local_outcome o name vs n)
of_row None name vs n = tt
of_row (Some k) name vs n = but (complaint name (wants k) vs) (by_rule k vs n) (ruled k vs n)

pub good-single : (name : Name) (vs us : List Value) (n : ℕ) → local_gives name vs n ≡ good us → length us ≡ 1
good-single name vs us n h = subst IsSingle h (of_row (named name names) name vs n)
