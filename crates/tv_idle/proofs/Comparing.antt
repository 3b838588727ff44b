-- The order of jobs is total: two with the same place are told apart by their positions.
use Rattle.std.specs.Prelude.{◌≡◌, ℕ, ◌<◌, ◌==◌, List, Bool, true, false, nat_lt, cond, refl}
use Rattle.std.specs.declared.cmp.Ordering.{Ordering}
use Rattle.std.proofs.Common.{Less, Equal, Greater}
use Rattle.std.specs.Cmp.{IsStrictWeakOrder, IsTotalOrder}
use Rattle.std.specs.Ordering.{is_lt, nat_cmp, ordering_then}
use Rattle.std.specs.Cmp.Lexicographic.{slice_cmp}
use Rattle.std.proofs.Common.{arith, ap, sym, ◌∙◌}
use Rattle.std.proofs.lemmas.Bool.{le-ltb}
use Rattle.std.proofs.lemmas.Cmp.{nat_cmp_total, nat_list_cmp_total, on_total, then_total}
use Rattle.std.proofs.lemmas.List.MinMax.{ranks_by}
use Rattle.std.proofs.lemmas.Map.Lookups.{exact_unsigned}
use Rattle.tv_lemmas.proofs.Orderings.{not_lt-equal}
use Rattle.tv_idle.specs.Orders.{is_before, job_cmp, place_at}

pub job_total : IsTotalOrder job_cmp
job_total = then_total (on_total (λ (x : List ℕ × ℕ). x.0) nat_list_cmp_total) (on_total (λ (x : List ℕ × ℕ). x.1) nat_cmp_total)

pub before-order : (jobs : List (ℕ × List ℕ)) → IsStrictWeakOrder (is_before jobs)
before-order jobs = ranks_by job_total (λ (s : ℕ). (place_at jobs s, s))

second-equal : (o p : Ordering) → ordering_then o p ≡ Equal → p ≡ Equal
second-equal Less p e = cc
second-equal Equal p e = e
second-equal Greater p e = cc

pub tie : (jobs : List (ℕ × List ℕ)) (a b : ℕ) → is_before jobs a b ≡ false → is_before jobs b a ≡ false → a ≡ b
tie jobs a b g h =
    let x : List ℕ × ℕ = (place_at jobs a, a) in
    let y : List ℕ × ℕ = (place_at jobs b, b) in
    let e : job_cmp x y ≡ Equal = not_lt-equal (job_cmp x y) g (ap is_lt (sym (job_total.antisymm y x)) ∙ h) in
    exact_unsigned a b (second-equal (slice_cmp nat_cmp x.0 y.0) (nat_cmp a b) e)

not-less : (c : Bool) → c ≡ false → (d : Bool) → is_lt (cond c Less (cond d Equal Greater)) ≡ false
not-less true e d = cc
not-less false e true = refl
not-less false e false = refl

ltb-ge : (a b : ℕ) → b < a → nat_lt a b ≡ false
ltb-ge a b h = le-ltb a b (omega arith)

-- the later of two comes after the other where their places are the same
pub later-last : (o : Ordering) (a b : ℕ) → b < a → is_lt (ordering_then o (nat_cmp a b)) ≡ is_lt o
later-last Less a b h = refl
later-last Equal a b h = not-less (nat_lt a b) (ltb-ge a b h) (a == b)
later-last Greater a b h = refl
