-- Where nothing was held, what there is of a refused telling is taken back, and all is as before.
use Rattle.std.proofs.Common.{◌≡◌, ℕ, ◌+◌, ◌≤◌, List, length, take, sym, ap, ◌∙◌, arith}
use Rattle.std.proofs.lemmas.List.{length-take-le}
use Rattle.tv_match.specs.Entries.{Entry, front, AreMore}
use Rattle.tv_match.proofs.Fronts.{more-late}

all-told : (n : ℕ) (log : List Entry) → n ≤ length log → log ≡ take n log → n ≡ length log
all-told n log h all = let e = ap length all in let l = length-take-le n log h in omega (arith, e, l)

pub undone-log : (n : ℕ) (log more log' : List Entry) → n ≤ length log → log ≡ take n log → take (length log) more ≡ log → log' ≡ take n more → log' ≡ log
undone-log n log more log' h all l k = k ∙ ap (λ i. take i more) (all-told n log h all) ∙ l

pub undone-out : (n : ℕ) (log out outs out' : List Entry) → n ≤ length log → out ≡ front n out → AreMore (length log + 1) out outs → out' ≡ front n outs → out' ≡ out
undone-out n log out outs out' h all b o = o ∙ more-late n (length log + 1) out outs (omega (arith, h)) b ∙ sym all
