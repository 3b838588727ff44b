-- Tellings that are worked one after the other.
use Rattle.std.proofs.Common.{◌≡◌, refl, ℕ, ◌+◌, ◌≤◌, List, [], ◌∷◌, ◌++◌, map, length, take, sym, ap, ◌∙◌, arith, length-append}
use Rattle.tv_value.specs.Values.{Name}
use Rattle.tv_value.specs.Strategies.{Strategy}
use Rattle.tv_match.specs.declared.told.Told as code
use Rattle.tv_match.specs.Entries.{Entry, front}
use Rattle.tv_match.specs.Filed.{Filed}
use Rattle.tv_match.specs.Seen.{entry_of}
use Rattle.tv_match.specs.Working.{IsDone}
use Rattle.tv_match.proofs.Working.{take-less, take-within}

-- the first i of these are worked
pub record Ahead (root : Filed) (log out : List Entry) (ts : List code.Told) (i : ℕ) (next : Filed) (more outs : List Entry) : Type 0 where
  pub listed : more ≡ log ++ map entry_of (take i ts)
  pub done : (ports : Name → ℕ) (s : Strategy) → IsDone ports s root log out → IsDone ports s next more outs
  pub front_is : (k : ℕ) → k ≤ length log → front k outs ≡ front k out
  pub grows : length out ≤ length outs

module _ (root : Filed) (log out : List Entry) (ts : List code.Told) (i : ℕ) (next : Filed) (more outs : List Entry) (a : Ahead root log out ts i next more outs) where
  pub log-within : length log ≤ length more
  log-within = let e = ap length a.listed in let l = length-append log (map entry_of (take i ts)) in omega (arith, e, l)

  pub ahead-front : take (length log) more ≡ log
  ahead-front = ap (take (length log)) a.listed ∙ take-within (length log) log (map entry_of (take i ts)) (omega arith) ∙ whole log
    where
      whole : (xs : List Entry) → take (length xs) xs ≡ xs
      whole [] = refl
      whole (x ∷ xs) = ap (λ l. x ∷ l) (whole xs)

  module _ (third : Filed) (most outer : List Entry) where
    pub failed-listed : take (length more) most ≡ more → take (length log) most ≡ log
    failed-listed e = sym (take-less (length log) (length more) most log-within) ∙ ap (take (length log)) e ∙ ahead-front
