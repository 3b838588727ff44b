-- What the run of a generated document comes to.
use Rattle.std.specs.List.{range_with_len}
use Rattle.std.specs.Prelude.{List, codes, filter, length, ℕ, ◌*◌, ◌-◌, ◌≡◌, ◌≤◌}
use Rattle.tv_value.specs.Values.{Value}
use Rattle.tv_gate.specs.Outcomes.{Giving}
use Rattle.tv_local.specs.LocalGives.{local_gives}
use Rattle.tv_model.specs.Meanings.{meaning}
use Rattle.tv_model.specs.RowsOfSize.{generated, is_tenth}
use Rattle.tv_model.specs.Totals.{Totals, totals}

-- services that give what the local ones give, for those four that it names
pub record GivesAsLocals (gives : Giving) : Type 0 where
  pub concat : (vs : List Value) (attempt : ℕ)
      → gives (codes "concat") vs attempt ≡ local_gives (codes "concat") vs attempt
  pub flaky : (vs : List Value) (attempt : ℕ)
      → gives (codes "flaky") vs attempt ≡ local_gives (codes "flaky") vs attempt
  pub fail_if : (vs : List Value) (attempt : ℕ)
      → gives (codes "fail_if") vs attempt ≡ local_gives (codes "fail_if") vs attempt
  pub upper : (vs : List Value) (attempt : ℕ)
      → gives (codes "upper") vs attempt ≡ local_gives (codes "upper") vs attempt

-- how many of the first n numbers are multiples of ten
abbrev pub tenths : ℕ → ℕ
tenths n = length (filter is_tenth (range_with_len 0 n))

-- five jobs for each pair of texts, of which those of two tenths fail, and open no flow
abbrev pub formulas : ℕ → Totals
formulas n =
    let k = tenths n in
    record {
      attempts = 5 * (n * n) - k * k;
      bounced = k * k;
      failed = k * k;
      jobs = 5 * (n * n) - k * k;
    }

-- its run has these totals
abbrev pub HaveTheirTotals : Type 0
HaveTheirTotals = (gives : Giving) → GivesAsLocals gives → (n : ℕ) → n ≤ 200
    → totals (meaning gives (generated n)).jobs ≡ formulas n
