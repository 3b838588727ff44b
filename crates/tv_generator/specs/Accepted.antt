-- That every generated document is accepted.
use Rattle.std.specs.Prelude.{Bool, None, codes, true, ◌≡◌, ℕ}
use Rattle.tv_value.specs.Values.{Name}
use Rattle.tv_check.specs.Passes.{checked}
use Rattle.tv_model.specs.RowsOfSize.{generated}

-- services that know those four that it names
pub record KnowsItsServices (knows : Name → Bool) : Type 0 where
  pub concat : knows (codes "concat") ≡ true
  pub flaky : knows (codes "flaky") ≡ true
  pub fail_if : knows (codes "fail_if") ≡ true
  pub upper : knows (codes "upper") ≡ true

-- the check finds nothing in it
abbrev pub AreAccepted : Type 0
AreAccepted = (knows : Name → Bool) → KnowsItsServices knows → (n : ℕ) → checked knows (generated n)
    ≡ None
