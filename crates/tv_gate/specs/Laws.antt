-- What holds of the definitions alone.
use Rattle.std.specs.Prelude.{◌≡◌, ◌↔◌, ℕ, List, IsTrue}
use Rattle.tv_value.specs.Values.{Name, Value}
use Rattle.tv_gate.specs.Calls.{Call}
use Rattle.tv_gate.specs.Outcomes.{Giving, Outcome}
use Rattle.tv_gate.specs.Sameness.{is_given, same_call, same_outcome}

abbrev pub TestDecidesSameCall : Type 0
TestDecidesSameCall = (c d : Call) → IsTrue (same_call c d) ↔ (c ≡ d)

abbrev pub TestDecidesSameOutcome : Type 0
TestDecidesSameOutcome = (o p : Outcome) → IsTrue (same_outcome o p) ↔ (o ≡ p)

abbrev pub TestDecidesGiven : Type 0
TestDecidesGiven = (gives : Giving) (s : Name) (vs : List Value) (n : ℕ) (o : Outcome) → IsTrue (is_given gives s vs n o)
    ↔ (o ≡ gives s vs n)
