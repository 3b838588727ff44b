-- What follows further of the tellings that a matcher holds.
use Rattle.std.specs.Prelude.{◌≡◌, ◌++◌, List, [], map, IsPermutation}
use Rattle.tv_matching.specs.Told.{matched_after}
use Rattle.tv_matching.specs.Matchers.{Outcome, out}
use Rattle.tv_match.specs.declared.matchers.Matcher.{Matcher}
use Rattle.tv_match.specs.Seen.{IsSound, in_order, matching, outcome_of}

-- what follows of the tellings that were made, and then of those that are held
abbrev pub in_order_ahead : Matcher → List Outcome
in_order_ahead m = map outcome_of m.out

-- it is all that is matched
abbrev pub AheadIsMatched : Type 0
AheadIsMatched =
    (m : Matcher) → IsSound m
    → let n = matching m in
    IsPermutation (in_order_ahead m) (map (out n.strategy) (matched_after n.strategy (n.told
    ++ n.held)))

-- where nothing is held, nothing is ahead
abbrev pub NoneIsAhead : Type 0
NoneIsAhead = (m : Matcher) → IsSound m → (matching m).held ≡ [] → in_order_ahead m ≡ in_order m
