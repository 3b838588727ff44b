-- The laws of matchers: what has come out, said of the values that are delivered.
use Rattle.std.specs.Prelude.{◌≡◌, ℕ, ◌+◌, ◌≤◌, List, [], ◌∷◌, map, flat_map, length, take, drop, IsPermutation}
use Rattle.tv_lemmas.specs.Members.{Each, In}
use Rattle.tv_value.specs.Nested.{Place}
use Rattle.tv_value.specs.Values.{Name, Value, HasDepth}
use Rattle.tv_strategy.specs.Conditions.{number_of}
use Rattle.tv_strategy.specs.Iterations.{iteration, walks}
use Rattle.tv_strategy.specs.Splits.{same_place}
use Rattle.tv_matching.specs.Items.{if_so, known_items}
use Rattle.tv_matching.specs.Told.{Told, added_after, IsTrueOf, labelled, node_told}
use Rattle.tv_matching.specs.Matchers.{Outcome, job_at, list_at, fault_at, Matching, IsMatching, HasGivenAll, IsTold, out, node_out}
use Rattle.tv_match.specs.declared.matchers.Matcher.{Matcher}
use Rattle.tv_match.specs.Seen.{IsSound, in_order, matching, HasMore}

-- what a contract sees of a matcher is true of it
abbrev pub SoundIsMatching : Type 0
SoundIsMatching = (m : Matcher) → IsSound m → IsMatching (matching m)

-- these values are as deep as the numbers say, and what was told is true of them
pub record AreTold (n : Matching) (values : Name → Value) : Type 0 where
  pub deep : (p : Name) → (d : ℕ) × HasDepth (values p) (number_of n.mismatch p + d)
  pub holds : Each (IsTrueOf (labelled values) (number_of n.mismatch)) n.told

-- the ends, lists and passed faults of their iteration whose sources were told
abbrev pub known_out : Matching → (Name → Value) → List Outcome
known_out n values = map (node_out n.strategy)
    (known_items (node_told (number_of n.mismatch) n.told)
    (iteration (walks (number_of n.mismatch) (labelled values)) n.strategy))

abbrev pub outcome_place : Outcome → Place
outcome_place (job_at q) = q
outcome_place (list_at q n) = q
outcome_place (fault_at q l) = q

abbrev pub outcomes_at : Place → List Outcome → List Outcome
outcomes_at q os = flat_map (λ o. if_so (same_place q (outcome_place o)) o) os

-- no place has two
abbrev pub StandOnce : List Outcome → Type 0
StandOnce os = (q : Place) → length (outcomes_at q os) ≤ 1

-- what has come out is known of the iteration of all delivered values of which what was told is true
abbrev pub GivesOnlyKnown : Type 0
GivesOnlyKnown =
    (m : Matcher) → IsSound m
    → (values : Name → Value) → AreTold (matching m) values
    → (o : Outcome) → In o (matching m).given → In o (known_out (matching m) values)

-- each once
abbrev pub GivesOnce : Type 0
GivesOnce = (m : Matcher) → IsSound m → StandOnce (matching m).given × StandOnce (in_order m)

-- where nothing follows, all that is known has come out
abbrev pub GivesAllKnown : Type 0
GivesAllKnown =
    (m : Matcher) → IsSound m → HasGivenAll (matching m)
    → (values : Name → Value) → AreTold (matching m) values
    → IsPermutation (matching m).given (known_out (matching m) values)

-- and where something follows, not all of it has
abbrev pub MoreIsLeft : Type 0
MoreIsLeft = (m : Matcher) → IsSound m → HasMore m → HasGivenAll (matching m) → ⊥

-- in the order in which all that is known comes out, what has come out is first
abbrev pub OrderIsKnown : Type 0
OrderIsKnown =
    (m : Matcher) → IsSound m
    → (take (length (matching m).given) (in_order m) ≡ (matching m).given)
    × ((values : Name → Value) → AreTold (matching m) values
    → IsPermutation (in_order m) (known_out (matching m) values))

-- nothing follows exactly where what has come out is all that is known
pub record EndsWithAll (m : Matcher) (values : Name → Value) : Type 0 where
  pub all : (HasMore m → ⊥) → IsPermutation (matching m).given (known_out (matching m) values)
  pub end : IsPermutation (matching m).given (known_out (matching m) values) → HasMore m → ⊥

abbrev pub AllAtTheEnd : Type 0
AllAtTheEnd =
    (m : Matcher) → IsSound m
    → (values : Name → Value) → AreTold (matching m) values
    → EndsWithAll m values

-- where what followed before a telling stays in front, what the telling adds is behind it
abbrev pub AddedIsBehind : Type 0
AddedIsBehind =
    (t : Told) (m n : Matcher) → IsSound m → IsSound n
    → IsTold t (matching m) (matching n)
    → take (length (in_order m)) (in_order n) ≡ in_order m
    → let s = (matching m).strategy in
    IsPermutation
    (drop (length (in_order m)) (in_order n))
    (map (out s) (added_after s (matching m).told (t ∷ [])))
