-- What stands where a leaf begins: the leaf's part of a job's place, and of the place of a passed fault.
use Rattle.std.specs.Prelude.{◌≡◌, ℕ, List, drop, length, map, take}
use Rattle.tv_lemmas.specs.Members.{Each, In}
use Rattle.tv_value.specs.Nested.{Place}
use Rattle.tv_value.specs.Strategies.{Strategy}
use Rattle.tv_value.specs.Values.{Name}
use Rattle.tv_strategy.specs.Measures.{DotsAgree, strategy_depth}
use Rattle.tv_strategy.specs.Splits.{split}
use Rattle.tv_matching.specs.Items.{Item, passes}
use Rattle.tv_matching.specs.Told.{IsFit, Spot, Told, matched_after}
use Rattle.tv_frame.specs.Starts.{starts}

-- the place of a job splits into as many indices for each leaf as it walks levels, from where it begins
abbrev pub PlacesSplitAtStarts : Type 0
PlacesSplitAtStarts =
    (ports : Name → ℕ) (s : Strategy) → DotsAgree ports s
    → (q : Place) → length q ≡ strategy_depth ports s
    → split ports s q ≡ map (λ x. (x.0, take (ports x.0) (drop x.1 q))) (starts ports 0 s)

-- where a fault is passed, it stands in the value of its leaf at what is left of the place where the leaf begins
abbrev pub FaultsStandFromStarts : Type 0
FaultsStandFromStarts =
    (ports : Name → ℕ) (s : Strategy) → DotsAgree ports s
    → (ts : List Told) → Each (IsFit ports) ts
    → (x : Item Spot Spot) → In x (matched_after s ts) → (f : Spot) → x.kind ≡ passes f
    → (at : ℕ) × In (f.0, at) (starts ports 0 s) × (f.1 ≡ drop at x.place)
