-- Laws of iteration, for every strategy and all values.
use Rattle.std.specs.Prelude.{◌≡◌, ◌↔◌, ℕ, ◌+◌, ◌<◌, min, List, [], ◌∷◌, ◌++◌, length, Bool, true, Option, Some, None, IsSome}
use Rattle.tv_lemmas.specs.Members.{Each}
use Rattle.tv_value.specs.Nested.{leaf, list, no_trees, count, note, Place, at}
use Rattle.tv_value.specs.Values.{Name, JobName, ErrorDoc, fault, Value, HasDepth}
use Rattle.tv_value.specs.Strategies.{Strategy, cross, dot, Strategies, no_strategies, strategy}
use Rattle.tv_strategy.specs.Origins.{Mark, Origin, Traced, from_job, from_level}
use Rattle.tv_strategy.specs.Iterations.{Binding, passed, Iteration, Iterations, walk, walks, iteration}
use Rattle.tv_strategy.specs.Measures.{strategy_depth, leaf_names, DotsAgree, first_difference}
use Rattle.tv_strategy.specs.Splits.{split, joined}
use Rattle.tv_strategy.specs.Conditions.{HaveLengths, names_in, Suits, HasPlaces, number_of, place_of}
use Rattle.tv_strategy.specs.Outputs.{output_below}
use Rattle.tv_strategy.specs.Levels.{HasLevels, IsJob}
use Rattle.tv_strategy.specs.Promises.{HaveDepths, ArePlacesOfEnd, UndoesSplit, DotDiffers}
use Rattle.tv_strategy.specs.Sources.{AtNodes, SourcesHave, JobsStand}

-- ---- depths

-- all jobs stand at the strategy's depth
abbrev pub EndsStandAtDepth : Type 0
EndsStandAtDepth =
    (mismatch declared : Name → ℕ) (values : Name → Traced) → HaveDepths mismatch declared values
    → (s : Strategy) → DotsAgree mismatch s → HasLevels (iteration (walks mismatch values) s)
    (strategy_depth mismatch s)

-- an output has the strategy's depth and the port's declared depth together
abbrev pub OutputsHaveDepth : Type 0
OutputsHaveDepth =
    (mismatch declared : Name → ℕ) (values : Name → Traced) → HaveDepths mismatch declared values
    → (s : Strategy) → DotsAgree mismatch s → (named : Place → JobName) (made : Place → Value)
    (d : ℕ) → JobsStand (λ q. HasDepth (made q) d) [] (iteration (walks mismatch values) s)
    → HasDepth (output_below named made d [] (strategy_depth mismatch s)
    (iteration (walks mismatch values) s)) (strategy_depth mismatch s + d)

-- the dots agree exactly where there is no difference to tell of
abbrev pub AgreeWithoutDifference : Type 0
AgreeWithoutDifference = (mismatch : Name → ℕ) (s : Strategy) → (first_difference mismatch s ≡ None)
    ↔ DotsAgree mismatch s

-- ---- crosses and dots

abbrev pub CrossOfOneIsItsChild : Type 0
CrossOfOneIsItsChild = (ports : Name → Iteration) (c : Strategy)
    → iteration ports (cross (strategy c no_strategies)) ≡ iteration ports c

-- a list of n items stands there
abbrev pub IsListOf : Option Iteration → ℕ → Type 0
IsListOf None n = ⊥
IsListOf (Some (leaf s e)) n = ⊥
IsListOf (Some (list s ts)) n = count ts ≡ n

-- a list stands there in each of these iterations, and the shortest has n items
abbrev pub HaveShortest : (Name → Iteration) → Strategies → Place → ℕ → Type 0
HaveShortest ports no_strategies q n = ⊥
HaveShortest ports (strategy c no_strategies) q n = IsListOf (at (iteration ports c) q) n
HaveShortest ports (strategy c (strategy d ds)) q n =
    (m : ℕ) × (k : ℕ) × IsListOf (at (iteration ports c) q) m × HaveShortest ports (strategy d ds) q
    k × (n ≡ min m k)

-- the length of a dot's list, at each place by itself, is the least of its children's
abbrev pub DotIsAsLongAsShortest : Type 0
DotIsAsLongAsShortest =
    (ports : Name → Iteration) (mismatch : Name → ℕ)
    → ((p : Name) → HasLevels (ports p) (mismatch p)) → (c : Strategy) (cs : Strategies)
    → DotsAgree mismatch (dot (strategy c cs)) → (q : Place) (n : ℕ)
    → IsListOf (at (iteration ports (dot (strategy c cs))) q) n
    → HaveShortest ports (strategy c cs) q n

-- and where all its children have lists a dot has one
abbrev pub DotHasListWhereAllHave : Type 0
DotHasListWhereAllHave =
    (ports : Name → Iteration) (c : Strategy) (cs : Strategies) (q : Place) (n : ℕ)
    → HaveShortest ports (strategy c cs) q n
    → IsListOf (at (iteration ports (dot (strategy c cs))) q) n

-- ---- faults and empty lists

-- a port's fault above the last level that it walks is passed there
abbrev pub WalkPassesFault : Type 0
WalkPassesFault =
    (p : Name) (k : ℕ) (v : Traced) (q : Place) (o : Origin) (e : ErrorDoc) → at v q
    ≡ Some (leaf o (fault e)) → length q < k → at (walk p k v) q
    ≡ Some (leaf (o ∷ []) (passed o.mark e))

-- a fault of the first child stands once for all that would stand inside
abbrev pub CrossKeepsFault : Type 0
CrossKeepsFault =
    (ports : Name → Iteration) (c : Strategy) (cs : Strategies) (q : Place) (s : List Origin)
    (m : Option Mark) (e : ErrorDoc) → at (iteration ports c) q ≡ Some (leaf s (passed m e))
    → at (iteration ports (cross (strategy c cs))) q ≡ Some (leaf s (passed m e))

-- an empty list of the first child has no lists inside
abbrev pub CrossKeepsEmptyList : Type 0
CrossKeepsEmptyList =
    (ports : Name → Iteration) (c : Strategy) (cs : Strategies) (q : Place) (s : List Origin)
    → at (iteration ports c) q ≡ Some (list s no_trees)
    → at (iteration ports (cross (strategy c cs))) q ≡ Some (list s no_trees)

-- in a dot the first child's fault stands, whatever the others have there
abbrev pub DotKeepsFirstFault : Type 0
DotKeepsFirstFault =
    (ports : Name → Iteration) (c d : Strategy) (ds : Strategies) (q : Place) (s : List Origin)
    (m : Option Mark) (e : ErrorDoc) (u : Iteration) → at (iteration ports c) q
    ≡ Some (leaf s (passed m e)) → at (iteration ports (dot (strategy d ds))) q ≡ Some u
    → at (iteration ports (dot (strategy c (strategy d ds)))) q
    ≡ Some (leaf (s ++ note u) (passed m e))

-- and a fault of the others where the first child has a list
abbrev pub DotKeepsLaterFault : Type 0
DotKeepsLaterFault =
    (ports : Name → Iteration) (c d : Strategy) (ds : Strategies) (q : Place) (s r : List Origin)
    (m : Option Mark) (e : ErrorDoc) (ts : Iterations) → at (iteration ports c) q
    ≡ Some (list s ts) → at (iteration ports (dot (strategy d ds))) q
    ≡ Some (leaf r (passed m e)) → at (iteration ports (dot (strategy c (strategy d ds)))) q
    ≡ Some (leaf (s ++ r) (passed m e))

-- ---- places

abbrev pub SplitGivesPlacesOfEnd : Type 0
SplitGivesPlacesOfEnd = (mismatch : Name → ℕ) (s : Strategy) → DotsAgree mismatch s → (q : Place)
    → ArePlacesOfEnd mismatch s q (split mismatch s q)

-- and a job stands wherever the place has the strategy's depth and each port's value has something at its place
abbrev pub JobStandsWhereAllAreThere : Type 0
JobStandsWhereAllAreThere =
    (mismatch : Name → ℕ) (values : Name → Traced) (s : Strategy) → DotsAgree mismatch s
    → (q : Place) → length q ≡ strategy_depth mismatch s
    → Each (λ r. IsSome (at (values r.0) r.1)) (split mismatch s q) → (b : Binding)
    × IsJob (at (iteration (walks mismatch values) s) q) b

abbrev pub SplitNamesLeaves : Type 0
SplitNamesLeaves = (mismatch : Name → ℕ) (s : Strategy) (q : Place) → names_in (split mismatch s q)
    ≡ leaf_names s

abbrev pub JoinUndoesSplit : Type 0
JoinUndoesSplit = (mismatch : Name → ℕ) (ports : Name → Place) (s : Strategy)
    → HaveLengths mismatch ports (leaf_names s) → UndoesSplit mismatch s ports (joined ports s)

abbrev pub JoinsNothingWhereDotDiffers : Type 0
JoinsNothingWhereDotDiffers = (ports : Name → Place) (s : Strategy) → (joined ports s ≡ None)
    ↔ DotDiffers ports s

-- the places that a place splits into meet the conditions of joining, and join to it
abbrev pub JoinGivesPlaceBack : Type 0
JoinGivesPlaceBack =
    (mismatch : List (Name × ℕ)) (s : Strategy) → Suits mismatch s → DotsAgree (number_of mismatch)
    s → (q : Place) → length q ≡ strategy_depth (number_of mismatch) s
    → HasPlaces mismatch (split (number_of mismatch) s q) s
    × (joined (place_of (split (number_of mismatch) s q)) s ≡ Some q)

-- ---- sources

abbrev pub Passes : (Origin → Bool) → Origin → Type 0
Passes p o = p o ≡ true

-- what is so of every node of the ports' values is so of every source
abbrev pub SourcesAreNodes : Type 0
SourcesAreNodes =
    (p : Origin → Bool) (mismatch : Name → ℕ) (values : Name → Traced)
    → ((n : Name) → AtNodes (Passes p) (values n)) → (s : Strategy)
    → SourcesHave (Passes p) (iteration (walks mismatch values) s)

-- what passes from the sources to lists and passed faults, and is so of the step's jobs, is so of every node of an output
abbrev pub OutputsAreOfSources : Type 0
OutputsAreOfSources =
    (p r : Origin → Bool) (j : Place → Bool) (named : Place → JobName) (made : Place → Value)
    (d : ℕ) → ((q : Place) → j q ≡ true → Passes r (from_job (named q)))
    → ((n : JobName) (m : Option Mark) (s : List Origin) → Each (Passes p) s
    → Passes r (from_level n m s)) → (t : Iteration) (levels : ℕ) → SourcesHave (Passes p) t
    → JobsStand (λ q. j q ≡ true) [] t
    → AtNodes (Passes r) (output_below named made d [] levels t)
