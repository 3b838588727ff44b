-- What a contract sees of a matcher, and what each of its calls does.
use Rattle.std.specs.Prelude.{◌≡◌, ℕ, suc, ◌+◌, Bool, flat_map, Option, Some, None, if◌then◌else◌, List, [], ◌∷◌, ◌++◌, map, get_or, IsPermutation}
use Rattle.tv_lemmas.specs.Members.{Each}
use Rattle.tv_value.specs.Nested.{Place}
use Rattle.tv_value.specs.Values.{Name, Value, HasDepth, holds_fault}
use Rattle.tv_value.specs.Orders.{same_name}
use Rattle.tv_value.specs.Strategies.{Strategy}
use Rattle.tv_strategy.specs.Conditions.{Suits, number_of}
use Rattle.tv_strategy.specs.Measures.{DotsAgree, leaf_names}
use Rattle.tv_strategy.specs.Iterations.{iteration, walks}
use Rattle.tv_strategy.specs.Origins.{Mark, given, made, Traced}
use Rattle.tv_matching.specs.Items.{Kind, ends, closes, passes, Item, item, if_so, Bound, Stopped, known_items}
use Rattle.tv_matching.specs.Matched.{matched, gained}
use Rattle.tv_matching.specs.Members.{Once}
use Rattle.tv_matching.specs.Told.{Spot, Told, told_to, matched_after, Marked, marked_to, marked_after, map_item, some_at, faulty_at, IsFit, IsNew, IsTrueOf, TellsFaults, item_there, labelled, node_told}

-- what comes out: a job's place, a list's place and length, or a passed fault's place and the number of its leaf
pub data Outcome : Type 0 where
  job_at : Place → Outcome
  list_at : Place → ℕ → Outcome
  fault_at : Place → ℕ → Outcome

-- leaves are numbered from left to right
abbrev pub leaf_number : List Name → Name → ℕ
leaf_number [] p = 0
leaf_number (n ∷ ns) p = if same_name p n then 0 else suc (leaf_number ns p)

abbrev pub leaf_name : Strategy → ℕ → Name
leaf_name s i = get_or (leaf_names s) i []

abbrev pub kind_out : Strategy → Place → Kind Spot Spot → Outcome
kind_out s q (ends b) = job_at q
kind_out s q (closes n) = list_at q n
kind_out s q (passes r) = fault_at q (leaf_number (leaf_names s) r.0)

abbrev pub out : Strategy → Item Spot Spot → Outcome
out s x = kind_out s x.place x.kind

-- what the code may keep of an item: of bindings only that there are such for which the test is true, since a job's place splits into those of its ports' values
abbrev pub bare_bound : {X : Type 0} → (X → Bool) → List X → List (Unit {0})
bare_bound test b = flat_map (λ x. if_so (test x) tt) b

abbrev pub bare_kind : {X F G : Type 0} → (X → Bool) → (F → G) → Kind X F → Kind (Unit {0}) G
bare_kind test g (ends b) = ends (bare_bound test b)
bare_kind test g (closes n) = closes n
bare_kind test g (passes f) = passes (g f)

abbrev pub bare : {X F G : Type 0} → (X → Bool) → (F → G) → Item X F → Item (Unit {0}) G
bare test g x = item x.place (bare_kind test g x.kind)

abbrev pub Kept : Type 0
Kept = Item (Unit {0}) ℕ

abbrev pub kept_item : Strategy → Item Marked Spot → Kept
kept_item s x = bare (λ r. r.1) (λ r. leaf_number (leaf_names s) r.0) x

abbrev pub kept_kind_out : Place → Kind (Unit {0}) ℕ → Outcome
kept_kind_out q (ends b) = job_at q
kept_kind_out q (closes n) = list_at q n
kept_kind_out q (passes l) = fault_at q l

abbrev pub kept_out : Kept → Outcome
kept_out x = kept_kind_out x.place x.kind

-- what was told of a leaf, as it is kept: of each bound value whether it was told to hold a fault
abbrev pub kept_of : Strategy → List Told → Name → List Kept
kept_of s ts p = map (kept_item s) (marked_to ts p)

pub record Matching : Type 0 where
  pub strategy : Strategy
  pub mismatch : List (Name × ℕ)
  -- all that was told, in some order
  pub told : List Told
  -- the tellings for which room is held, in this order
  pub held : List Told
  -- what has come out, in order
  pub given : List Outcome

-- all that follows from what was told
abbrev pub all_out : Matching → List Outcome
all_out m = map (out m.strategy) (matched_after m.strategy m.told)

-- what is so of every matcher: what has come out follows, each once, and `rest` is still to come
pub record AreMatching (strategy : Strategy) (mismatch : List (Name × ℕ)) (told : List Told)
    (given : List Outcome) : Type 0 where
  pub suits : Suits mismatch strategy
  pub agree : DotsAgree (number_of mismatch) strategy
  pub fit : Each (IsFit (number_of mismatch)) told
  pub once : (p : Name) → Once (told_to told p)
  pub rest : List Outcome
  pub parts : IsPermutation (given ++ rest) (map (out strategy) (matched_after strategy told))

abbrev pub IsMatching : Matching → Type 0
IsMatching m = AreMatching m.strategy m.mismatch m.told m.given

-- all has come out
abbrev pub HasGivenAll : Matching → Type 0
HasGivenAll m = IsPermutation m.given (all_out m)

-- ---- conditions

abbrev pub CanTell : Matching → Told → Type 0
CanTell m t = IsFit (number_of m.mismatch) t × IsNew m.told t

-- these can be told one after the other
abbrev pub CanTellAll : Matching → List Told → Type 0
CanTellAll m [] = Unit {0}
CanTellAll m (t ∷ ts) = CanTell m t × CanTellAll (record m { told = m.told ++ t ∷ [] }) ts

-- ---- what the calls do

pub record Starts (s : Strategy) (mismatch : List (Name × ℕ)) (m : Matching) : Type 0 where
  pub strategy_is : m.strategy ≡ s
  pub mismatch_is : m.mismatch ≡ mismatch
  pub told_is : m.told ≡ []
  pub held_is : m.held ≡ []
  pub given_is : m.given ≡ []

pub record IsTold (t : Told) (m n : Matching) : Type 0 where
  pub strategy_is : n.strategy ≡ m.strategy
  pub mismatch_is : n.mismatch ≡ m.mismatch
  pub told_is : IsPermutation n.told (m.told ++ t ∷ [])
  pub given_is : n.given ≡ m.given

-- a refusal changes nothing, and holds no room
pub record IsFreed (m n : Matching) : Type 0 where
  pub strategy_is : n.strategy ≡ m.strategy
  pub mismatch_is : n.mismatch ≡ m.mismatch
  pub told_is : n.told ≡ m.told
  pub held_is : n.held ≡ []
  pub given_is : n.given ≡ m.given

pub record Gives (o : Outcome) (m n : Matching) : Type 0 where
  pub strategy_is : n.strategy ≡ m.strategy
  pub mismatch_is : n.mismatch ≡ m.mismatch
  pub told_is : n.told ≡ m.told
  pub held_is : n.held ≡ m.held
  pub given_is : n.given ≡ m.given ++ o ∷ []

pub record Holds (ts : List Told) (m n : Matching) : Type 0 where
  pub strategy_is : n.strategy ≡ m.strategy
  pub mismatch_is : n.mismatch ≡ m.mismatch
  pub told_is : n.told ≡ m.told
  pub held_is : n.held ≡ ts
  pub given_is : n.given ≡ m.given

-- ---- what comes out, of the iteration of delivered values whose nodes are named by port and place

abbrev pub mark_number : Strategy → Option Mark → ℕ
mark_number s None = 0
mark_number s (Some (given p q)) = leaf_number (leaf_names s) p
mark_number s (Some (made j)) = 0

abbrev pub kind_of_node : Strategy → Place → Kind Bound Stopped → Outcome
kind_of_node s q (ends b) = job_at q
kind_of_node s q (closes n) = list_at q n
kind_of_node s q (passes f) = fault_at q (mark_number s f.0)

abbrev pub node_out : Strategy → Item Bound Stopped → Outcome
node_out s x = kind_of_node s x.place x.kind

-- for all values of which what was told is true, what has come out and what is still to come are the ends, lists and passed faults of their iteration whose sources were told
abbrev pub OutIsKnown : Type 0
OutIsKnown =
    (m : Matching) (h : IsMatching m) (values : Name → Value)
    → ((p : Name) → (d : ℕ) × HasDepth (values p) (number_of m.mismatch p + d))
    → Each (IsTrueOf (labelled values) (number_of m.mismatch)) m.told
    → IsPermutation (m.given ++ h.rest)
    (map (node_out m.strategy) (known_items (node_told (number_of m.mismatch) m.told)
    (iteration (walks (number_of m.mismatch) (labelled values)) m.strategy)))

-- what is matched of the kept items is what would be kept of all that is matched, and tells what comes out
abbrev pub KeptIsEnough : Type 0
KeptIsEnough = (s : Strategy) (ts : List Told)
    → (matched (kept_of s ts) s ≡ map (kept_item s) (marked_after s ts))
    × (map kept_out (matched (kept_of s ts) s) ≡ map (out s) (matched_after s ts))

-- and what is gained of them
abbrev pub KeptGains : Type 0
KeptGains = (s : Strategy) (ts more : List Told) → gained (kept_of s ts) (kept_of s more) s
    ≡ map (kept_item s) (gained (marked_to ts) (marked_to more) s)

-- with what was told of faults in bound values, it is the same that is matched
abbrev pub MarkedIsMatched : Type 0
MarkedIsMatched = (s : Strategy) (ts : List Told) → map (map_item (λ r. r.0) (λ r. r))
    (marked_after s ts) ≡ matched_after s ts

-- and where that was told truly, it is told truly of each job, whether a value that it binds holds a fault
abbrev pub FaultsRide : Type 0
FaultsRide =
    (values : Name → Traced) (s : Strategy) (ts : List Told) → Each (TellsFaults values) ts
    → (q : Place) → faulty_at s ts q ≡ some_at (λ v. holds_fault v.1) q
    (map (item_there values) (matched_after s ts))

-- the calls keep what is so of every matcher
abbrev pub StartIsMatching : Type 0
StartIsMatching = (s : Strategy) (mismatch : List (Name × ℕ)) (m : Matching) → Suits mismatch s
    → DotsAgree (number_of mismatch) s → Starts s mismatch m → IsMatching m

abbrev pub TellingIsMatching : Type 0
TellingIsMatching = (t : Told) (m n : Matching) → IsMatching m → CanTell m t → IsTold t m n
    → IsMatching n

-- an outcome comes only where not all has come out
abbrev pub GivesOnlyRest : Type 0
GivesOnlyRest = (o : Outcome) (m n : Matching) → IsMatching n → Gives o m n → HasGivenAll m → ⊥
