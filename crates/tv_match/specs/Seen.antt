-- What a contract sees of a matcher, and what is so of its fields.
use Rattle.std.specs.Prelude.{◌≡◌, ℕ, ◌<◌, ◌≤◌, Bool, true, false, List, [], map, length, take, drop}
use Rattle.tv_lemmas.specs.Members.{Each}
use Rattle.tv_value.specs.Nested.{Place}
use Rattle.tv_value.specs.Values.{Name}
use Rattle.tv_value.specs.Strategies.{Strategy}
use Rattle.tv_value.specs.Views.{strategy_view}
use Rattle.tv_strategy.specs.Conditions.{Suits, number_of}
use Rattle.tv_strategy.specs.Measures.{DotsAgree, leaf_names, strategy_depth}
use Rattle.tv_matching.specs.Members.{Once}
use Rattle.tv_matching.specs.Told.{arrival, faulty, close, marked, told_to, IsFit}
use Rattle.tv_matching.specs.Told as spec
use Rattle.tv_matching.specs.Matchers.{Outcome, job_at, list_at, fault_at, Matching, leaf_name, kept_item}
use Rattle.tv_match.specs.declared.kinds.Kind as kinds
use Rattle.tv_match.specs.declared.told.Told as code
use Rattle.tv_match.specs.declared.told.Matched as coded
use Rattle.tv_match.specs.declared.matchers.Matcher.{Matcher}
use Rattle.tv_match.specs.Entries.{Entry, entry, entry_at, kept_entry, front}
use Rattle.tv_match.specs.Filed.{Filed, filed}
use Rattle.tv_match.specs.Placed.{ArePlaced}
use Rattle.tv_match.specs.Working.{IsDone}

abbrev pub telling_kind : Name → Place → kinds.Kind → spec.Told
telling_kind p q (kinds.Kind.Job false) = arrival p q false
telling_kind p q (kinds.Kind.Job true) = faulty p q
telling_kind p q (kinds.Kind.Closed n) = close p q n
telling_kind p q (kinds.Kind.Passed l) = arrival p q true

-- a listed telling, of the leaf whose number it has
abbrev pub telling_of : Strategy → Entry → spec.Told
telling_of s e = telling_kind (leaf_name s e.number) e.place e.kind

-- that a leaf has its whole value, which holds a fault or none
abbrev pub bound_telling : Strategy → ℕ → Bool → spec.Told
bound_telling s leaf b = telling_kind (leaf_name s leaf) [] (kinds.Kind.Job b)

abbrev pub outcome_kind : Place → kinds.Kind → Outcome
outcome_kind q (kinds.Kind.Job b) = job_at q
outcome_kind q (kinds.Kind.Closed n) = list_at q n
outcome_kind q (kinds.Kind.Passed l) = fault_at q l

abbrev pub outcome_of : Entry → Outcome
outcome_of e = outcome_kind e.place e.kind

abbrev pub matched_view : coded.Matched → Outcome
matched_view (coded.Matched.Job q) = job_at q
matched_view (coded.Matched.Closed q n) = list_at q n
matched_view (coded.Matched.Passed q l) = fault_at q l

abbrev pub told_view : Strategy → code.Told → spec.Told
told_view s (code.Told.Arrival l q f) = arrival (leaf_name s l) q f
told_view s (code.Told.Faulty l q) = faulty (leaf_name s l) q
told_view s (code.Told.Close l q n) = close (leaf_name s l) q n

abbrev pub leaf_of : code.Told → ℕ
leaf_of (code.Told.Arrival l q f) = l
leaf_of (code.Told.Faulty l q) = l
leaf_of (code.Told.Close l q n) = l

-- each names a leaf of the strategy
abbrev pub NameLeaves : Strategy → List code.Told → Type 0
NameLeaves s ts = Each (λ t. leaf_of t < length (leaf_names s)) ts

-- a listed telling names a leaf, and is kept as what it tells
abbrev pub IsProper : Strategy → Entry → Type 0
IsProper s e = (e.number < length (leaf_names s)) × (kept_item s (marked (telling_of s e)).item
    ≡ kept_entry e)

abbrev pub tellings_of : Strategy → List Entry → List spec.Told
tellings_of s es = map (telling_of s) es

-- the first n of the listed tellings were made and the others are held; the first g items have come out
abbrev pub seen_as : Strategy → List (Name × ℕ) → List Entry → List Entry → ℕ → ℕ → Matching
seen_as s mismatch log out n g =
    record {
      strategy = s;
      mismatch = mismatch;
      told = tellings_of s (take n log);
      held = tellings_of s (drop n log);
      given = map outcome_of (take g out);
    }

-- what is so of every matcher between calls
pub record AreSound (s : Strategy) (mismatch : List (Name × ℕ)) (root : Filed)
    (log out : List Entry) (n g : ℕ) : Type 0 where
  pub suits : Suits mismatch s
  pub agree : DotsAgree (number_of mismatch) s
  pub fit : Each (λ e. IsFit (number_of mismatch) (telling_of s e)) log
  pub once : (p : Name) → Once (told_to (tellings_of s (take n log)) p)
  pub proper : Each (IsProper s) log
  pub done : IsDone (number_of mismatch) s root log out
  pub told_within : n ≤ length log
  pub given_within : g ≤ length (front n out)

abbrev pub matching : Matcher → Matching
matching m = seen_as (strategy_view m.tree) m.mismatch m.log m.out m.told m.given

-- and its places are made, where they have to be
pub record IsSound (m : Matcher) : Type 0 where
  pub keeps : AreSound (strategy_view m.tree) m.mismatch (filed m.root) m.log m.out m.told m.given
  pub placed : ArePlaced (strategy_depth (number_of m.mismatch) (strategy_view m.tree)) m.places
      m.out m.given

-- the next held telling is this one
abbrev pub IsNext : Matcher → Entry → Type 0
IsNext m e = (m.told < length m.log) × (entry_at m.log m.told ≡ e)

-- all that follows from what was told, in the order in which it comes out
abbrev pub in_order : Matcher → List Outcome
in_order m = map outcome_of (front m.told m.out)

-- something has not come out yet, and this is next
abbrev pub HasMore : Matcher → Type 0
HasMore m = (m.given < length m.out) × ((entry_at m.out m.given).number ≤ m.told)

abbrev pub next_out : Matcher → Outcome
next_out m = outcome_of (entry_at m.out m.given)

-- how a telling is listed
abbrev pub entry_of : code.Told → Entry
entry_of (code.Told.Arrival l q false) = entry l q (kinds.Kind.Job false)
entry_of (code.Told.Arrival l q true) = entry l q (kinds.Kind.Passed l)
entry_of (code.Told.Faulty l q) = entry l q (kinds.Kind.Job true)
entry_of (code.Told.Close l q n) = entry l q (kinds.Kind.Closed n)

-- whether a job is told to bind a value that holds a fault
abbrev pub is_faulty : kinds.Kind → Bool
is_faulty (kinds.Kind.Job b) = b
is_faulty (kinds.Kind.Closed n) = false
is_faulty (kinds.Kind.Passed l) = false

abbrev pub next_place : Matcher → Place
next_place m = (entry_at m.out m.given).place
