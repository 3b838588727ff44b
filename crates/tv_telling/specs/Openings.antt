-- What a port is told before anything happens, by the numbers of inputs and by its leaf: all of inputs of the flow and of constants,
-- of merges their lists, and of outputs of steps nothing.
use Rattle.std.specs.List.{list_all, list_any}
use Rattle.std.specs.Prelude.{◌≡◌, ℕ, zero, suc, ◌<◌, Bool, true, false, List, [], ◌∷◌, ◌++◌, length, Option, Some, None, slice_index_or}
use Rattle.std.specs.Borrow.{Bor}
use Rattle.tv_lemmas.specs.Members.{Each}
use Rattle.tv_value.specs.Nested.{Place, list, no_trees}
use Rattle.tv_value.specs.Strategies.{Strategy}
use Rattle.tv_value.specs.Values.{Name, Value, holds_fault}
use Rattle.tv_value.specs.Views.{view}
use Rattle.tv_cell.specs.declared.cell.Cell.{Cell}
use Rattle.tv_matching.specs.Items.{if_so}
use Rattle.tv_matching.specs.Matchers.{leaf_name}
use Rattle.tv_matching.specs.Told.{Told, close}
use Rattle.tv_telling.specs.ValueTellings.{bound_told, value_told}
use Rattle.tv_check.specs.declared.feeds.NumberedFeed.{NumberedFeed}
use Rattle.tv_check.specs.declared.feeds.NumberedFeed.TheVariants.{Constant, Link, Merge}
use Rattle.tv_check.specs.declared.feeds.NumberedLink.{NumberedLink}
use Rattle.tv_check.specs.declared.feeds.NumberedLink.TheVariants.{Input, Output}
use Rattle.tv_check.specs.declared.ports.Port.{Port}

-- the link comes from an input of the flow, and so is known
abbrev pub is_numbered_input : NumberedLink → Bool
is_numbered_input (Input x) = true
is_numbered_input (Output s o) = false

abbrev pub is_numbered_given : NumberedFeed → Bool
is_numbered_given (Link l) = is_numbered_input l
is_numbered_given (Merge ls) = list_all is_numbered_input ls
is_numbered_given Constant = true

-- the values of the flow's inputs in their order
module _ (values : List Value) where
  abbrev pub input_at : ℕ → Value
  input_at x = slice_index_or values x (list tt no_trees)

  abbrev pub numbered_input_faulty : NumberedLink → Bool
  numbered_input_faulty (Input x) = holds_fault (input_at x)
  numbered_input_faulty (Output s o) = false

  abbrev pub numbered_link_start : Name → ℕ → Place → NumberedLink → List Told
  numbered_link_start p k q (Input x) = value_told p k q (input_at x)
  numbered_link_start p k q (Output s o) = []

  abbrev pub numbered_links_start : Name → ℕ → ℕ → List NumberedLink → List Told
  numbered_links_start p k i [] = []
  numbered_links_start p k i (l ∷ ls) = numbered_link_start p k (i ∷ []) l
      ++ numbered_links_start p k (suc i) ls

-- and the constant, where the feed is one
module _ (values : List Value) (fixed_value : Value) where
  abbrev pub numbered_given_faulty : NumberedFeed → Bool
  numbered_given_faulty (Link l) = numbered_input_faulty values l
  numbered_given_faulty (Merge ls) = list_any (numbered_input_faulty values) ls
  numbered_given_faulty Constant = holds_fault fixed_value

  abbrev pub numbered_feed_start : Name → ℕ → NumberedFeed → List Told
  numbered_feed_start p zero f = if_so (is_numbered_given f)
      (bound_told p [] (numbered_given_faulty f))
  numbered_feed_start p (suc k) (Link l) = numbered_link_start values p (suc k) [] l
  numbered_feed_start p (suc k) (Merge ls) =
      close p [] (length ls) ∷ numbered_links_start values p k 0 ls
  numbered_feed_start p (suc k) Constant = value_told p (suc k) [] fixed_value

  abbrev pub numbered_port_start : Strategy → Port → List Told
  numbered_port_start s p = numbered_feed_start (leaf_name s p.leaf) p.levels p.feed

-- the constant that is lent
abbrev pub fixed_in : Option (Bor Cell) → Value
fixed_in None = list tt no_trees
fixed_in (Some c) = view c.now

-- ---- of what is there

-- the links come from the first n inputs, or from outputs
abbrev pub IsInput : ℕ → NumberedLink → Type 0
IsInput n (Input x) = x < n
IsInput n (Output s o) = Unit {0}

-- the same of a feed, which may have so many links, and has its constant where it is one
abbrev pub IsFedFrom : ℕ → Bool → NumberedFeed → Type 0
IsFedFrom n fixed (Link l) = IsInput n l
IsFedFrom n fixed (Merge ls) = Each (IsInput n) ls × (length ls < 4294967296)
IsFedFrom n fixed Constant = fixed ≡ true
