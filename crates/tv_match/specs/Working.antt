-- What the stores and the items at the top have of a list of tellings: after each of them what is worked out of those up to it.
use Rattle.std.specs.Prelude.{◌≡◌, ℕ, ◌≤◌, List, [], ◌∷◌, map, length, take, Some, None}
use Rattle.tv_lemmas.specs.Members.{Each}
use Rattle.tv_value.specs.Values.{Name}
use Rattle.tv_value.specs.Strategies.{Strategy}
use Rattle.tv_matching.specs.Items.{ends, here}
use Rattle.tv_matching.specs.Stores.{News, store_for, store_after, worked_items}
use Rattle.tv_match.specs.Entries.{Entry, kept_entry, kepts, front, Rise}
use Rattle.tv_match.specs.Brief.{briefs, brief_store}
use Rattle.tv_match.specs.Filed.{Filed, filed_leaf, filed_cross, filed_dot, kept_store}

-- what a strategy without children has from the start
abbrev pub unit_news : News (Unit {0}) ℕ
unit_news = record { leaf = None; item = here (ends []) }

-- a telling that is listed has the number of its leaf
abbrev pub news_of : Entry → News (Unit {0}) ℕ
news_of e = record { leaf = Some e.number; item = kept_entry e }

abbrev pub news_to : ℕ → List Entry → List (News (Unit {0}) ℕ)
news_to k log = unit_news ∷ map news_of (take k log)

-- nothing came with a greater number
abbrev pub IsFull : ℕ → Filed → Type 0
IsFull n (filed_leaf l) = Unit {0}
IsFull n (filed_cross es ys f r) = (front n es ≡ es) × (front n ys ≡ ys) × IsFull n f × IsFull n r
IsFull n (filed_dot k xs ys f r) = (front n xs ≡ xs) × (front n ys ≡ ys) × IsFull n f × IsFull n r

-- up to the telling m
pub record IsWorked (ports : Name → ℕ) (s : Strategy) (m : ℕ) (root : Filed) (log out : List Entry) : Type 0 where
  pub store : (k : ℕ) → k ≤ m → kept_store (λ es. kepts (front k es)) root
      ≡ brief_store (store_after (store_for ports 0 s) (news_to k log))
  pub items : (k : ℕ) → k ≤ m → kepts (front k out)
      ≡ briefs (worked_items (store_for ports 0 s) (news_to k log))

-- and no further
pub record IsDone (ports : Name → ℕ) (s : Strategy) (root : Filed) (log out : List Entry) : Type 0 where
  pub worked : IsWorked ports s (length log) root log out
  pub full : IsFull (length log) root
  pub out_full : front (length log) out ≡ out
  pub rise : Rise out
  pub at_most : Each (λ e. e.number ≤ length log) out
