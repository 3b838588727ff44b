-- The items that are kept, each with the number of the telling that brought it.
use Rattle.std.specs.Prelude.{◌≡◌, ℕ, ◌<◌, ◌≤◌, Bool, true, false, List, [], ◌∷◌, ◌++◌, map, take, get_or, nat_lt}
use Rattle.tv_lemmas.specs.Members.{Each}
use Rattle.tv_value.specs.Nested.{Place}
use Rattle.tv_matching.specs.Items as items
use Rattle.tv_matching.specs.Items.{ends, closes, passes, item, if_so}
use Rattle.tv_matching.specs.Matched.{same}
use Rattle.tv_matching.specs.Stores.{latest_by}
use Rattle.tv_matching.specs.Matchers.{Kept}
use Rattle.tv_match.specs.declared.kinds.Kind as code

pub record Entry : Type 0 where
  pub number : ℕ
  pub place : Place
  pub kind : code.Kind

abbrev pub entry : ℕ → Place → code.Kind → Entry
entry n q k = record { number = n; place = q; kind = k }

abbrev pub no_entry : Entry
no_entry = entry 0 [] (code.Kind.Job false)

abbrev pub entry_at : List Entry → ℕ → Entry
entry_at es i = get_or es i no_entry

abbrev pub places_of : List Entry → List Place
places_of es = map (λ e. e.place) es

-- ---- as items

abbrev pub kind_view : code.Kind → items.Kind (Unit {0}) ℕ
kind_view (code.Kind.Job b) = ends (if_so b tt)
kind_view (code.Kind.Closed n) = closes n
kind_view (code.Kind.Passed l) = passes l

abbrev pub kept_entry : Entry → Kept
kept_entry e = item e.place (kind_view e.kind)

abbrev pub kepts : List Entry → List Kept
kepts es = map kept_entry es

-- ---- by their numbers

-- all but those at the end that a telling with a greater number brought
abbrev pub before_last : List Entry → Bool → Entry → List Entry
before_last [] true e = []
before_last [] false e = e ∷ []
before_last (f ∷ fs) late e = e ∷ f ∷ fs

abbrev pub front : ℕ → List Entry → List Entry
front n [] = []
front n (e ∷ es) = before_last (front n es) (nat_lt n e.number) e

-- the new list has the old one in front, and then what the telling with this number brought
pub record AreMore (n : ℕ) (old new : List Entry) : Type 0 where
  pub more : List Entry
  pub new_is : new ≡ old ++ more
  pub are_of : Each (λ e. e.number ≡ n) more

-- the item at i is the last before `before` that has this key
pub record FoundBy (key : Place → Place) (q : Place) (es : List Entry) (before i : ℕ) : Type 0 where
  pub is_before : i < before
  pub is_there : key (entry_at es i).place ≡ q
  pub is_last : latest_by key q (kepts (take before es)) ≡ kept_entry (entry_at es i)
      ∷ latest_by key q (kepts (take i es))

-- that stands at the place
abbrev pub FoundBefore : Place → List Entry → ℕ → ℕ → Type 0
FoundBefore q es before i = FoundBy same q es before i

-- no item has a smaller number than one before it
abbrev pub Rise : List Entry → Type 0
Rise [] = Unit {0}
Rise (e ∷ es) = Each (λ f. e.number ≤ f.number) es × Rise es
