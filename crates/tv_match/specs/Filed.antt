-- The store that the code keeps, with the number of each item.
use Rattle.std.specs.Prelude.{◌≡◌, ℕ, List, Option, Some, None}
use Rattle.tv_matching.specs.Items.{item}
use Rattle.tv_matching.specs.Stores as spec
use Rattle.tv_matching.specs.Stores.{leaf_store, cross_store, dot_store}
use Rattle.tv_matching.specs.Matchers.{Kept}
use Rattle.tv_match.specs.Entries.{Entry, kind_view, front, AreMore}
use Rattle.tv_match.specs.Grouped.{Sought, sought}
use Rattle.tv_match.specs.declared.rests.Rests.{Rests}
use Rattle.tv_match.specs.declared.stores.News.{News}
use Rattle.tv_match.specs.declared.stores.Store.{Store, fold-Store}
use Rattle.tv_match.specs.declared.stores.Store.TheOpen.{Store-F}

pub data Filed : Type 0 where
  filed_leaf : Option ℕ → Filed
  filed_cross : List Entry → List Entry → Filed → Filed → Filed
  filed_dot : Option ℕ → List Entry → List Entry → Filed → Filed → Filed

-- by what the second child's items are found, and these
abbrev pub rests_view : Rests → Sought
rests_view (Rests.Same f) = sought None f
rests_view (Rests.Below g) = sought (Some g.value.depth) g.value.items

abbrev pub filed_step : Store-F Filed → Filed
filed_step (Store-F.Leaf l) = filed_leaf l
filed_step (Store-F.Cross es ys fresh f r) = filed_cross es ys f.value r.value
filed_step (Store-F.Dot xs ys fresh f r) = filed_dot (rests_view ys).key xs (rests_view ys).items f.value
    r.value

abbrev pub filed : Store → Filed
filed = fold-Store Filed filed_step

-- without numbers, by a reading of each list
module _ (read : List Entry → List Kept) where
  abbrev pub kept_store : Filed → spec.Store (Unit {0}) ℕ
  kept_store (filed_leaf l) = leaf_store l
  kept_store (filed_cross es ys f r) = cross_store (read es) (read ys) (kept_store f) (kept_store r)
  kept_store (filed_dot k xs ys f r) = dot_store k (read xs) (read ys) (kept_store f)
      (kept_store r)

-- without what tellings with greater numbers brought
abbrev pub fronted : ℕ → Filed → Filed
fronted n (filed_leaf l) = filed_leaf l
fronted n (filed_cross es ys f r) = filed_cross (front n es) (front n ys) (fronted n f)
    (fronted n r)
fronted n (filed_dot k xs ys f r) = filed_dot k (front n xs) (front n ys) (fronted n f)
    (fronted n r)

-- each list has more of this number, and nothing else changes
abbrev pub Adds : ℕ → Filed → Filed → Type 0
Adds n (filed_leaf l) (filed_leaf m) = l ≡ m
Adds n (filed_leaf l) (filed_cross fs zs g s) = ⊥
Adds n (filed_leaf l) (filed_dot k fs zs g s) = ⊥
Adds n (filed_cross es ys f r) (filed_leaf m) = ⊥
Adds n (filed_cross es ys f r) (filed_cross fs zs g s) = AreMore n es fs × AreMore n ys zs
    × Adds n f g × Adds n r s
Adds n (filed_cross es ys f r) (filed_dot k fs zs g s) = ⊥
Adds n (filed_dot k es ys f r) (filed_leaf m) = ⊥
Adds n (filed_dot k es ys f r) (filed_cross fs zs g s) = ⊥
Adds n (filed_dot k es ys f r) (filed_dot l fs zs g s) = AreMore n es fs × AreMore n ys zs
    × Adds n f g × Adds n r s × (k ≡ l)

-- what a leaf is told
abbrev pub news_view : News → spec.News (Unit {0}) ℕ
news_view n = record { leaf = n.leaf; item = item n.place.now (kind_view n.kind) }
