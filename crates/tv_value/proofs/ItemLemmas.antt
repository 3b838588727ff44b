-- The depths of a list of values, item by item.
use Rattle.std.specs.Prelude.{◌≡◌, ℕ, List, [], ◌∷◌, map, refl, ◌&&◌}
use Rattle.std.specs.List.{list_all}
use Rattle.std.proofs.Common.{ap, ◌∙◌}
use Rattle.tv_value.specs.Nested.{Tree, items, trees_of}
use Rattle.tv_value.specs.Values.{has_depth, all_have_depth}
use Rattle.tv_value.specs.declared.value.Value.{Value}
use Rattle.tv_value.specs.declared.value.Items.{Items}
use Rattle.tv_value.specs.declared.value.Value.TheFolds.{fold_out-Items}
use Rattle.tv_value.specs.Views.{view, items_view, values_view, value_step, items_step}

pub all_have_depth-each : (vs : List Value) (d : ℕ) → all_have_depth (trees_of (map view vs)) d ≡ list_all (λ v. has_depth (view v) d) vs
all_have_depth-each [] d = refl
all_have_depth-each (v ∷ vs) d = ap (λ b. has_depth (view v) d && b) (all_have_depth-each vs d)

-- the view of a list is made of its items'
pub items_view-each : (vs : Items) → items_view vs ≡ trees_of (map view vs.values.items)
items_view-each vs = fold_out-Items _ _ value_step items_step vs

pub items-trees_of : {N A : Type 0} (ts : List (Tree N A)) → items (trees_of ts) ≡ ts
items-trees_of [] = refl
items-trees_of (t ∷ ts) = ap (λ us. t ∷ us) (items-trees_of ts)

-- the values of a list are the views of its items
pub values_view-each : (vs : Items) → values_view vs ≡ map view vs.values.items
values_view-each vs = ap items (items_view-each vs) ∙ items-trees_of (map view vs.values.items)
