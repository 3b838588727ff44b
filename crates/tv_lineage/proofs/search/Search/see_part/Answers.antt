use Rattle.std.proofs.Common.{[], subst, sym, ◌∷◌}
use Rattle.std.specs.BTreeMap.{get}
use Rattle.std.proofs.lemmas.Result.{on_ok_weaker}
use Rattle.tv_value.specs.Orders.{job_name_cmp}
use Rattle.tv_lineage.specs.Reaching.{Sees}
use Rattle.tv_lineage.specs.SearchViews.{search_view}
use Rattle.tv_lineage.specs.Views.{part_view}
use Rattle.tv_lineage.proofs.Seeing.{group-inside}
use Rattle.tv_lineage.proofs.search.Search.see_part.Goals as goal

pub see_group-requires : goal.see_group-requires
see_group-requires c = record { inside = group-inside _ _ _ c.args.part.now c.in-Group.is c.requires.inside }

pub returns-in-Group : goal.returns-in-Group
returns-in-Group c =
    let ns = get job_name_cmp c.args.numbers.now in
    on_ok_weaker c.see_group.result (λ h. subst (λ m. Sees ns (part_view m ∷ []) (search_view c.args.self.now) (search_view c.see_group.new.self)) (sym c.in-Group.is) (h ns)) c.see_group.ensures
