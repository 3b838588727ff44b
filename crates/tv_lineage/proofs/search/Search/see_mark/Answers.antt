use Rattle.std.proofs.Common.{[], subst, sym, ◌∷◌}
use Rattle.std.specs.BTreeMap.{get}
use Rattle.std.proofs.lemmas.Result.{on_ok_weaker}
use Rattle.tv_value.specs.Orders.{job_name_cmp}
use Rattle.tv_lineage.specs.Reaching.{Sees}
use Rattle.tv_lineage.specs.SearchViews.{search_view}
use Rattle.tv_lineage.specs.Views.{mark_part}
use Rattle.tv_lineage.proofs.Seeing.{job-inside, sees-job}
use Rattle.tv_lineage.proofs.search.Search.see_mark.Goals as goal

pub see_group-requires : goal.see_group-requires
see_group-requires c = record { inside = job-inside _ _ _ c.args.mark.now c.in-Made.name c.in-Made.is (sym c.in-Some.ensures.value) c.requires.inside }

pub returns-in-Given : goal.returns-in-Given
returns-in-Given c =
    let ns = get job_name_cmp c.args.numbers.now in
    on_ok_weaker c.see_element.result (λ h. subst (λ m. Sees ns (mark_part m ∷ []) (search_view c.args.self.now) (search_view c.see_element.new.self)) (sym c.in-Given.is) (h ns)) c.see_element.ensures

pub returns-in-Some : goal.returns-in-Some
returns-in-Some c =
    let ns = get job_name_cmp c.args.numbers.now in
    on_ok_weaker c.see_group.result (λ h. subst (λ m. Sees ns (mark_part m ∷ []) (search_view c.args.self.now) (search_view c.see_group.new.self)) (sym c.in-Made.is) (sees-job ns (search_view c.args.self.now) c.in-Made.name _ _ (sym c.in-Some.ensures.value) (h ns))) c.see_group.ensures
