use Rattle.std.proofs.Common.{◌≡◌, map, true}
use Rattle.std.specs.List.{list_all}
use Rattle.serde_json.specs.View.{items_view as json_items}
use Rattle.tv_flow.specs.PathViews.{at_view}
use Rattle.tv_flow.specs.Forms.{items_form}
use Rattle.tv_flow.proofs.Growing.{put_before, items_from}
use Rattle.tv_flow.proofs.lists.things.Given as goal

abbrev pub invariant-loop-index : goal.invariant-loop-index
invariant-loop-index g l =
    let form = g.T.Formed.form l.format in
    let seen = map g.T.Formed.seen l.things.items in
    record {
      read : items_form form (at_view l.at) 0 (json_items l.items) ≡ put_before seen (items_from form (at_view l.at) l.items l.index);
      kept : list_all g.T.Formed.keeps seen ≡ true;
    }
