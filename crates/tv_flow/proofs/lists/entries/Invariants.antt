use Rattle.std.proofs.Common.{◌≡◌, ◌&&◌, true}
use Rattle.std.specs.List.{list_all}
use Rattle.serde_json.specs.View.{members_view}
use Rattle.tv_flow.specs.PathViews.{at_view}
use Rattle.tv_flow.specs.Views.{each}
use Rattle.tv_flow.specs.Forms.{is_name, entries_form}
use Rattle.tv_flow.proofs.Growing.{put_before, entries_of}
use Rattle.tv_flow.proofs.lists.entries.Given as goal

abbrev pub invariant-loop-key : goal.invariant-loop-key
invariant-loop-key g l =
    let form = g.T.Formed.form l.format in
    let seen = each g.T.Formed.seen l.things.items in
    record {
      read : entries_form form (at_view l.at) (members_view l.members.entries) ≡ put_before seen (entries_of form (at_view l.at) l.key-iterator);
      kept : list_all (λ e. is_name e.0 && g.T.Formed.keeps e.1) seen ≡ true;
      fits : list_all (λ e. g.T.Formed.fits l.format e.1) seen ≡ true;
    }
