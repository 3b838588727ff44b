use Rattle.std.proofs.Common.{◌≡◌, ◌+◌, ◌++◌, ◌∷◌, [], Ok, map, ap, sym, subst, ◌∙◌, arith}
use Rattle.std.proofs.lemmas.List.{map-append}
use Rattle.std.specs.List.{list_all}
use Rattle.serde_json.specs.View.{view as json_view}
use Rattle.tv_flow.specs.Complaints.{Path, index}
use Rattle.tv_flow.specs.PathViews.{at_view}
use Rattle.tv_flow.proofs.Places.{at-Index}
use Rattle.tv_flow.proofs.Growing.{put_before, items_from, items-more, all-push}
use Rattle.tv_flow.proofs.lists.things.Goals as goal

pub loop-index-preserved : goal.loop-index-preserved
loop-index-preserved g c =
    let form = g.T.Formed.form c.args.format in
    let seen = g.T.Formed.seen in
    let here = at_view c.args.at.now in
    let xs = c.args.items.now in
    let i = c.loop-index.index in
    let things = c.loop-index.things.items in
    let a = seen c.in_ok-thing.thing in
    let grown : map seen c.push.new.self.items ≡ map seen things ++ a ∷ [] = ap (map seen) c.in_ok-push.ensures.items ∙ map-append seen things (c.in_ok-thing.thing ∷ []) in
    record {
      read =
          c.loop-index.invariant.read
          ∙ items-more form here xs i c.index-items-index.result (map seen things) a (omega arith) (subst (λ j. form (index here i) (json_view j) ≡ Ok a) c.index-items-index.is (ap (λ (p : Path). form p (json_view c.index-items-index.result)) (sym (at-Index c.args.at i)) ∙ c.in_ok-thing.ensures.read))
          ∙ ap (λ ys. put_before ys (items_from form here xs (i + 1))) (sym grown);
      kept = ap (list_all g.T.Formed.keeps) grown ∙ all-push g.T.Formed.keeps (map seen things) a c.loop-index.invariant.kept c.in_ok-thing.ensures.kept;
    }
