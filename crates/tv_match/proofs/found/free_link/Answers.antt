use Rattle.std.proofs.Common.{rules, ◌+◌, ◌*◌, slice_index_or, ap, arith}
use Rattle.tv_match.specs.Linked.{link_at}
use Rattle.tv_match.proofs.Linking.{seeks-start, seeks-next}
use Rattle.tv_match.proofs.found.free_link.Goals as goal

pub loop-link-init : goal.loop-link-init
loop-link-init c = seeks-start c.args.links.now c.args.count c.args.place.now c.digit-link.result c.requires.some c.digit-link.ensures.is

pub loop-link-preserved : goal.loop-link-preserved
loop-link-preserved c =
    let s = c.loop-link.invariant in
    seeks-next c.args.links.now c.args.count c.args.place.now c.requires.rising c.requires.within c.loop-link.link c.loop-link.level (4 * slice_index_or c.args.links.now c.loop-link.link 0 + c.digit.result) (c.loop-link.level + 1) s (search rules) (omega arith) (ap (λ d. 4 * link_at c.args.links.now c.loop-link.link + d) c.digit.ensures.is)
