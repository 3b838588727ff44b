use Rattle.std.proofs.Common.{◌++◌, ap, sym, ◌∙◌, map}
use Rattle.std.specs.Prelude.{flat_map}
use Rattle.tv_flow.specs.Views.{link_view}
use Rattle.tv_model.specs.instance.Ranks.{link_step}
use Rattle.tv_naming.specs.Numbers.{number_in}
use Rattle.tv_check.specs.NamedGraphs.{numbers_of}
use Rattle.tv_naming.proofs.Lists.{one-more, all-now, flat_map-map}
use Rattle.tv_check.proofs.graphs.push_links.Goals as goal

pub loop-link-preserved : goal.loop-link-preserved
loop-link-preserved c =
    one-more (number_in c.args.steps.now) (λ x. link_step (link_view x)) c.args.numbers.now.items c.loop-link.numbers.items _ c.as_slice-link-items.result.now c.loop-link.link-index c.link-item.result c.loop-link-test.true c.link-item.is c.loop-link.invariant c.in_ok-push_link.ensures

pub returns : goal.returns
returns c =
    all-now (number_in c.args.steps.now) (λ x. link_step (link_view x)) c.args.numbers.now.items c.loop-link.numbers.items c.as_slice-link-items.result.now c.loop-link.link-index c.loop-link-test.false c.loop-link.invariant
    ∙ ap (λ xs. c.args.numbers.now.items ++ numbers_of c.args.steps.now xs) (sym (flat_map-map link_step link_view c.as_slice-link-items.result.now) ∙ ap (λ ls. flat_map link_step (map link_view ls)) c.as_slice-link-items.ensures)
