use Rattle.std.proofs.Common.{◌≡◌, ◌++◌, take}
use Rattle.std.specs.Prelude.{flat_map}
use Rattle.tv_flow.specs.Views.{link_view}
use Rattle.tv_model.specs.instance.Ranks.{link_step}
use Rattle.tv_check.specs.NamedGraphs.{numbers_of}
use Rattle.tv_check.proofs.graphs.push_links.Given as goal

abbrev pub invariant-loop-link : goal.invariant-loop-link
invariant-loop-link l = l.numbers.items ≡ l.initial.numbers.items ++ numbers_of l.steps (flat_map (λ x. link_step (link_view x)) (take l.link-index l.link-items))
