use Rattle.std.proofs.Common.{ap, sym, ◌∙◌, map}
use Rattle.tv_value.specs.Nested.{items}
use Rattle.tv_value.specs.Views.{view}
use Rattle.tv_value.proofs.ItemLemmas.{items-trees_of}
use Rattle.tv_local.proofs.input.items_of.Goals as goal

pub returns : goal.returns
returns c = sym (items-trees_of (map view c.children_of.result.now)) ∙ ap items c.children_of.ensures
