use Rattle.std.proofs.Common.{map, ◌≡◌}
use Rattle.tv_value.specs.Views.{view}
use Rattle.tv_generator.specs.Parts.{first_values, text_of}
use Rattle.tv_generator.proofs.texts.first_texts.Given as goal

abbrev pub invariant-loop-index : goal.invariant-loop-index
invariant-loop-index l = map view l.values.items ≡ first_values (text_of l.side) l.index
