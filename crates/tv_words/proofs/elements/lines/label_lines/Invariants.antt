use Rattle.std.proofs.Common.{string_bytes, take, ◌≡◌}
use Rattle.tv_words.specs.elements.Lines.{element_lines}
use Rattle.tv_words.proofs.elements.lines.label_lines.Given as goal

abbrev pub invariant-loop-label : goal.invariant-loop-label
invariant-loop-label l = string_bytes l.lines ≡ element_lines (take l.label-index l.label-items)
