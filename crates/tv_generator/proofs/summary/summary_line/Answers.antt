use Rattle.std.proofs.Common.{◌∙◌, append_assoc, ℕ}
use Rattle.tv_generator.proofs.summary.summary_line.Goals as goal

pub returns : goal.returns
returns c = c.of.ensures ∙ c.in_ok-line.ensures.ok ∙ simp append_assoc
