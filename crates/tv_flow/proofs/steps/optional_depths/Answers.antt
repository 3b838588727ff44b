use Rattle.tv_flow.specs.Formed.{is_depth}
use Rattle.tv_flow.proofs.Shapes.{unseen, kept-unseen}
use Rattle.tv_flow.proofs.steps.optional_depths.Goals as goal

pub returns-clause-read : goal.returns-clause-read
returns-clause-read c = unseen c.optional_named.result _ c.optional_named.ensures.read

pub returns-clause-kept : goal.returns-clause-kept
returns-clause-kept c = kept-unseen is_depth 0 16 c.optional_named.result c.optional_named.ensures.kept
