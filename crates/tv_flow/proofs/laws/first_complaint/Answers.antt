use Rattle.std.specs.Prelude.{[]}
use Rattle.tv_flow.proofs.laws.first_complaint.Goals as goal
use Rattle.tv_flow.proofs.FirstOfAll.{document-leads}

-- src/laws.rt:6:1
pub returns : goal.returns
returns c = document-leads []
