use Rattle.tv_top.proofs.Computed.{refuses_depth, refuses_circle, refuses_no_document, refuses_elements, refuses_loop}
use Rattle.tv_top.proofs.laws.worked_refusals.Goals as goal

pub returns-clause-depth : goal.returns-clause-depth
returns-clause-depth c = refuses_depth

pub returns-clause-circle : goal.returns-clause-circle
returns-clause-circle c = refuses_circle

pub returns-clause-no_document : goal.returns-clause-no_document
returns-clause-no_document c = refuses_no_document

pub returns-clause-elements : goal.returns-clause-elements
returns-clause-elements c = refuses_elements

pub returns-clause-unbuilt : goal.returns-clause-unbuilt
returns-clause-unbuilt c = refuses_loop
