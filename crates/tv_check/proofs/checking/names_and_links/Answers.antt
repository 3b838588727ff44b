use Rattle.std.proofs.lemmas.Bool.{and_parts}
use Rattle.tv_flow.specs.DocumentViews.{document_view}
use Rattle.tv_check.proofs.Inside.{names-inside}
use Rattle.tv_check.proofs.checking.names_and_links.Goals as goal

pub nestings-requires-clause-inside : goal.nestings-requires-clause-inside
nestings-requires-clause-inside g c = (and_parts _ _ (names-inside g.V.Services.knows (document_view c.args.document.now) (c.in_ok-told.ensures _ c.in_ok-naming_fault.ensures))).0
