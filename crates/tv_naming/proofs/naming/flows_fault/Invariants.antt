use Rattle.std.proofs.Common.{◌≡◌, map}
use Rattle.std.specs.List.{flat_map}
use Rattle.tv_flow.specs.DocumentViews.{document_view}
use Rattle.tv_flow.specs.Views.{flow_view}
use Rattle.tv_naming.specs.Naming.{flow_naming}
use Rattle.tv_naming.specs.Faulty.{first_of}
use Rattle.tv_naming.proofs.Firsts.{from}
use Rattle.tv_naming.proofs.naming.flows_fault.Given as goal

abbrev pub invariant-loop-name : goal.invariant-loop-name
invariant-loop-name g l = first_of (flat_map (flow_naming g.V.Services.knows (document_view l.document)) (map (λ e. (e.0, flow_view e.1)) l.document.flows)) ≡ from (flow_naming g.V.Services.knows (document_view l.document)) (λ e. (e.0, flow_view e.1)) l.name-index l.name-items
