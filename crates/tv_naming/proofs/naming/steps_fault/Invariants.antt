use Rattle.std.proofs.Common.{◌≡◌, map}
use Rattle.std.specs.List.{flat_map}
use Rattle.tv_flow.specs.DocumentViews.{document_view}
use Rattle.tv_flow.specs.Views.{flow_view, step_view}
use Rattle.tv_naming.specs.Naming.{step_naming}
use Rattle.tv_naming.specs.Faulty.{first_of}
use Rattle.tv_naming.proofs.Firsts.{from}
use Rattle.tv_naming.proofs.naming.steps_fault.Given as goal

abbrev pub invariant-loop-step_name : goal.invariant-loop-step_name
invariant-loop-step_name g l = first_of (flat_map (step_naming g.V.Services.knows (document_view l.document) l.name (flow_view l.flow)) (map (λ e. (e.0, step_view e.1)) l.flow.steps)) ≡ from (step_naming g.V.Services.knows (document_view l.document) l.name (flow_view l.flow)) (λ e. (e.0, step_view e.1)) l.step_name-index l.step_name-items
