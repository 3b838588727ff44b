use Rattle.std.proofs.Common.{◌≡◌, map}
use Rattle.std.specs.List.{flat_map}
use Rattle.tv_flow.specs.DocumentViews.{document_view}
use Rattle.tv_flow.specs.Views.{activity_view}
use Rattle.tv_naming.specs.Naming.{activity_complaints, numbered}
use Rattle.tv_naming.specs.Faulty.{first_of}
use Rattle.tv_naming.proofs.Firsts.{from_numbered}
use Rattle.tv_naming.proofs.naming.activities_fault.Given as goal

abbrev pub invariant-loop-position : goal.invariant-loop-position
invariant-loop-position g l = first_of (flat_map (activity_complaints g.V.Services.knows (document_view l.document) l.name l.step_name) (numbered 0 (map (activity_view) l.activities))) ≡ from_numbered (activity_complaints g.V.Services.knows (document_view l.document) l.name l.step_name) (activity_view) l.position l.activity-items
