use Rattle.std.proofs.Common.{◌≡◌, drop}
use Rattle.serde_json.specs.Data.{no_members}
use Rattle.serde_json.specs.View.{members_view}
use Rattle.tv_flow.specs.Views.{each}
use Rattle.tv_json.specs.Documents.{put_each}
use Rattle.tv_json.proofs.printed.named.Given as goal

abbrev pub invariant-loop-index : goal.invariant-loop-index
invariant-loop-index g l = put_each g.T.Printed.printed no_members (each g.T.Printed.seen l.things) ≡ put_each g.T.Printed.printed (members_view l.members.entries) (each g.T.Printed.seen (drop l.index l.things))
