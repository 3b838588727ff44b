use Rattle.std.proofs.Common.{ap, ◌∙◌, ◌++◌, filter_map, nat_eq}
use Rattle.std.specs.Prelude.{flat_map}
use Rattle.tv_report.specs.AskCounts.{accepted_number, numbered_line}
use Rattle.tv_report.specs.TraceLines.{tallied}
use Rattle.tv_report.proofs.NamedLines.{board-lines}
use Rattle.tv_report.proofs.traces.trace_lines.Goals as goal

pub returns : goal.returns
returns g c =
    c.of.ensures
    ∙ c.in_ok-push_lines.ensures
    ∙ ap (λ bs. bs ++ flat_map (numbered_line c.args.board.now.names) c.in_ok-counts.counts.entries) c.new-text.ensures.bytes
    ∙ ap (flat_map (numbered_line c.args.board.now.names)) c.in_ok-counts.ensures
    ∙ ap (λ es. flat_map (numbered_line c.args.board.now.names) (tallied nat_eq (filter_map accepted_number es))) c.history.ensures.history
    ∙ board-lines g.V.Services.gives c.args.board.now c.is_lawful.ensures.legal
