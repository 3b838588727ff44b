use Rattle.std.proofs.Common.{◌≡◌, take, string_bytes}
use Rattle.std.specs.Prelude.{flat_map}
use Rattle.tv_check.specs.RunViews.{run_view}
use Rattle.tv_report.specs.DepthLines.{flow_lines}
use Rattle.tv_report.proofs.depths.depth_lines.Given as goal

abbrev pub invariant-loop-number : goal.invariant-loop-number
invariant-loop-number l = string_bytes l.text ≡ flat_map flow_lines (take l.number (run_view l.run).flows)
