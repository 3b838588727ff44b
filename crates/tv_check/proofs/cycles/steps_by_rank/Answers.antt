use Rattle.std.proofs.Common.{◌≡◌, ap, sym, ◌∙◌, length}
use Rattle.std.specs.Prelude.{nat_lt}
use Rattle.std.specs.List.{list_all}
use Rattle.tv_flow.specs.Views.{each, step_view, flow_view}
use Rattle.tv_naming.specs.graphs.Graphs.{by_least}
use Rattle.tv_check.specs.RankNumbers.{numbers_by_rank}
use Rattle.tv_naming.proofs.Forms.{steps-named, rise-each, length-each}
use Rattle.tv_check.proofs.Ranks.{ranked-numbers, ranked-below}
use Rattle.tv_check.proofs.cycles.steps_by_rank.Goals as goal

pub step_graph-requires-clause-in_order : goal.step_graph-requires-clause-in_order
step_graph-requires-clause-in_order c = rise-each step_view c.args.flow.now.steps (steps-named (flow_view c.args.flow.now) c.requires.formed).rise

ordered : (c : goal.After-drop-graph-inside-2) → c.in_ok-numbers.numbers.items ≡ numbers_by_rank (each step_view c.args.flow.now.steps)
ordered c =
    let f = flow_view c.args.flow.now in
    c.in_ok-numbers.ensures ∙ ap by_least c.in_ok-graph.ensures ∙ sym (ranked-numbers f.steps (steps-named f c.requires.formed).rise c.requires.inside)

pub returns-clause-order : goal.returns-clause-order
returns-clause-order c = ordered c

pub returns-clause-below : goal.returns-clause-below
returns-clause-below c =
    let f = flow_view c.args.flow.now in
    ap (λ n. list_all (λ v. nat_lt v n) c.in_ok-numbers.numbers.items) (sym (length-each step_view c.args.flow.now.steps))
    ∙ ap (list_all (λ v. nat_lt v (length f.steps))) (ordered c)
    ∙ ranked-below f.steps (steps-named f c.requires.formed).rise
