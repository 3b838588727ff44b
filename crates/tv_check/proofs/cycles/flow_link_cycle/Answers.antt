use Rattle.std.proofs.Common.{Some, ap, sym, ◌∙◌, subst, ◌<◌, length, get_or}
use Rattle.tv_value.specs.Values.{Name}
use Rattle.tv_flow.specs.Views.{step_view, flow_view}
use Rattle.tv_naming.specs.graphs.Graphs.{first_on_cycle}
use Rattle.tv_model.specs.instance.Ranks.{earlier_steps}
use Rattle.tv_naming.specs.Faulty.{at_step, link_cycle, CheckComplaint, plainly}
use Rattle.tv_check.proofs.CycleLemmas.{no-cycle, cycle-inside, cycle-told}
use Rattle.tv_naming.proofs.Forms.{steps-named, rise-each}
use Rattle.tv_check.proofs.cycles.flow_link_cycle.Goals as goal

abbrev complaint : Name → Name → CheckComplaint
complaint f s = plainly link_cycle (at_step f s)

pub step_graph-requires-clause-in_order : goal.step_graph-requires-clause-in_order
step_graph-requires-clause-in_order c = rise-each step_view c.args.flow.now.steps (steps-named (flow_view c.args.flow.now) c.requires).rise

pub bounds-as_slice-step : goal.bounds-as_slice-step
bounds-as_slice-step c =
    let f = flow_view c.args.flow.now in
    subst (λ n. c.in-Some.step < n) (ap length (sym c.as_slice.ensures))
    (cycle-inside step_view earlier_steps c.args.flow.now.steps (steps-named f c.requires).rise (complaint c.args.name.now) c.in-Some.step (ap first_on_cycle (sym c.in_ok-graph.ensures) ∙ sym c.in_ok-step.ensures ∙ c.in-Some.is))

pub returns-in-Some : goal.returns-in-Some
returns-in-Some c =
    let f = flow_view c.args.flow.now in
    let x = c.index-as_slice-step.result in
    ap Some c.in_ok-link_cycle-in-Some.ensures
    ∙ ap (λ xs. Some (complaint c.args.name.now (get_or xs c.in-Some.step x).0)) c.as_slice.ensures
    ∙ sym (cycle-told step_view earlier_steps c.args.flow.now.steps (steps-named f c.requires).rise (complaint c.args.name.now) c.in-Some.step (ap first_on_cycle (sym c.in_ok-graph.ensures) ∙ sym c.in_ok-step.ensures ∙ c.in-Some.is) x)

pub returns : goal.returns
returns c =
    let f = flow_view c.args.flow.now in
    sym (no-cycle earlier_steps f.steps (steps-named f c.requires).rise (complaint c.args.name.now) (ap first_on_cycle (sym c.in_ok-graph.ensures) ∙ sym c.in_ok-step.ensures ∙ c.in-None.is))
