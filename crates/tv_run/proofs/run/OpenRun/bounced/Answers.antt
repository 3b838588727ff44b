use Rattle.std.proofs.Common.{ap, map, refl, ◌≡◌, ◌∙◌}
use Rattle.std.specs.Prelude.{codes}
use Rattle.std.proofs.lemmas.Result.{IfOk-weaker}
use Rattle.tv_gate.specs.Outcomes.{Giving}
use Rattle.tv_flow.specs.Views.{step_view}
use Rattle.tv_dispatch.specs.Jobs.{error_results, fault_makers}
use Rattle.tv_cell.specs.PieceValues.{piece_values}
use Rattle.tv_model.specs.Jobs.{Job}
use Rattle.tv_instances.specs.Forest.{Instances}
use Rattle.tv_run.specs.Settlements.{IsBouncedJob}
use Rattle.tv_run.specs.Standing.{Stands}
use Rattle.tv_run.proofs.Bouncing.{job-low, known-as_it, of-open, result-is}
use Rattle.tv_run.proofs.run.OpenRun.bounced.Goals as goal

pub inputs_of-requires : goal.inputs_of-requires
inputs_of-requires c =
    let p = c.requires in
    (p.1, p.3.fits, of-open p.0 c.args.self.now p.1 c.args.job p.2 p.3 p.4)

pub full_name-requires : goal.full_name-requires
full_name-requires c =
    let p = c.requires in
    (p.1, p.3.fits, job-low p.0 c.args.self.now p.1 c.args.job p.2 p.3 p.4)

pub step_at-requires : goal.step_at-requires
step_at-requires c =
    let p = c.requires in
    (p.1, p.3.fits, job-low p.0 c.args.self.now p.1 c.args.job p.2 p.3 p.4)

pub returns-clause-values : goal.returns-clause-values
returns-clause-values c =
    let r = c.args.self.now in
    let k = c.args.job in
    let name = c.in_ok-name.name in
    let ins = piece_values c.as_slice.result.now in
    let outs = c.step_at.result.now.outputs in
    IfOk-weaker c.bounced_pieces.result
    (λ ps. piece_values ps ≡ error_results name (codes "bounced") (fault_makers ins) (map (λ o. o.1) outs))
    (λ ps.
    (gives : Giving) (xs : Instances) (j : Job) → Stands gives r xs → IsBouncedJob gives r xs k j
    → piece_values ps ≡ j.result)
    (λ ps h gives xs j st b.
    let known = known-as_it gives r xs k j st b in
    h
    ∙ ap (λ is. error_results name (codes "bounced") (fault_makers (piece_values is)) (map (λ o. o.1) outs)) c.as_slice.ensures
    ∙ result-is gives r xs k j st b name c.in_ok-name.ensures (piece_values c.in_ok-inputs.inputs)
    (c.in_ok-inputs.ensures.values xs _ b.instance b.view b.seat st.fits known.number known.there b.is_open known.seat)
    (step_view c.step_at.result.now) c.step_at.ensures outs refl)
    c.bounced_pieces.ensures.values
