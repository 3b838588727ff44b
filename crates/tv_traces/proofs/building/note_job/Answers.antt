use Rattle.std.proofs.Common.{sym, ap, subst, ◌∙◌, ◌++◌, ◌∷◌, [], length, map}
use Rattle.tv_lemmas.specs.Members.{Each}
use Rattle.tv_flow.specs.Views.{flow_view}
use Rattle.tv_lineage.specs.Kept.{IsBefore, all_marks, is_noted, records_of}
use Rattle.tv_lineage.specs.Views.{part_view, with_job}
use Rattle.tv_traces.proofs.BuildingLemmas.{job-noted, job-there}
use Rattle.tv_traces.proofs.Groups.{bound-stands}
use Rattle.tv_traces.specs.Building.{telling}
use Rattle.tv_traces.specs.Views.{shapes_view}
use Rattle.tv_traces.proofs.Noting.{both-ok}
use Rattle.tv_traces.proofs.building.note_job.Goals as goal

pub returns-then-has : goal.returns-then-has
returns-then-has c = job-there (telling c.args.walk.now) c.args.place.now c.args.records.now (ap (λ n. is_noted n c.args.records.now) (sym c.in_ok-name.ensures) ∙ sym c.has.ensures ∙ c.if-has.true)

pub note_parts-requires-clause-before : goal.note_parts-requires-clause-before
note_parts-requires-clause-before c =
    let gs = c.args.records.now.groups in
    subst (λ ps. Each (IsBefore (length gs)) ps) (sym c.in_ok-parts.ensures)
    (bound-stands gs (flow_view c.args.walk.now.shown.flow.now) (shapes_view c.args.walk.now.shown.shapes.now) c.requires c.args.walk.now.ports.now c.args.walk.now.starts.now c.args.place.now).before

pub returns : goal.returns
returns c =
    both-ok c.note_parts.result
    (λ e f. job-noted (telling c.args.walk.now) c.args.place.now c.args.records.now c.note_parts.new.self (map part_view c.in_ok-parts.parts) (sym c.in_ok-is_settled.ensures ∙ c.if-not-is_settled.false) c.requires c.in_ok-parts.ensures
    (e ∙ ap (λ n. with_job n (map part_view c.in_ok-parts.parts) c.args.records.now) c.in_ok-name.ensures)
    (f ∙ ap (λ n. records_of c.args.records.now ++ record { job = n; used = all_marks c.args.records.now.groups (map part_view c.in_ok-parts.parts) } ∷ []) c.in_ok-name.ensures))
    c.note_parts.ensures.ok c.note_parts.ensures.records
