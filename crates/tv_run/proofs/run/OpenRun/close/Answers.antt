use Rattle.std.specs.Prelude.{length, slice_index_or}
use Rattle.std.proofs.Common.{ap, arith, ◌∙◌}
use Rattle.tv_check.specs.RunViews.{run_view}
use Rattle.tv_run.proofs.Ending.{open-some}
use Rattle.tv_run.proofs.Itself.{number-low, open-low, open-read}
use Rattle.tv_run.proofs.Shut.{changes-closed, closes, leaves-others, names-closed, with_closed}
use Rattle.tv_run.proofs.run.OpenRun.close.Goals as goal

pub index_mut-ended-requires : goal.index_mut-ended-requires
index_mut-ended-requires c =
    let q = c.requires in
    let r = c.args.self.now in
    let low = number-low r c.args.instance q.0 q.1 q.2 q.3 in
    omega (arith, low, r.instances.ok.0)

pub index_mut-requires : goal.index_mut-requires
index_mut-requires c =
    let q = c.requires in
    let g = c.index_mut-ended.result.now in
    let low = open-low c.args.self.now c.args.instance q.0 q.1 q.2 q.3 g c.index_mut-ended.ensures.value in
    let same = ap (λ v. length v.items) c.replace-slot.ensures.value in
    omega (arith, low, same, c.replace-slot.result.ok.0)

pub finish-outs-requires : goal.finish-outs-requires
finish-outs-requires c =
    let q = c.requires in
    let r = c.args.self.now in
    let i = c.args.instance in
    let g = c.index_mut-ended.result.now in
    let p = c.index_mut.result.now in
    let same =
    open-read r i q.0 q.1 q.2 q.3 g c.index_mut-ended.ensures.value p (c.index_mut.ensures.value ∙ ap (λ w. slice_index_or w.items 0 p) c.replace-slot.ensures.value) in
    let w = open-some r i q.0 q.1 q.2 q.3 p same in
    record { ended = (run_view r.run, w.0, q.2, w.1, q.4) }

pub returns-clause-outputs : goal.returns-clause-outputs
returns-clause-outputs c = λ xs x v here ends.
    let r = c.args.self.now in
    let i = c.args.instance in
    let g = c.index_mut-ended.result.now in
    let p = c.index_mut.result.now in
    let same = open-read r i xs x v here g c.index_mut-ended.ensures.value p (c.index_mut.ensures.value ∙ ap (λ w. slice_index_or w.items 0 p) c.replace-slot.ensures.value) in
    let w = open-some r i xs x v here p same in
    c.finish-outs.ensures.outputs (run_view r.run) w.0 v w.1

pub returns-clause-levels : goal.returns-clause-levels
returns-clause-levels c = λ xs x v here ends.
    let r = c.args.self.now in
    let i = c.args.instance in
    let g = c.index_mut-ended.result.now in
    let p = c.index_mut.result.now in
    let same = open-read r i xs x v here g c.index_mut-ended.ensures.value p (c.index_mut.ensures.value ∙ ap (λ w. slice_index_or w.items 0 p) c.replace-slot.ensures.value) in
    let w = open-some r i xs x v here p same in
    c.finish-outs.ensures.levels (run_view r.run) w.0 v w.1

pub returns-clause-shut : goal.returns-clause-shut
returns-clause-shut c = λ xs x v here ends.
    let r = c.args.self.now in
    let i = c.args.instance in
    let g = c.index_mut-ended.result.now in
    let p = c.index_mut.result.now in
    let same = open-read r i xs x v here g c.index_mut-ended.ensures.value p (c.index_mut.ensures.value ∙ ap (λ w. slice_index_or w.items 0 p) c.replace-slot.ensures.value) in
    changes-closed r i xs x v here _ g c.index_mut-ended.ensures.value p same
    (closes r i g p c.replace-slot.new.dest (ap (λ w. w.items) c.replace-slot.ensures.after ∙ c.new.ensures.items)
    c.replace-numbers.new.dest (ap (λ w. w.items) c.replace-numbers.ensures.after ∙ c.new-2.ensures.items) c.finish-outs.result.1 c.finish-outs.ensures.seats
    c.finish-outs.new.pool c.finish-outs.ensures.gone c.keep.new.leftovers)

pub returns-clause-others : goal.returns-clause-others
returns-clause-others c = λ xs x v here ends.
    let r = c.args.self.now in
    let i = c.args.instance in
    let g = c.index_mut-ended.result.now in
    let p = c.index_mut.result.now in
    let same = open-read r i xs x v here g c.index_mut-ended.ensures.value p (c.index_mut.ensures.value ∙ ap (λ w. slice_index_or w.items 0 p) c.replace-slot.ensures.value) in
    leaves-others r i xs x v here _ g c.index_mut-ended.ensures.value p same
    (closes r i g p c.replace-slot.new.dest (ap (λ w. w.items) c.replace-slot.ensures.after ∙ c.new.ensures.items)
    c.replace-numbers.new.dest (ap (λ w. w.items) c.replace-numbers.ensures.after ∙ c.new-2.ensures.items) c.finish-outs.result.1 c.finish-outs.ensures.seats
    c.finish-outs.new.pool c.finish-outs.ensures.gone c.keep.new.leftovers)
    c.finish-outs.ensures.spare

pub returns-clause-names : goal.returns-clause-names
returns-clause-names c =
    let q = c.requires in
    let r = c.args.self.now in
    let i = c.args.instance in
    let g = c.index_mut-ended.result.now in
    let p = c.index_mut.result.now in
    let same =
    open-read r i q.0 q.1 q.2 q.3 g c.index_mut-ended.ensures.value p (c.index_mut.ensures.value ∙ ap (λ w. slice_index_or w.items 0 p) c.replace-slot.ensures.value) in
    names-closed r i q.0 q.1 q.2 q.3
    (with_closed r i g c.replace-slot.new.dest c.replace-numbers.new.dest c.finish-outs.result.1 c.finish-outs.new.pool c.keep.new.leftovers)
    g c.index_mut-ended.ensures.value p same
    (closes r i g p c.replace-slot.new.dest (ap (λ w. w.items) c.replace-slot.ensures.after ∙ c.new.ensures.items)
    c.replace-numbers.new.dest (ap (λ w. w.items) c.replace-numbers.ensures.after ∙ c.new-2.ensures.items) c.finish-outs.result.1 c.finish-outs.ensures.seats
    c.finish-outs.new.pool c.finish-outs.ensures.gone c.keep.new.leftovers)
