use Rattle.std.proofs.Common.{arith, length, refl, subst, sym, ◌<◌}
use Rattle.std.proofs.lemmas.Option.{slice_get_read, slice_get_within}
use Rattle.tv_run.proofs.Steps.{look-low, step-look, step-low}
use Rattle.tv_run.proofs.run.OpenRun.flow_opened.Goals as goal

pub index-requires : goal.index-requires
index-requires c =
    let q = c.requires in
    let h = subst (λ n. c.args.instance < n) (sym q.2.as_many) (slice_get_within q.0 c.args.instance q.1 q.3) in
    omega (arith, h, c.args.self.now.instances.ok.0)

pub index-requires-2 : goal.index-requires-2
index-requires-2 c =
    let r = c.args.self.now in
    let q = c.requires in
    let low = subst (λ n. c.args.instance < n) (sym q.2.as_many) (slice_get_within q.0 c.args.instance q.1 q.3) in
    let h =
    look-low r q.0 q.2 c.args.instance q.1 q.3 c.index.result.now
    (slice_get_read r.instances.items (length r.instances.items) c.args.instance c.index.result.now refl low c.index.ensures) in
    omega (arith, h, r.looks.ok.0)

pub index-requires-3 : goal.index-requires-3
index-requires-3 c =
    let r = c.args.self.now in
    let q = c.requires in
    let low = subst (λ n. c.args.instance < n) (sym q.2.as_many) (slice_get_within q.0 c.args.instance q.1 q.3) in
    let here =
    slice_get_read r.instances.items (length r.instances.items) c.args.instance c.index.result.now refl low c.index.ensures in
    let itself = c.index.result.now in
    let look = c.index-2.result.now in
    let h =
    step-low r q.0 q.2 c.args.instance q.1 q.3 itself here look
    (slice_get_read r.looks.items (length r.looks.items) itself.flow look refl
    (look-low r q.0 q.2 c.args.instance q.1 q.3 itself here) c.index-2.ensures)
    c.args.step q.4 in
    omega (arith, h, look.steps.ok.0)

pub returns : goal.returns
returns c = λ xs x s fits at step.
    let r = c.args.self.now in
    let low = subst (λ n. c.args.instance < n) (sym fits.as_many) (slice_get_within xs c.args.instance x at) in
    let here =
    slice_get_read r.instances.items (length r.instances.items) c.args.instance c.index.result.now refl low c.index.ensures in
    let itself = c.index.result.now in
    let look = c.index-2.result.now in
    let there =
    slice_get_read r.looks.items (length r.looks.items) itself.flow look refl
    (look-low r xs fits c.args.instance x at itself here) c.index-2.ensures in
    (
    step-look r xs fits c.args.instance x at itself here look there c.args.step s c.index-3.result.now step
    (slice_get_read look.steps.items (length look.steps.items) c.args.step c.index-3.result.now refl
    (step-low r xs fits c.args.instance x at itself here look there c.args.step
    (slice_get_within x.flow.steps c.args.step s step)) c.index-3.ensures)
    ).opens
