use Rattle.std.proofs.Common.{arith, length, refl, slice_get, sym, ◌<◌, ◌≡◌, ◌∙◌}
use Rattle.std.proofs.lemmas.Option.{slice_get_read}
use Rattle.std.specs.Prelude.{Some}
use Rattle.tv_instances.specs.Forest.{Instances}
use Rattle.tv_run.specs.Standing.{Fits}
use Rattle.tv_run.specs.declared.instances.Numbered.{Numbered}
use Rattle.tv_run.specs.declared.run.OpenRun.{OpenRun}
use Rattle.std.specs.Prelude.{ℕ}
use Rattle.tv_run.proofs.JobLemmas.{instance-low, known-at, stage-by_end, stage-by_open, stage-found}
use Rattle.tv_run.proofs.run.OpenRun.stage_of.Goals as goal

low : (r : OpenRun) (w : (xs : Instances) × Fits r xs) (k : ℕ) (m : Numbered) → slice_get r.jobs.items k ≡ Some m
    → m.instance < length r.instances.items
low r w k m e =
    let u = known-at r w.0 w.1 k m e in
    instance-low r w.0 w.1 k m.instance m.number u.0 u.1 u.2 u.3

pub index-requires : goal.index-requires
index-requires c =
    let r = c.args.self.now in
    let h = low r c.requires c.args.job c.in-Some.found (sym c.numbered.ensures ∙ c.in-Some.is) in
    omega (arith, h, r.instances.ok.0)

pub returns-in-Some-opened : goal.returns-in-Some-opened
returns-in-Some-opened c =
    let r = c.args.self.now in
    let m = c.in-Some.found in
    let itself = c.index.result.now in
    let e = sym c.numbered.ensures ∙ c.in-Some.is in
    let at =
    slice_get_read r.instances.items (length r.instances.items) m.instance itself refl (low r c.requires c.args.job m e)
    c.index.ensures in
    let o = c.in-Some-opened.ensures.some in
    c.stage.ensures
    ∙ sym
    (stage-found r c.args.job m itself e at ∙ stage-by_open itself m c.in-Some-opened.open.now o.0 o.1)

pub returns-in-None-opened : goal.returns-in-None-opened
returns-in-None-opened c =
    let r = c.args.self.now in
    let m = c.in-Some.found in
    let itself = c.index.result.now in
    let e = sym c.numbered.ensures ∙ c.in-Some.is in
    let at =
    slice_get_read r.instances.items (length r.instances.items) m.instance itself refl (low r c.requires c.args.job m e)
    c.index.ensures in
    sym (stage-found r c.args.job m itself e at ∙ stage-by_end itself m (c.in-None-opened.ensures.none refl))
