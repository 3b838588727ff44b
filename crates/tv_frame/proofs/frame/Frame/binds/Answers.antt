use Rattle.std.specs.Prelude.{◌≡◌, ◌<◌, ◌↔◌, IsTrue, Some, is_some, map, slice_index_or}
use Rattle.std.proofs.Common.{◌∙◌, ap, refl, subst, sym}
use Rattle.tv_value.specs.Views.{view}
use Rattle.tv_binding.specs.Constants.{constants_view}
use Rattle.tv_binding.specs.declared.constants.Constants.{Constants}
use Rattle.tv_binding.specs.Jobs.{job_found}
use Rattle.tv_binding.specs.Sourced.{known_by as sourced_by}
use Rattle.tv_frame.specs.declared.tables.Tables.{Tables}
use Rattle.tv_frame.proofs.JobInputs.{binds-other, binds-same, call-counted, call-delivered, call-found, call-inputs, call-of, call-parts, starts-within, step-within}
use Rattle.tv_frame.proofs.OutLemmas.{sources-stand}
use Rattle.tv_frame.proofs.frame.Frame.binds.Goals as goal

pub ports_at-ports-requires : goal.ports_at-ports-requires
ports_at-ports-requires c =
    let r = c.requires.keeps in
    step-within r.0 c.args.plan.now c.args.pool.now c.args.self.now r.1 r.2 c.args.number c.job-step.result.0 c.job-step.result.1.now c.job-step.ensures.job c.job-step.result.2 c.job-step.ensures.faulty

pub index-requires : goal.index-requires
index-requires c =
    let r = c.requires.keeps in
    subst (λ (t : Tables). c.job-step.result.0 < t.starts.len) (sym c.read.ensures) (subst (λ m. c.job-step.result.0 < m) (sym c.args.self.now.tables.starts.ok.0)
    (starts-within r.0 c.args.plan.now c.args.pool.now c.args.self.now r.1 r.2 c.args.number c.job-step.result.0 c.job-step.result.1.now c.job-step.ensures.job c.job-step.result.2 c.job-step.ensures.faulty))

pub job_binds-requires-clause-stand : goal.job_binds-requires-clause-stand
job_binds-requires-clause-stand c =
    let r = c.requires.keeps in
    sources-stand r.0 c.args.plan.now c.args.pool.now c.args.self.now r.1 r.2 c.sources-sources.result (record { inputs = c.sources-sources.ensures.inputs; outputs = c.sources-sources.ensures.outputs; nodes = c.sources-sources.ensures.pool; firsts = c.sources-sources.ensures.firsts })

pub job_binds-requires-clause-inputs : goal.job_binds-requires-clause-inputs
job_binds-requires-clause-inputs c =
    let r = c.requires.keeps in
    call-inputs r.0 c.args.plan.now c.args.pool.now c.args.self.now r.1 r.2 c.args.number c.job-step.result.0 c.job-step.result.1.now c.ports_at-ports.result
    (call-of c.args.plan.now c.args.self.now c.args.number c.job-step.result.0 c.job-step.result.1.now c.job-step.result.1.now c.ports_at-ports.result c.job-step.ensures.job c.job-step.result.2 c.job-step.ensures.faulty refl c.ports_at-ports.ensures)
    c.sources-sources.result (record { inputs = c.sources-sources.ensures.inputs; outputs = c.sources-sources.ensures.outputs; nodes = c.sources-sources.ensures.pool; firsts = c.sources-sources.ensures.firsts })

pub job_binds-requires-clause-parts : goal.job_binds-requires-clause-parts
job_binds-requires-clause-parts c =
    let r = c.requires.keeps in
    call-parts r.0 c.args.plan.now c.args.pool.now c.args.self.now r.1 r.2 c.args.number c.job-step.result.0 c.job-step.result.1.now c.ports_at-ports.result
    (call-of c.args.plan.now c.args.self.now c.args.number c.job-step.result.0 c.job-step.result.1.now c.job-step.result.1.now c.ports_at-ports.result c.job-step.ensures.job c.job-step.result.2 c.job-step.ensures.faulty refl c.ports_at-ports.ensures)
    c.sources-sources.result (record { inputs = c.sources-sources.ensures.inputs; outputs = c.sources-sources.ensures.outputs; nodes = c.sources-sources.ensures.pool; firsts = c.sources-sources.ensures.firsts }) c.index.result.now (c.index.ensures ∙ ap (λ (t : Tables). slice_index_or t.starts.items c.job-step.result.0 c.index.result.now) c.read.ensures) c.as_slice-starts.result.now c.as_slice-starts.ensures.value

pub job_binds-requires-clause-delivered : goal.job_binds-requires-clause-delivered
job_binds-requires-clause-delivered c =
    let r = c.requires.keeps in
    call-delivered r.0 c.args.plan.now c.args.pool.now c.args.self.now r.1 r.2 c.args.number c.job-step.result.0 c.job-step.result.1.now c.ports_at-ports.result
    (call-of c.args.plan.now c.args.self.now c.args.number c.job-step.result.0 c.job-step.result.1.now c.job-step.result.1.now c.ports_at-ports.result c.job-step.ensures.job c.job-step.result.2 c.job-step.ensures.faulty refl c.ports_at-ports.ensures)
    c.sources-sources.result (record { inputs = c.sources-sources.ensures.inputs; outputs = c.sources-sources.ensures.outputs; nodes = c.sources-sources.ensures.pool; firsts = c.sources-sources.ensures.firsts })

pub job_binds-requires-clause-counted : goal.job_binds-requires-clause-counted
job_binds-requires-clause-counted c =
    let r = c.requires.keeps in
    call-counted r.0 c.args.plan.now c.args.pool.now c.args.self.now r.1 r.2 c.args.number c.job-step.result.0 c.job-step.result.1.now c.ports_at-ports.result
    (call-of c.args.plan.now c.args.self.now c.args.number c.job-step.result.0 c.job-step.result.1.now c.job-step.result.1.now c.ports_at-ports.result c.job-step.ensures.job c.job-step.result.2 c.job-step.ensures.faulty refl c.ports_at-ports.ensures)
    c.sources-sources.result (record { inputs = c.sources-sources.ensures.inputs; outputs = c.sources-sources.ensures.outputs; nodes = c.sources-sources.ensures.pool; firsts = c.sources-sources.ensures.firsts })

pub job_binds-requires-clause-found : goal.job_binds-requires-clause-found
job_binds-requires-clause-found c =
    let r = c.requires.keeps in
    subst (λ (k : Constants). IsTrue (is_some (job_found (sourced_by c.sources-sources.result) (constants_view k) c.ports_at-ports.result c.job-step.result.1.now))) (sym c.constants-constants.ensures)
    (call-found r.0 c.args.plan.now c.args.pool.now c.args.self.now r.1 r.2 c.args.number c.job-step.result.0 c.job-step.result.1.now c.ports_at-ports.result
    (call-of c.args.plan.now c.args.self.now c.args.number c.job-step.result.0 c.job-step.result.1.now c.job-step.result.1.now c.ports_at-ports.result c.job-step.ensures.job c.job-step.result.2 c.job-step.ensures.faulty refl c.ports_at-ports.ensures)
    c.sources-sources.result (record { inputs = c.sources-sources.ensures.inputs; outputs = c.sources-sources.ensures.outputs; nodes = c.sources-sources.ensures.pool; firsts = c.sources-sources.ensures.firsts }))

pub returns-clause-same : goal.returns-clause-same
returns-clause-same c =
    binds-same c.args.plan.now c.args.pool.now c.args.self.now c.args.number c.job-step.result.0 c.job-step.result.1.now c.ports_at-ports.result
    (call-of c.args.plan.now c.args.self.now c.args.number c.job-step.result.0 c.job-step.result.1.now c.job-step.result.1.now c.ports_at-ports.result c.job-step.ensures.job c.job-step.result.2 c.job-step.ensures.faulty refl c.ports_at-ports.ensures)
    c.sources-sources.result (record { inputs = c.sources-sources.ensures.inputs; outputs = c.sources-sources.ensures.outputs; nodes = c.sources-sources.ensures.pool; firsts = c.sources-sources.ensures.firsts }) (map view c.args.values.now) c.job_binds.result
    (subst (λ (k : Constants). IsTrue c.job_binds.result ↔ (job_found (sourced_by c.sources-sources.result) (constants_view k) c.ports_at-ports.result c.job-step.result.1.now ≡ Some (map view c.args.values.now))) c.constants-constants.ensures c.job_binds.ensures)

pub returns-clause-other : goal.returns-clause-other
returns-clause-other c =
    binds-other c.args.plan.now c.args.pool.now c.args.self.now c.args.number c.job-step.result.0 c.job-step.result.1.now c.ports_at-ports.result
    (call-of c.args.plan.now c.args.self.now c.args.number c.job-step.result.0 c.job-step.result.1.now c.job-step.result.1.now c.ports_at-ports.result c.job-step.ensures.job c.job-step.result.2 c.job-step.ensures.faulty refl c.ports_at-ports.ensures)
    c.sources-sources.result (record { inputs = c.sources-sources.ensures.inputs; outputs = c.sources-sources.ensures.outputs; nodes = c.sources-sources.ensures.pool; firsts = c.sources-sources.ensures.firsts }) (map view c.args.values.now) c.job_binds.result
    (subst (λ (k : Constants). IsTrue c.job_binds.result ↔ (job_found (sourced_by c.sources-sources.result) (constants_view k) c.ports_at-ports.result c.job-step.result.1.now ≡ Some (map view c.args.values.now))) c.constants-constants.ensures c.job_binds.ensures)
