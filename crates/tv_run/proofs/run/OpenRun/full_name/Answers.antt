use Rattle.std.specs.Prelude.{[], Some, ◌++◌, ◌∷◌}
use Rattle.std.proofs.Common.{ap, sym, ◌∙◌}
use Rattle.tv_value.specs.Values.{JobName}
use Rattle.tv_instances.specs.seats.Seated.{spot_of}
use Rattle.tv_run.proofs.JobLemmas.{known, name-there}
use Rattle.tv_run.proofs.run.OpenRun.full_name.Goals as goal

pub returns : goal.returns
returns c =
    let r = c.args.self.now in
    let q = c.requires in
    let k = c.args.job in
    let w = known r q.0 q.1 k q.2 in
    let n : JobName = w.instance.name ++ spot_of w.instance.flow.steps w.seat ∷ [] in
    let e = name-there r q.0 q.1 k w.outer w.number w.instance w.seat w.step w.known in
    e
    ∙ ap Some
    (sym
    (c.of.ensures ∙ c.in_ok-push_name.ensures n e
    ∙ ap (λ (l : JobName). l ++ n) c.new-parts.ensures.items))
