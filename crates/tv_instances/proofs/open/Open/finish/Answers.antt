use Rattle.std.proofs.Common.{ap, subst, sym, ◌∙◌}
use Rattle.tv_frame.specs.Tables.{levels_in}
use Rattle.tv_frame.specs.Answers.{has_ended_now}
use Rattle.tv_instances.specs.Levels.{AreItsLevels, Kept}
use Rattle.tv_instances.proofs.LevelLemmas.{all-kept, ended-too}
use Rattle.tv_instances.proofs.open.Open.finish.Goals as goal

pub returns-clause-levels : goal.returns-clause-levels
returns-clause-levels c d plan v io =
    let q = c.requires.ended in
    let o = c.args.self.now in
    subst (AreItsLevels v) (sym (c.finish.ensures ∙ ap (λ (k : Kept). k.settled) c.replace-levels.ensures.value))
    (all-kept d.flows plan c.args.pool.now o.frame v io.keeps
    (ended-too q.2 v o.frame.outs (has_ended_now (levels_in q.2.flow) q.2) (has_ended_now (levels_in v.flow) v)
    q.3.keeps.outs_are q.4 io.keeps.outs_are)
    o.levels.settled io.kept)
