use Rattle.tv_match.specs.Seen.{matching}
use Rattle.tv_match.proofs.Scripts.{leaves-still, new-still}
use Rattle.tv_tests_engine.proofs.matching.tell_script.Goals as goal

pub tell_all-requires-clause-leaves : goal.tell_all-requires-clause-leaves
tell_all-requires-clause-leaves c = leaves-still (matching c.args.matcher.now).strategy (matching c.pass_all.new.matcher).strategy c.args.script.now.tolds c.as_slice.result.now c.as_slice.ensures c.pass_all.ensures.strategy c.requires.leaves

pub tell_all-requires-clause-new : goal.tell_all-requires-clause-new
tell_all-requires-clause-new c =
    let p = c.pass_all.ensures in
    new-still (matching c.args.matcher.now) (matching c.pass_all.new.matcher) c.args.script.now.tolds c.as_slice.result.now c.as_slice.ensures p.strategy p.mismatch p.told c.requires.new
