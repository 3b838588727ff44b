use Rattle.tv_run.proofs.Adding.{set-one}
use Rattle.tv_run.proofs.slots.leftover_with.Goals as goal

pub returns-clause-ok : goal.returns-clause-ok
returns-clause-ok c =
    let e = c.in_ok-start.ensures in
    record {
      itself = c.start.new.self;
      is_one = set-one c.in_ok-leftover.leftover.slot.items c.start.new.self c.in_ok-leftover.ensures;
      starts = e.ok;
      own = e.own;
      keeps = e.kept;
    }
