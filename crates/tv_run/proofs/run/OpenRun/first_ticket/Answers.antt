use Rattle.std.proofs.Common.{refl, subst, sym, ◌∙◌}
use Rattle.tv_history.specs.Runs.{past_of}
use Rattle.tv_run.specs.Standing.{run_of}
use Rattle.tv_run.proofs.WalkTickets.{IsTriedFirst, not-tried, tried-first}
use Rattle.tv_run.proofs.run.OpenRun.first_ticket.Goals as goal

pub unreachable-requires : goal.unreachable-requires
unreachable-requires c =
    let r = c.args.self.now in
    let w = c.requires in
    let j = w.3.0 in
    let b = w.3.1 in
    not-tried (past_of (run_of r)) j c.begin.result c.in_default.not-Ask
    (subst (IsTriedFirst (past_of (run_of r)) j) (sym c.begin.ensures)
    (tried-first w.0 r w.1 w.2 c.args.job b.outer b.number b.instance b.seat j b.is_number w.3.2 w.4 c.tries_at.result.now
    c.tries_at.ensures))

pub returns : goal.returns
returns c gives xs st offer waits =
    let r = c.args.self.now in
    record {
      job = refl;
      next = λ i n x s j is h.
          subst (IsTriedFirst (past_of (run_of r)) j) (sym c.begin.ensures ∙ c.in-Ask.is)
          (tried-first gives r xs st c.args.job i n x s j is h waits c.tries_at.result.now c.tries_at.ensures);
    }
