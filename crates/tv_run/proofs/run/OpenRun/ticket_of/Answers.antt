use Rattle.std.proofs.Common.{Some, ap, refl, sym, ◌∙◌}
use Rattle.tv_run.proofs.WalkTickets.{next-idle, offer-either, offer-stage}
use Rattle.tv_run.proofs.run.OpenRun.ticket_of.Goals as goal

pub unreachable-requires : goal.unreachable-requires
unreachable-requires c =
    let w = c.requires in
    offer-stage w.0 c.args.self.now w.1 w.2 c.args.job w.3 (sym c.stage_of.ensures ∙ c.in_default.is)

pub unreachable-requires-in_default-stage : goal.unreachable-requires-in_default-stage
unreachable-requires-in_default-stage c =
    let w = c.requires in
    offer-either w.0 c.args.self.now w.1 w.2 c.args.job w.3 c.in-Some.stage (sym c.stage_of.ensures ∙ c.in-Some.is)
    c.in_default-stage.not-Waiting c.in_default-stage.not-Idle

pub returns-in-Idle : goal.returns-in-Idle
returns-in-Idle c gives xs st offer = record {
  job = refl;
  next = λ i n x s j is h.
      next-idle gives c.args.self.now xs st c.args.job i n x s j is c.in-Idle.activity c.in-Idle.attempt
      (sym c.stage_of.ensures ∙ c.in-Some.is ∙ ap Some c.in-Idle.is);
}

pub returns-in-Waiting : goal.returns-in-Waiting
returns-in-Waiting c gives xs st offer =
    c.first_ticket.ensures gives xs st offer (sym c.stage_of.ensures ∙ c.in-Some.is ∙ ap Some c.in-Waiting.is)
