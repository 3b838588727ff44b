use Rattle.std.proofs.Common.{arith, sym, ◌∙◌}
use Rattle.tv_run.proofs.Looking.{no-number, number-is, number-low}
use Rattle.tv_run.proofs.plans.flow_number.Goals as goal

pub overflow_cast-result : goal.overflow_cast-result
overflow_cast-result c =
    omega (
      arith,
      number-low c.requires.0 c.args.flows.now c.requires.1 c.args.name.now c.in-Some.number
          (sym c.number_of.ensures.number ∙ c.in-Some.is),
    )

pub returns-in-Some : goal.returns-in-Some
returns-in-Some c d are =
    number-is d c.args.flows.now are c.args.name.now c.in-Some.number (sym c.number_of.ensures.number ∙ c.in-Some.is)

pub returns-in-None : goal.returns-in-None
returns-in-None c d are = no-number d c.args.flows.now are c.args.name.now (sym c.number_of.ensures.number ∙ c.in-None.is)
