use Rattle.tv_run.proofs.run.OpenRun.settle_in.Goals as goal

pub returns-in_ok-bounce-in-Some-clause-settled : goal.returns-in_ok-bounce-in-Some-clause-settled
returns-in_ok-bounce-in-Some-clause-settled c = λ gives o. c.in_ok-bounce-in-Some.ensures.bounced gives o c.in-Some.ensures
