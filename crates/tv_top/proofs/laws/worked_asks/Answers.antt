use Rattle.tv_top.proofs.Computed.{asks_chain, asks_failure, asks_attempts, asks_no_check, asks_generated, asks_lineage, asks_forward}
use Rattle.tv_top.proofs.laws.worked_asks.Goals as goal

pub returns-clause-chain : goal.returns-clause-chain
returns-clause-chain c = asks_chain

pub returns-clause-failure : goal.returns-clause-failure
returns-clause-failure c = asks_failure

pub returns-clause-attempts : goal.returns-clause-attempts
returns-clause-attempts c = asks_attempts

pub returns-clause-checked : goal.returns-clause-checked
returns-clause-checked c = asks_no_check

pub returns-clause-generated : goal.returns-clause-generated
returns-clause-generated c = asks_generated

pub returns-clause-lineage : goal.returns-clause-lineage
returns-clause-lineage c = asks_lineage

pub returns-clause-forward : goal.returns-clause-forward
returns-clause-forward c = asks_forward
