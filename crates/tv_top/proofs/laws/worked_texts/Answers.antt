use Rattle.tv_top.proofs.Computed.{runs_one_text, runs_chain, runs_failure, checks_cross, checks_chain, runs_cross, runs_nested_flow, runs_generated, traces_attempts, traces_chain, traces_failure, lineage_of_cross, lineage_of_failure, forward_of_cross, upgrades_one_text}
use Rattle.tv_top.proofs.laws.worked_texts.Goals as goal

pub returns-clause-one : goal.returns-clause-one
returns-clause-one c = runs_one_text

pub returns-clause-chain : goal.returns-clause-chain
returns-clause-chain c = runs_chain

pub returns-clause-failure : goal.returns-clause-failure
returns-clause-failure c = runs_failure

pub returns-clause-depths : goal.returns-clause-depths
returns-clause-depths c = checks_cross

pub returns-clause-chain_depths : goal.returns-clause-chain_depths
returns-clause-chain_depths c = checks_chain

pub returns-clause-cross : goal.returns-clause-cross
returns-clause-cross c = runs_cross

pub returns-clause-attempts : goal.returns-clause-attempts
returns-clause-attempts c = traces_attempts

pub returns-clause-chain_trace : goal.returns-clause-chain_trace
returns-clause-chain_trace c = traces_chain

pub returns-clause-failure_trace : goal.returns-clause-failure_trace
returns-clause-failure_trace c = traces_failure

pub returns-clause-nested : goal.returns-clause-nested
returns-clause-nested c = runs_nested_flow

pub returns-clause-generated : goal.returns-clause-generated
returns-clause-generated c = runs_generated

pub returns-clause-lineage : goal.returns-clause-lineage
returns-clause-lineage c = lineage_of_cross

pub returns-clause-failure_lineage : goal.returns-clause-failure_lineage
returns-clause-failure_lineage c = lineage_of_failure

pub returns-clause-forward : goal.returns-clause-forward
returns-clause-forward c = forward_of_cross

pub returns-clause-upgrade : goal.returns-clause-upgrade
returns-clause-upgrade c = upgrades_one_text
