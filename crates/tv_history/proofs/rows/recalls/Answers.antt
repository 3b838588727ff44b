use Rattle.tv_history.proofs.Computed.{hands_out_again_after_recall, recalls_all_that_is_out, takes_no_recalled_answer}
use Rattle.tv_history.proofs.rows.recalls.Goals as goal

pub returns : goal.returns
returns c = record { again = hands_out_again_after_recall; late = takes_no_recalled_answer; all_out = recalls_all_that_is_out }
