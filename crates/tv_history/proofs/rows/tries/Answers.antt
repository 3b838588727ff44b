use Rattle.tv_history.proofs.Computed.{accepts_once, accepts_what_is_out, ends_after_its_job, hands_out_once, judges_as_it_came, reads_totals_off, tries_in_turn}
use Rattle.tv_history.proofs.rows.tries.Goals as goal

pub returns : goal.returns
returns c = record { ends = ends_after_its_job; totals = reads_totals_off; once = accepts_once; nothing_out = accepts_what_is_out; judged = judges_as_it_came; handed_once = hands_out_once; in_turn = tries_in_turn }
