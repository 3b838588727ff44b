use Rattle.tv_history.proofs.Computed.{keeps_limit_of_jobs, streams_while_list_is_open, takes_first_job, takes_items_as_they_come, works_on_both_steps}
use Rattle.tv_history.proofs.rows.offers.Goals as goal

pub returns : goal.returns
returns c = record { streamed = streams_while_list_is_open; first = takes_first_job; limit = keeps_limit_of_jobs; both_steps = works_on_both_steps; as_they_come = takes_items_as_they_come }
