use Rattle.tv_history.proofs.Computed.{bounces_job_on_fault, closes_after_its_sources, closes_inner_lists, closes_known_list, closes_once, passes_made_fault}
use Rattle.tv_history.proofs.rows.settlements.Goals as goal

pub returns : goal.returns
returns c = record { closed = closes_known_list; inner = closes_inner_lists; sources = closes_after_its_sources; once = closes_once; passed = passes_made_fault; bounced = bounces_job_on_fault }
