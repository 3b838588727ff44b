use Rattle.tv_history.proofs.Computed.{keeps_nothing_at_end, runs_bounced_item, runs_failover, runs_generated, runs_idle_step_in_another_order, runs_nested_flow, runs_nested_lists, runs_one_after_another, runs_one_text, runs_paired_fault, runs_pairs, runs_passed_fault, runs_two_steps}
use Rattle.tv_history.proofs.rows.runs.Goals as goal

pub returns : goal.returns
returns c = record { text = runs_one_text; nested_lists = runs_nested_lists; paired = runs_pairs; bounced = runs_bounced_item; passed = runs_passed_fault; paired_fault = runs_paired_fault; failed_over = runs_failover; two_steps = runs_two_steps; after = runs_one_after_another; nested_flow = runs_nested_flow; generated = runs_generated; kept = keeps_nothing_at_end; idle = runs_idle_step_in_another_order }
