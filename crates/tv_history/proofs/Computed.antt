-- The worked histories and runs compute.
use Rattle.std.specs.Fmt.{digits}
use Rattle.std.specs.Prelude.{refl}
use Rattle.tv_history.specs.RowsOfHistories.{AcceptsOnce, AcceptsWhatIsOut, BouncesJobOnFault, ClosesAfterItsSources, ClosesInnerLists, ClosesKnownList, ClosesOnce, EndsAfterItsJob, EndsAfterItsSteps, EndsInstanceAfterItsJobs, HandsOutAgainAfterRecall, HandsOutOnce, JudgesAsItCame, KeepsLimitOfJobs, OpensInJobOrder, PassesMadeFault, ReadsTotalsOff, RecallsAllThatIsOut, StreamsWhileListIsOpen, TakesFirstJob, TakesItemsAsTheyCome, TakesNoRecalledAnswer, TriesInTurn, WorksOnBothSteps}
use Rattle.tv_history.specs.RowsOfRuns.{KeepsNothingAtEnd, RunsBouncedItem, RunsFailover, RunsGenerated, RunsIdleStepInAnotherOrder, RunsNestedFlow, RunsNestedLists, RunsOneAfterAnother, RunsOneText, RunsPairedFault, RunsPairs, RunsPassedFault, RunsTwoSteps}

pub ends_after_its_job : EndsAfterItsJob
unfolding digits
ends_after_its_job = (refl, refl)

pub reads_totals_off : ReadsTotalsOff
unfolding digits
reads_totals_off = refl

pub accepts_once : AcceptsOnce
unfolding digits
accepts_once = refl

pub accepts_what_is_out : AcceptsWhatIsOut
unfolding digits
accepts_what_is_out = refl

pub judges_as_it_came : JudgesAsItCame
unfolding digits
judges_as_it_came = refl

pub hands_out_once : HandsOutOnce
unfolding digits
hands_out_once = refl

pub tries_in_turn : TriesInTurn
unfolding digits
tries_in_turn = (refl, refl, refl)

pub hands_out_again_after_recall : HandsOutAgainAfterRecall
unfolding digits
hands_out_again_after_recall = refl

pub takes_no_recalled_answer : TakesNoRecalledAnswer
unfolding digits
takes_no_recalled_answer = refl

pub recalls_all_that_is_out : RecallsAllThatIsOut
unfolding digits
recalls_all_that_is_out = (refl, refl)

pub streams_while_list_is_open : StreamsWhileListIsOpen
unfolding digits
streams_while_list_is_open = (refl, refl)

pub takes_first_job : TakesFirstJob
unfolding digits
takes_first_job = refl

pub keeps_limit_of_jobs : KeepsLimitOfJobs
unfolding digits
keeps_limit_of_jobs = (refl, refl)

pub works_on_both_steps : WorksOnBothSteps
unfolding digits
works_on_both_steps = refl

pub takes_items_as_they_come : TakesItemsAsTheyCome
unfolding digits
takes_items_as_they_come = refl

pub closes_known_list : ClosesKnownList
unfolding digits
closes_known_list = (refl, refl)

pub closes_inner_lists : ClosesInnerLists
unfolding digits
closes_inner_lists = (refl, refl, refl, refl)

pub closes_after_its_sources : ClosesAfterItsSources
unfolding digits
closes_after_its_sources = (refl, refl)

pub closes_once : ClosesOnce
unfolding digits
closes_once = refl

pub passes_made_fault : PassesMadeFault
unfolding digits
passes_made_fault = (refl, refl, refl)

pub bounces_job_on_fault : BouncesJobOnFault
unfolding digits
bounces_job_on_fault = (refl, refl, refl)

pub opens_in_job_order : OpensInJobOrder
unfolding digits
opens_in_job_order = (refl, refl, refl)

pub ends_instance_after_its_jobs : EndsInstanceAfterItsJobs
unfolding digits
ends_instance_after_its_jobs = (refl, refl, refl)

pub ends_after_its_steps : EndsAfterItsSteps
unfolding digits
ends_after_its_steps = refl

pub runs_one_text : RunsOneText
unfolding digits
runs_one_text = refl

pub runs_nested_lists : RunsNestedLists
unfolding digits
runs_nested_lists = refl

pub runs_pairs : RunsPairs
unfolding digits
runs_pairs = refl

pub runs_bounced_item : RunsBouncedItem
unfolding digits
runs_bounced_item = refl

pub runs_passed_fault : RunsPassedFault
unfolding digits
runs_passed_fault = refl

pub runs_paired_fault : RunsPairedFault
unfolding digits
runs_paired_fault = refl

pub runs_failover : RunsFailover
unfolding digits
runs_failover = refl

pub runs_two_steps : RunsTwoSteps
unfolding digits
runs_two_steps = refl

pub runs_one_after_another : RunsOneAfterAnother
unfolding digits
runs_one_after_another = refl

pub runs_nested_flow : RunsNestedFlow
unfolding digits
runs_nested_flow = refl

pub runs_generated : RunsGenerated
unfolding digits
runs_generated = (refl, refl)

pub keeps_nothing_at_end : KeepsNothingAtEnd
unfolding digits
keeps_nothing_at_end = (refl, refl, refl, refl)

pub runs_idle_step_in_another_order : RunsIdleStepInAnotherOrder
unfolding digits
runs_idle_step_in_another_order = refl
