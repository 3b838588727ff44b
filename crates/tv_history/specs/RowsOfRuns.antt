-- Worked runs of a plain worker, each to its end.
use Rattle.std.specs.Prelude.{Bool, [], codes, false, true, ◌∷◌, ◌≡◌, count_by}
use Rattle.tv_local.specs.LocalGives.{local_gives}
use Rattle.tv_flow.specs.Flows.{Document}
use Rattle.tv_model.specs.RowsOfFaults.{failing_over, list_fails, one_fails, pairing_fault}
use Rattle.tv_model.specs.RowsOfFlows.{opening, side_by_side, two_steps}
use Rattle.tv_model.specs.RowsOfIteration.{nested_lists, one_text, pairs}
use Rattle.tv_model.specs.RowsOfSize.{generated}
use Rattle.tv_model.specs.Writing.{a, asks, document, from_input, from_step, meant, out, takes, takes_list, words, x}
use Rattle.tv_history.specs.Entries.{Entry, History, ended, opened}
use Rattle.tv_history.specs.Histories.{kept_results, node_room}
use Rattle.tv_history.specs.Worker.{Told, all_true, run, report}

abbrev pub run_of : Document → History
run_of d = run local_gives (meant d)

abbrev pub told_of : Document → Told
told_of d = report local_gives (meant d) (run_of d)

abbrev pub RunsOneText : Type 0
RunsOneText = told_of one_text ≡ all_true

abbrev pub RunsNestedLists : Type 0
RunsNestedLists = told_of nested_lists ≡ all_true

abbrev pub RunsPairs : Type 0
RunsPairs = told_of pairs ≡ all_true

abbrev pub RunsBouncedItem : Type 0
RunsBouncedItem = told_of one_fails ≡ all_true

abbrev pub RunsPassedFault : Type 0
RunsPassedFault = told_of list_fails ≡ all_true

abbrev pub RunsPairedFault : Type 0
RunsPairedFault = told_of pairing_fault ≡ all_true

abbrev pub RunsFailover : Type 0
RunsFailover = told_of failing_over ≡ all_true

abbrev pub RunsTwoSteps : Type 0
RunsTwoSteps = told_of two_steps ≡ all_true

abbrev pub RunsOneAfterAnother : Type 0
RunsOneAfterAnother = told_of (side_by_side (codes "p" ∷ [])) ≡ all_true

abbrev pub RunsNestedFlow : Type 0
RunsNestedFlow = told_of opening ≡ all_true

-- all at once: retries, faults, bounced jobs and nested flows
abbrev pub RunsGenerated : Type 0
RunsGenerated = (told_of (generated 1) ≡ all_true) × (told_of (generated 2) ≡ all_true)

abbrev pub is_opening : Entry → Bool
is_opening (opened n) = true
is_opening _ = false

abbrev pub is_end : Entry → Bool
is_end (ended n) = true
is_end _ = false

-- three instances are opened, these and the main one are ended, and then nothing is kept
abbrev pub KeepsNothingAtEnd : Type 0
KeepsNothingAtEnd =
    (count_by is_opening (run_of opening) ≡ 3)
    × (count_by is_end (run_of opening) ≡ 4)
    × (kept_results (meant opening) (run_of opening) ≡ 0)
    × (node_room (meant opening) (run_of opening) ≡ 0)

-- a step without an activity, which the check of a document refuses: its job counts as settled from the start, so the
-- last step doesn't wait for the first
abbrev pub idle_step : Document
idle_step =
    document
    ((x, 1) ∷ [])
    (
    (codes "p", asks (codes "upper") (takes a (from_input x) ∷ []))
    ∷ (
      codes "q",
      record (asks (codes "lower") (takes_list a (from_step (codes "p")) ∷ [])) {
        activities = [];
      },
    )
    ∷ (
      codes "r",
      record (asks (codes "lower") (takes a (from_input x) ∷ [])) {
        after = codes "q" ∷ [];
      },
    )
    ∷ []
    )
    (out (codes "r"))
    ((x, words (codes "A" ∷ codes "b" ∷ [])) ∷ [])

-- why the law of the order wants an activity of every step
abbrev pub RunsIdleStepInAnotherOrder : Type 0
RunsIdleStepInAnotherOrder = told_of idle_step ≡ record all_true { ordered = false }
