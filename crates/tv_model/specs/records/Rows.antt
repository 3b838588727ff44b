-- Worked documents, by the records of their jobs.
use Rattle.std.specs.Prelude.{List, None, Option, Some, [], codes, map, option_map, ◌≡◌, ◌∷◌}
use Rattle.tv_value.specs.Nested.{Place}
use Rattle.tv_value.specs.Printed.{element_text, job_text}
use Rattle.tv_value.specs.Values.{Name, Text}
use Rattle.tv_lineage.specs.Lineages.{backward, by_step, forward}
use Rattle.tv_flow.specs.Flows.{Document}
use Rattle.tv_model.specs.RowsOfFlows.{opening}
use Rattle.tv_model.specs.RowsOfIteration.{two_lists}
use Rattle.tv_model.specs.Writing.{meant, x}
use Rattle.tv_model.specs.records.Recorded.{leaves, marks_of, output_at, records}

abbrev pub made_from : Document → Name → Place → Option (List Text)
made_from d p q =
    option_map (λ v. map element_text (backward (records (meant d)) (marks_of v)))
    (output_at (meant d) p q)

abbrev pub used_in : Document → Name → Place → List Text
used_in d p q = map element_text (forward (records (meant d)) (leaves (meant d)) p q)

abbrev pub jobs_of : Document → Name → List Text
jobs_of d s = map job_text (by_step (records (meant d)) s)

abbrev pub CrossByRecords : Type 0
CrossByRecords =
    (made_from two_lists (codes "out") (1 ∷ 0 ∷ []) ≡ Some (codes "x[1]" ∷ codes "y[0]" ∷ []))
    × (made_from two_lists (codes "out") (2 ∷ []) ≡ None)
    × (used_in two_lists x (1 ∷ []) ≡ codes "out[1,0]" ∷ codes "out[1,1]" ∷ [])
    × (jobs_of two_lists (codes "c")
    ≡ codes "c[0,0]" ∷ codes "c[0,1]" ∷ codes "c[1,0]" ∷ codes "c[1,1]" ∷ [])

abbrev pub FlowByRecords : Type 0
FlowByRecords =
    (made_from opening (codes "out") (2 ∷ []) ≡ Some (codes "x[2]" ∷ []))
    × (used_in opening x (0 ∷ []) ≡ codes "out[0]" ∷ [])
