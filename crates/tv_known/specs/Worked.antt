-- Worked examples of what a run is meant to have: capitals of two texts and then small letters, and
-- a flow that a step opens for each of three texts; and of histories that accept each try once.
use Rattle.std.specs.Prelude.{◌≡◌, true, false, None, Some, [], ◌∷◌, codes, option_map}
use Rattle.tv_value.specs.Nested.{note}
use Rattle.tv_value.specs.Values.{JobName, text_value}
use Rattle.tv_strategy.specs.Origins.{Traced, by_job, by_level, plain}
use Rattle.tv_model.specs.RowsOfFlows.{opening, two_steps}
use Rattle.tv_model.specs.Writing.{a, meant, o, words}
use Rattle.tv_history.specs.Entries.{accepted}
use Rattle.tv_known.specs.Meant.{flow_output_value, flow_values, output_value, port_value}
use Rattle.tv_known.specs.Once.{AcceptsEachTryOnce}

-- what a step's output delivers is what the next step's port takes
abbrev pub MeansTheSame : Type 0
MeansTheSame =
    (option_map plain (output_value (meant two_steps) [] (codes "p") o)
    ≡ Some (words (codes "A" ∷ codes "B" ∷ [])))
    × (option_map plain (port_value (meant two_steps) [] (codes "q") a)
    ≡ Some (words (codes "A" ∷ codes "B" ∷ [])))
    × (flow_values (meant two_steps) [] ≡ words (codes "a" ∷ codes "b" ∷ []) ∷ [])

-- what the flow gives has its value, and is known once the list of the second step is closed
abbrev pub MeansAtOutput : Type 0
MeansAtOutput =
    (option_map plain (flow_output_value (meant two_steps) [] 0)
    ≡ Some (words (codes "a" ∷ codes "b" ∷ [])))
    × (option_map (λ (v : Traced). (note v).known) (flow_output_value (meant two_steps) [] 0)
    ≡ Some (by_level ((codes "q", []) ∷ [])))

-- there is no such step, nor a second output of the flow
abbrev pub MeansNothing : Type 0
MeansNothing =
    (output_value (meant two_steps) [] (codes "r") o ≡ None)
    × (flow_output_value (meant two_steps) [] 1 ≡ None)

-- the second of the three
abbrev pub second : JobName
second = (codes "n", 1 ∷ []) ∷ []

abbrev pub MeansWhatItsJobGives : Type 0
MeansWhatItsJobGives =
    (option_map plain (output_value (meant opening) second (codes "u") o)
    ≡ Some (text_value (codes "B")))
    × (flow_values (meant opening) second ≡ text_value (codes "B") ∷ [])

-- what the flow gives there is known once the job inside is settled
abbrev pub MeansInside : Type 0
MeansInside =
    (option_map plain (flow_output_value (meant opening) second 0) ≡ Some (text_value (codes "B")))
    × (option_map (λ (v : Traced). (note v).known) (flow_output_value (meant opening) second 0)
    ≡ Some (by_job ((codes "n", 1 ∷ []) ∷ (codes "u", []) ∷ [])))

-- ---- tries

abbrev pub u : JobName
u = (codes "u", []) ∷ []

-- two attempts of one activity and one of the next, and one of another job
abbrev pub AcceptsEach : Type 0
AcceptsEach =
    AcceptsEachTryOnce
    (accepted second 0 0 true ∷ accepted u 1 0 true ∷ accepted u 0 1 false
    ∷ accepted u 0 0 false ∷ [])

-- one attempt twice, though the outcomes came out differently
abbrev pub AcceptsNoneTwice : Type 0
AcceptsNoneTwice = AcceptsEachTryOnce (accepted u 0 0 true ∷ accepted u 0 0 false ∷ []) → ⊥
