-- The lists and passed faults of the main instance, by the services' meaning of the document.
use Rattle.std.specs.Prelude.{◌≡◌, List, Some}
use Rattle.tv_value.specs.Orders.{named}
use Rattle.tv_gate.specs.Outcomes.{Giving}
use Rattle.tv_flow.specs.Flows.{Document, Flow}
use Rattle.tv_model.specs.Meanings.{meaning}
use Rattle.tv_frame.specs.Levels.{AreLevels, Level}
use Rattle.tv_frame.specs.MainSteps.{main_steps}

-- these are all of them
abbrev pub AreMainLevels : Giving → Document → List Level → Type 0
AreMainLevels gives d ls =
    (f : Flow) → named d.main d.flows ≡ Some f → AreLevels f (main_steps (meaning gives d)) ls
