-- What the form of a document says of activities, for every document and all services.
use Rattle.std.specs.Prelude.{true, ◌<◌, ◌≡◌}
use Rattle.tv_lemmas.specs.Members.{In}
use Rattle.tv_gate.specs.Outcomes.{Giving}
use Rattle.tv_flow.specs.Flows.{Document}
use Rattle.tv_flow.specs.Formed.{is_formed}
use Rattle.tv_dispatch.specs.Jobs.{Ask}
use Rattle.tv_model.specs.Jobs.{Job}
use Rattle.tv_model.specs.Meanings.{meaning}
use Rattle.tv_history.specs.activities.Agreed.{HasActivities}

-- every document that was read has an activity at every step
abbrev pub DocumentsHaveActivities : Type 0
DocumentsHaveActivities = (d : Document) → is_formed d ≡ true → HasActivities d

-- and every try in its run is of one of the first eight activities of its step
abbrev pub ActivitiesAreFew : Type 0
ActivitiesAreFew =
    (gives : Giving) (d : Document)
    → is_formed d ≡ true
    → (j : Job) → In j (meaning gives d).jobs
    → (a : Ask) → In a j.asks
    → a.activity < 8
