-- What holds of accepted documents.
use Rattle.std.specs.Prelude.{true, ◌≡◌}
use Rattle.tv_gate.specs.Outcomes.{Giving}
use Rattle.tv_flow.specs.Flows.{Document}
use Rattle.tv_flow.specs.Formed.{is_formed}
use Rattle.tv_check.specs.Plans.{IsAccepted}
use Rattle.tv_model.specs.Agreeing.{Agrees}
use Rattle.tv_model.specs.Meanings.{meaning}
use Rattle.tv_history.specs.agreement.PlannedDepths.{IsAsPlanned}

-- a document that was read and that the check accepts agrees in its depths
abbrev pub AcceptedDocumentsAgree : Type 0
AcceptedDocumentsAgree = (d : Document) → is_formed d ≡ true → IsAccepted d → Agrees d

-- in its meaning each value at a port has the depth that the check's plan states for this port of
-- this step of this flow, whatever the services give
abbrev pub MeaningsAreAsPlanned : Type 0
MeaningsAreAsPlanned =
    (gives : Giving) (d : Document) → is_formed d ≡ true → IsAccepted d
    → IsAsPlanned d (meaning gives d)
