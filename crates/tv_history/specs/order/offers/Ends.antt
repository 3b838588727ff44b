-- The laws of bounces.
use Rattle.std.specs.Prelude.{◌≡◌, true, false}
use Rattle.std.specs.List.{list_any}
use Rattle.tv_value.specs.Values.{JobName}
use Rattle.tv_gate.specs.Outcomes.{Giving}
use Rattle.tv_flow.specs.Flows.{Document}
use Rattle.tv_model.specs.Jobs.{Job}
use Rattle.tv_model.specs.Meanings.{meaning}
use Rattle.tv_model.specs.Turns.{is_bounced}
use Rattle.tv_history.specs.Entries.{History, bounced}
use Rattle.tv_history.specs.Histories.{can_bounce, is_legal_after, is_ready}
use Rattle.tv_history.specs.order.Moments.{all_jobs, IsJob}

-- a ready job that is bounced may bounce
abbrev pub BounceIsLegal : Type 0
BounceIsLegal =
    (gives : Giving) (d : Document) (past : History) (j : Job)
    → IsJob gives d j
    → is_ready (meaning gives d) past j ≡ true
    → is_bounced j.ending ≡ true
    → is_legal_after gives (meaning gives d) past (bounced j.name) ≡ true

-- none may bounce
pub record BouncesNothing (gives : Giving) (d : Document) (past : History) : Type 0 where
  pub none : list_any (can_bounce (meaning gives d) past) (all_jobs gives d) ≡ false
  pub illegal : (n : JobName) → is_legal_after gives (meaning gives d) past (bounced n) ≡ false

abbrev pub NoneBounces : Type 0
NoneBounces =
    (gives : Giving) (d : Document) (past : History)
    → (
    (j : Job)
    → IsJob gives d j
    → is_ready (meaning gives d) past j ≡ true
    → is_bounced j.ending ≡ false)
    → BouncesNothing gives d past
