-- Worked documents and histories: job order, and three instances that are open while no try is out.
use Rattle.std.specs.Prelude.{Bool, Option, Some, [], codes, count_by, false, map, option_map, reverse, true, ◌∷◌, ◌≡◌}
use Rattle.tv_value.specs.Values.{JobName}
use Rattle.tv_local.specs.LocalGives.{local_gives}
use Rattle.tv_flow.specs.Flows.{Document}
use Rattle.tv_model.specs.Jobs.{Job}
use Rattle.tv_model.specs.Meanings.{nesting_limit}
use Rattle.tv_model.specs.RowsOfFlows.{opening, side_by_side}
use Rattle.tv_model.specs.Writing.{meant}
use Rattle.tv_history.specs.Entries.{History, closed, opened, recalled}
use Rattle.tv_history.specs.Histories.{has_open_instance}
use Rattle.tv_history.specs.RowsOfHistories.{inner, n0, n1, out_first, p0, p1, q0, q1, spot_of}
use Rattle.tv_history.specs.order.FirstIn.{entered_in, first_in, own_jobs}
use Rattle.tv_model.specs.JobOrder.{job_before}
use Rattle.tv_history.specs.order.Moments.{IsLegal, IsOpen, has_offer, tries_out}

abbrev pub before : Document → JobName → JobName → Bool
before d a b = job_before d.flows nesting_limit d.main a b

-- of two steps side by side q has the greater rank, so that its jobs come first, the lesser place first; a job comes
-- before those inside it, and these before the next
abbrev pub OrderOfRows : Type 0
OrderOfRows =
    (map (λ j. j.name) (meant (side_by_side [])).jobs ≡ q0 ∷ q1 ∷ p0 ∷ p1 ∷ [])
    × (before (side_by_side []) q1 p0 ≡ true)
    × (before (side_by_side []) p1 p0 ≡ false)
    × (before opening n0 inner ≡ true)
    × (before opening inner n1 ≡ true)

abbrev pub first_name : Option Job → Option JobName
first_name o = option_map (λ j. j.name) o

-- the job u of the flow that n[1] opens
abbrev pub second : JobName
second = (codes "n", 1 ∷ []) ∷ (codes "u", []) ∷ []

-- the flow of each of two items is opened and its try handed out, and then both tries are recalled
abbrev pub both_recalled : History
both_recalled =
    reverse (closed (spot_of (codes "n") []) 3 ∷ opened n0 ∷ out_first inner ∷ opened n1
    ∷ out_first second ∷ recalled 2 ∷ [])

-- of the run of this document after it
abbrev pub has_open_now : Job → Bool
has_open_now j = has_open_instance both_recalled j

abbrev pub has_offer_now : Job → Bool
has_offer_now j = has_offer local_gives opening both_recalled j

-- so the open instances are not bounded by the tries that are out: the offers in them count too
abbrev pub OffersKeepInstancesOpen : Type 0
OffersKeepInstancesOpen =
    IsLegal local_gives opening both_recalled
    × IsOpen both_recalled []
    × (count_by has_open_now (meant opening).jobs ≡ 2)
    × (tries_out local_gives opening both_recalled ≡ 0)

-- the walk over all jobs of each instance goes into the first open one, and finds the job inside it
abbrev pub WalksIntoOpenInstance : Type 0
WalksIntoOpenInstance =
    (first_name (first_in (own_jobs (meant opening)) has_open_now has_offer_now nesting_limit [])
    ≡ Some inner)
    × (entered_in (own_jobs (meant opening)) has_open_now has_offer_now nesting_limit [] ≡ [] ∷ n0
    ∷ [])
