-- The laws of where a job stands, whichever it is and however deep its instance.
use Rattle.std.specs.List.{list_any}
use Rattle.std.specs.Prelude.{◌≡◌, ◌&&◌, ◌||◌, not, None, true, false, is_none, is_some}
use Rattle.tv_gate.specs.Outcomes.{Giving}
use Rattle.tv_flow.specs.Flows.{Document}
use Rattle.tv_model.specs.Jobs.{Job}
use Rattle.tv_model.specs.Turns.{is_bounced}
use Rattle.tv_history.specs.Entries.{History, is_ended_entry, is_out}
use Rattle.tv_history.specs.Histories.{has_open_instance, is_idle, is_running, is_settled, next_ask}
use Rattle.tv_history.specs.order.Moments.{IsJob, IsLegal}

-- what is so of each job
pub record Stands (past : History) (j : Job) : Type 0 where
  -- one that isn't bounced is settled once it has no next try, or where it opens a flow, once that has ended
  pub settled :
      is_bounced j.ending ≡ false → j.opens ≡ None
      → is_settled past j ≡ is_none (next_ask past j)
  pub settled_inside :
      is_bounced j.ending ≡ false → is_some j.opens ≡ true
      → is_settled past j ≡ list_any (is_ended_entry j.name) past
  -- idle is what runs, isn't out and has no open flow
  pub idle :
      is_idle past j ≡ (is_running past j && not (is_out past j.name)
      && not (has_open_instance past j))
  -- what is out runs, and has a next try and no open flow
  pub out : is_out past j.name ≡ true → is_running past j ≡ true
  pub out_next : is_out past j.name ≡ true → is_some (next_ask past j) ≡ true
  pub out_shut : is_out past j.name ≡ true → has_open_instance past j ≡ false
  -- whose flow is open runs, and has asked all that it asks
  pub open_running : has_open_instance past j ≡ true → is_running past j ≡ true
  pub open_next : has_open_instance past j ≡ true → next_ask past j ≡ None
  -- what runs isn't bounced, and has a next try or a flow
  pub next : is_running past j ≡ true → (is_some (next_ask past j) || is_some j.opens) ≡ true
  pub tried : is_running past j ≡ true → is_bounced j.ending ≡ false
  -- and isn't settled
  pub unsettled : is_running past j ≡ true → is_settled past j ≡ false

abbrev pub StagesOfJobs : Type 0
StagesOfJobs =
    (gives : Giving) (d : Document) (past : History)
    → IsLegal gives d past
    → (j : Job)
    → IsJob gives d j
    → Stands past j
