-- What an answer answers.
use Rattle.std.specs.Prelude.{List, ℕ}
use Rattle.tv_value.specs.Values.{Name, Value}
use Rattle.tv_value.specs.Views.{values_view}
use Rattle.tv_value.specs.declared.value.Items.{Items}
use Rattle.tv_history.specs.declared.ticket.Ticket.{Ticket}

-- the ticket, service, inputs and outputs of a task or an answer
pub record Question : Type 0 where
  pub ticket : Ticket
  pub service : Name
  pub inputs : List Value
  pub outputs : List (Name × ℕ)

abbrev pub question : Ticket → Name → Items → List (Name × ℕ) → Question
question t s vs os = record { ticket = t; service = s; inputs = values_view vs; outputs = os }
