-- Entries of other instances.
use Rattle.std.specs.Prelude.{◌≡◌, None, Option, Some, false, ◌∷◌}
use Rattle.tv_value.specs.Nested.{Place}
use Rattle.tv_value.specs.Values.{JobName, Name}
use Rattle.tv_model.specs.instance.Steps.{spot}
use Rattle.tv_history.specs.Entries.{Entry, History, accepted, bounced, closed, ended, fault_passed, handed_out, is_ended_entry, is_out, opened, recalled}
use Rattle.tv_framing.specs.instances.InHistory.{IsOfNoLevel, SettlesNot}

-- the name of the job, list, fault or instance that an entry is of
abbrev pub name_in : Entry → Option JobName
name_in (handed_out n a t) = Some n
name_in (accepted n a t r) = Some n
name_in (bounced n) = Some n
name_in (closed n k) = Some n
name_in (fault_passed n) = Some n
name_in (opened n) = Some n
name_in (ended n) = Some n
name_in (recalled k) = None

-- the entry is of no job, list or fault of the instance, and doesn't end it
pub record IsElsewhere (e : Entry) (I : JobName) : Type 0 where
  pub settles : (s : Name) (q : Place) → SettlesNot e (spot I s q)
  pub rest : IsOfNoLevel e I
  pub leaves_open : is_ended_entry I e ≡ false
  pub out : (past : History) (s : Name) (q : Place)
      → is_out (e ∷ past) (spot I s q) ≡ is_out past (spot I s q)
