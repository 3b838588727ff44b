-- That what the meaning offers reads no closing: no list that was closed and no fault that was passed.
use Rattle.std.specs.Prelude.{Bool, false, filter, not, true, ◌≡◌}
use Rattle.tv_gate.specs.Outcomes.{Giving}
use Rattle.tv_model.specs.Jobs.{Job}
use Rattle.tv_model.specs.Made.{Meaning}
use Rattle.tv_history.specs.Entries.{Entry, History, closed, fault_passed}
use Rattle.tv_history.specs.Histories.{is_offered_by_meaning}

abbrev pub is_closing : Entry → Bool
is_closing (closed n k) = true
is_closing (fault_passed n) = true
is_closing _ = false

-- what is left of a history
abbrev pub without_closings : History → History
without_closings past = filter (λ e. not (is_closing e)) past

-- of every history and every meaning, legal or not
abbrev pub OffersReadNoClosing : Type 0
OffersReadNoClosing =
    (gives : Giving) (m : Meaning) (past : History) (j : Job)
    → is_offered_by_meaning m (without_closings past) j ≡ is_offered_by_meaning m past j
