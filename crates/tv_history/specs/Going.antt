-- How long a history can be, that it can go on, and how many tries are out after one entry more.
use Rattle.std.specs.Prelude.{Bool, false, length, suc, sum_by, true, ℕ, ◌*◌, ◌+◌, ◌≡◌, ◌≤◌}
use Rattle.tv_lemmas.specs.Members.{Each}
use Rattle.tv_gate.specs.Outcomes.{Giving}
use Rattle.tv_flow.specs.Flows.{Document}
use Rattle.tv_model.specs.Made.{Meaning}
use Rattle.tv_model.specs.Levels.{levels}
use Rattle.tv_history.specs.Entries.{Entry, History, accepted, handed_out, recalled}
use Rattle.tv_history.specs.Histories.{is_legal_after}

abbrev pub is_recall : Entry → Bool
is_recall (recalled k) = true
is_recall _ = false

-- what is never undone: whatever is handed out may be recalled, and handed out again
abbrev pub is_progress : Entry → Bool
is_progress (handed_out n a t) = false
is_progress (recalled k) = false
is_progress _ = true

-- twice the asks, four times the jobs, and the lists and passed faults, and one more
abbrev pub most_entries : Meaning → ℕ
most_entries m = 2 * sum_by (λ j. length j.asks) m.jobs + 4 * length m.jobs
    + length (levels m.steps) + 1

-- an entry that is legal next, and no recall
abbrev pub Next : Giving → Meaning → History → Type 0
Next gives m past = (e : Entry) × (is_legal_after gives m past e ≡ true) × (is_recall e ≡ false)

-- what the check of a document gives: every step may have a job at a time
pub record IsWellFormed (d : Document) : Type 0 where
  pub places : Each (λ f. Each (λ s. 1 ≤ s.1.jobs) f.1.steps) d.flows

-- how many tries are out after an entry: one more where it hands one out, one fewer where it accepts an outcome, none where it
-- recalls all that are out, and as many as before otherwise
abbrev pub OutAfter : Entry → ℕ → ℕ → Type 0
OutAfter (handed_out n a t) before after = after ≡ suc before
OutAfter (accepted n a t r) before after = before ≡ suc after
OutAfter (recalled k) before after = (before ≡ k) × (after ≡ 0)
OutAfter _ before after = after ≡ before
