-- What the calls of a run do, by its names and entries.
use Rattle.std.specs.Prelude.{Bool, None, Option, Some, ◌≡◌, false, true, ℕ}
use Rattle.tv_gate.specs.Outcomes.{Giving, Outcome}
use Rattle.tv_frame.specs.Calls.{SameRegions}
use Rattle.tv_history.specs.Answers.{Question}
use Rattle.tv_history.specs.Calls.{IsNothingOffered, IsTask, NothingSettles, Settles, hands_out, out_now, state_of, try_if_out}
use Rattle.tv_history.specs.Refusals.{IsAccepting}
use Rattle.tv_history.specs.Runs.{Appends, Run}
use Rattle.tv_run.specs.Standing.{StandsOpen, StandsStill, run_of}
use Rattle.tv_history.specs.Recalls.{IsRecalled}
use Rattle.tv_history.specs.Idle.{AreIdle}
use Rattle.tv_history.specs.declared.entry.Entry.{Entry}
use Rattle.tv_run.specs.declared.run.OpenRun.{OpenRun}
use Rattle.tv_history.specs.declared.ticket.JobState.TheVariants as state
use Rattle.tv_history.specs.declared.ticket.Ticket.{Ticket}
use Rattle.tv_history.specs.declared.told.Accepted.{Accepted}
use Rattle.tv_history.specs.declared.told.Moved.{Moved}
use Rattle.tv_history.specs.declared.told.Moved.TheVariants as moved

module _ (gives : Giving) where
  -- it stands as it did, but for rooms: no node came or went
  pub record StaysAs (r s : OpenRun) : Type 0 where
    pub stands : StandsOpen gives s
    pub same : run_of s ≡ run_of r
    pub regions : SameRegions r.pool s.pool

  -- one entry more, and more names perhaps
  pub record GoesTo (r s : OpenRun) (e : Entry) : Type 0 where
    pub stands : StandsOpen gives s
    pub appends : Appends (run_of r) (run_of s) e

  -- what is handed out is the first try on offer
  abbrev pub HandsOut : OpenRun → OpenRun → Option Ticket → Type 0
  HandsOut r s None = StaysAs r s × IsNothingOffered gives (run_of r)
  HandsOut r s (Some t) = GoesTo r s (hands_out t) × ((run_of s).names ≡ (run_of r).names)

  -- something is settled, or nothing can be
  abbrev pub SettlesTo : OpenRun → OpenRun → Bool → Type 0
  SettlesTo r s true = StandsStill gives s × Settles (run_of r) (run_of s)
  SettlesTo r s false = StaysAs r s × NothingSettles gives (run_of r)

  -- something is settled; or nothing can be, and the first try on offer is handed out, or there is none
  abbrev pub MovesTo : OpenRun → OpenRun → Moved → Type 0
  MovesTo r s moved.Settled = SettlesTo r s true
  MovesTo r s (moved.HandedOut t) = HandsOut r s (Some t) × NothingSettles gives (run_of r)
  MovesTo r s moved.Nothing = HandsOut r s None × NothingSettles gives (run_of r)

  -- all tries that were out are taken back
  pub record RecallsTo (r s : OpenRun) (n : ℕ) : Type 0 where
    pub stands : StandsOpen gives s
    pub count : n ≡ out_now gives (run_of r)
    pub recalled : IsRecalled (run_of r) (run_of s) n
    pub names : (run_of s).names ≡ (run_of r).names
    pub idle : AreIdle gives (run_of r) (run_of s)
    pub none_out : out_now gives (run_of s) ≡ 0

  -- nothing is out, and nothing more can be done
  pub record IsOver (r : Run) : Type 0 where
    pub none_out : out_now gives r ≡ 0
    pub nothing_offered : IsNothingOffered gives r
    pub nothing_settles : NothingSettles gives r
    pub no_state_out : (k a t : ℕ) → state_of gives r k ≡ state.Out a t → ⊥
    pub none_asked : (t : Ticket) → try_if_out gives r t ≡ None

  -- this is what the try of the ticket asks, its try is out, and the outcome is what the service gives
  pub record IsAsked (r : OpenRun) (t : Ticket) (q : Question) (o : Outcome) : Type 0 where
    pub of_ticket : q.ticket ≡ t
    pub task : IsTask gives (run_of r) q
    pub given : o ≡ gives q.service q.inputs t.attempt

  -- the outcome is accepted, and the run goes on
  abbrev pub AcceptsTo : OpenRun → OpenRun → Question → Outcome → Accepted → Type 0
  AcceptsTo r s q o a = StandsOpen gives s × IsAccepting gives (run_of r) (run_of s) q o a
