-- What the seats of an instance tell of its jobs, whether it is open or has ended.
use Rattle.std.specs.Prelude.{◌≡◌, ℕ, true, List, Some, slice_get}
use Rattle.std.proofs.Common.{subst, sym}
use Rattle.tv_lemmas.specs.Members.{In}
use Rattle.tv_value.specs.Values.{JobName, Name}
use Rattle.tv_gate.specs.Outcomes.{Giving}
use Rattle.tv_flow.specs.Flows.{Document, Flow}
use Rattle.tv_model.specs.Jobs.{Job}
use Rattle.tv_model.specs.Made.{Meaning}
use Rattle.tv_model.specs.Meanings.{meaning}
use Rattle.tv_history.specs.Entries.{History}
use Rattle.tv_framing.specs.Views.{View}
use Rattle.tv_seats.specs.Seats.{Seat}
use Rattle.tv_forest.specs.views.InRun.{IsJobThere}
use Rattle.tv_forest.specs.seats.Seated.{HasEnded, HasSeatIn, IsStage, Sit, spot_of}
use Rattle.tv_forest.specs.stands.Seats.{stands_anywhere}
use Rattle.tv_forest.proofs.stands.Seats.{jobs-have_seats, seats-are_apart, seats-have_jobs}

module _ (gives : Giving) (d : Document) (past : History) where
  abbrev m : Meaning
  m = meaning gives d

  pub record AreSeats (I : JobName) (flow : Flow) (ss : List Seat) : Type 0 where
    pub jobs : (n : ℕ) (s : Seat) → slice_get ss n ≡ Some s → (j : Job) × IsJobThere gives d I j (spot_of flow.steps s)
    pub apart :
        (n k : ℕ) (s t : Seat) → slice_get ss n ≡ Some s → slice_get ss k ≡ Some t
        → spot_of flow.steps s ≡ spot_of flow.steps t → n ≡ k
    pub have :
        (j : Job) → In j m.jobs → j.instance ≡ I → stands_anywhere m past j ≡ true → HasSeatIn gives d I flow ss j
    pub stages :
        (n : ℕ) (s : Seat) (j : Job) → slice_get ss n ≡ Some s
        → IsJobThere gives d I j (spot_of flow.steps s) → IsStage past j s.stage

  -- of an open one
  pub of-open : (I : JobName) (levels : Name → ℕ) (v : View) (ss : List Seat) → Sit gives d past I levels v ss
      → AreSeats I v.flow ss
  of-open I levels v ss sit = record {
    jobs = λ n s e. let w = seats-have_jobs gives d past I levels v ss sit n s e in (w.job, w.is_its);
    apart = (seats-are_apart gives d past I levels v ss sit).spots;
    have = λ j i e h.
        let w = jobs-have_seats gives d past I levels v ss sit j i e h in
        record { number = w.number; seat = w.seat; there = w.there; is_its = w.is_its };
    stages = sit.stages;
  }

  -- of one that has ended
  pub of-ended : (I : JobName) (flow : Flow) (ss : List Seat) → HasEnded gives d past I flow ss → AreSeats I flow ss
  of-ended I flow ss e = record {
    jobs = e.jobs;
    apart = e.apart;
    have = λ j i w h. e.all j i w;
    stages = λ n s j there it. subst (IsStage past j) (sym (e.settled n s there)) (e.stages n s j there it);
  }
