-- Seats and jobs of an instance: each seat has a job, and each job that stands anywhere a seat.
use Rattle.std.specs.Prelude.{◌≡◌, ℕ, true, not, ◌&&◌, ◌||◌, List, [], Some, slice_get}
use Rattle.std.specs.List.{list_any}
use Rattle.std.specs.Option.{option_map_or}
use Rattle.std.proofs.Common.{ap, ap₂, subst, sym, ◌∙◌}
use Rattle.std.specs.Cmp.{first_so}
use Rattle.tv_lemmas.specs.Members.{In}
use Rattle.tv_lemmas.proofs.Cases.{on_or, on_test}
use Rattle.tv_lemmas.proofs.Lists.{of-image, get-map}
use Rattle.tv_lemmas.proofs.Members.{get-in, in-slice}
use Rattle.tv_value.specs.Nested.{Place}
use Rattle.tv_value.specs.Values.{JobName, Name}
use Rattle.tv_gate.specs.Outcomes.{Giving}
use Rattle.tv_flow.specs.Flows.{Document}
use Rattle.tv_model.specs.instance.Steps.{spot}
use Rattle.tv_model.specs.Jobs.{Job}
use Rattle.tv_model.specs.Made.{Meaning}
use Rattle.tv_model.specs.Meanings.{meaning}
use Rattle.tv_model.specs.Turns.{is_bounced}
use Rattle.tv_model.specs.JobOrder.{Apart}
use Rattle.tv_model.proofs.Sound.{spot-step}
use Rattle.tv_model.proofs.Tests.{both_true, or_left, or_right}
use Rattle.tv_history.specs.Entries.{History, is_begun_entry, is_out}
use Rattle.tv_history.specs.Histories.{has_open_instance, has_place, is_idle, is_ready, is_running, is_settled, may_go_on}
use Rattle.tv_history.proofs.Ready.{AnyNumber, document-whole}
use Rattle.tv_history.proofs.Running.{out-begun}
use Rattle.tv_history.proofs.First.{open-running}
use Rattle.tv_framing.specs.Views.{View}
use Rattle.tv_framing.proofs.Numbers.{jobs-differ}
use Rattle.tv_seats.specs.Seats.{Seat}
use Rattle.tv_forest.specs.views.InRun.{IsJobThere}
use Rattle.tv_forest.proofs.views.LawLemmas.{begun-is_known, jobs-are_somewhere, known_jobs-are_there, ready-is_told}
use Rattle.tv_forest.specs.seats.Seated.{Sit, spot_of}
use Rattle.tv_forest.specs.stands.Seats.{HasJob, HasSeat, stands_anywhere}
use Rattle.tv_forest.specs.stands.Stated.{AreAtOwnSpots, JobsHaveSeats, SeatsAreApart, SeatsHaveJobs}
use Rattle.tv_forest.proofs.stands.Lists.{apart-by}

module _ (gives : Giving) (d : Document) (past : History) (I : JobName) (levels : Name → ℕ) (v : View) (ss : List Seat)
    (sit : Sit gives d past I levels v ss) where
  abbrev m : Meaning
  m = meaning gives d

  abbrev pub spot_at : Seat → Name × Place
  spot_at s = spot_of v.flow.steps s

  -- ---- seats have jobs

  spot-listed : (n : ℕ) (s : Seat) → slice_get ss n ≡ Some s → slice_get v.jobs n ≡ Some (spot_at s)
  spot-listed n s e = ap (λ l. slice_get l n) (sym sit.jobs) ∙ get-map spot_at ss n s e

  pub seat-job : (n : ℕ) (s : Seat) → slice_get ss n ≡ Some s → HasJob gives d I v n s
  seat-job n s e =
      let known = spot-listed n s e in
      let there = in-slice v.jobs n (spot_at s) known in
      let j = known_jobs-are_there gives d past I levels v sit.in_run (spot_at s) there in
      record { job = j.0; is_its = j.1; known = known }

  -- ---- jobs have seats

  known-seat : (j : Job) (x : Name × Place) → IsJobThere gives d I j x → In x v.jobs → HasSeat gives d I v ss j
  known-seat j x it i =
      let p = get-in x v.jobs i in
      let s = of-image spot_at ss p.0 x (ap (λ l. slice_get l p.0) sit.jobs ∙ p.1) in
      record { number = p.0; seat = s.0; there = s.1; is_its = subst (IsJobThere gives d I j) (sym s.2) it }

  begun-either : (j : Job) → is_out past j.name ≡ true → (is_running past j || is_settled past j) ≡ true
  begun-either j h =
      on_test (is_settled past j) (λ e. or_right (is_running past j) (is_settled past j) e)
      (λ e.
      or_left (is_running past j) (is_settled past j)
      (both_true (list_any (is_begun_entry j.name) past) (not (is_settled past j)) (out-begun past j.name h) (ap not e)))

  pub job-seat : (j : Job) → In j m.jobs → j.instance ≡ I → stands_anywhere m past j ≡ true → HasSeat gives d I v ss j
  job-seat j i within h =
      let x = jobs-are_somewhere gives d past I levels v sit.in_run j i within in
      let begun = λ (k : (is_running past j || is_settled past j) ≡ true).
      begun-is_known gives d past I levels v sit.in_run x.0 j x.1 k in
      known-seat j x.0 x.1
      (on_or (is_ready m past j || is_running past j || is_settled past j) (is_out past j.name) h
      (λ k.
      on_or (is_ready m past j || is_running past j) (is_settled past j) k
      (λ k.
      on_or (is_ready m past j) (is_running past j) k
      (λ k. ((ready-is_told gives d past I levels v sit.in_run x.0 j x.1).told k).0)
      (λ k. begun (or_left (is_running past j) (is_settled past j) k)))
      (λ k. begun (or_right (is_running past j) (is_settled past j) k)))
      (λ k. begun (begun-either j k)))

  module _ (j : Job) (i : In j m.jobs) (within : j.instance ≡ I) where
    pub ready-seat : is_ready m past j ≡ true → HasSeat gives d I v ss j
    ready-seat h =
        job-seat j i within
        (or_left (is_ready m past j || is_running past j || is_settled past j) (is_out past j.name)
        (or_left (is_ready m past j || is_running past j) (is_settled past j)
        (or_left (is_ready m past j) (is_running past j) h)))

    pub running-seat : is_running past j ≡ true → HasSeat gives d I v ss j
    running-seat h =
        job-seat j i within
        (or_left (is_ready m past j || is_running past j || is_settled past j) (is_out past j.name)
        (or_left (is_ready m past j || is_running past j) (is_settled past j)
        (or_right (is_ready m past j) (is_running past j) h)))

    pub settled-seat : is_settled past j ≡ true → HasSeat gives d I v ss j
    settled-seat h =
        job-seat j i within
        (or_left (is_ready m past j || is_running past j || is_settled past j) (is_out past j.name)
        (or_right (is_ready m past j || is_running past j) (is_settled past j) h))

    pub out-seat : is_out past j.name ≡ true → HasSeat gives d I v ss j
    out-seat h =
        job-seat j i within
        (or_right (is_ready m past j || is_running past j || is_settled past j) (is_out past j.name) h)

    -- one whose flow is open
    pub open-seat : has_open_instance past j ≡ true → HasSeat gives d I v ss j
    open-seat h =
        running-seat (open-running gives AnyNumber m (document-whole gives d) past sit.in_run.legal j i h)

    -- one that may go on
    pub going-seat : may_go_on m past j ≡ true → HasSeat gives d I v ss j
    going-seat h =
        on_or (is_idle past j) (is_ready m past j && not (is_bounced j.ending) && has_place m past j) h
        (λ k.
        running-seat
        (first_so (is_running past j) (not (is_out past j.name))
        (first_so (is_running past j && not (is_out past j.name)) (not (has_open_instance past j)) k)))
        (λ k.
        ready-seat
        (first_so (is_ready m past j) (not (is_bounced j.ending))
        (first_so (is_ready m past j && not (is_bounced j.ending)) (has_place m past j) k)))

  -- ---- no two are one

  one-seat : (n k : ℕ) (s t : Seat) → slice_get ss n ≡ Some s → slice_get ss k ≡ Some t
      → spot_at s ≡ spot_at t → n ≡ k
  one-seat n k s t e g h =
      jobs-differ v sit.in_run.frame (spot_at s).0 (spot_at s).1 n k (spot-listed n s e)
      (spot-listed k t g ∙ ap Some (sym h))

  pub own-spots : AreAtOwnSpots v ss
  own-spots = record {
    spots = one-seat;
    places = λ n k s t e g p q.
        one-seat n k s t e g
        (ap₂ (λ l r. (option_map_or (λ u. u.0) (slice_get v.flow.steps l) [], r)) p q);
  }

  -- ---- the names of their jobs

  abbrev pub name_at : Seat → JobName
  name_at s = spot I (spot_at s).0 (spot_at s).1

  pub names-apart : Apart name_at ss
  names-apart =
      apart-by name_at ss
      (λ n k s t e g h.
      let p = spot-step I (spot_at s).0 (spot_at t).0 (spot_at s).1 (spot_at t).1 h in
      one-seat n k s t e g (λ i. (p.0 i, p.1 i)))

-- ---- the laws

pub seats-have_jobs : SeatsHaveJobs
seats-have_jobs gives d past I levels v ss sit n s e = seat-job gives d past I levels v ss sit n s e

pub jobs-have_seats : JobsHaveSeats
jobs-have_seats gives d past I levels v ss sit j i within h = job-seat gives d past I levels v ss sit j i within h

pub seats-are_apart : SeatsAreApart
seats-are_apart gives d past I levels v ss sit = own-spots gives d past I levels v ss sit
