-- Jobs of an instance are counted by their seats.
use Rattle.std.specs.Prelude.{◌≡◌, ℕ, Bool, true, ◌&&◌, ◌==◌, List, [], count_by, slice_get, Some}
use Rattle.std.specs.Cmp.Lexicographic.{bytes_decides}
use Rattle.std.specs.Option.{option_map_or}
use Rattle.std.proofs.Common.{ap, eq-eqb, eqb-true, sym, ◌∙◌}
use Rattle.std.proofs.lemmas.Option.{same_Some}
use Rattle.std.specs.Cmp.{first_so, second_so}
use Rattle.std.specs.Cmp.Derive.{one_truth}
use Rattle.tv_lemmas.specs.Members.{In}
use Rattle.tv_lemmas.proofs.Members.{get-in, in-slice}
use Rattle.tv_value.specs.Orders.{same_job, same_name}
use Rattle.tv_value.specs.Values.{JobName, Name}
use Rattle.tv_value.proofs.JobNameLemmas.{same_job_decides}
use Rattle.tv_gate.specs.Outcomes.{Giving}
use Rattle.tv_flow.specs.Flows.{Document, Step}
use Rattle.tv_flow.specs.Formed.{is_ascending}
use Rattle.tv_naming.proofs.ByPosition.{names_of}
use Rattle.tv_naming.proofs.FormedParts.{steps-ascend}
use Rattle.tv_check.proofs.Ranked.{one-place}
use Rattle.tv_model.specs.Jobs.{Job}
use Rattle.tv_model.specs.Made.{Meaning}
use Rattle.tv_model.specs.Meanings.{meaning}
use Rattle.tv_history.specs.Entries.{History}
use Rattle.tv_history.specs.Histories.{is_running}
use Rattle.tv_history.proofs.Ready.{document-whole}
use Rattle.tv_framing.specs.Views.{View}
use Rattle.tv_seats.specs.Seats.{Seat}
use Rattle.tv_seats.specs.Stages.{runs}
use Rattle.tv_forest.proofs.views.OwnDepths.{formed-flow}
use Rattle.tv_forest.specs.seats.Seated.{Sit}
use Rattle.tv_forest.specs.stands.Seats.{HasSeat, IsJobOf}
use Rattle.tv_forest.specs.stands.Stated.{CountsBySeats, RunningBySeats}
use Rattle.tv_forest.proofs.stands.Counts.{ArePartnered, as-many}
use Rattle.tv_forest.proofs.stands.Seats.{name_at, names-apart, running-seat, seat-job}
use Rattle.tv_forest.proofs.stands.Stages.{runs-is}

-- where each that counts has a seat, which counts
module _ (gives : Giving) (d : Document) (past : History) (I : JobName) (levels : Name → ℕ) (v : View)
    (ss : List Seat) (sit : Sit gives d past I levels v ss) (counts : Job → Bool) (seat_counts : Seat → Bool)
    (seated : (j : Job) → In j (meaning gives d).jobs → counts j ≡ true → HasSeat gives d I v ss j)
    (alike : (n : ℕ) (s : Seat) (j : Job) → slice_get ss n ≡ Some s → IsJobOf gives d I v j s → counts j ≡ seat_counts s)
  where
    abbrev m : Meaning
    m = meaning gives d

    abbrev name_of : Seat → JobName
    name_of = name_at gives d past I levels v ss sit

    jobs-partnered : ArePartnered (λ (j : Job). j.name) name_of counts seat_counts m.jobs ss
    jobs-partnered j i h =
        let w = seated j i h in (
          w.seat,
          in-slice ss w.number w.seat w.there,
          sym (alike w.number w.seat j w.there w.is_its) ∙ h,
          sym w.is_its.name,
        )

    seats-partnered : ArePartnered name_of (λ (j : Job). j.name) seat_counts counts ss m.jobs
    seats-partnered s i h =
        let p = get-in s ss i in
        let w = seat-job gives d past I levels v ss sit p.0 s p.1 in
        (w.job, w.is_its.listed, alike p.0 s w.job p.1 w.is_its ∙ h, w.is_its.name)

    pub counted-by : count_by counts m.jobs ≡ count_by seat_counts ss
    counted-by =
        as-many (λ (j : Job). j.name) name_of counts seat_counts m.jobs ss (document-whole gives d).jobs_apart
        (names-apart gives d past I levels v ss sit) jobs-partnered seats-partnered

pub counts-by_seats : CountsBySeats
counts-by_seats gives d past I levels v ss sit counts seat_counts told =
    counted-by gives d past I levels v ss sit (λ j. same_job j.instance I && counts j) seat_counts
    (λ j i h.
    told.seated j i ((same_job_decides j.instance I).0 (first_so (same_job j.instance I) (counts j) h))
    (second_so (same_job j.instance I) (counts j) h))
    (λ n s j e it.
    let own = (same_job_decides j.instance I).1 it.within in
    ap (λ b. b && counts j) own ∙ told.alike n s j e it)

-- ---- how many of a step run

module _ (gives : Giving) (d : Document) (past : History) (I : JobName) (levels : Name → ℕ) (v : View)
    (ss : List Seat) (sit : Sit gives d past I levels v ss) where
  -- the steps' names are in order
  pub steps-rise : is_ascending (names_of v.flow.steps) ≡ true
  steps-rise =
      steps-ascend v.flow (formed-flow d sit.in_run.formed sit.in_run.flow_name v.flow sit.in_run.is_flow)

  module _ (k : ℕ) (t : Name × Step) (there : slice_get v.flow.steps k ≡ Some t) where
    -- the job of a seat is of the step that the seat is of
    pub step-is : (l : ℕ) (s : Seat) (j : Job) → slice_get ss l ≡ Some s → IsJobOf gives d I v j s
        → same_name j.step t.0 ≡ (s.step == k)
    step-is l s j e it =
        let u = sit.steps l s e in
        let name : j.step ≡ u.0.0 = it.step ∙ ap (λ o. option_map_or (λ w. w.0) o []) u.1 in
        one_truth (same_name j.step t.0) (s.step == k)
        (λ h.
        eq-eqb s.step k
        (one-place v.flow.steps s.step k u.0 t steps-rise u.1 there (sym name ∙ (bytes_decides j.step t.0).0 h)))
        (λ h.
        let same : u.0 ≡ t = same_Some u.0 t (sym u.1 ∙ ap (slice_get v.flow.steps) (eqb-true s.step k h) ∙ there) in
        (bytes_decides j.step t.0).1 (name ∙ ap (λ w. w.0) same))

    abbrev runs_at : Job → Bool
    runs_at j = same_job j.instance I && same_name j.step t.0 && is_running past j

    pub running-at : count_by runs_at (meaning gives d).jobs ≡ count_by (λ s. s.step == k && runs s.stage) ss
    running-at =
        counted-by gives d past I levels v ss sit runs_at (λ s. s.step == k && runs s.stage)
        (λ j i h.
        let own = first_so (same_job j.instance I) (same_name j.step t.0) (first_so (same_job j.instance I && same_name j.step t.0) (is_running past j) h) in
        running-seat gives d past I levels v ss sit j i ((same_job_decides j.instance I).0 own)
        (second_so (same_job j.instance I && same_name j.step t.0) (is_running past j) h))
        (λ l s j e it.
        let own = (same_job_decides j.instance I).1 it.within in
        let step = step-is l s j e it in
        let running = runs-is past j s.stage (sit.stages l s j e it) in
        λ i. own i && step i && running i)

pub running-by_seats : RunningBySeats
running-by_seats gives d past I levels v ss sit k t e = running-at gives d past I levels v ss sit k t e
