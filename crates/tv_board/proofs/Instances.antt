-- The results that are kept are outputs of different jobs with results, each in the frame of its open instance.
use Rattle.std.specs.Option.{option_map_or}
use Rattle.std.specs.Prelude.{◌≡◌, ℕ, ◌≤◌, ◌&&◌, Bool, List, Option, Some, filter, length, option_and_then, slice_get}
use Rattle.std.proofs.Common.{ap, subst, sym, ◌∙◌}
use Rattle.std.proofs.lemmas.List.{length-map}
use Rattle.std.specs.Cmp.{first_so, second_so}
use Rattle.tv_lemmas.specs.Members.{In}
use Rattle.tv_lemmas.proofs.Members.{of-filter}
use Rattle.tv_value.specs.Nested.{Place}
use Rattle.tv_value.specs.Values.{Name}
use Rattle.tv_gate.specs.Outcomes.{Giving}
use Rattle.tv_flow.specs.Flows.{Document, Flow, Step}
use Rattle.tv_model.specs.instance.Steps.{declared_depths}
use Rattle.tv_pool.specs.Pool.{live_count}
use Rattle.tv_outputs.specs.Known.{Nodes}
use Rattle.tv_model.specs.Jobs.{Job}
use Rattle.tv_model.specs.Made.{Meaning}
use Rattle.tv_model.specs.Meanings.{meaning}
use Rattle.tv_model.specs.RightDepths.{HaveTheseDepths}
use Rattle.tv_model.specs.JobOrder.{Apart}
use Rattle.tv_history.specs.Entries.{History}
use Rattle.tv_history.specs.Histories.{is_open, is_settled, kept_results}
use Rattle.tv_history.proofs.Ready.{document-whole}
use Rattle.tv_run.specs.FramingViews.{View}
use Rattle.tv_run.proofs.Coming.{as-declared}
use Rattle.tv_run.specs.Theirs.{AreTheirs, Frames}
use Rattle.tv_seats.specs.Seats.{Seat}
use Rattle.tv_run.specs.Forest.{Instance, Instances, IsAt, IsJobAt, Stand}
use Rattle.tv_run.specs.InstancesStanding.{job_of}
use Rattle.tv_board.proofs.Jobs.{Lives, lives, one-name}
use Rattle.tv_board.proofs.Regions.{HasFrame, Housed, all-housed, outputs, spot}
use Rattle.tv_board.proofs.Sums.{apart-filter, apart-made, made, sum-filter, sum-made}

-- what the instance of that number was told, while it is open
abbrev told_of : Instances → ℕ → Option View
told_of xs i = option_and_then (λ (x : Instance). x.view) (slice_get xs i)

module _ (gives : Giving) (d : Document) (levels : Flow → Name → ℕ) (past : History) (xs : Instances)
    (stand : Stand gives d levels past xs) (pool : Nodes) (fs : Frames) (theirs : AreTheirs pool fs)
    (framed : (i : ℕ) (x : Instance) (v : View) → IsAt xs i x → x.view ≡ Some v → HasFrame d.flows pool fs i v)
    (deep : (i n : ℕ) (x : Instance) (s : Seat) (j : Job) → IsJobAt gives d xs i n x s j
    → (t : Name × Step) → slice_get x.flow.steps s.step ≡ Some t
    → HaveTheseDepths (declared_depths t.1) j.result) where
  abbrev m : Meaning
  m = meaning gives d

  -- ---- the jobs whose results are kept

  abbrev keeps : Job → Bool
  keeps j = is_open past j.instance && is_settled past j

  abbrev kept_jobs : List Job
  kept_jobs = filter keeps m.jobs

  its : (j : Job) → In j kept_jobs → Lives gives d levels past xs stand j
  its j i =
      let w = of-filter keeps j m.jobs i in
      lives gives d levels past xs stand j w.0
      (first_so (is_open past j.instance) (is_settled past j) w.1)
      (second_so (is_open past j.instance) (is_settled past j) w.1)

  -- ---- each in its frame

  abbrev House : Type 0
  House = Housed d.flows pool fs theirs (told_of xs)

  abbrev house : (j : Job) → In j kept_jobs → House
  house j i =
      let l = its j i in
      record {
        number = l.number;
        job = job_of l.seat;
        view = l.view;
        is_told = ap (option_and_then (λ (x : Instance). x.view)) l.is_its.instance ∙ l.told;
        own = framed l.number l.instance l.view l.is_its.instance l.told;
        has = l.has;
      }

  abbrev count : House → ℕ
  count = outputs d.flows pool fs theirs (told_of xs)

  abbrev at_spot : House → ℕ × (ℕ × Place)
  at_spot = spot d.flows pool fs theirs (told_of xs)

  -- a value for each output of its step
  as-many : (j : Job) (i : In j kept_jobs) → length j.result ≡ count (house j i)
  as-many j i =
      let l = its j i in
      let step = l.has.step in
      as-declared (declared_depths step.1) j.result
      (deep l.number l.seat_number l.instance l.seat j l.is_its step l.at_step)
      ∙ length-map step.1.outputs (λ o. o.1)
      ∙ ap (λ o. option_map_or (λ (s : Name × Step). length s.1.outputs) o 0) (sym l.has.there)

  houses-apart : Apart at_spot (made kept_jobs house)
  houses-apart =
      apart-made (λ (j : Job). j.name) at_spot kept_jobs house
      (λ j k i l e.
      one-name gives d levels past xs stand j k (its j i) (its k l) (ap (λ p. p.0) e) (ap (λ p. p.1) e))
      (apart-filter keeps (λ (j : Job). j.name) m.jobs (document-whole gives d).jobs_apart)

  pub kept-housed : kept_results m past ≤ live_count pool.regions
  kept-housed =
      subst (λ n. n ≤ live_count pool.regions)
      (sym
      (sum-filter keeps (λ (j : Job). length j.result) m.jobs
      ∙ sum-made (λ (j : Job). length j.result) count kept_jobs house as-many))
      (all-housed d.flows pool fs theirs (told_of xs) (made kept_jobs house) houses-apart)
