-- The seats of an instance after an entry: those before, one at another stage, and those of jobs that became known.
use Rattle.std.specs.Prelude.{◌≡◌, ◌≢◌, refl, ℕ, ◌+◌, ◌<◌, List, [], ◌∷◌, ◌++◌, true, false, not, ◌&&◌, ◌||◌, Some, length, map, slice_get}
use Rattle.std.specs.List.{list_any}
use Rattle.std.proofs.Common.{ap, arith, subst, sym, ◌∙◌}
use Rattle.std.proofs.lemmas.Bool.{false_from_ne_true, or_parts}
use Rattle.std.proofs.lemmas.List.{map-append}
use Rattle.std.proofs.lemmas.Option.{slice_get_within}
use Rattle.tv_lemmas.specs.Members.{In}
use Rattle.tv_lemmas.proofs.Cases.{on_either}
use Rattle.tv_lemmas.proofs.Lists.{in-front, in-behind, get-map}
use Rattle.tv_lemmas.proofs.Members.{get-in, in-slice}
use Rattle.tv_value.specs.Nested.{Place}
use Rattle.tv_value.specs.Orders.{same_job}
use Rattle.tv_value.specs.Values.{JobName, Name}
use Rattle.tv_value.proofs.JobNameLemmas.{same_job_decides}
use Rattle.tv_gate.specs.Outcomes.{Giving}
use Rattle.tv_flow.specs.Flows.{Document, Flow, Step}
use Rattle.tv_model.specs.instance.Events.{Event, has_result, is_taken}
use Rattle.tv_model.specs.Jobs.{Job}
use Rattle.tv_model.specs.Made.{Meaning}
use Rattle.tv_model.specs.Meanings.{meaning}
use Rattle.tv_model.proofs.Sound.{spot-step}
use Rattle.tv_model.proofs.Tests.{both_true, true≠false}
use Rattle.tv_history.specs.Entries.{Entry, History, is_begun_entry, is_out}
use Rattle.tv_history.specs.Histories.{has_open_instance, is_legal, is_legal_after, is_running, is_settled}
use Rattle.tv_history.proofs.Ready.{AnyNumber, all-sound, are-jobs, document-whole}
use Rattle.tv_history.proofs.Running.{AreJobs, instance-begun, out-begun}
use Rattle.tv_framing.specs.Frames.{IsFrame}
use Rattle.tv_framing.specs.Stated.{IsOfDepths}
use Rattle.tv_framing.specs.Views.{View}
use Rattle.tv_framing.proofs.Numbers.{jobs-differ}
use Rattle.tv_seats.specs.Seats.{Seat, staged, with_stage}
use Rattle.tv_seats.specs.declared.stage.Stage.{Stage}
use Rattle.tv_seats.specs.declared.stage.Stage.TheVariants as stage
use Rattle.tv_seats.proofs.Staging.{as-set, by-same, some-same, staged-here, staged-other}
use Rattle.tv_forest.specs.views.InRun.{IsInRun, IsJobThere, IsViewOf}
use Rattle.tv_forest.proofs.views.LawLemmas.{begun-is_known, known_jobs-are_there, taken-is_running}
use Rattle.tv_forest.specs.seats.GoingOn.{AreNewSeats, GoesOn}
use Rattle.tv_forest.specs.seats.Seated.{IsStage, Sit, spot_of}
use Rattle.tv_forest.proofs.seats.Lists.{in-either, same-images}
use Rattle.tv_forest.proofs.seats.Stages.{LeavesAlone, stage-stays}

abbrev IsAt : Seat → Flow → Type 0
IsAt s g = (t : Name × Step) × (slice_get g.steps s.step ≡ Some t)

-- ---- jobs and their spots

module _ (gives : Giving) (d : Document) (I : JobName) where
  -- jobs at two spots have two names
  pub other-name : (j k : Job) (x y : Name × Place) → IsJobThere gives d I j x → IsJobThere gives d I k y → x ≢ y
      → same_job j.name k.name ≡ false
  other-name j k x y p q ne =
      false_from_ne_true (same_job j.name k.name)
      (λ h.
      let e = spot-step I x.0 y.0 x.1 y.1 (sym p.name ∙ (same_job_decides j.name k.name).0 h ∙ q.name) in
      ne (λ i. (e.0 i, e.1 i)))

  -- and there is one job at a spot
  pub one-job : (j k : Job) (x : Name × Place) → IsJobThere gives d I j x → IsJobThere gives d I k x → j ≡ k
  one-job j k x p q =
      (are-jobs gives AnyNumber (meaning gives d) [] (document-whole gives d)).once j k p.listed q.listed
      (p.name ∙ sym q.name)

-- ---- jobs that haven't begun

module _ (gives : Giving) (d : Document) (past : History) (j : Job) (listed : In j (meaning gives d).jobs)
    (untold : list_any (is_begun_entry j.name) past ≡ false) (unsettled : is_settled past j ≡ false) where
  abbrev w : AreJobs gives (meaning gives d)
  w = are-jobs gives AnyNumber (meaning gives d) [] (document-whole gives d)

  -- one waits
  pub unbegun-waits : IsStage past j stage.Waiting
  unbegun-waits = record {
    unsettled = unsettled;
    runs = ap (λ b. b && not (is_settled past j)) untold;
    is_out = false_from_ne_true (is_out past j.name) (λ h. true≠false (sym (out-begun past j.name h) ∙ untold));
    inside =
        false_from_ne_true (has_open_instance past j)
        (λ h.
        true≠false
        (sym
        (instance-begun gives (meaning gives d)
        (all-sound gives AnyNumber (meaning gives d) [] (document-whole gives d)) w past j listed h)
        ∙ untold));
  }

-- ---- an instance that was told nothing

module _ (gives : Giving) (d : Document) (past : History) (I : JobName) (levels : Name → ℕ) (v : View)
    (in_run : IsInRun gives d past I levels v) (none : v.events ≡ []) where
  untold-waits : (j : Job) (x : Name × Place) → IsJobThere gives d I j x → IsStage past j stage.Waiting
  untold-waits j x it =
      let told = taken-is_running gives d past I levels v in_run x j it in
      unbegun-waits gives d past j it.listed (told.begun ∙ ap (λ es. is_taken es x.0 x.1) none)
      (told.settled ∙ ap (λ es. has_result es x.0 x.1) none)

  pub untold-sits : (ss : List Seat) → map (spot_of v.flow.steps) ss ≡ v.jobs → AreNewSeats v.flow.steps ss
      → Sit gives d past I levels v ss
  untold-sits ss jobs new = record {
    in_run = in_run;
    jobs = jobs;
    steps = new.there;
    stages = λ n s j e it.
        subst (IsStage past j) (sym (new.waiting n s e)) (untold-waits j (spot_of v.flow.steps s) it);
  }

-- ---- the seats of an instance

module _ (gives : Giving) (d : Document) (past : History) (I : JobName) (levels : Name → ℕ) (v : View) (ss : List Seat)
    (sit : Sit gives d past I levels v ss) where
  abbrev m : Meaning
  m = meaning gives d

  abbrev spot_at : Seat → Name × Place
  spot_at s = spot_of v.flow.steps s

  abbrev pub IsThere : Job → Name × Place → Type 0
  IsThere j x = IsJobThere gives d I j x

  spot-listed : (n : ℕ) (s : Seat) → slice_get ss n ≡ Some s → slice_get v.jobs n ≡ Some (spot_at s)
  spot-listed n s e = ap (λ l. slice_get l n) (sym sit.jobs) ∙ get-map spot_at ss n s e

  pub is-known : (n : ℕ) (s : Seat) → slice_get ss n ≡ Some s → In (spot_at s) v.jobs
  is-known n s e = in-slice v.jobs n (spot_at s) (spot-listed n s e)

  pub its-job : (n : ℕ) (s : Seat) → slice_get ss n ≡ Some s → (j : Job) × IsThere j (spot_at s)
  its-job n s e = known_jobs-are_there gives d past I levels v sit.in_run (spot_at s) (is-known n s e)

  -- there is one seat at a spot
  pub one-seat : (n k : ℕ) (s t : Seat) → slice_get ss n ≡ Some s → slice_get ss k ≡ Some t → spot_at s ≡ spot_at t → n ≡ k
  one-seat n k s t e g h =
      jobs-differ v sit.in_run.frame (spot_at s).0 (spot_at s).1 n k (spot-listed n s e)
      (spot-listed k t g ∙ ap Some (sym h))

  -- a job that isn't known waits
  unknown-waits : (j : Job) (y : Name × Place) → IsThere j y → (In y v.jobs → ⊥) → IsStage past j stage.Waiting
  unknown-waits j y it unknown =
      let neither =
      false_from_ne_true (is_running past j || is_settled past j)
      (λ h. unknown (begun-is_known gives d past I levels v sit.in_run y j it h)) in
      let begun = list_any (is_begun_entry j.name) past in
      let idle = (or_parts (is_running past j) (is_settled past j) neither).0 in
      let unsettled = (or_parts (is_running past j) (is_settled past j) neither).1 in
      let untold =
      false_from_ne_true begun
      (λ h. true≠false (sym (both_true begun (not (is_settled past j)) h (ap not unsettled)) ∙ idle)) in
      unbegun-waits gives d past j it.listed untold unsettled

  -- ---- after an entry

  module _ (x : Entry) where
    -- the run goes on with a legal entry, where the view does
    pub in-run : is_legal_after gives m past x ≡ true → (w : View) → w.flow ≡ v.flow → IsFrame w
        → IsOfDepths d.flows levels w → IsViewOf gives d (x ∷ past) I w → IsInRun gives d (x ∷ past) I levels w
    in-run legal w flow frame depths view = record {
      formed = sit.in_run.formed;
      accepted = sit.in_run.accepted;
      legal = both_true (is_legal gives m past) (is_legal_after gives m past x) sit.in_run.legal legal;
      flow_name = sit.in_run.flow_name;
      is_flow = sit.in_run.is_flow ∙ ap Some (sym flow);
      frame = frame;
      depths = depths;
      view = view;
    }

    abbrev AtSteps : List Seat → Type 0
    AtSteps us = (n : ℕ) (s : Seat) → slice_get us n ≡ Some s → IsAt s v.flow

    abbrev AtStages : List Seat → Type 0
    AtStages us =
        (n : ℕ) (s : Seat) (j : Job) → slice_get us n ≡ Some s → IsThere j (spot_at s) → IsStage (x ∷ past) j s.stage

    -- the seats of the jobs known before, as the entry leaves them
    pub record AreThen (us : List Seat) : Type 0 where
      pub spots : map spot_at us ≡ v.jobs
      pub there : AtSteps us
      pub stages : AtStages us

    -- it is of no job
    pub none-changes : ((j : Job) (y : Name × Place) → IsThere j y → LeavesAlone past x j) → AreThen ss
    none-changes alone = record {
      spots = sit.jobs;
      there = sit.steps;
      stages = λ n s j e it. stage-stays past x j (alone j (spot_at s) it) s.stage (sit.stages n s j e it);
    }

    -- it is of the job at this spot alone
    abbrev pub IsOfJobAt : Name × Place → Type 0
    IsOfJobAt p = (j : Job) (y : Name × Place) → IsThere j y → y ≢ p → LeavesAlone past x j

    module _ (j : Job) (n : ℕ) (s : Seat) (y : Stage) (there : slice_get ss n ≡ Some s) (it : IsThere j (spot_at s))
        (others : IsOfJobAt (spot_at s)) (here : IsStage (x ∷ past) j y) where
      abbrev changed : List Seat
      changed = with_stage n y ss

      at-steps : AtSteps changed
      at-steps k t e =
          by-same ss n s y there k (λ ne. sit.steps k t (sym (staged-other ss n s y there k ne) ∙ e))
          (λ is.
          let q : staged y s ≡ t = some-same (sym (staged-here ss n s y there) ∙ ap (slice_get changed) (sym is) ∙ e) in
          subst (λ (u : Seat). IsAt u v.flow) q (sit.steps n s there))

      at-stages : AtStages changed
      at-stages k t i e p =
          by-same ss n s y there k
          (λ ne.
          let g = sym (staged-other ss n s y there k ne) ∙ e in
          stage-stays past x i (others i (spot_at t) p (λ q. ne (one-seat k n t s g there q))) t.stage
          (sit.stages k t i g p))
          (λ is.
          let q : staged y s ≡ t = some-same (sym (staged-here ss n s y there) ∙ ap (slice_get changed) (sym is) ∙ e) in
          let same = one-job gives d I j i (spot_at s) it (subst (λ (u : Seat). IsThere i (spot_at u)) (sym q) p) in
          subst (λ (u : Seat). IsStage (x ∷ past) i u.stage) q (subst (λ l. IsStage (x ∷ past) l y) same here))

      pub one-changes : AreThen (with_stage n y ss)
      one-changes = record {
        spots =
            ap (map spot_at) (as-set ss n s y there) ∙ same-images spot_at ss n s (staged y s) there refl ∙ sit.jobs;
        there = at-steps;
        stages = at-stages;
      }

    -- ---- where the frame is told nothing

    pub sits-same : (us : List Seat) → AreThen us → IsInRun gives d (x ∷ past) I levels v
        → Sit gives d (x ∷ past) I levels v us
    sits-same us kept now = record {
      in_run = now;
      jobs = kept.spots;
      steps = kept.there;
      stages = kept.stages;
    }

    -- ---- where it is told an event

    module _ (w : View) (e : Event) (ns : List Seat) (on : GoesOn d levels v w e ns) where
      -- a job that becomes known wasn't known before
      new-unknown : (p : ℕ) (s : Seat) → slice_get ns p ≡ Some s → In (spot_at s) v.jobs → ⊥
      new-unknown p s g i =
          let k = get-in (spot_at s) v.jobs i in
          let new = map spot_at ns in
          let first = ap (λ l. slice_get l k.0) on.jobs ∙ in-front v.jobs new k.0 (spot_at s) k.1 in
          let second =
          ap (λ l. slice_get l (length v.jobs + p)) on.jobs ∙ in-behind v.jobs new p ∙ get-map spot_at ns p s g in
          apart k.0 (length v.jobs) p (slice_get_within v.jobs k.0 (spot_at s) k.1)
          (jobs-differ w on.frame (spot_at s).0 (spot_at s).1 k.0 (length v.jobs + p) first second)
        where
          apart : (a b c : ℕ) → a < b → a ≡ b + c → ⊥
          apart a b c h q = omega arith

      -- the entry is of a known job, or of none
      abbrev pub IsOfKnown : Type 0
      IsOfKnown = (j : Job) (y : Name × Place) → IsThere j y → (In y v.jobs → ⊥) → LeavesAlone past x j

      module _ (known : IsOfKnown) where
        new-stage : (p : ℕ) (s : Seat) (j : Job) → slice_get ns p ≡ Some s → IsThere j (spot_at s)
            → IsStage (x ∷ past) j s.stage
        new-stage p s j g it =
            let unknown = new-unknown p s g in
            subst (IsStage (x ∷ past) j) (sym (on.new.waiting p s g))
            (stage-stays past x j (known j (spot_at s) it unknown) stage.Waiting
            (unknown-waits j (spot_at s) it unknown))

        pub sits-on : (us : List Seat) → AreThen us → IsInRun gives d (x ∷ past) I levels w
            → Sit gives d (x ∷ past) I levels w (us ++ ns)
        sits-on us kept now = record {
          in_run = now;
          jobs =
              ap (λ (g : Flow). map (spot_of g.steps) (us ++ ns)) flow ∙ map-append spot_at us ns
              ∙ ap (λ l. l ++ map spot_at ns) kept.spots ∙ sym on.jobs;
          steps = λ n s g.
              subst (IsAt s) (sym flow)
              (on_either (in-either us ns n s g) (kept.there n s) (λ r. on.new.there r.0 s r.1));
          stages = λ n s j g it.
              let mine = subst (λ (f : Flow). IsThere j (spot_of f.steps s)) flow it in
              on_either (in-either us ns n s g) (λ h. kept.stages n s j h mine) (λ r. new-stage r.0 s j r.1 mine);
        }
          where
            flow : w.flow ≡ v.flow
            flow = on.follows.flow
