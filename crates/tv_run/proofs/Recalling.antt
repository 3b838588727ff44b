-- A run once all tries that were out are taken back.
use Rattle.std.specs.Option.{option_map_or}
use Rattle.std.specs.Prelude.{◌≡◌, refl, ℕ, ◌+◌, ◌<◌, ◌≤◌, ◌==◌, nat_lt, Bool, true, false, List, [], ◌∷◌, Option, count_by, is_none, length, map, slice_get, vec_capacity}
use Rattle.std.proofs.Common.{ap, append-nil, arith, subst, sym, ◌∙◌}
use Rattle.std.proofs.lemmas.Bool.{eq-eqb, lt-ltb}
use Rattle.std.proofs.lemmas.Simd.{map-map}
use Rattle.tv_lemmas.proofs.Counts.{count-cons}
use Rattle.tv_lemmas.proofs.Lists.{get-map}
use Rattle.tv_gate.specs.Outcomes.{Giving}
use Rattle.tv_flow.specs.Flows.{Document}
use Rattle.tv_check.specs.RunViews.{run_view}
use Rattle.tv_model.specs.Jobs.{Job}
use Rattle.tv_model.specs.Made.{Meaning}
use Rattle.tv_model.proofs.Tests.{both_true, true≠false}
use Rattle.tv_history.specs.Entries.{History, is_out, recalled}
use Rattle.tv_history.specs.Histories.{is_legal_after, is_ready}
use Rattle.tv_history.proofs.Counts.{uncounted}
use Rattle.tv_frame.specs.Tables.{levels_in}
use Rattle.tv_seats.specs.Seats.{back}
use Rattle.tv_seats.specs.Stages as stages
use Rattle.tv_seats.specs.declared.stage.Stage.{Stage}
use Rattle.tv_seats.specs.declared.stage.Stage.TheVariants as stage
use Rattle.tv_instances.proofs.stands.Stages.{out-is}
use Rattle.tv_instances.specs.Entries.{called_back}
use Rattle.tv_instances.specs.Forest.{Instance, Instances, Stays}
use Rattle.tv_instances.proofs.Lists.{one-at}
use Rattle.tv_instances.proofs.Recalls.{recalling}
use Rattle.tv_instances.proofs.forest_firsts.Counts.{are-counted}
use Rattle.tv_history.specs.Calls.{out_now, state_after, state_of}
use Rattle.tv_history.specs.Idle.{AreIdle}
use Rattle.tv_history.specs.Recalls.{recalls}
use Rattle.tv_history.specs.Runs.{Appends, Run, meant, past_of}
use Rattle.tv_history.specs.declared.ticket.JobState.{JobState}
use Rattle.tv_history.specs.declared.ticket.JobState.TheVariants as state
use Rattle.tv_history.proofs.ToldLemmas.{tells-recalled}
use Rattle.tv_run.specs.Changes.{ChangesTo}
use Rattle.tv_run.specs.Recalling.{out_in}
use Rattle.tv_run.specs.Rooms.{IsAsBefore, IsNoted}
use Rattle.tv_run.specs.Standing.{Stands, StandsOpen, names_of, numbered_as, numbers_of, run_of}
use Rattle.tv_run.specs.Turns.{RecallsTo}
use Rattle.tv_run.specs.declared.run.OpenRun.{OpenRun}
use Rattle.tv_run.proofs.CalledBack.{AllRest, IsAllBack, fits-back, names-back, numbers-back, out-all}
use Rattle.tv_run.proofs.Failing.{recalled-fails_none}
use Rattle.tv_run.proofs.Next.{IsNotedNext, KeepsMain, appends-noted, instance_names, names-noted, past-next, stands-noted}
use Rattle.tv_run.proofs.Numbers.{IsJobOfRun, job-of_known, no-job, stage-is}
use Rattle.tv_run.proofs.JobLemmas.{known-as}
use Rattle.tv_run.proofs.Rooms.{stands-before}
use Rattle.tv_run.proofs.States.{at-number, state-of_job, state-of_run}
use Rattle.tv_run.proofs.Tellings.{state_by}

-- this try is out
abbrev IsOutAt : JobState → Type 0
IsOutAt (state.Out a t) = Unit {0}
IsOutAt s = ⊥

-- the stage that tells so
out-stage : (x : Stage) (b : Bool) (a t : ℕ) → state_by x b ≡ state.Out a t → x ≡ stage.Out a t
out-stage stage.Waiting true a t e = absurd (subst IsOutAt (sym e) tt)
out-stage stage.Waiting false a t e = absurd (subst IsOutAt (sym e) tt)
out-stage (stage.Out b u) c a t e = λ i. stage.Out (activity (e i)) (attempt (e i))
  where
    activity : JobState → ℕ
    activity (state.Out x y) = x
    activity s = 0

    attempt : JobState → ℕ
    attempt (state.Out x y) = y
    attempt s = 0
out-stage (stage.Idle b u) c a t e = absurd (subst IsOutAt (sym e) tt)
out-stage (stage.Aside b) c a t e = absurd (subst IsOutAt (sym e) tt)
out-stage (stage.Nested k) c a t e = absurd (subst IsOutAt (sym e) tt)
out-stage stage.Settled c a t e = absurd (subst IsOutAt (sym e) tt)

none-counted : {A : Type 0} (xs : List A) → count_by (λ (x : A). false) xs ≡ 0
none-counted [] = refl
none-counted {A} (x ∷ xs) =
    let e = count-cons (λ (y : A). false) x xs in
    let r = none-counted xs in
    omega (arith, e, r)

-- ---- by the seats

module _ (gives : Giving) (r : OpenRun) (xs : Instances) (st : Stands gives r xs) where
  abbrev d : Document
  d = run_view r.run

  abbrev past : History
  past = past_of (run_of r)

  abbrev m : Meaning
  m = meant gives (run_of r)

  pub all-rest : AllRest xs
  all-rest i x at h n s sits = (subst (Stays gives d levels_in past x) h (st.stand.each i x at)).settled n s sits

  -- as many are out as the code has
  pub out-many : out_in r.instances.items ≡ out_now gives (run_of r)
  out-many = out-all r xs st.fits all-rest ∙ sym (are-counted gives d levels_in past xs st.stand).out

  -- the job of a number of which a try is out
  record IsOutOf (k a t : ℕ) : Type 0 where
    its : IsJobOfRun gives r xs k
    stage_is : its.seat.stage ≡ stage.Out a t

  out-of : (k a t : ℕ) → state_of gives (run_of r) k ≡ state.Out a t → IsOutOf k a t
  out-of k a t e =
      at-number gives r xs st k
      (λ w. record {
        its = w;
        stage_is = out-stage w.seat.stage (is_ready m past w.job) a t (sym (state-of_run gives r xs st k w) ∙ e);
      })
      (λ h. absurd (subst IsOutAt (sym (sym (unknown h) ∙ e)) tt))
    where
      unknown : length r.jobs.items ≤ k → state_of gives (run_of r) k ≡ state.Unknown
      unknown h = ap (λ (o : Option Job). option_map_or (state_after m past) o state.Unknown) (no-job gives r xs st k h)

  -- where none is out no job is in such a state
  pub none-idle : out_now gives (run_of r) ≡ 0 → AreIdle gives (run_of r) (run_of r)
  none-idle z k a t e =
      let o = out-of k a t e in
      let w = o.its in
      absurd
      (true≠false
      (sym
      (out-is past w.job w.seat.stage
      (stage-is gives r xs st k w.outer w.number w.instance w.seat w.job w.is_number)
      ∙ ap stages.is_out o.stage_is)
      ∙ uncounted (λ (j : Job). is_out past j.name) m.jobs z w.job w.is_number.is_job.job.listed))

  -- ---- with all called back

  -- s stands with them
  pub called-idle : (s : OpenRun) → Stands gives s (map called_back xs) → numbers_of s ≡ numbers_of r
      → AreIdle gives (run_of r) (run_of s)
  called-idle s now numbers k a t e =
      let o = out-of k a t e in
      let w = o.its in
      let at = get-map called_back xs w.outer w.instance w.known.there in
      let sits = get-map back w.instance.seats w.number w.seat w.known.seat in
      let known =
      known-as s (map called_back xs) now.fits k w.outer w.number (called_back w.instance) (back w.seat)
      (ap (λ l. slice_get l k) numbers ∙ w.is_number.numbered) at sits in
      let job =
      job-of_known gives s (map called_back xs) now k w.outer w.number (called_back w.instance) (back w.seat) known.0
      known.1 in
      state-of_job gives s (map called_back xs) now k w.outer w.number (called_back w.instance) (back w.seat) job.0 job.1
      known.0 known.1.step
      ∙ ap (λ x. state_by (stages.called_back x) (is_ready (meant gives (run_of s)) (past_of (run_of s)) job.0)) o.stage_is

  names-called : instance_names (map called_back xs) ≡ instance_names xs
  names-called = map-map (λ (x : Instance). x.name) called_back xs

  main-called : KeepsMain xs (map called_back xs)
  main-called x y was is =
      ap (λ (z : Instance). is_none z.view)
      (one-at (map called_back xs) 0 y (called_back x) is (get-map called_back xs 0 x was))

-- ---- the run

-- s is the run r, with all called back, and noted
pub record IsRecalling (r s : OpenRun) (n : ℕ) : Type 0 where
  pub prepared : OpenRun
  pub before : IsAsBefore r prepared
  pub room : length prepared.entries.items + prepared.due + n + 1 ≤ vec_capacity prepared.entries
  pub called : OpenRun
  pub back : IsAllBack prepared called n
  pub noted : IsNoted called s (recalls n)

module _ (gives : Giving) (r : OpenRun) (st : StandsOpen gives r) (n : ℕ) (many : n ≡ out_in r.instances.items) where
  pub all-out : n ≡ out_now gives (run_of r)
  all-out = many ∙ out-many gives r st.0 st.1

  -- where none is out
  pub nothing-out : n ≡ 0 → RecallsTo gives r r n
  nothing-out none = record {
    stands = st;
    count = all-out;
    recalled = record { none = λ e. refl; some = λ l. absurd (omega (arith, l, none)) };
    names = refl;
    idle = none-idle gives r st.0 st.1 (sym all-out ∙ none);
    none_out = sym all-out ∙ none;
  }

  module _ (s : OpenRun) (some : 0 < n) (w : IsRecalling r s n) where
    abbrev q : OpenRun
    q = w.prepared

    abbrev xs : Instances
    xs = st.0

    abbrev ys : Instances
    ys = map called_back xs

    before : Stands gives q xs
    before = stands-before gives r q w.before xs st.1

    out-before : n ≡ out_now gives (run_of q)
    out-before = all-out ∙ ap (out_now gives) (sym w.before.same)

    many-before : n ≡ out_in q.instances.items
    many-before = out-before ∙ sym (out-many gives q xs before)

    rests : AllRest xs
    rests = all-rest gives q xs before

    abbrev now : History
    now = past_of (run_of q)

    legal : is_legal_after gives (meant gives (run_of q)) now (recalled n) ≡ true
    legal =
        both_true (nat_lt 0 n) (n == out_now gives (run_of q)) (lt-ltb 0 n some)
        (eq-eqb n (out_now gives (run_of q)) out-before)

    changes : ChangesTo q w.called ys
    changes = record {
      fits = fits-back q w.called n w.back xs before.fits rests many-before;
      more = [];
      names = names-back q w.called n w.back xs before.fits rests many-before ∙ sym (append-nil (names_of q));
      rest = record {
        run = w.back.run;
        entries = w.back.entries;
        failed = w.back.failed;
        outs = w.back.outs;
      };
    }

    room-then : length q.entries.items + w.called.due + 1 ≤ vec_capacity s.entries
    room-then =
        let room = w.room in
        let due = w.back.due in
        let same = ap vec_capacity w.back.entries in
        let more = w.noted.capacity in
        omega (arith, room, due, same, more)

    next : IsNotedNext gives q w.called s xs ys (recalls n) (recalled n)
    next = record {
      changes = changes;
      noted = w.noted;
      told = tells-recalled (run_of q) n;
      none = refl;
      legal = legal;
      stand = recalling gives (run_view q.run) levels_in now xs before.stand n out-before some;
      failed = recalled-fails_none gives (run_view q.run) levels_in now xs before.stand n legal;
      room = room-then;
      names = names-called gives q xs before;
      main = main-called gives q xs before;
    }

    stands-then : Stands gives s ys
    stands-then = stands-noted gives q w.called s xs ys (recalls n) (recalled n) next before

    numbers-then : numbers_of s ≡ numbers_of q
    numbers-then =
        ap (λ v. map numbered_as v.items) w.noted.rest.jobs
        ∙ numbers-back q w.called n w.back xs before.fits rests many-before

    names-then : names_of s ≡ names_of q
    names-then =
        names-noted w.called s (recalls n) w.noted ∙ names-back q w.called n w.back xs before.fits rests many-before

    appends : Appends (run_of q) (run_of s) (recalls n)
    appends = appends-noted q w.called s ys (recalls n) changes w.noted

    past-then : past_of (run_of s) ≡ recalled n ∷ now
    past-then = past-next gives q s xs ys before (recalls n) (recalled n) appends (tells-recalled (run_of q) n)

    none-then : out_now gives (run_of s) ≡ 0
    none-then =
        ap (λ p. count_by (λ (j : Job). is_out p j.name) (meant gives (run_of s)).jobs) past-then
        ∙ none-counted (meant gives (run_of s)).jobs

    pub recalls-to : RecallsTo gives r s n
    recalls-to = record {
      stands = (ys, stands-then, w.noted.rest.outs ∙ w.back.outs ∙ w.before.outs ∙ st.2);
      count = all-out;
      recalled = record {
        none = λ e. absurd (omega (arith, e, some));
        some = λ l. subst (λ (p : Run). Appends p (run_of s) (recalls n)) w.before.same appends;
      };
      names = names-then ∙ ap (λ (p : Run). p.names) w.before.same;
      idle =
          subst (λ (p : Run). AreIdle gives p (run_of s)) w.before.same
          (called-idle gives q xs before s stands-then numbers-then);
      none_out = none-then;
    }
