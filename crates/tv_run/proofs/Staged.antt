-- A job that is out is at another stage from now on, and its frame is told nothing: the run fits that.
use Rattle.std.specs.Option.{option_map_or}
use Rattle.std.specs.Prelude.{◌≡◌, refl, ℕ, ◌+◌, true, false, List, [], ◌∷◌, Option, Some, cond, count_by, map, option_and_then, option_map, slice_get, slice_set, is_some}
use Rattle.std.proofs.Common.{ap, append-nil, arith, subst, sym, ◌∙◌}
use Rattle.std.proofs.lemmas.Option.{same_Some}
use Rattle.tv_flow.specs.Views.{flow_view}
use Rattle.tv_check.specs.RunViews.{run_view}
use Rattle.tv_check.specs.declared.plans.FlowPlan.{FlowPlan}
use Rattle.tv_intake.specs.Intaken.{known_jobs}
use Rattle.tv_instances.specs.FramingViews.{View}
use Rattle.tv_frame.specs.Kept.{Keeps}
use Rattle.tv_frame.specs.Tables.{levels_in}
use Rattle.tv_frame.specs.declared.frame.Frame.{Frame}
use Rattle.tv_frame_laws.specs.Theirs.{AreTheirs}
use Rattle.tv_model.proofs.Tests.{true≠false}
use Rattle.tv_seats.specs.Seats.{Seat, staged, with_stage}
use Rattle.tv_seats.specs.Stages.{is_out, is_waiting}
use Rattle.tv_seats.specs.declared.stage.Stage.{Stage}
use Rattle.tv_seats.specs.declared.stage.Stage.TheVariants as stage
use Rattle.tv_instances.specs.Entries.{seated, with_instance}
use Rattle.tv_instances.specs.Forest.{Instance, Instances}
use Rattle.tv_instances.proofs.Lists.{at-set, of-set, one-at, same-number}
use Rattle.tv_instances.specs.forest_firsts.Opening.{IsStill}
use Rattle.tv_instances.specs.Standing.{IsOpen, job_of}
use Rattle.tv_instances.specs.Tries.{HasStage}
use Rattle.tv_instances.proofs.TrieLemmas.{kept-with, quiet-staged}
use Rattle.tv_instances.specs.declared.open.Open.{Open}
use Rattle.tv_instances.proofs.Seats.{staged-jobs}
use Rattle.tv_run.specs.Accepting.{IsOutHere, MovesTo}
use Rattle.tv_run.specs.Standing.{IsLife, IsOpenOf, frame_at, is_due, names_of, seats_of}
use Rattle.tv_run.specs.declared.instances.Instance as code
use Rattle.tv_run.specs.declared.run.OpenRun.{OpenRun}
use Rattle.tv_run.proofs.JobLemmas.{open-is, seats-open}
use Rattle.tv_run.proofs.OpenSet.{HasOpen, others-set, rest-set, set-there}
use Rattle.tv_run.proofs.Moved.{HasSameJobs, IsMoved, IsMovedTo, fits-moved, names-moved, sum-set}

-- ---- seats

pub seat-staged : (n : ℕ) (y : Stage) (ss : List Seat) (s : Seat) → slice_get ss n ≡ Some s
    → with_stage n y ss ≡ slice_set ss n (staged y s)
seat-staged n y ss s e = ap (λ o. option_map_or (λ z. slice_set ss n (staged y z)) o ss) e

-- one more is due
due-more : (ss : List Seat) (n : ℕ) (y : Stage) (s : Seat) → slice_get ss n ≡ Some s → is_due s.stage ≡ false
    → is_due y ≡ true
    → count_by (λ (z : Seat). is_due z.stage) (with_stage n y ss) ≡ count_by (λ (z : Seat). is_due z.stage) ss + 1
due-more ss n y s e old new =
    let f : Seat → ℕ = λ z. cond (is_due z.stage) 1 0 in
    let set = ap (count_by (λ (z : Seat). is_due z.stage)) (seat-staged n y ss s e) in
    let sum = sum-set f ss n s (staged y s) e in
    let none : f s ≡ 0 = ap (λ b. cond b 1 0) old in
    let one : f (staged y s) ≡ 1 = ap (λ b. cond b 1 0) new in
    omega (arith, set, sum, none, one)

out-not_due : (x : Stage) → is_out x ≡ true → is_due x ≡ false
out-not_due stage.Waiting h = absurd (true≠false (sym h))
out-not_due (stage.Out a t) h = refl
out-not_due (stage.Idle a t) h = absurd (true≠false (sym h))
out-not_due (stage.Aside a) h = absurd (true≠false (sym h))
out-not_due (stage.Nested k) h = absurd (true≠false (sym h))
out-not_due stage.Settled h = absurd (true≠false (sym h))

-- ---- nothing can be settled where nothing could

still-staged : (x : Instance) (v : View) (n : ℕ) (y : Stage) (s : Seat) → slice_get x.seats n ≡ Some s
    → is_waiting y ≡ false → IsStill levels_in x v → IsStill levels_in (seated x (with_stage n y x.seats)) v
still-staged x v n y s e waits still = record {
  bounces = λ k u at ready.
      let there = ap (λ l. slice_get l k) (sym (seat-staged n y x.seats s e)) ∙ at in
      same-number k n
      (λ is.
      let here : u ≡ staged y s =
      one-at (slice_set x.seats n (staged y s)) n u (staged y s)
      (subst (λ i. slice_get (slice_set x.seats n (staged y s)) i ≡ Some u) is there)
      (at-set x.seats n s (staged y s) e) in
      absurd (true≠false (sym ready.0 ∙ ap (λ (z : Seat). is_waiting z.stage) here ∙ waits)))
      (λ ne. still.bounces k u (of-set x.seats n s (staged y s) e k u ne there) ready);
  settles = still.settles;
  ends = still.ends;
}

-- ---- the run

-- s is r with another Open as instance i, in which the job of seat n is at this stage
pub record IsStaged (r s : OpenRun) (i n : ℕ) (y : Stage) (before : code.Instance) (old new : Open) : Type 0 where
  pub was : slice_get r.instances.items i ≡ Some before
  pub opened : before.open.items ≡ old ∷ []
  pub set : HasOpen r s i before new
  pub has_stage : HasStage old new n y
  pub due : s.due ≡ r.due + 1

module _ (r s : OpenRun) (i n : ℕ) (y : Stage) (before : code.Instance) (old new : Open)
    (w : IsStaged r s i n y before old new) where
  abbrev after : code.Instance
  after = w.set.after

  there : slice_get s.instances.items i ≡ Some after
  there = set-there r s i before new w.set w.was

  seats-then : seats_of after ≡ with_stage n y (seats_of before)
  seats-then =
      seats-open after new [] w.set.is_open
      ∙ w.has_stage.seats
      ∙ ap (with_stage n y) (sym (seats-open before old [] w.opened))

  moved : IsMoved r s i
  moved = record {
    run = w.set.run;
    looks = w.set.looks;
    pool = w.set.pool;
    jobs = ap (λ l. l.items) w.set.jobs;
    busy = ap (λ l. l.items) w.set.busy;
    others = others-set r s i before new w.set;
    itself = λ c e at is.
        subst (λ z. HasSameJobs z e) (same_Some before c (sym w.was ∙ at))
        (subst (HasSameJobs before) (same_Some after e (sym there ∙ is))
        (record {
          flow = w.set.flow;
          opener = w.set.opener;
          numbers = ap (λ l. l.items) w.set.numbers;
          is_busy = w.set.is_busy;
          jobs = ap (map job_of) seats-then ∙ staged-jobs n y (seats_of before);
        }));
  }

  frames-same : frame_at s ≡ frame_at r
  frames-same = λ j. λ k. each k j
    where
      frame_in : Option code.Instance → Option Frame
      frame_in o =
          option_and_then (λ (c : code.Instance). option_map (λ (p : Open). p.frame) (slice_get c.open.items 0)) o

      each : (k : ℕ) → frame_at s k ≡ frame_at r k
      each k =
          same-number k i
          (λ is.
          ap (λ m. frame_in (slice_get s.instances.items m)) is
          ∙ ap frame_in there
          ∙ ap (λ l. option_map (λ (p : Open). p.frame) (slice_get l 0)) w.set.is_open
          ∙ ap Some w.has_stage.frame
          ∙ sym (ap (λ l. option_map (λ (p : Open). p.frame) (slice_get l 0)) w.opened)
          ∙ sym (ap frame_in w.was)
          ∙ sym (ap (λ m. frame_in (slice_get r.instances.items m)) is))
          (λ ne. ap frame_in ((others-set r s i before new w.set).others k ne))

  module _ (waits : is_waiting y ≡ false) (due : is_due y ≡ true) (xs : Instances) (x : Instance) (v : View) (t : Seat)
      (out : IsOutHere r xs i x v n t) where
    abbrev z : Instance
    z = seated x (with_stage n y x.seats)

    kept-life : IsOpenOf r before x v
    kept-life =
        open-is r i before x v (out.here.fits.kept i before x w.was out.here.there) out.here.is_open

    old-is : kept-life.itself ≡ old
    old-is = same_Some kept-life.itself old (ap (λ l. slice_get l 0) (sym kept-life.there ∙ w.opened))

    opens : (plan : FlowPlan) → flow_view plan.flow ≡ x.flow → IsOpen (run_view s.run) plan s.pool new v
    opens plan h =
        let k = subst (λ o. IsOpen (run_view r.run) plan r.pool o v) old-is (kept-life.is_open plan h) in
        subst (λ q. IsOpen (run_view q) plan s.pool new v) (sym w.set.run)
        (subst (λ p. IsOpen (run_view r.run) plan p new v) (sym w.set.pool)
        (record {
          keeps = subst (λ f. Keeps (run_view r.run).flows plan r.pool f v) (sym w.has_stage.frame) k.keeps;
          known =
              ap (map job_of) w.has_stage.seats
              ∙ staged-jobs n y old.seats.seats
              ∙ k.known
              ∙ ap (λ (f : Frame). known_jobs f.intakes) (sym w.has_stage.frame);
          levels = w.has_stage.levels ∙ k.levels;
          quiet = quiet-staged v old new n y w.has_stage k.quiet;
          kept = kept-with v old new w.has_stage.kept k.kept;
        }))

    life : IsLife s after z z.view
    life =
        subst (IsLife s after z) (sym out.here.is_open)
        (record {
          itself = new;
          there = w.set.is_open;
          flow = kept-life.flow;
          is_open = opens;
          still = λ b. still-staged x v n y t out.seat waits (kept-life.still (sym w.set.is_busy ∙ b));
        })

    at-after : (e : code.Instance) → slice_get s.instances.items i ≡ Some e → after ≡ e
    at-after e is = same_Some after e (sym there ∙ is)

    moved-to : IsMovedTo r s i x z
    moved-to = record {
      name = refl;
      flow = refl;
      jobs = staged-jobs n y x.seats;
      seats = λ e is.
          ap seats_of (sym (at-after e is))
          ∙ seats-then
          ∙ ap (with_stage n y) (out.here.fits.kept i before x w.was out.here.there).seats;
      life = λ e is. subst (λ c. IsLife s c z z.view) (at-after e is) life;
      theirs =
          subst (λ p. AreTheirs p (frame_at s)) (sym w.set.pool)
          (subst (AreTheirs r.pool) (sym frames-same) out.here.fits.theirs);
      due =
          let more = due-more x.seats n y t out.seat (out-not_due t.stage out.out) due in
          let one = w.due in
          omega (arith, more, one);
      was_open = ap is_some out.here.is_open;
    }

    pub moves-staged : MovesTo r s (with_instance xs i (seated x (with_stage n y x.seats)))
    moves-staged = record {
      changes = record {
        fits = fits-moved r s i moved xs x z out.here.fits out.here.there moved-to;
        more = [];
        names = names-moved r s i moved ∙ sym (append-nil (names_of r));
        rest = (rest-set r s i before new w.set);
      };
      names = names-moved r s i moved;
    }
