-- Where nothing can be settled of an instance, nothing can be once one of its jobs no longer waits, or is taken.
use Rattle.std.specs.Option.{option_map_or}
use Rattle.std.specs.Prelude.{◌≡◌, refl, ℕ, zero, suc, ◌==◌, ◌&&◌, ◌||◌, true, false, if◌then◌else◌, List, [], ◌∷◌, Some, slice_get}
use Rattle.std.proofs.Common.{ap, subst, sym, ◌∙◌}
use Rattle.std.proofs.lemmas.Bool.{or_parts}
use Rattle.tv_value.specs.Nested.{Place}
use Rattle.tv_value.specs.Values.{JobName, Name}
use Rattle.tv_flow.specs.Flows.{Flow, Step}
use Rattle.tv_strategy.specs.Origins.{Known, Origin, at_start, by_job, by_level}
use Rattle.tv_model.specs.instance.Ranks.{is_among, ranked}
use Rattle.tv_model.specs.instance.ByResults.{InstanceStep, last_first}
use Rattle.tv_model.specs.instance.Counting.{count_whole, have_ended_by, whole_by}
use Rattle.tv_model.specs.instance.Events as events
use Rattle.tv_model.specs.instance.Events.{Event, Events, closed_with, fault_set, gave, has_fault, is_known_by, is_spot, is_taken, known_by, took}
use Rattle.tv_model.specs.instance.Legality.{HasSources, IsFresh, IsLegalNext, node_of}
use Rattle.tv_model.proofs.Tests.{true≠false}
use Rattle.tv_instances.specs.Answers.{IsReadyJob, after_of, is_settlement}
use Rattle.tv_instances.specs.FramingViews.{View}
use Rattle.tv_instances.specs.runs.Follows.{Follows}
use Rattle.tv_seats.specs.Seats.{Seat, staged, with_stage}
use Rattle.tv_seats.specs.Stages.{is_waiting}
use Rattle.tv_seats.specs.declared.stage.Stage.{Stage}
use Rattle.tv_seats.proofs.Staging.{staged-here, staged-other}
use Rattle.tv_instances.specs.seats.Seated.{spot_of}
use Rattle.tv_instances.specs.Entries.{with_view}
use Rattle.tv_instances.specs.Forest.{Instance}
use Rattle.tv_instances.proofs.Lists.{one-at, same-number}
use Rattle.tv_instances.specs.forest_firsts.Opening.{IsStill}

-- ---- a job that is taken makes nothing known

module _ (t : Name) (r : Place) (es : Events) where
  whole-so : (s : Name) (n : ℕ) (q : Place) → whole_by (took t r ∷ es) s n q ≡ whole_by es s n q
  whole-so s zero q = refl
  whole-so s (suc n) q =
      λ i. has_fault es s q || option_map_or (λ k. count_whole (λ p. whole-so s n p i) q 0 k == k) (closed_with es s q) false

  ended-so : (levels : Name → ℕ) (ss : List (Name × Step)) (ns : List Name)
      → have_ended_by (took t r ∷ es) levels ss ns ≡ have_ended_by es levels ss ns
  ended-so levels [] ns = refl
  ended-so levels (s ∷ ss) ns =
      λ i. (if is_among ns s.0 then whole-so s.0 (levels s.0) [] i && ended-so levels ss s.1.after i else true)
      && ended-so levels ss ns i

  known-so : (instance : JobName) (o : Origin) → known_by instance (took t r ∷ es) o ≡ known_by instance es o
  known-so instance o = by o.known
    where
      by : (k : Known) → is_known_by instance (took t r ∷ es) k ≡ is_known_by instance es k
      by at_start = refl
      by (by_job n) = refl
      by (by_level n) = refl

  fresh-so : (e : Event) → is_settlement e ≡ true → IsFresh (took t r ∷ es) e → IsFresh es e
  fresh-so (gave s q vs) k h = absurd (true≠false (sym k))
  fresh-so (events.closed s q n) k h = h
  fresh-so (fault_set s q e) k h = h
  fresh-so (took s q) k h = absurd (true≠false (sym k))

  legal-so : (instance : JobName) (fs : List InstanceStep) (e : Event) → is_settlement e ≡ true
      → IsLegalNext instance fs (took t r ∷ es) e → IsLegalNext instance fs es e
  legal-so instance fs e k h = record {
    fits = h.fits;
    sources = subst (λ known. HasSources known (node_of fs e)) (λ i o. known-so instance o i) h.sources;
    fresh = fresh-so e k h.fresh;
  }

-- ---- a seat at another stage

module _ (levels : Flow → Name → ℕ) (x : Instance) (v : View) (n : ℕ) (s : Seat) (y : Stage)
    (there : slice_get x.seats n ≡ Some s) (rests : is_waiting y ≡ false) (still : IsStill levels x v) where
  -- a seat that waits then waited before
  waited : (m : ℕ) (u : Seat) → slice_get (with_stage n y x.seats) m ≡ Some u → is_waiting u.stage ≡ true
      → slice_get x.seats m ≡ Some u
  waited m u at waits =
      same-number m n
      (λ is.
      let here : u ≡ staged y s =
      one-at (with_stage n y x.seats) n u (staged y s) (subst (λ k. slice_get (with_stage n y x.seats) k ≡ Some u) is at)
      (staged-here x.seats n s y there) in
      absurd (true≠false (sym waits ∙ ap (λ (z : Seat). is_waiting z.stage) here ∙ rests)))
      (λ ne. sym (staged-other x.seats n s y there m ne) ∙ at)

  pub still-staged : IsStill levels (with_view x v (with_stage n y x.seats)) v
  still-staged = record {
    bounces = λ m u at ready. still.bounces m u (waited m u at ready.0) ready;
    settles = still.settles;
    ends = still.ends;
  }

  -- and the job is taken
  module _ (t : Name) (r : Place) (jobs : List (Name × Place)) where
    abbrev later : View
    later = record v { events = took t r ∷ v.events; jobs = jobs }

    ready-before : (j : Name × Place) → IsReadyJob (levels x.flow) later j → IsReadyJob (levels x.flow) v j
    ready-before j h = record {
      idle = (or_parts (is_spot j.0 j.1 t r) (is_taken v.events j.0 j.1) h.idle).1;
      without_result = h.without_result;
      after =
          sym (ended-so t r v.events (levels x.flow) (last_first (ranked v.flow.steps) []) (after_of v j.0)) ∙ h.after;
    }

    still-then : IsStill levels (with_view x later (with_stage n y x.seats)) later
    still-then = record {
      bounces = λ m u at ready.
          still.bounces m u (waited m u at ready.0) (ready.0, ready-before (spot_of x.flow.steps u) ready.1);
      settles = λ e k instance results depth extends l.
          still.settles e k instance results depth extends (legal-so t r v.events instance _ e k l);
      ends = ended-so t r v.events (levels x.flow) (last_first (ranked v.flow.steps) []) _ ∙ still.ends;
    }

  pub still-taken : (w : View) (t : Name) (r : Place) → Follows v w (took t r)
      → IsStill levels (with_view x w (with_stage n y x.seats)) w
  still-taken w t r f =
      subst (λ z. IsStill levels (with_view x z (with_stage n y x.seats)) z) (sym is-then) (still-then t r w.jobs)
    where
      is-then : w ≡ record v { events = took t r ∷ v.events; jobs = w.jobs }
      is-then = λ i. record { flow = f.flow i; inputs = f.inputs i; events = f.events i; jobs = w.jobs }
