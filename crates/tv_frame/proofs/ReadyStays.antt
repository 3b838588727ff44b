-- A frame that is ready for an event stays so while a job is taken: that tells nothing.
use Rattle.std.specs.Prelude.{◌≡◌, refl, ℕ, zero, suc, ◌==◌, ◌&&◌, ◌||◌, Bool, true, false, if◌then◌else◌, List, [], ◌∷◌, IsPermutation, map, Option, Some, None, slice_get, slice_set, take}
use Rattle.std.specs.Option.{option_map_or}
use Rattle.std.proofs.Common.{sym, subst, ◌∙◌}
use Rattle.std.proofs.lemmas.Bool.{true≢false}
use Rattle.tv_value.specs.Nested.{Place}
use Rattle.tv_value.specs.Values.{JobName, Name}
use Rattle.tv_flow.specs.Flows.{Flow, Step}
use Rattle.tv_strategy.specs.Iterations.{walk}
use Rattle.tv_strategy.specs.Origins.{Known, Origin, at_start, by_job, by_level}
use Rattle.tv_strategy.proofs.Each.{each-weaken}
use Rattle.tv_model.specs.instance.Ranks.{is_among, ranked}
use Rattle.tv_cell.specs.declared.piece.Piece.{Piece}
use Rattle.tv_check.specs.declared.plans.FlowPlan.{FlowPlan}
use Rattle.tv_outputs.specs.Known.{Nodes}
use Rattle.tv_matching.specs.Items.{known_items}
use Rattle.tv_matching.specs.Told.{Told, item_there, told_to}
use Rattle.tv_match.specs.declared.matchers.Matcher.{Matcher}
use Rattle.tv_intake.specs.Intaken.{IsFaultyAt, known_jobs, matcher_at}
use Rattle.tv_idle.specs.Idles.{Idles, of_step, without}
use Rattle.tv_spread.proofs.LawLemmas.{ready-stays}
use Rattle.tv_model.specs.instance.ByResults.{Results, last_first}
use Rattle.tv_model.specs.instance.Counting.{count_whole, have_ended_by, whole_by}
use Rattle.tv_model.specs.instance.Events as events
use Rattle.tv_model.specs.instance.Events.{Event, Events, Extends, closed_with, event_place, event_step, fault_set, gave, has_fault, has_result, is_known_by, is_telling, known_by, took}
use Rattle.tv_model.specs.instance.Legality.{HasSources, IsFresh, node_of}
use Rattle.tv_model.specs.instance.Wholeness.{is_new}
use Rattle.tv_framing.specs.Answers.{IsReadyJob, has_ended_now, numbered}
use Rattle.tv_framing.specs.Arriving.{levels_below}
use Rattle.tv_framing.specs.Frames.{with_event}
use Rattle.tv_framing.specs.Views.{AreGiven, View, steps_with}
use Rattle.tv_framing.specs.keeping.NextEvents.{IsNextEvent}
use Rattle.tv_framing.specs.keeping.Told.{PortIsTold, StepIsTold}
use Rattle.tv_framing.proofs.keeping.LawLemmas.{taken-known}
use Rattle.tv_framing.specs.feeds.Fed.{newly}
use Rattle.tv_framing.specs.faults.Telling.{TellsTruly}
use Rattle.tv_frame.specs.declared.frame.Frame.{Frame}
use Rattle.tv_frame.specs.Kept.{AreOuts, Keeps}
use Rattle.tv_frame.specs.Prepared.{IsReadyFor, IsToldWith, is_one_of}
use Rattle.tv_frame.specs.Tables.{levels_in}
use Rattle.tv_frame.proofs.Taking.{taken-keeps}

-- ---- lists of events that tell the same

module _ (es fs : Events) (result : (s : Name) (q : Place) → has_result es s q ≡ has_result fs s q) (faulty : (s : Name) (q : Place) → has_fault es s q ≡ has_fault fs s q) (closed : (s : Name) (q : Place) → closed_with es s q ≡ closed_with fs s q) where
  whole-alike : (s : Name) (d : ℕ) (q : Place) → whole_by es s d q ≡ whole_by fs s d q
  whole-alike s zero q = result s q
  whole-alike s (suc d) q = λ i. faulty s q i || option_map_or (λ n. count_whole (λ r. whole-alike s d r i) q 0 n == n) (closed s q i) false

  ended-alike : (levels : Name → ℕ) (ss : List (Name × Step)) (ns : List Name) → have_ended_by es levels ss ns ≡ have_ended_by fs levels ss ns
  ended-alike levels [] ns = refl
  ended-alike levels (s ∷ ss) ns = λ i. (if is_among ns s.0 then whole-alike s.0 (levels s.0) [] i && ended-alike levels ss s.1.after i else true) && ended-alike levels ss ns i

-- ---- a job taken before an event

module _ (t : Name) (r : Place) (es : Events) where
  closed-so : (e : Event) (s : Name) (q : Place) → closed_with (e ∷ took t r ∷ es) s q ≡ closed_with (e ∷ es) s q
  closed-so (gave u x vs) s q = refl
  closed-so (events.closed u x n) s q = refl
  closed-so (fault_set u x d) s q = refl
  closed-so (took u x) s q = refl

  before-whole : (s : Name) (d : ℕ) (q : Place) → whole_by (took t r ∷ es) s d q ≡ whole_by es s d q
  before-whole = whole-alike (took t r ∷ es) es (λ s q. refl) (λ s q. refl) (λ s q. refl)

  after-whole : (e : Event) (s : Name) (d : ℕ) (q : Place) → whole_by (e ∷ took t r ∷ es) s d q ≡ whole_by (e ∷ es) s d q
  after-whole e = whole-alike (e ∷ took t r ∷ es) (e ∷ es) (λ s q. refl) (λ s q. refl) (closed-so e)

  after-ended : (e : Event) (levels : Name → ℕ) (ss : List (Name × Step)) (ns : List Name) → have_ended_by (e ∷ took t r ∷ es) levels ss ns ≡ have_ended_by (e ∷ es) levels ss ns
  after-ended e = ended-alike (e ∷ took t r ∷ es) (e ∷ es) (λ s q. refl) (λ s q. refl) (closed-so e)

  extends-so : (results : Results) (e : Event) → Extends results (e ∷ took t r ∷ es) → Extends results (e ∷ es)
  extends-so results (gave u x vs) h = h
  extends-so results (events.closed u x n) h = h
  extends-so results (fault_set u x d) h = h
  extends-so results (took u x) h = h

  given-so : (ss : List (Name × Step)) (e : Event) → AreGiven ss (e ∷ es) → AreGiven ss (e ∷ took t r ∷ es)
  given-so ss (gave u x vs) h = h
  given-so ss (events.closed u x n) h = h
  given-so ss (fault_set u x d) h = h
  given-so ss (took u x) h = h

  fresh-so : (e : Event) → is_telling e ≡ true → IsFresh es e → IsFresh (took t r ∷ es) e
  fresh-so (gave u x vs) k h = h
  fresh-so (events.closed u x n) k h = h
  fresh-so (fault_set u x d) k h = h
  fresh-so (took u x) k h = absurd (true≢false (sym k))

  known-so : (instance : JobName) (e : Event) (o : Origin) → known_by instance (e ∷ es) o ≡ known_by instance (e ∷ took t r ∷ es) o
  known-so instance e o = by o.known
    where
      by : (k : Known) → is_known_by instance (e ∷ es) k ≡ is_known_by instance (e ∷ took t r ∷ es) k
      by at_start = refl
      by (by_job n) = refl
      by (by_level n) = refl

-- ---- a frame that is ready

module _ (flows : List (Name × Flow)) (plan : FlowPlan) (pool : Nodes) (f : Frame) (v : View) (j : Name × Place) (number : ℕ) (n : ℕ) (s : Name × Step) (e : Event) (h : IsReadyFor flows plan pool f v n s e) (is : numbered v number ≡ Some j) (job_ready : IsReadyJob (levels_in v.flow) v j)
    (k : ℕ) (q : Place) (there : slice_get (known_jobs f.intakes) number ≡ Some (k, q)) (b : Bool) (said : IsFaultyAt (matcher_at f.intakes k) q b) (new : Idles) (steps : new.steps ≡ slice_set f.idle.steps k (without number (of_step f.idle.steps k))) (known : new.known ≡ f.idle.known) (room : new.room ≡ f.idle.room) where
  abbrev levels : Name → ℕ
  levels = levels_in v.flow

  abbrev w : View
  w = with_event v (took j.0 j.1) []

  keeps-so : Keeps flows plan pool (record f { idle = new }) w
  keeps-so = taken-keeps flows plan pool f v j number h.keeps is job_ready k q there b said new steps known

  next-so : IsNextEvent flows levels w e
  next-so = record {
    frame = keeps-so.frame;
    depths = keeps-so.of_depths;
    tells = h.next.tells;
    given = given-so j.0 j.1 v.events (ranked v.flow.steps) e h.next.given;
    legal = λ instance results depth x.
        let l = h.next.legal instance results depth (extends-so j.0 j.1 v.events results e x) in
        record {
          fits = l.fits;
          sources = subst (λ (o : Origin → Bool). HasSources o (node_of (steps_with v instance results) e)) (λ i o. taken-known instance j.0 j.1 v.events o i) l.sources;
          fresh = fresh-so j.0 j.1 v.events e h.next.tells l.fresh;
        };
  }

  newly-so : (x : Place) → newly levels w e x ≡ newly levels v e x
  newly-so x = λ i. is_new (before-whole j.0 j.1 v.events (event_step e) (levels_below (levels (event_step e)) x) x i) (after-whole j.0 j.1 v.events e (event_step e) (levels_below (levels (event_step e)) x) x i)

  told-so : (t : Name) (ts : List Told) → StepIsTold (with_event v e []) t ts → StepIsTold (with_event w e []) t ts
  told-so t ts was instance results depth x g i name =
      each-weaken (PortIsTold instance (e ∷ v.events) ts) (PortIsTold instance (e ∷ took j.0 j.1 ∷ v.events) ts)
      (λ d a values same. subst (λ (o : Origin → Bool). IsPermutation (map (item_there values) (told_to ts d.0)) (known_items o (walk d.0 d.1.mismatch d.1.value))) (λ i o. known-so j.0 j.1 v.events instance e o i) (a values same))
      g.step.inputs (was instance results depth (extends-so j.0 j.1 v.events results e x) g i name)

  truly-so : (t : Name) (ts : List Told) → TellsTruly (with_event v e []) t ts → TellsTruly (with_event w e []) t ts
  truly-so t ts was instance results depth x = was instance results depth (extends-so j.0 j.1 v.events results e x)

  matcher-so : (t : Name × Step) (holds : Bool) (o : Option Matcher) → IsToldWith v e t holds o → IsToldWith w e t holds o
  matcher-so t holds None a = absurd a
  matcher-so t true (Some m) a = record { told = told-so t.0 _ a.told; truly = truly-so t.0 _ a.truly }
  matcher-so t false (Some m) a = record { told = told-so t.0 _ a.told; truly = truly-so t.0 _ a.truly }

  ended-so : has_ended_now levels (with_event w e []) ≡ has_ended_now levels (with_event v e [])
  ended-so = after-ended j.0 j.1 v.events e levels (last_first (ranked v.flow.steps) []) (map (λ x. x.0) (ranked v.flow.steps))

  outs-so : (o : Option (List Piece)) → AreOuts (with_event v e []) (has_ended_now levels (with_event v e [])) o → AreOuts (with_event w e []) (has_ended_now levels (with_event w e [])) o
  outs-so None a = ended-so ∙ a
  outs-so (Some ps) a = (ended-so ∙ a.0, a.1, λ instance results depth x. a.2 instance results depth (extends-so j.0 j.1 v.events results e x))

  pub still-ready : IsReadyFor flows plan pool (record f { idle = new }) w n s e
  still-ready = record {
    keeps = keeps-so;
    next = next-so;
    at = h.at;
    named = h.named;
    room = h.room;
    from = h.from;
    turns = λ m le. newly-so (take m (event_place e)) ∙ h.turns m le;
    whole = h.whole;
    told = λ c t at. matcher-so t (is_one_of f.spread.touched.items c) (matcher_at f.intakes c) (h.told c t at);
    show = ready-stays f.spread.touched.items f.intakes f.idle new k number steps room h.show;
    outs = outs-so f.ahead.outs h.outs;
    counted = h.counted;
  }
