-- A frame once a ready job of it is taken: nothing is told, and one job fewer is idle.
use Rattle.std.specs.Option.{option_map_or}
use Rattle.std.specs.Prelude.{◌≡◌, refl, ℕ, ◌<◌, ◌==◌, ◌||◌, Bool, true, false, List, [], ◌∷◌, IsPermutation, Option, Some, None, length, slice_get, slice_set}
use Rattle.std.proofs.Common.{sym, ap, subst, ◌∙◌, append-nil, eq-eqb, inl, inr}
use Rattle.std.proofs.lemmas.List.{length-map}
use Rattle.std.proofs.lemmas.Option.{same_Some, slice_get_within}
use Rattle.tv_lemmas.specs.Members.{In}
use Rattle.tv_lemmas.proofs.Lists.{get-map, get-within}
use Rattle.tv_value.specs.Nested.{Place}
use Rattle.tv_value.specs.Values.{Name}
use Rattle.tv_flow.specs.Flows.{Flow, Step}
use Rattle.tv_naming.specs.Numbers.{position}
use Rattle.tv_naming.proofs.FormedParts.{steps-ascend}
use Rattle.tv_cell.specs.declared.piece.Piece.{Piece}
use Rattle.tv_check.specs.declared.plans.FlowPlan.{FlowPlan}
use Rattle.tv_outputs.specs.Known.{Nodes}
use Rattle.tv_match.specs.declared.matchers.Matcher.{Matcher}
use Rattle.tv_match.specs.Seen.{matching}
use Rattle.tv_intake.specs.Intaken.{IsFaultyAt, known_jobs, matcher_at, waiting_things}
use Rattle.tv_idle.specs.Idles.{Idles, has_job, is_idle_at, of_step, without}
use Rattle.tv_model.specs.instance.Events.{took}
use Rattle.tv_framing.specs.Answers.{IsReadyJob, has_ended_now, numbered}
use Rattle.tv_framing.specs.Frames.{with_event}
use Rattle.tv_framing.specs.Views.{View}
use Rattle.tv_framing.specs.engine.EndedSteps.{AreEndingsOf}
use Rattle.tv_framing.specs.engine.WiredFlows.{IsWired}
use Rattle.tv_framing.proofs.engine.Steps.{all-have_ended}
use Rattle.tv_framing.proofs.engine.Endings.{position-of}
use Rattle.tv_framing.specs.feeds.Coming.{IsFrameOf}
use Rattle.tv_framing.proofs.feeds.Coming.{taking-makes_frame}
use Rattle.tv_framing.proofs.keeping.LawLemmas.{taking-tells_nothing}
use Rattle.tv_framing.proofs.feeds.WholeSteps.{taking-ends_nothing}
use Rattle.tv_framing.proofs.matches.LawLemmas.{taking-leaves_waiting}
use Rattle.tv_lemmas.proofs.Members.{in-slice as at-in}
use Rattle.tv_framing.proofs.faults.LawLemmas.{truth-stays}
use Rattle.tv_framing.specs.turns.IdleJobs.{IsIdle}
use Rattle.tv_frame.specs.declared.frame.Frame.{Frame}
use Rattle.tv_frame.specs.Kept.{AreIdle, AreOuts, HasMatcher, Keeps, followed_by, named_job, step_name, things_of}
use Rattle.tv_frame.specs.Tables.{levels_in}
use Rattle.tv_frame.proofs.Keeping.{kept-wired}
use Rattle.tv_frame.proofs.TakingIdle.{taken-idle}
use Rattle.tv_framing.proofs.Numbers.{jobs-differ}

has-in : (js : List (ℕ × List ℕ)) (n : ℕ) (r : List ℕ) → In (n, r) js → has_job n js ≡ true
has-in [] n r i = absurd i
has-in (j ∷ js) n r (inl e) = ap (λ b. b || has_job n js) (eq-eqb j.0 n (ap (λ (x : ℕ × List ℕ). x.0) (sym e)))
has-in (j ∷ js) n r (inr i) = right (j.0 == n) (has_job n js) (has-in js n r i)
  where
    right : (a b : Bool) → b ≡ true → (a || b) ≡ true
    right true b h = refl
    right false b h = h

module _ (flows : List (Name × Flow)) (plan : FlowPlan) (pool : Nodes) (f : Frame) (v : View) (j : Name × Place) (number : ℕ) (k : Keeps flows plan pool f v) (is : numbered v number ≡ Some j)
    (ready : IsReadyJob (levels_in v.flow) v j) (n : ℕ) (q : Place) (there : slice_get (known_jobs f.intakes) number ≡ Some (n, q)) (b : Bool) (said : IsFaultyAt (matcher_at f.intakes n) q b) where
  wired : IsWired v.flow
  wired = kept-wired flows plan pool f v k

  -- ---- the job

  within : n < length v.flow.steps
  within = subst (λ m. n < m) k.as_many (by (matcher_at f.intakes n) refl said)
    where
      by : (o : Option Matcher) → matcher_at f.intakes n ≡ o → IsFaultyAt o q b → n < length f.intakes.matchers.items
      by None e h = absurd h
      by (Some m) e h = slice_get_within f.intakes.matchers.items n m e

  step : (s : Name × Step) × (slice_get v.flow.steps n ≡ Some s)
  step = get-within v.flow.steps n within

  its-name : step_name v.flow n ≡ step.0.0
  its-name = ap (λ o. option_map_or (λ (t : Name × Step). t.0) o []) step.1

  named : numbered v number ≡ Some (step.0.0, q)
  named =
      ap (λ l. slice_get l number) k.jobs_are
      ∙ get-map (named_job v.flow) (known_jobs f.intakes) number (n, q) there
      ∙ ap (λ t. Some (t, q)) its-name

  same : (step.0.0, q) ≡ j
  same = same_Some (step.0.0, q) j (sym named ∙ is)

  its-number : position j.0 v.flow.steps ≡ n
  its-number =
      ap (λ (x : Name × Place). position x.0 v.flow.steps) (sym same)
      ∙ position-of v.flow.steps n step.0 (steps-ascend v.flow wired.formed) step.1

  pub idle-there : is_idle_at number (of_step f.idle.steps n) ≡ true
  idle-there =
      by (subst (λ c. IsIdle f.idle.steps c (number, j.1)) its-number (k.idle_are.all.all number j is ready.idle ready.without_result))
    where
      right : (c d : Bool) → d ≡ true → (c || d) ≡ true
      right true d h = refl
      right false d h = h

      by : IsIdle f.idle.steps n (number, j.1) → is_idle_at number (of_step f.idle.steps n) ≡ true
      by (inl i) = ap (λ c. c || has_job number (of_step f.idle.steps n).faulty) (has-in (of_step f.idle.steps n).good number j.1 i)
      by (inr i) = right (has_job number (of_step f.idle.steps n).good) (has_job number (of_step f.idle.steps n).faulty) (has-in (of_step f.idle.steps n).faulty number j.1 i)

  -- ---- what the frame keeps

  abbrev w : View
  w = with_event v (took j.0 j.1) []

  made : IsFrameOf flows (levels_in v.flow) w
  made = taking-makes_frame flows (levels_in v.flow) v k.frame k.of_depths j.0 j.1 (at-in v.jobs number j is) ready.without_result ready.idle

  ends : AreEndingsOf v.flow (levels_in v.flow) (took j.0 j.1 ∷ v.events) f.endings
  ends = taking-ends_nothing v.flow (levels_in v.flow) v.events j.0 j.1 f.endings k.endings_are

  same-ended : has_ended_now (levels_in v.flow) w ≡ has_ended_now (levels_in v.flow) v
  same-ended =
      sym (all-have_ended v.flow wired (levels_in v.flow) (took j.0 j.1 ∷ v.events) f.endings ends)
      ∙ all-have_ended v.flow wired (levels_in v.flow) v.events f.endings k.endings_are

  outs-stay : (o : Option (List Piece)) → AreOuts v (has_ended_now (levels_in v.flow) v) o → AreOuts w (has_ended_now (levels_in v.flow) w) o
  outs-stay None h = same-ended ∙ h
  outs-stay (Some ps) h = (same-ended ∙ h.0, h.1, λ instance results depth x. h.2 instance results depth x)

  matcher-stays : (t : Name × Step) (o : Option Matcher) → HasMatcher v t o → HasMatcher w t o
  matcher-stays t None h = h
  matcher-stays t (Some m) h = record {
    strategy_is = h.strategy_is;
    mismatch_is = h.mismatch_is;
    told = taking-tells_nothing v j.0 j.1 [] t.0 (matching m).told h.told;
    truly = truth-stays v t.0 (matching m).told h.truly (took j.0 j.1) [];
  }

  module _ (new : Idles) (steps : new.steps ≡ slice_set f.idle.steps n (without number (of_step f.idle.steps n))) (known : new.known ≡ f.idle.known) where
    idle-then : AreIdle (record v { events = took step.0.0 q ∷ v.events }) f.intakes new
    idle-then =
        taken-idle v wired f.intakes f.idle new k.idle_are n step.0 step.1 (subst (λ m. n < m) (sym k.idle_are.as_many) within) number q named
        (λ m e. jobs-differ v k.frame step.0.0 q m number e named) steps known

    idle-so : AreIdle w f.intakes new
    idle-so =
        subst (λ js. AreIdle (record v { events = took j.0 j.1 ∷ v.events; jobs = js }) f.intakes new) (sym (append-nil v.jobs))
        (subst (λ (x : Name × Place). AreIdle (record v { events = took x.0 x.1 ∷ v.events }) f.intakes new) same idle-then)

    pub taken-keeps : Keeps flows plan pool (record f { idle = new }) w
    taken-keeps = record {
      flow_is = k.flow_is;
      frame = made.frame;
      of_depths = made.depths;
      inputs_are = record { names = k.inputs_are.names; values = k.inputs_are.values; sound = k.inputs_are.sound; marked = k.inputs_are.marked };
      tables_are = k.tables_are;
      live = k.live;
      stand = k.stand;
      deep = k.deep;
      trees_are = λ c t at i l. k.trees_are c t at i l;
      endings_are = ends;
      intaken = k.intaken;
      as_many = k.as_many;
      matchers_are = λ c t at. matcher-stays t (matcher_at f.intakes c) (k.matchers_are c t at);
      jobs_are = append-nil v.jobs ∙ k.jobs_are;
      waiting_are = λ c t at.
          subst (λ os. IsPermutation (things_of c (waiting_things f.intakes)) os) (sym (taking-leaves_waiting v.events j.0 t.0 j.1 (followed_by (matcher_at f.intakes c)))) (k.waiting_are c t at);
      idle_are = idle-so;
      outs_are = outs-stay f.outs k.outs_are;
    }

-- a known job's number is below those that are given out
pub number-below : (flows : List (Name × Flow)) (plan : FlowPlan) (pool : Nodes) (f : Frame) (v : View) → Keeps flows plan pool f v → (n : ℕ) (j : Name × Place) → numbered v n ≡ Some j → n < f.idle.known
number-below flows plan pool f v k n j e =
    subst (λ m. n < m)
    (ap length k.jobs_are ∙ length-map (known_jobs f.intakes) (named_job v.flow) ∙ sym k.idle_are.known)
    (slice_get_within v.jobs n j e)
