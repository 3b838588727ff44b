-- A frame that was told that a job ran and gave its result keeps as well the view in which it gave it and never ran.
use Rattle.std.specs.Option.{option_map_or}
use Rattle.std.specs.Prelude.{◌≡◌, refl, ℕ, zero, suc, ◌==◌, ◌&&◌, ◌||◌, Bool, true, false, List, [], ◌∷◌, ◌++◌, IsPermutation, Option, Some, None, filter, length, map}
use Rattle.std.proofs.Common.{sym, ap, subst, ◌∙◌, append-nil, true≢false}
use Rattle.tv_lemmas.specs.Members.{Each}
use Rattle.tv_value.specs.Nested.{Place}
use Rattle.tv_value.specs.Orders.{same_name}
use Rattle.tv_value.specs.Values.{JobName, Name, Value}
use Rattle.tv_value.proofs.NameLemmas.{same_name-refl}
use Rattle.tv_flow.specs.Flows.{Flow, Step}
use Rattle.tv_strategy.specs.Iterations.{walk}
use Rattle.tv_strategy.specs.Origins.{Known, Origin, Traced, at_start, by_job, by_level}
use Rattle.tv_model.specs.instance.Delivered.{Ported}
use Rattle.tv_cell.specs.declared.piece.Piece.{Piece}
use Rattle.tv_check.specs.declared.plans.FlowPlan.{FlowPlan}
use Rattle.tv_outputs.specs.Known.{Nodes}
use Rattle.tv_matching.specs.Items.{known_items}
use Rattle.tv_matching.specs.Matchers.{Outcome, fault_at, job_at, list_at}
use Rattle.tv_matching.specs.Told.{Told, item_there, told_to}
use Rattle.tv_match.specs.declared.matchers.Matcher.{Matcher}
use Rattle.tv_match.specs.Seen.{matching}
use Rattle.tv_intake.specs.Intaken.{matcher_at, waiting_things}
use Rattle.tv_model.specs.instance.Counting.{count_whole, whole_by}
use Rattle.tv_model.specs.instance.Events.{Events, closed_with, gave, has_fault, has_result, is_spot, is_known_by, is_taken, known_by, took}
use Rattle.tv_model.specs.instance.Legality.{HasSources, node_of}
use Rattle.tv_framing.specs.Answers.{has_ended_now}
use Rattle.tv_framing.specs.Frames.{Comes, IsFrame, known_jobs, new_jobs, with_event}
use Rattle.tv_framing.specs.Views.{View, steps_with}
use Rattle.tv_framing.specs.engine.EndedSteps.{AreEndingsOf}
use Rattle.tv_framing.specs.engine.WiredFlows.{IsWired}
use Rattle.tv_framing.proofs.engine.Steps.{all-have_ended}
use Rattle.tv_framing.specs.keeping.Told.{StepIsTold}
use Rattle.tv_framing.proofs.keeping.LawLemmas.{taken-known}
use Rattle.tv_framing.specs.matches.Waiting.{is_waiting}
use Rattle.tv_framing.specs.turns.IdleJobs.{AreIdleOf}
use Rattle.tv_frame.specs.declared.frame.Frame.{Frame}
use Rattle.tv_frame.specs.Calls.{Brings, GoesOn}
use Rattle.tv_frame.specs.Kept.{AreIdle, AreOuts, HasMatcher, Keeps, followed_by, things_of}
use Rattle.tv_frame.specs.Tables.{levels_in}
use Rattle.tv_frame.proofs.Keeping.{kept-wired}

-- ---- events

known-forgot : (instance : JobName) (s : Name) (q : Place) (vs : List Value) (es : Events) (o : Origin) → known_by instance (gave s q vs ∷ took s q ∷ es) o ≡ known_by instance (gave s q vs ∷ es) o
known-forgot instance s q vs es o = by o.known
  where
    by : (k : Known) → is_known_by instance (gave s q vs ∷ took s q ∷ es) k ≡ is_known_by instance (gave s q vs ∷ es) k
    by at_start = refl
    by (by_job n) = refl
    by (by_level n) = refl

whole-forgot : (es : Events) (s : Name) (q : Place) (vs : List Value) (t : Name) (d : ℕ) (r : Place) → whole_by (gave s q vs ∷ took s q ∷ es) t d r ≡ whole_by (gave s q vs ∷ es) t d r
whole-forgot es s q vs t zero r = refl
whole-forgot es s q vs t (suc d) r =
    ap (λ (w : Place → Bool). has_fault es t r || option_map_or (λ n. count_whole w r 0 n == n) (closed_with es t r) false) (λ i x. whole-forgot es s q vs t d x i)

waiting-forgot : (es : Events) (s : Name) (q : Place) (vs : List Value) (t : Name) (o : Outcome) → is_waiting (gave s q vs ∷ took s q ∷ es) t o ≡ is_waiting (gave s q vs ∷ es) t o
waiting-forgot es s q vs t (job_at r) = refl
waiting-forgot es s q vs t (list_at r n) = refl
waiting-forgot es s q vs t (fault_at r l) = refl

-- ---- what the frame keeps

module _ (flows : List (Name × Flow)) (plan : FlowPlan) (pool : Nodes) (f : Frame) (v : View) (s : Name) (q : Place) (vs : List Value) (es : Events) where
  -- with both told, and with the result alone
  abbrev both : View
  both = record v { events = gave s q vs ∷ took s q ∷ es }

  abbrev one : View
  one = record v { events = gave s q vs ∷ es }

  module _ (k : Keeps flows plan pool f both) where
    frame-then : IsFrame one
    frame-then = record {
      given = k.frame.given;
      legal = λ instance results d x.
          let h = k.frame.legal instance results d x in (
            record {
              fits = h.0.fits;
              sources = subst (λ (known : Origin → Bool). HasSources known (node_of (steps_with v instance results) (gave s q vs))) (λ i o. sym (taken-known instance s q es o) i) h.0.sources;
              fresh = h.0.fresh;
            },
            h.1.1,
          );
      known = λ instance results d x.
          subst (λ (known : Origin → Bool). IsPermutation v.jobs (known_jobs known (steps_with v instance results))) (λ i o. known-forgot instance s q vs es o i) (k.frame.known instance results d x);
    }

    wired : IsWired v.flow
    wired = kept-wired flows plan pool f both k

    ends : AreEndingsOf v.flow (levels_in v.flow) (gave s q vs ∷ es) f.endings
    ends = record {
      sound = k.endings_are.sound;
      marked = λ n u h. k.endings_are.marked n u h ∙ whole-forgot es s q vs u.0 (levels_in v.flow u.0) [];
    }

    same-ended : has_ended_now (levels_in v.flow) one ≡ has_ended_now (levels_in v.flow) both
    same-ended =
        sym (all-have_ended v.flow wired (levels_in v.flow) (gave s q vs ∷ es) f.endings ends)
        ∙ all-have_ended v.flow wired (levels_in v.flow) (gave s q vs ∷ took s q ∷ es) f.endings k.endings_are

    outs-stay : (o : Option (List Piece)) → AreOuts both (has_ended_now (levels_in v.flow) both) o → AreOuts one (has_ended_now (levels_in v.flow) one) o
    outs-stay None h = same-ended ∙ h
    outs-stay (Some ps) h = (same-ended ∙ h.0, h.1, λ instance results d x. h.2 instance results d x)

    told-then : (t : Name) (ts : List Told) → StepIsTold both t ts → StepIsTold one t ts
    told-then t ts was instance results d x g there name =
        subst
        (λ (known : Origin → Bool). Each
        (λ (p : Name × Ported). (values : Name → Traced) → values p.0 ≡ p.1.value
        → IsPermutation (map (item_there values) (told_to ts p.0)) (known_items known (walk p.0 p.1.mismatch p.1.value)))
        g.step.inputs)
        (λ i o. known-forgot instance s q vs es o i) (was instance results d x g there name)

    matcher-stays : (t : Name × Step) (o : Option Matcher) → HasMatcher both t o → HasMatcher one t o
    matcher-stays t None h = h
    matcher-stays t (Some m) h = record {
      strategy_is = h.strategy_is;
      mismatch_is = h.mismatch_is;
      told = told-then t.0 (matching m).told h.told;
      truly = λ instance results d x. h.truly instance results d x;
    }

    -- ---- idle jobs

    left : (a b : Bool) → (a || b) ≡ false → a ≡ false
    left true b h = h
    left false b h = refl

    right : (a b : Bool) → (a || b) ≡ false → b ≡ false
    right true b h = absurd (true≢false h)
    right false b h = h

    neither : (a b : Bool) → a ≡ false → b ≡ false → (a || b) ≡ false
    neither true b h g = h
    neither false b h g = g

    idle-then : AreIdleOf one f.idle.steps
    idle-then = record {
      order = k.idle_are.all.order;
      steps = k.idle_are.all.steps;
      all = λ n x is free new.
          k.idle_are.all.all n x is
          (neither (is_spot x.0 x.1 s q) (is_taken es x.0 x.1) (left (is_spot x.0 x.1 s q) (has_result es x.0 x.1) new) free)
          new;
      known = k.idle_are.all.known;
      free = λ c t j at i.
          let h = k.idle_are.all.free c t j at i in
          (right (is_spot t.0 j.1 s q) (is_taken es t.0 j.1) h.0, h.1);
    }

    idle-so : AreIdle one f.intakes f.idle
    idle-so = record {
      all = idle-then;
      known = k.idle_are.known;
      as_many = k.idle_are.as_many;
      levels = k.idle_are.levels;
      good = k.idle_are.good;
      faulty = k.idle_are.faulty;
    }

    pub forgets : Keeps flows plan pool f one
    forgets = record {
      flow_is = k.flow_is;
      frame = frame-then;
      of_depths = record { flow = k.of_depths.flow; inputs = k.of_depths.inputs; levels_are = k.of_depths.levels_are };
      inputs_are = record { names = k.inputs_are.names; values = k.inputs_are.values; sound = k.inputs_are.sound; marked = k.inputs_are.marked };
      tables_are = k.tables_are;
      live = k.live;
      stand = k.stand;
      deep = k.deep;
      trees_are = λ c t at i l. k.trees_are c t at i l;
      endings_are = ends;
      intaken = k.intaken;
      as_many = k.as_many;
      matchers_are = λ c t at. matcher-stays t (matcher_at f.intakes c) (k.matchers_are c t at);
      jobs_are = k.jobs_are;
      waiting_are = λ c t at.
          subst (λ (test : Outcome → Bool). IsPermutation (things_of c (waiting_things f.intakes)) (filter test (followed_by (matcher_at f.intakes c))))
          (λ i o. waiting-forgot es s q vs t.0 o i) (k.waiting_are c t at);
      idle_are = idle-so;
      outs_are = outs-stay f.outs k.outs_are;
    }

-- ---- one event more

-- the job is taken
pub taken-now : (es : Events) (s : Name) (q : Place) → is_taken (took s q ∷ es) s q ≡ true
taken-now es s q = subst (λ b. (b || is_taken es s q) ≡ true) (sym (both-true (same_name s s) (same_name q q) (same_name-refl s) (same_name-refl q))) refl
  where
    both-true : (a b : Bool) → a ≡ true → b ≡ true → (a && b) ≡ true
    both-true true b h g = g
    both-true false b h g = h

-- what follows of the result of a job that was taken just before follows of it where the job never ran
pub goes-alone : (flows : List (Name × Flow)) (plan : FlowPlan) (pool : Nodes) (g : Frame) (v : View) (s : Name) (q : Place) (vs : List Value)
    → GoesOn flows plan pool g (with_event v (took s q) []) (gave s q vs) → GoesOn flows plan pool g v (gave s q vs)
goes-alone flows plan pool g v s q vs (w, n, comes, brings, k) =
    let then : View = record w { events = gave s q vs ∷ v.events } in
    (then, n, comes-then, brings-then, forgets flows plan pool g w s q vs v.events (subst (λ es. Keeps flows plan pool g (record w { events = es })) comes.events k))
  where
    comes-then : Comes v (record w { events = gave s q vs ∷ v.events }) (gave s q vs) n
    comes-then = record {
      flow = comes.flow;
      inputs = comes.inputs;
      events = refl;
      jobs = (comes.jobs.0, comes.jobs.1 ∙ ap (λ js. js ++ comes.jobs.0) (append-nil v.jobs), comes.jobs.2);
    }

    brings-then : Brings v (gave s q vs) n
    brings-then instance results d x =
        subst
        (λ (knows : (Origin → Bool) × (Origin → Bool)). length (new_jobs knows.0 knows.1 (steps_with v instance results)) ≡ n)
        (λ i. (λ o. sym (taken-known instance s q v.events o) i, λ o. known-forgot instance s q vs v.events o i)) (brings instance results d x)
