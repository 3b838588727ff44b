-- A frame whose steps hold something else keeps of its instance what it kept.
use Rattle.std.specs.Prelude.{◌≡◌, refl, ℕ, suc, List, [], ◌∷◌, length, map, IsPermutation, Option, Some, None, slice_get}
use Rattle.std.proofs.Common.{inl, inr, sym, ap, subst, ◌∙◌}
use Rattle.tv_lemmas.specs.Members.{In}
use Rattle.tv_value.specs.Nested.{Place}
use Rattle.tv_value.specs.Values.{Name}
use Rattle.tv_flow.specs.Flows.{Flow, Step}
use Rattle.tv_match.specs.declared.matchers.Matcher.{Matcher}
use Rattle.tv_match.specs.Seen.{matching}
use Rattle.tv_matching.specs.Told.{faulty_at}
use Rattle.tv_outputs.specs.Known.{Nodes, depths, known}
use Rattle.tv_outputs.specs.Kept.{Stand}
use Rattle.tv_pool.specs.Pool.{IsLive}
use Rattle.tv_check.specs.declared.plans.FlowPlan.{FlowPlan}
use Rattle.tv_intake.specs.Intaken.{AreIntaken, known_jobs, matcher_at, waiting_things}
use Rattle.tv_idle.specs.Idles.{Idles, StepIdle, of_step}
use Rattle.tv_idle.specs.Kept.{are_in_order}
use Rattle.tv_spread.specs.Spreads.{HasOtherRooms, StaysAt, faulty_now_at}
use Rattle.tv_framing.specs.Answers.{has_ended_now}
use Rattle.tv_framing.specs.Views.{View}
use Rattle.tv_framing.specs.engine.EndedSteps.{AreEndingsOf}
use Rattle.tv_framing.specs.keeping.Told.{StepIsTold}
use Rattle.tv_framing.specs.matches.Waiting.{waiting_of}
use Rattle.tv_framing.specs.faults.Telling.{TellsTruly}
use Rattle.tv_framing.specs.turns.IdleJobs.{AreIdleOf, IsIdle}
use Rattle.tv_frame.specs.declared.frame.Frame.{Frame}
use Rattle.tv_frame.specs.Kept.{AreIdle, AreInputsOf, AreOuts, AreTrees, HasMatcher, Keeps, followed_by, named_job, things_of}
use Rattle.tv_frame.specs.Prepared.{HasSameParts}
use Rattle.tv_frame.specs.Tables.{AreTables, levels_in}

-- the matchers, known jobs, waiting things and idle jobs are the same but for what is held, and for rooms
pub record IsHeldBack (f g : Frame) : Type 0 where
  pub parts : HasSameParts f g
  pub stays : (c : ℕ) → StaysAt (matcher_at f.intakes c) (matcher_at g.intakes c)
  pub jobs : known_jobs g.intakes ≡ known_jobs f.intakes
  pub waiting : waiting_things g.intakes ≡ waiting_things f.intakes
  pub intaken : AreIntaken g.intakes
  pub idle : HasOtherRooms f.idle g.idle

-- ---- matchers

stays-many : (ms ns : List Matcher) → ((c : ℕ) → StaysAt (slice_get ms c) (slice_get ns c)) → length ns ≡ length ms
stays-many [] [] h = refl
stays-many [] (n ∷ ns) h = absurd (h 0)
stays-many (m ∷ ms) [] h = absurd (h 0)
stays-many (m ∷ ms) (n ∷ ns) h = ap suc (stays-many ms ns (λ c. h (suc c)))

stays-matcher : (v : View) (s : Name × Step) (o p : Option Matcher) → StaysAt o p → HasMatcher v s o → HasMatcher v s p
stays-matcher v s None p h k = absurd k
stays-matcher v s (Some m) None h k = absurd h
stays-matcher v s (Some m) (Some n) h k =
    record {
      strategy_is = h.0.strategy ∙ k.strategy_is;
      mismatch_is = h.0.mismatch ∙ k.mismatch_is;
      told = subst (StepIsTold v s.0) (sym h.0.told) k.told;
      truly = subst (TellsTruly v s.0) (sym h.0.told) k.truly;
    }

stays-followed : (o p : Option Matcher) → StaysAt o p → followed_by p ≡ followed_by o
stays-followed None None h = refl
stays-followed None (Some n) h = absurd h
stays-followed (Some m) None h = absurd h
stays-followed (Some m) (Some n) h = h.1

stays-faulty : (o p : Option Matcher) → StaysAt o p → (q : Place) → faulty_now_at p q ≡ faulty_now_at o q
stays-faulty None None h q = refl
stays-faulty None (Some n) h q = absurd h
stays-faulty (Some m) None h q = absurd h
stays-faulty (Some m) (Some n) h q =
    ap (λ g. faulty_at g (matching n).told q) h.0.strategy ∙ ap (λ ts. faulty_at (matching m).strategy ts q) h.0.told

-- ---- idle jobs

module _ (v : View) (i j : Idles) (h : HasOtherRooms i j) where
  same-good : (k : ℕ) → (of_step j.steps k).good ≡ (of_step i.steps k).good
  same-good k = ap (λ (x : StepIdle). x.good) (h.steps k)

  same-faulty : (k : ℕ) → (of_step j.steps k).faulty ≡ (of_step i.steps k).faulty
  same-faulty k = ap (λ (x : StepIdle). x.faulty) (h.steps k)

  idle-back : (k : ℕ) (x : ℕ × Place) → IsIdle j.steps k x → IsIdle i.steps k x
  idle-back k x (inl p) = inl (subst (In x) (same-good k) p)
  idle-back k x (inr p) = inr (subst (In x) (same-faulty k) p)

  idle-on : (k : ℕ) (x : ℕ × Place) → IsIdle i.steps k x → IsIdle j.steps k x
  idle-on k x (inl p) = inl (subst (In x) (sym (same-good k)) p)
  idle-on k x (inr p) = inr (subst (In x) (sym (same-faulty k)) p)

  pub stays-idle_of : AreIdleOf v i.steps → AreIdleOf v j.steps
  stays-idle_of w =
      record {
        order = record {
          good = λ k. ap are_in_order (same-good k) ∙ w.order.good k;
          faulty = λ k. ap are_in_order (same-faulty k) ∙ w.order.faulty k;
        };
        steps = w.steps;
        all = λ n x e t r. idle-on _ _ (w.all n x e t r);
        known = λ k s x e p. w.known k s x e (idle-back k x p);
        free = λ k s x e p. w.free k s x e (idle-back k x p);
      }

-- ---- all of it

module _ (flows : List (Name × Flow)) (plan : FlowPlan) (pool : Nodes) (f g : Frame) (v : View) (keeps : Keeps flows plan pool f v) (back : IsHeldBack f g) where
  idle-kept : AreIdle v g.intakes g.idle
  idle-kept =
      record {
        all = stays-idle_of v f.idle g.idle back.idle keeps.idle_are.all;
        known = back.idle.known ∙ keeps.idle_are.known ∙ ap length (sym back.jobs);
        as_many = back.idle.as_many ∙ keeps.idle_are.as_many;
        levels = λ n s e. ap (λ (x : StepIdle). x.levels) (back.idle.steps n) ∙ keeps.idle_are.levels n s e;
        good = λ n x p. stays-faulty (matcher_at f.intakes n) (matcher_at g.intakes n) (back.stays n) x.1 ∙ keeps.idle_are.good n x (subst (In x) (ap (λ (y : StepIdle). y.good) (back.idle.steps n)) p);
        faulty = λ n x p. stays-faulty (matcher_at f.intakes n) (matcher_at g.intakes n) (back.stays n) x.1 ∙ keeps.idle_are.faulty n x (subst (In x) (ap (λ (y : StepIdle). y.faulty) (back.idle.steps n)) p);
      }

  pub keeps-back : Keeps flows plan pool g v
  keeps-back =
      record {
        flow_is = keeps.flow_is;
        frame = keeps.frame;
        of_depths = keeps.of_depths;
        inputs_are = subst (λ ps. AreInputsOf v ps g.faulty_inputs.items) (sym back.parts.inputs) (subst (AreInputsOf v f.inputs) (sym back.parts.faulty_inputs) keeps.inputs_are);
        tables_are = subst (AreTables v.flow) (sym back.parts.tables) keeps.tables_are;
        live = subst (IsLive pool) (sym back.parts.region) keeps.live;
        stand = subst (λ o. Stand pool o g.region) (sym back.parts.outputs) (subst (Stand pool f.outputs) (sym back.parts.region) keeps.stand);
        deep = ap depths back.parts.outputs ∙ keeps.deep;
        trees_are = subst (λ o. AreTrees v (known pool o)) (sym back.parts.outputs) keeps.trees_are;
        endings_are = subst (AreEndingsOf v.flow (levels_in v.flow) v.events) (sym back.parts.endings) keeps.endings_are;
        intaken = back.intaken;
        as_many = stays-many f.intakes.matchers.items g.intakes.matchers.items back.stays ∙ keeps.as_many;
        matchers_are = λ n s e. stays-matcher v s (matcher_at f.intakes n) (matcher_at g.intakes n) (back.stays n) (keeps.matchers_are n s e);
        jobs_are = keeps.jobs_are ∙ ap (map (named_job v.flow)) (sym back.jobs);
        waiting_are = λ n s e.
            subst (λ os. IsPermutation (things_of n (waiting_things g.intakes)) (waiting_of v.events s.0 os)) (sym (stays-followed (matcher_at f.intakes n) (matcher_at g.intakes n) (back.stays n)))
            (subst (λ ws. IsPermutation (things_of n ws) (waiting_of v.events s.0 (followed_by (matcher_at f.intakes n)))) (sym back.waiting) (keeps.waiting_are n s e));
        idle_are = idle-kept;
        outs_are = subst (AreOuts v (has_ended_now (levels_in v.flow) v)) (sym back.parts.outs) keeps.outs_are;
      }
