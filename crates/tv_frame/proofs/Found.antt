-- Whether the instance ends with an event, and a frame of which only the outputs ahead are others.
use Rattle.std.specs.List.{list_all}
use Rattle.std.specs.Prelude.{◌≡◌, refl, ℕ, ◌<◌, ◌==◌, ◌&&◌, ◌||◌, Bool, true, false, if◌then◌else◌, length, slice_set, List, [], ◌∷◌, map, slice_index_or}
use Rattle.std.proofs.Common.{◌⊎◌, inl, inr, sym, ap, subst, ◌∙◌, eqb-true, eq-eqb}
use Rattle.std.proofs.lemmas.Bool.{and_parts, or_right, true≢false}
use Rattle.std.proofs.lemmas.Grind.{get_or-set_at}
use Rattle.std.proofs.lemmas.List.{get_or-set_other, length-map, length-set}
use Rattle.std.proofs.lemmas.Option.{slice_get_within}
use Rattle.tv_lemmas.specs.Members.{In}
use Rattle.tv_lemmas.proofs.Members.{in-slice}
use Rattle.tv_lemmas.proofs.Lists.{get-within}
use Rattle.tv_value.specs.Orders.{same_name}
use Rattle.tv_value.specs.Values.{Name, Value}
use Rattle.tv_value.proofs.NameLemmas.{same_name-refl}
use Rattle.tv_flow.specs.Flows.{Flow, Step}
use Rattle.tv_naming.specs.Numbers.{position}
use Rattle.tv_naming.proofs.FormedParts.{steps-ascend}
use Rattle.tv_model.specs.instance.Ranks.{is_among, ranked}
use Rattle.tv_check.proofs.Ranked.{all-ranked}
use Rattle.tv_parts.specs.Partials.{Partial, whole}
use Rattle.tv_parts.proofs.Changes.{arrive-not_whole, close-not_whole}
use Rattle.tv_pool.specs.Pool.{IsLive}
use Rattle.tv_check.specs.declared.plans.FlowPlan.{FlowPlan}
use Rattle.tv_check.specs.declared.wiring.Wiring.{Wiring}
use Rattle.tv_check.specs.Wirings.{after_of}
use Rattle.tv_telling.specs.endings.Ends.{IsSound, is_whole}
use Rattle.tv_outputs.specs.Known.{Nodes, depths, known}
use Rattle.tv_outputs.specs.Kept.{Stand}
use Rattle.tv_intake.specs.Intaken.{AreIntaken, known_jobs, matcher_at, waiting_things}
use Rattle.tv_telling.specs.endings.Feeds.{with_step}
use Rattle.tv_model.specs.instance.ByResults.{last_first}
use Rattle.tv_model.specs.instance.Counting.{have_ended_by, whole_by}
use Rattle.tv_model.specs.instance.Events as events
use Rattle.tv_model.specs.instance.Events.{Event, Events, fault_set, gave, is_telling, took}
use Rattle.tv_framing.specs.Answers.{has_ended_now}
use Rattle.tv_framing.specs.Arriving.{part_so_far}
use Rattle.tv_framing.specs.Frames.{with_event}
use Rattle.tv_framing.specs.Views.{View}
use Rattle.tv_framing.specs.engine.EndedSteps.{AreEndingsOf}
use Rattle.tv_framing.specs.engine.TurningTrees.{CanPut}
use Rattle.tv_framing.specs.engine.WiredFlows.{IsWired}
use Rattle.tv_framing.proofs.engine.Endings.{all-true, all-whole, true-all, position-of}
use Rattle.tv_framing.specs.keeping.NextEvents.{is_whole_step}
use Rattle.tv_framing.specs.feeds.Fed.{event_number}
use Rattle.tv_framing.proofs.feeds.Coming.{events-are_in_trees, trees-are_whole_with_steps}
use Rattle.tv_framing.proofs.feeds.WholeSteps.{marks-are_whole_steps, whole-steps_go_on}
use Rattle.tv_framing.specs.matches.Steps.{IsStepAt}
use Rattle.tv_frame.specs.declared.frame.Frame.{Frame}
use Rattle.tv_frame.specs.declared.outs.Over.{Over}
use Rattle.tv_frame.specs.Kept.{AreIdle, AreInputsOf, AreMatchers, AreOuts, AreTrees, AreWaiting, Keeps, named_job}
use Rattle.tv_frame.specs.Outs.{AllAreWhole}
use Rattle.tv_frame.specs.Prepared.{HasSameHeld, HasSameParts, IsLaidOver}
use Rattle.tv_frame.specs.Tables.{AreTables, levels_in}
use Rattle.tv_frame.proofs.HoldAround.{wired-flow, wiring-kept}

-- ---- a frame that is otherwise the same

pub keeps-found : (flows : List (Name × Flow)) (plan : FlowPlan) (pool : Nodes) (f g : Frame) (v : View) → Keeps flows plan pool f v → HasSameParts f g → HasSameHeld f g → Keeps flows plan pool g v
keeps-found flows plan pool f g v keeps p h =
    record {
      flow_is = keeps.flow_is;
      frame = keeps.frame;
      of_depths = keeps.of_depths;
      inputs_are = subst (λ ps. AreInputsOf v ps g.faulty_inputs.items) (sym p.inputs) (subst (AreInputsOf v f.inputs) (sym p.faulty_inputs) keeps.inputs_are);
      tables_are = subst (AreTables v.flow) (sym p.tables) keeps.tables_are;
      live = subst (IsLive pool) (sym p.region) keeps.live;
      stand = subst (λ o. Stand pool o g.region) (sym p.outputs) (subst (Stand pool f.outputs) (sym p.region) keeps.stand);
      deep = ap depths p.outputs ∙ keeps.deep;
      trees_are = subst (λ o. AreTrees v (known pool o)) (sym p.outputs) keeps.trees_are;
      endings_are = subst (AreEndingsOf v.flow (levels_in v.flow) v.events) (sym p.endings) keeps.endings_are;
      intaken = subst AreIntaken (sym h.intakes) keeps.intaken;
      as_many = ap (λ i. length i.matchers.items) h.intakes ∙ keeps.as_many;
      matchers_are = subst (λ i. AreMatchers v (matcher_at i)) (sym h.intakes) keeps.matchers_are;
      jobs_are = keeps.jobs_are ∙ ap (λ i. map (named_job v.flow) (known_jobs i)) (sym h.intakes);
      waiting_are = subst (λ i. AreWaiting v (matcher_at i) (waiting_things i)) (sym h.intakes) keeps.waiting_are;
      idle_are = subst (λ i. AreIdle v i g.idle) (sym h.intakes) (subst (AreIdle v f.intakes) (sym h.idle) keeps.idle_are);
      outs_are = subst (AreOuts v (has_ended_now (levels_in v.flow) v)) (sym p.outs) keeps.outs_are;
    }

-- ---- all steps have ended exactly where all are whole

all-constant : {A : Type 0} (xs : List A) → list_all (λ x. true) xs ≡ true
all-constant [] = refl
all-constant (x ∷ xs) = all-constant xs

last-in : (rs ts : List (Name × Step)) (s : Name × Step) → (In s rs) ⊎ (In s ts) → In s (last_first rs ts)
last-in [] ts s (inl i) = absurd i
last-in [] ts s (inr i) = i
last-in (r ∷ rs) ts s (inl (inl e)) = last-in rs (r ∷ ts) s (inr (inl e))
last-in (r ∷ rs) ts s (inl (inr i)) = last-in rs (r ∷ ts) s (inl i)
last-in (r ∷ rs) ts s (inr i) = last-in rs (r ∷ ts) s (inr (inr i))

names-among : (xs : List (Name × Step)) (s : Name × Step) → In s xs → is_among (map (λ t. t.0) xs) s.0 ≡ true
names-among [] s i = absurd i
names-among (x ∷ xs) s (inl e) = ap (λ (t : Name × Step). same_name s.0 t.0 || is_among (map (λ u. u.0) xs) s.0) (sym e) ∙ ap (λ b. b || is_among (map (λ u. u.0) xs) s.0) (same_name-refl s.0)
names-among (x ∷ xs) s (inr i) = or_right (same_name s.0 x.0) (is_among (map (λ u. u.0) xs) s.0) (names-among xs s i)

ended-each : (es : Events) (levels : Name → ℕ) (ss : List (Name × Step)) (ns : List Name) → have_ended_by es levels ss ns ≡ true → (s : Name × Step) → In s ss → is_among ns s.0 ≡ true → whole_by es s.0 (levels s.0) [] ≡ true
ended-each es levels [] ns h s i a = absurd i
ended-each es levels (t ∷ ss) ns h s i a = by i (and_parts (if is_among ns t.0 then whole_by es t.0 (levels t.0) [] && have_ended_by es levels ss t.1.after else true) (have_ended_by es levels ss ns) h) (λ k j. ended-each es levels ss ns k s j a)
  where
    by : In s (t ∷ ss) → ((if is_among ns t.0 then whole_by es t.0 (levels t.0) [] && have_ended_by es levels ss t.1.after else true) ≡ true) × (have_ended_by es levels ss ns ≡ true) → (have_ended_by es levels ss ns ≡ true → In s ss → whole_by es s.0 (levels s.0) [] ≡ true) → whole_by es s.0 (levels s.0) [] ≡ true
    by (inl e) p rec =
        subst (λ (u : Name × Step). whole_by es u.0 (levels u.0) [] ≡ true) (sym e)
        (and_parts (whole_by es t.0 (levels t.0) []) (have_ended_by es levels ss t.1.after)
        (ap (λ c. if c then whole_by es t.0 (levels t.0) [] && have_ended_by es levels ss t.1.after else true) (sym (subst (λ (u : Name × Step). is_among ns u.0 ≡ true) e a)) ∙ p.0)).0
    by (inr j) p rec = rec p.1 j

module _ (w : View) (wired : IsWired w.flow) where
  pub whole-ended : AllAreWhole w → has_ended_now (levels_in w.flow) w ≡ true
  whole-ended all =
      all-whole w.flow.steps w.events (levels_in w.flow) (λ k. true) (λ k. true)
      (λ k l. sym (all-constant (slice_index_or (map (λ (s : Name × Step). after_of w.flow.steps s.1) w.flow.steps) k [])))
      (λ k s e. sym (all k s e)) (steps-ascend w.flow wired.formed) wired.ranked (λ k l. refl)

  pub ended-whole : has_ended_now (levels_in w.flow) w ≡ true → AllAreWhole w
  ended-whole h n s e =
      let i = all-ranked w.flow.steps (steps-ascend w.flow wired.formed) wired.ranked s (n, e) in
      let j = in-slice (ranked w.flow.steps) i.0 s i.1 in
      ended-each w.events (levels_in w.flow) (last_first (ranked w.flow.steps) []) (map (λ t. t.0) (ranked w.flow.steps)) h s (last-in (ranked w.flow.steps) [] s (inl j)) (names-among (ranked w.flow.steps) s j)

-- ---- with an event

put-not_whole : (e : Event) (r : Partial Value) → is_telling e ≡ true → CanPut e r → whole r ≡ false
put-not_whole (gave t q vs) r h c = arrive-not_whole q r c
put-not_whole (events.closed t q n) r h c = close-not_whole q n r c
put-not_whole (fault_set t q d) r h c = arrive-not_whole q r c
put-not_whole (took t q) r h c = absurd (true≢false (sym h))

module _ (flows : List (Name × Flow)) (plan : FlowPlan) (pool : Nodes) (f : Frame) (v : View) (keeps : Keeps flows plan pool f v) (s : Name × Step) (e : Event) (over : Over) (from : ℕ) (laid : IsLaidOver flows v s e over from) where
  abbrev levels : Name → ℕ
  levels = levels_in v.flow

  wired : IsWired v.flow
  wired = wired-flow flows plan pool f v keeps

  number : event_number v e ≡ over.step
  number = ap (λ m. position m v.flow.steps) laid.named ∙ position-of v.flow.steps over.step s (steps-ascend v.flow wired.formed) laid.at

  marks : (n : ℕ) → is_whole f.endings n ≡ is_whole_step levels v n
  marks n = marks-are_whole_steps levels v f.endings keeps.endings_are n

  -- THE EVENT'S STEP isn't whole yet
  not-yet : is_whole_step levels v over.step ≡ false
  not-yet =
      let put = (events-are_in_trees flows levels v e laid.next wired 0 0).put in
      let here : CanPut e (part_so_far s.0 0 (levels s.0) 0 v.events) = subst (λ m. CanPut e (part_so_far m 0 (levels m) 0 v.events)) laid.named put in
      sym (trees-are_whole_with_steps flows levels v laid.next.frame laid.next.depths wired over.step s laid.at 0 0)
      ∙ put-not_whole e (part_so_far s.0 0 (levels s.0) 0 v.events) laid.next.tells here

  pub step-growing : is_whole f.endings over.step ≡ false
  step-growing = marks over.step ∙ not-yet

  as-many : length f.endings.whole.items ≡ length v.flow.steps
  as-many = keeps.endings_are.sound.whole_each ∙ length-map v.flow.steps (λ (t : Name × Step). after_of v.flow.steps t.1)

  pub sound-here : (after : List (List ℕ)) → after ≡ plan.wiring.after → IsSound after f.endings
  sound-here after same = subst (λ l. IsSound l f.endings) (sym (same ∙ ap (λ (x : Wiring). x.after) (wiring-kept flows plan pool f v keeps))) keeps.endings_are.sound

  pub step-after : (after : List (List ℕ)) → after ≡ plan.wiring.after → over.step < length after
  step-after after same =
      subst (λ l. over.step < l) (sym (ap length (same ∙ ap (λ (x : Wiring). x.after) (wiring-kept flows plan pool f v keeps)) ∙ length-map v.flow.steps (λ (t : Name × Step). after_of v.flow.steps t.1)))
      (slice_get_within v.flow.steps over.step s laid.at)

  abbrev w : View
  w = with_event v e []

  abbrev all_marked : Bool
  all_marked = list_all (λ b. b) (slice_set f.endings.whole.items over.step true)

  marked-one : (n : ℕ) → slice_index_or (slice_set f.endings.whole.items over.step true) n false ≡ (n == over.step || is_whole f.endings n)
  marked-one n = by (n == over.step) refl
    where
      by : (b : Bool) → (n == over.step) ≡ b → slice_index_or (slice_set f.endings.whole.items over.step true) n false ≡ (b || is_whole f.endings n)
      by true g = get_or-set_at f.endings.whole.items over.step n true false (eqb-true n over.step g) (subst (λ m. over.step < m) (sym as-many) (slice_get_within v.flow.steps over.step s laid.at))
      by false g = get_or-set_other f.endings.whole.items over.step n true false (λ k. true≢false (sym (eq-eqb n over.step k) ∙ g))

  whole-after : (n : ℕ) (t : Name × Step) → IsStepAt v n t → whole_by (e ∷ v.events) t.0 (levels t.0) [] ≡ (if from == 0 then slice_index_or (slice_set f.endings.whole.items over.step true) n false else is_whole f.endings n)
  whole-after n t at =
      (whole-steps_go_on flows levels v e laid.next wired from laid.turns).after n t at
      ∙ ap (λ k. if from == 0 then with_step (is_whole_step levels v) k n else is_whole_step levels v n) number
      ∙ ap (λ b. if from == 0 then n == over.step || b else b) (sym (marks n))
      ∙ ap (λ b. if from == 0 then b else is_whole f.endings n) (sym (marked-one n))

  pub all-whole_now : (from == 0) ≡ true → all_marked ≡ true → AllAreWhole w
  all-whole_now z h n t at =
      whole-after n t at
      ∙ ap (λ b. if b then slice_index_or (slice_set f.endings.whole.items over.step true) n false else is_whole f.endings n) z
      ∙ all-true (slice_set f.endings.whole.items over.step true) h n (subst (λ m. n < m) (sym (length-set f.endings.whole.items over.step true ∙ as-many)) (slice_get_within v.flow.steps n t at))

  whole-then : AllAreWhole w → (from == 0) ≡ true → all_marked ≡ true
  whole-then all z =
      true-all (slice_set f.endings.whole.items over.step true)
      (λ n l. let t = get-within v.flow.steps n (subst (λ m. n < m) (length-set f.endings.whole.items over.step true ∙ as-many) l) in
      ap (λ b. if b then slice_index_or (slice_set f.endings.whole.items over.step true) n false else is_whole f.endings n) (sym z)
      ∙ sym (whole-after n t.0 t.1)
      ∙ all n t.0 t.1)

  whole-zero : AllAreWhole w → (from == 0) ≡ true
  whole-zero all = by (from == 0) refl
    where
      by : (b : Bool) → (from == 0) ≡ b → b ≡ true
      by true g = refl
      by false g =
          sym step-growing
          ∙ ap (λ b. if b then slice_index_or (slice_set f.endings.whole.items over.step true) over.step false else is_whole f.endings over.step) (sym g)
          ∙ sym (whole-after over.step s laid.at)
          ∙ all over.step s laid.at

  -- THE END: the instance has ended with the event where its step is the last to turn whole
  pub ends-now : (from == 0) ≡ true → all_marked ≡ true → has_ended_now levels w ≡ true
  ends-now z h = whole-ended w wired (all-whole_now z h)

  pub ends-not : (((from == 0) ≡ true) → all_marked ≡ true → ⊥) → has_ended_now levels w ≡ false
  ends-not never = by (has_ended_now levels w) refl
    where
      by : (b : Bool) → has_ended_now levels w ≡ b → b ≡ false
      by true g = let all = ended-whole w wired g in absurd (never (whole-zero all) (whole-then all (whole-zero all)))
      by false g = refl
