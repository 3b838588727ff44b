-- What the calls that show an event ask of a frame that is ready for it, and what they make of it.
use Rattle.std.specs.Prelude.{◌≡◌, refl, ℕ, ◌+◌, ◌<◌, ◌≤◌, Bool, true, not, count_by, sum_by, List, ◌++◌, flat_map, length, map, slice_get}
use Rattle.std.specs.List.{range_with_len}
use Rattle.std.proofs.Common.{sym, ap, subst, ◌∙◌, arith}
use Rattle.std.proofs.lemmas.List.{length-map}
use Rattle.std.proofs.lemmas.List.Sorted.{IsPermutation-refl}
use Rattle.std.proofs.lemmas.Option.{slice_get_within}
use Rattle.tv_lemmas.specs.Members.{Each}
use Rattle.tv_value.specs.Nested.{Place}
use Rattle.tv_value.specs.Values.{Name, Value}
use Rattle.tv_flow.specs.Flows.{Flow, Step}
use Rattle.tv_model.specs.instance.Ranks.{ranked}
use Rattle.tv_model.specs.instance.Steps.{declared_depths}
use Rattle.tv_pool.specs.Pool.{number_of}
use Rattle.tv_stream.specs.nodes.Calls.{KeepsRegions}
use Rattle.tv_check.specs.declared.plans.FlowPlan.{FlowPlan}
use Rattle.tv_check.specs.declared.wiring.Wiring.{Wiring}
use Rattle.tv_check.specs.Turned.{all_waits, from_each}
use Rattle.tv_check.specs.Wirings.{after_of, all_after}
use Rattle.tv_naming.proofs.FormedParts.{steps-ascend}
use Rattle.tv_parts.specs.Changes.{CanArrive, CanClose}
use Rattle.tv_matching.specs.Matchers.{Outcome}
use Rattle.tv_matching.proofs.Members.{in-permutes}
use Rattle.tv_telling.specs.declared.endings.endings.Endings.{Endings}
use Rattle.tv_telling.specs.endings.Ends.{is_whole}
use Rattle.tv_outputs.specs.Changes.{AllCanArrive, AllCanClose}
use Rattle.tv_outputs.specs.Known.{Nodes, depths, known, needed, tree_in}
use Rattle.tv_outputs.specs.Kept.{Stand}
use Rattle.tv_intake.specs.declared.intakes.Intakes.{Intakes}
use Rattle.tv_intake.specs.Intaken.{CanShow, HasRoom, IsMadeAt, brought_in, faulty_ahead_at, matcher_at, placed, thing_in, waiting_things}
use Rattle.tv_intake.specs.Sorting.{job_places, jobs_among, others_among}
use Rattle.tv_spread.specs.Spreads.{CanShowAll, IsLevelled, MakeAll, with_all_new}
use Rattle.tv_spread.specs.declared.spread.Spread.{Spread}
use Rattle.tv_idle.specs.Idles.{Idles, of_step}
use Rattle.tv_model.specs.instance.Events.{Event, gave}
use Rattle.tv_framing.specs.Views.{View}
use Rattle.tv_framing.specs.matches.Steps.{IsStepAt}
use Rattle.tv_framing.specs.matches.Waiting.{IsLeft}
use Rattle.tv_framing.proofs.matches.Ranks.{ranked-permutes}
use Rattle.tv_lemmas.proofs.Members.{in-slice as at-in}
use Rattle.tv_framing.specs.feeds.Fed.{event_number}
use Rattle.tv_framing.proofs.feeds.WholeSteps.{endings-go_on}
use Rattle.tv_frame.specs.declared.frame.Frame.{Frame}
use Rattle.tv_frame.specs.Calls.{GoesOn}
use Rattle.tv_frame.specs.Kept.{AreIdle, Keeps, followed_by, things_of}
use Rattle.tv_frame.specs.Prepared.{IsReadyFor}
use Rattle.tv_frame.specs.Shown.{CanTurnWhole, HasOtherTrees, IsMarked, IsRunning, IsShown, outs_after, values_put}
use Rattle.tv_frame.specs.Tables.{first_tree, levels_in, trees_of}
use Rattle.tv_frame.proofs.Keeping.{firsts-within, kept-wired}
use Rattle.tv_frame.proofs.Putting.{all-arrive, all-close, can-put, depth-here, right-length, trees-there}
use Rattle.tv_frame.proofs.TreesPut.{ArePut, many-put, number-is}
use Rattle.tv_frame.proofs.Going.{IsAfter, goes-on-so, is-brought, plan-wiring, view, within-steps}
use Rattle.tv_frame.proofs.Idling.{are-idle}
use Rattle.tv_frame.proofs.Bringing.{told_by}
use Rattle.tv_frame.proofs.Coming.{as-declared}

-- ---- a frame that is ready

module _ (flows : List (Name × Flow)) (plan : FlowPlan) (pool : Nodes) (f : Frame) (v : View) (n : ℕ) (s : Name × Step) (e : Event) (r : IsReadyFor flows plan pool f v n s e) where
  k : Keeps flows plan pool f v
  k = r.keeps

  step-so : n < length v.flow.steps
  step-so = slice_get_within v.flow.steps n s r.at

  pub firsts-read : n < length f.tables.firsts.items
  firsts-read = firsts-within flows plan pool f v n s k r.at

  number-so : event_number v e ≡ n
  number-so = number-is flows plan pool f v n s k r.at e r.next r.named

  after-long : length (all_after v.flow) ≡ length v.flow.steps
  after-long = length-map v.flow.steps (λ (t : Name × Step). after_of v.flow.steps t.1)

  pub can-turn : f.ahead.whole ≡ true → CanTurnWhole plan.wiring n f.endings
  can-turn h =
      let m = endings-go_on flows (levels_in v.flow) v e r.next (kept-wired flows plan pool f v k) r.from r.turns f.endings k.endings_are in
      let w = plan-wiring flows plan pool f v k in
      subst (λ (u : Wiring). CanTurnWhole u n f.endings) (sym w)
      (record {
        sound = k.endings_are.sound;
        turned = ap (λ l. from_each (range_with_len 0 l) (all_waits (all_after v.flow))) (sym after-long);
        within = subst (λ l. n < l) (sym after-long) step-so;
        growing = ap (is_whole f.endings) (sym number-so) ∙ m.before (sym r.whole ∙ h);
      })

  -- ---- what comes can be put into the trees

  abbrev first : ℕ
  first = first_tree v.flow.steps n

  pub room-for : (count : ℕ) → count ≡ trees_of s → needed (depths f.outputs) first count ≤ pool.spare
  room-for count h = subst (λ c. needed (depths f.outputs) first c ≤ pool.spare) (sym h) r.room

  pub arrive-so : (q : Place) (count : ℕ) → count ≡ trees_of s → length q ≤ levels_in v.flow s.0 → ((i : ℕ) → i < trees_of s → CanArrive q (tree_in (known pool f.outputs) (first + i))) → AllCanArrive first count q (depths f.outputs) (known pool f.outputs)
  arrive-so q count h short can =
      all-arrive first count (trees_of s) (levels_in v.flow s.0) q (depths f.outputs) (known pool f.outputs) (omega (arith, h))
      (trees-there flows plan pool f v n s k r.at) (depth-here flows plan pool f v n s k r.at) short can

  pub close-so : (q : Place) (size : ℕ) → length q < levels_in v.flow s.0 → ((i : ℕ) → i < trees_of s → CanClose q size (tree_in (known pool f.outputs) (first + i))) → AllCanClose first (trees_of s) q size (depths f.outputs) (known pool f.outputs)
  close-so q size short can =
      all-close first (trees_of s) (trees_of s) (levels_in v.flow s.0) size q (depths f.outputs) (known pool f.outputs) (omega arith)
      (trees-there flows plan pool f v n s k r.at) (depth-here flows plan pool f v n s k r.at) short can

-- ---- by the kind of the event

module _ (flows : List (Name × Flow)) (plan : FlowPlan) (pool : Nodes) (f : Frame) (v : View) (n : ℕ) (s : Name × Step) (q : Place) where
  module _ (vs : List Value) (r : IsReadyFor flows plan pool f v n s (gave s.0 q vs)) where
    pub given-many : length vs ≡ length s.1.outputs
    given-many =
        let w = kept-wired flows plan pool f v r.keeps in
        as-declared (declared_depths s.1) vs
        (r.next.given.0 s (in-permutes s (ranked v.flow.steps) v.flow.steps (ranked-permutes v.flow.steps (steps-ascend v.flow w.formed) w.ranked) (at-in v.flow.steps n s r.at)) refl)
        ∙ length-map s.1.outputs (λ o. o.1)

    pub given-count : length (values_put vs) ≡ trees_of s
    given-count = many-put vs (length s.1.outputs) given-many

    pub given-arrives : AllCanArrive (first_tree v.flow.steps n) (length (values_put vs)) q (depths f.outputs) (known pool f.outputs)
    given-arrives =
        let l : length q ≡ levels_in v.flow s.0 = right-length flows plan pool f v n s r.keeps r.at (gave s.0 q vs) r.next r.named in
        arrive-so flows plan pool f v n s (gave s.0 q vs) r q (length (values_put vs)) given-count (omega (arith, l))
        (can-put flows plan pool f v n s r.keeps r.at (gave s.0 q vs) r.next r.named)

    pub given-room : needed (depths f.outputs) (first_tree v.flow.steps n) (length (values_put vs)) ≤ pool.spare
    given-room = room-for flows plan pool f v n s (gave s.0 q vs) r (length (values_put vs)) given-count

-- ---- the frame that is shown

-- m is f with other trees, and of the things that waited these are left
pub record IsPrepared (f m : Frame) (left : List (ℕ × Outcome)) : Type 0 where
  pub region : m.region ≡ f.region
  pub tables : m.tables ≡ f.tables
  pub inputs : m.inputs ≡ f.inputs
  pub faulty_inputs : m.faulty_inputs.items ≡ f.faulty_inputs.items
  pub matchers : m.intakes.matchers.items ≡ f.intakes.matchers.items
  pub jobs : m.intakes.jobs.items ≡ f.intakes.jobs.items
  pub waits : waiting_things m.intakes ≡ left
  pub idle : m.idle ≡ f.idle
  pub endings : m.endings ≡ f.endings
  pub spread : m.spread ≡ f.spread
  pub whole : m.ahead.whole ≡ f.ahead.whole
  pub outs_ahead : m.ahead.outs ≡ f.ahead.outs
  pub outs : m.outs ≡ f.outs

pub other-trees : (f m : Frame) → HasOtherTrees f m → IsPrepared f m (waiting_things f.intakes)
other-trees f m o = record {
  region = o.region;
  tables = o.tables;
  inputs = o.inputs;
  faulty_inputs = o.faulty_inputs;
  matchers = ap (λ (i : Intakes). i.matchers.items) o.intakes;
  jobs = ap (λ (i : Intakes). i.jobs.items) o.intakes;
  waits = ap waiting_things o.intakes;
  idle = o.idle;
  endings = o.endings;
  spread = o.spread;
  whole = o.whole;
  outs_ahead = o.outs_ahead;
  outs = o.outs;
}

module _ (f m : Frame) (left : List (ℕ × Outcome)) (p : IsPrepared f m left) where
  -- what is held can still be shown
  pub show-ready : CanShowAll f.spread.touched.items f.intakes f.idle → ((c : ℕ) → HasRoom c f.intakes → HasRoom c m.intakes) → CanShowAll m.spread.touched.items m.intakes m.idle
  show-ready h room =
      subst (λ (x : Spread × Idles). CanShowAll x.0.touched.items m.intakes x.1) (λ i. (sym p.spread i, sym p.idle i))
      (record {
        once = h.once;
        can = subst (λ ms. Each (λ c. CanShow (slice_get ms c)) f.spread.touched.items) (sym p.matchers) h.can;
        intake_room = subst (λ ms. HasRoom (sum_by (λ c. length (brought_in ms c)) f.spread.touched.items) m.intakes) (sym p.matchers) (room (sum_by (λ c. length (brought_in f.intakes.matchers.items c)) f.spread.touched.items) h.intake_room);
        within = h.within;
        levels = subst (λ ms. Each (λ c. IsLevelled (slice_get ms c) (of_step f.idle.steps c)) f.spread.touched.items) (sym p.matchers) h.levels;
        good_room = subst (λ ms. Each (λ c. count_by (λ q. not (faulty_ahead_at (slice_get ms c) q)) (job_places (brought_in ms c)) ≤ (of_step f.idle.steps c).good_room) f.spread.touched.items) (sym p.matchers) h.good_room;
        faulty_room = subst (λ ms. Each (λ c. count_by (faulty_ahead_at (slice_get ms c)) (job_places (brought_in ms c)) ≤ (of_step f.idle.steps c).faulty_room) f.spread.touched.items) (sym p.matchers) h.faulty_room;
        numbers = subst (λ ms. sum_by (λ c. jobs_among (brought_in ms c)) f.spread.touched.items ≤ f.idle.room) (sym p.matchers) h.numbers;
      })

  pub turn-ready : (w : Wiring) (n : ℕ) → (f.ahead.whole ≡ true → CanTurnWhole w n f.endings) → m.ahead.whole ≡ true → CanTurnWhole w n m.endings
  turn-ready w n h t = subst (CanTurnWhole w n) (sym p.endings) (h (sym p.whole ∙ t))

  module _ (plan : FlowPlan) (pool after : Nodes) (g : Frame) (v : View) (n : ℕ) (s : Name × Step) (e : Event)
      (regions : KeepsRegions pool after (number_of f.region)) (stand : Stand after m.outputs f.region) (deep : depths m.outputs ≡ depths f.outputs)
      (put : ArePut v s e (first_tree v.flow.steps n) (known pool f.outputs) (known after m.outputs))
      (left_is : (c : ℕ) (t : Name × Step) → IsStepAt v c t → IsLeft e t.0 (things_of c (waiting_things f.intakes)) (things_of c left))
      (h : IsShown plan.wiring n m g) where
    made : MakeAll f.spread.touched.items f.intakes g.intakes
    made =
        let t : MakeAll f.spread.touched.items m.intakes g.intakes = subst (λ (x : Spread). MakeAll x.touched.items m.intakes g.intakes) p.spread h.made in
        record {
          made = subst (λ ms. Each (λ c. IsMadeAt (slice_get ms c) (matcher_at g.intakes c)) f.spread.touched.items) p.matchers t.made;
          others = λ c o. t.others c o ∙ ap (λ ms. slice_get ms c) p.matchers;
        }

    pub is-after : IsAfter plan pool after f g v n s e left
    is-after = record {
      region = h.region ∙ p.region;
      tables = h.tables ∙ p.tables;
      inputs = h.inputs ∙ p.inputs;
      faulty_inputs = h.faulty_inputs ∙ p.faulty_inputs;
      regions = regions;
      stand = subst (λ o. Stand after o f.region) (sym h.outputs) stand;
      deep = ap depths h.outputs ∙ deep;
      put = subst (λ o. ArePut v s e (first_tree v.flow.steps n) (known pool f.outputs) (known after o)) (sym h.outputs) put;
      made = made;
      jobs =
          h.jobs
          ∙ (λ i. map (λ x. placed (thing_in (p.matchers i) x)) (p.jobs i) ++ flat_map (λ c. map (λ q. (c, q)) (job_places (brought_in (p.matchers i) c))) (p.spread i).touched.items);
      waiting = h.waiting ∙ (λ i. p.waits i ++ flat_map (λ c. map (λ o. (c, o)) (others_among (brought_in (p.matchers i) c))) (p.spread i).touched.items);
      left_is = left_is;
      idle =
          h.idle
          ∙ (λ i. with_all_new (λ (x : ℕ × Place). faulty_ahead_at (slice_get (p.matchers i) x.0) x.1) (flat_map (λ c. map (λ q. (c, q)) (job_places (brought_in (p.matchers i) c))) (p.spread i).touched.items) (p.idle i));
      intaken = h.intaken;
      marked = subst (λ (x : Bool × Endings). IsMarked x.0 plan.wiring n x.1 g.endings) (λ i. (p.whole i, p.endings i)) h.marked;
      outs = h.outs ∙ (λ i. outs_after (p.outs_ahead i) (p.outs i));
    }

-- ---- the frame that goes on

pub goes-on :
    (flows : List (Name × Flow)) (plan : FlowPlan) (pool after : Nodes) (f g : Frame) (v : View) (n : ℕ) (s : Name × Step) (e : Event) (left : List (ℕ × Outcome))
    → IsReadyFor flows plan pool f v n s e → IsRunning v e → IsAfter plan pool after f g v n s e left → GoesOn flows plan after g v e
goes-on flows plan pool after f g v n s e left r runs a =
    goes-on-so flows plan pool after f g v n s e left r a
    (subst (AreIdle (view flows plan pool after f g v n s e left r a) g.intakes) (sym a.idle)
    (are-idle flows v e f.spread.touched.items f.intakes g.intakes f.idle a.made
    (record {
      wired = kept-wired flows plan pool f v r.keeps;
      tells = r.next.tells;
      runs = runs;
      sound = r.keeps.intaken;
      can = r.show.can;
      within = within-steps flows plan pool after f g v n s e left r a;
      as_many = r.keeps.as_many;
      jobs_are = r.keeps.jobs_are;
      jobs = a.jobs;
      before = r.keeps.idle_are;
      told = λ c. told_by (matcher_at f.intakes c);
      after = λ c. told_by (matcher_at g.intakes c);
      os = λ c. followed_by (matcher_at f.intakes c);
      brought = is-brought flows plan pool after f g v n s e left r a;
    })))

-- of a result all that waited is left
pub all-left : (v : View) (s : Name) (q : Place) (vs : List Value) (i : Intakes) (c : ℕ) (t : Name × Step) → IsStepAt v c t → IsLeft (gave s q vs) t.0 (things_of c (waiting_things i)) (things_of c (waiting_things i))
all-left v s q vs i c t at = IsPermutation-refl (things_of c (waiting_things i))
