-- A frame goes on with an event: what it keeps once the event is in its trees, and what the touched steps held is shown.
use Rattle.std.specs.List.{list_all}
use Rattle.std.specs.Prelude.{◌≡◌, refl, ℕ, zero, suc, ◌<◌, ◌==◌, Bool, true, false, if◌then◌else◌, List, [], ◌∷◌, ◌++◌, length, map, IsPermutation, Option, Some, None, slice_set}
use Rattle.std.proofs.Common.{sym, ap, subst, ◌∙◌}
use Rattle.std.proofs.lemmas.List.Sorted.{IsPermutation-refl, length_permutation}
use Rattle.std.proofs.lemmas.Bool.{true≢false}
use Rattle.std.proofs.lemmas.List.{map-append}
use Rattle.tv_lemmas.specs.Members.{Each}
use Rattle.tv_value.specs.Nested.{Place}
use Rattle.tv_value.specs.Values.{Name, holds_fault}
use Rattle.tv_flow.specs.Flows.{Flow, Step}
use Rattle.tv_matching.specs.Matchers.{Outcome}
use Rattle.tv_matching.specs.Told.{Told}
use Rattle.tv_pool.specs.Pool.{IsLive, number_of}
use Rattle.tv_stream.specs.nodes.Calls.{KeepsRegions}
use Rattle.tv_cell.specs.declared.piece.Piece.{Piece}
use Rattle.tv_cell.specs.PieceValues.{piece_values}
use Rattle.tv_cell.specs.Soundness.{AreSound}
use Rattle.tv_check.specs.declared.plans.FlowPlan.{FlowPlan}
use Rattle.tv_check.specs.Plans as plans
use Rattle.tv_check.specs.declared.wiring.Wiring.{Wiring}
use Rattle.tv_check.specs.Wirings.{all_after, wiring}
use Rattle.tv_telling.specs.declared.endings.endings.Endings.{Endings}
use Rattle.tv_telling.specs.endings.Ends.{IsSound}
use Rattle.tv_outputs.specs.Known.{Nodes, depths, known}
use Rattle.tv_outputs.specs.Kept.{Stand}
use Rattle.tv_intake.specs.Intaken.{AreIntaken, known_jobs, matcher_at, waiting_things}
use Rattle.tv_intake.specs.Sorting.{others_among}
use Rattle.tv_spread.specs.Spreads.{MakeAll, binds_fault, new_jobs, new_things, with_all_new}
use Rattle.tv_model.specs.instance.Events.{Event}
use Rattle.tv_framing.specs.Answers.{has_ended_now}
use Rattle.tv_framing.specs.Frames.{AreNewWith, IsFrame, with_event}
use Rattle.tv_framing.specs.Views.{View}
use Rattle.tv_framing.specs.engine.EndedSteps.{AreEndingsOf}
use Rattle.tv_framing.specs.engine.WiredFlows.{IsWired}
use Rattle.tv_framing.proofs.engine.Steps.{all-have_ended}
use Rattle.tv_framing.specs.matches.Stated.{IsBrought}
use Rattle.tv_framing.specs.matches.Steps.{IsStepAt, IsStepTold}
use Rattle.tv_framing.specs.matches.Waiting.{IsLeft, waiting_of}
use Rattle.tv_framing.proofs.matches.LawLemmas.{new_jobs-are_brought, waiting-goes_on}
use Rattle.tv_framing.specs.feeds.Fed.{event_number}
use Rattle.tv_framing.proofs.feeds.Coming.{next-makes_frame}
use Rattle.tv_framing.proofs.feeds.WholeSteps.{endings-go_on}
use Rattle.tv_frame.specs.declared.frame.Frame.{Frame}
use Rattle.tv_frame.specs.Calls.{Brings, GoesOn}
use Rattle.tv_frame.specs.Kept.{AreIdle, AreInputsOf, AreOuts, AreWaiting, Keeps, followed_by, named_job, things_of}
use Rattle.tv_frame.specs.Prepared.{IsReadyFor}
use Rattle.tv_frame.specs.Shown.{IsMarked, outs_after}
use Rattle.tv_frame.specs.Tables.{AreTables, first_tree, levels_in}
use Rattle.tv_frame.proofs.Keeping.{kept-ranked, kept-wired}
use Rattle.tv_frame.proofs.TreesPut.{ArePut, number-is, trees-go}
use Rattle.tv_frame.proofs.Shown.{as-many, brings, follows-more, jobs-brought, matcher-goes, things-brought}
use Rattle.tv_frame.proofs.Bringing.{told-before, told_by}

-- the frame g is f after event e of step n, which is s: of the things that waited these are left
pub record IsAfter (plan : FlowPlan) (pool after : Nodes) (f g : Frame) (v : View) (n : ℕ) (s : Name × Step) (e : Event) (left : List (ℕ × Outcome)) : Type 0 where
  pub region : g.region ≡ f.region
  pub tables : g.tables ≡ f.tables
  pub inputs : g.inputs ≡ f.inputs
  pub faulty_inputs : g.faulty_inputs.items ≡ f.faulty_inputs.items
  pub regions : KeepsRegions pool after (number_of f.region)
  pub stand : Stand after g.outputs f.region
  pub deep : depths g.outputs ≡ depths f.outputs
  pub put : ArePut v s e (first_tree v.flow.steps n) (known pool f.outputs) (known after g.outputs)
  pub made : MakeAll f.spread.touched.items f.intakes g.intakes
  pub jobs : known_jobs g.intakes ≡ known_jobs f.intakes ++ new_jobs f.intakes f.spread.touched.items
  pub waiting : waiting_things g.intakes ≡ left ++ new_things f.intakes f.spread.touched.items
  pub left_is : (c : ℕ) (t : Name × Step) → IsStepAt v c t → IsLeft e t.0 (things_of c (waiting_things f.intakes)) (things_of c left)
  pub idle : g.idle ≡ with_all_new (binds_fault f.intakes) (new_jobs f.intakes f.spread.touched.items) f.idle
  pub intaken : AreIntaken g.intakes
  pub marked : IsMarked f.ahead.whole plan.wiring n f.endings g.endings
  pub outs : g.outs ≡ outs_after f.ahead.outs f.outs

-- ---- the plan's wiring

pub plan-wiring : (flows : List (Name × Flow)) (plan : FlowPlan) (pool : Nodes) (f : Frame) (v : View) → Keeps flows plan pool f v → plan.wiring ≡ wiring v.flow
plan-wiring flows plan pool f v k = ap (λ (p : plans.FlowPlan). p.wiring) plan.kept.0 ∙ ap wiring (sym k.flow_is)

-- ---- outputs

set-all : (bs : List Bool) (n : ℕ) → list_all (λ b. b) bs ≡ true → list_all (λ b. b) (slice_set bs n true) ≡ true
set-all [] n h = refl
set-all (true ∷ bs) zero h = h
set-all (false ∷ bs) zero h = absurd (cc)
set-all (true ∷ bs) (suc n) h = set-all bs n h
set-all (false ∷ bs) (suc n) h = absurd (cc)

module _ (flows : List (Name × Flow)) (plan : FlowPlan) (pool after : Nodes) (f g : Frame) (v : View) (n : ℕ) (s : Name × Step) (e : Event) (left : List (ℕ × Outcome)) (r : IsReadyFor flows plan pool f v n s e) (a : IsAfter plan pool after f g v n s e left) where
  k : Keeps flows plan pool f v
  k = r.keeps

  abbrev levels : Name → ℕ
  levels = levels_in v.flow

  abbrev touched : List ℕ
  touched = f.spread.touched.items

  wired : IsWired v.flow
  wired = kept-wired flows plan pool f v k

  -- ---- jobs

  abbrev pub news : List (Name × Place)
  news = map (named_job v.flow) (new_jobs f.intakes touched)

  abbrev pub brought : ℕ → List Outcome
  brought = brings touched f.intakes g.intakes a.made

  abbrev pub view : View
  view = with_event v e news

  abbrev told : ℕ → List Told
  told c = told_by (matcher_at f.intakes c)

  abbrev before : ℕ → List Told
  before c = told_by (matcher_at g.intakes c)

  abbrev os : ℕ → List Outcome
  os c = followed_by (matcher_at f.intakes c)

  pub is-brought : IsBrought flows levels v e told before os brought
  is-brought = record {
    next = r.next;
    of_flow = kept-ranked flows plan pool f v k;
    before_it = λ c t at. told-before v t (matcher_at f.intakes c) (k.matchers_are c t at) (k.intaken.sound c);
    after_it = λ c t at.
        subst (IsStepTold (with_event v e []) t (before c)) (sym (follows-more touched f.intakes g.intakes a.made c))
        (told-before (with_event v e []) t (matcher_at g.intakes c) (matcher-goes touched f.intakes g.intakes a.made v e [] c t (k.matchers_are c t at) (r.told c t at)) (a.intaken.sound c));
  }

  pub within-steps : Each (λ c. c < length v.flow.steps) touched
  within-steps = subst (λ m. Each (λ c. c < m) touched) k.idle_are.as_many r.show.within

  comes : AreNewWith v e news × IsFrame view
  comes =
      new_jobs-are_brought flows levels v e told before os brought is-brought news
      (subst (IsPermutation news) (jobs-brought touched f.intakes g.intakes a.made v.flow r.show.once within-steps) (IsPermutation-refl news))

  pub are-new : AreNewWith v e news
  are-new = comes.0

  brings-so : Brings v e (length news)
  brings-so = λ instance results depth x. length_permutation _ _ (are-new instance results depth x)

  -- ---- field by field

  inputs-go : AreInputsOf view g.inputs g.faulty_inputs.items
  inputs-go = record {
    names = k.inputs_are.names;
    values = k.inputs_are.values ∙ ap piece_values (sym a.inputs);
    sound = subst AreSound (sym a.inputs) k.inputs_are.sound;
    marked = a.faulty_inputs ∙ k.inputs_are.marked ∙ ap (λ ps. map holds_fault (piece_values ps)) (sym a.inputs);
  }

  after-is : plan.wiring.after ≡ all_after v.flow
  after-is = ap (λ (w : Wiring). w.after) (plan-wiring flows plan pool f v k)

  module _ (from : ℕ) (whole : f.ahead.whole ≡ (from == 0)) where
    sound-after : (b : Bool) → IsMarked b plan.wiring n f.endings g.endings → IsSound (all_after v.flow) g.endings
    sound-after true m = subst (λ w. IsSound w g.endings) after-is m.sound
    sound-after false m = subst (IsSound (all_after v.flow)) (sym m) k.endings_are.sound

    marks-after : (b : Bool) → IsMarked b plan.wiring n f.endings g.endings → g.endings.whole.items ≡ (if b then slice_set f.endings.whole.items n true else f.endings.whole.items)
    marks-after true m = m.marked
    marks-after false m = ap (λ (x : Endings). x.whole.items) m

    all-stay : (b : Bool) → IsMarked b plan.wiring n f.endings g.endings → list_all (λ c. c) f.endings.whole.items ≡ true → list_all (λ c. c) g.endings.whole.items ≡ true
    all-stay true m h = ap (list_all (λ c. c)) m.marked ∙ set-all f.endings.whole.items n h
    all-stay false m h = ap (λ (x : Endings). list_all (λ c. c) x.whole.items) m ∙ h

  number-so : n ≡ event_number v e
  number-so = sym (number-is flows plan pool f v n s k r.at e r.next r.named)

  endings-go : AreEndingsOf v.flow levels (e ∷ v.events) g.endings
  endings-go =
      let m = endings-go_on flows levels v e r.next wired r.from r.turns f.endings k.endings_are in
      m.after g.endings (sound-after r.from r.whole f.ahead.whole a.marked)
      (marks-after r.from r.whole f.ahead.whole a.marked
      ∙ (λ i. if r.whole i then slice_set f.endings.whole.items (number-so i) true else f.endings.whole.items))

  ended-stays : has_ended_now levels v ≡ true → has_ended_now levels view ≡ true
  ended-stays h =
      sym (all-have_ended v.flow wired levels (e ∷ v.events) g.endings endings-go)
      ∙ all-stay r.from r.whole f.ahead.whole a.marked (all-have_ended v.flow wired levels v.events f.endings k.endings_are ∙ h)

  outs-go : AreOuts view (has_ended_now levels view) g.outs
  outs-go = subst (AreOuts view (has_ended_now levels view)) (sym a.outs) (by f.ahead.outs r.outs)
    where
      still : (o : Option (List Piece)) → AreOuts v (has_ended_now levels v) o → has_ended_now levels view ≡ false → AreOuts view (has_ended_now levels view) o
      still None h going = going
      still (Some ps) h going = absurd (true≢false (sym (ended-stays h.0) ∙ going))

      by : (o : Option (List Piece)) → AreOuts (with_event v e []) (has_ended_now levels (with_event v e [])) o → AreOuts view (has_ended_now levels view) (outs_after o f.outs)
      by None h = still f.outs k.outs_are h
      by (Some ps) h = h

  jobs-go : v.jobs ++ news ≡ map (named_job v.flow) (known_jobs g.intakes)
  jobs-go =
      ap (λ l. l ++ news) k.jobs_are
      ∙ sym (map-append (named_job v.flow) (known_jobs f.intakes) (new_jobs f.intakes touched))
      ∙ ap (map (named_job v.flow)) (sym a.jobs)

  waiting-go : AreWaiting view (matcher_at g.intakes) (waiting_things g.intakes)
  waiting-go c t at =
      subst (λ xs. IsPermutation (things_of c xs) (waiting_of (e ∷ v.events) t.0 (followed_by (matcher_at g.intakes c)))) (sym a.waiting)
      (subst (λ us. IsPermutation us (waiting_of (e ∷ v.events) t.0 (followed_by (matcher_at g.intakes c)))) (sym (things-brought touched f.intakes g.intakes a.made r.show.once c left))
      (subst (λ us. IsPermutation (things_of c left ++ others_among (brought c)) (waiting_of (e ∷ v.events) t.0 us)) (follows-more touched f.intakes g.intakes a.made c)
      (waiting-goes_on flows levels v e told before os brought is-brought c t at (things_of c (waiting_things f.intakes)) (things_of c left) (k.waiting_are c t at) (a.left_is c t at))))

  -- ---- all of it

  pub keeps-on : AreIdle view g.intakes g.idle → Keeps flows plan after g view
  keeps-on idle = record {
    flow_is = k.flow_is;
    frame = comes.1;
    of_depths = (next-makes_frame flows levels v e r.next news are-new).depths;
    inputs_are = inputs-go;
    tables_are = subst (AreTables v.flow) (sym a.tables) k.tables_are;
    live = subst (IsLive after) (sym a.region) (a.regions.live f.region k.live);
    stand = subst (Stand after g.outputs) (sym a.region) a.stand;
    deep = a.deep ∙ k.deep;
    trees_are = trees-go flows plan pool f v n s k r.at e r.next r.named (known after g.outputs) news a.put;
    endings_are = endings-go;
    intaken = a.intaken;
    as_many = as-many touched f.intakes g.intakes a.made ∙ k.as_many;
    matchers_are = λ c t at. matcher-goes touched f.intakes g.intakes a.made v e news c t (k.matchers_are c t at) (r.told c t at);
    jobs_are = jobs-go;
    waiting_are = waiting-go;
    idle_are = idle;
    outs_are = outs-go;
  }

  pub goes-on-so : AreIdle view g.intakes g.idle → GoesOn flows plan after g v e
  goes-on-so idle = (
    view,
    length news,
    record { flow = refl; inputs = refl; events = refl; jobs = (news, refl, refl) },
    brings-so,
    keeps-on idle,
  )
