-- A frame that has worked an event ahead is ready to show it.
use Rattle.std.specs.Prelude.{◌≡◌, refl, ℕ, suc, ◌+◌, ◌==◌, ◌<◌, ◌≤◌, List, [], length, Some, slice_get, slice_index_or, unwrap_or}
use Rattle.std.proofs.Common.{sym, ap, subst, ◌∙◌, arith}
use Rattle.std.proofs.lemmas.Bool.{le-ltb}
use Rattle.std.proofs.lemmas.List.{length-map}
use Rattle.tv_value.specs.Nested.{Place, list, no_trees}
use Rattle.tv_value.specs.Values.{Name, Value, holds_fault}
use Rattle.tv_flow.specs.Flows.{Flow, Step}
use Rattle.tv_parts.specs.Changes.{CanArrive, CanClose, arrive, close_at}
use Rattle.tv_parts.specs.Partials.{HoldsFaults, Partial}
use Rattle.tv_cell.specs.declared.piece.Piece.{Piece}
use Rattle.tv_cell.specs.PieceValues.{piece_value, piece_values}
use Rattle.tv_check.specs.declared.plans.FlowPlan.{FlowPlan}
use Rattle.tv_stream.specs.Trees.{least_whole}
use Rattle.tv_outputs.specs.Changes.{AllCanArrive, AllCanClose, AreMarked, Counted, least_or_past, no_value}
use Rattle.tv_outputs.specs.Known.{Nodes, depth_in, depths, known, needed, tree_in}
use Rattle.tv_outputs.proofs.Counts.{counts-mark}
use Rattle.tv_intake.specs.Intaken.{matcher_at}
use Rattle.tv_spread.specs.Spreads.{CanShowAll, new_count}
use Rattle.tv_telling.specs.declared.ways.Event as code
use Rattle.tv_telling.specs.Views.{HasPiece}
use Rattle.tv_model.specs.instance.Events as events
use Rattle.tv_model.specs.instance.Events.{Event, event_place, event_step, gave}
use Rattle.tv_framing.specs.Answers.{CanSettle, has_ended_now}
use Rattle.tv_framing.specs.Frames.{with_event}
use Rattle.tv_framing.specs.Views.{View}
use Rattle.tv_framing.specs.ways.Stated.{IsFrom}
use Rattle.tv_framing.specs.keeping.NextEvents.{IsNextEvent}
use Rattle.tv_framing.proofs.keeping.LawLemmas.{results-may_come, settlements-may_come}
use Rattle.tv_framing.specs.matches.Steps.{IsStepAt}
use Rattle.tv_framing.proofs.matches.LawLemmas.{given-goes_on}
use Rattle.tv_framing.specs.feeds.Fed.{newly}
use Rattle.tv_framing.specs.feeds.Seen.{IsCodeOf}
use Rattle.tv_frame.specs.declared.frame.Ahead.{Ahead}
use Rattle.tv_frame.specs.declared.frame.Frame.{Frame}
use Rattle.tv_frame.specs.Calls.{Brings}
use Rattle.tv_frame.specs.Kept.{AreOuts, Keeps}
use Rattle.tv_frame.specs.Prepared.{AreCounted, HasSameHeld, HasSameParts, IsComing, IsHeld, IsReadyFor, IsToldWith, MayGive, is_one_of}
use Rattle.tv_frame.specs.Tables.{first_tree, levels_in, trees_of}
use Rattle.tv_frame.proofs.Bringing.{ready-brings}
use Rattle.tv_frame.proofs.Coming.{closing-faultless, counts-of, first-value, given-faultless, given-many, is-coming, value-of}
use Rattle.tv_frame.proofs.Keeping.{keeps-ahead, kept-ranked}
use Rattle.tv_frame.proofs.Putting.{all-arrive, all-close, can-put, depth-here, one-tree, outputs-few, past-is_from, right-length, trees-there, turns-at}

-- ---- once it is worked ahead

-- f with its room is g once the steps that are fed hold what they are told, and h with the flow's outputs
pub record IsWorked (flows : List (Name × Flow)) (plan : FlowPlan) (pool : Nodes) (f g h : Frame) (v : View) (n : ℕ) (s : Name × Step) (e : Event) (from : ℕ) : Type 0 where
  pub keeps : Keeps flows plan pool h v
  pub next : IsNextEvent flows (levels_in v.flow) v e
  pub at : IsStepAt v n s
  pub named : event_step e ≡ s.0
  pub room : needed (depths f.outputs) (first_tree v.flow.steps n) (trees_of s) ≤ pool.spare
  pub turns : IsFrom (newly (levels_in v.flow) v e) (event_place e) from
  pub parts : HasSameParts f g
  pub held : IsHeld v e g
  pub whole : g.ahead.whole ≡ (from == 0)
  pub later : HasSameParts g h
  pub same : HasSameHeld g h
  pub outs : AreOuts (with_event v e []) (has_ended_now (levels_in v.flow) (with_event v e [])) h.ahead.outs

-- with the counts of faults put beside what was found ahead
module _ (flows : List (Name × Flow)) (plan : FlowPlan) (pool : Nodes) (f g h : Frame) (v : View) (n : ℕ) (s : Name × Step) (e : Event) (from : ℕ) (w : IsWorked flows plan pool f g h v n s e from) where
  pub worked-ready : (a : Ahead) → a.whole ≡ h.ahead.whole → a.outs ≡ h.ahead.outs → AreCounted s e a.faults.items → IsReadyFor flows plan pool (record h { ahead = a }) v n s e
  worked-ready a whole outs counted = record {
    keeps = keeps-ahead flows plan pool h v a w.keeps;
    next = w.next;
    at = w.at;
    named = w.named;
    room = subst (λ o. needed (depths o) (first_tree v.flow.steps n) (trees_of s) ≤ pool.spare) (sym (w.later.outputs ∙ w.parts.outputs)) w.room;
    from = from;
    turns = w.turns;
    whole = whole ∙ w.same.whole ∙ w.whole;
    told =
        λ c t a.
        subst (λ sp. IsToldWith v e t (is_one_of sp.touched.items c) (matcher_at h.intakes c)) (sym w.same.spread)
        (subst (λ i. IsToldWith v e t (is_one_of g.spread.touched.items c) (matcher_at i c)) (sym w.same.intakes) (w.held.told c t a));
    show =
        subst (λ sp. CanShowAll sp.touched.items h.intakes h.idle) (sym w.same.spread)
        (subst (λ i. CanShowAll g.spread.touched.items i h.idle) (sym w.same.intakes)
        (subst (λ d. CanShowAll g.spread.touched.items g.intakes d) (sym w.same.idle) w.held.show));
    outs = subst (AreOuts (with_event v e []) (has_ended_now (levels_in v.flow) (with_event v e []))) (sym outs) w.outs;
    counted = counted;
  }

-- so many jobs as it counted before the outputs were found
pub counts-new :
    (flows : List (Name × Flow)) (plan : FlowPlan) (pool : Nodes) (g h : Frame) (a : Ahead) (v : View) (n : ℕ) (s : Name × Step) (e : Event) → HasSameHeld g h
    → IsReadyFor flows plan pool (record h { ahead = a }) v n s e → (jobs : ℕ) → jobs ≡ new_count g.intakes g.spread.touched.items → Brings v e jobs
counts-new flows plan pool g h a v n s e same ready jobs counted =
    subst (Brings v e)
    (ap (λ sp. new_count h.intakes sp.touched.items) same.spread ∙ ap (λ i. new_count i g.spread.touched.items) same.intakes ∙ sym counted)
    (ready-brings flows plan pool (record h { ahead = a }) v n s e ready)

-- ---- before: a job's result

module _ (flows : List (Name × Flow)) (plan : FlowPlan) (pool : Nodes) (f : Frame) (v : View) (n : ℕ) (s : Name × Step) (k : Keeps flows plan pool f v) (at : IsStepAt v n s) (q : Place) (ps : List Piece) (may : MayGive v s q (piece_values ps)) where
  abbrev result : Event
  result = gave s.0 q (piece_values ps)

  abbrev levels : Name → ℕ
  levels = levels_in v.flow

  pub result-next : IsNextEvent flows levels v result
  result-next =
      results-may_come flows levels v k.frame k.of_depths s.0 q (piece_values ps) may.known may.new
      (given-goes_on flows levels v (kept-ranked flows plan pool f v k) k.frame.given n s at q (piece_values ps) may.right may.new)

  result-many : length ps ≡ length s.1.outputs
  result-many = given-many s ps may.right

  result-short : length q ≤ levels s.0
  result-short = let l : length q ≡ levels s.0 = right-length flows plan pool f v n s k at result result-next refl in omega (arith, l)

  result-can : (i : ℕ) → i < trees_of s → CanArrive q (tree_in (known pool f.outputs) (first_tree v.flow.steps n + i))
  result-can = can-put flows plan pool f v n s k at result result-next refl

  -- the number of the step's first tree
  module _ (first : ℕ) (is_first : first ≡ first_tree v.flow.steps n) where
    pub result-arrives : AllCanArrive first (length ps) q (depths f.outputs) (known pool f.outputs)
    result-arrives =
        let few : length ps ≤ trees_of s = subst (λ m. m ≤ trees_of s) (sym result-many) (outputs-few (length s.1.outputs)) in
        subst (λ x. AllCanArrive x (length ps) q (depths f.outputs) (known pool f.outputs)) (sym is_first)
        (all-arrive (first_tree v.flow.steps n) (length ps) (trees_of s) (levels s.0) q (depths f.outputs) (known pool f.outputs) few (trees-there flows plan pool f v n s k at) (depth-here flows plan pool f v n s k at) result-short result-can)

    pub result-there : first < length (known pool f.outputs)
    result-there =
        let t = trees-there flows plan pool f v n s k at in
        let o = one-tree (length s.1.outputs) in
        omega (arith, is_first, t, o)

    first-here : first ≡ first_tree v.flow.steps n + 0
    first-here = omega (arith, is_first)

    pub result-first_short : length q ≤ depth_in (depths f.outputs) first
    result-first_short =
        subst (λ x. length q ≤ depth_in (depths f.outputs) x) (sym first-here)
        (subst (λ d. length q ≤ d) (sym (depth-here flows plan pool f v n s k at 0 (one-tree (length s.1.outputs)))) result-short)

    pub result-first_can : CanArrive q (tree_in (known pool f.outputs) first)
    result-first_can = subst (λ x. CanArrive q (tree_in (known pool f.outputs) x)) (sym first-here) (result-can 0 (one-tree (length s.1.outputs)))

    pub result-turns : (from : ℕ) → ((x : Piece) → least_whole q (arrive q (piece_value x) (tree_in (known pool f.outputs) first)) ≡ Some from) → IsFrom (newly levels v result) q from
    result-turns from h =
        let x = first-value ps in
        turns-at flows plan pool f v n s k at result result-next refl from
        (ap (λ o. unwrap_or o (suc (length q)))
        (ap (λ w. least_whole q (arrive q w (tree_in (known pool f.outputs) (first_tree v.flow.steps n + 0)))) (sym x.1)
        ∙ ap (λ y. least_whole q (arrive q (piece_value x.0) (tree_in (known pool f.outputs) y))) (sym first-here)
        ∙ h x.0))

    -- its counts say which of the values hold a fault
    pub result-marked : (ns : List ℕ) → Counted (length ps) q [] ns (λ i. arrive q (slice_index_or (piece_values ps) i no_value) (tree_in (known pool f.outputs) (first + i))) → AreMarked q (piece_values ps) ns
    result-marked ns counted = counts-mark q first ps (depths f.outputs) (known pool f.outputs) ns result-arrives counted

    pub result-coming :
        (c : code.Event) → IsCodeOf result c
        → ((x : Piece) → least_whole q (arrive q (piece_value x) (tree_in (known pool f.outputs) first)) ≡ Some c.whole_from)
        → ((i : ℕ) → i < length ps → HasPiece c.happened i)
        → Counted (length ps) q [] c.faults.now (λ i. arrive q (slice_index_or (piece_values ps) i no_value) (tree_in (known pool f.outputs) (first + i)))
        → IsComing flows v n s result c
    result-coming c coded whole piece counted =
        let h = counts-of (length ps) q c.faults.now (λ i. arrive q (slice_index_or (piece_values ps) i no_value) (tree_in (known pool f.outputs) (first + i))) counted in
        let marked = result-marked c.faults.now counted in
        is-coming flows plan pool f v n s k at result result-next refl c coded (result-turns c.whole_from whole) (h.0 ∙ result-many)
        (λ i lt. piece i (subst (λ m. i < m) (sym result-many) lt))
        (λ i lt.
        let inside : i < length ps = subst (λ m. i < m) (sym result-many) lt in
        subst (λ x. HoldsFaults q (arrive q (unwrap_or (slice_get (piece_values ps) i) (list tt no_trees)) (tree_in (known pool f.outputs) (x + i))) (slice_index_or c.faults.now i 0)) is_first
        (subst (λ w. HoldsFaults q (arrive q w (tree_in (known pool f.outputs) (first + i))) (slice_index_or c.faults.now i 0))
        (value-of (piece_values ps) i (subst (λ m. i < m) (sym (length-map ps piece_value)) inside)) (h.1 i inside)))
        (λ i lt few.
        let among : i < length (piece_values ps) = subst (λ m. i < m) (sym (length-map ps piece_value ∙ result-many)) lt in
        given-faultless s.0 q (piece_values ps) c.happened coded.happened i
        (ap holds_fault (sym (value-of (piece_values ps) i among)) ∙ sym (marked.each i among) ∙ le-ltb (length q) (slice_index_or c.faults.now i 0) (subst (λ r. slice_index_or c.faults.now i 0 ≤ length r) coded.place few)))

-- ---- before: a list closed

module _ (flows : List (Name × Flow)) (plan : FlowPlan) (pool : Nodes) (f : Frame) (v : View) (n : ℕ) (s : Name × Step) (k : Keeps flows plan pool f v) (at : IsStepAt v n s) (q : Place) (size : ℕ) (can : CanSettle v (events.closed s.0 q size)) where
  abbrev closing : Event
  closing = events.closed s.0 q size

  abbrev its_levels : Name → ℕ
  its_levels = levels_in v.flow

  pub close-next : IsNextEvent flows its_levels v closing
  close-next = settlements-may_come flows its_levels v k.frame k.of_depths closing can

  close-short : length q < its_levels s.0
  close-short = right-length flows plan pool f v n s k at closing close-next refl

  close-can : (i : ℕ) → i < trees_of s → CanClose q size (tree_in (known pool f.outputs) (first_tree v.flow.steps n + i))
  close-can = can-put flows plan pool f v n s k at closing close-next refl

  module _ (first : ℕ) (is_first : first ≡ first_tree v.flow.steps n) where
    pub close-all : AllCanClose first (length s.1.outputs) q size (depths f.outputs) (known pool f.outputs)
    close-all =
        subst (λ x. AllCanClose x (length s.1.outputs) q size (depths f.outputs) (known pool f.outputs)) (sym is_first)
        (all-close (first_tree v.flow.steps n) (length s.1.outputs) (trees_of s) (its_levels s.0) size q (depths f.outputs) (known pool f.outputs) (outputs-few (length s.1.outputs)) (trees-there flows plan pool f v n s k at) (depth-here flows plan pool f v n s k at) close-short close-can)

    pub close-there : first < length (known pool f.outputs)
    close-there =
        let t = trees-there flows plan pool f v n s k at in
        let o = one-tree (length s.1.outputs) in
        omega (arith, is_first, t, o)

    here : first ≡ first_tree v.flow.steps n + 0
    here = omega (arith, is_first)

    pub close-first_short : length q < depth_in (depths f.outputs) first
    close-first_short =
        subst (λ x. length q < depth_in (depths f.outputs) x) (sym here)
        (subst (λ d. length q < d) (sym (depth-here flows plan pool f v n s k at 0 (one-tree (length s.1.outputs)))) close-short)

    pub close-first_can : CanClose q size (tree_in (known pool f.outputs) first)
    close-first_can = subst (λ x. CanClose q size (tree_in (known pool f.outputs) x)) (sym here) (close-can 0 (one-tree (length s.1.outputs)))

    pub close-turns : (from : ℕ) → from ≡ least_or_past q (least_whole q (close_at q size (tree_in (known pool f.outputs) first))) → IsFrom (newly its_levels v closing) q from
    close-turns from h =
        let tree : ℕ → Partial Value = λ x. close_at q size (tree_in (known pool f.outputs) x) in
        turns-at flows plan pool f v n s k at closing close-next refl from
        (sym (past-is_from q (tree (first_tree v.flow.steps n + 0)))
        ∙ ap (λ x. least_or_past q (least_whole q (tree x))) (sym here)
        ∙ sym h)

    pub close-coming :
        (c : code.Event) → IsCodeOf closing c
        → c.whole_from ≡ least_or_past q (least_whole q (close_at q size (tree_in (known pool f.outputs) first)))
        → ((i : ℕ) → HasPiece c.happened i)
        → Counted (length s.1.outputs) q [] c.faults.now (λ i. close_at q size (tree_in (known pool f.outputs) (first + i)))
        → IsComing flows v n s closing c
    close-coming c coded whole piece counted =
        let h = counts-of (length s.1.outputs) q c.faults.now (λ i. close_at q size (tree_in (known pool f.outputs) (first + i))) counted in
        is-coming flows plan pool f v n s k at closing close-next refl c coded (close-turns c.whole_from whole) h.0 (λ i lt. piece i)
        (λ i lt. subst (λ x. HoldsFaults q (close_at q size (tree_in (known pool f.outputs) (x + i))) (slice_index_or c.faults.now i 0)) is_first (h.1 i lt))
        (λ i lt few. closing-faultless s.0 q size c.happened coded.happened i)
