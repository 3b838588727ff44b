-- A fault that is passed: it arrives in each tree of its step, with the depth that the output has there.
use Rattle.std.specs.Prelude.{◌≡◌, refl, ℕ, zero, suc, ◌+◌, ◌<◌, ◌≤◌, List, [], ◌∷◌, length, take, Option, Some, slice_get, slice_index_or, unwrap_or}
use Rattle.std.proofs.Common.{sym, ap, subst, ◌∙◌, arith}
use Rattle.std.proofs.lemmas.List.{get_or-take, length-map, length-take-le}
use Rattle.std.proofs.lemmas.Option.{get_or_from_slice_get, none-some, same_Some}
use Rattle.tv_value.specs.Nested.{Place}
use Rattle.tv_value.specs.Values.{ErrorDoc, Name, Value, holds_fault}
use Rattle.tv_flow.specs.Flows.{Flow, Step}
use Rattle.tv_parts.specs.Changes.{CanArrive, arrive}
use Rattle.tv_cell.specs.declared.piece.Piece.{Piece}
use Rattle.tv_cell.specs.PieceValues.{piece_value, piece_values}
use Rattle.tv_check.specs.declared.plans.FlowPlan.{FlowPlan}
use Rattle.tv_stream.specs.Trees.{least_whole}
use Rattle.tv_outputs.specs.Changes.{AllCanArrive, Counted, no_value}
use Rattle.tv_parts.specs.Partials.{HoldsFaults}
use Rattle.tv_outputs.specs.Known.{Nodes, depth_in, depths, known, tree_in}
use Rattle.tv_outputs.proofs.Counts.{counts-mark}
use Rattle.tv_telling.specs.declared.ways.Event as code
use Rattle.tv_telling.specs.Views.{HasPiece}
use Rattle.tv_model.specs.instance.Events.{Event, fault_set}
use Rattle.tv_framing.specs.Answers.{CanSettle}
use Rattle.tv_framing.specs.Views.{View}
use Rattle.tv_framing.specs.ways.Stated.{IsFrom}
use Rattle.tv_framing.specs.keeping.NextEvents.{IsNextEvent}
use Rattle.tv_framing.specs.matches.Steps.{IsStepAt}
use Rattle.tv_framing.proofs.keeping.LawLemmas.{settlements-may_come}
use Rattle.tv_framing.specs.feeds.Fed.{newly}
use Rattle.tv_framing.specs.feeds.Seen.{IsCodeOf}
use Rattle.tv_frame.specs.declared.frame.Frame.{Frame}
use Rattle.tv_frame.specs.Calls.{ArePassed}
use Rattle.tv_frame.specs.Kept.{Keeps}
use Rattle.tv_frame.specs.Prepared.{AreCounted, IsComing, IsReadyFor, event_value}
use Rattle.tv_frame.specs.Tables.{first_tree, levels_in, trees_of}
use Rattle.tv_frame.proofs.Coming.{counts-of, is-coming, passing-faultless}
use Rattle.tv_frame.proofs.Keeping.{keeps-ahead}
use Rattle.tv_frame.proofs.Putting.{all-arrive, can-put, depth-here, one-tree, outputs-few, right-length, trees-there, turns-at}

-- ---- what is put aside

abbrev pub with_pieces : Frame → Option (List Piece) → Frame
with_pieces f ps = record f { ahead = record f.ahead { pieces = ps } }

pub keeps-aside : (flows : List (Name × Flow)) (plan : FlowPlan) (pool : Nodes) (f : Frame) (v : View) (ps : Option (List Piece)) → Keeps flows plan pool f v → Keeps flows plan pool (with_pieces f ps) v
keeps-aside flows plan pool f v ps k = keeps-ahead flows plan pool f v (record f.ahead { pieces = ps }) k

pub ready-aside : (flows : List (Name × Flow)) (plan : FlowPlan) (pool : Nodes) (f : Frame) (v : View) (n : ℕ) (s : Name × Step) (e : Event) (ps : Option (List Piece)) → IsReadyFor flows plan pool f v n s e → IsReadyFor flows plan pool (with_pieces f ps) v n s e
ready-aside flows plan pool f v n s e ps r = record {
  keeps = keeps-aside flows plan pool f v ps r.keeps;
  next = r.next;
  at = r.at;
  named = r.named;
  room = r.room;
  from = r.from;
  turns = r.turns;
  whole = r.whole;
  told = r.told;
  show = r.show;
  outs = r.outs;
  counted = r.counted;
}

-- ---- pieces by their values

piece-there : (ps : List Piece) (i : ℕ) (w : Value) → slice_get (piece_values ps) i ≡ Some w → (x : Piece) × (piece_value x ≡ w)
piece-there [] i w e = absurd (none-some w e)
piece-there (p ∷ ps) zero w e = (p, same_Some (piece_value p) w e)
piece-there (p ∷ ps) (suc i) w e = piece-there ps i w e

-- ---- the fault

module _ (flows : List (Name × Flow)) (plan : FlowPlan) (pool : Nodes) (f : Frame) (v : View) (n : ℕ) (s : Name × Step) (k : Keeps flows plan pool f v) (at : IsStepAt v n s) (q : Place) (d : ErrorDoc) (ps : List Piece) (can : CanSettle v (fault_set s.0 q d)) (passed : ArePassed v s q d ps) where
  abbrev passing : Event
  passing = fault_set s.0 q d

  abbrev levels : Name → ℕ
  levels = levels_in v.flow

  pub fault-next : IsNextEvent flows levels v passing
  fault-next = settlements-may_come flows levels v k.frame k.of_depths passing can

  fault-short : length q ≤ levels s.0
  fault-short = let l : length q < levels s.0 = right-length flows plan pool f v n s k at passing fault-next refl in omega (arith, l)

  fault-can : (i : ℕ) → i < trees_of s → CanArrive q (tree_in (known pool f.outputs) (first_tree v.flow.steps n + i))
  fault-can = can-put flows plan pool f v n s k at passing fault-next refl

  few-outputs : (i : ℕ) → i < length s.1.outputs → i < trees_of s
  few-outputs i lt = let o = outputs-few (length s.1.outputs) in omega (arith, lt, o)

  module _ (first : ℕ) (is_first : first ≡ first_tree v.flow.steps n) where
    pub fault-arrives : AllCanArrive first (length ps) q (depths f.outputs) (known pool f.outputs)
    fault-arrives =
        let many = passed.many in
        subst (λ x. AllCanArrive x (length ps) q (depths f.outputs) (known pool f.outputs)) (sym is_first)
        (all-arrive (first_tree v.flow.steps n) (length ps) (trees_of s) (levels s.0) q (depths f.outputs) (known pool f.outputs) (omega (arith, many)) (trees-there flows plan pool f v n s k at) (depth-here flows plan pool f v n s k at) fault-short fault-can)

    pub fault-there : first < length (known pool f.outputs)
    fault-there =
        let t = trees-there flows plan pool f v n s k at in
        let o = one-tree (length s.1.outputs) in
        omega (arith, is_first, t, o)

    here : first ≡ first_tree v.flow.steps n + 0
    here = omega (arith, is_first)

    pub fault-first_short : length q ≤ depth_in (depths f.outputs) first
    fault-first_short =
        subst (λ x. length q ≤ depth_in (depths f.outputs) x) (sym here)
        (subst (λ y. length q ≤ y) (sym (depth-here flows plan pool f v n s k at 0 (one-tree (length s.1.outputs)))) fault-short)

    pub fault-first_can : CanArrive q (tree_in (known pool f.outputs) first)
    fault-first_can = subst (λ x. CanArrive q (tree_in (known pool f.outputs) x)) (sym here) (fault-can 0 (one-tree (length s.1.outputs)))

    pub fault-turns : (from : ℕ) → ((x : Piece) → least_whole q (arrive q (piece_value x) (tree_in (known pool f.outputs) first)) ≡ Some from) → IsFrom (newly levels v passing) q from
    fault-turns from h =
        let x = piece-there ps 0 (event_value v s passing 0) (passed.each 0 (one-tree (length s.1.outputs))) in
        turns-at flows plan pool f v n s k at passing fault-next refl from
        (ap (λ o. unwrap_or o (suc (length q)))
        (ap (λ w. least_whole q (arrive q w (tree_in (known pool f.outputs) (first_tree v.flow.steps n + 0)))) (sym x.1)
        ∙ ap (λ y. least_whole q (arrive q (piece_value x.0) (tree_in (known pool f.outputs) y))) (sym here)
        ∙ h x.0))

    -- its counts say that each of the values holds a fault
    pub fault-counted : (all : List ℕ) → Counted (length ps) q [] all (λ i. arrive q (slice_index_or (piece_values ps) i no_value) (tree_in (known pool f.outputs) (first + i))) → AreCounted s passing all
    fault-counted all counted =
        let marked = counts-mark q first ps (depths f.outputs) (known pool f.outputs) all fault-arrives counted in
        let many = passed.many in
        let values = length-map ps piece_value in
        let enough = marked.many in (
          omega (arith, many, values, enough),
          λ k lt. marked.each k (omega (arith, lt, many, values)) ∙ ap holds_fault (get_or_from_slice_get (piece_values ps) k (event_value v s passing k) no_value (passed.each k lt)),
        )

    pub fault-coming :
        (c : code.Event) → IsCodeOf passing c
        → ((x : Piece) → least_whole q (arrive q (piece_value x) (tree_in (known pool f.outputs) first)) ≡ Some c.whole_from)
        → ((i : ℕ) → HasPiece c.happened i)
        → (all : List ℕ) → c.faults.now ≡ take (length s.1.outputs) all
        → Counted (length ps) q [] all (λ i. arrive q (slice_index_or (piece_values ps) i no_value) (tree_in (known pool f.outputs) (first + i)))
        → IsComing flows v n s passing c
    fault-coming c coded whole piece all these counted =
        let h = counts-of (length ps) q all (λ i. arrive q (slice_index_or (piece_values ps) i no_value) (tree_in (known pool f.outputs) (first + i))) counted in
        let many = passed.many in
        let o = outputs-few (length s.1.outputs) in
        let enough : length s.1.outputs ≤ length all = let l = h.0 in omega (arith, l, many, o) in
        is-coming flows plan pool f v n s k at passing fault-next refl c coded (fault-turns c.whole_from whole)
        (ap length these ∙ length-take-le (length s.1.outputs) all enough)
        (λ i lt. piece i)
        (λ i lt.
        let among : i < trees_of s = few-outputs i lt in
        subst (λ m. HoldsFaults q (arrive q (event_value v s passing i) (tree_in (known pool f.outputs) (first_tree v.flow.steps n + i))) m)
        (sym (ap (λ xs. slice_index_or xs i 0) these ∙ get_or-take (length s.1.outputs) all i 0 lt))
        (subst (λ x. HoldsFaults q (arrive q (event_value v s passing i) (tree_in (known pool f.outputs) (x + i))) (slice_index_or all i 0)) is_first
        (subst (λ w. HoldsFaults q (arrive q w (tree_in (known pool f.outputs) (first + i))) (slice_index_or all i 0))
        (get_or_from_slice_get (piece_values ps) i (event_value v s passing i) no_value (passed.each i among)) (h.1 i (omega (arith, among, many))))))
        (λ i lt few. passing-faultless s.0 q d c.happened coded.happened i)

  -- what arrives in the trees of its outputs
  pub fault-values : (k : ℕ) → k < length s.1.outputs → slice_get (piece_values ps) k ≡ Some (event_value v s passing k)
  fault-values k lt = passed.each k (few-outputs k lt)
