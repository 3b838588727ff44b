-- An event that may come next, as the code has it.
use Rattle.std.specs.Prelude.{◌≡◌, refl, ℕ, suc, ◌+◌, ◌<◌, ◌≤◌, true, false, List, [], ◌∷◌, length, slice_get, slice_index_or, unwrap_or}
use Rattle.std.specs.Option.{option_map_or}
use Rattle.std.proofs.Common.{sym, ap, subst, ◌∙◌, arith}
use Rattle.std.proofs.lemmas.List.{get_or_default, length-map}
use Rattle.std.proofs.lemmas.Option.{unwrap_or-slice_get}
use Rattle.tv_value.specs.Nested.{Place, list, no_trees}
use Rattle.tv_value.specs.Orders.{named}
use Rattle.tv_value.specs.Values.{ErrorDoc, Name, Value, holds_fault}
use Rattle.tv_flow.specs.Flows.{Flow, Step}
use Rattle.tv_naming.specs.Naming.{has_name}
use Rattle.tv_naming.specs.Numbers.{position}
use Rattle.tv_model.specs.instance.Steps.{declared_depths}
use Rattle.tv_check.specs.Feeds.{outputs_of}
use Rattle.tv_parts.specs.Changes.{arrive}
use Rattle.tv_parts.specs.Partials.{HoldsFaults, Partial}
use Rattle.tv_cell.specs.declared.piece.Piece.{Piece}
use Rattle.tv_cell.specs.declared.piece.Piece.TheViews as pieces
use Rattle.tv_cell.specs.PieceValues.{piece_value, piece_values}
use Rattle.tv_cell.proofs.PieceLemmas.{list-value}
use Rattle.tv_check.specs.declared.plans.FlowPlan.{FlowPlan}
use Rattle.tv_outputs.specs.Changes.{Counted, no_value}
use Rattle.tv_outputs.specs.Known.{Nodes, known, tree_in}
use Rattle.tv_telling.specs.declared.ways.Event as code
use Rattle.tv_telling.specs.declared.ways.Happened.{Happened}
use Rattle.tv_telling.specs.declared.ways.Happened.TheVariants.{Gave, Closed, Passed}
use Rattle.tv_telling.specs.Views.{HasPiece, IsFaultless, happening}
use Rattle.tv_model.specs.instance.Events as events
use Rattle.tv_model.specs.instance.Events.{Event, event_place, event_step, fault_set, gave}
use Rattle.tv_model.specs.RightDepths.{HaveTheseDepths}
use Rattle.tv_framing.specs.Arriving.{part_so_far}
use Rattle.tv_framing.specs.Views.{View}
use Rattle.tv_framing.specs.ways.Stated.{IsFrom}
use Rattle.tv_framing.proofs.starts.Steps.{stands-at}
use Rattle.tv_framing.specs.keeping.NextEvents.{IsNextEvent}
use Rattle.tv_framing.specs.matches.Steps.{IsStepAt}
use Rattle.tv_framing.specs.feeds.Coming.{put_here}
use Rattle.tv_framing.specs.feeds.Fed.{newly}
use Rattle.tv_framing.specs.feeds.Seen.{Happens, IsCodeOf}
use Rattle.tv_framing.proofs.feeds.Seen.{events-are_seen}
use Rattle.tv_frame.specs.declared.frame.Frame.{Frame}
use Rattle.tv_frame.specs.Kept.{Keeps, declared_at}
use Rattle.tv_frame.specs.Prepared.{IsComing}
use Rattle.tv_frame.specs.Tables.{first_tree, levels_in, trees_of}
use Rattle.tv_frame.proofs.Keeping.{kept-wired}
use Rattle.tv_frame.proofs.Putting.{outputs-few, tree-after}
use Rattle.tv_frame.proofs.Trees.{declared-named}
use Rattle.tv_framing.proofs.engine.Told.{few-there}

-- ---- any event

module _ (flows : List (Name × Flow)) (plan : FlowPlan) (pool : Nodes) (f : Frame) (v : View) (n : ℕ) (s : Name × Step) (k : Keeps flows plan pool f v) (at : IsStepAt v n s) (e : Event) (next : IsNextEvent flows (levels_in v.flow) v e) (own : event_step e ≡ s.0) where
  abbrev levels : Name → ℕ
  levels = levels_in v.flow

  -- a tree as it is with the event
  abbrev after : ℕ → Partial Value
  after i = put_here i (levels s.0) (declared_at s i) e (tree_in (known pool f.outputs) (first_tree v.flow.steps n + i))

  outputs-are : outputs_of v.flow s.0 ≡ s.1.outputs
  outputs-are = ap (λ o. option_map_or (λ (t : Step). t.outputs) o []) (stands-at v.flow (kept-wired flows plan pool f v k) n s at)

  own-tree : (i : ℕ) → i < trees_of s → after i ≡ part_so_far s.0 i (levels s.0) (declared_at s i) (e ∷ v.events)
  own-tree i h =
      ap (put_here i (levels s.0) (declared_at s i) e) (k.trees_are n s at i h)
      ∙ sym (tree-after flows plan pool f v n s k at e next own i (declared_at s i))

  module _ (faults : List ℕ) (each : (i : ℕ) → i < length s.1.outputs → HoldsFaults (event_place e) (after i) (slice_index_or faults i 0)) where
    -- of the output that stands at a position, in a list of outputs
    abbrev Holds : Name → Name → List (Name × ℕ) → Type 0
    Holds o t os =
        HoldsFaults (event_place e) (part_so_far t (position o os) (levels t) (unwrap_or (named o os) 0) (e ∷ v.events)) (slice_index_or faults (position o os) 0)

    own-holds : (o : Name) → has_name s.1.outputs o ≡ true → Holds o s.0 s.1.outputs
    own-holds o h =
        let i = position o s.1.outputs in
        let lt : i < length s.1.outputs = few-there o s.1.outputs h in
        let few = outputs-few (length s.1.outputs) in
        subst (λ d. HoldsFaults (event_place e) (part_so_far s.0 i (levels s.0) d (e ∷ v.events)) (slice_index_or faults i 0)) (declared-named o s.1.outputs)
        (subst (λ p. HoldsFaults (event_place e) p (slice_index_or faults i 0)) (own-tree i (omega (arith, lt, few))) (each i lt))

    pub holds : (o : Name) → has_name (outputs_of v.flow (event_step e)) o ≡ true → Holds o (event_step e) (outputs_of v.flow (event_step e))
    holds o h =
        subst (λ t. Holds o t (outputs_of v.flow t)) (sym own)
        (subst (λ os. Holds o s.0 os) (sym outputs-are)
        (own-holds o (subst (λ os. has_name os o ≡ true) (ap (outputs_of v.flow) own ∙ outputs-are) h)))

  pub is-coming :
      (c : code.Event) → IsCodeOf e c → IsFrom (newly levels v e) (event_place e) c.whole_from
      → length c.faults.now ≡ length s.1.outputs
      → ((i : ℕ) → i < length s.1.outputs → HasPiece c.happened i)
      → ((i : ℕ) → i < length s.1.outputs → HoldsFaults (event_place e) (after i) (slice_index_or c.faults.now i 0))
      → ((i : ℕ) → i < length s.1.outputs → slice_index_or c.faults.now i 0 ≤ length c.place.now → IsFaultless (happening c.happened i))
      → IsComing flows v n s e c
  is-coming c coded from many piece each faultless = record {
    next = next;
    at = at;
    named = own;
    faults = λ o. slice_index_or c.faults.now (position o (outputs_of v.flow (event_step e))) 0;
    seen = events-are_seen v.flow e c coded;
    turns = from;
    hold = holds c.faults.now each;
    outputs = many;
    pieces = piece;
    faultless = faultless;
  }

-- ---- what arrives

-- as many values as outputs
pub as-declared : (ds : List ℕ) (vs : List Value) → HaveTheseDepths ds vs → length vs ≡ length ds
as-declared [] [] h = refl
as-declared [] (v ∷ vs) h = absurd h
as-declared (d ∷ ds) [] h = absurd h
as-declared (d ∷ ds) (v ∷ vs) h = ap suc (as-declared ds vs h.1)

pub given-many : (s : Name × Step) (ps : List Piece) → HaveTheseDepths (declared_depths s.1) (piece_values ps) → length ps ≡ length s.1.outputs
given-many s ps h =
    sym (length-map ps piece_value) ∙ as-declared (declared_depths s.1) (piece_values ps) h ∙ length-map s.1.outputs (λ o. o.1)

-- a piece of the first value, or of an empty list where there is none
pub first-value : (ps : List Piece) → (x : Piece) × (piece_value x ≡ unwrap_or (slice_get (piece_values ps) 0) (list tt no_trees))
first-value [] = (pieces.List [], list-value [])
first-value (p ∷ ps) = (p, refl)

pub value-of : (vs : List Value) (i : ℕ) → i < length vs → slice_index_or vs i no_value ≡ unwrap_or (slice_get vs i) (list tt no_trees)
value-of vs i h = get_or_default vs i no_value (list tt no_trees) h ∙ sym (unwrap_or-slice_get vs i (list tt no_trees))

-- ---- what came, where no fault is counted at its place

-- nothing comes as a list is closed
pub closing-faultless : (t : Name) (q : Place) (m : ℕ) (h : Happened) → Happens (events.closed t q m) h → (i : ℕ) → IsFaultless (happening h i)
closing-faultless t q m (Gave ps) a i = absurd a
closing-faultless t q m (Closed n) a i = tt
closing-faultless t q m Passed a i = absurd a

-- nor as a fault is passed
pub passing-faultless : (t : Name) (q : Place) (d : ErrorDoc) (h : Happened) → Happens (fault_set t q d) h → (i : ℕ) → IsFaultless (happening h i)
passing-faultless t q d (Gave ps) a i = absurd a
passing-faultless t q d (Closed n) a i = absurd a
passing-faultless t q d Passed a i = tt

-- of a job's result it is so of what it gave
pub given-faultless : (t : Name) (q : Place) (vs : List Value) (h : Happened) → Happens (gave t q vs) h → (i : ℕ) → holds_fault (unwrap_or (slice_get vs i) (list tt no_trees)) ≡ false → IsFaultless (happening h i)
given-faultless t q vs (Gave ps) a i none = ap (λ ws. holds_fault (unwrap_or (slice_get ws i) (list tt no_trees))) a ∙ none
given-faultless t q vs (Closed n) a i none = absurd a
given-faultless t q vs Passed a i none = absurd a

-- so many counts, each of its tree
pub counts-of : (count : ℕ) (q : Place) (faults : List ℕ) (tree : ℕ → Partial Value) → Counted count q [] faults tree → (length faults ≡ count) × ((i : ℕ) → i < count → HoldsFaults q (tree i) (slice_index_or faults i 0))
counts-of count q faults tree h = (ap length h.all ∙ h.many, λ i lt. subst (λ xs. HoldsFaults q (tree i) (slice_index_or xs i 0)) (sym h.all) (h.each i lt))

-- ---- in the words of the calls: what arrives and what is counted are other names of the same

pub counted-arrivals :
    (ps pieces : List Piece) → pieces ≡ ps → (old new now : List ℕ) → old ≡ [] → now ≡ new → (q : Place) (first : ℕ) (trees : List (Partial Value))
    → Counted (length pieces) q old new (λ i. arrive q (slice_index_or (piece_values pieces) i no_value) (tree_in trees (first + i)))
    → Counted (length ps) q [] now (λ i. arrive q (slice_index_or (piece_values ps) i no_value) (tree_in trees (first + i)))
counted-arrivals ps pieces e old new now none same q first trees h =
    subst (λ xs. Counted (length xs) q [] now (λ i. arrive q (slice_index_or (piece_values xs) i no_value) (tree_in trees (first + i)))) e
    (subst (λ ns. Counted (length pieces) q [] ns (λ i. arrive q (slice_index_or (piece_values pieces) i no_value) (tree_in trees (first + i)))) (sym same)
    (subst (λ os. Counted (length pieces) q os new (λ i. arrive q (slice_index_or (piece_values pieces) i no_value) (tree_in trees (first + i)))) none h))

pub counted-closings :
    (count outputs : ℕ) → count ≡ outputs → (old new now : List ℕ) → old ≡ [] → now ≡ new → (q : Place) (tree : ℕ → Partial Value)
    → Counted count q old new tree → Counted outputs q [] now tree
counted-closings count outputs e old new now none same q tree h =
    subst (λ m. Counted m q [] now tree) e
    (subst (λ ns. Counted count q [] ns tree) (sym same)
    (subst (λ os. Counted count q os new tree) none h))
