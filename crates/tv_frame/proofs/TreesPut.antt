-- The trees that a frame keeps once an event was put into those of its step.
use Rattle.std.specs.Prelude.{◌≡◌, refl, ℕ, zero, suc, ◌+◌, ◌<◌, ◌≤◌, ◌==◌, ◌⊎◌, false, List, [], ◌∷◌, length, Some, slice_get, unwrap_or}
use Rattle.std.proofs.Common.{sym, ap, subst, ◌∙◌, arith, inl, inr}
use Rattle.std.proofs.lemmas.Bool.{cases_order, eqb-true}
use Rattle.std.proofs.lemmas.Option.{none-some, same_Some}
use Rattle.tv_value.specs.Nested.{Place, list, no_trees}
use Rattle.tv_value.specs.Values.{ErrorDoc, Name, Value, fault_value}
use Rattle.tv_flow.specs.Flows.{Flow, Step}
use Rattle.tv_lemmas.proofs.Cases.{on_either, on_test}
use Rattle.tv_naming.specs.Numbers.{position}
use Rattle.tv_naming.proofs.FormedParts.{steps-ascend}
use Rattle.tv_parts.specs.Partials.{Partial}
use Rattle.tv_check.specs.declared.plans.FlowPlan.{FlowPlan}
use Rattle.tv_outputs.specs.Changes.{Arrive, Close}
use Rattle.tv_outputs.specs.Known.{Nodes, known, tree_in}
use Rattle.tv_model.specs.instance.Events as events
use Rattle.tv_model.specs.instance.Events.{Event, event_step, fault_set, gave}
use Rattle.tv_framing.specs.Arriving.{levels_below, part_so_far}
use Rattle.tv_framing.specs.Frames.{with_event}
use Rattle.tv_framing.specs.Views.{View}
use Rattle.tv_framing.specs.keeping.NextEvents.{IsNextEvent}
use Rattle.tv_framing.specs.matches.Steps.{IsStepAt}
use Rattle.tv_framing.specs.feeds.Coming.{put_here}
use Rattle.tv_framing.specs.feeds.Fed.{event_number}
use Rattle.tv_framing.proofs.feeds.Coming.{trees-go_on}
use Rattle.tv_frame.specs.declared.frame.Frame.{Frame}
use Rattle.tv_frame.specs.Kept.{AreTrees, Keeps, declared_at}
use Rattle.tv_frame.specs.Prepared.{event_value}
use Rattle.tv_frame.specs.Shown.{values_put}
use Rattle.tv_frame.specs.Tables.{at_least_one, first_tree, levels_in, trees_of}
use Rattle.tv_frame.proofs.Keeping.{kept-wired}
use Rattle.tv_frame.proofs.Putting.{tree-after}
use Rattle.tv_framing.proofs.engine.Endings.{position-of}

-- the trees of a step stand before those of the steps that follow
trees-before : (ss : List (Name × Step)) (m n : ℕ) (t : Name × Step) → m < n → slice_get ss m ≡ Some t → first_tree ss m + trees_of t ≤ first_tree ss n
trees-before [] m n t l e = absurd (none-some t e)
trees-before (x ∷ ss) zero zero t l e = absurd (omega arith)
trees-before (x ∷ ss) zero (suc n) t l e =
    let same : trees_of x ≡ trees_of t = ap trees_of (same_Some x t e) in
    omega (arith, same)
trees-before (x ∷ ss) (suc m) zero t l e = absurd (omega arith)
trees-before (x ∷ ss) (suc m) (suc n) t l e =
    let h = trees-before ss m n t (omega arith) e in
    omega (arith, h)

either-way : {C : Type 0} (m n : ℕ) → (m ≡ n → C) → (m < n → C) → (n < m → C) → C
either-way m n same below above = on_either (cases_order m n) same (λ h. on_either h below above)

-- ---- what is put into a step's trees is what the event brings

-- for each tree of a step what the event puts there, and nothing into other trees
pub record ArePut (v : View) (s : Name × Step) (e : Event) (first : ℕ) (old new : List (Partial Value)) : Type 0 where
  pub own :
      (i : ℕ) → i < trees_of s
      → tree_in new (first + i) ≡ put_here i (levels_in v.flow s.0) (declared_at s i) e (tree_in old (first + i))
  pub others : (j : ℕ) → (j < first) ⊎ (first + trees_of s ≤ j) → tree_in new j ≡ tree_in old j

pub put-closed : (v : View) (s : Name × Step) (q : Place) (size first : ℕ) (old new : List (Partial Value)) → Close first (trees_of s) q size old new → ArePut v s (events.closed s.0 q size) first old new
put-closed v s q size first old new h = record { own = h.closed; others = h.others }

-- of a result
pub many-put : (vs : List Value) (n : ℕ) → length vs ≡ n → length (values_put vs) ≡ at_least_one n
many-put [] zero e = refl
many-put [] (suc n) e = absurd (omega arith)
many-put (v ∷ vs) zero e = absurd (omega arith)
many-put (v ∷ vs) (suc n) e = e

value-there : (vs : List Value) (i : ℕ) → i < length vs → slice_get vs i ≡ Some (unwrap_or (slice_get vs i) (list tt no_trees))
value-there [] i h = absurd (omega arith)
value-there (v ∷ vs) zero h = refl
value-there (v ∷ vs) (suc i) h = value-there vs i (omega arith)

value-put : (vs : List Value) (n i : ℕ) → length vs ≡ n → i < at_least_one n → slice_get (values_put vs) i ≡ Some (unwrap_or (slice_get vs i) (list tt no_trees))
value-put [] zero zero e h = refl
value-put [] zero (suc i) e h = absurd (omega arith)
value-put [] (suc n) i e h = absurd (omega arith)
value-put (v ∷ vs) zero i e h = absurd (omega arith)
value-put (v ∷ vs) (suc n) i e h = value-there (v ∷ vs) i (omega arith)

pub put-given :
    (v : View) (s : Name × Step) (q : Place) (vs : List Value) (first : ℕ) (old new : List (Partial Value)) → length vs ≡ length s.1.outputs
    → Arrive first q (values_put vs) old new → ArePut v s (gave s.0 q vs) first old new
put-given v s q vs first old new many h = record {
  own = λ i l. h.arrived i (unwrap_or (slice_get vs i) (list tt no_trees)) (value-put vs (length s.1.outputs) i many l);
  others = λ j o. h.others j (subst (λ n. (j < first) ⊎ (first + n ≤ j)) (sym (many-put vs (length s.1.outputs) many)) o);
}

-- of a fault
some-put : (vs : List Value) (n : ℕ) → length vs ≡ at_least_one n → values_put vs ≡ vs
some-put [] zero e = absurd (omega arith)
some-put [] (suc n) e = absurd (omega arith)
some-put (v ∷ vs) n e = refl

pub passed-put : (vs : List Value) (s : Name × Step) → length vs ≡ trees_of s → values_put vs ≡ vs
passed-put vs s e = some-put vs (length s.1.outputs) e

pub put-passed :
    (v : View) (s : Name × Step) (q : Place) (d : ErrorDoc) (vs : List Value) (first : ℕ) (old new : List (Partial Value)) → length vs ≡ trees_of s
    → ((i : ℕ) → i < trees_of s → slice_get vs i ≡ Some (event_value v s (fault_set s.0 q d) i))
    → Arrive first q (values_put vs) old new → ArePut v s (fault_set s.0 q d) first old new
put-passed v s q d vs first old new many each h = record {
  own = λ i l. h.arrived i (fault_value (record d { depth = levels_below (levels_in v.flow s.0) q + declared_at s i })) (ap (λ us. slice_get us i) (passed-put vs s many) ∙ each i l);
  others = λ j o. h.others j (subst (λ n. (j < first) ⊎ (first + n ≤ j)) (sym (ap length (passed-put vs s many) ∙ many)) o);
}

-- ---- then the trees are what was told with the event

module _ (flows : List (Name × Flow)) (plan : FlowPlan) (pool : Nodes) (f : Frame) (v : View) (n : ℕ) (s : Name × Step) (k : Keeps flows plan pool f v) (at : IsStepAt v n s) (e : Event) (next : IsNextEvent flows (levels_in v.flow) v e) (named : event_step e ≡ s.0) where
  abbrev levels : Name → ℕ
  levels = levels_in v.flow

  pub number-is : event_number v e ≡ n
  number-is =
      ap (λ t. position t v.flow.steps) named
      ∙ position-of v.flow.steps n s (steps-ascend v.flow (kept-wired flows plan pool f v k).formed) at

  module _ (after : List (Partial Value)) (new : List (Name × Place)) (put : ArePut v s e (first_tree v.flow.steps n) (known pool f.outputs) after) where
    -- this tree is so
    abbrev IsSo : ℕ → Name × Step → ℕ → Type 0
    IsSo m t i = tree_in after (first_tree v.flow.steps m + i) ≡ part_so_far t.0 i (levels t.0) (declared_at t i) (e ∷ v.events)

    own-tree : (i : ℕ) → i < trees_of s → IsSo n s i
    own-tree i h =
        put.own i h
        ∙ ap (put_here i (levels s.0) (declared_at s i) e) (k.trees_are n s at i h)
        ∙ sym (tree-after flows plan pool f v n s k at e next named i (declared_at s i))

    same-tree : (m : ℕ) (t : Name × Step) → IsStepAt v m t → (i : ℕ) → i < trees_of t → m ≡ n → IsSo m t i
    same-tree m t a i h same =
        let ss : s ≡ t = same_Some s t (sym at ∙ ap (slice_get v.flow.steps) (sym same) ∙ a) in
        subst (λ l. IsSo l t i) (sym same) (subst (λ (y : Name × Step). i < trees_of y → IsSo n y i) ss (own-tree i) h)

    other-tree : (m : ℕ) (t : Name × Step) → IsStepAt v m t → (i : ℕ) → i < trees_of t → (m ≡ n → ⊥) → (first_tree v.flow.steps m + i < first_tree v.flow.steps n) ⊎ (first_tree v.flow.steps n + trees_of s ≤ first_tree v.flow.steps m + i) → IsSo m t i
    other-tree m t a i h ne o =
        put.others (first_tree v.flow.steps m + i) o
        ∙ k.trees_are m t a i h
        ∙ sym ((trees-go_on flows levels v e next (kept-wired flows plan pool f v k) m t a i (declared_at t i)).other (not-same m (event_number v e) (λ x. ne (x ∙ number-is))))
      where
        not-same : (a b : ℕ) → (a ≡ b → ⊥) → (a == b) ≡ false
        not-same a b ne = on_test (a == b) (λ x. absurd (ne (eqb-true a b x))) (λ x. x)

    pub trees-go : AreTrees (with_event v e new) after
    trees-go m t a i h =
        either-way m n (same-tree m t a i h)
        (λ l. let b = trees-before v.flow.steps m n t l a in other-tree m t a i h (λ x. omega (arith, l, x)) (inl (omega (arith, b, h))))
        (λ l. let b = trees-before v.flow.steps n m s l at in other-tree m t a i h (λ x. omega (arith, l, x)) (inr (omega (arith, b))))
