-- The pieces of a passed fault: the document once for each tree of its step, with the depth that the output has there.
use Rattle.std.specs.Prelude.{◌≡◌, refl, ℕ, zero, suc, ◌+◌, ◌-◌, ◌<◌, ◌&&◌, Bool, true, false, IfOk, IsTrue, List, [], ◌∷◌, length, map, Some, Result, Ok, Err, slice_get, slice_index_or}
use Rattle.std.proofs.Common.{arith, sym, ap, subst, ◌∙◌}
use Rattle.std.proofs.lemmas.Option.{get_or_from_slice_get}
use Rattle.std.proofs.lemmas.List.{length-map}
use Rattle.tv_lemmas.proofs.Lists.{get-map, get-within, index-map}
use Rattle.tv_value.specs.Nested.{Place}
use Rattle.tv_value.specs.Values.{ErrorDoc, Name, Value, fault_value}
use Rattle.tv_flow.specs.Flows.{Flow, Step}
use Rattle.tv_flow.specs.Views.{flow_view, step_view}
use Rattle.tv_flow.specs.declared.document.Step.{Step as CodeStep}
use Rattle.tv_cell.specs.declared.piece.Piece.{Piece}
use Rattle.tv_cell.specs.Found.{document_of, with_depth}
use Rattle.tv_cell.specs.PieceValues.{piece_value, piece_values}
use Rattle.tv_cell.specs.Soundness.{AreSound, IsSound, is_sound}
use Rattle.tv_check.specs.declared.plans.FlowPlan.{FlowPlan}
use Rattle.tv_outputs.specs.Known.{Nodes}
use Rattle.tv_model.specs.instance.Events.{fault_set}
use Rattle.tv_framing.specs.Arriving.{levels_below}
use Rattle.tv_framing.specs.Views.{View}
use Rattle.tv_framing.specs.matches.Steps.{IsStepAt}
use Rattle.tv_frame.specs.declared.frame.Frame.{Frame}
use Rattle.tv_frame.specs.Calls.{ArePassed}
use Rattle.tv_frame.specs.Kept.{Keeps, declared_at}
use Rattle.tv_frame.specs.Prepared.{event_value}
use Rattle.tv_frame.specs.Tables.{at_least_one, levels_in}
use Rattle.tv_check.specs.Tables.{step_level}
use Rattle.tv_frame.proofs.FaultingKnown.{index-mapped}
use Rattle.tv_frame.proofs.Keeping.{kept-wired, levels-are, step-there}
use Rattle.tv_framing.proofs.engine.Turning.{left-below as less-below}

-- what a viewed list has at a number
pub at-view : {A B : Type 0} (g : A → B) (xs : List A) (n : ℕ) (d : A) (s : B) → slice_get (map g xs) n ≡ Some s → g (slice_index_or xs n d) ≡ s
at-view g xs n d s e = sym (index-mapped g xs n d) ∙ get_or_from_slice_get (map g xs) n s (g d) e

values-get : (vs : List Piece) (ws : List Value) (k : ℕ) (w : Value) → piece_values vs ≡ ws → slice_get ws k ≡ Some w → slice_get (piece_values vs) k ≡ Some w
values-get vs ws k w e h = ap (λ us. slice_get us k) e ∙ h

some-trees : (n : ℕ) → 0 < n → at_least_one n ≡ n
some-trees zero h = omega (arith, h)
some-trees (suc n) h = refl

module _ (v : View) (s : Name × Step) (q : Place) (d : ErrorDoc) (left : ℕ) (left_is : left ≡ levels_in v.flow s.0 - length q) where
  abbrev with : ℕ → Value
  with n = fault_value (with_depth n d)

  left-below : levels_below (levels_in v.flow s.0) q ≡ left
  left-below = less-below (levels_in v.flow s.0) q ∙ sym left_is

  pub each-passed : (ps : List Piece) → AreSound ps → (outs : List (Name × ℕ)) → outs ≡ s.1.outputs → 0 < length outs → piece_values ps ≡ map (λ (o : Name × ℕ). with (left + o.1)) outs → ArePassed v s q d ps
  each-passed ps sound outs same some values = record {
    sound = sound;
    many =
        sym (length-map ps piece_value) ∙ ap length values ∙ length-map outs (λ (o : Name × ℕ). with (left + o.1))
        ∙ sym (some-trees (length outs) some) ∙ ap (λ (os : List (Name × ℕ)). at_least_one (length os)) same;
    each = λ k lt.
        let within : k < length outs = subst (λ m. k < m) (ap (λ (os : List (Name × ℕ)). at_least_one (length os)) (sym same) ∙ some-trees (length outs) some) lt in
        let o = get-within outs k within in
        let declared : declared_at s k ≡ o.0.1 = ap (λ (os : List (Name × ℕ)). slice_index_or (map (λ (x : Name × ℕ). x.1) os) k 0) (sym same) ∙ index-map (λ (x : Name × ℕ). x.1) outs k o.0 0 o.1 in
        values-get ps (map (λ (x : Name × ℕ). with (left + x.1)) outs) k (with (left + o.0.1)) values (get-map (λ (x : Name × ℕ). with (left + x.1)) outs k o.0 o.1)
        ∙ ap (λ m. Some (with m)) (ap (λ m. m + o.0.1) (sym left-below) ∙ ap (λ m. levels_below (levels_in v.flow s.0) q + m) (sym declared));
  }

  pub one-passed : (p : Piece) (ps : List Piece) → ps ≡ p ∷ [] → AreSound ps → s.1.outputs ≡ [] → piece_value p ≡ with left → ArePassed v s q d ps
  one-passed p ps is sound none value = record {
    sound = sound;
    many = ap length is ∙ sym (ap (λ (os : List (Name × ℕ)). at_least_one (length os)) none);
    each = λ k lt. first k (subst (λ m. k < m) (ap (λ (os : List (Name × ℕ)). at_least_one (length os)) none) lt);
  }
    where
      past : (m : ℕ) → suc m < 1 → ⊥
      past m h = omega (arith, h)

      nothing : declared_at s 0 ≡ 0
      nothing = ap (λ (os : List (Name × ℕ)). slice_index_or (map (λ (x : Name × ℕ). x.1) os) 0 0) none

      plus : (m k : ℕ) → k ≡ 0 → m ≡ m + k
      plus m k e = omega (arith, e)

      first : (k : ℕ) → k < 1 → slice_get (piece_values ps) k ≡ Some (event_value v s (fault_set s.0 q d) k)
      first zero h = ap (λ us. slice_get (piece_values us) 0) is ∙ ap (λ w. Some w) value ∙ ap (λ m. Some (with m)) (sym left-below ∙ plus (levels_below (levels_in v.flow s.0) q) (declared_at s 0) nothing)
      first (suc k) h = absurd (past k h)

-- ---- in the words of the calls

pub left-so :
    (flows : List (Name × Flow)) (plan : FlowPlan) (pool : Nodes) (f : Frame) (v : View) (n : ℕ) (s : Name × Step) → Keeps flows plan pool f v → IsStepAt v n s
    → (q : Place) (left : ℕ) → left ≡ step_level (flow_view plan.flow) s.1 - length q → left ≡ levels_in v.flow s.0 - length q
left-so flows plan pool f v n s keeps at q left e =
    e ∙ ap (λ (g : Flow). step_level g s.1 - length q) (sym keeps.flow_is)
    ∙ ap (λ m. m - length q) (sym (levels-are v.flow (kept-wired flows plan pool f v keeps) n s at))

pub outputs-so :
    (flows : List (Name × Flow)) (plan : FlowPlan) (pool : Nodes) (f : Frame) (v : View) (n : ℕ) (s : Name × Step) → Keeps flows plan pool f v → IsStepAt v n s
    → (xs : List (Name × CodeStep)) (row : Name × CodeStep) → xs ≡ plan.flow.steps → (outs : List (Name × ℕ)) → outs ≡ (slice_index_or xs n row).1.outputs → outs ≡ s.1.outputs
outputs-so flows plan pool f v n s keeps at xs row e outs h =
    h ∙ ap (λ (ys : List (Name × CodeStep)). (slice_index_or ys n row).1.outputs) e
    ∙ ap (λ (t : Name × Step). t.1.outputs) (at-view (λ (x : Name × CodeStep). (x.0, step_view x.1)) plan.flow.steps n row s (step-there flows plan pool f v n s keeps at))

and-true : (b : Bool) → IsTrue b → IsTrue (b && true)
and-true true h = h
and-true false h = h

pub one-sound : (p : Piece) (ps : List Piece) → ps ≡ p ∷ [] → IsSound p → AreSound ps
one-sound p ps e h = subst AreSound (sym e) (and-true (is_sound p) h)

pub ok-both : {T E : Type 0} (P Q : T → Type 0) (r : Result T E) → IfOk r P → IfOk r Q → IfOk r (λ x. P x × Q x)
ok-both P Q (Ok x) h k = (h, k)
ok-both P Q (Err e) h k = tt

pub of-fault : (p w : Value) (d : ErrorDoc) (left : ℕ) → w ≡ fault_value d → p ≡ fault_value (with_depth (left + 0) (document_of w)) → p ≡ fault_value (with_depth left d)
of-fault p w d left e h = h ∙ ap (λ m. fault_value (with_depth m (document_of w))) (more left) ∙ ap (λ (u : Value). fault_value (with_depth left (document_of u))) e
  where
    more : (m : ℕ) → m + 0 ≡ m
    more m = omega arith

pub of-faults : (ps : List Piece) (w : Value) (d : ErrorDoc) (left : ℕ) (outs : List (Name × ℕ)) → w ≡ fault_value d → piece_values ps ≡ map (λ (o : Name × ℕ). fault_value (with_depth (left + o.1) (document_of w))) outs → piece_values ps ≡ map (λ (o : Name × ℕ). fault_value (with_depth (left + o.1) d)) outs
of-faults ps w d left outs e h = subst (λ (u : Value). piece_values ps ≡ map (λ (o : Name × ℕ). fault_value (with_depth (left + o.1) (document_of u))) outs) e h
