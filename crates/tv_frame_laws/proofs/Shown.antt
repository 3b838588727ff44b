-- The known part of a value that is put together of inputs, constants and outputs shows exactly the
-- nodes that are known.
use Rattle.std.specs.Prelude.{◌≡◌, refl, ℕ, zero, suc, ◌+◌, pred, Bool, true, false, ◌||◌, is_some, [], ◌∷◌, ◌++◌, Option, Some, None, option_and_then}
use Rattle.std.proofs.Common.{arith, sym, ap, subst, ◌∙◌}
use Rattle.std.proofs.lemmas.Option.{none-some, same_Some}
use Rattle.std.proofs.Math.Bool.{or-false}
use Rattle.tv_value.specs.Nested.{Place, Trees, at, count, item_at, leaf, list, no_trees, note, tree}
use Rattle.tv_value.specs.Values.{JobName, Name, Scalar, Value}
use Rattle.tv_strategy.specs.Iterations.{Iteration, Iterations, job, passed}
use Rattle.tv_strategy.specs.Origins.{Origin, Traced, at_start, fixed, from_job, input_value, input_values}
use Rattle.tv_strategy.specs.Outputs.{output_below, outputs_from}
use Rattle.tv_model.specs.instance.Delivered.{wrapped}
use Rattle.tv_model.specs.instance.Steps.{spot}
use Rattle.tv_parts.specs.Partials.{Partial, closed, growing, item, part_at, shows, wanting}
use Rattle.tv_model.specs.instance.Events.{Events, closed_with, has_fault, has_result, known_by}
use Rattle.tv_frame.proofs.instances.Events.{level-known, result-known}
use Rattle.tv_frame.proofs.engine.Pieces.{ShowsFrom}
use Rattle.tv_frame.proofs.engine.Showing.{IsItemIf, IsListIf}
use Rattle.tv_frame_laws.specs.values.Parts.{wrapped_part}
use Rattle.tv_frame.proofs.KnownFeeds.{level-parts, traced-note, top-of, item-of}

-- the tree shows exactly the nodes of the value that are known
abbrev pub IsShown : (Origin → Bool) → Partial Value → Traced → Type 0
IsShown known r u = (y : Place) (w : Traced) → at u y ≡ Some w → known (note w) ≡ shows r y

-- ---- values of one origin, and inputs

mutual
  pub input-note : (x : Name) (q : Place) (v : Value) (y : Place) (u : Traced) → at (input_value x q v) y ≡ Some u → (note u).known ≡ at_start
  input-note x q (leaf n a) [] u e = ap (λ (t : Traced). (note t).known) (sym (same_Some (input_value x q (leaf n a)) u e))
  input-note x q (list n vs) [] u e = ap (λ (t : Traced). (note t).known) (sym (same_Some (input_value x q (list n vs)) u e))
  input-note x q (leaf n a) (i ∷ y) u e = absurd (none-some u e)
  input-note x q (list n vs) (i ∷ y) u e = input-notes x q 0 vs i y u e

  input-notes : (x : Name) (q : Place) (k : ℕ) (vs : Trees (Unit {0}) Scalar) (i : ℕ) (y : Place) (u : Traced) → option_and_then (λ (t : Traced). at t y) (item_at (input_values x q k vs) i) ≡ Some u → (note u).known ≡ at_start
  input-notes x q k no_trees i y u e = absurd (none-some u e)
  input-notes x q k (tree v vs) zero y u e = input-note x (q ++ k ∷ []) v y u e
  input-notes x q k (tree v vs) (suc i) y u e = input-notes x q (suc k) vs i y u e

-- ---- wrapped values

module _ (known : Origin → Bool) (start : known fixed ≡ true) where
  pub wrapped-shown : (k : ℕ) (r : Partial Value) (u : Traced) → IsShown known r u → IsShown known (wrapped_part k r) (wrapped k u)
  wrapped-shown zero r u h y w e = h y w e
  wrapped-shown (suc k) r u h [] w e = ap (λ (t : Traced). known (note t)) (sym (same_Some (wrapped (suc k) u) w e)) ∙ start
  wrapped-shown (suc k) r u h (zero ∷ y) w e = wrapped-shown k r u h y w e
  wrapped-shown (suc k) r u h (suc i ∷ y) w e = absurd (none-some w e)

-- ---- what a node of an output's tree shows

item-shown : (b : Bool) (p : Partial Value) (y : Place) → IsItemIf b p → b ≡ shows p y
item-shown true wanting y h = absurd h
item-shown true (item w) y h = refl
item-shown true (growing ps) y h = absurd h
item-shown true (closed ps) y h = absurd h
item-shown false wanting y h = refl
item-shown false (item w) y h = absurd h
item-shown false (growing ps) y h = absurd h
item-shown false (closed ps) y h = absurd h

list-shown : (o : Option ℕ) (c : ℕ) (p : Partial Value) → IsListIf o c p → is_some o ≡ shows p []
list-shown None c wanting h = refl
list-shown None c (item w) h = absurd h
list-shown None c (growing ps) h = refl
list-shown None c (closed ps) h = absurd h
list-shown (Some n) c wanting h = absurd h
list-shown (Some n) c (item w) h = absurd h
list-shown (Some n) c (growing ps) h = absurd h
list-shown (Some n) c (closed ps) h = refl

-- inside a list its part tells
part-shown : (o : Option ℕ) (c : ℕ) (p : Partial Value) → IsListIf o c p → (i : ℕ) (y : Place) → shows (part_at p i) y ≡ shows p (i ∷ y)
part-shown o c wanting h i y = refl
part-shown None c (item w) h i y = absurd h
part-shown (Some n) c (item w) h i y = absurd h
part-shown o c (growing ps) h i y = refl
part-shown o c (closed ps) h i y = refl

-- ---- outputs

module _ (instance : JobName) (s : Name) (es : Events) (made : Place → Value) (declared : ℕ) where
  abbrev known : Origin → Bool
  known o = known_by instance es o

  abbrev out : Place → ℕ → Iteration → Traced
  out q l t = output_below (spot instance s) made declared q l t

  mutual
    pub out-shown : (t : Iteration) (q : Place) (l : ℕ) (p : Partial Value) → ShowsFrom es s q t p → IsShown known p (out q l t)
    out-shown (leaf r (job b)) q l p h y u a =
        ap known (traced-note (from_job (spot instance s q)) (made q) y u a)
        ∙ sym (result-known instance es s q)
        ∙ item-shown (has_result es s q) p y (top-of instance s es made declared q (leaf r (job b)) p h)
    out-shown (leaf r (passed m e)) q l p h [] u a =
        let here = top-of instance s es made declared q (leaf r (passed m e)) p h in
        ap (λ (t : Traced). known (note t)) (sym (same_Some (out q l (leaf r (passed m e))) u a))
        ∙ sym (level-known instance es s q)
        ∙ level-parts es s q
        ∙ ap (λ o. has_fault es s q || is_some o) here.1
        ∙ or-false (has_fault es s q)
        ∙ item-shown (has_fault es s q) p [] here.0
    out-shown (leaf r (passed m e)) q l p h (i ∷ y) u a = absurd (none-some u a)
    out-shown (list r ts) q l p h [] u a =
        let here = top-of instance s es made declared q (list r ts) p h in
        ap (λ (t : Traced). known (note t)) (sym (same_Some (out q l (list r ts)) u a))
        ∙ sym (level-known instance es s q)
        ∙ level-parts es s q
        ∙ ap (λ b. b || is_some (closed_with es s q)) here.1
        ∙ list-shown (closed_with es s q) (count ts) p here.0
    out-shown (list r ts) q l p h (i ∷ y) u a =
        outs-shown ts q (pred l) 0 i i p (zero-plus i) (λ n v e c g. subst (λ m. ShowsFrom es s (q ++ m ∷ []) v (part_at p m)) (sym (g ∙ sym (zero-plus n))) (item-of instance s es made declared q r ts p n v h e)) y u a
        ∙ part-shown (closed_with es s q) (count ts) p (top-of instance s es made declared q (list r ts) p h).0 i y
      where
        zero-plus : (n : ℕ) → n ≡ 0 + n
        zero-plus n = omega arith

    outs-shown : (ts : Iterations) (q : Place) (l i m j : ℕ) (p : Partial Value) → j ≡ i + m → ((n : ℕ) (v : Iteration) → item_at ts n ≡ Some v → (c : ℕ) → c ≡ i + n → ShowsFrom es s (q ++ c ∷ []) v (part_at p c)) → (y : Place) (u : Traced)
        → option_and_then (λ (x : Traced). at x y) (item_at (outputs_from (spot instance s) made declared q l i ts) m) ≡ Some u → known (note u) ≡ shows (part_at p j) y
    outs-shown no_trees q l i m j p g h y u a = absurd (none-some u a)
    outs-shown (tree t ts) q l i zero j p g h y u a =
        subst (λ n. known (note u) ≡ shows (part_at p n) y) (same i j g) (out-shown t (q ++ i ∷ []) l (part_at p i) (h 0 t refl i (none i)) y u a)
      where
        none : (n : ℕ) → n ≡ n + 0
        none n = omega arith

        same : (b c : ℕ) → c ≡ b + 0 → b ≡ c
        same b c f = omega arith
    outs-shown (tree t ts) q l i (suc m) j p g h y u a =
        outs-shown ts q l (suc i) m j p (next j i m g) (λ n v e c f. h (suc n) v e c (back c i n f)) y u a
      where
        next : (b c d : ℕ) → b ≡ c + suc d → b ≡ suc c + d
        next b c d f = omega arith

        back : (b c d : ℕ) → b ≡ suc c + d → b ≡ c + suc d
        back b c d f = omega arith
