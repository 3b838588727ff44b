-- What stands in what a feed delivers used what the shapes of the steps tell.
use Rattle.std.specs.List.{list_all}
use Rattle.std.specs.Option.{option_map_or}
use Rattle.std.specs.Prelude.{◌≡◌, refl, ℕ, zero, suc, ◌+◌, Bool, true, false, cond, find, flat_map, if◌then◌else◌, List, [], ◌∷◌, ◌++◌, map, Option, Some, None, option_and_then, option_map, slice_get, slice_index_or, unwrap_or}
use Rattle.std.proofs.Common.{arith, sym, ap, ap₂, subst, ◌∙◌, inl, inr, append_assoc}
use Rattle.std.proofs.lemmas.Bool.{and_parts}
use Rattle.std.proofs.lemmas.List.{map-append}
use Rattle.std.proofs.lemmas.List.Folds.{list_all-append}
use Rattle.std.proofs.lemmas.Option.{none-some, same_Some}
use Rattle.tv_lemmas.specs.Members.{In}
use Rattle.tv_value.specs.Nested.{Place, Trees, all_notes, at, item_at, leaf, list, map_trees, no_trees, notes, tree, trees_of}
use Rattle.tv_value.specs.Orders.{named, same_name}
use Rattle.tv_value.specs.Values.{Name, Scalar, Value}
use Rattle.tv_flow.specs.Flows.{Feed, Flow, Link, Step, constant, input, link, merge, output}
use Rattle.tv_lineage.specs.Touching as marks
use Rattle.tv_strategy.specs.Iterations.{Iteration}
use Rattle.tv_strategy.specs.Origins.{Origin, Traced, fixed, given, input_value, input_values, traced}
use Rattle.tv_strategy.specs.Outputs.{output_below}
use Rattle.tv_strategy.proofs.AtPlace.{item_at-map}
use Rattle.tv_naming.specs.Numbers.{position}
use Rattle.tv_value.proofs.NameLemmas.{same_name-is}
use Rattle.tv_model.specs.instance.Delivered.{Delivered, feed_delivers, link_delivers, merged, nothing_delivered}
use Rattle.tv_model.specs.instance.Steps.{spot}
use Rattle.tv_check.specs.Feeds.{feed_numbered, link_numbered, outputs_of}
use Rattle.tv_model.specs.instance.ByResults.{InstanceStep, outputs_by, step_of}
use Rattle.tv_model.proofs.Wholeness.{output-at}
use Rattle.tv_model.specs.Instances.{given_of, value_given}
use Rattle.tv_model.specs.Lineages.{all_used, used}
use Rattle.tv_model.specs.records.Recorded.{mark_of, marks_of}
use Rattle.tv_traces.specs.Feeds.{element_marks, feed_marks, job_at, link_told, merge_told, node_marks, output_told}
use Rattle.tv_traces.specs.Shapes.{Shape, ShowsKnown, no_shape, reached}
use Rattle.tv_traces.specs.Standing.{AreShapesOf, IsStepOf, ShapeOf}
use Rattle.tv_traces.proofs.Shapes.{UsedThere, used-at}

-- ---- where nothing has a mark

mutual
  fixed-used : (v : Value) → used (traced fixed v) ≡ []
  fixed-used (leaf n a) = refl
  fixed-used (list n ts) = all_fixed-used ts

  all_fixed-used : (ts : Trees (Unit {0}) Scalar) → all_used (map_trees (λ _. fixed) (λ a. a) ts) ≡ []
  all_fixed-used no_trees = refl
  all_fixed-used (tree t ts) = ap₂ (λ a b. a ++ b) (fixed-used t) (all_fixed-used ts)

fixed-at : (v : Value) (r : Place) (w : Traced) → at (traced fixed v) r ≡ Some w → used w ≡ []
fixed-at v [] w e = ap used (sym (same_Some (traced fixed v) w e)) ∙ fixed-used v
fixed-at (leaf n a) (i ∷ r) w e = absurd (none-some w e)
fixed-at (list n ts) (i ∷ r) w e = inner (item_at ts i) (λ u k. fixed-at u r w k) (ap (option_and_then (λ u. at u r)) (sym (item_at-map (λ _. fixed) (λ a. a) ts i)) ∙ e)
  where
    inner : (p : Option Value) → ((u : Value) → at (traced fixed u) r ≡ Some w → used w ≡ []) → option_and_then (λ u. at u r) (option_map (traced fixed) p) ≡ Some w → used w ≡ []
    inner None rec k = absurd (none-some w k)
    inner (Some u) rec k = rec u k

nothing-at : (q : Place) (w : Traced) → at nothing_delivered.value q ≡ Some w → marks_of w ≡ []
nothing-at [] w e = ap marks_of (sym (same_Some nothing_delivered.value w e))
nothing-at (i ∷ q) w e = absurd (none-some w e)

-- ---- inputs

module _ (x : Name) where
  input-used : (q : Place) (v : Value) → used (input_value x q v) ≡ given x q ∷ []
  input-used q (leaf n a) = refl
  input-used q (list n ts) = refl

  append-none : (q : Place) → q ++ [] ≡ q
  append-none [] = refl
  append-none (j ∷ q) = ap (λ l. j ∷ l) (append-none q)

  mutual
    input-at : (q : Place) (v : Value) (r : Place) (w : Traced) → at (input_value x q v) r ≡ Some w → used w ≡ given x (q ++ r) ∷ []
    input-at q v [] w e = ap used (sym (same_Some (input_value x q v) w e)) ∙ input-used q v ∙ ap (λ p. given x p ∷ []) (sym (append-none q))
    input-at q (leaf n a) (i ∷ r) w e = absurd (none-some w e)
    input-at q (list n ts) (i ∷ r) w e = subst (λ k. used w ≡ given x (q ++ (k ∷ r)) ∷ []) (from-none i) (inputs-at q 0 ts i r w e)
      where
        from-none : (i : ℕ) → 0 + i ≡ i
        from-none i = omega arith

    inputs-at : (q : Place) (j : ℕ) (vs : Trees (Unit {0}) Scalar) (i : ℕ) (r : Place) (w : Traced) → option_and_then (λ u. at u r) (item_at (input_values x q j vs) i) ≡ Some w → used w ≡ given x (q ++ ((j + i) ∷ r)) ∷ []
    inputs-at q j no_trees i r w e = absurd (none-some w e)
    inputs-at q j (tree v vs) zero r w e = input-at (q ++ j ∷ []) v r w e ∙ ap (λ p. given x p ∷ []) (append_assoc q (j ∷ []) r) ∙ ap (λ k. given x (q ++ (k ∷ r)) ∷ []) (same j)
      where
        same : (j : ℕ) → j ≡ j + 0
        same j = omega arith
    inputs-at q j (tree v vs) (suc i) r w e = inputs-at q (suc j) vs i r w e ∙ ap (λ k. given x (q ++ (k ∷ r)) ∷ []) (later j i)
      where
        later : (j i : ℕ) → suc j + i ≡ j + suc i
        later j i = omega arith

-- ---- links

module _ (known : Origin → Bool) (flow : Flow) (vs : List (Name × Value)) (fs : List InstanceStep) (shapes : List Shape) (stand : (g : InstanceStep) → In g fs → IsStepOf flow g) (shown : AreShapesOf known flow fs shapes) where
  -- all nodes of a value are known
  abbrev pub IsWhole : Traced → Type 0
  IsWhole w = list_all known (notes w) ≡ true

  abbrev pub given_here : List (Name × Delivered)
  given_here = given_of flow vs

  abbrev told : Link → Place → List marks.Mark
  told l q = link_told element_marks node_marks flow shapes (link_numbered flow l) q

  input-told : (is : List (Name × ℕ)) (x : Name) (q : Place) (w : Traced) → at (unwrap_or (named x (map (λ (i : Name × ℕ). (i.0, record { depth = i.1; value = input_value i.0 [] (value_given vs i.0) })) is)) nothing_delivered).value q ≡ Some w → option_map_or (λ (i : Name × ℕ). element_marks i.0 q) (slice_get is (position x is)) [] ≡ marks_of w
  input-told [] x q w e = sym (nothing-at q w e)
  input-told (i ∷ is) x q w e = by (same_name x i.0) e (input-told is x q w)
    where
      rest : List (Name × Delivered)
      rest = map (λ (j : Name × ℕ). (j.0, record { depth = j.1; value = input_value j.0 [] (value_given vs j.0) })) is

      by : (b : Bool) → at (unwrap_or (if b then Some (record { depth = i.1; value = input_value i.0 [] (value_given vs i.0) }) else named x rest) nothing_delivered).value q ≡ Some w → (at (unwrap_or (named x rest) nothing_delivered).value q ≡ Some w → option_map_or (λ (j : Name × ℕ). element_marks j.0 q) (slice_get is (position x is)) [] ≡ marks_of w) → option_map_or (λ (j : Name × ℕ). element_marks j.0 q) (slice_get (i ∷ is) (if b then 0 else suc (position x is))) [] ≡ marks_of w
      by true k rec = sym (ap (map mark_of) (input-at i.0 [] (value_given vs i.0) q w k))
      by false k rec = rec k

  -- the outputs of a step, from any on; P is so where there is one
  outputs-told : (n : Name) (gives : ℕ → Place → Value) (levels : ℕ) (it : Iteration) (q : Place) (w : Traced) (ms : List marks.Mark) (P : Type 0) → (P → (k d : ℕ) → at (output_below (spot [] n) (gives k) d [] levels it) q ≡ Some w → ms ≡ marks_of w) → (o : Name) (k : ℕ) (ps : List (Name × ℕ)) → ((p : Name × ℕ) (rs : List (Name × ℕ)) → ps ≡ p ∷ rs → P) → at (unwrap_or (named o (outputs_by [] n gives levels it k ps)) nothing_delivered).value q ≡ Some w → option_map_or (λ (p : Name × ℕ). ms) (slice_get ps (position o ps)) [] ≡ marks_of w
  outputs-told n gives levels it q w ms P f o k [] some e = sym (nothing-at q w e)
  outputs-told n gives levels it q w ms P f o k (p ∷ ps) some e = by (same_name o p.0) e (outputs-told n gives levels it q w ms P f o (suc k) ps (λ r rs h. some p ps refl))
    where
      rest : List (Name × Delivered)
      rest = outputs_by [] n gives levels it (suc k) ps

      by : (b : Bool) → at (unwrap_or (if b then Some (record { depth = levels + p.1; value = output_below (spot [] n) (gives k) p.1 [] levels it }) else named o rest) nothing_delivered).value q ≡ Some w → (at (unwrap_or (named o rest) nothing_delivered).value q ≡ Some w → option_map_or (λ (r : Name × ℕ). ms) (slice_get ps (position o ps)) [] ≡ marks_of w) → option_map_or (λ (r : Name × ℕ). ms) (slice_get (p ∷ ps) (if b then 0 else suc (position o ps))) [] ≡ marks_of w
      by true h rec = f (some p ps refl) k p.1 h
      by false h rec = rec h

  there-told : (n : Name) (w : Traced) (x : Option (Place × Shape)) → UsedThere (job_at n) w x → option_map_or (λ (y : Place × Shape). node_marks n y.0 y.1) x [] ≡ marks_of w
  there-told n w None h = absurd h
  there-told n w (Some x) h = sym h

  abbrev no_marks : Name × ℕ → List marks.Mark
  no_marks p = []

  unmade-told : (n o : ℕ) (q : Place) (w : Traced) → slice_index_or shapes n no_shape ≡ no_shape → at nothing_delivered.value q ≡ Some w → output_told node_marks flow shapes n o q ≡ marks_of w
  unmade-told n o [] w none e =
      ap (λ u. option_map_or (λ (s : Name × Step). option_map_or (λ (p : Name × ℕ). option_map_or (λ (x : Place × Shape). node_marks s.0 x.0 x.1) (reached [] u []) []) (slice_get s.1.outputs o) []) (slice_get flow.steps n) []) none
      ∙ empty (slice_get flow.steps n)
      ∙ sym (nothing-at [] w e)
    where
      none_of : (p : Option (Name × ℕ)) → option_map_or no_marks p [] ≡ []
      none_of None = refl
      none_of (Some p) = refl

      empty : (s : Option (Name × Step)) → option_map_or (λ (s : Name × Step). option_map_or no_marks (slice_get s.1.outputs o) []) s [] ≡ []
      empty None = refl
      empty (Some s) = none_of (slice_get s.1.outputs o)
  unmade-told n o (i ∷ q) w none e = absurd (none-some w e)

  -- what has a number has its name's thing
  named-number : {A : Type 0} (n : Name) (xs : List (Name × A)) (x : A) → slice_get xs (position n xs) ≡ Some (n, x) → named n xs ≡ Some x
  named-number n [] x e = absurd (none-some (n, x) e)
  named-number {A = A} n (y ∷ xs) x e = by (same_name n y.0) e (named-number n xs x)
    where
      by : (b : Bool) → slice_get (y ∷ xs) (if b then 0 else suc (position n xs)) ≡ Some (n, x) → (slice_get xs (position n xs) ≡ Some (n, x) → named n xs ≡ Some x) → (if b then Some y.1 else named n xs) ≡ Some x
      by true k rec = ap (λ z. Some z.1) (same_Some y (n, x) k)
      by false k rec = rec k

  some-out : (x : Name × Delivered) (xs : List (Name × Delivered)) → [] ≡ x ∷ xs → ⊥
  some-out x xs h = cc

  made-told : (t o : Name) (g : InstanceStep) → IsStepOf flow g → t ≡ g.step.step → ShapeOf known (Some g) (slice_index_or shapes (position t flow.steps) no_shape) → (q : Place) (w : Traced) → IsWhole w → at (unwrap_or (named o g.step.outputs) nothing_delivered).value q ≡ Some w → told (output t o) q ≡ marks_of w
  made-told t o g s same shows q w whole e =
      let n = position t flow.steps in
      let u = slice_index_or shapes n no_shape in
      let here : slice_get flow.steps n ≡ Some (t, s.step) = subst (λ m. slice_get flow.steps (position m flow.steps) ≡ Some (m, s.step)) (sym same) s.here in
      let outs : outputs_of flow t ≡ s.step.outputs = ap (λ p. option_map_or (λ (r : Step). r.outputs) p []) (named-number t flow.steps s.step here) in
      ap (λ j. output_told node_marks flow shapes n j q) (ap (position o) outs)
      ∙ ap (λ p. option_map_or (λ (r : Name × Step). option_map_or (λ (p : Name × ℕ). option_map_or (λ (x : Place × Shape). node_marks r.0 x.0 x.1) (reached [] u q) []) (slice_get r.1.outputs (position o s.step.outputs)) []) p []) here
      ∙ outputs-told t s.gives s.levels g.step.iteration q w (option_map_or (λ (x : Place × Shape). node_marks t x.0 x.1) (reached [] u q) []) (g.step.outputs ≡ [] → ⊥)
      (λ some k d h. there-told t w (reached [] u q) (used-at (spot [] t) (s.gives k) d u g.step.iteration [] s.levels q
      (subst (λ m. ShowsKnown (job_at m) known [] u g.step.iteration) (sym same) (shows some) q (sym (output-at (spot [] t) known (s.gives k) d g.step.iteration [] s.levels q w h) ∙ whole)) w h))
      o 0 s.step.outputs (λ p rs h none. some-out _ _ (sym none ∙ s.outputs ∙ ap (outputs_by [] g.step.step s.gives s.levels g.step.iteration 0) h))
      (subst (λ m. at (unwrap_or (named o (outputs_by [] m s.gives s.levels g.step.iteration 0 s.step.outputs)) nothing_delivered).value q ≡ Some w) (sym same) (subst (λ os. at (unwrap_or (named o os) nothing_delivered).value q ≡ Some w) s.outputs e))

  found-is : (t : Name) (gs : List InstanceStep) (g : InstanceStep) → find (λ (g : InstanceStep). same_name t g.step.step) gs ≡ Some g → In g gs × (t ≡ g.step.step)
  found-is t [] g e = absurd (none-some g e)
  found-is t (y ∷ gs) g e = by (same_name t y.step.step) refl e (found-is t gs g)
    where
      by : (b : Bool) → same_name t y.step.step ≡ b → cond b (Some y) (find (λ (g : InstanceStep). same_name t g.step.step) gs) ≡ Some g → (find (λ (g : InstanceStep). same_name t g.step.step) gs ≡ Some g → In g gs × (t ≡ g.step.step)) → In g (y ∷ gs) × (t ≡ g.step.step)
      by true k h rec = let p = same_Some y g h in (inl (sym p), same_name-is t y.step.step k ∙ ap (λ (z : InstanceStep). z.step.step) p)
      by false k h rec = let r = rec h in (inr r.0, r.1)

  pub link-marks : (l : Link) (q : Place) (w : Traced) → IsWhole w → at (link_delivers step_of given_here fs l).value q ≡ Some w → told l q ≡ marks_of w
  link-marks (input x) q w whole e = input-told flow.inputs x q w e
  link-marks (output t o) q w whole e = by (find (λ (g : InstanceStep). same_name t g.step.step) fs) refl e (shown t)
    where
      by : (f : Option InstanceStep) → find (λ (g : InstanceStep). same_name t g.step.step) fs ≡ f → at (option_map_or (λ (g : InstanceStep). unwrap_or (named o g.step.outputs) nothing_delivered) f nothing_delivered).value q ≡ Some w → ShapeOf known f (slice_index_or shapes (position t flow.steps) no_shape) → told (output t o) q ≡ marks_of w
      by None f h s = unmade-told (position t flow.steps) (position o (outputs_of flow t)) q w s h
      by (Some g) f h s = let r = found-is t fs g f in made-told t o g (stand g r.0) r.1 s q w whole h

  -- ---- feeds

  abbrev delivers : Link → Delivered
  delivers l = link_delivers step_of given_here fs l

  abbrev values : List Link → Trees Origin Scalar
  values ls = trees_of (map (λ (d : Delivered). d.value) (map delivers ls))

  links-marks : (ls : List Link) → list_all known (all_notes (values ls)) ≡ true → map mark_of (all_used (values ls)) ≡ flat_map (λ l. link_told element_marks node_marks flow shapes l []) (map (link_numbered flow) ls)
  links-marks [] whole = refl
  links-marks (l ∷ ls) whole =
      let parts = and_parts (list_all known (notes (delivers l).value)) (list_all known (all_notes (values ls))) (sym (list_all-append known (notes (delivers l).value) (all_notes (values ls))) ∙ whole) in
      map-append mark_of (used (delivers l).value) (all_used (values ls))
      ∙ ap₂ (λ a b. a ++ b) (sym (link-marks l [] (delivers l).value parts.0 refl)) (links-marks ls parts.1)

  links-at : (ls : List Link) (i : ℕ) (q : Place) (w : Traced) → IsWhole w → option_and_then (λ u. at u q) (item_at (values ls) i) ≡ Some w → option_map_or (λ l. link_told element_marks node_marks flow shapes l q) (slice_get (map (link_numbered flow) ls) i) [] ≡ marks_of w
  links-at [] i q w whole e = absurd (none-some w e)
  links-at (l ∷ ls) zero q w whole e = link-marks l q w whole e
  links-at (l ∷ ls) (suc i) q w whole e = links-at ls i q w whole e

  merge-marks : (ls : List Link) (q : Place) (w : Traced) → IsWhole w → at (merged (map delivers ls)).value q ≡ Some w → merge_told element_marks node_marks flow shapes (map (link_numbered flow) ls) q ≡ marks_of w
  merge-marks [] [] w whole e = sym (nothing-at [] w e)
  merge-marks [] (i ∷ q) w whole e = absurd (none-some w e)
  merge-marks (l ∷ ls) [] w whole e =
      let same = same_Some (merged (map delivers (l ∷ ls))).value w e in
      sym (links-marks (l ∷ ls) (and_parts (known fixed) (list_all known (all_notes (values (l ∷ ls)))) (subst IsWhole (sym same) whole)).1) ∙ ap marks_of same
  merge-marks (l ∷ ls) (i ∷ q) w whole e = links-at (l ∷ ls) i q w whole e

  -- what stands at a place of what a feed delivers used what is told there, where all of it is known
  pub feed-marks : (d : Feed) (q : Place) (w : Traced) → IsWhole w → at (feed_delivers step_of given_here fs d).value q ≡ Some w → feed_marks flow shapes (feed_numbered flow d) q ≡ marks_of w
  feed-marks (link l) q w whole e = link-marks l q w whole e
  feed-marks (merge ls) q w whole e = merge-marks ls q w whole e
  feed-marks (constant v) q w whole e = sym (ap (map mark_of) (fixed-at v q w e))
