-- What is told of an output is below its value.
use Rattle.std.specs.Prelude.{◌≡◌, refl, ℕ, zero, suc, pred, ◌+◌, [], ◌∷◌, ◌++◌, Bool, true, false, Option, Some, None, option_and_then, if◌then◌else◌, slice_get, unwrap_or}
use Rattle.std.proofs.Common.{arith, sym, ap, ap₂, ◌∙◌, append_assoc, append-nil}
use Rattle.std.specs.Cmp.Lexicographic.{bytes_decides}
use Rattle.std.proofs.lemmas.Bool.{true≢false}
use Rattle.std.proofs.lemmas.Option.{none-some, same_Some}
use Rattle.tv_value.specs.Nested.{leaf, list, Trees, no_trees, tree, Place, at, count, item_at, map_trees}
use Rattle.tv_value.specs.Orders.{same_name}
use Rattle.tv_value.specs.Values.{ErrorDoc, JobName, Scalar, fault_value, Value}
use Rattle.tv_strategy.specs.Origins.{Origin, Traced, from_job, plain, traced}
use Rattle.tv_strategy.specs.Iterations.{job, passed, Iteration, Iterations}
use Rattle.tv_strategy.specs.Outputs.{output_below, outputs_from}
use Rattle.tv_model.specs.instance.Delivered.{Delivered}
use Rattle.tv_model.specs.instance.Steps.{spot}
use Rattle.tv_parts.specs.Below.{Below}
use Rattle.tv_parts.specs.Partials.{Partial}
use Rattle.tv_parts.proofs.Changes.{arrive-below, close-below}
use Rattle.tv_model.specs.instance.Events as events
use Rattle.tv_framing.specs.Arriving.{levels_below, part_so_far, put_event}
use Rattle.tv_framing.specs.Gaining.{IsOutputOf}
use Rattle.tv_framing.proofs.starts.Plain.{plain-traced}
use Rattle.tv_model.specs.instance.ByResults.{InstanceStep, Results, result_at}
use Rattle.tv_model.specs.instance.Events.{Event, Events, Extends, event_place, event_step, fault_set, gave, took}
use Rattle.tv_model.specs.instance.Fitting.{FitStep, FitsNode}

-- ---- what stands in an output

module _ (named : Place → JobName) (made : Place → Value) (declared : ℕ) where
  mutual
    pub output-reaches : (t : Iteration) (q r : Place) (d : ℕ) (u : Iteration) → at t r ≡ Some u → at (output_below named made declared q d t) r ≡ Some (output_below named made declared (q ++ r) (levels_below d r) u)
    output-reaches t q [] d u h = ap₂ (λ x y. Some (output_below named made declared x d y)) (sym (append-nil q)) (same_Some t u h)
    output-reaches (leaf s e) q (i ∷ r) d u h = absurd (none-some u h)
    output-reaches (list s ts) q (i ∷ r) d u h = outputs-reach ts q r (pred d) 0 i i u (zero_left i) h
      where
        zero_left : (n : ℕ) → n ≡ 0 + n
        zero_left n = omega arith

    outputs-reach : (ts : Iterations) (q r : Place) (d i m j : ℕ) (u : Iteration) → j ≡ i + m → option_and_then (λ x. at x r) (item_at ts m) ≡ Some u → option_and_then (λ x. at x r) (item_at (outputs_from named made declared q d i ts) m) ≡ Some (output_below named made declared (q ++ j ∷ r) (levels_below d r) u)
    outputs-reach no_trees q r d i m j u l h = absurd (none-some u h)
    outputs-reach (tree t ts) q r d i zero j u l h = output-reaches t (q ++ i ∷ []) r d u h ∙ ap (λ x. Some (output_below named made declared x (levels_below d r) u)) (append_assoc q (i ∷ []) r ∙ ap (λ n. q ++ n ∷ r) (same j i l))
      where
        same : (a b : ℕ) → a ≡ b + 0 → b ≡ a
        same a b f = omega arith
    outputs-reach (tree t ts) q r d i (suc m) j u l h = outputs-reach ts q r d (suc i) m j u (next j i m l) h
      where
        next : (a b c : ℕ) → a ≡ b + suc c → a ≡ suc b + c
        next a b c f = omega arith

-- the plain value has the plain nodes
mutual
  plain-at : (t : Traced) (r : Place) (w : Traced) → at t r ≡ Some w → at (plain t) r ≡ Some (plain w)
  plain-at t [] w h = ap (λ x. Some (plain x)) (same_Some t w h)
  plain-at (leaf o a) (i ∷ r) w h = absurd (none-some w h)
  plain-at (list o ts) (i ∷ r) w h = plains-at ts r i w h

  plains-at : (ts : Trees Origin Scalar) (r : Place) (i : ℕ) (w : Traced) → option_and_then (λ x. at x r) (item_at ts i) ≡ Some w → option_and_then (λ x. at x r) (item_at (map_trees (λ o. tt) (λ a. a) ts) i) ≡ Some (plain w)
  plains-at no_trees r i w h = absurd (none-some w h)
  plains-at (tree t ts) r zero w h = plain-at t r w h
  plains-at (tree t ts) r (suc i) w h = plains-at ts r i w h

-- what is so of all events is so of the first and of the rest
pub extends-parts : (results : Results) (e : Event) (es : Events) → Extends results (e ∷ es) → Extends results (e ∷ []) × Extends results es
extends-parts results (gave t q vs) es x = ((x.0, tt), x.1)
extends-parts results (events.closed t q n) es x = (tt, x)
extends-parts results (fault_set t q g) es x = (tt, x)
extends-parts results (took t q) es x = (tt, x)

-- ---- an output after these events

module _ (instance : JobName) (results : Results) (f : InstanceStep) (d : Delivered) (out : IsOutputOf instance results f d) where
  abbrev named : Place → JobName
  named = spot instance f.step.step

  abbrev made : Place → Value
  made = result_at results f.step.step out.0

  reached : (q : Place) (u : Iteration) → at f.step.iteration q ≡ Some u → at (plain d.value) q ≡ Some (plain (output_below named made out.1 q (levels_below out.2 q) u))
  reached q u h = ap (λ v. at (plain v) q) out.3 ∙ plain-at (output_below named made out.1 [] out.2 f.step.iteration) q (output_below named made out.1 q (levels_below out.2 q) u) (output-reaches named made out.1 f.step.iteration [] q out.2 u h)

  abbrev no_note : Origin → Unit {0}
  no_note o = tt

  abbrev same_scalar : Scalar → Scalar
  same_scalar a = a

  outputs-count : (ts : Iterations) (q : Place) (l i : ℕ) → count (map_trees no_note same_scalar (outputs_from named made out.1 q l i ts)) ≡ count ts
  outputs-count no_trees q l i = refl
  outputs-count (tree t ts) q l i = ap (λ c. suc c) (outputs-count ts q l (suc i))

  if-own : (b : Bool) (x y : Partial Value) → b ≡ true → Below x (plain d.value) → Below (if b then x else y) (plain d.value)
  if-own true x y e h = h
  if-own false x y e h = absurd (true≢false (sym e))

  if-other : (b : Bool) (x y : Partial Value) → b ≡ false → Below y (plain d.value) → Below (if b then x else y) (plain d.value)
  if-other true x y e h = absurd (true≢false e)
  if-other false x y e h = h

  own-stands : (e : Event) → Extends results (e ∷ []) → same_name f.step.step (event_step e) ≡ true → (o : Option Iteration) → at f.step.iteration (event_place e) ≡ o → FitsNode e o → (p : Partial Value) → Below p (plain d.value) → Below (put_event f.step.step out.0 out.2 out.1 e p) (plain d.value)
  own-stands e x s None h k p b = absurd k
  own-stands (gave t q vs) x s (Some (leaf r (job c))) h k p b =
      let same : results f.step.step q ≡ vs = ap (λ n. results n q) ((bytes_decides f.step.step t).0 s) ∙ x.0 in
      let value : unwrap_or (slice_get vs out.0) (list tt no_trees) ≡ plain (traced (from_job (named q)) (made q)) = ap (λ l. unwrap_or (slice_get l out.0) (list tt no_trees)) (sym same) ∙ sym (plain-traced (from_job (named q)) (made q)) in
      if-own (same_name f.step.step t) _ p s (arrive-below q (unwrap_or (slice_get vs out.0) (list tt no_trees)) p (plain d.value) b (reached q (leaf r (job c)) h ∙ ap (λ (y : Value). Some y) (sym value)))
  own-stands (gave t q vs) x s (Some (leaf r (passed m g))) h k p b = absurd k
  own-stands (gave t q vs) x s (Some (list r ts)) h k p b = absurd k
  own-stands (events.closed t q n) x s (Some (leaf r g)) h k p b = absurd k
  own-stands (events.closed t q n) x s (Some (list r ts)) h k p b =
      if-own (same_name f.step.step t) _ p s (close-below q n p (plain d.value) tt (map_trees no_note same_scalar (outputs_from named made out.1 q (pred (levels_below out.2 q)) 0 ts)) b (reached q (list r ts) h) (outputs-count ts q (pred (levels_below out.2 q)) 0 ∙ k))
  own-stands (fault_set t q g) x s (Some (leaf r (job c))) h k p b = absurd k
  own-stands (fault_set t q g) x s (Some (leaf r (passed m c))) h k p b =
      let doc = fault_value (record g { depth = levels_below out.2 q + out.1 }) in
      let same : doc ≡ plain (output_below named made out.1 q (levels_below out.2 q) (leaf r (passed m c))) = ap (λ (y : ErrorDoc). fault_value (record y { depth = levels_below out.2 q + out.1 })) (sym k) in
      if-own (same_name f.step.step t) _ p s (arrive-below q doc p (plain d.value) b (reached q (leaf r (passed m c)) h ∙ ap (λ (y : Value). Some y) (sym same)))
  own-stands (fault_set t q g) x s (Some (list r ts)) h k p b = absurd k
  own-stands (took t q) x s (Some u) h k p b = b

  other-stands : (e : Event) → same_name f.step.step (event_step e) ≡ false → (p : Partial Value) → Below p (plain d.value) → Below (put_event f.step.step out.0 out.2 out.1 e p) (plain d.value)
  other-stands (gave t q vs) s p b = if-other (same_name f.step.step t) _ p s b
  other-stands (events.closed t q n) s p b = if-other (same_name f.step.step t) _ p s b
  other-stands (fault_set t q g) s p b = if-other (same_name f.step.step t) _ p s b
  other-stands (took t q) s p b = b

  -- BELOW: what is known of an output after these events is below its value, whatever the results not yet told are
  pub so-far-below : (es : Events) → Extends results es → FitStep f es → Below (part_so_far f.step.step out.0 out.2 out.1 es) (plain d.value)
  so-far-below [] x h = tt
  so-far-below (e ∷ es) x h = by (same_name f.step.step (event_step e)) refl (so-far-below es (extends-parts results e es x).1 h.1)
    where
      by : (b : Bool) → same_name f.step.step (event_step e) ≡ b → Below (part_so_far f.step.step out.0 out.2 out.1 es) (plain d.value) → Below (put_event f.step.step out.0 out.2 out.1 e (part_so_far f.step.step out.0 out.2 out.1 es)) (plain d.value)
      by true s b = own-stands e (extends-parts results e es x).0 s (at f.step.iteration (event_place e)) refl (h.0 s) (part_so_far f.step.step out.0 out.2 out.1 es) b
      by false s b = other-stands e s (part_so_far f.step.step out.0 out.2 out.1 es) b
