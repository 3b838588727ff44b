-- What is known of a leaf of an output is found in the output's tree.
use Rattle.std.specs.Prelude.{◌≡◌, refl, ℕ, zero, suc, pred, ◌+◌, true, if◌then◌else◌, List, [], ◌∷◌, ◌++◌, Option, Some, None, option_and_then}
use Rattle.std.proofs.Common.{arith, sym, ap, subst, ◌∙◌, append_assoc, append-nil}
use Rattle.std.proofs.lemmas.Bool.{true≢false}
use Rattle.std.proofs.lemmas.Option.{none-some}
use Rattle.tv_value.specs.Nested.{Place, Trees, at, children, item_at, leaf, list, map_trees, no_trees, tree}
use Rattle.tv_value.specs.Values.{ErrorDoc, JobName, Scalar, Value, fault, fault_value}
use Rattle.tv_strategy.specs.Iterations.{End, Iteration, Iterations, job, passed}
use Rattle.tv_strategy.specs.Levels.{HasLevels}
use Rattle.tv_strategy.specs.Origins.{Origin, from_job, plain, traced}
use Rattle.tv_strategy.specs.Outputs.{output_below, outputs_from}
use Rattle.tv_model.specs.instance.Delivered.{Delivered}
use Rattle.tv_model.specs.instance.Steps.{spot}
use Rattle.tv_parts.specs.Below.{Below, value_in}
use Rattle.tv_parts.specs.Partials.{Partial, closed, growing, item, known_at, part_of, wanting, whole}
use Rattle.tv_parts.proofs.Wholeness.{whole-is}
use Rattle.tv_outputs.specs.FoundIn.{found_in}
use Rattle.tv_binding.proofs.Finding.{found-in}
use Rattle.tv_model.specs.instance.ByResults.{InstanceStep, Results, result_at}
use Rattle.tv_model.specs.instance.Events.{Events, Extends, known_by}
use Rattle.tv_model.specs.instance.Fitting.{FitStep}
use Rattle.tv_model.specs.instance.Wholeness.{origin_at}
use Rattle.tv_framing.proofs.instances.Counting.{whole-by_events}
use Rattle.tv_framing.specs.Arriving.{levels_below, part_so_far}
use Rattle.tv_framing.specs.Gaining.{IsOutputOf}
use Rattle.tv_framing.proofs.LawLemmas.{parts-are_below}
use Rattle.tv_framing.proofs.engine.Changes.{known-wanting}
use Rattle.tv_framing.proofs.engine.Turning.{whole-there, levels-at}
use Rattle.tv_framing.proofs.faults.Parts.{known-below}
use Rattle.tv_framing.proofs.faults.Places.{mapped-at}

-- ---- leaves of outputs

mutual
  traced-leaf : (o : Origin) (v : Value) (x : Place) (n : Origin) (a : Scalar) → at (traced o v) x ≡ Some (leaf n a) → n ≡ o
  traced-leaf o (leaf u b) [] n a h = cc
  traced-leaf o (leaf u b) (i ∷ x) n a h = absurd (none-some (leaf n a) h)
  traced-leaf o (list u vs) [] n a h = absurd (cc)
  traced-leaf o (list u vs) (i ∷ x) n a h = traced-leaves o vs i x n a h

  traced-leaves : (o : Origin) (vs : Trees (Unit {0}) Scalar) (i : ℕ) (x : Place) (n : Origin) (a : Scalar) → option_and_then (λ u. at u x) (item_at (map_trees (λ _. o) (λ b. b) vs) i) ≡ Some (leaf n a) → n ≡ o
  traced-leaves o no_trees i x n a h = absurd (none-some (leaf n a) h)
  traced-leaves o (tree v vs) zero x n a h = traced-leaf o v x n a h
  traced-leaves o (tree v vs) (suc i) x n a h = traced-leaves o vs i x n a h

-- the leaf at x is of the end that stands at a prefix of x in an iteration, where `full` is its whole place
record IsOfEnd (named : Place → JobName) (full : Place → Place) (stands : Place → Option Iteration) (x : Place) (o : Origin) : Type 0 where
  above : Place
  inside : Place
  sources : List Origin
  end : End
  node : stands above ≡ Some (leaf sources end)
  split : x ≡ above ++ inside
  origin : o ≡ origin_at named (full above) (leaf sources end)

module _ (named : Place → JobName) (made : Place → Value) (declared : ℕ) where
  mutual
    output-leaf : (t : Iteration) (q x : Place) (d : ℕ) (o : Origin) (a : Scalar) → at (output_below named made declared q d t) x ≡ Some (leaf o a) → IsOfEnd named (λ y. q ++ y) (at t) x o
    output-leaf (leaf s (job b)) q x d o a h = record {
      above = [];
      inside = x;
      sources = s;
      end = job b;
      node = refl;
      split = refl;
      origin = traced-leaf (from_job (named q)) (made q) x o a h ∙ ap (λ p. from_job (named p)) (sym (append-nil q));
    }
    output-leaf (leaf s (passed m e)) q [] d o a h = record {
      above = [];
      inside = [];
      sources = s;
      end = passed m e;
      node = refl;
      split = refl;
      origin = sym (same-note h) ∙ ap (λ p. origin_at named p (leaf s (passed m e))) (sym (append-nil q));
    }
      where
        same-note : {n k : Origin} {b c : Scalar} → Some (leaf n b) ≡ Some (leaf k c) → n ≡ k
        same-note f = cc
    output-leaf (leaf s (passed m e)) q (i ∷ x) d o a h = absurd (none-some (leaf o a) h)
    output-leaf (list s ts) q [] d o a h = absurd (cc)
    output-leaf (list s ts) q (i ∷ x) d o a h =
        let r = outputs-leaf ts q x (pred d) 0 i i (zero_left i) o a h in
        record {
          above = i ∷ r.above;
          inside = r.inside;
          sources = r.sources;
          end = r.end;
          node = r.node;
          split = ap (λ l. i ∷ l) r.split;
          origin = r.origin;
        }
      where
        zero_left : (n : ℕ) → n ≡ 0 + n
        zero_left n = omega arith

    outputs-leaf : (ts : Iterations) (q x : Place) (d i m j : ℕ) → j ≡ i + m → (o : Origin) (a : Scalar) → option_and_then (λ u. at u x) (item_at (outputs_from named made declared q d i ts) m) ≡ Some (leaf o a) → IsOfEnd named (λ y. q ++ j ∷ y) (λ y. option_and_then (λ u. at u y) (item_at ts m)) x o
    outputs-leaf no_trees q x d i m j l o a h = absurd (none-some (leaf o a) h)
    outputs-leaf (tree t ts) q x d i zero j l o a h =
        let r = output-leaf t (q ++ i ∷ []) x d o a h in
        record {
          above = r.above;
          inside = r.inside;
          sources = r.sources;
          end = r.end;
          node = r.node;
          split = r.split;
          origin = r.origin ∙ ap (λ p. origin_at named p (leaf r.sources r.end)) (append_assoc q (i ∷ []) r.above ∙ ap (λ n. q ++ n ∷ r.above) (same j i l));
        }
      where
        same : (b c : ℕ) → b ≡ c + 0 → c ≡ b
        same b c f = omega arith
    outputs-leaf (tree t ts) q x d i (suc m) j l o a h = outputs-leaf ts q x d (suc i) m j (next j i m l) o a h
      where
        next : (b c e : ℕ) → b ≡ c + suc e → b ≡ suc c + e
        next b c e f = omega arith

-- ---- what stands in a whole part is found

whole-part : (y z : Place) (r : Partial Value) (v w : Value) → Below r v → whole (known_at y r) ≡ true → at v (y ++ z) ≡ Some w → found_in (y ++ z) r ≡ Some w
whole-part [] z r v w b e h = found-in z r (value_in r) (ap (λ k. if k then Some (value_in r) else None) e) ∙ ap (λ u. at u z) (whole-is r v b e) ∙ h
whole-part (i ∷ y) z wanting v w b e h = absurd (true≢false (sym e ∙ ap whole (known-wanting (i ∷ y))))
whole-part (i ∷ y) z (item u) v w b e h = ap (λ k. at k (i ∷ y ++ z)) b ∙ h
whole-part (i ∷ y) z (growing ps) v w b e h = by (item_at (children v) i) refl h (λ u below k. whole-part y z (part_of ps i) u w below e k)
  where
    by : (o : Option Value) → item_at (children v) i ≡ o → option_and_then (λ u. at u (y ++ z)) o ≡ Some w → ((u : Value) → Below (part_of ps i) u → at u (y ++ z) ≡ Some w → found_in (y ++ z) (part_of ps i) ≡ Some w) → found_in (y ++ z) (part_of ps i) ≡ Some w
    by None g k rec = absurd (none-some w k)
    by (Some u) g k rec = rec u (known-below (i ∷ []) (growing ps) v u b (ap (option_and_then (λ x. at x [])) g)) k
whole-part (i ∷ y) z (closed ps) v w b e h = by (item_at (children v) i) refl h (λ u below k. whole-part y z (part_of ps i) u w below e k)
  where
    by : (o : Option Value) → item_at (children v) i ≡ o → option_and_then (λ u. at u (y ++ z)) o ≡ Some w → ((u : Value) → Below (part_of ps i) u → at u (y ++ z) ≡ Some w → found_in (y ++ z) (part_of ps i) ≡ Some w) → found_in (y ++ z) (part_of ps i) ≡ Some w
    by None g k rec = absurd (none-some w k)
    by (Some u) g k rec = rec u (known-below (i ∷ []) (closed ps) v u b (ap (option_and_then (λ x. at x [])) g)) k

-- ---- an output of a step of an instance

module _ (instance : JobName) (results : Results) (g : InstanceStep) (d : Delivered) (out : IsOutputOf instance results g d) (leveled : HasLevels g.step.iteration out.2) (es : Events) (extends : Extends results es) (fit : FitStep g es) where
  abbrev told_tree : Partial Value
  told_tree = part_so_far g.step.step out.0 out.2 out.1 es

  -- THE LEAF: where its origin is known it is found
  pub leaf-found : (x : Place) (o : Origin) (e : ErrorDoc) → at d.value x ≡ Some (leaf o (fault e)) → known_by instance es o ≡ true → found_in x told_tree ≡ Some (fault_value e)
  leaf-found x o e h known =
      let l = output-leaf (spot instance g.step.step) (result_at results g.step.step out.0) out.1 g.step.iteration [] x out.2 o (fault e) (ap (λ v. at v x) (sym out.3) ∙ h) in
      let node : Iteration = leaf l.sources l.end in
      let counted = whole-by_events g instance es fit node l.above (levels_below out.2 l.above) (levels-at g.step.iteration out.2 leveled l.above node l.node) l.node in
      let all : whole (known_at l.above told_tree) ≡ true = whole-there g out.0 out.2 out.1 es fit leveled l.above node l.node ∙ sym counted ∙ ap (known_by instance es) (sym l.origin) ∙ known in
      subst (λ q. found_in q told_tree ≡ Some (fault_value e)) (sym l.split)
      (whole-part l.above l.inside told_tree (plain d.value) (fault_value e) (parts-are_below instance results g d out es extends fit) all
      (ap (at (plain d.value)) (sym l.split) ∙ mapped-at (λ n. tt) d.value x (leaf o (fault e)) h))
