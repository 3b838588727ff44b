-- Where the sources of a job are known, so are all nodes of what it binds.
use Rattle.std.specs.List.{list_all}
use Rattle.std.specs.Option.{option_map_or}
use Rattle.std.specs.Prelude.{◌≡◌, refl, ◌&&◌, ℕ, zero, suc, Bool, true, false, if◌then◌else◌, List, [], ◌∷◌, ◌++◌, Option, Some, None, option_and_then}
use Rattle.std.proofs.Common.{ap₂, subst}
use Rattle.std.proofs.lemmas.Bool.{and_parts}
use Rattle.std.proofs.lemmas.Option.{none-some, same_Some}
use Rattle.tv_lemmas.specs.Members.{Each}
use Rattle.tv_value.specs.Nested.{Place, Trees, all_notes, at, item_at, leaf, list, map_trees, no_trees, notes, tree}
use Rattle.tv_value.specs.Orders.{named, same_name}
use Rattle.tv_value.specs.Strategies.{Strategies, Strategy, cross, dot, prefix, no_strategies, port, strategy}
use Rattle.tv_value.specs.Values.{Name, Scalar, fault, text}
use Rattle.tv_strategy.specs.Iterations.{Binding, End, Iteration, Iterations, added, cross_of, crossed, crossed_end, dot_of, each_crossed, each_paired, end_with, iteration, job, paired, paired_end, passed, stopped, walk, walk_each}
use Rattle.tv_strategy.specs.Origins.{Origin, Traced}
use Rattle.tv_strategy.specs.Sources.{AtAllNodes, AtNodes}
use Rattle.tv_strategy.proofs.Sources.{each-append}
use Rattle.tv_strategy.proofs.ThereAll.{each-parts}
use Rattle.tv_model.specs.instance.Delivered.{Ported}
use Rattle.tv_model.specs.instance.Steps.{port_iteration}

module _ (P : Origin → Type 0) where
  mutual
    have-notes : (v : Traced) → Each P (notes v) → AtNodes P v
    have-notes (leaf o a) h = h.0
    have-notes (list o vs) h = (h.0, have-all_notes vs h.1)

    have-all_notes : (vs : Trees Origin Scalar) → Each P (all_notes vs) → AtAllNodes P vs
    have-all_notes no_trees h = tt
    have-all_notes (tree v vs) h = let r = each-parts P (notes v) (all_notes vs) h in (have-notes v r.0, have-all_notes vs r.1)

  abbrev IsOf : Name × Traced → Type 0
  IsOf r = AtNodes P r.1

  -- where P holds of a job's sources, it holds at every node of what it binds
  abbrev EndBinds : List Origin → End → Type 0
  EndBinds s (job b) = Each P s → Each IsOf b
  EndBinds s (passed m e) = Unit {0}

  abbrev mutual
    JobsBind : Iteration → Type 0
    JobsBind (leaf s e) = EndBinds s e
    JobsBind (list s ts) = AllJobsBind ts

    AllJobsBind : Iterations → Type 0
    AllJobsBind no_trees = Unit {0}
    AllJobsBind (tree t ts) = JobsBind t × AllJobsBind ts

  stopped-bind : (p : Name) (o : Origin) (a : Scalar) → EndBinds (o ∷ []) (stopped p o a)
  stopped-bind p o (text t) = λ h. (h.0, tt)
  stopped-bind p o (fault e) = tt

  mutual
    walk-bind : (p : Name) (k : ℕ) (v : Traced) → JobsBind (walk p k v)
    walk-bind p zero (leaf o a) = λ h. (h.0, tt)
    walk-bind p zero (list o vs) = λ h. (have-notes (list o vs) h, tt)
    walk-bind p (suc k) (leaf o a) = stopped-bind p o a
    walk-bind p (suc k) (list o vs) = walk_each-bind p k vs

    walk_each-bind : (p : Name) (k : ℕ) (vs : Trees Origin Scalar) → AllJobsBind (walk_each p k vs)
    walk_each-bind p k no_trees = tt
    walk_each-bind p k (tree v vs) = (walk-bind p k v, walk_each-bind p k vs)

  end_with-bind : (s r : List Origin) (b : Binding) (e : End) → (Each P s → Each IsOf b) → EndBinds r e → EndBinds (s ++ r) (end_with b e)
  end_with-bind s r b (job c) h k = λ w. let x = each-parts P s r w in each-append IsOf b c (h x.0) (k x.1)
  end_with-bind s r b (passed m e) h k = tt

  mutual
    added-bind : (s : List Origin) (b : Binding) (t : Iteration) → (Each P s → Each IsOf b) → JobsBind t → JobsBind (added s b t)
    added-bind s b (leaf r e) h k = end_with-bind s r b e h k
    added-bind s b (list r ts) h k = all_added-bind s b ts h k

    all_added-bind : (s : List Origin) (b : Binding) (ts : Iterations) → (Each P s → Each IsOf b) → AllJobsBind ts → AllJobsBind (map_trees (λ r. s ++ r) (end_with b) ts)
    all_added-bind s b no_trees h k = tt
    all_added-bind s b (tree t ts) h k = (added-bind s b t h k.0, all_added-bind s b ts h k.1)

  crossed_end-bind : (s : List Origin) (e : End) (u : Iteration) → EndBinds s e → JobsBind u → JobsBind (crossed_end s e u)
  crossed_end-bind s (job b) u h k = added-bind s b u h k
  crossed_end-bind s (passed m e) u h k = tt

  mutual
    crossed-bind : (t u : Iteration) → JobsBind t → JobsBind u → JobsBind (crossed t u)
    crossed-bind (leaf s e) u h k = crossed_end-bind s e u h k
    crossed-bind (list s ts) u h k = each_crossed-bind ts u h k

    each_crossed-bind : (ts : Iterations) (u : Iteration) → AllJobsBind ts → JobsBind u → AllJobsBind (each_crossed ts u)
    each_crossed-bind no_trees u h k = tt
    each_crossed-bind (tree t ts) u h k = (crossed-bind t u h.0 k, each_crossed-bind ts u h.1 k)

  paired_end-bind : (s : List Origin) (e : End) (u : Iteration) → EndBinds s e → JobsBind u → JobsBind (paired_end s e u)
  paired_end-bind s (job b) u h k = added-bind s b u h k
  paired_end-bind s (passed m e) u h k = tt

  more-bind : (s r : List Origin) (e : End) → EndBinds r e → EndBinds (s ++ r) e
  more-bind s r (job b) h = λ w. h (each-parts P s r w).1
  more-bind s r (passed m e) h = tt

  mutual
    paired-bind : (t u : Iteration) → JobsBind t → JobsBind u → JobsBind (paired t u)
    paired-bind (leaf s e) u h k = paired_end-bind s e u h k
    paired-bind (list s ts) (leaf r e) h k = more-bind s r e k
    paired-bind (list s ts) (list r us) h k = each_paired-bind ts us h k

    each_paired-bind : (ts us : Iterations) → AllJobsBind ts → AllJobsBind us → AllJobsBind (each_paired ts us)
    each_paired-bind no_trees us h k = tt
    each_paired-bind (tree t ts) no_trees h k = tt
    each_paired-bind (tree t ts) (tree u us) h k = (paired-bind t u h.0 k.0, each_paired-bind ts us h.1 k.1)

  module _ (ports : Name → Iteration) (fed : (p : Name) → JobsBind (ports p)) where
    mutual
      iteration-bind : (s : Strategy) → JobsBind (iteration ports s)
      iteration-bind (port p) = fed p
      iteration-bind (cross cs) = cross_of-bind cs
      iteration-bind (dot cs) = dot_of-bind cs
      iteration-bind (prefix l r) = paired-bind (iteration ports l) (iteration ports r) (iteration-bind l) (iteration-bind r)

      cross_of-bind : (cs : Strategies) → JobsBind (cross_of ports cs)
      cross_of-bind no_strategies = λ h. tt
      cross_of-bind (strategy c cs) = crossed-bind (iteration ports c) (cross_of ports cs) (iteration-bind c) (cross_of-bind cs)

      dot_of-bind : (cs : Strategies) → JobsBind (dot_of ports cs)
      dot_of-bind no_strategies = λ h. tt
      dot_of-bind (strategy c no_strategies) = iteration-bind c
      dot_of-bind (strategy c (strategy d ds)) = paired-bind (iteration ports c) (dot_of ports (strategy d ds)) (iteration-bind c) (dot_of-bind (strategy d ds))

  -- the job at a place
  item-bind : (ts : Iterations) (i : ℕ) (t : Iteration) → AllJobsBind ts → item_at ts i ≡ Some t → JobsBind t
  item-bind no_trees i t h e = absurd (none-some t e)
  item-bind (tree u us) zero t h e = subst JobsBind (same_Some u t e) h.0
  item-bind (tree u us) (suc i) t h e = item-bind us i t h.1 e

  job-bind : (t : Iteration) (q : Place) (s : List Origin) (b : Binding) → JobsBind t → at t q ≡ Some (leaf s (job b)) → Each P s → Each IsOf b
  job-bind t [] s b h e = subst JobsBind (same_Some t (leaf s (job b)) e) h
  job-bind (leaf r x) (i ∷ q) s b h e = absurd (none-some _ e)
  job-bind (list r ts) (i ∷ q) s b h e = inner (item_at ts i) refl e (λ u k j. job-bind u q s b k j)
    where
      inner : (o : Option Iteration) → item_at ts i ≡ o → option_and_then (λ u. at u q) o ≡ Some (leaf s (job b)) → ((u : Iteration) → JobsBind u → at u q ≡ Some (leaf s (job b)) → Each P s → Each IsOf b) → Each P s → Each IsOf b
      inner None f k rec = absurd (none-some _ k)
      inner (Some u) f k rec = rec u (item-bind ts i u h f) k

-- ---- as a test

module _ (known : Origin → Bool) where
  abbrev IsKnown : Origin → Type 0
  IsKnown o = known o ≡ true

  all-known : (os : List Origin) → list_all known os ≡ true → Each IsKnown os
  all-known [] e = tt
  all-known (o ∷ os) e = let p = and_parts (known o) (list_all known os) e in (p.0, all-known os p.1)

  known-all : (os : List Origin) → Each IsKnown os → list_all known os ≡ true
  known-all [] h = refl
  known-all (o ∷ os) h = ap₂ (λ a b. a && b) h.0 (known-all os h.1)

  named-known : (b : Binding) (p : Name) (w : Traced) → Each (IsOf IsKnown) b → named p b ≡ Some w → list_all known (notes w) ≡ true
  named-known [] p w h e = absurd (none-some w e)
  named-known (r ∷ b) p w h e = by (same_name p r.0) e (named-known b p w h.1)
    where
      by : (t : Bool) → (if t then Some r.1 else named p b) ≡ Some w → (named p b ≡ Some w → list_all known (notes w) ≡ true) → list_all known (notes w) ≡ true
      by true k rec = subst (λ v. list_all known (notes v) ≡ true) (same_Some r.1 w k) (known-all (notes r.1) (Rattle.tv_strategy.proofs.Sources.notes-have IsKnown r.1 h.0))
      by false k rec = rec k

  ports-bind : (inputs : List (Name × Ported)) (p : Name) → JobsBind IsKnown (port_iteration inputs p)
  ports-bind inputs p = by (named p inputs)
    where
      by : (o : Option Ported) → JobsBind IsKnown (option_map_or (λ (d : Ported). walk p d.mismatch d.value) o (leaf [] (job [])))
      by None = λ h. tt
      by (Some d) = walk-bind IsKnown p d.mismatch d.value

  -- a value that a job binds whose sources are known
  pub bound-known : (inputs : List (Name × Ported)) (s : Strategy) (q : Place) (r : List Origin) (b : Binding) → at (iteration (port_iteration inputs) s) q ≡ Some (leaf r (job b)) → list_all known r ≡ true → (p : Name) (w : Traced) → named p b ≡ Some w → list_all known (notes w) ≡ true
  bound-known inputs s q r b e k p w f =
      named-known b p w
      (job-bind IsKnown (iteration (port_iteration inputs) s) q r b (iteration-bind IsKnown (port_iteration inputs) (ports-bind inputs) s) e (all-known r k)) f
