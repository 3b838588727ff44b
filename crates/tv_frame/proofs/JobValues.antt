-- What a known job binds is all known: at each leaf of its step's strategy, what stands at the leaf's part of the job's place.
use Rattle.std.specs.List.{list_all}
use Rattle.std.specs.Prelude.{◌≡◌, refl, ℕ, zero, suc, Bool, true, ◌&&◌, List, [], ◌∷◌, ◌++◌, Option, Some, None, option_and_then}
use Rattle.std.specs.Option.{option_map_or}
use Rattle.std.proofs.Common.{arith, sym, ap, subst, ◌∙◌}
use Rattle.std.proofs.Math.Path.{fun_ext}
use Rattle.std.proofs.lemmas.Bool.{and_parts}
use Rattle.std.proofs.lemmas.Option.{none-some, same_Some}
use Rattle.tv_lemmas.specs.Members.{Each, In}
use Rattle.tv_lemmas.proofs.Members.{in_each}
use Rattle.tv_value.specs.Nested.{Place, Trees, at, item_at, leaf, list, map_trees, no_trees, note, notes, tree}
use Rattle.tv_value.specs.Orders.{named}
use Rattle.tv_value.specs.Strategies.{Strategies, Strategy, cross, dot, prefix, no_strategies, port, strategy}
use Rattle.tv_value.specs.Values.{Name, Scalar, fault, text}
use Rattle.tv_flow.specs.Flows.{Flow, Step}
use Rattle.tv_strategy.specs.Conditions.{number_of}
use Rattle.tv_strategy.specs.Iterations.{Binding, End, Iteration, Iterations, added, cross_of, crossed, crossed_end, dot_of, each_crossed, each_paired, end_with, iteration, job, paired, paired_end, passed, stopped, walk, walk_each}
use Rattle.tv_strategy.specs.Levels.{IsJob}
use Rattle.tv_strategy.specs.Origins.{Origin, Traced}
use Rattle.tv_strategy.specs.Splits.{split}
use Rattle.tv_strategy.proofs.AtPlace.{JobsAt, split-jobs}
use Rattle.tv_strategy.proofs.Ends.{walk-at}
use Rattle.tv_strategy.proofs.Sources.{each-append}
use Rattle.tv_model.specs.instance.Delivered.{Ported}
use Rattle.tv_model.specs.instance.Steps.{port_iteration, port_mismatch, strategy_of}
use Rattle.tv_check.specs.Ports.{mismatches}
use Rattle.tv_matching.specs.Items.{Bound, Item, Stopped, all_known, kind_of, known_items}
use Rattle.tv_matching.specs.Told.{Spot}
use Rattle.tv_model.specs.instance.ByResults.{InstanceStep}
use Rattle.tv_model.specs.instance.Events.{gave}
use Rattle.tv_framing.specs.Frames.{FitsKind}
use Rattle.tv_framing.proofs.Frames.{known-stands}
use Rattle.tv_framing.proofs.matches.Leaves.{leaf-in}
use Rattle.tv_framing.proofs.matches.Steps.{IsMadeOf, value_in, walk_in}
use Rattle.tv_frame.proofs.KnownFeeds.{all-split}

module _ (known : Origin → Bool) where
  all-listed : (os : List Origin) → list_all known os ≡ true → all_known known os ≡ true
  all-listed [] h = refl
  all-listed (o ∷ os) h =
      let b = and_parts (known o) (list_all known os) h in
      ap (λ c. c && all_known known os) b.0 ∙ all-listed os b.1

  -- ---- where the sources of a job are known, so is all that it binds

  abbrev IsKnownBound : Bound → Type 0
  IsKnownBound r = all_known known (notes r.1) ≡ true

  abbrev EndBinds : List Origin → End → Type 0
  EndBinds s (job b) = all_known known s ≡ true → Each IsKnownBound b
  EndBinds s (passed m e) = Unit {0}

  abbrev mutual
    Binds : Iteration → Type 0
    Binds (leaf s e) = EndBinds s e
    Binds (list s ts) = AllBind ts

    AllBind : Iterations → Type 0
    AllBind no_trees = Unit {0}
    AllBind (tree t ts) = Binds t × AllBind ts

  stopped-binds : (p : Name) (o : Origin) (a : Scalar) → EndBinds (o ∷ []) (stopped p o a)
  stopped-binds p o (text t) = λ h. (h, tt)
  stopped-binds p o (fault e) = tt

  mutual
    walk-binds : (p : Name) (k : ℕ) (v : Traced) → Binds (walk p k v)
    walk-binds p zero v = λ h. (h, tt)
    walk-binds p (suc k) (leaf o a) = stopped-binds p o a
    walk-binds p (suc k) (list o vs) = walk_each-binds p k vs

    walk_each-binds : (p : Name) (k : ℕ) (vs : Trees Origin Scalar) → AllBind (walk_each p k vs)
    walk_each-binds p k no_trees = tt
    walk_each-binds p k (tree v vs) = (walk-binds p k v, walk_each-binds p k vs)

  end_with-binds : (s : List Origin) (b : Binding) (r : List Origin) (e : End) → (all_known known s ≡ true → Each IsKnownBound b) → EndBinds r e → EndBinds (s ++ r) (end_with b e)
  end_with-binds s b r (job c) h k = λ a. let p = all-split known s r a in each-append IsKnownBound b c (h p.0) (k p.1)
  end_with-binds s b r (passed m e) h k = tt

  mutual
    added-binds : (s : List Origin) (b : Binding) → (all_known known s ≡ true → Each IsKnownBound b) → (t : Iteration) → Binds t → Binds (added s b t)
    added-binds s b h (leaf r e) k = end_with-binds s b r e h k
    added-binds s b h (list r ts) k = all_added-binds s b h ts k

    all_added-binds : (s : List Origin) (b : Binding) → (all_known known s ≡ true → Each IsKnownBound b) → (ts : Iterations) → AllBind ts → AllBind (map_trees (λ r. s ++ r) (end_with b) ts)
    all_added-binds s b h no_trees k = tt
    all_added-binds s b h (tree t ts) k = (added-binds s b h t k.0, all_added-binds s b h ts k.1)

  crossed_end-binds : (s : List Origin) (e : End) (u : Iteration) → EndBinds s e → Binds u → Binds (crossed_end s e u)
  crossed_end-binds s (job b) u h k = added-binds s b h u k
  crossed_end-binds s (passed m e) u h k = tt

  mutual
    crossed-binds : (t u : Iteration) → Binds t → Binds u → Binds (crossed t u)
    crossed-binds (leaf s e) u h k = crossed_end-binds s e u h k
    crossed-binds (list s ts) u h k = each_crossed-binds ts u h k

    each_crossed-binds : (ts : Iterations) (u : Iteration) → AllBind ts → Binds u → AllBind (each_crossed ts u)
    each_crossed-binds no_trees u h k = tt
    each_crossed-binds (tree t ts) u h k = (crossed-binds t u h.0 k, each_crossed-binds ts u h.1 k)

  paired_end-binds : (s : List Origin) (e : End) (u : Iteration) → EndBinds s e → Binds u → Binds (paired_end s e u)
  paired_end-binds s (job b) u h k = added-binds s b h u k
  paired_end-binds s (passed m e) u h k = tt

  more-sources : (s r : List Origin) (e : End) → EndBinds r e → EndBinds (s ++ r) e
  more-sources s r (job b) k = λ a. k (all-split known s r a).1
  more-sources s r (passed m e) k = tt

  mutual
    paired-binds : (t u : Iteration) → Binds t → Binds u → Binds (paired t u)
    paired-binds (leaf s e) u h k = paired_end-binds s e u h k
    paired-binds (list s ts) (leaf r e) h k = more-sources s r e k
    paired-binds (list s ts) (list r us) h k = each_paired-binds ts us h k

    each_paired-binds : (ts us : Iterations) → AllBind ts → AllBind us → AllBind (each_paired ts us)
    each_paired-binds no_trees us h k = tt
    each_paired-binds (tree t ts) no_trees h k = tt
    each_paired-binds (tree t ts) (tree u us) h k = (paired-binds t u h.0 k.0, each_paired-binds ts us h.1 k.1)

  module _ (ports : Name → Iteration) (fed : (p : Name) → Binds (ports p)) where
    mutual
      iteration-binds : (s : Strategy) → Binds (iteration ports s)
      iteration-binds (port p) = fed p
      iteration-binds (cross cs) = cross_of-binds cs
      iteration-binds (dot cs) = dot_of-binds cs
      iteration-binds (prefix l r) = paired-binds (iteration ports l) (iteration ports r) (iteration-binds l) (iteration-binds r)

      cross_of-binds : (cs : Strategies) → Binds (cross_of ports cs)
      cross_of-binds no_strategies = λ h. tt
      cross_of-binds (strategy c cs) = crossed-binds (iteration ports c) (cross_of ports cs) (iteration-binds c) (cross_of-binds cs)

      dot_of-binds : (cs : Strategies) → Binds (dot_of ports cs)
      dot_of-binds no_strategies = λ h. tt
      dot_of-binds (strategy c no_strategies) = iteration-binds c
      dot_of-binds (strategy c (strategy d ds)) = paired-binds (iteration ports c) (dot_of ports (strategy d ds)) (iteration-binds c) (dot_of-binds (strategy d ds))

  mutual
    binds-at : (t : Iteration) (q : Place) (s : List Origin) (b : Binding) → Binds t → at t q ≡ Some (leaf s (job b)) → EndBinds s (job b)
    binds-at t [] s b h e = subst Binds (same_Some t (leaf s (job b)) e) h
    binds-at (leaf r d) (i ∷ q) s b h e = absurd (none-some (leaf s (job b)) e)
    binds-at (list r ts) (i ∷ q) s b h e = binds-in ts i q s b h e

    binds-in : (ts : Iterations) (i : ℕ) (q : Place) (s : List Origin) (b : Binding) → AllBind ts → option_and_then (λ (y : Iteration). at y q) (item_at ts i) ≡ Some (leaf s (job b)) → EndBinds s (job b)
    binds-in no_trees i q s b h e = absurd (none-some (leaf s (job b)) e)
    binds-in (tree t ts) zero q s b h e = binds-at t q s b h.0 e
    binds-in (tree t ts) (suc i) q s b h e = binds-in ts i q s b h.1 e

  -- ---- leaf by leaf

  module _ (ports : Name → Iteration) (values : Name → Traced) (levels : Name → ℕ) where
    abbrev IsWalk : Spot → Type 0
    IsWalk r = ports r.0 ≡ walk r.0 (levels r.0) (values r.0)

    -- a value stands there, with all its nodes known; at the top, where the port walks no levels
    pub record IsKnownThere (r : Spot) : Type 0 where
      pub value : Traced
      pub stands : at (values r.0) r.1 ≡ Some value
      pub known_all : all_known known (notes value) ≡ true
      pub top : levels r.0 ≡ 0 → r.1 ≡ []

    at-top : (p : Name) (k : ℕ) (v : Traced) (q : Place) (c : Binding) → k ≡ 0 → IsJob (at (walk p k v) q) c → q ≡ []
    at-top p zero v [] c e h = refl
    at-top p zero v (i ∷ q) c e h = absurd h
    at-top p (suc k) v q c e h = absurd (none k e)
      where
        none : (n : ℕ) → suc n ≡ 0 → ⊥
        none n g = omega arith

    leaves-known : (rs : List Spot) (b : Binding) → JobsAt ports rs b → Each IsWalk rs → Each IsKnownBound b → Each IsKnownThere rs
    leaves-known [] b h w k = tt
    leaves-known (r ∷ rs) b h w k =
        let one = walk-at r.0 (levels r.0) (values r.0) r.1 h.0 (subst (λ t. IsJob (at t r.1) h.0) w.0 h.3) in
        let all : Each IsKnownBound (((r.0, one.0) ∷ []) ++ h.1) = subst (λ (c : Binding). Each IsKnownBound (c ++ h.1)) one.1 (subst (Each IsKnownBound) h.2 k) in
        let first : IsKnownThere r =
        record {
          value = one.0;
          stands = one.2;
          known_all = all.0;
          top = λ e. at-top r.0 (levels r.0) (values r.0) r.1 h.0 e (subst (λ t. IsJob (at t r.1) h.0) w.0 h.3);
        } in
        (first, leaves-known rs h.1 h.4 w.1 all.1)

  -- ---- of a step in an instance

  module _ (flow : Flow) (s : Name × Step) (f : InstanceStep) (made : IsMadeOf flow s f) where
    abbrev pub port_values : Name → Traced
    port_values p = value_in (named p f.step.inputs)

    port-binds : (p : Name) → Binds (port_iteration f.step.inputs p)
    port-binds p = by (named p f.step.inputs)
      where
        by : (o : Option Ported) → Binds (option_map_or (λ (d : Ported). walk p d.mismatch d.value) o (leaf [] (job [])))
        by None = λ h. tt
        by (Some d) = walk-binds p d.mismatch d.value

    walks-all : (q : Place) → Each (IsWalk (port_iteration f.step.inputs) port_values (port_mismatch f.step.inputs)) (split (port_mismatch f.step.inputs) (strategy_of s.1) q)
    walks-all q =
        in_each (IsWalk (port_iteration f.step.inputs) port_values (port_mismatch f.step.inputs)) (split (port_mismatch f.step.inputs) (strategy_of s.1) q)
        (λ r i. let a = made.leaves r.0 (leaf-in (port_mismatch f.step.inputs) (strategy_of s.1) q r i) in
        ap (walk_in r.0) a.1 ∙ sym (ap (λ o. walk r.0 (option_map_or (λ (d : Ported). d.mismatch) o 0) (value_in o)) a.1))

    -- THE LEAVES of a known job
    pub job-leaves : (x : Item Bound Stopped) → In x (known_items known f.step.iteration) → (q : Place) → x.place ≡ q → FitsKind (gave s.0 q []) x.kind → Each (IsKnownThere (port_iteration f.step.inputs) port_values (port_mismatch f.step.inputs)) (split (number_of (mismatches flow s.1)) (strategy_of s.1) q)
    job-leaves x i q place fits =
        let st = known-stands known f.step.iteration x i in
        by st.0 (ap (at f.step.iteration) (sym place) ∙ st.1) (subst (FitsKind (gave s.0 q [])) st.2 fits) st.3
      where
        by : (u : Iteration) → at f.step.iteration q ≡ Some u → FitsKind (gave s.0 q []) (kind_of u) → list_all known (note u) ≡ true → Each (IsKnownThere (port_iteration f.step.inputs) port_values (port_mismatch f.step.inputs)) (split (number_of (mismatches flow s.1)) (strategy_of s.1) q)
        by (leaf r (job b)) e k all =
            let here = ap (λ t. at t q) (sym made.iterates) ∙ e in
            subst (λ (m : Name → ℕ). Each (IsKnownThere (port_iteration f.step.inputs) port_values (port_mismatch f.step.inputs)) (split m (strategy_of s.1) q)) (sym (fun_ext made.numbers))
            (leaves-known (port_iteration f.step.inputs) port_values (port_mismatch f.step.inputs) (split (port_mismatch f.step.inputs) (strategy_of s.1) q) b
            (split-jobs (port_iteration f.step.inputs) (port_mismatch f.step.inputs) made.levels (strategy_of s.1) made.dots q b (subst (λ o. IsJob o b) (sym here) refl))
            (walks-all q)
            (binds-at (iteration (port_iteration f.step.inputs) (strategy_of s.1)) q r b (iteration-binds (port_iteration f.step.inputs) port-binds (strategy_of s.1)) here (all-listed r all)))
        by (leaf r (passed m d)) e k all = absurd k
        by (list r ts) e k all = absurd k
