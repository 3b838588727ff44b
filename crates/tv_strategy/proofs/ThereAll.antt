-- A job stands wherever something stands at all of the places that its place splits into.
use Rattle.std.specs.Prelude.{◌≡◌, refl, ℕ, zero, suc, ◌≤◌, min, List, [], ◌∷◌, ◌++◌, length, take, drop, Option, Some, None, IsSome, option_map, option_and_then}
use Rattle.std.proofs.Common.{arith, ap, sym, subst, ◌∙◌, length-take}
use Rattle.std.proofs.lemmas.List.{take-append-drop}
use Rattle.std.proofs.lemmas.Option.{same_Some}
use Rattle.tv_lemmas.specs.Members.{Each}
use Rattle.tv_value.specs.Nested.{leaf, list, Place, notes, at, item_at}
use Rattle.tv_value.specs.Values.{Name}
use Rattle.tv_value.specs.Strategies.{Strategy, port, cross, dot, prefix, Strategies, no_strategies, strategy}
use Rattle.tv_strategy.specs.Origins.{Origin, Traced}
use Rattle.tv_strategy.specs.Iterations.{Binding, job, Iteration, end_with, walk, walks, added, crossed, paired, iteration, cross_of, dot_of, one_job}
use Rattle.tv_strategy.specs.Measures.{strategy_depth, sum_of_depths, first_depth, DotsAgree, AllDotsAgree, HaveOneDepth}
use Rattle.tv_strategy.specs.Splits.{split, split_cross, split_dot}
use Rattle.tv_strategy.specs.Levels.{IsJob}
use Rattle.tv_strategy.specs.Stated.{JobStandsWhereAllAreThere}
use Rattle.tv_strategy.proofs.AtPlace.{item_at-map}
use Rattle.tv_strategy.proofs.Ends.{item_at-walk_each}
use Rattle.tv_strategy.proofs.Lists.{crossed-there, paired-there}
use Rattle.tv_strategy.proofs.Joins.{length-front, length-back}

pub record JobThere (o : Option Iteration) : Type 0 where
  pub sources : List Origin
  pub binding : Binding
  pub is : o ≡ Some (leaf sources (job binding))

pub each-parts : {A : Type 0} (P : A → Type 0) (xs ys : List A) → Each P (xs ++ ys) → Each P xs × Each P ys
each-parts P [] ys h = (tt, h)
each-parts P (x ∷ xs) ys h = let p = each-parts P xs ys h.1 in ((h.0, p.0), p.1)

-- ---- what a port reaches

walk-there_item : (p : Name) (k : ℕ) (q : Place) → ((v : Traced) → IsSome (at v q) → JobThere (at (walk p k v) q)) → (o : Option Traced) → IsSome (option_and_then (λ v. at v q) o) → JobThere (option_and_then (λ t. at t q) (option_map (walk p k) o))
walk-there_item p k q rec None h = absurd (cc)
walk-there_item p k q rec (Some v) h = rec v h

walk-there : (p : Name) (q : Place) (k : ℕ) (v : Traced) → length q ≡ k → IsSome (at v q) → JobThere (at (walk p k v) q)
walk-there p [] zero v l h = record { sources = notes v; binding = (p, v) ∷ []; is = refl }
walk-there p [] (suc k) v l h = absurd (cc)
walk-there p (i ∷ q) zero v l h = absurd (cc)
walk-there p (i ∷ q) (suc k) (leaf o a) l h = absurd (cc)
walk-there p (i ∷ q) (suc k) (list o vs) l h =
    subst (λ o. JobThere (option_and_then (λ t. at t q) o)) (sym (item_at-walk_each p k vs i)) (walk-there_item p k q (λ v j. walk-there p q k v (omega arith) j) (item_at vs i) h)

-- ---- a place that goes on inside

at-on_item : (q r : Place) (u : Iteration) → ((t : Iteration) → at t q ≡ Some u → at t (q ++ r) ≡ at u r) → (o : Option Iteration) → option_and_then (λ t. at t q) o ≡ Some u → option_and_then (λ t. at t (q ++ r)) o ≡ at u r
at-on_item q r u rec None h = absurd (cc)
at-on_item q r u rec (Some t) h = rec t h

at-on : (q r : Place) (t u : Iteration) → at t q ≡ Some u → at t (q ++ r) ≡ at u r
at-on [] r t u h = ap (λ v. at v r) (same_Some t u h)
at-on (i ∷ q) r (leaf s e) u h = absurd (cc)
at-on (i ∷ q) r (list s ts) u h = at-on_item q r u (λ t k. at-on q r t u k) (item_at ts i) h

added-there_item : (s : List Origin) (b : Binding) (q : Place) (v : Iteration) → ((t : Iteration) → at t q ≡ Some v → at (added s b t) q ≡ Some (added s b v)) → (o : Option Iteration) → option_and_then (λ t. at t q) o ≡ Some v → option_and_then (λ t. at t q) (option_map (added s b) o) ≡ Some (added s b v)
added-there_item s b q v rec None h = absurd (cc)
added-there_item s b q v rec (Some t) h = rec t h

added-there : (s : List Origin) (b : Binding) (q : Place) (t v : Iteration) → at t q ≡ Some v → at (added s b t) q ≡ Some (added s b v)
added-there s b [] t v h = ap (λ w. Some (added s b w)) (same_Some t v h)
added-there s b (i ∷ q) (leaf r e) v h = absurd (cc)
added-there s b (i ∷ q) (list r ts) v h =
    ap (option_and_then (λ t. at t q)) (item_at-map (λ r. s ++ r) (end_with b) ts i) ∙ added-there_item s b q v (λ t k. added-there s b q t v k) (item_at ts i) h

crossed-jobs : (t u : Iteration) (q r : Place) → JobThere (at t q) → JobThere (at u r) → JobThere (at (crossed t u) (q ++ r))
crossed-jobs t u q r j k = record {
  sources = j.sources ++ k.sources;
  binding = j.binding ++ k.binding;
  is =
      at-on q r (crossed t u) (added j.sources j.binding u) (crossed-there u q t (leaf j.sources (job j.binding)) j.is)
      ∙ added-there j.sources j.binding r u (leaf k.sources (job k.binding)) k.is;
}

paired-jobs : (t u : Iteration) (q : Place) → JobThere (at t q) → JobThere (at u q) → JobThere (at (paired t u) q)
paired-jobs t u q j k = record {
  sources = j.sources ++ k.sources;
  binding = j.binding ++ k.binding;
  is = paired-there q t u (leaf j.sources (job j.binding)) (leaf k.sources (job k.binding)) j.is k.is;
}

-- what stands further inside stands inside of something
record Through (t : Iteration) (q r : Place) (v : Iteration) : Type 0 where
  mid : Iteration
  mid_is : at t q ≡ Some mid
  rest_is : at mid r ≡ Some v

through_item : (q r : Place) (v : Iteration) (o : Option Iteration) → ((t : Iteration) → at t (q ++ r) ≡ Some v → Through t q r v) → option_and_then (λ t. at t (q ++ r)) o ≡ Some v → (m : Iteration) × (option_and_then (λ t. at t q) o ≡ Some m) × (at m r ≡ Some v)
through_item q r v None rec h = absurd (cc)
through_item q r v (Some t) rec h = let m = rec t h in (m.mid, m.mid_is, m.rest_is)

through : (q r : Place) (t v : Iteration) → at t (q ++ r) ≡ Some v → Through t q r v
through [] r t v h = record { mid = t; mid_is = refl; rest_is = h }
through (i ∷ q) r (leaf s e) v h = absurd (cc)
through (i ∷ q) r (list s ts) v h =
    let m = through_item q r v (item_at ts i) (λ t k. through q r t v k) h in
    record { mid = m.0; mid_is = m.1; rest_is = m.2 }

prefix-jobs : (t u : Iteration) (q r : Place) → JobThere (at t q) → JobThere (at u (q ++ r)) → JobThere (at (paired t u) (q ++ r))
prefix-jobs t u q r j k =
    let m = through q r u (leaf k.sources (job k.binding)) k.is in
    record {
      sources = j.sources ++ k.sources;
      binding = j.binding ++ k.binding;
      is =
          at-on q r (paired t u) (added j.sources j.binding m.mid) (paired-there q t u (leaf j.sources (job j.binding)) m.mid j.is m.mid_is)
          ∙ added-there j.sources j.binding r m.mid (leaf k.sources (job k.binding)) m.rest_is;
    }

-- ---- every strategy

no_ports : JobThere (at one_job [])
no_ports = record { sources = []; binding = []; is = refl }

module _ (mismatch : Name → ℕ) (values : Name → Traced) where
  abbrev There : Name × Place → Type 0
  There r = IsSome (at (values r.0) r.1)

  mutual
    there-job : (s : Strategy) (q : Place) → DotsAgree mismatch s → length q ≡ strategy_depth mismatch s → Each There (split mismatch s q) → JobThere (at (iteration (walks mismatch values) s) q)
    there-job (port p) q a l h = walk-there p q (mismatch p) (values p) l h.0
    there-job (cross cs) q a l h = there-cross cs q a l h
    there-job (dot cs) q a l h = there-dot cs q a.0 a.1 l h
    there-job (prefix c d) q a l h =
        let n = strategy_depth mismatch c in
        let hs = each-parts There (split mismatch c (take n q)) (split mismatch d q) h in
        let whole = take-append-drop n q in
        let first = there-job c (take n q) a.0 (length-take n q ∙ least n (length q) (subst (λ m. n ≤ m) (sym l) a.2)) hs.0 in
        let rest = there-job d q a.1 l hs.1 in
        subst (λ p. JobThere (at (paired (iteration (walks mismatch values) c) (iteration (walks mismatch values) d)) p)) whole
        (prefix-jobs (iteration (walks mismatch values) c) (iteration (walks mismatch values) d) (take n q) (drop n q) first (subst (λ p. JobThere (at (iteration (walks mismatch values) d) p)) (sym whole) rest))
      where
        least : (n m : ℕ) → n ≤ m → min n m ≡ n
        least n m h = omega arith

    there-cross : (cs : Strategies) (q : Place) → AllDotsAgree mismatch cs → length q ≡ sum_of_depths mismatch cs → Each There (split_cross mismatch cs q) → JobThere (at (cross_of (walks mismatch values) cs) q)
    there-cross no_strategies [] a l h = no_ports
    there-cross no_strategies (i ∷ q) a l h = absurd (cc)
    there-cross (strategy c cs) q a l h =
        let n = strategy_depth mismatch c in
        let m = sum_of_depths mismatch cs in
        let hs = each-parts There (split mismatch c (take n q)) (split_cross mismatch cs (drop n q)) h in
        subst (λ r. JobThere (at (cross_of (walks mismatch values) (strategy c cs)) r)) (take-append-drop n q)
        (crossed-jobs (iteration (walks mismatch values) c) (cross_of (walks mismatch values) cs) (take n q) (drop n q) (there-job c (take n q) a.0 (length-front q n m l) hs.0) (there-cross cs (drop n q) a.1 (length-back q n m l) hs.1))

    there-dot : (cs : Strategies) (q : Place) → AllDotsAgree mismatch cs → HaveOneDepth mismatch cs → length q ≡ first_depth mismatch cs → Each There (split_dot mismatch cs q) → JobThere (at (dot_of (walks mismatch values) cs) q)
    there-dot no_strategies [] a o l h = no_ports
    there-dot no_strategies (i ∷ q) a o l h = absurd (cc)
    there-dot (strategy c no_strategies) q a o l h = there-job c q a.0 l (each-parts There (split mismatch c q) [] h).0
    there-dot (strategy c (strategy d ds)) q a o l h =
        let hs = each-parts There (split mismatch c q) (split_dot mismatch (strategy d ds) q) h in
        paired-jobs (iteration (walks mismatch values) c) (dot_of (walks mismatch values) (strategy d ds)) q (there-job c q a.0 l hs.0) (there-dot (strategy d ds) q a.1 o.1 (l ∙ o.0) hs.1)

job-is : (o : Option Iteration) → JobThere o → (b : Binding) × IsJob o b
job-is o j = (j.binding, subst (λ p. IsJob p j.binding) (sym j.is) refl)

pub job-there : JobStandsWhereAllAreThere
job-there mismatch values s a q l h = job-is (at (iteration (walks mismatch values) s) q) (there-job mismatch values s q a l h)
