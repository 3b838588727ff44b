-- What stands at a place of a cross or a dot, from what stands there in its children.
use Rattle.std.specs.Prelude.{◌≡◌, refl, ℕ, zero, suc, ◌<◌, min, List, [], ◌∷◌, ◌++◌, length, Option, Some, None, option_map, option_and_then}
use Rattle.std.proofs.Common.{arith, ap, sym, subst, ◌∙◌}
use Rattle.std.proofs.lemmas.List.{append-nil}
use Rattle.std.proofs.lemmas.Option.{same_Some}
use Rattle.tv_value.specs.Nested.{leaf, list, no_trees, tree, count, Place, at, item_at}
use Rattle.tv_value.specs.Values.{Name, ErrorDoc, fault}
use Rattle.tv_value.specs.Strategies.{no_strategies, strategy}
use Rattle.tv_strategy.specs.Origins.{Origin, Traced}
use Rattle.tv_strategy.specs.Iterations.{Binding, End, job, passed, Iteration, Iterations, walk, added, crossed, crossed_end, each_crossed, paired, each_paired, iteration, cross_of, dot_of, one_job}
use Rattle.tv_strategy.specs.Measures.{strategy_depth}
use Rattle.tv_strategy.specs.Levels.{HasLevels}
use Rattle.tv_strategy.specs.Stated.{IsListOf, CrossOfOneIsItsChild, DotIsAsLongAsShortest, DotHasListWhereAllHave, WalkPassesFault, CrossKeepsFault, CrossKeepsEmptyList, DotKeepsFirstFault, DotKeepsLaterFault}
use Rattle.tv_strategy.proofs.AtDepth.{iteration-levels, dot_of-levels}
use Rattle.tv_strategy.proofs.AtPlace.{ItemHasLevels, item-levels, item_at-each_crossed, item_at-each_paired, pair_items}
use Rattle.tv_strategy.proofs.Ends.{item_at-walk_each}

-- ---- a cross of one child

crossed_end-one : (s : List Origin) (e : End) → crossed_end s e one_job ≡ leaf s e
crossed_end-one s (job b) = ap (λ r. leaf r (job (b ++ []))) (append-nil s) ∙ ap (λ c. leaf s (job c)) (append-nil b)
crossed_end-one s (passed m e) = refl

mutual
  crossed-one : (t : Iteration) → crossed t one_job ≡ t
  crossed-one (leaf s e) = crossed_end-one s e
  crossed-one (list s ts) = ap (list s) (each_crossed-one ts)

  each_crossed-one : (ts : Iterations) → each_crossed ts one_job ≡ ts
  each_crossed-one no_trees = refl
  each_crossed-one (tree t ts) = ap (λ u. tree u (each_crossed ts one_job)) (crossed-one t) ∙ ap (tree t) (each_crossed-one ts)

pub cross-of_one : CrossOfOneIsItsChild
cross-of_one ports c = crossed-one (iteration ports c)

-- ---- what the first child of a cross has

crossed-there_item : (u : Iteration) (q : Place) (v : Iteration) → ((t : Iteration) → at t q ≡ Some v → at (crossed t u) q ≡ Some (crossed v u)) → (o : Option Iteration) → option_and_then (λ t. at t q) o ≡ Some v → option_and_then (λ t. at t q) (option_map (λ t. crossed t u) o) ≡ Some (crossed v u)
crossed-there_item u q v rec None h = absurd (cc)
crossed-there_item u q v rec (Some t) h = rec t h

pub crossed-there : (u : Iteration) (q : Place) (t v : Iteration) → at t q ≡ Some v → at (crossed t u) q ≡ Some (crossed v u)
crossed-there u [] t v h = ap (λ w. Some (crossed w u)) (same_Some t v h)
crossed-there u (i ∷ q) (leaf s e) v h = absurd (cc)
crossed-there u (i ∷ q) (list s ts) v h =
    ap (option_and_then (λ t. at t q)) (item_at-each_crossed ts u i) ∙ crossed-there_item u q v (λ t k. crossed-there u q t v k) (item_at ts i) h

pub cross-keeps_fault : CrossKeepsFault
cross-keeps_fault ports c cs q s m e h = crossed-there (cross_of ports cs) q (iteration ports c) (leaf s (passed m e)) h

pub cross-keeps_empty_list : CrossKeepsEmptyList
cross-keeps_empty_list ports c cs q s h = crossed-there (cross_of ports cs) q (iteration ports c) (list s no_trees) h

-- ---- what both sides of a dot have

paired-there_item : (q : Place) (v w : Iteration) → ((t u : Iteration) → at t q ≡ Some v → at u q ≡ Some w → at (paired t u) q ≡ Some (paired v w)) → (o p : Option Iteration) → option_and_then (λ t. at t q) o ≡ Some v → option_and_then (λ t. at t q) p ≡ Some w → option_and_then (λ t. at t q) (pair_items o p) ≡ Some (paired v w)
paired-there_item q v w rec None p h k = absurd (cc)
paired-there_item q v w rec (Some t) None h k = absurd (cc)
paired-there_item q v w rec (Some t) (Some u) h k = rec t u h k

pub paired-there : (q : Place) (t u v w : Iteration) → at t q ≡ Some v → at u q ≡ Some w → at (paired t u) q ≡ Some (paired v w)
paired-there [] t u v w h k = ap (λ x. Some (paired x u)) (same_Some t v h) ∙ ap (λ x. Some (paired v x)) (same_Some u w k)
paired-there (i ∷ q) (leaf s e) u v w h k = absurd (cc)
paired-there (i ∷ q) (list s ts) (leaf r e) v w h k = absurd (cc)
paired-there (i ∷ q) (list s ts) (list r us) v w h k =
    ap (option_and_then (λ t. at t q)) (item_at-each_paired ts us i) ∙ paired-there_item q v w (λ t u x y. paired-there q t u v w x y) (item_at ts i) (item_at us i) h k

pub dot-keeps_first_fault : DotKeepsFirstFault
dot-keeps_first_fault ports c d ds q s m e u h k = paired-there q (iteration ports c) (dot_of ports (strategy d ds)) (leaf s (passed m e)) u h k

pub dot-keeps_later_fault : DotKeepsLaterFault
dot-keeps_later_fault ports c d ds q s r m e ts h k = paired-there q (iteration ports c) (dot_of ports (strategy d ds)) (list s ts) (leaf r (passed m e)) h k

-- ---- a fault that a port meets

walk-fault_item : (p : Name) (k : ℕ) (q : Place) (o : Origin) (e : ErrorDoc) → ((v : Traced) → at v q ≡ Some (leaf o (fault e)) → at (walk p k v) q ≡ Some (leaf (o ∷ []) (passed o.mark e))) → (w : Option Traced) → option_and_then (λ v. at v q) w ≡ Some (leaf o (fault e)) → option_and_then (λ t. at t q) (option_map (walk p k) w) ≡ Some (leaf (o ∷ []) (passed o.mark e))
walk-fault_item p k q o e rec None h = absurd (cc)
walk-fault_item p k q o e rec (Some v) h = rec v h

pub walk-fault : WalkPassesFault
walk-fault p zero v q o e h l = absurd (none (length q) l)
  where
    none : (n : ℕ) → n < 0 → ⊥
    none n p = omega arith
walk-fault p (suc k) v [] o e h l = ap (λ w. Some (walk p (suc k) w)) (same_Some v (leaf o (fault e)) h)
walk-fault p (suc k) (leaf n a) (i ∷ q) o e h l = absurd (cc)
walk-fault p (suc k) (list n vs) (i ∷ q) o e h l =
    ap (option_and_then (λ t. at t q)) (item_at-walk_each p k vs i) ∙ walk-fault_item p k q o e (λ v j. walk-fault p k v q o e j (omega arith)) (item_at vs i) h

-- ---- the length of a dot's list

-- lists stand in both, and n is the lesser length
pub record Lesser (o p : Option Iteration) (n : ℕ) : Type 0 where
  pub left : ℕ
  pub right : ℕ
  pub left_is : IsListOf o left
  pub right_is : IsListOf p right
  pub least : n ≡ min left right

pub count-each_paired : (ts us : Iterations) → count (each_paired ts us) ≡ min (count ts) (count us)
count-each_paired no_trees us = none (count us)
  where
    none : (n : ℕ) → 0 ≡ min 0 n
    none n = omega arith
count-each_paired (tree t ts) no_trees = none (count ts)
  where
    none : (n : ℕ) → 0 ≡ min (suc n) 0
    none n = omega arith
count-each_paired (tree t ts) (tree u us) = more (count ts) (count us) (count (each_paired ts us)) (count-each_paired ts us)
  where
    more : (a b n : ℕ) → n ≡ min a b → suc n ≡ min (suc a) (suc b)
    more a b n h = omega arith

leaf-no_list : (q : Place) (s : List Origin) (e : End) (n : ℕ) → IsListOf (at (leaf s e) q) n → ⊥
leaf-no_list [] s e n h = h
leaf-no_list (i ∷ q) s e n h = h

-- where jobs stand at depth 0 no list stands, also with a binding added
flat-no_list : (s : List Origin) (b : Binding) (q : Place) (u : Iteration) (n : ℕ) → HasLevels u 0 → IsListOf (at (added s b u) q) n → ⊥
flat-no_list s b q (leaf r e) n l h = leaf-no_list q _ _ n h
flat-no_list s b q (list r us) n l h = l

paired-lists_item : (q : Place) (d n : ℕ) → ((t u : Iteration) → HasLevels t d → HasLevels u d → IsListOf (at (paired t u) q) n → Lesser (at t q) (at u q) n) → (o p : Option Iteration) → ItemHasLevels o d → ItemHasLevels p d → IsListOf (option_and_then (λ t. at t q) (pair_items o p)) n → Lesser (option_and_then (λ t. at t q) o) (option_and_then (λ t. at t q) p) n
paired-lists_item q d n rec None p l m h = absurd h
paired-lists_item q d n rec (Some t) None l m h = absurd h
paired-lists_item q d n rec (Some t) (Some u) l m h = rec t u l m h

pub paired-lists : (q : Place) (t u : Iteration) (d n : ℕ) → HasLevels t d → HasLevels u d → IsListOf (at (paired t u) q) n → Lesser (at t q) (at u q) n
paired-lists q (leaf s (job b)) u d n l m h = absurd (flat-no_list s b q u n (subst (λ k. HasLevels u k) l m) h)
paired-lists q (leaf s (passed i e)) u d n l m h = absurd (leaf-no_list q _ _ n h)
paired-lists q (list s ts) (leaf r e) d n l m h = absurd (leaf-no_list q _ _ n h)
paired-lists q (list s ts) (list r us) zero n l m h = absurd l
paired-lists [] (list s ts) (list r us) (suc d) n l m h = record { left = count ts; right = count us; left_is = refl; right_is = refl; least = sym h ∙ count-each_paired ts us }
paired-lists (i ∷ q) (list s ts) (list r us) (suc d) n l m h =
    paired-lists_item q d n (λ t u x y j. paired-lists q t u d n x y j) (item_at ts i) (item_at us i) (item-levels ts d i l) (item-levels us d i m) (subst (λ o. IsListOf (option_and_then (λ t. at t q) o) n) (item_at-each_paired ts us i) h)

pub dot-shortest : DotIsAsLongAsShortest
dot-shortest ports mismatch walks c no_strategies a q n h = h
dot-shortest ports mismatch walks c (strategy d ds) a q n h =
    let same = a.1.0 in
    let first = iteration-levels ports mismatch walks c a.0.0 in
    let rest = dot_of-levels ports mismatch walks (strategy d ds) a.0.1 a.1.1 in
    let p = paired-lists q (iteration ports c) (dot_of ports (strategy d ds)) (strategy_depth mismatch c) n first (subst (λ k. HasLevels (dot_of ports (strategy d ds)) k) (sym same) rest) h in
    (p.left, p.right, p.left_is, dot-shortest ports mismatch walks d ds (a.0.1, a.1.1) q p.right p.right_is, p.least)

-- lists in both, and a list in the pair
pair-list : (q : Place) (t u : Iteration) (m k n : ℕ) → IsListOf (at t q) m → IsListOf (at u q) k → n ≡ min m k → IsListOf (at (paired t u) q) n
pair-list q t u m k n h j e = both (at t q) (at u q) h j refl refl
  where
    both : (o p : Option Iteration) → IsListOf o m → IsListOf p k → at t q ≡ o → at u q ≡ p → IsListOf (at (paired t u) q) n
    both None p h j x y = absurd h
    both (Some (leaf s e)) p h j x y = absurd h
    both (Some (list s ts)) None h j x y = absurd j
    both (Some (list s ts)) (Some (leaf r e)) h j x y = absurd j
    both (Some (list s ts)) (Some (list r us)) h j x y =
        subst (λ o. IsListOf o n) (sym (paired-there q t u (list s ts) (list r us) x y)) (count-each_paired ts us ∙ ap (λ a. min a (count us)) h ∙ ap (min m) j ∙ sym e)

pub dot-lists : DotHasListWhereAllHave
dot-lists ports c no_strategies q n h = h
dot-lists ports c (strategy d ds) q n h =
    pair-list q (iteration ports c) (dot_of ports (strategy d ds)) h.0 h.1 n h.2 (dot-lists ports d ds q h.1 h.3) h.4
