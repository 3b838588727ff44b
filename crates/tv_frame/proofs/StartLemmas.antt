-- The place of a job splits where the leaves begin.
use Rattle.std.specs.Prelude.{◌≡◌, refl, ℕ, ◌+◌, [], ◌++◌, drop, map, take}
use Rattle.std.proofs.Common.{arith, ap, sym, ◌∙◌}
use Rattle.std.proofs.lemmas.List.{drop-drop, drop-take, take-take, take_all, map-append}
use Rattle.tv_value.specs.Nested.{Place}
use Rattle.tv_value.specs.Strategies.{Strategy, port, cross, dot, prefix, Strategies, no_strategies, strategy}
use Rattle.tv_value.specs.Values.{Name}
use Rattle.tv_strategy.specs.Measures.{AllDotsAgree, DotsAgree, HaveOneDepth, first_depth, strategy_depth, sum_of_depths}
use Rattle.tv_strategy.specs.Splits.{split, split_cross, split_dot}
use Rattle.tv_frame.specs.Starts.{cross_starts, dot_starts, starts}
use Rattle.tv_frame.specs.Stated.{PlacesSplitAtStarts}

module _ (ports : Name → ℕ) (q : Place) where
  abbrev part : Name × ℕ → Name × Place
  part x = (x.0, take (ports x.0) (drop x.1 q))

  mutual
    split-parts : (s : Strategy) (at : ℕ) → DotsAgree ports s → split ports s (take (strategy_depth ports s) (drop at q)) ≡ map part (starts ports at s)
    split-parts (port p) at a = refl
    split-parts (cross cs) at a = cross-parts cs at a
    split-parts (dot no_strategies) at a = refl
    split-parts (dot (strategy c cs)) at a = dot-parts (strategy c cs) at (strategy_depth ports c) a.0 a.1 refl
    split-parts (prefix l r) at a =
        let n = strategy_depth ports l in
        let m = strategy_depth ports r in
        ap (λ p. split ports l p ++ split ports r (take m (drop at q))) (take-take n m (drop at q) a.2)
        ∙ ap (λ xs. xs ++ split ports r (take m (drop at q))) (split-parts l at a.0)
        ∙ ap (λ xs. map part (starts ports at l) ++ xs) (split-parts r at a.1)
        ∙ sym (map-append part (starts ports at l) (starts ports at r))

    cross-parts : (cs : Strategies) (at : ℕ) → AllDotsAgree ports cs → split_cross ports cs (take (sum_of_depths ports cs) (drop at q)) ≡ map part (cross_starts ports at cs)
    cross-parts no_strategies at a = refl
    cross-parts (strategy c cs) at a =
        let d = strategy_depth ports c in
        let first : take d (take (d + sum_of_depths ports cs) (drop at q)) ≡ take d (drop at q) = take-take d (d + sum_of_depths ports cs) (drop at q) (omega arith) in
        let rest : drop d (take (d + sum_of_depths ports cs) (drop at q)) ≡ take (sum_of_depths ports cs) (drop (at + d) q) =
        drop-take d (sum_of_depths ports cs) (drop at q) ∙ ap (take (sum_of_depths ports cs)) (drop-drop d at q) in
        ap (λ r. split ports c r ++ split_cross ports cs (drop d (take (d + sum_of_depths ports cs) (drop at q)))) first
        ∙ ap (λ r. split ports c (take d (drop at q)) ++ split_cross ports cs r) rest
        ∙ ap (λ xs. xs ++ split_cross ports cs (take (sum_of_depths ports cs) (drop (at + d) q))) (split-parts c at a.0)
        ∙ ap (λ xs. map part (starts ports at c) ++ xs) (cross-parts cs (at + d) a.1)
        ∙ sym (map-append part (starts ports at c) (cross_starts ports (at + d) cs))

    dot-parts : (cs : Strategies) (at d : ℕ) → AllDotsAgree ports cs → HaveOneDepth ports cs → d ≡ first_depth ports cs → split_dot ports cs (take d (drop at q)) ≡ map part (dot_starts ports at cs)
    dot-parts no_strategies at d a o e = refl
    dot-parts (strategy c no_strategies) at d a o e =
        ap (λ n. split ports c (take n (drop at q)) ++ []) e
        ∙ ap (λ xs. xs ++ []) (split-parts c at a.0)
        ∙ sym (map-append part (starts ports at c) [])
    dot-parts (strategy c (strategy b bs)) at d a o e =
        ap (λ n. split ports c (take n (drop at q)) ++ split_dot ports (strategy b bs) (take d (drop at q))) e
        ∙ ap (λ xs. xs ++ split_dot ports (strategy b bs) (take d (drop at q))) (split-parts c at a.0)
        ∙ ap (λ xs. map part (starts ports at c) ++ xs) (dot-parts (strategy b bs) at d a.1 o.1 (e ∙ o.0))
        ∙ sym (map-append part (starts ports at c) (dot_starts ports at (strategy b bs)))

pub places-split : PlacesSplitAtStarts
places-split ports s a q e =
    ap (split ports s) (sym (take_all (strategy_depth ports s) q (omega arith))) ∙ split-parts ports q s 0 a
