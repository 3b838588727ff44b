-- Without cycles heights are looked for deep enough.
use Rattle.std.proofs.Common.{◌≡◌, ℕ, ◌+◌, ◌<◌, ◌≤◌, true, suc, zero, List, [], ◌∷◌, map, length, None, refl, ap, ◌∙◌, arith}
use Rattle.tv_naming.specs.graphs.Graphs.{Graph, is_graph, before, first_on_cycle, by_least, greatest, height}
use Rattle.tv_naming.proofs.Arranged.{IsArranged, by_least-IsArranged, onto, onto-member, all_come}
use Rattle.tv_naming.proofs.Cycles.{no_cycle-all_come}
use Rattle.tv_naming.proofs.Walks.{before-below}
use Rattle.tv_naming.proofs.Measuring.{IsMeasured, IsMeasured-cons, before_taken, map-same}

-- at some depth and beyond, the heights of what is taken stay
deep-onto : (g : Graph) (n : ℕ) (xs taken : List ℕ) → IsArranged g taken xs → length taken + length xs ≤ suc n → IsMeasured g taken (height g (suc n)) →
    IsMeasured g (onto taken xs) (height g (suc n))
deep-onto g n [] taken a fits k = k
deep-onto g n (x ∷ xs) taken a fits k =
    let here : height g (suc n) x ≡ suc (greatest (map (height g (suc n)) (before g x))) =
    ap (λ hs. suc (greatest hs)) (map-same (height g n) (height g (suc n)) (before g x) (λ u e. k.deep u n (before_taken g taken (height g (suc n)) k x a.0 u e) (omega arith))) in
    deep-onto g n xs (x ∷ taken) a.2 (omega arith) (IsMeasured-cons g taken (height g (suc n)) k x a.0 (height g (suc n)) here (λ v ne. refl))

onto-length : (xs taken : List ℕ) → length (onto taken xs) ≡ length taken + length xs
onto-length [] taken = omega arith
onto-length (x ∷ xs) taken = omega (arith, onto-length xs (x ∷ taken))

same_deeper : (g : Graph) (n v : ℕ) → is_graph g ≡ true → first_on_cycle g ≡ None → length g ≡ suc n → v < length g → height g n v ≡ height g (suc n) v
same_deeper g n v ok no_cycle e below =
    let all : length (by_least g) ≡ length g = no_cycle-all_come g ok no_cycle in
    let measured : IsMeasured g (onto [] (by_least g)) (height g (suc n)) =
    deep-onto g n (by_least g) [] (by_least-IsArranged g) (omega arith) record { deep = λ u m h. cc; bounded = λ u h. cc } in
    measured.deep v n (onto-member (by_least g) [] v ∙ all_come g v all below) (omega (arith, onto-length (by_least g) []))

pub height-next : (g : Graph) (v : ℕ) → is_graph g ≡ true → first_on_cycle g ≡ None → v < length g → height g (length g) v ≡ suc (greatest (map (height g (length g)) (before g v)))
height-next g v ok no_cycle below = at_depth (length g) refl
  where
    at_depth : (n : ℕ) → length g ≡ n → height g n v ≡ suc (greatest (map (height g n) (before g v)))
    at_depth zero e = absurd (omega arith)
    at_depth (suc n) e = ap (λ hs. suc (greatest hs)) (map-same (height g n) (height g (suc n)) (before g v) (λ u h. same_deeper g n u ok no_cycle e (before-below g ok v u h)))
