-- Wires sorted by the step that they feed.
use Rattle.std.specs.Prelude.{◌≡◌, ℕ, zero, suc, ◌+◌, ◌<◌, ◌≤◌, ◌==◌, ◌&&◌, Bool, true, false, cond, List, [], ◌∷◌, ◌++◌, drop, filter, length, map, take, refl}
use Rattle.std.proofs.Common.{arith, get_or, ap, sym, subst, ◌∙◌, append-nil}
use Rattle.std.proofs.lemmas.Bool.{eq-eqb, ne_eqb}
use Rattle.std.proofs.lemmas.List.Elements.{filter-append}
use Rattle.tv_lemmas.specs.Members.{Each}
use Rattle.tv_lemmas.proofs.Numbers.{none-below}
use Rattle.tv_strategy.proofs.Each.{each-weaken}
use Rattle.tv_check.specs.declared.wires.Wire.{Wire}
use Rattle.tv_telling.specs.Along.{is_walked, leads_into, way_of, ways_into}
use Rattle.tv_spread.specs.Runs.{AreSortedFrom, StartsElsewhere}
use Rattle.tv_spread.proofs.Lists.{filter-among, filter-none, filter-same}

-- from a lesser step on too
pub sorted-lower : (a b : ℕ) (ws : List Wire) → a ≤ b → AreSortedFrom b ws → AreSortedFrom a ws
sorted-lower a b [] l h = tt
sorted-lower a b (w ∷ ws) l h = (omega (arith, h.0), h.1)

pub sorted-each : (b : ℕ) (ws : List Wire) → AreSortedFrom b ws → Each (λ (w : Wire). b ≤ w.step) ws
sorted-each b [] h = tt
sorted-each b (w ∷ ws) h = (h.0, each-weaken (λ (x : Wire). w.step ≤ x.step) (λ (x : Wire). b ≤ x.step) (λ x l. omega (arith, h.0)) ws (sorted-each w.step ws h.1))

-- wires into step k, and then sorted ones into later steps
pub sorted-block : (k : ℕ) (run rest : List Wire) → Each (λ (w : Wire). w.step ≡ k) run → AreSortedFrom (k + 1) rest → AreSortedFrom k (run ++ rest)
sorted-block k [] rest h s = sorted-lower k (k + 1) rest (omega arith) s
sorted-block k (w ∷ run) rest h s = (omega (arith, h.0), subst (λ n. AreSortedFrom n (run ++ rest)) (sym h.0) (sorted-block k run rest h.1 s))

-- behind a run into step c that goes on into another
pub sorted-behind : (c : ℕ) (ws : List Wire) (n : ℕ) → AreSortedFrom c ws → Each (λ (w : Wire). w.step ≡ c) (take n ws) → StartsElsewhere c (drop n ws) → AreSortedFrom (c + 1) (drop n ws)
sorted-behind c [] zero h r s = tt
sorted-behind c [] (suc n) h r s = tt
sorted-behind c (w ∷ ws) zero h r s = (omega (arith, h.0, s), h.1)
sorted-behind c (w ∷ ws) (suc n) h r s = sorted-behind c ws n (subst (λ k. AreSortedFrom k ws) r.0 h.1) r.1 s

pub sorted-first : (b : ℕ) (ws : List Wire) (d : Wire) → AreSortedFrom b ws → 0 < length ws → AreSortedFrom (get_or ws 0 d).step ws
sorted-first b [] d h l = none-below 0 l
sorted-first b (w ∷ ws) d h l = (omega arith, h.1)

-- some of them are sorted too
pub sorted-filter : (p : Wire → Bool) (b : ℕ) (ws : List Wire) → AreSortedFrom b ws → AreSortedFrom b (filter p ws)
sorted-filter p b [] h = tt
sorted-filter p b (w ∷ ws) h = by (p w) (sorted-filter p w.step ws h.1)
  where
    by : (t : Bool) → AreSortedFrom w.step (filter p ws) → AreSortedFrom b (cond t (w ∷ filter p ws) (filter p ws))
    by true r = (h.0, r)
    by false r = sorted-lower b w.step (filter p ws) h.0 r

-- ---- the ways into step c lie in its run

other-no : (c : ℕ) (w : Wire) → (w.step ≡ c → ⊥) → leads_into c w ≡ false
other-no c w ne = ap (λ b. b && is_walked w) (ne_eqb w.step c ne)

own-same : (c : ℕ) (w : Wire) → w.step ≡ c → leads_into c w ≡ is_walked w
own-same c w e = ap (λ b. b && is_walked w) (eq-eqb w.step c e)

pub no-ways : (c : ℕ) (ws : List Wire) → Each (λ (w : Wire). w.step ≡ c → ⊥) ws → ways_into c ws ≡ []
no-ways c ws h = ap (map way_of) (filter-none (leads_into c) ws (each-weaken (λ (w : Wire). w.step ≡ c → ⊥) (λ w. leads_into c w ≡ false) (other-no c) ws h))

-- ways lead along wires into ports that walk some levels
pub walked-ways : (c : ℕ) (ws : List Wire) → ways_into c (filter is_walked ws) ≡ ways_into c ws
walked-ways c ws = ap (map way_of) (filter-among (leads_into c) is_walked unwalked ws)
  where
    no : (b : Bool) → (b && false) ≡ false
    no true = refl
    no false = refl

    unwalked : (w : Wire) → is_walked w ≡ false → leads_into c w ≡ false
    unwalked w e = ap (λ b. w.step == c && b) e ∙ no (w.step == c)

pub run-ways : (c : ℕ) (before run rest : List Wire) → Each (λ (w : Wire). w.step < c) before → Each (λ (w : Wire). w.step ≡ c) run → AreSortedFrom (c + 1) rest → map way_of (filter is_walked run) ≡ ways_into c (before ++ (run ++ rest))
run-ways c before run rest b r s =
    let outside : (ws : List Wire) → Each (λ (w : Wire). w.step ≡ c → ⊥) ws → filter (leads_into c) ws ≡ [] = λ ws h. filter-none (leads_into c) ws (each-weaken (λ (w : Wire). w.step ≡ c → ⊥) (λ w. leads_into c w ≡ false) (other-no c) ws h) in
    let front = outside before (each-weaken (λ (w : Wire). w.step < c) (λ (w : Wire). w.step ≡ c → ⊥) (λ w l e. omega (arith, l, e)) before b) in
    let back = outside rest (each-weaken (λ (w : Wire). c + 1 ≤ w.step) (λ (w : Wire). w.step ≡ c → ⊥) (λ w l e. omega (arith, l, e)) rest (sorted-each (c + 1) rest s)) in
    let own : filter (leads_into c) run ≡ filter is_walked run = filter-same (leads_into c) is_walked run (each-weaken (λ (w : Wire). w.step ≡ c) (λ w. leads_into c w ≡ is_walked w) (own-same c) run r) in
    ap (map way_of)
    (sym
    (filter-append (leads_into c) before (run ++ rest)
    ∙ (λ i. front i ++ filter-append (leads_into c) run rest i)
    ∙ (λ i. own i ++ back i)
    ∙ append-nil (filter is_walked run)))
