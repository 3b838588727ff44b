-- Places that are made beforehand stay, and more are made.
use Rattle.std.proofs.Common.{◌≡◌, ◌⊎◌, inl, inr, refl, ℕ, zero, suc, ◌+◌, ◌-◌, ◌<◌, ◌≤◌, true, false, List, [], ◌∷◌, ◌++◌, length, take, drop, get_or, sym, ap, subst, ◌∙◌, arith, append_assoc, append-nil, length-append}
use Rattle.std.proofs.Math.ListN.{get_or-append}
use Rattle.std.proofs.Math.Seq.{get_or-append_right}
use Rattle.std.proofs.lemmas.List.{get_or-take, get_or-drop, length-drop, take-append-le, length-take-le}
use Rattle.tv_value.specs.Nested.{Place}
use Rattle.tv_value.specs.Strategies.{Strategy}
use Rattle.tv_value.specs.Values.{Name}
use Rattle.tv_strategy.specs.Conditions.{number_of}
use Rattle.tv_strategy.specs.Measures.{strategy_depth}
use Rattle.tv_match.specs.declared.places.Places.{Places}
use Rattle.tv_match.specs.Entries.{Entry, no_entry, entry_at, front, places_of}
use Rattle.tv_match.specs.Placed.{ArePlaced, IsPlaced, OthersStay}
use Rattle.tv_match.proofs.Fronts.{front-first, front-short}
use Rattle.tv_match.proofs.Putting.{from-next, past}

place-at : (es : List Entry) (i : ℕ) → get_or (places_of es) i [] ≡ (entry_at es i).place
place-at [] i = refl
place-at (e ∷ es) zero = refl
place-at (e ∷ es) (suc i) = place-at es i

long-places : (es : List Entry) → length (places_of es) ≡ length es
long-places [] = refl
long-places (e ∷ es) = ap suc (long-places es)

take-short : {A : Type 0} (n : ℕ) (xs : List A) → length (take n xs) ≤ length xs
take-short zero xs = omega arith
take-short (suc n) [] = omega arith
take-short (suc n) (x ∷ xs) = let r = take-short n xs in omega (arith, r)

pub first-kept : (n : ℕ) (old cut new : List Place) → n ≤ length old → cut ≡ take n old → take (length cut) new ≡ cut → take n new ≡ take n old
first-kept n old cut new h e f = sym (ap (λ k. take k new) (ap length e ∙ length-take-le n old h)) ∙ f ∙ e

entry-front : (n : ℕ) (es : List Entry) (i : ℕ) → i < length (front n es) → entry_at (front n es) i ≡ entry_at es i
entry-front n es i h = ap (λ l. entry_at l i) (sym (front-first n es)) ∙ get_or-take (length (front n es)) es i no_entry h

-- ---- places are put at the end, one after the other

pub put-next : (made : List Place) (out : List Entry) (i : ℕ) (p : Place) → i < length out → p ≡ (entry_at out i).place → (made ++ p ∷ []) ++ places_of (drop (i + 1) out) ≡ made ++ places_of (drop i out)
put-next made out i p h e =
    append_assoc made (p ∷ []) (places_of (drop (i + 1) out))
    ∙ ap (λ x. made ++ x ∷ places_of (drop (i + 1) out)) e
    ∙ ap (λ es. made ++ places_of es) (sym (from-next out i h))

pub put-first : (made old : List Place) (p : Place) → take (length old) made ≡ old → take (length old) (made ++ p ∷ []) ≡ old
put-first made old p h = take-append-le (length old) made (p ∷ []) (let k = ap length h in let s = take-short (length old) made in omega (arith, k, s)) ∙ h

pub put-end : (made : List Place) (out : List Entry) (i : ℕ) → length out ≤ i → made ≡ made ++ places_of (drop i out)
put-end made out i h = sym (ap (λ es. made ++ places_of es) (past out i h) ∙ append-nil made)

-- ---- all are made

pub placed-all : (d : ℕ) (p : Places) (out : List Entry) (g : ℕ) → (p.deep ≡ false → d ≤ 32) → (p.deep ≡ true → p.made.items ≡ places_of out) → ArePlaced d p out g
placed-all d p out g h e =
    record {
      shallow = h;
      long = λ b. let l = ap length (e b) in let k = long-places out in omega (arith, l, k);
      made = λ b i j l. ap (λ ps. get_or ps i []) (e b) ∙ place-at out i;
    }

module _ (d : ℕ) (p q : Places) (out : List Entry) (g n k : ℕ) (a : ArePlaced d p out g) (b : q.deep ≡ p.deep) (c : k ≡ length (front n out)) where
  deep : q.deep ≡ true → p.deep ≡ true
  deep e = sym b ∙ e

  many : q.deep ≡ true → k ≤ length p.made.items
  many e = let l = a.long (deep e) in let s = front-short n out in omega (arith, c, l, s)

  enough : q.deep ≡ true → length (take k p.made.items) ≡ k
  enough e = length-take-le k p.made.items (many e)

  first-made : (e : q.deep ≡ true) (i : ℕ) → g ≤ i → i < k → get_or (take k p.made.items) i [] ≡ (entry_at (front n out) i).place
  first-made e i j l =
      let s = front-short n out in
      let w : i < length (front n out) = omega (arith, c, l) in
      get_or-take k p.made.items i [] l ∙ a.made (deep e) i j (omega (arith, w, s)) ∙ sym (ap (λ (x : Entry). x.place) (entry-front n out i w))

  -- what was held is taken back
  pub placed-back : (outs : List Entry) → outs ≡ front n out → (k ≤ length p.made.items → take k q.made.items ≡ take k p.made.items) → ArePlaced d q outs g
  placed-back outs o t =
      record {
        shallow = λ e. a.shallow (sym b ∙ e);
        long = λ e. let l = ap length (t (many e)) in let m = enough e in let s = take-short k q.made.items in let r = ap length o in omega (arith, l, m, s, r, c);
        made = λ e i j l.
            let r = ap length o in
            let w : i < k = omega (arith, l, r, c) in
            sym (get_or-take k q.made.items i [] w) ∙ ap (λ ps. get_or ps i []) (t (many e)) ∙ first-made e i j w ∙ ap (λ (es : List Entry). (entry_at es i).place) (sym o);
      }

  -- and more is made
  module _ (outs : List Entry) (o : front n outs ≡ front n out) (t : q.deep ≡ true → q.made.items ≡ take k p.made.items ++ places_of (drop k outs)) where
    as-many : length (places_of (drop k outs)) ≡ length outs - k
    as-many = long-places (drop k outs) ∙ length-drop k outs

    within : k ≤ length outs
    within = let s = front-short n outs in let r = ap length o in omega (arith, s, r, c)

    at : (e : q.deep ≡ true) (i : ℕ) → g ≤ i → (i < k) ⊎ (k ≤ i) → get_or q.made.items i [] ≡ (entry_at outs i).place
    at e i j (inl l) =
        let m = enough e in
        let r = ap length o in
        ap (λ ps. get_or ps i []) (t e)
        ∙ get_or-append (take k p.made.items) (places_of (drop k outs)) [] i (omega (arith, l, m))
        ∙ first-made e i j l
        ∙ ap (λ (es : List Entry). (entry_at es i).place) (sym o)
        ∙ ap (λ (x : Entry). x.place) (entry-front n outs i (omega (arith, l, r, c)))
    at e i j (inr l) =
        let m = enough e in
        ap (λ ps. get_or ps i []) (t e)
        ∙ get_or-append_right (take k p.made.items) (places_of (drop k outs)) i [] (omega (arith, l, m))
        ∙ ap (λ x. get_or (places_of (drop k outs)) (i - x) []) m
        ∙ place-at (drop k outs) (i - k)
        ∙ ap (λ (x : Entry). x.place) (get_or-drop k outs (i - k) no_entry)
        ∙ ap (λ x. (entry_at outs x).place) (back i k l)
      where
        back : (i k : ℕ) → k ≤ i → k + (i - k) ≡ i
        back i k l = omega (arith, l)

    lt_or : (i j : ℕ) → (i < j) ⊎ (j ≤ i)
    lt_or zero zero = inr (omega arith)
    lt_or zero (suc j) = inl (omega arith)
    lt_or (suc i) zero = inr (omega arith)
    lt_or (suc i) (suc j) = next (lt_or i j)
      where
        next : (i < j) ⊎ (j ≤ i) → (suc i < suc j) ⊎ (suc j ≤ suc i)
        next (inl k) = inl (omega (arith, k))
        next (inr k) = inr (omega (arith, k))

    pub placed-more : ArePlaced d q outs g
    placed-more =
        record {
          shallow = λ e. a.shallow (sym b ∙ e);
          long = λ e. let l = ap length (t e) in let m = enough e in let r = length-append (take k p.made.items) (places_of (drop k outs)) in let s = as-many in let w = within in omega (arith, l, m, r, s, w);
          made = λ e i j l. at e i j (lt_or i k);
        }

-- ---- where one comes out

pub placed-next : (d : ℕ) (p : Places) (out : List Entry) (g : ℕ) → ArePlaced d p out g → ArePlaced d p out (g + 1)
placed-next d p out g a = record { shallow = a.shallow; long = a.long; made = λ e i j l. a.made e i (omega (arith, j)) l }

pub placed-out : (d : ℕ) (p q : Places) (out : List Entry) (g : ℕ) → q.deep ≡ p.deep → OthersStay g p.made.items q.made.items → ArePlaced d p out (g + 1) → ArePlaced d q out (g + 1)
placed-out d p q out g b o a =
    record {
      shallow = λ e. a.shallow (sym b ∙ e);
      long = λ e. let l = a.long (sym b ∙ e) in let m = o.length_is in omega (arith, l, m);
      made = λ e i j l. o.stay i (other i j) ∙ a.made (sym b ∙ e) i j l;
    }
  where
    other : (i : ℕ) → g + 1 ≤ i → i ≡ g → ⊥
    other i j e = omega (arith, j, e)

pub placed-at : (d : ℕ) (p : Places) (out : List Entry) (g : ℕ) (q : Place) → ArePlaced d p out g → g < length out → q ≡ (entry_at out g).place → length q ≤ d → IsPlaced p g q
placed-at d p out g q a h e l =
    record {
      short = λ b. let k = a.shallow b in omega (arith, k, l);
      within = λ b. let k = a.long b in omega (arith, h, k);
      made = λ b. a.made b g (omega arith) h ∙ sym e;
    }

pub placed-equal : (d e : ℕ) (p : Places) (out outs : List Entry) (g : ℕ) → e ≡ d → outs ≡ out → ArePlaced d p out g → ArePlaced e p outs g
placed-equal d e p out outs g f h a = subst (λ x. ArePlaced x p outs g) (sym f) (subst (λ x. ArePlaced d p x g) (sym h) a)

pub depth-equal : (s t : Strategy) (mm nn : List (Name × ℕ)) → t ≡ s → nn ≡ mm → strategy_depth (number_of nn) t ≡ strategy_depth (number_of mm) s
depth-equal s t mm nn e f = ap (strategy_depth (number_of nn)) e ∙ ap (λ x. strategy_depth (number_of x) s) f
