-- Slots that lie one after the other, and what they show.
use Rattle.std.proofs.Common.{◌≡◌, refl, ℕ, zero, suc, ◌+◌, ◌-◌, ◌<◌, ◌≤◌, List, [], ◌∷◌, ◌++◌, length, take, drop, get_or, sym, ap, subst, ◌∙◌, arith, length-append, length-drop}
use Rattle.std.proofs.lemmas.List.{take-append-le, drop-append-le, drop-take, get_or-map}
use Rattle.tv_lemmas.proofs.Lists.{map-take}
use Rattle.tv_match.specs.declared.bags.Slot.{Slot}
use Rattle.tv_match.specs.Entries.{Entry, entry, no_entry, entry_at}
use Rattle.tv_match.specs.Slots.{shown_slot, bag_entries, AreLaid}

-- each slot ends before the last index
pub laid-rises : (a : ℕ) (ss : List Slot) (b : ℕ) → AreLaid a ss b → a ≤ b
laid-rises a [] b h = omega arith
laid-rises a (s ∷ ss) b h = let r = laid-rises (a + s.length) ss b h.1 in omega (arith, r)

pub laid-within : (a : ℕ) (ss : List Slot) (b i : ℕ) (d : Slot) → AreLaid a ss b → i < length ss → (get_or ss i d).start + (get_or ss i d).length ≤ b
laid-within a [] b i d h k = absurd (none i k)
  where
    none : (i : ℕ) → i < 0 → ⊥
    none i h = omega arith
laid-within a (s ∷ ss) b zero d h k = let r = laid-rises (a + s.length) ss b h.1 in let e : s.start ≡ a = h.0 in omega (arith, r, e)
laid-within a (s ∷ ss) b (suc i) d h k = laid-within (a + s.length) ss b i d h.1 (below i (length ss) k)
  where
    below : (i n : ℕ) → suc i < suc n → i < n
    below i n h = omega arith

-- one more
pub laid-push : (a : ℕ) (ss : List Slot) (b : ℕ) (s : Slot) → AreLaid a ss b → s.start ≡ b → AreLaid a (ss ++ s ∷ []) (b + s.length)
laid-push a [] b s h e = (e ∙ sym h, ap (λ n. n + s.length) h)
laid-push a (t ∷ ss) b s h e = (h.0, laid-push (a + t.length) ss b s h.1 e)

-- the first ones
pub laid-front : (a : ℕ) (ss : List Slot) (b n : ℕ) (d : Slot) → AreLaid a ss b → n < length ss → AreLaid a (take n ss) (get_or ss n d).start
laid-front a [] b n d h k = absurd (none n k)
  where
    none : (i : ℕ) → i < 0 → ⊥
    none i h = omega arith
laid-front a (s ∷ ss) b zero d h k = sym h.0
laid-front a (s ∷ ss) b (suc n) d h k = (h.0, laid-front (a + s.length) ss b n d h.1 (below n (length ss) k))
  where
    below : (i n : ℕ) → suc i < suc n → i < n
    below i n h = omega arith

-- ---- what they show

seen-more : (idx more : List ℕ) (start len : ℕ) → start + len ≤ length idx → take len (drop start (idx ++ more)) ≡ take len (drop start idx)
seen-more idx more start len h =
    ap (take len) (drop-append-le start idx more (first start len (length idx) h)) ∙ take-append-le len (drop start idx) more (omega (arith, length-drop start idx))
  where
    first : (a b n : ℕ) → a + b ≤ n → a ≤ n
    first a b n h = omega arith

pub shown-more : (idx more : List ℕ) (a : ℕ) (ss : List Slot) (b : ℕ) → AreLaid a ss b → b ≤ length idx → bag_entries (idx ++ more) ss ≡ bag_entries idx ss
shown-more idx more a [] b h k = refl
shown-more idx more a (s ∷ ss) b h k =
    ap (λ q. entry s.number q s.kind ∷ bag_entries (idx ++ more) ss) (seen-more idx more s.start s.length (here (laid-rises (a + s.length) ss b h.1) h.0))
    ∙ ap (λ es. shown_slot idx s ∷ es) (shown-more idx more (a + s.length) ss b h.1 k)
  where
    here : a + s.length ≤ b → s.start ≡ a → s.start + s.length ≤ length idx
    here r e = omega (arith, r, e, k)

seen-front : (idx : List ℕ) (c start len : ℕ) → start + len ≤ c → take len (drop start (take c idx)) ≡ take len (drop start idx)
seen-front idx c start len h = by (c - start) (gap c start len h)
  where
    gap : (c start len : ℕ) → start + len ≤ c → start + (c - start) ≡ c
    gap c start len h = omega arith

    long : (m : ℕ) → start + m ≡ c → len ≤ m
    long m e = omega (arith, e, h)

    shorter : (m : ℕ) (xs : List ℕ) (len : ℕ) → len ≤ m → take len (take m xs) ≡ take len xs
    shorter m xs zero h = refl
    shorter zero [] (suc len) h = refl
    shorter (suc m) [] (suc len) h = refl
    shorter zero (x ∷ xs) (suc len) h = absurd (omega (arith, h))
    shorter (suc m) (x ∷ xs) (suc len) h = ap (λ l. x ∷ l) (shorter m xs len (omega (arith, h)))

    by : (m : ℕ) → start + m ≡ c → take len (drop start (take c idx)) ≡ take len (drop start idx)
    by m e = ap (λ n. take len (drop start (take n idx))) (sym e) ∙ ap (take len) (drop-take start m idx) ∙ shorter m (drop start idx) len (long m e)

pub shown-front : (idx : List ℕ) (c a : ℕ) (ss : List Slot) → AreLaid a ss c → bag_entries (take c idx) ss ≡ bag_entries idx ss
shown-front idx c a [] h = refl
shown-front idx c a (s ∷ ss) h =
    ap (λ q. entry s.number q s.kind ∷ bag_entries (take c idx) ss) (seen-front idx c s.start s.length (here (laid-rises (a + s.length) ss c h.1) h.0))
    ∙ ap (λ es. shown_slot idx s ∷ es) (shown-front idx c (a + s.length) ss h.1)
  where
    here : a + s.length ≤ c → s.start ≡ a → s.start + s.length ≤ c
    here r e = omega (arith, r, e)

pub length-shown : (idx : List ℕ) (ss : List Slot) → length (bag_entries idx ss) ≡ length ss
length-shown idx [] = refl
length-shown idx (s ∷ ss) = ap suc (length-shown idx ss)

-- ---- the calls of a bag

pub pushed-laid : (slots more : List Slot) (idx all q : List ℕ) (s : Slot) → AreLaid 0 slots (length idx) → all ≡ idx ++ q → more ≡ slots ++ s ∷ [] → s.start ≡ length idx → s.length ≡ length all - length idx → AreLaid 0 more (length all)
pushed-laid slots more idx all q s h e f g l =
    subst (λ ss. AreLaid 0 ss (length all)) (sym f) (subst (AreLaid 0 (slots ++ s ∷ [])) (sums (length idx) (length all) s.length (within all e) l) (laid-push 0 slots (length idx) s h g))
  where
    within : (all : List ℕ) → all ≡ idx ++ q → length idx ≤ length all
    within all e = omega (arith, ap length e, length-append idx q)

    sums : (a b c : ℕ) → a ≤ b → c ≡ b - a → a + c ≡ b
    sums a b c h e = omega arith

pub pushed-shown : (slots more : List Slot) (idx all q : List ℕ) (s : Slot) → AreLaid 0 slots (length idx) → all ≡ idx ++ q → more ≡ slots ++ s ∷ [] → s.start ≡ length idx → s.length ≡ length all - length idx → bag_entries all more ≡ bag_entries idx slots ++ entry s.number q s.kind ∷ []
pushed-shown slots more idx all q s h e f g l =
    ap (bag_entries all) f
    ∙ both slots
    ∙ ap (λ es. es ++ shown_slot all s ∷ []) (ap (λ i. bag_entries i slots) e ∙ shown-more idx q 0 slots (length idx) h (omega arith))
    ∙ ap (λ p. bag_entries idx slots ++ entry s.number p s.kind ∷ []) place
  where
    both : (slots : List Slot) → bag_entries all (slots ++ s ∷ []) ≡ bag_entries all slots ++ shown_slot all s ∷ []
    both [] = refl
    both (t ∷ slots) = ap (λ es. shown_slot all t ∷ es) (both slots)

    after : (xs : List ℕ) → drop (length xs) (xs ++ q) ≡ q
    after [] = refl
    after (x ∷ xs) = after xs

    long : s.length ≡ length q
    long = let k = ap length e in let m = length-append idx q in omega (arith, l, k, m)

    every : (xs : List ℕ) → take (length xs) xs ≡ xs
    every [] = refl
    every (x ∷ xs) = ap (λ l. x ∷ l) (every xs)

    place : take s.length (drop s.start all) ≡ q
    place = ap (λ n. take n (drop s.start all)) long ∙ ap (λ n. take (length q) (drop n all)) g ∙ ap (λ i. take (length q) (drop (length idx) i)) e ∙ ap (take (length q)) (after idx) ∙ every q

module _ (slots less : List Slot) (idx few : List ℕ) (n start : ℕ) (d : Slot) (h : AreLaid 0 slots (length idx)) (k : n < length slots) (s : start ≡ (get_or slots n d).start) (e : few ≡ take start idx) (f : less ≡ take n slots) where
  laid-start : AreLaid 0 less start
  laid-start = subst (λ ss. AreLaid 0 ss start) (sym f) (subst (AreLaid 0 (take n slots)) (sym s) (laid-front 0 slots (length idx) n d h k))

  short : length few ≡ start
  short = ap length e ∙ taken idx start (omega (arith, s, laid-within 0 slots (length idx) n d h k))
    where
      taken : (xs : List ℕ) (m : ℕ) → m ≤ length xs → length (take m xs) ≡ m
      taken xs zero h = refl
      taken [] (suc m) h = absurd (omega (arith, h))
      taken (x ∷ xs) (suc m) h = ap suc (taken xs m (omega (arith, h)))

  pub cut-laid : AreLaid 0 less (length few)
  cut-laid = subst (AreLaid 0 less) (sym short) laid-start

  pub cut-shown : bag_entries few less ≡ take n (bag_entries idx slots)
  cut-shown = ap (λ i. bag_entries i less) e ∙ shown-front idx start 0 less laid-start ∙ ap (bag_entries idx) f ∙ map-take (shown_slot idx) n slots

-- the number of an item
pub number-shown : (idx : List ℕ) (slots : List Slot) (i : ℕ) (s : Slot) → i < length slots → s ≡ get_or slots i s → (entry_at (bag_entries idx slots) i).number ≡ s.number
number-shown idx slots i s h e = ap (λ (x : Entry). x.number) (get_or-map (shown_slot idx) slots i s no_entry h) ∙ ap (λ (t : Slot). t.number) (sym e)
