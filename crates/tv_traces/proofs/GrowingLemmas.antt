-- What is told of lists that grow, with one item more, with all around a place, and in the end.
use Rattle.std.specs.BTreeMap.{BTreeMap, Updates, get, is_at}
use Rattle.std.specs.Map.{lookup}
use Rattle.std.specs.Ordering.{is_eq}
use Rattle.std.specs.Prelude.{◌≡◌, refl, ℕ, zero, suc, ◌+◌, ◌≤◌, ◌<◌, ◌⊎◌, Bool, true, false, nat_lt, not, List, [], ◌∷◌, ◌++◌, length, map, take, drop, Option, Some, None, option_map}
use Rattle.std.proofs.Common.{append_assoc, arith, sym, ap, ap₂, subst, ◌∙◌, get_or, inl, inr, ltb-false, ltb-true}
use Rattle.std.proofs.lemmas.List.{map-append, take_all}
use Rattle.std.proofs.lemmas.Option.{none-some, same_Some}
use Rattle.std.specs.Cmp.Lexicographic.{texts_ties}
use Rattle.tv_lemmas.specs.Members.{In}
use Rattle.tv_lemmas.proofs.Members.{in-append, in-left, in-right}
use Rattle.tv_lemmas.proofs.Numbers.{none-below}
use Rattle.tv_lemmas.proofs.Tests.{from-true_false}
use Rattle.tv_lemmas.proofs.Lists.{take-next}
use Rattle.tv_value.specs.Nested.{Place}
use Rattle.tv_value.specs.Orders.{place_cmp, same_name}
use Rattle.tv_value.proofs.NameLemmas.{same_name-is, same_name-refl}
use Rattle.tv_frame.specs.Levels as levels
use Rattle.tv_frame.specs.Levels.{IsAmong, closed}
use Rattle.tv_frame.specs.Views.{level_view}
use Rattle.tv_frame.specs.declared.level.Level.{Level}
use Rattle.tv_traces.specs.Tables.{AreGrown, IsInside, IsThere}
use Rattle.tv_traces.specs.Growing.{AreGrownBy, IsAround, IsAroundOne, Items, WithAround, WithItem, at_least}
use Rattle.tv_traces.specs.Sights.{grown_in, level_spot}
use Rattle.tv_lineage.proofs.Seeing.{last as in-last}

-- ---- keys

abbrev front : ℕ → Place → ℕ
front d [] = d
front d (i ∷ q) = i

abbrev rest : Place → Place
rest [] = []
rest (i ∷ q) = q

pub same-key : (n m : ℕ) (q p : Place) → n ∷ q ≡ m ∷ p → (n ≡ m) × (q ≡ p)
same-key n m q p e = (ap (front 0) e, ap rest e)

pub at-key : (key r : Place) → (r ≡ key) ⊎ (r ≡ key → ⊥)
at-key key r = by (same_name r key) refl
  where
    by : (b : Bool) → same_name r key ≡ b → (r ≡ key) ⊎ (r ≡ key → ⊥)
    by true e = inl (same_name-is r key e)
    by false e = inr (λ f. from-true_false (sym (subst (λ k. same_name r k ≡ true) f (same_name-refl r)) ∙ e))

-- ---- lists

pub none-at : {X : Type 0} (m : BTreeMap Place X) → m.entries ≡ [] → (k : Place) → get place_cmp m k ≡ None
none-at m e k = ap (lookup (is_at (place_cmp k))) e

-- ---- relations

pub same-items : (R S : Items) → ((n : ℕ) (q : Place) (i : ℕ) → R n q i → S n q i) → ((n : ℕ) (q : Place) (i : ℕ) → S n q i → R n q i) → (found : Place → Option ℕ) → AreGrownBy R found → AreGrownBy S found
same-items R S f g found h = record {
  told = λ n q i s. h.told n q i (g n q i s);
  from = λ n q m e. let x = h.from n q m e in (x.0, f n q x.0 x.1, x.2);
}

-- nothing is told of nothing
pub none-grown : (R : Items) → ((n : ℕ) (q : Place) (i : ℕ) → R n q i → ⊥) → (found : Place → Option ℕ) → ((k : Place) → found k ≡ None) → AreGrownBy R found
none-grown R f found e = record {
  told = λ n q i r. absurd (f n q i r);
  from = λ n q m h. absurd (none-some m (sym (e (n ∷ q)) ∙ h));
}

-- ---- one item

module _ (R : Items) (step : ℕ) (place : Place) (index count : ℕ) (is : count ≡ suc index) where
  below : (i m n : ℕ) → i < m → m < n → i < n
  below i m n h k = omega arith

  within : index < count
  within = omega (arith, is)

  -- the list is told as longer than before
  pub item-more : (found more : Place → Option ℕ) → more (step ∷ place) ≡ Some count → ((k : Place) → (k ≡ step ∷ place → ⊥) → more k ≡ found k) → ((m : ℕ) → found (step ∷ place) ≡ Some m → m < count) → AreGrownBy R found → AreGrownBy (WithItem R step place index) more
  item-more found more here there less h = record { told = told; from = λ n q m e. from n q m e (at-key (step ∷ place) (n ∷ q)) }
    where
      old : (n : ℕ) (q : Place) (i : ℕ) → R n q i → (n ∷ q ≡ step ∷ place) ⊎ (n ∷ q ≡ step ∷ place → ⊥) → (m : ℕ) × (more (n ∷ q) ≡ Some m) × (i < m)
      old n q i r (inl e) = let x = h.told n q i r in (count, ap more e ∙ here, below i x.0 count x.2 (less x.0 (sym (ap found e) ∙ x.1)))
      old n q i r (inr f) = let x = h.told n q i r in (x.0, there (n ∷ q) f ∙ x.1, x.2)

      told : (n : ℕ) (q : Place) (i : ℕ) → WithItem R step place index n q i → (m : ℕ) × (more (n ∷ q) ≡ Some m) × (i < m)
      told n q i (inl r) = old n q i r (at-key (step ∷ place) (n ∷ q))
      told n q i (inr e) = (count, ap₂ (λ a b. more (a ∷ b)) e.0 e.1 ∙ here, subst (λ j. j < count) (sym e.2) within)

      from : (n : ℕ) (q : Place) (m : ℕ) → more (n ∷ q) ≡ Some m → (n ∷ q ≡ step ∷ place) ⊎ (n ∷ q ≡ step ∷ place → ⊥) → (i : ℕ) × WithItem R step place index n q i × (m ≡ suc i)
      from n q m e (inl f) = let k = same-key n step q place f in (index, inr (k.0, k.1, refl), same_Some m count (sym e ∙ ap more f ∙ here) ∙ is)
      from n q m e (inr f) = let x = h.from n q m (sym (there (n ∷ q) f) ∙ e) in (x.0, inl x.1, x.2)

  -- it is told as long already
  pub item-there : (found : Place → Option ℕ) (least : ℕ) → found (step ∷ place) ≡ Some least → count ≤ least → AreGrownBy R found → AreGrownBy (WithItem R step place index) found
  item-there found least here enough h = record { told = told; from = λ n q m e. let x = h.from n q m e in (x.0, inl x.1, x.2) }
    where
      long : index < least
      long = omega (arith, is, enough)

      told : (n : ℕ) (q : Place) (i : ℕ) → WithItem R step place index n q i → (m : ℕ) × (found (n ∷ q) ≡ Some m) × (i < m)
      told n q i (inl r) = h.told n q i r
      told n q i (inr e) = (least, ap₂ (λ a b. found (a ∷ b)) e.0 e.1 ∙ here, subst (λ j. j < least) (sym e.2) long)

-- by the test
pub long-there : (count : ℕ) (o : Option ℕ) → at_least count o ≡ true → (least : ℕ) × (o ≡ Some least) × (count ≤ least)
long-there count None h = from-true_false (sym h)
long-there count (Some m) h = (m, refl, by (nat_lt m count) refl h)
  where
    le : (a b : ℕ) → nat_lt a b ≡ false → b ≤ a
    le a b e = ltb-false a b e

    by : (b : Bool) → nat_lt m count ≡ b → not b ≡ true → count ≤ m
    by true e g = from-true_false (sym g)
    by false e g = le m count e

pub short-there : (count : ℕ) (o : Option ℕ) → at_least count o ≡ false → (m : ℕ) → o ≡ Some m → m < count
short-there count o h m e = by (nat_lt m count) refl (sym (ap (at_least count) e) ∙ h)
  where
    by : (b : Bool) → nat_lt m count ≡ b → not b ≡ false → m < count
    by true f g = ltb-true m count f
    by false f g = from-true_false g

pub item-updated : (s t : BTreeMap Place ℕ) (key : Place) (step : ℕ) (place : Place) (index count : ℕ) → key ≡ step ∷ place → count ≡ index + 1 → at_least count (get place_cmp s key) ≡ false → Updates place_cmp s t key (Some count) → (R : Items) → AreGrownBy R (get place_cmp s) → AreGrownBy (WithItem R step place index) (get place_cmp t)
item-updated s t key step place index count e f h u R =
    item-more R step place index count (f ∙ one index) (get place_cmp s) (get place_cmp t) (ap (get place_cmp t) (sym e) ∙ u.1)
    (λ r g. u.2 r (off r (λ k. g (k ∙ e)) (same_name key r) refl))
    (λ m k. short-there count (get place_cmp s key) h m (ap (get place_cmp s) e ∙ k))
  where
    one : (n : ℕ) → n + 1 ≡ suc n
    one n = omega arith

    off : (r : Place) → (r ≡ key → ⊥) → (b : Bool) → same_name key r ≡ b → is_eq (place_cmp key r) ≡ false
    off r g true k = absurd (g (sym (same_name-is key r k)))
    off r g false k = sym (texts_ties key r) ∙ k

pub item-kept : (s : BTreeMap Place ℕ) (key : Place) (step : ℕ) (place : Place) (index count : ℕ) → key ≡ step ∷ place → count ≡ index + 1 → at_least count (get place_cmp s key) ≡ true → (R : Items) → AreGrownBy R (get place_cmp s) → AreGrownBy (WithItem R step place index) (get place_cmp s)
item-kept s key step place index count e f h R =
    let x = long-there count (get place_cmp s key) h in
    item-there R step place index count (f ∙ one index) (get place_cmp s) x.0 (ap (get place_cmp s) (sym e) ∙ x.1) x.2
  where
    one : (n : ℕ) → n + 1 ≡ suc n
    one n = omega arith

-- ---- all around a place

pub around-none : (R : Items) (step : ℕ) (place : Place) (found : Place → Option ℕ) → AreGrownBy R found → AreGrownBy (WithAround R step place 0) found
around-none R step place = same-items R (WithAround R step place 0) (λ n q i r. inl r) back
  where
    back : (n : ℕ) (q : Place) (i : ℕ) → WithAround R step place 0 n q i → R n q i
    back n q i (inl r) = r
    back n q i (inr x) = absurd (none-below (length q) x.1.less)

-- the item at that depth
take-whole : (place : Place) (depth index : ℕ) → depth < length place → index ≡ get_or place depth index → place ≡ take depth place ++ index ∷ drop (suc depth) place
take-whole [] depth index h e = absurd (none-below depth h)
take-whole (j ∷ place) zero index h e = ap (λ k. k ∷ place) (sym e)
take-whole (j ∷ place) (suc depth) index h e = ap (λ l. j ∷ l) (take-whole place depth index (less depth (length place) h) e)
  where
    less : (a b : ℕ) → suc a < suc b → a < b
    less a b h = omega arith

take-long : (place : Place) (depth : ℕ) → depth < length place → length (take depth place) ≡ depth
take-long [] depth h = absurd (none-below depth h)
take-long (j ∷ place) zero h = refl
take-long (j ∷ place) (suc depth) h = ap suc (take-long place depth (less depth (length place) h))
  where
    less : (a b : ℕ) → suc a < suc b → a < b
    less a b h = omega arith

pub around-more : (R : Items) (step : ℕ) (place : Place) (depth index : ℕ) → depth < length place → index ≡ get_or place depth index → (found : Place → Option ℕ) → AreGrownBy (WithItem (WithAround R step place depth) step (take depth place) index) found → AreGrownBy (WithAround R step place (depth + 1)) found
around-more R step place depth index lt is = same-items (WithItem (WithAround R step place depth) step (take depth place) index) (WithAround R step place (depth + 1)) to back
  where
    more : (a b : ℕ) → a < b → a < b + 1
    more a b h = omega arith

    last : (a b : ℕ) → a ≡ b → a < b + 1
    last a b h = omega arith

    to : (n : ℕ) (q : Place) (i : ℕ) → WithItem (WithAround R step place depth) step (take depth place) index n q i → WithAround R step place (depth + 1) n q i
    to n q i (inl (inl r)) = inl r
    to n q i (inl (inr x)) = inr (x.0, record { rest = x.1.rest; whole = x.1.whole; less = more (length q) depth x.1.less })
    to n q i (inr x) = inr (
      x.0,
      record {
        rest = drop (suc depth) place;
        whole = take-whole place depth index lt is ∙ ap₂ (λ a b. a ++ b ∷ drop (suc depth) place) (sym x.1) (sym x.2);
        less = last (length q) depth (ap length x.1 ∙ take-long place depth lt);
      },
    )

    one-or : (a b : ℕ) → a < b + 1 → (a < b) ⊎ (a ≡ b)
    one-or zero zero h = inr refl
    one-or zero (suc b) h = inl (some b)
      where
        some : (b : ℕ) → 0 < suc b
        some b = omega arith
    one-or (suc a) zero h = absurd (none a h)
      where
        none : (a : ℕ) → suc a < 0 + 1 → ⊥
        none a h = omega arith
    one-or (suc a) (suc b) h = up (one-or a b (down a b h))
      where
        down : (a b : ℕ) → suc a < suc b + 1 → a < b + 1
        down a b h = omega arith

        further : (a b : ℕ) → a < b → suc a < suc b
        further a b h = omega arith

        up : (a < b) ⊎ (a ≡ b) → (suc a < suc b) ⊎ (suc a ≡ suc b)
        up (inl k) = inl (further a b k)
        up (inr e) = inr (ap suc e)

    by : (n : ℕ) (q : Place) (i : ℕ) → n ≡ step → (x : IsAround place (depth + 1) q i) → (length q < depth) ⊎ (length q ≡ depth) → WithItem (WithAround R step place depth) step (take depth place) index n q i
    by n q i e x (inl h) = inl (inr (e, record { rest = x.rest; whole = x.whole; less = h }))
    by n q i e x (inr h) = let y = there q i x.rest place x.whole depth h is in inr (e, y.0, y.1)
      where
        there : (q : Place) (i : ℕ) (p place : Place) → place ≡ q ++ i ∷ p → (depth : ℕ) → length q ≡ depth → index ≡ get_or place depth index → (q ≡ take depth place) × (i ≡ index)
        there [] i p [] e d f g = absurd cc
        there [] i p (k ∷ place) e d f g = subst (λ d. index ≡ get_or (k ∷ place) d index → ([] ≡ take d (k ∷ place)) × (i ≡ index)) f (λ z. (refl, sym (ap (front 0) e) ∙ sym z)) g
        there (j ∷ q) i p [] e d f g = absurd cc
        there (j ∷ q) i p (k ∷ place) e d f g =
            subst (λ d. index ≡ get_or (k ∷ place) d index → (j ∷ q ≡ take d (k ∷ place)) × (i ≡ index)) f
            (λ z. let y = there q i p place (ap rest e) (length q) refl z in (ap₂ (λ a b. a ∷ b) (sym (ap (front 0) e)) y.0, y.1)) g

    back : (n : ℕ) (q : Place) (i : ℕ) → WithAround R step place (depth + 1) n q i → WithItem (WithAround R step place depth) step (take depth place) index n q i
    back n q i (inl r) = inl (inl r)
    back n q i (inr x) = by n q i x.0 x.1 (one-or (length q) depth x.1.less)

-- ---- all around these

pub in-end : {A : Type 0} (x y : A) (xs : List A) → In x (xs ++ y ∷ []) → In x xs ⊎ (x ≡ y)
in-end x y [] (inl e) = inr e
in-end x y [] (inr i) = absurd i
in-end x y (z ∷ xs) (inl e) = inl (inl e)
in-end {A = A} x y (z ∷ xs) (inr i) = by (in-end x y xs i)
  where
    by : In x xs ⊎ (x ≡ y) → In x (z ∷ xs) ⊎ (x ≡ y)
    by (inl j) = inl (inr j)
    by (inr e) = inr e

pub in-front : {A : Type 0} (x y : A) (xs : List A) → In x xs → In x (xs ++ y ∷ [])
in-front x y [] i = absurd i
in-front x y (z ∷ xs) (inl e) = inl e
in-front x y (z ∷ xs) (inr i) = inr (in-front x y xs i)

longer : (q : Place) (i : ℕ) (p : Place) → length q < length (q ++ i ∷ p)
longer [] i p = some (length p)
  where
    some : (a : ℕ) → 0 < suc a
    some a = omega arith
longer (j ∷ q) i p = more (length q) (length (q ++ i ∷ p)) (longer q i p)
  where
    more : (a b : ℕ) → a < b → suc a < suc b
    more a b h = omega arith

pub all-more : (js : List (ℕ × Place)) (step : ℕ) (place : Place) (found : Place → Option ℕ) → AreGrownBy (WithAround (IsAroundOne js) step place (length place)) found → AreGrownBy (IsAroundOne (js ++ (step, place) ∷ [])) found
all-more js step place = same-items (WithAround (IsAroundOne js) step place (length place)) (IsAroundOne (js ++ (step, place) ∷ [])) to back
  where
    one : (a b : ℕ) (q r : Place) → a ≡ b → q ≡ r → ◌≡◌ {A = ℕ × Place} (a, q) (b, r)
    one a b q r e f = ap₂ {C = ℕ × Place} (λ x y. (x, y)) e f

    to : (n : ℕ) (q : Place) (i : ℕ) → WithAround (IsAroundOne js) step place (length place) n q i → IsAroundOne (js ++ (step, place) ∷ []) n q i
    to n q i (inl x) = record { rest = x.rest; among = in-front (n, q ++ i ∷ x.rest) (step, place) js x.among }
    to n q i (inr x) = record { rest = x.1.rest; among = subst (λ (y : ℕ × Place). In y (js ++ (step, place) ∷ [])) (one step n place (q ++ i ∷ x.1.rest) (sym x.0) x.1.whole) (in-last (step, place) js) }

    by : (n : ℕ) (q : Place) (i : ℕ) (p : Place) → In (n, q ++ i ∷ p) js ⊎ (◌≡◌ {A = ℕ × Place} (n, q ++ i ∷ p) (step, place)) → WithAround (IsAroundOne js) step place (length place) n q i
    by n q i p (inl j) = inl (record { rest = p; among = j })
    by n q i p (inr e) =
        let whole : place ≡ q ++ i ∷ p = sym (ap (λ (y : ℕ × Place). y.1) e) in
        inr (ap (λ (y : ℕ × Place). y.0) e, record { rest = p; whole = whole; less = subst (λ l. length q < length l) (sym whole) (longer q i p) })

    back : (n : ℕ) (q : Place) (i : ℕ) → IsAroundOne (js ++ (step, place) ∷ []) n q i → WithAround (IsAroundOne js) step place (length place) n q i
    back n q i x = by n q i x.rest (in-end {A = ℕ × Place} (n, q ++ i ∷ x.rest) (step, place) js x.among)

-- ---- in the end

pub nothing-grown : (found : Place → Option ℕ) → ((k : Place) → found k ≡ None) → AreGrownBy (IsAroundOne []) found
nothing-grown found e = none-grown (IsAroundOne []) (λ n q i x. absurd x.among) found e

in-spots : (l : levels.Level) (ls : List Level) → In l (map level_view ls) → In (l.step, l.place) (map level_spot ls)
in-spots l [] i = absurd i
in-spots l (x ∷ ls) (inl e) = inl (ap {B = ℕ × Place} (λ (y : levels.Level). (y.step, y.place)) e)
in-spots l (x ∷ ls) (inr i) = inr (in-spots l ls i)

in-levels : (n : ℕ) (q : Place) (ls : List Level) → In (n, q) (map level_spot ls) → IsAmong (map level_view ls) n q
in-levels n q [] i = absurd i
in-levels n q (x ∷ ls) (inl e) = record { level = level_view x; among = inl refl; of_step = sym (ap (λ (y : ℕ × Place). y.0) e); place = sym (ap (λ (y : ℕ × Place). y.1) e) }
in-levels n q (x ∷ ls) (inr i) = let a = in-levels n q ls i in record { level = a.level; among = inr a.among; of_step = a.of_step; place = a.place }

pub all-grown : (ls : List Level) (js : List (ℕ × Place)) (found : Place → Option ℕ) → AreGrownBy (IsAroundOne (map level_spot ls ++ js)) found → AreGrown (map level_view ls) js (grown_in found)
all-grown ls js found h = record { told = told; from = λ n q w e. from n q w (found (n ∷ q)) refl e }
  where
    item : (n : ℕ) (q : Place) (i : ℕ) (p : Place) → IsThere (map level_view ls) js n (q ++ i ∷ p) → IsAroundOne (map level_spot ls ++ js) n q i
    item n q i p (inl a) = record {
      rest = p;
      among =
          in-left {A = ℕ × Place} (n, q ++ i ∷ p) (map level_spot ls) js
          (subst (λ (y : ℕ × Place). In y (map level_spot ls)) (ap₂ {C = ℕ × Place} (λ x y. (x, y)) a.of_step a.place) (in-spots a.level ls a.among));
    }
    item n q i p (inr j) = record { rest = p; among = in-right {A = ℕ × Place} (n, q ++ i ∷ p) (map level_spot ls) js j }

    told : (n : ℕ) (q : Place) (i : ℕ) (p : Place) → IsThere (map level_view ls) js n (q ++ i ∷ p) → (m : ℕ) × (grown_in found n q ≡ Some (closed m)) × (i < m)
    told n q i p t = let x = h.told n q i (item n q i p t) in (x.0, ap (option_map closed) x.1, x.2)

    there : (n : ℕ) (q : Place) → In (n, q) (map level_spot ls) ⊎ In (n, q) js → IsThere (map level_view ls) js n q
    there n q (inl i) = inl (in-levels n q ls i)
    there n q (inr j) = inr j

    inside : (n : ℕ) (q : Place) (i m : ℕ) → m ≡ suc i → IsAroundOne (map level_spot ls ++ js) n q i → IsInside (map level_view ls) js n q m
    inside n q i m e x = record { index = i; rest = x.rest; there = there n (q ++ i ∷ x.rest) (in-append {A = ℕ × Place} (n, q ++ i ∷ x.rest) (map level_spot ls) js x.among); last = e }

    from : (n : ℕ) (q : Place) (w : levels.What) (o : Option ℕ) → found (n ∷ q) ≡ o → option_map closed o ≡ Some w → (m : ℕ) × (w ≡ closed m) × IsInside (map level_view ls) js n q m
    from n q w None e f = absurd (none-some w f)
    from n q w (Some m) e f = let x = h.from n q m e in (m, sym (same_Some (closed m) w f), inside n q x.0 m x.2 x.1)

-- with the next of a list
pub next-around : {A : Type 0} (view : A → ℕ × Place) (js : List (ℕ × Place)) (xs : List A) (i : ℕ) (x : A) → i < length xs → x ≡ get_or xs i x → (q : Place) → q ≡ (view x).1 → (found : Place → Option ℕ) → AreGrownBy (IsAroundOne ((js ++ map view (take i xs)) ++ ((view x).0, q) ∷ [])) found → AreGrownBy (IsAroundOne (js ++ map view (take (i + 1) xs))) found
next-around view js xs i x lt is q f found h =
    let one : suc i ≡ i + 1 = omega arith in
    subst (λ ls. AreGrownBy (IsAroundOne ls) found)
    (append_assoc js (map view (take i xs)) (view x ∷ [])
    ∙ ap (λ l. js ++ l) (sym (ap (map view) (ap (λ n. take n xs) (sym one) ∙ take-next xs i x lt is) ∙ map-append view (take i xs) (x ∷ []))))
    (subst (λ p. AreGrownBy (IsAroundOne ((js ++ map view (take i xs)) ++ ((view x).0, p) ∷ [])) found) f h)

pub all-around : {A : Type 0} (view : A → ℕ × Place) (js : List (ℕ × Place)) (xs : List A) (i : ℕ) → length xs ≤ i → (found : Place → Option ℕ) → AreGrownBy (IsAroundOne (js ++ map view (take i xs))) found → AreGrownBy (IsAroundOne (js ++ map view xs)) found
all-around view js xs i le found h = subst (λ l. AreGrownBy (IsAroundOne (js ++ map view l)) found) (take_all i xs le) h
