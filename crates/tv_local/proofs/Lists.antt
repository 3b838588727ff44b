-- Lists of texts, text by text.
use Rattle.std.specs.Prelude.{◌≡◌, ℕ, zero, suc, ◌+◌, ◌<◌, ◌≤◌, List, [], ◌∷◌, ◌++◌, map, take, drop, reverse, length, refl, Bool, true, false, ◌||◌, if◌then◌else◌, ℤ, pos, ◌+ℤ◌}
use Rattle.std.specs.List.{list_any}
use Rattle.std.proofs.Common.{arith, ap, sym, ◌∙◌, get_or, append_assoc, append-nil, subst, Bor}
use Rattle.std.proofs.lemmas.List.{map-append, map_more, take_more, take_all}
use mathlib.Core.List.{reverse_aux}
use Rattle.std.proofs.lemmas.Int.{ints}
use Rattle.std.proofs.lemmas.List.{length-map}
use Rattle.std.proofs.lemmas.List.Folds.{list_any-append}
use Rattle.std.proofs.lemmas.List.Elements.{filter-append}
use Rattle.std.proofs.Math.ListN.{get_or-map}
use Rattle.std.specs.declared.cmp.Ordering.{Ordering}
use Rattle.std.specs.declared.cmp.Ordering.TheVariants.{Less, Equal, Greater}
use Rattle.std.specs.Ordering.{nat_cmp, is_eq, match_ordering}
use Rattle.std.specs.Cmp.Lexicographic.{slice_cmp, texts_ties, same_text}
use Rattle.std.specs.BTreeSet.{BTreeSet, contains, insert_key}
use Rattle.std.proofs.Math.Numerals.{suc-eq-add-one}
use Rattle.std.proofs.Math.Bool.{or-false}
use Rattle.tv_value.specs.Values as spec
use Rattle.tv_value.specs.Values.{Text, text_value}
use Rattle.tv_value.specs.Orders.{same_name}
use Rattle.tv_value.specs.declared.value.Value.{Value}
use Rattle.tv_value.specs.Views.{view}
use Rattle.tv_local.specs.Reading.{text_of, texts_of}
use Rattle.tv_local.specs.Numbers.{count_up}
use Rattle.tv_local.specs.Lists.{text_among, new_after, distinct, shared, flat}

pub flat-push : (tss : List (List Text)) (ts : List Text) → flat (tss ++ ts ∷ []) ≡ flat tss ++ ts
flat-push [] ts = append-nil ts
flat-push (us ∷ tss) ts = ap (λ l. us ++ l) (flat-push tss ts) ∙ sym (append_assoc us (flat tss) ts)

pub map-reverse : {A B : Type 0} (f : A → B) (xs : List A) → map f (reverse xs) ≡ reverse (map f xs)
map-reverse f xs = onto xs []
  where
    onto : (xs ys : List _) → map f (reverse_aux xs ys) ≡ reverse_aux (map f xs) (map f ys)
    onto [] ys = refl
    onto (x ∷ xs) ys = onto xs (x ∷ ys)

drop_next : (ts : List Text) (i : ℕ) (d : Text) → i < length ts → drop i ts ≡ get_or ts i d ∷ drop (i + 1) ts
drop_next [] i d h = absurd (none i h)
  where
    none : (i : ℕ) → i < 0 → ⊥
    none i p = omega arith
drop_next (t ∷ ts) zero d h = refl
drop_next (t ∷ ts) (suc i) d h = drop_next ts i d (omega arith) ∙ ap (λ n. get_or ts i d ∷ drop n (t ∷ ts)) (again i)
  where
    again : (i : ℕ) → suc (i + 1) ≡ suc i + 1
    again i = omega arith

-- the texts still to come, of which the first is new or isn't
abbrev pub still : List Text → ℕ → List Text
still ts i = new_after (take i ts) (drop i ts)

pub still-step : (ts : List Text) (i : ℕ) (d : Text) → i < length ts → still ts i ≡ (if text_among (take i ts) (get_or ts i d) then still ts (i + 1) else get_or ts i d ∷ still ts (i + 1))
still-step ts i d h =
    ap (new_after (take i ts)) (drop_next ts i d h)
    ∙ ap (λ us. if text_among (take i ts) (get_or ts i d) then new_after us (drop (i + 1) ts) else get_or ts i d ∷ new_after us (drop (i + 1) ts)) (sym (take_more ts i d h))

pub count_up-push : (z : ℤ) (n : ℕ) → count_up z (n + 1) ≡ count_up z n ++ (z +ℤ pos n) ∷ []
count_up-push z n = ap (count_up z) (sym (suc-eq-add-one n)) ∙ by n z
  where
    none : (z : ℤ) → z ≡ z +ℤ pos 0
    none z = omega (arith, ints)

    further : (z : ℤ) (n : ℕ) → (z +ℤ pos 1) +ℤ pos n ≡ z +ℤ pos (suc n)
    further z n = omega (arith, ints)

    by : (n : ℕ) (z : ℤ) → count_up z (suc n) ≡ count_up z n ++ (z +ℤ pos n) ∷ []
    by zero z = ap (λ y. y ∷ []) (none z)
    by (suc n) z = ap (λ ys. z ∷ ys) (by n (z +ℤ pos 1)) ∙ ap (λ y. z ∷ (count_up (z +ℤ pos 1) n ++ y ∷ [])) (further z n)

-- the texts of the values so far, and one more
pub texts_more : (vs : List Value) (i : ℕ) (d : Value) → i < length vs → map text_of (map view (take (i + 1) vs)) ≡ map text_of (map view (take i vs)) ++ text_of (view (get_or vs i d)) ∷ []
texts_more vs i d h = ap (map text_of) (map_more view vs i d h) ∙ map-append text_of (map view (take i vs)) (view (get_or vs i d) ∷ [])

pub lists_more : (vs : List Value) (i : ℕ) (d : Value) → i < length vs → map texts_of (map view (take (i + 1) vs)) ≡ map texts_of (map view (take i vs)) ++ texts_of (view (get_or vs i d)) ∷ []
lists_more vs i d h = ap (map texts_of) (map_more view vs i d h) ∙ map-append texts_of (map view (take i vs)) (view (get_or vs i d) ∷ [])

pub text_at : (vs : List Value) (i : ℕ) (d : Value) → i < length vs → get_or (map text_of (map view vs)) i (text_of (view d)) ≡ text_of (view (get_or vs i d))
text_at vs i d h = get_or-map text_of (map view vs) i (view d) ∙ ap text_of (get_or-map view vs i d)

pub texts-long : (vs : List Value) (i : ℕ) → i < length vs → i < length (map text_of (map view vs))
texts-long vs i h = subst (λ n. i < n) (sym (length-map (map view vs) text_of ∙ length-map vs view)) h

among-push : (ts : List Text) (t q : Text) → text_among (ts ++ t ∷ []) q ≡ (text_among ts q || same_name q t)
among-push ts t q = list_any-append (same_name q) ts (t ∷ []) ∙ ap (λ b. text_among ts q || b) (last (same_name q t))
  where
    last : (b : Bool) → (b || false) ≡ b
    last true = refl
    last false = refl

abbrev pub ref_cmp : Bor Text → Bor Text → Ordering
ref_cmp x y = slice_cmp nat_cmp x.now y.now

or_comm : (a b : Bool) → (a || b) ≡ (b || a)
or_comm true b = sym (true_last b)
  where
    true_last : (b : Bool) → (b || true) ≡ true
    true_last true = refl
    true_last false = refl
or_comm false b = sym (or-false b)

or_assoc : (a b c : Bool) → (a || (b || c)) ≡ ((a || b) || c)
or_assoc true b c = refl
or_assoc false b c = refl

or_again : (a b : Bool) → (a || b) ≡ ((a || b) || a)
or_again true b = refl
or_again false b = sym (or-false b)

same_key : (q x : Bor Text) → is_eq (ref_cmp q x) ≡ same_name q.now x.now
same_key q x = sym (texts_ties q.now x.now)

by_order : (q k x : Bor Text) (xs : List (Bor Text)) (o : Ordering) → ref_cmp k x ≡ o → list_any (λ y. is_eq (ref_cmp q y)) (insert_key ref_cmp xs k) ≡ (list_any (λ y. is_eq (ref_cmp q y)) xs || same_name q.now k.now) → list_any (λ y. is_eq (ref_cmp q y)) (match_ordering o (k ∷ x ∷ xs) (x ∷ xs) (x ∷ insert_key ref_cmp xs k)) ≡ ((is_eq (ref_cmp q x) || list_any (λ y. is_eq (ref_cmp q y)) xs) || same_name q.now k.now)
by_order q k x xs Less e h =
    ap (λ b. b || (is_eq (ref_cmp q x) || list_any (λ y. is_eq (ref_cmp q y)) xs)) (same_key q k) ∙ or_comm (same_name q.now k.now) (is_eq (ref_cmp q x) || list_any (λ y. is_eq (ref_cmp q y)) xs)
by_order q k x xs Equal e h =
    let same : k.now ≡ x.now = same_text k.now x.now (sym (texts_ties k.now x.now ∙ ap is_eq e)) in
    or_again (is_eq (ref_cmp q x)) (list_any (λ y. is_eq (ref_cmp q y)) xs)
    ∙ ap (λ b. (is_eq (ref_cmp q x) || list_any (λ y. is_eq (ref_cmp q y)) xs) || b) (same_key q x ∙ ap (same_name q.now) (sym same))
by_order q k x xs Greater e h =
    ap (λ b. is_eq (ref_cmp q x) || b) h ∙ or_assoc (is_eq (ref_cmp q x)) (list_any (λ y. is_eq (ref_cmp q y)) xs) (same_name q.now k.now)

key_in : (q k : Bor Text) (xs : List (Bor Text)) → list_any (λ y. is_eq (ref_cmp q y)) (insert_key ref_cmp xs k) ≡ (list_any (λ y. is_eq (ref_cmp q y)) xs || same_name q.now k.now)
key_in q k [] = or-false (is_eq (ref_cmp q k)) ∙ same_key q k
key_in q k (x ∷ xs) = by_order q k x xs (ref_cmp k x) refl (key_in q k xs)

-- a key put in is among the keys, beside those that were there
pub put-among : (old new : BTreeSet (Bor Text)) (k : Bor Text) (ts : List Text) → new.keys ≡ insert_key ref_cmp old.keys k → ((q : Bor Text) → contains ref_cmp old q ≡ text_among ts q.now) → (q : Bor Text) → contains ref_cmp new q ≡ text_among (ts ++ k.now ∷ []) q.now
put-among old new k ts e h q =
    ap (list_any (λ x. is_eq (ref_cmp q x))) e
    ∙ key_in q k old.keys
    ∙ ap (λ b. b || same_name q.now k.now) (h q)
    ∙ sym (among-push ts k.now q.now)

-- a new text is kept
pub distinct-new : (ts : List Text) (i : ℕ) (d : Text) (old now : List spec.Value) → i < length ts → text_among (take i ts) (get_or ts i d) ≡ false → old ++ map text_value (still ts i) ≡ map text_value (distinct ts) → now ≡ old ++ text_value (get_or ts i d) ∷ [] → now ++ map text_value (still ts (i + 1)) ≡ map text_value (distinct ts)
distinct-new ts i d old now h e inv n =
    ap (λ l. l ++ map text_value (still ts (i + 1))) n
    ∙ append_assoc old (text_value (get_or ts i d) ∷ []) (map text_value (still ts (i + 1)))
    ∙ ap (λ l. old ++ map text_value l) (sym (still-step ts i d h ∙ ap (λ b. if b then still ts (i + 1) else get_or ts i d ∷ still ts (i + 1)) e))
    ∙ inv

-- one that was there isn't
pub distinct-old : (ts : List Text) (i : ℕ) (d : Text) (old now : List spec.Value) → i < length ts → text_among (take i ts) (get_or ts i d) ≡ true → old ++ map text_value (still ts i) ≡ map text_value (distinct ts) → now ≡ old → now ++ map text_value (still ts (i + 1)) ≡ map text_value (distinct ts)
distinct-old ts i d old now h e inv n =
    ap (λ l. l ++ map text_value (still ts (i + 1))) n
    ∙ ap (λ l. old ++ map text_value l) (sym (still-step ts i d h ∙ ap (λ b. if b then still ts (i + 1) else get_or ts i d ∷ still ts (i + 1)) e))
    ∙ inv

pub shared-push : (ts us : List Text) (t : Text) → shared (ts ++ t ∷ []) us ≡ shared ts us ++ (if text_among us t then t ∷ [] else [])
shared-push ts us t = filter-append (text_among us) ts (t ∷ [])

-- a text that is among the others is kept
pub shared-new : (ts us : List Text) (i : ℕ) (d : Text) (old now : List spec.Value) → i < length ts → text_among us (get_or ts i d) ≡ true → old ≡ map text_value (shared (take i ts) us) → now ≡ old ++ text_value (get_or ts i d) ∷ [] → now ≡ map text_value (shared (take (i + 1) ts) us)
shared-new ts us i d old now h e inv n =
    n
    ∙ ap (λ l. l ++ text_value (get_or ts i d) ∷ []) inv
    ∙ sym (map-append text_value (shared (take i ts) us) (get_or ts i d ∷ []))
    ∙ ap (λ l. map text_value (shared (take i ts) us ++ l)) (sym (ap (λ b. if b then get_or ts i d ∷ [] else []) e))
    ∙ ap (map text_value) (sym (ap (λ l. shared l us) (take_more ts i d h) ∙ shared-push (take i ts) us (get_or ts i d)))

-- one that isn't is left out
pub shared-old : (ts us : List Text) (i : ℕ) (d : Text) (old now : List spec.Value) → i < length ts → text_among us (get_or ts i d) ≡ false → old ≡ map text_value (shared (take i ts) us) → now ≡ old → now ≡ map text_value (shared (take (i + 1) ts) us)
shared-old ts us i d old now h e inv n =
    n
    ∙ inv
    ∙ ap (map text_value) (sym (append-nil (shared (take i ts) us)))
    ∙ ap (λ l. map text_value (shared (take i ts) us ++ l)) (sym (ap (λ b. if b then get_or ts i d ∷ [] else []) e))
    ∙ ap (map text_value) (sym (ap (λ l. shared l us) (take_more ts i d h) ∙ shared-push (take i ts) us (get_or ts i d)))

pub texts-all : (vs : List Value) (i : ℕ) → length vs ≤ i → take i (map text_of (map view vs)) ≡ map text_of (map view vs)
texts-all vs i h = take_all i (map text_of (map view vs)) (subst (λ n. n ≤ i) (sym (length-map (map view vs) text_of ∙ length-map vs view)) h)

pub first-texts : (vs : List Value) (n : ℕ) → map text_of (map view (take n vs)) ≡ take n (map text_of (map view vs))
first-texts vs zero = refl
first-texts [] (suc n) = refl
first-texts (v ∷ vs) (suc n) = ap (λ ts. text_of (view v) ∷ ts) (first-texts vs n)
