-- The steps of a flow by rank are the steps of the flow in another order, and their numbers are their positions.
use Rattle.std.specs.List.{list_all}
use Rattle.std.specs.Option.{option_map_or}
use Rattle.std.specs.Ordering.{is_lt}
use Rattle.std.specs.Prelude.{◌≡◌, refl, ℕ, zero, suc, ◌+◌, ◌≤◌, Bool, true, false, filter, find, if◌then◌else◌, not, List, [], ◌∷◌, length, map, Option, Some, None, slice_get, IsPermutation}
use Rattle.std.proofs.Common.{arith, sym, ap, ap₂, subst, ◌∙◌, inl, inr}
use Rattle.std.proofs.lemmas.Bool.{and_parts, true≢false}
use Rattle.std.proofs.lemmas.List.Sorted.{IsPermutation-refl, IsPermutation-sym, IsPermutation-trans, IsPermutation-cons, IsPermutation-middle, length_permutation}
use Rattle.std.proofs.lemmas.Option.{none-some, same_Some}
use Rattle.tv_lemmas.specs.Members.{Each, In}
use Rattle.tv_lemmas.proofs.Members.{in-slice, each_in}
use Rattle.tv_lemmas.proofs.Orderings.{is_lt-less as less}
use Rattle.tv_value.specs.Orders.{name_cmp, same_name}
use Rattle.tv_value.specs.Values.{Name}
use Rattle.tv_value.proofs.NameLemmas.{same_name-refl, same_name-sym}
use Rattle.tv_flow.specs.Flows.{Step}
use Rattle.tv_flow.specs.Formed.{is_ascending}
use Rattle.tv_strategy.proofs.Each.{each-weaken}
use Rattle.tv_naming.specs.Naming.{numbered}
use Rattle.tv_naming.specs.Numbers.{position}
use Rattle.tv_naming.proofs.ByPosition.{below-differs, names_of}
use Rattle.tv_model.specs.instance.Ranks.{by_rank, earlier_steps, is_among, ranked}
use Rattle.tv_matching.proofs.Matchers.{map-each}

-- ---- names that differ

abbrev pub IsOther : Name × Step → Name × Step → Type 0
IsOther s t = same_name s.0 t.0 ≡ false

abbrev pub AreApart : List (Name × Step) → Type 0
AreApart [] = Unit {0}
AreApart (s ∷ ss) = Each (IsOther s) ss × AreApart ss

pub steps-apart : (ss : List (Name × Step)) → is_ascending (names_of ss) ≡ true → AreApart ss
steps-apart [] h = tt
steps-apart (s ∷ ss) h =
    let p = and_parts (list_all (λ m. is_lt (name_cmp s.0 m)) (names_of ss)) (is_ascending (names_of ss)) h in
    (others ss p.0, steps-apart ss p.1)
  where
    others : (ts : List (Name × Step)) → list_all (λ m. is_lt (name_cmp s.0 m)) (names_of ts) ≡ true → Each (IsOther s) ts
    others [] k = tt
    others (t ∷ ts) k =
        let p = and_parts (is_lt (name_cmp s.0 t.0)) (list_all (λ m. is_lt (name_cmp s.0 m)) (names_of ts)) k in
        (same_name-sym s.0 t.0 ∙ below-differs s.0 t.0 (less (name_cmp s.0 t.0) p.0), others ts p.1)

-- a step is the only one of its name
pub one-named : (ss : List (Name × Step)) → AreApart ss → (s t : Name × Step) → In s ss → In t ss → s.0 ≡ t.0 → s ≡ t
one-named [] a s t i j e = absurd i
one-named (x ∷ xs) a s t (inl p) (inl q) e = p ∙ sym q
one-named (x ∷ xs) a s t (inl p) (inr q) e =
    absurd (true≢false (sym (same_name-refl t.0) ∙ ap (λ n. same_name n t.0) (sym e ∙ ap (λ (y : Name × Step). y.0) p) ∙ each_in (IsOther x) xs a.0 t q))
one-named (x ∷ xs) a s t (inr p) (inl q) e =
    absurd (true≢false (sym (same_name-refl s.0) ∙ ap (λ n. same_name n s.0) (e ∙ ap (λ (y : Name × Step). y.0) q) ∙ each_in (IsOther x) xs a.0 s p))
one-named (x ∷ xs) a s t (inr p) (inr q) e = one-named xs a.1 s t p q e

-- ---- all but one

abbrev without : Name × Step → List (Name × Step) → List (Name × Step)
without s ss = filter (λ t. not (same_name s.0 t.0)) ss

without-other : (s t : Name × Step) (ss : List (Name × Step)) → same_name s.0 t.0 ≡ false → without s (t ∷ ss) ≡ t ∷ without s ss
without-other s t ss e = ap (λ b. if not b then t ∷ without s ss else without s ss) e

without-own : (s t : Name × Step) (ss : List (Name × Step)) → same_name s.0 t.0 ≡ true → without s (t ∷ ss) ≡ without s ss
without-own s t ss e = ap (λ b. if not b then t ∷ without s ss else without s ss) e

without-none : (s : Name × Step) (ss : List (Name × Step)) → Each (IsOther s) ss → without s ss ≡ ss
without-none s [] h = refl
without-none s (t ∷ ss) h = without-other s t ss h.0 ∙ ap (λ l. t ∷ l) (without-none s ss h.1)

without-each : (P : Name × Step → Type 0) (s : Name × Step) (ss : List (Name × Step)) → Each P ss → Each P (without s ss)
without-each P s [] h = tt
without-each P s (t ∷ ss) h = by (same_name s.0 t.0) (without-each P s ss h.1)
  where
    by : (b : Bool) → Each P (without s ss) → Each P (if not b then t ∷ without s ss else without s ss)
    by true k = k
    by false k = (h.0, k)

without-apart : (s : Name × Step) (ss : List (Name × Step)) → AreApart ss → AreApart (without s ss)
without-apart s [] h = tt
without-apart s (t ∷ ss) h = by (same_name s.0 t.0) (without-apart s ss h.1)
  where
    by : (b : Bool) → AreApart (without s ss) → AreApart (if not b then t ∷ without s ss else without s ss)
    by true k = k
    by false k = (without-each (IsOther t) s ss h.0, k)

pulled : (s : Name × Step) (ss : List (Name × Step)) → AreApart ss → In s ss → IsPermutation ss (s ∷ without s ss)
pulled s [] a i = absurd i
pulled s (t ∷ ss) a (inl p) =
    subst (λ l. IsPermutation (t ∷ ss) l)
    (sym (ap₂ (λ x l. x ∷ l) p
    (without-own s t ss (ap (same_name s.0) (ap (λ (y : Name × Step). y.0) (sym p)) ∙ same_name-refl s.0)
    ∙ ap (λ x. without x ss) p ∙ without-none t ss a.0)))
    (IsPermutation-refl (t ∷ ss))
pulled s (t ∷ ss) a (inr i) =
    subst (λ l. IsPermutation (t ∷ ss) (s ∷ l)) (sym (without-other s t ss (same_name-sym s.0 t.0 ∙ each_in (IsOther t) ss a.0 s i)))
    (IsPermutation-trans _ _ _ (IsPermutation-cons t ss (s ∷ without s ss) (pulled s ss a.1 i)) (IsPermutation-middle (t ∷ []) s (without s ss)))

found-in : (p : Name × Step → Bool) (ss : List (Name × Step)) (s : Name × Step) → find p ss ≡ Some s → In s ss
found-in p [] s e = absurd (none-some s e)
found-in p (t ∷ ss) s e = by (p t) e (found-in p ss s)
  where
    by : (b : Bool) → (if b then Some t else find p ss) ≡ Some s → (find p ss ≡ Some s → In s ss) → In s (t ∷ ss)
    by true f rec = inl (sym (same_Some t s f))
    by false f rec = inr (rec f)

-- ---- by rank

none-left : (ss : List (Name × Step)) → length ss ≤ 0 → IsPermutation [] ss
none-left [] h = IsPermutation-refl []
none-left (s ∷ ss) h = absurd (omega arith)

abbrev may_come : List Name → Name × Step → Bool
may_come done s = list_all (is_among done) (earlier_steps s.1)

by_rank-permutes : (n : ℕ) (done : List Name) (ss : List (Name × Step)) → AreApart ss → length ss ≤ length (by_rank n done ss) → IsPermutation (by_rank n done ss) ss
by_rank-permutes zero done ss a h = none-left ss h
by_rank-permutes (suc n) done ss a h =
    by (find (may_come done) ss) refl h (λ s k. by_rank-permutes n (s.0 ∷ done) (without s ss) (without-apart s ss a) k)
  where
    less : (k l m : ℕ) → k ≡ suc l → k ≤ suc m → l ≤ m
    less k l m e f = omega arith

    by : (o : Option (Name × Step)) → find (may_come done) ss ≡ o → length ss ≤ length (option_map_or (λ s. s ∷ by_rank n (s.0 ∷ done) (without s ss)) o []) → ((s : Name × Step) → length (without s ss) ≤ length (by_rank n (s.0 ∷ done) (without s ss)) → IsPermutation (by_rank n (s.0 ∷ done) (without s ss)) (without s ss)) → IsPermutation (option_map_or (λ s. s ∷ by_rank n (s.0 ∷ done) (without s ss)) o []) ss
    by None e k rec = none-left ss k
    by (Some s) e k rec =
        let p = pulled s ss a (found-in (may_come done) ss s e) in
        IsPermutation-trans _ _ _
        (IsPermutation-cons s (by_rank n (s.0 ∷ done) (without s ss)) (without s ss)
        (rec s (less (length ss) (length (without s ss)) (length (by_rank n (s.0 ∷ done) (without s ss))) (sym (length_permutation ss (s ∷ without s ss) p)) k)))
        (IsPermutation-sym _ _ p)

pub ranked-permutes : (ss : List (Name × Step)) → is_ascending (names_of ss) ≡ true → length (ranked ss) ≡ length ss → IsPermutation (ranked ss) ss
ranked-permutes ss h e = by_rank-permutes (length ss) [] ss (steps-apart ss h) (same (length (ranked ss)) (length ss) e)
  where
    same : (a b : ℕ) → a ≡ b → b ≤ a
    same a b f = omega arith

-- ---- by number

-- the number of each is the position of its name
pub numbered-by_position : (k : ℕ) (ss : List (Name × Step)) → AreApart ss → numbered k ss ≡ map (λ (s : Name × Step). (k + position s.0 ss, s)) ss
numbered-by_position k [] a = refl
numbered-by_position k (s ∷ ss) a =
    ap₂ (λ n l. (n, s) ∷ l) (first k (ap (λ b. if b then 0 else suc (position s.0 ss)) (same_name-refl s.0)))
    (numbered-by_position (suc k) ss a.1
    ∙ map-each (λ (t : Name × Step). (suc k + position t.0 ss, t)) (λ (t : Name × Step). (k + position t.0 (s ∷ ss), t)) ss
    (each-weaken (IsOther s) (λ t. (suc k + position t.0 ss, t) ≡ (k + position t.0 (s ∷ ss), t))
    (λ t h. ap (λ n. (n, t)) (later k (position t.0 ss) (position t.0 (s ∷ ss)) (ap (λ b. if b then 0 else suc (position t.0 ss)) (same_name-sym t.0 s.0 ∙ h))))
    ss a.0))
  where
    first : (m : ℕ) {i : ℕ} → i ≡ 0 → m ≡ m + i
    first m e = omega arith

    later : (m i j : ℕ) → j ≡ suc i → suc m + i ≡ m + j
    later m i j e = omega arith

pub position-at_number : (ss : List (Name × Step)) → AreApart ss → (n : ℕ) (s : Name × Step) → slice_get ss n ≡ Some s → position s.0 ss ≡ n
position-at_number [] a n s e = absurd (none-some s e)
position-at_number (t ∷ ss) a zero s e =
    ap (λ (x : Name × Step). if same_name x.0 t.0 then 0 else suc (position x.0 ss)) (sym (same_Some t s e))
    ∙ ap (λ b. if b then 0 else suc (position t.0 ss)) (same_name-refl t.0)
position-at_number (t ∷ ss) a (suc n) s e =
    ap (λ b. if b then 0 else suc (position s.0 ss)) (same_name-sym s.0 t.0 ∙ each_in (IsOther t) ss a.0 s (in-slice ss n s e))
    ∙ ap suc (position-at_number ss a.1 n s e)
