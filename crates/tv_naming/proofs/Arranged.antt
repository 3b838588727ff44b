-- What `by_least` gives: each vertex once, after all those before it.
use Rattle.std.proofs.Common.{◌≡◌, ℕ, ◌+◌, ◌<◌, true, false, not, ◌||◌, suc, zero, eqb, List, [], ◌∷◌, length, take, get_or, Option, Some, None, refl, sym, ap, ◌∙◌, subst, inl, inr, arith}
use Rattle.std.proofs.lemmas.Bool.{eqb-true, eq-eqb, or_cases, and_parts, not-true, false_from_ne_true, or_parts}
use Rattle.std.specs.Prelude.{find}
use Rattle.std.specs.List.{list_all}
use Rattle.std.specs.Option.{option_map_or}
use Rattle.tv_naming.specs.graphs.Graphs.{Graph, before, is_one_of, is_next, vertices, comes_before, taken_by_least, by_least}
use Rattle.tv_naming.proofs.Members.{find-passes, find-range-below, all-member, all-more}
use Rattle.tv_naming.proofs.Walks.{walk-closed}
use Rattle.tv_naming.proofs.Counting.{tally, tally-all, tally-less, tally-none}

-- each of xs may be taken next, when those before it in xs and those of `taken` are taken
abbrev pub IsArranged : Graph → List ℕ → List ℕ → Type 0
IsArranged g taken [] = Unit {0}
IsArranged g taken (x ∷ xs) = (is_next g taken x ≡ true) × (x < length g) × IsArranged g (x ∷ taken) xs

pub taken_by_least-IsArranged : (g : Graph) (left : ℕ) (taken : List ℕ) → IsArranged g taken (taken_by_least g left taken)
taken_by_least-IsArranged g zero taken = tt
taken_by_least-IsArranged g (suc n) taken = arranged (find (is_next g taken) (vertices g)) refl (λ v. taken_by_least-IsArranged g n (v ∷ taken))
  where
    arranged : (o : Option ℕ) → find (is_next g taken) (vertices g) ≡ o → ((v : ℕ) → IsArranged g (v ∷ taken) (taken_by_least g n (v ∷ taken))) →
        IsArranged g taken (option_map_or (λ v. v ∷ taken_by_least g n (v ∷ taken)) o [])
    arranged None e rest = tt
    arranged (Some v) e rest = (find-passes (is_next g taken) (vertices g) v e, omega (arith, find-range-below (is_next g taken) (length g) 0 v e), rest v)

pub by_least-IsArranged : (g : Graph) → IsArranged g [] (by_least g)
by_least-IsArranged g = taken_by_least-IsArranged g (length g) []

-- all of xs are taken, one after another
abbrev pub onto : List ℕ → List ℕ → List ℕ
onto taken [] = taken
onto taken (x ∷ xs) = onto (x ∷ taken) xs

pub onto-member : (xs taken : List ℕ) (u : ℕ) → is_one_of (onto taken xs) u ≡ (is_one_of taken u || is_one_of xs u)
onto-member [] taken u = grind arith
onto-member (x ∷ xs) taken u = rw (onto-member xs (x ∷ taken) u) (grind arith)

-- how many vertices aren't among these
abbrev pub missing : Graph → List ℕ → ℕ
missing g taken = tally (λ u. not (is_one_of taken u)) 0 (length g)

pub missing-nil : (g : Graph) → missing g [] ≡ length g
missing-nil g = tally-all (λ u. not (is_one_of [] u)) (λ u. refl) (length g) 0

pub missing-cons : (g : Graph) (taken : List ℕ) (v : ℕ) → v < length g → is_one_of taken v ≡ false → missing g (v ∷ taken) + 1 ≡ missing g taken
missing-cons g taken v below fresh =
    tally-less (λ u. not (is_one_of taken u)) (λ u. not (is_one_of (v ∷ taken) u)) v (λ u. grind arith) (ap not fresh) (length g) 0 (omega arith) (omega arith)

pub missing-none : (g : Graph) (taken : List ℕ) (v : ℕ) → missing g taken ≡ 0 → v < length g → is_one_of taken v ≡ true
missing-none g taken v e below = grind (arith, tally-none (λ u. not (is_one_of taken u)) (length g) 0 v e (omega arith) (omega arith))

pub onto-missing : (g : Graph) (xs taken : List ℕ) → IsArranged g taken xs → missing g (onto taken xs) + length xs ≡ missing g taken
onto-missing g [] taken a = omega arith
onto-missing g (x ∷ xs) taken a =
    let fresh : is_one_of taken x ≡ false = not-true _ (and_parts _ _ a.0).0 in
    omega (arith, onto-missing g xs (x ∷ taken) a.2, missing-cons g taken x a.1 fresh)

-- as many as there are vertices are all of them
pub all_come : (g : Graph) (v : ℕ) → length (by_least g) ≡ length g → v < length g → is_one_of (by_least g) v ≡ true
all_come g v e below =
    let none : missing g (onto [] (by_least g)) ≡ 0 = omega (arith, onto-missing g (by_least g) [] (by_least-IsArranged g), missing-nil g) in
    sym (onto-member (by_least g) [] v) ∙ missing-none g (onto [] (by_least g)) v none below

-- what is taken has all those before it taken, and isn't before itself
record IsAcyclic (g : Graph) (taken : List ℕ) : Type 0 where
  pub closed : (v u : ℕ) → is_one_of taken v ≡ true → is_one_of (before g v) u ≡ true → is_one_of taken u ≡ true
  pub apart : (v k : ℕ) → is_one_of taken v ≡ true → comes_before g k v v ≡ true → ⊥

IsAcyclic-cons : (g : Graph) (taken : List ℕ) (x : ℕ) → IsAcyclic g taken → is_next g taken x ≡ true → IsAcyclic g (x ∷ taken)
IsAcyclic-cons g taken x k next =
    let fresh : is_one_of taken x ≡ false = not-true _ (and_parts _ _ next).0 in
    let first : (u : ℕ) → is_one_of (before g x) u ≡ true → is_one_of taken u ≡ true = λ u e. all-member (is_one_of taken) (before g x) u (and_parts (not (is_one_of taken x)) (list_all (is_one_of taken) (before g x)) next).1 e in
    record {
      closed = λ v u h e. elim (or_cases (eqb v x) (is_one_of taken v) h) [
        | inl same ↦ grind (arith, first u (subst (λ (y : ℕ). is_one_of (before g y) u ≡ true) (eqb-true v x same) e))
        | inr old ↦ grind (arith, k.closed v u old e)
      ];
      apart = λ v n h walk. elim (or_cases (eqb v x) (is_one_of taken v) h) [
        | inl same ↦
            let again : is_one_of taken x ≡ true = walk-closed g (is_one_of taken) k.closed n x x first (subst (λ (y : ℕ). comes_before g n y y ≡ true) (eqb-true v x same) walk) in
            let no : true ≡ false = sym again ∙ fresh in cc
        | inr old ↦ k.apart v n old walk
      ];
    }

onto-IsAcyclic : (g : Graph) (xs taken : List ℕ) → IsArranged g taken xs → IsAcyclic g taken → IsAcyclic g (onto taken xs)
onto-IsAcyclic g [] taken a k = k
onto-IsAcyclic g (x ∷ xs) taken a k = onto-IsAcyclic g xs (x ∷ taken) a.2 (IsAcyclic-cons g taken x k a.0)

-- what comes isn't before itself, by however many edges
pub come_not_before_itself : (g : Graph) (v k : ℕ) → is_one_of (by_least g) v ≡ true → comes_before g k v v ≡ false
come_not_before_itself g v k h =
    let acyclic : IsAcyclic g (onto [] (by_least g)) = onto-IsAcyclic g (by_least g) [] (by_least-IsArranged g) record { closed = λ u w e. cc; apart = λ u n e. cc } in
    false_from_ne_true _ (acyclic.apart v k (onto-member (by_least g) [] v ∙ h))

-- the i-th of xs has those before it in `taken` or among the first i
arranged-at : (g : Graph) (xs taken : List ℕ) → IsArranged g taken xs → (i : ℕ) → i < length xs →
    list_all (λ u. is_one_of taken u || is_one_of (take i xs) u) (before g (get_or xs i 0)) ≡ true
arranged-at g [] taken a i h = absurd (omega arith)
arranged-at g (x ∷ xs) taken a zero h = all-more (is_one_of taken) _ (λ w e. grind arith) (before g x) (and_parts _ _ a.0).1
arranged-at g (x ∷ xs) taken a (suc i) h =
    all-more (λ u. is_one_of (x ∷ taken) u || is_one_of (take i xs) u) _ (λ w e. grind arith) (before g (get_or xs i 0)) (arranged-at g xs (x ∷ taken) a.2 i (omega arith))

pub arranged-after : (g : Graph) (xs taken : List ℕ) → IsArranged g taken xs → (taken ≡ []) → (i : ℕ) → i < length xs → list_all (is_one_of (take i xs)) (before g (get_or xs i 0)) ≡ true
arranged-after g xs taken a nil i h =
    all-more (λ u. is_one_of taken u || is_one_of (take i xs) u) _ (λ w e. let none : is_one_of taken w ≡ false = ap (λ ys. is_one_of ys w) nil in grind arith) (before g (get_or xs i 0)) (arranged-at g xs taken a i h)

-- what is taken isn't taken again
arranged-fresh : (g : Graph) (xs taken : List ℕ) → IsArranged g taken xs → (i : ℕ) → i < length xs → is_one_of taken (get_or xs i 0) ≡ false
arranged-fresh g [] taken a i h = absurd (omega arith)
arranged-fresh g (x ∷ xs) taken a zero h = not-true _ (and_parts _ _ a.0).0
arranged-fresh g (x ∷ xs) taken a (suc i) h = (or_parts _ _ (arranged-fresh g xs (x ∷ taken) a.2 i (omega arith))).1

pub arranged-once : (g : Graph) (xs taken : List ℕ) → IsArranged g taken xs → (i j : ℕ) → i < j → j < length xs → get_or xs i 0 ≡ get_or xs j 0 → ⊥
arranged-once g [] taken a i j less h e = omega arith
arranged-once g (x ∷ xs) taken a i zero less h e = omega arith
arranged-once g (x ∷ xs) taken a zero (suc j) less h e =
    let fresh : eqb (get_or xs j 0) x ≡ false = (or_parts _ _ (arranged-fresh g xs (x ∷ taken) a.2 j (omega arith))).0 in
    let no : eqb (get_or xs j 0) x ≡ true = eq-eqb _ _ (sym e) in
    cc
arranged-once g (x ∷ xs) taken a (suc i) (suc j) less h e = arranged-once g xs (x ∷ taken) a.2 i j (omega arith) (omega arith) e
