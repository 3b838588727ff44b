-- What a name finds in a table of depths.
use Rattle.std.proofs.Common.{◌≡◌, ◌∙◌, refl, sym, ap, subst, ℕ, zero, suc, ◌<◌, ◌+◌, List, [], ◌∷◌, length, map, Bool, true, false, Option, Some, None, option_map, arith, set, slice_get, replicate, if◌then◌else◌}
use Rattle.std.specs.List.{list_all, find}
use Rattle.std.specs.Ordering.{is_lt}
use Rattle.std.proofs.lemmas.Bool.{and_parts}
use Rattle.tv_lemmas.proofs.Numbers.{none-below}
use Rattle.tv_lemmas.proofs.Orderings.{is_lt-less}
use Rattle.tv_value.specs.Values.{Name}
use Rattle.tv_value.specs.Orders.{same_name, named, name_cmp}
use Rattle.tv_value.proofs.NameLemmas.{same_name-is, same_name-refl, same_name-sym}
use Rattle.tv_flow.specs.Flows.{Step}
use Rattle.tv_flow.specs.Formed.{is_ascending}
use Rattle.tv_model.specs.instance.CheckedDepths.{StepDepths}
use Rattle.tv_check.specs.Tables.{with_level, known_steps, Agree}
use Rattle.tv_naming.proofs.ByPosition.{names_of, below-differs}

abbrev pub found : Name → List StepDepths → Option StepDepths
found s ms = find (λ m. same_name s m.step) ms

-- the first of two names is another
apart : (n m : Name) → is_lt (name_cmp n m) ≡ true → (same_name n m ≡ false) × (same_name m n ≡ false)
apart n m e = let f : same_name m n ≡ false = below-differs n m (is_lt-less _ e) in (same_name-sym n m ∙ f, f)

-- a name that comes before all the others isn't found
absent : (s : Name) (ss : List (Name × Step)) (ls : List (Option ℕ)) → list_all (λ m. is_lt (name_cmp s m)) (names_of ss) ≡ true → found s (known_steps ss ls) ≡ None
absent s [] ls h = refl
absent s (t ∷ ss) [] h = refl
absent s (t ∷ ss) (None ∷ ls) h = absent s ss ls (and_parts _ _ h).1
absent s (t ∷ ss) (Some k ∷ ls) h =
    ap (λ b. if b then Some (with_level t k) else found s (known_steps ss ls)) (apart s t.0 (and_parts _ _ h).0).0 ∙ absent s ss ls (and_parts _ _ h).1

-- what the name of the step of a number finds
mutual
  here : (t : Name × Step) (ss : List (Name × Step)) (l : Option ℕ) (ls : List (Option ℕ)) → list_all (λ m. is_lt (name_cmp t.0 m)) (names_of ss) ≡ true → found t.0 (known_steps (t ∷ ss) (l ∷ ls)) ≡ option_map (with_level t) l
  here t ss None ls h = absent t.0 ss ls h
  here t ss (Some k) ls h = ap (λ b. if b then Some (with_level t k) else found t.0 (known_steps ss ls)) (same_name-refl t.0)

later : (s : Name) (t : Name × Step) (ss : List (Name × Step)) (l : Option ℕ) (ls : List (Option ℕ)) → same_name s t.0 ≡ false → found s (known_steps (t ∷ ss) (l ∷ ls)) ≡ found s (known_steps ss ls)
later s t ss None ls e = refl
later s t ss (Some k) ls e = ap (λ b. if b then Some (with_level t k) else found s (known_steps ss ls)) e

-- a step that stands further on comes after the first
above-get : (n : Name) (ss : List (Name × Step)) (i : ℕ) (s : Name × Step) → list_all (λ m. is_lt (name_cmp n m)) (names_of ss) ≡ true → slice_get ss i ≡ Some s → is_lt (name_cmp n s.0) ≡ true
above-get n [] i s h e = cc
above-get n (t ∷ ss) zero s h e = let f : t ≡ s = cc in subst (λ (u : Name × Step). is_lt (name_cmp n u.0) ≡ true) f (and_parts _ _ h).0
above-get n (t ∷ ss) (suc i) s h e = above-get n ss i s (and_parts _ _ h).1 e

pub found-at : (ss : List (Name × Step)) (ls : List (Option ℕ)) (i : ℕ) (s : Name × Step) (l : Option ℕ) → is_ascending (names_of ss) ≡ true → slice_get ss i ≡ Some s → slice_get ls i ≡ Some l → found s.0 (known_steps ss ls) ≡ option_map (with_level s) l
found-at [] ls i s l h e f = cc
found-at (t ∷ ss) [] i s l h e f = cc
found-at (t ∷ ss) (k ∷ ls) zero s l h e f =
    let p : t ≡ s = cc in
    let q : k ≡ l = cc in
    subst (λ u. found u.0 (known_steps (t ∷ ss) (k ∷ ls)) ≡ option_map (with_level u) l) p (subst (λ m. found t.0 (known_steps (t ∷ ss) (k ∷ ls)) ≡ option_map (with_level t) m) q (here t ss k ls (and_parts _ _ h).0))
found-at (t ∷ ss) (k ∷ ls) (suc i) s l h e f =
    later s.0 t ss k ls (apart t.0 s.0 (above-get t.0 ss i s (and_parts _ _ h).0 e)).1 ∙ found-at ss ls i s l (and_parts _ _ h).1 e f

none-by : (n : Name) (t : Name × Step) (ss : List (Name × Step)) (l : Option ℕ) (ls : List (Option ℕ)) (b : Bool) → same_name n t.0 ≡ b → (named n ss ≡ None → found n (known_steps ss ls) ≡ None) → (if b then Some t.1 else named n ss) ≡ None → found n (known_steps (t ∷ ss) (l ∷ ls)) ≡ None
none-by n t ss l ls true f k g = cc
none-by n t ss l ls false f k g = later n t ss l ls f ∙ k g

-- a name of no step finds nothing
pub found-none : (n : Name) (ss : List (Name × Step)) (ls : List (Option ℕ)) → named n ss ≡ None → found n (known_steps ss ls) ≡ None
found-none n [] ls e = refl
found-none n (t ∷ ss) [] e = refl
found-none n (t ∷ ss) (l ∷ ls) e = none-by n t ss l ls (same_name n t.0) refl (found-none n ss ls) e

-- ---- a step's depth is put into the table

first-set : (n : Name) (t : Name × Step) (ss : List (Name × Step)) (l : Option ℕ) (ls : List (Option ℕ)) (k : ℕ) (b : Bool) → same_name n t.0 ≡ b → (if same_name n t.0 then Some (with_level t k) else found n (known_steps ss ls)) ≡ (if same_name n t.0 then Some (with_level t k) else found n (known_steps (t ∷ ss) (l ∷ ls)))
first-set n t ss l ls k true f = ap (λ b. if b then Some (with_level t k) else found n (known_steps ss ls)) f ∙ sym (ap (λ b. if b then Some (with_level t k) else found n (known_steps (t ∷ ss) (l ∷ ls))) f)
first-set n t ss l ls k false f = ap (λ o. if same_name n t.0 then Some (with_level t k) else o) (sym (later n t ss l ls f))

swapped : (x y : StepDepths) (o p : Option StepDepths) (a b : Bool) → (a ≡ true → b ≡ false) → p ≡ (if b then Some y else o) → (if a then Some x else p) ≡ (if b then Some y else (if a then Some x else o))
swapped x y o p true b f e = sym (ap (λ c. if c then Some y else Some x) (f refl))
swapped x y o p false b f e = e

-- a name is one of two names only
only : (n m s : Name) → is_lt (name_cmp m s) ≡ true → same_name n m ≡ true → same_name n s ≡ false
only n m s h e = subst (λ k. same_name k s ≡ false) (sym (same_name-is n m e)) (apart m s h).0

pub found-set : (ss : List (Name × Step)) (ls : List (Option ℕ)) (i : ℕ) (s : Name × Step) (k : ℕ) (n : Name) → is_ascending (names_of ss) ≡ true → slice_get ss i ≡ Some s → i < length ls → found n (known_steps ss (set ls i (Some k))) ≡ (if same_name n s.0 then Some (with_level s k) else found n (known_steps ss ls))
found-set [] ls i s k n h e lt = cc
found-set (t ∷ ss) [] i s k n h e lt = absurd (none-below i lt)
found-set (t ∷ ss) (l ∷ ls) zero s k n h e lt =
    let p : t ≡ s = cc in
    subst (λ u. found n (known_steps (t ∷ ss) (Some k ∷ ls)) ≡ (if same_name n u.0 then Some (with_level u k) else found n (known_steps (t ∷ ss) (l ∷ ls)))) p (first-set n t ss l ls k (same_name n t.0) refl)
found-set (t ∷ ss) (None ∷ ls) (suc i) s k n h e lt = found-set ss ls i s k n (and_parts _ _ h).1 e (omega arith)
found-set (t ∷ ss) (Some m ∷ ls) (suc i) s k n h e lt =
    swapped (with_level t m) (with_level s k) (found n (known_steps ss ls)) (found n (known_steps ss (set ls i (Some k)))) (same_name n t.0) (same_name n s.0) (only n t.0 s.0 (above-get t.0 ss i s (and_parts _ _ h).0 e)) (found-set ss ls i s k n (and_parts _ _ h).1 e (omega arith))

-- what the steps so far find stays what the table finds
pub agree-set : (made : List StepDepths) (ss : List (Name × Step)) (ls : List (Option ℕ)) (i : ℕ) (s : Name × Step) (k : ℕ) → is_ascending (names_of ss) ≡ true → slice_get ss i ≡ Some s → i < length ls → Agree made (known_steps ss ls) → Agree (with_level s k ∷ made) (known_steps ss (set ls i (Some k)))
agree-set made ss ls i s k h e lt a n = ap (λ o. if same_name n s.0 then Some (with_level s k) else o) (a n) ∙ sym (found-set ss ls i s k n h e lt)

-- a table of nothing finds nothing
pub found-empty : (n : Name) (ss : List (Name × Step)) (k : ℕ) → found n (known_steps ss (replicate k None)) ≡ None
found-empty n [] k = refl
found-empty n (t ∷ ss) zero = refl
found-empty n (t ∷ ss) (suc k) = found-empty n ss k

-- ---- links

-- the depth of a port of a step of a depth
pub with_level-named : (k : ℕ) (ps : List (Name × ℕ)) (p : Name) → named p (map (λ (q : Name × ℕ). (q.0, k + q.1)) ps) ≡ option_map (λ d. k + d) (named p ps)
with_level-named k [] p = refl
with_level-named k (q ∷ qs) p = if-map (same_name p q.0) (λ d. k + d) q.1 (named p qs) (named p (map (λ (r : Name × ℕ). (r.0, k + r.1)) qs)) (with_level-named k qs p)
  where
    if-map : (b : Bool) (f : ℕ → ℕ) (d : ℕ) (o r : Option ℕ) → r ≡ option_map f o → (if b then Some (f d) else r) ≡ option_map f (if b then Some d else o)
    if-map true f d o r e = refl
    if-map false f d o r e = e
