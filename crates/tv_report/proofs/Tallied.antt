-- How often each number comes, one number more at a time, and by the names that numbers stand for.
use Rattle.std.specs.Prelude.{◌≡◌, ℕ, suc, ◌+◌, Bool, true, false, cond, not, ◌&&◌, List, [], ◌∷◌, ◌++◌, map, filter, count_by, nat_eq, nat_lt, unwrap_or, refl, Some}
use Rattle.std.specs.List.{list_all}
use Rattle.std.specs.Map.{lookup}
use Rattle.std.proofs.Common.{ap, sym, ◌∙◌, arith, true≢false}
use Rattle.std.proofs.lemmas.Bool.{eqb-true, eq-eqb, and_parts}
use Rattle.std.proofs.lemmas.List.Sums.{sum_by-cons, sum_by_push}
use Rattle.indexmap.specs.IndexMap.{insert_entry}
use Rattle.tv_report.specs.TraceLines.{tallied}

eq-sym : (a b : ℕ) (p q : Bool) → nat_eq a b ≡ p → nat_eq b a ≡ q → p ≡ q
eq-sym a b true true e f = refl
eq-sym a b false false e f = refl
eq-sym a b true false e f = sym (eq-eqb b a (sym (eqb-true a b e))) ∙ f
eq-sym a b false true e f = sym e ∙ eq-eqb a b (sym (eqb-true b a f))

-- ---- one more

abbrev others : ℕ → List (ℕ × ℕ) → List (ℕ × ℕ)
others x es = filter (λ e. not (nat_eq x e.0)) es

put-out-by : (x v : ℕ) (e : ℕ × ℕ) (es : List (ℕ × ℕ)) (b : Bool) → nat_eq x e.0 ≡ b → others x (insert_entry nat_eq es x v) ≡ others x es
    → others x (cond b ((e.0, v) ∷ es) (e ∷ insert_entry nat_eq es x v)) ≡ others x (e ∷ es)
put-out-by x v e es true h k = ap (λ b. cond (not b) ((e.0, v) ∷ others x es) (others x es)) h ∙ sym (ap (λ b. cond (not b) (e ∷ others x es) (others x es)) h)
put-out-by x v e es false h k = ap (λ zs. cond (not (nat_eq x e.0)) (e ∷ zs) zs) k

-- what is put at a number is left out with it
put-out : (x v : ℕ) (es : List (ℕ × ℕ)) → others x (insert_entry nat_eq es x v) ≡ others x es
put-out x v [] = ap (λ b. cond (not b) ((x, v) ∷ []) []) (eq-eqb x x refl)
put-out x v (e ∷ es) = put-out-by x v e es (nat_eq x e.0) refl (put-out x v es)

put-beside-by : (x k v : ℕ) → nat_eq k x ≡ false → (e : ℕ × ℕ) (es : List (ℕ × ℕ)) (b c : Bool) → nat_eq k e.0 ≡ b → nat_eq x e.0 ≡ c
    → others x (insert_entry nat_eq es k v) ≡ insert_entry nat_eq (others x es) k v
    → others x (cond b ((e.0, v) ∷ es) (e ∷ insert_entry nat_eq es k v)) ≡ insert_entry nat_eq (cond (not c) (e ∷ others x es) (others x es)) k v
put-beside-by x k v h e es true true p q r = absurd (true≢false (sym (eq-eqb k x (eqb-true k e.0 p ∙ sym (eqb-true x e.0 q))) ∙ h))
put-beside-by x k v h e es true false p q r =
    ap (λ b. cond (not b) ((e.0, v) ∷ others x es) (others x es)) q ∙ sym (ap (λ b. cond b ((e.0, v) ∷ others x es) (e ∷ insert_entry nat_eq (others x es) k v)) p)
put-beside-by x k v h e es false true p q r =
    ap (λ b. cond (not b) (e ∷ others x (insert_entry nat_eq es k v)) (others x (insert_entry nat_eq es k v))) q ∙ r
put-beside-by x k v h e es false false p q r =
    ap (λ b. cond (not b) (e ∷ others x (insert_entry nat_eq es k v)) (others x (insert_entry nat_eq es k v))) q
    ∙ ap (λ zs. e ∷ zs) r
    ∙ sym (ap (λ b. cond b ((e.0, v) ∷ others x es) (e ∷ insert_entry nat_eq (others x es) k v)) p)

-- and stays where another is left out
put-beside : (x k v : ℕ) → nat_eq k x ≡ false → (es : List (ℕ × ℕ)) → others x (insert_entry nat_eq es k v) ≡ insert_entry nat_eq (others x es) k v
put-beside x k v h [] = ap (λ b. cond (not b) ((k, v) ∷ []) []) (eq-sym x k (nat_eq x k) (nat_eq k x) refl refl ∙ h)
put-beside x k v h (e ∷ es) = put-beside-by x k v h e es (nat_eq k e.0) (nat_eq x e.0) refl refl (put-beside x k v h es)

abbrev often : ℕ → List ℕ → ℕ
often k ks = count_by (nat_eq k) ks

more-by : (x k n : ℕ) (ks : List ℕ) (b : Bool) → nat_eq k x ≡ b → n ≡ cond b 1 0 + often k ks
    → tallied nat_eq (ks ++ k ∷ []) ≡ insert_entry nat_eq (tallied nat_eq ks) k (suc (often k ks))
    → (x, suc (often x (ks ++ k ∷ []))) ∷ others x (tallied nat_eq (ks ++ k ∷ []))
    ≡ cond b ((x, suc n) ∷ others x (tallied nat_eq ks)) ((x, suc (often x ks)) ∷ insert_entry nat_eq (others x (tallied nat_eq ks)) k (suc n))
more-by x k n ks true h m r =
    let at : x ≡ k = sym (eqb-true k x h) in
    let same : often k ks ≡ often x ks = ap (λ z. often z ks) (sym at) in
    let counts : suc (often x (ks ++ k ∷ [])) ≡ suc n =
    ap suc (sum_by_push (λ z. cond (nat_eq x z) 1 0) ks k ∙ ap (λ b. often x ks + cond b 1 0) (eq-eqb x k at)) ∙ omega (arith, m, same) in
    ap (λ zs. (x, suc (often x (ks ++ k ∷ []))) ∷ others x zs) r
    ∙ ap (λ z. (x, suc (often x (ks ++ k ∷ []))) ∷ others x (insert_entry nat_eq (tallied nat_eq ks) z (suc (often k ks)))) (sym at)
    ∙ ap (λ zs. (x, suc (often x (ks ++ k ∷ []))) ∷ zs) (put-out x (suc (often k ks)) (tallied nat_eq ks))
    ∙ ap (λ z. (x, z) ∷ others x (tallied nat_eq ks)) counts
more-by x k n ks false h m r =
    let counts : suc (often x (ks ++ k ∷ [])) ≡ suc (often x ks) =
    ap suc (sum_by_push (λ z. cond (nat_eq x z) 1 0) ks k ∙ ap (λ b. often x ks + cond b 1 0) (eq-sym x k (nat_eq x k) (nat_eq k x) refl refl ∙ h)) ∙ omega arith in
    ap (λ zs. (x, suc (often x (ks ++ k ∷ []))) ∷ others x zs) r
    ∙ ap (λ zs. (x, suc (often x (ks ++ k ∷ []))) ∷ zs) (put-beside x k (suc (often k ks)) h (tallied nat_eq ks))
    ∙ ap (λ z. (x, z) ∷ insert_entry nat_eq (others x (tallied nat_eq ks)) k (suc (often k ks))) counts
    ∙ ap (λ z. (x, suc (often x ks)) ∷ insert_entry nat_eq (others x (tallied nat_eq ks)) k (suc z)) (omega (arith, m))

-- a number more is put with one more than it had
pub tallied-more : (k : ℕ) (ks : List ℕ) → tallied nat_eq (ks ++ k ∷ []) ≡ insert_entry nat_eq (tallied nat_eq ks) k (suc (often k ks))
tallied-more k [] = refl
tallied-more k (x ∷ ks) = more-by x k (often k (x ∷ ks)) ks (nat_eq k x) refl (sum_by-cons (λ z. cond (nat_eq k z) 1 0) x ks) (tallied-more k ks)

found-by : (x k : ℕ) → nat_eq k x ≡ false → (e : ℕ × ℕ) (es : List (ℕ × ℕ)) (b : Bool) → nat_eq x e.0 ≡ b → lookup (nat_eq k) (others x es) ≡ lookup (nat_eq k) es
    → lookup (nat_eq k) (cond (not b) (e ∷ others x es) (others x es)) ≡ lookup (nat_eq k) (e ∷ es)
found-by x k h e es true q r = r ∙ sym (ap (λ b. cond b (Some e.1) (lookup (nat_eq k) es)) (ap (nat_eq k) (sym (eqb-true x e.0 q)) ∙ h))
found-by x k h e es false q r = ap (λ o. cond (nat_eq k e.0) (Some e.1) o) r

found : (x k : ℕ) → nat_eq k x ≡ false → (es : List (ℕ × ℕ)) → lookup (nat_eq k) (others x es) ≡ lookup (nat_eq k) es
found x k h [] = refl
found x k h (e ∷ es) = found-by x k h e es (nat_eq x e.0) refl (found x k h es)

at-by : (x k : ℕ) (ks : List ℕ) (b : Bool) → nat_eq k x ≡ b → unwrap_or (lookup (nat_eq k) (tallied nat_eq ks)) 0 ≡ often k ks
    → unwrap_or (cond b (Some (suc (often x ks))) (lookup (nat_eq k) (others x (tallied nat_eq ks)))) 0 ≡ cond b 1 0 + often k ks
at-by x k ks true h r = ap (λ z. suc (often z ks)) (sym (eqb-true k x h)) ∙ omega arith
at-by x k ks false h r = ap (λ o. unwrap_or o 0) (found x k h (tallied nat_eq ks)) ∙ r ∙ omega arith

-- the number that stands at a number is how often it came
pub tallied-at : (k : ℕ) (ks : List ℕ) → unwrap_or (lookup (nat_eq k) (tallied nat_eq ks)) 0 ≡ often k ks
tallied-at k [] = refl
tallied-at k (x ∷ ks) = at-by x k ks (nat_eq k x) refl (tallied-at k ks) ∙ sym (sum_by-cons (λ z. cond (nat_eq k z) 1 0) x ks)

-- ---- names

module _ {A : Type 0} (same : A → A → Bool) (name : ℕ → A) (n : ℕ) (apart : (a b : ℕ) → nat_lt a n ≡ true → nat_lt b n ≡ true → same (name a) (name b) ≡ nat_eq a b) where
  abbrev named : ℕ × ℕ → A × ℕ
  named e = (name e.0, e.1)

  abbrev all_below : List ℕ → Type 0
  all_below ks = list_all (λ k. nat_lt k n) ks ≡ true

  abbrev all_keys_below : List (ℕ × ℕ) → Type 0
  all_keys_below es = list_all (λ e. nat_lt e.0 n) es ≡ true

  names-often : (x : ℕ) → nat_lt x n ≡ true → (ks : List ℕ) → all_below ks → count_by (same (name x)) (map name ks) ≡ often x ks
  names-often x h [] b = refl
  names-often x h (k ∷ ks) b =
      let p = and_parts (nat_lt k n) (list_all (λ k. nat_lt k n) ks) b in
      sum_by-cons (λ z. cond (same (name x) z) 1 0) (name k) (map name ks)
      ∙ ap (λ c. cond c 1 0 + count_by (same (name x)) (map name ks)) (apart x k h p.0)
      ∙ ap (λ z. cond (nat_eq x k) 1 0 + z) (names-often x h ks p.1)
      ∙ sym (sum_by-cons (λ z. cond (nat_eq x z) 1 0) k ks)

  others-named-by : (x : ℕ) (e : ℕ × ℕ) (es : List (ℕ × ℕ)) (c : Bool) → filter (λ e. not (same (name x) e.0)) (map named es) ≡ map named (others x es)
      → cond (not c) (named e ∷ filter (λ e. not (same (name x) e.0)) (map named es)) (filter (λ e. not (same (name x) e.0)) (map named es)) ≡ map named (cond (not c) (e ∷ others x es) (others x es))
  others-named-by x e es true r = r
  others-named-by x e es false r = ap (λ zs. named e ∷ zs) r

  others-named : (x : ℕ) → nat_lt x n ≡ true → (es : List (ℕ × ℕ)) → all_keys_below es → filter (λ e. not (same (name x) e.0)) (map named es) ≡ map named (others x es)
  others-named x h [] b = refl
  others-named x h (e ∷ es) b =
      let p = and_parts (nat_lt e.0 n) (list_all (λ e. nat_lt e.0 n) es) b in
      ap (λ c. cond (not c) (named e ∷ filter (λ e. not (same (name x) e.0)) (map named es)) (filter (λ e. not (same (name x) e.0)) (map named es))) (apart x e.0 h p.0)
      ∙ others-named-by x e es (nat_eq x e.0) (others-named x h es p.1)

  others-below-by : (e : ℕ × ℕ) (zs : List (ℕ × ℕ)) (c : Bool) → nat_lt e.0 n ≡ true → all_keys_below zs → all_keys_below (cond c (e ∷ zs) zs)
  others-below-by e zs true h b = ap (λ c. c && list_all (λ e. nat_lt e.0 n) zs) h ∙ b
  others-below-by e zs false h b = b

  others-below : (x : ℕ) (es : List (ℕ × ℕ)) → all_keys_below es → all_keys_below (others x es)
  others-below x [] b = refl
  others-below x (e ∷ es) b = let p = and_parts (nat_lt e.0 n) (list_all (λ e. nat_lt e.0 n) es) b in others-below-by e (others x es) (not (nat_eq x e.0)) p.0 (others-below x es p.1)

  -- no number is new
  pub tallied-below : (ks : List ℕ) → all_below ks → all_keys_below (tallied nat_eq ks)
  tallied-below [] b = refl
  tallied-below (x ∷ ks) b =
      let p = and_parts (nat_lt x n) (list_all (λ k. nat_lt k n) ks) b in
      ap (λ c. c && list_all (λ e. nat_lt e.0 n) (others x (tallied nat_eq ks))) p.0 ∙ others-below x (tallied nat_eq ks) (tallied-below ks p.1)

  -- what is tallied by numbers is tallied by their names
  pub tallied-named : (ks : List ℕ) → all_below ks → tallied same (map name ks) ≡ map named (tallied nat_eq ks)
  tallied-named [] b = refl
  tallied-named (x ∷ ks) b =
      let p = and_parts (nat_lt x n) (list_all (λ k. nat_lt k n) ks) b in
      ap (λ z. (name x, suc z) ∷ filter (λ e. not (same (name x) e.0)) (tallied same (map name ks))) (names-often x p.0 ks p.1)
      ∙ ap (λ zs. (name x, suc (often x ks)) ∷ filter (λ e. not (same (name x) e.0)) zs) (tallied-named ks p.1)
      ∙ ap (λ zs. (name x, suc (often x ks)) ∷ zs) (others-named x p.0 (tallied nat_eq ks) (tallied-below ks p.1))
