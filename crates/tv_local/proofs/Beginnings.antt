-- Where the services stand whose names begin with a byte.
use Rattle.std.specs.Prelude.{◌≡◌, ℕ, zero, suc, ◌+◌, ◌-◌, ◌<◌, ◌≤◌, List, [], ◌∷◌, take, drop, length, map, filter, refl, Bool, true, false, ◌&&◌, ◌==◌, nat_le, slice_index_or, if◌then◌else◌}
use Rattle.std.proofs.Common.{arith, ap, sym, subst, ◌∙◌, ◌⊎◌, inl, inr, Bor, leb-true, ne_eqb}
use Rattle.std.proofs.lemmas.Bool.{and_parts}
use Rattle.std.proofs.lemmas.List.{take-map, drop-map}
use Rattle.tv_value.specs.Values.{Name}
use Rattle.tv_local.specs.Table.{names}
use Rattle.tv_local.specs.Beginnings.{begins, from_byte, spans}
use Rattle.tv_local.specs.declared.row.Local.{Local}

abbrev pub row : Bor (List ℕ) × Local → Name × Local
row r = (r.0.now, r.1)

abbrev Fit : ℕ → ℕ × ℕ → Type 0
Fit b s = ((nat_le s.0 s.1 && nat_le s.1 18) ≡ true) × (take (s.1 - s.0) (drop s.0 names) ≡ from_byte b)

abbrev Fits : ℕ → List (ℕ × ℕ) → Type 0
Fits b [] = Unit {0}
Fits b (s ∷ ss) = Fit b s × Fits (b + 1) ss

all-fit : Fits 97 spans
all-fit = ((refl, refl), ((refl, refl), ((refl, refl), ((refl, refl), ((refl, refl), ((refl, refl), ((refl, refl), ((refl, refl), ((refl, refl), ((refl, refl), ((refl, refl), ((refl, refl), ((refl, refl), ((refl, refl), ((refl, refl), ((refl, refl), ((refl, refl), ((refl, refl), ((refl, refl), ((refl, refl), ((refl, refl), tt)))))))))))))))))))))

fit-at : (b : ℕ) (ss : List (ℕ × ℕ)) → Fits b ss → (i : ℕ) (d : ℕ × ℕ) → i < length ss → Fit (b + i) (slice_index_or ss i d)
fit-at b [] f i d l = absurd (omega arith)
fit-at b (x ∷ ss) f zero d l = subst (λ n. Fit n x) (none b) f.0
  where
    none : (n : ℕ) → n ≡ n + 0
    none n = omega arith
fit-at b (x ∷ ss) f (suc i) d l = subst (λ n. Fit n (slice_index_or ss i d)) (one b i) (fit-at (b + 1) ss f.1 i d (omega arith))
  where
    one : (n k : ℕ) → n + 1 + k ≡ n + suc k
    one n k = omega arith

pub span-at : (i : ℕ) (ss : List (ℕ × ℕ)) (s : ℕ × ℕ) → ss ≡ spans → i < length ss → s ≡ slice_index_or ss i s → (s.0 ≤ s.1) × (s.1 ≤ 18) × (take (s.1 - s.0) (drop s.0 names) ≡ from_byte (97 + i))
span-at i ss s e l is =
    let f = subst (Fit (97 + i)) (ap (λ xs. slice_index_or xs i s) (sym e) ∙ sym is) (fit-at 97 spans all-fit i s (subst (λ xs. i < length xs) e l)) in
    let within = and_parts (nat_le s.0 s.1) (nat_le s.1 18) f.0 in
    (leb-true s.0 s.1 within.0, leb-true s.1 18 within.1, f.1)

pub rows-between : (rs : List (Bor (List ℕ) × Local)) (from to : ℕ) → map row rs ≡ names → map row (take (to - from) (drop from rs)) ≡ take (to - from) (drop from names)
rows-between rs from to e =
    sym (take-map row (to - from) (drop from rs))
    ∙ ap (take (to - from)) (sym (drop-map row from rs) ∙ ap (drop from) e)

abbrev within : List (Name × Local) → Bool
within [] = true
within (([], k) ∷ rs) = false
within ((c ∷ n, k) ∷ rs) = (nat_le 97 c && nat_le c 117) && within rs

none-outside : (b : ℕ) → (b < 97) ⊎ (117 < b) → (rs : List (Name × Local)) → within rs ≡ true → filter (λ (r : Name × Local). begins b r.0) rs ≡ []
none-outside b out [] e = refl
none-outside b out (([], k) ∷ rs) e = absurd cc
none-outside b out ((c ∷ n, k) ∷ rs) e =
    let both = and_parts (nat_le 97 c && nat_le c 117) (within rs) e in
    let ends = and_parts (nat_le 97 c) (nat_le c 117) both.0 in
    ap (λ t. if t then (c ∷ n, k) ∷ filter (λ (r : Name × Local). begins b r.0) rs else filter (λ (r : Name × Local). begins b r.0) rs) (other out (leb-true 97 c ends.0) (leb-true c 117 ends.1))
    ∙ none-outside b out rs both.1
  where
    other : (b < 97) ⊎ (117 < b) → 97 ≤ c → c ≤ 117 → (b == c) ≡ false
    other (inl l) low high = ne_eqb b c (λ same. omega arith)
    other (inr l) low high = ne_eqb b c (λ same. omega arith)

pub none-below : (b : ℕ) → b < 97 → from_byte b ≡ []
none-below b l = none-outside b (inl l) names refl

pub none-past : (b : ℕ) → 97 ≤ b → 21 ≤ b - 97 → from_byte b ≡ []
none-past b low l = none-outside b (inr (omega arith)) names refl
