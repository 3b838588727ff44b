-- Lemmas on the table of the regions' chains.
use Rattle.std.proofs.Common.{◌≡◌, ℕ, zero, suc, ◌+◌, true, eqb, cond, List, [], ◌∷◌, get_or, Option, Some, None, refl, sym, ap, ◌∙◌, arith, inl, inr, add-zero}
use Rattle.std.proofs.lemmas.Bool.{eq-eqb}
use Rattle.std.proofs.lemmas.Bool.Decides.{eqb_tells}
use Rattle.std.proofs.lemmas.Option.{same_Some}
use Rattle.tv_pool.specs.Layout.{find_from}
use Rattle.tv_pool.specs.declared.layout.Chain.{Chain}

-- no other entry has the number of this one
abbrev pub IsAlone : List (Option Chain) → ℕ → ℕ → Type 0
IsAlone table number entry = (other : ℕ) (d : Chain) → get_or table other None ≡ Some d → d.number ≡ number → other ≡ entry

-- no two entries have one number
abbrev pub IsApart : List (Option Chain) → Type 0
IsApart table = (one other : ℕ) (c d : Chain) → get_or table one None ≡ Some c → get_or table other None ≡ Some d → c.number ≡ d.number → one ≡ other

pub find_from_found : (first : ℕ) (table : List (Option Chain)) (k entry : ℕ) (c : Chain) → first + k ≡ entry → get_or table k None ≡ Some c → IsAlone table c.number k → find_from first table c.number ≡ Some (entry, c)
find_from_found first [] k entry c at found alone = absurd (cc)
find_from_found first (None ∷ rest) zero entry c at found alone = absurd (cc)
find_from_found first (None ∷ rest) (suc k) entry c at found alone =
    find_from_found (suc first) rest k entry c (omega (arith, at)) found (λ other d seen same. omega (arith, alone (suc other) d seen same))
find_from_found first (Some d ∷ rest) zero entry c at found alone =
    let is : d ≡ c = same_Some d c found in
    let test : eqb d.number c.number ≡ true = eq-eqb d.number c.number (ap (λ (x : Chain). x.number) is) in
    let here : first ≡ entry = omega (arith, at) in
    rw test (ap (λ (p : ℕ). Some (p, d)) here ∙ ap (λ (x : Chain). Some (entry, x)) is)
find_from_found first (Some d ∷ rest) (suc k) entry c at found alone =
    elim (eqb_tells d.number c.number) [
      | inl same ↦ absurd (omega (arith, alone zero d refl same.1))
      | inr differs ↦ rw differs.0 (find_from_found (suc first) rest k entry c (omega (arith, at)) found (λ other e seen same. omega (arith, alone (suc other) e seen same)))
    ]

pub find_from_sound : (first : ℕ) (table : List (Option Chain)) (number : ℕ) (f : ℕ × Chain) → find_from first table number ≡ Some f → (k : ℕ) × (first + k ≡ f.0) × (get_or table k None ≡ Some f.1) × (f.1.number ≡ number)
find_from_sound first [] number f found = absurd (cc)
find_from_sound first (None ∷ rest) number f found =
    let later = find_from_sound (suc first) rest number f found in
    (suc later.0, omega (arith, later.1), later.2, later.3)
find_from_sound first (Some d ∷ rest) number f found =
    elim (eqb_tells d.number number) [
      | inl same ↦
          let is : (first, d) ≡ f = same_Some _ _ (sym (ap (λ b. cond b (Some (first, d)) (find_from (suc first) rest number)) same.0) ∙ found) in
          (zero, add-zero first ∙ ap (λ (p : ℕ × Chain). p.0) is, ap (λ (p : ℕ × Chain). Some p.1) is, ap (λ (p : ℕ × Chain). p.1.number) (sym is) ∙ same.1)
      | inr differs ↦
          let later = find_from_sound (suc first) rest number f (sym (ap (λ b. cond b (Some (first, d)) (find_from (suc first) rest number)) differs.0) ∙ found) in
          (suc later.0, omega (arith, later.1), later.2, later.3)
    ]

-- the entry of a number, found by a search of the whole table
pub found_at : (table : List (Option Chain)) (entry : ℕ) (c : Chain) → IsApart table → get_or table entry None ≡ Some c → find_from 0 table c.number ≡ Some (entry, c)
found_at table entry c apart found =
    find_from_found 0 table entry entry c (omega arith) found (λ other d seen same. apart other entry d c seen found same)

pub found_is : (table : List (Option Chain)) (number : ℕ) (f : ℕ × Chain) → find_from 0 table number ≡ Some f → (get_or table f.0 None ≡ Some f.1) × (f.1.number ≡ number)
found_is table number f found =
    let there = find_from_sound 0 table number f found in
    let at : there.0 ≡ f.0 = omega (arith, there.1) in
    (ap (λ k. get_or table k None) (sym at) ∙ there.2, there.3)

-- two tables have the same entry under a number
pub record Agrees (old new : List (Option Chain)) (number : ℕ) : Type 0 where
  pub forth : (entry : ℕ) (c : Chain) → c.number ≡ number → get_or old entry None ≡ Some c → get_or new entry None ≡ Some c
  pub back : (entry : ℕ) (c : Chain) → c.number ≡ number → get_or new entry None ≡ Some c → get_or old entry None ≡ Some c

find_by_number : (table : List (Option Chain)) (number entry : ℕ) (c : Chain) → IsApart table → c.number ≡ number → get_or table entry None ≡ Some c → find_from 0 table number ≡ Some (entry, c)
find_by_number table number entry c apart same found = ap (λ n. find_from 0 table n) (sym same) ∙ found_at table entry c apart found

pub find_from-agrees : (old new : List (Option Chain)) (number : ℕ) → IsApart old → IsApart new → Agrees old new number → find_from 0 new number ≡ find_from 0 old number
find_from-agrees old new number apart apart' agrees = by_old (find_from 0 old number) refl
  where
    by_new : (o : Option (ℕ × Chain)) → find_from 0 new number ≡ o → find_from 0 old number ≡ None → find_from 0 new number ≡ None
    by_new None is was = is
    by_new (Some f) is was =
        let there = found_is new number f is in
        absurd (let e = find_by_number old number f.0 f.1 apart there.1 (agrees.back f.0 f.1 there.1 there.0) in cc)

    by_old : (o : Option (ℕ × Chain)) → find_from 0 old number ≡ o → find_from 0 new number ≡ find_from 0 old number
    by_old None was = by_new (find_from 0 new number) refl was ∙ sym was
    by_old (Some f) was =
        let there = found_is old number f was in
        find_by_number new number f.0 f.1 apart' there.1 (agrees.forth f.0 f.1 there.1 there.0) ∙ sym was
