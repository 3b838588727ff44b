-- Loops that put what follows from each item of a list behind others.
use Rattle.std.proofs.Common.{◌≡◌, refl, ℕ, zero, suc, ◌+◌, ◌<◌, ◌≤◌, List, [], ◌∷◌, ◌++◌, flat_map, length, drop, sym, ap, ◌∙◌, arith, append-nil, append_assoc}
use Rattle.tv_value.specs.Nested.{Place}
use Rattle.tv_strategy.proofs.Sources.{each-append}
use Rattle.tv_matching.specs.Items.{Kind, ends, closes, passes}
use Rattle.tv_matching.specs.Matched.{below_jobs, replaced_below}
use Rattle.tv_matching.specs.Matchers.{Kept}
use Rattle.tv_match.specs.Entries.{Entry, entry_at, kepts, AreMore}
use Rattle.tv_match.specs.Brief.{briefs}

-- ---- more of one number

pub more-none : (n : ℕ) (es : List Entry) → AreMore n es es
more-none n es = record { more = []; new_is = sym (append-nil es); are_of = tt }

pub more-one : (n : ℕ) (old mid new : List Entry) (e : Entry) → AreMore n old mid → new ≡ mid ++ e ∷ [] → e.number ≡ n → AreMore n old new
more-one n old mid new e m h k =
    record {
      more = m.more ++ e ∷ [];
      new_is = h ∙ ap (λ l. l ++ e ∷ []) m.new_is ∙ append_assoc old m.more (e ∷ []);
      are_of = each-append (λ (f : Entry). f.number ≡ n) m.more (e ∷ []) m.are_of (k, tt);
    }

-- ---- a loop

-- what follows from the items from i on is still to be put
pub record Puts (n : ℕ) (f : Kept → List Kept) (xs : List Entry) (i : ℕ) (old new : List Entry) : Type 0 where
  pub items : kepts new ++ flat_map f (kepts (drop i xs)) ≡ kepts old ++ flat_map f (kepts xs)
  pub more : AreMore n old new

pub from-next : (xs : List Entry) (i : ℕ) → i < length xs → drop i xs ≡ entry_at xs i ∷ drop (i + 1) xs
from-next [] i h = absurd (none i h)
  where
    none : (i : ℕ) → i < 0 → ⊥
    none i h = omega arith
from-next (x ∷ xs) zero h = refl
from-next (x ∷ xs) (suc i) h = from-next xs i (omega (arith, h)) ∙ ap (λ j. entry_at xs i ∷ drop j (x ∷ xs)) (plus i)
  where
    plus : (i : ℕ) → suc (i + 1) ≡ suc i + 1
    plus i = omega arith

pub past : (xs : List Entry) (i : ℕ) → length xs ≤ i → drop i xs ≡ []
past [] zero h = refl
past [] (suc i) h = refl
past (x ∷ xs) zero h = absurd (omega (arith, h))
past (x ∷ xs) (suc i) h = past xs i (omega (arith, h))

module _ (n : ℕ) (f : Kept → List Kept) (xs : List Entry) where
  pub puts-end : (i : ℕ) (old new : List Entry) → Puts n f xs i old new → length xs ≤ i → kepts new ≡ kepts old ++ flat_map f (kepts xs)
  puts-end i old new h l = sym (append-nil (kepts new)) ∙ ap (λ ys. kepts new ++ flat_map f (kepts ys)) (sym (past xs i l)) ∙ h.items

-- ---- a loop whose items are put in brief

pub record PutsBrief (n : ℕ) (f : Kept → List Kept) (xs : List Entry) (i : ℕ) (old new : List Entry) : Type 0 where
  pub items : kepts new ++ briefs (flat_map f (kepts (drop i xs))) ≡ kepts old ++ briefs (flat_map f (kepts xs))
  pub more : AreMore n old new

-- ---- one item

-- nothing stands below jobs where the second child has nothing new
pub below-nothing : (es : List Kept) → below_jobs es [] ≡ []
below-nothing [] = refl
below-nothing (e ∷ es) = ap (λ l. l ++ below_jobs es []) (one e.place e.kind) ∙ below-nothing es
  where
    one : (q : Place) (k : Kind (Unit {0}) ℕ) → replaced_below [] q k ≡ []
    one q (ends b) = refl
    one q (closes n) = refl
    one q (passes f) = refl

pub no-kepts : (es : List Entry) → length es ≡ 0 → kepts es ≡ []
no-kepts [] h = refl
no-kepts (e ∷ es) h = absurd (omega (arith, h))
