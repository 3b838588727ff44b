-- The loop over what stands at a place, the latest first.
use Rattle.std.specs.Prelude.{IfSome, IsNone}
use Rattle.std.proofs.Common.{◌≡◌, refl, ℕ, suc, ◌<◌, ◌≤◌, List, [], ◌∷◌, ◌++◌, map, length, take, Option, Some, None, sym, ap, subst, ◌∙◌, arith, append-nil, append_assoc}
use Rattle.std.proofs.Math.Seq.{take-length}
use Rattle.tv_value.specs.Nested.{Place}
use Rattle.tv_matching.specs.Matchers.{Kept}
use Rattle.tv_matching.specs.Stores.{latest_at, latest_by}
use Rattle.tv_match.specs.Entries.{Entry, entry_at, kept_entry, kepts, AreMore, FoundBy}
use Rattle.tv_match.proofs.Putting.{more-none}

-- what follows from those before is still to be put
pub record Meets (n : ℕ) (f : Kept → Kept) (q : Place) (es : List Entry) (before : ℕ) (old new : List Entry) : Type 0 where
  pub within : before ≤ length es
  pub items : kepts new ++ map f (latest_at q (kepts (take before es))) ≡ kepts old ++ map f (latest_at q (kepts es))
  pub more : AreMore n old new

module _ (n : ℕ) (f : Kept → Kept) (q : Place) (es : List Entry) where
  pub meets-end : (before : ℕ) (old new : List Entry) → Meets n f q es before old new → latest_at q (kepts (take before es)) ≡ [] → kepts new ≡ kepts old ++ map f (latest_at q (kepts es))
  meets-end before old new h e = sym (append-nil (kepts new)) ∙ ap (λ l. kepts new ++ map f l) (sym e) ∙ h.items

-- ---- the loop over what has a key, from the last on

-- the one that was found, and those before it
abbrev pub rest_from : (Place → Place) → Place → List Entry → Option ℕ → List Kept
rest_from key q es None = []
rest_from key q es (Some i) = kept_entry (entry_at es i) ∷ latest_by key q (kepts (take i es))

-- how many there may still be
abbrev pub steps_left : Option ℕ → ℕ
steps_left None = 0
steps_left (Some i) = suc i

-- what follows from the one that was found and those before it is still to be put
pub record MeetsFrom (n : ℕ) (f : Kept → Kept) (key : Place → Place) (q : Place) (es : List Entry) (next : Option ℕ) (old new : List Entry) : Type 0 where
  pub found : IfSome next (λ i. (i < length es) × (key (entry_at es i).place ≡ q))
  pub items : kepts new ++ map f (rest_from key q es next) ≡ kepts old ++ map f (latest_by key q (kepts es))
  pub more : AreMore n old new

module _ (key : Place → Place) (q : Place) (es : List Entry) where
  rest-is : (before : ℕ) (o : Option ℕ) → IfSome o (FoundBy key q es before) → (IsNone o → latest_by key q (kepts (take before es)) ≡ []) → latest_by key q (kepts (take before es)) ≡ rest_from key q es o
  rest-is before None h n = n refl
  rest-is before (Some i) h n = h.is_last

  there-is : (before : ℕ) → before ≤ length es → (o : Option ℕ) → IfSome o (FoundBy key q es before) → IfSome o (λ i. (i < length es) × (key (entry_at es i).place ≡ q))
  there-is before l None h = tt
  there-is before l (Some i) h = (let b = h.is_before in omega (arith, b, l), h.is_there)

  module _ (n : ℕ) (f : Kept → Kept) where
    pub from-start : (out : List Entry) (o : Option ℕ) → IfSome o (FoundBy key q es (length es)) → (IsNone o → latest_by key q (kepts es) ≡ []) → MeetsFrom n f key q es o out out
    from-start out o h none =
        record {
          found = there-is (length es) (omega arith) o h;
          items = ap (λ l. kepts out ++ map f l) (sym (rest-is (length es) o h (λ e. ap (λ l. latest_by key q (kepts l)) (take-length es) ∙ none e)) ∙ ap (λ l. latest_by key q (kepts l)) (take-length es));
          more = more-none n out;
        }

    pub from-next : (old new outs : List Entry) (i : ℕ) (o : Option ℕ) → MeetsFrom n f key q es (Some i) old new → kepts outs ≡ kepts new ++ f (kept_entry (entry_at es i)) ∷ [] → AreMore n old outs → IfSome o (FoundBy key q es i) → (IsNone o → latest_by key q (kepts (take i es)) ≡ []) → MeetsFrom n f key q es o old outs
    from-next old new outs i o m e b h none =
        record {
          found = there-is i (let l = m.found.0 in omega (arith, l)) o h;
          items =
              ap (λ l. l ++ map f (rest_from key q es o)) e
              ∙ append_assoc (kepts new) (f (kept_entry (entry_at es i)) ∷ []) (map f (rest_from key q es o))
              ∙ ap (λ l. kepts new ++ f (kept_entry (entry_at es i)) ∷ map f l) (sym (rest-is i o h none))
              ∙ m.items;
          more = b;
        }

    pub from-end : (old new : List Entry) → MeetsFrom n f key q es None old new → kepts new ≡ kepts old ++ map f (latest_by key q (kepts es))
    from-end old new m = sym (append-nil (kepts new)) ∙ m.items
