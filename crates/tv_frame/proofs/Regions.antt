-- A region that begins, and is released again where a frame is refused.
use Rattle.std.specs.Prelude.{◌≡◌, ◌⊎◌, IsSomeAnd, refl, ℕ, zero, suc, List, [], ◌∷◌, ◌++◌, length, Option, None, Some, slice_index_or, slice_set}
use Rattle.std.proofs.Common.{sym, ap, subst, ◌∙◌, inl, inr}
use Rattle.std.proofs.lemmas.Bool.{cases_eq}
use Rattle.tv_pool.specs.declared.handles.Region.{Region}
use Rattle.tv_pool.specs.Pool.{Begins, IsLive, number_of, region_at, regions_with}
use Rattle.tv_pool.specs.Pool as pool
use Rattle.tv_stream.specs.nodes.Calls.{KeepsRegions}
use Rattle.tv_outputs.specs.Known.{Nodes}
use Rattle.tv_frame.specs.Calls.{SameRegions}

module _ {A : Type 0} where
  pub set-none : (xs : List (Option A)) (n : ℕ) → slice_index_or (slice_set xs n None) n None ≡ None
  set-none [] n = refl
  set-none (x ∷ xs) zero = refl
  set-none (x ∷ xs) (suc n) = set-none xs n

  pub set-other : (xs : List (Option A)) (n k : ℕ) (y : Option A) → (k ≡ n → ⊥) → slice_index_or (slice_set xs n y) k None ≡ slice_index_or xs k None
  set-other [] n k y h = refl
  set-other (x ∷ xs) zero zero y h = absurd (h refl)
  set-other (x ∷ xs) zero (suc k) y h = refl
  set-other (x ∷ xs) (suc n) zero y h = refl
  set-other (x ∷ xs) (suc n) (suc k) y h = set-other xs n k y (λ e. h (ap suc e))

  push-other : (xs : List (Option A)) (y : Option A) (k : ℕ) → (k ≡ length xs → ⊥) → slice_index_or (xs ++ y ∷ []) k None ≡ slice_index_or xs k None
  push-other [] y zero h = absurd (h refl)
  push-other [] y (suc k) h = refl
  push-other (x ∷ xs) y zero h = refl
  push-other (x ∷ xs) y (suc k) h = push-other xs y k (λ e. h (ap suc e))

  push-last : (xs : List (Option A)) (y : Option A) → slice_index_or (xs ++ y ∷ []) (length xs) None ≡ y
  push-last [] y = refl
  push-last (x ∷ xs) y = push-last xs y

  pub past-end : (xs : List (Option A)) → slice_index_or xs (length xs) None ≡ None
  past-end [] = refl
  past-end (x ∷ xs) = past-end xs

-- what isn't of the region is as it was before that began
begun-others : (old mid : Nodes) (region : Region) → Begins old mid region → (k : ℕ) → (k ≡ number_of region → ⊥) → region_at mid k ≡ region_at old k
begun-others old mid region b k h =
    ap (λ rs. slice_index_or rs k None) b.regions ∙ push-other old.regions _ k (λ e. h (e ∙ sym b.number))

-- a region that has begun is live
pub begun-live : (old mid : Nodes) (region : Region) → Begins old mid region → IsLive mid region
begun-live old mid region b =
    subst (λ o. IsSomeAnd o (λ c. c.entry ≡ region.entry))
    (sym
    (ap (λ rs. slice_index_or rs (number_of region) None) b.regions
    ∙ ap (λ k. slice_index_or (old.regions ++ Some (record { entry = region.entry; stored = [] }) ∷ []) k None) b.number
    ∙ push-last old.regions (Some (record { entry = region.entry; stored = [] }))))
    refl

pub begun-keeps : (old mid after : Nodes) (region : Region) → Begins old mid region → pool.Keeps old mid → KeepsRegions mid after (number_of region) → KeepsRegions old after (number_of region)
begun-keeps old mid after region b live k = record {
  live = λ r h. k.live r (live.live r h);
  others = λ n h. k.others n h ∙ begun-others old mid region b n h;
}

-- where it is released, all is as it was
pub released-same : (old mid after new : Nodes) (region : Region) → Begins old mid region → KeepsRegions mid after (number_of region) → new.regions ≡ regions_with after (number_of region) None → SameRegions old new
released-same old mid after new region b k e n = by (cases_eq n (number_of region))
  where
    by : (n ≡ number_of region) ⊎ (n ≡ number_of region → ⊥) → region_at new n ≡ region_at old n
    by (inl is) =
        ap (λ rs. slice_index_or rs n None) e ∙ ap (λ m. slice_index_or (slice_set after.regions (number_of region) None) m None) is ∙ set-none after.regions (number_of region)
        ∙ sym (ap (λ m. slice_index_or old.regions m None) (is ∙ b.number) ∙ past-end old.regions)
    by (inr ne) = ap (λ rs. slice_index_or rs n None) e ∙ set-other after.regions (number_of region) n None ne ∙ k.others n ne ∙ begun-others old mid region b n ne
