-- The regions of a pool by their numbers: after a call, a start and a release.
use Rattle.std.specs.Prelude.{IsSomeAnd, List, None, Option, Some, [], fold, length, refl, slice_index_or, suc, ℕ, ◌+◌, ◌∷◌, ◌≡◌, ◌≢◌}
use Rattle.std.proofs.Common.{ap, inl, inr, subst, sym, ◌∙◌}
use Rattle.std.proofs.lemmas.Bool.{cases_eq}
use Rattle.tv_pool.specs.Pool.{Contents, IsLive, live_count, number_of, region_at, regions_with, stored_in}
use Rattle.tv_pool.specs.declared.handles.Region.{Region}
use Rattle.tv_stream.specs.nodes.Calls.{KeepsRegions}
use Rattle.tv_outputs.specs.Known.{Nodes}
use Rattle.tv_frame.specs.Calls.{SameRegions}
use Rattle.tv_frame.proofs.Regions.{past-end, set-none, set-other}

-- ---- options

module _ {A : Type 0} where
  abbrev is_there : Option A → Type 0
  is_there None = ⊥
  is_there (Some x) = Unit {0}

  pub not-both : {x : A} (o : Option A) → o ≡ None → o ≡ Some x → ⊥
  not-both o n s = subst is_there (sym s ∙ n) tt

  pub empty : (o : Option A) → (o ≢ None → ⊥) → o ≡ None
  empty None h = refl
  empty (Some x) h = absurd (h (λ none. subst is_there none tt))

  some-there : (o : Option A) (P : A → Type 0) → IsSomeAnd o P → o ≡ None → ⊥
  some-there None P k e = k
  some-there (Some x) P k e = subst is_there e tt

-- ---- regions

-- what lives is there
pub live-there : (pool : Nodes) (r : Region) → IsLive pool r → region_at pool (number_of r) ≢ None
live-there pool r h none = some-there (region_at pool (number_of r)) (λ c. c.entry ≡ r.entry) h none

-- it lives on where its region is what it was
pub live-same : (pool after : Nodes) (r : Region) → region_at after (number_of r) ≡ region_at pool (number_of r)
    → IsLive pool r → IsLive after r
live-same pool after r same h = subst (λ o. IsSomeAnd o (λ c. c.entry ≡ r.entry)) (sym same) h

-- the next number is that of no live region
pub next-free : (pool : Nodes) → region_at pool (length pool.regions) ≡ None
next-free pool = past-end pool.regions

pub live-before : (pool : Nodes) (r : Region) → IsLive pool r → number_of r ≢ length pool.regions
live-before pool r h e = live-there pool r h (ap (region_at pool) e ∙ next-free pool)

-- ---- calls

pub rooms-same : (pool after : Nodes) → after.regions ≡ pool.regions → SameRegions pool after
rooms-same pool after e n = ap (λ rs. slice_index_or rs n None) e

pub released-none : (pool after : Nodes) (n : ℕ) → after.regions ≡ regions_with pool n None → region_at after n ≡ None
released-none pool after n e = ap (λ rs. slice_index_or rs n None) e ∙ set-none pool.regions n

pub released-other : (pool after : Nodes) (n k : ℕ) → after.regions ≡ regions_with pool n None → k ≢ n
    → region_at after k ≡ region_at pool k
released-other pool after n k e ne = ap (λ rs. slice_index_or rs k None) e ∙ set-other pool.regions n k None ne

pub given_up-same : (pool mid after : Nodes)
    → KeepsRegions pool mid (length pool.regions) → after.regions ≡ regions_with mid (length pool.regions) None
    → SameRegions pool after
given_up-same pool mid after k e n = elim (cases_eq n (length pool.regions)) [
  | inl is ↦ ap (region_at after) is ∙ released-none mid after (length pool.regions) e ∙ sym (ap (region_at pool) is ∙ next-free pool)
  | inr ne ↦ released-other mid after (length pool.regions) n e ne ∙ k.others n ne
]

-- ---- how many live

module _ {T : Type 0} where
  pub none-counted : (rs : List (Option (Contents T))) → ((n : ℕ) → slice_index_or rs n None ≡ None) → live_count rs ≡ 0
  none-counted [] h = refl
  none-counted (r ∷ rs) h =
      let here : length (stored_in r) ≡ 0 = ap (λ c. length (stored_in c)) (h 0) in
      ap (λ k. fold (λ a c. a + length (stored_in c)) (0 + k) rs) here ∙ none-counted rs (λ n. h (suc n))
