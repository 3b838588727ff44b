-- A region that is new and is released again.
use Rattle.std.specs.Prelude.{◌≡◌, ◌⊎◌, ℕ, None, length, slice_index_or, slice_set}
use Rattle.std.proofs.Common.{sym, ap, ◌∙◌, inl, inr}
use Rattle.std.proofs.lemmas.Bool.{cases_eq}
use Rattle.tv_pool.specs.Pool.{region_at, regions_with}
use Rattle.tv_stream.specs.nodes.Calls.{KeepsRegions}
use Rattle.tv_outputs.specs.Known.{Nodes}
use Rattle.tv_frame.specs.Calls.{SameRegions}
use Rattle.tv_frame.proofs.Regions.{past-end, set-none, set-other}

-- where it is released, all is as it was
pub given-up : (old mid new : Nodes) (number : ℕ) → number ≡ length old.regions → KeepsRegions old mid number
    → new.regions ≡ regions_with mid number None → SameRegions old new
given-up old mid new number is k e n = by (cases_eq n number)
  where
    by : (n ≡ number) ⊎ (n ≡ number → ⊥) → region_at new n ≡ region_at old n
    by (inl same) =
        ap (λ rs. slice_index_or rs n None) e
        ∙ ap (λ m. slice_index_or (slice_set mid.regions number None) m None) same
        ∙ set-none mid.regions number
        ∙ sym (ap (λ m. slice_index_or old.regions m None) (same ∙ is) ∙ past-end old.regions)
    by (inr ne) =
        ap (λ rs. slice_index_or rs n None) e ∙ set-other mid.regions number n None ne ∙ k.others n ne
