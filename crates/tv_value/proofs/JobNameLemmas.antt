-- The tests of keys and of the names of jobs decide.
use Rattle.std.specs.Prelude.{◌≡◌, ℕ, List, true, ◌&&◌}
use Rattle.std.specs.Cmp.Lexicographic.{pointwise_decides, bytes_decides}
use Rattle.std.proofs.Common.{ap}
use Rattle.std.proofs.lemmas.Bool.{and_from, and_parts}
use Rattle.tv_value.specs.Orders.{same_job, same_name}
use Rattle.tv_value.specs.Values.{JobName, Name}

pub same_key : (a b : Name × List ℕ) → ((same_name a.0 b.0 && same_name a.1 b.1) ≡ true → a ≡ b) × (a ≡ b → (same_name a.0 b.0 && same_name a.1 b.1) ≡ true)
same_key a b = (
  λ h. let r = and_parts (same_name a.0 b.0) (same_name a.1 b.1) h in λ i. ((bytes_decides a.0 b.0).0 r.0 i, (bytes_decides a.1 b.1).0 r.1 i),
  λ e. and_from (same_name a.0 b.0) _ ((bytes_decides a.0 b.0).1 (ap (λ k. k.0) e)) ((bytes_decides a.1 b.1).1 (ap (λ k. k.1) e)),
)

pub same_job_decides : (m n : JobName) → (same_job m n ≡ true → m ≡ n) × (m ≡ n → same_job m n ≡ true)
same_job_decides m n = pointwise_decides same_key m n
