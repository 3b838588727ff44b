-- All jobs of each instance may be held.
use Rattle.std.specs.Prelude.{refl, List, [], ◌∷◌, Bool, true, false, cond, filter}
use Rattle.std.proofs.Common.{inl, inr}
use Rattle.tv_lemmas.proofs.Members.{in-filter, in_each, of-filter, each-filter}
use Rattle.tv_value.specs.Orders.{same_job}
use Rattle.tv_value.proofs.JobNameLemmas.{same_job_decides}
use Rattle.tv_model.specs.Jobs.{Job}
use Rattle.tv_model.specs.Made.{Meaning}
use Rattle.tv_history.specs.Entries.{History}
use Rattle.tv_history.proofs.OneWorker.{Before}
use Rattle.tv_history.specs.order.FirstIn.{AreHeld, own_jobs}
use Rattle.tv_model.specs.JobOrder.{AllPairs}
use Rattle.tv_history.proofs.OrderLemmas.{pairs-map}

pairs-self : {A : Type 0} (xs : List A) → AllPairs (λ x y. Before x y xs) xs
pairs-self [] = tt
pairs-self {A = A} (x ∷ xs) = (in_each (λ y. Before x y (x ∷ xs)) xs (λ y h. inl (refl, h)), pairs-map (λ y z. Before y z xs) (λ y z. Before y z (x ∷ xs)) (λ y z h. inr h) xs (pairs-self xs))

pairs-filter : {A : Type 0} (R : A → A → Type 0) (p : A → Bool) (xs : List A) → AllPairs R xs → AllPairs R (filter p xs)
pairs-filter R p [] h = tt
pairs-filter {A = A} R p (x ∷ xs) h = by (p x) (pairs-filter R p xs h.1)
  where
    by : (b : Bool) → AllPairs R (filter p xs) → AllPairs R (cond b (x ∷ filter p xs) (filter p xs))
    by true k = (each-filter (R x) p xs h.0, k)
    by false k = k

pub own-held : (m : Meaning) (past : History) (passes : Job → Bool) → AreHeld m past (own_jobs m) passes
own-held m past passes I o = record {
  of_instance = λ j h. let r = of-filter (λ (j : Job). same_job j.instance I) j m.jobs h in (r.0, (same_job_decides j.instance I).0 r.1);
  in_order = pairs-filter (λ j k. Before j k m.jobs) (λ (j : Job). same_job j.instance I) m.jobs (pairs-self m.jobs);
  all_there = λ j h e g. in-filter (λ (j : Job). same_job j.instance I) j m.jobs h ((same_job_decides j.instance I).1 e);
}
