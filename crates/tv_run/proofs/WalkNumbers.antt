-- The number in the run of a job of an instance, as the code has it.
use Rattle.std.specs.Prelude.{◌≡◌, ℕ, ◌<◌, true, List, Some, is_some, length, slice_get}
use Rattle.std.proofs.Common.{ap, get_or, subst, sym, ◌∙◌}
use Rattle.std.proofs.lemmas.Option.{get_or_from_slice_get}
use Rattle.tv_lemmas.proofs.Lists.{get-within}
use Rattle.tv_instances.specs.Forest.{Instance, Instances, IsAt}
use Rattle.tv_run.specs.Standing.{Fits, numbers_of}
use Rattle.tv_run.specs.declared.instances.Instance as code
use Rattle.tv_run.specs.declared.run.OpenRun.{OpenRun}
use Rattle.tv_run.proofs.JobLemmas.{instance-there}

-- what an index finds is what is there
at-index : {A : Type 0} (as' : List A) (n : ℕ) (a b : A) → b ≡ get_or as' n b → slice_get as' n ≡ Some a → b ≡ a
at-index as' n a b e h = e ∙ get_or_from_slice_get as' n a b h

module _ (r : OpenRun) (xs : Instances) (fits : Fits r xs) (i n : ℕ) (x : Instance) (at : IsAt xs i x) (e : code.Instance)
    (found : e ≡ get_or r.instances.items i e) where
  itself-is : e ≡ (instance-there r xs fits i x at).0
  itself-is =
      let c = instance-there r xs fits i x at in
      at-index r.instances.items i c.0 e found c.1

  pub jobs-low : is_some x.view ≡ true → n < length x.seats → n < length e.jobs.items
  jobs-low now low =
      let c = instance-there r xs fits i x at in
      subst (λ (q : code.Instance). n < length q.jobs.items) (sym itself-is) (subst (λ l. n < l) (sym (c.2.as_many now)) low)

  pub number-is : n < length e.jobs.items → (k : ℕ) → k ≡ get_or e.jobs.items n k → slice_get (numbers_of r) k ≡ Some (i, n)
  number-is low k is =
      let c = instance-there r xs fits i x at in
      let l = get-within e.jobs.items n low in
      let same = at-index e.jobs.items n l.0 k is l.1 in
      c.2.numbered n k
      (ap (λ (q : code.Instance). slice_get q.jobs.items n) (sym itself-is) ∙ l.1 ∙ ap Some (sym same))
