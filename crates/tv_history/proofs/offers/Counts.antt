-- Jobs counted by their names.
use Rattle.std.specs.Prelude.{◌≡◌, ◌&&◌, Bool, true, false, List, [], ◌∷◌, count_by, refl}
use Rattle.std.proofs.Common.{arith, ap, sym, ◌∙◌, inl, inr}
use Rattle.std.specs.Cmp.{second_so}
use Rattle.tv_lemmas.specs.Members.{In}
use Rattle.tv_lemmas.proofs.Cases.{on_test}
use Rattle.tv_value.specs.Orders.{same_job}
use Rattle.tv_value.specs.Values.{JobName}
use Rattle.tv_value.proofs.JobNameLemmas.{same_job_decides}
use Rattle.tv_gate.specs.Outcomes.{Giving}
use Rattle.tv_flow.specs.Flows.{Document}
use Rattle.tv_model.specs.Jobs.{Job}
use Rattle.tv_model.specs.Meanings.{meaning}
use Rattle.tv_model.proofs.Tests.{both_true}
use Rattle.tv_history.proofs.Counts.{bit, count-total, tally, total-same}
use Rattle.tv_history.proofs.Ready.{document-whole}
use Rattle.tv_model.specs.JobOrder.{Apart}
use Rattle.tv_history.proofs.Tallies.{tally-none, total-swap}
use Rattle.tv_history.proofs.offers.Runs.{jobs-of}

fails : {A : Type 0} (q : A → Bool) (x y : A) → (q y ≡ true → y ≡ x) → (y ≡ x → ⊥) → q y ≡ false
fails q x y h ne = on_test (q y) (λ e. absurd (ne (h e))) (λ e. e)

-- at most the one passes
tally-one : {A K : Type 0} (key : A → K) (q : A → Bool) (x : A) (xs : List A) → Apart key xs → In x xs → ((y : A) → In y xs → q y ≡ true → y ≡ x) → tally q xs ≡ bit (q x)
tally-one key q x [] a i h = absurd i
tally-one key q x (z ∷ zs) a (inl e) h =
    let none = tally-none q zs (λ y k. fails q x y (h y (inr k)) (λ s. a.0 y k (ap key (s ∙ e)))) in
    let here : bit (q z) ≡ bit (q x) = ap (λ z. bit (q z)) (sym e) in
    omega (arith, none, here)
tally-one key q x (z ∷ zs) a (inr i) h =
    let here : bit (q z) ≡ 0 = ap bit (fails q x z (h z (inl refl)) (λ s. a.0 x i (ap key (sym s)))) in
    let rest = tally-one key q x zs a.1 i (λ y k. h y (inr k)) in
    omega (arith, here, rest)

module _ (gives : Giving) (d : Document) (counts : Job → Bool) (counts_name : JobName → Bool) (names : List JobName)
    (apart : Apart (λ n. n) names)
    (each : (n : JobName) → In n names → (j : Job) × In j (meaning gives d).jobs × (j.name ≡ n))
    (all : (j : Job) → In j (meaning gives d).jobs → counts j ≡ true → In j.name names)
    (same : (j : Job) → In j (meaning gives d).jobs → counts_name j.name ≡ counts j) where
  abbrev meet : Job → JobName → Bool
  meet j n = counts j && same_job j.name n

  row : (j : Job) → In j (meaning gives d).jobs → bit (counts j) ≡ tally (λ n. meet j n) names
  row j i = on_test (counts j) (λ e. one e) (λ e. none e)
    where
      one : counts j ≡ true → bit (counts j) ≡ tally (λ n. meet j n) names
      one e =
          let itself : same_job j.name j.name ≡ true = (same_job_decides j.name j.name).1 refl in
          let met : meet j j.name ≡ true = both_true (counts j) (same_job j.name j.name) e itself in
          ap bit (e ∙ sym met)
          ∙ sym (tally-one (λ n. n) (λ n. meet j n) j.name names apart (all j i e) (λ n k h. sym ((same_job_decides j.name n).0 (second_so (counts j) (same_job j.name n) h))))

      none : counts j ≡ false → bit (counts j) ≡ tally (λ n. meet j n) names
      none e = ap bit e ∙ sym (tally-none (λ n. meet j n) names (λ n k. ap (λ b. b && same_job j.name n) e))

  column : (n : JobName) → In n names → tally (λ j. meet j n) (meaning gives d).jobs ≡ bit (counts_name n)
  column n k =
      let j = each n k in
      let is : same_job j.0.name n ≡ true = (same_job_decides j.0.name n).1 j.2 in
      tally-one (λ (j : Job). j.name) (λ j. meet j n) j.0 (meaning gives d).jobs (document-whole gives d).jobs_apart j.1
      (λ y h e. (jobs-of gives d).once y j.0 h j.1 ((same_job_decides y.name n).0 (second_so (counts y) (same_job y.name n) e) ∙ sym j.2))
      ∙ ap bit (ap (λ b. counts j.0 && b) is ∙ and-true (counts j.0) ∙ sym (same j.0 j.1) ∙ ap counts_name j.2)
    where
      and-true : (b : Bool) → (b && true) ≡ b
      and-true true = refl
      and-true false = refl

  pub counted : count_by counts (meaning gives d).jobs ≡ count_by counts_name names
  counted =
      count-total counts (meaning gives d).jobs
      ∙ total-same (λ j. bit (counts j)) (λ j. tally (λ n. meet j n) names) (meaning gives d).jobs row
      ∙ total-swap meet (meaning gives d).jobs names
      ∙ total-same (λ n. tally (λ j. meet j n) (meaning gives d).jobs) (λ n. bit (counts_name n)) names column
      ∙ sym (count-total counts_name names)
