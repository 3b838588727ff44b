-- A legal run with one entry more, and perhaps more names, is one, whatever the entry.
use Rattle.std.specs.List.{list_all, list_any, range_with_len}
use Rattle.std.specs.Prelude.{List, Some, [], filter_map, length, refl, suc, true, zero, ℕ, ◌++◌, ◌+◌, ◌∷◌, ◌≡◌, ◌≤◌, ◌⊎◌}
use Rattle.std.proofs.Common.{ap, arith, inl, inr, subst, sym, ◌∙◌}
use Rattle.std.proofs.lemmas.List.{length-append, append-nil}
use Rattle.std.proofs.lemmas.List.Elements.{filter_map-append}
use Rattle.tv_value.specs.Orders.{same_job}
use Rattle.tv_value.specs.Values.{JobName}
use Rattle.tv_gate.specs.Outcomes.{Giving}
use Rattle.tv_flow.specs.Flows.{Document}
use Rattle.tv_model.specs.Jobs.{Job}
use Rattle.tv_model.specs.Meanings.{meaning}
use Rattle.tv_model.proofs.Tests.{both_true}
use Rattle.tv_history.specs.Entries as history
use Rattle.tv_history.specs.Entries.{History}
use Rattle.tv_history.specs.Histories.{is_legal, is_legal_after}
use Rattle.tv_history.specs.activities.Agreed.{ready}
use Rattle.tv_history.specs.Runs.{Appends, IsLegalRun, Run, all_distinct, all_have_numbers, has_numbers, has_job_name, meant, opened_number, past_of}
use Rattle.tv_history.specs.declared.entry.Entry.{Entry}
use Rattle.tv_history.specs.declared.entry.Entry.TheVariants as entry
use Rattle.tv_history.proofs.Numbers.{as-many_opened, instance_count, instances-counted, numbers-appended, numbers-more}
use Rattle.tv_history.proofs.ToldLemmas.{IsTold, past-told}

-- after a history these are distinct names of jobs, and those of all ready ones are among them
pub record HasNames (gives : Giving) (d : Document) (past : History) (ns : List JobName) : Type 0 where
  pub distinct : all_distinct ns ≡ true
  pub jobs : list_all (λ n. list_any (λ (j : Job). same_job n j.name) (meaning gives d).jobs) ns ≡ true
  pub numbered : list_all (has_job_name ns) (ready (meaning gives d) past) ≡ true

-- ---- instances by number

abbrev InOrder : List ℕ → Type 0
InOrder ks = ks ≡ range_with_len 1 (length ks)

range-last : (a n : ℕ) → range_with_len a (suc n) ≡ range_with_len a n ++ (a + n) ∷ []
range-last a zero = let one : a ≡ a + 0 = omega arith in ap (λ k. k ∷ []) one
range-last a (suc n) =
    let next : (a + 1) + n ≡ a + suc n = omega arith in
    ap (λ ks. a ∷ ks) (range-last (a + 1) n ∙ ap (λ k. range_with_len (a + 1) n ++ k ∷ []) next)

in-order_more : (ks : List ℕ) (k : ℕ) → InOrder ks → k ≡ suc (length ks) → InOrder (ks ++ k ∷ [])
in-order_more ks k h e =
    let next : k ≡ 1 + length ks = omega (arith, e) in
    let longer : suc (length ks) ≡ length (ks ++ k ∷ []) = omega (arith, length-append ks (k ∷ [])) in
    ap (λ xs. xs ++ k ∷ []) h
    ∙ ap (λ m. range_with_len 1 (length ks) ++ m ∷ []) next
    ∙ sym (range-last 1 (length ks))
    ∙ ap (range_with_len 1) longer

-- an entry opens none, or the one of the next number
opens-next : (e : Entry) (m : ℕ) → ((i : ℕ) → opened_number e ≡ Some i → i ≡ m)
    → (filter_map opened_number (e ∷ []) ≡ []) ⊎ (filter_map opened_number (e ∷ []) ≡ m ∷ [])
opens-next (entry.Opened k i) m h = inr (ap (λ j. j ∷ []) (h i refl))
opens-next e m h = inl refl

instances-in_order : (es : List Entry) (e : Entry) → InOrder (filter_map opened_number es)
    → ((i : ℕ) → opened_number e ≡ Some i → i ≡ suc (length (filter_map opened_number es)))
    → InOrder (filter_map opened_number (es ++ e ∷ []))
instances-in_order es e h next =
    subst InOrder (sym (filter_map-append opened_number es (e ∷ [])))
    (by (opens-next e (suc (length (filter_map opened_number es))) next))
  where
    by : (filter_map opened_number (e ∷ []) ≡ []) ⊎ (filter_map opened_number (e ∷ []) ≡ suc (length (filter_map opened_number es)) ∷ [])
        → InOrder (filter_map opened_number es ++ filter_map opened_number (e ∷ []))
    by (inl none) =
        subst InOrder (sym (ap (λ ks. filter_map opened_number es ++ ks) none ∙ append-nil (filter_map opened_number es))) h
    by (inr one) =
        subst InOrder (sym (ap (λ ks. filter_map opened_number es ++ ks) one))
        (in-order_more (filter_map opened_number es) (suc (length (filter_map opened_number es))) h refl)

-- ---- the run

module _ (gives : Giving) (r s : Run) (e : Entry) (h : history.Entry) (l : IsLegalRun gives r) (a : Appends r s e) (t : IsTold r e h) where
  more-numbers : all_have_numbers (length s.names) 1 s.entries ≡ true
  more-numbers =
      let wider : length r.names ≤ length s.names = omega (arith, ap length a.names, length-append r.names a.more) in
      let counted = instances-counted r in
      let now =
      numbers-more (length r.names) (instance_count r) (length s.names) (instance_count r) wider (omega arith) e t.given in
      ap (all_have_numbers (length s.names) 1) a.entries
      ∙ numbers-appended (length r.names) (length s.names) 1 wider r.entries e l.numbers
      (subst (λ m. has_numbers (length s.names) m e ≡ true) (sym counted) now)

  -- the entry is legal next, and an instance that it opens has the next number
  pub legal-more :
      is_legal_after gives (meant gives r) (past_of r) h ≡ true
      → ((i : ℕ) → opened_number e ≡ Some i → i ≡ instance_count r)
      → HasNames gives r.document (h ∷ past_of r) s.names
      → IsLegalRun gives s
  legal-more legal next names =
      let past : past_of s ≡ h ∷ past_of r = past-told gives r s l e h a t in
      record {
        legal = (λ i. is_legal gives (meaning gives (a.document i)) (past i)) ∙ both_true (is_legal gives (meant gives r) (past_of r)) (is_legal_after gives (meant gives r) (past_of r) h) l.legal legal;
        distinct = names.distinct;
        jobs = (λ i. list_all (λ n. list_any (λ (j : Job). same_job n j.name) (meaning gives (a.document i)).jobs) s.names) ∙ names.jobs;
        numbered = (λ i. list_all (has_job_name s.names) (ready (meaning gives (a.document i)) (past i))) ∙ names.numbered;
        instances = subst (λ es. InOrder (filter_map opened_number es)) (sym a.entries) (instances-in_order r.entries e l.instances (λ i o. next i o ∙ ap suc (as-many_opened r.names r.entries)));
        numbers = more-numbers;
      }
