-- What is out on a board, and how far its run is, after one entry more.
use Rattle.std.specs.List.{list_all}
use Rattle.std.specs.Option.{option_map_or}
use Rattle.std.specs.Prelude.{Bool, List, [], count_by, cond, false, if◌then◌else◌, length, map, nat_lt, refl, reverse, suc, true, zero, ℕ, ◌&&◌, ◌++◌, ◌+◌, ◌<◌, ◌∷◌, ◌≡◌, ◌≤◌}
use Rattle.std.proofs.Common.{ap, arith, subst, sym, ◌∙◌}
use Rattle.std.proofs.lemmas.Bool.{lt-ltb}
use Rattle.std.proofs.lemmas.List.{append_assoc}
use Rattle.std.proofs.lemmas.List.Sums.{sum_by_push, sum_by-append}
use Rattle.std.specs.Cmp.{first_so, second_so}
use Rattle.tv_lemmas.specs.Members.{In}
use Rattle.tv_lemmas.proofs.Members.{some_in}
use Rattle.tv_history.proofs.OneMore.{before, named, newest, past-mapped}
use Rattle.tv_history.proofs.Pasts.{name-more}
use Rattle.tv_history.proofs.Totals.{count-told}
use Rattle.tv_value.specs.Orders.{same_job}
use Rattle.tv_value.specs.Values.{JobName, Name}
use Rattle.tv_value.proofs.JobNameLemmas.{same_job_decides}
use Rattle.tv_gate.specs.Outcomes.{Giving}
use Rattle.tv_flow.specs.Flows.{Document}
use Rattle.tv_flow.specs.Formed.{is_formed}
use Rattle.tv_model.specs.Jobs.{Job}
use Rattle.tv_model.specs.Meanings.{meaning}
use Rattle.tv_model.proofs.Tests.{both_true, true≠false}
use Rattle.tv_model.proofs.Whole.{AnyNumber}
use Rattle.tv_history.specs.Alone.{IsFirstPart}
use Rattle.tv_history.specs.Entries as history
use Rattle.tv_history.specs.Entries.{History, is_out}
use Rattle.tv_history.specs.Histories.{is_ask, is_at, is_legal, is_legal_after, is_offered, next_ask, same_bool}
use Rattle.tv_dispatch.specs.Plans.{came_right}
use Rattle.tv_history.proofs.Ready.{are-jobs, document-whole}
use Rattle.tv_history.proofs.Running.{AreJobs}
use Rattle.tv_history.proofs.Tests.{found_in}
use Rattle.tv_history.specs.Runs.{Appends, IsLegalRun, Run, instances_of, meant, name_at, past_of, with_names}
use Rattle.tv_history.specs.Calls.{Settles, out_now, settles}
use Rattle.tv_history.specs.declared.entry.Entry.{Entry}
use Rattle.tv_history.specs.declared.entry.Entry.TheVariants as entry
use Rattle.tv_history.specs.Going.{is_progress}
use Rattle.tv_work.specs.Working.{GoesOn, IsFree, goes, progress}

pub progress-past : (r : Run) → count_by is_progress (past_of r) ≡ progress r
progress-past = count-told is_progress goes same
  where
    same : (d : Document) (ns is : List JobName) (e : Entry) → is_progress (with_names d ns is e) ≡ goes e
    same d ns is (entry.Accepted k a t r) = refl
    same d ns is e = refl

-- ---- numbers of jobs

abbrev is_empty : JobName → Bool
is_empty [] = true
is_empty (k ∷ n) = false

name-below : (ns : List JobName) (k : ℕ) (x : Name × List ℕ) (n : JobName) → name_at ns k ≡ x ∷ n → k < length ns
name-below [] k x n e = absurd (true≠false (ap is_empty e))
name-below (m ∷ ns) zero x n e = omega arith
name-below (m ∷ ns) (suc k) x n e = let h = name-below ns k x n e in omega arith

pub name-number : (ns : List JobName) (k : ℕ) (x : Name × List ℕ) (n : JobName) → name_at ns k ≡ x ∷ n → nat_lt k (length ns) ≡ true
name-number ns k x n e = lt-ltb k (length ns) (name-below ns k x n e)

-- the job of a try that is handed out or accepted has a number
abbrev pub has_number : ℕ → Entry → Bool
has_number n (entry.HandedOut k a t) = nat_lt k n
has_number n (entry.Accepted k a t r) = nat_lt k n
has_number n e = true

-- what was told with these names is told with more names as well
pub out-kept : (d : Document) (ns more is js : List JobName) (es : List Entry) → list_all (has_number (length ns)) es ≡ true → (n : JobName) → is_out (map (with_names d (ns ++ more) js) es) n ≡ is_out (map (with_names d ns is) es) n
out-kept d ns more is js [] h n = refl
out-kept d ns more is js (e ∷ es) h n =
    by e (first_so (has_number (length ns) e) (list_all (has_number (length ns)) es) h) (out-kept d ns more is js es (second_so (has_number (length ns) e) (list_all (has_number (length ns)) es) h) n)
  where
    by : (e : Entry) → has_number (length ns) e ≡ true → is_out (map (with_names d (ns ++ more) js) es) n ≡ is_out (map (with_names d ns is) es) n → is_out (map (with_names d (ns ++ more) js) (e ∷ es)) n ≡ is_out (map (with_names d ns is) (e ∷ es)) n
    by (entry.HandedOut k a t) w p = λ i. if same_job n (name-more ns more k w i) then true else p i
    by (entry.Accepted k a t r) w p = λ i. if same_job n (name-more ns more k w i) then false else p i
    by (entry.Recalled c) w p = refl
    by e w p = p

-- what is out depends on what was out before
out-tail : (e : history.Entry) (past other : History) (n : JobName) → is_out past n ≡ is_out other n → is_out (e ∷ past) n ≡ is_out (e ∷ other) n
out-tail (history.handed_out m a t) past other n p = λ i. if same_job n m then true else p i
out-tail (history.accepted m a t r) past other n p = λ i. if same_job n m then false else p i
out-tail (history.recalled k) past other n p = refl
out-tail e past other n p = p

pub jobs-of : (gives : Giving) (d : Document) → AreJobs gives (meaning gives d)
jobs-of gives d = are-jobs gives AnyNumber (meaning gives d) [] (document-whole gives d)

module _ (gives : Giving) (d : Document) where
  -- who has the name of a job has a number
  job-number : (ns : List JobName) (k : ℕ) (j : Job) → In j (meaning gives d).jobs → same_job (name_at ns k) j.name ≡ true → nat_lt k (length ns) ≡ true
  job-number ns k j i h =
      let r = (jobs-of gives d).has_name j i in
      name-number ns k r.0 r.1 ((same_job_decides (name_at ns k) j.name).0 h ∙ r.2)

  -- the tries of legal entries are of jobs
  number-of : (ns is : List JobName) (past : History) (e : Entry) → is_legal_after gives (meaning gives d) past (with_names d ns is e) ≡ true → has_number (length ns) e ≡ true
  number-of ns is past (entry.HandedOut k a t) h =
      let r = found_in (λ j. is_at j (name_at ns k) && option_map_or (is_ask a t) (next_ask past j) false) (is_offered (meaning gives d) past) (meaning gives d).jobs h in
      job-number ns k r.0 r.1 (first_so (is_at r.0 (name_at ns k)) _ r.3)
  number-of ns is past (entry.Accepted k a t s) h =
      let r = some_in (λ x. is_at x (name_at ns k) && option_map_or (λ y. is_ask a t y && same_bool s (came_right gives y)) (next_ask past x) false) (meaning gives d).jobs (second_so (is_out past (name_at ns k)) _ h) in
      job-number ns k r.0 r.1 (first_so (is_at r.0 (name_at ns k)) _ r.2)
  number-of ns is past e h = refl

  pub have-numbers : (ns is : List JobName) (es : List Entry) → is_legal gives (meaning gives d) (map (with_names d ns is) es) ≡ true → list_all (has_number (length ns)) es ≡ true
  have-numbers ns is [] l = refl
  have-numbers ns is (e ∷ es) l =
      both_true (has_number (length ns) e) (list_all (has_number (length ns)) es)
      (number-of ns is (map (with_names d ns is) es) e (second_so (is_legal gives (meaning gives d) (map (with_names d ns is) es)) _ l))
      (have-numbers ns is es (first_so _ (is_legal_after gives (meaning gives d) (map (with_names d ns is) es) (with_names d ns is e)) l))

-- ---- one entry more

module _ (gives : Giving) (r s : Run) (l : IsLegalRun gives r) where
  pub numbers-before : list_all (has_number (length r.names)) (reverse r.entries) ≡ true
  numbers-before = have-numbers gives r.document r.names (instances_of r.names r.entries) (reverse r.entries) (subst (λ p. is_legal gives (meant gives r) p ≡ true) (past-mapped r) l.legal)

  pub out-before : (e : Entry) → Appends r s e → (n : JobName) → is_out (before r s) n ≡ is_out (past_of r) n
  out-before e a n =
      (λ i. is_out (map (with_names (a.document i) (a.names i) (instances_of s.names s.entries)) (reverse r.entries)) n)
      ∙ out-kept r.document r.names a.more (instances_of r.names r.entries) (instances_of s.names s.entries) (reverse r.entries) numbers-before n
      ∙ ap (λ p. is_out p n) (sym (past-mapped r))

  -- what is out after it
  pub out-after : (e : Entry) → Appends r s e → (n : JobName) → is_out (past_of s) n ≡ is_out (named s e ∷ past_of r) n
  out-after e a n = ap (λ p. is_out p n) (newest r s e a) ∙ out-tail (named s e) (before r s) (past_of r) n (out-before e a n)

  -- nothing is handed out or accepted by settling
  settled-out : (e : Entry) → settles e ≡ true → (n : JobName) → is_out (named s e ∷ past_of r) n ≡ is_out (past_of r) n
  settled-out (entry.HandedOut k a t) h n = absurd (true≠false (sym h))
  settled-out (entry.Accepted k a t b) h n = absurd (true≠false (sym h))
  settled-out (entry.Recalled c) h n = absurd (true≠false (sym h))
  settled-out e h n = refl

  pub settled-count : Settles r s → out_now gives s ≡ out_now gives r
  settled-count h =
      let e = h.0 in let a = h.1 in
      λ i. count_by (λ (j : Job). (out-after e a j.name ∙ settled-out e h.2 j.name) i) (meaning gives (a.document i)).jobs

settled-goes : (e : Entry) → settles e ≡ true → goes e ≡ true
settled-goes (entry.HandedOut k a t) h = absurd (true≠false (sym h))
settled-goes (entry.Accepted k a t b) h = absurd (true≠false (sym h))
settled-goes (entry.Recalled c) h = absurd (true≠false (sym h))
settled-goes e h = refl

pub progress-after : (r s : Run) (e : Entry) → Appends r s e → progress s ≡ progress r + cond (goes e) 1 0
progress-after r s e a = ap (count_by goes) a.entries ∙ sum_by_push (λ x. cond (goes x) 1 0) r.entries e

pub settled-progress : (r s : Run) → Settles r s → progress r < progress s
settled-progress r s h = omega (arith, progress-after r s h.0 h.1 ∙ ap (λ b. progress r + cond b 1 0) (settled-goes h.0 h.2))

-- ---- going on

pub goes_on-none : (r : Run) → GoesOn r r
goes_on-none r = record { document = refl; names = ([], sym (nothing r.names)); entries = ([], sym (nothing r.entries)) }
  where
    nothing : {A : Type 0} (xs : List A) → xs ++ [] ≡ xs
    nothing [] = refl
    nothing (x ∷ xs) = ap (λ ys. x ∷ ys) (nothing xs)

pub goes_on-one : (r s : Run) (e : Entry) → Appends r s e → GoesOn r s
goes_on-one r s e a = record { document = a.document; names = (a.more, a.names); entries = (e ∷ [], a.entries) }

parts : {A : Type 0} (xs ys zs : List A) → IsFirstPart xs ys → IsFirstPart ys zs → IsFirstPart xs zs
parts xs ys zs p q = (p.0 ++ q.0, q.1 ∙ ap (λ us. us ++ q.0) p.1 ∙ append_assoc xs p.0 q.0)

pub goes_on-then : (r s t : Run) → GoesOn r s → GoesOn s t → GoesOn r t
goes_on-then r s t p q = record {
  document = q.document ∙ p.document;
  names = parts r.names s.names t.names p.names q.names;
  entries = parts r.entries s.entries t.entries p.entries q.entries;
}

pub progress-grows : (r s : Run) → GoesOn r s → progress r ≤ progress s
progress-grows r s g = omega (arith, ap (count_by goes) g.entries.1 ∙ sum_by-append (λ x. cond (goes x) 1 0) r.entries g.entries.0)

-- a run of which nothing is out, after settling
pub free-after : (gives : Giving) (r s : Run) → IsFree gives r → Settles r s → IsLegalRun gives s → IsFree gives s
free-after gives r s f h l = record {
  formed = subst (λ d. is_formed d ≡ true) (sym h.1.document) f.formed;
  legal = l;
  none_out = settled-count gives r s f.legal h ∙ f.none_out;
}
