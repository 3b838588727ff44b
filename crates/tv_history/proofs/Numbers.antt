-- Entries have numbers that were given by then: all of them, and one more.
use Rattle.std.specs.List.{list_all}
use Rattle.std.specs.Prelude.{List, [], filter_map, if◌then◌else◌, is_some, length, nat_lt, refl, suc, true, ℕ, ◌++◌, ◌+◌, ◌∷◌, ◌≡◌, ◌≤◌}
use Rattle.std.proofs.Common.{ap, arith, subst, ◌∙◌}
use Rattle.std.proofs.lemmas.Bool.{lt-ltb, ltb-true}
use Rattle.std.specs.Cmp.{first_so, second_so}
use Rattle.tv_value.specs.Values.{JobName}
use Rattle.tv_gate.specs.Outcomes.{Giving}
use Rattle.tv_model.proofs.Tests.{both_true}
use Rattle.tv_history.specs.Runs.{IsLegalRun, Run, all_have_numbers, has_numbers, instances_of, opened_by, opened_number}
use Rattle.tv_history.specs.declared.entry.Entry.{Entry}
use Rattle.tv_history.specs.declared.entry.Entry.TheVariants as entry

-- how many instances there are after an entry
abbrev pub count_after : ℕ → Entry → ℕ
count_after m e = if is_some (opened_number e) then suc m else m

-- as many instances are named as numbered
pub as-many_opened : (ns : List JobName) (es : List Entry)
    → length (filter_map (opened_by ns) es) ≡ length (filter_map opened_number es)
as-many_opened ns [] = refl
as-many_opened ns (entry.HandedOut k a t ∷ es) = as-many_opened ns es
as-many_opened ns (entry.Accepted k a t r ∷ es) = as-many_opened ns es
as-many_opened ns (entry.Bounced k ∷ es) = as-many_opened ns es
as-many_opened ns (entry.Closed i s q c ∷ es) = as-many_opened ns es
as-many_opened ns (entry.Passed i s q ∷ es) = as-many_opened ns es
as-many_opened ns (entry.Opened k i ∷ es) = ap suc (as-many_opened ns es)
as-many_opened ns (entry.Ended i ∷ es) = as-many_opened ns es
as-many_opened ns (entry.Recalled c ∷ es) = as-many_opened ns es

-- ---- each by itself

-- a number that was given stays one
raised : (i m k : ℕ) → m ≤ k → nat_lt i m ≡ true → nat_lt i k ≡ true
raised i m k l h = let below = ltb-true i m h in lt-ltb i k (omega arith)

pub numbers-more : (n m k l : ℕ) → n ≤ k → m ≤ l → (e : Entry) → has_numbers n m e ≡ true → has_numbers k l e ≡ true
numbers-more n m k l a b (entry.HandedOut j c t) h = raised j n k a h
numbers-more n m k l a b (entry.Accepted j c t r) h = raised j n k a h
numbers-more n m k l a b (entry.Bounced j) h = raised j n k a h
numbers-more n m k l a b (entry.Closed i s q c) h = raised i m l b h
numbers-more n m k l a b (entry.Passed i s q) h = raised i m l b h
numbers-more n m k l a b (entry.Opened j i) h = raised j n k a h
numbers-more n m k l a b (entry.Ended i) h = raised i m l b h
numbers-more n m k l a b (entry.Recalled c) h = refl

-- how many instances there are after these
abbrev pub count_after_all : ℕ → List Entry → ℕ
count_after_all m [] = m
count_after_all m (e ∷ es) = count_after_all (count_after m e) es

counted-one : (m : ℕ) (e : Entry) (es : List Entry)
    → count_after m e + length (filter_map opened_number es) ≡ m + length (filter_map opened_number (e ∷ es))
counted-one m (entry.HandedOut k a t) es = refl
counted-one m (entry.Accepted k a t r) es = refl
counted-one m (entry.Bounced k) es = refl
counted-one m (entry.Closed i s q c) es = refl
counted-one m (entry.Passed i s q) es = refl
counted-one m (entry.Opened k i) es = omega arith
counted-one m (entry.Ended i) es = refl
counted-one m (entry.Recalled c) es = refl

pub counted-all : (m : ℕ) (es : List Entry) → count_after_all m es ≡ m + length (filter_map opened_number es)
counted-all m [] = omega arith
counted-all m (e ∷ es) = counted-all (count_after m e) es ∙ counted-one m e es

after-more : (m : ℕ) (e : Entry) → m ≤ count_after m e
after-more m (entry.HandedOut k a t) = omega arith
after-more m (entry.Accepted k a t r) = omega arith
after-more m (entry.Bounced k) = omega arith
after-more m (entry.Closed i s q c) = omega arith
after-more m (entry.Passed i s q) = omega arith
after-more m (entry.Opened k i) = omega arith
after-more m (entry.Ended i) = omega arith
after-more m (entry.Recalled c) = omega arith

after-all_more : (m : ℕ) (es : List Entry) → m ≤ count_after_all m es
after-all_more m [] = omega arith
after-all_more m (e ∷ es) = let one = after-more m e in let all = after-all_more (count_after m e) es in omega (arith, one, all)

-- each has a number below those that there are in the end
numbers-below : (n m : ℕ) (es : List Entry) → all_have_numbers n m es ≡ true → list_all (has_numbers n (count_after_all m es)) es ≡ true
numbers-below n m [] h = refl
numbers-below n m (e ∷ es) h =
    let one = first_so (has_numbers n m e) (all_have_numbers n (count_after m e) es) h in
    let rest = second_so (has_numbers n m e) (all_have_numbers n (count_after m e) es) h in
    let wide : m ≤ count_after_all m (e ∷ es) = omega (arith, after-more m e, after-all_more (count_after m e) es) in
    both_true (has_numbers n (count_after_all m (e ∷ es)) e) (list_all (has_numbers n (count_after_all m (e ∷ es))) es)
    (numbers-more n m n (count_after_all m (e ∷ es)) (omega arith) wide e one)
    (numbers-below n (count_after m e) es rest)

-- ---- all of a run

abbrev pub instance_count : Run → ℕ
instance_count r = length (instances_of r.names r.entries)

pub instances-counted : (r : Run) → count_after_all 1 r.entries ≡ instance_count r
instances-counted r = omega (arith, counted-all 1 r.entries, as-many_opened r.names r.entries)

pub numbered : (gives : Giving) (r : Run) → IsLegalRun gives r → list_all (has_numbers (length r.names) (instance_count r)) r.entries ≡ true
numbered gives r l =
    subst (λ m. list_all (has_numbers (length r.names) m) r.entries ≡ true) (instances-counted r)
    (numbers-below (length r.names) 1 r.entries l.numbers)

-- ---- one entry more

-- where there are more names, and an entry more that has its numbers
pub numbers-appended : (n k m : ℕ) → n ≤ k → (es : List Entry) (e : Entry) → all_have_numbers n m es ≡ true
    → has_numbers k (count_after_all m es) e ≡ true → all_have_numbers k m (es ++ e ∷ []) ≡ true
numbers-appended n k m l [] e h w = both_true (has_numbers k m e) true w refl
numbers-appended n k m l (x ∷ es) e h w =
    let one = first_so (has_numbers n m x) (all_have_numbers n (count_after m x) es) h in
    let rest = second_so (has_numbers n m x) (all_have_numbers n (count_after m x) es) h in
    both_true (has_numbers k m x) (all_have_numbers k (count_after m x) (es ++ e ∷ []))
    (numbers-more n m k m l (omega arith) x one)
    (numbers-appended n k (count_after m x) l es e rest w)
