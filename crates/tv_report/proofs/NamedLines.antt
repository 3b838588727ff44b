-- The lines by numbers are those by names, on a board.
use Rattle.std.specs.Prelude.{◌≡◌, ℕ, zero, suc, ◌<◌, true, false, not, ◌&&◌, List, [], ◌∷◌, ◌++◌, Option, None, Some, filter_map, flat_map, map, reverse, is_some, if◌then◌else◌, nat_eq, nat_lt, length, refl}
use Rattle.std.specs.List.{cons_option, list_all}
use Rattle.std.specs.Option.{option_map_or}
use Rattle.std.proofs.Common.{ap, sym, ◌∙◌, append_assoc}
use Rattle.std.proofs.lemmas.Bool.{and_parts, ltb-true, not-true, or_parts}
use Rattle.std.proofs.lemmas.List.{append-nil, map-append, reverse-append}
use Rattle.std.proofs.lemmas.List.Folds.{flat_map-map}
use Rattle.std.proofs.Math.Dec.{eqb-suc-zero, eqb-zero-suc, eqb-suc-suc}
use Rattle.tv_lemmas.proofs.Numbers.{none-below, less-back}
use Rattle.tv_value.specs.Orders.{same_job}
use Rattle.tv_value.specs.Values.{JobName}
use Rattle.tv_gate.specs.Outcomes.{Giving}
use Rattle.tv_flow.specs.Flows.{Document}
use Rattle.tv_history.specs.Entries as history
use Rattle.tv_history.specs.Tries.{NamedTry, all_tries, entry_try}
use Rattle.tv_history.proofs.Tests.{same-itself}
use Rattle.tv_history.specs.Runs.{IsLegalRun, Run, all_distinct, all_have_numbers, has_numbers, instances_of, has_job_name, name_at, opened_number, with_names}
use Rattle.tv_history.proofs.Names.{same_job-turned}
use Rattle.tv_history.specs.declared.entry.Entry.{Entry}
use Rattle.tv_history.specs.declared.entry.Entry.TheVariants as entry
use Rattle.tv_report.specs.AskCounts.{accepted_number, numbered_line}
use Rattle.tv_report.specs.TraceLines.{accepted_jobs, tallied, trace_line, trace_text}
use Rattle.tv_report.proofs.Tallied.{tallied-below, tallied-named}

-- ---- the accepted tries of a history, the oldest first

one-older : (past : List history.Entry) (e : history.Entry) → all_tries (past ++ e ∷ []) ≡ entry_try e ++ all_tries past
one-older [] e = sym (append-nil (entry_try e))
one-older (k ∷ past) e = ap (λ ts. ts ++ entry_try k) (one-older past e) ∙ append_assoc (entry_try e) (all_tries past) (entry_try k)

module _ (d : Document) (names is : List JobName) where
  -- the name of an outcome that was accepted
  abbrev name_of : Entry → List JobName
  name_of e = map (name_at names) (cons_option (accepted_number e) [])

  one-name : (e : Entry) → map (λ (t : NamedTry). t.0) (entry_try (with_names d names is e)) ≡ name_of e
  one-name (entry.HandedOut k a t) = refl
  one-name (entry.Accepted k a t r) = refl
  one-name (entry.Bounced k) = refl
  one-name (entry.Closed i s q n) = refl
  one-name (entry.Passed i s q) = refl
  one-name (entry.Opened k i) = refl
  one-name (entry.Ended i) = refl
  one-name (entry.Recalled c) = refl

  cons-maps : (o : Option ℕ) (ks : List ℕ) → map (name_at names) (cons_option o ks) ≡ map (name_at names) (cons_option o []) ++ map (name_at names) ks
  cons-maps None ks = refl
  cons-maps (Some k) ks = refl

  -- their jobs are those of the entries
  names-of : (es : List Entry) → map (λ (t : NamedTry). t.0) (all_tries (reverse (map (with_names d names is) es))) ≡ map (name_at names) (filter_map accepted_number es)
  names-of [] = refl
  names-of (e ∷ es) =
      let w = with_names d names is in
      ap (λ past. map (λ (t : NamedTry). t.0) (all_tries past)) (reverse-append (w e ∷ []) (map w es))
      ∙ ap (map (λ (t : NamedTry). t.0)) (one-older (reverse (map w es)) (w e))
      ∙ map-append (λ (t : NamedTry). t.0) (entry_try (w e)) (all_tries (reverse (map w es)))
      ∙ ap (λ ns. ns ++ map (λ (t : NamedTry). t.0) (all_tries (reverse (map w es)))) (one-name e)
      ∙ ap (λ ns. name_of e ++ ns) (names-of es)
      ∙ sym (cons-maps (accepted_number e) (filter_map accepted_number es))

-- ---- numbers that were given

option-below : (n : ℕ) (o : Option ℕ) (ks : List ℕ) → option_map_or (λ k. nat_lt k n) o true ≡ true → list_all (λ k. nat_lt k n) ks ≡ true → list_all (λ k. nat_lt k n) (cons_option o ks) ≡ true
option-below n None ks h b = b
option-below n (Some k) ks h b = ap (λ c. c && list_all (λ k. nat_lt k n) ks) h ∙ b

number-given : (n m : ℕ) (e : Entry) → has_numbers n m e ≡ true → option_map_or (λ k. nat_lt k n) (accepted_number e) true ≡ true
number-given n m (entry.HandedOut k a t) h = refl
number-given n m (entry.Accepted k a t r) h = h
number-given n m (entry.Bounced k) h = refl
number-given n m (entry.Closed i s q c) h = refl
number-given n m (entry.Passed i s q) h = refl
number-given n m (entry.Opened k i) h = refl
number-given n m (entry.Ended i) h = refl
number-given n m (entry.Recalled c) h = refl

numbers-below : (n m : ℕ) (es : List Entry) → all_have_numbers n m es ≡ true → list_all (λ k. nat_lt k n) (filter_map accepted_number es) ≡ true
numbers-below n m [] h = refl
numbers-below n m (e ∷ es) h =
    let p = and_parts (has_numbers n m e) (all_have_numbers n (if is_some (opened_number e) then suc m else m) es) h in
    option-below n (accepted_number e) (filter_map accepted_number es) (number-given n m e p.0) (numbers-below n (if is_some (opened_number e) then suc m else m) es p.1)

-- ---- distinct names

abbrev at : List JobName → ℕ → JobName
at names k = name_at names k

none-is : (n : JobName) (ns : List JobName) (k : ℕ) → has_job_name ns n ≡ false → k < length ns → same_job n (at ns k) ≡ false
none-is n [] k h l = absurd (none-below k l)
none-is n (m ∷ ns) zero h l = (or_parts (same_job n m) (has_job_name ns n) h).0
none-is n (m ∷ ns) (suc k) h l = none-is n ns k (or_parts (same_job n m) (has_job_name ns n) h).1 (less-back k (length ns) l)

names-apart : (ns : List JobName) (a b : ℕ) → all_distinct ns ≡ true → a < length ns → b < length ns → same_job (at ns a) (at ns b) ≡ nat_eq a b
names-apart [] a b h l m = absurd (none-below a l)
names-apart (n ∷ ns) zero zero h l m = same-itself n
names-apart (n ∷ ns) zero (suc b) h l m =
    let p = and_parts (not (has_job_name ns n)) (all_distinct ns) h in
    none-is n ns b (not-true (has_job_name ns n) p.0) (less-back b (length ns) m) ∙ sym (eqb-zero-suc b)
names-apart (n ∷ ns) (suc a) zero h l m =
    let p = and_parts (not (has_job_name ns n)) (all_distinct ns) h in
    same_job-turned (at ns a) n ∙ none-is n ns a (not-true (has_job_name ns n) p.0) (less-back a (length ns) l) ∙ sym (eqb-suc-zero a)
names-apart (n ∷ ns) (suc a) (suc b) h l m =
    let p = and_parts (not (has_job_name ns n)) (all_distinct ns) h in
    names-apart ns a b p.1 (less-back a (length ns) l) (less-back b (length ns) m) ∙ sym (eqb-suc-suc a b)

-- ---- lines

line-named : (ns : List JobName) (e : ℕ × ℕ) → e.0 < length ns → numbered_line ns e ≡ trace_line (at ns e.0) e.1
line-named [] e l = absurd (none-below e.0 l)
line-named (n ∷ ns) (zero, c) l = refl
line-named (n ∷ ns) (suc k, c) l = line-named ns (k, c) (less-back k (length ns) l)

lines-named : (ns : List JobName) (es : List (ℕ × ℕ)) → list_all (λ e. nat_lt e.0 (length ns)) es ≡ true → flat_map (numbered_line ns) es ≡ flat_map (λ e. trace_line (at ns e.0) e.1) es
lines-named ns [] h = refl
lines-named ns (e ∷ es) h =
    let p = and_parts (nat_lt e.0 (length ns)) (list_all (λ e. nat_lt e.0 (length ns)) es) h in
    ap (λ t. t ++ flat_map (numbered_line ns) es) (line-named ns e (ltb-true e.0 (length ns) p.0)) ∙ ap (λ t. trace_line (at ns e.0) e.1 ++ t) (lines-named ns es p.1)

-- the lines of a board's counts are those of its accepted jobs
pub board-lines : (gives : Giving) (r : Run) → IsLegalRun gives r → flat_map (numbered_line r.names) (tallied nat_eq (filter_map accepted_number r.entries)) ≡ trace_text (accepted_jobs r)
board-lines gives r legal =
    let ns = r.names in
    let n = length ns in
    let ks = filter_map accepted_number r.entries in
    let below = numbers-below n 1 r.entries legal.numbers in
    let apart : (a b : ℕ) → nat_lt a n ≡ true → nat_lt b n ≡ true → same_job (at ns a) (at ns b) ≡ nat_eq a b = λ a b p q. names-apart ns a b legal.distinct (ltb-true a n p) (ltb-true b n q) in
    lines-named ns (tallied nat_eq ks) (tallied-below same_job (at ns) n apart ks below)
    ∙ sym (flat_map-map (λ e. trace_line e.0 e.1) (λ e. (at ns e.0, e.1)) (tallied nat_eq ks))
    ∙ ap (flat_map (λ e. trace_line e.0 e.1)) (sym (tallied-named same_job (at ns) n apart ks below))
    ∙ ap trace_text (sym (names-of r.document ns (instances_of ns r.entries) r.entries))
