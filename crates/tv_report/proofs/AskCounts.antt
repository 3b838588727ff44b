-- Entries are counted one by one.
use Rattle.std.specs.Prelude.{◌≡◌, ℕ, suc, ◌+◌, ◌<◌, ◌≤◌, ◌^◌, List, [], ◌∷◌, ◌++◌, Option, None, Some, filter_map, nat_eq, length, take, get_or}
use Rattle.std.specs.List.{cons_option}
use Rattle.std.proofs.Common.{ap, sym, ◌∙◌, arith, Fits, w64}
use Rattle.std.proofs.lemmas.List.{append-nil, length-take, take_more}
use Rattle.std.proofs.lemmas.List.Elements.{filter_map-append}
use Rattle.std.proofs.lemmas.List.Sums.{count_by-le-length}
use Rattle.indexmap.specs.IndexMap.{insert_entry}
use Rattle.tv_history.specs.declared.entry.Entry.{Entry}
use Rattle.tv_report.specs.AskCounts.{accepted_number, count_at, counted}
use Rattle.tv_report.specs.TraceLines.{tallied}
use Rattle.tv_report.proofs.Tallied.{tallied-at, tallied-more}

-- a number more, or none
counted-option : (ks : List ℕ) (o : Option ℕ) → counted (tallied nat_eq ks) o ≡ tallied nat_eq (ks ++ cons_option o [])
counted-option ks None = ap (tallied nat_eq) (sym (append-nil ks))
counted-option ks (Some k) = ap (λ z. insert_entry nat_eq (tallied nat_eq ks) k (suc z)) (tallied-at k ks) ∙ sym (tallied-more k ks)

one-longer : (o : Option ℕ) (ks : List ℕ) (n : ℕ) → length ks ≤ n → length (cons_option o ks) ≤ suc n
one-longer None ks n h = omega (arith, h)
one-longer (Some k) ks n h = omega (arith, h)

-- there are no more numbers than entries
numbers-few : (es : List Entry) → length (filter_map accepted_number es) ≤ length es
numbers-few [] = omega arith
numbers-few (e ∷ es) = one-longer (accepted_number e) (filter_map accepted_number es) (length es) (numbers-few es)

-- no count passes the numbers of 64 bits
pub counts-fit : (k : ℕ) (es : List Entry) (i : ℕ) (counts : List (ℕ × ℕ)) → i < length es → Fits w64 (length es)
    → counts ≡ tallied nat_eq (filter_map accepted_number (take i es)) → suc (count_at counts k) < 2 ^ 64
counts-fit k es i counts h f p =
    let ks = filter_map accepted_number (take i es) in
    let q = ap (λ cs. count_at cs k) p ∙ tallied-at k ks in
    let a = count_by-le-length (nat_eq k) ks in
    let b = numbers-few (take i es) in
    let c = length-take i es in
    omega (arith, q, a, b, c, h, f)

-- the entries so far, and one more
pub counted-one_more : (es : List Entry) (i : ℕ) (e : Entry) (old new : List (ℕ × ℕ)) → i < length es → e ≡ get_or es i e
    → old ≡ tallied nat_eq (filter_map accepted_number (take i es)) → new ≡ counted old (accepted_number e)
    → new ≡ tallied nat_eq (filter_map accepted_number (take (i + 1) es))
counted-one_more es i e old new h at p q =
    q
    ∙ ap (λ cs. counted cs (accepted_number e)) p
    ∙ counted-option (filter_map accepted_number (take i es)) (accepted_number e)
    ∙ ap (tallied nat_eq) (sym (filter_map-append accepted_number (take i es) (e ∷ [])) ∙ ap (filter_map accepted_number) (ap (λ x. take i es ++ x ∷ []) at ∙ sym (take_more es i e h)))
