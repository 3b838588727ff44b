-- The history of a run with one entry more: what was told before it is told the same after it, since the names and instances that
-- come don't touch it.
use Rattle.std.specs.List.{list_all}
use Rattle.std.specs.Prelude.{List, [], filter_map, length, map, refl, reverse, true, ℕ, ◌++◌, ◌∷◌, ◌≡◌}
use Rattle.std.proofs.Common.{ap, sym, ◌∙◌}
use Rattle.std.proofs.lemmas.List.{map-append, reverse-append}
use Rattle.std.proofs.lemmas.List.Elements.{filter_map-append}
use Rattle.std.specs.Cmp.{first_so, second_so}
use Rattle.tv_value.specs.Values.{JobName}
use Rattle.tv_gate.specs.Outcomes.{Giving}
use Rattle.tv_flow.specs.Flows.{Document}
use Rattle.tv_check.specs.Steps.{spot}
use Rattle.tv_history.specs.Entries as history
use Rattle.tv_history.specs.Entries.{History}
use Rattle.tv_history.specs.Runs.{Appends, IsLegalRun, Run, has_numbers, instances_of, opened_by, past_of, step_name, with_names}
use Rattle.tv_history.specs.declared.entry.Entry.{Entry}
use Rattle.tv_history.specs.declared.entry.Entry.TheVariants as entry
use Rattle.tv_history.proofs.Numbers.{instance_count, numbered}
use Rattle.tv_history.proofs.Pasts.{name-more}

pub map-reverse : {A B : Type 0} (f : A → B) (xs : List A) → reverse (map f xs) ≡ map f (reverse xs)
map-reverse f [] = refl
map-reverse f (x ∷ xs) =
    reverse-append (f x ∷ []) (map f xs)
    ∙ ap (λ ys. ys ++ f x ∷ []) (map-reverse f xs)
    ∙ sym (map-append f (reverse xs) (x ∷ []))
    ∙ ap (map f) (sym (reverse-append (x ∷ []) xs))

-- ---- an entry with its names

abbrev pub named : Run → Entry → history.Entry
named r e = with_names r.document r.names (instances_of r.names r.entries) e

pub past-mapped : (r : Run) → past_of r ≡ map (named r) (reverse r.entries)
past-mapped r = map-reverse (named r) r.entries

-- what was told before, with the names of now
abbrev pub before : Run → Run → History
before r s = map (named s) (reverse r.entries)

pub newest : (r s : Run) (e : Entry) → Appends r s e → past_of s ≡ named s e ∷ before r s
newest r s e a =
    ap (λ es. reverse (map (named s) es)) a.entries
    ∙ ap reverse (map-append (named s) r.entries (e ∷ []))
    ∙ reverse-append (map (named s) r.entries) (named s e ∷ [])
    ∙ ap (λ es. named s e ∷ es) (map-reverse (named s) r.entries)

-- ---- more names, and more instances

module _ (d : Document) (ns more is js : List JobName) where
  pub one-named : (e : Entry) → has_numbers (length ns) (length is) e ≡ true → with_names d (ns ++ more) (is ++ js) e ≡ with_names d ns is e
  one-named (entry.HandedOut k a t) w = ap (λ n. history.handed_out n a t) (name-more ns more k w)
  one-named (entry.Accepted k a t r) w = ap (λ n. history.accepted n a t r) (name-more ns more k w)
  one-named (entry.Bounced k) w = ap (λ n. history.bounced n) (name-more ns more k w)
  one-named (entry.Closed i s q c) w = ap (λ n. history.closed (spot n (step_name d n s) q.value) c) (name-more is js i w)
  one-named (entry.Passed i s q) w = ap (λ n. history.fault_passed (spot n (step_name d n s) q.value)) (name-more is js i w)
  one-named (entry.Opened k i) w = ap (λ n. history.opened n) (name-more ns more k w)
  one-named (entry.Ended i) w = ap (λ n. history.ended n) (name-more is js i w)
  one-named (entry.Recalled c) w = refl

  all-named : (es : List Entry) → list_all (has_numbers (length ns) (length is)) es ≡ true → map (with_names d (ns ++ more) (is ++ js)) es ≡ map (with_names d ns is) es
  all-named [] h = refl
  all-named (e ∷ es) h =
      let one = one-named e (first_so (has_numbers (length ns) (length is) e) (list_all (has_numbers (length ns) (length is)) es) h) in
      let rest = all-named es (second_so (has_numbers (length ns) (length is) e) (list_all (has_numbers (length ns) (length is)) es) h) in
      λ i. one i ∷ rest i

opened-kept : (ns more : List JobName) (m : ℕ) (es : List Entry) → list_all (has_numbers (length ns) m) es ≡ true → filter_map (opened_by (ns ++ more)) es ≡ filter_map (opened_by ns) es
opened-kept ns more m [] h = refl
opened-kept ns more m (e ∷ es) h = by e (first_so (has_numbers (length ns) m e) (list_all (has_numbers (length ns) m) es) h) (opened-kept ns more m es (second_so (has_numbers (length ns) m e) (list_all (has_numbers (length ns) m) es) h))
  where
    by : (e : Entry) → has_numbers (length ns) m e ≡ true → filter_map (opened_by (ns ++ more)) es ≡ filter_map (opened_by ns) es → filter_map (opened_by (ns ++ more)) (e ∷ es) ≡ filter_map (opened_by ns) (e ∷ es)
    by (entry.Opened k i) w p = λ x. name-more ns more k w x ∷ p x
    by e w p = p

-- ---- one entry more

module _ (gives : Giving) (r s : Run) (e : Entry) (l : IsLegalRun gives r) (a : Appends r s e) where
  -- the instances that come, by names of now
  abbrev fresh : List JobName
  fresh = filter_map (opened_by (r.names ++ a.more)) (e ∷ [])

  pub instances-grown : instances_of s.names s.entries ≡ instances_of r.names r.entries ++ fresh
  instances-grown =
      (λ i. [] ∷ filter_map (opened_by (a.names i)) (a.entries i))
      ∙ ap (λ ns. [] ∷ ns) (filter_map-append (opened_by (r.names ++ a.more)) r.entries (e ∷ []))
      ∙ ap (λ ns. [] ∷ (ns ++ fresh)) (opened-kept r.names a.more (instance_count r) r.entries (numbered gives r l))

  pub before-same : before r s ≡ past_of r
  before-same =
      sym (map-reverse (named s) r.entries)
      ∙ (λ i. reverse (map (with_names (a.document i) (a.names i) (instances-grown i)) r.entries))
      ∙ ap reverse (all-named r.document r.names a.more (instances_of r.names r.entries) fresh r.entries (numbered gives r l))

  -- the new entry comes before those of before
  pub one-newer : past_of s ≡ named s e ∷ past_of r
  one-newer = newest r s e a ∙ ap (λ past. named s e ∷ past) before-same

  -- where its numbers were given before, it has the names of before
  pub named-same : has_numbers (length r.names) (instance_count r) e ≡ true → named s e ≡ named r e
  named-same w =
      (λ i. with_names (a.document i) (a.names i) (instances-grown i) e)
      ∙ one-named r.document r.names a.more (instances_of r.names r.entries) fresh e w

  pub past-more : has_numbers (length r.names) (instance_count r) e ≡ true → past_of s ≡ named r e ∷ past_of r
  past-more w = one-newer ∙ ap (λ x. x ∷ past_of r) (named-same w)
