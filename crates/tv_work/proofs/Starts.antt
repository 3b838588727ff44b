-- A board that has only settled things: nothing is out, nothing was accepted, and its history is that of one worker.
use Rattle.std.specs.List.{list_all}
use Rattle.std.specs.Prelude.{Bool, List, [], false, map, not, refl, reverse, true, ◌&&◌, ◌++◌, ◌∷◌, ◌≡◌}
use Rattle.std.proofs.Common.{ap, subst, sym, ◌∙◌}
use Rattle.std.proofs.lemmas.List.{reverse-append}
use Rattle.std.proofs.lemmas.List.Folds.{list_all-append}
use Rattle.std.specs.Cmp.{first_so, second_so}
use Rattle.tv_value.specs.Values.{JobName}
use Rattle.tv_gate.specs.Outcomes.{Giving}
use Rattle.tv_flow.specs.Flows.{Document}
use Rattle.tv_model.specs.Jobs.{Job}
use Rattle.tv_model.specs.Made.{Meaning}
use Rattle.tv_model.proofs.Tests.{both_true, true≠false}
use Rattle.tv_history.specs.Alone.{is_by_one}
use Rattle.tv_history.specs.Entries.{History, is_out}
use Rattle.tv_history.specs.Tries.{all_tries}
use Rattle.tv_history.specs.Calls.{settles}
use Rattle.tv_history.specs.Runs.{Run, instances_of, meant, past_of, with_names}
use Rattle.tv_history.specs.declared.entry.Entry.{Entry}
use Rattle.tv_history.specs.declared.entry.Entry.TheVariants as entry
use Rattle.tv_work.specs.InOrder.{HasOnlySettled}
use Rattle.tv_work.proofs.ByOne.{all-fail}
use Rattle.tv_history.proofs.OneMore.{past-mapped}

all-reverse : {A : Type 0} (p : A → Bool) (xs : List A) → list_all p xs ≡ true → list_all p (reverse xs) ≡ true
all-reverse p [] h = refl
all-reverse p (x ∷ xs) h =
    ap (list_all p) (reverse-append (x ∷ []) xs)
    ∙ list_all-append p (reverse xs) (x ∷ [])
    ∙ both_true (list_all p (reverse xs)) (p x && true) (all-reverse p xs (second_so (p x) (list_all p xs) h)) (both_true (p x) true (first_so (p x) (list_all p xs) h) refl)

pub record IsQuiet (m : Meaning) (past : History) : Type 0 where
  pub none_out : (n : JobName) → is_out past n ≡ false
  pub none_accepted : all_tries past ≡ []
  pub by_one : is_by_one m past ≡ true

module _ (m : Meaning) (d : Document) (ns is : List JobName) where
  one-quiet : (past : History) (e : Entry) → settles e ≡ true → IsQuiet m past → IsQuiet m (with_names d ns is e ∷ past)
  one-quiet past (entry.HandedOut k a t) h q = absurd (true≠false (sym h))
  one-quiet past (entry.Accepted k a t b) h q = absurd (true≠false (sym h))
  one-quiet past (entry.Opened k i) h q = record {
    none_out = q.none_out;
    none_accepted = ap (λ ts. ts ++ []) q.none_accepted;
    by_one = both_true (is_by_one m past) (list_all (λ (j : Job). not (is_out past j.name)) m.jobs) q.by_one (all-fail (λ (j : Job). is_out past j.name) m.jobs (λ j i. q.none_out j.name));
  }
  one-quiet past (entry.Recalled c) h q = absurd (true≠false (sym h))
  one-quiet past e h q = record { none_out = q.none_out; none_accepted = ap (λ ts. ts ++ []) q.none_accepted; by_one = both_true (is_by_one m past) true q.by_one refl }

  all-quiet : (es : List Entry) → list_all settles es ≡ true → IsQuiet m (map (with_names d ns is) es)
  all-quiet [] h = record { none_out = λ n. refl; none_accepted = refl; by_one = refl }
  all-quiet (e ∷ es) h = one-quiet (map (with_names d ns is) es) e (first_so (settles e) (list_all settles es) h) (all-quiet es (second_so (settles e) (list_all settles es) h))

pub quiet-start : (gives : Giving) (r : Run) → HasOnlySettled r → IsQuiet (meant gives r) (past_of r)
quiet-start gives r h =
    subst (IsQuiet (meant gives r)) (sym (past-mapped r)) (all-quiet (meant gives r) r.document r.names (instances_of r.names r.entries) (reverse r.entries) (all-reverse settles r.entries h))
