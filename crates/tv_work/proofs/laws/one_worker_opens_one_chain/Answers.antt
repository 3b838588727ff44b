use Rattle.std.specs.Prelude.{◌++◌, ◌≡◌, true, [], ◌∷◌}
use Rattle.std.specs.Cmp.{first_so}
use Rattle.std.proofs.Common.{ap, subst, sym, ◌∙◌}
use Rattle.std.proofs.lemmas.List.{append_assoc}
use Rattle.tv_gate.specs.Outcomes.{Giving}
use Rattle.tv_model.specs.Made.{Meaning}
use Rattle.tv_model.specs.Meanings.{meaning}
use Rattle.tv_history.specs.Alone.{is_by_one_after}
use Rattle.tv_history.specs.Entries.{History}
use Rattle.tv_history.specs.Histories.{is_legal, is_legal_after}
use Rattle.tv_history.specs.Runs.{meant, past_of}
use Rattle.tv_history.specs.order.Chains.{is_by_one_from}
use Rattle.tv_history.proofs.Chain.{open-few, open-nested}
use Rattle.tv_work.proofs.laws.one_worker_opens_one_chain.Goals as goal

-- what stood before is legal, and one worker's, too
legal-before : (gives : Giving) (m : Meaning) (newer rest : History) → is_legal gives m (newer ++ rest) ≡ true → is_legal gives m rest ≡ true
legal-before gives m [] rest h = h
legal-before gives m (e ∷ es) rest h =
    legal-before gives m es rest (first_so (is_legal gives m (es ++ rest)) (is_legal_after gives m (es ++ rest) e) h)

by-one-before : (m : Meaning) (base newer older : History) → is_by_one_from m base (newer ++ older) ≡ true → is_by_one_from m base older ≡ true
by-one-before m base [] older h = h
by-one-before m base (e ∷ es) older h =
    by-one-before m base es older
    (first_so (is_by_one_from m base (es ++ older)) (is_by_one_after m ((es ++ older) ++ base) e) h)

pub returns : goal.returns
returns c = λ gives r s formed nests idle l w newer older e.
    let m = meant gives r in
    let base = past_of r in
    let whole : is_legal gives m (newer ++ (older ++ base)) ≡ true =
    (λ i. is_legal gives (ap (meaning gives) (sym w.document) i) ((append-of w.appended base newer older (past_of s) w.past e) i)) ∙ l.legal in
    let legal = legal-before gives m newer (older ++ base) whole in
    let by_one = by-one-before m base newer older (subst (λ es. is_by_one_from m base es ≡ true) e w.by_one) in
    record {
      nested = λ j k. open-nested gives r.document formed base idle older legal by_one j k;
      short = open-few gives r.document formed base idle older legal by_one nests;
    }
  where
    append-of : (es base newer older now : History) → now ≡ es ++ base → es ≡ newer ++ older → newer ++ (older ++ base) ≡ now
    append-of es base newer older now p e = sym (p ∙ ap (λ x. x ++ base) e ∙ append_assoc newer older base)
