-- How many tries of a run are out after one entry more.
use Rattle.std.specs.Prelude.{◌≡◌, ◌∷◌, true}
use Rattle.std.proofs.Common.{subst, sym, ◌∙◌}
use Rattle.tv_gate.specs.Outcomes.{Giving}
use Rattle.tv_model.specs.Meanings.{meaning}
use Rattle.tv_history.specs.Going.{OutAfter}
use Rattle.tv_history.specs.Histories.{is_legal, out_count}
use Rattle.tv_history.proofs.TriesOut.{tries-out}
use Rattle.tv_history.specs.Calls.{out_now}
use Rattle.tv_history.specs.Runs.{Appends, IsLegalRun, Run, meant, past_of}
use Rattle.tv_history.specs.declared.entry.Entry.{Entry}
use Rattle.tv_history.proofs.OneMore.{named, one-newer}

module _ (gives : Giving) (r s : Run) (e : Entry) (l : IsLegalRun gives r) (k : IsLegalRun gives s) (a : Appends r s e) where
  newer : past_of s ≡ named s e ∷ past_of r
  newer = one-newer gives r s e l a

  legal : is_legal gives (meant gives r) (named s e ∷ past_of r) ≡ true
  legal = (λ i. is_legal gives (meaning gives (sym a.document i)) (sym newer i)) ∙ k.legal

  now-out : out_count (meant gives r) (named s e ∷ past_of r) ≡ out_now gives s
  now-out = λ i. out_count (meaning gives (sym a.document i)) (sym newer i)

  pub out-counted : OutAfter (named s e) (out_now gives r) (out_now gives s)
  out-counted = subst (OutAfter (named s e) (out_now gives r)) now-out (tries-out gives r.document (past_of r) (named s e) legal)
