-- After any list of calls a history is legal, and has one entry of each call or none.
use Rattle.std.specs.Prelude.{Bool, List, None, Some, [], false, refl, suc, true, zero, ◌++◌, ◌∷◌, ◌≡◌}
use Rattle.std.proofs.Common.{ap, append_assoc, arith, subst, sym, ◌∙◌}
use Rattle.std.proofs.lemmas.List.{append-nil}
use Rattle.tv_gate.specs.Outcomes.{Giving, Outcome}
use Rattle.tv_flow.specs.Flows.{Document}
use Rattle.tv_history.specs.Alone.{IsFirstPart}
use Rattle.tv_history.specs.Answers.{Question}
use Rattle.tv_history.specs.Calls.{hands_out}
use Rattle.tv_history.specs.Refusals.{IsAccepting, WasAccepted, accepts, is_right}
use Rattle.tv_history.specs.Runs.{Appends, IsLegalRun, Run}
use Rattle.tv_history.specs.Recalls.{recalls}
use Rattle.tv_history.specs.declared.told.Accepted.{Accepted}
use Rattle.tv_history.specs.declared.told.Accepted.TheVariants as accepted
use Rattle.tv_history.specs.declared.told.Moved.TheVariants as moved
use Rattle.tv_history.specs.declared.entry.Entry.{Entry}
use Rattle.tv_work.specs.Called.{AreCalls, AreEntriesOf, Call, IsCall, IsEntryOf, IsMadeBy, IsStart, accept, hand_out, move_on, recall_all, settle_one}

-- the same run with these entries behind the others
record Grows (r s : Run) (es : List Entry) : Type 0 where
  document : s.document ≡ r.document
  names : IsFirstPart r.names s.names
  entries : s.entries ≡ r.entries ++ es

stays : (r s : Run) → s ≡ r → Grows r s []
stays r s e = record {
  document = ap (λ (t : Run). t.document) e;
  names = ([], ap (λ (t : Run). t.names) e ∙ sym (append-nil r.names));
  entries = ap (λ (t : Run). t.entries) e ∙ sym (append-nil r.entries);
}

by-one : (r s : Run) (e : Entry) → Appends r s e → Grows r s (e ∷ [])
by-one r s e a = record { document = a.document; names = (a.more, a.names); entries = a.entries }

parts : {A : Type 0} (xs ys zs us vs : List A) → ys ≡ xs ++ us → zs ≡ ys ++ vs → zs ≡ xs ++ (us ++ vs)
parts xs ys zs us vs p q = q ∙ ap (λ ws. ws ++ vs) p ∙ append_assoc xs us vs

follows : (r s t : Run) (es fs : List Entry) → Grows r s es → Grows s t fs → Grows r t (es ++ fs)
follows r s t es fs g h = record {
  document = h.document ∙ g.document;
  names = (g.names.0 ++ h.names.0, parts r.names s.names t.names g.names.0 h.names.0 g.names.1 h.names.1);
  entries = parts r.entries s.entries t.entries es fs g.entries h.entries;
}

abbrev Made : Run → Run → Call → Type 0
Made r s c = (es : List Entry) × IsEntryOf c es × Grows r s es

accepted-made : (gives : Giving) (r s : Run) (q : Question) (o : Outcome) (good : Bool) → WasAccepted gives r s q o good → Grows r s (accepts q.ticket (is_right q o) ∷ [])
accepted-made gives r s q o good w = by-one r s (accepts q.ticket (is_right q o)) (subst (λ b. Appends r s (accepts q.ticket b)) w.right w.appends)

accept-made : (gives : Giving) (r s : Run) (q : Question) (o : Outcome) (a : Accepted) → IsAccepting gives r s q o a → Grows r s (accepts q.ticket (is_right q o) ∷ [])
accept-made gives r s q o accepted.Again h = accepted-made gives r s q o false h.0
accept-made gives r s q o (accepted.Settled good) h = accepted-made gives r s q o good h.0

one-made : (gives : Giving) (r s : Run) (c : Call) → IsCall gives r s c → Made r s c
one-made gives r s (settle_one (Some true)) h = (h.0 ∷ [], (h.0, refl, h.2), by-one r s h.0 h.1)
one-made gives r s (settle_one (Some false)) h = ([], refl, stays r s h.0)
one-made gives r s (settle_one None) h = ([], refl, stays r s h)
one-made gives r s (hand_out (Some t)) h = (hands_out t ∷ [], refl, by-one r s (hands_out t) h)
one-made gives r s (hand_out None) h = ([], refl, stays r s h.0)
one-made gives r s (accept q o (Some a)) h = (accepts q.ticket (is_right q o) ∷ [], refl, accept-made gives r s q o a h)
one-made gives r s (accept q o None) h = ([], refl, stays r s h)
one-made gives r s (recall_all (Some zero)) h = ([], refl, stays r s (h.1.none refl))
one-made gives r s (recall_all (Some (suc n))) h = (recalls (suc n) ∷ [], refl, by-one r s (recalls (suc n)) (h.1.some (omega arith)))
one-made gives r s (recall_all None) h = ([], refl, stays r s h)
one-made gives r s (move_on (Some moved.Settled)) h = (h.0 ∷ [], (h.0, refl, h.2), by-one r s h.0 h.1)
one-made gives r s (move_on (Some (moved.HandedOut t))) h = (hands_out t ∷ [], refl, by-one r s (hands_out t) h.handed)
one-made gives r s (move_on (Some moved.Nothing)) h = ([], refl, stays r s h.same)
one-made gives r s (move_on None) h = ([], refl, stays r s h)

all-made : (gives : Giving) (r s : Run) (cs : List Call) → IsLegalRun gives r → AreCalls gives r s cs → (es : List Entry) × AreEntriesOf cs es × Grows r s es × IsLegalRun gives s
all-made gives r s [] l h = ([], refl, stays r s h, subst (IsLegalRun gives) (sym h) l)
all-made gives r s (c ∷ cs) l h =
    let one = one-made gives r h.0 c h.1 in
    let more = all-made gives h.0 s cs h.2 h.3 in
    (one.0 ++ more.0, (one.0, more.0, one.1, more.1, refl), follows r h.0 s one.0 more.0 one.2 more.2, more.3)

pub made-by : (gives : Giving) (d : Document) (r s : Run) (cs : List Call) → IsStart gives d r → AreCalls gives r s cs → IsMadeBy gives d r s cs
made-by gives d r s cs f h =
    let all = all-made gives r s cs f.legal h in
    record {
      document = all.2.document ∙ f.document;
      legal = all.3;
      names = all.2.names;
      entries = subst (AreEntriesOf cs) (sym (all.2.entries ∙ ap (λ es. es ++ all.0) f.empty)) all.1;
    }
