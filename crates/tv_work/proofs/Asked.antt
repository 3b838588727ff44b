-- A worker's calls, one turn after another.
use Rattle.std.specs.Prelude.{List, Option, Some, [], map, refl, true, ◌++◌, ◌≡◌, ◌⊎◌}
use Rattle.std.proofs.Common.{ap, inl, inr, subst, sym, ◌∙◌}
use Rattle.std.proofs.lemmas.List.{append-nil, append_assoc, map-append}
use Rattle.tv_lemmas.proofs.Members.{in-append}
use Rattle.tv_lemmas.proofs.Cases.{on_either}
use Rattle.tv_value.specs.Values.{JobName}
use Rattle.tv_gate.specs.Calls.{Call, IsCalled, IsSameCalls}
use Rattle.tv_gate.specs.Outcomes.{Giving}
use Rattle.tv_dispatch.specs.Jobs.{Ask}
use Rattle.tv_model.specs.Jobs.{Job}
use Rattle.tv_model.specs.Meanings.{meaning}
use Rattle.tv_model.proofs.Tests.{true≠false}
use Rattle.tv_history.specs.Tries.{all_tries, ask_try, entry_try}
use Rattle.tv_board.specs.Asked.{IsSameOrCalled, call_for}
use Rattle.tv_history.specs.Answers.{Question}
use Rattle.tv_history.specs.Calls.{IsTask, Settles, hands_out, settles}
use Rattle.tv_history.specs.Runs.{Appends, IsLegalRun, Run, instances_of, meant, with_names}
use Rattle.tv_history.specs.declared.entry.Entry.{Entry}
use Rattle.tv_history.specs.declared.entry.Entry.TheVariants as entry
use Rattle.tv_history.specs.declared.ticket.Ticket.{Ticket}
use Rattle.tv_flow.specs.Flows.{Document}
use Rattle.tv_work.specs.Asked.{AreAsksOf, AsksAtMostOneMore, AsksEach, accepted_tries, call_of}
use Rattle.tv_history.proofs.OneMore.{named, one-newer}

-- ---- tries that were accepted

pub tries-after : (gives : Giving) (r s : Run) (e : Entry) → IsLegalRun gives r → Appends r s e → accepted_tries s ≡ accepted_tries r ++ entry_try (named s e)
tries-after gives r s e l a = ap all_tries (one-newer gives r s e l a)

settled-none : (d : Document) (ns is : List JobName) (e : Entry) → settles e ≡ true → entry_try (with_names d ns is e) ≡ []
settled-none d ns is (entry.Accepted k a t b) h = absurd (true≠false (sym h))
settled-none d ns is e h = refl

no-more : {A : Type 0} (xs ys zs : List A) → xs ≡ ys ++ zs → zs ≡ [] → xs ≡ ys
no-more xs ys zs e f = e ∙ ap (λ us. ys ++ us) f ∙ append-nil ys

pub settled-tries : (gives : Giving) (r s : Run) → IsLegalRun gives r → Settles r s → accepted_tries s ≡ accepted_tries r
settled-tries gives r s l h = no-more (accepted_tries s) (accepted_tries r) (entry_try (named s h.0)) (tries-after gives r s h.0 l h.1) (settled-none s.document s.names (instances_of s.names s.entries) h.0 h.2)

pub handed-tries : (gives : Giving) (r s : Run) (t : Ticket) → IsLegalRun gives r → Appends r s (hands_out t) → accepted_tries s ≡ accepted_tries r
handed-tries gives r s t l a = no-more (accepted_tries s) (accepted_tries r) [] (tries-after gives r s (hands_out t) l a) refl

-- ---- what was asked

module _ (gives : Giving) where
  pub asks-none : (x y : Option (List Call)) (r s : Run) → IsSameCalls x y → accepted_tries s ≡ accepted_tries r → AsksEach gives x y r s
  asks-none x y r s same e calls b = ([], same calls b ∙ ap Some (sym (append-nil calls)), e ∙ sym (append-nil (accepted_tries r)), λ p i. absurd i)

  pub asks-then : (x y z : Option (List Call)) (r s t : Run) → s.document ≡ r.document → AsksEach gives x y r s → AsksEach gives y z s t → AsksEach gives x z r t
  asks-then x y z r s t doc g h calls b =
      let p = g calls b in
      let q = h (calls ++ map call_of p.0) p.1 in (
        p.0 ++ q.0,
        q.1 ∙ ap Some (append_assoc calls (map call_of p.0) (map call_of q.0) ∙ ap (λ cs. calls ++ cs) (sym (map-append call_of p.0 q.0))),
        q.2 ∙ ap (λ ts. ts ++ map (ask_try gives) q.0) p.2 ∙ append_assoc (accepted_tries r) (map (ask_try gives) p.0) (map (ask_try gives) q.0) ∙ ap (λ ts. accepted_tries r ++ ts) (sym (map-append (ask_try gives) p.0 q.0)),
        both (meant gives r).jobs p.0 q.0 p.3 (subst (λ d. AreAsksOf (meaning gives d).jobs q.0) doc q.3),
      )
    where
      both : (js : List Job) (ps qs : List (JobName × Ask)) → AreAsksOf js ps → AreAsksOf js qs → AreAsksOf js (ps ++ qs)
      both js ps qs f g k i = on_either (in-append k ps qs i) (λ c. f k c) (λ c. g k c)

  same-calls : (x : Option (List Call)) → IsSameCalls x x
  same-calls x calls b = b

  -- nothing was asked
  pub asks-same : (x : Option (List Call)) (r s : Run) → accepted_tries s ≡ accepted_tries r → AsksEach gives x x r s
  asks-same x r s e = asks-none x x r s (same-calls x) e

  -- nothing was asked before
  pub asks-from : (x y : Option (List Call)) (r s t : Run) → s.document ≡ r.document → accepted_tries s ≡ accepted_tries r → AsksEach gives x y s t → AsksEach gives x y r t
  asks-from x y r s t doc e h = asks-then x x y r s t doc (asks-same x r s e) h

  pub most-then : (x y z : Option (List Call)) (r s t : Run) → s.document ≡ r.document → AsksEach gives x y r s → AsksAtMostOneMore gives y z s t → AsksAtMostOneMore gives x z r t
  most-then x y z r s t doc g h = (h.0, asks-then x y h.0 r s t doc g h.1, h.2)

  pub most-from : (x y : Option (List Call)) (r s t : Run) → s.document ≡ r.document → accepted_tries s ≡ accepted_tries r → AsksAtMostOneMore gives x y s t → AsksAtMostOneMore gives x y r t
  most-from x y r s t doc e h = most-then x x y r s t doc (asks-same x r s e) h

  -- ---- one call at the most

  pub most-same : (x : Option (List Call)) (r s : Run) → accepted_tries s ≡ accepted_tries r → AsksAtMostOneMore gives x x r s
  most-same x r s e = (x, asks-same x r s e, inl (same-calls x))

  pub most-one : (x y : Option (List Call)) (q : Question) (r s : Run) → s ≡ r → IsTask gives r q → IsSameOrCalled x y (call_for q) → AsksAtMostOneMore gives x y r s
  most-one x y q r s e t h = (x, asks-same x r s (ap accepted_tries e), by h)
    where
      by : IsSameOrCalled x y (call_for q) → IsSameCalls x y ⊎ ((p : Question) × IsTask gives s p × IsCalled x y (call_for p))
      by (inl same) = inl same
      by (inr called) = inr (q, subst (λ u. IsTask gives u q) (sym e) t, called)
