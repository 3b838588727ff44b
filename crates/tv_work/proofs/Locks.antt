-- What a worker does to a board under a lock.
use Rattle.std.specs.List.{list_all}
use Rattle.std.specs.Prelude.{Bool, Err, IfOk, List, None, Ok, OnErr, Option, Result, Some, [], cond, count_by, false, refl, suc, true, zero, ℕ, ◌++◌, ◌+◌, ◌∷◌, ◌≡◌}
use Rattle.std.proofs.Common.{ap, arith, subst, sym, ◌∙◌}
use Rattle.std.proofs.lemmas.List.{append_assoc}
use Rattle.std.specs.Cmp.{first_so, second_so}
use Rattle.std.proofs.lemmas.List.Sums.{sum_by_push, sum_by-append}
use Rattle.tv_model.proofs.Tests.{both_true, true≠false}
use Rattle.tv_gate.specs.Outcomes.{Giving, Outcome}
use Rattle.tv_history.specs.Answers.{Question}
use Rattle.tv_history.specs.Refusals.{IsAccepting, accepts}
use Rattle.tv_history.specs.declared.told.Accepted.{Accepted}
use Rattle.tv_history.specs.declared.told.Accepted.TheVariants as accepted
use Rattle.tv_history.specs.Alone.{IsFirstPart}
use Rattle.tv_history.specs.Runs.{Appends, IsLegalRun, Run}
use Rattle.tv_history.specs.Calls.{IsNothingOffered, NothingSettles, Settles, hands_out, settles}
use Rattle.tv_history.specs.Counted.{is_acceptance}
use Rattle.tv_history.specs.Recalls.{IsRecalled, recalls}
use Rattle.tv_history.specs.declared.entry.Entry.{Entry}
use Rattle.tv_history.specs.declared.entry.Entry.TheVariants as entry
use Rattle.tv_history.specs.declared.ticket.Ticket.{Ticket}
use Rattle.tv_work.specs.Locking.{IsSince, IsTurned, OnlySettles, acceptances}
use Rattle.tv_work.specs.Working.{GoesOn, IsMoving}
use Rattle.tv_work.proofs.Runs.{goes_on-none, goes_on-one, goes_on-then}

-- ---- settling

all-push : (es : List Entry) (e : Entry) → list_all settles es ≡ true → settles e ≡ true → list_all settles (es ++ e ∷ []) ≡ true
all-push [] e p q = both_true (settles e) true q refl
all-push (x ∷ es) e p q = both_true (settles x) (list_all settles (es ++ e ∷ [])) (first_so (settles x) (list_all settles es) p) (all-push es e (second_so (settles x) (list_all settles es) p) q)

nothing : {A : Type 0} (xs : List A) → xs ++ [] ≡ xs
nothing [] = refl
nothing (x ∷ xs) = ap (λ ys. x ∷ ys) (nothing xs)

pub settles-none : (r : Run) → OnlySettles r r
settles-none r = record { document = refl; names = (goes_on-none r).names; added = []; entries = sym (nothing r.entries); settling = refl }

pub settles-more : (r s t : Run) → OnlySettles r s → Settles s t → OnlySettles r t
settles-more r s t p h = record {
  document = h.1.document ∙ p.document;
  names = (goes_on-then r s t (record { document = p.document; names = p.names; entries = (p.added, p.entries) }) (goes_on-one s t h.0 h.1)).names;
  added = p.added ++ h.0 ∷ [];
  entries = h.1.entries ∙ ap (λ es. es ++ h.0 ∷ []) p.entries ∙ append_assoc r.entries p.added (h.0 ∷ []);
  settling = all-push p.added h.0 p.settling h.2;
}

-- the last move of a turn
pub turned : (gives : Giving) (r s t : Run) (o : Option Ticket) → OnlySettles r s → IsMoving gives s t o false → IsTurned gives r t o
turned gives r s t None p h =
    (subst (OnlySettles r) (sym h.same) p, subst (λ u. NothingSettles gives u) (sym h.same) h.settled, subst (λ u. IsNothingOffered gives u) (sym h.same) h.nothing_offered)
turned gives r s t (Some k) p h = (s, p, h)

-- ---- what a turn keeps

not-accepted : (e : Entry) → settles e ≡ true → is_acceptance e ≡ false
not-accepted (entry.Accepted k a t r) h = absurd (true≠false (sym h))
not-accepted e h = refl

none-accepted : (es : List Entry) → list_all settles es ≡ true → count_by is_acceptance es ≡ 0
none-accepted [] h = refl
none-accepted (e ∷ es) h =
    let first : count_by is_acceptance (e ∷ []) ≡ 0 = ap {B = ℕ} (λ b. 0 + cond b 1 0) (not-accepted e (first_so (settles e) (list_all settles es) h)) in
    let rest = none-accepted es (second_so (settles e) (list_all settles es) h) in
    omega (arith, sum_by-append (λ x. cond (is_acceptance x) 1 0) (e ∷ []) es, first, rest)

pub settles-goes : (r s : Run) → OnlySettles r s → GoesOn r s
settles-goes r s p = record { document = p.document; names = p.names; entries = (p.added, p.entries) }

pub settles-accepted : (r s : Run) → OnlySettles r s → acceptances s ≡ acceptances r
settles-accepted r s p = omega (arith, ap (count_by is_acceptance) p.entries ∙ sum_by-append (λ e. cond (is_acceptance e) 1 0) r.entries p.added, none-accepted p.added p.settling)

module _ (gives : Giving) (r s : Run) where
  pub turned-goes : (o : Option Ticket) → IsTurned gives r s o → GoesOn r s
  turned-goes None h = settles-goes r s h.0
  turned-goes (Some t) h = goes_on-then r h.0 s (settles-goes r h.0 h.1) (goes_on-one h.0 s (hands_out t) h.2.handed)

  pub turned-accepted : (o : Option Ticket) → IsTurned gives r s o → acceptances s ≡ acceptances r
  turned-accepted None h = settles-accepted r s h.0
  turned-accepted (Some t) h =
      omega (arith, settles-accepted r h.0 h.1, ap (count_by is_acceptance) h.2.handed.entries ∙ sum_by-append (λ e. cond (is_acceptance e) 1 0) h.0.entries (hands_out t ∷ []))

  -- whatever a turn answers, it goes on and accepts nothing
  pub turn-keeps : {E : Type 0} (x : Result (Option Ticket) E) → IfOk x (λ o. IsTurned gives r s o) → OnErr x (OnlySettles r s) → GoesOn r s × (acceptances s ≡ acceptances r)
  turn-keeps (Ok o) h k = (turned-goes o h, turned-accepted o h)
  turn-keeps (Err e) h k = (settles-goes r s k, settles-accepted r s k)

-- and so what is known under the lock is kept
pub since-turn : (gives : Giving) (began r s : Run) (n : ℕ) (b : Bool) → IsSince gives began (record { board = r; accepted = n; stopped = b }) → IsLegalRun gives s → GoesOn r s × (acceptances s ≡ acceptances r) → IsSince gives began (record { board = s; accepted = n; stopped = b })
since-turn gives began r s n b h l k = record { goes_on = goes_on-then began r s h.goes_on k.0; legal = l; counted = k.1 ∙ h.counted }

-- ---- a recall

pub recalled-goes : (r s : Run) (n : ℕ) → IsRecalled r s n → GoesOn r s
recalled-goes r s zero h = subst (GoesOn r) (sym (h.none refl)) (goes_on-none r)
recalled-goes r s (suc n) h = goes_on-one r s (recalls (suc n)) (h.some (omega arith))

-- ---- an answer

accepted-entry : (gives : Giving) (r s : Run) (q : Question) (o : Outcome) (a : Accepted) → IsAccepting gives r s q o a → (right : Bool) × Appends r s (accepts q.ticket right)
accepted-entry gives r s q o accepted.Again h = (false, h.0.appends)
accepted-entry gives r s q o (accepted.Settled good) h = (good, h.0.appends)

pub accepted-one : (gives : Giving) (r s : Run) (q : Question) (o : Outcome) (a : Accepted) → IsAccepting gives r s q o a → acceptances s ≡ acceptances r + 1
accepted-one gives r s q o a h =
    let e = accepted-entry gives r s q o a h in
    ap (count_by is_acceptance) e.1.entries ∙ sum_by_push (λ x. cond (is_acceptance x) 1 0) r.entries (accepts q.ticket e.0)

-- one outcome more is counted
pub since-accepted : (gives : Giving) (began r s : Run) (n m : ℕ) (b : Bool) (q : Question) (o : Outcome) (a : Accepted) → IsSince gives began (record { board = r; accepted = n; stopped = b }) → IsAccepting gives r s q o a → IsLegalRun gives s → m ≡ n + 1 → IsSince gives began (record { board = s; accepted = m; stopped = b })
since-accepted gives began r s n m b q o a h k l e = record {
  goes_on = let x = accepted-entry gives r s q o a k in goes_on-then began r s h.goes_on (goes_on-one r s (accepts q.ticket x.0) x.1);
  legal = l;
  counted = omega (arith, accepted-one gives r s q o a k, h.counted, e);
}
