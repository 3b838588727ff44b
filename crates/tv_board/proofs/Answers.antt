-- What is told of tickets and answers: the board's run is x.
use Rattle.std.specs.Prelude.{◌≡◌, refl, Bool, false, Err, IfOk, None, Ok, OnErr, Option, Result, Some, is_some, map, ◌⊎◌}
use Rattle.std.proofs.Common.{inl, inr, subst, sym, ◌∙◌}
use Rattle.tv_dispatch.specs.Jobs.{judged}
use Rattle.tv_gate.specs.Outcomes.{Giving, Outcome}
use Rattle.tv_gate.specs.declared.services.Services.{Ghosts}
use Rattle.tv_model.proofs.Tests.{true≠false}
use Rattle.tv_history.specs.Answers.{Question}
use Rattle.tv_history.specs.Calls.{IsTask}
use Rattle.tv_history.specs.Refusals.{IsAccepting}
use Rattle.tv_history.specs.Runs.{Run}
use Rattle.tv_history.specs.declared.ticket.Ticket.{Ticket}
use Rattle.tv_history.specs.declared.told.Accepted.{Accepted}
use Rattle.tv_run.specs.Judging.{ComesTo, judged_view}
use Rattle.tv_run.specs.Standing.{StandsOpen, StandsStill, run_of}
use Rattle.tv_run.specs.Turns.{AcceptsTo, IsAsked, StaysAs}
use Rattle.tv_run.specs.declared.judging.Judgment.{Judgment}
use Rattle.tv_run.specs.declared.run.OpenRun.{OpenRun}
use Rattle.tv_run.proofs.OverLemmas.{open-asked}
use Rattle.tv_board.specs.Refusals.{answered, outcome_for}
use Rattle.tv_board.specs.declared.answer.Answer.{Answer}
use Rattle.tv_board.proofs.Calls.{still}
use Rattle.tv_board.proofs.Judged.{same_judgment-decides}

pub none-is : {A : Type 0} (o : Option A) (b : Bool) → b ≡ is_some o → b ≡ false → o ≡ None
none-is None b h k = refl
none-is (Some x) b h k = absurd (true≠false (sym h ∙ k))

module _ {V : Type 0} {services : Ghosts V} (y : Answer V services) where
  -- it has what the outcome that the services give comes to
  pub comes-of : ComesTo (answered y) (outcome_for services.gives (answered y)) y.judged
  comes-of =
      (same_judgment-decides (judged (map (λ p. p.1) y.outputs) (outcome_for services.gives (answered y))) (judged_view y.judged)).0
      y.given

  module _ (r : OpenRun) (task : IsTask services.gives (run_of r) (answered y)) where
    pub asked-of : IsAsked services.gives r y.ticket (answered y) (outcome_for services.gives (answered y))
    asked-of = record { of_ticket = refl; task = task; given = refl }

    -- so the run hasn't ended
    pub open-of : StandsStill services.gives r → StandsOpen services.gives r
    open-of st = open-asked services.gives r st y.ticket task.asked task.out

-- an outcome is asked for, so the run hasn't ended
module _ (gives : Giving) (r s : OpenRun) (x : Run) (e : run_of r ≡ x) (st : StandsStill gives r) (t : Ticket) (q : Question) (o : Outcome)
    (asked : IsAsked gives r t q o) where
  pub stands-open : StandsOpen gives r
  stands-open = open-asked gives r st q.ticket asked.task.asked asked.task.out

  abbrev pub Accepts : Accepted → Type 0
  Accepts a = (g : Giving) (p : Question) → StandsOpen g r → IsAsked g r t p o → AcceptsTo g r s p o a

  abbrev pub Stays : Type 0
  Stays = (g : Giving) → StandsOpen g r → StaysAs g r s

  pub accept-stands : {E : Type 0} (d : Result Accepted E) → IfOk d Accepts → OnErr d Stays → StandsStill gives s
  accept-stands (Ok a) h k = still gives s (h gives q stands-open asked).0
  accept-stands (Err m) h k = still gives s (k gives stands-open).stands

-- both tell the same of a job, or both are refused
abbrev pub Alike : {E F : Type 0} → Result Accepted E → Result Accepted F → Type 0
Alike {E = E} {F = F} d z = ((a : Accepted) × (d ≡ Ok a) × (z ≡ Ok a)) ⊎ ((m : E) × (n : F) × (d ≡ Err m) × (z ≡ Err n))

-- what an outcome comes to is accepted
module _ (gives : Giving) (r s : OpenRun) (x : Run) (e : run_of r ≡ x) (st : StandsOpen gives r) (t : Ticket) (q : Question) (o : Outcome)
    (asked : IsAsked gives r t q o) (j : Judgment) (comes : ComesTo q o j) where
  abbrev pub Takes : Accepted → Type 0
  Takes a = (g : Giving) (p : Question) (u : Outcome) → StandsOpen g r → IsAsked g r t p u → ComesTo p u j → AcceptsTo g r s p u a

  abbrev pub Leaves : Type 0
  Leaves = (g : Giving) → StandsOpen g r → StaysAs g r s

  pub take-stands : {E : Type 0} (d : Result Accepted E) → IfOk d Takes → OnErr d Leaves → StandsStill gives s
  take-stands (Ok a) h k = still gives s (h gives q o st asked comes).0
  take-stands (Err m) h k = still gives s (k gives st).stands

  pub take-tells : {E F : Type 0} (d : Result Accepted E) (z : Result Accepted F) → Alike d z → IfOk d Takes
      → IfOk z (λ a. IsAccepting gives x (run_of s) q o a)
  take-tells {F = F} d z (inl w) h =
      let told = subst (λ y. IfOk y Takes) w.1 h in
      subst (λ (y : Result Accepted F). IfOk y (λ a. IsAccepting gives x (run_of s) q o a)) (sym w.2)
      (subst (λ v. IsAccepting gives v (run_of s) q o w.0) e (told gives q o st asked comes).1)
  take-tells {F = F} d z (inr w) h =
      subst (λ (y : Result Accepted F). IfOk y (λ a. IsAccepting gives x (run_of s) q o a)) (sym w.3) tt

  pub take-stays : {E F : Type 0} (d : Result Accepted E) (z : Result Accepted F) → Alike d z → OnErr d Leaves → OnErr z (run_of s ≡ x)
  take-stays {F = F} d z (inl w) k = subst (λ (y : Result Accepted F). OnErr y (run_of s ≡ x)) (sym w.2) tt
  take-stays {F = F} d z (inr w) k =
      let left = subst (λ y. OnErr y Leaves) w.2 k in
      subst (λ (y : Result Accepted F). OnErr y (run_of s ≡ x)) (sym w.3) ((left gives st).same ∙ e)
