-- A board asks for a try that is out itself: its run is x.
use Rattle.std.specs.Prelude.{◌≡◌, refl, ℕ, ◌∷◌, Err, IfOk, List, Ok, OnErr, Option, Result, Some, [], is_some, map, true}
use Rattle.std.proofs.Common.{ap, inl, inr, subst, ◌∙◌}
use Rattle.tv_lemmas.proofs.Options.{is_some-some}
use Rattle.tv_value.specs.Values.{Name, Value}
use Rattle.tv_gate.specs.Calls.{Call, IsCalled, IsSameCalls}
use Rattle.tv_gate.specs.Outcomes.{Giving, Outcome}
use Rattle.tv_dispatch.specs.Jobs.{Ask}
use Rattle.tv_history.specs.Answers.{Question}
use Rattle.tv_history.specs.Calls.{IsTask, try_if_out}
use Rattle.tv_history.specs.Refusals.{IsAccepting}
use Rattle.tv_history.specs.Runs.{Run}
use Rattle.tv_history.specs.declared.ticket.Ticket.{Ticket}
use Rattle.tv_history.specs.declared.told.Accepted.{Accepted}
use Rattle.tv_run.specs.Standing.{StandsOpen, StandsStill, run_of}
use Rattle.tv_run.specs.Turns.{IsAsked}
use Rattle.tv_run.specs.declared.run.OpenRun.{OpenRun}
use Rattle.tv_board.specs.Asked.{AsksAndAccepts, AsksOnceAtMost, IsSameOrCalled, call_for}
use Rattle.tv_board.proofs.Answers.{Accepts, Stays, stands-open}

abbrev unnamed : List ℕ → List (Name × ℕ)
unnamed ds = map (λ d. ([], d)) ds

depths-of : (ds : List ℕ) → map (λ o. o.1) (unnamed ds) ≡ ds
depths-of [] = refl
depths-of (d ∷ ds) = ap (λ l. d ∷ l) (depths-of ds)

module _ (gives : Giving) (r : OpenRun) (x : Run) (e : run_of r ≡ x) (st : StandsStill gives r) (t : Ticket)
    (out : is_some (try_if_out gives x t) ≡ true) where
  pub is-out : is_some (try_if_out gives (run_of r) t) ≡ true
  is-out = ap (λ y. is_some (try_if_out gives y t)) e ∙ out

  pub found : (a : Ask) × (try_if_out gives (run_of r) t ≡ Some a)
  found = is_some-some (try_if_out gives (run_of r) t) is-out

  -- what the try asks, with no names of outputs
  abbrev pub its : Question
  its = record { ticket = t; service = found.0.service; inputs = found.0.inputs; outputs = unnamed found.0.outputs }

  its-task : IsTask gives (run_of r) its
  its-task = record { asked = found.0; out = found.1; service = refl; inputs = refl; outputs = depths-of found.0.outputs }

  at-most : (before after : Option (List Call)) → IsSameOrCalled before after (call_for its) → AsksOnceAtMost gives x t before after
  at-most before after h = (its, refl, subst (λ y. IsTask gives y its) e its-task, h)

  -- nothing was asked
  pub asks-none : (before : Option (List Call)) → AsksOnceAtMost gives x t before before
  asks-none before = at-most before before (inl (λ calls b. b))

  pub asks-same : (before after : Option (List Call)) → IsSameCalls before after → AsksOnceAtMost gives x t before after
  asks-same before after h = at-most before after (inl h)

  -- this service was asked, by this name, on these
  module _ (n : Name) (vs : List Value) (o : Outcome) (p : n ≡ found.0.service) (h : vs ≡ found.0.inputs) (g : o ≡ gives n vs t.attempt) where
    pub its-asked : IsAsked gives r t its o
    its-asked = record { of_ticket = refl; task = its-task; given = g ∙ (λ i. gives (p i) (h i) t.attempt) }

    abbrev call : Call
    call = record { service = n; inputs = vs; attempt = t.attempt }

    its-call : call ≡ call_for its
    its-call = λ i. record { service = p i; inputs = h i; attempt = t.attempt }

    pub opens : StandsOpen gives r
    opens = stands-open gives r r x e st t its o its-asked

    pub asks-one : (before after : Option (List Call)) → IsCalled before after call → AsksOnceAtMost gives x t before after
    asks-one before after c = at-most before after (inr (subst (IsCalled before after) its-call c))

    module _ (s : OpenRun) where
      pub own-tells : {E : Type 0} (before after : Option (List Call)) → IsCalled before after call → (d : Result Accepted E)
          → IfOk d (Accepts gives r s x e st t its o its-asked) → IfOk d (λ a. AsksAndAccepts gives x (run_of s) t before after a)
      own-tells before after c (Ok a) k = (
        its,
        refl,
        subst (IsCalled before after) its-call c,
        subst (λ z. IsAccepting gives z (run_of s) its (gives its.service its.inputs t.attempt) a) e
            (subst (λ z. IsAccepting gives (run_of r) (run_of s) its z a) its-asked.given (k gives its opens its-asked).1),
      )
      own-tells before after c (Err m) k = tt

      pub own-stays : {E : Type 0} (d : Result Accepted E) → OnErr d (Stays gives r s x e st t its o its-asked) → OnErr d (run_of s ≡ x)
      own-stays (Ok a) k = tt
      own-stays (Err m) k = (k gives opens).same ∙ e
