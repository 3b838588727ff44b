-- What is asked, from the document that was read to the status.
use Rattle.std.specs.Prelude.{◌≡◌, ◌≢◌, ◌⊎◌, ℕ, List, [], Bool, None, Option, Some, Result, Ok, Err}
use Rattle.std.proofs.Common.{ap, refl, sym, subst, inl, inr}
use Rattle.std.proofs.lemmas.List.{append-nil}
use Rattle.tv_value.specs.Values.{Name, Text}
use Rattle.tv_gate.specs.Calls.{Call, IsSameCalls}
use Rattle.tv_gate.specs.Outcomes.{Giving}
use Rattle.tv_flow.specs.Flows.{Document}
use Rattle.tv_check.specs.Faulty as checking
use Rattle.tv_check.specs.RunViews.{run_view}
use Rattle.tv_check.specs.declared.run.CheckedRun.{CheckedRun}
use Rattle.tv_top.specs.Words.{Command}
use Rattle.tv_top.specs.Answers.{Reading, StatusLine, reading_for, unless_complaint}
use Rattle.tv_top.specs.Asked.{GivesRun, refusal_status}
use Rattle.tv_top.specs.Asking.{AsksThese, BeginsThese, GivesAsks, IsAsked, IsAskedFor, OfRead, RefusalAsks, ToldCalls, asks_of, asks_to, asks_to_reading}
use Rattle.tv_top.specs.Headline.{IsRead, Leaving, RefusalCause, Source}
use Rattle.tv_top.specs.declared.refusal.Refusal.{Refusal}
use Rattle.tv_top.specs.declared.refusal.Refusal.TheVariants as why
use Rattle.tv_top.specs.declared.status.Status.{Status}
use Rattle.tv_top.specs.declared.status.Status.TheVariants.{Done, Usage, ReadFault, TooLong, NotJson, Form, Check, NotBuilt, NoSuchElement, WriteFault, NoMemory}

-- all of them are a beginning of them
pub all-begin : (before after : ToldCalls) (more : List Call) → AsksThese before after more → BeginsThese before after more
all-begin before after more h calls told = (more, h calls told, ([], sym (append-nil more)))

module _ (gives : Giving) (knows : Name → Bool) (command : Command) (left : Leaving) (s : Source) (d : CheckedRun) (read : IsRead left (reading_for knows command) s (Ok d)) (before after : ToldCalls) where
  abbrev asking : List ℕ → List Call
  asking bytes = asks_of gives knows (Some command) bytes

  of-bytes : (P : List Call → Type 0) → P (asks_to gives command (run_view d)) → OfRead s (λ bytes. P (asking bytes))
  of-bytes P h =
      let on : (bytes : List ℕ) → reading_for knows command bytes ≡ Ok (run_view d) → P (asking bytes) = λ bytes k. subst P (sym (ap (asks_to_reading gives command) k)) h in
      ((read.0.0, on read.0.0 read.0.1), λ bytes e. on bytes (read.1 bytes e).0)

  of-refusal : (status : Status) → RefusalAsks before after (asks_to gives command (run_view d)) status → IsAsked asking s before after status
  of-refusal Done h = absurd h
  of-refusal Usage h = absurd h
  of-refusal ReadFault h = absurd h
  of-refusal TooLong h = absurd h
  of-refusal NotJson h = absurd h
  of-refusal Form h = absurd h
  of-refusal Check h = absurd h
  of-refusal NotBuilt h = h
  of-refusal NoSuchElement h = of-bytes (AsksThese before after) h
  of-refusal WriteFault h = absurd h
  of-refusal NoMemory h = inr (of-bytes (BeginsThese before after) h)

  -- what the document that was read takes
  pub asked-so : (r : Result Text Refusal) → GivesAsks before after r (asks_to gives command (run_view d)) → IsAskedFor asking s before after r
  asked-so (Ok text) h = of-bytes (AsksThese before after) h
  asked-so (Err r) h = of-refusal (refusal_status r) h

-- a refusal that comes before anything is asked; only after it an element is looked for
pub unasked :
    {A : Type 0} (left : Leaving) (f : List ℕ → Result A StatusLine) (asks : List ℕ → List Call) (s : Source) (before after : ToldCalls)
    (status : Status) → RefusalCause left f s status → status ≢ NoSuchElement → IsSameCalls before after → IsAsked asks s before after status
unasked left f asks s before after Done cause there same = absurd cause
unasked left f asks s before after Usage cause there same = same
unasked left f asks s before after ReadFault cause there same = same
unasked left f asks s before after TooLong cause there same = same
unasked left f asks s before after NotJson cause there same = same
unasked left f asks s before after Form cause there same = same
unasked left f asks s before after Check cause there same = same
unasked left f asks s before after NotBuilt cause there same = same
unasked left f asks s before after NoSuchElement cause there same = absurd (there refl)
unasked left f asks s before after WriteFault cause there same = absurd cause
unasked left f asks s before after NoMemory cause there same = inl same

-- nor of a document that is checked and not accepted
module _ (asks : List ℕ → List Call) (s : Source) (before after : ToldCalls) (same : IsSameCalls before after) where
  abbrev status_in : Reading → Status
  status_in (Ok d) = Done
  status_in (Err r) = r.0

  pub unasked-checked : (d : Document) (o : Option checking.CheckComplaint) (r : Refusal) → GivesRun (Err r) (unless_complaint d o) → IsAsked asks s before after (refusal_status r)
  unasked-checked d None r (inl h) = absurd (cc h)
  unasked-checked d (Some c) r (inl h) = subst (λ st. IsAsked asks s before after st) (ap status_in h) same
  unasked-checked d o r (inr m) = subst (λ st. IsAsked asks s before after st) (sym (ap refusal_status m)) (inl same)

-- what the refusal of an element that isn't there took
pub absent-asks : (before after : ToldCalls) (more : List Call) (line : Text) (r : Refusal)
    → (r ≡ why.NoSuchElement line) ⊎ (r ≡ why.Plain NoMemory) → AsksThese before after more
    → RefusalAsks before after more (refusal_status r)
absent-asks before after more line r (inl e) h = subst (λ x. RefusalAsks before after more (refusal_status x)) (sym e) h
absent-asks before after more line r (inr e) h =
    subst (λ x. RefusalAsks before after more (refusal_status x)) (sym e) (all-begin before after more h)
