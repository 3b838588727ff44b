-- From the text to print, or the refusal, to the status: what the top calls promise.
use Rattle.std.specs.Prelude.{Bool, Err, IfOk, IsUtf8, List, None, OnErr, OnOk, Ok, Option, Result, Some, refl, ℕ, ◌+◌, ◌↔◌, ◌≡◌, ◌≢◌}
use Rattle.std.proofs.Common.{subst, sym, ◌∙◌}
use Rattle.tv_value.specs.Values.{Name, Text}
use Rattle.tv_gate.specs.Calls.{Call}
use Rattle.tv_gate.specs.Outcomes.{Giving}
use Rattle.tv_io.specs.ReadOf.{TakesAtMost}
use Rattle.tv_io.specs.declared.sink.Sink.{Ghosts as SinkGhosts}
use Rattle.tv_io.specs.declared.source.Source.{Ghosts as SourceGhosts}
use Rattle.tv_top.specs.Answers.{Answer, answer_of, byte_limit}
use Rattle.tv_top.specs.Asked.{ended, refusal_line, refusal_status}
use Rattle.tv_top.specs.Asking.{IsAsked, IsAskedFor, ToldCalls}
use Rattle.tv_top.specs.Headline.{Cause, IsAnswered, IsComplete, IsLine, IsSaid, Leaving, RefusalCause, Sink, Source, left_by, read_whole, sink_told, source_told}
use Rattle.tv_top.specs.Lines.{fault_line}
use Rattle.tv_top.specs.Promised.{IsFinished, IsPromised, IsWritten, OfSource, Upgrades}
use Rattle.tv_top.specs.Words.{Command, ReadsNothing, check, forward, gen, lineage, run, trace, upgrade}
use Rattle.tv_top.specs.declared.refusal.Refusal.{Refusal}
use Rattle.tv_top.specs.declared.status.Status.{Status}
use Rattle.tv_top.specs.declared.status.Status.TheVariants.{Done, Usage, ReadFault, TooLong, NotJson, Form, Check, NotBuilt, NoSuchElement, WriteFault, NoMemory}
use Rattle.tv_top.proofs.Completed.{completed}
use Rattle.tv_top.proofs.Upgrading.{upgrade-read}

-- ---- facts of what a command reads

of-source :
    (o : Option Command) (s : Source) (P Q : Source → Type 0) → ((t : Source) → P t → Q t) → OfSource o s P → OfSource o s Q
of-source None s P Q f h = λ t same. f t (h t same)
of-source (Some run) s P Q f h = f s h
of-source (Some check) s P Q f h = f s h
of-source (Some trace) s P Q f h = f s h
of-source (Some (lineage p q)) s P Q f h = f s h
of-source (Some (forward p q)) s P Q f h = f s h
of-source (Some upgrade) s P Q f h = f s h
of-source (Some (gen n)) s P Q f h = λ t same. f t (h t same)

-- one that tells nothing
abbrev still : Source
still = record { left = None; left_after = None; faults = 0; faults_after = 0 }

some-source : (o : Option Command) (s : Source) (P : Source → Type 0) → OfSource o s P → (t : Source) × P t
some-source None s P h = (still, h still refl)
some-source (Some run) s P h = (s, h)
some-source (Some check) s P h = (s, h)
some-source (Some trace) s P h = (s, h)
some-source (Some (lineage p q)) s P h = (s, h)
some-source (Some (forward p q)) s P h = (s, h)
some-source (Some upgrade) s P h = (s, h)
some-source (Some (gen n)) s P h = (still, h still refl)

-- ---- causes and lines

module _ (left : Leaving) (answer : List ℕ → Answer) (s : Source) (out err : Sink) where
  refusal-cause : (status : Status) → RefusalCause left answer s status → Cause left answer s out status
  refusal-cause Done h = absurd h
  refusal-cause Usage h = h
  refusal-cause ReadFault h = h
  refusal-cause TooLong h = h
  refusal-cause NotJson h = h
  refusal-cause Form h = h
  refusal-cause Check h = h
  refusal-cause NotBuilt h = h
  refusal-cause NoSuchElement h = h
  refusal-cause WriteFault h = absurd h
  refusal-cause NoMemory h = tt

  cause-of : (x : Result Text Refusal) (status : Status) → IsAnswered left answer s x → IsFinished x out err status
      → Cause left answer s out status
  cause-of (Ok text) Done a w = λ bytes e. (text, (a bytes e).0, (a bytes e).1, w)
  cause-of (Ok text) Usage a w = absurd w
  cause-of (Ok text) ReadFault a w = absurd w
  cause-of (Ok text) TooLong a w = absurd w
  cause-of (Ok text) NotJson a w = absurd w
  cause-of (Ok text) Form a w = absurd w
  cause-of (Ok text) Check a w = absurd w
  cause-of (Ok text) NotBuilt a w = absurd w
  cause-of (Ok text) NoSuchElement a w = absurd w
  cause-of (Ok text) WriteFault a w = (w.0, λ bytes e. (text, (a bytes e).0, (a bytes e).1, w.1))
  cause-of (Ok text) NoMemory a w = absurd w
  cause-of (Err r) status a w = subst (λ st. Cause left answer s out st) (sym w.0) (refusal-cause (refusal_status r) a.0)

  said-of : (x : Result Text Refusal) (status : Status) → IsAnswered left answer s x → IsFinished x out err status → status ≢ Done
      → IsSaid answer s err status
  said-of (Ok text) Done a w n = absurd (n refl)
  said-of (Ok text) Usage a w n = absurd w
  said-of (Ok text) ReadFault a w n = absurd w
  said-of (Ok text) TooLong a w n = absurd w
  said-of (Ok text) NotJson a w n = absurd w
  said-of (Ok text) Form a w n = absurd w
  said-of (Ok text) Check a w n = absurd w
  said-of (Ok text) NotBuilt a w n = absurd w
  said-of (Ok text) NoSuchElement a w n = absurd w
  said-of (Ok text) WriteFault a w n = (fault_line WriteFault, refl, w.2)
  said-of (Ok text) NoMemory a w n = absurd w
  said-of (Err r) status a w n = subst (λ st. IsSaid answer s err st) (sym w.0) (refusal_line r, a.1, w.1)

  -- a refusal isn't an answer that was written
  isnt-done : (r : Refusal) → IsAnswered left answer s (Err r) → refusal_status r ≢ Done
  isnt-done r a e = subst (λ st. IsLine answer s st (refusal_line r)) e a.1

-- ---- the status of words, and what is left alone

module _ (o : Option Command) (out err : Sink) where
  usage-of : (x : Result Text Refusal) (status : Status) → IsFinished x out err status
      → (ended x ≢ NoMemory → ((ended x ≡ Usage) ↔ (o ≡ None))) → status ≢ NoMemory → ((status ≡ Usage) ↔ (o ≡ None))
  usage-of (Ok text) Done w u m = u m
  usage-of (Ok text) Usage w u m = absurd w
  usage-of (Ok text) ReadFault w u m = absurd w
  usage-of (Ok text) TooLong w u m = absurd w
  usage-of (Ok text) NotJson w u m = absurd w
  usage-of (Ok text) Form w u m = absurd w
  usage-of (Ok text) Check w u m = absurd w
  usage-of (Ok text) NotBuilt w u m = absurd w
  usage-of (Ok text) NoSuchElement w u m = absurd w
  usage-of (Ok text) WriteFault w u m = (λ e. absurd (cc e), λ n. absurd (cc ((u (λ e. cc e)).1 n)))
  usage-of (Ok text) NoMemory w u m = absurd w
  usage-of (Err r) status w u m =
      subst (λ st. st ≢ NoMemory → ((st ≡ Usage) ↔ (o ≡ None))) (sym w.0) u m

  silent-of : {K : Type 0} (old new : K) (x : Result Text Refusal) (status : Status) → IsFinished x out err status
      → OnErr x (new ≡ old) → status ≢ Done → status ≢ WriteFault → new ≡ old
  silent-of old new (Ok text) Done w h d f = absurd (d refl)
  silent-of old new (Ok text) Usage w h d f = absurd w
  silent-of old new (Ok text) ReadFault w h d f = absurd w
  silent-of old new (Ok text) TooLong w h d f = absurd w
  silent-of old new (Ok text) NotJson w h d f = absurd w
  silent-of old new (Ok text) Form w h d f = absurd w
  silent-of old new (Ok text) Check w h d f = absurd w
  silent-of old new (Ok text) NotBuilt w h d f = absurd w
  silent-of old new (Ok text) NoSuchElement w h d f = absurd w
  silent-of old new (Ok text) WriteFault w h d f = absurd (f refl)
  silent-of old new (Ok text) NoMemory w h d f = absurd w
  silent-of old new (Err r) status w h d f = h

  unsaid-of : {E : Type 0} (old new : E) (left : Leaving) (answer : List ℕ → Answer) (s : Source) (x : Result Text Refusal)
      (status : Status) → IsAnswered left answer s x → IsFinished x out err status → OnOk x (status ≡ Done → new ≡ old)
      → status ≡ Done → new ≡ old
  unsaid-of old new left answer s (Ok text) status a w h e = h e
  unsaid-of old new left answer s (Err r) status a w h e = absurd (isnt-done left answer s out err r a (sym w.0 ∙ e))

-- ---- what `upgrade` writes

module _ (gives : Giving) (knows : Name → Bool) (s : Source) (out err : Sink) where
  -- of a text that was written whole
  upgrade-sent : (x : Result Text Refusal) (status : Status)
      → IsAnswered read_whole (answer_of gives knows (Some upgrade)) s x → IsFinished x out err status → IfOk x (λ t. IsUtf8 t)
      → status ≡ Done → Upgrades knows s out
  upgrade-sent (Ok text) status a w u done =
      λ bytes e. (text, subst (IsWritten text out err) done w, upgrade-read gives knows bytes text u (a bytes e).0)
  upgrade-sent (Err r) status a w u done = absurd (isnt-done read_whole (answer_of gives knows (Some upgrade)) s out err r a (sym w.0 ∙ done))

  upgraded-of : (o : Option Command) (x : Result Text Refusal) (status : Status)
      → OfSource o s (λ s. IsAnswered (left_by o) (answer_of gives knows o) s x) → IsFinished x out err status → IfOk x (λ t. IsUtf8 t)
      → o ≡ Some upgrade → status ≡ Done → Upgrades knows s out
  upgraded-of o x status a w u e done =
      upgrade-sent x status (subst (λ p. OfSource p s (λ s. IsAnswered (left_by p) (answer_of gives knows p) s x)) e a) w u done

-- ---- the promise

pub promised : {S K E : Type 0} (of_source : SourceGhosts S) (of_out : SinkGhosts K) (of_err : SinkGhosts E) (gives : Giving)
    (knows : Name → Bool) (o : Option Command) (source source_after : S) (out out_after : K) (err err_after : E) (status : Status)
    (x : Result Text Refusal)
    → OfSource o (source_told of_source source source_after) (λ s. IsAnswered (left_by o) (answer_of gives knows o) s x)
    → (ended x ≢ NoMemory → ((ended x ≡ Usage) ↔ (o ≡ None)))
    → TakesAtMost (byte_limit + 1) (of_source.left source) (of_source.left source_after)
    → (ReadsNothing o → source_after ≡ source)
    → IsFinished x (sink_told of_out out out_after) (sink_told of_err err err_after) status
    → OnErr x (out_after ≡ out) → OnOk x (status ≡ Done → err_after ≡ err) → IfOk x (λ t. IsUtf8 t)
    → IsPromised of_source of_out of_err gives knows o source source_after out out_after err err_after status
promised of_source of_out of_err gives knows o source source_after out out_after err err_after status x a u t n w silent unsaid utf8 =
    let s = source_told of_source source source_after in
    let k = sink_told of_out out out_after in
    let l = sink_told of_err err err_after in
    let left = left_by o in
    let answer = answer_of gives knows o in
    let some = some-source o s (λ s. IsAnswered left answer s x) a in
    let cause = of-source o s (λ s. IsAnswered left answer s x) (λ s. Cause left answer s k status)
    (λ s h. cause-of left answer s k l x status h w) a in
    record {
      cause = cause;
      complete = of-source o s (λ s. Cause left answer s k status) (λ s. IsComplete answer s k status)
          (λ s h. completed left answer s k status h) cause;
      usage = usage-of o k l x status w u;
      taken = t;
      unread = n;
      silent = silent-of o k l out out_after x status w silent;
      upgraded = upgraded-of gives knows s k l o x status a w utf8;
      unsaid = unsaid-of o k l err err_after left answer some.0 x status some.1 w unsaid;
      said = λ d. of-source o s (λ s. IsAnswered left answer s x) (λ s. IsSaid answer s l status)
          (λ s h. said-of left answer s k l x status h w d) a;
    }

-- what is asked for a text or a refusal is asked by the status
pub asked-of : (asks : List ℕ → List Call) (s : Source) (before after : ToldCalls) (out err : Sink) (x : Result Text Refusal)
    (status : Status) → IsFinished x out err status → IsAskedFor asks s before after x → IsAsked asks s before after status
asked-of asks s before after out err (Ok text) Done w h = h
asked-of asks s before after out err (Ok text) Usage w h = absurd w
asked-of asks s before after out err (Ok text) ReadFault w h = absurd w
asked-of asks s before after out err (Ok text) TooLong w h = absurd w
asked-of asks s before after out err (Ok text) NotJson w h = absurd w
asked-of asks s before after out err (Ok text) Form w h = absurd w
asked-of asks s before after out err (Ok text) Check w h = absurd w
asked-of asks s before after out err (Ok text) NotBuilt w h = absurd w
asked-of asks s before after out err (Ok text) NoSuchElement w h = absurd w
asked-of asks s before after out err (Ok text) WriteFault w h = h
asked-of asks s before after out err (Ok text) NoMemory w h = absurd w
asked-of asks s before after out err (Err r) status w h = subst (λ st. IsAsked asks s before after st) (sym w.0) h
