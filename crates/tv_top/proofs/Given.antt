-- Refusals: why they come, with their lines, for what was read and for what is answered to it.
use Rattle.std.specs.Prelude.{◌≡◌, ◌≢◌, ℕ, ◌<◌, List, [], length, Bool, true, false, nat_lt, Option, Some, None, Result, Ok, Err, if◌then◌else◌, refl, ◌⊎◌}
use Rattle.std.proofs.Common.{ap, sym, subst, ◌∙◌, inl, inr}
use Rattle.std.proofs.lemmas.Bool.{lt-ltb}
use Rattle.serde_json.specs.Data.{Data}
use Rattle.tv_value.specs.Nested.{Place}
use Rattle.tv_value.specs.Values.{Text, Name}
use Rattle.tv_gate.specs.Outcomes.{Giving}
use Rattle.tv_flow.specs.Complaints as form
use Rattle.tv_flow.specs.Flows.{Document}
use Rattle.tv_flow.specs.Forms.{form_of}
use Rattle.tv_check.specs.Faulty as checking
use Rattle.tv_check.specs.Passes.{checked}
use Rattle.tv_check.specs.RunViews.{run_view}
use Rattle.tv_check.specs.declared.run.CheckedRun.{CheckedRun}
use Rattle.tv_io.specs.ReadOf.{IsReadWhole}
use Rattle.tv_model.specs.RowsOfSize.{generated}
use Rattle.tv_top.specs.Words.{Command, run, check, trace, lineage, forward, upgrade, gen}
use Rattle.tv_top.specs.Built.{is_unbuilt}
use Rattle.tv_top.specs.Answers.{Answer, Reading, StatusLine, always, answer_built, answer_of, answer_to, answer_to_reading, byte_limit, forward_text, generated_reading, json_of, lineage_text, reading_for, reading_of, reading_of_json, unless_absent, unless_complaint, unless_misformed}
use Rattle.tv_top.specs.Asked.{GivesAnswer, GivesRun, ended, line_of, refusal_line, refusal_status}
use Rattle.tv_top.specs.Headline.{IsAnswered, IsAnswersLine, IsLine, IsRead, IsReadRefusal, IsRefusal, IsRefused, IsRefusedSo, Leaving, OfDocument, RefusalCause, Source, read_whole, unread}
use Rattle.tv_top.specs.declared.status.Status.{Status}
use Rattle.tv_top.specs.declared.status.Status.TheVariants.{Done, Usage, ReadFault, TooLong, NotJson, Form, Check, NotBuilt, NoSuchElement, WriteFault, NoMemory}
use Rattle.tv_top.specs.declared.refusal.Refusal.{Refusal}
use Rattle.tv_top.specs.declared.refusal.Refusal.TheVariants as why

-- the statuses of refusals that the bytes and the command decide
abbrev Possible : Status → Type 0
Possible Done = ⊥
Possible Usage = ⊥
Possible ReadFault = ⊥
Possible TooLong = Unit {0}
Possible NotJson = Unit {0}
Possible Form = Unit {0}
Possible Check = Unit {0}
Possible NotBuilt = Unit {0}
Possible NoSuchElement = Unit {0}
Possible WriteFault = ⊥
Possible NoMemory = ⊥

-- a refusal has one of them
abbrev IsPossible : {A : Type 0} → Result A StatusLine → Type 0
IsPossible (Ok a) = Unit {0}
IsPossible (Err r) = Possible r.0

-- ---- what is read, and what is answered, has them

either : {A : Type 0} (b : Bool) (x y : Result A StatusLine) → IsPossible x → IsPossible y → IsPossible (if b then x else y)
either true x y h k = h
either false x y h k = k

unless-complaint : (d : Document) (o : Option checking.CheckComplaint) → IsPossible (unless_complaint d o)
unless-complaint d None = tt
unless-complaint d (Some c) = tt

-- a document that is checked isn't refused for its words
pub not-usage :
    (d : Document) (o : Option checking.CheckComplaint) (r : Result CheckedRun Refusal) → GivesRun r (unless_complaint d o) → ended r ≢ Usage
not-usage d o (Ok run') h = λ e. cc e
not-usage d o (Err r) (inl h) = λ e. subst Possible e (subst IsPossible h (unless-complaint d o))
not-usage d o (Err r) (inr m) = λ e. cc (sym (ap refusal_status m) ∙ e)

-- nor for an element
abbrev IsNoElement : Reading → Type 0
IsNoElement (Ok d) = Unit {0}
IsNoElement (Err r) = r.0 ≢ NoSuchElement

no-element : (d : Document) (o : Option checking.CheckComplaint) → IsNoElement (unless_complaint d o)
no-element d None = tt
no-element d (Some c) = λ e. cc e

pub not-element :
    (d : Document) (o : Option checking.CheckComplaint) (r : Result CheckedRun Refusal) → GivesRun r (unless_complaint d o)
    → ended r ≢ NoSuchElement
not-element d o (Ok run') h = λ e. cc e
not-element d o (Err r) (inl h) = λ e. subst IsNoElement h (no-element d o) e
not-element d o (Err r) (inr m) = λ e. cc (sym (ap refusal_status m) ∙ e)

module _ (knows : Name → Bool) where
  unless-misformed : (r : Result Document form.Complaint) → IsPossible (unless_misformed knows r)
  unless-misformed (Ok d) = unless-complaint d (checked knows d)
  unless-misformed (Err c) = tt

  of-json : (o : Option Data) → IsPossible (reading_of_json knows o)
  of-json None = tt
  of-json (Some d) = unless-misformed (form_of d)

  of-bytes : (bytes : List ℕ) → IsPossible (reading_of knows bytes)
  of-bytes bytes = either (nat_lt byte_limit (length bytes)) (Err (always TooLong)) (reading_of_json knows (json_of bytes)) tt (of-json (json_of bytes))

  -- bytes past the limit
  pub too-long : (bytes : List ℕ) → byte_limit < length bytes → reading_of knows bytes ≡ Err (always TooLong)
  too-long bytes h = ap (λ b. if b then Err (always TooLong) else reading_of_json knows (json_of bytes)) (lt-ltb byte_limit (length bytes) h)

unless-absent : (p : Name) (q : Place) (o : Option Text) → IsPossible (unless_absent p q o)
unless-absent p q None = tt
unless-absent p q (Some text) = tt

of-built : (gives : Giving) (command : Command) (d : Document) → IsPossible (answer_built gives command d)
of-built gives run d = tt
of-built gives check d = tt
of-built gives trace d = tt
of-built gives (lineage p q) d = unless-absent p q (lineage_text gives d p q)
of-built gives (forward p q) d = unless-absent p q (forward_text gives d p q)
of-built gives upgrade d = tt
of-built gives (gen n) d = tt

of-document : (gives : Giving) (command : Command) (d : Document) → IsPossible (answer_to gives command d)
of-document gives command d = either (is_unbuilt command d) (Err (always NotBuilt)) (answer_built gives command d) tt (of-built gives command d)

-- ---- a refusal that the bytes decide

-- it is the answer to the bytes that the source had, where it tells them, and it was left so
abbrev IsDecided : {A : Type 0} → Leaving → (List ℕ → Result A StatusLine) → Source → StatusLine → Type 0
IsDecided left f s r = ((bytes : List ℕ) × (f bytes ≡ Err r)) × OfDocument s (λ bytes. (f bytes ≡ Err r) × left s bytes)

module _ {A : Type 0} (left : Leaving) (f : List ℕ → Result A StatusLine) (s : Source) where
  not-read : (status : Status) (line : Text) → IsDecided left f s (status, line) → IsRefusal f s status
  not-read status line h bytes e = (line, (h.1 bytes e).0)

  when-read : (status : Status) (line : Text) → IsDecided left f s (status, line) → IsReadRefusal left f s status
  when-read status line h bytes e = ((line, (h.1 bytes e).0), (h.1 bytes e).1)

  cause : (status : Status) (line : Text) → Possible status → IsDecided left f s (status, line) → RefusalCause left f s status
  cause Done line p h = p
  cause Usage line p h = absurd p
  cause ReadFault line p h = absurd p
  cause TooLong line p h = not-read TooLong line h
  cause NotJson line p h = when-read NotJson line h
  cause Form line p h = when-read Form line h
  cause Check line p h = when-read Check line h
  cause NotBuilt line p h = when-read NotBuilt line h
  cause NoSuchElement line p h = when-read NoSuchElement line h
  cause WriteFault line p h = p
  cause NoMemory line p h = tt

  told : (status : Status) (line : Text) → IsDecided left f s (status, line) → IsAnswersLine f s status line
  told status line h = (h.0, λ bytes e. (h.1 bytes e).0)

  line-is : (r : Refusal) → Possible (refusal_status r) → IsDecided left f s (line_of r) → IsLine f s (refusal_status r) (refusal_line r)
  line-is (why.Plain Done) p h = p
  line-is (why.Plain Usage) p h = refl
  line-is (why.Plain ReadFault) p h = refl
  line-is (why.Plain TooLong) p h = refl
  line-is (why.Plain NotJson) p h = refl
  line-is (why.Plain Form) p h = told Form [] h
  line-is (why.Plain Check) p h = told Check [] h
  line-is (why.Plain NotBuilt) p h = refl
  line-is (why.Plain NoSuchElement) p h = told NoSuchElement [] h
  line-is (why.Plain WriteFault) p h = refl
  line-is (why.Plain NoMemory) p h = refl
  line-is (why.Form line) p h = told Form line h
  line-is (why.Check line) p h = told Check line h
  line-is (why.NoSuchElement line) p h = told NoSuchElement line h

  decided : (r : Refusal) → Possible (refusal_status r) → IsDecided left f s (line_of r) → IsRefusedSo left f s r
  decided r p h = (cause (refusal_status r) (refusal_line r) p h, line-is r p h)

  -- or memory was wanting
  unless-memory : (r : Refusal) → IsDecided left f s (line_of r) × Possible (refusal_status r) ⊎ (r ≡ why.Plain NoMemory) → IsRefusedSo left f s r
  unless-memory r (inl h) = decided r h.1 h.0
  unless-memory r (inr m) = subst (IsRefusedSo left f s) (sym m) (tt, refl)

-- ---- what was read

module _ (knows : Name → Bool) (s : Source) (read : List ℕ) (w : IsReadWhole s.left s.left_after read) where
  of-read : (r : Refusal) → (reading_of knows read ≡ Err (line_of r)) ⊎ (r ≡ why.Plain NoMemory) → IsRefusedSo read_whole (reading_of knows) s r
  of-read r (inl h) =
      unless-memory read_whole (reading_of knows) s r
      (inl (((read, h), λ bytes e. (subst (λ b. reading_of knows b ≡ Err (line_of r)) (w bytes e).0 h, (w bytes e).1)), subst IsPossible h (of-bytes knows read)))
  of-read r (inr m) = unless-memory read_whole (reading_of knows) s r (inr m)

  -- the document that was read, or the refusal
  pub read-so : (r : Result CheckedRun Refusal) → GivesRun r (reading_of knows read) → IsRead read_whole (reading_of knows) s r
  read-so (Ok d) h = ((read, h), λ bytes e. (subst (λ b. reading_of knows b ≡ Ok (run_view d)) (w bytes e).0 h, (w bytes e).1))
  read-so (Err r) h = of-read r h

-- ---- what was generated

module _ (knows : Name → Bool) (n : ℕ) (s : Source) (same : s.left_after ≡ s.left) where
  -- the generated document, or the refusal; nothing is read
  pub generated-so : (r : Result CheckedRun Refusal) → GivesRun r (generated_reading knows n)
      → IsRead unread (reading_for knows (gen n)) s r
  generated-so (Ok d) h = (([], h), λ bytes e. (h, same ∙ e))
  generated-so (Err r) (inl h) =
      unless-memory unread (reading_for knows (gen n)) s r
      (inl ((([], h), λ bytes e. (h, same ∙ e)), subst IsPossible h (unless-complaint (generated n) (checked knows (generated n)))))
  generated-so (Err r) (inr m) = unless-memory unread (reading_for knows (gen n)) s r (inr m)

-- ---- what is answered

module _ (gives : Giving) (knows : Name → Bool) (command : Command) (left : Leaving) (s : Source) where
  abbrev answering : List ℕ → Answer
  answering bytes = answer_of gives knows (Some command) bytes

  module _ (d : CheckedRun) (read : IsRead left (reading_for knows command) s (Ok d)) where
    on-read : (bytes : List ℕ) (a : Answer) → reading_for knows command bytes ≡ Ok (run_view d) → answer_to gives command (run_view d) ≡ a → answering bytes ≡ a
    on-read bytes a k h = ap (answer_to_reading gives command) k ∙ h

    of-answer : (r : Refusal) → (answer_to gives command (run_view d) ≡ Err (line_of r)) ⊎ (r ≡ why.Plain NoMemory) → IsRefusedSo left answering s r
    of-answer r (inl h) =
        unless-memory left answering s r
        (inl (
          ((read.0.0, on-read read.0.0 (Err (line_of r)) read.0.1 h), λ bytes e. (on-read bytes (Err (line_of r)) (read.1 bytes e).0 h, (read.1 bytes e).1)),
          subst IsPossible h (of-document gives command (run_view d)),
        ))
    of-answer r (inr m) = unless-memory left answering s r (inr m)

    -- what is answered to the document that was read
    pub answered-so : (r : Result Text Refusal) → GivesAnswer r (answer_to gives command (run_view d)) → IsAnswered left answering s r
    answered-so (Ok text) h = λ bytes e. (on-read bytes (Ok text) (read.1 bytes e).0 h, (read.1 bytes e).1)
    answered-so (Err r) h = of-answer r h

  -- a document that is refused is the answer
  pub refused-so : (r : Refusal) → IsRefusedSo left (reading_for knows command) s r → IsRefusedSo left answering s r
  refused-so r h = (cause-so (refusal_status r) h.0, line-so (refusal_status r) (refusal_line r) h.1)
    where
      on-err : (bytes : List ℕ) (x : StatusLine) → reading_for knows command bytes ≡ Err x → answering bytes ≡ Err x
      on-err bytes x k = ap (answer_to_reading gives command) k

      refusal-so : (status : Status) (bytes : List ℕ) → IsRefused (reading_for knows command) status bytes → IsRefused answering status bytes
      refusal-so status bytes k = (k.0, on-err bytes (status, k.0) k.1)

      cause-so : (status : Status) → RefusalCause left (reading_for knows command) s status → RefusalCause left answering s status
      cause-so Done k = k
      cause-so Usage k = λ bytes e. refusal-so Usage bytes (k bytes e)
      cause-so ReadFault k = k
      cause-so TooLong k = λ bytes e. refusal-so TooLong bytes (k bytes e)
      cause-so NotJson k = λ bytes e. (refusal-so NotJson bytes (k bytes e).0, (k bytes e).1)
      cause-so Form k = λ bytes e. (refusal-so Form bytes (k bytes e).0, (k bytes e).1)
      cause-so Check k = λ bytes e. (refusal-so Check bytes (k bytes e).0, (k bytes e).1)
      cause-so NotBuilt k = λ bytes e. (refusal-so NotBuilt bytes (k bytes e).0, (k bytes e).1)
      cause-so NoSuchElement k = λ bytes e. (refusal-so NoSuchElement bytes (k bytes e).0, (k bytes e).1)
      cause-so WriteFault k = k
      cause-so NoMemory k = k

      both-so : (status : Status) (line : Text) → IsAnswersLine (reading_for knows command) s status line → IsAnswersLine answering s status line
      both-so status line k = ((k.0.0, on-err k.0.0 (status, line) k.0.1), λ bytes e. on-err bytes (status, line) (k.1 bytes e))

      line-so : (status : Status) (line : Text) → IsLine (reading_for knows command) s status line → IsLine answering s status line
      line-so Done line k = k
      line-so Usage line k = k
      line-so ReadFault line k = k
      line-so TooLong line k = k
      line-so NotJson line k = k
      line-so Form line k = both-so Form line k
      line-so Check line k = both-so Check line k
      line-so NotBuilt line k = k
      line-so NoSuchElement line k = both-so NoSuchElement line k
      line-so WriteFault line k = k
      line-so NoMemory line k = k
