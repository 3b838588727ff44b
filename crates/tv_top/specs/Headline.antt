-- The words of the headline: what each status says of the bytes that were read and written.
use Rattle.std.specs.Prelude.{◌≡◌, ℕ, List, [], Option, None, Some, ◌⊎◌, Result, Ok, Err}
use Rattle.tv_value.specs.Values.{Text}
use Rattle.tv_io.specs.Rising.{HasRisen}
use Rattle.tv_io.specs.declared.source.Source.{Ghosts as SourceGhosts}
use Rattle.tv_io.specs.declared.sink.Sink.{Ghosts as SinkGhosts}
use Rattle.tv_io.specs.SentOf.{IsSentOf, IsCutShort}
use Rattle.tv_check.specs.RunViews.{run_view}
use Rattle.tv_check.specs.declared.run.CheckedRun.{CheckedRun}
use Rattle.tv_top.specs.Answers.{Answer, Reading, StatusLine}
use Rattle.tv_top.specs.Lines.{fault_line}
use Rattle.tv_top.specs.Words.{Command, check, forward, gen, lineage, run, trace, upgrade}
use Rattle.tv_top.specs.Asked.{refusal_status, refusal_line}
use Rattle.tv_top.specs.declared.refusal.Refusal.{Refusal}
use Rattle.tv_top.specs.declared.status.Status.{Status}
use Rattle.tv_top.specs.declared.status.Status.TheVariants.{Done, Usage, ReadFault, TooLong, NotJson, Form, Check, NotBuilt, NoSuchElement, WriteFault, NoMemory}

-- bytes that a source or a sink may tell
abbrev pub Told : Type 0
Told = Option (List ℕ)

-- what a source tells before and after a call: the bytes it has left, and its count of faults
pub record Source : Type 0 where
  pub left : Told
  pub left_after : Told
  pub faults : ℕ
  pub faults_after : ℕ

-- what a sink tells before and after a call: the bytes it has taken, and its count of faults
pub record Sink : Type 0 where
  pub sent : Told
  pub sent_after : Told
  pub faults : ℕ
  pub faults_after : ℕ

-- of a value of a type that is a source, before and after
abbrev pub source_told : {S : Type 0} → SourceGhosts S → S → S → Source
source_told g old new = record {
  left = g.left old;
  left_after = g.left new;
  faults = g.faults old;
  faults_after = g.faults new;
}

-- of a value of a type that is a sink, before and after
abbrev pub sink_told : {K : Type 0} → SinkGhosts K → K → K → Sink
sink_told g old new = record {
  sent = g.sent old;
  sent_after = g.sent new;
  faults = g.faults old;
  faults_after = g.faults new;
}

-- the source counted a fault
abbrev pub ReadFailed : Source → Type 0
ReadFailed s = HasRisen s.faults s.faults_after

-- the sink counted a fault
abbrev pub WriteFailed : Sink → Type 0
WriteFailed k = HasRisen k.faults k.faults_after

-- a fact of the bytes that the source had, where it tells them
abbrev pub OfDocument : Source → (List ℕ → Type 0) → Type 0
OfDocument s P = (bytes : List ℕ) → s.left ≡ Some bytes → P bytes

-- how a source that had these bytes is left: read to its end, or as it was
abbrev pub Leaving : Type 1
Leaving = Source → List ℕ → Type 0

abbrev pub read_whole : Leaving
read_whole s bytes = s.left_after ≡ Some []

abbrev pub unread : Leaving
unread s bytes = s.left_after ≡ Some bytes

-- by the command: a generated document isn't read
abbrev pub left_by : Option Command → Leaving
left_by None = unread
left_by (Some run) = read_whole
left_by (Some check) = read_whole
left_by (Some trace) = read_whole
left_by (Some (lineage p q)) = read_whole
left_by (Some (forward p q)) = read_whole
left_by (Some upgrade) = read_whole
left_by (Some (gen n)) = unread

-- the source was left so, and this text is the answer
abbrev pub IsAnswer : Leaving → (List ℕ → Answer) → Source → Text → Type 0
IsAnswer left answer s text = OfDocument s (λ bytes. (answer bytes ≡ Ok text) × left s bytes)

-- this refusal is the answer, whatever its line
abbrev pub IsRefused : {A : Type 0} → (List ℕ → Result A StatusLine) → Status → List ℕ → Type 0
IsRefused answer status bytes = (line : Text) × (answer bytes ≡ Err (status, line))

abbrev pub IsRefusal : {A : Type 0} → (List ℕ → Result A StatusLine) → Source → Status → Type 0
IsRefusal answer s status = OfDocument s (IsRefused answer status)

-- the source was left so, and this refusal is the answer
abbrev pub IsReadRefusal : {A : Type 0} → Leaving → (List ℕ → Result A StatusLine) → Source → Status
    → Type 0
IsReadRefusal left answer s status = OfDocument s (λ bytes. IsRefused answer status bytes
    × left s bytes)

-- why a call ended with this status
abbrev pub Cause : Leaving → (List ℕ → Answer) → Source → Sink → Status → Type 0
-- the document was read to its end, where one is read, and its answer was written whole
Cause left answer s out Done = OfDocument s (λ bytes. (text : Text) × (answer bytes ≡ Ok text)
    × left s bytes × IsSentOf out.sent out.sent_after text)
Cause left answer s out Usage = IsRefusal answer s Usage
-- the source counted a fault
Cause left answer s out ReadFault = ReadFailed s
Cause left answer s out TooLong = IsRefusal answer s TooLong
Cause left answer s out NotJson = IsReadRefusal left answer s NotJson
Cause left answer s out Form = IsReadRefusal left answer s Form
Cause left answer s out Check = IsReadRefusal left answer s Check
Cause left answer s out NotBuilt = IsReadRefusal left answer s NotBuilt
Cause left answer s out NoSuchElement = IsReadRefusal left answer s NoSuchElement
-- the output counted a fault; the document was read to its end, where one is read, and a beginning of its answer was written, not the whole
Cause left answer s out WriteFault = WriteFailed out
    × OfDocument s (λ bytes. (text : Text) × (answer bytes ≡ Ok text) × left s bytes
    × IsCutShort out.sent out.sent_after text)
-- want of memory alone is free
Cause left answer s out NoMemory = Unit {0}

-- why a call came to an end without a text to print
abbrev pub RefusalCause : {A : Type 0} → Leaving → (List ℕ → Result A StatusLine) → Source → Status
    → Type 0
RefusalCause left answer s Done = ⊥
RefusalCause left answer s Usage = IsRefusal answer s Usage
RefusalCause left answer s ReadFault = ReadFailed s
RefusalCause left answer s TooLong = IsRefusal answer s TooLong
RefusalCause left answer s NotJson = IsReadRefusal left answer s NotJson
RefusalCause left answer s Form = IsReadRefusal left answer s Form
RefusalCause left answer s Check = IsReadRefusal left answer s Check
RefusalCause left answer s NotBuilt = IsReadRefusal left answer s NotBuilt
RefusalCause left answer s NoSuchElement = IsReadRefusal left answer s NoSuchElement
RefusalCause left answer s WriteFault = ⊥
RefusalCause left answer s NoMemory = Unit {0}

-- the status that an answer asks for
abbrev pub status_of : Answer → Status
status_of (Ok text) = Done
status_of (Err r) = r.0

-- where neither the source nor the output counted a fault, the status is that of the answer, or memory was wanting
abbrev pub IsComplete : (List ℕ → Answer) → Source → Sink → Status → Type 0
IsComplete answer s out status =
    OfDocument s (λ bytes. (ReadFailed s → ⊥) → (WriteFailed out → ⊥)
    → (status ≡ status_of (answer bytes)) ⊎ (status ≡ NoMemory))

-- the line of the answer to some bytes, and to those that the source had, where it tells them
abbrev pub IsAnswersLine : {A : Type 0} → (List ℕ → Result A StatusLine) → Source → Status → Text
    → Type 0
IsAnswersLine answer s status line =
    ((bytes : List ℕ) × (answer bytes ≡ Err (status, line)))
    × OfDocument s (λ bytes. answer bytes ≡ Err (status, line))

-- the line of a status: for a fault of the form or of the check, or an element that isn't there, that of the answer, else the one
-- that the status always has
abbrev pub IsLine : {A : Type 0} → (List ℕ → Result A StatusLine) → Source → Status → Text → Type 0
IsLine answer s Done line = ⊥
IsLine answer s Usage line = line ≡ fault_line Usage
IsLine answer s ReadFault line = line ≡ fault_line ReadFault
IsLine answer s TooLong line = line ≡ fault_line TooLong
IsLine answer s NotJson line = line ≡ fault_line NotJson
IsLine answer s Form line = IsAnswersLine answer s Form line
IsLine answer s Check line = IsAnswersLine answer s Check line
IsLine answer s NotBuilt line = line ≡ fault_line NotBuilt
IsLine answer s NoSuchElement line = IsAnswersLine answer s NoSuchElement line
IsLine answer s WriteFault line = line ≡ fault_line WriteFault
IsLine answer s NoMemory line = line ≡ fault_line NoMemory

-- a refusal has its cause and its line
abbrev pub IsRefusedSo : {A : Type 0} → Leaving → (List ℕ → Result A StatusLine) → Source → Refusal
    → Type 0
IsRefusedSo left answer s r = RefusalCause left answer s (refusal_status r)
    × IsLine answer s (refusal_status r) (refusal_line r)

-- the document that some bytes are, which are those that the source had, where it tells them, and it was left so
abbrev pub IsRead : Leaving → (List ℕ → Reading) → Source → Result CheckedRun Refusal → Type 0
IsRead left reading s (Ok d) =
    ((bytes : List ℕ) × (reading bytes ≡ Ok (run_view d)))
    × OfDocument s (λ bytes. (reading bytes ≡ Ok (run_view d)) × left s bytes)
IsRead left reading s (Err r) = IsRefusedSo left reading s r

-- a text to print is the answer, and a refusal has its cause and its line
abbrev pub IsAnswered : Leaving → (List ℕ → Answer) → Source → Result Text Refusal → Type 0
IsAnswered left answer s (Ok text) = IsAnswer left answer s text
IsAnswered left answer s (Err r) = IsRefusedSo left answer s r

-- the line was written whole, or its sink counted a fault and a beginning of it was written, not the whole
abbrev pub IsReported : Sink → Text → Type 0
IsReported err line = IsSentOf err.sent err.sent_after line
    ⊎ (WriteFailed err × IsCutShort err.sent err.sent_after line)

-- the status's line was reported
abbrev pub IsSaid : (List ℕ → Answer) → Source → Sink → Status → Type 0
IsSaid answer s err status = (line : Text) × IsLine answer s status line × IsReported err line
