-- What the two top calls promise.
use Rattle.std.specs.Prelude.{Bool, None, Option, Result, Some, Ok, Err, ◌+◌, ◌≡◌, ◌≢◌, ◌↔◌}
use Rattle.tv_value.specs.Values.{Name, Text}
use Rattle.tv_gate.specs.Outcomes.{Giving}
use Rattle.tv_io.specs.ReadOf.{TakesAtMost}
use Rattle.tv_io.specs.SentOf.{IsCutShort, IsSentOf}
use Rattle.tv_io.specs.declared.sink.Sink.{Ghosts as SinkGhosts}
use Rattle.tv_io.specs.declared.source.Source.{Ghosts as SourceGhosts}
use Rattle.tv_top.specs.Answers.{answer_of, byte_limit}
use Rattle.tv_top.specs.Asked.{refusal_line, refusal_status}
use Rattle.tv_top.specs.Headline.{Cause, IsComplete, IsReported, IsSaid, OfDocument, Sink, Source, WriteFailed, left_by, sink_told, source_told}
use Rattle.tv_top.specs.Lines.{fault_line}
use Rattle.tv_top.specs.Upgraded.{IsUpgradeOf}
use Rattle.tv_top.specs.Words.{Command, ReadsNothing, check, forward, gen, lineage, run, trace, upgrade}
use Rattle.tv_top.specs.declared.refusal.Refusal.{Refusal}
use Rattle.tv_top.specs.declared.status.Status.{Status}
use Rattle.tv_top.specs.declared.status.Status.TheVariants.{Done, Usage, ReadFault, TooLong, NotJson, Form, Check, NotBuilt, NoSuchElement, WriteFault, NoMemory}

-- whatever the source tells, as long as nothing was read
abbrev pub OfAny : (Source → Type 0) → Type 0
OfAny P = (s : Source) → s.left_after ≡ s.left → P s

-- a fact of what a command reads: of the source, and of any source where nothing is read
abbrev pub OfSource : Option Command → Source → (Source → Type 0) → Type 0
OfSource None s P = OfAny P
OfSource (Some run) s P = P s
OfSource (Some check) s P = P s
OfSource (Some trace) s P = P s
OfSource (Some (lineage p q)) s P = P s
OfSource (Some (forward p q)) s P = P s
OfSource (Some upgrade) s P = P s
OfSource (Some (gen n)) s P = OfAny P

-- an output took the upgrade of the document that a source had, where it tells its bytes
abbrev pub Upgrades : (Name → Bool) → Source → Sink → Type 0
Upgrades knows s out = OfDocument s (λ bytes. (text : Text)
    × IsSentOf out.sent out.sent_after text × IsUpgradeOf knows bytes text)

-- For all sources and sinks, by what they tell, and all services, by what they give and which are known.
module _ {S K E : Type 0} (of_source : SourceGhosts S) (of_out : SinkGhosts K) (of_err : SinkGhosts E) (gives : Giving) (knows : Name → Bool) where
  -- What a call promises that has a source, an output and a place for lines, as they stand before it and after it, of the command
  -- that the words give and of the answer to it, by the bytes that are read.
  pub record IsPromised (command : Option Command) (source source_after : S) (out out_after : K) (err err_after : E) (status : Status) : Type 0 where
    -- why the status came, by the bytes of the document and of the answer
    pub cause : OfSource command (source_told of_source source source_after)
        (λ s. Cause (left_by command) (answer_of gives knows command) s
        (sink_told of_out out out_after) status)
    -- where no stream counted a fault, it is that of the answer, or memory was wanting
    pub complete : OfSource command (source_told of_source source source_after)
        (λ s. IsComplete (answer_of gives knows command) s (sink_told of_out out out_after) status)
    -- words that give no command are told from them alone, where memory isn't wanting
    pub usage : status ≢ NoMemory → ((status ≡ Usage) ↔ (command ≡ None))
    -- at most one byte past the limit is read, and nothing for words that give no command or a generated document
    pub taken : TakesAtMost (byte_limit + 1) (of_source.left source) (of_source.left source_after)
    pub unread : ReadsNothing command → source_after ≡ source
    -- the output has nothing but an answer
    pub silent : status ≢ Done → status ≢ WriteFault → out_after ≡ out
    -- what `upgrade` wrote is the document that was read, in the second format
    pub upgraded : command ≡ Some upgrade → status ≡ Done
        → Upgrades knows (source_told of_source source source_after)
        (sink_told of_out out out_after)
    -- and the line is the status's
    pub unsaid : status ≡ Done → err_after ≡ err
    pub said : status ≢ Done → OfSource command (source_told of_source source source_after)
        (λ s. IsSaid (answer_of gives knows command) s (sink_told of_err err err_after) status)

-- ---- on the way there: a text that is to be printed, or a refusal, by what the output and the place for lines tell

-- the text was written whole, or cut short, and its line reported
abbrev pub IsWritten : Text → Sink → Sink → Status → Type 0
IsWritten text out err Done = IsSentOf out.sent out.sent_after text
IsWritten text out err Usage = ⊥
IsWritten text out err ReadFault = ⊥
IsWritten text out err TooLong = ⊥
IsWritten text out err NotJson = ⊥
IsWritten text out err Form = ⊥
IsWritten text out err Check = ⊥
IsWritten text out err NotBuilt = ⊥
IsWritten text out err NoSuchElement = ⊥
IsWritten text out err WriteFault = WriteFailed out × IsCutShort out.sent out.sent_after text
    × IsReported err (fault_line WriteFault)
IsWritten text out err NoMemory = ⊥

-- and the line of a refusal was reported
abbrev pub IsFinished : Result Text Refusal → Sink → Sink → Status → Type 0
IsFinished (Ok text) out err status = IsWritten text out err status
IsFinished (Err r) out err status = (status ≡ refusal_status r) × IsReported err (refusal_line r)
