-- What a command answers to the bytes that it reads: a text to print, or a refusal with its line.
use Rattle.std.specs.Prelude.{ℕ, ◌^◌, List, length, map, Bool, nat_lt, if◌then◌else◌, Option, Some, None, option_and_then, option_map, Result, Ok, Err}
use Rattle.std.specs.Str.{is_utf8}
use Rattle.serde_json.specs.Data.{Data}
use Rattle.serde_json.specs.Read.{read as read_text}
use Rattle.tv_value.specs.Nested.{Place, at}
use Rattle.tv_value.specs.Orders.{named}
use Rattle.tv_value.specs.Values.{Text, Name, Value}
use Rattle.tv_gate.specs.Outcomes.{Giving}
use Rattle.tv_flow.specs.Complaints as form
use Rattle.tv_flow.specs.Flows.{Document}
use Rattle.tv_flow.specs.Forms.{form_of}
use Rattle.tv_check.specs.Faulty as checking
use Rattle.tv_check.specs.Passes.{checked}
use Rattle.tv_words.specs.elements.Lines.{element_lines}
use Rattle.tv_model.specs.Lineages as model
use Rattle.tv_model.specs.Meanings.{meaning}
use Rattle.tv_model.specs.Results.{result_line}
use Rattle.tv_model.specs.RowsOfSize.{generated}
use Rattle.tv_model.specs.Totals.{totals}
use Rattle.tv_model.specs.Turns.{ask_order}
use Rattle.tv_report.specs.FormLines.{form_text}
use Rattle.tv_report.specs.CheckLines.{check_text}
use Rattle.tv_report.specs.DepthLines.{depth_text}
use Rattle.tv_report.specs.TraceLines.{trace_text}
use Rattle.tv_report.specs.UpgradeTexts.{upgraded_text}
use Rattle.tv_generator.specs.Summaries.{summary_text}
use Rattle.tv_top.specs.Words.{Command, run, check, trace, lineage, forward, upgrade, gen}
use Rattle.tv_top.specs.Built.{is_unbuilt}
use Rattle.tv_top.specs.Lines.{absent_line, fault_line}
use Rattle.tv_top.specs.declared.status.Status.{Status}
use Rattle.tv_top.specs.declared.status.Status.TheVariants.{Usage, TooLong, NotJson, Form, Check, NotBuilt, NoSuchElement}

-- a status with its line
abbrev pub StatusLine : Type 0
StatusLine = Status × Text

-- one whose line is always the same
abbrev pub always : Status → StatusLine
always status = (status, fault_line status)

-- ---- reading

-- the most bytes that a document has
abbrev pub byte_limit : ℕ
byte_limit = 2 ^ 24

-- the JSON tree of bytes that are one JSON text in UTF-8, nested at most 127 deep
abbrev pub json_of : List ℕ → Option Data
json_of bytes = if is_utf8 bytes then read_text bytes else None

-- a document, or why there is none
abbrev pub Reading : Type 0
Reading = Result Document StatusLine

abbrev pub unless_complaint : Document → Option checking.CheckComplaint → Reading
unless_complaint d None = Ok d
unless_complaint d (Some c) = Err (Check, check_text c)

-- For all services that are known. The refusals come in this order: TooLong, NotJson, Form, Check.
module _ (knows : Name → Bool) where
  abbrev pub unless_misformed : Result Document form.Complaint → Reading
  unless_misformed (Ok d) = unless_complaint d (checked knows d)
  unless_misformed (Err c) = Err (Form, form_text c.kind c.path)

  abbrev pub reading_of_json : Option Data → Reading
  reading_of_json None = Err (always NotJson)
  reading_of_json (Some d) = unless_misformed (form_of d)

  -- the document that the bytes are, where the check accepts it
  abbrev pub reading_of : List ℕ → Reading
  reading_of bytes = if nat_lt byte_limit (length bytes) then Err (always TooLong)
      else reading_of_json (json_of bytes)

  -- the generated document of a number, where the check accepts it
  abbrev pub generated_reading : ℕ → Reading
  generated_reading n = unless_complaint (generated n) (checked knows (generated n))

  -- what a command runs or checks: a document that is read, or one that is generated, whatever the bytes
  abbrev pub reading_for : Command → List ℕ → Reading
  reading_for run bytes = reading_of bytes
  reading_for check bytes = reading_of bytes
  reading_for trace bytes = reading_of bytes
  reading_for (lineage p q) bytes = reading_of bytes
  reading_for (forward p q) bytes = reading_of bytes
  reading_for upgrade bytes = reading_of bytes
  reading_for (gen n) bytes = generated_reading n

-- ---- answers

-- a text to print, or a status with its line
abbrev pub Answer : Type 0
Answer = Result Text StatusLine

-- what stands at a place of the value that is given to an input
abbrev pub given_at : Document → Name → Place → Option Value
given_at d p q = option_and_then (λ v. at v q) (named p d.inputs)

-- the text of an element that is there
abbrev pub unless_absent : Name → Place → Option Text → Answer
unless_absent p q (Some text) = Ok text
unless_absent p q None = Err (NoSuchElement, absent_line p q)

-- For all services, and for no worker or order of work.
module _ (gives : Giving) where
  -- the summary of the run of the document of a number
  abbrev pub summary_of : ℕ → Document → Text
  summary_of n d =
      summary_text n (totals (meaning gives d).jobs) (length (result_line (meaning gives d)))

  -- the lines of the elements of inputs that made an element of an output, where there is one
  abbrev pub lineage_text : Document → Name → Place → Option Text
  lineage_text d p q = option_map element_lines (model.lineage_of (meaning gives d) p q)

  -- the lines of the leaves of outputs that an element of an input made, where there is one
  abbrev pub forward_text : Document → Name → Place → Option Text
  forward_text d p q =
      option_map (λ v. element_lines (model.forward (meaning gives d) p q)) (given_at d p q)

  -- what a command answers to an accepted document that it is built for
  abbrev pub answer_built : Command → Document → Answer
  answer_built run d = Ok (result_line (meaning gives d))
  answer_built check d = Ok (depth_text d)
  answer_built trace d = Ok (trace_text (map (λ p. p.0) (ask_order (meaning gives d))))
  answer_built (lineage p q) d = unless_absent p q (lineage_text d p q)
  answer_built (forward p q) d = unless_absent p q (forward_text d p q)
  answer_built upgrade d = Ok (upgraded_text d)
  answer_built (gen n) d = Ok (summary_of n d)

  -- what a command answers to an accepted document
  abbrev pub answer_to : Command → Document → Answer
  answer_to command d = if is_unbuilt command d then Err (always NotBuilt)
      else answer_built command d

  abbrev pub answer_to_reading : Command → Reading → Answer
  answer_to_reading command (Ok d) = answer_to command d
  answer_to_reading command (Err refusal) = Err refusal

  module _ (knows : Name → Bool) where
    -- the answer to words and bytes
    abbrev pub answer_of : Option Command → List ℕ → Answer
    answer_of None bytes = Err (always Usage)
    answer_of (Some command) bytes = answer_to_reading command (reading_for knows command bytes)
