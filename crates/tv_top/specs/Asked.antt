-- What the parts of a top call answer on the way to its status.
use Rattle.std.specs.Prelude.{◌≡◌, ℕ, List, ◌⊎◌, Option, Some, None, Result, Ok, Err, map, String, string_bytes}
use Rattle.std.specs.declared.alloc.Global.{Global}
use Rattle.serde_json.specs.View.{view as json_view}
use Rattle.serde_json.specs.declared.value.Value.{Value as Json}
use Rattle.tv_value.specs.Values.{Text}
use Rattle.tv_check.specs.RunViews.{run_view}
use Rattle.tv_check.specs.declared.run.CheckedRun.{CheckedRun}
use Rattle.tv_top.specs.Answers.{Answer, Reading, json_of}
use Rattle.tv_top.specs.Lines.{fault_line}
use Rattle.tv_top.specs.Words.{Command, command_of}
use Rattle.tv_top.specs.declared.status.Status.{Status}
use Rattle.tv_top.specs.declared.status.Status.TheVariants.{Done, NotJson, Form, Check, NoSuchElement, NoMemory}
use Rattle.tv_top.specs.declared.refusal.Refusal.{Refusal}
use Rattle.tv_top.specs.declared.refusal.Refusal.TheVariants as why

-- the bytes of each word
abbrev pub texts_of : List (String Global) → List Text
texts_of words = map (λ w. string_bytes w) words

-- the command that the words ask for
abbrev pub asked_for : List (String Global) → Option Command
asked_for words = command_of (texts_of words)

-- the status of a refusal, and its line
abbrev pub refusal_status : Refusal → Status
refusal_status (why.Plain status) = status
refusal_status (why.Form line) = Form
refusal_status (why.Check line) = Check
refusal_status (why.NoSuchElement line) = NoSuchElement

abbrev pub refusal_line : Refusal → Text
refusal_line (why.Plain status) = fault_line status
refusal_line (why.Form line) = line
refusal_line (why.Check line) = line
refusal_line (why.NoSuchElement line) = line

-- the status of a call that ended so
abbrev pub ended : {A : Type 0} → Result A Refusal → Status
ended (Ok a) = Done
ended (Err r) = refusal_status r

-- the status of a refusal with its line
abbrev pub line_of : Refusal → Status × Text
line_of r = (refusal_status r, refusal_line r)

-- the JSON tree of the bytes, or that they have none, unless memory was wanting
abbrev pub GivesJson : Result Json Refusal → List ℕ → Type 0
GivesJson (Ok json) bytes = json_of bytes ≡ Some (json_view json)
GivesJson (Err r) bytes = ((json_of bytes ≡ None) × (r ≡ why.Plain NotJson))
    ⊎ (r ≡ why.Plain NoMemory)

-- the checked document that was read, or why there is none, unless memory was wanting
abbrev pub GivesRun : Result CheckedRun Refusal → Reading → Type 0
GivesRun (Ok run) reading = reading ≡ Ok (run_view run)
GivesRun (Err r) reading = (reading ≡ Err (line_of r)) ⊎ (r ≡ why.Plain NoMemory)

-- the text to print, or the refusal, is the answer, unless memory was wanting
abbrev pub GivesAnswer : Result Text Refusal → Answer → Type 0
GivesAnswer (Ok text) answer = answer ≡ Ok text
GivesAnswer (Err r) answer = (answer ≡ Err (line_of r)) ⊎ (r ≡ why.Plain NoMemory)
