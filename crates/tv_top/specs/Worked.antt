-- Worked examples: what each definition comes to on small documents and words.
use Rattle.std.specs.Prelude.{◌≡◌, List, [], ◌∷◌, map, codes, Some, None, Ok, Err}
use Rattle.serde_json.specs.Data.{object, no_members}
use Rattle.tv_value.specs.Values.{Text, Name, Value, text_value}
use Rattle.tv_gate.specs.Calls.{Call}
use Rattle.tv_flow.specs.Flows.{Document, upgraded}
use Rattle.tv_json.specs.Documents.{document_json}
use Rattle.tv_local.specs.LocalGives.{local_gives, local_knows}
use Rattle.tv_model.specs.Writing.{a, asks, b, constant_text, document, from_input, from_step, line, out, takes, words, x, y}
use Rattle.tv_model.specs.RowsOfFlows.{opening as nested_flow}
use Rattle.tv_top.specs.Words.{Command, command_of, run, check, trace, lineage, forward, upgrade, gen}
use Rattle.tv_top.specs.Answers.{Answer, Reading, always, answer_of, answer_to_reading, reading_of_json}
use Rattle.tv_top.specs.Asking.{asks_of, asks_to_reading}
use Rattle.tv_top.specs.Lines.{fault_line, code_of}
use Rattle.tv_top.specs.declared.status.Status.TheVariants.{Done, Usage, ReadFault, TooLong, NotJson, Form, Check, NotBuilt, NoSuchElement, WriteFault, NoMemory}

-- ---- documents

-- capitals of the input x
abbrev pub one_step : Value → Document
one_step v =
    document ((x, 0) ∷ []) ((codes "u", asks (codes "upper") (takes a (from_input x) ∷ [])) ∷ [])
    (out (codes "u")) ((x, v) ∷ [])

-- capitals, then small letters
abbrev pub two_steps : Document
two_steps =
    document
    ((x, 1) ∷ [])
    ((codes "p", asks (codes "upper") (takes a (from_input x) ∷ []))
    ∷ (codes "q", asks (codes "lower") (takes a (from_step (codes "p")) ∷ [])) ∷ [])
    (out (codes "q"))
    ((x, words (codes "a" ∷ codes "b" ∷ [])) ∷ [])

-- the second of three texts fails, and what it feeds bounces
abbrev pub one_failure : Document
one_failure =
    document
    ((x, 1) ∷ [])
    ((codes "f", asks (codes "fail_if") (takes a (from_input x) ∷ []))
    ∷ (codes "u", asks (codes "upper") (takes a (from_step (codes "f")) ∷ [])) ∷ [])
    (out (codes "u"))
    ((x, words (codes "no" ∷ codes "true" ∷ codes "no" ∷ [])) ∷ [])

-- two lists, each text with each
abbrev pub two_ports : Document
two_ports =
    document
    ((x, 1) ∷ (y, 1) ∷ [])
    ((codes "c", asks (codes "concat") (takes a (from_input x) ∷ takes b (from_input y) ∷ [])) ∷ [])
    (out (codes "c"))
    ((x, words (codes "a" ∷ codes "b" ∷ [])) ∷ (y, words (codes "1" ∷ codes "2" ∷ [])) ∷ [])

-- a service that answers at the third attempt, if it is asked so often
abbrev pub third_attempt : Document
third_attempt =
    document
    ((x, 0) ∷ [])
    ((
      codes "f",
      record (asks (codes "flaky")
          (takes a (from_input x) ∷ takes (codes "n") (constant_text (codes "2")) ∷ [])) {
            retries = 2;
          },
    ) ∷ [])
    (out (codes "f"))
    ((x, text_value (codes "t")) ∷ [])

-- each step is fed by the other
abbrev pub circle : Document
circle =
    document
    ((x, 0) ∷ [])
    ((codes "p", asks (codes "upper") (takes a (from_step (codes "q")) ∷ []))
    ∷ (codes "q", asks (codes "lower") (takes a (from_step (codes "p")) ∷ [])) ∷ [])
    (out (codes "q"))
    ((x, text_value (codes "a")) ∷ [])

-- capitals, until they are capitals, at most three times
abbrev pub goes_round : Document
goes_round =
    upgraded (document
    ((x, 0) ∷ [])
    ((
      codes "u",
      record (asks (codes "upper") (takes a (from_input x) ∷ [])) {
        repeat = Some (record { service = codes "echo"; until = codes "A"; most = 3 });
      },
    ) ∷ [])
    (out (codes "u"))
    ((x, text_value (codes "a")) ∷ []))

-- ---- answers

-- for the local services
abbrev pub read : Document → Reading
read d = reading_of_json local_knows (Some (document_json d))

abbrev pub answer : Command → Document → Answer
answer command d = answer_to_reading local_gives command (read d)

abbrev pub RunsOneText : Type 0
RunsOneText = answer run (one_step (text_value (codes "a")))
    ≡ Ok (codes "{\"outputs\":{\"out\":\"A\"},\"totals\":{\"attempts\":1,\"bounced\":0,\"failed\":0,\"jobs\":1}}\n")

abbrev pub RunsChain : Type 0
RunsChain = answer run two_steps
    ≡ Ok (codes "{\"outputs\":{\"out\":[\"a\",\"b\"]},\"totals\":{\"attempts\":4,\"bounced\":0,\"failed\":0,\"jobs\":4}}\n")

abbrev pub RunsFailure : Type 0
RunsFailure =
    answer run one_failure
    ≡ Ok (codes "{\"outputs\":{\"out\":[\"NO\",{\"error\":{\"at\":\"u[1]\",\"depth\":0,\"from\":[\"f[1]\"],\"why\":\"bounced\"}},\"NO\"]},\"totals\":{\"attempts\":5,\"bounced\":1,\"failed\":1,\"jobs\":6}}\n")

abbrev pub RunsCross : Type 0
RunsCross = answer run two_ports
    ≡ Ok (codes "{\"outputs\":{\"out\":[[\"a1\",\"a2\"],[\"b1\",\"b2\"]]},\"totals\":{\"attempts\":4,\"bounced\":0,\"failed\":0,\"jobs\":4}}\n")

-- a job asks as often as it needs to
abbrev pub TracesAttempts : Type 0
TracesAttempts = answer trace third_attempt ≡ Ok (codes "f[] 3\n")

-- each text goes on to the next step before the next text is asked for
abbrev pub TracesChain : Type 0
TracesChain = answer trace two_steps ≡ Ok (codes "p[0] 1\nq[0] 1\np[1] 1\nq[1] 1\n")

-- what bounces asks nothing
abbrev pub TracesFailure : Type 0
TracesFailure = answer trace one_failure ≡ Ok (codes "f[0] 1\nu[0] 1\nf[1] 1\nf[2] 1\nu[2] 1\n")

-- a job that opens a flow gives what the flow gives
abbrev pub RunsNestedFlow : Type 0
RunsNestedFlow = answer run nested_flow ≡ Ok (line nested_flow)

-- an element of a cross was made from one of each list
abbrev pub LineageOfCross : Type 0
LineageOfCross = answer (lineage (codes "out") (1 ∷ 0 ∷ [])) two_ports ≡ Ok (codes "x[1]\ny[0]\n")

-- a bounced element was made from what failed
abbrev pub LineageOfFailure : Type 0
LineageOfFailure = answer (lineage (codes "out") (1 ∷ [])) one_failure ≡ Ok (codes "x[1]\n")

-- each text with each: one of them made a row
abbrev pub ForwardOfCross : Type 0
ForwardOfCross = answer (forward x (1 ∷ [])) two_ports ≡ Ok (codes "out[1,0]\nout[1,1]\n")

-- a generated document is run, and its summary written, whatever there is to be read
abbrev pub RunsGenerated : Type 0
RunsGenerated =
    answer_of local_gives local_knows (Some (gen 1)) []
    ≡ Ok (codes "gen 1: jobs 4 attempts 4 bounced 1 failed 1 bytes 150\n")

abbrev pub ChecksCross : Type 0
ChecksCross = answer check two_ports
    ≡ Ok (codes "in m c a 0 1\nin m c b 0 1\nout m c o 0 2\nflow m out 2\n")

abbrev pub ChecksChain : Type 0
ChecksChain = answer check two_steps
    ≡ Ok (codes "in m p a 0 1\nout m p o 0 1\nin m q a 0 1\nout m q o 0 1\nflow m out 1\n")

-- every field is written, also what was left out
abbrev pub UpgradesOneText : Type 0
UpgradesOneText = answer upgrade (one_step (text_value (codes "a")))
    ≡ Ok (codes "{\"flows\":{\"m\":{\"inputs\":{\"x\":0},\"outputs\":{\"out\":{\"port\":\"o\",\"step\":\"u\"}},\"steps\":{\"u\":{\"activities\":[{\"service\":\"upper\"}],\"after\":[],\"inputs\":{\"a\":{\"depth\":0,\"from\":{\"input\":\"x\"}}},\"jobs\":1,\"outputs\":{\"o\":0},\"retries\":0}}}},\"inputs\":{\"x\":\"a\"},\"main\":\"m\",\"taverna\":2}\n")

-- a loop is checked, and not run yet
abbrev pub RefusesLoop : Type 0
RefusesLoop =
    (answer run goes_round ≡ Err (always NotBuilt))
    × (answer (lineage x []) goes_round ≡ Err (always NotBuilt))
    × (answer check goes_round ≡ Ok (codes "in m u a 0 0\nout m u o 0 0\nflow m out 0\n"))

-- both commands refuse it, and in this order: the form, the check
abbrev pub RefusesDepth : Type 0
RefusesDepth =
    (answer run (one_step (words (codes "a" ∷ [])))
    ≡ Err (Check, codes "taverna: check fault 13 input depth at input x: 0 and 1\n"))
    × (answer check (one_step (words (codes "a" ∷ [])))
    ≡ Err (Check, codes "taverna: check fault 13 input depth at input x: 0 and 1\n"))

abbrev pub RefusesCircle : Type 0
RefusesCircle = answer run circle
    ≡ Err (Check, codes "taverna: check fault 5 link cycle at flow m step p\n")

abbrev pub RefusesNoDocument : Type 0
RefusesNoDocument =
    answer_to_reading local_gives check (reading_of_json local_knows (Some (object no_members)))
    ≡ Err (Form, codes "taverna: form fault 1 missing at [\"taverna\"]\n")

abbrev pub RefusesNoJson : Type 0
RefusesNoJson = answer_to_reading local_gives run (reading_of_json local_knows None)
    ≡ Err (NotJson, codes "taverna: not JSON\n")

abbrev pub RefusesNoCommand : Type 0
RefusesNoCommand = answer_of local_gives local_knows None [] ≡ Err (always Usage)

-- no such place in an output, no such output, no such place in an input, and no such input
abbrev pub RefusesElements : Type 0
RefusesElements =
    (answer (lineage (codes "out") (2 ∷ [])) two_ports
    ≡ Err (NoSuchElement, codes "taverna: no element at out[2]\n"))
    × (answer (lineage x []) two_ports ≡ Err (NoSuchElement, codes "taverna: no element at x[]\n"))
    × (answer (forward x (0 ∷ 0 ∷ [])) two_ports
    ≡ Err (NoSuchElement, codes "taverna: no element at x[0,0]\n"))
    × (answer (forward (codes "out") []) two_ports
    ≡ Err (NoSuchElement, codes "taverna: no element at out[]\n"))

-- ---- asks

abbrev pub asks_for : Command → Document → List Call
asks_for command d = asks_to_reading local_gives command (read d)

-- a first attempt on one text
abbrev pub first_call : Name → Text → Call
first_call s t = record { service = s; inputs = text_value t ∷ []; attempt = 0 }

-- each text goes on to the next step before the next text is asked for
abbrev pub AsksChain : Type 0
AsksChain = asks_for run two_steps ≡ first_call (codes "upper") (codes "a")
    ∷ first_call (codes "lower") (codes "A") ∷ first_call (codes "upper") (codes "b")
    ∷ first_call (codes "lower") (codes "B") ∷ []

-- the text that fails is asked for, and what bounces isn't
abbrev pub AsksFailure : Type 0
AsksFailure =
    asks_for run one_failure ≡ first_call (codes "fail_if") (codes "no")
    ∷ first_call (codes "upper") (codes "no") ∷ first_call (codes "fail_if") (codes "true")
    ∷ first_call (codes "fail_if") (codes "no") ∷ first_call (codes "upper") (codes "no") ∷ []

-- `trace` asks what `run` asks: each attempt of a job before the next job
abbrev pub AsksAttempts : Type 0
AsksAttempts =
    map (λ c. c.attempt) (asks_for trace third_attempt) ≡ 0 ∷ 1 ∷ 2 ∷ []

-- lineage asks what `run` asks, also where the element isn't there
abbrev pub AsksLineage : Type 0
AsksLineage =
    (asks_for (lineage (codes "out") (0 ∷ [])) two_steps ≡ asks_for run two_steps)
    × (asks_for (lineage (codes "out") (2 ∷ [])) two_steps ≡ asks_for run two_steps)

-- forward use asks so too, and nothing where the element isn't there
abbrev pub AsksForward : Type 0
AsksForward =
    (asks_for (forward x (0 ∷ [])) two_steps ≡ asks_for run two_steps)
    × (asks_for (forward x (2 ∷ [])) two_steps ≡ [])

-- a generated document asks as any other does, whatever there is to be read
abbrev pub AsksGenerated : Type 0
AsksGenerated = map (λ c. c.attempt) (asks_of local_gives local_knows (Some (gen 1)) []) ≡ 0 ∷ 0 ∷ 1
    ∷ 0 ∷ []

abbrev pub AsksNoCheck : Type 0
AsksNoCheck = asks_for check two_steps ≡ []

-- ---- words and statuses

abbrev pub TakesCommands : Type 0
TakesCommands =
    (command_of (codes "run" ∷ []) ≡ Some run)
    × (command_of (codes "run" ∷ codes "--workers" ∷ codes "4" ∷ []) ≡ Some run)
    × (command_of (codes "check" ∷ []) ≡ Some check)
    × (command_of (codes "trace" ∷ []) ≡ Some trace)
    × (command_of (codes "upgrade" ∷ []) ≡ Some upgrade)
    × (command_of (codes "lineage" ∷ codes "--of" ∷ codes "out[1,0]" ∷ [])
    ≡ Some (lineage (codes "out") (1 ∷ 0 ∷ [])))
    × (command_of (codes "forward" ∷ codes "--of" ∷ codes "x[]" ∷ []) ≡ Some (forward x []))
    × (command_of (codes "gen" ∷ codes "7" ∷ []) ≡ Some (gen 7))

abbrev pub TakesNothingElse : Type 0
TakesNothingElse =
    (command_of [] ≡ None)
    × (command_of (codes "Run" ∷ []) ≡ None)
    × (command_of (codes "run" ∷ codes "check" ∷ []) ≡ None)
    × (command_of (codes "run" ∷ codes "--workers" ∷ codes "0" ∷ []) ≡ None)
    × (command_of (codes "run" ∷ codes "--of" ∷ codes "out[]" ∷ []) ≡ None)
    × (command_of (codes "lineage" ∷ codes "--of" ∷ codes "out" ∷ []) ≡ None)
    × (command_of (codes "gen" ∷ codes "201" ∷ []) ≡ None)

abbrev pub TellsCodes : Type 0
TellsCodes =
    map code_of (Done ∷ Usage ∷ ReadFault ∷ TooLong ∷ NotJson ∷ Form ∷ Check ∷ NoSuchElement
    ∷ WriteFault ∷ NoMemory ∷ NotBuilt ∷ [])
    ≡ 0 ∷ 2 ∷ 3 ∷ 4 ∷ 5 ∷ 6 ∷ 7 ∷ 8 ∷ 9 ∷ 10 ∷ 11 ∷ []

abbrev pub TellsLines : Type 0
TellsLines =
    map fault_line (ReadFault ∷ TooLong ∷ NotJson ∷ WriteFault ∷ NoMemory ∷ NotBuilt ∷ [])
    ≡ codes "taverna: read fault\n" ∷ codes "taverna: input longer than 16777216 bytes\n"
    ∷ codes "taverna: not JSON\n" ∷ codes "taverna: write fault\n"
    ∷ codes "taverna: want of memory\n" ∷ codes "taverna: not built\n" ∷ []
