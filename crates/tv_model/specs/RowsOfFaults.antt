-- Worked documents: retries, failover, bounced jobs and faults in the place of lists.
use Rattle.std.specs.Prelude.{List, Some, [], codes, ℕ, ◌∷◌, ◌≡◌}
use Rattle.tv_value.specs.Activities.{service}
use Rattle.tv_value.specs.Values.{Name, Value, fault_value, text_value}
use Rattle.tv_gate.specs.Outcomes.{Giving, good}
use Rattle.tv_flow.specs.Flows.{Document, Feed, Step}
use Rattle.tv_model.specs.Meanings.{meaning}
use Rattle.tv_model.specs.Results.{result_line}
use Rattle.tv_model.specs.Writing.{a, asks, b, constant_text, document, from_input, from_step, line, lists, o, out, pairing, takes, words, x, y}

-- ---- the tries of one job

-- a service that gives its text from attempt 2 on
abbrev pub retrying : ℕ → Document
retrying retries =
    document
    ((x, 0) ∷ [])
    ((
      codes "f",
      record (asks (codes "flaky")
          (takes a (from_input x) ∷ takes (codes "n") (constant_text (codes "2")) ∷ [])) {
            retries = retries;
          },
    ) ∷ [])
    (out (codes "f"))
    ((x, text_value (codes "t")) ∷ [])

abbrev pub RetriesUntilRight : Type 0
RetriesUntilRight = line (retrying 2)
    ≡ codes "{\"outputs\":{\"out\":\"t\"},\"totals\":{\"attempts\":3,\"bounced\":0,\"failed\":0,\"jobs\":1}}\n"

-- no retry is left, and the reason is that of the last attempt
abbrev pub FailsAfterRetries : Type 0
FailsAfterRetries =
    line (retrying 1)
    ≡ codes "{\"outputs\":{\"out\":{\"error\":{\"at\":\"f[]\",\"depth\":0,\"from\":[],\"why\":\"flaky attempt 1\"}}},\"totals\":{\"attempts\":2,\"bounced\":0,\"failed\":1,\"jobs\":1}}\n"

-- a service that refuses, with another to fall back on
abbrev pub failing_over : Document
failing_over =
    document
    ((x, 0) ∷ [])
    ((
      codes "e",
      record (asks (codes "fail_if") (takes a (from_input x) ∷ [])) {
        activities = service (codes "fail_if") ∷ service (codes "echo") ∷ [];
        retries = 1;
      },
    ) ∷ [])
    (out (codes "e"))
    ((x, text_value (codes "true")) ∷ [])

-- each activity has its own retries
abbrev pub FailsOver : Type 0
FailsOver = line failing_over
    ≡ codes "{\"outputs\":{\"out\":\"true\"},\"totals\":{\"attempts\":3,\"bounced\":0,\"failed\":0,\"jobs\":1}}\n"

-- ---- outcomes that aren't right

-- a step with these declared outputs, that asks for one value
abbrev pub giving_one : List (Name × ℕ) → Document
giving_one outputs =
    document
    ((x, 0) ∷ [])
    ((codes "u", record (asks (codes "upper") (takes a (from_input x) ∷ [])) { outputs = outputs })
    ∷ [])
    (out (codes "u"))
    ((x, text_value (codes "a")) ∷ [])

-- two outputs are declared, and one value comes
abbrev pub TellsNumberOfValues : Type 0
TellsNumberOfValues =
    line (giving_one ((o, 0) ∷ (codes "p", 0) ∷ []))
    ≡ codes "{\"outputs\":{\"out\":{\"error\":{\"at\":\"u[]\",\"depth\":0,\"from\":[],\"why\":\"outcome has 1 values\"}}},\"totals\":{\"attempts\":1,\"bounced\":0,\"failed\":1,\"jobs\":1}}\n"

-- a list is declared, and a text comes
abbrev pub TellsDepthOfValue : Type 0
TellsDepthOfValue =
    line (giving_one ((o, 1) ∷ []))
    ≡ codes "{\"outputs\":{\"out\":{\"error\":{\"at\":\"u[]\",\"depth\":1,\"from\":[],\"why\":\"outcome value 1 lacks depth 1\"}}},\"totals\":{\"attempts\":1,\"bounced\":0,\"failed\":1,\"jobs\":1}}\n"

-- a service that gives a fault as its value
abbrev pub gives_fault : Giving
gives_fault s vs n =
    good (fault_value (record { at = []; depth = 0; why = codes "lost"; from = [] }) ∷ [])

abbrev pub TellsErrorInValue : Type 0
TellsErrorInValue =
    result_line (meaning gives_fault (giving_one ((o, 0) ∷ [])))
    ≡ codes "{\"outputs\":{\"out\":{\"error\":{\"at\":\"u[]\",\"depth\":0,\"from\":[],\"why\":\"outcome value 1 holds an error\"}}},\"totals\":{\"attempts\":1,\"bounced\":0,\"failed\":1,\"jobs\":1}}\n"

-- ---- faults on their way

abbrev pub one_fails : Document
one_fails =
    document
    ((x, 1) ∷ [])
    (
    (codes "f", asks (codes "fail_if") (takes a (from_input x) ∷ []))
    ∷ (codes "u", asks (codes "upper") (takes a (from_step (codes "f")) ∷ []))
    ∷ []
    )
    (out (codes "u"))
    ((x, words (codes "no" ∷ codes "true" ∷ codes "no" ∷ [])) ∷ [])

-- the job on the fault is bounced and names it, and the others go on
abbrev pub BouncesOneItem : Type 0
BouncesOneItem =
    line one_fails
    ≡ codes "{\"outputs\":{\"out\":[\"NO\",{\"error\":{\"at\":\"u[1]\",\"depth\":0,\"from\":[\"f[1]\"],\"why\":\"bounced\"}},\"NO\"]},\"totals\":{\"attempts\":5,\"bounced\":1,\"failed\":1,\"jobs\":6}}\n"

-- a step that should make a list from this text to 1
abbrev pub numbers : Feed → Step
numbers f =
    record (asks (codes "range") (takes a f ∷ takes b (constant_text (codes "1")) ∷ [])) {
      outputs = (o, 1) ∷ [];
    }

abbrev pub list_fails : Document
list_fails =
    document
    []
    ((codes "r", numbers (constant_text (codes "z")))
    ∷ (codes "u", asks (codes "upper") (takes a (from_step (codes "r")) ∷ [])) ∷ [])
    (out (codes "u"))
    []

-- a fault in the place of a list that is walked is no job
abbrev pub PassesFaultOfList : Type 0
PassesFaultOfList =
    line list_fails
    ≡ codes "{\"outputs\":{\"out\":{\"error\":{\"at\":\"r[]\",\"depth\":1,\"from\":[],\"why\":\"range input 1 is no number\"}}},\"totals\":{\"attempts\":1,\"bounced\":0,\"failed\":1,\"jobs\":1}}\n"

abbrev pub crossing_fault : Value → Document
crossing_fault v =
    document
    ((x, 1) ∷ [])
    ((
      codes "c",
      asks (codes "concat")
          (takes a (from_input x) ∷ takes b (from_step (codes "r")) ∷ []),
    )
    ∷ (codes "r", numbers (constant_text (codes "z")))
    ∷ []
    )
    (out (codes "c"))
    ((x, v) ∷ [])

-- below an outer list without items there is no inner list, and no fault in its place
abbrev pub CrossesEmptyListWithFault : Type 0
CrossesEmptyListWithFault = line (crossing_fault (words []))
    ≡ codes "{\"outputs\":{\"out\":[]},\"totals\":{\"attempts\":1,\"bounced\":0,\"failed\":1,\"jobs\":1}}\n"

-- the fault stands once for each item, in the place of the inner list
abbrev pub CrossesListWithFault : Type 0
CrossesListWithFault =
    line (crossing_fault (words (codes "a" ∷ [])))
    ≡ codes "{\"outputs\":{\"out\":[{\"error\":{\"at\":\"r[]\",\"depth\":1,\"from\":[],\"why\":\"range input 1 is no number\"}}]},\"totals\":{\"attempts\":1,\"bounced\":0,\"failed\":1,\"jobs\":1}}\n"

-- one of two lists fails, beside a list of lists
abbrev pub pairing_fault : Document
pairing_fault =
    document
    ((x, 1) ∷ (y, 2) ∷ [])
    ((
      codes "c",
      record (asks (codes "concat")
          (takes a (from_step (codes "r")) ∷ takes b (from_input y) ∷ [])) {
            strategy = Some pairing;
          },
    )
    ∷ (codes "r", numbers (from_input x))
    ∷ []
    )
    (out (codes "c"))
    ((x, words (codes "z" ∷ codes "0" ∷ []))
    ∷ (y, lists (words (codes "p" ∷ []) ∷ words (codes "q" ∷ []) ∷ [])) ∷ [])

-- the fault stands in its place, and the other list is paired
abbrev pub PairsWithFault : Type 0
PairsWithFault =
    line pairing_fault
    ≡ codes "{\"outputs\":{\"out\":[{\"error\":{\"at\":\"r[0]\",\"depth\":1,\"from\":[],\"why\":\"range input 1 is no number\"}},[\"0q\"]]},\"totals\":{\"attempts\":3,\"bounced\":0,\"failed\":1,\"jobs\":3}}\n"
