-- A code of runs, by which equal ones are equal in one way.
use Rattle.std.specs.Prelude.{List, refl, ℕ}
use Rattle.std.specs.Coded.{Coded, code_by, coded_list, coded_ℕ, coded×}
use Rattle.tv_value.specs.Values.{JobName, Name, Value}
use Rattle.tv_flow.specs.Flows.{Document, Flow}
use Rattle.tv_check.specs.Codes.{coded_flow, coded_name, coded_named, coded_value}
use Rattle.tv_history.specs.Runs.{Run}
use Rattle.tv_history.specs.declared.entry.Entry.{Entry}

abbrev pub coded_document : Coded Document
coded_document =
    code_by (ℕ × (Name × (List (Name × Flow) × List (Name × Value))))
    (coded× coded_ℕ (coded× coded_name (coded× (coded_named coded_flow) (coded_named coded_value))))
    (λ d. (d.format, (d.main, (d.flows, d.inputs))))
    (λ p. record { format = p.0; main = p.1.0; flows = p.1.1.0; inputs = p.1.1.1 }) (λ _. refl)

abbrev pub coded_run : Coded Entry → Coded Run
coded_run entries =
    code_by (Document × (List JobName × List Entry))
    (coded× coded_document (coded× (coded_list (coded_named coded_name)) (coded_list entries)))
    (λ r. (r.document, (r.names, r.entries)))
    (λ p. record { document = p.0; names = p.1.0; entries = p.1.1 }) (λ _. refl)
