use Rattle.std.proofs.Common.{ap, ◌∙◌, map}
use Rattle.std.proofs.lemmas.List.{take_all}
use Rattle.serde_json.specs.Data.{string}
use Rattle.serde_json.specs.View.{items_of}
use Rattle.tv_value.specs.Printed.{job_text, strings}
use Rattle.tv_json.proofs.Printing.{strings-each}
use Rattle.tv_json.proofs.values.strings_of_names.Goals as goal

pub returns : goal.returns
returns c =
    let names = c.as_slice-name-items.result.now in
    ap items_of (c.loop-name.invariant ∙ ap (map (λ n. string (job_text n))) (take_all c.loop-name.name-index names c.loop-name-test.false))
    ∙ strings-each job_text names
    ∙ ap (λ ns. strings (map job_text ns)) c.as_slice-name-items.ensures
