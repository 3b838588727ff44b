use Rattle.std.proofs.Common.{◌++◌, ◌∷◌, ap, sym, ◌∙◌, map}
use Rattle.json.specs.Token as Spec
use Rattle.tv_report.proofs.Growing.{adds-both}
use Rattle.tv_report.proofs.Tokens.{names-tokens}
use Rattle.tv_value.specs.Printed.{job_text, strings}
use Rattle.tv_report.specs.Tokens.{tokens_of_items}
use Rattle.tv_report.proofs.results.put_names.Goals as goal

pub returns : goal.returns
returns c =
    let all =
    adds-both c.args.out.now c.begin_array.new.out c.end_array.new.out _ _ c.in_ok-begin_array.ensures
    (adds-both c.begin_array.new.out c.put_each_name.new.out c.end_array.new.out _ _ c.in_ok-put_each_name.ensures c.in_ok-end_array.ensures) in
    (all.0, all.1 ∙ ap (λ ts. c.args.out.now.tokens ++ Spec.begin_array ∷ ts) (sym (ap (λ ns. tokens_of_items (strings (map job_text ns))) (sym c.as_slice.ensures) ∙ names-tokens c.as_slice.result.now)))
