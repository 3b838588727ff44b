use Rattle.std.proofs.Common.{◌++◌, ◌∷◌, ap, sym, ◌∙◌, map}
use Rattle.json.specs.Token as Spec
use Rattle.tv_report.proofs.Growing.{adds-both}
use Rattle.tv_report.proofs.Tokens.{members-tokens}
use Rattle.tv_flow.specs.Views.{each}
use Rattle.tv_value.specs.Views.{view}
use Rattle.tv_value.specs.Printed.{json, members}
use Rattle.tv_report.specs.Tokens.{tokens_of_members}
use Rattle.tv_report.proofs.results.put_outputs.Goals as goal

pub returns : goal.returns
returns c =
    let all =
    adds-both c.args.out.now c.begin_object.new.out c.end_object.new.out _ _ c.in_ok-begin_object.ensures
    (adds-both c.begin_object.new.out c.put_members.new.out c.end_object.new.out _ _ c.in_ok-put_members.ensures c.in_ok-end_object.ensures) in
    (all.0, all.1 ∙ ap (λ ts. c.args.out.now.tokens ++ Spec.begin_object ∷ ts) (sym (ap (λ os. tokens_of_members (members (map (λ o. (o.0, json o.1)) (each view os)))) (sym c.as_slice.ensures) ∙ members-tokens c.as_slice.result.now)))
