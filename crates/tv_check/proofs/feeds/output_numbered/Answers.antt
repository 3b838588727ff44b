use Rattle.std.proofs.Common.{◌∙◌, ◌≡◌, ◌<◌, ap, sym, subst, length, get_or}
use Rattle.tv_naming.specs.Numbers.{position}
use Rattle.tv_naming.proofs.Kept.{flow-ascends}
use Rattle.tv_check.specs.declared.feeds.NumberedLink.TheVariants.{Output}
use Rattle.tv_check.proofs.Numbering.{absent-output, few-outputs, found-output}
use Rattle.tv_check.proofs.feeds.output_numbered.Goals as goal

pub number_of-requires : goal.number_of-requires
number_of-requires c = flow-ascends c.args.flow.now c.requires

pub position_in-requires : goal.position_in-requires
position_in-requires c =
    let x = c.index-as_slice-number.result in
    let is : x ≡ get_or c.args.flow.now.steps c.in-Some.number x = subst (λ xs. x ≡ get_or xs c.in-Some.number x) c.as_slice.ensures c.index-as_slice-number.is in
    subst (λ os. length os < 4294967296) (sym (c.as_slice-outputs.ensures ∙ ap (λ y. y.1.outputs) (sym c.index-as_slice-number.is)))
    (few-outputs c.args.flow.now c.in-Some.number x c.requires c.in-Some.ensures.below is)

pub returns-in-Some : goal.returns-in-Some
returns-in-Some c =
    let x = c.index-as_slice-number.result in
    let is : x ≡ get_or c.args.flow.now.steps c.in-Some.number x = subst (λ xs. x ≡ get_or xs c.in-Some.number x) c.as_slice.ensures c.index-as_slice-number.is in
    ap (Output c.in-Some.number) (c.position_in.ensures ∙ ap (position c.args.port.now) (c.as_slice-outputs.ensures ∙ ap (λ y. y.1.outputs) (sym c.index-as_slice-number.is)))
    ∙ found-output c.args.flow.now c.args.step.now c.args.port.now c.in-Some.number x (sym c.in-Some.ensures.number) is

pub returns-in-None : goal.returns-in-None
returns-in-None c =
    ap (λ xs. Output (length xs) 0) c.as_slice-in-None.ensures
    ∙ absent-output c.args.flow.now c.args.step.now c.args.port.now (sym c.in-None.ensures.number)
