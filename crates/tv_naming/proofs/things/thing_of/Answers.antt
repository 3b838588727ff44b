use Rattle.std.proofs.Common.{ap, sym, ◌∙◌, Some, get_or}
use Rattle.tv_naming.proofs.ByPosition.{number-found}
use Rattle.tv_naming.proofs.things.thing_of.Goals as goal

pub returns-in-Some : goal.returns-in-Some
returns-in-Some g c =
    let found = number-found c.args.entries.now c.args.name.now c.in-Some.number (sym c.in-Some.ensures.number) in
    ap (λ xs. Some (get_or xs c.in-Some.number c.index-as_slice-number.result).1) c.as_slice.ensures ∙ sym (found.thing c.index-as_slice-number.result)
