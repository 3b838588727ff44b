use Rattle.std.proofs.Common.{◌≡◌, ◌∙◌, ap, sym, true, false, is_some, Some}
use Rattle.tv_flow.specs.Views.{each, flow_view}
use Rattle.tv_naming.specs.Numbers.{position}
use Rattle.tv_naming.proofs.ByPosition.{number-absent, number-there}
use Rattle.tv_naming.proofs.Kept.{flows-ascend, has-each}
use Rattle.tv_check.proofs.GraphLemmas.{number_in-each}
use Rattle.tv_check.proofs.accepted.main_number.Goals as goal

pub number_of-requires : goal.number_of-requires
number_of-requires c = flows-ascend c.args.document.now

pub unreachable-requires : goal.unreachable-requires
unreachable-requires c =
    let d = c.args.document.now in
    let absent = number-absent d.flows d.main (sym c.in-None.ensures.number) in
    let e : true ≡ false = sym c.requires ∙ has-each flow_view d.main d.flows ∙ ap is_some absent in
    cc

pub returns-clause-position : goal.returns-clause-position
returns-clause-position c =
    let d = c.args.document.now in
    let flows = each flow_view d.flows in
    let e : Some c.in-Some.number ≡ Some (position d.main flows) = c.in-Some.ensures.number ∙ sym (number_in-each flow_view d.flows d.main) ∙ number-there flows d.main c.requires in
    cc
