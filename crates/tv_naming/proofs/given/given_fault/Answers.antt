use Rattle.std.proofs.Common.{◌≡◌, ◌∙◌, ap, sym, subst, [], option_map}
use Rattle.std.specs.Option.{option_map_or}
use Rattle.std.specs.Result.{IfOk}
use Rattle.tv_value.specs.Views.{view as value_view}
use Rattle.tv_flow.specs.Views.{each, flow_view}
use Rattle.tv_naming.specs.FaultViews.{fault_view}
use Rattle.tv_naming.specs.Faulty.{first_of}
use Rattle.tv_naming.specs.Inputs.{given_against}
use Rattle.tv_naming.proofs.Kept.{flows-ascend, values-ascend, named-found}
use Rattle.tv_naming.proofs.given.given_fault.Goals as goal

pub thing_of-requires : goal.thing_of-requires
thing_of-requires c = flows-ascend c.args.document.now

pub against_fault-requires : goal.against_fault-requires
against_fault-requires c = values-ascend c.args.document.now

pub against_fault-requires-in-None : goal.against_fault-requires-in-None
against_fault-requires-in-None c = values-ascend c.args.document.now

pub returns-in-Some : goal.returns-in-Some
returns-in-Some c =
    let d = c.args.document.now in
    let found = named-found flow_view (λ x. x.now) c.thing_of.result d.main d.flows c.thing_of.ensures in
    let main = ap (option_map (λ x. flow_view x.now)) (sym c.in-Some.is) ∙ found in
    let inputs = ap (λ o. option_map_or (λ f. f.inputs) o []) main in
    subst (λ inputs. IfOk c.against_fault.result (λ f. option_map fault_view f ≡ first_of (given_against inputs (each value_view d.inputs)))) inputs c.against_fault.ensures

pub returns-in-None : goal.returns-in-None
returns-in-None c =
    let d = c.args.document.now in
    let found = named-found flow_view (λ x. x.now) c.thing_of.result d.main d.flows c.thing_of.ensures in
    let main = ap (option_map (λ x. flow_view x.now)) (sym c.in-None.is) ∙ found in
    let inputs = c.empty.ensures ∙ ap (λ o. option_map_or (λ f. f.inputs) o []) main in
    subst (λ inputs. IfOk c.against_fault-in-None-2.result (λ f. option_map fault_view f ≡ first_of (given_against inputs (each value_view d.inputs)))) inputs c.against_fault-in-None-2.ensures
