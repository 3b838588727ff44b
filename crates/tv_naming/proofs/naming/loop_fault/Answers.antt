use Rattle.std.proofs.Common.{◌≡◌, ◌++◌, ◌∙◌, Bool, IfOk, Option, [], ap, map, not, option_map, subst, sym}
use Rattle.std.specs.List.{list_any}
use Rattle.std.specs.Option.{option_map_or}
use Rattle.tv_flow.specs.DocumentViews.{document_view}
use Rattle.tv_flow.specs.Views.{activity_view, repeat_view}
use Rattle.tv_naming.specs.Faulty.{at_loop, first_of, loop_nested, no_such_service, plainly}
use Rattle.tv_naming.specs.FaultViews.{fault_view}
use Rattle.tv_naming.specs.Naming.{complain_if, is_nested, repeat_complaints}
use Rattle.tv_naming.proofs.Lists.{list_any-map}
use Rattle.tv_naming.proofs.naming.loop_fault.Goals as goal

pub returns-in-Some : goal.returns-in-Some
returns-in-Some g c =
    let knows = g.V.Services.knows in
    let found = c.repeat_fault.result in
    let loop = at_loop c.args.name.now c.args.step_name.now in
    let activities = c.args.step.now.activities in
    let known = c.has-known.ensures ∙ ap knows c.as_str.ensures in
    let nested = c.nests-nested.ensures ∙ ap (list_any (λ a. is_nested (activity_view a))) c.as_slice.ensures ∙ list_any-map is_nested activity_view activities in
    let told = subst (λ (k : Bool). IfOk found (λ f. option_map fault_view f ≡ first_of (complain_if (not k) (plainly no_such_service loop) ++ complain_if c.nests-nested.result (plainly loop_nested loop)))) known c.repeat_fault.ensures in
    let is = subst (λ (b : Bool). IfOk found (λ f. option_map fault_view f ≡ first_of (complain_if (not (knows c.in-Some.repeat.service)) (plainly no_such_service loop) ++ complain_if b (plainly loop_nested loop)))) nested told in
    subst (λ r. IfOk found (λ f. option_map fault_view f ≡ first_of (option_map_or (repeat_complaints knows (document_view c.args.document.now) loop (map activity_view activities)) (option_map repeat_view r) []))) (sym c.in-Some.is) is
