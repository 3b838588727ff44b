use Rattle.std.proofs.Common.{◌<◌, ◌∙◌, Some, ap, sym, subst, length, get_or}
use Rattle.std.specs.Prelude.{position, nat_lt, ℕ, Bool}
use Rattle.std.proofs.lemmas.List.{length-map}
use Rattle.tv_value.specs.Values.{Name}
use Rattle.tv_flow.specs.Flows.{Flow, Document}
use Rattle.tv_flow.specs.Views.{flow_view}
use Rattle.tv_flow.specs.DocumentViews.{document_view}
use Rattle.tv_check.specs.Cycles.{nesting}
use Rattle.tv_model.specs.instance.Nesting.{nesting_limit}
use Rattle.tv_naming.specs.Faulty.{at_flow, too_deep, CheckComplaint, with_numbers}
use Rattle.tv_naming.proofs.Forms.{length-each, entry-each}
use Rattle.tv_check.proofs.Nestings.{no-position, a-position, number-at}
use Rattle.tv_check.proofs.cycles.nesting_fault.Goals as goal

module _ (d : Document) where
  abbrev deep : ℕ → Bool
  deep n = nat_lt nesting_limit n

  abbrev nest : Name × Flow → ℕ
  nest f = nesting d (length d.flows) f.0

  abbrev complaint : Name × Flow → CheckComplaint
  complaint f = with_numbers too_deep (at_flow f.0) (nest f) nesting_limit

pub bounds-as_slice-flow : goal.bounds-as_slice-flow
bounds-as_slice-flow c =
    let d = document_view c.args.document.now in
    let t = a-position (deep d) (nest d) (complaint d) d.flows c.in-Some.flow (ap (position (deep d)) (sym c.requires) ∙ sym c.first_too_deep.ensures ∙ c.in-Some.is) in
    subst (λ n. c.in-Some.flow < n) (length-each flow_view c.args.document.now.flows ∙ ap length (sym c.as_slice.ensures)) t.inside

pub bounds-levels-flow : goal.bounds-levels-flow
bounds-levels-flow c =
    let d = document_view c.args.document.now in
    let t = a-position (deep d) (nest d) (complaint d) d.flows c.in-Some.flow (ap (position (deep d)) (sym c.requires) ∙ sym c.first_too_deep.ensures ∙ c.in-Some.is) in
    subst (λ n. c.in-Some.flow < n) (sym (length-map d.flows (nest d)) ∙ ap length (sym c.requires)) t.inside

pub returns-in_ok-too_deep-in-Some : goal.returns-in_ok-too_deep-in-Some
returns-in_ok-too_deep-in-Some c =
    let d = document_view c.args.document.now in
    let flows = c.args.document.now.flows in
    let k = c.in-Some.flow in
    let x = c.index-as_slice-flow.result in
    let y : Name × Flow = (x.0, flow_view x.1) in
    let t = a-position (deep d) (nest d) (complaint d) d.flows k (ap (position (deep d)) (sym c.requires) ∙ sym c.first_too_deep.ensures ∙ c.in-Some.is) in
    ap Some c.in_ok-too_deep-in-Some.ensures
    ∙ ap (λ xs. Some (with_numbers too_deep (at_flow (get_or xs k x).0) (get_or c.args.levels.now k 0) nesting_limit)) c.as_slice.ensures
    ∙ ap (λ e. Some (with_numbers too_deep (at_flow e.0) (get_or c.args.levels.now k 0) nesting_limit)) (sym (entry-each flow_view flows k x))
    ∙ ap (λ n. Some (with_numbers too_deep (at_flow (get_or d.flows k y).0) n nesting_limit)) (ap (λ ns. get_or ns k 0) c.requires ∙ number-at (deep d) (nest d) (complaint d) d.flows k y t.inside)
    ∙ sym (t.is y)

pub returns-in-None : goal.returns-in-None
returns-in-None c =
    let d = document_view c.args.document.now in
    sym (no-position (deep d) (nest d) (complaint d) d.flows (ap (position (deep d)) (sym c.requires) ∙ sym c.first_too_deep.ensures ∙ c.in-None.is))
