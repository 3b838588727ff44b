use Rattle.std.proofs.Common.{◌≡◌, ap, sym, ◌∙◌, refl}
use Rattle.std.specs.Prelude.{option_map, flat_map, List}
use Rattle.tv_flow.specs.declared.document.Flow.{Flow}
use Rattle.tv_flow.specs.Views.{each, flow_view}
use Rattle.tv_flow.specs.DocumentViews.{document_view}
use Rattle.tv_value.specs.Values.{Name}
use Rattle.tv_check.specs.Cycles.{flow_link_cycles}
use Rattle.tv_naming.specs.Faulty.{CheckComplaint, first_of}
use Rattle.tv_naming.specs.FaultViews.{fault_view}
use Rattle.tv_naming.proofs.Lists.{flat_map-map}
use Rattle.tv_check.proofs.CycleLemmas.{passed, stopped, passed-all}
use Rattle.tv_naming.proofs.Forms.{flow-at}
use Rattle.tv_check.proofs.cycles.link_cycle_fault.Goals as goal

abbrev told : Name × Flow → List CheckComplaint
told f = flow_link_cycles f.0 (flow_view f.1)

all-told : (fs gs : List (Name × Flow)) → fs ≡ gs → first_of (flat_map told fs) ≡ first_of (flat_map (λ f. flow_link_cycles f.0 f.1) (each flow_view gs))
all-told fs gs e = ap (λ xs. first_of (flat_map told xs)) e ∙ ap first_of (sym (flat_map-map (λ f. flow_link_cycles f.0 f.1) (λ f. (f.0, flow_view f.1)) gs))

pub flow_link_cycle-requires : goal.flow_link_cycle-requires
flow_link_cycle-requires c = flow-at c.args.document.now.flows c.as_slice-flow-items.result.now (document_view c.args.document.now) c.args.document.now.formed refl c.as_slice-flow-items.ensures c.loop-flow.flow-index c.flow-item.result c.loop-flow-test.true c.flow-item.is

pub loop-flow-preserved : goal.loop-flow-preserved
loop-flow-preserved c =
    passed told c.as_slice-flow-items.result.now c.loop-flow.flow-index c.flow-item.result c.loop-flow-test.true c.flow-item.is
    (sym c.in_ok-fault.ensures ∙ ap (option_map fault_view) c.in_default.is) c.loop-flow.invariant

pub returns-in-Some : goal.returns-in-Some
returns-in-Some c =
    sym (stopped told c.as_slice-flow-items.result.now c.loop-flow.flow-index c.flow-item.result c.loop-flow-test.true c.flow-item.is (fault_view c.in-Some.fault)
    (sym c.in_ok-fault.ensures ∙ ap (option_map fault_view) c.in-Some.is) c.loop-flow.invariant)
    ∙ all-told _ _ c.as_slice-flow-items.ensures

pub returns : goal.returns
returns c = sym (passed-all told c.as_slice-flow-items.result.now c.loop-flow.flow-index c.loop-flow-test.false c.loop-flow.invariant) ∙ all-told _ _ c.as_slice-flow-items.ensures
