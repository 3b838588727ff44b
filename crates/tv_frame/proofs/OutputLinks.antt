-- The links of a flow's outputs come from what is there, where the document was accepted.
use Rattle.std.specs.Coded.{Coded-set, coded_bool}
use Rattle.std.specs.List.{list_all}
use Rattle.std.specs.Prelude.{◌≡◌, Bool, true, [], not}
use Rattle.std.proofs.Math.Logic.{∥∥₁_elim}
use Rattle.tv_lemmas.specs.Members.{Each}
use Rattle.tv_lemmas.proofs.Options.{is_none-none}
use Rattle.tv_lemmas.proofs.Lists.{append-none}
use Rattle.tv_value.specs.Values.{Name}
use Rattle.tv_flow.specs.Flows.{Document, Feed, Flow, Link}
use Rattle.tv_naming.specs.Faulty.{Where, at_flow_output, at_main, no_such_flow, no_such_port, plainly}
use Rattle.tv_naming.specs.Inputs.{given_complaints}
use Rattle.tv_naming.specs.Naming.{complain_if, feed_links, flow_naming, has_name, is_there, link_complaints, naming_complaints, output_complaints}
use Rattle.tv_check.specs.Cycles.{cycle_complaints, link_cycle_complaints, nesting_complaints}
use Rattle.tv_check.specs.Depthwise.{depth_complaints}
use Rattle.tv_check.specs.Passes.{checked, complaints}
use Rattle.tv_check.specs.Plans.{IsAccepted}
use Rattle.tv_check.specs.PlanViews.{IsOfDocument}
use Rattle.tv_check.proofs.Accepting.{first-none}
use Rattle.tv_check.proofs.Inside.{each-all, each-by, nil-each, silent}
use Rattle.tv_framing.proofs.engine.Accepted.{named-each}

abbrev pub has_output_links : Flow → Bool
has_output_links f = list_all (λ (o : Name × Feed). list_all (is_there f) (feed_links o.1)) f.outputs

links-there : (flow : Flow) (w : Where) (d : Feed) → link_complaints flow w d ≡ [] → list_all (is_there flow) (feed_links d) ≡ true
links-there flow w d h =
    each-all (is_there flow) (feed_links d)
    (each-by (λ (l : Link). complain_if (not (is_there flow l)) (plainly no_such_port w) ≡ []) (λ (l : Link). is_there flow l ≡ true) (feed_links d) (λ l g. silent (is_there flow l) (plainly no_such_port w) g)
    (nil-each (λ (l : Link). complain_if (not (is_there flow l)) (plainly no_such_port w)) (feed_links d) h))

flow-links : (knows : Name → Bool) (d : Document) (f : Name × Flow) → flow_naming knows d f ≡ [] → has_output_links f.1 ≡ true
flow-links knows d f e =
    each-all (λ (o : Name × Feed). list_all (is_there f.1) (feed_links o.1)) f.1.outputs
    (each-by (λ (o : Name × Feed). output_complaints f.0 f.1 o ≡ []) (λ (o : Name × Feed). list_all (is_there f.1) (feed_links o.1) ≡ true) f.1.outputs (λ o g. links-there f.1 (at_flow_output f.0 o.0) o.1 g)
    (nil-each (output_complaints f.0 f.1) f.1.outputs (append-none _ _ e).1))

each-linked : (d : Document) → IsAccepted d → Each (λ (f : Name × Flow). has_output_links f.1 ≡ true) d.flows
each-linked d accepted =
    let knows : Name → Bool = λ n. true in
    let all : complaints knows d ≡ [] = first-none (complaints knows d) (is_none-none (checked knows d) accepted) in
    let a = append-none _ (given_complaints d) all in
    let b = append-none _ (depth_complaints d) a.0 in
    let c = append-none _ (link_cycle_complaints d) b.0 in
    let e = append-none _ (nesting_complaints d) c.0 in
    let n = append-none (naming_complaints knows d) (cycle_complaints d) e.0 in
    each-by (λ (f : Name × Flow). flow_naming knows d f ≡ []) (λ (f : Name × Flow). has_output_links f.1 ≡ true) d.flows (flow-links knows d)
    (nil-each (flow_naming knows d) d.flows (append-none (complain_if (not (has_name d.flows d.main)) (plainly no_such_flow at_main)) _ n.0).1)

pub output-links : (f : Flow) → IsOfDocument f → has_output_links f ≡ true
output-links f of = ∥∥₁_elim of (Coded-set coded_bool _ _) (λ x. named-each (λ (g : Flow). has_output_links g ≡ true) x.1.0 x.0.flows f (each-linked x.0 x.1.2) x.1.3)
