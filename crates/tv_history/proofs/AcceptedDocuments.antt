-- An accepted document agrees in its depths.
use Rattle.std.specs.Prelude.{◌≡◌, ℕ, ◌<◌, ◌≤◌, ◌^◌, List, [], ◌∷◌, length, flat_map, Bool, true, not, ◌&&◌, Some, unwrap_or}
use Rattle.std.specs.List.{list_all}
use Rattle.std.specs.Option.{option_map_or}
use Rattle.std.proofs.Common.{arith, sym, ap, subst, ◌∙◌}
use Rattle.std.proofs.lemmas.Bool.{and_parts}
use Rattle.tv_lemmas.specs.Members.{Each}
use Rattle.tv_lemmas.proofs.Options.{is_none-none, is_some-some}
use Rattle.tv_lemmas.proofs.Lists.{append-none}
use Rattle.tv_value.specs.Nested.{list, no_trees}
use Rattle.tv_value.specs.Values.{Name, Value, HasDepth, has_depth}
use Rattle.tv_value.specs.DepthSets.{least_depth}
use Rattle.tv_value.specs.Orders.{named}
use Rattle.tv_value.proofs.DepthLemmas.{test-decides}
use Rattle.tv_flow.specs.Flows.{Flow, Document}
use Rattle.tv_flow.specs.Forms.{is_name}
use Rattle.tv_flow.specs.Formed.{is_depth, is_flow, is_formed}
use Rattle.tv_naming.specs.Faulty.{plainly, with_numbers, no_such_flow, at_main, input_depth, at_given, first_of}
use Rattle.tv_naming.specs.Naming.{has_name, complain_if, naming_complaints}
use Rattle.tv_naming.specs.Inputs.{missing_against, unknown_against, depth_against, given_against, given_complaints}
use Rattle.tv_naming.proofs.Forms.{flows-named}
use Rattle.tv_naming.proofs.FormedParts.{all-pass, ascending, document-flows, flow-inputs}
use Rattle.tv_check.specs.Cycles.{opened_flows, cycle_complaints, nesting_complaints, link_cycle_complaints}
use Rattle.tv_check.specs.Depthwise.{depth_complaints}
use Rattle.tv_check.specs.Measured.{flow_nesting, opens_lower}
use Rattle.tv_check.specs.Tables.{has_fitting}
use Rattle.tv_check.specs.Passes.{complaints, checked}
use Rattle.tv_check.specs.Plans.{IsAccepted}
use Rattle.tv_check.specs.NamedGraphs.{leads_inside, links_inside}
use Rattle.tv_check.proofs.Accepting.{first-none}
use Rattle.tv_check.proofs.Inside.{nil-each, each-by, silent, names-inside}
use Rattle.tv_check.proofs.CycleLemmas.{IsThere, each-there}
use Rattle.tv_check.proofs.Prepared.{all-fit, all-lower}
use Rattle.tv_model.specs.Agreeing.{InputsHave, Agrees}
use Rattle.tv_model.specs.Meanings.{nesting_limit}
use Rattle.tv_history.proofs.Lists.{named-each}
use Rattle.tv_strategy.proofs.Each.{each-passes as all-each}
use Rattle.tv_history.proofs.FlowsAgree.{flow-agrees}
use Rattle.tv_history.proofs.Nests.{Silent, all-silent, deep_told, nest, nests, not-more}

-- ---- the given values

abbrev DepthTold : List (Name × ℕ) → Name × Value → Type 0
DepthTold inputs v = depth_against inputs v ≡ []

inputs-have : (inputs : List (Name × ℕ)) (vs : List (Name × Value)) (xs : List (Name × ℕ)) → Each (IsThere inputs) xs → Each (λ x. missing_against vs x ≡ []) xs → Each (DepthTold inputs) vs → InputsHave xs vs
inputs-have inputs vs [] t m h = tt
inputs-have inputs vs (x ∷ xs) t m h =
    let found = is_some-some (named x.0 vs) (silent (has_name vs x.0) _ m.0) in
    (subst (λ o. HasDepth (unwrap_or o (list tt no_trees)) x.1) (sym found.1) (deep found.0 (named-each (DepthTold inputs) x.0 vs found.0 h found.1)), inputs-have inputs vs xs t.1 m.1 h)
  where
    deep : (v : Value) → depth_against inputs (x.0, v) ≡ [] → HasDepth v x.1
    deep v e = (test-decides v x.1).0 (silent (has_depth v x.1) _ (subst (λ o. option_map_or (λ k. complain_if (not (has_depth v k)) (with_numbers input_depth (at_given x.0) k (unwrap_or (least_depth v) 0))) o [] ≡ []) t.0.1 e))

given-have : (d : Document) → is_formed d ≡ true → given_complaints d ≡ [] → (flow : Flow) → is_flow flow ≡ true → named d.main d.flows ≡ Some flow → InputsHave flow.inputs d.inputs
given-have d formed h flow fl e =
    let g : given_against flow.inputs d.inputs ≡ [] = ap (λ o. given_against (option_map_or (λ (f : Flow). f.inputs) o []) d.inputs) (sym e) ∙ h in
    let p = append-none _ (flat_map (depth_against flow.inputs) d.inputs) g in
    let q = append-none (flat_map (missing_against d.inputs) flow.inputs) (flat_map (unknown_against flow.inputs) d.inputs) p.0 in
    inputs-have flow.inputs d.inputs flow.inputs (each-there flow.inputs (ascending is_depth 0 16 flow.inputs (flow-inputs flow fl))) (nil-each (missing_against d.inputs) flow.inputs q.0) (nil-each (depth_against flow.inputs) d.inputs p.1)

-- ---- all passes

pub accepted-agrees : (d : Document) → is_formed d ≡ true → IsAccepted d → Agrees d
accepted-agrees d formed accepted =
    let knows : Name → Bool = λ n. true in
    let all = first-none (complaints knows d) (is_none-none (checked knows d) accepted) in
    let a = append-none _ (given_complaints d) all in
    let b = append-none _ (depth_complaints d) a.0 in
    let c = append-none _ (link_cycle_complaints d) b.0 in
    let e = append-none _ (nesting_complaints d) c.0 in
    let n = append-none (naming_complaints knows d) (cycle_complaints d) e.0 in
    let flows = flows-named d formed in
    let forms = each-by _ (λ f. is_flow f.1 ≡ true) d.flows (λ f b. (and_parts (is_name f.0) (is_flow f.1) b).1) (all-each (λ f. is_name f.0 && is_flow f.1) d.flows (all-pass is_flow 1 256 d.flows (document-flows d formed))) in
    let fits = all-each (λ f. list_all (λ s. has_fitting s.1) f.1.steps) d.flows (all-fit knows d n.0) in
    let silent_all = all-silent d e.1 b.1 in
    let inside = and_parts (leads_inside opened_flows d.flows) (list_all (λ f. links_inside f.1) d.flows) (names-inside knows d n.0) in
    let lower = all-each (λ f. list_all (λ s. list_all (opens_lower d (flow_nesting d f.0)) s.1.activities) f.1.steps) d.flows (all-lower d flows.rise (small (length d.flows) flows.few) inside.0 (ap first_of n.1)) in
    let opens = all-each (λ f. list_all (has_name d.flows) (opened_flows f.1)) d.flows inside.0 in
    let main_there = silent (has_name d.flows d.main) (plainly no_such_flow at_main) (append-none (complain_if (not (has_name d.flows d.main)) (plainly no_such_flow at_main)) _ n.0).0 in
    let main = is_some-some (named d.main d.flows) main_there in
    let few = named-each (λ f. deep_told d f ≡ []) d.main d.flows main.0 (nil-each (deep_told d) d.flows e.1) main.1 in
    record {
      flows = λ f flow is. flow-agrees d f flow (named-each (λ f. is_flow f.1 ≡ true) f d.flows flow forms is) (named-each (λ f. list_all (λ s. has_fitting s.1) f.1.steps ≡ true) f d.flows flow fits is) (named-each (Silent d) f d.flows flow silent_all is);
      nests = nests d lower opens nesting_limit d.main main_there (not-more (nest d d.main) _ few);
      inputs = λ flow is. given-have d formed a.1 flow (named-each (λ f. is_flow f.1 ≡ true) d.main d.flows flow forms is) is;
    }
  where
    small : (n : ℕ) → n ≤ 256 → n < 2 ^ 32
    small n le = omega arith
