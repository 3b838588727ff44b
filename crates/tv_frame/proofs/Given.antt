-- The feeds of a flow's ports by numbers: each input is there, each constant too, and merges are short.
use Rattle.std.specs.List.{list_all}
use Rattle.std.specs.Prelude.{◌≡◌, ℕ, ◌<◌, ◌≤◌, true, List, [], ◌∷◌, is_some, length, map, Option, Some, option_and_then, slice_get}
use Rattle.std.proofs.Common.{arith, sym, ap, subst, ◌∙◌}
use Rattle.std.proofs.lemmas.Bool.{leb-true, and_parts}
use Rattle.std.proofs.lemmas.List.{length-map}
use Rattle.tv_lemmas.specs.Members.{Each}
use Rattle.tv_lemmas.proofs.Lists.{get-map, of-get_map}
use Rattle.tv_value.specs.Readings.{length_limit}
use Rattle.tv_value.specs.Values.{Name, Value}
use Rattle.tv_flow.specs.Flows.{Feed, Flow, Link, Step, StepInput, constant, input, link, merge, output}
use Rattle.tv_flow.specs.Formed.{is_feed, is_step_input}
use Rattle.tv_flow.specs.Views.{flow_view}
use Rattle.tv_strategy.specs.Measures.{leaf_names}
use Rattle.tv_naming.specs.Naming.{feed_links, is_there}
use Rattle.tv_naming.proofs.FormedParts.{all-pass, entries-passes, passes, step-at, step-inputs}
use Rattle.tv_model.specs.instance.Steps.{strategy_of}
use Rattle.tv_check.specs.declared.plans.FlowPlan.{FlowPlan}
use Rattle.tv_check.specs.declared.ports.Port.{Port}
use Rattle.tv_check.specs.declared.wiring.Wiring.{Wiring}
use Rattle.tv_check.specs.Feeds.{feed_numbered, link_numbered}
use Rattle.tv_check.specs.Ports.{port_among, ports_of}
use Rattle.tv_binding.specs.Constants.{constant_in, constant_of_port, flow_constants, port_constants, there}
use Rattle.tv_binding.specs.Sourced.{IsCounted}
use Rattle.tv_binding.proofs.SourceLemmas.{links-many}
use Rattle.tv_telling.specs.Openings.{IsFedFrom, IsInput}
use Rattle.tv_frame.proofs.TableLemmas.{plan-wired, wiring-is}
use Rattle.tv_framing.proofs.engine.Told.{few-there}

few-links : (ls : List Link) → is_feed (merge ls) ≡ true → length ls ≤ 16
few-links ls k = leb-true _ _ (and_parts _ _ (and_parts _ _ k).0).1

small : (n : ℕ) → n ≤ 16 → n < length_limit
small n l = omega (arith, l)

module _ (f : Flow) where
  link-given : (l : Link) → is_there f l ≡ true → IsInput (length f.inputs) (link_numbered f l)
  link-given (input x) h = few-there x f.inputs h
  link-given (output s o) h = tt

  links-given : (ls : List Link) → list_all (is_there f) ls ≡ true → Each (IsInput (length f.inputs)) (map (link_numbered f) ls)
  links-given [] h = tt
  links-given (l ∷ ls) h = let b = and_parts (is_there f l) (list_all (is_there f) ls) h in (link-given l b.0, links-given ls b.1)

  pub feed-given : (d : Feed) → is_feed d ≡ true → list_all (is_there f) (feed_links d) ≡ true → (c : Option Value) → c ≡ constant_in d → IsFedFrom (length f.inputs) (is_some c) (feed_numbered f d)
  feed-given (link l) k h c e = link-given l (and_parts _ _ h).0
  feed-given (merge ls) k h c e =
      let few = few-links ls k in
      let many = length-map ls (link_numbered f) in
      (links-given ls h, omega (arith, few, many))
  feed-given (constant v) k h c e = ap is_some e

  pub feed-counted : (d : Feed) → is_feed d ≡ true → IsCounted (feed_numbered f d)
  feed-counted (link l) k = small 1 (omega arith)
  feed-counted (merge ls) k =
      subst (λ n. n < length_limit) (sym (links-many (map (link_numbered f) ls) ∙ length-map ls (link_numbered f)))
      (small (length ls) (few-links ls k))
  feed-counted (constant v) k = small 0 (omega arith)

  -- the constant of a step's port
  pub constant-at : (n m : ℕ) (s : Name × Step) (i : Name × StepInput) → slice_get f.steps n ≡ Some s → slice_get s.1.inputs m ≡ Some i → constant_of_port (flow_constants f) n m ≡ constant_in i.1.from
  constant-at n m s i at here =
      ap (option_and_then (λ os. there os m)) (get-map port_constants f.steps n s at)
      ∙ ap (option_and_then (λ o. o)) (get-map (λ (j : Name × StepInput). constant_in j.1.from) s.1.inputs m i here)

pub ports-at : (p : FlowPlan) (n : ℕ) (ports : List Port) → slice_get p.wiring.ports n ≡ Some ports → (s : Name × Step) × ((slice_get (flow_view p.flow).steps n ≡ Some s) × (ports ≡ ports_of (flow_view p.flow) s.1))
ports-at p n ports e = of-get_map (λ (s : Name × Step). ports_of (flow_view p.flow) s.1) (flow_view p.flow).steps n ports (ap (λ (w : Wiring). slice_get w.ports n) (sym (wiring-is p)) ∙ e)

pub ports-given : (p : FlowPlan) (n : ℕ) (ports : List Port) → slice_get p.wiring.ports n ≡ Some ports → (number : ℕ) (port : Port) → slice_get ports number ≡ Some port → IsFedFrom (length (flow_view p.flow).inputs) (is_some (constant_of_port (flow_constants (flow_view p.flow)) n number)) port.feed
ports-given p n ports e number port there =
    let f = flow_view p.flow in
    let wired = plan-wired p in
    let s = ports-at p n ports e in
    let i = of-get_map (port_among f (leaf_names (strategy_of s.0.1))) s.0.1.inputs number port (ap (λ l. slice_get l number) (sym s.1.1) ∙ there) in
    let linked = passes (λ (j : Name × StepInput). list_all (is_there f) (feed_links j.1.from)) s.0.1.inputs number i.0 (passes (λ (t : Name × Step). list_all (λ j. list_all (is_there f) (feed_links j.1.from)) t.1.inputs) f.steps n s.0 wired.links s.1.0) i.1.0 in
    let formed = entries-passes is_step_input s.0.1.inputs number i.0 (all-pass is_step_input 0 16 s.0.1.inputs (step-inputs s.0.1 (step-at f wired.formed n s.0 s.1.0))) i.1.0 in
    subst (λ (q : Port). IsFedFrom (length f.inputs) (is_some (constant_of_port (flow_constants f) n number)) q.feed) (sym i.1.1)
    (feed-given f i.0.1.from (and_parts _ _ formed).1 linked (constant_of_port (flow_constants f) n number) (constant-at f n number s.0 i.0 s.1.0 i.1.0))
