-- What the ports of a step are told at the start by their numbers is what they are told by names.
use Rattle.std.specs.Prelude.{◌≡◌, refl, ℕ, suc, ◌+◌, List, [], ◌∷◌, ◌++◌, IsPermutation, Option, Some, flat_map, length, map, reverse, slice_get}
use Rattle.std.proofs.Common.{arith, sym, ap, ap₂, subst, ◌∙◌}
use Rattle.std.proofs.lemmas.List.Sorted.{IsPermutation-reverse, IsPermutation-sym}
use Rattle.tv_value.specs.Values.{Name, Value}
use Rattle.tv_flow.specs.Flows.{Feed, Flow, Step, StepInput, constant, link, merge}
use Rattle.tv_strategy.specs.Measures.{leaf_names}
use Rattle.tv_naming.specs.Naming.{numbered}
use Rattle.tv_model.specs.instance.Steps.{strategy_of}
use Rattle.tv_matching.specs.Told.{Told}
use Rattle.tv_matching.proofs.Permutes.{flat-permutes}
use Rattle.tv_check.specs.declared.ports.Port.{Port}
use Rattle.tv_check.specs.Ports.{port_among, ports_of}
use Rattle.tv_framing.specs.engine.WiredFlows.{IsWired}
use Rattle.tv_binding.specs.Constants.{constant_in}
use Rattle.tv_telling.specs.Openings.{numbered_port_start}
use Rattle.tv_framing.specs.starts.Numbers.{AreInputValues, IsFixedValue}
use Rattle.tv_framing.specs.starts.Starts.{port_start, step_start}
use Rattle.tv_framing.proofs.starts.Numbers.{inputs-are_in_order, numbers-start_alike}
use Rattle.tv_frame.specs.FirstTellings.{fixed_value, ports_start}
use Rattle.tv_frame.specs.Started.{named_values}
use Rattle.tv_frame.proofs.Started.{value-names, values-named}

fixed-in : (d : Feed) → IsFixedValue d (fixed_value (constant_in d))
fixed-in (link l) = tt
fixed-in (merge ls) = tt
fixed-in (constant v) = refl

module _ (f : Flow) (wired : IsWired f) (vs : List Value) (many : length vs ≡ length f.inputs) (n : ℕ) (s : Name × Step) (at : slice_get f.steps n ≡ Some s) (constants : ℕ → Option Value) where
  values-are : AreInputValues f (named_values f.inputs vs) vs
  values-are =
      subst (AreInputValues f (named_values f.inputs vs)) (values-named f.inputs vs many)
      (inputs-are_in_order f (named_values f.inputs vs) (value-names f.inputs vs many))

  abbrev starts_at : ℕ → Name × StepInput → List Told
  starts_at k i = numbered_port_start vs (fixed_value (constants k)) (strategy_of s.1) (port_among f (leaf_names (strategy_of s.1)) i)

  abbrev of_port : ℕ × Port → List Told
  of_port x = numbered_port_start vs (fixed_value (constants x.0)) (strategy_of s.1) x.1

  port-starts : ((k : ℕ) (i : Name × StepInput) → slice_get s.1.inputs k ≡ Some i → constants k ≡ constant_in i.1.from) → (k : ℕ) (i : Name × StepInput) → slice_get s.1.inputs k ≡ Some i → starts_at k i ≡ port_start f (named_values f.inputs vs) i
  port-starts c k i e =
      numbers-start_alike f wired n s at k i e (named_values f.inputs vs) vs values-are (fixed_value (constants k))
      (subst (λ o. IsFixedValue i.1.from (fixed_value o)) (sym (c k i e)) (fixed-in i.1.from))

  ports-along : (k : ℕ) (is : List (Name × StepInput)) → ((j : ℕ) (i : Name × StepInput) → slice_get is j ≡ Some i → starts_at (k + j) i ≡ port_start f (named_values f.inputs vs) i) → flat_map of_port (numbered k (map (port_among f (leaf_names (strategy_of s.1))) is)) ≡ flat_map (port_start f (named_values f.inputs vs)) is
  ports-along k [] h = refl
  ports-along k (i ∷ is) h =
      let here : k ≡ k + 0 = omega arith in
      let next : (j : ℕ) → suc k + j ≡ k + suc j = λ j. omega arith in
      ap₂ (λ a b. a ++ b) (ap (λ m. starts_at m i) here ∙ h 0 i refl) (ports-along (suc k) is (λ j x e. ap (λ m. starts_at m x) (next j) ∙ h (suc j) x e))

  pub ports-start : ((k : ℕ) (i : Name × StepInput) → slice_get s.1.inputs k ≡ Some i → constants k ≡ constant_in i.1.from) → IsPermutation (ports_start vs constants (strategy_of s.1) (ports_of f s.1)) (step_start f (named_values f.inputs vs) s.1)
  ports-start c =
      let ps = numbered 0 (ports_of f s.1) in
      subst (IsPermutation (flat_map of_port (reverse ps))) (ports-along 0 s.1.inputs (λ j i e. let z : 0 + j ≡ j = omega arith in ap (λ m. starts_at m i) z ∙ port-starts c j i e))
      (flat-permutes of_port (reverse ps) ps (IsPermutation-sym ps (reverse ps) (IsPermutation-reverse ps)))
