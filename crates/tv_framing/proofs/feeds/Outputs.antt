-- The outputs of a step by their names, and what an event's job gave at them.
use Rattle.std.specs.Prelude.{◌≡◌, refl, ℕ, zero, suc, ◌+◌, ◌-◌, ◌≤◌, Bool, true, false, if◌then◌else◌, is_some, length, List, [], ◌∷◌, map, Some, slice_get, unwrap_or}
use Rattle.std.proofs.Common.{arith, sym, ap, ap₂, subst, ◌∙◌}
use Rattle.std.proofs.lemmas.Bool.{true≢false}
use Rattle.std.proofs.lemmas.Option.{none-some, same_Some}
use Rattle.tv_lemmas.specs.Members.{In}
use Rattle.tv_value.specs.Nested.{Place, list, no_trees}
use Rattle.tv_value.specs.Orders.{named, same_name}
use Rattle.tv_value.specs.Values.{HasDepth, JobName, Name, Value}
use Rattle.tv_flow.specs.Flows.{Flow, Step}
use Rattle.tv_strategy.specs.Iterations.{Iteration}
use Rattle.tv_strategy.specs.Outputs.{output_below}
use Rattle.tv_naming.specs.Naming.{has_name}
use Rattle.tv_naming.specs.Numbers.{position}
use Rattle.tv_model.specs.instance.Delivered.{Delivered}
use Rattle.tv_model.specs.instance.Steps.{spot}
use Rattle.tv_check.specs.Feeds.{outputs_of}
use Rattle.tv_model.specs.instance.ByResults.{Results, outputs_by, result_at}
use Rattle.tv_model.specs.instance.Events as events
use Rattle.tv_model.specs.instance.Events.{Event, Events, Extends, event_place, event_step, fault_set, gave, is_telling, took}
use Rattle.tv_model.specs.RightDepths.{HaveTheseDepths}
use Rattle.tv_framing.specs.Arriving.{levels_below}
use Rattle.tv_framing.specs.Feeding.{GaveThis, HasDepthLeft}
use Rattle.tv_framing.specs.Views.{AreGiven}
use Rattle.tv_framing.specs.engine.TurningTrees.{HasRightLength}
use Rattle.tv_framing.specs.feeds.Fed.{given_at}

-- ---- an output by its name

module _ (instance : JobName) (n : Name) (gives : ℕ → Place → Value) (levels : ℕ) (it : Iteration) where
  -- the k-th output of the step, of this declared depth
  abbrev pub output_on : ℕ → ℕ → Delivered
  output_on k declared = record { depth = levels + declared; value = output_below (spot instance n) (gives k) declared [] levels it }

  pub record IsOutputNamed (k : ℕ) (ps : List (Name × ℕ)) (o : Name) : Type 0 where
    pub declared : ℕ
    pub named_so : named o ps ≡ Some declared
    pub delivered : named o (outputs_by instance n gives levels it k ps) ≡ Some (output_on (k + position o ps) declared)

  pub output-named : (k : ℕ) (ps : List (Name × ℕ)) (o : Name) → has_name ps o ≡ true → IsOutputNamed k ps o
  output-named k [] o h = absurd (true≢false (sym h))
  output-named k (p ∷ ps) o h = by (same_name o p.0) refl h (λ g. output-named (suc k) ps o g)
    where
      here : (a : ℕ) → a ≡ a + 0
      here a = omega arith

      later : (a b : ℕ) → suc a + b ≡ a + suc b
      later a b = omega arith

      by : (b : Bool) → same_name o p.0 ≡ b → is_some (if b then Some p.1 else named o ps) ≡ true → (has_name ps o ≡ true → IsOutputNamed (suc k) ps o) → IsOutputNamed k (p ∷ ps) o
      by true e g rec = record {
        declared = p.1;
        named_so = ap (λ b. if b then Some p.1 else named o ps) e;
        delivered = ap (λ b. if b then Some (output_on k p.1) else named o (outputs_by instance n gives levels it (suc k) ps)) e ∙ ap (λ m. Some (output_on m p.1)) (here k ∙ ap (λ b. k + (if b then 0 else suc (position o ps))) (sym e));
      }
      by false e g rec = let r = rec g in record {
        declared = r.declared;
        named_so = ap (λ b. if b then Some p.1 else named o ps) e ∙ r.named_so;
        delivered = ap (λ b. if b then Some (output_on k p.1) else named o (outputs_by instance n gives levels it (suc k) ps)) e ∙ r.delivered ∙ ap (λ m. Some (output_on m r.declared)) (later k (position o ps) ∙ ap (λ b. k + (if b then 0 else suc (position o ps))) (sym e));
      }

  pub output-there : (ps : List (Name × ℕ)) (o : Name) → has_name ps o ≡ true → has_name (outputs_by instance n gives levels it 0 ps) o ≡ true
  output-there ps o h = ap is_some (output-named 0 ps o h).delivered

-- ---- what the job of an event gave

-- values of the declared depths, output by output
value-fits : (ps : List (Name × ℕ)) (vs : List Value) → HaveTheseDepths (map (λ (p : Name × ℕ). p.1) ps) vs → (o : Name) (c : ℕ) → named o ps ≡ Some c → HasDepth (unwrap_or (slice_get vs (position o ps)) (list tt no_trees)) c
value-fits [] vs h o c e = absurd (none-some c e)
value-fits (p ∷ ps) [] h o c e = absurd h
value-fits (p ∷ ps) (w ∷ vs) h o c e = by (same_name o p.0) e (λ g. value-fits ps vs h.1 o c g)
  where
    by : (b : Bool) → (if b then Some p.1 else named o ps) ≡ Some c → (named o ps ≡ Some c → HasDepth (unwrap_or (slice_get vs (position o ps)) (list tt no_trees)) c) → HasDepth (unwrap_or (slice_get (w ∷ vs) (if b then 0 else suc (position o ps))) (list tt no_trees)) c
    by true g rec = subst (HasDepth w) (same_Some p.1 c g) h.0
    by false g rec = rec g

below-most : (k : ℕ) (q : Place) (c : ℕ) → k ≤ length q + c → levels_below k q ≤ c
below-most k [] c h = omega arith
below-most zero (i ∷ q) c h = below-most zero q c (least (length q + c))
  where
    least : (m : ℕ) → 0 ≤ m
    least m = omega arith
below-most (suc k) (i ∷ q) c h = below-most k q c (lower k (length q) c h)
  where
    lower : (a b d : ℕ) → suc a ≤ suc b + d → a ≤ b + d
    lower a b d h = omega arith

-- t is the event's step, and o an output of it
module _ (flow : Flow) (t : Name) (step : Step) (o : Name) (outputs_are : outputs_of flow t ≡ step.outputs) where
  pub gave-this : (results : Results) (es : Events) (e : Event) → Extends results (e ∷ es) → is_telling e ≡ true → t ≡ event_step e → (n : Name) → n ≡ t → GaveThis (given_at flow e o) (result_at results n (position o step.outputs)) e (event_place e)
  gave-this results es (gave s q vs) x tells same n is =
      ap₂ (λ m ws. unwrap_or (slice_get ws (position o m)) (list tt no_trees))
      (ap (outputs_of flow) (sym same) ∙ outputs_are)
      (sym x.0 ∙ ap (λ m. results m q) (sym (is ∙ same)))
  gave-this results es (events.closed s q k) x tells same n is = tt
  gave-this results es (fault_set s q d) x tells same n is = tt
  gave-this results es (took s q) x tells same n is = absurd (true≢false (sym tells))

  pub depth-left : (steps : List (Name × Step)) → In (t, step) steps → (es : Events) (e : Event) → AreGiven steps (e ∷ es) → t ≡ event_step e → (c : ℕ) → named o step.outputs ≡ Some c → (levels : ℕ) → HasRightLength levels e → (k : ℕ) → k ≤ levels + c → HasDepthLeft (given_at flow e o) (c - levels_below k (event_place e)) e (levels_below k (event_place e))
  depth-left steps i es (gave s q vs) given same c out levels long k le =
      subst (HasDepth (given_at flow (gave s q vs) o)) (parts c (levels_below k q) (below-most k q c (subst (λ m. k ≤ m + c) (sym long) le)))
      (subst (λ (m : List (Name × ℕ)). HasDepth (unwrap_or (slice_get vs (position o m)) (list tt no_trees)) c) (sym (ap (outputs_of flow) (sym same) ∙ outputs_are)) (value-fits step.outputs vs (given.0 (t, step) i same) o c out))
    where
      parts : (a b : ℕ) → b ≤ a → a ≡ b + (a - b)
      parts a b h = omega arith
  depth-left steps i es (events.closed s q n) given same c out levels long k le = tt
  depth-left steps i es (fault_set s q d) given same c out levels long k le = tt
  depth-left steps i es (took s q) given same c out levels long k le = tt
