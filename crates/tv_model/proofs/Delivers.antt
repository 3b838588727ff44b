-- What an instance delivers has the depths of the check.
use Rattle.std.specs.Prelude.{◌≡◌, refl, ℕ, zero, suc, ◌+◌, ◌-◌, List, [], ◌∷◌, map, find, Bool, true, false, Option, Some, None, option_map, unwrap_or, if◌then◌else◌}
use Rattle.std.specs.Option.{option_map_or}
use Rattle.std.proofs.Common.{arith, sym, ap, subst, ◌∙◌}
use Rattle.tv_lemmas.specs.Members.{Each}
use Rattle.tv_value.specs.Nested.{trees_of}
use Rattle.tv_value.specs.Values.{Name, JobName, Value, HasDepth, AllHaveDepth}
use Rattle.tv_value.specs.Orders.{same_name, named}
use Rattle.tv_flow.specs.Flows.{Link, input, output, Feed, link, merge, constant, StepInput, Step}
use Rattle.tv_strategy.specs.Origins.{Traced, fixed, input_value}
use Rattle.tv_strategy.specs.Iterations.{Iteration}
use Rattle.tv_strategy.specs.Measures.{strategy_depth}
use Rattle.tv_gate.specs.Outcomes.{Giving}
use Rattle.tv_naming.proofs.Lists.{find-map}
use Rattle.tv_model.specs.instance.Delivered.{Delivered, Ported, nothing_delivered, wrapped, at_port}
use Rattle.tv_model.specs.Made.{Made, Meaning, Opened, link_value, feed_value, delivered_outputs}
use Rattle.tv_model.specs.instance.Steps.{port_mismatch, strategy_of}
use Rattle.tv_model.specs.Instances.{step_made, value_given}
use Rattle.tv_model.specs.Agreeing.{constant_depth, StepDepths, link_depth, feed_depth, port_depth, step_depths, AllAre, FeedAgrees, InputsHave}
pub use Rattle.tv_model.specs.RightDepths.{AreRight, IsRight}
use Rattle.tv_strategy.proofs.AtDepth.{traced-depth, input-depth}
use Rattle.tv_model.proofs.Fed.{step_ports, step_iteration, named_or, find_map_or}

abbrev pub depths_of : List (Name × Delivered) → List (Name × ℕ)
depths_of ds = map (λ d. (d.0, d.1.depth)) ds

-- the depths alone of a step that was made
abbrev pub forget : Made → StepDepths
forget m = record { step = m.step.step; outputs = depths_of m.step.outputs }

-- ---- the delivered depths are those of the check

named-depth : (n : Name) (xs : List (Name × Delivered)) → (unwrap_or (named n xs) nothing_delivered).depth ≡ unwrap_or (named n (depths_of xs)) 1
named-depth n [] = refl
named-depth n (x ∷ xs) = by (same_name n x.0) (named-depth n xs)
  where
    by : (b : Bool) → (unwrap_or (named n xs) nothing_delivered).depth ≡ unwrap_or (named n (depths_of xs)) 1 → (unwrap_or (if b then Some x.1 else named n xs) nothing_delivered).depth ≡ unwrap_or (if b then Some x.1.depth else named n (depths_of xs)) 1
    by true h = refl
    by false h = h

found-depth : (s p : Name) (ms : List Made) → (option_map_or (λ (m : Made). unwrap_or (named p m.step.outputs) nothing_delivered) (find (λ m. same_name s m.step.step) ms) nothing_delivered).depth ≡ option_map_or (λ (m : StepDepths). unwrap_or (named p m.outputs) 1) (find (λ m. same_name s m.step) (map forget ms)) 1
found-depth s p ms =
    by (find (λ m. same_name s m.step.step) ms)
    ∙ ap (λ o. option_map_or (λ (m : StepDepths). unwrap_or (named p m.outputs) 1) o 1) (sym (find-map (λ m. same_name s m.step) forget ms))
  where
    by : (o : Option Made) → (option_map_or (λ (m : Made). unwrap_or (named p m.step.outputs) nothing_delivered) o nothing_delivered).depth ≡ option_map_or (λ (m : StepDepths). unwrap_or (named p m.outputs) 1) (option_map forget o) 1
    by None = refl
    by (Some m) = named-depth p m.step.outputs

module _ (given : List (Name × Delivered)) (ms : List Made) where
  pub link-depth : (l : Link) → (link_value given ms l).depth ≡ link_depth (depths_of given) (map forget ms) l
  link-depth (input x) = named-depth x given
  link-depth (output s p) = found-depth s p ms

  pub feed-depth : (f : Feed) → (feed_value given ms f).depth ≡ feed_depth (depths_of given) (map forget ms) f
  feed-depth (link l) = link-depth l
  feed-depth (merge []) = refl
  feed-depth (merge (l ∷ ls)) = ap suc (link-depth l)
  feed-depth (constant v) = refl

  port-depth : (p : Name) (is : List (Name × StepInput)) → port_mismatch (map (λ i. (i.0, at_port i.1.depth (feed_value given ms i.1.from))) is) p ≡ option_map_or (λ (i : StepInput). feed_depth (depths_of given) (map forget ms) i.from - i.depth) (named p is) 0
  port-depth p [] = refl
  port-depth p (i ∷ is) = by (same_name p i.0) (port-depth p is)
    where
      by : (b : Bool) → port_mismatch (map (λ i. (i.0, at_port i.1.depth (feed_value given ms i.1.from))) is) p ≡ option_map_or (λ (i : StepInput). feed_depth (depths_of given) (map forget ms) i.from - i.depth) (named p is) 0 → option_map_or (λ (d : Ported). d.mismatch) (if b then Some (at_port i.1.depth (feed_value given ms i.1.from)) else named p (map (λ i. (i.0, at_port i.1.depth (feed_value given ms i.1.from))) is)) 0 ≡ option_map_or (λ (i : StepInput). feed_depth (depths_of given) (map forget ms) i.from - i.depth) (if b then Some i.1 else named p is) 0
      by true h = ap (λ n. n - i.1.depth) (feed-depth i.1.from)
      by false h = h

  pub mismatches : (s : Step) → port_mismatch (step_ports given ms s) ≡ port_depth (depths_of given) (map forget ms) s
  mismatches s = λ k. λ p. port-depth p s.inputs k

outputs-depths : (I : JobName) (n : Name) (js : List Opened) (levels : ℕ) (it : Iteration) (k : ℕ) (ps : List (Name × ℕ)) → depths_of (delivered_outputs I n js levels it k ps) ≡ map (λ p. (p.0, levels + p.1)) ps
outputs-depths I n js levels it k [] = refl
outputs-depths I n js levels it k (p ∷ ps) = ap (λ l. (p.0, levels + p.1) ∷ l) (outputs-depths I n js levels it (suc k) ps)

-- a step that is made has the depths of the check's next step
pub forget-step : (gives : Giving) (inside : Name → JobName → List (Name × Value) → Meaning) (I : JobName) (given : List (Name × Delivered)) (ms : List Made) (s : Name × Step) → forget (step_made gives inside I given ms s) ≡ step_depths (depths_of given) (map forget ms) s
forget-step gives inside I given ms (n, s) =
    ap (λ l. record { step = n; outputs = l }) (outputs-depths I n (step_made gives inside I given ms (n, s)).jobs (strategy_depth (port_mismatch (step_ports given ms s)) (strategy_of s)) (step_iteration given ms s) 0 s.outputs
    ∙ ap (λ f. map (λ p. (p.0, strategy_depth f (strategy_of s) + p.1)) s.outputs) (mismatches given ms s))

-- ---- a value that is delivered has the delivered depth

wrapped-depth : (k : ℕ) (v : Traced) (d n : ℕ) → n ≡ k + d → HasDepth v d → HasDepth (wrapped k v) n
wrapped-depth zero v d n e h = let same : d ≡ n = omega (arith, e) in subst (HasDepth v) same h
wrapped-depth (suc k) v d zero e h = omega (arith, e)
wrapped-depth (suc k) v d (suc n) e h = (wrapped-depth k v d n (omega arith) h, tt)

pub ported-depth : (declared : ℕ) (d : Delivered) → IsRight d → HasDepth (at_port declared d).value ((at_port declared d).mismatch + declared)
ported-depth declared d h = wrapped-depth (declared - d.depth) d.value d.depth ((d.depth - declared) + declared) (omega arith) h

module _ (given : List (Name × Delivered)) (given_right : AreRight given) (ms : List Made) (made_right : Each (λ m. AreRight m.step.outputs) ms) where
  link-right : (l : Link) → IsRight (link_value given ms l)
  link-right (input x) = named_or IsRight x given nothing_delivered given_right tt
  link-right (output s p) =
      find_map_or (λ (m : Made). AreRight m.step.outputs) IsRight (λ m. unwrap_or (named p m.step.outputs) nothing_delivered) (λ m h. named_or IsRight p m.step.outputs nothing_delivered h tt) (λ m. same_name s m.step.step) ms nothing_delivered made_right tt

  links-right : (d : ℕ) (ls : List Link) → AllAre d (map (link_depth (depths_of given) (map forget ms)) ls) → AllHaveDepth (trees_of (map (λ (e : Delivered). e.value) (map (link_value given ms) ls))) d
  links-right d [] h = tt
  links-right d (l ∷ ls) h = (subst (λ n. HasDepth (link_value given ms l).value n) (link-depth given ms l ∙ h.0) (link-right l), links-right d ls h.1)

  pub feed-right : (f : Feed) → FeedAgrees (depths_of given) (map forget ms) f → IsRight (feed_value given ms f)
  feed-right (link l) h = link-right l
  feed-right (merge []) h = tt
  feed-right (merge (l ∷ ls)) h =
      (link-right l, links-right (link_value given ms l).depth ls (subst (λ d. AllAre d (map (link_depth (depths_of given) (map forget ms)) ls)) (sym (link-depth given ms l)) h))
  feed-right (constant v) h = traced-depth fixed v (constant_depth v) h

-- ---- what an instance is given has the depths of its flow's inputs

abbrev given_as : List (Name × Value) → Name × ℕ → Name × Delivered
given_as vs x = (x.0, record { depth = x.1; value = input_value x.0 [] (value_given vs x.0) })

pub given-right : (vs : List (Name × Value)) (xs : List (Name × ℕ)) → InputsHave xs vs → AreRight (map (given_as vs) xs)
given-right vs [] h = tt
given-right vs (x ∷ xs) h = (input-depth x.0 [] (value_given vs x.0) x.1 h.0, given-right vs xs h.1)

pub given-depths : (vs : List (Name × Value)) (xs : List (Name × ℕ)) → depths_of (map (given_as vs) xs) ≡ xs
given-depths vs [] = refl
given-depths vs (x ∷ xs) = ap (λ ys. x ∷ ys) (given-depths vs xs)
