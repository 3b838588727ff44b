-- What the flow of an open instance is meant to give is what its steps by the results of its own jobs feed to its outputs.
use Rattle.std.specs.Option.{option_map_or}
use Rattle.std.specs.Prelude.{◌≡◌, refl, ℕ, suc, List, [], ◌∷◌, Option, Some, map}
use Rattle.std.proofs.Common.{sym, ap, ap₂, subst, ◌∙◌, inl, inr}
use Rattle.std.proofs.lemmas.Simd.{map-map}
use Rattle.tv_lemmas.specs.Members.{In}
use Rattle.tv_lemmas.proofs.Members.{in-map, of-map}
use Rattle.tv_value.specs.Orders.{named}
use Rattle.tv_value.specs.Values.{JobName, Name, Value}
use Rattle.tv_gate.specs.Outcomes.{Giving}
use Rattle.tv_flow.specs.Flows.{Feed, Flow, Step}
use Rattle.tv_strategy.specs.Origins.{Traced, plain}
use Rattle.tv_model.specs.instance.ByResults.{InstanceStep, step_of}
use Rattle.tv_model.specs.instance.Delivered.{Delivered, StepMeaning, feed_delivers}
use Rattle.tv_model.specs.instance.Ranks.{ranked}
use Rattle.tv_model.specs.Instances.{given_of, step_made, steps_made}
use Rattle.tv_model.specs.Jobs.{Job}
use Rattle.tv_model.specs.Made.{Made, Meaning, feed_value, step_in}
use Rattle.tv_model.specs.Meanings.{flow_meaning, instance_meaning, no_meaning}
use Rattle.tv_model.proofs.Members.{once-of_apart}
use Rattle.tv_model.proofs.Whole.{step_key}
use Rattle.tv_history.specs.Entries.{History}
use Rattle.tv_history.specs.order.Parts.{made_of}
use Rattle.tv_history.proofs.Parts.{main-instance}
use Rattle.tv_framing.specs.Views.{View}
use Rattle.tv_framing.proofs.instances.Results.{feed-map, itself}
use Rattle.tv_forest.proofs.views.Endings.{feed-same, own-instance}
use Rattle.tv_forest.proofs.views.Opened.{IsOpenedAs}
use Rattle.tv_forest.proofs.views.Runs.{Runs, steps_here}
use Rattle.tv_forest.proofs.views.Steps.{of-made, own-alike, own_made}

-- what a meaning gives is fed by its steps as they are made
outputs-made : (gives : Giving) (flows : List (Name × Flow)) (k : ℕ) (g : Name) (flow : Flow) → named g flows ≡ Some flow → (I : JobName) (vs : List (Name × Value))
    → map (λ o. plain o.1) (flow_meaning gives flows (suc k) g I vs).outputs
    ≡ map (λ (o : Name × Feed). plain (feed_value (given_of flow vs) (made_of gives flows k flow I vs) o.1).value) flow.outputs
outputs-made gives flows k g flow e I vs =
    ap (λ (o : Option Flow). map (λ p. plain p.1) (option_map_or (λ fl. instance_meaning gives (flow_meaning gives flows k) I fl vs) o no_meaning).outputs) e
    ∙ map-map (λ (p : Name × Traced). plain p.1) (λ (o : Name × Feed). (o.0, (feed_value (given_of flow vs) (made_of gives flows k flow I vs) o.1).value)) flow.outputs

-- ---- each step of a list is made

module _ (gives : Giving) (inside : Name → JobName → List (Name × Value) → Meaning) (I : JobName) (given : List (Name × Delivered)) where
  older-made : (ss : List (Name × Step)) (ms : List Made) (x : Made) → In x ms → In x (steps_made gives inside I given ms ss)
  older-made [] ms x h = h
  older-made (s ∷ ss) ms x h = older-made ss (step_made gives inside I given ms s ∷ ms) x (inr h)

  has-step : (s : Name × Step) (ss : List (Name × Step)) (ms : List Made) → In s ss → (x : Made) × In x (steps_made gives inside I given ms ss) × (x.step.step ≡ s.0)
  has-step s [] ms h = absurd h
  has-step s (t ∷ ss) ms (inl e) =
      let new = step_made gives inside I given ms t in
      (new, older-made ss (new ∷ ms) new (inl refl), ap (λ (u : Name × Step). u.0) (sym e))
  has-step s (t ∷ ss) ms (inr h) = has-step s ss (step_made gives inside I given ms t ∷ ms) h

-- ---- what an open instance's steps feed

module _ (gives : Giving) (flows : List (Name × Flow)) (m : Meaning) (past : History) (I : JobName) (levels : Name → ℕ) (v : View) (r : Runs gives flows m past I levels v) where
  abbrev fs : List InstanceStep
  fs = steps_here gives flows m past I levels v r

  abbrev ms : List Made
  ms = own_made gives (flow_meaning gives flows r.nesting) I v.flow v.inputs

  alike : map step_in ms ≡ map step_of fs
  alike = own-alike gives (flow_meaning gives flows r.nesting) I v.flow v.inputs

  -- what the steps feed to the flow's outputs
  abbrev pub fed : List Value
  fed = map (λ (o : Name × Feed). plain (feed_delivers step_of (given_of v.flow v.inputs) fs o.1).value) v.flow.outputs

  -- an instance of the same flow whose steps the meaning has too feeds the same
  module _ (k : ℕ) (vs : List (Name × Value)) (listed : (s : StepMeaning) → In s (map step_in (made_of gives flows k v.flow I vs)) → In s m.steps)
      (given : given_of v.flow v.inputs ≡ given_of v.flow vs) where
    abbrev others : List Made
    others = made_of gives flows k v.flow I vs

    of-instance : (s : StepMeaning) → In s (map step_in ms) → s.instance ≡ I
    of-instance s i =
        let w = of-map step_of s fs (subst (In s) alike i) in
        ap (λ (t : StepMeaning). t.instance) w.2 ∙ own-instance gives flows m past I levels v r w.0 w.1

    in-instance : (s : StepMeaning) → In s (map step_in others) → s.instance ≡ I
    in-instance s i =
        let w = of-map step_in s others i in
        let t = of-made gives (flow_meaning gives flows k) I v.flow vs w.0 w.1 in
        ap (λ (u : StepMeaning). u.instance) w.2 ∙ ap (λ (x : Made). x.step.instance) t.1

    once : (a b : StepMeaning) → In a (map step_in ms) → In b (map step_in ms) → a.step ≡ b.step → a ≡ b
    once a b i j e =
        once-of_apart step_key m.steps r.whole.steps_apart a b (r.part.all_steps a i) (r.part.all_steps b j)
        (ap₂ (λ (x : JobName) (y : Name). (x, y)) (of-instance a i ∙ sym (of-instance b j)) e)

    here : (s : StepMeaning) → In s (map step_in others) → In s (map step_in ms)
    here s i = r.part.steps s (listed s i) (in-instance s i)

    -- each step of the flow has been made there too
    there : (s : StepMeaning) → In s (map step_in ms) → In s (map step_in others)
    there s i =
        let w = of-map step_in s ms i in
        let t = of-made gives (flow_meaning gives flows r.nesting) I v.flow v.inputs w.0 w.1 in
        let x = has-step gives (flow_meaning gives flows k) I (given_of v.flow vs) t.0.step (ranked v.flow.steps) [] t.0.of_flow in
        let j = in-map step_in x.0 others x.1 in
        let same : s.step ≡ x.0.step.step = ap (λ (u : StepMeaning). u.step) w.2 ∙ ap (λ (z : Made). z.step.step) t.1 ∙ sym x.2 in
        subst (λ u. In u (map step_in others)) (sym (once s x.0.step i (here x.0.step j) same)) j

    pub fed-same : (f : Feed) → feed_value (given_of v.flow vs) others f ≡ feed_delivers step_of (given_of v.flow v.inputs) fs f
    fed-same f =
        feed-map step_in (given_of v.flow vs) others f
        ∙ sym (feed-same (map step_in ms) (map step_in others) there here once (given_of v.flow vs) f)
        ∙ ap₂ (λ (g : List (Name × Delivered)) (l : List StepMeaning). feed_delivers itself g l f) (sym given) alike
        ∙ sym (feed-map step_of (given_of v.flow v.inputs) fs f)

    pub all-fed : map (λ (o : Name × Feed). plain (feed_value (given_of v.flow vs) others o.1).value) v.flow.outputs ≡ fed
    all-fed = ap (λ (g : Feed → Delivered). map (λ (o : Name × Feed). plain (g o.1).value) v.flow.outputs) (λ i f. fed-same f i)

-- the main instance gives what the document means
pub main-gives : (gives : Giving) (flows : List (Name × Flow)) (k : ℕ) (g : Name) (vs : List (Name × Value)) (past : History) (levels : Name → ℕ) (v : View)
    → (r : Runs gives flows (flow_meaning gives flows (suc k) g [] vs) past [] levels v) → named g flows ≡ Some v.flow → given_of v.flow v.inputs ≡ given_of v.flow vs
    → map (λ o. plain o.1) (flow_meaning gives flows (suc k) g [] vs).outputs ≡ fed gives flows (flow_meaning gives flows (suc k) g [] vs) past [] levels v r
main-gives gives flows k g vs past levels v r e given =
    outputs-made gives flows k g v.flow e [] vs
    ∙ all-fed gives flows (flow_meaning gives flows (suc k) g [] vs) past [] levels v r k vs (main-instance gives flows k g v.flow e [] vs).all_steps given

-- and one that a job opened what the job gives
pub opened-gives : (gives : Giving) (flows : List (Name × Flow)) (m : Meaning) (past : History) (j : Job) (levels : Name → ℕ) (v : View)
    → (r : Runs gives flows m past j.name levels v) → (g : Name) → named g flows ≡ Some v.flow
    → IsOpenedAs gives flows m j g v.flow v.inputs
    → j.result ≡ fed gives flows m past j.name levels v r
opened-gives gives flows m past j levels v r g e o =
    o.result
    ∙ outputs-made gives flows o.levels g v.flow e j.name v.inputs
    ∙ all-fed gives flows m past j.name levels v r o.levels v.inputs o.part.all_steps refl
