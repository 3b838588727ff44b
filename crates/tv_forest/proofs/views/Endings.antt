-- When the instance can end in the run, by the view; and the document's outputs.
use Rattle.std.specs.Prelude.{◌≡◌, refl, ℕ, suc, ◌&&◌, Bool, true, false, List, [], ◌∷◌, Option, Some, None, find, map, unwrap_or, if◌then◌else◌}
use Rattle.std.specs.Cmp.Lexicographic.{bytes_decides}
use Rattle.std.specs.List.{list_all}
use Rattle.std.specs.Option.{option_map_or}
use Rattle.std.proofs.Common.{sym, ap, ap₂, subst, ◌∙◌, inl, inr}
use Rattle.std.proofs.lemmas.Bool.{true≢false}
use Rattle.std.specs.Cmp.Derive.{one_truth}
use Rattle.std.proofs.lemmas.Simd.{map-map}
use Rattle.tv_lemmas.specs.Members.{In}
use Rattle.tv_lemmas.proofs.Members.{all-in, each_in, found-in, in-map, of-all, of-map}
use Rattle.tv_value.specs.Orders.{named, same_job, same_name}
use Rattle.tv_value.specs.Values.{JobName, Name, Value}
use Rattle.tv_value.proofs.JobNameLemmas.{same_job_decides}
use Rattle.tv_gate.specs.Outcomes.{Giving}
use Rattle.tv_flow.specs.Flows.{Feed, Flow, Link, constant, input, link, merge, output}
use Rattle.tv_strategy.specs.Origins.{Origin, plain}
use Rattle.tv_model.specs.instance.Delivered.{Delivered, StepMeaning, feed_delivers, link_delivers, merged, nothing_delivered}
use Rattle.tv_model.specs.instance.ByResults.{InstanceStep, step_of}
use Rattle.tv_model.specs.instance.Endings.{IsOwn, has_ended}
use Rattle.tv_model.specs.instance.Events.{known_by}
use Rattle.tv_model.specs.Instances.{given_of}
use Rattle.tv_model.specs.Jobs.{Job}
use Rattle.tv_model.specs.Made.{Made, Meaning, feed_value, step_in}
use Rattle.tv_model.specs.Meanings.{flow_meaning, instance_meaning, no_meaning}
use Rattle.tv_model.proofs.Members.{once-of_apart}
use Rattle.tv_model.proofs.Whole.{step_key}
use Rattle.tv_history.specs.Entries.{History}
use Rattle.tv_history.specs.Histories.{all_known, can_end}
use Rattle.tv_history.specs.order.Parts.{IsInstance, made_of}
use Rattle.tv_history.proofs.Parts.{main-instance}
use Rattle.tv_framing.specs.instances.OwnNodes.{NodesHave}
use Rattle.tv_framing.proofs.instances.Events.{all-same}
use Rattle.tv_framing.proofs.instances.Results.{feed-map, itself}
use Rattle.tv_framing.specs.Answers.{AreOutputs, has_ended_now}
use Rattle.tv_framing.specs.Views.{View}
use Rattle.tv_framing.proofs.Endings.{all_ended-in_all}
use Rattle.tv_forest.proofs.views.Opened.{IsOpenedAs}
use Rattle.tv_forest.proofs.views.Ready.{all-own}
use Rattle.tv_forest.proofs.views.Runs.{Runs, in-all, steps_here}
use Rattle.tv_forest.proofs.views.Steps.{of-made, of-step, own-alike, own_made}

-- ---- what is found by a step's name

none-found : {A : Type 0} (p : A → Bool) (xs : List A) → find p xs ≡ None → (x : A) → In x xs → p x ≡ true → ⊥
none-found p [] e x i h = i
none-found {A = A} p (y ∷ ys) e x i h = by (p y) refl e i (λ k j. none-found p ys k x j h)
  where
    by : (b : Bool) → p y ≡ b → (if b then Some y else find p ys) ≡ None → In x (y ∷ ys)
        → (find p ys ≡ None → In x ys → ⊥) → ⊥
    by true q k j rec = cc
    by false q k (inl s) rec = true≢false (sym h ∙ ap p s ∙ q)
    by false q k (inr j) rec = rec k j

abbrev of_name : Name → StepMeaning → Bool
of_name n s = same_name n s.step

-- lists with the same steps, each the only one of its name, give the same at a name
module _ (xs ys : List StepMeaning) (there : (s : StepMeaning) → In s xs → In s ys) (here : (s : StepMeaning) → In s ys → In s xs) (once : (a b : StepMeaning) → In a xs → In b xs → a.step ≡ b.step → a ≡ b) where
  found-same : (n : Name) → find (of_name n) xs ≡ find (of_name n) ys
  found-same n = by (find (of_name n) xs) (find (of_name n) ys) refl refl
    where
      by : (o u : Option StepMeaning) → find (of_name n) xs ≡ o → find (of_name n) ys ≡ u → o ≡ u
      by None None e f = refl
      by None (Some b) e f = let w = found-in (of_name n) ys b f in absurd (none-found (of_name n) xs e b (here b w.0) w.1)
      by (Some a) None e f = let w = found-in (of_name n) xs a e in absurd (none-found (of_name n) ys f a (there a w.0) w.1)
      by (Some a) (Some b) e f =
          let v = found-in (of_name n) xs a e in
          let w = found-in (of_name n) ys b f in
          ap Some (once a b v.0 (here b w.0) (sym ((bytes_decides n a.step).0 v.1) ∙ (bytes_decides n b.step).0 w.1))

  link-same : (given : List (Name × Delivered)) (l : Link)
      → link_delivers itself given xs l ≡ link_delivers itself given ys l
  link-same given (input x) = refl
  link-same given (output s p) = ap (λ o. option_map_or (λ (n : StepMeaning). unwrap_or (named p n.outputs) nothing_delivered) o nothing_delivered) (found-same s)

  pub feed-same : (given : List (Name × Delivered)) (f : Feed)
      → feed_delivers itself given xs f ≡ feed_delivers itself given ys f
  feed-same given (link l) = link-same given l
  feed-same given (merge ls) = ap (λ (g : Link → Delivered). merged (map g ls)) (λ i l. link-same given l i)
  feed-same given (constant c) = refl

-- ---- the outputs of a meaning

main-outputs : (gives : Giving) (flows : List (Name × Flow)) (k : ℕ) (f : Name) (flow : Flow)
    → named f flows ≡ Some flow → (I : JobName) (vs : List (Name × Value))
    → (flow_meaning gives flows (suc k) f I vs).outputs ≡ map (λ o. (o.0, (feed_value (given_of flow vs) (made_of gives flows k flow I vs) o.1).value)) flow.outputs
main-outputs gives flows k f flow e I vs = ap (λ (o : Option Flow). (option_map_or (λ fl. instance_meaning gives (flow_meaning gives flows k) I fl vs) o no_meaning).outputs) e

module _ (gives : Giving) (flows : List (Name × Flow)) (m : Meaning) (past : History) (I : JobName) (levels : Name → ℕ) (v : View) (r : Runs gives flows m past I levels v) where
  abbrev fs : List InstanceStep
  fs = steps_here gives flows m past I levels v r

  abbrev ms : List Made
  ms = own_made gives (flow_meaning gives flows r.nesting) I v.flow v.inputs

  abbrev known : Origin → Bool
  known = known_by I v.events

  abbrev Own : Origin → Type 0
  Own o = IsOwn I o.known

  alike : map step_in ms ≡ map step_of fs
  alike = own-alike gives (flow_meaning gives flows r.nesting) I v.flow v.inputs

  -- each is of this instance
  pub own-instance : (f : InstanceStep) → In f fs → f.step.instance ≡ I
  own-instance f i = let t = of-step gives (flow_meaning gives flows r.nesting) I v.flow v.inputs f i in ap (λ (g : InstanceStep). g.step.instance) t.1

  -- the steps by results are those of the run in this instance
  pub step-listed : (f : InstanceStep) → In f fs → In f.step m.steps
  step-listed f i = r.part.all_steps f.step (subst (In f.step) (sym alike) (in-map step_of f fs i))

  pub listed-step : (s : StepMeaning) → In s m.steps → s.instance ≡ I → (f : InstanceStep) × In f fs × (s ≡ f.step)
  listed-step s i e = of-map step_of s fs (subst (In s) alike (r.part.steps s i e))

  -- ---- ended

  ended-same : (f : InstanceStep) → In f fs → all_known m past f.step.ending ≡ has_ended known f
  ended-same f i =
      all-same I m past v.events r.told f.step.ending (each_in (NodesHave Own) fs (all-own gives flows m past I levels v r) f i).ending

  abbrev ends : StepMeaning → Bool
  ends s = if same_job I s.instance then all_known m past s.ending else true

  of-run : list_all ends m.steps ≡ true → list_all (has_ended known) fs ≡ true
  of-run h = all-in (has_ended known) fs (λ f i. sym (ended-same f i) ∙ by f (same_job I f.step.instance) ((same_job_decides I f.step.instance).1 (sym (own-instance f i))) (of-all ends m.steps h f.step (step-listed f i)))
    where
      by : (f : InstanceStep) (b : Bool) → b ≡ true → (if b then all_known m past f.step.ending else true) ≡ true
          → all_known m past f.step.ending ≡ true
      by f true e k = k
      by f false e k = absurd (true≢false (sym e))

  of-view : list_all (has_ended known) fs ≡ true → list_all ends m.steps ≡ true
  of-view h = all-in ends m.steps (λ s i. by s i (same_job I s.instance) refl)
    where
      by : (s : StepMeaning) → In s m.steps → (b : Bool) → same_job I s.instance ≡ b
          → (if b then all_known m past s.ending else true) ≡ true
      by s i false e = refl
      by s i true e =
          let f = listed-step s i (sym ((same_job_decides I s.instance).0 e)) in
          ap (λ (t : StepMeaning). all_known m past t.ending) f.2 ∙ ended-same f.0 f.1 ∙ of-all (has_ended known) fs h f.0 f.1

  pub ending-told : can_end m past I ≡ has_ended_now levels v
  ending-told =
      ap₂ (λ a b. a && b) r.is_open (one_truth (list_all ends m.steps) (list_all (has_ended known) fs) of-run of-view)
      ∙ in-all gives flows m past I levels v r (λ instance results fs. list_all (has_ended (known_by instance v.events)) fs ≡ has_ended_now levels v)
      (all_ended-in_all flows v r.frame r.depths.flow r.depths.inputs levels r.depths.levels_are)

  -- ---- outputs

  -- of an instance of the same flow that the meaning has too
  module _ (k : ℕ) (vs : List (Name × Value)) (other : IsInstance gives flows m I k v.flow vs) (given : given_of v.flow v.inputs ≡ given_of v.flow vs) where
    abbrev others : List Made
    others = made_of gives flows k v.flow I vs

    of-instance : (s : StepMeaning) → In s (map step_in ms) → s.instance ≡ I
    of-instance s i = let w = of-map step_of s fs (subst (In s) alike i) in ap (λ (t : StepMeaning). t.instance) w.2 ∙ own-instance w.0 w.1

    in-instance : (s : StepMeaning) → In s (map step_in others) → s.instance ≡ I
    in-instance s i =
        let w = of-map step_in s others i in
        let t = of-made gives (flow_meaning gives flows k) I v.flow vs w.0 w.1 in
        ap (λ (u : StepMeaning). u.instance) w.2 ∙ ap (λ (x : Made). x.step.instance) t.1

    once : (a b : StepMeaning) → In a (map step_in ms) → In b (map step_in ms) → a.step ≡ b.step → a ≡ b
    once a b i j e =
        once-of_apart step_key m.steps r.whole.steps_apart a b (r.part.all_steps a i) (r.part.all_steps b j)
        (ap₂ (λ (x : JobName) (y : Name). (x, y)) (of-instance a i ∙ sym (of-instance b j)) e)

    fed-same : (f : Feed)
        → feed_value (given_of v.flow vs) others f ≡ feed_delivers step_of (given_of v.flow v.inputs) fs f
    fed-same f =
        feed-map step_in (given_of v.flow vs) others f
        ∙ sym (feed-same (map step_in ms) (map step_in others) (λ s i. other.steps s (r.part.all_steps s i) (of-instance s i)) (λ s i. r.part.steps s (other.all_steps s i) (in-instance s i)) once (given_of v.flow vs) f)
        ∙ ap₂ (λ (g : List (Name × Delivered)) (l : List StepMeaning). feed_delivers itself g l f) (sym given) alike
        ∙ sym (feed-map step_of (given_of v.flow v.inputs) fs f)

    pub outputs-told : (ws : List Value) → AreOutputs v ws
        → ws ≡ map (λ (o : Name × Feed). plain (feed_value (given_of v.flow vs) others o.1).value) v.flow.outputs
    outputs-told ws h =
        in-all gives flows m past I levels v r (λ instance results fs. ws ≡ map (λ o. plain (feed_delivers step_of (given_of v.flow v.inputs) fs o.1).value) v.flow.outputs) h
        ∙ sym (ap (λ (g : Feed → Delivered). map (λ (o : Name × Feed). plain (g o.1).value) v.flow.outputs) (λ i f. fed-same f i))

-- the main instance gives what the document means
pub main-told : (gives : Giving) (flows : List (Name × Flow)) (k : ℕ) (f : Name) (vs : List (Name × Value)) (past : History) (levels : Name → ℕ) (v : View)
    → Runs gives flows (flow_meaning gives flows (suc k) f [] vs) past [] levels v → named f flows ≡ Some v.flow → given_of v.flow v.inputs ≡ given_of v.flow vs
    → (ws : List Value) → AreOutputs v ws → ws ≡ map (λ o. plain o.1) (flow_meaning gives flows (suc k) f [] vs).outputs
main-told gives flows k f vs past levels v r e given ws h =
    outputs-told gives flows (flow_meaning gives flows (suc k) f [] vs) past [] levels v r k vs (main-instance gives flows k f v.flow e [] vs) given ws h
    ∙ sym (map-map (λ o. plain o.1) (λ (o : Name × Feed). (o.0, (feed_value (given_of v.flow vs) (made_of gives flows k v.flow [] vs) o.1).value)) v.flow.outputs)
    ∙ sym (ap (λ os. map (λ o. plain o.1) os) (main-outputs gives flows k f v.flow e [] vs))

-- and one that a job opened gives what the job gives
pub opened-told : (gives : Giving) (flows : List (Name × Flow)) (m : Meaning) (past : History) (j : Job) (levels : Name → ℕ) (v : View)
    → Runs gives flows m past j.name levels v → (g : Name) → named g flows ≡ Some v.flow
    → IsOpenedAs gives flows m j g v.flow v.inputs
    → (ws : List Value) → AreOutputs v ws → ws ≡ j.result
opened-told gives flows m past j levels v r g e o ws h =
    outputs-told gives flows m past j.name levels v r o.levels v.inputs o.part refl ws h
    ∙ sym (map-map (λ x. plain x.1) (λ (x : Name × Feed). (x.0, (feed_value (given_of v.flow v.inputs) (made_of gives flows o.levels v.flow j.name v.inputs) x.1).value)) v.flow.outputs)
    ∙ sym (ap (λ os. map (λ x. plain x.1) os) (main-outputs gives flows o.levels g v.flow e j.name v.inputs))
    ∙ sym o.result
