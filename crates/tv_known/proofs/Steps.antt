-- The steps that a meaning has in an open instance are those by the results of its own jobs.
use Rattle.std.specs.Cmp.{first_so, second_so}
use Rattle.std.specs.Cmp.Lexicographic.{bytes_decides}
use Rattle.std.specs.Option.{option_map_or}
use Rattle.std.specs.Prelude.{◌≡◌, refl, ℕ, suc, ◌+◌, Bool, true, false, if◌then◌else◌, List, [], ◌∷◌, Option, None, Some, find, is_some, option_and_then, option_map, unwrap_or}
use Rattle.std.proofs.Common.{sym, ap, ap₂, subst, ◌∙◌, inl, inr}
use Rattle.std.proofs.lemmas.Bool.{and_from, true≢false}
use Rattle.tv_lemmas.specs.Members.{In}
use Rattle.tv_lemmas.proofs.Members.{found-in}
use Rattle.tv_value.specs.Nested.{Place}
use Rattle.tv_value.specs.Orders.{named, same_job, same_name}
use Rattle.tv_value.specs.Values.{JobName, Name, Value}
use Rattle.tv_value.proofs.JobNameLemmas.{same_job_decides}
use Rattle.tv_gate.specs.Outcomes.{Giving}
use Rattle.tv_flow.specs.Flows.{Flow, Step, output}
use Rattle.tv_strategy.specs.Iterations.{Iteration}
use Rattle.tv_strategy.specs.Origins.{Traced}
use Rattle.tv_strategy.specs.Outputs.{output_below}
use Rattle.tv_naming.specs.Naming.{has_name}
use Rattle.tv_model.specs.instance.ByResults.{InstanceStep, iteration_on, levels_on, outputs_by, result_at, step_of}
use Rattle.tv_model.specs.instance.Delivered.{Delivered, Ported, StepMeaning, feed_delivers, link_delivers, nothing_delivered}
use Rattle.tv_model.specs.instance.Steps.{spot}
use Rattle.tv_model.specs.Instances.{given_of}
use Rattle.tv_model.specs.Made.{Meaning}
use Rattle.tv_model.proofs.Members.{once-of_apart}
use Rattle.tv_model.proofs.Whole.{step_key}
use Rattle.tv_check.specs.Feeds.{outputs_of}
use Rattle.tv_history.specs.Entries.{History}
use Rattle.tv_framing.specs.Views.{View}
use Rattle.tv_framing.proofs.starts.Ports.{IsFound}
use Rattle.tv_forest.proofs.views.Endings.{listed-step, own-instance, step-listed}
use Rattle.tv_forest.proofs.views.Runs.{Runs, results_here, steps_here}
use Rattle.tv_frame_laws.specs.values.Stated.{port_takes}
use Rattle.tv_known.specs.Meant.{is_step, output_value, port_value, step_at}

pub none-found : {A : Type 0} (p : A → Bool) (xs : List A) → find p xs ≡ None → (x : A) → In x xs → p x ≡ true → ⊥
none-found p [] e x i h = i
none-found {A = A} p (y ∷ ys) e x i h = by (p y) refl e i (λ k j. none-found p ys k x j h)
  where
    by : (b : Bool) → p y ≡ b → (if b then Some y else find p ys) ≡ None → In x (y ∷ ys) → (find p ys ≡ None → In x ys → ⊥) → ⊥
    by true q k j rec = cc
    by false q k (inl s) rec = true≢false (sym h ∙ ap p s ∙ q)
    by false q k (inr j) rec = rec k j

and-then-map : {A B C : Type 0} (g : A → B) (p : B → Option C) (o : Option A) → option_and_then p (option_map g o) ≡ option_and_then (λ x. p (g x)) o
and-then-map g p None = refl
and-then-map g p (Some x) = refl

-- an output that a step declares is there
named-out : (I : JobName) (n o : Name) (gives : ℕ → Place → Value) (levels : ℕ) (it : Iteration) (k : ℕ) (ps : List (Name × ℕ)) → has_name ps o ≡ true
    → (d : Delivered) × (named o (outputs_by I n gives levels it k ps) ≡ Some d)
named-out I n o gives levels it k [] h = absurd (true≢false (sym h))
named-out I n o gives levels it k (p ∷ ps) h = by (same_name o p.0) h (λ g. named-out I n o gives levels it (suc k) ps g)
  where
    first : Delivered
    first = record { depth = levels + p.1; value = output_below (spot I n) (gives k) p.1 [] levels it }

    by : (b : Bool) → is_some (if b then Some p.1 else named o ps) ≡ true
        → (has_name ps o ≡ true → (d : Delivered) × (named o (outputs_by I n gives levels it (suc k) ps) ≡ Some d))
        → (d : Delivered) × ((if b then Some first else named o (outputs_by I n gives levels it (suc k) ps)) ≡ Some d)
    by true g rec = (first, refl)
    by false g rec = rec g

module _ (gives : Giving) (flows : List (Name × Flow)) (m : Meaning) (past : History) (I : JobName) (levels : Name → ℕ) (v : View) (r : Runs gives flows m past I levels v) where
  abbrev fs : List InstanceStep
  fs = steps_here gives flows m past I levels v r

  abbrev given : List (Name × Delivered)
  given = given_of v.flow v.inputs

  abbrev of_name : Name → InstanceStep → Bool
  of_name t f = same_name t f.step.step

  its-own : (t : Name) (s : StepMeaning) → is_step I t s ≡ true → (s.instance ≡ I) × (s.step ≡ t)
  its-own t s h = (
    sym ((same_job_decides I s.instance).0 (first_so (same_job I s.instance) (same_name t s.step) h)),
    sym ((bytes_decides t s.step).0 (second_so (same_job I s.instance) (same_name t s.step) h)),
  )

  -- the step of a name there
  pub step-found : (t : Name) → step_at m I t ≡ option_map step_of (find (of_name t) fs)
  step-found t = by (step_at m I t) (find (of_name t) fs) refl refl
    where
      by : (o : Option StepMeaning) (u : Option InstanceStep) → step_at m I t ≡ o → find (of_name t) fs ≡ u → o ≡ option_map step_of u
      by None None e h = refl
      by None (Some g) e h =
          let w = found-in (of_name t) fs g h in
          absurd
          (none-found (is_step I t) m.steps e g.step (step-listed gives flows m past I levels v r g w.0)
          (and_from (same_job I g.step.instance) (same_name t g.step.step)
          ((same_job_decides I g.step.instance).1 (sym (own-instance gives flows m past I levels v r g w.0))) w.1))
      by (Some s) None e h =
          let w = found-in (is_step I t) m.steps s e in
          let l = listed-step gives flows m past I levels v r s w.0 (its-own t s w.1).0 in
          absurd
          (none-found (of_name t) fs h l.0 l.1
          (ap (λ (x : StepMeaning). same_name t x.step) (sym l.2) ∙ second_so (same_job I s.instance) (same_name t s.step) w.1))
      by (Some s) (Some g) e h =
          let a = found-in (is_step I t) m.steps s e in
          let b = found-in (of_name t) fs g h in
          let i = its-own t s a.1 in
          ap Some
          (once-of_apart step_key m.steps r.whole.steps_apart s g.step a.0 (step-listed gives flows m past I levels v r g b.0)
          (ap₂ (λ (x : JobName) (y : Name). (x, y)) (i.0 ∙ sym (own-instance gives flows m past I levels v r g b.0)) (i.1 ∙ (bytes_decides t g.step.step).0 b.1)))

  -- what a port takes
  pub port-meant : (t p : Name) → port_value m I t p ≡ port_takes fs t p
  port-meant t p =
      let its : StepMeaning → Option Traced = λ s. option_map (λ (d : Ported). d.value) (named p s.inputs) in
      ap (option_and_then its) (step-found t) ∙ and-then-map step_of its (find (of_name t) fs)

  -- what an output delivers
  module _ (t o : Name) (its_levels : Name → ℕ) (h : IsFound v.flow its_levels I (results_here gives flows m past I levels v r) v.inputs t o fs (link_delivers step_of given fs (output t o))) where
    pub its-output : (d : Delivered) × (named o h.step.step.outputs ≡ Some d)
    its-output =
        let g = h.made in
        let own : g.name ≡ t = sym (ap (λ (f : InstanceStep). f.step.step) g.is) ∙ h.name in
        let stands : named t v.flow.steps ≡ Some g.step = subst (λ n. named n v.flow.steps ≡ Some g.step) own g.stands in
        let outputs : outputs_of v.flow t ≡ g.step.outputs = ap (λ x. option_map_or (λ (s : Step). s.outputs) x []) stands in
        let n = named-out I g.name o (result_at (results_here gives flows m past I levels v r) g.name) (levels_on (feed_delivers step_of given g.before) g.step) (iteration_on (feed_delivers step_of given g.before) g.step) 0 g.step.outputs (ap (λ ps. has_name ps o) (sym outputs) ∙ h.has) in
        (n.0, ap (λ (f : InstanceStep). named o f.step.outputs) g.is ∙ n.1)

    its-link : link_delivers step_of given fs (output t o) ≡ its-output.0
    its-link =
        ap (λ x. option_map_or (λ (f : InstanceStep). unwrap_or (named o f.step.outputs) nothing_delivered) x nothing_delivered) h.found
        ∙ ap (λ x. unwrap_or x nothing_delivered) its-output.1

    pub output-meant : output_value m I t o ≡ Some (link_delivers step_of given fs (output t o)).value
    output-meant =
        ap (option_and_then (λ (s : StepMeaning). option_map (λ (d : Delivered). d.value) (named o s.outputs))) (step-found t ∙ ap (option_map step_of) h.found)
        ∙ ap (option_map (λ (d : Delivered). d.value)) its-output.1
        ∙ ap (λ (d : Delivered). Some d.value) (sym its-link)
