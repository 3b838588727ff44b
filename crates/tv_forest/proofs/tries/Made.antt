-- Every job of an instance is made of the step of its name.
use Rattle.std.specs.Prelude.{◌≡◌, refl, List, [], ◌∷◌, ◌++◌, false, Some}
use Rattle.std.specs.Cmp.Lexicographic.{bytes_decides}
use Rattle.std.proofs.Common.{sym, ap, subst, ◌∙◌, inl, inr}
use Rattle.std.proofs.lemmas.Bool.{cond-true, cond-false, or_parts}
use Rattle.tv_lemmas.specs.Members.{In}
use Rattle.tv_lemmas.proofs.Members.{in-append, of-flat}
use Rattle.tv_value.specs.Nested.{Place, leaf, list, nodes}
use Rattle.tv_value.specs.Orders.{named, same_name}
use Rattle.tv_value.specs.Values.{JobName, Name, Value}
use Rattle.tv_gate.specs.Outcomes.{Giving}
use Rattle.tv_flow.specs.Flows.{Flow, Step}
use Rattle.tv_strategy.specs.Iterations.{Iteration, job, passed}
use Rattle.tv_strategy.specs.Origins.{Origin, Traced}
use Rattle.tv_model.specs.instance.Delivered.{Delivered}
use Rattle.tv_model.specs.instance.Ranks.{is_among, ranked}
use Rattle.tv_model.specs.instance.Steps.{bound_values}
use Rattle.tv_model.specs.Earlier.{job_list}
use Rattle.tv_model.specs.Instances.{given_of, job_on, node_jobs, step_made, steps_made}
use Rattle.tv_model.specs.Made.{Made, Meaning, Opened, endings}
use Rattle.tv_model.proofs.Instances.{ranked-fresh}
use Rattle.tv_model.proofs.Sound.{FreshNames}
use Rattle.tv_lemmas.proofs.Cases.{on_either}

-- ---- a step is the first of its name

fresh-among :
    (ns : List Name) (ss : List (Name × Step)) → FreshNames ns ss → (x : Name × Step) → In x ss
    → is_among ns x.0 ≡ false
fresh-among ns [] f x h = absurd h
fresh-among ns (y ∷ ss) f x (inl e) = ap (λ (z : Name × Step). is_among ns z.0) e ∙ f.0
fresh-among ns (y ∷ ss) f x (inr h) = (or_parts (same_name x.0 y.0) (is_among ns x.0) (fresh-among (y.0 ∷ ns) ss f.1 x h)).1

fresh-named :
    (ns : List Name) (ss : List (Name × Step)) → FreshNames ns ss → (x : Name × Step) → In x ss
    → named x.0 ss ≡ Some x.1
fresh-named ns [] f x h = absurd h
fresh-named ns (y ∷ ss) f x (inl e) =
    subst (λ (z : Name × Step). named z.0 (y ∷ ss) ≡ Some z.1) (sym e)
    (cond-true (same_name y.0 y.0) (Some y.1) (named y.0 ss) ((bytes_decides y.0 y.0).1 refl))
fresh-named ns (y ∷ ss) f x (inr h) =
    cond-false (same_name x.0 y.0) (Some y.1) (named x.0 ss) (or_parts (same_name x.0 y.0) (is_among ns x.0) (fresh-among (y.0 ∷ ns) ss f.1 x h)).0
    ∙ fresh-named (y.0 ∷ ns) ss f.1 x h

module _ (gives : Giving) (inside : Name → JobName → List (Name × Value) → Meaning) (I : JobName) where
  -- a job of the step s, whose name is n
  pub record IsMade (n : Name) (s : Step) (o : Opened) : Type 0 where
    pub waits : List Origin
    pub place : Place
    pub inputs : List Traced
    pub is_it : o ≡ job_on gives inside I n s waits place inputs

  node-made :
      (n : Name) (s : Step) (before : List Origin) (x : Place × Iteration) (o : Opened)
      → In o (node_jobs gives inside I n s before x) → IsMade n s o
  node-made n s before (q, leaf r (job b)) o (inl e) = record { waits = r ++ before; place = q; inputs = bound_values s b; is_it = e }
  node-made n s before (q, leaf r (job b)) o (inr h) = absurd h
  node-made n s before (q, leaf r (passed m e)) o h = absurd h
  node-made n s before (q, list r ts) o h = absurd h

  abbrev IsOf : List (Name × Step) → Opened → Type 0
  IsOf all o = (x : Name × Step) × In x all × IsMade x.0 x.1 o

  steps-of :
      (all : List (Name × Step)) (given : List (Name × Delivered)) (ss : List (Name × Step)) (ms : List Made)
      → ((x : Name × Step) → In x ss → In x all) → ((o : Opened) → In o (job_list ms) → IsOf all o) → (o : Opened)
      → In o (job_list (steps_made gives inside I given ms ss)) → IsOf all o
  steps-of all given [] ms f g o h = g o h
  steps-of all given ((c, s) ∷ ss) ms f g o h = steps-of all given ss (new ∷ ms) (λ x i. f x (inr i)) more o h
    where
      new : Made
      new = step_made gives inside I given ms (c, s)

      more : (u : Opened) → In u (job_list (new ∷ ms)) → IsOf all u
      more u i =
          on_either (in-append u new.jobs (job_list ms) i)
          (λ k. let r = of-flat (node_jobs gives inside I c s (endings ms s.after)) u (nodes new.step.iteration) k in
          ((c, s), f (c, s) (inl refl), node-made c s (endings ms s.after) r.0 u r.2)) (g u)

  -- each is of the step that its flow has by that name
  pub jobs-of :
      (flow : Flow) (vs : List (Name × Value)) (o : Opened)
      → In o (job_list (steps_made gives inside I (given_of flow vs) [] (ranked flow.steps)))
      → (n : Name) × (s : Step) × (named n (ranked flow.steps) ≡ Some s) × IsMade n s o
  jobs-of flow vs o h =
      let r = steps-of (ranked flow.steps) (given_of flow vs) (ranked flow.steps) [] (λ x i. i) (λ u i. absurd i) o h in
      (r.0.0, r.0.1, fresh-named [] (ranked flow.steps) (ranked-fresh flow.steps) r.0 r.1, r.2)
