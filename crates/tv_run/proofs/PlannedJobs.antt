-- A job by its step as the check's plan states it: what it gives has the depths that the step declares, and the flow that it opens is
-- the first among the step's activities.
use Rattle.std.specs.Option.{option_map_or}
use Rattle.std.specs.Prelude.{◌≡◌, refl, ℕ, zero, suc, [], ◌∷◌, Some, find, option_and_then, slice_get}
use Rattle.std.proofs.Common.{ap, ap₂, inl, subst, sym, ◌∙◌}
use Rattle.std.proofs.lemmas.Option.{same_Some}
use Rattle.tv_lemmas.specs.Members.{In}
use Rattle.tv_lemmas.proofs.Members.{each_in, in-slice}
use Rattle.tv_value.specs.Orders.{named, same_job}
use Rattle.tv_value.specs.Values.{JobName, Name}
use Rattle.tv_value.proofs.JobNameLemmas.{same_job_decides}
use Rattle.tv_gate.specs.Outcomes.{Giving}
use Rattle.tv_flow.specs.Flows.{Document, Flow, Step}
use Rattle.tv_model.specs.instance.Steps.{declared_depths}
use Rattle.tv_history.specs.agreement.InstanceFlows.{StandsIn, instance_flow}
use Rattle.tv_history.specs.agreement.PlannedDepths.{JobIsPlanned}
use Rattle.tv_history.proofs.Planned.{meanings-planned}
use Rattle.tv_model.specs.Jobs.{Job}
use Rattle.tv_model.specs.Made.{Meaning}
use Rattle.tv_model.specs.Meanings.{meaning}
use Rattle.tv_model.specs.RightDepths.{HaveTheseDepths}
use Rattle.tv_model.proofs.Members.{no-nil, once-of_apart}
use Rattle.tv_history.specs.Entries.{History}
use Rattle.tv_history.proofs.Ready.{document-whole}
use Rattle.tv_history.proofs.Tests.{same-itself}
use Rattle.tv_history.proofs.First.{find-first}
use Rattle.tv_instances.proofs.views.OwnDepths.{formed-flow, formed-named}
use Rattle.tv_seats.specs.Seats.{Seat}
use Rattle.tv_instances.specs.Forest.{Instance, Instances, IsAt, IsJobAt, Stand}
use Rattle.tv_model.specs.Opening.{first_nested}

module _ (gives : Giving) (d : Document) (levels : Flow → Name → ℕ) (past : History) (xs : Instances)
    (stand : Stand gives d levels past xs) where
  abbrev m : Meaning
  m = meaning gives d

  -- ---- the flows of instances

  opens-flow : (j : Job) → In j m.jobs → instance_flow d m j.name ≡ j.opens
  opens-flow j i = by j.name refl
    where
      found : find (λ k. same_job j.name k.name) m.jobs ≡ Some j
      found =
          find-first (λ (k : Job). k.name) (λ k. same_job j.name k.name) m.jobs (document-whole gives d).jobs_apart j i
          (same-itself j.name)
          (λ k h e.
          inl
          (once-of_apart (λ (l : Job). l.name) m.jobs (document-whole gives d).jobs_apart k j h i
          (sym ((same_job_decides j.name k.name).0 e))))

      unnamed : j.name ≡ [] → ⊥
      unnamed e = let w = (document-whole gives d).jobs j i in no-nil j.instance w.key (sym e ∙ w.named)

      by : (n : JobName) → j.name ≡ n → instance_flow d m n ≡ j.opens
      by [] e = absurd (unnamed e)
      by (k ∷ n) e =
          subst (λ l. option_and_then (λ (p : Job). p.opens) (find (λ p. same_job l p.name) m.jobs) ≡ j.opens) e
          (ap (option_and_then (λ (p : Job). p.opens)) found)

  record HasFlow (x : Instance) : Type 0 where
    flow_name : Name
    of_instance : instance_flow d m x.name ≡ Some flow_name
    is_flow : named flow_name d.flows ≡ Some x.flow

  has-flow : (i : ℕ) (x : Instance) → IsAt xs i x → HasFlow x
  has-flow zero x e =
      subst HasFlow (same_Some stand.main.0 x (sym stand.main.1 ∙ e))
      (record { flow_name = d.main; of_instance = ap (instance_flow d m) stand.main.2.unnamed; is_flow = stand.main.2.is_flow })
  has-flow (suc i) x e =
      let o = stand.opened i x e in
      record {
        flow_name = o.flow_name;
        of_instance = ap (instance_flow d m) o.named ∙ opens-flow o.job o.is_job.job.listed ∙ o.opens;
        is_flow = o.is_flow;
      }

  -- ---- the job of a seat

  module _ (i n : ℕ) (x : Instance) (s : Seat) (j : Job) (is : IsJobAt gives d xs i n x s j) (t : Name × Step)
      (at : slice_get x.flow.steps s.step ≡ Some t) where
    planned : JobIsPlanned d m j
    planned =
        each_in (JobIsPlanned d m) m.jobs (meanings-planned gives d stand.formed stand.accepted).jobs j is.job.listed

    abbrev own : StandsIn d m j.instance j.step
    own = planned.own

    its : HasFlow x
    its = has-flow i x is.instance

    same-name : own.flow_name ≡ its.flow_name
    same-name =
        same_Some own.flow_name its.flow_name
        (sym own.of_instance ∙ ap (instance_flow d m) is.job.within ∙ its.of_instance)

    same-flow : own.flow ≡ x.flow
    same-flow = same_Some own.flow x.flow (sym own.is_flow ∙ ap (λ k. named k d.flows) same-name ∙ its.is_flow)

    its-name : j.step ≡ t.0
    its-name = is.job.step ∙ ap (λ o. option_map_or (λ (u : Name × Step). u.0) o []) at

    found : named t.0 x.flow.steps ≡ Some t.1
    found =
        each_in (λ (u : Name × Step). named u.0 x.flow.steps ≡ Some u.1) x.flow.steps
        (formed-named x.flow (formed-flow d stand.formed its.flow_name x.flow its.is_flow)) t
        (in-slice x.flow.steps s.step t at)

    step-is : own.step ≡ t.1
    step-is =
        same_Some own.step t.1
        (sym own.is_step ∙ ap₂ (λ k (f : Flow). named k f.steps) its-name same-flow ∙ found)

    pub result-deep : HaveTheseDepths (declared_depths t.1) j.result
    result-deep = subst (λ (u : Step). HaveTheseDepths (declared_depths u) j.result) step-is planned.result

    pub flow-opened : (g : Name) → j.opens ≡ Some g → first_nested t.1.activities ≡ Some g
    flow-opened g e =
        subst (λ (u : Step). first_nested u.activities ≡ Some g) step-is
        (planned.opens g e)
