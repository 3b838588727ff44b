-- The job of a step that passes itself, as the open instance finds it.
use Rattle.std.specs.Option.{option_map_or}
use Rattle.std.specs.Prelude.{◌≡◌, ℕ, ◌<◌, Bool, Option, Some, length, slice_get}
use Rattle.std.proofs.Common.{ap, subst, ◌∙◌}
use Rattle.tv_lemmas.proofs.Lists.{get-within}
use Rattle.tv_value.specs.Values.{Name}
use Rattle.tv_gate.specs.Outcomes.{Giving}
use Rattle.tv_flow.specs.Flows.{Document, Flow, Step}
use Rattle.tv_flow.specs.Views.{flow_view}
use Rattle.tv_dispatch.specs.declared.plan.Plan.{Plan}
use Rattle.tv_check.specs.RunViews.{run_view}
use Rattle.tv_check.specs.declared.plans.FlowPlan.{FlowPlan}
use Rattle.tv_instances.specs.FramingViews.{View}
use Rattle.tv_instances.specs.Forest.{Instance, Instances, IsAt}
use Rattle.tv_instances.specs.Firsts.{IsFirstOwn, asides, step_limit}
use Rattle.tv_instances.specs.Standing.{IsOpen}
use Rattle.tv_instances.specs.declared.firsts.Seeking.{Seeking}
use Rattle.tv_instances.specs.declared.open.Open.{Open}
use Rattle.tv_run.specs.Looks.{tries_of}
use Rattle.tv_run.specs.Standing.{Stands}
use Rattle.tv_run.specs.Walking.{IsOwn, IsOwnBegun, is_sought}
use Rattle.tv_run.specs.declared.run.OpenRun.{OpenRun}
use Rattle.tv_run.proofs.WalkOpen.{IsOpenedAs, open-at, same-flow, seats-at}
use Rattle.tv_run.proofs.WalkSteps.{own-begins, own-first}

module _ (gives : Giving) (r : OpenRun) (xs : Instances) (st : Stands gives r xs) (i : ℕ) (x : Instance) (v : View)
    (at : IsAt xs i x) (told : x.view ≡ Some v) (k : Seeking) (step : ℕ) (low : step < length x.flow.steps)
    (plan : FlowPlan) (planned : flow_view plan.flow ≡ x.flow) (p : Open) (opened : IsOpenedAs r i p)
    (tries : Plan)
    (tried : (s : Name × Step) → slice_get x.flow.steps step ≡ Some s → tries ≡ tries_of s.1) (begins : Bool)
    (begun : begins ≡ is_sought tries k) (o : Option ℕ)
    (first : (d : Document) (w : View) → IsOpen d plan r.pool p w
    → IsFirstOwn w p.seats.seats (step_limit (flow_view plan.flow) step) (asides k) begins step o)
  where
    abbrev limit : ℕ
    limit = step_limit (flow_view plan.flow) step

    step-at : (t : Name × Step) × (slice_get x.flow.steps step ≡ Some t)
    step-at = get-within x.flow.steps step low

    at-step : slice_get v.flow.steps step ≡ Some step-at.0
    at-step = ap (λ (f : Flow). slice_get f.steps step) (same-flow gives r xs st i x v at told) ∙ step-at.1

    limit-is : limit ≡ step-at.0.1.jobs
    limit-is =
        ap (λ f. step_limit f step) planned
        ∙ ap (λ o. option_map_or (λ (s : Name × Step). s.1.jobs) o 0) step-at.1

    found : IsFirstOwn v x.seats limit (asides k) (is_sought (tries_of step-at.0.1) k) step o
    found =
        subst (λ b. IsFirstOwn v x.seats limit (asides k) b step o)
        (begun ∙ ap (λ q. is_sought q k) (tried step-at.0 step-at.1))
        (subst (λ ss. IsFirstOwn v ss limit (asides k) begins step o)
        (seats-at gives r xs st i x v at told p opened)
        (first (run_view r.run) v (open-at gives r xs st i x v at told p opened plan planned)))

    pub own-is : IsOwn gives r xs k i x step o
    own-is = own-first gives r xs st i x v at told k step step-at.0 at-step limit limit-is o found

    pub own-begun : IsOwnBegun gives r xs i x o
    own-begun = own-begins gives r xs st i x v at told k step step-at.0 at-step limit limit-is o found
