-- The view of a frame as that of an instance in a run.
use Rattle.std.specs.Prelude.{◌≡◌, ℕ, true, Some, map}
use Rattle.tv_lemmas.specs.Members.{In}
use Rattle.tv_value.specs.Nested.{Place}
use Rattle.tv_value.specs.Orders.{named}
use Rattle.tv_value.specs.Values.{JobName, Name}
use Rattle.tv_gate.specs.Outcomes.{Giving}
use Rattle.tv_flow.specs.Flows.{Document}
use Rattle.tv_flow.specs.Formed.{is_formed}
use Rattle.tv_strategy.specs.Origins.{plain}
use Rattle.tv_model.specs.instance.Steps.{spot}
use Rattle.tv_check.specs.Plans.{IsAccepted}
use Rattle.tv_model.specs.instance.Events.{Extends}
use Rattle.tv_model.specs.Agreeing.{NestsWithin, StepsNest}
use Rattle.tv_model.specs.Jobs.{Job}
use Rattle.tv_model.specs.Meanings.{meaning}
use Rattle.tv_history.specs.Entries.{History}
use Rattle.tv_history.specs.Histories.{is_legal, is_open}
use Rattle.tv_history.specs.order.Parts.{IsInstance, made_of}
use Rattle.tv_framing.specs.instances.InHistory.{IsPartOf}
use Rattle.tv_framing.specs.instances.OwnResults.{results_of}
use Rattle.tv_framing.specs.Frames.{IsFrame}
use Rattle.tv_framing.specs.Stated.{IsOfDepths}
use Rattle.tv_framing.specs.Views.{View}

-- the view tells of the instance I after this history of the document's run
pub record IsViewOf (gives : Giving) (d : Document) (past : History) (I : JobName)
    (v : View) : Type 0 where
  -- the instance is of the view's flow on its inputs
  pub levels : ℕ
  pub part : IsInstance gives d.flows (meaning gives d) I levels v.flow v.inputs
  -- whose steps nest no more levels of flows than that
  pub nests : StepsNest (NestsWithin d.flows levels) v.flow.steps
  pub is_open : is_open past I ≡ true
  -- the events are the instance's part of the history
  pub told : IsPartOf (meaning gives d) past I v.events
  -- each job that gave something gave its result
  pub gave : Extends (results_of I (made_of gives d.flows levels v.flow I v.inputs)) v.events

-- a frame's view in a legal run of an accepted document; the levels are those of its steps' iterations
pub record IsInRun (gives : Giving) (d : Document) (past : History) (I : JobName)
    (levels : Name → ℕ) (v : View)
    : Type 0 where
  pub formed : is_formed d ≡ true
  pub accepted : IsAccepted d
  pub legal : is_legal gives (meaning gives d) past ≡ true
  -- its flow is one of the document's
  pub flow_name : Name
  pub is_flow : named flow_name d.flows ≡ Some v.flow
  pub frame : IsFrame v
  pub depths : IsOfDepths d.flows levels v
  pub view : IsViewOf gives d past I v

-- the run's job at a spot of the instance: a step and a place
pub record IsJobThere (gives : Giving) (d : Document) (I : JobName) (j : Job)
    (x : Name × Place) : Type 0 where
  pub listed : In j (meaning gives d).jobs
  pub within : j.instance ≡ I
  pub step : j.step ≡ x.0
  pub name : j.name ≡ spot I x.0 x.1

-- a view of the flow that the job opens, on what the job binds
pub record IsOfJob (d : Document) (j : Job) (v : View) : Type 0 where
  pub flow_name : Name
  pub opens : j.opens ≡ Some flow_name
  pub is_flow : named flow_name d.flows ≡ Some v.flow
  pub names : map (λ x. x.0) v.inputs ≡ map (λ x. x.0) v.flow.inputs
  pub values : map (λ x. x.1) v.inputs ≡ map plain j.inputs
