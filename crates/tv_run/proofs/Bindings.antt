-- A known job of a frame binds some values, whatever isn't told.
use Rattle.std.specs.Prelude.{◌≡◌, refl, ℕ, ◌<◌, Bool, true, IsTrue, is_some, length, List, Option, Some, None, slice_get}
use Rattle.std.proofs.Common.{Bor, subst, sym}
use Rattle.std.proofs.lemmas.Bool.{true≢false}
use Rattle.tv_lemmas.proofs.Lists.{get-within}
use Rattle.tv_value.specs.Nested.{Place}
use Rattle.tv_value.specs.Values.{Name, Value}
use Rattle.tv_flow.specs.Flows.{Flow, Step}
use Rattle.tv_flow.specs.declared.document.Step.{Step as CodeStep}
use Rattle.tv_check.specs.declared.plans.FlowPlan.{FlowPlan}
use Rattle.tv_check.specs.declared.plans.StepPlan.{StepPlan}
use Rattle.tv_check.specs.declared.ports.Port.{Port}
use Rattle.tv_match.specs.declared.matchers.Matcher.{Matcher}
use Rattle.tv_match.specs.Seen.{matching}
use Rattle.tv_matching.specs.Told.{faulty_at}
use Rattle.tv_outputs.specs.Known.{Nodes}
use Rattle.tv_intake.specs.Intaken.{IsFaultyAt, known_jobs, matcher_at}
use Rattle.tv_binding.specs.Constants.{constants_view}
use Rattle.tv_binding.specs.Jobs.{job_found}
use Rattle.tv_binding.specs.Sourced.{known_by as sourced_by}
use Rattle.tv_binding.specs.declared.jobs.StepPorts.{StepPorts}
use Rattle.tv_binding.specs.declared.sources.Sources.{Sources}
use Rattle.tv_instances.specs.Answers.{AreInputs, numbered}
use Rattle.tv_instances.specs.FramingViews.{View}
use Rattle.tv_instances.specs.matches.Steps.{IsStepAt}
use Rattle.tv_frame.specs.declared.frame.Frame.{Frame}
use Rattle.tv_frame.specs.Kept.{HasMatcher, Keeps}
use Rattle.tv_frame.specs.StepPorts.{ArePortsOf}
use Rattle.tv_frame.proofs.JobInputs.{are-inputs, call-found, ports-many, step-within}
use Rattle.tv_frame.proofs.OutLemmas.{IsSourcesOf}
use Rattle.tv_frame.proofs.TableLemmas.{as-many-code}

abbrev bor : {A : Type 0} → A → Bor A
bor x = record { ref_ptr = (0, 0); now = x }

module _ (flows : List (Name × Flow)) (plan : FlowPlan) (pool : Nodes) (f : Frame) (v : View)
    (keeps : Keeps flows plan pool f v) (number n : ℕ) (q : Place)
    (there : slice_get (known_jobs f.intakes) number ≡ Some (n, q)) (s : Name × Step) (at_step : IsStepAt v n s) where
  said : (b : Bool) × IsFaultyAt (matcher_at f.intakes n) q b
  said = by (matcher_at f.intakes n) (keeps.matchers_are n s at_step)
    where
      by : (o : Option Matcher) → HasMatcher v s o → (b : Bool) × IsFaultyAt o q b
      by None h = absurd h
      by (Some m) h = (faulty_at (matching m).strategy (matching m).told q, refl)

  within : n < length plan.flow.steps
  within = step-within flows plan pool f v keeps number n q there said.0 said.1

  abbrev planned : (x : StepPlan) × (slice_get plan.steps n ≡ Some x)
  planned = get-within plan.steps n (subst (λ m. n < m) (sym (as-many-code plan)) within)

  abbrev described : (x : Name × CodeStep) × (slice_get plan.flow.steps n ≡ Some x)
  described = get-within plan.flow.steps n within

  abbrev described_ports : (x : List Port) × (slice_get plan.wiring.ports n ≡ Some x)
  described_ports = get-within plan.wiring.ports n (subst (λ m. n < m) (sym (ports-many plan)) within)

  abbrev ports : StepPorts
  ports = record {
    number = n;
    tree = bor planned.0.tree;
    mismatch = bor planned.0.mismatch;
    inputs = bor described.0.1.inputs;
    delivered = bor planned.0.delivered;
    ports = bor described_ports.0;
  }

  own : ArePortsOf plan n ports
  own = record {
    number = refl;
    planned = planned.0;
    at_plan = planned.1;
    tree = refl;
    mismatch = refl;
    described = described.0;
    at_flow = described.1;
    inputs = refl;
    delivered = refl;
    at_ports = described_ports.1;
  }

  abbrev sources : Sources
  sources = record {
    inputs = bor f.inputs;
    outputs = bor f.outputs;
    pool = bor pool;
    firsts = bor f.tables.firsts.items;
  }

  of : IsSourcesOf pool f sources
  of = record { inputs = refl; outputs = refl; nodes = refl; firsts = refl }

  found : IsTrue (is_some (job_found (sourced_by sources) (constants_view f.tables.constants) ports q))
  found =
      call-found flows plan pool f v keeps number n q ports
      (record { there = there; faulty = said.0; said = said.1; own = own }) sources of

  pub binds-some : (j : Name × Place) → numbered v number ≡ Some j → (vs : List Value) × AreInputs v j vs
  binds-some j e = by (job_found (sourced_by sources) (constants_view f.tables.constants) ports q) refl found
    where
      by : (o : Option (List Value)) → job_found (sourced_by sources) (constants_view f.tables.constants) ports q ≡ o
          → is_some o ≡ true → (vs : List Value) × AreInputs v j vs
      by None g h = absurd (true≢false (sym h))
      by (Some vs) g h = (
        vs,
        are-inputs flows plan pool f v keeps sources of number n q there said.0 said.1 ports own
            (constants_view f.tables.constants) refl j e vs g,
      )
