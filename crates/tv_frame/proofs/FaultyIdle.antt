-- An idle job that binds a fault, where one is kept.
use Rattle.std.specs.Prelude.{◌≡◌, refl, ℕ, zero, suc, ◌<◌, List, [], ◌∷◌, Some, length, slice_get}
use Rattle.std.proofs.Common.{arith, subst, inl, inr}
use Rattle.std.proofs.lemmas.Option.{none-some}
use Rattle.tv_lemmas.specs.Members.{In}
use Rattle.tv_value.specs.Values.{Name}
use Rattle.tv_flow.specs.Flows.{Flow, Step}
use Rattle.tv_check.specs.declared.plans.FlowPlan.{FlowPlan}
use Rattle.tv_outputs.specs.Known.{Nodes}
use Rattle.tv_idle.specs.Idles.{StepIdle, first_number, of_step}
use Rattle.tv_spread.specs.Spreads.{is_faulty_now}
use Rattle.tv_framing.specs.Views.{View}
use Rattle.tv_frame.specs.declared.frame.Frame.{Frame}
use Rattle.tv_frame.specs.Kept.{Keeps}
use Rattle.tv_frame.specs.Ready.{HasIdleWith}

-- the first of a list is one of it
first-in : (js : List (ℕ × List ℕ)) (n : ℕ) → first_number js ≡ Some n → (j : ℕ × List ℕ) × In j js
first-in [] n e = absurd (none-some n e)
first-in (j ∷ js) n e = (j, inl refl)

-- a step with a job is there
step-there : (ss : List StepIdle) (k n : ℕ) → first_number (of_step ss k).faulty ≡ Some n → k < length ss
step-there [] k n e = absurd (none-some n e)
step-there (s ∷ ss) zero n e = omega arith
step-there (s ∷ ss) (suc k) n e = let l = step-there ss k n e in omega (arith, l)

there : (ss : List (Name × Step)) (k : ℕ) → k < length ss → (s : Name × Step) × (slice_get ss k ≡ Some s)
there [] k l = absurd (omega (arith, l))
there (s ∷ ss) zero l = (s, refl)
there (s ∷ ss) (suc k) l = there ss k (omega (arith, l))

module _ (flows : List (Name × Flow)) (plan : FlowPlan) (pool : Nodes) (f : Frame) (v : View) (k : Keeps flows plan pool f v) where
  pub faulty-idle : (n m : ℕ) → first_number (of_step f.idle.steps n).faulty ≡ Some m → HasIdleWith v (is_faulty_now f.intakes)
  faulty-idle n m e =
      let s = there v.flow.steps n (subst (λ l. n < l) k.idle_are.as_many (step-there f.idle.steps n m e)) in
      let j = first-in (of_step f.idle.steps n).faulty m e in
      let free = k.idle_are.all.free n s.0 j.0 s.1 (inr j.1) in
      record {
        number = n;
        step = s.0;
        is = s.1;
        job = j.0.0;
        place = j.0.1;
        idle = record { job = k.idle_are.all.known n s.0 j.0 s.1 (inr j.1); free = free.0; without_result = free.1 };
        said = k.idle_are.faulty n j.0 j.1;
      }
