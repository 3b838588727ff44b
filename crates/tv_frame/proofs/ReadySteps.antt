-- Whether the jobs of a step may settle, and whether it has idle ones, by what the frame keeps.
use Rattle.std.specs.Prelude.{◌≡◌, refl, ◌⊎◌, ℕ, suc, ◌==◌, ◌||◌, not, Bool, true, false, List, [], ◌∷◌, length}
use Rattle.std.proofs.Common.{sym, ap, subst, ◌∙◌, arith, inl, inr}
use Rattle.std.proofs.lemmas.Bool.{ne_eqb, true≢false}
use Rattle.tv_lemmas.specs.Members.{In}
use Rattle.tv_value.specs.Values.{Name}
use Rattle.tv_flow.specs.Flows.{Flow, Step}
use Rattle.tv_naming.specs.Numbers.{position}
use Rattle.tv_naming.proofs.FormedParts.{steps-ascend}
use Rattle.tv_model.specs.instance.Ranks.{ranked}
use Rattle.tv_check.specs.declared.plans.FlowPlan.{FlowPlan}
use Rattle.tv_check.specs.declared.wiring.Wiring.{Wiring}
use Rattle.tv_outputs.specs.Known.{Nodes}
use Rattle.tv_idle.specs.Idles.{has_some, of_step}
use Rattle.tv_model.specs.instance.ByResults.{last_first}
use Rattle.tv_model.specs.instance.Counting.{have_ended_by}
use Rattle.tv_framing.specs.Answers.{after_of}
use Rattle.tv_framing.specs.Views.{View}
use Rattle.tv_framing.specs.matches.Steps.{IsStepAt}
use Rattle.tv_framing.specs.turns.IdleJobs.{IsIdle}
use Rattle.tv_telling.specs.endings.Turns.{may_settle}
use Rattle.tv_frame.specs.declared.frame.Frame.{Frame}
use Rattle.tv_frame.specs.Kept.{Keeps}
use Rattle.tv_frame.specs.Ready.{HasIdle}
use Rattle.tv_frame.specs.Tables.{levels_in}
use Rattle.tv_frame.proofs.Going.{plan-wiring}
use Rattle.tv_frame.proofs.Keeping.{kept-wired}
use Rattle.tv_framing.proofs.turns.Settling.{may-is}
use Rattle.tv_framing.proofs.engine.Endings.{position-of}

some-of : (gs fs : List (ℕ × List ℕ)) → (not (length gs == 0) || not (length fs == 0)) ≡ true → (j : ℕ × List ℕ) × (In j gs ⊎ In j fs)
some-of (g ∷ gs) fs h = (g, inl (inl refl))
some-of [] (f ∷ fs) h = (f, inr (inl refl))
some-of [] [] h = absurd (true≢false (sym h))

not-empty : (m : ℕ) → not (suc m == 0) ≡ true
not-empty m = ap not (ne_eqb (suc m) 0 (λ e. absurd (omega (arith, e))))

none-of : (gs fs : List (ℕ × List ℕ)) → (not (length gs == 0) || not (length fs == 0)) ≡ false → (j : ℕ × List ℕ) → In j gs ⊎ In j fs → ⊥
none-of (g ∷ gs) fs h j i = absurd (true≢false (sym (ap (λ b. b || not (length fs == 0)) (not-empty (length gs))) ∙ h))
none-of [] (f ∷ fs) h j i = absurd (true≢false (sym (not-empty (length fs)) ∙ h))
none-of [] [] h j (inl i) = i
none-of [] [] h j (inr i) = i

module _ (flows : List (Name × Flow)) (plan : FlowPlan) (pool : Nodes) (f : Frame) (v : View) (k : Keeps flows plan pool f v) (n : ℕ) (s : Name × Step) (at : IsStepAt v n s) where
  pub settles-so : may_settle plan.wiring f.endings n ≡ have_ended_by v.events (levels_in v.flow) (last_first (ranked v.flow.steps) []) (after_of v s.0)
  settles-so =
      ap (λ (w : Wiring). may_settle w f.endings n) (plan-wiring flows plan pool f v k)
      ∙ may-is v (kept-wired flows plan pool f v k) (levels_in v.flow) f.endings k.endings_are n s at

  pub its-number : position s.0 v.flow.steps ≡ n
  its-number = position-of v.flow.steps n s (steps-ascend v.flow (kept-wired flows plan pool f v k).formed) at

  pub idle-so : (b : Bool) → has_some (of_step f.idle.steps n) ≡ b → HasIdle v s.0 b
  idle-so true h =
      let j = some-of (of_step f.idle.steps n).good (of_step f.idle.steps n).faulty h in
      let free = k.idle_are.all.free n s j.0 at j.1 in
      (j.0.0, j.0.1, record { job = k.idle_are.all.known n s j.0 at j.1; free = free.0; without_result = free.1 })
  idle-so false h = λ m q i.
      none-of (of_step f.idle.steps n).good (of_step f.idle.steps n).faulty h (m, q)
      (subst (λ c. IsIdle f.idle.steps c (m, q)) its-number (k.idle_are.all.all m (s.0, q) i.job i.free i.without_result))
