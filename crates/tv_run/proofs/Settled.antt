-- What is settled in a run that stands, and what is left as it was.
use Rattle.std.specs.Prelude.{◌≡◌, ℕ, Bool, true, false, [], IfSome, Option, Some}
use Rattle.std.proofs.Common.{subst, ◌∙◌}
use Rattle.tv_lemmas.specs.Members.{In}
use Rattle.tv_lemmas.proofs.Cases.{on_test}
use Rattle.tv_gate.specs.Outcomes.{Giving}
use Rattle.tv_check.specs.RunViews.{run_view}
use Rattle.tv_instances.specs.FramingViews.{View}
use Rattle.tv_frame.specs.Tables.{levels_in}
use Rattle.tv_instances.specs.Forest.{Instance, Instances, IsAt}
use Rattle.tv_instances.specs.forest_firsts.Opening.{IsStill}
use Rattle.tv_instances.proofs.forest_firsts.Quiet.{quiet-by_instances}
use Rattle.tv_history.specs.Calls.{NothingSettles, Settles}
use Rattle.tv_history.specs.Runs.{past_of}
use Rattle.tv_run.specs.Settlements.{IsQuietRun}
use Rattle.tv_run.specs.Standing.{Stands, run_of}
use Rattle.tv_run.specs.Turns.{SettlesTo, StaysAs}
use Rattle.tv_run.specs.declared.run.OpenRun.{OpenRun}
use Rattle.tv_run.proofs.JobLemmas.{instance-there, open-is}

pub at-some : {A : Type 0} (P : A → Type 0) (o : Option A) (x : A) → o ≡ Some x → IfSome o P → P x
at-some P o x e h = subst (λ p. IfSome p P) e h

module _ (gives : Giving) where
  -- ---- from a run that is the same but for rooms

  pub stays-from : (q r s : OpenRun) → StaysAs gives q r → StaysAs gives r s → StaysAs gives q s
  stays-from q r s g h = record { stands = h.stands; same = h.same ∙ g.same; regions = λ n. h.regions n ∙ g.regions n }

  pub settles-from : (q r s : OpenRun) (b : Bool) → StaysAs gives q r → SettlesTo gives r s b → SettlesTo gives q s b
  settles-from q r s true g h = (h.0, subst (λ x. Settles x (run_of s)) g.same h.1)
  settles-from q r s false g h = (stays-from q r s g h.0, subst (λ x. NothingSettles gives x) g.same h.1)

  -- ---- where no instance is busy

  module _ (r : OpenRun) (xs : Instances) (st : Stands gives r xs) (none : r.busy.items ≡ []) where
    all-still : (i : ℕ) (x : Instance) (v : View) → IsAt xs i x → x.view ≡ Some v → IsStill levels_in x v
    all-still i x v at e =
        let c = instance-there r xs st.fits i x at in
        let o = open-is r i c.0 x v c.2 e in
        on_test c.0.is_busy (λ b. absurd (subst (In i) none (st.fits.busy i c.0 c.1 b))) (λ b. o.still b)

    pub quiet-run : IsQuietRun gives r
    quiet-run =
        quiet-by_instances gives (run_view r.run) levels_in (past_of (run_of r)) xs st.stand all-still
