-- A run with another Open in the place of an instance's.
use Rattle.std.specs.Prelude.{◌≡◌, ℕ, List, [], ◌∷◌, Some, length, slice_get, slice_set}
use Rattle.std.proofs.Common.{ap, sym, ◌∙◌}
use Rattle.std.proofs.lemmas.List.{length-set}
use Rattle.std.proofs.lemmas.Option.{same_Some}
use Rattle.tv_seats.proofs.Staging.{set-other}
use Rattle.tv_instances.proofs.Lists.{at-set}
use Rattle.tv_instances.specs.declared.open.Open.{Open}
use Rattle.tv_run.specs.Changes.{HasSameRest}
use Rattle.tv_run.specs.Following.{OthersAreSame}
use Rattle.tv_run.specs.declared.instances.Instance as code
use Rattle.tv_run.specs.declared.run.OpenRun.{OpenRun}

-- all but that, and what is due, is the same
pub record HasOpen (r s : OpenRun) (i : ℕ) (before : code.Instance) (p : Open) : Type 0 where
  pub after : code.Instance
  pub instances : s.instances.items ≡ slice_set r.instances.items i after
  pub flow : after.flow ≡ before.flow
  pub opener : after.opener ≡ before.opener
  pub numbers : after.jobs ≡ before.jobs
  pub is_busy : after.is_busy ≡ before.is_busy
  pub is_open : after.open.items ≡ p ∷ []
  pub run : s.run ≡ r.run
  pub looks : s.looks ≡ r.looks
  pub pool : s.pool ≡ r.pool
  pub busy : s.busy ≡ r.busy
  pub jobs : s.jobs ≡ r.jobs
  pub entries : s.entries ≡ r.entries
  pub failed : s.failed ≡ r.failed
  pub outs : s.outs ≡ r.outs

module _ (r s : OpenRun) (i : ℕ) (before : code.Instance) (p : Open) (w : HasOpen r s i before p) where
  pub set-there : slice_get r.instances.items i ≡ Some before → slice_get s.instances.items i ≡ Some w.after
  set-there was = ap (λ l. slice_get l i) w.instances ∙ at-set r.instances.items i before w.after was

  pub others-set : OthersAreSame r s i
  others-set = record {
    as_many = ap length w.instances ∙ length-set r.instances.items i w.after;
    others = λ k ne. ap (λ l. slice_get l k) w.instances ∙ set-other r.instances.items i k w.after ne;
  }

  pub rest-set : HasSameRest r s
  rest-set = record { run = w.run; entries = w.entries; failed = w.failed; outs = w.outs }

-- what the code has there
pub open-in_set :
    (cs : List code.Instance) (i : ℕ) (before after : code.Instance) (p : Open) → slice_get cs i ≡ Some before
    → after.open.items ≡ p ∷ [] → (c : code.Instance) (o : Open) → slice_get (slice_set cs i after) i ≡ Some c
    → c.open.items ≡ o ∷ [] → o ≡ p
open-in_set cs i before after p was is_open c o at there =
    let same = same_Some c after (sym at ∙ at-set cs i before after was) in
    same_Some o p (ap (λ l. slice_get l 0) (sym there ∙ ap (λ (e : code.Instance). e.open.items) same ∙ is_open))
