-- The run with another number of failed jobs fits what it fitted.
use Rattle.std.specs.Prelude.{◌≡◌, refl, ℕ, None, Option, Some, slice_get}
use Rattle.std.proofs.Common.{subst, sym, ◌∙◌}
use Rattle.std.proofs.lemmas.Option.{same_Some}
use Rattle.tv_instances.specs.FramingViews.{View}
use Rattle.tv_instances.specs.Forest.{Instance, Instances}
use Rattle.tv_run.specs.Accepting.{with_failed}
use Rattle.tv_run.specs.Standing.{Fits, IsLife, names_of}
use Rattle.tv_run.specs.declared.instances.Instance as code
use Rattle.tv_run.specs.declared.run.OpenRun.{OpenRun}
use Rattle.tv_run.proofs.Alike.{AreAlike, IsAlike, fits-alike, names-alike}

module _ (n : ℕ) (r : OpenRun) where
  abbrev s : OpenRun
  s = with_failed n r

  same : (i : ℕ) (c e : code.Instance) → slice_get r.instances.items i ≡ Some c → slice_get s.instances.items i ≡ Some e
      → c ≡ e
  same i c e at there = same_Some c e (sym at ∙ there)

  alike : AreAlike r s
  alike = record {
    run = refl;
    looks = refl;
    jobs = refl;
    due = refl;
    as_many = refl;
    each = λ i c e at there.
        subst (IsAlike c) (same i c e at there) (record { flow = refl; opener = refl; jobs = refl; seats = refl });
  }

  pub names-failed : names_of s ≡ names_of r
  names-failed = names-alike r s alike

  life-failed : (c : code.Instance) (x : Instance) (o : Option View) → IsLife r c x o → IsLife s c x o
  life-failed c x None life = life
  life-failed c x (Some v) life = record {
    itself = life.itself;
    there = life.there;
    flow = life.flow;
    is_open = life.is_open;
    still = life.still;
  }

  pub fits-failed : (xs : Instances) → Fits r xs → Fits s xs
  fits-failed xs fits =
      fits-alike r s alike xs fits
      (λ i c e x at there is kept.
      subst (λ g. IsLife s g x x.view) (same i c e at there) (life-failed c x x.view kept.life))
      fits.theirs fits.busy fits.busy_low
