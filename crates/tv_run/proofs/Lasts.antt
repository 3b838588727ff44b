-- The last of the instances in which something may be settled.
use Rattle.std.specs.Prelude.{◌≡◌, refl, ℕ, ◌-◌, ◌<◌, Bool, true, false, List, [], ◌∷◌, Some, length, slice_get, slice_index_or}
use Rattle.std.proofs.Common.{ap, arith, subst, sym, ◌∙◌}
use Rattle.std.proofs.lemmas.Option.{get_or_from_slice_get, same_Some, slice_get-get_or}
use Rattle.tv_lemmas.proofs.Lists.{get-within}
use Rattle.tv_lemmas.proofs.Members.{in-slice}
use Rattle.tv_gate.specs.Outcomes.{Giving}
use Rattle.tv_instances.specs.Forest.{Instances, IsAt}
use Rattle.tv_instances.specs.declared.open.Open.{Open}
use Rattle.tv_run.specs.Settlements.{IsOpenIn, LastIsStill, SettlesIn, SettlesLast, last_busy}
use Rattle.tv_run.specs.Standing.{Fits, StandsOpen}
use Rattle.tv_run.specs.declared.instances.Instance as code
use Rattle.tv_run.specs.declared.run.OpenRun.{OpenRun}
use Rattle.tv_run.proofs.JobLemmas.{instance-told, open-is, view-is}
use Rattle.tv_run.proofs.Opens.{nothing-open}

pub some-there : {A : Type 0} (l : List A) → (length l ≡ 0 → ⊥) → (x : A) × (m : List A) × (l ≡ x ∷ m)
some-there [] h = absurd (h refl)
some-there (x ∷ l) h = (x, l, refl)

module _ (r : OpenRun) (some : 0 < length r.busy.items) (k n : ℕ) (last : n ≡ length r.busy.items - 1)
    (read : k ≡ slice_index_or r.busy.items n k) where
  pub last-is : last_busy r ≡ Some k
  last-is =
      ap (slice_get r.busy.items) (sym last)
      ∙ slice_get-get_or r.busy.items n k (omega (arith, some, last))
      ∙ ap Some (sym read)

  its-last : (i : ℕ) → last_busy r ≡ Some i → i ≡ k
  its-last i e = same_Some i k (sym e ∙ last-is)

  pub last-low : (xs : Instances) → Fits r xs → k < length r.instances.items
  last-low xs fits = fits.busy_low k (in-slice r.busy.items (length r.busy.items - 1) k last-is)

  module _ (g : code.Instance) (at : g ≡ slice_index_or r.instances.items k g) where
    last-there : (xs : Instances) → Fits r xs → slice_get r.instances.items k ≡ Some g
    last-there xs fits =
        let c = get-within r.instances.items k (last-low xs fits) in
        c.1 ∙ ap Some (sym (at ∙ get_or_from_slice_get r.instances.items k c.0 g c.1))

    -- one that has ended is still
    pub ended-still : g.open.items ≡ [] → (xs : Instances) → Fits r xs → LastIsStill r xs
    ended-still none xs fits i x v at_last there is_open =
        let w = open-is r k g x v
        (fits.kept k g x (last-there xs fits) (subst (λ n. IsAt xs n x) (its-last i at_last) there)) is_open in
        absurd (nothing-open w.itself [] g.open.items none w.there)

    -- another one is open
    module _ (gives : Giving) (o : Open) (os : List Open) (open_there : g.open.items ≡ o ∷ os) where
      pub open-last : StandsOpen gives r → IsOpenIn gives r k
      open-last so =
          let x = instance-told r so.0 so.1.fits k g (last-there so.0 so.1.fits) in
          let v = view-is r k g x.0 o os x.2 open_there in
          record {
            instances = so.0;
            stands = so.1;
            going = so.2;
            instance = x.0;
            there = x.1;
            view = v.0;
            is_open = v.1;
          }

  pub settles-last : (gives : Giving) (s : OpenRun) (b : Bool) → SettlesIn gives r s k b → SettlesLast gives r s b
  settles-last gives s true h = h
  settles-last gives s false h = (
    h.0,
    h.1,
    λ xs fits i x v at_last there is_open.
        h.2 xs x v fits (subst (λ n. IsAt xs n x) (its-last i at_last) there) is_open,
  )
