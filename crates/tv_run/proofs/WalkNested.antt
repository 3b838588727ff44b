-- The jobs of a step whose flow is open, gone through in order of place as the open instance has them.
use Rattle.std.specs.Option.{option_map_or}
use Rattle.std.specs.Prelude.{◌≡◌, ℕ, ◌+◌, ◌<◌, ◌≤◌, Bool, false, true, List, None, Option, Some, length, option_map}
use Rattle.std.proofs.Common.{ap, get_or, subst, ◌∙◌}
use Rattle.std.proofs.lemmas.Option.{slice_get_within}
use Rattle.tv_gate.specs.Outcomes.{Giving}
use Rattle.tv_instances.specs.FramingViews.{View}
use Rattle.tv_seats.specs.Nested.{AreNested}
use Rattle.tv_seats.specs.Seats.{Seat, stage_at}
use Rattle.tv_seats.specs.Stages.{is_nested}
use Rattle.tv_seats.specs.declared.stage.Stage.TheVariants as stage
use Rattle.tv_instances.specs.Forest.{Instance, Instances, IsAt}
use Rattle.tv_instances.specs.Firsts.{stands_before}
use Rattle.tv_instances.specs.declared.firsts.Seeking.{Seeking}
use Rattle.tv_instances.specs.declared.open.Open.{Open}
use Rattle.tv_run.specs.Standing.{Stands}
use Rattle.tv_run.specs.Walking.{IsFoundAtStep, IsFoundBefore, IsFoundInside, IsOwn}
use Rattle.tv_run.specs.declared.run.OpenRun.{OpenRun}
use Rattle.tv_run.proofs.WalkOpen.{IsOpenedAs, get-at, seats-at}
use Rattle.tv_run.proofs.WalkSteps.{IsInner, NoneAmong, inner-is, none-at_end, none-behind, none-more, some-inside}

-- one of the list by its number
module _ (ss : List Seat) (step : ℕ) (ns : List ℕ) (nested : AreNested ss step ns) (q : ℕ) (low : q < length ns) where
  pub nested-low : get_or ns q 0 < length ss
  nested-low =
      let s = nested.nested q (get_or ns q 0) (get-at ns q low) in
      slice_get_within ss (get_or ns q 0) s.0 s.1.there

  pub nested-stage : option_map_or is_nested (stage_at ss (get_or ns q 0)) false ≡ true
  nested-stage =
      let s = nested.nested q (get_or ns q 0) (get-at ns q low) in
      ap (λ o. option_map_or is_nested (option_map (λ (u : Seat). u.stage) o) false) s.1.there ∙ s.1.nested

module _ (gives : Giving) (r : OpenRun) (xs : Instances) (st : Stands gives r xs) (i : ℕ) (x : Instance) (v : View)
    (at : IsAt xs i x) (told : x.view ≡ Some v) (k : Seeking) (step : ℕ) (own : Option ℕ)
    (is_own : IsOwn gives r xs k i x step own) (p : Open) (opened : IsOpenedAs r i p) (ns : List ℕ)
    (listed : AreNested p.seats.seats step ns) where
  same : p.seats.seats ≡ x.seats
  same = seats-at gives r xs st i x v at told p opened

  nested : AreNested x.seats step ns
  nested = subst (λ ss. AreNested ss step ns) same listed

  abbrev None_to : ℕ → Type 0
  None_to q = NoneAmong gives r xs k i x ns q

  pub end-none : (q : ℕ) → length ns ≤ q → None_to q → IsFoundBefore gives r xs k i x step own None
  end-none q all none = none-at_end gives r xs st i x v at told k step own is_own ns nested q all none

  module _ (q : ℕ) (low : q < length ns) where
    abbrev n : ℕ
    n = get_or ns q 0

    before-is : (b : Bool) → stands_before p.seats.seats n own ≡ b → stands_before x.seats n own ≡ b
    before-is b h = subst (λ ss. stands_before ss n own ≡ b) same h

    pub behind-none : stands_before p.seats.seats n own ≡ false → None_to q → IsFoundBefore gives r xs k i x step own None
    behind-none h none =
        none-behind gives r xs st i x v at told k step own is_own ns nested q n (get-at ns q low) (before-is false h) none

    module _ (c : ℕ) (at_stage : stage_at p.seats.seats n ≡ Some (stage.Nested c)) where
      stage-is : stage_at x.seats n ≡ Some (stage.Nested c)
      stage-is = subst (λ ss. stage_at ss n ≡ Some (stage.Nested c)) same at_stage

      pub inner-at : IsInner xs c x
      inner-at = inner-is gives r xs st i x v at told k step own is_own ns nested q n (get-at ns q low) c stage-is

      pub next-none : None_to q → IsFoundInside gives r xs k inner-at.inner None → None_to (q + 1)
      next-none none w =
          none-more gives r xs st i x v at told k step own is_own ns nested q n (get-at ns q low) c stage-is inner-at.inner
          inner-at.there none w

      pub found-some : stands_before p.seats.seats n own ≡ true → None_to q → (number : ℕ)
          → IsFoundInside gives r xs k inner-at.inner (Some number) → IsFoundAtStep gives r xs k i x step number
      found-some h none number w =
          some-inside gives r xs st i x v at told k step own is_own ns nested q n (get-at ns q low) c stage-is inner-at.inner
          inner-at.there (before-is true h) none number w
