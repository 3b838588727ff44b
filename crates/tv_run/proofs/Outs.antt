-- An open instance stands aside while what another gives is looked at, and then stands there again.
use Rattle.std.specs.Global.{Global}
use Rattle.std.specs.Vec.{with_item}
use Rattle.std.specs.Prelude.{◌≡◌, ◌≢◌, refl, ℕ, zero, suc, ◌<◌, List, [], ◌∷◌, Vec, get_or, length, slice_get, slice_set}
use Rattle.std.proofs.Common.{ap, arith, ◌∙◌}
use Rattle.std.proofs.lemmas.List.{length-set}
use Rattle.tv_seats.proofs.Staging.{set-other}
use Rattle.tv_instances.specs.FramingViews.{View}
use Rattle.tv_outputs.specs.Known.{Nodes}
use Rattle.tv_instances.specs.Forest.{Instance, Instances}
use Rattle.tv_instances.proofs.Lists.{at-set}
use Rattle.tv_instances.specs.declared.open.Open.{Open}
use Rattle.tv_run.specs.Changes.{IsOpenHere}
use Rattle.tv_run.specs.declared.instances.Instance as code
use Rattle.tv_run.specs.declared.run.OpenRun.{OpenRun}
use Rattle.tv_run.proofs.Itself.{its, its-code, number-low, o, with_open}
use Rattle.tv_run.proofs.Numbering.{found, known-open}

-- of two that are put in one place the last stands there
set-again : {A : Type 0} (xs : List A) (i : ℕ) (x y : A) → slice_set (slice_set xs i x) i y ≡ slice_set xs i y
set-again [] i x y = refl
set-again (z ∷ xs) zero x y = refl
set-again (z ∷ xs) (suc i) x y = ap (λ l. z ∷ l) (set-again xs i x y)

-- an instance with these in the place of its Open
abbrev pub with_opens : code.Instance → Vec Open Global → code.Instance
with_opens c opens = record {
  flow = c.flow;
  opener = c.opener;
  jobs = c.jobs;
  is_busy = c.is_busy;
  «open» = opens;
  seats = c.seats;
}

-- with those that it had, of which the first is this Open
abbrev pub stands_again : code.Instance → Vec Open Global → Open → code.Instance
stands_again c slot p = with_opens c (with_item slot 0 p)

module _ (r : OpenRun) (i : ℕ) (g : code.Instance) (none : Vec Open Global) where
  abbrev pub aside : List code.Instance
  aside = slice_set r.instances.items i (with_opens g none)

  -- the run once it stands there again, with another pool
  abbrev pub stood_again : code.Instance → Vec Open Global → Open → Nodes → OpenRun
  stood_again e slot p pool =
      record r {
        pool = pool;
        instances = with_item (with_item r.instances i (with_opens g none)) i (stands_again e slot p);
      }

  -- another is there as it was
  module _ (k : ℕ) (ne : k ≢ i) (xs : Instances) (y : Instance) (w : View) (here : IsOpenHere r xs k y w) where
    pub aside-low : k < length aside
    aside-low =
        let low = number-low r k xs y w here in
        let same = length-set r.instances.items i (with_opens g none) in
        omega (arith, low, same)

    module _ (e : code.Instance) (read : e ≡ get_or aside k e) where
      aside-at : slice_get aside k ≡ slice_get r.instances.items k
      aside-at = set-other r.instances.items i k (with_opens g none) ne

      pub aside-opened : e.open.items ≡ o r k xs y w here ∷ []
      aside-opened =
          ap (λ (c : code.Instance). c.open.items)
          (found aside k (its r k xs y w here) e (aside-at ∙ (its-code r k xs y w here).there) read)
          ∙ (its-code r k xs y w here).opened.there

      pub aside-open : (p : Open) → p ≡ get_or e.open.items 0 p → p ≡ o r k xs y w here
      aside-open p is =
          known-open aside k (its r k xs y w here) e (o r k xs y w here) p (aside-at ∙ (its-code r k xs y w here).there)
          (its-code r k xs y w here).opened.there read is

  -- and this stands there again
  module _ (xs : Instances) (x : Instance) (v : View) (here : IsOpenHere r xs i x v) where
    pub again-low : i < length aside
    again-low =
        let low = number-low r i xs x v here in
        let same = length-set r.instances.items i (with_opens g none) in
        omega (arith, low, same)

    pub again : (e : code.Instance) → e ≡ get_or aside i e → (slot : Vec Open Global) (p : Open) → slot ≡ g.open
        → slice_set aside i (stands_again e slot p) ≡ slice_set r.instances.items i (with_open g p)
    again e read slot p same =
        let is : e ≡ with_opens g none =
        found aside i (with_opens g none) e
        (at-set r.instances.items i (its r i xs x v here) (with_opens g none) (its-code r i xs x v here).there) read in
        (λ j. slice_set aside i (stands_again (is j) (same j) p))
        ∙ set-again r.instances.items i (with_opens g none) (with_open g p)
