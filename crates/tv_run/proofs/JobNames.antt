-- The names of known jobs: that of the job that opened the instance, and then the step and place.
use Rattle.std.specs.Prelude.{◌≡◌, ℕ, ◌<◌, ◌++◌, [], ◌∷◌, None, Some, length, slice_get}
use Rattle.std.proofs.Common.{ap, append_assoc, arith, sym, ◌∙◌}
use Rattle.std.proofs.lemmas.Option.{same_Some}
use Rattle.tv_value.specs.Nested.{Place}
use Rattle.tv_value.specs.Values.{JobName, Name}
use Rattle.tv_flow.specs.Flows.{Step}
use Rattle.tv_seats.specs.Seats.{Seat}
use Rattle.tv_instances.specs.Forest.{Instance, Instances}
use Rattle.tv_run.specs.Jobs.{named_step_of, seat_of}
use Rattle.tv_run.specs.Standing.{Fits, names_of}
use Rattle.tv_run.specs.declared.instances.Instance as code
use Rattle.tv_run.specs.declared.instances.Numbered.{Numbered}
use Rattle.tv_run.specs.declared.run.OpenRun.{OpenRun}
use Rattle.tv_run.proofs.JobLemmas.{IsKnownAs, known-at, low, name-there, named_step-is, seat-is, spot-is}

module _ (r : OpenRun) (xs : Instances) (fits : Fits r xs) (k : ℕ) (m : Numbered) (e : slice_get r.jobs.items k ≡ Some m)
  where
    abbrev w : (x : Instance) × (s : Seat) × (t : Name × Step) × IsKnownAs r xs k m.instance m.number x s t
    w = known-at r xs fits k m e

    abbrev spot : Name × Place
    spot = (w.2.0, w.1.place)

    pub seat-known : seat_of r k ≡ Some w.1
    seat-known = seat-is r xs fits k m.instance m.number w.0 w.1 w.2 w.3

    pub step-known : named_step_of r k ≡ Some w.2
    step-known = named_step-is r xs fits k m.instance m.number w.0 w.1 w.2 w.3

    pub name-known : slice_get (names_of r) k ≡ Some (w.0.name ++ spot ∷ [])
    name-known =
        name-there r xs fits k m.instance m.number w.0 w.1 w.2 w.3
        ∙ ap (λ p. Some (w.0.name ++ p ∷ [])) (spot-is r xs fits k m.instance m.number w.0 w.1 w.2 w.3)

    module _ (c : code.Instance) (here : slice_get r.instances.items m.instance ≡ Some c) where
      itself-is : w.3.itself ≡ c
      itself-is = same_Some w.3.itself c (sym w.3.is_itself ∙ here)

      -- the job that opened its instance comes before it
      module _ (o : ℕ) (opener : c.opener ≡ Some o) where
        pub opener-less : o < k
        opener-less = fits.behind k m c o e here opener

        pub opener-low : o < length r.jobs.items
        opener-low =
            let a = opener-less in
            let b = low r xs fits k m.instance m.number w.0 w.1 w.2 w.3 in
            omega (arith, a, b)

        pub opener-named : slice_get (names_of r) o ≡ Some w.0.name
        opener-named = w.3.kept.opener o (ap (λ (u : code.Instance). u.opener) itself-is ∙ opener)

        -- the parts behind those of its name
        pub name-behind : (before between after n : JobName) → slice_get (names_of r) k ≡ Some n
            → ((a : JobName) → slice_get (names_of r) o ≡ Some a → between ≡ before ++ a)
            → ((s : Seat) (t : Name × Step) → seat_of r k ≡ Some s → named_step_of r k ≡ Some t
            → after ≡ between ++ (t.0, s.place) ∷ [])
            → after ≡ before ++ n
        name-behind before between after n h f g =
            g w.1 w.2 seat-known step-known
            ∙ ap (λ (l : JobName). l ++ spot ∷ []) (f w.0.name opener-named)
            ∙ append_assoc before w.0.name (spot ∷ [])
            ∙ ap (λ (l : JobName). before ++ l) (same_Some (w.0.name ++ spot ∷ []) n (sym name-known ∙ h))

      -- of the main instance's
      pub name-alone : c.opener ≡ None → (before after n : JobName) → slice_get (names_of r) k ≡ Some n
          → ((s : Seat) (t : Name × Step) → seat_of r k ≡ Some s → named_step_of r k ≡ Some t
          → after ≡ before ++ (t.0, s.place) ∷ [])
          → after ≡ before ++ n
      name-alone none before after n h g =
          g w.1 w.2 seat-known step-known
          ∙ ap (λ (l : JobName). before ++ l)
          (ap (λ (l : JobName). l ++ spot ∷ [])
          (sym (w.3.kept.main (ap (λ (u : code.Instance). u.opener) itself-is ∙ none)).1)
          ∙ same_Some (w.0.name ++ spot ∷ []) n (sym name-known ∙ h))
