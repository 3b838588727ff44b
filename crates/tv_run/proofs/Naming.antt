-- The names of a run's jobs are those that its instances tell: each job stands behind the one that opened its instance.
use Rattle.std.specs.Option.{option_map_or}
use Rattle.std.specs.Prelude.{◌≡◌, refl, ℕ, ◌<◌, ◌++◌, List, [], ◌∷◌, None, Option, Some, length, map, option_map, slice_get}
use Rattle.std.proofs.Common.{ap, append-nil, append_assoc, subst, sym, ◌∙◌}
use Rattle.std.proofs.lemmas.List.{length-map, map-append}
use Rattle.std.proofs.lemmas.Option.{none-some, same_Some}
use Rattle.tv_lemmas.proofs.Lists.{get-within, in-front, get-end}
use Rattle.tv_value.specs.Values.{JobName, Name}
use Rattle.tv_flow.specs.Flows.{Document, Flow}
use Rattle.tv_check.specs.RunViews.{run_view}
use Rattle.tv_seats.specs.Seats.{Seat}
use Rattle.tv_instances.specs.seats.Seated.{spot_of}
use Rattle.tv_instances.specs.Forest.{Instance, Instances, IsAt, name_of, names_by}
use Rattle.tv_run.specs.Looks.{IsFlow}
use Rattle.tv_run.specs.Standing.{name_behind, names_from, names_of, numbered_as, numbers_of, opener_name, seats_of, steps_of}
use Rattle.tv_run.specs.declared.instances.Instance as code
use Rattle.tv_run.specs.declared.instances.Numbered.{Numbered}
use Rattle.tv_run.specs.declared.run.OpenRun.{OpenRun}

-- the steps of its flow
pub steps-of_flow : (d : Document) (c : code.Instance) (f : Flow) → IsFlow d c.flow f → steps_of d c ≡ f.steps
steps-of_flow d c f e = by (slice_get d.flows c.flow) e
  where
    by : (o : Option (Name × Flow)) → option_map (λ g. g.1) o ≡ Some f
        → option_map_or (λ (g : Name × Flow). g.1.steps) o [] ≡ f.steps
    by None e = absurd (none-some f e)
    by (Some g) e = ap (λ (h : Flow). h.steps) (same_Some g.1 f e)

module _ (s : OpenRun) (ys : Instances) where
  -- job k, of this number, has a seat in an instance that job m opened, or in the main one
  pub record IsNamedAt (k : ℕ) (n : Numbered) : Type 0 where
    pub itself : code.Instance
    pub there : slice_get s.instances.items n.instance ≡ Some itself
    pub instance : Instance
    pub at : IsAt ys n.instance instance
    pub seat : Seat
    pub sits : slice_get instance.seats n.number ≡ Some seat
    pub flow : IsFlow (run_view s.run) itself.flow instance.flow
    pub seats : seats_of itself ≡ instance.seats
    pub main : itself.opener ≡ None → instance.name ≡ []
    pub opener :
        (m : ℕ) → itself.opener ≡ Some m → (m < k) × (slice_get (names_by ys (numbers_of s)) m ≡ Some instance.name)

  abbrev d : Document
  d = run_view s.run

  abbrev named_by : List Numbered → List JobName
  named_by ks = names_by ys (map numbered_as ks)

  named-more : (ks ls : List Numbered) → named_by (ks ++ ls) ≡ named_by ks ++ named_by ls
  named-more ks ls =
      ap (names_by ys) (map-append numbered_as ks ls)
      ∙ map-append (name_of ys) (map numbered_as ks) (map numbered_as ls)

  long : (ks : List Numbered) → length (named_by ks) ≡ length ks
  long ks = length-map (map numbered_as ks) (name_of ys) ∙ length-map ks numbered_as

  module _ (so_far rest : List Numbered) (k : Numbered) (all : s.jobs.items ≡ so_far ++ k ∷ rest)
      (w : IsNamedAt (length so_far) k) where
    -- the name of an opener is among those so far
    opener-among : (m : ℕ) → w.itself.opener ≡ Some m → slice_get (named_by so_far) m ≡ Some w.instance.name
    opener-among m e =
        let o = w.opener m e in
        let low : m < length (named_by so_far) = subst (λ n. m < n) (sym (long so_far)) o.0 in
        let x = get-within (named_by so_far) m low in
        let told : slice_get (names_by ys (numbers_of s)) m ≡ Some x.0 =
        ap (λ l. slice_get (named_by l) m) all
        ∙ ap (λ l. slice_get l m) (named-more so_far (k ∷ rest))
        ∙ in-front (named_by so_far) (named_by (k ∷ rest)) m x.0 x.1 in
        x.1 ∙ sym told ∙ o.1

    opener-named : opener_name (named_by so_far) w.itself.opener ≡ w.instance.name
    opener-named = by w.itself.opener refl
      where
        by : (o : Option ℕ) → w.itself.opener ≡ o → opener_name (named_by so_far) o ≡ w.instance.name
        by None e = sym (w.main e)
        by (Some m) e = ap (λ o. option_map_or (λ n. n) o []) (opener-among m e)

    name-told : name_behind s (named_by so_far) k ≡ name_of ys (k.instance, k.number)
    name-told =
        ap
        (λ o.
        option_map_or
        (λ (c : code.Instance). opener_name (named_by so_far) c.opener
        ++ option_map_or (λ t. spot_of (steps_of d c) t ∷ []) (slice_get (seats_of c) k.number) [])
        o [])
        w.there
        ∙ (λ i.
        opener-named i
        ++ option_map_or (λ t. spot_of (steps-of_flow d w.itself w.instance.flow w.flow i) t ∷ [])
        (slice_get (w.seats i) k.number) [])
        ∙ ap (λ o. w.instance.name ++ option_map_or (λ t. spot_of w.instance.flow.steps t ∷ []) o []) w.sits
        ∙ sym
        (ap
        (λ o.
        option_map_or
        (λ (x : Instance). option_map_or (λ t. x.name ++ spot_of x.flow.steps t ∷ []) (slice_get x.seats k.number) []) o [])
        w.at
        ∙ ap (λ o. option_map_or (λ t. w.instance.name ++ spot_of w.instance.flow.steps t ∷ []) o []) w.sits)

  module _ (each : (k : ℕ) (n : Numbered) → slice_get s.jobs.items k ≡ Some n → IsNamedAt k n) where
    from-told : (so_far ks : List Numbered) → s.jobs.items ≡ so_far ++ ks
        → names_from s (named_by so_far) ks ≡ named_by s.jobs.items
    from-told so_far [] e = ap named_by (sym (e ∙ append-nil so_far))
    from-told so_far (k ∷ ks) e =
        let here : slice_get s.jobs.items (length so_far) ≡ Some k =
        ap (λ l. slice_get l (length so_far)) (e ∙ sym (append_assoc so_far (k ∷ []) ks))
        ∙ in-front (so_far ++ k ∷ []) ks (length so_far) k (get-end so_far k) in
        ap (λ n. names_from s (named_by so_far ++ n ∷ []) ks)
        (name-told so_far ks k e (each (length so_far) k here))
        ∙ ap (λ l. names_from s l ks) (sym (named-more so_far (k ∷ [])))
        ∙ from-told (so_far ++ k ∷ []) ks (e ∙ sym (append_assoc so_far (k ∷ []) ks))

    pub names-told : names_of s ≡ names_by ys (numbers_of s)
    names-told = from-told [] s.jobs.items refl
