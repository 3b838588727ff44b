-- The jobs that become known are those among what the matchers bring.
use Rattle.std.specs.Prelude.{◌≡◌, refl, ℕ, ◌+◌, Bool, true, flat_map, List, [], ◌∷◌, ◌++◌, map, IsPermutation}
use Rattle.std.proofs.Common.{arith, sym, ap, ap₂, subst, ◌∙◌}
use Rattle.std.proofs.lemmas.List.Sorted.{IsPermutation-sym, IsPermutation-trans, IsPermutation-map}
use Rattle.std.proofs.lemmas.List.{map-append}
use Rattle.std.proofs.lemmas.List.Folds.{flat_map-map}
use Rattle.tv_lemmas.specs.Members.{In}
use Rattle.tv_lemmas.proofs.Members.{each_in, in-map}
use Rattle.tv_value.specs.Nested.{Place}
use Rattle.tv_value.specs.Values.{Name}
use Rattle.tv_flow.specs.Flows.{Flow, Step}
use Rattle.tv_strategy.specs.Origins.{Origin}
use Rattle.tv_strategy.specs.Splits.{same_place}
use Rattle.tv_strategy.proofs.PlaceLemmas.{same-equal, same-itself}
use Rattle.tv_naming.specs.Numbers.{position}
use Rattle.tv_matching.specs.Items.{Bound, Item, Kind, Stopped, closes, ends, item, known_items, passes}
use Rattle.tv_matching.specs.Matchers.{Outcome, fault_at, job_at, list_at}
use Rattle.tv_matching.proofs.FromScratch.{WalkItem}
use Rattle.tv_matching.proofs.Lists.{flat-append, flat-same}
use Rattle.tv_matching.proofs.Members.{in-permutes}
use Rattle.tv_matching.proofs.Permutes.{flat-permutes, perm-from}
use Rattle.tv_intake.specs.Sorting as sorting
use Rattle.tv_model.proofs.Ordered.{flat-permuted}
use Rattle.tv_model.specs.instance.ByResults.{InstanceStep}
use Rattle.tv_framing.proofs.Ports.{known-or_gained}
use Rattle.tv_framing.specs.Frames.{job_places}
use Rattle.tv_framing.specs.Gaining.{gained_items}
use Rattle.tv_framing.specs.matches.Items.{standing, standing_kind, unnamed}
use Rattle.tv_framing.specs.matches.Jobs.{all_jobs, jobs_of}
use Rattle.tv_framing.proofs.matches.Ranks.{AreApart, numbered-by_position}
use Rattle.tv_framing.proofs.matches.Steps.{ArePaired, IsMadeOf}
use Rattle.tv_framing.proofs.matches.Permuting.{cancel}

-- ---- the places of jobs

abbrev job_place : Outcome → List Place
job_place (job_at q) = q ∷ []
job_place (list_at q n) = []
job_place (fault_at q l) = []

places-unnamed : (os : List Outcome) → flat_map job_place (map unnamed os) ≡ sorting.job_places os
places-unnamed [] = refl
places-unnamed (job_at q ∷ os) = ap (λ l. q ∷ l) (places-unnamed os)
places-unnamed (list_at q n ∷ os) = places-unnamed os
places-unnamed (fault_at q l ∷ os) = places-unnamed os

pub places-append : (os us : List Outcome) → sorting.job_places (os ++ us) ≡ sorting.job_places os ++ sorting.job_places us
places-append [] us = refl
places-append (job_at q ∷ os) us = ap (λ l. q ∷ l) (places-append os us)
places-append (list_at q n ∷ os) us = places-append os us
places-append (fault_at q l ∷ os) us = places-append os us

module _ {X F : Type 0} where
  -- of items
  abbrev end_places : List (Item X F) → List Place
  end_places xs = flat_map (λ x. job_place (standing x)) xs

  places-standing : (xs : List (Item X F)) → flat_map job_place (map standing xs) ≡ end_places xs
  places-standing xs = flat_map-map job_place standing xs

-- what stands as these outcomes has its jobs at their places
pub ends-permute : {X F : Type 0} (os : List Outcome) (xs : List (Item X F)) → IsPermutation (map unnamed os) (map standing xs) → IsPermutation (end_places xs) (sorting.job_places os)
ends-permute os xs h =
    IsPermutation-trans _ _ _ (perm-from _ _ (sym (places-standing xs)))
    (IsPermutation-trans _ _ _ (flat-permutes job_place (map standing xs) (map unnamed os) (IsPermutation-sym _ _ h)) (perm-from _ _ (places-unnamed os)))

module _ (known after : Origin → Bool) (more : (o : Origin) → known o ≡ true → after o ≡ true) (f : InstanceStep) (os brought : List Outcome) where
  -- the jobs that a step gains
  pub gained-jobs : IsPermutation (map unnamed os) (map standing (known_items known f.step.iteration)) → IsPermutation (map unnamed (os ++ brought)) (map standing (known_items after f.step.iteration)) → IsPermutation (end_places (gained_items known after f.step.iteration)) (sorting.job_places brought)
  gained-jobs h k =
      cancel same_place same-equal same-itself
      (end_places (known_items known f.step.iteration)) (end_places (gained_items known after f.step.iteration)) (sorting.job_places os) (sorting.job_places brought)
      (ends-permute os (known_items known f.step.iteration) h)
      (IsPermutation-trans _ _ _ (perm-from _ _ (sym (flat-append (λ x. job_place (standing x)) (known_items known f.step.iteration) (gained_items known after f.step.iteration))))
      (IsPermutation-trans _ _ _ (flat-permutes (λ x. job_place (standing x)) (known_items known f.step.iteration ++ gained_items known after f.step.iteration) (known_items after f.step.iteration) (IsPermutation-sym _ _ (known-or_gained known after more f.step.iteration)))
      (IsPermutation-trans _ _ _ (ends-permute (os ++ brought) (known_items after f.step.iteration) k) (perm-from _ _ (places-append os brought)))))

-- ---- with the names of steps

jobs-named : (s : Name) (xs : List WalkItem) → flat_map (job_places s) xs ≡ map (λ (q : Place). (s, q)) (end_places xs)
jobs-named s [] = refl
jobs-named s (x ∷ xs) = ap₂ (λ a b. a ++ b) (by x.place x.kind) (jobs-named s xs) ∙ sym (map-append (λ (q : Place). (s, q)) (job_place (standing x)) (end_places xs))
  where
    by : (q : Place) (k : Kind Bound Stopped) → job_places s (item q k) ≡ map (λ (r : Place). (s, r)) (job_place (standing_kind q k))
    by q (ends b) = refl
    by q (closes n) = refl
    by q (passes f) = refl

-- ---- all steps

module _ (flow : Flow) (fs : List InstanceStep) (w : ArePaired flow fs flow.steps) (apart : AreApart flow.steps) (os : ℕ → List Outcome) (items : InstanceStep → List WalkItem)
    (each : (s : Name × Step) (f : InstanceStep) → In s flow.steps → In f fs → IsMadeOf flow s f → IsPermutation (end_places (items f)) (sorting.job_places (os (position s.0 flow.steps)))) where
  abbrev Pair : Type 0
  Pair = (Name × Step) × InstanceStep

  abbrev of_pair : Pair → List (Name × Place)
  of_pair x = jobs_of x.0.0 (os (position x.0.0 flow.steps))

  abbrev of_step : Name × Step → List (Name × Place)
  of_step s = jobs_of s.0 (os (position s.0 flow.steps))

  one-pair : (x : Pair) → In x w.pairs → IsPermutation (flat_map (job_places x.1.step.step) (items x.1)) (of_pair x)
  one-pair x i =
      let m : IsMadeOf flow x.0 x.1 = each_in (λ (y : Pair). IsMadeOf flow y.0 y.1) w.pairs w.made x i in
      let s : In x.0 flow.steps = in-permutes x.0 flow.steps (map (λ (y : Pair). y.0) w.pairs) (IsPermutation-sym _ _ w.names) (in-map (λ (y : Pair). y.0) x w.pairs i) in
      let f : In x.1 fs = subst (In x.1) w.steps (in-map (λ (y : Pair). y.1) x w.pairs i) in
      IsPermutation-trans _ _ _ (perm-from _ _ (ap (λ n. flat_map (job_places n) (items x.1)) m.name ∙ jobs-named x.0.0 (items x.1)))
      (IsPermutation-map (λ (q : Place). (x.0.0, q)) (end_places (items x.1)) (sorting.job_places (os (position x.0.0 flow.steps))) (each x.0 x.1 s f m))

  -- the jobs of all steps are those of all outcomes
  pub all-steps : IsPermutation (flat_map (λ (f : InstanceStep). flat_map (job_places f.step.step) (items f)) fs) (all_jobs flow os)
  all-steps =
      IsPermutation-trans _ _ _
      (perm-from _ _ (ap (flat_map (λ (f : InstanceStep). flat_map (job_places f.step.step) (items f))) (sym w.steps) ∙ flat_map-map (λ (f : InstanceStep). flat_map (job_places f.step.step) (items f)) (λ (x : Pair). x.1) w.pairs))
      (IsPermutation-trans _ _ _ (flat-permuted (λ (x : Pair). flat_map (job_places x.1.step.step) (items x.1)) of_pair w.pairs one-pair)
      (IsPermutation-trans _ _ _ (perm-from _ _ (sym (flat_map-map of_step (λ (x : Pair). x.0) w.pairs)))
      (IsPermutation-trans _ _ _ (flat-permutes of_step (map (λ (x : Pair). x.0) w.pairs) flow.steps w.names)
      (perm-from _ _
      (flat-same of_step (λ (s : Name × Step). jobs_of s.0 (os (0 + position s.0 flow.steps))) (λ s. ap (λ n. jobs_of s.0 (os n)) (from_zero (position s.0 flow.steps))) flow.steps
      ∙ sym (flat_map-map (λ (x : ℕ × (Name × Step)). jobs_of x.1.0 (os x.0)) (λ (s : Name × Step). (0 + position s.0 flow.steps, s)) flow.steps)
      ∙ ap (flat_map (λ (x : ℕ × (Name × Step)). jobs_of x.1.0 (os x.0))) (sym (numbered-by_position 0 flow.steps apart)))))))
    where
      from_zero : (n : ℕ) → n ≡ 0 + n
      from_zero n = omega arith
