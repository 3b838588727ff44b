-- Ready, can settle and can end, by the events of an instance.
use Rattle.std.specs.Prelude.{◌≡◌, refl, List, [], ◌∷◌, Bool, true, false, not, cond, ◌&&◌, map, filter, if◌then◌else◌}
use Rattle.std.specs.List.{list_all, list_any}
use Rattle.std.proofs.Common.{ap, ap₂, ◌∙◌}
use Rattle.tv_lemmas.specs.Members.{Each}
use Rattle.tv_value.specs.Nested.{Place}
use Rattle.tv_value.specs.Values.{JobName, Name}
use Rattle.tv_value.specs.Orders.{same_job}
use Rattle.tv_strategy.specs.Origins.{Origin}
use Rattle.tv_model.specs.instance.Delivered.{StepMeaning}
use Rattle.tv_model.specs.Jobs.{Job}
use Rattle.tv_model.specs.Levels.{Level}
use Rattle.tv_model.specs.Made.{Meaning}
use Rattle.tv_history.specs.Entries.{History, is_begun_entry}
use Rattle.tv_history.specs.Histories.{all_known, can_end, can_settle, has_entry, is_open, is_ready}
use Rattle.tv_model.specs.instance.ByResults.{InstanceStep, step_of}
use Rattle.tv_model.specs.instance.Endings.{IsOwn, have_ended}
use Rattle.tv_model.specs.instance.Events.{Events, has_result, is_taken, known_by}
use Rattle.tv_model.specs.instance.Readiness.{are_known, ends_by, ready_by, settles_by}
use Rattle.tv_model.proofs.Endings.{waits-by}
use Rattle.tv_framing.proofs.instances.Events.{all-same}
use Rattle.tv_framing.specs.instances.InHistory.{AreStepsOf, IsJobAt, IsLevelAt, IsPartOf}

module _ (m : Meaning) (past : History) (instance : JobName) (es : Events) where
  pub ready-by_events : IsPartOf m past instance es → is_open past instance ≡ true → (fs : List InstanceStep) (j : Job) (s : Name) (q : Place) (sources : List Origin) (after : List Name) → IsJobAt past instance es fs j s q sources after → is_ready m past j ≡ ready_by instance es fs after s q sources
  ready-by_events part now fs j s q sources after h =
      ap₂ (λ a b. a && b) (ap₂ (λ a b. a && b) (ap₂ (λ a b. a && b) (ap (is_open past) h.within ∙ now) (ap not (ap₂ (λ a b. a && not b) (ap (λ x. list_any (is_begun_entry x) past) h.name ∙ part.taken s q) h.settled))) (ap not h.settled)) (all-same instance m past es part j.waits h.own ∙ ap (are_known instance es) h.waits ∙ waits-by (known_by instance es) sources fs after)
      ∙ tests (is_taken es s q) (has_result es s q) (are_known instance es sources && have_ended (known_by instance es) fs after)
    where
      tests : (a b c : Bool) → (true && not (a && not b) && not b && c) ≡ (not a && not b && c)
      tests true true c = refl
      tests true false c = refl
      tests false true c = refl
      tests false false c = refl

  pub settling-by_events : IsPartOf m past instance es → is_open past instance ≡ true → (l : Level) (s : Name) (q : Place) → IsLevelAt instance l s q → can_settle m past l ≡ settles_by instance es s q l.sources
  settling-by_events part now l s q h =
      ap₂ (λ a b. a && b) (ap₂ (λ a b. a && b) (ap (is_open past) h.within ∙ now) (ap not (ap (has_entry past) h.name ∙ part.levels s q))) (all-same instance m past es part l.sources h.own)

  all-filtered : {A : Type 0} (p g : A → Bool) (xs : List A) → list_all (λ x. if p x then g x else true) xs ≡ list_all g (filter p xs)
  all-filtered p g [] = refl
  all-filtered {A = A} p g (x ∷ xs) = by (p x) (all-filtered p g xs)
    where
      by : (b : Bool) → list_all (λ x. if p x then g x else true) xs ≡ list_all g (filter p xs) → ((if b then g x else true) && list_all (λ x. if p x then g x else true) xs) ≡ list_all g (cond b (x ∷ filter p xs) (filter p xs))
      by true h = ap (λ c. g x && c) h
      by false h = h

  each-ending : IsPartOf m past instance es → (fs : List InstanceStep) → Each (λ f. Each (λ o. IsOwn instance o.known) f.step.ending) fs → list_all (λ (s : StepMeaning). all_known m past s.ending) (map step_of fs) ≡ ends_by instance es fs
  each-ending part [] own = refl
  each-ending part (f ∷ fs) own = ap₂ (λ a b. a && b) (all-same instance m past es part f.step.ending own.0) (each-ending part fs own.1)

  pub ending-by_events : IsPartOf m past instance es → is_open past instance ≡ true → (fs : List InstanceStep) → AreStepsOf m instance fs → can_end m past instance ≡ ends_by instance es fs
  ending-by_events part now fs h =
      ap₂ (λ a b. a && b) now (all-filtered (λ (s : StepMeaning). same_job instance s.instance) (λ s. all_known m past s.ending) m.steps ∙ ap (list_all (λ (s : StepMeaning). all_known m past s.ending)) h.steps ∙ each-ending part fs h.own)
