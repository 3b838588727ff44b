-- What an event makes known, and that the events of an instance say what the history says.
use Rattle.std.specs.List.{list_all}
use Rattle.std.specs.Prelude.{◌≡◌, refl, List, [], ◌∷◌, Bool, true, false, ◌&&◌, ◌||◌}
use Rattle.std.specs.Cmp.Lexicographic.{bytes_decides}
use Rattle.std.proofs.Common.{sym, ap, ap₂, ◌∙◌}
use Rattle.std.proofs.lemmas.Bool.{and_from, and_parts, true≢false}
use Rattle.std.specs.Cmp.Derive.{one_truth}
use Rattle.tv_lemmas.specs.Members.{Each}
use Rattle.tv_value.specs.Nested.{leaf, list, Place}
use Rattle.tv_value.specs.Values.{JobName, Name}
use Rattle.tv_value.specs.Orders.{same_job, same_name}
use Rattle.tv_value.proofs.JobNameLemmas.{same_job_decides}
use Rattle.tv_strategy.specs.Origins.{Known, Origin, at_start, by_job, by_level}
use Rattle.tv_strategy.specs.Iterations.{job, passed, Iteration}
use Rattle.tv_model.specs.instance.Steps.{spot}
use Rattle.tv_model.specs.Made.{Meaning}
use Rattle.tv_history.specs.Entries.{History}
use Rattle.tv_history.specs.Histories.{is_known, all_known, has_entry, is_settled_name}
use Rattle.tv_model.proofs.Sound.{spot-step}
use Rattle.tv_model.specs.instance.Endings.{IsOwn}
use Rattle.tv_model.specs.instance.Events.{Event, Events, closed, event_place, event_step, fault_set, gave, gives_at, has_level, has_result, is_known_by, is_of, is_spot, known_by, levels_at, took}
use Rattle.tv_model.specs.instance.Wholeness.{origin_at}
use Rattle.tv_framing.specs.instances.InHistory.{IsPartOf}

-- ---- one event more

module _ (instance : JobName) where
  abbrev pub hits : Event → Origin → Bool
  hits e o = is_of instance e o.known

  at-start-never : (e : Event) → is_of instance e at_start ≡ false
  at-start-never (gave s q vs) = refl
  at-start-never (closed s q n) = refl
  at-start-never (fault_set s q e) = refl
  at-start-never (took s q) = refl

  pub one-more : (e : Event) (es : Events) (o : Origin) → known_by instance (e ∷ es) o ≡ (hits e o || known_by instance es o)
  one-more e es o = by o.known
    where
      by : (k : Known) → is_known_by instance (e ∷ es) k ≡ (is_of instance e k || is_known_by instance es k)
      by at_start = sym (ap (λ b. b || true) (at-start-never e))
      by (by_job n) = refl
      by (by_level n) = refl

  -- an event is of one node of one step
  pub here : (t s : Name) (r q : Place) → same_job (spot instance t r) (spot instance s q) ≡ true → (t ≡ s) × (r ≡ q)
  here t s r q h = spot-step instance t s r q ((same_job_decides (spot instance t r) (spot instance s q)).0 h)

  pub own-spot : (e : Event) (t : Name) (r : Place) (u : Iteration) → hits e (origin_at (spot instance t) r u) ≡ true → (t ≡ event_step e) × (r ≡ event_place e)
  own-spot (gave s q vs) t r (leaf x (job b)) h = here t s r q h
  own-spot (gave s q vs) t r (leaf x (passed m e)) h = absurd (true≢false (sym h))
  own-spot (gave s q vs) t r (list x ts) h = absurd (true≢false (sym h))
  own-spot (closed s q n) t r (leaf x (job b)) h = absurd (true≢false (sym h))
  own-spot (closed s q n) t r (leaf x (passed m e)) h = here t s r q h
  own-spot (closed s q n) t r (list x ts) h = here t s r q h
  own-spot (fault_set s q d) t r (leaf x (job b)) h = absurd (true≢false (sym h))
  own-spot (fault_set s q d) t r (leaf x (passed m e)) h = here t s r q h
  own-spot (fault_set s q d) t r (list x ts) h = here t s r q h
  own-spot (took s q) t r (leaf x (job b)) h = absurd (true≢false (sym h))
  own-spot (took s q) t r (leaf x (passed m e)) h = absurd (true≢false (sym h))
  own-spot (took s q) t r (list x ts) h = absurd (true≢false (sym h))

  -- ---- spots by tests

  pub spot-test : (s t : Name) (q r : Place) → is_spot s q t r ≡ same_job (spot instance s q) (spot instance t r)
  spot-test s t q r =
      one_truth (is_spot s q t r) (same_job (spot instance s q) (spot instance t r))
      (λ h. (same_job_decides (spot instance s q) (spot instance t r)).1 (ap₂ (λ a b. spot instance a b) ((bytes_decides s t).0 ((and_parts (same_name s t) (same_name q r) h).0)) ((bytes_decides q r).0 ((and_parts (same_name s t) (same_name q r) h).1))))
      (λ h. let e = here s t q r h in and_from (same_name s t) (same_name q r) ((bytes_decides s t).1 e.0) ((bytes_decides q r).1 e.1))

  pub result-known : (es : Events) (s : Name) (q : Place) → has_result es s q ≡ is_known_by instance es (by_job (spot instance s q))
  result-known [] s q = refl
  result-known (e ∷ es) s q = ap₂ (λ a b. a || b) (one e) (result-known es s q)
    where
      one : (e : Event) → gives_at s q e ≡ is_of instance e (by_job (spot instance s q))
      one (gave t r vs) = spot-test s t q r
      one (closed t r n) = refl
      one (fault_set t r d) = refl
      one (took t r) = refl

  pub level-known : (es : Events) (s : Name) (q : Place) → has_level es s q ≡ is_known_by instance es (by_level (spot instance s q))
  level-known [] s q = refl
  level-known (e ∷ es) s q = ap₂ (λ a b. a || b) (one e) (level-known es s q)
    where
      one : (e : Event) → levels_at s q e ≡ is_of instance e (by_level (spot instance s q))
      one (gave t r vs) = refl
      one (closed t r n) = spot-test s t q r
      one (fault_set t r d) = spot-test s t q r
      one (took t r) = refl

  -- ---- the history says the same

  module _ (m : Meaning) (past : History) (es : Events) (part : IsPartOf m past instance es) where
    pub known-same : (k : Known) → IsOwn instance k → is_known m past k ≡ is_known_by instance es k
    known-same at_start h = refl
    known-same (by_job n) h = ap (is_settled_name m past) h.2 ∙ part.results h.0 h.1 ∙ result-known es h.0 h.1 ∙ ap (λ x. is_known_by instance es (by_job x)) (sym h.2)
    known-same (by_level n) h = ap (has_entry past) h.2 ∙ part.levels h.0 h.1 ∙ level-known es h.0 h.1 ∙ ap (λ x. is_known_by instance es (by_level x)) (sym h.2)

    pub all-same : (os : List Origin) → Each (λ o. IsOwn instance o.known) os → all_known m past os ≡ list_all (known_by instance es) os
    all-same [] h = refl
    all-same (o ∷ os) h = ap₂ (λ a b. a && b) (known-same o.known h.0) (all-same os h.1)
