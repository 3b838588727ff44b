-- What legal events give: they fit their steps, they make known what wasn't, and some results have all that was told.
use Rattle.std.specs.Prelude.{◌≡◌, refl, List, [], ◌∷◌, Bool, true, false, ◌||◌, Some, find, option_and_then, if◌then◌else◌}
use Rattle.std.specs.Cmp.Lexicographic.{bytes_decides}
use Rattle.std.proofs.Common.{sym, ap, subst, ◌∙◌}
use Rattle.std.proofs.lemmas.Bool.{and_parts, true≢false}
use Rattle.std.proofs.lemmas.Bool.{and_from, cond-true, or_right}
use Rattle.tv_value.specs.Nested.{Place, at, leaf, list}
use Rattle.tv_value.specs.Orders.{same_job, same_name}
use Rattle.tv_value.specs.Values.{JobName, Name}
use Rattle.tv_value.proofs.JobNameLemmas.{same_job_decides}
use Rattle.tv_strategy.specs.Iterations.{Iteration, job, passed}
use Rattle.tv_model.specs.instance.Steps.{spot}
use Rattle.tv_model.specs.instance.Events as events
use Rattle.tv_model.specs.instance.ByResults.{InstanceStep, Results}
use Rattle.tv_model.specs.instance.Events.{Event, Events, Extends, event_place, event_step, fault_set, gave, has_result, is_spot, is_telling, known_by, took}
use Rattle.tv_model.specs.instance.Fitting.{FitStep, FitsNode}
use Rattle.tv_model.specs.instance.Legality.{AreLegal, IsFresh, node_of}
use Rattle.tv_model.specs.instance.Wholeness.{origin_at}
use Rattle.tv_framing.specs.instances.InHistory.{Finds}
use Rattle.tv_framing.proofs.instances.Events.{hits, level-known, result-known}

-- ---- legal events fit

module _ (instance : JobName) (fs : List InstanceStep) (f : InstanceStep) (self : Finds fs f) where
  pub node-here : (e : Event) → same_name f.step.step (event_step e) ≡ true → node_of fs e ≡ at f.step.iteration (event_place e)
  node-here e h =
      ap (λ n. option_and_then (λ (g : InstanceStep). at g.step.iteration (event_place e)) (find (λ (g : InstanceStep). same_name n g.step.step) fs)) (sym ((bytes_decides f.step.step (event_step e)).0 h))
      ∙ ap (λ o. option_and_then (λ (g : InstanceStep). at g.step.iteration (event_place e)) o) self

  pub legal-fit : (es : Events) → AreLegal instance fs es → FitStep f es
  legal-fit [] h = tt
  legal-fit (e ∷ es) h = (λ s. subst (FitsNode e) (node-here e s) h.0.fits, legal-fit es h.1)

-- ---- an event makes its node known, which wasn't before

module _ (instance : JobName) where
  own-name : (s : Name) (q : Place) → same_job (spot instance s q) (spot instance s q) ≡ true
  own-name s q = (same_job_decides (spot instance s q) (spot instance s q)).1 refl

  pub telling-hits : (e : Event) (u : Iteration) → is_telling e ≡ true → FitsNode e (Some u) → hits instance e (origin_at (spot instance (event_step e)) (event_place e) u) ≡ true
  telling-hits (gave s q vs) (leaf r (job b)) t h = own-name s q
  telling-hits (gave s q vs) (leaf r (passed m d)) t h = absurd h
  telling-hits (gave s q vs) (list r ts) t h = absurd h
  telling-hits (events.closed s q n) (leaf r x) t h = absurd h
  telling-hits (events.closed s q n) (list r ts) t h = own-name s q
  telling-hits (fault_set s q e) (leaf r (job b)) t h = absurd h
  telling-hits (fault_set s q e) (leaf r (passed m d)) t h = own-name s q
  telling-hits (fault_set s q e) (list r ts) t h = absurd h
  telling-hits (took s q) u t h = absurd (true≢false (sym t))

  pub fresh-unknown : (es : Events) (e : Event) (u : Iteration) → is_telling e ≡ true → FitsNode e (Some u) → IsFresh es e → known_by instance es (origin_at (spot instance (event_step e)) (event_place e) u) ≡ false
  fresh-unknown es (gave s q vs) (leaf r (job b)) t h k = sym (result-known instance es s q) ∙ k
  fresh-unknown es (gave s q vs) (leaf r (passed m d)) t h k = absurd h
  fresh-unknown es (gave s q vs) (list r ts) t h k = absurd h
  fresh-unknown es (events.closed s q n) (leaf r x) t h k = absurd h
  fresh-unknown es (events.closed s q n) (list r ts) t h k = sym (level-known instance es s q) ∙ k
  fresh-unknown es (fault_set s q e) (leaf r (job b)) t h k = absurd h
  fresh-unknown es (fault_set s q e) (leaf r (passed m d)) t h k = sym (level-known instance es s q) ∙ k
  fresh-unknown es (fault_set s q e) (list r ts) t h k = absurd h
  fresh-unknown es (took s q) u t h k = absurd (true≢false (sym t))

-- ---- some results have all that was told

-- the result that was told of a job, or that of `others`
abbrev pub told_results : Results → Events → Results
told_results others [] s q = others s q
told_results others (gave t r vs ∷ es) s q = if is_spot s q t r then vs else told_results others es s q
told_results others (events.closed t r n ∷ es) s q = told_results others es s q
told_results others (fault_set t r e ∷ es) s q = told_results others es s q
told_results others (took t r ∷ es) s q = told_results others es s q

-- each job gave once
abbrev pub GaveOnce : Events → Type 0
GaveOnce [] = Unit {0}
GaveOnce (gave s q vs ∷ es) = (has_result es s q ≡ false) × GaveOnce es
GaveOnce (events.closed s q n ∷ es) = GaveOnce es
GaveOnce (fault_set s q e ∷ es) = GaveOnce es
GaveOnce (took s q ∷ es) = GaveOnce es

spot-self : (s : Name) (q : Place) → is_spot s q s q ≡ true
spot-self s q = and_from (same_name s s) (same_name q q) ((bytes_decides s s).1 refl) ((bytes_decides q q).1 refl)

-- other results that agree where a job gave extend too
extends-same : (one two : Results) (es : Events) → ((s : Name) (q : Place) → has_result es s q ≡ true → one s q ≡ two s q) → Extends one es → Extends two es
extends-same one two [] f h = tt
extends-same one two (gave s q vs ∷ es) f h =
    (sym (f s q (ap (λ b. b || has_result es s q) (spot-self s q))) ∙ h.0, extends-same one two es (λ t r k. f t r (or_right (is_spot t r s q) (has_result es t r) k)) h.1)
extends-same one two (events.closed s q n ∷ es) f h = extends-same one two es f h
extends-same one two (fault_set s q e ∷ es) f h = extends-same one two es f h
extends-same one two (took s q ∷ es) f h = extends-same one two es f h

-- so 'for every results that extend' is never empty
pub told-extends : (others : Results) (es : Events) → GaveOnce es → Extends (told_results others es) es
told-extends others [] h = tt
told-extends others (gave s q vs ∷ es) h = (cond-true (is_spot s q s q) vs (told_results others es s q) (spot-self s q), extends-same (told_results others es) (told_results others (gave s q vs ∷ es)) es same (told-extends others es h.1))
  where
    same : (t : Name) (r : Place) → has_result es t r ≡ true → told_results others es t r ≡ (if is_spot t r s q then vs else told_results others es t r)
    same t r k = by (is_spot t r s q) refl
      where
        at-spot : is_spot t r s q ≡ true → has_result es s q ≡ true
        at-spot e = subst (λ x. has_result es x q ≡ true) ((bytes_decides t s).0 ((and_parts (same_name t s) (same_name r q) e).0)) (subst (λ y. has_result es t y ≡ true) ((bytes_decides r q).0 ((and_parts (same_name t s) (same_name r q) e).1)) k)

        by : (b : Bool) → is_spot t r s q ≡ b → told_results others es t r ≡ (if b then vs else told_results others es t r)
        by true e = absurd (true≢false (sym (at-spot e) ∙ h.0))
        by false e = refl
told-extends others (events.closed s q n ∷ es) h = told-extends others es h
told-extends others (fault_set s q e ∷ es) h = told-extends others es h
told-extends others (took s q ∷ es) h = told-extends others es h
