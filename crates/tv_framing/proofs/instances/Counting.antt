-- Wholeness by events alone is wholeness.
use Rattle.std.specs.Prelude.{◌≡◌, refl, ℕ, zero, suc, ◌+◌, ◌<◌, ◌==◌, List, [], ◌∷◌, ◌++◌, Bool, true, false, ◌&&◌, ◌||◌, Option, Some, None, if◌then◌else◌}
use Rattle.std.specs.Option.{option_map_or}
use Rattle.std.specs.Cmp.Lexicographic.{bytes_decides}
use Rattle.std.proofs.Common.{arith, sym, ap, ap₂, subst, ◌∙◌}
use Rattle.std.proofs.lemmas.Bool.{and_parts}
use Rattle.std.proofs.lemmas.Option.{none-some, same_Some}
use Rattle.std.proofs.Math.Bool.{or-false}
use Rattle.tv_value.specs.Nested.{leaf, list, no_trees, tree, Place, at, count}
use Rattle.tv_value.specs.Orders.{same_name}
use Rattle.tv_value.specs.Values.{JobName, Name}
use Rattle.tv_strategy.specs.Origins.{Origin}
use Rattle.tv_strategy.specs.Iterations.{job, passed, Iteration, Iterations}
use Rattle.tv_strategy.specs.Levels.{HasLevels, AllHaveLevels}
use Rattle.tv_model.specs.instance.Steps.{spot}
use Rattle.tv_model.proofs.Sound.{AllStand, AllStandFrom, StandsAt, all-stand}
use Rattle.tv_model.specs.instance.Events as events
use Rattle.tv_model.proofs.Wholeness.{counted-whole}
use Rattle.tv_model.specs.instance.ByResults.{InstanceStep}
use Rattle.tv_model.specs.instance.Counting.{count_whole, whole_by}
use Rattle.tv_model.specs.instance.Events.{Event, Events, closed_with, event_place, event_step, fault_set, gave, has_fault, has_level, is_spot, known_by, took}
use Rattle.tv_model.specs.instance.Fitting.{FitStep, FitsNode}
use Rattle.tv_model.specs.instance.Wholeness.{all_whole, is_whole, one_if, whole_items}
use Rattle.tv_framing.proofs.instances.Events.{level-known, result-known}

-- ---- lists that were closed, and faults that were set

-- a node that wasn't closed has an entry where its fault was set
unclosed-level : (es : Events) (s : Name) (q : Place) → closed_with es s q ≡ None → has_level es s q ≡ has_fault es s q
unclosed-level [] s q h = refl
unclosed-level (gave t r vs ∷ es) s q h = unclosed-level es s q h
unclosed-level (took t r ∷ es) s q h = unclosed-level es s q h
unclosed-level (fault_set t r e ∷ es) s q h = ap (λ b. is_spot s q t r || b) (unclosed-level es s q h)
unclosed-level (events.closed t r n ∷ es) s q h = by (is_spot s q t r) refl h (λ k. unclosed-level es s q k)
  where
    by : (b : Bool) → is_spot s q t r ≡ b → (if b then Some n else closed_with es s q) ≡ None → (closed_with es s q ≡ None → has_level es s q ≡ has_fault es s q) → (b || has_level es s q) ≡ has_fault es s q
    by true e k rec = absurd (none-some n (sym k))
    by false e k rec = rec k

closed-level : (es : Events) (s : Name) (q : Place) (n : ℕ) → closed_with es s q ≡ Some n → has_level es s q ≡ true
closed-level [] s q n h = absurd (none-some n h)
closed-level (gave t r vs ∷ es) s q n h = closed-level es s q n h
closed-level (took t r ∷ es) s q n h = closed-level es s q n h
closed-level (fault_set t r e ∷ es) s q n h = by (is_spot s q t r) (closed-level es s q n h)
  where
    by : (b : Bool) → has_level es s q ≡ true → (b || has_level es s q) ≡ true
    by true k = refl
    by false k = k
closed-level (events.closed t r m ∷ es) s q n h = by (is_spot s q t r) h (λ k. closed-level es s q n k)
  where
    by : (b : Bool) → (if b then Some m else closed_with es s q) ≡ Some n → (closed_with es s q ≡ Some n → has_level es s q ≡ true) → (b || has_level es s q) ≡ true
    by true k rec = refl
    by false k rec = rec k

module _ (f : InstanceStep) where
  abbrev s : Name
  s = f.step.step

  abbrev it : Iteration
  it = f.step.iteration

  -- an event of this step at q fits what stands at q
  fits-here : (e : Event) (t : Name) (r q : Place) → event_step e ≡ t → event_place e ≡ r → (same_name s (event_step e) ≡ true → FitsNode e (at it (event_place e))) → is_spot s q t r ≡ true → FitsNode e (at it q)
  fits-here e t r q a b h k =
      subst (λ x. FitsNode e (at it x)) (b ∙ sym ((bytes_decides q r).0 ((and_parts (same_name s t) (same_name q r) k).1))) (h (ap (same_name s) a ∙ (and_parts (same_name s t) (same_name q r) k).0))

  closed-fits : (es : Events) → FitStep f es → (q : Place) (n : ℕ) (r : List Origin) (ts : Iterations) → at it q ≡ Some (list r ts) → closed_with es s q ≡ Some n → count ts ≡ n
  closed-fits [] w q n r ts h k = absurd (none-some n k)
  closed-fits (gave t x vs ∷ es) w q n r ts h k = closed-fits es w.1 q n r ts h k
  closed-fits (took t x ∷ es) w q n r ts h k = closed-fits es w.1 q n r ts h k
  closed-fits (fault_set t x e ∷ es) w q n r ts h k = closed-fits es w.1 q n r ts h k
  closed-fits (events.closed t x m ∷ es) w q n r ts h k = by (is_spot s q t x) refl k (λ g. closed-fits es w.1 q n r ts h g)
    where
      by : (b : Bool) → is_spot s q t x ≡ b → (if b then Some m else closed_with es s q) ≡ Some n → (closed_with es s q ≡ Some n → count ts ≡ n) → count ts ≡ n
      by true e g rec = subst (FitsNode (events.closed t x m)) h (fits-here (events.closed t x m) t x q refl refl w.0 e) ∙ same_Some m n g
      by false e g rec = rec g

  leaf-unclosed : (es : Events) → FitStep f es → (q : Place) (u : Iteration) → at it q ≡ Some u → ((t : Name) (x : Place) (m : ℕ) → FitsNode (events.closed t x m) (Some u) → ⊥) → closed_with es s q ≡ None
  leaf-unclosed [] w q u h never = refl
  leaf-unclosed (gave t x vs ∷ es) w q u h never = leaf-unclosed es w.1 q u h never
  leaf-unclosed (took t x ∷ es) w q u h never = leaf-unclosed es w.1 q u h never
  leaf-unclosed (fault_set t x e ∷ es) w q u h never = leaf-unclosed es w.1 q u h never
  leaf-unclosed (events.closed t x m ∷ es) w q u h never = by (is_spot s q t x) refl (leaf-unclosed es w.1 q u h never)
    where
      by : (b : Bool) → is_spot s q t x ≡ b → closed_with es s q ≡ None → (if b then Some m else closed_with es s q) ≡ None
      by true e rec = absurd (never t x m (subst (FitsNode (events.closed t x m)) h (fits-here (events.closed t x m) t x q refl refl w.0 e)))
      by false e rec = rec

  list-no_fault : (es : Events) → FitStep f es → (q : Place) (r : List Origin) (ts : Iterations) → at it q ≡ Some (list r ts) → has_fault es s q ≡ false
  list-no_fault [] w q r ts h = refl
  list-no_fault (gave t x vs ∷ es) w q r ts h = list-no_fault es w.1 q r ts h
  list-no_fault (took t x ∷ es) w q r ts h = list-no_fault es w.1 q r ts h
  list-no_fault (events.closed t x m ∷ es) w q r ts h = list-no_fault es w.1 q r ts h
  list-no_fault (fault_set t x d ∷ es) w q r ts h = by (is_spot s q t x) refl (list-no_fault es w.1 q r ts h)
    where
      by : (b : Bool) → is_spot s q t x ≡ b → has_fault es s q ≡ false → (b || has_fault es s q) ≡ false
      by true e rec = absurd (subst (FitsNode (fault_set t x d)) h (fits-here (fault_set t x d) t x q refl refl w.0 e))
      by false e rec = rec

  module _ (instance : JobName) (es : Events) (w : FitStep f es) where
    of-passed : (q : Place) (o : Option ℕ) (g : ℕ → Bool) → closed_with es s q ≡ o → o ≡ None → has_level es s q ≡ (has_fault es s q || option_map_or g o false)
    of-passed q None g e n = unclosed-level es s q e ∙ sym (or-false (has_fault es s q))
    of-passed q (Some m) g e n = absurd (none-some m (sym n))

    of-list : (q : Place) (r : List Origin) (ts : Iterations) → at it q ≡ Some (list r ts) → (g : ℕ → Bool) (whole : Bool) → whole ≡ g (count ts) → (o : Option ℕ) → closed_with es s q ≡ o → (has_level es s q && whole) ≡ (has_fault es s q || option_map_or g o false)
    of-list q r ts h g whole i None e =
        ap (λ b. b && whole) (unclosed-level es s q e ∙ list-no_fault es w q r ts h) ∙ sym (ap (λ b. b || false) (list-no_fault es w q r ts h))
    of-list q r ts h g whole i (Some n) e =
        ap (λ b. b && whole) (closed-level es s q n e) ∙ i ∙ ap g (closed-fits es w q n r ts h e) ∙ sym (ap (λ b. b || g n) (list-no_fault es w q r ts h))

    mutual
      pub whole-by_events : (t : Iteration) (q : Place) (d : ℕ) → HasLevels t d → AllStand (StandsAt it) q t → is_whole (spot instance s) (known_by instance es) q t ≡ whole_by es s d q
      whole-by_events (leaf r (job b)) q zero l h = sym (result-known instance es s q)
      whole-by_events (leaf r (job b)) q (suc d) l h = absurd (none_left d l)
        where
          none_left : (n : ℕ) → suc n ≡ 0 → ⊥
          none_left n e = omega arith
      whole-by_events (leaf r (passed m e)) q zero l h = absurd (none_left l)
        where
          none_left : 0 < 0 → ⊥
          none_left k = omega arith
      whole-by_events (leaf r (passed m e)) q (suc d) l h =
          sym (level-known instance es s q) ∙ of-passed q (closed_with es s q) (λ n. count_whole (whole_by es s d) q 0 n == n) refl (leaf-unclosed es w q (leaf r (passed m e)) h (λ t x n k. k))
      whole-by_events (list r ts) q zero l h = absurd l
      whole-by_events (list r ts) q (suc d) l h =
          ap₂ (λ a b. a && b) (sym (level-known instance es s q)) refl
          ∙ of-list q r ts h.0 (λ n. count_whole (whole_by es s d) q 0 n == n) (all_whole (spot instance s) (known_by instance es) q 0 ts) (counted-whole (spot instance s) (known_by instance es) ts q 0 ∙ ap (λ n. n == count ts) (counts-by_events ts q 0 d l h.1)) (closed_with es s q) refl

      pub counts-by_events : (ts : Iterations) (q : Place) (i d : ℕ) → AllHaveLevels ts d → AllStandFrom (StandsAt it) q i ts → whole_items (spot instance s) (known_by instance es) q i ts ≡ count_whole (whole_by es s d) q i (count ts)
      counts-by_events no_trees q i d l h = refl
      counts-by_events (tree t ts) q i d l h = ap₂ (λ a b. one_if a + b) (whole-by_events t (q ++ i ∷ []) d l.0 h.0) (counts-by_events ts q (suc i) d l.1 h.1)

    -- THE COUNTERS: whole by events alone, for every step whose iteration has so many levels
    pub step-whole_by : (d : ℕ) → HasLevels it d → is_whole (spot instance s) (known_by instance es) [] it ≡ whole_by es s d []
    step-whole_by d l = whole-by_events it [] d l (all-stand it it [] refl)
