-- A legal event can change the trees of its step's outputs, and from which length on prefixes of its place turn whole.
use Rattle.std.specs.Prelude.{◌≡◌, refl, ℕ, zero, suc, ◌-◌, ◌<◌, ◌≤◌, Bool, true, false, ◌&&◌, ◌||◌, not, nat_le, if◌then◌else◌, List, [], ◌∷◌, ◌++◌, Option, Some, None, length, option_and_then, take, unwrap_or}
use Rattle.std.proofs.Common.{arith, sym, ap, ap₂, subst, ◌∙◌}
use Rattle.std.proofs.lemmas.Bool.{true≢false, or_parts}
use Rattle.std.proofs.lemmas.Option.{none-some, same_Some}
use Rattle.tv_value.specs.Nested.{Place, at, count, item_at, leaf, list, no_trees, tree}
use Rattle.tv_value.specs.Values.{ErrorDoc, Name, Value}
use Rattle.tv_strategy.specs.Iterations.{Iteration, Iterations, job, passed}
use Rattle.tv_strategy.specs.Levels.{AllHaveLevels, HasLevels}
use Rattle.tv_parts.specs.Partials.{Partial, wanting, item, growing, closed, known_at, part_count, whole}
use Rattle.tv_parts.specs.Changes.{CanArrive, CanClose, MayClose, is_place}
use Rattle.tv_parts.proofs.Changes.{arrive-there, close-there, there-arrive, there-close}
use Rattle.tv_model.specs.instance.ByResults.{InstanceStep}
use Rattle.tv_model.specs.instance.Counting.{whole_by}
use Rattle.tv_model.specs.instance.Events as events
use Rattle.tv_model.specs.instance.Events.{Event, Events, closed_with, event_place, event_step, fault_set, gave, has_fault, has_level, has_result, is_spot, is_telling, took}
use Rattle.tv_model.specs.instance.Fitting.{FitStep, FitsNode}
use Rattle.tv_model.specs.instance.Legality.{IsFresh}
use Rattle.tv_stream.specs.Trees.{least_whole}
use Rattle.tv_framing.specs.Arriving.{levels_below}
use Rattle.tv_framing.specs.PortTellings.{newly_by}
use Rattle.tv_framing.specs.engine.TurningTrees.{CanPut, HasRightLength}
use Rattle.tv_framing.proofs.engine.Changes.{known-append, least-from, whole-lower}
use Rattle.tv_framing.proofs.engine.Showing.{IsItemIf, IsListIf, Shows, StandsBy, place-open, told}
use Rattle.tv_framing.proofs.engine.Pieces.{ShowsFrom, so_far, so_far-shows, whole-counted}

-- ---- what stands at a place of an iteration

pub levels-at : (t : Iteration) (d : ℕ) → HasLevels t d → (x : Place) (u : Iteration) → at t x ≡ Some u → HasLevels u (levels_below d x)
levels-at t d l [] u e = subst (λ y. HasLevels y d) (same_Some t u e) l
levels-at (leaf s x) d l (i ∷ q) u e = absurd (none-some u e)
levels-at (list s ts) zero l (i ∷ q) u e = absurd l
levels-at (list s ts) (suc d) l (i ∷ q) u e = by (item_at ts i) refl e (λ y a b. levels-at y d a q u b)
  where
    item-has : (ts : Iterations) (j : ℕ) (y : Iteration) → AllHaveLevels ts d → item_at ts j ≡ Some y → HasLevels y d
    item-has no_trees j y h g = absurd (none-some y g)
    item-has (tree t ts) zero y h g = subst (λ z. HasLevels z d) (same_Some t y g) h.0
    item-has (tree t ts) (suc j) y h g = item-has ts j y h.1 g

    by : (o : Option Iteration) → item_at ts i ≡ o → option_and_then (λ (y : Iteration). at y q) o ≡ Some u → ((y : Iteration) → HasLevels y d → at y q ≡ Some u → HasLevels u (levels_below d q)) → HasLevels u (levels_below d q)
    by None f g rec = absurd (none-some u g)
    by (Some y) f g rec = rec y (item-has ts i y l f) g

place-short : (t : Iteration) (d : ℕ) → HasLevels t d → (x : Place) (u : Iteration) → at t x ≡ Some u → length x ≤ d
place-short t d l [] u e = omega arith
place-short (leaf s x) d l (i ∷ q) u e = absurd (none-some u e)
place-short (list s ts) zero l (i ∷ q) u e = absurd l
place-short (list s ts) (suc d) l (i ∷ q) u e = by (item_at ts i) refl e (λ y a b. place-short y d a q u b)
  where
    item-has : (ts : Iterations) (j : ℕ) (y : Iteration) → AllHaveLevels ts d → item_at ts j ≡ Some y → HasLevels y d
    item-has no_trees j y h g = absurd (none-some y g)
    item-has (tree t ts) zero y h g = subst (λ z. HasLevels z d) (same_Some t y g) h.0
    item-has (tree t ts) (suc j) y h g = item-has ts j y h.1 g

    up : (m n : ℕ) → m ≤ n → suc m ≤ suc n
    up m n h = omega arith

    by : (o : Option Iteration) → item_at ts i ≡ o → option_and_then (λ (y : Iteration). at y q) o ≡ Some u → ((y : Iteration) → HasLevels y d → at y q ≡ Some u → length q ≤ d) → suc (length q) ≤ suc d
    by None f g rec = absurd (none-some u g)
    by (Some y) f g rec = up (length q) d (rec y (item-has ts i y l f) g)

pub left-below : (d : ℕ) (q : Place) → levels_below d q ≡ d - length q
left-below d [] = omega arith
left-below zero (i ∷ q) = left-below zero q ∙ none (length q)
  where
    none : (n : ℕ) → 0 - n ≡ 0 - suc n
    none n = omega arith
left-below (suc d) (i ∷ q) = left-below d q ∙ same d (length q)
  where
    same : (m n : ℕ) → m - n ≡ suc m - suc n
    same m n = omega arith

-- what stands at a prefix
prefix-there : (t : Iteration) (r : Place) (u : Iteration) → at t r ≡ Some u → (n : ℕ) → (v : Iteration) × (at t (take n r) ≡ Some v)
prefix-there t r u e zero = (t, refl)
prefix-there t [] u e (suc n) = (t, refl)
prefix-there (leaf s x) (i ∷ r) u e (suc n) = absurd (none-some u e)
prefix-there (list s ts) (i ∷ r) u e (suc n) = by (item_at ts i) refl e (λ y g. prefix-there y r u g n)
  where
    by : (o : Option Iteration) → item_at ts i ≡ o → option_and_then (λ (y : Iteration). at y r) o ≡ Some u → ((y : Iteration) → at y r ≡ Some u → (v : Iteration) × (at y (take n r) ≡ Some v)) → (v : Iteration) × (option_and_then (λ (y : Iteration). at y (take n r)) (item_at ts i) ≡ Some v)
    by None f g rec = absurd (none-some u g)
    by (Some y) f g rec = let h = rec y g in (h.0, ap (option_and_then (λ (y : Iteration). at y (take n r))) f ∙ h.1)

at-further : (t : Iteration) (q x : Place) (u v : Iteration) → at t q ≡ Some u → at u x ≡ Some v → at t (q ++ x) ≡ Some v
at-further t [] x u v e g = subst (λ y. at y x ≡ Some v) (sym (same_Some t u e)) g
at-further (leaf s d) (i ∷ q) x u v e g = absurd (none-some u e)
at-further (list s ts) (i ∷ q) x u v e g = by (item_at ts i) refl e (λ y h. at-further y q x u v h g)
  where
    by : (o : Option Iteration) → item_at ts i ≡ o → option_and_then (λ (y : Iteration). at y q) o ≡ Some u → ((y : Iteration) → at y q ≡ Some u → at y (q ++ x) ≡ Some v) → option_and_then (λ (y : Iteration). at y (q ++ x)) (item_at ts i) ≡ Some v
    by None f h rec = absurd (none-some u h)
    by (Some y) f h rec = ap (option_and_then (λ (y : Iteration). at y (q ++ x))) f ∙ rec y h

-- ---- what wasn't told

no-fault : (es : Events) (s : Name) (q : Place) → has_level es s q ≡ false → has_fault es s q ≡ false
no-fault [] s q h = refl
no-fault (gave n x vs ∷ es) s q h = no-fault es s q h
no-fault (took n x ∷ es) s q h = no-fault es s q h
no-fault (events.closed n x l ∷ es) s q h = no-fault es s q ((or_parts (is_spot s q n x) (has_level es s q) h).1)
no-fault (fault_set n x d ∷ es) s q h = let g = or_parts (is_spot s q n x) (has_level es s q) h in ap₂ (λ a b. a || b) g.0 (no-fault es s q g.1)

unclosed : (es : Events) (s : Name) (q : Place) → has_level es s q ≡ false → closed_with es s q ≡ None
unclosed [] s q h = refl
unclosed (gave n x vs ∷ es) s q h = unclosed es s q h
unclosed (took n x ∷ es) s q h = unclosed es s q h
unclosed (fault_set n x d ∷ es) s q h = unclosed es s q ((or_parts (is_spot s q n x) (has_level es s q) h).1)
unclosed (events.closed n x l ∷ es) s q h =
    let g = or_parts (is_spot s q n x) (has_level es s q) h in ap (λ b. if b then Some l else closed_with es s q) g.0 ∙ unclosed es s q g.1

no-item : {A : Type 0} (b : Bool) (p : Partial A) → b ≡ false → IsItemIf b p → p ≡ wanting
no-item true p e h = absurd (true≢false e)
no-item false wanting e h = refl
no-item false (item v) e h = absurd h
no-item false (growing ps) e h = absurd h
no-item false (closed ps) e h = absurd h

may-close : {A : Type 0} (o : Option ℕ) (c n : ℕ) (p : Partial A) → o ≡ None → c ≡ n → IsListIf o c p → MayClose n p
may-close (Some m) c n p e g h = absurd (none-some m (sym e))
may-close None c n wanting e g h = tt
may-close None c n (item v) e g h = absurd h
may-close None c n (growing ps) e g h = subst (λ z. part_count ps ≤ z) g h
may-close None c n (closed ps) e g h = absurd h

not-whole : {A : Type 0} (n : ℕ) (p : Partial A) → MayClose n p → whole p ≡ false
not-whole n wanting h = refl
not-whole n (item v) h = absurd h
not-whole n (growing ps) h = refl
not-whole n (closed ps) h = absurd h

-- ---- whole by counting events

module _ (f : InstanceStep) (k levels declared : ℕ) (es : Events) (fit : FitStep f es) (leveled : HasLevels f.step.iteration levels) where
  pub whole-there : (x : Place) (u : Iteration) → at f.step.iteration x ≡ Some u → whole (known_at x (so_far f k levels declared es)) ≡ whole_by es f.step.step (levels_below levels x) x
  whole-there x u e =
      whole-counted es f.step.step u x (levels_below levels x) (known_at x (so_far f k levels declared es)) (levels-at f.step.iteration levels leveled x u e)
      (λ y v g. subst (λ p. StandsBy (told es f.step.step) (x ++ y) v p) (known-append x y (so_far f k levels declared es)) (so_far-shows f k levels declared es fit (x ++ y) v (at-further f.step.iteration x y u v e g)))

-- ---- one event of the step

module _ (f : InstanceStep) (k levels declared : ℕ) (es : Events) (fit : FitStep f es) (leveled : HasLevels f.step.iteration levels) where
  abbrev s : Name
  s = f.step.step

  abbrev t : Iteration
  t = f.step.iteration

  shown : Shows (told es s) t (so_far f k levels declared es)
  shown = so_far-shows f k levels declared es fit

  -- the event fits its node, of which nothing was told
  pub can-change : (e : Event) → event_step e ≡ s → FitsNode e (at t (event_place e)) → IsFresh es e → CanPut e (so_far f k levels declared es)
  can-change (gave n q vs) own fits fresh = by (at t q) refl fits
    where
      by : (o : Option Iteration) → at t q ≡ o → FitsNode (gave n q vs) o → CanArrive q (so_far f k levels declared es)
      by None h g = absurd g
      by (Some (leaf r (job b))) h g =
          there-arrive q (so_far f k levels declared es) (place-open (told es s) t (so_far f k levels declared es) shown q (leaf r (job b)) h)
          (no-item (has_result es s q) (known_at q (so_far f k levels declared es)) (subst (λ x. has_result es x q ≡ false) own fresh) (shown q (leaf r (job b)) h))
      by (Some (leaf r (passed m d))) h g = absurd g
      by (Some (list r ts)) h g = absurd g
  can-change (fault_set n q x) own fits fresh = by (at t q) refl fits
    where
      by : (o : Option Iteration) → at t q ≡ o → FitsNode (fault_set n q x) o → CanArrive q (so_far f k levels declared es)
      by None h g = absurd g
      by (Some (leaf r (job b))) h g = absurd g
      by (Some (leaf r (passed m d))) h g =
          there-arrive q (so_far f k levels declared es) (place-open (told es s) t (so_far f k levels declared es) shown q (leaf r (passed m d)) h)
          (no-item (has_fault es s q) (known_at q (so_far f k levels declared es)) (no-fault es s q (subst (λ x. has_level es x q ≡ false) own fresh)) ((shown q (leaf r (passed m d)) h).0))
      by (Some (list r ts)) h g = absurd g
  can-change (events.closed n q l) own fits fresh = by (at t q) refl fits
    where
      by : (o : Option Iteration) → at t q ≡ o → FitsNode (events.closed n q l) o → CanClose q l (so_far f k levels declared es)
      by None h g = absurd g
      by (Some (leaf r x)) h g = absurd g
      by (Some (list r ts)) h g =
          there-close q l (so_far f k levels declared es) (place-open (told es s) t (so_far f k levels declared es) shown q (list r ts) h)
          (may-close (closed_with es s q) (count ts) l (known_at q (so_far f k levels declared es)) (unclosed es s q (subst (λ x. has_level es x q ≡ false) own fresh)) g ((shown q (list r ts) h).0))
  can-change (took n q) own fits fresh = tt

  -- a job stands below as many lists as the iteration has levels, a list and a fault below fewer
  pub right-length : (e : Event) → FitsNode e (at t (event_place e)) → HasRightLength levels e
  right-length (gave n q vs) fits = by (at t q) refl fits
    where
      by : (o : Option Iteration) → at t q ≡ o → FitsNode (gave n q vs) o → length q ≡ levels
      by None h g = absurd g
      by (Some (leaf r (job b))) h g = both (length q) (place-short t levels leveled q (leaf r (job b)) h) (sym (left-below levels q) ∙ levels-at t levels leveled q (leaf r (job b)) h)
        where
          both : (n : ℕ) → n ≤ levels → levels - n ≡ 0 → n ≡ levels
          both n a b = omega arith
      by (Some (leaf r (passed m d))) h g = absurd g
      by (Some (list r ts)) h g = absurd g
  right-length (took n q) fits = by (at t q) refl fits
    where
      by : (o : Option Iteration) → at t q ≡ o → FitsNode (took n q) o → length q ≡ levels
      by None h g = absurd g
      by (Some (leaf r (job b))) h g = both (length q) (place-short t levels leveled q (leaf r (job b)) h) (sym (left-below levels q) ∙ levels-at t levels leveled q (leaf r (job b)) h)
        where
          both : (n : ℕ) → n ≤ levels → levels - n ≡ 0 → n ≡ levels
          both n a b = omega arith
      by (Some (leaf r (passed m d))) h g = absurd g
      by (Some (list r ts)) h g = absurd g
  right-length (fault_set n q x) fits = by (at t q) refl fits
    where
      by : (o : Option Iteration) → at t q ≡ o → FitsNode (fault_set n q x) o → length q < levels
      by None h g = absurd g
      by (Some (leaf r (job b))) h g = absurd g
      by (Some (leaf r (passed m d))) h g = fewer (length q) (subst (λ z. 0 < z) (left-below levels q) (levels-at t levels leveled q (leaf r (passed m d)) h))
        where
          fewer : (n : ℕ) → 0 < levels - n → n < levels
          fewer n a = omega arith
      by (Some (list r ts)) h g = absurd g
  right-length (events.closed n q l) fits = by (at t q) refl fits
    where
      by : (o : Option Iteration) → at t q ≡ o → FitsNode (events.closed n q l) o → length q < levels
      by None h g = absurd g
      by (Some (leaf r x)) h g = absurd g
      by (Some (list r ts)) h g = left (levels_below levels q) (left-below levels q) (levels-at t levels leveled q (list r ts) h)
        where
          fewer : (d n : ℕ) → suc d ≡ levels - n → n < levels
          fewer d n a = omega arith

          left : (d : ℕ) → d ≡ levels - length q → HasLevels (list r ts) d → length q < levels
          left zero a b = absurd b
          left (suc d) a b = fewer d (length q) a

  unwhole : (e : Event) → is_telling e ≡ true → (p : Partial Value) → CanPut e p → whole (known_at (event_place e) p) ≡ false
  unwhole (gave n q vs) h p c = ap whole ((arrive-there q p c).1)
  unwhole (fault_set n q d) h p c = ap whole ((arrive-there q p c).1)
  unwhole (events.closed n q l) h p c = not-whole l (known_at q p) ((close-there q l p c).1)
  unwhole (took n q) h p c = absurd (true≢false (sym h))

  module _ (e : Event) (tells : is_telling e ≡ true) (own : event_step e ≡ s) (fits : FitsNode e (at t (event_place e))) (fresh : IsFresh es e) where
    abbrev r : Place
    r = event_place e

    node : (u : Iteration) × (at t r ≡ Some u)
    node = by (at t r) refl fits
      where
        by : (o : Option Iteration) → at t r ≡ o → FitsNode e o → (u : Iteration) × (at t r ≡ Some u)
        by None h g = absurd g
        by (Some u) h g = (u, h)

    before : (n : ℕ) → n ≤ length r → whole (known_at (take n r) (so_far f k levels declared es)) ≡ false
    before n l = by (whole (known_at (take n r) (so_far f k levels declared es))) refl
      where
        reached : (u : Iteration) → at t r ≡ Some u → is_place r (so_far f k levels declared es) ≡ true
        reached u g = place-open (told es s) t (so_far f k levels declared es) shown r u g

        by : (b : Bool) → whole (known_at (take n r) (so_far f k levels declared es)) ≡ b → whole (known_at (take n r) (so_far f k levels declared es)) ≡ false
        by false g = g
        by true g =
            absurd (true≢false (sym (whole-lower r (so_far f k levels declared es) (reached node.0 node.1) n l g) ∙ unwhole e tells (so_far f k levels declared es) (can-change e own fits fresh)))

    fit_after : FitStep f (e ∷ es)
    fit_after = (λ _. fits, fit)

    all-true : (b : Bool) → (b && not false) ≡ b
    all-true true = refl
    all-true false = refl

    -- THE LENGTH FROM WHICH ON PREFIXES TURN WHOLE, by any output's tree
    pub turns-from : (n : ℕ) → n ≤ length r → newly_by es e s levels (take n r) ≡ nat_le (unwrap_or (least_whole r (so_far f k levels declared (e ∷ es))) (suc (length r))) n
    turns-from n l =
        let there = prefix-there t r node.0 node.1 n in
        let x = take n r in
        ap₂ (λ a b. a && not b)
        (sym (whole-there f k levels declared (e ∷ es) fit_after leveled x there.0 there.1)
        ∙ least-from r (so_far f k levels declared (e ∷ es)) (place-open (told (e ∷ es) s) t (so_far f k levels declared (e ∷ es)) (so_far-shows f k levels declared (e ∷ es) fit_after) r node.0 node.1) n l)
        (sym (whole-there f k levels declared es fit leveled x there.0 there.1) ∙ before n l)
        ∙ all-true (nat_le (unwrap_or (least_whole r (so_far f k levels declared (e ∷ es))) (suc (length r))) n)
