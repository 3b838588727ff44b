-- The partial trees of a step's outputs show what its events told, and are whole where counting events says so.
use Rattle.std.specs.Cmp.Lexicographic.{bytes_decides}
use Rattle.std.specs.Option.{option_map_or}
use Rattle.std.specs.Prelude.{◌≡◌, refl, ℕ, zero, suc, ◌+◌, ◌<◌, ◌≤◌, ◌==◌, Bool, true, false, ◌&&◌, ◌||◌, if◌then◌else◌, List, [], ◌∷◌, ◌++◌, Option, Some, None, option_and_then, slice_get, unwrap_or}
use Rattle.std.proofs.Common.{inl, inr, arith, sym, ap, ap₂, subst, ◌∙◌, append_assoc, append-nil}
use Rattle.std.proofs.lemmas.Bool.{true≢false}
use Rattle.std.proofs.lemmas.Option.{none-some, same_Some}
use Rattle.std.proofs.Math.Bool.{or-false}
use Rattle.tv_lemmas.proofs.Numbers.{is-zero_plus}
use Rattle.tv_value.specs.Nested.{Place, at, count, item_at, leaf, list, no_trees, tree}
use Rattle.tv_value.specs.Orders.{same_name}
use Rattle.tv_value.specs.Values.{ErrorDoc, Name, Value, fault_value}
use Rattle.tv_strategy.specs.Iterations.{Iteration, Iterations, job, passed}
use Rattle.tv_strategy.specs.Levels.{AllHaveLevels, HasLevels}
use Rattle.tv_strategy.specs.Origins.{Origin}
use Rattle.tv_parts.specs.Partials as parts
use Rattle.tv_parts.specs.Partials.{Partial, wanting, item, growing, closed, Parts, no_parts, part, all_whole, known_at, part_at, part_count, part_of, whole, whole_count}
use Rattle.tv_parts.specs.Changes.{arrive, close_at, close_here}
use Rattle.tv_parts.proofs.Wholeness.{whole-counts}
use Rattle.tv_model.specs.instance.ByResults.{InstanceStep}
use Rattle.tv_model.specs.instance.Counting.{count_whole, whole_by}
use Rattle.tv_model.specs.instance.Events as events
use Rattle.tv_model.specs.instance.Events.{Event, Events, closed_with, fault_set, gave, has_fault, has_result, is_spot, took}
use Rattle.tv_model.specs.instance.Fitting.{FitStep, FitsNode}
use Rattle.tv_model.specs.instance.Wholeness.{one_if}
use Rattle.tv_framing.specs.Arriving.{levels_below, part_so_far}
use Rattle.tv_framing.proofs.engine.Changes.{arrive-changes, change_at, close-changes, close-inside, count-filled, known-append, known-wanting}
use Rattle.tv_framing.proofs.engine.Showing.{AreSameAt, DifferAt, IsItemIf, IsListIf, Shows, StandsAs, StandsBy, Tests, change-shows, stands-same, told}

same-spot : (s t : Name) (x q : Place) → same_name s t ≡ true → is_spot s x t q ≡ same_name x q
same-spot s t x q e = ap (λ b. b && same_name x q) e

other-spot : (s t : Name) (x q : Place) → same_name s t ≡ false → is_spot s x t q ≡ false
other-spot s t x q e = ap (λ b. b && same_name x q) e

not-same : (x q : Place) → (x ≡ q → ⊥) → same_name x q ≡ false
not-same x q n = by (same_name x q) refl
  where
    by : (b : Bool) → same_name x q ≡ b → same_name x q ≡ false
    by true e = absurd (n ((bytes_decides x q).0 e))
    by false e = e

self-same : (q : Place) → same_name q q ≡ true
self-same q = (bytes_decides q q).1 refl

module _ (f : InstanceStep) (k levels declared : ℕ) where
  abbrev s : Name
  s = f.step.step

  abbrev t : Iteration
  t = f.step.iteration

  abbrev pub so_far : Events → Partial Value
  so_far es = part_so_far f.step.step k levels declared es

  abbrev pub ShowsAll : Events → Partial Value → Type 0
  ShowsAll es p = Shows (told es f.step.step) f.step.iteration p

  start-shows : ShowsAll [] wanting
  start-shows x u e = subst (λ p. StandsAs false false None u p) (sym (known-wanting x)) (by u)
    where
      by : (u : Iteration) → StandsAs {A = Value} false false None u wanting
      by (leaf r (job b)) = tt
      by (leaf r (passed m d)) = (tt, refl)
      by (list r ts) = (tt, refl)

  after-gave : (b : Bool) (n : Name) (q : Place) (vs : List Value) (es : Events) → same_name s n ≡ b → FitStep f (gave n q vs ∷ es) → ShowsAll es (so_far es) → ShowsAll (gave n q vs ∷ es) (if b then arrive q (unwrap_or (slice_get vs k) (list tt no_trees)) (so_far es) else so_far es)
  after-gave false n q vs es e fit shows = λ x u g.
      stands-same (told es s) (told (gave n q vs ∷ es) s) x u (known_at x (so_far es)) (sym (ap (λ b. b || has_result es s x) (other-spot s n x q e)), refl, refl) (shows x u g)
  after-gave true n q vs es e fit shows = subst (ShowsAll (gave n q vs ∷ es)) (sym (arrive-changes q w (so_far es))) (arrives (at t q) refl (fit.0 e))
    where
      w : Value
      w = unwrap_or (slice_get vs k) (list tt no_trees)

      now : has_result (gave n q vs ∷ es) s q ≡ true
      now = ap (λ b. b || has_result es s q) (same-spot s n q q e ∙ self-same q)

      differ : DifferAt q (told es s) (told (gave n q vs ∷ es) s)
      differ x m = (sym (ap (λ b. b || has_result es s x) (same-spot s n x q e ∙ not-same x q m)), refl, refl)

      arrives : (o : Option Iteration) → at t q ≡ o → FitsNode (gave n q vs) o → ShowsAll (gave n q vs ∷ es) (change_at q (λ _. item w) (so_far es))
      arrives None h g = absurd g
      arrives (Some (leaf r (job b))) h g =
          change-shows q (λ _. item w) (told es s) (told (gave n q vs ∷ es) s) t (leaf r (job b)) (so_far es) shows h (subst (λ z. IsItemIf z (item w)) (sym now) tt) (inr (λ i. refl)) differ
      arrives (Some (leaf r (passed m d))) h g = absurd g
      arrives (Some (list r ts)) h g = absurd g

  after-fault : (b : Bool) (n : Name) (q : Place) (d : ErrorDoc) (es : Events) → same_name s n ≡ b → FitStep f (fault_set n q d ∷ es) → ShowsAll es (so_far es) → ShowsAll (fault_set n q d ∷ es) (if b then arrive q (fault_value (record d { depth = levels_below levels q + declared })) (so_far es) else so_far es)
  after-fault false n q d es e fit shows = λ x u g.
      stands-same (told es s) (told (fault_set n q d ∷ es) s) x u (known_at x (so_far es)) (refl, sym (ap (λ b. b || has_fault es s x) (other-spot s n x q e)), refl) (shows x u g)
  after-fault true n q d es e fit shows = subst (ShowsAll (fault_set n q d ∷ es)) (sym (arrive-changes q w (so_far es))) (arrives (at t q) refl (fit.0 e))
    where
      w : Value
      w = fault_value (record d { depth = levels_below levels q + declared })

      now : has_fault (fault_set n q d ∷ es) s q ≡ true
      now = ap (λ b. b || has_fault es s q) (same-spot s n q q e ∙ self-same q)

      differ : DifferAt q (told es s) (told (fault_set n q d ∷ es) s)
      differ x m = (refl, sym (ap (λ b. b || has_fault es s x) (same-spot s n x q e ∙ not-same x q m)), refl)

      arrives : (o : Option Iteration) → at t q ≡ o → FitsNode (fault_set n q d) o → ShowsAll (fault_set n q d ∷ es) (change_at q (λ _. item w) (so_far es))
      arrives None h g = absurd g
      arrives (Some (leaf r (job b))) h g = absurd g
      arrives (Some (leaf r (passed m x))) h g =
          change-shows q (λ _. item w) (told es s) (told (fault_set n q d ∷ es) s) t (leaf r (passed m x)) (so_far es) shows h (subst (λ z. IsItemIf z (item w)) (sym now) tt, (shows q (leaf r (passed m x)) h).1) (inr (λ i. refl)) differ
      arrives (Some (list r ts)) h g = absurd g

  closes-here : (o : Option ℕ) (c n : ℕ) (p : Partial Value) → c ≡ n → IsListIf o c p → IsListIf (Some n) c (close_here n p)
  closes-here o c n wanting e h = (sym e, count-filled {A = Value} no_parts n (omega arith) ∙ sym e)
  closes-here None c n (item v) e h = absurd h
  closes-here (Some m) c n (item v) e h = absurd h
  closes-here None c n (growing ps) e h = (sym e, count-filled ps n (subst (λ z. part_count ps ≤ z) e h) ∙ sym e)
  closes-here (Some m) c n (growing ps) e h = absurd h
  closes-here None c n (closed ps) e h = absurd h
  closes-here (Some m) c n (closed ps) e h = (sym e, h.1)

  after-closed : (b : Bool) (n : Name) (q : Place) (l : ℕ) (es : Events) → same_name s n ≡ b → FitStep f (events.closed n q l ∷ es) → ShowsAll es (so_far es) → ShowsAll (events.closed n q l ∷ es) (if b then close_at q l (so_far es) else so_far es)
  after-closed false n q l es e fit shows = λ x u g.
      stands-same (told es s) (told (events.closed n q l ∷ es) s) x u (known_at x (so_far es)) (refl, refl, sym (ap (λ b. if b then Some l else closed_with es s x) (other-spot s n x q e))) (shows x u g)
  after-closed true n q l es e fit shows = subst (ShowsAll (events.closed n q l ∷ es)) (sym (close-changes q l (so_far es))) (closes (at t q) refl (fit.0 e))
    where
      now : closed_with (events.closed n q l ∷ es) s q ≡ Some l
      now = ap (λ b. if b then Some l else closed_with es s q) (same-spot s n q q e ∙ self-same q)

      differ : DifferAt q (told es s) (told (events.closed n q l ∷ es) s)
      differ x m = (refl, refl, sym (ap (λ b. if b then Some l else closed_with es s x) (same-spot s n x q e ∙ not-same x q m)))

      closes : (o : Option Iteration) → at t q ≡ o → FitsNode (events.closed n q l) o → ShowsAll (events.closed n q l ∷ es) (change_at q (close_here l) (so_far es))
      closes None h g = absurd g
      closes (Some (leaf r x)) h g = absurd g
      closes (Some (list r ts)) h g =
          let before = shows q (list r ts) h in
          change-shows q (close_here l) (told es s) (told (events.closed n q l ∷ es) s) t (list r ts) (so_far es) shows h
          (subst (λ z. IsListIf z (count ts) (close_here l (known_at q (so_far es)))) (sym now) (closes-here (closed_with es s q) (count ts) l (known_at q (so_far es)) g before.0), before.1)
          (inl (close-inside l (known_at q (so_far es)))) differ

  -- THE TREE SHOWS WHAT WAS TOLD
  pub so_far-shows : (es : Events) → FitStep f es → ShowsAll es (so_far es)
  so_far-shows [] fit = start-shows
  so_far-shows (gave n q vs ∷ es) fit = after-gave (same_name s n) n q vs es refl fit (so_far-shows es fit.1)
  so_far-shows (events.closed n q l ∷ es) fit = after-closed (same_name s n) n q l es refl fit (so_far-shows es fit.1)
  so_far-shows (fault_set n q d ∷ es) fit = after-fault (same_name s n) n q d es refl fit (so_far-shows es fit.1)
  so_far-shows (took n q ∷ es) fit = so_far-shows es fit.1

-- ---- whole by counting events

item-whole : {A : Type 0} (b : Bool) (p : Partial A) → IsItemIf b p → whole p ≡ b
item-whole true wanting h = absurd h
item-whole true (item v) h = refl
item-whole true (growing ps) h = absurd h
item-whole true (closed ps) h = absurd h
item-whole false wanting h = refl
item-whole false (item v) h = absurd h
item-whole false (growing ps) h = absurd h
item-whole false (closed ps) h = absurd h

one-same : (b : Bool) → parts.one_if b ≡ one_if b
one-same true = refl
one-same false = refl

module _ {A : Type 0} (es : Events) (s : Name) where
  -- the node stands at q of the iteration, and so do all inside it
  abbrev pub ShowsFrom : Place → Iteration → Partial A → Type 0
  ShowsFrom q t p = (x : Place) (u : Iteration) → at t x ≡ Some u → StandsBy (told es s) (q ++ x) u (known_at x p)

  top-of : (q : Place) (t : Iteration) (p : Partial A) → ShowsFrom q t p → StandsBy (told es s) q t p
  top-of q t p h = subst (λ y. StandsBy (told es s) y t p) (append-nil q) (h [] t refl)

  item-of : (q : Place) (r : List Origin) (ts : Iterations) (p : Partial A) (j : ℕ) (u : Iteration) → ShowsFrom q (list r ts) p → item_at ts j ≡ Some u → ShowsFrom (q ++ j ∷ []) u (part_at p j)
  item-of q r ts p j u h e x v g = subst (λ y. StandsBy (told es s) y v (known_at x (part_at p j))) (sym (append_assoc q (j ∷ []) x)) (h (j ∷ x) v (ap (option_and_then (λ (y : Iteration). at y x)) e ∙ g))

  mutual
    pub whole-counted : (t : Iteration) (q : Place) (d : ℕ) (p : Partial A) → HasLevels t d → ShowsFrom q t p → whole p ≡ whole_by es s d q
    whole-counted (leaf r (job b)) q zero p l h = item-whole (has_result es s q) p (top-of q (leaf r (job b)) p h)
    whole-counted (leaf r (job b)) q (suc d) p l h = absurd (none d l)
      where
        none : (n : ℕ) → suc n ≡ 0 → ⊥
        none n e = omega arith
    whole-counted (leaf r (passed m e)) q zero p l h = absurd (none l)
      where
        none : 0 < 0 → ⊥
        none k = omega arith
    whole-counted (leaf r (passed m e)) q (suc d) p l h =
        let here = top-of q (leaf r (passed m e)) p h in
        item-whole (has_fault es s q) p here.0
        ∙ sym (or-false (has_fault es s q))
        ∙ ap (λ o. has_fault es s q || option_map_or (λ n. count_whole (whole_by es s d) q 0 n == n) o false) (sym here.1)
    whole-counted (list r ts) q zero p l h = absurd l
    whole-counted (list r ts) q (suc d) p l h =
        let here = top-of q (list r ts) p h in
        list-whole (closed_with es s q) p here.0 (λ ps e g. parts-counted ts q 0 d ps l (λ j u k. subst (λ y. ShowsFrom (q ++ y ∷ []) u (part_of ps j)) (is-zero_plus j) (subst (λ y. ShowsFrom (q ++ j ∷ []) u (part_at y j)) e (item-of q r ts p j u h k))) g)
        ∙ ap (λ b. b || option_map_or (λ n. count_whole (whole_by es s d) q 0 n == n) (closed_with es s q) false) (sym here.1)
      where
        list-whole : (o : Option ℕ) (p : Partial A) → IsListIf o (count ts) p → ((ps : Parts A) → p ≡ closed ps → part_count ps ≡ count ts → whole_count ps ≡ count_whole (whole_by es s d) q 0 (count ts)) → whole p ≡ (false || option_map_or (λ n. count_whole (whole_by es s d) q 0 n == n) o false)
        list-whole None wanting k rec = refl
        list-whole None (item v) k rec = absurd k
        list-whole None (growing ps) k rec = refl
        list-whole None (closed ps) k rec = absurd k
        list-whole (Some n) wanting k rec = absurd k
        list-whole (Some n) (item v) k rec = absurd k
        list-whole (Some n) (growing ps) k rec = absurd k
        list-whole (Some n) (closed ps) k rec =
            (whole-counts ps).0
            ∙ ap₂ (λ a b. a == b) (rec ps refl k.1) k.1
            ∙ ap (λ m. count_whole (whole_by es s d) q 0 m == m) (sym k.0)

    parts-counted : (ts : Iterations) (q : Place) (i d : ℕ) (ps : Parts A) → AllHaveLevels ts d → ((j : ℕ) (u : Iteration) → item_at ts j ≡ Some u → ShowsFrom (q ++ (i + j) ∷ []) u (part_of ps j)) → part_count ps ≡ count ts → whole_count ps ≡ count_whole (whole_by es s d) q i (count ts)
    parts-counted no_trees q i d no_parts l h e = refl
    parts-counted no_trees q i d (part p ps) l h e = absurd (omega arith)
    parts-counted (tree v ts) q i d no_parts l h e = absurd (omega arith)
    parts-counted (tree v ts) q i d (part p ps) l h e =
        ap₂ (λ a b. a + b)
        (one-same (whole p) ∙ ap one_if (whole-counted v (q ++ i ∷ []) d p l.0 (subst (λ n. ShowsFrom (q ++ n ∷ []) v p) (plus-none i) (h 0 v refl))))
        (parts-counted ts q (suc i) d ps l.1 (λ j u k. subst (λ n. ShowsFrom (q ++ n ∷ []) u (part_of ps j)) (plus-suc i j) (h (suc j) u k)) (fewer (part_count ps) (count ts) e))
      where
        plus-none : (n : ℕ) → n + 0 ≡ n
        plus-none n = omega arith

        plus-suc : (m n : ℕ) → m + suc n ≡ suc m + n
        plus-suc m n = omega arith

        fewer : (m n : ℕ) → suc m ≡ suc n → m ≡ n
        fewer m n g = omega arith
