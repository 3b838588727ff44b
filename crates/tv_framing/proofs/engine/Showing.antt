-- What a partial tree of a step's output shows of its iteration: at each node what was told of it, whole where counting events says so.
use Rattle.std.specs.Cmp.Lexicographic.{bytes_decides}
use Rattle.std.specs.Option.{option_map_or}
use Rattle.std.specs.Prelude.{◌≡◌, ◌⊎◌, refl, ℕ, zero, suc, ◌+◌, ◌<◌, ◌≤◌, ◌==◌, pred, Bool, true, false, ◌&&◌, ◌||◌, nat_lt, if◌then◌else◌, List, [], ◌∷◌, ◌++◌, Option, Some, None, option_and_then, slice_get, unwrap_or}
use Rattle.std.proofs.Common.{inl, inr, arith, sym, ap, ap₂, subst, ◌∙◌, append_assoc, append-nil}
use Rattle.std.proofs.lemmas.Bool.{eqb-true, eq-eqb, lt-ltb, true≢false}
use Rattle.std.proofs.lemmas.Option.{none-some, same_Some}
use Rattle.tv_value.specs.Nested.{Place, at, children, count, item_at, leaf, list, no_trees, tree}
use Rattle.tv_value.specs.Orders.{same_name}
use Rattle.tv_value.specs.Values.{Name, Value, fault_value}
use Rattle.tv_strategy.specs.Iterations.{Iteration, Iterations, job, passed}
use Rattle.tv_strategy.specs.Origins.{Origin}
use Rattle.tv_parts.specs.Partials as parts
use Rattle.tv_parts.specs.Partials.{Partial, wanting, item, growing, closed, Parts, no_parts, part, all_whole, known_at, part_at, part_count, part_of, whole, whole_count}
use Rattle.tv_parts.specs.Changes.{CanArrive, CanClose, MayClose, arrive, close_at, close_here, is_place, with_part}
use Rattle.tv_parts.proofs.Changes.{there-arrive, there-close}
use Rattle.tv_parts.proofs.Wholeness.{whole-counts}
use Rattle.tv_model.specs.instance.ByResults.{InstanceStep}
use Rattle.tv_model.specs.instance.Counting.{count_whole, whole_by}
use Rattle.tv_model.specs.instance.Events as events
use Rattle.tv_model.specs.instance.Events.{Event, Events, closed_with, event_place, event_step, fault_set, gave, has_fault, has_level, has_result, is_spot, took}
use Rattle.tv_model.specs.instance.Fitting.{FitStep, FitsNode}
use Rattle.tv_model.specs.instance.Wholeness.{one_if}
use Rattle.tv_framing.proofs.engine.Changes.{arrive-changes, change_at, close-changes, close-inside, count-filled, count-kept, count-within, known-append, known-wanting, part-there, part-other}

-- ---- what was told of the nodes of a step

pub record Tests : Type 0 where
  pub gave_at : Place → Bool
  pub faulted_at : Place → Bool
  pub length_at : Place → Option ℕ

-- the same of the places below an index
abbrev below : ℕ → Tests → Tests
below i a = record { gave_at = λ x. a.gave_at (i ∷ x); faulted_at = λ x. a.faulted_at (i ∷ x); length_at = λ x. a.length_at (i ∷ x) }

abbrev pub told : Events → Name → Tests
told es s = record { gave_at = has_result es s; faulted_at = has_fault es s; length_at = closed_with es s }

abbrev pub AreSameAt : Tests → Tests → Place → Type 0
AreSameAt a b x = (a.gave_at x ≡ b.gave_at x) × (a.faulted_at x ≡ b.faulted_at x) × (a.length_at x ≡ b.length_at x)

-- the tests differ at most at one place
abbrev pub DifferAt : Place → Tests → Tests → Type 0
DifferAt r a b = (x : Place) → (x ≡ r → ⊥) → AreSameAt a b x

-- ---- places

abbrev rest : Place → Place
rest [] = []
rest (i ∷ q) = q

abbrev head : Place → ℕ
head [] = 0
head (i ∷ q) = i

abbrev some : Place → Bool
some [] = false
some (i ∷ q) = true

pub within : (ts : Iterations) (i : ℕ) (u : Iteration) → item_at ts i ≡ Some u → i < count ts
within no_trees i u e = absurd (none-some u e)
within (tree t ts) zero u e = omega arith
within (tree t ts) (suc i) u e = up i (count ts) (within ts i u e)
  where
    up : (m n : ℕ) → m < n → suc m < suc n
    up m n l = omega arith

-- what stands in an item of a list
record Inner (ts : Iterations) (i : ℕ) (x : Place) (u : Iteration) : Type 0 where
  mid : Iteration
  stands : item_at ts i ≡ Some mid
  inner : at mid x ≡ Some u

inner-of : (ts : Iterations) (i : ℕ) (x : Place) (u : Iteration) → option_and_then (λ (y : Iteration). at y x) (item_at ts i) ≡ Some u → Inner ts i x u
inner-of ts i x u e = by (item_at ts i) refl e
  where
    by : (o : Option Iteration) → item_at ts i ≡ o → option_and_then (λ (y : Iteration). at y x) o ≡ Some u → Inner ts i x u
    by None f k = absurd (none-some u k)
    by (Some y) f k = record { mid = y; stands = f; inner = k }

module _ {A : Type 0} where
  abbrev pub IsItemIf : Bool → Partial A → Type 0
  IsItemIf true wanting = ⊥
  IsItemIf true (item v) = Unit {0}
  IsItemIf true (growing ps) = ⊥
  IsItemIf true (closed ps) = ⊥
  IsItemIf false wanting = Unit {0}
  IsItemIf false (item v) = ⊥
  IsItemIf false (growing ps) = ⊥
  IsItemIf false (closed ps) = ⊥

  abbrev pub IsListIf : Option ℕ → ℕ → Partial A → Type 0
  IsListIf None c wanting = Unit {0}
  IsListIf None c (item v) = ⊥
  IsListIf None c (growing ps) = part_count ps ≤ c
  IsListIf None c (closed ps) = ⊥
  IsListIf (Some n) c wanting = ⊥
  IsListIf (Some n) c (item v) = ⊥
  IsListIf (Some n) c (growing ps) = ⊥
  IsListIf (Some n) c (closed ps) = (n ≡ c) × (part_count ps ≡ c)

  -- what a tree has where this node stands in the iteration
  abbrev pub StandsAs : Bool → Bool → Option ℕ → Iteration → Partial A → Type 0
  StandsAs g f c (leaf s (job b)) p = IsItemIf g p
  StandsAs g f c (leaf s (passed m e)) p = IsItemIf f p × (c ≡ None)
  StandsAs g f c (list s ts) p = IsListIf c (count ts) p × (f ≡ false)

  abbrev pub StandsBy : Tests → Place → Iteration → Partial A → Type 0
  StandsBy a x u p = StandsAs (a.gave_at x) (a.faulted_at x) (a.length_at x) u p

  abbrev pub Shows : Tests → Iteration → Partial A → Type 0
  Shows a t p = (x : Place) (u : Iteration) → at t x ≡ Some u → StandsBy a x u (known_at x p)

  pub stands-same : (a b : Tests) (x : Place) (u : Iteration) (p : Partial A) → AreSameAt a b x → StandsBy a x u p → StandsBy b x u p
  stands-same a b x u p e h =
      subst (λ z. StandsAs z (b.faulted_at x) (b.length_at x) u p) e.0 (subst (λ z. StandsAs (a.gave_at x) z (b.length_at x) u p) e.1 (subst (λ z. StandsAs (a.gave_at x) (a.faulted_at x) z u p) e.2 h))

  -- ---- one change

  list-stays : (i : ℕ) (r : Place) (h : Partial A → Partial A) (c : Option ℕ) (n : ℕ) (p : Partial A) → i < n → IsListIf c n p → IsListIf c n (change_at (i ∷ r) h p)
  list-stays i r h None n wanting l k = count-within (change_at r h wanting) no_parts i n (omega arith) l
  list-stays i r h None n (item v) l k = absurd k
  list-stays i r h None n (growing ps) l k = count-within (change_at r h (part_of ps i)) ps i n k l
  list-stays i r h None n (closed ps) l k = absurd k
  list-stays i r h (Some m) n wanting l k = absurd k
  list-stays i r h (Some m) n (item v) l k = absurd k
  list-stays i r h (Some m) n (growing ps) l k = absurd k
  list-stays i r h (Some m) n (closed ps) l k = (k.0, count-kept (change_at r h (part_of ps i)) ps i (subst (λ z. i < z) (sym k.1) l) ∙ k.1)

  part-changed : (i : ℕ) (r : Place) (h : Partial A → Partial A) (c : Option ℕ) (n : ℕ) (p : Partial A) → IsListIf c n p → part_at (change_at (i ∷ r) h p) i ≡ change_at r h (part_at p i)
  part-changed i r h c n wanting k = part-there (change_at r h wanting) no_parts i
  part-changed i r h None n (item v) k = absurd k
  part-changed i r h (Some m) n (item v) k = absurd k
  part-changed i r h c n (growing ps) k = part-there (change_at r h (part_of ps i)) ps i
  part-changed i r h c n (closed ps) k = part-there (change_at r h (part_of ps i)) ps i

  part-kept : (i j : ℕ) (r : Place) (h : Partial A → Partial A) (p : Partial A) → (j ≡ i → ⊥) → part_at (change_at (i ∷ r) h p) j ≡ part_at p j
  part-kept i j r h wanting k = part-other (change_at r h wanting) no_parts i j k
  part-kept i j r h (item v) k = refl
  part-kept i j r h (growing ps) k = part-other (change_at r h (part_of ps i)) ps i j k
  part-kept i j r h (closed ps) k = part-other (change_at r h (part_of ps i)) ps i j k

  inner-shows : (a : Tests) (s : List Origin) (ts : Iterations) (p : Partial A) (i : ℕ) (u : Iteration) → Shows a (list s ts) p → item_at ts i ≡ Some u → Shows (below i a) u (part_at p i)
  inner-shows a s ts p i u h e x v k = h (i ∷ x) v (ap (option_and_then (λ (y : Iteration). at y x)) e ∙ k)

  -- the same in an item of a list, where it is so inside
  item-changes :
      (i : ℕ) (r : Place) (h : Partial A → Partial A) (a b : Tests) (s : List Origin) (ts : Iterations) (v : Iteration) (p : Partial A)
      → Shows a (list s ts) p → at (list s ts) (i ∷ r) ≡ Some v → DifferAt (i ∷ r) a b
      → ((y : Iteration) → Shows (below i a) y (part_at p i) → at y r ≡ Some v → Shows (below i b) y (change_at r h (part_at p i)))
      → Shows b (list s ts) (change_at (i ∷ r) h p)
  item-changes i r h a b s ts v p shows there differ deep x u e = by x e
    where
      here : Inner ts i r v
      here = inner-of ts i r v there

      top : IsListIf (a.length_at []) (count ts) p
      top = (shows [] (list s ts) refl).0

      deeper : Shows (below i b) here.mid (change_at r h (part_at p i))
      deeper = deep here.mid (inner-shows a s ts p i here.mid shows here.stands) here.inner

      item-shows : (j : ℕ) (y : Place) (w : Bool) → (j == i) ≡ w → at (list s ts) (j ∷ y) ≡ Some u → StandsBy b (j ∷ y) u (known_at y (part_at (change_at (i ∷ r) h p) j))
      item-shows j y true g k =
          let same : i ≡ j = sym (eqb-true j i g) in
          let there_too : option_and_then (λ (z : Iteration). at z y) (item_at ts i) ≡ Some u = ap (λ n. option_and_then (λ (z : Iteration). at z y) (item_at ts n)) same ∙ k in
          let mine = inner-of ts i y u there_too in
          let found = deeper y u (subst (λ z. at z y ≡ Some u) (same_Some mine.mid here.mid (sym mine.stands ∙ here.stands)) mine.inner) in
          subst (λ n. StandsBy b (n ∷ y) u (known_at y (part_at (change_at (i ∷ r) h p) n))) same
          (subst (λ z. StandsBy b (i ∷ y) u (known_at y z)) (sym (part-changed i r h (a.length_at []) (count ts) p top)) found)
      item-shows j y false g k =
          let apart : j ≡ i → ⊥ = λ f. true≢false (sym (eq-eqb j i f) ∙ g) in
          stands-same a b (j ∷ y) u (known_at y (part_at (change_at (i ∷ r) h p) j)) (differ (j ∷ y) (λ f. apart (ap head f)))
          (subst (λ z. StandsBy a (j ∷ y) u (known_at y z)) (sym (part-kept i j r h p apart)) (shows (j ∷ y) u k))

      by : (x : Place) → at (list s ts) x ≡ Some u → StandsBy b x u (known_at x (change_at (i ∷ r) h p))
      by [] k =
          subst (λ y. StandsBy b [] y (change_at (i ∷ r) h p)) (same_Some (list s ts) u k)
          (stands-same a b [] (list s ts) (change_at (i ∷ r) h p) (differ [] (λ g. true≢false (sym (ap some g)))) (list-stays i r h (a.length_at []) (count ts) p (within ts i here.mid here.stands) top, (shows [] (list s ts) refl).1))
      by (j ∷ y) k = item-shows j y (j == i) refl k

  -- h changes what stands at r, where v stands in the iteration, and nothing inside it
  pub change-shows :
      (r : Place) (h : Partial A → Partial A) (a b : Tests) (t v : Iteration) (p : Partial A)
      → Shows a t p → at t r ≡ Some v → StandsBy b r v (h (known_at r p))
      → ((i : ℕ) → part_at (h (known_at r p)) i ≡ part_at (known_at r p) i)
      ⊎ ((i : ℕ) → item_at (children v) i ≡ None)
      → DifferAt r a b → Shows b t (change_at r h p)
  change-shows [] h a b t v p shows there new inside differ [] u e = subst (λ y. StandsBy b [] y (h p)) (same_Some v u (sym there ∙ e)) new
  change-shows [] h a b t v p shows there new inside differ (j ∷ x) u e =
      stands-same a b (j ∷ x) u (known_at x (part_at (h p) j)) (differ (j ∷ x) (λ g. true≢false (ap some g)))
      (subst (λ y. StandsBy a (j ∷ x) u (known_at x y)) (sym (kept inside)) (shows (j ∷ x) u e))
    where
      kept : ((i : ℕ) → part_at (h p) i ≡ part_at p i) ⊎ ((i : ℕ) → item_at (children v) i ≡ None) → part_at (h p) j ≡ part_at p j
      kept (inl k) = k j
      kept (inr k) = absurd (none-some u (sym (ap (option_and_then (λ (y : Iteration). at y x)) (ap (λ y. item_at (children y) j) (same_Some t v there) ∙ k j)) ∙ e))
  change-shows (i ∷ r) h a b (leaf s d) v p shows there new inside differ x u e = absurd (none-some v there)
  change-shows (i ∷ r) h a b (list s ts) v p shows there new inside differ x u e =
      item-changes i r h a b s ts v p shows there differ
      (λ y f g. change-shows r h (below i a) (below i b) y v (part_at p i) f g new inside (λ z n. differ (i ∷ z) (λ k. n (ap rest k)))) x u e

  -- a place of the iteration is one of the tree
  pub place-open : (a : Tests) (t : Iteration) (p : Partial A) → Shows a t p → (x : Place) (u : Iteration) → at t x ≡ Some u → is_place x p ≡ true
  place-open a t p shows [] u e = refl
  place-open a (leaf s d) p shows (i ∷ x) u e = absurd (none-some u e)
  place-open a (list s ts) p shows (i ∷ x) u e =
      let here = inner-of ts i x u e in
      open-top (a.length_at []) p ((shows [] (list s ts) refl).0) (within ts i here.mid here.stands) (place-open (below i a) here.mid (part_at p i) (inner-shows a s ts p i here.mid shows here.stands) x u here.inner)
    where
      open-top : (o : Option ℕ) (p : Partial A) → IsListIf o (count ts) p → i < count ts → is_place x (part_at p i) ≡ true → is_place (i ∷ x) p ≡ true
      open-top o wanting k l g = refl
      open-top None (item v) k l g = absurd k
      open-top (Some n) (item v) k l g = absurd k
      open-top o (growing ps) k l g = g
      open-top None (closed ps) k l g = absurd k
      open-top (Some n) (closed ps) k l g = ap (λ b. if b then is_place x (part_of ps i) else false) (lt-ltb i (part_count ps) (subst (λ z. i < z) (sym k.1) l)) ∙ g
