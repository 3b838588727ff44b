-- Where a change can be, and where it can't, step by step.
use Rattle.std.proofs.Common.{◌≡◌, ℕ, ◌<◌, nat_lt, Bool, true, false, if◌then◌else◌, List, [], ◌∷◌, refl, sym, ap, ◌∙◌, subst, Option, Some, None, lt-ltb, ltb-true}
use Rattle.std.proofs.lemmas.Bool.{false≢true}
use Rattle.tv_parts.specs.Partials.{Partial, wanting, part_count, part_of, part_at, known_at}
use Rattle.tv_parts.specs.Changes.{is_place, CanArrive, CanClose}
use Rattle.tv_stream.specs.declared.nodes.Entry.{Entry}
use Rattle.tv_stream.specs.nodes.Nodes.{part_in}
use Rattle.tv_stream.specs.declared.held.Held.{Held}
use Rattle.tv_stream.specs.declared.held.Part.{Part}
use Rattle.tv_stream.specs.declared.held.Counts.{Counts}
use Rattle.tv_stream.specs.declared.held.Part.TheVariants.{Wanting, Item, Numbered}
use Rattle.tv_stream.specs.Trees.{Marked, count_of, list_of, optional, parts_by, tree_by}
use Rattle.tv_stream.specs.Inside.{has_index}
use Rattle.tv_stream.proofs.Listed.{count-listed}

pub place-wanting : (A : Type 0) (q : List ℕ) → is_place {A = A} q wanting ≡ true
place-wanting A [] = refl
place-wanting A (i ∷ q) = refl

pub known-wanting : (A : Type 0) (q : List ℕ) → known_at {A = A} q wanting ≡ wanting
known-wanting A [] = refl
known-wanting A (i ∷ q) = known-wanting A q

pub arrive-wanting : (A : Type 0) (q : List ℕ) → CanArrive {A = A} q wanting
arrive-wanting A [] = tt
arrive-wanting A (i ∷ q) = tt

pub close-wanting : (A : Type 0) (q : List ℕ) (n : ℕ) → CanClose {A = A} q n wanting
close-wanting A [] n = tt
close-wanting A (i ∷ q) n = tt

module _ {T : Type 0} (f : ℕ → Partial (Marked T)) (m : ℕ → Option (Entry (Held T))) (s : ℕ) (marked : Bool) (i : ℕ) where
  less-count : (c : Counts) (n : ℕ) → c.length ≡ Some n → part_count (parts_by f m s (count_of c)) ≡ n
  less-count c n is = count-listed (count_of c) (λ j. optional f (part_in m s j)) ∙ ap (λ o. elim o [ None ↦ c.most | Some k ↦ k ]) is

  -- a place inside the part is one inside the node
  pub place-step : (w : Part T) (q : List ℕ) → has_index w i ≡ true → is_place (i ∷ q) (tree_by f m s marked w) ≡ is_place q (part_at (tree_by f m s marked w) i)
  place-step Wanting q h = sym (place-wanting (Marked T) q)
  place-step (Item v) q h = absurd (false≢true h)
  place-step (Numbered c) q h = by c.length refl h
    where
      by : (o : Option ℕ) → c.length ≡ o → (elim o [ None ↦ true | Some n ↦ nat_lt i n ]) ≡ true → is_place (i ∷ q) (list_of o (parts_by f m s (count_of c))) ≡ is_place q (part_at (list_of o (parts_by f m s (count_of c))) i)
      by None is h = refl
      by (Some n) is h = ap (λ b. if b then is_place q (part_of (parts_by f m s (count_of c)) i) else false) (ap (nat_lt i) (less-count c n is) ∙ h)

  pub place-none : (w : Part T) (q : List ℕ) → has_index w i ≡ false → is_place (i ∷ q) (tree_by f m s marked w) ≡ false
  place-none Wanting q h = absurd (false≢true (sym h))
  place-none (Item v) q h = refl
  place-none (Numbered c) q h = by c.length refl h
    where
      by : (o : Option ℕ) → c.length ≡ o → (elim o [ None ↦ true | Some n ↦ nat_lt i n ]) ≡ false → is_place (i ∷ q) (list_of o (parts_by f m s (count_of c))) ≡ false
      by None is h = absurd (false≢true (sym h))
      by (Some n) is h = ap (λ b. if b then is_place q (part_of (parts_by f m s (count_of c)) i) else false) (ap (nat_lt i) (less-count c n is) ∙ h)

  pub arrive-can : (w : Part T) (q : List ℕ) → has_index w i ≡ true → CanArrive q (part_at (tree_by f m s marked w) i) → CanArrive (i ∷ q) (tree_by f m s marked w)
  arrive-can Wanting q h k = tt
  arrive-can (Item v) q h k = absurd (false≢true h)
  arrive-can (Numbered c) q h k = by c.length refl h k
    where
      by : (o : Option ℕ) → c.length ≡ o → (elim o [ None ↦ true | Some n ↦ nat_lt i n ]) ≡ true → CanArrive q (part_at (list_of o (parts_by f m s (count_of c))) i) → CanArrive (i ∷ q) (list_of o (parts_by f m s (count_of c)))
      by None is h k = k
      by (Some n) is h k = (subst (λ j. i < j) (sym (less-count c n is)) (ltb-true i n h), k)

  pub close-can : (w : Part T) (q : List ℕ) (l : ℕ) → has_index w i ≡ true → CanClose q l (part_at (tree_by f m s marked w) i) → CanClose (i ∷ q) l (tree_by f m s marked w)
  close-can Wanting q l h k = tt
  close-can (Item v) q l h k = absurd (false≢true h)
  close-can (Numbered c) q l h k = by c.length refl h k
    where
      by : (o : Option ℕ) → c.length ≡ o → (elim o [ None ↦ true | Some n ↦ nat_lt i n ]) ≡ true → CanClose q l (part_at (list_of o (parts_by f m s (count_of c))) i) → CanClose (i ∷ q) l (list_of o (parts_by f m s (count_of c)))
      by None is h k = k
      by (Some n) is h k = (subst (λ j. i < j) (sym (less-count c n is)) (ltb-true i n h), k)

  -- where an item can arrive inside, there is the part
  pub can-arrive : (w : Part T) (q : List ℕ) → CanArrive (i ∷ q) (tree_by f m s marked w) → (has_index w i ≡ true) × CanArrive q (part_at (tree_by f m s marked w) i)
  can-arrive Wanting q h = (refl, arrive-wanting (Marked T) q)
  can-arrive (Item v) q h = absurd h
  can-arrive (Numbered c) q h = by c.length refl h
    where
      by : (o : Option ℕ) → c.length ≡ o → CanArrive (i ∷ q) (list_of o (parts_by f m s (count_of c))) → ((elim o [ None ↦ true | Some n ↦ nat_lt i n ]) ≡ true) × CanArrive q (part_at (list_of o (parts_by f m s (count_of c))) i)
      by None is h = (refl, h)
      by (Some n) is h = (lt-ltb i n (subst (λ j. i < j) (less-count c n is) h.0), h.1)

  pub can-close : (w : Part T) (q : List ℕ) (l : ℕ) → CanClose (i ∷ q) l (tree_by f m s marked w) → (has_index w i ≡ true) × CanClose q l (part_at (tree_by f m s marked w) i)
  can-close Wanting q l h = (refl, close-wanting (Marked T) q l)
  can-close (Item v) q l h = absurd h
  can-close (Numbered c) q l h = by c.length refl h
    where
      by : (o : Option ℕ) → c.length ≡ o → CanClose (i ∷ q) l (list_of o (parts_by f m s (count_of c))) → ((elim o [ None ↦ true | Some n ↦ nat_lt i n ]) ≡ true) × CanClose q l (part_at (list_of o (parts_by f m s (count_of c))) i)
      by None is h = (refl, h)
      by (Some n) is h = (lt-ltb i n (subst (λ j. i < j) (less-count c n is) h.0), h.1)
