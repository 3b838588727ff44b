-- Partial trees with other items: what tests make of them, and what stays so of each item.
use Rattle.std.proofs.Common.{◌≡◌, ℕ, zero, suc, Bool, true, if◌then◌else◌, [], ◌∷◌, refl, ap, ◌∙◌}
use Rattle.tv_value.specs.Nested.{Place}
use Rattle.tv_parts.specs.Partials.{Partial, wanting, item, growing, closed, Parts, no_parts, part, part_of, part_at, known_at, holds_some, some_holds, map_partial, map_parts}
use Rattle.tv_parts.specs.Changes.{with_part, filled, arrive, close_here, close_at}
use Rattle.tv_outputs.specs.Kept.{EachItem, EachPart}

module _ {A B : Type 0} (f : A → B) where
  -- a test of the items is the same as one of what they were made of
  mutual
    pub map-holds : (test : B → Bool) (mark : A → Bool) (P : A → Type 0) → ((x : A) → P x → mark x ≡ test (f x)) → (p : Partial A) → EachItem P p → holds_some mark p ≡ holds_some test (map_partial f p)
    map-holds test mark P same wanting h = refl
    map-holds test mark P same (item x) h = same x h
    map-holds test mark P same (growing ps) h = parts-holds test mark P same ps h
    map-holds test mark P same (closed ps) h = parts-holds test mark P same ps h

    parts-holds : (test : B → Bool) (mark : A → Bool) (P : A → Type 0) → ((x : A) → P x → mark x ≡ test (f x)) → (ps : Parts A) → EachPart P ps → some_holds mark ps ≡ some_holds test (map_parts f ps)
    parts-holds test mark P same no_parts h = refl
    parts-holds test mark P same (part p ps) h = ap (λ b. if b then true else some_holds mark ps) (map-holds test mark P same p h.0) ∙ ap (λ b. if holds_some test (map_partial f p) then true else b) (parts-holds test mark P same ps h.1)

-- ---- what holds of each item

module _ {A : Type 0} (P : A → Type 0) where
  each-part : (ps : Parts A) (i : ℕ) → EachPart P ps → EachItem P (part_of ps i)
  each-part no_parts i h = tt
  each-part (part p ps) zero h = h.0
  each-part (part p ps) (suc i) h = each-part ps i h.1

  each-with : (p : Partial A) (ps : Parts A) (i : ℕ) → EachItem P p → EachPart P ps → EachPart P (with_part p ps i)
  each-with p no_parts zero k h = (k, tt)
  each-with p no_parts (suc i) k h = (tt, each-with p no_parts i k h)
  each-with p (part r ps) zero k h = (k, h.1)
  each-with p (part r ps) (suc i) k h = (h.0, each-with p ps i k h.1)

  each-filled : (ps : Parts A) (n : ℕ) → EachPart P ps → EachPart P (filled ps n)
  each-filled no_parts zero h = h
  each-filled no_parts (suc n) h = (tt, each-filled no_parts n h)
  each-filled (part p ps) zero h = h
  each-filled (part p ps) (suc n) h = (h.0, each-filled ps n h.1)

  pub each-arrive : (q : Place) (x : A) (p : Partial A) → P x → EachItem P p → EachItem P (arrive q x p)
  each-arrive [] x p k h = k
  each-arrive (i ∷ q) x wanting k h = each-with (arrive q x wanting) no_parts i (each-arrive q x wanting k tt) tt
  each-arrive (i ∷ q) x (item y) k h = h
  each-arrive (i ∷ q) x (growing ps) k h = each-with (arrive q x (part_of ps i)) ps i (each-arrive q x (part_of ps i) k (each-part ps i h)) h
  each-arrive (i ∷ q) x (closed ps) k h = each-with (arrive q x (part_of ps i)) ps i (each-arrive q x (part_of ps i) k (each-part ps i h)) h

  each-close_here : (n : ℕ) (p : Partial A) → EachItem P p → EachItem P (close_here n p)
  each-close_here n wanting h = each-filled no_parts n tt
  each-close_here n (item y) h = h
  each-close_here n (growing ps) h = each-filled ps n h
  each-close_here n (closed ps) h = h

  pub each-close : (q : Place) (n : ℕ) (p : Partial A) → EachItem P p → EachItem P (close_at q n p)
  each-close [] n p h = each-close_here n p h
  each-close (i ∷ q) n wanting h = each-with (close_at q n wanting) no_parts i (each-close q n wanting tt) tt
  each-close (i ∷ q) n (item y) h = h
  each-close (i ∷ q) n (growing ps) h = each-with (close_at q n (part_of ps i)) ps i (each-close q n (part_of ps i) (each-part ps i h)) h
  each-close (i ∷ q) n (closed ps) h = each-with (close_at q n (part_of ps i)) ps i (each-close q n (part_of ps i) (each-part ps i h)) h

  pub each-part_at : (p : Partial A) (i : ℕ) → EachItem P p → EachItem P (part_at p i)
  each-part_at wanting i h = tt
  each-part_at (item x) i h = tt
  each-part_at (growing ps) i h = each-part ps i h
  each-part_at (closed ps) i h = each-part ps i h

  pub each-known : (q : Place) (p : Partial A) → EachItem P p → EachItem P (known_at q p)
  each-known [] p h = h
  each-known (i ∷ q) p h = each-known q (part_at p i) (each-part_at p i h)
