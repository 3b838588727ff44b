-- A partial tree with other items changes alike, and the same of it is known, is whole and can change.
use Rattle.std.specs.Prelude.{◌≡◌, refl, ℕ, zero, suc, ◌≤◌, ◌<◌, nat_lt, true, false, ◌&&◌, if◌then◌else◌, [], ◌∷◌, Some, None}
use Rattle.std.specs.Option.{option_map}
use Rattle.std.proofs.Common.{sym, ap, ap₂, subst, ◌∙◌}
use Rattle.tv_value.specs.Nested.{list, Place, at, count}
use Rattle.tv_value.specs.Values.{Value}
use Rattle.tv_parts.specs.Partials.{Partial, wanting, item, growing, closed, Parts, no_parts, part, part_count, part_of, part_at, known_at, shows, whole, all_whole, map_partial, map_parts}
use Rattle.tv_parts.specs.Below.{Values, Below, value_in}
use Rattle.tv_parts.specs.Changes.{with_part, filled, arrive, close_here, close_at, CanArrive, CanClose, is_place}
use Rattle.tv_parts.proofs.Changes.{arrive-below, close-below, arrive-not_whole, close-not_whole}
use Rattle.tv_parts.proofs.Wholeness.{whole-is}
use Rattle.tv_stream.specs.Trees.{Marked, least_whole}
use Rattle.tv_stream.specs.Mapped.{value_tree_by}

module _ {A B : Type 0} (f : A → B) where
  -- ---- parts

  pub map-count : (ps : Parts A) → part_count (map_parts f ps) ≡ part_count ps
  map-count no_parts = refl
  map-count (part p ps) = ap (λ n. suc n) (map-count ps)

  pub map-part : (ps : Parts A) (i : ℕ) → part_of (map_parts f ps) i ≡ map_partial f (part_of ps i)
  map-part no_parts i = refl
  map-part (part p ps) zero = refl
  map-part (part p ps) (suc i) = map-part ps i

  pub map-part_at : (r : Partial A) (i : ℕ) → part_at (map_partial f r) i ≡ map_partial f (part_at r i)
  map-part_at wanting i = refl
  map-part_at (item x) i = refl
  map-part_at (growing ps) i = map-part ps i
  map-part_at (closed ps) i = map-part ps i

  pub map-with : (r : Partial A) (ps : Parts A) (i : ℕ) → map_parts f (with_part r ps i) ≡ with_part (map_partial f r) (map_parts f ps) i
  map-with r no_parts zero = refl
  map-with r no_parts (suc i) = ap (λ qs. part wanting qs) (map-with r no_parts i)
  map-with r (part p ps) zero = refl
  map-with r (part p ps) (suc i) = ap (λ qs. part (map_partial f p) qs) (map-with r ps i)

  pub map-filled : (ps : Parts A) (n : ℕ) → map_parts f (filled ps n) ≡ filled (map_parts f ps) n
  map-filled no_parts zero = refl
  map-filled no_parts (suc n) = ap (λ qs. part wanting qs) (map-filled no_parts n)
  map-filled (part p ps) zero = refl
  map-filled (part p ps) (suc n) = ap (λ qs. part (map_partial f p) qs) (map-filled ps n)

  -- ---- changes

  pub map-arrive : (q : Place) (x : A) (r : Partial A) → map_partial f (arrive q x r) ≡ arrive q (f x) (map_partial f r)
  map-arrive [] x r = refl
  map-arrive (i ∷ q) x wanting = ap (λ ps. growing ps) (map-with (arrive q x wanting) no_parts i ∙ ap (λ p. with_part p no_parts i) (map-arrive q x wanting))
  map-arrive (i ∷ q) x (item y) = refl
  map-arrive (i ∷ q) x (growing ps) =
      ap (λ ps. growing ps)
      (map-with (arrive q x (part_of ps i)) ps i
      ∙ ap (λ p. with_part p (map_parts f ps) i) (map-arrive q x (part_of ps i) ∙ ap (arrive q (f x)) (sym (map-part ps i))))
  map-arrive (i ∷ q) x (closed ps) =
      ap (λ ps. closed ps)
      (map-with (arrive q x (part_of ps i)) ps i
      ∙ ap (λ p. with_part p (map_parts f ps) i) (map-arrive q x (part_of ps i) ∙ ap (arrive q (f x)) (sym (map-part ps i))))

  map-close_here : (n : ℕ) (r : Partial A) → map_partial f (close_here n r) ≡ close_here n (map_partial f r)
  map-close_here n wanting = ap (λ ps. closed ps) (map-filled no_parts n)
  map-close_here n (item y) = refl
  map-close_here n (growing ps) = ap (λ ps. closed ps) (map-filled ps n)
  map-close_here n (closed ps) = refl

  pub map-close : (q : Place) (n : ℕ) (r : Partial A) → map_partial f (close_at q n r) ≡ close_at q n (map_partial f r)
  map-close [] n r = map-close_here n r
  map-close (i ∷ q) n wanting = ap (λ ps. growing ps) (map-with (close_at q n wanting) no_parts i ∙ ap (λ p. with_part p no_parts i) (map-close q n wanting))
  map-close (i ∷ q) n (item y) = refl
  map-close (i ∷ q) n (growing ps) =
      ap (λ ps. growing ps)
      (map-with (close_at q n (part_of ps i)) ps i
      ∙ ap (λ p. with_part p (map_parts f ps) i) (map-close q n (part_of ps i) ∙ ap (close_at q n) (sym (map-part ps i))))
  map-close (i ∷ q) n (closed ps) =
      ap (λ ps. closed ps)
      (map-with (close_at q n (part_of ps i)) ps i
      ∙ ap (λ p. with_part p (map_parts f ps) i) (map-close q n (part_of ps i) ∙ ap (close_at q n) (sym (map-part ps i))))

  -- ---- what is known

  pub map-known : (q : Place) (r : Partial A) → known_at q (map_partial f r) ≡ map_partial f (known_at q r)
  map-known [] r = refl
  map-known (i ∷ q) r = ap (known_at q) (map-part_at r i) ∙ map-known q (part_at r i)

  pub map-shows : (r : Partial A) (q : Place) → shows (map_partial f r) q ≡ shows r q
  map-shows wanting q = refl
  map-shows (item x) q = refl
  map-shows (growing ps) [] = refl
  map-shows (growing ps) (i ∷ q) = ap (λ p. shows p q) (map-part ps i) ∙ map-shows (part_of ps i) q
  map-shows (closed ps) [] = refl
  map-shows (closed ps) (i ∷ q) = ap (λ p. shows p q) (map-part ps i) ∙ map-shows (part_of ps i) q

  mutual
    pub map-whole : (r : Partial A) → whole (map_partial f r) ≡ whole r
    map-whole wanting = refl
    map-whole (item x) = refl
    map-whole (growing ps) = refl
    map-whole (closed ps) = map-all_whole ps

    map-all_whole : (ps : Parts A) → all_whole (map_parts f ps) ≡ all_whole ps
    map-all_whole no_parts = refl
    map-all_whole (part p ps) = ap₂ (λ a b. a && b) (map-whole p) (map-all_whole ps)

  pub map-least : (q : Place) (r : Partial A) → least_whole q (map_partial f r) ≡ least_whole q r
  map-least [] r = ap (λ b. if b then Some 0 else None) (map-whole r)
  map-least (i ∷ q) r =
      ap₂ (λ b o. if b then Some 0 else option_map suc o) (map-whole r)
      (ap (least_whole q) (map-part_at r i) ∙ map-least q (part_at r i))

  -- ---- where a change can be

  pub map-place : (q : Place) (r : Partial A) → is_place q (map_partial f r) ≡ is_place q r
  map-place [] r = refl
  map-place (i ∷ q) wanting = refl
  map-place (i ∷ q) (item x) = refl
  map-place (i ∷ q) (growing ps) = ap (is_place q) (map-part ps i) ∙ map-place q (part_of ps i)
  map-place (i ∷ q) (closed ps) =
      ap₂ (λ n b. if nat_lt i n then b else false) (map-count ps) (ap (is_place q) (map-part ps i) ∙ map-place q (part_of ps i))

  pub can_arrive-map : (q : Place) (r : Partial A) → CanArrive q r → CanArrive q (map_partial f r)
  can_arrive-map [] wanting h = tt
  can_arrive-map [] (item x) h = absurd h
  can_arrive-map [] (growing ps) h = absurd h
  can_arrive-map [] (closed ps) h = absurd h
  can_arrive-map (i ∷ q) wanting h = tt
  can_arrive-map (i ∷ q) (item x) h = absurd h
  can_arrive-map (i ∷ q) (growing ps) h = subst (CanArrive q) (sym (map-part ps i)) (can_arrive-map q (part_of ps i) h)
  can_arrive-map (i ∷ q) (closed ps) h = (subst (λ n. i < n) (sym (map-count ps)) h.0, subst (CanArrive q) (sym (map-part ps i)) (can_arrive-map q (part_of ps i) h.1))

  pub map-can_arrive : (q : Place) (r : Partial A) → CanArrive q (map_partial f r) → CanArrive q r
  map-can_arrive [] wanting h = tt
  map-can_arrive [] (item x) h = absurd h
  map-can_arrive [] (growing ps) h = absurd h
  map-can_arrive [] (closed ps) h = absurd h
  map-can_arrive (i ∷ q) wanting h = tt
  map-can_arrive (i ∷ q) (item x) h = absurd h
  map-can_arrive (i ∷ q) (growing ps) h = map-can_arrive q (part_of ps i) (subst (CanArrive q) (map-part ps i) h)
  map-can_arrive (i ∷ q) (closed ps) h = (subst (λ n. i < n) (map-count ps) h.0, map-can_arrive q (part_of ps i) (subst (CanArrive q) (map-part ps i) h.1))

  pub can_close-map : (q : Place) (n : ℕ) (r : Partial A) → CanClose q n r → CanClose q n (map_partial f r)
  can_close-map [] n wanting h = tt
  can_close-map [] n (item x) h = absurd h
  can_close-map [] n (growing ps) h = subst (λ m. m ≤ n) (sym (map-count ps)) h
  can_close-map [] n (closed ps) h = absurd h
  can_close-map (i ∷ q) n wanting h = tt
  can_close-map (i ∷ q) n (item x) h = absurd h
  can_close-map (i ∷ q) n (growing ps) h = subst (CanClose q n) (sym (map-part ps i)) (can_close-map q n (part_of ps i) h)
  can_close-map (i ∷ q) n (closed ps) h = (subst (λ m. i < m) (sym (map-count ps)) h.0, subst (CanClose q n) (sym (map-part ps i)) (can_close-map q n (part_of ps i) h.1))

  pub map-can_close : (q : Place) (n : ℕ) (r : Partial A) → CanClose q n (map_partial f r) → CanClose q n r
  map-can_close [] n wanting h = tt
  map-can_close [] n (item x) h = absurd h
  map-can_close [] n (growing ps) h = subst (λ m. m ≤ n) (map-count ps) h
  map-can_close [] n (closed ps) h = absurd h
  map-can_close (i ∷ q) n wanting h = tt
  map-can_close (i ∷ q) n (item x) h = absurd h
  map-can_close (i ∷ q) n (growing ps) h = map-can_close q n (part_of ps i) (subst (CanClose q n) (map-part ps i) h)
  map-can_close (i ∷ q) n (closed ps) h = (subst (λ m. i < m) (map-count ps) h.0, map-can_close q n (part_of ps i) (subst (CanClose q n) (map-part ps i) h.1))

-- ---- what a call makes whole was not so before

none-wanting : (A : Type 0) (q : Place) → least_whole {A = A} q wanting ≡ None
none-wanting A [] = refl
none-wanting A (i ∷ q) = ap (option_map suc) (none-wanting A q)

module _ {A : Type 0} where
  not-whole : (i : ℕ) (q : Place) (r : Partial A) → whole r ≡ false → least_whole q (part_at r i) ≡ None → least_whole (i ∷ q) r ≡ None
  not-whole i q r h k = ap₂ (λ b o. if b then Some 0 else option_map suc o) h k

  pub arrive-none_whole : (q : Place) (r : Partial A) → CanArrive q r → least_whole q r ≡ None
  arrive-none_whole [] r h = ap (λ b. if b then Some 0 else None) (arrive-not_whole [] r h)
  arrive-none_whole (i ∷ q) wanting h = none-wanting A (i ∷ q)
  arrive-none_whole (i ∷ q) (item x) h = absurd h
  arrive-none_whole (i ∷ q) (growing ps) h = not-whole i q (growing ps) refl (arrive-none_whole q (part_of ps i) h)
  arrive-none_whole (i ∷ q) (closed ps) h = not-whole i q (closed ps) (arrive-not_whole (i ∷ q) (closed ps) h) (arrive-none_whole q (part_of ps i) h.1)

  pub close-none_whole : (q : Place) (n : ℕ) (r : Partial A) → CanClose q n r → least_whole q r ≡ None
  close-none_whole [] n r h = ap (λ b. if b then Some 0 else None) (close-not_whole [] n r h)
  close-none_whole (i ∷ q) n wanting h = none-wanting A (i ∷ q)
  close-none_whole (i ∷ q) n (item x) h = absurd h
  close-none_whole (i ∷ q) n (growing ps) h = not-whole i q (growing ps) refl (close-none_whole q n (part_of ps i) h)
  close-none_whole (i ∷ q) n (closed ps) h = not-whole i q (closed ps) (close-not_whole (i ∷ q) n (closed ps) h) (close-none_whole q n (part_of ps i) h.1)

-- ---- where items stand for values

module _ {T : Type 0} (stands_for : T → Value) where
  pub arrive-below_value : (q : Place) (x : Marked T) (r : Partial (Marked T)) (v : Value) → Below (value_tree_by stands_for r) v → at v q ≡ Some (stands_for x.value) → Below (value_tree_by stands_for (arrive q x r)) v
  arrive-below_value q x r v h e =
      subst (λ p. Below p v) (sym (map-arrive (λ (x : Marked T). stands_for x.value) q x r)) (arrive-below q (stands_for x.value) (value_tree_by stands_for r) v h e)

  pub close-below_value : (q : Place) (n : ℕ) (r : Partial (Marked T)) (v : Value) (m : Unit {0}) (us : Values) → Below (value_tree_by stands_for r) v → at v q ≡ Some (list m us) → count us ≡ n → Below (value_tree_by stands_for (close_at q n r)) v
  close-below_value q n r v m us h e c =
      subst (λ p. Below p v) (sym (map-close (λ (x : Marked T). stands_for x.value) q n r)) (close-below q n (value_tree_by stands_for r) v m us h e c)

  pub whole-is_value : (r : Partial (Marked T)) (v : Value) → Below (value_tree_by stands_for r) v → whole r ≡ true → value_in (value_tree_by stands_for r) ≡ v
  whole-is_value r v h w = whole-is (value_tree_by stands_for r) v h (map-whole (λ (x : Marked T). stands_for x.value) r ∙ w)
