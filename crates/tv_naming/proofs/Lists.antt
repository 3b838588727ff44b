-- Lists made piece by piece.
use Rattle.std.specs.Prelude.{◌≡◌, ℕ, zero, suc, ◌+◌, ◌<◌, ◌≤◌, List, [], ◌∷◌, ◌++◌, length, map, take, flat_map, filter_map, filter, find, Option, Some, option_map, Bool, true, false, ◌&&◌, ◌||◌, refl}
use Rattle.std.specs.List.{cons_option, list_all, list_any}
use Rattle.std.proofs.Common.{get_or, ap, sym, subst, ◌∙◌, append_assoc, arith, cond}
use Rattle.std.proofs.lemmas.List.{take_more, take_all, append-nil, map-append}
use Rattle.std.proofs.lemmas.List.Elements.{filter_map-append}
use Rattle.std.proofs.lemmas.Grind.{flat_map-append}
use Rattle.std.proofs.lemmas.Bool.{and_parts}
use Rattle.tv_lemmas.specs.Members.{Each}

module _ {X Y : Type 0} where
  pub flat_map-map : {Z : Type 0} (f : Y → List Z) (v : X → Y) (xs : List X) → flat_map f (map v xs) ≡ flat_map (λ x. f (v x)) xs
  flat_map-map f v [] = refl
  flat_map-map f v (x ∷ xs) = ap (λ ys. f (v x) ++ ys) (flat_map-map f v xs)

  pub filter_map-pieces : (h : X → Option Y) (xs : List X) → filter_map h xs ≡ flat_map (λ x. filter_map h (x ∷ [])) xs
  filter_map-pieces h [] = refl
  filter_map-pieces h (x ∷ xs) = filter_map-append h (x ∷ []) xs ∙ ap (λ ys. filter_map h (x ∷ []) ++ ys) (filter_map-pieces h xs)

pub list_any-map : {X Y : Type 0} (p : Y → Bool) (v : X → Y) (xs : List X) → list_any (λ x. p (v x)) xs ≡ list_any p (map v xs)
list_any-map p v [] = refl
list_any-map p v (x ∷ xs) = ap (λ b. p (v x) || b) (list_any-map p v xs)

pub take-step : {X : Type 0} (xs : List X) (i : ℕ) (x : X) → i < length xs → x ≡ get_or xs i x → take (i + 1) xs ≡ take i xs ++ x ∷ []
take-step xs i x lt is = take_more xs i x lt ∙ ap (λ y. take i xs ++ y ∷ []) (sym is)

-- one more piece, of what is made of parts
module _ {X N M : Type 0} (h : N → Option M) (f : X → List N) where
  pub one-more : (old so_far new : List M) (xs : List X) (i : ℕ) (x : X) → i < length xs → x ≡ get_or xs i x → so_far ≡ old ++ filter_map h (flat_map f (take i xs)) → new ≡ so_far ++ filter_map h (f x) → new ≡ old ++ filter_map h (flat_map f (take (i + 1) xs))
  one-more old so_far new xs i x lt is e g =
      g
      ∙ ap (λ ms. ms ++ filter_map h (f x)) e
      ∙ append_assoc old (filter_map h (flat_map f (take i xs))) (filter_map h (f x))
      ∙ ap (λ ms. old ++ ms) (sym (filter_map-append h (flat_map f (take i xs)) (f x)) ∙ ap (filter_map h) (ap (λ ns. flat_map f (take i xs) ++ ns) (sym (append-nil (f x))) ∙ sym (flat_map-append f (take i xs) (x ∷ []))) ∙ ap (λ ys. filter_map h (flat_map f ys)) (sym (take-step xs i x lt is)))

  pub all-now : (old so_far : List M) (xs : List X) (i : ℕ) → length xs ≤ i → so_far ≡ old ++ filter_map h (flat_map f (take i xs)) → so_far ≡ old ++ filter_map h (flat_map f xs)
  all-now old so_far xs i past e = e ∙ ap (λ ys. old ++ filter_map h (flat_map f ys)) (take_all i xs past)

-- one more thing, where each has a part
pub map-more : {V W X : Type 0} (f : V → W) (g : X → W) (vs : List V) (v : V) (xs : List X) (i : ℕ) (x : X) → i < length xs → x ≡ get_or xs i x → map f vs ≡ map g (take i xs) → f v ≡ g x → map f (vs ++ v ∷ []) ≡ map g (take (i + 1) xs)
map-more f g vs v xs i x lt is e h =
    map-append f vs (v ∷ [])
    ∙ ap (λ ws. ws ++ f v ∷ []) e
    ∙ ap (λ w. map g (take i xs) ++ w ∷ []) h
    ∙ sym (map-append g (take i xs) (x ∷ []))
    ∙ ap (map g) (sym (take-step xs i x lt is))

pub map-now : {V W X : Type 0} (f : V → W) (g : X → W) (vs : List V) (xs : List X) (i : ℕ) → length xs ≤ i → map f vs ≡ map g (take i xs) → map f vs ≡ map g xs
map-now f g vs xs i past e = e ∙ ap (map g) (take_all i xs past)

pub map-same : {V W : Type 0} (f g : V → W) (vs : List V) → ((v : V) → f v ≡ g v) → map f vs ≡ map g vs
map-same f g [] h = refl
map-same f g (v ∷ vs) h = ap (λ w. w ∷ map f vs) (h v) ∙ ap (λ ws. g v ∷ ws) (map-same f g vs h)

pub filter_map-same : {V W : Type 0} (f g : V → Option W) (vs : List V) → ((v : V) → f v ≡ g v) → filter_map f vs ≡ filter_map g vs
filter_map-same f g [] h = refl
filter_map-same f g (v ∷ vs) h = ap (λ o. cons_option o (filter_map f vs)) (h v) ∙ ap (λ ws. cons_option (g v) ws) (filter_map-same f g vs h)

-- ---- what holds of each

pub each-at : {X : Type 0} (P : X → Type 0) (xs : List X) → ((k : ℕ) (d : X) → k < length xs → P (get_or xs k d)) → Each P xs
each-at P [] h = tt
each-at P (x ∷ xs) h = (h 0 x (omega arith), each-at P xs (λ k d lt. h (suc k) d (omega arith)))

pub list_all-at : {X : Type 0} (p : X → Bool) (xs : List X) (k : ℕ) (d : X) → list_all p xs ≡ true → k < length xs → p (get_or xs k d) ≡ true
list_all-at p [] k d h lt = absurd (omega arith)
list_all-at p (x ∷ xs) zero d h lt = (and_parts (p x) (list_all p xs) h).0
list_all-at p (x ∷ xs) (suc k) d h lt = list_all-at p xs k d (and_parts (p x) (list_all p xs) h).1 (omega arith)

-- ---- the first that passes

pub find-same : {X : Type 0} (P : X → Type 0) (p q : X → Bool) (xs : List X) → Each P xs → ((x : X) → P x → p x ≡ q x) → find p xs ≡ find q xs
find-same P p q [] e h = refl
find-same P p q (x ∷ xs) e h = ap (λ b. cond b (Some x) (find p xs)) (h x e.0) ∙ ap (λ o. cond (q x) (Some x) o) (find-same P p q xs e.1 h)

pub find-map : {X Y : Type 0} (p : Y → Bool) (f : X → Y) (xs : List X) → find p (map f xs) ≡ option_map f (find (λ x. p (f x)) xs)
find-map p f [] = refl
find-map p f (x ∷ xs) = cases (p (f x)) (find-map p f xs)
  where
    cases : (b : Bool) → find p (map f xs) ≡ option_map f (find (λ x. p (f x)) xs) → cond b (Some (f x)) (find p (map f xs)) ≡ option_map f (cond b (Some x) (find (λ x. p (f x)) xs))
    cases true h = refl
    cases false h = h

pub find-each : {X : Type 0} (P : X → Type 0) (p : X → Bool) (xs : List X) (x : X) → Each P xs → find p xs ≡ Some x → P x
find-each P p [] x e h = cc
find-each P p (y ∷ ys) x e h = cases (p y) h (find-each P p ys x e.1)
  where
    cases : (b : Bool) → cond b (Some y) (find p ys) ≡ Some x → (find p ys ≡ Some x → P x) → P x
    cases true h t = let s : y ≡ x = cc in subst P s e.0
    cases false h t = t h

module _ {X : Type 0} (p q : X → Bool) where
  pub find-filter : (xs : List X) → find p (filter q xs) ≡ find (λ x. q x && p x) xs
  find-filter [] = refl
  find-filter (x ∷ xs) = cases (q x) (find-filter xs)
    where
      cases : (b : Bool) → find p (filter q xs) ≡ find (λ x. q x && p x) xs → find p (cond b (x ∷ filter q xs) (filter q xs)) ≡ cond (b && p x) (Some x) (find (λ x. q x && p x) xs)
      cases true h = ap (λ o. cond (p x) (Some x) o) h
      cases false h = h

  pub filter-filter : (xs : List X) → filter p (filter q xs) ≡ filter (λ x. q x && p x) xs
  filter-filter [] = refl
  filter-filter (x ∷ xs) = cases (q x) (filter-filter xs)
    where
      cases : (b : Bool) → filter p (filter q xs) ≡ filter (λ x. q x && p x) xs → filter p (cond b (x ∷ filter q xs) (filter q xs)) ≡ cond (b && p x) (x ∷ filter (λ x. q x && p x) xs) (filter (λ x. q x && p x) xs)
      cases true h = ap (λ ys. cond (p x) (x ∷ ys) ys) h
      cases false h = h

  pub filter-same : (xs : List X) → ((x : X) → p x ≡ q x) → filter p xs ≡ filter q xs
  filter-same [] h = refl
  filter-same (x ∷ xs) h = ap (λ b. cond b (x ∷ filter p xs) (filter p xs)) (h x) ∙ ap (λ ys. cond (q x) (x ∷ ys) ys) (filter-same xs h)

pub map-each : {X Y : Type 0} (P : X → Type 0) (f g : X → Y) (xs : List X) → Each P xs → ((x : X) → P x → f x ≡ g x) → map f xs ≡ map g xs
map-each P f g [] e h = refl
map-each P f g (x ∷ xs) e h = ap (λ y. y ∷ map f xs) (h x e.0) ∙ ap (λ ys. g x ∷ ys) (map-each P f g xs e.1 h)

pub each-get : {X : Type 0} (P : X → Type 0) (xs : List X) → Each P xs → (k : ℕ) (d : X) → k < length xs → P (get_or xs k d)
each-get P [] e k d lt = absurd (omega arith)
each-get P (x ∷ xs) e zero d lt = e.0
each-get P (x ∷ xs) e (suc k) d lt = each-get P xs e.1 k d (omega arith)

pub pair-same : {X Y : Type 0} (p q : X × Y) → p.0 ≡ q.0 → p.1 ≡ q.1 → p ≡ q
pair-same (a, b) (c, d) e h = ap (λ x. (x, b)) e ∙ ap (λ y. (c, y)) h
