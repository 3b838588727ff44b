-- The first complaint of several lists, one after another.
use Rattle.std.specs.Prelude.{◌≡◌, ℕ, suc, ◌+◌, ◌<◌, ◌≤◌, List, [], ◌∷◌, ◌++◌, length, map, drop, flat_map, Bool, true, false, not, ◌&&◌, Option, Some, None, refl}
use Rattle.std.proofs.Common.{get_or, ap, sym, ◌∙◌, add-one, drop-cons}
use Rattle.std.specs.List.{list_all}
use Rattle.std.proofs.lemmas.List.{drop_all}
use Rattle.tv_flow.specs.Flows.{Feed, Flow}
use Rattle.tv_naming.specs.Faulty.{no_such_port, Where, CheckComplaint, plainly, first_of}
use Rattle.tv_naming.specs.Naming.{complain_if, numbered, is_there, feed_links, link_complaints}

-- what the first list says is said, and the second is asked where it says nothing
pub first-here : (c : CheckComplaint) (a b : List CheckComplaint) → Some c ≡ first_of a → Some c ≡ first_of (a ++ b)
first-here c [] b h = cc
first-here c (x ∷ a) b h = h

pub first-there : (o : Option CheckComplaint) (a b : List CheckComplaint) → None ≡ first_of a → o ≡ first_of b → o ≡ first_of (a ++ b)
first-there o [] b h g = g
first-there o (x ∷ a) b h g = cc

module _ {A B : Type 0} (f : B → List CheckComplaint) (v : A → B) where
  -- the first complaint from the i-th thing on
  abbrev pub from : ℕ → List A → Option CheckComplaint
  from i xs = first_of (flat_map f (map v (drop i xs)))

  turn : (xs : List A) (i : ℕ) (x : A) → i < length xs → x ≡ get_or xs i x → drop i xs ≡ x ∷ drop (i + 1) xs
  turn xs i x lt is = drop-cons xs i x lt ∙ ap (λ y. y ∷ drop (suc i) xs) (sym is) ∙ ap (λ j. x ∷ drop j xs) (sym (add-one i))

  pub skipped : (xs : List A) (i : ℕ) (x : A) → i < length xs → x ≡ get_or xs i x → None ≡ first_of (f (v x)) → from i xs ≡ from (i + 1) xs
  skipped xs i x lt is h =
      ap (λ ys. first_of (flat_map f (map v ys))) (turn xs i x lt is)
      ∙ sym (first-there (from (i + 1) xs) (f (v x)) (flat_map f (map v (drop (i + 1) xs))) h refl)

  pub stopped : (xs : List A) (i : ℕ) (x : A) (c : CheckComplaint) → i < length xs → x ≡ get_or xs i x → Some c ≡ first_of (f (v x)) → Some c ≡ from i xs
  stopped xs i x c lt is h =
      first-here c (f (v x)) (flat_map f (map v (drop (i + 1) xs))) h
      ∙ sym (ap (λ ys. first_of (flat_map f (map v ys))) (turn xs i x lt is))

  pub ended : (xs : List A) (i : ℕ) → length xs ≤ i → from i xs ≡ None
  ended xs i le = ap (λ ys. first_of (flat_map f (map v ys))) (drop_all i xs le)

-- the same of things with their positions
module _ {A B : Type 0} (f : ℕ × B → List CheckComplaint) (v : A → B) where
  abbrev pub from_numbered : ℕ → List A → Option CheckComplaint
  from_numbered i xs = first_of (flat_map f (numbered i (map v (drop i xs))))

  numbered_turn : (xs : List A) (i : ℕ) (x : A) → i < length xs → x ≡ get_or xs i x → numbered i (map v (drop i xs)) ≡ (i, v x) ∷ numbered (i + 1) (map v (drop (i + 1) xs))
  numbered_turn xs i x lt is =
      ap (λ ys. numbered i (map v ys)) (drop-cons xs i x lt ∙ ap (λ y. y ∷ drop (suc i) xs) (sym is))
      ∙ ap (λ j. (i, v x) ∷ numbered j (map v (drop j xs))) (sym (add-one i))

  pub numbered_skipped : (xs : List A) (i : ℕ) (x : A) → i < length xs → x ≡ get_or xs i x → None ≡ first_of (f (i, v x)) → from_numbered i xs ≡ from_numbered (i + 1) xs
  numbered_skipped xs i x lt is h =
      ap (λ ys. first_of (flat_map f ys)) (numbered_turn xs i x lt is)
      ∙ sym (first-there (from_numbered (i + 1) xs) (f (i, v x)) (flat_map f (numbered (i + 1) (map v (drop (i + 1) xs)))) h refl)

  pub numbered_stopped : (xs : List A) (i : ℕ) (x : A) (c : CheckComplaint) → i < length xs → x ≡ get_or xs i x → Some c ≡ first_of (f (i, v x)) → Some c ≡ from_numbered i xs
  numbered_stopped xs i x c lt is h =
      first-here c (f (i, v x)) (flat_map f (numbered (i + 1) (map v (drop (i + 1) xs)))) h
      ∙ sym (ap (λ ys. first_of (flat_map f ys)) (numbered_turn xs i x lt is))

  pub numbered_ended : (xs : List A) (i : ℕ) → length xs ≤ i → from_numbered i xs ≡ None
  numbered_ended xs i le = ap (λ ys. first_of (flat_map f (numbered i (map v ys)))) (drop_all i xs le)

-- ---- what is there and what isn't

pub quiet : (there : Bool) (c : CheckComplaint) → there ≡ true → None ≡ first_of (complain_if (not there) c)
quiet there c h = ap (λ b. first_of (complain_if (not b) c)) (sym h)

pub told : (there : Bool) (c : CheckComplaint) → there ≡ false → Some c ≡ first_of (complain_if (not there) c)
told there c h = ap (λ b. first_of (complain_if (not b) c)) (sym h)

module _ {A : Type 0} (p : A → Bool) (c : CheckComplaint) where
  abbrev pub each_not : List A → List CheckComplaint
  each_not xs = flat_map (λ x. complain_if (not (p x)) c) xs

  quiet-from : (b : Bool) (xs : List A) → (list_all p xs ≡ true → None ≡ first_of (each_not xs)) → (b && list_all p xs) ≡ true → None ≡ first_of (complain_if (not b) c ++ each_not xs)
  quiet-from true xs rest h = rest h
  quiet-from false xs rest h = cc

  pub all-quiet : (xs : List A) → list_all p xs ≡ true → None ≡ first_of (each_not xs)
  all-quiet [] h = refl
  all-quiet (x ∷ xs) h = quiet-from (p x) xs (all-quiet xs) h

  told-from : (b : Bool) (xs : List A) → (list_all p xs ≡ false → Some c ≡ first_of (each_not xs)) → (b && list_all p xs) ≡ false → Some c ≡ first_of (complain_if (not b) c ++ each_not xs)
  told-from true xs rest h = rest h
  told-from false xs rest h = refl

  pub all-told : (xs : List A) → list_all p xs ≡ false → Some c ≡ first_of (each_not xs)
  all-told [] h = cc
  all-told (x ∷ xs) h = told-from (p x) xs (all-told xs) h

-- the links of a feed
pub links-quiet : (flow : Flow) (w : Where) (feed : Feed) → list_all (is_there flow) (feed_links feed) ≡ true → None ≡ first_of (link_complaints flow w feed)
links-quiet flow w feed h = all-quiet (is_there flow) (plainly no_such_port w) (feed_links feed) h

pub links-told : (flow : Flow) (w : Where) (feed : Feed) → list_all (is_there flow) (feed_links feed) ≡ false → Some (plainly no_such_port w) ≡ first_of (link_complaints flow w feed)
links-told flow w feed h = all-told (is_there flow) (plainly no_such_port w) (feed_links feed) h
