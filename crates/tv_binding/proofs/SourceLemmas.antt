-- Where what a feed delivers lies among the sources.
use Rattle.std.proofs.Common.{◌≡◌, ◌≤◌, ◌<◌, ℕ, zero, suc, ◌+◌, true, List, [], ◌∷◌, ◌++◌, length, map, take, get_or, Option, Some, None, refl, sym, ap, ◌∙◌, subst, zero-lt-suc}
use Rattle.std.specs.Prelude.{is_some, option_map, option_and_then, slice_get, slice_index_or}
use Rattle.std.proofs.lemmas.List.{length-map, take_all, take_more}
use Rattle.std.proofs.lemmas.Option.{same_Some, slice_get_read}
use Rattle.tv_lemmas.proofs.Numbers.{none-below, less-back, suc-less}
use Rattle.tv_lemmas.proofs.Tests.{from-false_true}
use Rattle.tv_value.specs.Nested.{Place, at}
use Rattle.tv_value.specs.Values.{Value}
use Rattle.tv_parts.specs.Partials.{Partial}
use Rattle.tv_cell.specs.declared.piece.Piece.{Piece}
use Rattle.tv_cell.specs.PieceValues.{piece_value, piece_values}
use Rattle.tv_naming.specs.Naming.{numbered}
use Rattle.tv_naming.proofs.Told.{get-numbered, length-numbered}
use Rattle.tv_check.specs.declared.feeds.NumberedLink.{NumberedLink}
use Rattle.tv_check.specs.declared.feeds.NumberedFeed.TheVariants.{Merge}
use Rattle.tv_check.specs.Turned.{links_of}
use Rattle.tv_outputs.specs.FoundIn.{found_in}
use Rattle.tv_outputs.specs.Known.{tree_in}
use Rattle.tv_outputs.proofs.PieceLemmas.{nothing-found}
use Rattle.tv_binding.specs.Found.{all_found}
use Rattle.tv_binding.specs.Sourced.{tree_from}

-- ---- inputs

pub input-within : (ps : List Piece) (x : ℕ) (q : Place) → is_some (option_and_then (λ v. at v q) (slice_get (piece_values ps) x)) ≡ true → x < length ps
input-within [] x q h = from-false_true h
input-within (p ∷ ps) zero q h = zero-lt-suc (length ps)
input-within (p ∷ ps) (suc x) q h = suc-less x (length ps) (input-within ps x q h)

pub input-is : (ps : List Piece) (x : ℕ) (q : Place) (p : Piece) → x < length ps → p ≡ get_or ps x p → option_and_then (λ v. at v q) (slice_get (piece_values ps) x) ≡ at (piece_value p) q
input-is [] x q p lt e = none-below x lt
input-is (r ∷ ps) zero q p lt e = ap (λ y. at (piece_value y) q) (sym e)
input-is (r ∷ ps) (suc x) q p lt e = input-is ps x q p (less-back x (length ps) lt) e

-- ---- outputs

tree-within : (trees : List (Partial Value)) (n : ℕ) (q : Place) → is_some (found_in q (tree_in trees n)) ≡ true → n < length trees
tree-within [] n q h = absurd (nothing-found q h)
tree-within (t ∷ ts) zero q h = zero-lt-suc (length ts)
tree-within (t ∷ ts) (suc n) q h = suc-less n (length ts) (tree-within ts n q h)

-- the output is there, and this is its tree
pub record OutputThere (trees : List (Partial Value)) (firsts : List ℕ) (s o : ℕ) (q : Place) : Type 0 where
  pub step : s < length firsts
  pub tree : slice_index_or firsts s 0 + o < length trees
  pub is : found_in q (tree_from trees (slice_get firsts s) o) ≡ found_in q (tree_in trees (slice_index_or firsts s 0 + o))

pub output-there : (trees : List (Partial Value)) (firsts : List ℕ) (s o : ℕ) (q : Place) → is_some (found_in q (tree_from trees (slice_get firsts s) o)) ≡ true → OutputThere trees firsts s o q
output-there trees [] s o q h = absurd (nothing-found q h)
output-there trees (f ∷ fs) zero o q h = record { step = zero-lt-suc (length fs); tree = tree-within trees (f + o) q h; is = refl }
output-there trees (f ∷ fs) (suc s) o q h =
    let r = output-there trees fs s o q h in
    record { step = suc-less s (length fs) r.step; tree = r.tree; is = r.is }

-- ---- all of some

pub each-found : (os : List (Option Value)) (i : ℕ) → is_some (all_found os) ≡ true → i < length os → is_some (slice_index_or os i None) ≡ true
each-found [] i h lt = none-below i lt
each-found (None ∷ os) i h lt = from-false_true h
each-found (Some v ∷ os) zero h lt = refl
each-found (Some v ∷ os) (suc i) h lt = each-found os i (others (all_found os) h) (less-back i (length os) lt)
  where
    others : (o : Option (List Value)) → is_some (option_map (λ vs. v ∷ vs) o) ≡ true → is_some o ≡ true
    others None h = h
    others (Some vs) h = refl

pub all-of : (vs : List Value) → all_found (map Some vs) ≡ Some vs
all-of [] = refl
all-of (v ∷ vs) = ap (option_map (λ us. v ∷ us)) (all-of vs)

-- where these are found, they are all
pub found-all : (os : List (Option Value)) (vs : List Value) → map Some vs ≡ os → all_found os ≡ Some vs
found-all os vs e = ap all_found (sym e) ∙ all-of vs

-- one more
pub one-more : {X : Type 0} (g : X → Value) (os : List (Option Value)) (xs more : List X) (x : X) (i : ℕ) → map Some (map g xs) ≡ take i os → more ≡ xs ++ x ∷ [] → i < length os → slice_index_or os i None ≡ Some (g x) → map Some (map g more) ≡ take (i + 1) os
one-more g os xs more x i h m lt e =
    ap (λ ys. map Some (map g ys)) m
    ∙ twice xs
    ∙ ap (λ us. us ++ Some (g x) ∷ []) h
    ∙ sym (take-more os i (Some (g x)) lt e)
  where
    twice : (ys : List _) → map Some (map g (ys ++ x ∷ [])) ≡ map Some (map g ys) ++ Some (g x) ∷ []
    twice [] = refl
    twice (y ∷ ys) = ap (λ us. Some (g y) ∷ us) (twice ys)

    take-more : (os : List (Option Value)) (i : ℕ) (o : Option Value) → i < length os → slice_index_or os i None ≡ o → take (i + 1) os ≡ take i os ++ o ∷ []
    take-more os i o lt e = take_more os i None lt ∙ ap (λ x. take i os ++ x ∷ []) e

pub found-more : (os : List (Option Value)) (ps more : List Piece) (p : Piece) (i : ℕ) → map Some (piece_values ps) ≡ take i os → more ≡ ps ++ p ∷ [] → i < length os → slice_index_or os i None ≡ Some (piece_value p) → map Some (piece_values more) ≡ take (i + 1) os
found-more = one-more piece_value

-- ---- lists by index

pub mapped-index : {A B : Type 0} (f : A → B) (xs : List A) (i : ℕ) (d : B) (x : A) → i < length xs → slice_get xs i ≡ Some x → slice_index_or (map f xs) i d ≡ f x
mapped-index f [] i d x lt e = none-below i lt
mapped-index f (y ∷ xs) zero d x lt e = ap f (same_Some y x e)
mapped-index f (y ∷ xs) (suc i) d x lt e = mapped-index f xs i d x (less-back i (length xs) lt) e

pub map-index : {A B : Type 0} (f : A → B) (xs : List A) (i : ℕ) (d : B) (e : A) → i < length xs → slice_index_or (map f xs) i d ≡ f (slice_index_or xs i e)
map-index f [] i d e lt = none-below i lt
map-index f (y ∷ xs) zero d e lt = refl
map-index f (y ∷ xs) (suc i) d e lt = map-index f xs i d e (less-back i (length xs) lt)

-- as many as are found
pub as-many : (ps : List Piece) (os : List (Option Value)) → map Some (piece_values ps) ≡ os → length ps ≡ length os
as-many ps os e = sym (length-map (piece_values ps) Some ∙ length-map ps piece_value) ∙ ap length e

pub some-inside : {A B : Type 0} (f : A → B) (o : Option A) → is_some (option_map f o) ≡ true → is_some o ≡ true
some-inside f None h = h
some-inside f (Some x) h = refl

-- ---- what is found by numbers

module _ {A : Type 0} (f : ℕ × A → Option Value) (xs : List A) where
  many : length (map f (numbered 0 xs)) ≡ length xs
  many = length-map (numbered 0 xs) f ∙ length-numbered 0 xs

  pub at-number : (i : ℕ) (x : A) → i < length xs → x ≡ get_or xs i x → slice_index_or (map f (numbered 0 xs)) i None ≡ f (i, x)
  at-number i x lt e = mapped-index f (numbered 0 xs) i None (i, x) (subst (λ n. i < n) (sym (length-numbered 0 xs)) lt) (get-numbered xs i x (slice_get_read xs (length xs) i x refl lt e))

  pub numbered-found : (i : ℕ) (x : A) → is_some (all_found (map f (numbered 0 xs))) ≡ true → i < length xs → x ≡ get_or xs i x → is_some (f (i, x)) ≡ true
  numbered-found i x h lt e = sym (ap is_some (at-number i x lt e)) ∙ each-found (map f (numbered 0 xs)) i h (subst (λ n. i < n) (sym many) lt)

  pub values-more : {X : Type 0} (g : X → Value) (ys more : List X) (y : X) (i : ℕ) (x : A) → map Some (map g ys) ≡ take i (map f (numbered 0 xs)) → more ≡ ys ++ y ∷ [] → i < length xs → x ≡ get_or xs i x → f (i, x) ≡ Some (g y) → map Some (map g more) ≡ take (i + 1) (map f (numbered 0 xs))
  values-more g ys more y i x h m lt e v = one-more g (map f (numbered 0 xs)) ys more y i h m (subst (λ n. i < n) (sym many) lt) (at-number i x lt e ∙ v)

  pub values-all : (vs : List Value) (i : ℕ) → map Some vs ≡ take i (map f (numbered 0 xs)) → length xs ≤ i → all_found (map f (numbered 0 xs)) ≡ Some vs
  values-all vs i h le = found-all (map f (numbered 0 xs)) vs (h ∙ take_all i (map f (numbered 0 xs)) (subst (λ n. n ≤ i) (sym many) le))

  pub numbered-more : (ps more : List Piece) (p : Piece) (i : ℕ) (x : A) → map Some (piece_values ps) ≡ take i (map f (numbered 0 xs)) → more ≡ ps ++ p ∷ [] → i < length xs → x ≡ get_or xs i x → f (i, x) ≡ Some (piece_value p) → map Some (piece_values more) ≡ take (i + 1) (map f (numbered 0 xs))
  numbered-more ps more p i x h m lt e v = found-more (map f (numbered 0 xs)) ps more p i h m (subst (λ n. i < n) (sym many) lt) (at-number i x lt e ∙ v)

  pub numbered-all : (row ps : List Piece) (i : ℕ) → row ≡ ps → map Some (piece_values ps) ≡ take i (map f (numbered 0 xs)) → length xs ≤ i → all_found (map f (numbered 0 xs)) ≡ Some (piece_values row)
  numbered-all row ps i e h le = found-all (map f (numbered 0 xs)) (piece_values row) (ap (λ qs. map Some (piece_values qs)) e ∙ h ∙ take_all i (map f (numbered 0 xs)) (subst (λ n. n ≤ i) (sym many) le))

-- the links of a merge are as many
pub links-many : (ls : List NumberedLink) → length (links_of (Merge ls)) ≡ length ls
links-many ls = length-map (numbered 0 ls) (λ (x : ℕ × NumberedLink). (Some x.0, x.1)) ∙ length-numbered 0 ls
