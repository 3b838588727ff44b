-- How an answer about a part tells of the whole.
use Rattle.std.proofs.Common.{◌≡◌, ◌∙◌, refl, sym, ap, subst, ℕ, zero, suc, ◌<◌, ◌≤◌, ◌+◌, List, [], ◌∷◌, ◌++◌, length, take, flat_map, Some, arith, get_or, slice_get, le_of_suc-le-suc}
use Rattle.tv_lemmas.proofs.Lists.{append-none, get-read}
use Rattle.tv_lemmas.proofs.Numbers.{none-after}
use Rattle.tv_naming.specs.Faulty.{CheckComplaint, first_of}
use Rattle.tv_naming.specs.FaultViews.{fault_view}
use Rattle.tv_naming.specs.Naming.{numbered}
use Rattle.tv_naming.specs.declared.faults.CheckRefused.{CheckRefused}
use Rattle.tv_naming.specs.declared.faults.CheckRefused.TheVariants.{Check, NoMemory}
use Rattle.tv_naming.specs.Told.{StopsAt}

-- the first of a list is the first of a longer one
pub first-left : (xs ys : List CheckComplaint) (c : CheckComplaint) → first_of xs ≡ Some c → first_of (xs ++ ys) ≡ Some c
first-left [] ys c e = cc
first-left (x ∷ xs) ys c e = e

pub stops-left : (xs ys : List CheckComplaint) (e : CheckRefused) → StopsAt xs e → StopsAt (xs ++ ys) e
stops-left xs ys (Check f) h = first-left xs ys (fault_view f) h
stops-left xs ys NoMemory h = tt

pub stops-right : (xs ys : List CheckComplaint) (e : CheckRefused) → xs ≡ [] → StopsAt ys e → StopsAt (xs ++ ys) e
stops-right xs ys e n h = subst (λ zs. StopsAt (zs ++ ys) e) (sym n) h

-- ---- item by item

module _ {A : Type 0} (g : A → List CheckComplaint) where
  -- nothing is said of the first so many
  abbrev pub Silent : List A → ℕ → Type 0
  Silent xs i = flat_map g (take i xs) ≡ []

  pub silent-all : (xs : List A) (i : ℕ) → length xs ≤ i → Silent xs i → flat_map g xs ≡ []
  silent-all [] i h e = refl
  silent-all (x ∷ xs) zero h e = none-after (length xs) h
  silent-all (x ∷ xs) (suc i) h e =
      let f = append-none (g x) (flat_map g (take i xs)) e in
      ap (λ ys. ys ++ flat_map g xs) f.0 ∙ silent-all xs i (le_of_suc-le-suc {n = length xs} {m = i} h) f.1

  silent-suc : (xs : List A) (i : ℕ) (x : A) → slice_get xs i ≡ Some x → Silent xs i → g x ≡ [] → flat_map g (take (suc i) xs) ≡ []
  silent-suc [] i x e s h = cc
  silent-suc (y ∷ ys) zero x e s h =
      let f : y ≡ x = cc in
      ap (λ cs. cs ++ flat_map g (take zero ys)) (subst (λ z. g z ≡ []) (sym f) h)
  silent-suc (y ∷ ys) (suc i) x e s h =
      let f = append-none (g y) (flat_map g (take i ys)) s in
      ap (λ cs. cs ++ flat_map g (take (suc i) ys)) f.0 ∙ silent-suc ys i x e f.1 h

  pub silent-more : (xs : List A) (i : ℕ) (x : A) → slice_get xs i ≡ Some x → Silent xs i → g x ≡ [] → Silent xs (i + 1)
  silent-more xs i x e s h = let n : suc i ≡ i + 1 = omega arith in subst (λ j. flat_map g (take j xs) ≡ []) n (silent-suc xs i x e s h)

  -- the first complaint of the next is that of all
  pub stops-next : (xs : List A) (i : ℕ) (x : A) (e : CheckRefused) → slice_get xs i ≡ Some x → Silent xs i → StopsAt (g x) e → StopsAt (flat_map g xs) e
  stops-next [] i x e s n h = cc
  stops-next (y ∷ ys) zero x e s n h =
      let f : x ≡ y = cc in
      stops-left (g y) (flat_map g ys) e (subst (λ z. StopsAt (g z) e) f h)
  stops-next (y ∷ ys) (suc i) x e s n h =
      let f = append-none (g y) (flat_map g (take i ys)) n in
      stops-right (g y) (flat_map g ys) e f.0 (stops-next ys i x e s f.1 h)

-- ---- the items of a list of code things

get-numbered-from : {A : Type 0} (k : ℕ) (xs : List A) (i : ℕ) (x : A) → slice_get xs i ≡ Some x → slice_get (numbered k xs) i ≡ Some (k + i, x)
get-numbered-from k [] i x e = cc
get-numbered-from k (y ∷ ys) zero x e = let f : y ≡ x = cc in let n : k ≡ k + 0 = omega arith in cc
get-numbered-from k (y ∷ ys) (suc i) x e = let n : suc k + i ≡ k + suc i = omega arith in get-numbered-from (suc k) ys i x e ∙ ap (λ (j : ℕ). Some (j, x)) n

pub get-numbered : {A : Type 0} (xs : List A) (i : ℕ) (x : A) → slice_get xs i ≡ Some x → slice_get (numbered 0 xs) i ≡ Some (i, x)
get-numbered xs i x e = let n : 0 + i ≡ i = omega arith in get-numbered-from 0 xs i x e ∙ ap (λ (j : ℕ). Some (j, x)) n

pub length-numbered : {A : Type 0} (k : ℕ) (xs : List A) → length (numbered k xs) ≡ length xs
length-numbered k [] = refl
length-numbered k (x ∷ xs) = ap suc (length-numbered (suc k) xs)

-- the item of a loop over what another list was made of
pub got-in : {A : Type 0} (xs ys : List A) (i : ℕ) (x : A) → xs ≡ ys → i < length xs → x ≡ get_or xs i x → slice_get ys i ≡ Some x
got-in xs ys i x e lt is = subst (λ zs. slice_get zs i ≡ Some x) e (get-read xs i x lt is)
