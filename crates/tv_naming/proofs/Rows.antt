-- The rows of a list of lists, as `before` reads them.
use Rattle.std.proofs.Common.{◌≡◌, ◌≢◌, ℕ, ◌<◌, Bool, true, false, cond, ◌&&◌, ◌||◌, suc, zero, eqb, ltb, List, [], ◌∷◌, ◌++◌, length, map, ◌^◌, refl, sym, ap, ◌∙◌, inl, inr, arith, get_or, get_or-set_other, get_or-set_same, Vec, Global}
use Rattle.std.proofs.Math.ListN.{set}
use Rattle.std.proofs.lemmas.Bool.{eq-eqb, ne_eqb, cases_eq}
use Rattle.std.proofs.lemmas.Option.{unwrap_or-slice_get}
use Rattle.std.proofs.lemmas.List.{get_or-map, map-set, length-map}
use Rattle.std.proofs.lemmas.List.Folds.{list_all-map}
use Rattle.std.specs.List.{list_all}
use Rattle.tv_naming.specs.graphs.Graphs.{Graph, before, is_graph, is_one_of}

pub before-get_or : (g : Graph) (v : ℕ) → before g v ≡ get_or g v []
before-get_or g v = unwrap_or-slice_get g v []

pub before-set_same : (g : Graph) (v : ℕ) (xs : List ℕ) → v < length g → before (set g v xs) v ≡ xs
before-set_same g v xs h = before-get_or (set g v xs) v ∙ get_or-set_same g v xs [] h

pub before-set_other : (g : Graph) (u v : ℕ) (xs : List ℕ) → u ≢ v → before (set g v xs) u ≡ before g u
before-set_other g u v xs h = before-get_or (set g v xs) u ∙ get_or-set_other g v u xs [] h ∙ sym (before-get_or g u)

pub is_one_of-push : (xs : List ℕ) (x y : ℕ) → is_one_of (xs ++ x ∷ []) y ≡ (is_one_of xs y || eqb y x)
is_one_of-push [] x y = grind arith
is_one_of-push (z ∷ zs) x y = grind (arith, is_one_of-push zs x y)

rows_within : (n : ℕ) (g : List (List ℕ)) (v : ℕ) → list_all (λ us. list_all (λ u. ltb u n) us) g ≡ true → list_all (λ u. ltb u n) (before g v) ≡ true
rows_within n [] v h = refl
rows_within n (us ∷ g) zero h = grind arith
rows_within n (us ∷ g) (suc v) h = rows_within n g v (grind arith)

pub row-within : (g : Graph) (v : ℕ) → is_graph g ≡ true → list_all (λ u. ltb u (length g)) (before g v) ≡ true
row-within g v h = rows_within (length g) g v (grind arith)

pub row-of : (ls : List (Vec ℕ Global)) (v : ℕ) (r : Vec ℕ Global) → v < length ls → r ≡ get_or ls v r → before (map (λ vs. vs.items) ls) v ≡ r.items
row-of ls v r h e = before-get_or (map (λ vs. vs.items) ls) v ∙ get_or-map (λ (vs : Vec ℕ Global). vs.items) ls v r [] h ∙ sym (ap (λ (vs : Vec ℕ Global). vs.items) e)

-- a row is written
pub row-set : (ls : List (Vec ℕ Global)) (v : ℕ) (r : Vec ℕ Global) (u : ℕ) → v < length ls → before (map (λ vs. vs.items) (set ls v r)) u ≡ cond (eqb u v) r.items (before (map (λ vs. vs.items) ls) u)
row-set ls v r u h =
    rw (map-set (λ (vs : Vec ℕ Global). vs.items) ls v r)
    (elim (cases_eq u v) [
      | inl e ↦ rw (e, eq-eqb v v refl) (before-set_same (map (λ (vs : Vec ℕ Global). vs.items) ls) v r.items (omega (arith, length-map {A = Vec ℕ Global} {B = List ℕ})))
      | inr ne ↦ rw (ne_eqb u v ne) (before-set_other (map (λ (vs : Vec ℕ Global). vs.items) ls) u v r.items ne)
    ])

-- a row gets one more at its end
pub row-push : (ls : List (Vec ℕ Global)) (at x : ℕ) (r r' : Vec ℕ Global) → at < length ls → r ≡ get_or ls at r → r'.items ≡ r.items ++ x ∷ [] →
    (u v : ℕ) → is_one_of (before (map (λ vs. vs.items) (set ls at r')) u) v ≡ (is_one_of (before (map (λ vs. vs.items) ls) u) v || (eqb u at && eqb v x))
row-push ls at x r r' h is pushed u v =
    ap (λ xs. is_one_of xs v) (row-set ls at r' u h)
    ∙ elim (cases_eq u at) [
      | inl e ↦
          rw (e, eq-eqb at at refl, pushed, row-of ls at r h is) (is_one_of-push r.items x v)
      | inr ne ↦ rw (ne_eqb u at ne) (grind arith)
    ]

-- one more empty row
pub rows-push_empty : (ls : List (Vec ℕ Global)) (r : Vec ℕ Global) → r.items ≡ [] → ((u : ℕ) → before (map (λ vs. vs.items) ls) u ≡ []) → (u : ℕ) → before (map (λ vs. vs.items) (ls ++ r ∷ [])) u ≡ []
rows-push_empty [] r e h zero = e
rows-push_empty [] r e h (suc u) = refl
rows-push_empty (x ∷ ls) r e h zero = h 0
rows-push_empty (x ∷ ls) r e h (suc u) = rows-push_empty ls r e (λ w. h (suc w)) u

pub all-fails : {X : Type 0} (p : X → Bool) (xs : List X) (i : ℕ) (d : X) → i < length xs → p (get_or xs i d) ≡ false → list_all p xs ≡ false
all-fails p [] i d h e = absurd (omega arith)
all-fails p (x ∷ xs) zero d h e = grind arith
all-fails p (x ∷ xs) (suc i) d h e = rw (all-fails p xs i d (omega arith) e) (grind arith)

pub is_graph-rows : (ls : List (Vec ℕ Global)) (b : Bool) → list_all (λ vs. list_all (λ u. ltb u (length ls)) vs.items) ls ≡ b → is_graph (map (λ vs. vs.items) ls) ≡ (ltb (length ls) (2 ^ 32) && b)
is_graph-rows ls b e =
    rw (length-map ls (λ (vs : Vec ℕ Global). vs.items), list_all-map (λ us. list_all (λ u. ltb u (length ls)) us) (λ (vs : Vec ℕ Global). vs.items) ls, e) refl
