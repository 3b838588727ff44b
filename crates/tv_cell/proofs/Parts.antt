-- What stands inside a piece.
use Rattle.std.specs.Prelude.{◌≡◌, ℕ, zero, suc, ◌-◌, ◌<◌, ◌≤◌, List, [], ◌∷◌, ◌++◌, length, take, drop, refl, true, Option, Some, None, is_some, option_and_then, ◌==◌, ◌&&◌, map, option_map, slice_get}
use Rattle.std.specs.Option.{option_copied}
use Rattle.std.proofs.Common.{arith, ap, sym, ◌∙◌, get_or, ne_eqb, true≢false, Bor}
use Rattle.std.proofs.lemmas.List.{take_all}
use Rattle.tv_lemmas.proofs.Options.{and_then-map}
use Rattle.tv_value.specs.Nested.{Place, at, children, item_at, leaf, trees_of}
use Rattle.tv_value.specs.Values as spec
use Rattle.tv_value.specs.Values.{ErrorDoc, Scalar, fault_value, list_value}
use Rattle.tv_value.specs.Views.{items_view, view}
use Rattle.tv_value.specs.declared.value.Items.{Items}
use Rattle.tv_value.specs.declared.value.Value.{Value}
use Rattle.tv_value.specs.declared.value.Value.TheViews as held
use Rattle.tv_value.proofs.Looking.{item_at-each}
use Rattle.tv_cell.specs.declared.piece.Piece.{Piece}
use Rattle.tv_cell.specs.declared.piece.Piece.TheVariants as plain
use Rattle.tv_cell.specs.declared.piece.Piece.TheViews as code
use Rattle.tv_cell.specs.Found.{found_value, document_of, with_depth}
use Rattle.tv_cell.specs.PieceValues.{piece_value, piece_values}
use Rattle.tv_value.specs.Sameness.{same_value}
use Rattle.tv_cell.specs.Sameness.{is_at}
use Rattle.tv_cell.specs.Soundness.{IsSound, is_sound}
use Rattle.tv_cell.proofs.PieceLemmas.{fault-value, list-value, list-view, part-sound, part-value, piece-sound, pieces-sound}

-- something stands there
abbrev pub Stands : spec.Value → Place → Type 0
Stands v q = is_some (at v q) ≡ true

-- ---- inside a list

within : (ps : List Piece) (i : ℕ) (r : Place) → Stands (list_value (trees_of (piece_values ps))) (i ∷ r) → i < length ps
within [] i r h = absurd (true≢false (sym h))
within (p ∷ ps) zero r h = omega arith
within (p ∷ ps) (suc i) r h = let k = within ps i r h in omega arith

pub inner-within : (p : Piece) (ps qs : List Piece) (q : Place) → p ≡ code.List ps → qs ≡ ps → 1 ≤ length q → Stands (piece_value p) q → get_or q 0 0 < length qs
inner-within p ps qs [] e f n h = omega arith
inner-within p ps qs (i ∷ r) e f n h =
    let k = within ps i r (ap (λ v. is_some (at v (i ∷ r))) (sym (ap piece_value e ∙ list-value ps)) ∙ h) in
    omega (arith, ap length f)

-- all indices but the first
rest-is : (i : ℕ) (r : Place) → take (length (i ∷ r) - 1) (drop 1 (i ∷ r)) ≡ r
rest-is i r = take_all (length (i ∷ r) - 1) r (omega arith)

pub inner-at : (p : Piece) (ps qs : List Piece) (q : Place) (x : Piece) → p ≡ code.List ps → qs ≡ ps → 1 ≤ length q → Stands (piece_value p) q → x ≡ get_or qs (get_or q 0 0) x → at (piece_value p) q ≡ at (piece_value x) (take (length q - 1) (drop 1 q))
inner-at p ps qs [] x e f n h g = absurd (omega arith)
inner-at p ps qs (i ∷ r) x e f n h g =
    let listed = ap piece_value e ∙ list-value ps in
    let k = within ps i r (ap (λ v. is_some (at v (i ∷ r))) (sym listed) ∙ h) in
    ap (λ v. at v (i ∷ r)) listed
    ∙ ap (option_and_then (λ u. at u r)) (item_at-each piece_value ps i x k)
    ∙ ap (λ (y : Piece). at (piece_value y) r) (sym (g ∙ ap (λ xs. get_or xs i x) f))
    ∙ ap (at (piece_value x)) (sym (rest-is i r))

pub inner-sound : (p : Piece) (ps qs : List Piece) (q : Place) (x : Piece) → p ≡ code.List ps → qs ≡ ps → 1 ≤ length q → Stands (piece_value p) q → x ≡ get_or qs (get_or q 0 0) x → IsSound p → IsSound x
inner-sound p ps qs q x e f n h g s =
    piece-sound qs (get_or q 0 0) x (inner-within p ps qs q e f n h) g (pieces-sound p ps qs e f s)

-- ---- inside a part

joined-step : (s q : Place) (o : Option spec.Value) → ((u : spec.Value) → at u (s ++ q) ≡ option_and_then (λ w. at w q) (at u s)) → option_and_then (λ u. at u (s ++ q)) o ≡ option_and_then (λ w. at w q) (option_and_then (λ u. at u s) o)
joined-step s q None f = refl
joined-step s q (Some u) f = f u

at-joined : (v : spec.Value) (s q : Place) → at v (s ++ q) ≡ option_and_then (λ w. at w q) (at v s)
at-joined v [] q = refl
at-joined v (i ∷ s) q = joined-step s q (item_at (children v) i) (λ u. at-joined u s q)

some-found : (o : Option spec.Value) → is_some o ≡ true → o ≡ Some (found_value o)
some-found (Some v) h = refl
some-found None h = absurd (true≢false (sym h))

found-joined : (o : Option spec.Value) (q : Place) → Stands (found_value o) q → at (found_value o) q ≡ Some (found_value (option_and_then (λ w. at w q) o))
found-joined (Some u) q h = some-found (at u q) h
found-joined None [] h = refl
found-joined None (i ∷ q) h = absurd (true≢false (sym h))

found-stands : (o : Option spec.Value) (q : Place) → is_some o ≡ true → Stands (found_value o) q → is_some (option_and_then (λ w. at w q) o) ≡ true
found-stands (Some u) q s h = h
found-stands None q s h = absurd (true≢false (sym s))

-- where the place of a part leads, once another is joined to it
joined-at :
    (c c' : Value) (s q j : Place)
    → c' ≡ c
    → j ≡ s ++ q
    → at (view c') j ≡ option_and_then (λ w. at w q) (at (view c) s)
joined-at c c' s q j e g = (λ i. at (view (e i)) (g i)) ∙ at-joined (view c) s q

pub part-joined :
    (p : Piece) (c c' : Value) (s q j : Place)
    → p ≡ plain.Part c s
    → c' ≡ c
    → j ≡ s ++ q
    → Stands (piece_value p) q
    → at (piece_value p) q ≡ Some (piece_value (plain.Part c' j))
part-joined p c c' s q j d e g h =
    let whole = ap piece_value d ∙ part-value c s in
    ap (λ v. at v q) whole
    ∙ found-joined (at (view c) s) q (ap (λ v. is_some (at v q)) (sym whole) ∙ h)
    ∙ ap (λ o. Some (found_value o)) (sym (joined-at c c' s q j e g))
    ∙ ap Some (sym (part-value c' j))

pub part-joined-sound :
    (p : Piece) (c c' : Value) (s q j : Place)
    → p ≡ plain.Part c s
    → c' ≡ c
    → j ≡ s ++ q
    → Stands (piece_value p) q
    → IsSound p
    → IsSound (plain.Part c' j)
part-joined-sound p c c' s q j d e g h k =
    let whole = ap piece_value d ∙ part-value c s in
    part-sound c' j ∙ ap is_some (joined-at c c' s q j e g)
    ∙ found-stands (at (view c) s) q (sym (ap is_sound d ∙ part-sound c s) ∙ k)
    (ap (λ v. is_some (at v q)) (sym whole) ∙ h)

-- ---- inside a fault

alone : (e : ErrorDoc) (q : Place) → Stands (fault_value e) q → at (fault_value e) q ≡ Some (fault_value e)
alone e [] h = refl
alone e (i ∷ q) h = absurd (true≢false (sym h))

pub fault-alone : (p : Piece) (c : Value) (s : Place) (d : ℕ) (q : Place) → p ≡ plain.Fault c s d → Stands (piece_value p) q → at (piece_value p) q ≡ Some (piece_value p)
fault-alone p c s d q e h =
    let whole = ap piece_value e ∙ fault-value c s d in
    let document = with_depth d (document_of (found_value (at (view c) s))) in
    ap (λ v. at v q) whole ∙ alone document q (ap (λ v. is_some (at v q)) (sym whole) ∙ h) ∙ ap Some (sym whole)

-- ---- whether something stands there

got : {X : Type 0} (f : X → spec.Value) (xs : List X) (i : ℕ) → item_at (trees_of (map f xs)) i ≡ option_map f (slice_get xs i)
got f [] i = refl
got f (x ∷ xs) zero = refl
got f (x ∷ xs) (suc i) = got f xs i

lent : (o : Option (Bor Value)) → option_map (λ b. view b.now) o ≡ option_map view (option_copied o)
lent None = refl
lent (Some b) = refl

-- the item of a list that is lent by its index
pub item-lent :
    (v : Value) (vs : Items) (us : List Value) (i : ℕ) (o : Option (Bor Value))
    → v ≡ held.List vs
    → trees_of (map view us) ≡ items_view vs
    → option_copied o ≡ slice_get us i
    → option_map (λ b. view b.now) o ≡ item_at (children (view v)) i
item-lent v vs us i o e f g =
    lent o ∙ ap (option_map view) g ∙ sym (got view us i)
    ∙ ap (λ ts. item_at ts i) f
    ∙ sym (ap (λ t. item_at (children t) i) (ap view e ∙ list-view vs))

-- what stands in a list stands in the item of the first index
pub first-at : {X : Type 0} (f : X → spec.Value) (t : spec.Value) (xs : List X) (q : Place) (o : Option X) → t ≡ list_value (trees_of (map f xs)) → 1 ≤ length q → o ≡ slice_get xs (get_or q 0 0) → option_and_then (λ x. at (f x) (take (length q - 1) (drop 1 q))) o ≡ at t q
first-at f t xs [] o e n g = absurd (omega arith)
first-at f t xs (i ∷ r) o e n g =
    (λ k. option_and_then (λ x. at (f x) (rest-is i r k)) (g k))
    ∙ sym (and_then-map f (λ u. at u r) (slice_get xs i))
    ∙ sym (ap (λ p. option_and_then (λ u. at u r) p) (got f xs i))
    ∙ sym (ap (λ v. at v (i ∷ r)) e)

pub first-stands : {X : Type 0} (f : X → spec.Value) (t : spec.Value) (xs : List X) (q : Place) (o : Option X) → t ≡ list_value (trees_of (map f xs)) → 1 ≤ length q → o ≡ slice_get xs (get_or q 0 0) → is_some (option_and_then (λ x. at (f x) (take (length q - 1) (drop 1 q))) o) ≡ is_some (at t q)
first-stands f t xs q o e n g = ap is_some (first-at f t xs q o e n g)

-- nothing stands inside a text or a fault
pub leaf-stands : (t : spec.Value) (a : Scalar) (q : Place) → t ≡ leaf tt a → (length q == 0) ≡ is_some (at t q)
leaf-stands t a [] e = ap (λ v. is_some (at v [])) (sym e)
leaf-stands t a (i ∷ q) e = ne_eqb (length (i ∷ q)) 0 (λ h. omega (arith, h)) ∙ ap (λ v. is_some (at v (i ∷ q))) (sym e)

pub leaf-is : (t u : spec.Value) (a : Scalar) (q : Place) → t ≡ leaf tt a → (length q == 0 && same_value t u) ≡ is_at t q u
leaf-is t u a [] e = refl
leaf-is t u a (i ∷ q) e = ap (λ b. b && same_value t u) (ne_eqb (length (i ∷ q)) 0 (λ h. omega (arith, h))) ∙ ap (λ v. is_at v (i ∷ q) u) (sym e)
