-- The values of pieces with their names, one more at a time.
use Rattle.std.specs.List.{list_all, zip}
use Rattle.std.specs.Prelude.{◌≡◌, ℕ, ◌+◌, ◌<◌, ◌≤◌, ◌&&◌, true, List, [], ◌∷◌, ◌++◌, get_or, length, map, take}
use Rattle.std.proofs.Common.{ap, ap₂, subst, sym, ◌∙◌}
use Rattle.std.proofs.lemmas.List.{get_or-map, length-map, map-append, take_all, take_more}
use Rattle.std.proofs.lemmas.List.Folds.{list_all-append}
use Rattle.std.proofs.lemmas.Slice.Zip.{firsts-zip, get_or-zip}
use Rattle.tv_value.specs.Values as spec
use Rattle.tv_value.specs.Values.{Name}
use Rattle.tv_flow.specs.Views.{each}
use Rattle.tv_flow.specs.declared.document.Feed.{Feed}
use Rattle.tv_cell.specs.PieceValues.{piece_value, piece_values}
use Rattle.tv_cell.specs.Soundness.{AreSound, is_sound}
use Rattle.tv_cell.specs.declared.piece.Piece.{Piece}
use Rattle.tv_naming.proofs.Lists.{list_all-at}
use Rattle.tv_run.specs.Tasks.{AreSoundOutputs}

-- two lists beside each other
module _ {A B K V : Type 0} (f : A → K) (g : B → V) (xs : List A) (ys : List B) (many : length ys ≡ length xs) where
  abbrev both : List (K × V)
  both = zip (map f xs) (map g ys)

  both-many : length both ≡ length xs
  both-many =
      sym (length-map both (λ (p : K × V). p.0))
      ∙ ap length (firsts-zip (map f xs) (map g ys) (length-map ys g ∙ many ∙ sym (length-map xs f)))
      ∙ length-map xs f

  both-next : (i : ℕ) (x : A) (y : B) → i < length xs → x ≡ get_or xs i x → y ≡ get_or ys i y
      → take (i + 1) both ≡ take i both ++ (f x, g y) ∷ []
  both-next i x y low h k =
      take_more both i (f x, g y) (subst (λ n. i < n) (sym both-many) low)
      ∙ ap (λ z. take i both ++ z ∷ [])
      (get_or-zip (map f xs) (map g ys) i (f x, g y) (subst (λ n. i < n) (sym (length-map xs f)) low)
      (subst (λ n. i < n) (sym (length-map ys g ∙ many)) low)
      ∙ ap₂ (λ a b. (a, b))
      (get_or-map f xs i x (f x) low ∙ ap f (sym h))
      (get_or-map g ys i y (g y) (subst (λ n. i < n) (sym many) low) ∙ ap g (sym k)))

  both-all : (i : ℕ) → length xs ≤ i → take i both ≡ both
  both-all i past = take_all i both (subst (λ n. n ≤ i) (sym both-many) past)

-- names and the values of pieces
module _ (names : List (Name × Feed)) (ps : List Piece) (many : length ps ≡ length names) where
  abbrev pub named_values : List (Name × spec.Value)
  named_values = zip (map (λ n. n.0) names) (piece_values ps)

  pub named-next :
      (i : ℕ) (n : Name × Feed) (p : Piece) → i < length ps → n ≡ get_or names i n → p ≡ get_or ps i p
      → (before after : List (Name × Piece)) (m : Name) (w : Piece) → m ≡ n.0 → w ≡ p
      → each piece_value before ≡ take i named_values → after ≡ before ++ (m, w) ∷ []
      → each piece_value after ≡ take (i + 1) named_values
  named-next i n p low h k before after m w own worth so e =
      ap (each piece_value) e
      ∙ map-append (λ (x : Name × Piece). (x.0, piece_value x.1)) before ((m, w) ∷ [])
      ∙ ap₂ (λ l x. l ++ x ∷ []) so (λ j. (own j, piece_value (worth j)))
      ∙ sym (both-next (λ (x : Name × Feed). x.0) piece_value names ps many i n p (subst (λ l. i < l) many low) h k)

  -- one more that points at something throughout
  pub sound-next :
      AreSound ps → (i : ℕ) (p : Piece) → i < length ps → p ≡ get_or ps i p
      → (before after : List (Name × Piece)) (m : Name) (w : Piece) → w ≡ p
      → AreSoundOutputs before → after ≡ before ++ (m, w) ∷ [] → AreSoundOutputs after
  sound-next all i p low there before after m w same so e =
      let here : is_sound w ≡ true = ap is_sound (same ∙ there) ∙ list_all-at is_sound ps i p all low in
      ap (list_all (λ (o : Name × Piece). is_sound o.1)) e
      ∙ list_all-append (λ (o : Name × Piece). is_sound o.1) before ((m, w) ∷ [])
      ∙ ap₂ (λ a b. a && (b && true)) so here

  pub named-all : (i : ℕ) → length ps ≤ i → take i named_values ≡ named_values
  named-all i past = both-all (λ (x : Name × Feed). x.0) piece_value names ps many i (subst (λ l. l ≤ i) many past)
