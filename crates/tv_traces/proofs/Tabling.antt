-- The table of levels: with one more.
use Rattle.std.specs.BTreeMap.{BTreeMap, Updates, get}
use Rattle.std.specs.Ordering.{is_eq}
use Rattle.std.specs.Prelude.{◌≡◌, refl, ℕ, suc, ◌+◌, ◌<◌, ◌⊎◌, Bool, true, false, List, [], ◌∷◌, ◌++◌, length, map, take, Option, Some, None, option_map}
use Rattle.std.proofs.Common.{arith, sym, ap, subst, ◌∙◌, get_or, inl, inr}
use Rattle.std.proofs.lemmas.Option.{none-some, same_Some}
use Rattle.std.specs.Cmp.Lexicographic.{texts_ties}
use Rattle.tv_lemmas.specs.Members.{In}
use Rattle.tv_lemmas.proofs.Lists.{take-next}
use Rattle.tv_value.specs.Nested.{Place}
use Rattle.tv_value.specs.Orders.{place_cmp, same_name}
use Rattle.tv_value.proofs.NameLemmas.{same_name-is, same_name-refl}
use Rattle.tv_frame.specs.Levels as levels
use Rattle.tv_frame.specs.Views.{level_view, what_view}
use Rattle.tv_frame.specs.declared.level.Level.{Level}
use Rattle.tv_frame.specs.declared.level.What.{What}
use Rattle.tv_traces.specs.Tables.{IsFrom, IsTableOf}
use Rattle.tv_traces.specs.Tabled.{told_in}
use Rattle.tv_traces.proofs.GrowingLemmas.{in-end, in-front}
use Rattle.tv_lineage.proofs.Seeing.{last as in-last}

abbrev front : ℕ → Place → ℕ
front d [] = d
front d (i ∷ q) = i

abbrev rest : Place → Place
rest [] = []
rest (i ∷ q) = q

-- the table with one more level
module _ (found more : Place → Option What) (key : Place) (l : Level) (key_is : key ≡ l.step ∷ l.place) (here : more key ≡ Some l.what) (there : (q : Place) → (q ≡ key → ⊥) → more q ≡ found q) (ls : List levels.Level) where
  at-key : (n : ℕ) (q : Place) → ((n ∷ q ≡ key) ⊎ (n ∷ q ≡ key → ⊥))
  at-key n q = by (same_name (n ∷ q) key) refl
    where
      no : true ≡ false → ⊥
      no h = cc

      by : (b : Bool) → same_name (n ∷ q) key ≡ b → ((n ∷ q ≡ key) ⊎ (n ∷ q ≡ key → ⊥))
      by true e = inl (same_name-is (n ∷ q) key e)
      by false e = inr (λ f. no (sym (subst (λ k. same_name (n ∷ q) k ≡ true) f (same_name-refl (n ∷ q))) ∙ e))

  pub one-told : IsTableOf ls (told_in found) → IsTableOf (ls ++ level_view l ∷ []) (told_in more)
  one-told h = record {
    told = λ x i. told x (in-end x (level_view l) ls i);
    from = λ n q w e. from n q w e (at-key n q);
  }
    where
      told : (x : levels.Level) → In x ls ⊎ (x ≡ level_view l) → (w : levels.What) × (told_in more x.step x.place ≡ Some w)
      told x (inr e) = (what_view l.what, ap (λ (y : levels.Level). told_in more y.step y.place) e ∙ ap (λ k. option_map what_view (more k)) (sym key_is) ∙ ap (option_map what_view) here)
      told x (inl i) = by (at-key x.step x.place)
        where
          by : ((x.step ∷ x.place ≡ key) ⊎ (x.step ∷ x.place ≡ key → ⊥)) → (w : levels.What) × (told_in more x.step x.place ≡ Some w)
          by (inl e) = (what_view l.what, ap (λ k. option_map what_view (more k)) e ∙ ap (option_map what_view) here)
          by (inr f) = let w = h.told x i in (w.0, ap (option_map what_view) (there (x.step ∷ x.place) f) ∙ w.1)

      from : (n : ℕ) (q : Place) (w : levels.What) → told_in more n q ≡ Some w → ((n ∷ q ≡ key) ⊎ (n ∷ q ≡ key → ⊥)) → IsFrom (ls ++ level_view l ∷ []) n q w
      from n q w e (inl f) =
          let g : n ∷ q ≡ l.step ∷ l.place = f ∙ key_is in
          record {
            level = level_view l;
            among = in-last (level_view l) ls;
            of_step = sym (ap (front 0) g);
            place = sym (ap rest g);
            is = same_Some (what_view l.what) w (sym (ap (λ k. option_map what_view (more k)) f ∙ ap (option_map what_view) here) ∙ e);
          }
      from n q w e (inr f) =
          let x = h.from n q w (sym (ap (option_map what_view) (there (n ∷ q) f)) ∙ e) in
          record { level = x.level; among = in-front x.level (level_view l) ls x.among; of_step = x.of_step; place = x.place; is = x.is }

pub table-none : (found : Place → Option What) → ((q : Place) → found q ≡ None) → IsTableOf [] (told_in found)
table-none found f = record { told = λ x i. absurd i; from = λ n q w e. absurd (none-some w (sym (ap (option_map what_view) (f (n ∷ q))) ∙ e)) }

pub table-more : (s t : BTreeMap Place What) (key : Place) (xs : List Level) (i : ℕ) (l : Level) → i < length xs → l ≡ get_or xs i l → (q : Place) → key ≡ l.step ∷ q → q ≡ l.place → Updates place_cmp s t key (Some l.what) → IsTableOf (map level_view (take i xs)) (told_in (get place_cmp s)) → IsTableOf (map level_view (take (i + 1) xs)) (told_in (get place_cmp t))
table-more s t key xs i l lt is q e f u h =
    let one : suc i ≡ i + 1 = omega arith in
    subst (λ ls. IsTableOf ls (told_in (get place_cmp t)))
    (sym (ap (map level_view) (ap (λ n. take n xs) (sym one) ∙ take-next xs i l lt is) ∙ Rattle.std.proofs.lemmas.List.map-append level_view (take i xs) (l ∷ [])))
    (one-told (get place_cmp s) (get place_cmp t) key l (e ∙ ap (λ p. l.step ∷ p) f) u.1 (λ r g. u.2 r (off r g (same_name key r) refl)) (map level_view (take i xs)) h)
  where
    off : (r : Place) → (r ≡ key → ⊥) → (b : Bool) → same_name key r ≡ b → is_eq (place_cmp key r) ≡ false
    off r g true k = absurd (g (sym (same_name-is key r k)))
    off r g false k = sym (texts_ties key r) ∙ k
