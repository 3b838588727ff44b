-- Lists of which each is once in the other, seen by their names; and the leaves of a strategy, one by one.
use Rattle.std.specs.Prelude.{◌≡◌, ℕ, ◌+◌, ◌<◌, ◌≤◌, List, [], ◌∷◌, ◌++◌, length, map, drop, Bool, true, false, ◌&&◌, ◌==◌, count_by, refl}
use Rattle.std.specs.List.{list_all}
use Rattle.std.proofs.Common.{get_or, ap, sym, ◌∙◌, append_assoc}
use Rattle.std.proofs.lemmas.List.{append-nil, length-map}
use Rattle.tv_lemmas.proofs.Counts.{count-map}
use Rattle.tv_value.specs.Values.{Name}
use Rattle.tv_value.specs.Orders.{same_name}
use Rattle.tv_value.specs.Strategies.{Strategy}
use Rattle.tv_value.specs.Views.{strategies_of}
use Rattle.tv_value.proofs.TreeLemmas.{strategies_of-drop, strategies_of-end}
use Rattle.tv_naming.specs.Naming.{are_the_same}
use Rattle.tv_strategy.specs.Measures.{leaf_names, all_leaf_names}

-- each of the first is once among the second
pub once-named : {A B : Type 0} (f : A → Name) (g : B → Name) (ns : List A) (ms : List B) → list_all (λ n. count_by (λ m. same_name (f n) (g m)) ms == 1) ns ≡ list_all (λ n. count_by (same_name n) (map g ms) == 1) (map f ns)
once-named f g [] ms = refl
once-named f g (n ∷ ns) ms =
    ap (λ k. k == 1 && list_all (λ n. count_by (λ m. same_name (f n) (g m)) ms == 1) ns) (sym (count-map (same_name (f n)) g ms))
    ∙ ap (λ b. count_by (same_name (f n)) (map g ms) == 1 && b) (once-named f g ns ms)

module _ {X : Type 0} (f : X → Strategy) where
  -- the leaves so far, and those still to come
  abbrev pub leaves_from : ℕ → List X → List Name
  leaves_from i xs = all_leaf_names (strategies_of (map f (drop i xs)))

  pub leaves-more : (all before after : List Name) (xs : List X) (i : ℕ) (x : X) → i < length xs → x ≡ get_or xs i x → all ≡ before ++ leaves_from i xs → after ≡ before ++ leaf_names (f x) → all ≡ after ++ leaves_from (i + 1) xs
  leaves-more all before after xs i x lt is h e =
      h
      ∙ ap (λ ts. before ++ all_leaf_names ts) (strategies_of-drop f xs i x lt is)
      ∙ sym (append_assoc before (leaf_names (f x)) (leaves_from (i + 1) xs))
      ∙ ap (λ ns. ns ++ leaves_from (i + 1) xs) (sym e)

  pub leaves-end : (all before : List Name) (xs : List X) (i : ℕ) → length xs ≤ i → all ≡ before ++ leaves_from i xs → before ≡ all
  leaves-end all before xs i le h = sym (h ∙ ap (λ ts. before ++ all_leaf_names ts) (strategies_of-end f xs i le) ∙ append-nil before)

-- two lists of things of the code, seen by their names, are the same
pub same-named : {A B : Type 0} (f : A → Name) (g : B → Name) (ns : List A) (ms : List B) → are_the_same (map f ns) (map g ms) ≡ ((length ns == length ms) && list_all (λ n. count_by (λ m. same_name (f n) (g m)) ms == 1) ns && list_all (λ m. count_by (λ n. same_name (g m) (f n)) ns == 1) ms)
same-named f g ns ms =
    ap (λ b. b && list_all (λ n. count_by (same_name n) (map g ms) == 1) (map f ns) && list_all (λ m. count_by (same_name m) (map f ns) == 1) (map g ms)) (ap (λ k. k == length (map g ms)) (length-map ns f) ∙ ap (λ k. length ns == k) (length-map ms g))
    ∙ ap (λ b. (length ns == length ms) && b && list_all (λ m. count_by (same_name m) (map f ns) == 1) (map g ms)) (sym (once-named f g ns ms))
    ∙ ap (λ b. (length ns == length ms) && list_all (λ n. count_by (λ m. same_name (f n) (g m)) ms == 1) ns && b) (sym (once-named g f ms ns))

pub not-second : (a b c : Bool) → b ≡ false → false ≡ (a && b && c)
not-second true b c h = ap (λ b. b && c) (sym h)
not-second false b c h = refl

pub all-three : (a b c : Bool) → a ≡ true → b ≡ true → c ≡ (a && b && c)
all-three a b c g h = ap (λ b. b && c) (sym h) ∙ ap (λ a. a && b && c) (sym g)
