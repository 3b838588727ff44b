-- What is found in a tree is what stands there in the value, and is found exactly where it is known.
use Rattle.std.specs.Prelude.{◌≡◌, refl, ℕ, zero, suc, true, false, [], ◌∷◌, ◌++◌, Some, None, is_some, option_and_then}
use Rattle.std.proofs.Common.{sym, ap, ◌∙◌, true≢false}
use Rattle.std.proofs.lemmas.Option.{same_Some}
use Rattle.std.specs.Cmp.{first_so, second_so}
use Rattle.std.proofs.lemmas.Bool.{and_from}
use Rattle.tv_value.specs.Nested.{leaf, list, no_trees, tree, Place, at, item_at}
use Rattle.tv_value.specs.Values.{Value}
use Rattle.tv_parts.specs.Partials.{Partial, wanting, item, growing, closed, Parts, no_parts, part, part_of, shows, whole, all_whole}
use Rattle.tv_parts.specs.Below.{Values, Below, FirstBelow, EachBelow, value_in, values_in}
use Rattle.tv_parts.proofs.Wholeness.{whole-is}
use Rattle.tv_outputs.specs.FoundIn.{found_in}
use Rattle.tv_outputs.proofs.Comparing.{found-none, found-whole, whole-found}

mutual
  pub found-there : (q : Place) (r : Partial Value) (v w : Value) → Below r v → found_in q r ≡ Some w → at v q ≡ Some w
  found-there [] r v w b h = let k = found-whole r w h in ap Some (sym (whole-is r v b k.0) ∙ k.1)
  found-there (i ∷ q) wanting v w b h = absurd (found-none (i ∷ q) w h)
  found-there (i ∷ q) (item u) v w b h = ap (λ x. at x (i ∷ q)) (sym b) ∙ h
  found-there (i ∷ q) (growing ps) (leaf n a) w b h = absurd b
  found-there (i ∷ q) (growing ps) (list n vs) w b h = first-there i q ps vs w b h
  found-there (i ∷ q) (closed ps) (leaf n a) w b h = absurd b
  found-there (i ∷ q) (closed ps) (list n vs) w b h = each-there i q ps vs w b h

  first-there : (i : ℕ) (q : Place) (ps : Parts Value) (vs : Values) (w : Value) → FirstBelow ps vs → found_in q (part_of ps i) ≡ Some w → option_and_then (λ u. at u q) (item_at vs i) ≡ Some w
  first-there i q no_parts vs w b h = absurd (found-none q w h)
  first-there i q (part p ps) no_trees w b h = absurd b
  first-there zero q (part p ps) (tree u us) w b h = found-there q p u w b.0 h
  first-there (suc i) q (part p ps) (tree u us) w b h = first-there i q ps us w b.1 h

  each-there : (i : ℕ) (q : Place) (ps : Parts Value) (vs : Values) (w : Value) → EachBelow ps vs → found_in q (part_of ps i) ≡ Some w → option_and_then (λ u. at u q) (item_at vs i) ≡ Some w
  each-there i q no_parts vs w b h = absurd (found-none q w h)
  each-there i q (part p ps) no_trees w b h = absurd b
  each-there zero q (part p ps) (tree u us) w b h = found-there q p u w b.0 h
  each-there (suc i) q (part p ps) (tree u us) w b h = each-there i q ps us w b.1 h

-- ---- what is known is found

-- nothing is known
shows-none : (s : Place) → shows {A = Value} wanting s ≡ true → ⊥
shows-none [] h = true≢false (sym h)
shows-none (i ∷ s) h = true≢false (sym h)

mutual
  shown-whole : (r : Partial Value) (v : Value) → Below r v → ((s : Place) → is_some (at v s) ≡ true → shows r s ≡ true) → whole r ≡ true
  shown-whole wanting v b k = absurd (true≢false (sym (k [] refl)))
  shown-whole (item u) v b k = refl
  shown-whole (growing ps) v b k = absurd (true≢false (sym (k [] refl)))
  shown-whole (closed ps) (leaf n a) b k = absurd b
  shown-whole (closed ps) (list n vs) b k = all-shown ps vs b (λ i s h. k (i ∷ s) h)

  all-shown : (ps : Parts Value) (vs : Values) → EachBelow ps vs → ((i : ℕ) (s : Place) → is_some (option_and_then (λ u. at u s) (item_at vs i)) ≡ true → shows (part_of ps i) s ≡ true) → all_whole ps ≡ true
  all-shown no_parts vs b k = refl
  all-shown (part p ps) no_trees b k = absurd b
  all-shown (part p ps) (tree u us) b k = and_from (whole p) (all_whole ps) (shown-whole p u b.0 (λ s h. k zero s h)) (all-shown ps us b.1 (λ i s h. k (suc i) s h))

mutual
  pub known-found : (q : Place) (r : Partial Value) (v w : Value) → Below r v → at v q ≡ Some w → ((s : Place) → is_some (at w s) ≡ true → shows r (q ++ s) ≡ true) → found_in q r ≡ Some w
  known-found [] r v w b h k =
      let same = same_Some v w h in
      let all = shown-whole r v b (λ s there. k s (ap (λ x. is_some (at x s)) (sym same) ∙ there)) in
      whole-found r all ∙ ap Some (whole-is r v b all ∙ same)
  known-found (i ∷ q) wanting v w b h k = absurd (shows-none (i ∷ q ++ []) (k [] refl))
  known-found (i ∷ q) (item u) v w b h k = ap (λ x. at x (i ∷ q)) b ∙ h
  known-found (i ∷ q) (growing ps) (leaf n a) w b h k = absurd b
  known-found (i ∷ q) (growing ps) (list n vs) w b h k = first-found i q ps vs w b h k
  known-found (i ∷ q) (closed ps) (leaf n a) w b h k = absurd b
  known-found (i ∷ q) (closed ps) (list n vs) w b h k = each-found i q ps vs w b h k

  first-found : (i : ℕ) (q : Place) (ps : Parts Value) (vs : Values) (w : Value) → FirstBelow ps vs → option_and_then (λ u. at u q) (item_at vs i) ≡ Some w → ((s : Place) → is_some (at w s) ≡ true → shows (part_of ps i) (q ++ s) ≡ true) → found_in q (part_of ps i) ≡ Some w
  first-found i q no_parts vs w b h k = absurd (shows-none (q ++ []) (k [] refl))
  first-found i q (part p ps) no_trees w b h k = absurd b
  first-found zero q (part p ps) (tree u us) w b h k = known-found q p u w b.0 h k
  first-found (suc i) q (part p ps) (tree u us) w b h k = first-found i q ps us w b.1 h k

  each-found : (i : ℕ) (q : Place) (ps : Parts Value) (vs : Values) (w : Value) → EachBelow ps vs → option_and_then (λ u. at u q) (item_at vs i) ≡ Some w → ((s : Place) → is_some (at w s) ≡ true → shows (part_of ps i) (q ++ s) ≡ true) → found_in q (part_of ps i) ≡ Some w
  each-found i q no_parts vs w b h k = absurd (shows-none (q ++ []) (k [] refl))
  each-found i q (part p ps) no_trees w b h k = absurd b
  each-found zero q (part p ps) (tree u us) w b h k = known-found q p u w b.0 h k
  each-found (suc i) q (part p ps) (tree u us) w b h k = each-found i q ps us w b.1 h k

-- ---- what is found is known

mutual
  whole-shows : (r : Partial Value) (s : Place) → whole r ≡ true → is_some (at (value_in r) s) ≡ true → shows r s ≡ true
  whole-shows wanting s e h = absurd (true≢false (sym e))
  whole-shows (item u) [] e h = refl
  whole-shows (item u) (i ∷ s) e h = refl
  whole-shows (growing ps) s e h = absurd (true≢false (sym e))
  whole-shows (closed ps) [] e h = refl
  whole-shows (closed ps) (i ∷ s) e h = part-shows ps i s e h

  part-shows : (ps : Parts Value) (i : ℕ) (s : Place) → all_whole ps ≡ true → is_some (option_and_then (λ u. at u s) (item_at (values_in ps) i)) ≡ true → shows (part_of ps i) s ≡ true
  part-shows no_parts i s e h = absurd (true≢false (sym h))
  part-shows (part p ps) zero s e h = whole-shows p s (first_so (whole p) (all_whole ps) e) h
  part-shows (part p ps) (suc i) s e h = part-shows ps i s (second_so (whole p) (all_whole ps) e) h

pub found-known : (q : Place) (r : Partial Value) (w : Value) (s : Place) → found_in q r ≡ Some w → is_some (at w s) ≡ true → shows r (q ++ s) ≡ true
found-known [] r w s h k = let f = found-whole r w h in whole-shows r s f.0 (ap (λ x. is_some (at x s)) f.1 ∙ k)
found-known (i ∷ q) wanting w s h k = absurd (found-none (i ∷ q) w h)
found-known (i ∷ q) (item u) w s h k = refl
found-known (i ∷ q) (growing ps) w s h k = found-known q (part_of ps i) w s h k
found-known (i ∷ q) (closed ps) w s h k = found-known q (part_of ps i) w s h k

-- ---- inside what is whole

nothing-in : (q : Place) → found_in q wanting ≡ None
nothing-in [] = refl
nothing-in (i ∷ q) = refl

mutual
  whole-inside : (q : Place) (r : Partial Value) → whole r ≡ true → found_in q r ≡ at (value_in r) q
  whole-inside [] r e = whole-found r e
  whole-inside (i ∷ q) wanting e = absurd (true≢false (sym e))
  whole-inside (i ∷ q) (item u) e = refl
  whole-inside (i ∷ q) (growing ps) e = absurd (true≢false (sym e))
  whole-inside (i ∷ q) (closed ps) e = part-inside i q ps e

  part-inside : (i : ℕ) (q : Place) (ps : Parts Value) → all_whole ps ≡ true → found_in q (part_of ps i) ≡ option_and_then (λ u. at u q) (item_at (values_in ps) i)
  part-inside i q no_parts e = nothing-in q
  part-inside zero q (part p ps) e = whole-inside q p (first_so (whole p) (all_whole ps) e)
  part-inside (suc i) q (part p ps) e = part-inside i q ps (second_so (whole p) (all_whole ps) e)

pub found-in : (q : Place) (r : Partial Value) (w : Value) → found_in [] r ≡ Some w → found_in q r ≡ at w q
found-in q r w h = let f = found-whole r w h in whole-inside q r f.0 ∙ ap (λ x. at x q) f.1
