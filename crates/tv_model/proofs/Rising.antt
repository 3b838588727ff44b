-- What becomes whole with an event: the prefixes of its place, from some length on.
use Rattle.std.specs.Prelude.{◌≡◌, refl, ℕ, zero, suc, ◌+◌, ◌==◌, Bool, true, false, not, ◌||◌, [], ◌∷◌, ◌++◌, Some, option_and_then}
use Rattle.std.proofs.Common.{arith, eq-eqb, sym, ap, ap₂, ◌∙◌, append_assoc, append-nil}
use Rattle.std.proofs.lemmas.Bool.{and_from, and_parts, true≢false}
use Rattle.std.proofs.lemmas.Option.{none-some, same_Some}
use Rattle.tv_value.specs.Nested.{leaf, list, no_trees, tree, Place, at, item_at}
use Rattle.tv_value.specs.Orders.{is_prefix}
use Rattle.tv_value.specs.Values.{JobName}
use Rattle.tv_strategy.specs.Origins.{Origin}
use Rattle.tv_strategy.specs.Iterations.{Iteration, Iterations}
use Rattle.tv_model.proofs.Wholeness.{Off, node-holds, off-same}
use Rattle.tv_model.specs.instance.Wholeness.{all_whole, is_new, is_whole, origin_at}

own-prefix : (q r : Place) → is_prefix q (q ++ r) ≡ true
own-prefix [] r = refl
own-prefix (i ∷ q) r = and_from (i == i) (is_prefix q (q ++ r)) (eq-eqb i i refl) (own-prefix q r)

-- what is whole is whole throughout
module _ (named : Place → JobName) (known : Origin → Bool) where
  mutual
    pub whole-inside : (t : Iteration) (q r : Place) (u : Iteration) → at t r ≡ Some u → is_whole named known q t ≡ true → is_whole named known (q ++ r) u ≡ true
    whole-inside t q [] u h w = ap₂ (λ x y. is_whole named known x y) (append-nil q) (sym (same_Some t u h)) ∙ w
    whole-inside (leaf s e) q (i ∷ r) u h w = absurd (none-some u h)
    whole-inside (list s ts) q (i ∷ r) u h w = wholes-inside ts q r 0 i i u (zero_left i) h ((and_parts (known (origin_at named q (list s ts))) (all_whole named known q 0 ts) w).1)
      where
        zero_left : (n : ℕ) → n ≡ 0 + n
        zero_left n = omega arith

    wholes-inside : (ts : Iterations) (q r : Place) (i k m : ℕ) (u : Iteration) → m ≡ i + k → option_and_then (λ x. at x r) (item_at ts k) ≡ Some u → all_whole named known q i ts ≡ true → is_whole named known (q ++ m ∷ r) u ≡ true
    wholes-inside no_trees q r i k m u l h w = absurd (none-some u h)
    wholes-inside (tree t ts) q r i zero m u l h w =
        ap (λ x. is_whole named known x u) (ap (λ n. q ++ n ∷ r) (same m i l) ∙ sym (append_assoc q (i ∷ []) r)) ∙ whole-inside t (q ++ i ∷ []) r u h ((and_parts (is_whole named known (q ++ i ∷ []) t) (all_whole named known q (suc i) ts) w).0)
      where
        same : (a b : ℕ) → a ≡ b + 0 → a ≡ b
        same a b f = omega arith
    wholes-inside (tree t ts) q r i (suc k) m u l h w =
        wholes-inside ts q r (suc i) k m u (next m i k l) h ((and_parts (is_whole named known (q ++ i ∷ []) t) (all_whole named known q (suc i) ts) w).1)
      where
        next : (a b c : ℕ) → a ≡ b + suc c → a ≡ suc b + c
        next a b c f = omega arith

module _ (named : Place → JobName) (known after hits : Origin → Bool) (with : (o : Origin) → after o ≡ (hits o || known o)) (p : Place) (own : (q : Place) (u : Iteration) → hits (origin_at named q u) ≡ true → q ≡ p) where
  abbrev pub rises : Place → Iteration → Bool
  rises q t = is_new (is_whole named known q t) (is_whole named after q t)

  -- PREFIXES: only they become whole
  pub rises-on_way : (t : Iteration) (q : Place) → rises q t ≡ true → is_prefix q p ≡ true
  rises-on_way t q h = by (is_prefix q p) refl
    where
      none-new : (a b : Bool) → b ≡ a → is_new a b ≡ false
      none-new true true e = refl
      none-new false false e = refl
      none-new true false e = refl
      none-new false true e = absurd (true≢false e)

      off : is_prefix q p ≡ false → Off p q
      off e r g = true≢false (sym (own-prefix q r) ∙ ap (is_prefix q) (sym g) ∙ e)

      by : (b : Bool) → is_prefix q p ≡ b → is_prefix q p ≡ true
      by true e = e
      by false e = absurd (true≢false (sym h ∙ none-new (is_whole named known q t) (is_whole named after q t) (off-same named known after hits with p own t q (off e))))

  -- FROM SOME LENGTH ON: where one becomes whole, so does each longer one
  pub rises-below : (t : Iteration) (q r s : Place) (u node : Iteration) → rises q t ≡ true → at t r ≡ Some u → at u s ≡ Some node → p ≡ (q ++ r) ++ s → known (origin_at named p node) ≡ false → rises (q ++ r) u ≡ true
  rises-below t q r s u node h a b e n =
      ap₂ (λ x y. is_new x y) (node-holds named known u (q ++ r) s node b (ap (λ x. known (origin_at named x node)) (sym e) ∙ n)) (whole-inside named after t q r u a ((and_parts (is_whole named after q t) (not (is_whole named known q t)) h).0))
