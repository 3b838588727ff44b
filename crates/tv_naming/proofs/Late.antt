-- Lists of vertices: how often one stands in them, and what stands no earlier than what.
use Rattle.std.proofs.Common.{◌≡◌, ℕ, ◌+◌, ◌<◌, true, false, cond, eqb, List, [], ◌∷◌, ◌++◌, length, refl, sym, ◌∙◌, subst, inl, inr, arith}
use Rattle.std.proofs.lemmas.Bool.{eqb-true, or_cases}
use Rattle.std.proofs.lemmas.Bool.Decides.{nat_tests}
use Rattle.tv_naming.specs.graphs.Graphs.{Graph, is_one_of, comes_before}
use Rattle.tv_naming.specs.graphs.Leaving.{times, is_late, IsWay}
use Rattle.tv_naming.proofs.Rows.{is_one_of-push}

pub times-push : (xs : List ℕ) (x u : ℕ) → times (xs ++ x ∷ []) u ≡ times xs u + cond (eqb u x) 1 0
times-push [] x u = omega arith
times-push (y ∷ ys) x u = omega (arith, times-push ys x u)

pub times-member : (xs : List ℕ) (u : ℕ) → is_one_of xs u ≡ true → 0 < times xs u
times-member [] u h = cc
times-member (x ∷ xs) u h = grind (arith, times-member xs u)

pub member-times : (xs : List ℕ) (u : ℕ) → 0 < times xs u → is_one_of xs u ≡ true
member-times [] u h = absurd (omega arith)
member-times (x ∷ xs) u h = grind (arith, member-times xs u)

pub late-push : (xs : List ℕ) (x u w : ℕ) → is_late xs u w ≡ true → is_late (xs ++ x ∷ []) u w ≡ true
late-push [] x u w h = cc
late-push (y ∷ ys) x u w h = grind (arith, late-push ys x u w, is_one_of-push (y ∷ ys) x w)

pub late-end : (xs : List ℕ) (x u : ℕ) → is_one_of (xs ++ x ∷ []) u ≡ true → is_late (xs ++ x ∷ []) u x ≡ true
late-end [] x u h = grind (arith, nat_tests)
late-end (y ∷ ys) x u h = grind (arith, nat_tests, late-end ys x u, is_one_of-push (y ∷ ys) x x)

pub late-none : (xs : List ℕ) (u w : ℕ) → times xs u ≡ 0 → is_late xs u w ≡ false
late-none [] u w e = refl
late-none (x ∷ xs) u w e = grind (arith, late-none xs u w)

pub times-some : (rest popped : List ℕ) (r : ℕ) → 0 < times (rest ++ r ∷ popped) r
times-some [] popped r = grind (arith, nat_tests)
times-some (x ∷ rest) popped r = omega (arith, times-some rest popped r)

-- what stands no earlier than one that stands once is that, or stands after it
pub late-last : (rest popped : List ℕ) (r w : ℕ) → times (rest ++ r ∷ popped) r ≡ 1 → is_late (rest ++ r ∷ popped) r w ≡ true → is_one_of (r ∷ popped) w ≡ true
late-last [] popped r w once h = let no : is_late popped r w ≡ false = late-none popped r w (grind (arith, nat_tests)) in grind arith
late-last (x ∷ rest) popped r w once h =
    let other : eqb r x ≡ false = grind (arith, times-some rest popped r) in
    late-last rest popped r w (grind arith) (grind arith)

pub times-pushed : (rest popped : List ℕ) (x : ℕ) → is_one_of (rest ++ x ∷ popped) x ≡ true
times-pushed rest popped x = member-times (rest ++ x ∷ popped) x (times-some rest popped x)

module _ (g : Graph) where
  pub way-push : (ws : List ℕ) (x : ℕ) → IsWay g ws → ((w : ℕ) → is_one_of ws w ≡ true → comes_before g (length g) x w ≡ true) → IsWay g (ws ++ x ∷ [])
  way-push [] x k before = ((λ u h. cc), tt)
  way-push (w ∷ ws) x k before = (
    (λ u h. elim (or_cases (is_one_of ws u) (eqb u x) (sym (is_one_of-push ws x u) ∙ h)) [
      | inl old ↦ k.0 u old
      | inr e ↦ subst (λ (y : ℕ). comes_before g (length g) y w ≡ true) (sym (eqb-true u x e)) (before w (grind (arith, nat_tests)))
    ]),
    way-push ws x k.1 (λ v h. before v (grind arith)),
  )

  pub way-pop : (ws : List ℕ) (x : ℕ) → IsWay g (ws ++ x ∷ []) → IsWay g ws
  way-pop [] x k = tt
  way-pop (w ∷ ws) x k = ((λ u h. k.0 u (is_one_of-push ws x u ∙ grind arith)), way-pop ws x k.1)

  pub way-top : (ws : List ℕ) (x w : ℕ) → IsWay g (ws ++ x ∷ []) → is_one_of ws w ≡ true → comes_before g (length g) x w ≡ true
  way-top [] x w k h = cc
  way-top (v ∷ ws) x w k h =
      elim (or_cases (eqb w v) (is_one_of ws w) h) [
        | inl e ↦ subst (λ (y : ℕ). comes_before g (length g) x y ≡ true) (sym (eqb-true w v e)) (k.0 x (is_one_of-push ws x x ∙ grind (arith, nat_tests)))
        | inr old ↦ way-top ws x w k.1 old
      ]
