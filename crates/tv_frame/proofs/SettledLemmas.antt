-- What is left of the things that wait once the last of them is settled.
use Rattle.std.specs.Prelude.{◌≡◌, refl, ℕ, zero, suc, ◌-◌, ◌==◌, Bool, true, false, if◌then◌else◌, List, [], ◌∷◌, ◌++◌, length, map, take, IsPermutation, Some, slice_get}
use Rattle.std.specs.Cmp.Lexicographic.{bytes_decides}
use Rattle.std.proofs.Common.{sym, ap, subst, ◌∙◌, arith, append-nil, eq-eqb}
use Rattle.std.proofs.lemmas.Bool.{eqb-true, true≢false}
use Rattle.std.proofs.lemmas.List.Sorted.{IsPermutation-append_comm, IsPermutation-refl}
use Rattle.std.proofs.lemmas.Option.{none-some, same_Some}
use Rattle.tv_value.specs.Nested.{Place}
use Rattle.tv_value.specs.Orders.{same_name}
use Rattle.tv_value.specs.Values.{Name}
use Rattle.tv_flow.specs.Flows.{Step}
use Rattle.tv_lemmas.proofs.Cases.{on_test}
use Rattle.tv_naming.proofs.FormedParts.{steps-ascend}
use Rattle.tv_matching.specs.Matchers.{Outcome}
use Rattle.tv_framing.specs.Views.{View}
use Rattle.tv_framing.specs.engine.WiredFlows.{IsWired}
use Rattle.tv_framing.proofs.engine.Endings.{position-of}
use Rattle.tv_framing.specs.matches.Steps.{IsStepAt}
use Rattle.tv_framing.specs.matches.Waiting.{IsLeftBy}
use Rattle.tv_match.specs.Stated.{outcome_place}
use Rattle.tv_naming.specs.Numbers.{position}
use Rattle.tv_frame.specs.Kept.{things_of}
use Rattle.tv_frame.proofs.ShownLists.{things-append}

-- the last of a list, and those before it
last-at : {A : Type 0} (xs : List A) (n : ℕ) (x : A) → length xs ≡ suc n → slice_get xs n ≡ Some x → xs ≡ take n xs ++ x ∷ []
last-at [] n x l e = absurd (none-some x e)
last-at (y ∷ []) zero x l e = ap (λ z. z ∷ []) (same_Some y x e)
last-at (y ∷ z ∷ xs) zero x l e = absurd (omega arith)
last-at (y ∷ xs) (suc n) x l e = ap (λ l. y ∷ l) (last-at xs n x (omega arith) e)

pub last-split : {A : Type 0} (xs : List A) (x : A) → slice_get xs (length xs - 1) ≡ Some x → xs ≡ take (length xs - 1) xs ++ x ∷ []
last-split [] x e = absurd (none-some x e)
last-split (y ∷ xs) x e = last-at (y ∷ xs) (length (y ∷ xs) - 1) x (omega arith) e

module _ (v : View) (wired : IsWired v.flow) (n : ℕ) (s : Name × Step) (at : IsStepAt v n s) (all left : List (ℕ × Outcome)) (o : Outcome) (split : all ≡ left ++ (n, o) ∷ []) (c : ℕ) (t : Name × Step) (there : IsStepAt v c t) where
  parts : things_of c all ≡ things_of c left ++ things_of c ((n, o) ∷ [])
  parts = ap (things_of c) split ∙ things-append c left ((n, o) ∷ [])

  one : (b : Bool) → (n == c) ≡ b → things_of c ((n, o) ∷ []) ≡ (if b then o ∷ [] else [])
  one true h = ap (λ b. map (λ (x : ℕ × Outcome). x.1) (if b then (n, o) ∷ [] else [])) h
  one false h = ap (λ b. map (λ (x : ℕ × Outcome). x.1) (if b then (n, o) ∷ [] else [])) h

  same-numbers : same_name t.0 s.0 ≡ true → n ≡ c
  same-numbers h =
      let rise = steps-ascend v.flow wired.formed in
      sym (position-of v.flow.steps n s rise at)
      ∙ ap (λ m. position m v.flow.steps) (sym ((bytes_decides t.0 s.0).0 h))
      ∙ position-of v.flow.steps c t rise there

  same-names : n ≡ c → same_name t.0 s.0 ≡ true
  same-names h =
      let same : s ≡ t = same_Some s t (sym at ∙ ap (slice_get v.flow.steps) h ∙ there) in
      (bytes_decides t.0 s.0).1 (ap (λ (x : Name × Step). x.0) (sym same))

  pub left-by : (q : Place) → outcome_place o ≡ q → IsLeftBy (same_name t.0 s.0) (things_of c all) (things_of c left) q
  left-by q stands = by (same_name t.0 s.0) refl
    where
      by : (b : Bool) → same_name t.0 s.0 ≡ b → IsLeftBy b (things_of c all) (things_of c left) q
      by true h =
          record {
            gone = o;
            stands = stands;
            rest =
                subst (λ l. IsPermutation l (o ∷ things_of c left)) (sym (parts ∙ ap (λ l. things_of c left ++ l) (one true (eq-eqb n c (same-numbers h)))))
                (IsPermutation-append_comm (things_of c left) (o ∷ []));
          }
      by false h =
          let apart : (n == c) ≡ false = on_test (n == c) (λ e. absurd (true≢false (sym (same-names (eqb-true n c e)) ∙ h))) (λ e. e) in
          subst (λ l. IsPermutation l (things_of c left)) (sym (parts ∙ ap (λ l. things_of c left ++ l) (one false apart) ∙ append-nil (things_of c left)))
          (IsPermutation-refl (things_of c left))
