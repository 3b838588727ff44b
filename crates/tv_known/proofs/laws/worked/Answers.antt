use Rattle.std.specs.Fmt.{digits}
use Rattle.std.specs.Prelude.{◌≡◌, refl, ℕ, suc, true, false, List, [], ◌∷◌}
use Rattle.std.proofs.Common.{arith, ap, inl}
use Rattle.tv_lemmas.specs.Members.{Each, In}
use Rattle.tv_lemmas.proofs.Members.{each_in}
use Rattle.tv_value.specs.Nested.{Place}
use Rattle.tv_value.specs.Values.{JobName}
use Rattle.tv_history.specs.Tries.{NamedTry}
use Rattle.tv_known.specs.Once.{try_named}
use Rattle.tv_known.specs.Worked.{second, u}
use Rattle.tv_known.proofs.laws.worked.Goals as goal

abbrev first_try : NamedTry
first_try = (u, (0, 0, false))

abbrev second_try : NamedTry
second_try = (u, (0, 1, false))

abbrev third_try : NamedTry
third_try = (u, (1, 0, true))

abbrev other_try : NamedTry
other_try = (second, (0, 0, true))

abbrev Differ : NamedTry → NamedTry → Type 0
Differ x y = try_named y ≡ try_named x → ⊥

differ : (x : NamedTry) (ys : List NamedTry) → Each (Differ x) ys → (y : NamedTry) → In y ys → try_named y ≡ try_named x → ⊥
differ x ys h y i = each_in (Differ x) ys h y i

never-0 : {n : ℕ} → n ≡ suc n → ⊥
never-0 e = omega arith

never-1 : {n : ℕ} → suc n ≡ n → ⊥
never-1 e = omega arith

abbrev first_place : JobName → Place
first_place [] = []
first_place (k ∷ n) = k.1

never-u : second ≡ u → ⊥
never-u e = let f = ap first_place e in cc

abbrev Numbers : Type 0
Numbers = JobName × ℕ × ℕ

pub returns : goal.returns
unfolding digits
returns c = record {
  same = (refl, refl, refl);
  at_output = (refl, refl);
  nothing = (refl, refl);
  given = (refl, refl);
  inside = (refl, refl);
  each = (
    differ first_try (second_try ∷ third_try ∷ other_try ∷ [])
        (λ e. never-1 (ap (λ (p : Numbers). p.2) e), (λ e. never-1 (ap (λ (p : Numbers). p.1) e), (λ e. never-u (ap (λ (p : Numbers). p.0) e), tt))),
    (
      differ second_try (third_try ∷ other_try ∷ []) (λ e. never-1 (ap (λ (p : Numbers). p.1) e), (λ e. never-u (ap (λ (p : Numbers). p.0) e), tt)),
      (differ third_try (other_try ∷ []) (λ e. never-0 (ap (λ (p : Numbers). p.1) e), tt), (λ y i e. i, tt)),
    ),
  );
  none_twice = λ h. h.0 (u, (0, 0, true)) (inl refl) refl;
}
