-- Equal places, either way round.
use Rattle.std.specs.Prelude.{◌≡◌, refl, Bool, true, false}
use Rattle.std.proofs.Common.{sym, subst, ◌∙◌}
use Rattle.tv_value.specs.Nested.{Place}
use Rattle.tv_strategy.specs.Splits.{same_place}
use Rattle.tv_strategy.proofs.PlaceLemmas.{same-equal, same-itself}

pub same-flips : (q r : Place) → same_place q r ≡ same_place r q
same-flips q r = by (same_place q r) (same_place r q) refl refl
  where
    by : (b c : Bool) → same_place q r ≡ b → same_place r q ≡ c → same_place q r ≡ same_place r q
    by true c e f = e ∙ sym (subst (λ s. same_place s q ≡ true) (same-equal q r e) (same-itself q))
    by false false e f = e ∙ sym f
    by false true e f = absurd (clash (same_place q r) e (subst (λ s. same_place q s ≡ true) (sym (same-equal r q f)) (same-itself q)))
      where
        clash : (b : Bool) → b ≡ false → b ≡ true → ⊥
        clash true i j = absurd (cc)
        clash false i j = absurd (cc)
