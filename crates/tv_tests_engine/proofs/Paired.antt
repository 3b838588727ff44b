-- A dot of two leaves that walk one list each, and a place of it.
use Rattle.std.proofs.Common.{◌≡◌, ℕ, List, [], ◌∷◌, length, refl, sym, ap, subst, arith}
use Rattle.tv_value.specs.Nested.{Place}
use Rattle.tv_value.specs.Values.{Name}
use Rattle.tv_value.specs.Strategies.{Strategy, dot, no_strategies, port, strategy}
use Rattle.tv_strategy.specs.Conditions.{Suits, HasPlaces, number_of}
use Rattle.tv_strategy.specs.Measures.{DotsAgree, strategy_depth}
use Rattle.tv_strategy.specs.Splits.{split as split_of}

abbrev paired : Strategy
paired = dot (strategy (port (97 ∷ [])) (strategy (port (98 ∷ [])) no_strategies))

abbrev ones : List (Name × ℕ)
ones = (97 ∷ [], 1) ∷ (98 ∷ [], 1) ∷ []

pub pair-suits : (s : Strategy) (mm : List (Name × ℕ)) → s ≡ paired → mm ≡ ones → Suits mm s
pair-suits s mm e f = subst (λ x. Suits mm x) (sym e) (subst (λ x. Suits x paired) (sym f) (record {
  leaves_differ = (refl, (refl, tt));
  dots_are_filled = (tt, (tt, tt));
  each_has_number = (refl, (refl, tt));
  sum_is_small = omega arith;
}))

pub pair-agrees : (s : Strategy) (mm : List (Name × ℕ)) → s ≡ paired → mm ≡ ones → DotsAgree (number_of mm) s
pair-agrees s mm e f = subst (λ x. DotsAgree (number_of mm) x) (sym e) (subst (λ x. DotsAgree (number_of x) paired) (sym f) ((tt, (tt, tt)), (refl, tt)))

pub pair-deep : (s : Strategy) (mm : List (Name × ℕ)) (q : Place) → s ≡ paired → mm ≡ ones → q ≡ 3 ∷ [] → length q ≡ strategy_depth (number_of mm) s
pair-deep s mm q e f g = subst (λ x. length q ≡ strategy_depth (number_of mm) x) (sym e) (subst (λ x. length q ≡ strategy_depth (number_of x) paired) (sym f) (ap length g))

pub pair-placed : (s : Strategy) (mm : List (Name × ℕ)) (q : Place) (ps : List (Name × Place)) → s ≡ paired → mm ≡ ones → q ≡ 3 ∷ [] → ps ≡ split_of (number_of mm) s q → HasPlaces mm ps s
pair-placed s mm q ps e f g h = subst (λ x. HasPlaces mm x s) (sym h)
    (subst (λ x. HasPlaces mm (split_of (number_of mm) x q) x) (sym e)
    (subst (λ x. HasPlaces x (split_of (number_of x) paired q) paired) (sym f)
    (subst (λ x. HasPlaces ones (split_of (number_of ones) paired x) paired) (sym g) (record {
      each_has_place = (refl, (refl, tt));
      have_lengths = (refl, (refl, tt));
    }))))
