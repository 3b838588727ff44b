-- Joining the places of a list of strategies, child by child.
use Rattle.std.specs.Prelude.{◌≡◌, refl, [], ◌∷◌, ◌++◌, Bool, true, false, ◌==◌, if◌then◌else◌, Option, Some, None}
use Rattle.std.proofs.Common.{sym, ap, subst, ◌∙◌, append-nil, append_assoc}
use Rattle.std.proofs.lemmas.Bool.{eqb-true, eq-eqb, and_from}
use Rattle.std.specs.Cmp.{first_so, second_so}
use Rattle.tv_value.specs.Nested.{Place}
use Rattle.tv_value.specs.Values.{Name}
use Rattle.tv_value.specs.Strategies.{Strategy, Strategies, no_strategies, strategy}
use Rattle.tv_strategy.specs.Splits.{same_place, one_after, in_common, joined, joined_cross, joined_dot}

-- ---- equal places

pub same-equal : (q r : Place) → same_place q r ≡ true → q ≡ r
same-equal [] [] h = refl
same-equal [] (j ∷ r) h = absurd (cc)
same-equal (i ∷ q) [] h = absurd (cc)
same-equal (i ∷ q) (j ∷ r) h =
    ap (λ k. k ∷ q) (eqb-true i j (first_so (i == j) (same_place q r) h)) ∙ ap (λ s. j ∷ s) (same-equal q r (second_so (i == j) (same_place q r) h))

pub same-itself : (q : Place) → same_place q q ≡ true
same-itself [] = refl
same-itself (i ∷ q) = and_from (i == i) (same_place q q) (eq-eqb i i refl) (same-itself q)

-- ---- a cross

after-both : (p q : Place) (o : Option Place) → one_after (Some p) (one_after (Some q) o) ≡ one_after (Some (p ++ q)) o
after-both p q None = refl
after-both p q (Some r) = ap Some (sym (append_assoc p q r))

module _ (ports : Name → Place) where
  pub cross-next : (rest : Strategies) (c : Strategy) (cs : Strategies) (p q : Place) → rest ≡ strategy c cs → Some q ≡ joined ports c → one_after (Some p) (joined_cross ports rest) ≡ one_after (Some (p ++ q)) (joined_cross ports cs)
  cross-next rest c cs p q e h =
      ap (λ r. one_after (Some p) (joined_cross ports r)) e ∙ ap (λ o. one_after (Some p) (one_after o (joined_cross ports cs))) (sym h) ∙ after-both p q (joined_cross ports cs)

-- ---- a dot

-- what the rest gives, where this child has the place q too
abbrev pub still : Place → Option Place → Option Place → Option Place
still q None rest = None
still q (Some r) rest = if same_place q r then rest else None

module _ (ports : Name → Place) where
  -- the place q, where all of these have it
  abbrev pub all_at : Place → Strategies → Option Place
  all_at q no_strategies = Some q
  all_at q (strategy d ds) = still q (joined ports d) (all_at q ds)

  -- nothing else comes of it
  abbrev IsOr : Option Place → Place → Type 0
  IsOr None q = Unit {0}
  IsOr (Some r) q = r ≡ q

  still-is : (q : Place) (o p : Option Place) → IsOr p q → IsOr (still q o p) q
  still-is q None p h = tt
  still-is q (Some r) p h = either (same_place q r)
    where
      either : (b : Bool) → IsOr (if b then p else None) q
      either true = h
      either false = tt

  all_at-is : (q : Place) (cs : Strategies) → IsOr (all_at q cs) q
  all_at-is q no_strategies = refl
  all_at-is q (strategy d ds) = still-is q (joined ports d) (all_at q ds) (all_at-is q ds)

  common-itself : (q : Place) (o : Option Place) → IsOr o q → in_common (Some q) o ≡ o
  common-itself q None h = refl
  common-itself q (Some r) h = subst (λ s. in_common (Some q) (Some s) ≡ Some s) (sym h) (ap (λ b. if b then Some q else None) (same-itself q))

  common-other : (q r : Place) (o : Option Place) → same_place q r ≡ false → IsOr o r → in_common (Some q) o ≡ None
  common-other q r None s h = refl
  common-other q r (Some u) s h = ap (λ v. if same_place q v then Some q else None) h ∙ ap (λ b. if b then Some q else None) s

  none-first : (d : Strategy) (ds : Strategies) → joined ports d ≡ None → joined_dot ports (strategy d ds) ≡ None
  none-first d no_strategies h = h
  none-first d (strategy e es) h = ap (λ o. in_common o (joined_dot ports (strategy e es))) h

  dot-either : (ds : Strategies) (q r : Place) (b : Bool) → same_place q r ≡ b → in_common (Some q) (all_at r ds) ≡ (if b then all_at q ds else None)
  dot-either ds q r true s = subst (λ v. in_common (Some q) (all_at v ds) ≡ all_at q ds) (same-equal q r s) (common-itself q (all_at q ds) (all_at-is q ds))
  dot-either ds q r false s = common-other q r (all_at r ds) s (all_at-is r ds)

  dot-next : (d : Strategy) (ds : Strategies) (q : Place) (o : Option Place) → ((r : Place) → joined ports d ≡ Some r → joined_dot ports (strategy d ds) ≡ all_at r ds) → joined ports d ≡ o → in_common (Some q) (joined_dot ports (strategy d ds)) ≡ still q o (all_at q ds)
  dot-next d ds q None rec h = ap (in_common (Some q)) (none-first d ds h)
  dot-next d ds q (Some r) rec h = ap (in_common (Some q)) (rec r h) ∙ dot-either ds q r (same_place q r) refl

  pub dot-all : (c : Strategy) (cs : Strategies) (q : Place) → joined ports c ≡ Some q → joined_dot ports (strategy c cs) ≡ all_at q cs
  dot-all c no_strategies q h = h
  dot-all c (strategy d ds) q h = ap (λ o. in_common o (joined_dot ports (strategy d ds))) h ∙ dot-next d ds q (joined ports d) (λ r k. dot-all d ds r k) refl

  pub all_at-differs : (rest : Strategies) (d : Strategy) (ds : Strategies) (q r : Place) → rest ≡ strategy d ds → Some r ≡ joined ports d → false ≡ same_place q r → all_at q rest ≡ None
  all_at-differs rest d ds q r e h s = ap (all_at q) e ∙ ap (λ o. still q o (all_at q ds)) (sym h) ∙ ap (λ b. if b then all_at q ds else None) (sym s)

  pub all_at-none : (rest : Strategies) (d : Strategy) (ds : Strategies) (q : Place) → rest ≡ strategy d ds → None ≡ joined ports d → all_at q rest ≡ None
  all_at-none rest d ds q e h = ap (all_at q) e ∙ ap (λ o. still q o (all_at q ds)) (sym h)

  pub all_at-end : (rest : Strategies) (q : Place) → rest ≡ no_strategies → all_at q rest ≡ Some q
  all_at-end rest q e = ap (all_at q) e

  pub all_at-next : (rest : Strategies) (d : Strategy) (ds : Strategies) (q r : Place) → rest ≡ strategy d ds → Some r ≡ joined ports d → same_place q r ≡ true → all_at q rest ≡ all_at q ds
  all_at-next rest d ds q r e h s = ap (all_at q) e ∙ ap (λ o. still q o (all_at q ds)) (sym h) ∙ ap (λ b. if b then all_at q ds else None) s

  pub cross-none : (rest : Strategies) (c : Strategy) (cs : Strategies) (w : Place) → rest ≡ strategy c cs → None ≡ joined ports c → one_after (Some w) (joined_cross ports rest) ≡ None
  cross-none rest c cs w e h = ap (λ r. one_after (Some w) (joined_cross ports r)) e ∙ ap (λ o. one_after (Some w) (one_after o (joined_cross ports cs))) (sym h)

  pub cross-end : (rest : Strategies) (w : Place) → rest ≡ no_strategies → one_after (Some w) (joined_cross ports rest) ≡ Some w
  cross-end rest w e = ap (λ r. one_after (Some w) (joined_cross ports r)) e ∙ ap Some (append-nil w)
