-- The other laws of iteration.
use Rattle.std.specs.Prelude.{◌≡◌, refl, ℕ, ◌≤◌, ◌==◌, nat_lt, [], ◌++◌, not, cond, take, drop, Bool, true, false, Option, Some, None, option_map, Ok}
use Rattle.std.specs.Option.{option_or}
use Rattle.std.proofs.Common.{ap, sym, subst, ◌∙◌}
use Rattle.std.proofs.lemmas.Bool.{eqb-true, eq-eqb, ltb-false, le-ltb}
use Rattle.std.proofs.lemmas.List.{map-append}
use Rattle.tv_value.specs.Nested.{Place}
use Rattle.tv_value.specs.Values.{Name, HasDepth}
use Rattle.tv_value.specs.Strategies.{Strategy, port, cross, dot, prefix, Strategies, no_strategies, strategy}
use Rattle.tv_strategy.specs.Iterations.{walks, iteration}
use Rattle.tv_strategy.specs.Measures.{strategy_depth, leaf_names, all_leaf_names, DotsAgree, AllDotsAgree, HaveOneDepth, Difference, depths_of, first_other, in_prefix, difference_if, less_deep, first_difference, first_inside, measured}
use Rattle.tv_strategy.specs.Splits.{split, split_cross, split_dot}
use Rattle.tv_strategy.specs.Conditions.{names_in}
use Rattle.tv_strategy.specs.Stated.{EndsStandAtDepth, OutputsHaveDepth, AgreeWithoutDifference, SplitNamesLeaves, SourcesAreNodes, OutputsAreOfSources, Passes, JoinsNothingWhereDotDiffers}
use Rattle.tv_strategy.proofs.AtDepth.{walk-levels, iteration-levels, output-depth}
use Rattle.tv_strategy.proofs.Sources.{walk-have, iteration-have, output-have}
use Rattle.tv_strategy.proofs.Joins.{none-differs, differs-none}
use Rattle.tv_strategy.proofs.Measures.{first_not, unless-ok}

-- ---- depths

pub ends-stand : EndsStandAtDepth
ends-stand mismatch declared values h s a =
    iteration-levels (walks mismatch values) mismatch (λ p. walk-levels p (values p) (mismatch p) (declared p) _ refl (h p)) s a

pub outputs-stand : OutputsHaveDepth
outputs-stand mismatch declared values h s a named made d right =
    output-depth (λ q. HasDepth (made q) d) named made d (λ q k. k) (iteration (walks mismatch values) s) [] (strategy_depth mismatch s) _ refl (ends-stand mismatch declared values h s a) right

-- ---- agreement

or-none : {A : Type 0} (o p : Option A) → option_or o p ≡ None → (o ≡ None) × (p ≡ None)
or-none None p h = (refl, h)
or-none (Some x) p h = absurd (cc)

or-both : {A : Type 0} (o p : Option A) → o ≡ None → p ≡ None → option_or o p ≡ None
or-both o p h k = ap (λ x. option_or x p) h ∙ k

none-deep : (d e : ℕ) → less_deep d e ≡ None → d ≤ e
none-deep d e h = by (nat_lt e d) refl h
  where
    by : (b : Bool) → nat_lt e d ≡ b → difference_if b (in_prefix d e) ≡ None → d ≤ e
    by true s k = absurd (cc)
    by false s k = ltb-false e d s

deep-none : (d e : ℕ) → d ≤ e → less_deep d e ≡ None
deep-none d e h = ap (λ b. difference_if b (in_prefix d e)) (le-ltb e d h)

-- all of these have this depth
abbrev AllAre : (Name → ℕ) → ℕ → Strategies → Type 0
AllAre ports d no_strategies = Unit {0}
AllAre ports d (strategy c cs) = (strategy_depth ports c ≡ d) × AllAre ports d cs

module _ (ports : Name → ℕ) where
  told-none : (d : ℕ) (o : Option ℕ) → option_map {U = Difference} (λ e. record { prefixed = false; first = d; second = e }) o ≡ None → o ≡ None
  told-none d None h = refl
  told-none d (Some e) h = absurd (cc)

  not-none : (b : Bool) (x : ℕ) (o : Option ℕ) → cond (not b) (Some x) o ≡ None → (b ≡ true) × (o ≡ None)
  not-none true x o h = (refl, h)
  not-none false x o h = absurd (cc)

  none-others : (d : ℕ) (cs : Strategies) → first_not d (depths_of ports cs) ≡ None → AllAre ports d cs
  none-others d no_strategies h = tt
  none-others d (strategy c cs) h =
      let k = not-none (strategy_depth ports c == d) (strategy_depth ports c) (first_not d (depths_of ports cs)) h in
      (eqb-true (strategy_depth ports c) d k.0, none-others d cs k.1)

  others-none : (d : ℕ) (cs : Strategies) → AllAre ports d cs → first_not d (depths_of ports cs) ≡ None
  others-none d no_strategies h = refl
  others-none d (strategy c cs) h =
      ap (λ b. cond (not b) (Some (strategy_depth ports c)) (first_not d (depths_of ports cs))) (eq-eqb (strategy_depth ports c) d h.0) ∙ others-none d cs h.1

  all-one : (c : Strategy) (cs : Strategies) → AllAre ports (strategy_depth ports c) cs → HaveOneDepth ports (strategy c cs)
  all-one c no_strategies h = tt
  all-one c (strategy d ds) h = (sym h.0, all-one d ds (subst (λ n. AllAre ports n ds) (sym h.0) h.1))

  one-all : (c : Strategy) (cs : Strategies) → HaveOneDepth ports (strategy c cs) → AllAre ports (strategy_depth ports c) cs
  one-all c no_strategies h = tt
  one-all c (strategy d ds) h = (sym h.0, subst (λ n. AllAre ports n ds) (sym h.0) (one-all d ds h.1))

  other-one : (cs : Strategies) → first_other (depths_of ports cs) ≡ None → HaveOneDepth ports cs
  other-one no_strategies h = tt
  other-one (strategy c cs) h = all-one c cs (none-others (strategy_depth ports c) cs (told-none (strategy_depth ports c) (first_not (strategy_depth ports c) (depths_of ports cs)) h))

  one-other : (cs : Strategies) → HaveOneDepth ports cs → first_other (depths_of ports cs) ≡ None
  one-other no_strategies h = refl
  one-other (strategy c cs) h = ap (option_map {U = Difference} (λ e. record { prefixed = false; first = strategy_depth ports c; second = e })) (others-none (strategy_depth ports c) cs (one-all c cs h))

  mutual
    pub none-agree : (s : Strategy) → first_difference ports s ≡ None → DotsAgree ports s
    none-agree (port p) h = tt
    none-agree (cross cs) h = all-agree cs h
    none-agree (prefix l r) h =
        let k = or-none (option_or (first_difference ports l) (first_difference ports r)) (less_deep (strategy_depth ports l) (strategy_depth ports r)) h in
        let j = or-none (first_difference ports l) (first_difference ports r) k.0 in
        (none-agree l j.0, none-agree r j.1, none-deep (strategy_depth ports l) (strategy_depth ports r) k.1)
    none-agree (dot cs) h = let k = or-none (first_inside ports cs) (first_other (depths_of ports cs)) h in (all-agree cs k.0, other-one cs k.1)

    all-agree : (cs : Strategies) → first_inside ports cs ≡ None → AllDotsAgree ports cs
    all-agree no_strategies h = tt
    all-agree (strategy c cs) h = let k = or-none (first_difference ports c) (first_inside ports cs) h in (none-agree c k.0, all-agree cs k.1)

  mutual
    pub agree-none : (s : Strategy) → DotsAgree ports s → first_difference ports s ≡ None
    agree-none (port p) h = refl
    agree-none (cross cs) h = agree-inside cs h
    agree-none (prefix l r) h =
        or-both (option_or (first_difference ports l) (first_difference ports r)) (less_deep (strategy_depth ports l) (strategy_depth ports r))
        (or-both (first_difference ports l) (first_difference ports r) (agree-none l h.0) (agree-none r h.1)) (deep-none (strategy_depth ports l) (strategy_depth ports r) h.2)
    agree-none (dot cs) h = or-both (first_inside ports cs) (first_other (depths_of ports cs)) (agree-inside cs h.0) (one-other cs h.1)

    agree-inside : (cs : Strategies) → AllDotsAgree ports cs → first_inside ports cs ≡ None
    agree-inside no_strategies h = refl
    agree-inside (strategy c cs) h = or-both (first_difference ports c) (first_inside ports cs) (agree-none c h.0) (agree-inside cs h.1)

pub agree-exactly : AgreeWithoutDifference
agree-exactly ports s = (none-agree ports s, agree-none ports s)

-- an answer without a fault has the depth, and says that the dots agree
pub measured-agrees : (ports : Name → ℕ) (s : Strategy) (d : ℕ) → Ok d ≡ measured ports s → DotsAgree ports s × (d ≡ strategy_depth ports s)
measured-agrees ports s d h = let k = unless-ok (first_difference ports s) (strategy_depth ports s) d h in (none-agree ports s k.0, k.1)

-- ---- places

module _ (ports : Name → ℕ) where
  mutual
    split-names : (s : Strategy) (q : Place) → names_in (split ports s q) ≡ leaf_names s
    split-names (port p) q = refl
    split-names (cross cs) q = cross-names cs q
    split-names (dot cs) q = dot-names cs q
    split-names (prefix l r) q =
        let n = strategy_depth ports l in
        map-append (λ r. r.0) (split ports l (take n q)) (split ports r q)
        ∙ ap (λ ns. ns ++ names_in (split ports r q)) (split-names l (take n q))
        ∙ ap (λ ns. leaf_names l ++ ns) (split-names r q)

    cross-names : (cs : Strategies) (q : Place) → names_in (split_cross ports cs q) ≡ all_leaf_names cs
    cross-names no_strategies q = refl
    cross-names (strategy c cs) q =
        let n = strategy_depth ports c in
        map-append (λ r. r.0) (split ports c (take n q)) (split_cross ports cs (drop n q))
        ∙ ap (λ ns. ns ++ names_in (split_cross ports cs (drop n q))) (split-names c (take n q))
        ∙ ap (λ ns. leaf_names c ++ ns) (cross-names cs (drop n q))

    dot-names : (cs : Strategies) (q : Place) → names_in (split_dot ports cs q) ≡ all_leaf_names cs
    dot-names no_strategies q = refl
    dot-names (strategy c cs) q =
        map-append (λ r. r.0) (split ports c q) (split_dot ports cs q)
        ∙ ap (λ ns. ns ++ names_in (split_dot ports cs q)) (split-names c q)
        ∙ ap (λ ns. leaf_names c ++ ns) (dot-names cs q)

pub split-names_leaves : SplitNamesLeaves
split-names_leaves = split-names

pub nothing-exactly : JoinsNothingWhereDotDiffers
nothing-exactly ports s = (none-differs ports s, differs-none ports s)

-- ---- sources

pub sources-nodes : SourcesAreNodes
sources-nodes p mismatch values h s = iteration-have (Passes p) (walks mismatch values) (λ n. walk-have (Passes p) n (mismatch n) (values n) (h n)) s

pub outputs-sources : OutputsAreOfSources
outputs-sources p r j named made d of_job of_level t levels h k = output-have (Passes p) (Passes r) (λ q. j q ≡ true) named made d of_job of_level t [] levels h k
