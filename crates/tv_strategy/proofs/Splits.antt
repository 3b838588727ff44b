-- Splitting a place among a list of strategies, child by child.
use Rattle.std.specs.Prelude.{◌≡◌, refl, ℕ, zero, suc, ◌+◌, ◌≤◌, List, [], ◌∷◌, ◌++◌, length, take, drop}
use Rattle.std.proofs.Common.{arith, ap, sym, subst, ◌∙◌, append-nil, append_assoc}
use Rattle.std.proofs.lemmas.List.{take-take, drop-take, drop-drop}
use Rattle.tv_value.specs.Nested.{Place}
use Rattle.tv_value.specs.Values.{Name}
use Rattle.tv_value.specs.Strategies.{Strategy, Strategies, no_strategies, strategy}
use Rattle.tv_strategy.specs.Measures.{strategy_depth, sum_of_depths, DotsAgree, AllDotsAgree, HaveOneDepth}
use Rattle.tv_strategy.specs.Splits.{split, split_cross, split_dot}

-- ---- first and last parts

pub take-whole : (q : Place) (n : ℕ) → length q ≡ n → take n q ≡ q
take-whole [] zero h = refl
take-whole [] (suc n) h = refl
take-whole (i ∷ q) zero h = absurd (cc)
take-whole (i ∷ q) (suc n) h = ap (λ r. i ∷ r) (take-whole q n (omega arith))

-- ---- a cross

-- the children before took so many indices, and what their places and the others' are together
pub record Taken (ports : Name → ℕ) (indices : Place) (whole : Strategies) (before : List (Name × Place)) (rest : Strategies) (taken : ℕ) (places : List (Name × Place)) : Type 0 where
  pub agree : AllDotsAgree ports rest
  pub depth_so_far : sum_of_depths ports whole ≡ taken + sum_of_depths ports rest
  pub places_so_far : before ++ split_cross ports whole (take (sum_of_depths ports whole) indices) ≡ places ++ split_cross ports rest (take (sum_of_depths ports rest) (drop taken indices))

module _ (ports : Name → ℕ) (indices : Place) (whole : Strategies) (before : List (Name × Place)) where
  pub taken-agrees : (rest : Strategies) (c : Strategy) (cs : Strategies) (taken : ℕ) (places : List (Name × Place)) → Taken ports indices whole before rest taken places → rest ≡ strategy c cs → DotsAgree ports c
  taken-agrees rest c cs taken places t e = (subst (λ r. AllDotsAgree ports r) e t.agree).0

  pub taken-fits : (rest : Strategies) (c : Strategy) (cs : Strategies) (taken n : ℕ) (places : List (Name × Place)) → Taken ports indices whole before rest taken places → rest ≡ strategy c cs → sum_of_depths ports whole ≤ n → taken + strategy_depth ports c ≤ n
  taken-fits rest c cs taken n places t e h =
      let s = ap (sum_of_depths ports) e in
      let d = t.depth_so_far in
      omega arith

  pub taken-next : (rest : Strategies) (c : Strategy) (cs : Strategies) (taken d : ℕ) (places more : List (Name × Place)) → Taken ports indices whole before rest taken places → rest ≡ strategy c cs → d ≡ strategy_depth ports c → more ≡ places ++ split ports c (take d (drop taken indices)) → Taken ports indices whole before cs (taken + d) more
  taken-next rest c cs taken d places more t e h k =
      let n = strategy_depth ports c in
      let s = sum_of_depths ports cs in
      let left = drop taken indices in
      record {
        agree = (subst (λ r. AllDotsAgree ports r) e t.agree).1;
        depth_so_far = further taken d n s (sum_of_depths ports rest) (sum_of_depths ports whole) t.depth_so_far (ap (sum_of_depths ports) e) h;
        places_so_far =
            t.places_so_far
            ∙ ap (λ r. places ++ split_cross ports r (take (sum_of_depths ports r) left)) e
            ∙ ap (λ q. places ++ (split ports c q ++ split_cross ports cs (drop n (take (n + s) left)))) (take-take n (n + s) left (omega arith))
            ∙ ap (λ q. places ++ (split ports c (take n left) ++ split_cross ports cs q)) (drop-take n s left)
            ∙ sym (append_assoc places (split ports c (take n left)) (split_cross ports cs (take s (drop n left))))
            ∙ ap (λ m. (places ++ split ports c (take m left)) ++ split_cross ports cs (take s (drop m left))) (sym h)
            ∙ ap (λ ps. ps ++ split_cross ports cs (take s (drop d left))) (sym k)
            ∙ ap (λ q. more ++ split_cross ports cs (take s q)) (drop-drop d taken indices);
      }
    where
      further : (taken d n s r w : ℕ) → w ≡ taken + r → r ≡ n + s → d ≡ n → w ≡ taken + d + s
      further taken d n s r w p q h = omega arith

  pub taken-all : (rest : Strategies) (taken : ℕ) (places : List (Name × Place)) → Taken ports indices whole before rest taken places → rest ≡ no_strategies → (taken ≡ sum_of_depths ports whole) × (places ≡ before ++ split_cross ports whole (take taken indices))
  taken-all rest taken places t e =
      let all = every taken (sum_of_depths ports rest) (sum_of_depths ports whole) t.depth_so_far (ap (sum_of_depths ports) e) in (
        all,
        sym (append-nil places)
            ∙ sym (t.places_so_far ∙ ap (λ r. places ++ split_cross ports r (take (sum_of_depths ports r) (drop taken indices))) e)
            ∙ ap (λ n. before ++ split_cross ports whole (take n indices)) (sym all),
      )
    where
      every : (taken r w : ℕ) → w ≡ taken + r → r ≡ 0 → taken ≡ w
      every taken r w p q = omega arith

-- ---- a dot

-- all of these agree, and have this depth
abbrev pub AllDeep : (Name → ℕ) → ℕ → Strategies → Type 0
AllDeep ports d no_strategies = Unit {0}
AllDeep ports d (strategy c cs) = DotsAgree ports c × (strategy_depth ports c ≡ d) × AllDeep ports d cs

pub all-deep : (ports : Name → ℕ) (c : Strategy) (cs : Strategies) → AllDotsAgree ports cs → HaveOneDepth ports (strategy c cs) → AllDeep ports (strategy_depth ports c) cs
all-deep ports c no_strategies h k = tt
all-deep ports c (strategy d ds) h k = (h.0, sym k.0, subst (λ n. AllDeep ports n ds) (sym k.0) (all-deep ports d ds h.1 k.1))

-- what the places of the children before and those of the others are together, where all get the place q of depth d
pub record Given (ports : Name → ℕ) (q : Place) (d : ℕ) (whole : Strategies) (before : List (Name × Place)) (rest : Strategies) (places : List (Name × Place)) : Type 0 where
  pub deep : AllDeep ports d rest
  pub places_so_far : before ++ split_dot ports whole q ≡ places ++ split_dot ports rest q

module _ (ports : Name → ℕ) (q : Place) (d : ℕ) (whole : Strategies) (before : List (Name × Place)) where
  pub given-first : AllDeep ports d whole → Given ports q d whole before whole before
  given-first h = record { deep = h; places_so_far = refl }

  pub given-child : (rest : Strategies) (c : Strategy) (cs : Strategies) (places : List (Name × Place)) → Given ports q d whole before rest places → rest ≡ strategy c cs → DotsAgree ports c × (strategy_depth ports c ≡ d)
  given-child rest c cs places g e = let h = subst (λ r. AllDeep ports d r) e g.deep in (h.0, h.1)

  pub given-next : (rest : Strategies) (c : Strategy) (cs : Strategies) (places more : List (Name × Place)) → Given ports q d whole before rest places → rest ≡ strategy c cs → more ≡ places ++ split ports c q → Given ports q d whole before cs more
  given-next rest c cs places more g e k = record {
    deep = (subst (λ r. AllDeep ports d r) e g.deep).2;
    places_so_far =
        g.places_so_far
        ∙ ap (λ r. places ++ split_dot ports r q) e
        ∙ sym (append_assoc places (split ports c q) (split_dot ports cs q))
        ∙ ap (λ ps. ps ++ split_dot ports cs q) (sym k);
  }

  pub given-all : (rest : Strategies) (places : List (Name × Place)) → Given ports q d whole before rest places → rest ≡ no_strategies → places ≡ before ++ split_dot ports whole q
  given-all rest places g e = sym (append-nil places) ∙ sym (g.places_so_far ∙ ap (λ r. places ++ split_dot ports r q) e)
