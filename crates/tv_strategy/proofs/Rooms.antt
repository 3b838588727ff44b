-- What comes of joining fits its room, which is the strategy's depth where the dots agree.
use Rattle.std.specs.Prelude.{◌≡◌, refl, ℕ, ◌+◌, ◌≤◌, max, [], length, Some}
use Rattle.std.proofs.Common.{arith, ap, sym, subst, ◌∙◌, length-append}
use Rattle.tv_value.specs.Nested.{Place}
use Rattle.tv_value.specs.Values.{Name}
use Rattle.tv_value.specs.Strategies.{Strategy, port, cross, dot, prefix, Strategies, no_strategies, strategy}
use Rattle.tv_strategy.specs.Measures.{strategy_depth, sum_of_depths, first_depth, leaf_names, all_leaf_names, DotsAgree, AllDotsAgree, HaveOneDepth}
use Rattle.tv_strategy.specs.Splits.{joined, joined_cross, joined_dot}
use Rattle.tv_strategy.specs.Conditions.{HaveLengths}
use Rattle.tv_strategy.specs.Rooms.{place_room, room_of_all, room_of_most}
use Rattle.tv_strategy.proofs.Joins.{one_after-some, in_common-some, gone_on-some, lengths-parts}

left : (a m n : ℕ) → a ≤ m → a ≤ max m n
left a m n h = omega arith

right : (a m n : ℕ) → a ≤ n → a ≤ max m n
right a m n h = omega arith

module _ (ports : Name → Place) where
  mutual
    pub joined-room : (s : Strategy) (q : Place) → joined ports s ≡ Some q → length q ≤ place_room ports s
    joined-room (port p) q h = let e : ports p ≡ q = cc in subst (λ r. length r ≤ length (ports p)) e (omega arith)
    joined-room (cross cs) q h = cross-room cs q h
    joined-room (dot cs) q h = dot-room cs q h
    joined-room (prefix l r) q h = right (length q) (place_room ports l) (place_room ports r) (joined-room r q (gone_on-some (joined ports l) (joined ports r) q h).right_is)

    cross-room : (cs : Strategies) (q : Place) → joined_cross ports cs ≡ Some q → length q ≤ room_of_all ports cs
    cross-room no_strategies q h = let e : [] ≡ q = cc in subst (λ r. length r ≤ 0) e (omega arith)
    cross-room (strategy c cs) q h =
        let j = one_after-some (joined ports c) (joined_cross ports cs) q h in
        subst (λ n. n ≤ place_room ports c + room_of_all ports cs) (sym (ap length j.whole_is ∙ length-append j.front j.back)) (both (length j.front) (length j.back) (place_room ports c) (room_of_all ports cs) (joined-room c j.front j.front_is) (cross-room cs j.back j.back_is))
      where
        both : (a b m n : ℕ) → a ≤ m → b ≤ n → a + b ≤ m + n
        both a b m n h k = omega arith

    dot-room : (cs : Strategies) (q : Place) → joined_dot ports cs ≡ Some q → length q ≤ room_of_most ports cs
    dot-room no_strategies q h = let e : [] ≡ q = cc in subst (λ r. length r ≤ 0) e (omega arith)
    dot-room (strategy c no_strategies) q h = left (length q) (place_room ports c) 0 (joined-room c q h)
    dot-room (strategy c (strategy d ds)) q h =
        left (length q) (place_room ports c) (room_of_most ports (strategy d ds)) (joined-room c q (in_common-some (joined ports c) (joined_dot ports (strategy d ds)) q h).0)

  -- a child has no more room than its list
  pub room-next : (rest : Strategies) (c : Strategy) (cs : Strategies) (n k : ℕ) → rest ≡ strategy c cs → n + room_of_all ports rest ≤ k → place_room ports c ≤ k
  room-next rest c cs n k e h = part (place_room ports c) (room_of_all ports cs) n k (subst (λ r. n + room_of_all ports r ≤ k) e h)
    where
      part : (a b m j : ℕ) → m + (a + b) ≤ j → a ≤ j
      part a b m j l = omega arith

  pub most-next : (rest : Strategies) (c : Strategy) (cs : Strategies) (k : ℕ) → rest ≡ strategy c cs → room_of_most ports rest ≤ k → (place_room ports c ≤ k) × (room_of_most ports cs ≤ k)
  most-next rest c cs k e h = parts (place_room ports c) (room_of_most ports cs) k (subst (λ r. room_of_most ports r ≤ k) e h)
    where
      parts : (a b j : ℕ) → max a b ≤ j → (a ≤ j) × (b ≤ j)
      parts a b j l = (omega arith, omega arith)

  -- a child's place may be put after the whole so far
  pub room-left : (rest : Strategies) (c : Strategy) (cs : Strategies) (q : Place) (n k : ℕ) → rest ≡ strategy c cs → Some q ≡ joined ports c → n + room_of_all ports rest ≤ k → (n + length q) + room_of_all ports cs ≤ k
  room-left rest c cs q n k e h l = sum n (length q) (place_room ports c) (room_of_all ports cs) k (subst (λ r. n + room_of_all ports r ≤ k) e l) (joined-room c q (sym h))
    where
      sum : (n a b m k : ℕ) → n + (b + m) ≤ k → a ≤ b → (n + a) + m ≤ k
      sum n a b m k h l = omega arith

module _ (mismatch : Name → ℕ) (ports : Name → Place) where
  mutual
    pub room-depth : (s : Strategy) → HaveLengths mismatch ports (leaf_names s) → DotsAgree mismatch s → place_room ports s ≡ strategy_depth mismatch s
    room-depth (port p) l a = l.0
    room-depth (cross cs) l a = all-depth cs l a
    room-depth (dot cs) l a = most-depth cs l a.0 a.1
    room-depth (prefix f b) l a =
        let ls = lengths-parts mismatch ports (leaf_names f) (leaf_names b) l in
        most (place_room ports f) (place_room ports b) (strategy_depth mismatch f) (strategy_depth mismatch b) (room-depth f ls.0 a.0) (room-depth b ls.1 a.1) a.2
      where
        most : (a b n m : ℕ) → a ≡ n → b ≡ m → n ≤ m → max a b ≡ m
        most a b n m h k o = omega arith

    all-depth : (cs : Strategies) → HaveLengths mismatch ports (all_leaf_names cs) → AllDotsAgree mismatch cs → room_of_all ports cs ≡ sum_of_depths mismatch cs
    all-depth no_strategies l a = refl
    all-depth (strategy c cs) l a =
        let ls = lengths-parts mismatch ports (leaf_names c) (all_leaf_names cs) l in
        ap (λ n. n + room_of_all ports cs) (room-depth c ls.0 a.0) ∙ ap (λ n. strategy_depth mismatch c + n) (all-depth cs ls.1 a.1)

    most-depth : (cs : Strategies) → HaveLengths mismatch ports (all_leaf_names cs) → AllDotsAgree mismatch cs → HaveOneDepth mismatch cs → room_of_most ports cs ≡ first_depth mismatch cs
    most-depth no_strategies l a o = refl
    most-depth (strategy c no_strategies) l a o = alone (place_room ports c) ∙ room-depth c (lengths-parts mismatch ports (leaf_names c) [] l).0 a.0
      where
        alone : (n : ℕ) → max n 0 ≡ n
        alone n = omega arith
    most-depth (strategy c (strategy d ds)) l a o =
        let ls = lengths-parts mismatch ports (leaf_names c) (all_leaf_names (strategy d ds)) l in
        same (place_room ports c) (room_of_most ports (strategy d ds)) (strategy_depth mismatch c) (room-depth c ls.0 a.0) (most-depth (strategy d ds) ls.1 a.1 o.1 ∙ sym o.0)
      where
        same : (a b n : ℕ) → a ≡ n → b ≡ n → max a b ≡ n
        same a b n h k = omega arith
