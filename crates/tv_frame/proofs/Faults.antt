-- A passed fault stands in the value of its leaf at what is left of its place where the leaf begins.
use Rattle.std.specs.Prelude.{◌≡◌, refl, ℕ, ◌+◌, true, false, List, [], ◌∷◌, ◌++◌, ◌⊎◌, drop, length, flat_map}
use Rattle.std.proofs.Common.{ap, sym, subst, ◌∙◌, inl, inr, length-append, append_assoc}
use Rattle.std.proofs.lemmas.List.{drop_at}
use Rattle.tv_lemmas.specs.Members.{In}
use Rattle.tv_lemmas.proofs.Members.{each_in, in-append, in-left, in-right, of-flat, of-map}
use Rattle.tv_value.specs.Nested.{Place}
use Rattle.tv_value.specs.Orders.{same_name}
use Rattle.tv_value.specs.Strategies.{Strategy, port, cross, dot, prefix, Strategies, no_strategies, strategy}
use Rattle.tv_value.specs.Values.{Name}
use Rattle.tv_strategy.specs.Measures.{AllDotsAgree, DotsAgree, HaveOneDepth, strategy_depth}
use Rattle.tv_strategy.specs.Splits.{same_place}
use Rattle.tv_strategy.proofs.PlaceLemmas.{same-equal}
use Rattle.tv_matching.specs.Items.{Item, Kind, closes, ends, here, if_so, item, passes}
use Rattle.tv_matching.specs.Levels.{AreLeveled, KindAt}
use Rattle.tv_matching.specs.Matched.{below, bound, matched, matched_cross, matched_dot, meet, meet_below, reaches, meet_kinds, replaced, same}
use Rattle.tv_matching.specs.Told.{Spot, Told, arrival, close, faulty, telling, told_kind, told_leaf, told_place, told_to}
use Rattle.tv_matching.proofs.LawLemmas.{told-leveled}
use Rattle.tv_matching.proofs.Members.{of-if}
use Rattle.tv_matching.proofs.Onces.{matched-leveled}
use Rattle.tv_frame.specs.Starts.{cross_starts, dot_starts, starts}
use Rattle.tv_frame.specs.Stated.{FaultsStandFromStarts}

-- ---- of a leaf

abbrev passed : Spot → Kind Spot Spot
passed f = passes f

passes-same : (f g : Spot) → passed f ≡ passed g → f ≡ g
passes-same f g h = cc

fault-told : (t : Told) (f : Spot) → told_kind t ≡ passes f → f ≡ (told_leaf t, told_place t)
fault-told (arrival p q true) f e = sym (passes-same (p, q) f e)
fault-told (arrival p q false) f e = absurd cc
fault-told (faulty p q) f e = absurd cc
fault-told (close p q n) f e = absurd cc

-- a fault that was told of a leaf is of that leaf, at its place
abbrev IsOwn : Name → Item Spot Spot → Type 0
IsOwn p x = (f : Spot) → x.kind ≡ passes f → f ≡ (p, x.place)

told-own : (ts : List Told) (p : Name) (x : Item Spot Spot) → In x (told_to ts p) → IsOwn p x
told-own [] p x m = absurd m
told-own (t ∷ ts) p x m = by (told-own ts p x) (in-append x (if_so (same_name p (told_leaf t)) (telling t).item) (told_to ts p) m)
  where
    first : In x (if_so (same_name p (told_leaf t)) (telling t).item) → IsOwn p x
    first h f e =
        let r = of-if (same_name p (told_leaf t)) (telling t).item x h in
        let named = same-equal p (told_leaf t) r.0 in
        fault-told t f (ap (λ y. y.kind) (sym r.1) ∙ e) ∙ ap (λ n. (n, told_place t)) (sym named) ∙ ap (λ y. (p, y.place)) (sym r.1)

    by : (In x (told_to ts p) → IsOwn p x) → In x (if_so (same_name p (told_leaf t)) (telling t).item) ⊎ In x (told_to ts p) → IsOwn p x
    by rest (inl h) = first h
    by rest (inr h) = rest h

-- ---- of every strategy

bound-fault : (b : List Spot) (k : Kind Spot Spot) (f : Spot) → bound b k ≡ passes f → k ≡ passes f
bound-fault b (ends c) f e = absurd cc
bound-fault b (closes n) f e = absurd cc
bound-fault b (passes g) f e = e

no_end : (x : Item Spot Spot) (f : Spot) → x ≡ here (ends []) → x.kind ≡ passes f → ⊥
no_end x f p e = cc

no_list : (x : Item Spot Spot) (q : Place) (n : ℕ) (f : Spot) → x ≡ item q (closes n) → x.kind ≡ passes f → ⊥
no_list x q n f p e = cc

-- of an item below the place b, its fault is of a leaf that begins at some index, from which the fault's place goes on
abbrev Stands : List (Name × ℕ) → Place → Item Spot Spot → Type 0
Stands ls b x = (f : Spot) → x.kind ≡ passes f → (o : ℕ) × In (f.0, o) ls × (f.1 ≡ drop o (b ++ x.place))

stands-left : (ls ms : List (Name × ℕ)) (b : Place) (x : Item Spot Spot) → Stands ls b x → Stands (ls ++ ms) b x
stands-left ls ms b x h f e = let r = h f e in (r.0, in-left (f.0, r.0) ls ms r.1, r.2)

stands-right : (ls ms : List (Name × ℕ)) (b : Place) (x : Item Spot Spot) → Stands ms b x → Stands (ls ++ ms) b x
stands-right ls ms b x h f e = let r = h f e in (r.0, in-right (f.0, r.0) ls ms r.1, r.2)

module _ (ports : Name → ℕ) (told : Name → List (Item Spot Spot)) (leveled : (p : Name) → AreLeveled (ports p) (told p))
    (own : (p : Name) (x : Item Spot Spot) → In x (told p) → IsOwn p x) where
  crossed-one : (c : Strategy) (ls ms : List (Name × ℕ)) (zs : List (Item Spot Spot)) (at : ℕ) (b : Place) → length b ≡ at → (x y : Item Spot Spot) → KindAt (strategy_depth ports c) y.place y.kind → Stands ls b y → ((d : Place) → length d ≡ at + strategy_depth ports c → (z : Item Spot Spot) → In z zs → Stands ms d z) → (k : Kind Spot Spot) → y.kind ≡ k → In x (replaced zs y.place k) → Stands (ls ++ ms) b x
  crossed-one c ls ms zs at b l x y level first rest (ends d) ek mx =
      let z = of-map (below y.place d) x zs mx in
      let deep : length y.place ≡ strategy_depth ports c = subst (KindAt (strategy_depth ports c) y.place) ek level in
      let long : length (b ++ y.place) ≡ at + strategy_depth ports c = length-append b y.place ∙ ap (λ n. n + length y.place) l ∙ ap (λ n. at + n) deep in
      let inner = rest (b ++ y.place) long z.0 z.1 in
      stands-right ls ms b x
      (λ f e.
      let r = inner f (bound-fault d z.0.kind f (ap (λ u. u.kind) (sym z.2) ∙ e)) in
      (r.0, r.1, r.2 ∙ ap (drop r.0) (append_assoc b y.place z.0.place) ∙ ap (λ u. drop r.0 (b ++ u.place)) (sym z.2)))
  crossed-one c ls ms zs at b l x y level first rest (closes n) ek (inl p) = λ f e. absurd (no_list x y.place n f p e)
  crossed-one c ls ms zs at b l x y level first rest (closes n) ek (inr m) = absurd m
  crossed-one c ls ms zs at b l x y level first rest (passes g) ek (inl p) =
      stands-left ls ms b x
      (λ f e.
      let r = first f (ek ∙ ap (λ u. u.kind) (sym p) ∙ e) in
      (r.0, r.1, r.2 ∙ ap (λ u. drop r.0 (b ++ u.place)) (sym p)))
  crossed-one c ls ms zs at b l x y level first rest (passes g) ek (inr m) = absurd m

  -- what two make together, where a list or fault of the first has the place of the second
  met-one : (ls ms : List (Name × ℕ)) (b : Place) (y z : Item Spot Spot) → (k : Kind Spot Spot) → y.kind ≡ k → ((g : Spot) → k ≡ passes g → y.place ≡ z.place) → Stands ls b y → Stands ms b z → (x : Item Spot Spot) (f : Spot) → x.place ≡ z.place → (j : Kind Spot Spot) → z.kind ≡ j → meet_kinds k j ≡ passes f → (o : ℕ) × In (f.0, o) (ls ++ ms) × (f.1 ≡ drop o (b ++ x.place))
  met-one ls ms b y z (ends d) ek ep first second x f ex j ej e =
      let r = stands-right ls ms b z second f (ej ∙ bound-fault d j f e) in
      (r.0, r.1, r.2 ∙ ap (λ q. drop r.0 (b ++ q)) (sym ex))
  met-one ls ms b y z (passes g) ek ep first second x f ex j ej e =
      let r = stands-left ls ms b y first f (ek ∙ e) in
      (r.0, r.1, r.2 ∙ ap (λ q. drop r.0 (b ++ q)) (ep g refl ∙ sym ex))
  met-one ls ms b y z (closes m) ek ep first second x f ex (ends d) ej e = absurd cc
  met-one ls ms b y z (closes m) ek ep first second x f ex (closes n) ej e = absurd cc
  met-one ls ms b y z (closes m) ek ep first second x f ex (passes g) ej e =
      let r = stands-right ls ms b z second f (ej ∙ e) in
      (r.0, r.1, r.2 ∙ ap (λ q. drop r.0 (b ++ q)) (sym ex))

  -- in a prefix node a fault of the first meets what stands at its own place
  fault-place : (y z : Item Spot Spot) → reaches y.kind y.place z.place ≡ true → (g : Spot) → y.kind ≡ passes g → y.place ≡ z.place
  fault-place y z h g e = same-equal y.place z.place (subst (λ k. reaches k y.place z.place ≡ true) e h)

  mutual
    from-starts : (s : Strategy) (at : ℕ) (b : Place) → length b ≡ at → DotsAgree ports s → (x : Item Spot Spot) → In x (matched told s) → Stands (starts ports at s) b x
    from-starts (port p) at b l a x m = λ f e.
        let h = own p x m f e in
        (at, inl (ap (λ g. (g.0, at)) h), ap (λ g. g.1) h ∙ sym (drop_at b x.place at l))
    from-starts (cross cs) at b l a x m = from-cross cs at b l a x m
    from-starts (dot cs) at b l a x m = from-dot cs at b l a.0 a.1 x m
    from-starts (prefix c d) at b l a x m =
        let r = of-flat (λ y. flat_map (meet_below y) (matched told d)) x (matched told c) m in
        let s = of-flat (meet_below r.0) x (matched told d) r.2 in
        let t = of-if (reaches r.0.kind r.0.place s.0.place) (item s.0.place (meet_kinds r.0.kind s.0.kind)) x s.2 in
        let first = from-starts c at b l a.0 r.0 r.1 in
        let second = from-starts d at b l a.1 s.0 s.1 in
        λ f e.
        met-one (starts ports at c) (starts ports at d) b r.0 s.0 r.0.kind refl (fault-place r.0 s.0 t.0) first second x f
        (ap (λ u. u.place) t.1) s.0.kind refl (ap (λ u. u.kind) (sym t.1) ∙ e)

    from-cross : (cs : Strategies) (at : ℕ) (b : Place) → length b ≡ at → AllDotsAgree ports cs → (x : Item Spot Spot) → In x (matched_cross told cs) → Stands (cross_starts ports at cs) b x
    from-cross no_strategies at b l a x (inl p) = λ f e. absurd (no_end x f p e)
    from-cross no_strategies at b l a x (inr m) = absurd m
    from-cross (strategy c cs) at b l a x m =
        let r = of-flat (λ y. replaced (matched_cross told cs) y.place y.kind) x (matched told c) m in
        crossed-one c (starts ports at c) (cross_starts ports (at + strategy_depth ports c) cs) (matched_cross told cs) at b l x r.0
        (each_in (λ u. KindAt (strategy_depth ports c) u.place u.kind) (matched told c) (matched-leveled ports told leveled c a.0) r.0 r.1)
        (from-starts c at b l a.0 r.0 r.1)
        (λ d e z m. from-cross cs (at + strategy_depth ports c) d e a.1 z m) r.0.kind refl r.2

    from-dot : (cs : Strategies) (at : ℕ) (b : Place) → length b ≡ at → AllDotsAgree ports cs → HaveOneDepth ports cs → (x : Item Spot Spot) → In x (matched_dot told cs) → Stands (dot_starts ports at cs) b x
    from-dot no_strategies at b l a o x (inl p) = λ f e. absurd (no_end x f p e)
    from-dot no_strategies at b l a o x (inr m) = absurd m
    from-dot (strategy c no_strategies) at b l a o x m = stands-left (starts ports at c) [] b x (from-starts c at b l a.0 x m)
    from-dot (strategy c (strategy d ds)) at b l a o x m =
        let r = of-flat (λ y. flat_map (meet same y) (matched_dot told (strategy d ds))) x (matched told c) m in
        let s = of-flat (meet same r.0) x (matched_dot told (strategy d ds)) r.2 in
        let t = of-if (same_place r.0.place s.0.place) (item s.0.place (meet_kinds r.0.kind s.0.kind)) x s.2 in
        let first = from-starts c at b l a.0 r.0 r.1 in
        let second = from-dot (strategy d ds) at b l a.1 o.1 s.0 s.1 in
        λ f e.
        met-one (starts ports at c) (dot_starts ports at (strategy d ds)) b r.0 s.0 r.0.kind refl (λ g h. same-equal r.0.place s.0.place t.0) first second x f
        (ap (λ u. u.place) t.1) s.0.kind refl (ap (λ u. u.kind) (sym t.1) ∙ e)

pub faults-stand : FaultsStandFromStarts
faults-stand ports s a ts fit x m f e = from-starts ports (told_to ts) (told-leveled ports ts fit) (told-own ts) s 0 [] refl a x m f e
