-- The wires of all ports, turned round: those from one step are sorted by the step that they feed, and a step that none of them
-- feeds has no port that comes from it.
use Rattle.std.specs.List.{list_any}
use Rattle.std.specs.Global.{Global}
use Rattle.std.specs.Prelude.{◌≡◌, ℕ, zero, suc, ◌+◌, ◌<◌, ◌==◌, ◌||◌, Bool, true, false, cond, List, [], ◌∷◌, ◌++◌, Option, Some, filter, flat_map, length, map, slice_index_or, refl, ◌≤◌, Vec}
use Rattle.std.proofs.Common.{arith, get_or, ap, sym, subst, ◌∙◌}
use Rattle.std.proofs.lemmas.Bool.{eq-eqb, eqb-true, ne_eqb}
use Rattle.std.proofs.lemmas.List.{get_or-map, length-map, map-append}
use Rattle.std.proofs.lemmas.List.Elements.{filter-append}
use Rattle.std.proofs.lemmas.List.FromFn.{get_or-map-range_with_len, length-map-range_with_len}
use Rattle.tv_lemmas.specs.Members.{Each}
use Rattle.tv_strategy.proofs.Sources.{each-append}
use Rattle.tv_strategy.proofs.Each.{each-all, each-weaken}
use Rattle.tv_matching.proofs.Onces.{each-flat}
use Rattle.tv_naming.specs.Naming.{numbered}
use Rattle.tv_check.specs.declared.feeds.NumberedLink.{NumberedLink}
use Rattle.tv_check.specs.declared.feeds.NumberedLink.TheVariants.{Input, Output}
use Rattle.tv_check.specs.declared.feeds.NumberedFeed.{NumberedFeed}
use Rattle.tv_check.specs.declared.feeds.NumberedFeed.TheVariants.{Link, Merge, Constant}
use Rattle.tv_check.specs.declared.ports.Port.{Port}
use Rattle.tv_check.specs.declared.wires.Wire.{Wire}
use Rattle.tv_check.specs.declared.wiring.Wiring.{Wiring}
use Rattle.tv_check.specs.Turned.{all_wires, from_number, links_of, port_wires, step_wires, wire_of}
use Rattle.tv_telling.specs.endings.Feeds.{feed_from, link_from}
use Rattle.tv_telling.specs.Along.{is_walked, wires_from}
use Rattle.tv_spread.specs.Arounds.{AreWalked, AreWires}
use Rattle.tv_spread.specs.Runs.{AreSortedFrom}
use Rattle.tv_spread.proofs.Lists.{each-unflat}
use Rattle.tv_spread.proofs.Runs.{sorted-block}

-- ---- what is so of all that are turned

module _ {A : Type 0} (s : ℕ) where
  from-both : (xs ys : List (ℕ × A)) → from_number s (xs ++ ys) ≡ from_number s xs ++ from_number s ys
  from-both xs ys = ap (map (λ x. x.1)) (filter-append (λ x. x.0 == s) xs ys) ∙ map-append (λ x. x.1) (filter (λ x. x.0 == s) xs) (filter (λ x. x.0 == s) ys)

  -- what is so of each is so of those that come from s
  pub from-each : (P : A → Type 0) (xs : List (ℕ × A)) → Each (λ x. x.0 ≡ s → P x.1) xs → Each P (from_number s xs)
  from-each P [] h = tt
  from-each P (x ∷ xs) h = by (x.0 == s) refl (from-each P xs h.1)
    where
      by : (b : Bool) → (x.0 == s) ≡ b → Each P (from_number s xs) → Each P (map (λ y. y.1) (cond b (x ∷ filter (λ y. y.0 == s) xs) (filter (λ y. y.0 == s) xs)))
      by true e r = (h.0 (eqb-true x.0 s e), r)
      by false e r = r

  -- and the other way
  pub each-from : (P : A → Type 0) (xs : List (ℕ × A)) → Each P (from_number s xs) → Each (λ x. x.0 ≡ s → P x.1) xs
  each-from P [] h = tt
  each-from P (x ∷ xs) h = by (x.0 == s) refl (each-from P xs) h
    where
      clash : (b : Bool) → b ≡ true → b ≡ false → ⊥
      clash true f g = absurd (cc)
      clash false f g = absurd (cc)

      by : (b : Bool) → (x.0 == s) ≡ b → (Each P (from_number s xs) → Each (λ y. y.0 ≡ s → P y.1) xs) → Each P (map (λ y. y.1) (cond b (x ∷ filter (λ y. y.0 == s) xs) (filter (λ y. y.0 == s) xs))) → Each (λ y. y.0 ≡ s → P y.1) (x ∷ xs)
      by true e r g = (λ same. g.0, r g.1)
      by false e r g = (λ same. absurd (clash (x.0 == s) (eq-eqb x.0 s same) e), r g)

-- ---- of all wires

-- a link of port p of step t, the thing numbered so
module _ (P : ℕ → Wire → Type 0) where
  link-wires : (t : ℕ) (x : ℕ × Port) (l : Option ℕ × NumberedLink) → ((s o : ℕ) → l.1 ≡ Output s o → (w : Wire) → w.step ≡ t → w.output ≡ o → P s w) → Each (λ y. P y.0 y.1) (wire_of t x l)
  link-wires t (p, port) (at, Input n) h = tt
  link-wires t (p, port) (at, Output s o) h = (h s o refl (record { step = t; port = p; link = at; output = o; levels = port.levels; leaf = port.leaf }) refl refl, tt)

-- each wire into step t feeds step t
into-own : (t : ℕ) (x : ℕ × Port) → Each (λ (y : ℕ × Wire). y.1.step ≡ t) (port_wires t x)
into-own t x =
    each-flat (λ (y : ℕ × Wire). y.1.step ≡ t) (wire_of t x) (links_of x.1.feed)
    (each-all (λ l. Each (λ (y : ℕ × Wire). y.1.step ≡ t) (wire_of t x l)) (λ l. link-wires (λ s w. w.step ≡ t) t x l (λ s o e w f g. f)) (links_of x.1.feed))

step-own : (t : ℕ) (ps : List Port) → Each (λ (y : ℕ × Wire). y.1.step ≡ t) (step_wires (t, ps))
step-own t ps =
    each-flat (λ (y : ℕ × Wire). y.1.step ≡ t) (port_wires t) (numbered 0 ps)
    (each-all (λ x. Each (λ (y : ℕ × Wire). y.1.step ≡ t) (port_wires t x)) (into-own t) (numbered 0 ps))

module _ (s : ℕ) where
  turned-sorted : (k : ℕ) (ports : List (List Port)) → AreSortedFrom k (from_number s (flat_map step_wires (numbered k ports)))
  turned-sorted k [] = tt
  turned-sorted k (ps ∷ ports) =
      subst (AreSortedFrom k) (sym (from-both s (step_wires (k, ps)) (flat_map step_wires (numbered (suc k) ports))))
      (sorted-block k (from_number s (step_wires (k, ps))) (from_number s (flat_map step_wires (numbered (suc k) ports)))
      (from-each s (λ (w : Wire). w.step ≡ k) (step_wires (k, ps)) (each-weaken (λ (y : ℕ × Wire). y.1.step ≡ k) (λ (y : ℕ × Wire). y.0 ≡ s → y.1.step ≡ k) (λ y e f. e) (step_wires (k, ps)) (step-own k ps)))
      (subst (λ n. AreSortedFrom n (from_number s (flat_map step_wires (numbered (suc k) ports)))) (plus k) (turned-sorted (suc k) ports)))
    where
      plus : (k : ℕ) → suc k ≡ k + 1
      plus k = omega arith

  -- they feed steps that there are
  turned-within : (k : ℕ) (ports : List (List Port)) → Each (λ (y : ℕ × Wire). y.1.step < k + length ports) (flat_map step_wires (numbered k ports))
  turned-within k [] = tt
  turned-within k (ps ∷ ports) =
      each-append (λ (y : ℕ × Wire). y.1.step < k + length (ps ∷ ports)) (step_wires (k, ps)) (flat_map step_wires (numbered (suc k) ports))
      (each-weaken (λ (y : ℕ × Wire). y.1.step ≡ k) (λ (y : ℕ × Wire). y.1.step < k + suc (length ports)) (λ y e. omega (arith, e)) (step_wires (k, ps)) (step-own k ps))
      (each-weaken (λ (y : ℕ × Wire). y.1.step < suc k + length ports) (λ (y : ℕ × Wire). y.1.step < k + suc (length ports)) (λ y l. omega (arith, l)) (flat_map step_wires (numbered (suc k) ports)) (turned-within (suc k) ports))

-- ---- what is so of each link's output is so of each wire's

module _ (s : ℕ) (P : ℕ → Type 0) where
  abbrev pub IsSo : NumberedLink → Type 0
  IsSo (Input x) = Unit {0}
  IsSo (Output t o) = t ≡ s → P o

  abbrev pub AreSo : NumberedFeed → Type 0
  AreSo (Link l) = IsSo l
  AreSo (Merge ls) = Each IsSo ls
  AreSo Constant = Unit {0}

  numbered-so : (k : ℕ) (ls : List NumberedLink) → Each IsSo ls → Each (λ (l : Option ℕ × NumberedLink). IsSo l.1) (map (λ x. (Some x.0, x.1)) (numbered k ls))
  numbered-so k [] h = tt
  numbered-so k (l ∷ ls) h = (h.0, numbered-so (suc k) ls h.1)

  links-so : (f : NumberedFeed) → AreSo f → Each (λ (l : Option ℕ × NumberedLink). IsSo l.1) (links_of f)
  links-so (Link l) h = (h, tt)
  links-so (Merge ls) h = numbered-so 0 ls h
  links-so Constant h = tt

  link-so : (t : ℕ) (x : ℕ × Port) (l : Option ℕ × NumberedLink) → IsSo l.1 → Each (λ (y : ℕ × Wire). y.0 ≡ s → P y.1.output) (wire_of t x l)
  link-so t (p, port) (at, Input n) h = tt
  link-so t (p, port) (at, Output u o) h = (h, tt)

  ports-so : (t k : ℕ) (ps : List Port) → Each (λ (p : Port). AreSo p.feed) ps → Each (λ (y : ℕ × Wire). y.0 ≡ s → P y.1.output) (flat_map (port_wires t) (numbered k ps))
  ports-so t k [] h = tt
  ports-so t k (p ∷ ps) h =
      each-append (λ (y : ℕ × Wire). y.0 ≡ s → P y.1.output) (port_wires t (k, p)) (flat_map (port_wires t) (numbered (suc k) ps))
      (each-flat (λ (y : ℕ × Wire). y.0 ≡ s → P y.1.output) (wire_of t (k, p)) (links_of p.feed)
      (each-weaken (λ (l : Option ℕ × NumberedLink). IsSo l.1) (λ l. Each (λ (y : ℕ × Wire). y.0 ≡ s → P y.1.output) (wire_of t (k, p) l)) (link-so t (k, p)) (links_of p.feed) (links-so p.feed h.0)))
      (ports-so t (suc k) ps h.1)

  steps-so : (k : ℕ) (ports : List (List Port)) → Each (λ (ps : List Port). Each (λ (p : Port). AreSo p.feed) ps) ports → Each (λ (y : ℕ × Wire). y.0 ≡ s → P y.1.output) (flat_map step_wires (numbered k ports))
  steps-so k [] h = tt
  steps-so k (ps ∷ ports) h =
      each-append (λ (y : ℕ × Wire). y.0 ≡ s → P y.1.output) (step_wires (k, ps)) (flat_map step_wires (numbered (suc k) ports)) (ports-so k 0 ps h.0) (steps-so (suc k) ports h.1)

-- ---- a step that no wire from s feeds has no port that comes from s

module _ (s c : ℕ) where
  abbrev NoneThere : ℕ × Wire → Type 0
  NoneThere y = y.0 ≡ s → y.1.step ≡ c → ⊥

  no-link : (x : ℕ × Port) (l : Option ℕ × NumberedLink) → Each NoneThere (wire_of c x l) → link_from s l.1 ≡ false
  no-link (p, port) (at, Input n) h = refl
  no-link (p, port) (at, Output t o) h = ne_eqb t s (λ e. h.0 e refl)

  no-merged : (k : ℕ) (ls : List NumberedLink) → Each (λ (l : Option ℕ × NumberedLink). link_from s l.1 ≡ false) (map (λ x. (Some x.0, x.1)) (numbered k ls)) → list_any (link_from s) ls ≡ false
  no-merged k [] h = refl
  no-merged k (l ∷ ls) h = (λ i. h.0 i || no-merged (suc k) ls h.1 i)

  no-feed : (f : NumberedFeed) → Each (λ (l : Option ℕ × NumberedLink). link_from s l.1 ≡ false) (links_of f) → feed_from s f ≡ false
  no-feed (Link l) h = h.0
  no-feed (Merge ls) h = no-merged 0 ls h
  no-feed Constant h = refl

  no-port : (k : ℕ) (ps : List Port) → Each (λ x. Each NoneThere (port_wires c x)) (numbered k ps) → Each (λ (p : Port). feed_from s p.feed ≡ false) ps
  no-port k [] h = tt
  no-port k (p ∷ ps) h = (
    no-feed p.feed (each-weaken (λ l. Each NoneThere (wire_of c (k, p) l)) (λ (l : Option ℕ × NumberedLink). link_from s l.1 ≡ false) (no-link (k, p)) (links_of p.feed) (each-unflat NoneThere (wire_of c (k, p)) (links_of p.feed) h.0)),
    no-port (suc k) ps h.1,
  )

  at-step : (k i : ℕ) (ports : List (List Port)) → k + i ≡ c → Each (λ x. Each NoneThere (step_wires x)) (numbered k ports) → Each (λ (p : Port). feed_from s p.feed ≡ false) (slice_index_or ports i [])
  at-step k i [] e h = tt
  at-step k zero (ps ∷ ports) e h =
      let same : k ≡ c = omega (arith, e) in
      no-port 0 ps (each-unflat NoneThere (port_wires c) (numbered 0 ps) (subst (λ n. Each NoneThere (step_wires (n, ps))) same h.0))
  at-step k (suc i) (ps ∷ ports) e h = at-step (suc k) i ports (omega (arith, e)) h.1

-- ---- the leaves of wires into step c are those of its ports

module _ (c n : ℕ) where
  abbrev HasLeaf : ℕ × Wire → Type 0
  HasLeaf y = y.1.step ≡ c → y.1.leaf < n

  link-leaf : (t : ℕ) (x : ℕ × Port) (l : Option ℕ × NumberedLink) → x.1.leaf < n → Each HasLeaf (wire_of t x l)
  link-leaf t (p, port) (at, Input m) h = tt
  link-leaf t (p, port) (at, Output u o) h = (λ e. h, tt)

  ports-leaf : (t k : ℕ) (ps : List Port) → Each (λ (p : Port). p.leaf < n) ps → Each HasLeaf (flat_map (port_wires t) (numbered k ps))
  ports-leaf t k [] h = tt
  ports-leaf t k (p ∷ ps) h =
      each-append HasLeaf (port_wires t (k, p)) (flat_map (port_wires t) (numbered (suc k) ps))
      (each-flat HasLeaf (wire_of t (k, p)) (links_of p.feed) (each-all (λ l. Each HasLeaf (wire_of t (k, p) l)) (λ l. link-leaf t (k, p) l h.0) (links_of p.feed)))
      (ports-leaf t (suc k) ps h.1)

  -- wires into later steps
  later : (k : ℕ) (ports : List (List Port)) → Each (λ (y : ℕ × Wire). k ≤ y.1.step) (flat_map step_wires (numbered k ports))
  later k [] = tt
  later k (ps ∷ ports) =
      each-append (λ (y : ℕ × Wire). k ≤ y.1.step) (step_wires (k, ps)) (flat_map step_wires (numbered (suc k) ports))
      (each-weaken (λ (y : ℕ × Wire). y.1.step ≡ k) (λ (y : ℕ × Wire). k ≤ y.1.step) (λ y e. omega (arith, e)) (step_wires (k, ps)) (step-own k ps))
      (each-weaken (λ (y : ℕ × Wire). suc k ≤ y.1.step) (λ (y : ℕ × Wire). k ≤ y.1.step) (λ y l. omega (arith, l)) (flat_map step_wires (numbered (suc k) ports)) (later (suc k) ports))

  steps-leaf : (k i : ℕ) (ports : List (List Port)) → k + i ≡ c → Each (λ (p : Port). p.leaf < n) (slice_index_or ports i []) → Each HasLeaf (flat_map step_wires (numbered k ports))
  steps-leaf k i [] e h = tt
  steps-leaf k zero (ps ∷ ports) e h =
      each-append HasLeaf (step_wires (k, ps)) (flat_map step_wires (numbered (suc k) ports))
      (ports-leaf k 0 ps h)
      (each-weaken (λ (y : ℕ × Wire). suc k ≤ y.1.step) HasLeaf (λ y l f. absurd (omega (arith, e, l, f))) (flat_map step_wires (numbered (suc k) ports)) (later (suc k) ports))
  steps-leaf k (suc i) (ps ∷ ports) e h =
      each-append HasLeaf (step_wires (k, ps)) (flat_map step_wires (numbered (suc k) ports))
      (each-weaken (λ (y : ℕ × Wire). y.1.step ≡ k) HasLeaf (λ y f g. absurd (omega (arith, e, f, g))) (step_wires (k, ps)) (step-own k ps))
      (steps-leaf (suc k) i ports (omega (arith, e)) h)

-- ---- of a wiring

pub rows-many : (w : Wiring) → AreWires w → length w.wires ≡ length w.ports
rows-many w h = ap length h ∙ length-map-range_with_len (λ n. from_number n (all_wires w.ports)) 0 (length w.ports)

row-is : (w : Wiring) (s : ℕ) → AreWires w → s < length w.ports → wires_from w s ≡ from_number s (all_wires w.ports)
row-is w s h l =
    ap (λ r. slice_index_or r s []) h
    ∙ get_or-map-range_with_len (λ n. from_number n (all_wires w.ports)) 0 (length w.ports) s s [] l (omega arith)

pub wires-sorted : (w : Wiring) (s : ℕ) → AreWires w → s < length w.ports → AreSortedFrom 0 (wires_from w s)
wires-sorted w s h l = subst (AreSortedFrom 0) (sym (row-is w s h l)) (turned-sorted s 0 w.ports)

pub wires-within : (w : Wiring) (s : ℕ) → AreWires w → s < length w.ports → Each (λ (x : Wire). x.step < length w.ports) (wires_from w s)
wires-within w s h l =
    subst (Each (λ (x : Wire). x.step < length w.ports)) (sym (row-is w s h l))
    (from-each s (λ (x : Wire). x.step < length w.ports) (all_wires w.ports)
    (each-weaken (λ (y : ℕ × Wire). y.1.step < 0 + length w.ports) (λ (y : ℕ × Wire). y.0 ≡ s → y.1.step < length w.ports) (λ y k e. omega (arith, k)) (all_wires w.ports) (turned-within s 0 w.ports)))

pub wires-so : (w : Wiring) (s : ℕ) (P : ℕ → Type 0) → AreWires w → s < length w.ports → Each (λ (ps : List Port). Each (λ (p : Port). AreSo s P p.feed) ps) w.ports → Each (λ (x : Wire). P x.output) (wires_from w s)
wires-so w s P h l a =
    subst (Each (λ (x : Wire). P x.output)) (sym (row-is w s h l)) (from-each s (λ (x : Wire). P x.output) (all_wires w.ports) (steps-so s P 0 w.ports a))

pub none-fed : (w : Wiring) (s c : ℕ) → AreWires w → s < length w.ports → Each (λ (x : Wire). x.step ≡ c → ⊥) (wires_from w s) → Each (λ (p : Port). feed_from s p.feed ≡ false) (slice_index_or w.ports c [])
none-fed w s c h l a =
    at-step s c 0 c w.ports (omega arith)
    (each-unflat (NoneThere s c) step_wires (numbered 0 w.ports)
    (each-from s (λ (x : Wire). x.step ≡ c → ⊥) (all_wires w.ports) (subst (Each (λ (x : Wire). x.step ≡ c → ⊥)) (row-is w s h l) a)))

pub wires-leaf : (w : Wiring) (s c n : ℕ) → AreWires w → s < length w.ports → Each (λ (p : Port). p.leaf < n) (slice_index_or w.ports c []) → Each (λ (x : Wire). x.step ≡ c → x.leaf < n) (wires_from w s)
wires-leaf w s c n h l a =
    subst (Each (λ (x : Wire). x.step ≡ c → x.leaf < n)) (sym (row-is w s h l))
    (from-each s (λ (x : Wire). x.step ≡ c → x.leaf < n) (all_wires w.ports)
    (each-weaken (HasLeaf c n) (λ (y : ℕ × Wire). y.0 ≡ s → y.1.step ≡ c → y.1.leaf < n) (λ y k e. k) (all_wires w.ports) (steps-leaf c n 0 c w.ports (omega arith) a)))

-- ---- the rows of wires into ports that walk some levels

module _ (rows : List (Vec Wire Global)) (w : Wiring) (h : AreWalked rows w) where
  pub walked-many : length rows ≡ length w.wires
  walked-many = sym (length-map rows (λ row. row.items)) ∙ ap length h ∙ length-map w.wires (filter is_walked)

  pub walked-row : (k : ℕ) (row : Vec Wire Global) → k < length rows → (get_or rows k row).items ≡ filter is_walked (wires_from w k)
  walked-row k row l =
      sym (get_or-map (λ r. r.items) rows k row [] l)
      ∙ ap (λ ls. get_or ls k []) h
      ∙ get_or-map (filter is_walked) w.wires k [] [] (omega (arith, l, walked-many))
