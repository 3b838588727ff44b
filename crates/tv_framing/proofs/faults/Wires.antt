-- What is told along wires into a step is told to its ports.
use Rattle.std.specs.List.{list_any}
use Rattle.std.specs.Prelude.{◌≡◌, refl, ℕ, zero, suc, ◌+◌, ◌<◌, ◌==◌, true, filter, get_or, List, [], ◌∷◌, length, map, not, Option, Some, slice_get}
use Rattle.std.proofs.Common.{arith, sym, ap, subst, ◌∙◌, eqb-true, inl, inr}
use Rattle.std.proofs.lemmas.Bool.{and_parts}
use Rattle.std.proofs.lemmas.Option.{none-some, same_Some}
use Rattle.tv_lemmas.specs.Members.{Each, In}
use Rattle.tv_lemmas.proofs.Members.{each_in, in-filter, in_each, of-filter, of-flat, of-map}
use Rattle.tv_lemmas.proofs.Lists.{get-map}
use Rattle.tv_value.specs.Orders.{same_name}
use Rattle.tv_value.specs.Values.{Name}
use Rattle.tv_value.proofs.NameLemmas.{same_name-refl}
use Rattle.tv_flow.specs.Flows.{Flow, Step, StepInput}
use Rattle.tv_strategy.specs.Measures.{leaf_names}
use Rattle.tv_naming.specs.Naming.{has_name, numbered}
use Rattle.tv_naming.specs.Numbers.{position}
use Rattle.tv_naming.proofs.ByPosition.{there}
use Rattle.tv_model.specs.instance.Steps.{strategy_of}
use Rattle.tv_matching.specs.Matchers.{leaf_name}
use Rattle.tv_matching.specs.Told.{Told, told_leaf}
use Rattle.tv_telling.specs.declared.ways.Event as code
use Rattle.tv_telling.specs.declared.ways.Way.{Way}
use Rattle.tv_telling.specs.Views.{happening, way_tellings}
use Rattle.tv_telling.specs.WayTellings.{place_of_item}
use Rattle.tv_check.specs.declared.feeds.NumberedLink.{NumberedLink}
use Rattle.tv_check.specs.declared.feeds.NumberedLink.TheVariants.{Input, Output}
use Rattle.tv_check.specs.declared.ports.Port.{Port}
use Rattle.tv_check.specs.declared.wires.Wire.{Wire}
use Rattle.tv_check.specs.Ports.{leaf_number, port_among, ports_of}
use Rattle.tv_check.specs.Turned.{all_wires, from_number, links_of, port_wires, step_wires, wire_of}
use Rattle.tv_check.specs.Wirings.{all_ports, wiring}
use Rattle.tv_framing.proofs.engine.Lists.{at-range}
use Rattle.tv_framing.proofs.engine.Wires.{leaf-named}
use Rattle.tv_framing.specs.engine.AlongWires.{of_leaf, told_along}
use Rattle.tv_telling.specs.Along.{leads_into, way_of, ways_into, wires_from}
use Rattle.tv_framing.proofs.engine.Told.{way-to}

-- ---- members of lists

of-mapped : {A B : Type 0} (g : A → B) (xs : List A) (k : ℕ) (z : B) → slice_get (map g xs) k ≡ Some z → (x : A) × In x xs × (z ≡ g x)
of-mapped g [] k z e = absurd (none-some z e)
of-mapped g (y ∷ xs) zero z e = (y, inl refl, sym (same_Some (g y) z e))
of-mapped g (y ∷ xs) (suc k) z e = let r = of-mapped g xs k z e in (r.0, inr r.1, r.2)

of-numbered : {A : Type 0} (k : ℕ) (xs : List A) (y : ℕ × A) → In y (numbered k xs) → (m : ℕ) × (y.0 ≡ k + m) × (slice_get xs m ≡ Some y.1)
of-numbered k [] y h = absurd h
of-numbered k (x ∷ xs) y (inl e) = (0, ap (λ z. z.0) e ∙ here k, ap (λ z. Some z.1) (sym e))
  where
    here : (a : ℕ) → a ≡ a + 0
    here a = omega arith
of-numbered k (x ∷ xs) y (inr h) = let r = of-numbered (suc k) xs y h in (suc r.0, r.1 ∙ later k r.0, r.2)
  where
    later : (a b : ℕ) → suc a + b ≡ a + suc b
    later a b = omega arith

-- ---- wires and the ports that they lead to

of-wire : (t : ℕ) (y : ℕ × Port) (l : Option ℕ × NumberedLink) (x : ℕ × Wire) → In x (wire_of t y l) → (x.1.step ≡ t) × (x.1.leaf ≡ y.1.leaf)
of-wire t (p, port) (at, Input i) x h = absurd h
of-wire t (p, port) (at, Output s o) x (inl e) = (ap (λ (z : ℕ × Wire). z.1.step) e, ap (λ (z : ℕ × Wire). z.1.leaf) e)
of-wire t (p, port) (at, Output s o) x (inr h) = absurd h

module _ (f : Flow) (n : ℕ) (s : Name × Step) (stands : slice_get f.steps n ≡ Some s) where
  abbrev leaves : List Name
  leaves = leaf_names (strategy_of s.1)

  abbrev LeadsToPort : ℕ → Type 0
  LeadsToPort leaf = (i : Name × StepInput) × In i s.1.inputs × (leaf ≡ leaf_number i.0 leaves)

  ports-at : (m : ℕ) (ps : List Port) → m ≡ n → slice_get (all_ports f) m ≡ Some ps → ps ≡ ports_of f s.1
  ports-at m ps e h =
      same_Some ps (ports_of f s.1) (sym h ∙ ap (slice_get (all_ports f)) e ∙ get-map (λ (t : Name × Step). ports_of f t.1) f.steps n s stands)

  port-of : (x : ℕ × Wire) → In x (all_wires (all_ports f)) → x.1.step ≡ n → LeadsToPort x.1.leaf
  port-of x i e =
      let a = of-flat step_wires x (numbered 0 (all_ports f)) i in
      let b = of-flat (port_wires a.0.0) x (numbered 0 a.0.1) a.2 in
      let c = of-flat (wire_of a.0.0 b.0) x (links_of b.0.1.feed) b.2 in
      let d = of-wire a.0.0 b.0 c.0 x c.2 in
      let y = of-numbered 0 (all_ports f) a.0 a.1 in
      let z = of-numbered 0 a.0.1 b.0 b.1 in
      let number : y.0 ≡ n = plus y.0 a.0.0 n y.1 (sym d.0 ∙ e) in
      let ports : a.0.1 ≡ ports_of f s.1 = ports-at y.0 a.0.1 number y.2 in
      let p = of-mapped (port_among f leaves) s.1.inputs z.0 b.0.1 (ap (λ ps. slice_get ps z.0) (sym ports) ∙ z.2) in
      (p.0, p.1, d.1 ∙ ap (λ (q : Port). q.leaf) p.2)
    where
      plus : (m k l : ℕ) → k ≡ 0 + m → k ≡ l → m ≡ l
      plus m k l g h = omega (arith, g, h)

  module _ (m : ℕ) (few : m < length f.steps) where
    wires-are : wires_from (wiring f) m ≡ from_number m (all_wires (all_ports f))
    wires-are = at-range (λ k. from_number k (all_wires (all_ports f))) (length f.steps) m few

    pub way-named : (w : Way) → In w (ways_into n (wires_from (wiring f) m)) → LeadsToPort w.leaf
    way-named w i =
        let a = of-map way_of w (filter (leads_into n) (wires_from (wiring f) m)) i in
        let b = of-filter (leads_into n) a.0 (wires_from (wiring f) m) a.1 in
        let c = of-map (λ (x : ℕ × Wire). x.1) a.0 (filter (λ x. x.0 == m) (all_wires (all_ports f))) (subst (In a.0) wires-are b.0) in
        let d = of-filter (λ (x : ℕ × Wire). x.0 == m) c.0 (all_wires (all_ports f)) c.1 in
        let step : a.0.step ≡ n = eqb-true a.0.step n (and_parts (a.0.step == n) (not (a.0.levels == 0)) b.1).0 in
        let r = port-of c.0 d.0 (ap (λ (y : Wire). y.step) (sym c.2) ∙ step) in
        (r.0, r.1, ap (λ (y : Way). y.leaf) a.2 ∙ ap (λ (y : Wire). y.leaf) c.2 ∙ r.2)

-- ---- tellings and their leaves

module _ (f : Flow) (n : ℕ) (s : Name × Step) (stands : slice_get f.steps n ≡ Some s) (leaves_are : (i : Name × StepInput) → In i s.1.inputs → list_any (same_name i.0) (leaf_names (strategy_of s.1)) ≡ true) (t : Name) (feeding : has_name f.steps t ≡ true) (c : code.Event) where
  -- each telling along the wires is one of a port
  told-port : (x : Told) → In x (told_along f n s.1 t c) → (i : Name × StepInput) × In i s.1.inputs × (told_leaf x ≡ i.0)
  told-port x i =
      let a = of-flat (way_tellings (strategy_of s.1) c) x (ways_into n (wires_from (wiring f) (position t f.steps))) i in
      let b = way-named f n s stands (position t f.steps) (there t f.steps feeding).below a.0 a.1 in
      let w = a.0 in
      let leaf : told_leaf x ≡ leaf_name (strategy_of s.1) w.leaf = each_in (λ y. told_leaf y ≡ leaf_name (strategy_of s.1) w.leaf) (way_tellings (strategy_of s.1) c w) (way-to (leaf_name (strategy_of s.1) w.leaf) w.levels (place_of_item w.item) c.whole_from (get_or c.faults.now w.output 0) c.place.now (happening c.happened w.output)) x a.2 in
      (b.0, b.1, leaf ∙ ap (λ l. leaf_name (strategy_of s.1) l) b.2 ∙ leaf-named b.0.0 (leaf_names (strategy_of s.1)) (leaves_are b.0 b.1))

  -- so what is so of those of each port is so of all
  pub by-ports : (P : Told → Type 0) → ((i : Name × StepInput) → In i s.1.inputs → Each P (of_leaf i.0 (told_along f n s.1 t c))) → Each P (told_along f n s.1 t c)
  by-ports P h =
      in_each P (told_along f n s.1 t c)
      (λ x i. let p = told-port x i in each_in P (of_leaf p.0.0 (told_along f n s.1 t c)) (h p.0 p.1) x (in-filter (λ y. same_name p.0.0 (told_leaf y)) x (told_along f n s.1 t c) i (ap (same_name p.0.0) p.2 ∙ same_name-refl p.0.0)))
