-- Which steps are told something, wire by wire.
use Rattle.std.specs.Prelude.{◌≡◌, ℕ, ◌==◌, ◌&&◌, Bool, true, false, if◌then◌else◌, List, [], filter, length, map, refl, ◌<◌}
use Rattle.std.proofs.Common.{ap, sym, ◌∙◌}
use Rattle.std.proofs.lemmas.Bool.{eqb-true}
use Rattle.tv_lemmas.specs.Members.{Each}
use Rattle.tv_strategy.proofs.Each.{each-weaken}
use Rattle.tv_matching.proofs.Lists.{each-map}
use Rattle.tv_telling.specs.declared.ways.Event.{Event}
use Rattle.tv_telling.specs.declared.ways.Way.{Way}
use Rattle.tv_telling.specs.declared.ways.Whole.{Whole}
use Rattle.tv_telling.specs.Views.{HasOutput}
use Rattle.tv_check.specs.declared.feeds.NumberedLink.{NumberedLink}
use Rattle.tv_check.specs.declared.feeds.NumberedLink.TheVariants.{Input, Output}
use Rattle.tv_check.specs.declared.feeds.NumberedFeed.{NumberedFeed}
use Rattle.tv_check.specs.declared.feeds.NumberedFeed.TheVariants.{Link, Merge, Constant}
use Rattle.tv_check.specs.declared.ports.Port.{Port}
use Rattle.tv_check.specs.declared.wires.Wire.{Wire}
use Rattle.tv_telling.specs.endings.Ends.{is_whole}
use Rattle.tv_telling.specs.endings.Feeds.{IsLinkWithin, IsWithin, feed_from, feed_whole, has_whole_with, with_step}
use Rattle.tv_spread.specs.declared.around.Around.{Around}
use Rattle.tv_telling.specs.Along.{is_walked, leads_into, way_of, ways_into, wires_from}
use Rattle.tv_spread.specs.Wholes.{whole_port, wholes_with}
use Rattle.tv_spread.specs.Arounds.{IsAround, IsFed, IsLinked, delivers_fault, is_told, ports_at, tells_some, ways_at, wholes_among, wholes_at, wires_along}
use Rattle.tv_spread.proofs.Lists.{each-filter, each-passing, filter-none}
use Rattle.tv_spread.proofs.Runs.{no-ways, sorted-filter, walked-ways}
use Rattle.tv_spread.proofs.WireLemmas.{AreSo, IsSo, none-fed, wires-leaf, wires-so, wires-sorted, wires-within}
use Rattle.tv_spread.specs.Runs.{AreSortedFrom}

-- ---- of what is around

module _ (a : Around) (s : ℕ) (e : Event) where
  link-so : (l : NumberedLink) → IsLinked a s e l → IsSo s (HasOutput e) l
  link-so (Input x) h = tt
  link-so (Output t o) h = h.own

  feed-so : (f : NumberedFeed) → IsFed a s e f → AreSo s (HasOutput e) f
  feed-so (Link l) h = link-so l h
  feed-so (Merge ls) h = each-weaken (IsLinked a s e) (IsSo s (HasOutput e)) link-so ls h
  feed-so Constant h = tt

  link-within : (l : NumberedLink) → IsLinked a s e l → IsLinkWithin (length a.endings.now.whole.items) l
  link-within (Input x) h = tt
  link-within (Output t o) h = h.step

  -- it comes from steps that there are
  pub fed-within : (f : NumberedFeed) → IsFed a s e f → IsWithin (length a.endings.now.whole.items) f
  fed-within (Link l) h = link-within l h
  fed-within (Merge ls) h = each-weaken (IsLinked a s e) (IsLinkWithin (length a.endings.now.whole.items)) link-within ls h
  fed-within Constant h = tt

  module _ (h : IsAround a s e) where
    -- the event has what its step's wires come from
    pub wires-have : Each (λ (w : Wire). HasOutput e w.output) (wires_from a.wiring.now s)
    wires-have =
        wires-so a.wiring.now s (HasOutput e) h.wires h.step
        (each-weaken (λ (ps : List Port). Each (λ (p : Port). IsFed a s e p.feed) ps) (λ (ps : List Port). Each (λ (p : Port). AreSo s (HasOutput e) p.feed) ps)
        (λ ps. each-weaken (λ (p : Port). IsFed a s e p.feed) (λ (p : Port). AreSo s (HasOutput e) p.feed) (λ p. feed-so p.feed) ps) a.wiring.now.ports h.fed)

    pub ways-have : (c : ℕ) → Each (λ (w : Way). HasOutput e w.output) (ways_at a s c)
    ways-have c =
        each-map (λ (w : Way). HasOutput e w.output) way_of (filter (leads_into c) (wires_from a.wiring.now s))
        (each-filter (λ (w : Wire). HasOutput e w.output) (leads_into c) (wires_from a.wiring.now s) wires-have)

    -- they are told by leaves of the ports
    pub ways-leaf : (c n : ℕ) → Each (λ (p : Port). p.leaf < n) (ports_at a c) → Each (λ (w : Way). w.leaf < n) (ways_at a s c)
    ways-leaf c n l =
        each-map (λ (w : Way). w.leaf < n) way_of (filter (leads_into c) (wires_from a.wiring.now s))
        (each-weaken (λ (w : Wire). (w.step ≡ c → w.leaf < n) × (leads_into c w ≡ true)) (λ (w : Wire). w.leaf < n) (λ w k. k.0 (into c w k.1)) (filter (leads_into c) (wires_from a.wiring.now s))
        (each-passing (λ (w : Wire). w.step ≡ c → w.leaf < n) (leads_into c) (wires_from a.wiring.now s) (wires-leaf a.wiring.now s c n h.wires h.step l)))
      where
        into : (c : ℕ) (w : Wire) → leads_into c w ≡ true → w.step ≡ c
        into c w e = by (w.step == c) refl e
          where
            by : (b : Bool) → (w.step == c) ≡ b → (b && is_walked w) ≡ true → w.step ≡ c
            by true f g = eqb-true w.step c f
            by false f g = absurd (cc)

    pub wholes-leaf : (n : ℕ) (ps : List Port) → Each (λ (p : Port). p.leaf < n) ps → Each (λ (w : Whole). w.leaf < n) (wholes_among a s e ps)
    wholes-leaf n ps l = by (e.whole_from == 0)
      where
        by : (b : Bool) → Each (λ (w : Whole). w.leaf < n) (if b then wholes_with (is_whole a.endings.now) s (delivers_fault a s e) ps else [])
        by true = each-map (λ (w : Whole). w.leaf < n) (whole_port (delivers_fault a s e)) (filter (has_whole_with (is_whole a.endings.now) s) ps) (each-filter (λ (p : Port). p.leaf < n) (has_whole_with (is_whole a.endings.now) s) ps l)
        by false = tt

    -- ---- the wires along which it is told

    pub along-sorted : AreSortedFrom 0 (wires_along a s e)
    along-sorted = by (e.whole_from == 0)
      where
        by : (b : Bool) → AreSortedFrom 0 (if b then wires_from a.wiring.now s else filter is_walked (wires_from a.wiring.now s))
        by true = wires-sorted a.wiring.now s h.wires h.step
        by false = sorted-filter is_walked 0 (wires_from a.wiring.now s) (wires-sorted a.wiring.now s h.wires h.step)

    pub along-within : Each (λ (w : Wire). w.step < length a.wiring.now.ports) (wires_along a s e)
    along-within = by (e.whole_from == 0)
      where
        by : (b : Bool) → Each (λ (w : Wire). w.step < length a.wiring.now.ports) (if b then wires_from a.wiring.now s else filter is_walked (wires_from a.wiring.now s))
        by true = wires-within a.wiring.now s h.wires h.step
        by false = each-filter (λ (w : Wire). w.step < length a.wiring.now.ports) is_walked (wires_from a.wiring.now s) (wires-within a.wiring.now s h.wires h.step)

    -- all ways lead along them
    pub along-ways : (c : ℕ) → ways_into c (wires_along a s e) ≡ ways_at a s c
    along-ways c = by (e.whole_from == 0)
      where
        by : (b : Bool) → ways_into c (if b then wires_from a.wiring.now s else filter is_walked (wires_from a.wiring.now s)) ≡ ways_at a s c
        by true = refl
        by false = walked-ways c (wires_from a.wiring.now s)

    -- a step into which none of them leads is told nothing
    none-whole : (ps : List Port) → Each (λ (p : Port). feed_from s p.feed ≡ false) ps → wholes_with (is_whole a.endings.now) s (delivers_fault a s e) ps ≡ []
    none-whole ps n =
        ap (map (whole_port (delivers_fault a s e)))
        (filter-none (has_whole_with (is_whole a.endings.now) s) ps (each-weaken (λ (p : Port). feed_from s p.feed ≡ false) (λ p. has_whole_with (is_whole a.endings.now) s p ≡ false) one ps n))
      where
        no : (b : Bool) → (b && false) ≡ false
        no true = refl
        no false = refl

        one : (p : Port) → feed_from s p.feed ≡ false → has_whole_with (is_whole a.endings.now) s p ≡ false
        one p f = ap (λ b. p.levels == 0 && (b && feed_whole (with_step (is_whole a.endings.now) s) p.feed)) f ∙ no (p.levels == 0)

    pub untold : (c : ℕ) → Each (λ (w : Wire). w.step ≡ c → ⊥) (wires_along a s e) → is_told a s e c ≡ false
    untold c n =
        let ways : ways_at a s c ≡ [] = sym (along-ways c) ∙ no-ways c (wires_along a s e) n in
        let whole : wholes_at a s e c ≡ [] = by (e.whole_from == 0) n in
        (λ i. tells_some (ways i) (whole i))
      where
        by : (b : Bool) → Each (λ (w : Wire). w.step ≡ c → ⊥) (if b then wires_from a.wiring.now s else filter is_walked (wires_from a.wiring.now s))
            → (if b then wholes_with (is_whole a.endings.now) s (delivers_fault a s e) (ports_at a c) else []) ≡ []
        by true m = none-whole (ports_at a c) (none-fed a.wiring.now s c h.wires h.step m)
        by false m = refl
