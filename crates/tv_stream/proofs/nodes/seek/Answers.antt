use Rattle.std.proofs.Common.{◌≡◌, ◌≢◌, ℕ, suc, ◌+◌, ◌-◌, ◌<◌, ◌≤◌, ◌==◌, arith, Bool, false, Some, refl, sym, ap, ◌∙◌, subst}
use Rattle.std.proofs.lemmas.Bool.{eqb-true, eq-eqb, both_ways}
use Rattle.tv_pool.specs.Pool.{item_in, nowhere}
use Rattle.tv_stream.specs.declared.nodes.Entry.{Entry}
use Rattle.tv_stream.specs.nodes.Nodes.{part_found, leads}
use Rattle.tv_stream.specs.nodes.Stands.{IsNode}
use Rattle.tv_stream.proofs.NodeWays.{OnWay, Searches, searches-begins, searches-none, searches-reach, searches-found, searches-on, way-ends}
use Rattle.tv_stream.proofs.nodes.seek.Goals as goal

pub digits-init : goal.digits-init
digits-init g c number n = searches-begins (item_in c.args.pool.now number) n.spots n.nodes c.args.node.slot n.spot c.args.index n.known

pub at-requires : goal.at-requires
at-requires g c =
    let w = c.digits.invariant c.requires.0 c.requires.1 in
    record { number = c.requires.0; item = w.way.entry; lies = w.way.lies }

pub bounds-at-by : goal.bounds-at-by
bounds-at-by g c = (c.digits.invariant c.requires.0 c.requires.1).way.bound

pub offset_bounds-at-by : goal.offset_bounds-at-by
offset_bounds-at-by g c = let b : c.digits.by < 5 = (c.digits.invariant c.requires.0 c.requires.1).way.bound in omega arith

apart : (b : Bool) (t u : ℕ) → b ≡ (t == u) → b ≡ false → t ≢ u
apart b t u h k same = both_ways b k (h ∙ eq-eqb t u same)

one : (s : ℕ) → s < 17 → 17 - s ≡ suc (17 - (s + 1))
one s h = omega arith

none : (s : ℕ) → 17 ≤ s → 17 - s ≡ 0
none s h = omega arith

pub returns-then-is_none : goal.returns-then-is_none
returns-then-is_none g c number n =
    let w = c.digits.invariant number n in
    let lies = w.way.lies ∙ ap Some (sym (c.at.ensures number w.way.entry w.way.lies)) in
    let none = eqb-true (leads c.at.result.now c.digits.by) nowhere (sym c.is_none.ensures ∙ c.if-is_none.true) in
    let ends = searches-none (item_in c.args.pool.now number) n.spots n.nodes n.spot.place c.args.index c.args.node.slot c.digits.at.slot c.digits.by c.digits.rest c.at.result.now lies (17 - c.digits._step) none w in
    (ap part_found ends, refl, record { node = refl; ends = ends; fits = c.ranges.index.fits })

pub at-requires-in-digits : goal.at-requires-in-digits
at-requires-in-digits g c =
    let n = c.requires.1 in
    let w = c.digits.invariant c.requires.0 n in
    let lies = w.way.lies ∙ ap Some (sym (c.at.ensures c.requires.0 w.way.entry w.way.lies)) in
    let there = apart c.is_none.result (leads c.at.result.now c.digits.by) nowhere c.is_none.ensures c.if-is_none.false in
    let t = searches-reach (item_in c.args.pool.now c.requires.0) n.spots n.nodes n.spot.place c.args.index c.args.node.slot c.digits.at.slot c.digits.by c.digits.rest c.at.result.now lies (17 - c.digits._step) there w in
    record { number = c.requires.0; item = t.0.entry; lies = ap (item_in c.args.pool.now c.requires.0) t.1 ∙ t.0.lies }

pub returns-then-at-index : goal.returns-then-at-index
returns-then-at-index g c number n =
    let w = c.digits.invariant number n in
    let lies = w.way.lies ∙ ap Some (sym (c.at.ensures number w.way.entry w.way.lies)) in
    let there = apart c.is_none.result (leads c.at.result.now c.digits.by) nowhere c.is_none.ensures c.if-is_none.false in
    let t = searches-reach (item_in c.args.pool.now number) n.spots n.nodes n.spot.place c.args.index c.args.node.slot c.digits.at.slot c.digits.by c.digits.rest c.at.result.now lies (17 - c.digits._step) there w in
    let found = ap (item_in c.args.pool.now number) t.1 ∙ t.0.lies in
    let more = subst (λ left. Searches (item_in c.args.pool.now number) n.spots n.spot.place c.args.index c.args.node.slot c.digits.at.slot c.digits.by c.digits.rest left) (one c.digits._step c.digits-test.true) w in
    searches-found (item_in c.args.pool.now number) n.spots n.nodes n.spot.place c.args.index c.args.node.slot c.digits.at.slot c.digits.by c.digits.rest c.at.result.now lies (17 - (c.digits._step + 1)) there more t.0.entry found (ap (λ (e : Entry _). e.index) (sym (c.at-in-digits.ensures number t.0.entry found)) ∙ c.if-at-index.true)

pub digits-preserved : goal.digits-preserved
digits-preserved g c number n =
    let w = c.digits.invariant number n in
    let lies = w.way.lies ∙ ap Some (sym (c.at.ensures number w.way.entry w.way.lies)) in
    let there = apart c.is_none.result (leads c.at.result.now c.digits.by) nowhere c.is_none.ensures c.if-is_none.false in
    let t = searches-reach (item_in c.args.pool.now number) n.spots n.nodes n.spot.place c.args.index c.args.node.slot c.digits.at.slot c.digits.by c.digits.rest c.at.result.now lies (17 - c.digits._step) there w in
    let found = ap (item_in c.args.pool.now number) t.1 ∙ t.0.lies in
    let more = subst (λ left. Searches (item_in c.args.pool.now number) n.spots n.spot.place c.args.index c.args.node.slot c.digits.at.slot c.digits.by c.digits.rest left) (one c.digits._step c.digits-test.true) w in
    searches-on (item_in c.args.pool.now number) n.spots n.nodes n.spot.place c.args.index c.args.node.slot c.digits.at.slot c.digits.by c.digits.rest c.at.result.now lies (17 - (c.digits._step + 1)) there more t.0.entry found (λ h. c.if-at-index.false (ap (λ (e : Entry _). e.index) (c.at-in-digits.ensures number t.0.entry found) ∙ h))

pub unreachable-requires : goal.unreachable-requires
unreachable-requires g c =
    let n = c.requires.1 in
    let w = c.digits.invariant c.requires.0 n in
    way-ends (item_in c.args.pool.now c.requires.0) n.spots n.nodes c.args.node.slot n.spot.place c.args.index c.digits.at.slot c.digits.by c.digits.rest c.ranges.index.fits (subst (λ left. OnWay (item_in c.args.pool.now c.requires.0) n.spots c.args.node.slot n.spot.place c.args.index c.digits.at.slot c.digits.by c.digits.rest left) (none c.digits._step c.digits-test.false) w.way)
