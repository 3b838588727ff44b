use Rattle.std.proofs.Common.{◌≡◌, ◌<◌, ◌≤◌, ℕ, zero, suc, arith, refl, sym, ap, ◌∙◌, subst, false, if◌then◌else◌, Some, None, Option, [], ◌^◌}
use Rattle.std.specs.Option.{is_some}
use Rattle.tv_pool.specs.Pool.{item_in, lies_at}
use Rattle.tv_stream.specs.nodes.Stands.{Spot}
use Rattle.tv_stream.specs.nodes.Calls.{Sets}
use Rattle.tv_stream.specs.declared.nodes.Entry.{Entry}
use Rattle.tv_stream.specs.nodes.Nodes.{body_in}
use Rattle.tv_parts.specs.Changes.{close_at, CanClose}
use Rattle.tv_stream.specs.declared.held.Held.{Held}
use Rattle.tv_stream.specs.declared.held.Part.TheVariants.{Item, Numbered}
use Rattle.tv_stream.specs.Trees.{tree_at, tree_by}
use Rattle.tv_stream.specs.Inside.{counts_of, counts_ended, counts_whole, InTree, Changed}
use Rattle.tv_stream.proofs.Bases.{body-tree, list-body, base-close, changed-least, closed-tree, growing-tree, open-index, no-some, keeps-refl}
use Rattle.tv_stream.proofs.changes.end.Goals as goal

pub returns-in-Item-clause-refused : goal.returns-in-Item-clause-refused
returns-in-Item-clause-refused g c number spots height inside tall =
    let m = item_in c.args.pool.now number in
    let b = c.body-held.ensures number (record { spots = spots; nodes = inside.nodes; spot = inside.spot; known = inside.known }) in
    let t = body-tree height m (lies_at c.args.node) c.body-held.result.now b in
    λ here. (_, t.1 ∙ ap (tree_by t.0 m (lies_at c.args.node) c.body-held.result.now.marked) c.in-Item.is)

pub returns-then-is_some : goal.returns-then-is_some
returns-then-is_some g c = record {
  ok = tt;
  refused = λ number spots height inside tall.
      let m = item_in c.args.pool.now number in
      let b = c.body-held.ensures number (record { spots = spots; nodes = inside.nodes; spot = inside.spot; known = inside.known }) in
      let t = body-tree height m (lies_at c.args.node) c.body-held.result.now b in
      let k = closed-tree t.0 m (lies_at c.args.node) c.body-held.result.now.marked c.body-held.result.now.part (ap (λ x. is_some x.length) (sym c.counts-counts.ensures) ∙ sym c.is_some.ensures ∙ c.if-is_some.true) in
      (refl, (k.0, t.1 ∙ k.1));
  nodes = λ number. refl;
  unchanged = refl;
  kept = λ number n. keeps-refl c.args.pool.now number;
  spare = refl;
}

pub returns-then-counts-from : goal.returns-then-counts-from
returns-then-counts-from g c = record {
  ok = tt;
  refused = λ number spots height inside tall.
      let m = item_in c.args.pool.now number in
      let b = c.body-held.ensures number (record { spots = spots; nodes = inside.nodes; spot = inside.spot; known = inside.known }) in
      let t = list-body height m (lies_at c.args.node) c.body-held.result.now tall b inside.sound in
      let less = subst (λ n. n < c.counts-counts.result.most) c.from.ensures c.if-counts-from.true in
      let k = growing-tree t.0 t.1.0 m (lies_at c.args.node) c.body-held.result.now.marked c.body-held.result.now.part c.args.length t.1.1.1 (ap (λ x. is_some x.length) (sym c.counts-counts.ensures) ∙ sym c.is_some.ensures ∙ c.if-is_some.false) (subst (λ x. c.args.length < x.most) c.counts-counts.ensures less) in
      (refl, (k.0, t.1.1.0 ∙ k.1, ap (λ x. x.most) c.counts-counts.ensures ∙ k.2, k.3), refl, less);
  nodes = λ number. refl;
  unchanged = refl;
  kept = λ number n. keeps-refl c.args.pool.now number;
  spare = refl;
}

zero-only : (k : ℕ) → Some 0 ≡ Some k → k ≤ 0
zero-only k h = from k (same k h)
  where
    same : (k : ℕ) → Some 0 ≡ Some k → 0 ≡ k
    same k h = cc

    from : (k : ℕ) → 0 ≡ k → k ≤ 0
    from k h = omega arith

none-only : (k : ℕ) → None ≡ Some k → k ≤ 0
none-only k h = absurd (never k h)
  where
    never : (k : ℕ) → None ≡ Some k → ⊥
    never k h = cc

-- the list is closed, whatever is answered
closes : {T : Type 0} (m m' : ℕ → Option (Entry (Held T))) (s n : ℕ) (b : Held T) (least : Option ℕ) → body_in m s ≡ Some b → n < 2 ^ 32 → ((v : T) → b.part ≡ Item v → ⊥) → is_some (counts_of b.part).length ≡ false → (counts_of b.part).most ≤ n → Sets m m' s (record { marked = b.marked; part = Numbered (counts_ended (counts_of b.part) n) }) → (if counts_whole (counts_ended (counts_of b.part) n) then Some 0 else None) ≡ least → (spots : ℕ → Option Spot) (height : ℕ) (i : InTree m spots s height) → 0 < height → CanClose [] n (tree_at height m s) × Changed m m' spots s i.spot height [] false (close_at [] n (tree_at height m s)) least
closes m m' s n b least body small no-item none fits sets is spots zero i tall = absurd (never tall)
  where
    never : 0 < 0 → ⊥
    never h = omega arith
closes m m' s n b least body small no-item none fits sets is spots (suc h) i tall =
    let k = base-close m m' spots s h i b body n small (open-index b.part 0 no-item (no-some (counts_of b.part).length none)) (no-some (counts_of b.part).length none) fits sets in
    (k.0, changed-least m m' spots s i.spot (suc h) [] false (close_at [] n (tree_at (suc h) m s)) _ least is k.1)

pub returns-then-is_whole : goal.returns-then-is_whole
returns-then-is_whole g c = record {
  ok = λ number n. record {
    short = zero-only;
    all = closes (item_in c.args.pool.now number) (item_in c.set_body.new.pool number) (lies_at c.args.node) c.args.length c.body-held.result.now (Some 0) (c.body-held.ensures number n) c.ranges.length.fits c.in_default.not-Item
        (ap (λ x. is_some x.length) (sym c.counts-counts.ensures) ∙ sym c.is_some.ensures ∙ c.if-is_some.false)
        (subst (λ x. x.most ≤ c.args.length) c.counts-counts.ensures (subst (λ k. c.counts-counts.result.most ≤ k) c.from.ensures c.if-counts-from.false))
        (subst (λ x. Sets (item_in c.args.pool.now number) (item_in c.set_body.new.pool number) (lies_at c.args.node) (record { marked = c.body-held.result.now.marked; part = Numbered x })) (c.ended-counts.ensures ∙ ap (λ x. counts_ended x c.args.length) c.counts-counts.ensures) (c.set_body.ensures.sets number n))
        (ap (λ b. if b then Some 0 else None) (ap counts_whole (sym (c.ended-counts.ensures ∙ ap (λ x. counts_ended x c.args.length) c.counts-counts.ensures)) ∙ sym c.is_whole.ensures ∙ c.if-is_whole.true));
  };
  refused = tt;
  nodes = c.set_body.ensures.count;
  unchanged = tt;
  kept = c.set_body.ensures.kept;
  spare = c.set_body.ensures.spare;
}

pub returns-else-is_whole : goal.returns-else-is_whole
returns-else-is_whole g c = record {
  ok = λ number n. record {
    short = none-only;
    all = closes (item_in c.args.pool.now number) (item_in c.set_body.new.pool number) (lies_at c.args.node) c.args.length c.body-held.result.now None (c.body-held.ensures number n) c.ranges.length.fits c.in_default.not-Item
        (ap (λ x. is_some x.length) (sym c.counts-counts.ensures) ∙ sym c.is_some.ensures ∙ c.if-is_some.false)
        (subst (λ x. x.most ≤ c.args.length) c.counts-counts.ensures (subst (λ k. c.counts-counts.result.most ≤ k) c.from.ensures c.if-counts-from.false))
        (subst (λ x. Sets (item_in c.args.pool.now number) (item_in c.set_body.new.pool number) (lies_at c.args.node) (record { marked = c.body-held.result.now.marked; part = Numbered x })) (c.ended-counts.ensures ∙ ap (λ x. counts_ended x c.args.length) c.counts-counts.ensures) (c.set_body.ensures.sets number n))
        (ap (λ b. if b then Some 0 else None) (ap counts_whole (sym (c.ended-counts.ensures ∙ ap (λ x. counts_ended x c.args.length) c.counts-counts.ensures)) ∙ sym c.is_whole.ensures ∙ c.if-is_whole.false));
  };
  refused = tt;
  nodes = c.set_body.ensures.count;
  unchanged = tt;
  kept = c.set_body.ensures.kept;
  spare = c.set_body.ensures.spare;
}
