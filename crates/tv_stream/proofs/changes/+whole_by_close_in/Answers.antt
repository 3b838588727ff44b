use Rattle.std.proofs.Common.{◌≡◌, ◌<◌, ◌≤◌, ◌==◌, ◌+◌, ◌^◌, ℕ, suc, arith, refl, sym, ap, ◌∙◌, subst, Bool, true, false, if◌then◌else◌, Some, None, Option, length}
use Rattle.std.specs.Option.{option_map}
use Rattle.std.proofs.lemmas.Option.{same_Some}
use Rattle.tv_lemmas.proofs.Options.{some-not_none}
use Rattle.tv_lemmas.proofs.Numbers.{less-positive}
use Rattle.tv_lemmas.proofs.Lists.{rest-less}
use Rattle.tv_parts.specs.Changes.{close_at, CanClose}
use Rattle.tv_pool.specs.Pool.{item_in, lies_at}
use Rattle.tv_stream.specs.Trees.{tree_at, least_whole}
use Rattle.tv_stream.specs.Inside.{InTree, counts_with, counts_ended, counts_whole, is_zero, outer_least}
use Rattle.tv_stream.proofs.Bases.{end-least}
use Rattle.tv_stream.proofs.Looks.{peek-close, close-found, close-least}
use Rattle.tv_stream.proofs.Ways.{nil-of, node-of}
use Rattle.tv_stream.proofs.changes.+whole_by_close_in.Goals as goal
use Rattle.tv_stream.proofs.changes.+whole_by_close_in.Goals.{in-Found, in-Free}

pub returns-then-is_whole-clause-least : goal.returns-then-is_whole-clause-least
returns-then-is_whole-clause-least g t c number spots height inside tall can =
    let m = item_in c.args.pool.now number in
    let s = lies_at c.args.node in
    let b = c.body.result.now in
    let nil = nil-of c.args.place.now c.in_default.ensures.cases in
    let ended = c.ended-counts.ensures ∙ ap (λ y. counts_ended y c.args.length) c.counts.ensures in
    ap (λ l. least_whole l (close_at l c.args.length (tree_at height m s))) (sym nil)
    ∙ end-least m spots s c.args.length b height inside (less-positive (length c.args.place.now) height tall) (c.body.ensures number (node-of c.args.pool.now number spots s height inside)) (subst (λ l. CanClose l c.args.length (tree_at height m s)) (sym nil) can)
    ∙ ap (λ w. if w then Some 0 else None) (ap counts_whole (sym ended) ∙ sym c.is_whole.ensures ∙ c.if-is_whole.true)

pub returns-else-is_whole-clause-least : goal.returns-else-is_whole-clause-least
returns-else-is_whole-clause-least g t c number spots height inside tall can =
    let m = item_in c.args.pool.now number in
    let s = lies_at c.args.node in
    let b = c.body.result.now in
    let nil = nil-of c.args.place.now c.in_default.ensures.cases in
    let ended = c.ended-counts.ensures ∙ ap (λ y. counts_ended y c.args.length) c.counts.ensures in
    ap (λ l. least_whole l (close_at l c.args.length (tree_at height m s))) (sym nil)
    ∙ end-least m spots s c.args.length b height inside (less-positive (length c.args.place.now) height tall) (c.body.ensures number (node-of c.args.pool.now number spots s height inside)) (subst (λ l. CanClose l c.args.length (tree_at height m s)) (sym nil) can)
    ∙ ap (λ w. if w then Some 0 else None) (ap counts_whole (sym ended) ∙ sym c.is_whole.ensures ∙ c.if-is_whole.false)

pub whole_by_close_in-least-requires : goal.whole_by_close_in-least-requires
whole_by_close_in-least-requires g t c κs bound =
    let r = c.requires.node in
    let place = c.in-Some.ensures.cases in
    let i = c.in-Some.field-0-0.now in
    let q = c.in-Some.rest.now in
    let s = lies_at c.args.node in
    let m = item_in c.args.pool.now r.0 in
    let e = r.1.1.1.0.nodes.entries s r.1.1.1.0.spot r.1.1.1.0.known in
    let f = close-found m r.1.0 s i q e.entry.body (ap (option_map (λ y. y.body)) e.lies) c.args.place.now c.args.length r.1.1.0 (lies_at c.in-Found.part) place.0 r.1.1.1.0 r.1.1.1.1 r.1.1.1.2 (c.in-Found.ensures r.0 (node-of c.args.pool.now r.0 r.1.0 s r.1.1.0 r.1.1.1.0)) in
    let shorter : length q < length c.args.place.now = omega arith in
    let short : length q < 2 ^ 32 = omega arith in
    (subst (λ x. length q < x) c.decreases shorter, (bound, ((r.0, (r.1.0, (f.inner, (f.inside, f.holds.0, f.holds.1)))), short)))

pub with-counts-requires : goal.with-counts-requires
with-counts-requires g t c =
    let r = c.requires.node in
    let place = c.in-Some.ensures.cases in
    let i = c.in-Some.field-0-0.now in
    let q = c.in-Some.rest.now in
    let s = lies_at c.args.node in
    let b = c.body-2.result.now in
    let m = item_in c.args.pool.now r.0 in
    let n = node-of c.args.pool.now r.0 r.1.0 s r.1.1.0 r.1.1.1.0 in
    let p = peek-close m r.1.0 s i q c.args.length b r.1.1.0 r.1.1.1.0 (rest-less c.args.place.now i q r.1.1.0 place.0 r.1.1.1.1) (c.body-2.ensures r.0 n) (subst (λ l. CanClose l c.args.length (tree_at r.1.1.0 m s)) place.0 r.1.1.1.2) in
    subst (λ x. x.whole < 2 ^ 63) (sym c.counts-2.ensures) p.0.whole

if-some : (b : Bool) (n k : ℕ) → (if b then Some n else None) ≡ Some k → n ≡ k
if-some true n k h = cc
if-some false n k h = absurd (never h)
  where
    never : None ≡ Some k → ⊥
    never h = cc

outer-short : (w : Bool) (l : Option ℕ) (k a : ℕ) → outer_least w l ≡ Some k → ((j : ℕ) → l ≡ Some j → j ≤ a) → k ≤ a + 1
outer-short true l k a e h = first k a (same k e)
  where
    same : (k : ℕ) → Some 0 ≡ Some k → 0 ≡ k
    same k h = cc

    first : (k a : ℕ) → 0 ≡ k → k ≤ a + 1
    first k a h = omega arith
outer-short false None k a e h = absurd (never k e)
  where
    never : (k : ℕ) → None ≡ Some k → ⊥
    never k h = cc
outer-short false (Some j) k a e h = next j k a (same j k e) (h j refl)
  where
    same : (j k : ℕ) → Some (suc j) ≡ Some k → suc j ≡ k
    same j k h = cc

    next : (j k a : ℕ) → suc j ≡ k → j ≤ a → k ≤ a + 1
    next j k a h e = omega arith

pub outward-requires : goal.outward-requires
outward-requires g t c k is =
    let place = c.in-Some.ensures.cases in
    elim c.match-seek.branch [
      | in-Found w ↦ less k (length c.in-Some.rest.now) (length c.args.place.now) (w.whole_by_close_in-least.ensures.short k (sym w.least-is ∙ is)) place.1 c.requires.short
      | in-Free w ↦ less k (length c.in-Some.rest.now) (length c.args.place.now) (same k (length c.in-Some.rest.now) (if-some (c.args.length == 0) (length c.in-Some.rest.now) k (sym w.whole_when_new-least.ensures ∙ sym w.least-is ∙ is))) place.1 c.requires.short
    ]
  where
    less : (k a b : ℕ) → k ≤ a → a + 1 ≡ b → b < 2 ^ 32 → k + 1 < 2 ^ 32
    less k a b h e l = omega arith

    same : (k a : ℕ) → a ≡ k → k ≤ a
    same k a h = omega arith

pub returns-clause-least : goal.returns-clause-least
returns-clause-least g t c number spots height inside tall can =
    let m = item_in c.args.pool.now number in
    let place = c.in-Some.ensures.cases in
    let i = c.in-Some.field-0-0.now in
    let q = c.in-Some.rest.now in
    let s = lies_at c.args.node in
    let b = c.body-2.result.now in
    let n = node-of c.args.pool.now number spots s height inside in
    let lem = close-least m spots s i q b (c.body-2.ensures number n) c.args.place.now c.args.length height place.0 inside tall can c.match-seek.least
    (λ u h found it long may. elim c.match-seek.branch [
      | in-Found w ↦ subst (λ v. InTree m spots v h → CanClose q c.args.length (tree_at h m v) → least_whole q (close_at q c.args.length (tree_at h m v)) ≡ c.match-seek.least) (same_Some _ _ (sym (w.in-Found.ensures number n) ∙ found)) (λ at may_at. w.whole_by_close_in-least.ensures.least number spots h at long may_at ∙ sym w.least-is) it may
      | in-Free w ↦ absurd (some-not_none _ _ found (w.in-Free.ensures number n).0)
    ])
    (λ none. elim c.match-seek.branch [
      | in-Found w ↦ absurd (some-not_none _ _ (w.in-Found.ensures number n) none)
      | in-Free w ↦ sym w.whole_when_new-least.ensures ∙ sym w.least-is
    ]) in
    let counts = c.with-counts.ensures ∙ ap (λ w. counts_with c.counts-2.result i w) c.is_here.ensures ∙ ap (λ y. counts_with y i (is_zero c.match-seek.least)) c.counts-2.ensures in
    lem ∙ ap (λ w. outer_least w c.match-seek.least) (ap counts_whole (sym counts) ∙ sym c.is_whole-2.ensures) ∙ sym c.outward.ensures

pub returns-clause-short : goal.returns-clause-short
returns-clause-short g t c k is =
    let place = c.in-Some.ensures.cases in
    last k (length c.in-Some.rest.now) (length c.args.place.now) place.1 (outer-short c.is_whole-2.result c.match-seek.least k (length c.in-Some.rest.now) (sym c.outward.ensures ∙ is) (λ j at. elim c.match-seek.branch [
      | in-Found w ↦ w.whole_by_close_in-least.ensures.short j (sym w.least-is ∙ at)
      | in-Free w ↦ same j (length c.in-Some.rest.now) (if-some (c.args.length == 0) (length c.in-Some.rest.now) j (sym w.whole_when_new-least.ensures ∙ sym w.least-is ∙ at))
    ]))
  where
    same : (k a : ℕ) → a ≡ k → k ≤ a
    same k a h = omega arith

    last : (k a b : ℕ) → a + 1 ≡ b → k ≤ a + 1 → k ≤ b
    last k a b h e = omega arith
