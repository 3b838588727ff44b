use Rattle.std.proofs.Common.{◌≡◌, ◌<◌, ◌==◌, ◌+◌, ◌^◌, ℕ, suc, arith, sym, ap, ◌∙◌, subst, Some, length}
use Rattle.std.specs.Option.{option_map}
use Rattle.std.proofs.lemmas.Option.{same_Some}
use Rattle.tv_lemmas.proofs.Options.{some-not_none}
use Rattle.tv_parts.specs.Changes.{arrive, CanArrive}
use Rattle.tv_pool.specs.Pool.{item_in, lies_at}
use Rattle.tv_stream.specs.Trees.{tree_at, least_whole}
use Rattle.tv_stream.specs.Inside.{InTree, counts_with, counts_whole, outer_least}
use Rattle.tv_stream.proofs.Looks.{peek-arrive, arrive-found, arrive-least}
use Rattle.tv_stream.proofs.Ways.{tall-place, node-of}
use Rattle.tv_stream.proofs.changes.+whole_by_arrival_in.Goals as goal
use Rattle.tv_stream.proofs.changes.+whole_by_arrival_in.Goals.{in-Found, in-Free}

pub whole_by_arrival_in-least-requires : goal.whole_by_arrival_in-least-requires
whole_by_arrival_in-least-requires g t c κs bound =
    let r = c.requires.node in
    let place = c.in-Some.ensures.cases in
    let i = c.in-Some.field-0-0.now in
    let q = c.in-Some.rest.now in
    let m = item_in c.args.pool.now r.0 in
    let s = lies_at c.args.node in
    let e = r.1.1.1.0.nodes.entries s r.1.1.1.0.spot r.1.1.1.0.known in
    let f = arrive-found m r.1.0 s i q e.entry.body (ap (option_map (λ y. y.body)) e.lies) c.args.place.now r.1.1.0 (lies_at c.in-Found.part) place.0 r.1.1.1.0 r.1.1.1.1 r.1.1.1.2 (c.in-Found.ensures r.0 (node-of c.args.pool.now r.0 r.1.0 s r.1.1.0 r.1.1.1.0)) in
    let shorter : length q < length c.args.place.now = omega arith in
    let short : length q < 2 ^ 32 = omega arith in
    (subst (λ x. length q < x) c.decreases shorter, (bound, ((r.0, (r.1.0, (f.inner, (f.inside, f.holds.0, f.holds.1)))), short)))

pub with-counts-requires : goal.with-counts-requires
with-counts-requires g t c =
    let r = c.requires.node in
    let place = c.in-Some.ensures.cases in
    let i = c.in-Some.field-0-0.now in
    let q = c.in-Some.rest.now in
    let s = lies_at c.args.node in
    let b = c.body.result.now in
    let m = item_in c.args.pool.now r.0 in
    let n = node-of c.args.pool.now r.0 r.1.0 s r.1.1.0 r.1.1.1.0 in
    let p = peek-arrive m r.1.0 s i q b r.1.1.0 r.1.1.1.0 (tall-place c.args.place.now i q r.1.1.0 place.0 r.1.1.1.1) (c.body.ensures r.0 n) (subst (λ l. CanArrive l (tree_at r.1.1.0 m s)) place.0 r.1.1.1.2) in
    subst (λ x. x.whole < 2 ^ 63) (sym c.counts.ensures) p.0.whole

pub returns-then-is_whole-clause-least : goal.returns-then-is_whole-clause-least
returns-then-is_whole-clause-least g t c number spots height inside tall can x =
    let m = item_in c.args.pool.now number in
    let place = c.in-Some.ensures.cases in
    let i = c.in-Some.field-0-0.now in
    let q = c.in-Some.rest.now in
    let s = lies_at c.args.node in
    let b = c.body.result.now in
    let n = node-of c.args.pool.now number spots s height inside in
    let lem = arrive-least m spots s i q b (c.body.ensures number n) c.args.place.now height place.0 inside tall can x c.match-seek.least
    (λ u h found it long may. elim c.match-seek.branch [
      | in-Found w ↦ subst (λ v. InTree m spots v h → CanArrive q (tree_at h m v) → least_whole q (arrive q x (tree_at h m v)) ≡ Some c.match-seek.least) (same_Some _ _ (sym (w.in-Found.ensures number n) ∙ found)) (λ at may_at. w.whole_by_arrival_in-least.ensures.least number spots h at long may_at x ∙ ap Some (sym w.least-is)) it may
      | in-Free w ↦ absurd (some-not_none _ _ found (w.in-Free.ensures number n).0)
    ])
    (λ none. elim c.match-seek.branch [
      | in-Found w ↦ absurd (some-not_none _ _ (w.in-Found.ensures number n) none)
      | in-Free w ↦ sym w.least-is
    ]) in
    let counts = c.with-counts.ensures ∙ ap (λ y. counts_with y i (c.match-seek.least == 0)) c.counts.ensures in
    lem ∙ ap (λ w. outer_least w (Some c.match-seek.least)) (ap counts_whole (sym counts) ∙ sym c.is_whole.ensures ∙ c.if-is_whole.true)

pub returns-else-is_whole-clause-least : goal.returns-else-is_whole-clause-least
returns-else-is_whole-clause-least g t c number spots height inside tall can x =
    let m = item_in c.args.pool.now number in
    let place = c.in-Some.ensures.cases in
    let i = c.in-Some.field-0-0.now in
    let q = c.in-Some.rest.now in
    let s = lies_at c.args.node in
    let b = c.body.result.now in
    let n = node-of c.args.pool.now number spots s height inside in
    let lem = arrive-least m spots s i q b (c.body.ensures number n) c.args.place.now height place.0 inside tall can x c.match-seek.least
    (λ u h found it long may. elim c.match-seek.branch [
      | in-Found w ↦ subst (λ v. InTree m spots v h → CanArrive q (tree_at h m v) → least_whole q (arrive q x (tree_at h m v)) ≡ Some c.match-seek.least) (same_Some _ _ (sym (w.in-Found.ensures number n) ∙ found)) (λ at may_at. w.whole_by_arrival_in-least.ensures.least number spots h at long may_at x ∙ ap Some (sym w.least-is)) it may
      | in-Free w ↦ absurd (some-not_none _ _ found (w.in-Free.ensures number n).0)
    ])
    (λ none. elim c.match-seek.branch [
      | in-Found w ↦ absurd (some-not_none _ _ (w.in-Found.ensures number n) none)
      | in-Free w ↦ sym w.least-is
    ]) in
    let counts = c.with-counts.ensures ∙ ap (λ y. counts_with y i (c.match-seek.least == 0)) c.counts.ensures in
    lem ∙ ap (λ w. outer_least w (Some c.match-seek.least)) (ap counts_whole (sym counts) ∙ sym c.is_whole.ensures ∙ c.if-is_whole.false) ∙ ap Some (one c.match-seek.least)
  where
    one : (n : ℕ) → suc n ≡ n + 1
    one n = omega arith
