use Rattle.std.proofs.Common.{◌≡◌, ◌≢◌, ◌<◌, ◌≤◌, ◌+◌, ◌^◌, ◌⊎◌, inl, inr, ℕ, zero, suc, arith, refl, sym, ap, ◌∙◌, subst, true, false, Some, None, Option, List, ◌∷◌, length}
use Rattle.std.proofs.lemmas.Result.{IfOk-weaker, IfErr-weaker, err_from_is_err_and}
use Rattle.tv_pool.specs.Pool.{item_in, number_of, lies_at}
use Rattle.tv_stream.specs.declared.nodes.Entry.{Entry}
use Rattle.tv_stream.specs.nodes.Nodes.{part_in, body_in}
use Rattle.tv_stream.specs.nodes.Stands.{Spot, AreNodes}
use Rattle.tv_stream.specs.nodes.Calls.{count_in}
use Rattle.tv_stream.proofs.NodeCalls.{keeps-both}
use Rattle.tv_stream.specs.declared.held.Held.{Held}
use Rattle.tv_stream.specs.declared.refusals.ArriveRefused.{ArriveRefused}
use Rattle.tv_parts.specs.Partials.{wanting, part_at}
use Rattle.tv_parts.specs.Changes.{is_place, CanArrive}
use Rattle.tv_stream.specs.Trees.{Marked, optional, tree_at, tree_by}
use Rattle.tv_stream.specs.Answers.{marked_item}
use Rattle.tv_stream.specs.Inside.{has_index, outer_least, with_item, InTree, Parted, ArrivesIn, RefusesArrivalIn}
use Rattle.tv_stream.proofs.Bases.{body-tree, on-err}
use Rattle.tv_stream.proofs.Places.{place-none, arrive-can, arrive-wanting}
use Rattle.tv_stream.proofs.Same.{tree-suc, part-tree}
use Rattle.tv_stream.proofs.Steps.{part-in-tree}
use Rattle.tv_stream.proofs.Inner.{arrives-step}
use Rattle.tv_stream.proofs.NodeCounts.{as-many, then-same, arrival-nodes}
use Rattle.tv_stream.proofs.Ways.{some-of, nil-of, tall-place, head-fits, no-tall, pool-spare, same-regions, node-of, enter, arrive-after, inner-new, refuse-arrive, never-refused}
use Rattle.tv_stream.proofs.changes.+settle_in.Goals as goal

pub returns-in_default-clause-ok : goal.returns-in_default-clause-ok
returns-in_default-clause-ok g t c =
    let k = number_of c.args.region.now in
    let n = c.requires.node in
    let inside = n.1.1.0 in
    let nil = nil-of c.args.place.now c.in_default.ensures.cases in
    IfOk-weaker c.settle.result _ _ (λ least f x e. subst (λ l. ArrivesIn (item_in c.args.pool.now k) (item_in c.settle.new.pool k) (lies_at c.args.node) l (marked_item x c.args.marked) least) nil (f k x e (node-of c.args.pool.now k n.0 (lies_at c.args.node) n.1.0 inside))) c.settle.ensures.ok

pub returns-in_default-clause-refused : goal.returns-in_default-clause-refused
returns-in_default-clause-refused g t c =
    let k = number_of c.args.region.now in
    let nil = nil-of c.args.place.now c.in_default.ensures.cases in
    IfErr-weaker c.settle.result _ _ (λ e f spots height x inside tall. subst (λ l. RefusesArrivalIn c.args.pool.now.spare l x (tree_at height (item_in c.args.pool.now k) (lies_at c.args.node)) (with_item x e)) nil (f k spots height x inside)) c.settle.ensures.refused

pub returns-then-not-has_place-clause-refused : goal.returns-then-not-has_place-clause-refused
returns-then-not-has_place-clause-refused g t c spots height x inside tall =
    let k = number_of c.args.region.now in
    let m = item_in c.args.pool.now k in
    let s = lies_at c.args.node in
    let place = c.in-Some.ensures.cases in
    let i = c.in-Some.field-0-0.now in
    let q = c.in-Some.rest.now in
    let b = c.body.result.now in
    let tree = body-tree height m s b (c.body.ensures k (node-of c.args.pool.now k spots s height inside)) in
    let none = place-none tree.0 m s b.marked i b.part q (sym c.has_place.ensures ∙ c.if-not-has_place.true) in
    (refl, subst (λ l. is_place l (tree_at height m s) ≡ false) (sym place.0) (ap (is_place (i ∷ q)) tree.1 ∙ none))

-- where nothing is known of the part yet, an item can arrive there
can-new : {T : Type 0} (m : ℕ → Option (Entry (Held T))) (spots : ℕ → Option Spot) (s i : ℕ) (q l : List ℕ) (b : Held T) → l ≡ i ∷ q → body_in m s ≡ Some b → has_index b.part i ≡ true → part_in m s i ≡ None → (height : ℕ) → InTree m spots s height → length l ≤ height → CanArrive l (tree_at height m s)
can-new m spots s i q l b e body has none zero inside tall = absurd (no-tall l i q e tall)
can-new {T} m spots s i q l b e body has none (suc h) inside tall =
    let is = tree-suc h m s b body in
    let new : part_at (tree_by (tree_at h m) m s b.marked b.part) i ≡ wanting = ap (λ r. part_at r i) (sym is) ∙ part-tree h m s inside.sound i ∙ ap (optional (tree_at h m)) none in
    subst (λ x. CanArrive x (tree_at (suc h) m s)) (sym e) (subst (CanArrive (i ∷ q)) (sym is) (arrive-can (tree_at h m) m s b.marked i b.part q has (subst (CanArrive q) (sym new) (arrive-wanting (Marked T) q))))

pub returns-in_default-part_or_new-clause-refused : goal.returns-in_default-part_or_new-clause-refused
returns-in_default-part_or_new-clause-refused g t c spots height x inside tall =
    let k = number_of c.args.region.now in
    let m = item_in c.args.pool.now k in
    let s = lies_at c.args.node in
    let place = c.in-Some.ensures.cases in
    let i = c.in-Some.field-0-0.now in
    let q = c.in-Some.rest.now in
    let b = c.body.result.now in
    let body = c.body.ensures k (node-of c.args.pool.now k spots s height inside) in
    let refused = c.in_default-part_or_new.ensures in
    (refl, can-new m spots s i q c.args.place.now b place.0 body (sym c.has_place.ensures ∙ c.if-not-has_place.false) refused.none height inside tall, refused.refused)

pub settle_in-requires : goal.settle_in-requires
settle_in-requires g t c κs bound =
    let k = number_of c.args.region.now in
    let n = c.requires.node in
    let place = c.in-Some.ensures.cases in
    let i = c.in-Some.field-0-0.now in
    let q = c.in-Some.rest.now in
    let s = lies_at c.args.node in
    let m = item_in c.args.pool.now k in
    let mid = item_in c.part_or_new.new.pool k in
    let e = enter m mid s (lies_at c.in-Ok.part) i q c.in-Ok.ensures.ok n.0 n.1.0 n.1.1.0 (tall-place c.args.place.now i q n.1.0 place.0 n.1.1.1) in
    let shorter : length q < length c.args.place.now = omega arith in
    let short : length q < 2 ^ 32 = omega arith in
    (subst (λ x. length q < x) c.decreases shorter, (bound, (c.in-Ok.ensures.kept.live c.args.region.now c.requires.live, (e, (short, c.requires.item)))))

-- a refusal inside the part is one of the node, and none comes where the part is new
refused-inside : {T : Type 0} (m mid : ℕ → Option (Entry (Held T))) (s t i : ℕ) (q l : List ℕ) (parts : (spots : ℕ → Option Spot) (p : Spot) → AreNodes m spots → spots s ≡ Some p → Parted m mid spots s i t) (b : Held T) → l ≡ i ∷ q → body_in m s ≡ Some b → has_index b.part i ≡ true → (spare inner : ℕ) → (part_in m s i ≡ None) ⊎ (inner ≡ spare) → (part_in m s i ≡ None → length l ≤ inner + 1) → (x : T) (e : ArriveRefused T) → ((spots : ℕ → Option Spot) (height : ℕ) → InTree mid spots t height → length q ≤ height → RefusesArrivalIn inner q x (tree_at height mid t) e) → (spots : ℕ → Option Spot) (height : ℕ) → InTree m spots s height → length l ≤ height → RefusesArrivalIn spare l x (tree_at height m s) e × (part_in m s i ≢ None)
refused-inside m mid s t i q l parts b e body has spare inner same room x refusal refuses spots zero inside tall = absurd (no-tall l i q e tall)
refused-inside m mid s t i q l parts b e body has spare inner same room x refusal refuses spots (suc h) inside tall = (by same, not-new)
  where
    fits : length q ≤ h
    fits = less (length q) h (tall-place l i q (suc h) e tall)
      where
        less : (n h : ℕ) → suc n ≤ suc h → n ≤ h
        less n h k = omega arith

    it : RefusesArrivalIn inner q x (tree_at h mid t) refusal
    it = refuses (parts spots inside.spot inside.nodes inside.known).more h (part-in-tree m mid spots s i t h inside (parts spots inside.spot inside.nodes inside.known)) fits

    not-new : part_in m s i ≢ None
    not-new none = never-refused q inner x (tree_at h mid t) refusal (inner-new m mid s t i q parts spots h inside b body has none) (enough (length q) inner (subst (λ y. length y ≤ inner + 1) e (room none))) it
      where
        enough : (n k : ℕ) → suc n ≤ k + 1 → n ≤ k
        enough n k h = omega arith

    by : (part_in m s i ≡ None) ⊎ (inner ≡ spare) → RefusesArrivalIn spare l x (tree_at (suc h) m s) refusal
    by (inl none) = absurd (not-new none)
    by (inr is) = subst (λ y. RefusesArrivalIn spare y x (tree_at (suc h) m s) refusal) (sym e) (refuse-arrive m mid s t i q parts spots h inside b body has spare x refusal (subst (λ n. RefusesArrivalIn n q x (tree_at h mid t) refusal) is it))

pub returns-in_err-least-clause-refused : goal.returns-in_err-least-clause-refused
returns-in_err-least-clause-refused g t c =
    let k = number_of c.args.region.now in
    let m = item_in c.args.pool.now k in
    let mid = item_in c.part_or_new.new.pool k in
    let s = lies_at c.args.node in
    let place = c.in-Some.ensures.cases in
    let i = c.in-Some.field-0-0.now in
    let q = c.in-Some.rest.now in
    let b = c.body.result.now in
    let p = err_from_is_err_and c.from_residual.result c.from_residual.ensures.1 in
    rw (p.1, p.2) (λ spots height x inside tall. (refused-inside m mid s (lies_at c.in-Ok.part) i q c.args.place.now c.in-Ok.ensures.ok b place.0 (c.body.ensures k (node-of c.args.pool.now k spots s height inside)) (sym c.has_place.ensures ∙ c.if-not-has_place.false) c.args.pool.now.spare c.part_or_new.new.pool.spare (pool-spare c.part_or_new.new.pool c.args.pool.now _ c.in-Ok.ensures.found) c.in-Ok.ensures.left x (with_item x c.in_err-least.field-0.0) (λ more h i k. c.in_err-least.ensures.refused more h x i k) spots height inside tall).0)

pub returns-in_err-least-clause-unchanged : goal.returns-in_err-least-clause-unchanged
returns-in_err-least-clause-unchanged g t c =
    let x = some-of c.args.item.now c.requires.item in
    let k = number_of c.args.region.now in
    let m = item_in c.args.pool.now k in
    let mid = item_in c.part_or_new.new.pool k in
    let s = lies_at c.args.node in
    let place = c.in-Some.ensures.cases in
    let i = c.in-Some.field-0-0.now in
    let q = c.in-Some.rest.now in
    let b = c.body.result.now in
    let n = c.requires.node in
    let r = refused-inside m mid s (lies_at c.in-Ok.part) i q c.args.place.now c.in-Ok.ensures.ok b place.0 (c.body.ensures k (node-of c.args.pool.now k n.0 s n.1.0 n.1.1.0)) (sym c.has_place.ensures ∙ c.if-not-has_place.false) c.args.pool.now.spare c.part_or_new.new.pool.spare (pool-spare c.part_or_new.new.pool c.args.pool.now _ c.in-Ok.ensures.found) c.in-Ok.ensures.left x.0 (with_item x.0 c.in_err-least.field-0.0) (λ more h i k. c.in_err-least.ensures.refused more h x.0 i k) n.0 n.1.0 n.1.1.0 n.1.1.1 in
    on-err c.from_residual.result _ (c.in_err-least.ensures.unchanged ∙ same-regions c.part_or_new.new.pool c.args.pool.now _ c.in-Ok.ensures.found r.1)

pub note_part-requires : goal.note_part-requires
note_part-requires g t c =
    let x = some-of c.args.item.now c.requires.item in
    let k = number_of c.args.region.now in
    let m = item_in c.args.pool.now k in
    let mid = item_in c.part_or_new.new.pool k in
    let m2 = item_in c.settle_in.new.pool k in
    let s = lies_at c.args.node in
    let place = c.in-Some.ensures.cases in
    let i = c.in-Some.field-0-0.now in
    let q = c.in-Some.rest.now in
    let b = c.body.result.now in
    let n = c.requires.node in
    let body = c.body.ensures k (node-of c.args.pool.now k n.0 s n.1.0 n.1.1.0) in
    let a = arrive-after m mid s (lies_at c.in-Ok.part) i q c.in-Ok.ensures.ok m2 b body (sym c.has_place.ensures ∙ c.if-not-has_place.false) (head-fits c.args.place.now i q place.0 (c.type_inv.place 0).fits) (marked_item x.0 c.args.marked) c.in_ok-least.least (c.in_ok-least.ensures.ok x.0 x.1) n.0 n.1.0 n.1.1.0 (tall-place c.args.place.now i q n.1.0 place.0 n.1.1.1) in
    (k, record { spots = a.more; nodes = a.nodes; spot = a.spot; known = a.known }, (b, a.held, a.whole))

pub returns-then-note_part-clause-ok : goal.returns-then-note_part-clause-ok
returns-then-note_part-clause-ok g t c v is =
    let k = number_of c.args.region.now in
    let m = item_in c.args.pool.now k in
    let mid = item_in c.part_or_new.new.pool k in
    let m2 = item_in c.settle_in.new.pool k in
    let m3 = item_in c.note_part.new.pool k in
    let s = lies_at c.args.node in
    let place = c.in-Some.ensures.cases in
    let i = c.in-Some.field-0-0.now in
    let q = c.in-Some.rest.now in
    let b = c.body.result.now in
    let n = c.requires.node in
    let body = c.body.ensures k (node-of c.args.pool.now k n.0 s n.1.0 n.1.1.0) in
    let has = sym c.has_place.ensures ∙ c.if-not-has_place.false in
    let small = head-fits c.args.place.now i q place.0 (c.type_inv.place 0).fits in
    let x = marked_item v c.args.marked in
    let a = arrive-after m mid s (lies_at c.in-Ok.part) i q c.in-Ok.ensures.ok m2 b body has small x c.in_ok-least.least (c.in_ok-least.ensures.ok v is) n.0 n.1.0 n.1.1.0 (tall-place c.args.place.now i q n.1.0 place.0 n.1.1.1) in
    let whole = c.if-note_part.ensures.whole k b (record { spots = a.more; nodes = a.nodes; spot = a.spot; known = a.known }) a.held in
    subst (λ l. ArrivesIn m m3 s l x 0) (sym place.0) (arrives-step m mid m2 m3 s (lies_at c.in-Ok.part) i q x b body has small c.in_ok-least.least c.in-Ok.ensures.ok (λ spots p nodes known held. c.if-note_part.ensures.sets k b (record { spots = spots; nodes = nodes; spot = p; known = known }) held) (c.in_ok-least.ensures.ok v is) 0 (ap (λ w. outer_least w (Some c.in_ok-least.least)) (sym whole)))

pub returns-then-note_part-clause-kept : goal.returns-then-note_part-clause-kept
returns-then-note_part-clause-kept g t c =
    let x = some-of c.args.item.now c.requires.item in
    let k = number_of c.args.region.now in
    let m = item_in c.args.pool.now k in
    let mid = item_in c.part_or_new.new.pool k in
    let m2 = item_in c.settle_in.new.pool k in
    let s = lies_at c.args.node in
    let place = c.in-Some.ensures.cases in
    let i = c.in-Some.field-0-0.now in
    let q = c.in-Some.rest.now in
    let b = c.body.result.now in
    let n = c.requires.node in
    let body = c.body.ensures k (node-of c.args.pool.now k n.0 s n.1.0 n.1.1.0) in
    let a = arrive-after m mid s (lies_at c.in-Ok.part) i q c.in-Ok.ensures.ok m2 b body (sym c.has_place.ensures ∙ c.if-not-has_place.false) (head-fits c.args.place.now i q place.0 (c.type_inv.place 0).fits) (marked_item x.0 c.args.marked) c.in_ok-least.least (c.in_ok-least.ensures.ok x.0 x.1) n.0 n.1.0 n.1.1.0 (tall-place c.args.place.now i q n.1.0 place.0 n.1.1.1) in
    keeps-both c.args.pool.now c.part_or_new.new.pool c.note_part.new.pool k c.in-Ok.ensures.kept (keeps-both c.part_or_new.new.pool c.settle_in.new.pool c.note_part.new.pool k c.in_ok-least.ensures.kept (c.if-note_part.ensures.kept k (record { spots = a.more; nodes = a.nodes; spot = a.spot; known = a.known })))

pub returns-else-note_part-clause-ok : goal.returns-else-note_part-clause-ok
returns-else-note_part-clause-ok g t c v is =
    let k = number_of c.args.region.now in
    let m = item_in c.args.pool.now k in
    let mid = item_in c.part_or_new.new.pool k in
    let m2 = item_in c.settle_in.new.pool k in
    let m3 = item_in c.note_part.new.pool k in
    let s = lies_at c.args.node in
    let place = c.in-Some.ensures.cases in
    let i = c.in-Some.field-0-0.now in
    let q = c.in-Some.rest.now in
    let b = c.body.result.now in
    let n = c.requires.node in
    let body = c.body.ensures k (node-of c.args.pool.now k n.0 s n.1.0 n.1.1.0) in
    let has = sym c.has_place.ensures ∙ c.if-not-has_place.false in
    let small = head-fits c.args.place.now i q place.0 (c.type_inv.place 0).fits in
    let x = marked_item v c.args.marked in
    let a = arrive-after m mid s (lies_at c.in-Ok.part) i q c.in-Ok.ensures.ok m2 b body has small x c.in_ok-least.least (c.in_ok-least.ensures.ok v is) n.0 n.1.0 n.1.1.0 (tall-place c.args.place.now i q n.1.0 place.0 n.1.1.1) in
    let whole = c.if-note_part.ensures.whole k b (record { spots = a.more; nodes = a.nodes; spot = a.spot; known = a.known }) a.held in
    subst (λ l. ArrivesIn m m3 s l x (c.in_ok-least.least + 1)) (sym place.0) (arrives-step m mid m2 m3 s (lies_at c.in-Ok.part) i q x b body has small c.in_ok-least.least c.in-Ok.ensures.ok (λ spots p nodes known held. c.if-note_part.ensures.sets k b (record { spots = spots; nodes = nodes; spot = p; known = known }) held) (c.in_ok-least.ensures.ok v is) (c.in_ok-least.least + 1) (ap (λ w. outer_least w (Some c.in_ok-least.least)) (sym whole) ∙ ap Some (one c.in_ok-least.least)))
  where
    one : (n : ℕ) → suc n ≡ n + 1
    one n = omega arith

pub returns-else-note_part-clause-kept : goal.returns-else-note_part-clause-kept
returns-else-note_part-clause-kept g t c =
    let x = some-of c.args.item.now c.requires.item in
    let k = number_of c.args.region.now in
    let m = item_in c.args.pool.now k in
    let mid = item_in c.part_or_new.new.pool k in
    let m2 = item_in c.settle_in.new.pool k in
    let s = lies_at c.args.node in
    let place = c.in-Some.ensures.cases in
    let i = c.in-Some.field-0-0.now in
    let q = c.in-Some.rest.now in
    let b = c.body.result.now in
    let n = c.requires.node in
    let body = c.body.ensures k (node-of c.args.pool.now k n.0 s n.1.0 n.1.1.0) in
    let a = arrive-after m mid s (lies_at c.in-Ok.part) i q c.in-Ok.ensures.ok m2 b body (sym c.has_place.ensures ∙ c.if-not-has_place.false) (head-fits c.args.place.now i q place.0 (c.type_inv.place 0).fits) (marked_item x.0 c.args.marked) c.in_ok-least.least (c.in_ok-least.ensures.ok x.0 x.1) n.0 n.1.0 n.1.1.0 (tall-place c.args.place.now i q n.1.0 place.0 n.1.1.1) in
    keeps-both c.args.pool.now c.part_or_new.new.pool c.note_part.new.pool k c.in-Ok.ensures.kept (keeps-both c.part_or_new.new.pool c.settle_in.new.pool c.note_part.new.pool k c.in_ok-least.ensures.kept (c.if-note_part.ensures.kept k (record { spots = a.more; nodes = a.nodes; spot = a.spot; known = a.known })))

pub returns-then-note_part-clause-nodes : goal.returns-then-note_part-clause-nodes
returns-then-note_part-clause-nodes g t c spots height inside tall =
    let k = number_of c.args.region.now in
    let m = item_in c.args.pool.now k in
    let mid = item_in c.part_or_new.new.pool k in
    let s = lies_at c.args.node in
    let place = c.in-Some.ensures.cases in
    let i = c.in-Some.field-0-0.now in
    let q = c.in-Some.rest.now in
    then-same _ (count_in c.settle_in.new.pool k) _ (c.note_part.ensures.nodes k)
    (arrival-nodes m mid s (lies_at c.in-Ok.part) i q c.args.place.now c.in-Ok.ensures.ok place.0 (count_in c.args.pool.now k) (count_in c.part_or_new.new.pool k) (count_in c.settle_in.new.pool k) (as-many c.part_or_new.new.pool c.args.pool.now k _ c.in-Ok.ensures.found) c.in-Ok.ensures.one c.in_ok-least.ensures.nodes spots height inside tall)

pub returns-else-note_part-clause-nodes : goal.returns-else-note_part-clause-nodes
returns-else-note_part-clause-nodes g t c spots height inside tall =
    let k = number_of c.args.region.now in
    let m = item_in c.args.pool.now k in
    let mid = item_in c.part_or_new.new.pool k in
    let s = lies_at c.args.node in
    let place = c.in-Some.ensures.cases in
    let i = c.in-Some.field-0-0.now in
    let q = c.in-Some.rest.now in
    then-same _ (count_in c.settle_in.new.pool k) _ (c.note_part.ensures.nodes k)
    (arrival-nodes m mid s (lies_at c.in-Ok.part) i q c.args.place.now c.in-Ok.ensures.ok place.0 (count_in c.args.pool.now k) (count_in c.part_or_new.new.pool k) (count_in c.settle_in.new.pool k) (as-many c.part_or_new.new.pool c.args.pool.now k _ c.in-Ok.ensures.found) c.in-Ok.ensures.one c.in_ok-least.ensures.nodes spots height inside tall)
