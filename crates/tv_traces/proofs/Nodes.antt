-- The shapes that nodes stand for, and the way to a place.
use Rattle.std.specs.Prelude.{◌≡◌, refl, ℕ, zero, suc, ◌+◌, ◌≤◌, ◌<◌, List, [], ◌∷◌, ◌++◌, drop, length, map, take, Some, None, option_and_then}
use Rattle.std.proofs.Common.{arith, sym, ap, subst, ◌∙◌, get_or}
use Rattle.tv_value.specs.Nested.{Place, item_at, leaf, list}
use Rattle.tv_lineage.specs.Kept.{result}
use Rattle.tv_lineage.specs.Views.{mark_view, part_view}
use Rattle.tv_lineage.specs.declared.mark.Mark.{Mark}
use Rattle.tv_lineage.specs.declared.mark.Mark.TheVariants.{Given, Made}
use Rattle.tv_lineage.specs.declared.mark.Part.{Part}
use Rattle.tv_lineage.specs.declared.mark.Part.TheVariants.{Single}
use Rattle.tv_traces.specs.Feeds.{as_part}
use Rattle.tv_traces.specs.Shapes.{Shape, job_here, passed_by, reached}
use Rattle.tv_traces.specs.Views.{node_step, node_view, nodes_view}
use Rattle.tv_traces.specs.declared.node.Node.{Node}
use Rattle.tv_traces.specs.declared.node.Node.TheVariants as plain
use Rattle.tv_traces.specs.declared.node.Node.TheViews as code
use Rattle.tv_traces.specs.declared.node.Node.TheFolds.{fold-roll-Node}
use Rattle.tv_traces.specs.declared.node.Node.TheOpen.{Node-F}

pub job-view : node_view plain.Job ≡ leaf (result []) job_here
job-view = ap node_view (sym plain.rolls-Job) ∙ fold-roll-Node _ node_step Node-F.Job

pub passed-view : (ms : List Mark) → node_view (plain.Passed ms) ≡ leaf (result []) (passed_by (map mark_view ms))
passed-view ms = ap node_view (sym (plain.rolls-Passed ms)) ∙ fold-roll-Node _ node_step (Node-F.Passed ms)

pub list-view : (p : Part) (us : List Node) → node_view (code.List p us) ≡ list (part_view p) (nodes_view us)
list-view p us = ap node_view (sym (code.rolls-List p us)) ∙ fold-roll-Node _ node_step (Node-F.List p us)

-- ---- items

pub item-there : (us : List Node) (i : ℕ) (x : Node) → i < length us → x ≡ get_or us i x → item_at (nodes_view us) i ≡ Some (node_view x)
item-there [] i x h e = absurd (none i h)
  where
    none : (i : ℕ) → i < 0 → ⊥
    none i h = omega arith
item-there (u ∷ us) zero x h e = ap (λ y. Some (node_view y)) (sym e)
item-there (u ∷ us) (suc i) x h e = item-there us i x (less i (length us) h) e
  where
    less : (a b : ℕ) → suc a < suc b → a < b
    less a b h = omega arith

pub item-none : (us : List Node) (i : ℕ) → length us ≤ i → item_at (nodes_view us) i ≡ None
item-none [] i h = refl
item-none (u ∷ us) zero h = absurd (none (length us) h)
  where
    none : (a : ℕ) → suc a ≤ 0 → ⊥
    none a h = omega arith
item-none (u ∷ us) (suc i) h = item-none us i (less (length us) i h)
  where
    less : (a b : ℕ) → suc a ≤ suc b → a ≤ b
    less a b h = omega arith

-- ---- ways

take-next : (q : Place) (t : ℕ) → t < length q → take (suc t) q ≡ take t q ++ get_or q t 0 ∷ []
take-next [] t h = absurd (none t h)
  where
    none : (i : ℕ) → i < 0 → ⊥
    none i h = omega arith
take-next (i ∷ q) zero h = refl
take-next (i ∷ q) (suc t) h = ap (λ r. i ∷ r) (take-next q t (less t (length q) h))
  where
    less : (a b : ℕ) → suc a < suc b → a < b
    less a b h = omega arith

drop-next : (q : Place) (t : ℕ) → t < length q → drop t q ≡ get_or q t 0 ∷ drop (suc t) q
drop-next [] t h = absurd (none t h)
  where
    none : (i : ℕ) → i < 0 → ⊥
    none i h = omega arith
drop-next (i ∷ q) zero h = refl
drop-next (i ∷ q) (suc t) h = drop-next q t (less t (length q) h)
  where
    less : (a b : ℕ) → suc a < suc b → a < b
    less a b h = omega arith

-- the way ends at a leaf
pub stops : (u v : Shape) (e : Rattle.tv_traces.specs.Shapes.Stop) → u ≡ v → v ≡ leaf (result []) e → (q r : Place) → reached q u r ≡ Some (q, u)
stops u v e f g q r = subst (λ w. reached q w r ≡ Some (q, w)) (sym (f ∙ g)) (by r)
  where
    by : (r : Place) → reached q (leaf (result []) e) r ≡ Some (q, leaf (result []) e)
    by [] = refl
    by (i ∷ r) = refl

-- and goes on from a list to the item of the next index
goes-on : (q : Place) (t : ℕ) (n : Node) (p : Part) (us : List Node) → t < length q → n ≡ code.List p us → reached (take t q) (node_view n) (drop t q) ≡ option_and_then (λ v. reached (take (suc t) q) v (drop (suc t) q)) (item_at (nodes_view us) (get_or q t 0))
goes-on q t n p us h e =
    ap (λ r. reached (take t q) (node_view n) r) (drop-next q t h)
    ∙ ap (λ u. reached (take t q) u (get_or q t 0 ∷ drop (suc t) q)) (ap node_view e ∙ list-view p us)
    ∙ ap (λ r. option_and_then (λ v. reached r v (drop (suc t) q)) (item_at (nodes_view us) (get_or q t 0))) (sym (take-next q t h))

pub way-goes_on : (q : Place) (t : ℕ) (n m : Node) (p : Part) (us xs : List Node) → t < length q → n ≡ code.List p us → xs ≡ us → get_or q t 0 < length xs → m ≡ get_or xs (get_or q t 0) m → reached (take t q) (node_view n) (drop t q) ≡ reached (take (t + 1) q) (node_view m) (drop (t + 1) q)
way-goes_on q t n m p us xs h e f lt is =
    let one : suc t ≡ t + 1 = omega arith in
    goes-on q t n p us h e
    ∙ ap (option_and_then (λ v. reached (take (suc t) q) v (drop (suc t) q))) (item-there us (get_or q t 0) m (subst (λ l. get_or q t 0 < length l) f lt) (is ∙ ap (λ l. get_or l (get_or q t 0) m) f))
    ∙ ap (λ j. reached (take j q) (node_view m) (drop j q)) one

pub way-ends : (q : Place) (t : ℕ) (n : Node) (p : Part) (us xs : List Node) → t < length q → n ≡ code.List p us → xs ≡ us → length xs ≤ get_or q t 0 → reached (take t q) (node_view n) (drop t q) ≡ None
way-ends q t n p us xs h e f le =
    goes-on q t n p us h e ∙ ap (option_and_then (λ v. reached (take (suc t) q) v (drop (suc t) q))) (item-none us (get_or q t 0) (subst (λ l. length l ≤ get_or q t 0) f le))

-- a mark as a part
pub single : (m : Mark) → part_view (Single m) ≡ as_part (mark_view m)
single (Given x q) = refl
single (Made n) = refl
