use Rattle.std.proofs.Common.{◌≡◌, ℕ, ◌≤◌, ◌<◌, ◌+◌, sym, ap, ◌∙◌, subst, arith}
use Rattle.std.specs.Prelude.{slice_range}
use Rattle.tv_cell.specs.PieceValues.{piece_value}
use Rattle.tv_cell.specs.Soundness.{AreSound}
use Rattle.tv_cell.proofs.PieceLemmas.{list-value}
use Rattle.tv_value.specs.Nested.{trees_of}
use Rattle.tv_value.specs.Values.{list_value}
use Rattle.tv_outputs.specs.Known.{value_tree}
use Rattle.tv_outputs.specs.PartValues.{list_values}
use Rattle.tv_outputs.proofs.Building.{closes-others, closes-with}
use Rattle.tv_outputs.proofs.PieceLemmas.{kind-closes, more-sound, pushed-with, pieces-with-sound}
use Rattle.tv_outputs.proofs.pieces.list_with.Goals as goal

apart-below : (i j : ℕ) → j < i → j ≡ i → ⊥
apart-below i j h e = omega arith

apart-above : (i j : ℕ) → i + 1 ≤ j → j ≡ i → ⊥
apart-above i j h e = omega arith

then : (a b c : ℕ) → a < b → b < c → a < c
then a b c h k = omega arith

pub push_parts-requires-clause-seen : goal.push_parts-requires-clause-seen
push_parts-requires-clause-seen c =
    let n = c.requires.seen in
    let i = c.args.index in
    (n.0, n.1, λ j lo lt. closes-others (value_tree n.0) c.args.length i (piece_value c.args.part) (kind-closes n.0 c.args.length n.2) n.3 j (then j i c.args.length lt c.requires.there) (apart-below i j lt))

pub overflow_add-index : goal.overflow_add-index
overflow_add-index c = let h = c.requires.there in let k = c.ranges.length.fits in omega (arith, h, k)

pub push_parts-requires-2-clause-ordered : goal.push_parts-requires-2-clause-ordered
push_parts-requires-2-clause-ordered c = let h = c.requires.there in omega (arith, h)

pub push_parts-requires-2-clause-seen : goal.push_parts-requires-2-clause-seen
push_parts-requires-2-clause-seen c =
    let n = c.requires.seen in
    let i = c.args.index in
    (n.0, n.1, λ j lo lt. closes-others (value_tree n.0) c.args.length i (piece_value c.args.part) (kind-closes n.0 c.args.length n.2) n.3 j lt (apart-above i j lo))

pub push_parts-requires-2-clause-sound : goal.push_parts-requires-2-clause-sound
push_parts-requires-2-clause-sound c =
    subst AreSound (sym c.in_ok-push.ensures.items) (more-sound c.push_parts.new.parts.items c.args.part c.in_ok-push_parts.ensures.sound c.requires.sound)

pub returns-clause-value : goal.returns-clause-value
returns-clause-value c r sees kind w =
    let i = c.args.index in
    let n = c.args.length in
    let v = piece_value c.args.part in
    let closes = kind-closes r n kind in
    list-value c.of.result
    ∙ ap (λ us. list_value (trees_of us)) (pushed-with (slice_range (list_values (value_tree r)) 0 i) (slice_range (list_values (value_tree r)) (i + 1) n) c.args.part c.of.result c.push_parts-2.new.parts.items c.push.new.self.items c.push_parts.new.parts.items c.in_ok-parts.parts.items c.of.ensures
    (c.in_ok-push_parts-2.ensures.values r sees (λ j lo lt. closes-others (value_tree r) n i v closes w j lt (apart-above i j lo)))
    c.in_ok-push.ensures.items
    (c.in_ok-push_parts.ensures.values r sees (λ j lo lt. closes-others (value_tree r) n i v closes w j (then j i n lt c.requires.there) (apart-below i j lt)))
    c.in_ok-parts.ensures.items)
    ∙ sym (closes-with (value_tree r) n i v closes c.requires.there)

pub returns-clause-sound : goal.returns-clause-sound
returns-clause-sound c =
    let s = c.requires.seen in
    let r = s.0 in
    let i = c.args.index in
    let n = c.args.length in
    let v = piece_value c.args.part in
    let closes = kind-closes r n s.2 in
    pieces-with-sound c.of.result (list_values (value_tree r)) i n v
    (pushed-with (slice_range (list_values (value_tree r)) 0 i) (slice_range (list_values (value_tree r)) (i + 1) n) c.args.part c.of.result c.push_parts-2.new.parts.items c.push.new.self.items c.push_parts.new.parts.items c.in_ok-parts.parts.items c.of.ensures
    (c.in_ok-push_parts-2.ensures.values r s.1 (λ j lo lt. closes-others (value_tree r) n i v closes s.3 j lt (apart-above i j lo)))
    c.in_ok-push.ensures.items
    (c.in_ok-push_parts.ensures.values r s.1 (λ j lo lt. closes-others (value_tree r) n i v closes s.3 j (then j i n lt c.requires.there) (apart-below i j lt)))
    c.in_ok-parts.ensures.items)
    c.requires.there c.ranges.length.fits (subst AreSound (sym c.of.ensures) c.in_ok-push_parts-2.ensures.sound)
