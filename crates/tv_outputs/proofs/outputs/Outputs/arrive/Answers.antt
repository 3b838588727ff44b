use Rattle.std.proofs.Common.{rules, refl, ◌≡◌, ◌≤◌, ◌<◌, ◌+◌, ◌-◌, get_or, ℕ, List, ◌++◌, ◌∷◌, [], sym, ap, ◌∙◌, subst, length, map, arith}
use Rattle.std.specs.Prelude.{nat_lt, slice_index_or}
use Rattle.std.proofs.lemmas.List.{get_or-map, length-map}
use Rattle.std.proofs.lemmas.Iterator.Adapters.{YieldsList-from_vec}
use Rattle.std.proofs.lemmas.Iterator.Consumers.{YieldsList-turn, YieldsList-end}
use Rattle.tv_value.specs.Values.{holds_fault}
use Rattle.tv_parts.specs.Changes.{arrive, CanArrive}
use Rattle.tv_cell.specs.declared.piece.Piece.{Piece}
use Rattle.tv_cell.specs.PieceValues.{piece_value}
use Rattle.tv_cell.specs.Soundness.{AreSound}
use Rattle.tv_cell.proofs.PieceLemmas.{piece-sound}
use Rattle.tv_outputs.specs.Known.{known_in, depths_in, needed}
use Rattle.tv_outputs.specs.Changes.{Arrive, no_value}
use Rattle.tv_outputs.proofs.Lists.{length-more}
use Rattle.tv_outputs.proofs.Turning.{Asks, arriving-none, arriving-asks, arriving-more, leaves-at}
use Rattle.tv_outputs.proofs.outputs.Outputs.arrive.Goals as goal

pub loop-piece-init : goal.loop-piece-init
loop-piece-init c = record { number = omega arith; arriving = arriving-none c.args.pool.now c.args.region.now c.args.self.now.trees.items c.args.first c.args.place.now c.requires.live c.requires.stand }

pub arrive_at-requires : goal.arrive_at-requires
arrive_at-requires c =
    let old = c.args.pool.now in
    let now = c.loop-piece.pool in
    let region = c.args.region.now in
    let ts0 = c.args.self.now.trees.items in
    let ts = c.loop-piece.self.trees.items in
    let first = c.args.first in
    let q = c.args.place.now in
    let done = c.loop-piece.yielded in
    let l = c.loop-piece.invariant in
    let vec = c.into_vec-piece-items.result.items in
    let turn = YieldsList-turn (YieldsList-from_vec {s = c.into_iter-piece-iterator.result} vec (search rules) (search rules)) done c.loop-piece.piece-iterator c.loop-piece.yielded_by c.next.result c.next.new.self c.in-Some.piece c.in-Some.is c.next.ensures.steps in
    let inside = subst (λ ps. length done < length ps) c.into_vec-piece-items.ensures turn.0 in
    let asks = arriving-asks old now region ts0 ts first q done l.arriving (length c.args.pieces) c.requires.can c.requires.room inside in
    let here = subst (λ n. Asks q now.spare n (depths_in ts) (known_in now ts) (λ d. length q ≤ d) (CanArrive q)) (sym l.number) asks in
    let same : c.loop-piece.number - first ≡ length done = omega (arith, l.number) in
    record {
      live = l.arriving.live;
      stand = l.arriving.kept;
      there = here.there;
      short = here.short;
      can = here.can;
      sound = piece-sound vec (length done) c.in-Some.piece turn.0 turn.1 (subst AreSound (sym c.into_vec-piece-items.ensures) c.requires.sound);
      faulty =
          (λ i. nat_lt (length (c.as_slice.ensures i)) (slice_index_or c.args.faults.now (same i) 0))
          ∙ c.requires.marked.each (length done) (subst (λ n. length done < n) (sym (length-map c.args.pieces piece_value)) inside)
          ∙ ap holds_fault (get_or-map piece_value c.args.pieces (length done) c.in-Some.piece no_value inside)
          ∙ ap (λ ps. holds_fault (piece_value (get_or ps (length done) c.in-Some.piece))) (sym c.into_vec-piece-items.ensures)
          ∙ ap (λ p. holds_fault (piece_value p)) (sym turn.1);
      room = here.room;
    }

pub loop-piece-preserved : goal.loop-piece-preserved
loop-piece-preserved c =
    let old = c.args.pool.now in
    let now = c.loop-piece.pool in
    let new = c.arrive_at.new.pool in
    let region = c.args.region.now in
    let ts0 = c.args.self.now.trees.items in
    let ts = c.loop-piece.self.trees.items in
    let us = c.arrive_at.new.self.trees.items in
    let first = c.args.first in
    let q = c.args.place.now in
    let done = c.loop-piece.yielded in
    let piece = c.in-Some.piece in
    let l = c.loop-piece.invariant in
    let e = c.arrive_at.ensures in
    let left = leaves-at now new region ts us (arrive q (piece_value piece)) c.loop-piece.number (first + length done) l.number (record { turns = e.turns; same = e.same; kept = e.stand; regions = e.kept; spare = e.spare }) in
    record {
      number = next c.loop-piece.number first (length done) (length (done ++ piece ∷ [])) l.number (length-more done piece);
      arriving = arriving-more old now region ts0 ts first q done l.arriving new us piece left;
    }
  where
    next : (n first a b : ℕ) → n ≡ first + a → b ≡ a + 1 → n + 1 ≡ first + b
    next n first a b h k = omega arith

mapped-same : (xs : List Piece) → map (λ x. x) xs ≡ xs
mapped-same [] = refl
mapped-same (x ∷ xs) = ap (λ ys. x ∷ ys) (mapped-same xs)

pub returns : goal.returns
returns c =
    let old = c.args.pool.now in
    let now = c.loop-piece.pool in
    let ts0 = c.args.self.now.trees.items in
    let ts = c.loop-piece.self.trees.items in
    let first = c.args.first in
    let done = c.loop-piece.yielded in
    let a = c.loop-piece.invariant.arriving in
    let vec = c.into_vec-piece-items.result.items in
    let end = YieldsList-end (YieldsList-from_vec {s = c.into_iter-piece-iterator.result} vec (search rules) (search rules)) done c.loop-piece.piece-iterator c.loop-piece.yielded_by c.next.result c.next.new.self c.in-None.is c.next.ensures.steps in
    let all : done ≡ c.args.pieces = sym (mapped-same done) ∙ end.0 ∙ c.into_vec-piece-items.ensures in
    record {
      known = subst (λ ps. Arrive first c.args.place.now (map piece_value ps) (known_in old ts0) (known_in now ts)) all a.changed;
      depths = ap depths_in a.same;
      stand = a.kept;
      kept = a.regions;
      spare = subst (λ ps. old.spare ≤ now.spare + needed (depths_in ts0) first (length ps)) all a.spare;
    }
