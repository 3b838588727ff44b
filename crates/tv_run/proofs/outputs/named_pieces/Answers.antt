use Rattle.std.proofs.Common.{ap, arith, length, sym, ◌<◌, ◌∙◌}
use Rattle.tv_flow.specs.Views.{each}
use Rattle.tv_cell.specs.PieceValues.{piece_value}
use Rattle.tv_run.proofs.NamedValues.{named-all, named-next, sound-next}
use Rattle.tv_run.proofs.outputs.named_pieces.Goals as goal

pub loop-index-preserved : goal.loop-index-preserved
loop-index-preserved c =
    let i = c.loop-index.index in
    let low : i < length c.args.pieces.now = omega (arith, c.loop-index-test.true) in
    record {
      values =
          named-next c.args.names.now c.args.pieces.now c.requires.many i c.index-names-index.result
          c.index-pieces-index.result low c.index-names-index.is c.index-pieces-index.is
          c.loop-index.named.items c.push.new.self.items c.in_ok-name.name c.in_ok-copy.copy
          (c.in_ok-name.ensures ∙ ap (λ n. n.0) (sym c.index-names-index.is)) c.in_ok-copy.ensures
          c.loop-index.invariant.values c.in_ok-push.ensures.items;
      sound =
          sound-next c.args.names.now c.args.pieces.now c.requires.many c.requires.sound i c.index-pieces-index.result low
          c.index-pieces-index.is c.loop-index.named.items c.push.new.self.items c.in_ok-name.name c.in_ok-copy.copy
          c.in_ok-copy.ensures c.loop-index.invariant.sound c.in_ok-push.ensures.items;
    }

pub returns-clause-values : goal.returns-clause-values
returns-clause-values c =
    ap (each piece_value) c.of.ensures ∙ c.loop-index.invariant.values
    ∙ named-all c.args.names.now c.args.pieces.now c.requires.many c.loop-index.index (omega (arith, c.loop-index-test.false))
