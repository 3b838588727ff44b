use Rattle.std.proofs.Common.{[], is_some, sym, ap, ◌∙◌, subst}
use Rattle.tv_cell.specs.Soundness.{AreSound}
use Rattle.tv_outputs.proofs.PieceLemmas.{more-sound}
use Rattle.tv_binding.specs.Found.{feed_found}
use Rattle.tv_binding.specs.Constants.{constants_view}
use Rattle.tv_binding.specs.Jobs.{output_found}
use Rattle.tv_binding.specs.Sourced.{known_by}
use Rattle.tv_binding.proofs.SourceLemmas.{numbered-found, numbered-more, numbered-all}
use Rattle.tv_binding.proofs.jobs.flow_outputs.Goals as goal

pub feed_piece-requires-clause-found : goal.feed_piece-requires-clause-found
feed_piece-requires-clause-found c =
    let k = known_by c.args.sources.now in
    let cs = constants_view c.args.constants.now in
    let x = c.index-feeds-number.result in
    ap (λ v. is_some (feed_found k x v [])) c.of_output-constant.ensures
    ∙ numbered-found (output_found k cs) c.args.feeds.now c.loop-number.number x c.requires.found c.loop-number-test.true c.index-feeds-number.is

pub loop-number-preserved : goal.loop-number-preserved
loop-number-preserved c =
    let k = known_by c.args.sources.now in
    let cs = constants_view c.args.constants.now in
    let x = c.index-feeds-number.result in
    let l = c.loop-number.invariant in
    let p = c.in_ok-feed_piece.field-0 in
    record {
      values = numbered-more (output_found k cs) c.args.feeds.now c.loop-number.pieces.items c.push.new.self.items p c.loop-number.number x l.values c.in_ok-push.ensures.items c.loop-number-test.true c.index-feeds-number.is (sym (ap (λ v. feed_found k x v []) c.of_output-constant.ensures) ∙ c.in_ok-feed_piece.ensures.value);
      sound = subst AreSound (sym c.in_ok-push.ensures.items) (more-sound c.loop-number.pieces.items p l.sound c.in_ok-feed_piece.ensures.sound);
    }

pub returns-clause-values : goal.returns-clause-values
returns-clause-values c =
    numbered-all (output_found (known_by c.args.sources.now) (constants_view c.args.constants.now)) c.args.feeds.now c.of.result c.loop-number.pieces.items c.loop-number.number c.of.ensures c.loop-number.invariant.values c.loop-number-test.false
