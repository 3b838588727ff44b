use Rattle.std.proofs.Common.{◌<◌, length, sym, subst, ap, ◌∙◌}
use Rattle.std.proofs.lemmas.Result.{on_ok_weaker}
use Rattle.tv_matching.specs.Matchers.{leaf_name}
use Rattle.tv_telling.specs.Views.{HasPiece, IsFaultless, happening}
use Rattle.tv_telling.specs.WayTellings.{told_there}
use Rattle.tv_telling.proofs.Adding.{adds-same}
use Rattle.tv_telling.proofs.WayLemmas.{given-there, none-given}
use Rattle.tv_telling.proofs.events.tell_there.Goals as goal

pub tell_piece-requires : goal.tell_piece-requires
tell_piece-requires c = record {
  faulty = λ h.
      let o = c.args.way.now.output in
      none-given c.in-Gave.pieces.now o c.index-pieces-way.result (subst (λ x. HasPiece x o) c.in-Gave.is c.requires.piece)
      (subst (λ x. IsFaultless (happening x o)) c.in-Gave.is (c.requires.faulty h));
}

pub returns-in-Gave : goal.returns-in-Gave
returns-in-Gave c =
    let q = c.args.place.now.items in
    let k = c.args.levels in
    let o = c.args.way.now.output in
    let ps = c.in-Gave.pieces.now in
    let within : o < length ps = subst (λ h. HasPiece h o) c.in-Gave.is c.requires.piece in
    on_ok_weaker c.tell_piece.result
    (λ h. adds-same c.args.tellings.now.items c.tell_piece.new.tellings.items _ _ h
    (λ s. given-there (leaf_name s c.args.way.now.leaf) k q ps o c.index-pieces-way.result within
    ∙ ap (λ x. told_there (leaf_name s c.args.way.now.leaf) k q (happening x o)) (sym c.in-Gave.is)))
    c.tell_piece.ensures.told
