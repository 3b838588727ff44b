use Rattle.std.proofs.Common.{◌++◌, ap, ◌∙◌, get_or, None}
use Rattle.tv_telling.specs.Views.{HasOutput, way_tellings}
use Rattle.tv_telling.specs.declared.ways.Way.{Way}
use Rattle.tv_telling.proofs.WayLemmas.{each-at, flat-step}
use Rattle.tv_telling.proofs.events.tellings_with.Goals as goal

pub tell_way-requires : goal.tell_way-requires
tell_way-requires c = each-at (λ (w : Way). HasOutput c.args.event.now w.output) c.args.ways.now c.loop-way.way-index _ c.requires c.loop-way-test.true

-- what is read of an empty list
abbrev no_way : Way
no_way = record { leaf = 0; output = 0; levels = 0; item = None }

pub loop-way-preserved : goal.loop-way-preserved
loop-way-preserved c = λ s.
    let e = c.args.event.now in
    let i = c.loop-way.way-index in
    c.in_ok-tell_way.ensures s
    ∙ ap (λ l. l ++ way_tellings s e (get_or c.args.ways.now i no_way)) (c.loop-way.invariant s)
    ∙ flat-step (way_tellings s e) c.args.ways.now i no_way c.loop-way-test.true
