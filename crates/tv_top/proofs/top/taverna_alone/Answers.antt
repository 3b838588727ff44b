use Rattle.tv_top.specs.Asked.{texts_of}
use Rattle.tv_top.specs.Asking.{asks_of}
use Rattle.tv_top.specs.Headline.{sink_told, source_told}
use Rattle.tv_top.specs.Words.{command_of}
use Rattle.tv_top.proofs.Finishing.{asked-of, promised}
use Rattle.tv_top.proofs.top.taverna_alone.Goals as goal

pub returns-clause-promised : goal.returns-clause-promised
returns-clause-promised g c =
    let command = command_of (texts_of c.args.words.now) in
    let e = c.answered-answer.ensures in
    let f = c.finished.ensures in
    promised g.S.Source g.K.Sink g.E.Sink g.A.Services.Services.gives g.A.Services.Services.knows command
    c.args.source.now c.answered-answer.new.source c.args.out.now c.finished.new.out c.args.err.now c.finished.new.err c.finished.result
    c.answered-answer.result e.answer e.usage e.taken e.unread f.finished f.silent f.unsaid f.utf8

pub returns-clause-asked : goal.returns-clause-asked
returns-clause-asked g c =
    let command = command_of (texts_of c.args.words.now) in
    asked-of (asks_of g.A.Services.Services.gives g.A.Services.Services.knows command)
    (source_told g.S.Source c.args.source.now c.answered-answer.new.source) (g.A.Asker.calls c.args.asker.now)
    (g.A.Asker.calls c.answered-answer.new.asker) (sink_told g.K.Sink c.args.out.now c.finished.new.out)
    (sink_told g.E.Sink c.args.err.now c.finished.new.err) c.answered-answer.result c.finished.result c.finished.ensures.finished
    c.answered-answer.ensures.asked
