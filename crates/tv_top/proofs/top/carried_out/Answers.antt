use Rattle.std.proofs.Common.{ap, sym}
use Rattle.std.specs.Prelude.{Some}
use Rattle.tv_top.specs.Answers.{answer_of}
use Rattle.tv_top.specs.Asking.{asks_of}
use Rattle.tv_top.specs.CommandViews.{command_view, reading_view}
use Rattle.tv_top.specs.Headline.{source_told}
use Rattle.tv_top.specs.Words.{gen}
use Rattle.tv_top.proofs.Leaving.{answered-by, answered-read, asked-by}
use Rattle.tv_top.proofs.top.carried_out.Goals as goal

pub returns-in-Of-clause-answer : goal.returns-in-Of-clause-answer
returns-in-Of-clause-answer g c =
    let answer = answer_of g.A.Services.Services.gives g.A.Services.Services.knows in
    let source = source_told g.S.Source c.args.source.now c.read_and_answered.new.source in
    answered-by answer source c.read_and_answered.result (Some (reading_view c.in-Of.reading)) (Some (command_view c.args.command))
    (ap (λ x. Some (command_view x)) (sym c.in-Of.is))
    (answered-read answer source c.read_and_answered.result c.in-Of.reading c.read_and_answered.ensures.answer)

pub returns-in-Of-clause-asked : goal.returns-in-Of-clause-asked
returns-in-Of-clause-asked g c =
    asked-by (asks_of g.A.Services.Services.gives g.A.Services.Services.knows) (Some (reading_view c.in-Of.reading))
    (Some (command_view c.args.command)) (source_told g.S.Source c.args.source.now c.read_and_answered.new.source)
    (g.A.Asker.calls c.args.asker.now) (g.A.Asker.calls c.read_and_answered.new.asker) c.read_and_answered.result
    (ap (λ x. Some (command_view x)) (sym c.in-Of.is)) c.read_and_answered.ensures.asked

pub returns-in-Gen-clause-answer : goal.returns-in-Gen-clause-answer
returns-in-Gen-clause-answer g c =
    let answer = answer_of g.A.Services.Services.gives g.A.Services.Services.knows in
    let source = source_told g.S.Source c.args.source.now c.args.source.now in
    answered-by answer source c.generated_and_answered.result (Some (gen c.in-Gen.number)) (Some (command_view c.args.command))
    (ap (λ x. Some (command_view x)) (sym c.in-Gen.is)) c.generated_and_answered.ensures.answer

pub returns-in-Gen-clause-asked : goal.returns-in-Gen-clause-asked
returns-in-Gen-clause-asked g c =
    let source = source_told g.S.Source c.args.source.now c.args.source.now in
    asked-by (asks_of g.A.Services.Services.gives g.A.Services.Services.knows) (Some (gen c.in-Gen.number))
    (Some (command_view c.args.command)) source
    (g.A.Asker.calls c.args.asker.now) (g.A.Asker.calls c.generated_and_answered.new.asker) c.generated_and_answered.result
    (ap (λ x. Some (command_view x)) (sym c.in-Gen.is)) (c.generated_and_answered.ensures.asked source)
