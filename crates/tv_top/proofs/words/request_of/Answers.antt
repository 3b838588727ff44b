use Rattle.std.proofs.Common.{ap, sym, option_map, ◌∙◌}
use Rattle.tv_words.specs.CommandViews.{command_view as told_view}
use Rattle.tv_words.proofs.Bounds.{commands-are-bounded}
use Rattle.tv_top.specs.Asked.{texts_of}
use Rattle.tv_top.proofs.words.request_of.Goals as goal

pub requested-requires : goal.requested-requires
requested-requires c =
    commands-are-bounded (texts_of c.args.words.now) (told_view c.in-Some.told)
    (sym (sym (ap (option_map told_view) c.in-Some.is) ∙ c.in_ok-told.ensures))
