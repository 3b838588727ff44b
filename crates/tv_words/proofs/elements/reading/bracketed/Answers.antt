use Rattle.std.specs.Option.{option_map}
use Rattle.std.proofs.Common.{ap, sym, ◌∙◌}
use Rattle.tv_words.proofs.Cuts.{both-cut, no-close, no-open}
use Rattle.tv_words.proofs.elements.reading.bracketed.Goals as goal

pub returns-in_err-port : goal.returns-in_err-port
returns-in_err-port c =
    ap (option_map _) c.from_residual.ensures
    ∙ sym (no-open c.args.text.now c.split_once.result c.split_once.ensures.cases c.in_err-port.was)

pub returns-in_err-inside : goal.returns-in_err-inside
returns-in_err-inside c =
    ap (option_map _) c.from_residual-in_err-inside.ensures
    ∙ sym (no-close c.args.text.now c.in_ok-port.port c.in_ok-port.rest c.in_ok-port.ensures.cases c.strip_suffix.result c.strip_suffix.ensures.cases c.in_err-inside.was)

pub returns : goal.returns
returns c = sym (both-cut c.args.text.now c.in_ok-port.port c.in_ok-port.rest c.in_ok-inside.inside c.in_ok-port.ensures.cases c.in_ok-inside.ensures.cases)
