use Rattle.std.proofs.Common.{sym, ◌∙◌}
use Rattle.std.proofs.lemmas.Bool.{eqb-true, eqb-false}
use Rattle.tv_local.proofs.Numbers.{read-parsed, read-plus}
use Rattle.tv_local.proofs.number.read_number.Goals as goal

pub returns-then-starts_with_plus : goal.returns-then-starts_with_plus
returns-then-starts_with_plus c = sym (read-plus c.args.text.now (eqb-true _ _ (sym c.if-starts_with_plus.ensures)))

pub returns : goal.returns
returns c = c.ok.ensures.value ∙ read-parsed c.args.text.now c.parse.result c.parse.ensures.value.0 (eqb-false _ _ (sym c.if-starts_with_plus.ensures))
