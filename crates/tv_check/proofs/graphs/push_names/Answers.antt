use Rattle.std.proofs.Common.{◌++◌, ◌∷◌, [], ap, ◌∙◌}
use Rattle.tv_lemmas.proofs.Lists.{flat-singles}
use Rattle.tv_naming.specs.Numbers.{number_in}
use Rattle.tv_check.specs.NamedGraphs.{numbers_of}
use Rattle.tv_naming.proofs.Lists.{one-more, all-now}
use Rattle.tv_check.proofs.graphs.push_names.Goals as goal

pub loop-name-preserved : goal.loop-name-preserved
loop-name-preserved g c =
    one-more (number_in c.args.entries.now) (λ n. n ∷ []) c.args.numbers.now.items c.loop-name.numbers.items _ c.as_slice-name-items.result.now c.loop-name.name-index c.name-item.result c.loop-name-test.true c.name-item.is c.loop-name.invariant c.in_ok-push_number.ensures

pub returns : goal.returns
returns g c =
    all-now (number_in c.args.entries.now) (λ n. n ∷ []) c.args.numbers.now.items c.loop-name.numbers.items c.as_slice-name-items.result.now c.loop-name.name-index c.loop-name-test.false c.loop-name.invariant
    ∙ ap (λ xs. c.args.numbers.now.items ++ numbers_of c.args.entries.now xs) (flat-singles c.as_slice-name-items.result.now ∙ ap (λ ns. ns) c.as_slice-name-items.ensures)
