use Rattle.std.proofs.Common.{rules, ◌≤◌, ◌++◌, [], ◌∷◌, length, ap, ◌∙◌}
use Rattle.tv_lemmas.proofs.Lists.{flat-singles}
use Rattle.tv_match.specs.Entries.{kepts}
use Rattle.tv_match.proofs.Putting.{puts-end}
use Rattle.tv_match.proofs.joins.group_all.Goals as goal

pub returns-clause-ok : goal.returns-clause-ok
returns-clause-ok c =
    let past : length c.args.xs.now ≤ c.loop-i.i = search rules in
    puts-end c.args.number (λ x. x ∷ []) c.args.xs.now c.loop-i.i c.args.out.now.items c.loop-i.out.items c.loop-i.invariant.0 past ∙ ap (λ l. kepts c.args.out.now.items ++ l) (flat-singles (kepts c.args.xs.now))
