use Rattle.std.proofs.Common.{rules, ◌≡◌, ◌++◌, length, append-nil, sym, ap, ◌∙◌}
use Rattle.tv_matching.specs.Matched.{below_jobs}
use Rattle.tv_match.specs.Entries.{kepts}
use Rattle.tv_match.specs.Brief.{briefs}
use Rattle.tv_match.proofs.Putting.{below-nothing, no-kepts}
use Rattle.tv_match.proofs.joins.push_below_jobs.Goals as goal

pub returns-then-len-eq0-clause-ok : goal.returns-then-len-eq0-clause-ok
returns-then-len-eq0-clause-ok c =
    let none : length c.args.ys.now ≡ 0 = search rules in
    sym (ap (λ l. kepts c.args.out.now ++ l) (ap (λ l. briefs (below_jobs (kepts c.args.es.now) l)) (no-kepts c.args.ys.now none) ∙ ap briefs (below-nothing (kepts c.args.es.now))) ∙ append-nil (kepts c.args.out.now))
