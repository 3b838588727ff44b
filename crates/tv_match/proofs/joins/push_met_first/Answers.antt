use Rattle.std.proofs.Common.{rules, ◌≡◌, ◌++◌, [], map, take, append-nil, sym, ap, ◌∙◌}
use Rattle.std.proofs.lemmas.Simd.{map-map}
use Rattle.tv_matching.specs.Stores.{met_with, latest_at}
use Rattle.tv_match.specs.Entries.{kepts, kept_entry, entry_at}
use Rattle.tv_match.specs.Brief.{brief, briefs}
use Rattle.tv_match.proofs.Meeting.{meets-end}
use Rattle.tv_match.proofs.joins.push_met_first.Goals as goal

pub returns-clause-ok : goal.returns-clause-ok
returns-clause-ok c =
    let x = kept_entry (entry_at c.args.xs.now c.args.at) in
    let q = (entry_at c.args.xs.now c.args.at).place in
    let ys = c.args.ys.now in
    let none : latest_at q (kepts (take c.loop-found.before ys)) ≡ [] = search rules in
    meets-end c.args.number (λ y. brief (met_with x y)) q ys c.loop-found.before c.args.out.now c.loop-found.out c.loop-found.invariant none
    ∙ ap (λ l. kepts c.args.out.now ++ l) (sym (ap briefs (append-nil (map (met_with x) (latest_at q (kepts ys)))) ∙ map-map brief (met_with x) (latest_at q (kepts ys))))
