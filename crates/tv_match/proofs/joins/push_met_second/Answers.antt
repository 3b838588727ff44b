use Rattle.std.proofs.Common.{rules, ◌≡◌, ◌++◌, [], map, take, append-nil, sym, ap, subst, ◌∙◌}
use Rattle.std.proofs.lemmas.Simd.{map-map}
use Rattle.tv_matching.specs.Stores.{key_of, met_with, latest_at}
use Rattle.tv_match.specs.Entries.{kepts, kept_entry, entry_at}
use Rattle.tv_match.specs.Brief.{brief, briefs}
use Rattle.tv_match.proofs.Meeting.{meets-end}
use Rattle.tv_match.proofs.joins.push_met_second.Goals as goal

pub returns-clause-ok : goal.returns-clause-ok
returns-clause-ok c =
    let y = kept_entry (entry_at c.args.ys.now c.args.at) in
    let q = c.key-key.result.now in
    let xs = c.args.xs.now in
    let none : latest_at q (kepts (take c.loop-found.before xs)) ≡ [] = search rules in
    subst (λ r. kepts c.loop-found.out ≡ kepts c.args.out.now ++ briefs (map (λ x. met_with x y) (latest_at r (kepts xs)) ++ [])) (c.key-key.ensures ∙ ap (key_of c.args.depth) c.place-place.ensures)
    (meets-end c.args.number (λ x. brief (met_with x y)) q xs c.loop-found.before c.args.out.now c.loop-found.out c.loop-found.invariant none
    ∙ ap (λ l. kepts c.args.out.now ++ l) (sym (ap briefs (append-nil (map (λ x. met_with x y) (latest_at q (kepts xs)))) ∙ map-map brief (λ x. met_with x y) (latest_at q (kepts xs)))))
