use Rattle.std.proofs.Common.{List, [], ap, length, subst, sym, ◌++◌, ◌∙◌, ◌∷◌}
use Rattle.std.proofs.lemmas.Result.{on_ok_weaker}
use Rattle.tv_lemmas.specs.Members.{Each}
use Rattle.tv_lineage.specs.Kept.{IsBefore, all_marks, records_of}
use Rattle.tv_lineage.specs.Lineages.{Record}
use Rattle.tv_lineage.specs.Touching.{Mark}
use Rattle.tv_lineage.proofs.Holding.{marks-before, marks-parts}
use Rattle.tv_lineage.proofs.records.Records.note.Goals as goal

pub note_parts-requires-clause-before : goal.note_parts-requires-clause-before
note_parts-requires-clause-before c =
    let n = length c.args.self.now.groups in
    subst (λ ps. Each (IsBefore n) ps) (sym c.in_ok-parts.ensures) (marks-before n c.args.used)

pub returns-clause-records : goal.returns-clause-records
returns-clause-records c =
    let gs = c.args.self.now.groups in
    let this : List Mark → List Record = λ us. records_of c.args.self.now ++ record { job = c.args.job; used = us } ∷ [] in
    on_ok_weaker c.note_parts.result (λ e. e ∙ ap this (ap (all_marks gs) c.in_ok-parts.ensures ∙ marks-parts gs c.args.used)) c.note_parts.ensures.records
