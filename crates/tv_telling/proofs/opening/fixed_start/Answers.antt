use Rattle.std.proofs.Common.{ap₂, ◌∙◌, subst, OnOk, []}
use Rattle.tv_value.specs.Nested.{at}
use Rattle.tv_value.specs.Views.{view}
use Rattle.tv_cell.specs.Found.{found_value}
use Rattle.tv_cell.proofs.PieceLemmas.{part-value}
use Rattle.tv_matching.specs.Matchers.{leaf_name}
use Rattle.tv_telling.specs.ValueTellings.{value_told}
use Rattle.tv_telling.specs.Views.{AddsTellings}
use Rattle.tv_telling.proofs.opening.fixed_start.Goals as goal

pub returns : goal.returns
returns c =
    subst (λ v. OnOk c.tell_known.result (AddsTellings c.args.tellings.now.items c.tell_known.new.tellings.items (λ s. value_told (leaf_name s c.args.leaf) c.args.levels [] v)))
    (part-value c.in_ok-cell.cell c.top.result ∙ ap₂ (λ x q. found_value (at (view x) q)) c.in_ok-cell.ensures c.top.ensures)
    c.tell_known.ensures
