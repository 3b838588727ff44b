use Rattle.std.proofs.Common.{ap, sym, ◌∙◌}
use Rattle.std.proofs.lemmas.List.{map-id}
use Rattle.tv_flow.specs.Forms.{is_name}
use Rattle.tv_flow.specs.Formed.{are_names, are_listed}
use Rattle.tv_flow.proofs.Sorting.{names-kept}
use Rattle.tv_flow.proofs.names.names.Goals as goal

pub returns-clause-kept : goal.returns-clause-kept
returns-clause-kept c =
    ap are_names c.in_ok-in_order.ensures
    ∙ names-kept c.in_ok-names.names (ap (are_listed is_name 0 16) (sym (map-id c.in_ok-names.names)) ∙ c.in_ok-names.ensures.kept)
