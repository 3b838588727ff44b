-- A worked document with a nested flow: the flow of each instance, and the depths of its ports.
use Rattle.std.specs.Prelude.{None, Some, [], codes, true, ◌∷◌, ◌≡◌}
use Rattle.tv_flow.specs.Formed.{is_formed}
use Rattle.tv_check.specs.Plans.{IsAccepted}
use Rattle.tv_model.specs.RowsOfFlows.{gene_names, opening}
use Rattle.tv_model.specs.Writing.{meant}
use Rattle.tv_history.specs.agreement.InstanceFlows.{instance_flow}

-- the steps of the main instance are those of m, what stands in the instance of n[1] is of s, and u opens no flow
abbrev pub FlowsOfInstances : Type 0
FlowsOfInstances =
    (instance_flow opening (meant opening) [] ≡ Some (codes "m"))
    × (instance_flow opening (meant opening) ((codes "n", 1 ∷ []) ∷ []) ≡ Some (codes "s"))
    × (instance_flow opening (meant opening) ((codes "n", 1 ∷ []) ∷ (codes "u", []) ∷ []) ≡ None)
    × (instance_flow opening (meant opening) ((codes "n", 3 ∷ []) ∷ []) ≡ None)

-- the worked documents are of the form, and accepted
abbrev pub RowsAreAccepted : Type 0
RowsAreAccepted = (is_formed opening ≡ true) × IsAccepted opening × (is_formed gene_names ≡ true)
    × IsAccepted gene_names
