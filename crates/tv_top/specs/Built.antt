-- What a run isn't built for yet: loops.
use Rattle.std.specs.Prelude.{Bool, true, false, not, ◌&&◌, is_some}
use Rattle.std.specs.List.{list_all}
use Rattle.tv_flow.specs.Flows.{Flow, Document}
use Rattle.tv_top.specs.Words.{Command, run, check, trace, lineage, forward, upgrade, gen}

-- no step has a loop
abbrev pub is_built_flow : Flow → Bool
is_built_flow f = list_all (λ s. not (is_some s.1.repeat)) f.steps

abbrev pub is_built : Document → Bool
is_built d = list_all (λ f. is_built_flow f.1) d.flows

-- a command that runs the document that it reads
abbrev pub runs : Command → Bool
runs run = true
runs check = false
runs trace = true
runs (lineage p q) = true
runs (forward p q) = true
runs upgrade = false
runs (gen n) = false

-- it runs one that a run isn't built for
abbrev pub is_unbuilt : Command → Document → Bool
is_unbuilt command d = runs command && not (is_built d)
