-- What is noted of a meaning: a record of each job, and the leaves of its outputs.
use Rattle.std.specs.Prelude.{List, None, Option, Some, filter_map, flat_map, map, option_and_then}
use Rattle.tv_value.specs.Nested.{Place, at, leaf, list, nodes}
use Rattle.tv_value.specs.Orders.{named}
use Rattle.tv_value.specs.Values.{Name}
use Rattle.tv_lineage.specs.Touching as marks
use Rattle.tv_lineage.specs.Lineages.{Leaf, Record}
use Rattle.tv_strategy.specs.Origins.{Mark, Traced, given, made}
use Rattle.tv_model.specs.Jobs.{Job}
use Rattle.tv_model.specs.Lineages.{main_jobs, used}
use Rattle.tv_model.specs.Made.{Meaning}

-- the same mark, as records have it
abbrev pub mark_of : Mark → marks.Mark
mark_of (given x q) = marks.given x q
mark_of (made n) = marks.made n

abbrev pub marks_of : Traced → List marks.Mark
marks_of v = map mark_of (used v)

abbrev pub record_of : Job → Record
record_of j = record { job = j.name; used = map mark_of (flat_map used j.inputs) }

-- of all jobs, also those of flows that jobs open
abbrev pub records : Meaning → List Record
records m = map record_of m.jobs

abbrev pub main_records : Meaning → List Record
main_records m = map record_of (main_jobs m)

-- what stands in an output
abbrev pub output_at : Meaning → Name → Place → Option Traced
output_at m p q = option_and_then (λ v. at v q) (named p m.outputs)

abbrev pub leaf_of : Name → Place × Traced → Option Leaf
leaf_of p (r, leaf o a) = Some (record { port = p; place = r; used = marks_of (leaf o a) })
leaf_of p (r, list o ts) = None

-- the leaves of the outputs, ports in order, then places
abbrev pub leaves : Meaning → List Leaf
leaves m = flat_map (λ o. filter_map (leaf_of o.0) (nodes o.1)) m.outputs
