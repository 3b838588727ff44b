-- What the matcher of a step was told: of each port what is known of its walk, whatever isn't told of the instance.
use Rattle.std.specs.Prelude.{◌≡◌, List, map, IsPermutation}
use Rattle.tv_lemmas.specs.Members.{Each, In}
use Rattle.tv_value.specs.Values.{JobName, Name}
use Rattle.tv_strategy.specs.Iterations.{walk}
use Rattle.tv_strategy.specs.Origins.{Traced}
use Rattle.tv_model.specs.instance.Delivered.{Ported}
use Rattle.tv_matching.specs.Items.{known_items}
use Rattle.tv_matching.specs.Told.{Told, item_there, told_to}
use Rattle.tv_model.specs.instance.ByResults.{InstanceStep}
use Rattle.tv_model.specs.instance.Events.{Events, known_by}
use Rattle.tv_framing.specs.Views.{InAll, View}

-- what a port was told by these tellings are the items of its walk that are known, seen with the port's value
abbrev pub PortIsTold : JobName → Events → List Told → Name × Ported → Type 0
PortIsTold instance es ts d =
    (values : Name → Traced) → values d.0 ≡ d.1.value
    → IsPermutation (map (item_there values) (told_to ts d.0))
    (known_items (known_by instance es) (walk d.0 d.1.mismatch d.1.value))

-- so it is of each port of the step of that name
abbrev pub StepIsTold : View → Name → List Told → Type 0
StepIsTold v s ts =
    InAll v (λ instance results fs. (f : InstanceStep) → In f fs → f.step.step ≡ s
    → Each (PortIsTold instance v.events ts) f.step.inputs)
