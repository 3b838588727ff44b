-- Of each bound value it was told truly whether it holds a fault, whatever isn't told of the instance.
use Rattle.std.specs.Prelude.{◌≡◌, List}
use Rattle.tv_lemmas.specs.Members.{Each, In}
use Rattle.tv_value.specs.Values.{Name}
use Rattle.tv_strategy.specs.Origins.{Traced}
use Rattle.tv_matching.specs.Told.{TellsFaults, Told}
use Rattle.tv_model.specs.instance.ByResults.{InstanceStep}
use Rattle.tv_framing.specs.Insides.{Delivers}
use Rattle.tv_framing.specs.Views.{InAll, View}

-- these tellings of the step of that name are true of what its ports are delivered
abbrev pub TellsTruly : View → Name → List Told → Type 0
TellsTruly v s ts =
    InAll v (λ instance results fs. (f : InstanceStep) → In f fs → f.step.step ≡ s
    → (values : Name → Traced) → Delivers f values → Each (TellsFaults values) ts)
