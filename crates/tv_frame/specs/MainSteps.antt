-- The steps of the main instance of a meaning.
use Rattle.std.specs.Prelude.{List, filter}
use Rattle.tv_model.specs.instance.Delivered.{StepMeaning}
use Rattle.tv_model.specs.Lineages.{is_outermost}
use Rattle.tv_model.specs.Made.{Meaning}

abbrev pub main_steps : Meaning → List StepMeaning
main_steps m = filter (λ s. is_outermost s.instance) m.steps
