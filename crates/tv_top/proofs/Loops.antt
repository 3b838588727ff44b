-- Loops in the code's steps and flows.
use Rattle.std.specs.Prelude.{◌≡◌, List, [], ◌∷◌, not, ◌&&◌, is_some, Option, Some, None, option_map, refl}
use Rattle.std.specs.List.{list_all}
use Rattle.std.proofs.Common.{ap, ◌∙◌}
use Rattle.tv_value.specs.Values.{Name}
use Rattle.tv_flow.specs.declared.document.Flow.{Flow}
use Rattle.tv_flow.specs.declared.document.Step.{Step}
use Rattle.tv_flow.specs.declared.document.Repeat.{Repeat}
use Rattle.tv_flow.specs.Views.{each, flow_view, repeat_view, step_view}
use Rattle.tv_top.specs.Built.{is_built_flow}

seen-loop : (o : Option Repeat) → is_some o ≡ is_some (option_map repeat_view o)
seen-loop None = refl
seen-loop (Some r) = refl

pub steps-built : (ss : List (Name × Step)) → list_all (λ s. not (is_some s.1.repeat)) ss ≡ list_all (λ s. not (is_some s.1.repeat)) (each step_view ss)
steps-built [] = refl
steps-built (s ∷ ss) =
    ap (λ b. not b && list_all (λ s. not (is_some s.1.repeat)) ss) (seen-loop s.1.repeat)
    ∙ ap (λ b. not (is_some (option_map repeat_view s.1.repeat)) && b) (steps-built ss)

pub flows-built : (fs : List (Name × Flow)) → list_all (λ f. is_built_flow (flow_view f.1)) fs ≡ list_all (λ f. is_built_flow f.1) (each flow_view fs)
flows-built [] = refl
flows-built (f ∷ fs) = ap (λ b. is_built_flow (flow_view f.1) && b) (flows-built fs)
