-- Of the flows that a step nests, the first.
use Rattle.std.specs.Prelude.{◌≡◌, List, [], ◌∷◌, Some}
use Rattle.std.proofs.Common.{ap, subst}
use Rattle.tv_value.specs.Activities.{Activity, nested, service}
use Rattle.tv_value.specs.Values.{Name}
use Rattle.tv_flow.specs.Flows.{Flow, Step}
use Rattle.tv_model.specs.Agreeing.{ActivitiesAgree, ActivitiesNest, ActivityAgrees}
use Rattle.tv_model.proofs.Results.{some_or}
use Rattle.tv_model.specs.Opening.{first_nested}

-- what holds of each flow that a step nests holds of the first
pub first-nests : (flows : List (Name × Flow)) (s : Step) (Q : Name → Type 0) (g : Name) (as' : List Activity) → first_nested as' ≡ Some g → ActivitiesAgree flows s as' → ActivitiesNest Q as' → ActivityAgrees flows s (nested g) × Q g
first-nests flows s Q g [] e a n = cc
first-nests flows s Q g (service m ∷ as') e a n = first-nests flows s Q g as' e a.1 n
first-nests flows s Q g (nested f ∷ as') e a n = subst (λ h. ActivityAgrees flows s (nested h) × Q h) (ap (some_or f) e) (a.0, n.0)
