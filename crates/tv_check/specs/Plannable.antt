-- A document that was checked, of which the plans are to be made.
use Rattle.std.specs.Prelude.{◌≡◌, ℕ, List, map, length, ◌==◌, Bool, true, Vec, Option, is_some}
use Rattle.std.specs.Global.{Global}
use Rattle.std.specs.List.{list_all}
use Rattle.tv_value.specs.Values.{Name}
use Rattle.tv_flow.specs.Flows.{Flow, Document}
use Rattle.tv_flow.specs.Formed.{is_flow, is_formed}
use Rattle.tv_model.specs.instance.Ranks.{ranked}
use Rattle.tv_naming.specs.Naming.{has_name}
use Rattle.tv_check.specs.Plans.{IsAccepted}
use Rattle.tv_check.specs.PlanViews.{IsOfDocument}
use Rattle.tv_check.specs.RankNumbers.{numbers_by_rank}
use Rattle.tv_check.specs.Measured.{IsWorked, AreWorked}
use Rattle.tv_check.specs.declared.measured.Measured.{Measured}

-- for each flow the numbers of its steps, by rank
abbrev pub AreByRank : List (Name × Flow) → List (Vec ℕ Global) → Type 0
AreByRank fs os = map (λ (o : Vec ℕ Global). o.items) os ≡ map (λ f. numbers_by_rank f.1.steps) fs

-- whether every step of a flow has a rank
abbrev pub is_ranked : Flow → Bool
is_ranked f = length (ranked f.steps) == length f.steps

-- a flow of it, with the numbers of its steps by rank and what was measured
pub record IsToPlan (f : Flow) (order : List ℕ) (w : Option Measured) : Type 0 where
  pub formed : is_flow f ≡ true
  pub whole : is_ranked f ≡ true
  pub order_is : order ≡ numbers_by_rank f.steps
  pub worked : IsWorked f w
  pub measured : is_some w ≡ true
  pub accepted : IsOfDocument f

pub record IsPlannable (d : Document) (orders : List (Vec ℕ Global))
    (ws : List (Option Measured)) : Type 0 where
  pub formed : is_formed d ≡ true
  pub accepted : IsAccepted d
  pub main_there : has_name d.flows d.main ≡ true
  pub whole : list_all (λ f. is_ranked f.1) d.flows ≡ true
  pub orders_are : AreByRank d.flows orders
  pub worked : AreWorked d.flows ws
  pub measured : list_all is_some ws ≡ true
