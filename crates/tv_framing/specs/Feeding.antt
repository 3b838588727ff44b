-- What has to be so of a port's feed for its tellings with an event to be what it gains: what each link delivers, and what is known
-- of the event.
use Rattle.std.specs.Prelude.{◌≡◌, ◌⊎◌, ℕ, zero, suc, ◌+◌, Bool, true, false, List, [], ◌∷◌, Some, map}
use Rattle.tv_value.specs.Nested.{Place, Trees, at, no_trees, notes, tree, trees_of}
use Rattle.tv_value.specs.Orders.{same_name}
use Rattle.tv_value.specs.Values.{HasDepth, JobName, Name, Scalar, Value}
use Rattle.tv_flow.specs.Flows.{Feed, Link, constant, input, link, merge, output}
use Rattle.tv_strategy.specs.Levels.{HasLevels}
use Rattle.tv_strategy.specs.Origins.{Origin, Traced}
use Rattle.tv_strategy.specs.Sources.{AtNodes}
use Rattle.tv_model.specs.instance.Delivered.{Delivered, merged}
use Rattle.tv_matching.specs.Items.{all_known}
use Rattle.tv_model.specs.instance.ByResults.{InstanceStep, Results, result_at}
use Rattle.tv_model.specs.instance.Events as events
use Rattle.tv_model.specs.instance.Events.{Event, Events, event_place, event_step, fault_set, gave, known_by, took}
use Rattle.tv_model.specs.instance.Fitting.{FitStep}
use Rattle.tv_model.specs.instance.Wholeness.{is_new}
use Rattle.tv_framing.specs.instances.InHistory.{Finds}
use Rattle.tv_framing.specs.Arriving.{levels_below}
use Rattle.tv_framing.specs.Gaining.{IsOutputOf}
use Rattle.tv_framing.specs.PortTellings.{newly_by}

-- the event is that a job gave w, where the results have w for it, or it is of no job
abbrev pub GaveThis : Value → (Place → Value) → Event → Place → Type 0
GaveThis w made (gave t y vs) x = w ≡ made x
GaveThis w made (events.closed t y n) x = Unit {0}
GaveThis w made (fault_set t y d) x = Unit {0}
GaveThis w made (took t y) x = ⊥

-- where k levels of it are walked, w has these and the port's declared depth c
abbrev pub HasDepthLeft : Value → ℕ → Event → ℕ → Type 0
HasDepthLeft w c (gave t y vs) k = HasDepth w (k + c)
HasDepthLeft w c (events.closed t y n) k = Unit {0}
HasDepthLeft w c (fault_set t y d) k = Unit {0}
HasDepthLeft w c (took t y) k = Unit {0}

-- whether it is known stays the same with the event
abbrev pub StaysKnown : JobName → Event → Events → Origin → Type 0
StaysKnown instance e es o = known_by instance (e ∷ es) o ≡ known_by instance es o

-- v is an output of step s, which isn't the event's
pub record IsFedByOther (instance : JobName) (results : Results) (e : Event) (v : Traced)
    (s : Name) : Type 0 where
  pub elsewhere : same_name s (event_step e) ≡ false
  pub step : InstanceStep
  pub name : step.step.step ≡ s
  pub delivered : Delivered
  pub output : IsOutputOf instance results step delivered
  pub value : v ≡ delivered.value

-- port p takes v whole, and `whole_now` says whether all of it becomes known
pub record IsTakenWhole (instance : JobName) (e : Event) (es : Events) (values : Name → Traced)
    (p : Name) (whole_now : Bool) (v : Traced) : Type 0 where
  pub stands : at (values p) [] ≡ Some v
  pub now : whole_now ≡ is_new (all_known (known_by instance es) (notes v))
      (all_known (known_by instance (e ∷ es)) (notes v))

-- `newly` tells which places of the event's step become whole, `given_at` what its job gave at an output
module _ (instance : JobName) (results : Results) (fs : List InstanceStep) (e : Event) (es : Events)
    (values : Name → Traced) (p : Name) (newly : Place → Bool) (given_at : Name → Value) where
  -- v is output o of step s, which is the event's; it stands at q of the port's value, and k of its levels are walked
  pub record IsFedByEvent (k : ℕ) (q : Place) (v : Traced) (s o : Name) : Type 0 where
    pub here : same_name s (event_step e) ≡ true
    pub step : InstanceStep
    pub name : step.step.step ≡ s
    pub self : Finds fs step
    pub fit : FitStep step es
    pub levels : ℕ
    pub leveled : HasLevels step.step.iteration levels
    pub counted : newly ≡ newly_by es e step.step.step levels
    pub delivered : Delivered
    pub output : IsOutputOf instance results step delivered
    pub value : v ≡ delivered.value
    pub stands : at (values p) q ≡ Some v
    pub declared : ℕ
    pub gave : GaveThis (given_at o) (result_at results step.step.step output.0) e (event_place e)
    pub depth : HasDepthLeft (given_at o) declared e (levels_below k (event_place e))

  abbrev pub IsLinkFed : ℕ → Place → Traced → Link → Type 0
  IsLinkFed k q v (input x) = AtNodes (StaysKnown instance e es) v
  IsLinkFed k q v (output s o) = IsFedByOther instance results e v s ⊎ IsFedByEvent k q v s o

  -- each of these values is delivered by its link, at indices from i on
  abbrev pub AreLinksFed : ℕ → ℕ → Trees Origin Scalar → List Link → Type 0
  AreLinksFed k i no_trees [] = Unit {0}
  AreLinksFed k i no_trees (l ∷ ls) = ⊥
  AreLinksFed k i (tree v vs) [] = ⊥
  AreLinksFed k i (tree v vs) (l ∷ ls) = IsLinkFed k (i ∷ []) v l × AreLinksFed k (suc i) vs ls

  -- v is the list of the values that the links of a merge deliver
  pub record IsMerged (k : ℕ) (v : Traced) (ls : List Link) : Type 0 where
    pub first : Delivered
    pub rest : List Delivered
    pub value : v ≡ (merged (first ∷ rest)).value
    pub links : AreLinksFed k 0 (trees_of (map (λ (x : Delivered). x.value) (first ∷ rest))) ls

  -- a port that walks so many levels is fed with v by this feed
  abbrev pub IsPortFed : Bool → ℕ → Traced → Feed → Type 0
  IsPortFed whole_now zero v f = IsTakenWhole instance e es values p whole_now v
  IsPortFed whole_now (suc k) v (link l) = IsLinkFed (suc k) [] v l
  IsPortFed whole_now (suc k) v (merge []) = AtNodes (StaysKnown instance e es) v
  IsPortFed whole_now (suc k) v (merge (l ∷ ls)) = IsMerged k v (l ∷ ls)
  IsPortFed whole_now (suc k) v (constant c) = AtNodes (StaysKnown instance e es) v
