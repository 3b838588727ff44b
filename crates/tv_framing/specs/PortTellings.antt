-- What the matcher of a step is told of one of its ports with an event, by places alone.
use Rattle.std.specs.Prelude.{ℕ, zero, suc, Bool, true, false, List, [], ◌∷◌, ◌++◌, if◌then◌else◌}
use Rattle.tv_value.specs.Nested.{Tree, leaf, list, Trees, no_trees, tree, Place, count}
use Rattle.tv_value.specs.Orders.{same_name}
use Rattle.tv_value.specs.Values.{Name, Scalar, Value, fault, text}
use Rattle.tv_flow.specs.Flows.{Feed, Link, constant, input, link, merge, output}
use Rattle.tv_strategy.specs.Origins.{Traced}
use Rattle.tv_matching.specs.Items.{Bound, Item, Stopped, if_so, item}
use Rattle.tv_matching.specs.Told.{Told, arrival, close, item_there, told_kind, told_place}
use Rattle.tv_model.specs.instance.Events as events
use Rattle.tv_framing.specs.Arriving.{levels_below}
use Rattle.tv_model.specs.instance.Counting.{whole_by}
use Rattle.tv_model.specs.instance.Events.{Event, Events, event_place, event_step, fault_set, gave, took}
use Rattle.tv_model.specs.instance.Wholeness.{is_new}

-- all that port p walks k levels of, from place q on: a value that a job gave, an input or a constant
abbrev mutual
  pub value_told : {N : Type 0} → Name → ℕ → Place → Tree N Scalar → List Told
  value_told p zero q w = arrival p q false ∷ []
  value_told p (suc k) q (leaf n (text t)) = []
  value_told p (suc k) q (leaf n (fault e)) = arrival p q true ∷ []
  value_told p (suc k) q (list n ts) = close p q (count ts) ∷ values_told p k q 0 ts

  pub values_told : {N : Type 0} → Name → ℕ → Place → ℕ → Trees N Scalar → List Told
  values_told p k q i no_trees = []
  values_told p k q i (tree t ts) = value_told p k (q ++ i ∷ []) t ++ values_told p k q (suc i) ts

-- port p walks k levels of an output; q is its place in the port's value and x in the step's iteration, and r leads from there to
-- the place of the event. w is what the job gave at this output, and `newly` says whether a place becomes whole
abbrev pub way_told : (Place → Bool) → Name → ℕ → Place → Place → Place → Event → Value → List Told
way_told newly p zero q x r e w = if_so (newly x) (arrival p q false)
way_told newly p (suc k) q x (i ∷ r) e w = way_told newly p k (q ++ i ∷ []) (x ++ i ∷ []) r e w
way_told newly p (suc k) q x [] (gave t y vs) w = value_told p (suc k) q w
way_told newly p (suc k) q x [] (events.closed t y n) w = close p q n ∷ []
way_told newly p (suc k) q x [] (fault_set t y d) w = arrival p q true ∷ []
way_told newly p (suc k) q x [] (took t y) w = []

-- an item below q, seen from the whole value
abbrev pub placed : Place → Item Bound Stopped → Item Bound Stopped
placed q y = item (q ++ y.place) y.kind

-- what was told, with the values that stand there
abbrev pub seen_told : (Name → Traced) → Told → Item Bound Stopped
seen_told values t = item_there values (item (told_place t) (told_kind t))

-- whether the node at x of a step's iteration of so many levels becomes whole with an event, by events alone
abbrev pub newly_by : Events → Event → Name → ℕ → Place → Bool
newly_by es e s levels x =
    is_new (whole_by es s (levels_below levels x) x) (whole_by (e ∷ es) s (levels_below levels x) x)

-- what port p is told with an event by a link that stands at q of its value; `given_at` is what the event's job gave at an output
module _ (newly : Place → Bool) (e : Event) (given_at : Name → Value) (p : Name) where
  abbrev pub link_told : ℕ → Place → Link → List Told
  link_told k q (input x) = []
  link_told k q (output s o) =
      if same_name s (event_step e) then way_told newly p k q [] (event_place e) e (given_at o)
      else []

  abbrev pub links_told : ℕ → ℕ → List Link → List Told
  links_told k i [] = []
  links_told k i (l ∷ ls) = link_told k (i ∷ []) l ++ links_told k (suc i) ls

  -- by its feed and its mismatch; `whole_now` says whether all that the feed delivers becomes known with the event
  abbrev pub port_told : Bool → ℕ → Feed → List Told
  port_told whole_now zero f = if_so whole_now (arrival p [] false)
  port_told whole_now (suc k) (link l) = link_told (suc k) [] l
  port_told whole_now (suc k) (merge ls) = links_told k 0 ls
  port_told whole_now (suc k) (constant v) = []
