-- Documents as JSON: every field of the document form, defaults included, but an absent strategy and an absent loop.
use Rattle.std.specs.Prelude.{ℕ, List, [], ◌∷◌, ◌++◌, map, codes, Option, Some, None}
use Rattle.serde_json.specs.Data.{Data, unsigned, number, string, array, object, Items, no_items, item, Members, no_members, put}
use Rattle.serde_json.specs.View.{items_of}
use Rattle.tv_value.specs.Values.{Text, Name}
use Rattle.tv_value.specs.Strategies.{Strategy, port, cross, dot, prefix, Strategies, no_strategies, strategy}
use Rattle.tv_value.specs.Activities.{Activity, Repeat, service, nested}
use Rattle.tv_value.specs.Printed.{members, json}
use Rattle.tv_flow.specs.Flows.{Link, input, output, Feed, link, merge, constant, StepInput, Step, Flow, Document}

abbrev pub number_json : ℕ → Data
number_json n = number (unsigned n)

abbrev pub array_json : {A : Type 0} → (A → Data) → List A → Data
array_json f xs = array (items_of (map f xs))

-- names with things put into an object, one after another
abbrev pub put_each : {A : Type 0} → (A → Data) → Members → List (Name × A) → Members
put_each f ms [] = ms
put_each f ms (e ∷ es) = put_each f (put e.0 (f e.1) ms) es

abbrev pub named_json : {A : Type 0} → (A → Data) → List (Name × A) → Data
named_json f es = object (put_each f no_members es)

-- an object of one member
abbrev pub only : Text → Data → Data
only k d = object (members ((k, d) ∷ []))

abbrev pub link_json : Link → Data
link_json (input n) = only (codes "input") (string n)
link_json (output s p) = object (members ((codes "port", string p) ∷ (codes "step", string s) ∷ []))

abbrev pub feed_json : Feed → Data
feed_json (link l) = link_json l
feed_json (merge ls) = only (codes "merge") (array_json link_json ls)
feed_json (constant v) = only (codes "constant") (json v)

abbrev pub step_input_json : StepInput → Data
step_input_json i =
    object (members ((codes "depth", number_json i.depth) ∷ (codes "from", feed_json i.from) ∷ []))

abbrev pub activity_json : Activity → Data
activity_json (service n) = only (codes "service") (string n)
activity_json (nested n) = only (codes "flow") (string n)

abbrev mutual
  pub tree_json : Strategy → Data
  tree_json (port n) = string n
  tree_json (cross ts) = only (codes "cross") (array (all_trees ts))
  tree_json (dot ts) = only (codes "dot") (array (all_trees ts))
  tree_json (prefix l r) = only (codes "prefix")
      (array (item (tree_json l) (item (tree_json r) no_items)))

  pub all_trees : Strategies → Items
  all_trees no_strategies = no_items
  all_trees (strategy t ts) = item (tree_json t) (all_trees ts)

-- a given strategy, which is the last member of a step
abbrev pub strategy_member : Option Strategy → List (Text × Data)
strategy_member None = []
strategy_member (Some t) = (codes "strategy", tree_json t) ∷ []

abbrev pub loop_json : Repeat → Data
loop_json r =
    object (members
    ((codes "most", number_json r.most)
    ∷ (codes "service", string r.service)
    ∷ (codes "until", string r.until)
    ∷ []))

-- a given loop, which stands in the middle of a step
abbrev pub loop_member : Option Repeat → List (Text × Data)
loop_member None = []
loop_member (Some r) = (codes "loop", loop_json r) ∷ []

-- the fields of a step before its loop, and those after it
abbrev pub early_members : Step → List (Text × Data)
early_members s =
    (codes "activities", array_json activity_json s.activities)
    ∷ (codes "after", array_json string s.after)
    ∷ (codes "inputs", named_json step_input_json s.inputs)
    ∷ (codes "jobs", number_json s.jobs)
    ∷ []

abbrev pub late_members : Step → List (Text × Data)
late_members s =
    (codes "outputs", named_json number_json s.outputs)
    ∷ (codes "retries", number_json s.retries)
    ∷ strategy_member s.strategy

abbrev pub step_json : Step → Data
step_json s = object (members (early_members s ++ (loop_member s.repeat ++ late_members s)))

abbrev pub flow_json : Flow → Data
flow_json f =
    object (members
    ((codes "inputs", named_json number_json f.inputs)
    ∷ (codes "outputs", named_json feed_json f.outputs)
    ∷ (codes "steps", named_json step_json f.steps)
    ∷ []))

abbrev pub document_json : Document → Data
document_json d =
    object (members
    ((codes "flows", named_json flow_json d.flows)
    ∷ (codes "inputs", named_json json d.inputs)
    ∷ (codes "main", string d.main)
    ∷ (codes "taverna", number_json d.format)
    ∷ []))
