-- What a port gains with an event: the items of its walk whose sources are all known now, and weren't before.
use Rattle.std.specs.List.{list_all}
use Rattle.std.specs.Prelude.{◌≡◌, ℕ, zero, suc, pred, ◌+◌, Bool, true, List, [], ◌∷◌, ◌++◌, find, map}
use Rattle.std.specs.Option.{option_map_or}
use Rattle.tv_value.specs.Nested.{leaf, list, no_trees, tree, Place, count}
use Rattle.tv_value.specs.Orders.{named, same_name}
use Rattle.tv_value.specs.Values.{JobName, Name, Value}
use Rattle.tv_flow.specs.Flows.{Feed, Link, constant, input, link, merge, output}
use Rattle.tv_strategy.specs.Iterations.{Iteration, Iterations, job, passed, walk}
use Rattle.tv_strategy.specs.Origins.{Origin, from_job, traced}
use Rattle.tv_strategy.specs.Outputs.{output_below}
use Rattle.tv_model.specs.instance.Delivered.{Delivered}
use Rattle.tv_model.specs.instance.Steps.{spot}
use Rattle.tv_matching.specs.Items.{Bound, Item, Stopped, all_known, closes, end_kind, ends, here, if_so, known_items, passes, within}
use Rattle.tv_model.specs.instance.ByResults.{InstanceStep, Results, result_at}
use Rattle.tv_model.specs.instance.Wholeness.{is_new, is_whole}

-- all items, as of a value that becomes known at once
abbrev pub all_items : Iteration → List (Item Bound Stopped)
all_items t = known_items (λ o. true) t

-- known before and after
module _ (known after : Origin → Bool) where
  abbrev pub is_gained : List Origin → Bool
  is_gained s = is_new (all_known known s) (all_known after s)

  abbrev mutual
    pub gained_items : Iteration → List (Item Bound Stopped)
    gained_items (leaf s e) = if_so (is_gained s) (here (end_kind e))
    gained_items (list s ts) = if_so (is_gained s) (here (closes (count ts))) ++ gained_from 0 ts

    pub gained_from : ℕ → Iterations → List (Item Bound Stopped)
    gained_from i no_trees = []
    gained_from i (tree t ts) = map (within i) (gained_items t) ++ gained_from (suc i) ts

  -- port p walks k levels of an output of a step, from place q on; at r from here stands the node of the event.
  -- Above the last level that is walked: a list that was closed, a fault that was set, or all of the value that a job gave.
  -- At that level: the value, where its counters make it whole now.
  module _ (named : Place → JobName) (made : Place → Value) (declared : ℕ) (p : Name) where
    abbrev mutual
      pub on_way : Place → ℕ → ℕ → Iteration → Place → List (Item Bound Stopped)
      on_way q zero d t r =
          if_so (is_new (is_whole named known q t) (is_whole named after q t))
          (here (ends ((p, output_below named made declared q d t) ∷ [])))
      on_way q (suc k) d (leaf s (job b)) r = all_items
          (walk p (suc k) (traced (from_job (named q)) (made q)))
      on_way q (suc k) d (leaf s (passed m e)) r = here
          (passes (m, record e { depth = d + declared })) ∷ []
      on_way q (suc k) d (list s ts) [] = here (closes (count ts)) ∷ []
      on_way q (suc k) d (list s ts) (i ∷ r) = on_way_from q k (pred d) 0 ts i r

      -- the m-th of these items of the list at q, the first of which is item i
      pub on_way_from : Place → ℕ → ℕ → ℕ → Iterations → ℕ → Place → List (Item Bound Stopped)
      on_way_from q k d i no_trees m r = []
      on_way_from q k d i (tree t ts) zero r = map (within i) (on_way (q ++ i ∷ []) k d t r)
      on_way_from q k d i (tree t ts) (suc m) r = on_way_from q k d (suc i) ts m r

abbrev pub step_whole : JobName → (Origin → Bool) → InstanceStep → Bool
step_whole instance known f = is_whole (spot instance f.step.step) known [] f.step.iteration

-- whether all of what a link or a feed delivers is known: its steps are whole
module _ (instance : JobName) (known : Origin → Bool) (fs : List InstanceStep) where
  abbrev pub link_whole : Link → Bool
  link_whole (input x) = true
  link_whole (output s p) =
      option_map_or
      (λ (f : InstanceStep).
      option_map_or (λ d. step_whole instance known f) (named p f.step.outputs) true)
      (find (λ (f : InstanceStep). same_name s f.step.step) fs) true

  abbrev pub feed_whole : Feed → Bool
  feed_whole (link l) = link_whole l
  feed_whole (merge ls) = list_all link_whole ls
  feed_whole (constant v) = true

-- a value is an output of a step: its iteration, with what its jobs gave
abbrev pub IsOutputOf : JobName → Results → InstanceStep → Delivered → Type 0
IsOutputOf instance results f d =
    (k : ℕ) × (declared : ℕ) × (levels : ℕ)
    × (d.value ≡ output_below (spot instance f.step.step)
    (result_at results f.step.step k) declared [] levels f.step.iteration)
