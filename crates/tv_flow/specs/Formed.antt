-- What every document that was read keeps: kinds, ranges, numbers of entries, and the byte order of names.
use Rattle.std.specs.Prelude.{ℕ, suc, List, [], ◌∷◌, length, map, Bool, true, ◌&&◌, nat_le, nat_lt, not, Option, Some, None, is_some}
use Rattle.std.specs.List.{list_all}
use Rattle.std.specs.Ordering.{is_lt}
use Rattle.tv_value.specs.Nested.{leaf, list, Trees, no_trees, tree, count}
use Rattle.tv_value.specs.Values.{Name, Value, Scalar, is_fault}
use Rattle.tv_value.specs.DepthSets.{least_depth}
use Rattle.tv_value.specs.Readings.{length_limit}
use Rattle.tv_value.specs.Orders.{name_cmp}
use Rattle.tv_value.specs.Strategies.{Strategy, port, cross, dot, prefix, Strategies, no_strategies, strategy}
use Rattle.tv_value.specs.Activities.{Activity, Repeat, service, nested}
use Rattle.tv_flow.specs.Forms.{is_name, is_second}
use Rattle.tv_flow.specs.Flows.{Link, input, output, Feed, link, merge, constant, StepInput, Step, Flow, Document}

-- in byte order, each once
abbrev pub is_ascending : List Name → Bool
is_ascending [] = true
is_ascending (n ∷ ns) = list_all (λ m. is_lt (name_cmp n m)) ns && is_ascending ns

abbrev pub is_between : ℕ → ℕ → ℕ → Bool
is_between least most n = nat_le least n && nat_le n most

abbrev pub is_depth : ℕ → Bool
is_depth = is_between 0 32

-- names in byte order, each with a thing that passes a test
abbrev pub are_entries : {A : Type 0} → (A → Bool) → List (Name × A) → Bool
are_entries test es = is_ascending (map (λ e. e.0) es) && list_all (λ e. is_name e.0 && test e.1) es

-- the same, so many
abbrev pub are_named : {A : Type 0} → (A → Bool) → ℕ → ℕ → List (Name × A) → Bool
are_named test least most es = is_between least most (length es) && are_entries test es

abbrev pub are_listed : {A : Type 0} → (A → Bool) → ℕ → ℕ → List A → Bool
are_listed test least most xs = is_between least most (length xs) && list_all test xs

-- a value without faults, of which each list has a depth and fewer items than the limit
abbrev mutual
  pub is_value : Value → Bool
  is_value (leaf n a) = not (is_fault a)
  is_value (list n vs) = nat_lt (count vs) length_limit && is_some (least_depth (list n vs))
      && are_values vs

  pub are_values : Trees (Unit {0}) Scalar → Bool
  are_values no_trees = true
  are_values (tree v vs) = is_value v && are_values vs

abbrev pub is_link : Link → Bool
is_link (input n) = is_name n
is_link (output s p) = is_name s && is_name p

abbrev pub is_feed : Feed → Bool
is_feed (link l) = is_link l
is_feed (merge ls) = are_listed is_link 1 16 ls
is_feed (constant v) = is_value v

abbrev pub strategy_count : Strategies → ℕ
strategy_count no_strategies = 0
strategy_count (strategy t ts) = suc (strategy_count ts)

abbrev mutual
  pub is_tree : Strategy → Bool
  is_tree (port n) = is_name n
  is_tree (cross ts) = is_between 1 16 (strategy_count ts) && are_trees ts
  is_tree (dot ts) = is_between 1 16 (strategy_count ts) && are_trees ts
  is_tree (prefix l r) = is_tree l && is_tree r

  pub are_trees : Strategies → Bool
  are_trees no_strategies = true
  are_trees (strategy t ts) = is_tree t && are_trees ts

abbrev pub is_given_tree : Option Strategy → Bool
is_given_tree None = true
is_given_tree (Some t) = is_tree t

abbrev pub is_activity : Activity → Bool
is_activity (service n) = is_name n
is_activity (nested n) = is_name n

abbrev pub is_step_input : StepInput → Bool
is_step_input i = is_depth i.depth && is_feed i.from

-- names in byte order, each once, at most 16
abbrev pub are_names : List Name → Bool
are_names ns = nat_le (length ns) 16 && is_ascending ns && list_all is_name ns

abbrev pub is_repeat : Repeat → Bool
is_repeat r = is_name r.service && is_between 1 100 r.most

abbrev pub is_given_loop : Option Repeat → Bool
is_given_loop None = true
is_given_loop (Some r) = is_repeat r

abbrev pub is_step : Step → Bool
is_step s =
    are_named is_step_input 0 16 s.inputs && are_named is_depth 0 16 s.outputs
    && is_given_tree s.strategy && are_listed is_activity 1 8 s.activities
    && is_between 0 100 s.retries && is_between 1 64 s.jobs && are_names s.after
    && is_given_loop s.repeat

abbrev pub is_flow : Flow → Bool
is_flow f = are_named is_depth 0 16 f.inputs && are_named is_step 0 1000 f.steps
    && are_named is_feed 0 16 f.outputs

-- ---- formats: the second alone has prefix nodes and loops

abbrev mutual
  pub tree_fits : ℕ → Strategy → Bool
  tree_fits format (port n) = true
  tree_fits format (cross ts) = trees_fit format ts
  tree_fits format (dot ts) = trees_fit format ts
  tree_fits format (prefix l r) = is_second format && tree_fits format l && tree_fits format r

  pub trees_fit : ℕ → Strategies → Bool
  trees_fit format no_strategies = true
  trees_fit format (strategy t ts) = tree_fits format t && trees_fit format ts

abbrev pub given_tree_fits : ℕ → Option Strategy → Bool
given_tree_fits format None = true
given_tree_fits format (Some t) = tree_fits format t

abbrev pub loop_fits : ℕ → Option Repeat → Bool
loop_fits format None = true
loop_fits format (Some r) = is_second format

abbrev pub step_fits : ℕ → Step → Bool
step_fits format s = given_tree_fits format s.strategy && loop_fits format s.repeat

abbrev pub flow_fits : ℕ → Flow → Bool
flow_fits format f = list_all (λ s. step_fits format s.1) f.steps

-- a format that there is, and flows with nothing that it hasn't
abbrev pub are_of_format : ℕ → List (Name × Flow) → Bool
are_of_format format fs = is_between 1 2 format && list_all (λ f. flow_fits format f.1) fs

-- all but the number of its own inputs, which a document may have more of
abbrev pub is_formed : Document → Bool
is_formed d = are_of_format d.format d.flows && is_name d.main && are_named is_flow 1 256 d.flows
    && are_entries is_value d.inputs
