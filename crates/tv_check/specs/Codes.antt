-- Codes of documents and plans, by which equal ones are equal in one way: each of them as tuples and lists of others.
use Rattle.std.specs.Prelude.{◌≡◌, ◌⊎◌, ℕ, zero, suc, List, [], ◌∷◌, Bool, true, false, Option, refl}
use Rattle.std.specs.Coded.{Coded, code_by, coded×, coded⊎, coded_ℕ, coded_list, coded_option}
use Rattle.std.proofs.Common.{◌∙◌, ap, inl, inr}
use base.Stored.{coded_unit}
use Rattle.tv_value.specs.Nested.{Tree, leaf, list, Trees, no_trees, tree, count}
use Rattle.tv_value.specs.Values.{Name, ErrorDoc, JobName, Text, Scalar, text, fault, Value}
use Rattle.tv_value.specs.Strategies.{Strategy, port, cross, dot, prefix, Strategies, no_strategies, strategy}
use Rattle.tv_value.specs.Activities.{Activity, Repeat, service, nested}
use Rattle.tv_flow.specs.Flows.{Link, input, output, Feed, link, merge, constant, StepInput, Step, Flow}
use Rattle.tv_check.specs.WireCodes.{coded_wiring}
use Rattle.tv_check.specs.declared.wiring.Wiring.{Wiring}
use Rattle.tv_check.specs.Plans as plan

-- ---- trees: each node in the order of reading, a list with the number of its items

module _ {N A : Type 0} where
  abbrev mutual
    pub spelled : Tree N A → List ((N × A) ⊎ (N × ℕ)) → List ((N × A) ⊎ (N × ℕ))
    spelled (leaf n a) rest = inl (n, a) ∷ rest
    spelled (list n ts) rest = inr (n, count ts) ∷ all_spelled ts rest

    pub all_spelled : Trees N A → List ((N × A) ⊎ (N × ℕ)) → List ((N × A) ⊎ (N × ℕ))
    all_spelled no_trees rest = rest
    all_spelled (tree t ts) rest = spelled t (all_spelled ts rest)

  -- the first so many trees, and the others
  abbrev pub front : ℕ → Trees N A → Trees N A
  front zero ts = no_trees
  front (suc k) no_trees = no_trees
  front (suc k) (tree t ts) = tree t (front k ts)

  abbrev pub back : ℕ → Trees N A → Trees N A
  back zero ts = ts
  back (suc k) no_trees = no_trees
  back (suc k) (tree t ts) = back k ts

  abbrev pub joined : Trees N A → Trees N A → Trees N A
  joined no_trees us = us
  joined (tree t ts) us = tree t (joined ts us)

  abbrev pub read_trees : List ((N × A) ⊎ (N × ℕ)) → Trees N A
  read_trees [] = no_trees
  read_trees (inl (n, a) ∷ rest) = tree (leaf n a) (read_trees rest)
  read_trees (inr (n, k) ∷ rest) = tree (list n (front k (read_trees rest)))
      (back k (read_trees rest))

  front-joined : (ts us : Trees N A) → front (count ts) (joined ts us) ≡ ts
  front-joined no_trees us = refl
  front-joined (tree t ts) us = ap (tree t) (front-joined ts us)

  back-joined : (ts us : Trees N A) → back (count ts) (joined ts us) ≡ us
  back-joined no_trees us = refl
  back-joined (tree t ts) us = back-joined ts us

  joined-none : (ts : Trees N A) → joined ts no_trees ≡ ts
  joined-none no_trees = refl
  joined-none (tree t ts) = ap (tree t) (joined-none ts)

  mutual
    read-spelled : (t : Tree N A) (rest : List ((N × A) ⊎ (N × ℕ)))
        → read_trees (spelled t rest) ≡ tree t (read_trees rest)
    read-spelled (leaf n a) rest = refl
    read-spelled (list n ts) rest =
        ap (λ us. tree (list n (front (count ts) us)) (back (count ts) us))
        (read-all_spelled ts rest)
        ∙ ap (λ us. tree (list n us) (back (count ts) (joined ts (read_trees rest))))
        (front-joined ts (read_trees rest))
        ∙ ap (λ us. tree (list n ts) us) (back-joined ts (read_trees rest))

    read-all_spelled : (ts : Trees N A) (rest : List ((N × A) ⊎ (N × ℕ)))
        → read_trees (all_spelled ts rest) ≡ joined ts (read_trees rest)
    read-all_spelled no_trees rest = refl
    read-all_spelled (tree t ts) rest = read-spelled t (all_spelled ts rest) ∙ ap (tree t)
        (read-all_spelled ts rest)

  pub read-back : (ts : Trees N A) → read_trees (all_spelled ts []) ≡ ts
  read-back ts = read-all_spelled ts [] ∙ joined-none ts

  abbrev pub coded_trees : Coded N → Coded A → Coded (Trees N A)
  coded_trees n a = code_by (List ((N × A) ⊎ (N × ℕ)))
      (coded_list (coded⊎ (coded× n a) (coded× n coded_ℕ)))
      (λ ts. all_spelled ts []) read_trees read-back

  abbrev pub of_tree : Tree N A → (N × A) ⊎ (N × Trees N A)
  of_tree (leaf n a) = inl (n, a)
  of_tree (list n ts) = inr (n, ts)

  abbrev pub to_tree : (N × A) ⊎ (N × Trees N A) → Tree N A
  to_tree (inl (n, a)) = leaf n a
  to_tree (inr (n, ts)) = list n ts

  pub to-of_tree : (t : Tree N A) → to_tree (of_tree t) ≡ t
  to-of_tree (leaf n a) = refl
  to-of_tree (list n ts) = refl

  abbrev pub coded_tree : Coded N → Coded A → Coded (Tree N A)
  coded_tree n a = code_by ((N × A) ⊎ (N × Trees N A))
      (coded⊎ (coded× n a) (coded× n (coded_trees n a))) of_tree to_tree to-of_tree

-- ---- values

abbrev pub coded_name : Coded Name
coded_name = coded_list coded_ℕ

-- things with names
abbrev pub coded_named : {A : Type 0} → Coded A → Coded (List (Name × A))
coded_named a = coded_list (coded× coded_name a)

abbrev pub coded_error : Coded ErrorDoc
coded_error =
    code_by (JobName × (ℕ × (Text × List JobName)))
    (coded× (coded_named coded_name)
    (coded× coded_ℕ (coded× coded_name (coded_list (coded_named coded_name)))))
    (λ e. (e.at, (e.depth, (e.why, e.from))))
    (λ p. record { at = p.0; depth = p.1.0; why = p.1.1.0; from = p.1.1.1 }) (λ _. refl)

abbrev pub of_scalar : Scalar → Text ⊎ ErrorDoc
of_scalar (text t) = inl t
of_scalar (fault e) = inr e

abbrev pub to_scalar : Text ⊎ ErrorDoc → Scalar
to_scalar (inl t) = text t
to_scalar (inr e) = fault e

pub to-of_scalar : (a : Scalar) → to_scalar (of_scalar a) ≡ a
to-of_scalar (text t) = refl
to-of_scalar (fault e) = refl

abbrev pub coded_value : Coded Value
coded_value = coded_tree coded_unit (code_by (Text ⊎ ErrorDoc)
    (coded⊎ coded_name coded_error) of_scalar to_scalar to-of_scalar)

-- ---- strategies, as trees whose lists are crosses, dots or the two of a prefix node

abbrev mutual
  pub of_strategy : Strategy → Tree ℕ Name
  of_strategy (port p) = leaf 0 p
  of_strategy (cross ss) = list 0 (of_strategies ss)
  of_strategy (dot ss) = list 1 (of_strategies ss)
  of_strategy (prefix l r) = list 2 (tree (of_strategy l) (tree (of_strategy r) no_trees))

  pub of_strategies : Strategies → Trees ℕ Name
  of_strategies no_strategies = no_trees
  of_strategies (strategy s ss) = tree (of_strategy s) (of_strategies ss)

-- lists of other lengths stand for no strategy
abbrev pub to_prefix : Strategies → Strategy
to_prefix no_strategies = cross no_strategies
to_prefix (strategy l no_strategies) = l
to_prefix (strategy l (strategy r ss)) = prefix l r

abbrev mutual
  pub to_strategy : Tree ℕ Name → Strategy
  to_strategy (leaf k p) = port p
  to_strategy (list zero ts) = cross (to_strategies ts)
  to_strategy (list (suc zero) ts) = dot (to_strategies ts)
  to_strategy (list (suc (suc k)) ts) = to_prefix (to_strategies ts)

  pub to_strategies : Trees ℕ Name → Strategies
  to_strategies no_trees = no_strategies
  to_strategies (tree t ts) = strategy (to_strategy t) (to_strategies ts)

mutual
  pub to-of_strategy : (s : Strategy) → to_strategy (of_strategy s) ≡ s
  to-of_strategy (port p) = refl
  to-of_strategy (cross ss) = ap cross (to-of_strategies ss)
  to-of_strategy (dot ss) = ap dot (to-of_strategies ss)
  to-of_strategy (prefix l r) = ap (λ s. prefix s (to_strategy (of_strategy r)))
      (to-of_strategy l) ∙ ap (prefix l) (to-of_strategy r)

  pub to-of_strategies : (ss : Strategies) → to_strategies (of_strategies ss) ≡ ss
  to-of_strategies no_strategies = refl
  to-of_strategies (strategy s ss) = ap (λ t. strategy t (to_strategies (of_strategies ss)))
      (to-of_strategy s) ∙ ap (strategy s) (to-of_strategies ss)

abbrev pub coded_strategy : Coded Strategy
coded_strategy = code_by (Tree ℕ Name)
    (coded_tree coded_ℕ coded_name) of_strategy to_strategy to-of_strategy

-- ---- documents

abbrev pub of_link : Link → Name ⊎ (Name × Name)
of_link (input n) = inl n
of_link (output s p) = inr (s, p)

abbrev pub to_link : Name ⊎ (Name × Name) → Link
to_link (inl n) = input n
to_link (inr (s, p)) = output s p

pub to-of_link : (l : Link) → to_link (of_link l) ≡ l
to-of_link (input n) = refl
to-of_link (output s p) = refl

abbrev pub coded_link : Coded Link
coded_link = code_by (Name ⊎ (Name × Name))
    (coded⊎ coded_name (coded× coded_name coded_name)) of_link to_link to-of_link

abbrev pub of_feed : Feed → Link ⊎ (List Link ⊎ Value)
of_feed (link l) = inl l
of_feed (merge ls) = inr (inl ls)
of_feed (constant v) = inr (inr v)

abbrev pub to_feed : Link ⊎ (List Link ⊎ Value) → Feed
to_feed (inl l) = link l
to_feed (inr (inl ls)) = merge ls
to_feed (inr (inr v)) = constant v

pub to-of_feed : (f : Feed) → to_feed (of_feed f) ≡ f
to-of_feed (link l) = refl
to-of_feed (merge ls) = refl
to-of_feed (constant v) = refl

abbrev pub coded_feed : Coded Feed
coded_feed = code_by (Link ⊎ (List Link ⊎ Value))
    (coded⊎ coded_link (coded⊎ (coded_list coded_link) coded_value)) of_feed to_feed to-of_feed

abbrev pub coded_step_input : Coded StepInput
coded_step_input = code_by (ℕ × Feed) (coded× coded_ℕ coded_feed) (λ i. (i.depth, i.from))
    (λ p. record { depth = p.0; from = p.1 }) (λ _. refl)

abbrev pub of_activity : Activity → Name ⊎ Name
of_activity (service n) = inl n
of_activity (nested n) = inr n

abbrev pub to_activity : Name ⊎ Name → Activity
to_activity (inl n) = service n
to_activity (inr n) = nested n

pub to-of_activity : (a : Activity) → to_activity (of_activity a) ≡ a
to-of_activity (service n) = refl
to-of_activity (nested n) = refl

abbrev pub coded_activity : Coded Activity
coded_activity = code_by (Name ⊎ Name)
    (coded⊎ coded_name coded_name) of_activity to_activity to-of_activity

abbrev pub coded_repeat : Coded Repeat
coded_repeat = code_by (Name × (Text × ℕ)) (coded× coded_name (coded× coded_name coded_ℕ))
    (λ r. (r.service, (r.until, r.most)))
    (λ p. record { service = p.0; until = p.1.0; most = p.1.1 }) (λ _. refl)

abbrev pub coded_step : Coded Step
coded_step =
    code_by (List (Name × StepInput)
    × (List (Name × ℕ) × (Option Strategy × (List Activity × (ℕ × (ℕ
    × (List Name × Option Repeat)))))))
    (coded× (coded_named coded_step_input)
    (coded× (coded_named coded_ℕ)
    (coded× (coded_option coded_strategy)
    (coded× (coded_list coded_activity)
    (coded× coded_ℕ (coded× coded_ℕ (coded× (coded_list coded_name)
    (coded_option coded_repeat))))))))
    (λ s. (
      s.inputs,
      (
        s.outputs,
        (
          s.strategy,
          (
            s.activities,
            (
              s.retries,
              (
                s.jobs,
                (s.after, s.repeat),
              ),
            ),
          ),
        ),
      ),
    ))
    (λ p. record {
      inputs = p.0;
      outputs = p.1.0;
      strategy = p.1.1.0;
      activities = p.1.1.1.0;
      retries = p.1.1.1.1.0;
      jobs = p.1.1.1.1.1.0;
      after = p.1.1.1.1.1.1.0;
      repeat = p.1.1.1.1.1.1.1;
    })
    (λ _. refl)

abbrev pub coded_flow : Coded Flow
coded_flow =
    code_by (List (Name × ℕ) × (List (Name × Step) × List (Name × Feed)))
    (coded× (coded_named coded_ℕ) (coded× (coded_named coded_step) (coded_named coded_feed)))
    (λ f. (f.inputs, (f.steps, f.outputs)))
    (λ p. record { inputs = p.0; steps = p.1.0; outputs = p.1.1 }) (λ _. refl)

-- ---- plans

abbrev pub coded_step_plan : Coded plan.StepPlan
coded_step_plan =
    code_by (ℕ × (Strategy × (ℕ × (List (Name × ℕ) × List (Name × ℕ)))))
    (coded× coded_ℕ
    (coded× coded_strategy
    (coded× coded_ℕ (coded× (coded_named coded_ℕ) (coded_named coded_ℕ)))))
    (λ s. (s.rank, (s.tree, (s.depth, (s.delivered, s.mismatch)))))
    (λ p. record {
      rank = p.0;
      tree = p.1.0;
      depth = p.1.1.0;
      delivered = p.1.1.1.0;
      mismatch = p.1.1.1.1;
    })
    (λ _. refl)

abbrev pub coded_flow_plan : Coded plan.FlowPlan
coded_flow_plan =
    code_by (Flow × (List plan.StepPlan × (List (Name × ℕ) × Wiring)))
    (coded× coded_flow (coded× (coded_list coded_step_plan)
    (coded× (coded_named coded_ℕ) coded_wiring)))
    (λ f. (f.flow, (f.steps, (f.outputs, f.wiring))))
    (λ p. record { flow = p.0; steps = p.1.0; outputs = p.1.1.0; wiring = p.1.1.1 })
    (λ _. refl)
