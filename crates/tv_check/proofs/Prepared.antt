-- What the passes on names, nesting and links leave for the pass on depths.
use Rattle.std.specs.Prelude.{◌≡◌, ℕ, suc, max, ◌<◌, ◌≤◌, ◌^◌, List, [], ◌∷◌, length, map, flat_map, filter_map, Bool, true, false, not, ◌&&◌, ◌||◌, nat_lt, Option, Some, None, refl, slice_get, Vec}
use Rattle.std.specs.Global.{Global}
use Rattle.std.specs.List.{list_all}
use Rattle.std.specs.Option.{option_map_or}
use Rattle.std.proofs.Common.{arith, get_or, ap, sym, subst, ◌∙◌}
use Rattle.std.proofs.Math.Bool.{or-true}
use Rattle.std.proofs.lemmas.Bool.{lt-ltb, and_parts}
use Rattle.std.proofs.lemmas.List.{length-map}
use Rattle.std.proofs.lemmas.List.Folds.{list_all-append}
use Rattle.std.proofs.lemmas.Option.{slice_get-get_or}
use Rattle.std.proofs.lemmas.Simd.{map-map}
use Rattle.tv_lemmas.specs.Members.{Each}
use Rattle.tv_lemmas.proofs.Lists.{append-none}
use Rattle.tv_value.specs.Values.{Name}
use Rattle.tv_value.specs.Strategies.{Strategy}
use Rattle.tv_value.specs.Activities.{Activity, service, nested}
use Rattle.tv_flow.specs.Flows.{Step, Flow, Document}
use Rattle.tv_flow.specs.Formed.{is_ascending, is_formed}
use Rattle.tv_naming.specs.graphs.Graphs.{Graph, before, greatest, height}
use Rattle.tv_naming.proofs.Depths.{height-next}
use Rattle.tv_model.specs.instance.Ranks.{ranked}
use Rattle.tv_naming.specs.Faulty.{CheckComplaint, plainly, strategy_ports, no_such_flow, at_main, at_step, first_of}
use Rattle.tv_naming.specs.Naming.{has_name, fits_ports, complain_if, step_naming, flow_naming, naming_complaints}
use Rattle.tv_check.specs.Cycles.{opened_flow, opened_flows, flows_in, nestings, cycle_complaints}
use Rattle.tv_naming.specs.Numbers.{position}
use Rattle.tv_check.specs.RankNumbers.{numbers_by_rank}
use Rattle.tv_check.specs.NamedGraphs.{numbers_of, leads_inside}
use Rattle.tv_check.specs.Tables.{AreAt, has_fitting}
use Rattle.tv_check.specs.Plannable.{AreByRank}
use Rattle.tv_check.specs.Measured.{flow_nesting, opens_lower, AreOrders, IsPrepared}
use Rattle.tv_naming.proofs.Lists.{each-at, map-same, map-each, pair-same}
use Rattle.tv_naming.proofs.ByPosition.{names_of, there}
use Rattle.tv_check.proofs.CycleLemmas.{IsThere, each-there}
use Rattle.tv_check.proofs.GraphLemmas.{graph, at, before-next, graph_of-is}
use Rattle.tv_check.proofs.Ranks.{ranked-there, numbers-all}
use Rattle.tv_check.proofs.Nestings.{opened-there, nest, cycle-free}
use Rattle.tv_naming.proofs.Forms.{flows-named, steps-named}
use Rattle.tv_check.proofs.Inside.{nil-each, each-all, each-by, names-inside}

-- ---- the steps of a flow by rank, by their numbers

at-number : (xs : List (Name × Step)) (s : Name × Step) → IsThere xs s → slice_get xs (position s.0 xs) ≡ Some s
at-number xs s e =
    let t = there s.0 xs e.0 in
    let k = position s.0 xs in
    let x : Some s.1 ≡ Some (get_or xs k s).1 = sym e.1 ∙ t.thing s in
    let y : s.1 ≡ (get_or xs k s).1 = cc in
    slice_get-get_or xs k s t.below ∙ ap Some (pair-same (get_or xs k s) s (t.name s) (sym y))

pub ranked-at : (xs : List (Name × Step)) → is_ascending (names_of xs) ≡ true → AreAt xs (numbers_by_rank xs) (ranked xs)
ranked-at xs rises =
    map-map (slice_get xs) (λ s. position s.0 xs) (ranked xs)
    ∙ map-each (IsThere xs) (λ s. slice_get xs (position s.0 xs)) Some (ranked xs) (ranked-there xs rises) (at-number xs)

-- orders of the steps of flows that are in byte order of names
orders-are : (fs : List (Name × Flow)) (os : List (Vec ℕ Global)) → Each (λ f. is_ascending (names_of f.1.steps) ≡ true) fs → AreByRank fs os → AreOrders fs os
orders-are [] [] rises e = tt
orders-are [] (o ∷ os) rises e = cc
orders-are (f ∷ fs) [] rises e = cc
orders-are (f ∷ fs) (o ∷ os) rises e =
    let here : o.items ≡ numbers_by_rank f.1.steps = cc in
    let rest : map (λ (o : Vec ℕ Global). o.items) os ≡ map (λ f. numbers_by_rank f.1.steps) fs = cc in
    (subst (λ ks. AreAt f.1.steps ks (ranked f.1.steps)) (sym here) (ranked-at f.1.steps rises.0), orders-are fs os rises.1 rest)

-- ---- strategies that fit their ports

fits : (s : Step) (c : CheckComplaint) (o : Option Strategy) → option_map_or (λ t. complain_if (not (fits_ports s t)) c) o [] ≡ [] → option_map_or (fits_ports s) o true ≡ true
fits s c None e = refl
fits s c (Some t) e = cases (fits_ports s t) e
  where
    cases : (b : Bool) → complain_if (not b) c ≡ [] → b ≡ true
    cases true h = refl
    cases false h = cc

module _ (knows : Name → Bool) (d : Document) where
  step-fits : (f : Name) (flow : Flow) (x : Name × Step) → step_naming knows d f flow x ≡ [] → has_fitting x.1 ≡ true
  step-fits f flow x e = fits x.1 (plainly strategy_ports (at_step f x.0)) x.1.strategy (append-none _ _ (append-none _ _ (append-none _ _ (append-none _ _ e).0).0).0).1

  flow-fits : (f : Name × Flow) → flow_naming knows d f ≡ [] → list_all (λ s. has_fitting s.1) f.1.steps ≡ true
  flow-fits f e = each-all (λ s. has_fitting s.1) f.1.steps (each-by (λ x. step_naming knows d f.0 f.1 x ≡ []) (λ s. has_fitting s.1 ≡ true) f.1.steps (step-fits f.0 f.1) (nil-each (step_naming knows d f.0 f.1) f.1.steps (append-none _ _ e).0))

  pub all-fit : naming_complaints knows d ≡ [] → list_all (λ f. list_all (λ s. has_fitting s.1) f.1.steps) d.flows ≡ true
  all-fit e =
      each-all (λ f. list_all (λ s. has_fitting s.1) f.1.steps) d.flows
      (each-by (λ f. flow_naming knows d f ≡ []) (λ f. list_all (λ s. has_fitting s.1) f.1.steps ≡ true) d.flows flow-fits (nil-each (flow_naming knows d) d.flows (append-none (complain_if (not (has_name d.flows d.main)) (plainly no_such_flow at_main)) _ e).1))

-- ---- a flow nests deeper than those that it opens

all-below : (h : Name → ℕ) (b : ℕ) (ns : List Name) → greatest (map h ns) ≤ b → list_all (λ m. nat_lt (h m) (suc b)) ns ≡ true
all-below h b [] le = refl
all-below h b (n ∷ ns) le =
    ap (λ c. c && list_all (λ m. nat_lt (h m) (suc b)) ns) (lt-ltb (h n) (suc b) (first (h n) (greatest (map h ns)) b le))
    ∙ all-below h b ns (second (h n) (greatest (map h ns)) b le)
  where
    first : (x y b : ℕ) → max x y ≤ b → x < suc b
    first x y b le = omega arith

    second : (x y b : ℕ) → max x y ≤ b → y ≤ b
    second x y b le = omega arith

module _ (d : Document) (n : ℕ) where
  abbrev lesser : Name → Bool
  lesser m = nat_lt (flow_nesting d m) n

  lower-activities : (acts : List Activity) → list_all lesser (filter_map opened_flow acts) ≡ true → list_all (opens_lower d n) acts ≡ true
  lower-activities [] h = refl
  lower-activities (service a ∷ acts) h = lower-activities acts h
  lower-activities (nested g ∷ acts) h =
      let b = and_parts (lesser g) (list_all lesser (filter_map opened_flow acts)) h in
      ap (λ c. (not (has_name d.flows g) || c) && list_all (opens_lower d n) acts) b.0
      ∙ ap (λ c. c && list_all (opens_lower d n) acts) (or-true (not (has_name d.flows g)))
      ∙ lower-activities acts b.1

  lower-steps : (steps : List (Name × Step)) → list_all lesser (flat_map (λ s. filter_map opened_flow s.1.activities) steps) ≡ true → list_all (λ s. list_all (opens_lower d n) s.1.activities) steps ≡ true
  lower-steps [] h = refl
  lower-steps (s ∷ steps) h =
      let rest = flat_map (λ (s : Name × Step). filter_map opened_flow s.1.activities) steps in
      let b = and_parts (list_all lesser (filter_map opened_flow s.1.activities)) (list_all lesser rest) (sym (list_all-append lesser (filter_map opened_flow s.1.activities) rest) ∙ h) in
      ap (λ c. c && list_all (λ s. list_all (opens_lower d n) s.1.activities) steps) (lower-activities s.1.activities b.0) ∙ lower-steps steps b.1

module _ (d : Document) (rises : is_ascending (names_of d.flows) ≡ true) (few : length d.flows < 2 ^ 32) (inside : leads_inside opened_flows d.flows ≡ true) (free : first_of (cycle_complaints d) ≡ None) where
  abbrev g : Graph
  g = graph opened_flows d.flows

  many : length g ≡ length d.flows
  many = length-map d.flows (λ f. numbers_of d.flows (opened_flows f.1))

  abbrev number : Name → ℕ
  number n = at opened_flows d.flows n

  -- one more than the greatest nesting of those that it opens
  nesting-next : (f : Name × Flow) → IsThere d.flows f → flow_nesting d f.0 ≡ suc (greatest (map (flow_nesting d) (opened_flows f.1)))
  nesting-next f e =
      let below = subst (λ n. number f.0 < n) (sym many) (there f.0 d.flows e.0).below in
      let next = height-next g (number f.0) (graph_of-is d.flows opened_flows few) (cycle-free d rises free) below in
      let nested_by = subst (λ n. height g n (number f.0) ≡ suc (greatest (map (height g n) (before g (number f.0))))) many next in
      sym (nest d rises inside (length d.flows) f.0)
      ∙ nested_by
      ∙ ap (λ us. suc (greatest (map (height g (length d.flows)) us))) (before-next opened_flows d.flows f.0 ∙ numbers-all d.flows (flows_in d f.0) (opened-there d rises inside f.0))
      ∙ ap (λ us. suc (greatest us)) (map-map (height g (length d.flows)) number (flows_in d f.0) ∙ map-same (λ m. height g (length d.flows) (number m)) (flow_nesting d) (flows_in d f.0) (nest d rises inside (length d.flows)))
      ∙ ap (λ o. suc (greatest (map (flow_nesting d) (option_map_or opened_flows o [])))) e.1

  flow-lower : (f : Name × Flow) → IsThere d.flows f → list_all (λ s. list_all (opens_lower d (flow_nesting d f.0)) s.1.activities) f.1.steps ≡ true
  flow-lower f e =
      let b = greatest (map (flow_nesting d) (opened_flows f.1)) in
      let below = all-below (flow_nesting d) b (opened_flows f.1) (omega arith) in
      subst (λ n. list_all (λ s. list_all (opens_lower d n) s.1.activities) f.1.steps ≡ true) (sym (nesting-next f e)) (lower-steps d (suc b) f.1.steps below)

  pub all-lower : list_all (λ f. list_all (λ s. list_all (opens_lower d (flow_nesting d f.0)) s.1.activities) f.1.steps) d.flows ≡ true
  all-lower =
      each-all (λ f. list_all (λ s. list_all (opens_lower d (flow_nesting d f.0)) s.1.activities) f.1.steps) d.flows
      (each-by (IsThere d.flows) (λ f. list_all (λ s. list_all (opens_lower d (flow_nesting d f.0)) s.1.activities) f.1.steps ≡ true) d.flows flow-lower (each-there d.flows rises))

-- ---- all that the pass on depths is given

small : (n : ℕ) → n ≤ 256 → n < 2 ^ 32
small n le = omega arith

pub prepared : (knows : Name → Bool) (d : Document) (orders : List (Vec ℕ Global)) (levels : List ℕ) → is_formed d ≡ true → naming_complaints knows d ≡ [] → first_of (cycle_complaints d) ≡ None → AreByRank d.flows orders → levels ≡ nestings d → IsPrepared d orders levels
prepared knows d orders levels formed named free ordered nested_so =
    let flows = flows-named d formed in
    let inside = and_parts _ _ (names-inside knows d named) in
    record {
      orders_are = orders-are d.flows orders (each-at (λ f. is_ascending (names_of f.1.steps) ≡ true) d.flows (λ k x lt. (steps-named (get_or d.flows k x).1 (flows.pass k x lt)).rise)) ordered;
      nestings_are = nested_so;
      fitting = all-fit knows d named;
      lower = all-lower d flows.rise (small (length d.flows) flows.few) inside.0 free;
    }
