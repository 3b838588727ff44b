-- The mismatches of a step's ports, and the depth of its strategy.
use Rattle.std.proofs.Common.{◌≡◌, ◌∙◌, refl, sym, ap, subst, ℕ, zero, suc, ◌<◌, ◌≤◌, ◌+◌, ◌*◌, List, [], ◌∷◌, ◌++◌, length, map, flat_map, drop, Result, Bool, true, false, ◌&&◌, Option, Some, None, option_map, unwrap_or, arith, get_or, slice_get, if◌then◌else◌, cond}
use Rattle.std.proofs.Math.Path.{fun_ext}
use Rattle.std.proofs.lemmas.Bool.{eqb-true, leb-true, and_parts}
use Rattle.std.proofs.lemmas.Bool.Decides.{nat_tests}
use Rattle.std.proofs.lemmas.List.{length-append}
use Rattle.std.proofs.lemmas.List.Recursion.{is_count_by}
use Rattle.std.proofs.lemmas.Option.{get_or_from_slice_get}
use Rattle.std.specs.Prelude.{nat_le, nat_lt, ◌==◌, count_by}
use Rattle.std.specs.List.{list_all}
use Rattle.std.specs.Option.{option_map_or}
use Rattle.tv_value.specs.Values.{Name}
use Rattle.tv_value.specs.Orders.{same_name, named}
use Rattle.tv_value.specs.Strategies.{Strategy, port, cross, dot, prefix, Strategies, no_strategies, strategy}
use Rattle.tv_flow.specs.Flows.{Feed, StepInput, Step, Flow}
use Rattle.tv_flow.specs.Formed.{is_ascending, is_between, is_tree, are_trees, is_given_tree, is_step_input, strategy_count}
use Rattle.tv_flow.specs.Views.{each}
use Rattle.tv_strategy.specs.Measures.{strategy_depth, sum_of_depths, first_depth, leaf_names, all_leaf_names, first_difference, first_inside}
use Rattle.tv_strategy.specs.Conditions.{Suits, number_of, times, EachOnce, DotsAreFilled, AllDotsAreFilled, sum_over}
use Rattle.tv_model.specs.instance.CheckedDepths.{port_depth}
use Rattle.tv_naming.specs.Faulty.{Where, CheckComplaint, too_deep, with_numbers}
use Rattle.tv_naming.specs.Naming.{are_the_same, fits_ports, complain_if}
use Rattle.tv_check.specs.Depthwise.{depth_most, past_limit, feed_depths, fed_complaints, node_complaints}
use Rattle.tv_model.specs.instance.Steps.{ports_of, strategy_of}
use Rattle.tv_naming.specs.declared.faults.CheckRefused.{CheckRefused}
use Rattle.tv_naming.specs.Told.{IsToldOf}
use Rattle.tv_check.specs.Tables.{known_steps, table_depth, table_mismatch, are_within, IsSound}
use Rattle.tv_naming.proofs.ByPosition.{names_of, named-at}
use Rattle.tv_value.proofs.NameLemmas.{same_name-is}
use Rattle.tv_naming.proofs.FormedParts.{each-names, few, step-inputs}
use Rattle.tv_naming.proofs.Kept.{named-each}

-- ---- mismatches

module _ (g : StepInput → ℕ) where
  or-zero : (o : Option StepInput) → unwrap_or (option_map g o) 0 ≡ option_map_or g o 0
  or-zero None = refl
  or-zero (Some i) = refl

  -- the mismatch of each port, whether it is listed or looked up
  pub mismatch-is : (is : List (Name × StepInput)) → number_of (each g is) ≡ (λ p. option_map_or g (named p is) 0)
  mismatch-is is = fun_ext (λ p. ap (λ o. unwrap_or o 0) (named-each g p is) ∙ or-zero (named p is))

  pub number-at : (is : List (Name × StepInput)) (i : ℕ) (x : Name × StepInput) → is_ascending (names_of is) ≡ true → i < length is → slice_get is i ≡ Some x → number_of (each g is) x.0 ≡ g x.1
  number-at is i x h lt e =
      let there : get_or is i x ≡ x = get_or_from_slice_get is i x x e in
      ap (λ o. unwrap_or o 0) (named-each g x.0 is) ∙ ap (λ o. unwrap_or (option_map g o) 0) (subst (λ (y : Name × StepInput). named y.0 is ≡ Some y.1) there (named-at is i x h lt))

  or-small : (b : Bool) (m n : ℕ) (o : Option ℕ) → m ≤ n → unwrap_or o 0 ≤ n → unwrap_or (if b then Some m else o) 0 ≤ n
  or-small true m n o p q = p
  or-small false m n o p q = q

  pub number-small : (d : Feed → ℕ) → ((i : StepInput) → g i ≤ d i.from) → (is : List (Name × StepInput)) → list_all (λ i. nat_le (d i.1.from) 32) is ≡ true → (p : Name) → number_of (each g is) p ≤ 32
  number-small d below [] h p = omega arith
  number-small d below (i ∷ is) h p =
      let test : nat_le (d i.1.from) 32 ≡ true = (and_parts _ _ h).0 in
      let small : d i.1.from ≤ 32 = leb-true _ _ test in
      or-small (same_name p i.0) (g i.1) 32 (named p (each g is)) (omega (arith, below i.1)) (number-small d below is (and_parts _ _ h).1 p)

-- ---- depths of strategies

module _ (f : Name → ℕ) (small : (p : Name) → f p ≤ 32) where
  mutual
    pub strategy-small : (s : Strategy) → strategy_depth f s ≤ 32 * length (leaf_names s)
    strategy-small (port p) = omega (arith, small p)
    strategy-small (cross ss) = sum-small ss
    strategy-small (dot ss) = first-small ss
    strategy-small (prefix l r) = omega (arith, strategy-small r, length-append (leaf_names l) (leaf_names r))

    sum-small : (ss : Strategies) → sum_of_depths f ss ≤ 32 * length (all_leaf_names ss)
    sum-small no_strategies = omega arith
    sum-small (strategy s ss) = omega (arith, strategy-small s, sum-small ss, length-append (leaf_names s) (all_leaf_names ss))

    first-small : (ss : Strategies) → first_depth f ss ≤ 32 * length (all_leaf_names ss)
    first-small no_strategies = omega arith
    first-small (strategy s ss) = omega (arith, strategy-small s, length-append (leaf_names s) (all_leaf_names ss))

  pub over-small : (ns : List Name) → sum_over f ns ≤ 32 * length ns
  over-small [] = omega arith
  over-small (n ∷ ns) = omega (arith, small n, over-small ns)

-- the rest of a cross
pub sum-next : (f : Name → ℕ) (is : List (Name × StepInput)) (i : ℕ) (x : Name × StepInput) → slice_get is i ≡ Some x → sum_of_depths f (ports_of (drop i is)) ≡ f x.0 + sum_of_depths f (ports_of (drop (i + 1) is))
sum-next f is i x e = let n : suc i ≡ i + 1 = omega arith in subst (λ j. sum_of_depths f (ports_of (drop i is)) ≡ f x.0 + sum_of_depths f (ports_of (drop j is))) n (by_suc is i e)
  where
    by_suc : (ys : List (Name × StepInput)) (k : ℕ) → slice_get ys k ≡ Some x → sum_of_depths f (ports_of (drop k ys)) ≡ f x.0 + sum_of_depths f (ports_of (drop (suc k) ys))
    by_suc [] k e = cc
    by_suc (y ∷ ys) zero e = let p : y ≡ x = cc in ap (λ (z : Name × StepInput). f z.0 + sum_of_depths f (ports_of ys)) p
    by_suc (y ∷ ys) (suc k) e = by_suc ys k e

-- ---- strategies whose leaves are the ports

times-is : (n : Name) (ms : List Name) → times n ms ≡ count_by (same_name n) ms
times-is n ms = is_count_by (times n) (same_name n) refl (λ m ks. step (same_name n m) (times n ks)) ms
  where
    step : (b : Bool) (k : ℕ) → (if b then suc k else k) ≡ cond b (1 + k) k
    step true k = omega arith
    step false k = refl

once : (n : Name) (ms : List Name) → (count_by (same_name n) ms == 1) ≡ true → times n ms ≡ 1
once n ms h = times-is n ms ∙ eqb-true _ _ h

each-once : (ks others : List Name) → list_all (λ m. count_by (same_name m) others == 1) ks ≡ true → EachOnce ks others
each-once [] others h = tt
each-once (k ∷ ks) others h = (once k others (and_parts _ _ h).0, each-once ks others (and_parts _ _ h).1)

-- what stands once among names that stand once elsewhere stands there once
back-once : (m : Name) (ns ms : List Name) → times m ns ≡ 1 → list_all (λ n. count_by (same_name n) ms == 1) ns ≡ true → times m ms ≡ 1
back-once m [] ms e h = cc
back-once m (n ∷ ns) ms e h = by_cases m n ns ms (same_name m n) refl e h (back-once m ns ms)
  where
    by_cases : (m n : Name) (ns ms : List Name) (b : Bool) → same_name m n ≡ b → (if b then suc (times m ns) else times m ns) ≡ 1 → list_all (λ n. count_by (same_name n) ms == 1) (n ∷ ns) ≡ true → (times m ns ≡ 1 → list_all (λ n. count_by (same_name n) ms == 1) ns ≡ true → times m ms ≡ 1) → times m ms ≡ 1
    by_cases m n ns ms true f e h k = subst (λ l. times l ms ≡ 1) (sym (same_name-is m n f)) (once n ms (and_parts _ _ h).0)
    by_cases m n ns ms false f e h k = k e (and_parts _ _ h).1

leaves-once : (ks ns ms : List Name) → list_all (λ m. count_by (same_name m) ns == 1) ks ≡ true → list_all (λ n. count_by (same_name n) ms == 1) ns ≡ true → EachOnce ks ms
leaves-once [] ns ms c b = tt
leaves-once (k ∷ ks) ns ms c b = (back-once k ns ms (once k ns (and_parts _ _ c).0) b, leaves-once ks ns ms (and_parts _ _ c).1 b)

mutual
  filled : (s : Strategy) → is_tree s ≡ true → DotsAreFilled s
  filled (port p) h = tt
  filled (cross ss) h = all-filled ss (and_parts _ _ h).1
  filled (prefix l r) h = let t = and_parts (is_tree l) (is_tree r) h in (filled l t.0, filled r t.1)
  filled (dot no_strategies) h = cc
  filled (dot (strategy s ss)) h = let t = and_parts _ _ (and_parts (is_between 1 16 (strategy_count (strategy s ss))) _ h).1 in (filled s t.0, all-filled ss t.1)

  all-filled : (ss : Strategies) → are_trees ss ≡ true → AllDotsAreFilled ss
  all-filled no_strategies h = tt
  all-filled (strategy s ss) h = (filled s (and_parts _ _ h).0, all-filled ss (and_parts _ _ h).1)

module _ (g : StepInput → ℕ) (d : Feed → ℕ) (below : (i : StepInput) → g i ≤ d i.from) (is : List (Name × StepInput)) (few : length is ≤ 16) (within : list_all (λ i. nat_le (d i.1.from) 32) is ≡ true) (t : Strategy) (same : are_the_same (map (λ i. i.0) is) (leaf_names t) ≡ true) where
  parts : ((length (map (λ (i : Name × StepInput). i.0) is) == length (leaf_names t)) ≡ true) × (list_all (λ n. count_by (same_name n) (leaf_names t) == 1) (map (λ (i : Name × StepInput). i.0) is) ≡ true) × (list_all (λ m. count_by (same_name m) (map (λ (i : Name × StepInput). i.0) is) == 1) (leaf_names t) ≡ true)
  parts = let p = and_parts _ _ same in let q = and_parts _ _ p.0 in (q.0, q.1, p.1)

  length-names : (xs : List (Name × StepInput)) → length (names_of xs) ≡ length xs
  length-names [] = refl
  length-names (x ∷ xs) = ap suc (length-names xs)

  pub few-leaves : length (leaf_names t) ≤ 16
  few-leaves = let e : length (names_of is) ≡ length (leaf_names t) = eqb-true _ _ parts.0 in omega (arith, few, e, length-names is)

  pub suits : is_tree t ≡ true → Suits (each g is) t
  suits tree =
      record {
        leaves_differ = leaves-once (leaf_names t) (names_of is) (leaf_names t) parts.2 parts.1;
        dots_are_filled = filled t tree;
        each_has_number = subst (λ ns. EachOnce (leaf_names t) ns) (sym (each-names g is)) (each-once (leaf_names t) (names_of is) parts.2);
        sum_is_small = omega (arith, over-small (number_of (each g is)) (number-small g d below is within) (leaf_names t), few-leaves);
      }

-- the dots of a cross of ports agree, as it has none
no-dots : (f : Name → ℕ) (is : List (Name × StepInput)) → first_inside f (ports_of is) ≡ None
no-dots f [] = refl
no-dots f (i ∷ is) = no-dots f is

-- ---- a step

-- nothing is said of a depth within the limit
pub within-one : (w : Where) (d : ℕ) → past_limit w d ≡ [] → nat_le d depth_most ≡ true
within-one w d h = by_cases (nat_lt depth_most d) refl h
  where
    by_cases : (b : Bool) → nat_lt depth_most d ≡ b → complain_if b (with_numbers too_deep w d depth_most) ≡ [] → nat_le d depth_most ≡ true
    by_cases true e h = cc
    by_cases false e h = grind (arith, nat_tests)

silent-right : (xs ys : List CheckComplaint) → xs ++ ys ≡ [] → ys ≡ []
silent-right [] ys e = e
silent-right (x ∷ xs) ys e = cc

silent-left : (xs ys : List CheckComplaint) → xs ++ ys ≡ [] → xs ≡ []
silent-left [] ys e = refl
silent-left (x ∷ xs) ys e = cc

module _ (f : Flow) (ls : List (Option ℕ)) where
  pub within : (w : Name × StepInput → Where) (is : List (Name × StepInput)) → flat_map (λ i. fed_complaints f.inputs (known_steps f.steps ls) (w i) i.1.from) is ≡ [] → are_within f ls is ≡ true
  within w [] h = refl
  within w (i ∷ is) h =
      let here = silent-left (fed_complaints f.inputs (known_steps f.steps ls) (w i) i.1.from) _ h in
      let depth = within-one (w i) (table_depth f ls i.1.from) (silent-right (feed_depths f.inputs (known_steps f.steps ls) (w i) i.1.from) _ here) in
      let rest = within w is (silent-right (fed_complaints f.inputs (known_steps f.steps ls) (w i) i.1.from) _ h) in
      ap (λ b. b && are_within f ls is) depth ∙ rest

  module _ (s : Step) (sound : IsSound s) (fed : are_within f ls s.inputs ≡ true) where
    abbrev mismatch : Name → ℕ
    mismatch = number_of (each (table_mismatch f ls) s.inputs)

    abbrev ports : Name → ℕ
    ports = port_depth f.inputs (known_steps f.steps ls) s

    pub port-is : mismatch ≡ ports
    port-is = mismatch-is (table_mismatch f ls) s.inputs

    below : (i : StepInput) → table_mismatch f ls i ≤ table_depth f ls i.from
    below i = omega arith

    pub mismatch-small : (p : Name) → mismatch p ≤ 32
    mismatch-small = number-small (table_mismatch f ls) (table_depth f ls) below s.inputs fed

    few-inputs : length s.inputs ≤ 16
    few-inputs = few is_step_input 0 16 s.inputs (step-inputs s sound.formed)

    module _ (t : Strategy) (given : s.strategy ≡ Some t) where
      fitting : are_the_same (map (λ i. i.0) s.inputs) (leaf_names t) ≡ true
      fitting = subst (λ o. option_map_or (fits_ports s) o true ≡ true) given sound.fitting

      tree : is_tree t ≡ true
      tree = subst (λ o. is_given_tree o ≡ true) given (and_parts _ _ (and_parts _ _ (and_parts _ _ (and_parts _ _ (and_parts _ _ (and_parts _ _ sound.formed).0).0).0).0).0).1

      pub given-suits : Suits (each (table_mismatch f ls) s.inputs) t
      given-suits = suits (table_mismatch f ls) (table_depth f ls) below s.inputs few-inputs fed t fitting tree

      given-is : t ≡ strategy_of s
      given-is = sym (ap (λ o. unwrap_or o (cross (ports_of s.inputs))) given)

      pub given-told : {A : Type 0} (w : Where) (r : Result A CheckRefused) → IsToldOf (node_complaints w (first_difference mismatch t)) r → IsToldOf (node_complaints w (first_difference ports (strategy_of s))) r
      given-told w r h = subst (λ m. IsToldOf (node_complaints w (first_difference m (strategy_of s))) r) port-is (subst (λ u. IsToldOf (node_complaints w (first_difference mismatch u)) r) given-is h)

      pub given-level : strategy_depth mismatch t ≡ strategy_depth ports (strategy_of s)
      given-level = ap (strategy_depth mismatch) given-is ∙ ap (λ m. strategy_depth m (strategy_of s)) port-is

      pub given-small : strategy_depth mismatch t ≤ 512
      given-small = omega (arith, strategy-small mismatch mismatch-small t, few-leaves (table_mismatch f ls) (table_depth f ls) below s.inputs few-inputs fed t fitting)

    module _ (none-given : s.strategy ≡ None) where
      cross-is : cross (ports_of s.inputs) ≡ strategy_of s
      cross-is = sym (ap (λ o. unwrap_or o (cross (ports_of s.inputs))) none-given)

      pub cross-told : (w : Where) → node_complaints w (first_difference ports (strategy_of s)) ≡ []
      cross-told w = ap (λ t. node_complaints w (first_difference ports t)) (sym cross-is) ∙ ap (node_complaints w) (no-dots ports s.inputs)

      pub cross-level : strategy_depth mismatch (cross (ports_of s.inputs)) ≡ strategy_depth ports (strategy_of s)
      cross-level = ap (strategy_depth mismatch) cross-is ∙ ap (λ m. strategy_depth m (strategy_of s)) port-is
