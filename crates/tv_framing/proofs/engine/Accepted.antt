-- The flows of an accepted document are wired.
use Rattle.std.specs.Coded.{Coded-set, coded_bool}
use Rattle.std.specs.List.{list_all, list_any}
use Rattle.std.specs.Option.{option_map_or}
use Rattle.std.specs.Prelude.{◌≡◌, refl, Bool, true, false, ◌&&◌, ◌||◌, ◌==◌, not, List, [], ◌∷◌, count_by, get_or, if◌then◌else◌, length, map, Option, Some, None, unwrap_or}
use Rattle.std.proofs.Common.{sym, ap, subst, ◌∙◌, eq-eqb, eqb-true}
use Rattle.std.proofs.Math.Logic.{∥∥₁_elim}
use Rattle.std.proofs.lemmas.Bool.{and_parts}
use Rattle.tv_lemmas.specs.Members.{Each}
use Rattle.tv_lemmas.proofs.Options.{is_none-none}
use Rattle.tv_lemmas.proofs.Counts.{once-any}
use Rattle.tv_lemmas.proofs.Lists.{append-none}
use Rattle.tv_value.specs.Orders.{named, same_name}
use Rattle.tv_value.specs.Strategies.{Strategy, cross}
use Rattle.tv_value.specs.Values.{Name}
use Rattle.tv_value.proofs.NameLemmas.{same_name-refl}
use Rattle.tv_flow.specs.Flows.{Document, Flow, Step, StepInput}
use Rattle.tv_flow.specs.Formed.{is_flow, is_formed}
use Rattle.tv_strategy.specs.Measures.{all_leaf_names, leaf_names}
use Rattle.tv_naming.specs.Faulty.{at_input, at_main, first_of, no_such_flow, no_such_port, plainly}
use Rattle.tv_naming.specs.Inputs.{given_complaints}
use Rattle.tv_naming.specs.Naming.{complain_if, feed_links, fits_ports, flow_naming, has_name, is_there, link_complaints, naming_complaints, step_naming}
use Rattle.tv_naming.proofs.Forms.{flows-named}
use Rattle.tv_naming.proofs.Lists.{each-at}
use Rattle.tv_check.specs.Cycles.{cycle_complaints, link_cycle_complaints, nesting_complaints}
use Rattle.tv_check.specs.Depthwise.{depth_complaints}
use Rattle.tv_model.specs.instance.Ranks.{ranked}
use Rattle.tv_model.specs.instance.Steps.{ports_of, strategy_of}
use Rattle.tv_check.specs.Tables.{has_fitting}
use Rattle.tv_check.proofs.PortLemmas.{default-ports}
use Rattle.tv_check.specs.Passes.{checked, complaints}
use Rattle.tv_check.specs.Plans.{IsAccepted}
use Rattle.tv_check.proofs.Accepting.{first-none}
use Rattle.tv_check.proofs.AllRanked.{all-ranked-formed, flow-acyclic}
use Rattle.tv_check.proofs.Inside.{each-all, each-by, flow-links-inside, names-inside, nil-each, silent}
use Rattle.tv_check.proofs.Wired.{fitting}
use Rattle.tv_framing.specs.engine.WiredFlows.{AcceptedFlowsAreWired}

-- ---- strategies

each-counted : (is : List (Name × StepInput)) (ms : List Name) → list_all (λ n. count_by (same_name n) ms == 1) (map (λ i. i.0) is) ≡ true → list_all (λ i. list_any (same_name i.0) ms) is ≡ true
each-counted [] ms h = refl
each-counted (i ∷ is) ms h =
    let b = and_parts (count_by (same_name i.0) ms == 1) (list_all (λ n. count_by (same_name n) ms == 1) (map (λ (j : Name × StepInput). j.0) is)) h in
    ap (λ c. c && list_all (λ j. list_any (same_name j.0) ms) is) (once-any (same_name i.0) ms b.0) ∙ each-counted is ms b.1

any-more : (n m : Name) (ms : List Name) → list_any (same_name n) ms ≡ true → list_any (same_name n) (m ∷ ms) ≡ true
any-more n m ms h = by (same_name n m)
  where
    by : (b : Bool) → (b || list_any (same_name n) ms) ≡ true
    by true = refl
    by false = h

-- each input is a leaf of the strategy over the inputs
each-own : (is js : List (Name × StepInput)) (ms : List Name) → ms ≡ map (λ j. j.0) js → ((i : Name × StepInput) → list_any (same_name i.0) (map (λ (j : Name × StepInput). j.0) is) ≡ true → list_any (same_name i.0) ms ≡ true) → list_all (λ i. list_any (same_name i.0) ms) is ≡ true
each-own [] js ms e h = refl
each-own (i ∷ is) js ms e h =
    ap (λ c. c && list_all (λ k. list_any (same_name k.0) ms) is) (h i (ap (λ b. b || list_any (same_name i.0) (map (λ (j : Name × StepInput). j.0) is)) (same_name-refl i.0)))
    ∙ each-own is js ms e (λ k g. h k (any-more k.0 i.0 (map (λ (j : Name × StepInput). j.0) is) g))

leaves-bound : (s : Step) → has_fitting s ≡ true → list_all (λ i. list_any (same_name i.0) (leaf_names (strategy_of s))) s.inputs ≡ true
leaves-bound s h = cases s.strategy h
  where
    cases : (o : Option Strategy) → option_map_or (fits_ports s) o true ≡ true → list_all (λ i. list_any (same_name i.0) (leaf_names (unwrap_or o (cross (ports_of s.inputs))))) s.inputs ≡ true
    cases None k = each-own s.inputs s.inputs (all_leaf_names (ports_of s.inputs)) (default-ports s.inputs) (λ i g. subst (λ ms. list_any (same_name i.0) ms ≡ true) (sym (default-ports s.inputs)) g)
    cases (Some t) k =
        let ns = map (λ (i : Name × StepInput). i.0) s.inputs in
        let ms = leaf_names t in
        let b = and_parts ((length ns == length ms) && list_all (λ n. count_by (same_name n) ms == 1) ns) (list_all (λ m. count_by (same_name m) ns == 1) ms) k in
        each-counted s.inputs ms ((and_parts (length ns == length ms) (list_all (λ n. count_by (same_name n) ms == 1) ns) b.0).1)

fitting-bound : (ss : List (Name × Step)) → list_all (λ s. has_fitting s.1) ss ≡ true → list_all (λ s. list_all (λ i. list_any (same_name i.0) (leaf_names (strategy_of s.1))) s.1.inputs) ss ≡ true
fitting-bound [] h = refl
fitting-bound (s ∷ ss) h =
    let b = and_parts (has_fitting s.1) (list_all (λ t. has_fitting t.1) ss) h in
    ap (λ c. c && list_all (λ t. list_all (λ i. list_any (same_name i.0) (leaf_names (strategy_of t.1))) t.1.inputs) ss) (leaves-bound s.1 b.0) ∙ fitting-bound ss b.1

-- ---- links

module _ (flow : Flow) (f : Name) where
  links-there : (x : Name × Step) (i : Name × StepInput) → link_complaints flow (at_input f x.0 i.0) i.1.from ≡ [] → list_all (is_there flow) (feed_links i.1.from) ≡ true
  links-there x i h =
      each-all (is_there flow) (feed_links i.1.from)
      (each-by (λ l. complain_if (not (is_there flow l)) (plainly no_such_port (at_input f x.0 i.0)) ≡ []) (λ l. is_there flow l ≡ true) (feed_links i.1.from) (λ l g. silent (is_there flow l) (plainly no_such_port (at_input f x.0 i.0)) g)
      (nil-each (λ l. complain_if (not (is_there flow l)) (plainly no_such_port (at_input f x.0 i.0))) (feed_links i.1.from) h))

  step-links : (knows : Name → Bool) (d : Document) (x : Name × Step) → step_naming knows d f flow x ≡ [] → list_all (λ i. list_all (is_there flow) (feed_links i.1.from)) x.1.inputs ≡ true
  step-links knows d x e =
      let r = append-none _ _ (append-none _ _ (append-none _ _ (append-none _ _ e).0).0).0 in
      each-all (λ i. list_all (is_there flow) (feed_links i.1.from)) x.1.inputs
      (each-by (λ i. link_complaints flow (at_input f x.0 i.0) i.1.from ≡ []) (λ i. list_all (is_there flow) (feed_links i.1.from) ≡ true) x.1.inputs (links-there x)
      (nil-each (λ i. link_complaints flow (at_input f x.0 i.0) i.1.from) x.1.inputs r.0))

abbrev has_links : Flow → Bool
has_links f = list_all (λ s. list_all (λ i. list_all (is_there f) (feed_links i.1.from)) s.1.inputs) f.steps

flow-links : (knows : Name → Bool) (d : Document) (f : Name × Flow) → flow_naming knows d f ≡ [] → has_links f.1 ≡ true
flow-links knows d f e =
    each-all (λ s. list_all (λ i. list_all (is_there f.1) (feed_links i.1.from)) s.1.inputs) f.1.steps
    (each-by (λ x. step_naming knows d f.0 f.1 x ≡ []) (λ s. list_all (λ i. list_all (is_there f.1) (feed_links i.1.from)) s.1.inputs ≡ true) f.1.steps (step-links f.1 f.0 knows d)
    (nil-each (step_naming knows d f.0 f.1) f.1.steps (append-none _ _ e).0))

-- ---- a flow of a document

pub named-each : {A : Type 0} (P : A → Type 0) (n : Name) (xs : List (Name × A)) (a : A) → Each (λ x. P x.1) xs → named n xs ≡ Some a → P a
named-each P n [] a e h = cc
named-each {A = A} P n (x ∷ xs) a e h = cases (same_name n x.0) h (named-each P n xs a e.1)
  where
    cases : (b : Bool) → (if b then Some x.1 else named n xs) ≡ Some a → (named n xs ≡ Some a → P a) → P a
    cases true k rec = let f : x.1 ≡ a = cc in subst P f e.0
    cases false k rec = rec k

module _ (d : Document) (formed : is_formed d ≡ true) (accepted : IsAccepted d) where
  abbrev knows : Name → Bool
  knows n = true

  all-silent : complaints knows d ≡ []
  all-silent = first-none (complaints knows d) (is_none-none (checked knows d) accepted)

  unlinked : (link_cycle_complaints d ≡ []) × (naming_complaints knows d ≡ [])
  unlinked =
      let a = append-none _ (given_complaints d) all-silent in
      let b = append-none _ (depth_complaints d) a.0 in
      let c = append-none _ (link_cycle_complaints d) b.0 in
      let e = append-none _ (nesting_complaints d) c.0 in
      let n = append-none (naming_complaints knows d) (cycle_complaints d) e.0 in
      (c.1, n.0)

  each-formed : Each (λ f. is_flow f.1 ≡ true) d.flows
  each-formed = each-at (λ f. is_flow f.1 ≡ true) d.flows (flows-named d formed).pass

  each-linked : Each (λ f. has_links f.1 ≡ true) d.flows
  each-linked =
      each-by (λ f. flow_naming knows d f ≡ []) (λ f. has_links f.1 ≡ true) d.flows (flow-links knows d)
      (nil-each (flow_naming knows d) d.flows (append-none (complain_if (not (has_name d.flows d.main)) (plainly no_such_flow at_main)) _ unlinked.1).1)

  each-ranked : Each (λ f. (length (ranked f.1.steps) == length f.1.steps) ≡ true) d.flows
  each-ranked =
      each-at (λ f. (length (ranked f.1.steps) == length f.1.steps) ≡ true) d.flows
      (λ k x lt. eq-eqb _ _ (all-ranked-formed (get_or d.flows k x).1 ((flows-named d formed).pass k x lt) (flow-links-inside d (names-inside knows d unlinked.1) k x lt) (flow-acyclic d (ap first_of unlinked.0) k x lt)))

pub accepted-wired : AcceptedFlowsAreWired
accepted-wired f of =
    record {
      formed = ∥∥₁_elim of (Coded-set coded_bool _ _) (λ x. named-each (λ g. is_flow g ≡ true) x.1.0 x.0.flows f (each-formed x.0 x.1.1 x.1.2) x.1.3);
      ranked = eqb-true (length (ranked f.steps)) (length f.steps) (∥∥₁_elim of (Coded-set coded_bool _ _) (λ x. named-each (λ g. (length (ranked g.steps) == length g.steps) ≡ true) x.1.0 x.0.flows f (each-ranked x.0 x.1.1 x.1.2) x.1.3));
      links = ∥∥₁_elim of (Coded-set coded_bool _ _) (λ x. named-each (λ g. has_links g ≡ true) x.1.0 x.0.flows f (each-linked x.0 x.1.1 x.1.2) x.1.3);
      leaves = fitting-bound f.steps (fitting f of);
    }
