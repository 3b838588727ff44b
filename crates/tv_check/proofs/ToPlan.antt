-- What was checked is enough for the plans.
use Rattle.std.specs.Prelude.{◌≡◌, ℕ, ◌<◌, ◌≤◌, List, [], ◌∷◌, length, flat_map, Bool, true, false, not, nat_lt, Vec, Option, Some, None, is_some, refl, option_map, slice_get}
use Rattle.std.specs.Global.{Global}
use Rattle.std.proofs.Common.{arith, get_or, ap, sym, subst, ◌∙◌, inl}
use Rattle.std.proofs.lemmas.Bool.{eq-eqb, ltb-false, and_parts}
use Rattle.std.proofs.lemmas.List.{length-map}
use Rattle.std.proofs.lemmas.Option.{slice_get-get_or, slice_get_within, slice_get-map, get_or_from_slice_get, unwrap_or-slice_get}
use Rattle.tv_lemmas.proofs.Numbers.{none-below}
use Rattle.tv_lemmas.proofs.Lists.{append-none}
use Rattle.tv_value.specs.Values.{Name}
use Rattle.tv_value.specs.Orders.{named}
use Rattle.tv_flow.specs.Flows.{Flow, Document}
use Rattle.tv_flow.specs.Formed.{is_flow, is_formed}
use Rattle.tv_naming.specs.Faulty.{CheckComplaint, plainly, no_such_flow, at_main, too_deep, at_flow, with_numbers, first_of}
use Rattle.tv_naming.specs.Naming.{has_name, complain_if, flow_naming, naming_complaints}
use Rattle.tv_check.specs.Cycles.{nesting_complaints, link_cycle_complaints}
use Rattle.tv_model.specs.instance.Nesting.{nesting_limit}
use Rattle.tv_check.specs.Plans.{IsAccepted}
use Rattle.tv_check.specs.PlanViews.{IsOfDocument}
use Rattle.tv_check.specs.RankNumbers.{numbers_by_rank}
use Rattle.tv_check.specs.NamedGraphs.{links_inside}
use Rattle.tv_check.specs.Measured.{IsProgress, flow_nesting}
use Rattle.tv_check.specs.Plannable.{AreByRank, is_ranked, IsToPlan, IsPlannable}
use Rattle.tv_check.specs.declared.measured.Measured.{Measured}
use Rattle.tv_check.proofs.AllRanked.{all-ranked-formed, flow-acyclic}
use Rattle.tv_naming.proofs.ByPosition.{named-at}
use Rattle.tv_check.proofs.Inside.{nil-each, each-all, silent, names-inside}
use Rattle.tv_check.proofs.NestedLemmas.{worked-at, worked-length}
use Rattle.tv_naming.proofs.Forms.{flows-named}
use Rattle.tv_naming.proofs.Lists.{each-get, each-at, list_all-at}

-- ---- a flow of a document

module _ (d : Document) (orders : List (Vec ℕ Global)) (ws : List (Option Measured)) (p : IsPlannable d orders ws) where
  pub orders-many : length orders ≡ length d.flows
  orders-many = sym (length-map orders (λ (o : Vec ℕ Global). o.items)) ∙ ap length p.orders_are ∙ length-map d.flows (λ f. numbers_by_rank f.1.steps)

  module _ (i : ℕ) (f : Name × Flow) (at : slice_get d.flows i ≡ Some f) where
    lt : i < length d.flows
    lt = slice_get_within d.flows i f at

    is : get_or d.flows i f ≡ f
    is = get_or_from_slice_get d.flows i f f at

    of-document : IsOfDocument f.1
    of-document =
        let there : named f.0 d.flows ≡ Some f.1 = subst (λ (e : Name × Flow). named e.0 d.flows ≡ Some e.1) is (named-at d.flows i f (flows-named d p.formed).rise lt) in
        ∣ (d, (f.0, p.formed, p.accepted, there)) ∣₁

    pub to-plan : (o : Vec ℕ Global) (w : Option Measured) → slice_get orders i ≡ Some o → slice_get ws i ≡ Some w → IsToPlan f.1 o.items w
    to-plan o w eo ew =
        let items : Some o.items ≡ Some (numbers_by_rank f.1.steps) =
        sym (slice_get-map (λ (o : Vec ℕ Global). o.items) orders i ∙ ap (option_map (λ (o : Vec ℕ Global). o.items)) eo)
        ∙ ap (λ xs. slice_get xs i) p.orders_are
        ∙ slice_get-map (λ f. numbers_by_rank f.1.steps) d.flows i
        ∙ ap (option_map (λ f. numbers_by_rank f.1.steps)) at
        in
        record {
          formed = subst (λ (e : Name × Flow). is_flow e.1 ≡ true) is ((flows-named d p.formed).pass i f lt);
          whole = subst (λ (e : Name × Flow). is_ranked e.1 ≡ true) is (list_all-at (λ f. is_ranked f.1) d.flows i f p.whole lt);
          order_is = cc;
          worked = worked-at d.flows ws i f w p.worked at ew;
          measured = subst (λ v. is_some v ≡ true) (get_or_from_slice_get ws i w w ew) (list_all-at is_some ws i w p.measured (slice_get_within ws i w ew));
          accepted = of-document;
        }

-- ---- from what the passes say

module _ (knows : Name → Bool) (d : Document) (formed : is_formed d ≡ true) (named_so : naming_complaints knows d ≡ []) where
  main-there : has_name d.flows d.main ≡ true
  main-there = silent (has_name d.flows d.main) (plainly no_such_flow at_main) (append-none (complain_if (not (has_name d.flows d.main)) (plainly no_such_flow at_main)) (flat_map (flow_naming knows d) d.flows) named_so).0

  whole-at : link_cycle_complaints d ≡ [] → (k : ℕ) (x : Name × Flow) → k < length d.flows → is_ranked (get_or d.flows k x).1 ≡ true
  whole-at free k x lt =
      let f = get_or d.flows k x in
      let inside = list_all-at (λ f. links_inside f.1) d.flows k x (and_parts _ _ (names-inside knows d named_so)).1 lt in
      eq-eqb _ _ (all-ranked-formed f.1 ((flows-named d formed).pass k x lt) inside (flow-acyclic d (ap first_of free) k x lt))

  shallow : (b : Bool) (c : CheckComplaint) → complain_if b c ≡ [] → b ≡ false
  shallow false c e = refl
  shallow true c e = cc

  nesting-least : nesting_complaints d ≡ [] → (k : ℕ) (x : Name × Flow) → k < length d.flows → flow_nesting d (get_or d.flows k x).0 < 9
  nesting-least free k x lt =
      let f = get_or d.flows k x in
      let n = flow_nesting d f.0 in
      let quiet = each-get (λ f. complain_if (nat_lt nesting_limit (flow_nesting d f.0)) (with_numbers too_deep (at_flow f.0) (flow_nesting d f.0) nesting_limit) ≡ []) d.flows (nil-each (λ f. complain_if (nat_lt nesting_limit (flow_nesting d f.0)) (with_numbers too_deep (at_flow f.0) (flow_nesting d f.0) nesting_limit)) d.flows free) k x lt in
      let most : n ≤ 8 = ltb-false 8 n (shallow (nat_lt nesting_limit n) (with_numbers too_deep (at_flow f.0) n nesting_limit) quiet) in
      omega arith

  measured-at : (ws : List (Option Measured)) → nesting_complaints d ≡ [] → IsProgress d ws 9 0 → (k : ℕ) (w : Option Measured) → k < length ws → is_some (get_or ws k w) ≡ true
  measured-at ws free so k w lt =
      let inside : k < length d.flows = subst (λ n. k < n) (worked-length d.flows ws so.worked) lt in
      let f = first-flow k inside in
      let at = slice_get-get_or d.flows k f inside in
      let done = so.done k (get_or d.flows k f) at (inl (nesting-least free k f inside)) in
      let same : get_or ws k None ≡ get_or ws k w = get_or_from_slice_get ws k (get_or ws k w) None (slice_get-get_or ws k w lt) in
      ap is_some (sym same) ∙ ap is_some (sym (unwrap_or-slice_get ws k None)) ∙ done
    where
      first-of : (fs : List (Name × Flow)) (k : ℕ) → k < length fs → Name × Flow
      first-of [] k h = none-below k h
      first-of (f ∷ fs) k h = f

      first-flow : (k : ℕ) → k < length d.flows → Name × Flow
      first-flow k h = first-of d.flows k h

  pub plannable : (orders : List (Vec ℕ Global)) (ws : List (Option Measured)) → IsAccepted d → nesting_complaints d ≡ [] → link_cycle_complaints d ≡ [] → AreByRank d.flows orders → IsProgress d ws 9 0 → IsPlannable d orders ws
  plannable orders ws accepted nested_so linked ordered so =
      record {
        formed = formed;
        accepted = accepted;
        main_there = main-there;
        whole = each-all (λ f. is_ranked f.1) d.flows (each-at (λ f. is_ranked f.1 ≡ true) d.flows (whole-at linked));
        orders_are = ordered;
        worked = so.worked;
        measured = each-all is_some ws (each-at (λ w. is_some w ≡ true) ws (measured-at ws nested_so so));
      }
