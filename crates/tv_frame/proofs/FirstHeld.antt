-- What a step is told at the start can be told.
use Rattle.std.specs.Prelude.{◌≡◌, refl, ℕ, zero, suc, ◌+◌, ◌<◌, ◌≤◌, Bool, false, true, ◌&&◌, List, [], ◌∷◌, ◌++◌, IsPermutation, if◌then◌else◌, is_some, length, map, Option, Some, None, slice_get}
use Rattle.std.proofs.Common.{arith, sym, ap, subst, ◌∙◌, append-nil, eq-eqb, get_or}
use Rattle.std.proofs.lemmas.List.{length-map}
use Rattle.std.proofs.lemmas.List.Sorted.{IsPermutation-append, IsPermutation-map, IsPermutation-sym}
use Rattle.std.proofs.lemmas.Bool.{and_parts}
use Rattle.tv_lemmas.specs.Members.{Each}
use Rattle.tv_lemmas.proofs.Lists.{get-map}
use Rattle.tv_value.specs.Strategies.{Strategy}
use Rattle.tv_value.specs.Values.{Name, Value}
use Rattle.tv_value.specs.Views.{strategy_view}
use Rattle.tv_flow.specs.Flows.{Flow, Step, StepInput}
use Rattle.tv_flow.specs.Formed.{is_step_input}
use Rattle.tv_flow.specs.Forms.{is_name}
use Rattle.tv_flow.specs.Views.{flow_view}
use Rattle.tv_strategy.specs.Conditions.{Suits, number_of}
use Rattle.tv_strategy.specs.Measures.{DotsAgree, leaf_names, strategy_depth}
use Rattle.tv_strategy.proofs.Each.{each-weaken}
use Rattle.tv_naming.proofs.FormedParts.{all-pass, passes, step-at, step-inputs}
use Rattle.tv_naming.proofs.Told.{got-in}
use Rattle.tv_model.specs.instance.Steps.{strategy_of}
use Rattle.tv_cell.specs.declared.piece.Piece.{Piece}
use Rattle.tv_cell.specs.PieceValues.{piece_value, piece_values}
use Rattle.tv_check.specs.declared.wiring.Wiring.{Wiring}
use Rattle.tv_check.specs.declared.plans.FlowPlan.{FlowPlan}
use Rattle.tv_check.specs.declared.plans.StepPlan.{StepPlan}
use Rattle.tv_check.specs.Plans as plan
use Rattle.tv_check.specs.PlanViews.{step_plan_view}
use Rattle.tv_check.specs.declared.ports.Port.{Port}
use Rattle.tv_check.specs.Ports.{levels_of, mismatches, ports_of}
use Rattle.tv_matching.specs.Matchers.{CanTell, CanTellAll, Matching, Starts, leaf_name}
use Rattle.tv_matching.specs.Told.{Told, telling, told_leaf}
use Rattle.tv_matching.proofs.Members.{each-permutes}
use Rattle.tv_matching.proofs.Onces.{each-flat}
use Rattle.tv_match.specs.declared.told.Told as code
use Rattle.tv_match.specs.declared.matchers.Matcher.{Matcher}
use Rattle.tv_match.specs.Seen.{NameLeaves, bound_telling, leaf_of, matching, told_view}
use Rattle.tv_intake.specs.declared.intakes.Intakes.{Intakes}
use Rattle.tv_intake.specs.Intaken.{CanHold, matcher_at}
use Rattle.tv_idle.specs.Idles.{Idles, of_step}
use Rattle.tv_spread.specs.Spreads.{IsLevelled}
use Rattle.tv_telling.specs.Views.{AreTellings}
use Rattle.tv_binding.specs.Constants.{FlowConstants, constant_of_port, flow_constants}
use Rattle.tv_framing.specs.Views.{View}
use Rattle.tv_telling.specs.Openings.{IsFedFrom}
use Rattle.tv_framing.specs.starts.Starts.{port_start, step_start}
use Rattle.tv_framing.specs.starts.Stated.{IsBegun}
use Rattle.tv_framing.proofs.starts.LawLemmas.{start-can_be_told}
use Rattle.tv_framing.proofs.starts.Starts.{feed-to}
use Rattle.tv_frame.specs.Calls.{CanStart}
use Rattle.tv_frame.specs.FirstTellings.{AreFed, ports_start}
use Rattle.tv_frame.specs.Started.{HasBegun, HaveBegun, but_at, named_values}
use Rattle.tv_frame.specs.Tables.{levels_in}
use Rattle.tv_frame.proofs.FirstTellings.{ports-start}
use Rattle.tv_frame.proofs.Given.{constant-at, ports-given}
use Rattle.tv_frame.proofs.Plans.{dots-agree, each-placed, levels-are, numbers-are, step-suits}
use Rattle.tv_frame.proofs.FirstRooms.{plan-parts}
use Rattle.tv_frame.proofs.Started.{inputs-named, many, values-have}
use Rattle.tv_frame.proofs.TableLemmas.{as-many-steps, of-document, plan-wired, wiring-is}

-- ---- leaves by numbers

named-below : (ns : List Name) (k : ℕ) (n : Name) → get_or ns k [] ≡ n → is_name n ≡ true → k < length ns
named-below [] k n e h = let z : is_name [] ≡ true = ap is_name e ∙ h in cc
named-below (m ∷ ns) zero n e h = omega arith
named-below (m ∷ ns) (suc k) n e h = omega (arith, named-below ns k n e h)

listed-leaf : (g : Strategy) (t : code.Told) → told_leaf (told_view g t) ≡ leaf_name g (leaf_of t)
listed-leaf g (code.Told.Arrival l q b) = refl
listed-leaf g (code.Told.Faulty l q) = refl
listed-leaf g (code.Told.Close l q n) = refl

names-leaves : (g : Strategy) (ts : List code.Told) → Each (λ t. is_name (told_leaf t) ≡ true) (map (told_view g) ts) → NameLeaves g ts
names-leaves g [] h = tt
names-leaves g (t ∷ ts) h = (named-below (leaf_names g) (leaf_of t) (told_leaf (told_view g t)) (sym (listed-leaf g t)) h.0, names-leaves g ts h.1)

-- ---- of a step of a plan

module _ (flows : List (Name × Flow)) (p : FlowPlan) (vs : List Value) (can : CanStart flows p vs) (n : ℕ) (s : Name × Step) (at : slice_get (flow_view p.flow).steps n ≡ Some s) where
  ins-named : (k : ℕ) (i : Name × StepInput) → slice_get s.1.inputs k ≡ Some i → is_name i.0 ≡ true
  ins-named k i e = (and_parts _ _ (passes (λ (y : Name × StepInput). is_name y.0 && is_step_input y.1) s.1.inputs k i (all-pass is_step_input 0 16 s.1.inputs (step-inputs s.1 (step-at (flow_view p.flow) (plan-wired p).formed n s at))) e)).0

  start-named : Each (λ t. is_name (told_leaf t) ≡ true) (step_start (flow_view p.flow) (named_values (flow_view p.flow).inputs vs) s.1)
  start-named =
      each-flat (λ t. is_name (told_leaf t) ≡ true) (port_start (flow_view p.flow) (named_values (flow_view p.flow).inputs vs)) s.1.inputs
      (each-placed (λ (i : Name × StepInput). Each (λ t. is_name (told_leaf t) ≡ true) (port_start (flow_view p.flow) (named_values (flow_view p.flow).inputs vs) i)) s.1.inputs
      (λ k i e. each-weaken (λ t. told_leaf t ≡ i.0) (λ t. is_name (told_leaf t) ≡ true) (λ t q. ap is_name q ∙ ins-named k i e)
      (port_start (flow_view p.flow) (named_values (flow_view p.flow).inputs vs) i) (feed-to (named_values (flow_view p.flow).inputs vs) i.0 (levels_of (flow_view p.flow) i.1) i.1.from)))

  abbrev view : View
  view = record { flow = flow_view p.flow; inputs = named_values (flow_view p.flow).inputs vs; events = []; jobs = [] }

  begun : IsBegun flows (levels_in (flow_view p.flow)) view
  begun = record {
    depths = record {
      flow = can.agrees;
      inputs = values-have (flow_view p.flow).inputs vs can.right (flow_view p.flow).inputs (inputs-named flows p vs can);
      levels_are = levels-are (flow_view p.flow) (plan-wired p);
    };
    wired = plan-wired p;
    events = refl;
  }

  pub can-hold : (o : Option Matcher) (ts : List code.Told) → HasBegun (flow_view p.flow) s.1 [] o → IsPermutation (map (told_view (strategy_of s.1)) ts) (step_start (flow_view p.flow) (named_values (flow_view p.flow).inputs vs) s.1) → CanHold o ts
  can-hold None ts b h = absurd b
  can-hold (Some m) ts b h = subst (λ g. NameLeaves g ts × CanTellAll (matching m) (map (told_view g) ts)) (sym b.strategy_is) (
    names-leaves (strategy_of s.1) ts (each-permutes (λ t. is_name (told_leaf t) ≡ true) (step_start (flow_view p.flow) (named_values (flow_view p.flow).inputs vs) s.1) (map (told_view (strategy_of s.1)) ts) (IsPermutation-sym _ _ h) start-named),
    start-can_be_told flows (levels_in (flow_view p.flow)) view begun n s at (matching m) b.mismatch_is (map (told_view (strategy_of s.1)) ts) []
        (IsPermutation-map telling ((matching m).told ++ (map (told_view (strategy_of s.1)) ts ++ [])) (step_start (flow_view p.flow) (named_values (flow_view p.flow).inputs vs) s.1)
        (IsPermutation-append (matching m).told [] (map (told_view (strategy_of s.1)) ts ++ []) (step_start (flow_view p.flow) (named_values (flow_view p.flow).inputs vs) s.1) b.told
        (subst (λ l. IsPermutation l (step_start (flow_view p.flow) (named_values (flow_view p.flow).inputs vs) s.1)) (sym (append-nil (map (told_view (strategy_of s.1)) ts))) h))),
  )

  -- one telling of a leaf's whole value
  module _ (leaf : ℕ) (b : Bool) (h : IsPermutation (bound_telling (strategy_of s.1) leaf b ∷ []) (step_start (flow_view p.flow) (named_values (flow_view p.flow).inputs vs) s.1)) where
    bound-leaf : (g : Strategy) (c : Bool) → told_leaf (bound_telling g leaf c) ≡ leaf_name g leaf
    bound-leaf g true = refl
    bound-leaf g false = refl

    pub bound-below : (g : Strategy) → g ≡ strategy_of s.1 → leaf < length (leaf_names g)
    bound-below g e =
        subst (λ x. leaf < length (leaf_names x)) (sym e)
        (named-below (leaf_names (strategy_of s.1)) leaf (told_leaf (bound_telling (strategy_of s.1) leaf b)) (sym (bound-leaf (strategy_of s.1) b))
        (each-permutes (λ t. is_name (told_leaf t) ≡ true) (step_start (flow_view p.flow) (named_values (flow_view p.flow).inputs vs) s.1) (bound_telling (strategy_of s.1) leaf b ∷ []) (IsPermutation-sym _ _ h) start-named).0)

    pub bound-can_be_told : (g : Strategy) (mm : List (Name × ℕ)) → g ≡ strategy_of s.1 → mm ≡ mismatches (flow_view p.flow) s.1 → (m : Matching) → Starts g mm m → CanTell m (bound_telling g leaf b)
    bound-can_be_told g mm e f m starts =
        subst (λ x. CanTell m (bound_telling x leaf b)) (sym e)
        (start-can_be_told flows (levels_in (flow_view p.flow)) view begun n s at m (starts.mismatch_is ∙ f) (bound_telling (strategy_of s.1) leaf b ∷ []) []
        (IsPermutation-map telling (m.told ++ (bound_telling (strategy_of s.1) leaf b ∷ [])) (step_start (flow_view p.flow) (named_values (flow_view p.flow).inputs vs) s.1)
        (subst (λ l. IsPermutation (l ++ (bound_telling (strategy_of s.1) leaf b ∷ [])) (step_start (flow_view p.flow) (named_values (flow_view p.flow).inputs vs) s.1)) (sym starts.told_is) h))).0

  -- what the ports are told by their numbers
  pub told-is : (ts : List code.Told) (ports : List Port) (constants : ℕ → Option Value) → constants ≡ constant_of_port (flow_constants (flow_view p.flow)) n → ports ≡ ports_of (flow_view p.flow) s.1 → AreTellings ts (λ g. ports_start vs constants g ports) → IsPermutation (map (told_view (strategy_of s.1)) ts) (step_start (flow_view p.flow) (named_values (flow_view p.flow).inputs vs) s.1)
  told-is ts ports constants c e h =
      subst (λ l. IsPermutation l (step_start (flow_view p.flow) (named_values (flow_view p.flow).inputs vs) s.1)) (sym (h (strategy_of s.1) ∙ ap (λ k. ports_start vs k (strategy_of s.1) ports) c ∙ ap (ports_start vs (constant_of_port (flow_constants (flow_view p.flow)) n) (strategy_of s.1)) e))
      (ports-start (flow_view p.flow) (plan-wired p) vs (many flows p vs can) n s at (constant_of_port (flow_constants (flow_view p.flow)) n) (λ k i there. constant-at (flow_view p.flow) n k s i at there))

  -- the same by one telling
  pub told-one : (t : Told) (ports : List Port) (constants : ℕ → Option Value) → constants ≡ constant_of_port (flow_constants (flow_view p.flow)) n → ports ≡ ports_of (flow_view p.flow) s.1 → ports_start vs constants (strategy_of s.1) ports ≡ t ∷ [] → IsPermutation (t ∷ []) (step_start (flow_view p.flow) (named_values (flow_view p.flow).inputs vs) s.1)
  told-one t ports constants c e h =
      subst (λ l. IsPermutation l (step_start (flow_view p.flow) (named_values (flow_view p.flow).inputs vs) s.1)) (sym (ap (λ k. ports_start vs k (strategy_of s.1) ports) c ∙ ap (ports_start vs (constant_of_port (flow_constants (flow_view p.flow)) n) (strategy_of s.1)) e) ∙ h)
      (ports-start (flow_view p.flow) (plan-wired p) vs (many flows p vs can) n s at (constant_of_port (flow_constants (flow_view p.flow)) n) (λ k i there. constant-at (flow_view p.flow) n k s i at there))

  -- ---- a step's plan

  pub plan-suits : (q : StepPlan) → step_plan_view q ≡ plan.step_plan (flow_view p.flow) s → Suits q.mismatch (strategy_view q.tree)
  plan-suits q e = let d = plan-parts (flow_view p.flow) q s e in subst (λ g. Suits q.mismatch g) (sym d.0) (subst (λ m. Suits m (strategy_of s.1)) (sym d.1) (step-suits (flow_view p.flow) (of-document p) n s at))

  pub plan-agrees : (q : StepPlan) → step_plan_view q ≡ plan.step_plan (flow_view p.flow) s → DotsAgree (number_of q.mismatch) (strategy_view q.tree)
  plan-agrees q e = let d = plan-parts (flow_view p.flow) q s e in subst (λ g. DotsAgree (number_of q.mismatch) g) (sym d.0) (subst (λ m. DotsAgree (number_of m) (strategy_of s.1)) (sym d.1) (dots-agree flows (flow_view p.flow) (plan-wired p) can.agrees n s at))

  pub plan-deep : (q : StepPlan) → step_plan_view q ≡ plan.step_plan (flow_view p.flow) s → q.depth ≡ strategy_depth (number_of q.mismatch) (strategy_view q.tree)
  plan-deep q e =
      let d = plan-parts (flow_view p.flow) q s e in
      d.2 ∙ ap (λ g. strategy_depth g (strategy_of s.1)) (sym (numbers-are (flow_view p.flow) s.1)) ∙ (λ i. strategy_depth (number_of (sym d.1 i)) (sym d.0 i))

  -- the matcher of the step and its idle jobs have one depth
  pub levelled : (tells : ℕ → Step → List Told) (count : ℕ) (i : Intakes) (idle : Idles) → HaveBegun (flow_view p.flow) tells count i idle → n < count → IsLevelled (matcher_at i n) (of_step idle.steps n)
  levelled tells count i idle h lt = by (matcher_at i n) (h.matchers n s lt at)
    where
      by : (o : Option Matcher) → HasBegun (flow_view p.flow) s.1 (tells n s.1) o → IsLevelled o (of_step idle.steps n)
      by None b = absurd b
      by (Some m) b =
          h.levels n s lt at ∙ ap (λ g. strategy_depth g (strategy_of s.1)) (sym (numbers-are (flow_view p.flow) s.1)) ∙ (λ i. strategy_depth (number_of (sym b.mismatch_is i)) (sym b.strategy_is i))

  -- a step that was told nothing
  pub nothing-told : (tells : ℕ → Step → List Told) (i : Intakes) (idle : Idles) → HaveBegun (flow_view p.flow) (but_at n tells) (n + 1) i idle → HasBegun (flow_view p.flow) s.1 [] (matcher_at i n)
  nothing-told tells i idle h =
      let lt : n < n + 1 = omega arith in
      subst (λ b. HasBegun (flow_view p.flow) s.1 (if b then [] else tells n s.1) (matcher_at i n)) (eq-eqb n n refl) (h.matchers n s lt at)

-- ---- the ports of a plan

pub ports-there : (p : FlowPlan) (n : ℕ) (steps : List StepPlan) → steps ≡ p.steps → n < length steps → (xs : List (List Port)) → xs ≡ p.wiring.ports → (r : List Port) → r ≡ get_or xs n r → slice_get p.wiring.ports n ≡ Some r
ports-there p n steps same lt xs here r is =
    let all = ap length same in
    let many = as-many-steps p in
    let wired = ap length (here ∙ ap (λ (w : Wiring). w.ports) (wiring-is p)) in
    let ports = length-map {B = List Port} (flow_view p.flow).steps (λ (s : Name × Step). ports_of (flow_view p.flow) s.1) in
    got-in xs p.wiring.ports n r here (omega (arith, lt, all, many, wired, ports)) is

pub ports-own : (p : FlowPlan) (n : ℕ) (s : Name × Step) (r : List Port) → slice_get (flow_view p.flow).steps n ≡ Some s → slice_get p.wiring.ports n ≡ Some r → r ≡ ports_of (flow_view p.flow) s.1
ports-own p n s r at e =
    let g : Some r ≡ Some (ports_of (flow_view p.flow) s.1) = sym e ∙ ap (λ (w : Wiring). slice_get w.ports n) (wiring-is p) ∙ get-map (λ (t : Name × Step). ports_of (flow_view p.flow) t.1) (flow_view p.flow).steps n s at in
    cc

pub given-ports : (flows : List (Name × Flow)) (p : FlowPlan) (inputs : List Piece) → CanStart flows p (piece_values inputs) → (n : ℕ) (r ports : List Port) → slice_get p.wiring.ports n ≡ Some r → ports ≡ r → (k : FlowConstants) → k ≡ flow_constants (flow_view p.flow) → AreFed (length inputs) (constant_of_port k n) ports
given-ports flows p inputs can n r ports e is k k_is number port there =
    let count : length inputs ≡ length (flow_view p.flow).inputs = sym (length-map inputs piece_value) ∙ many flows p (piece_values inputs) can in
    subst (λ c. IsFedFrom c (is_some (constant_of_port k n number)) port.feed) (sym count)
    (subst (λ m. IsFedFrom (length (flow_view p.flow).inputs) (is_some (constant_of_port m n number)) port.feed) (sym k_is)
    (ports-given p n r e number port (ap (λ l. slice_get l number) (sym is) ∙ there)))

pub all-begun : (p : FlowPlan) (steps : List StepPlan) → steps ≡ p.steps → (n : ℕ) → length steps ≤ n → n ≤ length steps → n ≡ length (flow_view p.flow).steps
all-begun p steps same n le ge = let all = ap length same in let many = as-many-steps p in omega (arith, le, ge, all, many)
