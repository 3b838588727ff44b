-- A known job binds one list of values, and its place has the part of each port where the port's leaf begins.
use Rattle.std.specs.List.{list_any}
use Rattle.std.specs.Prelude.{◌≡◌, refl, ℕ, suc, ◌+◌, ◌≤◌, Bool, true, false, if◌then◌else◌, List, [], ◌∷◌, ◌++◌, drop, length, map, take, Some, slice_get, unwrap_or}
use Rattle.std.proofs.Common.{arith, inl, sym, ap, ap₂, subst, ◌∙◌}
use Rattle.std.proofs.lemmas.List.Sorted.{IsPermutation-sym}
use Rattle.std.proofs.lemmas.Option.{get_or_from_slice_get, none-some, same_Some, slice_get_within}
use Rattle.tv_lemmas.specs.Members.{Each, In}
use Rattle.tv_lemmas.proofs.Members.{each_in, in-flat, in_each}
use Rattle.tv_lemmas.proofs.Lists.{get-map, of-get_map}
use Rattle.tv_value.specs.Nested.{Place, at, leaf, list, nodes}
use Rattle.tv_value.specs.Orders.{named, same_name}
use Rattle.tv_value.specs.Strategies.{Strategy, port, cross, dot, prefix, Strategies, no_strategies, strategy}
use Rattle.tv_value.specs.Values.{Name, Value}
use Rattle.tv_value.specs.Views.{strategy_view}
use Rattle.tv_flow.specs.Flows.{Flow, Step, StepInput}
use Rattle.tv_strategy.specs.Conditions.{number_of}
use Rattle.tv_strategy.specs.Iterations.{Iteration, job, passed}
use Rattle.tv_strategy.specs.Measures.{AllDotsAgree, DotsAgree, HaveOneDepth, first_depth, leaf_names, strategy_depth, sum_of_depths}
use Rattle.tv_strategy.specs.Origins.{Origin, plain}
use Rattle.tv_strategy.specs.Splits.{split}
use Rattle.tv_strategy.proofs.LawLemmas.{split-names_leaves}
use Rattle.tv_strategy.proofs.Sources.{each-append}
use Rattle.tv_naming.proofs.ByPosition.{named-at, names_of}
use Rattle.tv_flow.specs.Formed.{is_ascending}
use Rattle.tv_model.specs.instance.Steps.{bound_values, strategy_of}
use Rattle.tv_matching.specs.Items.{Bound, Item, Stopped, kind_of, known_items}
use Rattle.tv_matching.specs.Told.{Spot}
use Rattle.tv_matching.proofs.Members.{in-permutes}
use Rattle.tv_check.specs.Ports.{leaf_number, levels_of, mismatches, port_among}
use Rattle.tv_binding.specs.declared.jobs.StepPorts.{StepPorts}
use Rattle.tv_binding.specs.Parts.{IsPartOf}
use Rattle.tv_frame.specs.Starts.{cross_starts, dot_starts, starts}
use Rattle.tv_frame.proofs.StartLemmas.{places-split}
use Rattle.tv_model.specs.instance.ByResults.{InstanceStep, PlacedJob, jobs_at_node}
use Rattle.tv_model.specs.instance.Events.{gave, known_by}
use Rattle.tv_framing.proofs.instances.Settling.{node-listed}
use Rattle.tv_framing.specs.Answers.{AreInputs, AreInputsOf}
use Rattle.tv_framing.specs.Frames.{FitsKind, IsFrame, known_jobs}
use Rattle.tv_framing.specs.Views.{View, steps_with}
use Rattle.tv_framing.proofs.Frames.{job-end, known-stands}
use Rattle.tv_framing.proofs.Possible.{some-possible}
use Rattle.tv_framing.specs.matches.Steps.{IsOfRankedFlow}
use Rattle.tv_framing.proofs.matches.Steps.{IsMadeOf, made-of, steps-paired}
use Rattle.tv_frame.proofs.JobPorts.{leaf-at}
use Rattle.tv_frame.proofs.Plans.{each-there}

-- ---- a known job binds one list of values

-- a known end of a step is a job of it
placed : (flow : Flow) (s : Name × Step) (f : InstanceStep) → IsMadeOf flow s f → (known : Origin → Bool) (x : Item Bound Stopped) → In x (known_items known f.step.iteration) → (n : Name) (q : Place) → x.place ≡ q → FitsKind (gave n q []) x.kind → (k : PlacedJob) × In k f.jobs × (k.step ≡ s.0) × (k.place ≡ q)
placed flow s f made known x i n q place fits =
    let st = known-stands known f.step.iteration x i in
    by st.0 (ap (at f.step.iteration) (sym place) ∙ st.1) (subst (FitsKind (gave n q [])) st.2 fits)
  where
    by : (u : Iteration) → at f.step.iteration q ≡ Some u → FitsKind (gave n q []) (kind_of u) → (k : PlacedJob) × In k f.jobs × (k.step ≡ s.0) × (k.place ≡ q)
    by (leaf r (job b)) e h =
        let k : PlacedJob = record { step = s.0; place = q; inputs = bound_values s.1 b; waits = r ++ made.before } in
        (k, subst (In k) (sym made.jobs) (in-flat (jobs_at_node s.0 s.1 made.before) (q, leaf r (job b)) k (nodes f.step.iteration) (node-listed f.step.iteration q (leaf r (job b)) e) (inl refl)), refl, refl)
    by (leaf r (passed m d)) e h = absurd h
    by (list r ts) e h = absurd h

pub binds-once : (flows : List (Name × Flow)) (levels : Name → ℕ) (v : View) → IsOfRankedFlow flows levels v → IsFrame v → (s : Name) (q : Place) → In (s, q) v.jobs → (vs ws : List Value) → AreInputs v (s, q) vs → AreInputs v (s, q) ws → vs ≡ ws
binds-once flows levels v w frame s q i vs ws a b =
    let r = some-possible v [] frame.given in
    let fs = steps_with v [] r.0 in
    let known : Origin → Bool = known_by [] v.events in
    let j = job-end known fs s q (in-permutes (s, q) (known_jobs known fs) v.jobs (IsPermutation-sym _ _ (frame.known [] r.0 r.1 r.2)) i) in
    let t = made-of v.flow fs v.flow.steps (steps-paired flows levels v w [] r.0 r.1) j.0 j.1 in
    let k = placed v.flow t.0 j.0 t.2 known j.3 j.4 s q j.5 j.6 in
    let bound : (us : List Value) → AreInputs v (s, q) us → us ≡ map plain k.0.inputs =
    λ us h. each_in (AreInputsOf (s, q) us) j.0.jobs (each_in (λ (f : InstanceStep). Each (AreInputsOf (s, q) us) f.jobs) fs (h [] r.0 r.1 r.2) j.0 j.1) k.0 k.1 (k.2 ∙ sym t.2.name ∙ j.2) k.3 in
    bound vs a ∙ sym (bound ws b)

-- ---- where leaves begin

-- from there on a place has as many indices as the leaf has levels
module _ (ports : Name → ℕ) where
  abbrev FitsIn : ℕ → Name × ℕ → Type 0
  FitsIn end x = x.1 + ports x.0 ≤ end

  wider : (a b : ℕ) → a ≤ b → (xs : List (Name × ℕ)) → Each (FitsIn a) xs → Each (FitsIn b) xs
  wider a b le xs h = in_each (FitsIn b) xs (λ x i. more (x.1 + ports x.0) a b (each_in (FitsIn a) xs h x i) le)
    where
      more : (n a b : ℕ) → n ≤ a → a ≤ b → n ≤ b
      more n a b h k = omega arith

  self : (n : ℕ) → n ≤ n
  self n = omega arith

  first-in : (a b c : ℕ) → a + b ≤ a + (b + c)
  first-in a b c = omega arith

  rest-in : (a b c : ℕ) → (a + b) + c ≤ a + (b + c)
  rest-in a b c = omega arith

  mutual
    starts-fit : (s : Strategy) (begin : ℕ) → DotsAgree ports s → Each (FitsIn (begin + strategy_depth ports s)) (starts ports begin s)
    starts-fit (port p) begin a = (self (begin + ports p), tt)
    starts-fit (cross cs) begin a = cross-fit cs begin a
    starts-fit (dot no_strategies) begin a = tt
    starts-fit (dot (strategy c cs)) begin a = dot-fit (strategy c cs) begin (strategy_depth ports c) a.0 a.1 refl
    starts-fit (prefix l r) begin a =
        let d = strategy_depth ports l in
        let e = strategy_depth ports r in
        each-append (FitsIn (begin + e)) (starts ports begin l) (starts ports begin r)
        (wider (begin + d) (begin + e) (let le = a.2 in omega (arith, le)) (starts ports begin l) (starts-fit l begin a.0))
        (starts-fit r begin a.1)

    cross-fit : (cs : Strategies) (begin : ℕ) → AllDotsAgree ports cs → Each (FitsIn (begin + sum_of_depths ports cs)) (cross_starts ports begin cs)
    cross-fit no_strategies begin a = tt
    cross-fit (strategy c cs) begin a =
        let d = strategy_depth ports c in
        let e = sum_of_depths ports cs in
        each-append (FitsIn (begin + (d + e))) (starts ports begin c) (cross_starts ports (begin + d) cs)
        (wider (begin + d) (begin + (d + e)) (first-in begin d e) (starts ports begin c) (starts-fit c begin a.0))
        (wider ((begin + d) + e) (begin + (d + e)) (rest-in begin d e) (cross_starts ports (begin + d) cs) (cross-fit cs (begin + d) a.1))

    dot-fit : (cs : Strategies) (begin d : ℕ) → AllDotsAgree ports cs → HaveOneDepth ports cs → d ≡ first_depth ports cs → Each (FitsIn (begin + d)) (dot_starts ports begin cs)
    dot-fit no_strategies begin d a o e = tt
    dot-fit (strategy c no_strategies) begin d a o e =
        each-append (FitsIn (begin + d)) (starts ports begin c) [] (subst (λ n. Each (FitsIn (begin + n)) (starts ports begin c)) (sym e) (starts-fit c begin a.0)) tt
    dot-fit (strategy c (strategy b bs)) begin d a o e =
        each-append (FitsIn (begin + d)) (starts ports begin c) (dot_starts ports begin (strategy b bs))
        (subst (λ n. Each (FitsIn (begin + n)) (starts ports begin c)) (sym e) (starts-fit c begin a.0))
        (dot-fit (strategy b bs) begin d a.1 o.1 (e ∙ o.0))

-- ---- an input of a name

pub named-there : {A : Type 0} (xs : List (Name × A)) (k : ℕ) (x : Name × A) → is_ascending (names_of xs) ≡ true → slice_get xs k ≡ Some x → named x.0 xs ≡ Some x.1
named-there {A = A} xs k x rise e =
    let same = get_or_from_slice_get xs k x x e in
    ap (λ (y : Name × A). named y.0 xs) (sym same) ∙ named-at xs k x rise (slice_get_within xs k x e) ∙ ap (λ (y : Name × A). Some y.1) same

pub named-mapped : {A B : Type 0} (g : A → B) (n : Name) (xs : List (Name × A)) (x : A) → named n xs ≡ Some x → named n (map (λ (y : Name × A). (y.0, g y.1)) xs) ≡ Some (g x)
named-mapped g n [] x e = absurd (none-some x e)
named-mapped {A = A} {B = B} g n (y ∷ xs) x e = by (same_name n y.0) e (named-mapped g n xs x)
  where
    by : (b : Bool) → (if b then Some y.1 else named n xs) ≡ Some x → (named n xs ≡ Some x → named n (map (λ (z : Name × A). (z.0, g z.1)) xs) ≡ Some (g x)) → (if b then Some (g y.1) else named n (map (λ (z : Name × A). (z.0, g z.1)) xs)) ≡ Some (g x)
    by true h k = ap (λ z. Some (g z)) (same_Some y.1 x h)
    by false h k = k h

-- ---- the part of each port

pub each-mapped : {A B : Type 0} (P : B → Type 0) (f : A → B) (xs : List A) → ((k : ℕ) (x : A) → slice_get xs k ≡ Some x → P (f x)) → Each P (map f xs)
each-mapped P f [] h = tt
each-mapped P f (x ∷ xs) h = (h 0 x refl, each-mapped P f xs (λ k y e. h (suc k) y e))

module _ (f : Flow) (s : Name × Step) (agree : DotsAgree (number_of (mismatches f s.1)) (strategy_of s.1)) (rise : is_ascending (names_of s.1.inputs) ≡ true) (q : Place) (deep : length q ≡ strategy_depth (number_of (mismatches f s.1)) (strategy_of s.1))
    (p : StepPorts) (mismatch : p.mismatch.now ≡ mismatches f s.1) (tree : strategy_view p.tree.now ≡ strategy_of s.1) where
  abbrev levels : Name → ℕ
  levels = number_of (mismatches f s.1)

  abbrev begins : List (Name × ℕ)
  begins = starts levels 0 (strategy_of s.1)

  abbrev part : Name × ℕ → Spot
  part x = (x.0, take (levels x.0) (drop x.1 q))

  pub port-part : (k : ℕ) (i : Name × StepInput) → slice_get s.1.inputs k ≡ Some i → list_any (same_name i.0) (leaf_names (strategy_of s.1)) ≡ true → IsPartOf p q (map (λ x. x.1) begins) (port_among f (leaf_names (strategy_of s.1)) i)
  port-part k i e here_so =
      let n = leaf_number i.0 (leaf_names (strategy_of s.1)) in
      let rs = split levels (strategy_of s.1) q in
      let names = split-names_leaves levels (strategy_of s.1) q in
      let l = leaf-at (λ r. Unit {0}) i.0 rs (subst (λ ns. list_any (same_name i.0) ns ≡ true) (sym names) here_so) (in_each (λ r. Unit {0}) rs (λ r h. tt)) in
      let here : slice_get rs n ≡ Some (i.0, l.place) = ap (λ ns. slice_get rs (leaf_number i.0 ns)) (sym names) ∙ l.here in
      let places = places-split levels (strategy_of s.1) agree q deep in
      let x = of-get_map part begins n (i.0, l.place) (ap (λ ts. slice_get ts n) (sym places) ∙ here) in
      let name : i.0 ≡ x.0.0 = ap (λ (r : Spot). r.0) x.1.1 in
      let own : levels x.0.0 ≡ levels_of f i.1 =
      ap levels (sym name) ∙ ap (λ o. unwrap_or o 0) (named-mapped (levels_of f) i.0 s.1.inputs i.1 (named-there s.1.inputs k i rise e)) in
      record {
        start = x.0.1;
        begins = get-map (λ (y : Name × ℕ). y.1) begins n x.0 x.1.0;
        fits = fit x.0.1 (levels x.0.0) (levels_of f i.1) (strategy_depth levels (strategy_of s.1)) (length q) (each-there (FitsIn levels (0 + strategy_depth levels (strategy_of s.1))) begins n x.0 (starts-fit levels (strategy_of s.1) 0 agree) x.1.0) own deep;
        leaf = i.0;
        part =
            ap₂ (λ m g. slice_get (split (number_of m) g q) n) mismatch tree ∙ here
            ∙ ap (λ (r : Spot). Some (i.0, r.1)) x.1.1 ∙ ap (λ m. Some (i.0, take m (drop x.0.1 q))) own;
      }
    where
      fit : (a b c d e : ℕ) → a + b ≤ 0 + d → b ≡ c → e ≡ d → a + c ≤ e
      fit a b c d e h g k = omega arith
