-- What is said of a known job is whether some value that it binds holds a fault.
use Rattle.std.specs.List.{list_all, list_any}
use Rattle.std.specs.Option.{option_map_or}
use Rattle.std.specs.Prelude.{◌≡◌, refl, ℕ, ◌+◌, Bool, true, false, if◌then◌else◌, is_some, List, [], ◌∷◌, flat_map, map, Option, Some, None, IsPermutation}
use Rattle.std.proofs.Common.{sym, ap, subst, ◌∙◌, inl, inr}
use Rattle.std.proofs.lemmas.Bool.{and_parts, true≢false}
use Rattle.std.proofs.lemmas.List.Sorted.{IsPermutation-refl, list_any-IsPermutation}
use Rattle.std.proofs.lemmas.Option.{none-some, same_Some}
use Rattle.std.proofs.Math.Bool.{or-false}
use Rattle.tv_lemmas.specs.Members.{Each, In}
use Rattle.tv_lemmas.proofs.Members.{each_in, in-flat, in_each, of-all, of-flat}
use Rattle.tv_value.specs.Nested.{Place, at, leaf, list, no_trees, nodes}
use Rattle.tv_value.specs.Orders.{named, same_name}
use Rattle.tv_value.specs.Values.{JobName, Name, Value, holds_fault}
use Rattle.tv_flow.specs.Flows.{Feed, Flow, Step, StepInput}
use Rattle.tv_strategy.specs.Conditions.{EachOnce}
use Rattle.tv_strategy.specs.Iterations.{Binding, Iteration, job, passed, walk}
use Rattle.tv_strategy.specs.Levels.{HasLevels, IsJob}
use Rattle.tv_strategy.specs.Measures.{DotsAgree, leaf_names}
use Rattle.tv_strategy.specs.Origins.{Origin, Traced, fixed}
use Rattle.tv_strategy.specs.Splits.{same_place}
use Rattle.tv_strategy.proofs.AtDepth.{walk-levels}
use Rattle.tv_strategy.proofs.PlaceLemmas.{same-itself}
use Rattle.tv_value.proofs.NameLemmas.{same_name-is}
use Rattle.tv_model.specs.instance.Delivered.{Delivered, Ported, feed_delivers, at_port}
use Rattle.tv_model.specs.instance.Steps.{bound_values, port_iteration, port_mismatch, strategy_of}
use Rattle.tv_model.specs.Instances.{given_of}
use Rattle.tv_model.proofs.Binds.{Binds}
use Rattle.tv_model.proofs.Delivers.{mismatches, ported-depth}
use Rattle.tv_model.proofs.Depths.{Takes, all-bind, declared_in}
use Rattle.tv_model.proofs.Sound.{StandsAt, all-stand, nodes-stand}
use Rattle.tv_matching.specs.Items.{Bound, Item, Stopped, ends, if_so, kind_of, known_items}
use Rattle.tv_matching.specs.Matched.{matched}
use Rattle.tv_matching.specs.Members.{Once, at_place}
use Rattle.tv_matching.specs.Told.{TellsFaults, Told, binds_some, bound_there, faulty_at, item_there, some_at, stop_there, told_to}
use Rattle.tv_matching.proofs.Bared.{faults-ride}
use Rattle.tv_matching.proofs.Natural.{matched-maps}
use Rattle.tv_matching.proofs.Members.{in-if}
use Rattle.tv_matching.proofs.Onces.{known-once}
use Rattle.tv_matching.proofs.Permutes.{flat-permutes}
use Rattle.tv_model.specs.instance.ByResults.{InstanceStep, PlacedJob, Results, iteration_on, jobs_at_node, ports_on, step_of}
use Rattle.tv_model.specs.instance.Events.{Events, known_by}
use Rattle.tv_framing.proofs.instances.InDepth.{as_made}
use Rattle.tv_framing.proofs.Frames.{known-stands}
use Rattle.tv_framing.proofs.LawLemmas.{matched-is_known}
use Rattle.tv_framing.specs.keeping.Told.{PortIsTold}
use Rattle.tv_framing.proofs.starts.Instances.{IsStepOf}
use Rattle.tv_framing.proofs.starts.Steps.{same-feeds}
use Rattle.tv_framing.proofs.faults.Bindings.{binding-holds}
use Rattle.tv_framing.proofs.faults.Leaves.{matched-alike}
use Rattle.tv_match.proofs.Faults.{single}

-- ---- jobs stand at nodes

pub record IsNodeJob (n : Name) (s : Step) (t : Iteration) (j : PlacedJob) : Type 0 where
  pub sources : List Origin
  pub binding : Binding
  pub stands : at t j.place ≡ Some (leaf sources (job binding))
  pub name : j.step ≡ n
  pub values : j.inputs ≡ bound_values s binding

of-node : (n : Name) (s : Step) (before : List Origin) (t : Iteration) (x : Place × Iteration) (j : PlacedJob) → In j (jobs_at_node n s before x) → at t x.0 ≡ Some x.1 → IsNodeJob n s t j
of-node n s before t (q, leaf r (job b)) j (inl e) h =
    record {
      sources = r;
      binding = b;
      stands = ap (λ (k : PlacedJob). at t k.place) e ∙ h;
      name = ap (λ (k : PlacedJob). k.step) e;
      values = ap (λ (k : PlacedJob). k.inputs) e;
    }
of-node n s before t (q, leaf r (job b)) j (inr i) h = absurd i
of-node n s before t (q, leaf r (passed m e)) j i h = absurd i
of-node n s before t (q, list r ts) j i h = absurd i

pub node-job : (n : Name) (s : Step) (before : List Origin) (t : Iteration) (j : PlacedJob) → In j (flat_map (jobs_at_node n s before) (nodes t)) → IsNodeJob n s t j
node-job n s before t j i =
    let a = of-flat (jobs_at_node n s before) j (nodes t) i in
    of-node n s before t a.0 j a.2 (each_in (λ (x : Place × Iteration). StandsAt t x.0 x.1) (nodes t) (nodes-stand (StandsAt t) t [] (all-stand t t [] refl)) a.0 a.1)

-- ---- what stands alone at its place

alone : (test : Bound → Bool) (q : Place) (xs : List (Item Bound Stopped)) → Once xs → (x : Item Bound Stopped) → In x xs → x.place ≡ q → (b : Binding) → x.kind ≡ ends b → some_at test q xs ≡ list_any test b
alone test q xs once x i e b k =
    ap (list_any (λ (y : Item Bound Stopped). binds_some test y.kind))
    (single x (at_place q xs) (in-flat (λ (y : Item Bound Stopped). if_so (same_place q y.place) y) x x xs i (in-if (same_place q x.place) x (ap (same_place q) e ∙ same-itself q))) (once q))
    ∙ or-false (binds_some test x.kind)
    ∙ ap (binds_some test) k

some-permutes : (test : Bound → Bool) (q : Place) (xs ys : List (Item Bound Stopped)) → IsPermutation xs ys → some_at test q xs ≡ some_at test q ys
some-permutes test q xs ys h =
    list_any-IsPermutation (λ (y : Item Bound Stopped). binds_some test y.kind) (at_place q xs) (at_place q ys) (flat-permutes (λ (y : Item Bound Stopped). if_so (same_place q y.place) y) xs ys h)

-- ---- ports

find-port : {A : Type 0} (p : Name) (xs : List (Name × A)) (a : A) → named p xs ≡ Some a → (x : Name × A) × In x xs × (x.0 ≡ p) × (x.1 ≡ a)
find-port p [] a h = absurd (none-some a h)
find-port {A = A} p (x ∷ xs) a h = by (same_name p x.0) refl h (λ k. find-port p xs a k)
  where
    by : (b : Bool) → same_name p x.0 ≡ b → (if b then Some x.1 else named p xs) ≡ Some a → (named p xs ≡ Some a → (y : Name × A) × In y xs × (y.0 ≡ p) × (y.1 ≡ a)) → (y : Name × A) × In y (x ∷ xs) × (y.0 ≡ p) × (y.1 ≡ a)
    by true e k rec = (x, inl refl, sym (same_name-is p x.0 e), same_Some x.1 a k)
    by false e k rec = let r = rec k in (r.0, inr r.1, r.2, r.3)

ports-leveled : (f : StepInput → Ported) (is : List (Name × StepInput)) → Each (Takes f) is → (p : Name) → HasLevels (port_iteration (map (λ (i : Name × StepInput). (i.0, f i.1)) is) p) (port_mismatch (map (λ (i : Name × StepInput). (i.0, f i.1)) is) p)
ports-leveled f [] h p = refl
ports-leveled f (i ∷ is) h p = by (same_name p i.0) (ports-leveled f is h.1 p)
  where
    by : (b : Bool) → HasLevels (port_iteration (map (λ (j : Name × StepInput). (j.0, f j.1)) is) p) (port_mismatch (map (λ (j : Name × StepInput). (j.0, f j.1)) is) p) → HasLevels (option_map_or (λ (d : Ported). walk p d.mismatch d.value) (if b then Some (f i.1) else named p (map (λ (j : Name × StepInput). (j.0, f j.1)) is)) (leaf [] (job []))) (option_map_or (λ (d : Ported). d.mismatch) (if b then Some (f i.1) else named p (map (λ (j : Name × StepInput). (j.0, f j.1)) is)) 0)
    by true k = walk-levels p (f i.1).value (f i.1).mismatch i.1.depth ((f i.1).mismatch + i.1.depth) refl h.0
    by false k = k

abbrev nothing : Traced
nothing = list fixed no_trees

-- ---- one step of an instance

module _ (flow : Flow) (levels : Name → ℕ) (instance : JobName) (results : Results) (inputs : List (Name × Value)) (flows : List (Name × Flow)) (fs : List InstanceStep) (f : InstanceStep) (s : Name × Step) (w : IsStepOf flow levels instance results inputs flows fs f s)
    (rise : (i : Name × StepInput) → In i s.1.inputs → named i.0 (ports_on (feed_delivers step_of (given_of flow inputs) w.before) s.1.inputs) ≡ Some (at_port i.1.depth (feed_delivers step_of (given_of flow inputs) w.before i.1.from)))
    (es : Events) (ts : List Told) where
  abbrev given : List (Name × Delivered)
  given = given_of flow inputs

  abbrev takes_in : StepInput → Ported
  takes_in i = at_port i.depth (feed_delivers step_of given w.before i.from)

  abbrev ports : List (Name × Ported)
  ports = ports_on (feed_delivers step_of given w.before) s.1.inputs

  abbrev known : Origin → Bool
  known o = known_by instance es o

  abbrev iteration_of : Iteration
  iteration_of = iteration_on (feed_delivers step_of given w.before) s.1

  -- the values that ports are delivered
  abbrev pub values : Name → Traced
  values p = option_map_or (λ (d : Ported). d.value) (named p ports) nothing

  pub delivered : Each (λ (d : Name × Ported). values d.0 ≡ d.1.value) ports
  delivered = each-mapped s.1.inputs (λ i g. g)
    where
      each-mapped : (is : List (Name × StepInput)) → ((i : Name × StepInput) → In i is → In i s.1.inputs) → Each (λ (d : Name × Ported). values d.0 ≡ d.1.value) (ports_on (feed_delivers step_of given w.before) is)
      each-mapped [] h = tt
      each-mapped (i ∷ is) h = (ap (λ o. option_map_or (λ (d : Ported). d.value) o nothing) (rise i (h i (inl refl))), each-mapped is (λ j g. h j (inr g)))

  all-take : Each (Takes takes_in) s.1.inputs
  all-take = in_each (Takes takes_in) s.1.inputs (λ i g. ported-depth i.1.depth (feed_delivers step_of given w.before i.1.from) (w.ports i g).right)

  dots : DotsAgree (port_mismatch ports) (strategy_of s.1)
  dots =
      subst (λ g. DotsAgree g (strategy_of s.1))
      (sym (ap (λ (h : Feed → Delivered). port_mismatch (ports_on h s.1.inputs)) (λ i d. sym (same-feeds given w.before d) i) ∙ mismatches given (map as_made w.before) s.1))
      w.agree.dots

  module _ (told : Each (PortIsTold instance es ts) ports) (truly : Each (TellsFaults values) ts) where
    -- what ports were told, and what is known of names that aren't ports
    abbrev heard : Name → List (Item Bound Stopped)
    heard p = option_map_or (λ (d : Ported). map (item_there values) (told_to ts p)) (named p ports) (known_items known (port_iteration ports p))

    agrees : (p : Name) → IsPermutation (heard p) (known_items known (port_iteration ports p))
    agrees p = by (named p ports) refl
      where
        by : (o : Option Ported) → named p ports ≡ o → IsPermutation (option_map_or (λ (d : Ported). map (item_there values) (told_to ts p)) o (known_items known (port_iteration ports p))) (known_items known (port_iteration ports p))
        by None e = IsPermutation-refl (known_items known (port_iteration ports p))
        by (Some d) e =
            let x = find-port p ports d e in
            subst (λ o. IsPermutation (map (item_there values) (told_to ts p)) (known_items known (option_map_or (λ (d : Ported). walk p d.mismatch d.value) o (leaf [] (job []))))) (sym e)
            (subst (λ n. IsPermutation (map (item_there values) (told_to ts n)) (known_items known (walk n d.mismatch d.value))) x.2
            (subst (λ (c : Ported). IsPermutation (map (item_there values) (told_to ts x.0.0)) (known_items known (walk x.0.0 c.mismatch c.value))) x.3
            (each_in (PortIsTold instance es ts) ports told x.0 x.1 values (each_in (λ (c : Name × Ported). values c.0 ≡ c.1.value) ports delivered x.0 x.1))))

    -- what is matched is what is known
    is-known : IsPermutation (matched heard (strategy_of s.1)) (known_items known iteration_of)
    is-known = matched-is_known known instance results given w.before s.0 s.1 (ports-leveled takes_in s.1.inputs all-take) dots heard agrees

    leaf-heard : (p : Name) → is_some (named p s.1.inputs) ≡ true → heard p ≡ map (item_there values) (told_to ts p)
    leaf-heard p h = by (named p s.1.inputs) refl h
      where
        by : (o : Option StepInput) → named p s.1.inputs ≡ o → is_some o ≡ true → heard p ≡ map (item_there values) (told_to ts p)
        by None e k = absurd (true≢false (sym k))
        by (Some i) e k =
            let x = find-port p s.1.inputs i e in
            ap (λ o. option_map_or (λ (d : Ported). map (item_there values) (told_to ts p)) o (known_items known (port_iteration ports p))) (ap (λ n. named n ports) (sym x.2) ∙ rise x.0 x.1)

    leaves-heard : (ns : List Name) → list_all (λ p. is_some (named p s.1.inputs)) ns ≡ true → Each (λ p. heard p ≡ map (item_there values) (told_to ts p)) ns
    leaves-heard [] h = tt
    leaves-heard (p ∷ ns) h =
        let b = and_parts (is_some (named p s.1.inputs)) (list_all (λ p. is_some (named p s.1.inputs)) ns) h in
        (leaf-heard p b.0, leaves-heard ns b.1)

    -- as the matcher has it
    abbrev test : Bound → Bool
    test r = holds_fault r.1

    said-known : (q : Place) → faulty_at (strategy_of s.1) ts q ≡ some_at test q (known_items known iteration_of)
    said-known q =
        faults-ride values (strategy_of s.1) ts truly q
        ∙ ap (some_at test q)
        (sym (matched-maps (bound_there values) (stop_there values) (told_to ts) (strategy_of s.1))
        ∙ sym (matched-alike heard (λ p. map (item_there values) (told_to ts p)) (strategy_of s.1) (leaves-heard (leaf_names (strategy_of s.1)) w.agree.ports)))
        ∙ some-permutes test q (matched heard (strategy_of s.1)) (known_items known iteration_of) is-known

    -- OF A JOB that is known
    pub job-holds : EachOnce (leaf_names (strategy_of s.1)) (leaf_names (strategy_of s.1)) → (j : PlacedJob) → IsNodeJob s.0 s.1 iteration_of j → (x : Item Bound Stopped) → In x (known_items known iteration_of) → x.place ≡ j.place → faulty_at (strategy_of s.1) ts j.place ≡ list_any (λ v. holds_fault v) j.inputs
    job-holds once j node x i e =
        let u = known-stands known iteration_of x i in
        let same : u.0 ≡ leaf node.sources (job node.binding) = same_Some u.0 (leaf node.sources (job node.binding)) (sym u.1 ∙ ap (at iteration_of) e ∙ node.stands) in
        let kind : x.kind ≡ ends node.binding = u.2 ∙ ap kind_of same in
        let binds : Binds (declared_in s.1.inputs) (leaf_names (strategy_of s.1)) iteration_of = all-bind takes_in s.1.inputs all-take (strategy_of s.1) dots w.agree.ports in
        let bound = binds j.place node.binding (subst (λ o. IsJob o node.binding) (sym node.stands) refl) in
        said-known j.place
        ∙ alone test j.place (known_items known iteration_of) (λ q. known-once known q iteration_of) x i e node.binding kind
        ∙ binding-holds (leaf_names (strategy_of s.1)) s.1.inputs node.binding bound.0 once (λ n g. of-all (λ p. is_some (named p s.1.inputs)) (leaf_names (strategy_of s.1)) w.agree.ports n g)
        ∙ ap (list_any (λ v. holds_fault v)) (sym node.values)
