-- A job binds of each port what stands in its value at the port's part of the job's place.
use Rattle.std.specs.List.{cons_option, list_all, list_any}
use Rattle.std.specs.Prelude.{◌≡◌, refl, ℕ, Bool, true, false, filter_map, if◌then◌else◌, List, [], ◌∷◌, ◌++◌, map, Option, Some, option_and_then, option_map, unwrap_or}
use Rattle.std.proofs.Common.{sym, ap, ap₂, subst, ◌∙◌, inl, inr}
use Rattle.std.proofs.Math.Path.{fun_ext}
use Rattle.std.proofs.lemmas.Bool.{and_parts, true≢false}
use Rattle.std.proofs.lemmas.Option.{same_Some}
use Rattle.std.proofs.lemmas.Simd.{map-map}
use Rattle.tv_lemmas.specs.Members.{Each, In}
use Rattle.tv_lemmas.proofs.Members.{each_in, in_each, of-flat}
use Rattle.tv_value.specs.Nested.{leaf, list, Place, at, nodes}
use Rattle.tv_value.specs.Orders.{named, same_name}
use Rattle.tv_value.specs.Values.{Name, Value}
use Rattle.tv_flow.specs.Flows.{Flow, Step, StepInput}
use Rattle.tv_strategy.specs.Conditions.{place_of}
use Rattle.tv_strategy.specs.Iterations.{Binding, Iteration, job, passed, walk}
use Rattle.tv_strategy.specs.Levels.{IsJob}
use Rattle.tv_strategy.specs.Measures.{leaf_names}
use Rattle.tv_strategy.specs.Origins.{Traced, plain}
use Rattle.tv_strategy.specs.Splits.{split}
use Rattle.tv_strategy.proofs.AtPlace.{JobsAt, split-jobs}
use Rattle.tv_strategy.proofs.Ends.{walk-at}
use Rattle.tv_strategy.proofs.LawLemmas.{split-names_leaves}
use Rattle.tv_strategy.proofs.PlaceLemmas.{same-equal, same-itself}
use Rattle.tv_model.specs.instance.Delivered.{Ported}
use Rattle.tv_model.specs.instance.Steps.{bound_values, port_iteration, port_mismatch, strategy_of}
use Rattle.tv_matching.specs.Told.{Spot}
use Rattle.tv_matching.proofs.Lists.{map-same}
use Rattle.tv_model.specs.Agreeing.{FindThemselves}
use Rattle.tv_model.proofs.Depths.{taken_by}
use Rattle.tv_model.proofs.Sound.{StandsAt, all-stand, nodes-stand}
use Rattle.tv_model.specs.instance.ByResults.{InstanceStep, PlacedJob, jobs_at_node}
use Rattle.tv_framing.specs.matches.Items.{StandAtParts, part_of_port}
use Rattle.tv_framing.proofs.matches.Leaves.{among-in, leaf-in}
use Rattle.tv_framing.proofs.matches.Matched.{at-plain}
use Rattle.tv_framing.proofs.matches.Steps.{IsMadeOf, value_in, walk_in}

-- ---- a binding, name by name

module _ (ports : Name → Iteration) (values : Name → Traced) where
  -- the port walks its value
  abbrev IsWalk : Spot → Type 0
  IsWalk r = (k : ℕ) × (ports r.0 ≡ walk r.0 k (values r.0))

  abbrev there : Name → Option Place → Option Traced
  there p o = option_and_then (λ q. at (values p) q) o

  named-first : (p : Name) (r : Spot) (rs : List Spot) (w : Traced) (d : Binding) → at (values r.0) r.1 ≡ Some w → named p d ≡ there p (named p rs) → named p ((r.0, w) ∷ d) ≡ there p (named p (r ∷ rs))
  named-first p r rs w d e rec = by (same_name p r.0) refl
    where
      by : (b : Bool) → same_name p r.0 ≡ b → (if b then Some w else named p d) ≡ there p (if b then Some r.1 else named p rs)
      by true t = sym e ∙ ap (λ n. at (values n) r.1) (sym (same-equal p r.0 t))
      by false t = rec

  -- a name is bound to what stands at its place
  bound-named : (rs : List Spot) (b : Binding) → JobsAt ports rs b → Each IsWalk rs → (p : Name) → named p b ≡ there p (named p rs)
  bound-named [] b h w p = ap (named p) h
  bound-named (r ∷ rs) b h w p =
      let one = walk-at r.0 w.0.0 (values r.0) r.1 h.0 (subst (λ t. IsJob (at t r.1) h.0) w.0.1 h.3) in
      ap (named p) (h.2 ∙ ap (λ c. c ++ h.1) one.1) ∙ named-first p r rs one.0 h.1 one.2 (bound-named rs h.1 h.4 w.1 p)

  -- and each name has something
  bound-some : (rs : List Spot) (b : Binding) → JobsAt ports rs b → Each IsWalk rs → (p : Name) → In p (map (λ (r : Spot). r.0) rs) → (w : Traced) × (named p b ≡ Some w)
  bound-some [] b h w p i = absurd i
  bound-some (r ∷ rs) b h w p i =
      let one = walk-at r.0 w.0.0 (values r.0) r.1 h.0 (subst (λ t. IsJob (at t r.1) h.0) w.0.1 h.3) in
      let r' = by one.0 (same_name p r.0) refl i (λ j. bound-some rs h.1 h.4 w.1 p j) in
      (r'.0, ap (named p) (h.2 ∙ ap (λ c. c ++ h.1) one.1) ∙ r'.1)
    where
      by : (v : Traced) (b : Bool) → same_name p r.0 ≡ b → In p (r.0 ∷ map (λ (t : Spot). t.0) rs) → (In p (map (λ (t : Spot). t.0) rs) → (u : Traced) × (named p h.1 ≡ Some u)) → (u : Traced) × ((if b then Some v else named p h.1) ≡ Some u)
      by v true t j rec = (v, refl)
      by v false t (inl e) rec = absurd (true≢false (sym (subst (λ n. same_name p n ≡ true) e (same-itself p)) ∙ t))
      by v false t (inr j) rec = rec j

named-some : (p : Name) (rs : List Spot) → In p (map (λ (r : Spot). r.0) rs) → (q : Place) × (named p rs ≡ Some q)
named-some p [] i = absurd i
named-some p (r ∷ rs) i = by (same_name p r.0) refl i (named-some p rs)
  where
    by : (b : Bool) → same_name p r.0 ≡ b → In p (r.0 ∷ map (λ (t : Spot). t.0) rs) → (In p (map (λ (t : Spot). t.0) rs) → (q : Place) × (named p rs ≡ Some q)) → (q : Place) × ((if b then Some r.1 else named p rs) ≡ Some q)
    by true t j rec = (r.1, refl)
    by false t (inl e) rec = absurd (true≢false (sym (subst (λ n. same_name p n ≡ true) e (same-itself p)) ∙ t))
    by false t (inr j) rec = rec j

-- ---- port by port

named-taken : (F : StepInput → Ported) (p : Name) (is : List (Name × StepInput)) → named p (taken_by F is) ≡ option_map F (named p is)
named-taken F p [] = refl
named-taken F p (i ∷ is) = by (same_name p i.0) (named-taken F p is)
  where
    by : (b : Bool) → named p (taken_by F is) ≡ option_map F (named p is) → (if b then Some (F i.1) else named p (taken_by F is)) ≡ option_map F (if b then Some i.1 else named p is)
    by true h = refl
    by false h = h

-- what a port binds is what stands there in its value
abbrev Binds : Binding → (StepInput → Traced) → (Name → Place) → Name × StepInput → Type 0
Binds b value place i = (w : Traced) × (named i.0 b ≡ Some w) × (at (value i.1) (place i.0) ≡ Some w)

bound-list : (b : Binding) (value : StepInput → Traced) (place : Name → Place) (is : List (Name × StepInput)) → Each (Binds b value place) is → map {B = Option Traced} (λ w. Some w) (filter_map (λ i. named i.0 b) is) ≡ map (λ (i : Name × StepInput). at (value i.1) (place i.0)) is
bound-list b value place [] h = refl
bound-list b value place (i ∷ is) h =
    ap (λ o. map {B = Option Traced} (λ w. Some w) (cons_option o (filter_map (λ (j : Name × StepInput). named j.0 b) is))) h.0.1
    ∙ ap₂ (λ a l. a ∷ l) (sym h.0.2) (bound-list b value place is h.1)

pub each-both : (p : Name × StepInput → Bool) (P : Name × StepInput → Type 0) (Q : Name × StepInput → Type 0) (is : List (Name × StepInput)) → ((i : Name × StepInput) → p i ≡ true → P i → Q i) → list_all p is ≡ true → Each P is → Each Q is
each-both p P Q [] f h k = tt
each-both p P Q (i ∷ is) f h k =
    let e = and_parts (p i) (list_all p is) h in
    (f i e.0 k.0, each-both p P Q is f e.1 k.1)

pub each-finds : (all is : List (Name × StepInput)) → FindThemselves all is → Each (λ (i : Name × StepInput). named i.0 all ≡ Some i.1) is
each-finds all [] h = tt
each-finds all (i ∷ is) h = (h.0, each-finds all is h.1)

module _ (flow : Flow) (s : Name × Step) (f : InstanceStep) (made : IsMadeOf flow s f) where
  abbrev port_values : Name → Traced
  port_values p = value_in (named p f.step.inputs)

  abbrev parts : Place → List Spot
  parts q = split (port_mismatch f.step.inputs) (strategy_of s.1) q

  walks-all : (q : Place) → Each (IsWalk (port_iteration f.step.inputs) port_values) (parts q)
  walks-all q =
      in_each (IsWalk (port_iteration f.step.inputs) port_values) (parts q)
      (λ r i. let a = made.leaves r.0 (leaf-in (port_mismatch f.step.inputs) (strategy_of s.1) q r i) in
      (a.0.mismatch, ap (walk_in r.0) a.1 ∙ ap (λ o. walk r.0 a.0.mismatch (value_in o)) (sym a.1)))

  module _ (q : Place) (b : Binding) (stands : IsJob (at f.step.iteration q) b) where
    all-at : JobsAt (port_iteration f.step.inputs) (parts q) b
    all-at =
        split-jobs (port_iteration f.step.inputs) (port_mismatch f.step.inputs) made.levels (strategy_of s.1) made.dots q b
        (subst (λ t. IsJob (at t q) b) made.iterates stands)

    one-binds : (i : Name × StepInput) → list_any (same_name i.0) (leaf_names (strategy_of s.1)) ≡ true → named i.0 s.1.inputs ≡ Some i.1 → Binds b (λ (j : StepInput). (made.ports j).value) (place_of (parts q)) i
    one-binds i is_leaf found =
        let own : In i.0 (map (λ (r : Spot). r.0) (parts q)) = subst (In i.0) (sym (split-names_leaves (port_mismatch f.step.inputs) (strategy_of s.1) q)) (among-in i.0 (leaf_names (strategy_of s.1)) is_leaf) in
        let w = bound-some (port_iteration f.step.inputs) port_values (parts q) b all-at (walks-all q) i.0 own in
        let r = named-some i.0 (parts q) own in
        let taken : named i.0 f.step.inputs ≡ Some (made.ports i.1) = ap (named i.0) made.inputs ∙ named-taken made.ports i.0 s.1.inputs ∙ ap (option_map made.ports) found in (
          w.0,
          w.1,
          ap (λ v. at v (place_of (parts q) i.0)) (sym (ap value_in taken))
              ∙ ap (λ o. at (port_values i.0) (unwrap_or o [])) r.1
              ∙ ap (λ o. option_and_then (λ y. at (port_values i.0) y) o) (sym r.1)
              ∙ sym (bound-named (port_iteration f.step.inputs) port_values (parts q) b all-at (walks-all q) i.0)
              ∙ w.1,
        )

    -- the bound values are what stands at the parts of the place
    pub binds-parts : StandAtParts flow s.1 f q (map plain (bound_values s.1 b))
    binds-parts =
        map-map {B = Value} (λ v. Some v) plain (bound_values s.1 b)
        ∙ sym (map-map (option_map plain) (λ (w : Traced). Some w) (bound_values s.1 b))
        ∙ ap (map (option_map plain)) (bound-list b (λ (j : StepInput). (made.ports j).value) (place_of (parts q)) s.1.inputs
        (each-both (λ (i : Name × StepInput). list_any (same_name i.0) (leaf_names (strategy_of s.1))) (λ (i : Name × StepInput). named i.0 s.1.inputs ≡ Some i.1) (Binds b (λ (j : StepInput). (made.ports j).value) (place_of (parts q))) s.1.inputs one-binds made.bound (each-finds s.1.inputs s.1.inputs made.once)))
        ∙ map-map (option_map plain) (λ (i : Name × StepInput). at (made.ports i.1).value (place_of (parts q) i.0)) s.1.inputs
        ∙ map-same (λ (i : Name × StepInput). option_map plain (at (made.ports i.1).value (place_of (parts q) i.0))) (λ (i : Name × StepInput). at (plain (made.ports i.1).value) (part_of_port flow s.1 q i.0))
        (λ i. sym (at-plain (place_of (parts q) i.0) (made.ports i.1).value) ∙ ap (λ (m : Name → ℕ). at (plain (made.ports i.1).value) (place_of (split m (strategy_of s.1) q) i.0)) (sym (fun_ext made.numbers))) s.1.inputs
        ∙ sym (map-map (λ (d : Name × Ported). at (plain d.1.value) (part_of_port flow s.1 q d.0)) (λ (i : Name × StepInput). (i.0, made.ports i.1)) s.1.inputs)
        ∙ ap (map (λ (d : Name × Ported). at (plain d.1.value) (part_of_port flow s.1 q d.0))) (sym made.inputs)

  -- ---- the jobs of the step

  -- it stands in the step at its place
  pub record IsJobOf (k : PlacedJob) : Type 0 where
    pub name : k.step ≡ s.0
    pub parts : StandAtParts flow s.1 f k.place (map plain k.inputs)

  node-job : (k : PlacedJob) (x : Place × Iteration) → at f.step.iteration x.0 ≡ Some x.1 → In k (jobs_at_node s.0 s.1 made.before x) → IsJobOf k
  node-job k (q, leaf r (job b)) e (inl h) =
      subst IsJobOf (sym h) (record { name = refl; parts = binds-parts q b (subst (λ o. IsJob o b) (sym e) refl) })
  node-job k (q, leaf r (job b)) e (inr h) = absurd h
  node-job k (q, leaf r (passed m d)) e h = absurd h
  node-job k (q, list r ts) e h = absurd h

  pub job-of : (k : PlacedJob) → In k f.jobs → IsJobOf k
  job-of k i =
      let x = of-flat (jobs_at_node s.0 s.1 made.before) k (nodes f.step.iteration) (subst (In k) made.jobs i) in
      node-job k x.0 (each_in (λ (y : Place × Iteration). StandsAt f.step.iteration y.0 y.1) (nodes f.step.iteration) (nodes-stand (StandsAt f.step.iteration) f.step.iteration [] (all-stand f.step.iteration f.step.iteration [] refl)) x.0 x.1) x.2

-- ---- lists of values

pub same-values : (vs ws : List Value) → map {B = Option Value} (λ v. Some v) vs ≡ map {B = Option Value} (λ v. Some v) ws → vs ≡ ws
same-values [] [] e = refl
same-values [] (w ∷ ws) e = absurd (cc)
same-values (v ∷ vs) [] e = absurd (cc)
same-values (v ∷ vs) (w ∷ ws) e = ap₂ (λ x l. x ∷ l) (same_Some v w (first e)) (same-values vs ws (rest e))
  where
    first : Some v ∷ map {B = Option Value} (λ u. Some u) vs ≡ Some w ∷ map {B = Option Value} (λ u. Some u) ws → Some v ≡ Some w
    first g = cc

    rest : Some v ∷ map {B = Option Value} (λ u. Some u) vs ≡ Some w ∷ map {B = Option Value} (λ u. Some u) ws → map {B = Option Value} (λ u. Some u) vs ≡ map {B = Option Value} (λ u. Some u) ws
    rest g = cc
