-- What a job binds used what is told of its ports, and so did a passed fault.
use Rattle.std.specs.List.{cons_option, list_all, list_any}
use Rattle.std.specs.Option.{option_map_or}
use Rattle.std.specs.Prelude.{◌≡◌, refl, ℕ, zero, suc, ◌-◌, ◌≤◌, ◌<◌, ◌==◌, ◌&&◌, Bool, true, false, cond, drop, filter_map, find, flat_map, if◌then◌else◌, length, List, [], ◌∷◌, ◌++◌, map, Option, Some, None, option_and_then, option_map, slice_get, slice_index_or, take, unwrap_or}
use Rattle.std.proofs.Common.{arith, sym, ap, ap₂, subst, ◌∙◌, inl, inr}
use Rattle.std.proofs.Math.Path.{fun_ext}
use Rattle.std.proofs.lemmas.Bool.{and_parts, eq-eqb, eqb-true, true≢false}
use Rattle.std.proofs.lemmas.List.{map-append}
use Rattle.std.proofs.lemmas.List.Folds.{list_all-append}
use Rattle.std.proofs.lemmas.Option.{none-some, same_Some}
use Rattle.tv_lemmas.specs.Members.{Each, In}
use Rattle.tv_lemmas.proofs.Members.{in_each}
use Rattle.tv_value.specs.Nested.{leaf, list, Place, at, item_at, notes}
use Rattle.tv_value.specs.Orders.{named, same_name}
use Rattle.tv_value.specs.Strategies.{Strategy}
use Rattle.tv_value.specs.Values.{Name, fault}
use Rattle.tv_flow.specs.Flows.{Feed, Flow, Step, StepInput}
use Rattle.tv_lineage.specs.Touching as marks
use Rattle.tv_strategy.specs.Conditions.{EachOnce, number_of, place_of, times}
use Rattle.tv_strategy.specs.Iterations.{Binding, Iteration, job, passed, walk}
use Rattle.tv_strategy.specs.Levels.{HasLevels, IsJob}
use Rattle.tv_strategy.specs.Measures.{leaf_names, strategy_depth}
use Rattle.tv_strategy.specs.Origins.{Mark, Origin, Traced, fixed}
use Rattle.tv_strategy.specs.Splits.{split}
use Rattle.tv_strategy.proofs.AtDepth.{iteration-levels}
use Rattle.tv_strategy.proofs.AtPlace.{ItemHasLevels, JobsAt, item-levels, split-jobs}
use Rattle.tv_strategy.proofs.Ends.{walk-at}
use Rattle.tv_strategy.proofs.LawLemmas.{split-names_leaves}
use Rattle.tv_strategy.proofs.PlaceLemmas.{same-equal, same-itself}
use Rattle.tv_model.specs.instance.Delivered.{Delivered, Ported, at_port, wrapped}
use Rattle.tv_model.specs.instance.Steps.{bound_values, port_iteration, port_mismatch, strategy_of}
use Rattle.tv_check.specs.declared.ports.Port.{Port}
use Rattle.tv_check.specs.Feeds.{feed_numbered}
use Rattle.tv_check.specs.Ports.{leaf_number, levels_of, mismatches, port_among, ports_of}
use Rattle.tv_matching.specs.Told.{Spot}
use Rattle.tv_frame.specs.Starts.{starts}
use Rattle.tv_frame.proofs.FaultingSteps.{starts-names}
use Rattle.tv_frame.proofs.StartLemmas.{places-split}
use Rattle.tv_model.specs.instance.ByResults.{InstanceStep, ports_on}
use Rattle.tv_model.specs.Lineages.{mark_or, used}
use Rattle.tv_frame.specs.Levels.{CameFrom}
use Rattle.tv_model.specs.records.Recorded.{mark_of, marks_of}
use Rattle.tv_frame.proofs.matches.Leaves.{among-in, leaf-in}
use Rattle.tv_frame.proofs.matches.Steps.{IsMadeOf, value_in, walk_in}
use Rattle.tv_frame.proofs.matches.Binding.{each-both, each-finds}
use Rattle.tv_traces.specs.Feeds.{feed_marks}
use Rattle.tv_traces.specs.Shapes.{Shape}
use Rattle.tv_traces.specs.Walking.{begins_of, bound_marks, fault_marks, part_in}

-- ---- a binding, name by name

module _ (ports : Name → Iteration) (values : Name → Traced) where
  -- the port walks its value
  abbrev IsWalk : Spot → Type 0
  IsWalk r = (k : ℕ) × (ports r.0 ≡ walk r.0 k (values r.0))

  -- what is bound to a name stands at its first place
  abbrev IsBound : Binding → Name → Place → Type 0
  IsBound b p q = (w : Traced) × (named p b ≡ Some w) × (at (values p) q ≡ Some w)

  bound-named : (rs : List Spot) (b : Binding) → JobsAt ports rs b → Each IsWalk rs → (p : Name) → In p (map (λ (r : Spot). r.0) rs) → IsBound b p (place_of rs p)
  bound-named [] b h w p i = absurd i
  bound-named (r ∷ rs) b h w p i =
      let one = walk-at r.0 w.0.0 (values r.0) r.1 h.0 (subst (λ t. IsJob (at t r.1) h.0) w.0.1 h.3) in
      subst (λ c. IsBound c p (place_of (r ∷ rs) p)) (sym (h.2 ∙ ap (λ c. c ++ h.1) one.1))
      (by one.0 one.2 (same_name p r.0) refl i (λ j. bound-named rs h.1 h.4 w.1 p j))
    where
      by : (v : Traced) → at (values r.0) r.1 ≡ Some v → (t : Bool) → same_name p r.0 ≡ t → In p (r.0 ∷ map (λ (x : Spot). x.0) rs) → (In p (map (λ (x : Spot). x.0) rs) → IsBound h.1 p (place_of rs p)) → (w : Traced) × ((if t then Some v else named p h.1) ≡ Some w) × (at (values p) (unwrap_or (if t then Some r.1 else named p rs) []) ≡ Some w)
      by v e true t j rec = (v, refl, ap (λ n. at (values n) r.1) (same-equal p r.0 t) ∙ e)
      by v e false t (inl s) rec = absurd (true≢false (sym (subst (λ n. same_name p n ≡ true) s (same-itself p)) ∙ t))
      by v e false t (inr j) rec = rec j

-- ---- the length of a job's place

item-job : (q : Place) (d : ℕ) (b : Binding) → ((t : Iteration) → HasLevels t d → IsJob (at t q) b → length q ≡ d) → (o : Option Iteration) → ItemHasLevels o d → IsJob (option_and_then (λ t. at t q) o) b → length q ≡ d
item-job q d b rec None l h = absurd h
item-job q d b rec (Some t) l h = rec t l h

pub job-length : (q : Place) (t : Iteration) (d : ℕ) → HasLevels t d → (b : Binding) → IsJob (at t q) b → length q ≡ d
job-length [] (leaf s (job c)) d l b h = sym l
job-length [] (leaf s (passed m e)) d l b h = absurd h
job-length [] (list s ts) d l b h = absurd h
job-length (i ∷ q) (leaf s e) d l b h = absurd h
job-length (i ∷ q) (list s ts) zero l b h = absurd l
job-length (i ∷ q) (list s ts) (suc d) l b h = ap suc (item-job q d b (λ t k j. job-length q t d k b j) (item_at ts i) (item-levels ts d i l) h)

-- ---- where leaves begin

module _ (ports : Name → ℕ) (q : Place) where
  abbrev placed : Name × ℕ → Spot
  placed x = (x.0, take (ports x.0) (drop x.1 q))

  -- the place of a name is that from where its leaf begins
  place-begins : (xs : List (Name × ℕ)) (p : Name) → In p (map (λ (r : Spot). r.0) (map placed xs)) → place_of (map placed xs) p ≡ take (ports p) (drop (slice_index_or (map (λ (x : Name × ℕ). x.1) xs) (leaf_number p (map (λ (r : Spot). r.0) (map placed xs))) 0) q)
  place-begins [] p i = absurd i
  place-begins (x ∷ xs) p i = by (same_name p x.0) refl i (place-begins xs p)
    where
      by : (t : Bool) → same_name p x.0 ≡ t → In p (x.0 ∷ map (λ (r : Spot). r.0) (map placed xs)) → (In p (map (λ (r : Spot). r.0) (map placed xs)) → place_of (map placed xs) p ≡ take (ports p) (drop (slice_index_or (map (λ (y : Name × ℕ). y.1) xs) (leaf_number p (map (λ (r : Spot). r.0) (map placed xs))) 0) q)) → unwrap_or (if t then Some (placed x).1 else named p (map placed xs)) [] ≡ take (ports p) (drop (slice_index_or (x.1 ∷ map (λ (y : Name × ℕ). y.1) xs) (if t then 0 else suc (leaf_number p (map (λ (r : Spot). r.0) (map placed xs)))) 0) q)
      by true t j rec = ap (λ n. take (ports n) (drop x.1 q)) (sym (same-equal p x.0 t))
      by false t (inl s) rec = absurd (true≢false (sym (subst (λ n. same_name p n ≡ true) s (same-itself p)) ∙ t))
      by false t (inr j) rec = rec j

-- ---- inputs by name

named-on : {A B : Type 0} (F : A → B) (p : Name) (is : List (Name × A)) → named p (map (λ (i : Name × A). (i.0, F i.1)) is) ≡ option_map F (named p is)
named-on F p [] = refl
named-on {A = A} {B = B} F p (i ∷ is) = by (same_name p i.0) (named-on F p is)
  where
    by : (b : Bool) → named p (map (λ (j : Name × A). (j.0, F j.1)) is) ≡ option_map F (named p is) → (if b then Some (F i.1) else named p (map (λ (j : Name × A). (j.0, F j.1)) is)) ≡ option_map F (if b then Some i.1 else named p is)
    by true h = refl
    by false h = h

number-own : (flow : Flow) (s : Step) (i : Name × StepInput) → named i.0 s.inputs ≡ Some i.1 → number_of (mismatches flow s) i.0 ≡ levels_of flow i.1
number-own flow s i e = ap (λ o. unwrap_or o 0) (named-on (levels_of flow) i.0 s.inputs ∙ ap (option_map (levels_of flow)) e)

-- ---- a port that wraps or walks what it is delivered

wrapped-used : (k : ℕ) (v : Traced) → used (wrapped k v) ≡ used v
wrapped-used zero v = refl
wrapped-used (suc k) v = none (used (wrapped k v)) ∙ wrapped-used k v
  where
    none : (xs : List Mark) → xs ++ [] ≡ xs
    none [] = refl
    none (x ∷ xs) = ap (λ l. x ∷ l) (none xs)

wrapped-known : (known : Origin → Bool) (k : ℕ) (v : Traced) → list_all known (notes (wrapped k v)) ≡ true → list_all known (notes v) ≡ true
wrapped-known known zero v h = h
wrapped-known known (suc k) v h = wrapped-known known k v (and_parts (list_all known (notes (wrapped k v))) true (sym (list_all-append known (notes (wrapped k v)) []) ∙ (and_parts (known fixed) (list_all known (notes (wrapped k v) ++ [])) h).1)).0

-- what stands in it used what is told of what is delivered: at the whole, or where nothing is wrapped
ported-marks : (known : Origin → Bool) (declared : ℕ) (d : Delivered) (told : Place → List marks.Mark) → ((q : Place) (w : Traced) → list_all known (notes w) ≡ true → at d.value q ≡ Some w → told q ≡ marks_of w) → (q : Place) (w : Traced) → list_all known (notes w) ≡ true → length q ≤ d.depth - declared → at (at_port declared d).value q ≡ Some w → told q ≡ marks_of w
ported-marks known declared d told h q w whole le e = by (declared - d.depth) refl e
  where
    empty : (q : Place) (a b c : ℕ) → b - a ≡ suc c → length q ≤ a - b → q ≡ []
    empty [] a b c f g = refl
    empty (i ∷ q) a b c f g = absurd (omega (arith, f, g))

    by : (k : ℕ) → declared - d.depth ≡ k → at (wrapped k d.value) q ≡ Some w → told q ≡ marks_of w
    by zero f k = h q w whole k
    by (suc c) f k =
        let none : q ≡ [] = empty q d.depth declared c f le in
        let same = same_Some (wrapped (suc c) d.value) w (subst (λ p. at (wrapped (suc c) d.value) p ≡ Some w) none k) in
        ap told none ∙ h [] d.value (wrapped-known known (suc c) d.value (subst (λ v. list_all known (notes v) ≡ true) (sym same) whole)) refl ∙ ap (map mark_of) (sym (wrapped-used (suc c) d.value))
        ∙ ap marks_of same

-- ---- one step, fed by these deliveries

module _ (known : Origin → Bool) (flow : Flow) (s : Name × Step) (f : InstanceStep) (made : IsMadeOf flow s f) (delivers : Feed → Delivered) (fed : f.step.inputs ≡ ports_on delivers s.1.inputs)
    (shapes : List Shape) (told : (d : Feed) (q : Place) (w : Traced) → list_all known (notes w) ≡ true → at (delivers d).value q ≡ Some w → feed_marks flow shapes (feed_numbered flow d) q ≡ marks_of w) where
  abbrev levels : Name → ℕ
  levels = port_mismatch f.step.inputs

  abbrev tree : Strategy
  tree = strategy_of s.1

  abbrev values : Name → Traced
  values p = value_in (named p f.step.inputs)

  abbrev takes : StepInput → Ported
  takes i = at_port i.depth (delivers i.from)

  input-is : (p : Name) (i : StepInput) → named p s.1.inputs ≡ Some i → named p f.step.inputs ≡ Some (takes i)
  input-is p i e = ap (named p) fed ∙ named-on takes p s.1.inputs ∙ ap (option_map takes) e

  numbers-are : number_of (mismatches flow s.1) ≡ levels
  numbers-are = fun_ext made.numbers

  own-levels : (i : Name × StepInput) → named i.0 s.1.inputs ≡ Some i.1 → levels i.0 ≡ levels_of flow i.1
  own-levels i e = sym (made.numbers i.0) ∙ number-own flow s.1 i e

  -- the levels that a port walks are those that it is delivered too much
  walked-levels : (i : Name × StepInput) → named i.0 s.1.inputs ≡ Some i.1 → levels_of flow i.1 ≡ (delivers i.1.from).depth - i.1.depth
  walked-levels i e = sym (own-levels i e) ∙ ap (λ o. option_map_or (λ (d : Ported). d.mismatch) o 0) (input-is i.0 i.1 e)

  leveled : HasLevels f.step.iteration (strategy_depth levels tree)
  leveled = subst (λ t. HasLevels t (strategy_depth levels tree)) (sym made.iterates) (iteration-levels (port_iteration f.step.inputs) levels made.levels tree made.dots)

  abbrev begins : List ℕ
  begins = begins_of flow s.1

  abbrev leaves : List Name
  leaves = leaf_names tree

  -- ---- jobs

  module _ (q : Place) (b : Binding) (stands : IsJob (at f.step.iteration q) b) (whole : (p : Name) (w : Traced) → named p b ≡ Some w → list_all known (notes w) ≡ true) where
    abbrev parts : List Spot
    parts = split levels tree q

    walks-all : Each (IsWalk (port_iteration f.step.inputs) values) parts
    walks-all =
        in_each (IsWalk (port_iteration f.step.inputs) values) parts
        (λ r i. let a = made.leaves r.0 (leaf-in levels tree q r i) in
        (a.0.mismatch, ap (walk_in r.0) a.1 ∙ ap (λ o. walk r.0 a.0.mismatch (value_in o)) (sym a.1)))

    all-at : JobsAt (port_iteration f.step.inputs) parts b
    all-at = split-jobs (port_iteration f.step.inputs) levels made.levels tree made.dots q b (subst (λ t. IsJob (at t q) b) made.iterates stands)

    deep : length q ≡ strategy_depth levels tree
    deep = job-length q f.step.iteration (strategy_depth levels tree) leveled b stands

    abbrev Tells : Name × StepInput → Type 0
    Tells i = (w : Traced) × (named i.0 b ≡ Some w) × (feed_marks flow shapes (feed_numbered flow i.1.from) (part_in begins (port_among flow leaves i) q) ≡ marks_of w)

    part-is : (p : Name) → In p (map (λ (r : Spot). r.0) parts) → place_of parts p ≡ take (levels p) (drop (slice_index_or begins (leaf_number p leaves) 0) q)
    part-is p own =
        let places : parts ≡ map (placed levels q) (starts levels 0 tree) = places-split levels tree made.dots q deep in
        let names : map (λ (r : Spot). r.0) (map (placed levels q) (starts levels 0 tree)) ≡ leaves = ap (map (λ (r : Spot). r.0)) (sym places) ∙ split-names_leaves levels tree q in
        ap (λ rs. place_of rs p) places
        ∙ place-begins levels q (starts levels 0 tree) p (subst (λ rs. In p (map (λ (r : Spot). r.0) rs)) places own)
        ∙ ap (λ ns. take (levels p) (drop (slice_index_or (map (λ (x : Name × ℕ). x.1) (starts levels 0 tree)) (leaf_number p ns) 0) q)) names
        ∙ ap (λ (m : Name → ℕ). take (levels p) (drop (slice_index_or (map (λ (x : Name × ℕ). x.1) (starts m 0 tree)) (leaf_number p leaves) 0) q)) (sym numbers-are)

    one-tells : (i : Name × StepInput) → list_any (same_name i.0) leaves ≡ true → named i.0 s.1.inputs ≡ Some i.1 → Tells i
    one-tells i is_leaf found =
        let own : In i.0 (map (λ (r : Spot). r.0) parts) = subst (In i.0) (sym (split-names_leaves levels tree q)) (among-in i.0 leaves is_leaf) in
        let w = bound-named (port_iteration f.step.inputs) values parts b all-at walks-all i.0 own in
        let place : place_of parts i.0 ≡ part_in begins (port_among flow leaves i) q = part-is i.0 own ∙ ap (λ n. take n (drop (slice_index_or begins (leaf_number i.0 leaves) 0) q)) (own-levels i found) in
        let there : at (takes i.1).value (part_in begins (port_among flow leaves i) q) ≡ Some w.0 = ap₂ (λ v r. at v r) (sym (ap value_in (input-is i.0 i.1 found))) (sym place) ∙ w.2 in (
          w.0,
          w.1,
          ported-marks known i.1.depth (delivers i.1.from) (feed_marks flow shapes (feed_numbered flow i.1.from)) (told i.1.from)
              (part_in begins (port_among flow leaves i) q) w.0 (whole i.0 w.0 w.1)
              (short (levels_of flow i.1) (drop (slice_index_or begins (leaf_number i.0 leaves) 0) q) ((delivers i.1.from).depth - i.1.depth) (walked-levels i found))
              there,
        )
      where
        take-short : (n : ℕ) (r : Place) → length (take n r) ≤ n
        take-short zero r = omega arith
        take-short (suc n) [] = omega arith
        take-short (suc n) (j ∷ r) = let h = take-short n r in omega (arith, h)

        short : (n : ℕ) (r : Place) (m : ℕ) → n ≡ m → length (take n r) ≤ m
        short n r m e = subst (λ k. length (take n r) ≤ k) e (take-short n r)

    all-tell : (is : List (Name × StepInput)) → Each Tells is → flat_map (λ (p : Port). feed_marks flow shapes p.feed (part_in begins p q)) (map (port_among flow leaves) is) ≡ map mark_of (flat_map used (filter_map (λ (i : Name × StepInput). named i.0 b) is))
    all-tell [] h = refl
    all-tell (i ∷ is) h =
        ap₂ (λ a l. a ++ l) h.0.2 (all-tell is h.1)
        ∙ sym (map-append mark_of (used h.0.0) (flat_map used (filter_map (λ (j : Name × StepInput). named j.0 b) is)))
        ∙ ap (λ o. map mark_of (flat_map used (cons_option o (filter_map (λ (j : Name × StepInput). named j.0 b) is)))) (sym h.0.1)

    pub job-marks : bound_marks flow shapes (ports_of flow s.1) begins q ≡ map mark_of (flat_map used (bound_values s.1 b))
    job-marks =
        all-tell s.1.inputs
        (each-both (λ (i : Name × StepInput). list_any (same_name i.0) leaves) (λ (i : Name × StepInput). named i.0 s.1.inputs ≡ Some i.1) Tells s.1.inputs one-tells made.bound (each-finds s.1.inputs s.1.inputs made.once))

  -- ---- passed faults

  module _ (once : EachOnce leaves leaves) where
    once-of : (ns others : List Name) → EachOnce ns others → (k : ℕ) (p : Name) → slice_get ns k ≡ Some p → times p others ≡ 1
    once-of [] others o k p e = absurd (none-some p e)
    once-of (n ∷ ns) others o zero p e = ap (λ m. times m others) (sym (same_Some n p e)) ∙ o.0
    once-of (n ∷ ns) others o (suc k) p e = once-of ns others o.1 k p e

    some-time : (ns : List Name) (k : ℕ) (p : Name) → slice_get ns k ≡ Some p → times p ns ≡ 0 → ⊥
    some-time [] k p e z = none-some p e
    some-time (n ∷ ns) zero p e z = none (times p ns) (sym (ap (λ b. if b then suc (times p ns) else times p ns) (subst (λ m. same_name p m ≡ true) (sym (same_Some n p e)) (same-itself p))) ∙ z)
      where
        none : (a : ℕ) → suc a ≡ 0 → ⊥
        none a f = omega arith
    some-time (n ∷ ns) (suc k) p e z = some-time ns k p e (by (same_name p n) z)
      where
        by : (b : Bool) → (if b then suc (times p ns) else times p ns) ≡ 0 → times p ns ≡ 0
        by true f = absurd (none (times p ns) f)
          where
            none : (a : ℕ) → suc a ≡ 0 → ⊥
            none a g = omega arith
        by false f = f

    number-of : (ns : List Name) (k : ℕ) (p : Name) → slice_get ns k ≡ Some p → times p ns ≡ 1 → leaf_number p ns ≡ k
    number-of [] k p e o = absurd (none-some p e)
    number-of (n ∷ ns) zero p e o = ap (λ b. if b then 0 else suc (leaf_number p ns)) (subst (λ m. same_name p m ≡ true) (sym (same_Some n p e)) (same-itself p))
    number-of (n ∷ ns) (suc k) p e o = by (same_name p n) o (number-of ns k p e)
      where
        less : (a : ℕ) → suc a ≡ 1 → a ≡ 0
        less a f = omega arith

        by : (b : Bool) → (if b then suc (times p ns) else times p ns) ≡ 1 → (times p ns ≡ 1 → leaf_number p ns ≡ k) → (if b then 0 else suc (leaf_number p ns)) ≡ suc k
        by true f rec = absurd (some-time ns k p e (less (times p ns) f))
        by false f rec = ap suc (rec f)

    -- what has a number among the leaves has that name
    none-after : (a : ℕ) → suc a ≡ 0 → ⊥
    none-after a j = omega arith

    one-less : (a b : ℕ) → suc a ≡ suc b → a ≡ b
    one-less a b j = omega arith

    named-leaf : (ns : List Name) (n p : Name) (k : ℕ) → slice_get ns k ≡ Some p → leaf_number n ns ≡ k → n ≡ p
    named-leaf [] n p k e f = absurd (none-some p e)
    named-leaf (m ∷ ns) n p zero e f = by (same_name n m) refl f
      where
        by : (b : Bool) → same_name n m ≡ b → (if b then 0 else suc (leaf_number n ns)) ≡ 0 → n ≡ p
        by true g i = same-equal n m g ∙ same_Some m p e
        by false g i = absurd (none-after (leaf_number n ns) i)
    named-leaf (m ∷ ns) n p (suc k) e f = by (same_name n m) f (λ i. named-leaf ns n p k e i)
      where
        by : (b : Bool) → (if b then 0 else suc (leaf_number n ns)) ≡ suc k → (leaf_number n ns ≡ k → n ≡ p) → n ≡ p
        by true i rec = absurd (none-after k (sym i))
        by false i rec = rec (one-less (leaf_number n ns) k i)

    abbrev found : ℕ → List (Name × StepInput) → Option Port
    found k is = find (λ (t : Port). t.leaf == k) (map (port_among flow leaves) is)

    -- the port of a leaf
    leaf-found : (k : ℕ) (p : Name) → slice_get leaves k ≡ Some p → (r : Place) (is : List (Name × StepInput)) (i : StepInput) → named p is ≡ Some i → option_map_or (λ (t : Port). feed_marks flow shapes t.feed r) (find (λ (t : Port). t.leaf == k) (map (port_among flow leaves) is)) [] ≡ feed_marks flow shapes (feed_numbered flow i.from) r
    leaf-found k p e r [] i h = absurd (none-some i h)
    leaf-found k p e r (j ∷ is) i h = by (same_name p j.0) refl h (leaf-found k p e r is i)
      where
        by : (b : Bool) → same_name p j.0 ≡ b → (if b then Some j.1 else named p is) ≡ Some i → (named p is ≡ Some i → option_map_or (λ (t : Port). feed_marks flow shapes t.feed r) (found k is) [] ≡ feed_marks flow shapes (feed_numbered flow i.from) r) → option_map_or (λ (t : Port). feed_marks flow shapes t.feed r) (cond (leaf_number j.0 leaves == k) (Some (port_among flow leaves j)) (found k is)) [] ≡ feed_marks flow shapes (feed_numbered flow i.from) r
        by true g l rec =
            let here : leaf_number j.0 leaves ≡ k = ap (λ n. leaf_number n leaves) (sym (same-equal p j.0 g)) ∙ number-of leaves k p e (once-of leaves leaves once k p e) in
            ap (λ b. option_map_or (λ (t : Port). feed_marks flow shapes t.feed r) (cond b (Some (port_among flow leaves j)) (found k is)) []) (eq-eqb (leaf_number j.0 leaves) k here)
            ∙ ap (λ (z : StepInput). feed_marks flow shapes (feed_numbered flow z.from) r) (same_Some j.1 i l)
        by false g l rec = not-here (leaf_number j.0 leaves == k) refl
          where
            not-here : (b : Bool) → (leaf_number j.0 leaves == k) ≡ b → option_map_or (λ (t : Port). feed_marks flow shapes t.feed r) (cond b (Some (port_among flow leaves j)) (found k is)) [] ≡ feed_marks flow shapes (feed_numbered flow i.from) r
            not-here true m = absurd (true≢false (sym (subst (λ n. same_name p n ≡ true) (sym (named-leaf leaves j.0 p k e (eqb-true (leaf_number j.0 leaves) k m))) (same-itself p)) ∙ g))
            not-here false m = rec l

    begins-at : (xs : List (Name × ℕ)) (k : ℕ) (x : Name × ℕ) → slice_get xs k ≡ Some x → slice_index_or (map (λ (y : Name × ℕ). y.1) xs) k 0 ≡ x.1
    begins-at [] k x e = absurd (none-some x e)
    begins-at (y ∷ xs) zero x e = ap (λ (z : Name × ℕ). z.1) (same_Some y x e)
    begins-at (y ∷ xs) (suc k) x e = begins-at xs k x e

    name-at : (xs : List (Name × ℕ)) (k : ℕ) (x : Name × ℕ) → slice_get xs k ≡ Some x → slice_get (map (λ (y : Name × ℕ). y.0) xs) k ≡ Some x.0
    name-at [] k x e = absurd (none-some x e)
    name-at (y ∷ xs) zero x e = ap (λ (z : Name × ℕ). Some z.0) (same_Some y x e)
    name-at (y ∷ xs) (suc k) x e = name-at xs k x e

    pub fault-marks : (q : Place) (k : ℕ) (m : Option Mark) (c : CameFrom s.1 f.step q k m) → known c.origin ≡ true → fault_marks flow shapes (ports_of flow s.1) begins k q ≡ map mark_of (mark_or m [])
    fault-marks q k m c is_known = by (named c.port s.1.inputs) refl (sym (ap (named c.port) fed ∙ named-on takes c.port s.1.inputs) ∙ c.is_port)
      where
        start-is : slice_index_or begins k 0 ≡ c.start
        start-is = ap (λ (g : Name → ℕ). slice_index_or (map (λ (y : Name × ℕ). y.1) (starts g 0 tree)) k 0) numbers-are ∙ begins-at (starts levels 0 tree) k (c.port, c.start) c.begins

        leaf-is : slice_get leaves k ≡ Some c.port
        leaf-is = ap (λ ns. slice_get ns k) (sym (starts-names levels 0 tree)) ∙ name-at (starts levels 0 tree) k (c.port, c.start) c.begins

        below : (a b : ℕ) → a < b → a ≤ b
        below a b h = omega arith

        by : (o : Option StepInput) → named c.port s.1.inputs ≡ o → option_map takes o ≡ Some c.ported → fault_marks flow shapes (ports_of flow s.1) begins k q ≡ map mark_of (mark_or m [])
        by None e g = absurd (none-some c.ported g)
        by (Some i) e g =
            let same = same_Some (takes i) c.ported g in
            leaf-found k c.port leaf-is (drop (slice_index_or begins k 0) q) s.1.inputs i e
            ∙ ap (λ n. feed_marks flow shapes (feed_numbered flow i.from) (drop n q)) start-is
            ∙ ported-marks known i.depth (delivers i.from) (feed_marks flow shapes (feed_numbered flow i.from)) (told i.from) (drop c.start q) (leaf c.origin (fault c.document)) (ap (λ b. b && true) is_known)
            (subst (λ (z : Ported). length (drop c.start q) ≤ z.mismatch) (sym same) (below (length (drop c.start q)) c.ported.mismatch c.above))
            (subst (λ (z : Ported). at z.value (drop c.start q) ≡ Some (leaf c.origin (fault c.document))) (sym same) c.stands)
            ∙ ap (λ n. map mark_of (mark_or n [])) c.mark
