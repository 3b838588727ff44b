-- What is told to a port of a step along the wires of its flow.
use Rattle.std.specs.List.{list_all, list_any}
use Rattle.std.specs.Option.{option_map_or}
use Rattle.std.specs.Prelude.{◌≡◌, refl, ℕ, zero, suc, ◌-◌, ◌<◌, ◌==◌, ◌&&◌, Bool, true, false, nat_le, nat_lt, filter, flat_map, get_or, if◌then◌else◌, is_some, List, [], ◌∷◌, ◌++◌, length, map, Option, Some, None, slice_get, take}
use Rattle.std.proofs.Common.{arith, sym, ap, ap₂, subst, ◌∙◌, append-nil}
use Rattle.std.proofs.lemmas.Bool.{and_parts, true≢false}
use Rattle.std.proofs.lemmas.List.{map-append}
use Rattle.std.proofs.lemmas.Option.{none-some, same_Some}
use Rattle.tv_lemmas.specs.Members.{Each}
use Rattle.tv_value.specs.Nested.{Place, Trees, leaf, list, no_trees, tree}
use Rattle.tv_value.specs.Orders.{named, same_name}
use Rattle.tv_value.specs.Strategies.{Strategy}
use Rattle.tv_value.specs.Values.{JobName, Name, Scalar, Value, fault, holds_fault, text}
use Rattle.tv_value.proofs.NameLemmas.{same_name-is, same_name-refl}
use Rattle.tv_flow.specs.Flows.{Feed, Flow, Link, Step, StepInput, constant, input, link, merge, output}
use Rattle.tv_flow.specs.Formed.{is_ascending, is_step_input}
use Rattle.tv_strategy.specs.Measures.{leaf_names}
use Rattle.tv_strategy.specs.Origins.{Origin, Traced}
use Rattle.tv_naming.specs.Naming.{feed_links, has_name, is_there, numbered}
use Rattle.tv_naming.specs.Numbers.{position}
use Rattle.tv_naming.proofs.ByPosition.{names_of}
use Rattle.tv_naming.proofs.FormedParts.{ascending, step-at, step-inputs}
use Rattle.tv_model.specs.instance.Steps.{strategy_of}
use Rattle.tv_check.proofs.Ranked.{one-place}
use Rattle.tv_matching.specs.Items.{Item, ends, if_so, item}
use Rattle.tv_matching.specs.Matchers.{leaf_name}
use Rattle.tv_matching.specs.Told.{Spot, Told, item_there, tellings, told_kind, told_leaf, told_place, told_to}
use Rattle.tv_matching.proofs.LawLemmas.{told-more}
use Rattle.tv_telling.specs.declared.ways.Event as code
use Rattle.tv_telling.specs.declared.ways.Whole.{Whole}
use Rattle.tv_telling.specs.ValueTellings.{bound_told, value_told, values_told}
use Rattle.tv_telling.specs.Views.{happening, way_tellings, whole_telling}
use Rattle.tv_telling.specs.WayTellings.{Happening, closed, gave, passed, place_of_item, told_on_way, told_there}
use Rattle.tv_check.specs.declared.ports.Port.{Port}
use Rattle.tv_check.specs.Feeds.{feed_numbered, link_numbered, outputs_of}
use Rattle.tv_check.specs.Ports.{leaf_number, levels_of, port_among, ports_of}
use Rattle.tv_check.specs.Wirings.{wiring}
use Rattle.tv_telling.specs.endings.Feeds.{feed_from, feed_whole, has_whole_with, leaves_whole_with, link_whole, with_step}
use Rattle.tv_model.specs.instance.ByResults.{InstanceStep}
use Rattle.tv_model.specs.instance.Events.{Event, event_place, event_step}
use Rattle.tv_framing.specs.Gaining as framing
use Rattle.tv_framing.specs.Gaining.{step_whole}
use Rattle.tv_framing.specs.PortTellings.{port_told, seen_told}
use Rattle.tv_framing.proofs.ways.Ways.{ports-by_ways}
use Rattle.tv_framing.specs.ways.Stated.{happening_of, link_by_ways, links_by_ways, port_by_ways}
use Rattle.tv_framing.proofs.engine.Endings.{at-number}
use Rattle.tv_framing.proofs.engine.Lists.{flat-mapped, only-at}
use Rattle.tv_framing.proofs.engine.Wires.{leaf-named, link_by, links_by, port_by, position-same, told-along}
use Rattle.tv_framing.specs.engine.AlongWires.{AreWholeWith, EventsTellAsInTheory, FeedsAreWholeByNumbers, IsMarked, IsPortOf, IsSeenAs, WiresTellPorts, of_leaf, ports_of_step, takes_whole_with, told_along}
use Rattle.tv_telling.specs.Along.{leads_into, way_of, wires_from}
use Rattle.tv_framing.specs.engine.WiredFlows.{IsWired}

-- ---- what is told along a way is told to its leaf

abbrev pub IsTo : Name → List Told → Type 0
IsTo m ts = Each (λ t. told_leaf t ≡ m) ts

to-both : (m : Name) (ts us : List Told) → IsTo m ts → IsTo m us → IsTo m (ts ++ us)
to-both m [] us h k = k
to-both m (t ∷ ts) us h k = (h.0, to-both m ts us h.1 k)

pub bound-to : (m : Name) (q : Place) (b : Bool) → told_leaf (bound_told m q b) ≡ m
bound-to m q true = refl
bound-to m q false = refl

mutual
  value-to : (m : Name) (k : ℕ) (q : Place) (v : Value) → IsTo m (value_told m k q v)
  value-to m zero q v = (bound-to m q (holds_fault v), tt)
  value-to m (suc k) q (leaf n (text t)) = tt
  value-to m (suc k) q (leaf n (fault e)) = (refl, tt)
  value-to m (suc k) q (list n ts) = (refl, values-to m k q 0 ts)

  values-to : (m : Name) (k : ℕ) (q : Place) (i : ℕ) (ts : Trees (Unit {0}) Scalar) → IsTo m (values_told m k q i ts)
  values-to m k q i no_trees = tt
  values-to m k q i (tree t ts) = to-both m (value_told m k (q ++ i ∷ []) t) (values_told m k q (suc i) ts) (value-to m k (q ++ i ∷ []) t) (values-to m k q (suc i) ts)

pub there-to : (m : Name) (k : ℕ) (q : Place) (h : Happening) → IsTo m (told_there m k q h)
there-to m k q (gave v) = value-to m k q v
there-to m k q (closed n) = (refl, tt)
there-to m k q passed = (refl, tt)

pub way-to : (m : Name) (k : ℕ) (q : Place) (from faults : ℕ) (r : Place) (h : Happening) → IsTo m (told_on_way m k q from faults r h)
way-to m k q from faults r h = by (nat_le k (length r)) (nat_le from k) (bound_told m (q ++ r) (nat_lt k faults))
  where
    one : (b : Bool) (t : Told) → told_leaf t ≡ m → IsTo m (if_so b t)
    one true t e = (e, tt)
    one false t e = tt

    by : (a b : Bool) (t : Told) → IsTo m (if a then if_so b (bound_told m (q ++ take k r) (nat_lt k faults)) else told_there m (k - length r) (q ++ r) h)
    by true b t = one b (bound_told m (q ++ take k r) (nat_lt k faults)) (bound-to m (q ++ take k r) (nat_lt k faults))
    by false b t = there-to m (k - length r) (q ++ r) h

own-kept : (p : Name) (ts : List Told) → IsTo p ts → of_leaf p ts ≡ ts
own-kept p [] h = refl
own-kept p (t ∷ ts) h =
    ap (λ b. if b then t ∷ of_leaf p ts else of_leaf p ts) (ap (same_name p) h.0 ∙ same_name-refl p) ∙ ap (λ us. t ∷ us) (own-kept p ts h.1)

other-dropped : (p m : Name) (ts : List Told) → same_name p m ≡ false → IsTo m ts → of_leaf p ts ≡ []
other-dropped p m [] e h = refl
other-dropped p m (t ∷ ts) e h = ap (λ b. if b then t ∷ of_leaf p ts else of_leaf p ts) (ap (same_name p) h.0 ∙ e) ∙ other-dropped p m ts e h.1

-- ---- links that are there

record Outputs (f : Flow) (t o : Name) : Type 0 where
  step : has_name f.steps t ≡ true
  output_there : has_name (outputs_of f t) o ≡ true

outputs-there : (f : Flow) (t o : Name) → is_there f (output t o) ≡ true → Outputs f t o
outputs-there f t o h = by (named t f.steps) refl h
  where
    by : (x : Option Step) → named t f.steps ≡ x → option_map_or (λ s. has_name s.outputs o) x false ≡ true → Outputs f t o
    by None e k = absurd (true≢false (sym k))
    by (Some s) e k = record { step = ap is_some e; output_there = ap (λ x. has_name (option_map_or (λ s. s.outputs) x []) o) e ∙ k }

all-at : {X : Type 0} (p : X → Bool) (xs : List X) (k : ℕ) (x : X) → list_all p xs ≡ true → slice_get xs k ≡ Some x → p x ≡ true
all-at p [] k x h e = absurd (none-some x e)
all-at p (y ∷ xs) zero x h e = ap p (sym (same_Some y x e)) ∙ (and_parts (p y) (list_all p xs) h).0
all-at p (y ∷ xs) (suc k) x h e = all-at p xs k x ((and_parts (p y) (list_all p xs) h).1) e

-- ---- an event of a step, as the code has it

module _ (f : Flow) (e : Event) (there : has_name f.steps (event_step e) ≡ true) (given_at : Name → Value) (faults : Name → ℕ) (from : ℕ) (c : code.Event) (seen : IsSeenAs f given_at faults from e c) where
  abbrev s : ℕ
  s = position (event_step e) f.steps

  -- what is told to a leaf along a way
  abbrev tell : Name → ℕ → Option ℕ → ℕ → List Told
  tell m l q o = told_on_way m l (place_of_item q) c.whole_from (get_or c.faults.now o 0) c.place.now (happening c.happened o)

  tell-is : (p : Name) (k : ℕ) (q : Option ℕ) (o : Name) → has_name (outputs_of f (event_step e)) o ≡ true → tell p k q (position o (outputs_of f (event_step e))) ≡ told_on_way p k (place_of_item q) from (faults o) (event_place e) (happening_of e (given_at o))
  tell-is p k q o h i = told_on_way p k (place_of_item q) (seen.whole_from i) (seen.faults_are o h i) (seen.place i) (seen.happened o h i)

  link-told : (p : Name) (k : ℕ) (q : Option ℕ) (l : Link) → is_there f l ≡ true → link_by told_leaf tell f s p k q l ≡ link_by_ways e given_at faults p from k (place_of_item q) l
  link-told p k q (input x) h = refl
  link-told p k q (output t o) h =
      let out = outputs-there f t o h in
      ap (λ b. if b then tell p k q (position o (outputs_of f t)) else []) (position-same t (event_step e) f.steps out.step there)
      ∙ by (same_name t (event_step e)) refl out.output_there
    where
      by : (b : Bool) → same_name t (event_step e) ≡ b → has_name (outputs_of f t) o ≡ true → (if b then tell p k q (position o (outputs_of f t)) else []) ≡ (if b then told_on_way p k (place_of_item q) from (faults o) (event_place e) (happening_of e (given_at o)) else [])
      by true g has =
          let same : t ≡ event_step e = same_name-is t (event_step e) g in
          ap (λ n. tell p k q (position o (outputs_of f n))) same ∙ tell-is p k q o (subst (λ n. has_name (outputs_of f n) o ≡ true) same has)
      by false g has = refl

  links-told : (p : Name) (k i : ℕ) (ls : List Link) → list_all (is_there f) ls ≡ true → links_by told_leaf tell f s p k i ls ≡ links_by_ways e given_at faults p from k i ls
  links-told p k i [] h = refl
  links-told p k i (l ∷ ls) h =
      let b = and_parts (is_there f l) (list_all (is_there f) ls) h in
      ap₂ (λ x y. x ++ y) (link-told p k (Some i) l b.0) (links-told p k (suc i) ls b.1)

  port-told : (p : Name) (faulty : Bool) (k : ℕ) (feed : Feed) → list_all (is_there f) (feed_links feed) ≡ true → port_by told_leaf tell f s p k feed ≡ port_by_ways e given_at faults p from false faulty k feed
  port-told p faulty zero feed h = refl
  port-told p faulty (suc k) (link l) h = link-told p (suc k) None l ((and_parts (is_there f l) true h).0)
  port-told p faulty (suc k) (merge ls) h = links-told p k 0 ls h
  port-told p faulty (suc k) (constant v) h = refl

-- the number of a name that is there
pub few-there : {A : Type 0} (n : Name) (xs : List (Name × A)) → has_name xs n ≡ true → position n xs < length xs
few-there n [] h = absurd (true≢false (sym h))
few-there n (x ∷ xs) h = by (same_name n x.0) h (λ k. few-there n xs k)
  where
    up : (a b : ℕ) → a < b → suc a < suc b
    up a b l = omega arith

    first : (b : ℕ) → 0 < suc b
    first b = omega arith

    by : (b : Bool) → is_some (if b then Some x.1 else named n xs) ≡ true → (has_name xs n ≡ true → position n xs < length xs) → (if b then 0 else suc (position n xs)) < suc (length xs)
    by true k rec = first (length xs)
    by false k rec = up (position n xs) (length xs) (rec k)

module _ (f : Flow) (wired : IsWired f) (n : ℕ) (s : Name × Step) (i : Name × StepInput) (port : IsPortOf f n s i) where
  pub links-of : list_all (is_there f) (feed_links i.1.from) ≡ true
  links-of =
      all-at (λ (j : Name × StepInput). list_all (is_there f) (feed_links j.1.from)) s.1.inputs port.number i
      (all-at (λ (t : Name × Step). list_all (λ j. list_all (is_there f) (feed_links j.1.from)) t.1.inputs) f.steps n s wired.links port.step) port.port

  pub leaf-of : (m : ℕ) (y : Name × StepInput) → slice_get s.1.inputs m ≡ Some y → list_any (same_name y.0) (leaf_names (strategy_of s.1)) ≡ true
  leaf-of m y g =
      all-at (λ (j : Name × StepInput). list_any (same_name j.0) (leaf_names (strategy_of s.1))) s.1.inputs m y
      (all-at (λ (t : Name × Step). list_all (λ j. list_any (same_name j.0) (leaf_names (strategy_of t.1))) t.1.inputs) f.steps n s wired.leaves port.step) g

  pub ports-rise : is_ascending (names_of s.1.inputs) ≡ true
  ports-rise = ascending is_step_input 0 16 s.1.inputs (step-inputs s.1 (step-at f wired.formed n s port.step))

pub wires-tell : WiresTellPorts
wires-tell f n s i given_at faults from e c told faulty =
    let tells = tell f e told.feeding given_at faults from c told.event in
    ap (of_leaf i.0) (flat-mapped (way_tellings (strategy_of s.1) c) way_of (filter (leads_into n) (wires_from (wiring f) (position (event_step e) f.steps))))
    ∙ told-along told_leaf tells f (position (event_step e) f.steps) n s.0 s.1 told.port.step i.0
    (λ l q o. own-kept i.0 (tells i.0 l q o) (way-to i.0 l (place_of_item q) c.whole_from (get_or c.faults.now o 0) c.place.now (happening c.happened o)))
    told.port.number i.1 (leaf-named i.0 (leaf_names (strategy_of s.1)) (leaf-of f told.wired n s i told.port told.port.number i told.port.port))
    (λ m l q o g. other-dropped i.0 m (tells m l q o) g (way-to m l (place_of_item q) c.whole_from (get_or c.faults.now o 0) c.place.now (happening c.happened o)))
    (few-there (event_step e) f.steps told.feeding) told.port.port (ports-rise f told.wired n s i told.port) (leaf-of f told.wired n s i told.port)
    ∙ port-told f e told.feeding given_at faults from c told.event i.0 faulty (levels_of f i.1) i.1.from (links-of f told.wired n s i told.port)

-- ---- the same in theory

told-of_leaf : (p : Name) (ts : List Told) → told_to ts p ≡ map (λ x. x.item) (tellings (of_leaf p ts))
told-of_leaf p [] = refl
told-of_leaf p (t ∷ ts) = by (same_name p (told_leaf t)) (told-of_leaf p ts)
  where
    by : (b : Bool) → told_to ts p ≡ map (λ x. x.item) (tellings (of_leaf p ts)) → if_so b (item (told_place t) (told_kind t)) ++ told_to ts p ≡ map (λ x. x.item) (tellings (if b then t ∷ of_leaf p ts else of_leaf p ts))
    by true e = ap (λ ys. item (told_place t) (told_kind t) ∷ ys) e
    by false e = e

seen-items : (values : Name → Traced) (ts : List Told) → map (item_there values) (map (λ x. x.item) (tellings ts)) ≡ map (seen_told values) ts
seen-items values [] = refl
seen-items values (t ∷ ts) = ap (λ ys. seen_told values t ∷ ys) (seen-items values ts)

-- ---- ports that take their feeds at once

module _ (strategy : Strategy) (p : Name) where
  abbrev whole_item : Name → Item Spot Spot
  whole_item m = item [] (ends ((m, []) ∷ []))

  -- what the port is told where the leaf of that number has its whole value
  abbrev by_leaf : ℕ → List (Item Spot Spot)
  by_leaf l = if_so (same_name p (leaf_name strategy l)) (whole_item (leaf_name strategy l))

  by-leaves : (ws : List Whole) → told_to (map (whole_telling strategy) ws) p ≡ flat_map by_leaf (map (λ (w : Whole). w.leaf) ws)
  by-leaves [] = refl
  by-leaves (w ∷ ws) = ap₂ (λ a b. a ++ b) (by w.faulty) (by-leaves ws)
    where
      by : (b : Bool) → if_so (same_name p (told_leaf (bound_told (leaf_name strategy w.leaf) [] b))) (item (told_place (bound_told (leaf_name strategy w.leaf) [] b)) (told_kind (bound_told (leaf_name strategy w.leaf) [] b))) ≡ by_leaf w.leaf
      by true = refl
      by false = refl

  by-filtered : (test : Port → Bool) (xs : List Port) → flat_map by_leaf (map (λ (q : Port). q.leaf) (filter test xs)) ≡ flat_map (λ q. if test q then by_leaf q.leaf else []) xs
  by-filtered test [] = refl
  by-filtered test (x ∷ xs) = by (test x) (by-filtered test xs)
    where
      by : (b : Bool) → flat_map by_leaf (map (λ (q : Port). q.leaf) (filter test xs)) ≡ flat_map (λ q. if test q then by_leaf q.leaf else []) xs → flat_map by_leaf (map (λ (q : Port). q.leaf) (if b then x ∷ filter test xs else filter test xs)) ≡ (if b then by_leaf x.leaf else []) ++ flat_map (λ q. if test q then by_leaf q.leaf else []) xs
      by true e = ap (λ ys. by_leaf x.leaf ++ ys) e
      by false e = e

module _ (f : Flow) (wired : IsWired f) (n : ℕ) (s : Name × Step) (i : Name × StepInput) (port : IsPortOf f n s i) where
  abbrev leaves : List Name
  leaves = leaf_names (strategy_of s.1)

  own-leaf : by_leaf (strategy_of s.1) i.0 (leaf_number i.0 leaves) ≡ whole_item (strategy_of s.1) i.0 i.0 ∷ []
  own-leaf =
      ap (λ m. if_so (same_name i.0 m) (whole_item (strategy_of s.1) i.0 m)) (leaf-named i.0 leaves (leaf-of f wired n s i port port.number i port.port))
      ∙ ap (λ b. if_so b (whole_item (strategy_of s.1) i.0 i.0)) (same_name-refl i.0)

  other-leaf : (m : ℕ) (y : Name × StepInput) → slice_get s.1.inputs m ≡ Some y → (m ≡ port.number → ⊥) → by_leaf (strategy_of s.1) i.0 (leaf_number y.0 leaves) ≡ []
  other-leaf m y g ne =
      ap (λ x. if_so (same_name i.0 x) (whole_item (strategy_of s.1) i.0 x)) (leaf-named y.0 leaves (leaf-of f wired n s i port m y g))
      ∙ by (same_name i.0 y.0) refl
    where
      by : (b : Bool) → same_name i.0 y.0 ≡ b → if_so b (whole_item (strategy_of s.1) i.0 y.0) ≡ []
      by true h = absurd (ne (one-place s.1.inputs m port.number y i (ports-rise f wired n s i port) g port.port (sym (same_name-is i.0 y.0 h))))
      by false h = refl

  unnumbered : {X Y : Type 0} (F : X → List Y) (k : ℕ) (xs : List X) → flat_map F xs ≡ flat_map (λ z. F z.1) (numbered k xs)
  unnumbered F k [] = refl
  unnumbered F k (x ∷ xs) = ap (λ ys. F x ++ ys) (unnumbered F (suc k) xs)

  -- of all ports of the step that pass a test
  by-test : (test : Port → Bool) → flat_map (by_leaf (strategy_of s.1) i.0) (map (λ (q : Port). q.leaf) (filter test (ports_of f s.1))) ≡ if_so (test (port_among f leaves i)) (whole_item (strategy_of s.1) i.0 i.0)
  by-test test =
      by-filtered (strategy_of s.1) i.0 test (ports_of f s.1)
      ∙ flat-mapped (λ q. if test q then by_leaf (strategy_of s.1) i.0 q.leaf else []) (port_among f leaves) s.1.inputs
      ∙ unnumbered (λ x. if test (port_among f leaves x) then by_leaf (strategy_of s.1) i.0 (leaf_number x.0 leaves) else []) 0 s.1.inputs
      ∙ only-at (λ z. if test (port_among f leaves z.1) then by_leaf (strategy_of s.1) i.0 (leaf_number z.1.0 leaves) else []) s.1.inputs port.number i port.port (λ m y g ne. ap (λ ys. if test (port_among f leaves y) then ys else []) (other-leaf m y g ne) ∙ none (test (port_among f leaves y)))
      ∙ ap (λ ys. if test (port_among f leaves i) then ys else []) own-leaf
      ∙ one (test (port_among f leaves i))
    where
      empty : List (Item Spot Spot)
      empty = []

      none : (b : Bool) → (if b then [] else []) ≡ empty
      none true = refl
      none false = refl

      one : (b : Bool) → (if b then whole_item (strategy_of s.1) i.0 i.0 ∷ [] else []) ≡ if_so b (whole_item (strategy_of s.1) i.0 i.0)
      one true = refl
      one false = refl

  whole-told : (turned : Bool) (whole : ℕ → Bool) (t : ℕ) (ws : List Whole) → AreWholeWith turned whole t (ports_of_step (wiring f) n) ws → told_to (map (whole_telling (strategy_of s.1)) ws) i.0 ≡ if_so (turned && takes_whole_with f whole t s.1 i) (whole_item (strategy_of s.1) i.0 i.0)
  whole-told turned whole t ws h = by-leaves (strategy_of s.1) i.0 ws ∙ ap (flat_map (by_leaf (strategy_of s.1) i.0)) h ∙ by turned
    where
      by : (b : Bool) → flat_map (by_leaf (strategy_of s.1) i.0) (if b then leaves_whole_with whole t (ports_of_step (wiring f) n) else []) ≡ if_so (b && takes_whole_with f whole t s.1 i) (whole_item (strategy_of s.1) i.0 i.0)
      by true = ap (λ ps. flat_map (by_leaf (strategy_of s.1) i.0) (leaves_whole_with whole t ps)) (at-number (λ (x : Name × Step). ports_of f x.1) f.steps n s port.step) ∙ by-test (has_whole_with whole t)
      by false = refl

pub events-tell : EventsTellAsInTheory
events-tell f n s i given_at faults from e c told tells newly turns turned whole ws are values =
    ap (map (item_there values)) (told-more (told_along f n s.1 (event_step e) c) (map (whole_telling (strategy_of s.1)) ws) i.0)
    ∙ map-append (item_there values) (told_to (told_along f n s.1 (event_step e) c) i.0) (told_to (map (whole_telling (strategy_of s.1)) ws) i.0)
    ∙ ap₂ (λ a b. a ++ map (item_there values) b)
    (ap (map (item_there values))
    (told-of_leaf i.0 (told_along f n s.1 (event_step e) c)
    ∙ ap (map (λ x. x.item))
    (ap tellings (wires-tell f n s i given_at faults from e c told false)
    ∙ sym (ports-by_ways newly e given_at faults i.0 from tells turns false false (levels_of f i.1) i.1.from)))
    ∙ seen-items values (port_told newly e given_at i.0 false (levels_of f i.1) i.1.from))
    (whole-told f told.wired n s i told.port turned whole (position (event_step e) f.steps) ws are)
    ∙ by (levels_of f i.1) refl
  where
    -- a port that walks some levels doesn't take its feed at once
    walks : (k : ℕ) → levels_of f i.1 ≡ suc k → (turned && takes_whole_with f whole (position (event_step e) f.steps) s.1 i) ≡ false
    walks k g = ap (λ b. turned && (b && (feed_from (position (event_step e) f.steps) (feed_numbered f i.1.from) && feed_whole (with_step whole (position (event_step e) f.steps)) (feed_numbered f i.1.from)))) (ap (λ m. m == 0) g ∙ some k) ∙ and-none turned
      where
        some : (m : ℕ) → (suc m == 0) ≡ false
        some m = grind arith

        and-none : (b : Bool) → (b && false) ≡ false
        and-none true = refl
        and-none false = refl

    at-once : (b : Bool) (feed : Feed) → map (seen_told values) (port_told newly e given_at i.0 false 0 feed) ++ map (item_there values) (if_so b (whole_item (strategy_of s.1) i.0 i.0)) ≡ map (seen_told values) (port_told newly e given_at i.0 b 0 feed)
    at-once true feed = refl
    at-once false feed = refl

    walked : (b : Bool) (k : ℕ) (feed : Feed) → b ≡ false → map (seen_told values) (port_told newly e given_at i.0 false (suc k) feed) ++ map (item_there values) (if_so b (whole_item (strategy_of s.1) i.0 i.0)) ≡ map (seen_told values) (port_told newly e given_at i.0 b (suc k) feed)
    walked true k feed g = absurd (true≢false g)
    walked false k feed g = append-nil (map (seen_told values) (port_told newly e given_at i.0 false (suc k) feed))

    by : (k : ℕ) → levels_of f i.1 ≡ k → map (seen_told values) (port_told newly e given_at i.0 false (levels_of f i.1) i.1.from) ++ map (item_there values) (if_so (turned && takes_whole_with f whole (position (event_step e) f.steps) s.1 i) (whole_item (strategy_of s.1) i.0 i.0)) ≡ map (seen_told values) (port_told newly e given_at i.0 (turned && takes_whole_with f whole (position (event_step e) f.steps) s.1 i) (levels_of f i.1) i.1.from)
    by zero g =
        ap (λ m. map (seen_told values) (port_told newly e given_at i.0 false m i.1.from) ++ map (item_there values) (if_so (turned && takes_whole_with f whole (position (event_step e) f.steps) s.1 i) (whole_item (strategy_of s.1) i.0 i.0))) g
        ∙ at-once (turned && takes_whole_with f whole (position (event_step e) f.steps) s.1 i) i.1.from
        ∙ ap (λ m. map (seen_told values) (port_told newly e given_at i.0 (turned && takes_whole_with f whole (position (event_step e) f.steps) s.1 i) m i.1.from)) (sym g)
    by (suc k) g =
        ap (λ m. map (seen_told values) (port_told newly e given_at i.0 false m i.1.from) ++ map (item_there values) (if_so (turned && takes_whole_with f whole (position (event_step e) f.steps) s.1 i) (whole_item (strategy_of s.1) i.0 i.0))) g
        ∙ walked (turned && takes_whole_with f whole (position (event_step e) f.steps) s.1 i) k i.1.from (walks k g)
        ∙ ap (λ m. map (seen_told values) (port_told newly e given_at i.0 (turned && takes_whole_with f whole (position (event_step e) f.steps) s.1 i) m i.1.from)) (sym g)

-- ---- feeds by names and by numbers

module _ (f : Flow) (instance : JobName) (known : Origin → Bool) (fs : List InstanceStep) (whole : ℕ → Bool) (marked : (t : Name) → has_name f.steps t ≡ true → IsMarked f instance known fs whole t) where
  link-whole : (l : Link) → is_there f l ≡ true → framing.link_whole instance known fs l ≡ link_whole whole (link_numbered f l)
  link-whole (input x) h = refl
  link-whole (output t o) h =
      let out = outputs-there f t o h in
      let m = marked t out.step in
      ap (λ x. option_map_or (λ (g : InstanceStep). option_map_or (λ d. step_whole instance known g) (named o g.step.outputs) true) x true) m.found
      ∙ by (named o m.step.step.outputs) (step_whole instance known m.step) (m.outputs o out.output_there)
      ∙ sym m.marked
    where
      by : {D : Type 0} (x : Option D) (b : Bool) → is_some x ≡ true → option_map_or (λ d. b) x true ≡ b
      by None b g = absurd (true≢false (sym g))
      by (Some d) b g = refl

  links-whole : (ls : List Link) → list_all (is_there f) ls ≡ true → list_all (framing.link_whole instance known fs) ls ≡ list_all (link_whole whole) (map (link_numbered f) ls)
  links-whole [] h = refl
  links-whole (l ∷ ls) h =
      let b = and_parts (is_there f l) (list_all (is_there f) ls) h in
      ap₂ (λ x y. x && y) (link-whole l b.0) (links-whole ls b.1)

  feed-whole : (feed : Feed) → list_all (is_there f) (feed_links feed) ≡ true → framing.feed_whole instance known fs feed ≡ feed_whole whole (feed_numbered f feed)
  feed-whole (link l) h = link-whole l ((and_parts (is_there f l) true h).0)
  feed-whole (merge ls) h = links-whole ls h
  feed-whole (constant v) h = refl

pub feeds-whole : FeedsAreWholeByNumbers
feeds-whole f wired n s i port instance known fs whole marked = feed-whole f instance known fs whole marked i.1.from (links-of f wired n s i port)
