-- What the code finds by numbers of faults and of whole ports is so by events.
use Rattle.std.specs.List.{list_all, list_any}
use Rattle.std.specs.Option.{option_map_or}
use Rattle.std.specs.Prelude.{get_or, unwrap_or, ◌≡◌, refl, ℕ, suc, ◌&&◌, ◌||◌, Bool, true, false, if◌then◌else◌, is_some, List, [], ◌∷◌, filter, map, Option, Some, None, slice_get}
use Rattle.std.proofs.Common.{sym, ap, ap₂, subst, ◌∙◌, zero-le}
use Rattle.std.proofs.lemmas.Bool.{and_parts, true≢false}
use Rattle.std.proofs.lemmas.Option.{get_or_from_slice_get, slice_get_within}
use Rattle.tv_lemmas.specs.Members.{Each}
use Rattle.tv_lemmas.proofs.Members.{in_each, of-all, of-filter, of-map}
use Rattle.tv_value.specs.Nested.{Place}
use Rattle.tv_flow.specs.Formed.{is_ascending, is_depth}
use Rattle.tv_value.specs.Orders.{named, same_name}
use Rattle.tv_value.specs.Values.{Name, Value, holds_fault}
use Rattle.tv_framing.specs.engine.WiredFlows.{IsWired}
use Rattle.tv_flow.specs.Flows.{Feed, Flow, Link, Step, StepInput, constant, input, link, merge, output}
use Rattle.tv_strategy.specs.Measures.{leaf_names}
use Rattle.tv_naming.specs.Naming.{feed_links, has_name, is_there}
use Rattle.tv_naming.specs.Numbers.{position}
use Rattle.tv_naming.proofs.ByPosition.{named-at, names_of, position-at}
use Rattle.tv_value.proofs.NameLemmas.{same_name-is}
use Rattle.tv_naming.proofs.FormedParts.{ascending, passes, step-at, step-outputs}
use Rattle.tv_model.specs.instance.Steps.{strategy_of}
use Rattle.tv_matching.proofs.Lists.{each-map}
use Rattle.tv_parts.specs.Partials.{HoldsFaults, Partial, holds_some}
use Rattle.tv_telling.specs.declared.ways.Whole.{Whole}
use Rattle.tv_check.specs.declared.ports.Port.{Port}
use Rattle.tv_check.specs.Feeds.{feed_numbered, link_numbered, outputs_of}
use Rattle.tv_check.specs.Ports.{port_among, ports_of}
use Rattle.tv_telling.specs.endings.Feeds as feeds
use Rattle.tv_telling.specs.endings.Feeds.{feed_from, has_whole_with, with_step}
use Rattle.tv_model.specs.instance.Counting.{whole_by}
use Rattle.tv_model.specs.instance.Events as events
use Rattle.tv_model.specs.instance.Events.{Event, Events, event_step, fault_set, took}
use Rattle.tv_framing.specs.Arriving.{part_so_far, put_event}
use Rattle.tv_framing.proofs.engine.Endings.{at-number}
use Rattle.tv_framing.proofs.starts.Steps.{stands-at}
use Rattle.tv_model.specs.Instances.{value_given}
use Rattle.tv_framing.specs.faults.Known.{IsTrueWhole, feed_faulty, link_faulty, link_known, tree_of}
use Rattle.tv_framing.specs.faults.Numbers.{AreFaultsBy, AreWholeBy, numbered_feed_faulty, numbered_link_faulty}
use Rattle.tv_framing.specs.faults.Stated.{FaultsAreByNumbers, TreesAreByEvents, TreesAreByNumbers, WholePortsAreTrue}

-- what stands at the position of a name that is there
at-position : {A : Type 0} (n : Name) (xs : List (Name × A)) → has_name xs n ≡ true → (x : Name × A) × (slice_get xs (position n xs) ≡ Some x) × (x.0 ≡ n)
at-position n [] h = absurd (true≢false (sym h))
at-position {A = A} n (y ∷ xs) h = by (same_name n y.0) refl h (λ k. at-position n xs k)
  where
    by : (b : Bool) → same_name n y.0 ≡ b → is_some (if b then Some y.1 else named n xs) ≡ true → (has_name xs n ≡ true → (x : Name × A) × (slice_get xs (position n xs) ≡ Some x) × (x.0 ≡ n)) → (x : Name × A) × (slice_get (y ∷ xs) (if b then 0 else suc (position n xs)) ≡ Some x) × (x.0 ≡ n)
    by true e k rec = (y, refl, sym (same_name-is n y.0 e))
    by false e k rec = rec k

-- an output that is there
pub step-there : (f : Flow) (t o : Name) → is_there f (output t o) ≡ true → (has_name f.steps t ≡ true) × (has_name (outputs_of f t) o ≡ true)
step-there f t o h = by (named t f.steps) refl h
  where
    by : (x : Option Step) → named t f.steps ≡ x → option_map_or (λ (s : Step). has_name s.outputs o) x false ≡ true → (has_name f.steps t ≡ true) × (has_name (outputs_of f t) o ≡ true)
    by None e k = absurd (true≢false (sym k))
    by (Some s) e k = (ap is_some e, ap (λ x. has_name (option_map_or (λ (s : Step). s.outputs) x []) o) e ∙ k)

module _ (f : Flow) (levels : Name → ℕ) (given : List (Name × Value)) (es : Events) where
  -- ---- what is whole

  module _ (whole : ℕ → Bool) (t : ℕ) (are : AreWholeBy f levels es whole t) where
    link-whole : (l : Link) → is_there f l ≡ true → feeds.link_whole (with_step whole t) (link_numbered f l) ≡ true → link_known levels es l ≡ true
    link-whole (input x) h k = refl
    link-whole (output s o) h k =
        let p = at-position s f.steps (step-there f s o h).0 in
        ap (λ n. whole_by es n (levels n) []) (sym p.2) ∙ are (position s f.steps) p.0 p.1 k

    links-whole : (ls : List Link) → list_all (is_there f) ls ≡ true → list_all (feeds.link_whole (with_step whole t)) (map (link_numbered f) ls) ≡ true → list_all (link_known levels es) ls ≡ true
    links-whole [] h k = refl
    links-whole (l ∷ ls) h k =
        let a = and_parts (is_there f l) (list_all (is_there f) ls) h in
        let b = and_parts (feeds.link_whole (with_step whole t) (link_numbered f l)) (list_all (feeds.link_whole (with_step whole t)) (map (link_numbered f) ls)) k in
        ap₂ (λ x y. x && y) (link-whole l a.0 b.0) (links-whole ls a.1 b.1)

    feed-whole : (d : Feed) → list_all (is_there f) (feed_links d) ≡ true → feeds.feed_whole (with_step whole t) (feed_numbered f d) ≡ true → list_all (link_known levels es) (feed_links d) ≡ true
    feed-whole (link l) h k = ap (λ x. x && true) (link-whole l (and_parts (is_there f l) true h).0 k)
    feed-whole (merge ls) h k = links-whole ls h k
    feed-whole (constant c) h k = refl

  -- ---- what holds a fault

  module _ (inputs : ℕ → Bool) (outputs : ℕ → ℕ → Bool) (are : AreFaultsBy f levels given es inputs outputs) where
    link-faults : (l : Link) → is_there f l ≡ true → numbered_link_faulty inputs outputs (link_numbered f l) ≡ link_faulty f levels given es l
    link-faults (input x) h = are.inputs_are x h
    link-faults (output s o) h = let p = step-there f s o h in are.outputs_are s o p.0 p.1

    links-faults : (ls : List Link) → list_all (is_there f) ls ≡ true → list_any (numbered_link_faulty inputs outputs) (map (link_numbered f) ls) ≡ list_any (link_faulty f levels given es) ls
    links-faults [] h = refl
    links-faults (l ∷ ls) h =
        let a = and_parts (is_there f l) (list_all (is_there f) ls) h in
        ap₂ (λ x y. x || y) (link-faults l a.0) (links-faults ls a.1)

    feed-faults : (t : ℕ) (d : Feed) → list_all (is_there f) (feed_links d) ≡ true → feed_from t (feed_numbered f d) ≡ true → numbered_feed_faulty inputs outputs (feed_numbered f d) ≡ feed_faulty f levels given es d
    feed-faults t (link l) h k = link-faults l (and_parts (is_there f l) true h).0
    feed-faults t (merge ls) h k = links-faults ls h
    feed-faults t (constant c) h k = absurd (true≢false (sym k))

pub whole_ports-are_true : WholePortsAreTrue
whole_ports-are_true f wired n s there levels given es whole t are inputs outputs faults =
    let leaves = leaf_names (strategy_of s.1) in
    let tell : Port → Whole = λ p. record { leaf = p.leaf; faulty = numbered_feed_faulty inputs outputs p.feed } in
    let links = passes (λ (u : Name × Step). list_all (λ (i : Name × StepInput). list_all (is_there f) (feed_links i.1.from)) u.1.inputs) f.steps n s wired.links there in
    subst (λ ps. Each (IsTrueWhole f levels given es s.1) (map tell (filter (has_whole_with whole t) ps))) (sym (at-number (λ (u : Name × Step). ports_of f u.1) f.steps n s there))
    (each-map (IsTrueWhole f levels given es s.1) tell (filter (has_whole_with whole t) (ports_of f s.1))
    (in_each (λ p. IsTrueWhole f levels given es s.1 (tell p)) (filter (has_whole_with whole t) (ports_of f s.1))
    (λ p g.
    let a = of-filter (has_whole_with whole t) p (ports_of f s.1) g in
    let i = of-map (port_among f leaves) p s.1.inputs a.0 in
    let test : has_whole_with whole t (port_among f leaves i.0) ≡ true = ap (has_whole_with whole t) (sym i.2) ∙ a.1 in
    let fed = and_parts (feed_from t (feed_numbered f i.0.1.from)) (feeds.feed_whole (with_step whole t) (feed_numbered f i.0.1.from)) (and_parts _ _ test).1 in
    let links_there = of-all (λ (j : Name × StepInput). list_all (is_there f) (feed_links j.1.from)) s.1.inputs links i.0 i.1 in
    record {
      port = i.0;
      among = i.1;
      leaf = ap (λ (q : Port). q.leaf) i.2;
      known = feed-whole f levels given es whole t are i.0.1.from links_there fed.1;
      faulty = ap (λ (q : Port). numbered_feed_faulty inputs outputs q.feed) i.2 ∙ feed-faults f levels given es inputs outputs faults t i.0.1.from links_there fed.0;
    })))

-- ---- trees

not-taken : (b : Bool) (x y : Partial Value) → b ≡ false → (if b then x else y) ≡ y
not-taken true x y h = absurd (true≢false h)
not-taken false x y h = refl

other-stays : (s : Name) (k levels declared : ℕ) (e : Event) (p : Partial Value) → same_name s (event_step e) ≡ false → put_event s k levels declared e p ≡ p
other-stays s k levels declared (events.gave t q vs) p h = not-taken (same_name s t) _ p h
other-stays s k levels declared (events.closed t q n) p h = not-taken (same_name s t) _ p h
other-stays s k levels declared (fault_set t q d) p h = not-taken (same_name s t) _ p h
other-stays s k levels declared (took t q) p h = refl

pub trees-are_by_events : TreesAreByEvents
trees-are_by_events levels v e =
    record {
      stays = λ t o h. other-stays t _ _ _ e (tree_of v.flow levels v.events t o) h;
      own = λ faults from c w o h. w.hold o h 0 zero-le;
    }

-- ---- trees by numbers

module _ (f : Flow) (wired : IsWired f) (n : ℕ) (s : Name × Step) (there : slice_get f.steps n ≡ Some s) where
  own-outputs : outputs_of f s.0 ≡ s.1.outputs
  own-outputs = ap (λ x. option_map_or (λ (t : Step). t.outputs) x []) (stands-at f wired n s there)

  outputs-rise : is_ascending (names_of s.1.outputs) ≡ true
  outputs-rise = ascending is_depth 0 16 s.1.outputs (step-outputs s.1 (step-at f wired.formed n s there))

  module _ (levels : Name → ℕ) (es : Events) where
    numbered-tree : (k : ℕ) (o : Name × ℕ) → slice_get s.1.outputs k ≡ Some o → tree_of f levels es s.0 o.0 ≡ part_so_far s.0 k (levels s.0) o.1 es
    numbered-tree k o e =
        let l = slice_get_within s.1.outputs k o e in
        let same = get_or_from_slice_get s.1.outputs k o o e in
        let number : position o.0 s.1.outputs ≡ k = ap (λ (x : Name × ℕ). position x.0 s.1.outputs) (sym same) ∙ position-at s.1.outputs k o outputs-rise l in
        let found : named o.0 s.1.outputs ≡ Some o.1 = subst (λ (x : Name × ℕ). named x.0 s.1.outputs ≡ Some x.1) same (named-at s.1.outputs k o outputs-rise l) in
        ap (λ ps. part_so_far s.0 (position o.0 ps) (levels s.0) (unwrap_or (named o.0 ps) 0) es) own-outputs
        ∙ ap₂ (λ i c. part_so_far s.0 i (levels s.0) c es) number (ap (λ x. unwrap_or x 0) found)

    numbered-hold : (q : Place) (counts : List ℕ) → ((k : ℕ) (o : Name × ℕ) → slice_get s.1.outputs k ≡ Some o → HoldsFaults q (part_so_far s.0 k (levels s.0) o.1 es) (get_or counts k 0)) → (o : Name) → has_name (outputs_of f s.0) o ≡ true → HoldsFaults q (tree_of f levels es s.0 o) (get_or counts (position o (outputs_of f s.0)) 0)
    numbered-hold q counts h o has =
        let x = at-position o s.1.outputs (subst (λ ps. has_name ps o ≡ true) own-outputs has) in
        let tree : part_so_far s.0 (position o s.1.outputs) (levels s.0) x.0.1 es ≡ tree_of f levels es s.0 o = sym (numbered-tree (position o s.1.outputs) x.0 x.1) ∙ ap (λ m. tree_of f levels es s.0 m) x.2 in
        let count : get_or counts (position o s.1.outputs) 0 ≡ get_or counts (position o (outputs_of f s.0)) 0 = ap (λ ps. get_or counts (position o ps) 0) (sym own-outputs) in
        subst (λ c. HoldsFaults q (tree_of f levels es s.0 o) c) count
        (subst (λ (r : Partial Value). HoldsFaults q r (get_or counts (position o s.1.outputs) 0)) tree (h (position o s.1.outputs) x.0 x.1))

pub trees-are_by_numbers : TreesAreByNumbers
trees-are_by_numbers f wired n s there levels es =
    record { tree = numbered-tree f wired n s there levels es; hold = numbered-hold f wired n s there levels es }

pub faults-are_by_numbers : FaultsAreByNumbers
faults-are_by_numbers f wired levels given es inputs outputs of_inputs of_outputs =
    record {
      inputs_are = λ x h. let y = at-position x f.inputs h in of_inputs (position x f.inputs) y.0 y.1 ∙ ap (λ n. holds_fault (value_given given n)) y.2;
      outputs_are = λ t o h k.
          let s = at-position t f.steps h in
          let own : outputs_of f s.0.0 ≡ s.0.1.outputs = own-outputs f wired (position t f.steps) s.0 s.1 in
          let outs : outputs_of f t ≡ s.0.1.outputs = ap (outputs_of f) (sym s.2) ∙ own in
          let y = at-position o s.0.1.outputs (subst (λ ps. has_name ps o ≡ true) outs k) in
          ap (λ ps. outputs (position t f.steps) (position o ps)) outs
          ∙ of_outputs (position t f.steps) (position o s.0.1.outputs) s.0 y.0 s.1 y.1
          ∙ sym (ap (holds_some holds_fault) (numbered-tree f wired (position t f.steps) s.0 s.1 levels es (position o s.0.1.outputs) y.0 y.1))
          ∙ ap₂ (λ m i. holds_some holds_fault (tree_of f levels es m i)) s.2 y.2;
    }
