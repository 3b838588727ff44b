-- What is told along the wires of a flow from one step to another, port by port.
use Rattle.std.specs.List.{list_any}
use Rattle.std.specs.Prelude.{◌≡◌, refl, ℕ, zero, suc, ◌+◌, ◌-◌, ◌<◌, Bool, true, false, ◌&&◌, ◌||◌, ◌==◌, not, filter, flat_map, get_or, if◌then◌else◌, is_some, List, [], ◌∷◌, ◌++◌, length, map, Option, Some, None, slice_get, slice_index_or}
use Rattle.std.proofs.Common.{arith, sym, ap, ap₂, ◌∙◌, append-nil}
use Rattle.std.proofs.lemmas.Bool.{eq-eqb, ne_eqb, true≢false}
use Rattle.std.proofs.lemmas.List.Elements.{filter-append}
use Rattle.tv_value.specs.Orders.{named, same_name}
use Rattle.tv_value.specs.Values.{Name}
use Rattle.tv_value.proofs.NameLemmas.{same_name-is, same_name-refl}
use Rattle.tv_flow.specs.Flows.{Feed, Flow, Link, Step, StepInput, constant, input, link, merge, output}
use Rattle.tv_flow.specs.Formed.{is_ascending}
use Rattle.tv_strategy.specs.Measures.{leaf_names}
use Rattle.tv_naming.specs.Naming.{has_name, numbered}
use Rattle.tv_naming.specs.Numbers.{position}
use Rattle.tv_naming.proofs.ByPosition.{names_of}
use Rattle.tv_check.proofs.Ranked.{one-place}
use Rattle.tv_model.specs.instance.Steps.{strategy_of}
use Rattle.tv_check.specs.declared.feeds.NumberedLink.{NumberedLink}
use Rattle.tv_check.specs.declared.feeds.NumberedLink.TheVariants.{Input, Output}
use Rattle.tv_check.specs.declared.ports.Port.{Port}
use Rattle.tv_check.specs.declared.wires.Wire.{Wire}
use Rattle.tv_check.specs.Feeds.{feed_numbered, link_numbered, outputs_of}
use Rattle.tv_check.specs.Ports.{leaf_number, levels_of, port_among, ports_of}
use Rattle.tv_check.specs.Turned.{all_wires, from_number, links_of, port_wires, step_wires, wire_of}
use Rattle.tv_check.specs.Wirings.{all_ports, wires_by_step}
use Rattle.tv_telling.specs.Along.{levels_walked}
use Rattle.tv_framing.proofs.engine.Lists.{at-range, flat-flat, flat-mapped, none-flat, numbered-map, only-at}
use Rattle.tv_lemmas.proofs.Tests.{and-left_false}

-- ---- tests that choose pieces

not-into : {X : Type 0} (a b : Bool) (xs : List X) → b ≡ false → (if a then (if b then xs else []) else []) ++ [] ≡ []
not-into true true xs e = absurd (true≢false e)
not-into true false xs e = refl
not-into false b xs e = refl

none-kept : {X : Type 0} (a b : Bool) (xs : List X) → xs ≡ [] → (if a then (if b then xs else []) else []) ++ [] ≡ []
none-kept true true xs e = append-nil xs ∙ e
none-kept true false xs e = refl
none-kept false b xs e = refl

none-chosen : {X : Type 0} (b : Bool) (xs : List X) → xs ≡ [] → xs ≡ (if b then [] else xs)
none-chosen true xs e = e
none-chosen false xs e = refl

turned-tests : {X : Type 0} (a b : Bool) (z : List X) → (if b then (if not a then z else []) else []) ≡ (if a then [] else (if b then z else []))
turned-tests true true z = refl
turned-tests true false z = refl
turned-tests false true z = refl
turned-tests false false z = refl

joined : {X : Type 0} (b : Bool) (y z : List X) → (if b then [] else y) ++ (if b then [] else z) ≡ (if b then [] else y ++ z)
joined true y z = refl
joined false y z = refl

-- a name among the leaves has its number
pub leaf-named : (n : Name) (ns : List Name) → list_any (same_name n) ns ≡ true → get_or ns (leaf_number n ns) [] ≡ n
leaf-named n [] h = absurd (true≢false (sym h))
leaf-named n (m ∷ ns) h = by (same_name n m) refl h (λ k. leaf-named n ns k)
  where
    by : (b : Bool) → same_name n m ≡ b → (b || list_any (same_name n) ns) ≡ true → (list_any (same_name n) ns ≡ true → get_or ns (leaf_number n ns) [] ≡ n) → get_or (m ∷ ns) (if b then 0 else suc (leaf_number n ns)) [] ≡ n
    by true e k rec = sym (same_name-is n m e)
    by false e k rec = rec k

-- `tell` says what is told to a leaf that walks so many levels, maybe of an item of a merge, of an output; s is the step that feeds
module _ {X : Type 0} (leaf_of : X → Name) (tell : Name → ℕ → Option ℕ → ℕ → List X) (f : Flow) (s : ℕ) where
  abbrev pub link_by : Name → ℕ → Option ℕ → Link → List X
  link_by p k q (input x) = []
  link_by p k q (output t o) = if position t f.steps == s then tell p k q (position o (outputs_of f t)) else []

  abbrev pub links_by : Name → ℕ → ℕ → List Link → List X
  links_by p k i [] = []
  links_by p k i (l ∷ ls) = link_by p k (Some i) l ++ links_by p k (suc i) ls

  abbrev pub port_by : Name → ℕ → Feed → List X
  port_by p zero from = []
  port_by p (suc k) (link l) = link_by p (suc k) None l
  port_by p (suc k) (merge ls) = links_by p k 0 ls
  port_by p (suc k) (constant v) = []

  module _ (c : ℕ) (n : Name) (st : Step) (stands : slice_get f.steps c ≡ Some (n, st)) where
    abbrev leaves : List Name
    leaves = leaf_names (strategy_of st)

    -- the wires into step c that walk some levels
    abbrev pub into : Wire → Bool
    into w = w.step == c && not (w.levels == 0)

    abbrev pub told_by : Wire → List X
    told_by w = tell (get_or leaves w.leaf []) (levels_walked w.levels w.link) w.link w.output

    module _ (p : Name) where
      abbrev is_own : X → Bool
      is_own x = same_name p (leaf_of x)

      -- of one wire with the step that it comes from
      abbrev piece : ℕ × Wire → List X
      piece x = if x.0 == s then (if into x.1 then filter is_own (told_by x.1) else []) else []

      fused : (xs : List (ℕ × Wire)) → filter is_own (flat_map told_by (filter into (from_number s xs))) ≡ flat_map piece xs
      fused [] = refl
      fused (x ∷ xs) = by (x.0 == s) (fused xs)
        where
          inner : (b : Bool) → filter is_own (flat_map told_by (filter into (from_number s xs))) ≡ flat_map piece xs → filter is_own (flat_map told_by (if b then x.1 ∷ filter into (from_number s xs) else filter into (from_number s xs))) ≡ (if b then filter is_own (told_by x.1) else []) ++ flat_map piece xs
          inner true e = filter-append is_own (told_by x.1) (flat_map told_by (filter into (from_number s xs))) ∙ ap (λ ys. filter is_own (told_by x.1) ++ ys) e
          inner false e = e

          by : (a : Bool) → filter is_own (flat_map told_by (filter into (from_number s xs))) ≡ flat_map piece xs → filter is_own (flat_map told_by (filter into (map (λ (y : ℕ × Wire). y.1) (if a then x ∷ filter (λ y. y.0 == s) xs else filter (λ y. y.0 == s) xs)))) ≡ (if a then (if into x.1 then filter is_own (told_by x.1) else []) else []) ++ flat_map piece xs
          by true e = inner (into x.1) e
          by false e = e

      -- ---- wires into other steps

      other-wire : (m : ℕ) → (m ≡ c → ⊥) → (y : ℕ × Port) (l : Option ℕ × NumberedLink) → flat_map piece (wire_of m y l) ≡ []
      other-wire m ne (q, port) (at, Input x) = refl
      other-wire m ne (q, port) (at, Output t o) =
          not-into (t == s) (m == c && not (port.levels == 0)) (filter is_own (tell (get_or leaves port.leaf []) (levels_walked port.levels at) at o)) (and-left_false (m == c) (not (port.levels == 0)) (ne_eqb m c ne))

      other-step : (m : ℕ) (ports : List Port) → (m ≡ c → ⊥) → flat_map piece (step_wires (m, ports)) ≡ []
      other-step m ports ne =
          flat-flat piece (port_wires m) (numbered 0 ports)
          ∙ none-flat (λ y. flat_map piece (port_wires m y))
          (λ y. flat-flat piece (wire_of m y) (links_of y.1.feed) ∙ none-flat (λ l. flat_map piece (wire_of m y l)) (other-wire m ne y) (links_of y.1.feed))
          (numbered 0 ports)

      -- ---- wires into other ports of the step, or into ports that walk nothing

      module _ (other_leaf : (m : Name) (l : ℕ) (q : Option ℕ) (o : ℕ) → same_name p m ≡ false → filter is_own (tell m l q o) ≡ []) where
        other-port : (y : ℕ × Port) → same_name p (get_or leaves y.1.leaf []) ≡ false → flat_map piece (port_wires c y) ≡ []
        other-port (j, port) ne = flat-flat piece (wire_of c (j, port)) (links_of port.feed) ∙ none-flat (λ l. flat_map piece (wire_of c (j, port) l)) each (links_of port.feed)
          where
            each : (l : Option ℕ × NumberedLink) → flat_map piece (wire_of c (j, port) l) ≡ []
            each (at, Input x) = refl
            each (at, Output t o) =
                none-kept (t == s) (c == c && not (port.levels == 0)) (filter is_own (tell (get_or leaves port.leaf []) (levels_walked port.levels at) at o)) (other_leaf (get_or leaves port.leaf []) (levels_walked port.levels at) at o ne)

      -- ---- wires into the port itself

      module _ (own_leaf : (l : ℕ) (q : Option ℕ) (o : ℕ) → filter is_own (tell p l q o) ≡ tell p l q o) (j : ℕ) (i : StepInput) (named : get_or leaves (leaf_number p leaves) [] ≡ p) where
        abbrev port : Port
        port = port_among f leaves (p, i)

        one-link : (b : Bool) → (levels_of f i == 0) ≡ b → (at : Option ℕ) (l : Link) → flat_map piece (wire_of c (j, port) (at, link_numbered f l)) ≡ (if b then [] else link_by p (levels_walked (levels_of f i) at) at l)
        one-link b e at (input x) = none-chosen b [] refl
        one-link b e at (output t o) =
            ap (λ z. (if position t f.steps == s then (if (c == c) && not z then filter is_own (tell (get_or leaves (leaf_number p leaves) []) (levels_walked (levels_of f i) at) at (position o (outputs_of f t))) else []) else []) ++ []) e
            ∙ ap (λ z. (if position t f.steps == s then (if z && not b then filter is_own (tell (get_or leaves (leaf_number p leaves) []) (levels_walked (levels_of f i) at) at (position o (outputs_of f t))) else []) else []) ++ []) (eq-eqb c c refl)
            ∙ ap (λ z. (if position t f.steps == s then (if not b then filter is_own (tell z (levels_walked (levels_of f i) at) at (position o (outputs_of f t))) else []) else []) ++ []) named
            ∙ ap (λ z. (if position t f.steps == s then (if not b then z else []) else []) ++ []) (own_leaf (levels_walked (levels_of f i) at) at (position o (outputs_of f t)))
            ∙ append-nil (if position t f.steps == s then (if not b then tell p (levels_walked (levels_of f i) at) at (position o (outputs_of f t)) else []) else [])
            ∙ turned-tests b (position t f.steps == s) (tell p (levels_walked (levels_of f i) at) at (position o (outputs_of f t)))

        all-links : (b : Bool) → (levels_of f i == 0) ≡ b → (k m : ℕ) → ((at : ℕ) → levels_walked (levels_of f i) (Some at) ≡ k) → (ls : List Link) → flat_map (λ l. flat_map piece (wire_of c (j, port) l)) (map (λ x. (Some x.0, x.1)) (numbered m (map (link_numbered f) ls))) ≡ (if b then [] else links_by p k m ls)
        all-links b e k m w [] = none-chosen b [] refl
        all-links b e k m w (l ∷ ls) =
            ap₂ (λ y z. y ++ z) (one-link b e (Some m) l ∙ ap (λ k. if b then [] else link_by p k (Some m) l) (w m)) (all-links b e k (suc m) w ls)
            ∙ joined b (link_by p k (Some m) l) (links_by p k (suc m) ls)

        own-port : (from : Feed) → i.from ≡ from → flat_map piece (port_wires c (j, port)) ≡ port_by p (levels_of f i) from
        own-port from e =
            flat-flat piece (wire_of c (j, port)) (links_of (feed_numbered f i.from))
            ∙ ap (λ g. flat_map (λ l. flat_map piece (wire_of c (j, port) l)) (links_of (feed_numbered f g))) e
            ∙ by from (levels_of f i) refl
          where
            walked : (k : ℕ) (at : ℕ) → levels_of f i ≡ suc k → levels_walked (levels_of f i) (Some at) ≡ k
            walked k at g = ap (λ m. levels_walked m (Some at)) g ∙ less k
              where
                less : (m : ℕ) → suc m - 1 ≡ m
                less m = omega arith

            by : (from : Feed) (k : ℕ) → levels_of f i ≡ k → flat_map (λ l. flat_map piece (wire_of c (j, port) l)) (links_of (feed_numbered f from)) ≡ port_by p k from
            by (link l) zero g = append-nil (flat_map piece (wire_of c (j, port) (None, link_numbered f l))) ∙ one-link true (ap (λ m. m == 0) g) None l
            by (link l) (suc k) g =
                append-nil (flat_map piece (wire_of c (j, port) (None, link_numbered f l)))
                ∙ one-link false (ap (λ m. m == 0) g ∙ some k) None l
                ∙ ap (λ m. link_by p m None l) g
              where
                some : (m : ℕ) → (suc m == 0) ≡ false
                some m = grind arith
            by (merge ls) zero g = all-links true (ap (λ m. m == 0) g) (levels_of f i - 1) 0 (λ at. refl) ls
            by (merge ls) (suc k) g = all-links false (ap (λ m. m == 0) g ∙ some k) k 0 (λ at. walked k at g) ls
              where
                some : (m : ℕ) → (suc m == 0) ≡ false
                some m = grind arith
            by (constant v) zero g = refl
            by (constant v) (suc k) g = refl

        -- THE TELLINGS OF THE PORT
        module _ (others : (m : Name) (l : ℕ) (q : Option ℕ) (o : ℕ) → same_name p m ≡ false → filter is_own (tell m l q o) ≡ []) where
          pub told-along :
              s < length f.steps → slice_get st.inputs j ≡ Some (p, i) → is_ascending (names_of st.inputs) ≡ true
              → ((m : ℕ) (y : Name × StepInput) → slice_get st.inputs m ≡ Some y → list_any (same_name y.0) leaves ≡ true)
              → filter is_own (flat_map told_by (filter into (slice_index_or (wires_by_step f) s []))) ≡ port_by p (levels_of f i) i.from
          told-along few there rise named_all =
              ap (λ ws. filter is_own (flat_map told_by (filter into ws))) (at-range (λ m. from_number m (all_wires (all_ports f))) (length f.steps) s few)
              ∙ fused (all_wires (all_ports f))
              ∙ flat-flat piece step_wires (numbered 0 (all_ports f))
              ∙ ap (flat_map (λ x. flat_map piece (step_wires x))) (numbered-map (λ t. ports_of f t.1) 0 f.steps)
              ∙ flat-mapped (λ x. flat_map piece (step_wires x)) (λ x. (x.0, ports_of f x.1.1)) (numbered 0 f.steps)
              ∙ only-at (λ x. flat_map piece (step_wires (x.0, ports_of f x.1.1))) f.steps c (n, st) stands (λ m y e ne. other-step m (ports_of f y.1) ne)
              ∙ flat-flat piece (port_wires c) (numbered 0 (ports_of f st))
              ∙ ap (flat_map (λ y. flat_map piece (port_wires c y))) (numbered-map (port_among f leaves) 0 st.inputs)
              ∙ flat-mapped (λ y. flat_map piece (port_wires c y)) (λ x. (x.0, port_among f leaves x.1)) (numbered 0 st.inputs)
              ∙ only-at (λ x. flat_map piece (port_wires c (x.0, port_among f leaves x.1))) st.inputs j (p, i) there (λ m y e ne. other-port others (m, port_among f leaves y) (apart m y e ne))
              ∙ own-port i.from refl
            where
              apart : (m : ℕ) (y : Name × StepInput) → slice_get st.inputs m ≡ Some y → (m ≡ j → ⊥) → same_name p (get_or leaves (leaf_number y.0 leaves) []) ≡ false
              apart m y e ne = ap (same_name p) (leaf-named y.0 leaves (named_all m y e)) ∙ by (same_name p y.0) refl
                where
                  by : (b : Bool) → same_name p y.0 ≡ b → same_name p y.0 ≡ false
                  by true g = absurd (ne (one-place st.inputs m j y (p, i) rise e there (sym (same_name-is p y.0 g))))
                  by false g = g

same-position : {A : Type 0} (a b : Name) (xs : List (Name × A)) → has_name xs a ≡ true → has_name xs b ≡ true → position a xs ≡ position b xs → a ≡ b
same-position a b [] h k e = absurd (true≢false (sym h))
same-position a b (x ∷ xs) h k e = by (same_name a x.0) (same_name b x.0) refl refl h k e (λ h k e. same-position a b xs h k e)
  where
    less : (m n : ℕ) → suc m ≡ suc n → m ≡ n
    less m n g = omega arith

    by :
        (c d : Bool) → same_name a x.0 ≡ c → same_name b x.0 ≡ d → is_some (if c then Some x.1 else named a xs) ≡ true → is_some (if d then Some x.1 else named b xs) ≡ true
        → (if c then 0 else suc (position a xs)) ≡ (if d then 0 else suc (position b xs))
        → (has_name xs a ≡ true → has_name xs b ≡ true → position a xs ≡ position b xs → a ≡ b) → a ≡ b
    by true true f g h k e rec = same_name-is a x.0 f ∙ sym (same_name-is b x.0 g)
    by true false f g h k e rec = absurd (omega arith)
    by false true f g h k e rec = absurd (omega arith)
    by false false f g h k e rec = rec h k (less (position a xs) (position b xs) e)

-- positions are the same where names are
pub position-same : {A : Type 0} (a b : Name) (xs : List (Name × A)) → has_name xs a ≡ true → has_name xs b ≡ true → (position a xs == position b xs) ≡ same_name a b
position-same a b xs h k = by (same_name a b) refl
  where
    by : (c : Bool) → same_name a b ≡ c → (position a xs == position b xs) ≡ same_name a b
    by true e = eq-eqb (position a xs) (position b xs) (ap (λ z. position z xs) (same_name-is a b e)) ∙ sym e
    by false e = ne_eqb (position a xs) (position b xs) (λ g. true≢false (sym (ap (same_name a) (sym (same-position a b xs h k g)) ∙ same_name-refl a) ∙ e)) ∙ sym e
