-- A step to which no wire leads from the event's step is told nothing.
use Rattle.std.specs.List.{list_all, list_any}
use Rattle.std.specs.Option.{option_map_or}
use Rattle.std.specs.Prelude.{◌≡◌, refl, ℕ, zero, suc, ◌+◌, ◌<◌, ◌==◌, ◌&&◌, ◌||◌, ◌++◌, Bool, true, false, filter, if◌then◌else◌, is_some, length, List, [], ◌∷◌, map, Option, Some, None, slice_get}
use Rattle.std.proofs.Common.{arith, sym, ap, ap₂, subst, ◌∙◌, append-nil, inl, inr}
use Rattle.std.proofs.lemmas.Bool.{and_parts, eq-eqb, true≢false}
use Rattle.std.proofs.lemmas.Option.{none-some, same_Some}
use Rattle.tv_lemmas.specs.Members.{Each, In}
use Rattle.tv_lemmas.proofs.Members.{in-filter, in-flat, in-map}
use Rattle.tv_lemmas.proofs.Lists.{get-map}
use Rattle.tv_value.specs.Nested.{Place}
use Rattle.tv_value.specs.Orders.{named}
use Rattle.tv_value.specs.Values.{Name, Value}
use Rattle.tv_flow.specs.Flows.{Feed, Flow, Link, Step, StepInput, constant, input, link, merge, output}
use Rattle.tv_strategy.specs.Measures.{leaf_names}
use Rattle.tv_naming.specs.Naming.{feed_links, has_name, is_there, numbered}
use Rattle.tv_naming.specs.Numbers.{position}
use Rattle.tv_naming.proofs.ByPosition.{there}
use Rattle.tv_model.specs.instance.Steps.{strategy_of}
use Rattle.tv_matching.specs.Items.{if_so}
use Rattle.tv_matching.specs.Told.{arrival}
use Rattle.tv_matching.proofs.Permutes.{perm-from}
use Rattle.tv_check.specs.declared.feeds.NumberedLink.{NumberedLink}
use Rattle.tv_check.specs.declared.feeds.NumberedLink.TheVariants.{Input, Output}
use Rattle.tv_check.specs.declared.ports.Port.{Port}
use Rattle.tv_check.specs.declared.wires.Wire.{Wire}
use Rattle.tv_check.specs.Feeds.{feed_numbered, link_numbered}
use Rattle.tv_check.specs.Ports.{levels_of, port_among, ports_of}
use Rattle.tv_check.specs.Turned.{all_wires, from_number, links_of, port_wires, step_wires, wire_of}
use Rattle.tv_check.specs.Wirings.{all_ports, wiring}
use Rattle.tv_telling.specs.endings.Feeds.{feed_from, feed_whole, link_from, with_step}
use Rattle.tv_model.specs.instance.Events.{Event, event_place, event_step}
use Rattle.tv_framing.specs.PortTellings.{link_told, links_told, port_told, seen_told, way_told}
use Rattle.tv_framing.specs.engine.AlongWires.{IsPortOf}
use Rattle.tv_telling.specs.Along.{wires_from}
use Rattle.tv_framing.proofs.engine.Lists.{at-range}
use Rattle.tv_framing.proofs.engine.Told.{links-of}
use Rattle.tv_framing.proofs.engine.Wires.{position-same}
use Rattle.tv_framing.specs.keeping.NextEvents.{is_whole_step}
use Rattle.tv_framing.specs.feeds.Fed.{event_number, given_at, has_all_now, newly}
use Rattle.tv_framing.specs.feeds.Stated.{UntouchedStayTold}
use Rattle.tv_framing.proofs.feeds.Next.{of-event, older}
use Rattle.tv_framing.proofs.feeds.Told.{step-goes_on}

-- ---- members

in-numbered : {A : Type 0} (m : ℕ) (xs : List A) (k : ℕ) (x : A) → slice_get xs k ≡ Some x → In (m + k, x) (numbered m xs)
in-numbered m [] k x e = absurd (none-some x e)
in-numbered m (y ∷ xs) zero x e = inl (ap₂ (λ n z. (n, z)) (plus-none m) (sym (same_Some y x e)))
  where
    plus-none : (n : ℕ) → n + 0 ≡ n
    plus-none n = omega arith
in-numbered m (y ∷ xs) (suc k) x e = inr (subst (λ n. In (n, x) (numbered (suc m) xs)) (plus-suc m k) (in-numbered (suc m) xs k x e))
  where
    plus-suc : (a b : ℕ) → suc a + b ≡ a + suc b
    plus-suc a b = omega arith

-- at its own number
in-numbers : {A : Type 0} (xs : List A) (k : ℕ) (x : A) → slice_get xs k ≡ Some x → In (k, x) (numbered 0 xs)
in-numbers {A = A} xs k x e = subst (λ n. In (n, x) (numbered 0 xs)) (none-plus k) (in-numbered 0 xs k x e)
  where
    none-plus : (n : ℕ) → 0 + n ≡ n
    none-plus n = omega arith

none-of : {A : Type 0} (p : A → Bool) (x : A) (xs : List A) → list_any p xs ≡ false → In x xs → p x ≡ false
none-of p x [] h i = absurd i
none-of p x (y ∷ xs) h (inl q) = ap p q ∙ left (p y) (list_any p xs) h
  where
    left : (a b : Bool) → (a || b) ≡ false → a ≡ false
    left true b k = absurd (true≢false k)
    left false b k = refl
none-of p x (y ∷ xs) h (inr i) = none-of p x xs (right (p y) (list_any p xs) h) i
  where
    right : (a b : Bool) → (a || b) ≡ false → b ≡ false
    right true b k = absurd (true≢false k)
    right false b k = k

-- ---- the wires that lead to a port

module _ (f : Flow) (n : ℕ) (s : Name × Step) (i : Name × StepInput) (port : IsPortOf f n s i) (t : ℕ) (few : t < length f.steps) (none : list_any (λ (w : Wire). w.step == n) (wires_from (wiring f) t) ≡ false) where
  abbrev own : Port
  own = port_among f (leaf_names (strategy_of s.1)) i

  from-port : (x : ℕ × Wire) (l : Option ℕ × NumberedLink) → In l (links_of (feed_numbered f i.1.from)) → In x (wire_of n (port.number, own) l) → In x (all_wires (all_ports f))
  from-port x l a b =
      in-flat step_wires (n, ports_of f s.1) x (numbered 0 (all_ports f))
      (in-numbers (all_ports f) n (ports_of f s.1) (get-map (λ (u : Name × Step). ports_of f u.1) f.steps n s port.step))
      (in-flat (port_wires n) (port.number, own) x (numbered 0 (ports_of f s.1))
      (in-numbers (ports_of f s.1) port.number own (get-map (port_among f (leaf_names (strategy_of s.1))) s.1.inputs port.number i port.port))
      (in-flat (wire_of n (port.number, own)) l x (links_of own.feed) a b))

  abbrev wire : Option ℕ → ℕ → Wire
  wire at o = record { step = n; port = port.number; link = at; output = o; levels = levels_of f i.1; leaf = own.leaf }

  quiet-link : (l : Option ℕ × NumberedLink) → In l (links_of (feed_numbered f i.1.from)) → link_from t l.1 ≡ false
  quiet-link (at, Input x) a = refl
  quiet-link (at, Output m o) a = by (m == t) refl
    where
      led : (m == t) ≡ true → In (wire at o) (wires_from (wiring f) t)
      led g =
          subst (In (wire at o)) (sym (at-range (λ k. from_number k (all_wires (all_ports f))) (length f.steps) t few))
          (in-map (λ (x : ℕ × Wire). x.1) (m, wire at o) (filter (λ (x : ℕ × Wire). x.0 == t) (all_wires (all_ports f)))
          (in-filter (λ (x : ℕ × Wire). x.0 == t) (m, wire at o) (all_wires (all_ports f)) (from-port (m, wire at o) (at, Output m o) a (inl refl)) g))

      by : (b : Bool) → (m == t) ≡ b → (m == t) ≡ false
      by true g = absurd (true≢false (sym (eq-eqb n n refl) ∙ none-of (λ (x : Wire). x.step == n) (wire at o) (wires_from (wiring f) t) none (led g)))
      by false g = g

  abbrev Quiet : Link → Type 0
  Quiet l = link_from t (link_numbered f l) ≡ false

  quiet-links : (m : ℕ) (ls : List Link) → ((x : ℕ × NumberedLink) → In x (numbered m (map (link_numbered f) ls)) → link_from t x.1 ≡ false) → Each Quiet ls
  quiet-links m [] h = tt
  quiet-links m (l ∷ ls) h = (h (m, link_numbered f l) (inl refl), quiet-links (suc m) ls (λ x a. h x (inr a)))

  pub quiet-feed : Each Quiet (feed_links i.1.from)
  quiet-feed = by i.1.from quiet-link
    where
      by : (d : Feed) → ((l : Option ℕ × NumberedLink) → In l (links_of (feed_numbered f d)) → link_from t l.1 ≡ false) → Each Quiet (feed_links d)
      by (link l) h = (h (None, link_numbered f l) (inl refl), tt)
      by (merge ls) h = quiet-links 0 ls (λ x a. h (Some x.0, x.1) (in-map (λ (y : ℕ × NumberedLink). (Some y.0, y.1)) x (numbered 0 (map (link_numbered f) ls)) a))
      by (constant c) h = tt

from-none : (f : Flow) (t : ℕ) (d : Feed) → Each (λ l. link_from t (link_numbered f l) ≡ false) (feed_links d) → feed_from t (feed_numbered f d) ≡ false
from-none f t (link l) h = h.0
from-none f t (merge ls) h = any-none ls h
  where
    any-none : (ls : List Link) → Each (λ l. link_from t (link_numbered f l) ≡ false) ls → list_any (link_from t) (map (link_numbered f) ls) ≡ false
    any-none [] h = refl
    any-none (l ∷ ls) h = ap₂ (λ a b. a || b) h.0 (any-none ls h.1)
from-none f t (constant c) h = refl

-- ---- such a port is told nothing

module _ (f : Flow) (e : Event) (has : has_name f.steps (event_step e) ≡ true) (new : Place → Bool) (given : Name → Value) (p : Name) where
  abbrev t : ℕ
  t = position (event_step e) f.steps

  link-quiet : (k : ℕ) (q : Place) (l : Link) → is_there f l ≡ true → link_from t (link_numbered f l) ≡ false → link_told new e given p k q l ≡ []
  link-quiet k q (input x) h quiet = refl
  link-quiet k q (output s o) h quiet =
      ap (λ b. if b then way_told new p k q [] (event_place e) e (given o) else [])
      (sym (position-same s (event_step e) f.steps (by (named s f.steps) h) has) ∙ quiet)
    where
      by : (x : Option Step) → option_map_or (λ (u : Step). has_name u.outputs o) x false ≡ true → is_some x ≡ true
      by None g = absurd (true≢false (sym g))
      by (Some u) g = refl

  links-quiet : (k i : ℕ) (ls : List Link) → list_all (is_there f) ls ≡ true → Each (λ l. link_from t (link_numbered f l) ≡ false) ls → links_told new e given p k i ls ≡ []
  links-quiet k i [] h quiet = refl
  links-quiet k i (l ∷ ls) h quiet =
      let b = and_parts (is_there f l) (list_all (is_there f) ls) h in
      ap₂ (λ x y. x ++ y) (link-quiet k (i ∷ []) l b.0 quiet.0) (links-quiet k (suc i) ls b.1 quiet.1)

  port-quiet : (now : Bool) → now ≡ false → (k : ℕ) (d : Feed) → list_all (is_there f) (feed_links d) ≡ true → Each (λ l. link_from t (link_numbered f l) ≡ false) (feed_links d) → port_told new e given p now k d ≡ []
  port-quiet now never zero d h quiet = ap (λ b. if_so b (arrival p [] false)) never
  port-quiet now never (suc k) (link l) h quiet = link-quiet (suc k) [] l ((and_parts (is_there f l) true h).0) quiet.0
  port-quiet now never (suc k) (merge ls) h quiet = links-quiet k 0 ls h quiet
  port-quiet now never (suc k) (constant c) h quiet = refl

pub untouched-stay_told : UntouchedStayTold
untouched-stay_told flows levels v e next wired n s stands_at none ts was new instance results depth told f i name =
    let ev = of-event flows levels v e next wired instance results depth told in
    step-goes_on flows levels v e next wired instance results depth told n s stands_at ts [] ts (perm-from ts (ts ++ []) (sym (append-nil ts)))
    (λ i port values.
    let quiet = quiet-feed v.flow n s i port (event_number v e) ((there (event_step e) v.flow.steps ev.has).below) none in
    sym (ap (map (seen_told values))
    (port-quiet v.flow e ev.has (newly levels v e) (given_at v.flow e) i.0 (has_all_now levels v e s.1 i)
    (no-now (newly levels v e []) (levels_of v.flow i.1 == 0) (feed_from (event_number v e) (feed_numbered v.flow i.1.from)) (feed_whole (with_step (is_whole_step levels v) (event_number v e)) (feed_numbered v.flow i.1.from)) (from-none v.flow (event_number v e) i.1.from quiet))
    (levels_of v.flow i.1) i.1.from (links-of v.flow wired n s i port) quiet)))
    f i name (was instance results depth (older flows levels v e next wired instance results depth told) f i name)
  where
    no-now : (a b c d : Bool) → c ≡ false → (a && (b && (c && d))) ≡ false
    no-now true true c d h = ap (λ x. x && d) h
    no-now true false c d h = refl
    no-now false b c d h = refl
