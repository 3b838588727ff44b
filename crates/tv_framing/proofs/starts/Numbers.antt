-- What is told at the start by numbers is what is told by names.
use Rattle.std.specs.List.{list_all, list_any}
use Rattle.std.specs.Prelude.{◌≡◌, refl, ℕ, zero, suc, Bool, true, false, ◌&&◌, ◌||◌, if◌then◌else◌, is_some, List, [], ◌∷◌, ◌++◌, map, Some, slice_index_or, unwrap_or}
use Rattle.std.proofs.Common.{sym, ap, ap₂, ◌∙◌}
use Rattle.std.proofs.lemmas.Bool.{and_parts, true≢false}
use Rattle.std.proofs.lemmas.List.{length-map}
use Rattle.tv_value.specs.Nested.{Place, list, no_trees}
use Rattle.tv_value.specs.Orders.{named, same_name}
use Rattle.tv_value.specs.Values.{Name, Value, holds_fault}
use Rattle.tv_flow.specs.Flows.{Feed, Flow, Link, Step, StepInput, constant, input, link, merge, output}
use Rattle.tv_strategy.specs.Measures.{leaf_names}
use Rattle.tv_naming.specs.Naming.{feed_links, has_name, is_there}
use Rattle.tv_naming.specs.Numbers.{position}
use Rattle.tv_naming.proofs.FormedParts.{passes}
use Rattle.tv_model.specs.instance.Steps.{strategy_of}
use Rattle.tv_matching.specs.Items.{if_so}
use Rattle.tv_matching.specs.Told.{close}
use Rattle.tv_telling.specs.ValueTellings.{bound_told, value_told}
use Rattle.tv_check.specs.Feeds.{feed_numbered, link_numbered}
use Rattle.tv_check.specs.Ports.{levels_of}
use Rattle.tv_framing.proofs.engine.Wires.{leaf-named}
use Rattle.tv_telling.specs.Openings.{is_numbered_given, is_numbered_input, numbered_feed_start, numbered_given_faulty, numbered_input_faulty, numbered_link_start, numbered_links_start}
use Rattle.tv_framing.specs.starts.Numbers.{AreInputValues, IsFixedValue}
use Rattle.tv_framing.specs.starts.Starts.{feed_start, given_faulty, input_faulty, is_given, is_input, link_start, links_start}
use Rattle.tv_framing.specs.starts.Stated.{InputsAreInOrder, NumbersStartAlike}

module _ (f : Flow) (given : List (Name × Value)) (values : List Value) (are : AreInputValues f given values) (c : Value) where
  input-alike : (l : Link) → is_numbered_input (link_numbered f l) ≡ is_input l
  input-alike (input x) = refl
  input-alike (output s o) = refl

  inputs-alike : (ls : List Link) → list_all is_numbered_input (map (link_numbered f) ls) ≡ list_all is_input ls
  inputs-alike [] = refl
  inputs-alike (l ∷ ls) = ap₂ (λ a b. a && b) (input-alike l) (inputs-alike ls)

  given-alike : (d : Feed) → is_numbered_given (feed_numbered f d) ≡ is_given d
  given-alike (link l) = input-alike l
  given-alike (merge ls) = inputs-alike ls
  given-alike (constant v) = refl

  faulty-alike : (l : Link) → is_there f l ≡ true → numbered_input_faulty values (link_numbered f l) ≡ input_faulty given l
  faulty-alike (input x) h = ap holds_fault (are x h)
  faulty-alike (output s o) h = refl

  faults-alike : (ls : List Link) → list_all (is_there f) ls ≡ true → list_any (numbered_input_faulty values) (map (link_numbered f) ls) ≡ list_any (input_faulty given) ls
  faults-alike [] h = refl
  faults-alike (l ∷ ls) h =
      let b = and_parts (is_there f l) (list_all (is_there f) ls) h in
      ap₂ (λ x y. x || y) (faulty-alike l b.0) (faults-alike ls b.1)

  given_faulty-alike : (d : Feed) → list_all (is_there f) (feed_links d) ≡ true → IsFixedValue d c → numbered_given_faulty values c (feed_numbered f d) ≡ given_faulty given d
  given_faulty-alike (link l) h w = faulty-alike l (and_parts (is_there f l) true h).0
  given_faulty-alike (merge ls) h w = faults-alike ls h
  given_faulty-alike (constant v) h w = ap holds_fault w

  link-alike : (p : Name) (k : ℕ) (q : Place) (l : Link) → is_there f l ≡ true → numbered_link_start values p k q (link_numbered f l) ≡ link_start given p k q l
  link-alike p k q (input x) h = ap (value_told p k q) (are x h)
  link-alike p k q (output s o) h = refl

  links-alike : (p : Name) (k i : ℕ) (ls : List Link) → list_all (is_there f) ls ≡ true → numbered_links_start values p k i (map (link_numbered f) ls) ≡ links_start given p k i ls
  links-alike p k i [] h = refl
  links-alike p k i (l ∷ ls) h =
      let b = and_parts (is_there f l) (list_all (is_there f) ls) h in
      ap₂ (λ x y. x ++ y) (link-alike p k (i ∷ []) l b.0) (links-alike p k (suc i) ls b.1)

  feed-alike : (p : Name) (k : ℕ) (d : Feed) → list_all (is_there f) (feed_links d) ≡ true → IsFixedValue d c → numbered_feed_start values c p k (feed_numbered f d) ≡ feed_start given p k d
  feed-alike p zero d h w = ap₂ (λ a b. if_so a (bound_told p [] b)) (given-alike d) (given_faulty-alike d h w)
  feed-alike p (suc k) (link l) h w = link-alike p (suc k) [] l (and_parts (is_there f l) true h).0
  feed-alike p (suc k) (merge ls) h w = ap₂ (λ a b. close p [] a ∷ b) (length-map ls (link_numbered f)) (links-alike p k 0 ls h)
  feed-alike p (suc k) (constant v) h w = ap (value_told p (suc k) []) w

pub numbers-start_alike : NumbersStartAlike
numbers-start_alike f wired n s there k i port given values are c fixed_is =
    let leaves = leaf_names (strategy_of s.1) in
    let links = passes (λ (j : Name × StepInput). list_all (is_there f) (feed_links j.1.from)) s.1.inputs k i (passes (λ (t : Name × Step). list_all (λ (j : Name × StepInput). list_all (is_there f) (feed_links j.1.from)) t.1.inputs) f.steps n s wired.links there) port in
    let leaf = passes (λ (j : Name × StepInput). list_any (same_name j.0) leaves) s.1.inputs k i (passes (λ (t : Name × Step). list_all (λ (j : Name × StepInput). list_any (same_name j.0) (leaf_names (strategy_of t.1))) t.1.inputs) f.steps n s wired.leaves there) port in
    ap (λ p. numbered_feed_start values c p (levels_of f i.1) (feed_numbered f i.1.from)) (leaf-named i.0 leaves leaf)
    ∙ feed-alike f given values are c i.0 (levels_of f i.1) i.1.from links fixed_is

-- ---- in order

in-order : {A : Type 0} (x : Name) (given : List (Name × Value)) (xs : List (Name × A)) → map (λ y. y.0) given ≡ map (λ y. y.0) xs → has_name xs x ≡ true → slice_index_or (map (λ y. y.1) given) (position x xs) (list tt no_trees) ≡ unwrap_or (named x given) (list tt no_trees)
in-order x [] [] e h = absurd (true≢false (sym h))
in-order x [] (y ∷ xs) e h = absurd (none (map (λ z. z.0) xs) y.0 e)
  where
    none : (ns : List Name) (n : Name) → [] ≡ n ∷ ns → ⊥
    none ns n e = cc
in-order x (g ∷ given) [] e h = absurd (true≢false (sym h))
in-order {A = A} x (g ∷ given) (y ∷ xs) e h =
    let parts = heads g.0 y.0 (map (λ z. z.0) given) (map (λ z. z.0) xs) e in
    by (same_name x y.0) refl (same_name x g.0) (ap (same_name x) (sym parts.0)) h (λ k. in-order x given xs parts.1 k)
  where
    heads : (m n : Name) (ms ns : List Name) → m ∷ ms ≡ n ∷ ns → (m ≡ n) × (ms ≡ ns)
    heads m n ms ns e = let a : m ≡ n = cc in let b : ms ≡ ns = cc in (a, b)

    by : (b : Bool) → same_name x y.0 ≡ b → (d : Bool) → b ≡ d → is_some (if b then Some y.1 else named x xs) ≡ true → (has_name xs x ≡ true → slice_index_or (map (λ y. y.1) given) (position x xs) (list tt no_trees) ≡ unwrap_or (named x given) (list tt no_trees)) → slice_index_or (g.1 ∷ map (λ y. y.1) given) (if b then 0 else suc (position x xs)) (list tt no_trees) ≡ unwrap_or (if d then Some g.1 else named x given) (list tt no_trees)
    by true p true q k rec = refl
    by true p false q k rec = absurd (true≢false q)
    by false p false q k rec = rec k
    by false p true q k rec = absurd (true≢false (sym q))

pub inputs-are_in_order : InputsAreInOrder
inputs-are_in_order f given e x h = in-order x given f.inputs e h
