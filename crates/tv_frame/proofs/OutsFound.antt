-- What a flow's feeds are found to deliver where all that their links come from is whole.
use Rattle.std.specs.List.{list_all}
use Rattle.std.specs.Prelude.{◌≡◌, refl, ℕ, zero, suc, ◌+◌, true, if◌then◌else◌, List, [], ◌∷◌, map, Some, None, option_and_then, option_map, slice_get, slice_index_or, unwrap_or}
use Rattle.std.proofs.Common.{arith, ap, ◌∙◌}
use Rattle.std.proofs.lemmas.Bool.{and_parts}
use Rattle.std.proofs.lemmas.Option.{none-some}
use Rattle.tv_value.specs.Nested.{at, trees_of}
use Rattle.tv_value.specs.Values.{Name, Value, list_value}
use Rattle.tv_flow.specs.Flows.{Feed, Flow, Link, constant, input, link, merge, output}
use Rattle.tv_naming.specs.Naming.{feed_links, has_name, is_there, numbered}
use Rattle.tv_naming.specs.Numbers.{position}
use Rattle.tv_parts.specs.Below.{value_in}
use Rattle.tv_parts.specs.Partials.{whole}
use Rattle.tv_check.specs.Feeds.{feed_numbered, link_numbered, outputs_of}
use Rattle.tv_binding.specs.Constants.{FlowConstants, constant_in, constant_of_output}
use Rattle.tv_binding.specs.Delivered.{FlowValues, feed_value, link_value, no_items}
use Rattle.tv_binding.specs.Found.{Known, all_found, feed_found, link_found}
use Rattle.tv_binding.specs.Jobs.{output_found}

-- the values of whole trees
abbrev pub whole_values : Known → FlowValues
whole_values k = record { inputs = k.inputs; outputs = λ n o. value_in (k.outputs n o) }

-- a feed's constant, or an empty list where it is none
abbrev pub constant_or : Feed → Value
constant_or d = unwrap_or (constant_in d) no_items

-- what all links of a flow can come from is there, and whole
pub record IsAllWhole (f : Flow) (k : Known) : Type 0 where
  pub inputs : (x : Name) → has_name f.inputs x ≡ true → (w : Value) × (slice_get k.inputs (position x f.inputs) ≡ Some w)
  pub outputs : (t o : Name) → is_there f (output t o) ≡ true → whole (k.outputs (position t f.steps) (position o (outputs_of f t))) ≡ true

module _ (f : Flow) (k : Known) (all : IsAllWhole f k) where
  index-or : (vs : List Value) (n : ℕ) (w : Value) → slice_get vs n ≡ Some w → option_and_then (λ v. at v []) (slice_get vs n) ≡ Some (slice_index_or vs n no_items)
  index-or [] n w e = absurd (none-some w e)
  index-or (v ∷ vs) zero w e = refl
  index-or (v ∷ vs) (suc n) w e = index-or vs n w e

  link-whole : (l : Link) → is_there f l ≡ true → link_found k (link_numbered f l) [] ≡ Some (link_value (whole_values k) (link_numbered f l))
  link-whole (input x) h = let w = all.inputs x h in index-or k.inputs (position x f.inputs) w.0 w.1
  link-whole (output t o) h =
      let r = k.outputs (position t f.steps) (position o (outputs_of f t)) in
      ap (λ b. if b then Some (value_in r) else None) (all.outputs t o h)

  links-whole : (ls : List Link) → list_all (is_there f) ls ≡ true → all_found (map (λ l. link_found k l []) (map (link_numbered f) ls)) ≡ Some (map (link_value (whole_values k)) (map (link_numbered f) ls))
  links-whole [] h = refl
  links-whole (l ∷ ls) h =
      let b = and_parts (is_there f l) (list_all (is_there f) ls) h in
      ap (λ o. all_found (o ∷ map (λ m. link_found k m []) (map (link_numbered f) ls))) (link-whole l b.0)
      ∙ ap (option_map (λ vs. link_value (whole_values k) (link_numbered f l) ∷ vs)) (links-whole ls b.1)

  pub feed-whole : (d : Feed) → list_all (is_there f) (feed_links d) ≡ true → feed_found k (feed_numbered f d) (constant_in d) [] ≡ Some (feed_value (whole_values k) (feed_numbered f d) (constant_or d))
  feed-whole (link l) h = link-whole l (and_parts (is_there f l) true h).0
  feed-whole (merge ls) h = ap (option_map (λ vs. list_value (trees_of vs))) (links-whole ls h)
  feed-whole (constant c) h = refl

  -- THE OUTPUTS
  pub outputs-whole : (cs : FlowConstants) (b : ℕ) (os : List (Name × Feed)) → list_all (λ (o : Name × Feed). list_all (is_there f) (feed_links o.1)) os ≡ true
      → ((i : ℕ) (o : Name × Feed) → slice_get os i ≡ Some o → constant_of_output cs (b + i) ≡ constant_in o.1)
      → all_found (map (output_found k cs) (numbered b (map (λ (o : Name × Feed). feed_numbered f o.1) os))) ≡ Some (map (λ (o : Name × Feed). feed_value (whole_values k) (feed_numbered f o.1) (constant_or o.1)) os)
  outputs-whole cs b [] h own = refl
  outputs-whole cs b (o ∷ os) h own =
      let p = and_parts (list_all (is_there f) (feed_links o.1)) (list_all (λ (u : Name × Feed). list_all (is_there f) (feed_links u.1)) os) h in
      let rest = all_found (map (output_found k cs) (numbered (suc b) (map (λ (u : Name × Feed). feed_numbered f u.1) os))) in
      let v = feed_value (whole_values k) (feed_numbered f o.1) (constant_or o.1) in
      ap (λ x. all_found (x ∷ map (output_found k cs) (numbered (suc b) (map (λ (u : Name × Feed). feed_numbered f u.1) os))))
      (ap (λ c. feed_found k (feed_numbered f o.1) c []) (ap (constant_of_output cs) (here b) ∙ own 0 o refl) ∙ feed-whole o.1 p.0)
      ∙ ap (option_map (λ vs. v ∷ vs)) (outputs-whole cs (suc b) os p.1 (λ i u e. ap (constant_of_output cs) (later b i) ∙ own (suc i) u e))
    where
      here : (a : ℕ) → a ≡ a + 0
      here a = omega arith

      later : (a c : ℕ) → suc a + c ≡ a + suc c
      later a c = omega arith
