-- What the feeds of a flow deliver: by names in an instance, and by numbers from what is known of the instance's inputs and outputs.
use Rattle.std.specs.List.{list_all}
use Rattle.std.specs.Prelude.{◌≡◌, refl, ℕ, true, ◌&&◌, ◌||◌, List, [], ◌∷◌, map, Some, slice_index_or, unwrap_or}
use Rattle.std.proofs.Common.{sym, ap, ap₂, subst, ◌∙◌, inl, inr}
use Rattle.std.proofs.lemmas.Bool.{and_parts, or_right}
use Rattle.tv_lemmas.specs.Members.{Each, In}
use Rattle.tv_lemmas.proofs.Members.{each_in}
use Rattle.tv_lemmas.proofs.Lists.{index-map}
use Rattle.tv_value.specs.Nested.{map_trees, tree, trees_of}
use Rattle.tv_value.specs.Orders.{named, same_name}
use Rattle.tv_value.specs.Values.{JobName, Name, Value, list_value}
use Rattle.tv_value.proofs.NameLemmas.{same_name-refl}
use Rattle.tv_flow.specs.Flows.{Feed, Flow, Link, constant, input, link, merge, output}
use Rattle.tv_strategy.specs.Levels.{HasLevels}
use Rattle.tv_strategy.specs.Origins.{fixed, plain}
use Rattle.tv_strategy.proofs.Each.{each-weaken}
use Rattle.tv_naming.specs.Naming.{feed_links, has_name, is_there}
use Rattle.tv_naming.specs.Numbers.{position}
use Rattle.tv_model.specs.instance.Delivered.{Delivered, feed_delivers, link_delivers}
use Rattle.tv_model.specs.instance.Ranks.{is_among}
use Rattle.tv_parts.specs.Below.{Below}
use Rattle.tv_parts.specs.Partials.{Partial, whole}
use Rattle.tv_check.specs.Feeds.{feed_numbered, link_numbered, outputs_of}
use Rattle.tv_binding.specs.Constants.{constant_in}
use Rattle.tv_binding.specs.Delivered.{FlowValues, feed_value, link_value, no_items}
use Rattle.tv_model.specs.Instances.{given_of, value_given}
use Rattle.tv_model.specs.instance.ByResults.{InstanceStep, Results, step_of}
use Rattle.tv_model.specs.instance.Counting.{whole_by}
use Rattle.tv_model.specs.instance.Events.{Extends}
use Rattle.tv_model.specs.instance.Fitting.{FitStep}
use Rattle.tv_model.specs.instance.Legality.{AreLegal}
use Rattle.tv_framing.proofs.instances.Legal.{legal-fit}
use Rattle.tv_framing.proofs.instances.Levels.{steps-have_their_levels}
use Rattle.tv_framing.specs.instances.Stated.{HasItsLevels}
use Rattle.tv_framing.specs.Arriving.{part_so_far}
use Rattle.tv_framing.specs.Stated.{IsOfDepths}
use Rattle.tv_framing.specs.Views.{AreOfDepth, InAll, View, steps_with}
use Rattle.tv_framing.proofs.Frames.{in-finds, steps-distinct}
use Rattle.tv_framing.proofs.LawLemmas.{parts-are_below}
use Rattle.tv_framing.specs.engine.WiredFlows.{IsWired}
use Rattle.tv_framing.proofs.engine.Trees.{trees-whole}
use Rattle.tv_framing.proofs.feeds.Names.{is-named}
use Rattle.tv_framing.proofs.starts.Instances.{step-there}
use Rattle.tv_framing.proofs.starts.Plain.{plain-input, plain-traced}
use Rattle.tv_framing.proofs.starts.Ports.{IsFound, link-found}
use Rattle.tv_framing.proofs.starts.Steps.{IsMade, IsPlaced, all_depths, names_in, steps-placed}
use Rattle.tv_framing.specs.faults.Known.{tree_of}
use Rattle.tv_framing.proofs.faults.Numbers.{step-there as output-there}
use Rattle.tv_frame.proofs.HoldTold.{same-names-has, same-names-position}

-- ---- by names and by numbers

module _ (f : Flow) (given : List (Name × Delivered)) (fs : List InstanceStep) (d : FlowValues) where
  -- by its number each link delivers what it does by its name
  abbrev pub AreLinkValues : Type 0
  AreLinkValues = (l : Link) → is_there f l ≡ true → link_value d (link_numbered f l) ≡ plain (link_delivers step_of given fs l).value

  links-numbered : AreLinkValues → (ls : List Link) → list_all (is_there f) ls ≡ true
      → trees_of (map (link_value d) (map (link_numbered f) ls)) ≡ map_trees (λ o. tt) (λ a. a) (trees_of (map (λ (y : Delivered). y.value) (map (link_delivers step_of given fs) ls)))
  links-numbered h [] there = refl
  links-numbered h (l ∷ ls) there =
      let b = and_parts (is_there f l) (list_all (is_there f) ls) there in
      ap₂ (λ x xs. tree x xs) (h l b.0) (links-numbered h ls b.1)

  -- THE FEEDS: so it is with feeds, where c is the feed's constant, if it is one
  pub feed-numbered : AreLinkValues → (feed : Feed) → list_all (is_there f) (feed_links feed) ≡ true → (c : Value) → ((w : Value) → constant_in feed ≡ Some w → c ≡ w) → feed_value d (feed_numbered f feed) c ≡ plain (feed_delivers step_of given fs feed).value
  feed-numbered h (link l) there c same = h l (and_parts (is_there f l) true there).0
  feed-numbered h (merge []) there c same = refl
  feed-numbered h (merge (l ∷ ls)) there c same = ap list_value (links-numbered h (l ∷ ls) there)
  feed-numbered h (constant w) there c same = same w refl ∙ sym (plain-traced fixed w)

-- ---- a step of a name among the steps of an instance

named-among : (fs : List InstanceStep) (g : InstanceStep) → In g fs → is_among (names_in fs) g.step.step ≡ true
named-among [] g i = absurd i
named-among (f ∷ fs) g (inl e) = ap (λ (h : InstanceStep). same_name g.step.step h.step.step || is_among (names_in fs) g.step.step) (sym e) ∙ ap (λ b. b || is_among (names_in fs) g.step.step) (same_name-refl g.step.step)
named-among (f ∷ fs) g (inr i) = or_right (same_name g.step.step f.step.step) (is_among (names_in fs) g.step.step) (named-among fs g i)

-- ---- in every instance of a view

module _ (flows : List (Name × Flow)) (levels : Name → ℕ) (w : View) (depths : IsOfDepths flows levels w) (wired : IsWired w.flow) (legal : InAll w (λ instance results fs. AreLegal instance fs w.events)) (instance : JobName) (results : Results) (depth : AreOfDepth w instance results) (x : Extends results w.events) where
  abbrev pub all_steps : List InstanceStep
  all_steps = steps_with w instance results

  abbrev pub its_given : List (Name × Delivered)
  its_given = given_of w.flow w.inputs

  abbrev Placed : InstanceStep → Type 0
  Placed g = IsPlaced w.flow levels instance results its_given flows (all_depths flows levels w depths wired) all_steps g

  made : Each (IsMade w.flow levels instance results its_given) all_steps
  made = each-weaken Placed (IsMade w.flow levels instance results its_given) (λ g p. p.own) all_steps (steps-placed flows levels w depths wired instance results depth)

  among : (t : Name) → has_name w.flow.steps t ≡ true → is_among (names_in all_steps) t ≡ true
  among t h =
      let st = is-named t w.flow.steps h in
      let g = step-there w wired (position t w.flow.steps) (t, st.thing) st.here instance results in
      ap (is_among (names_in all_steps)) (sym g.2) ∙ named-among all_steps g.0 g.1

  pub fit-step : (g : InstanceStep) → In g all_steps → FitStep g w.events
  fit-step g i = legal-fit instance all_steps g (in-finds all_steps (steps-distinct w instance results) g i) w.events (legal instance results depth x)

  -- an output is one of a step of the instance
  pub output-found : (t o : Name) → is_there w.flow (output t o) ≡ true → IsFound w.flow levels instance results w.inputs t o all_steps (link_delivers step_of its_given all_steps (output t o))
  output-found t o there =
      link-found w.flow levels instance results w.inputs all_steps made (output t o) there
      (ap (λ b. b && true) (among t (output-there w.flow t o there).0))

  -- its tree is that of the output by its number
  pub output-tree : (t o : Name) (there : is_there w.flow (output t o) ≡ true)
      → let h = output-found t o there in
      tree_of w.flow levels w.events t o ≡ part_so_far h.step.step.step h.out.0 h.out.2 h.out.1 w.events
  output-tree t o there =
      let h = output-found t o there in
      ap (λ s. part_so_far s (position o (outputs_of w.flow t)) (levels t) (unwrap_or (named o (outputs_of w.flow t)) 0) w.events) (sym h.name)
      ∙ ap (λ k. part_so_far h.step.step.step k (levels t) (unwrap_or (named o (outputs_of w.flow t)) 0) w.events) (sym h.number)
      ∙ ap₂ (λ l c. part_so_far h.step.step.step h.out.0 l c w.events) (sym h.leveled) (sym h.declared)

  -- THE OUTPUTS: what was told of one is below its value
  pub output-below : (t o : Name) → is_there w.flow (output t o) ≡ true → Below (tree_of w.flow levels w.events t o) (plain (link_delivers step_of its_given all_steps (output t o)).value)
  output-below t o there =
      let d = link_delivers step_of its_given all_steps (output t o) in
      let h = output-found t o there in
      subst (λ (r : Partial Value). Below r (plain d.value)) (sym (output-tree t o there)) (parts-are_below instance results h.step d h.out w.events x (fit-step h.step h.among))

  -- and it is all there where the step is whole by counting
  pub output-whole : (t o : Name) → is_there w.flow (output t o) ≡ true → whole (tree_of w.flow levels w.events t o) ≡ whole_by w.events t (levels t) []
  output-whole t o there =
      let h = output-found t o there in
      let g = h.step in
      let has = (each_in (HasItsLevels levels) all_steps (steps-have_their_levels flows w.flow depths.flow w.inputs depths.inputs instance results depth levels depths.levels_are) g h.among).levels_told in
      subst (λ (m : Name). whole (part_so_far m (position o (outputs_of w.flow t)) (levels t) (unwrap_or (named o (outputs_of w.flow t)) 0) w.events) ≡ whole_by w.events m (levels t) []) h.name
      (trees-whole g (levels t) (subst (λ (m : Name). HasLevels g.step.iteration (levels m)) h.name has) w.events (fit-step g h.among) (position o (outputs_of w.flow t)) (unwrap_or (named o (outputs_of w.flow t)) 0) [] g.step.iteration refl)

  -- AN INPUT is what is given
  pub input-plain : (y : Name) → has_name w.flow.inputs y ≡ true → plain (link_delivers step_of its_given all_steps (input y)).value ≡ value_given w.inputs y
  input-plain y there =
      ap plain (link-found w.flow levels instance results w.inputs all_steps made (input y) there refl)
      ∙ plain-input y [] (value_given w.inputs y)

-- ---- inputs by numbers

pub input-numbered : (w : View) → map (λ (y : Name × Value). y.0) w.inputs ≡ map (λ (y : Name × ℕ). y.0) w.flow.inputs → (y : Name) → has_name w.flow.inputs y ≡ true → slice_index_or (map (λ (z : Name × Value). z.1) w.inputs) (position y w.flow.inputs) no_items ≡ value_given w.inputs y
input-numbered w names y there =
    let st = is-named y w.inputs (same-names-has y w.inputs w.flow.inputs names ∙ there) in
    ap (λ k. slice_index_or (map (λ (z : Name × Value). z.1) w.inputs) k no_items) (sym (same-names-position y w.inputs w.flow.inputs names))
    ∙ index-map (λ (z : Name × Value). z.1) w.inputs (position y w.inputs) (y, st.thing) no_items st.here
    ∙ ap (λ o. unwrap_or o no_items) (sym st.named_so)
