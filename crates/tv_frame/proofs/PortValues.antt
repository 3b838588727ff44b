-- What a port takes of its feed, in one-item lists where it takes more levels, is found as soon as it is known.
use Rattle.std.specs.List.{list_all}
use Rattle.std.specs.Prelude.{◌≡◌, refl, Bool, ℕ, zero, suc, ◌-◌, true, [], option_map, Some, List}
use Rattle.std.proofs.Common.{sym, ap, subst, ◌∙◌}
use Rattle.std.proofs.lemmas.Bool.{and_parts}
use Rattle.std.proofs.lemmas.Option.{same_Some}
use Rattle.tv_value.specs.Nested.{Place, at, list, no_trees, notes, tree}
use Rattle.tv_value.specs.Values.{JobName, Name}
use Rattle.tv_flow.specs.Flows.{Feed, Flow}
use Rattle.tv_strategy.specs.Origins.{Origin, Traced, fixed, plain}
use Rattle.tv_naming.specs.Naming.{feed_links, is_there}
use Rattle.tv_model.specs.instance.Delivered.{feed_delivers, at_port, wrapped}
use Rattle.tv_matching.specs.Items.{all_known}
use Rattle.tv_check.specs.Feeds.{feed_numbered}
use Rattle.tv_binding.specs.Constants.{constant_in}
use Rattle.tv_binding.specs.Delivered.{wrapped_value}
use Rattle.tv_binding.specs.Found.{Known, feed_found}
use Rattle.tv_model.specs.Instances.{given_of}
use Rattle.tv_model.specs.instance.ByResults.{Results, step_of}
use Rattle.tv_model.specs.instance.Events.{Extends, known_by}
use Rattle.tv_model.specs.instance.Legality.{AreLegal}
use Rattle.tv_framing.specs.Stated.{IsOfDepths}
use Rattle.tv_framing.specs.Views.{AreOfDepth, InAll, View, steps_with}
use Rattle.tv_framing.specs.engine.WiredFlows.{IsWired}
use Rattle.tv_frame.proofs.KnownFeeds.{IsKnownIn, all-split, feed-is_found}

unwrapped-known : (known : Origin → Bool) (k : ℕ) (v : Traced) → all_known known (notes (wrapped k v)) ≡ true → all_known known (notes v) ≡ true
unwrapped-known known zero v h = h
unwrapped-known known (suc k) v h = unwrapped-known known k v (all-split known (notes (wrapped k v)) [] (and_parts (known fixed) _ h).1).0

plain-wrapped : (k : ℕ) (v : Traced) → wrapped_value k (plain v) ≡ plain (wrapped k v)
plain-wrapped zero v = refl
plain-wrapped (suc k) v = ap (λ x. list tt (tree x no_trees)) (plain-wrapped k v)

module _ (flows : List (Name × Flow)) (levels : Name → ℕ) (w : View) (depths : IsOfDepths flows levels w) (wired : IsWired w.flow) (legal : InAll w (λ instance results fs. AreLegal instance fs w.events)) (instance : JobName) (results : Results) (depth : AreOfDepth w instance results) (x : Extends results w.events)
    (k : Known) (is : IsKnownIn levels w k) where
  abbrev delivers : Feed → Traced
  delivers d = (feed_delivers step_of (given_of w.flow w.inputs) (steps_with w instance results) d).value

  -- THE PORT: c is the depth that it takes
  pub port-is_found : (c : ℕ) (d : Feed) → list_all (is_there w.flow) (feed_links d) ≡ true → (q : Place) (u : Traced)
      → at (at_port c (feed_delivers step_of (given_of w.flow w.inputs) (steps_with w instance results) d)).value q ≡ Some u → all_known (λ o. known_by instance w.events o) (notes u) ≡ true
      → ((m : ℕ) → c - (feed_delivers step_of (given_of w.flow w.inputs) (steps_with w instance results) d).depth ≡ suc m → q ≡ [])
      → option_map (wrapped_value (c - (feed_delivers step_of (given_of w.flow w.inputs) (steps_with w instance results) d).depth)) (feed_found k (feed_numbered w.flow d) (constant_in d) q) ≡ Some (plain u)
  port-is_found c d there q u a all top = by (c - (feed_delivers step_of (given_of w.flow w.inputs) (steps_with w instance results) d).depth) a top
    where
      by : (n : ℕ) → at (wrapped n (delivers d)) q ≡ Some u → ((m : ℕ) → n ≡ suc m → q ≡ []) → option_map (wrapped_value n) (feed_found k (feed_numbered w.flow d) (constant_in d) q) ≡ Some (plain u)
      by zero e t = ap (option_map (wrapped_value 0)) (feed-is_found flows levels w depths wired legal instance results depth x k is d there q u e all)
      by (suc n) e t =
          let none : q ≡ [] = t n refl in
          let whole : wrapped (suc n) (delivers d) ≡ u = same_Some (wrapped (suc n) (delivers d)) u (ap (at (wrapped (suc n) (delivers d))) (sym none) ∙ e) in
          let known_all = unwrapped-known (λ o. known_by instance w.events o) (suc n) (delivers d) (subst (λ (y : Traced). all_known (λ o. known_by instance w.events o) (notes y) ≡ true) (sym whole) all) in
          ap (λ r. option_map (wrapped_value (suc n)) (feed_found k (feed_numbered w.flow d) (constant_in d) r)) none
          ∙ ap (option_map (wrapped_value (suc n))) (feed-is_found flows levels w depths wired legal instance results depth x k is d there [] (delivers d) refl known_all)
          ∙ ap Some (plain-wrapped (suc n) (delivers d) ∙ ap plain whole)
