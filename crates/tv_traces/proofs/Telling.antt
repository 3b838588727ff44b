-- What the flow and the shapes of its steps tell, case by case.
use Rattle.std.specs.Option.{option_map_or}
use Rattle.std.specs.Prelude.{◌≡◌, refl, ℕ, zero, suc, ◌≤◌, ◌<◌, List, [], ◌∷◌, ◌++◌, length, map, Option, Some, None, Result, slice_get, slice_index_or, OnOk}
use Rattle.std.proofs.Common.{sym, ap, subst, ◌∙◌, append-nil, get_or, le_of_suc-le-suc, not-suc-le-zero}
use Rattle.std.proofs.lemmas.Option.{slice_get_past}
use Rattle.tv_lemmas.proofs.Numbers.{none-below, less-back}
use Rattle.tv_lemmas.proofs.Lists.{get-within, get-map_read, get-read}
use Rattle.tv_value.specs.Nested.{Place}
use Rattle.tv_value.specs.Values.{Name}
use Rattle.tv_flow.specs.Flows as spec
use Rattle.tv_flow.specs.Views.{flow_view, step_view}
use Rattle.tv_flow.specs.declared.document.Flow.{Flow}
use Rattle.tv_flow.specs.declared.document.Step.{Step}
use Rattle.tv_check.specs.declared.feeds.NumberedLink.{NumberedLink}
use Rattle.tv_check.specs.declared.feeds.NumberedFeed.{NumberedFeed}
use Rattle.tv_check.specs.declared.feeds.NumberedFeed.TheVariants.{Merge}
use Rattle.tv_traces.specs.Feeds.{feed_told, input_told, link_told, output_told}
use Rattle.tv_traces.specs.Shapes.{Shape, no_shape, reached}
use Rattle.tv_traces.specs.Views.{node_view, shapes_view}
use Rattle.tv_traces.specs.declared.node.Node.{Node}

pub got-not : {A B : Type 0} (g : A → B) (xs : List A) (n : ℕ) → length xs ≤ n → slice_get (map g xs) n ≡ None
got-not g [] n h = refl
got-not g (y ∷ xs) zero h = absurd (not-suc-le-zero {n = length xs} h)
got-not g (y ∷ xs) (suc n) h = got-not g xs n (le_of_suc-le-suc {n = length xs} {m = n} h)

shape-at : (us : List Node) (n : ℕ) (u : Node) → n < length us → u ≡ get_or us n u → slice_index_or (shapes_view us) n no_shape ≡ node_view u
shape-at [] n u h e = none-below n h
shape-at (v ∷ us) zero u h e = ap node_view (sym e)
shape-at (v ∷ us) (suc n) u h e = shape-at us n u (less-back n (length us) h) e

shape-none : (us : List Node) (n : ℕ) → length us ≤ n → slice_index_or (shapes_view us) n no_shape ≡ no_shape
shape-none [] n h = refl
shape-none (v ∷ us) zero h = absurd (not-suc-le-zero {n = length us} h)
shape-none (v ∷ us) (suc n) h = shape-none us n (le_of_suc-le-suc {n = length us} {m = n} h)

-- ---- to push nothing, or what was pushed

pub none-pushed : {A : Type 0} (old told : List A) → told ≡ [] → old ≡ old ++ told
none-pushed old told e = sym (append-nil old) ∙ ap (λ l. old ++ l) (sym e)

module _ {A : Type 0} (of_node : Name → Place → Shape → List A) (none : (s : Name) (q : Place) → of_node s q no_shape ≡ []) (f : Flow) (us : List Node) (n o : ℕ) (q : Place) where
  abbrev told : List A
  told = output_told of_node (flow_view f) (shapes_view us) n o q

  abbrev inner : Name × spec.Step → List A
  inner s = option_map_or (λ (p : Name × ℕ). option_map_or (λ (x : Place × Shape). of_node s.0 x.0 x.1) (reached [] (slice_index_or (shapes_view us) n no_shape) q) []) (slice_get s.1.outputs o) []

  pub no-step : (xs : List (Name × Step)) → xs ≡ f.steps → length xs ≤ n → told ≡ []
  no-step xs e h = ap (λ p. option_map_or inner p []) (got-not (λ (s : Name × Step). (s.0, step_view s.1)) f.steps n (subst (λ l. length l ≤ n) e h))

  module _ (xs : List (Name × Step)) (e : xs ≡ f.steps) (x : Name × Step) (h : n < length xs) (is : x ≡ get_or xs n x) where
    step-is : slice_get (flow_view f).steps n ≡ Some (x.0, step_view x.1)
    step-is = get-map_read (λ (s : Name × Step). (s.0, step_view s.1)) f.steps n x (subst (λ l. n < length l) e h) (is ∙ ap (λ l. get_or l n x) e)

    told-of : told ≡ inner (x.0, step_view x.1)
    told-of = ap (λ p. option_map_or inner p []) step-is

    pub no-out : (os : List (Name × ℕ)) → os ≡ x.1.outputs → length os ≤ o → told ≡ []
    no-out os g k = told-of ∙ ap (λ p. option_map_or (λ (p : Name × ℕ). option_map_or (λ (y : Place × Shape). of_node x.0 y.0 y.1) (reached [] (slice_index_or (shapes_view us) n no_shape) q) []) p []) (slice_get_past x.1.outputs o (subst (λ l. length l ≤ o) g k))

    module _ (os : List (Name × ℕ)) (g : os ≡ x.1.outputs) (k : o < length os) where
      abbrev there : Option (Place × Shape) → List A
      there r = option_map_or (λ (y : Place × Shape). of_node x.0 y.0 y.1) r []

      told-there : told ≡ there (reached [] (slice_index_or (shapes_view us) n no_shape) q)
      told-there = let p = get-within x.1.outputs o (subst (λ l. o < length l) g k) in told-of ∙ ap (λ r. option_map_or (λ (p : Name × ℕ). there (reached [] (slice_index_or (shapes_view us) n no_shape) q)) r []) p.1

      pub no-node : (vs : List Node) → vs ≡ us → length vs ≤ n → told ≡ []
      no-node vs w l = told-there ∙ ap (λ u. there (reached [] u q)) (shape-none us n (subst (λ l. length l ≤ n) w l)) ∙ by q
        where
          by : (q : Place) → there (reached [] no_shape q) ≡ []
          by [] = none x.0 []
          by (i ∷ q) = none x.0 []

      pub at-node : (vs : List Node) → vs ≡ us → (u : Node) → n < length vs → u ≡ get_or vs n u → (r : Option (Place × Shape)) → r ≡ reached [] (node_view u) q → told ≡ there r
      at-node vs w u l is r t = told-there ∙ ap (λ v. there (reached [] v q)) (shape-at us n u (subst (λ l. n < length l) w l) (is ∙ ap (λ l. get_or l n u) w)) ∙ ap there (sym t)

-- ---- one more

pub pushed-one : {A B : Type 0} (g : A → B) (old new : List A) (x : A) (y : B) (told : List B) → new ≡ old ++ x ∷ [] → g x ≡ y → told ≡ y ∷ [] → map g new ≡ map g old ++ told
pushed-one g old new x y told e f h = ap (map g) e ∙ Rattle.std.proofs.lemmas.List.map-append g old (x ∷ []) ∙ ap (λ z. map g old ++ z ∷ []) f ∙ ap (λ l. map g old ++ l) (sym h)

pub on-told : {E T A : Type 0} (r : Result T E) (a b x told : List A) → OnOk r (a ≡ b ++ x) → told ≡ x → OnOk r (a ≡ b ++ told)
on-told r a b x told h e = subst (λ z. OnOk r (a ≡ b ++ z)) (sym e) h

-- ---- inputs

module _ {A : Type 0} (of_element : Name → Place → List A) (f : Flow) (n : ℕ) (q : Place) (xs : List (Name × ℕ)) (e : xs ≡ f.inputs) where
  pub no-input : length xs ≤ n → input_told of_element (flow_view f) n q ≡ []
  no-input h = ap (λ p. option_map_or (λ (i : Name × ℕ). of_element i.0 q) p []) (slice_get_past f.inputs n (subst (λ l. length l ≤ n) e h))

  pub some-input : (x : Name × ℕ) → n < length xs → x ≡ get_or xs n x → input_told of_element (flow_view f) n q ≡ of_element x.0 q
  some-input x h is = ap (λ p. option_map_or (λ (i : Name × ℕ). of_element i.0 q) p []) (get-read f.inputs n x (subst (λ l. n < length l) e h) (is ∙ ap (λ l. get_or l n x) e))

-- ---- merges

module _ {A : Type 0} (of_element : Name → Place → List A) (of_node : Name → Place → Shape → List A) (f : spec.Flow) (us : List Shape) where
  -- no link of that number
  pub no-link : (d : NumberedFeed) (ls xs : List NumberedLink) → d ≡ Merge ls → xs ≡ ls → (q : Place) → 1 ≤ length q → length xs ≤ get_or q 0 0 → feed_told of_element of_node f us d q ≡ []
  no-link d ls xs e g [] h k = absurd (not-suc-le-zero {n = 0} h)
  no-link d ls xs e g (i ∷ q) h k =
      ap (λ z. feed_told of_element of_node f us z (i ∷ q)) e
      ∙ ap (λ p. option_map_or (λ l. link_told of_element of_node f us l q) p []) (slice_get_past ls i (subst (λ l. length l ≤ i) g k))
