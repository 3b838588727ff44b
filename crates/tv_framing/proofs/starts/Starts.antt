-- At the start each port is told what is known of its walk.
use Rattle.std.specs.Prelude.{◌≡◌, refl, ℕ, zero, suc, ◌+◌, ◌-◌, Bool, true, false, List, [], ◌∷◌, ◌++◌, map, Some}
use Rattle.std.proofs.Common.{arith, sym, ap, ap₂, subst, ◌∙◌}
use Rattle.tv_lemmas.specs.Members.{Each}
use Rattle.tv_value.specs.Nested.{Place, Trees, list, leaf, no_trees, notes, tree, trees_of}
use Rattle.tv_value.specs.Values.{HasDepth, JobName, Name, Scalar, Value}
use Rattle.tv_flow.specs.Flows.{Feed, Flow, Link, constant, input, link, merge, output}
use Rattle.tv_strategy.specs.Iterations.{Iteration, Iterations, walk}
use Rattle.tv_strategy.specs.Origins.{Origin, Traced, fixed, input_value, input_values, plain}
use Rattle.tv_strategy.specs.Sources.{AtAllNodes, AtNodes}
use Rattle.tv_strategy.proofs.Sources.{each-append}
use Rattle.tv_naming.specs.Naming.{feed_links}
use Rattle.tv_model.specs.instance.Delivered.{Delivered, feed_delivers, link_delivers, at_port, wrapped}
use Rattle.tv_model.specs.instance.Steps.{spot}
use Rattle.tv_model.specs.Instances.{given_of, value_given}
use Rattle.tv_model.proofs.Sound.{AllStand, AllStandFrom, output-gives}
use Rattle.tv_matching.specs.Items.{all_known, ends, here, if_so, item, known_items}
use Rattle.tv_matching.specs.Told.{Told, item_there, told_leaf, told_to}
use Rattle.tv_matching.proofs.Lists.{each-if}
use Rattle.tv_telling.specs.ValueTellings.{bound_told}
use Rattle.tv_model.specs.instance.ByResults.{InstanceStep, Results, result_at, step_of}
use Rattle.tv_model.specs.instance.Events.{known_by}
use Rattle.tv_framing.specs.Gaining.{IsOutputOf}
use Rattle.tv_framing.specs.PortTellings.{placed, seen_told}
use Rattle.tv_framing.proofs.Gaining.{all-forms}
use Rattle.tv_framing.proofs.LawLemmas.{wrapping-is_known}
use Rattle.tv_framing.proofs.Placed.{placed-all}
use Rattle.tv_framing.proofs.starts.Feeds.{FeedStarts, LinkStarts, LinksStart, feed-known, walked-told}
use Rattle.tv_framing.proofs.starts.Leaves.{own-told, value-to}
use Rattle.tv_framing.proofs.starts.Plain.{plain-input}
use Rattle.tv_framing.proofs.starts.Ports.{LinkIsFound, LinksAreFound}
use Rattle.tv_framing.proofs.starts.Steps.{IsMade}
use Rattle.tv_framing.specs.starts.Starts.{feed_start, given_faulty, is_given, link_start, links_start}
use Rattle.tv_framing.proofs.engine.Told.{bound-to, IsTo}

-- ---- nothing is known of an output, and all of an input

module _ (instance : JobName) where
  abbrev pub at_first : Origin → Bool
  at_first o = known_by instance [] o

  abbrev Anything : Place → Iteration → Type 0
  Anything q u = Unit {0}

  mutual
    stands : (t : Iteration) (q : Place) → AllStand Anything q t
    stands (leaf s e) q = tt
    stands (list s ts) q = (tt, all-stands ts q 0)

    all-stands : (ts : Iterations) (q : Place) (i : ℕ) → AllStandFrom Anything q i ts
    all-stands no_trees q i = tt
    all-stands (tree t ts) q i = (stands t (q ++ i ∷ []), all-stands ts q (suc i))

  output-unknown : (results : Results) (f : InstanceStep) (d : Delivered) → IsOutputOf instance results f d → AtNodes (λ o. at_first o ≡ false) d.value
  output-unknown results f d out =
      subst (AtNodes (λ o. at_first o ≡ false)) (sym out.3)
      (output-gives (λ o. at_first o ≡ false) Anything (spot instance f.step.step) (result_at results f.step.step out.0) out.1 (λ q s b h. refl) (λ q s m e h. refl) (λ q s ts h. refl) f.step.iteration [] out.2 (stands f.step.iteration []))

  mutual
    input-known : (x : Name) (q : Place) (v : Value) → AtNodes (λ o. at_first o ≡ true) (input_value x q v)
    input-known x q (leaf n a) = refl
    input-known x q (list n vs) = (refl, inputs-known x q 0 vs)

    inputs-known : (x : Name) (q : Place) (i : ℕ) (vs : Trees (Unit {0}) Scalar) → AtAllNodes (λ o. at_first o ≡ true) (input_values x q i vs)
    inputs-known x q i no_trees = tt
    inputs-known x q i (tree v vs) = (input-known x (q ++ i ∷ []) v, inputs-known x q (suc i) vs)

-- ---- what feeds deliver at the start

module _ (flow : Flow) (levels : Name → ℕ) (instance : JobName) (results : Results) (inputs : List (Name × Value)) where
  abbrev given : List (Name × Delivered)
  given = given_of flow inputs

  link-starts : (before : List InstanceStep) (l : Link) (d : Delivered) → LinkIsFound flow levels instance results inputs before l d → LinkStarts (at_first instance) refl inputs l d.value
  link-starts before (input x) d h = (subst (AtNodes (λ o. at_first instance o ≡ true)) (sym h) (input-known instance x [] (value_given inputs x)), ap plain h ∙ plain-input x [] (value_given inputs x))
  link-starts before (output t o) d h = output-unknown instance results h.step d h.out

  module _ (before : List InstanceStep) (made : Each (IsMade flow levels instance results given) before) where
    abbrev delivers : Link → Delivered
    delivers l = link_delivers step_of given before l

    links-start : (ls : List Link) → LinksAreFound flow levels instance results inputs before made ls → LinksStart (at_first instance) refl inputs ls (trees_of (map (λ (e : Delivered). e.value) (map delivers ls)))
    links-start [] h = tt
    links-start (l ∷ ls) h = (link-starts before l (delivers l) h.0, links-start ls h.1)

    pub feed-starts : (f : Feed) → LinksAreFound flow levels instance results inputs before made (feed_links f) → FeedStarts (at_first instance) refl inputs f (feed_delivers step_of given before f).value
    feed-starts (link l) h = link-starts before l (delivers l) h.0
    feed-starts (merge []) h = (no_trees, refl, tt)
    feed-starts (merge (l ∷ ls)) h = (trees_of (map (λ (e : Delivered). e.value) (map delivers (l ∷ ls))), refl, links-start (l ∷ ls) h)
    feed-starts (constant v) h = refl

-- ---- one port

module _ (inputs : List (Name × Value)) where
  if-to : (p : Name) (b : Bool) (t : Told) → told_leaf t ≡ p → IsTo p (if_so b t)
  if-to p b t e = each-if (λ u. told_leaf u ≡ p) b t e

  link-to : (p : Name) (k : ℕ) (q : Place) (l : Link) → IsTo p (link_start inputs p k q l)
  link-to p k q (input x) = value-to p k q (value_given inputs x)
  link-to p k q (output t o) = tt

  links-to : (p : Name) (k i : ℕ) (ls : List Link) → IsTo p (links_start inputs p k i ls)
  links-to p k i [] = tt
  links-to p k i (l ∷ ls) = each-append (λ t. told_leaf t ≡ p) (link_start inputs p k (i ∷ []) l) (links_start inputs p k (suc i) ls) (link-to p k (i ∷ []) l) (links-to p k (suc i) ls)

  pub feed-to : (p : Name) (k : ℕ) (f : Feed) → IsTo p (feed_start inputs p k f)
  feed-to p zero f = if-to p (is_given f) (bound_told p [] (given_faulty inputs f)) (bound-to p [] (given_faulty inputs f))
  feed-to p (suc k) (link l) = link-to p (suc k) [] l
  feed-to p (suc k) (merge ls) = (refl, links-to p k 0 ls)
  feed-to p (suc k) (constant v) = value-to p (suc k) [] v

  module _ (known : Origin → Bool) (fresh : known fixed ≡ true) (c : ℕ) (d : Delivered) (right : HasDepth d.value d.depth) (f : Feed) (starts : FeedStarts known fresh inputs f d.value) (values : Name → Traced) (p : Name) (own : values p ≡ (at_port c d).value) where
    -- a port that takes its feed at once
    whole-seen : (b faulty : Bool) → map (seen_told values) (if_so b (bound_told p [] faulty)) ≡ if_so b (item [] (ends ((p, values p) ∷ [])))
    whole-seen true true = refl
    whole-seen true false = refl
    whole-seen false faulty = refl

    whole-known : all_known known (notes (at_port c d).value) ≡ is_given f
    whole-known = all-forms known (notes (at_port c d).value) ∙ wrapping-is_known known fresh (c - d.depth) d.value ∙ feed-known known fresh inputs f d.value starts

    -- with its levels
    by-levels : (k : ℕ) → k ≡ d.depth - c → map (seen_told values) (feed_start inputs p k f) ≡ known_items known (walk p (d.depth - c) (at_port c d).value)
    by-levels zero e =
        whole-seen (is_given f) (given_faulty inputs f)
        ∙ ap₂ (λ b v. if_so b (here (ends ((p, v) ∷ [])))) (sym whole-known) own
        ∙ ap (λ n. known_items known (walk p n (at_port c d).value)) e
    by-levels (suc k) e =
        let none : c - d.depth ≡ 0 = omega (arith, e) in
        let same : (at_port c d).value ≡ d.value = ap (λ n. wrapped n d.value) none in
        let deep : d.depth ≡ suc k + c = omega (arith, e) in
        sym
        (sym (placed-all (known_items known (walk p (d.depth - c) (at_port c d).value)))
        ∙ ap₂ (λ n v. map (placed []) (known_items known (walk p n v))) (sym e) same
        ∙ walked-told known fresh inputs values p c k f d.value starts (ap Some (own ∙ same)) (subst (HasDepth d.value) deep right))

    pub port-told : (k : ℕ) → k ≡ d.depth - c → map (item_there values) (told_to (feed_start inputs p k f) p) ≡ known_items known (walk p (at_port c d).mismatch (at_port c d).value)
    port-told k e = own-told values p (feed_start inputs p k f) (feed-to p k f) ∙ by-levels k e
