-- What is told at the start of a feed is what is known of the walk of its value.
use Rattle.std.specs.List.{list_all}
use Rattle.std.specs.Prelude.{◌≡◌, refl, ℕ, suc, ◌+◌, Bool, true, false, ◌&&◌, List, [], ◌∷◌, ◌++◌, length, map, option_and_then, Some}
use Rattle.std.proofs.Common.{arith, sym, ap, ap₂, subst, ◌∙◌, add-zero}
use Rattle.std.proofs.lemmas.List.Folds.{list_all-append}
use Rattle.std.proofs.lemmas.Bool.{and_left}
use Rattle.std.proofs.lemmas.Option.{same_Some}
use Rattle.std.proofs.lemmas.List.{map-append}
use Rattle.tv_lemmas.specs.Members.{Each}
use Rattle.tv_lemmas.proofs.Numbers.{is-zero_plus, plus-suc}
use Rattle.tv_value.specs.Nested.{Place, Trees, all_notes, at, count, item_at, list, leaf, no_trees, notes, tree}
use Rattle.tv_value.specs.Values.{AllHaveDepth, HasDepth, Name, Scalar, Value}
use Rattle.tv_flow.specs.Flows.{Feed, Link, constant, input, link, merge, output}
use Rattle.tv_strategy.specs.Iterations.{walk, walk_each}
use Rattle.tv_strategy.specs.Origins.{Origin, Traced, fixed, plain, traced}
use Rattle.tv_strategy.specs.Sources.{AtNodes}
use Rattle.tv_strategy.proofs.Sources.{notes-have, traced-have}
use Rattle.tv_model.specs.Instances.{value_given}
use Rattle.tv_matching.specs.Items.{Bound, Item, Stopped, all_known, closes, here, item, known_from, known_items, within}
use Rattle.tv_matching.specs.Told.{Told, item_there, tellings}
use Rattle.tv_telling.specs.ValueTellings.{value_told}
use Rattle.tv_framing.specs.PortTellings as framing
use Rattle.tv_framing.specs.PortTellings.{placed, seen_told}
use Rattle.tv_framing.proofs.Gaining.{one-if}
use Rattle.tv_framing.proofs.Matching.{all-told, none-told}
use Rattle.tv_framing.proofs.Tellings.{placed-within, told-plain, value-is_told}
use Rattle.tv_framing.proofs.ways.Ways.{values-alike}
use Rattle.tv_framing.proofs.starts.Plain.{plain-traced}
use Rattle.tv_framing.specs.starts.Starts.{feed_start, is_given, is_input, link_start, links_start}

-- what a telling says of values doesn't depend on faults in them
seen-tellings : (values : Name → Traced) (ts : List Told) → map (seen_told values) ts ≡ map (λ y. item_there values y.item) (tellings ts)
seen-tellings values [] = refl
seen-tellings values (t ∷ ts) = ap (λ l. seen_told values t ∷ l) (seen-tellings values ts)

module _ (known : Origin → Bool) (fresh : known fixed ≡ true) (inputs : List (Name × Value)) where
  -- v is what the link delivers: an input, which is known, or an output, of which nothing is
  abbrev pub LinkStarts : Link → Traced → Type 0
  LinkStarts (input x) v = AtNodes (λ o. known o ≡ true) v × (plain v ≡ value_given inputs x)
  LinkStarts (output t o) v = AtNodes (λ o. known o ≡ false) v

  abbrev pub LinksStart : List Link → Trees Origin Scalar → Type 0
  LinksStart [] no_trees = Unit {0}
  LinksStart [] (tree v vs) = ⊥
  LinksStart (l ∷ ls) no_trees = ⊥
  LinksStart (l ∷ ls) (tree v vs) = LinkStarts l v × LinksStart ls vs

  -- and v is what the feed delivers
  abbrev pub FeedStarts : Feed → Traced → Type 0
  FeedStarts (link l) v = LinkStarts l v
  FeedStarts (merge ls) v = (vs : Trees Origin Scalar) × (v ≡ list fixed vs) × LinksStart ls vs
  FeedStarts (constant w) v = v ≡ traced fixed w

  -- ---- what is known of it

  all-true : (os : List Origin) → Each (λ o. known o ≡ true) os → list_all known os ≡ true
  all-true [] h = refl
  all-true (o ∷ os) h = ap₂ (λ a b. a && b) h.0 (all-true os h.1)

  first-not : (v : Traced) → AtNodes (λ o. known o ≡ false) v → list_all known (notes v) ≡ false
  first-not (leaf o a) h = and_left (known o) true h
  first-not (list o vs) h = and_left (known o) (list_all known (all_notes vs)) h.0

  link-known : (l : Link) (v : Traced) → LinkStarts l v → list_all known (notes v) ≡ is_input l
  link-known (input x) v h = all-true (notes v) (notes-have (λ o. known o ≡ true) v h.0)
  link-known (output t o) v h = first-not v h

  links-known : (ls : List Link) (vs : Trees Origin Scalar) → LinksStart ls vs → list_all known (all_notes vs) ≡ list_all is_input ls
  links-known [] no_trees h = refl
  links-known [] (tree v vs) h = absurd h
  links-known (l ∷ ls) no_trees h = absurd h
  links-known (l ∷ ls) (tree v vs) h =
      list_all-append known (notes v) (all_notes vs) ∙ ap₂ (λ a b. a && b) (link-known l v h.0) (links-known ls vs h.1)

  constant-known : (w : Value) → AtNodes (λ o. known o ≡ true) (traced fixed w)
  constant-known w = traced-have (λ o. known o ≡ true) fixed fresh w

  pub feed-known : (f : Feed) (v : Traced) → FeedStarts f v → list_all known (notes v) ≡ is_given f
  feed-known (link l) v h = link-known l v h
  feed-known (merge ls) v h = ap (λ u. list_all known (notes u)) h.1 ∙ ap₂ (λ a b. a && b) fresh (links-known ls h.0 h.2)
  feed-known (constant w) v h =
      ap (λ u. list_all known (notes u)) h ∙ all-true (notes (traced fixed w)) (notes-have (λ o. known o ≡ true) (traced fixed w) (constant-known w))

  -- ---- what is told of it

  module _ (values : Name → Traced) (p : Name) (c : ℕ) where
    abbrev said : List Told → List (Item Bound Stopped)
    said ts = map (seen_told values) ts

    -- all of a value that is known
    known-told : (k : ℕ) (q : Place) (v : Traced) (w : Value) → AtNodes (λ o. known o ≡ true) v → plain v ≡ w → at (values p) q ≡ Some v → HasDepth v (k + c) → map (placed q) (known_items known (walk p k v)) ≡ said (value_told p k q w)
    known-told k q v w h e a d =
        ap (map (placed q)) (all-told known p k v h)
        ∙ value-is_told known known values p c k q v a d
        ∙ ap said (sym (told-plain p k q (λ _. tt) v) ∙ ap (framing.value_told p k q) e)
        ∙ seen-tellings values (framing.value_told p k q w)
        ∙ ap (map (λ y. item_there values y.item)) (values-alike p k q w)
        ∙ sym (seen-tellings values (value_told p k q w))

    link-told : (k : ℕ) (q : Place) (l : Link) (v : Traced) → LinkStarts l v → at (values p) q ≡ Some v → HasDepth v (k + c) → map (placed q) (known_items known (walk p k v)) ≡ said (link_start inputs p k q l)
    link-told k q (input x) v h a d = known-told k q v (value_given inputs x) h.0 h.1 a d
    link-told k q (output t o) v h a d = ap (map (placed q)) (none-told known p k v h)

    links-told : (k i : ℕ) (ls : List Link) (vs : Trees Origin Scalar) → LinksStart ls vs → ((j : ℕ) (u : Traced) → item_at vs j ≡ Some u → at (values p) ((i + j) ∷ []) ≡ Some u) → AllHaveDepth vs (k + c) → map (placed []) (known_from known i (walk_each p k vs)) ≡ said (links_start inputs p k i ls)
    links-told k i [] no_trees h a d = refl
    links-told k i [] (tree v vs) h a d = absurd h
    links-told k i (l ∷ ls) no_trees h a d = absurd h
    links-told k i (l ∷ ls) (tree v vs) h a d =
        map-append (placed []) (map (within i) (known_items known (walk p k v))) (known_from known (suc i) (walk_each p k vs))
        ∙ ap₂ (λ x y. x ++ y)
        (placed-within [] i (known_items known (walk p k v)) ∙ link-told k (i ∷ []) l v h.0 (subst (λ n. at (values p) (n ∷ []) ≡ Some v) (add-zero i) (a 0 v refl)) d.0)
        (links-told k (suc i) ls vs h.1 (λ j u g. subst (λ n. at (values p) (n ∷ []) ≡ Some u) (plus-suc i j) (a (suc j) u g)) d.1)
        ∙ sym (map-append (seen_told values) (link_start inputs p k (i ∷ []) l) (links_start inputs p k (suc i) ls))

    counts : (k : ℕ) (ls : List Link) (vs : Trees Origin Scalar) → LinksStart ls vs → count (walk_each p k vs) ≡ length ls
    counts k [] no_trees h = refl
    counts k [] (tree v vs) h = absurd h
    counts k (l ∷ ls) no_trees h = absurd h
    counts k (l ∷ ls) (tree v vs) h = ap suc (counts k ls vs h.1)

    itself : (vs : Trees Origin Scalar) (j : ℕ) (u : Traced) → item_at vs j ≡ Some u → at (list fixed vs) (j ∷ []) ≡ Some u
    itself vs j u g = ap (λ o. option_and_then (λ x. at x []) o) g

    -- the list of a merge, and its links
    merge-told : (k : ℕ) (ls : List Link) (vs : Trees Origin Scalar) → LinksStart ls vs → at (values p) [] ≡ Some (list fixed vs) → AllHaveDepth vs (k + c) → map (placed []) (known_items known (walk p (suc k) (list fixed vs))) ≡ said (feed_start inputs p (suc k) (merge ls))
    merge-told k ls vs h a d =
        ap (λ l. map (placed []) (l ++ known_from known 0 (walk_each p k vs))) (one-if (all_known known (fixed ∷ [])) (here (closes (count (walk_each p k vs)))) (ap (λ b. b && true) fresh))
        ∙ ap₂ (λ n l. item [] (closes n) ∷ l) (counts k ls vs h)
        (links-told k 0 ls vs h (λ j u g. subst (λ n. at (values p) (n ∷ []) ≡ Some u) (is-zero_plus j) (inside j u g)) d)
      where
        inside : (j : ℕ) (u : Traced) → item_at vs j ≡ Some u → at (values p) (j ∷ []) ≡ Some u
        inside j u g = ap (λ v. at v (j ∷ [])) (same_Some (values p) (list fixed vs) a) ∙ itself vs j u g

    sucs : (a b : ℕ) → suc a + b ≡ suc (a + b)
    sucs a b = omega arith

    -- a port that walks some levels of its feed
    pub walked-told : (k : ℕ) (f : Feed) (v : Traced) → FeedStarts f v → at (values p) [] ≡ Some v → HasDepth v (suc k + c) → map (placed []) (known_items known (walk p (suc k) v)) ≡ said (feed_start inputs p (suc k) f)
    walked-told k (link l) v h a d = link-told (suc k) [] l v h a d
    walked-told k (merge ls) v h a d =
        ap (λ u. map (placed []) (known_items known (walk p (suc k) u))) h.1
        ∙ merge-told k ls h.0 h.2 (a ∙ ap Some h.1) (subst (HasDepth (list fixed h.0)) (sucs k c) (subst (λ u. HasDepth u (suc k + c)) h.1 d))
    walked-told k (constant w) v h a d =
        known-told (suc k) [] v w (subst (AtNodes (λ o. known o ≡ true)) (sym h) (constant-known w)) (ap plain h ∙ plain-traced fixed w) a d
