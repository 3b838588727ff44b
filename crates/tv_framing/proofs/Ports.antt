-- What the ports of a step gain: by links, merges, constants and inputs; and that what is known after an event is what was known and what is gained.
use Rattle.std.specs.Prelude.{◌≡◌, refl, ℕ, zero, suc, List, [], ◌∷◌, ◌++◌, Bool, true, false, cond, ◌&&◌, ◌||◌, Some, map, flat_map, find, unwrap_or, IsPermutation}
use Rattle.std.specs.List.{list_all}
use Rattle.std.specs.Option.{option_map_or}
use Rattle.std.proofs.Common.{sym, ap, ap₂, subst, ◌∙◌}
use Rattle.std.proofs.lemmas.List.Sorted.{IsPermutation-refl, IsPermutation-trans, IsPermutation-append}
use Rattle.std.proofs.lemmas.List.Folds.{list_all-append}
use Rattle.std.proofs.lemmas.Bool.{true≢false}
use Rattle.std.proofs.lemmas.List.{map-append}
use Rattle.std.proofs.Math.Bool.{and-true}
use Rattle.tv_lemmas.specs.Members.{Each}
use Rattle.tv_value.specs.Nested.{leaf, list, no_trees, tree, Place, at, count, notes, all_notes, trees_of}
use Rattle.tv_value.specs.Orders.{named, same_name}
use Rattle.tv_value.specs.Values.{JobName, Name}
use Rattle.tv_flow.specs.Flows.{Feed, Link, input, output, link, merge, constant, Step}
use Rattle.tv_strategy.specs.Origins.{Origin, Traced, fixed, traced}
use Rattle.tv_strategy.specs.Iterations.{Iteration, Iterations, walk}
use Rattle.tv_strategy.specs.Sources.{AtNodes}
use Rattle.tv_strategy.proofs.Sources.{notes-have, traced-have}
use Rattle.tv_model.specs.instance.Delivered.{Delivered, feed_delivers, link_delivers, nothing_delivered, wrapped}
use Rattle.tv_model.specs.instance.Steps.{spot}
use Rattle.tv_model.proofs.Sound.{AllStand, AllStandFrom, output-gives}
use Rattle.tv_matching.specs.Items.{all_known, closes, end_kind, here, if_so, known_items, known_from, within}
use Rattle.tv_matching.proofs.Permutes.{perm-from, crosswise, flat-permutes}
use Rattle.tv_framing.proofs.Gaining.{Same, gained-on_way, nothing-gained}
use Rattle.tv_framing.specs.Gaining.{IsOutputOf, feed_whole, gained_from, gained_items, is_gained, link_whole, on_way, step_whole}
use Rattle.tv_model.proofs.Wholeness.{output-whole}
use Rattle.tv_model.specs.instance.ByResults.{InstanceStep, Results, outputs_by, result_at, step_by, step_of, steps_by}
use Rattle.tv_model.specs.instance.Events.{Event, Events, event_place, event_step, known_by}
use Rattle.tv_model.specs.instance.Wholeness.{is_new, origin_at}
use Rattle.tv_framing.proofs.instances.Events.{hits, one-more, own-spot}

-- ---- known after is known before and gained

map-flat : {A B : Type 0} (f : A → B) (xs : List A) → map f xs ≡ flat_map (λ x. f x ∷ []) xs
map-flat f [] = refl
map-flat f (x ∷ xs) = ap (λ l. f x ∷ l) (map-flat f xs)

map-permutes : {A B : Type 0} (f : A → B) (xs ys : List A) → IsPermutation xs ys → IsPermutation (map f xs) (map f ys)
map-permutes f xs ys h =
    subst (λ l. IsPermutation l (map f ys)) (sym (map-flat f xs)) (subst (λ l. IsPermutation (flat_map (λ x. f x ∷ []) xs) l) (sym (map-flat f ys)) (flat-permutes (λ x. f x ∷ []) xs ys h))

module _ (known after : Origin → Bool) (more : (o : Origin) → known o ≡ true → after o ≡ true) where
  all-more : (os : List Origin) → all_known known os ≡ true → all_known after os ≡ true
  all-more [] h = refl
  all-more (o ∷ os) h = by (known o) refl h (λ g. all-more os g)
    where
      by : (b : Bool) → known o ≡ b → (b && all_known known os) ≡ true → (all_known known os ≡ true → all_known after os ≡ true) → (after o && all_known after os) ≡ true
      by true e g rec = ap₂ (λ a b. a && b) (more o e) (rec g)
      by false e g rec = absurd (true≢false (sym g))

  parted : {A : Type 0} (a b : Bool) (x : A) → (a ≡ true → b ≡ true) → if_so b x ≡ if_so a x ++ if_so (is_new a b) x
  parted true true x f = refl
  parted true false x f = absurd (true≢false (sym (f refl)))
  parted false true x f = refl
  parted false false x f = refl

  mutual
    pub known-or_gained : (t : Iteration) → IsPermutation (known_items after t) (known_items known t ++ gained_items known after t)
    known-or_gained (leaf s e) = perm-from _ _ (parted (all_known known s) (all_known after s) (here (end_kind e)) (all-more s))
    known-or_gained (list s ts) =
        IsPermutation-trans _ _ _
        (IsPermutation-append _ _ _ _ (perm-from _ _ (parted (all_known known s) (all_known after s) (here (closes (count ts))) (all-more s))) (known-or_gained_from 0 ts))
        (crosswise (if_so (all_known known s) (here (closes (count ts)))) (if_so (is_gained known after s) (here (closes (count ts)))) (known_from known 0 ts) (gained_from known after 0 ts))

    pub known-or_gained_from : (i : ℕ) (ts : Iterations) → IsPermutation (known_from after i ts) (known_from known i ts ++ gained_from known after i ts)
    known-or_gained_from i no_trees = IsPermutation-refl []
    known-or_gained_from i (tree t ts) =
        IsPermutation-trans _ _ _
        (IsPermutation-append _ _ _ _ (subst (λ l. IsPermutation (map (within i) (known_items after t)) l) (map-append (within i) (known_items known t) (gained_items known after t)) (map-permutes (within i) _ _ (known-or_gained t))) (known-or_gained_from (suc i) ts))
        (crosswise (map (within i) (known_items known t)) (map (within i) (gained_items known after t)) (known_from known (suc i) ts) (gained_from known after (suc i) ts))

-- ---- the outputs of a step are outputs of it

module _ (instance : JobName) (results : Results) where
  each-output : (f : InstanceStep) (levels : ℕ) (k : ℕ) (ps : List (Name × ℕ)) → Each (λ d. IsOutputOf instance results f d.1) (outputs_by instance f.step.step (result_at results f.step.step) levels f.step.iteration k ps)
  each-output f levels k [] = tt
  each-output f levels k (p ∷ ps) = ((k, p.1, levels, refl), each-output f levels (suc k) ps)

  abbrev pub HasOutputs : InstanceStep → Type 0
  HasOutputs f = Each (λ d. IsOutputOf instance results f d.1) f.step.outputs

  pub step-outputs : (given : List (Name × Delivered)) (fs : List InstanceStep) (s : Name × Step) → HasOutputs (step_by instance results given fs s)
  step-outputs given fs (n, s) = each-output (step_by instance results given fs (n, s)) _ 0 s.outputs

  pub steps-outputs : (given : List (Name × Delivered)) (fs : List InstanceStep) (ss : List (Name × Step)) → Each HasOutputs fs → Each HasOutputs (steps_by instance results given fs ss)
  steps-outputs given fs [] h = h
  steps-outputs given fs (s ∷ ss) h = steps-outputs given (step_by instance results given fs s ∷ fs) ss (step-outputs given fs s, h)

  -- ---- what a feed delivers is known where its steps are whole

  module _ (known : Origin → Bool) (fresh : known fixed ≡ true) (given : List (Name × Delivered)) (start : Each (λ d. AtNodes (λ o. known o ≡ true) d.1.value) given) (fs : List InstanceStep) (have : Each HasOutputs fs) where
    all-true : (os : List Origin) → Each (λ o. known o ≡ true) os → list_all known os ≡ true
    all-true [] h = refl
    all-true (o ∷ os) h = ap₂ (λ a b. a && b) h.0 (all-true os h.1)

    nothing-known : list_all known (notes nothing_delivered.value) ≡ true
    nothing-known = ap (λ b. b && true) fresh

    input-known : (x : Name) (ds : List (Name × Delivered)) → Each (λ d. AtNodes (λ o. known o ≡ true) d.1.value) ds → list_all known (notes (unwrap_or (named x ds) nothing_delivered).value) ≡ true
    input-known x [] h = nothing-known
    input-known x (d ∷ ds) h = by (same_name x d.0) (input-known x ds h.1)
      where
        by : (b : Bool) → list_all known (notes (unwrap_or (named x ds) nothing_delivered).value) ≡ true → list_all known (notes (unwrap_or (cond b (Some d.1) (named x ds)) nothing_delivered).value) ≡ true
        by true k = all-true (notes d.1.value) (notes-have (λ o. known o ≡ true) d.1.value h.0)
        by false k = k

    output-known : (f : InstanceStep) (p : Name) (ds : List (Name × Delivered)) → Each (λ d. IsOutputOf instance results f d.1) ds → list_all known (notes (unwrap_or (named p ds) nothing_delivered).value) ≡ option_map_or (λ d. step_whole instance known f) (named p ds) true
    output-known f p [] h = nothing-known
    output-known f p (d ∷ ds) h = by (same_name p d.0) (output-known f p ds h.1)
      where
        by : (b : Bool) → list_all known (notes (unwrap_or (named p ds) nothing_delivered).value) ≡ option_map_or (λ d. step_whole instance known f) (named p ds) true → list_all known (notes (unwrap_or (cond b (Some d.1) (named p ds)) nothing_delivered).value) ≡ option_map_or (λ d. step_whole instance known f) (cond b (Some d.1) (named p ds)) true
        by true k = let o = h.0 in ap (λ v. list_all known (notes v)) o.3 ∙ output-whole (spot instance f.step.step) known (result_at results f.step.step o.0) o.1 f.step.iteration [] o.2
        by false k = k

    step-known : (s p : Name) (gs : List InstanceStep) → Each HasOutputs gs → list_all known (notes (option_map_or (λ f. unwrap_or (named p (step_of f).outputs) nothing_delivered) (find (λ f. same_name s (step_of f).step) gs) nothing_delivered).value) ≡ option_map_or (λ (f : InstanceStep). option_map_or (λ d. step_whole instance known f) (named p f.step.outputs) true) (find (λ (f : InstanceStep). same_name s f.step.step) gs) true
    step-known s p [] h = nothing-known
    step-known s p (g ∷ gs) h = by (same_name s g.step.step) (step-known s p gs h.1)
      where
        by : (b : Bool) → list_all known (notes (option_map_or (λ f. unwrap_or (named p (step_of f).outputs) nothing_delivered) (find (λ f. same_name s (step_of f).step) gs) nothing_delivered).value) ≡ option_map_or (λ (f : InstanceStep). option_map_or (λ d. step_whole instance known f) (named p f.step.outputs) true) (find (λ (f : InstanceStep). same_name s f.step.step) gs) true → list_all known (notes (option_map_or (λ f. unwrap_or (named p (step_of f).outputs) nothing_delivered) (cond b (Some g) (find (λ f. same_name s (step_of f).step) gs)) nothing_delivered).value) ≡ option_map_or (λ (f : InstanceStep). option_map_or (λ d. step_whole instance known f) (named p f.step.outputs) true) (cond b (Some g) (find (λ (f : InstanceStep). same_name s f.step.step) gs)) true
        by true k = output-known g p g.step.outputs h.0
        by false k = k

    pub link-known : (l : Link) → list_all known (notes (link_delivers step_of given fs l).value) ≡ link_whole instance known fs l
    link-known (input x) = input-known x given start
    link-known (output s p) = step-known s p fs have

    items-known : (ls : List Link) → list_all known (all_notes (trees_of (map (λ (d : Delivered). d.value) (map (link_delivers step_of given fs) ls)))) ≡ list_all (link_whole instance known fs) ls
    items-known [] = refl
    items-known (l ∷ ls) =
        list_all-append known (notes (link_delivers step_of given fs l).value) (all_notes (trees_of (map (λ (d : Delivered). d.value) (map (link_delivers step_of given fs) ls)))) ∙ ap₂ (λ a b. a && b) (link-known l) (items-known ls)

    pub feed-known : (f : Feed) → list_all known (notes (feed_delivers step_of given fs f).value) ≡ feed_whole instance known fs f
    feed-known (link l) = link-known l
    feed-known (merge []) = nothing-known
    feed-known (merge (l ∷ ls)) = ap (λ b. b && list_all known (all_notes (trees_of (map (λ (d : Delivered). d.value) (map (link_delivers step_of given fs) (l ∷ ls)))))) fresh ∙ items-known (l ∷ ls)
    feed-known (constant v) = all-true (notes (traced fixed v)) (notes-have (λ o. known o ≡ true) (traced fixed v) (traced-have (λ o. known o ≡ true) fixed fresh v))

    -- wrapping adds lists that are known from the start
    pub wrapped-known : (k : ℕ) (v : Traced) → list_all known (notes (wrapped k v)) ≡ list_all known (notes v)
    wrapped-known zero v = refl
    wrapped-known (suc k) v = ap₂ (λ a b. a && b) fresh (list_all-append known (notes (wrapped k v)) [] ∙ and-true (list_all known (notes (wrapped k v))) ∙ wrapped-known k v)

-- ---- an event and what its ports gain

module _ (instance : JobName) (e : Event) (es : Events) where
  pub start-gains : (p : Name) (k : ℕ) (v : Traced) → AtNodes (Same (known_by instance es) (known_by instance (e ∷ es))) v → gained_items (known_by instance es) (known_by instance (e ∷ es)) (walk p k v) ≡ []
  start-gains p k v h = nothing-gained (known_by instance es) (known_by instance (e ∷ es)) p k v h

  -- the event is of another step
  module _ (results : Results) (f : InstanceStep) (other : f.step.step ≡ event_step e → ⊥) where
    other-same : (q : Place) (u : Iteration) → known_by instance (e ∷ es) (origin_at (spot instance f.step.step) q u) ≡ known_by instance es (origin_at (spot instance f.step.step) q u)
    other-same q u = one-more instance e es (origin_at (spot instance f.step.step) q u) ∙ by (hits instance e (origin_at (spot instance f.step.step) q u)) (λ h. other (own-spot instance e f.step.step q u h).0)
      where
        by : (b : Bool) → (b ≡ true → ⊥) → (b || known_by instance es (origin_at (spot instance f.step.step) q u)) ≡ known_by instance es (origin_at (spot instance f.step.step) q u)
        by true g = absurd (g refl)
        by false g = refl

    abbrev HereSame : Place → Iteration → Type 0
    HereSame q u = known_by instance (e ∷ es) (origin_at (spot instance f.step.step) q u) ≡ known_by instance es (origin_at (spot instance f.step.step) q u)

    mutual
      stand-same : (t : Iteration) (q : Place) → AllStand HereSame q t
      stand-same (leaf s x) q = other-same q (leaf s x)
      stand-same (list s ts) q = (other-same q (list s ts), stand-same_from ts q 0)

      stand-same_from : (ts : Iterations) (q : Place) (i : ℕ) → AllStandFrom HereSame q i ts
      stand-same_from no_trees q i = tt
      stand-same_from (tree t ts) q i = (stand-same t (q ++ i ∷ []), stand-same_from ts q (suc i))

    pub other-gains : (d : Delivered) → IsOutputOf instance results f d → (p : Name) (k : ℕ) → gained_items (known_by instance es) (known_by instance (e ∷ es)) (walk p k d.value) ≡ []
    other-gains d o p k =
        start-gains p k d.value
        (subst (AtNodes (Same (known_by instance es) (known_by instance (e ∷ es)))) (sym o.3)
        (output-gives (Same (known_by instance es) (known_by instance (e ∷ es))) HereSame (spot instance f.step.step) (result_at results f.step.step o.0) o.1 (λ q s b h. h) (λ q s m x h. h) (λ q s ts h. h) f.step.iteration [] o.2 (stand-same f.step.iteration [])))

  -- the event is of this step
  module _ (results : Results) (f : InstanceStep) (node : Iteration) (there : at f.step.iteration (event_place e) ≡ Some node) (of_step : f.step.step ≡ event_step e) (hit : hits instance e (origin_at (spot instance f.step.step) (event_place e) node) ≡ true) (not_yet : known_by instance es (origin_at (spot instance f.step.step) (event_place e) node) ≡ false) where
    pub link-gains : (d : Delivered) (o : IsOutputOf instance results f d) (p : Name) (k : ℕ) → gained_items (known_by instance es) (known_by instance (e ∷ es)) (walk p k d.value) ≡ on_way (known_by instance es) (known_by instance (e ∷ es)) (spot instance f.step.step) (result_at results f.step.step o.0) o.1 p [] k o.2 f.step.iteration (event_place e)
    link-gains d o p k =
        ap (λ v. gained_items (known_by instance es) (known_by instance (e ∷ es)) (walk p k v)) o.3
        ∙ gained-on_way (spot instance f.step.step) (known_by instance es) (known_by instance (e ∷ es)) (hits instance e) (one-more instance e es) (event_place e) (λ q u h. (own-spot instance e f.step.step q u h).1) (result_at results f.step.step o.0) o.1 p node hit not_yet f.step.iteration [] (event_place e) k o.2 refl there
