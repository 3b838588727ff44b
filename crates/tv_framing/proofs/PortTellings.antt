-- What each port is told with an event, by its feed: links, merges and whole values.
use Rattle.std.specs.Prelude.{◌≡◌, refl, ℕ, zero, suc, pred, if◌then◌else◌, List, [], ◌∷◌, ◌++◌, Bool, true, false, Option, Some, None, map}
use Rattle.std.specs.Cmp.Lexicographic.{bytes_decides}
use Rattle.std.proofs.Common.{sym, ap, ap₂, subst, ◌∙◌, inl, inr}
use Rattle.std.proofs.lemmas.Bool.{true≢false}
use Rattle.std.proofs.lemmas.List.{map-append}
use Rattle.tv_value.specs.Nested.{Trees, leaf, list, no_trees, tree, Place, at, notes, trees_of}
use Rattle.tv_value.specs.Orders.{same_name}
use Rattle.tv_value.specs.Values.{JobName, Name, Scalar, Value}
use Rattle.tv_flow.specs.Flows.{Feed, Link, constant, input, link, merge, output}
use Rattle.tv_strategy.specs.Iterations.{Iteration, Iterations, walk, walk_each}
use Rattle.tv_strategy.specs.Levels.{AllHaveLevels, HasLevels}
use Rattle.tv_strategy.specs.Origins.{Origin, Traced}
use Rattle.tv_strategy.specs.Sources.{AtNodes}
use Rattle.tv_model.specs.instance.Delivered.{Delivered, merged}
use Rattle.tv_model.specs.instance.Steps.{spot}
use Rattle.tv_model.proofs.Sound.{AllStand, AllStandFrom, StandsAt, all-stand}
use Rattle.tv_matching.specs.Items.{Bound, Item, Stopped, all_known, ends, here, if_so, within}
use Rattle.tv_matching.specs.Told.{Told, arrival}
use Rattle.tv_framing.proofs.Gaining.{Same}
use Rattle.tv_framing.proofs.Ports.{link-gains, other-gains, start-gains}
use Rattle.tv_framing.proofs.Tellings.{arrival-seen, placed-within, way-is_told}
use Rattle.tv_framing.specs.Feeding.{AreLinksFed, GaveThis, HasDepthLeft, IsLinkFed, IsPortFed}
use Rattle.tv_framing.specs.Arriving.{levels_below}
use Rattle.tv_framing.specs.Gaining.{IsOutputOf, gained_from, gained_items}
use Rattle.tv_framing.specs.PortTellings.{link_told, links_told, newly_by, placed, port_told, seen_told, way_told}
use Rattle.tv_model.specs.instance.ByResults.{InstanceStep, Results, result_at}
use Rattle.tv_model.specs.instance.Counting.{whole_by}
use Rattle.tv_model.specs.instance.Events.{Event, Events, event_place, event_step, is_telling, known_by}
use Rattle.tv_model.specs.instance.Fitting.{FitStep, FitsNode}
use Rattle.tv_model.specs.instance.Legality.{IsLegalNext}
use Rattle.tv_model.specs.instance.Wholeness.{is_new, is_whole, origin_at}
use Rattle.tv_framing.proofs.instances.Counting.{whole-by_events}
use Rattle.tv_framing.proofs.instances.Events.{hits}
use Rattle.tv_framing.proofs.instances.Legal.{fresh-unknown, node-here, telling-hits}
use Rattle.tv_framing.specs.instances.InHistory.{Finds}

-- ---- what becomes whole, by events alone

less-below : (d : ℕ) (q : Place) (i : ℕ) → levels_below d (q ++ i ∷ []) ≡ pred (levels_below d q)
less-below d [] i = refl
less-below d (j ∷ q) i = less-below (pred d) q i

module _ (instance : JobName) (f : InstanceStep) (e : Event) (es : Events) (fit : FitStep f es) (fit_after : FitStep f (e ∷ es)) (levels : ℕ) where
  abbrev pub NewlyAt : Place → Iteration → Type 0
  NewlyAt x t = newly_by es e f.step.step levels x ≡ is_new (is_whole (spot instance f.step.step) (known_by instance es) x t) (is_whole (spot instance f.step.step) (known_by instance (e ∷ es)) x t)

  newly-here : (t : Iteration) (q : Place) (d : ℕ) → d ≡ levels_below levels q → HasLevels t d → AllStand (StandsAt f.step.iteration) q t → NewlyAt q t
  newly-here t q d e1 l h =
      ap₂ (λ a b. is_new a b)
      (ap (λ n. whole_by es f.step.step n q) (sym e1) ∙ sym (whole-by_events f instance es fit t q d l h))
      (ap (λ n. whole_by (e ∷ es) f.step.step n q) (sym e1) ∙ sym (whole-by_events f instance (e ∷ es) fit_after t q d l h))

  mutual
    newly-below : (t : Iteration) (q : Place) (d : ℕ) → d ≡ levels_below levels q → HasLevels t d → AllStand (StandsAt f.step.iteration) q t → AllStand NewlyAt q t
    newly-below (leaf s x) q d e1 l h = newly-here (leaf s x) q d e1 l h
    newly-below (list s ts) q zero e1 l h = absurd l
    newly-below (list s ts) q (suc d) e1 l h = (newly-here (list s ts) q (suc d) e1 l h, newly-from ts q 0 d (ap pred e1) l h.1)

    newly-from : (ts : Iterations) (q : Place) (i d : ℕ) → d ≡ pred (levels_below levels q) → AllHaveLevels ts d → AllStandFrom (StandsAt f.step.iteration) q i ts → AllStandFrom NewlyAt q i ts
    newly-from no_trees q i d e1 l h = tt
    newly-from (tree t ts) q i d e1 l h = (newly-below t (q ++ i ∷ []) d (e1 ∙ sym (less-below levels q i)) l.0 h.0, newly-from ts q (suc i) d e1 l.1 h.1)

  pub newly-all : HasLevels f.step.iteration levels → AllStand NewlyAt [] f.step.iteration
  newly-all l = newly-below f.step.iteration [] levels refl l (all-stand f.step.iteration f.step.iteration [] refl)

-- ---- a link

module _ (instance : JobName) (results : Results) (fs : List InstanceStep) (e : Event) (es : Events) (legal : IsLegalNext instance fs es e) (tells : is_telling e ≡ true) (values : Name → Traced) (p : Name) where
  abbrev known : Origin → Bool
  known o = known_by instance es o

  abbrev after : Origin → Bool
  after o = known_by instance (e ∷ es) o

  abbrev said : List Told → List (Item Bound Stopped)
  said ts = map (seen_told values) ts

  -- of the step of the event: w is what the job gave at this output, c is the port's declared depth
  module _ (f : InstanceStep) (self : Finds fs f) (own : same_name f.step.step (event_step e) ≡ true) (fit : FitStep f es) (levels : ℕ) (leveled : HasLevels f.step.iteration levels) (d : Delivered) (out : IsOutputOf instance results f d) (c : ℕ) (w : Value) where
    same : event_step e ≡ f.step.step
    same = sym ((bytes_decides f.step.step (event_step e)).0 own)

    abbrev pub IsHit : Iteration → Name → Type 0
    IsHit node s = hits instance e (origin_at (spot instance s) (event_place e) node) ≡ true

    abbrev pub IsUnknown : Iteration → Name → Type 0
    IsUnknown node s = known (origin_at (spot instance s) (event_place e) node) ≡ false

    -- THE LINK: what the matcher is told is what the port gains
    pub own-is_told : (k : ℕ) (q : Place) → at (values p) q ≡ Some d.value → GaveThis w (result_at results f.step.step out.0) e (event_place e) → HasDepthLeft w c e (levels_below k (event_place e)) → map (placed q) (gained_items known after (walk p k d.value)) ≡ said (way_told (newly_by es e f.step.step levels) p k q [] (event_place e) e w)
    own-is_told k q h g l = by (at f.step.iteration (event_place e)) refl (subst (FitsNode e) (node-here instance fs f self e own) legal.fits)
      where
        by : (o : Option Iteration) → at f.step.iteration (event_place e) ≡ o → FitsNode e o → map (placed q) (gained_items known after (walk p k d.value)) ≡ said (way_told (newly_by es e f.step.step levels) p k q [] (event_place e) e w)
        by None there n = absurd n
        by (Some node) there n =
            ap (map (placed q)) (link-gains instance e es results f node there (sym same) (subst (IsHit node) same (telling-hits instance e node tells n)) (subst (IsUnknown node) same (fresh-unknown instance es e node tells n legal.fresh)) d out p k)
            ∙ way-is_told known after values p (spot instance f.step.step) (result_at results f.step.step out.0) out.1 c (newly_by es e f.step.step levels) e w f.step.iteration q [] (event_place e) k out.2 node there n g l (newly-all instance f e es fit (λ _. subst (FitsNode e) (sym there) n, fit) levels leveled) (h ∙ ap (λ v. Some v) out.3)

  -- of another step nothing is told
  pub other-is_told : (f : InstanceStep) → (f.step.step ≡ event_step e → ⊥) → (d : Delivered) → IsOutputOf instance results f d → (k : ℕ) (q : Place) → map (placed q) (gained_items known after (walk p k d.value)) ≡ said []
  other-is_told f other d out k q = ap (map (placed q)) (other-gains instance e es results f other d out p k)

  -- nor of what is known from the start
  pub start-is_told : (v : Traced) → AtNodes (Same known after) v → (k : ℕ) (q : Place) → map (placed q) (gained_items known after (walk p k v)) ≡ said []
  start-is_told v h k q = ap (map (placed q)) (start-gains instance e es p k v h)

  -- a port that walks no level is told of its value once all of it is known
  pub whole-is_told : (v : Traced) → at (values p) [] ≡ Some v → (whole_now : Bool) → whole_now ≡ is_new (all_known known (notes v)) (all_known after (notes v)) → map (placed []) (gained_items known after (walk p zero v)) ≡ said (if_so whole_now (arrival p [] false))
  whole-is_told v h b e1 = ap (λ b. map (placed []) (if_so b (here (ends ((p, v) ∷ []))))) (sym e1) ∙ one b
    where
      one : (b : Bool) → map (placed []) (if_so b (here (ends ((p, v) ∷ [])))) ≡ said (if_so b (arrival p [] false))
      one true = ap (λ x. x ∷ []) (sym (arrival-seen known after values p [] v h))
      one false = refl

  -- a merge that is walked is told what its links are told, each at its index
  module _ (newly : Place → Bool) (given_at : Name → Value) where
    abbrev pub EachTold : ℕ → ℕ → Trees Origin Scalar → List Link → Type 0
    EachTold k i no_trees [] = Unit {0}
    EachTold k i no_trees (l ∷ ls) = ⊥
    EachTold k i (tree v vs) [] = ⊥
    EachTold k i (tree v vs) (l ∷ ls) = (map (placed (i ∷ [])) (gained_items known after (walk p k v)) ≡ said (link_told newly e given_at p k (i ∷ []) l)) × EachTold k (suc i) vs ls

    pub links-are_told : (k i : ℕ) (vs : Trees Origin Scalar) (ls : List Link) → EachTold k i vs ls → map (placed []) (gained_from known after i (walk_each p k vs)) ≡ said (links_told newly e given_at p k i ls)
    links-are_told k i no_trees [] h = refl
    links-are_told k i no_trees (l ∷ ls) h = absurd h
    links-are_told k i (tree v vs) [] h = absurd h
    links-are_told k i (tree v vs) (l ∷ ls) h =
        map-append (placed []) (map (within i) (gained_items known after (walk p k v))) (gained_from known after (suc i) (walk_each p k vs))
        ∙ ap₂ (λ a b. a ++ b) (placed-within [] i (gained_items known after (walk p k v)) ∙ h.0) (links-are_told k (suc i) vs ls h.1)
        ∙ sym (map-append (seen_told values) (link_told newly e given_at p k (i ∷ []) l) (links_told newly e given_at p k (suc i) ls))

    pub merge-is_told : (k : ℕ) (d : Delivered) (ds : List Delivered) (l : Link) (ls : List Link) → EachTold k 0 (trees_of (map (λ (x : Delivered). x.value) (d ∷ ds))) (l ∷ ls) → map (placed []) (gained_items known after (walk p (suc k) (merged (d ∷ ds)).value)) ≡ said (port_told newly e given_at p false (suc k) (merge (l ∷ ls)))
    merge-is_told k d ds l ls h = links-are_told k 0 (trees_of (map (λ (x : Delivered). x.value) (d ∷ ds))) (l ∷ ls) h

    -- ---- any feed

    abbrev Fed : ℕ → Place → Traced → Link → Type 0
    Fed k q v l = IsLinkFed instance results fs e es values p newly given_at k q v l

    pub link-told : (k : ℕ) (q : Place) (v : Traced) (l : Link) → Fed k q v l → map (placed q) (gained_items known after (walk p k v)) ≡ said (link_told newly e given_at p k q l)
    link-told k q v (input x) h = start-is_told v h k q
    link-told k q v (output s o) (inl h) =
        ap (λ x. map (placed q) (gained_items known after (walk p k x))) h.value
        ∙ other-is_told h.step (λ g. true≢false (sym ((bytes_decides s (event_step e)).1 (sym h.name ∙ g)) ∙ h.elsewhere)) h.delivered h.output k q
        ∙ sym (ap (λ b. said (if b then way_told newly p k q [] (event_place e) e (given_at o) else [])) h.elsewhere)
    link-told k q v (output s o) (inr h) =
        ap (λ x. map (placed q) (gained_items known after (walk p k x))) h.value
        ∙ own-is_told h.step h.self (ap (λ n. same_name n (event_step e)) h.name ∙ h.here) h.fit h.levels h.leveled h.delivered h.output h.declared (given_at o) k q (h.stands ∙ ap (λ x. Some x) h.value) h.gave h.depth
        ∙ ap (λ w. said (way_told w p k q [] (event_place e) e (given_at o))) (sym h.counted)
        ∙ sym (ap (λ b. said (if b then way_told newly p k q [] (event_place e) e (given_at o) else [])) h.here)

    each-told : (k i : ℕ) (vs : Trees Origin Scalar) (ls : List Link) → AreLinksFed instance results fs e es values p newly given_at k i vs ls → EachTold k i vs ls
    each-told k i no_trees [] h = tt
    each-told k i no_trees (l ∷ ls) h = absurd h
    each-told k i (tree v vs) [] h = absurd h
    each-told k i (tree v vs) (l ∷ ls) h = (link-told k (i ∷ []) v l h.0, each-told k (suc i) vs ls h.1)

    -- THE PORT: what its matcher is told with the event is what it gains
    pub port-told : (whole_now : Bool) (k : ℕ) (v : Traced) (f : Feed) → IsPortFed instance results fs e es values p newly given_at whole_now k v f → map (placed []) (gained_items known after (walk p k v)) ≡ said (port_told newly e given_at p whole_now k f)
    port-told b zero v f h = whole-is_told v h.stands b h.now
    port-told b (suc k) v (link l) h = link-told (suc k) [] v l h
    port-told b (suc k) v (merge []) h = start-is_told v h (suc k) []
    port-told b (suc k) v (merge (l ∷ ls)) h =
        ap (λ x. map (placed []) (gained_items known after (walk p (suc k) x))) h.value ∙ merge-is_told k h.first h.rest l ls (each-told k 0 (trees_of (map (λ (x : Delivered). x.value) (h.first ∷ h.rest))) (l ∷ ls) h.links)
    port-told b (suc k) v (constant c) h = start-is_told v h (suc k) []
