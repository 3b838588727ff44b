-- Legal events are the known items that weren't told; a frame stays a frame with each of them.
use Rattle.std.specs.Prelude.{◌≡◌, refl, ℕ, suc, List, [], ◌∷◌, ◌++◌, Bool, true, false, cond, ◌||◌, Option, Some, None, find, flat_map, map, IsPermutation}
use Rattle.std.specs.Cmp.Lexicographic.{bytes_decides}
use Rattle.std.specs.List.{list_all}
use Rattle.std.proofs.Common.{sym, ap, ap₂, subst, ◌∙◌, inl, inr}
use Rattle.std.proofs.lemmas.Grind.{flat_map-append}
use Rattle.std.proofs.lemmas.List.Sorted.{IsPermutation-refl, IsPermutation-sym, IsPermutation-trans, IsPermutation-append}
use Rattle.std.proofs.lemmas.Bool.{true≢false}
use Rattle.std.proofs.lemmas.Bool.{or_right}
use Rattle.tv_lemmas.specs.Members.{Each, In}
use Rattle.tv_lemmas.proofs.Members.{of-flat}
use Rattle.tv_value.specs.Nested.{Place, at, leaf, list, no_trees, tree, note}
use Rattle.tv_value.specs.Orders.{same_name}
use Rattle.tv_value.specs.Values.{JobName, Name, Value}
use Rattle.tv_flow.specs.Flows.{Step}
use Rattle.tv_strategy.specs.Iterations.{Iteration, Iterations, job, passed}
use Rattle.tv_strategy.specs.Origins.{Known, Origin, at_start, by_job, by_level}
use Rattle.tv_model.specs.instance.Delivered.{Delivered}
use Rattle.tv_model.specs.instance.Ranks.{is_among, ranked}
use Rattle.tv_model.proofs.Instances.{ranked-fresh}
use Rattle.tv_model.proofs.Sound.{FreshNames}
use Rattle.tv_model.specs.Instances.{given_of}
use Rattle.tv_matching.specs.Items.{Bound, Item, Kind, Node, Stopped, all_known, closes, ends, item, within, kind_of, known_items, node_at, passes}
use Rattle.tv_matching.proofs.Nodes.{in-known, node-in, of-known}
use Rattle.tv_matching.proofs.LawLemmas.{nodes-stand}
use Rattle.tv_matching.proofs.Members.{in-permutes}
use Rattle.tv_matching.proofs.Permutes.{crosswise, flat-permutes}
use Rattle.tv_model.specs.instance.Events as events
use Rattle.tv_framing.proofs.Arriving.{extends-parts}
use Rattle.tv_framing.proofs.Gaining.{all-forms, new-none, none-if}
use Rattle.tv_framing.proofs.Ports.{known-or_gained}
use Rattle.tv_framing.specs.Frames.{with_event, FitsKind, IsFrame, job_places, known_jobs, new_jobs}
use Rattle.tv_framing.specs.Gaining.{gained_from, gained_items}
use Rattle.tv_framing.specs.Views.{AreGiven, InAll, View, steps_with}
use Rattle.tv_model.specs.instance.ByResults.{InstanceStep, Results, step_by, steps_by}
use Rattle.tv_model.specs.instance.Events.{Event, Events, Extends, event_place, event_step, fault_set, gave, has_result, is_known_by, known_by, took}
use Rattle.tv_model.specs.instance.Fitting.{FitsNode}
use Rattle.tv_model.specs.instance.Legality.{HasSources, IsFresh, IsLegalNext, node_of}
use Rattle.tv_model.specs.instance.Wholeness.{is_new}
use Rattle.tv_framing.proofs.instances.Events.{hits, one-more}
use Rattle.tv_framing.proofs.instances.Legal.{node-here}
use Rattle.tv_framing.specs.instances.InHistory.{Finds}

-- ---- known items and what stands

module _ (known : Origin → Bool) (t : Iteration) where
  pub known-stands : (x : Item Bound Stopped) → In x (known_items known t) → (u : Iteration) × (at t x.place ≡ Some u) × (x.kind ≡ kind_of u) × (list_all known (note u) ≡ true)
  known-stands x h =
      let r = of-known known t x h in
      let s = nodes-stand t r.0 r.1 in
      (s.0, ap (λ (y : Item Bound Stopped). at t y.place) (sym r.2) ∙ s.1, ap (λ (y : Item Bound Stopped). y.kind) (sym r.2) ∙ ap (λ (n : Node). n.item.kind) s.2, sym (all-forms known (note s.0)) ∙ ap (λ (n : Node). all_known known n.sources) (sym s.2) ∙ r.3)

  pub stands-known : (q : Place) (u : Iteration) → at t q ≡ Some u → list_all known (note u) ≡ true → In (item q (kind_of u)) (known_items known t)
  stands-known q u h k = in-known known t (node_at q u) (node-in q t u h) (all-forms known (note u) ∙ k)

fits-node : (e : Event) (u : Iteration) → FitsKind e (kind_of u) → FitsNode e (Some u)
fits-node (gave s q vs) (leaf r (job b)) h = tt
fits-node (gave s q vs) (leaf r (passed m d)) h = absurd h
fits-node (gave s q vs) (list r ts) h = absurd h
fits-node (events.closed s q n) (leaf r (job b)) h = absurd h
fits-node (events.closed s q n) (leaf r (passed m d)) h = absurd h
fits-node (events.closed s q n) (list r ts) h = h
fits-node (fault_set s q e) (leaf r (job b)) h = absurd h
fits-node (fault_set s q e) (leaf r (passed m d)) h = h
fits-node (fault_set s q e) (list r ts) h = absurd h
fits-node (took s q) (leaf r (job b)) h = tt
fits-node (took s q) (leaf r (passed m d)) h = absurd h
fits-node (took s q) (list r ts) h = absurd h

fits-kind : (e : Event) (u : Iteration) → FitsNode e (Some u) → FitsKind e (kind_of u)
fits-kind (gave s q vs) (leaf r (job b)) h = tt
fits-kind (gave s q vs) (leaf r (passed m d)) h = absurd h
fits-kind (gave s q vs) (list r ts) h = absurd h
fits-kind (events.closed s q n) (leaf r (job b)) h = absurd h
fits-kind (events.closed s q n) (leaf r (passed m d)) h = absurd h
fits-kind (events.closed s q n) (list r ts) h = h
fits-kind (fault_set s q e) (leaf r (job b)) h = absurd h
fits-kind (fault_set s q e) (leaf r (passed m d)) h = h
fits-kind (fault_set s q e) (list r ts) h = absurd h
fits-kind (took s q) (leaf r (job b)) h = tt
fits-kind (took s q) (leaf r (passed m d)) h = absurd h
fits-kind (took s q) (list r ts) h = absurd h

module _ (instance : JobName) (fs : List InstanceStep) (f : InstanceStep) (self : Finds fs f) (es : Events) (e : Event) (own : same_name f.step.step (event_step e) ≡ true) where
  -- LEGAL: a known item of the kind, of which nothing was told
  pub known-legal : (x : Item Bound Stopped) → In x (known_items (known_by instance es) f.step.iteration) → x.place ≡ event_place e → FitsKind e x.kind → IsFresh es e → IsLegalNext instance fs es e
  known-legal x h p k n =
      let s = known-stands (known_by instance es) f.step.iteration x h in
      let here : node_of fs e ≡ Some s.0 = node-here instance fs f self e own ∙ ap (at f.step.iteration) (sym p) ∙ s.1 in
      record { fits = subst (FitsNode e) (sym here) (fits-node e s.0 (subst (FitsKind e) s.2 k)); sources = subst (HasSources (known_by instance es)) (sym here) s.3; fresh = n }

  -- and nothing else is legal
  pub legal-known : IsLegalNext instance fs es e → (x : Item Bound Stopped) × In x (known_items (known_by instance es) f.step.iteration) × (x.place ≡ event_place e) × FitsKind e x.kind
  legal-known h = by (at f.step.iteration (event_place e)) refl (subst (FitsNode e) (node-here instance fs f self e own) h.fits) (subst (HasSources (known_by instance es)) (node-here instance fs f self e own) h.sources)
    where
      by : (o : Option Iteration) → at f.step.iteration (event_place e) ≡ o → FitsNode e o → HasSources (known_by instance es) o → (x : Item Bound Stopped) × In x (known_items (known_by instance es) f.step.iteration) × (x.place ≡ event_place e) × FitsKind e x.kind
      by None a k s = absurd s
      by (Some u) a k s = (item (event_place e) (kind_of u), stands-known (known_by instance es) f.step.iteration (event_place e) u a s, refl, fits-kind e u k)

-- ---- each step is found by its name

abbrev pub Other : Name → InstanceStep → Type 0
Other n g = same_name g.step.step n ≡ false

abbrev pub AreDistinct : List InstanceStep → Type 0
AreDistinct [] = Unit {0}
AreDistinct (f ∷ fs) = Each (Other f.step.step) fs × AreDistinct fs

finds-self : (f : InstanceStep) (fs : List InstanceStep) → Finds (f ∷ fs) f
finds-self f fs = by (same_name f.step.step f.step.step) ((bytes_decides f.step.step f.step.step).1 refl)
  where
    by : (b : Bool) → b ≡ true → cond b (Some f) (find (λ (g : InstanceStep). same_name f.step.step g.step.step) fs) ≡ Some f
    by true e = refl
    by false e = absurd (true≢false (sym e))

finds-later : (f g : InstanceStep) (fs : List InstanceStep) → same_name g.step.step f.step.step ≡ false → Finds fs g → Finds (f ∷ fs) g
finds-later f g fs n h = by (same_name g.step.step f.step.step) n
  where
    by : (b : Bool) → b ≡ false → cond b (Some f) (find (λ (k : InstanceStep). same_name g.step.step k.step.step) fs) ≡ Some g
    by false e = h
    by true e = absurd (true≢false e)

other-of : (n : Name) (fs : List InstanceStep) → Each (Other n) fs → (g : InstanceStep) → In g fs → Other n g
other-of n [] h g i = absurd i
other-of n (f ∷ fs) h g (inl p) = subst (Other n) (sym p) h.0
other-of n (f ∷ fs) h g (inr i) = other-of n fs h.1 g i

pub in-finds : (fs : List InstanceStep) → AreDistinct fs → (g : InstanceStep) → In g fs → Finds fs g
in-finds [] d g i = absurd i
in-finds (f ∷ fs) d g (inl p) = subst (Finds (f ∷ fs)) (sym p) (finds-self f fs)
in-finds (f ∷ fs) d g (inr i) = finds-later f g fs (other-of f.step.step fs d.0 g i) (in-finds fs d.1 g i)

-- ---- known jobs

module _ (known after : Origin → Bool) (more : (o : Origin) → known o ≡ true → after o ≡ true) where
  -- the jobs known after an event are those known before and the new ones
  pub jobs-come : (fs : List InstanceStep) → IsPermutation (known_jobs after fs) (known_jobs known fs ++ new_jobs known after fs)
  jobs-come [] = IsPermutation-refl []
  jobs-come (f ∷ fs) =
      IsPermutation-trans _ _ _
      (IsPermutation-append _ _ _ _ (subst (λ l. IsPermutation (flat_map (job_places f.step.step) (known_items after f.step.iteration)) l) (flat_map-append (job_places f.step.step) (known_items known f.step.iteration) (gained_items known after f.step.iteration)) (flat-permutes (job_places f.step.step) _ _ (known-or_gained known after more f.step.iteration))) (jobs-come fs))
      (crosswise (flat_map (job_places f.step.step) (known_items known f.step.iteration)) (flat_map (job_places f.step.step) (gained_items known after f.step.iteration)) (known_jobs known fs) (new_jobs known after fs))

-- a known job is a known end of its step
pub job-end : (known : Origin → Bool) (fs : List InstanceStep) (s : Name) (q : Place) → In (s, q) (known_jobs known fs) → (f : InstanceStep) × In f fs × (f.step.step ≡ s) × (x : Item Bound Stopped) × In x (known_items known f.step.iteration) × (x.place ≡ q) × FitsKind (gave s q []) x.kind
job-end known fs s q h =
    let r = of-flat (λ (f : InstanceStep). flat_map (job_places f.step.step) (known_items known f.step.iteration)) (s, q) fs h in
    let i = of-flat (job_places r.0.step.step) (s, q) (known_items known r.0.step.iteration) r.2 in
    let k = by r.0.step.step i.0 i.0.kind refl i.2 in (r.0, r.1, k.0, i.0, i.1, k.1, k.2)
  where
    by : (n : Name) (x : Item Bound Stopped) (k : Kind Bound Stopped) → x.kind ≡ k → In (s, q) (job_places n (item x.place k)) → (n ≡ s) × (x.place ≡ q) × FitsKind (gave s q []) x.kind
    by n x (ends b) e (inl p) = (ap (λ y. y.0) (sym p), ap (λ y. y.1) (sym p), subst (FitsKind (gave s q [])) (sym e) tt)
    by n x (ends b) e (inr z) = absurd z
    by n x (closes m) e z = absurd z
    by n x (passes f) e z = absurd z

-- ---- the steps of an instance have names of their own

abbrev map_names : List InstanceStep → List Name
map_names [] = []
map_names (f ∷ fs) = f.step.step ∷ map_names fs

pub swap : (a b : Name) → same_name a b ≡ false → same_name b a ≡ false
swap a b e = go (same_name b a) refl
  where
    go : (c : Bool) → same_name b a ≡ c → same_name b a ≡ false
    go false g = g
    go true g = absurd (true≢false (sym ((bytes_decides a b).1 (sym ((bytes_decides b a).0 g))) ∙ e))

among-other : (n : Name) (fs : List InstanceStep) → is_among (map_names fs) n ≡ false → Each (Other n) fs
among-other n [] h = tt
among-other n (f ∷ fs) h = by (same_name n f.step.step) refl h (λ g. among-other n fs g)
  where
    by : (b : Bool) → same_name n f.step.step ≡ b → (b || is_among (map_names fs) n) ≡ false → (is_among (map_names fs) n ≡ false → Each (Other n) fs) → Each (Other n) (f ∷ fs)
    by true e g rec = absurd (true≢false g)
    by false e g rec = (swap n f.step.step e, rec g)

steps-apart : (instance : JobName) (results : Results) (given : List (Name × Delivered)) (fs : List InstanceStep) → AreDistinct fs → (ss : List (Name × Step)) → FreshNames (map_names fs) ss → AreDistinct (steps_by instance results given fs ss)
steps-apart instance results given fs d [] h = d
steps-apart instance results given fs d ((n, s) ∷ ss) h =
    steps-apart instance results given (step_by instance results given fs (n, s) ∷ fs) (among-other n fs h.0, d) ss h.1

pub steps-distinct : (v : View) (instance : JobName) (results : Results) → AreDistinct (steps_with v instance results)
steps-distinct v instance results = steps-apart instance results (given_of v.flow v.inputs) [] tt (ranked v.flow.steps) (ranked-fresh v.flow.steps)

-- ---- a frame stays a frame

pub after-more : (instance : JobName) (e : Event) (es : Events) (o : Origin) → known_by instance es o ≡ true → known_by instance (e ∷ es) o ≡ true
after-more instance e es o h = one-more instance e es o ∙ or_right (hits instance e o) (known_by instance es o) h

-- THE STEP: an event that is legal whatever isn't told, with the jobs that it makes known
pub frame-comes : (v : View) → IsFrame v → (e : Event) (new : List (Name × Place)) → AreGiven (ranked v.flow.steps) (e ∷ v.events) → InAll (with_event v e new) (λ instance results fs. IsLegalNext instance fs v.events e) → InAll (with_event v e new) (λ instance results fs. IsPermutation new (new_jobs (known_by instance v.events) (known_by instance (e ∷ v.events)) fs)) → IsFrame (with_event v e new)
frame-comes v w e new given legal comes = record {
  given = given;
  legal = λ instance results d x. (legal instance results d x, w.legal instance results d (older results x));
  known = λ instance results d x. IsPermutation-trans _ _ _ (IsPermutation-append _ _ _ _ (w.known instance results d (older results x)) (comes instance results d x)) (IsPermutation-sym _ _ (jobs-come (known_by instance v.events) (known_by instance (e ∷ v.events)) (after-more instance e v.events) (steps_with v instance results)));
}
  where
    older : (results : Results) → Extends results (e ∷ v.events) → Extends results v.events
    older results x = (extends-parts results e v.events x).1

-- the result of a known job that has none is legal
pub result-legal : (v : View) → IsFrame v → (s : Name) (q : Place) (vs : List Value) → In (s, q) v.jobs → has_result v.events s q ≡ false → InAll v (λ instance results fs. IsLegalNext instance fs v.events (gave s q vs))
result-legal v w s q vs i n instance results d x =
    let fs = steps_with v instance results in
    let j = job-end (known_by instance v.events) fs s q (in-permutes (s, q) (known_jobs (known_by instance v.events) fs) v.jobs (IsPermutation-sym _ _ (w.known instance results d x)) i) in
    known-legal instance fs j.0 (in-finds fs (steps-distinct v instance results) j.0 j.1) v.events (gave s q vs) ((bytes_decides j.0.step.step s).1 j.2) j.3 j.4 j.5 (any-values j.3.kind j.6) n
  where
    any-values : (k : Kind Bound Stopped) → FitsKind (gave s q []) k → FitsKind (gave s q vs) k
    any-values (ends b) h = h
    any-values (closes m) h = h
    any-values (passes f) h = h

-- a job that is taken changes nothing that is known
module _ (known : Origin → Bool) where
  mutual
    same-gains : (t : Iteration) → gained_items known known t ≡ []
    same-gains (leaf s e) = none-if (is_new (all_known known s) (all_known known s)) _ (new-none (all_known known s) (all_known known s) refl)
    same-gains (list s ts) = ap₂ (λ a b. a ++ b) (none-if (is_new (all_known known s) (all_known known s)) _ (new-none (all_known known s) (all_known known s) refl)) (same-gains_from 0 ts)

    same-gains_from : (i : ℕ) (ts : Iterations) → gained_from known known i ts ≡ []
    same-gains_from i no_trees = refl
    same-gains_from i (tree t ts) = ap₂ (λ a b. map (within i) a ++ b) (same-gains t) (same-gains_from (suc i) ts)

  same-jobs : (fs : List InstanceStep) → new_jobs known known fs ≡ []
  same-jobs [] = refl
  same-jobs (f ∷ fs) = ap₂ (λ a b. flat_map (job_places f.step.step) a ++ b) (same-gains f.step.iteration) (same-jobs fs)

taken-same : (instance : JobName) (s : Name) (q : Place) (es : Events) → known_by instance (took s q ∷ es) ≡ known_by instance es
taken-same instance s q es = λ i o. by o.known i
  where
    by : (k : Known) → is_known_by instance (took s q ∷ es) k ≡ is_known_by instance es k
    by at_start = refl
    by (by_job n) = refl
    by (by_level n) = refl

pub taken-gains : (instance : JobName) (s : Name) (q : Place) (es : Events) (fs : List InstanceStep) → new_jobs (known_by instance es) (known_by instance (took s q ∷ es)) fs ≡ []
taken-gains instance s q es fs = ap (λ k. new_jobs (known_by instance es) k fs) (taken-same instance s q es) ∙ same-jobs (known_by instance es) fs
