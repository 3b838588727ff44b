-- The lineage of every meaning, by the records of its jobs.
use Rattle.std.specs.Prelude.{◌↔◌, ◌≡◌, refl, ℕ, zero, suc, List, [], ◌∷◌, ◌++◌, map, flat_map, filter, filter_map, Bool, false, cond, Option, Some, None, option_and_then, if◌then◌else◌}
use Rattle.std.specs.List.{list_any, cons_option}
use Rattle.std.specs.Option.{option_map_or}
use Rattle.std.proofs.Common.{sym, ap, subst, ◌∙◌, inl, inr}
use Rattle.std.proofs.lemmas.List.Elements.{filter-append}
use Rattle.tv_lemmas.specs.Members.{Each, In}
use Rattle.tv_lemmas.proofs.Members.{each_in, in-flat, in-map, in-right, of-map}
use Rattle.tv_value.specs.Nested.{leaf, list, Trees, no_trees, tree, Place, at, children, item_at, nodes, nodes_below, nodes_from}
use Rattle.tv_value.specs.Values.{Name, JobName, Scalar, Value}
use Rattle.tv_value.specs.Orders.{in_order, named, same_name}
use Rattle.tv_flow.specs.Flows.{Flow, Feed}
use Rattle.tv_gate.specs.Outcomes.{Giving}
use Rattle.tv_lineage.specs.Members.{HaveSame}
use Rattle.tv_lineage.specs.Touching.{Label, label_cmp, touches}
use Rattle.tv_lineage.specs.Lineages.{IsReached, Record, Leaf, backward, forward, leaf_label}
use Rattle.tv_lineage.proofs.LawLemmas.{backward-closure}
use Rattle.tv_strategy.specs.Origins.{Mark, given, made, Origin, Traced}
use Rattle.tv_strategy.specs.Sources.{AtNodes, AtAllNodes}
use Rattle.tv_strategy.proofs.Sources.{each-append}
use Rattle.tv_strategy.proofs.Each.{each-all}
use Rattle.tv_model.specs.instance.Ranks.{ranked}
use Rattle.tv_model.specs.Jobs.{Job}
use Rattle.tv_model.specs.Lineages as model
use Rattle.tv_model.specs.Made.{Meaning, Opened, Made, feed_value}
use Rattle.tv_model.specs.Meanings.{meaning, jobs_with_inside, instance_meaning, no_meaning, flow_meaning, nesting_limit}
use Rattle.tv_model.specs.Earlier.{job_list}
use Rattle.tv_model.specs.Instances.{given_of}
use Rattle.tv_model.proofs.Fed.{either, named_map_or, feed-has}
use Rattle.tv_model.specs.JobOrder.{Apart}
use Rattle.tv_model.proofs.Instances.{given-free, steps_of, ranked-fresh}
use Rattle.tv_model.proofs.Formed.{AreFormed, IsOwn, own-apart, steps-formed, none-formed}
use Rattle.tv_model.proofs.Kept.{InsideIs}
use Rattle.tv_model.proofs.Whole.{IsWhole, flow-whole, one-whole, AnyNumber}
use Rattle.tv_model.specs.records.Recorded.{leaf_of, leaves, marks_of, output_at, record_of, records}
use Rattle.tv_model.specs.records.Stated.{AreRecords, BackwardIsLineage, ForwardIsForward, LineageIsReached}
use Rattle.tv_model.proofs.records.Marked.{HasMark, IsSoFar, UseEarlier, AreMarked, used-have, steps-marked, given-marked}
use Rattle.tv_model.proofs.records.Followed.{AreOnly, IsOf, UseLater, only-of, recorded, backward-labels}

-- ---- lists

filter-none : {A : Type 0} (p : A → Bool) (xs : List A) → ((x : A) → In x xs → p x ≡ false) → filter p xs ≡ []
filter-none p [] f = refl
filter-none p (x ∷ xs) f = ap (λ b. cond b (x ∷ filter p xs) (filter p xs)) (f x (inl refl)) ∙ filter-none p xs (λ y h. f y (inr h))

filter_map-append : {A B : Type 0} (f : A → Option B) (xs ys : List A) → filter_map f (xs ++ ys) ≡ filter_map f xs ++ filter_map f ys
filter_map-append f [] ys = refl
filter_map-append {A = A} {B = B} f (x ∷ xs) ys = by (f x) (filter_map-append f xs ys)
  where
    by : (o : Option B) → filter_map f (xs ++ ys) ≡ filter_map f xs ++ filter_map f ys → cons_option o (filter_map f (xs ++ ys)) ≡ cons_option o (filter_map f xs) ++ filter_map f ys
    by None e = e
    by (Some z) e = ap (λ zs. z ∷ zs) e

-- ---- the jobs of the main flow

-- it is of the main flow, and those inside it aren't
abbrev IsMain : Opened → Type 0
IsMain o = (o.job.instance ≡ []) × ((j : Job) → In j (option_map_or (λ (m : Meaning). m.jobs) o.inside []) → model.is_outermost j.instance ≡ false)

abbrev outer : Job → Bool
outer j = model.is_outermost j.instance

main-first : (o : Opened) → IsMain o → filter outer (jobs_with_inside o) ≡ o.job ∷ []
main-first o h =
    let inner = option_map_or (λ (m : Meaning). m.jobs) o.inside [] in
    ap (λ n. cond (model.is_outermost n) (o.job ∷ filter outer inner) (filter outer inner)) h.0
    ∙ ap (λ (js : List Job). o.job ∷ js) (filter-none outer inner h.1)

main-all : (os : List Opened) → ((o : Opened) → In o os → IsMain o) → filter outer (flat_map jobs_with_inside os) ≡ map (λ o. o.job) os
main-all [] f = refl
main-all (o ∷ os) f =
    filter-append outer (jobs_with_inside o) (flat_map jobs_with_inside os)
    ∙ ap (λ js. js ++ filter outer (flat_map jobs_with_inside os)) (main-first o (f o (inl refl)))
    ∙ ap (λ (js : List Job). o.job ∷ js) (main-all os (λ p h. f p (inr h)))

-- ---- what they use

abbrev jobs_so_far : List Made → List Job
jobs_so_far ms = map (λ o. o.job) (job_list ms)

so_far-of : (ms : List Made) (os : List Opened) (m : Mark) → IsSoFar ms m → IsOf (map (λ o. o.job) (os ++ job_list ms)) m
so_far-of ms os (given x q) h = tt
so_far-of ms os (made n) h = (h.0.job, in-map (λ (o : Opened). o.job) h.0 (os ++ job_list ms) (in-right h.0 os (job_list ms) h.1), h.2)

use-step : (ms : List Made) (os : List Opened) → ((o : Opened) → In o os → Each (AtNodes (HasMark (IsSoFar ms))) o.job.inputs) → UseLater (jobs_so_far ms) → UseLater (map (λ o. o.job) (os ++ job_list ms))
use-step ms [] f u = u
use-step ms (o ∷ os) f u = (λ m h. so_far-of ms os m (each_in (IsSoFar ms) (flat_map model.used o.job.inputs) (all o.job.inputs (f o (inl refl))) m h), use-step ms os (λ p h. f p (inr h)) u)
  where
    all : (vs : List Traced) → Each (AtNodes (HasMark (IsSoFar ms))) vs → Each (IsSoFar ms) (flat_map model.used vs)
    all [] h = tt
    all (v ∷ vs) h = each-append (IsSoFar ms) (model.used v) (flat_map model.used vs) (used-have (IsSoFar ms) v h.0) (all vs h.1)

use-steps : (ms : List Made) → UseEarlier ms → UseLater (jobs_so_far ms)
use-steps [] u = tt
use-steps (m ∷ ms) u = use-step ms m.jobs u.0 (use-steps ms u.1)

apart-jobs : (os : List Opened) → Apart (λ (o : Opened). o.job.name) os → Apart (λ (j : Job). j.name) (map (λ o. o.job) os)
apart-jobs [] a = tt
apart-jobs (o ∷ os) a = (λ j h e. let r = of-map (λ (o : Opened). o.job) j os h in a.0 r.0 r.1 (sym (ap (λ (j : Job). j.name) r.2) ∙ e), apart-jobs os a.1)

-- ---- what stands in outputs

module _ (P : Origin → Type 0) where
  abbrev Stands : Option Traced → Type 0
  Stands None = Unit {0}
  Stands (Some v) = AtNodes P v

  item-has : (ts : Trees Origin Scalar) (i : ℕ) → AtAllNodes P ts → Stands (item_at ts i)
  item-has no_trees i h = tt
  item-has (tree t ts) zero h = h.0
  item-has (tree t ts) (suc i) h = item-has ts i h.1

  children-have : (t : Traced) → AtNodes P t → AtAllNodes P (children t)
  children-have (leaf o a) h = tt
  children-have (list o ts) h = h.1

  at-has : (q : Place) (t : Traced) → AtNodes P t → Stands (at t q)
  at-has [] t h = h
  at-has (i ∷ q) t h = by (item_at (children t) i) (item-has (children t) i (children-have t h)) (λ u k. at-has q u k)
    where
      by : (o : Option Traced) → Stands o → ((u : Traced) → AtNodes P u → Stands (at u q)) → Stands (option_and_then (λ u. at u q) o)
      by None k rec = tt
      by (Some u) k rec = rec u k

  output-has : (p : Name) (q : Place) (os : List (Name × Traced)) → Each (λ o. AtNodes P o.1) os → Stands (option_and_then (λ v. at v q) (named p os))
  output-has p q [] h = tt
  output-has p q (o ∷ os) h = either (λ w. Stands (option_and_then (λ v. at v q) w)) (same_name p o.0) (Some o.1) (named p os) (at-has q o.1 h.0) (output-has p q os h.1)

  mutual
    parts-have : (t : Traced) (q : Place) → AtNodes P t → Each (λ x. AtNodes P x.1) (nodes_below q t)
    parts-have (leaf o a) q h = (h, tt)
    parts-have (list o ts) q h = (h, parts_from-have ts q 0 h.1)

    parts_from-have : (ts : Trees Origin Scalar) (q : Place) (i : ℕ) → AtAllNodes P ts → Each (λ x. AtNodes P x.1) (nodes_from q i ts)
    parts_from-have no_trees q i h = tt
    parts_from-have (tree t ts) q i h = each-append (λ x. AtNodes P x.1) (nodes_below (q ++ i ∷ []) t) (nodes_from q (suc i) ts) (parts-have t (q ++ i ∷ []) h.0) (parts_from-have ts q (suc i) h.1)

-- ---- a meaning of which every output element's marks are known

module _ (m : Meaning) (P : Origin → Type 0) (have : Each (λ o. AtNodes P o.1) m.outputs) (rs : List Record) (same : (v : Traced) → AtNodes P v → backward rs (marks_of v) ≡ model.lineage m v) where
  backward-is_lineage : (p : Name) (q : Place) (v : Traced) → output_at m p q ≡ Some v → backward rs (marks_of v) ≡ model.lineage m v
  backward-is_lineage p q v e = same v (subst (Stands P) e (output-has P p q m.outputs have))

  module _ (x : Name) (q : Place) where
    one-leaf : (p : Name) (r : Place) (v : Traced) → AtNodes P v → (rest : List Label) → (out : Option Leaf) → leaf_of p (r, v) ≡ out → (others : List Leaf) → filter_map (leaf_label rs x q) others ≡ rest → filter_map (leaf_label rs x q) (cons_option out others) ≡ cons_option (model.leaf_label m x q p (r, v)) rest
    one-leaf p r (leaf o a) h rest out e others f =
        ap (λ w. filter_map (leaf_label rs x q) (cons_option w others)) (sym e)
        ∙ ap (λ ls. cons_option (if list_any (touches x q) ls then Some (p, r) else None) (filter_map (leaf_label rs x q) others)) (same (leaf o a) h)
        ∙ ap (λ zs. cons_option (model.leaf_label m x q p (r, leaf o a)) zs) f
    one-leaf p r (list o ts) h rest out e others f = ap (λ w. filter_map (leaf_label rs x q) (cons_option w others)) (sym e) ∙ f

    port-leaves : (p : Name) (xs : List (Place × Traced)) → Each (λ y. AtNodes P y.1) xs → filter_map (leaf_label rs x q) (filter_map (leaf_of p) xs) ≡ filter_map (model.leaf_label m x q p) xs
    port-leaves p [] h = refl
    port-leaves p (y ∷ xs) h = one-leaf p y.0 y.1 h.0 (filter_map (model.leaf_label m x q p) xs) (leaf_of p y) refl (filter_map (leaf_of p) xs) (port-leaves p xs h.1)

    all-leaves : (os : List (Name × Traced)) → Each (λ o. AtNodes P o.1) os → filter_map (leaf_label rs x q) (flat_map (λ o. filter_map (leaf_of o.0) (nodes o.1)) os) ≡ flat_map (λ o. filter_map (model.leaf_label m x q o.0) (nodes o.1)) os
    all-leaves [] h = refl
    all-leaves (o ∷ os) h =
        filter_map-append (leaf_label rs x q) (filter_map (leaf_of o.0) (nodes o.1)) (flat_map (λ o. filter_map (leaf_of o.0) (nodes o.1)) os)
        ∙ ap (λ ls. ls ++ filter_map (leaf_label rs x q) (flat_map (λ o. filter_map (leaf_of o.0) (nodes o.1)) os)) (port-leaves o.0 (nodes o.1) (parts-have P o.1 [] h.0))
        ∙ ap (λ ls. filter_map (model.leaf_label m x q o.0) (nodes o.1) ++ ls) (all-leaves os h.1)

    forward-is_forward : forward rs (leaves m) x q ≡ model.forward m x q
    forward-is_forward = all-leaves m.outputs have

-- ---- every meaning

abbrev IsFollowed : Meaning → Type 0
IsFollowed m =
    (rs : List Record) → AreRecords m rs → ((p : Name) (q : Place) (v : Traced) → output_at m p q ≡ Some v → backward rs (marks_of v) ≡ model.lineage m v) × ((x : Name) (q : Place) → forward rs (leaves m) x q ≡ model.forward m x q)

nothing-followed : IsFollowed no_meaning
nothing-followed rs h = (λ p q v e. absurd (subst Holds e tt), λ x q. refl)
  where
    Holds : Option Traced → Type 0
    Holds None = Unit {0}
    Holds (Some v) = ⊥

module _ (gives : Giving) (inside : Name → JobName → List (Name × Value) → Meaning) (is : (f : Name) (n : JobName) (vs : List (Name × Value)) → IsWhole gives AnyNumber (inside f n vs) n) (flow : Flow) (vs : List (Name × Value)) where
  abbrev ms : List Made
  ms = steps_of gives inside [] flow vs

  abbrev m : Meaning
  m = instance_meaning gives inside [] flow vs

  formed : AreFormed gives inside [] (IsWhole gives AnyNumber) is AnyNumber (given_of flow vs) (given-free flow vs) ms
  formed =
      steps-formed gives inside [] (IsWhole gives AnyNumber) is AnyNumber (given_of flow vs) (given-free flow vs) [] (none-formed gives inside [] (IsWhole gives AnyNumber) is AnyNumber (given_of flow vs) (given-free flow vs)) (ranked flow.steps) (ranked-fresh flow.steps)
      (each-all (λ s. AnyNumber s.1.jobs) (λ s. tt) (ranked flow.steps))

  whole : IsWhole gives AnyNumber m []
  whole = one-whole gives AnyNumber inside is [] flow vs (each-all (λ s. AnyNumber s.1.jobs) (λ s. tt) flow.steps)

  marked : AreMarked ms × UseEarlier ms
  marked = steps-marked gives inside [] (given_of flow vs) (given-marked flow vs) [] tt tt (ranked flow.steps)

  is-main : (o : Opened) → In o (job_list ms) → IsMain o
  is-main o h = (own.in_instance, λ j i. by o.inside refl j i own.inside_it)
    where
      own : IsOwn gives inside [] (IsWhole gives AnyNumber) is AnyNumber (given_of flow vs) (given-free flow vs) ms o
      own = formed.jobs o h

      inner-name : (n : JobName) (k : Name × Place) (r i : JobName) → n ≡ k ∷ [] → i ≡ n ++ r → model.is_outermost i ≡ false
      inner-name n k r i e f = ap model.is_outermost (f ∙ ap (λ z. z ++ r) e)

      by : (p : Option Meaning) → o.inside ≡ p → (j : Job) → In j (option_map_or (λ (x : Meaning). x.jobs) o.inside []) → InsideIs (IsWhole gives AnyNumber) o.job o.inside → model.is_outermost j.instance ≡ false
      by None e j i k = absurd (subst (λ p. In j (option_map_or (λ (x : Meaning). x.jobs) p [])) e i)
      by (Some n) e j i k =
          let w = subst (λ p. InsideIs (IsWhole gives AnyNumber) o.job p) e k in
          let b = (w.0.jobs j (subst (λ p. In j (option_map_or (λ (x : Meaning). x.jobs) p [])) e i)).below in
          inner-name o.job.name (own.step, own.place) b.0 j.instance own.named b.1

  main-is : model.main_jobs m ≡ jobs_so_far ms
  main-is = main-all (job_list ms) is-main

  abbrev P : Origin → Type 0
  P = HasMark (IsSoFar ms)

  outputs-have : Each (λ o. AtNodes P o.1) m.outputs
  outputs-have = all flow.outputs
    where
      all : (os : List (Name × Feed)) → Each (λ (o : Name × Traced). AtNodes P o.1) (map (λ o. (o.0, (feed_value (given_of flow vs) ms o.1).value)) os)
      all [] = tt
      all (o ∷ os) = (feed-has P tt (given_of flow vs) (given-marked flow vs (IsSoFar ms) (λ x q. tt)) ms marked.0 o.1, all os)

  main-apart : Apart (λ (j : Job). j.name) (jobs_so_far ms)
  main-apart = apart-jobs (job_list ms) (own-apart gives inside [] (IsWhole gives AnyNumber) is AnyNumber (given_of flow vs) (given-free flow vs) ms formed)

  own-job : (j : Job) → In j (jobs_so_far ms) → In j m.jobs
  own-job j h =
      let r = of-map (λ (o : Opened). o.job) j (job_list ms) h in
      in-flat jobs_with_inside r.0 j (job_list ms) r.1 (inl r.2)

  used-of : (v : Traced) → AtNodes P v → (k : Mark) → In k (model.used v) → IsOf (jobs_so_far ms) k
  used-of v h k i = so_far-of ms [] k (each_in (IsSoFar ms) (model.used v) (used-have (IsSoFar ms) v h) k i)

  -- by any records that are those of the main flow's jobs and of no other jobs of their names
  by-records : (rs : List Record) → AreOnly rs (jobs_so_far ms) → ((r : Record) → In r (recorded (jobs_so_far ms)) → In r rs) → (v : Traced) → AtNodes P v → backward rs (marks_of v) ≡ model.lineage m v
  by-records rs o w v h =
      backward-labels rs (jobs_so_far ms) main-apart (use-steps ms marked.1) o w v (used-of v h)
      ∙ ap (λ js. in_order label_cmp (flat_map (model.labels js) (model.used v))) (sym main-is)

  same-lineage : (rs : List Record) → AreRecords m rs → (v : Traced) → AtNodes P v → backward rs (marks_of v) ≡ model.lineage m v
  same-lineage rs (inl f) v h =
      by-records rs (λ r i. only-of m.jobs (jobs_so_far ms) whole.jobs_apart own-job r ((f r).0 i)) (λ r i. (f r).1 (let j = of-map record_of r (jobs_so_far ms) i in subst (λ s. In s (records m)) (sym j.2) (in-map record_of j.0 m.jobs (own-job j.0 j.1)))) v h
  same-lineage rs (inr f) v h =
      let g = subst (λ js. HaveSame rs (map record_of js)) main-is f in
      by-records rs (λ r i. only-of (jobs_so_far ms) (jobs_so_far ms) main-apart (λ j k. k) r ((g r).0 i)) (λ r i. (g r).1 i) v h

  instance-followed : IsFollowed m
  instance-followed rs f = (backward-is_lineage m P outputs-have rs (same-lineage rs f), forward-is_forward m P outputs-have rs (same-lineage rs f))

flow-followed : (gives : Giving) (flows : List (Name × Flow)) (depth : ℕ) (f : Name) (vs : List (Name × Value)) → IsFollowed (flow_meaning gives flows depth f [] vs)
flow-followed gives flows zero f vs = nothing-followed
flow-followed gives flows (suc depth) f vs =
    named_map_or (λ flow. Unit {0}) IsFollowed (λ flow. instance_meaning gives (flow_meaning gives flows depth) [] flow vs) (λ flow _. instance-followed gives (flow_meaning gives flows depth) (λ g n us. flow-whole gives AnyNumber flows (each-all _ (λ g. each-all (λ s. AnyNumber s.1.jobs) (λ s. tt) g.1.steps) flows) depth g n us) flow vs) f flows no_meaning (each-all (λ g. Unit {0}) (λ g. tt) flows) nothing-followed

pub meaning-backward : BackwardIsLineage
meaning-backward gives d rs f = (flow-followed gives d.flows nesting_limit d.main d.inputs rs f).0

pub meaning-forward : ForwardIsForward
meaning-forward gives d rs f = (flow-followed gives d.flows nesting_limit d.main d.inputs rs f).1

-- the lineage is the closure, since `backward` is
pub meaning-reached : LineageIsReached
meaning-reached gives d p q v there l =
    subst (λ ls. In l ls ↔ IsReached rs (marks_of v) l) found ((backward-closure rs (marks_of v)).0 l)
  where
    rs : List Record
    rs = records (meaning gives d)

    found : backward rs (marks_of v) ≡ model.lineage (meaning gives d) v
    found = meaning-backward gives d rs (inl (λ r. (λ h. h, λ h. h))) p q v there
