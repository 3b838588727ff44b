-- The jobs of a meaning stand in job order.
use Rattle.std.specs.Prelude.{◌≡◌, refl, ℕ, zero, suc, ◌+◌, ◌<◌, ◌≤◌, ◌⊎◌, List, [], ◌∷◌, ◌++◌, length, Bool, true, false, ◌&&◌, ◌==◌, if◌then◌else◌, nat_lt, Option, Some, None, is_some, option_and_then, flat_map}
use Rattle.std.specs.Option.{option_map_or}
use Rattle.std.specs.Cmp.Lexicographic.{bytes_decides}
use Rattle.std.proofs.Common.{arith, sym, ap, subst, ◌∙◌, inl, inr, append_assoc, append-nil, eq-eqb, ne_eqb, length-append}
use Rattle.std.proofs.lemmas.Bool.{lt-ltb, false_from_ne_true, cond-true, cond-false}
use Rattle.tv_lemmas.specs.Members.{Each, In}
use Rattle.tv_lemmas.proofs.Members.{each_in, in-append, in_each, of-flat}
use Rattle.tv_lemmas.proofs.Cases.{on_either}
use Rattle.tv_value.specs.Activities.{Activity, nested, service}
use Rattle.tv_value.specs.Nested.{leaf, list, no_trees, tree, Place, nodes, nodes_below, nodes_from}
use Rattle.tv_value.specs.Orders.{named, same_name}
use Rattle.tv_value.specs.Values.{JobName, Name, Value}
use Rattle.tv_flow.specs.Flows.{Document, Flow, Step}
use Rattle.tv_strategy.specs.Iterations.{Iteration, Iterations, job, passed}
use Rattle.tv_strategy.specs.Origins.{Origin}
use Rattle.tv_gate.specs.Outcomes.{Giving}
use Rattle.tv_model.specs.instance.Delivered.{Delivered}
use Rattle.tv_model.specs.instance.Ranks.{is_among, ranked}
use Rattle.tv_model.specs.instance.Steps.{spot}
use Rattle.tv_model.specs.Instances.{node_jobs, step_made, steps_made, zip_names}
use Rattle.tv_model.specs.Jobs.{Job}
use Rattle.tv_model.specs.Made.{Made, Meaning, Opened, endings}
use Rattle.tv_model.specs.Meanings.{flow_meaning, instance_meaning, jobs_with_inside, meaning, nesting_limit, no_meaning}
use Rattle.tv_model.proofs.Tests.{true≠false, both_true, or_right}
use Rattle.tv_model.proofs.Turns.{or_left}
use Rattle.tv_model.proofs.Sound.{FreshNames}
use Rattle.tv_model.proofs.Instances.{given_of, ranked-fresh, steps_of}
use Rattle.tv_strategy.proofs.Sources.{each-append}
use Rattle.tv_strategy.proofs.Each.{each-weaken}
use Rattle.tv_model.specs.Agreeing.{ActivitiesNest, NestsWithin, StepsNest}
use Rattle.tv_model.proofs.Whole.{rank-each}
use Rattle.tv_model.proofs.Opening as opening
use Rattle.tv_model.specs.Opening.{first_nested}
use Rattle.tv_model.specs.JobOrder.{AllPairs, job_before, limit_at, limit_in, names_before, step_flow, place_before, rank_in, same_spot, spot_before}

-- ---- pairs

pub pairs-append : {A : Type 0} (R : A → A → Type 0) (xs ys : List A) → AllPairs R xs → AllPairs R ys → ((x y : A) → In x xs → In y ys → R x y) → AllPairs R (xs ++ ys)
pairs-append R [] ys a b f = b
pairs-append R (x ∷ xs) ys a b f =
    (each-append (R x) xs ys a.0 (in_each (R x) ys (λ y h. f x y (inl refl) h)), pairs-append R xs ys a.1 b (λ z y h k. f z y (inr h) k))

pub pairs-flat : {A B : Type 0} (S : A → A → Type 0) (R : B → B → Type 0) (f : A → List B) (xs : List A) → AllPairs S xs → ((x : A) → In x xs → AllPairs R (f x)) → ((x z : A) → In x xs → In z xs → S x z → (y w : B) → In y (f x) → In w (f z) → R y w) → AllPairs R (flat_map f xs)
pairs-flat S R f [] p own cross = tt
pairs-flat S R f (x ∷ xs) p own cross =
    pairs-append R (f x) (flat_map f xs) (own x (inl refl)) (pairs-flat S R f xs p.1 (λ z h. own z (inr h)) (λ z u h k. cross z u (inr h) (inr k)))
    (λ y w h k. let r = of-flat f w xs k in cross x r.0 (inl refl) (inr r.1) (each_in (S x) xs p.0 r.0 r.1) y w h r.2)

pub pairs-map : {A : Type 0} (R S : A → A → Type 0) → ((x y : A) → R x y → S x y) → (xs : List A) → AllPairs R xs → AllPairs S xs
pairs-map R S f [] p = tt
pairs-map R S f (x ∷ xs) p = (each-weaken (R x) (S x) (f x) xs p.0, pairs-map R S f xs p.1)

-- ---- places

place-same : (q r s : Place) → place_before (q ++ r) (q ++ s) ≡ place_before r s
place-same [] r s = refl
place-same (i ∷ q) r s = cond-true (i == i) (place_before (q ++ r) (q ++ s)) (nat_lt i i) (eq-eqb i i refl) ∙ place-same q r s

place-longer : (q : Place) (i : ℕ) (r : Place) → place_before q (q ++ i ∷ r) ≡ true
place-longer q i r = subst (λ p. place_before p (q ++ i ∷ r) ≡ true) (append-nil q) (place-same q [] (i ∷ r))

place-less : (q : Place) (i j : ℕ) (r s : Place) → i < j → place_before (q ++ i ∷ r) (q ++ j ∷ s) ≡ true
place-less q i j r s h = place-same q (i ∷ r) (j ∷ s) ∙ cond-false (i == j) (place_before r s) (nat_lt i j) (ne_eqb i j (λ e. (omega (arith, h, e)))) ∙ lt-ltb i j h

abbrev pub Node : Type 0
Node = Place × Iteration

abbrev pub NodeBefore : Node → Node → Type 0
NodeBefore x y = place_before x.0 y.0 ≡ true

from-either : (t : Iteration) (ts : Iterations) (q : Place) (i : ℕ) (x : Node) → In x (nodes_below (q ++ i ∷ []) t) ⊎ In x (nodes_from q (suc i) ts) → (In x (nodes_below (q ++ i ∷ []) t) → (r : Place) × (x.0 ≡ (q ++ i ∷ []) ++ r)) → (In x (nodes_from q (suc i) ts) → (j : ℕ) × (r : Place) × (suc i ≤ j) × (x.0 ≡ q ++ j ∷ r)) → (j : ℕ) × (r : Place) × (i ≤ j) × (x.0 ≡ q ++ j ∷ r)
from-either t ts q i x (inl k) f g = let r = f k in (i, r.0, (omega arith), r.1 ∙ append_assoc q (i ∷ []) r.0)
from-either t ts q i x (inr k) f g = let r = g k in (r.0, r.1, (omega (arith, r.2)), r.3)

mutual
  below-place : (t : Iteration) (q : Place) (x : Node) → In x (nodes_below q t) → (r : Place) × (x.0 ≡ q ++ r)
  below-place (leaf s e) q x (inl p) = ([], ap (λ y. y.0) p ∙ sym (append-nil q))
  below-place (leaf s e) q x (inr h) = absurd h
  below-place (list s ts) q x (inl p) = ([], ap (λ y. y.0) p ∙ sym (append-nil q))
  below-place (list s ts) q x (inr h) = let r = from-place ts q 0 x h in (r.0 ∷ r.1, r.3)

  from-place : (ts : Iterations) (q : Place) (i : ℕ) (x : Node) → In x (nodes_from q i ts) → (j : ℕ) × (r : Place) × (i ≤ j) × (x.0 ≡ q ++ j ∷ r)
  from-place no_trees q i x h = absurd h
  from-place (tree t ts) q i x h = from-either t ts q i x (in-append x (nodes_below (q ++ i ∷ []) t) (nodes_from q (suc i) ts) h) (λ k. below-place t (q ++ i ∷ []) x k) (λ k. from-place ts q (suc i) x k)

nodes-cross : (t : Iteration) (ts : Iterations) (q : Place) (i : ℕ) (x y : Node) → (r : Place) × (x.0 ≡ (q ++ i ∷ []) ++ r) → (j : ℕ) × (r : Place) × (suc i ≤ j) × (y.0 ≡ q ++ j ∷ r) → NodeBefore x y
nodes-cross t ts q i x y a b =
    subst (λ p. place_before p y.0 ≡ true) (sym (a.1 ∙ append_assoc q (i ∷ []) a.0)) (subst (λ p. place_before (q ++ i ∷ a.0) p ≡ true) (sym b.3) (place-less q i b.0 a.0 b.1 b.2))

mutual
  below-ordered : (t : Iteration) (q : Place) → AllPairs NodeBefore (nodes_below q t)
  below-ordered (leaf s e) q = (tt, tt)
  below-ordered (list s ts) q =
      (in_each (NodeBefore (q, list s ts)) (nodes_from q 0 ts) (λ y h. let r = from-place ts q 0 y h in subst (λ p. place_before q p ≡ true) (sym r.3) (place-longer q r.0 r.1)), from-ordered ts q 0)

  from-ordered : (ts : Iterations) (q : Place) (i : ℕ) → AllPairs NodeBefore (nodes_from q i ts)
  from-ordered no_trees q i = tt
  from-ordered (tree t ts) q i =
      pairs-append NodeBefore (nodes_below (q ++ i ∷ []) t) (nodes_from q (suc i) ts) (below-ordered t (q ++ i ∷ [])) (from-ordered ts q (suc i)) (λ x y h k. nodes-cross t ts q i x y (below-place t (q ++ i ∷ []) x h) (from-place ts q (suc i) y k))

pub nodes-ordered : (t : Iteration) → AllPairs NodeBefore (nodes t)
nodes-ordered t = below-ordered t []

-- ---- one job

-- the name within the instance I of a job inside a job of it, or of one of its own
module _ (gives : Giving) (inside : Name → JobName → List (Name × Value) → Meaning) (I : JobName) (P : Name → Meaning → JobName → Type 0) (inside_is : (f : Name) (n : JobName) (vs : List (Name × Value)) → P f (inside f n vs) n) where
  abbrev pub InsideAt : Step → Job → Option Meaning → Type 0
  InsideAt s j None = is_some j.opens ≡ false
  InsideAt s j (Some m) =
      (g : Name) × (first_nested s.activities ≡ Some g) × P g m j.name × (is_some j.opens ≡ true) × (j.opens ≡ Some g) × (m ≡ inside g j.name (zip_names s.inputs j.inputs))

  pub record IsAt (n : Name) (s : Step) (q : Place) (o : Opened) : Type 0 where
    pub name : o.job.name ≡ spot I n q
    pub in_instance : o.job.instance ≡ I
    pub step : o.job.step ≡ n
    pub limit : o.job.limit ≡ s.jobs
    pub inside_it : InsideAt s o.job o.inside

  -- a job at a place, with what P says of the meaning inside
  with-inside : (n : Name) (s : Step) (q : Place) (o : Opened) → opening.IsAt gives inside I n s q o → IsAt n s q o
  with-inside n s q o w = record { name = w.name; in_instance = w.in_instance; step = w.step; limit = w.limit; inside_it = by o.inside w.inside_it }
    where
      by : (p : Option Meaning) → opening.InsideAt gives inside I s o.job p → InsideAt s o.job p
      by None h = ap is_some h
      by (Some m) h = (h.0, h.1, subst (λ x. P h.0 x o.job.name) (sym h.3) (inside_is h.0 o.job.name (zip_names s.inputs o.job.inputs)), ap is_some h.2, h.2, h.3)

  node_job-is : (n : Name) (s : Step) (before : List Origin) (x : Node) (o : Opened) → In o (node_jobs gives inside I n s before x) → IsAt n s x.0 o
  node_job-is n s before x o h = with-inside n s x.0 o (opening.node_job-is gives inside I n s before x o h)

  -- ---- the steps of an instance

  module _ (all : List (Name × Step)) where
    -- a job of a step of these
    abbrev pub IsOf : Opened → Type 0
    IsOf o = (n : Name) × (s : Step) × (q : Place) × (named n all ≡ Some s) × IsAt n s q o

    -- two jobs of the instance, the first before the second
    abbrev pub OwnBefore : Opened → Opened → Type 0
    OwnBefore o u = (x : Name × Place) × (y : Name × Place) × (o.job.name ≡ I ++ x ∷ []) × (u.job.name ≡ I ++ y ∷ []) × (same_spot x y ≡ false) × (spot_before all x y ≡ true)

    abbrev pub StepIs : Made → Type 0
    StepIs m = (s : Step) × (named m.step.step all ≡ Some s) × Each (λ o. (q : Place) × IsAt m.step.step s q o) m.jobs × AllPairs OwnBefore m.jobs

    abbrev pub AreMade : List Made → Type 0
    AreMade [] = Unit {0}
    AreMade (m ∷ ms) = StepIs m × (rank_in all m.step.step ≡ length ms) × AreMade ms

    before-not_same : (q r : Place) → place_before q r ≡ true → same_name q r ≡ false
    before-not_same q r h = false_from_ne_true (same_name q r) (λ e. irreflexive r (subst (λ p. place_before p r ≡ true) ((bytes_decides q r).0 e) h))
      where
        irreflexive : (p : Place) → place_before p p ≡ true → ⊥
        irreflexive [] e = true≠false (sym e)
        irreflexive (i ∷ p) e = irreflexive p (sym (cond-true (i == i) (place_before p p) (nat_lt i i) (eq-eqb i i refl)) ∙ e)

    same-name : (n : Name) → same_name n n ≡ true
    same-name n = (bytes_decides n n).1 refl

    -- in one step the lesser place stands first
    step-pairs : (n : Name) (s : Step) (before : List Origin) (xs : List Node) → AllPairs NodeBefore xs → AllPairs OwnBefore (flat_map (node_jobs gives inside I n s before) xs)
    step-pairs n s before xs p = pairs-flat NodeBefore OwnBefore (node_jobs gives inside I n s before) xs p (λ x h. one x) (λ x z h k b o u i j. cross x z b o u (node_job-is n s before x o i) (node_job-is n s before z u j))
      where
        one : (x : Node) → AllPairs OwnBefore (node_jobs gives inside I n s before x)
        one (q, leaf r (job b)) = (tt, tt)
        one (q, leaf r (passed m e)) = tt
        one (q, list r ts) = tt

        cross : (x z : Node) → NodeBefore x z → (o u : Opened) → IsAt n s x.0 o → IsAt n s z.0 u → OwnBefore o u
        cross x z b o u f g = ((n, x.0), (n, z.0), f.name, g.name, both-apart, cond-true (same_name n n) (place_before x.0 z.0) (nat_lt (rank_in all n) (rank_in all n)) (same-name n) ∙ b)
          where
            both-apart : same_spot (n, x.0) (n, z.0) ≡ false
            both-apart = ap (λ c. c && same_name x.0 z.0) (same-name n) ∙ before-not_same x.0 z.0 b

    step-each : (n : Name) (s : Step) (before : List Origin) (xs : List Node) → Each (λ o. (q : Place) × IsAt n s q o) (flat_map (node_jobs gives inside I n s before) xs)
    step-each n s before xs = in_each (λ o. (q : Place) × IsAt n s q o) (flat_map (node_jobs gives inside I n s before) xs) (λ o h. let r = of-flat (node_jobs gives inside I n s before) o xs h in (r.0.0, node_job-is n s before r.0 o r.2))

    rank-below : (ms : List Made) → AreMade ms → (m : Made) → In m ms → rank_in all m.step.step < length ms
    rank-below [] a m h = absurd h
    rank-below (k ∷ ms) a m (inl p) = omega (arith, ap (λ (x : Made). rank_in all x.step.step) p ∙ a.1)
    rank-below (k ∷ ms) a m (inr h) = omega (arith, rank-below ms a.2 m h)

    steps-pairs : (ms : List Made) → AreMade ms → AllPairs OwnBefore (flat_map (λ m. m.jobs) ms)
    steps-pairs [] a = tt
    steps-pairs (m ∷ ms) a = pairs-append OwnBefore m.jobs (flat_map (λ (k : Made). k.jobs) ms) a.0.3 (steps-pairs ms a.2) cross
      where
        each-of : (ks : List Made) → AreMade ks → (k : Made) → In k ks → StepIs k
        each-of [] b k h = absurd h
        each-of (x ∷ ks) b k (inl p) = subst (λ (z : Made). StepIs z) (sym p) b.0
        each-of (x ∷ ks) b k (inr h) = each-of ks b.2 k h

        apart : (n k : Name) (l : ℕ) → rank_in all n ≡ l → rank_in all k < l → same_name n k ≡ false
        apart n k l e f = false_from_ne_true (same_name n k) (λ h. omega (arith, ap (λ z. rank_in all z) ((bytes_decides n k).0 h), e, f))

        cross : (o u : Opened) → In o m.jobs → In u (flat_map (λ (k : Made). k.jobs) ms) → OwnBefore o u
        cross o u h i =
            let r = of-flat (λ (k : Made). k.jobs) u ms i in
            let x = each_in (λ o. (q : Place) × IsAt m.step.step a.0.0 q o) m.jobs a.0.2 o h in
            let s = each-of ms a.2 r.0 r.1 in
            let y = each_in (λ o. (q : Place) × IsAt r.0.step.step s.0 q o) r.0.jobs s.2 u r.2 in
            let l = rank-below ms a.2 r.0 r.1 in
            let d = apart m.step.step r.0.step.step (length ms) a.1 l in
            ((m.step.step, x.0), (r.0.step.step, y.0), x.1.name, y.1.name, ap (λ c. c && same_name x.0 y.0) d, cond-false (same_name m.step.step r.0.step.step) (place_before x.0 y.0) (nat_lt (rank_in all r.0.step.step) (rank_in all m.step.step)) d ∙ lt-ltb (rank_in all r.0.step.step) (rank_in all m.step.step) (subst (λ z. rank_in all r.0.step.step < z) (sym a.1) l))

    pub steps-each : (ms : List Made) → AreMade ms → (o : Opened) → In o (flat_map (λ m. m.jobs) ms) → IsOf o
    steps-each [] a o h = absurd h
    steps-each (m ∷ ms) a o h = on_either (in-append o m.jobs (flat_map (λ (k : Made). k.jobs) ms) h) (λ z. let x = each_in (λ o. (q : Place) × IsAt m.step.step a.0.0 q o) m.jobs a.0.2 o z in (m.step.step, a.0.0, x.0, a.0.1, x.1)) (λ q. steps-each ms a.2 o q)

    -- the steps taken so far, the first first
    found-here : (n : Name) (s : Step) (done ss : List (Name × Step)) → Each (λ d. same_name n d.0 ≡ false) done → (named n (done ++ (n, s) ∷ ss) ≡ Some s) × (rank_in (done ++ (n, s) ∷ ss) n ≡ length done)
    found-here n s [] ss h = (cond-true (same_name n n) (Some s) (named n ss) (same-name n), cond-true (same_name n n) 0 (suc (rank_in ss n)) (same-name n))
    found-here n s (d ∷ done) ss h = let r = found-here n s done ss h.1 in (cond-false (same_name n d.0) (Some d.1) (named n (done ++ (n, s) ∷ ss)) h.0 ∙ r.0, cond-false (same_name n d.0) 0 (suc (rank_in (done ++ (n, s) ∷ ss) n)) h.0 ∙ ap suc r.1)

    pub made-all : (given : List (Name × Delivered)) (done : List (Name × Step)) (ms : List Made) (ns : List Name) (ss : List (Name × Step)) → all ≡ done ++ ss → length done ≡ length ms → Each (λ d. is_among ns d.0 ≡ true) done → FreshNames ns ss → AreMade ms → AreMade (steps_made gives inside I given ms ss)
    made-all given done ms ns [] e l h f a = a
    made-all given done ms ns ((n, s) ∷ ss) e l h f a =
        made-all given (done ++ (n, s) ∷ []) (step_made gives inside I given ms (n, s) ∷ ms) (n ∷ ns) ss (e ∙ sym (append_assoc done ((n, s) ∷ []) ss)) (length-append done ((n, s) ∷ []) ∙ (omega (arith, l)))
        (each-append (λ d. is_among (n ∷ ns) d.0 ≡ true) done ((n, s) ∷ []) (each-weaken (λ d. is_among ns d.0 ≡ true) (λ d. is_among (n ∷ ns) d.0 ≡ true) (λ d k. or_right (same_name d.0 n) (is_among ns d.0) k) done h) (or_left (same_name n n) (is_among ns n) (same-name n), tt)) f.1
        ((s, subst (λ z. named n z ≡ Some s) (sym e) here.0, step-each n s (endings ms s.after) (nodes (step_made gives inside I given ms (n, s)).step.iteration), step-pairs n s (endings ms s.after) (nodes (step_made gives inside I given ms (n, s)).step.iteration) (nodes-ordered (step_made gives inside I given ms (n, s)).step.iteration)), subst (λ z. rank_in z n ≡ length ms) (sym e) (here.1 ∙ l), a)
      where
        apart : (d : Name × Step) → is_among ns d.0 ≡ true → same_name n d.0 ≡ false
        apart d k = false_from_ne_true (same_name n d.0) (λ g. true≠false (sym k ∙ subst (λ z. is_among ns z ≡ false) ((bytes_decides n d.0).0 g) f.0))

        here : (named n (done ++ (n, s) ∷ ss) ≡ Some s) × (rank_in (done ++ (n, s) ∷ ss) n ≡ length done)
        here = found-here n s done ss (each-weaken (λ d. is_among ns d.0 ≡ true) (λ d. same_name n d.0 ≡ false) apart done h)

-- ---- every flow

-- R of the names within an instance
abbrev pub Within : JobName → (JobName → JobName → Bool) → Job → Job → Type 0
Within I R j k = (a : JobName) × (b : JobName) × (j.name ≡ I ++ a) × (k.name ≡ I ++ b) × (R a b ≡ true)

-- ---- nesting

pub nests-each : (P : Name → Type 0) (ss : List (Name × Step)) → StepsNest P ss → Each (λ s. ActivitiesNest P s.1.activities) ss
nests-each P [] h = tt
nests-each P (s ∷ ss) h = (h.0, nests-each P ss h.1)

nested-nests : (P : Name → Type 0) (as' : List Activity) (g : Name) → ActivitiesNest P as' → first_nested as' ≡ Some g → P g
nested-nests P [] g h e = absurd (true≠false (sym (ap is_some e)))
nested-nests P (service n ∷ as') g h e = nested-nests P as' g h e
nested-nests P (nested f ∷ as') g h e = subst P (ap (λ o. name_or f o) e) h.0
  where
    name_or : Name → Option Name → Name
    name_or d None = d
    name_or d (Some n) = n

found-nests : (R : Step → Type 0) (n : Name) (ss : List (Name × Step)) (s : Step) → Each (λ s. R s.1) ss → named n ss ≡ Some s → R s
found-nests R n [] s h e = absurd (true≠false (sym (ap is_some e)))
found-nests R n (x ∷ ss) s h e = by (same_name n x.0) e (λ k. found-nests R n ss s h.1 k)
  where
    step_or : Step → Option Step → Step
    step_or d None = d
    step_or d (Some t) = t

    by : (b : Bool) → (if b then Some x.1 else named n ss) ≡ Some s → (named n ss ≡ Some s → R s) → R s
    by true k rec = subst R (ap (λ o. step_or x.1 o) k) h.0
    by false k rec = rec k

module _ (gives : Giving) (flows : List (Name × Flow)) where
  -- a job of the step and with the limit that the document says
  abbrev pub IsPlainJob : ℕ → Name → JobName → Job → Type 0
  IsPlainJob k f I j = (a : JobName) × (q : Place) × (j.instance ≡ I ++ a) × (j.name ≡ j.instance ++ (j.step, q) ∷ []) × (j.limit ≡ limit_at flows k f a j.step)

  pub record IsOrderly (k : ℕ) (f : Name) (m : Meaning) (I : JobName) : Type 0 where
    pub plain : (j : Job) → In j m.jobs → IsPlainJob k f I j
    -- who opens a flow stands less deep than the document nests
    pub opener : NestsWithin flows k f → (j : Job) → In j m.jobs → is_some j.opens ≡ true → (c : Name × Place) × (r : JobName) × (j.name ≡ I ++ c ∷ r) × (suc (length r) < k)
    pub below : (j : Job) → In j m.jobs → (c : Name × Place) × (r : JobName) × (j.name ≡ I ++ c ∷ r) × (length r < k) × (job_before flows k f [] (c ∷ r) ≡ true)
    pub ordered : AllPairs (Within I (job_before flows k f)) m.jobs

  none-orderly : (k : ℕ) (f : Name) (I : JobName) → IsOrderly k f no_meaning I
  none-orderly k f I = record { plain = λ j h. absurd h; opener = λ n j h o. absurd h; below = λ j h. absurd h; ordered = tt }

  module _ (k : ℕ) (f : Name) (flow : Flow) (found : named f flows ≡ Some flow) (inside : Name → JobName → List (Name × Value) → Meaning) (inside_is : (g : Name) (n : JobName) (vs : List (Name × Value)) → IsOrderly k g (inside g n vs) n) (I : JobName) (vs : List (Name × Value)) where
    abbrev all : List (Name × Step)
    all = ranked flow.steps

    abbrev Own : Opened → Type 0
    Own o = IsOf gives inside I (λ g m n. IsOrderly k g m n) inside_is all o

    at-flow : (a b : JobName) → names_before (job_before flows k) all a b ≡ true → job_before flows (suc k) f a b ≡ true
    at-flow a b h = subst (λ o. option_map_or (λ (fl : Flow). names_before (job_before flows k) (ranked fl.steps) a b) o false ≡ true) (sym found) h

    same-spot : (x : Name × Place) → same_spot x x ≡ true
    same-spot x = both_true (same_name x.0 x.0) (same_name x.1 x.1) ((bytes_decides x.0 x.0).1 refl) ((bytes_decides x.1 x.1).1 refl)

    deeper : (x : Name × Place) (s : Step) (g : Name) (a b : JobName) → named x.0 all ≡ Some s → first_nested s.activities ≡ Some g → job_before flows k g a b ≡ true → job_before flows (suc k) f (x ∷ a) (x ∷ b) ≡ true
    deeper x s g a b e h p =
        at-flow (x ∷ a) (x ∷ b) (cond-true (same_spot x x) (option_map_or (λ h. job_before flows k h a b) (step_flow all x.0) false) (spot_before all x x) (same-spot x) ∙ ap (λ o. option_map_or (λ h. job_before flows k h a b) o false) (opens-it (named x.0 all) e) ∙ p)
      where
        opens-it : (o : Option Step) → o ≡ Some s → option_and_then (λ (s : Step). first_nested s.activities) o ≡ Some g
        opens-it o q = ap (λ o. option_and_then (λ (s : Step). first_nested s.activities) o) q ∙ h

    apart : (x y : Name × Place) (a b : JobName) → same_spot x y ≡ false → spot_before all x y ≡ true → job_before flows (suc k) f (x ∷ a) (y ∷ b) ≡ true
    apart x y a b e h = at-flow (x ∷ a) (y ∷ b) (cond-false (same_spot x y) (option_map_or (λ h. job_before flows k h a b) (step_flow all x.0) false) (spot_before all x y) e ∙ h)

    -- a job of a block: the job itself, or one inside it
    block-name : (o : Opened) → Own o → (x : Name × Place) → o.job.name ≡ I ++ x ∷ [] → (j : Job) → In j (jobs_with_inside o) → (r : JobName) × (j.name ≡ I ++ x ∷ r) × (length r < suc k)
    block-name o w x e j (inl p) = ([], ap (λ (z : Job). z.name) p ∙ e, (omega arith))
    block-name o w x e j (inr i) = by o.inside refl i
      where
        by : (p : Option Meaning) → o.inside ≡ p → In j (option_map_or (λ (x : Meaning). x.jobs) p []) → (r : JobName) × (j.name ≡ I ++ x ∷ r) × (length r < suc k)
        by None q h = absurd h
        by (Some m) q h =
            let t = subst (λ p. InsideAt gives inside I (λ g m n. IsOrderly k g m n) inside_is w.1 o.job p) q w.4.inside_it in
            let b = t.2.below j h in
            (b.0 ∷ b.1, b.2 ∙ ap (λ n. n ++ b.0 ∷ b.1) e ∙ append_assoc I (x ∷ []) (b.0 ∷ b.1), (omega (arith, b.3)))

    block-pairs : (o : Opened) → Own o → AllPairs (Within I (job_before flows (suc k) f)) (jobs_with_inside o)
    block-pairs o w = by o.inside refl
      where
        x : Name × Place
        x = (w.0, w.2)

        by : (p : Option Meaning) → o.inside ≡ p → AllPairs (Within I (job_before flows (suc k) f)) (o.job ∷ option_map_or (λ (x : Meaning). x.jobs) p [])
        by None q = (tt, tt)
        by (Some m) q =
            let t = subst (λ p. InsideAt gives inside I (λ g m n. IsOrderly k g m n) inside_is w.1 o.job p) q w.4.inside_it in (
              in_each (Within I (job_before flows (suc k) f) o.job) m.jobs (λ j h. let b = t.2.below j h in (x ∷ [], x ∷ b.0 ∷ b.1, w.4.name, b.2 ∙ ap (λ n. n ++ b.0 ∷ b.1) w.4.name ∙ append_assoc I (x ∷ []) (b.0 ∷ b.1), deeper x w.1 t.0 [] (b.0 ∷ b.1) w.3 t.1 b.4)),
              pairs-map (Within o.job.name (job_before flows k t.0)) (Within I (job_before flows (suc k) f)) (λ j u h. (x ∷ h.0, x ∷ h.1, h.2 ∙ ap (λ n. n ++ h.0) w.4.name ∙ append_assoc I (x ∷ []) h.0, h.3 ∙ ap (λ n. n ++ h.1) w.4.name ∙ append_assoc I (x ∷ []) h.1, deeper x w.1 t.0 h.0 h.1 w.3 t.1 h.4)) m.jobs t.2.ordered,
            )

    at-limit : (a : JobName) (n : Name) → limit_at flows (suc k) f a n ≡ limit_in (limit_at flows k) all a n
    at-limit a n = ap (λ o. option_map_or (λ (fl : Flow). limit_in (limit_at flows k) (ranked fl.steps) a n) o 0) found

    block-plain : (o : Opened) → Own o → (j : Job) → In j (jobs_with_inside o) → IsPlainJob (suc k) f I j
    block-plain o w j (inl p) = subst (λ z. IsPlainJob (suc k) f I z) (sym p) (
      [],
      w.2,
      w.4.in_instance ∙ sym (append-nil I),
      w.4.name ∙ ap (λ n. n ++ (w.0, w.2) ∷ []) (sym w.4.in_instance) ∙ ap (λ n. o.job.instance ++ (n, w.2) ∷ []) (sym w.4.step),
      w.4.limit ∙ sym (at-limit [] o.job.step ∙ ap (λ t. option_map_or (λ (s : Step). s.jobs) t 0) (ap (λ n. named n all) w.4.step ∙ w.3)),
    )
    block-plain o w j (inr i) = by o.inside refl i
      where
        by : (p : Option Meaning) → o.inside ≡ p → In j (option_map_or (λ (x : Meaning). x.jobs) p []) → IsPlainJob (suc k) f I j
        by None q h = absurd h
        by (Some m) q h =
            let t = subst (λ p. InsideAt gives inside I (λ g m n. IsOrderly k g m n) inside_is w.1 o.job p) q w.4.inside_it in
            let b = t.2.plain j h in (
              (w.0, w.2) ∷ b.0,
              b.1,
              b.2 ∙ ap (λ n. n ++ b.0) w.4.name ∙ append_assoc I ((w.0, w.2) ∷ []) b.0,
              b.3,
              b.4 ∙ sym (at-limit ((w.0, w.2) ∷ b.0) j.step ∙ ap (λ o. option_map_or (λ g. limit_at flows k g b.0 j.step) o 0) (ap (λ o. option_and_then (λ (s : Step). first_nested s.activities) o) w.3 ∙ t.1)),
            )

    pub deeper-nests : NestsWithin flows (suc k) f → (n : Name) (s : Step) (g : Name) → named n all ≡ Some s → first_nested s.activities ≡ Some g → NestsWithin flows k g
    deeper-nests h n s g e p =
        let same = subst (λ o. StepsNest (NestsWithin flows k) (flow_or h.0 o).steps) (sym h.1 ∙ found) h.2 in
        nested-nests (NestsWithin flows k) s.activities g (found-nests (λ t. ActivitiesNest (NestsWithin flows k) t.activities) n all s (rank-each gives (λ d. Unit {0}) (λ s. ActivitiesNest (NestsWithin flows k) s.1.activities) (length flow.steps) [] flow.steps (nests-each (NestsWithin flows k) flow.steps same)) e) p
      where
        flow_or : Flow → Option Flow → Flow
        flow_or d None = d
        flow_or d (Some t) = t

    some-levels : (l : ℕ) (g : Name) → NestsWithin flows l g → 1 < suc l
    some-levels zero g h = absurd h
    some-levels (suc l) g h = omega arith

    block-opener : NestsWithin flows (suc k) f → (o : Opened) → Own o → (j : Job) → In j (jobs_with_inside o) → is_some j.opens ≡ true → (c : Name × Place) × (r : JobName) × (j.name ≡ I ++ c ∷ r) × (suc (length r) < suc k)
    block-opener nests o w j i op = by o.inside refl i
      where
        by : (p : Option Meaning) → o.inside ≡ p → In j (o.job ∷ option_map_or (λ (x : Meaning). x.jobs) p []) → (c : Name × Place) × (r : JobName) × (j.name ≡ I ++ c ∷ r) × (suc (length r) < suc k)
        by None q (inl p) = absurd (true≠false (sym (subst (λ (z : Job). is_some z.opens ≡ true) p op) ∙ subst (λ p. InsideAt gives inside I (λ g m n. IsOrderly k g m n) inside_is w.1 o.job p) q w.4.inside_it))
        by None q (inr h) = absurd h
        by (Some m) q (inl p) =
            let t = subst (λ p. InsideAt gives inside I (λ g m n. IsOrderly k g m n) inside_is w.1 o.job p) q w.4.inside_it in
            ((w.0, w.2), [], ap (λ (z : Job). z.name) p ∙ w.4.name, some-levels k t.0 (deeper-nests nests w.0 w.1 t.0 w.3 t.1))
        by (Some m) q (inr h) =
            let t = subst (λ p. InsideAt gives inside I (λ g m n. IsOrderly k g m n) inside_is w.1 o.job p) q w.4.inside_it in
            let b = t.2.opener (deeper-nests nests w.0 w.1 t.0 w.3 t.1) j h op in
            ((w.0, w.2), b.0 ∷ b.1, b.2 ∙ ap (λ n. n ++ b.0 ∷ b.1) w.4.name ∙ append_assoc I ((w.0, w.2) ∷ []) (b.0 ∷ b.1), (omega (arith, b.3)))

    abbrev ms : List Made
    ms = steps_of gives inside I flow vs

    made : AreMade gives inside I (λ g m n. IsOrderly k g m n) inside_is all ms
    made = made-all gives inside I (λ g m n. IsOrderly k g m n) inside_is all (given_of flow vs) [] [] [] all refl refl tt (ranked-fresh flow.steps) tt

    abbrev os : List Opened
    os = flat_map (λ (m : Made). m.jobs) ms

    own : (o : Opened) → In o os → Own o
    own o h = steps-each gives inside I (λ g m n. IsOrderly k g m n) inside_is all ms made o h

    instance-orderly : IsOrderly (suc k) f (instance_meaning gives inside I flow vs) I
    instance-orderly = record {
      plain = λ j h. let r = of-flat jobs_with_inside j os h in block-plain r.0 (own r.0 r.1) j r.2;
      opener = λ nests j h op. let r = of-flat jobs_with_inside j os h in block-opener nests r.0 (own r.0 r.1) j r.2 op;
      below = λ j h. let r = of-flat jobs_with_inside j os h in
          let w = own r.0 r.1 in
          let b = block-name r.0 w (w.0, w.2) w.4.name j r.2 in ((w.0, w.2), b.0, b.1, b.2, at-flow [] ((w.0, w.2) ∷ b.0) refl);
      ordered = pairs-flat (OwnBefore gives inside I (λ g m n. IsOrderly k g m n) inside_is all) (Within I (job_before flows (suc k) f)) jobs_with_inside os (steps-pairs gives inside I (λ g m n. IsOrderly k g m n) inside_is all ms made) (λ o h. block-pairs o (own o h))
          (λ o u h i b j l p q. let c = block-name o (own o h) b.0 b.2 j p in
          let d = block-name u (own u i) b.1 b.3 l q in (b.0 ∷ c.0, b.1 ∷ d.0, c.1, d.1, apart b.0 b.1 c.0 d.0 b.4 b.5));
    }

  pub flow-orderly : (depth : ℕ) (f : Name) (I : JobName) (vs : List (Name × Value)) → IsOrderly depth f (flow_meaning gives flows depth f I vs) I
  flow-orderly zero f I vs = none-orderly zero f I
  flow-orderly (suc depth) f I vs = by (named f flows) refl (λ g n us. flow-orderly depth g n us)
    where
      by : (o : Option Flow) → named f flows ≡ o → ((g : Name) (n : JobName) (us : List (Name × Value)) → IsOrderly depth g (flow_meaning gives flows depth g n us) n) → IsOrderly (suc depth) f (option_map_or (λ flow. instance_meaning gives (flow_meaning gives flows depth) I flow vs) o no_meaning) I
      by None e rec = none-orderly (suc depth) f I
      by (Some flow) e rec = instance-orderly depth f flow e (flow_meaning gives flows depth) rec I vs

-- the jobs of a meaning stand in job order
pub jobs-in_order : (gives : Giving) (d : Document) → AllPairs (λ j k. job_before d.flows nesting_limit d.main j.name k.name ≡ true) (meaning gives d).jobs
jobs-in_order gives d =
    pairs-map (Within [] (job_before d.flows nesting_limit d.main)) (λ j k. job_before d.flows nesting_limit d.main j.name k.name ≡ true) (λ j k h. subst (λ a. job_before d.flows nesting_limit d.main a k.name ≡ true) (sym h.2) (subst (λ b. job_before d.flows nesting_limit d.main h.0 b ≡ true) (sym h.3) h.4)) (meaning gives d).jobs (flow-orderly gives d.flows nesting_limit d.main [] d.inputs).ordered
