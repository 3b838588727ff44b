-- The order of a meaning, read off its lists, is that of its jobs with what stands inside each.
use Rattle.std.specs.Prelude.{◌≡◌, refl, ℕ, zero, suc, ◌≤◌, ◌⊎◌, List, [], ◌∷◌, ◌++◌, map, length, filter, not, Bool, true, false, cond, Option, Some, None, flat_map}
use Rattle.std.specs.Option.{option_map_or}
use Rattle.std.proofs.Common.{arith, sym, ap, ◌∙◌, inl, inr, append_assoc, append-nil, length-append}
use Rattle.std.proofs.lemmas.List.{length-map, map-append}
use Rattle.std.proofs.lemmas.List.Elements.{filter-append}
use Rattle.tv_lemmas.specs.Members.{In}
use Rattle.tv_lemmas.proofs.Members.{in-append, of-flat}
use Rattle.tv_lemmas.proofs.Lists.{filter-map}
use Rattle.tv_value.specs.Nested.{Place}
use Rattle.tv_value.specs.Orders.{same_job}
use Rattle.tv_value.specs.Values.{Name, JobName, Value}
use Rattle.tv_value.proofs.JobNameLemmas.{same_job_decides}
use Rattle.tv_flow.specs.Flows.{Flow}
use Rattle.tv_gate.specs.Outcomes.{Giving}
use Rattle.tv_model.specs.instance.Ranks.{ranked}
use Rattle.tv_dispatch.specs.Jobs.{Ask}
use Rattle.tv_model.specs.Instances.{given_of}
use Rattle.tv_model.specs.Jobs.{Job}
use Rattle.tv_model.specs.Made.{Meaning, Opened}
use Rattle.tv_model.specs.Meanings.{flow_meaning, instance_meaning, instances_inside, jobs_with_inside, no_meaning}
use Rattle.tv_model.specs.Turns.{ask_order, asks_by_turns, bounced_first, is_bounced, job_turn, jobs_in, order_in}
use Rattle.tv_model.proofs.Order.{of-filter, opened_order, turn_of}
use Rattle.tv_model.proofs.Fed.{named_map_or}
use Rattle.tv_model.proofs.Earlier.{job_list}
use Rattle.tv_model.specs.JobOrder.{Apart}
use Rattle.tv_model.proofs.Kept.{InsideIs}
use Rattle.tv_model.proofs.Formed.{AreFormed, own-apart}
use Rattle.tv_model.proofs.Instances.{given-free, instance-formed, steps_of}
use Rattle.tv_model.proofs.Whole.{AnyNumber, not-longer, same-head}
use Rattle.tv_strategy.proofs.Each.{each-all}

-- ---- lists

same-map : {A B C : Type 0} (g : B → C) (f : A → B) (h : A → C) (xs : List A) → ((x : A) → In x xs → g (f x) ≡ h x) → map g (map f xs) ≡ map h xs
same-map g f h [] e = refl
same-map g f h (x ∷ xs) e = ap (λ y. y ∷ map g (map f xs)) (e x (inl refl)) ∙ ap (λ l. h x ∷ l) (same-map g f h xs (λ y i. e y (inr i)))

piece-length : {A B : Type 0} (f : A → List B) (xs : List A) (x : A) → In x xs → length (f x) ≤ length (flat_map f xs)
piece-length f [] x i = absurd i
piece-length f (y ∷ xs) x (inl e) =
    let more = length-append (f y) (flat_map f xs) in
    let same = ap (λ z. length (f z)) e in omega (arith, more, same)
piece-length f (y ∷ xs) x (inr i) =
    let more = length-append (f y) (flat_map f xs) in
    let less = piece-length f xs x i in omega (arith, more, less)

module _ {A : Type 0} (p : Job → Bool) (f : A → List Job) where
  none-pass : (xs : List A) → ((x : A) → In x xs → filter p (f x) ≡ []) → filter p (flat_map f xs) ≡ []
  none-pass [] none = refl
  none-pass (x ∷ xs) none =
      filter-append p (f x) (flat_map f xs) ∙ ap (λ l. l ++ filter p (flat_map f xs)) (none x (inl refl)) ∙ none-pass xs (λ y i. none y (inr i))

  -- where all that pass come from one item
  one-passes : {K : Type 0} (key : A → K) (xs : List A) (x : A) → Apart key xs → In x xs → ((y : A) → In y xs → (key y ≡ key x → ⊥) → filter p (f y) ≡ []) → filter p (flat_map f xs) ≡ filter p (f x)
  one-passes key [] x a i none = absurd i
  one-passes key (y ∷ xs) x a (inl e) none =
      filter-append p (f y) (flat_map f xs)
      ∙ ap (λ l. filter p (f y) ++ l) (none-pass xs (λ z i. none z (inr i) (λ q. a.0 z i (q ∙ ap key e))))
      ∙ append-nil (filter p (f y)) ∙ ap (λ z. filter p (f z)) (sym e)
  one-passes key (y ∷ xs) x a (inr i) none =
      filter-append p (f y) (flat_map f xs) ∙ ap (λ l. l ++ filter p (flat_map f xs)) (none y (inl refl) (λ q. a.0 x i (sym q)))
      ∙ one-passes key xs x a.1 i (λ z k. none z (inr k))

-- ---- the jobs of one instance

differ : (m n : JobName) → (m ≡ n → ⊥) → same_job m n ≡ false
differ m n f = by (same_job m n) refl
  where
    by : (b : Bool) → same_job m n ≡ b → same_job m n ≡ false
    by false e = e
    by true e = absurd (f ((same_job_decides m n).0 e))

none-in : (I : JobName) (js : List Job) → ((j : Job) → In j js → j.instance ≡ I → ⊥) → jobs_in js I ≡ []
none-in I [] f = refl
none-in I (j ∷ js) f =
    ap (λ b. cond b (j ∷ jobs_in js I) (jobs_in js I)) (differ j.instance I (f j (inl refl))) ∙ none-in I js (λ k i. f k (inr i))

-- the order of an instance, from its jobs
abbrev asks-of : List Job → ℕ → List Job → List (JobName × Ask)
asks-of js levels own =
    asks_by_turns (length own) [] (map (λ j. job_turn j (order_in js levels j.name)) (bounced_first (λ j. j) own))

-- the same jobs in each instance whose name begins with J
abbrev pub AgreeWithin : JobName → List Job → List Job → Type 0
AgreeWithin J js ks = (r : JobName) → jobs_in js (J ++ r) ≡ jobs_in ks (J ++ r)

-- the order of n can be read off each list that has the jobs of n, at so many levels or more
pub record IsReadOff (n : Meaning) (J : JobName) : Type 0 where
  pub below : (j : Job) → In j n.jobs → (r : JobName) × (j.instance ≡ J ++ r)
  pub read : (js : List Job) (levels : ℕ) → AgreeWithin J js n.jobs → length n.instances ≤ levels → order_in js levels J ≡ ask_order n

nothing-read : (js : List Job) (levels : ℕ) (I : JobName) → jobs_in js I ≡ [] → order_in js levels I ≡ []
nothing-read js zero I e = refl
nothing-read js (suc levels) I e = ap (asks-of js levels) e

module _ (I : JobName) where
  -- a job of the instance, with what stands inside it
  pub record IsOf (o : Opened) : Type 0 where
    pub key : Name × Place
    pub named : o.job.name ≡ I ++ key ∷ []
    pub in_instance : o.job.instance ≡ I
    pub inside_it : InsideIs IsReadOff o.job o.inside

  module _ (os : List Opened) (own : (o : Opened) → In o os → IsOf o) (apart : Apart (λ o. o.job.name) os) where
    abbrev all : List Job
    all = flat_map jobs_with_inside os

    abbrev inner : Opened → List Job
    inner o = option_map_or (λ (n : Meaning). n.jobs) o.inside []

    inner-below : (o : Opened) → In o os → (j : Job) → In j (inner o) → (r : JobName) × (j.instance ≡ o.job.name ++ r)
    inner-below o i j = by o.inside (own o i).inside_it
      where
        by : (p : Option Meaning) → InsideIs IsReadOff o.job p → In j (option_map_or (λ (n : Meaning). n.jobs) p []) → (r : JobName) × (j.instance ≡ o.job.name ++ r)
        by None h k = absurd k
        by (Some n) h k = h.0.below j k

    deeper : (o : Opened) (i : In o os) (r : JobName) → o.job.name ++ r ≡ I ++ (own o i).key ∷ r
    deeper o i r = ap (λ n. n ++ r) (own o i).named ∙ append_assoc I ((own o i).key ∷ []) r

    not-inside : (o : Opened) → In o os → (r : JobName) → I ≡ o.job.name ++ r → ⊥
    not-inside o i r e = not-longer I (own o i).key r (e ∙ deeper o i r)

    own-jobs : (ps : List Opened) → ((o : Opened) → In o ps → In o os) → jobs_in (flat_map jobs_with_inside ps) I ≡ map (λ o. o.job) ps
    own-jobs [] f = refl
    own-jobs (o ∷ ps) f =
        let i = f o (inl refl) in
        let none = none-in I (inner o) (λ j k e. let r = inner-below o i j k in not-inside o i r.0 (sym e ∙ r.1)) in
        filter-append (λ j. same_job j.instance I) (jobs_with_inside o) (flat_map jobs_with_inside ps)
        ∙ ap (λ b. cond b (o.job ∷ jobs_in (inner o) I) (jobs_in (inner o) I) ++ jobs_in (flat_map jobs_with_inside ps) I) ((same_job_decides o.job.instance I).1 (own o i).in_instance)
        ∙ ap (λ l. o.job ∷ l ++ jobs_in (flat_map jobs_with_inside ps) I) none
        ∙ ap (λ l. o.job ∷ l) (own-jobs ps (λ u k. f u (inr k)))

    inner-jobs : (o : Opened) → In o os → (r : JobName) → jobs_in all (o.job.name ++ r) ≡ jobs_in (inner o) (o.job.name ++ r)
    inner-jobs o i r =
        one-passes (λ j. same_job j.instance J) jobs_with_inside (λ u. u.job.name) os o apart i others
        ∙ ap (λ b. cond b (o.job ∷ jobs_in (inner o) J) (jobs_in (inner o) J)) (differ o.job.instance J (λ e. not-inside o i r (sym (own o i).in_instance ∙ e)))
      where
        J : JobName
        J = o.job.name ++ r

        others : (u : Opened) → In u os → (u.job.name ≡ o.job.name → ⊥) → jobs_in (jobs_with_inside u) J ≡ []
        others u k f = none-in J (jobs_with_inside u) none
          where
            none : (j : Job) → In j (jobs_with_inside u) → j.instance ≡ J → ⊥
            none j (inl e) q = not-inside o i r (sym (ap (λ (x : Job). x.instance) e ∙ (own u k).in_instance) ∙ q)
            none j (inr h) q =
                let s = inner-below u k j h in
                f (same-head I (own u k).key (own o i).key u.job.name o.job.name s.0 r (own u k).named (own o i).named (sym s.1 ∙ q))

    module _ (js : List Job) (agree : AgreeWithin I js all) (levels : ℕ) (enough : length (flat_map instances_inside os) ≤ levels) where
      inside-read : (o : Opened) → In o os → order_in js levels o.job.name ≡ option_map_or ask_order o.inside []
      inside-read o i = by o.inside refl (own o i).inside_it
        where
          agree-inside : (r : JobName) → jobs_in js (o.job.name ++ r) ≡ jobs_in (inner o) (o.job.name ++ r)
          agree-inside r = ap (jobs_in js) (deeper o i r) ∙ agree ((own o i).key ∷ r) ∙ ap (jobs_in all) (sym (deeper o i r)) ∙ inner-jobs o i r

          by : (p : Option Meaning) → o.inside ≡ p → InsideIs IsReadOff o.job p → order_in js levels o.job.name ≡ option_map_or ask_order p []
          by None e h =
              nothing-read js levels o.job.name
              (ap (jobs_in js) (sym (append-nil o.job.name)) ∙ agree-inside [] ∙ ap (λ (p : Option Meaning). jobs_in (option_map_or (λ (n : Meaning). n.jobs) p []) (o.job.name ++ [])) e)
          by (Some n) e h = h.0.read js levels (λ r. agree-inside r ∙ ap (λ (p : Option Meaning). jobs_in (option_map_or (λ (n : Meaning). n.jobs) p []) (o.job.name ++ r)) e) few
            where
              few : length n.instances ≤ levels
              few =
                  let piece = piece-length instances_inside os o i in
                  let same = ap (λ (p : Option Meaning). length (option_map_or (λ (n : Meaning). n.instances) p [])) e in omega (arith, piece, same, enough)

      own-read : jobs_in js I ≡ map (λ o. o.job) os
      own-read =
          ap (jobs_in js) (sym (append-nil I)) ∙ agree [] ∙ ap (jobs_in all) (append-nil I) ∙ own-jobs os (λ o i. i)

      turns-read : (xs : List Opened) → ((o : Opened) → In o xs → In o os) → map (λ j. job_turn j (order_in js levels j.name)) (map (λ o. o.job) xs) ≡ map turn_of xs
      turns-read xs f = same-map (λ j. job_turn j (order_in js levels j.name)) (λ o. o.job) turn_of xs (λ o i. ap (job_turn o.job) (inside-read o (f o i)))

      pub order-read : order_in js (suc levels) I ≡ opened_order os
      order-read =
          ap (asks-of js levels) own-read
          ∙ ap (λ l. asks_by_turns (length (map (λ o. o.job) os)) [] (map (λ j. job_turn j (order_in js levels j.name)) l)) sorted
          ∙ ap (λ l. asks_by_turns (length (map (λ o. o.job) os)) [] l) (turns-read (bounced_first (λ o. o.job) os) from)
          ∙ ap (λ n. asks_by_turns n [] (map turn_of (bounced_first (λ o. o.job) os))) (length-map os (λ o. o.job))
        where
          p : Opened → Bool
          p o = is_bounced o.job.ending

          from : (o : Opened) → In o (filter p os ++ filter (λ u. not (p u)) os) → In o os
          from o i = by (in-append o (filter p os) (filter (λ u. not (p u)) os) i)
            where
              by : In o (filter p os) ⊎ In o (filter (λ u. not (p u)) os) → In o os
              by (inl k) = of-filter p o os k
              by (inr k) = of-filter (λ u. not (p u)) o os k

          sorted : bounced_first (λ j. j) (map (λ o. o.job) os) ≡ map (λ o. o.job) (bounced_first (λ o. o.job) os)
          sorted =
              ap (λ l. l ++ filter (λ (j : Job). not (is_bounced j.ending)) (map (λ o. o.job) os)) (filter-map (λ (j : Job). is_bounced j.ending) (λ (o : Opened). o.job) os)
              ∙ ap (λ l. map (λ o. o.job) (filter p os) ++ l) (filter-map (λ (j : Job). not (is_bounced j.ending)) (λ (o : Opened). o.job) os)
              ∙ sym (map-append (λ o. o.job) (filter p os) (filter (λ u. not (p u)) os))

-- ---- every flow

module _ (gives : Giving) where
  module _ (inside : Name → JobName → List (Name × Value) → Meaning) (is : (f : Name) (n : JobName) (vs : List (Name × Value)) → IsReadOff (inside f n vs) n) (I : JobName) (flow : Flow) (vs : List (Name × Value)) where
    abbrev os : List Opened
    os = job_list (steps_of gives inside I flow vs)

    formed : AreFormed gives inside I IsReadOff is AnyNumber (given_of flow vs) (given-free flow vs) (steps_of gives inside I flow vs)
    formed = instance-formed gives inside I flow vs IsReadOff is AnyNumber (each-all (λ s. Unit {0}) (λ s. tt) (ranked flow.steps))

    of-instance : (o : Opened) → In o os → IsOf I o
    of-instance o i = let w = formed.jobs o i in record { key = (w.step, w.place); named = w.named; in_instance = w.in_instance; inside_it = w.inside_it }

    apart : Apart (λ (o : Opened). o.job.name) os
    apart = own-apart gives inside I IsReadOff is AnyNumber (given_of flow vs) (given-free flow vs) (steps_of gives inside I flow vs) formed

    -- the order of an instance is that of its jobs with what stands inside each
    pub instance-order : ask_order (instance_meaning gives inside I flow vs) ≡ opened_order os
    instance-order = order-read I os of-instance apart (flat_map jobs_with_inside os) (λ r. refl) (length (flat_map instances_inside os)) (omega arith)

    instance-read : IsReadOff (instance_meaning gives inside I flow vs) I
    instance-read = record { below = below; read = read }
      where
        below : (j : Job) → In j (flat_map jobs_with_inside os) → (r : JobName) × (j.instance ≡ I ++ r)
        below j h = by (of-flat jobs_with_inside j os h).2
          where
            o : Opened
            o = (of-flat jobs_with_inside j os h).0

            i : In o os
            i = (of-flat jobs_with_inside j os h).1

            by : In j (jobs_with_inside o) → (r : JobName) × (j.instance ≡ I ++ r)
            by (inl e) = ([], ap (λ (x : Job). x.instance) e ∙ (of-instance o i).in_instance ∙ sym (append-nil I))
            by (inr k) =
                let s = inner-below I os of-instance apart o i j k in
                ((of-instance o i).key ∷ s.0, s.1 ∙ deeper I os of-instance apart o i s.0)

        read : (js : List Job) (levels : ℕ) → AgreeWithin I js (flat_map jobs_with_inside os) → suc (length (flat_map instances_inside os)) ≤ levels → order_in js levels I ≡ ask_order (instance_meaning gives inside I flow vs)
        read js zero agree few = absurd (omega (arith, few))
        read js (suc levels) agree few = order-read I os of-instance apart js agree levels (omega (arith, few)) ∙ sym instance-order

  nothing-read-off : (I : JobName) → IsReadOff no_meaning I
  nothing-read-off I = record { below = λ j h. absurd h; read = λ js levels agree few. nothing-read js levels I (ap (jobs_in js) (sym (append-nil I)) ∙ agree []) }

  pub flow-read : (flows : List (Name × Flow)) (depth : ℕ) (f : Name) (I : JobName) (vs : List (Name × Value)) → IsReadOff (flow_meaning gives flows depth f I vs) I
  flow-read flows zero f I vs = nothing-read-off I
  flow-read flows (suc depth) f I vs =
      named_map_or (λ flow. Unit {0}) (λ m. IsReadOff m I) (λ flow. instance_meaning gives (flow_meaning gives flows depth) I flow vs) (λ flow _. instance-read (flow_meaning gives flows depth) (λ g n us. flow-read flows depth g n us) I flow vs) f flows no_meaning (each-all (λ x. Unit {0}) (λ x. tt) flows) (nothing-read-off I)
