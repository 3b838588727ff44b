-- The steps of an instance of a meaning are those by its jobs' results.
use Rattle.std.specs.Prelude.{◌≡◌, refl, ℕ, suc, ◌+◌, List, [], ◌∷◌, ◌++◌, Bool, true, false, ◌||◌, Option, Some, None, find, flat_map, map, slice_get, unwrap_or, if◌then◌else◌, cond}
use Rattle.std.specs.Option.{option_map_or}
use Rattle.std.specs.List.{list_any}
use Rattle.std.specs.Cmp.Lexicographic.{bytes_decides}
use Rattle.std.proofs.Common.{sym, ap, ap₂, ◌∙◌}
use Rattle.std.proofs.lemmas.Bool.{true≢false}
use Rattle.std.proofs.lemmas.List.{map-append}
use Rattle.tv_lemmas.specs.Members.{Each}
use Rattle.tv_value.specs.Nested.{Place, leaf, list, no_trees, nodes}
use Rattle.tv_value.specs.Values.{JobName, Name, Value, holds_fault}
use Rattle.tv_value.specs.Orders.{same_name, same_job, named}
use Rattle.tv_flow.specs.Flows.{Feed, Flow, Link, input, output, link, merge, constant, Step}
use Rattle.tv_gate.specs.Outcomes.{Giving}
use Rattle.tv_dispatch.specs.Jobs.{Fate, right, wrong, opens, take_tries, tries}
use Rattle.tv_strategy.specs.Iterations.{Iteration, iteration, job, passed}
use Rattle.tv_strategy.specs.Measures.{strategy_depth}
use Rattle.tv_strategy.specs.Origins.{Origin, Traced, plain}
use Rattle.tv_strategy.specs.Outputs.{output_below}
use Rattle.tv_model.specs.instance.Delivered.{Delivered, StepMeaning, nothing_delivered, merged, feed_delivers, link_delivers}
use Rattle.tv_model.specs.instance.Steps.{spot, endings_of, outputs_delivered, bound_values, declared_depths, strategy_of, port_iteration, port_mismatch}
use Rattle.tv_model.specs.instance.Ranks.{is_among, ranked}
use Rattle.tv_model.specs.Jobs.{Job}
use Rattle.tv_model.specs.Made.{Meaning, Made, Opened, step_in, result_of, feed_value, endings}
use Rattle.tv_model.specs.Instances.{step_made, steps_made, node_jobs, job_on, bounced_job, tried_job, with_fate}
use Rattle.tv_model.specs.Instances.{given_of}
use Rattle.tv_model.proofs.Sound.{AreDistinct, step_names}
use Rattle.tv_model.proofs.Instances.{all-distinct}
use Rattle.tv_model.specs.instance.ByResults.{InstanceStep, Results, jobs_at_node, jobs_on, outputs_by, ports_on, result_at, step_by, step_of, step_on, steps_by}
use Rattle.tv_framing.specs.instances.OwnResults.{JobOutside, given_by, outside_by_results, outside_of_made, outside_of_opened, outside_of_placed, results_of}
use Rattle.tv_framing.specs.instances.Stated.{StepsAreByOwnResults}

-- ---- a feed and the endings see no more of the steps so far than their meanings

abbrev pub itself : StepMeaning → StepMeaning
itself s = s

module _ {M : Type 0} (f : M → StepMeaning) where
  found-map : (s p : Name) (ms : List M) → option_map_or (λ m. unwrap_or (named p (f m).outputs) nothing_delivered) (find (λ m. same_name s (f m).step) ms) nothing_delivered ≡ option_map_or (λ (m : StepMeaning). unwrap_or (named p m.outputs) nothing_delivered) (find (λ (m : StepMeaning). same_name s m.step) (map f ms)) nothing_delivered
  found-map s p [] = refl
  found-map s p (m ∷ ms) = by (same_name s (f m).step) (found-map s p ms)
    where
      by : (b : Bool) → option_map_or (λ m. unwrap_or (named p (f m).outputs) nothing_delivered) (find (λ m. same_name s (f m).step) ms) nothing_delivered ≡ option_map_or (λ (m : StepMeaning). unwrap_or (named p m.outputs) nothing_delivered) (find (λ (m : StepMeaning). same_name s m.step) (map f ms)) nothing_delivered → option_map_or (λ m. unwrap_or (named p (f m).outputs) nothing_delivered) (cond b (Some m) (find (λ m. same_name s (f m).step) ms)) nothing_delivered ≡ option_map_or (λ (m : StepMeaning). unwrap_or (named p m.outputs) nothing_delivered) (cond b (Some (f m)) (find (λ (m : StepMeaning). same_name s m.step) (map f ms))) nothing_delivered
      by true h = refl
      by false h = h

  link-map : (given : List (Name × Delivered)) (ms : List M) (l : Link) → link_delivers f given ms l ≡ link_delivers itself given (map f ms) l
  link-map given ms (input x) = refl
  link-map given ms (output s p) = found-map s p ms

  pub feed-map : (given : List (Name × Delivered)) (ms : List M) (d : Feed) → feed_delivers f given ms d ≡ feed_delivers itself given (map f ms) d
  feed-map given ms (link l) = link-map given ms l
  feed-map given ms (merge ls) = ap (λ (g : Link → Delivered). merged (map g ls)) (λ i l. link-map given ms l i)
  feed-map given ms (constant v) = refl

  pub endings-map : (ms : List M) (ns : List Name) → endings_of f ms ns ≡ endings_of itself (map f ms) ns
  endings-map [] ns = refl
  endings-map (m ∷ ms) ns = ap (λ os. (if is_among ns (f m).step then (f m).ending else []) ++ os) (endings-map ms ns)

-- ---- one step

module _ (gives : Giving) (inside : Name → JobName → List (Name × Value) → Meaning) (instance : JobName) where
  fate-core : (s : Step) (j : Job) (t : Fate) → outside_of_opened (with_fate inside s j t) ≡ outside_of_opened (record { job = j; inside = None })
  fate-core s j (right vs) = refl
  fate-core s j (wrong why) = refl
  fate-core s j (opens f) = refl

  pub job-core : (n : Name) (s : Step) (waits : List Origin) (q : Place) (vs : List Traced) → outside_of_opened (job_on gives inside instance n s waits q vs) ≡ outside_of_placed instance (record { step = n; place = q; inputs = vs; waits = waits })
  job-core n s waits q vs = by (list_any (λ v. holds_fault v) vs)
    where
      bounced : Job
      bounced = bounced_job instance n s waits q vs

      by : (b : Bool) → outside_of_opened (if b then record { job = bounced; inside = None } else tried_job gives inside s bounced) ≡ outside_of_placed instance (record { step = n; place = q; inputs = vs; waits = waits })
      by true = refl
      by false = let t = take_tries gives [] (tries (map plain vs) (declared_depths s) s.retries 0 s.activities) in fate-core s (record bounced { asks = t.asks }) t.fate

  node-core : (n : Name) (s : Step) (before : List Origin) (x : Place × Iteration) → map outside_of_opened (node_jobs gives inside instance n s before x) ≡ map (outside_of_placed instance) (jobs_at_node n s before x)
  node-core n s before (q, leaf sources (job b)) = ap (λ c. c ∷ []) (job-core n s (sources ++ before) q (bound_values s b))
  node-core n s before (q, leaf sources (passed m e)) = refl
  node-core n s before (q, list sources ts) = refl

  jobs-core : (n : Name) (s : Step) (before : List Origin) (xs : List (Place × Iteration)) → map outside_of_opened (flat_map (node_jobs gives inside instance n s before) xs) ≡ map (outside_of_placed instance) (flat_map (jobs_at_node n s before) xs)
  jobs-core n s before [] = refl
  jobs-core n s before (x ∷ xs) =
      map-append outside_of_opened (node_jobs gives inside instance n s before x) (flat_map (node_jobs gives inside instance n s before) xs)
      ∙ ap₂ (λ a b. a ++ b) (node-core n s before x) (jobs-core n s before xs)
      ∙ sym (map-append (outside_of_placed instance) (jobs_at_node n s before x) (flat_map (jobs_at_node n s before) xs))

  outputs-core : (n : Name) (g : ℕ → JobName → Value) (levels : ℕ) (it : Iteration) (k : ℕ) (ps : List (Name × ℕ)) → outputs_delivered instance n g levels it k ps ≡ outputs_by instance n (λ c q. g c (spot instance n q)) levels it k ps
  outputs-core n g levels it k [] = refl
  outputs-core n g levels it k (p ∷ ps) =
      let first : Name × Delivered = (p.0, record { depth = levels + p.1; value = output_below (spot instance n) (λ q. g k (spot instance n q)) p.1 [] levels it }) in
      ap (λ l. first ∷ l) (outputs-core n g levels it (suc k) ps)

  module _ (given : List (Name × Delivered)) where
    abbrev step_jobs : List Made → Name × Step → List Opened
    step_jobs ms s = (step_made gives inside instance given ms s).jobs

    -- a step as made, by what its feeds deliver and its jobs give
    made-fed : (ms : List Made) (s : Name × Step) → outside_of_made (step_made gives inside instance given ms s) ≡ (step_on instance (λ k q. result_of (step_jobs ms s) k (spot instance s.0 q)) (feed_value given ms) (endings ms s.1.after) s, map (outside_of_placed instance) (jobs_on (feed_value given ms) (endings ms s.1.after) s))
    made-fed ms (n, s) =
        let it = iteration (port_iteration (ports_on (feed_value given ms) s.inputs)) (strategy_of s) in
        let levels = strategy_depth (port_mismatch (ports_on (feed_value given ms) s.inputs)) (strategy_of s) in
        λ i. (record (step_made gives inside instance given ms (n, s)).step { outputs = outputs-core n (result_of (step_jobs ms (n, s))) levels it 0 s.outputs i }, jobs-core n s (endings ms s.after) (nodes it) i)

    -- the results say what the jobs of a step gave
    abbrev pub Agree : Results → Made → Type 0
    Agree results m = (k : ℕ) (q : Place) → result_of m.jobs k (spot instance m.step.step q) ≡ result_at results m.step.step k q

    abbrev pub made_all : List Made → List (Name × Step) → List Made
    made_all ms ss = steps_made gives inside instance given ms ss

    pub older-agree : (results : Results) (ms : List Made) (ss : List (Name × Step)) → Each (Agree results) (made_all ms ss) → Each (Agree results) ms
    older-agree results ms [] h = h
    older-agree results ms (s ∷ ss) h = (older-agree results (step_made gives inside instance given ms s ∷ ms) ss h).1

    module _ (results : Results) where
      pub steps-core : (ms : List Made) (fs : List InstanceStep) → map outside_of_made ms ≡ map (outside_by_results instance) fs → map step_in ms ≡ map step_of fs
      steps-core ms fs e = firsts ms ∙ ap (λ l. map (λ (x : StepMeaning × List JobOutside). x.0) l) e ∙ sym (seconds fs)
        where
          firsts : (ms : List Made) → map step_in ms ≡ map (λ (x : StepMeaning × List JobOutside). x.0) (map outside_of_made ms)
          firsts [] = refl
          firsts (m ∷ ms) = ap (λ l. m.step ∷ l) (firsts ms)

          seconds : (fs : List InstanceStep) → map step_of fs ≡ map (λ (x : StepMeaning × List JobOutside). x.0) (map (outside_by_results instance) fs)
          seconds [] = refl
          seconds (f ∷ fs) = ap (λ l. f.step ∷ l) (seconds fs)

      pub one-step : (ms : List Made) (fs : List InstanceStep) (s : Name × Step) → map step_in ms ≡ map step_of fs → Agree results (step_made gives inside instance given ms s) → outside_of_made (step_made gives inside instance given ms s) ≡ outside_by_results instance (step_by instance results given fs s)
      one-step ms fs (n, s) e a =
          let fed : feed_value given ms ≡ feed_delivers step_of given fs = λ i d. (feed-map step_in given ms d ∙ ap (λ l. feed_delivers itself given l d) e ∙ sym (feed-map step_of given fs d)) i in
          let before : endings ms s.after ≡ endings_of step_of fs s.after = endings-map step_in ms s.after ∙ ap (λ l. endings_of itself l s.after) e ∙ sym (endings-map step_of fs s.after) in
          made-fed ms (n, s) ∙ (λ i. (step_on instance (λ k q. a k q i) (fed i) (before i) (n, s), map (outside_of_placed instance) (jobs_on (fed i) (before i) (n, s))))

      pub all-steps : (ms : List Made) (fs : List InstanceStep) (ss : List (Name × Step)) → map outside_of_made ms ≡ map (outside_by_results instance) fs → Each (Agree results) (made_all ms ss) → map outside_of_made (made_all ms ss) ≡ map (outside_by_results instance) (steps_by instance results given fs ss)
      all-steps ms fs [] e h = e
      all-steps ms fs (s ∷ ss) e h =
          let new = older-agree results (step_made gives inside instance given ms s ∷ ms) ss h in
          all-steps (step_made gives inside instance given ms s ∷ ms) (step_by instance results given fs s ∷ fs) ss (ap₂ (λ c l. c ∷ l) (one-step ms fs s (steps-core ms fs e) new.0) e) h

-- ---- the results of the jobs themselves

module _ (instance : JobName) where
  given-result : (os : List Opened) (k : ℕ) (n : JobName) → result_of os k n ≡ unwrap_or (slice_get (given_by os n) k) (list tt no_trees)
  given-result os k n = by (find (λ o. same_job n o.job.name) os)
    where
      by : (o : Option Opened) → option_map_or (λ (o : Opened). unwrap_or (slice_get o.job.result k) (list tt no_trees)) o (list tt no_trees) ≡ unwrap_or (slice_get (option_map_or (λ (o : Opened). o.job.result) o []) k) (list tt no_trees)
      by None = refl
      by (Some o) = refl

  abbrev Say : Results → Made → Type 0
  Say results m = (q : Place) → results m.step.step q ≡ given_by m.jobs (spot instance m.step.step q)

  -- a step is found by its name
  found-self : (m : Made) (ms : List Made) → Say (results_of instance (m ∷ ms)) m
  found-self m ms q = by (same_name m.step.step m.step.step) ((bytes_decides m.step.step m.step.step).1 refl)
    where
      by : (b : Bool) → b ≡ true → option_map_or (λ (k : Made). given_by k.jobs (spot instance m.step.step q)) (cond b (Some m) (find (λ k. same_name m.step.step k.step.step) ms)) [] ≡ given_by m.jobs (spot instance m.step.step q)
      by true e = refl
      by false e = absurd (true≢false (sym e))

  -- and a step of another name is looked for further on
  found-later : (m : Made) (ms : List Made) (n : Name) → same_name n m.step.step ≡ false → (q : Place) → results_of instance (m ∷ ms) n q ≡ results_of instance ms n q
  found-later m ms n e q = by (same_name n m.step.step) e
    where
      by : (b : Bool) → b ≡ false → option_map_or (λ (k : Made). given_by k.jobs (spot instance n q)) (cond b (Some m) (find (λ k. same_name n k.step.step) ms)) [] ≡ option_map_or (λ (k : Made). given_by k.jobs (spot instance n q)) (find (λ k. same_name n k.step.step) ms) []
      by false f = refl
      by true f = absurd (true≢false f)

  abbrev Other : Name → Made → Type 0
  Other n m = same_name m.step.step n ≡ false

  not-among : (n : Name) (ms : List Made) → is_among (step_names ms) n ≡ false → Each (Other n) ms
  not-among n [] h = tt
  not-among n (m ∷ ms) h = by (same_name n m.step.step) (is_among (step_names ms) n) refl refl h (λ g. not-among n ms g)
    where
      swap : (a b : Name) → same_name a b ≡ false → same_name b a ≡ false
      swap a b e = go (same_name b a) refl
        where
          go : (c : Bool) → same_name b a ≡ c → same_name b a ≡ false
          go false g = g
          go true g = absurd (true≢false (sym ((bytes_decides a b).1 (sym ((bytes_decides b a).0 g))) ∙ e))

      by : (b c : Bool) → same_name n m.step.step ≡ b → is_among (step_names ms) n ≡ c → (b || c) ≡ false → (is_among (step_names ms) n ≡ false → Each (Other n) ms) → Each (Other n) (m ∷ ms)
      by true c e f g rec = absurd (true≢false g)
      by false c e f g rec = (swap n m.step.step e, rec (f ∙ g))

  say-each : (m : Made) (ms ks : List Made) → Each (Other m.step.step) ks → Each (Say (results_of instance ms)) ks → Each (Say (results_of instance (m ∷ ms))) ks
  say-each m ms [] o h = tt
  say-each m ms (k ∷ ks) o h = (λ q. found-later m ms k.step.step o.0 q ∙ h.0 q, say-each m ms ks o.1 h.1)

  say-all : (ms : List Made) → AreDistinct instance ms → Each (Say (results_of instance ms)) ms
  say-all [] d = tt
  say-all (m ∷ ms) d = (found-self m ms, say-each m ms ms (not-among m.step.step ms d.1) (say-all ms d.2))

  agree-each : (gives : Giving) (inside : Name → JobName → List (Name × Value) → Meaning) (given : List (Name × Delivered)) (results : Results) (ms : List Made) → Each (Say results) ms → Each (Agree gives inside instance given results) ms
  agree-each gives inside given results [] h = tt
  agree-each gives inside given results (m ∷ ms) h = (λ k q. given-result m.jobs k (spot instance m.step.step q) ∙ ap (λ vs. unwrap_or (slice_get vs k) (list tt no_trees)) (sym (h.0 q)), agree-each gives inside given results ms h.1)

pub steps-by_results : StepsAreByOwnResults
steps-by_results gives inside instance flow vs =
    all-steps gives inside instance (given_of flow vs) (results_of instance (steps_made gives inside instance (given_of flow vs) [] (ranked flow.steps))) [] [] (ranked flow.steps) refl
    (agree-each instance gives inside (given_of flow vs) _ _ (say-all instance (steps_made gives inside instance (given_of flow vs) [] (ranked flow.steps)) (all-distinct gives inside instance flow vs)))

-- the results of an instance's own jobs agree with them
pub own-agree : (gives : Giving) (inside : Name → JobName → List (Name × Value) → Meaning) (instance : JobName) (flow : Flow) (vs : List (Name × Value)) → Each (Agree gives inside instance (given_of flow vs) (results_of instance (steps_made gives inside instance (given_of flow vs) [] (ranked flow.steps)))) (steps_made gives inside instance (given_of flow vs) [] (ranked flow.steps))
own-agree gives inside instance flow vs =
    let ms = steps_made gives inside instance (given_of flow vs) [] (ranked flow.steps) in
    agree-each instance gives inside (given_of flow vs) (results_of instance ms) ms (say-all instance ms (all-distinct gives inside instance flow vs))
