-- In every legal history in which nothing can be settled, what is offered is what the meaning offers.
use Rattle.std.specs.Prelude.{◌≡◌, refl, ℕ, zero, suc, List, [], ◌∷◌, ◌++◌, Bool, true, false, not, ◌&&◌, ◌||◌, if◌then◌else◌, is_some, filter_map}
use Rattle.std.specs.List.{list_any, list_all}
use Rattle.std.proofs.Common.{sym, ap, subst, ◌∙◌}
use Rattle.std.proofs.lemmas.List.Folds.{list_all-append}
use Rattle.std.proofs.lemmas.Bool.{true_from_ne_false, or_parts}
use Rattle.std.proofs.lemmas.Option.{same_Some}
use Rattle.std.specs.Cmp.{first_so, second_so}
use Rattle.std.specs.Cmp.Derive.{one_truth}
use Rattle.tv_lemmas.specs.Members.{Each, In}
use Rattle.tv_lemmas.proofs.Members.{each_in, in_each, of-all, of-flat, of-options}
use Rattle.tv_value.specs.Nested.{Place, nodes}
use Rattle.tv_value.specs.Values.{Name, JobName}
use Rattle.tv_value.proofs.JobNameLemmas.{same_job_decides}
use Rattle.tv_flow.specs.Flows.{Document}
use Rattle.tv_strategy.specs.Origins.{Origin, Known, at_start, by_job, by_level, needs_of}
use Rattle.tv_strategy.proofs.Each.{each-all, each-weaken}
use Rattle.tv_gate.specs.Outcomes.{Giving}
use Rattle.tv_dispatch.specs.Jobs.{Ask}
use Rattle.tv_model.specs.Jobs.{Job, job_needs}
use Rattle.tv_model.specs.instance.Delivered.{StepMeaning}
use Rattle.tv_model.specs.Made.{Meaning}
use Rattle.tv_model.specs.Meanings.{meaning}
use Rattle.tv_history.specs.Entries.{History, is_accepted}
use Rattle.tv_model.specs.Levels.{Level, level_at, levels}
use Rattle.tv_model.specs.Lists.{rest_of, first_of_list}
use Rattle.tv_history.specs.Histories.{asks_left, is_settled_name, has_entry, is_known, all_known, can_bounce, can_settle, can_end, instances, can_settle_more, is_open, is_legal, is_offered, is_offered_by_meaning}
use Rattle.tv_model.proofs.Tests.{true≠false, both_true}
use Rattle.tv_history.proofs.Needs.{IsSourced, IsSoundAt, IsSound, AllSound, known-needs, needs_of-settled}
use Rattle.tv_model.proofs.Sound.{level-node}
use Rattle.tv_history.proofs.Running.{AreJobs, offered-by_meaning}
use Rattle.tv_history.proofs.Tests.{none_pass, rest-in}
use Rattle.tv_model.proofs.Members.{once-of_apart, nodes-apart, snoc-parts}
use Rattle.tv_model.proofs.Grounds.{GroundedBy}
use Rattle.tv_model.proofs.Whole.{step_key, GroundedIn, IsWhole, StepsHave}
pub use Rattle.tv_model.proofs.Whole.{AnyNumber, meaning-whole}

pub asks_left-none : (past : History) (n : JobName) → asks_left past n [] ≡ []
asks_left-none [] n = refl
asks_left-none (e ∷ past) n = by (is_accepted n e) (asks_left-none past n)
  where
    by : (b : Bool) → asks_left past n [] ≡ [] → (if b then rest_of (asks_left past n []) else asks_left past n []) ≡ []
    by true h = ap rest_of h
    by false h = h

-- what is left of the asks is among them
pub left-in : (past : History) (n : JobName) (asks : List Ask) (a : Ask) → In a (asks_left past n asks) → In a asks
left-in [] n asks a i = i
left-in (e ∷ past) n asks a i = by (is_accepted n e) i (left-in past n asks a)
  where
    by : (b : Bool) → In a (if b then rest_of (asks_left past n asks) else asks_left past n asks) → (In a (asks_left past n asks) → In a asks) → In a asks
    by true k rec = rec (rest-in a (asks_left past n asks) k)
    by false k rec = rec k

module _ (gives : Giving) (D : ℕ → Type 0) (m : Meaning) (I : JobName) (w : IsWhole gives D m I) where
  -- a list or passed fault has a name of its own
  pub levels-once : (l k : Level) → In l (levels m.steps) → In k (levels m.steps) → l.name ≡ k.name → l ≡ k
  levels-once l k h i e =
      let s = of-flat (λ s. filter_map (level_at s) (nodes s.iteration)) l m.steps h in
      let t = of-flat (λ s. filter_map (level_at s) (nodes s.iteration)) k m.steps i in
      let x = of-options (level_at s.0) l (nodes s.0.iteration) s.2 in
      let y = of-options (level_at t.0) k (nodes t.0.iteration) t.2 in
      let parts = snoc-parts (s.0.step, x.0.0) s.0.instance t.0.instance (s.0.step, x.0.0) (t.0.step, y.0.0) (sym (level-node I s.0 x.0 l x.2).0 ∙ e ∙ (level-node I t.0 y.0 k y.2).0) in
      let same = once-of_apart step_key m.steps w.steps_apart s.0 t.0 s.1 t.1 (pair_of s.0 t.0 parts.0 (ap (λ p. p.0) parts.1)) in
      let node = once-of_apart (λ z. z.0) (nodes s.0.iteration) (nodes-apart s.0.iteration) x.0 y.0 x.1 (subst (λ u. In y.0 (nodes u.iteration)) (sym same) y.1) (ap (λ p. p.1) parts.1) in
      same_Some l k (sym x.2 ∙ ap (level_at s.0) node ∙ ap (λ u. level_at u y.0) same ∙ y.2)
    where
      pair_of : (a b : StepMeaning) → a.instance ≡ b.instance → a.step ≡ b.step → step_key a ≡ step_key b
      pair_of a b p q = λ i. (p i, q i)

  -- ---- every node says what it needs

  sound-by : (J : JobName) (R : Origin → Type 0) (o : Origin) (q : Known) → GroundedBy (λ l. In l (levels m.steps)) (λ j. In j m.jobs) J R o q → IsSoundAt gives m o q
  sound-by J R o at_start h = h
  sound-by J R o (by_job n) h = h.0
  sound-by J R o (by_level n) h = in_each (IsSourced gives m o n) (levels m.steps) one
    where
      one : (l : Level) → In l (levels m.steps) → IsSourced gives m o n l
      one l i e = h.4 ∙ ap (λ k. needs_of k.sources) (levels-once h.0 l h.1 i (h.2 ∙ (same_job_decides n l.name).0 e))

  ground-sound : (J : JobName) (k : ℕ) (o : Origin) → GroundedIn gives D m J k o → IsSound gives m o
  ground-sound J zero o h = sound-by J (λ s. ⊥) o o.known h
  ground-sound J (suc k) o h = sound-by J (λ s. GroundedIn gives D m J k s) o o.known h

  pub all-sound : AllSound gives m
  all-sound = in_each (λ l. Each (IsSound gives m) l.sources) (levels m.steps) (λ l i. let g = w.sources l i in each-weaken (GroundedIn gives D m l.instance g.0) (IsSound gives m) (ground-sound l.instance g.0) l.sources g.1)

  pub are-jobs : AreJobs gives m
  are-jobs = record {
    once = once-of_apart (λ j. j.name) m.jobs w.jobs_apart;
    has_name = λ j i. first_part j.instance (w.jobs j i).key j.name (w.jobs j i).named;
    in_step = λ j i. let t = (w.jobs j i).of_step in (t.0, t.1, t.2, λ past h. subst (λ q. is_known m past q ≡ true) t.5 (of-all (λ o. is_known m past o.known) t.0.ending h t.3 t.4));
    sound = λ j i. let g = (w.jobs j i).waits in each-weaken (GroundedIn gives D m j.instance g.0) (IsSound gives m) (ground-sound j.instance g.0) j.waits g.1;
    bounced_asks = λ j i b past. ap is_first (ap (asks_left past j.name) ((w.jobs j i).no_asks b) ∙ asks_left-none past j.name);
  }
    where
      is_first : List Ask → Bool
      is_first l = is_some (first_of_list l)

      first_part : (n : JobName) (k : Name × Place) (x : JobName) → x ≡ n ++ k ∷ [] → (c : Name × Place) × (r : JobName) × (x ≡ c ∷ r)
      first_part [] k x e = (k, [], e)
      first_part (c ∷ n) k x e = (c, n ++ k ∷ [], e)

  -- ---- where nothing can be settled, a node whose needs are settled is known

  module _ (past : History) (quiet : can_settle_more m past ≡ false) where
    pub no-bounce : (j : Job) → In j m.jobs → can_bounce m past j ≡ false
    no-bounce = each_in (λ j. can_bounce m past j ≡ false) m.jobs (none_pass (can_bounce m past) m.jobs (or_parts (list_any (can_bounce m past) m.jobs) (list_any (can_settle m past) (levels m.steps)) (or_parts (list_any (can_bounce m past) m.jobs || list_any (can_settle m past) (levels m.steps)) (list_any (can_end m past) (instances m)) quiet).0).0)

    pub no-settling : (l : Level) → In l (levels m.steps) → can_settle m past l ≡ false
    no-settling = each_in (λ l. can_settle m past l ≡ false) (levels m.steps) (none_pass (can_settle m past) (levels m.steps) (or_parts (list_any (can_bounce m past) m.jobs) (list_any (can_settle m past) (levels m.steps)) (or_parts (list_any (can_bounce m past) m.jobs || list_any (can_settle m past) (levels m.steps)) (list_any (can_end m past) (instances m)) quiet).0).1)

    pub no-ending : (n : JobName) → In n (instances m) → can_end m past n ≡ false
    no-ending = each_in (λ n. can_end m past n ≡ false) (instances m) (none_pass (can_end m past) (instances m) (or_parts (list_any (can_bounce m past) m.jobs || list_any (can_settle m past) (levels m.steps)) (list_any (can_end m past) (instances m)) quiet).1)

    -- a list whose sources are known is closed
    pub closed-if_known : (l : Level) → In l (levels m.steps) → is_open past l.instance ≡ true → all_known m past l.sources ≡ true → has_entry past l.name ≡ true
    closed-if_known l i o k = true_from_ne_false (has_entry past l.name) (λ e. true≠false (sym (both_true (is_open past l.instance && not (has_entry past l.name)) (all_known m past l.sources) (both_true (is_open past l.instance) (not (has_entry past l.name)) o (ap not e)) k) ∙ no-settling l i))

    module _ (J : JobName) (open_now : is_open past J ≡ true) where
      abbrev NeedsAre : List JobName → Type 0
      NeedsAre ns = list_all (is_settled_name m past) ns ≡ true

      all-known_of : (R : Origin → Type 0) → ((o : Origin) → R o → NeedsAre o.needs → is_known m past o.known ≡ true) → (os : List Origin) → Each R os → NeedsAre (needs_of os) → all_known m past os ≡ true
      all-known_of R rec [] v h = refl
      all-known_of R rec (o ∷ os) v h =
          let both = sym (list_all-append (is_settled_name m past) o.needs (needs_of os)) ∙ h in
          both_true (is_known m past o.known) (all_known m past os)
          (rec o v.0 (first_so (list_all (is_settled_name m past) o.needs) (list_all (is_settled_name m past) (needs_of os)) both))
          (all-known_of R rec os v.1 (second_so (list_all (is_settled_name m past) o.needs) (list_all (is_settled_name m past) (needs_of os)) both))

      known-by : (R : Origin → Type 0) → ((o : Origin) → R o → NeedsAre o.needs → is_known m past o.known ≡ true) → (o : Origin) (q : Known) → GroundedBy (λ l. In l (levels m.steps)) (λ j. In j m.jobs) J R o q → NeedsAre o.needs → is_known m past q ≡ true
      known-by R rec o at_start h k = refl
      known-by R rec o (by_job n) h k = first_so (is_settled_name m past n) true (subst NeedsAre h.0 k)
      known-by R rec o (by_level n) h k =
          subst (λ x. has_entry past x ≡ true) h.2 (closed-if_known h.0 h.1 (subst (λ x. is_open past x ≡ true) (sym h.3) open_now) (all-known_of R rec h.0.sources h.5 (subst NeedsAre h.4 k)))

      pub settled-known : (k : ℕ) (o : Origin) → GroundedIn gives D m J k o → NeedsAre o.needs → is_known m past o.known ≡ true
      settled-known zero o h n = known-by (λ s. ⊥) (λ s a. absurd a) o o.known h n
      settled-known (suc k) o h n = known-by (λ s. GroundedIn gives D m J k s) (λ s a b. settled-known k s a b) o o.known h n

    -- a job's nodes are all known exactly where its needs are settled
    pub waits-known : is_legal gives m past ≡ true → (j : Job) → In j m.jobs → is_open past j.instance ≡ true → all_known m past j.waits ≡ list_all (is_settled_name m past) (job_needs j)
    waits-known legal j i o =
        let g = (w.jobs j i).waits in
        one_truth (all_known m past j.waits) (list_all (is_settled_name m past) (job_needs j))
        (needs_of-settled gives m past (λ s t q. known-needs gives m all-sound past legal s s.known t q) j.waits (are-jobs.sound j i))
        (all-known_of j.instance o (GroundedIn gives D m j.instance g.0) (settled-known j.instance o g.0) j.waits g.1)

  -- readiness
  pub ready : (past : History) → is_legal gives m past ≡ true → can_settle_more m past ≡ false → (j : Job) → In j m.jobs → is_offered m past j ≡ is_offered_by_meaning m past j
  ready past legal quiet j i = offered-by_meaning gives m all-sound are-jobs past legal j i (waits-known past quiet legal j i)

-- ---- every document

pub document-whole : (gives : Giving) (d : Document) → IsWhole gives AnyNumber (meaning gives d) []
document-whole gives d = meaning-whole gives AnyNumber d (each-all (λ f. StepsHave gives AnyNumber f.1) (λ f. each-all (λ s. Unit {0}) (λ s. tt) f.1.steps) d.flows)

-- READINESS: for every document and all services, in every legal history in which no settlement is possible
pub readiness : (gives : Giving) (d : Document) (past : History) → is_legal gives (meaning gives d) past ≡ true → can_settle_more (meaning gives d) past ≡ false → (j : Job) → In j (meaning gives d).jobs → is_offered (meaning gives d) past j ≡ is_offered_by_meaning (meaning gives d) past j
readiness gives d =
    ready gives AnyNumber (meaning gives d) [] (document-whole gives d)
