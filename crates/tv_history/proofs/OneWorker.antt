-- One worker: at most one job of an instance runs, and while it runs nothing else of the instance settles.
use Rattle.std.specs.Prelude.{◌≡◌, refl, ℕ, zero, suc, ◌+◌, ◌⊎◌, List, [], ◌∷◌, ◌++◌, length, Bool, true, false, not, ◌&&◌, ◌||◌, if◌then◌else◌, cond, Some, is_some, is_none, find}
use Rattle.std.specs.List.{list_any, list_all}
use Rattle.std.specs.Option.{option_map_or}
use Rattle.std.proofs.Common.{arith, sym, ap, subst, ◌∙◌, inl, inr, append-nil, length-append}
use Rattle.std.proofs.lemmas.Bool.{false_from_ne_true, not-true, or_parts}
use Rattle.std.proofs.lemmas.List.{nil_from_length}
use Rattle.std.specs.Cmp.{first_so, second_so}
use Rattle.tv_lemmas.specs.Members.{Each, In}
use Rattle.tv_lemmas.proofs.Members.{each_in, of-all}
use Rattle.tv_history.proofs.Legal.{legal-of, Legal, accepts}
use Rattle.tv_lemmas.proofs.Cases.{on_either, on_or}
use Rattle.tv_value.specs.Values.{JobName}
use Rattle.tv_value.specs.Orders.{same_job, same_name}
use Rattle.tv_value.proofs.JobNameLemmas.{same_job_decides}
use Rattle.tv_strategy.specs.Origins.{Origin, Known, at_start, by_job, by_level}
use Rattle.tv_gate.specs.Outcomes.{Giving}
use Rattle.tv_model.specs.Jobs.{Job, job_needs}
use Rattle.tv_model.specs.Made.{Meaning}
use Rattle.tv_model.specs.Turns.{is_bounced}
use Rattle.tv_history.specs.Entries.{Entry, handed_out, accepted, bounced, closed, fault_passed, opened, ended, recalled, History, is_accepted, is_bounced_entry, is_opened_entry, is_ended_entry, is_begun_entry, is_out}
use Rattle.tv_model.specs.Levels.{levels}
use Rattle.tv_model.specs.Lists.{first_of_list, rest_of}
use Rattle.tv_history.specs.Histories.{asks_left, next_ask, is_settled, is_settled_name, all_known, is_open, is_running, is_idle, is_ready, has_place, may_go_on, is_offered, can_open, can_settle_more, is_at, is_legal, is_legal_after}
use Rattle.tv_model.proofs.Tests.{true≠false, both_true, or_right}
use Rattle.tv_history.proofs.Needs.{stays_settled}
use Rattle.tv_model.proofs.Fed.{each-flat_map}
use Rattle.tv_history.proofs.Running.{opened_begins, out-begun, settled_of_name, idle_begun, going_on, ready-needs, begins}
use Rattle.tv_model.specs.JobOrder.{Apart}
use Rattle.tv_model.proofs.Grounds.{GroundedBy}
use Rattle.tv_model.proofs.Whole.{GroundedIn, IsWhole}
use Rattle.tv_history.proofs.Ready.{all-sound, are-jobs, no-bounce, waits-known}
use Rattle.tv_history.proofs.Stuck.{AtLeastOne, settled-name, goes, running-within}
use Rattle.tv_history.proofs.Done.{ends-it}
use Rattle.tv_history.proofs.Sums.{bounces-it}
use Rattle.tv_history.proofs.Bounded.{ready-parts}
use Rattle.tv_history.proofs.Tests.{any_weaken, fails_in, full, all-fails}
pub use Rattle.tv_history.specs.Alone.{nobody_out, is_by_one_after, is_by_one}

-- ---- before in a list

abbrev pub Before : {A : Type 0} → A → A → List A → Type 0
Before x y [] = ⊥
Before x y (z ∷ zs) = ((z ≡ x) × In y zs) ⊎ Before x y zs

pub before-left : {A : Type 0} (x y : A) (xs : List A) → Before x y xs → In x xs
before-left x y [] b = absurd b
before-left x y (z ∷ zs) (inl b) = inl (sym b.0)
before-left x y (z ∷ zs) (inr b) = inr (before-left x y zs b)

pub before-right : {A : Type 0} (x y : A) (xs : List A) → Before x y xs → In y xs
before-right x y [] b = absurd b
before-right x y (z ∷ zs) (inl b) = inr b.1
before-right x y (z ∷ zs) (inr b) = inr (before-right x y zs b)

pub not-both : {A K : Type 0} (key : A → K) (xs : List A) → Apart key xs → (x y : A) → Before x y xs → Before y x xs → ⊥
not-both key [] a x y b c = b
not-both key (z ∷ zs) a x y (inl b) (inl c) = a.0 y b.1 (ap key (sym c.0))
not-both key (z ∷ zs) a x y (inl b) (inr c) = a.0 x (before-right y x zs c) (ap key (sym b.0))
not-both key (z ∷ zs) a x y (inr b) (inl c) = a.0 y (before-right x y zs b) (ap key (sym c.0))
not-both key (z ∷ zs) a x y (inr b) (inr c) = not-both key zs a.1 x y b c

pub one-first : {A : Type 0} (xs : List A) (x y : A) → In x xs → In y xs → (x ≡ y) ⊎ (Before x y xs ⊎ Before y x xs)
one-first [] x y h k = absurd h
one-first (z ∷ zs) x y (inl p) (inl q) = inl (p ∙ sym q)
one-first (z ∷ zs) x y (inl p) (inr k) = inr (inl (inl (sym p, k)))
one-first (z ∷ zs) x y (inr h) (inl q) = inr (inr (inl (sym q, h)))
one-first {A = A} (z ∷ zs) x y (inr h) (inr k) = by (one-first zs x y h k)
  where
    by : (x ≡ y) ⊎ (Before x y zs ⊎ Before y x zs) → (x ≡ y) ⊎ (Before x y (z ∷ zs) ⊎ Before y x (z ∷ zs))
    by (inl p) = inl p
    by (inr (inl b)) = inr (inl (inr b))
    by (inr (inr b)) = inr (inr (inr b))

-- what is found stands before all others that pass
pub found-first : {A : Type 0} (p q : A → Bool) (xs : List A) → option_map_or q (find p xs) false ≡ true → (x : A) × In x xs × (p x ≡ true) × (q x ≡ true) × ((y : A) → In y xs → p y ≡ true → (y ≡ x) ⊎ Before x y xs)
found-first p q [] h = absurd (true≠false (sym h))
found-first {A = A} p q (x ∷ xs) h = by (p x) refl h (λ k. found-first p q xs k)
  where
    Found : List A → Type 0
    Found ys = (z : A) × In z ys × (p z ≡ true) × (q z ≡ true) × ((y : A) → In y ys → p y ≡ true → (y ≡ z) ⊎ Before z y ys)

    first : (y : A) → In y (x ∷ xs) → (y ≡ x) ⊎ Before x y (x ∷ xs)
    first y (inl e) = inl e
    first y (inr i) = inr (inl (refl, i))

    later : (z y : A) → (y ≡ z) ⊎ Before z y xs → (y ≡ z) ⊎ Before z y (x ∷ xs)
    later z y (inl e) = inl e
    later z y (inr b) = inr (inr b)

    others : (z : A) → p x ≡ false → ((y : A) → In y xs → p y ≡ true → (y ≡ z) ⊎ Before z y xs) → (y : A) → In y (x ∷ xs) → p y ≡ true → (y ≡ z) ⊎ Before z y (x ∷ xs)
    others z e f y (inl g) k = absurd (true≠false (sym k ∙ ap p g ∙ e))
    others z e f y (inr i) k = later z y (f y i k)

    by : (b : Bool) → p x ≡ b → option_map_or q (cond b (Some x) (find p xs)) false ≡ true → (option_map_or q (find p xs) false ≡ true → (z : A) × In z xs × (p z ≡ true) × (q z ≡ true) × ((y : A) → In y xs → p y ≡ true → (y ≡ z) ⊎ Before z y xs)) → (z : A) × In z (x ∷ xs) × (p z ≡ true) × (q z ≡ true) × ((y : A) → In y (x ∷ xs) → p y ≡ true → (y ≡ z) ⊎ Before z y (x ∷ xs))
    by true e k rec = (x, inl refl, e, k, λ y i g. first y i)
    by false e k rec = let r = rec k in (r.0, inr r.1, r.2, r.3, others r.0 e r.4)

-- the jobs inside a job stand before the later jobs of its instance
abbrev pub IsLaidOut : List Job → Type 0
IsLaidOut js = (k j x : Job) → Before k j js → k.instance ≡ j.instance → In x js → (r : JobName) → x.name ≡ k.name ++ r → Before x j js

-- ---- one worker

module _ (gives : Giving) (m : Meaning) where
  abbrev pub begun : History → Job → Bool
  begun past j = list_any (is_begun_entry j.name) past

  abbrev pub NeedsSettled : History → Job → Bool
  NeedsSettled past y = list_all (is_settled_name m past) (job_needs y)

  -- at most one job of an instance runs
  abbrev pub OneRuns : History → Type 0
  OneRuns past = (j k : Job) → In j m.jobs → In k m.jobs → j.instance ≡ k.instance → is_running past j ≡ true → is_running past k ≡ true → j ≡ k

  -- while it runs, a bounced job of the instance, or one that stands before it, that isn't settled or begun has an unsettled need
  abbrev pub OthersWait : History → Type 0
  OthersWait past = (c y : Job) → In c m.jobs → In y m.jobs → y.instance ≡ c.instance → is_running past c ≡ true → is_settled past y ≡ false → begun past y ≡ false → (is_bounced y.ending ≡ true) ⊎ Before y c m.jobs → NeedsSettled past y ≡ false

  module _ (w : IsWhole gives AtLeastOne m []) (laid : IsLaidOut m.jobs) where
    once : (j k : Job) → In j m.jobs → In k m.jobs → j.name ≡ k.name → j ≡ k
    once = (are-jobs gives AtLeastOne m [] w).once

    -- a job's needs are jobs of its instance
    abbrev NeedIn : JobName → JobName → Type 0
    NeedIn J n = (z : Job) × In z m.jobs × (z.name ≡ n) × (z.instance ≡ J)

    need-by : (J : JobName) (R : Origin → Type 0) → ((o : Origin) → R o → Each (NeedIn J) o.needs) → (o : Origin) (q : Known) → GroundedBy (λ l. In l (levels m.steps)) (λ j. In j m.jobs) J R o q → Each (NeedIn J) o.needs
    need-by J R rec o at_start h = subst (λ ns. Each (NeedIn J) ns) (sym h) tt
    need-by J R rec o (by_job n) h = subst (λ ns. Each (NeedIn J) ns) (sym h.0) ((h.1.0, h.1.1, h.1.2, h.1.3), tt)
    need-by J R rec o (by_level n) h = subst (λ ns. Each (NeedIn J) ns) (sym h.4) (each-flat_map R (NeedIn J) (λ (s : Origin). s.needs) rec h.0.sources h.5)

    need-in : (J : JobName) (k : ℕ) (o : Origin) → GroundedIn gives AtLeastOne m J k o → Each (NeedIn J) o.needs
    need-in J zero o h = need-by J (λ s. ⊥) (λ s a. absurd a) o o.known h
    need-in J (suc k) o h = need-by J (λ s. GroundedIn gives AtLeastOne m J k s) (λ s a. need-in J k s a) o o.known h

    job-needs-in : (j : Job) → In j m.jobs → Each (NeedIn j.instance) (job_needs j)
    job-needs-in j i = let g = (w.jobs j i).waits in each-flat_map (GroundedIn gives AtLeastOne m j.instance g.0) (NeedIn j.instance) (λ (s : Origin). s.needs) (need-in j.instance g.0) j.waits g.1

    -- ---- what settles a job

    abbrev SettledBy : History → Job → Bool → Bool → Bool
    SettledBy past j b o = if b then list_any (is_bounced_entry j.name) past else (if o then list_any (is_ended_entry j.name) past else is_none (next_ask past j))

    pub newly-settled : (past : History) (e : Entry) (j : Job) → is_settled past j ≡ false → is_settled (e ∷ past) j ≡ true → (is_bounced_entry j.name e ≡ true) ⊎ ((is_accepted j.name e ≡ true) ⊎ (is_ended_entry j.name e ≡ true))
    newly-settled past e j f t = by (is_bounced j.ending) (is_some j.opens) f t
      where
        now : (a b : Bool) → b ≡ false → (a || b) ≡ true → a ≡ true
        now true b p q = refl
        now false b p q = absurd (true≠false (sym q ∙ p))

        took : (b : Bool) → is_none (next_ask past j) ≡ false → is_none (first_of_list (if b then rest_of (asks_left past j.name j.asks) else asks_left past j.name j.asks)) ≡ true → b ≡ true
        took true p q = refl
        took false p q = absurd (true≠false (sym q ∙ p))

        by : (b o : Bool) → SettledBy past j b o ≡ false → SettledBy (e ∷ past) j b o ≡ true → (is_bounced_entry j.name e ≡ true) ⊎ ((is_accepted j.name e ≡ true) ⊎ (is_ended_entry j.name e ≡ true))
        by true o p q = inl (now (is_bounced_entry j.name e) (list_any (is_bounced_entry j.name) past) p q)
        by false true p q = inr (inr (now (is_ended_entry j.name e) (list_any (is_ended_entry j.name) past) p q))
        by false false p q = inr (inl (took (is_accepted j.name e) p q))

    pub unsettled-before : (past : History) (e : Entry) (j : Job) → is_settled (e ∷ past) j ≡ false → is_settled past j ≡ false
    unsettled-before past e j f = false_from_ne_true (is_settled past j) (λ g. true≠false (sym (stays_settled gives m e past j g) ∙ f))

    pub accepted-begun : (past : History) {e : Entry} (j : Job) → Legal gives m past e → is_accepted j.name e ≡ true → begun past j ≡ true
    accepted-begun past j (accepts k a i o q) h = out-begun past j.name (subst (λ n. is_out past n ≡ true) (sym ((same_job_decides j.name k.name).0 h)) o)
    accepted-begun past j l h = absurd (true≠false (sym h))

    pub ended-begun : (past : History) {e : Entry} (j : Job) → In j m.jobs → Legal gives m past e → is_ended_entry j.name e ≡ true → begun past j ≡ true
    ended-begun past {e = e} j i l h =
        let c = (are-jobs gives AtLeastOne m [] w).has_name j i in
        let o = ends-it gives AtLeastOne m w past c.0 c.1 l (subst (λ n. is_ended_entry n e ≡ true) c.2 h) in
        any_weaken (is_opened_entry j.name) (is_begun_entry j.name) (opened_begins j.name) past (subst (λ n. list_any (is_opened_entry n) past ≡ true) (sym c.2) (first_so (list_any (is_opened_entry (c.0 ∷ c.1)) past) (not (list_any (is_ended_entry (c.0 ∷ c.1)) past)) o))

    -- ---- where a job begins

    pub record Begins (past : History) (j : Job) : Type 0 where
      pub quiet : can_settle_more m past ≡ false
      pub none_out : (x : Job) → In x m.jobs → is_out past x.name ≡ false
      pub goes_on : may_go_on m past j ≡ true
      pub first : (x : Job) → In x m.jobs → (is_offered m past x || can_open m past x) ≡ true → (x ≡ j) ⊎ Before j x m.jobs

    none-out_of : (past : History) → nobody_out m past ≡ true → (x : Job) → In x m.jobs → is_out past x.name ≡ false
    none-out_of past h x i = not-true (is_out past x.name) (of-all (λ j. not (is_out past j.name)) m.jobs h x i)

    pub begins-first : (past : History) (e : Entry) (j : Job) → In j m.jobs → is_legal_after gives m past e ≡ true → is_by_one_after m past e ≡ true → is_begun_entry j.name e ≡ true → Begins past j
    begins-first past (handed_out n c t) j i l b h =
        let two = first_so (not (can_settle_more m past) && option_map_or (λ j. is_at j n) (find (λ j. is_offered m past j || can_open m past j) m.jobs) false) (nobody_out m past) b in
        let f = found-first (λ j. is_offered m past j || can_open m past j) (λ j. is_at j n) m.jobs (second_so (not (can_settle_more m past)) _ two) in
        let same = once f.0 j f.1 i (sym ((same_job_decides n f.0.name).0 f.3) ∙ sym ((same_job_decides j.name n).0 h)) in
        record { quiet = not-true (can_settle_more m past) (first_so (not (can_settle_more m past)) _ two); none_out = none-out_of past (second_so (not (can_settle_more m past) && option_map_or (λ j. is_at j n) (find (λ j. is_offered m past j || can_open m past j) m.jobs) false) (nobody_out m past) b); goes_on = begins gives m (all-sound gives AtLeastOne m [] w) (are-jobs gives AtLeastOne m [] w) past j i (legal-of gives m past (handed_out n c t) l) h; first = λ x k g. subst (λ y. (x ≡ y) ⊎ Before y x m.jobs) same (f.4 x k g) }
    begins-first past (opened n) j i l b h =
        let f = found-first (λ j. is_offered m past j || can_open m past j) (λ j. is_at j n && can_open m past j) m.jobs (second_so (not (can_settle_more m past)) _ l) in
        let same = once f.0 j f.1 i (sym ((same_job_decides n f.0.name).0 (first_so (is_at f.0 n) (can_open m past f.0) f.3)) ∙ sym ((same_job_decides j.name n).0 h)) in
        record { quiet = not-true (can_settle_more m past) (first_so (not (can_settle_more m past)) _ l); none_out = none-out_of past b; goes_on = begins gives m (all-sound gives AtLeastOne m [] w) (are-jobs gives AtLeastOne m [] w) past j i (legal-of gives m past (opened n) l) h; first = λ x k g. subst (λ y. (x ≡ y) ⊎ Before y x m.jobs) same (f.4 x k g) }
    begins-first past e j i l b h = absurd (true≠false (sym h))

    -- ---- what runs

    run-parts : (past : History) (j : Job) → is_running past j ≡ true → (begun past j ≡ true) × (is_settled past j ≡ false)
    run-parts past j h = (first_so (begun past j) (not (is_settled past j)) h, not-true (is_settled past j) (second_so (begun past j) (not (is_settled past j)) h))

    make-run : (past : History) (j : Job) → begun past j ≡ true → is_settled past j ≡ false → is_running past j ≡ true
    make-run past j b s = both_true (begun past j) (not (is_settled past j)) b (ap not s)

    module _ (past : History) (e : Entry) (legal : is_legal gives m past ≡ true) (after : is_legal_after gives m past e ≡ true) (mine : is_by_one_after m past e ≡ true) (one : OneRuns past) (wait : OthersWait past) where
      ran-before : (j : Job) → is_running (e ∷ past) j ≡ true → (is_running past j ≡ true) ⊎ (is_begun_entry j.name e ≡ true)
      ran-before j h =
          let r = run-parts (e ∷ past) j h in (on_or (is_begun_entry j.name e) (begun past j) r.0 (λ b. inr b) (λ b. inl (make-run past j b (unsettled-before past e j r.1))))

      -- a job of the instance of a running one doesn't begin
      clash : (j k : Job) → In j m.jobs → In k m.jobs → j.instance ≡ k.instance → is_begun_entry j.name e ≡ true → is_settled past j ≡ false → is_running past k ≡ true → j ≡ k
      clash j k i h s b u r =
          let f = begins-first past e j i after mine b in
          let x = running-within gives m w past legal f.none_out f.quiet k h r in
          by f x.0 x.1 x.2.0 x.2.1 (f.first x.0 x.1 x.3)
        where
          same_length : (x : JobName) → j.name ≡ k.name ++ x → j ≡ k
          same_length x p = once j k i h (p ∙ ap (λ y. k.name ++ y) (nil_from_length x (omega (arith, ap length ((w.jobs j i).named) ∙ length-append j.instance ((w.jobs j i).key ∷ []), ap length ((w.jobs k h).named) ∙ length-append k.instance ((w.jobs k h).key ∷ []), ap length s, ap length p ∙ length-append k.name x))) ∙ append-nil k.name)

          waiting : Begins past j → Before j k m.jobs → (c : Bool) → begun past j ≡ c → j ≡ k
          waiting f q true c = one j k i h s (make-run past j c u) r
          waiting f q false c = on_either (going_on gives m (all-sound gives AtLeastOne m [] w) (are-jobs gives AtLeastOne m [] w) past j f.goes_on) (λ y. absurd (true≠false (sym (idle_begun gives m (all-sound gives AtLeastOne m [] w) (are-jobs gives AtLeastOne m [] w) past j y).0 ∙ c))) (λ y. absurd (true≠false (sym (ready-needs gives m (all-sound gives AtLeastOne m [] w) (are-jobs gives AtLeastOne m [] w) past j i legal y) ∙ wait k j h i s r u c (inr q))))

          by : Begins past j → (x : Job) → In x m.jobs → (n : JobName) → x.name ≡ k.name ++ n → (x ≡ j) ⊎ Before j x m.jobs → j ≡ k
          by f x y n p (inl q) = same_length n (ap (λ (z : Job). z.name) (sym q) ∙ p)
          by f x y n p (inr q) = order (one-first m.jobs j k i h)
            where
              order : (j ≡ k) ⊎ (Before j k m.jobs ⊎ Before k j m.jobs) → j ≡ k
              order (inl z) = z
              order (inr (inl z)) = waiting f z (begun past j) refl
              order (inr (inr z)) = absurd (not-both (λ (v : Job). v.name) m.jobs w.jobs_apart j x q (laid k j x z (sym s) y n p))

      pub one-after : OneRuns (e ∷ past)
      one-after j k i h s r u = by (ran-before j r) (ran-before k u)
        where
          by : (is_running past j ≡ true) ⊎ (is_begun_entry j.name e ≡ true) → (is_running past k ≡ true) ⊎ (is_begun_entry k.name e ≡ true) → j ≡ k
          by (inl a) (inl b) = one j k i h s a b
          by (inr a) (inl b) = clash j k i h s a (unsettled-before past e j (run-parts (e ∷ past) j r).1) b
          by (inl a) (inr b) = sym (clash k j h i (sym s) b (unsettled-before past e k (run-parts (e ∷ past) k u).1) a)
          by (inr a) (inr b) = same_entry e a b
            where
              same_entry : (e : Entry) → is_begun_entry j.name e ≡ true → is_begun_entry k.name e ≡ true → j ≡ k
              same_entry (handed_out n c t) a b = once j k i h ((same_job_decides j.name n).0 a ∙ sym ((same_job_decides k.name n).0 b))
              same_entry (opened n) a b = once j k i h ((same_job_decides j.name n).0 a ∙ sym ((same_job_decides k.name n).0 b))
              same_entry e a b = absurd (true≠false (sym a))

      -- while a job runs on, no other of its instance settles
      pub others-stay : (c z : Job) → In c m.jobs → In z m.jobs → z.instance ≡ c.instance → is_running past c ≡ true → is_settled (e ∷ past) c ≡ false → is_settled past z ≡ false → is_settled (e ∷ past) z ≡ true → ⊥
      others-stay c z i h s r u f t = by (newly-settled past e z f t)
        where
          is_c : begun past z ≡ true → ⊥
          is_c b = true≠false (sym (subst (λ x. is_settled (e ∷ past) x ≡ true) (one z c h i s (make-run past z b f) r) t) ∙ u)

          by : (is_bounced_entry z.name e ≡ true) ⊎ ((is_accepted z.name e ≡ true) ⊎ (is_ended_entry z.name e ≡ true)) → ⊥
          by (inl x) =
              let b = bounces-it gives AtLeastOne m w past z h (legal-of gives m past e after) x in
              let q = first_so (is_ready m past z) (is_bounced z.ending) b in
              true≠false (sym (ready-needs gives m (all-sound gives AtLeastOne m [] w) (are-jobs gives AtLeastOne m [] w) past z h legal q) ∙ wait c z i h s r f (ready-parts gives AtLeastOne m w past z q) (inl (second_so (is_ready m past z) (is_bounced z.ending) b)))
          by (inr (inl x)) = is_c (accepted-begun past z (legal-of gives m past e after) x)
          by (inr (inr x)) = is_c (ended-begun past z h (legal-of gives m past e after) x)

      -- what isn't settled of a job's needs isn't settled by this entry
      needs-kept : (y : Job) → In y m.jobs → ((z : Job) → In z m.jobs → z.instance ≡ y.instance → is_settled past z ≡ false → is_settled (e ∷ past) z ≡ true → ⊥) → NeedsSettled past y ≡ false → NeedsSettled (e ∷ past) y ≡ false
      needs-kept y h stay f =
          let n = fails_in (is_settled_name m past) (job_needs y) f in
          let z = each_in (NeedIn y.instance) (job_needs y) (job-needs-in y h) n.0 n.1 in
          all-fails (is_settled_name m (e ∷ past)) n.0 (job_needs y) n.1 (by n.0 z.0 z.1 z.2 z.3 n.2 (is_settled_name m (e ∷ past) n.0) refl)
        where
          before : (n : JobName) (z : Job) → In z m.jobs → z.name ≡ n → is_settled_name m past n ≡ false → (b : Bool) → is_settled past z ≡ b → is_settled past z ≡ false
          before n z i q g false p = p
          before n z i q g true p = absurd (true≠false (sym (subst (λ x. is_settled_name m past x ≡ true) q (settled-name gives AtLeastOne m w past z i p)) ∙ g))

          by : (n : JobName) (z : Job) → In z m.jobs → z.name ≡ n → z.instance ≡ y.instance → is_settled_name m past n ≡ false → (b : Bool) → is_settled_name m (e ∷ past) n ≡ b → is_settled_name m (e ∷ past) n ≡ false
          by n z i q s g false p = p
          by n z i q s g true p =
              absurd (stay z i s (before n z i q g (is_settled past z) refl) (settled_of_name gives m (all-sound gives AtLeastOne m [] w) (are-jobs gives AtLeastOne m [] w) (e ∷ past) z i (subst (λ x. is_settled_name m (e ∷ past) x ≡ true) (sym q) p)))

      pub none-settles : (c z : Job) → is_begun_entry c.name e ≡ true → is_settled past z ≡ false → is_settled (e ∷ past) z ≡ true → ⊥
      none-settles c z b f t = by e b (newly-settled past e z f t)
        where
          by : (x : Entry) → is_begun_entry c.name x ≡ true → (is_bounced_entry z.name x ≡ true) ⊎ ((is_accepted z.name x ≡ true) ⊎ (is_ended_entry z.name x ≡ true)) → ⊥
          by (handed_out n k t) q (inl p) = true≠false (sym p)
          by (handed_out n k t) q (inr (inl p)) = true≠false (sym p)
          by (handed_out n k t) q (inr (inr p)) = true≠false (sym p)
          by (opened n) q (inl p) = true≠false (sym p)
          by (opened n) q (inr (inl p)) = true≠false (sym p)
          by (opened n) q (inr (inr p)) = true≠false (sym p)
          by (accepted n k t r) q p = true≠false (sym q)
          by (bounced n) q p = true≠false (sym q)
          by (closed n k) q p = true≠false (sym q)
          by (fault_passed n) q p = true≠false (sym q)
          by (ended n) q p = true≠false (sym q)
          by (recalled n) q p = true≠false (sym q)

      -- at the moment in which a job begins, the others wait
      wait-now : (c y : Job) → In c m.jobs → In y m.jobs → y.instance ≡ c.instance → is_begun_entry c.name e ≡ true → is_running past c ≡ false → is_settled (e ∷ past) c ≡ false → is_settled past y ≡ false → begun past y ≡ false → is_begun_entry y.name e ≡ false → (is_bounced y.ending ≡ true) ⊎ Before y c m.jobs → (b : Bool) → NeedsSettled past y ≡ b → NeedsSettled past y ≡ false
      wait-now c y i h s b r cs u ny ne o false g = g
      wait-now c y i h s b r cs u ny ne o true g = by (is_bounced y.ending) refl o
        where
          f : Begins past c
          f = begins-first past e c i after mine b

          open_c : is_open past c.instance ≡ true
          open_c =
              let q = on_either (going_on gives m (all-sound gives AtLeastOne m [] w) (are-jobs gives AtLeastOne m [] w) past c f.goes_on) (λ q. let p = idle_begun gives m (all-sound gives AtLeastOne m [] w) (are-jobs gives AtLeastOne m [] w) past c q in absurd (true≠false (sym (make-run past c p.0 p.1) ∙ r))) (λ q. q) in
              first_so (is_open past c.instance) (not (is_running past c)) (first_so (is_open past c.instance && not (is_running past c)) (not (is_settled past c)) (first_so (is_open past c.instance && not (is_running past c) && not (is_settled past c)) (all_known m past c.waits) q))

          open_y : is_open past y.instance ≡ true
          open_y = subst (λ n. is_open past n ≡ true) (sym s) open_c

          ready_y : is_ready m past y ≡ true
          ready_y =
              both_true (is_open past y.instance && not (is_running past y) && not (is_settled past y)) (all_known m past y.waits)
              (both_true (is_open past y.instance && not (is_running past y)) (not (is_settled past y)) (both_true (is_open past y.instance) (not (is_running past y)) open_y (ap (λ x. not (x && not (is_settled past y))) ny)) (ap not u))
              (waits-known gives AtLeastOne m [] w past f.quiet legal y h open_y ∙ g)

          offered_y : is_bounced y.ending ≡ false → (b : Bool) → has_place m past y ≡ b → Before y c m.jobs → NeedsSettled past y ≡ false
          offered_y nb true p q = on_either (f.first y h (goes gives m w past legal f.quiet y u nb (or_right (is_idle past y) (is_ready m past y && not (is_bounced y.ending) && has_place m past y) (both_true (is_ready m past y && not (is_bounced y.ending)) (has_place m past y) (both_true (is_ready m past y) (not (is_bounced y.ending)) ready_y (ap not nb)) p)))) (λ t. absurd (true≠false (sym (subst (λ x. is_begun_entry x.name e ≡ true) (sym t) b) ∙ ne))) (λ t. absurd (not-both (λ (v : Job). v.name) m.jobs w.jobs_apart y c q t))
          offered_y nb false p q =
              let z = full (λ k. same_job k.instance y.instance && same_name k.step y.step && is_running past k) m.jobs y.limit (w.jobs y h).limit p in
              let zr = second_so (same_job z.0.instance y.instance && same_name z.0.step y.step) (is_running past z.0) z.2 in
              let zs = (same_job_decides z.0.instance y.instance).0 (first_so (same_job z.0.instance y.instance) (same_name z.0.step y.step) (first_so (same_job z.0.instance y.instance && same_name z.0.step y.step) (is_running past z.0) z.2)) in
              absurd (true≠false (sym (subst (λ x. is_running past x ≡ true) (sym (clash c z.0 i z.1 (sym s ∙ sym zs) b (unsettled-before past e c cs) zr)) zr) ∙ r))

          by : (c2 : Bool) → is_bounced y.ending ≡ c2 → (is_bounced y.ending ≡ true) ⊎ Before y c m.jobs → NeedsSettled past y ≡ false
          by true nb q = absurd (true≠false (sym (both_true (is_ready m past y) (is_bounced y.ending) ready_y nb) ∙ no-bounce gives AtLeastOne m [] w past f.quiet y h))
          by false nb (inl q) = absurd (true≠false (sym q ∙ nb))
          by false nb (inr q) = offered_y nb (has_place m past y) refl q

      pub wait-after : OthersWait (e ∷ past)
      wait-after c y i h s r u b o =
          by (is_running past c) refl (ran-before c r)
        where
          u0 : is_settled past y ≡ false
          u0 = unsettled-before past e y u

          b0 : begun past y ≡ false
          b0 = (or_parts (is_begun_entry y.name e) (begun past y) b).1

          by : (t : Bool) → is_running past c ≡ t → (is_running past c ≡ true) ⊎ (is_begun_entry c.name e ≡ true) → NeedsSettled (e ∷ past) y ≡ false
          by true q p = needs-kept y h (λ z k v f t. others-stay c z i k (v ∙ s) q (run-parts (e ∷ past) c r).1 f t) (wait c y i h s q u0 b0 o)
          by false q (inl p) = absurd (true≠false (sym p ∙ q))
          by false q (inr p) = needs-kept y h (λ z k v f t. none-settles c z p f t) (wait-now c y i h s p q (run-parts (e ∷ past) c r).1 u0 b0 (or_parts (is_begun_entry y.name e) (begun past y) b).0 o (NeedsSettled past y) refl)

    -- in a legal history of one worker at most one job of an instance runs, and the others wait
    pub one-worker : (past : History) → is_legal gives m past ≡ true → is_by_one m past ≡ true → OneRuns past × OthersWait past
    one-worker [] l b = (λ j k i h s r u. absurd (true≠false (sym r)), λ c y i h s r u n o. absurd (true≠false (sym r)))
    one-worker (e ∷ past) l b =
        let legal = first_so (is_legal gives m past) (is_legal_after gives m past e) l in
        let after = second_so (is_legal gives m past) (is_legal_after gives m past e) l in
        let mine = second_so (is_by_one m past) (is_by_one_after m past e) b in
        let r = one-worker past legal (first_so (is_by_one m past) (is_by_one_after m past e) b) in
        (one-after past e legal after mine r.0 r.1, wait-after past e legal after mine r.0 r.1)
