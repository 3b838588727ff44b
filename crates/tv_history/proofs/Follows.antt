-- One instance under one worker: the accepted tries of its jobs, and of what stands inside them, follow its order.
use Rattle.std.proofs.lemmas.List.{map-append, length-map}
use Rattle.std.specs.Prelude.{◌≡◌, refl, ℕ, zero, suc, ◌≤◌, ◌⊎◌, List, [], ◌∷◌, ◌++◌, map, length, Bool, true, false, not, ◌&&◌, ◌||◌, if◌then◌else◌, Option, Some, None, is_some, is_none, flat_map, ◌+◌, filter, cond}
use Rattle.std.specs.List.{list_any, list_all}
use Rattle.std.specs.Option.{option_map_or}
use Rattle.std.proofs.Common.{sym, ap, subst, ◌∙◌, inl, inr, append_assoc, arith, append-nil, length-append}
use Rattle.std.proofs.lemmas.Bool.{false_from_ne_true, true_from_ne_false, not-true, or_cases}
use Rattle.std.specs.Cmp.{first_so, second_so}
use Rattle.tv_lemmas.specs.Members.{Each, In}
use Rattle.tv_lemmas.proofs.Members.{any-in, each_in, in-append, in-flat, in-left, in-map, in-right, of-all, of-flat, of-map, some_in}
use Rattle.tv_history.proofs.Legal.{legal-of}
use Rattle.tv_lemmas.proofs.Cases.{on_test, on_either}
use Rattle.tv_lemmas.proofs.Lists.{all-weaken}
use Rattle.tv_value.specs.Values.{JobName}
use Rattle.tv_value.specs.Orders.{same_job}
use Rattle.tv_value.proofs.JobNameLemmas.{same_job_decides}
use Rattle.tv_gate.specs.Outcomes.{Giving}
use Rattle.tv_dispatch.specs.Jobs.{Ask}
use Rattle.tv_model.specs.Jobs.{Job, job_needs}
use Rattle.tv_model.specs.Made.{Meaning, Opened}
use Rattle.tv_model.specs.Turns.{Turn, first_turn, asks_by_turns, is_bounced, all_done}
use Rattle.tv_model.specs.Meanings.{jobs_with_inside}
use Rattle.tv_history.specs.Entries.{Entry, handed_out, accepted, bounced, opened, History, is_accepted, is_bounced_entry, is_ended_entry, is_begun_entry}
use Rattle.tv_model.specs.Lists.{first_of_list}
use Rattle.tv_history.specs.Histories.{is_settled, is_settled_name, all_known, is_open, is_running, is_ready, is_legal, is_legal_after}
use Rattle.tv_model.proofs.Tests.{true≠false, both_true, or_right}
use Rattle.tv_history.proofs.Needs.{stays_settled_name}
use Rattle.tv_model.proofs.Turns.{or_left, AllRated, Found, first_turn-found, HasRate}
use Rattle.tv_model.proofs.Order.{opened_order, turn_of, waiting, in-waiting, of-waiting, parted-length, in-parted, of-filter}
use Rattle.tv_history.proofs.Running.{settled_of_name, idle_begun, going_on, ready-needs}
use Rattle.tv_model.proofs.Members.{once-of_apart}
use Rattle.tv_model.specs.JobOrder.{Apart}
use Rattle.tv_model.proofs.Whole.{IsWhole}
use Rattle.tv_lemmas.proofs.Members.{of-filter as passing-in}
use Rattle.tv_history.proofs.Ready.{all-sound, are-jobs, no-bounce, waits-known}
use Rattle.tv_history.proofs.Stuck.{AtLeastOne, begun-tried, settled-name}
use Rattle.tv_history.proofs.Done.{nothing_first, of-next, settled-none}
use Rattle.tv_history.proofs.Sums.{accepted_name, accepted-owned, bounces-it, bounce-facts}
use Rattle.tv_history.proofs.Permuted.{NamedTry, entry_try, ask_try}
use Rattle.tv_history.proofs.OneWorker.{Before, IsLaidOut, is_by_one, is_by_one_after, OneRuns, OthersWait, newly-settled, accepted-begun, ended-begun, Begins, begins-first, none-settles, one-worker, not-both}
use Rattle.tv_history.proofs.Taking.{Skipped, skip, NonePasses, turn-taken, join-append}
use Rattle.tv_history.proofs.Tests.{none_pass}
pub use Rattle.tv_history.specs.Alone.{IsFirstPart, HaveTries}

-- ---- what was tried of some jobs

abbrev pub is_of : List Job → JobName → Bool
is_of js n = list_any (λ j. same_job n j.name) js

abbrev pub try_within : List Job → Entry → List NamedTry
try_within js (accepted n c t r) = if is_of js n then (n, (c, t, r)) ∷ [] else []
try_within js _ = []

-- the accepted tries of these jobs, the oldest first
abbrev pub tries_within : List Job → History → List NamedTry
tries_within js [] = []
tries_within js (e ∷ past) = tries_within js past ++ try_within js e

pub record IsTry (e : Entry) : Type 0 where
  pub name : JobName
  pub accepts : (n : JobName) → n ≡ name → is_accepted n e ≡ true
  pub owned : accepted_name e ≡ Some name
  pub tries : (js : List Job) → try_within js e ≡ (if is_of js name then entry_try e else [])

pub try-case : (e : Entry) → IsTry e ⊎ ((js : List Job) → try_within js e ≡ [])
try-case (accepted k c t r) = inl (record { name = k; accepts = λ n p. (same_job_decides n k).1 p; owned = refl; tries = λ js. refl })
try-case e = inr (λ js. refl)

-- a job that begins is no try
pub begins-no_try : (n : JobName) (e : Entry) → is_begun_entry n e ≡ true → (js : List Job) → try_within js e ≡ []
begins-no_try n (handed_out k c t) h js = refl
begins-no_try n (opened k) h js = refl
begins-no_try n e h js = absurd (true≠false (sym h))

pub of-none : (past : History) → tries_within [] past ≡ []
of-none [] = refl
of-none (e ∷ past) = ap (λ l. l ++ try_within [] e) (of-none past) ∙ by e
  where
    by : (e : Entry) → try_within [] e ≡ []
    by (accepted k c t r) = refl
    by e = refl

-- ---- lists

pub before-right_of : {A : Type 0} (us : List A) (c : A) (vs : List A) (x : A) → In x vs → Before c x (us ++ c ∷ vs)
before-right_of [] c vs x h = inl (refl, h)
before-right_of (u ∷ us) c vs x h = inr (before-right_of us c vs x h)

pub before-left_of : {A : Type 0} (us : List A) (c : A) (vs : List A) (x : A) → In x us → Before x c (us ++ c ∷ vs)
before-left_of [] c vs x h = absurd h
before-left_of (u ∷ us) c vs x (inl p) = inl (sym p, in-right c us (c ∷ vs) (inl refl))
before-left_of (u ∷ us) c vs x (inr h) = inr (before-left_of us c vs x h)

pub in-without : {A : Type 0} (us : List A) (c : A) (vs : List A) (x : A) → In x (us ++ vs) → In x (us ++ c ∷ vs)
in-without [] c vs x h = inr h
in-without (u ∷ us) c vs x (inl p) = inl p
in-without (u ∷ us) c vs x (inr h) = inr (in-without us c vs x h)

pub before-without : {A : Type 0} (us : List A) (c : A) (vs : List A) (x y : A) → Before x y (us ++ vs) → Before x y (us ++ c ∷ vs)
before-without [] c vs x y b = inr b
before-without (u ∷ us) c vs x y (inl b) = inl (b.0, in-without us c vs y b.1)
before-without (u ∷ us) c vs x y (inr b) = inr (before-without us c vs x y b)

pub record Split {A : Type 0} (c : A) (xs : List A) : Type 0 where
  pub us : List A
  pub vs : List A
  pub whole : xs ≡ us ++ c ∷ vs

pub split-at : {A : Type 0} (c : A) (xs : List A) → In c xs → Split c xs
split-at c [] h = absurd h
split-at c (x ∷ xs) (inl p) = record { us = []; vs = xs; whole = ap (λ y. y ∷ xs) (sym p) }
split-at c (x ∷ xs) (inr h) = let r = split-at c xs h in record { us = x ∷ r.us; vs = r.vs; whole = ap (λ l. x ∷ l) r.whole }

pub before-filter : {A : Type 0} (p : A → Bool) (x y : A) (xs : List A) → Before x y (filter p xs) → Before x y xs
before-filter p x y [] b = absurd b
before-filter {A = A} p x y (z ∷ zs) b = by (p z) b (λ k. before-filter p x y zs k)
  where
    by : (c : Bool) → Before x y (cond c (z ∷ filter p zs) (filter p zs)) → (Before x y (filter p zs) → Before x y zs) → Before x y (z ∷ zs)
    by true (inl q) rec = inl (q.0, (passing-in p y zs q.1).0)
    by true (inr k) rec = inr (rec k)
    by false k rec = inr (rec k)

-- turns without asks give nothing
pub turns-empty : (n : ℕ) (done : List JobName) (ts : List Turn) → ((t : Turn) → In t ts → t.asks ≡ []) → asks_by_turns n done ts ≡ []
turns-empty zero done ts h = refl
turns-empty (suc n) done ts h = by (first_turn done ts) (first_turn-found done ts) (λ d r k. turns-empty n d r k)
  where
    by : (o : Option (Turn × List Turn)) → Found done ts o → ((d : List JobName) (r : List Turn) → ((t : Turn) → In t r → t.asks ≡ []) → asks_by_turns n d r ≡ []) → option_map_or (λ r. r.0.asks ++ asks_by_turns n (r.0.name ∷ done) r.1) o [] ≡ []
    by None f rec = refl
    by (Some r) f rec = ap (λ l. l ++ asks_by_turns n (r.0.name ∷ done) r.1) (h r.0 f.from) ∙ rec (r.0.name ∷ done) r.1 (λ t i. h t (f.kept t i))

-- ---- a run by one worker

module _ (gives : Giving) (m : Meaning) where
  abbrev pub was_begun : History → Job → Bool
  was_begun past j = list_any (is_begun_entry j.name) past

  -- the asks as tries
  abbrev pub as_tries : List (JobName × Ask) → List NamedTry
  as_tries l = map (ask_try gives) l

  -- what the law of one instance takes of each of its jobs
  pub record IsFollowed (J : JobName) (o : Opened) : Type 0 where
    pub mine : In o.job m.jobs
    pub in_instance : o.job.instance ≡ J
    pub within : (x : Job) → In x (jobs_with_inside o) → In x m.jobs
    pub up : (past : History) → is_legal gives m past ≡ true → (x : Job) → In x (jobs_with_inside o) → was_begun past x ≡ true → (was_begun past o.job ≡ true) × (is_settled past x ≡ false → is_settled past o.job ≡ false)
    pub first_part : (past : History) → is_legal gives m past ≡ true → is_by_one m past ≡ true → IsFirstPart (tries_within (jobs_with_inside o) past) (as_tries (turn_of o).asks)
    pub full : (past : History) → is_legal gives m past ≡ true → is_by_one m past ≡ true → is_settled past o.job ≡ true → tries_within (jobs_with_inside o) past ≡ as_tries (turn_of o).asks
    pub empty : is_bounced o.job.ending ≡ true → (turn_of o).asks ≡ []

  -- the job whose turn it is, if there was one
  abbrev pub current_jobs : Option Opened → List Job
  current_jobs None = []
  current_jobs (Some o) = jobs_with_inside o

  abbrev pub current_asks : Option Opened → List (JobName × Ask)
  current_asks None = []
  current_asks (Some o) = (turn_of o).asks

  abbrev pub IsCurrent : Option Opened → JobName → Type 0
  IsCurrent None n = ⊥
  IsCurrent (Some o) n = n ≡ o.job.name

  abbrev pub CurrentBegun : List Opened → History → Option Opened → Type 0
  CurrentBegun os past None = Unit {0}
  CurrentBegun os past (Some o) = In o os × (was_begun past o.job ≡ true)

  -- how far the order of an instance was followed
  pub record Followed (os : List Opened) (past : History) : Type 0 where
    pub front : List (JobName × Ask)
    pub current : Option Opened
    pub fuel : ℕ
    pub done : List JobName
    pub bs : List Turn
    pub xs : List Opened
    pub same : opened_order os ≡ front ++ (current_asks current ++ asks_by_turns fuel done (bs ++ map turn_of xs))
    pub tried : tries_within (flat_map jobs_with_inside os) past ≡ as_tries front ++ tries_within (current_jobs current) past
    pub enough : length (bs ++ map turn_of xs) ≤ fuel
    pub begun_now : CurrentBegun os past current
    pub settled : (k : JobName) → list_any (same_job k) done ≡ true → (is_settled_name m past k ≡ true) ⊎ IsCurrent current k
    pub cover : (o : Opened) → In o os → ((is_bounced o.job.ending ≡ true) × In (turn_of o) bs) ⊎ (In o xs ⊎ (list_any (same_job o.job.name) done ≡ true))
    pub bounced_ones : (b : Turn) → In b bs → (o : Opened) × In o os × (is_bounced o.job.ending ≡ true) × (b ≡ turn_of o)
    pub others : (x : Opened) → In x xs → In x os × (is_bounced x.job.ending ≡ false) × (was_begun past x.job ≡ false)
    pub ordered : (x y : Opened) → Before x y xs → Before x.job y.job m.jobs

  module _ (w : IsWhole gives AtLeastOne m []) (laid : IsLaidOut m.jobs) (fit : HaveTries m.jobs) where
    once : (j k : Job) → In j m.jobs → In k m.jobs → j.name ≡ k.name → j ≡ k
    once = (are-jobs gives AtLeastOne m [] w).once

    -- whoever is settled and not bounced was begun
    pub settled-begun : (past : History) → is_legal gives m past ≡ true → (j : Job) → In j m.jobs → is_bounced j.ending ≡ false → is_settled past j ≡ true → was_begun past j ≡ true
    settled-begun [] l j i b s = by (is_bounced j.ending) b (is_some j.opens) refl s
      where
        by : (c : Bool) → c ≡ false → (o : Bool) → is_some j.opens ≡ o → (if c then false else (if o then false else is_none (first_of_list j.asks))) ≡ true → false ≡ true
        by true p o q x = absurd (true≠false p)
        by false p true q x = x
        by false p false q x = absurd (true≠false (sym (fit j i b (nothing_first j.asks x)) ∙ q))
    settled-begun (e ∷ past) l j i b s =
        or_right (is_begun_entry j.name e) (was_begun past j) (on_test (is_settled past j) (λ h. settled-begun past legal j i b h) (λ h. new (newly-settled gives m w laid past e j h s)))
      where
        legal : is_legal gives m past ≡ true
        legal = first_so (is_legal gives m past) (is_legal_after gives m past e) l

        after : is_legal_after gives m past e ≡ true
        after = second_so (is_legal gives m past) (is_legal_after gives m past e) l

        new : (is_bounced_entry j.name e ≡ true) ⊎ ((is_accepted j.name e ≡ true) ⊎ (is_ended_entry j.name e ≡ true)) → was_begun past j ≡ true
        new (inl h) = absurd (true≠false (sym (bounce-facts gives AtLeastOne m w past j (bounces-it gives AtLeastOne m w past j i (legal-of gives m past e after) h)).0 ∙ b))
        new (inr (inl h)) = accepted-begun gives m w laid past j (legal-of gives m past e after) h
        new (inr (inr h)) = ended-begun gives m w laid past j i (legal-of gives m past e after) h

    -- a settled bounced job has its needs settled
    pub bounced-needs : (past : History) → is_legal gives m past ≡ true → (j : Job) → In j m.jobs → is_bounced j.ending ≡ true → is_settled past j ≡ true → (n : JobName) → In n (job_needs j) → is_settled_name m past n ≡ true
    bounced-needs [] l j i b s n h = absurd (true≠false (sym (subst (λ c. (if c then false else (if is_some j.opens then false else is_none (first_of_list j.asks))) ≡ true) b s)))
    bounced-needs (e ∷ past) l j i b s n h =
        stays_settled_name gives m e past n (on_test (is_settled past j) (λ k. bounced-needs past legal j i b k n h) (λ k. new (newly-settled gives m w laid past e j k s)))
      where
        legal : is_legal gives m past ≡ true
        legal = first_so (is_legal gives m past) (is_legal_after gives m past e) l

        after : is_legal_after gives m past e ≡ true
        after = second_so (is_legal gives m past) (is_legal_after gives m past e) l

        new : (is_bounced_entry j.name e ≡ true) ⊎ ((is_accepted j.name e ≡ true) ⊎ (is_ended_entry j.name e ≡ true)) → is_settled_name m past n ≡ true
        new (inl k) = of-all (is_settled_name m past) (job_needs j) (ready-needs gives m (all-sound gives AtLeastOne m [] w) (are-jobs gives AtLeastOne m [] w) past j i legal (first_so (is_ready m past j) (is_bounced j.ending) (bounces-it gives AtLeastOne m w past j i (legal-of gives m past e after) k))) n h
        new (inr (inl k)) = absurd (true≠false (sym b ∙ begun-tried gives AtLeastOne m w past j i legal (accepted-begun gives m w laid past j (legal-of gives m past e after) k)))
        new (inr (inr k)) = absurd (true≠false (sym b ∙ begun-tried gives AtLeastOne m w past j i legal (ended-begun gives m w laid past j i (legal-of gives m past e after) k)))

    -- the job of an accepted try was begun, and isn't settled
    pub record Tried (past : History) (k : JobName) : Type 0 where
      pub job : Job
      pub mine : In job m.jobs
      pub named : job.name ≡ k
      pub begun_it : was_begun past job ≡ true
      pub unsettled : is_settled past job ≡ false

    pub tried-job : (past : History) (e : Entry) → is_legal gives m past ≡ true → is_legal_after gives m past e ≡ true → (t : IsTry e) → Tried past t.name
    tried-job past e l a t =
        let o = accepted-owned gives AtLeastOne m w (e ∷ past) (both_true (is_legal gives m past) (is_legal_after gives m past e) l a) e (inl refl) t.name t.owned in
        record { job = o.0; mine = o.1; named = o.2; begun_it = accepted-begun gives m w laid past o.0 (legal-of gives m past e a) (t.accepts o.0.name o.2); unsettled = by o.0 o.1 o.2 (is_settled past o.0) refl }
      where
        by : (j : Job) → In j m.jobs → j.name ≡ t.name → (c : Bool) → is_settled past j ≡ c → is_settled past j ≡ false
        by j i q false h = h
        by j i q true h =
            let f = of-next gives AtLeastOne m w past j i (legal-of gives m past e a) (t.accepts j.name q) in
            absurd (true≠false (sym (ap is_some f.1) ∙ ap (λ l. is_some (first_of_list l)) (settled-none gives AtLeastOne m w past l j i h)))

    -- of jobs that were not begun nothing was tried
    pub untried : (js : List Job) → ((x : Job) → In x js → In x m.jobs) → (past : History) → is_legal gives m past ≡ true → ((x : Job) → In x js → was_begun past x ≡ false) → tries_within js past ≡ []
    untried js f [] l h = refl
    untried js f (e ∷ past) l h = ap (λ z. z ++ try_within js e) (untried js f past legal not_before) ∙ (on_either (try-case e) (λ t. t.tries js ∙ of_try t (is_of js t.name) refl) (λ g. g js))
      where
        legal : is_legal gives m past ≡ true
        legal = first_so (is_legal gives m past) (is_legal_after gives m past e) l

        before : (a b : Bool) → (a || b) ≡ false → b ≡ false
        before true b p = absurd (true≠false p)
        before false b p = p

        not_before : (x : Job) → In x js → was_begun past x ≡ false
        not_before x i = before (is_begun_entry x.name e) (was_begun past x) (h x i)

        of_try : (t : IsTry e) → (c : Bool) → is_of js t.name ≡ c → (if c then entry_try e else []) ≡ []
        of_try t false q = refl
        of_try t true q =
            let x = some_in (λ (j : Job). same_job t.name j.name) js q in
            let r = tried-job past e legal (second_so (is_legal gives m past) (is_legal_after gives m past e) l) t in
            absurd (true≠false (sym (subst (λ y. was_begun past y ≡ true) (once r.job x.0 r.mine (f x.0 x.1) (r.named ∙ (same_job_decides t.name x.0.name).0 x.2)) r.begun_it) ∙ not_before x.0 x.1))

    -- ---- one instance

    module _ (J : JobName) (os : List Opened) (own : (o : Opened) → In o os → IsFollowed J o) (apart : Apart (λ o. o.job.name) os) (rated : AllRated [] (map turn_of (waiting os))) where
      abbrev all_jobs : List Job
      all_jobs = flat_map jobs_with_inside os

      current-within : (past : History) (c : Option Opened) → CurrentBegun os past c → (x : Job) → In x (current_jobs c) → In x all_jobs
      current-within past None b x h = absurd h
      current-within past (Some o) b x h = in-flat jobs_with_inside o x os b.0 h

      same_own : (o c : Opened) → In o os → In c os → o.job.name ≡ c.job.name → o ≡ c
      same_own o c i h e = once-of_apart (λ (u : Opened). u.job.name) os apart o c i h e

      module _ (past : History) (e : Entry) (l : is_legal gives m past ≡ true) (after : is_legal_after gives m past e ≡ true) (st : Followed os past) where
        -- what is begun and isn't settled is current
        is-current : (o : Opened) → In o os → was_begun past o.job ≡ true → is_settled past o.job ≡ false → IsCurrent st.current o.job.name
        is-current o i b u = by (st.cover o i)
          where
            by : ((is_bounced o.job.ending ≡ true) × In (turn_of o) st.bs) ⊎ (In o st.xs ⊎ (list_any (same_job o.job.name) st.done ≡ true)) → IsCurrent st.current o.job.name
            by (inl h) = absurd (true≠false (sym h.0 ∙ begun-tried gives AtLeastOne m w past o.job (own o i).mine l b))
            by (inr (inl h)) = absurd (true≠false (sym b ∙ (st.others o h).2))
            by (inr (inr h)) = on_either (st.settled o.job.name h) (λ s. absurd (true≠false (sym (settled_of_name gives m (all-sound gives AtLeastOne m [] w) (are-jobs gives AtLeastOne m [] w) past o.job (own o i).mine s) ∙ u))) (λ c. c)

        in-current : (c : Option Opened) → CurrentBegun os past c → (o : Opened) → In o os → IsCurrent c o.job.name → (x : Job) → In x (jobs_with_inside o) → In x (current_jobs c)
        in-current None b o i h x k = absurd h
        in-current (Some c) b o i h x k = subst (λ (u : Opened). In x (jobs_with_inside u)) (same_own o c i b.0 h) k

        -- an accepted try of the instance is one of the current turn
        try-same : (t : IsTry e) → (b : Bool) → is_of all_jobs t.name ≡ b → (c : Bool) → is_of (current_jobs st.current) t.name ≡ c → b ≡ c
        try-same t true p true q = refl
        try-same t false p false q = refl
        try-same t false p true q =
            let x = some_in (λ (j : Job). same_job t.name j.name) (current_jobs st.current) q in
            absurd (true≠false (sym (any-in (λ (j : Job). same_job t.name j.name) x.0 all_jobs (current-within past st.current st.begun_now x.0 x.1) x.2) ∙ p))
        try-same t true p false q =
            let x = some_in (λ (j : Job). same_job t.name j.name) all_jobs p in
            let o = of-flat jobs_with_inside x.0 os x.1 in
            let r = tried-job past e l after t in
            let eq = once r.job x.0 r.mine ((own o.0 o.1).within x.0 o.2) (r.named ∙ (same_job_decides t.name x.0.name).0 x.2) in
            let u = (own o.0 o.1).up past l x.0 o.2 (subst (λ y. was_begun past y ≡ true) eq r.begun_it) in
            let c = is-current o.0 o.1 u.0 (u.1 (subst (λ y. is_settled past y ≡ false) eq r.unsettled)) in
            absurd (true≠false (sym (any-in (λ (j : Job). same_job t.name j.name) x.0 (current_jobs st.current) (in-current st.current st.begun_now o.0 o.1 c x.0 o.2) x.2) ∙ q))

        entry-same : IsTry e ⊎ ((js : List Job) → try_within js e ≡ []) → try_within all_jobs e ≡ try_within (current_jobs st.current) e
        entry-same (inr g) = g all_jobs ∙ sym (g (current_jobs st.current))
        entry-same (inl t) = t.tries all_jobs ∙ ap (λ b. if b then entry_try e else []) (try-same t (is_of all_jobs t.name) refl (is_of (current_jobs st.current) t.name) refl) ∙ sym (t.tries (current_jobs st.current))

        tried-after : tries_within all_jobs (e ∷ past) ≡ as_tries st.front ++ tries_within (current_jobs st.current) (e ∷ past)
        tried-after =
            ap (λ z. z ++ try_within all_jobs e) st.tried
            ∙ ap (λ z. (as_tries st.front ++ tries_within (current_jobs st.current) past) ++ z) (entry-same (try-case e))
            ∙ append_assoc (as_tries st.front) (tries_within (current_jobs st.current) past) (try_within (current_jobs st.current) e)

        begun-still : (c : Option Opened) → CurrentBegun os past c → CurrentBegun os (e ∷ past) c
        begun-still None b = tt
        begun-still (Some o) b = (b.0, or_right (is_begun_entry o.job.name e) (was_begun past o.job) b.1)

        abbrev begins_now : Opened → Bool
        begins_now o = is_begun_entry o.job.name e && not (was_begun past o.job)

        -- where no job of the instance begins
        stays : ((o : Opened) → In o os → begins_now o ≡ false) → Followed os (e ∷ past)
        stays none = record {
          front = st.front;
          current = st.current;
          fuel = st.fuel;
          done = st.done;
          bs = st.bs;
          xs = st.xs;
          same = st.same;
          tried = tried-after;
          enough = st.enough;
          begun_now = begun-still st.current st.begun_now;
          settled = λ k h. still k (st.settled k h);
          cover = st.cover;
          bounced_ones = st.bounced_ones;
          others = λ x h. let r = st.others x h in (r.0, r.1, neither (is_begun_entry x.job.name e) (was_begun past x.job) (none x r.0) r.2);
          ordered = st.ordered;
        }
          where
            still : (k : JobName) → (is_settled_name m past k ≡ true) ⊎ IsCurrent st.current k → (is_settled_name m (e ∷ past) k ≡ true) ⊎ IsCurrent st.current k
            still k (inl h) = inl (stays_settled_name gives m e past k h)
            still k (inr h) = inr h

            neither : (a b : Bool) → (a && not b) ≡ false → b ≡ false → (a || b) ≡ false
            neither true true p q = q
            neither true false p q = absurd (true≠false p)
            neither false b p q = q

        -- where the job c of the instance begins
        module _ (by_one : is_by_one m past ≡ true) (mine : is_by_one_after m past e ≡ true) (c : Opened) (ci : In c os) (cb : is_begun_entry c.job.name e ≡ true) (cn : was_begun past c.job ≡ false) where
          abbrev legal_now : is_legal gives m (e ∷ past) ≡ true
          legal_now = both_true (is_legal gives m past) (is_legal_after gives m past e) l after

          before : OneRuns gives m past × OthersWait gives m past
          before = one-worker gives m w laid past l by_one

          now : OneRuns gives m (e ∷ past) × OthersWait gives m (e ∷ past)
          now = one-worker gives m w laid (e ∷ past) legal_now (both_true (is_by_one m past) (is_by_one_after m past e) by_one mine)

          begins_c : Begins gives m w laid past c.job
          begins_c = begins-first gives m w laid past e c.job (own c ci).mine after mine cb

          begun_c : was_begun (e ∷ past) c.job ≡ true
          begun_c = or_left (is_begun_entry c.job.name e) (was_begun past c.job) cb

          tried_c : is_bounced c.job.ending ≡ false
          tried_c = begun-tried gives AtLeastOne m w (e ∷ past) c.job (own c ci).mine legal_now begun_c

          not_settled : (x : Job) → In x m.jobs → is_settled past x ≡ false → is_settled (e ∷ past) x ≡ false
          not_settled x i u = false_from_ne_true (is_settled (e ∷ past) x) (λ h. none-settles gives m w laid past e l after mine before.0 before.1 c.job x cb u h)

          -- what isn't begun and not bounced isn't settled
          unbegun : (x : Job) → In x m.jobs → is_bounced x.ending ≡ false → was_begun past x ≡ false → is_settled past x ≡ false
          unbegun x i b n = false_from_ne_true (is_settled past x) (λ h. true≠false (sym (settled-begun past l x i b h) ∙ n))

          runs : (x : Job) → In x m.jobs → was_begun (e ∷ past) x ≡ true → is_settled past x ≡ false → is_running (e ∷ past) x ≡ true
          runs x i b u = both_true (was_begun (e ∷ past) x) (not (is_settled (e ∷ past) x)) b (ap not (not_settled x i u))

          c_runs : is_running (e ∷ past) c.job ≡ true
          c_runs = runs c.job (own c ci).mine begun_c (unbegun c.job (own c ci).mine tried_c cn)

          ready_c : is_ready m past c.job ≡ true
          ready_c = on_either (going_on gives m (all-sound gives AtLeastOne m [] w) (are-jobs gives AtLeastOne m [] w) past c.job begins_c.goes_on) (λ h. absurd (true≠false (sym (idle_begun gives m (all-sound gives AtLeastOne m [] w) (are-jobs gives AtLeastOne m [] w) past c.job h).0 ∙ cn))) (λ h. h)

          open_J : is_open past J ≡ true
          open_J = subst (λ n. is_open past n ≡ true) (own c ci).in_instance (first_so (is_open past c.job.instance) (not (is_running past c.job)) (first_so (is_open past c.job.instance && not (is_running past c.job)) (not (is_settled past c.job)) (first_so (is_open past c.job.instance && not (is_running past c.job) && not (is_settled past c.job)) (all_known m past c.job.waits) ready_c)))

          -- the one whose turn it was is settled
          current_settled : (d : Opened) → In d os → was_begun past d.job ≡ true → is_settled past d.job ≡ true
          current_settled d i b = on_test (is_settled past d.job) (λ h. h) (λ h. let eq = now.0 c.job d.job (own c ci).mine (own d i).mine ((own c ci).in_instance ∙ sym (own d i).in_instance) c_runs (runs d.job (own d i).mine (or_right (is_begun_entry d.job.name e) (was_begun past d.job) b) h) in absurd (true≠false (sym b ∙ subst (λ x. was_begun past x ≡ false) eq cn)))

          abbrev SettledName : JobName → Type 0
          SettledName n = is_settled_name m past n ≡ true

          done_settled : (k : JobName) → list_any (same_job k) st.done ≡ true → SettledName k
          done_settled k h = on_either (st.settled k h) (λ s. s) (λ q. cur st.current st.begun_now q)
            where
              cur : (x : Option Opened) → CurrentBegun os past x → IsCurrent x k → SettledName k
              cur None b q = absurd q
              cur (Some d) b q = subst SettledName (sym q) (settled-name gives AtLeastOne m w past d.job (own d b.0).mine (current_settled d b.0 b.1))

          c_waits : In c st.xs
          c_waits = by (st.cover c ci)
            where
              by : ((is_bounced c.job.ending ≡ true) × In (turn_of c) st.bs) ⊎ (In c st.xs ⊎ (list_any (same_job c.job.name) st.done ≡ true)) → In c st.xs
              by (inl h) = absurd (true≠false (sym h.0 ∙ tried_c))
              by (inr (inl h)) = h
              by (inr (inr h)) = absurd (true≠false (sym (settled-begun past l c.job (own c ci).mine tried_c (settled_of_name gives m (all-sound gives AtLeastOne m [] w) (are-jobs gives AtLeastOne m [] w) past c.job (own c ci).mine (done_settled c.job.name h))) ∙ cn))

          bs_empty : (b : Turn) → In b st.bs → b.asks ≡ []
          bs_empty b h = let r = st.bounced_ones b h in ap (λ (t : Turn). t.asks) r.3 ∙ (own r.0 r.1).empty r.2

          -- nothing can be bounced now
          bounced_closed : (o : Opened) → In o os → is_bounced o.job.ending ≡ true → ((k : JobName) → In k (job_needs o.job) → SettledName k) → SettledName o.job.name
          bounced_closed o i b h = settled-name gives AtLeastOne m w past o.job (own o i).mine (true_from_ne_false (is_settled past o.job) (λ q. true≠false (sym (both_true (is_ready m past o.job) (is_bounced o.job.ending) (both_true (is_open past o.job.instance && not (is_running past o.job) && not (is_settled past o.job)) (all_known m past o.job.waits) (both_true (is_open past o.job.instance && not (is_running past o.job)) (not (is_settled past o.job)) (both_true (is_open past o.job.instance) (not (is_running past o.job)) open_o (ap (λ x. not (x && not (is_settled past o.job))) not_begun)) (ap not q)) (waits-known gives AtLeastOne m [] w past begins_c.quiet l o.job (own o i).mine open_o ∙ all_settled (job_needs o.job) h)) b) ∙ no-bounce gives AtLeastOne m [] w past begins_c.quiet o.job (own o i).mine)))
            where
              open_o : is_open past o.job.instance ≡ true
              open_o = subst (λ n. is_open past n ≡ true) (sym (own o i).in_instance) open_J

              all_settled : (ns : List JobName) → ((k : JobName) → In k ns → SettledName k) → list_all (is_settled_name m past) ns ≡ true
              all_settled [] f = refl
              all_settled (n ∷ ns) f = both_true (is_settled_name m past n) (list_all (is_settled_name m past) ns) (f n (inl refl)) (all_settled ns (λ k z. f k (inr z)))

              not_begun : was_begun past o.job ≡ false
              not_begun = false_from_ne_true (was_begun past o.job) (λ q. true≠false (sym b ∙ begun-tried gives AtLeastOne m w past o.job (own o i).mine l q))

          bs_closed : (b : Turn) → In b st.bs → ((k : JobName) → In k b.needs → SettledName k) → SettledName b.name
          bs_closed b h f =
              let r = st.bounced_ones b h in
              subst (λ (t : Turn). SettledName t.name) (sym r.3) (bounced_closed r.0 r.1 r.2 (subst (λ (t : Turn). (k : JobName) → In k t.needs → SettledName k) r.3 f))

          skipped : Skipped SettledName (map turn_of st.xs) st.fuel st.done st.bs
          skipped = skip SettledName (map turn_of st.xs) st.fuel st.done st.bs st.enough bs_empty bs_closed done_settled

          parts : Split c st.xs
          parts = split-at c st.xs c_waits

          abbrev rest_of_them : List Opened
          rest_of_them = parts.us ++ parts.vs

          in_xs : (x : Opened) → In x rest_of_them → In x st.xs
          in_xs x h = subst (λ l. In x l) (sym parts.whole) (in-without parts.us c parts.vs x h)

          not_c : (x : Opened) → In x rest_of_them → x ≡ c → ⊥
          not_c x h p = on_either (in-append x parts.us parts.vs h) (λ k. twice (subst (λ (y : Opened). Before y.job c.job m.jobs) p (st.ordered x c (subst (λ l. Before x c l) (sym parts.whole) (before-left_of parts.us c parts.vs x k))))) (λ k. twice (subst (λ (y : Opened). Before c.job y.job m.jobs) p (st.ordered c x (subst (λ l. Before c x l) (sym parts.whole) (before-right_of parts.us c parts.vs x k)))))
            where
              twice : Before c.job c.job m.jobs → ⊥
              twice b = not-both (λ (v : Job). v.name) m.jobs w.jobs_apart c.job c.job b b

          still_unbegun : (x : Opened) → In x rest_of_them → was_begun (e ∷ past) x.job ≡ false
          still_unbegun x h = on_test (was_begun (e ∷ past) x.job) (λ q. let u = unbegun x.job (own x r.0).mine r.1 r.2 in absurd (not_c x h (same_own x c r.0 ci (ap (λ (j : Job). j.name) (now.0 x.job c.job (own x r.0).mine (own c ci).mine ((own x r.0).in_instance ∙ sym (own c ci).in_instance) (runs x.job (own x r.0).mine q u) c_runs))))) (λ q. q)
            where
              r : In x os × (is_bounced x.job.ending ≡ false) × (was_begun past x.job ≡ false)
              r = st.others x (in_xs x h)

          -- what stands before c waits
          others_wait : (u : Opened) → In u parts.us → all_done skipped.taken (turn_of u).needs ≡ false
          others_wait u h = false_from_ne_true (all_done skipped.taken (turn_of u).needs) (λ q. true≠false (sym (all-weaken (λ n. list_any (same_job n) skipped.taken) (is_settled_name m (e ∷ past)) (λ n g. stays_settled_name gives m e past n (skipped.settled n g)) (job_needs u.job) q) ∙ now.1 c.job u.job (own c ci).mine (own u r.0).mine ((own u r.0).in_instance ∙ sym (own c ci).in_instance) c_runs (not_settled u.job (own u r.0).mine (unbegun u.job (own u r.0).mine r.1 r.2)) (still_unbegun u k) (inr (st.ordered u c (subst (λ l. Before u c l) (sym parts.whole) (before-left_of parts.us c parts.vs u h))))))
            where
              k : In u rest_of_them
              k = in-left u parts.us parts.vs h

              r : In u os × (is_bounced u.job.ending ≡ false) × (was_begun past u.job ≡ false)
              r = st.others u (in_xs u k)

          none_pass_now : NonePasses skipped.taken (skipped.left ++ map turn_of parts.us)
          none_pass_now t h = on_either (in-append t skipped.left (map turn_of parts.us) h) (λ k. skipped.none t k) (λ k. let r = of-map turn_of t parts.us k in ap (λ (v : Turn). all_done skipped.taken v.needs) r.2 ∙ others_wait r.0 r.1)

          -- all that is settled was taken
          abbrev WasTaken : JobName → Type 0
          WasTaken n = list_any (same_job n) skipped.taken ≡ true

          taken-if_settled : (k : ℕ) (t : Turn) → HasRate [] (map turn_of (waiting os)) k t → ((n : JobName) → In n t.needs → SettledName n) → all_done skipped.taken t.needs ≡ true
          taken-if_settled zero t h f = absurd h
          taken-if_settled (suc k) t h f = each_need t.needs h f (λ u g q. taken-if_settled k u g q)
            where
              Rec : Type 0
              Rec = (u : Turn) → HasRate [] (map turn_of (waiting os)) k u → ((n : JobName) → In n u.needs → SettledName n) → all_done skipped.taken u.needs ≡ true

              one_own : (o : Opened) → In o os → HasRate [] (map turn_of (waiting os)) k (turn_of o) → SettledName o.job.name → Rec → WasTaken o.job.name
              one_own o i g s rec = by (st.cover o i)
                where
                  s_job : is_settled past o.job ≡ true
                  s_job = settled_of_name gives m (all-sound gives AtLeastOne m [] w) (are-jobs gives AtLeastOne m [] w) past o.job (own o i).mine s

                  left_or : is_bounced o.job.ending ≡ true → In (turn_of o) skipped.left ⊎ WasTaken o.job.name → WasTaken o.job.name
                  left_or b (inr q) = q
                  left_or b (inl q) = absurd (true≠false (sym (rec (turn_of o) g (λ n z. bounced-needs past l o.job (own o i).mine b s_job n z)) ∙ skipped.none (turn_of o) q))

                  by : ((is_bounced o.job.ending ≡ true) × In (turn_of o) st.bs) ⊎ (In o st.xs ⊎ (list_any (same_job o.job.name) st.done ≡ true)) → WasTaken o.job.name
                  by (inl q) = left_or q.0 (skipped.cover (turn_of o) q.1)
                  by (inr (inl q)) = let r = st.others o q in absurd (true≠false (sym (settled-begun past l o.job (own o i).mine r.1 s_job) ∙ r.2))
                  by (inr (inr q)) = skipped.more o.job.name q

              one_need : (n : JobName) → (false ≡ true) ⊎ ((u : Turn) × In u (map turn_of (waiting os)) × (same_job n u.name ≡ true) × HasRate [] (map turn_of (waiting os)) k u) → SettledName n → Rec → WasTaken n
              one_need n (inl q) s rec = absurd (true≠false (sym q))
              one_need n (inr q) s rec =
                  let r = of-map turn_of q.0 (waiting os) q.1 in
                  let e_n = (same_job_decides n q.0.name).0 q.2 ∙ ap (λ (t : Turn). t.name) r.2 in
                  subst WasTaken (sym e_n) (one_own r.0 (of-waiting r.0 os r.1) (subst (λ (t : Turn). HasRate [] (map turn_of (waiting os)) k t) r.2 q.3) (subst SettledName e_n s) rec)

              each_need : (ns : List JobName) → Each (λ n. (false ≡ true) ⊎ ((u : Turn) × In u (map turn_of (waiting os)) × (same_job n u.name ≡ true) × HasRate [] (map turn_of (waiting os)) k u)) ns → ((n : JobName) → In n ns → SettledName n) → Rec → all_done skipped.taken ns ≡ true
              each_need [] g q rec = refl
              each_need (n ∷ ns) g q rec = both_true (list_any (same_job n) skipped.taken) (all_done skipped.taken ns) (one_need n g.0 (q n (inl refl)) rec) (each_need ns g.1 (λ z i. q z (inr i)) rec)

          c_passes : all_done skipped.taken (turn_of c).needs ≡ true
          c_passes =
              let r = rated (turn_of c) (in-waiting c os ci) in
              taken-if_settled r.0 (turn_of c) r.1 (λ n h. of-all (is_settled_name m past) (job_needs c.job) (ready-needs gives m (all-sound gives AtLeastOne m [] w) (are-jobs gives AtLeastOne m [] w) past c.job (own c ci).mine l ready_c) n h)

          -- the turns left, with c's in its place
          map_parts : map turn_of st.xs ≡ map turn_of parts.us ++ turn_of c ∷ map turn_of parts.vs
          map_parts = ap (λ l. map turn_of l) parts.whole ∙ map-append turn_of parts.us (c ∷ parts.vs)

          left_parts : skipped.left ++ map turn_of st.xs ≡ (skipped.left ++ map turn_of parts.us) ++ turn_of c ∷ map turn_of parts.vs
          left_parts = ap (λ l. skipped.left ++ l) map_parts ∙ join-append skipped.left (map turn_of parts.us) (turn_of c ∷ map turn_of parts.vs)

          left_after : (skipped.left ++ map turn_of parts.us) ++ map turn_of parts.vs ≡ skipped.left ++ map turn_of rest_of_them
          left_after = sym (join-append skipped.left (map turn_of parts.us) (map turn_of parts.vs)) ∙ ap (λ l. skipped.left ++ l) (sym (map-append turn_of parts.us parts.vs))

          record Turned : Type 0 where
            fuel : ℕ
            taken_turn : asks_by_turns st.fuel st.done (st.bs ++ map turn_of st.xs) ≡ (turn_of c).asks ++ asks_by_turns fuel (c.job.name ∷ skipped.taken) (skipped.left ++ map turn_of rest_of_them)
            enough : length (skipped.left ++ map turn_of rest_of_them) ≤ fuel

          turned : Turned
          turned = by skipped.fuel skipped.same skipped.enough
            where
              sizes : length (skipped.left ++ map turn_of st.xs) ≡ suc (length (skipped.left ++ map turn_of rest_of_them))
              sizes =
                  ap length left_parts
                  ∙ (omega (arith, length-append (skipped.left ++ map turn_of parts.us) (turn_of c ∷ map turn_of parts.vs), ap length (sym left_after) ∙ length-append (skipped.left ++ map turn_of parts.us) (map turn_of parts.vs)))

              by : (n : ℕ) → asks_by_turns st.fuel st.done (st.bs ++ map turn_of st.xs) ≡ asks_by_turns n skipped.taken (skipped.left ++ map turn_of st.xs) → length (skipped.left ++ map turn_of st.xs) ≤ n → Turned
              by zero p q = absurd (omega (arith, sizes, q))
              by (suc n) p q = record { fuel = n; taken_turn = p ∙ ap (λ z. asks_by_turns (suc n) skipped.taken z) left_parts ∙ turn-taken n skipped.taken (skipped.left ++ map turn_of parts.us) (turn_of c) (map turn_of parts.vs) none_pass_now c_passes ∙ ap (λ z. (turn_of c).asks ++ asks_by_turns n (c.job.name ∷ skipped.taken) z) left_after; enough = omega (arith, sizes, q) }

          current_full : (x : Option Opened) → CurrentBegun os past x → tries_within (current_jobs x) past ≡ as_tries (current_asks x)
          current_full None b = of-none past
          current_full (Some d) b = (own d b.0).full past l by_one (current_settled d b.0 b.1)

          c_untried : tries_within (jobs_with_inside c) (e ∷ past) ≡ []
          c_untried =
              ap (λ z. z ++ try_within (jobs_with_inside c) e) (untried (jobs_with_inside c) (λ x i. (own c ci).within x i) past l (λ x i. by x i (was_begun past x) refl))
              ∙ begins-no_try c.job.name e cb (jobs_with_inside c)
            where
              by : (x : Job) → In x (jobs_with_inside c) → (b : Bool) → was_begun past x ≡ b → was_begun past x ≡ false
              by x i false q = q
              by x i true q = absurd (true≠false (sym ((own c ci).up past l x i q).0 ∙ cn))

          next_turn : Followed os (e ∷ past)
          next_turn = record {
            front = st.front ++ current_asks st.current;
            current = Some c;
            fuel = turned.fuel;
            done = c.job.name ∷ skipped.taken;
            bs = skipped.left;
            xs = rest_of_them;
            same = st.same ∙ ap (λ z. st.front ++ (current_asks st.current ++ z)) turned.taken_turn ∙ sym (append_assoc st.front (current_asks st.current) ((turn_of c).asks ++ asks_by_turns turned.fuel (c.job.name ∷ skipped.taken) (skipped.left ++ map turn_of rest_of_them)));
            tried =
                ap (λ z. tries_within all_jobs past ++ z) (begins-no_try c.job.name e cb all_jobs)
                ∙ append-nil (tries_within all_jobs past)
                ∙ st.tried
                ∙ ap (λ z. as_tries st.front ++ z) (current_full st.current st.begun_now)
                ∙ sym (map-append (ask_try gives) st.front (current_asks st.current))
                ∙ sym (append-nil (as_tries (st.front ++ current_asks st.current)))
                ∙ ap (λ z. as_tries (st.front ++ current_asks st.current) ++ z) (sym c_untried);
            enough = turned.enough;
            begun_now = (ci, begun_c);
            settled = λ k h. by_name k (or_cases (same_job k c.job.name) (list_any (same_job k) skipped.taken) h);
            cover = λ o i. covers o (st.cover o i);
            bounced_ones = λ b h. st.bounced_ones b (skipped.kept b h);
            others = λ x h. let r = st.others x (in_xs x h) in (r.0, r.1, still_unbegun x h);
            ordered = λ x y b. st.ordered x y (subst (λ z. Before x y z) (sym parts.whole) (before-without parts.us c parts.vs x y b));
          }
            where
              by_name : (k : JobName) → (same_job k c.job.name ≡ true) ⊎ (list_any (same_job k) skipped.taken ≡ true) → (is_settled_name m (e ∷ past) k ≡ true) ⊎ (k ≡ c.job.name)
              by_name k (inl h) = inr ((same_job_decides k c.job.name).0 h)
              by_name k (inr h) = inl (stays_settled_name gives m e past k (skipped.settled k h))

              Covered : Opened → Type 0
              Covered o = ((is_bounced o.job.ending ≡ true) × In (turn_of o) skipped.left) ⊎ (In o rest_of_them ⊎ (list_any (same_job o.job.name) (c.job.name ∷ skipped.taken) ≡ true))

              by_left : (o : Opened) → is_bounced o.job.ending ≡ true → In (turn_of o) skipped.left ⊎ WasTaken o.job.name → Covered o
              by_left o b (inl h) = inl (b, h)
              by_left o b (inr h) = inr (inr (or_right (same_job o.job.name c.job.name) (list_any (same_job o.job.name) skipped.taken) h))

              by_parts : (o : Opened) → In o parts.us ⊎ In o (c ∷ parts.vs) → Covered o
              by_parts o (inl h) = inr (inl (in-left o parts.us parts.vs h))
              by_parts o (inr (inl p)) = inr (inr (or_left (same_job o.job.name c.job.name) (list_any (same_job o.job.name) skipped.taken) ((same_job_decides o.job.name c.job.name).1 (ap (λ (u : Opened). u.job.name) p))))
              by_parts o (inr (inr h)) = inr (inl (in-right o parts.us parts.vs h))

              covers : (o : Opened) → ((is_bounced o.job.ending ≡ true) × In (turn_of o) st.bs) ⊎ (In o st.xs ⊎ (list_any (same_job o.job.name) st.done ≡ true)) → Covered o
              covers o (inl h) = by_left o h.0 (skipped.cover (turn_of o) h.1)
              covers o (inr (inl h)) = by_parts o (in-append o parts.us (c ∷ parts.vs) (subst (λ z. In o z) parts.whole h))
              covers o (inr (inr h)) = inr (inr (or_right (same_job o.job.name c.job.name) (list_any (same_job o.job.name) skipped.taken) (skipped.more o.job.name h)))

      -- ---- a whole history

      module _ (in_order : (x y : Opened) → Before x y os → Before x.job y.job m.jobs) where
        abbrev bounced_os : List Opened
        bounced_os = filter (λ o. is_bounced o.job.ending) os

        abbrev other_os : List Opened
        other_os = filter (λ o. not (is_bounced o.job.ending)) os

        start : Followed os []
        start = record {
          front = [];
          current = None;
          fuel = length os;
          done = [];
          bs = map turn_of bounced_os;
          xs = other_os;
          same = ap (λ l. asks_by_turns (length os) [] l) (map-append turn_of bounced_os other_os);
          tried = refl;
          enough = fits (length (map turn_of bounced_os ++ map turn_of other_os)) (length os) (length-append (map turn_of bounced_os) (map turn_of other_os) ∙ sums (length-map bounced_os turn_of) (length-map other_os turn_of) ∙ parted-length (λ o. is_bounced o.job.ending) os);
          begun_now = tt;
          settled = λ k h. absurd (true≠false (sym h));
          cover = λ o i. covers o (in-parted (λ u. is_bounced u.job.ending) o os i);
          bounced_ones = λ b h. let r = of-map turn_of b bounced_os h in (r.0, of-filter (λ o. is_bounced o.job.ending) r.0 os r.1, (passing-in (λ o. is_bounced o.job.ending) r.0 os r.1).1, r.2);
          others = λ x h. (of-filter (λ o. not (is_bounced o.job.ending)) x os h, not-true (is_bounced x.job.ending) ((passing-in (λ o. not (is_bounced o.job.ending)) x os h).1), refl);
          ordered = λ x y b. in_order x y (before-filter (λ o. not (is_bounced o.job.ending)) x y os b);
        }
          where
            fits : (a b : ℕ) → a ≡ b → a ≤ b
            fits a b p = omega arith

            sums : {a b c d : ℕ} → a ≡ b → c ≡ d → a + c ≡ b + d
            sums p q = λ i. p i + q i

            covers : (o : Opened) → In o bounced_os ⊎ In o other_os → ((is_bounced o.job.ending ≡ true) × In (turn_of o) (map turn_of bounced_os)) ⊎ (In o other_os ⊎ (false ≡ true))
            covers o (inl h) = inl ((passing-in (λ u. is_bounced u.job.ending) o os h).1, in-map turn_of o bounced_os h)
            covers o (inr h) = inr (inl h)

        followed-step : (past : History) (e : Entry) → is_legal gives m (e ∷ past) ≡ true → is_by_one m (e ∷ past) ≡ true → Followed os past → Followed os (e ∷ past)
        followed-step past e l b st = on_test (list_any (begins_now past e legal after st) os) (λ q. let r = some_in (begins_now past e legal after st) os q in next_turn past e legal after st one mine r.0 r.1 (first_so (is_begun_entry r.0.job.name e) (not (was_begun past r.0.job)) r.2) (not-true (was_begun past r.0.job) (second_so (is_begun_entry r.0.job.name e) (not (was_begun past r.0.job)) r.2))) (λ q. stays past e legal after st (each_in (λ o. begins_now past e legal after st o ≡ false) os (none_pass (begins_now past e legal after st) os q)))
          where
            legal : is_legal gives m past ≡ true
            legal = first_so (is_legal gives m past) (is_legal_after gives m past e) l

            after : is_legal_after gives m past e ≡ true
            after = second_so (is_legal gives m past) (is_legal_after gives m past e) l

            one : is_by_one m past ≡ true
            one = first_so (is_by_one m past) (is_by_one_after m past e) b

            mine : is_by_one_after m past e ≡ true
            mine = second_so (is_by_one m past) (is_by_one_after m past e) b

        pub followed : (past : History) → is_legal gives m past ≡ true → is_by_one m past ≡ true → Followed os past
        followed [] l b = start
        followed (e ∷ past) l b =
            followed-step past e l b (followed past (first_so (is_legal gives m past) (is_legal_after gives m past e) l) (first_so (is_by_one m past) (is_by_one_after m past e) b))

        -- the accepted tries are the first part of the order
        pub instance-first_part : (past : History) → is_legal gives m past ≡ true → is_by_one m past ≡ true → IsFirstPart (tries_within all_jobs past) (as_tries (opened_order os))
        instance-first_part past l b = by st.current st.begun_now st.tried st.same
          where
            st : Followed os past
            st = followed past l b

            part : (c : Option Opened) → CurrentBegun os past c → IsFirstPart (tries_within (current_jobs c) past) (as_tries (current_asks c))
            part None g = ([], sym (of-none past ∙ refl) ∙ sym (append-nil (tries_within [] past)))
            part (Some o) g = (own o g.0).first_part past l b

            by : (c : Option Opened) → CurrentBegun os past c → tries_within all_jobs past ≡ as_tries st.front ++ tries_within (current_jobs c) past → opened_order os ≡ st.front ++ (current_asks c ++ asks_by_turns st.fuel st.done (st.bs ++ map turn_of st.xs)) → IsFirstPart (tries_within all_jobs past) (as_tries (opened_order os))
            by c g t s =
                let p = part c g in
                let rest = asks_by_turns st.fuel st.done (st.bs ++ map turn_of st.xs) in (
                  p.0 ++ as_tries rest,
                  ap as_tries s ∙ map-append (ask_try gives) st.front (current_asks c ++ rest) ∙ ap (λ z. as_tries st.front ++ z) (map-append (ask_try gives) (current_asks c) rest ∙ ap (λ z. z ++ as_tries rest) p.1 ∙ append_assoc (tries_within (current_jobs c) past) p.0 (as_tries rest))
                      ∙ sym (append_assoc (as_tries st.front) (tries_within (current_jobs c) past) (p.0 ++ as_tries rest)) ∙ ap (λ z. z ++ (p.0 ++ as_tries rest)) (sym t),
                )

        -- and all of it, where the instance's jobs are settled
        pub instance-full : (past : History) → is_legal gives m past ≡ true → is_by_one m past ≡ true → ((o : Opened) → In o os → is_settled past o.job ≡ true) → tries_within all_jobs past ≡ as_tries (opened_order os)
        instance-full past l b f = by st.current st.begun_now st.tried st.same
          where
            st : Followed os past
            st = followed past l b

            nothing : (xs : List Opened) → ((x : Opened) → In x xs → In x os × (is_bounced x.job.ending ≡ false) × (was_begun past x.job ≡ false)) → xs ≡ []
            nothing [] g = refl
            nothing (x ∷ xs) g = let r = g x (inl refl) in absurd (true≠false (sym (settled-begun past l x.job (own x r.0).mine r.1 (f x r.0)) ∙ r.2))

            rest_none : asks_by_turns st.fuel st.done (st.bs ++ map turn_of st.xs) ≡ []
            rest_none = ap (λ z. asks_by_turns st.fuel st.done (st.bs ++ map turn_of z)) (nothing st.xs st.others) ∙ ap (λ z. asks_by_turns st.fuel st.done z) (append-nil st.bs) ∙ turns-empty st.fuel st.done st.bs (λ t h. let r = st.bounced_ones t h in ap (λ (u : Turn). u.asks) r.3 ∙ (own r.0 r.1).empty r.2)

            whole : (c : Option Opened) → CurrentBegun os past c → tries_within (current_jobs c) past ≡ as_tries (current_asks c)
            whole None g = of-none past
            whole (Some o) g = (own o g.0).full past l b (f o g.0)

            by : (c : Option Opened) → CurrentBegun os past c → tries_within all_jobs past ≡ as_tries st.front ++ tries_within (current_jobs c) past → opened_order os ≡ st.front ++ (current_asks c ++ asks_by_turns st.fuel st.done (st.bs ++ map turn_of st.xs)) → tries_within all_jobs past ≡ as_tries (opened_order os)
            by c g t s =
                t ∙ ap (λ z. as_tries st.front ++ z) (whole c g) ∙ sym (map-append (ask_try gives) st.front (current_asks c))
                ∙ ap (λ z. as_tries (st.front ++ z)) (sym (ap (λ z. current_asks c ++ z) rest_none ∙ append-nil (current_asks c))) ∙ ap as_tries (sym s)
