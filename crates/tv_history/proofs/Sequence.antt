-- The order of one worker: at any number of levels, the accepted tries of a one-worker history follow the stated order.
use Rattle.std.specs.Prelude.{◌≡◌, refl, ℕ, zero, suc, ◌+◌, ◌<◌, List, [], ◌∷◌, ◌++◌, map, length, Bool, true, false, ◌||◌, if◌then◌else◌, Option, Some, None, is_some, flat_map}
use Rattle.std.specs.List.{list_any}
use Rattle.std.specs.Option.{option_map_or}
use Rattle.std.proofs.Common.{arith, sym, ap, subst, ◌∙◌, inl, inr, append_assoc, append-nil, length-append}
use Rattle.std.proofs.lemmas.List.{map-append}
use Rattle.std.specs.Cmp.{first_so, second_so}
use Rattle.tv_lemmas.specs.Members.{Each, In}
use Rattle.tv_lemmas.proofs.Members.{in-flat, some_in}
use Rattle.tv_history.proofs.Legal.{legal-of}
use Rattle.tv_lemmas.proofs.Cases.{on_test, on_either}
use Rattle.tv_value.specs.Values.{Name, JobName, Value}
use Rattle.tv_value.specs.Orders.{same_job}
use Rattle.tv_value.proofs.JobNameLemmas.{same_job_decides}
use Rattle.tv_flow.specs.Flows.{Flow}
use Rattle.tv_gate.specs.Outcomes.{Giving}
use Rattle.tv_dispatch.specs.Jobs.{Ask}
use Rattle.tv_model.specs.Jobs.{Job}
use Rattle.tv_model.specs.Made.{Meaning, Opened, Made}
use Rattle.tv_model.specs.Meanings.{jobs_with_inside, instance_meaning, no_meaning, flow_meaning}
use Rattle.tv_model.specs.Turns.{is_bounced, ask_order}
use Rattle.tv_model.specs.instance.Ranks.{ranked}
use Rattle.tv_history.specs.Entries.{Entry, accepted, opened, History, is_opened_entry, is_begun_entry}
use Rattle.tv_model.specs.Lists.{first_of_list}
use Rattle.tv_history.specs.Histories.{asks_left, is_settled, is_legal, is_legal_after}
use Rattle.tv_model.proofs.Tests.{true≠false}
use Rattle.tv_model.proofs.Order.{all_rated}
use Rattle.tv_model.proofs.ReadOff.{IsReadOff, flow-read, instance-order}
use Rattle.tv_model.proofs.Fed.{named_map_or}
use Rattle.tv_model.proofs.Earlier.{job_list}
use Rattle.tv_history.proofs.Running.{opened_begins}
use Rattle.tv_model.proofs.Kept.{InsideIs}
use Rattle.tv_model.proofs.Formed.{AreFormed, own-apart, steps-formed, none-formed}
use Rattle.tv_model.proofs.Instances.{given_of, given-free, steps_of, ranked-fresh, needs-earlier}
use Rattle.tv_model.proofs.Whole.{IsWhole, StepsHave, one-whole, rank-each, nothing-whole}
use Rattle.tv_history.proofs.Ready.{are-jobs}
use Rattle.tv_history.proofs.Stuck.{AtLeastOne}
use Rattle.tv_history.proofs.Done.{TryKey, key_of, try_of, tries_of, of-next, opened-facts, job-opened, opener-ended, accepted-asks, settled-tries}
use Rattle.tv_history.proofs.Permuted.{NamedTry, entry_try, with_name, ask_try, asks_of}
use Rattle.tv_history.proofs.OneWorker.{Before, IsLaidOut, is_by_one}
use Rattle.tv_history.proofs.LaidOut.{before-first, before-cross, before-rest}
use Rattle.tv_history.proofs.Inside.{instance-opened, outer-begun, inner-settled}
use Rattle.tv_history.proofs.Follows.{IsFirstPart, is_of, try_within, tries_within, of-none, IsTry, try-case, HaveTries, was_begun, as_tries, IsFollowed, tried-job, untried, instance-first_part, instance-full}
use Rattle.tv_history.proofs.Tests.{any_weaken, full}

-- the tries of one job
one-job : (j : Job) (past : History) → tries_within (j ∷ []) past ≡ with_name j.name (tries_of j.name past)
one-job j [] = refl
one-job j (e ∷ past) =
    ap (λ z. z ++ try_within (j ∷ []) e) (one-job j past) ∙ ap (λ z. with_name j.name (tries_of j.name past) ++ z) (by e)
    ∙ sym (map-append (λ k. (j.name, k)) (tries_of j.name past) (try_of j.name e))
  where
    both : (k : JobName) (t : TryKey) (a b : Bool) → same_job k j.name ≡ a → same_job j.name k ≡ b → (if a || false then (k, t) ∷ [] else []) ≡ with_name j.name (if b then t ∷ [] else [])
    both k t true true p q = ap (λ n. (n, t) ∷ []) ((same_job_decides k j.name).0 p)
    both k t true false p q = absurd (true≠false (sym ((same_job_decides j.name k).1 (sym ((same_job_decides k j.name).0 p))) ∙ q))
    both k t false true p q = absurd (true≠false (sym ((same_job_decides k j.name).1 (sym ((same_job_decides j.name k).0 q))) ∙ p))
    both k t false false p q = refl

    by : (e : Entry) → try_within (j ∷ []) e ≡ with_name j.name (try_of j.name e)
    by (accepted k c t r) = both k (c, t, r) (same_job k j.name) (same_job j.name k) refl refl
    by e = refl

own-asks : (gives : Giving) (n : JobName) (as' : List Ask) → with_name n (map (key_of gives) as') ≡ map (ask_try gives) (map (λ a. (n, a)) as')
own-asks gives n [] = refl
own-asks gives n (a ∷ as') = ap (λ l. (n, key_of gives a) ∷ l) (own-asks gives n as')

-- a meaning within that of the whole run
pub record IsWithin (m n : Meaning) : Type 0 where
  pub jobs : (x : Job) → In x n.jobs → In x m.jobs
  pub before : (x y : Job) → Before x y n.jobs → Before x y m.jobs

module _ (gives : Giving) where
  abbrev pub IsFollowedIn : Meaning → Meaning → JobName → History → Type 0
  IsFollowedIn m n J past = IsFirstPart (tries_within n.jobs past) (as_tries gives m (ask_order n)) × (((x : Job) → In x n.jobs → x.instance ≡ J → is_settled past x ≡ true) → tries_within n.jobs past ≡ as_tries gives m (ask_order n))

  -- in every run that this meaning stands in
  abbrev pub IsInSequence : Meaning → JobName → Type 0
  IsInSequence n J = IsWhole gives AtLeastOne n J × ((m : Meaning) → IsWhole gives AtLeastOne m [] → IsLaidOut m.jobs → HaveTries m.jobs → IsWithin m n → (past : History) → is_legal gives m past ≡ true → is_by_one m past ≡ true → IsFollowedIn m n J past)

  module _ (m : Meaning) (w : IsWhole gives AtLeastOne m []) (laid : IsLaidOut m.jobs) (fit : HaveTries m.jobs) where
    -- ---- what stands inside a job

    module _ (j : Job) (ji : In j m.jobs) (n : Meaning) (v : IsWhole gives AtLeastOne n j.name) (opens_it : is_some j.opens ≡ true) (not_bounced : is_bounced j.ending ≡ false) (inside : IsWithin m n) where
      abbrev WasOpened : History → Type 0
      WasOpened past = list_any (is_opened_entry j.name) past ≡ true

      up-chain : (f : ℕ) (past : History) → is_legal gives m past ≡ true → (x : Job) → In x n.jobs → length x.instance < f → was_begun gives m past x ≡ true → WasOpened past × (is_settled past x ≡ false → is_settled past j ≡ false)
      up-chain zero past l x i b h = absurd (omega (arith, b))
      up-chain (suc f) past l x i b h = on_either (v.jobs x i).parent (λ e. (instance-opened gives m w past l x j (inside.jobs x i) ji (sym e) h, λ u. outer-unsettled j (sym e) opens_it not_bounced u (is_settled past j) refl)) (λ p. let r = (up-chain f past l p.0 p.1 (shorter p.0 p.1 p.2) (outer-begun gives m w past l x p.0 (inside.jobs x i) (inside.jobs p.0 p.1) p.2 h)) in (r.0, λ u. r.1 (outer-unsettled p.0 p.2 p.3 p.4 u (is_settled past p.0) refl)))
        where
          shorter : (p : Job) → In p n.jobs → p.name ≡ x.instance → length p.instance < f
          shorter p k e = omega (arith, ap length (sym e ∙ (v.jobs p k).named) ∙ length-append p.instance ((v.jobs p k).key ∷ []), b)

          outer-unsettled : (p : Job) → p.name ≡ x.instance → is_some p.opens ≡ true → is_bounced p.ending ≡ false → is_settled past x ≡ false → (s : Bool) → is_settled past p ≡ s → is_settled past p ≡ false
          outer-unsettled p e o nb u false q = q
          outer-unsettled p e o nb u true q = absurd (true≠false (sym (inner-settled gives m w past l x p (inside.jobs x i) e o nb q) ∙ u))

      pub going-up : (past : History) → is_legal gives m past ≡ true → (x : Job) → In x n.jobs → was_begun gives m past x ≡ true → WasOpened past × (is_settled past x ≡ false → is_settled past j ≡ false)
      going-up past l x i h = up-chain (suc (length x.instance)) past l x i (omega arith) h

      -- before the flow is opened, nothing is tried in it
      pub inner-untried : (past : History) → is_legal gives m past ≡ true → list_any (is_opened_entry j.name) past ≡ false → tries_within n.jobs past ≡ []
      inner-untried past l f = untried gives m w laid fit n.jobs inside.jobs past l (λ x i. by x i (was_begun gives m past x) refl)
        where
          by : (x : Job) → In x n.jobs → (b : Bool) → was_begun gives m past x ≡ b → was_begun gives m past x ≡ false
          by x i false q = q
          by x i true q = absurd (true≠false (sym (going-up past l x i q).0 ∙ f))

      -- the job's own tries come before those inside
      own-then_inner : (past : History) → is_legal gives m past ≡ true → tries_within (j ∷ n.jobs) past ≡ tries_within (j ∷ []) past ++ tries_within n.jobs past
      own-then_inner [] l = refl
      own-then_inner (e ∷ past) l =
          ap (λ z. z ++ try_within (j ∷ n.jobs) e) (own-then_inner past legal) ∙ (on_either (try-case e) (λ t. ap (λ z. (own ++ inner) ++ z) (t.tries (j ∷ n.jobs)) ∙ shape (same_job t.name j.name) (is_of n.jobs t.name) t refl refl ∙ sym (ap (λ z. (own ++ z) ++ (inner ++ try_within n.jobs e)) (t.tries (j ∷ [])) ∙ ap (λ z. (own ++ (if is_of (j ∷ []) t.name then entry_try e else [])) ++ (inner ++ z)) (t.tries n.jobs))) (λ g. ap (λ z. (own ++ inner) ++ z) (g (j ∷ n.jobs)) ∙ append-nil (own ++ inner) ∙ sym (ap (λ z. (own ++ z) ++ (inner ++ try_within n.jobs e)) (g (j ∷ [])) ∙ ap (λ z. z ++ (inner ++ try_within n.jobs e)) (append-nil own) ∙ ap (λ z. own ++ (inner ++ z)) (g n.jobs) ∙ ap (λ z. own ++ z) (append-nil inner))))
        where
          legal : is_legal gives m past ≡ true
          legal = first_so (is_legal gives m past) (is_legal_after gives m past e) l

          after : is_legal_after gives m past e ≡ true
          after = second_so (is_legal gives m past) (is_legal_after gives m past e) l

          own : List NamedTry
          own = tries_within (j ∷ []) past

          inner : List NamedTry
          inner = tries_within n.jobs past

          no_opening : (t : IsTry e) → same_job t.name j.name ≡ true → list_any (is_opened_entry j.name) past ≡ false
          no_opening t q = on_test (list_any (is_opened_entry j.name) past) (λ p. let f = of-next gives AtLeastOne m w past j ji (legal-of gives m past e after) (t.accepts j.name (sym ((same_job_decides t.name j.name).0 q))) in absurd (true≠false (sym (ap is_some f.1) ∙ ap (λ x. is_some (first_of_list x)) (opened-facts gives AtLeastOne m w past legal j ji p).0))) (λ p. p)

          not_inner : (t : IsTry e) → same_job t.name j.name ≡ true → (b : Bool) → is_of n.jobs t.name ≡ b → (if b then entry_try e else []) ≡ []
          not_inner t q false p = refl
          not_inner t q true p =
              let x = some_in (λ (k : Job). same_job t.name k.name) n.jobs p in
              let r = tried-job gives m w laid fit past e legal after t in
              let eq = (are-jobs gives AtLeastOne m [] w).once r.job x.0 r.mine (inside.jobs x.0 x.1) (r.named ∙ (same_job_decides t.name x.0.name).0 x.2) in
              absurd (true≠false (sym (going-up past legal x.0 x.1 (subst (λ y. was_begun gives m past y ≡ true) eq r.begun_it)).0 ∙ no_opening t q))

          shape : (a b : Bool) → (t : IsTry e) → same_job t.name j.name ≡ a → is_of n.jobs t.name ≡ b → (own ++ inner) ++ (if a || b then entry_try e else []) ≡ (own ++ (if a || false then entry_try e else [])) ++ (inner ++ (if b then entry_try e else []))
          shape true b t p q =
              ap (λ z. (own ++ z) ++ entry_try e) (inner-untried past legal (no_opening t p)) ∙ ap (λ z. z ++ entry_try e) (append-nil own)
              ∙ sym (append-nil (own ++ entry_try e))
              ∙ ap (λ z. (own ++ entry_try e) ++ z) (sym (ap (λ z. z ++ (if b then entry_try e else [])) (inner-untried past legal (no_opening t p)) ∙ not_inner t p b q))
          shape false b t p q = append_assoc own inner (if b then entry_try e else []) ∙ ap (λ z. z ++ (inner ++ (if b then entry_try e else []))) (sym (append-nil own))

    -- ---- the turn of a job

    own-part : (j : Job) → In j m.jobs → (past : History) → is_legal gives m past ≡ true → IsFirstPart (tries_within (j ∷ []) past) (as_tries gives m (asks_of j))
    own-part j i past l = (
      with_name j.name (map (key_of gives) (asks_left past j.name j.asks)),
      sym (own-asks gives j.name j.asks) ∙ ap (with_name j.name) (sym (accepted-asks gives AtLeastOne m w past l j i)) ∙ map-append (λ k. (j.name, k)) (tries_of j.name past) (map (key_of gives) (asks_left past j.name j.asks))
          ∙ ap (λ z. z ++ with_name j.name (map (key_of gives) (asks_left past j.name j.asks))) (sym (one-job j past)),
    )

    own-full : (j : Job) → In j m.jobs → (past : History) → is_legal gives m past ≡ true → asks_left past j.name j.asks ≡ [] → tries_within (j ∷ []) past ≡ as_tries gives m (asks_of j)
    own-full j i past l e =
        one-job j past
        ∙ ap (with_name j.name) (sym (append-nil (tries_of j.name past)) ∙ ap (λ z. tries_of j.name past ++ map (key_of gives) z) (sym e) ∙ accepted-asks gives AtLeastOne m w past l j i)
        ∙ own-asks gives j.name j.asks

    abbrev TurnIs : Job → Option Meaning → History → Type 0
    TurnIs j p past = IsFirstPart (tries_within (j ∷ option_map_or (λ (n : Meaning). n.jobs) p []) past) (as_tries gives m (asks_of j ++ option_map_or ask_order p [])) × (is_settled past j ≡ true → tries_within (j ∷ option_map_or (λ (n : Meaning). n.jobs) p []) past ≡ as_tries gives m (asks_of j ++ option_map_or ask_order p []))

    turn-is : (j : Job) → In j m.jobs → (p : Option Meaning) → InsideIs IsInSequence j p → ((n : Meaning) → p ≡ Some n → IsWithin m n) → (past : History) → is_legal gives m past ≡ true → is_by_one m past ≡ true → TurnIs j p past
    turn-is j i None h f past l b = (
      (let r = own-part j i past l in (r.0, ap (as_tries gives m) (append-nil (asks_of j)) ∙ r.1)),
      λ s. one-job j past ∙ ap (with_name j.name) (settled-tries gives AtLeastOne m w past l j i s) ∙ own-asks gives j.name j.asks ∙ ap (as_tries gives m) (sym (append-nil (asks_of j))),
    )
    turn-is j i (Some n) h f past l b = (
      by (list_any (is_opened_entry j.name) past) refl,
      λ s. let o = job-opened gives AtLeastOne m w past l j i (opener-ended gives AtLeastOne m w past j h.1 h.2 s) in
          own-then_inner j i n h.0.0 h.1 h.2 (f n refl) past l ∙ ap (λ z. z ++ tries_within n.jobs past) (own_all o) ∙ ap (λ z. as_tries gives m (asks_of j) ++ z) (inner_law.1 (λ x k e. inner-settled gives m w past l x j ((f n refl).jobs x k) (sym e) h.1 h.2 s)) ∙ sym (map-append (ask_try gives) (asks_of j) (ask_order n)),
    )
      where
        inner_law : IsFollowedIn m n j.name past
        inner_law = h.0.1 m w laid fit (f n refl) past l b

        own_all : list_any (is_opened_entry j.name) past ≡ true → tries_within (j ∷ []) past ≡ as_tries gives m (asks_of j)
        own_all o = own-full j i past l (opened-facts gives AtLeastOne m w past l j i o).0

        by : (c : Bool) → list_any (is_opened_entry j.name) past ≡ c → IsFirstPart (tries_within (j ∷ n.jobs) past) (as_tries gives m (asks_of j ++ (ask_order n)))
        by true o =
            let r = inner_law.0 in
            (r.0, map-append (ask_try gives) (asks_of j) (ask_order n) ∙ ap (λ z. as_tries gives m (asks_of j) ++ z) r.1 ∙ ap (λ z. z ++ (tries_within n.jobs past ++ r.0)) (sym (own_all o)) ∙ sym (append_assoc (tries_within (j ∷ []) past) (tries_within n.jobs past) r.0) ∙ ap (λ z. z ++ r.0) (sym (own-then_inner j i n h.0.0 h.1 h.2 (f n refl) past l)))
        by false o =
            let r = own-part j i past l in (
              r.0 ++ as_tries gives m (ask_order n),
              map-append (ask_try gives) (asks_of j) (ask_order n) ∙ ap (λ z. z ++ as_tries gives m (ask_order n)) r.1 ∙ append_assoc (tries_within (j ∷ []) past) r.0 (as_tries gives m (ask_order n))
                  ∙ ap (λ z. z ++ (r.0 ++ as_tries gives m (ask_order n))) (sym (own-then_inner j i n h.0.0 h.1 h.2 (f n refl) past l ∙ ap (λ z. tries_within (j ∷ []) past ++ z) (inner-untried j i n h.0.0 h.1 h.2 (f n refl) past l o) ∙ append-nil (tries_within (j ∷ []) past))),
            )

    -- what the law of one instance asks of its jobs
    own-followed : (J : JobName) (o : Opened) → o.job.instance ≡ J → ((x : Job) → In x (jobs_with_inside o) → In x m.jobs) → ((x y : Job) → Before x y (jobs_with_inside o) → Before x y m.jobs) → InsideIs IsInSequence o.job o.inside → (is_bounced o.job.ending ≡ true → o.job.asks ≡ []) → IsFollowed gives m J o
    own-followed J o e within order h no_asks = record {
      mine = within o.job (inl refl);
      in_instance = e;
      within = within;
      up = λ past l x i k. up_case past l x i k;
      first_part = λ past l b. (turn-is o.job (within o.job (inl refl)) o.inside h part_of past l b).0;
      full = λ past l b s. (turn-is o.job (within o.job (inl refl)) o.inside h part_of past l b).1 s;
      empty = λ b. empty_case b o.inside h;
    }
      where
        inner_jobs : Option Meaning → List Job
        inner_jobs p = option_map_or (λ (n : Meaning). n.jobs) p []

        part_of : (n : Meaning) → o.inside ≡ Some n → IsWithin m n
        part_of n q = record {
          jobs = λ x i. within x (inr (subst (λ p. In x (inner_jobs p)) (sym q) i));
          before = λ x y k. order x y (inr (subst (λ p. Before x y (inner_jobs p)) (sym q) k));
        }

        empty_case : is_bounced o.job.ending ≡ true → (p : Option Meaning) → InsideIs IsInSequence o.job p → asks_of o.job ++ option_map_or ask_order p [] ≡ []
        empty_case b None k = append-nil (asks_of o.job) ∙ ap (λ as'. map (λ a. (o.job.name, a)) as') (no_asks b)
        empty_case b (Some n) k = absurd (true≠false (sym b ∙ k.2))

        inner_case : (past : History) → is_legal gives m past ≡ true → (p : Option Meaning) → InsideIs IsInSequence o.job p → ((n : Meaning) → p ≡ Some n → IsWithin m n) → (x : Job) → In x (inner_jobs p) → was_begun gives m past x ≡ true → (was_begun gives m past o.job ≡ true) × (is_settled past x ≡ false → is_settled past o.job ≡ false)
        inner_case past l None k f x i b = absurd i
        inner_case past l (Some n) k f x i b =
            let r = going-up o.job (within o.job (inl refl)) n k.0.0 k.1 k.2 (f n refl) past l x i b in
            (any_weaken (is_opened_entry o.job.name) (is_begun_entry o.job.name) (opened_begins o.job.name) past r.0, r.1)

        up_case : (past : History) → is_legal gives m past ≡ true → (x : Job) → In x (jobs_with_inside o) → was_begun gives m past x ≡ true → (was_begun gives m past o.job ≡ true) × (is_settled past x ≡ false → is_settled past o.job ≡ false)
        up_case past l x (inl q) b = (subst (λ y. was_begun gives m past y ≡ true) q b, λ u. subst (λ y. is_settled past y ≡ false) q u)
        up_case past l x (inr i) b = inner_case past l o.inside h part_of x i b

  -- ---- every flow

  before-flat : (x y : Job) (o : Opened) (os : List Opened) → In o os → Before x y (jobs_with_inside o) → Before x y (flat_map jobs_with_inside os)
  before-flat x y o [] i b = absurd i
  before-flat x y o (u ∷ os) (inl p) b = before-first x y (jobs_with_inside u) (flat_map jobs_with_inside os) (subst (λ z. Before x y (jobs_with_inside z)) p b)
  before-flat x y o (u ∷ os) (inr i) b = before-rest x y (jobs_with_inside u) (flat_map jobs_with_inside os) (before-flat x y o os i b)

  before-own : (o u : Opened) (os : List Opened) → Before o u os → Before o.job u.job (flat_map jobs_with_inside os)
  before-own o u [] b = absurd b
  before-own o u (z ∷ os) (inl b) = before-cross o.job u.job (jobs_with_inside z) (flat_map jobs_with_inside os) (inl (ap (λ (v : Opened). v.job) (sym b.0))) (in-flat jobs_with_inside u u.job os b.1 (inl refl))
  before-own o u (z ∷ os) (inr b) = before-rest o.job u.job (jobs_with_inside z) (flat_map jobs_with_inside os) (before-own o u os b)

  instance-in_sequence : (inside : Name → JobName → List (Name × Value) → Meaning) → ((f : Name) (n : JobName) (vs : List (Name × Value)) → IsReadOff (inside f n vs) n) → ((f : Name) (n : JobName) (vs : List (Name × Value)) → IsInSequence (inside f n vs) n) → (I : JobName) (flow : Flow) (vs : List (Name × Value)) → StepsHave gives AtLeastOne flow → IsInSequence (instance_meaning gives inside I flow vs) I
  instance-in_sequence inside read is I flow vs h = (one-whole gives AtLeastOne inside (λ f n us. (is f n us).0) I flow vs h, λ m w laid fit part past l b. law m w laid fit part past l b)
    where
      ms : List Made
      ms = steps_of gives inside I flow vs

      os : List Opened
      os = job_list ms

      formed : AreFormed gives inside I IsInSequence is AtLeastOne (given_of flow vs) (given-free flow vs) ms
      formed = steps-formed gives inside I IsInSequence is AtLeastOne (given_of flow vs) (given-free flow vs) [] (none-formed gives inside I IsInSequence is AtLeastOne (given_of flow vs) (given-free flow vs)) (ranked flow.steps) (ranked-fresh flow.steps) (rank-each gives AtLeastOne (λ s. AtLeastOne s.1.jobs) (length flow.steps) [] flow.steps h)

      own : (m : Meaning) → IsWhole gives AtLeastOne m [] → IsLaidOut m.jobs → HaveTries m.jobs → IsWithin m (instance_meaning gives inside I flow vs) → (o : Opened) → In o os → IsFollowed gives m I o
      own m w laid fit part o i =
          let f = formed.jobs o i in
          own-followed m w laid fit I o f.in_instance (λ x k. part.jobs x (in-flat jobs_with_inside o x os i k)) (λ x y k. part.before x y (before-flat x y o os i k)) f.inside_it f.no_asks

      law : (m : Meaning) → IsWhole gives AtLeastOne m [] → IsLaidOut m.jobs → HaveTries m.jobs → IsWithin m (instance_meaning gives inside I flow vs) → (past : History) → is_legal gives m past ≡ true → is_by_one m past ≡ true → IsFollowedIn m (instance_meaning gives inside I flow vs) I past
      law m w laid fit part past l b =
          let a = own-apart gives inside I IsInSequence is AtLeastOne (given_of flow vs) (given-free flow vs) ms formed in
          let r = all_rated ms (needs-earlier gives inside I flow vs) in
          let d = λ (x : Opened) (y : Opened) (k : Before x y os). part.before x.job y.job (before-own x y os k) in
          let same = sym (instance-order gives inside read I flow vs) in (
            subst (λ z. IsFirstPart (tries_within (flat_map jobs_with_inside os) past) (as_tries gives m z)) same (instance-first_part gives m w laid fit I os (own m w laid fit part) a r d past l b),
            λ f. instance-full gives m w laid fit I os (own m w laid fit part) a r d past l b (λ o i. f o.job (in-flat jobs_with_inside o o.job os i (inl refl)) (formed.jobs o i).in_instance) ∙ ap (as_tries gives m) same,
          )

  nothing-in_sequence : (I : JobName) → IsInSequence no_meaning I
  nothing-in_sequence I = (nothing-whole gives AtLeastOne I, λ m w laid fit part past l b. (([], sym (of-none past) ∙ sym (append-nil (tries_within [] past))), λ f. of-none past))

  pub flow-in_sequence : (flows : List (Name × Flow)) → Each (λ f. StepsHave gives AtLeastOne f.1) flows → (depth : ℕ) (f : Name) (I : JobName) (vs : List (Name × Value)) → IsInSequence (flow_meaning gives flows depth f I vs) I
  flow-in_sequence flows h zero f I vs = nothing-in_sequence I
  flow-in_sequence flows h (suc depth) f I vs =
      named_map_or (StepsHave gives AtLeastOne) (λ m. IsInSequence m I) (λ flow. instance_meaning gives (flow_meaning gives flows depth) I flow vs) (λ flow k. instance-in_sequence (flow_meaning gives flows depth) (flow-read gives flows depth) (λ g n us. flow-in_sequence flows h depth g n us) I flow vs k) f flows no_meaning h (nothing-in_sequence I)
