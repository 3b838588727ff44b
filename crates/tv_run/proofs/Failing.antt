-- How many jobs have failed, with one entry more: one more where a wrong outcome settles its job, else as many as before.
use Rattle.std.specs.List.{list_any}
use Rattle.std.specs.Option.{option_map_or}
use Rattle.std.specs.Prelude.{◌≡◌, refl, ℕ, suc, ◌+◌, ◌==◌, Bool, true, false, cond, not, ◌&&◌, ◌||◌, if◌then◌else◌, List, [], ◌∷◌, ◌++◌, Option, None, Some, count_by, filter, is_none, is_ok, is_some}
use Rattle.std.proofs.Common.{ap, append-nil, arith, eqb-true, inl, inr, subst, sym, ◌∙◌}
use Rattle.std.proofs.lemmas.Option.{none-some}
use Rattle.std.specs.Cmp.{first_so, second_so}
use Rattle.tv_lemmas.specs.Members.{In}
use Rattle.tv_lemmas.proofs.Members.{any-in, in-right, some_in}
use Rattle.tv_lemmas.proofs.Cases.{on_test}
use Rattle.tv_lemmas.proofs.Counts.{count-both, count-cons}
use Rattle.tv_lemmas.proofs.Options.{map_or-some}
use Rattle.tv_value.specs.Orders.{same_job}
use Rattle.tv_value.specs.Values.{JobName, Name}
use Rattle.tv_value.proofs.JobNameLemmas.{same_job_decides}
use Rattle.tv_gate.specs.Outcomes.{Giving}
use Rattle.tv_flow.specs.Flows.{Document, Flow, Step}
use Rattle.tv_dispatch.specs.Jobs.{Ask}
use Rattle.tv_dispatch.specs.declared.plan.Next.{Next}
use Rattle.tv_dispatch.specs.declared.plan.Next.TheVariants as next
use Rattle.tv_model.specs.Jobs.{Ending, Job, bounced_end, failed_end, good_end}
use Rattle.tv_model.specs.Lists.{first_of_list}
use Rattle.tv_model.specs.Made.{Meaning}
use Rattle.tv_model.specs.Meanings.{meaning}
use Rattle.tv_model.specs.Turns.{is_bounced, is_failed}
use Rattle.tv_model.proofs.Members.{once-of_apart}
use Rattle.tv_model.specs.JobOrder.{Apart}
use Rattle.tv_model.proofs.Tests.{both_true, true≠false}
use Rattle.tv_history.specs.Entries.{Entry, History, accepted, bounced, closed, ended, fault_passed, handed_out, is_bounced_entry, is_ended_entry, is_opened_entry, is_out, opened, recalled}
use Rattle.tv_history.specs.Histories.{is_ask, is_at, is_legal, is_legal_after, is_settled, next_ask, same_bool}
use Rattle.tv_dispatch.specs.Plans.{came_right}
use Rattle.tv_history.specs.ReadOff.{has_failed}
use Rattle.tv_history.specs.Tries.{TryKey, tries_of, try_of}
use Rattle.tv_history.proofs.Done.{settled-none}
use Rattle.tv_history.proofs.Ready.{AnyNumber, document-whole}
use Rattle.tv_history.proofs.Sums.{settled-failed}
use Rattle.tv_history.proofs.Tests.{same-itself}
use Rattle.tv_history.proofs.Legal.{judged-same}
use Rattle.tv_instances.proofs.forest_seats.Stages.{accepted-other, settled-stays}
use Rattle.tv_instances.specs.forest_tries.NextTries.{IsAfter, accepting, said_after}
use Rattle.tv_instances.specs.forest_tries.Steps.{IsOwnStep}
use Rattle.tv_instances.proofs.forest_tries.Next.{after-is}
use Rattle.tv_instances.proofs.forest_tries.Parts.{own-parts}
use Rattle.tv_instances.specs.Forest.{Instances, Stand}
use Rattle.tv_run.specs.Looks as looks

abbrev pub failed_in : Meaning → History → ℕ
failed_in m past = count_by (λ (j : Job). has_failed past j.name) (filter (is_settled past) m.jobs)

-- an entry with which as many have failed as before
abbrev pub FailsNone : Giving → Document → History → Entry → Type 0
FailsNone gives d past e = failed_in (meaning gives d) (e ∷ past) ≡ failed_in (meaning gives d) past

-- ---- counting

-- tests that are the same for all in the list
count-alike : {A : Type 0} (p q : A → Bool) (xs : List A) → ((x : A) → In x xs → q x ≡ p x) → count_by q xs ≡ count_by p xs
count-alike p q [] h = refl
count-alike p q (x ∷ xs) h =
    count-cons q x xs ∙ (λ i. cond (h x (inl refl) i) 1 0 + count-alike p q xs (λ y k. h y (inr k)) i) ∙ sym (count-cons p x xs)

module _ {A K : Type 0} (key : A → K) (p q : A → Bool) (x : A) (none : p x ≡ false) where
  -- tests that are the same for all but one, which didn't pass
  count-but_one : (xs : List A) → Apart key xs → In x xs → ((y : A) → In y xs → (key y ≡ key x → ⊥) → q y ≡ p y)
      → count_by q xs ≡ cond (q x) 1 0 + count_by p xs
  count-but_one [] a i h = absurd i
  count-but_one (y ∷ ys) a (inl e) h =
      let rest = count-alike p q ys (λ z k. h z (inr k) (λ f. a.0 z k (f ∙ ap key e))) in
      let all : count_by q (y ∷ ys) ≡ cond (q x) 1 0 + count_by q ys =
      count-cons q y ys ∙ ap (λ z. cond (q z) 1 0 + count_by q ys) (sym e) in
      let old : count_by p (y ∷ ys) ≡ cond (p x) 1 0 + count_by p ys =
      count-cons p y ys ∙ ap (λ z. cond (p z) 1 0 + count_by p ys) (sym e) in
      let zero : ◌≡◌ {A = ℕ} (cond (p x) 1 0) 0 = ap (λ b. cond b 1 0) none in
      omega (arith, rest, all, old, zero)
  count-but_one (y ∷ ys) a (inr k) h =
      let same = h y (inl refl) (λ f. a.0 x k (sym f)) in
      let rest = count-but_one ys a.1 k (λ z l f. h z (inr l) f) in
      let all : count_by q (y ∷ ys) ≡ cond (p y) 1 0 + count_by q ys =
      count-cons q y ys ∙ ap (λ b. cond b 1 0 + count_by q ys) same in
      let old = count-cons p y ys in
      omega (arith, all, rest, old)

-- ---- entries by which no job is settled that fails

abbrev SettlesNoFailed : Meaning → History → Entry → Type 0
SettlesNoFailed m past x =
    (j : Job) → In j m.jobs → (is_settled (x ∷ past) j && is_failed j.ending) ≡ (is_settled past j && is_failed j.ending)

both-none : (a b c : Bool) → c ≡ false → (a && c) ≡ (b && c)
both-none a b c e = ap (λ x. a && x) e ∙ none a b ∙ sym (ap (λ x. b && x) e)
  where
    none : (a b : Bool) → (a && false) ≡ (b && false)
    none true true = refl
    none true false = refl
    none false true = refl
    none false false = refl

module _ (gives : Giving) (d : Document) where
  -- a settled job has failed where it fails in the meaning
  counts-meant :
      (past : History) → is_legal gives (meaning gives d) past ≡ true → (j : Job) → In j (meaning gives d).jobs
      → (is_settled past j && has_failed past j.name) ≡ (is_settled past j && is_failed j.ending)
  counts-meant past l j i =
      on_test (is_settled past j)
      (λ s.
      ap (λ b. is_settled past j && b) (settled-failed gives AnyNumber (meaning gives d) (document-whole gives d) past l j i s))
      (λ s. ap (λ b. b && has_failed past j.name) s ∙ sym (ap (λ b. b && is_failed j.ending) s))

  failed-meant :
      (past : History) → is_legal gives (meaning gives d) past ≡ true
      → failed_in (meaning gives d) past ≡ count_by (λ j. is_settled past j && is_failed j.ending) (meaning gives d).jobs
  failed-meant past l =
      let js = (meaning gives d).jobs in
      sym (count-both (is_settled past) (λ j. has_failed past j.name) js)
      ∙ count-alike (λ j. is_settled past j && is_failed j.ending) (λ j. is_settled past j && has_failed past j.name) js
      (counts-meant past l)

  fails-none : (past : History) (x : Entry) → is_legal gives (meaning gives d) past ≡ true
      → is_legal_after gives (meaning gives d) past x ≡ true → SettlesNoFailed (meaning gives d) past x
      → FailsNone gives d past x
  fails-none past x l next h =
      failed-meant (x ∷ past) (both_true (is_legal gives (meaning gives d) past) (is_legal_after gives (meaning gives d) past x) l next)
      ∙ count-alike (λ j. is_settled past j && is_failed j.ending) (λ j. is_settled (x ∷ past) j && is_failed j.ending)
      (meaning gives d).jobs h
      ∙ sym (failed-meant past l)

  bounce-settles_none : (past : History) (n : JobName) → SettlesNoFailed (meaning gives d) past (bounced n)
  bounce-settles_none past n j k = by j.ending
    where
      by :
          (e : Ending)
          → ((if is_bounced e then list_any (is_bounced_entry j.name) (bounced n ∷ past)
          else (if is_some j.opens then list_any (is_ended_entry j.name) past else is_none (next_ask past j))) && is_failed e)
          ≡ ((if is_bounced e then list_any (is_bounced_entry j.name) past
          else (if is_some j.opens then list_any (is_ended_entry j.name) past else is_none (next_ask past j))) && is_failed e)
      by good_end = both-none _ _ false refl
      by failed_end = refl
      by bounced_end = both-none _ _ false refl

  -- who opens a flow doesn't fail
  opener-fails_not : (j : Job) → In j (meaning gives d).jobs → is_some j.opens ≡ true → is_failed j.ending ≡ false
  opener-fails_not j i o = ((document-whole gives d).jobs j i).failed ∙ none (is_bounced j.ending) j.opens _ o
    where
      none : (b : Bool) (f : Option Name) (r : Bool) → is_some f ≡ true → (not b && is_none f && not r) ≡ false
      none b None r h = absurd (true≠false (sym h))
      none true (Some f) r h = refl
      none false (Some f) r h = refl

  end-settles_none : (past : History) (n : JobName) → SettlesNoFailed (meaning gives d) past (ended n)
  end-settles_none past n j i =
      on_test (is_some j.opens)
      (λ o. both-none (is_settled (ended n ∷ past) j) (is_settled past j) (is_failed j.ending) (opener-fails_not j i o))
      (λ o. ap (λ b. b && is_failed j.ending) (same o))
    where
      by : Bool → Bool → Bool
      by b e = if is_bounced j.ending then list_any (is_bounced_entry j.name) past else (if b then e else is_none (next_ask past j))

      same : is_some j.opens ≡ false → is_settled (ended n ∷ past) j ≡ is_settled past j
      same o =
          ap (λ b. by b (is_ended_entry j.name (ended n) || list_any (is_ended_entry j.name) past)) o
          ∙ sym (ap (λ b. by b (list_any (is_ended_entry j.name) past)) o)

-- ---- an outcome of a job

module _ (past : History) (n : JobName) (a t : ℕ) (right : Bool) (i : Job) (other : same_job i.name n ≡ false) where
  tries-stay : tries_of i.name (accepted n a t right ∷ past) ≡ tries_of i.name past
  tries-stay =
      ap (λ b. tries_of i.name past ++ (if b then (a, t, right) ∷ [] else [])) other ∙ append-nil (tries_of i.name past)

  failed-stays : has_failed (accepted n a t right ∷ past) i.name ≡ has_failed past i.name
  failed-stays =
      ap
      (λ ks.
      not (list_any (is_bounced_entry i.name) past) && not (list_any (is_opened_entry i.name) past)
      && not (list_any (λ (k : TryKey). k.2) ks))
      tries-stay

-- it counts as one that is settled and has failed
abbrev counts : History → Job → Bool
counts past i = is_settled past i && has_failed past i.name

module _ (gives : Giving) (d : Document) (levels : Flow → Name → ℕ) (past : History) (xs : Instances)
    (stand : Stand gives d levels past xs) where
  abbrev m : Meaning
  m = meaning gives d

  abbrev MayBeNext : Entry → Type 0
  MayBeNext e = is_legal_after gives m past e ≡ true

  pub handed-fails_none : (n : JobName) (a t : ℕ) → MayBeNext (handed_out n a t) → FailsNone gives d past (handed_out n a t)
  handed-fails_none n a t h = fails-none gives d past (handed_out n a t) stand.legal h (λ j i. refl)

  pub closed-fails_none : (n : JobName) (k : ℕ) → MayBeNext (closed n k) → FailsNone gives d past (closed n k)
  closed-fails_none n k h = fails-none gives d past (closed n k) stand.legal h (λ j i. refl)

  pub passed-fails_none : (n : JobName) → MayBeNext (fault_passed n) → FailsNone gives d past (fault_passed n)
  passed-fails_none n h = fails-none gives d past (fault_passed n) stand.legal h (λ j i. refl)

  pub opened-fails_none : (n : JobName) → MayBeNext (opened n) → FailsNone gives d past (opened n)
  opened-fails_none n h = fails-none gives d past (opened n) stand.legal h (λ j i. refl)

  pub recalled-fails_none : (k : ℕ) → MayBeNext (recalled k) → FailsNone gives d past (recalled k)
  recalled-fails_none k h = fails-none gives d past (recalled k) stand.legal h (λ j i. refl)

  pub bounced-fails_none : (n : JobName) → MayBeNext (bounced n) → FailsNone gives d past (bounced n)
  bounced-fails_none n h = fails-none gives d past (bounced n) stand.legal h (bounce-settles_none gives d past n)

  pub ended-fails_none : (n : JobName) → MayBeNext (ended n) → FailsNone gives d past (ended n)
  ended-fails_none n h = fails-none gives d past (ended n) stand.legal h (end-settles_none gives d past n)

  -- ---- an outcome of a job

  module _ (j : Job) (mine : In j (meaning gives d).jobs) (a t : ℕ) where
    abbrev now : Bool → History
    now right = accepted j.name a t right ∷ past

    -- it is that of what the job asks next
    record IsAskedNext (right : Bool) : Type 0 where
      ask : Ask
      is_next : next_ask past j ≡ Some ask
      activity : ask.activity ≡ a
      attempt : ask.attempt ≡ t
      is_its : came_right gives ask ≡ right
      out : is_out past j.name ≡ true

    asked-next : (right : Bool) → MayBeNext (accepted j.name a t right) → IsAskedNext right
    asked-next right h =
        let k = map_or-some is_this (next_ask past j) its in
        let same = first_so (is_ask a t k.0) (same_bool right (came_right gives k.0)) k.2 in
        record {
          ask = k.0;
          is_next = k.1;
          activity = sym (eqb-true a k.0.activity (first_so (a == k.0.activity) (t == k.0.attempt) same));
          attempt = sym (eqb-true t k.0.attempt (second_so (a == k.0.activity) (t == k.0.attempt) same));
          is_its = judged-same right (came_right gives k.0) (second_so (is_ask a t k.0) (same_bool right (came_right gives k.0)) k.2);
          out = first_so (is_out past j.name) (list_any is_it m.jobs) h;
        }
      where
        is_this : Ask → Bool
        is_this k = is_ask a t k && same_bool right (came_right gives k)

        is_it : Job → Bool
        is_it x = is_at x j.name && option_map_or is_this (next_ask past x) false

        found : (x : Job) × In x m.jobs × (is_it x ≡ true)
        found = some_in is_it m.jobs (second_so (is_out past j.name) (list_any is_it m.jobs) h)

        itself : found.0 ≡ j
        itself =
            once-of_apart (λ (x : Job). x.name) m.jobs (document-whole gives d).jobs_apart found.0 j found.1 mine
            (sym ((same_job_decides j.name found.0.name).0
            (first_so (is_at found.0 j.name) (option_map_or is_this (next_ask past found.0) false) found.2)))

        its : option_map_or is_this (next_ask past j) false ≡ true
        its =
            subst (λ x. option_map_or is_this (next_ask past x) false ≡ true) itself
            (second_so (is_at found.0 j.name) (option_map_or is_this (next_ask past found.0) false) found.2)

    unsettled : (right : Bool) → MayBeNext (accepted j.name a t right) → is_settled past j ≡ false
    unsettled right h =
        let k = asked-next right h in
        on_test (is_settled past j)
        (λ s.
        absurd (none-some k.ask
        (sym (ap first_of_list (settled-none gives AnyNumber m (document-whole gives d) past stand.legal j mine s)) ∙ k.is_next)))
        (λ s. s)

    -- of all other jobs it tells nothing
    others-stay : (right : Bool) (i : Job) → (i.name ≡ j.name → ⊥) → counts (now right) i ≡ counts past i
    others-stay right i ne =
        on_test (same_job i.name j.name) (λ h. absurd (ne ((same_job_decides i.name j.name).0 h)))
        (λ other.
        λ k. settled-stays past (accepted j.name a t right) i (accepted-other past i j.name other a t right).settles k
        && failed-stays past j.name a t right i other k)

    goes-on : (right : Bool) → MayBeNext (accepted j.name a t right)
        → failed_in m (now right) ≡ cond (counts (now right) j) 1 0 + failed_in m past
    goes-on right h =
        sym (count-both (is_settled (now right)) (λ (i : Job). has_failed (now right) i.name) m.jobs)
        ∙ count-but_one (λ (i : Job). i.name) (counts past) (counts (now right)) j
        (ap (λ b. b && has_failed past j.name) (unsettled right h))
        m.jobs (document-whole gives d).jobs_apart mine (λ i k ne. others-stay right i ne)
        ∙ ap (λ n. cond (counts (now right) j) 1 0 + n) (count-both (is_settled past) (λ (i : Job). has_failed past i.name) m.jobs)

    one-less : (right : Bool) → MayBeNext (accepted j.name a t right) → counts (now right) j ≡ false
        → FailsNone gives d past (accepted j.name a t right)
    one-less right h e =
        let all = goes-on right h in
        let zero : ◌≡◌ {A = ℕ} (cond (counts (now right) j) 1 0) 0 = ap (λ b. cond b 1 0) e in
        omega (arith, all, zero)

    -- ---- one that is right

    right-among : list_any (λ (k : TryKey). k.2) (tries_of j.name (now true)) ≡ true
    right-among =
        any-in (λ (k : TryKey). k.2) (a, t, true) (tries_of j.name (now true))
        (in-right (a, t, true) (tries_of j.name past) (try_of j.name (accepted j.name a t true))
        (subst (λ b. In {A = TryKey} (a, t, true) (if b then (a, t, true) ∷ [] else [])) (sym (same-itself j.name)) (inl refl)))
        refl

    right-stays : has_failed (now true) j.name ≡ false
    right-stays = none (not (list_any (is_bounced_entry j.name) past)) (not (list_any (is_opened_entry j.name) past)) _ right-among
      where
        none : (b o r : Bool) → r ≡ true → (b && o && not r) ≡ false
        none true true r h = ap not h
        none true false r h = refl
        none false o r h = refl

    pub right-fails_none : MayBeNext (accepted j.name a t true) → FailsNone gives d past (accepted j.name a t true)
    right-fails_none h = one-less true h (ap (λ b. is_settled (now true) j && b) right-stays ∙ none (is_settled (now true) j))
      where
        none : (b : Bool) → (b && false) ≡ false
        none true = refl
        none false = refl

    -- ---- one with which the job goes on

    pub going-fails_none : MayBeNext (accepted j.name a t false) → is_settled (accepted j.name a t false ∷ past) j ≡ false
        → FailsNone gives d past (accepted j.name a t false)
    going-fails_none h s = one-less false h (ap (λ b. b && has_failed (now false) j.name) s)

    -- ---- one that isn't right and settles it

    module _ (h : MayBeNext (accepted j.name a t false)) (s : is_settled (accepted j.name a t false ∷ past) j ≡ true) where
      abbrev k : IsAskedNext false
      k = asked-next false h

      step : (x : Step) × IsOwnStep gives d j x
      step = let p = own-parts gives d stand.formed stand.accepted j mine in (p.0, record { listed = mine; part = p.1 })

      after : IsAfter gives d past j step.0 (looks.tries_of step.0) k.ask
      after =
          after-is gives d past stand.legal j step.0 step.1 k.ask k.is_next k.out (looks.tries_of step.0)
          (record { retries = refl; activities = refl })

      is-now : accepting gives j k.ask ∷ past ≡ now false
      is-now = λ i. accepted j.name (k.activity i) (k.attempt i) (k.is_its i) ∷ past

      still-settled : is_settled (accepting gives j k.ask ∷ past) j ≡ true
      still-settled = ap (λ p. is_settled p j) is-now ∙ s

      has-failed : is_failed j.ending ≡ true
      has-failed = by (said_after gives (looks.tries_of step.0) k.ask) refl
        where
          by : (x : Next) → said_after gives (looks.tries_of step.0) k.ask ≡ x → is_failed j.ending ≡ true
          by next.Bounce e = absurd (after.not_bounced e)
          by (next.Ask b u) e = absurd (true≠false (sym still-settled ∙ (after.asks b u e).unsettled))
          by (next.Nest b) e = absurd (true≠false (sym still-settled ∙ after.unsettled b e))
          by next.Done e = absurd (true≠false (ap is_ok (sym (after.right e).result) ∙ k.is_its))
          by next.Failed e = ap is_failed (after.wrong e).ending

      counts-one : counts (now false) j ≡ true
      counts-one =
          both_true (is_settled (now false) j) (has_failed (now false) j.name) s
          (settled-failed gives AnyNumber m (document-whole gives d) (now false)
          (both_true (is_legal gives m past) (is_legal_after gives m past (accepted j.name a t false)) stand.legal h) j mine s
          ∙ has-failed)

      pub wrong-fails_one :
          failed_in (meaning gives d) (accepted j.name a t false ∷ past) ≡ suc (failed_in (meaning gives d) past)
      wrong-fails_one =
          let all = goes-on false h in
          let one : ◌≡◌ {A = ℕ} (cond (counts (now false) j) 1 0) 1 = ap (λ b. cond b 1 0) counts-one in
          omega (arith, all, one)
