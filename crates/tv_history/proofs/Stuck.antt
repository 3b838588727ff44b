-- A run is never stuck: where no try is out, nothing can be settled and no flow opened, some job is offered.
use Rattle.std.specs.Prelude.{◌≡◌, refl, ℕ, zero, suc, ◌+◌, ◌<◌, ◌≤◌, List, [], ◌∷◌, ◌++◌, length, Bool, true, false, not, ◌&&◌, ◌||◌, if◌then◌else◌, cond, Option, Some, None, is_some, is_none, find}
use Rattle.std.specs.List.{list_any, list_all}
use Rattle.std.specs.Option.{option_map_or}
use Rattle.std.proofs.Common.{arith, sym, ap, subst, ◌∙◌, inl, inr, append_assoc, append-nil, length-append}
use Rattle.std.proofs.lemmas.Bool.{not-true}
use Rattle.std.specs.Cmp.{first_so, second_so}
use Rattle.tv_lemmas.specs.Members.{Each, In}
use Rattle.tv_lemmas.proofs.Members.{any-in, each_in, in-options}
use Rattle.tv_history.proofs.Legal.{last-legal}
use Rattle.tv_lemmas.proofs.Cases.{on_test, on_or}
use Rattle.tv_value.specs.Nested.{Place}
use Rattle.tv_value.specs.Values.{JobName, Name}
use Rattle.tv_value.specs.Orders.{same_name, same_job}
use Rattle.tv_value.proofs.JobNameLemmas.{same_job_decides}
use Rattle.tv_flow.specs.Flows.{Document}
use Rattle.tv_strategy.specs.Origins.{Origin, Known, at_start, by_job, by_level}
use Rattle.tv_gate.specs.Outcomes.{Giving}
use Rattle.tv_dispatch.specs.Jobs.{Ask}
use Rattle.tv_model.specs.Jobs.{Job}
use Rattle.tv_model.specs.Made.{Meaning}
use Rattle.tv_model.specs.Turns.{is_bounced}
use Rattle.tv_model.specs.Meanings.{meaning}
use Rattle.tv_history.specs.Entries.{History, is_out, is_begun_entry, is_bounced_entry, is_ended_entry}
use Rattle.tv_model.specs.Levels.{levels}
use Rattle.tv_history.specs.Histories.{next_ask, is_settled, is_settled_name, has_entry, is_known, all_known, is_open, has_open_instance, is_running, is_idle, is_ready, has_place, may_go_on, is_offered, can_open, can_end, instances, can_settle_more, is_legal, is_legal_after, is_done}
use Rattle.tv_model.proofs.Tests.{true≠false, both_true, or_right}
use Rattle.tv_model.proofs.Turns.{or_left}
use Rattle.tv_history.proofs.Running.{begins, idle_begun}
use Rattle.tv_model.proofs.Grounds.{GroundedBy}
use Rattle.tv_model.proofs.Whole.{GroundedIn, IsWhole}
use Rattle.tv_history.proofs.Ready.{all-sound, are-jobs, no-bounce, no-ending, closed-if_known, meaning-whole}
use Rattle.tv_history.proofs.Tests.{none_pass, fails_in, full, if-fails}
pub use Rattle.tv_history.specs.Going.{IsWellFormed}

-- ---- tests

abbrev longest : List Job → ℕ
longest [] = 0
longest (j ∷ js) = length j.name + longest js

not-longer_than : (j : Job) (js : List Job) → In j js → length j.name ≤ longest js
not-longer_than j [] h = absurd h
not-longer_than j (k ∷ js) (inl p) = subst (λ n. length n ≤ length k.name + longest js) (ap (λ (x : Job). x.name) (sym p)) (omega arith)
not-longer_than j (k ∷ js) (inr h) = omega (arith, not-longer_than j js h)

-- at least one job at a time
abbrev pub AtLeastOne : ℕ → Type 0
AtLeastOne n = 1 ≤ n

module _ (gives : Giving) (D : ℕ → Type 0) (m : Meaning) (w : IsWhole gives D m []) where
  -- what was begun is not bounced
  pub begun-tried : (past : History) (j : Job) → In j m.jobs → is_legal gives m past ≡ true → list_any (is_begun_entry j.name) past ≡ true → is_bounced j.ending ≡ false
  begun-tried [] j i l h = absurd (true≠false (sym h))
  begun-tried (e ∷ past) j i l h =
      on_or (is_begun_entry j.name e) (list_any (is_begun_entry j.name) past) h (λ k. on_or (is_idle past j) (is_ready m past j && not (is_bounced j.ending) && has_place m past j) (begins gives m (all-sound gives D m [] w) (are-jobs gives D m [] w) past j i (last-legal gives m past e l) k) (λ k. (begun-tried past j i (first_so (is_legal gives m past) (is_legal_after gives m past e) l) (idle_begun gives m (all-sound gives D m [] w) (are-jobs gives D m [] w) past j k).0)) (λ k. not-true (is_bounced j.ending) (second_so (is_ready m past j) (not (is_bounced j.ending)) (first_so (is_ready m past j && not (is_bounced j.ending)) (has_place m past j) k)))) (λ k. begun-tried past j i (first_so (is_legal gives m past) (is_legal_after gives m past e) l) k)

  -- a job that is settled is so by its name
  found_settled : (past : History) (j : Job) → In j m.jobs → is_settled past j ≡ true → (js : List Job) → ((k : Job) → In k js → In k m.jobs) → In j js → option_map_or (is_settled past) (find (λ k. same_job j.name k.name) js) false ≡ true
  found_settled past j i h [] f x = absurd x
  found_settled past j i h (k ∷ js) f x = by (same_job j.name k.name) refl x (λ y. found_settled past j i h js (λ z u. f z (inr u)) y)
    where
      by : (b : Bool) → same_job j.name k.name ≡ b → In j (k ∷ js) → (In j js → option_map_or (is_settled past) (find (λ k. same_job j.name k.name) js) false ≡ true) → option_map_or (is_settled past) (cond b (Some k) (find (λ k. same_job j.name k.name) js)) false ≡ true
      by true e y rec = subst (λ z. is_settled past z ≡ true) ((are-jobs gives D m [] w).once j k i (f k (inl refl)) ((same_job_decides j.name k.name).0 e)) h
      by false e (inl p) rec = absurd (true≠false (sym ((same_job_decides j.name k.name).1 (ap (λ (x : Job). x.name) p)) ∙ e))
      by false e (inr y) rec = rec y

  pub settled-name : (past : History) (j : Job) → In j m.jobs → is_settled past j ≡ true → is_settled_name m past j.name ≡ true
  settled-name past j i h = found_settled past j i h m.jobs (λ k x. x) i

module _ (gives : Giving) (m : Meaning) (w : IsWhole gives AtLeastOne m []) where
  module _ (past : History) (legal : is_legal gives m past ≡ true) (quiet : can_settle_more m past ≡ false) where
    abbrev pub is_busy : Job → Bool
    is_busy k = is_offered m past k || can_open m past k || is_out past k.name

    -- a job inside an instance is offered, can open its flow, or has a try out
    abbrev pub Going : JobName → Type 0
    Going J = (k : Job) × In k m.jobs × ((c : Name × Place) × (r : JobName) × (k.name ≡ J ++ c ∷ r)) × (is_busy k ≡ true)

    busy-of : (k : Job) → (is_offered m past k || can_open m past k) ≡ true → is_busy k ≡ true
    busy-of k h = or_left (is_offered m past k || can_open m past k) (is_out past k.name) h

    -- so is a job that may go on, and isn't settled or bounced
    pub goes : (j : Job) → is_settled past j ≡ false → is_bounced j.ending ≡ false → may_go_on m past j ≡ true → (is_offered m past j || can_open m past j) ≡ true
    goes j s b g = by (next_ask past j) refl
      where
        by : (o : Option Ask) → next_ask past j ≡ o → (is_offered m past j || can_open m past j) ≡ true
        by (Some a) e = or_left (is_offered m past j) (can_open m past j) (both_true (is_some (next_ask past j)) (may_go_on m past j) (ap is_some e) g)
        by None e = on_test (is_some j.opens) (λ q. or_right (is_offered m past j) (can_open m past j) (both_true (is_none (next_ask past j) && is_some j.opens) (may_go_on m past j) (both_true (is_none (next_ask past j)) (is_some j.opens) (ap is_none e) q) g)) (λ q. let x = subst (λ c. (if c then list_any (is_bounced_entry j.name) past else (if is_some j.opens then list_any (is_ended_entry j.name) past else is_none (next_ask past j))) ≡ false) b s in absurd (true≠false (sym (ap is_none e) ∙ subst (λ c. (if c then list_any (is_ended_entry j.name) past else is_none (next_ask past j)) ≡ false) q x)))

    go : (j : Job) → In j m.jobs → (J : JobName) → j.instance ≡ J → is_settled past j ≡ false → is_bounced j.ending ≡ false → may_go_on m past j ≡ true → Going J
    go j i J e s b g = (j, i, ((w.jobs j i).key, [], (w.jobs j i).named ∙ ap (λ n. n ++ (w.jobs j i).key ∷ []) e), busy-of j (goes j s b g))

    -- what goes on inside a job goes on in its instance
    outer : (j : Job) → In j m.jobs → (J : JobName) → j.instance ≡ J → Going j.name → Going J
    outer j i J e g = (g.0, g.1, ((w.jobs j i).key, g.2.0 ∷ g.2.1, g.2.2 ∙ ap (λ n. n ++ g.2.0 ∷ g.2.1) ((w.jobs j i).named ∙ ap (λ n. n ++ (w.jobs j i).key ∷ []) e) ∙ append_assoc J ((w.jobs j i).key ∷ []) (g.2.0 ∷ g.2.1)), g.3)

    idle-of : (k : Job) → In k m.jobs → is_running past k ≡ true → has_open_instance past k ≡ false → is_out past k.name ≡ false → is_idle past k ≡ true
    idle-of k i r h o = both_true (is_running past k && not (is_out past k.name)) (not (has_open_instance past k)) (both_true (is_running past k) (not (is_out past k.name)) r (ap not o)) (ap not h)

    idle-goes : (k : Job) → In k m.jobs → is_running past k ≡ true → has_open_instance past k ≡ false → is_out past k.name ≡ false → (is_offered m past k || can_open m past k) ≡ true
    idle-goes k i r h o =
        goes k (not-true (is_settled past k) (second_so (list_any (is_begun_entry k.name) past) (not (is_settled past k)) r)) (begun-tried gives AtLeastOne m w past k i legal (first_so (list_any (is_begun_entry k.name) past) (not (is_settled past k)) r))
        (or_left (is_idle past k) (is_ready m past k && not (is_bounced k.ending) && has_place m past k) (idle-of k i r h o))

    -- a job that runs, and whose flow isn't open, goes on
    running-goes : (k : Job) → In k m.jobs → is_running past k ≡ true → has_open_instance past k ≡ false → is_busy k ≡ true
    running-goes k i r h = on_test (is_out past k.name) (λ o. or_right (is_offered m past k || can_open m past k) (is_out past k.name) o) (λ o. busy-of k (idle-goes k i r h o))

    module _ (J : JobName) (open_now : is_open past J ≡ true) (deeper : (k : Job) → In k m.jobs → k.instance ≡ J → has_open_instance past k ≡ true → Going J) where
      running-job : (k : Job) → In k m.jobs → k.instance ≡ J → is_running past k ≡ true → Going J
      running-job k i e r = on_test (has_open_instance past k) (λ h. deeper k i e h) (λ h. (k, i, ((w.jobs k i).key, [], (w.jobs k i).named ∙ ap (λ n. n ++ (w.jobs k i).key ∷ []) e), running-goes k i r h))

      unsettled-job : (j : Job) → In j m.jobs → j.instance ≡ J → is_settled past j ≡ false → all_known m past j.waits ≡ true → Going J
      unsettled-job j i e s k = on_test (is_running past j) (λ r. running-job j i e r) (λ r. bounce (ready_it r) (is_bounced j.ending) refl)
        where
          ready_it : is_running past j ≡ false → is_ready m past j ≡ true
          ready_it r = both_true (is_open past j.instance && not (is_running past j) && not (is_settled past j)) (all_known m past j.waits) (both_true (is_open past j.instance && not (is_running past j)) (not (is_settled past j)) (both_true (is_open past j.instance) (not (is_running past j)) (subst (λ n. is_open past n ≡ true) (sym e) open_now) (ap not r)) (ap not s)) k

          place : is_ready m past j ≡ true → is_bounced j.ending ≡ false → (b : Bool) → has_place m past j ≡ b → Going J
          place r c true h =
              go j i J e s c (or_right (is_idle past j) (is_ready m past j && not (is_bounced j.ending) && has_place m past j) (both_true (is_ready m past j && not (is_bounced j.ending)) (has_place m past j) (both_true (is_ready m past j) (not (is_bounced j.ending)) r (ap not c)) h))
          place r c false h =
              let f = full (λ k. same_job k.instance j.instance && same_name k.step j.step && is_running past k) m.jobs j.limit (w.jobs j i).limit h in
              running-job f.0 f.1 ((same_job_decides f.0.instance j.instance).0 (first_so (same_job f.0.instance j.instance) (same_name f.0.step j.step) (first_so (same_job f.0.instance j.instance && same_name f.0.step j.step) (is_running past f.0) f.2)) ∙ e) (second_so (same_job f.0.instance j.instance && same_name f.0.step j.step) (is_running past f.0) f.2)

          bounce : is_ready m past j ≡ true → (c : Bool) → is_bounced j.ending ≡ c → Going J
          bounce r true c = absurd (true≠false (sym (both_true (is_ready m past j) (is_bounced j.ending) r c) ∙ no-bounce gives AtLeastOne m [] w past quiet j i))
          bounce r false c = place r c (has_place m past j) refl

      unknown-by : (R : Origin → Type 0) → ((o : Origin) → R o → is_known m past o.known ≡ false → Going J) → (o : Origin) (q : Known) → GroundedBy (λ l. In l (levels m.steps)) (λ j. In j m.jobs) J R o q → is_known m past q ≡ false → Going J
      unknown-by R rec o at_start h k = absurd (true≠false k)
      unknown-by R rec o (by_job n) h k = let j = h.1 in by j.0 j.1 j.2 j.3 j.4 (all_known m past j.0.waits) refl
        where
          not_settled : (j : Job) → In j m.jobs → j.name ≡ n → (b : Bool) → is_settled past j ≡ b → is_settled past j ≡ false
          not_settled j i e false s = s
          not_settled j i e true s = absurd (true≠false (sym (subst (λ x. is_settled_name m past x ≡ true) e (settled-name gives AtLeastOne m w past j i s)) ∙ k))

          by : (j : Job) → In j m.jobs → j.name ≡ n → j.instance ≡ J → Each R j.waits → (b : Bool) → all_known m past j.waits ≡ b → Going J
          by j i e f g true a = unsettled-job j i f (not_settled j i e (is_settled past j) refl) a
          by j i e f g false a = let r = fails_in (λ o. is_known m past o.known) j.waits a in rec r.0 (each_in R j.waits g r.0 r.1) r.2
      unknown-by R rec o (by_level n) h k = on_test (all_known m past h.0.sources) (λ a. absurd (true≠false (sym (subst (λ x. has_entry past x ≡ true) h.2 (closed-if_known gives AtLeastOne m [] w past quiet h.0 h.1 (subst (λ x. is_open past x ≡ true) (sym h.3) open_now) a)) ∙ k))) (λ a. let r = fails_in (λ o. is_known m past o.known) h.0.sources a in rec r.0 (each_in R h.0.sources h.5 r.0 r.1) r.2)

      -- where a node isn't known, something is offered
      unknown-node : (k : ℕ) (o : Origin) → GroundedIn gives AtLeastOne m J k o → is_known m past o.known ≡ false → Going J
      unknown-node zero o h u = unknown-by (λ s. ⊥) (λ s a. absurd a) o o.known h u
      unknown-node (suc k) o h u = unknown-by (λ s. GroundedIn gives AtLeastOne m J k s) (λ s a b. unknown-node k s a b) o o.known h u

      -- an open instance has a step that hasn't ended
      open-instance : can_end m past J ≡ false → Going J
      open-instance h =
          let f = fails_in (λ s. if same_job J s.instance then all_known m past s.ending else true) m.steps (after (is_open past J) open_now (list_all (λ s. if same_job J s.instance then all_known m past s.ending else true) m.steps) h) in
          let g = if-fails (same_job J f.0.instance) (all_known m past f.0.ending) f.2 in
          let o = fails_in (λ o. is_known m past o.known) f.0.ending g.1 in
          let k = (w.steps f.0 f.1).1 in
          unknown-node k.0 o.0 (subst (λ n. GroundedIn gives AtLeastOne m n k.0 o.0) (sym ((same_job_decides J f.0.instance).0 g.0)) (each_in (GroundedIn gives AtLeastOne m f.0.instance k.0) f.0.ending k.1 o.0 o.1)) o.2
        where
          after : (a : Bool) → a ≡ true → (b : Bool) → (a && b) ≡ false → b ≡ false
          after true e b x = x
          after false e b x = absurd (true≠false (sym e))

    name_length : (k : Job) → In k m.jobs → (n : JobName) → k.instance ≡ n → length k.name ≡ length n + 1
    name_length k h n e = ap length ((w.jobs k h).named ∙ ap (λ x. x ++ (w.jobs k h).key ∷ []) e) ∙ length-append n ((w.jobs k h).key ∷ [])

    opener : (k : Job) → In k m.jobs → is_some k.opens ≡ true → In k.name (instances m)
    opener k h e = inr (in-options (λ j. if is_some j.opens then Some j.name else None) k k.name m.jobs h (ap (λ b. if b then Some k.name else None) e))

    -- so many levels of instances may follow
    in-instance : (f : ℕ) (J : JobName) → is_open past J ≡ true → In J (instances m) → longest m.jobs < length J + f → Going J
    in-instance zero J o i b = open-instance J o (λ k h e g. absurd (too_long k h e)) (no-ending gives AtLeastOne m [] w past quiet J i)
      where
        too_long : (k : Job) → In k m.jobs → k.instance ≡ J → ⊥
        too_long k h e = omega (arith, name_length k h J e, not-longer_than k m.jobs h, b)
    in-instance (suc f) J o i b = open-instance J o (λ k h e g. outer k h J e (in-instance f k.name (second_so (is_some k.opens) (is_open past k.name) g) (opener k h (first_so (is_some k.opens) (is_open past k.name) g)) (omega (arith, name_length k h J e, b)))) (no-ending gives AtLeastOne m [] w past quiet J i)

    less_than : (c l : ℕ) → l < c + suc l
    less_than c l = omega arith

    -- in an open instance some job goes on, or has a try out
    pub open-busy : (J : JobName) → is_open past J ≡ true → In J (instances m) → Going J
    open-busy J o i = in-instance (suc (longest m.jobs)) J o i (less_than (length J) (longest m.jobs))

  -- where no try is out
  module _ (past : History) (legal : is_legal gives m past ≡ true) (none_out : (j : Job) → In j m.jobs → is_out past j.name ≡ false) (quiet : can_settle_more m past ≡ false) where
    -- a job in an instance, or inside its jobs, is offered or can open its flow
    abbrev pub GoesOn : JobName → Type 0
    GoesOn J = (k : Job) × In k m.jobs × ((r : JobName) × (k.name ≡ J ++ r)) × ((is_offered m past k || can_open m past k) ≡ true)

    -- in an open instance some job goes on
    pub open-goes : (J : JobName) → is_open past J ≡ true → In J (instances m) → GoesOn J
    open-goes J o i =
        let g = open-busy past legal quiet J o i in
        (g.0, g.1, (g.2.0 ∷ g.2.1, g.2.2), on_or (is_offered m past g.0 || can_open m past g.0) (is_out past g.0.name) g.3 (λ p. p) (λ q. absurd (true≠false (sym q ∙ none_out g.0 g.1))))

    -- a running job goes on, or one inside it does
    pub running-within : (k : Job) → In k m.jobs → is_running past k ≡ true → GoesOn k.name
    running-within k i r = on_test (has_open_instance past k) (λ h. open-goes k.name (second_so (is_some k.opens) (is_open past k.name) h) (opener past legal quiet k i (first_so (is_some k.opens) (is_open past k.name) h))) (λ h. (k, i, ([], sym (append-nil k.name)), idle-goes past legal quiet k i r h (none_out k i)))

    -- ---- NEVER STUCK
    pub some-offered : list_any (can_open m past) m.jobs ≡ false → is_done past ≡ false → list_any (is_offered m past) m.jobs ≡ true
    some-offered shut h =
        let g = open-goes [] (ap not h) (inl refl) in
        any-in (is_offered m past) g.0 m.jobs g.1 (first_of_two (is_offered m past g.0) (can_open m past g.0) (each_in (λ k. can_open m past k ≡ false) m.jobs (none_pass (can_open m past) m.jobs shut) g.0 g.1) g.3)
      where
        first_of_two : (a b : Bool) → b ≡ false → (a || b) ≡ true → a ≡ true
        first_of_two true b e x = refl
        first_of_two false b e x = absurd (true≠false (sym x ∙ e))

-- NEVER STUCK: where the main instance hasn't ended, no try is out, nothing can be settled and no flow opened, some job is offered
pub never-stuck : (gives : Giving) (d : Document) → IsWellFormed d → (past : History) → is_legal gives (meaning gives d) past ≡ true → is_done past ≡ false → ((j : Job) → In j (meaning gives d).jobs → is_out past j.name ≡ false) → can_settle_more (meaning gives d) past ≡ false → list_any (can_open (meaning gives d) past) (meaning gives d).jobs ≡ false → list_any (is_offered (meaning gives d) past) (meaning gives d).jobs ≡ true
never-stuck gives d f past legal h none_out quiet shut =
    some-offered gives (meaning gives d) (meaning-whole gives AtLeastOne d f.places) past legal none_out quiet shut h
