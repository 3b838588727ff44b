-- A legal history without recalls has at most so many entries.
use Rattle.std.specs.Prelude.{◌≡◌, refl, ℕ, zero, suc, ◌+◌, ◌*◌, ◌≤◌, ◌⊎◌, List, [], ◌∷◌, map, length, Bool, true, false, not, ◌&&◌, ◌||◌, if◌then◌else◌, Option, Some, None, is_some, is_none, count_by}
use Rattle.std.specs.List.{list_any}
use Rattle.std.proofs.Common.{arith, sym, ap, subst, ◌∙◌, inl, inr, length-append}
use Rattle.std.proofs.lemmas.List.{length-map}
use Rattle.std.proofs.lemmas.Bool.{not-true}
use Rattle.std.specs.Cmp.{first_so, second_so}
use Rattle.tv_lemmas.specs.Members.{In}
use Rattle.tv_lemmas.proofs.Members.{some_in}
use Rattle.tv_history.proofs.Legal.{last-legal, legal-of, Legal, hands, accepts, bounces, closes, passes, opens, ends}
use Rattle.tv_lemmas.proofs.Cases.{on_either, on_or}
use Rattle.tv_value.specs.Values.{Name, JobName}
use Rattle.tv_value.specs.Orders.{same_job}
use Rattle.tv_value.proofs.JobNameLemmas.{same_job_decides}
use Rattle.tv_flow.specs.Flows.{Document}
use Rattle.tv_gate.specs.Outcomes.{Giving}
use Rattle.tv_model.specs.Jobs.{Job}
use Rattle.tv_model.specs.Made.{Meaning}
use Rattle.tv_model.specs.Turns.{is_bounced}
use Rattle.tv_model.specs.Meanings.{meaning}
use Rattle.tv_history.specs.Entries.{Entry, handed_out, accepted, closed, fault_passed, opened, ended, recalled, History, is_accepted, is_bounced_entry, is_level_entry, is_opened_entry, is_ended_entry, is_begun_entry, is_out}
use Rattle.tv_model.specs.Levels.{Level, levels}
use Rattle.tv_history.specs.Histories.{asks_left, next_ask, is_settled, is_open, has_open_instance, is_running, is_idle, is_ready, has_place, may_go_on, can_open, all_known, has_entry, can_settle, is_legal, is_legal_after}
use Rattle.tv_model.proofs.Tests.{true≠false}
use Rattle.tv_history.proofs.Running.{opened_begins, out-begun, begins, idle_begun}
use Rattle.tv_model.proofs.Whole.{IsWhole}
use Rattle.tv_history.proofs.Ready.{all-sound, are-jobs, AnyNumber, document-whole}
use Rattle.tv_history.proofs.Stuck.{begun-tried}
use Rattle.tv_history.proofs.Counts.{bit, count-tally, sum-total, tally, total, total-at_most, total-of_sums, total-in, length-as_ones}
use Rattle.tv_history.proofs.Done.{key_of, tries_of, accepted-asks, opens-it}
use Rattle.tv_history.proofs.Sums.{legal-each, accepted_name, bounced_name, tries-tally, bounced-tally}
use Rattle.tv_history.proofs.Tests.{any_weaken, same-itself}
pub use Rattle.tv_history.specs.Going.{is_progress, is_recall, most_entries}

-- ---- kinds of entries

abbrev pub is_handed : JobName → Entry → Bool
is_handed n (handed_out m a t) = same_job n m
is_handed n _ = false

abbrev handed_name : Entry → Option JobName
handed_name (handed_out n a t) = Some n
handed_name _ = None

abbrev level_name : Entry → Option JobName
level_name (closed n k) = Some n
level_name (fault_passed n) = Some n
level_name _ = None

abbrev opened_name : Entry → Option JobName
opened_name (opened n) = Some n
opened_name _ = None

-- of an instance that a job opened
abbrev ended_name : Entry → Option JobName
ended_name (ended []) = None
ended_name (ended (k ∷ n)) = Some (k ∷ n)
ended_name _ = None

-- at least one of these has it
owner : {A : Type 0} (name : A → JobName) (xs : List A) (p : JobName → Entry → Bool) (e : Entry) → (b : Bool) → (b ≡ true → (x : A) × In x xs × (p (name x) e ≡ true)) → bit b ≤ total (λ x. bit (p (name x) e)) xs
owner name xs p e false f = omega arith
owner name xs p e true f = let r = f refl in subst (λ b. bit b ≤ total (λ x. bit (p (name x) e)) xs) r.2 (total-in (λ x. bit (p (name x) e)) r.0 xs r.1)

all-owned : {A : Type 0} (name : A → JobName) (xs : List A) (p : JobName → Entry → Bool) (q : Entry → Bool) (past : History) → ((e : Entry) → In e past → q e ≡ true → (x : A) × In x xs × (p (name x) e ≡ true)) → tally q past ≤ total (λ x. tally (p (name x)) past) xs
all-owned name xs p q [] f = omega arith
all-owned name xs p q (e ∷ past) f =
    omega (arith, owner name xs p e (q e) (f e (inl refl)), all-owned name xs p q past (λ g i. f g (inr i)), total-of_sums (λ x. bit (p (name x) e)) (λ x. tally (p (name x)) past) xs)

-- what is never undone is of one of six kinds
abbrev kinds : History → ℕ
kinds past =
    tally (λ e. is_some (accepted_name e)) past
    + tally (λ e. is_some (bounced_name e)) past
    + tally (λ e. is_some (level_name e)) past
    + tally (λ e. is_some (opened_name e)) past
    + tally (λ e. is_some (ended_name e)) past
    + tally (is_ended_entry []) past

by-kinds : (past : History) → tally is_progress past ≡ kinds past
by-kinds [] = omega arith
by-kinds (e ∷ past) = by e (by-kinds past)
  where
    by : (e : Entry) → tally is_progress past ≡ kinds past → tally is_progress (e ∷ past) ≡ kinds (e ∷ past)
    by (ended []) h = omega (arith, h)
    by (ended (k ∷ x)) h = omega (arith, h)
    by (accepted x y z r) h = omega (arith, h)
    by e h = omega (arith, h)

-- what else there is was handed out or recalled
by-progress : (past : History) → length past ≡ tally (λ e. is_some (handed_name e)) past + tally is_progress past + tally is_recall past
by-progress [] = omega arith
by-progress (e ∷ past) = by e (by-progress past)
  where
    by : (e : Entry) → length past ≡ tally (λ e. is_some (handed_name e)) past + tally is_progress past + tally is_recall past → length (e ∷ past) ≡ tally (λ e. is_some (handed_name e)) (e ∷ past) + tally is_progress (e ∷ past) + tally is_recall (e ∷ past)
    by (accepted x y z r) h = omega (arith, h)
    by e h = omega (arith, h)

at_most_one : (b : Bool) → bit b ≤ 1
at_most_one true = omega arith
at_most_one false = omega arith

module _ (gives : Giving) (D : ℕ → Type 0) (m : Meaning) (w : IsWhole gives D m []) where
  -- what comes only where it hasn't come comes at most once
  once-tally : (p : Entry → Bool) → ((older : History) (e : Entry) → is_legal gives m older ≡ true → Legal gives m older e → p e ≡ true → list_any p older ≡ false) → (past : History) → is_legal gives m past ≡ true → tally p past ≡ bit (list_any p past)
  once-tally p f [] l = refl
  once-tally p f (e ∷ past) l =
      let legal = first_so (is_legal gives m past) (is_legal_after gives m past e) l in
      by (p e) (list_any p past) (f past e legal (last-legal gives m past e l)) (once-tally p f past legal)
    where
      by : (b c : Bool) → (b ≡ true → c ≡ false) → tally p past ≡ bit c → bit b + tally p past ≡ bit (b || c)
      by false c g h = omega (arith, h)
      by true false g h = omega (arith, h)
      by true true g h = absurd (true≠false (g refl))

  -- ---- lists and faults

  level-fresh : (n : JobName) (older : History) {e : Entry} → is_legal gives m older ≡ true → Legal gives m older e → is_level_entry n e ≡ true → list_any (is_level_entry n) older ≡ false
  level-fresh n older l a h = by a h
    where
      fresh : (x : Level) → can_settle m older x ≡ true → same_job n x.name ≡ true → list_any (is_level_entry n) older ≡ false
      fresh x c t = subst (λ y. list_any (is_level_entry y) older ≡ false) (sym ((same_job_decides n x.name).0 t)) (not-true (has_entry older x.name) (second_so (is_open older x.instance) (not (has_entry older x.name)) (first_so (is_open older x.instance && not (has_entry older x.name)) (all_known m older x.sources) c)))

      by : {e : Entry} → Legal gives m older e → is_level_entry n e ≡ true → list_any (is_level_entry n) older ≡ false
      by (closes x k i c q) h = fresh x c h
      by (passes x i c q) h = fresh x c h
      by a h = absurd (true≠false (sym h))

  -- ---- ends

  end-fresh : (n : JobName) (older : History) {e : Entry} → is_legal gives m older ≡ true → Legal gives m older e → is_ended_entry n e ≡ true → list_any (is_ended_entry n) older ≡ false
  end-fresh [] older l (ends k c) h = not-true (list_any (is_ended_entry []) older) (subst (λ x. is_open older x ≡ true) (sym ((same_job_decides [] k).0 h)) (first_so (is_open older k) _ c))
  end-fresh (x ∷ n) older l (ends k c) h =
      not-true (list_any (is_ended_entry (x ∷ n)) older) (second_so (list_any (is_opened_entry (x ∷ n)) older) (not (list_any (is_ended_entry (x ∷ n)) older)) (subst (λ x. is_open older x ≡ true) (sym ((same_job_decides (x ∷ n) k).0 h)) (first_so (is_open older k) _ c)))
  end-fresh n older l a h = absurd (true≠false (sym h))

  -- ---- openings

  pub ready-parts : (past : History) (j : Job) → is_ready m past j ≡ true → list_any (is_begun_entry j.name) past ≡ false
  ready-parts past j h =
      let three = first_so (is_open past j.instance && not (is_running past j) && not (is_settled past j)) (all_known m past j.waits) h in
      by (list_any (is_begun_entry j.name) past) (is_settled past j)
      (not-true (is_settled past j) (second_so (is_open past j.instance && not (is_running past j)) (not (is_settled past j)) three))
      (not-true (is_running past j) (second_so (is_open past j.instance) (not (is_running past j)) (first_so (is_open past j.instance && not (is_running past j)) (not (is_settled past j)) three)))
    where
      by : (b s : Bool) → s ≡ false → (b && not s) ≡ false → b ≡ false
      by b true e x = absurd (true≠false e)
      by false false e x = refl
      by true false e x = x

  pub going-cases : (past : History) (j : Job) → may_go_on m past j ≡ true → (is_idle past j ≡ true) ⊎ (list_any (is_begun_entry j.name) past ≡ false)
  going-cases past j h = on_or (is_idle past j) (is_ready m past j && not (is_bounced j.ending) && has_place m past j) h (λ x. inl x) (λ x. inr (ready-parts past j (first_so (is_ready m past j) (not (is_bounced j.ending)) (first_so (is_ready m past j && not (is_bounced j.ending)) (has_place m past j) x))))

  -- a job whose flow was opened can't open it again
  opening-fresh : (past : History) → is_legal gives m past ≡ true → (j : Job) → In j m.jobs → can_open m past j ≡ true → (b : Bool) → list_any (is_opened_entry j.name) past ≡ b → b ≡ false
  opening-fresh past l j i h false e = refl
  opening-fresh past l j i h true e = on_either (going-cases past j (second_so (is_none (next_ask past j) && is_some j.opens) (may_go_on m past j) h)) (λ x. let parts = idle_begun gives m (all-sound gives D m [] w) (are-jobs gives D m [] w) past j x in let shut = not-true (has_open_instance past j) (second_so (is_running past j && not (is_out past j.name)) (not (has_open_instance past j)) x) in let over = still j.name ((are-jobs gives D m [] w).has_name j i) e (subst (λ b. (b && is_open past j.name) ≡ false) opens_it shut) in let tried = begun-tried gives D m w past j i l begun_it in sym (subst (λ b. (if b then list_any (is_bounced_entry j.name) past else list_any (is_ended_entry j.name) past) ≡ true) (sym tried) over) ∙ subst (λ b. (if is_bounced j.ending then list_any (is_bounced_entry j.name) past else (if b then list_any (is_ended_entry j.name) past else is_none (next_ask past j))) ≡ false) opens_it parts.1) (λ x. absurd (true≠false (sym begun_it ∙ x)))
    where
      opens_it : is_some j.opens ≡ true
      opens_it = second_so (is_none (next_ask past j)) (is_some j.opens) (first_so (is_none (next_ask past j) && is_some j.opens) (may_go_on m past j) h)

      begun_it : list_any (is_begun_entry j.name) past ≡ true
      begun_it = any_weaken (is_opened_entry j.name) (is_begun_entry j.name) (opened_begins j.name) past e

      still : (n : JobName) (c : (k : Name × List ℕ) × (r : JobName) × (n ≡ k ∷ r)) → list_any (is_opened_entry n) past ≡ true → is_open past n ≡ false → list_any (is_ended_entry n) past ≡ true
      still n c o f = subst (λ x. list_any (is_ended_entry x) past ≡ true) (sym c.2) (closes (list_any (is_opened_entry (c.0 ∷ c.1)) past) (list_any (is_ended_entry (c.0 ∷ c.1)) past) (subst (λ x. list_any (is_opened_entry x) past ≡ true) c.2 o) (subst (λ x. is_open past x ≡ false) c.2 f))
        where
          closes : (a b : Bool) → a ≡ true → (a && not b) ≡ false → b ≡ true
          closes a true x y = refl
          closes true false x y = sym y
          closes false false x y = x

  -- ---- tries

  pub going-not_out : (past : History) (j : Job) → may_go_on m past j ≡ true → is_out past j.name ≡ false
  going-not_out past j h = by (going-cases past j h) (is_out past j.name) refl
    where
      by : (is_idle past j ≡ true) ⊎ (list_any (is_begun_entry j.name) past ≡ false) → (b : Bool) → is_out past j.name ≡ b → is_out past j.name ≡ false
      by (inl x) b e = not-true (is_out past j.name) (second_so (is_running past j) (not (is_out past j.name)) (first_so (is_running past j && not (is_out past j.name)) (not (has_open_instance past j)) x))
      by (inr x) false e = e
      by (inr x) true e = absurd (true≠false (sym (out-begun past j.name e) ∙ x))

  -- what was handed out was accepted, or is out
  pub handed-tally : (past : History) → is_legal gives m past ≡ true → tally is_recall past ≡ 0 → (j : Job) → In j m.jobs → tally (is_handed j.name) past ≡ tally (is_accepted j.name) past + bit (is_out past j.name)
  handed-tally [] l z j i = omega arith
  handed-tally (e ∷ past) l z j i =
      by e (second_so (is_legal gives m past) (is_legal_after gives m past e) l) (no_recall (bit (is_recall e)) (tally is_recall past) z).0 (handed-tally past (first_so (is_legal gives m past) (is_legal_after gives m past e) l) (no_recall (bit (is_recall e)) (tally is_recall past) z).1 j i)
    where
      no_recall : (a b : ℕ) → a + b ≡ 0 → (a ≡ 0) × (b ≡ 0)
      no_recall a b p = (omega arith, omega arith)

      skip : (h a o : ℕ) → h ≡ a + o → 0 + h ≡ (0 + a) + o
      skip h a o p = omega arith

      hand : (b c : Bool) (h a : ℕ) → (b ≡ true → c ≡ false) → h ≡ a + bit c → bit b + h ≡ (0 + a) + bit (if b then true else c)
      hand true false h a f p = omega arith
      hand true true h a f p = absurd (true≠false (f refl))
      hand false c h a f p = skip h a (bit c) p

      take : (b c : Bool) (h a : ℕ) → (b ≡ true → c ≡ true) → h ≡ a + bit c → 0 + h ≡ (bit b + a) + bit (if b then false else c)
      take true true h a f p = omega arith
      take true false h a f p = absurd (true≠false (sym (f refl)))
      take false c h a f p = skip h a (bit c) p

      by : (e : Entry) → is_legal_after gives m past e ≡ true → bit (is_recall e) ≡ 0 → tally (is_handed j.name) past ≡ tally (is_accepted j.name) past + bit (is_out past j.name) → tally (is_handed j.name) (e ∷ past) ≡ tally (is_accepted j.name) (e ∷ past) + bit (is_out (e ∷ past) j.name)
      by (handed_out n c t) a r p =
          hand (same_job j.name n) (is_out past j.name) (tally (is_handed j.name) past) (tally (is_accepted j.name) past) (λ h. going-not_out past j (begins gives m (all-sound gives D m [] w) (are-jobs gives D m [] w) past j i (legal-of gives m past (handed_out n c t) a) h)) p
      by (accepted n c t s) a r p =
          take (same_job j.name n) (is_out past j.name) (tally (is_handed j.name) past) (tally (is_accepted j.name) past) (λ h. subst (λ x. is_out past x ≡ true) (sym ((same_job_decides j.name n).0 h)) (first_so (is_out past n) _ a)) p
      by (recalled k) a r p = absurd (true≠false (ap is_one r))
        where
          is_one : ℕ → Bool
          is_one zero = false
          is_one (suc n) = true
      by e a r p = skip (tally (is_handed j.name) past) (tally (is_accepted j.name) past) (bit (is_out past j.name)) p

  -- no more tries are accepted than there are asks
  pub accepted-at_most : (past : History) → is_legal gives m past ≡ true → (j : Job) → In j m.jobs → tally (is_accepted j.name) past ≤ length j.asks
  accepted-at_most past l j i =
      omega (arith, tries-tally j.name past, sym (length-append (tries_of j.name past) (map (key_of gives) (asks_left past j.name j.asks))) ∙ ap length (accepted-asks gives D m w past l j i) ∙ length-map j.asks (key_of gives))

  -- ---- whose an entry is

  abbrev Owner : (JobName → Entry → Bool) → Entry → Type 0
  Owner p e = (j : Job) × In j m.jobs × (p j.name e ≡ true)

  handed-owner : (older : History) {e : Entry} → Legal gives m older e → is_some (handed_name e) ≡ true → Owner is_handed e
  handed-owner older (hands j a i o q) h = (j, i, same-itself j.name)
  handed-owner older a h = absurd (true≠false (sym h))

  accepted-owner : (older : History) {e : Entry} → Legal gives m older e → is_some (accepted_name e) ≡ true → Owner is_accepted e
  accepted-owner older (accepts j a i o q) h = (j, i, same-itself j.name)
  accepted-owner older a h = absurd (true≠false (sym h))

  bounced-owner : (older : History) {e : Entry} → Legal gives m older e → is_some (bounced_name e) ≡ true → Owner is_bounced_entry e
  bounced-owner older (bounces j i c) h = (j, i, same-itself j.name)
  bounced-owner older a h = absurd (true≠false (sym h))

  level-owner : (older : History) {e : Entry} → Legal gives m older e → is_some (level_name e) ≡ true → (x : Level) × In x (levels m.steps) × (is_level_entry x.name e ≡ true)
  level-owner older (closes x k i c q) h = (x, i, same-itself x.name)
  level-owner older (passes x i c q) h = (x, i, same-itself x.name)
  level-owner older a h = absurd (true≠false (sym h))

  opened-owner : (older : History) {e : Entry} → Legal gives m older e → is_some (opened_name e) ≡ true → Owner is_opened_entry e
  opened-owner older (opens j i q c) h = (j, i, same-itself j.name)
  opened-owner older a h = absurd (true≠false (sym h))

  -- what was opened has a job's name
  opened-job : (past : History) → is_legal gives m past ≡ true → (n : JobName) → list_any (is_opened_entry n) past ≡ true → (j : Job) × In j m.jobs × (j.name ≡ n)
  opened-job past l n h =
      let e = some_in (is_opened_entry n) past h in
      let a = legal-each gives m past l e.0 e.1 in
      by a.2 e.2
    where
      by : {older : History} {e : Entry} → Legal gives m older e → is_opened_entry n e ≡ true → (j : Job) × In j m.jobs × (j.name ≡ n)
      by (opens j i q c) x = (j, i, sym ((same_job_decides n j.name).0 x))
      by a x = absurd (true≠false (sym x))

  ended-owner : (older : History) {e : Entry} → is_legal gives m older ≡ true → Legal gives m older e → is_some (ended_name e) ≡ true → Owner is_ended_entry e
  ended-owner older l (ends [] c) h = absurd (true≠false (sym h))
  ended-owner older l (ends (k ∷ n) c) h =
      let r = opened-job older l (k ∷ n) (first_so (list_any (is_opened_entry (k ∷ n)) older) (not (list_any (is_ended_entry (k ∷ n)) older)) (first_so (is_open older (k ∷ n)) _ c)) in
      (r.0, r.1, (same_job_decides r.0.name (k ∷ n)).1 r.2)
  ended-owner older l a h = absurd (true≠false (sym h))

  -- ---- the bound

  opened-fresh : (j : Job) → In j m.jobs → (older : History) {e : Entry} → is_legal gives m older ≡ true → Legal gives m older e → is_opened_entry j.name e ≡ true → list_any (is_opened_entry j.name) older ≡ false
  opened-fresh j i older l a h = opening-fresh older l j i (opens-it gives D m w older j i a h) (list_any (is_opened_entry j.name) older) refl

  module _ (past : History) (l : is_legal gives m past ≡ true) where
    once-most : (p : Entry → Bool) → ((older : History) (e : Entry) → is_legal gives m older ≡ true → Legal gives m older e → p e ≡ true → list_any p older ≡ false) → tally p past ≤ 1
    once-most p f = subst (λ n. n ≤ 1) (sym (once-tally p f past l)) (at_most_one (list_any p past))

    -- entries of a kind, each of which is one of these, and so many are of each
    most : {A : Type 0} (name : A → JobName) (xs : List A) (p : JobName → Entry → Bool) (q : Entry → Bool) (bound : A → ℕ) → ((older : History) (e : Entry) → is_legal gives m older ≡ true → Legal gives m older e → q e ≡ true → (x : A) × In x xs × (p (name x) e ≡ true)) → ((x : A) → In x xs → tally (p (name x)) past ≤ bound x) → tally q past ≤ total bound xs
    most name xs p q bound f g =
        omega (arith, all-owned name xs p q past (λ e i h. let a = legal-each gives m past l e i in f a.0 e a.1 a.2 h), total-at_most (λ x. tally (p (name x)) past) bound xs g)

    -- however often tries were recalled and handed out again
    pub progress-most : tally is_progress past ≤ total (λ j. length j.asks) m.jobs + 3 * length m.jobs + length (levels m.steps) + 1
    progress-most =
        omega (
          arith,
          by-kinds past,
          length-as_ones m.jobs,
          length-as_ones (levels m.steps),
          most (λ (j : Job). j.name) m.jobs is_accepted (λ e. is_some (accepted_name e)) (λ j. length j.asks) (λ o e k a h. accepted-owner o a h) (accepted-at_most past l),
          most (λ (j : Job). j.name) m.jobs is_bounced_entry (λ e. is_some (bounced_name e)) (λ j. 1) (λ o e k a h. bounced-owner o a h) (λ j i. subst (λ n. n ≤ 1) (sym (bounced-tally gives D m w past l j i)) (at_most_one (is_bounced j.ending && list_any (is_bounced_entry j.name) past))),
          most (λ (x : Level). x.name) (levels m.steps) is_level_entry (λ e. is_some (level_name e)) (λ x. 1) (λ o e k a h. level-owner o a h) (λ x i. once-most (is_level_entry x.name) (λ o e k a h. level-fresh x.name o k a h)),
          most (λ (j : Job). j.name) m.jobs is_opened_entry (λ e. is_some (opened_name e)) (λ j. 1) (λ o e k a h. opened-owner o a h) (λ j i. once-most (is_opened_entry j.name) (λ o e k a h. opened-fresh j i o k a h)),
          most (λ (j : Job). j.name) m.jobs is_ended_entry (λ e. is_some (ended_name e)) (λ j. 1) (λ o e k a h. ended-owner o k a h) (λ j i. once-most (is_ended_entry j.name) (λ o e k a h. end-fresh j.name o k a h)),
          once-most (is_ended_entry []) (λ o e k a h. end-fresh [] o k a h),
        )

    pub at-most : tally is_recall past ≡ 0 → length past ≤ most_entries m
    at-most z =
        omega (
          arith,
          z,
          by-progress past,
          progress-most,
          sum-total (λ (j : Job). length j.asks) m.jobs,
          length-as_ones m.jobs,
          total-of_sums (λ (j : Job). length j.asks) (λ j. 1) m.jobs,
          most (λ (j : Job). j.name) m.jobs is_handed (λ e. is_some (handed_name e)) (λ j. length j.asks + 1) (λ o e k a h. handed-owner o a h) (λ j i. handed-most j i z),
        )
      where
        handed-most : (j : Job) → In j m.jobs → tally is_recall past ≡ 0 → tally (is_handed j.name) past ≤ length j.asks + 1
        handed-most j i z = omega (arith, handed-tally past l z j i, accepted-at_most past l j i, at_most_one (is_out past j.name))

-- BOUNDED: so a loop that appends legal entries ends
pub bounded : (gives : Giving) (d : Document) (past : History) → is_legal gives (meaning gives d) past ≡ true → count_by is_recall past ≡ 0 → length past ≤ most_entries (meaning gives d)
bounded gives d past l z =
    at-most gives AnyNumber (meaning gives d) (document-whole gives d) past l (sym (count-tally is_recall past) ∙ z)
