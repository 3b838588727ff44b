-- A legal history in which the main instance hasn't ended can go on by an entry that is no recall.
use Rattle.std.specs.Prelude.{◌≡◌, refl, ℕ, List, [], ◌∷◌, Bool, true, false, not, ◌&&◌, ◌||◌, ◌==◌, if◌then◌else◌, cond, Option, Some, None, is_some, is_none, find}
use Rattle.std.specs.List.{list_any}
use Rattle.std.specs.Option.{option_map_or}
use Rattle.std.proofs.Common.{sym, ap, subst, ◌∙◌, inl, inr}
use Rattle.std.proofs.lemmas.Bool.{eq-eqb}
use Rattle.std.specs.Cmp.{first_so, second_so}
use Rattle.tv_lemmas.specs.Members.{In}
use Rattle.tv_lemmas.proofs.Members.{any-in, each_in, some_in}
use Rattle.tv_lemmas.proofs.Cases.{on_or}
use Rattle.tv_value.specs.Orders.{same_job}
use Rattle.tv_value.proofs.JobNameLemmas.{same_job_decides}
use Rattle.tv_flow.specs.Flows.{Document}
use Rattle.tv_gate.specs.Outcomes.{Giving}
use Rattle.tv_dispatch.specs.Jobs.{Ask}
use Rattle.tv_model.specs.Jobs.{Job}
use Rattle.tv_model.specs.Made.{Meaning}
use Rattle.tv_model.specs.Meanings.{meaning}
use Rattle.tv_history.specs.Entries.{Entry, handed_out, accepted, bounced, closed, fault_passed, opened, ended, recalled, History, is_out}
use Rattle.tv_model.specs.Levels.{Level, levels}
use Rattle.tv_history.specs.Histories.{asks_left, next_ask, may_go_on, is_offered, can_open, can_bounce, can_settle, can_end, instances, can_settle_more, is_at, is_ask, same_bool, is_legal, is_legal_after, is_done}
use Rattle.tv_dispatch.specs.Plans.{came_right}
use Rattle.tv_model.specs.Lists.{first_of_list, rest_of}
use Rattle.tv_model.proofs.Tests.{true≠false, both_true}
use Rattle.tv_model.proofs.Whole.{IsWhole}
use Rattle.tv_history.proofs.Ready.{are-jobs, meaning-whole}
use Rattle.tv_history.proofs.Stuck.{AtLeastOne, IsWellFormed, open-goes}
use Rattle.tv_history.proofs.Tests.{found_in, none_pass, same-itself}
pub use Rattle.tv_history.specs.Going.{Next}

find-some : {A : Type 0} (p : A → Bool) (x : A) (xs : List A) → In x xs → p x ≡ true → (y : A) × (find p xs ≡ Some y) × (p y ≡ true)
find-some p x [] h e = absurd h
find-some {A = A} p x (y ∷ ys) h e = by (p y) refl h (λ i. find-some p x ys i e)
  where
    by : (b : Bool) → p y ≡ b → In x (y ∷ ys) → (In x ys → (z : A) × (find p ys ≡ Some z) × (p z ≡ true)) → (z : A) × (cond b (Some y) (find p ys) ≡ Some z) × (p z ≡ true)
    by true g i rec = (y, refl, g)
    by false g (inl q) rec = absurd (true≠false (sym e ∙ ap p q ∙ g))
    by false g (inr i) rec = rec i

found-member : {A : Type 0} (p : A → Bool) (k : A) (xs : List A) → find p xs ≡ Some k → In k xs
found-member {A = A} p k [] e = absurd (true≠false (sym (ap is_some e)))
found-member {A = A} p k (y ∷ ys) e = by (p y) e (λ f. found-member p k ys f)
  where
    or_k : Option A → A
    or_k None = k
    or_k (Some z) = z

    by : (b : Bool) → cond b (Some y) (find p ys) ≡ Some k → (find p ys ≡ Some k → In k ys) → In k (y ∷ ys)
    by true f rec = inl (sym (ap or_k f))
    by false f rec = inr (rec f)

module _ (gives : Giving) (m : Meaning) (w : IsWhole gives AtLeastOne m []) where
  -- a job with a try out has a next ask
  pub out-next : (past : History) → is_legal gives m past ≡ true → (j : Job) → In j m.jobs → is_out past j.name ≡ true → is_some (next_ask past j) ≡ true
  out-next [] l j i h = absurd (true≠false (sym h))
  out-next (e ∷ past) l j i h = by e (second_so (is_legal gives m past) (is_legal_after gives m past e) l) h (λ g. out-next past (first_so (is_legal gives m past) (is_legal_after gives m past e) l) j i g)
    where
      handed : (b o s : Bool) → (b ≡ true → s ≡ true) → (o ≡ true → s ≡ true) → (if b then true else o) ≡ true → s ≡ true
      handed true o s f g p = f refl
      handed false o s f g p = g p

      took : (b o : Bool) → (if b then false else o) ≡ true → (o ≡ true → is_some (next_ask past j) ≡ true) → is_some (first_of_list (if b then rest_of (asks_left past j.name j.asks) else asks_left past j.name j.asks)) ≡ true
      took true o p f = absurd (true≠false (sym p))
      took false o p f = f p

      by : (e : Entry) → is_legal_after gives m past e ≡ true → is_out (e ∷ past) j.name ≡ true → (is_out past j.name ≡ true → is_some (next_ask past j) ≡ true) → is_some (next_ask (e ∷ past) j) ≡ true
      by (handed_out n c t) a p rec =
          let r = found_in (λ k. is_at k n && option_map_or (is_ask c t) (next_ask past k) false) (is_offered m past) m.jobs a in
          handed (same_job j.name n) (is_out past j.name) (is_some (next_ask past j)) (λ q. subst (λ k. is_some (next_ask past k) ≡ true) ((are-jobs gives AtLeastOne m [] w).once r.0 j r.1 i (sym ((same_job_decides n r.0.name).0 (first_so (is_at r.0 n) _ r.3)) ∙ sym ((same_job_decides j.name n).0 q))) (first_so (is_some (next_ask past r.0)) (may_go_on m past r.0) r.2)) rec p
      by (accepted n c t s) a p rec = took (same_job j.name n) (is_out past j.name) p rec
      by (recalled c) a p rec = absurd (true≠false (sym p))
      by e a p rec = rec p

  -- what is out can be accepted, as it is judged
  accept-next : (past : History) (j : Job) → In j m.jobs → is_out past j.name ≡ true → is_some (next_ask past j) ≡ true → Next gives m past
  accept-next past j i h s = by (next_ask past j) refl s
    where
      by : (o : Option Ask) → next_ask past j ≡ o → is_some o ≡ true → Next gives m past
      by None e q = absurd (true≠false (sym q))
      by (Some k) e q = (
        accepted j.name k.activity k.attempt (came_right gives k),
        both_true (is_out past j.name) _ h
            (any-in (λ x. is_at x j.name && option_map_or (λ y. is_ask k.activity k.attempt y && same_bool (came_right gives k) (came_right gives y)) (next_ask past x) false) j m.jobs i
            (both_true (is_at j j.name) _ (same-itself j.name) (subst (λ o. option_map_or (λ y. is_ask k.activity k.attempt y && same_bool (came_right gives k) (came_right gives y)) o false ≡ true) (sym e) (both_true (is_ask k.activity k.attempt k) (same_bool (came_right gives k) (came_right gives k)) (both_true (k.activity == k.activity) (k.attempt == k.attempt) (eq-eqb k.activity k.activity refl) (eq-eqb k.attempt k.attempt refl)) (same (came_right gives k)))))),
        refl,
      )
        where
          same : (b : Bool) → same_bool b b ≡ true
          same true = refl
          same false = refl

  settle-level : (past : History) (l : Level) → In l (levels m.steps) → can_settle m past l ≡ true → Next gives m past
  settle-level past l i h = by l.length refl
    where
      named_it : (same_job l.name l.name && can_settle m past l) ≡ true
      named_it = both_true (same_job l.name l.name) (can_settle m past l) (same-itself l.name) h

      by : (o : Option ℕ) → l.length ≡ o → Next gives m past
      by None e = (fault_passed l.name, any-in (λ (x : Level). same_job l.name x.name && can_settle m past x && is_none x.length) l (levels m.steps) i (both_true (same_job l.name l.name && can_settle m past l) (is_none l.length) named_it (ap is_none e)), refl)
      by (Some k) e = (closed l.name k, any-in (λ (x : Level). same_job l.name x.name && can_settle m past x && option_map_or (λ c. c == k) x.length false) l (levels m.steps) i (both_true (same_job l.name l.name && can_settle m past l) (option_map_or (λ c. c == k) l.length false) named_it (subst (λ o. option_map_or (λ c. c == k) o false ≡ true) (sym e) (eq-eqb k k refl))), refl)

  settle-next : (past : History) → can_settle_more m past ≡ true → Next gives m past
  settle-next past h = on_or (list_any (can_bounce m past) m.jobs || list_any (can_settle m past) (levels m.steps)) (list_any (can_end m past) (instances m)) h (λ x. on_or (list_any (can_bounce m past) m.jobs) (list_any (can_settle m past) (levels m.steps)) x (λ x. let r = some_in (can_bounce m past) m.jobs x in (bounced r.0.name, any-in (λ k. is_at k r.0.name && can_bounce m past k) r.0 m.jobs r.1 (both_true (is_at r.0 r.0.name) (can_bounce m past r.0) (same-itself r.0.name) r.2), refl)) (λ x. let r = some_in (can_settle m past) (levels m.steps) x in settle-level past r.0 r.1 r.2)) (λ x. let r = some_in (can_end m past) (instances m) x in (ended r.0, r.2, refl))

  offer-next : (past : History) (j : Job) → In j m.jobs → is_offered m past j ≡ true → Next gives m past
  offer-next past j i h =
      let f = find-some (is_offered m past) j m.jobs i h in by f.0 f.1 (first_so (is_some (next_ask past f.0)) (may_go_on m past f.0) f.2) (next_ask past f.0) refl
    where
      by : (k : Job) → find (is_offered m past) m.jobs ≡ Some k → is_some (next_ask past k) ≡ true → (o : Option Ask) → next_ask past k ≡ o → Next gives m past
      by k f s None e = absurd (true≠false (sym s ∙ ap is_some e))
      by k f s (Some a) e = (
        handed_out k.name a.activity a.attempt,
        subst (λ o. option_map_or (λ x. is_at x k.name && option_map_or (is_ask a.activity a.attempt) (next_ask past x) false) o false ≡ true) (sym f)
            (both_true (is_at k k.name) _ (same-itself k.name) (subst (λ o. option_map_or (is_ask a.activity a.attempt) o false ≡ true) (sym e) (both_true (a.activity == a.activity) (a.attempt == a.attempt) (eq-eqb a.activity a.activity refl) (eq-eqb a.attempt a.attempt refl)))),
        refl,
      )

  go-next : (past : History) → can_settle_more m past ≡ false → (j : Job) → In j m.jobs → (is_offered m past j || can_open m past j) ≡ true → Next gives m past
  go-next past quiet j i h =
      let f = find-some (λ k. is_offered m past k || can_open m past k) j m.jobs i h in
      by f.0 f.1 (can_open m past f.0) refl f.2
    where
      found_job : (k : Job) → find (λ k. is_offered m past k || can_open m past k) m.jobs ≡ Some k → In k m.jobs
      found_job k f =
          found-member (λ k. is_offered m past k || can_open m past k) k m.jobs f

      not_opened : (a b : Bool) → b ≡ false → (a || b) ≡ true → a ≡ true
      not_opened true b p q = refl
      not_opened false b p q = absurd (true≠false (sym q ∙ p))

      by : (k : Job) → find (λ k. is_offered m past k || can_open m past k) m.jobs ≡ Some k → (b : Bool) → can_open m past k ≡ b → (is_offered m past k || can_open m past k) ≡ true → Next gives m past
      by k f true c p = (
        opened k.name,
        both_true (not (can_settle_more m past)) _ (ap not quiet) (subst (λ o. option_map_or (λ x. is_at x k.name && can_open m past x) o false ≡ true) (sym f) (both_true (is_at k k.name) (can_open m past k) (same-itself k.name) c)),
        refl,
      )
      by k f false c p = offer-next past k (found_job k f) (not_opened (is_offered m past k) (can_open m past k) c p)

  -- PROGRESS
  pub goes-on : (past : History) → is_legal gives m past ≡ true → is_done past ≡ false → Next gives m past
  goes-on past l d = by (list_any (λ j. is_out past j.name) m.jobs) refl (can_settle_more m past) refl
    where
      by : (b : Bool) → list_any (λ (j : Job). is_out past j.name) m.jobs ≡ b → (c : Bool) → can_settle_more m past ≡ c → Next gives m past
      by true e c f = let r = some_in (λ (j : Job). is_out past j.name) m.jobs e in accept-next past r.0 r.1 r.2 (out-next past l r.0 r.1 r.2)
      by false e true f = settle-next past f
      by false e false f =
          let g = open-goes gives m w past l (each_in (λ (j : Job). is_out past j.name ≡ false) m.jobs (none_pass (λ (j : Job). is_out past j.name) m.jobs e)) f [] (ap not d) (inl refl) in
          go-next past f g.0 g.1 g.3

-- PROGRESS: so a loop that appends legal entries other than recalls, as long as there are any, ends where the main instance has ended
pub progress : (gives : Giving) (d : Document) → IsWellFormed d → (past : History) → is_legal gives (meaning gives d) past ≡ true → is_done past ≡ false → Next gives (meaning gives d) past
progress gives d f past l h = goes-on gives (meaning gives d) (meaning-whole gives AtLeastOne d f.places) past l h
