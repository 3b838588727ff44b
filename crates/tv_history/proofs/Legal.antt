-- An entry that is legal next, by what it is of: the one place where its test is taken apart.
use Rattle.std.specs.Prelude.{◌≡◌, ℕ, ◌∷◌, Bool, true, false, not, ◌&&◌, ◌||◌, ◌==◌, Some, None, is_none}
use Rattle.std.specs.Option.{option_map_or}
use Rattle.std.proofs.Common.{sym, subst, eqb-true}
use Rattle.std.proofs.lemmas.Bool.{not-true}
use Rattle.std.specs.Cmp.{first_so, second_so}
use Rattle.tv_lemmas.specs.Members.{In}
use Rattle.tv_lemmas.proofs.Members.{some_in}
use Rattle.tv_lemmas.proofs.Options.{map_or-some, is_none-none}
use Rattle.tv_value.specs.Values.{JobName}
use Rattle.tv_value.specs.Orders.{same_job}
use Rattle.tv_value.proofs.JobNameLemmas.{same_job_decides}
use Rattle.tv_gate.specs.Outcomes.{Giving}
use Rattle.tv_dispatch.specs.Jobs.{Ask}
use Rattle.tv_model.specs.Jobs.{Job}
use Rattle.tv_model.specs.Levels.{Level, levels}
use Rattle.tv_model.specs.Made.{Meaning}
use Rattle.tv_model.proofs.Tests.{true≠false}
use Rattle.tv_history.specs.Entries.{Entry, handed_out, accepted, bounced, closed, fault_passed, opened, ended, recalled, History, is_out}
use Rattle.tv_history.specs.Histories.{next_ask, is_offered, can_open, can_bounce, can_settle, can_end, can_settle_more, is_at, is_ask, same_bool, is_legal, is_legal_after}
use Rattle.tv_dispatch.specs.Plans.{came_right}
use Rattle.tv_history.proofs.Tests.{found_in}

pub judged-same : (a b : Bool) → same_bool a b ≡ true → b ≡ a
judged-same true true h = λ i. true
judged-same true false h = absurd (true≠false (sym h))
judged-same false true h = absurd (true≠false (sym h))
judged-same false false h = λ i. false

module _ (gives : Giving) (m : Meaning) (past : History) where
  pub data Legal : Entry → Type 0 where
    -- the first try on offer
    hands : (j : Job) (a : Ask) → In j m.jobs → is_offered m past j ≡ true → next_ask past j ≡ Some a → Legal (handed_out j.name a.activity a.attempt)
    -- a try that is out, with the outcome that the services give
    accepts : (j : Job) (a : Ask) → In j m.jobs → is_out past j.name ≡ true → next_ask past j ≡ Some a → Legal (accepted j.name a.activity a.attempt (came_right gives a))
    bounces : (j : Job) → In j m.jobs → can_bounce m past j ≡ true → Legal (bounced j.name)
    closes : (l : Level) (k : ℕ) → In l (levels m.steps) → can_settle m past l ≡ true → l.length ≡ Some k → Legal (closed l.name k)
    passes : (l : Level) → In l (levels m.steps) → can_settle m past l ≡ true → l.length ≡ None → Legal (fault_passed l.name)
    opens : (j : Job) → In j m.jobs → can_settle_more m past ≡ false → can_open m past j ≡ true → Legal (opened j.name)
    ends : (n : JobName) → can_end m past n ≡ true → Legal (ended n)
    recalls : (k : ℕ) → Legal (recalled k)

  pub legal-of : (e : Entry) → is_legal_after gives m past e ≡ true → Legal e
  legal-of (handed_out n c t) h =
      let r = found_in (λ j. is_at j n && option_map_or (is_ask c t) (next_ask past j) false) (is_offered m past) m.jobs h in
      let name = (same_job_decides n r.0.name).0 (first_so (is_at r.0 n) _ r.3) in
      let a = map_or-some (is_ask c t) (next_ask past r.0) (second_so (is_at r.0 n) _ r.3) in
      let x = eqb-true c a.0.activity (first_so (c == a.0.activity) (t == a.0.attempt) a.2) in
      let y = eqb-true t a.0.attempt (second_so (c == a.0.activity) (t == a.0.attempt) a.2) in
      subst Legal (sym (λ i. handed_out (name i) (x i) (y i))) (hands r.0 a.0 r.1 r.2 a.1)
  legal-of (accepted n c t b) h =
      let r = some_in (λ j. is_at j n && option_map_or (λ a. is_ask c t a && same_bool b (came_right gives a)) (next_ask past j) false) m.jobs (second_so (is_out past n) _ h) in
      let name = (same_job_decides n r.0.name).0 (first_so (is_at r.0 n) _ r.2) in
      let a = map_or-some (λ a. is_ask c t a && same_bool b (came_right gives a)) (next_ask past r.0) (second_so (is_at r.0 n) _ r.2) in
      let it = first_so (is_ask c t a.0) _ a.2 in
      let x = eqb-true c a.0.activity (first_so (c == a.0.activity) (t == a.0.attempt) it) in
      let y = eqb-true t a.0.attempt (second_so (c == a.0.activity) (t == a.0.attempt) it) in
      let z = sym (judged-same b (came_right gives a.0) (second_so (is_ask c t a.0) _ a.2)) in
      subst Legal (sym (λ i. accepted (name i) (x i) (y i) (z i))) (accepts r.0 a.0 r.1 (subst (λ k. is_out past k ≡ true) name (first_so (is_out past n) _ h)) a.1)
  legal-of (bounced n) h =
      let r = some_in (λ j. is_at j n && can_bounce m past j) m.jobs h in
      subst (λ k. Legal (bounced k)) (sym ((same_job_decides n r.0.name).0 (first_so (is_at r.0 n) _ r.2))) (bounces r.0 r.1 (second_so (is_at r.0 n) _ r.2))
  legal-of (closed n k) h =
      let r = some_in (λ (l : Level). same_job n l.name && can_settle m past l && option_map_or (λ c. c == k) l.length false) (levels m.steps) h in
      let both = first_so (same_job n r.0.name && can_settle m past r.0) _ r.2 in
      let c = map_or-some (λ c. c == k) r.0.length (second_so (same_job n r.0.name && can_settle m past r.0) _ r.2) in
      let it = closes r.0 c.0 r.1 (second_so (same_job n r.0.name) _ both) c.1 in
      subst Legal (λ i. closed (sym ((same_job_decides n r.0.name).0 (first_so (same_job n r.0.name) _ both)) i) (eqb-true c.0 k c.2 i)) it
  legal-of (fault_passed n) h =
      let r = some_in (λ (l : Level). same_job n l.name && can_settle m past l && is_none l.length) (levels m.steps) h in
      let both = first_so (same_job n r.0.name && can_settle m past r.0) _ r.2 in
      let it = passes r.0 r.1 (second_so (same_job n r.0.name) _ both) (is_none-none r.0.length (second_so (same_job n r.0.name && can_settle m past r.0) _ r.2)) in
      subst (λ k. Legal (fault_passed k)) (sym ((same_job_decides n r.0.name).0 (first_so (same_job n r.0.name) _ both))) it
  legal-of (opened n) h =
      let r = found_in (λ j. is_at j n && can_open m past j) (λ j. is_offered m past j || can_open m past j) m.jobs (second_so (not (can_settle_more m past)) _ h) in
      subst (λ k. Legal (opened k)) (sym ((same_job_decides n r.0.name).0 (first_so (is_at r.0 n) _ r.3))) (opens r.0 r.1 (not-true (can_settle_more m past) (first_so (not (can_settle_more m past)) _ h)) (second_so (is_at r.0 n) _ r.3))
  legal-of (ended n) h = ends n h
  legal-of (recalled k) h = recalls k

  pub last-legal : (e : Entry) → is_legal gives m (e ∷ past) ≡ true → Legal e
  last-legal e h = legal-of e (second_so (is_legal gives m past) (is_legal_after gives m past e) h)
