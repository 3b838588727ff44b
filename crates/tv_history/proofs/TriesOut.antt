-- How many tries are out after one entry more.
use Rattle.std.specs.Prelude.{◌≡◌, refl, ℕ, suc, ◌+◌, ◌==◌, [], ◌∷◌, Bool, true, false, nat_lt, if◌then◌else◌, is_some}
use Rattle.std.proofs.Common.{arith, ap, sym, ◌∙◌, eqb-true}
use Rattle.std.specs.Cmp.{first_so, second_so}
use Rattle.tv_lemmas.specs.Members.{In}
use Rattle.tv_value.specs.Orders.{same_job}
use Rattle.tv_value.specs.Values.{JobName}
use Rattle.tv_value.proofs.JobNameLemmas.{same_job_decides}
use Rattle.tv_flow.specs.Flows.{Document}
use Rattle.tv_gate.specs.Outcomes.{Giving}
use Rattle.tv_model.specs.Jobs.{Job}
use Rattle.tv_model.specs.Made.{Meaning}
use Rattle.tv_model.specs.Meanings.{meaning}
use Rattle.tv_model.proofs.Whole.{IsWhole}
use Rattle.tv_history.specs.Entries.{Entry, History, accepted, handed_out, is_out, recalled}
use Rattle.tv_history.specs.Going.{OutAfter}
use Rattle.tv_history.specs.Histories.{is_legal, is_legal_after, may_go_on, next_ask, out_count}
use Rattle.tv_history.proofs.Bounded.{going-not_out}
use Rattle.tv_history.proofs.Counts.{bit, count-total, nothing-counted, once-counted, total, total-of_sums, total-same}
use Rattle.tv_history.proofs.Legal.{Legal, accepts, bounces, closes, ends, hands, legal-of, opens, passes, recalls}
use Rattle.tv_history.proofs.Ready.{AnyNumber, document-whole}

nothing : (n : ℕ) → n ≡ 0 + n
nothing n = omega arith

module _ (gives : Giving) (D : ℕ → Type 0) (m : Meaning) (w : IsWhole gives D m []) (past : History) where
  abbrev its : JobName → Job → ℕ
  its n j = bit (same_job j.name n)

  abbrev was : Job → ℕ
  was j = bit (is_out past j.name)

  before : out_count m past ≡ total was m.jobs
  before = count-total (λ (j : Job). is_out past j.name) m.jobs

  once : (k : Job) → In k m.jobs → total (its k.name) m.jobs ≡ 1
  once k i = once-counted (λ (j : Job). j.name) k.name m.jobs w.jobs_apart k i refl

  -- ---- one is handed out

  abbrev is_now : JobName → Job → ℕ
  is_now n j = bit (if same_job j.name n then true else is_out past j.name)

  one-more : (k : Job) → is_out past k.name ≡ false → (j : Job) → is_now k.name j ≡ its k.name j + was j
  one-more k none j = by (same_job j.name k.name) (is_out past j.name) (λ h. ap (is_out past) ((same_job_decides j.name k.name).0 h) ∙ none)
    where
      by : (b c : Bool) → (b ≡ true → c ≡ false) → bit (if b then true else c) ≡ bit b + bit c
      by true c f = ap (λ x. 1 + bit x) (sym (f refl))
      by false c f = nothing (bit c)

  handed : (k : Job) → In k m.jobs → is_out past k.name ≡ false → total (is_now k.name) m.jobs ≡ suc (total was m.jobs)
  handed k i none =
      let more = total-same (is_now k.name) (λ j. its k.name j + was j) m.jobs (λ j h. one-more k none j) in
      omega (arith, more, total-of_sums (its k.name) was m.jobs, once k i)

  -- ---- one is accepted

  abbrev is_left : JobName → Job → ℕ
  is_left n j = bit (if same_job j.name n then false else is_out past j.name)

  one-fewer : (k : Job) → is_out past k.name ≡ true → (j : Job) → was j ≡ its k.name j + is_left k.name j
  one-fewer k out j = by (same_job j.name k.name) (is_out past j.name) (λ h. ap (is_out past) ((same_job_decides j.name k.name).0 h) ∙ out)
    where
      by : (b c : Bool) → (b ≡ true → c ≡ true) → bit c ≡ bit b + bit (if b then false else c)
      by true c f = ap bit (f refl)
      by false c f = nothing (bit c)

  taken : (k : Job) → In k m.jobs → is_out past k.name ≡ true → total was m.jobs ≡ suc (total (is_left k.name) m.jobs)
  taken k i out =
      let fewer = total-same was (λ j. its k.name j + is_left k.name j) m.jobs (λ j h. one-fewer k out j) in
      omega (arith, fewer, total-of_sums (its k.name) (is_left k.name) m.jobs, once k i)

  -- ---- each entry

  after : {e : Entry} → Legal gives m past e → is_legal_after gives m past e ≡ true → OutAfter e (out_count m past) (out_count m (e ∷ past))
  after (hands k a i o q) h =
      count-total (λ (j : Job). is_out (handed_out k.name a.activity a.attempt ∷ past) j.name) m.jobs
      ∙ handed k i (going-not_out gives D m w past k (second_so (is_some (next_ask past k)) (may_go_on m past k) o))
      ∙ ap suc (sym before)
  after (accepts k a i o q) h =
      before ∙ taken k i o
      ∙ ap suc (sym (count-total (λ (j : Job). if same_job j.name k.name then false else is_out past j.name) m.jobs))
  after (recalls k) h = (
    sym (eqb-true k (out_count m past) (second_so (nat_lt 0 k) (k == out_count m past) h)),
    nothing-counted (λ (j : Job). is_out (recalled k ∷ past) j.name) m.jobs (λ j i. refl),
  )
  after (bounces k i c) h = refl
  after (closes l k i c q) h = refl
  after (passes l i c q) h = refl
  after (opens k i q c) h = refl
  after (ends n c) h = refl

pub tries-out : (gives : Giving) (d : Document) (past : History) (e : Entry) → is_legal gives (meaning gives d) (e ∷ past) ≡ true → OutAfter e (out_count (meaning gives d) past) (out_count (meaning gives d) (e ∷ past))
tries-out gives d past e l =
    let m = meaning gives d in
    let h = second_so (is_legal gives m past) (is_legal_after gives m past e) l in
    after gives AnyNumber m (document-whole gives d) past (legal-of gives m past e h) h
