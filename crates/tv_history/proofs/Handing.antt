-- Where nothing can be settled or opened, the first job that goes on has the first offered ask.
use Rattle.std.specs.Prelude.{◌≡◌, refl, List, [], ◌∷◌, Bool, true, false, not, ◌&&◌, ◌||◌, cond, Some, find}
use Rattle.std.specs.Option.{option_map_or}
use Rattle.std.proofs.Common.{sym, ap, subst, ◌∙◌}
use Rattle.tv_value.specs.Values.{JobName}
use Rattle.tv_value.proofs.JobNameLemmas.{same_job_decides}
use Rattle.tv_gate.specs.Outcomes.{Giving}
use Rattle.tv_model.specs.Jobs.{Job}
use Rattle.tv_model.specs.Made.{Meaning}
use Rattle.tv_model.proofs.Tests.{true≠false, both_true}
use Rattle.tv_model.proofs.Turns.{or_left}
use Rattle.tv_history.specs.Entries.{History, opened}
use Rattle.tv_history.specs.Histories.{can_open, can_settle_more, is_at, is_legal_after, is_offered}

find-same : {A : Type 0} (p q : A → Bool) (xs : List A) → ((x : A) → p x ≡ true → q x ≡ true) → ((x : A) → find q xs ≡ Some x → q x ≡ true → p x ≡ true) → find p xs ≡ find q xs
find-same p q [] f g = refl
find-same {A = A} p q (x ∷ xs) f g = by (p x) (q x) refl refl (λ h. find-same p q xs f h)
  where
    first : q x ≡ true → p x ≡ true
    first e = g x (ap (λ b. cond b (Some x) (find q xs)) e) e

    by : (b c : Bool) → p x ≡ b → q x ≡ c → (((y : A) → find q xs ≡ Some y → q y ≡ true → p y ≡ true) → find p xs ≡ find q xs) → cond b (Some x) (find p xs) ≡ cond c (Some x) (find q xs)
    by true true e h rec = refl
    by true false e h rec = absurd (true≠false (sym (f x e) ∙ h))
    by false true e h rec = absurd (true≠false (sym (first h) ∙ e))
    by false false e h rec = rec (λ y k l. g y (ap (λ b. cond b (Some x) (find q xs)) h ∙ k) l)

module _ (gives : Giving) (m : Meaning) (past : History) (quiet : can_settle_more m past ≡ false) (shut : (n : JobName) → is_legal_after gives m past (opened n) ≡ false) where
  pub first-same : find (is_offered m past) m.jobs ≡ find (λ j. is_offered m past j || can_open m past j) m.jobs
  first-same = find-same (is_offered m past) (λ j. is_offered m past j || can_open m past j) m.jobs (λ j h. or_left (is_offered m past j) (can_open m past j) h) (λ j e h. by j e (is_offered m past j) (can_open m past j) refl refl h)
    where
      opens : (j : Job) → find (λ j. is_offered m past j || can_open m past j) m.jobs ≡ Some j → can_open m past j ≡ true → is_legal_after gives m past (opened j.name) ≡ true
      opens j e h =
          both_true (not (can_settle_more m past)) (option_map_or (λ k. is_at k j.name && can_open m past k) (find (λ k. is_offered m past k || can_open m past k) m.jobs) false) (ap not quiet)
          (subst (λ o. option_map_or (λ k. is_at k j.name && can_open m past k) o false ≡ true) (sym e) (both_true (is_at j j.name) (can_open m past j) ((same_job_decides j.name j.name).1 refl) h))

      by : (j : Job) → find (λ j. is_offered m past j || can_open m past j) m.jobs ≡ Some j → (b c : Bool) → is_offered m past j ≡ b → can_open m past j ≡ c → (is_offered m past j || can_open m past j) ≡ true → is_offered m past j ≡ true
      by j e true c p q h = p
      by j e false true p q h = absurd (true≠false (sym (opens j e q) ∙ shut j.name))
      by j e false false p q h = absurd (true≠false (sym h ∙ ap (λ b. b || can_open m past j) p ∙ q))
