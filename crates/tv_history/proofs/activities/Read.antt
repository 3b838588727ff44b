-- Every document that was read has an activity at every step, and eight at the most.
use Rattle.std.specs.Prelude.{◌≡◌, ℕ, zero, suc, ◌≤◌, List, length, Bool, true, ◌&&◌, nat_le}
use Rattle.std.specs.List.{list_all}
use Rattle.std.proofs.Common.{arith, sym}
use Rattle.std.proofs.lemmas.Bool.{leb-true}
use Rattle.std.specs.Cmp.{first_so, second_so}
use Rattle.tv_lemmas.specs.Members.{Each}
use Rattle.tv_value.specs.Values.{Name}
use Rattle.tv_flow.specs.Flows.{Document, Step}
use Rattle.tv_flow.specs.Formed.{is_between, is_activity, is_feed, is_value, is_step, is_flow, is_formed, are_entries, are_named, are_listed, are_names, is_given_loop}
use Rattle.tv_flow.specs.Forms.{is_name}
use Rattle.tv_model.proofs.Tests.{true≠false}
use Rattle.tv_history.specs.activities.Agreed.{HasActivities}
use Rattle.tv_strategy.proofs.Each.{each-passes, each-weaken}

one-at_least : (n : ℕ) → nat_le 1 n ≡ true → 1 ≤ n
one-at_least zero h = absurd (true≠false (sym h))
one-at_least (suc n) h = omega arith

-- what passes by its name passes
pub named-pass : {A : Type 0} (p : A → Bool) (least most : ℕ) (es : List (Name × A)) → are_named p least most es ≡ true → Each (λ e. p e.1 ≡ true) es
named-pass p least most es h =
    each-weaken (λ e. (is_name e.0 && p e.1) ≡ true) (λ e. p e.1 ≡ true) (λ e k. second_so (is_name e.0) (p e.1) k) es
    (each-passes (λ e. is_name e.0 && p e.1) es (second_so _ (list_all (λ e. is_name e.0 && p e.1) es) (second_so (is_between least most (length es)) (are_entries p es) h)))

-- how many activities a step has
between-activities : (s : Step) → is_step s ≡ true → is_between 1 8 (length s.activities) ≡ true
between-activities s h =
    first_so (is_between 1 8 (length s.activities)) (list_all is_activity s.activities)
    (second_so _ (are_listed is_activity 1 8 s.activities) (first_so _ (is_between 0 100 s.retries) (first_so _ (is_between 1 64 s.jobs) (first_so _ (are_names s.after) (first_so _ (is_given_loop s.repeat) h)))))

at-least_one : (s : Step) → is_step s ≡ true → 1 ≤ length s.activities
at-least_one s h = one-at_least (length s.activities) (first_so (nat_le 1 (length s.activities)) _ (between-activities s h))

at-most_eight : (s : Step) → is_step s ≡ true → length s.activities ≤ 8
at-most_eight s h = leb-true (length s.activities) 8 (second_so (nat_le 1 (length s.activities)) _ (between-activities s h))

-- what is so of every step that passes is so of all steps of a document that was read
of-steps : (S : Step → Type 0) → ((s : Step) → is_step s ≡ true → S s) → (d : Document) → is_formed d ≡ true → Each (λ f. Each (λ s. S s.1) f.1.steps) d.flows
of-steps S w d h =
    each-weaken (λ f. is_flow f.1 ≡ true) (λ f. Each (λ s. S s.1) f.1.steps) (λ f k. each-weaken (λ s. is_step s.1 ≡ true) (λ s. S s.1) (λ s. w s.1) f.1.steps (named-pass is_step 0 1000 f.1.steps (second_so _ (are_named is_step 0 1000 f.1.steps) (first_so _ (are_named is_feed 0 16 f.1.outputs) k)))) d.flows
    (named-pass is_flow 1 256 d.flows (second_so _ (are_named is_flow 1 256 d.flows) (first_so _ (are_entries is_value d.inputs) h)))

pub documents-have_activities : (d : Document) → is_formed d ≡ true → HasActivities d
documents-have_activities d h = record { activities = of-steps (λ s. 1 ≤ length s.activities) at-least_one d h }

pub few-activities : (d : Document) → is_formed d ≡ true → Each (λ f. Each (λ s. length s.1.activities ≤ 8) f.1.steps) d.flows
few-activities d h = of-steps (λ s. length s.activities ≤ 8) at-most_eight d h
