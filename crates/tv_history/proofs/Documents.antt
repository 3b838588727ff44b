-- What holds of the meaning of every document.
use Rattle.std.specs.Prelude.{◌≡◌, refl, ◌≤◌, ◌⊎◌, List, [], length, Bool, true, false, not, ◌&&◌, ◌||◌, if◌then◌else◌, Option, Some, None, is_some, is_none, find}
use Rattle.std.specs.List.{list_any}
use Rattle.std.proofs.Common.{arith, sym, ap, subst, ◌∙◌, inl, inr}
use Rattle.std.proofs.lemmas.Bool.{false_from_ne_true, not-true}
use Rattle.std.specs.Cmp.{first_so, second_so}
use Rattle.std.specs.Cmp.Derive.{one_truth}
use Rattle.tv_lemmas.specs.Members.{In}
use Rattle.tv_lemmas.proofs.Cases.{on_test, on_or}
use Rattle.tv_value.specs.Values.{JobName}
use Rattle.tv_gate.specs.Outcomes.{Giving}
use Rattle.tv_flow.specs.Flows.{Document}
use Rattle.tv_dispatch.specs.Jobs.{Ask}
use Rattle.tv_model.specs.Jobs.{Job}
use Rattle.tv_model.specs.Made.{Meaning}
use Rattle.tv_model.specs.Meanings.{meaning, nesting_limit}
use Rattle.tv_model.specs.Turns.{is_bounced}
use Rattle.tv_model.proofs.Tests.{true≠false, both_true, or_right}
use Rattle.tv_model.proofs.Turns.{or_left}
use Rattle.tv_model.proofs.Whole.{IsWhole, StepsHave}
use Rattle.tv_history.specs.Entries.{History, is_bounced_entry, is_ended_entry}
use Rattle.tv_history.specs.Histories.{all_known, can_open, has_open_instance, has_place, is_idle, is_legal, is_offered, is_open, is_ready, is_running, is_settled, may_go_on, next_ask}
use Rattle.tv_history.proofs.Running.{idle_begun}
use Rattle.tv_history.proofs.Ready.{AnyNumber, all-sound, are-jobs}
use Rattle.tv_history.proofs.Stuck.{begun-tried}
use Rattle.tv_history.proofs.OneWorker.{IsLaidOut}
use Rattle.tv_history.proofs.LaidOut.{flow-laid}
use Rattle.tv_history.specs.order.FirstIn.{AreHeld, first_in}
use Rattle.tv_history.proofs.OrderLemmas.{IsOrderly, flow-orderly}
use Rattle.tv_history.proofs.Strict.{PrefixFirst, prefix-first}
use Rattle.tv_history.proofs.First.{find-none, first-found, going-open, has-own, opener-waits, outer-open}
use Rattle.tv_strategy.proofs.Each.{each-all}

module _ (gives : Giving) (d : Document) where
  abbrev m : Meaning
  m = meaning gives d

  laid-all : IsWhole gives AnyNumber m [] × IsLaidOut m.jobs
  laid-all = flow-laid gives AnyNumber d.flows (each-all (λ f. StepsHave gives AnyNumber f.1) (λ f. each-all (λ s. AnyNumber s.1.jobs) (λ s. tt) f.1.steps) d.flows) nesting_limit d.main [] d.inputs

  pub any-whole : IsWhole gives AnyNumber m []
  any-whole = laid-all.0

  pub any-laid : IsLaidOut m.jobs
  any-laid = laid-all.1

  pub orderly : IsOrderly gives d.flows nesting_limit d.main m []
  orderly = flow-orderly gives d.flows nesting_limit d.main [] d.inputs

  pub any-first : PrefixFirst m.jobs
  any-first = prefix-first d.flows nesting_limit d.main m.jobs orderly.ordered

  pub name-length : (y : Job) → In y m.jobs → length y.name ≤ nesting_limit
  name-length y i = let b = orderly.below y i in (omega (arith, ap (λ (l : JobName). length l) b.2, b.3))

  module _ (past : History) (legal : is_legal gives m past ≡ true) where
    -- what goes on
    abbrev Going : Job → Bool
    Going j = is_offered m past j || can_open m past j

    offered-going : (j : Job) → is_offered m past j ≡ true → may_go_on m past j ≡ true
    offered-going j h = second_so (is_some (next_ask past j)) (may_go_on m past j) h

    pub goes-going : (j : Job) → Going j ≡ true → may_go_on m past j ≡ true
    goes-going j h = on_or (is_offered m past j) (can_open m past j) h (λ q. offered-going j q) (λ q. second_so (is_none (next_ask past j) && is_some j.opens) (may_go_on m past j) q)

    -- a test that only what may go on passes
    pub shut : (passes : Job → Bool) → ((j : Job) → passes j ≡ true → may_go_on m past j ≡ true) → (j : Job) → In j m.jobs → has_open_instance past j ≡ true → passes j ≡ false
    shut passes f j i h = false_from_ne_true (passes j) (λ e. true≠false (sym (f j e) ∙ opener-waits gives AnyNumber m any-whole past legal j i h))

    found-by : (passes : Job → Bool) → ((j : Job) → passes j ≡ true → may_go_on m past j ≡ true) → is_open past [] ≡ true → (held : JobName → List Job) → AreHeld m past held passes → first_in held (has_open_instance past) passes nesting_limit [] ≡ find passes m.jobs
    found-by passes f o held are =
        first-found gives AnyNumber m any-whole past legal any-laid any-first passes (λ j i h. going-open gives AnyNumber m any-whole past legal j i (f j h)) (shut passes f) held are nesting_limit o name-length

    pub first-offered : is_open past [] ≡ true → (held : JobName → List Job) → AreHeld m past held (is_offered m past) → first_in held (has_open_instance past) (is_offered m past) nesting_limit [] ≡ find (is_offered m past) m.jobs
    first-offered o held are = found-by (is_offered m past) offered-going o held are

    pub first-going : is_open past [] ≡ true → (held : JobName → List Job) → AreHeld m past held (λ j. is_offered m past j || can_open m past j) → first_in held (has_open_instance past) (λ j. is_offered m past j || can_open m past j) nesting_limit [] ≡ find (λ j. is_offered m past j || can_open m past j) m.jobs
    first-going o held are = found-by (λ j. is_offered m past j || can_open m past j) goes-going o held are

    -- ---- the test by plain data

    unsettled-tried : (j : Job) → In j m.jobs → may_go_on m past j ≡ true → (is_settled past j ≡ false) × (is_bounced j.ending ≡ false)
    unsettled-tried j i h = on_or (is_idle past j) (is_ready m past j && not (is_bounced j.ending) && has_place m past j) h (λ q. let b = idle_begun gives m (all-sound gives AnyNumber m [] any-whole) (are-jobs gives AnyNumber m [] any-whole) past j q in (b.1, begun-tried gives AnyNumber m any-whole past j i legal b.0)) (λ q. let r = first_so (is_ready m past j && not (is_bounced j.ending)) (has_place m past j) q in (not-true (is_settled past j) (second_so (is_open past j.instance && not (is_running past j)) (not (is_settled past j)) (first_so (is_open past j.instance && not (is_running past j) && not (is_settled past j)) (all_known m past j.waits) (first_so (is_ready m past j) (not (is_bounced j.ending)) r))), not-true (is_bounced j.ending) (second_so (is_ready m past j) (not (is_bounced j.ending)) r)))

    pub going-plain : (j : Job) → In j m.jobs → (is_offered m past j || can_open m past j) ≡ may_go_on m past j
    going-plain j i = one_truth (is_offered m past j || can_open m past j) (may_go_on m past j) (goes-going j) (λ g. back g (unsettled-tried j i g))
      where
        back : may_go_on m past j ≡ true → (is_settled past j ≡ false) × (is_bounced j.ending ≡ false) → (is_offered m past j || can_open m past j) ≡ true
        back g u = by (next_ask past j) refl
          where
            by : (o : Option Ask) → next_ask past j ≡ o → (is_offered m past j || can_open m past j) ≡ true
            by (Some a) e = or_left (is_offered m past j) (can_open m past j) (both_true (is_some (next_ask past j)) (may_go_on m past j) (ap is_some e) g)
            by None e = on_test (is_some j.opens) (λ q. or_right (is_offered m past j) (can_open m past j) (both_true (is_none (next_ask past j) && is_some j.opens) (may_go_on m past j) (both_true (is_none (next_ask past j)) (is_some j.opens) (ap is_none e) q) g)) (λ q. let x = subst (λ c. (if c then list_any (is_bounced_entry j.name) past else (if is_some j.opens then list_any (is_ended_entry j.name) past else is_none (next_ask past j))) ≡ false) u.1 u.0 in absurd (true≠false (sym (ap is_none e) ∙ subst (λ c. (if c then list_any (is_ended_entry j.name) past else is_none (next_ask past j)) ≡ false) q x)))

    -- what goes on stands in instances that are open up to the main one
    main-open : (y : Job) → In y m.jobs → may_go_on m past y ≡ true → is_open past [] ≡ true
    main-open y i g =
        let n = (are-jobs gives AnyNumber m [] any-whole).has_name y i in
        let h = has-own gives AnyNumber m any-whole past legal [] n.0 n.1 y i n.2 (going-open gives AnyNumber m any-whole past legal y i g) in
        subst (λ l. is_open past l ≡ true) h.in_instance (by h.own h.mine h.itself_or_open)
      where
        by : (z : Job) → In z m.jobs → (y ≡ z) ⊎ (has_open_instance past z ≡ true) → is_open past z.instance ≡ true
        by z k (inl e) = subst (λ x. is_open past x.instance ≡ true) e (going-open gives AnyNumber m any-whole past legal y i g)
        by z k (inr e) = outer-open gives AnyNumber m any-whole past legal z k e

    pub nothing-at_end : is_open past [] ≡ false → find (λ j. is_offered m past j || can_open m past j) m.jobs ≡ None
    nothing-at_end e = find-none (λ j. is_offered m past j || can_open m past j) m.jobs (λ y i. by y i (Going y) refl)
      where
        by : (y : Job) → In y m.jobs → (b : Bool) → Going y ≡ b → Going y ≡ false
        by y i false g = g
        by y i true g = absurd (true≠false (sym (main-open y i (goes-going y g)) ∙ e))
