-- Once the main instance has ended, nothing is legal any more.
use Rattle.std.specs.Prelude.{◌≡◌, refl, ℕ, Bool, true, false, not, ◌&&◌, ◌==◌, [], None, is_none, is_some, nat_lt}
use Rattle.std.specs.List.{list_any}
use Rattle.std.proofs.Common.{ap, arith, eqb-true, inl, inr, subst, sym, ◌∙◌}
use Rattle.std.proofs.lemmas.Bool.{false_from_ne_true, ltb-true, not-true}
use Rattle.std.proofs.lemmas.Option.{same_Some}
use Rattle.std.specs.Cmp.{first_so, second_so}
use Rattle.tv_lemmas.specs.Members.{In}
use Rattle.tv_value.specs.Values.{JobName}
use Rattle.tv_gate.specs.Outcomes.{Giving}
use Rattle.tv_flow.specs.Flows.{Document}
use Rattle.tv_model.specs.Jobs.{Job}
use Rattle.tv_model.specs.Levels.{Level}
use Rattle.tv_model.specs.Lists.{first_of_list}
use Rattle.tv_model.specs.Made.{Meaning}
use Rattle.tv_model.specs.Meanings.{meaning}
use Rattle.tv_model.specs.Turns.{is_bounced}
use Rattle.tv_model.proofs.Tests.{true≠false}
use Rattle.tv_model.proofs.Whole.{IsWhole}
use Rattle.tv_history.specs.Entries.{Entry, History, accepted, bounced, closed, ended, fault_passed, handed_out, is_begun_entry, is_ended_entry, is_opened_entry, is_out, opened, recalled}
use Rattle.tv_history.specs.Histories.{all_known, can_settle, has_entry, is_done, is_legal, is_legal_after, is_open, is_ready, is_running, is_settled, may_go_on, next_ask, out_count}
use Rattle.tv_history.proofs.Counts.{nothing-counted}
use Rattle.tv_history.proofs.Done.{all-settled, opened-facts, opener-ended, settled-none}
use Rattle.tv_history.proofs.Legal.{Legal, accepts, bounces, closes, ends, hands, legal-of, opens, passes}
use Rattle.tv_history.proofs.Ready.{AnyNumber, document-whole}
use Rattle.tv_history.proofs.Running.{opened_begins}
use Rattle.tv_history.proofs.Stuck.{begun-tried}
use Rattle.tv_history.proofs.Tests.{any_weaken}
use Rattle.tv_history.proofs.offers.Runs.{unsettled}
use Rattle.tv_history.proofs.offers.Stages.{out-next}
use Rattle.tv_forest.specs.Forest.{Instance}
use Rattle.tv_forest.specs.firsts.Opening.{NothingAtEnd}
use Rattle.tv_forest.proofs.firsts.Instances.{stays-so}
use Rattle.tv_forest.proofs.firsts.Opened.{WasOpened, ended-shut, open-was}

-- no number is greater than 0 and is 0
no-number : (k n : ℕ) → n ≡ 0 → (nat_lt 0 k && k == n) ≡ false
no-number k n e =
    false_from_ne_true (nat_lt 0 k && k == n)
    (λ h.
    omega (arith, ltb-true 0 k (first_so (nat_lt 0 k) (k == n) h), eqb-true k n (second_so (nat_lt 0 k) (k == n) h), e))

module _ (gives : Giving) (d : Document) (past : History) (legal : is_legal gives (meaning gives d) past ≡ true)
    (done : is_done past ≡ true) where
  abbrev m : Meaning
  m = meaning gives d

  abbrev whole : IsWhole gives AnyNumber m []
  whole = document-whole gives d

  settled : (j : Job) → In j m.jobs → is_settled past j ≡ true
  settled j i = all-settled gives AnyNumber m whole past legal done j i

  none-asks : (j : Job) → In j m.jobs → next_ask past j ≡ None
  none-asks j i = ap first_of_list (settled-none gives AnyNumber m whole past legal j i (settled j i))

  none-goes : (j : Job) → In j m.jobs → may_go_on m past j ≡ true → ⊥
  none-goes j i h = true≠false (sym (settled j i) ∙ unsettled m past j h)

  none-out : (j : Job) → In j m.jobs → is_out past j.name ≡ false
  none-out j i =
      false_from_ne_true (is_out past j.name)
      (λ h. true≠false (sym (out-next gives d past legal j i h) ∙ ap is_some (none-asks j i)))

  none-open : (n : JobName) → is_open past n ≡ true → ⊥
  none-open n o = by (open-was gives d past legal n o)
    where
      by : WasOpened gives d past n → ⊥
      by (inl e) = true≠false (sym o ∙ ap (is_open past) e ∙ ended-shut past [] done)
      by (inr j) =
          let begun = any_weaken (is_opened_entry j.0.name) (is_begun_entry j.0.name) (opened_begins j.0.name) past j.3 in
          let ended_now =
          opener-ended gives AnyNumber m whole past j.0 (opened-facts gives AnyNumber m whole past legal j.0 j.1 j.3).1
          (begun-tried gives AnyNumber m whole past j.0 j.1 legal begun) (settled j.0 j.1)
          in
          true≠false (sym o ∙ ap (is_open past) (sym j.2) ∙ ended-shut past j.0.name ended_now)

  ready-unsettled : (j : Job) → is_ready m past j ≡ true → is_settled past j ≡ false
  ready-unsettled j h =
      not-true (is_settled past j)
      (second_so (is_open past j.instance && not (is_running past j)) (not (is_settled past j))
      (first_so (is_open past j.instance && not (is_running past j) && not (is_settled past j)) (all_known m past j.waits) h))

  none-settles : (l : Level) → can_settle m past l ≡ true → ⊥
  none-settles l h =
      none-open l.instance
      (first_so (is_open past l.instance) (not (has_entry past l.name))
      (first_so (is_open past l.instance && not (has_entry past l.name)) (all_known m past l.sources) h))

  abbrev is_recalling : Entry → Bool
  is_recalling (recalled k) = true
  is_recalling e = false

  none-legal : {e : Entry} → Legal gives m past e → is_recalling e ≡ false → ⊥
  none-legal (hands j a i o q) r = none-goes j i (second_so (is_some (next_ask past j)) (may_go_on m past j) o)
  none-legal (accepts j a i o q) r = true≠false (sym (ap is_some q) ∙ ap is_some (none-asks j i))
  none-legal (bounces j i c) r =
      true≠false (sym (settled j i) ∙ ready-unsettled j (first_so (is_ready m past j) (is_bounced j.ending) c))
  none-legal (closes l k i c e) r = none-settles l c
  none-legal (passes l i c e) r = none-settles l c
  none-legal (opens j i q c) r =
      none-goes j i (second_so (is_none (next_ask past j) && is_some j.opens) (may_go_on m past j) c)
  none-legal (ends n c) r = none-open n (first_so (is_open past n) _ c)
  none-legal w r = absurd (true≠false r)

  none : (e : Entry) → is_recalling e ≡ false → is_legal_after gives m past e ≡ false
  none e r = false_from_ne_true (is_legal_after gives m past e) (λ h. none-legal (legal-of gives m past e h) r)

  pub nothing-legal : (e : Entry) → is_legal_after gives m past e ≡ false
  nothing-legal (recalled k) =
      no-number k (out_count m past) (nothing-counted (λ (j : Job). is_out past j.name) m.jobs none-out)
  nothing-legal (handed_out n a t) = none (handed_out n a t) refl
  nothing-legal (accepted n a t r) = none (accepted n a t r) refl
  nothing-legal (bounced n) = none (bounced n) refl
  nothing-legal (closed n k) = none (closed n k) refl
  nothing-legal (fault_passed n) = none (fault_passed n) refl
  nothing-legal (opened n) = none (opened n) refl
  nothing-legal (ended n) = none (ended n) refl

pub nothing-at_end : NothingAtEnd
nothing-at_end gives d levels past xs stand x e shut e' =
    nothing-legal gives d past stand.legal done e'
  where
    same : stand.main.0 ≡ x
    same = same_Some stand.main.0 x (sym stand.main.1 ∙ e)

    done : is_done past ≡ true
    done =
        subst (λ n. list_any (is_ended_entry n) past ≡ true)
        (ap (λ (y : Instance). y.name) (sym same) ∙ stand.main.2.unnamed)
        (stays-so gives d levels past xs stand 0 x None e shut).ended
