-- What the meaning offers reads no closing.
use Rattle.std.specs.Prelude.{◌≡◌, refl, ℕ, ◌∷◌, [], Bool, true, false, not, ◌&&◌, ◌||◌, List, is_none, is_some, if◌then◌else◌, find, count_by, nat_lt}
use Rattle.std.specs.List.{list_all, list_any}
use Rattle.std.specs.Option.{option_map_or}
use Rattle.std.proofs.Common.{sym, ap, ◌∙◌}
use Rattle.std.proofs.Math.Path.{fun_ext}
use Rattle.tv_value.specs.Orders.{same_job, same_name}
use Rattle.tv_value.specs.Values.{JobName}
use Rattle.tv_dispatch.specs.Jobs.{Ask}
use Rattle.tv_model.specs.Jobs.{Job, job_needs}
use Rattle.tv_model.specs.Lists.{first_of_list, rest_of}
use Rattle.tv_model.specs.Made.{Meaning}
use Rattle.tv_model.specs.Turns.{is_bounced}
use Rattle.tv_history.specs.Entries.{Entry, History, accepted, bounced, closed, ended, fault_passed, handed_out, is_begun_entry, is_bounced_entry, is_ended_entry, is_opened_entry, is_out, opened, recalled}
use Rattle.tv_history.specs.Histories.{asks_left, has_open_instance, has_place, is_offered_by_meaning, is_open, is_running, is_settled, is_settled_name, next_ask}
use Rattle.tv_history.specs.order.Closings.{OffersReadNoClosing, without_closings}

-- ---- what is read of the entries alone

asks : (past : History) (n : JobName) (as' : List Ask) → asks_left (without_closings past) n as' ≡ asks_left past n as'
asks [] n as' = refl
asks (accepted k a t r ∷ past) n as' = ap (λ l. if same_job n k then rest_of l else l) (asks past n as')
asks (e ∷ past) n as' = asks past n as'

outs : (past : History) (n : JobName) → is_out (without_closings past) n ≡ is_out past n
outs [] n = refl
outs (handed_out k a t ∷ past) n = ap (λ b. if same_job n k then true else b) (outs past n)
outs (accepted k a t r ∷ past) n = ap (λ b. if same_job n k then false else b) (outs past n)
outs (recalled c ∷ past) n = refl
outs (e ∷ past) n = outs past n

-- a test that no closing passes
module _ (p : Entry → Bool) (no_list : (k : JobName) (c : ℕ) → p (closed k c) ≡ false) (no_fault : (k : JobName) → p (fault_passed k) ≡ false) where
  any : (past : History) → list_any p (without_closings past) ≡ list_any p past
  any [] = refl
  any (closed k c ∷ past) = any past ∙ sym (ap (λ b. b || list_any p past) (no_list k c))
  any (fault_passed k ∷ past) = any past ∙ sym (ap (λ b. b || list_any p past) (no_fault k))
  any (handed_out k a t ∷ past) = ap (λ b. p (handed_out k a t) || b) (any past)
  any (accepted k a t r ∷ past) = ap (λ b. p (accepted k a t r) || b) (any past)
  any (bounced k ∷ past) = ap (λ b. p (bounced k) || b) (any past)
  any (opened k ∷ past) = ap (λ b. p (opened k) || b) (any past)
  any (ended k ∷ past) = ap (λ b. p (ended k) || b) (any past)
  any (recalled c ∷ past) = ap (λ b. p (recalled c) || b) (any past)

-- ---- what is read of them by the meaning

module _ (m : Meaning) (past : History) where
  abbrev less : History
  less = without_closings past

  asked : (j : Job) → next_ask less j ≡ next_ask past j
  asked j = ap first_of_list (asks past j.name j.asks)

  ended-same : (n : JobName) → list_any (is_ended_entry n) less ≡ list_any (is_ended_entry n) past
  ended-same n = any (is_ended_entry n) (λ k c. refl) (λ k. refl) past

  settled : is_settled less ≡ is_settled past
  settled = fun_ext (λ j. by j)
    where
      by : (j : Job) → is_settled less j ≡ is_settled past j
      by j =
          ap (λ a. if is_bounced j.ending then a else (if is_some j.opens then list_any (is_ended_entry j.name) less else is_none (next_ask less j))) (any (is_bounced_entry j.name) (λ k c. refl) (λ k. refl) past)
          ∙ ap (λ b. if is_bounced j.ending then list_any (is_bounced_entry j.name) past else (if is_some j.opens then b else is_none (next_ask less j))) (ended-same j.name)
          ∙ ap (λ o. if is_bounced j.ending then list_any (is_bounced_entry j.name) past else (if is_some j.opens then list_any (is_ended_entry j.name) past else is_none o)) (asked j)

  settled-names : is_settled_name m less ≡ is_settled_name m past
  settled-names = fun_ext (λ n. ap (λ f. option_map_or f (find (λ j. same_job n j.name) m.jobs) false) settled)

  opens : (n : JobName) → is_open less n ≡ is_open past n
  opens [] = ap not (ended-same [])
  opens (k ∷ n) =
      ap (λ a. a && not (list_any (is_ended_entry (k ∷ n)) less)) (any (is_opened_entry (k ∷ n)) (λ l c. refl) (λ l. refl) past)
      ∙ ap (λ b. list_any (is_opened_entry (k ∷ n)) past && not b) (ended-same (k ∷ n))

  running : is_running less ≡ is_running past
  running = fun_ext (λ j. ap (λ a. a && not (is_settled less j)) (any (is_begun_entry j.name) (λ k c. refl) (λ k. refl) past) ∙ ap (λ f. list_any (is_begun_entry j.name) past && not (f j)) settled)

  place : (j : Job) → has_place m less j ≡ has_place m past j
  place j = ap (λ f. nat_lt (count_by (λ k. same_job k.instance j.instance && same_name k.step j.step && f k) m.jobs) j.limit) running

  pub offers-same : (j : Job) → is_offered_by_meaning m less j ≡ is_offered_by_meaning m past j
  offers-same j =
      ap (λ o. is_some o && is_open less j.instance && not (is_settled less j) && not (is_out less j.name) && not (has_open_instance less j) && list_all (is_settled_name m less) (job_needs j) && (is_running less j || has_place m less j)) (asked j)
      ∙ ap (λ b. is_some (next_ask past j) && b && not (is_settled less j) && not (is_out less j.name) && not (has_open_instance less j) && list_all (is_settled_name m less) (job_needs j) && (is_running less j || has_place m less j)) (opens j.instance)
      ∙ ap (λ f. is_some (next_ask past j) && is_open past j.instance && not (f j) && not (is_out less j.name) && not (has_open_instance less j) && list_all (is_settled_name m less) (job_needs j) && (is_running less j || has_place m less j)) settled
      ∙ ap (λ b. is_some (next_ask past j) && is_open past j.instance && not (is_settled past j) && not b && not (has_open_instance less j) && list_all (is_settled_name m less) (job_needs j) && (is_running less j || has_place m less j)) (outs past j.name)
      ∙ ap (λ b. is_some (next_ask past j) && is_open past j.instance && not (is_settled past j) && not (is_out past j.name) && not (is_some j.opens && b) && list_all (is_settled_name m less) (job_needs j) && (is_running less j || has_place m less j)) (opens j.name)
      ∙ ap (λ f. is_some (next_ask past j) && is_open past j.instance && not (is_settled past j) && not (is_out past j.name) && not (has_open_instance past j) && list_all f (job_needs j) && (is_running less j || has_place m less j)) settled-names
      ∙ ap (λ f. is_some (next_ask past j) && is_open past j.instance && not (is_settled past j) && not (is_out past j.name) && not (has_open_instance past j) && list_all (is_settled_name m past) (job_needs j) && (f j || has_place m less j)) running
      ∙ ap (λ b. is_some (next_ask past j) && is_open past j.instance && not (is_settled past j) && not (is_out past j.name) && not (has_open_instance past j) && list_all (is_settled_name m past) (job_needs j) && (is_running past j || b)) (place j)

pub no-closing : OffersReadNoClosing
no-closing gives m past j = offers-same m past j
