-- Where nothing can be settled, nothing is out and nothing is on offer, the run is done.
use Rattle.std.specs.Option.{option_map_or}
use Rattle.std.specs.Prelude.{false, nat_le, refl, true, ◌&&◌, ◌≡◌, ◌≤◌}
use Rattle.std.proofs.Common.{ap, sym, ◌∙◌}
use Rattle.std.proofs.lemmas.Bool.{leb-true}
use Rattle.std.specs.Cmp.{first_so, second_so}
use Rattle.tv_lemmas.specs.Members.{Each, In}
use Rattle.tv_lemmas.proofs.Members.{any-in, some_in}
use Rattle.tv_history.proofs.activities.Read.{named-pass}
use Rattle.tv_history.proofs.Totals.{accepted-told}
use Rattle.tv_history.proofs.Counts.{uncounted}
use Rattle.tv_lemmas.proofs.Cases.{on_test}
use Rattle.tv_gate.specs.Outcomes.{Giving}
use Rattle.tv_flow.specs.Flows.{Document, Flow, Step}
use Rattle.tv_flow.specs.Formed.{are_entries, are_named, are_names, is_given_loop, is_between, is_feed, is_flow, is_formed, is_step, is_value}
use Rattle.tv_model.specs.Jobs.{Job}
use Rattle.tv_model.proofs.Tests.{true≠false}
use Rattle.tv_history.specs.Entries as history
use Rattle.tv_history.specs.Entries.{is_out}
use Rattle.tv_history.specs.Going.{IsWellFormed, is_recall}
use Rattle.tv_history.specs.Histories.{is_ask, is_at, is_done, is_legal_after, is_offered, next_ask, same_bool}
use Rattle.tv_dispatch.specs.Plans.{came_right}
use Rattle.tv_history.proofs.Progress.{progress}
use Rattle.tv_history.proofs.Sums.{done-as_meant}
use Rattle.tv_history.proofs.Tests.{found_in}
use Rattle.tv_history.specs.Calls.{IsNothingOffered, NothingSettles}
use Rattle.tv_history.specs.Runs.{Run, meant, past_of}
use Rattle.tv_work.specs.Working.{IsFree, IsWorkedOff}
use Rattle.tv_value.proofs.JobNameLemmas.{same_job_decides}
use Rattle.tv_strategy.proofs.Each.{each-weaken}

-- every step of a document that was read has a place
places : (s : Step) → is_step s ≡ true → 1 ≤ s.jobs
places s h = leb-true 1 s.jobs (first_so (nat_le 1 s.jobs) (nat_le s.jobs 64) (second_so _ (is_between 1 64 s.jobs) (first_so _ (are_names s.after) (first_so _ (is_given_loop s.repeat) h))))

flow-places : (f : Flow) → is_flow f ≡ true → Each (λ s. 1 ≤ s.1.jobs) f.steps
flow-places f h =
    each-weaken (λ s. is_step s.1 ≡ true) (λ s. 1 ≤ s.1.jobs) (λ s. places s.1) f.steps
    (named-pass is_step 0 1000 f.steps (second_so _ (are_named is_step 0 1000 f.steps) (first_so _ (are_named is_feed 0 16 f.outputs) h)))

pub well-formed : (d : Document) → is_formed d ≡ true → IsWellFormed d
well-formed d h = record {
  places = each-weaken (λ f. is_flow f.1 ≡ true) (λ f. Each (λ s. 1 ≤ s.1.jobs) f.1.steps) (λ f. flow-places f.1) d.flows
      (named-pass is_flow 1 256 d.flows (second_so _ (are_named is_flow 1 256 d.flows) (first_so _ (are_entries is_value d.inputs) h)));
}

module _ (gives : Giving) (r : Run) (f : IsFree gives r) where
  pub none-out : (j : Job) → In j (meant gives r).jobs → is_out (past_of r) j.name ≡ false
  none-out = uncounted (λ (j : Job). is_out (past_of r) j.name) (meant gives r).jobs f.none_out

  -- nothing settles, hands out a try, or accepts one that is out
  none-next : NothingSettles gives r → IsNothingOffered gives r → (e : history.Entry) → is_legal_after gives (meant gives r) (past_of r) e ≡ true → is_recall e ≡ false → true ≡ false
  none-next quiet idle (history.handed_out n a t) l h =
      let x = found_in (λ j. is_at j n && option_map_or (is_ask a t) (next_ask (past_of r) j) false) (is_offered (meant gives r) (past_of r)) (meant gives r).jobs l in
      sym (any-in (is_offered (meant gives r) (past_of r)) x.0 (meant gives r).jobs x.1 x.2) ∙ idle
  none-next quiet idle (history.accepted n a t b) l h =
      let x = some_in (λ y. is_at y n && option_map_or (λ k. is_ask a t k && same_bool b (came_right gives k)) (next_ask (past_of r) y) false) (meant gives r).jobs (second_so (is_out (past_of r) n) _ l) in
      sym (first_so (is_out (past_of r) n) _ l) ∙ ap (is_out (past_of r)) ((same_job_decides n x.0.name).0 (first_so (is_at x.0 n) _ x.2)) ∙ none-out x.0 x.1
  none-next quiet idle (history.bounced n) l h = sym l ∙ quiet (history.bounced n) refl
  none-next quiet idle (history.closed n k) l h = sym l ∙ quiet (history.closed n k) refl
  none-next quiet idle (history.fault_passed n) l h = sym l ∙ quiet (history.fault_passed n) refl
  none-next quiet idle (history.opened n) l h = sym l ∙ quiet (history.opened n) refl
  none-next quiet idle (history.ended n) l h = sym l ∙ quiet (history.ended n) refl
  none-next quiet idle (history.recalled k) l h = h

  is-done : NothingSettles gives r → IsNothingOffered gives r → is_done (past_of r) ≡ true
  is-done quiet idle = on_test (is_done (past_of r)) (λ e. e) (λ e. let next = progress gives r.document (well-formed r.document f.formed) (past_of r) f.legal.legal e in absurd (true≠false (none-next quiet idle next.0 next.1 next.2)))

  pub worked-off : NothingSettles gives r → IsNothingOffered gives r → IsWorkedOff gives r
  worked-off quiet idle =
      let done = is-done quiet idle in
      record {
        done = done;
        none_out = f.none_out;
        attempts = sym (accepted-told r) ∙ ap (λ t. t.attempts) (done-as_meant gives r.document (past_of r) f.legal.legal done).numbers;
      }
