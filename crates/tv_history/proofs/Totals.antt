-- The totals of a run: what its entries tell of them, and what they are once it is done.
use Rattle.std.specs.Prelude.{◌≡◌, refl, List, Bool, true, count_by, is_some, map}
use Rattle.std.proofs.Common.{ap, ◌∙◌}
use Rattle.tv_lemmas.proofs.Counts.{count-map, count-reverse}
use Rattle.tv_value.specs.Values.{JobName}
use Rattle.tv_gate.specs.Outcomes.{Giving}
use Rattle.tv_flow.specs.Flows.{Document}
use Rattle.tv_model.specs.Totals as model
use Rattle.tv_history.specs.Entries as history
use Rattle.tv_history.specs.Histories.{is_done, is_legal, is_settled}
use Rattle.tv_history.specs.ReadOff.{accepted_name, bounced_name, read_totals}
use Rattle.tv_history.proofs.Sums.{done-as_meant}
use Rattle.tv_history.proofs.activities.Filtered.{filter-all}
use Rattle.tv_history.specs.Calls.{totals_so_far}
use Rattle.tv_history.specs.Counted.{is_acceptance, is_bounce}
use Rattle.tv_history.specs.Runs.{Run, instances_of, meant, past_of, with_names}
use Rattle.tv_history.specs.declared.entry.Entry.{Entry}
use Rattle.tv_history.specs.declared.entry.Entry.TheVariants as entry

accepts : (d : Document) (names is : List JobName) (e : Entry) → is_some (accepted_name (with_names d names is e)) ≡ is_acceptance e
accepts d names is (entry.Accepted k a t r) = refl
accepts d names is e = refl

bounces : (d : Document) (names is : List JobName) (e : Entry) → is_some (bounced_name (with_names d names is e)) ≡ is_bounce e
bounces d names is (entry.Bounced k) = refl
bounces d names is e = refl

-- in the history of a run as many entries pass as in its list
pub count-told : (p : history.Entry → Bool) (q : Entry → Bool) → ((d : Document) (names is : List JobName) (e : Entry) → p (with_names d names is e) ≡ q e) → (r : Run) → count_by p (past_of r) ≡ count_by q r.entries
count-told p q h r =
    let f = with_names r.document r.names (instances_of r.names r.entries) in
    count-reverse p (map f r.entries) ∙ count-map p f r.entries ∙ (λ i. count_by (λ e. h r.document r.names (instances_of r.names r.entries) e i) r.entries)

pub accepted-told : (r : Run) → count_by (λ e. is_some (accepted_name e)) (past_of r) ≡ count_by is_acceptance r.entries
accepted-told = count-told (λ e. is_some (accepted_name e)) is_acceptance accepts

pub bounced-told : (r : Run) → count_by (λ e. is_some (bounced_name e)) (past_of r) ≡ count_by is_bounce r.entries
bounced-told = count-told (λ e. is_some (bounced_name e)) is_bounce bounces

-- where the run is done, the totals so far are those of the meaning
pub totals-done : (gives : Giving) (r : Run) → is_legal gives (meant gives r) (past_of r) ≡ true → is_done (past_of r) ≡ true → totals_so_far gives r ≡ model.totals (meant gives r).jobs
totals-done gives r l done =
    let h = done-as_meant gives r.document (past_of r) l done in
    ap (read_totals (past_of r)) (filter-all (is_settled (past_of r)) (meant gives r).jobs h.settled) ∙ h.numbers
