-- The laws of what is on offer: where a job is, and that the first may be handed out.
use Rattle.std.specs.Prelude.{◌≡◌, ◌&&◌, ◌||◌, not, Bool, true, false, ℕ, List, Some, None, count_by, find, is_some, nat_lt}
use Rattle.std.specs.List.{list_any}
use Rattle.std.specs.Option.{option_map_or}
use Rattle.tv_lemmas.specs.Members.{In}
use Rattle.tv_value.specs.Values.{JobName}
use Rattle.tv_gate.specs.Outcomes.{Giving}
use Rattle.tv_flow.specs.Flows.{Document}
use Rattle.tv_model.specs.Jobs.{Job}
use Rattle.tv_model.specs.Meanings.{meaning}
use Rattle.tv_model.specs.Turns.{is_bounced}
use Rattle.tv_history.specs.Entries.{History, handed_out}
use Rattle.tv_history.specs.Histories.{has_place, is_ask, is_idle, is_legal_after, is_ready, is_running, next_ask}
use Rattle.tv_model.specs.JobOrder.{Apart}
use Rattle.tv_history.specs.order.Moments.{all_jobs, has_offer, is_beside, IsJob}

-- a job is offered exactly where it has an ask and is idle, or ready, unbounced and with a free place
abbrev pub OfferedByStage : Type 0
OfferedByStage =
    (gives : Giving) (d : Document) (past : History) (j : Job)
    → has_offer gives d past j
    ≡ (
    is_some (next_ask past j)
    && (
    is_idle past j
    || (
    is_ready (meaning gives d) past j
    && not (is_bounced j.ending)
    && has_place (meaning gives d) past j
    )
    )
    )

-- a place is free where fewer jobs of the step run in its instance than may
abbrev pub PlacesByStep : Type 0
PlacesByStep =
    (gives : Giving) (d : Document) (past : History) (j : Job)
    → has_place (meaning gives d) past j
    ≡ nat_lt (count_by (λ k. is_beside j k && is_running past k) (all_jobs gives d)) j.limit

-- jobs are counted by their names, of which some are left out that don't count
abbrev pub CountedByNames : Type 0
CountedByNames =
    (gives : Giving) (d : Document)
    → (counts : Job → Bool) (counts_name : JobName → Bool) (names : List JobName)
    → Apart (λ n. n) names
    → ((n : JobName) → In n names → (j : Job) × IsJob gives d j × (j.name ≡ n))
    → ((j : Job) → IsJob gives d j → counts j ≡ true → In j.name names)
    → ((j : Job) → IsJob gives d j → counts_name j.name ≡ counts j)
    → count_by counts (all_jobs gives d) ≡ count_by counts_name names

-- the next try of the job that is offered first may be handed out
abbrev pub HandingOutIsLegal : Type 0
HandingOutIsLegal =
    (gives : Giving) (d : Document) (past : History) (j : Job) (a t : ℕ)
    → find (has_offer gives d past) (all_jobs gives d) ≡ Some j
    → option_map_or (is_ask a t) (next_ask past j) false ≡ true
    → is_legal_after gives (meaning gives d) past (handed_out j.name a t) ≡ true

-- nothing may be handed out where no job is offered
pub record OffersNothing (gives : Giving) (d : Document) (past : History) : Type 0 where
  pub none : list_any (has_offer gives d past) (all_jobs gives d) ≡ false
  pub not_found : find (has_offer gives d past) (all_jobs gives d) ≡ None
  pub illegal :
      (n : JobName) (a t : ℕ)
      → is_legal_after gives (meaning gives d) past (handed_out n a t) ≡ false

abbrev pub NothingOffered : Type 0
NothingOffered =
    (gives : Giving) (d : Document) (past : History)
    → ((j : Job) → IsJob gives d j → has_offer gives d past j ≡ false)
    → OffersNothing gives d past
