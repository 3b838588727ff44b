-- The instance that a job opens, as it starts.
use Rattle.std.specs.Prelude.{◌≡◌, refl, ℕ, List, [], ◌∷◌, Bool, true, false, not, ◌&&◌, is_some, map}
use Rattle.std.specs.List.{list_any}
use Rattle.std.proofs.Common.{ap, subst, sym, ◌∙◌}
use Rattle.std.proofs.lemmas.Bool.{false_from_ne_true, not-true}
use Rattle.std.specs.Cmp.{first_so, second_so}
use Rattle.std.proofs.lemmas.Simd.{map-map}
use Rattle.tv_lemmas.specs.Members.{In}
use Rattle.tv_lemmas.proofs.Cases.{on_either}
use Rattle.tv_value.specs.Nested.{Place}
use Rattle.tv_value.specs.Orders.{same_job}
use Rattle.tv_value.specs.Values.{JobName, Name}
use Rattle.tv_value.proofs.JobNameLemmas.{same_job_decides}
use Rattle.tv_gate.specs.Outcomes.{Giving}
use Rattle.tv_flow.specs.Flows.{Document, StepInput}
use Rattle.tv_flow.specs.Formed.{is_formed}
use Rattle.tv_strategy.specs.Origins.{Traced, plain}
use Rattle.tv_model.specs.instance.Steps.{spot}
use Rattle.tv_model.specs.instance.Events.{Extends}
use Rattle.tv_model.specs.Jobs.{Job}
use Rattle.tv_model.specs.Made.{Meaning}
use Rattle.tv_model.specs.Meanings.{meaning}
use Rattle.tv_model.specs.RightDepths.{HaveTheseDepths}
use Rattle.tv_model.proofs.Members.{not-longer}
use Rattle.tv_model.proofs.Tests.{both_true, true≠false}
use Rattle.tv_model.proofs.Turns.{or_left}
use Rattle.tv_model.proofs.Whole.{AnyNumber, IsWhole}
use Rattle.tv_model.proofs.Results.{plain-depth}
use Rattle.tv_history.specs.Entries.{History, is_begun_entry, is_ended_entry, is_out, opened}
use Rattle.tv_history.specs.Histories.{all_known, has_open_instance, is_legal, is_legal_after, is_open, is_running, is_settled, may_go_on}
use Rattle.tv_history.proofs.Legal.{legal-of}
use Rattle.tv_history.proofs.Ready.{all-sound, are-jobs}
use Rattle.tv_history.proofs.Running.{begins, going_on, idle_begun}
use Rattle.tv_history.proofs.Tests.{same-itself}
use Rattle.tv_history.proofs.AcceptedDocuments.{accepted-agrees}
use Rattle.tv_history.specs.order.Parts.{made_of}
use Rattle.tv_history.proofs.Documents.{any-whole}
use Rattle.tv_framing.specs.instances.InHistory.{IsPartOf}
use Rattle.tv_framing.specs.instances.OwnResults.{results_of}
use Rattle.tv_framing.proofs.instances.History.{entries-are_events, others-stay_settled}
use Rattle.tv_forest.proofs.views.Opened.{opened-part, opens-flow}
use Rattle.tv_forest.specs.runs.Stated.{OpenedFit, OpenedStarts}
use Rattle.tv_forest.proofs.runs.Settled.{settled-by_end}
use Rattle.tv_forest.proofs.runs.Untold.{opened-begun, untold, was_opened}

-- ---- where the flow of a job may be opened, it wasn't

module _ (gives : Giving) (d : Document) (past : History) (j : Job) (i : In j (meaning gives d).jobs)
    (legal : is_legal gives (meaning gives d) (opened j.name ∷ past) ≡ true) (opener : is_some j.opens ≡ true) where
  abbrev m : Meaning
  m = meaning gives d

  whole : IsWhole gives AnyNumber m []
  whole = any-whole gives d

  old : is_legal gives m past ≡ true
  old = first_so (is_legal gives m past) (is_legal_after gives m past (opened j.name)) legal

  goes : may_go_on m past j ≡ true
  goes =
      begins gives m (all-sound gives AnyNumber m [] whole) (are-jobs gives AnyNumber m [] whole) past j i
      (legal-of gives m past (opened j.name) (second_so (is_legal gives m past) (is_legal_after gives m past (opened j.name)) legal))
      (same-itself j.name)

  abbrev begun : Bool
  begun = list_any (is_begun_entry j.name) past

  abbrev ended_now : Bool
  ended_now = list_any (is_ended_entry j.name) past

  -- it isn't settled, and where it was begun its flow isn't open
  unsettled : is_settled past j ≡ false
  unsettled =
      on_either (going_on gives m (all-sound gives AnyNumber m [] whole) (are-jobs gives AnyNumber m [] whole) past j goes)
      (λ h. (idle_begun gives m (all-sound gives AnyNumber m [] whole) (are-jobs gives AnyNumber m [] whole) past j h).1)
      (λ h.
      let there = is_open past j.instance && not (is_running past j) in
      not-true (is_settled past j) (second_so there (not (is_settled past j)) (first_so (there && not (is_settled past j)) (all_known m past j.waits) h)))

  not-ended : ended_now ≡ false
  not-ended = sym (settled-by_end gives d j i opener past) ∙ unsettled

  not-inside : begun ≡ true → has_open_instance past j ≡ false
  not-inside b =
      on_either (going_on gives m (all-sound gives AnyNumber m [] whole) (are-jobs gives AnyNumber m [] whole) past j goes)
      (λ h. not-true (has_open_instance past j) (second_so (is_running past j && not (is_out past j.name)) (not (has_open_instance past j)) h))
      (λ h.
      let there = is_open past j.instance in
      let idle = second_so there (not (is_running past j)) (first_so (there && not (is_running past j)) (not (is_settled past j)) (first_so (there && not (is_running past j) && not (is_settled past j)) (all_known m past j.waits) h)) in
      absurd (true≠false (sym (both_true begun (not (is_settled past j)) b (ap not unsettled)) ∙ not-true (is_running past j) idle)))

  module _ (c : Name × Place) (r : JobName) (named : j.name ≡ c ∷ r) where
    -- the instance of that name is open where it was opened and hasn't ended
    opens-it : (now : History) → was_opened now j.name ≡ true → list_any (is_ended_entry j.name) now ≡ false → is_open now j.name ≡ true
    opens-it now h e =
        subst (λ n. is_open now n ≡ true) (sym named)
        (both_true (was_opened now (c ∷ r)) (not (list_any (is_ended_entry (c ∷ r)) now)) (subst (λ n. was_opened now n ≡ true) named h)
        (ap not (subst (λ n. list_any (is_ended_entry n) now ≡ false) named e)))

    not-opened : was_opened past j.name ≡ false
    not-opened =
        false_from_ne_true (was_opened past j.name)
        (λ h. true≠false (sym (both_true (is_some j.opens) (is_open past j.name) opener (opens-it past h not-ended)) ∙ not-inside (opened-begun past j.name h)))

    open-now : is_open (opened j.name ∷ past) j.name ≡ true
    open-now = opens-it (opened j.name ∷ past) (or_left (same_job j.name j.name) (was_opened past j.name) (same-itself j.name)) not-ended

    told-nothing : is_formed d ≡ true → IsPartOf m (opened j.name ∷ past) j.name []
    told-nothing formed =
        (entries-are_events gives m past j.name [] (untold gives d j.name c r named formed past old not-opened)).stays (opened j.name)
        (record {
          jobs = λ s q. others-stay_settled gives m past (opened j.name) (spot j.name s q) (record { accepted = refl; bounced = refl; ended = refl });
          rest = record { levels = λ s q. refl; begins = λ s q. longer s q };
        })
      where
        longer : (s : Name) (q : Place) → same_job (spot j.name s q) j.name ≡ false
        longer s q = false_from_ne_true (same_job (spot j.name s q) j.name) (λ h. not-longer j.name (s, q) [] (sym ((same_job_decides (spot j.name s q) j.name).0 h)))

-- ---- values without their origins

plain-depths : (ds : List ℕ) (vs : List Traced) → HaveTheseDepths ds vs → HaveTheseDepths ds (map plain vs)
plain-depths [] [] h = tt
plain-depths [] (v ∷ vs) h = absurd h
plain-depths (k ∷ ds) [] h = absurd h
plain-depths (k ∷ ds) (v ∷ vs) h = (plain-depth v k h.0, plain-depths ds vs h.1)

-- ---- the laws

pub opened-starts : OpenedStarts
opened-starts gives d past j v formed accepted i legal w =
    let m = meaning gives d in
    let o = opened-part gives d formed accepted j i v w.of_job in
    let named = (are-jobs gives AnyNumber m [] (any-whole gives d)).has_name j i in
    let opener = ap is_some w.of_job.opens in
    record {
      levels = o.levels;
      part = o.part;
      nests = o.nests;
      is_open = open-now gives d past j i legal opener named.0 named.1 named.2;
      told = subst (λ es. IsPartOf m (opened j.name ∷ past) j.name es) (sym w.untold) (told-nothing gives d past j i legal opener named.0 named.1 named.2 formed);
      gave = subst (λ es. Extends (results_of j.name (made_of gives d.flows o.levels v.flow j.name v.inputs)) es) (sym w.untold) tt;
    }

pub opened-fit : OpenedFit
opened-fit gives d j g formed accepted i q =
    let o = opens-flow gives d formed accepted j i g q in
    let depths = ap (λ xs. map (λ (x : Name × ℕ). x.1) xs) o.agrees.inputs ∙ map-map (λ (x : Name × ℕ). x.1) (λ (s : Name × StepInput). (s.0, s.1.depth)) o.step.inputs in
    record {
      flow = o.agrees.flow;
      is_flow = o.agrees.is_flow;
      agrees = (accepted-agrees d formed accepted).flows g o.agrees.flow o.agrees.is_flow;
      right = subst (λ ds. HaveTheseDepths ds (map plain j.inputs)) (sym depths) (plain-depths (map (λ s. s.1.depth) o.step.inputs) j.inputs o.inputs);
    }
