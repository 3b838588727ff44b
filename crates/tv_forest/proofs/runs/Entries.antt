-- A view after one entry more.
use Rattle.std.specs.Prelude.{◌≡◌, refl, ℕ, List, [], ◌∷◌, Bool, true, false, not, ◌||◌}
use Rattle.std.specs.List.{list_any}
use Rattle.std.proofs.Common.{ap, ap₂, subst, sym, ◌∙◌}
use Rattle.std.specs.Cmp.{first_so, second_so}
use Rattle.std.specs.Cmp.Derive.{one_truth}
use Rattle.tv_lemmas.specs.Members.{In}
use Rattle.tv_lemmas.proofs.Cases.{on_test}
use Rattle.tv_value.specs.Nested.{Place}
use Rattle.tv_value.specs.Orders.{same_job}
use Rattle.tv_value.specs.Values.{JobName, Name, Value}
use Rattle.tv_value.proofs.JobNameLemmas.{same_job_decides}
use Rattle.tv_gate.specs.Outcomes.{Giving}
use Rattle.tv_flow.specs.Flows.{Document, Flow}
use Rattle.tv_model.specs.instance.Steps.{spot}
use Rattle.tv_model.specs.instance.Events as events
use Rattle.tv_model.specs.instance.Events.{Event, Events, Extends, fault_set, is_taken, took}
use Rattle.tv_model.specs.Agreeing.{NestsWithin, StepsNest}
use Rattle.tv_model.specs.Jobs.{Job}
use Rattle.tv_model.specs.Made.{Meaning}
use Rattle.tv_model.specs.Meanings.{meaning}
use Rattle.tv_model.proofs.Sound.{spot-step}
use Rattle.tv_model.proofs.Tests.{both_true, or_right}
use Rattle.tv_history.specs.Entries.{Entry, History, accepted, closed, fault_passed, handed_out, is_begun_entry, is_ended_entry, is_level_entry, is_opened_entry, opened, recalled}
use Rattle.tv_history.specs.Histories.{has_entry, is_open, is_settled, is_settled_name}
use Rattle.tv_history.proofs.Needs.{stays_settled}
use Rattle.tv_history.proofs.Ready.{AnyNumber, all-sound, are-jobs}
use Rattle.tv_history.proofs.Stuck.{settled-name}
use Rattle.tv_history.proofs.Running.{settled_of_name}
use Rattle.tv_history.specs.order.Parts.{IsInstance, made_of}
use Rattle.tv_history.proofs.Documents.{any-whole}
use Rattle.tv_framing.specs.instances.InHistory.{IsPartOf, SettlesNot, StaysSettled, TellsNothing}
use Rattle.tv_framing.specs.instances.OwnResults.{results_of}
use Rattle.tv_framing.proofs.instances.History.{entries-are_events, others-stay_settled, recalled-is_none}
use Rattle.tv_framing.specs.Views.{View}
use Rattle.tv_forest.specs.views.InRun.{IsViewOf}
use Rattle.tv_forest.specs.runs.Stated.{ClosingGoesOn, FirstTryGoesOn, IsEvent, LaterOpeningTellsNothing, NextTryGoesOn, OpeningGoesOn, OtherTriesTellNothing, PassingGoesOn, RecallsTellNothing}

-- ---- open instances

-- what doesn't end the instance leaves it open
stays-open : (past : History) (x : Entry) (I : JobName) → is_ended_entry I x ≡ false → is_open past I ≡ true → is_open (x ∷ past) I ≡ true
stays-open past x [] e h = ap (λ b. not (b || list_any (is_ended_entry []) past)) e ∙ h
stays-open past x (k ∷ n) e h =
    let opened = list_any (is_opened_entry (k ∷ n)) past in
    let ended = list_any (is_ended_entry (k ∷ n)) past in
    both_true (is_opened_entry (k ∷ n) x || opened) (not (is_ended_entry (k ∷ n) x || ended))
    (or_right (is_opened_entry (k ∷ n) x) opened (first_so opened (not ended) h))
    (ap (λ b. not (b || ended)) e ∙ second_so opened (not ended) h)

-- ---- jobs by name

-- a job is settled by its name where it is
pub by-name : (gives : Giving) (d : Document) (past : History) (j : Job) → In j (meaning gives d).jobs → is_settled_name (meaning gives d) past j.name ≡ is_settled past j
by-name gives d past j i =
    let m = meaning gives d in
    let w = any-whole gives d in
    one_truth (is_settled_name m past j.name) (is_settled past j)
    (settled_of_name gives m (all-sound gives AnyNumber m [] w) (are-jobs gives AnyNumber m [] w) past j i)
    (settled-name gives AnyNumber m w past j i)

-- ---- a view and its instance

module _ (gives : Giving) (d : Document) (past : History) (I : JobName) (v : View) (r : IsViewOf gives d past I v) where
  abbrev m : Meaning
  m = meaning gives d

  -- the instance of this flow on these inputs, and that its jobs gave what these events say
  abbrev Is : Flow → List (Name × Value) → Type 0
  Is g vs = IsInstance gives d.flows m I r.levels g vs

  abbrev Gave : Flow → List (Name × Value) → Events → Type 0
  Gave g vs es = Extends (results_of I (made_of gives d.flows r.levels g I vs)) es

  -- after an entry it is of every view of the same flow on the same inputs with the events that the entry leaves
  later :
      (x : Entry) → is_open (x ∷ past) I ≡ true
      → (es : Events) → IsPartOf m (x ∷ past) I es → Gave v.flow v.inputs es
      → (w : View) → w.flow ≡ v.flow → w.inputs ≡ v.inputs → w.events ≡ es
      → IsViewOf gives d (x ∷ past) I w
  later x now es told gave w f i e = record {
    levels = r.levels;
    part = subst (λ vs. Is w.flow vs) (sym i) (subst (λ g. Is g v.inputs) (sym f) r.part);
    nests = subst (λ (g : Flow). StepsNest (NestsWithin d.flows r.levels) g.steps) (sym f) r.nests;
    is_open = now;
    told = subst (λ l. IsPartOf m (x ∷ past) I l) (sym e) told;
    gave =
        subst (λ vs. Gave w.flow vs w.events) (sym i)
        (subst (λ g. Gave g v.inputs w.events) (sym f) (subst (λ l. Gave v.flow v.inputs l) (sym e) gave));
  }

  -- an entry that is an event
  pub is-event :
      (x : Entry) (e : Event) → is_open (x ∷ past) I ≡ true
      → IsPartOf m (x ∷ past) I (e ∷ v.events) → Gave v.flow v.inputs (e ∷ v.events)
      → IsEvent gives d past I v x e
  is-event x e now told gave w f = later x now (e ∷ v.events) told gave w f.flow f.inputs f.events

  -- and one that tells nothing
  pub is-none : (x : Entry) → is_ended_entry I x ≡ false → TellsNothing m past x I → IsViewOf gives d (x ∷ past) I v
  is-none x e h = later x (stays-open past x I e r.is_open) v.events ((entries-are_events gives m past I v.events r.told).stays x h) r.gave v refl refl refl

  -- ---- tries

  -- a try of a job that is taken, or the opening of its flow
  begun-again :
      (s : Name) (q : Place) → is_taken v.events s q ≡ true → (x : Entry) → ((n : JobName) → SettlesNot x n)
      → ((n : JobName) → is_level_entry n x ≡ false) → ((n : JobName) → is_begun_entry n x ≡ same_job n (spot I s q))
      → IsPartOf m (x ∷ past) I v.events
  begun-again s q h x settles level begins = record {
    results = λ u p. others-stay_settled gives m past x (spot I u p) (settles (spot I u p)) ∙ r.told.results u p;
    levels = λ u p. ap (λ b. b || has_entry past (spot I u p)) (level (spot I u p)) ∙ r.told.levels u p;
    taken = λ u p. ap (λ b. b || begun u p) (begins (spot I u p)) ∙ on_test (same_job (spot I u p) (spot I s q)) (λ e. itself u p e) (λ e. ap (λ b. b || begun u p) e ∙ r.told.taken u p);
  }
    where
      begun : Name → Place → Bool
      begun u p = list_any (is_begun_entry (spot I u p)) past

      itself : (u : Name) (p : Place) → same_job (spot I u p) (spot I s q) ≡ true → (same_job (spot I u p) (spot I s q) || begun u p) ≡ is_taken v.events u p
      itself u p e =
          let z = spot-step I u s p q ((same_job_decides (spot I u p) (spot I s q)).0 e) in
          ap (λ b. b || begun u p) e ∙ sym (ap₂ (λ n o. is_taken v.events n o) z.0 z.1 ∙ h)

  -- ---- outcomes

  -- an outcome with which its job isn't settled settles none
  other-try : (j : Job) → In j m.jobs → (a t : ℕ) (b : Bool) → is_settled (accepted j.name a t b ∷ past) j ≡ false → TellsNothing m past (accepted j.name a t b) I
  other-try j i a t b h = record {
    jobs = λ s q. on_test (same_job (spot I s q) j.name) (λ e. itself s q e) (λ e. another s q e);
    rest = record { levels = λ s q. refl; begins = λ s q. refl };
  }
    where
      x : Entry
      x = accepted j.name a t b

      before : is_settled past j ≡ false
      before = on_test (is_settled past j) (λ g. g ∙ sym (stays_settled gives m x past j g) ∙ h) (λ g. g)

      another : (s : Name) (q : Place) → same_job (spot I s q) j.name ≡ false → StaysSettled m past x (spot I s q)
      another s q e =
          others-stay_settled gives m past x (spot I s q) (record { accepted = e; bounced = refl; ended = refl })

      itself : (s : Name) (q : Place) → same_job (spot I s q) j.name ≡ true → StaysSettled m past x (spot I s q)
      itself s q e = subst (λ n. StaysSettled m past x n) (sym ((same_job_decides (spot I s q) j.name).0 e)) (by-name gives d (x ∷ past) j i ∙ h ∙ sym (by-name gives d past j i ∙ before))

-- ---- the laws

pub closing-goes_on : ClosingGoesOn
closing-goes_on gives d past I v r s q n =
    let x = closed (spot I s q) n in
    let told = (entries-are_events gives (meaning gives d) past I v.events r.told).closed s q n in
    is-event gives d past I v r x (events.closed s q n) (stays-open past x I refl r.is_open) told r.gave

pub passing-goes_on : PassingGoesOn
passing-goes_on gives d past I v r s q e =
    let x = fault_passed (spot I s q) in
    let told = (entries-are_events gives (meaning gives d) past I v.events r.told).passed s q e in
    is-event gives d past I v r x (fault_set s q e) (stays-open past x I refl r.is_open) told r.gave

pub first_try-goes_on : FirstTryGoesOn
first_try-goes_on gives d past I v r s q a t =
    let x = handed_out (spot I s q) a t in
    let told = (entries-are_events gives (meaning gives d) past I v.events r.told).handed_out s q a t in
    is-event gives d past I v r x (took s q) (stays-open past x I refl r.is_open) told r.gave

pub opening-goes_on : OpeningGoesOn
opening-goes_on gives d past I v r s q =
    let x = opened (spot I s q) in
    let told = (entries-are_events gives (meaning gives d) past I v.events r.told).opened s q in
    is-event gives d past I v r x (took s q) (stays-open past x I refl r.is_open) told r.gave

pub next_try-goes_on : NextTryGoesOn
next_try-goes_on gives d past I v r s q h a t =
    let x = handed_out (spot I s q) a t in
    let told = begun-again gives d past I v r s q h x (λ n. record { accepted = refl; bounced = refl; ended = refl }) (λ n. refl) (λ n. refl) in
    later gives d past I v r x (stays-open past x I refl r.is_open) v.events told r.gave v refl refl refl

pub later_opening-tells_nothing : LaterOpeningTellsNothing
later_opening-tells_nothing gives d past I v r s q h =
    let x = opened (spot I s q) in
    let told = begun-again gives d past I v r s q h x (λ n. record { accepted = refl; bounced = refl; ended = refl }) (λ n. refl) (λ n. refl) in
    later gives d past I v r x (stays-open past x I refl r.is_open) v.events told r.gave v refl refl refl

pub other_tries-tell_nothing : OtherTriesTellNothing
other_tries-tell_nothing gives d past I v r j i a t b h = is-none gives d past I v r (accepted j.name a t b) refl (other-try gives d past I v r j i a t b h)

pub recalls-tell_nothing : RecallsTellNothing
recalls-tell_nothing gives d past I v r k = is-none gives d past I v r (recalled k) refl (recalled-is_none gives (meaning gives d) past I k)
