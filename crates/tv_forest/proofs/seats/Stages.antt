-- Where a job stands after an entry, by what the entry is of.
use Rattle.std.specs.Prelude.{◌≡◌, refl, ℕ, [], Bool, true, false, not, ◌&&◌, ◌||◌, ◌∷◌, Option, if◌then◌else◌, is_none, is_some}
use Rattle.std.specs.List.{list_any}
use Rattle.std.specs.Option.{option_map_or}
use Rattle.std.proofs.Common.{ap, subst, sym, ◌∙◌}
use Rattle.tv_value.specs.Orders.{same_job}
use Rattle.tv_value.specs.Values.{JobName}
use Rattle.tv_dispatch.specs.Jobs.{Ask}
use Rattle.tv_model.specs.Jobs.{Job}
use Rattle.tv_model.specs.Turns.{is_bounced}
use Rattle.tv_history.specs.Entries.{Entry, History, accepted, bounced, closed, ended, fault_passed, handed_out, is_begun_entry, is_bounced_entry, is_ended_entry, is_opened_entry, is_out, opened}
use Rattle.tv_history.specs.Histories.{has_open_instance, is_ask, is_open, is_running, is_settled, next_ask}
use Rattle.tv_framing.specs.instances.InHistory.{SettlesNot}
use Rattle.tv_seats.specs.declared.stage.Stage.{Stage}
use Rattle.tv_seats.specs.declared.stage.Stage.TheVariants as stage
use Rattle.tv_forest.proofs.tries.Tries.{others-keep}
use Rattle.tv_forest.specs.seats.Seated.{GoesAs, IsNextFlow, IsNextTry, IsStage}

-- whether a job is settled: bounced, ended or without a further ask, as its ending and flow have it
abbrev settled_by : Job → Bool → Bool → Option Ask → Bool
settled_by j b e a = if is_bounced j.ending then b else (if is_some j.opens then e else is_none a)

module _ (past : History) (x : Entry) where
  -- ---- an entry that opens no flow of that name and ends none

  pub open-stays : (n : JobName) → is_opened_entry n x ≡ false → is_ended_entry n x ≡ false
      → is_open (x ∷ past) n ≡ is_open past n
  open-stays [] o e = λ i. not (e i || list_any (is_ended_entry []) past)
  open-stays (k ∷ n) o e =
      λ i.
      (o i || list_any (is_opened_entry (k ∷ n)) past) && not (e i || list_any (is_ended_entry (k ∷ n)) past)

  pub inside-stays : (j : Job) → is_opened_entry j.name x ≡ false → is_ended_entry j.name x ≡ false
      → has_open_instance (x ∷ past) j ≡ has_open_instance past j
  inside-stays j o e = ap (λ b. is_some j.opens && b) (open-stays j.name o e)

module _ (past : History) (x : Entry) (j : Job) where
  -- ---- an entry with which the job isn't settled

  module _ (n : SettlesNot x j.name) where
    next-stays : next_ask (x ∷ past) j ≡ next_ask past j
    next-stays = others-keep past x j n.accepted

    pub settled-stays : is_settled (x ∷ past) j ≡ is_settled past j
    settled-stays =
        λ i.
        settled_by j (n.bounced i || list_any (is_bounced_entry j.name) past)
        (n.ended i || list_any (is_ended_entry j.name) past) (next-stays i)

    pub next_try-stays : (a t : ℕ) → IsNextTry past j a t → IsNextTry (x ∷ past) j a t
    next_try-stays a t h = subst (λ o. option_map_or (is_ask a t) o false ≡ true) (sym next-stays) h

    next_flow-stays : (a : ℕ) → IsNextFlow past j a → IsNextFlow (x ∷ past) j a
    next_flow-stays a h = record { no_ask = next-stays ∙ h.no_ask; opens = h.opens; activity = h.activity }

  -- ---- an entry that isn't of the job

  pub record LeavesAlone : Type 0 where
    pub settles : SettlesNot x j.name
    pub begins : is_begun_entry j.name x ≡ false
    pub out : is_out (x ∷ past) j.name ≡ is_out past j.name

  opens-none : (n : JobName) (e : Entry) → is_begun_entry n e ≡ false → is_opened_entry n e ≡ false
  opens-none n (opened m) h = h
  opens-none n e h = refl

  module _ (l : LeavesAlone) where
    running-stays : is_running (x ∷ past) j ≡ is_running past j
    running-stays =
        λ i. (l.begins i || list_any (is_begun_entry j.name) past) && not (settled-stays l.settles i)

    stays-going : (running out nested : Bool) → GoesAs past j running out nested → GoesAs (x ∷ past) j running out nested
    stays-going r o n h = record {
      unsettled = settled-stays l.settles ∙ h.unsettled;
      runs = running-stays ∙ h.runs;
      is_out = l.out ∙ h.is_out;
      inside = inside-stays past x j (opens-none j.name x l.begins) l.settles.ended ∙ h.inside;
    }

    pub stage-stays : (y : Stage) → IsStage past j y → IsStage (x ∷ past) j y
    stage-stays stage.Waiting h = stays-going false false false h
    stage-stays (stage.Out a t) h = (stays-going true true false h.0, next_try-stays l.settles a t h.1)
    stage-stays (stage.Idle a t) h = (stays-going true false false h.0, next_try-stays l.settles a t h.1)
    stage-stays (stage.Aside a) h = (stays-going true false false h.0, next_flow-stays l.settles a h.1)
    stage-stays (stage.Nested i) h = stays-going true false true h
    stage-stays stage.Settled h = (settled-stays l.settles ∙ h.0, l.out ∙ h.1)

-- ---- entries of other jobs, and of none

pub nothing-settles : (n m : JobName) (a t : ℕ) → SettlesNot (handed_out m a t) n
nothing-settles n m a t = record { accepted = refl; bounced = refl; ended = refl }

pub opening-settles_none : (n m : JobName) → SettlesNot (opened m) n
opening-settles_none n m = record { accepted = refl; bounced = refl; ended = refl }

module _ (past : History) (j : Job) where
  module _ (n : JobName) (other : same_job j.name n ≡ false) where
    pub handed-out : (a t : ℕ) → LeavesAlone past (handed_out n a t) j
    handed-out a t = record {
      settles = nothing-settles j.name n a t;
      begins = other;
      out = ap (λ b. if b then true else is_out past j.name) other;
    }

    pub accepted-other : (a t : ℕ) (r : Bool) → LeavesAlone past (accepted n a t r) j
    accepted-other a t r = record {
      settles = record { accepted = other; bounced = refl; ended = refl };
      begins = refl;
      out = ap (λ b. if b then false else is_out past j.name) other;
    }

    pub bounced-other : LeavesAlone past (bounced n) j
    bounced-other = record {
      settles = record { accepted = refl; bounced = other; ended = refl };
      begins = refl;
      out = refl;
    }

    pub opened-other : LeavesAlone past (opened n) j
    opened-other = record { settles = opening-settles_none j.name n; begins = other; out = refl }

    pub ended-other : LeavesAlone past (ended n) j
    ended-other = record {
      settles = record { accepted = refl; bounced = refl; ended = other };
      begins = refl;
      out = refl;
    }

  pub closed-none : (n : JobName) (k : ℕ) → LeavesAlone past (closed n k) j
  closed-none n k = record {
    settles = record { accepted = refl; bounced = refl; ended = refl };
    begins = refl;
    out = refl;
  }

  pub passed-none : (n : JobName) → LeavesAlone past (fault_passed n) j
  passed-none n = record {
    settles = record { accepted = refl; bounced = refl; ended = refl };
    begins = refl;
    out = refl;
  }
