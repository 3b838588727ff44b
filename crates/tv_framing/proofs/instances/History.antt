-- How an entry of a history becomes an event of an instance, or none.
use Rattle.std.specs.Prelude.{◌≡◌, refl, ℕ, List, [], ◌∷◌, Bool, true, false, cond, ◌||◌, Some, find, is_none, is_some, if◌then◌else◌}
use Rattle.std.specs.List.{list_any}
use Rattle.std.specs.Option.{option_map_or}
use Rattle.std.specs.Cmp.Lexicographic.{bytes_decides}
use Rattle.std.proofs.Common.{sym, ap, ap₂, subst, ◌∙◌}
use Rattle.std.proofs.lemmas.Bool.{and_parts}
use Rattle.tv_value.specs.Nested.{Place}
use Rattle.tv_value.specs.Orders.{same_job, same_name}
use Rattle.tv_value.specs.Values.{ErrorDoc, JobName, Name, Value}
use Rattle.tv_value.proofs.JobNameLemmas.{same_job_decides}
use Rattle.tv_model.specs.instance.Steps.{spot}
use Rattle.tv_model.specs.Jobs.{Job}
use Rattle.tv_model.specs.Lists.{first_of_list, rest_of}
use Rattle.tv_model.specs.Made.{Meaning}
use Rattle.tv_model.specs.Turns.{is_bounced}
use Rattle.tv_history.specs.Entries.{Entry, History, closed, fault_passed, handed_out, is_accepted, is_begun_entry, is_bounced_entry, is_ended_entry, opened, recalled}
use Rattle.tv_history.specs.Histories.{asks_left, has_entry, is_settled, is_settled_name}
use Rattle.tv_model.specs.instance.Events as events
use Rattle.tv_model.specs.instance.Events.{Events, fault_set, gave, has_level, has_result, is_spot, is_taken, took}
use Rattle.tv_framing.specs.instances.InHistory.{IsPartOf, Settles, SettlesNot, StaysSettled, TellsNothing}
use Rattle.tv_framing.specs.instances.Stated.{EntriesAreEvents, OthersStaySettled, RecalledIsNone}
use Rattle.tv_framing.proofs.instances.Events.{spot-test}

-- ---- a job that an entry doesn't settle stays as it was

module _ (m : Meaning) (past : History) (e : Entry) where
  settled-same : (j : Job) → SettlesNot e j.name → is_settled (e ∷ past) j ≡ is_settled past j
  settled-same j h =
      ap₂ (λ a b. if is_bounced j.ending then a else b) (ap (λ b. b || list_any (is_bounced_entry j.name) past) h.bounced)
      (ap₂ (λ a b. if is_some j.opens then a else b) (ap (λ b. b || list_any (is_ended_entry j.name) past) h.ended) (ap (λ b. is_none (first_of_list (if b then rest_of (asks_left past j.name j.asks) else asks_left past j.name j.asks))) h.accepted))

  unmoved : (n : JobName) → SettlesNot e n → StaysSettled m past e n
  unmoved n h = go m.jobs
    where
      go : (js : List Job) → option_map_or (is_settled (e ∷ past)) (find (λ (j : Job). same_job n j.name) js) false ≡ option_map_or (is_settled past) (find (λ (j : Job). same_job n j.name) js) false
      go [] = refl
      go (j ∷ js) = by (same_job n j.name) refl (go js)
        where
          by : (b : Bool) → same_job n j.name ≡ b → option_map_or (is_settled (e ∷ past)) (find (λ (j : Job). same_job n j.name) js) false ≡ option_map_or (is_settled past) (find (λ (j : Job). same_job n j.name) js) false → option_map_or (is_settled (e ∷ past)) (cond b (Some j) (find (λ (j : Job). same_job n j.name) js)) false ≡ option_map_or (is_settled past) (cond b (Some j) (find (λ (j : Job). same_job n j.name) js)) false
          by true g rec = settled-same j (subst (SettlesNot e) ((same_job_decides n j.name).0 g) h)
          by false g rec = rec

pub others-stay_settled : OthersStaySettled
others-stay_settled gives m past e n h = unmoved m past e n h

-- ---- entries of no job

none-settle : (m : Meaning) (past : History) (e : Entry) (instance : JobName) → ((n : JobName) → is_accepted n e ≡ false) → ((n : JobName) → is_bounced_entry n e ≡ false) → ((n : JobName) → is_ended_entry n e ≡ false) → (s : Name) (q : Place) → StaysSettled m past e (spot instance s q)
none-settle m past e instance a b c s q =
    let n = spot instance s q in
    unmoved m past e n (record { accepted = a n; bounced = b n; ended = c n })

pub recalled-is_none : RecalledIsNone
recalled-is_none gives m past instance k = record {
  jobs = none-settle m past (recalled k) instance (λ n. refl) (λ n. refl) (λ n. refl);
  rest = record { levels = λ s q. refl; begins = λ s q. refl };
}

-- ---- the events after an entry

part-stays : (m : Meaning) (past : History) (instance : JobName) (es : Events) (e : Entry) → IsPartOf m past instance es → TellsNothing m past e instance → IsPartOf m (e ∷ past) instance es
part-stays m past instance es e part h = record {
  results = λ s q. h.jobs s q ∙ part.results s q;
  levels = λ s q. ap (λ b. b || has_entry past (spot instance s q)) (h.rest.levels s q) ∙ part.levels s q;
  taken = λ s q. ap (λ b. b || list_any (is_begun_entry (spot instance s q)) past) (h.rest.begins s q) ∙ part.taken s q;
}

-- what the history says of a list, a fault or a taken job once an entry at this place came
now-there : (instance : JobName) (s t : Name) (q r : Place) (a b : Bool) → a ≡ b → (same_job (spot instance t r) (spot instance s q) || a) ≡ (is_spot t r s q || b)
now-there instance s t q r a b e = ap₂ (λ x y. x || y) (sym (spot-test instance t s r q)) e

closed-is_event : (m : Meaning) (past : History) (instance : JobName) (es : Events) → IsPartOf m past instance es → (s : Name) (q : Place) (n : ℕ) → IsPartOf m (closed (spot instance s q) n ∷ past) instance (events.closed s q n ∷ es)
closed-is_event m past instance es part s q n = record {
  results = λ t r. none-settle m past (closed (spot instance s q) n) instance (λ k. refl) (λ k. refl) (λ k. refl) t r ∙ part.results t r;
  levels = λ t r. now-there instance s t q r (has_entry past (spot instance t r)) (has_level es t r) (part.levels t r);
  taken = λ t r. part.taken t r;
}

passed-is_event : (m : Meaning) (past : History) (instance : JobName) (es : Events) → IsPartOf m past instance es → (s : Name) (q : Place) (d : ErrorDoc) → IsPartOf m (fault_passed (spot instance s q) ∷ past) instance (fault_set s q d ∷ es)
passed-is_event m past instance es part s q d = record {
  results = λ t r. none-settle m past (fault_passed (spot instance s q)) instance (λ k. refl) (λ k. refl) (λ k. refl) t r ∙ part.results t r;
  levels = λ t r. now-there instance s t q r (has_entry past (spot instance t r)) (has_level es t r) (part.levels t r);
  taken = λ t r. part.taken t r;
}

handed_out-is_event : (m : Meaning) (past : History) (instance : JobName) (es : Events) → IsPartOf m past instance es → (s : Name) (q : Place) (a t : ℕ) → IsPartOf m (handed_out (spot instance s q) a t ∷ past) instance (took s q ∷ es)
handed_out-is_event m past instance es part s q a b = record {
  results = λ t r. none-settle m past (handed_out (spot instance s q) a b) instance (λ k. refl) (λ k. refl) (λ k. refl) t r ∙ part.results t r;
  levels = λ t r. part.levels t r;
  taken = λ t r. now-there instance s t q r (list_any (is_begun_entry (spot instance t r)) past) (is_taken es t r) (part.taken t r);
}

opened-is_event : (m : Meaning) (past : History) (instance : JobName) (es : Events) → IsPartOf m past instance es → (s : Name) (q : Place) → IsPartOf m (opened (spot instance s q) ∷ past) instance (took s q ∷ es)
opened-is_event m past instance es part s q = record {
  results = λ t r. none-settle m past (opened (spot instance s q)) instance (λ k. refl) (λ k. refl) (λ k. refl) t r ∙ part.results t r;
  levels = λ t r. part.levels t r;
  taken = λ t r. now-there instance s t q r (list_any (is_begun_entry (spot instance t r)) past) (is_taken es t r) (part.taken t r);
}

spot-same : (s t : Name) (q r : Place) → is_spot s q t r ≡ true → (s ≡ t) × (q ≡ r)
spot-same s t q r h =
    let p = and_parts (same_name s t) (same_name q r) h in
    ((bytes_decides s t).0 p.0, (bytes_decides q r).0 p.1)

settled-is_event : (m : Meaning) (past : History) (instance : JobName) (es : Events) → IsPartOf m past instance es → (e : Entry) (s : Name) (q : Place) (vs : List Value) → Settles m past e instance s q → IsPartOf m (e ∷ past) instance (gave s q vs ∷ es)
settled-is_event m past instance es part e s q vs h = record {
  results = λ t r. given t r (is_spot t r s q) refl;
  levels = λ t r. ap (λ b. b || has_entry past (spot instance t r)) (h.rest.levels t r) ∙ part.levels t r;
  taken = λ t r. ap (λ b. b || list_any (is_begun_entry (spot instance t r)) past) (h.rest.begins t r) ∙ part.taken t r;
}
  where
    given : (t : Name) (r : Place) (b : Bool) → is_spot t r s q ≡ b → is_settled_name m (e ∷ past) (spot instance t r) ≡ (is_spot t r s q || has_result es t r)
    given t r true k =
        let x = spot-same t s r q k in
        ap₂ (λ a b. is_settled_name m (e ∷ past) (spot instance a b)) x.0 x.1 ∙ h.now ∙ sym (ap (λ b. b || has_result es t r) k)
    given t r false k = h.others t r k ∙ part.results t r ∙ sym (ap (λ b. b || has_result es t r) k)

pub entries-are_events : EntriesAreEvents
entries-are_events gives m past instance es part = record {
  stays = λ e h. part-stays m past instance es e part h;
  closed = λ s q n. closed-is_event m past instance es part s q n;
  passed = λ s q d. passed-is_event m past instance es part s q d;
  handed_out = λ s q a t. handed_out-is_event m past instance es part s q a t;
  opened = λ s q. opened-is_event m past instance es part s q;
  settled = λ e s q vs h. settled-is_event m past instance es part e s q vs h;
}
