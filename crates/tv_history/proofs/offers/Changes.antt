-- How an entry changes where jobs stand.
use Rattle.std.specs.Prelude.{◌≡◌, ◌≢◌, ◌&&◌, ◌||◌, not, if◌then◌else◌, Bool, true, false, ℕ, [], ◌∷◌, None, Some, Option, is_none, is_some, refl}
use Rattle.std.specs.List.{list_any}
use Rattle.std.specs.Option.{option_map_or}
use Rattle.std.proofs.Common.{ap, ap₂, subst, sym, ◌∙◌}
use Rattle.std.proofs.lemmas.Bool.{false_from_ne_true}
use Rattle.std.specs.Cmp.{first_so, second_so}
use Rattle.std.proofs.Math.Bool.{and-false}
use Rattle.tv_lemmas.specs.Members.{In}
use Rattle.tv_lemmas.proofs.Members.{some_in}
use Rattle.tv_value.specs.Orders.{same_job}
use Rattle.tv_value.specs.Values.{JobName}
use Rattle.tv_value.proofs.JobNameLemmas.{same_job_decides}
use Rattle.tv_gate.specs.Outcomes.{Giving}
use Rattle.tv_flow.specs.Flows.{Document}
use Rattle.tv_dispatch.specs.Jobs.{Ask}
use Rattle.tv_model.specs.Jobs.{Job}
use Rattle.tv_model.specs.Lists.{first_of_list, rest_of}
use Rattle.tv_model.specs.Made.{Meaning}
use Rattle.tv_model.specs.Meanings.{meaning}
use Rattle.tv_model.specs.Turns.{is_bounced}
use Rattle.tv_model.proofs.Tests.{true≠false, both_true}
use Rattle.tv_model.proofs.Turns.{or_left}
use Rattle.tv_history.specs.Entries.{Entry, History, accepted, bounced, closed, ended, fault_passed, handed_out, is_accepted, is_begun_entry, is_bounced_entry, is_ended_entry, is_opened_entry, is_out, opened, recalled}
use Rattle.tv_history.specs.Histories.{asks_left, can_bounce, can_open, can_settle_more, has_open_instance, is_ask, is_at, is_legal, is_offered, is_open, is_ready, is_running, is_settled, may_go_on, next_ask, same_bool}
use Rattle.tv_dispatch.specs.Plans.{came_right}
use Rattle.tv_history.proofs.Done.{opened-facts}
use Rattle.tv_history.proofs.Ready.{AnyNumber, all-sound, document-whole}
use Rattle.tv_history.proofs.Running.{instance-begun, out-begun}
use Rattle.tv_history.proofs.Tests.{found_in}
use Rattle.tv_history.proofs.First.{opener-waits}
use Rattle.tv_history.specs.order.offers.Changes.{HasBounced, HasEndedNow, IsAccepted, IsCalledBack, IsHandedOut, IsOpenedNow, StandsAsBefore, speaks_of_no_job}
use Rattle.tv_history.proofs.offers.Runs.{jobs-of, next-legal, old-legal, other-named, same-named, unsettled}
use Rattle.tv_history.proofs.offers.Stages.{begun-unbounced, open-opened, out-next, out-shut, settled-inside, settled-is, stages}

-- an instance that an entry neither opens nor ends is open where it was
open-as_before : (past : History) (e : Entry) (n : JobName) → is_opened_entry n e ≡ false → is_ended_entry n e ≡ false
    → is_open (e ∷ past) n ≡ is_open past n
open-as_before past e [] opens ends = ap (λ b. not (b || list_any (is_ended_entry []) past)) ends
open-as_before past e (c ∷ n) opens ends =
    ap₂ (λ a b. (a || list_any (is_opened_entry (c ∷ n)) past) && not (b || list_any (is_ended_entry (c ∷ n)) past)) opens ends

-- a job of which the entry doesn't speak
module _ (past : History) (e : Entry) (k : Job) where
  pub stands-by : is_begun_entry k.name e ≡ false → is_accepted k.name e ≡ false → is_bounced_entry k.name e ≡ false
      → is_opened_entry k.name e ≡ false → is_ended_entry k.name e ≡ false
      → is_out (e ∷ past) k.name ≡ is_out past k.name → StandsAsBefore past (e ∷ past) k
  stands-by begun taken bounces opens ends out = record {
    running = running;
    out = out;
    settled = settled;
    nested = nested;
    idle = λ z. running z && not (out z) && not (nested z);
    next = next;
  }
    where
      next : next_ask (e ∷ past) k ≡ next_ask past k
      next = ap (λ b. first_of_list (if b then rest_of (asks_left past k.name k.asks) else asks_left past k.name k.asks)) taken

      settled : is_settled (e ∷ past) k ≡ is_settled past k
      settled = λ z.
          if is_bounced k.ending then bounces z || list_any (is_bounced_entry k.name) past
          else (if is_some k.opens then ends z || list_any (is_ended_entry k.name) past else is_none (next z))

      running : is_running (e ∷ past) k ≡ is_running past k
      running = λ z. (begun z || list_any (is_begun_entry k.name) past) && not (settled z)

      nested : has_open_instance (e ∷ past) k ≡ has_open_instance past k
      nested = ap (λ b. is_some k.opens && b) (open-as_before past e k.name opens ends)

if-both : (p q : Ask → Bool) (o : Option Ask) → option_map_or (λ a. p a && q a) o false ≡ true → option_map_or p o false ≡ true
if-both p q None h = h
if-both p q (Some a) h = first_so (p a) (q a) h

none-is : (o : Option Ask) → is_none o ≡ true → o ≡ None
none-is None h = refl
none-is (Some a) h = absurd (true≠false (sym h))

module _ (gives : Giving) (d : Document) (past : History) (j : Job) (i : In j (meaning gives d).jobs) where
  abbrev m : Meaning
  m = meaning gives d

  abbrev IsNext : Entry → Type 0
  IsNext e = is_legal gives m (e ∷ past) ≡ true

  itself : same_job j.name j.name ≡ true
  itself = (same_job_decides j.name j.name).1 refl

  -- the job of that name
  is-it : (k : Job) → In k m.jobs → is_at k j.name ≡ true → k ≡ j
  is-it k h e = sym (same-named gives d j k i h e)

  other : (k : Job) → In k m.jobs → k ≢ j → same_job k.name j.name ≡ false
  other k h ne = other-named gives d k j h i ne

  pub handing : (a t : ℕ) → IsNext (handed_out j.name a t) → IsHandedOut a t gives d past j
  handing a t l =
      let found = found_in (λ k. is_at k j.name && option_map_or (is_ask a t) (next_ask past k) false) (is_offered m past) m.jobs (next-legal gives d past (handed_out j.name a t) l) in
      let same = is-it found.0 found.1 (first_so (is_at found.0 j.name) _ found.3) in
      let offered : is_offered m past j ≡ true = subst (λ k. is_offered m past k ≡ true) same found.2 in
      let left : is_settled past j ≡ false = unsettled m past j (second_so (is_some (next_ask past j)) (may_go_on m past j) offered) in
      let out : is_out (handed_out j.name a t ∷ past) j.name ≡ true = ap (λ b. if b then true else is_out past j.name) itself in
      record {
        running =
            both_true (same_job j.name j.name || list_any (is_begun_entry j.name) past) (not (is_settled past j))
            (or_left (same_job j.name j.name) (list_any (is_begun_entry j.name) past) itself) (ap not left);
        out = out;
        settled = left;
        shut = out-shut gives d (handed_out j.name a t ∷ past) l j i out;
        next = refl;
        asked = subst (λ k. option_map_or (is_ask a t) (next_ask past k) false ≡ true) same (second_so (is_at found.0 j.name) _ found.3);
        others = λ k h ne.
            stands-by past (handed_out j.name a t) k (other k h ne) refl refl refl refl
            (ap (λ b. if b then true else is_out past k.name) (other k h ne));
      }

  pub accepting : (a t : ℕ) (r : Bool) → IsNext (accepted j.name a t r) → IsAccepted a t r gives d past j
  accepting a t r l =
      let legal = next-legal gives d past (accepted j.name a t r) l in
      let old = old-legal gives d past (accepted j.name a t r) l in
      let was : is_out past j.name ≡ true = first_so (is_out past j.name) _ legal in
      let found = some_in (λ k. is_at k j.name && option_map_or (λ x. is_ask a t x && same_bool r (came_right gives x)) (next_ask past k) false) m.jobs (second_so (is_out past j.name) _ legal) in
      let same = is-it found.0 found.1 (first_so (is_at found.0 j.name) _ found.2) in
      let begun = out-begun past j.name was in
      let tried = begun-unbounced gives d past old j i begun in
      let stood = stages gives d past old j i in
      record {
        was_out = was;
        asked =
            subst (λ k. option_map_or (is_ask a t) (next_ask past k) false ≡ true) same
            (if-both (is_ask a t) (λ x. same_bool r (came_right gives x)) (next_ask past found.0) (second_so (is_at found.0 j.name) _ found.2));
        out = ap (λ b. if b then false else is_out past j.name) itself;
        shut = ap (λ b. is_some j.opens && b) (open-as_before past (accepted j.name a t r) j.name refl refl) ∙ stood.out_shut was;
        next = ap (λ b. first_of_list (if b then rest_of (asks_left past j.name j.asks) else asks_left past j.name j.asks)) itself;
        settled = settled-is (accepted j.name a t r ∷ past) j tried;
        unsettled = λ o.
            settled-inside (accepted j.name a t r ∷ past) j tried o ∙ sym (settled-inside past j tried o)
            ∙ stood.unsettled (stood.out was);
        running = ap (λ b. b && not (is_settled (accepted j.name a t r ∷ past) j)) begun;
        others = λ k h ne.
            stands-by past (accepted j.name a t r) k refl (other k h ne) refl refl refl
            (ap (λ b. if b then false else is_out past k.name) (other k h ne));
      }

  pub bouncing : IsNext (bounced j.name) → HasBounced gives d past j
  bouncing l =
      let found = some_in (λ k. is_at k j.name && can_bounce m past k) m.jobs (next-legal gives d past (bounced j.name) l) in
      let old = old-legal gives d past (bounced j.name) l in
      let same = is-it found.0 found.1 (first_so (is_at found.0 j.name) _ found.2) in
      let bounces : is_bounced j.ending ≡ true =
      subst (λ (k : Job). is_bounced k.ending ≡ true) same
      (second_so (is_ready m past found.0) (is_bounced found.0.ending) (second_so (is_at found.0 j.name) (can_bounce m past found.0) found.2))
      in
      let settled : is_settled (bounced j.name ∷ past) j ≡ true =
      ap (λ b. if b then list_any (is_bounced_entry j.name) (bounced j.name ∷ past) else (if is_some j.opens then list_any (is_ended_entry j.name) (bounced j.name ∷ past) else is_none (next_ask (bounced j.name ∷ past) j))) bounces
      ∙ or_left (same_job j.name j.name) (list_any (is_bounced_entry j.name) past) itself
      in
      let unbegun : list_any (is_begun_entry j.name) past ≡ true → ⊥ =
      λ b. true≠false (sym bounces ∙ begun-unbounced gives d past old j i b)
      in
      record {
        settled = settled;
        running = ap (λ b. list_any (is_begun_entry j.name) past && not b) settled ∙ and-false (list_any (is_begun_entry j.name) past);
        out = false_from_ne_true (is_out past j.name) (λ o. unbegun (out-begun past j.name o));
        shut =
            ap (λ b. is_some j.opens && b) (open-as_before past (bounced j.name) j.name refl refl)
            ∙ false_from_ne_true (has_open_instance past j)
            (λ h. unbegun (instance-begun gives m (all-sound gives AnyNumber m [] (document-whole gives d)) (jobs-of gives d) past j i h));
        others = λ k h ne. stands-by past (bounced j.name) k refl refl (other k h ne) refl refl refl;
      }

  pub opening : IsNext (opened j.name) → IsOpenedNow gives d past j
  opening l =
      let old = old-legal gives d past (opened j.name) l in
      let found = found_in (λ k. is_at k j.name && can_open m past k) (λ k. is_offered m past k || can_open m past k) m.jobs (second_so (not (can_settle_more m past)) _ (next-legal gives d past (opened j.name) l)) in
      let same = is-it found.0 found.1 (first_so (is_at found.0 j.name) (can_open m past found.0) found.3) in
      let can : can_open m past j ≡ true =
      subst (λ k. can_open m past k ≡ true) same (second_so (is_at found.0 j.name) (can_open m past found.0) found.3)
      in
      let has : (is_none (next_ask past j) && is_some j.opens) ≡ true =
      first_so (is_none (next_ask past j) && is_some j.opens) (may_go_on m past j) can
      in
      let goes : may_go_on m past j ≡ true = second_so (is_none (next_ask past j) && is_some j.opens) (may_go_on m past j) can in
      let opens : is_some j.opens ≡ true = second_so (is_none (next_ask past j)) (is_some j.opens) has in
      let asked = none-is (next_ask past j) (first_so (is_none (next_ask past j)) (is_some j.opens) has) in
      let left : is_settled past j ≡ false = unsettled m past j goes in
      let begun : list_any (is_begun_entry j.name) (opened j.name ∷ past) ≡ true =
      or_left (same_job j.name j.name) (list_any (is_begun_entry j.name) past) itself
      in
      let tried = begun-unbounced gives d (opened j.name ∷ past) l j i begun in
      let unended : list_any (is_ended_entry j.name) past ≡ false = sym (settled-inside past j tried opens) ∙ left in
      record {
        asked = asked;
        was_shut =
            false_from_ne_true (has_open_instance past j)
            (λ h. true≠false (sym goes ∙ opener-waits gives AnyNumber m (document-whole gives d) past old j i h));
        running = both_true (list_any (is_begun_entry j.name) (opened j.name ∷ past)) (not (is_settled past j)) begun (ap not left);
        out =
            false_from_ne_true (is_out past j.name)
            (λ o. true≠false (sym (out-next gives d past old j i o) ∙ ap is_some asked));
        settled = left;
        opened_now = both_true (is_some j.opens) (is_open (opened j.name ∷ past) j.name) opens (now-open unended);
        others = λ k h ne. stands-by past (opened j.name) k (other k h ne) refl refl (other k h ne) refl refl;
      }
    where
      now-open : list_any (is_ended_entry j.name) past ≡ false → is_open (opened j.name ∷ past) j.name ≡ true
      now-open unended =
          let c = (jobs-of gives d).has_name j i in
          let name = c.0 ∷ c.1 in
          subst (λ n. is_open (opened n ∷ past) n ≡ true) (sym c.2)
          (both_true (same_job name name || list_any (is_opened_entry name) past) (not (list_any (is_ended_entry name) past))
          (or_left (same_job name name) (list_any (is_opened_entry name) past) ((same_job_decides name name).1 refl))
          (ap not (subst (λ n. list_any (is_ended_entry n) past ≡ false) c.2 unended)))

  pub ending : IsNext (ended j.name) → HasEndedNow gives d past j
  ending l =
      let old = old-legal gives d past (ended j.name) l in
      let is_now_open : is_open past j.name ≡ true = first_so (is_open past j.name) _ (next-legal gives d past (ended j.name) l) in
      let opened_then = open-opened gives d past old j i is_now_open in
      let opens = (opened-facts gives AnyNumber m (document-whole gives d) past old j i opened_then).1 in
      let was : has_open_instance past j ≡ true = both_true (is_some j.opens) (is_open past j.name) opens is_now_open in
      let stood = stages gives d past old j i in
      let tried = stood.tried (stood.open_running was) in
      let settled : is_settled (ended j.name ∷ past) j ≡ true =
      settled-inside (ended j.name ∷ past) j tried opens
      ∙ or_left (same_job j.name j.name) (list_any (is_ended_entry j.name) past) itself
      in
      record {
        was_open = was;
        running = ap (λ b. list_any (is_begun_entry j.name) past && not b) settled ∙ and-false (list_any (is_begun_entry j.name) past);
        out = false_from_ne_true (is_out past j.name) (λ o. true≠false (sym was ∙ stood.out_shut o));
        settled = settled;
        shut = ap (λ b. is_some j.opens && b) now-shut ∙ and-false (is_some j.opens);
        others = λ k h ne. stands-by past (ended j.name) k refl refl refl refl (other k h ne) refl;
      }
    where
      now-shut : is_open (ended j.name ∷ past) j.name ≡ false
      now-shut =
          let c = (jobs-of gives d).has_name j i in
          let name = c.0 ∷ c.1 in
          subst (λ n. is_open (ended n ∷ past) n ≡ false) (sym c.2)
          (ap (λ b. list_any (is_opened_entry name) past && not (b || list_any (is_ended_entry name) past)) ((same_job_decides name name).1 refl)
          ∙ and-false (list_any (is_opened_entry name) past))

  pub recalling : (n : ℕ) → IsCalledBack past (recalled n ∷ past) j
  recalling n = record {
    out = refl;
    running = refl;
    settled = refl;
    nested = ap (λ b. is_some j.opens && b) (open-as_before past (recalled n) j.name refl refl);
    next = refl;
  }

  -- a job's name isn't that of the main instance
  pub not-main : same_job j.name [] ≡ false
  not-main = let c = (jobs-of gives d).has_name j i in subst (λ n. same_job n [] ≡ false) (sym c.2) refl

  pub settling : (e : Entry) → speaks_of_no_job e ≡ true → StandsAsBefore past (e ∷ past) j
  settling (closed n k) h = stands-by past (closed n k) j refl refl refl refl refl refl
  settling (fault_passed n) h = stands-by past (fault_passed n) j refl refl refl refl refl refl
  settling (ended []) h = stands-by past (ended []) j refl refl refl refl not-main refl
  settling (ended (c ∷ n)) h = absurd (true≠false (sym h))
  settling (handed_out n a t) h = absurd (true≠false (sym h))
  settling (accepted n a t r) h = absurd (true≠false (sym h))
  settling (bounced n) h = absurd (true≠false (sym h))
  settling (opened n) h = absurd (true≠false (sym h))
  settling (recalled n) h = absurd (true≠false (sym h))
