-- Where a job stands.
use Rattle.std.specs.Prelude.{◌≡◌, ◌&&◌, ◌||◌, not, if◌then◌else◌, Bool, true, false, [], ◌∷◌, None, Some, Option, is_none, is_some, refl}
use Rattle.std.specs.List.{list_any}
use Rattle.std.specs.Option.{option_map_or}
use Rattle.std.proofs.Common.{ap, subst, sym, ◌∙◌}
use Rattle.std.proofs.lemmas.Bool.{false_from_ne_true, not-true}
use Rattle.std.specs.Cmp.{first_so, second_so}
use Rattle.tv_lemmas.specs.Members.{In}
use Rattle.tv_value.specs.Orders.{same_job}
use Rattle.tv_value.specs.Values.{Name}
use Rattle.tv_value.proofs.JobNameLemmas.{same_job_decides}
use Rattle.tv_gate.specs.Outcomes.{Giving}
use Rattle.tv_flow.specs.Flows.{Document}
use Rattle.tv_dispatch.specs.Jobs.{Ask}
use Rattle.tv_model.specs.Jobs.{Job}
use Rattle.tv_model.specs.Lists.{first_of_list, rest_of}
use Rattle.tv_model.specs.Meanings.{meaning}
use Rattle.tv_model.specs.Turns.{is_bounced}
use Rattle.tv_model.proofs.Tests.{true≠false, both_true, or_right}
use Rattle.tv_model.proofs.Turns.{or_left}
use Rattle.tv_history.specs.Entries.{Entry, History, accepted, handed_out, is_begun_entry, is_bounced_entry, is_ended_entry, is_opened_entry, is_out, recalled}
use Rattle.tv_history.specs.Histories.{asks_left, has_open_instance, is_ask, is_at, is_legal, is_legal_after, is_offered, is_open, is_running, is_settled, may_go_on, next_ask}
use Rattle.tv_history.proofs.Done.{opened-facts, settled-none}
use Rattle.tv_history.proofs.Ready.{AnyNumber, document-whole}
use Rattle.tv_history.proofs.Running.{out-begun}
use Rattle.tv_history.proofs.Stuck.{begun-tried}
use Rattle.tv_history.proofs.Tests.{found_in}
use Rattle.tv_history.proofs.First.{open-running}
use Rattle.tv_history.specs.order.offers.Stages.{Stands}
use Rattle.tv_history.proofs.offers.Runs.{jobs-of, next-legal, old-legal, same-named}

-- ---- what settles a job that isn't bounced

module _ (past : History) (j : Job) (tried : is_bounced j.ending ≡ false) where
  abbrev has_ended : Bool
  has_ended = list_any (is_ended_entry j.name) past

  tried-settled : is_settled past j ≡ (if is_some j.opens then has_ended else is_none (next_ask past j))
  tried-settled =
      ap (λ c. if c then list_any (is_bounced_entry j.name) past else (if is_some j.opens then has_ended else is_none (next_ask past j))) tried

  pub settled-is : j.opens ≡ None → is_settled past j ≡ is_none (next_ask past j)
  settled-is opens = tried-settled ∙ ap (λ o. if is_some o then has_ended else is_none (next_ask past j)) opens

  pub settled-inside : is_some j.opens ≡ true → is_settled past j ≡ list_any (is_ended_entry j.name) past
  settled-inside opens = tried-settled ∙ ap (λ b. if b then has_ended else is_none (next_ask past j)) opens

none-some : (o : Option Ask) → is_none o ≡ false → is_some o ≡ true
none-some None h = absurd (true≠false h)
none-some (Some a) h = refl

module _ (gives : Giving) (d : Document) where
  -- a job with a try out has a next ask
  pub out-next : (past : History) → is_legal gives (meaning gives d) past ≡ true → (j : Job) → In j (meaning gives d).jobs → is_out past j.name ≡ true → is_some (next_ask past j) ≡ true
  out-next [] l j i h = absurd (true≠false (sym h))
  out-next (e ∷ past) l j i h = by e (next-legal gives d past e l) h (λ g. out-next past (old-legal gives d past e l) j i g)
    where
      handed : (b o s : Bool) → (b ≡ true → s ≡ true) → (o ≡ true → s ≡ true) → (if b then true else o) ≡ true → s ≡ true
      handed true o s f g p = f refl
      handed false o s f g p = g p

      took : (b o : Bool) → (if b then false else o) ≡ true → (o ≡ true → is_some (next_ask past j) ≡ true) → is_some (first_of_list (if b then rest_of (asks_left past j.name j.asks) else asks_left past j.name j.asks)) ≡ true
      took true o p f = absurd (true≠false (sym p))
      took false o p f = f p

      by : (e : Entry) → is_legal_after gives (meaning gives d) past e ≡ true → is_out (e ∷ past) j.name ≡ true → (is_out past j.name ≡ true → is_some (next_ask past j) ≡ true) → is_some (next_ask (e ∷ past) j) ≡ true
      by (handed_out n c t) a p rec =
          let r = found_in (λ k. is_at k n && option_map_or (is_ask c t) (next_ask past k) false) (is_offered (meaning gives d) past) (meaning gives d).jobs a in
          handed (same_job j.name n) (is_out past j.name) (is_some (next_ask past j))
          (λ q.
          let name = (same_job_decides j.name n).0 q ∙ (same_job_decides n r.0.name).0 (first_so (is_at r.0 n) _ r.3) in
          subst (λ k. is_some (next_ask past k) ≡ true) (sym (same-named gives d j r.0 i r.1 ((same_job_decides j.name r.0.name).1 name)))
          (first_so (is_some (next_ask past r.0)) (may_go_on (meaning gives d) past r.0) r.2))
          rec p
      by (accepted n c t s) a p rec = took (same_job j.name n) (is_out past j.name) p rec
      by (recalled c) a p rec = absurd (true≠false (sym p))
      by e a p rec = rec p

  module _ (past : History) (l : is_legal gives (meaning gives d) past ≡ true) (j : Job) (i : In j (meaning gives d).jobs) where
    -- what was begun isn't bounced
    pub begun-unbounced : list_any (is_begun_entry j.name) past ≡ true → is_bounced j.ending ≡ false
    begun-unbounced h = begun-tried gives AnyNumber (meaning gives d) (document-whole gives d) past j i l h

    -- whose flow was opened has asked all that it asks
    pub opened-none : list_any (is_opened_entry j.name) past ≡ true → next_ask past j ≡ None
    opened-none h =
        ap (λ as'. first_of_list as') (opened-facts gives AnyNumber (meaning gives d) (document-whole gives d) past l j i h).0

    -- an open flow was opened
    pub open-opened : is_open past j.name ≡ true → list_any (is_opened_entry j.name) past ≡ true
    open-opened h =
        let c = (jobs-of gives d).has_name j i in
        let o = subst (λ n. is_open past n ≡ true) c.2 h in
        subst (λ n. list_any (is_opened_entry n) past ≡ true) (sym c.2)
        (first_so (list_any (is_opened_entry (c.0 ∷ c.1)) past) (not (list_any (is_ended_entry (c.0 ∷ c.1)) past)) o)

    pub open-none : has_open_instance past j ≡ true → next_ask past j ≡ None
    open-none h = opened-none (open-opened (second_so (is_some j.opens) (is_open past j.name) h))

    pub out-shut : is_out past j.name ≡ true → has_open_instance past j ≡ false
    out-shut o =
        false_from_ne_true (has_open_instance past j)
        (λ h. true≠false (sym (out-next past l j i o) ∙ ap is_some (open-none h)))

    -- what is out isn't settled
    out-unsettled : is_out past j.name ≡ true → is_settled past j ≡ false
    out-unsettled o =
        false_from_ne_true (is_settled past j)
        (λ s.
        let none = settled-none gives AnyNumber (meaning gives d) (document-whole gives d) past l j i s in
        true≠false (sym (out-next past l j i o) ∙ ap (λ as'. is_some (first_of_list as')) none))

    begun-of : is_running past j ≡ true → list_any (is_begun_entry j.name) past ≡ true
    begun-of r = first_so (list_any (is_begun_entry j.name) past) (not (is_settled past j)) r

    unsettled-of : is_running past j ≡ true → is_settled past j ≡ false
    unsettled-of r = not-true (is_settled past j) (second_so (list_any (is_begun_entry j.name) past) (not (is_settled past j)) r)

    next-of : is_running past j ≡ true → (is_some (next_ask past j) || is_some j.opens) ≡ true
    next-of r = by j.opens refl
      where
        by : (o : Option Name) → j.opens ≡ o → (is_some (next_ask past j) || is_some j.opens) ≡ true
        by (Some g) e = or_right (is_some (next_ask past j)) (is_some j.opens) (ap is_some e)
        by None e =
            let none = sym (settled-is past j (begun-unbounced (begun-of r)) e) ∙ unsettled-of r in
            or_left (is_some (next_ask past j)) (is_some j.opens) (none-some (next_ask past j) none)

    pub stages : Stands past j
    stages = record {
      settled = settled-is past j;
      settled_inside = settled-inside past j;
      idle = refl;
      out = λ o.
          both_true (list_any (is_begun_entry j.name) past) (not (is_settled past j)) (out-begun past j.name o)
          (ap not (out-unsettled o));
      out_next = out-next past l j i;
      out_shut = out-shut;
      open_running = open-running gives AnyNumber (meaning gives d) (document-whole gives d) past l j i;
      open_next = open-none;
      next = next-of;
      tried = λ r. begun-unbounced (begun-of r);
      unsettled = unsettled-of;
    }
