-- What a job does next, by its plan.
use Rattle.std.specs.Prelude.{◌≡◌, refl, ℕ, List, [], ◌∷◌, Bool, true, false, ◌&&◌, ◌==◌, if◌then◌else◌, Some, None, Ok, is_some, is_none}
use Rattle.std.specs.List.{list_any}
use Rattle.std.specs.Option.{option_map_or}
use Rattle.std.proofs.Common.{sym, ap, subst, ◌∙◌, eq-eqb}
use Rattle.std.proofs.lemmas.Option.{none-some}
use Rattle.tv_lemmas.specs.Members.{In}
use Rattle.tv_lemmas.proofs.Members.{any-in}
use Rattle.tv_lemmas.proofs.Cases.{on_test}
use Rattle.tv_value.specs.Orders.{same_job}
use Rattle.tv_value.specs.Values.{Name, Text}
use Rattle.tv_gate.specs.Outcomes.{Giving}
use Rattle.tv_flow.specs.Flows.{Document, Step}
use Rattle.tv_flow.specs.Formed.{is_formed}
use Rattle.tv_dispatch.specs.Jobs.{Ask, Fate, wrong}
use Rattle.tv_dispatch.specs.Plans.{came_right, first_next}
use Rattle.tv_dispatch.specs.declared.plan.Next.{Next}
use Rattle.tv_dispatch.specs.declared.plan.Next.TheVariants as next
use Rattle.tv_dispatch.specs.declared.plan.Plan.{Plan}
use Rattle.tv_model.specs.Jobs.{Job}
use Rattle.tv_model.specs.Lists.{first_of_list, rest_of}
use Rattle.tv_model.specs.Made.{Meaning}
use Rattle.tv_model.specs.Meanings.{meaning}
use Rattle.tv_model.specs.Turns.{is_bounced}
use Rattle.tv_model.proofs.Tests.{both_true, true≠false}
use Rattle.tv_history.specs.Entries.{History, is_accepted, is_bounced_entry, is_ended_entry, is_out}
use Rattle.tv_history.specs.Histories.{asks_left, is_ask, is_at, is_legal, is_legal_after, is_settled, next_ask, same_bool}
use Rattle.tv_history.proofs.Done.{settled-none}
use Rattle.tv_history.proofs.Ready.{AnyNumber, document-whole}
use Rattle.tv_history.proofs.Tests.{same-itself}
use Rattle.tv_history.proofs.activities.Read.{documents-have_activities}
use Rattle.tv_history.proofs.activities.Tried.{document-tried}
use Rattle.tv_forest.specs.tries.NextTries.{AsksNext, IsAfter, IsFirst, IsOver, IsRight, IsWrong, OpensNext, accepting, said_after}
use Rattle.tv_forest.specs.tries.Steps.{IsOwnStep, IsPlanOf}
use Rattle.tv_forest.proofs.tries.Jobs.{EndsBy, IsTried, taken_of}
use Rattle.tv_forest.proofs.tries.Tries.{all-left, asks-tried, next-heads}
use Rattle.tv_forest.proofs.tries.Turns.{Says, SaysAfter, plan-is, plan_of, start-says, was_right, was_wrong}

abbrev is_done_word : Next → Bool
is_done_word next.Done = true
is_done_word _ = false

-- ---- whether a job is settled

module _ (past : History) (j : Job) where
  abbrev SettledBy : Bool → Bool → Bool
  SettledBy b o = if b then list_any (is_bounced_entry j.name) past else (if o then list_any (is_ended_entry j.name) past else is_none (next_ask past j))

  -- who opens no flow is settled once nothing is left to ask
  settled-by_tries : is_bounced j.ending ≡ false → j.opens ≡ None → is_settled past j ≡ is_none (next_ask past j)
  settled-by_tries b o = ap (λ x. SettledBy x (is_some j.opens)) b ∙ ap (λ x. SettledBy false (is_some x)) o

  settled-by_flow :
      (f : Name) → is_bounced j.ending ≡ false → j.opens ≡ Some f
      → is_settled past j ≡ list_any (is_ended_entry j.name) past
  settled-by_flow f b o = ap (λ x. SettledBy x (is_some j.opens)) b ∙ ap (λ x. SettledBy false (is_some x)) o

module _ (gives : Giving) (d : Document) where
  abbrev m : Meaning
  m = meaning gives d

  -- who has something to ask isn't settled
  asks-unsettled :
      (past : History) → is_legal gives m past ≡ true → (j : Job) → In j m.jobs → (k : Ask)
      → next_ask past j ≡ Some k → is_settled past j ≡ false
  asks-unsettled past l j i k h =
      on_test (is_settled past j)
      (λ s. absurd (none-some k (sym (ap first_of_list (settled-none gives AnyNumber m (document-whole gives d) past l j i s)) ∙ h))) (λ s. s)

  module _ (past : History) (legal : is_legal gives m past ≡ true) (j : Job) (s : Step) (own : IsOwnStep gives d j s)
      (t : IsTried gives s j) where
    abbrev left : List Ask
    left = asks_left past j.name j.asks

    abbrev end : Fate
    end = (taken_of gives s j).fate

    -- ---- as the turns that are left say

    asks-as_said :
        (why : Text) (x : Next) → Says s j gives why end left x → (a n : ℕ) → x ≡ next.Ask a n
        → AsksNext past j s a n
    asks-as_said why x h a n e =
        let r = subst (Says s j gives why end left) e h in
        record { ask = r.0; is_next = r.1; of_step = r.2; unsettled = asks-unsettled past legal j own.listed r.0 r.1 }

    opens-as_said :
        (why : Text) (x : Next) → Says s j gives why end left x → (a : ℕ) → x ≡ next.Nest a → OpensNext past j s a
    opens-as_said why x h a e =
        let r = subst (Says s j gives why end left) e h in
        record { no_ask = ap first_of_list r.0; flow = r.1; opens = subst (EndsBy gives s j) r.2 t.ends; of_step = r.3 }

    over-by : left ≡ [] → j.opens ≡ None → IsOver past j
    over-by e o = record { no_ask = ap first_of_list e; settled = settled-by_tries past j t.tried o ∙ ap is_none (ap first_of_list e); no_flow = o }

    right-as_said : (x : Next) (k : Ask) → SaysAfter s j gives end left k x → x ≡ next.Done → IsRight gives past j k
    right-as_said x k (was_right vs e l f o) q =
        let r = subst (EndsBy gives s j) f t.ends in
        record { over = over-by l r.0; ending = r.1; result = o ∙ ap Ok (sym r.2) }
    right-as_said x k (was_wrong why o h) q = absurd (subst (Says s j gives why end left) q h)

    wrong-as_said : (x : Next) (k : Ask) → SaysAfter s j gives end left k x → x ≡ next.Failed → IsWrong gives past j s k
    wrong-as_said x k (was_right vs e l f o) q = absurd (true≠false (ap is_done_word (sym e ∙ q)))
    wrong-as_said x k (was_wrong why o h) q =
        let y = subst (Says s j gives why end left) q h in
        let r = subst (EndsBy gives s j) y.1 t.ends in
        record { over = over-by y.0 r.0; ending = r.1; why = why; reason = o; result = r.2 }

    -- ---- before any outcome

    module _ (formed : is_formed d ≡ true) (none : list_any (is_accepted j.name) past ≡ false) where
      said-first : Says s j gives [] end left (first_next (plan_of s) false)
      said-first =
          subst (λ l. Says s j gives [] end l (first_next (plan_of s) false)) (sym (all-left past j.name j.asks none ∙ t.asks))
          (start-says s j gives)

      first-of : IsFirst past j s (plan_of s)
      first-of = record {
        asks = λ a n e. asks-as_said [] (first_next (plan_of s) false) said-first a n e;
        nests = λ a e. opens-as_said [] (first_next (plan_of s) false) said-first a e;
        not_failed = λ e. nothing (subst (Says s j gives [] end left) e said-first);
        not_done = λ e. subst (Says s j gives [] end left) e said-first;
        not_bounced = λ e. subst (Says s j gives [] end left) e said-first;
      }
        where
          nothing : (left ≡ []) × (end ≡ wrong []) → ⊥
          nothing h =
              let opened = document-tried gives d (documents-have_activities d formed) j own.listed t.tried (sym (all-left past j.name j.asks none) ∙ h.0) in
              true≠false (sym opened ∙ ap is_some (subst (EndsBy gives s j) h.1 t.ends).0)

      pub first-is : (p : Plan) → IsPlanOf p s → IsFirst past j s p
      first-is p w = subst (λ q. IsFirst past j s q) (sym (plan-is p s w)) first-of

  -- ---- after an outcome

  module _ (past : History) (legal : is_legal gives m past ≡ true) (j : Job) (s : Step) (own : IsOwnStep gives d j s)
      (k : Ask) (asks : next_ask past j ≡ Some k) (out : is_out past j.name ≡ true) where
    abbrev now : History
    now = accepting gives j k ∷ past

    abbrev after : Next
    after = said_after gives (plan_of s) k

    same-right : (b : Bool) → same_bool b b ≡ true
    same-right true = refl
    same-right false = refl

    legal-next : is_legal_after gives m past (accepting gives j k) ≡ true
    legal-next =
        both_true (is_out past j.name) (list_any is_it m.jobs) out
        (any-in is_it j m.jobs own.listed
        (both_true (same_job j.name j.name) (option_map_or is_this (next_ask past j) false) (same-itself j.name)
        (ap (λ o. option_map_or is_this o false) asks ∙ this)))
      where
        is_this : Ask → Bool
        is_this a = is_ask k.activity k.attempt a && same_bool (came_right gives k) (came_right gives a)

        is_it : Job → Bool
        is_it x = is_at x j.name && option_map_or is_this (next_ask past x) false

        this : is_this k ≡ true
        this =
            both_true (is_ask k.activity k.attempt k) (same_bool (came_right gives k) (came_right gives k))
            (both_true (k.activity == k.activity) (k.attempt == k.attempt) (eq-eqb k.activity k.activity refl) (eq-eqb k.attempt k.attempt refl))
            (same-right (came_right gives k))

    legal-now : is_legal gives m now ≡ true
    legal-now = both_true (is_legal gives m past) (is_legal_after gives m past (accepting gives j k)) legal legal-next

    t : IsTried gives s j
    t = asks-tried gives d j s own past k asks

    abbrev end_now : Fate
    end_now = (taken_of gives s j).fate

    left-now : asks_left now j.name j.asks ≡ rest_of (asks_left past j.name j.asks)
    left-now = ap (λ b. if b then rest_of (asks_left past j.name j.asks) else asks_left past j.name j.asks) (same-itself j.name)

    said-after : SaysAfter s j gives end_now (asks_left now j.name j.asks) k after
    said-after = subst (λ l. SaysAfter s j gives end_now l k after) (sym left-now) (next-heads gives s j t past k asks).after

    asks-after :
        (x : Next) → SaysAfter s j gives end_now (asks_left now j.name j.asks) k x → (a n : ℕ) → x ≡ next.Ask a n
        → AsksNext now j s a n
    asks-after x (was_right vs e l f o) a n q = absurd (true≠false (ap is_done_word (sym e ∙ q)))
    asks-after x (was_wrong why o h) a n q = asks-as_said now legal-now j s own t why x h a n q

    opens-after :
        (x : Next) → SaysAfter s j gives end_now (asks_left now j.name j.asks) k x → (a : ℕ) → x ≡ next.Nest a
        → OpensNext now j s a
    opens-after x (was_right vs e l f o) a q = absurd (true≠false (ap is_done_word (sym e ∙ q)))
    opens-after x (was_wrong why o h) a q = opens-as_said now legal-now j s own t why x h a q

    -- a flow that isn't opened yet hasn't ended
    still-unsettled : (f : Name) → j.opens ≡ Some f → is_settled now j ≡ false
    still-unsettled f o =
        settled-by_flow now j f t.tried o ∙ sym (settled-by_flow past j f t.tried o)
        ∙ asks-unsettled past legal j own.listed k asks

    never-bounced : (x : Next) → SaysAfter s j gives end_now (asks_left now j.name j.asks) k x → x ≡ next.Bounce → ⊥
    never-bounced x (was_right vs e l f o) q = true≠false (ap is_done_word (sym e ∙ q))
    never-bounced x (was_wrong why o h) q = subst (Says s j gives why end_now (asks_left now j.name j.asks)) q h

    after-of : IsAfter gives d past j s (plan_of s) k
    after-of = record {
      of_step = (next-heads gives s j t past k asks).of_step;
      legal = legal-next;
      asks = λ a n e. asks-after after said-after a n e;
      nests = λ a e. opens-after after said-after a e;
      unsettled = λ a e. let r = opens-after after said-after a e in still-unsettled r.flow r.opens;
      right = λ e. right-as_said now legal-now j s own t after k said-after e;
      wrong = λ e. wrong-as_said now legal-now j s own t after k said-after e;
      not_bounced = λ e. never-bounced after said-after e;
    }

    pub after-is : (p : Plan) → IsPlanOf p s → IsAfter gives d past j s p k
    after-is p w = subst (λ q. IsAfter gives d past j s q k) (sym (plan-is p s w)) after-of
