-- The flow of a job that opens one comes after all that it asks.
use Rattle.std.specs.Prelude.{◌≡◌, refl, ℕ, zero, suc, ◌+◌, ◌-◌, List, [], ◌∷◌, ◌++◌, drop, map, Bool, true, false, if◌then◌else◌, None, Some, is_ok, is_some, slice_get}
use Rattle.std.proofs.Common.{arith, sym, ap, subst, ◌∙◌}
use Rattle.std.proofs.lemmas.Option.{none-some, same_Some}
use Rattle.tv_lemmas.proofs.Cases.{on_either}
use Rattle.tv_value.specs.Activities.{nested}
use Rattle.tv_value.specs.Values.{JobName, Name, Text}
use Rattle.tv_gate.specs.Outcomes.{Giving}
use Rattle.tv_flow.specs.Flows.{Document, Step}
use Rattle.tv_dispatch.specs.Jobs.{Ask, Fate, opens, right, wrong}
use Rattle.tv_dispatch.specs.Plans.{PlanTurn, came_right, first_next, kind_of, next_after, next_try, turns}
use Rattle.tv_dispatch.specs.declared.plan.Kind.{Kind}
use Rattle.tv_dispatch.specs.declared.plan.Kind.TheVariants.{Nested, Service}
use Rattle.tv_dispatch.specs.declared.plan.Next.{Next}
use Rattle.tv_dispatch.specs.declared.plan.Next.TheVariants as next
use Rattle.tv_dispatch.proofs.Turns.{attempts, left-rest}
use Rattle.tv_model.specs.Jobs.{Job}
use Rattle.tv_model.specs.Lists.{first_of_list, rest_of}
use Rattle.tv_model.proofs.Tests.{true≠false}
use Rattle.tv_history.specs.Entries.{History, is_accepted}
use Rattle.tv_history.specs.Histories.{asks_left, next_ask}
use Rattle.tv_history.specs.activities.Activities.{last_activity}
use Rattle.tv_forest.specs.tries.NextTries.{FlowComesAfterAsks}
use Rattle.tv_forest.specs.tries.Stated.{FlowIsOfStep, FlowsComeAfterAsks}
use Rattle.tv_forest.specs.tries.Steps.{IsOfPlan, IsOwnStep}
use Rattle.tv_forest.proofs.tries.Jobs.{EndsBy, IsTried, own-job, taken_of}
use Rattle.tv_forest.proofs.tries.Tries.{left-stands}
use Rattle.tv_forest.proofs.tries.Turns.{Says, SaysAfter, Stands, heads, plan-is, plan_of, start-says, stands-on, was_right, was_wrong}

-- ---- the last activity of a list of asks

-- it stays with what is left, as long as something is
left-last :
    (past : History) (n : JobName) (as' : List Ask) (k : Ask) → first_of_list (asks_left past n as') ≡ Some k
    → last_activity (asks_left past n as') ≡ last_activity as'
left-last [] n as' k h = refl
left-last (e ∷ past) n as' k h = by (is_accepted n e) (asks_left past n as') h (λ x g. left-last past n as' x g)
  where
    by :
        (b : Bool) (l : List Ask) → first_of_list (if b then rest_of l else l) ≡ Some k
        → ((x : Ask) → first_of_list l ≡ Some x → last_activity l ≡ last_activity as')
        → last_activity (if b then rest_of l else l) ≡ last_activity as'
    by false l g rec = rec k g
    by true [] g rec = absurd (none-some k g)
    by true (x ∷ []) g rec = absurd (none-some k g)
    by true (x ∷ y ∷ l) g rec = rec x refl

one-last : (l : List Ask) (k : Ask) → first_of_list l ≡ Some k → rest_of l ≡ [] → last_activity l ≡ suc k.activity
one-last [] k h e = absurd (none-some k h)
one-last (a ∷ []) k h e = ap (λ (x : Ask). suc x.activity) (same_Some a k h)
one-last (a ∷ b ∷ l) k h e = absurd cc

-- ---- the activity of the flow that comes next

abbrev flow_or : ℕ → Next → ℕ
flow_or d (next.Ask a t) = d
flow_or d (next.Nest a) = a
flow_or d next.Failed = d
flow_or d next.Done = d
flow_or d next.Bounce = d

abbrev is_flow_word : Next → Bool
is_flow_word (next.Ask a t) = false
is_flow_word (next.Nest a) = true
is_flow_word next.Failed = false
is_flow_word next.Done = false
is_flow_word next.Bounce = false

no-flow : (x : Next) (a : ℕ) → is_flow_word x ≡ false → x ≡ next.Nest a → ⊥
no-flow x a f e = true≠false (sym (ap is_flow_word e) ∙ f)

turns-nest : (retries k a : ℕ) (ks : List Kind) → next_try (turns retries k ks) ≡ next.Nest a → a ≡ k
turns-nest retries k a [] e = absurd (no-flow next.Failed a refl e)
turns-nest retries k a (Service ∷ ks) e = absurd (no-flow (next.Ask k 0) a refl e)
turns-nest retries k a (Nested ∷ ks) e = sym (ap (flow_or a) e)

attempts-nest :
    (k n m a : ℕ) (us : List PlanTurn) → next_try (attempts k n m ++ us) ≡ next.Nest a → next_try us ≡ next.Nest a
attempts-nest k n zero a us e = e
attempts-nest k n (suc m) a us e = absurd (no-flow (next.Ask k n) a refl e)

first-nest : (s : Step) (a : ℕ) → first_next (plan_of s) false ≡ next.Nest a → a ≡ 0
first-nest s a e = turns-nest s.retries 0 a (map kind_of s.activities) e

-- after an ask of the plan it is the next one
after-nest :
    (s : Step) (k : Ask) (a : ℕ) → IsOfPlan (plan_of s) k
    → next_after (plan_of s) k.activity k.attempt false ≡ next.Nest a → a ≡ suc k.activity
after-nest s k a w e =
    let kinds = map kind_of s.activities in
    let c = k.activity in
    let later = turns s.retries (c + 1) (drop (c + 1) kinds) in
    turns-nest s.retries (c + 1) a (drop (c + 1) kinds)
    (attempts-nest c (k.attempt + 1) (s.retries - k.attempt) a later (sym (ap next_try (left-rest s.retries kinds c k.attempt w.is_service w.attempts)) ∙ e))
    ∙ next_number c
  where
    next_number : (c : ℕ) → c + 1 ≡ suc c
    next_number c = omega arith

-- ---- a job that opens a flow

abbrev end_or : Name → Fate → Name
end_or d (right vs) = d
end_or d (opens f) = f
end_or d (wrong why) = d

abbrev is_flow_fate : Fate → Bool
is_flow_fate (right vs) = false
is_flow_fate (opens f) = true
is_flow_fate (wrong why) = false

other-fate : (f : Name) (x : Fate) → is_flow_fate x ≡ false → opens f ≡ x → ⊥
other-fate f x h e = true≠false (ap is_flow_fate e ∙ h)

module _ (gives : Giving) (s : Step) (j : Job) (g : Name) where
  abbrev IsAt : ℕ → Type 0
  IsAt a = slice_get s.activities a ≡ Some (nested g)

  -- where nothing is asked any more, the flow is said to come next
  says-flow : (why : Text) (x : Next) → Says s j gives why (opens g) [] x → (a : ℕ) × (x ≡ next.Nest a) × IsAt a
  says-flow why (next.Ask a t) h = absurd (none-some h.0 h.1)
  says-flow why (next.Nest a) h = (a, refl, h.3 ∙ ap (λ f. Some (nested f)) (sym (ap (end_or g) h.2)))
  says-flow why next.Failed h = absurd (other-fate g (wrong why) refl h.1)
  says-flow why next.Done h = absurd h
  says-flow why next.Bounce h = absurd h

  -- an ask of which the outcome was wrong
  abbrev After : List Ask → Ask → Type 0
  After l k = (why : Text) × (came_right gives k ≡ false) × Says s j gives why (opens g) l (next_after (plan_of s) k.activity k.attempt false)

  after-ask : (l : List Ask) → Stands s j gives (opens g) l → (k : Ask) → first_of_list l ≡ Some k → IsOfPlan (plan_of s) k × After (rest_of l) k
  after-ask l w k h = let r = heads s j gives (opens g) l w k h in (r.of_plan, by (next_after (plan_of s) k.activity k.attempt (came_right gives k)) refl r.after)
    where
      by : (x : Next) → next_after (plan_of s) k.activity k.attempt (came_right gives k) ≡ x → SaysAfter s j gives (opens g) (rest_of l) k x → After (rest_of l) k
      by x q (was_right vs e f o p) = absurd (other-fate g (right vs) refl o)
      by x q (was_wrong why o p) =
          let r : came_right gives k ≡ false = ap is_ok o in
          (why, r, subst (Says s j gives why (opens g) (rest_of l)) (sym q ∙ ap (λ b. next_after (plan_of s) k.activity k.attempt b) r) p)

  -- after the last ask comes the flow
  flow-after : (l : List Ask) → Stands s j gives (opens g) l → (k : Ask) → first_of_list l ≡ Some k → IsAt (last_activity l)
  flow-after [] w k h = absurd (none-some k h)
  flow-after (b ∷ []) w k h =
      let r = after-ask (b ∷ []) w b refl in
      let f = says-flow r.1.0 (next_after (plan_of s) b.activity b.attempt false) r.1.2 in
      subst IsAt (after-nest s b f.0 r.0 f.1) f.2
  flow-after (b ∷ c ∷ l) w k h = flow-after (c ∷ l) (stands-on s j gives (opens g) (b ∷ c ∷ l) w) c refl

-- it isn't bounced, and its tries end with the flow
pub record IsOpener (gives : Giving) (s : Step) (j : Job) : Type 0 where
  pub tried : IsTried gives s j
  pub flow : Name
  pub opens_it : j.opens ≡ Some flow
  pub end : (taken_of gives s j).fate ≡ opens flow

module _ (gives : Giving) (d : Document) (j : Job) (s : Step) (own : IsOwnStep gives d j s) (opener : is_some j.opens ≡ true) where
  not-none : j.opens ≡ None → ⊥
  not-none e = true≠false (sym opener ∙ ap is_some e)

  is-opener : IsOpener gives s j
  is-opener = on_either (own-job gives d j s own).bounced_or (λ b. absurd (not-none b.0.opens)) (λ t. by t (taken_of gives s j).fate refl t.ends)
    where
      by : IsTried gives s j → (f : Fate) → (taken_of gives s j).fate ≡ f → EndsBy gives s j f → IsOpener gives s j
      by t (right vs) e h = absurd (not-none h.0)
      by t (opens f) e h = record { tried = t; flow = f; opens_it = h; end = e }
      by t (wrong why) e h = absurd (not-none h.0)

  left-opens : (past : History) → Stands s j gives (opens is-opener.flow) (asks_left past j.name j.asks)
  left-opens past = subst (λ f. Stands s j gives f (asks_left past j.name j.asks)) is-opener.end (left-stands gives s j is-opener.tried past)

  -- which flow, and where it stands in the step
  flow-of_step : slice_get s.activities (last_activity j.asks) ≡ Some (nested is-opener.flow)
  flow-of_step = by j.asks refl
    where
      g : Name
      g = is-opener.flow

      by : (l : List Ask) → j.asks ≡ l → slice_get s.activities (last_activity l) ≡ Some (nested g)
      by [] e =
          let w = subst (λ l. Says s j gives [] g_end l (first_next (plan_of s) false)) (sym is-opener.tried.asks ∙ e) says in
          let f = says-flow gives s j g [] (first_next (plan_of s) false) w in
          subst (IsAt gives s j g) (first-nest s f.0 f.1) f.2
        where
          g_end : Fate
          g_end = opens g

          says : Says s j gives [] g_end (taken_of gives s j).asks (first_next (plan_of s) false)
          says = subst (λ f. Says s j gives [] f (taken_of gives s j).asks (first_next (plan_of s) false)) is-opener.end (start-says s j gives)
      by (a ∷ l) e = flow-after gives s j g (a ∷ l) (subst (Stands s j gives (opens g)) e (left-opens [])) a refl

  after-asks : (past : History) (k : Ask) (a : ℕ) → next_ask past j ≡ Some k → next_after (plan_of s) k.activity k.attempt false ≡ next.Nest a → a ≡ last_activity j.asks
  after-asks past k a h e =
      let l = asks_left past j.name j.asks in
      let r = after-ask gives s j is-opener.flow l (left-opens past) k h in
      let none = nothing (rest_of l) r.1.0 (next_after (plan_of s) k.activity k.attempt false) r.1.2 e in
      after-nest s k a r.0 e ∙ sym (one-last l k h none) ∙ left-last past j.name j.asks k h
    where
      nothing : (l : List Ask) (why : Text) (x : Next) → Says s j gives why (opens is-opener.flow) l x → x ≡ next.Nest a → l ≡ []
      nothing l why x w q = (subst (Says s j gives why (opens is-opener.flow) l) q w).0

  first-asks : (a : ℕ) → first_next (plan_of s) false ≡ next.Nest a → a ≡ last_activity j.asks
  first-asks a e =
      first-nest s a e
      ∙ sym (ap last_activity (is-opener.tried.asks ∙ (subst (Says s j gives [] (taken_of gives s j).fate (taken_of gives s j).asks) e (start-says s j gives)).0))

  comes-after : (past : History) → FlowComesAfterAsks past j (plan_of s)
  comes-after past = record { first = first-asks; later = λ k a h e. after-asks past k a h e }

-- ---- the laws

pub flows-come_after_asks : FlowsComeAfterAsks
flows-come_after_asks gives d past j s p own w opener = subst (λ q. FlowComesAfterAsks past j q) (sym (plan-is p s w)) (comes-after gives d j s own opener past)

pub flow-is_of_step : FlowIsOfStep
flow-is_of_step gives d j s own opener =
    let o = is-opener gives d j s own opener in (o.flow, o.opens_it, flow-of_step gives d j s own opener)
