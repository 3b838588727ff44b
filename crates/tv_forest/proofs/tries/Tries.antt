-- A job's next ask after a history is the first that is left of its tries.
use Rattle.std.specs.Prelude.{◌≡◌, refl, ◌<◌, List, [], ◌∷◌, Bool, true, false, Some, if◌then◌else◌}
use Rattle.std.specs.List.{list_any}
use Rattle.std.proofs.Common.{sym, ap, subst, ◌∙◌, inl, inr}
use Rattle.std.proofs.lemmas.Option.{none-some, same_Some}
use Rattle.std.proofs.lemmas.Bool.{or_parts}
use Rattle.tv_lemmas.specs.Members.{In}
use Rattle.tv_lemmas.proofs.Cases.{on_either}
use Rattle.tv_value.specs.Values.{JobName}
use Rattle.tv_gate.specs.Outcomes.{Giving}
use Rattle.tv_flow.specs.Flows.{Document, Step}
use Rattle.tv_flow.specs.Formed.{is_formed}
use Rattle.tv_dispatch.specs.Jobs.{Ask, Fate}
use Rattle.tv_dispatch.specs.declared.plan.Plan.{Plan}
use Rattle.tv_model.specs.Jobs.{Job}
use Rattle.tv_model.specs.Lists.{first_of_list, rest_of}
use Rattle.tv_model.specs.Meanings.{meaning}
use Rattle.tv_history.specs.Entries.{Entry, History, is_accepted}
use Rattle.tv_history.specs.Histories.{asks_left, next_ask}
use Rattle.tv_history.proofs.Ready.{asks_left-none, left-in}
use Rattle.tv_history.proofs.activities.Few.{activities-few}
use Rattle.tv_forest.specs.tries.Steps.{IsAskOf, IsOfPlan, IsOwnStep, IsPlanOf}
use Rattle.tv_forest.proofs.tries.Jobs.{IsTried, own-job, taken_of}
use Rattle.tv_forest.proofs.tries.Turns.{Goes, Heads, Stands, at-start, heads, plan-is, stands-on}

-- ---- what is left after a history

-- where an entry accepts no outcome of the job, as much is left as before
left-kept :
    (past : History) (e : Entry) (n : JobName) (as' : List Ask) → is_accepted n e ≡ false
    → asks_left (e ∷ past) n as' ≡ asks_left past n as'
left-kept past e n as' h = ap (λ b. if b then rest_of (asks_left past n as') else asks_left past n as') h

pub others-keep :
    (past : History) (e : Entry) (j : Job) → is_accepted j.name e ≡ false → next_ask (e ∷ past) j ≡ next_ask past j
others-keep past e j h = ap first_of_list (left-kept past e j.name j.asks h)

pub all-left :
    (past : History) (n : JobName) (as' : List Ask) → list_any (is_accepted n) past ≡ false
    → asks_left past n as' ≡ as'
all-left [] n as' h = refl
all-left (e ∷ past) n as' h =
    left-kept past e n as' (or_parts (is_accepted n e) (list_any (is_accepted n) past) h).0
    ∙ all-left past n as' (or_parts (is_accepted n e) (list_any (is_accepted n) past) h).1

first-in : (k : Ask) (l : List Ask) → first_of_list l ≡ Some k → In k l
first-in k [] h = absurd (none-some k h)
first-in k (a ∷ l) h = inl (sym (same_Some a k h))

pub few :
    (gives : Giving) (d : Document) (past : History) (j : Job) (k : Ask) → is_formed d ≡ true
    → In j (meaning gives d).jobs → next_ask past j ≡ Some k → k.activity < 8
few gives d past j k f i h = activities-few gives d f j i k (left-in past j.name j.asks k (first-in k (asks_left past j.name j.asks) h))

-- ---- a job that goes through its tries

module _ (gives : Giving) (s : Step) (j : Job) (t : IsTried gives s j) where
  abbrev end : Fate
  end = (taken_of gives s j).fate

  pub left-stands : (past : History) → Stands s j gives end (asks_left past j.name j.asks)
  left-stands [] = inr (subst (λ l. Goes s j gives end l) (sym t.asks) (at-start s j gives))
  left-stands (e ∷ past) = by (is_accepted j.name e) (left-stands past)
    where
      by :
          (b : Bool) → Stands s j gives end (asks_left past j.name j.asks)
          → Stands s j gives end (if b then rest_of (asks_left past j.name j.asks) else asks_left past j.name j.asks)
      by true h = stands-on s j gives end (asks_left past j.name j.asks) h
      by false h = h

  pub next-heads :
      (past : History) (k : Ask) → next_ask past j ≡ Some k → Heads s j gives end (asks_left past j.name j.asks) k
  next-heads past k h = heads s j gives end (asks_left past j.name j.asks) (left-stands past) k h

-- ---- a job of a meaning

module _ (gives : Giving) (d : Document) (j : Job) (s : Step) (own : IsOwnStep gives d j s) where
  -- who asks isn't bounced
  pub asks-tried : (past : History) (k : Ask) → next_ask past j ≡ Some k → IsTried gives s j
  asks-tried past k h =
      on_either (own-job gives d j s own).bounced_or
      (λ b. absurd (none-some k (sym (ap first_of_list (ap (asks_left past j.name) b.0.asks ∙ asks_left-none past j.name)) ∙ h))) (λ t. t)

  pub asks-step : (past : History) (k : Ask) → next_ask past j ≡ Some k → IsAskOf s j k.activity k.attempt k
  asks-step past k h = (next-heads gives s j (asks-tried past k h) past k h).of_step

  pub asks-plan : (past : History) (p : Plan) (k : Ask) → IsPlanOf p s → next_ask past j ≡ Some k → IsOfPlan p k
  asks-plan past p k w h = subst (λ q. IsOfPlan q k) (sym (plan-is p s w)) (next-heads gives s j (asks-tried past k h) past k h).of_plan
