-- The depths that a step sees when it is taken by rank are those that it sees once all steps are taken.
use Rattle.std.specs.Prelude.{◌≡◌, refl, ℕ, ◌-◌, ◌≤◌, List, [], ◌∷◌, ◌++◌, flat_map, false, ◌||◌, None}
use Rattle.std.proofs.Common.{arith, sym, ap, subst, ◌∙◌, append-nil}
use Rattle.std.proofs.lemmas.Bool.{or_parts}
use Rattle.tv_lemmas.specs.Members.{Each}
use Rattle.tv_lemmas.proofs.Members.{get-in, in_each}
use Rattle.tv_value.specs.Values.{Name}
use Rattle.tv_flow.specs.Flows.{Feed, Step, StepInput}
use Rattle.tv_model.specs.instance.CheckedDepths.{StepDepths, feed_depth, port_depth, step_depths, steps_depths}
use Rattle.tv_model.specs.instance.Ranks.{earlier_steps, feed_steps, is_among}
use Rattle.tv_model.proofs.Ranks.{IsOrdered, feeds-none, port-stays}
use Rattle.tv_value.specs.Orders.{same_name}

-- none of the steps from s on is among those that come before s
abbrev pub Feeds : Step → List (Name × Step) → Type 0
Feeds s ss = Each (λ r. is_among (earlier_steps s) r.0 ≡ false) ss

pub none-feed : (done : List Name) (s : Name × Step) (ss : List (Name × Step)) → IsOrdered done (s ∷ ss) → Feeds s.1 (s ∷ ss)
none-feed done s ss h =
    in_each (λ r. is_among (earlier_steps s.1) r.0 ≡ false) (s ∷ ss) (λ r i. let p = get-in r (s ∷ ss) i in feeds-none done (s ∷ ss) 0 p.0 s r h refl p.1 (least p.0))
  where
    least : (n : ℕ) → 0 ≤ n
    least n = omega arith

-- ---- names that a list of names lacks

lacks-both : (ns ms : List Name) (n : Name) → is_among (ns ++ ms) n ≡ false → (is_among ns n ≡ false) × (is_among ms n ≡ false)
lacks-both [] ms n h = (refl, h)
lacks-both (k ∷ ns) ms n h =
    let p = or_parts (same_name n k) (is_among (ns ++ ms) n) h in
    let q = lacks-both ns ms n p.1 in
    (ap (λ b. b || is_among ns n) p.0 ∙ q.0, q.1)

-- ---- depths that stay

-- a step with this feed alone
abbrev fed_by : Feed → Step
fed_by f = record { inputs = ([], record { depth = 0; from = f }) ∷ []; outputs = []; strategy = None; activities = []; retries = 0; jobs = 0; after = []; repeat = None }

module _ (given : List (Name × ℕ)) where
  feed-stays : (so_far : List StepDepths) (x : StepDepths) (f : Feed) → is_among (feed_steps f) x.step ≡ false → feed_depth given (x ∷ so_far) f ≡ feed_depth given so_far f
  feed-stays so_far x f h =
      whole (feed_depth given (x ∷ so_far) f) (feed_depth given so_far f) (ap (λ g. g []) (port-stays given so_far x (fed_by f) (subst (λ ns. is_among ns x.step ≡ false) (sym (append-nil (feed_steps f ++ []) ∙ append-nil (feed_steps f))) h)))
    where
      whole : (a b : ℕ) → a - 0 ≡ b - 0 → a ≡ b
      whole a b e = omega (arith, e)

  pub feed-settled : (so_far : List StepDepths) (ss : List (Name × Step)) (f : Feed) → Each (λ r. is_among (feed_steps f) r.0 ≡ false) ss → feed_depth given (steps_depths given so_far ss) f ≡ feed_depth given so_far f
  feed-settled so_far [] f h = refl
  feed-settled so_far (r ∷ ss) f h = feed-settled (step_depths given so_far r ∷ so_far) ss f h.1 ∙ feed-stays so_far (step_depths given so_far r) f h.0

  -- the feeds of a step's inputs
  pub inputs-settled : (s : Step) (so_far : List StepDepths) (ss : List (Name × Step)) → Feeds s ss → (is : List (Name × StepInput)) → ((n : Name) → is_among (earlier_steps s) n ≡ false → is_among (flat_map (λ i. feed_steps i.1.from) is) n ≡ false) → Each (λ i. feed_depth given (steps_depths given so_far ss) i.1.from ≡ feed_depth given so_far i.1.from) is
  inputs-settled s so_far ss h [] f = tt
  inputs-settled s so_far ss h (i ∷ is) f = (
    feed-settled so_far ss i.1.from (none ss h (λ n e. (lacks-both (feed_steps i.1.from) (flat_map (λ j. feed_steps j.1.from) is) n (f n e)).0)),
    inputs-settled s so_far ss h is (λ n e. (lacks-both (feed_steps i.1.from) (flat_map (λ j. feed_steps j.1.from) is) n (f n e)).1),
  )
    where
      none : (ss : List (Name × Step)) → Feeds s ss → ((n : Name) → is_among (earlier_steps s) n ≡ false → is_among (feed_steps i.1.from) n ≡ false) → Each (λ r. is_among (feed_steps i.1.from) r.0 ≡ false) ss
      none [] h g = tt
      none (r ∷ ss) h g = (g r.0 h.0, none ss h.1 g)

  -- all that a step is fed with, from its own inputs
  pub step-settled : (s : Step) (so_far : List StepDepths) (ss : List (Name × Step)) → Feeds s ss → Each (λ i. feed_depth given (steps_depths given so_far ss) i.1.from ≡ feed_depth given so_far i.1.from) s.inputs
  step-settled s so_far ss h = inputs-settled s so_far ss h s.inputs (λ n e. (lacks-both (flat_map (λ i. feed_steps i.1.from) s.inputs) s.after n e).0)

  pub ports-settled : (s : Step) (so_far : List StepDepths) (ss : List (Name × Step)) → Feeds s ss → port_depth given (steps_depths given so_far ss) s ≡ port_depth given so_far s
  ports-settled s so_far [] h = refl
  ports-settled s so_far (r ∷ ss) h = ports-settled s (step_depths given so_far r ∷ so_far) ss h.1 ∙ port-stays given so_far (step_depths given so_far r) s h.0
