-- What is told with an event of an output of its step is told truly.
use Rattle.std.specs.Prelude.{◌≡◌, refl, ℕ, ◌-◌, ◌≤◌, Bool, true, false, nat_le, nat_lt, if◌then◌else◌, [], ◌∷◌, ◌++◌, length, take, Some}
use Rattle.std.proofs.Common.{sym, ap, ◌∙◌}
use Rattle.std.proofs.lemmas.Bool.{and_parts, leb-true}
use Rattle.tv_value.specs.Nested.{Place, at, leaf, list}
use Rattle.tv_value.specs.Values.{JobName, Name, Value, holds_fault}
use Rattle.tv_strategy.specs.Iterations.{Iteration, job, passed}
use Rattle.tv_strategy.specs.Levels.{HasLevels}
use Rattle.tv_strategy.specs.Origins.{Traced, from_job, plain, traced}
use Rattle.tv_strategy.specs.Outputs.{output_below}
use Rattle.tv_model.specs.instance.Delivered.{Delivered}
use Rattle.tv_model.specs.instance.Steps.{spot}
use Rattle.tv_matching.specs.Items.{if_so}
use Rattle.tv_matching.specs.Told.{TellsFaults}
use Rattle.tv_parts.specs.Below.{Below}
use Rattle.tv_parts.specs.Partials.{HoldsFaults, Partial, holds_some, known_at, whole}
use Rattle.tv_telling.specs.ValueTellings.{bound_told}
use Rattle.tv_telling.specs.WayTellings.{told_on_way, told_there}
use Rattle.tv_model.specs.instance.ByResults.{InstanceStep, Results, result_at}
use Rattle.tv_model.specs.instance.Counting.{whole_by}
use Rattle.tv_model.specs.instance.Events as events
use Rattle.tv_model.specs.instance.Events.{Event, Events, Extends, event_place, event_step, fault_set, took}
use Rattle.tv_model.specs.instance.Fitting.{FitStep, FitsNode}
use Rattle.tv_framing.specs.Arriving.{levels_below, part_so_far}
use Rattle.tv_framing.specs.Feeding.{GaveThis}
use Rattle.tv_framing.specs.Gaining.{IsOutputOf}
use Rattle.tv_framing.specs.PortTellings.{newly_by}
use Rattle.tv_framing.proofs.Arriving.{output-reaches}
use Rattle.tv_framing.proofs.LawLemmas.{parts-are_below}
use Rattle.tv_framing.proofs.Tellings.{at-append}
use Rattle.tv_framing.specs.ways.Stated.{IsFrom, happening_of}
use Rattle.tv_framing.proofs.engine.Trees.{trees-whole}
use Rattle.tv_framing.proofs.starts.Plain.{plain-traced, same-faults}
use Rattle.tv_framing.proofs.faults.Parts.{known-below, whole-holds}
use Rattle.tv_framing.proofs.faults.Places.{mapped-at, prefix-at}
use Rattle.tv_framing.proofs.faults.Values.{AreTrue, plain-truly, there-truly}

-- an output of a step after these events, which fit it
module _ (instance : JobName) (results : Results) (g : InstanceStep) (d : Delivered) (out : IsOutputOf instance results g d) (leveled : HasLevels g.step.iteration out.2) (es : Events) (extends : Extends results es) (fit : FitStep g es) where
  abbrev named_at : Place → JobName
  named_at = spot instance g.step.step

  abbrev made : Place → Value
  made = result_at results g.step.step out.0

  abbrev stands_at : Place → Iteration → Traced
  stands_at x u = output_below named_at made out.1 x (levels_below out.2 x) u

  abbrev tree : Partial Value
  tree = part_so_far g.step.step out.0 out.2 out.1 es

  -- what stands in the iteration stands in the output
  pub reached : (x : Place) (u : Iteration) → at g.step.iteration x ≡ Some u → at d.value x ≡ Some (stands_at x u)
  reached x u h = ap (λ v. at v x) out.3 ∙ output-reaches named_at made out.1 g.step.iteration [] x out.2 u h

  -- THE TREE: where it is whole by counting, it holds a fault where the value does
  pub tree-holds : (x : Place) (u : Iteration) → at g.step.iteration x ≡ Some u → whole_by es g.step.step (levels_below out.2 x) x ≡ true → holds_some holds_fault (known_at x tree) ≡ holds_fault (stands_at x u)
  tree-holds x u h k =
      let below : Below (known_at x tree) (plain (stands_at x u)) = known-below x tree (plain d.value) (plain (stands_at x u)) (parts-are_below instance results g d out es extends fit) (mapped-at (λ o. tt) d.value x (stands_at x u) (reached x u h)) in
      let is_whole : whole (known_at x tree) ≡ true = trees-whole g out.2 leveled es fit out.0 out.1 x u h ∙ k in
      whole-holds (known_at x tree) (plain (stands_at x u)) below is_whole ∙ same-faults (λ o. tt) (stands_at x u)

-- with one more event of this step, whose node stands there
module _ (instance : JobName) (results : Results) (g : InstanceStep) (d : Delivered) (out : IsOutputOf instance results g d) (leveled : HasLevels g.step.iteration out.2) (e : Event) (es : Events) (extends : Extends results (e ∷ es)) (fit : FitStep g (e ∷ es)) (own : event_step e ≡ g.step.step) (node : Iteration) (there : at g.step.iteration (event_place e) ≡ Some node) (fits : FitsNode e (Some node))
    (from faults : ℕ) (whole_from : IsFrom (newly_by es e g.step.step out.2) (event_place e) from) (hold : HoldsFaults (event_place e) (part_so_far g.step.step out.0 out.2 out.1 (e ∷ es)) faults)
    (values : Name → Traced) (p : Name) where
  abbrev r : Place
  r = event_place e

  -- the value at the end of the walk, which is whole now
  end-truly : (k : ℕ) (q : Place) → at (values p) q ≡ Some d.value → k ≤ length r → nat_le from k ≡ true → TellsFaults values (bound_told p (q ++ take k r) (nat_lt k faults))
  end-truly k q a l w =
      let u = prefix-at g.step.iteration r k node there in
      let now : (whole_by (e ∷ es) g.step.step (levels_below out.2 (take k r)) (take k r) ≡ true) = (and_parts (whole_by (e ∷ es) g.step.step (levels_below out.2 (take k r)) (take k r)) _ (whole_from k l ∙ w)).0 in
      there-truly values p (q ++ take k r) (stands_at instance results g d out leveled (e ∷ es) extends fit (take k r) u.0)
      (at-append (values p) q (take k r) d.value a ∙ reached instance results g d out leveled (e ∷ es) extends fit (take k r) u.0 u.1)
      (nat_lt k faults)
      (sym (hold k l ∙ tree-holds instance results g d out leveled (e ∷ es) extends fit (take k r) u.0 u.1 now))

  -- what the job gave
  gave-value : (f : Event) (u : Iteration) → u ≡ node → FitsNode f (Some u) → (w : Value) → GaveThis w (result_at results g.step.step out.0) f r → (k : ℕ) (q : Place) → at (values p) q ≡ Some d.value → AreTrue values p (told_there p k (q ++ r) (happening_of f w))
  gave-value (events.gave t y vs) (leaf s (job b)) n h w given k q a =
      plain-truly values p k (q ++ r) (traced (from_job (spot instance g.step.step r)) (result_at results g.step.step out.0 r)) w
      (at-append (values p) q r d.value a ∙ reached instance results g d out leveled (e ∷ es) extends fit r (leaf s (job b)) (there ∙ ap Some (sym n)))
      (plain-traced (from_job (spot instance g.step.step r)) (result_at results g.step.step out.0 r) ∙ sym given)
  gave-value (events.gave t y vs) (leaf s (passed m b)) n h w given k q a = absurd h
  gave-value (events.gave t y vs) (list s ts) n h w given k q a = absurd h
  gave-value (events.closed t y m) u n h w given k q a = (tt, tt)
  gave-value (fault_set t y b) u n h w given k q a = (tt, tt)
  gave-value (took t y) u n h w given k q a = (tt, tt)

  -- THE WAY
  pub way-truly : (w : Value) → GaveThis w (result_at results g.step.step out.0) e r → (k : ℕ) (q : Place) → at (values p) q ≡ Some d.value → AreTrue values p (told_on_way p k q from faults r (happening_of e w))
  way-truly w given k q a = by (nat_le k (length r)) refl
    where
      one : (b : Bool) → nat_le from k ≡ b → k ≤ length r → AreTrue values p (if_so b (bound_told p (q ++ take k r) (nat_lt k faults)))
      one true g l = (end-truly k q a l g, tt)
      one false g l = tt

      by : (b : Bool) → nat_le k (length r) ≡ b → AreTrue values p (if b then if_so (nat_le from k) (bound_told p (q ++ take k r) (nat_lt k faults)) else told_there p (k - length r) (q ++ r) (happening_of e w))
      by true g = one (nat_le from k) refl (leb-true k (length r) g)
      by false g = gave-value e node refl fits w given (k - length r) q a
