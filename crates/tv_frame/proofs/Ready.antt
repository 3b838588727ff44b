-- The first ready job of a frame, by what the frame keeps.
use Rattle.std.specs.List.{list_all}
use Rattle.std.specs.Option.{option_map_or}
use Rattle.std.specs.Prelude.{◌≡◌, refl, ℕ, ◌<◌, nat_lt, Bool, true, List, [], Option, Some, None, length, option_map, slice_get}
use Rattle.std.proofs.Common.{sym, ap, subst, ◌∙◌}
use Rattle.std.proofs.lemmas.List.{length-map}
use Rattle.std.proofs.lemmas.Option.{same_Some, slice_get_within}
use Rattle.tv_lemmas.proofs.Lists.{get-map, get-within}
use Rattle.tv_value.specs.Nested.{Place}
use Rattle.tv_value.specs.Values.{Name}
use Rattle.tv_flow.specs.Flows.{Flow, Step}
use Rattle.tv_naming.specs.Numbers.{position}
use Rattle.tv_naming.proofs.FormedParts.{steps-ascend}
use Rattle.tv_check.specs.declared.plans.FlowPlan.{FlowPlan}
use Rattle.tv_check.specs.declared.wiring.Wiring.{Wiring}
use Rattle.tv_check.specs.Wirings.{after_of, wiring}
use Rattle.tv_telling.specs.endings.Ends.{IsSound}
use Rattle.tv_outputs.specs.Known.{Nodes}
use Rattle.tv_match.specs.declared.matchers.Matcher.{Matcher}
use Rattle.tv_intake.specs.Intaken.{IsFaultyAt, known_jobs, matcher_at}
use Rattle.tv_framing.specs.Answers.{numbered}
use Rattle.tv_framing.specs.Views.{View}
use Rattle.tv_framing.specs.engine.WiredFlows.{IsWired}
use Rattle.tv_framing.proofs.engine.Endings.{position-of}
use Rattle.tv_framing.specs.turns.FirstReady.{IsFirstReady, by_falling_rank, spot_given}
use Rattle.tv_telling.specs.endings.Turns.{first_in_turn, may_settle}
use Rattle.tv_frame.specs.declared.frame.Frame.{Frame}
use Rattle.tv_frame.specs.Kept.{Keeps, named_job}
use Rattle.tv_frame.specs.Tables.{levels_in}
use Rattle.tv_frame.proofs.Going.{plan-wiring}
use Rattle.tv_frame.proofs.Keeping.{kept-wired}
use Rattle.tv_framing.proofs.turns.Frames.{first-is-ready}
use Rattle.tv_framing.proofs.turns.Orders.{order-of-steps}

module _ (flows : List (Name × Flow)) (plan : FlowPlan) (pool : Nodes) (f : Frame) (v : View) (k : Keeps flows plan pool f v) where
  wired : IsWired v.flow
  wired = kept-wired flows plan pool f v k

  same-wiring : wiring v.flow ≡ plan.wiring
  same-wiring = sym (plan-wiring flows plan pool f v k)

  -- ---- what the search asks for

  pub sound-there : IsSound plan.wiring.after f.endings
  sound-there = subst (λ (w : Wiring). IsSound w.after f.endings) same-wiring k.endings_are.sound

  pub steps-there : length f.idle.steps ≡ length plan.wiring.after
  steps-there =
      k.idle_are.as_many
      ∙ sym (length-map v.flow.steps (λ (s : Name × Step). after_of v.flow.steps s.1))
      ∙ ap (λ (w : Wiring). length w.after) same-wiring

  pub order-there : (order : List ℕ) → order ≡ f.tables.order.items → list_all (λ c. nat_lt c (length plan.wiring.after)) order ≡ true
  order-there order same =
      ap (list_all (λ c. nat_lt c (length plan.wiring.after))) (same ∙ k.tables_are.order_is)
      ∙ subst (λ (w : Wiring). list_all (λ c. nat_lt c (length w.after)) (by_falling_rank v.flow) ≡ true) same-wiring (order-of-steps v.flow wired)

  -- ---- the job after which the others stand

  module _ (number n : ℕ) (q : Place) (there : slice_get (known_jobs f.intakes) number ≡ Some (n, q)) (b : Bool) (said : IsFaultyAt (matcher_at f.intakes n) q b) where
    within : n < length v.flow.steps
    within = subst (λ m. n < m) k.as_many (by (matcher_at f.intakes n) refl said)
      where
        by : (o : Option Matcher) → matcher_at f.intakes n ≡ o → IsFaultyAt o q b → n < length f.intakes.matchers.items
        by None e h = absurd h
        by (Some m) e h = slice_get_within f.intakes.matchers.items n m e

    step : (s : Name × Step) × (slice_get v.flow.steps n ≡ Some s)
    step = get-within v.flow.steps n within

    named : numbered v number ≡ Some (step.0.0, q)
    named =
        ap (λ l. slice_get l number) k.jobs_are
        ∙ get-map (named_job v.flow) (known_jobs f.intakes) number (n, q) there
        ∙ ap (λ o. Some (option_map_or (λ (t : Name × Step). t.0) o [], q)) step.1

    known-here : number < length v.jobs
    known-here = slice_get_within v.jobs number (step.0.0, q) named

    spot-here : spot_given v (Some number) ≡ Some (n, q)
    spot-here =
        ap (option_map (λ (x : Name × Place). (position x.0 v.flow.steps, x.1))) named
        ∙ ap (λ c. Some (c, q)) (position-of v.flow.steps n step.0 (steps-ascend v.flow wired.formed) step.1)

  -- ---- the answer

  first-there :
      (after : Option ℕ) → ((m : ℕ) → after ≡ Some m → m < length v.jobs) → (given : Option (ℕ × Place)) → spot_given v after ≡ given
      → (order : List ℕ) → order ≡ f.tables.order.items → (found : Option ℕ)
      → found ≡ first_in_turn (may_settle plan.wiring f.endings) f.idle.steps order given → IsFirstReady (levels_in v.flow) v after found
  first-there after known given spot order same found is =
      subst (IsFirstReady (levels_in v.flow) v after)
      (sym
      (is
      ∙ ap (λ (w : Wiring). first_in_turn (may_settle w f.endings) f.idle.steps order given) (sym same-wiring)
      ∙ ap (λ os. first_in_turn (may_settle (wiring v.flow) f.endings) f.idle.steps os given) (same ∙ k.tables_are.order_is)
      ∙ ap (first_in_turn (may_settle (wiring v.flow) f.endings) f.idle.steps (by_falling_rank v.flow)) (sym spot)))
      (first-is-ready v wired (levels_in v.flow) f.endings k.endings_are f.idle.steps k.idle_are.all after known)

  -- of all
  pub first-of_all :
      (order : List ℕ) → order ≡ f.tables.order.items → (found : Option ℕ)
      → found ≡ first_in_turn (may_settle plan.wiring f.endings) f.idle.steps order None → IsFirstReady (levels_in v.flow) v None found
  first-of_all order same found is = first-there None (λ m e. cc) None refl order same found is

  -- of those that stand after a job
  pub first-after_one :
      (number n : ℕ) (q : Place) → slice_get (known_jobs f.intakes) number ≡ Some (n, q) → (b : Bool) → IsFaultyAt (matcher_at f.intakes n) q b
      → (order : List ℕ) → order ≡ f.tables.order.items → (found : Option ℕ)
      → found ≡ first_in_turn (may_settle plan.wiring f.endings) f.idle.steps order (Some (n, q)) → IsFirstReady (levels_in v.flow) v (Some number) found
  first-after_one number n q there b said order same found is =
      first-there (Some number) (λ m e. subst (λ c. c < length v.jobs) (same_Some number m e) (known-here number n q there b said)) (Some (n, q)) (spot-here number n q there b said) order same found is
