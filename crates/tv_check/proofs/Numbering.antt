-- The numbers of steps and outputs, as look-ups give them.
use Rattle.std.specs.Prelude.{◌≡◌, ℕ, suc, ◌<◌, ◌^◌, List, [], ◌∷◌, length, true, false, Bool, if◌then◌else◌, None, Some, Option, is_some, option_map, refl}
use Rattle.std.specs.Option.{option_map_or}
use Rattle.std.proofs.Common.{arith, get_or, ap, sym, subst, ◌∙◌}
use Rattle.tv_value.specs.Values.{Name}
use Rattle.tv_value.specs.Orders.{same_name, named}
use Rattle.tv_flow.specs.Flows.{output}
use Rattle.tv_flow.specs.Flows as spec
use Rattle.tv_flow.specs.Formed.{is_depth, is_flow, is_step}
use Rattle.tv_flow.specs.Views.{each, flow_view, step_view}
use Rattle.tv_flow.specs.declared.document.Flow.{Flow}
use Rattle.tv_flow.specs.declared.document.Step.{Step}
use Rattle.tv_naming.specs.Numbers.{number_in, position}
use Rattle.tv_naming.proofs.ByPosition.{number-absent, number-found, position-each}
use Rattle.tv_naming.proofs.Kept.{named-each, step-at}
use Rattle.tv_naming.proofs.FormedParts.{few, step-outputs}
use Rattle.tv_check.specs.Feeds.{link_numbered, outputs_of}
use Rattle.tv_check.specs.declared.feeds.NumberedLink.TheVariants.{Output}

module _ {A : Type 0} (n : Name) where
  past : (xs : List (Name × A)) → named n xs ≡ None → position n xs ≡ length xs
  past [] e = refl
  past (x ∷ xs) e = cases (same_name n x.0) e (past xs)
    where
      cases : (b : Bool) → (if b then Some x.1 else named n xs) ≡ None → (named n xs ≡ None → position n xs ≡ length xs) → (if b then 0 else suc (position n xs)) ≡ suc (length xs)
      cases true h k = cc
      cases false h k = ap suc (k h)

  -- a name that isn't there has the number of the names
  pub position-absent : (xs : List (Name × A)) → number_in xs n ≡ None → position n xs ≡ length xs
  position-absent xs e = past xs (number-absent xs n e)

  -- a name that has a number has it for its position
  pub position-found : (xs : List (Name × A)) (k : ℕ) → number_in xs n ≡ Some k → position n xs ≡ k
  position-found xs k e = cases (is_some (named n xs)) e
    where
      cases : (b : Bool) → (if b then Some (position n xs) else None) ≡ Some k → position n xs ≡ k
      cases true h = cc
      cases false h = cc

-- ---- the outputs of a step that was looked up

module _ (f : Flow) (s p : Name) where
  outputs-found : (o : Option Step) → named s f.steps ≡ o → outputs_of (flow_view f) s ≡ option_map_or (λ (t : Step). t.outputs) o []
  outputs-found o e = ap (λ t. option_map_or (λ (t : spec.Step). t.outputs) t []) (named-each step_view s f.steps ∙ ap (option_map step_view) e) ∙ seen o
    where
      seen : (o : Option Step) → option_map_or (λ (t : spec.Step). t.outputs) (option_map step_view o) [] ≡ option_map_or (λ (t : Step). t.outputs) o []
      seen None = refl
      seen (Some x) = refl

  pub found-output : (k : ℕ) (x : Name × Step) → number_in f.steps s ≡ Some k → x ≡ get_or f.steps k x → Output k (position p x.1.outputs) ≡ link_numbered (flow_view f) (output s p)
  found-output k x e is =
      let there : named s f.steps ≡ Some x.1 = (number-found f.steps s k e).thing x ∙ ap (λ (y : Name × Step). Some y.1) (sym is) in
      ap (λ i. Output i (position p x.1.outputs)) (sym (position-each step_view s f.steps ∙ position-found s f.steps k e))
      ∙ ap (λ os. Output (position s (each step_view f.steps)) (position p os)) (sym (outputs-found (Some x.1) there))

  pub absent-output : number_in f.steps s ≡ None → Output (length f.steps) 0 ≡ link_numbered (flow_view f) (output s p)
  absent-output e =
      ap (λ i. Output i 0) (sym (position-each step_view s f.steps ∙ position-absent s f.steps e))
      ∙ ap (λ os. Output (position s (each step_view f.steps)) (position p os)) (sym (outputs-found None (number-absent f.steps s e)))

-- ---- few enough to be counted

pub few-outputs : (f : Flow) (k : ℕ) (x : Name × Step) → is_flow (flow_view f) ≡ true → k < length f.steps → x ≡ get_or f.steps k x → length x.1.outputs < 2 ^ 32
few-outputs f k x h lt is =
    let step : is_step (step_view x.1) ≡ true = subst (λ (y : Name × Step). is_step (step_view y.1) ≡ true) (sym is) (step-at f k x h lt) in
    let le = few is_depth 0 16 x.1.outputs (step-outputs (step_view x.1) step) in
    omega (arith, le)
