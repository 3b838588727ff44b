-- The order of one worker has the asks of all jobs, at any number of levels.
use Rattle.std.specs.Prelude.{refl, ℕ, zero, suc, List, [], ◌∷◌, Option, Some, None, flat_map, IsPermutation}
use Rattle.std.specs.Option.{option_map_or}
use Rattle.std.proofs.Common.{sym, subst, inl, inr}
use Rattle.std.proofs.lemmas.List.Sorted.{IsPermutation-refl, IsPermutation-append_left, IsPermutation-append_right, IsPermutation-trans}
use Rattle.tv_lemmas.specs.Members.{In}
use Rattle.tv_lemmas.proofs.Lists.{flat-flat}
use Rattle.tv_value.specs.Values.{Name, JobName, Value}
use Rattle.tv_flow.specs.Flows.{Flow}
use Rattle.tv_gate.specs.Outcomes.{Giving}
use Rattle.tv_model.specs.Made.{Meaning, Opened}
use Rattle.tv_model.specs.Turns.{ask_order, asks_of}
use Rattle.tv_model.specs.Meanings.{jobs_with_inside, instance_meaning, no_meaning, flow_meaning}
use Rattle.tv_model.specs.instance.Ranks.{ranked}
use Rattle.tv_model.proofs.Fed.{named_map_or}
use Rattle.tv_model.proofs.Earlier.{job_list}
use Rattle.tv_model.proofs.Kept.{InsideIs}
use Rattle.tv_model.proofs.Instances.{instance-formed, order-asks, steps_of}
use Rattle.tv_model.proofs.Order.{turn_of}
use Rattle.tv_model.proofs.ReadOff.{IsReadOff, flow-read, instance-order}
use Rattle.tv_model.specs.Asked.{IsOrdered}
use Rattle.tv_model.proofs.Whole.{AnyNumber}
use Rattle.tv_strategy.proofs.Each.{each-all}

pub flat-permuted : {A B : Type 0} (f g : A → List B) (xs : List A) → ((x : A) → In x xs → IsPermutation (f x) (g x)) → IsPermutation (flat_map f xs) (flat_map g xs)
flat-permuted f g [] h = IsPermutation-refl []
flat-permuted f g (x ∷ xs) h =
    IsPermutation-trans _ _ _ (IsPermutation-append_left (flat_map f xs) (f x) (g x) (h x (inl refl)))
    (IsPermutation-append_right (g x) (flat_map f xs) (flat_map g xs) (flat-permuted f g xs (λ y i. h y (inr i))))

module _ (gives : Giving) where
  -- the asks of a job and of what stands inside it
  turn-asks : (o : Opened) → InsideIs IsOrdered o.job o.inside → IsPermutation (turn_of o).asks (flat_map asks_of (jobs_with_inside o))
  turn-asks o h = IsPermutation-append_right (asks_of o.job) (option_map_or ask_order o.inside []) (flat_map asks_of (option_map_or (λ (n : Meaning). n.jobs) o.inside [])) (by o.inside h)
    where
      by : (i : Option Meaning) → InsideIs IsOrdered o.job i → IsPermutation (option_map_or ask_order i []) (flat_map asks_of (option_map_or (λ (n : Meaning). n.jobs) i []))
      by None w = IsPermutation-refl []
      by (Some n) w = w.0

  instance-ordered : (inside : Name → JobName → List (Name × Value) → Meaning) → ((f : Name) (n : JobName) (vs : List (Name × Value)) → IsReadOff (inside f n vs) n) → ((f : Name) (n : JobName) (vs : List (Name × Value)) → IsOrdered (inside f n vs) n) → (I : JobName) (flow : Flow) (vs : List (Name × Value)) → IsOrdered (instance_meaning gives inside I flow vs) I
  instance-ordered inside read is I flow vs =
      let formed = instance-formed gives inside I flow vs IsOrdered is AnyNumber (each-all (λ s. Unit {0}) (λ s. tt) (ranked flow.steps)) in
      let os = job_list (steps_of gives inside I flow vs) in
      subst (λ l. IsPermutation l (flat_map asks_of (flat_map jobs_with_inside os))) (sym (instance-order gives inside read I flow vs))
      (IsPermutation-trans _ _ _ (order-asks gives inside I flow vs)
      (subst (λ l. IsPermutation (flat_map (λ o. (turn_of o).asks) os) l) (sym (flat-flat asks_of jobs_with_inside os)) (flat-permuted (λ o. (turn_of o).asks) (λ o. flat_map asks_of (jobs_with_inside o)) os (λ o i. turn-asks o (formed.jobs o i).inside_it))))

  pub flow-ordered : (flows : List (Name × Flow)) (depth : ℕ) (f : Name) (I : JobName) (vs : List (Name × Value)) → IsOrdered (flow_meaning gives flows depth f I vs) I
  flow-ordered flows zero f I vs = IsPermutation-refl []
  flow-ordered flows (suc depth) f I vs =
      named_map_or (λ flow. Unit {0}) (λ m. IsOrdered m I) (λ flow. instance_meaning gives (flow_meaning gives flows depth) I flow vs)
      (λ flow w. instance-ordered (flow_meaning gives flows depth) (flow-read gives flows depth) (λ g n us. flow-ordered flows depth g n us) I flow vs) f flows no_meaning
      (each-all (λ x. Unit {0}) (λ x. tt) flows) (IsPermutation-refl [])
