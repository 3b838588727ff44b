-- What holds of every node of what an instance is given and of what its steps made so far holds of all that a next step is fed with.
use Rattle.std.specs.Prelude.{ℕ, zero, suc, List, [], ◌∷◌, map, Bool, true, false, if◌then◌else◌, Some, unwrap_or, flat_map, find}
use Rattle.std.specs.Option.{option_map_or}
use Rattle.tv_lemmas.specs.Members.{Each}
use Rattle.tv_value.specs.Nested.{leaf, trees_of}
use Rattle.tv_value.specs.Values.{Name}
use Rattle.tv_value.specs.Orders.{same_name, named}
use Rattle.tv_flow.specs.Flows.{Link, input, output, Feed, link, merge, constant, Step}
use Rattle.tv_strategy.specs.Origins.{Origin, Traced, fixed}
use Rattle.tv_strategy.specs.Iterations.{job, Iteration, walk, iteration}
use Rattle.tv_model.specs.instance.Delivered.{Delivered, Ported, nothing_delivered, merged, wrapped, at_port}
use Rattle.tv_model.specs.Made.{Made, link_value, feed_value, endings}
use Rattle.tv_model.specs.instance.Steps.{strategy_of, port_iteration}
use Rattle.tv_model.specs.instance.Ranks.{is_among}
use Rattle.tv_strategy.proofs.Sources.{each-append, walk-have, iteration-have, traced-have}
use Rattle.tv_strategy.specs.Sources.{AtNodes, AtAllNodes, SourcesHave}
use Rattle.tv_strategy.proofs.Each.{each-all}

-- ---- lists and look-ups

pub either : {A : Type 0} (R : A → Type 0) (b : Bool) (x y : A) → R x → R y → R (if b then x else y)
either R true x y h k = h
either R false x y h k = k

pub named_or : {A : Type 0} (R : A → Type 0) (n : Name) (xs : List (Name × A)) (d : A) → Each (λ m. R m.1) xs → R d → R (unwrap_or (named n xs) d)
named_or R n [] d h k = k
named_or R n (m ∷ ms) d h k = either (λ o. R (unwrap_or o d)) (same_name n m.0) (Some m.1) (named n ms) h.0 (named_or R n ms d h.1 k)

pub named_map_or : {A B : Type 0} (S : A → Type 0) (R : B → Type 0) (f : A → B) → ((x : A) → S x → R (f x)) → (n : Name) (xs : List (Name × A)) (z : B) → Each (λ m. S m.1) xs → R z → R (option_map_or f (named n xs) z)
named_map_or S R f g n [] z h k = k
named_map_or S R f g n (m ∷ ms) z h k = either (λ o. R (option_map_or f o z)) (same_name n m.0) (Some m.1) (named n ms) (g m.1 h.0) (named_map_or S R f g n ms z h.1 k)

pub find_map_or : {A B : Type 0} (S : A → Type 0) (R : B → Type 0) (f : A → B) → ((x : A) → S x → R (f x)) → (p : A → Bool) (xs : List A) (z : B) → Each S xs → R z → R (option_map_or f (find p xs) z)
find_map_or S R f g p [] z h k = k
find_map_or S R f g p (x ∷ xs) z h k = either (λ o. R (option_map_or f o z)) (p x) (Some x) (find p xs) (g x h.0) (find_map_or S R f g p xs z h.1 k)

pub each-flat_map : {A B : Type 0} (S : A → Type 0) (R : B → Type 0) (f : A → List B) → ((x : A) → S x → Each R (f x)) → (xs : List A) → Each S xs → Each R (flat_map f xs)
each-flat_map S R f g [] h = tt
each-flat_map S R f g (x ∷ xs) h = each-append R (f x) (flat_map f xs) (g x h.0) (each-flat_map S R f g xs h.1)

pub each-of_map : {A B : Type 0} (S : A → Type 0) (R : B → Type 0) (f : A → B) → ((x : A) → S x → R (f x)) → (xs : List A) → Each S xs → Each R (map f xs)
each-of_map S R f g [] h = tt
each-of_map S R f g (x ∷ xs) h = (g x h.0, each-of_map S R f g xs h.1)

wrapped-have : (P : Origin → Type 0) → P fixed → (k : ℕ) (v : Traced) → AtNodes P v → AtNodes P (wrapped k v)
wrapped-have P f zero v h = h
wrapped-have P f (suc k) v h = (f, (wrapped-have P f k v h, tt))

trees_of-have : (P : Origin → Type 0) → (ds : List Delivered) → Each (λ d. AtNodes P d.value) ds → AtAllNodes P (trees_of (map (λ d. d.value) ds))
trees_of-have P [] h = tt
trees_of-have P (d ∷ ds) h = (h.0, trees_of-have P ds h.1)

merged-have : (P : Origin → Type 0) → P fixed → (ds : List Delivered) → Each (λ d. AtNodes P d.value) ds → AtNodes P (merged ds).value
merged-have P f [] h = (f, tt)
merged-have P f (d ∷ ds) h = (f, trees_of-have P (d ∷ ds) h)

-- the ports of a step as they are fed
abbrev pub step_ports : List (Name × Delivered) → List Made → Step → List (Name × Ported)
step_ports given ms s = map (λ i. (i.0, at_port i.1.depth (feed_value given ms i.1.from))) s.inputs

abbrev pub step_iteration : List (Name × Delivered) → List Made → Step → Iteration
step_iteration given ms s = iteration (port_iteration (step_ports given ms s)) (strategy_of s)

-- P holds at every node of the step's outputs, and of what is known at its end
abbrev pub StepHas : (Origin → Type 0) → Made → Type 0
StepHas P m = Each (λ d. AtNodes P d.1.value) m.step.outputs × Each P m.step.ending

module _ (P : Origin → Type 0) (fresh : P fixed) (given : List (Name × Delivered)) (given_have : Each (λ d. AtNodes P d.1.value) given) (ms : List Made) (made_have : Each (StepHas P) ms) where
  link-has : (l : Link) → AtNodes P (link_value given ms l).value
  link-has (input x) = named_or (λ d. AtNodes P d.value) x given nothing_delivered given_have (fresh, tt)
  link-has (output s p) =
      find_map_or (StepHas P) (λ d. AtNodes P d.value) (λ m. unwrap_or (named p m.step.outputs) nothing_delivered) (λ m h. named_or (λ d. AtNodes P d.value) p m.step.outputs nothing_delivered h.0 (fresh, tt)) (λ m. same_name s m.step.step) ms nothing_delivered made_have (fresh, tt)

  pub feed-has : (f : Feed) → AtNodes P (feed_value given ms f).value
  feed-has (link l) = link-has l
  feed-has (merge ls) =
      merged-have P fresh (map (link_value given ms) ls) (each-of_map (λ l. Unit {0}) (λ d. AtNodes P d.value) (link_value given ms) (λ l _. link-has l) ls (each-all (λ l. Unit {0}) (λ l. tt) ls))
  feed-has (constant v) = traced-have P fixed fresh v

  ports-have : (s : Step) → Each (λ d. AtNodes P d.1.value) (step_ports given ms s)
  ports-have s =
      each-of_map (λ i. Unit {0}) (λ d. AtNodes P d.1.value) (λ i. (i.0, at_port i.1.depth (feed_value given ms i.1.from))) (λ i _. wrapped-have P fresh _ _ (feed-has i.1.from)) s.inputs (each-all (λ i. Unit {0}) (λ i. tt) s.inputs)

  pub step_iteration-has : (s : Step) → SourcesHave P (step_iteration given ms s)
  step_iteration-has s =
      iteration-have P (port_iteration (step_ports given ms s)) (λ p. named_map_or (λ d. AtNodes P d.value) (SourcesHave P) (λ d. walk p d.mismatch d.value) (λ d h. walk-have P p d.mismatch d.value h) p (step_ports given ms s) (leaf [] (job [])) (ports-have s) (tt, tt)) (strategy_of s)

  pub endings-have : (ns : List Name) → Each P (endings ms ns)
  endings-have ns =
      each-flat_map (StepHas P) P (λ m. if is_among ns m.step.step then m.step.ending else []) (λ m k. either (Each P) (is_among ns m.step.step) m.step.ending [] k.1 tt) ms made_have
