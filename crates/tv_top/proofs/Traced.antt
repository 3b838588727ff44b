-- The jobs of the outcomes that a worked-off board has accepted are those of the order of one worker.
use Rattle.std.specs.Prelude.{◌≡◌, ◌==◌, ◌&&◌, List, [], ◌∷◌, find, map, Option, Some, None, option_and_then, option_map, refl}
use Rattle.std.specs.Option.{option_map_or}
use Rattle.std.proofs.Common.{ap, ◌∙◌}
use Rattle.tv_value.specs.Orders.{same_job}
use Rattle.tv_value.specs.Values.{JobName}
use Rattle.tv_gate.specs.Outcomes.{Giving}
use Rattle.tv_dispatch.specs.Jobs.{Ask}
use Rattle.tv_flow.specs.Flows.{Document}
use Rattle.tv_model.specs.Jobs.{Job}
use Rattle.tv_model.specs.Made.{Meaning}
use Rattle.tv_model.specs.Meanings.{meaning}
use Rattle.tv_model.specs.Turns.{ask_order}
use Rattle.tv_work.specs.Tries.{NamedTry}
use Rattle.tv_work.specs.Runs.{Run, meant}
use Rattle.tv_report.specs.TraceLines.{accepted_jobs}
use Rattle.tv_work.specs.Asked.{accepted_tries}
use Rattle.tv_work.specs.InOrder.{AcceptsInOrder, ask_of_try}

abbrev first_or : {A : Type 0} → A → List A → A
first_or d [] = d
first_or d (x ∷ xs) = x

abbrev others : {A : Type 0} → List A → List A
others [] = []
others (x ∷ xs) = xs

-- the ask of a try has the try's job
name-by : (f : Job → Option Ask) (n : JobName) (o : Option Job) (p : JobName × Ask) → option_and_then (λ (j : Job). option_map (λ a. (n, a)) (f j)) o ≡ Some p → n ≡ p.0
name-by f n None p h = absurd (cc h)
name-by f n (Some j) p h = name-of (f j) h
  where
    name-of : (a : Option Ask) → option_map (λ a. (n, a)) a ≡ Some p → n ≡ p.0
    name-of None h = absurd (cc h)
    name-of (Some a) h = ap (λ (o : Option (JobName × Ask)). option_map_or (λ q. q.0) o n) h

names : (m : Meaning) (ts : List NamedTry) (os : List (JobName × Ask)) → map (ask_of_try m) ts ≡ map Some os → map (λ t. t.0) ts ≡ map (λ p. p.0) os
names m [] [] h = refl
names m [] (o ∷ os) h = absurd (cc h)
names m (t ∷ ts) [] h = absurd (cc h)
names m ((n, k) ∷ ts) (o ∷ os) h =
    ap (λ x. x ∷ map (λ (t : NamedTry). t.0) ts) (name-by (λ (j : Job). find (λ (a : Ask). k.0 == a.activity && k.1 == a.attempt) j.asks) n (find (λ (j : Job). same_job n j.name) m.jobs) o (ap (first_or None) h)) ∙ ap (λ xs. o.0 ∷ xs) (names m ts os (ap others h))

pub jobs-in_order : (gives : Giving) (d : Document) (r : Run) → r.document ≡ d → AcceptsInOrder gives r → accepted_jobs r ≡ map (λ p. p.0) (ask_order (meaning gives d))
jobs-in_order gives d r e h = names (meant gives r) (accepted_tries r) (ask_order (meant gives r)) h ∙ ap (λ k. map (λ p. p.0) (ask_order (meaning gives k))) e
