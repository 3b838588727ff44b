-- Worked examples: step u walks a list of two texts, and step v takes the list that u's jobs make, whole. They compute.
use Rattle.std.specs.Prelude.{◌≡◌, ℕ, zero, suc, Bool, true, false, List, [], ◌∷◌, None, codes, map, if◌then◌else◌}
use Rattle.tv_value.specs.Activities.{service}
use Rattle.tv_value.specs.Nested.{note, trees_of}
use Rattle.tv_value.specs.Orders.{same_name}
use Rattle.tv_value.specs.Values.{Name, Value, list_value, text_value}
use Rattle.tv_flow.specs.Flows.{Feed, Step, constant, link, output}
use Rattle.tv_strategy.specs.Origins.{plain}
use Rattle.tv_model.specs.instance.ByResults.{InstanceStep, Results, step_by}
use Rattle.tv_model.specs.instance.Counting.{count_whole, have_ended_by, whole_by}
use Rattle.tv_model.specs.instance.Events.{Event, Events, closed, gave}
use Rattle.tv_model.specs.instance.Legality.{AreLegal, IsLegalNext}
use Rattle.tv_model.specs.instance.Readiness.{ends_by, ready_by, settles_by}

abbrev pub u : Name
u = codes "u"

abbrev pub v : Name
v = codes "v"

abbrev pub o : Name
o = codes "o"

abbrev pub texts : List Value
texts = text_value (codes "A") ∷ text_value (codes "B") ∷ []

-- one port, of that depth, and one text as output
abbrev pub one_port : ℕ → Feed → Step
one_port depth from =
    record {
      inputs = (codes "a", record { depth = depth; from = from }) ∷ [];
      outputs = (o, 0) ∷ [];
      strategy = None;
      activities = service (codes "s") ∷ [];
      retries = 0;
      jobs = 1;
      after = [];
      repeat = None;
    }

abbrev pub u_step : Name × Step
u_step = (
  u,
  one_port 0
      (constant (list_value (trees_of (text_value (codes "a") ∷ text_value (codes "b") ∷ [])))),
)

abbrev pub v_step : Name × Step
v_step = (v, one_port 1 (link (output u o)))

-- the job at place [0] gives A, and every other one B
abbrev pub results : Results
results s [] = text_value (codes "B") ∷ []
results s (zero ∷ q) = text_value (codes "A") ∷ []
results s (suc i ∷ q) = text_value (codes "B") ∷ []

abbrev pub u_done : InstanceStep
u_done = step_by [] results [] [] u_step

abbrev pub v_done : InstanceStep
v_done = step_by [] results [] (u_done ∷ []) v_step

abbrev pub both : List InstanceStep
both = v_done ∷ u_done ∷ []

-- ---- what the instance has

abbrev pub plain_inputs : InstanceStep → List (List Value)
plain_inputs f = map (λ j. map plain j.inputs) f.jobs

abbrev pub plain_outputs : InstanceStep → List (ℕ × Value)
plain_outputs f = map (λ d. (d.1.depth, plain d.1.value)) f.step.outputs

-- two jobs of u give the items of one list, which is the one input of v's one job
pub record BindsWhatJobsGive : Type 0 where
  pub outputs : plain_outputs u_done ≡ (1, list_value (trees_of texts)) ∷ []
  pub places : map (λ j. j.place) u_done.jobs ≡ (0 ∷ []) ∷ (1 ∷ []) ∷ []
  pub inputs : plain_inputs v_done ≡ (list_value (trees_of texts) ∷ []) ∷ []
  pub output : plain_outputs v_done ≡ (0, text_value (codes "B")) ∷ []

-- ---- what is known

-- the second job of u gave first, then its list was closed with two items
abbrev pub so_far : Events
so_far = closed u [] 2 ∷ gave u (1 ∷ []) (text_value (codes "B") ∷ []) ∷ []

-- then its first job gives
abbrev pub last_one : Event
last_one = gave u (0 ∷ []) (text_value (codes "A") ∷ [])

-- the list is whole once both items are, and its counter counts those that are
pub record CountsWhatIsWhole : Type 0 where
  pub early : whole_by so_far u 1 [] ≡ false
  pub item : whole_by so_far u 0 (1 ∷ []) ≡ true
  pub counter : count_whole (whole_by so_far u 0) [] 0 2 ≡ 1
  pub late : whole_by (last_one ∷ so_far) u 1 [] ≡ true

abbrev pub is_ready_v : Events → Bool
is_ready_v es = ready_by [] es both [] v [] (note v_done.step.iteration)

abbrev pub with_v : Events
with_v = gave v [] (text_value (codes "B") ∷ []) ∷ last_one ∷ so_far

abbrev pub levels : Name → ℕ
levels s = if same_name s u then 1 else 0

-- v's job is ready once u's list is whole; the instance ends once v's job gave too
pub record EndsAfterItsJobs : Type 0 where
  pub waits : is_ready_v so_far ≡ false
  pub ready : is_ready_v (last_one ∷ so_far) ≡ true
  pub done : is_ready_v with_v ≡ false
  pub open_list : settles_by [] [] u [] (note u_done.step.iteration) ≡ true
  pub closed_list : settles_by [] so_far u [] (note u_done.step.iteration) ≡ false
  pub before : ends_by [] (last_one ∷ so_far) both ≡ false
  pub after : ends_by [] with_v both ≡ true
  pub counted : have_ended_by with_v levels (v_step ∷ u_step ∷ []) (u ∷ v ∷ []) ≡ true

-- ---- what is legal

-- each of these events may come when it does; a list is closed with its length alone, and once
pub record TellsInOrder : Type 0 where
  pub legal : AreLegal [] both with_v
  pub other_length : IsLegalNext [] both [] (closed u [] 3) → ⊥
  pub twice : IsLegalNext [] both so_far (closed u [] 2) → ⊥
  pub too_early : IsLegalNext [] both so_far (gave v [] (text_value (codes "B") ∷ [])) → ⊥
