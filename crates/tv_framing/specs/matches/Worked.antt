-- Worked examples: a step that crosses a list with a list of lists, and what its matcher brings.
-- They compute.
use Rattle.std.specs.Prelude.{◌≡◌, ℕ, zero, suc, List, [], ◌∷◌, None, Some, Option, codes, map}
use Rattle.tv_value.specs.Activities.{service}
use Rattle.tv_value.specs.Strategies.{Strategy, dot, no_strategies, port, strategy}
use Rattle.tv_value.specs.Values.{Name}
use Rattle.tv_flow.specs.Flows.{Flow, Step, StepInput, input, link}
use Rattle.tv_matching.specs.Matchers.{Outcome, fault_at, job_at, list_at}
use Rattle.tv_model.specs.instance.Events.{Event, Events, closed, fault_set, gave, took}
use Rattle.tv_framing.specs.matches.Items.{part_at, unnamed}
use Rattle.tv_framing.specs.matches.Jobs.{all_jobs}
use Rattle.tv_framing.specs.matches.Waiting.{waiting_of}

abbrev pub a : Name
a = codes "a"

abbrev pub b : Name
b = codes "b"

abbrev pub s : Name
s = codes "s"

abbrev pub t : Name
t = codes "t"

-- a port that takes one text of an input
abbrev pub takes : Name → Name → Name × StepInput
takes n x = (n, record { depth = 0; from = link (input x) })

-- ports a and b each take one text of these inputs
abbrev pub two_ports : Name → Name → Option Strategy → Step
two_ports x y how =
    record {
      inputs = takes a x ∷ takes b y ∷ [];
      outputs = (codes "o", 0) ∷ [];
      strategy = how;
      activities = service (codes "q") ∷ [];
      retries = 0;
      jobs = 1;
      after = [];
      repeat = None;
    }

abbrev pub crossing : Step
crossing = two_ports (codes "x") (codes "y") None

abbrev pub pairing : Step
pairing =
    two_ports (codes "x") (codes "x")
    (Some (dot (strategy (port a) (strategy (port b) no_strategies))))

-- x is a list, y a list of lists
abbrev pub flow : Flow
flow =
    record {
      inputs = (codes "x", 1) ∷ (codes "y", 2) ∷ [];
      steps = (s, crossing) ∷ (t, pairing) ∷ [];
      outputs = [];
    }

-- in a cross the first leaf has the first index, and the second the others; also where a fault ends
-- a place early
pub record FindsParts : Type 0 where
  pub first : part_at flow crossing (3 ∷ 1 ∷ 2 ∷ []) 0 ≡ 3 ∷ []
  pub second : part_at flow crossing (3 ∷ 1 ∷ 2 ∷ []) 1 ≡ 1 ∷ 2 ∷ []
  pub first_fails : part_at flow crossing [] 0 ≡ []
  pub second_fails : part_at flow crossing (3 ∷ 1 ∷ []) 1 ≡ 1 ∷ []
  pub paired : part_at flow pairing (4 ∷ []) 1 ≡ 4 ∷ []

-- a list of two, a job and a fault of the second leaf
abbrev pub brings : List Outcome
brings = list_at [] 2 ∷ job_at (0 ∷ 0 ∷ 0 ∷ []) ∷ fault_at (1 ∷ []) 1 ∷ []

abbrev pub by_number : ℕ → List Outcome
by_number zero = brings
by_number (suc n) = job_at (7 ∷ []) ∷ []

abbrev pub wait : List Outcome
wait = list_at [] 2 ∷ fault_at (1 ∷ []) 1 ∷ []

-- the fault there
abbrev pub fault_there : Event
fault_there = fault_set s (1 ∷ []) (record { at = []; depth = 0; why = []; from = [] })

-- the job runs and gives nothing
abbrev pub runs : Events
runs = gave s (0 ∷ 0 ∷ 0 ∷ []) [] ∷ took s (0 ∷ 0 ∷ 0 ∷ []) ∷ []

-- jobs stand with the names of their steps; the list waits until it is closed, and the fault until
-- it is set
pub record SortsOutcomes : Type 0 where
  pub jobs : all_jobs flow by_number ≡ (s, 0 ∷ 0 ∷ 0 ∷ []) ∷ (t, 7 ∷ []) ∷ []
  pub by_places :
      map unnamed brings ≡ list_at [] 2 ∷ job_at (0 ∷ 0 ∷ 0 ∷ []) ∷ fault_at (1 ∷ []) 0 ∷ []
  pub at_first : waiting_of [] s brings ≡ wait
  pub list_closed : waiting_of (closed s [] 2 ∷ []) s brings ≡ fault_at (1 ∷ []) 1 ∷ []
  pub other_step : waiting_of (closed t [] 2 ∷ []) s brings ≡ wait
  pub both : waiting_of (fault_there ∷ closed s [] 2 ∷ []) s brings ≡ []
  pub job_runs : waiting_of runs s brings ≡ wait
