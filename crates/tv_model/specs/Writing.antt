-- How the worked documents are written down, and what is told of them.
use Rattle.std.specs.Prelude.{List, None, Option, [], codes, map, option_map, ℕ, ◌∷◌}
use Rattle.tv_value.specs.Activities.{service}
use Rattle.tv_value.specs.Nested.{Place, trees_of}
use Rattle.tv_value.specs.Printed.{element_text, job_text}
use Rattle.tv_value.specs.Strategies.{Strategy, dot, no_strategies, port, strategy}
use Rattle.tv_value.specs.Values.{Name, Text, Value, list_value, text_value}
use Rattle.tv_local.specs.LocalGives.{local_gives}
use Rattle.tv_flow.specs.Flows.{Document, Feed, Flow, Step, StepInput, constant, input, link, output}
use Rattle.tv_model.specs.Lineages.{forward, lineage_of}
use Rattle.tv_model.specs.Made.{Meaning}
use Rattle.tv_model.specs.Meanings.{meaning}
use Rattle.tv_model.specs.Results.{result_line}
use Rattle.tv_model.specs.Turns.{ask_order}

-- ---- names and values

abbrev pub x : Name
x = codes "x"

abbrev pub y : Name
y = codes "y"

abbrev pub a : Name
a = codes "a"

abbrev pub b : Name
b = codes "b"

abbrev pub o : Name
o = codes "o"

abbrev pub words : List Text → Value
words ts = list_value (trees_of (map text_value ts))

abbrev pub lists : List Value → Value
lists vs = list_value (trees_of vs)

-- ---- feeds and ports

abbrev pub from_input : Name → Feed
from_input n = link (input n)

-- the output o of a step
abbrev pub from_step : Name → Feed
from_step s = link (output s o)

abbrev pub constant_text : Text → Feed
constant_text t = constant (text_value t)

-- a port that takes texts, and one that takes lists of texts
abbrev pub takes : Name → Feed → Name × StepInput
takes p f = (p, record { depth = 0; from = f })

abbrev pub takes_list : Name → Feed → Name × StepInput
takes_list p f = (p, record { depth = 1; from = f })

-- ---- steps and documents

-- a step that asks one service for a text, its output o
abbrev pub asks : Name → List (Name × StepInput) → Step
asks s ports =
    record {
      inputs = ports;
      outputs = (o, 0) ∷ [];
      strategy = None;
      activities = service s ∷ [];
      retries = 0;
      jobs = 1;
      after = [];
      repeat = None;
    }

-- the ports a and b in pairs
abbrev pub pairing : Strategy
pairing = dot (strategy (port a) (strategy (port b) no_strategies))

abbrev pub of_flows : List (Name × Flow) → List (Name × Value) → Document
of_flows flows values = record { format = 1; main = codes "m"; flows = flows; inputs = values }

-- of one flow, on these values
abbrev pub document : List (Name × ℕ) → List (Name × Step) → List (Name × Feed)
    → List (Name × Value) → Document
document inputs steps outputs values =
    of_flows ((codes "m", record { inputs = inputs; steps = steps; outputs = outputs }) ∷ []) values

-- the output o of a step as the output `out`
abbrev pub out : Name → List (Name × Feed)
out s = (codes "out", from_step s) ∷ []

-- ---- what is told

abbrev pub meant : Document → Meaning
meant d = meaning local_gives d

abbrev pub line : Document → Text
line d = result_line (meant d)

-- the jobs of the asks, in the order of one worker
abbrev pub asked : Document → List Text
asked d = map (λ k. job_text k.0) (ask_order (meant d))

abbrev pub made_from : Document → Name → Place → Option (List Text)
made_from d p q = option_map (map element_text) (lineage_of (meant d) p q)

abbrev pub used_in : Document → Name → Place → List Text
used_in d p q = map element_text (forward (meant d) p q)
