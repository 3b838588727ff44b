-- What an event of a step tells each step that it feeds, and which steps are told something.
use Rattle.std.specs.List.{range_with_len}
use Rattle.std.specs.Global.{Global}
use Rattle.std.specs.Prelude.{◌≡◌, ℕ, ◌+◌, ◌==◌, ◌<◌, ◌||◌, not, nat_lt, Bool, false, if◌then◌else◌, List, [], ◌++◌, filter, flat_map, get_or, length, map, slice_index_or, Vec}
use Rattle.tv_lemmas.specs.Members.{Each}
use Rattle.tv_value.specs.Values.{holds_fault}
use Rattle.tv_value.specs.Strategies.{Strategy}
use Rattle.tv_parts.specs.Partials.{holds_some}
use Rattle.tv_pool.specs.declared.handles.Region.{Region}
use Rattle.tv_matching.specs.Told.{Told}
use Rattle.tv_telling.specs.declared.ways.Event.{Event}
use Rattle.tv_telling.specs.declared.ways.Way.{Way}
use Rattle.tv_telling.specs.declared.ways.Whole.{Whole}
use Rattle.tv_telling.specs.Views.{HasOutput, way_tellings, whole_telling}
use Rattle.tv_check.specs.declared.feeds.NumberedLink.{NumberedLink}
use Rattle.tv_check.specs.declared.feeds.NumberedLink.TheVariants.{Input, Output}
use Rattle.tv_check.specs.declared.feeds.NumberedFeed.{NumberedFeed}
use Rattle.tv_check.specs.declared.feeds.NumberedFeed.TheVariants.{Link, Merge, Constant}
use Rattle.tv_check.specs.declared.ports.Port.{Port}
use Rattle.tv_check.specs.declared.wires.Wire.{Wire}
use Rattle.tv_check.specs.declared.wiring.Wiring.{Wiring}
use Rattle.tv_check.specs.Turned.{all_wires, from_each}
use Rattle.tv_telling.specs.endings.Ends.{is_whole}
use Rattle.tv_outputs.specs.Known.{known, tree_in}
use Rattle.tv_outputs.specs.Kept.{Stand}
use Rattle.tv_spread.specs.declared.around.Around.{Around}
use Rattle.tv_telling.specs.Along.{is_walked, ways_into, wires_from}
use Rattle.tv_spread.specs.Wholes.{feed_faulty, wholes_with}

-- ---- which values hold a fault once event e of step s has happened

abbrev pub input_faulty : Around → ℕ → Bool
input_faulty a x = slice_index_or a.faulty_inputs.now x false

-- the number of the tree of a step's output
abbrev pub tree_number : Around → ℕ → ℕ → ℕ
tree_number a t o = slice_index_or a.firsts.now t 0 + o

-- of an output of the event's own step the event says it, of any other its tree
abbrev pub output_faulty : Around → ℕ → Event → ℕ → ℕ → Bool
output_faulty a s e t o =
    if t == s then nat_lt 0 (get_or e.faults.now o 0)
    else holds_some holds_fault (tree_in (known a.pool.now a.outputs.now) (tree_number a t o))

abbrev pub delivers_fault : Around → ℕ → Event → NumberedFeed → Bool
delivers_fault a s e f = feed_faulty (input_faulty a) (output_faulty a s e) f

-- ---- what step c is told with it

abbrev pub ports_at : Around → ℕ → List Port
ports_at a c = slice_index_or a.wiring.now.ports c []

abbrev pub ways_at : Around → ℕ → ℕ → List Way
ways_at a s c = ways_into c (wires_from a.wiring.now s)

-- the wires along which it is told: those into ports that take their feeds at once only where it
-- makes its step whole
abbrev pub wires_along : Around → ℕ → Event → List Wire
wires_along a s e =
    if e.whole_from == 0 then wires_from a.wiring.now s
    else filter is_walked (wires_from a.wiring.now s)

-- of ports that take their feeds at once only where the event makes its step whole
abbrev pub wholes_among : Around → ℕ → Event → List Port → List Whole
wholes_among a s e ps = if e.whole_from == 0
    then wholes_with (is_whole a.endings.now) s (delivers_fault a s e) ps else []

abbrev pub wholes_at : Around → ℕ → Event → ℕ → List Whole
wholes_at a s e c = wholes_among a s e (ports_at a c)

abbrev pub tellings_by : Event → List Way → List Whole → Strategy → List Told
tellings_by e ways whole strategy = flat_map (way_tellings strategy e) ways
    ++ map (whole_telling strategy) whole

abbrev pub told_at : Around → ℕ → Event → ℕ → Strategy → List Told
told_at a s e c = tellings_by e (ways_at a s c) (wholes_at a s e c)

-- ---- which steps are told something

abbrev pub tells_some : List Way → List Whole → Bool
tells_some ways whole = not (length ways == 0) || not (length whole == 0)

abbrev pub is_told : Around → ℕ → Event → ℕ → Bool
is_told a s e c = tells_some (ways_at a s c) (wholes_at a s e c)

-- in order
abbrev pub told_steps : Around → ℕ → Event → List ℕ
told_steps a s e = filter (is_told a s e) (range_with_len 0 (length a.wiring.now.ports))

-- ---- what is so of what is around

-- for each step the wires that come from it are the links of all ports, turned round
abbrev pub AreWires : Wiring → Type 0
AreWires w = w.wires ≡ from_each (range_with_len 0 (length w.ports)) (all_wires w.ports)

-- for each step those of them into ports that walk some levels
abbrev pub AreWalked : List (Vec Wire Global) → Wiring → Type 0
AreWalked rows w = map (λ row. row.items) rows ≡ map (filter is_walked) w.wires

-- a link is of a step that there is, of one of its outputs
pub record IsOfOutput (a : Around) (s : ℕ) (e : Event) (t o : ℕ) : Type 0 where
  pub step : t < length a.endings.now.whole.items
  pub first : t < length a.firsts.now
  pub tree : tree_number a t o < length (known a.pool.now a.outputs.now)
  pub own : t ≡ s → HasOutput e o

abbrev pub IsLinked : Around → ℕ → Event → NumberedLink → Type 0
IsLinked a s e (Input x) = x < length a.faulty_inputs.now
IsLinked a s e (Output t o) = IsOfOutput a s e t o

abbrev pub IsFed : Around → ℕ → Event → NumberedFeed → Type 0
IsFed a s e (Link l) = IsLinked a s e l
IsFed a s e (Merge ls) = Each (IsLinked a s e) ls
IsFed a s e Constant = Unit {0}

-- each feed is of what is there, for event e of step s
pub record IsAround (a : Around) (s : ℕ) (e : Event) : Type 0 where
  pub step : s < length a.wiring.now.ports
  pub wires : AreWires a.wiring.now
  pub walked : AreWalked a.walked.now a.wiring.now
  pub fed : Each (λ (ps : List Port). Each (λ (p : Port). IsFed a s e p.feed) ps) a.wiring.now.ports
  pub region : Region
  pub stand : Stand a.pool.now a.outputs.now region
