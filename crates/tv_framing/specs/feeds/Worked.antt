-- Worked examples: of `tv_model`'s two steps, u makes a list of two texts, and v takes that list whole. They compute.
use Rattle.std.specs.Prelude.{◌≡◌, ℕ, true, false, [], ◌∷◌, codes, if◌then◌else◌}
use Rattle.tv_value.specs.Orders.{same_name}
use Rattle.tv_value.specs.Values.{Name, text_value}
use Rattle.tv_flow.specs.Flows.{Flow, StepInput, link, output}
use Rattle.tv_model.specs.instance.Events.{Event, gave}
use Rattle.tv_model.specs.instance.Worked.{last_one, o, so_far, u, u_step, v_step}
use Rattle.tv_framing.specs.Frames.{with_event}
use Rattle.tv_framing.specs.Views.{View}
use Rattle.tv_framing.specs.keeping.NextEvents.{is_whole_step}
use Rattle.tv_framing.specs.feeds.Fed.{event_number, given_at, has_all_now, newly}

abbrev pub flow : Flow
flow = record { inputs = []; steps = u_step ∷ v_step ∷ []; outputs = [] }

-- u iterates a list, and v doesn't
abbrev pub levels : Name → ℕ
levels s = if same_name s u then 1 else 0

-- nothing was told
abbrev pub started : View
started = record { flow = flow; inputs = []; events = []; jobs = (u, 0 ∷ []) ∷ (u, 1 ∷ []) ∷ [] }

-- all but the result of u's first job was told
abbrev pub almost : View
almost = record started { events = so_far }

-- v's port
abbrev pub port : Name × StepInput
port = (codes "a", record { depth = 1; from = link (output u o) })

abbrev pub second : Event
second = gave u (1 ∷ []) (text_value (codes "B") ∷ [])

-- u's second job gives a text, with which one item becomes whole
pub record ShowsFirstEvent : Type 0 where
  pub number : event_number started second ≡ 0
  pub given : given_at flow second o ≡ text_value (codes "B")
  pub item : newly levels started second (1 ∷ []) ≡ true
  pub list : newly levels started second [] ≡ false
  pub port_waits : has_all_now levels started second v_step.1 port ≡ false

-- with the last result u becomes whole, and v's port has all of its feed
pub record ShowsLastEvent : Type 0 where
  pub given : given_at flow last_one o ≡ text_value (codes "A")
  pub item : newly levels almost last_one (0 ∷ []) ≡ true
  pub list : newly levels almost last_one [] ≡ true
  pub before : is_whole_step levels almost 0 ≡ false
  pub after : is_whole_step levels (with_event almost last_one []) 0 ≡ true
  pub port_has : has_all_now levels almost last_one v_step.1 port ≡ true
  -- v isn't whole before its own job gave
  pub fed_step : is_whole_step levels (with_event almost last_one []) 1 ≡ false
