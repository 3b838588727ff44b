-- What each entry changes of the instances of a run: one law an entry.
use Rattle.std.specs.Prelude.{List, None, Some, [], false, is_some, length, map, option_map, slice_get, slice_set, true, ℕ, ◌++◌, ◌<◌, ◌∷◌, ◌≡◌}
use Rattle.tv_value.specs.Nested.{Place}
use Rattle.tv_value.specs.Values.{JobName, Name}
use Rattle.tv_gate.specs.Outcomes.{Giving}
use Rattle.tv_flow.specs.Flows.{Document, Flow}
use Rattle.tv_model.specs.instance.Steps.{spot}
use Rattle.tv_model.specs.instance.Events.{Event, gave, took}
use Rattle.tv_model.specs.Jobs.{Job}
use Rattle.tv_model.specs.Meanings.{meaning}
use Rattle.tv_history.specs.Entries.{Entry, History, accepted, ended, handed_out, is_ended_entry, is_opened_entry, opened, recalled}
use Rattle.tv_history.specs.Histories.{can_end, is_legal_after, is_settled, out_count}
use Rattle.tv_framing.specs.Answers.{CanSettle}
use Rattle.tv_framing.specs.Views.{View}
use Rattle.tv_seats.specs.Seats.{Seat, back, with_stage}
use Rattle.tv_seats.specs.declared.stage.Stage.{Stage}
use Rattle.tv_seats.specs.declared.stage.Stage.TheVariants as stage
use Rattle.tv_forest.specs.views.Stated.{entry_of}
use Rattle.tv_forest.specs.runs.Elsewhere.{name_in}
use Rattle.tv_forest.specs.runs.Opened.{IsOpenedBy}
use Rattle.tv_forest.specs.runs.Stated.{IsMainFlow}
use Rattle.tv_forest.specs.seats.GoingOn.{GoesOn, IsNew, MaySettle}
use Rattle.tv_forest.specs.seats.Seated.{IsNextFlow, IsNextTry, spot_of}
use Rattle.tv_forest.specs.Forest.{Instance, Instances, IsAt, IsJobAt, Stand, Stays}

-- ---- the changes

abbrev pub seated : Instance → List Seat → Instance
seated x ss = record { name = x.name; flow = x.flow; seats = ss; view = x.view }

-- told so much, with these seats
abbrev pub with_view : Instance → View → List Seat → Instance
with_view x v ss = record { name = x.name; flow = x.flow; seats = ss; view = Some v }

abbrev pub shut : Instance → Instance
shut x = record { name = x.name; flow = x.flow; seats = x.seats; view = None }

abbrev pub with_instance : Instances → ℕ → Instance → Instances
with_instance xs i y = slice_set xs i y

-- all that is out of it is idle again
abbrev pub called_back : Instance → Instance
called_back x = seated x (map back x.seats)

-- ---- the start

-- the main instance, told so much
abbrev pub main_of : View → List Seat → Instance
main_of v ss = record { name = []; flow = v.flow; seats = ss; view = Some v }

-- before any entry it is alone, and told nothing
abbrev pub Starting : Type 0
Starting =
    (gives : Giving) (d : Document) (levels : Flow → Name → ℕ) (v : View) (ss : List Seat)
    → IsMainFlow d v.flow → v.inputs ≡ d.inputs → IsNew d (levels v.flow) v ss
    → Stand gives d levels [] (main_of v ss ∷ [])

-- ---- in every run

-- P holds in every run
abbrev pub InEveryForest : (Giving → Document → (Flow → Name → ℕ) → History → Instances → Type 0)
    → Type 0
InEveryForest P =
    (gives : Giving) (d : Document) (levels : Flow → Name → ℕ) (past : History) (xs : Instances)
    → Stand gives d levels past xs → P gives d levels past xs

-- of each job with a seat in an open instance, which was told so much
abbrev pub AtEachJob :
    (Giving → Document → (Flow → Name → ℕ) → History → Instances → ℕ → ℕ → Instance → Seat → Job
    → View → Type 0) → Type 0
AtEachJob P =
    InEveryForest (λ gives d levels past xs.
    (i n : ℕ) (x : Instance) (s : Seat) (j : Job) (v : View)
    → IsJobAt gives d xs i n x s j → x.view ≡ Some v
    → P gives d levels past xs i n x s j v)

-- ---- one instance changes

-- y is x later on: of the same name and flow, open as x is, with the same jobs in their seats and perhaps more, of which the
-- same have open flows
pub record GoesOnAs (x y : Instance) : Type 0 where
  pub name : y.name ≡ x.name
  pub flow : y.flow ≡ x.flow
  pub as_open : is_some y.view ≡ is_some x.view
  pub inputs : option_map (λ (v : View). v.inputs) y.view
      ≡ option_map (λ (v : View). v.inputs) x.view
  pub seats :
      (n : ℕ) (s : Seat) → slice_get x.seats n ≡ Some s
      → (t : Seat) × (slice_get y.seats n ≡ Some t) × (t.step ≡ s.step) × (t.place ≡ s.place)
  pub nested :
      (n k : ℕ) (t : Seat) → slice_get y.seats n ≡ Some t → t.stage ≡ stage.Nested k
      → (s : Seat) × (slice_get x.seats n ≡ Some s) × (s.stage ≡ stage.Nested k)
  pub still_nested :
      (n k : ℕ) (s t : Seat) → slice_get x.seats n ≡ Some s → slice_get y.seats n ≡ Some t
      → s.stage ≡ stage.Nested k → t.stage ≡ stage.Nested k

-- the law by which all entries but openings, ends and recalls go: with an entry of instance i this one is another, and all
-- others stay as they are
abbrev pub OneGoesOn : Type 0
OneGoesOn =
    InEveryForest (λ gives d levels past xs.
    (e : Entry) (i : ℕ) (x y : Instance) (s : Name) (q : Place)
    → IsAt xs i x → name_in e ≡ Some (spot x.name s q)
    → is_legal_after gives (meaning gives d) past e ≡ true
    → ((n : JobName) → is_opened_entry n e ≡ false) → ((n : JobName) → is_ended_entry n e ≡ false)
    → GoesOnAs x y → Stays gives d levels (e ∷ past) y y.view
    → Stand gives d levels (e ∷ past) (with_instance xs i y))

-- ---- one law an entry

-- a waiting job's next try goes out
abbrev pub HandingOutFirst : Type 0
HandingOutFirst =
    AtEachJob (λ gives d levels past xs i n x s j v.
    (a t : ℕ) (w : View) → s.stage ≡ stage.Waiting → IsNextTry past j a t
    → is_legal_after gives (meaning gives d) past (handed_out j.name a t) ≡ true
    → GoesOn d (levels x.flow) v w (took (spot_of x.flow.steps s).0 s.place) []
    → Stand gives d levels (handed_out j.name a t ∷ past)
    (with_instance xs i (with_view x w (with_stage n (stage.Out a t) x.seats))))

-- and an idle job's, of which its frame is told nothing
abbrev pub HandingOutAgain : Type 0
HandingOutAgain =
    AtEachJob (λ gives d levels past xs i n x s j v.
    (a t : ℕ) → s.stage ≡ stage.Idle a t
    → is_legal_after gives (meaning gives d) past (handed_out j.name a t) ≡ true
    → Stand gives d levels (handed_out j.name a t ∷ past)
    (with_instance xs i (seated x (with_stage n (stage.Out a t) x.seats))))

-- an outcome or a bouncing settles the job, and jobs may become known with that
abbrev pub Settling : Type 0
Settling =
    AtEachJob (λ gives d levels past xs i n x s j v.
    (e : Entry) (w : View) (ns : List Seat)
    → MaySettle j s.stage e → ((k : JobName) → is_ended_entry k e ≡ false)
    → is_legal_after gives (meaning gives d) past e ≡ true → is_settled (e ∷ past) j ≡ true
    → GoesOn d (levels x.flow) v w (gave (spot_of x.flow.steps s).0 s.place j.result) ns
    → Stand gives d levels (e ∷ past)
    (with_instance xs i (with_view x w (with_stage n stage.Settled x.seats ++ ns))))

-- where an outcome doesn't settle it, the job has this try or this flow next
abbrev pub GoesOnWith : History → Job → Stage → Type 0
GoesOnWith past j (stage.Idle b u) = IsNextTry past j b u
GoesOnWith past j (stage.Aside b) = IsNextFlow past j b
GoesOnWith past j stage.Waiting = ⊥
GoesOnWith past j (stage.Out a t) = ⊥
GoesOnWith past j (stage.Nested i) = ⊥
GoesOnWith past j stage.Settled = ⊥

abbrev pub TryingAgain : Type 0
TryingAgain =
    AtEachJob (λ gives d levels past xs i n x s j v.
    (a t : ℕ) (y : Stage) → s.stage ≡ stage.Out a t
    → is_legal_after gives (meaning gives d) past (accepted j.name a t false) ≡ true
    → is_settled (accepted j.name a t false ∷ past) j ≡ false
    → GoesOnWith (accepted j.name a t false ∷ past) j y
    → Stand gives d levels (accepted j.name a t false ∷ past)
    (with_instance xs i (seated x (with_stage n y x.seats))))

-- a list of an open instance is closed, or a fault passed
abbrev pub LevelSettling : Type 0
LevelSettling =
    InEveryForest (λ gives d levels past xs.
    (i : ℕ) (x : Instance) (v w : View) (e : Event) (ns : List Seat)
    → IsAt xs i x → x.view ≡ Some v → CanSettle v e → GoesOn d (levels x.flow) v w e ns
    → Stand gives d levels (entry_of x.name e ∷ past)
    (with_instance xs i (with_view x w (x.seats ++ ns))))

-- all that is out, of whatever instance, is recalled
abbrev pub Recalling : Type 0
Recalling =
    InEveryForest (λ gives d levels past xs.
    (k : ℕ) → k ≡ out_count (meaning gives d) past → 0 < k
    → Stand gives d levels (recalled k ∷ past) (map called_back xs))

-- ---- openings

-- a new instance, of the flow that the job opens, on what the job binds
pub record IsFresh (d : Document) (levels : Flow → Name → ℕ) (j : Job) (y : Instance)
    (w : View) : Type 0 where
  pub name : y.name ≡ j.name
  pub view : y.view ≡ Some w
  pub flow : w.flow ≡ y.flow
  pub opened_by : IsOpenedBy d j w
  pub new : IsNew d (levels y.flow) w y.seats

-- the job that opens is a waiting one, of which its frame is told, or one that was tried before
abbrev pub IsTakenFor : Document → (Flow → Name → ℕ) → Instance → Seat → View → View → Stage
    → Type 0
IsTakenFor d levels x s v w stage.Waiting = GoesOn d (levels x.flow) v w
    (took (spot_of x.flow.steps s).0 s.place) []
IsTakenFor d levels x s v w (stage.Aside a) = w ≡ v
IsTakenFor d levels x s v w (stage.Out a t) = ⊥
IsTakenFor d levels x s v w (stage.Idle a t) = ⊥
IsTakenFor d levels x s v w (stage.Nested i) = ⊥
IsTakenFor d levels x s v w stage.Settled = ⊥

-- the new instance is the last, and its number stands in the job's seat
abbrev pub Opening : Type 0
Opening =
    AtEachJob (λ gives d levels past xs i n x s j v.
    (w u : View) (y : Instance)
    → is_legal_after gives (meaning gives d) past (opened j.name) ≡ true
    → IsTakenFor d levels x s v w s.stage → IsFresh d levels j y u
    → Stand gives d levels (opened j.name ∷ past)
    (with_instance xs i (with_view x w (with_stage n (stage.Nested (length xs)) x.seats)) ++ y
    ∷ []))

-- ---- ends

-- instance k ends, which job n of instance i opened: the job gives its result, and jobs may become known with that
abbrev pub Ending : Type 0
Ending =
    AtEachJob (λ gives d levels past xs i n x s j v.
    (k : ℕ) (y : Instance) (w : View) (ns : List Seat)
    → s.stage ≡ stage.Nested k → IsAt xs k y
    → can_end (meaning gives d) past j.name ≡ true
    → GoesOn d (levels x.flow) v w (gave (spot_of x.flow.steps s).0 s.place j.result) ns
    → Stand gives d levels (ended j.name ∷ past)
    (with_instance (with_instance xs i (with_view x w (with_stage n stage.Settled x.seats ++ ns))) k
    (shut y)))

-- the main instance ends
abbrev pub EndingMain : Type 0
EndingMain =
    InEveryForest (λ gives d levels past xs.
    (x : Instance) → IsAt xs 0 x → can_end (meaning gives d) past [] ≡ true
    → Stand gives d levels (ended [] ∷ past) (with_instance xs 0 (shut x)))

-- then none is open: all others had ended before
abbrev pub NoneOpenAtEnd : Type 0
NoneOpenAtEnd =
    InEveryForest (λ gives d levels past xs.
    (x : Instance) → IsAt xs 0 x → x.view ≡ None
    → (i : ℕ) (y : Instance) → IsAt xs i y → y.view ≡ None)
