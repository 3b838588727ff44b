-- Laws of how the view of a frame goes on with an entry of the history, and of where it starts.
use Rattle.std.specs.Prelude.{◌≡◌, ◌≢◌, ℕ, Bool, List, Some, [], ◌∷◌, false, is_some, map, true}
use Rattle.tv_lemmas.specs.Members.{In}
use Rattle.tv_value.specs.Nested.{Place}
use Rattle.tv_value.specs.Orders.{named}
use Rattle.tv_value.specs.Values.{ErrorDoc, JobName, Name, Value}
use Rattle.tv_gate.specs.Outcomes.{Giving}
use Rattle.tv_flow.specs.Flows.{Document, Flow}
use Rattle.tv_flow.specs.Formed.{is_formed}
use Rattle.tv_model.specs.instance.Steps.{spot}
use Rattle.tv_check.specs.Plans.{IsAccepted}
use Rattle.tv_model.specs.instance.Events as events
use Rattle.tv_model.specs.instance.Events.{Event, fault_set, gave, is_taken, took}
use Rattle.tv_model.specs.Agreeing.{FlowAgrees}
use Rattle.tv_model.specs.Jobs.{Job, good_end}
use Rattle.tv_model.specs.Meanings.{meaning}
use Rattle.tv_model.specs.RightDepths.{HaveTheseDepths}
use Rattle.tv_model.specs.Turns.{is_bounced}
use Rattle.tv_history.specs.Entries.{Entry, History, accepted, bounced, closed, ended, fault_passed, handed_out, is_ended_entry, opened, recalled}
use Rattle.tv_history.specs.Histories.{is_legal, is_open, is_settled}
use Rattle.tv_framing.specs.instances.InHistory.{Settles}
use Rattle.tv_framing.specs.Views.{View}
use Rattle.tv_forest.specs.views.InRun.{IsJobThere, IsViewOf}
use Rattle.tv_forest.specs.runs.Elsewhere.{IsElsewhere, name_in}
use Rattle.tv_forest.specs.runs.Follows.{Follows}
use Rattle.tv_forest.specs.runs.Opened.{CanBeOpened, IsOpenedBy}

-- ---- an entry that is an event of the instance

-- after this entry a view of the instance is one with this event
abbrev pub IsEvent : Giving → Document → History → JobName → View → Entry → Event → Type 0
IsEvent gives d past I v x e = (w : View) → Follows v w e → IsViewOf gives d (x ∷ past) I w

-- of every view and every instance
abbrev pub AnyView : (Giving → Document → History → JobName → View → Type 0) → Type 0
AnyView P =
    (gives : Giving) (d : Document) (past : History) (I : JobName) (v : View)
    → IsViewOf gives d past I v → P gives d past I v

abbrev pub ClosingGoesOn : Type 0
ClosingGoesOn =
    AnyView (λ gives d past I v.
    (s : Name) (q : Place) (n : ℕ)
    → IsEvent gives d past I v (closed (spot I s q) n) (events.closed s q n))

-- whatever the document of the fault is
abbrev pub PassingGoesOn : Type 0
PassingGoesOn =
    AnyView (λ gives d past I v.
    (s : Name) (q : Place) (e : ErrorDoc)
    → IsEvent gives d past I v (fault_passed (spot I s q)) (fault_set s q e))

-- the first try of a job, whichever it is
abbrev pub FirstTryGoesOn : Type 0
FirstTryGoesOn =
    AnyView (λ gives d past I v.
    (s : Name) (q : Place) (a t : ℕ)
    → IsEvent gives d past I v (handed_out (spot I s q) a t) (took s q))

-- a job that hadn't begun opens its flow
abbrev pub OpeningGoesOn : Type 0
OpeningGoesOn =
    AnyView (λ gives d past I v.
    (s : Name) (q : Place)
    → IsEvent gives d past I v (opened (spot I s q)) (took s q))

-- an entry with which a job is settled and its instance stays open: the job gave its result
abbrev pub SettledGoesOn : Type 0
SettledGoesOn =
    AnyView (λ gives d past I v.
    (j : Job) (s : Name) (q : Place) → IsJobThere gives d I j (s, q)
    → (x : Entry) → Settles (meaning gives d) past x I s q → is_open (x ∷ past) I ≡ true
    → IsEvent gives d past I v x (gave s q j.result))

-- ---- an entry that is none

-- a further try of a job that is taken
abbrev pub NextTryGoesOn : Type 0
NextTryGoesOn =
    AnyView (λ gives d past I v.
    (s : Name) (q : Place) → is_taken v.events s q ≡ true
    → (a t : ℕ) → IsViewOf gives d (handed_out (spot I s q) a t ∷ past) I v)

-- and its flow, which it opens after its tries
abbrev pub LaterOpeningTellsNothing : Type 0
LaterOpeningTellsNothing =
    AnyView (λ gives d past I v.
    (s : Name) (q : Place) → is_taken v.events s q ≡ true
    → IsViewOf gives d (opened (spot I s q) ∷ past) I v)

-- an outcome with which its job, of whatever instance, isn't settled
abbrev pub OtherTriesTellNothing : Type 0
OtherTriesTellNothing =
    AnyView (λ gives d past I v.
    (j : Job) → In j (meaning gives d).jobs
    → (a t : ℕ) (r : Bool) → is_settled (accepted j.name a t r ∷ past) j ≡ false
    → IsViewOf gives d (accepted j.name a t r ∷ past) I v)

abbrev pub RecallsTellNothing : Type 0
RecallsTellNothing =
    AnyView (λ gives d past I v. (k : ℕ) → IsViewOf gives d (recalled k ∷ past) I v)

-- ---- an entry of another instance

-- one of a job, list or fault of an instance is so for every other, but that it may end the one that the job opened
abbrev pub OthersAreElsewhere : Type 0
OthersAreElsewhere =
    (e : Entry) (I J : JobName) (s : Name) (q : Place) → name_in e ≡ Some (spot I s q)
    → J ≢ I → is_ended_entry J e ≡ false → IsElsewhere e J

-- and so is the end of the main instance
abbrev pub MainEndsElsewhere : Type 0
MainEndsElsewhere = (J : JobName) → J ≢ [] → IsElsewhere (ended []) J

abbrev pub ElsewhereTellsNothing : Type 0
ElsewhereTellsNothing =
    AnyView (λ gives d past I v. (e : Entry) → IsElsewhere e I → IsViewOf gives d (e ∷ past) I v)

-- ---- with which entries a job is settled

-- with its outcome, where it is settled then
abbrev pub AcceptingSettles : Type 0
AcceptingSettles =
    (gives : Giving) (d : Document) (past : History) (I : JobName)
    → (j : Job) (s : Name) (q : Place) → IsJobThere gives d I j (s, q)
    → (a t : ℕ) (r : Bool) → is_settled (accepted j.name a t r ∷ past) j ≡ true
    → Settles (meaning gives d) past (accepted j.name a t r) I s q

-- and with its bouncing, where it is to be bounced
abbrev pub BouncingSettles : Type 0
BouncingSettles =
    (gives : Giving) (d : Document) (past : History) (I : JobName)
    → (j : Job) (s : Name) (q : Place) → IsJobThere gives d I j (s, q)
    → is_bounced j.ending ≡ true
    → Settles (meaning gives d) past (bounced j.name) I s q

-- and with the end of the flow that it opened
abbrev pub EndingSettles : Type 0
EndingSettles =
    (gives : Giving) (d : Document) (past : History) (I : JobName)
    → (j : Job) (s : Name) (q : Place) → IsJobThere gives d I j (s, q)
    → is_some j.opens ≡ true
    → Settles (meaning gives d) past (ended j.name) I s q

-- which is good
abbrev pub OpenersAreGood : Type 0
OpenersAreGood =
    (gives : Giving) (d : Document) (j : Job) → In j (meaning gives d).jobs
    → is_some j.opens ≡ true
    → j.ending ≡ good_end

-- ---- the start

-- the main flow, where the document is accepted
pub record IsMainFlow (d : Document) (flow : Flow) : Type 0 where
  pub formed : is_formed d ≡ true
  pub accepted : IsAccepted d
  pub is_main : named d.main d.flows ≡ Some flow

-- before any entry a view of it on the document's inputs, told nothing, is of the main instance
abbrev pub MainStarts : Type 0
MainStarts =
    (gives : Giving) (d : Document) (flow : Flow) → IsMainFlow d flow
    → (v : View) → v.flow ≡ flow → v.inputs ≡ d.inputs → v.events ≡ []
    → IsViewOf gives d [] [] v

-- its depths agree, and it is given a value of its declared depth for each input, in their order
pub record IsGivenInOrder (d : Document) (flow : Flow) : Type 0 where
  pub agrees : FlowAgrees d.flows flow
  pub names : map (λ x. x.0) d.inputs ≡ map (λ x. x.0) flow.inputs
  pub right : HaveTheseDepths (map (λ x. x.1) flow.inputs) (map (λ x. x.1) d.inputs)
  -- no other list has the inputs' names and these values
  pub only :
      (given : List (Name × Value)) → map (λ x. x.0) given ≡ map (λ x. x.0) flow.inputs
      → map (λ x. x.1) given ≡ map (λ x. x.1) d.inputs → given ≡ d.inputs

abbrev pub InputsAreInOrder : Type 0
InputsAreInOrder = (d : Document) (flow : Flow) → IsMainFlow d flow → IsGivenInOrder d flow

-- a view of the flow that a job opens, told nothing, is of the instance from its opening on
abbrev pub OpenedStarts : Type 0
OpenedStarts =
    (gives : Giving) (d : Document) (past : History) (j : Job) (v : View)
    → is_formed d ≡ true → IsAccepted d → In j (meaning gives d).jobs
    → is_legal gives (meaning gives d) (opened j.name ∷ past) ≡ true
    → IsOpenedBy d j v
    → IsViewOf gives d (opened j.name ∷ past) j.name v

-- and a frame of it can start
abbrev pub OpenedFit : Type 0
OpenedFit =
    (gives : Giving) (d : Document) (j : Job) (g : Name)
    → is_formed d ≡ true → IsAccepted d → In j (meaning gives d).jobs
    → j.opens ≡ Some g
    → CanBeOpened d j g
