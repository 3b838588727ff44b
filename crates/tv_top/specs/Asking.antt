-- What a command asks of the services for the bytes that it reads, and what is asked by the status, where the asker tells its calls.
use Rattle.std.specs.Option.{option_map_or}
use Rattle.std.specs.Prelude.{◌≡◌, ℕ, List, [], ◌++◌, map, Bool, true, false, if◌then◌else◌, Option, Some, None, ◌⊎◌, Result, Ok, Err}
use Rattle.tv_value.specs.Values.{Text, Name}
use Rattle.tv_gate.specs.Calls.{Call, IsSameCalls}
use Rattle.tv_gate.specs.Outcomes.{Giving}
use Rattle.tv_flow.specs.Flows.{Document}
use Rattle.tv_model.specs.Meanings.{meaning}
use Rattle.tv_model.specs.Turns.{ask_order}
use Rattle.tv_work.specs.Alone.{IsFirstPart}
use Rattle.tv_work.specs.Asked.{call_of}
use Rattle.tv_top.specs.Words.{Command, run, check, trace, lineage, forward, upgrade, gen}
use Rattle.tv_top.specs.Built.{is_unbuilt}
use Rattle.tv_top.specs.Answers.{Reading, StatusLine, given_at, reading_for, answer_of}
use Rattle.tv_top.specs.Asked.{refusal_status}
use Rattle.tv_top.specs.Headline.{Source, OfDocument}
use Rattle.tv_top.specs.declared.refusal.Refusal.{Refusal}
use Rattle.tv_top.specs.declared.status.Status.{Status}
use Rattle.tv_top.specs.declared.status.Status.TheVariants.{Done, Usage, ReadFault, TooLong, NotJson, Form, Check, NotBuilt, NoSuchElement, WriteFault, NoMemory}

-- For all services. What isn't answered by a run asks nothing.
module _ (gives : Giving) where
  -- the calls of the order of one worker
  abbrev pub asks_of_run : Document → List Call
  asks_of_run d = map call_of (ask_order (meaning gives d))

  -- the calls that a command takes for an accepted document that it is built for; an element of an input that isn't there takes none
  abbrev pub asks_built : Command → Document → List Call
  asks_built run d = asks_of_run d
  asks_built check d = []
  asks_built trace d = asks_of_run d
  asks_built (lineage p q) d = asks_of_run d
  asks_built (forward p q) d = option_map_or (λ v. asks_of_run d) (given_at d p q) []
  asks_built upgrade d = []
  asks_built (gen n) d = asks_of_run d

  -- the calls that a command takes for an accepted document
  abbrev pub asks_to : Command → Document → List Call
  asks_to command d = if is_unbuilt command d then [] else asks_built command d

  abbrev pub asks_to_reading : Command → Reading → List Call
  asks_to_reading command (Ok d) = asks_to command d
  asks_to_reading command (Err refusal) = []

  module _ (knows : Name → Bool) where
    -- the calls that the answer to words and bytes takes
    abbrev pub asks_of : Option Command → List ℕ → List Call
    asks_of None bytes = []
    asks_of (Some command) bytes = asks_to_reading command (reading_for knows command bytes)

-- calls that an asker may tell
abbrev pub ToldCalls : Type 0
ToldCalls = Option (List Call)

-- told calls are followed by these
abbrev pub AsksThese : ToldCalls → ToldCalls → List Call → Type 0
AsksThese before after more = (calls : List Call) → before ≡ Some calls
    → after ≡ Some (calls ++ more)

-- told calls are followed by the first of these, as many as there are
abbrev pub BeginsThese : ToldCalls → ToldCalls → List Call → Type 0
BeginsThese before after more =
    (calls : List Call) → before ≡ Some calls → (asked : List Call)
    × (after ≡ Some (calls ++ asked)) × IsFirstPart asked more

-- what an accepted document was asked for took, by the status of the refusal where there is no text to print: these calls where an
-- element wasn't there, and where memory was wanting a beginning of them
abbrev pub RefusalAsks : ToldCalls → ToldCalls → List Call → Status → Type 0
RefusalAsks before after more Done = ⊥
RefusalAsks before after more Usage = ⊥
RefusalAsks before after more ReadFault = ⊥
RefusalAsks before after more TooLong = ⊥
RefusalAsks before after more NotJson = ⊥
RefusalAsks before after more Form = ⊥
RefusalAsks before after more Check = ⊥
RefusalAsks before after more NotBuilt = IsSameCalls before after
RefusalAsks before after more NoSuchElement = AsksThese before after more
RefusalAsks before after more WriteFault = ⊥
RefusalAsks before after more NoMemory = BeginsThese before after more

-- a text to print took these calls
abbrev pub GivesAsks : ToldCalls → ToldCalls → Result Text Refusal → List Call → Type 0
GivesAsks before after (Ok text) more = AsksThese before after more
GivesAsks before after (Err r) more = RefusalAsks before after more (refusal_status r)

-- a fact of some bytes, which are those that the source had, where it tells them
abbrev pub OfRead : Source → (List ℕ → Type 0) → Type 0
OfRead s P = ((bytes : List ℕ) × P bytes) × OfDocument s P

-- told calls are followed by those that the document takes
abbrev pub AsksForDocument : (List ℕ → List Call) → Source → ToldCalls → ToldCalls → Type 0
AsksForDocument asks s before after = OfRead s (λ bytes. AsksThese before after (asks bytes))

-- told calls are as before, or followed by a beginning of those that the document takes
abbrev pub BeginsForDocument : (List ℕ → List Call) → Source → ToldCalls → ToldCalls → Type 0
BeginsForDocument asks s before after = IsSameCalls before after
    ⊎ OfRead s (λ bytes. BeginsThese before after (asks bytes))

-- What was asked, by the status: all that the answer takes where there is one, whether or not it was written, and where an element
-- wasn't there; nothing for another refusal; and a beginning of it where memory was wanting.
abbrev pub IsAsked : (List ℕ → List Call) → Source → ToldCalls → ToldCalls → Status → Type 0
IsAsked asks s before after Done = AsksForDocument asks s before after
IsAsked asks s before after Usage = IsSameCalls before after
IsAsked asks s before after ReadFault = IsSameCalls before after
IsAsked asks s before after TooLong = IsSameCalls before after
IsAsked asks s before after NotJson = IsSameCalls before after
IsAsked asks s before after Form = IsSameCalls before after
IsAsked asks s before after Check = IsSameCalls before after
IsAsked asks s before after NotBuilt = IsSameCalls before after
IsAsked asks s before after NoSuchElement = AsksForDocument asks s before after
IsAsked asks s before after WriteFault = AsksForDocument asks s before after
IsAsked asks s before after NoMemory = BeginsForDocument asks s before after

-- the same for a text to print or a refusal
abbrev pub IsAskedFor : (List ℕ → List Call) → Source → ToldCalls → ToldCalls → Result Text Refusal
    → Type 0
IsAskedFor asks s before after (Ok text) = AsksForDocument asks s before after
IsAskedFor asks s before after (Err r) = IsAsked asks s before after (refusal_status r)

-- ---- laws

-- the words give a command that runs a document
abbrev pub is_run : Option Command → Bool
is_run None = false
is_run (Some run) = true
is_run (Some check) = false
is_run (Some trace) = true
is_run (Some (lineage p q)) = true
is_run (Some (forward p q)) = true
is_run (Some upgrade) = false
is_run (Some (gen n)) = true

-- other words take no call
abbrev pub OthersAskNothing : Type 0
OthersAskNothing =
    (gives : Giving) (knows : Name → Bool) (words : Option Command) (bytes : List ℕ)
    → is_run words ≡ false → asks_of gives knows words bytes ≡ []

-- the words ask for the lineage of an element of an output
abbrev pub is_lineage : Option Command → Bool
is_lineage None = false
is_lineage (Some run) = false
is_lineage (Some check) = false
is_lineage (Some trace) = false
is_lineage (Some (lineage p q)) = true
is_lineage (Some (forward p q)) = false
is_lineage (Some upgrade) = false
is_lineage (Some (gen n)) = false

-- no refusal takes a call, but that of an element of an output: a run tells that it isn't there
abbrev pub RefusalsAskNothing : Type 0
RefusalsAskNothing =
    (gives : Giving) (knows : Name → Bool) (words : Option Command) (bytes : List ℕ)
    (r : StatusLine)
    → (is_lineage words ≡ true → r.0 ≡ NoSuchElement → ⊥)
    → answer_of gives knows words bytes ≡ Err r → asks_of gives knows words bytes ≡ []

-- so they are followed by no call, whatever the status
abbrev pub OthersAreNotAsked : Type 0
OthersAreNotAsked =
    (gives : Giving) (knows : Name → Bool) (words : Option Command) (s : Source)
    (before after : ToldCalls) (status : Status)
    → is_run words ≡ false → IsAsked (asks_of gives knows words) s before after status
    → IsSameCalls before after
