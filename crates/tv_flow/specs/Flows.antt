-- Documents as the engine reads them. Every list of names with things is in byte order of the names.
use Rattle.std.specs.Prelude.{ℕ, List, Option}
use Rattle.tv_value.specs.Values.{Name, Value}
use Rattle.tv_value.specs.Strategies.{Strategy}
use Rattle.tv_value.specs.Activities.{Activity, Repeat}

-- where a value comes from: an input of the flow, or an output of one of its steps
pub data Link : Type 0 where
  input : Name → Link
  output : Name → Name → Link

-- what an input port is fed with
pub data Feed : Type 0 where
  link : Link → Feed
  merge : List Link → Feed
  constant : Value → Feed

pub record StepInput : Type 0 where
  pub depth : ℕ
  pub from : Feed

pub record Step : Type 0 where
  pub inputs : List (Name × StepInput)
  pub outputs : List (Name × ℕ)
  pub strategy : Option Strategy
  pub activities : List Activity
  pub retries : ℕ
  pub jobs : ℕ
  pub after : List Name
  pub repeat : Option Repeat

pub record Flow : Type 0 where
  pub inputs : List (Name × ℕ)
  pub steps : List (Name × Step)
  pub outputs : List (Name × Feed)

pub record Document : Type 0 where
  pub format : ℕ
  pub main : Name
  pub flows : List (Name × Flow)
  pub inputs : List (Name × Value)

-- the same document in the second format, which has all that the first has
abbrev pub upgraded : Document → Document
upgraded d = record d { format = 2 }
