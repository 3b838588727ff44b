-- Where no stream counted a fault, the status is that of the answer, or memory was wanting.
use Rattle.std.specs.Prelude.{List, refl, ℕ}
use Rattle.std.proofs.Common.{ap, inl, inr, sym}
use Rattle.tv_top.specs.Answers.{Answer}
use Rattle.tv_top.specs.Headline.{Cause, IsComplete, Leaving, Sink, Source, status_of}
use Rattle.tv_top.specs.declared.status.Status.{Status}
use Rattle.tv_top.specs.declared.status.Status.TheVariants.{Done, Usage, ReadFault, TooLong, NotJson, Form, Check, NotBuilt, NoSuchElement, WriteFault, NoMemory}

pub completed :
    (left : Leaving) (answer : List ℕ → Answer) (s : Source) (out : Sink) (status : Status) → Cause left answer s out status
    → IsComplete answer s out status
completed left answer s out Done h = λ bytes e sound written. inl (sym (ap status_of (h bytes e).1))
completed left answer s out Usage h = λ bytes e sound written. inl (sym (ap status_of (h bytes e).1))
completed left answer s out ReadFault h = λ bytes e sound written. absurd (sound h)
completed left answer s out TooLong h = λ bytes e sound written. inl (sym (ap status_of (h bytes e).1))
completed left answer s out NotJson h = λ bytes e sound written. inl (sym (ap status_of (h bytes e).0.1))
completed left answer s out Form h = λ bytes e sound written. inl (sym (ap status_of (h bytes e).0.1))
completed left answer s out Check h = λ bytes e sound written. inl (sym (ap status_of (h bytes e).0.1))
completed left answer s out NotBuilt h = λ bytes e sound written. inl (sym (ap status_of (h bytes e).0.1))
completed left answer s out NoSuchElement h = λ bytes e sound written. inl (sym (ap status_of (h bytes e).0.1))
completed left answer s out WriteFault h = λ bytes e sound written. absurd (written h.0)
completed left answer s out NoMemory h = λ bytes e sound written. inr refl
