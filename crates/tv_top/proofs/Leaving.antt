-- How a command leaves the source, and what is answered and asked where the words give it.
use Rattle.std.specs.Prelude.{Bool, Err, List, None, Option, Result, Some, refl, ℕ, ◌≡◌}
use Rattle.std.proofs.Common.{subst}
use Rattle.tv_value.specs.Values.{Name, Text}
use Rattle.tv_gate.specs.Calls.{Call}
use Rattle.tv_check.specs.declared.run.CheckedRun.{CheckedRun}
use Rattle.tv_top.specs.Answers.{Answer, reading_for, reading_of}
use Rattle.tv_top.specs.Asking.{IsAskedFor, ToldCalls}
use Rattle.tv_top.specs.CommandViews.{reading_view}
use Rattle.tv_top.specs.Headline.{IsAnswered, IsRead, Source, left_by, read_whole}
use Rattle.tv_top.specs.Promised.{OfSource}
use Rattle.tv_top.specs.Words.{Command, ReadsNothing, check, forward, gen, lineage, run, trace, upgrade}
use Rattle.tv_top.specs.declared.refusal.Refusal.{Refusal}
use Rattle.tv_top.specs.declared.refusal.Refusal.TheVariants as why
use Rattle.tv_top.specs.declared.status.Status.TheVariants.{NoMemory}
use Rattle.tv_top.specs.declared.words.Reading.{Reading}
use Rattle.tv_top.specs.declared.words.Reading.TheVariants.{Check, Forward, Lineage, Run, Trace, Upgrade}

-- one that reads a document reads something
pub reads : (r : Reading) → ReadsNothing (Some (reading_view r)) → ⊥
reads Run h = h
reads Check h = h
reads Trace h = h
reads Upgrade h = h
reads (Lineage p q) h = h
reads (Forward p q) h = h

module _ (answer : Option Command → List ℕ → Answer) (s : Source) (x : Result Text Refusal) where
  -- a text or a refusal is the answer to a command, of what it reads
  abbrev pub IsAnswerTo : Option Command → Type 0
  IsAnswerTo o = OfSource o s (λ t. IsAnswered (left_by o) (answer o) t x)

  pub answered-read : (r : Reading) → IsAnswered read_whole (answer (Some (reading_view r))) s x
      → IsAnswerTo (Some (reading_view r))
  answered-read Run h = h
  answered-read Check h = h
  answered-read Trace h = h
  answered-read Upgrade h = h
  answered-read (Lineage p q) h = h
  answered-read (Forward p q) h = h

  pub answered-by : (p o : Option Command) → p ≡ o → IsAnswerTo p → IsAnswerTo o
  answered-by p o e h = subst IsAnswerTo e h

-- want of memory may come to any
pub short-of-memory :
    (answer : Option Command → List ℕ → Answer) (s : Source) (o : Option Command) → IsAnswerTo answer s (Err (why.Plain NoMemory)) o
short-of-memory answer s None = λ t same. (tt, refl)
short-of-memory answer s (Some run) = (tt, refl)
short-of-memory answer s (Some check) = (tt, refl)
short-of-memory answer s (Some trace) = (tt, refl)
short-of-memory answer s (Some (lineage p q)) = (tt, refl)
short-of-memory answer s (Some (forward p q)) = (tt, refl)
short-of-memory answer s (Some upgrade) = (tt, refl)
short-of-memory answer s (Some (gen n)) = λ t same. (tt, refl)

pub nothing-by : {A : Type 0} (old new : A) (p o : Option Command) → p ≡ o → (ReadsNothing p → new ≡ old) → ReadsNothing o → new ≡ old
nothing-by old new p o e h = subst (λ q. ReadsNothing q → new ≡ old) e h

-- what it reads is the document that the bytes are
pub read-for :
    (knows : Name → Bool) (s : Source) (r : Reading) (x : Result CheckedRun Refusal) → IsRead read_whole (reading_of knows) s x
    → IsRead read_whole (reading_for knows (reading_view r)) s x
read-for knows s Run x h = h
read-for knows s Check x h = h
read-for knows s Trace x h = h
read-for knows s Upgrade x h = h
read-for knows s (Lineage p q) x h = h
read-for knows s (Forward p q) x h = h

pub asked-by :
    (asks : Option Command → List ℕ → List Call) (p o : Option Command) (s : Source) (before after : ToldCalls)
    (x : Result Text Refusal)
    → p ≡ o → IsAskedFor (asks p) s before after x → IsAskedFor (asks o) s before after x
asked-by asks p o s before after x e h = subst (λ q. IsAskedFor (asks q) s before after x) e h
