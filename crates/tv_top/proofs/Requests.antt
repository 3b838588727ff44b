-- Only a run that is answered asks for something.
use Rattle.std.specs.Option.{option_map_or}
use Rattle.std.specs.Prelude.{◌≡◌, ℕ, List, [], ◌∷◌, ◌++◌, Bool, true, false, Option, Some, None, option_map, Ok, Err, if◌then◌else◌, refl}
use Rattle.std.proofs.Common.{ap, sym, subst, ◌∙◌, true≢false, inl, inr}
use Rattle.std.proofs.lemmas.List.{append-nil}
use Rattle.tv_value.specs.Nested.{Place}
use Rattle.tv_value.specs.Values.{Name, Text, Value}
use Rattle.tv_gate.specs.Calls.{Call, IsSameCalls}
use Rattle.tv_gate.specs.Outcomes.{Giving}
use Rattle.tv_flow.specs.Flows.{Document}
use Rattle.tv_words.specs.elements.Lines.{element_lines}
use Rattle.tv_model.specs.Lineages as model
use Rattle.tv_model.specs.Meanings.{meaning}
use Rattle.tv_top.specs.Words.{Command, run, check, trace, lineage, forward, upgrade, gen}
use Rattle.tv_top.specs.Built.{is_unbuilt}
use Rattle.tv_top.specs.Answers.{Answer, Reading, always, answer_built, answer_of, answer_to, answer_to_reading, given_at, lineage_text, reading_for, reading_of, unless_absent}
use Rattle.tv_top.specs.Asking.{AsksThese, BeginsThese, BeginsForDocument, IsAsked, OthersAreNotAsked, OthersAskNothing, RefusalsAskNothing, ToldCalls, asks_of, asks_built, asks_of_run, asks_to, asks_to_reading, is_lineage, is_run}
use Rattle.tv_top.specs.Headline.{Source}
use Rattle.tv_top.specs.declared.status.Status.{Status}
use Rattle.tv_top.specs.declared.status.Status.TheVariants.{Done, Usage, ReadFault, TooLong, NotJson, Form, Check, NotBuilt, NoSuchElement, WriteFault, NoMemory}

-- a refusal has no calls, unless it is that of an element whose lineage is asked for
abbrev Fits : Bool → Answer → List Call → Type 0
Fits l (Ok text) cs = Unit {0}
Fits l (Err r) cs = (l ≡ true → r.0 ≡ NoSuchElement → ⊥) → cs ≡ []

of-lineage : (p : Name) (q : Place) (o : Option Text) (cs : List Call) → Fits true (unless_absent p q o) cs
of-lineage p q None cs = λ h. absurd (h refl refl)
of-lineage p q (Some text) cs = tt

of-given : (p : Name) (q : Place) (o : Option Value) (f : Value → Text) (cs : List Call) → Fits false (unless_absent p q (option_map f o)) (option_map_or (λ v. cs) o [])
of-given p q None f cs = λ h. refl
of-given p q (Some v) f cs = tt

module _ (gives : Giving) where
  fits-built : (command : Command) (d : Document) → Fits (is_lineage (Some command)) (answer_built gives command d) (asks_built gives command d)
  fits-built run d = tt
  fits-built check d = tt
  fits-built trace d = tt
  fits-built (lineage p q) d = of-lineage p q (lineage_text gives d p q) (asks_of_run gives d)
  fits-built (forward p q) d = of-given p q (given_at d p q) (λ v. element_lines (model.forward (meaning gives d) p q)) (asks_of_run gives d)
  fits-built upgrade d = tt
  fits-built (gen n) d = tt

  fits-accepted : (command : Command) (d : Document) → Fits (is_lineage (Some command)) (answer_to gives command d) (asks_to gives command d)
  fits-accepted command d = by (is_unbuilt command d)
    where
      by : (b : Bool) → Fits (is_lineage (Some command)) (if b then Err (always NotBuilt) else answer_built gives command d) (if b then [] else asks_built gives command d)
      by true = λ h. refl
      by false = fits-built command d

  fits-reading : (command : Command) (reading : Reading) → Fits (is_lineage (Some command)) (answer_to_reading gives command reading) (asks_to_reading gives command reading)
  fits-reading command (Ok d) = fits-accepted command d
  fits-reading command (Err r) = λ h. refl

  fits-words : (knows : Name → Bool) (words : Option Command) (bytes : List ℕ) → Fits (is_lineage words) (answer_of gives knows words bytes) (asks_of gives knows words bytes)
  fits-words knows None bytes = λ h. refl
  fits-words knows (Some command) bytes = fits-reading command (reading_for knows command bytes)

  check-asks : (reading : Reading) → asks_to_reading gives check reading ≡ []
  check-asks (Ok d) = refl
  check-asks (Err r) = refl

  upgrade-asks : (reading : Reading) → asks_to_reading gives upgrade reading ≡ []
  upgrade-asks (Ok d) = refl
  upgrade-asks (Err r) = refl

pub others-ask-nothing : OthersAskNothing
others-ask-nothing gives knows None bytes e = refl
others-ask-nothing gives knows (Some run) bytes e = absurd (true≢false e)
others-ask-nothing gives knows (Some check) bytes e = check-asks gives (reading_of knows bytes)
others-ask-nothing gives knows (Some trace) bytes e = absurd (true≢false e)
others-ask-nothing gives knows (Some (lineage p q)) bytes e = absurd (true≢false e)
others-ask-nothing gives knows (Some (forward p q)) bytes e = absurd (true≢false e)
others-ask-nothing gives knows (Some upgrade) bytes e = upgrade-asks gives (reading_of knows bytes)
others-ask-nothing gives knows (Some (gen n)) bytes e = absurd (true≢false e)

pub refusals-ask-nothing : RefusalsAskNothing
refusals-ask-nothing gives knows words bytes r there h = subst (λ a. Fits (is_lineage words) a (asks_of gives knows words bytes)) h (fits-words gives knows words bytes) there

-- ---- calls

none-more : (before after : ToldCalls) (more : List Call) → more ≡ [] → AsksThese before after more → IsSameCalls before after
none-more before after more e h calls told = h calls told ∙ ap (λ cs. Some (calls ++ cs)) e ∙ ap Some (append-nil calls)

-- a list of which a beginning is empty
nothing-first : (xs ys more : List Call) → more ≡ [] → more ≡ xs ++ ys → xs ≡ []
nothing-first [] ys more e h = refl
nothing-first (x ∷ xs) ys more e h = absurd (cons-nil x (xs ++ ys) (sym h ∙ e))
  where
    cons-nil : (x : Call) (xs : List Call) → x ∷ xs ≡ [] → ⊥
    cons-nil x xs h = cc h

none-begun : (before after : ToldCalls) (more : List Call) → more ≡ [] → BeginsThese before after more → IsSameCalls before after
none-begun before after more e h calls told =
    let b = h calls told in
    b.1 ∙ ap (λ cs. Some (calls ++ cs)) (nothing-first b.0 b.2.0 more e b.2.1) ∙ ap Some (append-nil calls)

module _ (gives : Giving) (knows : Name → Bool) (words : Option Command) (s : Source) (before after : ToldCalls) (e : is_run words ≡ false) where
  abbrev asks : List ℕ → List Call
  asks bytes = asks_of gives knows words bytes

  none : (bytes : List ℕ) → asks bytes ≡ []
  none bytes = others-ask-nothing gives knows words bytes e

  none-for : BeginsForDocument asks s before after → IsSameCalls before after
  none-for (inl same) = same
  none-for (inr begun) = none-begun before after (asks begun.0.0) (none begun.0.0) begun.0.1

  not-asked : (status : Status) → IsAsked asks s before after status → IsSameCalls before after
  not-asked Done h = none-more before after (asks h.0.0) (none h.0.0) h.0.1
  not-asked Usage h = h
  not-asked ReadFault h = h
  not-asked TooLong h = h
  not-asked NotJson h = h
  not-asked Form h = h
  not-asked Check h = h
  not-asked NotBuilt h = h
  not-asked NoSuchElement h = none-more before after (asks h.0.0) (none h.0.0) h.0.1
  not-asked WriteFault h = none-more before after (asks h.0.0) (none h.0.0) h.0.1
  not-asked NoMemory h = none-for h

pub others-not-asked : OthersAreNotAsked
others-not-asked gives knows words s before after status e h = not-asked gives knows words s before after e status h
