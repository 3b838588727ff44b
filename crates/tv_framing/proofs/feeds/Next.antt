-- What is so of each step of an instance when an event comes: the event fits it, and it is whole after as counting events says.
use Rattle.std.specs.Prelude.{◌≡◌, refl, ℕ, ◌||◌, Bool, true, false, if◌then◌else◌, find, List, [], ◌∷◌, Option, Some, None, option_and_then}
use Rattle.std.specs.Option.{option_map_or}
use Rattle.std.proofs.Common.{sym, ap, ap₂, subst, ◌∙◌, ◌⊎◌, inl, inr}
use Rattle.std.proofs.lemmas.Bool.{true≢false}
use Rattle.tv_lemmas.specs.Members.{In}
use Rattle.tv_lemmas.proofs.Members.{each_in, found-in}
use Rattle.tv_value.specs.Nested.{at}
use Rattle.tv_value.specs.Orders.{same_name}
use Rattle.tv_value.specs.Values.{JobName, Name}
use Rattle.tv_flow.specs.Flows.{Flow, Step}
use Rattle.tv_strategy.specs.Levels.{HasLevels}
use Rattle.tv_naming.specs.Naming.{has_name}
use Rattle.tv_naming.specs.Numbers.{position}
use Rattle.tv_naming.proofs.ByPosition.{names_of}
use Rattle.tv_value.proofs.NameLemmas.{same_name-is}
use Rattle.tv_model.specs.instance.Ranks.{is_among, ranked}
use Rattle.tv_model.specs.instance.Steps.{spot}
use Rattle.tv_telling.specs.endings.Feeds.{with_step}
use Rattle.tv_model.specs.instance.ByResults.{InstanceStep, Results}
use Rattle.tv_model.specs.instance.Counting.{whole_by}
use Rattle.tv_model.specs.instance.Events.{Extends, Event, event_place, event_step, known_by}
use Rattle.tv_model.specs.instance.Fitting.{FitStep, FitsNode}
use Rattle.tv_model.specs.instance.Legality.{AreLegal, IsLegalNext}
use Rattle.tv_model.specs.instance.Wholeness.{is_new}
use Rattle.tv_model.proofs.Wholeness.{stays-whole}
use Rattle.tv_framing.specs.instances.InHistory.{Finds}
use Rattle.tv_framing.proofs.instances.Counting.{step-whole_by}
use Rattle.tv_framing.proofs.instances.Events.{hits, one-more, own-spot}
use Rattle.tv_framing.proofs.instances.Legal.{legal-fit}
use Rattle.tv_model.specs.Instances.{given_of}
use Rattle.tv_framing.specs.Gaining.{step_whole}
use Rattle.tv_framing.specs.Views.{AreOfDepth, View, steps_with}
use Rattle.tv_framing.proofs.Arriving.{extends-parts}
use Rattle.tv_framing.proofs.Endings.{leveled-in_all}
use Rattle.tv_framing.proofs.Frames.{in-finds, steps-distinct}
use Rattle.tv_framing.specs.engine.WiredFlows.{IsWired}
use Rattle.tv_framing.proofs.engine.Wires.{position-same}
use Rattle.tv_framing.specs.keeping.NextEvents.{IsNextEvent, is_whole_step}
use Rattle.tv_framing.specs.feeds.Fed.{event_number, newly}
use Rattle.tv_framing.proofs.feeds.Names.{is-named}
use Rattle.tv_framing.proofs.feeds.Others.{whole-same}
use Rattle.tv_framing.proofs.feeds.Stays.{made-from, ranked-named}

module _ (flows : List (Name × Flow)) (levels : Name → ℕ) (v : View) (e : Event) (next : IsNextEvent flows levels v e) (wired : IsWired v.flow)
    (instance : JobName) (results : Results) (depth : AreOfDepth v instance results) (told : Extends results (e ∷ v.events)) where
  abbrev pub fs : List InstanceStep
  fs = steps_with v instance results

  pub older : Extends results v.events
  older = (extends-parts results e v.events told).1

  pub legal : IsLegalNext instance fs v.events e
  legal = next.legal instance results depth told

  lawful : AreLegal instance fs (e ∷ v.events)
  lawful = (legal, next.frame.legal instance results depth older)

  pub first : (g : InstanceStep) → In g fs → Finds fs g
  first g i = in-finds fs (steps-distinct v instance results) g i

  pub fit : (g : InstanceStep) → In g fs → FitStep g (e ∷ v.events)
  fit g i = legal-fit instance fs g (first g i) (e ∷ v.events) lawful

  pub leveled : (g : InstanceStep) → In g fs → HasLevels g.step.iteration (levels g.step.step)
  leveled g i =
      each_in (λ (f : InstanceStep). HasLevels f.step.iteration (levels f.step.step)) fs (leveled-in_all flows v next.frame next.depths.flow next.depths.inputs levels next.depths.levels_are instance results depth older) g i

  -- ---- whole by counting

  abbrev before : Name → Bool
  before n = whole_by v.events n (levels n) []

  abbrev later : Name → Bool
  later n = whole_by (e ∷ v.events) n (levels n) []

  pub whole-before : (g : InstanceStep) → In g fs → step_whole instance (known_by instance v.events) g ≡ before g.step.step
  whole-before g i = step-whole_by g instance v.events (fit g i).1 (levels g.step.step) (leveled g i)

  pub whole-later : (g : InstanceStep) → In g fs → step_whole instance (known_by instance (e ∷ v.events)) g ≡ later g.step.step
  whole-later g i = step-whole_by g instance (e ∷ v.events) (fit g i) (levels g.step.step) (leveled g i)

  whole-stays : (g : InstanceStep) → In g fs → before g.step.step ≡ true → later g.step.step ≡ true
  whole-stays g i h =
      sym (whole-later g i)
      ∙ stays-whole (spot instance g.step.step) (known_by instance v.events) (known_by instance (e ∷ v.events)) (hits instance e) (one-more instance e v.events) (event_place e)
      (λ q u k. (own-spot instance e g.step.step q u k).1) g.step.iteration [] (whole-before g i ∙ h)

  -- the event's step is whole after where it was so, or turns whole now
  later-is : (b : Bool) → newly levels v e [] ≡ b → (g : InstanceStep) → In g fs → later g.step.step ≡ (if b then same_name g.step.step (event_step e) || before g.step.step else before g.step.step)
  later-is b turns g i = by (same_name g.step.step (event_step e)) refl
    where
      same-both : (c : Bool) (a : Bool) → a ≡ (if c then false || a else a)
      same-both true a = refl
      same-both false a = refl

      own : (a l c : Bool) → is_new a l ≡ c → (a ≡ true → l ≡ true) → l ≡ (if c then true || a else a)
      own true true true x f = absurd (true≢false (sym x))
      own true true false x f = refl
      own true false c x f = absurd (true≢false (sym (f refl)))
      own false true true x f = refl
      own false true false x f = absurd (true≢false x)
      own false false true x f = absurd (true≢false (sym x))
      own false false false x f = refl

      by : (c : Bool) → same_name g.step.step (event_step e) ≡ c → later g.step.step ≡ (if b then c || before g.step.step else before g.step.step)
      by false h = whole-same e v.events g.step.step h (levels g.step.step) [] ∙ same-both b (before g.step.step)
      by true h =
          own (before g.step.step) (later g.step.step) b
          (ap (λ n. is_new (before n) (later n)) (same_name-is g.step.step (event_step e) h) ∙ turns) (whole-stays g i)

  -- ---- the event's step

  pub record IsOfEvent : Type 0 where
    pub step : InstanceStep
    pub there : In step fs
    pub name : event_step e ≡ step.step.step
    pub has : has_name v.flow.steps (event_step e) ≡ true

  pub of-event : IsOfEvent
  of-event = by (find (λ (f : InstanceStep). same_name (event_step e) f.step.step) fs) refl legal.fits
    where
      by : (o : Option InstanceStep) → find (λ (f : InstanceStep). same_name (event_step e) f.step.step) fs ≡ o → FitsNode e (option_and_then (λ (f : InstanceStep). at f.step.iteration (event_place e)) o) → IsOfEvent
      by None f k = absurd k
      by (Some g) f k =
          let r = found-in (λ (f : InstanceStep). same_name (event_step e) f.step.step) fs g f in
          let name : event_step e ≡ g.step.step = same_name-is (event_step e) g.step.step r.1 in
          record {
            step = g;
            there = r.0;
            name = name;
            has = ap (has_name v.flow.steps) name ∙ ranked-named v.flow.steps g.step.step (among (made-from instance results (given_of v.flow v.inputs) g [] (ranked v.flow.steps) r.0));
          }
        where
          among : In g [] ⊎ (is_among (names_of (ranked v.flow.steps)) g.step.step ≡ true) → is_among (names_of (ranked v.flow.steps)) g.step.step ≡ true
          among (inl i) = absurd i
          among (inr a) = a

  -- ---- marks of steps, by number

  abbrev pub whole : ℕ → Bool
  whole n = is_whole_step levels v n

  -- those that are whole after, where the event's step turns whole now or doesn't
  abbrev pub marks : Bool → ℕ → Bool
  marks b n = if b then with_step whole (event_number v e) n else whole n

  pub marked-before : (n : Name) → has_name v.flow.steps n ≡ true → whole (position n v.flow.steps) ≡ before n
  marked-before n h = ap (λ o. option_map_or (λ (s : Name × Step). whole_by v.events s.0 (levels s.0) []) o false) (is-named n v.flow.steps h).here

  pub marked-later : (b : Bool) → newly levels v e [] ≡ b → (n : Name) → has_name v.flow.steps n ≡ true → (g : InstanceStep) → In g fs → g.step.step ≡ n → marks b (position n v.flow.steps) ≡ later n
  marked-later b turns n h g i same =
      ap₂ (λ x y. if b then x || y else y) (position-same n (event_step e) v.flow.steps h of-event.has) (marked-before n h)
      ∙ subst (λ m. (if b then same_name m (event_step e) || before m else before m) ≡ later m) same (sym (later-is b turns g i))

  -- it wasn't whole before, where it turns whole
  pub not-yet_whole : newly levels v e [] ≡ true → whole (event_number v e) ≡ false
  not-yet_whole h = marked-before (event_step e) of-event.has ∙ by (before (event_step e)) (later (event_step e)) h
    where
      by : (a l : Bool) → is_new a l ≡ true → a ≡ false
      by true true x = absurd (true≢false (sym x))
      by true false x = absurd (true≢false (sym x))
      by false l x = refl
