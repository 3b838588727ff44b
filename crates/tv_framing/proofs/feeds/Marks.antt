-- What all feeds of a port deliver is known where the steps that are marked whole are those that feed it, before an event and after it.
use Rattle.std.specs.Option.{option_map_or}
use Rattle.std.specs.Prelude.{◌≡◌, refl, ℕ, ◌==◌, ◌&&◌, Bool, true, false, find, List, [], ◌∷◌}
use Rattle.std.proofs.Common.{sym, ap, ap₂, ◌∙◌}
use Rattle.std.proofs.lemmas.Bool.{eq-eqb}
use Rattle.tv_lemmas.specs.Members.{In}
use Rattle.tv_value.specs.Nested.{notes}
use Rattle.tv_value.specs.Orders.{same_name}
use Rattle.tv_value.specs.Values.{JobName, Name}
use Rattle.tv_flow.specs.Flows.{Flow, Step, StepInput}
use Rattle.tv_strategy.specs.Origins.{Origin, at_start, fixed, from_input}
use Rattle.tv_naming.specs.Naming.{has_name}
use Rattle.tv_naming.specs.Numbers.{position}
use Rattle.tv_model.specs.instance.Delivered.{feed_delivers, wrapped}
use Rattle.tv_model.specs.instance.Ranks.{ranked}
use Rattle.tv_check.specs.declared.feeds.NumberedFeed.{NumberedFeed}
use Rattle.tv_check.specs.Feeds.{feed_numbered}
use Rattle.tv_check.specs.Ports.{levels_of}
use Rattle.tv_telling.specs.endings.Feeds as feeds
use Rattle.tv_telling.specs.endings.Feeds.{feed_from, with_step}
use Rattle.tv_telling.proofs.Feeds.{feeds-once}
use Rattle.tv_matching.specs.Items.{all_known}
use Rattle.tv_model.specs.instance.ByResults.{InstanceStep, Results, result_at, step_of}
use Rattle.tv_model.specs.instance.Counting.{whole_by}
use Rattle.tv_model.specs.instance.Events.{Event, Events, Extends, is_known_by, known_by}
use Rattle.tv_model.specs.instance.Wholeness.{is_new}
use Rattle.tv_model.specs.Instances.{given_of}
use Rattle.tv_framing.specs.Gaining as framing
use Rattle.tv_framing.specs.Views.{AreOfDepth, View}
use Rattle.tv_framing.proofs.Gaining.{all-forms, new-none}
use Rattle.tv_framing.proofs.LawLemmas.{feeds-are_known_whole, wrapping-is_known}
use Rattle.tv_framing.specs.engine.AlongWires.{IsMarked, IsPortOf}
use Rattle.tv_framing.specs.engine.WiredFlows.{IsWired}
use Rattle.tv_framing.proofs.engine.Told.{feeds-whole}
use Rattle.tv_framing.specs.keeping.NextEvents.{IsNextEvent}
use Rattle.tv_framing.specs.feeds.Fed.{event_number, has_all_now, newly}
use Rattle.tv_framing.proofs.feeds.Links.{given-have}
use Rattle.tv_framing.proofs.feeds.Names.{is-named}
use Rattle.tv_framing.proofs.feeds.Next.{first, fs, marked-before, marked-later, marks, not-yet_whole, whole, whole-before, whole-later}
use Rattle.tv_framing.proofs.feeds.Outputs.{output-there}
use Rattle.tv_framing.proofs.feeds.Standing.{stands}

module _ (flows : List (Name × Flow)) (levels : Name → ℕ) (v : View) (e : Event) (next : IsNextEvent flows levels v e) (wired : IsWired v.flow)
    (instance : JobName) (results : Results) (depth : AreOfDepth v instance results) (told : Extends results (e ∷ v.events)) where
  abbrev gs : List InstanceStep
  gs = fs flows levels v e next wired instance results depth told

  abbrev before : Origin → Bool
  before o = known_by instance v.events o

  abbrev after : Origin → Bool
  after o = known_by instance (e ∷ v.events) o

  abbrev W : ℕ → Bool
  W n = whole flows levels v e next wired instance results depth told n

  abbrev M : Bool → ℕ → Bool
  M b n = marks flows levels v e next wired instance results depth told b n

  -- each step of the flow stands among those of the instance, marked whole where it is so
  module _ (known : Origin → Bool) (mark : ℕ → Bool) (is : (t : Name) → has_name v.flow.steps t ≡ true → (g : InstanceStep) → In g gs → g.step.step ≡ t → mark (position t v.flow.steps) ≡ framing.step_whole instance known g) where
    each-marked : (t : Name) → has_name v.flow.steps t ≡ true → IsMarked v.flow instance known gs mark t
    each-marked t h =
        let st = is-named t v.flow.steps h in
        let s = stands flows levels v next.depths wired instance results (position t v.flow.steps) (t, st.thing) st.here in
        record {
          step = s.step;
          found = ap (λ n. find (λ (g : InstanceStep). same_name n g.step.step) gs) (sym s.stands.name) ∙ first flows levels v e next wired instance results depth told s.step s.there;
          outputs = λ o k.
              ap (λ os. has_name os o) s.stands.outputs
              ∙ output-there instance t (result_at results t) (levels t) s.step.step.iteration st.thing.outputs o
              (ap (λ x. has_name (option_map_or (λ (u : Step). u.outputs) x []) o) (sym st.named_so) ∙ k);
          marked = is t h s.step s.there s.stands.name;
        }

  before-marked : (t : Name) → has_name v.flow.steps t ≡ true → IsMarked v.flow instance before gs W t
  before-marked =
      each-marked before W
      (λ t h g i same. marked-before flows levels v e next wired instance results depth told t h
      ∙ sym (whole-before flows levels v e next wired instance results depth told g i ∙ ap (λ n. whole_by v.events n (levels n) []) same))

  later-marked : (b : Bool) → newly levels v e [] ≡ b → (t : Name) → has_name v.flow.steps t ≡ true → IsMarked v.flow instance after gs (M b) t
  later-marked b turns =
      each-marked after (M b)
      (λ t h g i same. marked-later flows levels v e next wired instance results depth told b turns t h g i same
      ∙ sym (whole-later flows levels v e next wired instance results depth told g i ∙ ap (λ n. whole_by (e ∷ v.events) n (levels n) []) same))

  -- ---- a port that takes its feed at once

  module _ (n : ℕ) (s : Name × Step) (i : Name × StepInput) (port : IsPortOf v.flow n s i) where
    feed-known : (known : Origin → Bool) → ((o : Origin) → o.known ≡ at_start → known o ≡ true) → (k : ℕ) → all_known known (notes (wrapped k (feed_delivers step_of (given_of v.flow v.inputs) gs i.1.from).value)) ≡ framing.feed_whole instance known gs i.1.from
    feed-known known start k =
        all-forms known (notes (wrapped k (feed_delivers step_of (given_of v.flow v.inputs) gs i.1.from).value))
        ∙ wrapping-is_known known (start fixed refl) k (feed_delivers step_of (given_of v.flow v.inputs) gs i.1.from).value
        ∙ feeds-are_known_whole instance results known (start fixed refl) (given_of v.flow v.inputs) (given-have (λ o. known o ≡ true) (λ x q. start (from_input x q) refl) v.flow v.inputs) (ranked v.flow.steps) i.1.from

    at-start : (es : Events) (o : Origin) → o.known ≡ at_start → known_by instance es o ≡ true
    at-start es o h = ap (is_known_by instance es) h

    before-numbered : (k : ℕ) → all_known before (notes (wrapped k (feed_delivers step_of (given_of v.flow v.inputs) gs i.1.from).value)) ≡ feeds.feed_whole W (feed_numbered v.flow i.1.from)
    before-numbered k =
        feed-known before (at-start v.events) k
        ∙ feeds-whole v.flow wired n s i port instance before gs W before-marked

    later-numbered : (b : Bool) → newly levels v e [] ≡ b → (k : ℕ) → all_known after (notes (wrapped k (feed_delivers step_of (given_of v.flow v.inputs) gs i.1.from).value)) ≡ feeds.feed_whole (M b) (feed_numbered v.flow i.1.from)
    later-numbered b turns k =
        feed-known after (at-start (e ∷ v.events)) k
        ∙ feeds-whole v.flow wired n s i port instance after gs (M b) (later-marked b turns)

    -- it has all of its feed with the event, exactly where all of it becomes known
    pub has-all_now : levels_of v.flow i.1 ≡ 0 → (k : ℕ) → has_all_now levels v e s.1 i ≡ is_new (all_known before (notes (wrapped k (feed_delivers step_of (given_of v.flow v.inputs) gs i.1.from).value))) (all_known after (notes (wrapped k (feed_delivers step_of (given_of v.flow v.inputs) gs i.1.from).value)))
    has-all_now none k = by (newly levels v e []) refl
      where
        numbered : NumberedFeed
        numbered = feed_numbered v.flow i.1.from

        by : (b : Bool) → newly levels v e [] ≡ b → (b && (levels_of v.flow i.1 == 0 && (feed_from (event_number v e) numbered && feeds.feed_whole (with_step W (event_number v e)) numbered))) ≡ is_new (all_known before (notes (wrapped k (feed_delivers step_of (given_of v.flow v.inputs) gs i.1.from).value))) (all_known after (notes (wrapped k (feed_delivers step_of (given_of v.flow v.inputs) gs i.1.from).value)))
        by true turns =
            ap (λ c. c && (feed_from (event_number v e) numbered && feeds.feed_whole (with_step W (event_number v e)) numbered)) (eq-eqb (levels_of v.flow i.1) 0 none)
            ∙ sym (feeds-once W (event_number v e) (not-yet_whole flows levels v e next wired instance results depth told turns) numbered)
            ∙ sym (ap₂ (λ x y. is_new x y) (before-numbered k) (later-numbered true turns k))
        by false turns =
            sym (new-none (all_known before (notes (wrapped k (feed_delivers step_of (given_of v.flow v.inputs) gs i.1.from).value))) (all_known after (notes (wrapped k (feed_delivers step_of (given_of v.flow v.inputs) gs i.1.from).value)))
            (later-numbered false turns k ∙ sym (before-numbered k)))
