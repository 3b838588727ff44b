-- What the matcher of a step was told goes on with each event.
use Rattle.std.specs.Prelude.{◌≡◌, refl, ℕ, suc, ◌+◌, ◌≤◌, ◌==◌, ◌&&◌, ◌++◌, true, nat_le, length, List, [], ◌∷◌, map, slice_get, Some, IsPermutation}
use Rattle.std.proofs.Common.{arith, sym, ap, subst, ◌∙◌}
use Rattle.std.proofs.lemmas.Bool.{eq-eqb, eqb-true, leb-true, or_right, le-leb}
use Rattle.std.proofs.lemmas.List.{map-append}
use Rattle.std.proofs.lemmas.List.Sorted.{IsPermutation-append_left, IsPermutation-map, IsPermutation-sym, IsPermutation-trans}
use Rattle.std.specs.Cmp.Derive.{one_truth}
use Rattle.tv_lemmas.specs.Members.{Each, In}
use Rattle.tv_value.specs.Values.{JobName, Name}
use Rattle.tv_flow.specs.Flows.{Flow, Step, StepInput}
use Rattle.tv_strategy.specs.Iterations.{walk}
use Rattle.tv_strategy.specs.Origins.{Origin, Traced}
use Rattle.tv_model.specs.instance.Steps.{strategy_of}
use Rattle.tv_matching.specs.Items.{known_items}
use Rattle.tv_matching.specs.Told.{Told, item_there, tellings, told_to}
use Rattle.tv_matching.proofs.Permutes.{perm-from}
use Rattle.tv_matching.proofs.LawLemmas.{told-more}
use Rattle.tv_matching.proofs.Matchers.{told-permutes}
use Rattle.tv_telling.specs.Views.{whole_telling}
use Rattle.tv_check.specs.Ports.{levels_of}
use Rattle.tv_model.specs.instance.ByResults.{InstanceStep, Results}
use Rattle.tv_model.specs.instance.Events.{Event, Events, Extends, event_place, event_step, known_by}
use Rattle.tv_framing.proofs.instances.Events.{hits, one-more}
use Rattle.tv_framing.specs.Gaining.{gained_items}
use Rattle.tv_framing.specs.PortTellings.{placed, port_told, seen_told}
use Rattle.tv_framing.specs.Views.{AreOfDepth, View}
use Rattle.tv_framing.proofs.LawLemmas.{known-is_before_and_gained, ports-are_told}
use Rattle.tv_framing.proofs.Placed.{placed-all}
use Rattle.tv_framing.specs.ways.Stated.{IsFrom}
use Rattle.tv_framing.specs.engine.AlongWires.{IsPortOf, takes_whole_with, told_along}
use Rattle.tv_framing.specs.engine.WiredFlows.{IsWired}
use Rattle.tv_framing.proofs.engine.Told.{events-tell}
use Rattle.tv_framing.specs.keeping.NextEvents.{IsNextEvent, is_whole_step}
use Rattle.tv_framing.specs.keeping.Told.{PortIsTold}
use Rattle.tv_framing.specs.feeds.Fed.{IsFed, event_number, given_at, has_all_now, newly, port_of}
use Rattle.tv_framing.specs.feeds.Stated.{ToldGoesOn}
use Rattle.tv_framing.proofs.feeds.Next.{fs, legal, of-event, older}
use Rattle.tv_framing.proofs.feeds.Ports.{ports-are_fed}

-- ---- one port

-- with what it gains, a port was told what is known after
module _ (instance : JobName) (e : Event) (es : Events) (values : Name → Traced) (p : Name) (k : ℕ) (v : Traced) where
  known-more : (o : Origin) → known_by instance es o ≡ true → known_by instance (e ∷ es) o ≡ true
  known-more o h = one-more instance e es o ∙ or_right (hits instance e o) (known_by instance es o) h

  pub port-goes_on : (ts more after : List Told) → IsPermutation after (ts ++ more) → IsPermutation (map (item_there values) (told_to ts p)) (known_items (known_by instance es) (walk p k v)) → map (item_there values) (told_to more p) ≡ map (placed []) (gained_items (known_by instance es) (known_by instance (e ∷ es)) (walk p k v)) → IsPermutation (map (item_there values) (told_to after p)) (known_items (known_by instance (e ∷ es)) (walk p k v))
  port-goes_on ts more after order was gains =
      let before = known_items (known_by instance es) (walk p k v) in
      let gained = gained_items (known_by instance es) (known_by instance (e ∷ es)) (walk p k v) in
      IsPermutation-trans _ _ _ (IsPermutation-map (item_there values) _ _ (told-permutes after (ts ++ more) order p))
      (IsPermutation-trans _ _ _ (perm-from _ _ (ap (map (item_there values)) (told-more ts more p) ∙ map-append (item_there values) (told_to ts p) (told_to more p)))
      (IsPermutation-trans _ _ _ (IsPermutation-append_left (map (item_there values) (told_to more p)) (map (item_there values) (told_to ts p)) before was)
      (IsPermutation-trans _ _ _ (perm-from _ _ (ap (λ xs. before ++ xs) (gains ∙ placed-all gained)))
      (IsPermutation-sym _ _ (known-is_before_and_gained (known_by instance es) (known_by instance (e ∷ es)) known-more (walk p k v))))))

-- ---- all ports of a step

none-below : (n : ℕ) → nat_le n 0 ≡ (n == 0)
none-below n = one_truth (nat_le n 0) (n == 0) (λ h. eq-eqb n 0 (least n (leb-true n 0 h))) (λ h. le-leb n 0 (at-most n (eqb-true n 0 h)))
  where
    least : (m : ℕ) → m ≤ 0 → m ≡ 0
    least m h = omega arith

    at-most : (m : ℕ) → m ≡ 0 → m ≤ 0
    at-most m h = omega arith

module _ (flows : List (Name × Flow)) (levels : Name → ℕ) (v : View) (e : Event) (next : IsNextEvent flows levels v e) (wired : IsWired v.flow)
    (instance : JobName) (results : Results) (depth : AreOfDepth v instance results) (told : Extends results (e ∷ v.events)) where
  abbrev gs : List InstanceStep
  gs = fs flows levels v e next wired instance results depth told

  -- the whole of an iteration turns whole where all prefixes of the event's place do
  pub turned-is : (from : ℕ) → IsFrom (newly levels v e) (event_place e) from → newly levels v e [] ≡ (from == 0)
  turned-is from turns = turns 0 (least (length (event_place e))) ∙ none-below from
    where
      least : (m : ℕ) → 0 ≤ m
      least m = omega arith

  module _ (n : ℕ) (s : Name × Step) (stands_at : slice_get v.flow.steps n ≡ Some s) where
    -- a port's tellings are what it gains
    gains-told : (i : Name × StepInput) → IsFed levels v e instance results gs s.1 i → (values : Name → Traced) → values i.0 ≡ (port_of v gs i).1.value → map (seen_told values) (port_told (newly levels v e) e (given_at v.flow e) i.0 (has_all_now levels v e s.1 i) (levels_of v.flow i.1) i.1.from) ≡ map (placed []) (gained_items (known_by instance v.events) (known_by instance (e ∷ v.events)) (walk i.0 (port_of v gs i).1.mismatch (port_of v gs i).1.value))
    gains-told i fed values have =
        ap (λ k. map (seen_told values) (port_told (newly levels v e) e (given_at v.flow e) i.0 (has_all_now levels v e s.1 i) k i.1.from)) (sym fed.walks)
        ∙ sym (ports-are_told instance results gs e v.events (legal flows levels v e next wired instance results depth told) next.tells values i.0 (newly levels v e) (given_at v.flow e) (has_all_now levels v e s.1 i) (port_of v gs i).1.mismatch (port_of v gs i).1.value i.1.from (fed.fed values have))

    -- where each port is told what it gains
    module _ (ts more after : List Told) (order : IsPermutation after (ts ++ more))
        (tells : (i : Name × StepInput) → IsPortOf v.flow n s i → (values : Name → Traced) → map (item_there values) (told_to more i.0) ≡ map (seen_told values) (port_told (newly levels v e) e (given_at v.flow e) i.0 (has_all_now levels v e s.1 i) (levels_of v.flow i.1) i.1.from)) where
      each-goes_on : (k : ℕ) (is : List (Name × StepInput)) → ((j : ℕ) (i : Name × StepInput) → slice_get is j ≡ Some i → slice_get s.1.inputs (k + j) ≡ Some i) → Each (IsFed levels v e instance results gs s.1) is → Each (PortIsTold instance v.events ts) (map (port_of v gs) is) → Each (PortIsTold instance (e ∷ v.events) after) (map (port_of v gs) is)
      each-goes_on k [] there fed was = tt
      each-goes_on k (i ∷ is) there fed was = (
        λ values have. port-goes_on instance e v.events values i.0 (port_of v gs i).1.mismatch (port_of v gs i).1.value ts more after order (was.0 values have)
            (tells i (record { step = stands_at; number = k; port = ap (slice_get s.1.inputs) (plus-none k) ∙ there 0 i refl }) values ∙ gains-told i fed.0 values have),
        each-goes_on (suc k) is (λ j x g. ap (slice_get s.1.inputs) (plus-suc k j) ∙ there (suc j) x g) fed.1 was.1,
      )
        where
          plus-none : (m : ℕ) → m ≡ m + 0
          plus-none m = omega arith

          plus-suc : (m n : ℕ) → suc m + n ≡ m + suc n
          plus-suc m n = omega arith

      pub step-goes_on : (f : InstanceStep) → In f gs → f.step.step ≡ s.0 → Each (PortIsTold instance v.events ts) f.step.inputs → Each (PortIsTold instance (e ∷ v.events) after) f.step.inputs
      step-goes_on f there name was =
          let fed = ports-are_fed flows levels v e next wired n s stands_at instance results depth told f there name in
          subst (Each (PortIsTold instance (e ∷ v.events) after)) (sym fed.ports)
          (each-goes_on 0 s.1.inputs (λ j i g. ap (slice_get s.1.inputs) (none-plus j) ∙ g) fed.fed (subst (Each (PortIsTold instance v.events ts)) fed.ports was))
        where
          none-plus : (m : ℕ) → 0 + m ≡ m
          none-plus m = omega arith

pub told-goes_on : ToldGoesOn
told-goes_on flows levels v e next wired n s stands_at ts was faults from c seen turns ws are after order new instance results depth told f there name =
    step-goes_on flows levels v e next wired instance results depth told n s stands_at ts (told_along v.flow n s.1 (event_step e) c ++ map (whole_telling (strategy_of s.1)) ws) after order
    (λ i port values.
    events-tell v.flow n s i (given_at v.flow e) faults from e c (record { wired = wired; port = port; feeding = (of-event flows levels v e next wired instance results depth told).has; event = seen }) next.tells (newly levels v e) turns
    (from == 0) (is_whole_step levels v) ws are values
    ∙ ap (λ b. map (seen_told values) (port_told (newly levels v e) e (given_at v.flow e) i.0 (b && takes_whole_with v.flow (is_whole_step levels v) (event_number v e) s.1 i) (levels_of v.flow i.1) i.1.from))
    (sym (turned-is flows levels v e next wired instance results depth told from turns)))
    f there name (was instance results depth (older flows levels v e next wired instance results depth told) f there name)
