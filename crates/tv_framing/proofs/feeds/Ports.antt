-- The ports of the steps of an instance are fed as the theory of frames wants it.
use Rattle.std.specs.List.{list_all}
use Rattle.std.specs.Prelude.{◌≡◌, refl, ℕ, zero, suc, ◌+◌, ◌-◌, ◌≤◌, Bool, true, find, List, [], ◌∷◌, Some, map, option_and_then, slice_get}
use Rattle.std.proofs.Common.{arith, sym, ap, subst, ◌∙◌}
use Rattle.std.proofs.lemmas.Bool.{and_parts}
use Rattle.std.proofs.lemmas.Option.{same_Some}
use Rattle.tv_lemmas.specs.Members.{Each, In}
use Rattle.tv_value.specs.Nested.{Trees, at, item_at, trees_of}
use Rattle.tv_value.specs.Orders.{same_name}
use Rattle.tv_value.specs.Values.{JobName, Name, Scalar}
use Rattle.tv_flow.specs.Flows.{Feed, Flow, Link, Step, StepInput, constant, link, merge}
use Rattle.tv_strategy.specs.Origins.{Origin, Traced, fixed}
use Rattle.tv_strategy.specs.Sources.{AtNodes}
use Rattle.tv_strategy.proofs.Sources.{traced-have}
use Rattle.tv_naming.specs.Naming.{feed_links, is_there}
use Rattle.tv_model.specs.instance.CheckedDepths.{link_depth}
use Rattle.tv_model.specs.instance.Delivered.{Delivered, feed_delivers, wrapped}
use Rattle.tv_check.specs.Ports.{levels_of}
use Rattle.tv_model.specs.instance.ByResults.{InstanceStep, Results, step_of}
use Rattle.tv_model.specs.instance.Events.{Event, Extends}
use Rattle.tv_model.specs.Agreeing.{AllAre, FeedAgrees, InputsAgree}
use Rattle.tv_model.proofs.Delivers.{depths_of}
use Rattle.tv_framing.specs.Feeding.{AreLinksFed, IsPortFed}
use Rattle.tv_framing.specs.Views.{AreOfDepth, View}
use Rattle.tv_framing.proofs.Frames.{in-finds, steps-distinct}
use Rattle.tv_framing.specs.engine.AlongWires.{IsPortOf}
use Rattle.tv_framing.specs.engine.WiredFlows.{IsWired}
use Rattle.tv_framing.proofs.engine.Told.{links-of}
use Rattle.tv_framing.specs.keeping.NextEvents.{IsNextEvent}
use Rattle.tv_framing.specs.feeds.Fed.{IsFed, IsStepFed, PortsAreFed, given_at, has_all_now, newly, port_of}
use Rattle.tv_framing.proofs.feeds.Depths.{delivered-depth, so_far}
use Rattle.tv_framing.proofs.feeds.Links.{Stays, delivers, given, link-fed}
use Rattle.tv_framing.proofs.feeds.Marks.{has-all_now}
use Rattle.tv_framing.proofs.feeds.Next.{fs}
use Rattle.tv_framing.proofs.feeds.Standing.{fed-depth, stands}

-- what isn't shallower than the port isn't wrapped
unwrapped : (c d k : ℕ) → d - c ≡ suc k → (x : Traced) → wrapped (c - d) x ≡ x
unwrapped c d k e x = ap (λ n. wrapped n x) none
  where
    none : c - d ≡ 0
    none = omega arith

module _ (flows : List (Name × Flow)) (levels : Name → ℕ) (v : View) (e : Event) (next : IsNextEvent flows levels v e) (wired : IsWired v.flow)
    (instance : JobName) (results : Results) (depth : AreOfDepth v instance results) (told : Extends results (e ∷ v.events)) where
  abbrev gs : List InstanceStep
  gs = fs flows levels v e next wired instance results depth told

  abbrev brings : Link → Delivered
  brings l = delivers flows levels v e next wired instance results depth told l

  abbrev start : List (Name × Delivered)
  start = given flows levels v e next wired instance results depth told

  -- what is known from the start stays so
  abbrev Same : Origin → Type 0
  Same o = Stays flows levels v e next wired instance results depth told o

  -- ---- the links of a merge

  -- each brings at least so many levels
  abbrev AreDeep : ℕ → List Link → Type 0
  AreDeep k ls = Each (λ l. k ≤ (brings l).depth) ls

  all-deep : (k d : ℕ) → k ≤ d → (ls : List Link) → AllAre d (map (link_depth (depths_of start) (so_far gs)) ls) → AreDeep k ls
  all-deep k d le [] h = tt
  all-deep k d le (l ∷ ls) h = (subst (λ n. k ≤ n) (sym (delivered-depth start gs (link l) ∙ h.0)) le, all-deep k d le ls h.1)

  abbrev values_of : List Link → Trees Origin Scalar
  values_of ls = trees_of (map (λ (x : Delivered). x.value) (map brings ls))

  module _ (values : Name → Traced) (p : Name) where
    links-fed : (k i : ℕ) (ls : List Link) → list_all (is_there v.flow) ls ≡ true → AreDeep k ls → ((j : ℕ) (w : Traced) → item_at (values_of ls) j ≡ Some w → at (values p) ((i + j) ∷ []) ≡ Some w) → AreLinksFed instance results gs e v.events values p (newly levels v e) (given_at v.flow e) k i (values_of ls) ls
    links-fed k i [] h deep here = tt
    links-fed k i (l ∷ ls) h deep here =
        let b = and_parts (is_there v.flow l) (list_all (is_there v.flow) ls) h in (
          link-fed flows levels v e next wired instance results depth told values p l b.0 k (i ∷ []) (brings l).value refl deep.0 (ap (λ n. at (values p) (n ∷ [])) (plus-none i) ∙ here 0 (brings l).value refl),
          links-fed k (suc i) ls b.1 deep.1 (λ j w g. ap (λ n. at (values p) (n ∷ [])) (plus-suc i j) ∙ here (suc j) w g),
        )
      where
        plus-none : (m : ℕ) → m ≡ m + 0
        plus-none m = omega arith

        plus-suc : (m n : ℕ) → suc m + n ≡ m + suc n
        plus-suc m n = omega arith

    -- a port that walks some levels
    walked : (now : Bool) (k : ℕ) (f : Feed) (c : ℕ) → (feed_delivers step_of start gs f).depth - c ≡ suc k → list_all (is_there v.flow) (feed_links f) ≡ true → FeedAgrees (depths_of start) (so_far gs) f → (w : Traced) → w ≡ (feed_delivers step_of start gs f).value → values p ≡ w → IsPortFed instance results gs e v.events values p (newly levels v e) (given_at v.flow e) now (suc k) w f
    walked now k (link l) c left there agrees w plain have =
        link-fed flows levels v e next wired instance results depth told values p l ((and_parts (is_there v.flow l) true there).0) (suc k) [] w plain (some (brings l).depth c k left) (ap (λ x. Some x) have)
      where
        some : (a b m : ℕ) → a - b ≡ suc m → suc m ≤ a
        some a b m h = omega arith
    walked now k (merge []) c left there agrees w plain have = subst (AtNodes Same) (sym plain) (refl, tt)
    walked now k (merge (l ∷ ls)) c left there agrees w plain have =
        let le : k ≤ (brings l).depth = some (brings l).depth c k left in
        record {
          first = brings l;
          rest = map brings ls;
          value = plain;
          links = links-fed k 0 (l ∷ ls) there
              (le, all-deep k (link_depth (depths_of start) (so_far gs) l) (subst (λ m. k ≤ m) (delivered-depth start gs (link l)) le) ls agrees)
              (λ j x g. ap (λ y. at y ((0 + j) ∷ [])) (have ∙ plain) ∙ ap (λ m. option_and_then (λ u. at u []) (item_at (values_of (l ∷ ls)) m)) (none-plus j) ∙ ap (option_and_then (λ u. at u [])) g);
        }
      where
        some : (a b m : ℕ) → suc a - b ≡ suc m → m ≤ a
        some a b m h = omega arith

        none-plus : (m : ℕ) → 0 + m ≡ m
        none-plus m = omega arith
    walked now k (constant x) c left there agrees w plain have = subst (AtNodes Same) (sym plain) (traced-have Same fixed refl x)

  -- ---- a port

  module _ (n : ℕ) (s : Name × Step) (i : Name × StepInput) (port : IsPortOf v.flow n s i) (agrees : FeedAgrees (depths_of start) (so_far gs) i.1.from) where
    abbrev d : Delivered
    d = feed_delivers step_of start gs i.1.from

    walks-so : (port_of v gs i).1.mismatch ≡ levels_of v.flow i.1
    walks-so = ap (λ m. m - i.1.depth) (fed-depth flows levels v next.depths wired instance results i.1.from)

    module _ (values : Name → Traced) (have : values i.0 ≡ (port_of v gs i).1.value) where
      abbrev Fed : ℕ → Type 0
      Fed k = IsPortFed instance results gs e v.events values i.0 (newly levels v e) (given_at v.flow e) (has_all_now levels v e s.1 i) k (port_of v gs i).1.value i.1.from

      fed-by : (k : ℕ) → d.depth - i.1.depth ≡ k → Fed k
      fed-by zero h = record {
        stands = ap (λ x. Some x) have;
        now = has-all_now flows levels v e next wired instance results depth told n s i port (sym walks-so ∙ h) (i.1.depth - d.depth);
      }
      fed-by (suc k) h =
          walked values i.0 (has_all_now levels v e s.1 i) k i.1.from i.1.depth h (links-of v.flow wired n s i port) agrees
          (port_of v gs i).1.value (unwrapped i.1.depth d.depth k h d.value) have

    port-fed : IsFed levels v e instance results gs s.1 i
    port-fed = record { walks = walks-so; fed = λ values have. fed-by values have (d.depth - i.1.depth) refl }

  -- ---- a step

  module _ (n : ℕ) (s : Name × Step) (stands_at : slice_get v.flow.steps n ≡ Some s) where
    all-fed : (k : ℕ) (is : List (Name × StepInput)) → ((j : ℕ) (i : Name × StepInput) → slice_get is j ≡ Some i → slice_get s.1.inputs (k + j) ≡ Some i) → InputsAgree (depths_of start) (so_far gs) is → Each (IsFed levels v e instance results gs s.1) is
    all-fed k [] there agree = tt
    all-fed k (i ∷ is) there agree = (
      port-fed n s i (record { step = stands_at; number = k; port = ap (slice_get s.1.inputs) (plus-none k) ∙ there 0 i refl }) agree.0,
      all-fed (suc k) is (λ j x g. ap (slice_get s.1.inputs) (plus-suc k j) ∙ there (suc j) x g) agree.1,
    )
      where
        plus-none : (m : ℕ) → m ≡ m + 0
        plus-none m = omega arith

        plus-suc : (m n : ℕ) → suc m + n ≡ m + suc n
        plus-suc m n = omega arith

    step-fed : (f : InstanceStep) → In f gs → f.step.step ≡ s.0 → IsStepFed levels v e instance results gs s.1 f
    step-fed f there name =
        let st = stands flows levels v next.depths wired instance results n s stands_at in
        let finds = λ (g : InstanceStep) (i : In g gs). in-finds gs (steps-distinct v instance results) g i in
        let same : f ≡ st.step =
        same_Some f st.step
        (sym (finds f there)
        ∙ ap (λ m. find (λ (g : InstanceStep). same_name m g.step.step) gs) (name ∙ sym st.stands.name)
        ∙ finds st.step st.there)
        in
        record {
          ports = ap (λ (g : InstanceStep). g.step.inputs) same ∙ st.stands.inputs;
          fed = all-fed 0 s.1.inputs (λ j i g. ap (slice_get s.1.inputs) (none-plus j) ∙ g) st.stands.agree;
        }
      where
        none-plus : (m : ℕ) → 0 + m ≡ m
        none-plus m = omega arith

pub ports-are_fed : PortsAreFed
ports-are_fed flows levels v e next wired n s stands_at instance results depth told f there name =
    step-fed flows levels v e next wired instance results depth told n s stands_at f there name
