-- What a call that seeks a passed fault reads: where its leaf begins, its port, and what the port's feed is found to deliver.
use Rattle.std.specs.Global.{Global}
use Rattle.std.specs.Prelude.{◌≡◌, refl, ℕ, ◌*◌, ◌<◌, Vec, List, drop, length, map, Option, Some, option_and_then, slice_get, slice_index_or, IfOk, Result, Ok, Err}
use Rattle.std.proofs.Common.{Fits, arith, w64, sym, ap, subst, ◌∙◌}
use Rattle.std.proofs.lemmas.List.{length-map}
use Rattle.std.proofs.lemmas.Option.{slice_get_within}
use Rattle.std.proofs.lemmas.Bool.{and_parts}
use Rattle.tv_lemmas.specs.Members.{In}
use Rattle.tv_lemmas.proofs.Lists.{get-map, index-map}
use Rattle.tv_value.specs.Nested.{Place}
use Rattle.tv_value.specs.Values.{ErrorDoc, Name, Value, fault_value}
use Rattle.tv_flow.specs.Flows.{Flow, Step, StepInput}
use Rattle.tv_flow.specs.Formed.{is_depth, is_feed, is_step, is_step_input}
use Rattle.tv_flow.specs.Views.{flow_view}
use Rattle.tv_naming.proofs.FormedParts.{all-pass, entries-passes, few, flow-steps, step-at, step-inputs}
use Rattle.tv_matching.specs.Matchers.{fault_at}
use Rattle.tv_check.specs.declared.ports.Port.{Port}
use Rattle.tv_check.specs.declared.wiring.Wiring.{Wiring}
use Rattle.tv_check.specs.Feeds.{feed_numbered}
use Rattle.tv_check.specs.Ports.{ports_of}
use Rattle.tv_outputs.specs.Known.{Nodes}
use Rattle.tv_binding.specs.declared.sources.Sources.{Sources}
use Rattle.tv_binding.specs.Constants.{FlowConstants, constant_in, constant_of_port, constants_view, port_constants, there}
use Rattle.tv_binding.specs.Found.{feed_found}
use Rattle.tv_binding.specs.Sourced.{IsCounted, known_by}
use Rattle.tv_check.specs.declared.plans.FlowPlan.{FlowPlan}
use Rattle.tv_check.specs.declared.plans.StepPlan.{StepPlan}
use Rattle.tv_check.specs.Plans as plans
use Rattle.tv_check.specs.PlanViews.{step_plan_view}
use Rattle.tv_intake.specs.Intaken.{matcher_at}
use Rattle.tv_model.specs.instance.Events.{fault_set}
use Rattle.tv_framing.specs.Answers.{CanSettle}
use Rattle.tv_framing.specs.Views.{View}
use Rattle.tv_framing.specs.matches.Steps.{IsStepAt}
use Rattle.tv_framing.specs.matches.Waiting.{waiting_of}
use Rattle.tv_frame.specs.declared.frame.Frame.{Frame}
use Rattle.tv_frame.specs.Kept.{Keeps, followed_by}
use Rattle.tv_frame.specs.Tables.{step_starts}
use Rattle.tv_check.specs.Tables.{step_level}
use Rattle.tv_frame.proofs.Faulting.{begins, fault-found, from, port-there, takes}
use Rattle.tv_frame.proofs.FaultingKnown.{index-mapped, knows-all, read-there}
use Rattle.tv_frame.proofs.Given.{feed-counted}
use Rattle.tv_frame.proofs.HoldAround.{wiring-kept}
use Rattle.tv_frame.proofs.Keeping.{kept-wired}

pub ok-weaken : {T E : Type 0} (P Q : T → Type 0) (r : Result T E) → ((x : T) → P x → Q x) → IfOk r P → IfOk r Q
ok-weaken P Q (Ok x) h p = h x p
ok-weaken P Q (Err e) h p = p

-- the depth of a step's strategy, by the plan
plan-levels : (f : Flow) (s : Name × Step) → (plans.step_plan f s).depth ≡ step_level f s.1
plan-levels f (n, s) = refl

pub planned : (p : FlowPlan) (n : ℕ) (d : StepPlan) (s : Name × Step) → slice_get (flow_view p.flow).steps n ≡ Some s → (slice_index_or p.steps n d).depth ≡ step_level (flow_view p.flow) s.1
planned p n d s e =
    ap (λ (y : plans.StepPlan). y.depth)
    (sym (index-mapped step_plan_view p.steps n d)
    ∙ ap (λ (y : plans.FlowPlan). slice_index_or y.steps n (step_plan_view d)) p.kept.0
    ∙ index-map (plans.step_plan (flow_view p.flow)) (flow_view p.flow).steps n s (step_plan_view d) e)
    ∙ plan-levels (flow_view p.flow) s

module _ (flows : List (Name × Flow)) (plan : FlowPlan) (pool : Nodes) (f : Frame) (v : View) (n : ℕ) (s : Name × Step) (keeps : Keeps flows plan pool f v) (at : IsStepAt v n s) (q : Place) (l : ℕ) (waits : In (fault_at q l) (waiting_of v.events s.0 (followed_by (matcher_at f.intakes n)))) where
  abbrev row_of : Name × Step → List ℕ
  row_of t = map (λ (x : Name × ℕ). x.1) (step_starts v.flow t)

  row-is : (a : Vec ℕ Global) → a ≡ slice_index_or f.tables.starts.items n a → a.items ≡ row_of s
  row-is a e =
      ap (λ (y : Vec ℕ Global). y.items) e
      ∙ sym (index-mapped (λ (y : Vec ℕ Global). y.items) f.tables.starts.items n a)
      ∙ ap (λ xs. slice_index_or xs n a.items) keeps.tables_are.starts_are
      ∙ index-map row_of v.flow.steps n s a.items at

  pub leaf-within : (a : Vec ℕ Global) → a ≡ slice_index_or f.tables.starts.items n a → l < length a.items
  leaf-within a e =
      let b = begins flows plan pool f v n s keeps at q l waits in
      subst (λ (xs : List ℕ). l < length xs) (sym (row-is a e)) (slice_get_within (row_of s) l b.0 b.1)

  pub start-is : (a : Vec ℕ Global) (b : ℕ) → a ≡ slice_index_or f.tables.starts.items n a → b ≡ slice_index_or a.items l b → slice_get (row_of s) l ≡ Some b
  start-is a b e h =
      let k = begins flows plan pool f v n s keeps at q l waits in
      k.1 ∙ ap (λ y. Some y) (sym (h ∙ ap (λ xs. slice_index_or xs l b) (row-is a e) ∙ read-there (row_of s) l b k.0 k.1))

  all-ports : plan.wiring.ports ≡ map (λ (t : Name × Step). ports_of v.flow t.1) v.flow.steps
  all-ports = ap (λ (w : Wiring). w.ports) (wiring-kept flows plan pool f v keeps)

  pub ports-within : (xs : List (List Port)) → xs ≡ plan.wiring.ports → n < length xs
  ports-within xs e = subst (λ m. n < m) (sym (ap length (e ∙ all-ports) ∙ length-map v.flow.steps (λ (t : Name × Step). ports_of v.flow t.1))) (slice_get_within v.flow.steps n s at)

  pub step-small : Fits w64 (n * 24)
  step-small =
      let b = slice_get_within v.flow.steps n s at in
      let c = few is_step 0 1000 v.flow.steps (flow-steps v.flow (kept-wired flows plan pool f v keeps).formed) in
      omega (arith, b, c)

  pub ports-read : (xs : List (List Port)) (row ports : List Port) → xs ≡ plan.wiring.ports → ports ≡ slice_index_or xs n row → ports ≡ ports_of v.flow s.1
  ports-read xs row ports e h = h ∙ ap (λ ys. slice_index_or ys n row) (e ∙ all-ports) ∙ index-map (λ (t : Name × Step). ports_of v.flow t.1) v.flow.steps n s row at

  module _ (ports : List Port) (ports_are : ports ≡ ports_of v.flow s.1) (j : ℕ) (found : (k : ℕ) (p : Port) → slice_get ports k ≡ Some p → p.leaf ≡ l → (r : Port) × (slice_get ports j ≡ Some r) × (r.leaf ≡ l)) where
    here : (r : Port) × (slice_get ports j ≡ Some r) × (r.leaf ≡ l)
    here =
        let p = port-there flows plan pool f v n s keeps at q l waits in
        found p.0 p.1 (ap (λ xs. slice_get xs p.0) ports_are ∙ p.2) p.3

    pub port-within : j < length ports
    port-within = slice_get_within ports j here.0 here.1

    own : slice_get (ports_of v.flow s.1) j ≡ Some here.0
    own = ap (λ xs. slice_get xs j) (sym ports_are) ∙ here.1

    module _ (a : Sources) (inputs_are : a.inputs.now ≡ f.inputs) (outputs_are : a.outputs.now ≡ f.outputs) (nodes_are : a.pool.now ≡ pool) (firsts_are : a.firsts.now ≡ f.tables.firsts.items) where
      abbrev input : Name × StepInput
      input = takes flows plan pool f v n s keeps at q l waits j here.0 own here.2 (known_by a) (knows-all flows plan pool f v keeps a inputs_are outputs_are nodes_are firsts_are)

      stands : slice_get s.1.inputs j ≡ Some input
      stands = (from flows plan pool f v n s keeps at q l waits j here.0 own here.2 (known_by a) (knows-all flows plan pool f v keeps a inputs_are outputs_are nodes_are firsts_are)).stands

      feed-is : (d : Port) → (slice_index_or ports j d).feed ≡ feed_numbered v.flow input.1.from
      feed-is d =
          ap (λ (p : Port). p.feed)
          (read-there ports j d here.0 here.1
          ∙ sym (from flows plan pool f v n s keeps at q l waits j here.0 own here.2 (known_by a) (knows-all flows plan pool f v keeps a inputs_are outputs_are nodes_are firsts_are)).is)

      pub feed-few : (d : Port) → IsCounted (slice_index_or ports j d).feed
      feed-few d =
          subst IsCounted (sym (feed-is d))
          (feed-counted v.flow input.1.from
          (and_parts (is_depth input.1.depth) (is_feed input.1.from)
          (entries-passes is_step_input s.1.inputs j input (all-pass is_step_input 0 16 s.1.inputs (step-inputs s.1 (step-at v.flow (kept-wired flows plan pool f v keeps).formed n s at))) stands)).1)

      constant-is : constant_of_port (constants_view f.tables.constants) n j ≡ constant_in input.1.from
      constant-is =
          ap (λ (k : FlowConstants). constant_of_port k n j) keeps.tables_are.constants_are
          ∙ ap (option_and_then (λ (os : List (Option Value)). there os j)) (get-map port_constants v.flow.steps n s at)
          ∙ ap (option_and_then (λ (o : Option Value). o)) (get-map (λ (i : Name × StepInput). constant_in i.1.from) s.1.inputs j input stands)

      -- THE FAULT
      pub fault-read : (d : Port) (c : Option Value) → c ≡ constant_of_port (constants_view f.tables.constants) n j → (start : ℕ) → slice_get (row_of s) l ≡ Some start → (inside : Place) → inside ≡ drop start q → (e : ErrorDoc) × (feed_found (known_by a) (slice_index_or ports j d).feed c inside ≡ Some (fault_value e)) × CanSettle v (fault_set s.0 q e)
      fault-read d c c_is start start_is inside inside_is =
          let r = fault-found flows plan pool f v n s keeps at q l waits j here.0 own here.2 (known_by a) (knows-all flows plan pool f v keeps a inputs_are outputs_are nodes_are firsts_are) start start_is in (
            r.0,
            ap (λ y. feed_found (known_by a) y c inside) (feed-is d)
                ∙ ap (λ y. feed_found (known_by a) (feed_numbered v.flow input.1.from) y inside) (c_is ∙ constant-is)
                ∙ ap (feed_found (known_by a) (feed_numbered v.flow input.1.from) (constant_in input.1.from)) inside_is
                ∙ r.1,
            r.2,
          )
