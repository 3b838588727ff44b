-- The flow of an instance is the one that its name leads to, with its steps by rank.
use Rattle.std.specs.Prelude.{◌≡◌, refl, ℕ, zero, suc, ◌<◌, List, [], ◌∷◌, length, Bool, true, false, if◌then◌else◌, Option, Some, None, find, option_and_then}
use Rattle.std.specs.Cmp.Lexicographic.{bytes_decides}
use Rattle.std.specs.Option.{option_map_or}
use Rattle.std.proofs.Common.{ap, ap₂, arith, inl, inr, subst, sym, ◌∙◌}
use Rattle.std.proofs.lemmas.Option.{none-some, same_Some}
use Rattle.tv_lemmas.specs.Members.{Each, In}
use Rattle.tv_lemmas.proofs.Members.{each_in, get-in, in-slice}
use Rattle.tv_value.specs.Orders.{named, same_job, same_name}
use Rattle.tv_value.specs.Values.{JobName, Name}
use Rattle.tv_value.proofs.JobNameLemmas.{same_job_decides}
use Rattle.tv_gate.specs.Outcomes.{Giving}
use Rattle.tv_flow.specs.Flows.{Document, Flow, Step}
use Rattle.tv_flow.specs.Formed.{is_formed}
use Rattle.tv_naming.proofs.FormedParts.{steps-ascend}
use Rattle.tv_model.specs.instance.Ranks.{ranked}
use Rattle.tv_check.proofs.Ranked.{all-ranked}
use Rattle.tv_check.specs.Plans.{IsAccepted}
use Rattle.tv_history.specs.agreement.InstanceFlows.{StandsIn, instance_flow}
use Rattle.tv_model.specs.Opening.{first_nested}
use Rattle.tv_history.specs.agreement.PlannedDepths.{JobIsPlanned}
use Rattle.tv_history.proofs.Lists.{named-each}
use Rattle.tv_history.proofs.Planned.{meanings-planned}
use Rattle.tv_model.specs.Jobs.{Job}
use Rattle.tv_model.specs.Made.{Meaning}
use Rattle.tv_model.specs.Meanings.{meaning}
use Rattle.tv_model.proofs.Members.{no-nil, once-of_apart}
use Rattle.tv_model.proofs.Tests.{true≠false}
use Rattle.tv_model.proofs.Whole.{rank-each}
use Rattle.tv_model.proofs.MemberLemmas.{named-in}
use Rattle.tv_history.specs.Entries.{History}
use Rattle.tv_history.proofs.Ready.{document-whole}
use Rattle.tv_history.proofs.Tests.{same-itself}
use Rattle.tv_model.specs.JobOrder.{step_flow, steps_at, steps_in}
use Rattle.tv_history.proofs.First.{find-first}
use Rattle.tv_framing.specs.engine.WiredFlows.{IsWired}
use Rattle.tv_framing.proofs.engine.Accepted.{accepted-wired}
use Rattle.tv_history.specs.Runs.{flow_of}
use Rattle.tv_history.proofs.Flows.{flow-opened}
use Rattle.tv_forest.proofs.views.OwnDepths.{formed-flow, formed-named}
use Rattle.tv_forest.specs.seats.Seated.{spot_of}
use Rattle.tv_forest.specs.Forest.{Instance, Instances, IsAt, IsOpened, Stand}
use Rattle.tv_forest.specs.firsts.Told.{FlowsByNames}

-- ---- names in a list

not-none : (n : Name) (xs : List (Name × Step)) (s : Step) → In (n, s) xs → named n xs ≡ None → ⊥
not-none n [] s i e = i
not-none n (x ∷ xs) s i e = by (same_name n x.0) refl i e (not-none n xs s)
  where
    by : (b : Bool) → same_name n x.0 ≡ b → In (n, s) (x ∷ xs) → (if b then Some x.1 else named n xs) ≡ None
        → (In (n, s) xs → named n xs ≡ None → ⊥) → ⊥
    by true h j g rec = none-some x.1 (sym g)
    by false h (inl p) g rec = true≠false (sym ((bytes_decides n x.0).1 (ap (λ (y : Name × Step). y.0) p)) ∙ h)
    by false h (inr j) g rec = rec j g

-- ---- steps by rank

module _ (gives : Giving) (d : Document) (formed : is_formed d ≡ true) (accepted : IsAccepted d) where
  abbrev m : Meaning
  m = meaning gives d

  module _ (f : Name) (flow : Flow) (is : named f d.flows ≡ Some flow) where
    wired : IsWired flow
    wired = accepted-wired flow ∣ (d, (f, formed, accepted, is)) ∣₁

    abbrev IsOwn : Name × Step → Type 0
    IsOwn s = named s.0 flow.steps ≡ Some s.1

    ranked-own : Each IsOwn (ranked flow.steps)
    ranked-own =
        rank-each gives (λ n. Unit {0}) IsOwn (length flow.steps) [] flow.steps
        (formed-named flow (formed-flow d formed f flow is))

    -- a step has its name among the ranked ones too
    named-ranked : (n : Name) (s : Step) → named n flow.steps ≡ Some s → named n (ranked flow.steps) ≡ Some s
    named-ranked n s e = by (named n (ranked flow.steps)) refl
      where
        there : In (n, s) (ranked flow.steps)
        there =
            let p = get-in (n, s) flow.steps (named-in n flow.steps s e) in
            let r = all-ranked flow.steps (steps-ascend flow wired.formed) wired.ranked (n, s) p in
            in-slice (ranked flow.steps) r.0 (n, s) r.1

        by : (o : Option Step) → named n (ranked flow.steps) ≡ o → o ≡ Some s
        by None q = absurd (not-none n (ranked flow.steps) s there q)
        by (Some t) q = sym (named-each IsOwn n (ranked flow.steps) t ranked-own q) ∙ e

  -- a name that leads to a flow leads to its steps
  pub steps-led : (k : ℕ) (f : Name) (I : JobName) (flow : Flow) → length I < k → flow_of d.flows f I ≡ Some flow
      → steps_at d.flows k f I ≡ ranked flow.steps
  steps-led zero f I flow b e = absurd (omega (arith, b))
  steps-led (suc k) f [] flow b e =
      ap (λ o. option_map_or (λ (g : Flow). steps_in (steps_at d.flows k) (ranked g.steps) []) o []) e
  steps-led (suc k) f (c ∷ I) flow b e =
      by (named f d.flows) refl e (λ g q. steps-led k g I flow (omega (arith, b)) q)
    where
      behind : Step → Option Flow
      behind s = option_and_then (λ g. flow_of d.flows g I) (first_nested s.activities)

      Rec : Type 0
      Rec = (g : Name) → flow_of d.flows g I ≡ Some flow → steps_at d.flows k g I ≡ ranked flow.steps

      of-next : (o : Option Name) → option_and_then (λ g. flow_of d.flows g I) o ≡ Some flow → Rec
          → option_map_or (λ g. steps_at d.flows k g I) o [] ≡ ranked flow.steps
      of-next None h rec = absurd (none-some flow h)
      of-next (Some g) h rec = rec g h

      of-step : (g : Flow) → named f d.flows ≡ Some g → (o : Option Step) → named c.0 g.steps ≡ o
          → option_and_then behind o ≡ Some flow → Rec
          → option_map_or (λ h. steps_at d.flows k h I) (step_flow (ranked g.steps) c.0) [] ≡ ranked flow.steps
      of-step g q None r h rec = absurd (none-some flow h)
      of-step g q (Some s) r h rec =
          ap (λ o. option_map_or (λ h. steps_at d.flows k h I) (option_and_then (λ (t : Step). first_nested t.activities) o) [])
          (named-ranked f g q c.0 s r)
          ∙ of-next (first_nested s.activities) h rec

      by : (o : Option Flow) → named f d.flows ≡ o
          → option_and_then (λ (g : Flow). option_and_then behind (named c.0 g.steps)) o ≡ Some flow → Rec
          → option_map_or (λ (g : Flow). steps_in (steps_at d.flows k) (ranked g.steps) (c ∷ I)) o [] ≡ ranked flow.steps
      by None q h rec = absurd (none-some flow h)
      by (Some g) q h rec = of-step g q (named c.0 g.steps) refl h rec

  planned : (j : Job) → In j m.jobs → JobIsPlanned d m j
  planned j i = each_in (JobIsPlanned d m) m.jobs (meanings-planned gives d formed accepted).jobs j i

  -- the flow of the instance that a job opens
  opens-flow : (j : Job) → In j m.jobs → instance_flow d m j.name ≡ j.opens
  opens-flow j i = by j.name refl
    where
      found : find (λ k. same_job j.name k.name) m.jobs ≡ Some j
      found =
          find-first (λ (k : Job). k.name) (λ k. same_job j.name k.name) m.jobs (document-whole gives d).jobs_apart j i
          (same-itself j.name)
          (λ k h e.
          inl
          (once-of_apart (λ (l : Job). l.name) m.jobs (document-whole gives d).jobs_apart k j h i
          (sym ((same_job_decides j.name k.name).0 e))))

      unnamed : j.name ≡ [] → ⊥
      unnamed e = let w = (document-whole gives d).jobs j i in no-nil j.instance w.key (sym e ∙ w.named)

      by : (n : JobName) → j.name ≡ n → instance_flow d m n ≡ j.opens
      by [] e = absurd (unnamed e)
      by (k ∷ n) e =
          subst (λ l. option_and_then (λ (p : Job). p.opens) (find (λ p. same_job l p.name) m.jobs) ≡ j.opens) e
          (ap (option_and_then (λ (p : Job). p.opens)) found)

-- ---- instances

module _ (gives : Giving) (d : Document) (levels : Flow → Name → ℕ) (past : History) (xs : Instances)
    (stand : Stand gives d levels past xs) where
  abbrev n : Meaning
  n = meaning gives d

  -- the name of its flow
  pub record HasFlow (x : Instance) : Type 0 where
    pub flow_name : Name
    pub of_instance : instance_flow d n x.name ≡ Some flow_name
    pub is_flow : named flow_name d.flows ≡ Some x.flow

  has-flow : (i : ℕ) (x : Instance) → IsAt xs i x → HasFlow x
  has-flow zero x e =
      let same = same_Some stand.main.0 x (sym stand.main.1 ∙ e) in
      subst HasFlow same
      (record { flow_name = d.main; of_instance = ap (instance_flow d n) stand.main.2.unnamed; is_flow = stand.main.2.is_flow })
  has-flow (suc i) x e =
      let o = stand.opened i x e in
      record {
        flow_name = o.flow_name;
        of_instance =
            ap (instance_flow d n) o.named
            ∙ opens-flow gives d stand.formed stand.accepted o.job o.is_job.job.listed
            ∙ o.opens;
        is_flow = o.is_flow;
      }

  -- one that a job of an instance opened
  next-flow : (i : ℕ) (x : Instance) → (o : IsOpened gives d xs i x) → flow_of d.flows d.main o.around.name ≡ Some o.around.flow
      → flow_of d.flows d.main x.name ≡ Some x.flow
  next-flow i x o e =
      ap (flow_of d.flows d.main) (o.named ∙ o.is_job.job.name)
      ∙ flow-opened d o.around.name o.around.flow e spot own.step o.flow_name x.flow step
      (p.opens o.flow_name o.opens) o.is_flow
    where
      spot : Name × List ℕ
      spot = spot_of o.around.flow.steps o.seat

      p : JobIsPlanned d n o.job
      p = planned gives d stand.formed stand.accepted o.job o.is_job.job.listed

      own : StandsIn d n o.job.instance o.job.step
      own = p.own

      around : HasFlow o.around
      around = has-flow o.outer o.around o.is_job.instance

      same-name : own.flow_name ≡ around.flow_name
      same-name =
          same_Some own.flow_name around.flow_name
          (sym own.of_instance ∙ ap (instance_flow d n) o.is_job.job.within ∙ around.of_instance)

      same-flow : own.flow ≡ o.around.flow
      same-flow =
          same_Some own.flow o.around.flow (sym own.is_flow ∙ ap (λ k. named k d.flows) same-name ∙ around.is_flow)

      step : named spot.0 o.around.flow.steps ≡ Some own.step
      step =
          ap₂ (λ k (f : Flow). named k f.steps) (sym o.is_job.job.step) (sym same-flow) ∙ own.is_step

  flow-led : (b i : ℕ) → i < b → (x : Instance) → IsAt xs i x → flow_of d.flows d.main x.name ≡ Some x.flow
  flow-led zero i l x e = absurd (omega (arith, l))
  flow-led (suc b) zero l x e =
      let same = same_Some stand.main.0 x (sym stand.main.1 ∙ e) in
      subst (λ y. flow_of d.flows d.main y.name ≡ Some y.flow) same
      (ap (flow_of d.flows d.main) stand.main.2.unnamed ∙ stand.main.2.is_flow)
  flow-led (suc b) (suc i) l x e =
      let o = stand.opened i x e in
      next-flow (suc i) x o (flow-led b o.outer (omega (arith, l, o.before)) o.around o.is_job.instance)

pub flows-by_names : FlowsByNames
flows-by_names gives d levels past xs stand i x e =
    flow-led gives d levels past xs stand (suc i) i (omega arith) x e
