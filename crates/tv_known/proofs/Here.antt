-- The frame of an open instance keeps the view of that instance in the run; and each open instance has one.
use Rattle.std.specs.Cmp.{first_so, second_so}
use Rattle.std.specs.List.{list_any}
use Rattle.std.specs.Prelude.{◌≡◌, refl, ℕ, Bool, true, false, not, if◌then◌else◌, [], ◌∷◌, Option, None, Some, is_some, option_and_then, option_map, slice_get}
use Rattle.std.proofs.Common.{sym, ap, subst, ◌∙◌, inl, inr}
use Rattle.std.proofs.lemmas.Bool.{true≢false}
use Rattle.std.proofs.lemmas.Option.{none-some, same_Some}
use Rattle.tv_lemmas.specs.Members.{In}
use Rattle.tv_lemmas.proofs.Lists.{get-map, of-image}
use Rattle.tv_lemmas.proofs.Members.{of-options}
use Rattle.tv_value.specs.Values.{JobName}
use Rattle.tv_gate.specs.Outcomes.{Giving}
use Rattle.tv_flow.specs.Flows.{Document, Flow}
use Rattle.tv_check.specs.declared.plans.FlowPlan.{FlowPlan}
use Rattle.tv_check.specs.RunViews.{run_view}
use Rattle.tv_model.specs.Jobs.{Job}
use Rattle.tv_model.specs.Made.{Meaning}
use Rattle.tv_history.specs.Entries.{History, is_ended_entry, is_opened_entry}
use Rattle.tv_history.specs.Histories.{instances, is_open}
use Rattle.tv_history.specs.Runs.{flow_of, meant, past_of}
use Rattle.tv_framing.specs.Views.{View}
use Rattle.tv_forest.specs.Forest.{Instance, Instances, IsAt, Stays}
use Rattle.tv_forest.proofs.Instances.{sits}
use Rattle.tv_forest.proofs.firsts.Flows.{flows-by_names}
use Rattle.tv_forest.proofs.views.Runs.{Runs, runs}
use Rattle.tv_frame.specs.Kept.{Keeps}
use Rattle.tv_frame.specs.Tables.{levels_in}
use Rattle.tv_run.specs.Inner.{Frame, Open}
use Rattle.tv_run.specs.Standing.{Stands, frame_at, run_of}
use Rattle.tv_run.specs.declared.instances.Instance as code
use Rattle.tv_run.specs.declared.run.OpenRun.{OpenRun}
use Rattle.tv_run.proofs.JobLemmas.{instance-there, shut-is}
use Rattle.tv_board.proofs.Lived.{has-frame}
use Rattle.tv_known.specs.Frames.{IsFrameOf}
use Rattle.tv_known.specs.Stated.{FramesAreOfOpenInstances, OpenInstancesHaveFrames}

-- instance i is x, which was told v; the frame keeps it
pub record IsHere (gives : Giving) (r : OpenRun) (xs : Instances) (I : JobName) (flow : Flow) (f : Frame) : Type 0 where
  pub number : ℕ
  pub instance : Instance
  pub there : IsAt xs number instance
  pub named : instance.name ≡ I
  pub view : View
  pub shown : instance.view ≡ Some view
  pub own_flow : view.flow ≡ instance.flow
  pub is_flow : view.flow ≡ flow
  pub plan : FlowPlan
  pub keeps : Keeps (run_view r.run).flows plan r.pool f view
  pub run : Runs gives (run_view r.run).flows (meant gives (run_of r)) (past_of (run_of r)) I (levels_in instance.flow) view

module _ (gives : Giving) (r : OpenRun) (xs : Instances) (st : Stands gives r xs) where
  abbrev d : Document
  d = run_view r.run

  abbrev m : Meaning
  m = meant gives (run_of r)

  abbrev past : History
  past = past_of (run_of r)

  -- where there is a frame the instance was told something
  told : (i : ℕ) (x : Instance) (f : Frame) → IsAt xs i x → frame_at r i ≡ Some f → (v : View) × (x.view ≡ Some v)
  told i x f at there = by x.view refl
    where
      by : (o : Option View) → x.view ≡ o → (v : View) × (o ≡ Some v)
      by None e =
          let c = instance-there r xs st.fits i x at in
          absurd
          (none-some f
          (sym (ap (option_and_then (λ (c : code.Instance). option_map (λ (o : Open). o.frame) (slice_get c.open.items 0))) c.1
          ∙ ap (λ os. option_map (λ (o : Open). o.frame) (slice_get os 0)) (shut-is r i c.0 x c.2 e).0)
          ∙ there))
      by (Some v) e = (v, refl)

  pub here : (I : JobName) (flow : Flow) (f : Frame) → IsFrameOf r I flow f → IsHere gives r xs I flow f
  here I flow f is =
      let i = is.number in
      let g = of-image (λ (x : Instance). x.name) xs i I (sym (ap (λ l. slice_get l i) st.named) ∙ is.named) in
      let x = g.0 in
      let w = told i x f g.1 is.there in
      let v = w.0 in
      let own = has-frame r xs st.fits i x v g.1 w.1 in
      let s = sits gives d levels_in past xs st.stand i x v g.1 w.1 in
      record {
        number = i;
        instance = x;
        there = g.1;
        named = g.2;
        view = v;
        shown = w.1;
        own_flow = s.0;
        is_flow = s.0 ∙ same_Some x.flow flow (sym (flows-by_names gives d levels_in past xs st.stand i x g.1) ∙ ap (flow_of d.flows d.main) g.2 ∙ is.is_flow);
        plan = own.plan;
        keeps = subst (λ (h : Frame). Keeps d.flows own.plan r.pool h v) (same_Some own.frame f (sym own.there ∙ is.there)) own.keeps;
        run = subst (λ J. Runs gives d.flows m past J (levels_in x.flow) v) g.2 (runs gives d past x.name (levels_in x.flow) v s.1.in_run);
      }

  -- ---- each open instance

  abbrev HasFrame : JobName → Type 0
  HasFrame I = (flow : Flow) × (f : Frame) × IsFrameOf r I flow f

  -- it hasn't ended
  not-ended : (I : JobName) → is_open past I ≡ true → list_any (is_ended_entry I) past ≡ true → ⊥
  not-ended [] o e = true≢false (sym o ∙ ap not e)
  not-ended (k ∷ n) o e =
      true≢false (sym (second_so (list_any (is_opened_entry (k ∷ n)) past) (not (list_any (is_ended_entry (k ∷ n)) past)) o) ∙ ap not e)

  numbered : (i : ℕ) (x : Instance) → IsAt xs i x → is_open past x.name ≡ true → HasFrame x.name
  numbered i x at o = by x.view refl (st.stand.each i x at)
    where
      by : (u : Option View) → x.view ≡ u → Stays gives d levels_in past x u → HasFrame x.name
      by None e h = absurd (not-ended x.name o h.ended)
      by (Some v) e h =
          let own = has-frame r xs st.fits i x v at e in (
            x.flow,
            own.frame,
            record {
              number = i;
              named = ap (λ l. slice_get l i) st.named ∙ get-map (λ (y : Instance). y.name) xs i x at;
              is_flow = flows-by_names gives d levels_in past xs st.stand i x at;
              there = own.there;
            },
          )

  pub has : (I : JobName) → In I (instances m) → is_open past I ≡ true → HasFrame I
  has [] i o = let x = st.stand.main in subst HasFrame x.2.unnamed (numbered 0 x.0 x.1 (ap (is_open past) x.2.unnamed ∙ o))
  has (k ∷ n) (inl e) o = absurd (never e)
    where
      never : (k ∷ n) ≡ [] → ⊥
      never e = cc
  has (k ∷ n) (inr i) o =
      let w = of-options (λ (j : Job). if is_some j.opens then Some j.name else None) (k ∷ n) m.jobs i in
      let name = its-name w.0 (is_some w.0.opens) w.2 in
      let opened = first_so (list_any (is_opened_entry (k ∷ n)) past) (not (list_any (is_ended_entry (k ∷ n)) past)) o in
      let x = st.stand.all w.0 w.1 (ap (λ (J : JobName). list_any (is_opened_entry J) past) name ∙ opened) in
      let all = x.is_its ∙ name in
      subst HasFrame all (numbered x.number x.instance x.there (ap (is_open past) all ∙ o))
    where
      its-name : (j : Job) (b : Bool) → (if b then Some j.name else None) ≡ Some (k ∷ n) → j.name ≡ k ∷ n
      its-name j true e = same_Some j.name (k ∷ n) e
      its-name j false e = absurd (none-some (k ∷ n) e)

pub open_instances-have_frames : OpenInstancesHaveFrames
open_instances-have_frames gives r h I i o = has gives r h.0 h.1 I i o

pub frames-are_of_open : FramesAreOfOpenInstances
frames-are_of_open gives r h I flow f is = (here gives r h.0 h.1 I flow f is).run.is_open
