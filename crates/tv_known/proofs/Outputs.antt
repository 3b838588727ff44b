-- What the meaning lists for an open instance is what the steps by the results of its own jobs feed to its flow's outputs.
use Rattle.std.specs.Prelude.{◌≡◌, refl, ℕ, zero, suc, ◌⊎◌, Bool, [], List, ◌∷◌, Option, None, Some, find, map}
use Rattle.std.proofs.Common.{sym, ap, ap₂, subst, ◌∙◌, inl, inr}
use Rattle.std.proofs.lemmas.Option.{same_Some}
use Rattle.std.proofs.lemmas.Simd.{map-map}
use Rattle.tv_lemmas.specs.Members.{In}
use Rattle.tv_lemmas.proofs.Members.{found-in}
use Rattle.tv_value.specs.Nested.{Place}
use Rattle.tv_value.specs.Orders.{named, same_job}
use Rattle.tv_value.specs.Values.{JobName, Name, Value}
use Rattle.tv_value.proofs.JobNameLemmas.{same_job_decides}
use Rattle.tv_gate.specs.Outcomes.{Giving}
use Rattle.tv_flow.specs.Flows.{Document, Feed, Flow, StepInput}
use Rattle.tv_strategy.specs.Origins.{Traced, plain}
use Rattle.tv_model.specs.instance.ByResults.{step_of}
use Rattle.tv_model.specs.instance.Delivered.{feed_delivers}
use Rattle.tv_model.specs.Instances.{given_of, zip_names}
use Rattle.tv_model.specs.Jobs.{Job}
use Rattle.tv_model.specs.Lists.{rest_of}
use Rattle.tv_model.specs.Made.{Instance as Meant, Meaning}
use Rattle.tv_model.specs.Meanings.{meaning, nesting_limit}
use Rattle.tv_model.proofs.Whole.{AnyNumber}
use Rattle.tv_history.specs.Entries.{History}
use Rattle.tv_history.proofs.AcceptedDocuments.{accepted-agrees}
use Rattle.tv_history.proofs.Ready.{are-jobs, document-whole}
use Rattle.tv_framing.specs.Views.{View}
use Rattle.tv_forest.specs.Forest.{Instance, Instances, IsAt, IsMain, Stand}
use Rattle.tv_forest.specs.views.InRun.{IsOfJob}
use Rattle.tv_forest.proofs.Instances.{one-job}
use Rattle.tv_forest.proofs.views.OwnDepths.{accepted-sound}
use Rattle.tv_forest.proofs.views.Runs.{Runs, steps_here}
use Rattle.tv_known.specs.Meant.{instance_at}
use Rattle.tv_known.proofs.Gives.{fed-same}
use Rattle.tv_known.proofs.Instances.{AreListed, HasOne, IsFed, IsOpened, IsOwn, all-listed}
use Rattle.tv_known.proofs.Steps.{none-found}

-- names and values make one list
zip-is :
    (is : List (Name × StepInput)) (ws : List Traced) (vs : List (Name × Value))
    → map (λ v. v.0) vs ≡ map (λ i. i.0) is → map (λ v. v.1) vs ≡ map plain ws → vs ≡ zip_names is ws
zip-is [] ws [] e f = refl
zip-is [] ws (v ∷ vs) e f = absurd cc
zip-is (i ∷ is) [] [] e f = absurd cc
zip-is (i ∷ is) [] (v ∷ vs) e f = absurd cc
zip-is (i ∷ is) (w ∷ ws) [] e f = absurd cc
zip-is (i ∷ is) (w ∷ ws) (v ∷ vs) e f =
    let n : v.0 ≡ i.0 = cc in
    let x : v.1 ≡ plain w = cc in
    ap₂ (λ z zs. z ∷ zs) (λ t. (n t, x t)) (zip-is is ws vs (ap rest_of e) (ap rest_of f))

-- the meaning lists an instance of this name, of the view's flow on its inputs
pub record IsThere (gives : Giving) (flows : List (Name × Flow)) (m : Meaning) (J : JobName) (v : View) : Type 0 where
  pub instance : Meant
  pub found : instance_at m J ≡ Some instance
  pub is_fed : IsFed gives flows m J v.flow v.inputs instance.outputs

-- and it gives what the steps feed
pub outputs-fed :
    (gives : Giving) (flows : List (Name × Flow)) (m : Meaning) (past : History) (J : JobName) (levels : Name → ℕ) (v : View)
    → (run : Runs gives flows m past J levels v) → (w : IsThere gives flows m J v)
    → w.instance.outputs ≡ map (λ (o : Name × Feed). (o.0, (feed_delivers step_of (given_of v.flow v.inputs) (steps_here gives flows m past J levels v run) o.1).value)) v.flow.outputs
outputs-fed gives flows m past J levels v run w =
    w.is_fed.fed
    ∙ ap (λ (g : Feed → Traced). map (λ (o : Name × Feed). (o.0, g o.1)) v.flow.outputs)
    (λ i f. (fed-same gives flows m past J levels v run w.is_fed.levels v.inputs w.is_fed.steps refl f i).value)

module _ (gives : Giving) (d : Document) (levels_of : Flow → Name → ℕ) (past : History) (xs : Instances) (stand : Stand gives d levels_of past xs) where
  abbrev m : Meaning
  m = meaning gives d

  listed : AreListed gives d.flows m d.main [] d.inputs
  listed =
      let agrees = accepted-agrees d stand.formed stand.accepted in
      all-listed gives d.flows (accepted-sound d stand.formed stand.accepted) nesting_limit d.main agrees.nests [] d.inputs

  -- no job is named as the main instance is
  named-job : (j : Job) → In j m.jobs → j.name ≡ [] → ⊥
  named-job j i e = let w = (are-jobs gives AnyNumber m [] (document-whole gives d)).has_name j i in no-name w.0 w.1 (sym w.2 ∙ e)
    where
      no-name : (k : Name × Place) (n : JobName) → k ∷ n ≡ [] → ⊥
      no-name k n e = cc

  abbrev has_its : JobName → Meant → Bool
  has_its J i = same_job J i.name

  -- the one that is found is of this name
  found-one : (J : JobName) → HasOne gives d.flows m J → (i : Meant) × (instance_at m J ≡ Some i) × In i m.instances × (i.name ≡ J)
  found-one J w = by (find (has_its J) m.instances) refl
    where
      by : (o : Option Meant) → find (has_its J) m.instances ≡ o → (i : Meant) × (o ≡ Some i) × In i m.instances × (i.name ≡ J)
      by None e = absurd (none-found (has_its J) m.instances e w.0 w.1 ((same_job_decides J w.0.name).1 (sym w.2)))
      by (Some i) e = let f = found-in (has_its J) m.instances i e in (i, refl, f.0, sym ((same_job_decides J i.name).0 f.1))

  is-there : (J : JobName) (v : View) (i : Meant) → instance_at m J ≡ Some i → IsFed gives d.flows m i.name i.flow i.inputs i.outputs → i.name ≡ J → i.flow ≡ v.flow → i.inputs ≡ v.inputs → IsThere gives d.flows m J v
  is-there J v i found fed name flow inputs = record {
    instance = i;
    found = found;
    is_fed =
        subst (λ vs. IsFed gives d.flows m J v.flow vs i.outputs) inputs
        (subst (λ f. IsFed gives d.flows m J f i.inputs i.outputs) flow
        (subst (λ n. IsFed gives d.flows m n i.flow i.inputs i.outputs) name fed));
  }

  -- an open instance
  module _ (x : Instance) (v : View) (shown : x.view ≡ Some v) (flow : v.flow ≡ x.flow) where
    -- the main one
    of-main : IsAt xs 0 x → IsThere gives d.flows m x.name v
    of-main at =
        let same = same_Some stand.main.0 x (sym stand.main.1 ∙ at) in
        let main = subst (IsMain d) same stand.main.2 in
        let f = found-one [] (listed.own) in
        let l = listed.each f.0 f.2 in
        subst (λ J. IsThere gives d.flows m J v) (sym main.unnamed) (by main f.0 f.1 f.3 l.is_fed l.whose)
      where
        by : IsMain d x → (i : Meant) → instance_at m [] ≡ Some i → i.name ≡ [] → IsFed gives d.flows m i.name i.flow i.inputs i.outputs → IsOwn gives d.flows d.main [] d.inputs i ⊎ IsOpened gives d.flows m i → IsThere gives d.flows m [] v
        by main i found name fed (inl w) = is-there [] v i found fed name (same_Some i.flow v.flow (sym w.is_flow ∙ main.is_flow ∙ ap Some (sym flow))) (w.inputs ∙ sym (main.inputs v shown))
        by main i found name fed (inr w) = absurd (named-job w.job w.listed (sym w.named_so ∙ name))

    -- and one that the job j opened
    of-job : (j : Job) → In j m.jobs → IsOfJob d j v → IsThere gives d.flows m j.name v
    of-job j listed_job its =
        let f = found-one j.name (listed.opened j listed_job its.flow_name its.opens) in
        let l = listed.each f.0 f.2 in
        by f.0 f.1 f.3 l.is_fed l.whose
      where
        by : (i : Meant) → instance_at m j.name ≡ Some i → i.name ≡ j.name → IsFed gives d.flows m i.name i.flow i.inputs i.outputs → IsOwn gives d.flows d.main [] d.inputs i ⊎ IsOpened gives d.flows m i → IsThere gives d.flows m j.name v
        by i found name fed (inl w) = absurd (named-job j listed_job (sym name ∙ w.named_so))
        by i found name fed (inr w) =
            let same : w.job ≡ j = one-job gives d w.job j w.listed listed_job (sym w.named_so ∙ name) in
            let called : w.flow_name ≡ its.flow_name = same_Some w.flow_name its.flow_name (sym w.opens ∙ ap (λ (k : Job). k.opens) same ∙ its.opens) in
            let is_flow : i.flow ≡ v.flow = same_Some i.flow v.flow (sym w.is_flow ∙ ap (λ g. named g d.flows) called ∙ its.is_flow) in
            let agreed : w.agrees.flow ≡ v.flow = same_Some w.agrees.flow v.flow (sym w.agrees.is_flow ∙ ap (λ g. named g d.flows) called ∙ its.is_flow) in
            let names : map (λ (y : Name × Value). y.0) v.inputs ≡ map (λ (s : Name × StepInput). s.0) w.step.inputs =
            its.names ∙ ap (λ (f : Flow). map (λ (y : Name × ℕ). y.0) f.inputs) (sym agreed) ∙ ap (λ ys. map (λ (y : Name × ℕ). y.0) ys) w.agrees.inputs
            ∙ map-map (λ (y : Name × ℕ). y.0) (λ (s : Name × StepInput). (s.0, s.1.depth)) w.step.inputs in
            is-there j.name v i found fed name is_flow
            (w.inputs ∙ ap (λ (k : Job). zip_names w.step.inputs k.inputs) same ∙ sym (zip-is w.step.inputs j.inputs v.inputs names its.values))

    pub there : (i : ℕ) → IsAt xs i x → (J : JobName) → x.name ≡ J → IsThere gives d.flows m J v
    there zero at J e = subst (λ n. IsThere gives d.flows m n v) e (of-main at)
    there (suc i) at J e =
        let o = stand.opened i x at in
        subst (λ n. IsThere gives d.flows m n v) (sym o.named ∙ e) (of-job o.job o.is_job.job.listed (o.while_open v shown).1)
