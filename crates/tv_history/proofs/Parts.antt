-- The instance that a job of a meaning opens is that of its flow, at any depth.
use Rattle.std.specs.Prelude.{◌≡◌, refl, ℕ, zero, suc, ◌⊎◌, List, [], ◌∷◌, ◌++◌, length, flat_map, Option, Some, None, is_some}
use Rattle.std.specs.Option.{option_map_or}
use Rattle.std.proofs.Common.{sym, ap, subst, ◌∙◌, inl, inr, append_assoc, append-nil}
use Rattle.tv_lemmas.specs.Members.{Each, In}
use Rattle.tv_lemmas.proofs.Members.{in-append, in-flat, in-left, in-right, of-flat, of-map}
use Rattle.tv_value.specs.Orders.{named}
use Rattle.tv_value.specs.Values.{JobName, Name, Value}
use Rattle.tv_gate.specs.Outcomes.{Giving}
use Rattle.tv_flow.specs.Flows.{Flow, Step}
use Rattle.tv_model.specs.instance.Delivered.{StepMeaning}
use Rattle.tv_model.specs.instance.Ranks.{ranked}
use Rattle.tv_model.specs.Agreeing.{NestsWithin}
use Rattle.tv_model.specs.Earlier.{job_list}
use Rattle.tv_model.specs.Instances.{given_of}
use Rattle.tv_model.specs.Instances.{zip_names}
use Rattle.tv_model.specs.Jobs.{Job}
use Rattle.tv_model.specs.Made.{Made, Meaning, Opened}
use Rattle.tv_model.specs.Meanings.{flow_meaning, instance_meaning, jobs_with_inside, no_meaning, steps_inside}
use Rattle.tv_model.proofs.Tests.{true≠false}
use Rattle.tv_model.proofs.Sound.{AreDistinct}
use Rattle.tv_model.proofs.Members.{once-of_apart}
use Rattle.tv_model.specs.JobOrder.{Apart}
use Rattle.tv_model.proofs.Formed.{none-formed, own-apart, steps-formed}
use Rattle.tv_model.proofs.Instances.{all-distinct, given-free, ranked-fresh}
use Rattle.tv_model.proofs.Whole.{AnyNumber, IsWhole, StepsHave, flow-whole, not-longer, rank-each, same-head}
use Rattle.tv_model.specs.Opening.{first_nested}
use Rattle.tv_history.specs.order.Parts.{IsInstance, OwnPart, made_of, steps_of_made}
use Rattle.tv_history.proofs.OrderLemmas.{IsOf, InsideAt, deeper-nests, flow-orderly, made-all, steps-each}
use Rattle.tv_strategy.proofs.Each.{each-all}

module _ (gives : Giving) (flows : List (Name × Flow)) where
  any-limits : (fs : List (Name × Flow)) → Each (λ f. StepsHave gives AnyNumber f.1) fs
  any-limits fs = each-all (λ f. StepsHave gives AnyNumber f.1) (λ f. each-all (λ s. AnyNumber s.1.jobs) (λ s. tt) f.1.steps) fs

  -- what a job opens is the meaning of a flow
  abbrev IsMeant : ℕ → Name → Meaning → JobName → Type 0
  IsMeant k g m n = (vs : List (Name × Value)) × (m ≡ flow_meaning gives flows k g n vs)

  whole-of : (k : ℕ) (g : Name) (m : Meaning) (n : JobName) → IsMeant k g m n → IsWhole gives AnyNumber m n
  whole-of k g m n h = subst (λ x. IsWhole gives AnyNumber x n) (sym h.1) (flow-whole gives AnyNumber flows (any-limits flows) k g n h.0)

  module _ (k : ℕ) (flow : Flow) (I : JobName) (vs : List (Name × Value)) where
    abbrev inside : Name → JobName → List (Name × Value) → Meaning
    inside = flow_meaning gives flows k

    meant : (g : Name) (n : JobName) (us : List (Name × Value)) → IsMeant k g (inside g n us) n
    meant g n us = (us, refl)

    abbrev ms : List Made
    ms = made_of gives flows k flow I vs

    abbrev os : List Opened
    os = job_list ms

    abbrev n : Meaning
    n = instance_meaning gives inside I flow vs

    abbrev Own : Opened → Type 0
    Own o = IsOf gives inside I (λ g m n. IsMeant k g m n) meant (ranked flow.steps) o

    own : (o : Opened) → In o os → Own o
    own o h = steps-each gives inside I (λ g m n. IsMeant k g m n) meant (ranked flow.steps) ms (made-all gives inside I (λ g m n. IsMeant k g m n) meant (ranked flow.steps) (given_of flow vs) [] [] [] (ranked flow.steps) refl refl tt (ranked-fresh flow.steps) tt) o h

    abbrev Inner : Opened → Meaning → Type 0
    Inner o m = (g : Name) × IsMeant k g m o.job.name

    inner : (o : Opened) → Own o → (m : Meaning) → o.inside ≡ Some m → Inner o m
    inner o w m e = let t = subst (λ p. InsideAt gives inside I (λ g m n. IsMeant k g m n) meant w.1 o.job p) e w.4.inside_it in (t.0, t.2)

    opened-apart : Apart (λ (o : Opened). o.job.name) os
    opened-apart =
        own-apart gives inside I (λ m n. Unit {0}) (λ f n us. tt) AnyNumber (given_of flow vs) (given-free flow vs) ms
        (steps-formed gives inside I (λ m n. Unit {0}) (λ f n us. tt) AnyNumber (given_of flow vs) (given-free flow vs) [] (none-formed gives inside I (λ m n. Unit {0}) (λ f n us. tt) AnyNumber (given_of flow vs) (given-free flow vs)) (ranked flow.steps) (ranked-fresh flow.steps) (rank-each gives AnyNumber (λ s. AnyNumber s.1.jobs) (length flow.steps) [] flow.steps (each-all (λ s. AnyNumber s.1.jobs) (λ s. tt) flow.steps)))

    -- names inside an opened job
    job-inside : (o : Opened) → Own o → (j : Job) → In j (option_map_or (λ (x : Meaning). x.jobs) o.inside []) → (r : JobName) × (j.instance ≡ o.job.name ++ r)
    job-inside o w j h = by o.inside refl h
      where
        by : (p : Option Meaning) → o.inside ≡ p → In j (option_map_or (λ (x : Meaning). x.jobs) p []) → (r : JobName) × (j.instance ≡ o.job.name ++ r)
        by None e i = absurd i
        by (Some m) e i = let t = inner o w m e in ((whole-of k t.0 m o.job.name t.1).jobs j i).below

    step-inside : (o : Opened) → Own o → (s : StepMeaning) → In s (steps_inside o) → (r : JobName) × (s.instance ≡ o.job.name ++ r)
    step-inside o w s h = by o.inside refl h
      where
        by : (p : Option Meaning) → o.inside ≡ p → In s (option_map_or (λ (x : Meaning). x.steps) p []) → (r : JobName) × (s.instance ≡ o.job.name ++ r)
        by None e i = absurd i
        by (Some m) e i = let t = inner o w m e in ((whole-of k t.0 m o.job.name t.1).steps s i).0

    own-instance : (s : StepMeaning) → In s (steps_of_made ms) → s.instance ≡ I
    own-instance s h = let r = of-map (λ (x : Made). x.step) s ms h in ap (λ (t : StepMeaning). t.instance) r.2 ∙ distinct ms (all-distinct gives inside I flow vs) r.0 r.1
      where
        distinct : (ks : List Made) → AreDistinct I ks → (x : Made) → In x ks → x.step.instance ≡ I
        distinct [] d x i = absurd i
        distinct (y ∷ ks) d x (inl p) = ap (λ (z : Made). z.step.instance) p ∙ d.0
        distinct (y ∷ ks) d x (inr i) = distinct ks d.2 x i

    -- an instance inside an opened job is longer
    not-own : (o : Opened) → Own o → (r : JobName) → I ≡ o.job.name ++ r → ⊥
    not-own o w r e = not-longer I (w.0, w.2) r (e ∙ ap (λ l. l ++ r) w.4.name ∙ append_assoc I ((w.0, w.2) ∷ []) r)

    same-opened : (o u : Opened) → In o os → In u os → (r s : JobName) → o.job.name ++ r ≡ u.job.name ++ s → o ≡ u
    same-opened o u h i r s e =
        let w = own o h in
        let x = own u i in
        once-of_apart (λ (z : Opened). z.job.name) os opened-apart o u h i (same-head I (w.0, w.2) (x.0, x.2) o.job.name u.job.name r s w.4.name x.4.name e)

    -- the instance itself
    itself : IsInstance gives flows n I k flow vs
    itself = record {
      steps = λ s h e. step s e (in-append s (steps_of_made ms) (flat_map steps_inside os) h);
      all_steps = λ s h. in-left s (steps_of_made ms) (flat_map steps_inside os) h;
      jobs = λ j h e. let r = of-flat jobs_with_inside j os h in job j e r.0 r.1 r.2;
      all_jobs = λ o h. in-flat jobs_with_inside o o.job os h (inl refl);
    }
      where
        step : (s : StepMeaning) → s.instance ≡ I → In s (steps_of_made ms) ⊎ In s (flat_map steps_inside os) → In s (steps_of_made ms)
        step s e (inl h) = h
        step s e (inr h) = let r = of-flat steps_inside s os h in let b = step-inside r.0 (own r.0 r.1) s r.2 in absurd (not-own r.0 (own r.0 r.1) b.0 (sym e ∙ b.1))

        job : (j : Job) → j.instance ≡ I → (o : Opened) → In o os → In j (jobs_with_inside o) → (o : Opened) × In o os × (j ≡ o.job)
        job j e o h (inl p) = (o, h, p)
        job j e o h (inr i) = let b = job-inside o (own o h) j i in absurd (not-own o (own o h) b.0 (sym e ∙ b.1))

    -- an instance inside an opened job is one of the whole
    lifted : (o : Opened) → In o os → (m : Meaning) → o.inside ≡ Some m → (J r : JobName) → J ≡ o.job.name ++ r → (l : ℕ) (fl : Flow) (us : List (Name × Value)) → IsInstance gives flows m J l fl us → IsInstance gives flows n J l fl us
    lifted o h m e J r q l fl us p = record {
      steps = λ s i g. p.steps s (step s g (in-append s (steps_of_made ms) (flat_map steps_inside os) i)) g;
      all_steps = λ s i. in-right s (steps_of_made ms) (flat_map steps_inside os) (in-flat steps_inside o s os h (subst (λ t. In s (option_map_or (λ (x : Meaning). x.steps) t [])) (sym e) (p.all_steps s i)));
      jobs = λ j i g. p.jobs j (let z = of-flat jobs_with_inside j os i in job j g z.0 z.1 z.2) g;
      all_jobs = λ u i. in-flat jobs_with_inside o u.job os h (inr (subst (λ t. In u.job (option_map_or (λ (x : Meaning). x.jobs) t [])) (sym e) (p.all_jobs u i)));
    }
      where
        step : (s : StepMeaning) → s.instance ≡ J → In s (steps_of_made ms) ⊎ In s (flat_map steps_inside os) → In s m.steps
        step s g (inl i) = absurd (not-own o (own o h) r (sym (own-instance s i) ∙ g ∙ q))
        step s g (inr i) =
            let z = of-flat steps_inside s os i in
            let b = step-inside z.0 (own z.0 z.1) s z.2 in
            let t = same-opened z.0 o z.1 h b.0 r (sym b.1 ∙ g ∙ q) in
            subst (λ x. In s (option_map_or (λ (x : Meaning). x.steps) x [])) e (subst (λ x. In s (steps_inside x)) t z.2)

        job : (j : Job) → j.instance ≡ J → (u : Opened) → In u os → In j (jobs_with_inside u) → In j m.jobs
        job j g u i (inl x) = absurd (not-own o (own o h) r (sym (own u i).4.in_instance ∙ ap (λ (z : Job). z.instance) (sym x) ∙ g ∙ q))
        job j g u i (inr x) =
            let b = job-inside u (own u i) j x in
            let t = same-opened u o i h b.0 r (sym b.1 ∙ g ∙ q) in
            subst (λ y. In j (option_map_or (λ (x : Meaning). x.jobs) y [])) e (subst (λ (y : Opened). In j (option_map_or (λ (x : Meaning). x.jobs) y.inside [])) t x)

  -- the instance of a flow that is there
  pub main-instance : (k : ℕ) (f : Name) (flow : Flow) → named f flows ≡ Some flow → (I : JobName) (vs : List (Name × Value)) → IsInstance gives flows (flow_meaning gives flows (suc k) f I vs) I k flow vs
  main-instance k f flow e I vs = subst (λ o. IsInstance gives flows (option_map_or (λ fl. instance_meaning gives (flow_meaning gives flows k) I fl vs) o no_meaning) I k flow vs) (sym e) (itself k flow I vs)

  -- the instance that a job of m opens
  abbrev pub PartOf : Meaning → Job → Name → Type 0
  PartOf m j g = (s : Step) × (first_nested s.activities ≡ Some g) × (l : ℕ) × (flow : Flow) × (named g flows ≡ Some flow) × IsInstance gives flows m j.name l flow (zip_names s.inputs j.inputs) × OwnPart gives flows m j s

  abbrev name_or : Name → Option Name → Name
  name_or d None = d
  name_or d (Some n) = n

  -- the meaning of a flow that nests is there
  opened-instance : (k : ℕ) (g : Name) → NestsWithin flows k g → (n : JobName) (us : List (Name × Value)) → (l : ℕ) × (flow : Flow) × (named g flows ≡ Some flow) × IsInstance gives flows (flow_meaning gives flows k g n us) n l flow us
  opened-instance zero g h n us = absurd h
  opened-instance (suc k) g h n us = (k, h.0, h.1, main-instance k g h.0 h.1 n us)

  module _ (k : ℕ) (f : Name) (flow : Flow) (found : named f flows ≡ Some flow) (nests : NestsWithin flows (suc k) f) (I : JobName) (vs : List (Name × Value)) (rec : (g : Name) → NestsWithin flows k g → (J : JobName) (us : List (Name × Value)) (j : Job) → In j (flow_meaning gives flows k g J us).jobs → (h : Name) → j.opens ≡ Some h → PartOf (flow_meaning gives flows k g J us) j h) where
    lift-part : (o : Opened) → In o (os k flow I vs) → (m : Meaning) → o.inside ≡ Some m → (j : Job) (r : JobName) → j.name ≡ o.job.name ++ r → (t : JobName) → j.instance ≡ o.job.name ++ t → (g : Name) → PartOf m j g → PartOf (n k flow I vs) j g
    lift-part o h m e j r q t u g p = (p.0, p.1, p.2, p.3, p.4, lifted k flow I vs o h m e j.name r q p.2 p.3 (zip_names p.0.inputs j.inputs) p.5, own p.6)
      where
        own : OwnPart gives flows m j p.0 → OwnPart gives flows (n k flow I vs) j p.0
        own w = record { levels = w.levels; flow = w.flow; inputs = w.inputs; part = lifted k flow I vs o h m e j.instance t u w.levels w.flow w.inputs w.part; is_step = w.is_step }

    block-part : (o : Opened) → In o (os k flow I vs) → (j : Job) → In j (jobs_with_inside o) → (g : Name) → j.opens ≡ Some g → PartOf (n k flow I vs) j g
    block-part o h j i g q = by o.inside refl i
      where
        w : Own k flow I vs o
        w = own k flow I vs o h

        own-part : OwnPart gives flows (n k flow I vs) o.job w.1
        own-part = record { levels = k; flow = flow; inputs = vs; part = subst (λ J. IsInstance gives flows (n k flow I vs) J k flow vs) (sym w.4.in_instance) (itself k flow I vs); is_step = subst (λ x. named x (ranked flow.steps) ≡ Some w.1) (sym w.4.step) w.3 }

        by : (p : Option Meaning) → o.inside ≡ p → In j (o.job ∷ option_map_or (λ (x : Meaning). x.jobs) p []) → PartOf (n k flow I vs) j g
        by None e (inl x) = absurd (true≠false (sym (ap is_some (ap (λ (z : Job). z.opens) (sym x) ∙ q)) ∙ subst (λ p. InsideAt gives (inside k flow I vs) I (λ g m n. IsMeant k g m n) (meant k flow I vs) w.1 o.job p) e w.4.inside_it))
        by None e (inr x) = absurd x
        by (Some m) e (inl x) =
            let t = subst (λ p. InsideAt gives (inside k flow I vs) I (λ g m n. IsMeant k g m n) (meant k flow I vs) w.1 o.job p) e w.4.inside_it in
            let z = opened-instance k t.0 (deeper-nests gives flows k f flow found (flow_meaning gives flows k) (λ g n us. flow-orderly gives flows k g n us) I vs nests w.0 w.1 t.0 w.3 t.1) o.job.name (zip_names w.1.inputs o.job.inputs) in
            let same = ap (name_or g) (sym t.4 ∙ ap (λ (z : Job). z.opens) (sym x) ∙ q) in
            subst (λ u. PartOf (n k flow I vs) u g) (sym x) (subst (λ u. PartOf (n k flow I vs) o.job u) same (w.1, t.1, z.0, z.1, z.2, lifted k flow I vs o h m e o.job.name [] (sym (append-nil o.job.name)) z.0 z.1 (zip_names w.1.inputs o.job.inputs) (subst (λ u. IsInstance gives flows u o.job.name z.0 z.1 (zip_names w.1.inputs o.job.inputs)) (sym t.5) z.3), own-part))
        by (Some m) e (inr x) =
            let t = subst (λ p. InsideAt gives (inside k flow I vs) I (λ g m n. IsMeant k g m n) (meant k flow I vs) w.1 o.job p) e w.4.inside_it in
            let nest = deeper-nests gives flows k f flow found (flow_meaning gives flows k) (λ g n us. flow-orderly gives flows k g n us) I vs nests w.0 w.1 t.0 w.3 t.1 in
            let us = zip_names w.1.inputs o.job.inputs in
            let whole = whole-of k t.0 m o.job.name (us, t.5) in
            let b = (whole.jobs j x).below in
            lift-part o h m e j (b.0 ++ (whole.jobs j x).key ∷ []) ((whole.jobs j x).named ∙ ap (λ l. l ++ (whole.jobs j x).key ∷ []) b.1 ∙ append_assoc o.job.name b.0 ((whole.jobs j x).key ∷ [])) b.0 b.1 g (subst (λ u. PartOf u j g) (sym t.5) (rec t.0 nest o.job.name us j (subst (λ (u : Meaning). In j u.jobs) t.5 x) g q))

  -- what a job opens is the instance of its step's flow on its inputs, at any depth
  pub parts : (k : ℕ) (f : Name) → NestsWithin flows k f → (I : JobName) (vs : List (Name × Value)) (j : Job) → In j (flow_meaning gives flows k f I vs).jobs → (g : Name) → j.opens ≡ Some g → PartOf (flow_meaning gives flows k f I vs) j g
  parts zero f h I vs j i g q = absurd h
  parts (suc k) f h I vs j i g q =
      subst (λ o. In j (option_map_or (λ fl. instance_meaning gives (flow_meaning gives flows k) I fl vs) o no_meaning).jobs → PartOf (option_map_or (λ fl. instance_meaning gives (flow_meaning gives flows k) I fl vs) o no_meaning) j g) (sym h.1)
      (λ u. let r = of-flat jobs_with_inside j (os k h.0 I vs) u in block-part k f h.0 h.1 h I vs (λ g n J us j i e q. parts k g n J us j i e q) r.0 r.1 j r.2 g q) i
