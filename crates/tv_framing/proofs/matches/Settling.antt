-- Which lists and faults can be settled: those that wait, and nothing else.
use Rattle.std.specs.Prelude.{◌≡◌, refl, ℕ, Bool, true, false, not, find, if◌then◌else◌, List, [], ◌∷◌, Option, Some, None, option_and_then}
use Rattle.std.specs.Cmp.Lexicographic.{bytes_decides}
use Rattle.std.proofs.Common.{sym, ap, subst, ◌∙◌, inl, inr}
use Rattle.std.proofs.lemmas.Option.{none-some, same_Some}
use Rattle.tv_lemmas.specs.Members.{In}
use Rattle.tv_value.specs.Nested.{Place, at}
use Rattle.tv_value.specs.Orders.{same_name}
use Rattle.tv_value.specs.Values.{ErrorDoc, JobName, Name, fault_value}
use Rattle.tv_flow.specs.Flows.{Flow, Step}
use Rattle.tv_strategy.specs.Origins.{plain}
use Rattle.tv_model.specs.instance.Delivered.{Ported}
use Rattle.tv_matching.specs.Items.{Bound, Item, Kind, Stopped, closes, ends, item, known_items, passes}
use Rattle.tv_matching.specs.Matchers.{Outcome, fault_at, job_at, list_at}
use Rattle.tv_model.specs.instance.ByResults.{InstanceStep}
use Rattle.tv_model.specs.instance.Events as events
use Rattle.tv_model.specs.instance.Events.{Event, Events, event_place, event_step, fault_set, gave, has_level, known_by, took}
use Rattle.tv_model.specs.instance.Fitting.{FitsNode}
use Rattle.tv_model.specs.instance.Legality.{IsLegalNext}
use Rattle.tv_framing.specs.instances.InHistory.{Finds}
use Rattle.tv_framing.proofs.Frames.{known-legal, legal-known}
use Rattle.tv_framing.specs.Answers.{is_settlement}
use Rattle.tv_framing.specs.Frames.{FitsKind}
use Rattle.tv_framing.specs.matches.Items.{IsFaultOf, PassesFaultOf, part_at, standing, standing_kind, unnamed}
use Rattle.tv_framing.specs.matches.Waiting.{is_waiting, waiting_of}
use Rattle.tv_lemmas.proofs.Members.{in-filter}

-- ---- one step of an instance

module _ (instance : JobName) (fs : List InstanceStep) (f : InstanceStep) (self : Finds fs f) (es : Events) (s : Name) (own : f.step.step ≡ s) where
  list-fits : (q p : Place) (m : ℕ) (k : Kind Bound Stopped) → list_at q m ≡ standing_kind p k → (p ≡ q) × FitsKind (events.closed s q m) k
  list-fits q p m (ends b) e = absurd (cc)
  list-fits q p m (closes n) e = let a : p ≡ q = cc in let b : n ≡ m = cc in (a, b)
  list-fits q p m (passes g) e = absurd (cc)

  -- a known list of which nothing was told may be closed
  pub list-legal : (q : Place) (m : ℕ) (x : Item Bound Stopped) → In x (known_items (known_by instance es) f.step.iteration) → list_at q m ≡ standing x → has_level es s q ≡ false → IsLegalNext instance fs es (events.closed s q m)
  list-legal q m x i e n =
      let r = list-fits q x.place m x.kind e in
      known-legal instance fs f self es (events.closed s q m) ((bytes_decides f.step.step s).1 own) x i r.0 r.1 n

  fault-same : (flow : Flow) (st : Step) (q : Place) (l : ℕ) (d e : ErrorDoc) → IsFaultOf flow st f q l d → IsFaultOf flow st f q l e → d ≡ e
  fault-same flow st q l d e h k =
      let p = same_Some h.port k.port (sym h.input ∙ k.input) in
      same (sym h.there ∙ ap (λ (a : Ported). at (plain a.value) (part_at flow st q l)) p ∙ k.there)
    where
      same : Some (fault_value d) ≡ Some (fault_value e) → d ≡ e
      same g = cc

  -- and so may a known fault be set to what it is
  pub fault-legal : (flow : Flow) (st : Step) (q : Place) (l : ℕ) (e : ErrorDoc) → PassesFaultOf flow st (known_by instance es) f q l → IsFaultOf flow st f q l e → has_level es s q ≡ false → IsLegalNext instance fs es (fault_set s q e)
  fault-legal flow st q l e h k n =
      known-legal instance fs f self es (fault_set s q e) ((bytes_decides f.step.step s).1 own) (item q (passes (h.mark, h.document))) h.item refl (fault-same flow st q l h.document e h.fault k) n

  -- a settlement that is legal is of something that waits
  waits-by : (e : Event) → is_settlement e ≡ true → event_step e ≡ s → IsLegalNext instance fs es e → (x : Item Bound Stopped) → x.place ≡ event_place e → (k : Kind Bound Stopped) → FitsKind e k → (o : Outcome) → standing_kind x.place k ≡ unnamed o → is_waiting es s o ≡ true
  waits-by (gave t q vs) g a h x p k w o r = absurd (cc)
  waits-by (events.closed t q n) g a h x p (ends b) w o r = absurd w
  waits-by (events.closed t q n) g a h x p (closes m) w (job_at y) r = absurd (cc)
  waits-by (events.closed t q n) g a h x p (closes m) w (list_at y c) r =
      let z : x.place ≡ y = cc in
      ap (λ u. not (has_level es u y)) (sym a) ∙ ap (λ u. not (has_level es t u)) (sym z ∙ p) ∙ ap not h.fresh
  waits-by (events.closed t q n) g a h x p (closes m) w (fault_at y l) r = absurd (cc)
  waits-by (events.closed t q n) g a h x p (passes d) w o r = absurd w
  waits-by (fault_set t q e) g a h x p (ends b) w o r = absurd w
  waits-by (fault_set t q e) g a h x p (closes m) w o r = absurd w
  waits-by (fault_set t q e) g a h x p (passes d) w (job_at y) r = absurd (cc)
  waits-by (fault_set t q e) g a h x p (passes d) w (list_at y c) r = absurd (cc)
  waits-by (fault_set t q e) g a h x p (passes d) w (fault_at y l) r =
      let z : x.place ≡ y = cc in
      ap (λ u. not (has_level es u y)) (sym a) ∙ ap (λ u. not (has_level es t u)) (sym z ∙ p) ∙ ap not h.fresh
  waits-by (took t q) g a h x p k w o r = absurd (cc)

  pub none-legal : (os : List Outcome) → ((x : Item Bound Stopped) → In x (known_items (known_by instance es) f.step.iteration) → (o : Outcome) × In o os × (standing x ≡ unnamed o)) → waiting_of es s os ≡ [] → (e : Event) → is_settlement e ≡ true → event_step e ≡ s → IsLegalNext instance fs es e → ⊥
  none-legal os outcome_of none e g a h =
      let x = legal-known instance fs f self es e ((bytes_decides f.step.step (event_step e)).1 (own ∙ sym a)) h in
      let o = outcome_of x.0 x.1 in
      subst (In o.0) none (in-filter (is_waiting es s) o.0 os o.1 (waits-by e g a h x.0 x.2 x.0.kind x.3 o.0 o.2))

-- ---- what an event tells of stands in a step

pub event-step : (instance : JobName) (fs : List InstanceStep) (es : Events) (e : Event) → IsLegalNext instance fs es e → (f : InstanceStep) × In f fs × (f.step.step ≡ event_step e)
event-step instance fs es e h = by (find (λ (g : InstanceStep). same_name (event_step e) g.step.step) fs) refl h.fits
  where
    found : (gs : List InstanceStep) (f : InstanceStep) → find (λ (g : InstanceStep). same_name (event_step e) g.step.step) gs ≡ Some f → In f gs × (f.step.step ≡ event_step e)
    found [] f k = absurd (none-some f k)
    found (g ∷ gs) f k = at-head (same_name (event_step e) g.step.step) refl k (found gs f)
      where
        at-head : (b : Bool) → same_name (event_step e) g.step.step ≡ b → (if b then Some g else find (λ (u : InstanceStep). same_name (event_step e) u.step.step) gs) ≡ Some f → (find (λ (u : InstanceStep). same_name (event_step e) u.step.step) gs ≡ Some f → In f gs × (f.step.step ≡ event_step e)) → In f (g ∷ gs) × (f.step.step ≡ event_step e)
        at-head true t j rec =
            let same = same_Some g f j in
            (inl (sym same), ap (λ (u : InstanceStep). u.step.step) (sym same) ∙ sym ((bytes_decides (event_step e) g.step.step).0 t))
        at-head false t j rec = let r = rec j in (inr r.0, r.1)

    by : (o : Option InstanceStep) → find (λ (g : InstanceStep). same_name (event_step e) g.step.step) fs ≡ o → FitsNode e (option_and_then (λ (g : InstanceStep). at g.step.iteration (event_place e)) o) → (f : InstanceStep) × In f fs × (f.step.step ≡ event_step e)
    by None k w = absurd w
    by (Some f) k w = let r = found fs f k in (f, r.0, r.1)
