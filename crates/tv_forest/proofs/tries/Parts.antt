-- Every job of an accepted document's meaning has its own step.
use Rattle.std.specs.Prelude.{◌≡◌, refl, ℕ, List, [], true, Option, Some, None, is_some}
use Rattle.std.proofs.Common.{sym, ap, subst, ◌∙◌}
use Rattle.tv_lemmas.specs.Members.{In}
use Rattle.tv_value.specs.Orders.{named}
use Rattle.tv_value.specs.Values.{JobName, Name, Value}
use Rattle.tv_gate.specs.Outcomes.{Giving}
use Rattle.tv_flow.specs.Flows.{Document, Flow, Step}
use Rattle.tv_flow.specs.Formed.{is_formed}
use Rattle.tv_check.specs.Plans.{IsAccepted}
use Rattle.tv_model.specs.instance.Ranks.{ranked}
use Rattle.tv_model.specs.Agreeing.{NestsWithin}
use Rattle.tv_model.specs.Instances.{zip_names}
use Rattle.tv_model.specs.Jobs.{Job}
use Rattle.tv_model.specs.Made.{Meaning}
use Rattle.tv_model.specs.Meanings.{flow_meaning, meaning, nesting_limit}
use Rattle.tv_model.proofs.Tests.{true≠false}
use Rattle.tv_history.proofs.Ready.{document-whole}
use Rattle.tv_history.proofs.AcceptedDocuments.{accepted-agrees}
use Rattle.tv_lemmas.proofs.Cases.{on_either}
use Rattle.tv_history.specs.order.Parts.{IsInstance, OwnPart}
use Rattle.tv_history.proofs.Parts.{main-instance, parts}
use Rattle.tv_forest.proofs.tries.Jobs.{job-of}
use Rattle.tv_forest.proofs.tries.Made.{jobs-of}

module _ (gives : Giving) (d : Document) (formed : is_formed d ≡ true) (accepted : IsAccepted d) where
  abbrev m : Meaning
  m = meaning gives d

  nests : NestsWithin d.flows nesting_limit d.main
  nests = (accepted-agrees d formed accepted).nests

  -- the instance of a job is that of a flow on inputs
  abbrev Within : JobName → Type 0
  Within I = (k : ℕ) × (flow : Flow) × (vs : List (Name × Value)) × IsInstance gives d.flows m I k flow vs

  main-within : Within []
  main-within = (7, nests.0, d.inputs, main-instance gives d.flows 7 d.main nests.0 nests.1 [] d.inputs)

  opener-within : (p : Job) → In p m.jobs → is_some p.opens ≡ true → Within p.name
  opener-within p i o = by p.opens refl o
    where
      by : (x : Option Name) → p.opens ≡ x → is_some x ≡ true → Within p.name
      by None e h = absurd (true≠false (sym h))
      by (Some g) e h = let r = parts gives d.flows nesting_limit d.main nests [] d.inputs p i g e in (r.2, r.3, zip_names r.0.inputs p.inputs, r.5)

  within : (j : Job) → In j m.jobs → Within j.instance
  within j i =
      on_either ((document-whole gives d).jobs j i).parent (λ e. subst Within (sym e) main-within)
      (λ r. subst Within r.2 (opener-within r.0 r.1 r.3))

  pub own-parts : (j : Job) → In j m.jobs → (s : Step) × OwnPart gives d.flows m j s
  own-parts j i =
      let w = within j i in
      let u = w.3.jobs j i refl in
      let r = jobs-of gives (flow_meaning gives d.flows w.0) j.instance w.1 w.2 u.0 u.1 in
      let step = ap (λ (k : Job). k.step) u.2 ∙ (job-of gives r.1 (flow_meaning gives d.flows w.0) j.instance r.0 u.0 r.3).step in
      (r.1, record { levels = w.0; flow = w.1; inputs = w.2; part = w.3; is_step = ap (λ n. named n (ranked w.1.steps)) step ∙ r.2 })
