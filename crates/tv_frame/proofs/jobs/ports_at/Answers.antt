use Rattle.std.proofs.Common.{◌<◌, length, refl, sym, ap, subst, ◌∙◌, Some}
use Rattle.tv_value.specs.Values.{Name}
use Rattle.tv_flow.specs.declared.document.Step.{Step as CodeStep}
use Rattle.tv_naming.proofs.Told.{got-in}
use Rattle.tv_frame.proofs.JobInputs.{ports-many}
use Rattle.tv_frame.proofs.TableLemmas.{as-many-code}
use Rattle.tv_frame.proofs.jobs.ports_at.Goals as goal

pub returns : goal.returns
returns c =
    let n = c.args.number in
    let plan = c.args.plan.now in
    record {
      number = refl;
      planned = c.index-as_slice-number-2.result;
      at_plan = got-in c.as_slice-2.result.now plan.steps n c.index-as_slice-number-2.result c.as_slice-2.ensures (subst (λ m. n < m) (sym (as-many-code plan) ∙ sym (ap length c.as_slice-2.ensures)) c.requires) c.index-as_slice-number-2.is;
      tree = refl;
      mismatch = refl;
      described = c.index-as_slice-number.result;
      at_flow = got-in c.as_slice.result.now plan.flow.steps n c.index-as_slice-number.result c.as_slice.ensures (subst (λ m. n < m) (sym (ap length c.as_slice.ensures)) c.requires) c.index-as_slice-number.is;
      inputs = c.as_slice-3.ensures ∙ ap (λ (t : Name × CodeStep). t.1.inputs) (sym c.index-as_slice-number.is);
      delivered = c.as_slice-4.ensures;
      at_ports =
          got-in c.as_slice-5.result.now plan.wiring.ports n c.index-as_slice-number-3.result c.as_slice-5.ensures (subst (λ m. n < m) (sym (ports-many plan) ∙ sym (ap length c.as_slice-5.ensures)) c.requires) c.index-as_slice-number-3.is
          ∙ ap Some (sym c.as_slice-6.ensures);
    }
