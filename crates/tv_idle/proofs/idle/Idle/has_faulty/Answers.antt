use Rattle.std.specs.Prelude.{length}
use Rattle.std.proofs.Common.{ap, sym, ◌∙◌}
use Rattle.tv_idle.specs.Idles.{Idles, StepIdle, first_number, of_step}
use Rattle.tv_idle.specs.Kept.{faulty_in, is_gone, queues_of}
use Rattle.tv_idle.proofs.AllSteps.{of-shown}
use Rattle.tv_idle.proofs.Faulty.{none-live, none-of, none-stands, some-counted, some-first}
use Rattle.tv_idle.proofs.idle.Idle.has_faulty.Goals as goal

pub returns : goal.returns
returns c =
    let r = c.self.inside in
    let gone = is_gone r.gone.items in
    let qs = r.queues.items in
    record {
      none = λ no k.
          ap (λ (v : Idles). (of_step v.steps k).faulty) (sym c.self.view_is)
          ∙ ap (λ (t : StepIdle). t.faulty) (of-shown gone qs k)
          ∙ none-live gone (queues_of qs k).faulty.jobs (none-stands qs k (sym c.self.invariant.counted ∙ none-of r.faulty no));
      some = λ yes.
          let f = some-first gone (length r.gone.items) qs c.self.invariant.all (some-counted r.faulty (faulty_in qs) c.self.invariant.counted yes) in (
            f.0,
            f.1,
            ap (λ (v : Idles). first_number (of_step v.steps f.0).faulty) (sym c.self.view_is)
                ∙ ap (λ (t : StepIdle). first_number t.faulty) (of-shown gone qs f.0)
                ∙ f.2,
          );
    }
