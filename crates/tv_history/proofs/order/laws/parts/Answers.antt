use Rattle.std.specs.Prelude.{[]}
use Rattle.tv_model.specs.Meanings.{nesting_limit}
use Rattle.tv_history.proofs.Parts.{main-instance, parts}
use Rattle.tv_history.proofs.order.laws.parts.Goals as goal

pub returns : goal.returns
returns c = record {
  main = λ gives d flow e. main-instance gives d.flows 7 d.main flow e [] d.inputs;
  opened = λ gives d nests j i g q. let p = parts gives d.flows nesting_limit d.main nests [] d.inputs j i g q in record { step = p.0; nested_first = p.1; levels = p.2; flow = p.3; is_flow = p.4; part = p.5; own = p.6 };
}
