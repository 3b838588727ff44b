use Rattle.std.proofs.Common.{true}
use Rattle.tv_frame.proofs.FaultyIdle.{faulty-idle}
use Rattle.tv_frame.proofs.ReadyFirst.{none-so}
use Rattle.tv_frame.proofs.frame.Frame.has_faulty.Goals as goal

pub returns : goal.returns
returns c = record {
  none = λ no flows plan pool v n s k at.
      none-so flows plan pool c.args.self.now v k n s at true (c.has_faulty.ensures.none no n);
  some = λ yes flows plan pool v k.
      let i = c.has_faulty.ensures.some yes in
      faulty-idle flows plan pool c.args.self.now v k i.0 i.1 i.2;
}
