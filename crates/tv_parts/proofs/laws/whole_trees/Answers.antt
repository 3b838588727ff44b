use Rattle.std.specs.Prelude.{Bool}
use Rattle.tv_parts.proofs.Wholeness.{whole-is, whole-counts, count-with}
use Rattle.tv_parts.proofs.Known.{whole-noted}
use Rattle.tv_parts.proofs.laws.whole_trees.Goals as goal

pub returns : goal.returns
returns c = record {
  value = whole-is;
  count = λ ps. record { whole = (whole-counts ps).0; most = (whole-counts ps).1 };
  rises = λ r ps i. count-with r ps i;
  known = whole-noted Bool (λ b. b);
}
