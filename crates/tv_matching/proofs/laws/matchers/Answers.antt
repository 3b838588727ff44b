use Rattle.tv_matching.proofs.Matchers.{out-is_known, start-is_matching, telling-is_matching, gives-only_rest}
use Rattle.tv_matching.proofs.Bared.{kept-is_enough, kept-gains, marked-is_matched, faults-ride}
use Rattle.tv_matching.proofs.laws.matchers.Goals as goal

pub returns : goal.returns
returns c = record { known = out-is_known; kept = kept-is_enough; gains = kept-gains; marked = marked-is_matched; faults = faults-ride; start = start-is_matching; telling = telling-is_matching; rest = gives-only_rest }
