use Rattle.std.proofs.Common.{arith, ◌∙◌, ltb, not, false, ap, get_or, List, Bool}
use Rattle.std.proofs.lemmas.Bool.Decides.{nat_tests}
use Rattle.tv_naming.proofs.Tables.{IsKept-weaken}
use Rattle.tv_naming.proofs.graphs.untaken.Untaken.new.Goals as goal

pub loop-vertex-preserved : goal.loop-vertex-preserved
loop-vertex-preserved c = record {
  places = c.in_ok-settle.ensures.places;
  table = IsKept-weaken _ _ _ _ _ _ (c.in_ok-settle.ensures.table (λ v. not (ltb v c.loop-vertex.vertex)) c.loop-vertex.invariant.table (c.loop-vertex.invariant.nothing_taken c.loop-vertex.vertex)) (λ v below h. grind (arith, nat_tests));
  nothing_taken = λ v. ap (λ (ts : List Bool). get_or ts v false) c.in_ok-settle.ensures.taken ∙ c.loop-vertex.invariant.nothing_taken v;
}
