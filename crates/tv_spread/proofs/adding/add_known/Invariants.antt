use Rattle.std.proofs.Common.{◌≡◌, drop, length}
use Rattle.tv_intake.specs.Intaken.{known_jobs}
use Rattle.tv_spread.specs.Spreads.{is_faulty_now, with_all_new}
use Rattle.tv_spread.proofs.AddingLemmas.{Adding}
use Rattle.tv_spread.proofs.adding.add_known.Given as goal

abbrev pub invariant-loop-number : goal.invariant-loop-number
invariant-loop-number l = record {
  end_is : l.number-end ≡ length (known_jobs l.intakes);
  adding : Adding (is_faulty_now l.intakes) l.step (drop l.number (known_jobs l.intakes)) l.idle;
  same :
      with_all_new (is_faulty_now l.intakes) (drop l.number (known_jobs l.intakes)) l.idle
      ≡ with_all_new (is_faulty_now l.intakes) (drop l.from (known_jobs l.intakes)) l.initial.idle;
}
