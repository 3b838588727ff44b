use Rattle.tv_framing.proofs.faults.Numbers.{faults-are_by_numbers, trees-are_by_events, trees-are_by_numbers, whole_ports-are_true}
use Rattle.tv_framing.proofs.laws.faults.findings.Goals as goal

pub returns : goal.returns
returns c =
    record {
      ports = whole_ports-are_true;
      trees = trees-are_by_events;
      numbers = trees-are_by_numbers;
      faults = faults-are_by_numbers;
    }
