use Rattle.tv_framing.proofs.feeds.WholeSteps.{endings-go_on, endings-start, marks-are_whole_steps, taking-ends_nothing, whole-steps_go_on}
use Rattle.tv_framing.proofs.laws.feeds.wholeness.Goals as goal

pub returns : goal.returns
returns c = record {
  steps = whole-steps_go_on;
  endings = endings-go_on;
  start = endings-start;
  taking = taking-ends_nothing;
  marks = marks-are_whole_steps;
}
