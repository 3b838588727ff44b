use Rattle.tv_strategy.proofs.Lists.{cross-of_one, dot-shortest, dot-lists}
use Rattle.tv_strategy.proofs.laws.crosses_and_dots.Goals as goal

pub returns : goal.returns
returns c = record { one = cross-of_one; shortest = dot-shortest; there = dot-lists }
