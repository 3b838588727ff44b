use Rattle.tv_value.specs.Views.{strategy_view}
use Rattle.tv_tests_engine.proofs.Paired.{pair-suits, pair-agrees, pair-deep, pair-placed}
use Rattle.tv_tests_engine.proofs.strategies.split_and_joined.Goals as goal

pub split-requires-clause-suits : goal.split-requires-clause-suits
split-requires-clause-suits c = pair-suits (strategy_view c.args.tree.now) c.args.mismatch.now c.requires.tree c.requires.mismatch

pub split-requires-clause-agree : goal.split-requires-clause-agree
split-requires-clause-agree c = pair-agrees (strategy_view c.args.tree.now) c.args.mismatch.now c.requires.tree c.requires.mismatch

pub split-requires-clause-deep : goal.split-requires-clause-deep
split-requires-clause-deep c = pair-deep (strategy_view c.args.tree.now) c.args.mismatch.now c.args.place.now c.requires.tree c.requires.mismatch c.requires.place

pub join-requires-clause-suits : goal.join-requires-clause-suits
join-requires-clause-suits c = pair-suits (strategy_view c.args.tree.now) c.args.mismatch.now c.requires.tree c.requires.mismatch

pub join-requires-clause-placed : goal.join-requires-clause-placed
join-requires-clause-placed c = pair-placed (strategy_view c.args.tree.now) c.args.mismatch.now c.args.place.now c.in_ok-places.places c.requires.tree c.requires.mismatch c.requires.place c.in_ok-places.ensures.places
