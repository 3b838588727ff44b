use Rattle.std.proofs.Common.{◌≡◌, ◌≤◌, ◌↔◌, IsNone, sym, subst}
use Rattle.tv_value.specs.Views.{strategy_view}
use Rattle.tv_strategy.specs.Conditions.{number_of, place_of}
use Rattle.tv_strategy.specs.Promises.{UndoesSplit, DotDiffers}
use Rattle.tv_strategy.specs.Splits.{joined}
use Rattle.tv_strategy.proofs.Joins.{joined-undoes, none-exactly, ok-then}
use Rattle.tv_strategy.proofs.Rooms.{room-depth}
use Rattle.tv_strategy.proofs.places.join.Goals as goal

pub returns-clause-undoes : goal.returns-clause-undoes
returns-clause-undoes c =
    let mismatch = number_of c.args.mismatch.now in
    let ports = place_of c.args.places.now in
    let s = strategy_view c.args.tree.now in
    ok-then (λ o. o ≡ joined ports s) (UndoesSplit mismatch s ports) (λ o e. subst (UndoesSplit mismatch s ports) (sym e) (joined-undoes mismatch ports s c.requires.placed.have_lengths)) c.join_tree.result c.join_tree.ensures.place

pub returns-clause-none : goal.returns-clause-none
returns-clause-none c =
    let ports = place_of c.args.places.now in
    let s = strategy_view c.args.tree.now in
    ok-then (λ o. o ≡ joined ports s) (λ o. IsNone o ↔ DotDiffers ports s) (none-exactly ports s) c.join_tree.result c.join_tree.ensures.place

pub returns-clause-short : goal.returns-clause-short
returns-clause-short c a d =
    let mismatch = number_of c.args.mismatch.now in
    let ports = place_of c.args.places.now in
    let s = strategy_view c.args.tree.now in
    c.join_tree.ensures.short (subst (λ n. n ≤ 32) (sym (room-depth mismatch ports s c.requires.placed.have_lengths a)) d)
