use Rattle.std.proofs.Common.{◌∷◌, [], subst, sym}
use Rattle.std.proofs.lemmas.Result.{on_ok_weaker}
use Rattle.tv_value.specs.Views.{strategy_view}
use Rattle.tv_match.specs.Seen.{bound_telling, matching}
use Rattle.tv_intake.specs.Intaken.{IsToldAt}
use Rattle.tv_intake.proofs.IntakeLemmas.{can-tell_bound, names-leaf, told-one}
use Rattle.tv_intake.proofs.intakes.Intakes.add_bound.Goals as goal

pub tell_bound-requires : goal.tell_bound-requires
tell_bound-requires c =
    let s = strategy_view c.args.tree.now in
    let mm = c.args.mismatch.now in
    let m = matching c.restart.new.self in
    let starts = c.in_ok-restart.ensures.ok in
    record {
      sound = c.in_ok-restart.ensures.sound;
      leaf = names-leaf s mm m starts c.args.leaf c.args.faulty c.requires.leaf;
      free = starts.held_is;
      new = can-tell_bound s mm m starts c.args.leaf c.args.faulty (c.requires.new m starts);
    }

pub returns-clause-told : goal.returns-clause-told
returns-clause-told c =
    let s = strategy_view c.args.tree.now in
    let mm = c.args.mismatch.now in
    let told = told-one s mm (matching c.restart.new.self) c.in_ok-restart.ensures.ok c.args.leaf c.args.faulty (matching c.tell_bound.new.self) c.in_ok-tell_bound.ensures.ok c.in_ok-tell_bound.ensures.held in
    on_ok_weaker c.take_in.result (λ h. subst (IsToldAt s mm (bound_telling s c.args.leaf c.args.faulty ∷ [])) (sym h) told) c.take_in.ensures.there
