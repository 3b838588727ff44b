-- What events make of the partial trees of outputs.
use Rattle.std.specs.Cmp.Lexicographic.{bytes_decides}
use Rattle.std.specs.Prelude.{◌≡◌, ℕ, List}
use Rattle.std.proofs.Common.{sym, subst}
use Rattle.tv_value.specs.Nested.{at}
use Rattle.tv_value.specs.Values.{JobName}
use Rattle.tv_model.specs.instance.ByResults.{InstanceStep}
use Rattle.tv_model.specs.instance.Events.{Event, Events, event_place, event_step}
use Rattle.tv_model.specs.instance.Fitting.{FitsNode}
use Rattle.tv_framing.proofs.instances.Legal.{node-here}
use Rattle.tv_framing.proofs.engine.Turning.{can-change, right-length, turns-from, whole-there}
use Rattle.tv_framing.specs.engine.TurningTrees.{EventsCanBePut, IsNextOf, TreesAreWholeByCounting, TreesTurnWhole}

pub trees-whole : TreesAreWholeByCounting
trees-whole f levels leveled es fit k declared x u e = whole-there f k levels declared es fit leveled x u e

module _ (instance : JobName) (fs : List InstanceStep) (f : InstanceStep) (levels : ℕ) (es : Events) (e : Event) (next : IsNextOf instance fs f levels es e) where
  same : event_step e ≡ f.step.step
  same = sym ((bytes_decides f.step.step (event_step e)).0 next.own)

  fits : FitsNode e (at f.step.iteration (event_place e))
  fits = subst (FitsNode e) (node-here instance fs f next.first e next.own) next.legal.fits

pub trees-turn : TreesTurnWhole
trees-turn instance fs f levels es e next k declared =
    turns-from f k levels declared es next.fit next.leveled e next.tells (same instance fs f levels es e next) (fits instance fs f levels es e next) next.legal.fresh

pub events-put : EventsCanBePut
events-put instance fs f levels es e next k declared =
    let own = same instance fs f levels es e next in
    let there = fits instance fs f levels es e next in
    (can-change f k levels declared es next.fit next.leveled e own there next.legal.fresh, right-length f k levels declared es next.fit next.leveled e there)
