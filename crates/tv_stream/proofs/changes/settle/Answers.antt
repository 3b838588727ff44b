use Rattle.std.proofs.Common.{◌∙◌, arith, refl, sym, subst}
use Rattle.std.proofs.lemmas.Option.{same_Some}
use Rattle.tv_pool.specs.Pool.{item_in, lies_at}
use Rattle.tv_stream.specs.nodes.Calls.{Sets}
use Rattle.tv_stream.specs.declared.held.Part.TheVariants.{Item}
use Rattle.tv_stream.proofs.Bases.{body-tree, base-arrive, nothing-wanting, keeps-refl}
use Rattle.tv_stream.proofs.changes.settle.Goals as goal

pub returns-in-Wanting-clause-ok : goal.returns-in-Wanting-clause-ok
returns-in-Wanting-clause-ok g c number x e n =
    let same = same_Some c.in-Some.item x (c.in-Some.ensures.value ∙ e) in
    let m = item_in c.args.pool.now number in
    let m2 = item_in c.set_body.new.pool number in
    let sets = subst (λ y. Sets m m2 (lies_at c.args.node) (record { marked = c.args.marked; part = Item y })) same (c.set_body.ensures.sets number n) in
    record {
      short = omega arith;
      all = λ spots height inside short. base-arrive m m2 spots (lies_at c.args.node) height inside c.body.result.now (c.body.ensures number n) c.in-Wanting.is x c.args.marked sets;
    }

pub returns : goal.returns
returns g c = record {
  ok = tt;
  refused = λ number spots height x inside.
      let m = item_in c.args.pool.now number in
      let b = c.body.ensures number (record { spots = spots; nodes = inside.nodes; spot = inside.spot; known = inside.known }) in
      let t = body-tree height m (lies_at c.args.node) c.body.result.now b in
      (refl, refl, λ h. c.in_default.not-Wanting (nothing-wanting t.0 m (lies_at c.args.node) c.body.result.now.marked c.body.result.now.part (sym t.1 ∙ h)));
  nodes = λ number. refl;
  unchanged = refl;
  held = refl;
  kept = λ number n. keeps-refl c.args.pool.now number;
  spare = refl;
}
