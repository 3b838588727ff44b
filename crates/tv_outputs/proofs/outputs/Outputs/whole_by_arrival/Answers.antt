use Rattle.std.proofs.Common.{◌≡◌, ◌≤◌, subst, length, Some}
use Rattle.std.specs.Prelude.{slice_get}
use Rattle.tv_outputs.proofs.Lists.{depth-at}
use Rattle.tv_outputs.proofs.Ones.{within, fits, found, one-stands, one-arrives}
use Rattle.tv_outputs.proofs.Looks.{least-arrived}
use Rattle.tv_outputs.proofs.outputs.Outputs.whole_by_arrival.Goals as goal

pub index-requires : goal.index-requires
index-requires c = fits c.args.number (length c.args.self.now.trees.items) c.args.self.now.trees.len (within c.args.pool.now c.args.self.now.trees.items c.args.number c.requires.there) c.args.self.now.trees.ok.0

pub whole_by_arrival-requires : goal.whole_by_arrival-requires
whole_by_arrival-requires c =
    let ts = c.args.self.now.trees.items in
    let t = c.index.result.now in
    let k = c.args.number in
    let there : slice_get ts k ≡ Some t = found c.args.pool.now ts k t c.requires.there c.index.ensures in
    let a = c.requires.stand.1 in
    let r = c.requires.stand.0 in
    record {
      stands = one-stands c.args.pool.now r ts a k t there;
      short = subst (λ d. length c.args.place.now ≤ d) (depth-at ts k t there) c.requires.short;
      can = one-arrives c.args.pool.now r ts a k t there c.args.place.now c.requires.can;
    }

pub returns : goal.returns
returns c =
    let ts = c.args.self.now.trees.items in
    let t = c.index.result.now in
    let k = c.args.number in
    let there : slice_get ts k ≡ Some t = found c.args.pool.now ts k t c.requires.there c.index.ensures in
    let a = c.requires.stand.1 in
    let r = c.requires.stand.0 in
    least-arrived c.args.pool.now r ts a k t there c.args.place.now c.whole_by_arrival.result c.whole_by_arrival.ensures
