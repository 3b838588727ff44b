use Rattle.std.proofs.Common.{◌≡◌, ◌<◌, ◌+◌, ◌∙◌, sym, ap, subst, length, Some}
use Rattle.std.specs.Prelude.{slice_get}
use Rattle.tv_outputs.specs.Changes.{least_or_past}
use Rattle.tv_outputs.proofs.Lists.{depth-at}
use Rattle.tv_outputs.proofs.Ones.{within, fits, found, one-stands, one-closes}
use Rattle.tv_outputs.proofs.Looks.{least-closed}
use Rattle.tv_outputs.proofs.outputs.Outputs.whole_by_close.Goals as goal

pub index-requires : goal.index-requires
index-requires c = fits c.args.number (length c.args.self.now.trees.items) c.args.self.now.trees.len (within c.args.pool.now c.args.self.now.trees.items c.args.number c.requires.there) c.args.self.now.trees.ok.0

pub whole_by_close-requires : goal.whole_by_close-requires
whole_by_close-requires c =
    let ts = c.args.self.now.trees.items in
    let t = c.index.result.now in
    let k = c.args.number in
    let there : slice_get ts k ≡ Some t = found c.args.pool.now ts k t c.requires.there c.index.ensures in
    let a = c.requires.stand.1 in
    let r = c.requires.stand.0 in
    record {
      stands = one-stands c.args.pool.now r ts a k t there;
      short = subst (λ d. length c.args.place.now < d) (depth-at ts k t there) c.requires.short;
      can = one-closes c.args.pool.now r ts a k t there c.args.place.now c.args.length c.requires.can;
    }

pub returns-in-Some : goal.returns-in-Some
returns-in-Some c =
    let ts = c.args.self.now.trees.items in
    let t = c.index.result.now in
    let k = c.args.number in
    let there : slice_get ts k ≡ Some t = found c.args.pool.now ts k t c.requires.there c.index.ensures in
    let a = c.requires.stand.1 in
    let r = c.requires.stand.0 in
    ap (least_or_past c.args.place.now) (sym (least-closed c.args.pool.now r ts a k t there c.args.place.now c.args.length _ c.in-Some.ensures))

pub returns-in-None : goal.returns-in-None
returns-in-None c =
    let ts = c.args.self.now.trees.items in
    let t = c.index.result.now in
    let k = c.args.number in
    let there : slice_get ts k ≡ Some t = found c.args.pool.now ts k t c.requires.there c.index.ensures in
    let a = c.requires.stand.1 in
    let r = c.requires.stand.0 in
    ap (λ l. length l + 1) c.as_slice.ensures ∙ ap (least_or_past c.args.place.now) (sym (least-closed c.args.pool.now r ts a k t there c.args.place.now c.args.length _ c.in-None.ensures))
