use Rattle.std.proofs.Common.{◌≡◌, ◌∙◌, length, Some}
use Rattle.std.specs.Prelude.{slice_get}
use Rattle.tv_outputs.proofs.Ones.{within, fits, found, one-stands}
use Rattle.tv_outputs.proofs.Looks.{faults-there}
use Rattle.tv_outputs.proofs.outputs.Outputs.holds_fault.Goals as goal

pub index-requires : goal.index-requires
index-requires c = fits c.args.number (length c.args.self.now.trees.items) c.args.self.now.trees.len (within c.args.pool.now c.args.self.now.trees.items c.args.number c.requires.there) c.args.self.now.trees.ok.0

pub is_marked-requires : goal.is_marked-requires
is_marked-requires c =
    let ts = c.args.self.now.trees.items in
    let t = c.index.result.now in
    let k = c.args.number in
    let there : slice_get ts k ≡ Some t = found c.args.pool.now ts k t c.requires.there c.index.ensures in
    let a = c.requires.stand.1 in
    let r = c.requires.stand.0 in
    record { stands = one-stands c.args.pool.now r ts a k t there }

pub returns : goal.returns
returns c =
    let ts = c.args.self.now.trees.items in
    let t = c.index.result.now in
    let k = c.args.number in
    let there : slice_get ts k ≡ Some t = found c.args.pool.now ts k t c.requires.there c.index.ensures in
    let a = c.requires.stand.1 in
    let r = c.requires.stand.0 in
    c.is_marked.ensures ∙ faults-there c.args.pool.now r ts a k t there
