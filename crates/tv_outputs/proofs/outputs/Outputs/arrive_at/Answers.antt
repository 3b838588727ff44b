use Rattle.std.proofs.Common.{◌≡◌, ◌≤◌, ◌<◌, ◌+◌, sym, subst, length, Some}
use Rattle.std.specs.Prelude.{slice_get}
use Rattle.tv_outputs.proofs.Lists.{depth-at}
use Rattle.tv_outputs.proofs.Ones.{within, fits, found, one-stands, one-arrives, one-same, arrived-kept, arrived-turns}
use Rattle.tv_outputs.proofs.outputs.Outputs.arrive_at.Goals as goal

pub index_mut-requires : goal.index_mut-requires
index_mut-requires c = fits c.args.number (length c.args.self.now.trees.items) c.args.self.now.trees.len (within c.args.pool.now c.args.self.now.trees.items c.args.number c.requires.there) c.args.self.now.trees.ok.0

pub arrive_in-requires : goal.arrive_in-requires
arrive_in-requires c =
    let ts = c.args.self.now.trees.items in
    let t = c.index_mut.result.now in
    let k = c.args.number in
    let there : slice_get ts k ≡ Some t = found c.args.pool.now ts k t c.requires.there c.index_mut.ensures.value in
    let a = c.requires.stand in
    record {
      live = c.requires.live;
      region = (a.kept k t there).within;
      stands = one-stands c.args.pool.now c.args.region.now ts a k t there;
      short = subst (λ d. length c.args.place.now ≤ d) (depth-at ts k t there) c.requires.short;
      can = one-arrives c.args.pool.now c.args.region.now ts a k t there c.args.place.now c.requires.can;
      room = subst (λ d. d < c.args.pool.now.spare) (depth-at ts k t there) c.requires.room;
      faulty = c.requires.faulty;
    }

pub returns-clause-turns : goal.returns-clause-turns
returns-clause-turns c =
    let ts = c.args.self.now.trees.items in
    let t = c.index_mut.result.now in
    let k = c.args.number in
    let there : slice_get ts k ≡ Some t = found c.args.pool.now ts k t c.requires.there c.index_mut.ensures.value in
    arrived-turns c.args.pool.now c.args.region.now ts c.requires.stand k t there c.arrive_in.new.pool c.arrive_in.new.tree c.index_mut.ensures.value c.arrive_in.ensures.same c.arrive_in.ensures.trees c.args.place.now c.args.piece c.arrive_in.ensures.tree

pub returns-clause-same : goal.returns-clause-same
returns-clause-same c =
    let ts = c.args.self.now.trees.items in
    let t = c.index_mut.result.now in
    let k = c.args.number in
    let there : slice_get ts k ≡ Some t = found c.args.pool.now ts k t c.requires.there c.index_mut.ensures.value in
    one-same c.args.pool.now c.args.region.now ts c.requires.stand k t there c.arrive_in.new.pool c.arrive_in.new.tree c.index_mut.ensures.value c.arrive_in.ensures.same c.arrive_in.ensures.trees

pub returns-clause-stand : goal.returns-clause-stand
returns-clause-stand c =
    let ts = c.args.self.now.trees.items in
    let t = c.index_mut.result.now in
    let k = c.args.number in
    let there : slice_get ts k ≡ Some t = found c.args.pool.now ts k t c.requires.there c.index_mut.ensures.value in
    arrived-kept c.args.pool.now c.args.region.now ts c.requires.stand k t there c.arrive_in.new.pool c.arrive_in.new.tree c.index_mut.ensures.value c.arrive_in.ensures.same c.arrive_in.ensures.trees c.args.place.now c.args.piece c.arrive_in.ensures.tree c.arrive_in.ensures.nodes c.requires.can c.requires.sound

pub returns-clause-spare : goal.returns-clause-spare
returns-clause-spare c =
    let ts = c.args.self.now.trees.items in
    let t = c.index_mut.result.now in
    let k = c.args.number in
    let there : slice_get ts k ≡ Some t = found c.args.pool.now ts k t c.requires.there c.index_mut.ensures.value in
    subst (λ d. c.args.pool.now.spare ≤ c.arrive_in.new.pool.spare + d) (sym (depth-at ts k t there)) c.arrive_in.ensures.spare
