use Rattle.std.proofs.Common.{arith, refl}
use Rattle.tv_run.proofs.Busy.{last-low, leaves}
use Rattle.tv_run.proofs.run.OpenRun.leave_last.Goals as goal

pub index_mut-requires : goal.index_mut-requires
index_mut-requires c =
    let r = c.args.self.now in
    let p = c.requires.fits in
    let low = last-low r c.pop.new.self.items c.in-Some.last c.in-Some.ensures.items p.0 p.1 in
    omega (arith, low, r.instances.ok.0)

pub returns-in-Some : goal.returns-in-Some
returns-in-Some c =
    let p = c.requires.fits in
    leaves c.args.self.now c.pop.new.self.items c.in-Some.last c.in-Some.ensures.items p.0 p.1 c.index_mut.result.now
    c.index_mut.ensures.value _ refl refl refl refl refl refl refl refl refl refl
