use Rattle.std.proofs.Common.{ap, arith, length, refl, subst, true, ◌≡◌}
use Rattle.std.proofs.lemmas.List.{nil_from_length}
use Rattle.tv_lemmas.proofs.Options.{on-err}
use Rattle.tv_run.specs.Settlements.{SettlesLast}
use Rattle.tv_run.proofs.Left.{left-stays}
use Rattle.tv_run.proofs.Settled.{quiet-run, settles-from, stays-from}
use Rattle.tv_run.proofs.run.OpenRun.settle_busy.Goals as goal

pub loop-init : goal.loop-init
loop-init c = record {
  stays = λ gives so. record { stands = so; same = refl; regions = λ n. refl };
  left = omega arith;
}

pub settle_last-requires : goal.settle_last-requires
settle_last-requires c =
    let r = c.args.self.now in
    let gives = c.requires.0 in
    let left = c.loop.invariant.left in (
      gives,
      (c.loop.invariant.stays gives c.requires.1).stands,
      omega (arith, left, c.loop-test.true, c.len-end.ensures, r.busy.ok.0),
    )

pub returns-in_err-settle_last-clause-refused : goal.returns-in_err-settle_last-clause-refused
returns-in_err-settle_last-clause-refused c =
    on-err c.from_residual.result
    (λ gives so.
    let now = c.loop.invariant.stays gives so in
    stays-from gives c.args.self.now c.loop.self c.settle_last.new.self now
    (c.in_err-settle_last.ensures.refused gives now.stands))

pub returns-then-branch-clause-settled : goal.returns-then-branch-clause-settled
returns-then-branch-clause-settled c = λ gives so.
    let now = c.loop.invariant.stays gives so in
    settles-from gives c.args.self.now c.loop.self c.settle_last.new.self true now
    (subst (SettlesLast gives c.loop.self c.settle_last.new.self) c.if-branch.true
    (c.in_ok-settle_last.ensures.settled gives now.stands))

pub leave_last-requires-clause-busy : goal.leave_last-requires-clause-busy
leave_last-requires-clause-busy c =
    let r = c.args.self.now in
    let gives = c.requires.0 in
    let now = c.loop.invariant.stays gives c.requires.1 in
    let last =
    subst (SettlesLast gives c.loop.self c.settle_last.new.self) c.if-branch.false
    (c.in_ok-settle_last.ensures.settled gives now.stands) in
    let left = c.loop.invariant.left in
    let same = ap length last.1 in
    omega (arith, left, same, c.loop-test.true, c.len-end.ensures, r.busy.ok.0)

pub leave_last-requires-clause-fits : goal.leave_last-requires-clause-fits
leave_last-requires-clause-fits c =
    let gives = c.requires.0 in
    let now = c.loop.invariant.stays gives c.requires.1 in
    let last =
    subst (SettlesLast gives c.loop.self c.settle_last.new.self) c.if-branch.false
    (c.in_ok-settle_last.ensures.settled gives now.stands) in
    (now.stands.0, last.0.fits now.stands.0 now.stands.1.fits)

pub loop-preserved : goal.loop-preserved
loop-preserved c = record {
  stays = λ gives so.
      let now = c.loop.invariant.stays gives so in
      let last =
      subst (SettlesLast gives c.loop.self c.settle_last.new.self) c.if-branch.false
      (c.in_ok-settle_last.ensures.settled gives now.stands) in
      stays-from gives c.args.self.now c.loop.self c.leave_last.new.self now
      (left-stays gives c.loop.self c.settle_last.new.self c.leave_last.new.self now.stands last c.leave_last.ensures);
  left =
      let gives = c.requires.0 in
      let now = c.loop.invariant.stays gives c.requires.1 in
      let last =
      subst (SettlesLast gives c.loop.self c.settle_last.new.self) c.if-branch.false
      (c.in_ok-settle_last.ensures.settled gives now.stands) in
      let same = ap length last.1 in
      let left = c.loop.invariant.left in
      let fewer = c.leave_last.ensures.fewer in
      omega (arith, left, same, fewer);
}

pub returns-clause-settled : goal.returns-clause-settled
returns-clause-settled c = λ gives so.
    let r = c.args.self.now in
    let now = c.loop.invariant.stays gives so in
    let left = c.loop.invariant.left in
    let none : length c.loop.self.busy.items ≡ 0 =
    omega (arith, left, c.loop-test.false, c.len-end.ensures, r.busy.ok.0) in
    (now, quiet-run gives c.loop.self now.stands.0 now.stands.1 (nil_from_length c.loop.self.busy.items none))
