use Rattle.std.proofs.Common.{arith}
use Rattle.tv_io.proofs.Reading.{read_whole, takes_more}
use Rattle.tv_io.proofs.source.read_all.Goals as goal

pub returns-in_err-read_more-clause-taken : goal.returns-in_err-read_more-clause-taken
returns-in_err-read_more-clause-taken g c =
    takes_more _ _ _ _ _ c.loop-bytes.bytes.items (omega (arith, c.loop-bytes.invariant.1, c.loop-bytes.bytes.ok.0)) c.loop-bytes.invariant.2 c.read_more.ensures.taken

pub returns-then-branch-eq0-clause-ok : goal.returns-then-branch-eq0-clause-ok
returns-then-branch-eq0-clause-ok g c =
    read_whole _ _ _ c.loop-bytes.bytes.items _ _ c.if-branch-eq0.true c.loop-bytes.invariant.2 c.in_ok-read_more.ensures.ok c.in_ok-read_more.ensures.end

pub returns-then-branch-eq0-clause-taken : goal.returns-then-branch-eq0-clause-taken
returns-then-branch-eq0-clause-taken g c =
    takes_more _ _ _ _ _ c.loop-bytes.bytes.items (omega (arith, c.loop-bytes.invariant.1, c.loop-bytes.bytes.ok.0)) c.loop-bytes.invariant.2 c.read_more.ensures.taken
