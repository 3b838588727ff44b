use denote.Exit.{no}
use denote.Param.{param}
use denote.Param.Send.{arg_sync, param_sync}
use Rattle.std.proofs.Crossing.{sync}
use Rattle.tv_work.proofs.Sent.{desk-sync, four-sync, lent-sync}
use Rattle.tv_work.proofs.workers.run_named.Goals as goal

-- the handle, the heap, the desk and the gate may be shared
pub map_vec-requires-sync-F : goal.map_vec-requires-sync-F
map_vec-requires-sync-F g c κs within =
    let desk = desk-sync (param 2 g.row.V) (param 0 g.row.N) g.V.Services g.N.Naming g.N.Ledger c.type_bounds.send-V in
    param_sync 4 _ (arg_sync _ no _
    (four-sync _ _ _ _ _ (lent-sync _ _ tt c.type_bounds.sync-R) (lent-sync _ _ tt sync) (lent-sync _ _ tt desk) (lent-sync _ _ tt c.type_bounds.sync-G)))
