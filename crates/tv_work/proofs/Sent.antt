-- That a board may be sent to other threads, and what stands on a workers' desk shared by them: each type that it is made of, lowest first.
use denote.RattleType.{RattleType}
use denote.Struct.Declared.{shape}
use denote.Struct.Struct.{Struct}
use denote.Struct.Tuple as tuple
use denote.Struct.Field as field
use denote.Builtin.{One}
use denote.Ref.{NamedLft}
use denote.Param.Send.{IsSend, IsSync, recorded_send, recorded_sync, shr_sync, struct_send, struct_sync, view_send, sendable}
use mathlib.Core.List.{List, [], ◌∷◌}
use Prim.Native.Nat.{ℕ}
use Rattle.std.proofs.Crossing.{Vec-send, crosses}
use Rattle.tv_value.proofs.value.Value.TheLaws.TheKnot as values
use Rattle.tv_value.proofs.tree.Tree.TheLaws.TheKnot as trees
use Rattle.tv_board.below.tv_cell.proofs.piece.Piece.TheLaws.TheKnot as pieces
use Rattle.tv_board.below.tv_match.proofs.stores.Store.TheLaws.TheKnot as stores
use Rattle.tv_value.proofs.value.ErrorDoc.TheSendSync as error
use Rattle.tv_value.proofs.text.Text.TheSendSync as text
use Rattle.tv_value.proofs.sequence.Sequence.TheSendSync as sequence
use Rattle.tv_value.proofs.place.Place.TheSendSync as place
use Rattle.tv_board.below.tv_cell.proofs.path.Path.TheSendSync as path
use Rattle.tv_board.below.tv_cell.proofs.row.Row.TheSendSync as row
use Rattle.tv_flow.proofs.document.Link.TheSendSync as link
use Rattle.tv_flow.proofs.document.Activity.TheSendSync as activity
use Rattle.tv_check.proofs.wiring.Wiring.TheSendSync as wiring
use Rattle.tv_check.proofs.wires.Wire.TheSendSync as wire
use Rattle.tv_board.below.tv_match.proofs.bags.Bag.TheSendSync as bag
use Rattle.tv_board.below.tv_match.proofs.found.Found.TheSendSync as found
use Rattle.tv_board.below.tv_match.proofs.places.Places.TheSendSync as places
use Rattle.tv_board.below.tv_match.proofs.told.Told.TheSendSync as told
use Rattle.tv_board.below.tv_intake.proofs.found.Found.TheSendSync as number
use Rattle.tv_value.specs.contracts.value.Value as value
use Rattle.tv_value.specs.contracts.tree.Tree as tree
use Rattle.tv_flow.specs.contracts.document.Feed as feed
use Rattle.tv_flow.specs.contracts.document.Step as step
use Rattle.tv_flow.specs.contracts.document.StepInput as input
use Rattle.tv_flow.specs.contracts.document.Flow as flow
use Rattle.tv_flow.specs.contracts.document.Document as document
use Rattle.tv_check.specs.contracts.plans.StepPlan as step_plan
use Rattle.tv_check.specs.contracts.plans.FlowPlan as flow_plan
use Rattle.tv_check.specs.contracts.run.CheckedRun as checked
use Rattle.tv_board.below.tv_cell.specs.contracts.cell.Cell as cell
use Rattle.tv_board.below.tv_cell.specs.contracts.piece.Piece as piece
use Rattle.tv_board.below.tv_match.specs.contracts.stores.Store as store
use Rattle.tv_board.below.tv_match.specs.contracts.matchers.Matcher as matcher
use Rattle.tv_board.below.tv_intake.specs.contracts.boxed.Boxed as boxed
use Rattle.tv_board.below.tv_intake.specs.contracts.intakes.Intakes as intakes
use Rattle.tv_board.below.tv_binding.specs.contracts.constants.Constants as constants
use Rattle.tv_board.below.tv_frame.specs.contracts.tables.Tables as tables
use Rattle.tv_board.below.tv_frame.specs.contracts.tables.FlowTables as flow_tables
use Rattle.tv_value.proofs.memory.NoMemory.TheSendSync as memory
use Rattle.tv_board.below.tv_outputs.proofs.outputs.Outputs.TheSendSync as outputs
use Rattle.tv_board.below.tv_idle.proofs.idle.Idle.TheSendSync as idle
use Rattle.tv_board.below.tv_telling.proofs.endings.endings.Endings.TheSendSync as endings
use Rattle.tv_board.below.tv_spread.proofs.spread.Spread.TheSendSync as spread
use Rattle.tv_board.below.tv_instances.proofs.levels.Levels.TheSendSync as levels
use Rattle.tv_board.below.tv_instances.proofs.turns.Turns.TheSendSync as turns
use Rattle.tv_board.below.tv_frame.proofs.level.Level.TheSendSync as level
use Rattle.tv_board.below.tv_seats.proofs.seats.Seats.TheSendSync as seats
use Rattle.tv_board.below.tv_seats.proofs.past.Past.TheSendSync as past
use Rattle.tv_board.below.tv_pool.proofs.Pool.TheSendSync as pool
use Rattle.tv_board.below.tv_stream.proofs.nodes.Entry.TheSendSync as slot
use Rattle.tv_board.below.tv_stream.proofs.held.Held.TheSendSync as held
use Rattle.tv_board.below.tv_stream.proofs.held.Part.TheSendSync as part
use Rattle.tv_board.below.tv_stream.proofs.partial.Partial.TheSendSync as partial
use Rattle.tv_history.proofs.entry.Entry.TheSendSync as entry
use Rattle.std.proofs.marker.PhantomData.TheSendSync as phantom
use Rattle.tv_board.below.tv_run.proofs.instances.Numbered.TheSendSync as numbered
use Rattle.tv_board.below.tv_run.proofs.plans.StepLook.TheSendSync as step_look
use Rattle.tv_board.below.tv_frame.specs.contracts.frame.Ahead as ahead
use Rattle.tv_board.below.tv_frame.specs.contracts.frame.Frame as frame
use Rattle.tv_board.below.tv_instances.specs.contracts.open.Open as opened
use Rattle.tv_board.below.tv_run.specs.contracts.instances.Instance as instance
use Rattle.tv_board.below.tv_run.specs.contracts.slots.Leftover as leftover
use Rattle.tv_board.below.tv_run.specs.contracts.plans.FlowLook as flow_look
use Rattle.tv_board.below.tv_run.specs.contracts.ended.Ended as ended
use Rattle.tv_board.below.tv_run.specs.contracts.run.OpenRun as run
use Rattle.tv_gate.specs.declared.services.Services.{Ghosts}
use Rattle.tv_board.specs.contracts.board.Board as board
use Rattle.tv_board.specs.contracts.board.Board.TheInside as inside
use Rattle.std.specs.declared.sync.ledger.Ledger.{Ghosts as LedgerGhosts}
use Rattle.std.proofs.sync.ledger.Book.TheSendSync as book
use Rattle.std.proofs.sync.Condvar.TheSendSync as condvar
use Rattle.tv_board.specs.declared.naming.Naming.{Ghosts as NamingGhosts}
use Rattle.tv_history.proofs.ticket.Ticket.TheSendSync as ticket
use Rattle.tv_work.specs.contracts.locked.Locked as locked
use Rattle.tv_work.specs.contracts.locked.Locked.TheInside as locked_inside
use Rattle.tv_work.specs.contracts.workers.Shared as shared
use Rattle.tv_work.specs.contracts.workers.Desk as desk

pub value-send : IsSend (value.the_field).row
value-send = search (error.the_send, crosses, values.crosses, sendable) depth 60 fits 20000

pub value_row-send : IsSend (value.the_row)
value_row-send = search (error.the_send, crosses, values.crosses, sendable) depth 60 fits 20000

pub value-sync : IsSync (value.the_field).row
value-sync = search (error.the_sync, crosses, values.crosses, sendable) depth 60 fits 20000

pub tree-send : IsSend (tree.the_field).row
tree-send = search (crosses, trees.crosses, sendable) depth 60 fits 20000

pub feed-send : IsSend (feed.the_field).row
feed-send = search (value-send, text.the_send, sequence.the_send, link.the_send, crosses, sendable) depth 60 fits 20000

pub input-send : IsSend (input.the_field).row
input-send = search (feed-send, crosses, sendable) depth 60 fits 20000

pub step-send : IsSend (step.the_field).row
step-send = search (input-send, tree-send, text.the_send, sequence.the_send, activity.the_send, crosses, sendable) depth 60 fits 20000

pub flow-send : IsSend (flow.the_field).row
flow-send = search (step-send, feed-send, text.the_send, sequence.the_send, crosses, sendable) depth 60 fits 20000

pub document-send : IsSend (document.the_field).row
document-send = search (flow-send, value-send, text.the_send, sequence.the_send, crosses, sendable) depth 60 fits 20000

pub step_plan-send : IsSend (step_plan.the_field).row
step_plan-send = search (tree-send, text.the_send, sequence.the_send, crosses, sendable) depth 60 fits 20000

pub flow_plan-send : IsSend (flow_plan.the_field).row
flow_plan-send = search (flow-send, step_plan-send, wiring.the_field_send, text.the_send, sequence.the_send, crosses, sendable) depth 60 fits 20000

pub checked-send : IsSend (checked.the_field).row
checked-send = search (document-send, flow_plan-send, sequence.the_send, crosses, sendable) depth 60 fits 20000

pub cell-send : IsSend (cell.the_field).row
cell-send = search (value-send, value-sync, crosses, sendable) depth 60 fits 20000

pub cell-sync : IsSync (cell.the_field).row
cell-sync = search (value-send, value-sync, crosses, sendable) depth 60 fits 20000

pub piece-send : IsSend (piece.the_field).row
piece-send = search (cell-send, path.the_send, row.the_send, crosses, pieces.crosses, sendable) depth 60 fits 20000

pub piece-sync : IsSync (piece.the_field).row
piece-sync = search (cell-sync, path.the_sync, row.the_sync, crosses, pieces.crosses, sendable) depth 60 fits 20000

pub store-send : IsSend (store.the_field).row
store-send = search (bag.the_send, found.the_send, crosses, stores.crosses, sendable) depth 60 fits 20000

pub matcher-send : IsSend (matcher.the_field).row
matcher-send = search (store-send, tree-send, bag.the_send, text.the_send, sequence.the_send, crosses, sendable) depth 60 fits 20000

pub boxed-send : IsSend (boxed.the_field).row
boxed-send = search (matcher-send, crosses, sendable) depth 60 fits 20000

pub intakes-send : IsSend (intakes.the_field).row
intakes-send = search (boxed-send, number.the_send, crosses, sendable) depth 60 fits 20000

pub constants-send : IsSend (constants.the_field).row
constants-send = search (cell-send, sequence.the_send, crosses, sendable) depth 60 fits 20000

pub constants-sync : IsSync (constants.the_field).row
constants-sync = search (cell-sync, sequence.the_sync, crosses, sendable) depth 60 fits 20000

pub tables-send : IsSend (tables.the_field).row
tables-send = search (constants-send, wire.the_send, crosses, sendable) depth 60 fits 20000

pub tables-sync : IsSync (tables.the_field).row
tables-sync = search (constants-sync, wire.the_sync, crosses, sendable) depth 60 fits 20000

pub flow_tables-send : IsSend (flow_tables.the_field).row
flow_tables-send = search (tables-send, tables-sync, crosses, sendable) depth 60 fits 20000

pub ahead-send : IsSend (ahead.the_field).row
ahead-send = search (piece-send, row.the_send, place.the_send, crosses, sendable) depth 60 fits 20000

pub frame-send : IsSend (frame.the_field).row
frame-send = search (flow_tables-send, piece-send, row.the_send, partial.the_send, intakes-send, idle.the_send, ahead-send, sequence.the_send, told.the_send, crosses, sendable) depth 60 fits 20000

pub opened-send : IsSend (opened.the_field).row
opened-send = search (frame-send, seats.the_send, levels.the_send, crosses, sendable) depth 60 fits 20000

pub instance-send : IsSend (instance.the_field).row
instance-send = search (opened-send, past.the_send, crosses, sendable) depth 60 fits 20000

pub leftover-send : IsSend (leftover.the_field).row
leftover-send = search (opened-send, crosses, sendable) depth 60 fits 20000

pub flow_look-send : IsSend (flow_look.the_field).row
flow_look-send = search (flow_tables-send, step_look.the_send, crosses, sendable) depth 60 fits 20000

pub ended-send : IsSend (ended.the_field).row
ended-send = search (piece-send, row.the_send, level.the_send, crosses, sendable) depth 60 fits 20000

pub run-send : IsSend (run.the_field).row
run-send = search (checked-send, flow_look-send, pool.the_send, slot.the_send, held.the_send, piece-send, instance-send, numbered.the_send, entry.the_send, ended-send, leftover-send, crosses, sendable) depth 60 fits 20000

pub board-send : (V : RattleType) (g : Ghosts V.Denot) → IsSend V → IsSend (board.the_row V g)
board-send V g s =
    let t = inside.the_type V g in
    view_send (inside.the_row V g) _ _ _ _
    (recorded_send (inside.the_field V g).row _ _ t.to_one
    (struct_send (shape t) (run-send, (phantom.the_field_send V, (Vec-send value.the_row value_row-send, tt)))))

module _ (V N : RattleType) (g : Ghosts V.Denot) (h : NamingGhosts N.Denot) (l : LedgerGhosts N.Denot) (v : IsSend V) where
  pub locked-send : IsSend (locked.the_row V N g h l)
  locked-send =
      let t = locked_inside.the_type V N g h l in
      view_send (locked_inside.the_row V N g h l) _ _ _ _
      (recorded_send (locked_inside.the_field V N g h l).row _ _ t.to_one
      (struct_send (shape t) (board-send V g v, (book.the_send N l, (search sendable, tt)))))

  pub shared-send : IsSend (shared.the_row V N g h l)
  shared-send =
      let t = shared.the_type V N g h l in
      recorded_send (shared.the_field V N g h l).row _ _ t.to_one
      (struct_send (shape t) (locked-send, (search (ticket.the_send, crosses, sendable) depth 60 fits 20000, (search sendable, tt))))

  pub desk-sync : IsSync (desk.the_row V N g h l)
  desk-sync =
      let t = desk.the_type V N g h l in
      recorded_sync (desk.the_field V N g h l).row _ _ t.to_one
      (struct_sync (shape t) (search (shared-send, crosses) depth 60 fits 20000, (condvar.the_field_sync, tt)))

-- ---- what a closure has of what it captures

-- one thing, by reference
pub lent-sync : (ℓ : NamedLft) (R : RattleType) (o : One R.mir) → IsSync R → IsSync (field.shr_ref_field ℓ R o).row
lent-sync ℓ R o s = shr_sync _ _ R s

-- and four
pub four-sync : (ν : List ℕ) (A B C D : RattleType) → IsSync A → IsSync B → IsSync C → IsSync D
    → IsSync (tuple.TupleAt ν (A ∷ B ∷ C ∷ D ∷ []))
four-sync ν A B C D a b c d =
    let t = tuple.type_at ν (A ∷ B ∷ C ∷ D ∷ []) in
    recorded_sync (Struct (shape t)) _ _ t.to_one (struct_sync (shape t) (a, (b, (c, (d, tt)))))
