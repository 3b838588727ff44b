use Rattle.std.proofs.Common.{◌≡◌, ◌+◌, ◌<◌, ◌≤◌, length, refl, ap, sym, subst}
use Rattle.tv_cell.specs.PieceValues.{piece_values}
use Rattle.tv_cell.specs.Soundness.{AreSound}
use Rattle.tv_outputs.specs.Changes.{AllCanArrive}
use Rattle.tv_outputs.specs.Known.{depths, known, needed}
use Rattle.tv_model.specs.instance.Events.{gave}
use Rattle.tv_frame.specs.Tables.{first_tree, trees_of}
use Rattle.tv_frame.proofs.Coming.{counted-arrivals}
use Rattle.tv_frame.proofs.Keeping.{first-is, firsts-within, keeps-ahead, keeps-room, step-there, step-within}
use Rattle.tv_frame.proofs.Putting.{depths-there}
use Rattle.tv_frame.proofs.RoomLemmas.{counts-new, result-arrives, result-coming, result-first_can, result-first_short, result-marked, result-next, result-there, result-turns, worked-ready}
use Rattle.tv_frame.proofs.frame.Frame.room_for_result.Goals as goal

pub first_tree-first-requires : goal.first_tree-first-requires
first_tree-first-requires c =
    let r = c.requires.may in
    firsts-within r.0 c.args.plan.now c.args.pool.now c.args.self.now r.1 c.args.step r.2 r.3 r.4

pub trees_of-trees-requires : goal.trees_of-trees-requires
trees_of-trees-requires c =
    let r = c.requires.may in
    step-within r.0 c.args.plan.now c.args.pool.now c.args.self.now r.1 c.args.step r.2 r.3 r.4

pub reserve-requires : goal.reserve-requires
reserve-requires c =
    let r = c.requires.may in
    let first : c.first_tree-first.result ≡ first_tree r.1.flow.steps c.args.step = first-is r.0 c.args.plan.now c.args.pool.now c.args.self.now r.1 c.args.step r.2 r.3 r.4 c.first_tree-first.result c.first_tree-first.ensures in
    let many : c.trees_of-trees.result ≡ trees_of r.2 = c.trees_of-trees.ensures r.2 (step-there r.0 c.args.plan.now c.args.pool.now c.args.self.now r.1 c.args.step r.2 r.3 r.4) in
    subst (λ x. x + c.trees_of-trees.result ≤ length (depths c.args.self.now.outputs)) (sym first)
    (subst (λ m. first_tree r.1.flow.steps c.args.step + m ≤ length (depths c.args.self.now.outputs)) (sym many)
    (depths-there r.0 c.args.plan.now c.args.pool.now c.args.self.now r.1 c.args.step r.2 r.3 r.4))

pub faults_by_arrival-requires-clause-can : goal.faults_by_arrival-requires-clause-can
faults_by_arrival-requires-clause-can c =
    let r = c.requires.may in
    let f = c.args.self.now in
    let pool = c.reserve.new.pool in
    let kept = keeps-room r.0 c.args.plan.now c.args.pool.now pool f r.1 c.reserve.ensures.regions c.reserve.ensures.known c.reserve.ensures.stand r.3 in
    let first = first-is r.0 c.args.plan.now c.args.pool.now f r.1 c.args.step r.2 r.3 r.4 c.first_tree-first.result c.first_tree-first.ensures in
    subst (λ l. AllCanArrive c.first_tree-first.result (length l) c.args.place.now (depths f.outputs) (known pool f.outputs)) (sym c.as_slice.ensures)
    (result-arrives r.0 c.args.plan.now pool f r.1 c.args.step r.2 kept r.4 c.args.place.now c.args.outputs.now r.5 c.first_tree-first.result first)

pub whole_by_arrival-requires-clause-there : goal.whole_by_arrival-requires-clause-there
whole_by_arrival-requires-clause-there c =
    let r = c.requires.may in
    let f = c.args.self.now in
    let pool = c.reserve.new.pool in
    let kept = keeps-room r.0 c.args.plan.now c.args.pool.now pool f r.1 c.reserve.ensures.regions c.reserve.ensures.known c.reserve.ensures.stand r.3 in
    let first = first-is r.0 c.args.plan.now c.args.pool.now f r.1 c.args.step r.2 r.3 r.4 c.first_tree-first.result c.first_tree-first.ensures in
    result-there r.0 c.args.plan.now pool f r.1 c.args.step r.2 kept r.4 c.args.place.now c.args.outputs.now r.5 c.first_tree-first.result first

pub whole_by_arrival-requires-clause-short : goal.whole_by_arrival-requires-clause-short
whole_by_arrival-requires-clause-short c =
    let r = c.requires.may in
    let f = c.args.self.now in
    let pool = c.reserve.new.pool in
    let kept = keeps-room r.0 c.args.plan.now c.args.pool.now pool f r.1 c.reserve.ensures.regions c.reserve.ensures.known c.reserve.ensures.stand r.3 in
    let first = first-is r.0 c.args.plan.now c.args.pool.now f r.1 c.args.step r.2 r.3 r.4 c.first_tree-first.result c.first_tree-first.ensures in
    result-first_short r.0 c.args.plan.now pool f r.1 c.args.step r.2 kept r.4 c.args.place.now c.args.outputs.now r.5 c.first_tree-first.result first

pub whole_by_arrival-requires-clause-can : goal.whole_by_arrival-requires-clause-can
whole_by_arrival-requires-clause-can c =
    let r = c.requires.may in
    let f = c.args.self.now in
    let pool = c.reserve.new.pool in
    let kept = keeps-room r.0 c.args.plan.now c.args.pool.now pool f r.1 c.reserve.ensures.regions c.reserve.ensures.known c.reserve.ensures.stand r.3 in
    let first = first-is r.0 c.args.plan.now c.args.pool.now f r.1 c.args.step r.2 r.3 r.4 c.first_tree-first.result c.first_tree-first.ensures in
    result-first_can r.0 c.args.plan.now pool f r.1 c.args.step r.2 kept r.4 c.args.place.now c.args.outputs.now r.5 c.first_tree-first.result first

pub hold-requires : goal.hold-requires
hold-requires c =
    let r = c.requires.may in
    let f = c.args.self.now in
    let q = c.args.place.now in
    let ps = c.args.outputs.now in
    let pool = c.reserve.new.pool in
    let kept = keeps-room r.0 c.args.plan.now c.args.pool.now pool f r.1 c.reserve.ensures.regions c.reserve.ensures.known c.reserve.ensures.stand r.3 in
    let x = c.first_tree-first.result in
    let first = first-is r.0 c.args.plan.now c.args.pool.now f r.1 c.args.step r.2 r.3 r.4 x c.first_tree-first.ensures in (
      r.0,
      r.1,
      r.2,
      gave r.2.0 q (piece_values ps),
      kept,
      result-coming r.0 c.args.plan.now pool f r.1 c.args.step r.2 kept r.4 q ps r.5 x first _
          (record { place = c.as_slice-2.ensures; happened = ap piece_values c.as_slice-4.ensures })
          c.whole_by_arrival.ensures
          (λ i lt. subst (λ l. i < length l) (sym c.as_slice-4.ensures) lt)
          (counted-arrivals ps c.as_slice.result.now c.as_slice.ensures c.new-faults.result.items c.faults_by_arrival.new.faults.items c.as_slice-3.result.now c.new-faults.ensures.items c.as_slice-3.ensures q x (known pool f.outputs) c.in_ok-faults_by_arrival.ensures),
    )

pub find_outs-requires : goal.find_outs-requires
find_outs-requires c =
    let r = c.requires.may in
    let f = c.args.self.now in
    let q = c.args.place.now in
    let ps = c.args.outputs.now in
    let pool = c.reserve.new.pool in
    let kept = keeps-room r.0 c.args.plan.now c.args.pool.now pool f r.1 c.reserve.ensures.regions c.reserve.ensures.known c.reserve.ensures.stand r.3 in
    let x = c.first_tree-first.result in
    let first = first-is r.0 c.args.plan.now c.args.pool.now f r.1 c.args.step r.2 r.3 r.4 x c.first_tree-first.ensures in (
      r.0,
      r.1,
      r.2,
      gave r.2.0 q (piece_values ps),
      c.hold.ensures.same r.0 r.1 kept,
      record {
        next = result-next r.0 c.args.plan.now pool f r.1 c.args.step r.2 kept r.4 q ps r.5;
        at = r.4;
        named = refl;
        place = refl;
        change = (subst AreSound (sym c.as_slice-5.ensures) c.requires.sound, ap piece_values (sym c.as_slice-5.ensures));
        turns = result-turns r.0 c.args.plan.now pool f r.1 c.args.step r.2 kept r.4 q ps r.5 x first c.whole_by_arrival.result c.whole_by_arrival.ensures;
      },
    )

pub returns-in_err-jobs-clause-same : goal.returns-in_err-jobs-clause-same
returns-in_err-jobs-clause-same c = λ flows v k.
    c.hold.ensures.same flows v
    (keeps-room flows c.args.plan.now c.args.pool.now c.reserve.new.pool c.args.self.now v c.reserve.ensures.regions c.reserve.ensures.known c.reserve.ensures.stand k)

pub returns-in_err-find_outs-clause-same : goal.returns-in_err-find_outs-clause-same
returns-in_err-find_outs-clause-same c = λ flows v k.
    c.find_outs.ensures.same flows v
    (c.hold.ensures.same flows v
    (keeps-room flows c.args.plan.now c.args.pool.now c.reserve.new.pool c.args.self.now v c.reserve.ensures.regions c.reserve.ensures.known c.reserve.ensures.stand k))

pub returns-clause-same : goal.returns-clause-same
returns-clause-same c = λ flows v k.
    let h = c.find_outs.new.self in
    let plan = c.args.plan.now in
    let pool = c.reserve.new.pool in
    keeps-ahead flows plan pool h v (record h.ahead { faults = c.faults_by_arrival.new.faults })
    (c.find_outs.ensures.same flows v
    (c.hold.ensures.same flows v
    (keeps-room flows plan c.args.pool.now pool c.args.self.now v c.reserve.ensures.regions c.reserve.ensures.known c.reserve.ensures.stand k)))

pub returns-clause-ready : goal.returns-clause-ready
returns-clause-ready c = λ flows v s k at may.
    let f = c.args.self.now in
    let q = c.args.place.now in
    let ps = c.args.outputs.now in
    let pool = c.reserve.new.pool in
    let e = gave s.0 q (piece_values ps) in
    let kept = keeps-room flows c.args.plan.now c.args.pool.now pool f v c.reserve.ensures.regions c.reserve.ensures.known c.reserve.ensures.stand k in
    let x = c.first_tree-first.result in
    let first : x ≡ first_tree v.flow.steps c.args.step = first-is flows c.args.plan.now c.args.pool.now f v c.args.step s k at x c.first_tree-first.ensures in
    let many : c.trees_of-trees.result ≡ trees_of s = c.trees_of-trees.ensures s (step-there flows c.args.plan.now c.args.pool.now f v c.args.step s k at) in
    let next = result-next flows c.args.plan.now pool f v c.args.step s kept at q ps may in
    let turns = result-turns flows c.args.plan.now pool f v c.args.step s kept at q ps may x first c.whole_by_arrival.result c.whole_by_arrival.ensures in
    let held = c.hold.ensures.same flows v kept in
    worked-ready flows c.args.plan.now pool f c.hold.new.self c.find_outs.new.self v c.args.step s e c.whole_by_arrival.result
    (record {
      keeps = c.find_outs.ensures.same flows v held;
      next = next;
      at = at;
      named = refl;
      room =
          subst (λ y. needed (depths f.outputs) y (trees_of s) ≤ pool.spare) first
          (subst (λ m. needed (depths f.outputs) x m ≤ pool.spare) many c.in_ok-reserve.ensures.ok);
      turns = turns;
      parts = c.hold.ensures.parts;
      held =
          c.in_ok-jobs.ensures.held flows v s e kept
          (result-coming flows c.args.plan.now pool f v c.args.step s kept at q ps may x first _
          (record { place = c.as_slice-2.ensures; happened = ap piece_values c.as_slice-4.ensures })
          c.whole_by_arrival.ensures
          (λ i lt. subst (λ l. i < length l) (sym c.as_slice-4.ensures) lt)
          (counted-arrivals ps c.as_slice.result.now c.as_slice.ensures c.new-faults.result.items c.faults_by_arrival.new.faults.items c.as_slice-3.result.now c.new-faults.ensures.items c.as_slice-3.ensures q x (known pool f.outputs) c.in_ok-faults_by_arrival.ensures));
      whole = c.hold.ensures.whole;
      later = c.find_outs.ensures.parts;
      same = c.find_outs.ensures.held;
      outs =
          c.in_ok-find_outs.ensures.outs flows v s e held
          (record {
            next = next;
            at = at;
            named = refl;
            place = refl;
            change = (subst AreSound (sym c.as_slice-5.ensures) c.requires.sound, ap piece_values (sym c.as_slice-5.ensures));
            turns = turns;
          });
    })
    (record c.find_outs.new.self.ahead { faults = c.faults_by_arrival.new.faults }) refl refl
    (result-marked flows c.args.plan.now pool f v c.args.step s kept at q ps may x first c.faults_by_arrival.new.faults.items
    (counted-arrivals ps c.as_slice.result.now c.as_slice.ensures c.new-faults.result.items c.faults_by_arrival.new.faults.items c.faults_by_arrival.new.faults.items c.new-faults.ensures.items refl q x (known pool f.outputs) c.in_ok-faults_by_arrival.ensures))

pub returns-clause-count : goal.returns-clause-count
returns-clause-count c = λ flows v s k at may.
    counts-new flows c.args.plan.now c.reserve.new.pool c.hold.new.self c.find_outs.new.self (record c.find_outs.new.self.ahead { faults = c.faults_by_arrival.new.faults }) v c.args.step s (gave s.0 c.args.place.now (piece_values c.args.outputs.now)) c.find_outs.ensures.held
    (returns-clause-ready c flows v s k at may) c.in_ok-jobs.jobs c.in_ok-jobs.ensures.count
