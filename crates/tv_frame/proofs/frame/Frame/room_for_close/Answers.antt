use Rattle.std.proofs.Common.{◌≡◌, ◌+◌, ◌==◌, ◌≤◌, length, refl, ap, sym, subst, ◌∙◌}
use Rattle.tv_parts.specs.Changes.{close_at}
use Rattle.tv_outputs.specs.Changes.{AllCanClose}
use Rattle.tv_outputs.specs.Known.{depths, known, needed, tree_in}
use Rattle.tv_telling.specs.Views.{HasPiece}
use Rattle.tv_model.specs.instance.Events.{closed}
use Rattle.tv_framing.specs.feeds.Seen.{Happens}
use Rattle.tv_frame.specs.Tables.{first_tree, trees_of}
use Rattle.tv_frame.proofs.Coming.{counted-closings}
use Rattle.tv_frame.proofs.Keeping.{first-is, firsts-within, keeps-ahead, keeps-room, step-there, step-within}
use Rattle.tv_frame.proofs.Putting.{depths-there}
use Rattle.tv_frame.proofs.RoomLemmas.{close-all, close-coming, close-first_can, close-first_short, close-next, close-there, close-turns, counts-new, worked-ready}
use Rattle.tv_frame.proofs.frame.Frame.room_for_close.Goals as goal

pub first_tree-first-requires : goal.first_tree-first-requires
first_tree-first-requires c =
    let r = c.requires.next in
    firsts-within r.0 c.args.plan.now c.args.pool.now c.args.self.now r.1 c.args.step r.2 r.3 r.4

pub trees_of-trees-requires : goal.trees_of-trees-requires
trees_of-trees-requires c =
    let r = c.requires.next in
    step-within r.0 c.args.plan.now c.args.pool.now c.args.self.now r.1 c.args.step r.2 r.3 r.4

pub reserve-requires : goal.reserve-requires
reserve-requires c =
    let r = c.requires.next in
    let first : c.first_tree-first.result ≡ first_tree r.1.flow.steps c.args.step = first-is r.0 c.args.plan.now c.args.pool.now c.args.self.now r.1 c.args.step r.2 r.3 r.4 c.first_tree-first.result c.first_tree-first.ensures in
    let many : c.trees_of-trees.result ≡ trees_of r.2 = c.trees_of-trees.ensures r.2 (step-there r.0 c.args.plan.now c.args.pool.now c.args.self.now r.1 c.args.step r.2 r.3 r.4) in
    subst (λ x. x + c.trees_of-trees.result ≤ length (depths c.args.self.now.outputs)) (sym first)
    (subst (λ m. first_tree r.1.flow.steps c.args.step + m ≤ length (depths c.args.self.now.outputs)) (sym many)
    (depths-there r.0 c.args.plan.now c.args.pool.now c.args.self.now r.1 c.args.step r.2 r.3 r.4))

pub outputs_of-outputs-requires : goal.outputs_of-outputs-requires
outputs_of-outputs-requires c =
    let r = c.requires.next in
    step-within r.0 c.args.plan.now c.args.pool.now c.args.self.now r.1 c.args.step r.2 r.3 r.4

pub faults_by_close-requires-clause-there : goal.faults_by_close-requires-clause-there
faults_by_close-requires-clause-there c =
    let r = c.requires.next in
    let f = c.args.self.now in
    let pool = c.reserve.new.pool in
    let kept = keeps-room r.0 c.args.plan.now c.args.pool.now pool f r.1 c.reserve.ensures.regions c.reserve.ensures.known c.reserve.ensures.stand r.3 in
    let x = c.first_tree-first.result in
    let first = first-is r.0 c.args.plan.now c.args.pool.now f r.1 c.args.step r.2 r.3 r.4 x c.first_tree-first.ensures in
    let outs : c.outputs_of-outputs.result ≡ length r.2.1.outputs = c.outputs_of-outputs.ensures r.2 (step-there r.0 c.args.plan.now c.args.pool.now f r.1 c.args.step r.2 r.3 r.4) in
    subst (λ m. x + m ≤ length (known pool f.outputs)) (sym outs)
    (close-all r.0 c.args.plan.now pool f r.1 c.args.step r.2 kept r.4 c.args.place.now c.args.length r.5 x first).there

pub whole_by_close-whole_from-requires-clause-there : goal.whole_by_close-whole_from-requires-clause-there
whole_by_close-whole_from-requires-clause-there c =
    let r = c.requires.next in
    let f = c.args.self.now in
    let pool = c.reserve.new.pool in
    let kept = keeps-room r.0 c.args.plan.now c.args.pool.now pool f r.1 c.reserve.ensures.regions c.reserve.ensures.known c.reserve.ensures.stand r.3 in
    let first = first-is r.0 c.args.plan.now c.args.pool.now f r.1 c.args.step r.2 r.3 r.4 c.first_tree-first.result c.first_tree-first.ensures in
    close-there r.0 c.args.plan.now pool f r.1 c.args.step r.2 kept r.4 c.args.place.now c.args.length r.5 c.first_tree-first.result first

pub whole_by_close-whole_from-requires-clause-short : goal.whole_by_close-whole_from-requires-clause-short
whole_by_close-whole_from-requires-clause-short c =
    let r = c.requires.next in
    let f = c.args.self.now in
    let pool = c.reserve.new.pool in
    let kept = keeps-room r.0 c.args.plan.now c.args.pool.now pool f r.1 c.reserve.ensures.regions c.reserve.ensures.known c.reserve.ensures.stand r.3 in
    let first = first-is r.0 c.args.plan.now c.args.pool.now f r.1 c.args.step r.2 r.3 r.4 c.first_tree-first.result c.first_tree-first.ensures in
    close-first_short r.0 c.args.plan.now pool f r.1 c.args.step r.2 kept r.4 c.args.place.now c.args.length r.5 c.first_tree-first.result first

pub whole_by_close-whole_from-requires-clause-can : goal.whole_by_close-whole_from-requires-clause-can
whole_by_close-whole_from-requires-clause-can c =
    let r = c.requires.next in
    let f = c.args.self.now in
    let pool = c.reserve.new.pool in
    let kept = keeps-room r.0 c.args.plan.now c.args.pool.now pool f r.1 c.reserve.ensures.regions c.reserve.ensures.known c.reserve.ensures.stand r.3 in
    let first = first-is r.0 c.args.plan.now c.args.pool.now f r.1 c.args.step r.2 r.3 r.4 c.first_tree-first.result c.first_tree-first.ensures in
    close-first_can r.0 c.args.plan.now pool f r.1 c.args.step r.2 kept r.4 c.args.place.now c.args.length r.5 c.first_tree-first.result first

pub hold-requires : goal.hold-requires
hold-requires c =
    let r = c.requires.next in
    let f = c.args.self.now in
    let q = c.args.place.now in
    let size = c.args.length in
    let pool = c.reserve.new.pool in
    let e = closed r.2.0 q size in
    let kept = keeps-room r.0 c.args.plan.now c.args.pool.now pool f r.1 c.reserve.ensures.regions c.reserve.ensures.known c.reserve.ensures.stand r.3 in
    let x = c.first_tree-first.result in
    let first = first-is r.0 c.args.plan.now c.args.pool.now f r.1 c.args.step r.2 r.3 r.4 x c.first_tree-first.ensures in
    let outs : c.outputs_of-outputs.result ≡ length r.2.1.outputs = c.outputs_of-outputs.ensures r.2 (step-there r.0 c.args.plan.now c.args.pool.now f r.1 c.args.step r.2 r.3 r.4) in
    let all = close-all r.0 c.args.plan.now pool f r.1 c.args.step r.2 kept r.4 q size r.5 x first in (
      r.0,
      r.1,
      r.2,
      e,
      kept,
      close-coming r.0 c.args.plan.now pool f r.1 c.args.step r.2 kept r.4 q size r.5 x first c.closed_at-event.result
          (record { place = c.closed_at-event.ensures.place ∙ c.as_slice.ensures; happened = subst (Happens e) (sym c.closed_at-event.ensures.happened) refl })
          (c.closed_at-event.ensures.whole_from ∙ c.whole_by_close-whole_from.ensures)
          (λ i. subst (λ h. HasPiece h i) (sym c.closed_at-event.ensures.happened) tt)
          (counted-closings c.outputs_of-outputs.result (length r.2.1.outputs) outs c.new-faults.result.items c.faults_by_close.new.faults.items c.closed_at-event.result.faults.now c.new-faults.ensures.items (c.closed_at-event.ensures.faults ∙ c.as_slice-2.ensures) q (λ i. close_at q size (tree_in (known pool f.outputs) (x + i)))
          (c.in_ok-faults_by_close.ensures size (subst (λ m. AllCanClose x m q size (depths f.outputs) (known pool f.outputs)) (sym outs) all))),
    )

pub find_outs-requires : goal.find_outs-requires
find_outs-requires c =
    let r = c.requires.next in
    let f = c.args.self.now in
    let q = c.args.place.now in
    let size = c.args.length in
    let pool = c.reserve.new.pool in
    let kept = keeps-room r.0 c.args.plan.now c.args.pool.now pool f r.1 c.reserve.ensures.regions c.reserve.ensures.known c.reserve.ensures.stand r.3 in
    let x = c.first_tree-first.result in
    let first = first-is r.0 c.args.plan.now c.args.pool.now f r.1 c.args.step r.2 r.3 r.4 x c.first_tree-first.ensures in (
      r.0,
      r.1,
      r.2,
      closed r.2.0 q size,
      c.hold.ensures.same r.0 r.1 kept,
      record {
        next = close-next r.0 c.args.plan.now pool f r.1 c.args.step r.2 kept r.4 q size r.5;
        at = r.4;
        named = refl;
        place = refl;
        change = refl;
        turns = close-turns r.0 c.args.plan.now pool f r.1 c.args.step r.2 kept r.4 q size r.5 x first c.whole_by_close-whole_from.result c.whole_by_close-whole_from.ensures;
      },
    )

pub returns-in_err-find_outs-clause-place : goal.returns-in_err-find_outs-clause-place
returns-in_err-find_outs-clause-place c = c.find_outs.ensures.held.place ∙ c.hold.ensures.place

pub returns-clause-place : goal.returns-clause-place
returns-clause-place c = c.find_outs.ensures.held.place ∙ c.hold.ensures.place

pub returns-in_err-jobs-clause-same : goal.returns-in_err-jobs-clause-same
returns-in_err-jobs-clause-same c = λ flows v k.
    c.hold.ensures.same flows v
    (keeps-room flows c.args.plan.now c.args.pool.now c.reserve.new.pool c.args.self.now v c.reserve.ensures.regions c.reserve.ensures.known c.reserve.ensures.stand k)

pub returns-in_err-find_outs-clause-same : goal.returns-in_err-find_outs-clause-same
returns-in_err-find_outs-clause-same c = λ flows v k.
    c.find_outs.ensures.same flows v
    (c.hold.ensures.same flows v
    (keeps-room flows c.args.plan.now c.args.pool.now c.reserve.new.pool c.args.self.now v c.reserve.ensures.regions c.reserve.ensures.known c.reserve.ensures.stand k))

pub returns-clause-same : goal.returns-clause-same
returns-clause-same c = λ flows v k.
    let h = c.find_outs.new.self in
    let plan = c.args.plan.now in
    let pool = c.reserve.new.pool in
    keeps-ahead flows plan pool h v (record h.ahead { faults = c.faults_by_close.new.faults })
    (c.find_outs.ensures.same flows v
    (c.hold.ensures.same flows v
    (keeps-room flows plan c.args.pool.now pool c.args.self.now v c.reserve.ensures.regions c.reserve.ensures.known c.reserve.ensures.stand k)))

pub returns-clause-ready : goal.returns-clause-ready
returns-clause-ready c = λ flows v s k at can.
    let f = c.args.self.now in
    let q = c.args.place.now in
    let size = c.args.length in
    let pool = c.reserve.new.pool in
    let e = closed s.0 q size in
    let kept = keeps-room flows c.args.plan.now c.args.pool.now pool f v c.reserve.ensures.regions c.reserve.ensures.known c.reserve.ensures.stand k in
    let x = c.first_tree-first.result in
    let there = step-there flows c.args.plan.now c.args.pool.now f v c.args.step s k at in
    let first : x ≡ first_tree v.flow.steps c.args.step = first-is flows c.args.plan.now c.args.pool.now f v c.args.step s k at x c.first_tree-first.ensures in
    let many : c.trees_of-trees.result ≡ trees_of s = c.trees_of-trees.ensures s there in
    let outs : c.outputs_of-outputs.result ≡ length s.1.outputs = c.outputs_of-outputs.ensures s there in
    let all = close-all flows c.args.plan.now pool f v c.args.step s kept at q size can x first in
    let next = close-next flows c.args.plan.now pool f v c.args.step s kept at q size can in
    let turns = close-turns flows c.args.plan.now pool f v c.args.step s kept at q size can x first c.whole_by_close-whole_from.result c.whole_by_close-whole_from.ensures in
    let held = c.hold.ensures.same flows v kept in
    worked-ready flows c.args.plan.now pool f c.hold.new.self c.find_outs.new.self v c.args.step s e c.whole_by_close-whole_from.result
    (record {
      keeps = c.find_outs.ensures.same flows v held;
      next = next;
      at = at;
      named = refl;
      room =
          subst (λ y. needed (depths f.outputs) y (trees_of s) ≤ pool.spare) first
          (subst (λ m. needed (depths f.outputs) x m ≤ pool.spare) many c.in_ok-reserve.ensures.ok);
      turns = turns;
      parts = c.hold.ensures.parts;
      held =
          c.in_ok-jobs.ensures.held flows v s e kept
          (close-coming flows c.args.plan.now pool f v c.args.step s kept at q size can x first c.closed_at-event.result
          (record { place = c.closed_at-event.ensures.place ∙ c.as_slice.ensures; happened = subst (Happens e) (sym c.closed_at-event.ensures.happened) refl })
          (c.closed_at-event.ensures.whole_from ∙ c.whole_by_close-whole_from.ensures)
          (λ i. subst (λ h. HasPiece h i) (sym c.closed_at-event.ensures.happened) tt)
          (counted-closings c.outputs_of-outputs.result (length s.1.outputs) outs c.new-faults.result.items c.faults_by_close.new.faults.items c.closed_at-event.result.faults.now c.new-faults.ensures.items (c.closed_at-event.ensures.faults ∙ c.as_slice-2.ensures) q (λ i. close_at q size (tree_in (known pool f.outputs) (x + i)))
          (c.in_ok-faults_by_close.ensures size (subst (λ m. AllCanClose x m q size (depths f.outputs) (known pool f.outputs)) (sym outs) all))));
      whole = c.hold.ensures.whole ∙ ap (λ m. m == 0) c.closed_at-event.ensures.whole_from;
      later = c.find_outs.ensures.parts;
      same = c.find_outs.ensures.held;
      outs =
          c.in_ok-find_outs.ensures.outs flows v s e held
          (record { next = next; at = at; named = refl; place = refl; change = refl; turns = turns });
    })
    (record c.find_outs.new.self.ahead { faults = c.faults_by_close.new.faults }) refl refl
    tt

pub returns-clause-count : goal.returns-clause-count
returns-clause-count c = λ flows v s k at can.
    counts-new flows c.args.plan.now c.reserve.new.pool c.hold.new.self c.find_outs.new.self (record c.find_outs.new.self.ahead { faults = c.faults_by_close.new.faults }) v c.args.step s (closed s.0 c.args.place.now c.args.length) c.find_outs.ensures.held
    (returns-clause-ready c flows v s k at can) c.in_ok-jobs.jobs c.in_ok-jobs.ensures.count
