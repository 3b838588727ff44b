use Rattle.std.specs.Prelude.{take}
use Rattle.std.proofs.Common.{◌≡◌, ◌==◌, ◌≤◌, arith, length, refl, ap, sym, subst, ◌∙◌, Some}
use Rattle.tv_outputs.specs.Known.{known}
use Rattle.tv_telling.specs.Views.{HasPiece}
use Rattle.tv_model.specs.instance.Events.{fault_set}
use Rattle.tv_framing.specs.feeds.Seen.{Happens}
use Rattle.tv_frame.proofs.Coming.{counted-arrivals}
use Rattle.tv_frame.proofs.Keeping.{first-is, firsts-within, keeps-ahead, step-there, step-within}
use Rattle.tv_frame.proofs.Passing.{fault-arrives, fault-coming, fault-counted, fault-first_can, fault-first_short, fault-next, fault-there, fault-turns, fault-values}
use Rattle.tv_frame.proofs.Putting.{outputs-few}
use Rattle.tv_frame.proofs.RoomLemmas.{worked-ready}
use Rattle.tv_frame.proofs.frame.Frame.work_fault.Goals as goal

pub first_tree-first-requires : goal.first_tree-first-requires
first_tree-first-requires c =
    let r = c.requires.next in
    let f = c.args.self.now in
    let plan = c.args.plan.now in
    let pool = c.args.pool.now in
    firsts-within r.0 plan pool f r.1 c.args.step r.2 r.4 r.5

pub outputs_of-outputs-requires : goal.outputs_of-outputs-requires
outputs_of-outputs-requires c =
    let r = c.requires.next in
    let f = c.args.self.now in
    let plan = c.args.plan.now in
    let pool = c.args.pool.now in
    step-within r.0 plan pool f r.1 c.args.step r.2 r.4 r.5

pub faults_by_arrival-requires-clause-can : goal.faults_by_arrival-requires-clause-can
faults_by_arrival-requires-clause-can c =
    let r = c.requires.next in
    let f = c.args.self.now in
    let plan = c.args.plan.now in
    let pool = c.args.pool.now in
    let x = c.first_tree-first.result in
    let first = first-is r.0 plan pool f r.1 c.args.step r.2 r.4 r.5 x c.first_tree-first.ensures in
    fault-arrives r.0 plan pool f r.1 c.args.step r.2 r.4 r.5 c.args.place.now r.3 c.args.pieces.now r.6 r.7 x first

pub whole_by_arrival-whole_from-requires-clause-there : goal.whole_by_arrival-whole_from-requires-clause-there
whole_by_arrival-whole_from-requires-clause-there c =
    let r = c.requires.next in
    let f = c.args.self.now in
    let plan = c.args.plan.now in
    let pool = c.args.pool.now in
    let x = c.first_tree-first.result in
    let first = first-is r.0 plan pool f r.1 c.args.step r.2 r.4 r.5 x c.first_tree-first.ensures in
    fault-there r.0 plan pool f r.1 c.args.step r.2 r.4 r.5 c.args.place.now r.3 c.args.pieces.now r.6 r.7 x first

pub whole_by_arrival-whole_from-requires-clause-short : goal.whole_by_arrival-whole_from-requires-clause-short
whole_by_arrival-whole_from-requires-clause-short c =
    let r = c.requires.next in
    let f = c.args.self.now in
    let plan = c.args.plan.now in
    let pool = c.args.pool.now in
    let x = c.first_tree-first.result in
    let first = first-is r.0 plan pool f r.1 c.args.step r.2 r.4 r.5 x c.first_tree-first.ensures in
    fault-first_short r.0 plan pool f r.1 c.args.step r.2 r.4 r.5 c.args.place.now r.3 c.args.pieces.now r.6 r.7 x first

pub whole_by_arrival-whole_from-requires-clause-can : goal.whole_by_arrival-whole_from-requires-clause-can
whole_by_arrival-whole_from-requires-clause-can c =
    let r = c.requires.next in
    let f = c.args.self.now in
    let plan = c.args.plan.now in
    let pool = c.args.pool.now in
    let x = c.first_tree-first.result in
    let first = first-is r.0 plan pool f r.1 c.args.step r.2 r.4 r.5 x c.first_tree-first.ensures in
    fault-first_can r.0 plan pool f r.1 c.args.step r.2 r.4 r.5 c.args.place.now r.3 c.args.pieces.now r.6 r.7 x first

pub first_counts-requires : goal.first_counts-requires
first_counts-requires c =
    let r = c.requires.next in
    let f = c.args.self.now in
    let plan = c.args.plan.now in
    let pool = c.args.pool.now in
    let x = c.first_tree-first.result in
    let first = first-is r.0 plan pool f r.1 c.args.step r.2 r.4 r.5 x c.first_tree-first.ensures in
    let outs : c.outputs_of-outputs.result ≡ length r.2.1.outputs = c.outputs_of-outputs.ensures r.2 (step-there r.0 plan pool f r.1 c.args.step r.2 r.4 r.5) in
    let few = outputs-few (length r.2.1.outputs) in
    let counts = fault-counted r.0 plan pool f r.1 c.args.step r.2 r.4 r.5 c.args.place.now r.3 c.args.pieces.now r.6 r.7 x first c.faults_by_arrival.new.faults.items
    (counted-arrivals c.args.pieces.now c.args.pieces.now refl c.new-faults.result.items c.faults_by_arrival.new.faults.items c.faults_by_arrival.new.faults.items c.new-faults.ensures.items refl c.args.place.now x (known pool f.outputs) c.in_ok-faults_by_arrival.ensures) in
    let enough = counts.0 in
    subst (λ ns. c.outputs_of-outputs.result ≤ length ns) (sym c.as_slice-2.ensures) (omega (arith, outs, few, enough))

pub hold-requires : goal.hold-requires
hold-requires c =
    let r = c.requires.next in
    let f = c.args.self.now in
    let plan = c.args.plan.now in
    let pool = c.args.pool.now in
    let x = c.first_tree-first.result in
    let first = first-is r.0 plan pool f r.1 c.args.step r.2 r.4 r.5 x c.first_tree-first.ensures in
    let e = fault_set r.2.0 c.args.place.now r.3 in
    let outs : c.outputs_of-outputs.result ≡ length r.2.1.outputs = c.outputs_of-outputs.ensures r.2 (step-there r.0 plan pool f r.1 c.args.step r.2 r.4 r.5) in (
      r.0,
      r.1,
      r.2,
      e,
      r.4,
      (fault-coming r.0 plan pool f r.1 c.args.step r.2 r.4 r.5 c.args.place.now r.3 c.args.pieces.now r.6 r.7 x first c.passed_at-event.result
          (record { place = c.passed_at-event.ensures.place ∙ c.as_slice.ensures; happened = subst (Happens e) (sym c.passed_at-event.ensures.happened) tt })
          (λ y. c.whole_by_arrival-whole_from.ensures y ∙ ap Some (sym c.passed_at-event.ensures.whole_from))
          (λ i. subst (λ h. HasPiece h i) (sym c.passed_at-event.ensures.happened) tt)
          c.faults_by_arrival.new.faults.items
          (c.passed_at-event.ensures.faults ∙ c.first_counts.ensures ∙ ap (take c.outputs_of-outputs.result) c.as_slice-2.ensures ∙ ap (λ m. take m c.faults_by_arrival.new.faults.items) outs)
          (counted-arrivals c.args.pieces.now c.args.pieces.now refl c.new-faults.result.items c.faults_by_arrival.new.faults.items c.faults_by_arrival.new.faults.items c.new-faults.ensures.items refl c.args.place.now x (known pool f.outputs) c.in_ok-faults_by_arrival.ensures)),
    )

pub find_outs-requires : goal.find_outs-requires
find_outs-requires c =
    let r = c.requires.next in
    let f = c.args.self.now in
    let plan = c.args.plan.now in
    let pool = c.args.pool.now in
    let x = c.first_tree-first.result in
    let first = first-is r.0 plan pool f r.1 c.args.step r.2 r.4 r.5 x c.first_tree-first.ensures in
    let e = fault_set r.2.0 c.args.place.now r.3 in (
      r.0,
      r.1,
      r.2,
      e,
      c.hold.ensures.same r.0 r.1 r.4,
      record {
        next = fault-next r.0 plan pool f r.1 c.args.step r.2 r.4 r.5 c.args.place.now r.3 c.args.pieces.now r.6 r.7;
        at = r.5;
        named = refl;
        place = refl;
        change = (r.7.sound, fault-values r.0 plan pool f r.1 c.args.step r.2 r.4 r.5 c.args.place.now r.3 c.args.pieces.now r.6 r.7);
        turns = fault-turns r.0 plan pool f r.1 c.args.step r.2 r.4 r.5 c.args.place.now r.3 c.args.pieces.now r.6 r.7 x first c.whole_by_arrival-whole_from.result c.whole_by_arrival-whole_from.ensures;
      },
    )

pub returns-clause-same : goal.returns-clause-same
returns-clause-same c = λ flows v k.
    let h = c.find_outs.new.self in
    keeps-ahead flows c.args.plan.now c.args.pool.now h v (record h.ahead { faults = c.faults_by_arrival.new.faults })
    (c.find_outs.ensures.same flows v (c.hold.ensures.same flows v k))

pub returns-clause-ready : goal.returns-clause-ready
returns-clause-ready c = λ flows v s d k at can passed room.
    let f = c.args.self.now in
    let plan = c.args.plan.now in
    let pool = c.args.pool.now in
    let q = c.args.place.now in
    let ps = c.args.pieces.now in
    let e = fault_set s.0 q d in
    let x = c.first_tree-first.result in
    let first = first-is flows plan pool f v c.args.step s k at x c.first_tree-first.ensures in
    let outs : c.outputs_of-outputs.result ≡ length s.1.outputs = c.outputs_of-outputs.ensures s (step-there flows plan pool f v c.args.step s k at) in
    let next = fault-next flows plan pool f v c.args.step s k at q d ps can passed in
    let turns = fault-turns flows plan pool f v c.args.step s k at q d ps can passed x first c.whole_by_arrival-whole_from.result c.whole_by_arrival-whole_from.ensures in
    let held = c.hold.ensures.same flows v k in
    worked-ready flows plan pool f c.hold.new.self c.find_outs.new.self v c.args.step s e c.whole_by_arrival-whole_from.result
    (record {
      keeps = c.find_outs.ensures.same flows v held;
      next = next;
      at = at;
      named = refl;
      room = room;
      turns = turns;
      parts = c.hold.ensures.parts;
      held =
          c.in_ok-jobs.ensures.held flows v s e k
          (fault-coming flows plan pool f v c.args.step s k at q d ps can passed x first c.passed_at-event.result
          (record { place = c.passed_at-event.ensures.place ∙ c.as_slice.ensures; happened = subst (Happens e) (sym c.passed_at-event.ensures.happened) tt })
          (λ y. c.whole_by_arrival-whole_from.ensures y ∙ ap Some (sym c.passed_at-event.ensures.whole_from))
          (λ i. subst (λ h. HasPiece h i) (sym c.passed_at-event.ensures.happened) tt)
          c.faults_by_arrival.new.faults.items
          (c.passed_at-event.ensures.faults ∙ c.first_counts.ensures ∙ ap (take c.outputs_of-outputs.result) c.as_slice-2.ensures ∙ ap (λ m. take m c.faults_by_arrival.new.faults.items) outs)
          (counted-arrivals c.args.pieces.now c.args.pieces.now refl c.new-faults.result.items c.faults_by_arrival.new.faults.items c.faults_by_arrival.new.faults.items c.new-faults.ensures.items refl c.args.place.now x (known pool f.outputs) c.in_ok-faults_by_arrival.ensures));
      whole = c.hold.ensures.whole ∙ ap (λ m. m == 0) c.passed_at-event.ensures.whole_from;
      later = c.find_outs.ensures.parts;
      same = c.find_outs.ensures.held;
      outs =
          c.in_ok-find_outs.ensures.outs flows v s e held
          (record {
            next = next;
            at = at;
            named = refl;
            place = refl;
            change = (passed.sound, fault-values flows plan pool f v c.args.step s k at q d ps can passed);
            turns = turns;
          });
    })
    (record c.find_outs.new.self.ahead { faults = c.faults_by_arrival.new.faults }) refl refl
    (fault-counted flows plan pool f v c.args.step s k at q d ps can passed x first c.faults_by_arrival.new.faults.items
    (counted-arrivals c.args.pieces.now c.args.pieces.now refl c.new-faults.result.items c.faults_by_arrival.new.faults.items c.faults_by_arrival.new.faults.items c.new-faults.ensures.items refl c.args.place.now x (known pool f.outputs) c.in_ok-faults_by_arrival.ensures))
