use Rattle.std.proofs.Common.{refl, sym, subst, ◌∙◌}
use Rattle.tv_intake.specs.Intaken.{AreIntaken, HasRoom}
use Rattle.tv_frame.proofs.EventLemmas.{show-ready, turn-ready}
use Rattle.tv_frame.proofs.Settling.{fault-arrives, fault-goes, fault-marked, fault-room, fault-sound, left, list-closes, list-goes, list-room, prepared-then, settle-reads, settle-turns}
use Rattle.tv_frame.proofs.frame.Frame.settle.Goals as goal

pub first_tree-first-requires : goal.first_tree-first-requires
first_tree-first-requires c =
    let r = c.requires.ready in
    let w = c.waiting_at-step.result in
    settle-reads r.0 c.args.plan.now c.args.pool.now c.args.self.now r.1 r.2 r.3 r.4 r.5 c.waiting.result w.0 w.1.now w.2 c.waiting.ensures c.waiting_at-step.ensures

pub close-requires-clause-can : goal.close-requires-clause-can
close-requires-clause-can c =
    let r = c.requires.ready in
    let w = c.waiting_at-step.result in
    list-closes r.0 c.args.plan.now c.args.pool.now c.args.self.now r.1 r.2 r.3 r.4 r.5 c.waiting.result w.0 w.1.now w.2 c.waiting.ensures c.waiting_at-step.ensures c.first_tree-first.result c.first_tree-first.ensures c.in-Closed.length c.in-Closed.is c.in-Some.place
    (sym c.in-Some.is ∙ c.take.ensures.value) c.trees_of-trees.result c.trees_of-trees.ensures

pub close-requires-clause-room : goal.close-requires-clause-room
close-requires-clause-room c =
    let r = c.requires.ready in
    let w = c.waiting_at-step.result in
    list-room r.0 c.args.plan.now c.args.pool.now c.args.self.now r.1 r.2 r.3 r.4 r.5 c.waiting.result w.0 w.1.now w.2 c.waiting.ensures c.waiting_at-step.ensures c.first_tree-first.result c.first_tree-first.ensures c.in-Closed.length c.in-Closed.is c.in-Some.place
    (sym c.in-Some.is ∙ c.take.ensures.value) c.trees_of-trees.result c.trees_of-trees.ensures

pub show-requires-clause-ready : goal.show-requires-clause-ready
show-requires-clause-ready c =
    let r = c.requires.ready in
    let f = c.args.self.now in
    let w = c.waiting_at-step.result in
    show-ready f (record f { intakes = c.settle_last.new.self })
    (left r.0 c.args.plan.now c.args.pool.now f r.1 r.2 r.3 r.4 r.5 c.waiting.result w.0 w.1.now w.2 c.waiting.ensures c.waiting_at-step.ensures)
    (record {
      region = refl;
      tables = refl;
      inputs = refl;
      faulty_inputs = refl;
      matchers = c.settle_last.ensures.matchers;
      jobs = c.settle_last.ensures.jobs;
      waits = c.settle_last.ensures.waiting;
      idle = refl;
      endings = refl;
      spread = refl;
      whole = refl;
      outs_ahead = refl;
      outs = refl;
    })
    r.5.ready.show c.settle_last.ensures.room

pub show-requires-clause-ends : goal.show-requires-clause-ends
show-requires-clause-ends c =
    let r = c.requires.ready in
    let w = c.waiting_at-step.result in
    settle-turns r.0 c.args.plan.now c.args.pool.now c.args.self.now r.1 r.2 r.3 r.4 r.5 c.waiting.result w.0 w.1.now w.2 c.waiting.ensures c.waiting_at-step.ensures

pub put-requires : goal.put-requires
put-requires c =
    let r = c.requires.ready in
    let f = c.args.self.now in
    let w = c.waiting_at-step.result in
    let taken = sym c.in-Some.is ∙ c.take.ensures.value in
    let aside = sym c.in-Some-take.is ∙ c.take-in_default-kind.ensures.value in
    record {
      live = r.5.ready.keeps.live;
      stand = r.5.ready.keeps.stand;
      can = fault-arrives r.0 c.args.plan.now c.args.pool.now f r.1 r.2 r.3 r.4 r.5 c.waiting.result w.0 w.1.now w.2 c.waiting.ensures c.waiting_at-step.ensures c.first_tree-first.result c.first_tree-first.ensures c.in_default-kind.not-Closed c.in-Some.place taken c.in-Some-take.pieces aside;
      sound = fault-sound r.0 c.args.plan.now c.args.pool.now f r.1 r.2 r.3 r.4 r.5 c.waiting.result w.0 w.1.now w.2 c.waiting.ensures c.waiting_at-step.ensures c.first_tree-first.result c.first_tree-first.ensures c.in_default-kind.not-Closed c.in-Some.place taken c.in-Some-take.pieces aside;
      marked = fault-marked r.0 c.args.plan.now c.args.pool.now f r.1 r.2 r.3 r.4 r.5 c.waiting.result w.0 w.1.now w.2 c.waiting.ensures c.waiting_at-step.ensures c.first_tree-first.result c.first_tree-first.ensures c.in_default-kind.not-Closed c.in-Some.place taken c.in-Some-take.pieces aside;
      room = fault-room r.0 c.args.plan.now c.args.pool.now f r.1 r.2 r.3 r.4 r.5 c.waiting.result w.0 w.1.now w.2 c.waiting.ensures c.waiting_at-step.ensures c.first_tree-first.result c.first_tree-first.ensures c.in_default-kind.not-Closed c.in-Some.place taken c.in-Some-take.pieces aside;
    }

pub show-requires-in_default-kind : goal.show-requires-in_default-kind
show-requires-in_default-kind c =
    let r = c.requires.ready in
    let f = c.args.self.now in
    let w = c.waiting_at-step.result in
    let waits = left r.0 c.args.plan.now c.args.pool.now f r.1 r.2 r.3 r.4 r.5 c.waiting.result w.0 w.1.now w.2 c.waiting.ensures c.waiting_at-step.ensures in
    let prepared =
    (prepared-then f _ c.put.new.self
    (waits)
    c.put.ensures.others
    (record {
      region = refl;
      tables = refl;
      inputs = refl;
      faulty_inputs = refl;
      matchers = c.settle_last.ensures.matchers;
      jobs = c.settle_last.ensures.jobs;
      waits = c.settle_last.ensures.waiting;
      idle = refl;
      endings = refl;
      spread = refl;
      whole = refl;
      outs_ahead = refl;
      outs = refl;
    }))
    in
    record {
      intaken = subst AreIntaken (sym c.put.ensures.others.intakes) c.settle_last.ensures.sound;
      ready = show-ready f c.put.new.self waits prepared r.5.ready.show (λ m h. subst (HasRoom m) (sym c.put.ensures.others.intakes) (c.settle_last.ensures.room m h));
      ends =
          turn-ready f c.put.new.self waits prepared c.args.plan.now.wiring w.0
          (settle-turns r.0 c.args.plan.now c.args.pool.now f r.1 r.2 r.3 r.4 r.5 c.waiting.result w.0 w.1.now w.2 c.waiting.ensures c.waiting_at-step.ensures);
    }

pub returns-in-Closed-clause-goes_on : goal.returns-in-Closed-clause-goes_on
returns-in-Closed-clause-goes_on c = λ flows v n s e h.
    let w = c.waiting_at-step.result in
    list-goes flows c.args.plan.now c.args.pool.now c.args.self.now v n s e h c.waiting.result w.0 w.1.now w.2 c.waiting.ensures c.waiting_at-step.ensures c.first_tree-first.result c.first_tree-first.ensures c.in-Closed.length c.in-Closed.is c.in-Some.place
    (sym c.in-Some.is ∙ c.take.ensures.value) c.trees_of-trees.result c.trees_of-trees.ensures
    c.close.new.pool _ c.show.new.self c.show.ensures
    (record {
      region = refl;
      tables = refl;
      inputs = refl;
      faulty_inputs = refl;
      matchers = c.settle_last.ensures.matchers;
      jobs = c.settle_last.ensures.jobs;
      waits = c.settle_last.ensures.waiting;
      idle = refl;
      endings = refl;
      spread = refl;
      whole = refl;
      outs_ahead = refl;
      outs = refl;
    })
    c.close.ensures.kept c.close.ensures.stand c.close.ensures.depths c.close.ensures.known

pub returns-in-Some-take : goal.returns-in-Some-take
returns-in-Some-take c = record {
  goes_on = λ flows v n s e h.
      let f = c.args.self.now in
      let w = c.waiting_at-step.result in
      let taken = sym c.in-Some.is ∙ c.take.ensures.value in
      let aside = sym c.in-Some-take.is ∙ c.take-in_default-kind.ensures.value in
      fault-goes flows c.args.plan.now c.args.pool.now f v n s e h c.waiting.result w.0 w.1.now w.2 c.waiting.ensures c.waiting_at-step.ensures c.first_tree-first.result c.first_tree-first.ensures c.in_default-kind.not-Closed c.in-Some.place taken c.in-Some-take.pieces aside
      c.put.new.pool c.put.new.self c.show-in_default-kind.new.self c.show-in_default-kind.ensures
      (prepared-then f _ c.put.new.self
      (left flows c.args.plan.now c.args.pool.now f v n s e h c.waiting.result w.0 w.1.now w.2 c.waiting.ensures c.waiting_at-step.ensures)
      c.put.ensures.others
      (record {
        region = refl;
        tables = refl;
        inputs = refl;
        faulty_inputs = refl;
        matchers = c.settle_last.ensures.matchers;
        jobs = c.settle_last.ensures.jobs;
        waits = c.settle_last.ensures.waiting;
        idle = refl;
        endings = refl;
        spread = refl;
        whole = refl;
        outs_ahead = refl;
        outs = refl;
      }))
      c.put.ensures.regions c.put.ensures.stand c.put.ensures.depths c.put.ensures.known;
  regions = c.put.ensures.regions;
  region = c.show-in_default-kind.ensures.region ∙ c.put.ensures.others.region;
}
