use Rattle.std.proofs.Common.{◌≡◌, ◌++◌, true, false, Some, map, get_or, slice_get, ap, sym, subst, ◌∙◌}
use Rattle.std.specs.Prelude.{filter}
use Rattle.std.proofs.lemmas.Option.{get_or_from_slice_get, slice_get_within}
use Rattle.tv_lemmas.specs.Members.{Each}
use Rattle.tv_matching.specs.Items.{if_so}
use Rattle.tv_telling.specs.declared.ways.Way.{Way}
use Rattle.tv_telling.specs.Views.{HasOutput}
use Rattle.tv_check.specs.declared.wires.Wire.{Wire}
use Rattle.tv_intake.specs.Intaken.{CanShow, matcher_at}
use Rattle.tv_telling.specs.Along.{is_walked, way_of}
use Rattle.tv_spread.specs.Arounds.{tellings_by, tells_some, told_at, ways_at}
use Rattle.tv_spread.specs.Spreads.{CanHoldThese, HoldsAt}
use Rattle.tv_spread.proofs.Holding.{Telling, can-hold, hold-told, no-first, not-yet, telling-more, telling-none, there, told-all, ways-here}
use Rattle.tv_spread.proofs.Told.{ways-have}
use Rattle.tv_spread.proofs.spread.Spread.tell_all.Goals as goal

pub loop-first-init : goal.loop-first-init
loop-first-init c =
    telling-none c.args.around.now c.args.step c.args.event.now c.requires.around c.args.intakes.now c.clear.new.self.items c.wires_along-rest.result.now
    c.clear.ensures.items c.wires_along-rest.ensures c.requires.sound

pub find-requires-clause-to : goal.find-requires-clause-to
find-requires-clause-to c =
    let rest = c.loop-first.rest.now in
    let w = c.in-Some.first.now in
    let got : slice_get rest 0 ≡ Some w = sym c.in-Some.ensures.value in
    let first : (get_or rest 0 w).step ≡ w.step = ap (λ (x : Wire). x.step) (get_or_from_slice_get rest 0 w w got) in
    there c.args.around.now c.args.step c.args.event.now c.requires.around c.args.intakes.now c.loop-first.intakes c.loop-first.self.touched.items rest c.loop-first.invariant
    w.step c.run_length.result w (slice_get_within rest 0 w got) first c.run_length.ensures.run c.run_length.ensures.rest

pub find-requires-clause-wires : goal.find-requires-clause-wires
find-requires-clause-wires c =
    let rest = c.loop-first.rest.now in
    let w = c.in-Some.first.now in
    let got : slice_get rest 0 ≡ Some w = sym c.in-Some.ensures.value in
    let first : (get_or rest 0 w).step ≡ w.step = ap (λ (x : Wire). x.step) (get_or_from_slice_get rest 0 w w got) in
    ap (λ l. map way_of (filter is_walked l)) c.split_at.ensures.front
    ∙ ways-here c.args.around.now c.args.step c.args.event.now c.requires.around c.args.intakes.now c.loop-first.intakes c.loop-first.self.touched.items rest c.loop-first.invariant
    w.step c.run_length.result w (slice_get_within rest 0 w got) first c.run_length.ensures.run c.run_length.ensures.rest

pub hold_found-requires-clause-outputs : goal.hold_found-requires-clause-outputs
hold_found-requires-clause-outputs c =
    subst (Each (λ (w : Way). HasOutput c.args.event.now w.output)) (sym c.in_ok-find.ensures.ways)
    (ways-have c.args.around.now c.args.step c.args.event.now c.requires.around c.in-Some.first.now.step)

pub hold_found-requires-clause-can : goal.hold_found-requires-clause-can
hold_found-requires-clause-can c =
    let a = c.args.around.now in
    let s = c.args.step in
    let e = c.args.event.now in
    let j = c.loop-first.intakes in
    let rest = c.loop-first.rest.now in
    let w = c.in-Some.first.now in
    let got : slice_get rest 0 ≡ Some w = sym c.in-Some.ensures.value in
    let first : (get_or rest 0 w).step ≡ w.step = ap (λ (x : Wire). x.step) (get_or_from_slice_get rest 0 w w got) in
    let same = not-yet a s e c.requires.around c.args.intakes.now j c.loop-first.self.touched.items rest c.loop-first.invariant w.step c.run_length.result w (slice_get_within rest 0 w got) first c.run_length.ensures.run c.run_length.ensures.rest in
    subst (λ ws. tells_some ws c.find.new.self.whole.items ≡ true → CanHoldThese (tellings_by e ws c.find.new.self.whole.items) (matcher_at j w.step)) (sym c.in_ok-find.ensures.ways)
    (subst (λ os. tells_some (ways_at a s w.step) os ≡ true → CanHoldThese (tellings_by e (ways_at a s w.step) os) (matcher_at j w.step)) (sym c.in_ok-find.ensures.whole)
    (λ told. subst (CanHoldThese (told_at a s e w.step)) (sym same) (can-hold a s e c.requires.around w.step (matcher_at c.args.intakes.now w.step) (c.requires.can w.step told))))

pub loop-first-preserved : goal.loop-first-preserved
loop-first-preserved c =
    let a = c.args.around.now in
    let s = c.args.step in
    let e = c.args.event.now in
    let j = c.loop-first.intakes in
    let k = c.hold_found.new.intakes in
    let rest = c.loop-first.rest.now in
    let w = c.in-Some.first.now in
    let before = c.loop-first.self.touched.items in
    let after = c.hold_found.new.self.touched.items in
    let got : slice_get rest 0 ≡ Some w = sym c.in-Some.ensures.value in
    let first : (get_or rest 0 w).step ≡ w.step = ap (λ (x : Wire). x.step) (get_or_from_slice_get rest 0 w w got) in
    let ways = c.in_ok-find.ensures.ways in
    let whole = c.in_ok-find.ensures.whole in
    let h = c.in_ok-hold_found.ensures in
    let os = c.find.new.self.whole.items in
    let here = ways_at a s w.step in
    subst (Telling a s e c.args.intakes.now k after) (sym c.split_at.ensures.back)
    (telling-more a s e c.requires.around c.args.intakes.now j before rest c.loop-first.invariant w.step c.run_length.result w (slice_get_within rest 0 w got) first c.run_length.ensures.run c.run_length.ensures.rest k after
    (record {
      touched = h.touched ∙ (λ n. (c.find.ensures.touched n).items ++ if_so (tells_some (ways n) (whole n)) w.step);
      held =
          subst (λ x. tells_some here x ≡ true → HoldsAt (tellings_by e here x) (matcher_at j w.step) (matcher_at k w.step)) whole
          (subst (λ x. tells_some x os ≡ true → HoldsAt (tellings_by e x os) (matcher_at j w.step) (matcher_at k w.step)) ways h.held);
      can =
          subst (λ x. tells_some here x ≡ true → CanShow (matcher_at k w.step)) whole
          (subst (λ x. tells_some x os ≡ true → CanShow (matcher_at k w.step)) ways h.can);
      same =
          subst (λ x. tells_some here x ≡ false → matcher_at k w.step ≡ matcher_at j w.step) whole
          (subst (λ x. tells_some x os ≡ false → matcher_at k w.step ≡ matcher_at j w.step) ways h.same);
      stays = h.stays;
      others = h.others;
      jobs = h.jobs;
      waiting = h.waiting;
      intaken = h.intaken;
    }))

pub returns-clause-touched : goal.returns-clause-touched
returns-clause-touched c =
    let rest = c.loop-first.rest.now in
    told-all c.args.around.now c.args.step c.args.event.now c.requires.around c.args.intakes.now c.loop-first.intakes c.loop-first.self.touched.items rest c.loop-first.invariant
    (no-first c.first.result rest c.first.ensures.value c.in_default.not-Some)

pub returns-clause-held : goal.returns-clause-held
returns-clause-held c =
    let rest = c.loop-first.rest.now in
    hold-told c.args.around.now c.args.step c.args.event.now c.requires.around c.args.intakes.now c.loop-first.intakes c.loop-first.self.touched.items rest c.loop-first.invariant
    (no-first c.first.result rest c.first.ensures.value c.in_default.not-Some)
