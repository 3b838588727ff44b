use Rattle.std.proofs.Common.{◌≡◌, ◌<◌, ◌+◌, ◌++◌, ◌∷◌, [], drop, take, length, get_or, ap, sym, subst, ◌∙◌}
use Rattle.tv_intake.specs.Intaken.{known_jobs}
use Rattle.tv_spread.specs.Spreads.{is_faulty_now, with_all_new}
use Rattle.tv_spread.proofs.Lists.{drop-at, take-at}
use Rattle.tv_spread.proofs.AddingLemmas.{Adding}
use Rattle.tv_spread.proofs.Showing.{Showing, Shows, can-add, showing-more, showing-none}
use Rattle.tv_spread.proofs.spread.Spread.show.Goals as goal

pub loop-step-init : goal.loop-step-init
loop-step-init c = showing-none c.args.intakes.now c.args.idle.now c.args.self.now.touched.items c.requires.sound c.requires.ready

pub add_known-requires : goal.add_known-requires
add_known-requires c =
    let i = c.loop-step.step-index in
    let items = c.deref-step-items.result.now in
    let cs = c.args.self.now.touched.items in
    let step = get_or items i 0 in
    let at : get_or cs i 0 ≡ step = ap (λ l. get_or l i 0) (sym c.deref-step-items.ensures.value) in
    let lt : i < length cs = subst (λ l. i < length l) c.deref-step-items.ensures.value c.loop-step-test.true in
    let rest : drop i cs ≡ step ∷ drop (i + 1) cs = drop-at cs i 0 lt ∙ ap (λ d. d ∷ drop (i + 1) cs) at in
    let j = c.loop-step.intakes in
    let k = c.show.new.self in
    let e = c.show.ensures in
    let shows : Shows step j k = record { made = e.made; others = e.others; jobs = e.jobs; waiting = e.waiting; room = e.room; intaken = e.sound } in
    let v = subst (Showing c.args.intakes.now j c.args.idle.now c.loop-step.idle (take i cs)) rest c.loop-step.invariant in
    let a = subst (λ n. Adding (is_faulty_now k) step (drop n (known_jobs k)) c.loop-step.idle) (sym c.known-known.ensures) (can-add step j k shows (drop (i + 1) cs) c.loop-step.idle v.ready) in
    record { sound = e.sound; within = a.within; places = a.places; good = a.good; faulty = a.faulty; numbers = a.numbers }

pub loop-step-preserved : goal.loop-step-preserved
loop-step-preserved c =
    let i = c.loop-step.step-index in
    let items = c.deref-step-items.result.now in
    let cs = c.args.self.now.touched.items in
    let step = get_or items i 0 in
    let at : get_or cs i 0 ≡ step = ap (λ l. get_or l i 0) (sym c.deref-step-items.ensures.value) in
    let lt : i < length cs = subst (λ l. i < length l) c.deref-step-items.ensures.value c.loop-step-test.true in
    let rest : drop i cs ≡ step ∷ drop (i + 1) cs = drop-at cs i 0 lt ∙ ap (λ d. d ∷ drop (i + 1) cs) at in
    let j = c.loop-step.intakes in
    let k = c.show.new.self in
    let e = c.show.ensures in
    let shows : Shows step j k = record { made = e.made; others = e.others; jobs = e.jobs; waiting = e.waiting; room = e.room; intaken = e.sound } in
    let v = subst (Showing c.args.intakes.now j c.args.idle.now c.loop-step.idle (take i cs)) rest c.loop-step.invariant in
    let after = c.add_known.new.idle in
    let added : after ≡ with_all_new (is_faulty_now k) (drop (length (known_jobs j)) (known_jobs k)) c.loop-step.idle =
    c.add_known.ensures ∙ ap (λ n. with_all_new (is_faulty_now k) (drop n (known_jobs k)) c.loop-step.idle) c.known-known.ensures in
    subst (λ ds. Showing c.args.intakes.now k c.args.idle.now after ds (drop (i + 1) cs)) (sym (take-at cs i 0 lt ∙ ap (λ d. take i cs ++ d ∷ []) at))
    (showing-more c.args.intakes.now j k c.args.idle.now c.loop-step.idle after (take i cs) step (drop (i + 1) cs) v shows added)
