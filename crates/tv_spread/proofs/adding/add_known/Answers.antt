use Rattle.std.proofs.Common.{◌≡◌, ◌+◌, ℕ, drop, ap, sym, subst, ◌∙◌}
use Rattle.tv_value.specs.Nested.{Place}
use Rattle.tv_intake.specs.Intaken.{known_jobs}
use Rattle.tv_intake.proofs.SortingLemmas.{drop-next}
use Rattle.tv_spread.specs.Spreads.{is_faulty_now, with_all_new, with_new}
use Rattle.tv_spread.proofs.AddingLemmas.{Adding, added-is, adding-more, room-here, told-faulty}
use Rattle.tv_spread.proofs.adding.add_known.Goals as goal

pub loop-number-init : goal.loop-number-init
loop-number-init c =
    let r = c.requires in
    record {
      end_is = c.known-number-end.ensures;
      adding = record { within = r.within; places = r.places; good = r.good; faulty = r.faulty; numbers = r.numbers };
      same = λ i. with_all_new (is_faulty_now c.args.intakes.now) (drop c.args.from (known_jobs c.args.intakes.now)) c.args.idle.now;
    }

pub add-number-requires-clause-levels : goal.add-number-requires-clause-levels
add-number-requires-clause-levels c =
    let i = c.args.intakes.now in
    let n = c.loop-number.number in
    let x : ℕ × Place = (c.job-step.result.0, c.job-step.result.1.now) in
    let here = drop-next (known_jobs i) n x c.job-step.ensures.job in
    let a = subst (λ xs. Adding (is_faulty_now i) c.args.step xs c.loop-number.idle) here c.loop-number.invariant.adding in
    a.places.0.1

pub add-number-requires-clause-step_room : goal.add-number-requires-clause-step_room
add-number-requires-clause-step_room c =
    let i = c.args.intakes.now in
    let n = c.loop-number.number in
    let x : ℕ × Place = (c.job-step.result.0, c.job-step.result.1.now) in
    let here = drop-next (known_jobs i) n x c.job-step.ensures.job in
    let a = subst (λ xs. Adding (is_faulty_now i) c.args.step xs c.loop-number.idle) here c.loop-number.invariant.adding in
    room-here (is_faulty_now i) c.args.step x (drop (n + 1) (known_jobs i)) c.loop-number.idle a c.job-step.result.2 (told-faulty i x c.job-step.result.2 c.job-step.ensures.faulty)

pub loop-number-preserved : goal.loop-number-preserved
loop-number-preserved c =
    let i = c.args.intakes.now in
    let f = is_faulty_now i in
    let n = c.loop-number.number in
    let s = c.args.step in
    let v = c.loop-number.invariant in
    let idle = c.loop-number.idle in
    let new = c.add-number.new.self in
    let x : ℕ × Place = (c.job-step.result.0, c.job-step.result.1.now) in
    let rest = drop (n + 1) (known_jobs i) in
    let here = drop-next (known_jobs i) n x c.job-step.ensures.job in
    let a = subst (λ xs. Adding f s xs idle) here v.adding in
    let e = c.add-number.ensures in
    let is : new ≡ with_new f x idle = added-is f s x rest idle a c.job-step.result.2 (told-faulty i x c.job-step.result.2 c.job-step.ensures.faulty) new e.steps e.known e.room in
    record {
      end_is = v.end_is;
      adding = subst (Adding f s rest) (sym is) (adding-more f s x rest idle a);
      same = ap (with_all_new f rest) is ∙ ap (λ xs. with_all_new f xs idle) (sym here) ∙ v.same;
    }
