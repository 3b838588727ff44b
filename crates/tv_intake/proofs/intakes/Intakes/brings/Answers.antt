use Rattle.std.proofs.Common.{◌≡◌, length, ap, sym, arith, ◌∙◌, Some, drop, refl, slice_get, subst}
use Rattle.std.proofs.lemmas.Option.{slice_get_read}
use Rattle.tv_match.specs.Ahead.{in_order_ahead}
use Rattle.tv_intake.specs.Sorting.{jobs_among}
use Rattle.tv_intake.specs.Intaken.{IsSoundAt}
use Rattle.tv_intake.proofs.IntakeLemmas.{ahead-longer, brings-there}
use Rattle.tv_intake.proofs.intakes.Intakes.brings.Goals as goal

pub shown-shown-requires : goal.shown-shown-requires
shown-shown-requires c =
    let m = c.read-matcher.result.now in
    let x = c.index.result.now in
    let ms = c.args.self.now.matchers in
    let there : slice_get ms.items c.args.step ≡ Some m = slice_get_read ms.items (length ms.items) c.args.step x refl (omega (arith, c.requires.step, ms.ok.0)) c.index.ensures ∙ ap Some (sym c.read-matcher.ensures) in
    subst IsSoundAt there (c.requires.sound.sound c.args.step)

pub overflow_sub-result : goal.overflow_sub-result
overflow_sub-result c = let l = ahead-longer c.read-matcher.result.now in let e = c.shown-shown.ensures.order in let f = c.ahead.ensures in omega (arith, l, e, f)

pub returns-clause-all : goal.returns-clause-all
returns-clause-all c =
    let m = c.read-matcher.result.now in
    let x = c.index.result.now in
    let ms = c.args.self.now.matchers in
    let there : slice_get ms.items c.args.step ≡ Some m = slice_get_read ms.items (length ms.items) c.args.step x refl (omega (arith, c.requires.step, ms.ok.0)) c.index.ensures ∙ ap Some (sym c.read-matcher.ensures) in
    let b = ap length (brings-there ms.items c.args.step m there) in
    let l = ahead-longer m in
    let e = c.shown-shown.ensures.order in
    let f = c.ahead.ensures in
    omega (arith, l, e, f, b)

pub returns-clause-jobs : goal.returns-clause-jobs
returns-clause-jobs c =
    let m = c.read-matcher.result.now in
    let x = c.index.result.now in
    let ms = c.args.self.now.matchers in
    let there : slice_get ms.items c.args.step ≡ Some m = slice_get_read ms.items (length ms.items) c.args.step x refl (omega (arith, c.requires.step, ms.ok.0)) c.index.ensures ∙ ap Some (sym c.read-matcher.ensures) in
    c.count_jobs.ensures.exact ∙ ap (λ n. jobs_among (drop n (in_order_ahead m))) c.shown-shown.ensures.order ∙ ap jobs_among (sym (brings-there ms.items c.args.step m there))
