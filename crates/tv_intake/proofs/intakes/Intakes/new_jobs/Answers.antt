use Rattle.std.proofs.Common.{◌≡◌, length, ap, sym, arith, ◌∙◌, Some, drop, not, refl, slice_get, subst}
use Rattle.std.specs.Prelude.{count_by}
use Rattle.std.proofs.lemmas.Option.{slice_get_read}
use Rattle.tv_match.specs.Ahead.{in_order_ahead}
use Rattle.tv_intake.specs.Sorting.{faulty_ahead, job_places}
use Rattle.tv_intake.specs.Intaken.{CanShow, IsSoundAt, faulty_ahead_at}
use Rattle.tv_intake.proofs.IntakeLemmas.{brings-there, shown-within}
use Rattle.tv_intake.proofs.intakes.Intakes.new_jobs.Goals as goal

pub index-requires : goal.index-requires
index-requires c = let ms = c.args.self.now.matchers in omega (arith, shown-within ms.items c.args.step c.requires.can, ms.ok.0)

pub shown-requires : goal.shown-requires
shown-requires c =
    let m = c.read-matcher.result.now in
    let x = c.index.result.now in
    let ms = c.args.self.now.matchers in
    let there : slice_get ms.items c.args.step ≡ Some m = slice_get_read ms.items (length ms.items) c.args.step x refl (shown-within ms.items c.args.step c.requires.can) c.index.ensures ∙ ap Some (sym c.read-matcher.ensures) in
    subst IsSoundAt there (c.requires.sound.sound c.args.step)

pub count_each-requires : goal.count_each-requires
count_each-requires c =
    let m = c.read-matcher.result.now in
    let x = c.index.result.now in
    let ms = c.args.self.now.matchers in
    let there : slice_get ms.items c.args.step ≡ Some m = slice_get_read ms.items (length ms.items) c.args.step x refl (shown-within ms.items c.args.step c.requires.can) c.index.ensures ∙ ap Some (sym c.read-matcher.ensures) in
    record { sound = subst IsSoundAt there (c.requires.sound.sound c.args.step); can = subst CanShow there c.requires.can }

pub returns-clause-good : goal.returns-clause-good
returns-clause-good c =
    let m = c.read-matcher.result.now in
    let x = c.index.result.now in
    let ms = c.args.self.now.matchers in
    let there : slice_get ms.items c.args.step ≡ Some m = slice_get_read ms.items (length ms.items) c.args.step x refl (shown-within ms.items c.args.step c.requires.can) c.index.ensures ∙ ap Some (sym c.read-matcher.ensures) in
    c.count_each.ensures.good
    ∙ ap (λ n. count_by (λ q. not (faulty_ahead m q)) (job_places (drop n (in_order_ahead m)))) c.shown.ensures.order
    ∙ (λ i. count_by (λ q. not (faulty_ahead_at (sym there i) q)) (job_places (sym (brings-there ms.items c.args.step m there) i)))

pub returns-clause-faulty : goal.returns-clause-faulty
returns-clause-faulty c =
    let m = c.read-matcher.result.now in
    let x = c.index.result.now in
    let ms = c.args.self.now.matchers in
    let there : slice_get ms.items c.args.step ≡ Some m = slice_get_read ms.items (length ms.items) c.args.step x refl (shown-within ms.items c.args.step c.requires.can) c.index.ensures ∙ ap Some (sym c.read-matcher.ensures) in
    c.count_each.ensures.faulty
    ∙ ap (λ n. count_by (faulty_ahead m) (job_places (drop n (in_order_ahead m)))) c.shown.ensures.order
    ∙ (λ i. count_by (faulty_ahead_at (sym there i)) (job_places (sym (brings-there ms.items c.args.step m there) i)))
