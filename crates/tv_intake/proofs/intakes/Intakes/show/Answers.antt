use Rattle.std.proofs.Common.{◌≡◌, ◌++◌, length, map, ap, sym, subst, arith, ◌∙◌, Some, drop, refl, slice_get, slice_set}
use Rattle.std.proofs.lemmas.Option.{get_or_from_slice_get, slice_get_read}
use Rattle.tv_match.specs.declared.matchers.Matcher.{Matcher}
use Rattle.tv_match.specs.Ahead.{in_order_ahead}
use Rattle.tv_match.specs.Seen.{IsSound, in_order}
use Rattle.tv_intake.specs.Sorting.{brought, found_jobs, found_others, job_places, others_among}
use Rattle.tv_intake.specs.Intaken.{AreSorted, IsSoundAt, followed_in, placed, thing_in}
use Rattle.tv_intake.proofs.IntakeLemmas.{ahead-longer, ahead-parts, brings-there, jobs-grow, placed-there, set-grown, set-sound, shown-within, sorted-grows, waiting-grows, new-found, new-others_found}
use Rattle.tv_intake.proofs.intakes.Intakes.show.Goals as goal

pub shown-shown-requires : goal.shown-shown-requires
shown-shown-requires c =
    let ms = c.args.self.now.matchers.items in
    let m = c.index_mut-matcher.result.now in
    let s = c.args.step in
    let there : slice_get ms s ≡ Some m = slice_get_read ms (length ms) s m refl (shown-within ms s c.requires.can) c.index_mut-matcher.ensures.value in
    subst (λ (y : Matcher). IsSound y) (sym c.read.ensures) (subst IsSoundAt there (c.requires.sound.sound s))

pub returns-clause-jobs : goal.returns-clause-jobs
returns-clause-jobs c =
    let i = c.args.self.now in
    let ms = i.matchers.items in
    let m = c.index_mut-matcher.result.now in
    let n = c.tell_held.new.self in
    let s = c.args.step in
    let order = c.shown-shown.ensures.order ∙ ap (λ (y : Matcher). length (in_order y)) c.read.ensures in
    let there : slice_get ms s ≡ Some m = slice_get_read ms (length ms) s m refl (shown-within ms s c.requires.can) c.index_mut-matcher.ensures.value in
    let grown = set-grown ms s m n there (brought m) (c.tell_held.ensures.order ∙ sym (ahead-parts m)) in
    ap (map (λ f. placed (thing_in (slice_set ms s n) f))) (c.sort_from.ensures.jobs ∙ ap (λ (y : Matcher). i.jobs.items ++ found_jobs s c.shown-shown.result (drop c.shown-shown.result (in_order_ahead y))) c.read-matcher.ensures ∙ new-found ms s m n there c.index.result.now c.index.ensures c.tell_held.ensures.ahead c.shown-shown.result order i.jobs.items)
    ∙ jobs-grow ms i.jobs.items i.waiting.items c.requires.sound (slice_set ms s n) s (brought m) grown
    ∙ ap (λ g. map (λ f. placed (thing_in ms f)) i.jobs.items ++ map (λ q. (s, q)) (job_places g)) (sym (brings-there ms s m there))

pub returns-clause-waiting : goal.returns-clause-waiting
returns-clause-waiting c =
    let i = c.args.self.now in
    let ms = i.matchers.items in
    let m = c.index_mut-matcher.result.now in
    let n = c.tell_held.new.self in
    let s = c.args.step in
    let order = c.shown-shown.ensures.order ∙ ap (λ (y : Matcher). length (in_order y)) c.read.ensures in
    let there : slice_get ms s ≡ Some m = slice_get_read ms (length ms) s m refl (shown-within ms s c.requires.can) c.index_mut-matcher.ensures.value in
    let grown = set-grown ms s m n there (brought m) (c.tell_held.ensures.order ∙ sym (ahead-parts m)) in
    ap (map (thing_in (slice_set ms s n))) (c.sort_from.ensures.waiting ∙ ap (λ (y : Matcher). i.waiting.items ++ found_others s c.shown-shown.result (drop c.shown-shown.result (in_order_ahead y))) c.read-matcher.ensures ∙ new-others_found ms s m n there c.index.result.now c.index.ensures c.tell_held.ensures.ahead c.shown-shown.result order i.waiting.items)
    ∙ waiting-grows ms i.jobs.items i.waiting.items c.requires.sound (slice_set ms s n) s (brought m) grown
    ∙ ap (λ g. map (thing_in ms) i.waiting.items ++ map (λ o. (s, o)) (others_among g)) (sym (brings-there ms s m there))

pub returns-clause-room : goal.returns-clause-room
returns-clause-room c = λ k h.
    let i = c.args.self.now in
    let ms = i.matchers.items in
    let m = c.index_mut-matcher.result.now in
    let n = c.tell_held.new.self in
    let s = c.args.step in
    let order = c.shown-shown.ensures.order ∙ ap (λ (y : Matcher). length (in_order y)) c.read.ensures in
    let there : slice_get ms s ≡ Some m = slice_get_read ms (length ms) s m refl (shown-within ms s c.requires.can) c.index_mut-matcher.ensures.value in
    let x = c.index.result.now in
    let same : x ≡ n = c.index.ensures ∙ get_or_from_slice_get (slice_set ms s n) s n x (placed-there ms s m n there) in
    let a = ap (λ (y : Matcher). length (in_order_ahead y)) (c.read-matcher.ensures ∙ same) in
    let b = ap length c.tell_held.ensures.ahead in
    let l = ahead-longer m in
    let g = ap length (brings-there ms s m there) in
    let e = order in
    let v = c.sort_from.ensures in
    (omega (arith, a, b, l, g, e, v.jobs_len, v.jobs_capacity, h.0), omega (arith, a, b, l, g, e, v.waiting_len, v.waiting_capacity, h.1))

pub returns-clause-sound : goal.returns-clause-sound
returns-clause-sound c =
    let i = c.args.self.now in
    let ms = i.matchers.items in
    let m = c.index_mut-matcher.result.now in
    let n = c.tell_held.new.self in
    let s = c.args.step in
    let order = c.shown-shown.ensures.order ∙ ap (λ (y : Matcher). length (in_order y)) c.read.ensures in
    let there : slice_get ms s ≡ Some m = slice_get_read ms (length ms) s m refl (shown-within ms s c.requires.can) c.index_mut-matcher.ensures.value in
    let grown = set-grown ms s m n there (brought m) (c.tell_held.ensures.order ∙ sym (ahead-parts m)) in
    let js = c.sort_from.ensures.jobs ∙ ap (λ (y : Matcher). i.jobs.items ++ found_jobs s c.shown-shown.result (drop c.shown-shown.result (in_order_ahead y))) c.read-matcher.ensures ∙ new-found ms s m n there c.index.result.now c.index.ensures c.tell_held.ensures.ahead c.shown-shown.result order i.jobs.items in
    let ws = c.sort_from.ensures.waiting ∙ ap (λ (y : Matcher). i.waiting.items ++ found_others s c.shown-shown.result (drop c.shown-shown.result (in_order_ahead y))) c.read-matcher.ensures ∙ new-others_found ms s m n there c.index.result.now c.index.ensures c.tell_held.ensures.ahead c.shown-shown.result order i.waiting.items in
    subst (λ l. AreSorted (slice_set ms s n) l c.sort_from.new.waiting.items) (sym js)
    (subst (λ l. AreSorted (slice_set ms s n) (i.jobs.items ++ found_jobs s (length (followed_in ms s)) (brought m)) l) (sym ws)
    (sorted-grows ms i.jobs.items i.waiting.items c.requires.sound (slice_set ms s n) s (brought m) grown (set-sound ms s m n there c.requires.sound.sound c.tell_held.ensures.sound)))
