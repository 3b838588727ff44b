use Rattle.std.proofs.Common.{◌≡◌, ◌+◌, ℕ, length, ap, sym, subst, arith, Some, Result, Ok, Err, IfOk, refl, slice_get, slice_set}
use Rattle.std.proofs.lemmas.Option.{slice_get_read}
use Rattle.std.proofs.lemmas.Result.{on_err_weaker, on_ok_weaker}
use Rattle.tv_match.specs.Ahead.{in_order_ahead}
use Rattle.tv_match.specs.Seen.{in_order}
use Rattle.tv_intake.specs.Sorting.{brought}
use Rattle.tv_intake.specs.Intaken.{CanHold, HoldsNone, HoldsThese}
use Rattle.tv_intake.proofs.IntakeLemmas.{ahead-longer, brings-there, can-within, get-other, jobs-same, placed-there, set-same, set-sound, sorted-same, waiting-same}
use Rattle.tv_intake.proofs.intakes.Intakes.hold.Goals as goal

counted : {E : Type 0} (r : Result ℕ E) (a b d : ℕ) → a ≡ b + d → (s : ℕ) → s ≡ d → (m : ℕ) → m ≡ b → IfOk r (λ n. a ≡ m + n) → IfOk r (λ n. n ≡ s)
counted (Ok n) a b d e s f m g h = omega arith
counted (Err x) a b d e s f m g h = h

pub hold-requires-clause-new : goal.hold-requires-clause-new
hold-requires-clause-new c =
    let ms = c.args.self.now.matchers.items in
    let m = c.index_mut.result.now in
    let s = c.args.step in
    let there : slice_get ms s ≡ Some m = slice_get_read ms (length ms) s m refl (can-within ms s c.args.told.now c.requires.can) c.index_mut.ensures.value in
    (subst (λ o. CanHold o c.args.told.now) there c.requires.can).1

pub returns-clause-ok : goal.returns-clause-ok
returns-clause-ok c =
    let ms = c.args.self.now.matchers.items in
    let m = c.index_mut.result.now in
    let n = c.hold.new.self in
    let s = c.args.step in
    let there : slice_get ms s ≡ Some m = slice_get_read ms (length ms) s m refl (can-within ms s c.args.told.now c.requires.can) c.index_mut.ensures.value in
    on_ok_weaker c.hold.result
    (λ h. subst (λ o. HoldsThese c.args.told.now o (slice_get (slice_set ms s n) s)) (sym there)
    (subst (λ o. HoldsThese c.args.told.now (Some m) o) (sym (placed-there ms s m n there)) (h, c.hold.ensures.same_order)))
    c.hold.ensures.ok

pub returns-clause-refused : goal.returns-clause-refused
returns-clause-refused c =
    let ms = c.args.self.now.matchers.items in
    let m = c.index_mut.result.now in
    let n = c.hold.new.self in
    let s = c.args.step in
    let there : slice_get ms s ≡ Some m = slice_get_read ms (length ms) s m refl (can-within ms s c.args.told.now c.requires.can) c.index_mut.ensures.value in
    on_err_weaker c.hold.result
    (λ h. subst (λ o. HoldsNone o (slice_get (slice_set ms s n) s)) (sym there)
    (subst (λ o. HoldsNone (Some m) o) (sym (placed-there ms s m n there)) (h, c.hold.ensures.same_order)))
    c.hold.ensures.refused

pub returns-clause-count : goal.returns-clause-count
returns-clause-count c =
    let ms = c.args.self.now.matchers.items in
    let m = c.index_mut.result.now in
    let n = c.hold.new.self in
    let s = c.args.step in
    let there : slice_get ms s ≡ Some m = slice_get_read ms (length ms) s m refl (can-within ms s c.args.told.now c.requires.can) c.index_mut.ensures.value in
    counted c.hold.result (length (in_order_ahead n)) (length (in_order n)) (length (brought n)) (ahead-longer n) _
    (ap length (brings-there (slice_set ms s n) s n (placed-there ms s m n there)))
    (length (in_order m)) (ap length (sym c.hold.ensures.same_order)) c.hold.ensures.ahead

pub returns-clause-others : goal.returns-clause-others
returns-clause-others c = λ k ne. get-other c.args.self.now.matchers.items c.args.step k c.hold.new.self ne

pub returns-clause-jobs : goal.returns-clause-jobs
returns-clause-jobs c =
    let ms = c.args.self.now.matchers.items in
    let m = c.index_mut.result.now in
    let s = c.args.step in
    let there : slice_get ms s ≡ Some m = slice_get_read ms (length ms) s m refl (can-within ms s c.args.told.now c.requires.can) c.index_mut.ensures.value in
    jobs-same ms (slice_set ms s c.hold.new.self) (set-same ms s m c.hold.new.self there c.hold.ensures.same_order) c.args.self.now.jobs.items

pub returns-clause-waiting : goal.returns-clause-waiting
returns-clause-waiting c =
    let ms = c.args.self.now.matchers.items in
    let m = c.index_mut.result.now in
    let s = c.args.step in
    let there : slice_get ms s ≡ Some m = slice_get_read ms (length ms) s m refl (can-within ms s c.args.told.now c.requires.can) c.index_mut.ensures.value in
    waiting-same ms (slice_set ms s c.hold.new.self) (set-same ms s m c.hold.new.self there c.hold.ensures.same_order) c.args.self.now.waiting.items

pub returns-clause-sound : goal.returns-clause-sound
returns-clause-sound c =
    let i = c.args.self.now in
    let ms = i.matchers.items in
    let m = c.index_mut.result.now in
    let s = c.args.step in
    let there : slice_get ms s ≡ Some m = slice_get_read ms (length ms) s m refl (can-within ms s c.args.told.now c.requires.can) c.index_mut.ensures.value in
    sorted-same ms (slice_set ms s c.hold.new.self) (set-same ms s m c.hold.new.self there c.hold.ensures.same_order) i.jobs.items i.waiting.items
    (set-sound ms s m c.hold.new.self there c.requires.sound.sound c.hold.ensures.sound) c.requires.sound
