use Rattle.std.proofs.Common.{◌≡◌, ◌++◌, ◌∷◌, [], length, map, ap, sym, subst, ◌∙◌, drop}
use Rattle.tv_match.specs.declared.matchers.Matcher.{Matcher}
use Rattle.tv_match.specs.Ahead.{in_order_ahead}
use Rattle.tv_match.specs.Seen.{in_order}
use Rattle.tv_match.proofs.AllMade.{none-ahead}
use Rattle.tv_intake.specs.Sorting.{found_jobs, found_others}
use Rattle.tv_intake.specs.Intaken.{AreSorted, followed_in, placed, thing_in}
use Rattle.tv_intake.proofs.IntakeLemmas.{end-grown, end-sound, first-found, first-others_found, jobs-grow, sorted-grows, waiting-grows}
use Rattle.tv_intake.proofs.intakes.Intakes.take_in.Goals as goal

pub returns-clause-jobs : goal.returns-clause-jobs
returns-clause-jobs c =
    let i = c.args.self.now in
    let ms = i.matchers.items in
    let m = c.args.matcher in
    let s = length ms in
    let v = c.in_ok-step.ensures in
    let ns : c.put.new.list.items ≡ ms ++ m ∷ [] = c.put.ensures.items ∙ ap (λ l. l ++ m ∷ []) v.same.matchers in
    let js = c.sort_from.ensures.jobs ∙ ap (λ (y : Matcher). c.room_for_step.new.self.jobs.items ++ found_jobs c.in_ok-step.step 0 (drop 0 (in_order_ahead y))) c.read-2.ensures ∙ ap (λ l. l ++ found_jobs c.in_ok-step.step 0 (drop 0 (in_order_ahead m))) v.same.jobs ∙ first-found ms m (none-ahead m c.requires.own c.requires.none) c.in_ok-step.step v.number i.jobs.items in
    (λ k. map (λ f. placed (thing_in (ns k) f)) (js k))
    ∙ jobs-grow ms i.jobs.items i.waiting.items c.requires.sound (ms ++ m ∷ []) s (in_order m) (end-grown ms m)

pub returns-clause-waiting : goal.returns-clause-waiting
returns-clause-waiting c =
    let i = c.args.self.now in
    let ms = i.matchers.items in
    let m = c.args.matcher in
    let s = length ms in
    let v = c.in_ok-step.ensures in
    let ns : c.put.new.list.items ≡ ms ++ m ∷ [] = c.put.ensures.items ∙ ap (λ l. l ++ m ∷ []) v.same.matchers in
    let ws = c.sort_from.ensures.waiting ∙ ap (λ (y : Matcher). c.room_for_step.new.self.waiting.items ++ found_others c.in_ok-step.step 0 (drop 0 (in_order_ahead y))) c.read-2.ensures ∙ ap (λ l. l ++ found_others c.in_ok-step.step 0 (drop 0 (in_order_ahead m))) v.same.waiting ∙ first-others_found ms m (none-ahead m c.requires.own c.requires.none) c.in_ok-step.step v.number i.waiting.items in
    (λ k. map (thing_in (ns k)) (ws k))
    ∙ waiting-grows ms i.jobs.items i.waiting.items c.requires.sound (ms ++ m ∷ []) s (in_order m) (end-grown ms m)

pub returns-clause-sound : goal.returns-clause-sound
returns-clause-sound c =
    let i = c.args.self.now in
    let ms = i.matchers.items in
    let m = c.args.matcher in
    let s = length ms in
    let v = c.in_ok-step.ensures in
    let ns : c.put.new.list.items ≡ ms ++ m ∷ [] = c.put.ensures.items ∙ ap (λ l. l ++ m ∷ []) v.same.matchers in
    let js = c.sort_from.ensures.jobs ∙ ap (λ (y : Matcher). c.room_for_step.new.self.jobs.items ++ found_jobs c.in_ok-step.step 0 (drop 0 (in_order_ahead y))) c.read-2.ensures ∙ ap (λ l. l ++ found_jobs c.in_ok-step.step 0 (drop 0 (in_order_ahead m))) v.same.jobs ∙ first-found ms m (none-ahead m c.requires.own c.requires.none) c.in_ok-step.step v.number i.jobs.items in
    let ws = c.sort_from.ensures.waiting ∙ ap (λ (y : Matcher). c.room_for_step.new.self.waiting.items ++ found_others c.in_ok-step.step 0 (drop 0 (in_order_ahead y))) c.read-2.ensures ∙ ap (λ l. l ++ found_others c.in_ok-step.step 0 (drop 0 (in_order_ahead m))) v.same.waiting ∙ first-others_found ms m (none-ahead m c.requires.own c.requires.none) c.in_ok-step.step v.number i.waiting.items in
    subst (λ x. AreSorted x c.sort_from.new.jobs.items c.sort_from.new.waiting.items) (sym ns)
    (subst (λ l. AreSorted (ms ++ m ∷ []) l c.sort_from.new.waiting.items) (sym js)
    (subst (λ l. AreSorted (ms ++ m ∷ []) (i.jobs.items ++ found_jobs s (length (followed_in ms s)) (in_order m)) l) (sym ws)
    (sorted-grows ms i.jobs.items i.waiting.items c.requires.sound (ms ++ m ∷ []) s (in_order m) (end-grown ms m) (end-sound ms m c.requires.sound.sound c.requires.own))))
