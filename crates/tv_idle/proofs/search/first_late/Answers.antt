use Rattle.std.proofs.Common.{◌∷◌, [], ◌++◌, ap, subst, sym, ◌∙◌, get_or, length, take, Some, None}
use Rattle.std.specs.Prelude.{if◌then◌else◌, nat_lt}
use Rattle.std.proofs.lemmas.List.{take_more}
use Rattle.tv_idle.specs.Orders.{is_before}
use Rattle.tv_idle.specs.Sought.{IsFirst, is_sought_at, lesser}
use Rattle.tv_idle.proofs.Comparing.{before-order}
use Rattle.tv_idle.proofs.Finding.{all-taken, first-both, first-one, first-within}
use Rattle.tv_idle.proofs.search.first_late.Goals as goal

pub lesser-first-requires-clause-first : goal.lesser-first-requires-clause-first
lesser-first-requires-clause-first c =
    let jobs = c.args.table.now.jobs in
    first-within (is_before jobs) (is_sought_at c.args.place.now c.args.gone.now jobs) (length jobs) (take c.loop-at.at-index c.args.late.now) c.loop-at.first
    (all-taken (λ s. nat_lt s (length jobs)) c.loop-at.at-index c.args.late.now c.requires) c.loop-at.invariant

pub loop-at-preserved : goal.loop-at-preserved
loop-at-preserved c =
    let jobs = c.args.table.now.jobs in
    let late = c.args.late.now in
    let k = c.loop-at.at-index in
    let p = is_sought_at c.args.place.now c.args.gone.now jobs in
    let x = get_or late k 0 in
    let both = first-both (is_before jobs) (before-order jobs) p (take k late) (x ∷ []) c.loop-at.first (if p x then Some x else None) c.loop-at.invariant (first-one (is_before jobs) (before-order jobs) p x) in
    subst (λ ss. IsFirst (is_before jobs) p ss c.lesser-first.result) (sym (take_more late k 0 c.loop-at-test.true))
    (subst (λ r. IsFirst (is_before jobs) p (take k late ++ x ∷ []) r) (sym (c.lesser-first.ensures ∙ ap (lesser (is_before jobs) c.loop-at.first) c.sought.ensures)) both)
