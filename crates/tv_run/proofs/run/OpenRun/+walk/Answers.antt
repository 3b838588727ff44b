use Rattle.std.specs.Prelude.{is_some}
use Rattle.std.proofs.Common.{IfSome, ap, arith, get_or, length, subst, sym, ◌*◌, ◌+◌, ◌-◌, ◌<◌, ◌≡◌, ◌∙◌}
use Rattle.tv_run.specs.Walking.{IsFoundBefore, IsFoundInside, IsFoundOf}
use Rattle.tv_run.proofs.WalkInside.{NoneOfFirst, none-deeper, none-left, none-passed, one-more, some-at}
use Rattle.tv_run.proofs.WalkNested.{behind-none, end-none, found-some, inner-at, nested-low, nested-stage, next-none}
use Rattle.tv_run.proofs.WalkOpen.{going-is, leveled, seats-at, some-open, step-within, there, turn-at}
use Rattle.tv_run.proofs.WalkSteps.{none-yet, own-low, own-or_none}
use Rattle.tv_run.proofs.run.OpenRun.+walk.Goals as goal

-- ---- one step

pub first_at-in_run-requires : goal.first_at-in_run-requires
first_at-in_run-requires t c =
    let w = c.requires in (
      w.1,
      w.2,
      w.4.fits,
      w.5,
      ap is_some w.6,
      own-low w.0 c.args.self.now w.1 w.4 c.args.instance w.2 w.3 w.5 w.6 c.args.seeking c.args.step c.first_own-own.result
          (c.first_own-own.ensures.own w.0 w.1 w.2 w.3 w.4 w.5 w.6 w.8),
    )

pub first_at-returns-in-Some : goal.first_at-returns-in-Some
first_at-returns-in-Some t c gives xs x v st at told deep low =
    subst (IsFoundBefore gives c.args.self.now xs c.args.seeking c.args.instance x c.args.step c.first_own-own.result)
    c.in-Some.is
    (c.first_inside.ensures gives xs x v st at told deep (c.first_own-own.ensures.own gives xs x v st at told low))

pub first_at-returns-in-None : goal.first_at-returns-in-None
first_at-returns-in-None t c gives xs x v st at told deep low =
    let own = c.first_own-own.ensures.own gives xs x v st at told low in
    own-or_none gives c.args.self.now xs st c.args.instance x v at told c.args.seeking c.args.step c.first_own-own.result
    c.in_run.result own (c.first_own-own.ensures.begins gives xs x v st at told low)
    (subst (IsFoundBefore gives c.args.self.now xs c.args.seeking c.args.instance x c.args.step c.first_own-own.result)
    c.in-None.is (c.first_inside.ensures gives xs x v st at told deep own))
    (c.in_run.ensures xs x st.fits at)

-- ---- all steps

pub first_in-returns-then-levels-eq0 : goal.first_in-returns-then-levels-eq0
first_in-returns-then-levels-eq0 t c gives xs x v st at told deep =
    none-deeper gives c.args.self.now xs st c.args.instance x v at told c.args.seeking
    (omega (arith, deep, c.if-levels-eq0.true))

pub first_in-opened-requires : goal.first_in-opened-requires
first_in-opened-requires t c =
    let w = c.requires in
    let h = there w.0 c.args.self.now w.1 w.4 c.args.instance w.2 w.3 w.5 w.6 in
    (h.itself, h.opened.itself, h.is_itself, h.opened.there)

pub first_in-going-step-items-requires : goal.first_in-going-step-items-requires
first_in-going-step-items-requires t c =
    let w = c.requires in
    some-open w.0 c.args.self.now w.1 w.4 c.args.instance w.2 w.3 w.5 w.6 c.opened.result.now c.opened.ensures

pub first_in-loop-step-init : goal.first_in-loop-step-init
first_in-loop-step-init t c gives xs x v st at told deep =
    let r = c.args.self.now in
    let i = c.args.instance in
    let going = c.going-step-items.result.now in
    let g = going-is gives r xs st i x v at told c.opened.result.now c.opened.ensures going c.going-step-items.ensures in
    none-passed gives r xs st i x v at told c.args.seeking going g

pub first_in-first_at-requires : goal.first_in-first_at-requires
first_in-first_at-requires t c =
    let w = c.requires in
    let r = c.args.self.now in
    let i = c.args.instance in
    let going = c.going-step-items.result.now in
    let g = going-is w.0 r w.1 w.4 i w.2 w.3 w.5 w.6 c.opened.result.now c.opened.ensures going c.going-step-items.ensures in
    let q = c.loop-step.step-index in
    let here = turn-at w.0 r w.1 w.4 i w.2 w.3 w.5 w.6 g.passed going g.in_order q c.loop-step-test.true in (
      subst (λ n. 3 * c.args.levels + 1 < n) c.decreases (omega arith),
      (
        w.0,
        w.1,
        w.2,
        w.3,
        w.4,
        w.5,
        w.6,
        w.7,
        step-within w.0 r w.1 w.4 i w.2 w.3 w.5 w.6 (length g.passed + q) (get_or going q 0) here,
        omega (arith, c.if-levels-eq0.false),
      ),
    )

pub first_in-returns-in-Some : goal.first_in-returns-in-Some
first_in-returns-in-Some t c gives xs x v st at told deep =
    let r = c.args.self.now in
    let i = c.args.instance in
    let going = c.going-step-items.result.now in
    let g = going-is gives r xs st i x v at told c.opened.result.now c.opened.ensures going c.going-step-items.ensures in
    let q = c.loop-step.step-index in
    let step = get_or going q 0 in
    let here = turn-at gives r xs st i x v at told g.passed going g.in_order q c.loop-step-test.true in
    let low = step-within gives r xs st i x v at told (length g.passed + q) step here in
    some-at gives r xs st i x v at told c.args.seeking (length g.passed + q) step c.in-Some.job here
    (c.loop-step.invariant gives xs x v st at told deep g.passed g.in_order)
    (subst (IsFoundOf gives r xs c.args.seeking i x step) c.in-Some.is
    (c.first_at.ensures gives xs x v st at told deep low))

pub first_in-loop-step-preserved : goal.first_in-loop-step-preserved
first_in-loop-step-preserved t c gives xs x v st at told deep passed same =
    let r = c.args.self.now in
    let i = c.args.instance in
    let going = c.going-step-items.result.now in
    let q = c.loop-step.step-index in
    let step = get_or going q 0 in
    let here = turn-at gives r xs st i x v at told passed going same q c.loop-step-test.true in
    let low = step-within gives r xs st i x v at told (length passed + q) step here in
    let next : length passed + q + 1 ≡ length passed + (q + 1) = omega arith in
    subst (NoneOfFirst gives r xs c.args.seeking i x v) next
    (one-more gives r xs st i x v at told c.args.seeking (length passed + q) step here
    (c.loop-step.invariant gives xs x v st at told deep passed same)
    (subst (IsFoundOf gives r xs c.args.seeking i x step) c.in_default.is
    (c.first_at.ensures gives xs x v st at told deep low)))

pub first_in-returns : goal.first_in-returns
first_in-returns t c gives xs x v st at told deep =
    let r = c.args.self.now in
    let i = c.args.instance in
    let going = c.going-step-items.result.now in
    let g = going-is gives r xs st i x v at told c.opened.result.now c.opened.ensures going c.going-step-items.ensures in
    none-left gives r xs st i x v at told c.args.seeking going g c.loop-step.step-index c.loop-step-test.false
    (c.loop-step.invariant gives xs x v st at told deep g.passed g.in_order)

-- ---- inside the jobs of a step

pub first_inside-opened-open-requires : goal.first_inside-opened-open-requires
first_inside-opened-open-requires t c =
    let w = c.requires in
    let h = there w.0 c.args.self.now w.1 w.4 c.args.instance w.2 w.3 w.5 w.6 in
    (h.itself, h.opened.itself, h.is_itself, h.opened.there)

pub first_inside-nested-number-items-requires : goal.first_inside-nested-number-items-requires
first_inside-nested-number-items-requires t c =
    let w = c.requires in
    leveled w.0 c.args.self.now w.1 w.4 c.args.instance w.2 w.3 w.5 w.6 c.opened-open.result.now c.opened-open.ensures
    c.args.step w.8

pub first_inside-loop-number-init : goal.first_inside-loop-number-init
first_inside-loop-number-init t c gives xs x v st at told deep own =
    none-yet gives c.args.self.now xs c.args.seeking c.args.instance x c.nested-number-items.result.now

pub first_inside-is_before-requires-clause-known : goal.first_inside-is_before-requires-clause-known
first_inside-is_before-requires-clause-known t c =
    nested-low c.opened-open.result.now.seats.seats c.args.step c.nested-number-items.result.now c.nested-number-items.ensures
    c.loop-number.number-index c.loop-number-test.true

pub first_inside-is_before-requires-clause-other : goal.first_inside-is_before-requires-clause-other
first_inside-is_before-requires-clause-other t c =
    let w = c.requires in
    let r = c.args.self.now in
    let i = c.args.instance in
    subst (λ ss. IfSome c.args.own (λ m. m < length ss))
    (sym (seats-at w.0 r w.1 w.4 i w.2 w.3 w.5 w.6 c.opened-open.result.now c.opened-open.ensures))
    (own-low w.0 r w.1 w.4 i w.2 w.3 w.5 w.6 c.args.seeking c.args.step c.args.own w.10)

pub first_inside-returns-then-not-is_before : goal.first_inside-returns-then-not-is_before
first_inside-returns-then-not-is_before t c gives xs x v st at told deep own =
    behind-none gives c.args.self.now xs st c.args.instance x v at told c.args.seeking c.args.step c.args.own own
    c.opened-open.result.now c.opened-open.ensures c.nested-number-items.result.now c.nested-number-items.ensures
    c.loop-number.number-index c.loop-number-test.true (sym c.is_before.ensures ∙ c.if-not-is_before.true)
    (c.loop-number.invariant gives xs x v st at told deep own)

pub first_inside-opened_by-inner-requires : goal.first_inside-opened_by-inner-requires
first_inside-opened_by-inner-requires t c =
    nested-stage c.opened-open.result.now.seats.seats c.args.step c.nested-number-items.result.now c.nested-number-items.ensures
    c.loop-number.number-index c.loop-number-test.true

pub first_inside-first_in-requires : goal.first_inside-first_in-requires
first_inside-first_in-requires t c =
    let w = c.requires in
    let y = inner-at w.0 c.args.self.now w.1 w.4 c.args.instance w.2 w.3 w.5 w.6 c.args.seeking c.args.step c.args.own w.10
    c.opened-open.result.now c.opened-open.ensures c.nested-number-items.result.now c.nested-number-items.ensures
    c.loop-number.number-index c.loop-number-test.true c.opened_by-inner.result c.opened_by-inner.ensures in (
      subst (λ n. 3 * (c.args.levels - 1) + 2 < n) c.decreases (omega (arith, w.9)),
      (
        w.0,
        w.1,
        y.inner,
        y.view,
        w.4,
        y.there,
        y.is_open,
        omega (arith, y.deep, w.7, w.9),
      ),
    )

pub first_inside-returns-in-Some : goal.first_inside-returns-in-Some
first_inside-returns-in-Some t c gives xs x v st at told deep own =
    let r = c.args.self.now in
    let y = inner-at gives r xs st c.args.instance x v at told c.args.seeking c.args.step c.args.own own
    c.opened-open.result.now c.opened-open.ensures c.nested-number-items.result.now c.nested-number-items.ensures
    c.loop-number.number-index c.loop-number-test.true c.opened_by-inner.result c.opened_by-inner.ensures in
    found-some gives r xs st c.args.instance x v at told c.args.seeking c.args.step c.args.own own
    c.opened-open.result.now c.opened-open.ensures c.nested-number-items.result.now c.nested-number-items.ensures
    c.loop-number.number-index c.loop-number-test.true c.opened_by-inner.result c.opened_by-inner.ensures
    (sym c.is_before.ensures ∙ c.if-not-is_before.false)
    (c.loop-number.invariant gives xs x v st at told deep own) c.in-Some.job
    (subst (IsFoundInside gives r xs c.args.seeking y.inner) c.in-Some.is
    (c.first_in.ensures gives xs y.inner y.view st y.there y.is_open (omega (arith, y.deep, deep, c.requires.9))))

pub first_inside-loop-number-preserved : goal.first_inside-loop-number-preserved
first_inside-loop-number-preserved t c gives xs x v st at told deep own =
    let r = c.args.self.now in
    let y = inner-at gives r xs st c.args.instance x v at told c.args.seeking c.args.step c.args.own own
    c.opened-open.result.now c.opened-open.ensures c.nested-number-items.result.now c.nested-number-items.ensures
    c.loop-number.number-index c.loop-number-test.true c.opened_by-inner.result c.opened_by-inner.ensures in
    next-none gives r xs st c.args.instance x v at told c.args.seeking c.args.step c.args.own own
    c.opened-open.result.now c.opened-open.ensures c.nested-number-items.result.now c.nested-number-items.ensures
    c.loop-number.number-index c.loop-number-test.true c.opened_by-inner.result c.opened_by-inner.ensures
    (c.loop-number.invariant gives xs x v st at told deep own)
    (subst (IsFoundInside gives r xs c.args.seeking y.inner) c.in_default.is
    (c.first_in.ensures gives xs y.inner y.view st y.there y.is_open (omega (arith, y.deep, deep, c.requires.9))))

pub first_inside-returns : goal.first_inside-returns
first_inside-returns t c gives xs x v st at told deep own =
    end-none gives c.args.self.now xs st c.args.instance x v at told c.args.seeking c.args.step c.args.own own
    c.opened-open.result.now c.opened-open.ensures c.nested-number-items.result.now c.nested-number-items.ensures
    c.loop-number.number-index c.loop-number-test.false (c.loop-number.invariant gives xs x v st at told deep own)
