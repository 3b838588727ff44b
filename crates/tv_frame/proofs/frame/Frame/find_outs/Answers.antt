use Rattle.std.proofs.Common.{refl, sym, ◌∙◌, eqb-true, eq-eqb, true≢false}
use Rattle.tv_frame.proofs.Found.{all-whole_now, ends-not, ends-now, keeps-found, sound-here, step-after, step-growing}
use Rattle.tv_frame.proofs.frame.Frame.find_outs.Goals.{then-whole_from-ne0-via-then-whole_from-ne0, then-whole_from-ne0-via-else-whole_from-ne0+then-not-is_last}
use Rattle.tv_frame.proofs.frame.Frame.find_outs.Goals as goal

pub is_last-requires-clause-sound : goal.is_last-requires-clause-sound
is_last-requires-clause-sound c =
    let r = c.requires in
    sound-here r.0 c.args.plan.now c.args.pool.now c.args.self.now r.1 r.4 r.2 r.3 c.args.over.now c.args.whole_from r.5 c.args.plan.now.wiring.after refl

pub is_last-requires-clause-step : goal.is_last-requires-clause-step
is_last-requires-clause-step c =
    let r = c.requires in
    step-after r.0 c.args.plan.now c.args.pool.now c.args.self.now r.1 r.4 r.2 r.3 c.args.over.now c.args.whole_from r.5 c.args.plan.now.wiring.after refl

pub is_last-requires-clause-growing : goal.is_last-requires-clause-growing
is_last-requires-clause-growing c =
    let r = c.requires in
    step-growing r.0 c.args.plan.now c.args.pool.now c.args.self.now r.1 r.4 r.2 r.3 c.args.over.now c.args.whole_from r.5

pub returns-then-whole_from-ne0-clause-outs : goal.returns-then-whole_from-ne0-clause-outs
returns-then-whole_from-ne0-clause-outs c = λ flows v s e k l.
    ends-not flows c.args.plan.now c.args.pool.now c.args.self.now v k s e c.args.over.now c.args.whole_from l
    (λ z h. elim c.then-whole_from-ne0.branch [
      | then-whole_from-ne0-via-then-whole_from-ne0 w ↦ w.if-whole_from-ne0.true (eqb-true c.args.whole_from 0 z)
      | then-whole_from-ne0-via-else-whole_from-ne0+then-not-is_last w ↦ true≢false (sym h ∙ sym w.is_last.ensures ∙ w.if-not-is_last.true)
    ])

pub outs_with-requires-clause-over : goal.outs_with-requires-clause-over
outs_with-requires-clause-over c =
    let r = c.requires in (
      r.0,
      r.1,
      r.2,
      r.3,
      c.args.whole_from,
      keeps-found r.0 c.args.plan.now c.args.pool.now c.args.self.now _ r.1 r.4 (record { region = refl; tables = refl; inputs = refl; faulty_inputs = refl; outputs = refl; endings = refl; outs = refl }) (record { intakes = refl; idle = refl; spread = refl; whole = refl; place = refl; pieces = refl }),
      r.5,
      all-whole_now r.0 c.args.plan.now c.args.pool.now c.args.self.now r.1 r.4 r.2 r.3 c.args.over.now c.args.whole_from r.5 (eq-eqb c.args.whole_from 0 c.if-whole_from-ne0.false) (sym c.is_last.ensures ∙ c.if-not-is_last.false),
    )

pub returns-clause-same : goal.returns-clause-same
returns-clause-same c = λ flows v k. keeps-found flows c.args.plan.now c.args.pool.now c.args.self.now _ v k (record { region = refl; tables = refl; inputs = refl; faulty_inputs = refl; outputs = refl; endings = refl; outs = refl }) (record { intakes = refl; idle = refl; spread = refl; whole = refl; place = refl; pieces = refl })

pub returns-clause-outs : goal.returns-clause-outs
returns-clause-outs c = λ flows v s e k l.
    let z = eq-eqb c.args.whole_from 0 c.if-whole_from-ne0.false in
    let h = sym c.is_last.ensures ∙ c.if-not-is_last.false in (
      ends-now flows c.args.plan.now c.args.pool.now c.args.self.now v k s e c.args.over.now c.args.whole_from l z h,
      c.in_ok-outs_with.ensures.sound,
      c.in_ok-outs_with.ensures.outputs flows v s e c.args.whole_from
          (keeps-found flows c.args.plan.now c.args.pool.now c.args.self.now _ v k (record { region = refl; tables = refl; inputs = refl; faulty_inputs = refl; outputs = refl; endings = refl; outs = refl }) (record { intakes = refl; idle = refl; spread = refl; whole = refl; place = refl; pieces = refl }))
          l (all-whole_now flows c.args.plan.now c.args.pool.now c.args.self.now v k s e c.args.over.now c.args.whole_from l z h),
    )
