use Rattle.std.specs.Prelude.{◌≡◌, ◌<◌, length}
use Rattle.std.proofs.Common.{ap, arith, subst, ◌∙◌}
use Rattle.tv_instances.specs.declared.open.Open.{Open}
use Rattle.tv_run.specs.declared.instances.Instance.{Instance}
use Rattle.tv_run.proofs.Numbering.{all-numbered, can-number, found, known-open, none-yet, one-numbered}
use Rattle.tv_run.proofs.run.OpenRun.number_new.Goals as goal

pub loop-number-init : goal.loop-number-init
loop-number-init c =
    none-yet c.args.self.now c.args.instance c.requires c.len-number.result
    (c.len-number.ensures
    ∙ c.index.result.now.jobs.ok.0
    ∙ ap (λ (d : Instance). length d.jobs.items)
    (found c.args.self.now.instances.items c.args.instance c.requires.itself c.index.result.now c.requires.there
    c.index.ensures))

pub number-requires : goal.number-requires
number-requires c =
    let open-is : c.index-3.result.now ≡ c.requires.opened =
    known-open c.args.self.now.instances.items c.args.instance c.requires.itself c.index-2.result.now c.requires.opened
    c.index-3.result.now c.requires.there c.requires.is_open c.index-2.ensures c.index-3.ensures in
    let known = c.known-number-end.ensures ∙ ap (λ (o : Open). length o.seats.seats) open-is in
    can-number c.args.self.now c.args.instance c.requires c.loop-number.self c.loop-number.number
    c.loop-number.invariant
    (subst (λ n. c.loop-number.number < n) known (omega (arith, c.loop-number-test.true)))

pub loop-number-preserved : goal.loop-number-preserved
loop-number-preserved c =
    let open-is : c.index-3.result.now ≡ c.requires.opened =
    known-open c.args.self.now.instances.items c.args.instance c.requires.itself c.index-2.result.now c.requires.opened
    c.index-3.result.now c.requires.there c.requires.is_open c.index-2.ensures c.index-3.ensures in
    let known = c.known-number-end.ensures ∙ ap (λ (o : Open). length o.seats.seats) open-is in
    one-numbered c.args.self.now c.args.instance c.requires c.loop-number.self c.loop-number.number
    c.loop-number.invariant c.number.new.self
    (subst (λ n. c.loop-number.number < n) known (omega (arith, c.loop-number-test.true))) c.number.ensures

pub returns : goal.returns
returns c =
    let open-is : c.index-3.result.now ≡ c.requires.opened =
    known-open c.args.self.now.instances.items c.args.instance c.requires.itself c.index-2.result.now c.requires.opened
    c.index-3.result.now c.requires.there c.requires.is_open c.index-2.ensures c.index-3.ensures in
    let known = c.known-number-end.ensures ∙ ap (λ (o : Open). length o.seats.seats) open-is in
    all-numbered c.args.self.now c.args.instance c.requires c.loop-number.self c.loop-number.number
    c.loop-number.invariant
    (omega (arith, known, c.loop-number-test.false))
