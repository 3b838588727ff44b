use Rattle.std.proofs.Common.{arith, ap, sym, ◌∙◌}
use Rattle.std.specs.Prelude.{Some}
use Rattle.tv_words.proofs.Numbers.{marked, unmarked, parsed, unparsed, number-read, number-unread}
use Rattle.tv_words.proofs.number.number_between.Goals as goal

pub returns-then-has_sign_or_zero : goal.returns-then-has_sign_or_zero
returns-then-has_sign_or_zero c =
    number-unread c.args.least c.args.most c.args.text.now c.ranges.most.fits (marked c.args.text.now (sym c.if-has_sign_or_zero.ensures))

pub returns-in_err-number : goal.returns-in_err-number
returns-in_err-number c =
    let plain = unmarked c.args.text.now (sym c.if-has_sign_or_zero.ensures) in
    c.from_residual.ensures ∙ number-unread c.args.least c.args.most c.args.text.now c.ranges.most.fits
    (unparsed c.args.text.now c.parse.result c.parse.ensures.value.0 plain.0 (sym c.ok.ensures.value ∙ c.in_err-number.was))

pub returns-then-number-most : goal.returns-then-number-most
returns-then-number-most c =
    let t = c.args.text.now in
    let plain = unmarked t (sym c.if-has_sign_or_zero.ensures) in
    let read = parsed t c.parse.result c.in_ok-number.number c.parse.ensures.value.0 plain.0 plain.1 (sym c.ok.ensures.value ∙ c.in_ok-number.was) in
    ap Some read.1 ∙ number-read c.args.least c.args.most t read.0 (omega (arith, read.1, c.if-least-number.true)) (omega (arith, read.1, c.if-number-most.true))
