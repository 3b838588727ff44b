use Rattle.std.proofs.Common.{◌≡◌, ◌+◌, ◌-◌, ◌∙◌, ap, arith, length, map, sym}
use Rattle.std.proofs.lemmas.Bool.{ltb-false, ltb-true}
use Rattle.std.proofs.lemmas.List.{length-map}
use Rattle.tv_local.specs.Beginnings.{from_byte}
use Rattle.tv_local.proofs.Beginnings.{row, rows-between, span-at, none-below, none-past}
use Rattle.tv_local.proofs.row.rows_from.Goals as goal

pub between-requires : goal.between-requires
between-requires c =
    let h = c.in-Some.ensures.lookup in
    let s = span-at (c.args.first - 97) c.spans.result.now c.in-Some.field-0.now c.spans.ensures (ltb-true (c.args.first - 97) (length c.spans.result.now) (sym h.0)) h.1 in
    let many = sym (length-map c.rows.result.now row) ∙ ap length c.rows.ensures in
    (s.0, omega (arith, s.1, many))

pub returns-in-Some : goal.returns-in-Some
returns-in-Some c =
    let h = c.in-Some.ensures.lookup in
    let s = span-at (c.args.first - 97) c.spans.result.now c.in-Some.field-0.now c.spans.ensures (ltb-true (c.args.first - 97) (length c.spans.result.now) (sym h.0)) h.1 in
    let same : 97 + (c.args.first - 97) ≡ c.args.first = omega (arith, c.if-first-lt97.false) in
    ap (map row) c.between.ensures
    ∙ rows-between c.rows.result.now c.in-Some.field-0.now.0 c.in-Some.field-0.now.1 c.rows.ensures
    ∙ s.2
    ∙ ap from_byte same

pub returns-then-first-lt97 : goal.returns-then-first-lt97
returns-then-first-lt97 c = sym (none-below c.args.first c.if-first-lt97.true)

pub returns-in-None : goal.returns-in-None
returns-in-None c =
    let many : length c.spans.result.now ≡ 21 = ap length c.spans.ensures in
    let past = ltb-false (c.args.first - 97) (length c.spans.result.now) (sym c.in-None.ensures.lookup.0) in
    sym (none-past c.args.first c.if-first-lt97.false (omega (arith, many, past)))
