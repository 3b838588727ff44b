use Rattle.std.proofs.Common.{◌∙◌, ◌≡◌, ◌<◌, ◌≤◌, ap, sym, map, length, arith}
use Rattle.std.proofs.lemmas.List.{length-map}
use Rattle.tv_check.specs.Turned.{with_item}
use Rattle.tv_check.proofs.Turning.{with_item-set, with_item-past}
use Rattle.tv_check.proofs.rows.Rows.push.Goals as goal

pub returns-in_default : goal.returns-in_default
returns-in_default g c =
    let lt : c.args.number < length c.self.inside.rows.items = omega arith in
    with_item-set c.self.inside.rows.items c.args.number c.args.item c.index_mut.result.now c.push.new.self lt c.index_mut.ensures.value c.in_default.ensures.items
    ∙ ap (λ xss. with_item xss (c.args.number, c.args.item)) c.self.view_is

pub returns-else-number-len : goal.returns-else-number-len
returns-else-number-len g c =
    let many : length c.args.self.now ≡ length c.self.inside.rows.items = ap length (sym c.self.view_is) ∙ length-map c.self.inside.rows.items (λ v. v.items) in
    sym (with_item-past c.args.self.now c.args.number c.args.item (omega (arith, many)))
