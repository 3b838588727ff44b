use Rattle.std.proofs.Common.{◌≡◌, ◌<◌, length, get_or, sym, ap, subst, ◌∙◌, arith}
use Rattle.tv_match.proofs.Laying.{laid-within, length-shown}
use Rattle.tv_match.proofs.bags.Bag.place.Goals as goal

pub split_at-requires : goal.split_at-requires
split_at-requires c =
    let slots = c.self.inside.slots.items in
    let slot = c.index-slot.result.now in
    let k : c.args.at < length slots = subst (λ n. c.args.at < n) (sym (ap length c.self.view_is) ∙ length-shown c.self.inside.indices.items slots) c.requires in
    let h = laid-within 0 slots (length c.self.inside.indices.items) c.args.at slot c.self.invariant k in
    let e : slot.start ≡ (get_or slots c.args.at slot).start = ap (λ s. s.start) c.index-slot.ensures in
    omega (arith, h, e, ap length c.as_slice.ensures.value)

pub split_at-requires-2 : goal.split_at-requires-2
split_at-requires-2 c =
    let slots = c.self.inside.slots.items in
    let slot = c.index-slot.result.now in
    let k : c.args.at < length slots = subst (λ n. c.args.at < n) (sym (ap length c.self.view_is) ∙ length-shown c.self.inside.indices.items slots) c.requires in
    let h = laid-within 0 slots (length c.self.inside.indices.items) c.args.at slot c.self.invariant k in
    let e : slot.start ≡ (get_or slots c.args.at slot).start = ap (λ s. s.start) c.index-slot.ensures in
    let f : slot.length ≡ (get_or slots c.args.at slot).length = ap (λ s. s.length) c.index-slot.ensures in
    omega (arith, h, e, f, ap length c.as_slice.ensures.value, c.split_at.ensures.back_len)
