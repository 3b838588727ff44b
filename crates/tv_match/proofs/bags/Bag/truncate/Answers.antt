use Rattle.std.proofs.Common.{rules, ◌<◌, length, take, ap, ◌∙◌}
use Rattle.tv_match.specs.declared.bags.Slot.{Slot}
use Rattle.tv_match.proofs.Laying.{cut-laid, cut-shown}
use Rattle.tv_match.proofs.bags.Bag.truncate.Goals as goal

pub invariant_of-self : goal.invariant_of-self
invariant_of-self c =
    let slots = c.self.inside.slots.items in
    let k : c.args.count < length slots = search rules in
    cut-laid slots c.truncate-then-count-len.new.self.items c.self.inside.indices.items c.truncate.new.self.items c.args.count c.index.result.now.start c.index.result.now c.self.invariant k (ap (λ (s : Slot). s.start) c.index.ensures) c.truncate.ensures.items c.truncate-then-count-len.ensures.items

pub returns-then-count-len : goal.returns-then-count-len
returns-then-count-len c =
    let slots = c.self.inside.slots.items in
    let k : c.args.count < length slots = search rules in
    cut-shown slots c.truncate-then-count-len.new.self.items c.self.inside.indices.items c.truncate.new.self.items c.args.count c.index.result.now.start c.index.result.now c.self.invariant k (ap (λ (s : Slot). s.start) c.index.ensures) c.truncate.ensures.items c.truncate-then-count-len.ensures.items
    ∙ ap (take c.args.count) c.self.view_is
