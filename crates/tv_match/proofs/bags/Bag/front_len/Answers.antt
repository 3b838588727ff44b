use Rattle.std.proofs.Common.{◌≡◌, suc, ◌-◌, ◌<◌, ◌≤◌, length, take, sym, ap, subst, ◌∙◌, arith}
use Rattle.tv_match.specs.Entries.{front, entry_at}
use Rattle.tv_match.specs.Slots.{bag_entries}
use Rattle.tv_match.proofs.Fronts.{front-step, front-ends}
use Rattle.tv_match.proofs.Laying.{number-shown, length-shown}
use Rattle.tv_match.proofs.bags.Bag.front_len.Goals as goal

pub loop-count-preserved : goal.loop-count-preserved
loop-count-preserved c =
    let slots = c.self.inside.slots.items in
    let es = bag_entries c.self.inside.indices.items slots in
    let n = c.loop-count.count in
    let within : n ≤ length slots = c.loop-count.invariant.0 in
    let positive = c.loop-count-test.true in
    let k : n - 1 < length slots = omega (arith, within, positive) in
    let e : n ≡ suc (n - 1) = omega (arith, positive) in
    let l : n ≤ length es = subst (λ m. n ≤ m) (sym (length-shown c.self.inside.indices.items slots)) within in
    let late : c.args.number < (entry_at es (n - 1)).number = subst (λ m. c.args.number < m) (sym (number-shown c.self.inside.indices.items slots (n - 1) c.index.result.now k c.index.ensures)) c.if-index-number.true in
    (omega (arith, within), sym (front-step c.args.number es n (n - 1) e l late) ∙ c.loop-count.invariant.1)

pub returns-else-index-number-clause-front : goal.returns-else-index-number-clause-front
returns-else-index-number-clause-front c =
    let slots = c.self.inside.slots.items in
    let es = bag_entries c.self.inside.indices.items slots in
    let n = c.loop-count.count in
    let within : n ≤ length slots = c.loop-count.invariant.0 in
    let positive = c.loop-count-test.true in
    let k : n - 1 < length slots = omega (arith, within, positive) in
    let e : n ≡ suc (n - 1) = omega (arith, positive) in
    let l : n ≤ length es = subst (λ m. n ≤ m) (sym (length-shown c.self.inside.indices.items slots)) within in
    let early : (entry_at es (n - 1)).number ≤ c.args.number = subst (λ m. m ≤ c.args.number) (sym (number-shown c.self.inside.indices.items slots (n - 1) c.index.result.now k c.index.ensures)) c.if-index-number.false in
    ap (take n) (sym c.self.view_is) ∙ sym (front-ends c.args.number es n (n - 1) e l early) ∙ c.loop-count.invariant.1 ∙ ap (front c.args.number) c.self.view_is
