use Rattle.std.proofs.Common.{rules, ◌≡◌, ◌-◌, ◌++◌, ◌∷◌, [], length, ap, ◌∙◌}
use Rattle.tv_match.specs.Entries.{entry}
use Rattle.tv_match.specs.declared.bags.Slot.{Slot}
use Rattle.tv_match.proofs.Laying.{pushed-laid, pushed-shown}
use Rattle.tv_match.proofs.bags.Bag.push.Goals as goal

pub invariant_of-self-in-Ok : goal.invariant_of-self-in-Ok
invariant_of-self-in-Ok c =
    let s : Slot = record { start = c.len-start.result; length = c.len.result - c.len-start.result; kind = c.args.kind; number = c.args.number } in
    let a : c.len-start.result ≡ length c.self.inside.indices.items = search rules in
    let b : c.len.result - c.len-start.result ≡ length c.put_both.new.indices.items - length c.self.inside.indices.items = search rules in
    pushed-laid c.self.inside.slots.items c.push.new.self.items c.self.inside.indices.items c.put_both.new.indices.items (c.args.at.now ++ c.args.inside.now) s c.self.invariant c.in_ok-put_both.ensures.ok c.in-Ok.ensures.items a b

pub returns-in-Ok-clause-ok : goal.returns-in-Ok-clause-ok
returns-in-Ok-clause-ok c =
    let s : Slot = record { start = c.len-start.result; length = c.len.result - c.len-start.result; kind = c.args.kind; number = c.args.number } in
    let a : c.len-start.result ≡ length c.self.inside.indices.items = search rules in
    let b : c.len.result - c.len-start.result ≡ length c.put_both.new.indices.items - length c.self.inside.indices.items = search rules in
    pushed-shown c.self.inside.slots.items c.push.new.self.items c.self.inside.indices.items c.put_both.new.indices.items (c.args.at.now ++ c.args.inside.now) s c.self.invariant c.in_ok-put_both.ensures.ok c.in-Ok.ensures.items a b
    ∙ ap (λ es. es ++ entry c.args.number (c.args.at.now ++ c.args.inside.now) c.args.kind ∷ []) c.self.view_is
