use Rattle.std.proofs.Common.{Some, ap, arith, length, sym, ◌∙◌, ◌≡◌}
use Rattle.tv_lineage.proofs.Calling.{cut, kept-back, number-here, number-there, of-err, of-ok}
use Rattle.tv_lineage.proofs.Holding.{noted-is, noted-kept, noted-records}
use Rattle.tv_lineage.proofs.records.Records.note_parts.Goals as goal

pub invariant_of-self-then-is_err : goal.invariant_of-self-then-is_err
invariant_of-self-then-is_err c =
    let long : c.len-number.result ≡ length c.self.inside.entries.items = omega (arith, c.self.inside.entries.ok.0, c.len-number.ensures) in
    let same = of-err c.insert.result (sym c.is_err.ensures.value ∙ c.if-is_err.true) c.insert.ensures.err in
    kept-back c.self.inside.numbers c.insert.new.self c.self.inside.entries.items c.truncate.new.self.items same (cut c.self.inside.entries.items _ _ _ long c.truncate.ensures.items _ c.in_ok-push.ensures.items) c.self.invariant

pub invariant_of-self-else-is_err : goal.invariant_of-self-else-is_err
invariant_of-self-else-is_err c =
    let long : c.len-number.result ≡ length c.self.inside.entries.items = omega (arith, c.self.inside.entries.ok.0, c.len-number.ensures) in
    let u = of-ok c.insert.result (sym c.is_err.ensures.value ∙ c.if-is_err.false) c.insert.ensures.updates in
    noted-kept _ c.self.inside.entries.items _ _ c.self.view_is c.self.invariant c.args.used c.requires.before c.args.job c.in_ok-push.ensures.items c.requires.new _ (λ m e. number-here c.self.inside.numbers c.insert.new.self c.in_ok-key.key c.args.job c.in_ok-key.ensures c.len-number.result u m e ∙ ap (λ i. Some i) long) (λ m e. number-there c.self.inside.numbers c.insert.new.self c.in_ok-key.key c.args.job c.in_ok-key.ensures c.len-number.result u m e)

pub returns-clause-ok : goal.returns-clause-ok
returns-clause-ok c = noted-is _ c.self.inside.entries.items _ _ c.self.view_is c.self.invariant c.args.used c.requires.before c.args.job c.in_ok-push.ensures.items

pub returns-clause-records : goal.returns-clause-records
returns-clause-records c = noted-records _ c.self.inside.entries.items _ _ c.self.view_is c.self.invariant c.args.used c.requires.before c.args.job c.in_ok-push.ensures.items
