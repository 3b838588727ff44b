use Rattle.std.proofs.Common.{ap, ◌∙◌}
use Rattle.tv_match.specs.Filed.{filed, fronted}
use Rattle.tv_match.proofs.Filing.{cross-cut, dot-cut}
use Rattle.tv_match.proofs.stores.Store.+cut.Goals as goal

pub returns-in-Cross : goal.returns-in-Cross
returns-in-Cross t c =
    cross-cut c.args.number c.args.self.now c.in-Cross.ends c.in-Cross.rests c.cut.new.self c.cut-in-Cross.new.self c.in-Cross.field-2 c.in-Cross.first c.in-Cross.rest _ _ c.in-Cross.is c.cut.ensures c.cut-in-Cross.ensures (c.cut-in-Cross-2.ensures ∙ ap (λ s. fronted c.args.number (filed s)) c.deref_mut.ensures.value) (c.cut-in-Cross-3.ensures ∙ ap (λ s. fronted c.args.number (filed s)) c.deref_mut-in-Cross.ensures.value)

pub returns-in-Dot : goal.returns-in-Dot
returns-in-Dot t c =
    dot-cut c.args.number c.args.self.now c.in-Dot.firsts c.cut-in-Dot.new.self c.in-Dot.rests c.cut-in-Dot-2.new.self c.in-Dot.field-2 c.in-Dot.first c.in-Dot.rest _ _ c.in-Dot.is c.cut-in-Dot.ensures c.cut-in-Dot-2.ensures (c.cut-in-Dot-3.ensures ∙ ap (λ s. fronted c.args.number (filed s)) c.deref_mut-in-Dot.ensures.value) (c.cut-in-Dot-4.ensures ∙ ap (λ s. fronted c.args.number (filed s)) c.deref_mut-in-Dot-2.ensures.value)
