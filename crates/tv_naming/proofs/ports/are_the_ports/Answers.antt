use Rattle.std.proofs.Common.{◌∙◌, sym, eq-eqb, eqb, length}
use Rattle.tv_naming.proofs.Once.{same-named, not-second, all-three}
use Rattle.tv_naming.proofs.ports.are_the_ports.Goals as goal

pub returns-then-are_leaves : goal.returns-then-are_leaves
returns-then-are_leaves c =
    c.are_ports.ensures
    ∙ all-three _ _ _ (eq-eqb _ _ c.if-ports-leaves.false) (sym c.are_leaves.ensures ∙ c.if-are_leaves.true)
    ∙ sym (same-named (λ p. p.0) (λ n. n.now) c.args.ports.now c.args.leaves.now)

pub returns-else-are_leaves : goal.returns-else-are_leaves
returns-else-are_leaves c = c.if-are_leaves.false ∙ not-second (eqb (length c.args.ports.now) (length c.args.leaves.now)) _ _ (sym c.are_leaves.ensures ∙ c.if-are_leaves.false) ∙ sym (same-named (λ p. p.0) (λ n. n.now) c.args.ports.now c.args.leaves.now)
