use Rattle.std.proofs.Common.{◌≡◌, ◌∙◌, ap, List, ℕ, [], cond, eqb, Vec, Global}
use Rattle.tv_naming.proofs.Rows.{row-set}
use Rattle.tv_naming.specs.graphs.Waiting.{waiting_at}
use Rattle.tv_naming.proofs.graphs.waiting.Waiting.take.Goals as goal

pub returns-clause-after : goal.returns-clause-after
returns-clause-after c u =
    let is_empty : c.replace.new.dest.items ≡ [] = ap (λ (vs : Vec ℕ Global). vs.items) c.replace.ensures.after ∙ c.new.ensures.items in
    row-set c.args.self.now.lists.items c.args.at c.replace.new.dest u c.requires
    ∙ ap (λ (xs : List ℕ). cond (eqb u c.args.at) xs (waiting_at c.args.self.now u)) is_empty
