use Rattle.std.proofs.Common.{◌≡◌, ℕ, ◌++◌, codes, decimal, Some, None, ap, sym, ◌∙◌, append_assoc}
use Rattle.std.proofs.lemmas.Bool.{cond-false}
use Rattle.tv_value.specs.Values.{holds_fault, has_depth}
use Rattle.tv_value.specs.Views.{view}
use Rattle.tv_dispatch.proofs.judgment.complaint.Goals as goal

lacks_text : (n d : ℕ) → codes "outcome value " ++ (decimal n ++ (codes " lacks depth " ++ decimal d)) ≡ codes "outcome value " ++ decimal n ++ codes " lacks depth " ++ decimal d
lacks_text n d = ap (λ t. codes "outcome value " ++ t) (sym (append_assoc (decimal n) (codes " lacks depth ") (decimal d)))

pub returns : goal.returns
returns c =
    let v = view c.args.value.now in
    let n = c.args.number in
    let d = c.args.depth in
    let lacks = Some (codes "outcome value " ++ decimal n ++ codes " lacks depth " ++ decimal d) in
    ap Some (c.of-2.ensures ∙ c.in_ok-why-2.ensures.ok ∙ lacks_text n d)
    ∙ sym (cond-false (holds_fault v) (Some (codes "outcome value " ++ decimal n ++ codes " holds an error")) _ (sym c.if-holds_fault.ensures)
    ∙ cond-false (has_depth v d) None lacks (sym c.if-has_depth.ensures))
