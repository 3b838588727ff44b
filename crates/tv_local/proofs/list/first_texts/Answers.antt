use Rattle.std.proofs.Common.{◌≡◌, List, map, IfOk, ap, subst, ◌∙◌}
use Rattle.tv_value.specs.Values.{Text, text_value}
use Rattle.tv_value.specs.Views.{view}
use Rattle.tv_local.specs.Reading.{text_of}
use Rattle.tv_local.proofs.Lists.{first-texts}
use Rattle.tv_local.proofs.list.first_texts.Goals as goal

pub returns : goal.returns
returns c =
    let same = ap (λ vs. map text_of (map view vs)) c.split_at.ensures.front ∙ first-texts c.args.values.now c.args.count in
    subst (λ (ts : List Text). IfOk c.copy_texts-2.result (λ vs. map view vs.items ≡ map text_value ts)) same c.copy_texts-2.ensures
