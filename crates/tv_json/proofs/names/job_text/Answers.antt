use Rattle.std.proofs.Common.{◌++◌, [], ap, ◌∙◌, string_bytes}
use Rattle.tv_value.specs.Printed.{element_text}
use Rattle.tv_json.proofs.Joins.{joined-on}
use Rattle.tv_json.proofs.names.job_text.Goals as goal

pub loop-index-preserved : goal.loop-index-preserved
loop-index-preserved c =
    let level = c.index-levels-index.result in
    joined-on 47 element_text [] (string_bytes c.loop-index.text) (string_bytes c.push_between.new.text) (string_bytes c.push_level.new.text) c.as_slice-levels.result.now c.loop-index.index level c.loop-index-test.true c.loop-index.invariant c.in_ok-push_between.ensures
    (c.in_ok-push_level.ensures ∙ ap (λ l. string_bytes c.push_between.new.text ++ element_text l) c.index-levels-index.is)
