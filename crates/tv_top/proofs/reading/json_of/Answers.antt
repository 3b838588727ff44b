use Rattle.std.proofs.Common.{inl, refl, true≢false, sym, ◌∙◌}
use Rattle.serde_json.specs.View.{view as json_view}
use Rattle.tv_top.proofs.Bytes.{json_of-has, json_of-none}
use Rattle.tv_top.proofs.reading.json_of.Goals as goal

pub returns-in-Ok : goal.returns-in-Ok
returns-in-Ok c = json_of-has c.args.bytes.now (json_view c.in-Ok.json) c.in-Ok.ensures.ok.0 c.in-Ok.ensures.ok.1

pub returns-else-is_memory : goal.returns-else-is_memory
returns-else-is_memory c =
    inl (json_of-none c.args.bytes.now (c.in-Err.ensures.err (λ m. true≢false (sym (c.is_memory.ensures.1 m) ∙ c.if-is_memory.false))), refl)
