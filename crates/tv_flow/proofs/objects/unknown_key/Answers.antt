use Rattle.std.proofs.Common.{ap, ◌∙◌, Some, option_map, string_bytes}
use Rattle.tv_flow.proofs.Keys.{first_key-unknown}
use Rattle.tv_flow.proofs.objects.unknown_key.Goals as goal

pub returns-in-Some : goal.returns-in-Some
returns-in-Some c = ap Some c.as_str.ensures.value ∙ ap (option_map string_bytes) c.in-Some.ensures ∙ first_key-unknown c.args.fields.now c.args.members.now.entries

pub returns-in-None : goal.returns-in-None
returns-in-None c = ap (option_map string_bytes) c.in-None.ensures ∙ first_key-unknown c.args.fields.now c.args.members.now.entries
