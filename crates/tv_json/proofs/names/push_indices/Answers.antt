use Rattle.std.proofs.Common.{decimal, string_bytes}
use Rattle.tv_json.proofs.Joins.{joined-on}
use Rattle.tv_json.proofs.names.push_indices.Goals as goal

pub loop-place-preserved : goal.loop-place-preserved
loop-place-preserved c =
    joined-on 44 decimal (string_bytes c.args.text.now) (string_bytes c.loop-place.text) (string_bytes c.push_between.new.text) (string_bytes c.push_index.new.text) c.args.indices.now c.loop-place.place 0 c.loop-place-test.true c.loop-place.invariant c.in_ok-push_between.ensures c.in_ok-push_index.ensures
