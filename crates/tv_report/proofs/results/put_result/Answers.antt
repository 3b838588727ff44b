use Rattle.tv_report.proofs.Growing.{adds-both}
use Rattle.tv_report.proofs.results.put_result.Goals as goal

pub returns : goal.returns
returns c =
    adds-both c.args.out.now c.begin_object.new.out c.end_object.new.out _ _ c.in_ok-begin_object.ensures
    (adds-both c.begin_object.new.out c.put_key.new.out c.end_object.new.out _ _ c.in_ok-put_key.ensures
    (adds-both c.put_key.new.out c.put_outputs.new.out c.end_object.new.out _ _ c.in_ok-put_outputs.ensures
    (adds-both c.put_outputs.new.out c.put_key-2.new.out c.end_object.new.out _ _ c.in_ok-put_key-2.ensures
    (adds-both c.put_key-2.new.out c.put_totals.new.out c.end_object.new.out _ _ c.in_ok-put_totals.ensures c.in_ok-end_object.ensures))))
