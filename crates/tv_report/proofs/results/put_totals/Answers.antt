use Rattle.tv_report.proofs.Growing.{adds-both}
use Rattle.tv_report.proofs.results.put_totals.Goals as goal

pub returns : goal.returns
returns c =
    adds-both c.args.out.now c.begin_object.new.out c.end_object.new.out _ _ c.in_ok-begin_object.ensures
    (adds-both c.begin_object.new.out c.put_number.new.out c.end_object.new.out _ _ c.in_ok-put_number.ensures
    (adds-both c.put_number.new.out c.put_number-2.new.out c.end_object.new.out _ _ c.in_ok-put_number-2.ensures
    (adds-both c.put_number-2.new.out c.put_number-3.new.out c.end_object.new.out _ _ c.in_ok-put_number-3.ensures
    (adds-both c.put_number-3.new.out c.put_number-4.new.out c.end_object.new.out _ _ c.in_ok-put_number-4.ensures c.in_ok-end_object.ensures))))
