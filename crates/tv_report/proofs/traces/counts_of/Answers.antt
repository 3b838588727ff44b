use Rattle.tv_report.proofs.AskCounts.{counted-one_more, counts-fit}
use Rattle.tv_report.proofs.traces.counts_of.Goals as goal

pub count_entry-requires : goal.count_entry-requires
count_entry-requires c k = counts-fit k c.args.entries.now c.loop-entry.entry-index c.loop-entry.counts.entries c.loop-entry-test.true c.loop-entry.end-fits c.loop-entry.invariant

pub loop-entry-preserved : goal.loop-entry-preserved
loop-entry-preserved c = counted-one_more c.args.entries.now c.loop-entry.entry-index c.entry-item.result c.loop-entry.counts.entries c.count_entry.new.counts.entries c.loop-entry-test.true c.entry-item.is c.loop-entry.invariant c.in_ok-count_entry.ensures
