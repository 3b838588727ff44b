-- What is known of a step whose iteration is gone through.
use Rattle.tv_flow.specs.Views.{flow_view}
use Rattle.tv_lineage.specs.Kept.{Groups}
use Rattle.tv_traces.specs.OfNodes.{Telling}
use Rattle.tv_traces.specs.Grouped.{AllAreGrouped}
use Rattle.tv_traces.specs.Sights.{done_in, what_in}
use Rattle.tv_traces.specs.Views.{shapes_view}
use Rattle.tv_traces.specs.declared.building.Walk.{Walk}

abbrev pub telling : Walk → Telling
telling w =
    record {
      flow = flow_view w.shown.flow.now;
      shapes = shapes_view w.shown.shapes.now;
      ports = w.ports.now;
      begins = w.starts.now;
      what = what_in w.sight.now w.step;
      settled = done_in w.sight.now w.step;
      name = w.name.now;
    }

-- the shapes' parts stand for their items
abbrev pub AreGrouped : Groups → Walk → Type 0
AreGrouped gs w = AllAreGrouped (flow_view w.shown.flow.now) gs (shapes_view w.shown.shapes.now)
