-- An open instance is ready for an event by any plan of its flow, and still is once another has ended.
use Rattle.std.specs.Prelude.{◌≡◌, ◌≢◌, ℕ, List, length, vec_capacity}
use Rattle.std.proofs.Common.{ap, arith, subst, sym, ◌∙◌}
use Rattle.tv_value.specs.Values.{Name, Value}
use Rattle.tv_flow.specs.Flows.{Document, Flow, Step}
use Rattle.tv_flow.specs.Views.{flow_view}
use Rattle.tv_check.specs.RunViews.{run_view}
use Rattle.tv_check.specs.declared.plans.FlowPlan.{FlowPlan}
use Rattle.tv_outputs.specs.Known.{Nodes}
use Rattle.tv_model.specs.instance.Events.{Event, gave}
use Rattle.tv_instances.specs.FramingViews.{View}
use Rattle.tv_frame.specs.Prepared.{IsReadyFor}
use Rattle.tv_frame.specs.declared.frame.Frame.{Frame}
use Rattle.tv_frame_laws.proofs.Frames.{ready-beside}
use Rattle.tv_seats.specs.Seats.{Seat}
use Rattle.tv_instances.specs.Events.{IsReadyToGive, IsReadyToSettleAt}
use Rattle.tv_instances.specs.declared.events.Spot.{Spot}
use Rattle.tv_instances.specs.declared.open.Open.{Open}
use Rattle.tv_run.specs.Changes.{HasSameRest, IsReadyIn, LeavesOthers}
use Rattle.tv_run.specs.declared.run.OpenRun.{OpenRun}
use Rattle.tv_run.proofs.Opens.{keeps-any, open-any, open-beside}

ready-for_plan :
    (flows : List (Name × Flow)) (plan other : FlowPlan) (pool : Nodes) (f : Frame) (v : View) (n : ℕ) (s : Name × Step)
    (e : Event) → flow_view other.flow ≡ v.flow → IsReadyFor flows plan pool f v n s e → IsReadyFor flows other pool f v n s e
ready-for_plan flows plan other pool f v n s e h k = record {
  keeps = keeps-any flows plan other pool f v h k.keeps;
  next = k.next;
  at = k.at;
  named = k.named;
  room = k.room;
  from = k.from;
  turns = k.turns;
  whole = k.whole;
  counted = k.counted;
  told = k.told;
  show = k.show;
  outs = k.outs;
}

pub give-by_plan :
    (d : Document) (plan other : FlowPlan) (pool : Nodes) (o : Open) (v : View) (s : Seat) (t : Name × Step) (vs : List Value)
    (x : Spot) → flow_view other.flow ≡ v.flow → IsReadyToGive d plan pool o v s t vs x
    → IsReadyToGive d other pool o v s t vs x
give-by_plan d plan other pool o v s t vs x h k = record {
  is_open = open-any d plan other pool o v h k.is_open;
  step = k.step;
  place = k.place;
  ready = ready-for_plan d.flows plan other pool o.frame v s.step t _ h k.ready;
  brings = k.brings;
  room = k.room;
}

pub settle-by_plan :
    (d : Document) (plan other : FlowPlan) (pool : Nodes) (o : Open) (v : View) (e : Event) (more : ℕ)
    → flow_view other.flow ≡ v.flow → IsReadyToSettleAt d plan pool o v e more → IsReadyToSettleAt d other pool o v e more
settle-by_plan d plan other pool o v e more h k = record {
  is_open = open-any d plan other pool o v h k.is_open;
  number = k.number;
  step = k.step;
  ready = record {
    ready = ready-for_plan d.flows plan other pool o.frame v k.number k.step e h k.ready.ready;
    outcome = k.ready.outcome;
    last = k.ready.last;
    settles = k.ready.settles;
    place = k.ready.place;
    pieces = k.ready.pieces;
  };
  can = k.can;
  brings = k.brings;
  room = k.room;
  level = k.level;
  next = k.next;
  is_level = k.is_level;
}

-- what was ready is so once another instance has ended
pub ready-still : (r s : OpenRun) (i k : ℕ) → k ≢ i → HasSameRest r s → s.due ≡ r.due → LeavesOthers r s i → (v : View)
    (n : Seat) (t : Name × Step) (vs : List Value) (x : Spot) → IsReadyIn r k v n t vs x → IsReadyIn s k v n t vs x
ready-still r s i k ne rest due leaves v n t vs x w = record {
  ready = λ c o plan at opened flow.
      let was = sym (leaves.others.others k ne) ∙ at in
      let same = leaves.regions k c o ne was opened in
      let h = w.ready c o plan was opened flow in
      subst (λ d. IsReadyToGive (run_view d) plan s.pool o v n t vs x) (sym rest.run)
      (record {
        is_open = open-beside (run_view r.run) plan r.pool s.pool o v same h.is_open;
        step = h.step;
        place = h.place;
        ready =
            ready-beside (run_view r.run).flows plan r.pool s.pool o.frame v n.step t (gave t.0 n.place vs) h.ready same
            leaves.spare;
        brings = h.brings;
        room = h.room;
      });
  room = record {
    numbers = λ c at. w.room.numbers c (sym (leaves.others.others k ne) ∙ at);
    beside = record {
      jobs =
          let room = w.room.beside.jobs in
          let long = ap (λ l. length l.items) leaves.jobs in
          let wide = ap vec_capacity leaves.jobs in
          omega (arith, room, long, wide);
      busy =
          let room = w.room.beside.busy in
          let long = ap (λ l. length l.items) leaves.busy in
          let wide = ap vec_capacity leaves.busy in
          omega (arith, room, long, wide);
      entries =
          let room = w.room.beside.entries in
          let long = ap (λ l. length l.items) rest.entries in
          let wide = ap vec_capacity rest.entries in
          omega (arith, room, long, wide, due);
    };
  };
}
