-- A frame to which a job's result came.
use Rattle.std.specs.Prelude.{◌≡◌, ℕ, ◌≤◌, true, List, length, slice_index_or}
use Rattle.std.proofs.Common.{sym, subst}
use Rattle.tv_value.specs.Nested.{Place}
use Rattle.tv_value.specs.Values.{Name, Value}
use Rattle.tv_flow.specs.Flows.{Flow, Step}
use Rattle.tv_pool.specs.Pool.{number_of}
use Rattle.tv_stream.specs.nodes.Calls.{KeepsRegions}
use Rattle.tv_check.specs.declared.plans.FlowPlan.{FlowPlan}
use Rattle.tv_outputs.specs.Changes.{AllCanArrive, Arrive}
use Rattle.tv_outputs.specs.Known.{Nodes, depths, known, needed}
use Rattle.tv_outputs.specs.Kept.{Stand}
use Rattle.tv_intake.specs.Intaken.{waiting_things}
use Rattle.tv_model.specs.instance.Events.{gave, is_taken}
use Rattle.tv_framing.specs.Views.{View}
use Rattle.tv_frame.specs.declared.frame.Frame.{Frame}
use Rattle.tv_frame.specs.Calls.{GoesOn}
use Rattle.tv_frame.specs.Prepared.{IsReadyFor}
use Rattle.tv_frame.specs.Shown.{HasOtherTrees, IsShown, values_put}
use Rattle.tv_frame.specs.Tables.{first_tree}
use Rattle.tv_frame.proofs.Keeping.{first-is}
use Rattle.tv_frame.proofs.TreesPut.{put-given}
use Rattle.tv_frame.proofs.EventLemmas.{all-left, given-arrives, given-many, given-room, goes-on, is-after, other-trees}

-- the number of the first tree, as the code reads it, is `first`
module _ (flows : List (Name × Flow)) (plan : FlowPlan) (pool : Nodes) (f : Frame) (v : View) (n : ℕ) (s : Name × Step) (q : Place) (vs : List Value) (r : IsReadyFor flows plan pool f v n s (gave s.0 q vs)) (first : ℕ) (read : first ≡ slice_index_or f.tables.firsts.items n first) where
  first-so : first ≡ first_tree v.flow.steps n
  first-so = first-is flows plan pool f v n s r.keeps r.at first read

  pub result-arrives : AllCanArrive first (length (values_put vs)) q (depths f.outputs) (known pool f.outputs)
  result-arrives = subst (λ i. AllCanArrive i (length (values_put vs)) q (depths f.outputs) (known pool f.outputs)) (sym first-so) (given-arrives flows plan pool f v n s q vs r)

  pub result-room : needed (depths f.outputs) first (length (values_put vs)) ≤ pool.spare
  result-room = subst (λ i. needed (depths f.outputs) i (length (values_put vs)) ≤ pool.spare) (sym first-so) (given-room flows plan pool f v n s q vs r)

  pub result-goes :
      (after : Nodes) (m g : Frame) → is_taken v.events s.0 q ≡ true → HasOtherTrees f m
      → KeepsRegions pool after (number_of f.region) → Stand after m.outputs f.region → depths m.outputs ≡ depths f.outputs
      → Arrive first q (values_put vs) (known pool f.outputs) (known after m.outputs)
      → IsShown plan.wiring n m g → GoesOn flows plan after g v (gave s.0 q vs)
  result-goes after m g taken others regions stand deep arrived shown =
      goes-on flows plan pool after f g v n s (gave s.0 q vs) (waiting_things f.intakes) r taken
      (is-after f m (waiting_things f.intakes) (other-trees f m others) plan pool after g v n s (gave s.0 q vs) regions stand deep
      (put-given v s q vs (first_tree v.flow.steps n) (known pool f.outputs) (known after m.outputs) (given-many flows plan pool f v n s q vs r)
      (subst (λ i. Arrive i q (values_put vs) (known pool f.outputs) (known after m.outputs)) first-so arrived))
      (λ c t at. all-left v s.0 q vs f.intakes c t at) shown)
