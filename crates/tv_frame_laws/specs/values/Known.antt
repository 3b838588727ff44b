-- What a frame knows of the outputs of steps, of feeds and of ports.
use Rattle.std.specs.Prelude.{◌+◌, slice_index_or}
use Rattle.tv_value.specs.Values.{Name, Value}
use Rattle.tv_flow.specs.Flows.{Feed, Flow, StepInput}
use Rattle.tv_naming.specs.Numbers.{position}
use Rattle.tv_parts.specs.Partials.{Partial}
use Rattle.tv_check.specs.Feeds.{outputs_of}
use Rattle.tv_cell.specs.PieceValues.{piece_values}
use Rattle.tv_outputs.specs.Known.{Nodes, known, tree_in}
use Rattle.tv_frame.specs.Delivered.{no_items}
use Rattle.tv_frame.specs.declared.frame.Frame.{Frame}
use Rattle.tv_frame.specs.Tables.{first_tree}
use Rattle.tv_frame_laws.specs.values.Parts.{feed_part, port_part}

-- the tree of output o of step t
abbrev pub tree_of : Nodes → Frame → Flow → Name → Name → Partial Value
tree_of pool f flow t o =
    tree_in (known pool f.outputs)
    (first_tree flow.steps (position t flow.steps) + position o (outputs_of flow t))

-- the value that it has for input x of its flow
abbrev pub input_of : Frame → Flow → Name → Value
input_of f flow x = slice_index_or (piece_values f.inputs) (position x flow.inputs) no_items

abbrev pub known_of_feed : Nodes → Frame → Flow → Feed → Partial Value
known_of_feed pool f flow = feed_part (input_of f flow) (tree_of pool f flow)

abbrev pub known_of_port : Nodes → Frame → Flow → StepInput → Partial Value
known_of_port pool f flow = port_part (input_of f flow) (tree_of pool f flow) flow
