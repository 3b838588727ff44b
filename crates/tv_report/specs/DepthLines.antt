-- The lines of `check`: what each port is declared and delivered.
use Rattle.std.specs.Prelude.{ℕ, ◌+◌, [], ◌∷◌, ◌++◌, codes, decimal, flat_map}
use Rattle.tv_value.specs.Values.{Text, Name}
use Rattle.tv_flow.specs.Flows.{Feed, Step, Flow, Document}
use Rattle.tv_check.specs.Tables.{step_level}
use Rattle.tv_check.specs.CheckedDepths.{feed_depth, flow_depths}

-- words with a blank between each two, and a line feed
abbrev pub port_line : Text → Name → Name → Name → ℕ → ℕ → Text
port_line word f s p declared delivered =
    word ++ codes " " ++ f ++ codes " " ++ s ++ codes " " ++ p ++ codes " " ++ decimal declared
    ++ codes " " ++ decimal delivered ++ 10 ∷ []

abbrev pub end_line : Name → Name → ℕ → Text
end_line f p delivered = codes "flow " ++ f ++ codes " " ++ p ++ codes " " ++ decimal delivered
    ++ 10 ∷ []

-- what feeds a port of a flow delivers, before any wrapping
abbrev pub fed_depth : Flow → Feed → ℕ
fed_depth f from = feed_depth f.inputs (flow_depths f) from

-- a step: its inputs, then its outputs, each of which is delivered by so many levels deeper than declared
abbrev pub step_lines : Name → Flow → Name × Step → Text
step_lines n f s =
    flat_map (λ i. port_line (codes "in") n s.0 i.0 i.1.depth (fed_depth f i.1.from)) s.1.inputs
    ++ flat_map (λ o. port_line (codes "out") n s.0 o.0 o.1 (o.1 + step_level f s.1)) s.1.outputs

-- a flow: its steps, then its outputs
abbrev pub flow_lines : Name × Flow → Text
flow_lines f = flat_map (step_lines f.0 f.1) f.1.steps
    ++ flat_map (λ o. end_line f.0 o.0 (fed_depth f.1 o.1)) f.1.outputs

-- all flows, in the order of the document, which is the byte order of their names, as it is of steps and ports
abbrev pub depth_text : Document → Text
depth_text d = flat_map flow_lines d.flows
