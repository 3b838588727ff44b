-- The check of a document: pass after pass, and the first complaint is the answer.
use Rattle.std.specs.Prelude.{List, ◌++◌, Bool, Option}
use Rattle.tv_value.specs.Values.{Name}
use Rattle.tv_flow.specs.Flows.{Document}
use Rattle.tv_naming.specs.Faulty.{CheckComplaint, first_of}
use Rattle.tv_naming.specs.Naming.{naming_complaints}
use Rattle.tv_check.specs.Cycles.{cycle_complaints, nesting_complaints, link_cycle_complaints}
use Rattle.tv_check.specs.Depthwise.{depth_complaints}
use Rattle.tv_naming.specs.Inputs.{given_complaints}

-- Names, nesting, links, depths, inputs. What a pass says counts only where those before it say nothing, as the first complaint does.
abbrev pub complaints : (Name → Bool) → Document → List CheckComplaint
complaints knows d = naming_complaints knows d ++ cycle_complaints d ++ nesting_complaints d
    ++ link_cycle_complaints d ++ depth_complaints d ++ given_complaints d

-- none where the document is accepted
abbrev pub checked : (Name → Bool) → Document → Option CheckComplaint
checked knows d = first_of (complaints knows d)
