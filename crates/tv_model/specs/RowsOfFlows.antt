-- Worked documents of several steps: what comes before what, nested flows, and where outputs come from.
use Rattle.std.specs.Prelude.{List, None, Some, [], codes, ℕ, ◌∷◌, ◌≡◌}
use Rattle.tv_value.specs.Activities.{nested}
use Rattle.tv_value.specs.Values.{Name, text_value}
use Rattle.tv_flow.specs.Flows.{Document}
use Rattle.tv_model.specs.RowsOfIteration.{two_lists}
use Rattle.tv_model.specs.Writing.{a, asked, asks, b, constant_text, document, from_input, from_step, line, made_from, o, of_flows, out, takes, takes_list, used_in, words, x}

-- ---- steps in a row

-- capitals, so many at a time, and small letters of these
abbrev pub two_steps_with : ℕ → Document
two_steps_with jobs =
    document
    ((x, 1) ∷ [])
    (
    (codes "p", record (asks (codes "upper") (takes a (from_input x) ∷ [])) { jobs = jobs })
    ∷ (codes "q", asks (codes "lower") (takes a (from_step (codes "p")) ∷ []))
    ∷ []
    )
    (out (codes "q"))
    ((x, words (codes "a" ∷ codes "b" ∷ [])) ∷ [])

abbrev pub two_steps : Document
two_steps = two_steps_with 1

-- the next step takes each item as soon as it is there
abbrev pub StreamsToNextStep : Type 0
StreamsToNextStep = asked two_steps ≡ codes "p[0]" ∷ codes "q[0]" ∷ codes "p[1]" ∷ codes "q[1]" ∷ []

-- and so it is with more jobs at a time, for one worker
abbrev pub LimitOfJobsLeavesOrder : Type 0
LimitOfJobsLeavesOrder =
    (asked (two_steps_with 2) ≡ codes "p[0]" ∷ codes "q[0]" ∷ codes "p[1]" ∷ codes "q[1]" ∷ [])
    × (line (two_steps_with 2)
    ≡ codes "{\"outputs\":{\"out\":[\"a\",\"b\"]},\"totals\":{\"attempts\":4,\"bounced\":0,\"failed\":0,\"jobs\":4}}\n")

-- two steps on one input, the second of which may have to run after the first
abbrev pub side_by_side : List Name → Document
side_by_side after =
    document
    ((x, 1) ∷ [])
    (
    (codes "p", asks (codes "upper") (takes a (from_input x) ∷ []))
    ∷ (codes "q", record (asks (codes "lower") (takes a (from_input x) ∷ [])) { after = after })
    ∷ []
    )
    ((a, from_step (codes "p")) ∷ (b, from_step (codes "q")) ∷ [])
    ((x, words (codes "A" ∷ codes "b" ∷ [])) ∷ [])

-- all jobs of the first come before those of the second
abbrev pub RunsAfter : Type 0
RunsAfter = asked (side_by_side (codes "p" ∷ [])) ≡ codes "p[0]" ∷ codes "p[1]" ∷ codes "q[0]"
    ∷ codes "q[1]" ∷ []

-- else the step of greater rank comes first
abbrev pub RunsByRank : Type 0
RunsByRank = asked (side_by_side []) ≡ codes "q[0]" ∷ codes "q[1]" ∷ codes "p[0]"
    ∷ codes "p[1]" ∷ []

-- what comes first changes no result
abbrev pub GivesTheSameInEachOrder : Type 0
GivesTheSameInEachOrder =
    (line (side_by_side (codes "p" ∷ []))
    ≡ codes "{\"outputs\":{\"a\":[\"A\",\"B\"],\"b\":[\"a\",\"b\"]},\"totals\":{\"attempts\":4,\"bounced\":0,\"failed\":0,\"jobs\":4}}\n")
    × (line (side_by_side [])
    ≡ codes "{\"outputs\":{\"a\":[\"A\",\"B\"],\"b\":[\"a\",\"b\"]},\"totals\":{\"attempts\":4,\"bounced\":0,\"failed\":0,\"jobs\":4}}\n")

-- names of genes, each once, with a prefix
abbrev pub gene_names : Document
gene_names =
    document
    ((codes "genes", 0) ∷ [])
    ((
      codes "c",
      asks (codes "concat")
          (takes a (constant_text (codes "hsa:")) ∷ takes b (from_step (codes "d")) ∷ []),
    )
    ∷ (
      codes "d",
      record (asks (codes "distinct") (takes_list a (from_step (codes "s")) ∷ [])) {
        outputs = (o, 1) ∷ [];
      },
    )
    ∷ (
      codes "j",
      asks (codes "join")
          (takes_list a (from_step (codes "c")) ∷ takes (codes "s") (constant_text (codes ";")) ∷ []),
    )
    ∷ (
      codes "s",
      record (asks (codes "split")
          (takes a (from_input (codes "genes")) ∷ takes b (constant_text (codes ","))
          ∷ [])) { outputs = (o, 1) ∷ [] },
    )
    ∷ []
    )
    (out (codes "j"))
    ((codes "genes", text_value (codes "BRCA1,TP53,BRCA1")) ∷ [])

abbrev pub JoinsGeneNames : Type 0
JoinsGeneNames = line gene_names
    ≡ codes "{\"outputs\":{\"out\":\"hsa:BRCA1;hsa:TP53\"},\"totals\":{\"attempts\":5,\"bounced\":0,\"failed\":0,\"jobs\":5}}\n"

-- ---- a nested flow

-- each text of a list through a flow of its own
abbrev pub opening : Document
opening =
    of_flows
    ((
      codes "m",
      record {
        inputs = (x, 1) ∷ [];
        steps = (
          codes "n",
          record (asks (codes "s") (takes a (from_input x) ∷ [])) {
            activities = nested (codes "s") ∷ [];
            jobs = 2;
          },
        ) ∷ [];
        outputs = out (codes "n");
      },
    )
    ∷ (
      codes "s",
      record {
        inputs = (a, 0) ∷ [];
        steps = (codes "u", asks (codes "upper") (takes a (from_input a) ∷ [])) ∷ [];
        outputs = (o, from_step (codes "u")) ∷ [];
      },
    )
    ∷ []
    )
    ((x, words (codes "a" ∷ codes "b" ∷ codes "c" ∷ [])) ∷ [])

-- both the jobs that open flows and those inside are counted
abbrev pub OpensFlowForEachItem : Type 0
OpensFlowForEachItem = line opening
    ≡ codes "{\"outputs\":{\"out\":[\"A\",\"B\",\"C\"]},\"totals\":{\"attempts\":3,\"bounced\":0,\"failed\":0,\"jobs\":6}}\n"

abbrev pub AsksInsideFlows : Type 0
AsksInsideFlows = asked opening ≡ codes "n[0]/u[]" ∷ codes "n[1]/u[]" ∷ codes "n[2]/u[]" ∷ []

-- ---- where outputs come from

abbrev pub LineageOfCross : Type 0
LineageOfCross = made_from two_lists (codes "out") (1 ∷ 0 ∷ [])
    ≡ Some (codes "x[1]" ∷ codes "y[0]" ∷ [])

abbrev pub HasNoSuchElement : Type 0
HasNoSuchElement = made_from two_lists (codes "out") (2 ∷ []) ≡ None

abbrev pub ForwardOfCross : Type 0
ForwardOfCross = used_in two_lists x (1 ∷ []) ≡ codes "out[1,0]" ∷ codes "out[1,1]" ∷ []

-- through the jobs that open flows
abbrev pub LineageThroughFlow : Type 0
LineageThroughFlow = made_from opening (codes "out") (2 ∷ []) ≡ Some (codes "x[2]" ∷ [])

abbrev pub ForwardThroughFlow : Type 0
ForwardThroughFlow = used_in opening x (0 ∷ []) ≡ codes "out[0]" ∷ []

-- what one text was made of, through four steps
abbrev pub LineageThroughSteps : Type 0
LineageThroughSteps = made_from gene_names (codes "out") [] ≡ Some (codes "genes[]" ∷ [])
