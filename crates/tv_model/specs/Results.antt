-- The result line: the outputs by name and the totals as JSON, and a line feed.
use Rattle.std.specs.Prelude.{[], codes, map, ◌++◌, ◌∷◌}
use Rattle.serde_json.specs.Data.{Data, number, object, unsigned}
use Rattle.serde_json.specs.Written.{compact_text}
use Rattle.tv_value.specs.Printed.{json, members}
use Rattle.tv_value.specs.Values.{Text}
use Rattle.tv_model.specs.Made.{Meaning}
use Rattle.tv_model.specs.Totals.{Totals, totals}

abbrev pub totals_json : Totals → Data
totals_json t =
    object
    (members
    ((codes "attempts", number (unsigned t.attempts))
    ∷ (codes "bounced", number (unsigned t.bounced))
    ∷ (codes "failed", number (unsigned t.failed))
    ∷ (codes "jobs", number (unsigned t.jobs))
    ∷ []))

-- the outputs by name and the totals, and a line feed
abbrev pub result_line : Meaning → Text
result_line m =
    let outputs = object (members (map (λ o. (o.0, json o.1)) m.outputs)) in
    let totals = totals_json (totals m.jobs) in
    compact_text (object (members ((codes "outputs", outputs) ∷ (codes "totals", totals) ∷ [])))
    ++ 10 ∷ []
