-- What `upgrade` writes is the document that was read, in the second format.
use Rattle.std.specs.Prelude.{◌≡◌, ◌≤◌, ℕ, Bool, List, Some, Ok, length, option_map}
use Rattle.tv_value.specs.Values.{Name, Text}
use Rattle.tv_gate.specs.Outcomes.{Giving}
use Rattle.tv_flow.specs.Flows.{Document, upgraded}
use Rattle.tv_flow.specs.Forms.{form_of}
use Rattle.tv_model.specs.Meanings.{meaning}
use Rattle.tv_top.specs.Answers.{byte_limit, json_of, reading_of}

-- For all services that are known.
module _ (knows : Name → Bool) where
  -- A text reads as a document's twin in the second format: they differ in the format alone. It is accepted unless it is too
  -- long, and means the same, whatever the services give.
  pub record IsUpgrade (d : Document) (text : Text) : Type 0 where
    pub reads : option_map form_of (json_of text) ≡ Some (Ok (upgraded d))
    pub accepted : length text ≤ byte_limit → reading_of knows text ≡ Ok (upgraded d)
    pub means : (gives : Giving) → meaning gives (upgraded d) ≡ meaning gives d

  -- these bytes are a document that is accepted, of which a text is the upgrade
  abbrev pub IsUpgradeOf : List ℕ → Text → Type 0
  IsUpgradeOf bytes text = (d : Document) × (reading_of knows bytes ≡ Ok d) × IsUpgrade d text
