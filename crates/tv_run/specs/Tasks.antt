-- What a task asks, and what a run gives, as pieces.
use Rattle.std.specs.List.{list_all}
use Rattle.std.specs.Prelude.{IsTrue, List, ℕ}
use Rattle.tv_value.specs.Values.{Name}
use Rattle.tv_cell.specs.PieceValues.{piece_values}
use Rattle.tv_cell.specs.Soundness.{is_sound}
use Rattle.tv_cell.specs.declared.piece.Piece.{Piece}
use Rattle.tv_history.specs.Answers.{Question}
use Rattle.tv_history.specs.declared.ticket.Ticket.{Ticket}

-- the values that the pieces stand for are asked
abbrev pub asked : Ticket → Name → List Piece → List (Name × ℕ) → Question
asked t s ps os = record { ticket = t; service = s; inputs = piece_values ps; outputs = os }

-- the pieces of outputs point at something throughout
abbrev pub AreSoundOutputs : List (Name × Piece) → Type 0
AreSoundOutputs os = IsTrue (list_all (λ (o : Name × Piece). is_sound o.1) os)
