-- What an outcome comes to, by the judgment of it.
use Rattle.std.specs.List.{list_all}
use Rattle.std.specs.Prelude.{Bool, Err, List, Ok, Result, map, true, ◌≡◌}
use Rattle.tv_value.specs.Values.{Text, Value}
use Rattle.tv_gate.specs.Outcomes.{Outcome}
use Rattle.tv_dispatch.specs.Jobs.{judged}
use Rattle.tv_cell.specs.PieceValues.{piece_values}
use Rattle.tv_cell.specs.Soundness.{is_sound}
use Rattle.tv_history.specs.Answers.{Question}
use Rattle.tv_run.specs.declared.judging.Judgment.{Judgment}
use Rattle.tv_run.specs.declared.judging.Judgment.TheVariants.{Right, Wrong}

-- the judgment that it stands for
abbrev pub judged_view : Judgment → Result (List Value) Text
judged_view (Right ps) = Ok (piece_values ps)
judged_view (Wrong why) = Err why

-- its pieces point at something throughout
abbrev pub is_sound_judged : Judgment → Bool
is_sound_judged (Right ps) = list_all is_sound ps
is_sound_judged (Wrong why) = true

-- the outcome comes to it, for the outputs that are asked
abbrev pub ComesTo : Question → Outcome → Judgment → Type 0
ComesTo q o j = judged (map (λ p. p.1) q.outputs) o ≡ judged_view j
