use Rattle.std.proofs.Common.{ap, option_map, ◌∙◌}
use Rattle.std.proofs.lemmas.Result.{IfOk-weaker}
use Rattle.clap.specs.Words.{app_of, found_of, rows_of}
use Rattle.tv_words.specs.Reading.{found_in}
use Rattle.tv_words.proofs.ReadingLemmas.{found-read, refused-read}
use Rattle.tv_words.proofs.reading.matches_of.Goals as goal

pub returns-in-Ok : goal.returns-in-Ok
returns-in-Ok c =
    found-read (app_of c.in_ok-command.command) _ (rows_of (found_of c.in-Ok.matches)) c.in_ok-command.ensures (λ e. (c.in-Ok.ensures.matches e).0) c.in-Ok.ensures.kinds

pub returns-in-Err : goal.returns-in-Err
returns-in-Err c =
    IfOk-weaker c.refused.result _ _ (λ matches h. ap (option_map (λ m. found_in (rows_of (found_of m)))) h.0
    ∙ refused-read (app_of c.in_ok-command.command) _ c.in-Err.error c.in_ok-command.ensures c.in-Err.ensures.kinds (λ e. h.1 (c.kind.ensures ∙ e))) c.refused.ensures
