-- What holds of generated documents, and of their lines.
use Rattle.std.specs.Prelude.{[], codes, length, true, ◌++◌, ◌<◌, ◌^◌, ◌≡◌, ◌∷◌, ℕ}
use Rattle.tv_value.specs.Values.{Text}
use Rattle.tv_flow.specs.Formed.{is_formed}
use Rattle.tv_model.specs.RowsOfSize.{generated, inner_text, outer_text, texts_to}
use Rattle.tv_model.specs.Totals.{totals}
use Rattle.tv_model.specs.Writing.{line, meant, words}
use Rattle.tv_generator.specs.Summaries.{summary_text}

-- they are of the form
abbrev pub AreFormed : Type 0
AreFormed = (n : ℕ) → n < 2 ^ 32 → is_formed (generated n) ≡ true

-- the two lists of texts
abbrev pub TextsOfTwelve : Type 0
TextsOfTwelve =
    (texts_to 12 outer_text
    ≡ words (codes "true" ∷ codes "x1" ∷ codes "x2" ∷ codes "x3" ∷ codes "x4" ∷ codes "x5"
    ∷ codes "x6" ∷ codes "x7" ∷ codes "x8" ∷ codes "x9" ∷ codes "true" ∷ codes "x11" ∷ []))
    × (texts_to 12 inner_text
    ≡ words ([] ∷ codes "1" ∷ codes "2" ∷ codes "3" ∷ codes "4" ∷ codes "5" ∷ codes "6"
    ∷ codes "7" ∷ codes "8" ∷ codes "9" ∷ [] ∷ codes "11" ∷ []))

-- the summary of a document's run
abbrev pub summed : ℕ → Text
summed n = summary_text n (totals (meant (generated n)).jobs) (length (line (generated n)))

abbrev pub SummaryOfTen : Type 0
SummaryOfTen = summed 10 ≡ codes "gen 10: jobs 499 attempts 499 bounced 1 failed 1 bytes 775\n"
