-- The worked examples compute.
use Rattle.json.specs.Print.{escape_byte}
use Rattle.std.specs.Fmt.{digits}
use Rattle.std.specs.Prelude.{codes, length, refl, ◌≡◌}
use Rattle.std.proofs.Common.{ap, ◌∙◌}
use Rattle.tv_model.specs.RowsOfSize.{LengthOfTen, TotalsOfTen, generated}
use Rattle.tv_model.specs.Totals.{Totals}
use Rattle.tv_model.specs.Writing.{line}
use Rattle.tv_generator.specs.Stated.{SummaryOfTen, TextsOfTwelve}
use Rattle.tv_generator.specs.Summaries.{summary_text}

pub texts_of_twelve : TextsOfTwelve
unfolding digits
texts_of_twelve = (refl, refl)

totals_of_ten : TotalsOfTen
unfolding digits escape_byte
totals_of_ten = refl

length_of_ten : LengthOfTen
unfolding digits escape_byte
length_of_ten = refl

abbrev totals_told : Totals
totals_told = record { attempts = 499; bounced = 1; failed = 1; jobs = 499 }

told : summary_text 10 totals_told 775 ≡ codes "gen 10: jobs 499 attempts 499 bounced 1 failed 1 bytes 775\n"
unfolding digits
told = refl

pub summary_of_ten : SummaryOfTen
summary_of_ten =
    ap (λ t. summary_text 10 t (length (line (generated 10)))) totals_of_ten
    ∙ ap (λ n. summary_text 10 totals_told n) length_of_ten
    ∙ told
