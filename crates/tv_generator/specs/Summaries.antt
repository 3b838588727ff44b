-- The line of `gen`: the number, the totals of the run, and how long its result line is.
use Rattle.std.specs.Prelude.{[], codes, decimal, ◌++◌, ◌∷◌, ℕ}
use Rattle.tv_value.specs.Values.{Text}
use Rattle.tv_model.specs.Totals.{Totals}

-- gen N: jobs J attempts A bounced B failed F bytes L, and a line feed
abbrev pub summary_text : ℕ → Totals → ℕ → Text
summary_text n t bytes =
    codes "gen " ++ decimal n
    ++ codes ": jobs " ++ decimal t.jobs
    ++ codes " attempts " ++ decimal t.attempts
    ++ codes " bounced " ++ decimal t.bounced
    ++ codes " failed " ++ decimal t.failed
    ++ codes " bytes " ++ decimal bytes
    ++ 10 ∷ []
