-- From what `clap` found to the command.
use Rattle.std.specs.Prelude.{◌≡◌, List, [], Option, Some, None, codes, map, option_and_then, option_map, unwrap_or}
use Rattle.std.specs.Borrow.{Bor}
use Rattle.std.proofs.Common.{ap, refl, ◌∙◌}
use Rattle.clap.specs.Words.{Row, all_of, first_of}
use Rattle.tv_value.specs.Values.{Text}
use Rattle.tv_words.specs.Commands.{command_in, command_of}
use Rattle.tv_words.specs.Reading.{found_in, reading_of}

pub command-found : (rows : List Row) (all words : List Text) (workers of : Option Text) → Some (found_in rows) ≡ reading_of all
    → words ≡ unwrap_or (all_of (codes "words") rows) [] → workers ≡ first_of (codes "workers") rows → of ≡ first_of (codes "of") rows
    → command_in words workers of ≡ command_of all
command-found rows all words workers of reading e f g = (λ i. command_in (e i) (f i) (g i)) ∙ ap (option_and_then (λ x. command_in x.words x.workers x.of)) reading

-- the texts of a list that may be absent
pub texts-or-none : (o : Option (Bor (List (Bor Text)))) (d : Bor (List (Bor Text))) → d.now ≡ []
    → map (λ v. v.now) (unwrap_or o d).now ≡ unwrap_or (option_map (λ s. map (λ v. v.now) s.now) o) []
texts-or-none None d e = ap (map (λ v. v.now)) e
texts-or-none (Some s) d e = refl
