-- What `clap` finds in the words, by its own stated functions of a command and words.
use Rattle.std.specs.Prelude.{true, List, [], ◌∷◌, Option, Some, None, codes, unwrap_or}
use Rattle.clap.specs.Words.{App, Kinds, Row, Rule, all_of, fault_of, first_of, matches_of, new_app, new_rule, with_rule}
use Rattle.clap.specs.Simple.{on_top}
use Rattle.tv_value.specs.Values.{Text}

-- ---- the command line, as it is described to `clap`

-- the words that belong to no option: one or two, which have to be there
abbrev pub words_rule : Rule
words_rule =
    record (new_rule (codes "words")) {
      required = true;
      range = Some (record { start_inclusive = 1; end_inclusive = 2 });
    }

-- an option with one value, `--workers VALUE`
abbrev pub workers_rule : Rule
workers_rule = record (new_rule (codes "workers")) { long = Some (codes "workers") }

-- an option with one value, `--of VALUE`
abbrev pub of_rule : Rule
of_rule = record (new_rule (codes "of")) { long = Some (codes "of") }

-- the first word is no program's name
abbrev pub bare : App
bare = on_top (λ top. record top { no_binary_name = true }) (new_app (codes "taverna"))

abbrev pub command_line : App
command_line = with_rule (with_rule (with_rule bare words_rule) workers_rule) of_rule

-- ---- what is found

pub record Found : Type 0 where
  -- the words that belong to no option
  pub words : List Text
  -- the values of the options
  pub workers : Option Text
  pub of : Option Text

-- by the rows that `clap` gives
abbrev pub found_in : List Row → Found
found_in rows = record {
  words = unwrap_or (all_of (codes "words") rows) [];
  workers = first_of (codes "workers") rows;
  of = first_of (codes "of") rows;
}

-- only where `clap` has nothing to refuse in the words
abbrev pub unless_refused : Kinds → Found → Option Found
unless_refused [] found = Some found
unless_refused (kind ∷ kinds) found = None

-- what is found in the words; a request for help is refused too
abbrev pub reading_of : List Text → Option Found
reading_of words = unless_refused (fault_of command_line words)
    (found_in (matches_of command_line words))
