-- What `clap` is told and what it finds, as the definition of the reading says it.
use Rattle.std.specs.Prelude.{◌≡◌, ℕ, max, true, List, [], ◌∷◌, Option, Some, None, IsSomeAnd}
use Rattle.std.proofs.Common.{ap, ap₂, inl, inr, refl, subst, sym, ◌∙◌}
use Rattle.clap.proofs.OnLiterals.{clap_on_literals}
use Rattle.clap.specs.Words.{App, HasKind, IsAmong, Kinds, Row, Rule, fault_of, is_simple, is_simple_and_free, kind_of, matches_of, new_rule, rule_of}
use Rattle.clap.specs.declared.error.Error.{Error}
use Rattle.clap.specs.declared.error.kind.ErrorKind.{ErrorKind}
use Rattle.clap.specs.declared.error.kind.ErrorKind.TheVariants as kind
use Rattle.clap.specs.declared.builder.arg.Arg.{Arg}
use Rattle.clap.specs.declared.builder.range.ValueRange.{ValueRange}
use Rattle.tv_value.specs.Values.{Text}
use Rattle.tv_words.specs.Reading.{Found, command_line, found_in, reading_of, unless_refused}

abbrev pub one_or_two : ValueRange
one_or_two = record { start_inclusive = 1; end_inclusive = 2 }

pub range-given : (o : Option ValueRange) (low high : ℕ) → IsSomeAnd o (λ r. r ≡ record { start_inclusive = low; end_inclusive = max high low })
    → low ≡ 1 → high ≡ 2 → o ≡ Some one_or_two
range-given None low high h l m = absurd h
range-given (Some r) low high h l m = ap Some (h ∙ ap₂ (λ (a b : ℕ). record { start_inclusive = a; end_inclusive = max b a }) l m)

-- an argument that is required, with a number of values
pub rule-of-required : (a b d : Arg) (id : Text) (range : Option ValueRange) → rule_of a ≡ new_rule id → b ≡ record a { required = true }
    → d ≡ record b { num_vals = d.num_vals } → d.num_vals ≡ range → rule_of d ≡ record (new_rule id) { required = true; range = range }
rule-of-required a b d id range is required set given =
    ap rule_of set ∙ ap₂ (λ (x : Arg) (r : Option ValueRange). rule_of (record x { num_vals = r })) required given
    ∙ ap (λ (r : Rule). record r { required = true; range = range }) is

-- ---- what is found

command-line-is-simple : is_simple command_line ≡ true
unfolding clap_on_literals
command-line-is-simple = refl

command-line-is-free : is_simple_and_free command_line ≡ true
unfolding clap_on_literals
command-line-is-free = refl

-- `clap` found something
pub found-read : (a : App) (words : List Text) (rows : List Row) → a ≡ command_line → (is_simple a ≡ true → rows ≡ matches_of a words)
    → (is_simple_and_free a ≡ true → fault_of a words ≡ []) → Some (found_in rows) ≡ reading_of words
found-read a words rows is matches faults =
    let at : rows ≡ matches_of command_line words = matches (ap is_simple is ∙ command-line-is-simple) ∙ ap (λ x. matches_of x words) is in
    let none : fault_of command_line words ≡ [] = ap (λ x. fault_of x words) (sym is) ∙ faults (ap is_simple_and_free is ∙ command-line-is-free) in
    ap (λ x. Some (found_in x)) at ∙ sym (ap (λ f. unless_refused f (found_in (matches_of command_line words))) none)

-- a kind among the faults
fault-refused : (f : Kinds) (k : ErrorKind) (found : Found) → IsAmong k f → None ≡ unless_refused f found
fault-refused [] k found among = absurd among
fault-refused (l ∷ f) k found among = refl

-- `clap` refused the words, and memory wasn't wanting
pub refused-read : (a : App) (words : List Text) (e : Error) → a ≡ command_line → (is_simple_and_free a ≡ true → HasKind (fault_of a words) e)
    → (kind_of e ≡ kind.OutOfMemory → ⊥) → None ≡ reading_of words
refused-read a words e is faults other =
    by (faults (ap is_simple_and_free is ∙ command-line-is-free))
  where
    by : HasKind (fault_of a words) e → None ≡ reading_of words
    by (inl memory) = absurd (other memory)
    by (inr among) = fault-refused (fault_of command_line words) (kind_of e) _ (subst (λ x. IsAmong (kind_of e) (fault_of x words)) is among)
