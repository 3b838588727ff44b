-- Lists of texts, one text more.
use Rattle.std.specs.List.{range_with_len}
use Rattle.std.specs.Prelude.{List, [], map, ℕ, ◌+◌, ◌++◌, ◌≡◌, ◌∷◌}
use Rattle.std.proofs.Common.{ap, arith, sym, ◌∙◌}
use Rattle.std.proofs.lemmas.List.FromFn.{map-range_with_len_more}
use Rattle.std.proofs.lemmas.List.{map-append}
use Rattle.tv_value.specs.Values.{Text, Value, text_value}
use Rattle.tv_generator.specs.Parts.{first_values}

pub one-more : (f : ℕ → Text) (n : ℕ) (t : Text) → t ≡ f n → first_values f n ++ text_value t ∷ [] ≡ first_values f (n + 1)
one-more f n t e =
    ap (λ u. first_values f n ++ text_value u ∷ []) e
    ∙ sym (map-append text_value (map f (range_with_len 0 n)) (f n ∷ []))
    ∙ sym (ap (map text_value) (map-range_with_len_more f 0 n n (omega arith)))
