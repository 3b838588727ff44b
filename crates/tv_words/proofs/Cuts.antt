-- What the methods of texts cut off.
use Rattle.std.specs.Prelude.{List, None, Option, Some, length, take, ℕ, ◌+◌, ◌-◌, ◌≡◌}
use Rattle.std.specs.Option.{MatchOption, option_and_then, option_map}
use Rattle.std.specs.Str.Pattern.{FindsCharSuffix}
use Rattle.std.proofs.Common.{Bor, ap, lit<, sym, ◌∙◌}
use Rattle.std.proofs.lemmas.Str.Pattern.{IsSplitOnceResult, split_parts, strip_suffix_char}
use Rattle.tv_value.specs.Values.{Text}
use Rattle.tv_words.specs.elements.Elements.{bracketed, closed, opened}
use Rattle.tv_words.proofs.BracketLemmas.{closed-at, closed-none, opened-at, opened-none}

-- before and after the first opening bracket
pub open-split : (t : Text) (r : Option (Bor (List ℕ) × Bor (List ℕ))) → IsSplitOnceResult 91 t r → option_map (λ (x : Bor (List ℕ) × Bor (List ℕ)). (x.0.now, x.1.now)) r ≡ opened t
open-split t None h = sym (opened-none t (split_parts 91 t None h (lit< tt)))
open-split t (Some x) h =
    let p = split_parts 91 t (Some x) h (lit< tt) in
    sym (ap opened p.0 ∙ opened-at x.0.now x.1.now p.1)

abbrev pub IsStripped : ℕ → Text → Option (Bor (List ℕ)) → Type 0
IsStripped c t r = MatchOption r (FindsCharSuffix c t None) (λ x. (n : ℕ) × FindsCharSuffix c t (Some n) × (x.now ≡ take (length t - n) t) × (length x.now + n ≡ length t))

-- before a closing bracket at the end
pub close-strip : (t : Text) (r : Option (Bor (List ℕ))) → IsStripped 93 t r → option_map (λ (x : Bor (List ℕ)). x.now) r ≡ closed t
close-strip t None h = sym (closed-none t (strip_suffix_char 93 t None h (lit< tt)))
close-strip t (Some x) h = sym (ap closed (strip_suffix_char 93 t (Some x) h (lit< tt)) ∙ closed-at x.now)

abbrev inside : Option (Text × Text) → Option (Text × Text)
inside o = option_and_then (λ p. option_map (λ x. (p.0, x)) (closed p.1)) o

abbrev beside : Text → Option Text → Option (Text × Text)
beside n o = option_map (λ x. (n, x)) o

pub no-open : (t : Text) (r : Option (Bor (List ℕ) × Bor (List ℕ))) → IsSplitOnceResult 91 t r → r ≡ None → bracketed t ≡ None
no-open t r h e = ap inside (sym (open-split t r h) ∙ ap (option_map (λ (x : Bor (List ℕ) × Bor (List ℕ)). (x.0.now, x.1.now))) e)

pub no-close : (t : Text) (n u : Bor (List ℕ)) → IsSplitOnceResult 91 t (Some (n, u)) → (r : Option (Bor (List ℕ))) → IsStripped 93 u.now r → r ≡ None → bracketed t ≡ None
no-close t n u h r k e =
    ap inside (sym (open-split t (Some (n, u)) h))
    ∙ ap (beside n.now) (sym (close-strip u.now r k) ∙ ap (option_map (λ (x : Bor (List ℕ)). x.now)) e)

pub both-cut : (t : Text) (n u x : Bor (List ℕ)) → IsSplitOnceResult 91 t (Some (n, u)) → IsStripped 93 u.now (Some x) → bracketed t ≡ Some (n.now, x.now)
both-cut t n u x h k =
    ap inside (sym (open-split t (Some (n, u)) h))
    ∙ ap (beside n.now) (sym (close-strip u.now (Some x) k))
