-- Places as they are read part by part, and as they are printed.
use Rattle.std.specs.Prelude.{Bool, List, None, Option, Some, [], false, refl, true, ℕ, ◌++◌, ◌==◌, ◌≡◌, ◌≢◌, ◌⊎◌, ◌∷◌}
use Rattle.std.specs.List.{All, slice_split}
use Rattle.std.specs.Option.{option_and_then, option_map}
use Rattle.std.proofs.Common.{ap, append_assoc, get_or, inl, inr, sym, ◌∙◌}
use Rattle.std.proofs.lemmas.Bool.Decides.{eqb_tells}
use Rattle.std.proofs.lemmas.List.{get_or_default}
use Rattle.std.proofs.lemmas.List.Splits.{slice_split_at, slice_split_none}
use Rattle.tv_value.specs.Nested.{Place}
use Rattle.tv_value.specs.Values.{Text}
use Rattle.tv_words.specs.elements.Elements.{index_of, indices_of}
use Rattle.tv_words.proofs.BracketLemmas.{Lacks}

abbrev pub is_comma : ℕ → Bool
is_comma b = b == 44

abbrev pub parts : Text → List Text
parts t = slice_split is_comma t

-- ---- what was read so far

-- the indices of all are those so far, and then those of the rest
abbrev pub Goes : Place → Text → Text → Type 0
Goes q rest t = indices_of (parts t) ≡ option_map (λ r. q ++ r) (indices_of (parts rest))

abbrev onward : Place → Option Place → Option Place
onward q o = option_map (λ r. q ++ r) o

no-comma : (x : Text) → Lacks 44 x → All (λ b. is_comma b ≡ false) x
no-comma x h k d l = other (get_or x k d) (λ e. h k l (get_or_default x k 0 d l ∙ e))
  where
    other : (b : ℕ) → b ≢ 44 → is_comma b ≡ false
    other b n = by (eqb_tells b 44)
      where
        by : ((b == 44) ≡ true) × (b ≡ 44) ⊎ ((b == 44) ≡ false) × (b ≢ 44) → is_comma b ≡ false
        by (inl q) = absurd (n q.1)
        by (inr q) = q.0

-- the first part ends at the first comma
pub cut : (x y : Text) → Lacks 44 x → parts (x ++ 44 ∷ y) ≡ x ∷ parts y
cut x y h = slice_split_at is_comma x 44 y (no-comma x h) refl

pub whole : (x : Text) → Lacks 44 x → parts x ≡ x ∷ []
whole x h = slice_split_none is_comma x (no-comma x h)

-- a list of parts by what its first part is
abbrev first : Option ℕ → Option Place → Option Place
first o rest = option_and_then (λ i. option_map (λ q. i ∷ q) rest) o

onto : (q : Place) (i : ℕ) (o : Option Place) → option_map (λ r. q ++ r) (first (Some i) o) ≡ option_map (λ r. (q ++ i ∷ []) ++ r) o
onto q i None = refl
onto q i (Some r) = ap Some (sym (append_assoc q (i ∷ []) r))

-- one index more
pub goes-on : (q : Place) (rest t x y : Text) (i : ℕ) → Goes q rest t → rest ≡ x ++ 44 ∷ y → Lacks 44 x → index_of x ≡ Some i → Goes (q ++ i ∷ []) y t
goes-on q rest t x y i h e l f =
    h
    ∙ ap (λ u. onward q (indices_of (parts u))) e
    ∙ ap (λ ps. onward q (indices_of ps)) (cut x y l)
    ∙ ap (λ o. onward q (first o (indices_of (parts y)))) f
    ∙ onto q i (indices_of (parts y))

-- none where a part is no index
pub goes-wrong : (q : Place) (rest t x y : Text) → Goes q rest t → rest ≡ x ++ 44 ∷ y → Lacks 44 x → index_of x ≡ None → indices_of (parts t) ≡ None
goes-wrong q rest t x y h e l f =
    h
    ∙ ap (λ u. onward q (indices_of (parts u))) e
    ∙ ap (λ ps. onward q (indices_of ps)) (cut x y l)
    ∙ ap (λ o. onward q (first o (indices_of (parts y)))) f

-- the last one
pub ends : (q : Place) (rest t : Text) (i : ℕ) → Goes q rest t → Lacks 44 rest → index_of rest ≡ Some i → indices_of (parts t) ≡ Some (q ++ i ∷ [])
ends q rest t i h l f =
    h
    ∙ ap (λ ps. onward q (indices_of ps)) (whole rest l)
    ∙ ap (λ o. onward q (first o (Some []))) f

pub ends-wrong : (q : Place) (rest t : Text) → Goes q rest t → Lacks 44 rest → index_of rest ≡ None → indices_of (parts t) ≡ None
ends-wrong q rest t h l f =
    h
    ∙ ap (λ ps. onward q (indices_of ps)) (whole rest l)
    ∙ ap (λ o. onward q (first o (Some []))) f
