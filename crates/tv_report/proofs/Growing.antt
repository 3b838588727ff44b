-- Texts and tokens that grow piece by piece.
use Rattle.std.specs.Prelude.{◌≡◌, ℕ, ◌+◌, ◌<◌, ◌≤◌, List, [], ◌∷◌, ◌++◌, length, take, flat_map, get_or}
use Rattle.std.proofs.Common.{ap, sym, ◌∙◌, append_assoc}
use Rattle.std.proofs.lemmas.List.{flat_map_more, take_more, take_all}
use Rattle.json.specs.Token.{Token}
use Rattle.json.specs.Written.{Written}
use Rattle.tv_report.specs.Tokens.{Adds}

-- one piece more
pub grown-more : {X A : Type 0} (f : X → List A) (a t u : List A) (xs : List X) (i : ℕ) (x : X) → i < length xs → x ≡ get_or xs i x → t ≡ a ++ flat_map f (take i xs) → u ≡ t ++ f x → u ≡ a ++ flat_map f (take (i + 1) xs)
grown-more f a t u xs i x h e p q =
    q
    ∙ ap (λ s. s ++ f x) p
    ∙ flat_map_more f a (take i xs) x
    ∙ ap (λ ys. a ++ flat_map f ys) (ap (λ y. take i xs ++ y ∷ []) e ∙ sym (take_more xs i x h))

-- all pieces
pub grown-all : {X A : Type 0} (f : X → List A) (a t : List A) (xs : List X) (i : ℕ) → length xs ≤ i → t ≡ a ++ flat_map f (take i xs) → t ≡ a ++ flat_map f xs
grown-all f a t xs i h p = p ∙ ap (λ ys. a ++ flat_map f ys) (take_all i xs h)

-- tokens, and tokens after them
pub adds-both : (a b c : Written) (xs ys : List Token) → Adds a b xs → Adds b c ys → Adds a c (xs ++ ys)
adds-both a b c xs ys p q = (q.0 ∙ p.0, q.1 ∙ ap (λ s. s ++ ys) p.1 ∙ append_assoc a.tokens xs ys)
