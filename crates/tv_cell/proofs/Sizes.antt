-- How large a piece is: a number that falls from a piece to those in its list, as the measure of a recursion.
use Rattle.std.specs.Prelude.{◌≡◌, ℕ, zero, suc, ◌+◌, ◌<◌, List, [], ◌∷◌, length, map}
use Rattle.std.proofs.Common.{arith, ap, sym, subst, ◌∙◌, get_or}
use Rattle.tv_cell.specs.declared.piece.Piece.{Piece, fold-Piece}
use Rattle.tv_cell.specs.declared.piece.Piece.TheViews as code
use Rattle.tv_cell.specs.declared.piece.Piece.TheFolds.{fold-roll-Piece}
use Rattle.tv_cell.specs.declared.piece.Piece.TheOpen.{Piece-F}

abbrev pub total : List ℕ → ℕ
total [] = 0
total (n ∷ ns) = n + total ns

abbrev pub size_step : Piece-F ℕ → ℕ
size_step (Piece-F.Part c q) = 1
size_step (Piece-F.List ns) = suc (suc (total ns))
size_step (Piece-F.Fault c q d) = 1

abbrev pub size : Piece → ℕ
size = fold-Piece ℕ size_step

abbrev pub sizes : List Piece → ℕ
sizes ps = suc (total (map size ps))

size-list : (ps : List Piece) → size (code.List ps) ≡ suc (sizes ps)
size-list ps = ap size (sym (code.rolls-List ps)) ∙ fold-roll-Piece _ size_step (Piece-F.List ps)

one-more : (a b c n : ℕ) → a ≡ b → b ≡ suc c → n ≡ c → n < a
one-more a b c n e f g = omega arith

-- a list of pieces is smaller than the piece
pub list-smaller : (p : Piece) (ps qs : List Piece) → p ≡ code.List ps → qs ≡ ps → sizes qs < size p
list-smaller p ps qs e f = one-more (size p) (size (code.List ps)) (sizes ps) (sizes qs) (ap size e) (size-list ps) (ap sizes f)

first-smaller : (a b : ℕ) → a < suc (a + b)
first-smaller a b = omega arith

later-smaller : (a b n : ℕ) → n < suc b → n < suc (a + b)
later-smaller a b n h = omega arith

each-smaller : (ps : List Piece) (i : ℕ) (d : Piece) → i < length ps → size (get_or ps i d) < sizes ps
each-smaller [] i d h = absurd (omega arith)
each-smaller (p ∷ ps) zero d h = first-smaller (size p) (total (map size ps))
each-smaller (p ∷ ps) (suc i) d h = later-smaller (size p) (total (map size ps)) (size (get_or ps i d)) (each-smaller ps i d (omega arith))

-- a piece is smaller than its list
pub piece-smaller : (ps : List Piece) (i : ℕ) (x : Piece) → i < length ps → x ≡ get_or ps i x → size x < sizes ps
piece-smaller ps i x h e = subst (λ (y : Piece). size y < sizes ps) (sym e) (each-smaller ps i x h)
