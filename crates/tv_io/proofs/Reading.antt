-- Pieces read one after the other.
use Rattle.std.proofs.Common.{◌≡◌, ℕ, ◌+◌, ◌≤◌, List, [], ◌∷◌, ◌++◌, Option, Some, refl, sym, ap, ◌∙◌, length, take, drop, append-nil, append_assoc, length-append, arith}
use Rattle.std.proofs.lemmas.List.{drop_at, drop-drop, take_at, take-append-drop, length-take-le}
use Rattle.tv_io.specs.ReadOf.{IsReadOf, IsReadOnto, IsNoneAtEnd, IsReadWhole, TakesAtMost}

-- a list of no length is empty
empty_of : (xs : List ℕ) → length xs ≡ 0 → xs ≡ []
empty_of [] h = refl
empty_of (x ∷ xs) h = absurd (omega (arith, h))

-- bytes read so far, and then a read at the end of input
pub read_whole : (before mid after : Option (List ℕ)) (old new : List ℕ) (count : ℕ) → count ≡ 0 → IsReadOf before mid old → IsReadOnto mid after old new → IsNoneAtEnd mid count
    → IsReadWhole before after new
read_whole before mid after old new count zero first second end bytes told =
    let one = first bytes told in
    let two = second.2 one.0 one.2 in
    let none : one.0 ≡ [] = (end one.0 one.2).0 zero in
    let short : length two.0 ≡ 0 = omega (arith, ap length two.1, length-append second.0 two.0, ap length none) in
    let nothing : two.0 ≡ [] = empty_of two.0 short in
    let whole : bytes ≡ new ++ two.0 = one.1 ∙ ap (λ l. old ++ l) two.1 ∙ sym (append_assoc old second.0 two.0) ∙ ap (λ l. l ++ two.0) (sym second.1) in
    (sym (whole ∙ ap (λ l. new ++ l) nothing ∙ append-nil new), two.2 ∙ ap Some nothing)

-- what was taken behind a piece, is taken together with it
pub takes_more : (most few : ℕ) (before mid after : Option (List ℕ)) (piece : List ℕ) → length piece + few ≤ most → IsReadOf before mid piece → TakesAtMost few mid after
    → TakesAtMost most before after
takes_more most few before mid after piece fits first second bytes told =
    let one = first bytes told in
    let two = second one.0 one.2 in
    let skipped : drop (length piece) bytes ≡ one.0 = ap (drop (length piece)) one.1 ∙ drop_at piece one.0 (length piece) refl in
    (length piece + two.0, omega (arith, two.1, fits), two.2 ∙ ap Some (ap (drop two.0) (sym skipped) ∙ drop-drop two.0 (length piece) bytes))

-- what a source in memory copies out is the first of what it has left
pub read_in_memory : (left items slice : List ℕ) (at count : ℕ) (copied rest : List ℕ) → drop at items ≡ left → slice ≡ items → copied ≡ take count (drop at slice)
    → count ≤ length left → IsReadOf (Some left) (Some (drop (at + count) items)) (take count (copied ++ rest))
read_in_memory left items slice at count copied rest here same copy within bytes told =
    let copy_of : copied ≡ take count left = copy ∙ ap (λ l. take count (drop at l)) same ∙ ap (take count) here in
    let full : length copied ≡ count = ap length copy_of ∙ length-take-le count left within in
    let front : take count (copied ++ rest) ≡ take count left = take_at copied rest count full ∙ copy_of in
    let behind : drop count left ≡ drop (at + count) items = ap (drop count) (sym here) ∙ drop-drop count at items in
    let is : bytes ≡ left = cc in (
      drop (at + count) items,
      is ∙ sym (take-append-drop count left) ∙ ap (λ l. l ++ drop count left) (sym front) ∙ ap (λ l. take count (copied ++ rest) ++ l) behind,
      refl,
    )
