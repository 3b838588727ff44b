-- How places stand in one list of indices.
use Rattle.std.specs.Prelude.{◌≡◌, ℕ, ◌+◌, ◌≤◌, List, [], ◌∷◌, ◌++◌, length, take, drop, nat_le, Bool, true, ◌&&◌, refl}
use Rattle.std.specs.List.{list_all}
use Rattle.std.proofs.Common.{arith, ap, ◌∙◌}
use Rattle.std.proofs.Math.Seq.{drop-append_seam}
use Rattle.std.proofs.lemmas.Bool.{le-leb, leb-true, and_parts}
use Rattle.std.proofs.lemmas.List.{drop-append-le, length-append, length-drop, map-append, take-append-le, take_all}
use Rattle.std.proofs.lemmas.List.Folds.{list_all-append}
use Rattle.tv_idle.specs.declared.table.Slot.{Slot}
use Rattle.tv_idle.specs.Slots.{table_jobs}

module _ (levels : ℕ) (indices place : List ℕ) where
  abbrev lies : Slot → Bool
  lies s = nat_le (s.start + levels) (length indices)

  still-shown : (slots : List Slot) → list_all lies slots ≡ true → table_jobs levels (indices ++ place) slots ≡ table_jobs levels indices slots
  still-shown [] h = refl
  still-shown (s ∷ slots) h =
      let b = and_parts (lies s) (list_all lies slots) h in
      let le : s.start + levels ≤ length indices = leb-true (s.start + levels) (length indices) b.0 in
      let inside : s.start ≤ length indices = omega (arith, le) in
      let rest : levels ≤ length (drop s.start indices) = let e = length-drop s.start indices in omega (arith, e, le) in
      ap (λ is. (s.number, take levels is) ∷ table_jobs levels (indices ++ place) slots) (drop-append-le s.start indices place inside)
      ∙ ap (λ is. (s.number, is) ∷ table_jobs levels (indices ++ place) slots) (take-append-le levels (drop s.start indices) place rest)
      ∙ ap (λ js. (s.number, take levels (drop s.start indices)) ∷ js) (still-shown slots b.1)

  still-lies : (slots : List Slot) → list_all lies slots ≡ true → list_all (λ s. nat_le (s.start + levels) (length (indices ++ place))) slots ≡ true
  still-lies [] h = refl
  still-lies (s ∷ slots) h =
      let b = and_parts (lies s) (list_all lies slots) h in
      let le : s.start + levels ≤ length indices = leb-true (s.start + levels) (length indices) b.0 in
      let many = length-append indices place in
      ap (λ c. c && list_all (λ s. nat_le (s.start + levels) (length (indices ++ place))) slots) (le-leb (s.start + levels) (length (indices ++ place)) (omega (arith, le, many)))
      ∙ still-lies slots b.1

  module _ (long : length place ≡ levels) (slots : List Slot) (h : list_all lies slots ≡ true) (s : Slot) (starts : s.start ≡ length indices) where
    pub pushed-shown : table_jobs levels (indices ++ place) (slots ++ s ∷ []) ≡ table_jobs levels indices slots ++ (s.number, place) ∷ []
    pushed-shown =
        map-append (λ (s : Slot). (s.number, take levels (drop s.start (indices ++ place)))) slots (s ∷ [])
        ∙ ap (λ js. js ++ (s.number, take levels (drop s.start (indices ++ place))) ∷ []) (still-shown slots h)
        ∙ ap (λ is. table_jobs levels indices slots ++ (s.number, take levels is) ∷ []) (ap (λ k. drop k (indices ++ place)) starts ∙ drop-append_seam indices place)
        ∙ ap (λ is. table_jobs levels indices slots ++ (s.number, is) ∷ []) (take_all levels place (omega (arith, long)))

    pub pushed-lies : list_all (λ s. nat_le (s.start + levels) (length (indices ++ place))) (slots ++ s ∷ []) ≡ true
    pushed-lies =
        let many = length-append indices place in
        list_all-append (λ s. nat_le (s.start + levels) (length (indices ++ place))) slots (s ∷ [])
        ∙ ap (λ b. b && (nat_le (s.start + levels) (length (indices ++ place)) && true)) (still-lies slots h)
        ∙ ap (λ b. b && true) (le-leb (s.start + levels) (length (indices ++ place)) (omega (arith, many, starts, long)))

pub room-left : (len len2 l cap cap2 p q : ℕ) → p + l ≡ q → len2 ≡ len + l → len + q ≤ cap → cap ≤ cap2 → len2 + p ≤ cap2
room-left len len2 l cap cap2 p q a b c d = omega arith
