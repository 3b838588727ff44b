-- How places stand in one list of indices.
use Rattle.std.specs.Prelude.{◌≡◌, ℕ, zero, suc, ◌+◌, ◌≤◌, List, [], ◌∷◌, ◌++◌, Some, length, take, drop, nat_le, Bool, true, ◌&&◌, slice_get, slice_set, refl}
use Rattle.std.specs.List.{list_all}
use Rattle.std.proofs.Common.{arith, ap, sym, ◌∙◌}
use Rattle.std.proofs.Math.Seq.{drop-append_seam}
use Rattle.std.proofs.lemmas.Bool.{le-leb, leb-true, and_parts}
use Rattle.std.proofs.lemmas.List.{drop-append-le, length-append, length-drop, map-append, take-append-le, take_all}
use Rattle.std.proofs.lemmas.List.Folds.{list_all-append}
use Rattle.tv_seats.specs.declared.table.Row.{Row}
use Rattle.tv_seats.specs.Laid.{seat_of, table_seats}
use Rattle.tv_seats.proofs.Staging.{some-same}

abbrev pub lies : List ℕ → Row → Bool
lies indices r = nat_le (r.start + r.levels) (length indices)

module _ (indices place : List ℕ) where
  still-seat : (r : Row) → r.start + r.levels ≤ length indices → seat_of (indices ++ place) r ≡ seat_of indices r
  still-seat r le =
      let inside : r.start ≤ length indices = omega (arith, le) in
      let rest : r.levels ≤ length (drop r.start indices) = let e = length-drop r.start indices in omega (arith, e, le) in
      let same : take r.levels (drop r.start (indices ++ place)) ≡ take r.levels (drop r.start indices) =
      ap (take r.levels) (drop-append-le r.start indices place inside) ∙ take-append-le r.levels (drop r.start indices) place rest
      in
      ap (λ q. record { step = r.step; place = q; stage = r.stage }) same

  still-shown : (rows : List Row) → list_all (lies indices) rows ≡ true → table_seats (indices ++ place) rows ≡ table_seats indices rows
  still-shown [] h = refl
  still-shown (r ∷ rows) h =
      let b = and_parts (lies indices r) (list_all (lies indices) rows) h in
      let le = leb-true (r.start + r.levels) (length indices) b.0 in
      ap (λ s. s ∷ table_seats (indices ++ place) rows) (still-seat r le)
      ∙ ap (λ ss. seat_of indices r ∷ ss) (still-shown rows b.1)

  still-lies : (rows : List Row) → list_all (lies indices) rows ≡ true → list_all (lies (indices ++ place)) rows ≡ true
  still-lies [] h = refl
  still-lies (r ∷ rows) h =
      let b = and_parts (lies indices r) (list_all (lies indices) rows) h in
      let le : r.start + r.levels ≤ length indices = leb-true (r.start + r.levels) (length indices) b.0 in
      let many = length-append indices place in
      ap (λ c. c && list_all (lies (indices ++ place)) rows) (le-leb (r.start + r.levels) (length (indices ++ place)) (omega (arith, le, many)))
      ∙ still-lies rows b.1

  module _ (rows : List Row) (h : list_all (lies indices) rows ≡ true) (r : Row) (starts : r.start ≡ length indices) (long : r.levels ≡ length place) where
    pub pushed-shown : table_seats (indices ++ place) (rows ++ r ∷ []) ≡ table_seats indices rows ++ record { step = r.step; place = place; stage = r.stage } ∷ []
    pushed-shown =
        let at : take r.levels (drop r.start (indices ++ place)) ≡ place =
        ap (λ k. take r.levels (drop k (indices ++ place))) starts
        ∙ ap (take r.levels) (drop-append_seam indices place)
        ∙ take_all r.levels place (omega (arith, long))
        in
        map-append (seat_of (indices ++ place)) rows (r ∷ [])
        ∙ ap (λ ss. ss ++ seat_of (indices ++ place) r ∷ []) (still-shown rows h)
        ∙ ap (λ q. table_seats indices rows ++ record { step = r.step; place = q; stage = r.stage } ∷ []) at

    pub pushed-lies : list_all (lies (indices ++ place)) (rows ++ r ∷ []) ≡ true
    pushed-lies =
        let many = length-append indices place in
        list_all-append (lies (indices ++ place)) rows (r ∷ [])
        ∙ ap (λ b. b && (lies (indices ++ place) r && true)) (still-lies rows h)
        ∙ ap (λ b. b && true) (le-leb (r.start + r.levels) (length (indices ++ place)) (omega (arith, many, starts, long)))

pub shown-long : (indices : List ℕ) (rows : List Row) → length (table_seats indices rows) ≡ length rows
shown-long indices [] = refl
shown-long indices (r ∷ rows) = ap suc (shown-long indices rows)

pub lies-at : (indices : List ℕ) (rows : List Row) (n : ℕ) (r : Row) → list_all (lies indices) rows ≡ true → slice_get rows n ≡ Some r → r.start + r.levels ≤ length indices
lies-at indices [] n r h e = cc
lies-at indices (t ∷ rows) zero r h e =
    let b = and_parts (lies indices t) (list_all (lies indices) rows) h in
    leb-true (r.start + r.levels) (length indices) (ap (lies indices) (sym (some-same e)) ∙ b.0)
lies-at indices (t ∷ rows) (suc n) r h e = lies-at indices rows n r (and_parts (lies indices t) (list_all (lies indices) rows) h).1 e

pub shown-at : (indices : List ℕ) (rows : List Row) (n : ℕ) (r : Row) → slice_get rows n ≡ Some r → slice_get (table_seats indices rows) n ≡ Some (seat_of indices r)
shown-at indices [] n r e = cc
shown-at indices (t ∷ rows) zero r e = ap (λ t. Some (seat_of indices t)) (some-same e)
shown-at indices (t ∷ rows) (suc n) r e = shown-at indices rows n r e

pub shown-set : (indices : List ℕ) (rows : List Row) (n : ℕ) (r : Row) → table_seats indices (slice_set rows n r) ≡ slice_set (table_seats indices rows) n (seat_of indices r)
shown-set indices [] n r = refl
shown-set indices (t ∷ rows) zero r = refl
shown-set indices (t ∷ rows) (suc n) r = ap (λ ss. seat_of indices t ∷ ss) (shown-set indices rows n r)

-- one that lies as before
pub set-lies : (indices : List ℕ) (rows : List Row) (n : ℕ) (r : Row) → list_all (lies indices) rows ≡ true → lies indices r ≡ true → list_all (lies indices) (slice_set rows n r) ≡ true
set-lies indices [] n r h e = h
set-lies indices (t ∷ rows) zero r h e = ap (λ b. b && list_all (lies indices) rows) e ∙ (and_parts (lies indices t) (list_all (lies indices) rows) h).1
set-lies indices (t ∷ rows) (suc n) r h e =
    let b = and_parts (lies indices t) (list_all (lies indices) rows) h in
    ap (λ c. c && list_all (lies indices) (slice_set rows n r)) b.0 ∙ set-lies indices rows n r b.1 e
