-- Steps by rank, by the order of their numbers.
use Rattle.std.proofs.lemmas.Bool.{lt-ltb, and_parts}
use Rattle.std.specs.Prelude.{nat_lt, ◌≡◌, ℕ, zero, suc, ◌≤◌, List, [], ◌∷◌, length, map, Bool, true, false, not, ◌&&◌, ◌||◌, Option, Some, None, option_map, refl, is_some, find, filter, if◌then◌else◌}
use Rattle.std.specs.List.{list_all, cons_option, range_with_len}
use Rattle.std.specs.Option.{option_map_or}
use Rattle.std.proofs.Common.{arith, get_or, ap, sym, ◌∙◌}
use Rattle.std.proofs.lemmas.List.{length-map}
use Rattle.std.proofs.lemmas.Simd.{map-map}
use Rattle.tv_lemmas.specs.Members.{Each}
use Rattle.tv_lemmas.proofs.Lists.{filter-all}
use Rattle.tv_lemmas.proofs.Members.{each-filter}
use Rattle.tv_value.specs.Values.{Name}
use Rattle.tv_value.specs.Orders.{same_name}
use Rattle.tv_flow.specs.Flows.{Step}
use Rattle.tv_flow.specs.Formed.{is_ascending}
use Rattle.tv_naming.specs.graphs.Graphs.{Graph, before, vertices, is_one_of, is_next, taken_by_least, by_least}
use Rattle.tv_naming.specs.Naming.{has_name}
use Rattle.tv_naming.specs.Numbers.{position}
use Rattle.tv_model.specs.instance.Ranks.{earlier_steps, is_among, by_rank, ranked}
use Rattle.tv_check.specs.RankNumbers.{first_at, numbers_by_rank, ranks_by_number}
use Rattle.tv_check.specs.NamedGraphs.{numbers_of, leads_inside}
use Rattle.tv_naming.proofs.Lists.{each-at, list_all-at, find-same, find-map, find-each, find-filter, filter-filter, filter-same, map-each}
use Rattle.tv_naming.proofs.ByPosition.{names_of, there, named-at, number-there}
use Rattle.tv_value.proofs.NameLemmas.{same_name-sym}
use Rattle.tv_check.proofs.GraphLemmas.{graph, at, before-next, position-apart}
use Rattle.tv_check.proofs.CycleLemmas.{IsThere, each-there, positions, vertices-are}

-- ---- names that are all there

module _ {A : Type 0} (xs : List (Name × A)) where
  abbrev pub all_there : List Name → Bool
  all_there = list_all (has_name xs)

  pub numbers-all : (ns : List Name) → all_there ns ≡ true → numbers_of xs ns ≡ map (λ n. position n xs) ns
  numbers-all [] h = refl
  numbers-all (n ∷ ns) h =
      let b = and_parts (has_name xs n) (all_there ns) h in
      ap (λ o. cons_option o (numbers_of xs ns)) (number-there xs n b.0) ∙ ap (λ ks. position n xs ∷ ks) (numbers-all ns b.1)

  among : (n : Name) (done : List Name) → has_name xs n ≡ true → all_there done ≡ true → is_one_of (map (λ m. position m xs) done) (position n xs) ≡ is_among done n
  among n [] h g = refl
  among n (m ∷ done) h g =
      let b = and_parts (has_name xs m) (all_there done) g in
      ap (λ c. c || is_one_of (map (λ m. position m xs) done) (position n xs)) (position-apart xs n m h b.0) ∙ ap (λ c. same_name n m || c) (among n done h b.1)

  all-among : (ns done : List Name) → all_there ns ≡ true → all_there done ≡ true → list_all (is_one_of (map (λ m. position m xs) done)) (map (λ n. position n xs) ns) ≡ list_all (is_among done) ns
  all-among [] done h g = refl
  all-among (n ∷ ns) done h g =
      let b = and_parts (has_name xs n) (all_there ns) h in
      ap (λ c. c && list_all (is_one_of (map (λ m. position m xs) done)) (map (λ n. position n xs) ns)) (among n done b.0 g) ∙ ap (λ c. is_among done n && c) (all-among ns done b.1 g)

  module _ (f : A → List Name) where
    -- a thing, with what comes directly before it
    pub record IsEntry (x : Name × A) : Type 0 where
      pub has : has_name xs x.0 ≡ true
      pub leads : all_there (f x.1) ≡ true
      pub numbers : before (graph f xs) (at f xs x.0) ≡ map (λ n. position n xs) (f x.1)

    pub entry : is_ascending (names_of xs) ≡ true → leads_inside f xs ≡ true → Each IsEntry xs
    entry h g = each-at IsEntry xs (λ k d lt.
        let e = named-at xs k d h lt in
        let l = list_all-at (λ x. list_all (has_name xs) (f x.1)) xs k d g lt in
        record {
          has = ap is_some e;
          leads = l;
          numbers = before-next f xs (get_or xs k d).0 ∙ ap (λ o. numbers_of xs (option_map_or f o [])) e ∙ numbers-all (f (get_or xs k d).1) l;
        })

-- ---- the steps that are taken are there

module _ (P : Name × Step → Type 0) where
  pub each-by_rank : (k : ℕ) (done : List Name) (ys : List (Name × Step)) → Each P ys → Each P (by_rank k done ys)
  each-by_rank zero done ys h = tt
  each-by_rank (suc k) done ys h =
      cases (find (λ s. list_all (is_among done) (earlier_steps s.1)) ys) refl (λ s. each-by_rank k (s.0 ∷ done) (filter (λ t. not (same_name s.0 t.0)) ys) (each-filter P (λ t. not (same_name s.0 t.0)) ys h))
    where
      cases : (o : Option (Name × Step)) → find (λ s. list_all (is_among done) (earlier_steps s.1)) ys ≡ o → ((s : Name × Step) → Each P (by_rank k (s.0 ∷ done) (filter (λ t. not (same_name s.0 t.0)) ys))) → Each P (option_map_or (λ s. s ∷ by_rank k (s.0 ∷ done) (filter (λ t. not (same_name s.0 t.0)) ys)) o [])
      cases None e g = tt
      cases (Some s) e g = (find-each P (λ s. list_all (is_among done) (earlier_steps s.1)) ys s h e, g s)

pub each-ranked : (P : Name × Step → Type 0) (xs : List (Name × Step)) → Each P xs → Each P (ranked xs)
each-ranked P xs h = each-by_rank P (length xs) [] xs h

-- ---- taken by names, and by numbers

module _ (xs : List (Name × Step)) (rises : is_ascending (names_of xs) ≡ true) (inside : leads_inside earlier_steps xs ≡ true) where
  abbrev steps_graph : Graph
  steps_graph = graph earlier_steps xs

  abbrev number : Name × Step → ℕ
  number s = position s.0 xs

  abbrev is_left : List Name → Name × Step → Bool
  is_left done t = not (is_among done t.0)

  abbrev is_due : List Name → Name × Step → Bool
  is_due done s = list_all (is_among done) (earlier_steps s.1)

  -- the next by number is the next by name
  next-found : (done : List Name) → all_there xs done ≡ true → find (is_next steps_graph (map (λ n. position n xs) done)) (vertices steps_graph) ≡ option_map number (find (is_due done) (filter (is_left done) xs))
  next-found done h =
      let taken = map (λ n. position n xs) done in
      ap (find (is_next steps_graph taken)) (vertices-are earlier_steps xs rises)
      ∙ find-map (is_next steps_graph taken) number xs
      ∙ ap (option_map number) (find-same (IsEntry xs earlier_steps) (λ x. is_next steps_graph taken (number x)) (λ s. is_left done s && is_due done s) xs (entry xs earlier_steps rises inside) (λ x e.
      ap (λ c. not c && list_all (is_one_of taken) (before steps_graph (number x))) (among xs x.0 done e.has h)
      ∙ ap (λ c. is_left done x && c) (ap (list_all (is_one_of taken)) e.numbers ∙ all-among xs (earlier_steps x.1) done e.leads h))
      ∙ sym (find-filter (is_due done) (is_left done) xs))

  -- one step fewer is left
  left-after : (done : List Name) (s : Name × Step) → filter (λ t. not (same_name s.0 t.0)) (filter (is_left done) xs) ≡ filter (is_left (s.0 ∷ done)) xs
  left-after done s = filter-filter (λ t. not (same_name s.0 t.0)) (is_left done) xs ∙ filter-same _ _ xs (λ t. ap (λ c. is_left done t && not c) (same_name-sym s.0 t.0) ∙ swap (is_among done t.0) (same_name t.0 s.0))
    where
      swap : (a b : Bool) → (not a && not b) ≡ not (b || a)
      swap true true = refl
      swap true false = refl
      swap false true = refl
      swap false false = refl

  pub by-number : (k : ℕ) (done : List Name) → all_there xs done ≡ true → map number (by_rank k done (filter (is_left done) xs)) ≡ taken_by_least steps_graph k (map (λ n. position n xs) done)
  by-number zero done h = refl
  by-number (suc k) done h =
      cases (find (is_due done) (filter (is_left done) xs)) refl (λ s g. by-number k (s.0 ∷ done) (ap (λ c. c && all_there xs done) g ∙ h))
      ∙ ap (λ o. option_map_or (λ v. v ∷ taken_by_least steps_graph k (v ∷ map (λ n. position n xs) done)) o []) (sym (next-found done h))
    where
      cases : (o : Option (Name × Step)) → find (is_due done) (filter (is_left done) xs) ≡ o
          → ((s : Name × Step) → has_name xs s.0 ≡ true → map number (by_rank k (s.0 ∷ done) (filter (is_left (s.0 ∷ done)) xs)) ≡ taken_by_least steps_graph k (number s ∷ map (λ n. position n xs) done))
          → map number (option_map_or (λ s. s ∷ by_rank k (s.0 ∷ done) (filter (λ t. not (same_name s.0 t.0)) (filter (is_left done) xs))) o []) ≡ option_map_or (λ v. v ∷ taken_by_least steps_graph k (v ∷ map (λ n. position n xs) done)) (option_map number o) []
      cases None e g = refl
      cases (Some s) e g =
          let t = find-each (IsThere xs) (is_due done) (filter (is_left done) xs) s (each-filter (IsThere xs) (is_left done) xs (each-there xs rises)) e in
          ap (λ ys. number s ∷ map number (by_rank k (s.0 ∷ done) ys)) (left-after done s) ∙ ap (λ vs. number s ∷ vs) (g s t.0)

  pub ranked-numbers : map number (ranked xs) ≡ by_least steps_graph
  ranked-numbers =
      ap (λ ys. map number (by_rank (length xs) [] ys)) (sym (filter-all xs))
      ∙ by-number (length xs) [] refl
      ∙ ap (λ k. taken_by_least steps_graph k []) (sym (length-map xs (λ x. numbers_of xs (earlier_steps x.1))))

-- ---- what stands by rank

module _ (xs : List (Name × Step)) (rises : is_ascending (names_of xs) ≡ true) where
  pub ranked-there : Each (IsThere xs) (ranked xs)
  ranked-there = each-ranked (IsThere xs) xs (each-there xs rises)

  number-below : (ys : List (Name × Step)) → Each (IsThere xs) ys → list_all (λ v. nat_lt v (length xs)) (map (λ s. position s.0 xs) ys) ≡ true
  number-below [] h = refl
  number-below (y ∷ ys) h =
      ap (λ c. c && list_all (λ v. nat_lt v (length xs)) (map (λ s. position s.0 xs) ys)) (lt-ltb (position y.0 xs) (length xs) (there y.0 xs h.0.0).below) ∙ number-below ys h.1

  pub ranked-below : list_all (λ v. nat_lt v (length xs)) (numbers_by_rank xs) ≡ true
  ranked-below = number-below (ranked xs) ranked-there

  place-position : (n : Name) (ys : List (Name × Step)) → has_name xs n ≡ true → Each (IsThere xs) ys → first_at (position n xs) (map (λ s. position s.0 xs) ys) ≡ position n ys
  place-position n [] h e = refl
  place-position n (y ∷ ys) h e =
      ap (λ c. if c then 0 else suc (first_at (position n xs) (map (λ s. position s.0 xs) ys))) (position-apart xs n y.0 h e.0.0)
      ∙ ap (λ k. if same_name n y.0 then 0 else suc k) (place-position n ys h e.1)

  -- the ranks are the places among the steps by rank
  pub ranks-placed : map (λ v. first_at v (numbers_by_rank xs)) (range_with_len 0 (length xs)) ≡ ranks_by_number xs
  ranks-placed =
      ap (map (λ v. first_at v (numbers_by_rank xs))) (sym (positions xs rises))
      ∙ map-map (λ v. first_at v (numbers_by_rank xs)) (λ s. position s.0 xs) xs
      ∙ map-each (IsThere xs) _ _ xs (each-there xs rises) (λ s e. place-position s.0 (ranked xs) e.0 ranked-there)

-- ---- as many as are ranked

pub by_rank-few : (k : ℕ) (done : List Name) (ys : List (Name × Step)) → length (by_rank k done ys) ≤ k
by_rank-few zero done ys = omega arith
by_rank-few (suc k) done ys = cases (find (λ s. list_all (is_among done) (earlier_steps s.1)) ys) (λ s. by_rank-few k (s.0 ∷ done) (filter (λ t. not (same_name s.0 t.0)) ys))
  where
    cases : (o : Option (Name × Step)) → ((s : Name × Step) → length (by_rank k (s.0 ∷ done) (filter (λ t. not (same_name s.0 t.0)) ys)) ≤ k) → length (option_map_or (λ s. s ∷ by_rank k (s.0 ∷ done) (filter (λ t. not (same_name s.0 t.0)) ys)) o []) ≤ suc k
    cases None g = omega arith
    cases (Some s) g = omega (arith, g s)

pub ranked-few : (xs : List (Name × Step)) → length (numbers_by_rank xs) ≤ length xs
ranked-few xs = omega (arith, length-map (ranked xs) (λ s. position s.0 xs), by_rank-few (length xs) [] xs)
