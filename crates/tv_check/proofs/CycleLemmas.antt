-- Cycles of named things, by the cycles of their numbers.
use Rattle.std.specs.Prelude.{drop, ◌≡◌, ℕ, zero, suc, ◌+◌, ◌<◌, ◌≤◌, List, [], ◌∷◌, ◌++◌, length, map, Bool, true, false, ◌||◌, ◌==◌, Option, Some, None, option_map, refl, is_some, find, flat_map, if◌then◌else◌}
use Rattle.std.specs.List.{list_all, list_any, range_with_len}
use Rattle.std.specs.Ordering.{is_lt}
use Rattle.std.specs.Option.{option_map_or}
use Rattle.std.proofs.Common.{arith, get_or, ap, sym, subst, ◌∙◌, cond}
use Rattle.std.proofs.lemmas.List.{length-map, drop_more, drop_all}
use Rattle.std.proofs.lemmas.Bool.{and_parts}
use Rattle.tv_lemmas.specs.Members.{Each}
use Rattle.tv_lemmas.proofs.Orderings.{is_lt-less}
use Rattle.tv_value.specs.Values.{Name}
use Rattle.tv_value.specs.Orders.{same_name, name_cmp, named}
use Rattle.tv_value.proofs.NameLemmas.{same_name-is, same_name-refl}
use Rattle.tv_flow.specs.Formed.{is_ascending}
use Rattle.tv_naming.specs.graphs.Graphs.{vertices, comes_before, is_on_cycle, first_on_cycle}
use Rattle.tv_naming.specs.Naming.{has_name, complain_if}
use Rattle.tv_naming.specs.Numbers.{position}
use Rattle.tv_check.specs.Cycles.{reaches}
use Rattle.tv_naming.specs.Faulty.{CheckComplaint, first_of}
use Rattle.tv_check.specs.NamedGraphs.{numbers_of}
use Rattle.tv_naming.proofs.Lists.{each-at, find-same, find-map, find-each}
use Rattle.tv_naming.proofs.ByPosition.{names_of, below-differs, there, named-at}
use Rattle.tv_flow.specs.Views.{each}
use Rattle.tv_naming.proofs.Forms.{length-each, entry-each}
use Rattle.tv_naming.proofs.Told.{first-left}
use Rattle.tv_check.proofs.GraphLemmas.{next, graph, at, before-next, any-numbers, position-apart}

-- ---- the numbers of the things, in their order

range-suc : (a n : ℕ) → map suc (range_with_len a n) ≡ range_with_len (a + 1) n
range-suc a zero = refl
range-suc a (suc n) =
    let e : suc a ≡ a + 1 = omega arith in
    ap (λ k. k ∷ map suc (range_with_len (a + 1) n)) e ∙ ap (λ ks. (a + 1) ∷ ks) (range-suc (a + 1) n)

module _ {A : Type 0} where
  shifted : (x : Name × A) (ys zs : List (Name × A)) → list_all (λ m. is_lt (name_cmp x.0 m)) (names_of ys) ≡ true → map (λ y. position y.0 (x ∷ zs)) ys ≡ map suc (map (λ y. position y.0 zs) ys)
  shifted x [] zs h = refl
  shifted x (y ∷ ys) zs h =
      let b = and_parts (is_lt (name_cmp x.0 y.0)) (list_all (λ m. is_lt (name_cmp x.0 m)) (names_of ys)) h in
      ap (λ c. (if c then 0 else suc (position y.0 zs)) ∷ map (λ y. position y.0 (x ∷ zs)) ys) (below-differs x.0 y.0 (is_lt-less (name_cmp x.0 y.0) b.0))
      ∙ ap (λ ks. suc (position y.0 zs) ∷ ks) (shifted x ys zs b.1)

  pub positions : (xs : List (Name × A)) → is_ascending (names_of xs) ≡ true → map (λ x. position x.0 xs) xs ≡ range_with_len 0 (length xs)
  positions [] h = refl
  positions (x ∷ xs) h =
      let b = and_parts (list_all (λ m. is_lt (name_cmp x.0 m)) (names_of xs)) (is_ascending (names_of xs)) h in
      ap (λ c. (if c then 0 else suc (position x.0 xs)) ∷ map (λ y. position y.0 (x ∷ xs)) xs) (same_name-refl x.0)
      ∙ ap (λ ks. 0 ∷ ks) (shifted x xs xs b.0 ∙ ap (map suc) (positions xs b.1) ∙ range-suc 0 (length xs))

  -- each thing is there under its name
  abbrev pub IsThere : List (Name × A) → Name × A → Type 0
  IsThere xs x = (has_name xs x.0 ≡ true) × (named x.0 xs ≡ Some x.1)

  pub each-there : (xs : List (Name × A)) → is_ascending (names_of xs) ≡ true → Each (IsThere xs) xs
  each-there xs h = each-at (IsThere xs) xs (λ k d lt. (ap is_some (named-at xs k d h lt), named-at xs k d h lt))

  pub has-apart : (xs : List (Name × A)) (m n : Name) → has_name xs m ≡ true → has_name xs n ≡ false → same_name m n ≡ false
  has-apart xs m n hm hn = cases (same_name m n) refl
    where
      cases : (b : Bool) → same_name m n ≡ b → b ≡ false
      cases false e = refl
      cases true e = let q : true ≡ false = sym hm ∙ ap (has_name xs) (same_name-is m n e) ∙ hn in cc

-- ---- what comes before by names comes before by numbers

module _ {A : Type 0} (f : A → List Name) (xs : List (Name × A)) where
  next-away : (n : Name) → has_name xs n ≡ false → next f xs n ≡ []
  next-away n h = cases (named n xs) refl
    where
      cases : (o : Option A) → named n xs ≡ o → option_map_or f o [] ≡ []
      cases None e = refl
      cases (Some a) e = let q : true ≡ false = sym (ap is_some e) ∙ h in cc

  reaches-away : (k : ℕ) (n m : Name) → has_name xs n ≡ false → reaches (next f xs) k n m ≡ false
  reaches-away zero n m h = refl
  reaches-away (suc k) n m h = ap (list_any (λ o. same_name m o || reaches (next f xs) k o m)) (next-away n h)

  pub reach : (k : ℕ) (n m : Name) → has_name xs m ≡ true → comes_before (graph f xs) k (at f xs m) (at f xs n) ≡ reaches (next f xs) k n m
  reach zero n m h = refl
  reach (suc k) n m h =
      ap (list_any (λ u. at f xs m == u || comes_before (graph f xs) k (at f xs m) u)) (before-next f xs n)
      ∙ any-numbers f xs (λ u. at f xs m == u || comes_before (graph f xs) k (at f xs m) u) (λ o. same_name m o || reaches (next f xs) k o m)
      (λ o h'. ap (λ b. b || comes_before (graph f xs) k (at f xs m) (at f xs o)) (position-apart xs m o h h') ∙ ap (λ b. same_name m o || b) (reach k o m h))
      (λ o h'. ap (λ b. b || reaches (next f xs) k o m) (has-apart xs m o h h') ∙ reaches-away k o m h')
      (next f xs n)

  module _ (rises : is_ascending (names_of xs) ≡ true) where
    pub vertices-are : vertices (graph f xs) ≡ map (λ x. at f xs x.0) xs
    vertices-are = ap (range_with_len 0) (length-map xs (λ x. numbers_of xs (f x.1))) ∙ sym (positions xs rises)

    abbrev pub on_cycle : Name × A → Bool
    on_cycle x = reaches (next f xs) (length xs) x.0 x.0

    -- the least vertex on a cycle is the first thing that reaches itself
    pub first-reaching : first_on_cycle (graph f xs) ≡ option_map (λ x. at f xs x.0) (find on_cycle xs)
    first-reaching =
        ap (find (is_on_cycle (graph f xs))) vertices-are
        ∙ find-map (is_on_cycle (graph f xs)) (λ x. at f xs x.0) xs
        ∙ ap (option_map (λ x. at f xs x.0)) (find-same (IsThere xs) (λ x. is_on_cycle (graph f xs) (at f xs x.0)) on_cycle xs (each-there xs rises) (λ x h. ap (λ k. comes_before (graph f xs) k (at f xs x.0) (at f xs x.0)) (length-map xs (λ x. numbers_of xs (f x.1))) ∙ reach (length xs) x.0 x.0 h.0))

-- ---- the first complaint

pub first-told : {X : Type 0} (p : X → Bool) (c : X → CheckComplaint) (xs : List X) → first_of (flat_map (λ x. complain_if (p x) (c x)) xs) ≡ option_map c (find p xs)
first-told p c [] = refl
first-told p c (x ∷ xs) = cases (p x) (first-told p c xs)
  where
    cases : (b : Bool) → first_of (flat_map (λ x. complain_if (p x) (c x)) xs) ≡ option_map c (find p xs) → first_of (complain_if b (c x) ++ flat_map (λ x. complain_if (p x) (c x)) xs) ≡ option_map c (cond b (Some x) (find p xs))
    cases true h = refl
    cases false h = h

module _ {A : Type 0} (f : A → List Name) (xs : List (Name × A)) (rises : is_ascending (names_of xs) ≡ true) (c : Name → CheckComplaint) where
  abbrev pub told : Option CheckComplaint
  told = first_of (flat_map (λ x. complain_if (on_cycle f xs rises x) (c x.0)) xs)

  -- what is told where no vertex is on a cycle, and where one is the least
  pub no-cycle : first_on_cycle (graph f xs) ≡ None → told ≡ None
  no-cycle e = first-told (on_cycle f xs rises) (λ x. c x.0) xs ∙ cases (find (on_cycle f xs rises) xs) (sym (first-reaching f xs rises) ∙ e)
    where
      cases : (o : Option (Name × A)) → option_map (λ x. at f xs x.0) o ≡ None → option_map (λ x. c x.0) o ≡ None
      cases None e = refl
      cases (Some x) e = cc

  pub record IsTold (v : ℕ) : Type 0 where
    pub inside : v < length xs
    pub is : (d : Name × A) → told ≡ Some (c (get_or xs v d).0)

  pub a-cycle : (v : ℕ) → first_on_cycle (graph f xs) ≡ Some v → IsTold v
  a-cycle v e = cases (find (on_cycle f xs rises) xs) refl (sym (first-reaching f xs rises) ∙ e)
    where
      cases : (o : Option (Name × A)) → find (on_cycle f xs rises) xs ≡ o → option_map (λ x. at f xs x.0) o ≡ Some v → IsTold v
      cases None g e = cc
      cases (Some x) g e =
          let p : at f xs x.0 ≡ v = cc in
          let h = (find-each (IsThere xs) (on_cycle f xs rises) xs x (each-there xs rises) g).0 in
          let t = there x.0 xs h in
          subst IsTold p (record {
            inside = t.below;
            is = λ d. first-told (on_cycle f xs rises) (λ x. c x.0) xs ∙ ap (option_map (λ x. c x.0)) g ∙ ap (λ n. Some (c n)) (sym (t.name d));
          })

-- the same, of the code's list
module _ {A B : Type 0} (v : A → B) (f : B → List Name) (xs : List (Name × A)) (rises : is_ascending (names_of (each v xs)) ≡ true) (c : Name → CheckComplaint) (k : ℕ) (e : first_on_cycle (graph f (each v xs)) ≡ Some k) where
  pub cycle-inside : k < length xs
  cycle-inside = subst (λ n. k < n) (length-each v xs) (a-cycle f (each v xs) rises c k e).inside

  pub cycle-told : (d : Name × A) → told f (each v xs) rises c ≡ Some (c (get_or xs k d).0)
  cycle-told d = (a-cycle f (each v xs) rises c k e).is (d.0, v d.1) ∙ ap (λ y. Some (c y.0)) (entry-each v xs k d)

-- ---- what a search for the first complaint has passed

pub first-passed : (cs ds : List CheckComplaint) → first_of cs ≡ None → first_of (cs ++ ds) ≡ first_of ds
first-passed [] ds e = refl
first-passed (c ∷ cs) ds e = cc

module _ {X : Type 0} (G : X → List CheckComplaint) (xs : List X) (i : ℕ) (x : X) (lt : i < length xs) (is : x ≡ get_or xs i x) where
  rest : flat_map G (drop i xs) ≡ G x ++ flat_map G (drop (i + 1) xs)
  rest = ap (flat_map G) (drop_more xs i x lt ∙ ap (λ y. y ∷ drop (i + 1) xs) (sym is))

  pub passed : first_of (G x) ≡ None → first_of (flat_map G xs) ≡ first_of (flat_map G (drop i xs)) → first_of (flat_map G xs) ≡ first_of (flat_map G (drop (i + 1) xs))
  passed none so_far = so_far ∙ ap first_of rest ∙ first-passed (G x) (flat_map G (drop (i + 1) xs)) none

  pub stopped : (c : CheckComplaint) → first_of (G x) ≡ Some c → first_of (flat_map G xs) ≡ first_of (flat_map G (drop i xs)) → first_of (flat_map G xs) ≡ Some c
  stopped c some so_far = so_far ∙ ap first_of rest ∙ first-left (G x) (flat_map G (drop (i + 1) xs)) c some

pub passed-all : {X : Type 0} (G : X → List CheckComplaint) (xs : List X) (i : ℕ) → length xs ≤ i → first_of (flat_map G xs) ≡ first_of (flat_map G (drop i xs)) → first_of (flat_map G xs) ≡ None
passed-all G xs i past so_far = so_far ∙ ap (λ ys. first_of (flat_map G ys)) (drop_all i xs past)
