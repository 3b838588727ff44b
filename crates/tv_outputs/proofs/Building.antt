-- The values of whole trees, list by list.
use Rattle.std.proofs.Common.{◌≡◌, ◌≤◌, ◌<◌, ℕ, zero, suc, ◌+◌, ◌-◌, Bool, true, false, ◌&&◌, List, [], ◌∷◌, ◌++◌, length, take, drop, Some, refl, sym, ap, ◌∙◌, subst, add-one, append_assoc, length-drop, min, arith, get_or}
use Rattle.std.specs.Prelude.{cond, slice_get}
use Rattle.std.specs.List.{slice_range}
use Rattle.std.proofs.lemmas.Option.{slice_get_within, get_or_from_slice_get}
use Rattle.std.proofs.lemmas.List.{take_more, take_all, get_or-drop, length-take}
use Rattle.std.specs.Cmp.{first_so, second_so}
use Rattle.tv_lemmas.proofs.Tests.{from-false_true}
use Rattle.tv_value.specs.Nested.{Place, no_trees, tree, trees_of}
use Rattle.tv_value.specs.Values.{Value, list_value}
use Rattle.tv_parts.specs.Partials.{Partial, wanting, item, growing, closed, Parts, no_parts, part, part_count, part_of, part_at, known_at, whole, all_whole}
use Rattle.tv_parts.specs.Below.{value_in, values_in}
use Rattle.tv_parts.specs.Changes.{with_part, filled, arrive, close_here, close_at, is_place, CanClose, MayClose}
use Rattle.tv_parts.proofs.Changes.{close-there}
use Rattle.tv_stream.proofs.Counting.{part-with}
use Rattle.tv_outputs.specs.PartValues.{part_values, list_values}

-- ---- lists of values

pub values-listed : (ps : Parts Value) → values_in ps ≡ trees_of (part_values ps)
values-listed no_parts = refl
values-listed (part p ps) = ap (tree (value_in p)) (values-listed ps)

pub values-count : (ps : Parts Value) → length (part_values ps) ≡ part_count ps
values-count no_parts = refl
values-count (part p ps) = ap suc (values-count ps)

-- a whole part is one of the list
part-there : (ps : Parts Value) (i : ℕ) → whole (part_of ps i) ≡ true → slice_get (part_values ps) i ≡ Some (value_in (part_of ps i))
part-there no_parts i h = from-false_true h
part-there (part p ps) zero h = refl
part-there (part p ps) (suc i) h = part-there ps i h

pub value-there : (r : Partial Value) (i : ℕ) → whole (part_at r i) ≡ true → slice_get (list_values r) i ≡ Some (value_in (part_at r i))
value-there wanting i h = from-false_true h
value-there (item v) i h = from-false_true h
value-there (growing ps) i h = part-there ps i h
value-there (closed ps) i h = part-there ps i h

-- each part of a list that is all whole is
pub part-whole : (ps : Parts Value) (i : ℕ) → all_whole ps ≡ true → i < part_count ps → whole (part_of ps i) ≡ true
part-whole no_parts i h lt = absurd (none i lt)
  where
    none : (i : ℕ) → i < 0 → ⊥
    none i h = omega arith
part-whole (part p ps) zero h lt = first_so (whole p) (all_whole ps) h
part-whole (part p ps) (suc i) h lt = part-whole ps i (second_so (whole p) (all_whole ps) h) (down i (part_count ps) lt)
  where
    down : (i n : ℕ) → suc i < suc n → i < n
    down i n h = omega arith

-- ---- ranges

pub range-none : {A : Type 0} (xs : List A) (i : ℕ) → slice_range xs i i ≡ []
range-none xs i = ap (λ n. take n (drop i xs)) (gone i)
  where
    gone : (i : ℕ) → i - i ≡ 0
    gone i = omega arith

pub range-more : {A : Type 0} (xs : List A) (first i : ℕ) (x : A) → first ≤ i → slice_get xs i ≡ Some x → slice_range xs first (i + 1) ≡ slice_range xs first i ++ x ∷ []
range-more xs first i x h e =
    ap (λ n. take n (drop first xs)) (one first i h)
    ∙ take_more (drop first xs) (i - first) x (subst (λ n. i - first < n) (sym (length-drop first xs)) (within first i (length xs) h (slice_get_within xs i x e)))
    ∙ ap (λ y. slice_range xs first i ++ y ∷ []) (get_or-drop first xs (i - first) x ∙ ap (λ n. get_or xs n x) (back first i h) ∙ get_or_from_slice_get xs i x x e)
  where
    one : (f i : ℕ) → f ≤ i → (i + 1) - f ≡ (i - f) + 1
    one f i h = omega arith

    within : (f i n : ℕ) → f ≤ i → i < n → i - f < n - f
    within f i n h k = omega arith

    back : (f i : ℕ) → f ≤ i → f + (i - f) ≡ i
    back f i h = omega arith

pub range-first : {A : Type 0} (xs : List A) (n : ℕ) → slice_range xs 0 n ≡ take n xs
range-first xs n = ap (λ m. take m xs) (same n)
  where
    same : (n : ℕ) → n - 0 ≡ n
    same n = omega arith

pub range-all : {A : Type 0} (xs : List A) (n : ℕ) → length xs ≡ n → slice_range xs 0 n ≡ xs
range-all xs n e = range-first xs n ∙ take_all n xs (subst (λ m. m ≤ n) (sym e) (self n))
  where
    self : (n : ℕ) → n ≤ n
    self n = omega arith

pub range-rest : {A : Type 0} (xs : List A) (i n : ℕ) → length xs ≡ n → slice_range xs i n ≡ drop i xs
range-rest xs i n e = take_all (n - i) (drop i xs) (subst (λ m. m ≤ n - i) (sym (length-drop i xs ∙ ap (λ m. m - i) e)) (self (n - i)))
  where
    self : (n : ℕ) → n ≤ n
    self n = omega arith

-- ---- a list with another part

pub with-listed : (x : Partial Value) (ps : Parts Value) (i : ℕ) → i < part_count ps → part_values (with_part x ps i) ≡ take i (part_values ps) ++ value_in x ∷ drop (suc i) (part_values ps)
with-listed x no_parts i lt = absurd (none i lt)
  where
    none : (i : ℕ) → i < 0 → ⊥
    none i h = omega arith
with-listed x (part p ps) zero lt = refl
with-listed x (part p ps) (suc i) lt = ap (λ vs. value_in p ∷ vs) (with-listed x ps i (down i (part_count ps) lt))
  where
    down : (i n : ℕ) → suc i < suc n → i < n
    down i n h = omega arith

-- another part of the same value makes the same list
pub with-values : (x y : Partial Value) (ps : Parts Value) (i : ℕ) → value_in x ≡ value_in y → values_in (with_part x ps i) ≡ values_in (with_part y ps i)
with-values x y no_parts zero e = ap (λ v. tree v no_trees) e
with-values x y no_parts (suc i) e = ap (tree (value_in wanting)) (with-values x y no_parts i e)
with-values x y (part p ps) zero e = ap (λ v. tree v (values_in ps)) e
with-values x y (part p ps) (suc i) e = ap (tree (value_in p)) (with-values x y ps i e)

pub with-whole : (x y : Partial Value) (ps : Parts Value) (i : ℕ) → whole x ≡ whole y → all_whole (with_part x ps i) ≡ all_whole (with_part y ps i)
with-whole x y no_parts zero e = ap (λ b. b && true) e
with-whole x y no_parts (suc i) e = ap (λ b. false && b) (with-whole x y no_parts i e)
with-whole x y (part p ps) zero e = ap (λ b. b && all_whole ps) e
with-whole x y (part p ps) (suc i) e = ap (λ b. whole p && b) (with-whole x y ps i e)

-- the part is whole where the list is, and so are all others
pub with-inner : (x : Partial Value) (ps : Parts Value) (i : ℕ) → all_whole (with_part x ps i) ≡ true → whole x ≡ true
with-inner x no_parts zero h = first_so (whole x) true h
with-inner x no_parts (suc i) h = from-false_true h
with-inner x (part p ps) zero h = first_so (whole x) (all_whole ps) h
with-inner x (part p ps) (suc i) h = with-inner x ps i (second_so (whole p) (all_whole (with_part x ps i)) h)

pub with-others : (x : Partial Value) (ps : Parts Value) (i j : ℕ) → all_whole (with_part x ps i) ≡ true → j < part_count ps → (j ≡ i → ⊥) → whole (part_of ps j) ≡ true
with-others x no_parts i j h lt ne = absurd (none j lt)
  where
    none : (i : ℕ) → i < 0 → ⊥
    none i h = omega arith
with-others x (part p ps) zero zero h lt ne = absurd (ne refl)
with-others x (part p ps) zero (suc j) h lt ne = part-whole ps j (second_so (whole x) (all_whole ps) h) (down j (part_count ps) lt)
  where
    down : (i n : ℕ) → suc i < suc n → i < n
    down i n h = omega arith
with-others x (part p ps) (suc i) zero h lt ne = first_so (whole p) (all_whole (with_part x ps i)) h
with-others x (part p ps) (suc i) (suc j) h lt ne = with-others x ps i j (second_so (whole p) (all_whole (with_part x ps i)) h) (down j (part_count ps) lt) (λ e. ne (ap suc e))
  where
    down : (i n : ℕ) → suc i < suc n → i < n
    down i n h = omega arith

-- ---- closed lists

-- the tree is a closed list of this length
pub record Closes (r : Partial Value) (n : ℕ) : Type 0 where
  pub parts : Parts Value
  pub is : r ≡ closed parts
  pub count : part_count parts ≡ n

pub closes-whole : (r : Partial Value) (n : ℕ) → Closes r n → whole r ≡ true → (i : ℕ) → i < n → whole (part_at r i) ≡ true
closes-whole r n c h i lt =
    ap (λ t. whole (part_at t i)) c.is
    ∙ part-whole c.parts i (sym (ap whole c.is) ∙ h) (subst (λ m. i < m) (sym c.count) lt)

pub closes-value : (r : Partial Value) (n : ℕ) → Closes r n → value_in r ≡ list_value (trees_of (slice_range (list_values r) 0 n))
closes-value r n c =
    subst (λ t. value_in t ≡ list_value (trees_of (slice_range (list_values t) 0 n))) (sym c.is)
    (ap list_value (values-listed c.parts ∙ ap trees_of (sym (range-all (part_values c.parts) n (values-count c.parts ∙ c.count)))))

-- with a value as its part at an index
pub closes-others : (r : Partial Value) (n i : ℕ) (v : Value) → Closes r n → whole (arrive (i ∷ []) v r) ≡ true → (j : ℕ) → j < n → (j ≡ i → ⊥) → whole (part_at r j) ≡ true
closes-others r n i v c h j lt ne =
    ap (λ t. whole (part_at t j)) c.is
    ∙ with-others (item v) c.parts i j (sym (ap (λ t. whole (arrive (i ∷ []) v t)) c.is) ∙ h) (subst (λ m. j < m) (sym c.count) lt) ne

pub closes-with : (r : Partial Value) (n i : ℕ) (v : Value) → Closes r n → i < n → value_in (arrive (i ∷ []) v r) ≡ list_value (trees_of ((slice_range (list_values r) 0 i ++ v ∷ []) ++ slice_range (list_values r) (i + 1) n))
closes-with r n i v c lt =
    let ps = c.parts in
    let vs = part_values ps in
    subst (λ t. value_in (arrive (i ∷ []) v t) ≡ list_value (trees_of ((slice_range (list_values t) 0 i ++ v ∷ []) ++ slice_range (list_values t) (i + 1) n))) (sym c.is)
    (ap list_value (values-listed (with_part (item v) ps i) ∙ ap trees_of (
    with-listed (item v) ps i (subst (λ m. i < m) (sym c.count) lt)
    ∙ ap (λ us. take i vs ++ v ∷ us) (ap (λ k. drop k vs) (sym (add-one i)) ∙ sym (range-rest vs (i + 1) n (values-count ps ∙ c.count)))
    ∙ sym (append_assoc (take i vs) (v ∷ []) (slice_range vs (i + 1) n))
    ∙ ap (λ us. (us ++ v ∷ []) ++ slice_range vs (i + 1) n) (sym (range-first vs i)))))

-- there is such an item of a closed list
pub closes-has : (r : Partial Value) (n i : ℕ) → Closes r n → is_place (i ∷ []) r ≡ true → i < n
closes-has r n i c h = subst (λ m. i < m) c.count (has c.parts i (sym (ap (is_place (i ∷ [])) c.is) ∙ h))
  where
    has : (ps : Parts Value) (i : ℕ) → is_place (i ∷ []) (closed ps) ≡ true → i < part_count ps
    has ps i h = grind arith

-- ---- a piece that arrives inside a list

-- what arrives at a place arrives at the rest of it in the part, and then that part in the list
pub record Around (i : ℕ) (q : Place) (v : Value) (r : Partial Value) : Type 0 where
  pub inner_there : is_place q (part_at r i) ≡ true
  pub inner_whole : whole (arrive q v (part_at r i)) ≡ true
  pub list_there : is_place (i ∷ []) r ≡ true
  pub list_whole : (w : Value) → w ≡ value_in (arrive q v (part_at r i)) → whole (arrive (i ∷ []) w r) ≡ true
  pub list_value : (w : Value) → w ≡ value_in (arrive q v (part_at r i)) → value_in (arrive (i ∷ []) w r) ≡ value_in (arrive (i ∷ q) v r)

-- of a test with two ways
test-holds : (b c : Bool) → (cond b c false) ≡ true → (b ≡ true) × (c ≡ true)
test-holds true c h = (refl, h)
test-holds false c h = from-false_true h

test-true : (b : Bool) → b ≡ true → (cond b true false) ≡ true
test-true true h = refl
test-true false h = h

pub around : (i : ℕ) (q : Place) (v : Value) (r : Partial Value) → is_place (i ∷ q) r ≡ true → whole (arrive (i ∷ q) v r) ≡ true → Around i q v r
around i q v wanting p h = from-false_true h
around i q v (item w) p h = from-false_true p
around i q v (growing ps) p h = from-false_true h
around i q v (closed ps) p h =
    let t = test-holds _ _ p in
    let inner = with-inner (arrive q v (part_of ps i)) ps i h in
    record {
      inner_there = t.1;
      inner_whole = inner;
      list_there = test-true _ t.0;
      list_whole = λ w e. with-whole (item w) (arrive q v (part_of ps i)) ps i (sym inner) ∙ h;
      list_value = λ w e. ap list_value (with-values (item w) (arrive q v (part_of ps i)) ps i e);
    }

-- ---- a list that is closed

-- a list that is whole once it is filled had all its parts
filled-same : (ps : Parts Value) (n : ℕ) → all_whole (filled ps n) ≡ true → filled ps n ≡ ps
filled-same ps zero h = refl
filled-same no_parts (suc n) h = from-false_true h
filled-same (part p ps) (suc n) h = ap (part p) (filled-same ps n (second_so (whole p) (all_whole (filled ps n)) h))

filled-count : (ps : Parts Value) (n : ℕ) → part_count ps ≤ n → all_whole (filled ps n) ≡ true → part_count ps ≡ n
filled-count no_parts zero le h = refl
filled-count (part p ps) zero le h = absurd (none (part_count ps) le)
  where
    none : (n : ℕ) → suc n ≤ 0 → ⊥
    none n h = omega arith
filled-count no_parts (suc n) le h = from-false_true h
filled-count (part p ps) (suc n) le h = ap suc (filled-count ps n (down (part_count ps) n le) (second_so (whole p) (all_whole (filled ps n)) h))
  where
    down : (i n : ℕ) → suc i ≤ suc n → i ≤ n
    down i n h = omega arith

-- what is closed, and so whole
pub record Ended (n : ℕ) (r : Partial Value) : Type 0 where
  pub parts : (i : ℕ) → i < n → whole (part_at r i) ≡ true
  pub value : value_in (close_here n r) ≡ list_value (trees_of (slice_range (list_values r) 0 n))

pub ended : (n : ℕ) (r : Partial Value) → MayClose n r → whole (close_here n r) ≡ true → Ended n r
ended n wanting m h =
    let none = filled-count no_parts n (least n) h in
    record {
      parts = λ i lt. absurd (never-below i n none lt);
      value = ap list_value (ap values_in (filled-same no_parts n h) ∙ ap trees_of (sym (range-all [] n none)));
    }
  where
    least : (n : ℕ) → 0 ≤ n
    least n = omega arith

    never-below : (i n : ℕ) → 0 ≡ n → i < n → ⊥
    never-below i n e h = omega arith
ended n (item v) m h = absurd m
ended n (growing ps) m h =
    let same = filled-same ps n h in
    let many = filled-count ps n m h in
    record {
      parts = λ i lt. part-whole ps i (sym (ap all_whole same) ∙ h) (subst (λ k. i < k) (sym many) lt);
      value = ap list_value (ap values_in same ∙ values-listed ps ∙ ap trees_of (sym (range-all (part_values ps) n (values-count ps ∙ many))));
    }
ended n (closed ps) m h = absurd m

-- at a place inside
pub record EndedAt (q : Place) (n : ℕ) (r : Partial Value) : Type 0 where
  pub here : known_at q (close_at q n r) ≡ close_here n (known_at q r)
  pub whole_there : whole (close_here n (known_at q r)) ≡ true
  pub may : MayClose n (known_at q r)
  pub there : is_place q r ≡ true
  pub arrives : (w : Value) → w ≡ value_in (close_here n (known_at q r)) → (whole (arrive q w r) ≡ true) × (value_in (arrive q w r) ≡ value_in (close_at q n r))

pub ended-at : (q : Place) (n : ℕ) (r : Partial Value) → CanClose q n r → whole (close_at q n r) ≡ true → EndedAt q n r
ended-at [] n r can h = record {
  here = refl;
  whole_there = h;
  may = (close-there [] n r can).1;
  there = refl;
  arrives = λ w e. (refl, e);
}
ended-at (i ∷ q) n wanting can h = from-false_true h
ended-at (i ∷ q) n (item v) can h = absurd can
ended-at (i ∷ q) n (growing ps) can h = from-false_true h
ended-at (i ∷ q) n (closed ps) can h =
    let x = close_at q n (part_of ps i) in
    let inner = ended-at q n (part_of ps i) can.1 (with-inner x ps i h) in
    record {
      here = ap (known_at q) (part-with x ps i) ∙ inner.here;
      whole_there = inner.whole_there;
      may = inner.may;
      there = (close-there (i ∷ q) n (closed ps) can).0;
      arrives = λ w e. let a = inner.arrives w e in (
        with-whole (arrive q w (part_of ps i)) x ps i (a.0 ∙ sym (with-inner x ps i h)) ∙ h,
        ap list_value (with-values (arrive q w (part_of ps i)) x ps i a.1),
      );
    }

-- ---- ranges have at most as many

pub range-few : {A : Type 0} (xs : List A) (i n : ℕ) → length (slice_range xs i n) ≤ n - i
range-few xs i n = subst (λ m. m ≤ n - i) (sym (length-take (n - i) (drop i xs))) (least (n - i) (length (drop i xs)))
  where
    least : (a b : ℕ) → min a b ≤ a
    least a b = omega arith
