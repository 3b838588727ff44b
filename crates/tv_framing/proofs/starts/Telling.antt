-- What can be told to a matcher one after the other.
use Rattle.std.specs.Prelude.{◌≡◌, refl, ℕ, zero, suc, ◌+◌, ◌<◌, ◌≤◌, Bool, true, false, List, [], ◌∷◌, ◌++◌, length, map}
use Rattle.std.proofs.Common.{arith, sym, ap, subst, ◌∙◌, append_assoc, length-append}
use Rattle.tv_lemmas.specs.Members.{Each}
use Rattle.tv_value.specs.Nested.{Place, Tree, Trees, leaf, list, no_trees, tree}
use Rattle.tv_value.specs.Values.{Name, Scalar, Value, fault, holds_fault, text}
use Rattle.tv_value.proofs.NameLemmas.{same_name-refl}
use Rattle.tv_flow.specs.Flows.{Feed, Link, constant, input, link, merge, output}
use Rattle.tv_strategy.specs.Conditions.{number_of}
use Rattle.tv_strategy.specs.Origins.{Traced}
use Rattle.tv_strategy.specs.Splits.{same_place}
use Rattle.tv_strategy.proofs.PlaceLemmas.{same-itself}
use Rattle.tv_strategy.proofs.Sources.{each-append}
use Rattle.tv_model.specs.Instances.{value_given}
use Rattle.tv_matching.specs.Items.{Item, if_so, item}
use Rattle.tv_matching.specs.Levels.{KindAt}
use Rattle.tv_matching.specs.Matchers.{CanTellAll, Matching}
use Rattle.tv_matching.specs.Members.{Once, at_place}
use Rattle.tv_matching.specs.Tellings.{Telling}
use Rattle.tv_matching.specs.Told.{IsFit, Spot, Told, arrival, close, faulty, item_there, telling, tellings, told_kind, told_leaf, told_place, told_to}
use Rattle.tv_matching.proofs.Lists.{each-if, flat-append}
use Rattle.tv_matching.proofs.LawLemmas.{told-more}
use Rattle.tv_telling.specs.ValueTellings.{bound_told, value_told, values_told}
use Rattle.tv_framing.specs.starts.Starts.{feed_start, given_faulty, is_given, link_start, links_start}

-- ---- fits

-- a telling stands at a place that fits the levels of its leaf
abbrev pub Fits : (Name → ℕ) → Telling Spot Spot → Type 0
Fits mismatch t = KindAt (mismatch t.leaf) t.item.place t.item.kind

fits-as_told : (mismatch : Name → ℕ) (t : Told) → Fits mismatch (telling t) → IsFit mismatch t
fits-as_told mismatch (arrival p q false) h = h
fits-as_told mismatch (arrival p q true) h = h
fits-as_told mismatch (faulty p q) h = h
fits-as_told mismatch (close p q n) h = h

pub all-fit : (mismatch : Name → ℕ) (ts : List Told) → Each (Fits mismatch) (tellings ts) → Each (IsFit mismatch) ts
all-fit mismatch [] h = tt
all-fit mismatch (t ∷ ts) h = (fits-as_told mismatch t h.0, all-fit mismatch ts h.1)

module _ (mismatch : Name → ℕ) (p : Name) where
  abbrev pub AllFit : List Told → Type 0
  AllFit ts = Each (λ t. Fits mismatch (telling t)) ts

  bound-fits : (q : Place) (b : Bool) → length q ≡ mismatch p → Fits mismatch (telling (bound_told p q b))
  bound-fits q true h = h
  bound-fits q false h = h

  less : (a k b : ℕ) → a + suc k ≡ b → a < b
  less a k b e = omega (arith, e)

  longer : (q : Place) (i k : ℕ) → length q + suc k ≡ mismatch p → length (q ++ i ∷ []) + k ≡ mismatch p
  longer q i k h = ap (λ n. n + k) (length-append q (i ∷ [])) ∙ moved (length q) k ∙ h
    where
      moved : (a b : ℕ) → a + 1 + b ≡ a + suc b
      moved a b = omega arith

  none-left : (a b : ℕ) → a + 0 ≡ b → a ≡ b
  none-left a b e = omega (arith, e)

  mutual
    pub value-fits : {N : Type 0} (k : ℕ) (q : Place) (v : Tree N Scalar) → length q + k ≡ mismatch p → AllFit (value_told p k q v)
    value-fits zero q v h = (bound-fits q (holds_fault v) (none-left (length q) (mismatch p) h), tt)
    value-fits (suc k) q (leaf n (text t)) h = tt
    value-fits (suc k) q (leaf n (fault e)) h = (less (length q) k (mismatch p) h, tt)
    value-fits (suc k) q (list n ts) h = (less (length q) k (mismatch p) h, values-fit k q 0 ts h)

    values-fit : {N : Type 0} (k : ℕ) (q : Place) (i : ℕ) (ts : Trees N Scalar) → length q + suc k ≡ mismatch p → AllFit (values_told p k q i ts)
    values-fit k q i no_trees h = tt
    values-fit k q i (tree t ts) h =
        each-append (λ t. Fits mismatch (telling t)) (value_told p k (q ++ i ∷ []) t) (values_told p k q (suc i) ts) (value-fits k (q ++ i ∷ []) t (longer q i k h)) (values-fit k q (suc i) ts h)

  module _ (inputs : List (Name × Value)) where
    link-fits : (k : ℕ) (q : Place) (l : Link) → length q + k ≡ mismatch p → AllFit (link_start inputs p k q l)
    link-fits k q (input x) h = value-fits k q (value_given inputs x) h
    link-fits k q (output t o) h = tt

    links-fit : (k i : ℕ) (ls : List Link) → suc k ≡ mismatch p → AllFit (links_start inputs p k i ls)
    links-fit k i [] h = tt
    links-fit k i (l ∷ ls) h =
        each-append (λ t. Fits mismatch (telling t)) (link_start inputs p k (i ∷ []) l) (links_start inputs p k (suc i) ls) (link-fits k (i ∷ []) l (one k ∙ h)) (links-fit k (suc i) ls h)
      where
        one : (a : ℕ) → 1 + a ≡ suc a
        one a = omega arith

    some-less : (k b : ℕ) → suc k ≡ b → 0 < b
    some-less k b e = omega (arith, e)

    top : (k : ℕ) → suc k ≡ mismatch p → 0 + suc k ≡ mismatch p
    top k h = omega (arith, h)

    pub feed-fits : (k : ℕ) (f : Feed) → k ≡ mismatch p → AllFit (feed_start inputs p k f)
    feed-fits zero f h = each-if (λ t. Fits mismatch (telling t)) (is_given f) (bound_told p [] (given_faulty inputs f)) (bound-fits [] (given_faulty inputs f) h)
    feed-fits (suc k) (link l) h = link-fits (suc k) [] l (top k h)
    feed-fits (suc k) (merge ls) h = (some-less k (mismatch p) h, links-fit k 0 ls h)
    feed-fits (suc k) (constant v) h = value-fits (suc k) [] v (top k h)

-- ---- no place twice

-- items with the values that stand there stand at the same places
seen-places : (values : Name → Traced) (q : Place) (xs : List (Item Spot Spot)) → length (at_place q (map (item_there values) xs)) ≡ length (at_place q xs)
seen-places values q [] = refl
seen-places values q (x ∷ xs) = by (same_place q x.place) (seen-places values q xs)
  where
    by : (b : Bool) → length (at_place q (map (item_there values) xs)) ≡ length (at_place q xs) → length (if_so b (item_there values x) ++ at_place q (map (item_there values) xs)) ≡ length (if_so b x ++ at_place q xs)
    by true e = ap (λ n. suc n) e
    by false e = e

pub once-seen : (values : Name → Traced) (xs : List (Item Spot Spot)) → Once (map (item_there values) xs) → Once xs
once-seen values xs h q = subst (λ n. n ≤ 1) (seen-places values q xs) (h q)

-- of a part
once-first : (xs ys : List (Item Spot Spot)) → Once (xs ++ ys) → Once xs
once-first xs ys h q =
    let e : length (at_place q (xs ++ ys)) ≡ length (at_place q xs) + length (at_place q ys) = ap length (flat-append (λ x. if_so (same_place q x.place) x) xs ys) ∙ length-append (at_place q xs) (at_place q ys) in
    part (length (at_place q xs)) (length (at_place q ys)) (subst (λ n. n ≤ 1) e (h q))
  where
    part : (a b : ℕ) → a + b ≤ 1 → a ≤ 1
    part a b l = omega arith

-- where one more stands none stood there
first-free : (xs ys : List (Item Spot Spot)) (x : Item Spot Spot) → Once (xs ++ x ∷ ys) → at_place x.place xs ≡ []
first-free xs ys x h =
    let e : length (at_place x.place (xs ++ x ∷ ys)) ≡ length (at_place x.place xs) + length (at_place x.place (x ∷ ys)) = ap length (flat-append (λ y. if_so (same_place x.place y.place) y) xs (x ∷ ys)) ∙ length-append (at_place x.place xs) (at_place x.place (x ∷ ys)) in
    let own : length (at_place x.place (x ∷ ys)) ≡ 1 + length (at_place x.place ys) = ap (λ b. length (if_so b x ++ at_place x.place ys)) (same-itself x.place) ∙ one-more (length (at_place x.place ys)) in
    empty (at_place x.place xs) (none (length (at_place x.place xs)) (length (at_place x.place ys)) (subst (λ n. n ≤ 1) (e ∙ ap (λ n. length (at_place x.place xs) + n) own) (h x.place)))
  where
    one-more : (a : ℕ) → suc a ≡ 1 + a
    one-more a = omega arith

    none : (a b : ℕ) → a + (1 + b) ≤ 1 → a ≡ 0
    none a b l = omega arith

    empty : (zs : List (Item Spot Spot)) → length zs ≡ 0 → zs ≡ []
    empty [] e = refl
    empty (z ∷ zs) e = absurd (omega (arith, e))

pub can-tell : (m : Matching) (ts : List Told) → Each (IsFit (number_of m.mismatch)) ts → ((p : Name) → Once (told_to (m.told ++ ts) p)) → CanTellAll m ts
can-tell m [] fit once = tt
can-tell m (t ∷ ts) fit once =
    let p = told_leaf t in
    let split : told_to (m.told ++ t ∷ ts) p ≡ told_to m.told p ++ item (told_place t) (told_kind t) ∷ told_to ts p =
    told-more m.told (t ∷ ts) p
    ∙ ap (λ b. told_to m.told p ++ (if_so b (item (told_place t) (told_kind t)) ++ told_to ts p)) (same_name-refl p) in (
      (fit.0, first-free (told_to m.told p) (told_to ts p) (item (told_place t) (told_kind t)) (subst Once split (once p))),
      can-tell (record m { told = m.told ++ t ∷ [] }) ts fit.1 (λ n. subst (λ l. Once (told_to l n)) (sym (append_assoc m.told (t ∷ []) ts)) (once n)),
    )

pub once-part : (ts us : List Told) → ((p : Name) → Once (told_to (ts ++ us) p)) → (p : Name) → Once (told_to ts p)
once-part ts us h p = once-first (told_to ts p) (told_to us p) (subst Once (told-more ts us p) (h p))
