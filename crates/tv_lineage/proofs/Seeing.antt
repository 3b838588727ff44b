-- Steps of a search: what seeing a group, an element or a job does.
use Rattle.std.specs.Prelude.{Bool, IfSome, List, None, Option, Some, [], false, length, map, refl, suc, take, true, zero, ℕ, ◌+◌, ◌++◌, ◌<◌, ◌≡◌, ◌≤◌, ◌⊎◌, ◌∷◌}
use Rattle.std.specs.BTreeSet.{insert_key}
use Rattle.std.proofs.Common.{ap, arith, get_or, get_or-set_other, get_or-set_same, inl, inr, length-append, length-set, set, subst, sym, ◌∙◌}
use Rattle.tv_value.specs.Nested.{Place}
use Rattle.tv_value.specs.Orders.{put_in_order}
use Rattle.tv_value.specs.Values.{JobName, Name}
use Rattle.tv_value.proofs.Faults.{put-as-key}
use Rattle.tv_lineage.specs.Kept.{Part, element, group, result}
use Rattle.tv_lineage.specs.Reaching.{AreInside, IsMet, IsSeen, Numbers, Search, Sees, is_met, number_of, unmet}
use Rattle.tv_lineage.specs.Touching.{Label, label_cmp}
use Rattle.tv_lineage.specs.Views.{mark_part, part_view}
use Rattle.tv_lineage.specs.declared.mark.Mark.TheVariants.{Made}
use Rattle.tv_lineage.specs.declared.mark.Mark.{Mark}
use Rattle.tv_lineage.specs.declared.mark.Part as parts
use Rattle.tv_lineage.specs.declared.mark.Part.TheVariants.{Group}
use Rattle.std.proofs.lemmas.List.{map_more}
use Rattle.std.proofs.lemmas.Bool.{true≢false, cases_eq}
use Rattle.tv_lemmas.specs.Members.{In}
use Rattle.tv_lemmas.proofs.Members.{in-append, in-left, in-map, in-right}
use Rattle.tv_lineage.proofs.Closing.{label_same, label_total}
use Rattle.tv_lineage.proofs.Rising.{in-put, of-put, rises-put}

pub last : {A : Type 0} (x : A) (xs : List A) → In x (xs ++ x ∷ [])
last x xs = in-right x xs (x ∷ []) (inl refl)

-- ---- bits

module _ (bs : List Bool) (i : ℕ) (short : suc i ≤ length bs) where
  below : suc i ≤ length bs → i < length bs
  below h = omega arith

  pub set-here : is_met (set bs i true) i ≡ true
  set-here = get_or-set_same bs i true false (below short)

  pub set-more : (j : ℕ) → is_met bs j ≡ true → is_met (set bs i true) j ≡ true
  set-more j m = by (cases_eq j i)
    where
      by : (j ≡ i) ⊎ (j ≡ i → ⊥) → is_met (set bs i true) j ≡ true
      by (inl e) = subst (λ n. is_met (set bs i true) n ≡ true) (sym e) set-here
      by (inr f) = get_or-set_other bs i j true false f ∙ m

  pub of-set : (j : ℕ) → is_met (set bs i true) j ≡ true → (is_met bs j ≡ true) ⊎ (j ≡ i)
  of-set j m = by (cases_eq j i)
    where
      by : (j ≡ i) ⊎ (j ≡ i → ⊥) → (is_met bs j ≡ true) ⊎ (j ≡ i)
      by (inl e) = inr e
      by (inr f) = inl (sym (get_or-set_other bs i j true false f) ∙ m)

-- a bit that stands there, whatever is read beyond the end
pub bit-there : (bs : List Bool) (i : ℕ) (b : Bool) → suc i ≤ length bs → b ≡ get_or bs i b → is_met bs i ≡ b
bit-there [] i b h e = absurd (none i h)
  where
    none : (i : ℕ) → suc i ≤ 0 → ⊥
    none i h = omega arith
bit-there (c ∷ bs) zero b h e = sym e
bit-there (c ∷ bs) (suc i) b h e = bit-there bs i b (lower i (length bs) h) e
  where
    lower : (i m : ℕ) → suc (suc i) ≤ suc m → suc i ≤ m
    lower i m h = omega arith

-- one bit more is one less to be met
pub unmet-set : (bs : List Bool) (i : ℕ) → suc i ≤ length bs → is_met bs i ≡ false → suc (unmet (set bs i true)) ≡ unmet bs
unmet-set [] i h e = absurd (none i h)
  where
    none : (i : ℕ) → suc i ≤ 0 → ⊥
    none i h = omega arith
unmet-set (true ∷ bs) zero h e = absurd (true≢false e)
unmet-set (false ∷ bs) zero h e = refl
unmet-set (b ∷ bs) (suc i) h e = by b (unmet-set bs i (lower i (length bs) h) e)
  where
    lower : (i m : ℕ) → suc (suc i) ≤ suc m → suc i ≤ m
    lower i m h = omega arith

    by : (b : Bool) → suc (unmet (set bs i true)) ≡ unmet bs → suc (unmet (b ∷ set bs i true)) ≡ unmet (b ∷ bs)
    by true g = g
    by false g = ap suc g

-- ---- what was seen

pub if-some : (P Q : ℕ → Type 0) → ((i : ℕ) → P i → Q i) → (o : Option ℕ) → IfSome o P → IfSome o Q
if-some P Q f None h = h
if-some P Q f (Some i) h = f i h

more-seen : (ns : Numbers) (s t : Search) → ((l : Label) → In l s.found → In l t.found) → ((i : ℕ) → IsMet s i → IsMet t i) → (p : Part) → IsSeen ns s p → IsSeen ns t p
more-seen ns s t f g (element x q) h = f (x, q) h
more-seen ns s t f g (result n) h = if-some (IsMet s) (IsMet t) g (ns n) h
more-seen ns s t f g (group i) h = g i h

module _ (ns : Numbers) (s : Search) where
  -- one and then another
  pub sees-then : (ps qs : List Part) (t u : Search) → Sees ns ps s t → Sees ns qs t u → Sees ns (ps ++ qs) s u
  sees-then ps qs t u a b = record { seen = λ p i. seen p (in-append p ps qs i); still = λ p m. b.still p (a.still p m); found = λ l i. found l (b.found l i); met = λ i m. met i (b.met i m); pending = λ i m. b.pending i (a.pending i m); due = λ i m. due i (b.due i m); rises = λ r. b.rises (a.rises r); left = b.left ∙ a.left; size = b.size ∙ a.size }
    where
      seen : (p : Part) → In p ps ⊎ In p qs → IsSeen ns u p
      seen p (inl i) = b.still p (a.seen p i)
      seen p (inr i) = b.seen p i

      found : (l : Label) → In l t.found ⊎ In (element l.0 l.1) qs → In l s.found ⊎ In (element l.0 l.1) (ps ++ qs)
      found l (inr i) = inr (in-right (element l.0 l.1) ps qs i)
      found l (inl i) = by (a.found l i)
        where
          by : In l s.found ⊎ In (element l.0 l.1) ps → In l s.found ⊎ In (element l.0 l.1) (ps ++ qs)
          by (inl j) = inl j
          by (inr j) = inr (in-left (element l.0 l.1) ps qs j)

      met : (i : ℕ) → IsMet t i ⊎ (In i u.pending × ((p : Part) × In p qs × (number_of ns p ≡ Some i))) → IsMet s i ⊎ (In i u.pending × ((p : Part) × In p (ps ++ qs) × (number_of ns p ≡ Some i)))
      met i (inr w) = inr (w.0, (w.1.0, in-right w.1.0 ps qs w.1.1, w.1.2))
      met i (inl m) = by (a.met i m)
        where
          by : IsMet s i ⊎ (In i t.pending × ((p : Part) × In p ps × (number_of ns p ≡ Some i))) → IsMet s i ⊎ (In i u.pending × ((p : Part) × In p (ps ++ qs) × (number_of ns p ≡ Some i)))
          by (inl j) = inl j
          by (inr w) = inr (b.pending i w.0, (w.1.0, in-left w.1.0 ps qs w.1.1, w.1.2))

      due : (i : ℕ) → In i t.pending ⊎ IsMet u i → In i s.pending ⊎ IsMet u i
      due i (inr m) = inr m
      due i (inl j) = by (a.due i j)
        where
          by : In i s.pending ⊎ IsMet t i → In i s.pending ⊎ IsMet u i
          by (inl o) = inl o
          by (inr m) = inr (b.still (group i) m)

  -- a group that was not met before
  pub sees-group : (i : ℕ) (bs : List Bool) (is : List ℕ) → suc i ≤ length s.met → is_met s.met i ≡ false → bs ≡ set s.met i true → is ≡ s.pending ++ i ∷ [] → Sees ns (group i ∷ []) s (record { met = bs; pending = is; found = s.found })
  sees-group i bs is short off e f = subst (λ cs. Sees ns (group i ∷ []) s (record { met = cs; pending = is; found = s.found })) (sym e) (subst (λ js. Sees ns (group i ∷ []) s (record { met = set s.met i true; pending = js; found = s.found })) (sym f) new)
    where
      t : Search
      t = record { met = set s.met i true; pending = s.pending ++ i ∷ []; found = s.found }

      seen : (p : Part) → In p (group i ∷ []) → IsSeen ns t p
      seen p (inl e) = subst (IsSeen ns t) (sym e) (set-here s.met i short)
      seen p (inr j) = absurd j

      met : (j : ℕ) → IsMet t j → IsMet s j ⊎ (In j t.pending × ((p : Part) × In p (group i ∷ []) × (number_of ns p ≡ Some j)))
      met j m = by (of-set s.met i short j m)
        where
          by : IsMet s j ⊎ (j ≡ i) → IsMet s j ⊎ (In j t.pending × ((p : Part) × In p (group i ∷ []) × (number_of ns p ≡ Some j)))
          by (inl o) = inl o
          by (inr e) = inr (subst (λ n. In n t.pending) (sym e) (last i s.pending), (group i, inl refl, ap (λ n. Some n) (sym e)))

      due : (j : ℕ) → In j s.pending ⊎ In j (i ∷ []) → In j s.pending ⊎ IsMet t j
      due j (inl o) = inl o
      due j (inr (inl e)) = inr (subst (λ n. IsMet t n) (sym e) (set-here s.met i short))
      due j (inr (inr o)) = absurd o

      count : (a b c d : ℕ) → a ≡ c + 1 → suc b ≡ d → a + b ≡ c + d
      count a b c d p q = omega arith

      new : Sees ns (group i ∷ []) s t
      new = record { seen = seen; still = more-seen ns s t (λ l m. m) (set-more s.met i short); found = λ l m. inl m; met = met; pending = λ j m. in-left j s.pending (i ∷ []) m; due = λ j m. due j (in-append j s.pending (i ∷ []) m); rises = λ r. r; left = count (length (s.pending ++ i ∷ [])) (unmet (set s.met i true)) (length s.pending) (unmet s.met) (length-append s.pending (i ∷ [])) (unmet-set s.met i short off); size = length-set s.met i true }

  -- an element
  pub sees-element : (x : Name) (q : Place) (ls : List Label) → ls ≡ insert_key label_cmp s.found (x, q) → Sees ns (element x q ∷ []) s (record { met = s.met; pending = s.pending; found = ls })
  sees-element x q ls e = subst (λ ks. Sees ns (element x q ∷ []) s (record { met = s.met; pending = s.pending; found = ks })) (sym (e ∙ put-as-key label_cmp s.found (x, q))) new
    where
      t : Search
      t = record { met = s.met; pending = s.pending; found = put_in_order label_cmp (x, q) s.found }

      put : (l : Label) → (l ≡ (x, q)) ⊎ In l s.found → In l t.found
      put l h = in-put label_cmp label_total label_same l (x, q) s.found h

      seen : (p : Part) → In p (element x q ∷ []) → IsSeen ns t p
      seen p (inl e) = subst (IsSeen ns t) (sym e) (put (x, q) (inl refl))
      seen p (inr j) = absurd j

      found : (l : Label) → (l ≡ (x, q)) ⊎ In l s.found → In l s.found ⊎ In (element l.0 l.1) (element x q ∷ [])
      found l (inl e) = inr (inl (ap (λ (k : Label). element k.0 k.1) e))
      found l (inr i) = inl i

      new : Sees ns (element x q ∷ []) s t
      new = record { seen = seen; still = more-seen ns s t (λ l m. put l (inr m)) (λ i m. m); found = λ l m. found l (of-put label_cmp label_total label_same l (x, q) s.found m); met = λ i m. inl m; pending = λ i m. m; due = λ i m. inl m; rises = λ r. rises-put label_cmp label_total label_same (x, q) s.found r; left = refl; size = refl }

  -- a job, by its group
  pub sees-job : (n : JobName) (i : ℕ) (t : Search) → ns n ≡ Some i → Sees ns (group i ∷ []) s t → Sees ns (result n ∷ []) s t
  sees-job n i t e w = record { seen = seen; still = w.still; found = λ l m. found l (w.found l m); met = λ j m. met j (w.met j m); pending = w.pending; due = w.due; rises = w.rises; left = w.left; size = w.size }
    where
      seen : (p : Part) → In p (result n ∷ []) → IsSeen ns t p
      seen p (inl g) = subst (IsSeen ns t) (sym g) (subst (λ o. IfSome o (IsMet t)) (sym e) (w.seen (group i) (inl refl)))
      seen p (inr j) = absurd j

      not_element : (x : Name) (q : Place) → element x q ≡ group i → ⊥
      not_element x q g = subst IsElement g tt
        where
          IsElement : Part → Type 0
          IsElement (element y r) = Unit {0}
          IsElement (result m) = ⊥
          IsElement (group j) = ⊥

      found : (l : Label) → In l s.found ⊎ In (element l.0 l.1) (group i ∷ []) → In l s.found ⊎ In (element l.0 l.1) (result n ∷ [])
      found l (inl m) = inl m
      found l (inr (inl g)) = absurd (not_element l.0 l.1 g)
      found l (inr (inr j)) = absurd j

      met : (j : ℕ) → IsMet s j ⊎ (In j t.pending × ((p : Part) × In p (group i ∷ []) × (number_of ns p ≡ Some j))) → IsMet s j ⊎ (In j t.pending × ((p : Part) × In p (result n ∷ []) × (number_of ns p ≡ Some j)))
      met j (inl m) = inl m
      met j (inr u) = by u.1.1
        where
          by : In u.1.0 (group i ∷ []) → IsMet s j ⊎ (In j t.pending × ((p : Part) × In p (result n ∷ []) × (number_of ns p ≡ Some j)))
          by (inl g) = inr (u.0, (result n, inl refl, e ∙ ap (number_of ns) (sym g) ∙ u.1.2))
          by (inr o) = absurd o

-- ---- one of many

pub in-get : {A : Type 0} (xs : List A) (i : ℕ) (x : A) → i < length xs → x ≡ get_or xs i x → In x xs
in-get [] i x h e = absurd (none i h)
  where
    none : (i : ℕ) → i < 0 → ⊥
    none i h = omega arith
in-get (y ∷ ys) zero x h e = inl e
in-get (y ∷ ys) (suc i) x h e = inr (in-get ys i x (lower i (length ys) h) e)
  where
    lower : (i m : ℕ) → suc i < suc m → i < m
    lower i m h = omega arith

module _ {A : Type 0} (view : A → Part) (ns : Numbers) (xs : List A) (i : ℕ) (x : A) (h : i < length xs) (e : x ≡ get_or xs i x) where
  pub sees-next : (s t u : Search) → Sees ns (map view (take i xs)) s t → Sees ns (view x ∷ []) t u → Sees ns (map view (take (i + 1) xs)) s u
  sees-next s t u a b =
      subst (λ ps. Sees ns ps s u) (ap (λ y. map view (take i xs) ++ view y ∷ []) e ∙ sym (map_more view xs i x h))
      (sees-then ns s (map view (take i xs)) (view x ∷ []) t u a b)

  pub inside-next : (m n : ℕ) → n ≡ m → AreInside ns m (map view xs) → AreInside ns n (view x ∷ [])
  inside-next m n g f p (inl w) = subst (λ k. IfSome (number_of ns p) (λ j. suc j ≤ k)) (sym g) (f p (subst (λ q. In q (map view xs)) (sym w) (in-map view x xs (in-get xs i x h e))))
  inside-next m n g f p (inr w) = absurd w

-- what is known of a mark or part that is a job or group
module _ (ns : Numbers) (n : ℕ) (i : ℕ) where
  pub job-inside : (m : Mark) (j : JobName) → m ≡ Made j → ns j ≡ Some i → AreInside ns n (mark_part m ∷ []) → suc i ≤ n
  job-inside m j e g h = subst (λ o. IfSome o (λ i. suc i ≤ n)) g (h (result j) (inl (sym (ap mark_part e))))

  pub group-inside : (p : parts.Part) → p ≡ Group i → AreInside ns n (part_view p ∷ []) → suc i ≤ n
  group-inside p e h = h (group i) (inl (sym (ap part_view e)))
