-- The places of a step's jobs, entry by entry.
use Rattle.std.specs.BTreeSet.{insert_key}
use Rattle.std.specs.List.{cons_option}
use Rattle.std.specs.Prelude.{List, None, Option, Some, [], filter_map, length, map, option_and_then, option_map, refl, suc, take, zero, ℕ, ◌+◌, ◌++◌, ◌<◌, ◌≡◌, ◌≤◌, ◌⊎◌, ◌∷◌}
use Rattle.std.proofs.Common.{ap, arith, get_or, inl, inr, subst, sym, ◌∙◌}
use Rattle.std.proofs.lemmas.Cmp.{nat_list_cmp_total}
use Rattle.std.proofs.lemmas.List.{take_all}
use Rattle.std.proofs.lemmas.Map.Lookups.{exact_bytes}
use Rattle.tv_lemmas.specs.Members.{In}
use Rattle.tv_lemmas.proofs.Members.{in-append, in-left, in-right}
use Rattle.tv_value.specs.Nested.{Place}
use Rattle.tv_value.specs.Orders.{in_order, place_cmp}
use Rattle.tv_value.specs.Values.{JobName, Name}
use Rattle.tv_value.proofs.Faults.{put-as-key}
use Rattle.tv_lineage.specs.Kept.{KeptRecord, Groups, Part, record_kept, records_of}
use Rattle.tv_lineage.specs.Lineages.{Record, by_step, job_at, place_at}
use Rattle.tv_lineage.specs.Members.{HaveSame, Rises}
use Rattle.tv_lineage.specs.Views.{job_view, kept_of, parts_view, place_in}
use Rattle.tv_lineage.specs.declared.records.Entry.{Entry}
use Rattle.tv_lineage.proofs.Rising.{in-order, in-put, of-order, of-put, only-one, rises-order, rises-put}

filter_map_more : {A B : Type 0} (f : A → Option B) (xs : List A) (i : ℕ) (x : A) → i < length xs → x ≡ get_or xs i x → filter_map f (take (i + 1) xs) ≡ filter_map f (take i xs) ++ cons_option (f x) []
filter_map_more f xs i x h e = ap (λ n. filter_map f (take n xs)) (next i) ∙ step f xs i x h e
  where
    next : (i : ℕ) → i + 1 ≡ suc i
    next i = omega arith

    none : (i : ℕ) → i < 0 → ⊥
    none i h = omega arith

    lower : (i m : ℕ) → suc i < suc m → i < m
    lower i m h = omega arith

    first : {B : Type 0} (o : Option B) (ys zs : List B) → cons_option o (ys ++ zs) ≡ cons_option o ys ++ zs
    first None ys zs = refl
    first (Some y) ys zs = refl

    step : {A B : Type 0} (f : A → Option B) (xs : List A) (i : ℕ) (x : A) → i < length xs → x ≡ get_or xs i x → filter_map f (take (suc i) xs) ≡ filter_map f (take i xs) ++ cons_option (f x) []
    step f [] i x h e = absurd (none i h)
    step f (y ∷ ys) zero x h e = ap (λ z. cons_option (f z) []) (sym e)
    step f (y ∷ ys) (suc i) x h e = ap (cons_option (f y)) (step f ys i x (lower i (length ys) h) e) ∙ first (f y) (filter_map f (take i ys)) (cons_option (f x) [])

-- ---- one entry more

abbrev pub with_place : Option Place → List Place → List Place
with_place None ks = ks
with_place (Some q) ks = insert_key place_cmp ks q

module _ (s : Name) (es : List Entry) (i : ℕ) (ks : List Place) (r : Rises place_cmp ks) (m : HaveSame ks (filter_map (place_in s) (take i es))) where
  module _ (e : Entry) (h : i < length es) (is : e ≡ get_or es i e) (o : Option Place) (f : o ≡ place_in s e) (js : List Place) (g : js ≡ with_place o ks) where
    still-rises : (o : Option Place) → Rises place_cmp (with_place o ks)
    still-rises None = r
    still-rises (Some q) = subst (λ ls. Rises place_cmp ls) (sym (put-as-key place_cmp ks q)) (rises-put place_cmp nat_list_cmp_total exact_bytes q ks r)

    pub place-rises : Rises place_cmp js
    place-rises = subst (λ ls. Rises place_cmp ls) (sym g) (still-rises o)

    there : (o : Option Place) (x : Place) → In x (with_place o ks) → In x (filter_map (place_in s) (take i es) ++ cons_option o [])
    there None x j = in-left x (filter_map (place_in s) (take i es)) [] ((m x).0 j)
    there (Some q) x j = by (of-put place_cmp nat_list_cmp_total exact_bytes x q ks (subst (λ ls. In x ls) (put-as-key place_cmp ks q) j))
      where
        by : (x ≡ q) ⊎ In x ks → In x (filter_map (place_in s) (take i es) ++ q ∷ [])
        by (inl p) = in-right x (filter_map (place_in s) (take i es)) (q ∷ []) (inl p)
        by (inr p) = in-left x (filter_map (place_in s) (take i es)) (q ∷ []) ((m x).0 p)

    back : (o : Option Place) (x : Place) → In x (filter_map (place_in s) (take i es)) ⊎ In x (cons_option o []) → In x (with_place o ks)
    back None x (inl p) = (m x).1 p
    back None x (inr p) = absurd p
    back (Some q) x p = subst (λ ls. In x ls) (sym (put-as-key place_cmp ks q)) (in-put place_cmp nat_list_cmp_total exact_bytes x q ks (by p))
      where
        by : In x (filter_map (place_in s) (take i es)) ⊎ In x (q ∷ []) → (x ≡ q) ⊎ In x ks
        by (inl p) = inr ((m x).1 p)
        by (inr (inl p)) = inl p
        by (inr (inr p)) = absurd p

    more : filter_map (place_in s) (take (i + 1) es) ≡ filter_map (place_in s) (take i es) ++ cons_option o []
    more = filter_map_more (place_in s) es i e h is ∙ ap (λ p. filter_map (place_in s) (take i es) ++ cons_option p []) (sym f)

    pub place-members : HaveSame js (filter_map (place_in s) (take (i + 1) es))
    place-members x = (λ j. subst (λ ls. In x ls) (sym more) (there o x (subst (λ ls. In x ls) g j)), λ j. subst (λ ls. In x ls) (sym g) (back o x (in-append x (filter_map (place_in s) (take i es)) (cons_option o []) (subst (λ ls. In x ls) more j))))

  pub places-all : length es ≤ i → ks ≡ in_order place_cmp (filter_map (place_in s) es)
  places-all h = only-one place_cmp nat_list_cmp_total exact_bytes ks (in_order place_cmp all) r (rises-order place_cmp nat_list_cmp_total exact_bytes all) (λ x. (λ j. in-order place_cmp nat_list_cmp_total exact_bytes x all (subst (λ ls. In x ls) whole ((m x).0 j)), λ j. (m x).1 (subst (λ ls. In x ls) (sym whole) (of-order place_cmp nat_list_cmp_total exact_bytes x all j))))
    where
      all : List Place
      all = filter_map (place_in s) es

      whole : filter_map (place_in s) (take i es) ≡ filter_map (place_in s) es
      whole = ap (filter_map (place_in s)) (take_all i es h)

-- ---- as the records have them

same-place : (s : Name) (gs : Groups) (ps : List Part) (o : Option JobName) (qs : List Place) (js : List KeptRecord) → qs ≡ filter_map (λ (r : Record). place_at s r.job) (map (record_kept gs) js) → cons_option (option_and_then (place_at s) o) qs ≡ filter_map (λ (r : Record). place_at s r.job) (map (record_kept gs) (cons_option (option_map (λ n. record { job = n; parts = ps }) o) js))
same-place s gs ps None qs js e = e
same-place s gs ps (Some n) qs js e = ap (cons_option (place_at s n)) e

same-places : (s : Name) (gs : Groups) (es : List Entry) → filter_map (place_in s) es ≡ filter_map (λ (r : Record). place_at s r.job) (map (record_kept gs) (filter_map job_view es))
same-places s gs [] = refl
same-places s gs (e ∷ es) = same-place s gs (parts_view e) e.job (filter_map (place_in s) es) (filter_map job_view es) (same-places s gs es)

pub by_step-places : (s : Name) (es : List Entry) (ps : List Place) → ps ≡ in_order place_cmp (filter_map (place_in s) es) → map (job_at s) ps ≡ by_step (records_of (kept_of es)) s
by_step-places s es ps e = ap (map (job_at s)) (e ∙ ap (in_order place_cmp) (same-places s (kept_of es).groups es))
