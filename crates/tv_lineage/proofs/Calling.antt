-- What the calls answer, from what their parts do.
use Rattle.std.specs.BTreeMap.{BTreeMap, Updates, get, is_at}
use Rattle.std.specs.Cmp.Lexicographic.{lists_ties, texts_ties}
use Rattle.std.specs.List.{cons_option, list_any}
use Rattle.std.specs.Map.{lookup}
use Rattle.std.specs.Ordering.{is_eq, ordering_then}
use Rattle.std.specs.Prelude.{Bool, IfSome, List, None, OnErr, OnOk, Some, [], false, filter_map, if◌then◌else◌, length, map, refl, suc, take, true, zero, ℕ, ◌&&◌, ◌+◌, ◌++◌, ◌<◌, ◌≡◌, ◌≤◌, ◌∷◌}
use Rattle.std.specs.Option.{is_some}
use Rattle.std.specs.Result.{is_err}
use Rattle.std.specs.declared.cmp.Ordering.{Ordering}
use Rattle.std.specs.declared.result.Result.TheVariants.{Err, Ok}
use Rattle.std.specs.declared.result.Result.{Result}
use Rattle.std.proofs.Common.{Option, Equal, Greater, Less, ap, append-nil, arith, get_or, subst, sym, ◌∙◌}
use Rattle.std.proofs.lemmas.List.Elements.{filter_map-append}
use Rattle.std.proofs.lemmas.List.{map_more}
use Rattle.std.proofs.Math.Seq.{take-append_seam}
use Rattle.std.proofs.lemmas.Bool.{true≢false}
use Rattle.tv_lemmas.specs.Members.{In}
use Rattle.tv_value.specs.Nested.{Place}
use Rattle.tv_value.specs.Orders.{job_name_cmp, name_cmp, place_cmp, same_job, same_name}
use Rattle.tv_value.specs.Values.{JobName, Name}
use Rattle.tv_value.proofs.JobNameLemmas.{same_job_decides}
use Rattle.tv_lineage.specs.Kept as kept
use Rattle.tv_lineage.specs.Kept.{Kept, is_noted, parts_in, records_of}
use Rattle.tv_lineage.specs.Lineages.{Record, backward, is_made_from, leaf_label}
use Rattle.tv_lineage.specs.Reaching.{AreInside, Begins, IsNumber, IsSearch, Numbers, Search, Sees, is_met, number_of}
use Rattle.tv_lineage.specs.Tables.{IsWhole, in_table}
use Rattle.tv_lineage.specs.Touching.{Label}
use Rattle.tv_lineage.specs.Views.{IsKept, kept_of, leaf_view, mark_part, mark_view, part_view}
use Rattle.tv_lineage.specs.declared.mark.Leaf.{Leaf}
use Rattle.tv_lineage.specs.declared.mark.Mark.{Mark}
use Rattle.tv_lineage.specs.declared.mark.Part.{Part}
use Rattle.tv_lineage.specs.declared.records.Entry.{Entry}
use Rattle.tv_lineage.proofs.Holding.{groups-length, marks-inside, marks-parts, parts-at, parts-inside}
use Rattle.tv_lineage.proofs.Searching.{begins, finds-all, goes-on}
use Rattle.tv_lineage.proofs.Seeing.{last}
use Rattle.tv_lineage.proofs.Tabling.{tells, whole}

pub of-ok : {T E P : Type 0} (r : Result T E) → is_err r ≡ false → OnOk r P → P
of-ok (Ok x) e h = h
of-ok (Err y) e h = absurd (true≢false e)

pub of-err : {T E P : Type 0} (r : Result T E) → is_err r ≡ true → OnErr r P → P
of-err (Ok x) e h = absurd (true≢false (sym e))
of-err (Err y) e h = h

-- ---- numbers

tied : (b c : Bool) (r s : Ordering) → b ≡ is_eq r → c ≡ is_eq s → (b && c) ≡ is_eq (ordering_then r s)
tied b c Less s e f = ap (λ a. a && c) e
tied b c Equal s e f = ap (λ a. a && c) e ∙ f
tied b c Greater s e f = ap (λ a. a && c) e

job_ties : (m n : JobName) → same_job m n ≡ is_eq (job_name_cmp m n)
job_ties m n = lists_ties (λ a b. ordering_then (name_cmp a.0 b.0) (place_cmp a.1 b.1)) (λ a b. tied (same_name a.0 b.0) (same_name a.1 b.1) (name_cmp a.0 b.0) (place_cmp a.1 b.1) (texts_ties a.0 b.0) (texts_ties a.1 b.1)) m n

module _ (s t : BTreeMap JobName ℕ) (key n : JobName) (same : key ≡ n) (i : ℕ) (u : Updates job_name_cmp s t key (Some i)) where
  pub number-here : (m : JobName) → m ≡ n → get job_name_cmp t m ≡ Some i
  number-here m e = ap (get job_name_cmp t) (e ∙ sym same) ∙ u.1

  pub number-there : (m : JobName) → same_job m n ≡ false → get job_name_cmp t m ≡ get job_name_cmp s m
  number-there m f = u.2 m (sym (job_ties key m) ∙ off (same_job key m) refl)
    where
      off : (b : Bool) → same_job key m ≡ b → b ≡ false
      off true e = absurd (true≢false (sym ((same_job_decides m n).1 (sym ((same_job_decides key m).0 e) ∙ same)) ∙ f))
      off false e = refl

-- a number stands there exactly for a noted job
pub noted-told : (k : Kept) (n : JobName) (o : Option ℕ) → IsNumber k n o → is_some o ≡ is_noted n k
noted-told k n None e = sym e
noted-told k n (Some i) e = sym e.2

-- what was taken back is as it was
pub cut : {A : Type 0} (xs ys zs : List A) (i : ℕ) → i ≡ length xs → ys ≡ take i zs → (z : A) → zs ≡ xs ++ z ∷ [] → ys ≡ xs
cut xs ys zs i e f z g = f ∙ (λ j. take (e j) (g j)) ∙ take-append_seam xs (z ∷ [])

pub kept-back : (s t : BTreeMap JobName ℕ) (es fs : List Entry) → t.entries ≡ s.entries → fs ≡ es → IsKept (get job_name_cmp s) (kept_of es) → IsKept (get job_name_cmp t) (kept_of fs)
kept-back s t es fs e f h = subst (λ ns. IsKept (λ n. lookup (is_at (job_name_cmp n)) ns) (kept_of fs)) (sym e) (subst (λ gs. IsKept (get job_name_cmp s) (kept_of gs)) (sym f) h)

-- ---- backward

met-short : (bs : List Bool) (i : ℕ) → is_met bs i ≡ true → suc i ≤ length bs
met-short [] i m = absurd (true≢false (sym m))
met-short (b ∷ bs) zero m = one (length bs)
  where
    one : (n : ℕ) → suc zero ≤ suc n
    one n = omega arith
met-short (b ∷ bs) (suc i) m = up i (length bs) (met-short bs i m)
  where
    up : (i n : ℕ) → suc i ≤ n → suc (suc i) ≤ suc n
    up i n h = omega arith

module _ (ns : Numbers) (es : List Entry) (h : IsKept ns (kept_of es)) where
  abbrev k : Kept
  k = kept_of es

  as-long : (n m : ℕ) → n ≡ m → (p : kept.Part) → IfSome (number_of ns p) (λ i. suc i ≤ m) → IfSome (number_of ns p) (λ i. suc i ≤ n)
  as-long n m e p w = subst (λ o. IfSome (number_of ns p) (λ i. suc i ≤ o)) (sym e) w

  pub begun-inside : (ms : List Mark) (n : ℕ) → n ≡ length es → (s : Search) → Begins n s → AreInside ns (length s.met) (map mark_part ms)
  begun-inside ms n e s b p i = as-long (length s.met) (length k.groups) (b.size ∙ e ∙ sym (groups-length es)) p (marks-inside ns k h ms p i)

  pub begun : (ms us : List Mark) → ms ≡ us → (n : ℕ) → n ≡ length es → (s t : Search) → Begins n s → Sees ns (map mark_part ms) s t → IsSearch ns k (map mark_part us) t
  begun ms us f n e s t b w =
      begins ns k h.before h.numbers (map mark_part us) s t (subst (λ m. Begins m s) (e ∙ sym (groups-length es)) b)
      (subst (λ vs. Sees ns (map mark_part vs) s t) f w)

  module _ (used : List kept.Part) (s t : Search) (i : ℕ) (first : s.pending ≡ t.pending ++ i ∷ []) (others : t ≡ record s { pending = t.pending }) (g : IsSearch ns k used s) where
    next-met : suc i ≤ length s.met
    next-met = met-short s.met i (g.due i (subst (λ is. In i is) (sym first) (last i t.pending)))

    pub next-short : suc i ≤ length es
    next-short = subst (λ n. suc i ≤ n) (g.size ∙ groups-length es) next-met

    below : suc i ≤ length es → i < length es
    below w = omega arith

    module _ (e : Entry) (is : e ≡ get_or es i e) (ps : List Part) (same : ps ≡ e.parts) where
      those : parts_in k.groups i ≡ map part_view ps
      those = parts-at es i e (below next-short) is ∙ ap (map part_view) (sym same)

      pub next-inside : AreInside ns (length t.met) (map part_view ps)
      next-inside p j =
          as-long (length t.met) (length k.groups) (ap (λ (u : Search). length u.met) others ∙ g.size) p
          (parts-inside ns k h i (subst (λ n. suc i ≤ n) g.size next-met) p (subst (λ qs. In p qs) (sym those) j))

      pub next-search : (u : Search) → Sees ns (map part_view ps) t u → IsSearch ns k used u
      next-search u w =
          (goes-on ns k h.before h.numbers used s u t.pending i first g
          (subst (λ v. Sees ns (parts_in k.groups i) v u) others (subst (λ qs. Sees ns qs t u) (sym those) w))).0

  pub found-all : (us : List Mark) (s t : Search) → s.pending ≡ [] → t ≡ record s { pending = t.pending } → IsSearch ns k (map mark_part us) s → (r : Kept) → k ≡ r → t.found ≡ backward (records_of r) (map mark_view us)
  found-all us s t none others g r e =
      ap (λ (u : Search). u.found) others ∙ finds-all ns k h.before h.numbers (map mark_part us) s none g
      ∙ ap (backward (records_of k)) (marks-parts k.groups us) ∙ ap (λ (j : Kept). backward (records_of j) (map mark_view us)) e

-- ---- forward

module _ (ns : Numbers) (es : List Entry) (h : IsKept ns (kept_of es)) (x : Name) (q : Place) where
  abbrev rs : List Record
  rs = records_of (kept_of es)

  pub told-of : (bs cs : List Bool) (ds : List Entry) → ds ≡ es → IsWhole ns (kept_of ds) x q bs → cs ≡ bs → (ms us : List Mark) → ms ≡ us → (b : Bool) → b ≡ list_any (in_table ns x q cs) (map mark_part ms) → is_made_from rs x q (map mark_view us) ≡ b
  told-of bs cs ds e w f ms us g b t =
      ap (is_made_from rs x q) (sym (marks-parts (kept_of es).groups us))
      ∙ sym (tells (kept_of es) h.before x q (in_table ns x q bs) (whole ns (kept_of es) h.before h.numbers x q bs (subst (λ fs. IsWhole ns (kept_of fs) x q bs) e w)) (map mark_part us))
      ∙ (λ i. list_any (in_table ns x q (sym f i)) (map mark_part (sym g i))) ∙ sym t

  -- one leaf more
  module _ (fs : List Leaf) (i : ℕ) (f : Leaf) (w : i < length fs) (is : f ≡ get_or fs i f) (ls : List Label) (was : ls ≡ filter_map (leaf_label rs x q) (map leaf_view (take i fs))) where
    leaf-more : (b : Bool) → is_made_from rs x q (map mark_view f.used) ≡ b → filter_map (leaf_label rs x q) (map leaf_view (take (i + 1) fs)) ≡ ls ++ cons_option (if b then Some (f.port, f.place) else None) []
    leaf-more b e =
        ap (filter_map (leaf_label rs x q)) (map_more leaf_view fs i f w ∙ ap (λ g. map leaf_view (take i fs) ++ leaf_view g ∷ []) (sym is))
        ∙ filter_map-append (leaf_label rs x q) (map leaf_view (take i fs)) (leaf_view f ∷ [])
        ∙ (λ j. sym was j ++ cons_option (if e j then Some (f.port, f.place) else None) [])

    pub leaf-in : is_made_from rs x q (map mark_view f.used) ≡ true → (js : List Label) → js ≡ ls ++ (f.port, f.place) ∷ [] → js ≡ filter_map (leaf_label rs x q) (map leaf_view (take (i + 1) fs))
    leaf-in e js g = g ∙ sym (leaf-more true e)

    pub leaf-out : is_made_from rs x q (map mark_view f.used) ≡ false → (js : List Label) → js ≡ ls → js ≡ filter_map (leaf_label rs x q) (map leaf_view (take (i + 1) fs))
    leaf-out e js g = g ∙ sym (append-nil ls) ∙ sym (leaf-more false e)
