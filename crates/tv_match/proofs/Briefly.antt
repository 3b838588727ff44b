-- Joins of items in brief.
use Rattle.std.specs.Prelude.{Option}
use Rattle.std.proofs.Common.{◌≡◌, refl, ℕ, true, false, List, [], ◌∷◌, ◌++◌, map, sym, ap, ◌∙◌}
use Rattle.std.proofs.lemmas.Simd.{map-map}
use Rattle.std.proofs.lemmas.List.{map-append}
use Rattle.std.proofs.lemmas.List.Folds.{flat_map-map}
use Rattle.tv_value.specs.Nested.{Place}
use Rattle.tv_strategy.specs.Splits.{same_place}
use Rattle.tv_matching.specs.Items.{Kind, ends, closes, passes, item, if_so}
use Rattle.tv_matching.specs.Matched.{bound, below, replaced, replaced_below, crossed_items, below_jobs, meet_kinds}
use Rattle.tv_matching.specs.Matchers.{Kept}
use Rattle.tv_matching.specs.Stores as spec
use Rattle.tv_matching.specs.Stores.{leaf_store, cross_store, dot_store, key_of, is_job, only_jobs, latest_at, latest_by, met_with, met_by_first, met_by_second, gain, grown}
use Rattle.tv_matching.proofs.Lists.{map-same, flat-same, map-flat, map-if}
use Rattle.tv_match.specs.declared.kinds.Kind as code
use Rattle.tv_match.specs.Entries.{Entry, kind_view, kept_entry, kepts}
use Rattle.tv_match.specs.Brief.{brief_bound, brief_kind, brief, briefs, brief_store}

abbrev Bare : Type 0
Bare = Kind (Unit {0}) ℕ

-- ---- in brief once more

brief_bound-again : (b : List (Unit {0})) → brief_bound (brief_bound b) ≡ brief_bound b
brief_bound-again [] = refl
brief_bound-again (x ∷ b) = refl

pub brief_kind-again : (k : Bare) → brief_kind (brief_kind k) ≡ brief_kind k
brief_kind-again (ends b) = ap (λ c. ends c) (brief_bound-again b)
brief_kind-again (closes n) = refl
brief_kind-again (passes l) = refl

pub briefs-again : (xs : List Kept) → briefs (briefs xs) ≡ briefs xs
briefs-again xs = map-map brief brief xs ∙ map-same (λ x. brief (brief x)) brief (λ x. ap (λ k. item x.place k) (brief_kind-again x.kind)) xs

pub briefs-append : (xs ys : List Kept) → briefs (xs ++ ys) ≡ briefs xs ++ briefs ys
briefs-append xs ys = map-append brief xs ys

-- what the code keeps is brief
pub kind-brief : (k : code.Kind) → brief_kind (kind_view k) ≡ kind_view k
kind-brief (code.Kind.Job true) = refl
kind-brief (code.Kind.Job false) = refl
kind-brief (code.Kind.Closed n) = refl
kind-brief (code.Kind.Passed l) = refl

pub kepts-brief : (es : List Entry) → briefs (kepts es) ≡ kepts es
kepts-brief [] = refl
kepts-brief (e ∷ es) = ap (λ k. item e.place k ∷ briefs (kepts es)) (kind-brief e.kind) ∙ ap (λ l. kept_entry e ∷ l) (kepts-brief es)

-- ---- one item

bound-brief : (b : List (Unit {0})) (k : Bare) → brief_kind (bound (brief_bound b) (brief_kind k)) ≡ brief_kind (bound b k)
bound-brief [] (ends c) = ap (λ l. ends l) (brief_bound-again c)
bound-brief (x ∷ b) (ends c) = refl
bound-brief b (closes n) = refl
bound-brief b (passes l) = refl

below-brief : (q : Place) (b : List (Unit {0})) (ys : List Kept) → briefs (map (below q (brief_bound b)) (briefs ys)) ≡ briefs (map (below q b) ys)
below-brief q b ys =
    ap briefs (map-map (below q (brief_bound b)) brief ys)
    ∙ map-map brief (λ y. below q (brief_bound b) (brief y)) ys
    ∙ map-same (λ y. brief (below q (brief_bound b) (brief y))) (λ y. brief (below q b y)) (λ y. ap (λ k. item (q ++ y.place) k) (bound-brief b y.kind)) ys
    ∙ sym (map-map brief (below q b) ys)

met-brief : (k l : Bare) → brief_kind (meet_kinds (brief_kind k) (brief_kind l)) ≡ brief_kind (meet_kinds k l)
met-brief (ends b) l = bound-brief b l
met-brief (passes f) l = refl
met-brief (closes m) (ends c) = ap (λ b. ends b) (brief_bound-again c)
met-brief (closes m) (closes n) = refl
met-brief (closes m) (passes f) = refl

-- ---- lists: what is brief of both is brief of the join

crossed-brief : (xs ys : List Kept) → briefs (crossed_items (briefs xs) (briefs ys)) ≡ briefs (crossed_items xs ys)
crossed-brief xs ys =
    ap briefs (flat_map-map (λ x. replaced (briefs ys) x.place x.kind) brief xs)
    ∙ map-flat brief (λ x. replaced (briefs ys) x.place (brief_kind x.kind)) xs
    ∙ flat-same (λ x. briefs (replaced (briefs ys) x.place (brief_kind x.kind))) (λ x. briefs (replaced ys x.place x.kind)) (λ x. one x.place x.kind) xs
    ∙ sym (map-flat brief (λ x. replaced ys x.place x.kind) xs)
  where
    one : (q : Place) (k : Bare) → briefs (replaced (briefs ys) q (brief_kind k)) ≡ briefs (replaced ys q k)
    one q (ends b) = below-brief q b ys
    one q (closes n) = refl
    one q (passes f) = refl

below_jobs-brief : (xs ys : List Kept) → briefs (below_jobs (briefs xs) (briefs ys)) ≡ briefs (below_jobs xs ys)
below_jobs-brief xs ys =
    ap briefs (flat_map-map (λ x. replaced_below (briefs ys) x.place x.kind) brief xs)
    ∙ map-flat brief (λ x. replaced_below (briefs ys) x.place (brief_kind x.kind)) xs
    ∙ flat-same (λ x. briefs (replaced_below (briefs ys) x.place (brief_kind x.kind))) (λ x. briefs (replaced_below ys x.place x.kind)) (λ x. one x.place x.kind) xs
    ∙ sym (map-flat brief (λ x. replaced_below ys x.place x.kind) xs)
  where
    one : (q : Place) (k : Bare) → briefs (replaced_below (briefs ys) q (brief_kind k)) ≡ briefs (replaced_below ys q k)
    one q (ends b) = below-brief q b ys
    one q (closes n) = refl
    one q (passes f) = refl

pub only_jobs-brief : (xs : List Kept) → only_jobs (briefs xs) ≡ briefs (only_jobs xs)
only_jobs-brief xs =
    flat_map-map (λ x. if_so (is_job x.kind) x) brief xs
    ∙ flat-same (λ x. if_so (is_job (brief_kind x.kind)) (brief x)) (λ x. briefs (if_so (is_job x.kind) x)) (λ x. ap (λ b. if_so b (brief x)) (same x.kind) ∙ sym (map-if brief (is_job x.kind) x)) xs
    ∙ sym (map-flat brief (λ x. if_so (is_job x.kind) x) xs)
  where
    same : (k : Bare) → is_job (brief_kind k) ≡ is_job k
    same (ends b) = refl
    same (closes n) = refl
    same (passes f) = refl

latest-brief : (key : Place → Place) (q : Place) (xs : List Kept) → latest_by key q (briefs xs) ≡ briefs (latest_by key q xs)
latest-brief key q [] = refl
latest-brief key q (x ∷ xs) =
    ap (λ l. l ++ if_so (same_place q (key x.place)) (brief x)) (latest-brief key q xs)
    ∙ ap (λ l. briefs (latest_by key q xs) ++ l) (sym (map-if brief (same_place q (key x.place)) x))
    ∙ sym (briefs-append (latest_by key q xs) (if_so (same_place q (key x.place)) x))

first-brief : (key : Place → Place) (dx ys : List Kept) → briefs (met_by_first key (briefs dx) (briefs ys)) ≡ briefs (met_by_first key dx ys)
first-brief key dx ys =
    ap briefs (flat_map-map (λ x. map (met_with x) (latest_by key x.place (briefs ys))) brief dx)
    ∙ map-flat brief (λ x. map (met_with (brief x)) (latest_by key x.place (briefs ys))) dx
    ∙ flat-same (λ x. briefs (map (met_with (brief x)) (latest_by key x.place (briefs ys)))) (λ x. briefs (map (met_with x) (latest_by key x.place ys))) one dx
    ∙ sym (map-flat brief (λ x. map (met_with x) (latest_by key x.place ys)) dx)
  where
    one : (x : Kept) → briefs (map (met_with (brief x)) (latest_by key x.place (briefs ys))) ≡ briefs (map (met_with x) (latest_by key x.place ys))
    one x =
        ap (λ l. briefs (map (met_with (brief x)) l)) (latest-brief key x.place ys)
        ∙ ap briefs (map-map (met_with (brief x)) brief (latest_by key x.place ys))
        ∙ map-map brief (λ y. met_with (brief x) (brief y)) (latest_by key x.place ys)
        ∙ map-same (λ y. brief (met_with (brief x) (brief y))) (λ y. brief (met_with x y)) (λ y. ap (λ k. item y.place k) (met-brief x.kind y.kind)) (latest_by key x.place ys)
        ∙ sym (map-map brief (met_with x) (latest_by key x.place ys))

second-brief : (key : Place → Place) (xs dy : List Kept) → briefs (met_by_second key (briefs xs) (briefs dy)) ≡ briefs (met_by_second key xs dy)
second-brief key xs dy =
    ap briefs (flat_map-map (λ y. map (λ x. met_with x y) (latest_at (key y.place) (briefs xs))) brief dy)
    ∙ map-flat brief (λ y. map (λ x. met_with x (brief y)) (latest_at (key y.place) (briefs xs))) dy
    ∙ flat-same (λ y. briefs (map (λ x. met_with x (brief y)) (latest_at (key y.place) (briefs xs)))) (λ y. briefs (map (λ x. met_with x y) (latest_at (key y.place) xs))) one dy
    ∙ sym (map-flat brief (λ y. map (λ x. met_with x y) (latest_at (key y.place) xs)) dy)
  where
    one : (y : Kept) → briefs (map (λ x. met_with x (brief y)) (latest_at (key y.place) (briefs xs))) ≡ briefs (map (λ x. met_with x y) (latest_at (key y.place) xs))
    one y =
        ap (λ l. briefs (map (λ x. met_with x (brief y)) l)) (latest-brief (λ r. r) (key y.place) xs)
        ∙ ap briefs (map-map (λ x. met_with x (brief y)) brief (latest_at (key y.place) xs))
        ∙ map-map brief (λ x. met_with (brief x) (brief y)) (latest_at (key y.place) xs)
        ∙ map-same (λ x. brief (met_with (brief x) (brief y))) (λ x. brief (met_with x y)) (λ x. ap (λ k. item y.place k) (met-brief x.kind y.kind)) (latest_at (key y.place) xs)
        ∙ sym (map-map brief (λ x. met_with x y) (latest_at (key y.place) xs))

-- ---- lists that are the same in brief have joins that are

abbrev pub Alike : List Kept → List Kept → Type 0
Alike xs ys = briefs xs ≡ briefs ys

join-alike : (join : List Kept → List Kept → List Kept) → ((xs ys : List Kept) → briefs (join (briefs xs) (briefs ys)) ≡ briefs (join xs ys)) → (xs us ys vs : List Kept) → Alike xs us → Alike ys vs → Alike (join xs ys) (join us vs)
join-alike join h xs us ys vs e f = sym (h xs ys) ∙ ap (λ l. briefs (join l (briefs ys))) e ∙ ap (λ l. briefs (join (briefs us) l)) f ∙ h us vs

pub append-alike : (xs us ys vs : List Kept) → Alike xs us → Alike ys vs → Alike (xs ++ ys) (us ++ vs)
append-alike xs us ys vs e f = briefs-append xs ys ∙ ap (λ l. l ++ briefs ys) e ∙ ap (λ l. briefs us ++ l) f ∙ sym (briefs-append us vs)

pub crossed-alike : (xs us ys vs : List Kept) → Alike xs us → Alike ys vs → Alike (crossed_items xs ys) (crossed_items us vs)
crossed-alike = join-alike crossed_items crossed-brief

pub below_jobs-alike : (xs us ys vs : List Kept) → Alike xs us → Alike ys vs → Alike (below_jobs xs ys) (below_jobs us vs)
below_jobs-alike = join-alike below_jobs below_jobs-brief

pub first-alike : (key : Place → Place) (xs us ys vs : List Kept) → Alike xs us → Alike ys vs → Alike (met_by_first key xs ys) (met_by_first key us vs)
first-alike key = join-alike (met_by_first key) (first-brief key)

pub second-alike : (key : Place → Place) (xs us ys vs : List Kept) → Alike xs us → Alike ys vs → Alike (met_by_second key xs ys) (met_by_second key us vs)
second-alike key = join-alike (met_by_second key) (second-brief key)

pub only_jobs-alike : (xs us : List Kept) → Alike xs us → Alike (only_jobs xs) (only_jobs us)
only_jobs-alike xs us e = sym (only_jobs-brief xs) ∙ ap only_jobs e ∙ only_jobs-brief us

-- ---- stores

module _ (new : Option ℕ → List Kept) where
  pub gain-brief : (st : spec.Store (Unit {0}) ℕ) → Alike (gain new (brief_store st)) (gain new st)
  gain-brief (leaf_store l) = refl
  gain-brief (cross_store es ys f r) =
      let df = gain-brief f in
      let dr = gain-brief r in
      append-alike (crossed_items (gain new (brief_store f)) (briefs ys)) (crossed_items (gain new f) ys) (below_jobs (briefs es ++ only_jobs (gain new (brief_store f))) (gain new (brief_store r))) (below_jobs (es ++ only_jobs (gain new f)) (gain new r))
      (crossed-alike (gain new (brief_store f)) (gain new f) (briefs ys) ys df (briefs-again ys))
      (below_jobs-alike (briefs es ++ only_jobs (gain new (brief_store f))) (es ++ only_jobs (gain new f)) (gain new (brief_store r)) (gain new r)
      (append-alike (briefs es) es (only_jobs (gain new (brief_store f))) (only_jobs (gain new f)) (briefs-again es) (only_jobs-alike (gain new (brief_store f)) (gain new f) df))
      dr)
  gain-brief (dot_store k xs ys f r) =
      let df = gain-brief f in
      let dr = gain-brief r in
      append-alike (met_by_first (key_of k) (gain new (brief_store f)) (briefs ys)) (met_by_first (key_of k) (gain new f) ys) (met_by_second (key_of k) (briefs xs ++ gain new (brief_store f)) (gain new (brief_store r))) (met_by_second (key_of k) (xs ++ gain new f) (gain new r))
      (first-alike (key_of k) (gain new (brief_store f)) (gain new f) (briefs ys) ys df (briefs-again ys))
      (second-alike (key_of k) (briefs xs ++ gain new (brief_store f)) (xs ++ gain new f) (gain new (brief_store r)) (gain new r) (append-alike (briefs xs) xs (gain new (brief_store f)) (gain new f) (briefs-again xs) df) dr)

  pub grown-brief : (st : spec.Store (Unit {0}) ℕ) → brief_store (grown new (brief_store st)) ≡ brief_store (grown new st)
  grown-brief (leaf_store l) = refl
  grown-brief (cross_store es ys f r) =
      let bf = brief_store (grown new (brief_store f)) in
      let br = brief_store (grown new (brief_store r)) in
      ap (λ l. cross_store l (briefs (briefs ys ++ gain new (brief_store r))) bf br) (append-alike (briefs es) es (only_jobs (gain new (brief_store f))) (only_jobs (gain new f)) (briefs-again es) (only_jobs-alike (gain new (brief_store f)) (gain new f) (gain-brief f)))
      ∙ ap (λ l. cross_store (briefs (es ++ only_jobs (gain new f))) l bf br) (append-alike (briefs ys) ys (gain new (brief_store r)) (gain new r) (briefs-again ys) (gain-brief r))
      ∙ ap (λ s. cross_store (briefs (es ++ only_jobs (gain new f))) (briefs (ys ++ gain new r)) s br) (grown-brief f)
      ∙ ap (λ s. cross_store (briefs (es ++ only_jobs (gain new f))) (briefs (ys ++ gain new r)) (brief_store (grown new f)) s) (grown-brief r)
  grown-brief (dot_store k xs ys f r) =
      let bf = brief_store (grown new (brief_store f)) in
      let br = brief_store (grown new (brief_store r)) in
      ap (λ l. dot_store k l (briefs (briefs ys ++ gain new (brief_store r))) bf br) (append-alike (briefs xs) xs (gain new (brief_store f)) (gain new f) (briefs-again xs) (gain-brief f))
      ∙ ap (λ l. dot_store k (briefs (xs ++ gain new f)) l bf br) (append-alike (briefs ys) ys (gain new (brief_store r)) (gain new r) (briefs-again ys) (gain-brief r))
      ∙ ap (λ s. dot_store k (briefs (xs ++ gain new f)) (briefs (ys ++ gain new r)) s br) (grown-brief f)
      ∙ ap (λ s. dot_store k (briefs (xs ++ gain new f)) (briefs (ys ++ gain new r)) (brief_store (grown new f)) s) (grown-brief r)
