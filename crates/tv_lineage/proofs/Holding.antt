-- What the code keeps stands for what is kept: look-ups, and what a new job or group changes.
use Rattle.std.specs.List.{list_any}
use Rattle.std.specs.Prelude.{Bool, IfSome, List, None, Option, Some, [], false, filter_map, if◌then◌else◌, length, map, refl, reverse, suc, true, zero, ℕ, ◌+◌, ◌++◌, ◌<◌, ◌==◌, ◌||◌, ◌≡◌, ◌≤◌, ◌⊎◌, ◌∷◌}
use Rattle.std.proofs.Common.{ap, arith, append-nil, get_or, inl, inr, length-append, subst, sym, ◌∙◌}
use Rattle.std.proofs.lemmas.List.Elements.{filter_map-append}
use Rattle.std.proofs.lemmas.List.Concat.{flat_map-append}
use Rattle.std.proofs.lemmas.List.{length-map, length-reverse, map-append, reverse-append}
use Rattle.std.specs.Cmp.Derive.{one_truth}
use Rattle.std.proofs.lemmas.Bool.{eqb-true}
use Rattle.std.proofs.Math.Bool.{or-true}
use Rattle.tv_lemmas.specs.Members.{Each, In}
use Rattle.tv_lemmas.proofs.Members.{each_in, in-append}
use Rattle.tv_value.specs.Orders.{same_job}
use Rattle.tv_value.specs.Values.{JobName}
use Rattle.tv_value.proofs.JobNameLemmas.{same_job_decides}
use Rattle.tv_lineage.specs.Kept as kept
use Rattle.tv_lineage.specs.Kept.{Groups, IsBefore, Kept, KeptRecord, all_marks, element, group, is_noted, parts_by, parts_in, record_kept, records_of, result}
use Rattle.tv_lineage.specs.Reaching.{AreInside, AreNumbers, IsNumber, Numbers, number_of}
use Rattle.tv_lineage.specs.Touching as touching
use Rattle.tv_lineage.specs.Views.{IsKept, job_view, kept_of, mark_part, mark_view, part_view, parts_view, with_group, with_job}
use Rattle.tv_lineage.specs.declared.mark.Mark.TheVariants.{Given, Made}
use Rattle.tv_lineage.specs.declared.mark.Mark.{Mark}
use Rattle.tv_lineage.specs.declared.mark.Part.{Part}
use Rattle.tv_lineage.specs.declared.records.Entry.{Entry}
use Rattle.tv_lineage.proofs.Keeping.{before-later, before-same, none-noted, own_number, parts-before}

-- ---- entries

pub groups-length : (es : List Entry) → length (kept_of es).groups ≡ length es
groups-length es = length-reverse (map parts_view es) ∙ length-map es parts_view

groups-push : (es : List Entry) (e : Entry) → (kept_of (es ++ e ∷ [])).groups ≡ parts_view e ∷ (kept_of es).groups
groups-push es e = ap reverse (map-append parts_view es (e ∷ [])) ∙ reverse-append (map parts_view es) (parts_view e ∷ [])

jobs-push : (es : List Entry) (e : Entry) → (kept_of (es ++ e ∷ [])).jobs ≡ (kept_of es).jobs ++ filter_map job_view (e ∷ [])
jobs-push es e = filter_map-append job_view es (e ∷ [])

pub job-push : (es : List Entry) (n : JobName) (ps : List Part) → kept_of (es ++ record { job = Some n; parts = ps } ∷ []) ≡ with_job n (map part_view ps) (kept_of es)
job-push es n ps =
    let e : Entry = record { job = Some n; parts = ps } in
    let js = jobs-push es e in
    let gs = groups-push es e in λ i. record { jobs = js i; groups = gs i }

pub group-push : (es : List Entry) (ps : List Part) → kept_of (es ++ record { job = None; parts = ps } ∷ []) ≡ with_group (map part_view ps) (kept_of es)
group-push es ps =
    let e : Entry = record { job = None; parts = ps } in
    let js = jobs-push es e ∙ append-nil (kept_of es).jobs in
    let gs = groups-push es e in λ i. record { jobs = js i; groups = gs i }

-- ---- the parts of a group

last-first : (gs : Groups) (g : List kept.Part) → parts_in (gs ++ g ∷ []) 0 ≡ g
last-first [] g = refl
last-first (h ∷ gs) g = by (0 == length (gs ++ g ∷ [])) refl (last-first gs g)
  where
    long : (m n : ℕ) → n ≡ m + 1 → 0 ≡ n → ⊥
    long m n e f = omega arith

    by : (b : Bool) → (0 == length (gs ++ g ∷ [])) ≡ b → parts_in (gs ++ g ∷ []) 0 ≡ g → (if b then h else parts_in (gs ++ g ∷ []) 0) ≡ g
    by true e rec = absurd (long (length gs) (length (gs ++ g ∷ [])) (length-append gs (g ∷ [])) (eqb-true 0 (length (gs ++ g ∷ [])) e))
    by false e rec = rec

last-later : (gs : Groups) (g : List kept.Part) (i : ℕ) → parts_in (gs ++ g ∷ []) (suc i) ≡ parts_in gs i
last-later [] g i = by (suc i == 0) refl
  where
    not_zero : (i : ℕ) → suc i ≡ 0 → ⊥
    not_zero i e = omega arith

    by : (b : Bool) → (suc i == 0) ≡ b → (if b then g else []) ≡ []
    by true e = absurd (not_zero i (eqb-true (suc i) 0 e))
    by false e = refl
last-later (h ∷ gs) g i = λ j. if same j then h else last-later gs g i j
  where
    up : (i m n : ℕ) → n ≡ m + 1 → i ≡ m → suc i ≡ n
    up i m n e f = omega arith

    down : (i m n : ℕ) → n ≡ m + 1 → suc i ≡ n → i ≡ m
    down i m n e f = omega arith

    same : (suc i == length (gs ++ g ∷ [])) ≡ (i == length gs)
    same =
        let e = length-append gs (g ∷ []) in
        one_truth (suc i == length (gs ++ g ∷ [])) (i == length gs) (λ t. own_number i (length gs) (down i (length gs) (length (gs ++ g ∷ [])) e (eqb-true (suc i) (length (gs ++ g ∷ [])) t))) (λ t. own_number (suc i) (length (gs ++ g ∷ [])) (up i (length gs) (length (gs ++ g ∷ [])) e (eqb-true i (length gs) t)))

turned : (e : Entry) (es : List Entry) → reverse (map parts_view (e ∷ es)) ≡ reverse (map parts_view es) ++ parts_view e ∷ []
turned e es = reverse-append (parts_view e ∷ []) (map parts_view es)

pub parts-at : (es : List Entry) (i : ℕ) (e : Entry) → i < length es → e ≡ get_or es i e → parts_in (kept_of es).groups i ≡ parts_view e
parts-at [] i e h g = absurd (none i h)
  where
    none : (i : ℕ) → i < 0 → ⊥
    none i p = omega arith
parts-at (d ∷ es) zero e h g = ap (λ hs. parts_in hs 0) (turned d es) ∙ last-first (reverse (map parts_view es)) (parts_view d) ∙ ap parts_view (sym g)
parts-at (d ∷ es) (suc i) e h g = ap (λ hs. parts_in hs (suc i)) (turned d es) ∙ last-later (reverse (map parts_view es)) (parts_view d) i ∙ parts-at es i e (lower i (length es) h) g
  where
    lower : (i m : ℕ) → suc i < suc m → i < m
    lower i m p = omega arith

-- ---- what stays true

any-more : {A : Type 0} (p : A → Bool) (xs : List A) (y : A) → list_any p (xs ++ y ∷ []) ≡ (list_any p xs || p y)
any-more p [] y = or-false (p y)
  where
    or-false : (b : Bool) → (b || false) ≡ b
    or-false true = refl
    or-false false = refl
any-more p (x ∷ xs) y = by (p x) (any-more p xs y)
  where
    by : (b : Bool) → list_any p (xs ++ y ∷ []) ≡ (list_any p xs || p y) → (b || list_any p (xs ++ y ∷ [])) ≡ ((b || list_any p xs) || p y)
    by true e = refl
    by false e = e

module _ (ns : Numbers) (k : Kept) (h : IsKept ns k) (ps : List kept.Part) (before : Each (IsBefore (length k.groups)) ps) where
  up : (i : ℕ) → suc i ≤ length k.groups → suc i ≤ suc (length k.groups)
  up i w = omega arith

  apart : (i : ℕ) → suc i ≤ length k.groups → (i == length k.groups) ≡ false
  apart i w = by (i == length k.groups) refl
    where
      not_last : (i n : ℕ) → suc i ≤ n → i ≡ n → ⊥
      not_last i n w e = omega arith

      by : (b : Bool) → (i == length k.groups) ≡ b → b ≡ false
      by true e = absurd (not_last i (length k.groups) w (eqb-true i (length k.groups) e))
      by false e = refl

  parts-stay : (i : ℕ) → suc i ≤ length k.groups → parts_in (ps ∷ k.groups) i ≡ parts_in k.groups i
  parts-stay i w = ap (λ b. if b then ps else parts_in k.groups i) (apart i w)

  parts-last : parts_in (ps ∷ k.groups) (length k.groups) ≡ ps
  parts-last = ap (λ b. if b then ps else parts_in k.groups (length k.groups)) (own_number (length k.groups) (length k.groups) refl)

  later : (p : kept.Part) → IsBefore (length k.groups) p → IsBefore (suc (length k.groups)) p
  later p b = before-later (length k.groups) (suc (length k.groups)) p (more (length k.groups)) b
    where
      more : (n : ℕ) → n ≤ suc n
      more n = omega arith

  stay : (n : JobName) (o : Option ℕ) → IsNumber k n o → IsNumber (with_group ps k) n o
  stay n None e = e
  stay n (Some i) e = (up i e.0, e.1 ∙ sym (parts-stay i e.0), e.2)

  pub kept-group : IsKept ns (with_group ps k)
  kept-group = record { before = (before, h.before); jobs = λ r i p j. later p (h.jobs r i p j); numbers = λ n. stay n (ns n) (h.numbers n) }

  -- ---- with a new job

  module _ (m : JobName) (new : is_noted m k ≡ false) where
    abbrev this : KeptRecord
    this = record { job = m; parts = ps }

    own : (n : JobName) (b : Bool) → same_job n m ≡ b → parts_by n (k.jobs ++ this ∷ []) ≡ parts_by n k.jobs ++ (if b then ps else [])
    own n b e = flat_map-append (λ r. if same_job n r.job then r.parts else []) k.jobs (this ∷ []) ∙ ap (λ qs. parts_by n k.jobs ++ qs) (append-nil (if same_job n m then ps else []) ∙ ap (λ c. if c then ps else []) e)

    noted-more : (n : JobName) (b : Bool) → same_job n m ≡ b → is_noted n (with_job m ps k) ≡ (is_noted n k || b)
    noted-more n b e = any-more (λ (r : KeptRecord). same_job n r.job) k.jobs this ∙ ap (λ c. is_noted n k || c) e

    mine : (n : JobName) → n ≡ m → parts_by n (k.jobs ++ this ∷ []) ≡ ps
    mine n e = own n true ((same_job_decides n m).1 e) ∙ ap (λ qs. qs ++ ps) (ap (λ j. parts_by j k.jobs) e ∙ none-noted m k.jobs new)

    other : (n : JobName) → same_job n m ≡ false → parts_by n (k.jobs ++ this ∷ []) ≡ parts_by n k.jobs
    other n e = own n false e ∙ append-nil (parts_by n k.jobs)

    with-this : (n : JobName) (o : Option ℕ) → same_job n m ≡ false → IsNumber k n o → IsNumber (with_job m ps k) n o
    with-this n None e f = noted-more n false e ∙ ap (λ b. b || false) f
    with-this n (Some i) e f = (up i f.0, other n e ∙ f.1 ∙ sym (parts-stay i f.0), noted-more n false e ∙ ap (λ b. b || false) f.2)

    numbered : (ms : Numbers) → ((n : JobName) → n ≡ m → ms n ≡ Some (length k.groups)) → ((n : JobName) → same_job n m ≡ false → ms n ≡ ns n) → AreNumbers ms (with_job m ps k)
    numbered ms here there n = by (same_job n m) refl
      where
        itself : (n : ℕ) → suc n ≤ suc n
        itself n = omega arith

        by : (b : Bool) → same_job n m ≡ b → IsNumber (with_job m ps k) n (ms n)
        by true e =
            let same = (same_job_decides n m).0 e in
            subst (IsNumber (with_job m ps k) n) (sym (here n same)) (itself (length k.groups), mine n same ∙ sym parts-last, noted-more n true e ∙ or-true (is_noted n k))
        by false e = subst (IsNumber (with_job m ps k) n) (sym (there n e)) (with-this n (ns n) e (h.numbers n))

    pub kept-job : (ms : Numbers) → ((n : JobName) → n ≡ m → ms n ≡ Some (length k.groups)) → ((n : JobName) → same_job n m ≡ false → ms n ≡ ns n) → IsKept ms (with_job m ps k)
    kept-job ms here there = record { before = (before, h.before); jobs = λ r i p j. by r (in-append r k.jobs (this ∷ []) i) p j; numbers = numbered ms here there }
      where
        by : (r : KeptRecord) → In r k.jobs ⊎ In r (this ∷ []) → (p : kept.Part) → In p r.parts → IsBefore (suc (length k.groups)) p
        by r (inl i) p j = later p (h.jobs r i p j)
        by r (inr (inl e)) p j = later p (each_in (IsBefore (length k.groups)) ps before p (subst (λ (q : KeptRecord). In p q.parts) e j))
        by r (inr (inr i)) p j = absurd i

  -- ---- records

  same-marks : (qs : List kept.Part) → ((p : kept.Part) → In p qs → IsBefore (length k.groups) p) → all_marks (ps ∷ k.groups) qs ≡ all_marks k.groups qs
  same-marks [] f = refl
  same-marks (q ∷ qs) f =
      let a = before-same ps k.groups q (f q (inl refl)) in
      let b = same-marks qs (λ p i. f p (inr i)) in λ i. a i ++ b i

  same-records : (js : List KeptRecord) → ((r : KeptRecord) → In r js → In r k.jobs) → map (record_kept (ps ∷ k.groups)) js ≡ map (record_kept k.groups) js
  same-records [] f = refl
  same-records (r ∷ js) f =
      let a = same-marks r.parts (λ p i. h.jobs r (f r (inl refl)) p i) in
      let b = same-records js (λ r i. f r (inr i)) in λ i. record { job = r.job; used = a i } ∷ b i

  pub records-group : records_of (with_group ps k) ≡ records_of k
  records-group = same-records k.jobs (λ r i. i)

  pub records-job : (m : JobName) → records_of (with_job m ps k) ≡ records_of k ++ record { job = m; used = all_marks k.groups ps } ∷ []
  records-job m =
      let a = same-records k.jobs (λ r i. i) in
      let b = same-marks ps (λ p i. each_in (IsBefore (length k.groups)) ps before p i) in
      map-append (record_kept (ps ∷ k.groups)) k.jobs (record { job = m; parts = ps } ∷ []) ∙ (λ i. a i ++ record { job = m; used = b i } ∷ [])

-- ---- marks

pub marks-parts : (gs : Groups) (ms : List Mark) → all_marks gs (map mark_part ms) ≡ map mark_view ms
marks-parts gs [] = refl
marks-parts gs (Given x q ∷ ms) = ap (λ us. touching.given x q ∷ us) (marks-parts gs ms)
marks-parts gs (Made n ∷ ms) = ap (λ us. touching.made n ∷ us) (marks-parts gs ms)

mark-before : (n : ℕ) (m : Mark) → IsBefore n (mark_part m)
mark-before n (Given x q) = tt
mark-before n (Made j) = tt

pub marks-before : (n : ℕ) (ms : List Mark) → Each (IsBefore n) (map mark_part ms)
marks-before n [] = tt
marks-before n (m ∷ ms) = (mark-before n m, marks-before n ms)

-- ---- as the code has it: these entries were kept, and an entry came

module _ (ns : Numbers) (es fs : List Entry) (k : Kept) (was : kept_of es ≡ k) (h : IsKept ns (kept_of es)) (ps : List Part) (before : Each (IsBefore (length k.groups)) (map part_view ps)) where
  held : IsKept ns k
  held = subst (IsKept ns) was h

  -- a group
  module _ (e : fs ≡ es ++ record { job = None; parts = ps } ∷ []) where
    pub shared-is : kept_of fs ≡ with_group (map part_view ps) k
    shared-is = ap kept_of e ∙ group-push es ps ∙ ap (with_group (map part_view ps)) was

    pub shared-kept : IsKept ns (kept_of fs)
    shared-kept = subst (IsKept ns) (sym shared-is) (kept-group ns k held (map part_view ps) before)

    pub shared-records : records_of (kept_of fs) ≡ records_of k
    shared-records = ap records_of shared-is ∙ records-group ns k held (map part_view ps) before

  -- a job
  module _ (n : JobName) (e : fs ≡ es ++ record { job = Some n; parts = ps } ∷ []) where
    pub noted-is : kept_of fs ≡ with_job n (map part_view ps) k
    noted-is = ap kept_of e ∙ job-push es n ps ∙ ap (with_job n (map part_view ps)) was

    pub noted-records : records_of (kept_of fs) ≡ records_of k ++ record { job = n; used = all_marks k.groups (map part_view ps) } ∷ []
    noted-records = ap records_of noted-is ∙ records-job ns k held (map part_view ps) before n

    pub noted-kept : is_noted n k ≡ false → (ms : Numbers) → ((m : JobName) → m ≡ n → ms m ≡ Some (length es)) → ((m : JobName) → same_job m n ≡ false → ms m ≡ ns m) → IsKept ms (kept_of fs)
    noted-kept new ms here there = subst (IsKept ms) (sym noted-is) (kept-job ns k held (map part_view ps) before n new ms (λ m g. here m g ∙ ap (λ c. Some c) (sym (groups-length es) ∙ ap (λ (j : Kept). length j.groups) was)) there)

-- ---- what is looked at has a bit

module _ (ns : Numbers) (k : Kept) (h : IsKept ns k) where
  job-inside : (n : JobName) (o : Option ℕ) → IsNumber k n o → IfSome o (λ i. suc i ≤ length k.groups)
  job-inside n None e = tt
  job-inside n (Some i) e = e.0

  part-inside : (n : ℕ) → n ≤ length k.groups → (p : kept.Part) → IsBefore n p → IfSome (number_of ns p) (λ i. suc i ≤ length k.groups)
  part-inside n w (element x q) b = tt
  part-inside n w (result j) b = job-inside j (ns j) (h.numbers j)
  part-inside n w (group i) b = trans i n (length k.groups) b w
    where
      trans : (i n m : ℕ) → suc i ≤ n → n ≤ m → suc i ≤ m
      trans i n m a b = omega arith

  pub parts-inside : (i : ℕ) → suc i ≤ length k.groups → AreInside ns (length k.groups) (parts_in k.groups i)
  parts-inside i w p j = part-inside i (shorter i (length k.groups) w) p (parts-before k.groups h.before i p j)
    where
      shorter : (i n : ℕ) → suc i ≤ n → i ≤ n
      shorter i n w = omega arith

  pub marks-inside : (ms : List Mark) → AreInside ns (length k.groups) (map mark_part ms)
  marks-inside ms p j = part-inside (length k.groups) (itself (length k.groups)) p (each_in (IsBefore (length k.groups)) (map mark_part ms) (marks-before (length k.groups) ms) p j)
    where
      itself : (n : ℕ) → n ≤ n
      itself n = omega arith
