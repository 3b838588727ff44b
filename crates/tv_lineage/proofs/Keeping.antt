-- What is kept of records in parts stands for the records; groups and look-ups.
use Rattle.std.specs.List.{list_any}
use Rattle.std.specs.Prelude.{◌++◌, ◌||◌, ◌≡◌, refl, ℕ, zero, suc, ◌≤◌, List, [], ◌∷◌, length, flat_map, Bool, true, false, ◌==◌, if◌then◌else◌}
use Rattle.std.proofs.Common.{arith, sym, ap, subst, ◌∙◌, inl, inr}
use Rattle.std.proofs.lemmas.Bool.{eq-eqb, eqb-true, true≢false}
use Rattle.tv_lemmas.specs.Members.{In}
use Rattle.tv_lemmas.proofs.Members.{each_in, in-flat, in-map, of-flat, of-map}
use Rattle.tv_value.specs.Nested.{Place}
use Rattle.tv_value.specs.Values.{Name, JobName}
use Rattle.tv_value.specs.Orders.{same_job}
use Rattle.tv_value.proofs.JobNameLemmas.{same_job_decides}
use Rattle.tv_lineage.specs.Touching.{Mark, given, made, Label}
use Rattle.tv_lineage.specs.Lineages.{Record, LeadsIn, IsReached}
use Rattle.tv_lineage.specs.Kept.{Part, element, result, group, KeptRecord, Kept, Groups, part_marks, group_marks, marks_of, all_marks, record_kept, records_of, parts_by, parts_in, parts_next, IsBefore, AreBefore}

pub own_number : (i j : ℕ) → i ≡ j → (i == j) ≡ true
own_number i j e = eq-eqb i j e

-- ---- parts of groups made before

pub before-later : (m n : ℕ) (p : Part) → m ≤ n → IsBefore m p → IsBefore n p
before-later m n (element x q) w h = tt
before-later m n (result j) w h = tt
before-later m n (group i) w h = more i m n w h
  where
    more : (i m n : ℕ) → m ≤ n → suc i ≤ m → suc i ≤ n
    more i m n w h = omega arith

-- the parts of group i name only groups made before it
pub parts-before : (gs : Groups) → AreBefore gs → (i : ℕ) (p : Part) → In p (parts_in gs i) → IsBefore i p
parts-before [] a i p h = absurd h
parts-before (g ∷ gs) a i p h = by (i == length gs) refl h (λ k. parts-before gs a.1 i p k)
  where
    by : (b : Bool) → (i == length gs) ≡ b → In p (if b then g else parts_in gs i) → (In p (parts_in gs i) → IsBefore i p) → IsBefore i p
    by true e k rec = subst (λ n. IsBefore n p) (sym (eqb-true i (length gs) e)) (each_in (IsBefore (length gs)) g a.0 p k)
    by false e k rec = rec k

pub parts-shorter : (gs : Groups) (i : ℕ) (p : Part) → In p (parts_in gs i) → suc i ≤ length gs
parts-shorter [] i p h = absurd h
parts-shorter (g ∷ gs) i p h = by (i == length gs) refl h (λ k. parts-shorter gs i p k)
  where
    here : (i n : ℕ) → i ≡ n → suc i ≤ suc n
    here i n e = omega arith

    later : (i n : ℕ) → suc i ≤ n → suc i ≤ suc n
    later i n e = omega arith

    by : (b : Bool) → (i == length gs) ≡ b → In p (if b then g else parts_in gs i) → (In p (parts_in gs i) → suc i ≤ length gs) → suc i ≤ suc (length gs)
    by true e k rec = here i (length gs) (eqb-true i (length gs) e)
    by false e k rec = later i (length gs) (rec k)

-- a new group changes no part that names only earlier ones
pub before-same : (g : List Part) (gs : Groups) (p : Part) → IsBefore (length gs) p → marks_of (g ∷ gs) p ≡ marks_of gs p
before-same g gs (element x q) h = refl
before-same g gs (result n) h = refl
before-same g gs (group i) h = by (i == length gs) refl
  where
    not_last : (i n : ℕ) → suc i ≤ n → i ≡ n → ⊥
    not_last i n h e = omega arith

    by : (b : Bool) → (i == length gs) ≡ b → (if b then flat_map (part_marks (group_marks gs)) g else group_marks gs i) ≡ group_marks gs i
    by true e = absurd (not_last i (length gs) h (eqb-true i (length gs) e))
    by false e = refl

pub last-marks : (g : List Part) (gs : Groups) → marks_of (g ∷ gs) (group (length gs)) ≡ all_marks gs g
last-marks g gs = ap (λ b. if b then flat_map (part_marks (group_marks gs)) g else group_marks gs (length gs)) (own_number (length gs) (length gs) refl)

-- a group stands for what its parts stand for
pub in-group : (gs : Groups) → AreBefore gs → (i : ℕ) (p : Part) (m : Mark) → In p (parts_in gs i) → In m (marks_of gs p) → In m (group_marks gs i)
in-group [] a i p m h k = absurd h
in-group (g ∷ gs) a i p m h k = by (i == length gs) refl h (λ u w. in-group gs a.1 i p m u w)
  where
    smaller : (i n : ℕ) → suc i ≤ n → i ≤ n
    smaller i n h = omega arith

    by : (b : Bool) → (i == length gs) ≡ b → In p (if b then g else parts_in gs i) → (In p (parts_in gs i) → In m (marks_of gs p) → In m (group_marks gs i)) → In m (if b then flat_map (part_marks (group_marks gs)) g else group_marks gs i)
    by true e u rec = in-flat (part_marks (group_marks gs)) p m g u (subst (λ ms. In m ms) (before-same g gs p (each_in (IsBefore (length gs)) g a.0 p u)) k)
    by false e u rec =
        rec u (subst (λ ms. In m ms) (before-same g gs p (before-later i (length gs) p (smaller i (length gs) (parts-shorter gs i p u)) (parts-before gs a.1 i p u))) k)

pub of-group : (gs : Groups) → AreBefore gs → (i : ℕ) (m : Mark) → In m (group_marks gs i) → (p : Part) × In p (parts_in gs i) × In m (marks_of gs p)
of-group [] a i m h = absurd h
of-group (g ∷ gs) a i m h = by (i == length gs) refl h (λ k. of-group gs a.1 i m k)
  where
    smaller : (i n : ℕ) → suc i ≤ n → i ≤ n
    smaller i n h = omega arith

    by : (b : Bool) → (i == length gs) ≡ b → In m (if b then flat_map (part_marks (group_marks gs)) g else group_marks gs i) → (In m (group_marks gs i) → (p : Part) × In p (parts_in gs i) × In m (marks_of gs p)) → (p : Part) × In p (if b then g else parts_in gs i) × In m (marks_of (g ∷ gs) p)
    by true e k rec =
        let w = of-flat (part_marks (group_marks gs)) m g k in
        (w.0, w.1, subst (λ ms. In m ms) (sym (before-same g gs w.0 (each_in (IsBefore (length gs)) g a.0 w.0 w.1))) w.2)
    by false e k rec =
        let w = rec k in
        (w.0, w.1, subst (λ ms. In m ms) (sym (before-same g gs w.0 (before-later i (length gs) w.0 (smaller i (length gs) (parts-shorter gs i w.0 w.1)) (parts-before gs a.1 i w.0 w.1)))) w.2)

-- ---- parts of jobs

pub in-parts : (n : JobName) (rs : List KeptRecord) (r : KeptRecord) (p : Part) → In r rs → r.job ≡ n → In p r.parts → In p (parts_by n rs)
in-parts n rs r p i e u = in-flat (λ r. if same_job n r.job then r.parts else []) r p rs i (by (same_job n r.job) ((same_job_decides n r.job).1 (sym e)))
  where
    by : (b : Bool) → b ≡ true → In p (if b then r.parts else [])
    by true f = u
    by false f = absurd (true≢false (sym f))

pub of-parts : (n : JobName) (rs : List KeptRecord) (p : Part) → In p (parts_by n rs) → (r : KeptRecord) × In r rs × (r.job ≡ n) × In p r.parts
of-parts n rs p h = let w = of-flat (λ r. if same_job n r.job then r.parts else []) p rs h in by w.0 w.1 (same_job n w.0.job) refl w.2
  where
    by : (r : KeptRecord) → In r rs → (b : Bool) → same_job n r.job ≡ b → In p (if b then r.parts else []) → (r : KeptRecord) × In r rs × (r.job ≡ n) × In p r.parts
    by r i true e u = (r, i, sym ((same_job_decides n r.job).0 e), u)
    by r i false e u = absurd u

-- a job that wasn't noted has none
pub none-noted : (m : JobName) (js : List KeptRecord) → list_any (λ (r : KeptRecord). same_job m r.job) js ≡ false → parts_by m js ≡ []
none-noted m [] e = refl
none-noted m (r ∷ js) e = by (same_job m r.job) e (λ f. none-noted m js f)
  where
    by : (b : Bool) → (b || list_any (λ (r : KeptRecord). same_job m r.job) js) ≡ false → (list_any (λ (r : KeptRecord). same_job m r.job) js ≡ false → parts_by m js ≡ []) → (if b then r.parts else []) ++ parts_by m js ≡ []
    by true f rec = absurd (true≢false f)
    by false f rec = rec f

-- ---- what leads on

module _ (k : Kept) (a : AreBefore k.groups) where
  abbrev pub rs : List Record
  rs = records_of k

  -- what a part leads on to is reached from it
  pub next-reached : (p n : Part) (l : Label) → In n (parts_next k p) → IsReached rs (marks_of k.groups n) l → IsReached rs (marks_of k.groups p) l
  next-reached (element x q) n l h w = absurd h
  next-reached (result j) n l h w =
      let r = of-parts j k.jobs n h in
      (made j, inl refl, (suc w.2.0, (record_kept k.groups r.0, in-map (record_kept k.groups) r.0 k.jobs r.1, r.2, w.0, in-flat (marks_of k.groups) n w.0 r.0.parts r.3 w.1, w.2.1)))
  next-reached (group i) n l h w = (w.0, in-group k.groups a i n w.0 h w.1, w.2)

  pub all-reached : (ps : List Part) (p : Part) (l : Label) → In p ps → IsReached rs (marks_of k.groups p) l → IsReached rs (all_marks k.groups ps) l
  all-reached ps p l h w = (w.0, in-flat (marks_of k.groups) p w.0 ps h w.1, w.2)

  -- what holds of elements, and of a part if of what it leads on to: D is what is to be shown of the label, and S what is so of a part that leads to none without D
  module _ (S : Part → Type 0) (D : Label → Type 0) (elements : (x : Name) (q : Place) → S (element x q) → D (x, q)) (goes_on : (p : Part) → S p → (n : Part) → In n (parts_next k p) → S n) where
    -- in a group, from its parts
    within : (l : Label) (L : Mark → Type 0) → ((x : Name) (q : Place) → S (element x q) → L (given x q) → D l) → ((n : JobName) → S (result n) → L (made n) → D l) → (d : ℕ) (p : Part) → IsBefore d p → S p → (m : Mark) → In m (marks_of k.groups p) → L m → D l
    within l L f g d (element x q) b s m (inl e) h = f x q s (subst L e h)
    within l L f g d (element x q) b s m (inr i) h = absurd i
    within l L f g d (result n) b s m (inl e) h = g n s (subst L e h)
    within l L f g d (result n) b s m (inr i) h = absurd i
    within l L f g zero (group i) b s m u h = absurd (none i b)
      where
        none : (i : ℕ) → suc i ≤ zero → ⊥
        none i b = omega arith
    within l L f g (suc d) (group i) b s m u h =
        let w = of-group k.groups a i m u in
        within l L f g d w.0 (before-later i d w.0 (lower i d b) (parts-before k.groups a i w.0 w.1)) (goes_on (group i) s w.0 w.1) m w.2 h
      where
        lower : (i d : ℕ) → suc i ≤ suc d → i ≤ d
        lower i d b = omega arith

    abbrev bound_of : Part → ℕ
    bound_of (element x q) = zero
    bound_of (result n) = zero
    bound_of (group i) = suc i

    bounded : (p : Part) → IsBefore (bound_of p) p
    bounded (element x q) = tt
    bounded (result n) = tt
    bounded (group i) = itself (suc i)
      where
        itself : (n : ℕ) → n ≤ n
        itself n = omega arith

    leads : (j : ℕ) (p : Part) → S p → (m : Mark) → In m (marks_of k.groups p) → (l : Label) → LeadsIn rs j m l → D l
    leads zero p s m u l h =
        within l (λ m. LeadsIn rs zero m l) (λ x q t e. subst D (sym e) (elements x q t)) (λ n t e. absurd e) (bound_of p) p (bounded p) s m u h
    leads (suc j) p s m u l h =
        within l (λ m. LeadsIn rs (suc j) m l) (λ x q t e. subst D (sym e) (elements x q t)) (λ n t e. by n t e (λ p s m u w. leads j p s m u l w)) (bound_of p) p (bounded p) s m u h
      where
        by : (n : JobName) → S (result n) → LeadsIn rs (suc j) (made n) l → ((p : Part) → S p → (m : Mark) → In m (marks_of k.groups p) → LeadsIn rs j m l → D l) → D l
        by n t e rec =
            let r = of-map (record_kept k.groups) e.0 k.jobs e.1 in
            let w = of-flat (marks_of k.groups) e.3 r.0.parts (subst (λ (x : Record). In e.3 x.used) r.2 e.4) in
            rec w.0 (goes_on (result n) t w.0 (in-parts n k.jobs r.0 w.0 r.1 (sym (ap (λ (x : Record). x.job) r.2) ∙ e.2) w.1)) e.3 w.2 e.5

    pub reached-so : (p : Part) → S p → (l : Label) → IsReached rs (marks_of k.groups p) l → D l
    reached-so p s l h = leads h.2.0 p s h.0 h.1 l h.2.1
