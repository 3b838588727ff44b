-- The functions on records give what their marks lead to.
use Rattle.std.specs.Prelude.{◌≡◌, refl, ℕ, zero, suc, ◌≤◌, ◌⊎◌, List, [], ◌∷◌, length, filter, Bool, true, false, not, if◌then◌else◌, flat_map}
use Rattle.std.specs.Cmp.{IsTotalOrder}
use Rattle.std.proofs.Common.{arith, sym, ap, inl, inr}
use Rattle.std.proofs.lemmas.Cmp.{then_total, on_total, nat_list_cmp_total}
use Rattle.std.proofs.lemmas.Map.Lookups.{exact_bytes, exact_pairs}
use Rattle.std.proofs.Common.{Equal}
use Rattle.std.proofs.lemmas.Bool.{true≢false}
use Rattle.tv_lemmas.specs.Members.{In}
use Rattle.tv_lemmas.proofs.Members.{filter-shorter, in-filter, in-flat, of-filter, of-flat}
use Rattle.tv_value.specs.Nested.{Place}
use Rattle.tv_value.specs.Values.{Name, JobName}
use Rattle.tv_value.specs.Orders.{same_job, name_cmp, place_cmp, in_order}
use Rattle.tv_value.proofs.JobNameLemmas.{same_job_decides}
use Rattle.tv_lineage.specs.Members.{IsWithin, HaveSame, Rises}
use Rattle.tv_lineage.specs.Touching.{Mark, given, made, Label, label_cmp}
use Rattle.tv_lineage.specs.Lineages.{Record, LeadsIn, Leads, IsReached, used_by, labels_in, backward}
use Rattle.tv_lineage.proofs.Rising.{in-order, of-order, rises-order, same-order}

-- ---- names and labels

pub label_total : IsTotalOrder label_cmp
label_total = then_total (on_total (λ l. l.0) nat_list_cmp_total) (on_total (λ l. l.1) nat_list_cmp_total)

pub label_same : (x y : Label) → label_cmp x y ≡ Equal → x ≡ y
label_same x y e = exact_pairs name_cmp place_cmp exact_bytes exact_bytes x y e

-- ---- what a job used

pub in-used : (n : JobName) (rs : List Record) (r : Record) (m : Mark) → In r rs → r.job ≡ n → In m r.used → In m (used_by n rs)
in-used n rs r m i e u = in-flat (λ r. if same_job n r.job then r.used else []) r m rs i (by (same_job n r.job) ((same_job_decides n r.job).1 (sym e)))
  where
    by : (b : Bool) → b ≡ true → In m (if b then r.used else [])
    by true f = u
    by false f = absurd (true≢false (sym f))

pub of-used : (n : JobName) (rs : List Record) (m : Mark) → In m (used_by n rs) → (r : Record) × In r rs × (r.job ≡ n) × In m r.used
of-used n rs m h = let w = of-flat (λ r. if same_job n r.job then r.used else []) m rs h in by w.0 w.1 (same_job n w.0.job) refl w.2
  where
    by : (r : Record) → In r rs → (b : Bool) → same_job n r.job ≡ b → In m (if b then r.used else []) → (r : Record) × In r rs × (r.job ≡ n) × In m r.used
    by r i true e u = (r, i, sym ((same_job_decides n r.job).0 e), u)
    by r i false e u = absurd u

-- ---- steps

pub of-given : (rs : List Record) (k : ℕ) (x : Name) (q : Place) (l : Label) → LeadsIn rs k (given x q) l → l ≡ (x, q)
of-given rs zero x q l h = h
of-given rs (suc k) x q l h = h

pub to-given : (rs : List Record) (k : ℕ) (x : Name) (q : Place) (l : Label) → l ≡ (x, q) → LeadsIn rs k (given x q) l
to-given rs zero x q l h = h
to-given rs (suc k) x q l h = h

-- more steps and more records lead as far
pub leads-more : (rs ts : List Record) → IsWithin rs ts → (j k : ℕ) (m : Mark) (l : Label) → j ≤ k → LeadsIn rs j m l → LeadsIn ts k m l
leads-more rs ts w j k (given x q) l p h = to-given ts k x q l (of-given rs j x q l h)
leads-more rs ts w zero k (made n) l p h = absurd h
leads-more rs ts w (suc j) zero (made n) l p h = absurd (none j p)
  where
    none : (j : ℕ) → suc j ≤ zero → ⊥
    none j p = omega arith
leads-more rs ts w (suc j) (suc k) (made n) l p h = (h.0, w h.0 h.1, h.2, h.3, h.4, leads-more rs ts w j k h.3 l (lower j k p) h.5)
  where
    lower : (j k : ℕ) → suc j ≤ suc k → j ≤ k
    lower j k p = omega arith

-- ---- no way is longer than there are records

abbrev pub without : JobName → List Record → List Record
without n rs = filter (λ r. not (same_job n r.job)) rs

-- through a record of that job once, and never again
abbrev Through : JobName → List Record → Label → Type 0
Through n rs l = (r : Record) × In r rs × (r.job ≡ n) × (m : Mark) × In m r.used × Leads (without n rs) m l

avoid : (rs : List Record) (n : JobName) (k : ℕ) (m : Mark) (l : Label) → LeadsIn rs k m l → Leads (without n rs) m l ⊎ Through n rs l
avoid rs n zero (given x q) l h = inl (zero, h)
avoid rs n zero (made o) l h = absurd h
avoid rs n (suc k) (given x q) l h = inl (zero, h)
avoid rs n (suc k) (made o) l h = by (avoid rs n k h.3 l h.5)
  where
    here : Leads (without n rs) h.3 l → (b : Bool) → same_job n h.0.job ≡ b → Leads (without n rs) (made o) l ⊎ Through n rs l
    here w true e = inr (h.0, h.1, sym ((same_job_decides n h.0.job).0 e), h.3, h.4, w)
    here w false e = inl (suc w.0, (h.0, in-filter (λ r. not (same_job n r.job)) h.0 rs h.1 (ap not e), h.2, h.3, h.4, w.1))

    by : Leads (without n rs) h.3 l ⊎ Through n rs l → Leads (without n rs) (made o) l ⊎ Through n rs l
    by (inl w) = here w (same_job n h.0.job) refl
    by (inr v) = inr v

pub enough : (d : ℕ) (rs : List Record) → length rs ≤ d → (m : Mark) (l : Label) (k : ℕ) → LeadsIn rs k m l → LeadsIn rs d m l
enough d rs p (given x q) l k h = to-given rs d x q l (of-given rs k x q l h)
enough d rs p (made n) l zero h = absurd h
enough zero [] p (made n) l (suc k) h = absurd h.1
enough zero (r ∷ rs) p (made n) l (suc k) h = absurd (none (length rs) p)
  where
    none : (j : ℕ) → suc j ≤ zero → ⊥
    none j p = omega arith
enough (suc d) rs p (made n) l (suc k) h = by (avoid rs n k h.3 l h.5) (λ f m j w. enough d (without n rs) f m l j w)
  where
    fewer : (a b d : ℕ) → suc a ≤ b → b ≤ suc d → a ≤ d
    fewer a b d p q = omega arith

    fits : (r : Record) → In r rs → r.job ≡ n → length (without n rs) ≤ d
    fits r i e = fewer (length (without n rs)) (length rs) d (filter-shorter (λ r. not (same_job n r.job)) r rs i (ap not ((same_job_decides n r.job).1 (sym e)))) p

    back : (m : Mark) → LeadsIn (without n rs) d m l → LeadsIn rs d m l
    back m w = leads-more (without n rs) rs (λ r i. (of-filter (λ r. not (same_job n r.job)) r rs i).0) d d m l (itself d) w
      where
        itself : (n : ℕ) → n ≤ n
        itself n = omega arith

    by : Leads (without n rs) h.3 l ⊎ Through n rs l → (length (without n rs) ≤ d → (m : Mark) (j : ℕ) → LeadsIn (without n rs) j m l → LeadsIn (without n rs) d m l) → LeadsIn rs (suc d) (made n) l
    by (inl w) rec = (h.0, h.1, h.2, h.3, h.4, back h.3 (rec (fits h.0 h.1 h.2) h.3 w.0 w.1))
    by (inr v) rec = (v.0, v.1, v.2, v.3, v.4, back v.3 (rec (fits v.0 v.1 v.2) v.3 v.5.0 v.5.1))

-- ---- the functions

pub in-labels : (rs : List Record) (k : ℕ) (m : Mark) (l : Label) → LeadsIn rs k m l → In l (labels_in rs k m)
in-labels rs zero (given x q) l h = inl h
in-labels rs zero (made n) l h = absurd h
in-labels rs (suc k) (given x q) l h = inl h
in-labels rs (suc k) (made n) l h = in-flat (labels_in rs k) h.3 l (used_by n rs) (in-used n rs h.0 h.3 h.1 h.2 h.4) (in-labels rs k h.3 l h.5)

pub of-labels : (rs : List Record) (k : ℕ) (m : Mark) (l : Label) → In l (labels_in rs k m) → LeadsIn rs k m l
of-labels rs zero (given x q) l (inl h) = h
of-labels rs zero (given x q) l (inr h) = absurd h
of-labels rs zero (made n) l h = absurd h
of-labels rs (suc k) (given x q) l (inl h) = h
of-labels rs (suc k) (given x q) l (inr h) = absurd h
of-labels rs (suc k) (made n) l h =
    let w = of-flat (labels_in rs k) l (used_by n rs) h in
    let u = of-used n rs w.0 w.1 in
    (u.0, u.1, u.2, w.0, u.3, of-labels rs k w.0 l w.2)

pub in-backward : (rs : List Record) (used : List Mark) (l : Label) → IsReached rs used l → In l (backward rs used)
in-backward rs used l h =
    in-order label_cmp label_total label_same l (flat_map (labels_in rs (length rs)) used) (in-flat (labels_in rs (length rs)) h.0 l used h.1 (in-labels rs (length rs) h.0 l (enough (length rs) rs (itself (length rs)) h.0 l h.2.0 h.2.1)))
  where
    itself : (n : ℕ) → n ≤ n
    itself n = omega arith

pub of-backward : (rs : List Record) (used : List Mark) (l : Label) → In l (backward rs used) → IsReached rs used l
of-backward rs used l h =
    let w = of-flat (labels_in rs (length rs)) l used (of-order label_cmp label_total label_same l (flat_map (labels_in rs (length rs)) used) h) in
    (w.0, w.1, (length rs, of-labels rs (length rs) w.0 l w.2))

pub rises-backward : (rs : List Record) (used : List Mark) → Rises label_cmp (backward rs used)
rises-backward rs used = rises-order label_cmp label_total label_same (flat_map (labels_in rs (length rs)) used)

-- ---- only what records there are, and which marks, is of account

pub reached-more : (rs ts : List Record) (us vs : List Mark) → IsWithin rs ts → IsWithin us vs → (l : Label) → IsReached rs us l → IsReached ts vs l
reached-more rs ts us vs w v l h = (h.0, v h.0 h.1, (h.2.0, leads-more rs ts w h.2.0 h.2.0 h.0 l (itself h.2.0) h.2.1))
  where
    itself : (n : ℕ) → n ≤ n
    itself n = omega arith

-- two lists that have the same labels, in order and each once, are one
pub backward-is : (rs : List Record) (used : List Mark) (ls : List Label) → ((l : Label) → In l ls → IsReached rs used l) → ((l : Label) → IsReached rs used l → In l ls) → in_order label_cmp ls ≡ backward rs used
backward-is rs used ls f g =
    same-order label_cmp label_total label_same ls (flat_map (labels_in rs (length rs)) used)
    (λ l. (λ h. of-order label_cmp label_total label_same l (flat_map (labels_in rs (length rs)) used) (in-backward rs used l (f l h)), λ h. g l (of-backward rs used l (in-order label_cmp label_total label_same l (flat_map (labels_in rs (length rs)) used) h))))

pub backward-same : (rs ts : List Record) (us vs : List Mark) → HaveSame rs ts → HaveSame us vs → backward rs us ≡ backward ts vs
backward-same rs ts us vs f g =
    backward-is ts vs (flat_map (labels_in rs (length rs)) us)
    (λ l h. reached-more rs ts us vs (λ r. (f r).0) (λ m. (g m).0) l (of-backward rs us l (in-order label_cmp label_total label_same l (flat_map (labels_in rs (length rs)) us) h)))
    (λ l h. of-order label_cmp label_total label_same l (flat_map (labels_in rs (length rs)) us) (in-backward rs us l (reached-more ts rs vs us (λ r. (f r).1) (λ m. (g m).1) l h)))
