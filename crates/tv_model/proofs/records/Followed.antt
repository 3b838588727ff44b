-- Labels by the list of jobs are what the records of these jobs lead to.
use Rattle.std.specs.Prelude.{◌≡◌, refl, ℕ, zero, suc, ◌≤◌, List, [], ◌∷◌, map, flat_map, Bool, true, false, if◌then◌else◌}
use Rattle.std.proofs.Common.{arith, sym, ap, subst, ◌∙◌, inl, inr}
use Rattle.std.proofs.lemmas.Bool.{true≢false}
use Rattle.tv_lemmas.specs.Members.{In}
use Rattle.tv_lemmas.proofs.Members.{in-flat, in-map, of-flat, of-map}
use Rattle.tv_value.specs.Orders.{same_job, in_order}
use Rattle.tv_value.proofs.JobNameLemmas.{same_job_decides}
use Rattle.tv_lineage.specs.Touching as marks
use Rattle.tv_lineage.specs.Touching.{Label, label_cmp}
use Rattle.tv_lineage.specs.Lineages.{Record, LeadsIn, Leads, IsReached, backward}
use Rattle.tv_lineage.proofs.Closing.{leads-more, backward-is}
use Rattle.tv_strategy.specs.Origins.{Mark, given, made, Traced}
use Rattle.tv_model.specs.Jobs.{Job}
use Rattle.tv_model.specs.Lineages.{labels, used}
use Rattle.tv_model.proofs.Members.{once-of_apart}
use Rattle.tv_model.specs.JobOrder.{Apart}
use Rattle.tv_model.specs.records.Recorded.{mark_of, marks_of, record_of}

abbrev pub recorded : List Job → List Record
recorded js = map record_of js

-- a mark of an input, or of a job of the list
abbrev pub IsOf : List Job → Mark → Type 0
IsOf js (given x q) = Unit {0}
IsOf js (made n) = (j : Job) × In j js × (j.name ≡ n)

-- each job uses only marks of the jobs after it
abbrev pub UseLater : List Job → Type 0
UseLater [] = Unit {0}
UseLater (j ∷ js) = ((m : Mark) → In m (flat_map used j.inputs) → IsOf js m) × UseLater js

is_of-more : (j : Job) (js : List Job) (m : Mark) → IsOf js m → IsOf (j ∷ js) m
is_of-more j js (given x q) h = tt
is_of-more j js (made n) h = (h.0, inr h.1, h.2)

-- so all they use is of jobs of the list
use-own : (js : List Job) → UseLater js → (j : Job) → In j js → (m : Mark) → In m (flat_map used j.inputs) → IsOf js m
use-own [] u j h m k = absurd h
use-own (i ∷ js) u j (inl p) m k = is_of-more i js m (u.0 m (subst (λ (x : Job). In m (flat_map used x.inputs)) p k))
use-own (i ∷ js) u j (inr h) m k = is_of-more i js m (use-own js u.1 j h m k)

-- no other record has the name of one of the jobs
abbrev pub AreOnly : List Record → List Job → Type 0
AreOnly rs js = (r : Record) → In r rs → (j : Job) → In j js → r.job ≡ j.name → r ≡ record_of j

pub only-of : (all js : List Job) → Apart (λ (j : Job). j.name) all → ((j : Job) → In j js → In j all) → AreOnly (recorded all) js
only-of all js a w r h j k e =
    let i = of-map record_of r all h in
    i.2 ∙ ap record_of (once-of_apart (λ (j : Job). j.name) all a i.0 j i.1 (w j k) (sym (ap (λ (x : Record). x.job) i.2) ∙ e))

-- what begins at a mark of these jobs stays among their records
pub stays : (rs : List Record) (js : List Job) → AreOnly rs js → UseLater js → (k : ℕ) (m : Mark) (l : marks.Label) → IsOf js m → LeadsIn rs k (mark_of m) l → LeadsIn (recorded js) k (mark_of m) l
stays rs js o u zero (given x q) l h p = p
stays rs js o u (suc k) (given x q) l h p = p
stays rs js o u zero (made n) l h p = absurd p
stays rs js o u (suc k) (made n) l h p =
    let e = o p.0 p.1 h.0 h.1 (p.2 ∙ sym h.2) in
    let m = of-map mark_of p.3 (flat_map used h.0.inputs) (subst (λ (r : Record). In p.3 r.used) e p.4) in (
      record_of h.0,
      in-map record_of h.0 js h.1,
      h.2,
      mark_of m.0,
      in-map mark_of m.0 (flat_map used h.0.inputs) m.1,
      stays rs js o u k m.0 l (use-own js u h.0 h.1 m.0 m.1) (subst (λ x. LeadsIn rs k x l) m.2 p.5),
    )

-- ---- the labels by the list of jobs

further : (j : Job) (js : List Job) (m : marks.Mark) (l : marks.Label) → Leads (recorded js) m l → Leads (recorded (j ∷ js)) m l
further j js m l h = (h.0, leads-more (recorded js) (recorded (j ∷ js)) (λ r i. inr i) h.0 h.0 m l (itself h.0) h.1)
  where
    itself : (n : ℕ) → n ≤ n
    itself n = omega arith

pub of-labels : (js : List Job) (m : Mark) (l : Label) → In l (labels js m) → Leads (recorded js) (mark_of m) l
of-labels [] (given x q) l (inl p) = (zero, p)
of-labels [] (given x q) l (inr h) = absurd h
of-labels [] (made n) l h = absurd h
of-labels (j ∷ js) (given x q) l (inl p) = (zero, p)
of-labels (j ∷ js) (given x q) l (inr h) = absurd h
of-labels (j ∷ js) (made n) l h = by (same_job n j.name) refl h (λ m k. of-labels js m l k)
  where
    by : (b : Bool) → same_job n j.name ≡ b → In l (if b then flat_map (labels js) (flat_map used j.inputs) else labels js (made n)) → ((m : Mark) → In l (labels js m) → Leads (recorded js) (mark_of m) l) → Leads (recorded (j ∷ js)) (marks.made n) l
    by true e k rec =
        let w = of-flat (labels js) l (flat_map used j.inputs) k in
        let r = further j js (mark_of w.0) l (rec w.0 w.2) in
        (suc r.0, (record_of j, inl refl, sym ((same_job_decides n j.name).0 e), mark_of w.0, in-map mark_of w.0 (flat_map used j.inputs) w.1, r.1))
    by false e k rec = further j js (marks.made n) l (rec (made n) k)

pub in-labels : (js : List Job) → Apart (λ (j : Job). j.name) js → UseLater js → (k : ℕ) (m : Mark) (l : Label) → LeadsIn (recorded js) k (mark_of m) l → In l (labels js m)
in-labels [] a u zero (given x q) l h = inl h
in-labels [] a u (suc k) (given x q) l h = inl h
in-labels [] a u zero (made n) l h = absurd h
in-labels [] a u (suc k) (made n) l h = absurd h.1
in-labels (j ∷ js) a u zero (given x q) l h = inl h
in-labels (j ∷ js) a u (suc k) (given x q) l h = inl h
in-labels (j ∷ js) a u zero (made n) l h = absurd h
in-labels (j ∷ js) a u (suc k) (made n) l h = by (same_job n j.name) refl (λ d m p. in-labels js a.1 u.1 d m l p)
  where
    only : AreOnly (recorded (j ∷ js)) js
    only = only-of (j ∷ js) js a (λ i k. inr k)

    first : n ≡ j.name → In h.0 (recorded (j ∷ js)) → h.0 ≡ record_of j
    first e (inl p) = p
    first e (inr i) =
        let r = of-map record_of h.0 js i in
        absurd (a.0 r.0 r.1 (sym (ap (λ (x : Record). x.job) r.2) ∙ h.2 ∙ e))

    rest : same_job n j.name ≡ false → In h.0 (recorded (j ∷ js)) → IsOf js (made n)
    rest e (inl p) = absurd (true≢false (sym ((same_job_decides n j.name).1 (sym h.2 ∙ ap (λ (x : Record). x.job) p)) ∙ e))
    rest e (inr i) = let r = of-map record_of h.0 js i in (r.0, r.1, sym (ap (λ (x : Record). x.job) r.2) ∙ h.2)

    by : (b : Bool) → same_job n j.name ≡ b → ((d : ℕ) (m : Mark) → LeadsIn (recorded js) d (mark_of m) l → In l (labels js m)) → In l (if b then flat_map (labels js) (flat_map used j.inputs) else labels js (made n))
    by true e rec =
        let f = first ((same_job_decides n j.name).0 e) h.1 in
        let m = of-map mark_of h.3 (flat_map used j.inputs) (subst (λ (r : Record). In h.3 r.used) f h.4) in
        in-flat (labels js) m.0 l (flat_map used j.inputs) m.1 (rec k m.0 (stays (recorded (j ∷ js)) js only u.1 k m.0 l (u.0 m.0 m.1) (subst (λ x. LeadsIn (recorded (j ∷ js)) k x l) m.2 h.5)))
    by false e rec = rec (suc k) (made n) (stays (recorded (j ∷ js)) js only u.1 (suc k) (made n) l (rest e h.1) h)

-- ---- what a value was made from

pub backward-labels : (rs : List Record) (js : List Job) → Apart (λ (j : Job). j.name) js → UseLater js → AreOnly rs js → ((r : Record) → In r (recorded js) → In r rs) → (v : Traced) → ((m : Mark) → In m (used v) → IsOf js m) → backward rs (marks_of v) ≡ in_order label_cmp (flat_map (labels js) (used v))
backward-labels rs js a u o w v f = sym (backward-is rs (marks_of v) (flat_map (labels js) (used v)) there back)
  where
    itself : (n : ℕ) → n ≤ n
    itself n = omega arith

    there : (l : marks.Label) → In l (flat_map (labels js) (used v)) → IsReached rs (marks_of v) l
    there l h =
        let m = of-flat (labels js) l (used v) h in
        let r = of-labels js m.0 l m.2 in
        (mark_of m.0, in-map mark_of m.0 (used v) m.1, (r.0, leads-more (recorded js) rs w r.0 r.0 (mark_of m.0) l (itself r.0) r.1))

    back : (l : marks.Label) → IsReached rs (marks_of v) l → In l (flat_map (labels js) (used v))
    back l h =
        let m = of-map mark_of h.0 (used v) h.1 in
        in-flat (labels js) m.0 l (used v) m.1 (in-labels js a u h.2.0 m.0 l (stays rs js o u h.2.0 m.0 l (f m.0 m.1) (subst (λ x. LeadsIn rs h.2.0 x l) m.2 h.2.1)))
