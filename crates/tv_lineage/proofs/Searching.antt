-- Searches find exactly what is reached.
use Rattle.std.specs.Prelude.{IfSome, List, None, Option, Some, [], length, refl, suc, zero, ℕ, ◌+◌, ◌++◌, ◌≡◌, ◌⊎◌, ◌∷◌}
use Rattle.std.proofs.Common.{ap, arith, inl, inr, length-append, subst, sym, ◌∙◌}
use Rattle.tv_lemmas.specs.Members.{In}
use Rattle.tv_lemmas.proofs.Members.{in-append, of-flat}
use Rattle.tv_value.specs.Values.{JobName}
use Rattle.tv_lineage.specs.Kept.{AreBefore, Kept, Part, all_marks, element, group, group_marks, marks_of, parts_by, parts_in, parts_next, records_of, result}
use Rattle.tv_lineage.specs.Lineages.{IsReached, Record, backward}
use Rattle.tv_lineage.specs.Members.{Rises}
use Rattle.tv_lineage.specs.Reaching.{AreNumbers, Begins, IsMet, IsNumber, IsSearch, IsSeen, Numbers, Search, Sees, looks_left, number_of}
use Rattle.tv_lineage.specs.Touching.{Label, given, label_cmp}
use Rattle.tv_lineage.proofs.Closing.{in-backward, label_same, label_total, of-backward, rises-backward}
use Rattle.tv_lineage.proofs.Keeping.{all-reached, next-reached, none-noted, of-group, reached-so}
use Rattle.tv_lineage.proofs.Rising.{only-one}

module _ (ns : Numbers) (k : Kept) (a : AreBefore k.groups) (h : AreNumbers ns k) where
  abbrev rs : List Record
  rs = records_of k

  -- ---- the group that a part leads on to

  numbered : (n : JobName) (o : Option ℕ) → ns n ≡ o → IsNumber k n o
  numbered n o e = subst (IsNumber k n) e (h n)

  -- what is reached from the group that a part names is reached from the part
  pub number-reached : (p : Part) (i : ℕ) → number_of ns p ≡ Some i → (l : Label) → IsReached rs (group_marks k.groups i) l → IsReached rs (marks_of k.groups p) l
  number-reached (element x q) i e l w = absurd (none e)
    where
      has : Option ℕ → Type 0
      has None = Unit {0}
      has (Some j) = ⊥

      none : None ≡ Some i → ⊥
      none e = subst has e tt
  number-reached (result n) i e l w =
      let g = of-group k.groups a i w.0 w.1 in
      next-reached k a (result n) g.0 l (subst (λ ps. In g.0 ps) (sym (numbered n (Some i) e).1) g.1) (w.0, g.2, w.2)
  number-reached (group j) i e l w = subst (λ m. IsReached rs (group_marks k.groups m) l) (sym (same j i e)) w
    where
      or_that : Option ℕ → ℕ
      or_that None = j
      or_that (Some m) = m

      same : (j i : ℕ) → Some j ≡ Some i → j ≡ i
      same j i e = ap or_that e

  -- ---- a search

  -- what is seen from s on, where all that s holds is reached and all that these parts lead to is
  module _ (used ps : List Part) (s t : Search) (w : Sees ns ps s t)
      (ps_reached : (p : Part) → In p ps → (l : Label) → IsReached rs (marks_of k.groups p) l → IsReached rs (all_marks k.groups used) l)
      (found : (l : Label) → In l s.found → IsReached rs (all_marks k.groups used) l)
      (met : (i : ℕ) → IsMet s i → (l : Label) → IsReached rs (group_marks k.groups i) l → IsReached rs (all_marks k.groups used) l) where
    still-found : (l : Label) → In l t.found → IsReached rs (all_marks k.groups used) l
    still-found l i = by (w.found l i)
      where
        by : In l s.found ⊎ In (element l.0 l.1) ps → IsReached rs (all_marks k.groups used) l
        by (inl j) = found l j
        by (inr j) = ps_reached (element l.0 l.1) j l (given l.0 l.1, inl refl, (zero, refl))

    still-met : (i : ℕ) → IsMet t i → (l : Label) → IsReached rs (group_marks k.groups i) l → IsReached rs (all_marks k.groups used) l
    still-met i m l u = by (w.met i m)
      where
        by : IsMet s i ⊎ (In i t.pending × ((p : Part) × In p ps × (number_of ns p ≡ Some i))) → IsReached rs (all_marks k.groups used) l
        by (inl j) = met i j l u
        by (inr j) = ps_reached j.1.0 j.1.1 l (number-reached j.1.0 i j.1.2 l u)

  pub begins : (used : List Part) (s t : Search) → Begins (length k.groups) s → Sees ns used s t → IsSearch ns k used t
  begins used s t b w = record {
    found = still-found used used s t w (λ o i l u. all-reached k a used o l i u) (λ l i. absurd (subst (λ ls. In l ls) b.found i)) (λ i m. absurd (b.met i m));
    met = still-met used used s t w (λ o i l u. all-reached k a used o l i u) (λ l i. absurd (subst (λ ls. In l ls) b.found i)) (λ i m. absurd (b.met i m));
    began = w.seen;
    goes_on = λ i m. on i (w.met i m);
    due = λ i j. due i (w.due i j);
    rises = w.rises (subst (λ ls. Rises label_cmp ls) (sym b.found) tt);
    size = w.size ∙ b.size;
  }
    where
      on : (i : ℕ) → IsMet s i ⊎ (In i t.pending × ((p : Part) × In p used × (number_of ns p ≡ Some i))) → In i t.pending ⊎ ((p : Part) → In p (parts_in k.groups i) → IsSeen ns t p)
      on i (inl m) = absurd (b.met i m)
      on i (inr j) = inl j.0

      due : (i : ℕ) → In i s.pending ⊎ IsMet t i → IsMet t i
      due i (inl j) = absurd (subst (λ is. In i is) b.pending j)
      due i (inr m) = m

  pub goes-on : (used : List Part) (s t : Search) (rest : List ℕ) (i : ℕ) → s.pending ≡ rest ++ i ∷ [] → IsSearch ns k used s → Sees ns (parts_in k.groups i) (record s { pending = rest }) t → IsSearch ns k used t × (looks_left s ≡ suc (looks_left t))
  goes-on used s t rest i e g w = (
    record {
      found = still-found used (parts_in k.groups i) (record s { pending = rest }) t w next g.found g.met;
      met = still-met used (parts_in k.groups i) (record s { pending = rest }) t w next g.found g.met;
      began = λ p j. still p (g.began p j);
      goes_on = λ j m. on j (w.met j m);
      due = λ j m. due j (w.due j m);
      rises = w.rises g.rises;
      size = w.size ∙ g.size;
    },
    left,
  )
    where
      in_all : (j : ℕ) → In j (rest ++ i ∷ []) → In j s.pending
      in_all j m = subst (λ is. In j is) (sym e) m

      last : (j : ℕ) (js : List ℕ) → In j (js ++ j ∷ [])
      last j [] = inl refl
      last j (o ∷ js) = inr (last j js)

      first : (j o : ℕ) (js : List ℕ) → In j js → In j (js ++ o ∷ [])
      first j o [] m = absurd m
      first j o (n ∷ js) (inl q) = inl q
      first j o (n ∷ js) (inr m) = inr (first j o js m)

      next : (p : Part) → In p (parts_in k.groups i) → (l : Label) → IsReached rs (marks_of k.groups p) l → IsReached rs (all_marks k.groups used) l
      next p j l u = g.met i (g.due i (in_all i (last i rest))) l (next-reached k a (group i) p l j u)

      plain : (p : Part) → IsSeen ns s p → IsSeen ns (record s { pending = rest }) p
      plain (element x q) m = m
      plain (result n) m = m
      plain (group o) m = m

      still : (p : Part) → IsSeen ns s p → IsSeen ns t p
      still p m = w.still p (plain p m)

      on : (j : ℕ) → IsMet s j ⊎ (In j t.pending × ((p : Part) × In p (parts_in k.groups i) × (number_of ns p ≡ Some j))) → In j t.pending ⊎ ((p : Part) → In p (parts_in k.groups j) → IsSeen ns t p)
      on j (inr m) = inl m.0
      on j (inl m) = by (g.goes_on j m)
        where
          which : In j rest ⊎ In j (i ∷ []) → In j t.pending ⊎ ((p : Part) → In p (parts_in k.groups j) → IsSeen ns t p)
          which (inl o) = inl (w.pending j o)
          which (inr (inl q)) = inr (λ p o. w.seen p (subst (λ m. In p (parts_in k.groups m)) q o))
          which (inr (inr o)) = absurd o

          by : In j s.pending ⊎ ((p : Part) → In p (parts_in k.groups j) → IsSeen ns s p) → In j t.pending ⊎ ((p : Part) → In p (parts_in k.groups j) → IsSeen ns t p)
          by (inl o) = which (in-append j rest (i ∷ []) (subst (λ is. In j is) e o))
          by (inr o) = inr (λ p q. still p (o p q))

      due : (j : ℕ) → In j rest ⊎ IsMet t j → IsMet t j
      due j (inl o) = w.still (group j) (g.due j (in_all j (first j i rest o)))
      due j (inr m) = m

      count : (m n u : ℕ) → m ≡ n + 1 → m + u ≡ suc (n + u)
      count m n u q = omega arith

      left : looks_left s ≡ suc (looks_left t)
      left = count (length s.pending) (length rest) _ (ap length e ∙ length-append rest (i ∷ [])) ∙ ap suc (sym w.left)

  -- once nothing is pending all that is reached was found
  pub finds-all : (used : List Part) (s : Search) → s.pending ≡ [] → IsSearch ns k used s → s.found ≡ backward rs (all_marks k.groups used)
  finds-all used s none g = only-one label_cmp label_total label_same s.found (backward rs (all_marks k.groups used)) g.rises (rises-backward rs (all_marks k.groups used)) (λ l. (λ i. in-backward rs (all_marks k.groups used) l (g.found l i), λ i. back l (of-backward rs (all_marks k.groups used) l i)))
    where
      all_seen : (i : ℕ) → IsMet s i → (p : Part) → In p (parts_in k.groups i) → IsSeen ns s p
      all_seen i m = by (g.goes_on i m)
        where
          by : In i s.pending ⊎ ((p : Part) → In p (parts_in k.groups i) → IsSeen ns s p) → (p : Part) → In p (parts_in k.groups i) → IsSeen ns s p
          by (inl o) = absurd (subst (λ is. In i is) none o)
          by (inr f) = f

      of_job : (n : JobName) (o : Option ℕ) → IsNumber k n o → IfSome o (IsMet s) → (p : Part) → In p (parts_by n k.jobs) → IsSeen ns s p
      of_job n None e m p j = absurd (subst (λ ps. In p ps) (none-noted n k.jobs e) j)
      of_job n (Some i) e m p j = all_seen i m p (subst (λ ps. In p ps) e.1 j)

      next : (p : Part) → IsSeen ns s p → (n : Part) → In n (parts_next k p) → IsSeen ns s n
      next (element x q) m n j = absurd j
      next (result n) m o j = of_job n (ns n) (h n) m o j
      next (group i) m n j = all_seen i m n j

      back : (l : Label) → IsReached rs (all_marks k.groups used) l → In l s.found
      back l w =
          let p = of-flat (marks_of k.groups) w.0 used w.1 in
          reached-so k a (IsSeen ns s) (λ l. In l s.found) (λ x q m. m) next p.0 (g.began p.0 p.1) l (w.0, p.2, w.2)
