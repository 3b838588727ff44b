-- Tables tell what was made from an element.
use Rattle.std.specs.List.{list_any}
use Rattle.std.specs.Prelude.{Bool, List, None, Option, Some, false, refl, true, zero, ℕ, ◌≡◌}
use Rattle.std.proofs.Common.{ap, inl, sym, ◌∙◌}
use Rattle.std.specs.Cmp.Derive.{one_truth}
use Rattle.std.proofs.lemmas.Bool.{true≢false}
use Rattle.tv_lemmas.specs.Members.{In}
use Rattle.tv_lemmas.proofs.Members.{some_in, any-in, of-flat}
use Rattle.tv_value.specs.Nested.{Place}
use Rattle.tv_value.specs.Values.{JobName, Name}
use Rattle.tv_lineage.specs.Kept.{AreBefore, Kept, Part, all_marks, element, group, marks_of, parts_by, parts_in, parts_next, records_of, result}
use Rattle.tv_lineage.specs.Lineages.{IsReached, Record, backward, is_made_from}
use Rattle.tv_lineage.specs.Reaching.{AreNumbers, IsNumber, Numbers, is_met}
use Rattle.tv_lineage.specs.Tables.{AreTouched, IsTable, IsTouched, IsWhole, in_table, is_met_by}
use Rattle.tv_lineage.specs.Touching.{Label, Mark, given, touches}
use Rattle.tv_lineage.proofs.Closing.{in-backward, of-backward}
use Rattle.tv_lineage.proofs.Keeping.{all-reached, next-reached, none-noted, reached-so, parts-shorter}
use Rattle.tv_lineage.proofs.Searching.{number-reached}

-- ---- tests of members

-- ---- a table

pub made-from : (rs : List Record) (x : Name) (q : Place) (used : List Mark) → (is_made_from rs x q used ≡ true → (l : Label) × IsReached rs used l × (touches x q l ≡ true)) × ((l : Label) × IsReached rs used l × (touches x q l ≡ true) → is_made_from rs x q used ≡ true)
made-from rs x q used = (λ e. let w = some_in (touches x q) (backward rs used) e in (w.0, of-backward rs used w.0 w.1, w.2), λ w. any-in (touches x q) w.0 (backward rs used) (in-backward rs used w.0 w.1) w.2)

module _ (ns : Numbers) (k : Kept) (a : AreBefore k.groups) (h : AreNumbers ns k) (x : Name) (q : Place) (bs : List Bool) where
  sound-so : AreTouched k x q bs → (p : Part) → in_table ns x q bs p ≡ true → IsTouched k x q p
  sound-so f (element y r) e = ((y, r), (given y r, inl refl, (zero, refl)), e)
  sound-so f (result n) e = by (ns n) refl e
    where
      by : (o : Option ℕ) → ns n ≡ o → is_met_by bs o ≡ true → IsTouched k x q (result n)
      by None g e = absurd (true≢false (sym e))
      by (Some i) g e = let u = f i e in (u.0, number-reached ns k a h (result n) i g u.0 u.1, u.2)
  sound-so f (group i) e = f i e

  -- what leads on to a part of a sound table is touched
  pub grows : AreTouched k x q bs → (i : ℕ) → list_any (in_table ns x q bs) (parts_in k.groups i) ≡ true → IsTouched k x q (group i)
  grows f i e =
      let w = some_in (in_table ns x q bs) (parts_in k.groups i) e in
      let u = sound-so f w.0 w.2 in (u.0, next-reached k a (group i) w.0 u.0 w.1 u.1, u.2)

  pub whole : IsWhole ns k x q bs → IsTable k x q (in_table ns x q bs)
  whole w = record { sound = sound-so w.sound; elements = λ y r e. e; closed = on }
    where
      on-group : (i : ℕ) → list_any (in_table ns x q bs) (parts_in k.groups i) ≡ true → is_met bs i ≡ true
      on-group i e =
          let m = some_in (in_table ns x q bs) (parts_in k.groups i) e in
          w.closed i (parts-shorter k.groups i m.0 m.1) e

      on-job : (n : JobName) (o : Option ℕ) → IsNumber k n o → list_any (in_table ns x q bs) (parts_by n k.jobs) ≡ true → is_met_by bs o ≡ true
      on-job n None g e = absurd (true≢false (sym e ∙ ap (list_any (in_table ns x q bs)) (none-noted n k.jobs g)))
      on-job n (Some i) g e = on-group i (ap (list_any (in_table ns x q bs)) (sym g.1) ∙ e)

      on : (p : Part) → list_any (in_table ns x q bs) (parts_next k p) ≡ true → in_table ns x q bs p ≡ true
      on (element y r) e = absurd (true≢false (sym e))
      on (result n) e = on-job n (ns n) (h n) e
      on (group i) e = on-group i e

pub tells : (k : Kept) → AreBefore k.groups → (x : Name) (q : Place) (t : Part → Bool) → IsTable k x q t → (used : List Part) → list_any t used ≡ is_made_from (records_of k) x q (all_marks k.groups used)
tells k a x q t h used = one_truth (list_any t used) (is_made_from (records_of k) x q (all_marks k.groups used)) there back
  where
    there : list_any t used ≡ true → is_made_from (records_of k) x q (all_marks k.groups used) ≡ true
    there e =
        let w = some_in t used e in
        let u = h.sound w.0 w.2 in
        (made-from (records_of k) x q (all_marks k.groups used)).1 (u.0, all-reached k a used w.0 u.0 w.1 u.1, u.2)

    -- a part that isn't in the table leads to nothing that is touched
    out : (p : Part) → t p ≡ false → (l : Label) → IsReached (records_of k) (marks_of k.groups p) l → touches x q l ≡ false
    out p e l w =
        reached-so k a (λ p. t p ≡ false) (λ l. touches x q l ≡ false) (λ y r f. off (touches x q (y, r)) refl (λ g. true≢false (sym (h.elements y r g) ∙ f)))
        (λ p f n i. off (t n) refl (λ g. true≢false (sym (h.closed p (any-in t n (parts_next k p) i g)) ∙ f))) p e l w
      where
        off : (b : Bool) {c : Bool} → c ≡ b → (c ≡ true → ⊥) → c ≡ false
        off true e f = absurd (f e)
        off false e f = e

    back : is_made_from (records_of k) x q (all_marks k.groups used) ≡ true → list_any t used ≡ true
    back e =
        let w = (made-from (records_of k) x q (all_marks k.groups used)).0 e in
        let p = of-flat (marks_of k.groups) w.1.0 used w.1.1 in
        by (t p.0) refl p.1 (w.1.0, p.2, w.1.2) w.2
      where
        by : {p : Part} {l : Label} (b : Bool) → t p ≡ b → In p used → IsReached (records_of k) (marks_of k.groups p) l → touches x q l ≡ true → list_any t used ≡ true
        by {p = p} true f i w g = any-in t p used i f
        by {p = p} {l = l} false f i w g = absurd (true≢false (sym g ∙ out p f l w))
