-- One pass over all groups.
use Rattle.std.specs.List.{list_any}
use Rattle.std.specs.Prelude.{Bool, List, false, if◌then◌else◌, length, map, suc, true, ℕ, ◌+◌, ◌<◌, ◌≡◌, ◌≤◌, ◌⊎◌}
use Rattle.std.proofs.Common.{ap, arith, get_or, inl, inr, length-set, set, subst, sym, ◌∙◌}
use Rattle.std.proofs.lemmas.Bool.{true≢false, cases_eq}
use Rattle.tv_lemmas.proofs.Members.{in-map}
use Rattle.tv_value.specs.Nested.{Place}
use Rattle.tv_value.specs.Values.{Name}
use Rattle.tv_lineage.specs.Kept.{Kept, Part, group, parts_in}
use Rattle.tv_lineage.specs.Reaching.{Numbers, is_met, unmet}
use Rattle.tv_lineage.specs.Tables.{AreTouched, IsPass, IsTouched, in_table}
use Rattle.tv_lineage.specs.Views.{IsKept, kept_of, part_view}
use Rattle.tv_lineage.specs.declared.mark.Part as mark
use Rattle.tv_lineage.specs.declared.records.Entry.{Entry}
use Rattle.tv_lineage.proofs.Holding.{parts-at}
use Rattle.tv_lineage.proofs.Seeing.{in-get, of-set, unmet-set}
use Rattle.tv_lineage.proofs.Tabling.{grows}
use Rattle.tv_lemmas.proofs.Members.{any-in}

-- one that passes is enough
pub any-here : {A : Type 0} (view : A → Part) (t : Part → Bool) (xs : List A) (i : ℕ) (x : A) → i < length xs → x ≡ get_or xs i x → t (view x) ≡ true → list_any t (map view xs) ≡ true
any-here view t xs i x h e f = any-in t (view x) (map view xs) (in-map view x xs (in-get xs i x h e)) f

module _ (ns : Numbers) (k : Kept) (h : IsKept ns k) (x : Name) (q : Place) (n : ℕ) (bs cs : List Bool) (added : Bool) (p : IsPass ns k x q n bs cs added) where
  abbrev t : Part → Bool
  t = in_table ns x q cs

  last-or : (i : ℕ) → suc i ≤ n + 1 → (suc i ≤ n) ⊎ (i ≡ n)
  last-or i w = by (cases_eq i n)
    where
      smaller : suc i ≤ n + 1 → (i ≡ n → ⊥) → suc i ≤ n
      smaller w f = omega (arith, f)

      by : (i ≡ n) ⊎ (i ≡ n → ⊥) → (suc i ≤ n) ⊎ (i ≡ n)
      by (inl e) = inr e
      by (inr f) = inl (smaller w f)

  -- the group has its bit, or leads on to nothing that has
  pub pass-goes : (is_met cs n ≡ true) ⊎ (list_any t (parts_in k.groups n) ≡ false) → IsPass ns k x q (n + 1) bs cs added
  pass-goes d = record { sound = p.sound; closed = λ e i w l. by i (last-or i w) l e; closer = p.closer; size = p.size }
    where
      here : (is_met cs n ≡ true) ⊎ (list_any t (parts_in k.groups n) ≡ false) → list_any t (parts_in k.groups n) ≡ true → is_met cs n ≡ true
      here (inl m) l = m
      here (inr f) l = absurd (true≢false (sym l ∙ f))

      by : (i : ℕ) → (suc i ≤ n) ⊎ (i ≡ n) → list_any t (parts_in k.groups i) ≡ true → added ≡ false → is_met cs i ≡ true
      by i (inl w) l e = p.closed e i w l
      by i (inr w) l e = subst (λ m. is_met cs m ≡ true) (sym w) (here d (subst (λ m. list_any t (parts_in k.groups m) ≡ true) w l))

  -- the group is given its bit
  pub pass-adds : suc n ≤ length cs → is_met cs n ≡ false → list_any t (parts_in k.groups n) ≡ true → IsPass ns k x q (n + 1) bs (set cs n true) true
  pass-adds short off l = record { sound = sound; closed = λ e. absurd (true≢false e); closer = closer added p.closer; size = length-set cs n true ∙ p.size }
    where
      sound : AreTouched k x q bs → AreTouched k x q (set cs n true)
      sound f i m = by (of-set cs n short i m)
        where
          by : (is_met cs i ≡ true) ⊎ (i ≡ n) → IsTouched k x q (group i)
          by (inl o) = p.sound f i o
          by (inr e) = subst (λ j. IsTouched k x q (group j)) (sym e) (grows ns k h.before h.numbers x q cs (p.sound f) n l)

      closer : (b : Bool) → unmet cs + (if b then 1 else 0) ≤ unmet bs → unmet (set cs n true) + 1 ≤ unmet bs
      closer true w = omega (arith, w, unmet-set cs n short off)
      closer false w = omega (arith, w, unmet-set cs n short off)

pub pass-as : (ns : Numbers) (k : Kept) (x : Name) (q : Place) (n : ℕ) (bs cs ds : List Bool) (b d : Bool) → ds ≡ cs → d ≡ b → IsPass ns k x q n bs cs b → IsPass ns k x q n bs ds d
pass-as ns k x q n bs cs ds b d e f p = subst (λ es. IsPass ns k x q n bs es d) (sym e) (subst (λ c. IsPass ns k x q n bs cs c) (sym f) p)

-- ---- as the code has it

pub short : (n l m o : ℕ) → n < o → l ≡ m → m ≡ o → suc n ≤ l
short n l m o h e f = omega arith

-- what was told of the parts of an entry
pub told : (ns : Numbers) (x : Name) (q : Place) (es : List Entry) (n : ℕ) (e : Entry) → n < length es → e ≡ get_or es n e → (as' cs : List Bool) → as' ≡ cs → (ps : List mark.Part) → ps ≡ e.parts → (r : Bool) → r ≡ list_any (in_table ns x q as') (map part_view ps) → list_any (in_table ns x q cs) (parts_in (kept_of es).groups n) ≡ r
told ns x q es n e h is as' cs f ps g r t =
    ap (list_any (in_table ns x q cs)) (parts-at es n e h is ∙ ap (map part_view) (sym g))
    ∙ ap (λ ds. list_any (in_table ns x q ds) (map part_view ps)) (sym f) ∙ sym t
