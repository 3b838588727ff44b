-- What the stores of the code show, and what changes in them.
use Rattle.std.specs.Prelude.{OnOk, Result, Ok, Err, Box, Option}
use Rattle.std.proofs.Common.{◌≡◌, refl, ℕ, List, ◌++◌, take, sym, ap, subst, ◌∙◌, append_assoc, Global}
use Rattle.tv_matching.specs.Matched.{crossed_items, below_jobs}
use Rattle.tv_matching.specs.Matchers.{Kept}
use Rattle.tv_matching.specs.Stores as spec
use Rattle.tv_matching.specs.Stores.{key_of, cross_store, dot_store, only_jobs, met_by_first, met_by_second, gain, grown}
use Rattle.tv_match.specs.Entries.{Entry, kepts, front, AreMore}
use Rattle.tv_match.specs.Filed.{Filed, filed_leaf, filed_cross, filed_dot, filed_step, filed, fronted, rests_view, Adds}
use Rattle.tv_match.specs.Grouped.{sought}
use Rattle.tv_match.specs.declared.rests.Rests.{Rests}
use Rattle.tv_match.specs.declared.stores.Store.{Store}
use Rattle.tv_match.specs.declared.stores.Store.TheViews.{Cross, Dot}
use Rattle.tv_match.specs.declared.stores.Store.TheFolds.{fold-roll-Store}
use Rattle.tv_match.specs.declared.stores.Store.TheVariants.{rolls-Cross, rolls-Dot}
use Rattle.tv_match.specs.declared.stores.Store.TheOpen.{Store-F}
use Rattle.tv_match.specs.Brief.{briefs, brief_store}
use Rattle.tv_match.proofs.Briefly.{Alike, briefs-again, briefs-append, only_jobs-brief, append-alike, crossed-alike, below_jobs-alike, first-alike, second-alike, only_jobs-alike}
use Rattle.tv_match.proofs.Putting.{more-none}

pub filed-is_cross : (es ys fresh : List Entry) (f r : Box Store Global) → filed (Cross es ys fresh f r) ≡ filed_cross es ys (filed f.value) (filed r.value)
filed-is_cross es ys fresh f r = ap filed (sym (rolls-Cross es ys fresh f r)) ∙ fold-roll-Store Filed filed_step (Store-F.Cross es ys fresh f r)

pub filed-is_dot : (xs : List Entry) (ys : Rests) (fresh : List Entry) (f r : Box Store Global) → filed (Dot xs ys fresh f r) ≡ filed_dot (rests_view ys).key xs (rests_view ys).items (filed f.value) (filed r.value)
filed-is_dot xs ys fresh f r = ap filed (sym (rolls-Dot xs ys fresh f r)) ∙ fold-roll-Store Filed filed_step (Store-F.Dot xs ys fresh f r)

-- ---- a cut

pub cross-cut : (n : ℕ) (old : Store) (es ys es' ys' fresh : List Entry) (f r f' r' : Box Store Global) → old ≡ Cross es ys fresh f r → es' ≡ front n es → ys' ≡ front n ys → filed f'.value ≡ fronted n (filed f.value) → filed r'.value ≡ fronted n (filed r.value) → filed (Cross es' ys' fresh f' r') ≡ fronted n (filed old)
cross-cut n old es ys es' ys' fresh f r f' r' o a b p q =
    filed-is_cross es' ys' fresh f' r'
    ∙ ap (λ l. filed_cross l ys' (filed f'.value) (filed r'.value)) a
    ∙ ap (λ l. filed_cross (front n es) l (filed f'.value) (filed r'.value)) b
    ∙ ap (λ s. filed_cross (front n es) (front n ys) s (filed r'.value)) p
    ∙ ap (λ s. filed_cross (front n es) (front n ys) (fronted n (filed f.value)) s) q
    ∙ sym (ap (fronted n) (ap filed o ∙ filed-is_cross es ys fresh f r))

pub dot-cut : (n : ℕ) (old : Store) (es es' : List Entry) (ys ys' : Rests) (fresh : List Entry) (f r f' r' : Box Store Global) → old ≡ Dot es ys fresh f r → es' ≡ front n es → rests_view ys' ≡ sought (rests_view ys).key (front n (rests_view ys).items) → filed f'.value ≡ fronted n (filed f.value) → filed r'.value ≡ fronted n (filed r.value) → filed (Dot es' ys' fresh f' r') ≡ fronted n (filed old)
dot-cut n old es es' ys ys' fresh f r f' r' o a b p q =
    filed-is_dot es' ys' fresh f' r'
    ∙ ap (λ l. filed_dot (rests_view ys').key l (rests_view ys').items (filed f'.value) (filed r'.value)) a
    ∙ ap (λ v. filed_dot v.key (front n es) v.items (filed f'.value) (filed r'.value)) b
    ∙ ap (λ s. filed_dot (rests_view ys).key (front n es) (front n (rests_view ys).items) s (filed r'.value)) p
    ∙ ap (λ s. filed_dot (rests_view ys).key (front n es) (front n (rests_view ys).items) (fronted n (filed f.value)) s) q
    ∙ sym (ap (fronted n) (ap filed o ∙ filed-is_dot es ys fresh f r))

-- ---- more of one number

pub adds-none : (n : ℕ) (st : Filed) → Adds n st st
adds-none n (filed_leaf l) = refl
adds-none n (filed_cross es ys f r) = (more-none n es, more-none n ys, adds-none n f, adds-none n r)
adds-none n (filed_dot k xs ys f r) = (more-none n xs, more-none n ys, adds-none n f, adds-none n r, refl)

pub cross-adds : (n : ℕ) (old : Store) (es ys es' ys' fresh fresh' : List Entry) (f r f' r' : Box Store Global) → old ≡ Cross es ys fresh f r → AreMore n es es' → AreMore n ys ys' → Adds n (filed f.value) (filed f'.value) → Adds n (filed r.value) (filed r'.value) → Adds n (filed old) (filed (Cross es' ys' fresh' f' r'))
cross-adds n old es ys es' ys' fresh fresh' f r f' r' o a b p q =
    subst (λ s. Adds n s (filed (Cross es' ys' fresh' f' r'))) (sym (ap filed o ∙ filed-is_cross es ys fresh f r))
    (subst (Adds n (filed_cross es ys (filed f.value) (filed r.value))) (sym (filed-is_cross es' ys' fresh' f' r')) (a, b, p, q))

pub dot-adds : (n : ℕ) (old : Store) (es es' : List Entry) (ys ys' : Rests) (fresh fresh' : List Entry) (f r f' r' : Box Store Global) → old ≡ Dot es ys fresh f r → AreMore n es es' → AreMore n (rests_view ys).items (rests_view ys').items → (rests_view ys').key ≡ (rests_view ys).key → Adds n (filed f.value) (filed f'.value) → Adds n (filed r.value) (filed r'.value) → Adds n (filed old) (filed (Dot es' ys' fresh' f' r'))
dot-adds n old es es' ys ys' fresh fresh' f r f' r' o a b k p q =
    subst (λ s. Adds n s (filed (Dot es' ys' fresh' f' r'))) (sym (ap filed o ∙ filed-is_dot es ys fresh f r))
    (subst (Adds n (filed_dot (rests_view ys).key es (rests_view ys).items (filed f.value) (filed r.value))) (sym (filed-is_dot es' ys' fresh' f' r')) (a, b, p, q, sym k))

-- ---- a telling

-- what a child gained, where the list for it was empty
pub fresh-gain : (es none new : List Entry) (g : List Kept) → none ≡ take 0 es → kepts new ≡ kepts none ++ g → kepts new ≡ g
fresh-gain es none new g e h = h ∙ ap (λ l. kepts l ++ g) e

module _ (new : Option ℕ → List Kept) (F R F' R' : spec.Store (Unit {0}) ℕ) (dx dy : List Kept) (x : dx ≡ briefs (gain new F)) (y : dy ≡ briefs (gain new R)) where
  first : Alike dx (gain new F)
  first = ap briefs x ∙ briefs-again (gain new F)

  rest : Alike dy (gain new R)
  rest = ap briefs y ∙ briefs-again (gain new R)

  pub cross-items : (es ys es' out mid end : List Kept) → es' ≡ es ++ only_jobs dx → mid ≡ out ++ briefs (crossed_items dx ys) → end ≡ mid ++ briefs (below_jobs es' dy) → end ≡ out ++ briefs (gain new (cross_store es ys F R))
  cross-items es ys es' out mid end a h k =
      k
      ∙ ap (λ l. l ++ briefs (below_jobs es' dy)) h
      ∙ append_assoc out (briefs (crossed_items dx ys)) (briefs (below_jobs es' dy))
      ∙ ap (λ l. out ++ (briefs (crossed_items dx ys) ++ briefs (below_jobs l dy))) a
      ∙ ap (λ l. out ++ l) (sym (briefs-append (crossed_items dx ys) (below_jobs (es ++ only_jobs dx) dy)))
      ∙ ap (λ l. out ++ l) (append-alike (crossed_items dx ys) (crossed_items (gain new F) ys) (below_jobs (es ++ only_jobs dx) dy) (below_jobs (es ++ only_jobs (gain new F)) (gain new R))
      (crossed-alike dx (gain new F) ys ys first refl)
      (below_jobs-alike (es ++ only_jobs dx) (es ++ only_jobs (gain new F)) dy (gain new R) (append-alike es es (only_jobs dx) (only_jobs (gain new F)) refl (only_jobs-alike dx (gain new F) first)) rest))

  pub dot-items : (k : Option ℕ) (xs ys xs' out mid end : List Kept) → xs' ≡ xs ++ dx → mid ≡ out ++ briefs (met_by_first (key_of k) dx ys) → end ≡ mid ++ briefs (met_by_second (key_of k) xs' dy) → end ≡ out ++ briefs (gain new (dot_store k xs ys F R))
  dot-items o xs ys xs' out mid end a h k =
      let key = key_of o in
      k
      ∙ ap (λ l. l ++ briefs (met_by_second key xs' dy)) h
      ∙ append_assoc out (briefs (met_by_first key dx ys)) (briefs (met_by_second key xs' dy))
      ∙ ap (λ l. out ++ (briefs (met_by_first key dx ys) ++ briefs (met_by_second key l dy))) a
      ∙ ap (λ l. out ++ l) (sym (briefs-append (met_by_first key dx ys) (met_by_second key (xs ++ dx) dy)))
      ∙ ap (λ l. out ++ l) (append-alike (met_by_first key dx ys) (met_by_first key (gain new F) ys) (met_by_second key (xs ++ dx) dy) (met_by_second key (xs ++ gain new F) (gain new R))
      (first-alike key dx (gain new F) ys ys first refl)
      (second-alike key (xs ++ dx) (xs ++ gain new F) dy (gain new R) (append-alike xs xs dx (gain new F) refl first) rest))

  module _ (p : F' ≡ brief_store (grown new F)) (q : R' ≡ brief_store (grown new R)) where
    pub cross-store : (es ys es' ys' : List Kept) → briefs es ≡ es → briefs ys ≡ ys → es' ≡ es ++ only_jobs dx → ys' ≡ ys ++ dy → cross_store es' ys' F' R' ≡ brief_store (grown new (cross_store es ys F R))
    cross-store es ys es' ys' c d a b =
        ap (λ l. cross_store l ys' F' R') (a ∙ ap (λ l. es ++ only_jobs l) x ∙ ap (λ l. es ++ l) (only_jobs-brief (gain new F)) ∙ ap (λ l. l ++ briefs (only_jobs (gain new F))) (sym c) ∙ sym (briefs-append es (only_jobs (gain new F))))
        ∙ ap (λ l. cross_store (briefs (es ++ only_jobs (gain new F))) l F' R') (b ∙ ap (λ l. ys ++ l) y ∙ ap (λ l. l ++ briefs (gain new R)) (sym d) ∙ sym (briefs-append ys (gain new R)))
        ∙ ap (λ s. cross_store (briefs (es ++ only_jobs (gain new F))) (briefs (ys ++ gain new R)) s R') p
        ∙ ap (λ s. cross_store (briefs (es ++ only_jobs (gain new F))) (briefs (ys ++ gain new R)) (brief_store (grown new F)) s) q

    pub dot-store : (k : Option ℕ) (xs ys xs' ys' : List Kept) → briefs xs ≡ xs → briefs ys ≡ ys → xs' ≡ xs ++ dx → ys' ≡ ys ++ dy → dot_store k xs' ys' F' R' ≡ brief_store (grown new (dot_store k xs ys F R))
    dot-store k xs ys xs' ys' c d a b =
        ap (λ l. dot_store k l ys' F' R') (a ∙ ap (λ l. xs ++ l) x ∙ ap (λ l. l ++ briefs (gain new F)) (sym c) ∙ sym (briefs-append xs (gain new F)))
        ∙ ap (λ l. dot_store k (briefs (xs ++ gain new F)) l F' R') (b ∙ ap (λ l. ys ++ l) y ∙ ap (λ l. l ++ briefs (gain new R)) (sym d) ∙ sym (briefs-append ys (gain new R)))
        ∙ ap (λ s. dot_store k (briefs (xs ++ gain new F)) (briefs (ys ++ gain new R)) s R') p
        ∙ ap (λ s. dot_store k (briefs (xs ++ gain new F)) (briefs (ys ++ gain new R)) (brief_store (grown new F)) s) q

pub on-both : {A E : Type 0} (r : Result A E) (P Q R : Type 0) → (P → Q → R) → OnOk r P → OnOk r Q → OnOk r R
on-both (Ok x) P Q R f h k = f h k
on-both (Err e) P Q R f h k = h
