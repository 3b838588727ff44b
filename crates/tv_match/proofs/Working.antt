-- Tellings that are worked one after the other, and taken back.
use Rattle.std.proofs.Common.{◌≡◌, ◌⊎◌, inl, inr, refl, ℕ, zero, suc, ◌+◌, ◌<◌, ◌≤◌, List, [], ◌∷◌, ◌++◌, map, length, take, sym, ap, subst, ◌∙◌, arith, append_assoc, append-nil, length-append}
use Rattle.std.proofs.lemmas.List.{length-take-le, map-append}
use Rattle.std.proofs.Math.Seq.{take-length}
use Rattle.tv_lemmas.specs.Members.{Each}
use Rattle.tv_value.specs.Values.{Name}
use Rattle.tv_value.specs.Strategies.{Strategy}
use Rattle.tv_strategy.proofs.Each.{each-weaken}
use Rattle.tv_matching.specs.Stores as spec
use Rattle.tv_matching.specs.Stores.{leaf_store, cross_store, dot_store, store_for, News, gain, grown, told_by, store_after, worked_items}
use Rattle.tv_match.specs.Entries.{Entry, kepts, front, AreMore, Rise}
use Rattle.tv_match.specs.Filed.{Filed, filed_leaf, filed_cross, filed_dot, kept_store, fronted, Adds}
use Rattle.tv_match.specs.Working.{unit_news, news_of, news_to, IsFull, IsWorked, IsDone}
use Rattle.tv_match.specs.Brief.{briefs, brief_store}
use Rattle.tv_match.proofs.Briefly.{briefs-append, gain-brief, grown-brief}
use Rattle.tv_match.proofs.Fronts.{front-less, front-again, more-late, more-early, more-rise, front-rise}

-- ---- stores

pub adds-front : (k n : ℕ) (r s : Filed) → k < n → Adds n r s → kept_store (λ es. kepts (front k es)) s ≡ kept_store (λ es. kepts (front k es)) r
adds-front k n (filed_leaf l) (filed_leaf m) h a = ap leaf_store (sym a)
adds-front k n (filed_leaf l) (filed_cross fs zs g t) h a = absurd a
adds-front k n (filed_leaf l) (filed_dot p fs zs g t) h a = absurd a
adds-front k n (filed_cross es ys f r) (filed_leaf m) h a = absurd a
adds-front k n (filed_cross es ys f r) (filed_cross fs zs g t) h a =
    ap (λ l. cross_store (kepts l) (kepts (front k zs)) (kept_store (λ es. kepts (front k es)) g) (kept_store (λ es. kepts (front k es)) t)) (more-late k n es fs h a.0)
    ∙ ap (λ l. cross_store (kepts (front k es)) (kepts l) (kept_store (λ es. kepts (front k es)) g) (kept_store (λ es. kepts (front k es)) t)) (more-late k n ys zs h a.1)
    ∙ ap (λ l. cross_store (kepts (front k es)) (kepts (front k ys)) l (kept_store (λ es. kepts (front k es)) t)) (adds-front k n f g h a.2)
    ∙ ap (λ l. cross_store (kepts (front k es)) (kepts (front k ys)) (kept_store (λ es. kepts (front k es)) f) l) (adds-front k n r t h a.3)
adds-front k n (filed_cross es ys f r) (filed_dot p fs zs g t) h a = absurd a
adds-front k n (filed_dot o es ys f r) (filed_leaf m) h a = absurd a
adds-front k n (filed_dot o es ys f r) (filed_cross fs zs g t) h a = absurd a
adds-front k n (filed_dot o es ys f r) (filed_dot p fs zs g t) h a =
    ap (λ l. dot_store l (kepts (front k fs)) (kepts (front k zs)) (kept_store (λ es. kepts (front k es)) g) (kept_store (λ es. kepts (front k es)) t)) (sym a.4)
    ∙ ap (λ l. dot_store o (kepts l) (kepts (front k zs)) (kept_store (λ es. kepts (front k es)) g) (kept_store (λ es. kepts (front k es)) t)) (more-late k n es fs h a.0)
    ∙ ap (λ l. dot_store o (kepts (front k es)) (kepts l) (kept_store (λ es. kepts (front k es)) g) (kept_store (λ es. kepts (front k es)) t)) (more-late k n ys zs h a.1)
    ∙ ap (λ l. dot_store o (kepts (front k es)) (kepts (front k ys)) l (kept_store (λ es. kepts (front k es)) t)) (adds-front k n f g h a.2)
    ∙ ap (λ l. dot_store o (kepts (front k es)) (kepts (front k ys)) (kept_store (λ es. kepts (front k es)) f) l) (adds-front k n r t h a.3)

pub adds-full : (k n : ℕ) (r s : Filed) → k ≤ n → IsFull k r → Adds n r s → IsFull n s
adds-full k n (filed_leaf l) (filed_leaf m) h i a = tt
adds-full k n (filed_leaf l) (filed_cross fs zs g t) h i a = absurd a
adds-full k n (filed_leaf l) (filed_dot p fs zs g t) h i a = absurd a
adds-full k n (filed_cross es ys f r) (filed_leaf m) h i a = absurd a
adds-full k n (filed_cross es ys f r) (filed_cross fs zs g t) h i a = (more-early k n es fs h i.0 a.0, more-early k n ys zs h i.1 a.1, adds-full k n f g h i.2 a.2, adds-full k n r t h i.3 a.3)
adds-full k n (filed_cross es ys f r) (filed_dot p fs zs g t) h i a = absurd a
adds-full k n (filed_dot o es ys f r) (filed_leaf m) h i a = absurd a
adds-full k n (filed_dot o es ys f r) (filed_cross fs zs g t) h i a = absurd a
adds-full k n (filed_dot o es ys f r) (filed_dot p fs zs g t) h i a = (more-early k n es fs h i.0 a.0, more-early k n ys zs h i.1 a.1, adds-full k n f g h i.2 a.2, adds-full k n r t h i.3 a.3)

pub full-kept : (n : ℕ) (r : Filed) → IsFull n r → kept_store (λ es. kepts (front n es)) r ≡ kept_store kepts r
full-kept n (filed_leaf l) i = refl
full-kept n (filed_cross es ys f r) i =
    ap (λ l. cross_store (kepts l) (kepts (front n ys)) (kept_store (λ es. kepts (front n es)) f) (kept_store (λ es. kepts (front n es)) r)) i.0
    ∙ ap (λ l. cross_store (kepts es) (kepts l) (kept_store (λ es. kepts (front n es)) f) (kept_store (λ es. kepts (front n es)) r)) i.1
    ∙ ap (λ l. cross_store (kepts es) (kepts ys) l (kept_store (λ es. kepts (front n es)) r)) (full-kept n f i.2)
    ∙ ap (λ l. cross_store (kepts es) (kepts ys) (kept_store kepts f) l) (full-kept n r i.3)
full-kept n (filed_dot o es ys f r) i =
    ap (λ l. dot_store o (kepts l) (kepts (front n ys)) (kept_store (λ es. kepts (front n es)) f) (kept_store (λ es. kepts (front n es)) r)) i.0
    ∙ ap (λ l. dot_store o (kepts es) (kepts l) (kept_store (λ es. kepts (front n es)) f) (kept_store (λ es. kepts (front n es)) r)) i.1
    ∙ ap (λ l. dot_store o (kepts es) (kepts ys) l (kept_store (λ es. kepts (front n es)) r)) (full-kept n f i.2)
    ∙ ap (λ l. dot_store o (kepts es) (kepts ys) (kept_store kepts f) l) (full-kept n r i.3)

fronted-less : (k n : ℕ) (r : Filed) → k ≤ n → kept_store (λ es. kepts (front k es)) (fronted n r) ≡ kept_store (λ es. kepts (front k es)) r
fronted-less k n (filed_leaf l) h = refl
fronted-less k n (filed_cross es ys f r) h =
    ap (λ l. cross_store (kepts l) (kepts (front k (front n ys))) (kept_store (λ es. kepts (front k es)) (fronted n f)) (kept_store (λ es. kepts (front k es)) (fronted n r))) (front-less k n h es)
    ∙ ap (λ l. cross_store (kepts (front k es)) (kepts l) (kept_store (λ es. kepts (front k es)) (fronted n f)) (kept_store (λ es. kepts (front k es)) (fronted n r))) (front-less k n h ys)
    ∙ ap (λ l. cross_store (kepts (front k es)) (kepts (front k ys)) l (kept_store (λ es. kepts (front k es)) (fronted n r))) (fronted-less k n f h)
    ∙ ap (λ l. cross_store (kepts (front k es)) (kepts (front k ys)) (kept_store (λ es. kepts (front k es)) f) l) (fronted-less k n r h)
fronted-less k n (filed_dot o es ys f r) h =
    ap (λ l. dot_store o (kepts l) (kepts (front k (front n ys))) (kept_store (λ es. kepts (front k es)) (fronted n f)) (kept_store (λ es. kepts (front k es)) (fronted n r))) (front-less k n h es)
    ∙ ap (λ l. dot_store o (kepts (front k es)) (kepts l) (kept_store (λ es. kepts (front k es)) (fronted n f)) (kept_store (λ es. kepts (front k es)) (fronted n r))) (front-less k n h ys)
    ∙ ap (λ l. dot_store o (kepts (front k es)) (kepts (front k ys)) l (kept_store (λ es. kepts (front k es)) (fronted n r))) (fronted-less k n f h)
    ∙ ap (λ l. dot_store o (kepts (front k es)) (kepts (front k ys)) (kept_store (λ es. kepts (front k es)) f) l) (fronted-less k n r h)

fronted-full : (n : ℕ) (r : Filed) → IsFull n (fronted n r)
fronted-full n (filed_leaf l) = tt
fronted-full n (filed_cross es ys f r) = (front-again n es, front-again n ys, fronted-full n f, fronted-full n r)
fronted-full n (filed_dot o es ys f r) = (front-again n es, front-again n ys, fronted-full n f, fronted-full n r)

le_or : (a b : ℕ) → (a ≤ b) ⊎ (b < a)
le_or zero b = inl (omega arith)
le_or (suc a) zero = inr (omega arith)
le_or (suc a) (suc b) = by (le_or a b)
  where
    by : (a ≤ b) ⊎ (b < a) → (suc a ≤ suc b) ⊎ (suc b < suc a)
    by (inl h) = inl (omega (arith, h))
    by (inr h) = inr (omega (arith, h))

-- ---- lists of tellings

worked-last : (st : spec.Store (Unit {0}) ℕ) (ns : List (News (Unit {0}) ℕ)) (n : News (Unit {0}) ℕ) → store_after st (ns ++ n ∷ []) ≡ grown (told_by n) (store_after st ns)
worked-last st [] n = refl
worked-last st (m ∷ ns) n = worked-last (grown (told_by m) st) ns n

items-last : (st : spec.Store (Unit {0}) ℕ) (ns : List (News (Unit {0}) ℕ)) (n : News (Unit {0}) ℕ) → worked_items st (ns ++ n ∷ []) ≡ worked_items st ns ++ gain (told_by n) (store_after st ns)
items-last st [] n = append-nil (gain (told_by n) st)
items-last st (m ∷ ns) n = ap (λ l. gain (told_by m) st ++ l) (items-last (grown (told_by m) st) ns n) ∙ sym (append_assoc (gain (told_by m) st) (worked_items (grown (told_by m) st) ns) (gain (told_by n) (store_after (grown (told_by m) st) ns)))

pub take-within : {A : Type 0} (k : ℕ) (xs ys : List A) → k ≤ length xs → take k (xs ++ ys) ≡ take k xs
take-within zero xs ys h = refl
take-within (suc k) [] ys h = absurd (omega (arith, h))
take-within (suc k) (x ∷ xs) ys h = ap (λ l. x ∷ l) (take-within k xs ys (omega (arith, h)))

pub take-less : {A : Type 0} (k n : ℕ) (xs : List A) → k ≤ n → take k (take n xs) ≡ take k xs
take-less zero n xs h = refl
take-less (suc k) zero xs h = absurd (omega (arith, h))
take-less (suc k) (suc n) [] h = refl
take-less (suc k) (suc n) (x ∷ xs) h = ap (λ l. x ∷ l) (take-less k n xs (omega (arith, h)))

news-last : (log : List Entry) (e : Entry) → news_to (length (log ++ e ∷ [])) (log ++ e ∷ []) ≡ news_to (length log) log ++ news_of e ∷ []
news-last log e =
    ap (λ l. unit_news ∷ map news_of l) (take-length (log ++ e ∷ []))
    ∙ ap (λ l. unit_news ∷ l) (map-append news_of log (e ∷ []))
    ∙ ap (λ l. unit_news ∷ (map news_of l ++ news_of e ∷ [])) (sym (take-length log))

-- ---- one more telling

module _ (ports : Name → ℕ) (s : Strategy) (root next : Filed) (log more out outs : List Entry) (n : ℕ) (d : IsDone ports s root log out) (a : Adds n root next) (b : AreMore n out outs) where
  -- what was worked before is still there
  pub still-worked : length log < n → ((k : ℕ) → k ≤ length log → take k more ≡ take k log) → IsWorked ports s (length log) next more outs
  still-worked h same =
      record {
        store = λ k i. adds-front k n root next (omega (arith, i, h)) a ∙ d.worked.store k i ∙ ap (λ l. brief_store (store_after (store_for ports 0 s) (unit_news ∷ map news_of l))) (sym (same k i));
        items = λ k i. ap kepts (more-late k n out outs (omega (arith, i, h)) b) ∙ d.worked.items k i ∙ ap (λ l. briefs (worked_items (store_for ports 0 s) (unit_news ∷ map news_of l))) (sym (same k i));
      }

  pub still-rise : length log ≤ n → Rise outs
  still-rise h = (more-rise n out outs d.rise (each-weaken (λ e. e.number ≤ length log) (λ e. e.number ≤ n) (λ e i. omega (arith, h, i)) out d.at_most) b).0

  pub still-both : (e : Entry) → more ≡ log ++ e ∷ [] → n ≡ length more → IsWorked ports s (length log) next more outs × Rise outs
  still-both e m c =
      let l = ap length m in
      let k = length-append log (e ∷ []) in
      (still-worked (omega (arith, l, k, c)) (λ j i. ap (take j) m ∙ take-within j log (e ∷ []) i), still-rise (omega (arith, l, k, c)))

  pub next-done : (e : Entry) → more ≡ log ++ e ∷ [] → n ≡ length more → kept_store kepts next ≡ brief_store (grown (told_by (news_of e)) (kept_store kepts root)) → kepts outs ≡ kepts out ++ briefs (gain (told_by (news_of e)) (kept_store kepts root)) → IsDone ports s next more outs
  next-done e m c f g =
      record {
        worked = record { store = λ k i. by_store k i (at_most k i); items = λ k i. by_items k i (at_most k i) };
        full = subst (λ j. IsFull j next) c (adds-full (length log) n root next below d.full a);
        out_full = subst (λ j. front j outs ≡ outs) c (more-early (length log) n out outs below d.out_full b);
        rise = rises.0;
        at_most = subst (λ j. Each (λ e. e.number ≤ j) outs) c rises.1;
      }
    where
      long : length more ≡ suc (length log)
      long = ap length m ∙ length-append log (e ∷ []) ∙ one (length log)
        where
          one : (i : ℕ) → i + 1 ≡ suc i
          one i = omega arith

      below : length log ≤ n
      below = omega (arith, long, c)

      rises : Rise outs × Each (λ e. e.number ≤ n) outs
      rises = more-rise n out outs d.rise (each-weaken (λ e. e.number ≤ length log) (λ e. e.number ≤ n) (λ e i. omega (arith, below, i)) out d.at_most) b

      data_at : ℕ → Type 0
      data_at k = (k ≤ length log) ⊎ (k ≡ length more)

      at_most : (k : ℕ) → k ≤ length more → data_at k
      at_most k i = by (le_or k (length log)) i
        where
          by : (k ≤ length log) ⊎ (length log < k) → k ≤ length more → data_at k
          by (inl h) i = inl h
          by (inr h) i = inr (omega (arith, h, i, long))

      same : (k : ℕ) → k ≤ length log → take k more ≡ take k log
      same k i = ap (take k) m ∙ take-within k log (e ∷ []) i

      kept : kept_store kepts root ≡ brief_store (store_after (store_for ports 0 s) (news_to (length log) log))
      kept = sym (full-kept (length log) root d.full) ∙ d.worked.store (length log) (omega arith)

      told : kepts out ≡ briefs (worked_items (store_for ports 0 s) (news_to (length log) log))
      told = ap kepts (sym d.out_full) ∙ d.worked.items (length log) (omega arith)

      last : news_to (length more) more ≡ news_to (length log) log ++ news_of e ∷ []
      last = ap (λ l. news_to (length l) l) m ∙ news-last log e

      by_store : (k : ℕ) → k ≤ length more → data_at k → kept_store (λ es. kepts (front k es)) next ≡ brief_store (store_after (store_for ports 0 s) (news_to k more))
      by_store k i (inl h) = (still-worked (omega (arith, long, c)) same).store k h
      by_store k i (inr h) =
          ap (λ j. kept_store (λ es. kepts (front j es)) next) (h ∙ sym c)
          ∙ full-kept n next (adds-full (length log) n root next below d.full a)
          ∙ f
          ∙ ap (λ st. brief_store (grown (told_by (news_of e)) st)) kept
          ∙ grown-brief (told_by (news_of e)) (store_after (store_for ports 0 s) (news_to (length log) log))
          ∙ ap brief_store (sym (worked-last (store_for ports 0 s) (news_to (length log) log) (news_of e)))
          ∙ ap (λ l. brief_store (store_after (store_for ports 0 s) l)) (sym last)
          ∙ ap (λ j. brief_store (store_after (store_for ports 0 s) (news_to j more))) (sym h)

      by_items : (k : ℕ) → k ≤ length more → data_at k → kepts (front k outs) ≡ briefs (worked_items (store_for ports 0 s) (news_to k more))
      by_items k i (inl h) = (still-worked (omega (arith, long, c)) same).items k h
      by_items k i (inr h) =
          ap (λ j. kepts (front j outs)) (h ∙ sym c)
          ∙ ap kepts (more-early (length log) n out outs below d.out_full b)
          ∙ g
          ∙ ap (λ l. l ++ briefs (gain (told_by (news_of e)) (kept_store kepts root))) told
          ∙ ap (λ st. briefs (worked_items (store_for ports 0 s) (news_to (length log) log)) ++ briefs (gain (told_by (news_of e)) st)) kept
          ∙ ap (λ l. briefs (worked_items (store_for ports 0 s) (news_to (length log) log)) ++ l) (gain-brief (told_by (news_of e)) (store_after (store_for ports 0 s) (news_to (length log) log)))
          ∙ sym (briefs-append (worked_items (store_for ports 0 s) (news_to (length log) log)) (gain (told_by (news_of e)) (store_after (store_for ports 0 s) (news_to (length log) log))))
          ∙ ap briefs (sym (items-last (store_for ports 0 s) (news_to (length log) log) (news_of e)))
          ∙ ap (λ l. briefs (worked_items (store_for ports 0 s) l)) (sym last)
          ∙ ap (λ j. briefs (worked_items (store_for ports 0 s) (news_to j more))) (sym h)

-- ---- taken back

pub cut-done : (ports : Name → ℕ) (s : Strategy) (m n : ℕ) (root : Filed) (log out : List Entry) → n ≤ m → m ≤ length log → IsWorked ports s m root log out → Rise out → IsDone ports s (fronted n root) (take n log) (front n out)
cut-done ports s m n root log out h l w r =
    let long : length (take n log) ≡ n = length-take-le n log (omega (arith, h, l)) in
    let parts = front-rise n out r in
    record {
      worked = subst (λ j. IsWorked ports s j (fronted n root) (take n log) (front n out)) (sym long) (record {
        store = λ k i. fronted-less k n root i ∙ w.store k (omega (arith, i, h)) ∙ ap (λ l. brief_store (store_after (store_for ports 0 s) (unit_news ∷ map news_of l))) (sym (take-less k n log i));
        items = λ k i. ap kepts (front-less k n i out) ∙ w.items k (omega (arith, i, h)) ∙ ap (λ l. briefs (worked_items (store_for ports 0 s) (unit_news ∷ map news_of l))) (sym (take-less k n log i));
      });
      full = subst (λ j. IsFull j (fronted n root)) (sym long) (fronted-full n root);
      out_full = subst (λ j. front j (front n out) ≡ front n out) (sym long) (front-again n out);
      rise = parts.0;
      at_most = subst (λ j. Each (λ e. e.number ≤ j) (front n out)) (sym long) parts.1;
    }
