-- Row by row all jobs of a step are come to, and nothing else.
use Rattle.std.specs.Prelude.{◌≡◌, refl, ◌⊎◌, ℕ, zero, suc, ◌+◌, ◌<◌, ◌≤◌, ◌==◌, Bool, true, List, [], ◌∷◌, ◌++◌, length, take, Option, Some, None, option_and_then}
use Rattle.std.proofs.Common.{arith, sym, ap, subst, ◌∙◌, append-nil, append_assoc, get_or, inl, inr}
use Rattle.std.proofs.lemmas.Grind.{take_at_read}
use Rattle.std.proofs.lemmas.Bool.{ne_eqb, true≢false}
use Rattle.std.proofs.lemmas.Option.{none-some, same_Some}
use Rattle.tv_lemmas.specs.Members.{In}
use Rattle.tv_lemmas.proofs.Numbers.{less-or_same}
use Rattle.tv_lemmas.proofs.Members.{in-append, in-flat, in-left, in-right, of-flat}
use Rattle.tv_value.specs.Nested.{Place, at, count, item_at, leaf, list}
use Rattle.tv_value.specs.Values.{Name}
use Rattle.tv_flow.specs.Flows.{Step}
use Rattle.tv_lineage.specs.Kept.{Kept, records_of}
use Rattle.tv_lineage.specs.Lineages.{Record}
use Rattle.tv_strategy.specs.Iterations.{Binding, Iteration, job, passed}
use Rattle.tv_strategy.specs.Levels.{HasLevels}
use Rattle.tv_strategy.specs.Origins.{Origin}
use Rattle.tv_strategy.proofs.AtPlace.{ItemHasLevels, item-levels}
use Rattle.tv_frame.specs.Levels.{What, came, closed}
use Rattle.tv_traces.specs.Feeds.{job_at}
use Rattle.tv_traces.specs.Grouped.{IsGrouped}
use Rattle.tv_traces.specs.Noted.{IsNoted}
use Rattle.tv_traces.specs.OfNodes.{AreNoted, IsBuilt, IsJobAt, IsJobNoted, IsWalked, Telling, Tells}
use Rattle.tv_traces.specs.Rows.{count_of, first_items, items_at, row}
use Rattle.tv_traces.specs.Shapes.{Shape, no_shape}
use Rattle.tv_traces.specs.Walking.{IsListOf}
use Rattle.tv_traces.proofs.BuildingLemmas.{at-item, noted-none, noted-on, some-item}
use Rattle.tv_traces.proofs.Groups.{grows-none, grows-on}

-- ---- places of items

no-item : (i : ℕ) → i < 0 → ⊥
no-item i h = omega arith

in-last : {A : Type 0} (x : A) (xs : List A) → In x (xs ++ x ∷ [])
in-last x xs = in-right x xs (x ∷ []) (inl refl)

pub first-in : (q : Place) (n i : ℕ) → i < n → In (q ++ i ∷ []) (first_items q n)
first-in q zero i h = absurd (no-item i h)
first-in q (suc n) i h = by (less-or_same i n h) (first-in q n i)
  where
    by : i < n ⊎ (i ≡ n) → (i < n → In (q ++ i ∷ []) (first_items q n)) → In (q ++ i ∷ []) (first_items q (suc n))
    by (inl k) rec = in-left _ (first_items q n) ((q ++ n ∷ []) ∷ []) (rec k)
    by (inr e) rec = subst (λ j. In (q ++ j ∷ []) (first_items q (suc n))) (sym e) (in-last (q ++ n ∷ []) (first_items q n))

-- one of them
record IsItem (q : Place) (n : ℕ) (p : Place) : Type 0 where
  pub index : ℕ
  pub less : index < n
  pub is : p ≡ q ++ index ∷ []

in-first : (q : Place) (n : ℕ) (p : Place) → In p (first_items q n) → IsItem q n p
in-first q zero p h = absurd h
in-first q (suc n) p h = by (in-append p (first_items q n) ((q ++ n ∷ []) ∷ []) h) (in-first q n p)
  where
    more : (i n : ℕ) → i < n → i < suc n
    more i n h = omega arith

    one : (n : ℕ) → n < suc n
    one n = omega arith

    by : In p (first_items q n) ⊎ In p ((q ++ n ∷ []) ∷ []) → (In p (first_items q n) → IsItem q n p) → IsItem q (suc n) p
    by (inl k) rec = let x = rec k in record { index = x.index; less = more x.index n x.less; is = x.is }
    by (inr (inl e)) rec = record { index = n; less = one n; is = e }
    by (inr (inr k)) rec = absurd k

-- a job stands below all levels
job-depth : (p : Place) (it : Iteration) (levels : ℕ) → HasLevels it levels → (r : List Origin) (b : Binding) → at it p ≡ Some (leaf r (job b)) → length p ≡ levels
job-depth [] it levels l r b e = sym (subst (λ u. HasLevels u levels) (same_Some it (leaf r (job b)) e) l)
job-depth (i ∷ p) (leaf s x) levels l r b e = absurd (none-some _ e)
job-depth (i ∷ p) (list s ts) zero l r b e = absurd l
job-depth (i ∷ p) (list s ts) (suc levels) l r b e = by (item_at ts i) refl e (λ u h k. job-depth p u levels h r b k)
  where
    by : (o : Option Iteration) → item_at ts i ≡ o → option_and_then (λ u. at u p) o ≡ Some (leaf r (job b)) → ((u : Iteration) → HasLevels u levels → at u p ≡ Some (leaf r (job b)) → length p ≡ levels) → suc (length p) ≡ suc levels
    by None k h rec = absurd (none-some _ h)
    by (Some u) k h rec = ap suc (rec u (subst (λ o. ItemHasLevels o levels) k (item-levels ts levels i l)) h)

-- a list is empty, as the test says
pub no-outputs : {A : Type 0} (xs : List A) (b : Bool) → b ≡ (length xs == 0) → b ≡ true → xs ≡ []
no-outputs [] b e f = refl
no-outputs (x ∷ xs) b e f = absurd (true≢false (sym f ∙ e ∙ ne_eqb (length (x ∷ xs)) 0 (some (length xs))))
  where
    some : (n : ℕ) → suc n ≡ 0 → ⊥
    some n h = omega arith

module _ (t : Telling) where
  -- ---- what was noted

  pub noted-nothing : (k : Kept) → AreNoted t [] k k
  noted-nothing k = record { grows = grows-none k.groups; told = λ known s it w h. (noted-none t.settled s it (records_of k), λ q i z. absurd i) }

  pub noted-one : (q : Place) (old new : Kept) → IsJobNoted t q old new → AreNoted t (q ∷ []) old new
  noted-one q old new n = record {
    grows = n.grows;
    told = λ known s it w h. let j = h q (inl refl) in let x = n.told known s it w j.0 j.1 j.2 in (x.0, λ p i z. by s x.1 p i z);
  }
    where
      by : (s : Name × Step) → (t.settled q ≡ true → (x : Record) × In x (records_of new) × (x.job ≡ job_at s.0 q)) → (p : Place) → In p (q ∷ []) → t.settled p ≡ true → (x : Record) × In x (records_of new) × (x.job ≡ job_at s.0 p)
      by s f p (inl e) z = let x = f (subst (λ r. t.settled r ≡ true) e z) in (x.0, x.1, x.2 ∙ ap (job_at s.0) (sym e))
      by s f p (inr i) z = absurd i

  pub noted-both : (qs rs : List Place) (old mid new : Kept) → AreNoted t qs old mid → AreNoted t rs mid new → AreNoted t (qs ++ rs) old new
  noted-both qs rs old mid new a b = record {
    grows = grows-on old.groups mid.groups new.groups a.grows b.grows;
    told = λ known s it w h.
        let x = a.told known s it w (λ q i. h q (in-left q qs rs i)) in
        let y = b.told known s it w (λ q i. h q (in-right q qs rs i)) in
        (noted-on t.settled s it (records_of old) (records_of mid) (records_of new) x.0 y.0, λ q i z. by s it y.0 x.1 y.1 q (in-append q qs rs i) z);
  }
    where
      Has : Name × Step → List Record → Place → Type 0
      Has s rs q = (x : Record) × In x rs × (x.job ≡ job_at s.0 q)

      by : (s : Name × Step) (it : Iteration) → IsNoted t.settled s it (records_of mid) (records_of new) → ((q : Place) → In q qs → t.settled q ≡ true → Has s (records_of mid) q) → ((q : Place) → In q rs → t.settled q ≡ true → Has s (records_of new) q) → (q : Place) → In q qs ⊎ In q rs → t.settled q ≡ true → Has s (records_of new) q
      by s it n f g q (inl i) z = let x = f q i z in (x.0, n.kept x.0 x.1, x.2)
      by s it n f g q (inr i) z = g q i z

  -- one job more
  pub noted-next : (qs : List Place) (i : ℕ) (x q : Place) → i < length qs → x ≡ get_or qs i x → q ≡ x → (old mid new : Kept) → AreNoted t (take i qs) old mid → IsJobNoted t q mid new → AreNoted t (take (i + 1) qs) old new
  noted-next qs i x q lt is same old mid new h n =
      subst (λ ps. AreNoted t ps old new) (sym ((take_at_read qs i x lt).1 ∙ ap (λ y. take i qs ++ y ∷ []) (sym is)))
      (noted-both (take i qs) (x ∷ []) old mid new h (noted-one x mid new (subst (λ p. IsJobNoted t p mid new) same n)))

  -- ---- rows

  module _ (known : Origin → Bool) (s : Name × Step) (it : Iteration) (w : Tells t known s it) where
    -- a node stands there above so many levels
    record Stands (m : ℕ) (p : Place) : Type 0 where
      pub node : Iteration
      pub there : at it p ≡ Some node
      pub levels : HasLevels node m

    item-stands : (m : ℕ) (q p : Place) (n : ℕ) → t.what q ≡ Some (closed n) → IsItem q n p → Stands (suc m) q → Stands m p
    item-stands m q p n e x h = by h.node h.there h.levels (w.told.long q n h.node e h.there)
      where
        at-least : (i a b : ℕ) → i < a → a ≤ b → i < b
        at-least i a b h k = omega arith

        by : (u : Iteration) → at it q ≡ Some u → HasLevels u (suc m) → IsListOf n u → Stands m p
        by (leaf r y) a l k = absurd k
        by (list r ts) a l k =
            let v = some-item t ts x.index (at-least x.index n (count ts) x.less k) in
            record {
              node = v.0;
              there = ap (at it) x.is ∙ at-item t it q r ts x.index a ∙ v.1;
              levels = subst (λ o. ItemHasLevels o m) v.1 (item-levels ts m x.index l);
            }

    in-list : (m : ℕ) (q p : Place) (o : Option What) → t.what q ≡ o → In p (first_items q (count_of o)) → Stands (suc m) q → Stands m p
    in-list m q p None e i h = absurd i
    in-list m q p (Some (came k)) e i h = absurd i
    in-list m q p (Some (closed n)) e i h = item-stands m q p n e (in-first q n p i) h

    row-stands : (d m : ℕ) → HasLevels it (d + m) → (p : Place) → In p (row t.what d) → Stands m p
    row-stands zero m l p (inl e) = record { node = it; there = ap (at it) e; levels = subst (HasLevels it) (none m) l }
      where
        none : (m : ℕ) → 0 + m ≡ m
        none m = omega arith
    row-stands zero m l p (inr i) = absurd i
    row-stands (suc d) m l p i =
        let x = of-flat (items_at t.what) p (row t.what d) i in
        in-list m x.0 p (t.what x.0) refl x.2 (row-stands d (suc m) (subst (HasLevels it) (later d m) l) x.0 x.1)
      where
        later : (d m : ℕ) → suc d + m ≡ d + suc m
        later d m = omega arith

    stands-job : (p : Place) → Stands 0 p → IsJobAt it p
    stands-job p h = by h.node h.there h.levels
      where
        none : 0 < 0 → ⊥
        none h = omega arith

        by : (u : Iteration) → at it p ≡ Some u → HasLevels u 0 → IsJobAt it p
        by (leaf r (job b)) a l = (r, b, a)
        by (leaf r (passed m e)) a l = absurd (none l)
        by (list r ts) a l = absurd l

    row-job : (levels : ℕ) → HasLevels it levels → (p : Place) → In p (row t.what levels) → IsJobAt it p
    row-job levels l p i = stands-job p (row-stands levels 0 (subst (HasLevels it) (same levels) l) p i)
      where
        same : (n : ℕ) → n ≡ n + 0
        same n = omega arith

    -- a settled job is in the row of its depth, since so is all around it
    below-row : (r : List Origin) (b : Binding) (p q : Place) (d : ℕ) → In q (row t.what d) → at it (q ++ p) ≡ Some (leaf r (job b)) → t.settled (q ++ p) ≡ true → In (q ++ p) (row t.what (d + length p))
    below-row r b [] q d i a z = subst (λ n. In (q ++ []) (row t.what n)) (same d) (subst (λ x. In x (row t.what d)) (sym (append-nil q)) i)
      where
        same : (n : ℕ) → n ≡ n + 0
        same n = omega arith
    below-row r b (j ∷ p) q d i a z =
        let far = sym (append_assoc q (j ∷ []) p) in
        subst (λ n. In (q ++ (j ∷ p)) (row t.what n)) (later d (length p))
        (subst (λ x. In x (row t.what (suc d + length p))) (sym far)
        (below-row r b p (q ++ j ∷ []) (suc d) (in-flat (items_at t.what) q (q ++ j ∷ []) (row t.what d) i item) (ap (at it) (sym far) ∙ a) (subst (λ x. t.settled x ≡ true) far z)))
      where
        later : (d n : ℕ) → suc d + n ≡ d + suc n
        later d n = omega arith

        item : In (q ++ j ∷ []) (items_at t.what q)
        item =
            let x = w.told.around q j p (leaf r (job b)) a (w.told.settled_known (q ++ j ∷ p) r b a z) in
            subst (λ o. In (q ++ j ∷ []) (first_items q (count_of o))) (sym x.1) (first-in q x.0 j x.2)

    pub row-all : (levels : ℕ) → HasLevels it levels → (r : List Origin) (b : Binding) (p : Place) → at it p ≡ Some (leaf r (job b)) → t.settled p ≡ true → In p (row t.what levels)
    row-all levels l r b p a z = subst (λ n. In p (row t.what n)) (none (length p) ∙ job-depth p it levels l r b a) (below-row r b p [] 0 (inl refl) a z)
      where
        none : (m : ℕ) → 0 + m ≡ m
        none m = omega arith

  -- ---- a step

  -- of one without outputs the jobs were noted
  pub walked-rows : (s : Name × Step) (levels : ℕ) (old new : Kept) (u : Shape) → s.1.outputs ≡ [] → u ≡ no_shape → AreNoted t (row t.what levels) old new → IsWalked t s levels old new u
  walked-rows s levels old new u none e h = record {
    grows = h.grows;
    grouped = subst (IsGrouped (job_at t.name) new.groups []) (sym e) tt;
    told = λ known it w l.
        let x = h.told known s it w (λ p i. row-job known s it w levels l p i) in
        (λ some. absurd (some none), x.0, λ p r b a z. x.1 p (row-all known s it w levels l r b p a z) z);
  }

  -- of one with outputs the node at the top was made
  pub walked-built : (s : Name × Step) (levels : ℕ) (old new : Kept) (u : Shape) → IsBuilt t levels [] old new u → IsWalked t s levels old new u
  walked-built s levels old new u h = record {
    grows = h.grows;
    grouped = h.grouped;
    told = λ known it w l. let x = h.told known s it w it refl l in (λ some. x.0, x.1, x.2);
  }
