-- Walking down from an instance finds the first job in job order that passes.
use Rattle.std.specs.Prelude.{◌≡◌, refl, ℕ, zero, suc, ◌+◌, ◌<◌, ◌≤◌, ◌⊎◌, List, [], ◌∷◌, ◌++◌, length, Bool, true, false, not, ◌&&◌, ◌||◌, if◌then◌else◌, cond, Option, Some, None, is_some, find}
use Rattle.std.specs.List.{list_any}
use Rattle.std.specs.Option.{option_or}
use Rattle.std.proofs.Common.{arith, sym, ap, subst, ◌∙◌, inl, inr, append_assoc, append-nil, length-append}
use Rattle.std.proofs.lemmas.Bool.{false_from_ne_true, not-true}
use Rattle.std.specs.Cmp.{first_so, second_so}
use Rattle.tv_lemmas.specs.Members.{In}
use Rattle.tv_lemmas.proofs.Members.{each_in}
use Rattle.tv_lemmas.proofs.Cases.{on_test, on_either}
use Rattle.tv_value.specs.Nested.{Place}
use Rattle.tv_value.specs.Values.{JobName, Name}
use Rattle.tv_gate.specs.Outcomes.{Giving}
use Rattle.tv_model.specs.Jobs.{Job}
use Rattle.tv_model.specs.Made.{Meaning}
use Rattle.tv_model.specs.Turns.{is_bounced}
use Rattle.tv_model.proofs.Tests.{true≠false, both_true, or_right}
use Rattle.tv_model.proofs.Turns.{or_left}
use Rattle.tv_model.proofs.Members.{snoc-parts}
use Rattle.tv_model.proofs.Whole.{IsWhole, not-longer}
use Rattle.tv_history.specs.Entries.{History, is_begun_entry, is_ended_entry, is_opened_entry, is_out}
use Rattle.tv_history.specs.Histories.{all_known, has_open_instance, is_legal, is_open, is_running, is_settled, may_go_on}
use Rattle.tv_history.proofs.Running.{begun-open, going_on, instance-begun}
use Rattle.tv_history.proofs.Ready.{all-sound, are-jobs}
use Rattle.tv_history.proofs.Stuck.{begun-tried}
use Rattle.tv_history.proofs.Done.{opener-ended}
use Rattle.tv_history.proofs.OneWorker.{Before, IsLaidOut, before-right}
use Rattle.tv_history.specs.order.FirstIn.{AreHeld, first_among, first_in}
use Rattle.tv_model.specs.JobOrder.{AllPairs, Apart}
use Rattle.tv_history.proofs.Strict.{PrefixFirst}

-- ---- lists

pub before-trans : {A K : Type 0} (key : A → K) (xs : List A) → Apart key xs → (x y z : A) → Before x y xs → Before y z xs → Before x z xs
before-trans key [] a x y z b c = absurd b
before-trans key (w ∷ xs) a x y z (inl b) (inl c) = absurd (a.0 y b.1 (ap key (sym c.0)))
before-trans key (w ∷ xs) a x y z (inl b) (inr c) = inl (b.0, before-right y z xs c)
before-trans key (w ∷ xs) a x y z (inr b) (inl c) = absurd (a.0 y (before-right x y xs b) (ap key (sym c.0)))
before-trans key (w ∷ xs) a x y z (inr b) (inr c) = inr (before-trans key xs a.1 x y z b c)

pub find-first : {A K : Type 0} (key : A → K) (p : A → Bool) (xs : List A) → Apart key xs → (x : A) → In x xs → p x ≡ true → ((y : A) → In y xs → p y ≡ true → (y ≡ x) ⊎ Before x y xs) → find p xs ≡ Some x
find-first key p [] a x i h f = absurd i
find-first {A = A} key p (z ∷ zs) a x i h f = by (p z) refl i (λ k. find-first key p zs a.1 x k h (later k))
  where
    later : In x zs → (y : A) → In y zs → p y ≡ true → (y ≡ x) ⊎ Before x y zs
    later k y u v = cases (f y (inr u) v)
      where
        cases : (y ≡ x) ⊎ Before x y (z ∷ zs) → (y ≡ x) ⊎ Before x y zs
        cases (inl e) = inl e
        cases (inr (inl b)) = absurd (a.0 x k (ap key (sym b.0)))
        cases (inr (inr b)) = inr b

    same : (z ≡ x) ⊎ Before x z (z ∷ zs) → z ≡ x
    same (inl e) = e
    same (inr (inl b)) = b.0
    same (inr (inr b)) = absurd (a.0 z (before-right x z zs b) refl)

    by : (b : Bool) → p z ≡ b → In x (z ∷ zs) → (In x zs → find p zs ≡ Some x) → cond b (Some z) (find p zs) ≡ Some x
    by true e k rec = ap (λ w. Some w) (same (f z (inl refl) e))
    by false e (inl q) rec = absurd (true≠false (sym h ∙ ap p q ∙ e))
    by false e (inr k) rec = rec k

pub find-none : {A : Type 0} (p : A → Bool) (xs : List A) → ((y : A) → In y xs → p y ≡ false) → find p xs ≡ None
find-none p [] f = refl
find-none p (z ∷ zs) f = ap (λ b. cond b (Some z) (find p zs)) (f z (inl refl)) ∙ find-none p zs (λ y h. f y (inr h))

pub last-of : {A : Type 0} (r : List A) → (r ≡ []) ⊎ ((s : List A) × (k : A) × (r ≡ s ++ k ∷ []) × (length r ≡ suc (length s)))
last-of [] = inl refl
last-of {A = A} (x ∷ r) = inr (on_either (last-of r) (λ e. ([], x, ap (λ l. x ∷ l) e, ap (λ (l : List A). suc (length l)) e)) (λ h. (x ∷ h.0, h.1, ap (λ l. x ∷ l) h.2, ap suc h.3)))

-- ---- open instances

module _ (gives : Giving) (D : ℕ → Type 0) (m : Meaning) (w : IsWhole gives D m []) (past : History) (legal : is_legal gives m past ≡ true) where
  abbrev pub Begun : Job → Bool
  Begun j = list_any (is_begun_entry j.name) past

  -- a job whose flow is open isn't settled
  pub open-unsettled : (p : Job) → In p m.jobs → has_open_instance past p ≡ true → is_settled past p ≡ false
  open-unsettled p i h = false_from_ne_true (is_settled past p) (λ e. true≠false (sym (opener-ended gives D m w past p (first_so (is_some p.opens) (is_open past p.name) h) (begun-tried gives D m w past p i legal begun) e) ∙ not_ended))
    where
      c : (k : Name × List ℕ) × (n : JobName) × (p.name ≡ k ∷ n)
      c = (are-jobs gives D m [] w).has_name p i

      not_ended : list_any (is_ended_entry p.name) past ≡ false
      not_ended =
          let o = subst (λ n. is_open past n ≡ true) c.2 (second_so (is_some p.opens) (is_open past p.name) h) in
          subst (λ n. list_any (is_ended_entry n) past ≡ false) (sym c.2) (not-true (list_any (is_ended_entry (c.0 ∷ c.1)) past) (second_so (list_any (is_opened_entry (c.0 ∷ c.1)) past) (not (list_any (is_ended_entry (c.0 ∷ c.1)) past)) o))

      begun : Begun p ≡ true
      begun = instance-begun gives m (all-sound gives D m [] w) (are-jobs gives D m [] w) past p i h

  -- it runs
  pub open-running : (p : Job) → In p m.jobs → has_open_instance past p ≡ true → is_running past p ≡ true
  open-running p i h = both_true (Begun p) (not (is_settled past p)) (instance-begun gives m (all-sound gives D m [] w) (are-jobs gives D m [] w) past p i h) (ap not (open-unsettled p i h))

  -- a running job stands in an open instance
  pub running-open : (p : Job) → In p m.jobs → is_running past p ≡ true → is_open past p.instance ≡ true
  running-open p i r = on_either (begun-open gives m (all-sound gives D m [] w) (are-jobs gives D m [] w) past p i legal (first_so (Begun p) (not (is_settled past p)) r)) (λ s. absurd (true≠false (sym s ∙ not-true (is_settled past p) (second_so (Begun p) (not (is_settled past p)) r)))) (λ o. o)

  -- the instance round an open one is open
  pub outer-open : (p : Job) → In p m.jobs → has_open_instance past p ≡ true → is_open past p.instance ≡ true
  outer-open p i h = running-open p i (open-running p i h)

  -- what may go on stands in an open instance
  pub going-open : (j : Job) → In j m.jobs → may_go_on m past j ≡ true → is_open past j.instance ≡ true
  going-open j i g = on_either (going_on gives m (all-sound gives D m [] w) (are-jobs gives D m [] w) past j g) (λ q. running-open j i (first_so (is_running past j) (not (is_out past j.name)) (first_so (is_running past j && not (is_out past j.name)) (not (has_open_instance past j)) q))) (λ q. first_so (is_open past j.instance) (not (is_running past j)) (first_so (is_open past j.instance && not (is_running past j)) (not (is_settled past j)) (first_so (is_open past j.instance && not (is_running past j) && not (is_settled past j)) (all_known m past j.waits) q)))

  -- a job whose flow is open doesn't go on itself
  pub opener-waits : (j : Job) → In j m.jobs → has_open_instance past j ≡ true → may_go_on m past j ≡ false
  opener-waits j i h = false_from_ne_true (may_go_on m past j) (λ e. on_either (going_on gives m (all-sound gives D m [] w) (are-jobs gives D m [] w) past j e) (λ q. true≠false (sym h ∙ not-true (has_open_instance past j) (second_so (is_running past j && not (is_out past j.name)) (not (has_open_instance past j)) q))) (λ q. let a = first_so (is_open past j.instance && not (is_running past j) && not (is_settled past j)) (all_known m past j.waits) q in let b = first_so (is_open past j.instance && not (is_running past j)) (not (is_settled past j)) a in true≠false (sym (open-running j i h) ∙ not-true (is_running past j) (second_so (is_open past j.instance) (not (is_running past j)) b))))

  -- ---- the job of an instance round a job further in

  pub record HasOwn (I : JobName) (c : Name × Place) (y : Job) : Type 0 where
    pub own : Job
    pub mine : In own m.jobs
    pub named : own.name ≡ I ++ c ∷ []
    pub in_instance : own.instance ≡ I
    pub rest : JobName
    pub inside_it : y.name ≡ own.name ++ rest
    pub itself_or_open : (y ≡ own) ⊎ (has_open_instance past own ≡ true)

  not-nil : (I : JobName) (c : Name × Place) (r : JobName) → I ++ c ∷ r ≡ [] → ⊥
  not-nil I c r e = omega (arith, sym (length-append I (c ∷ r)) ∙ ap (λ (l : JobName). length l) e)

  own-from : (f : ℕ) (I : JobName) (c : Name × Place) (r : JobName) → length r < f → (y : Job) → In y m.jobs → y.name ≡ I ++ c ∷ r → is_open past y.instance ≡ true → HasOwn I c y
  own-from zero I c r b y i e o = absurd (omega (arith, b))
  own-from (suc f) I c r b y i e o = on_either (last-of r) (λ q. itself q) (λ q. inner q.0 q.1 q.2 q.3 (λ s t p h g u. own-from f I c s t p h g u))
    where
      itself : r ≡ [] → HasOwn I c y
      itself q = record {
        own = y;
        mine = i;
        named = e ∙ ap (λ l. I ++ c ∷ l) q;
        in_instance = (snoc-parts c y.instance I (w.jobs y i).key c (sym (w.jobs y i).named ∙ e ∙ ap (λ l. I ++ c ∷ l) q)).0;
        rest = [];
        inside_it = sym (append-nil y.name);
        itself_or_open = inl refl;
      }

      inner : (s : JobName) (k : Name × Place) → r ≡ s ++ k ∷ [] → length r ≡ suc (length s) → ((s : JobName) → length s < f → (p : Job) → In p m.jobs → p.name ≡ I ++ c ∷ s → is_open past p.instance ≡ true → HasOwn I c p) → HasOwn I c y
      inner s k q l rec = cases (w.jobs y i).parent
        where
          instance-is : y.instance ≡ I ++ c ∷ s
          instance-is = (snoc-parts c y.instance (I ++ c ∷ s) (w.jobs y i).key k (sym (w.jobs y i).named ∙ e ∙ ap (λ l. I ++ c ∷ l) q ∙ sym (append_assoc I (c ∷ s) (k ∷ [])))).0

          cases : (y.instance ≡ []) ⊎ ((p : Job) × In p m.jobs × (p.name ≡ y.instance) × (is_some p.opens ≡ true) × (is_bounced p.ending ≡ false)) → HasOwn I c y
          cases (inl n) = absurd (not-nil I c s (sym instance-is ∙ n))
          cases (inr p) =
              let h = both_true (is_some p.0.opens) (is_open past p.0.name) p.3 (subst (λ n. is_open past n ≡ true) (sym p.2) o) in
              let x = rec s (omega (arith, l, b)) p.0 p.1 (p.2 ∙ instance-is) (outer-open p.0 p.1 h) in
              record { own = x.own; mine = x.mine; named = x.named; in_instance = x.in_instance; rest = x.rest ++ (w.jobs y i).key ∷ []; inside_it = (w.jobs y i).named ∙ ap (λ n. n ++ (w.jobs y i).key ∷ []) (sym p.2 ∙ x.inside_it) ∙ append_assoc x.own.name x.rest ((w.jobs y i).key ∷ []); itself_or_open = inr (up x.own x.itself_or_open h) }
            where
              up : (z : Job) → (p.0 ≡ z) ⊎ (has_open_instance past z ≡ true) → has_open_instance past p.0 ≡ true → has_open_instance past z ≡ true
              up z (inl q) h = subst (λ x. has_open_instance past x ≡ true) q h
              up z (inr q) h = q

  pub has-own : (I : JobName) (c : Name × Place) (r : JobName) (y : Job) → In y m.jobs → y.name ≡ I ++ c ∷ r → is_open past y.instance ≡ true → HasOwn I c y
  has-own I c r y i e o = own-from (suc (length r)) I c r (omega arith) y i e o

  -- ---- the walk

  module _ (laid : IsLaidOut m.jobs) (first : PrefixFirst m.jobs) (passes : Job → Bool) (passes-open : (j : Job) → In j m.jobs → passes j ≡ true → is_open past j.instance ≡ true) (passes-shut : (j : Job) → In j m.jobs → has_open_instance past j ≡ true → passes j ≡ false) (held : JobName → List Job) (are : AreHeld m past held passes) where
    abbrev pub into : Job → Bool
    into j = has_open_instance past j

    -- at the job or inside it
    abbrev AtOrIn : Job → Job → Type 0
    AtOrIn j y = (r : JobName) × (y.name ≡ j.name ++ r)

    -- the first of those in S
    abbrev pub FirstOf : (Job → Type 0) → Option Job → Type 0
    FirstOf S None = (y : Job) → In y m.jobs → S y → passes y ≡ false
    FirstOf S (Some x) = In x m.jobs × S x × (passes x ≡ true) × ((y : Job) → In y m.jobs → S y → passes y ≡ true → (y ≡ x) ⊎ Before x y m.jobs)

    abbrev pub Under : JobName → Job → Type 0
    Under I y = (c : Name × Place) × (r : JobName) × (y.name ≡ I ++ c ∷ r)

    abbrev InOneOf : List Job → Job → Type 0
    InOneOf js y = (j : Job) × In j js × AtOrIn j y

    split-at_or_in : (j y : Job) → In j m.jobs → In y m.jobs → AtOrIn j y → (y ≡ j) ⊎ Under j.name y
    split-at_or_in j y h i ([], e) = inl ((are-jobs gives D m [] w).once y j i h (e ∙ append-nil j.name))
    split-at_or_in j y h i (c ∷ r, e) = inr (c, r, e)

    -- nothing inside a job whose flow isn't open passes
    shut-inside : (j : Job) → In j m.jobs → into j ≡ false → (y : Job) → In y m.jobs → Under j.name y → passes y ≡ false
    shut-inside j h s y i u = on_test (passes y) (λ e. let o = has-own j.instance key (u.0 ∷ u.1) y i name-is (passes-open y i e) in absurd (cases o ((are-jobs gives D m [] w).once o.own j o.mine h (o.named ∙ sym (w.jobs j h).named)) o.itself_or_open)) (λ e. e)
      where
        key : Name × Place
        key = (w.jobs j h).key

        name-is : y.name ≡ j.instance ++ key ∷ (u.0 ∷ u.1)
        name-is = u.2 ∙ ap (λ n. n ++ u.0 ∷ u.1) (w.jobs j h).named ∙ append_assoc j.instance (key ∷ []) (u.0 ∷ u.1)

        cases : (o : HasOwn j.instance key y) → o.own ≡ j → (y ≡ o.own) ⊎ (has_open_instance past o.own ≡ true) → ⊥
        cases o e (inl q) = not-longer j.name u.0 u.1 (sym (ap (λ (z : Job). z.name) (q ∙ e)) ∙ u.2)
        cases o e (inr q) = true≠false (sym (subst (λ z. into z ≡ true) e q) ∙ s)

    abbrev here_of : (JobName → Option Job) → Bool → Job → Option Job
    here_of inside b j = if b then inside j.name else (if passes j then Some j else None)

    in-job : (inside : JobName → Option Job) → (j : Job) → In j m.jobs → (into j ≡ true → FirstOf (Under j.name) (inside j.name)) → FirstOf (AtOrIn j) (here_of inside (into j) j)
    in-job inside j h rec = by (into j) refl
      where
        from : (o : Option Job) → passes j ≡ false → FirstOf (Under j.name) o → FirstOf (AtOrIn j) o
        from None f g = λ y i a. cases y i (split-at_or_in j y h i a)
          where
            cases : (y : Job) → In y m.jobs → (y ≡ j) ⊎ Under j.name y → passes y ≡ false
            cases y i (inl q) = ap passes q ∙ f
            cases y i (inr u) = g y i u
        from (Some x) f g = (g.0, (g.1.0 ∷ g.1.1, g.1.2), g.2, λ y i a p. cases y i p (split-at_or_in j y h i a))
          where
            cases : (y : Job) → In y m.jobs → passes y ≡ true → (y ≡ j) ⊎ Under j.name y → (y ≡ x) ⊎ Before x y m.jobs
            cases y i p (inl q) = absurd (true≠false (sym p ∙ ap passes q ∙ f))
            cases y i p (inr u) = g.3 y i u p

        itself : (b : Bool) → passes j ≡ b → into j ≡ false → FirstOf (AtOrIn j) (if b then Some j else None)
        itself true e s = (h, ([], sym (append-nil j.name)), e, λ y i a p. cases y (split-at_or_in j y h i a) i)
          where
            cases : (y : Job) → (y ≡ j) ⊎ Under j.name y → In y m.jobs → (y ≡ j) ⊎ Before j y m.jobs
            cases y (inl q) i = inl q
            cases y (inr u) i = inr (first j y h i u.0 u.1 u.2)
        itself false e s = λ y i a. cases y i (split-at_or_in j y h i a)
          where
            cases : (y : Job) → In y m.jobs → (y ≡ j) ⊎ Under j.name y → passes y ≡ false
            cases y i (inl q) = ap passes q ∙ e
            cases y i (inr u) = shut-inside j h s y i u

        by : (b : Bool) → into j ≡ b → FirstOf (AtOrIn j) (here_of inside b j)
        by true e = from (inside j.name) (passes-shut j h e) (rec e)
        by false e = itself (passes j) refl e

    among : (inside : JobName → Option Job) (I : JobName) (js : List Job) → ((j : Job) → In j js → In j m.jobs × (j.instance ≡ I)) → AllPairs (λ j k. Before j k m.jobs) js → ((j : Job) → In j js → into j ≡ true → FirstOf (Under j.name) (inside j.name)) → FirstOf (InOneOf js) (first_among into passes inside js)
    among inside I [] of p rec = λ y i s. absurd s.1
    among inside I (j ∷ js) of p rec = by (here_of inside (into j) j) (first_among into passes inside js) (in-job inside j (of j (inl refl)).0 (rec j (inl refl))) (among inside I js (λ k h. of k (inr h)) p.1 (λ k h. rec k (inr h)))
      where
        later : (x : Job) → In x m.jobs → AtOrIn j x → (k : Job) → In k js → (y : Job) → In y m.jobs → AtOrIn k y → Before x y m.jobs
        later x i a k h y u b =
            let q = each_in (λ k. Before j k m.jobs) js p.0 k h in
            let x_k = laid j k x q ((of j (inl refl)).1 ∙ sym (of k (inr h)).1) i a.0 a.1 in
            (on_either (split-at_or_in k y (of k (inr h)).0 u b) (λ e. subst (λ z. Before x z m.jobs) (sym e) x_k) (λ v. before-trans (λ (z : Job). z.name) m.jobs w.jobs_apart x k y x_k (first k y (of k (inr h)).0 u v.0 v.1 v.2)))

        by : (o t : Option Job) → FirstOf (AtOrIn j) o → FirstOf (InOneOf js) t → FirstOf (InOneOf (j ∷ js)) (option_or o t)
        by (Some x) t f g = (f.0, (j, inl refl, f.1), f.2, λ y i s q. cases y i q s.0 s.1 s.2)
          where
            cases : (y : Job) → In y m.jobs → passes y ≡ true → (k : Job) → In k (j ∷ js) → AtOrIn k y → (y ≡ x) ⊎ Before x y m.jobs
            cases y i q k (inl e) a = f.3 y i (subst (λ z. AtOrIn z y) e a) q
            cases y i q k (inr h) a = inr (later x f.0 f.1 k h y i a)
        by None None f g = λ y i s. cases y i s.0 s.1 s.2
          where
            cases : (y : Job) → In y m.jobs → (k : Job) → In k (j ∷ js) → AtOrIn k y → passes y ≡ false
            cases y i k (inl e) b = f y i (subst (λ z. AtOrIn z y) e b)
            cases y i k (inr u) b = g y i (k, u, b)
        by None (Some x) f g = (g.0, (g.1.0, inr g.1.1, g.1.2), g.2, λ y i s q. cases y i q s.0 s.1 s.2)
          where
            cases : (y : Job) → In y m.jobs → passes y ≡ true → (k : Job) → In k (j ∷ js) → AtOrIn k y → (y ≡ x) ⊎ Before x y m.jobs
            cases y i q k (inl e) a = absurd (true≠false (sym q ∙ f y i (subst (λ z. AtOrIn z y) e a)))
            cases y i q k (inr h) a = g.3 y i (k, h, a) q

    -- who passes inside an instance is in one of the jobs that are held of it
    covered : (I : JobName) → is_open past I ≡ true → (y : Job) → In y m.jobs → Under I y → passes y ≡ true → InOneOf (held I) y
    covered I o y i u p =
        let h = has-own I u.0 u.1 y i u.2 (passes-open y i p) in
        (h.own, (are I o).all_there h.own h.mine h.in_instance (there h.own h.itself_or_open), (h.rest, h.inside_it))
      where
        there : (z : Job) → (y ≡ z) ⊎ (has_open_instance past z ≡ true) → (has_open_instance past z || passes z) ≡ true
        there z (inl q) = or_right (has_open_instance past z) (passes z) (subst (λ x. passes x ≡ true) q p)
        there z (inr q) = or_left (has_open_instance past z) (passes z) q

    -- so many levels may follow
    pub walked : (k : ℕ) (I : JobName) → is_open past I ≡ true → ((y : Job) → In y m.jobs → length y.name ≤ length I + k) → FirstOf (Under I) (first_in held into passes k I)
    walked zero I o b = λ y i u. absurd (omega (arith, ap (λ (l : JobName). length l) u.2 ∙ length-append I (u.0 ∷ u.1), b y i))
    walked (suc k) I o b = from (first_among into passes (first_in held into passes k) (held I)) (among (first_in held into passes k) I (held I) ((are I o).of_instance) ((are I o).in_order) (deeper (λ J q c. walked k J q c)))
      where
        deeper : ((J : JobName) → is_open past J ≡ true → ((y : Job) → In y m.jobs → length y.name ≤ length J + k) → FirstOf (Under J) (first_in held into passes k J)) → (j : Job) → In j (held I) → into j ≡ true → FirstOf (Under j.name) (first_in held into passes k j.name)
        deeper rec j h q =
            let f = (are I o).of_instance j h in
            rec j.name (second_so (is_some j.opens) (is_open past j.name) q) (λ y i. (omega (arith, ap (λ (l : JobName). length l) ((w.jobs j f.0).named ∙ ap (λ n. n ++ (w.jobs j f.0).key ∷ []) f.1) ∙ length-append I ((w.jobs j f.0).key ∷ []), b y i)))

        from : (t : Option Job) → FirstOf (InOneOf (held I)) t → FirstOf (Under I) t
        from None g = λ y i u. by y i u (passes y) refl
          where
            by : (y : Job) → In y m.jobs → Under I y → (c : Bool) → passes y ≡ c → passes y ≡ false
            by y i u false e = e
            by y i u true e = absurd (true≠false (sym e ∙ g y i (covered I o y i u e)))
        from (Some x) g = (g.0, under, g.2, λ y i u p. g.3 y i (covered I o y i u p) p)
          where
            under : Under I x
            under =
                let f = (are I o).of_instance g.1.0 g.1.1 in
                ((w.jobs g.1.0 f.0).key, g.1.2.0, g.1.2.1 ∙ ap (λ n. n ++ g.1.2.0) ((w.jobs g.1.0 f.0).named ∙ ap (λ n. n ++ (w.jobs g.1.0 f.0).key ∷ []) f.1) ∙ append_assoc I ((w.jobs g.1.0 f.0).key ∷ []) g.1.2.0)

    under-main : (y : Job) → In y m.jobs → Under [] y
    under-main y i = let c = (are-jobs gives D m [] w).has_name y i in (c.0, c.1, c.2)

    -- the walk from the main instance finds the first
    pub first-found : (k : ℕ) → is_open past [] ≡ true → ((y : Job) → In y m.jobs → length y.name ≤ k) → first_in held into passes k [] ≡ find passes m.jobs
    first-found k o b = by (first_in held into passes k []) (walked k [] o (λ y i. (omega (arith, b y i))))
      where
        by : (t : Option Job) → FirstOf (Under []) t → t ≡ find passes m.jobs
        by None g = sym (find-none passes m.jobs (λ y i. g y i (under-main y i)))
        by (Some x) g = sym (find-first (λ (z : Job). z.name) passes m.jobs w.jobs_apart x g.0 g.2 (λ y i p. g.3 y i (under-main y i) p))
