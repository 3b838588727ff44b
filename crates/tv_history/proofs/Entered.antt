-- The walk enters few instances: at most eight, and eight for each try that is out.
use Rattle.std.specs.Prelude.{◌≡◌, refl, ℕ, zero, suc, ◌+◌, ◌*◌, ◌≤◌, List, [], ◌∷◌, ◌++◌, length, filter, Bool, true, false, not, ◌&&◌, ◌||◌, if◌then◌else◌, cond, Option, Some, None, is_some, count_by}
use Rattle.std.specs.List.{list_all}
use Rattle.std.proofs.Common.{arith, sym, ap, subst, ◌∙◌, inl, inr, append_assoc, append-nil, length-append}
use Rattle.std.proofs.lemmas.Bool.{not-true}
use Rattle.std.specs.Cmp.{first_so, second_so}
use Rattle.tv_lemmas.specs.Members.{In}
use Rattle.tv_lemmas.proofs.Members.{all-in, each_in, in-append, in-options, of-all, of-filter}
use Rattle.tv_lemmas.proofs.Cases.{on_either}
use Rattle.tv_value.specs.Nested.{Place}
use Rattle.tv_value.specs.Values.{JobName, Name}
use Rattle.tv_gate.specs.Outcomes.{Giving}
use Rattle.tv_flow.specs.Flows.{Document}
use Rattle.tv_model.specs.Jobs.{Job}
use Rattle.tv_model.specs.Made.{Meaning}
use Rattle.tv_model.specs.Meanings.{meaning, nesting_limit}
use Rattle.tv_model.proofs.Tests.{true≠false}
use Rattle.tv_model.proofs.Members.{apart-append}
use Rattle.tv_model.proofs.Whole.{IsWhole, not-longer, same-head}
use Rattle.tv_history.specs.Entries.{History, is_out}
use Rattle.tv_history.specs.Going.{IsWellFormed}
use Rattle.tv_history.specs.Histories.{can_open, can_settle_more, has_open_instance, instances, is_legal, is_offered, is_open}
use Rattle.tv_history.proofs.Ready.{AnyNumber, are-jobs}
use Rattle.tv_history.proofs.OneWorker.{Before, not-both}
use Rattle.tv_history.proofs.Counts.{bit, tally}
use Rattle.tv_history.specs.order.Chains.{is_inside}
use Rattle.tv_history.specs.order.FirstIn.{AreHeld, entered_among, entered_in, first_in}
use Rattle.tv_model.specs.JobOrder.{AllPairs, Apart}
use Rattle.tv_history.proofs.Tallies.{tally-none}
use Rattle.tv_history.proofs.First.{FirstOf, Under, going-open, walked}
use Rattle.tv_history.proofs.Still.{few-still, inside-parts}
use Rattle.tv_history.proofs.Documents.{any-first, any-laid, any-whole, goes-going, name-length, shut}

-- ---- lists

filter-tally : {A : Type 0} (p : A → Bool) (xs : List A) → length (filter p xs) ≡ tally p xs
filter-tally p [] = refl
filter-tally {A = A} p (x ∷ xs) = by (p x) (filter-tally p xs)
  where
    by : (b : Bool) → length (filter p xs) ≡ tally p xs → length (cond b (x ∷ filter p xs) (filter p xs)) ≡ bit b + tally p xs
    by true h = omega (arith, h)
    by false h = omega (arith, h)

apart-filter : {A K : Type 0} (key : A → K) (p : A → Bool) (xs : List A) → Apart key xs → Apart key (filter p xs)
apart-filter key p [] a = tt
apart-filter {A = A} key p (x ∷ xs) a = by (p x) (apart-filter key p xs a.1)
  where
    by : (b : Bool) → Apart key (filter p xs) → Apart key (cond b (x ∷ filter p xs) (filter p xs))
    by true h = (λ y k e. a.0 y (of-filter p y xs k).0 e, h)
    by false h = h

halves : {A : Type 0} (p : A → Bool) (xs : List A) → length xs ≡ tally p xs + tally (λ x. not (p x)) xs
halves p [] = omega arith
halves {A = A} p (x ∷ xs) = by (p x) (halves p xs)
  where
    by : (b : Bool) → length xs ≡ tally p xs + tally (λ x. not (p x)) xs → suc (length xs) ≡ (bit b + tally p xs) + (bit (not b) + tally (λ x. not (p x)) xs)
    by true h = omega (arith, h)
    by false h = omega (arith, h)

tally-append : {A : Type 0} (p : A → Bool) (xs ys : List A) → tally p (xs ++ ys) ≡ tally p xs + tally p ys
tally-append p [] ys = omega arith
tally-append p (x ∷ xs) ys = omega (arith, tally-append p xs ys)

-- ---- the walk

module _ (gives : Giving) (d : Document) (f : IsWellFormed d) (past : History) (legal : is_legal gives (meaning gives d) past ≡ true) (quiet : can_settle_more (meaning gives d) past ≡ false) (held : JobName → List Job) (are : AreHeld (meaning gives d) past held (λ j. is_offered (meaning gives d) past j || can_open (meaning gives d) past j)) where
  abbrev m : Meaning
  m = meaning gives d

  abbrev goes : Job → Bool
  goes j = is_offered m past j || can_open m past j

  abbrev into : Job → Bool
  into j = has_open_instance past j

  abbrev first_of : ℕ → JobName → Option Job
  first_of k I = first_in held into goes k I

  abbrev entered : ℕ → JobName → List JobName
  entered k I = entered_in held into goes k I

  abbrev among : ℕ → List Job → List JobName
  among k js = entered_among into goes (first_of k) (entered k) js

  w : IsWhole gives AnyNumber m []
  w = any-whole gives d

  -- an entered instance is that of a job that is walked into, or lies in it
  of-among : (k : ℕ) (js : List Job) (J : JobName) → In J (among k js) → (j : Job) × In j js × (into j ≡ true) × In J (entered k j.name)
  of-among k [] J h = absurd h
  of-among k (j ∷ js) J h = by (into j) refl h (λ u. of-among k js J u)
    where
      later : (In J (among k js) → (z : Job) × In z js × (into z ≡ true) × In J (entered k z.name)) → In J (among k js) → (z : Job) × In z (j ∷ js) × (into z ≡ true) × In J (entered k z.name)
      later rec u = let r = rec u in (r.0, inr r.1, r.2, r.3)

      rest : (b : Bool) → In J (if b then [] else among k js) → In J (among k js)
      rest true u = absurd u
      rest false u = u

      by : (b : Bool) → into j ≡ b → In J (if b then entered k j.name ++ (if is_some (first_of k j.name) then [] else among k js) else (if goes j then [] else among k js)) → (In J (among k js) → (z : Job) × In z js × (into z ≡ true) × In J (entered k z.name)) → (z : Job) × In z (j ∷ js) × (into z ≡ true) × In J (entered k z.name)
      by false e u rec = later rec (rest (goes j) u)
      by true e u rec = on_either (in-append J (entered k j.name) (if is_some (first_of k j.name) then [] else among k js) u) (λ v. (j, inl refl, e, v)) (λ v. later rec (rest (is_some (first_of k j.name)) v))

  opener-in : (j : Job) → In j m.jobs → into j ≡ true → In j.name (instances m)
  opener-in j h e = inr (in-options (λ j. if is_some j.opens then Some j.name else None) j j.name m.jobs h (ap (λ b. if b then Some j.name else None) (first_so (is_some j.opens) (is_open past j.name) e)))

  abbrev IsEntered : JobName → JobName → Type 0
  IsEntered I J = ((r : JobName) × (J ≡ I ++ r)) × (is_open past J ≡ true) × In J (instances m)

  facts : (k : ℕ) (I : JobName) → is_open past I ≡ true → In I (instances m) → (J : JobName) → In J (entered k I) → IsEntered I J
  facts zero I o i J h = absurd h
  facts (suc k) I o i J (inl e) = (([], e ∙ sym (append-nil I)), subst (λ n. is_open past n ≡ true) (sym e) o, subst (λ n. In n (instances m)) (sym e) i)
  facts (suc k) I o i J (inr h) =
      let r = of-among k (held I) J h in
      let g = (are I o).of_instance r.0 r.1 in
      let b = facts k r.0.name (second_so (is_some r.0.opens) (is_open past r.0.name) r.2) (opener-in r.0 g.0 r.2) J r.3 in
      (((w.jobs r.0 g.0).key ∷ b.0.0, b.0.1 ∙ ap (λ n. n ++ b.0.0) ((w.jobs r.0 g.0).named ∙ ap (λ n. n ++ (w.jobs r.0 g.0).key ∷ []) g.1) ∙ append_assoc I ((w.jobs r.0 g.0).key ∷ []) b.0.0), b.1, b.2)

  -- no instance is entered twice
  apart-among : (k : ℕ) (I : JobName) (js : List Job) → ((j : Job) → In j js → In j m.jobs × (j.instance ≡ I)) → AllPairs (λ j z. Before j z m.jobs) js → ((j : Job) → In j js → into j ≡ true → Apart (λ J. J) (entered k j.name)) → ((j : Job) → In j js → into j ≡ true → (J : JobName) → In J (entered k j.name) → (r : JobName) × (J ≡ j.name ++ r)) → Apart (λ J. J) (among k js)
  apart-among k I [] of p a g = tt
  apart-among k I (j ∷ js) of p a g = by (into j) refl (apart-among k I js (λ z h. of z (inr h)) p.1 (λ z h. a z (inr h)) (λ z h. g z (inr h)))
    where
      rest : (b : Bool) → Apart (λ J. J) (among k js) → Apart (λ J. J) (if b then [] else among k js)
      rest true h = tt
      rest false h = h

      of-rest : (b : Bool) (J : JobName) → In J (if b then [] else among k js) → In J (among k js)
      of-rest true J h = absurd h
      of-rest false J h = h

      cross : into j ≡ true → (J K : JobName) → In J (entered k j.name) → In K (among k js) → K ≡ J → ⊥
      cross e J K h u q =
          let r = of-among k js K u in
          let x = g j (inl refl) e J h in
          let y = g r.0 (inr r.1) r.2 K r.3 in
          let s = of j (inl refl) in
          let t = of r.0 (inr r.1) in
          let same = same-head I (w.jobs j s.0).key (w.jobs r.0 t.0).key j.name r.0.name x.0 y.0 ((w.jobs j s.0).named ∙ ap (λ n. n ++ (w.jobs j s.0).key ∷ []) s.1) ((w.jobs r.0 t.0).named ∙ ap (λ n. n ++ (w.jobs r.0 t.0).key ∷ []) t.1) (sym x.1 ∙ sym q ∙ y.1) in
          let b = each_in (λ z. Before j z m.jobs) js p.0 r.0 r.1 in
          let c = subst (λ z. Before j z m.jobs) (sym ((are-jobs gives AnyNumber m [] w).once j r.0 s.0 t.0 same)) b in
          not-both (λ (v : Job). v.name) m.jobs w.jobs_apart j j c c

      by : (b : Bool) → into j ≡ b → Apart (λ J. J) (among k js) → Apart (λ J. J) (if b then entered k j.name ++ (if is_some (first_of k j.name) then [] else among k js) else (if goes j then [] else among k js))
      by false e h = rest (goes j) h
      by true e h = apart-append (λ J. J) (entered k j.name) (if is_some (first_of k j.name) then [] else among k js) (a j (inl refl) e) (rest (is_some (first_of k j.name)) h) (λ J K u v q. cross e J K u (of-rest (is_some (first_of k j.name)) K v) q)

  apart : (k : ℕ) (I : JobName) → is_open past I ≡ true → In I (instances m) → Apart (λ J. J) (entered k I)
  apart zero I o i = tt
  apart (suc k) I o i = (
    λ J h e. let r = of-among k (held I) J h in
        let g = (are I o).of_instance r.0 r.1 in
        let b = facts k r.0.name (second_so (is_some r.0.opens) (is_open past r.0.name) r.2) (opener-in r.0 g.0 r.2) J r.3 in
        not-longer I (w.jobs r.0 g.0).key b.0.0 (sym e ∙ b.0.1 ∙ ap (λ n. n ++ b.0.0) ((w.jobs r.0 g.0).named ∙ ap (λ n. n ++ (w.jobs r.0 g.0).key ∷ []) g.1) ∙ append_assoc I ((w.jobs r.0 g.0).key ∷ []) b.0.0),
    apart-among k I (held I) ((are I o).of_instance) ((are I o).in_order) (λ j h e. apart k j.name (second_so (is_some j.opens) (is_open past j.name) e) (opener-in j ((are I o).of_instance j h).0 e)) (λ j h e J u. (facts k j.name (second_so (is_some j.opens) (is_open past j.name) e) (opener-in j ((are I o).of_instance j h).0 e) J u).0),
  )

  -- ---- still ones

  abbrev still : JobName → Bool
  still J = list_all (λ (y : Job). not (is_inside J y.name && goes y)) m.jobs

  -- where nothing goes on in I, nothing does in what is entered from it
  still-below : (I J : JobName) → (r : JobName) × (J ≡ I ++ r) → ((y : Job) → In y m.jobs → (c : Name × Place) × (s : JobName) × (y.name ≡ I ++ c ∷ s) → goes y ≡ false) → still J ≡ true
  still-below I J b g = all-in (λ (y : Job). not (is_inside J y.name && goes y)) m.jobs (λ y h. by y h (is_inside J y.name) refl)
    where
      under : (y : Job) → (p : (c : Name × Place) × (s : JobName) × (y.name ≡ J ++ c ∷ s)) → (r : JobName) → J ≡ I ++ r → (c : Name × Place) × (s : JobName) × (y.name ≡ I ++ c ∷ s)
      under y p [] e = (p.0, p.1, p.2 ∙ ap (λ n. n ++ p.0 ∷ p.1) (e ∙ append-nil I))
      under y p (x ∷ r) e = (x, r ++ p.0 ∷ p.1, p.2 ∙ ap (λ n. n ++ p.0 ∷ p.1) e ∙ append_assoc I (x ∷ r) (p.0 ∷ p.1))

      by : (y : Job) → In y m.jobs → (c : Bool) → is_inside J y.name ≡ c → not (is_inside J y.name && goes y) ≡ true
      by y h false e = ap (λ c. not (c && goes y)) e
      by y h true e = ap (λ c. not (c && goes y)) e ∙ ap not (g y h (under y (inside-parts J y.name e) b.0 b.1))

  -- of a walk that finds nothing all is still, and of one that finds something at most a level of instances isn't
  at-most : (k : ℕ) (I : JobName) → is_open past I ≡ true → In I (instances m) → ((y : Job) → In y m.jobs → length y.name ≤ length I + k) → tally (λ J. not (still J)) (entered k I) ≤ k
  at-most zero I o i b = omega arith
  at-most (suc k) I o i b = one (not (still I)) (tally (λ J. not (still J)) (among k (held I))) k (rest (held I) ((are I o).of_instance) (λ j h e. at-most k j.name (second_so (is_some j.opens) (is_open past j.name) e) (opener-in j ((are I o).of_instance j h).0 e) (shorter j ((are I o).of_instance j h))))
    where
      one : (c : Bool) (a k : ℕ) → a ≤ k → bit c + a ≤ suc k
      one true a k h = omega (arith, h)
      one false a k h = omega (arith, h)

      shorter : (j : Job) → In j m.jobs × (j.instance ≡ I) → (y : Job) → In y m.jobs → length y.name ≤ length j.name + k
      shorter j g y h = omega (arith, ap (λ (l : JobName). length l) ((w.jobs j g.0).named ∙ ap (λ n. n ++ (w.jobs j g.0).key ∷ []) g.1) ∙ length-append I ((w.jobs j g.0).key ∷ []), b y h)

      rest : (js : List Job) → ((j : Job) → In j js → In j m.jobs × (j.instance ≡ I)) → ((j : Job) → In j js → into j ≡ true → tally (λ J. not (still J)) (entered k j.name) ≤ k) → tally (λ J. not (still J)) (among k js) ≤ k
      rest [] of g = omega arith
      rest (j ∷ js) of g = by (into j) refl (rest js (λ z h. of z (inr h)) (λ z h. g z (inr h)))
        where
          least : (n : ℕ) → 0 ≤ n
          least n = omega arith

          stop : (c : Bool) → tally (λ J. not (still J)) (among k js) ≤ k → tally (λ J. not (still J)) (if c then [] else among k js) ≤ k
          stop true h = least k
          stop false h = h

          all-still : into j ≡ true → FirstOf gives AnyNumber m w past legal (any-laid gives d) (any-first gives d) goes (λ z i h. going-open gives AnyNumber m w past legal z i (goes-going gives d past legal z h)) (shut gives d past legal goes (goes-going gives d past legal)) held are (Under gives AnyNumber m w past legal (any-laid gives d) (any-first gives d) goes (λ z i h. going-open gives AnyNumber m w past legal z i (goes-going gives d past legal z h)) (shut gives d past legal goes (goes-going gives d past legal)) held are j.name) None → tally (λ J. not (still J)) (entered k j.name) ≡ 0
          all-still e h =
              tally-none (λ J. not (still J)) (entered k j.name) (λ J u. ap not (still-below j.name J (facts k j.name (second_so (is_some j.opens) (is_open past j.name) e) (opener-in j (of j (inl refl)).0 e) J u).0 (λ y i p. h y i p)))

          inner : into j ≡ true → (t : Option Job) → first_of k j.name ≡ t → tally (λ J. not (still J)) (among k js) ≤ k → tally (λ J. not (still J)) (entered k j.name) + tally (λ J. not (still J)) (if is_some t then [] else among k js) ≤ k
          inner e (Some x) q h = omega (arith, g j (inl refl) e)
          inner e None q h =
              omega (
                arith,
                all-still e (subst (λ t. FirstOf gives AnyNumber m w past legal (any-laid gives d) (any-first gives d) goes (λ z i h. going-open gives AnyNumber m w past legal z i (goes-going gives d past legal z h)) (shut gives d past legal goes (goes-going gives d past legal)) held are (Under gives AnyNumber m w past legal (any-laid gives d) (any-first gives d) goes (λ z i h. going-open gives AnyNumber m w past legal z i (goes-going gives d past legal z h)) (shut gives d past legal goes (goes-going gives d past legal)) held are j.name) t) q
                    (walked gives AnyNumber m w past legal (any-laid gives d) (any-first gives d) goes (λ z i h. going-open gives AnyNumber m w past legal z i (goes-going gives d past legal z h)) (shut gives d past legal goes (goes-going gives d past legal)) held are k j.name (second_so (is_some j.opens) (is_open past j.name) e) (shorter j (of j (inl refl))))),
                h,
              )

          by : (c : Bool) → into j ≡ c → tally (λ J. not (still J)) (among k js) ≤ k → tally (λ J. not (still J)) (if c then entered k j.name ++ (if is_some (first_of k j.name) then [] else among k js) else (if goes j then [] else among k js)) ≤ k
          by false e h = stop (goes j) h
          by true e h = subst (λ n. n ≤ k) (sym (tally-append (λ J. not (still J)) (entered k j.name) (if is_some (first_of k j.name) then [] else among k js))) (inner e (first_of k j.name) refl h)

  -- from the main instance the walk enters at most eight instances, and eight for each try that is out
  pub few-entered : is_open past [] ≡ true → length (entered_in held (has_open_instance past) (λ j. is_offered m past j || can_open m past j) nesting_limit []) ≤ nesting_limit * suc (count_by (λ k. is_out past k.name) m.jobs)
  few-entered o =
      omega (arith, halves still (entered nesting_limit []), stills, at-most nesting_limit [] o (inl refl) (λ y h. (omega (arith, name-length gives d y h))))
    where
      stills : tally still (entered nesting_limit []) ≤ nesting_limit * count_by (λ k. is_out past k.name) m.jobs
      stills =
          subst (λ n. n ≤ nesting_limit * count_by (λ k. is_out past k.name) m.jobs) (filter-tally still (entered nesting_limit []))
          (few-still gives d f past legal quiet (filter still (entered nesting_limit [])) (apart-filter (λ J. J) still (entered nesting_limit []) (apart nesting_limit [] o (inl refl)))
          (λ J h. let u = of-filter still J (entered nesting_limit []) h in
          let x = facts nesting_limit [] o (inl refl) J u.0 in
          (x.1, x.2, λ k i e. fails (is_inside J k.name) (goes k) e (of-all (λ (y : Job). not (is_inside J y.name && goes y)) m.jobs u.1 k i))))
        where
          fails : (a b : Bool) → a ≡ true → not (a && b) ≡ true → b ≡ false
          fails true b e h = not-true b h
          fails false b e h = absurd (true≠false (sym e))
