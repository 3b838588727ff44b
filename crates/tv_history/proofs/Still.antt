-- Where nothing can be settled, an open instance has a job inside it that goes on, or a try out inside. So few open instances have neither.
use Rattle.std.specs.Prelude.{◌≡◌, refl, ◌+◌, ◌*◌, ◌≤◌, List, [], ◌∷◌, ◌++◌, length, Bool, true, false, ◌&&◌, ◌||◌, count_by}
use Rattle.std.proofs.Common.{arith, sym, ap, subst, ◌∙◌, length-append}
use Rattle.std.proofs.lemmas.Bool.{and_right}
use Rattle.std.specs.Cmp.{first_so, second_so}
use Rattle.tv_lemmas.specs.Members.{In}
use Rattle.tv_value.specs.Nested.{Place}
use Rattle.tv_value.specs.Values.{JobName, Name}
use Rattle.tv_flow.specs.Flows.{Document}
use Rattle.tv_gate.specs.Outcomes.{Giving}
use Rattle.tv_model.specs.Jobs.{Job}
use Rattle.tv_model.specs.Made.{Meaning}
use Rattle.tv_model.specs.Meanings.{meaning, nesting_limit}
use Rattle.tv_history.specs.Entries.{History, is_out}
use Rattle.tv_model.specs.Levels.{levels}
use Rattle.tv_history.specs.Histories.{is_open, is_offered, can_open, instances, can_settle_more, is_legal}
use Rattle.tv_model.proofs.Tests.{true≠false, both_true}
use Rattle.tv_history.proofs.Ready.{meaning-whole}
use Rattle.tv_history.proofs.Stuck as stuck
use Rattle.tv_history.proofs.Stuck.{AtLeastOne}
use Rattle.tv_history.specs.Going.{IsWellFormed}
use Rattle.tv_history.proofs.Counts.{count-tally, tally, total}
use Rattle.tv_history.specs.order.Chains.{is_inside}
use Rattle.tv_model.specs.JobOrder.{Apart, same_spot}
use Rattle.tv_history.proofs.Strict.{same-spots, spot-itself}
use Rattle.tv_history.proofs.Tallies.{few-by, tally-below, tally-none}
use Rattle.tv_history.proofs.Documents.{name-length}

-- ---- how many

pub inside-of : (J : JobName) (c : Name × Place) (r : JobName) → is_inside J (J ++ c ∷ r) ≡ true
inside-of [] c r = refl
inside-of (x ∷ J) c r = both_true (same_spot x x) (is_inside J (J ++ c ∷ r)) (spot-itself x) (inside-of J c r)

pub inside-parts : (J n : JobName) → is_inside J n ≡ true → (c : Name × Place) × (r : JobName) × (n ≡ J ++ c ∷ r)
inside-parts [] [] h = absurd (true≠false (sym h))
inside-parts [] (c ∷ n) h = (c, n, refl)
inside-parts (x ∷ J) [] h = absurd (true≠false (sym h))
inside-parts (x ∷ J) (y ∷ n) h =
    let p = inside-parts J n (second_so (same_spot x y) (is_inside J n) h) in
    let e = same-spots x y (first_so (same_spot x y) (is_inside J n) h) in (p.0, p.1, λ i. sym e i ∷ p.2 i)

-- first parts of one name that are as long are the same
same-part : (J K n : JobName) → is_inside J n ≡ true → is_inside K n ≡ true → length J ≡ length K → J ≡ K
same-part [] [] n h k e = refl
same-part [] (y ∷ K) n h k e = absurd (omega (arith, e))
same-part (x ∷ J) [] n h k e = absurd (omega (arith, e))
same-part (x ∷ J) (y ∷ K) [] h k e = absurd (true≠false (sym h))
same-part (x ∷ J) (y ∷ K) (z ∷ n) h k e =
    let p = same-spots x z (first_so (same_spot x z) (is_inside J n) h) in
    let q = same-spots y z (first_so (same_spot y z) (is_inside K n) k) in
    let r = same-part J K n (second_so (same_spot x z) (is_inside J n) h) (second_so (same_spot y z) (is_inside K n) k) (omega (arith, e)) in
    λ i. (p ∙ sym q) i ∷ r i

module _ (gives : Giving) (d : Document) (f : IsWellFormed d) (past : History) (legal : is_legal gives (meaning gives d) past ≡ true) (quiet : can_settle_more (meaning gives d) past ≡ false) where
  abbrev m : Meaning
  m = meaning gives d

  -- an open instance has a job inside it that goes on, or a try out inside
  pub open-busy : (J : JobName) → is_open past J ≡ true → In J (instances m) → (k : Job) × In k m.jobs × ((c : Name × Place) × (r : JobName) × (k.name ≡ J ++ c ∷ r)) × ((is_offered m past k || can_open m past k || is_out past k.name) ≡ true)
  open-busy J o i = stuck.open-busy gives m (meaning-whole gives AtLeastOne d f.places) past legal quiet J o i

  -- nothing inside goes on
  abbrev pub IsStill : JobName → Type 0
  IsStill J = (k : Job) → In k m.jobs → is_inside J k.name ≡ true → (is_offered m past k || can_open m past k) ≡ false

  still-out : (J : JobName) → is_open past J ≡ true → In J (instances m) → IsStill J → (k : Job) × In k m.jobs × ((is_inside J k.name && is_out past k.name) ≡ true)
  still-out J o i s =
      let g = open-busy J o i in
      let a = subst (λ n. is_inside J n ≡ true) (sym g.2.2) (inside-of J g.2.0 g.2.1) in
      (g.0, g.1, both_true (is_inside J g.0.name) (is_out past g.0.name) a (by (is_offered m past g.0 || can_open m past g.0) (is_out past g.0.name) (s g.0 g.1 a) g.3))
    where
      by : (b c : Bool) → b ≡ false → (b || c) ≡ true → c ≡ true
      by true c e h = absurd (true≠false e)
      by false c e h = h

  -- the open instances in which nothing goes on are at most as many as tries are out, times the levels
  pub few-still : (Js : List JobName) → Apart (λ J. J) Js → ((J : JobName) → In J Js → (is_open past J ≡ true) × In J (instances m) × IsStill J) → length Js ≤ nesting_limit * count_by (λ k. is_out past k.name) m.jobs
  few-still Js a are =
      omega (arith, ones Js, few-by (λ J k. is_inside J k.name && is_out past k.name) (λ k. is_out past k.name) nesting_limit Js m.jobs (λ J h. let r = are J h in still-out J r.0 r.1 r.2) (λ k h. (most k h, none k)), ap (λ n. nesting_limit * n) (sym (count-tally (λ k. is_out past k.name) m.jobs)))
    where
      ones : (Ks : List JobName) → length Ks ≡ total (λ J. 1) Ks
      ones [] = refl
      ones (K ∷ Ks) = omega (arith, ones Ks)

      most : (k : Job) → In k m.jobs → tally (λ J. is_inside J k.name && is_out past k.name) Js ≤ nesting_limit
      most k h =
          tally-below (λ J. J) (λ J. is_inside J k.name && is_out past k.name) (λ (J : JobName). length J) Js a
          (λ J K i j p q e. same-part J K k.name (first_so (is_inside J k.name) (is_out past k.name) p) (first_so (is_inside K k.name) (is_out past k.name) q) e) nesting_limit
          (λ J i p. let r = inside-parts J k.name (first_so (is_inside J k.name) (is_out past k.name) p) in (omega (arith, ap (λ (l : JobName). length l) r.2 ∙ length-append J (r.0 ∷ r.1), name-length gives d k h)))

      none : (k : Job) → is_out past k.name ≡ false → tally (λ J. is_inside J k.name && is_out past k.name) Js ≡ 0
      none k e = tally-none (λ J. is_inside J k.name && is_out past k.name) Js (λ J h. and_right (is_inside J k.name) (is_out past k.name) e)
