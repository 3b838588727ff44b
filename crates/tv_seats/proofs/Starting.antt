-- Steps of which no job is known.
use Rattle.std.specs.Prelude.{◌≡◌, ℕ, zero, suc, ◌+◌, ◌<◌, ◌≤◌, ◌++◌, Bool, List, [], ◌∷◌, Some, length, slice_get, slice_set, take, refl}
use Rattle.std.proofs.Common.{arith, ap, subst, sym, ◌∙◌, length-append, length-set, take_all}
use Rattle.std.proofs.lemmas.List.{take_more_set}
use Rattle.tv_seats.specs.declared.stage.Stage.{Stage}
use Rattle.tv_seats.specs.declared.steps.StepSeats.{StepSeats}
use Rattle.tv_seats.specs.Kept.{AreJobsAt, AreKept, all_levels}
use Rattle.tv_seats.specs.Starts.{AreEmpty, AreEmptySteps, AreWithin, EmptiesStep, IsEmptyStep}
use Rattle.tv_seats.specs.Stages.{is_aside, is_idle, is_nested}
use Rattle.tv_seats.specs.Tables.{Rows}

-- the places of a step have its indices
pub empty-own : (l : ℕ) (x : StepSeats) → IsEmptyStep l x → IsEmptyStep x.idle.levels x
empty-own l x e =
    record {
      idle = e.idle;
      levels_are = refl;
      aside = e.aside;
      aside_levels = e.aside_levels ∙ sym e.levels_are;
      nested = e.nested;
      room = e.room;
      running = e.running;
      out = e.out;
    }

pub fresh-more : (xs : List StepSeats) (x : StepSeats) → AreEmpty xs → IsEmptyStep x.idle.levels x → AreEmpty (xs ++ x ∷ [])
fresh-more [] x f g = (g, tt)
fresh-more (y ∷ xs) x f g = (f.0, fresh-more xs x f.1 g)

fresh-at : (xs : List StepSeats) (k : ℕ) (x : StepSeats) → AreEmpty xs → slice_get xs k ≡ Some x → IsEmptyStep x.idle.levels x
fresh-at [] k x f e = cc
fresh-at (y ∷ xs) zero x f e = let same : y ≡ x = cc in subst (λ (z : StepSeats). IsEmptyStep z.idle.levels z) same f.0
fresh-at (y ∷ xs) (suc k) x f e = fresh-at xs k x f.1 e

pub levels-more : (xs : List StepSeats) (x : StepSeats) → all_levels (xs ++ x ∷ []) ≡ all_levels xs ++ x.idle.levels ∷ []
levels-more [] x = refl
levels-more (y ∷ xs) x = ap (λ l. y.idle.levels ∷ l) (levels-more xs x)

pub within-more : (ls : List ℕ) (l w v : ℕ) → AreWithin ls w → w ≤ v → l ≤ v → AreWithin (ls ++ l ∷ []) v
within-more [] l w v a b c zero = c
within-more [] l w v a b c (suc k) = omega arith
within-more (m ∷ ls) l w v a b c zero = let h = a 0 in omega (arith, h, b)
within-more (m ∷ ls) l w v a b c (suc k) = within-more ls l w v (λ k. a (suc k)) b c k

pub kept-at-start : (t : Rows) (steps : List StepSeats) → t.seats ≡ [] → t.room ≡ 0 → AreEmpty steps → AreWithin (all_levels steps) t.widest → AreKept t steps 0
kept-at-start t steps seats room fresh wide =
    subst (λ (u : Rows). AreKept u steps 0) (sym same)
    (record {
      each = λ k x e.
          let f = fresh-at steps k x fresh e in
          record {
            idle = subst (AreJobsAt is_idle [] k) (sym f.idle) (none is_idle k);
            aside = subst (AreJobsAt is_aside [] k) (sym f.aside) (none is_aside k);
            nested = record { jobs = []; numbers = f.nested; are = none is_nested k };
            levels = f.aside_levels;
            room = let a = ap length f.nested in let b = f.room in omega (arith, a, b);
            running = f.running;
            out = f.out;
          };
      of_steps = λ n s e. cc;
      apart = λ n m s u e. cc;
      wide = wide;
      outs = refl;
      numbers = let r = room in omega (arith, r);
    })
  where
    none : (p : Stage → Bool) (k : ℕ) → AreJobsAt p [] k []
    none p k = record { in_order = refl; each = λ j o. absurd o; all = λ j i. let bad = i.1.there in cc }

    same : t ≡ record { seats = []; widest = t.widest; room = t.room }
    same = ap (λ ss. record { seats = ss; widest = t.widest; room = t.room }) seats

-- a step put where one stands, and one put behind all
pub set-empties : (n levels : ℕ) (xs : List StepSeats) (x : StepSeats) → IsEmptyStep levels x → n < length xs → EmptiesStep n levels xs (slice_set xs n x)
set-empties n levels xs x e lt =
    let same = length-set {A = StepSeats} xs n x in
    record {
      step = x;
      empty = e;
      front = take_more_set xs n x lt;
      there = omega (arith, same, lt);
      no_more = λ m h k. omega (arith, same, h);
    }

pub end-empties : (n levels : ℕ) (xs : List StepSeats) (x : StepSeats) → IsEmptyStep levels x → n ≡ length xs → EmptiesStep n levels xs (xs ++ x ∷ [])
end-empties n levels xs x e at =
    let more : length (xs ++ x ∷ []) ≡ length xs + 1 = length-append xs (x ∷ []) in
    record {
      step = x;
      empty = e;
      front =
          take_all (n + 1) (xs ++ x ∷ []) (omega (arith, more, at))
          ∙ ap (λ l. l ++ x ∷ []) (sym (take_all n xs (omega (arith, at))));
      there = omega (arith, more, at);
      no_more = λ m h k. omega (arith, more, at, k);
    }

-- so many steps in front are empty, with these indices, and there may be more
pub record HasEmptyFront (n widest : ℕ) (levels : List ℕ) (xs : List StepSeats) : Type 0 where
  pub levels_are : all_levels (take n xs) ≡ take n levels
  pub each : AreEmpty (take n xs)
  pub within : AreWithin (all_levels (take n xs)) widest
  pub long : n ≤ length xs
  pub short : length xs ≤ length levels

pub front-more : (n w v l : ℕ) (levels : List ℕ) (xs ys : List StepSeats) → HasEmptyFront n w levels xs → EmptiesStep n l xs ys → n < length levels → take n levels ++ l ∷ [] ≡ take (n + 1) levels → w ≤ v → l ≤ v → HasEmptyFront (n + 1) v levels ys
front-more n w v l levels xs ys h e low take_l wide own =
    let x = e.step in
    let more = ap all_levels e.front ∙ levels-more (take n xs) x in
    let there = e.there in
    let short = h.short in
    record {
      levels_are =
          more
          ∙ ap (λ ls. ls ++ x.idle.levels ∷ []) h.levels_are
          ∙ ap (λ m. take n levels ++ m ∷ []) e.empty.levels_are
          ∙ take_l;
      each = subst AreEmpty (sym e.front) (fresh-more (take n xs) x h.each (empty-own _ x e.empty));
      within =
          subst (λ ls. AreWithin ls v) (sym more)
          (within-more (all_levels (take n xs)) x.idle.levels w v h.within wide
          (let s = e.empty.levels_are in omega (arith, s, own)));
      long = omega (arith, there);
      short = e.no_more (length levels) short low;
    }

pub front-whole : (n w : ℕ) (levels : List ℕ) (xs : List StepSeats) → HasEmptyFront n w levels xs → length levels ≤ n → AreEmptySteps levels w xs
front-whole n w levels xs h all =
    let long = h.long in
    let short = h.short in
    let whole : take n xs ≡ xs = take_all n xs (omega (arith, long, short, all)) in
    record {
      levels_are = ap all_levels (sym whole) ∙ h.levels_are ∙ take_all n levels all;
      each = subst AreEmpty whole h.each;
      within = subst (λ ys. AreWithin (all_levels ys) w) whole h.within;
    }
