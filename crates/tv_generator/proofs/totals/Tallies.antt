-- Totals as sums over what each job adds.
use Rattle.std.specs.Prelude.{Bool, List, [], cond, filter, flat_map, false, length, refl, suc, true, ℕ, ◌+◌, ◌++◌, ◌∷◌, ◌≡◌}
use Rattle.std.proofs.Common.{ap, arith, length-append, ◌∙◌}
use Rattle.tv_model.specs.Jobs.{Ending, Job}
use Rattle.tv_model.specs.Totals.{Totals, totals}
use Rattle.tv_model.specs.Turns.{is_bounced, is_failed}

-- what a job adds: its attempts and how it ends
abbrev pub Mark : Type 0
Mark = ℕ × Ending

abbrev pub mark : Job → List Mark
mark j = (length j.asks, j.ending) ∷ []

abbrev pub plus : Totals → Totals → Totals
plus t u = record { attempts = t.attempts + u.attempts; bounced = t.bounced + u.bounced; failed = t.failed + u.failed; jobs = t.jobs + u.jobs }

abbrev pub one : Mark → Totals
one m = record { attempts = m.0; bounced = cond (is_bounced m.1) 1 0; failed = cond (is_failed m.1) 1 0; jobs = 1 }

abbrev pub tally : List Mark → Totals
tally [] = record { attempts = 0; bounced = 0; failed = 0; jobs = 0 }
tally (m ∷ ms) = plus (one m) (tally ms)

counted : {A : Type 0} (b : Bool) (x : A) (xs : List A) → length (cond b (x ∷ xs) xs) ≡ cond b 1 0 + length xs
counted true x xs = omega arith
counted false x xs = omega arith

pub totals-tally : (js : List Job) → totals js ≡ tally (flat_map mark js)
totals-tally [] = refl
totals-tally (j ∷ js) =
    (λ i. record {
      attempts = length-append j.asks (flat_map (λ (k : Job). k.asks) js) i;
      bounced = counted (is_bounced j.ending) j (filter (λ (k : Job). is_bounced k.ending) js) i;
      failed = counted (is_failed j.ending) j (filter (λ (k : Job). is_failed k.ending) js) i;
      jobs = more (length js) i;
    })
    ∙ ap (plus (one (length j.asks, j.ending))) (totals-tally js)
  where
    more : (n : ℕ) → suc n ≡ 1 + n
    more n = omega arith

pub tally-append : (ms ns : List Mark) → tally (ms ++ ns) ≡ plus (tally ms) (tally ns)
tally-append [] ns = λ i. record { attempts = none (tally ns).attempts i; bounced = none (tally ns).bounced i; failed = none (tally ns).failed i; jobs = none (tally ns).jobs i }
  where
    none : (a : ℕ) → a ≡ 0 + a
    none a = omega arith
tally-append (m ∷ ms) ns = ap (plus (one m)) (tally-append ms ns) ∙ assoc (one m) (tally ms) (tally ns)
  where
    assoc : (t u w : Totals) → plus t (plus u w) ≡ plus (plus t u) w
    assoc t u w = λ i. record {
      attempts = add t.attempts u.attempts w.attempts i;
      bounced = add t.bounced u.bounced w.bounced i;
      failed = add t.failed u.failed w.failed i;
      jobs = add t.jobs u.jobs w.jobs i;
    }
      where
        add : (a b c : ℕ) → a + (b + c) ≡ (a + b) + c
        add a b c = omega arith
