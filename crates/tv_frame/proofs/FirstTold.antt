-- A step that is told what is known at the start.
use Rattle.std.specs.Option.{option_map_or}
use Rattle.std.specs.Prelude.{◌≡◌, refl, ℕ, suc, ◌+◌, ◌<◌, ◌==◌, Bool, true, false, List, [], ◌∷◌, ◌++◌, IsPermutation, drop, if◌then◌else◌, length, map, Option, Some, None, slice_get}
use Rattle.std.proofs.Common.{arith, sym, ap, subst, ◌∙◌, eq-eqb, eqb-true, ne_of_lt}
use Rattle.std.proofs.lemmas.List.Sorted.{IsPermutation-append}
use Rattle.std.proofs.lemmas.List.{map-append}
use Rattle.tv_value.specs.Nested.{Place}
use Rattle.tv_value.specs.Values.{Name}
use Rattle.tv_flow.specs.Flows.{Flow, Step}
use Rattle.tv_strategy.specs.Conditions.{number_of}
use Rattle.tv_model.specs.instance.Steps.{strategy_of}
use Rattle.tv_matching.specs.Matchers.{CanTellAll, Matching}
use Rattle.tv_matching.specs.Told.{IsFit, IsNew, Told, faulty_at}
use Rattle.tv_match.specs.declared.told.Told as code
use Rattle.tv_match.specs.declared.matchers.Matcher.{Matcher}
use Rattle.tv_match.specs.Seen.{in_order, matching, told_view}
use Rattle.tv_intake.specs.declared.intakes.Intakes.{Intakes}
use Rattle.tv_intake.specs.Intaken.{AreIntaken, CanHold, CanShow, HoldsThese, IsMadeAt, OthersStay, brought_at, followed_at, known_jobs, matcher_at, waiting_things}
use Rattle.tv_intake.specs.Sorting.{brought, job_places, others_among}
use Rattle.tv_intake.proofs.IntakeLemmas.{ahead-parts}
use Rattle.tv_idle.specs.Idles.{Idles, of_step}
use Rattle.tv_spread.specs.Spreads.{MakeAll, faulty_now_at, is_faulty_now, new_places, with_all_new}
use Rattle.tv_spread.proofs.AddingLemmas.{all-many}
use Rattle.tv_spread.proofs.Showing.{Shows, new-there}
use Rattle.tv_frame.specs.Started.{HasBegun, HaveBegun, but_at}
use Rattle.tv_frame.proofs.Added.{all-levels}
use Rattle.tv_frame.proofs.Flags.{flag-kept}
use Rattle.tv_frame.proofs.Beginning.{HasSameJobs, added-idle, jobs_at, lists-more, others-both, own-steps, places-both, range-next, things_at}

can-tell-same : (m n : Matching) (ts : List Told) → n.mismatch ≡ m.mismatch → n.told ≡ m.told → CanTellAll m ts → CanTellAll n ts
can-tell-same m n [] e t h = tt
can-tell-same m n (x ∷ ts) e t h = (
  (subst (λ mm. IsFit (number_of mm) x) (sym e) h.0.0, subst (λ l. IsNew l x) (sym t) h.0.1),
  can-tell-same (record m { told = m.told ++ x ∷ [] }) (record n { told = n.told ++ x ∷ [] }) ts e (ap (λ l. l ++ x ∷ []) t) h.1,
)

-- what is held can be told
pub can-show : (o p : Option Matcher) (ts : List code.Told) → CanHold o ts → HoldsThese ts o p → CanShow p
can-show None p ts c h = absurd c
can-show (Some m) None ts c h = absurd h
can-show (Some m) (Some n) ts c h = subst (CanTellAll (matching n)) (sym h.0.held_is) (can-tell-same (matching m) (matching n) (map (told_view (matching m).strategy) ts) h.0.mismatch_is h.0.told_is c.1)

held-flag : (o p : Option Matcher) (ts : List code.Told) → HoldsThese ts o p → (q : Place) → faulty_now_at p q ≡ faulty_now_at o q
held-flag None p ts h q = absurd h
held-flag (Some m) None ts h q = absurd h
held-flag (Some m) (Some n) ts h q = λ i. faulty_at (h.0.strategy_is i) (h.0.told_is i) q

held-follows : (o p : Option Matcher) (ts : List code.Told) → HoldsThese ts o p → option_map_or in_order p [] ≡ option_map_or in_order o []
held-follows None p ts h = absurd h
held-follows (Some m) None ts h = absurd h
held-follows (Some m) (Some n) ts h = h.1

made-follows : (o p : Option Matcher) → IsMadeAt o p → option_map_or in_order p [] ≡ option_map_or in_order o [] ++ option_map_or brought o []
made-follows None p m = absurd m
made-follows (Some o) None m = absurd m
made-follows (Some o) (Some p) m = m.follows ∙ sym (ahead-parts o)

-- told nothing before, the matcher was told this
made-told : (f : Flow) (s : Step) (more : List Told) (ts : List code.Told) (o p q : Option Matcher) → HasBegun f s [] o → HoldsThese ts o p → IsMadeAt p q → IsPermutation (map (told_view (strategy_of s)) ts) more → HasBegun f s more q
made-told f s more ts None p q b h m t = absurd b
made-told f s more ts (Some o) None q b h m t = absurd h
made-told f s more ts (Some o) (Some p) None b h m t = absurd m
made-told f s more ts (Some o) (Some p) (Some q) b h m t =
    let views : (matching p).held ≡ map (told_view (strategy_of s)) ts = h.0.held_is ∙ ap (λ u. map (told_view u) ts) b.strategy_is in
    let all : (matching q).told ≡ (matching o).told ++ map (told_view (strategy_of s)) ts = m.told ∙ ap (λ l. l ++ (matching p).held) h.0.told_is ∙ ap (λ l. (matching o).told ++ l) views in
    record {
      strategy_is = m.strategy ∙ h.0.strategy_is ∙ b.strategy_is;
      mismatch_is = m.mismatch ∙ h.0.mismatch_is ∙ b.mismatch_is;
      told = subst (λ l. IsPermutation l more) (sym all) (IsPermutation-append (matching o).told [] (map (told_view (strategy_of s)) ts) more b.told t);
      held = m.held;
    }

module _ (f : Flow) (tells : ℕ → Step → List Told) (count : ℕ) (i r k : Intakes) (idle mid : Idles) (s : Name × Step) (ts : List code.Told) (h : HaveBegun f (but_at count tells) (count + 1) i idle) (at : slice_get f.steps count ≡ Some s) (can : CanHold (matcher_at i count) ts) (holds : HoldsThese ts (matcher_at i count) (matcher_at r count)) (others : OthersStay count i r) (jobs_same : known_jobs r ≡ known_jobs i) (waiting_same : waiting_things r ≡ waiting_things i) (intaken : AreIntaken r) (shows : Shows count r k) (told : IsPermutation (map (told_view (strategy_of s.1)) ts) (tells count s.1)) (same : HasSameJobs idle mid) (many : length mid.steps ≡ length idle.steps) (levels : (n : ℕ) → (of_step mid.steps n).levels ≡ (of_step idle.steps n).levels) where
  own : (t : Name × Step) (n : ℕ) → slice_get f.steps n ≡ Some t → n ≡ count → t ≡ s
  own t n e is = let g : Some t ≡ Some s = sym e ∙ ap (slice_get f.steps) is ∙ at in cc

  made : MakeAll (count ∷ []) r k
  made = record { made = (shows.made, tt); others = λ c ne. shows.others c (λ e. ne.0 (sym e)) }

  not-same : (b : Bool) → b ≡ false → b ≡ true → ⊥
  not-same b p q = cc

  other : (n : ℕ) → (n == count) ≡ false → n ≡ count → ⊥
  other n g is = not-same (n == count) g (eq-eqb n count is)

  flags : (p n : ℕ) (q : Place) → slice_get (known_jobs i) p ≡ Some (n, q) → is_faulty_now k (n, q) ≡ is_faulty_now i (n, q)
  flags p n q e =
      flag-kept (count ∷ []) r k made intaken (can-show (matcher_at i count) (matcher_at r count) ts can holds, tt) p n q (ap (λ l. slice_get l p) jobs_same ∙ e) ∙ by (n == count) refl
    where
      by : (b : Bool) → (n == count) ≡ b → faulty_now_at (matcher_at r n) q ≡ faulty_now_at (matcher_at i n) q
      by true g = let is : n ≡ count = eqb-true n count g in subst (λ m. faulty_now_at (matcher_at r m) q ≡ faulty_now_at (matcher_at i m) q) (sym is) (held-flag (matcher_at i count) (matcher_at r count) ts holds q)
      by false g = ap (λ o. faulty_now_at o q) (others n (other n g))

  followed-before : (n : ℕ) → n < count → followed_at i n ≡ followed_at k n
  followed-before n lt = ap (λ m. option_map_or in_order m []) (sym (shows.others n (ne_of_lt {a = n} {b = count} lt) ∙ others n (ne_of_lt {a = n} {b = count} lt)))

  followed-last : followed_at k count ≡ followed_at i count ++ brought_at r count
  followed-last = made-follows (matcher_at r count) (matcher_at k count) shows.made ∙ ap (λ l. l ++ brought_at r count) (held-follows (matcher_at i count) (matcher_at r count) ts holds)

  jobs-last : jobs_at k count ≡ jobs_at i count ++ map (λ q. (count, q)) (new_places r count)
  jobs-last =
      ap (λ os. map (λ q. (count, q)) (job_places os)) followed-last ∙ ap (map (λ q. (count, q))) (places-both (followed_at i count) (brought_at r count))
      ∙ map-append (λ q. (count, q)) (job_places (followed_at i count)) (job_places (brought_at r count))

  things-last : things_at k count ≡ things_at i count ++ map (λ o. (count, o)) (others_among (brought_at r count))
  things-last =
      ap (λ os. map (λ o. (count, o)) (others_among os)) followed-last ∙ ap (map (λ o. (count, o))) (others-both (followed_at i count) (brought_at r count))
      ∙ map-append (λ o. (count, o)) (others_among (followed_at i count)) (others_among (brought_at r count))

  matchers : (n : ℕ) (t : Name × Step) → n < count + 1 → slice_get f.steps n ≡ Some t → HasBegun f t.1 (tells n t.1) (matcher_at k n)
  matchers n t low e = by (n == count) refl (h.matchers n t low e)
    where
      by : (b : Bool) → (n == count) ≡ b → HasBegun f t.1 (if b then [] else tells n t.1) (matcher_at i n) → HasBegun f t.1 (tells n t.1) (matcher_at k n)
      by true g w =
          let is : n ≡ count = eqb-true n count g in
          subst (λ m. HasBegun f t.1 (tells m t.1) (matcher_at k m)) (sym is)
          (made-told f t.1 (tells count t.1) ts (matcher_at i count) (matcher_at r count) (matcher_at k count) (subst (λ m. HasBegun f t.1 [] (matcher_at i m)) is w) holds shows.made
          (subst (λ (u : Name × Step). IsPermutation (map (told_view (strategy_of u.1)) ts) (tells count u.1)) (sym (own t n e is)) told))
      by false g w = subst (HasBegun f t.1 (tells n t.1)) (sym (shows.others n (other n g) ∙ others n (other n g))) w

  same-many : (xs ys : List Matcher) → ((n : ℕ) → slice_get xs n ≡ None → slice_get ys n ≡ None) → ((n : ℕ) → slice_get ys n ≡ None → slice_get xs n ≡ None) → length ys ≡ length xs
  same-many [] [] a b = refl
  same-many [] (y ∷ ys) a b = let e : slice_get (y ∷ ys) 0 ≡ None = a 0 refl in cc
  same-many (x ∷ xs) [] a b = let e : slice_get (x ∷ xs) 0 ≡ None = b 0 refl in cc
  same-many (x ∷ xs) (y ∷ ys) a b = ap suc (same-many xs ys (λ n e. a (suc n) e) (λ n e. b (suc n) e))

  none-on : (o p q : Option Matcher) → HoldsThese ts o p → IsMadeAt p q → o ≡ None → q ≡ None
  none-on None p q a b e = absurd a
  none-on (Some m) p q a b e = cc

  none-back : (o p q : Option Matcher) → HoldsThese ts o p → IsMadeAt p q → q ≡ None → o ≡ None
  none-back None p q a b e = refl
  none-back (Some m) None q a b e = absurd a
  none-back (Some m) (Some n) None a b e = absurd b
  none-back (Some m) (Some n) (Some q) a b e = cc

  as-many : length k.matchers.items ≡ length i.matchers.items
  as-many = same-many i.matchers.items k.matchers.items (λ n e. on n e (n == count) refl) (λ n e. back n e (n == count) refl)
    where
      on : (n : ℕ) → matcher_at i n ≡ None → (b : Bool) → (n == count) ≡ b → matcher_at k n ≡ None
      on n e true g = let is : n ≡ count = eqb-true n count g in ap (matcher_at k) is ∙ none-on (matcher_at i count) (matcher_at r count) (matcher_at k count) holds shows.made (ap (matcher_at i) (sym is) ∙ e)
      on n e false g = shows.others n (other n g) ∙ others n (other n g) ∙ e

      back : (n : ℕ) → matcher_at k n ≡ None → (b : Bool) → (n == count) ≡ b → matcher_at i n ≡ None
      back n e true g = let is : n ≡ count = eqb-true n count g in ap (matcher_at i) is ∙ none-back (matcher_at i count) (matcher_at r count) (matcher_at k count) holds shows.made (ap (matcher_at k) (sym is) ∙ e)
      back n e false g = sym (shows.others n (other n g) ∙ others n (other n g)) ∙ e

  pub step-told : (now : Idles) → now ≡ with_all_new (is_faulty_now k) (drop (length (known_jobs r)) (known_jobs k)) mid → HaveBegun f tells (count + 1) k now
  step-told now is = subst (HaveBegun f tells (count + 1) k) (sym (is ∙ ap (λ l. with_all_new (is_faulty_now k) l mid) (new-there count r k shows))) begun
    where
      lt : count < length mid.steps
      lt = let m = many in let n = h.steps in omega (arith, m, n)

      more : known_jobs k ≡ known_jobs i ++ map (λ q. (count, q)) (new_places r count)
      more = shows.jobs ∙ ap (λ l. l ++ map (λ q. (count, q)) (new_places r count)) jobs_same

      begun : HaveBegun f tells (count + 1) k (with_all_new (is_faulty_now k) (map (λ q. (count, q)) (new_places r count)) mid)
      begun = record {
        intaken = shows.intaken;
        as_many = as-many ∙ h.as_many;
        matchers = matchers;
        jobs_are =
            lists-more (jobs_at i) (jobs_at k) count (known_jobs i) (jobs_at i count) (map (λ q. (count, q)) (new_places r count)) (known_jobs k) (h.jobs_are ∙ range-next (jobs_at i) count)
            (λ n low. ap (λ os. map (λ q. (n, q)) (job_places os)) (followed-before n low)) jobs-last more;
        waiting_are =
            lists-more (things_at i) (things_at k) count (waiting_things i) (things_at i count) (map (λ o. (count, o)) (others_among (brought_at r count))) (waiting_things k) (h.waiting_are ∙ range-next (things_at i) count)
            (λ n low. ap (λ os. map (λ o. (n, o)) (others_among os)) (followed-before n low)) things-last (shows.waiting ∙ ap (λ l. l ++ map (λ o. (count, o)) (others_among (brought_at r count))) waiting_same);
        steps = all-many (is_faulty_now k) (map (λ q. (count, q)) (new_places r count)) mid ∙ many ∙ h.steps;
        levels = λ n t low e. all-levels (is_faulty_now k) (map (λ q. (count, q)) (new_places r count)) mid n ∙ levels n ∙ h.levels n t low e;
        idle_are = added-idle i k idle mid (map (λ q. (count, q)) (new_places r count)) h.idle_are same more (own-steps count (new_places r count) (length mid.steps) lt) flags;
      }
