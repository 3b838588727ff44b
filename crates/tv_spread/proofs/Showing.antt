-- Steps that show what they hold, one after the other.
use Rattle.std.specs.Option.{option_map_or}
use Rattle.std.specs.Prelude.{◌≡◌, ℕ, suc, ◌+◌, ◌<◌, ◌≤◌, not, Bool, List, [], ◌∷◌, ◌++◌, Option, Some, None, count_by, drop, length, map, sum_by, refl}
use Rattle.std.proofs.Common.{arith, ap, sym, subst, ◌∙◌, append_assoc, append-nil}
use Rattle.std.proofs.Math.Seq.{drop-append_seam}
use Rattle.std.proofs.lemmas.Grind.{flat_map-append}
use Rattle.std.proofs.lemmas.List.{length-map}
use Rattle.std.proofs.lemmas.List.Sorted.{IsPermutation-sym}
use Rattle.std.proofs.lemmas.List.Sums.{sum_by-cons}
use Rattle.tv_lemmas.specs.Members.{Each}
use Rattle.tv_value.specs.Nested.{Place}
use Rattle.tv_value.specs.Views.{strategy_view}
use Rattle.tv_lemmas.proofs.Counts.{count-map}
use Rattle.tv_strategy.specs.Conditions.{number_of}
use Rattle.tv_strategy.specs.Measures.{strategy_depth}
use Rattle.tv_strategy.proofs.Sources.{each-append}
use Rattle.tv_strategy.proofs.Each.{each-all, each-weaken}
use Rattle.tv_matching.specs.Items.{Kind, ends, closes, passes, Item}
use Rattle.tv_matching.specs.Levels.{KindAt}
use Rattle.tv_matching.specs.Matchers.{Outcome, fault_at, job_at, list_at, all_out, out}
use Rattle.tv_matching.specs.Told.{Spot, faulty_at, matched_after}
use Rattle.tv_matching.proofs.Lists.{each-map}
use Rattle.tv_matching.proofs.LawLemmas.{matches-once}
use Rattle.tv_matching.proofs.Members.{each-permutes}
use Rattle.tv_match.specs.declared.matchers.Matcher.{Matcher}
use Rattle.tv_match.specs.Filed.{filed}
use Rattle.tv_match.specs.Seen.{IsSound, in_order, matching}
use Rattle.tv_match.proofs.Calls.{told-fit}
use Rattle.tv_match.proofs.Faults.{all-in_order}
use Rattle.tv_intake.specs.declared.intakes.Intakes.{Intakes}
use Rattle.tv_intake.specs.Intaken.{AreIntaken, CanShow, HasRoom, IsMade, IsMadeAt, IsSoundAt, OthersStay, brought_at, faulty_ahead_at, known_jobs, matcher_at, waiting_things}
use Rattle.tv_intake.specs.Sorting.{brought, job_places, jobs_among, others_among}
use Rattle.tv_intake.proofs.IntakeLemmas.{ahead-parts}
use Rattle.tv_idle.specs.Idles.{Idles, StepIdle, of_step}
use Rattle.tv_spread.specs.Spreads.{CanShowAll, IsAt, IsLevelled, binds_fault, faulty_now_at, is_faulty_now, new_faulty, new_good, new_jobs, new_places, new_things, with_all_new}
use Rattle.tv_spread.proofs.Lists.{each-behind, each-front}
use Rattle.tv_spread.proofs.AddingLemmas.{Adding, all-both, all-many, all-other, all-room, all-same}

-- ---- the places of jobs have as many indices as the strategy has levels

abbrev pub OutAt : ℕ → Outcome → Type 0
OutAt d (job_at q) = length q ≡ d
OutAt d (list_at q n) = Unit {0}
OutAt d (fault_at q l) = Unit {0}

pub places-at : (d : ℕ) (os : List Outcome) → Each (OutAt d) os → Each (λ q. length q ≡ d) (job_places os)
places-at d [] h = tt
places-at d (job_at q ∷ os) h = (h.0, places-at d os h.1)
places-at d (list_at q n ∷ os) h = places-at d os h.1
places-at d (fault_at q l ∷ os) h = places-at d os h.1

pub ordered-at : (m : Matcher) → IsSound m → Each (OutAt (strategy_depth (number_of (matching m).mismatch) (matching m).strategy)) (in_order m)
ordered-at m a =
    let n = matching m in
    let d = strategy_depth (number_of n.mismatch) n.strategy in
    let leveled = (matches-once (number_of n.mismatch) n.told (told-fit (strategy_view m.tree) m.mismatch (filed m.root) m.log m.out m.told m.given a.keeps) a.keeps.once n.strategy a.keeps.agree).1 in
    each-permutes (OutAt d) (all_out n) (in_order m)
    (IsPermutation-sym _ _ (all-in_order (strategy_view m.tree) m.mismatch (filed m.root) m.log m.out m.told m.given a.keeps))
    (each-map (OutAt d) (out n.strategy) (matched_after n.strategy n.told)
    (each-weaken (λ (x : Item Spot Spot). KindAt d x.place x.kind) (λ x. OutAt d (out n.strategy x)) (λ x k. one d x.place x.kind k) (matched_after n.strategy n.told) leveled))
  where
    one : (d : ℕ) (q : Place) (k : Kind Spot Spot) → KindAt d q k → OutAt d (out (matching m).strategy (record { place = q; kind = k }))
    one d q (ends b) h = h
    one d q (closes n) h = tt
    one d q (passes f) h = tt

-- of a matcher that has made what it held, those that this brought
brought-at : (m n : Matcher) → IsMade m n → IsSound n → Each (λ q. length q ≡ strategy_depth (number_of (matching m).mismatch) (matching m).strategy) (job_places (brought m))
brought-at m n e a =
    let d = strategy_depth (number_of (matching m).mismatch) (matching m).strategy in
    let same : strategy_depth (number_of (matching n).mismatch) (matching n).strategy ≡ d = (λ i. strategy_depth (number_of (e.mismatch i)) (e.strategy i)) in
    places-at d (brought m)
    (each-behind (OutAt d) (in_order m) (brought m)
    (subst (Each (OutAt d)) (e.follows ∙ sym (ahead-parts m)) (subst (λ k. Each (OutAt k) (in_order n)) same (ordered-at n a))))

-- ---- one step

pub new-at : (c : ℕ) (levels : ℕ) (qs : List Place) → Each (λ q. length q ≡ levels) qs → Each (IsAt c levels) (map (λ q. (c, q)) qs)
new-at c levels [] h = tt
new-at c levels (q ∷ qs) h = ((refl, h.0), new-at c levels qs h.1)

own-step : (c : ℕ) (qs : List Place) → Each (λ (x : ℕ × Place). x.0 ≡ c) (map (λ q. (c, q)) qs)
own-step c [] = tt
own-step c (q ∷ qs) = (refl, own-step c qs)

flags-same : (c : ℕ) (f g : ℕ × Place → Bool) → ((q : Place) → f (c, q) ≡ g (c, q)) → (qs : List Place) → Each (λ x. f x ≡ g x) (map (λ q. (c, q)) qs)
flags-same c f g e [] = tt
flags-same c f g e (q ∷ qs) = (e q, flags-same c f g e qs)

pub places-many : (os : List Outcome) → length (job_places os) ≡ jobs_among os
places-many [] = refl
places-many (job_at q ∷ os) = ap suc (places-many os)
places-many (list_at q n ∷ os) = places-many os
places-many (fault_at q l ∷ os) = places-many os

-- what was told ahead of the jobs is told of them now
pub made-faulty : (o p : Option Matcher) → IsMadeAt o p → (q : Place) → faulty_now_at p q ≡ faulty_ahead_at o q
made-faulty None p h q = absurd h
made-faulty (Some m) None h q = absurd h
made-faulty (Some m) (Some n) h q = λ i. faulty_at (h.strategy i) (h.told i) q

pub made-levels : (o p : Option Matcher) → IsMadeAt o p → IsSoundAt p → (s : StepIdle) → IsLevelled o s → Each (λ q. length q ≡ s.levels) (job_places (option_map_or brought o []))
made-levels None p h a s l = absurd h
made-levels (Some m) None h a s l = absurd h
made-levels (Some m) (Some n) h a s l = subst (λ d. Each (λ q. length q ≡ d) (job_places (brought m))) (sym l) (brought-at m n h a)

-- the intakes before and after step c has shown what it held
pub record Shows (c : ℕ) (j k : Intakes) : Type 0 where
  pub made : IsMadeAt (matcher_at j c) (matcher_at k c)
  pub others : OthersStay c j k
  pub jobs : known_jobs k ≡ known_jobs j ++ map (λ q. (c, q)) (new_places j c)
  pub waiting : waiting_things k ≡ waiting_things j ++ map (λ o. (c, o)) (others_among (brought_at j c))
  pub room : (n : ℕ) → HasRoom (length (brought_at j c) + n) j → HasRoom n k
  pub intaken : AreIntaken k

module _ (c : ℕ) (j k : Intakes) (h : Shows c j k) where
  -- the jobs that it brought
  pub new-there : drop (length (known_jobs j)) (known_jobs k) ≡ map (λ q. (c, q)) (new_places j c)
  new-there = ap (drop (length (known_jobs j))) h.jobs ∙ drop-append_seam (known_jobs j) (map (λ q. (c, q)) (new_places j c))

  flag-is : (q : Place) → is_faulty_now k (c, q) ≡ binds_fault j (c, q)
  flag-is q = made-faulty (matcher_at j c) (matcher_at k c) h.made q

  -- they can be added
  pub can-add : (cs : List ℕ) (idle : Idles) → CanShowAll (c ∷ cs) j idle → Adding (is_faulty_now k) c (drop (length (known_jobs j)) (known_jobs k)) idle
  can-add cs idle r =
      subst (λ xs. Adding (is_faulty_now k) c xs idle) (sym new-there)
      (record {
        within = r.within.0;
        places =
            new-at c (of_step idle.steps c).levels (new_places j c)
            (made-levels (matcher_at j c) (matcher_at k c) h.made (h.intaken.sound c) (of_step idle.steps c) r.levels.0);
        good =
            subst (λ n. n ≤ (of_step idle.steps c).good_room)
            (sym (count-map (λ x. not (is_faulty_now k x)) (λ q. (c, q)) (new_places j c) ∙ (λ i. count_by (λ q. not (flag-is q i)) (new_places j c))))
            r.good_room.0;
        faulty =
            subst (λ n. n ≤ (of_step idle.steps c).faulty_room)
            (sym (count-map (is_faulty_now k) (λ q. (c, q)) (new_places j c) ∙ (λ i. count_by (λ q. flag-is q i) (new_places j c))))
            r.faulty_room.0;
        numbers =
            let m = length-map {B = ℕ × Place} (new_places j c) (λ q. (c, q)) in
            let p = places-many (brought_at j c) in
            let n = sum_by-cons (λ d. jobs_among (brought_at j d)) c cs in
            let r = r.numbers in
            omega (arith, m, p, n, r);
      })

  -- and what is idle then
  pub added-all : (idle now : Idles) → now ≡ with_all_new (is_faulty_now k) (drop (length (known_jobs j)) (known_jobs k)) idle → now ≡ with_all_new (binds_fault j) (map (λ q. (c, q)) (new_places j c)) idle
  added-all idle now e =
      e
      ∙ ap (λ xs. with_all_new (is_faulty_now k) xs idle) new-there
      ∙ all-same (is_faulty_now k) (binds_fault j) (map (λ q. (c, q)) (new_places j c)) (flags-same c (is_faulty_now k) (binds_fault j) flag-is (new_places j c)) idle

-- ---- all steps

sum-same : (f g : ℕ → ℕ) (cs : List ℕ) → Each (λ c. f c ≡ g c) cs → sum_by f cs ≡ sum_by g cs
sum-same f g [] h = refl
sum-same f g (c ∷ cs) h =
    sum_by-cons f c cs
    ∙ (λ i. h.0 i + sum-same f g cs h.1 i)
    ∙ sym (sum_by-cons g c cs)

-- the steps `done` have shown what they held, and those of `rest` have not
pub record Showing (i j : Intakes) (idle now : Idles) (done rest : List ℕ) : Type 0 where
  pub made : Each (λ c. IsMadeAt (matcher_at i c) (matcher_at j c)) done
  pub others : (c : ℕ) → Each (λ d. d ≡ c → ⊥) done → matcher_at j c ≡ matcher_at i c
  pub same : Each (λ c. matcher_at j c ≡ matcher_at i c) rest
  pub apart : Each (λ c. Each (λ d. d < c) done) rest
  pub jobs : known_jobs j ≡ known_jobs i ++ new_jobs i done
  pub waiting : waiting_things j ≡ waiting_things i ++ new_things i done
  pub idle_is : now ≡ with_all_new (binds_fault i) (new_jobs i done) idle
  pub ready : CanShowAll rest j now
  pub intaken : AreIntaken j

pub showing-none : (i : Intakes) (idle : Idles) (cs : List ℕ) → AreIntaken i → CanShowAll cs i idle → Showing i i idle idle [] cs
showing-none i idle cs a r =
    record {
      made = tt;
      others = λ c h. refl;
      same = each-all (λ c. matcher_at i c ≡ matcher_at i c) (λ c. refl) cs;
      apart = each-all (λ c. Unit {0}) (λ c. tt) cs;
      jobs = sym (append-nil (known_jobs i));
      waiting = sym (append-nil (waiting_things i));
      idle_is = refl;
      ready = r;
      intaken = a;
    }

both-each : {A : Type 0} (P Q R : A → Type 0) → ((x : A) → P x → Q x → R x) → (xs : List A) → Each P xs → Each Q xs → Each R xs
both-each P Q R f [] h k = tt
both-each P Q R f (x ∷ xs) h k = (f x h.0 k.0, both-each P Q R f xs h.1 k.1)

module _ (i j k : Intakes) (idle now after : Idles) (done : List ℕ) (c : ℕ) (rest : List ℕ) (v : Showing i j idle now done (c ∷ rest)) (h : Shows c j k) (e : after ≡ with_all_new (is_faulty_now k) (drop (length (known_jobs j)) (known_jobs k)) now) where
  later : Each (λ d. d ≡ c → ⊥) rest
  later = each-weaken (λ d. c < d) (λ d. d ≡ c → ⊥) (λ d l f. omega (arith, l, f)) rest v.ready.once.0

  earlier : Each (λ d. d ≡ c → ⊥) done
  earlier = each-weaken (λ d. d < c) (λ d. d ≡ c → ⊥) (λ d l f. omega (arith, l, f)) done v.apart.0

  stay : Each (λ d. matcher_at k d ≡ matcher_at j d) rest
  stay = each-weaken (λ d. d ≡ c → ⊥) (λ d. matcher_at k d ≡ matcher_at j d) (λ d ne. h.others d ne) rest later

  after-is : after ≡ with_all_new (binds_fault j) (map (λ q. (c, q)) (new_places j c)) now
  after-is = added-all c j k h now after e

  slots-stay : Each (λ d. of_step after.steps d ≡ of_step now.steps d) rest
  slots-stay =
      each-weaken (λ d. d ≡ c → ⊥) (λ d. of_step after.steps d ≡ of_step now.steps d)
      (λ d ne. ap (λ (x : Idles). of_step x.steps d) after-is ∙ all-other (binds_fault j) c d ne (map (λ q. (c, q)) (new_places j c)) (own-step c (new_places j c)) now)
      rest later

  -- what a step that stays brings
  brings-same : (d : ℕ) → matcher_at k d ≡ matcher_at j d → brought_at k d ≡ brought_at j d
  brings-same d g = ap (λ o. option_map_or brought o []) g

  places-same : new_places j c ≡ new_places i c
  places-same = ap (λ o. job_places (option_map_or brought o [])) v.same.0

  still-ready : CanShowAll rest k after
  still-ready =
      let r = v.ready in
      record {
        once = r.once.1;
        can = both-each (λ d. CanShow (matcher_at j d)) (λ d. matcher_at k d ≡ matcher_at j d) (λ d. CanShow (matcher_at k d)) (λ d p g. subst CanShow (sym g) p) rest r.can.1 stay;
        intake_room =
            h.room (sum_by (λ d. length (brought_at k d)) rest)
            (subst (λ n. HasRoom n j)
            (sum_by-cons (λ d. length (brought_at j d)) c rest
            ∙ ap (λ n. length (brought_at j c) + n)
            (sum-same (λ d. length (brought_at j d)) (λ d. length (brought_at k d)) rest
            (each-weaken (λ d. matcher_at k d ≡ matcher_at j d) (λ d. length (brought_at j d) ≡ length (brought_at k d)) (λ d g. ap length (sym (brings-same d g))) rest stay)))
            r.intake_room);
        within =
            let m : length after.steps ≡ length now.steps = ap (λ (x : Idles). length x.steps) after-is ∙ all-many (binds_fault j) (map (λ q. (c, q)) (new_places j c)) now in
            each-weaken (λ d. d < length now.steps) (λ d. d < length after.steps) (λ d l. omega (arith, m, l)) rest r.within.1;
        levels =
            both-each (λ d. IsLevelled (matcher_at j d) (of_step now.steps d)) (λ d. (matcher_at k d ≡ matcher_at j d) × (of_step after.steps d ≡ of_step now.steps d)) (λ d. IsLevelled (matcher_at k d) (of_step after.steps d))
            (λ d p g. subst (λ o. IsLevelled o (of_step after.steps d)) (sym g.0) (subst (IsLevelled (matcher_at j d)) (sym g.1) p)) rest r.levels.1 both;
        good_room =
            both-each (λ d. new_good j d ≤ (of_step now.steps d).good_room) (λ d. (matcher_at k d ≡ matcher_at j d) × (of_step after.steps d ≡ of_step now.steps d)) (λ d. new_good k d ≤ (of_step after.steps d).good_room)
            (λ d p g. subst (λ (s : StepIdle). new_good k d ≤ s.good_room) (sym g.1) (subst (λ o. count_by (λ q. not (faulty_ahead_at o q)) (job_places (option_map_or brought o [])) ≤ (of_step now.steps d).good_room) (sym g.0) p)) rest r.good_room.1 both;
        faulty_room =
            both-each (λ d. new_faulty j d ≤ (of_step now.steps d).faulty_room) (λ d. (matcher_at k d ≡ matcher_at j d) × (of_step after.steps d ≡ of_step now.steps d)) (λ d. new_faulty k d ≤ (of_step after.steps d).faulty_room)
            (λ d p g. subst (λ (s : StepIdle). new_faulty k d ≤ s.faulty_room) (sym g.1) (subst (λ o. count_by (faulty_ahead_at o) (job_places (option_map_or brought o [])) ≤ (of_step now.steps d).faulty_room) (sym g.0) p)) rest r.faulty_room.1 both;
        numbers =
            let m = ap (λ (x : Idles). x.room) after-is ∙ all-room (binds_fault j) (map (λ q. (c, q)) (new_places j c)) now in
            let l = length-map {B = ℕ × Place} (new_places j c) (λ q. (c, q)) in
            let p = places-many (brought_at j c) in
            let n = sum_by-cons (λ d. jobs_among (brought_at j d)) c rest in
            let s =
            sum-same (λ d. jobs_among (brought_at k d)) (λ d. jobs_among (brought_at j d)) rest
            (each-weaken (λ d. matcher_at k d ≡ matcher_at j d) (λ d. jobs_among (brought_at k d) ≡ jobs_among (brought_at j d)) (λ d g. ap jobs_among (brings-same d g)) rest stay)
            in
            let q = r.numbers in
            omega (arith, m, l, p, n, s, q);
      }
    where
      both : Each (λ d. (matcher_at k d ≡ matcher_at j d) × (of_step after.steps d ≡ of_step now.steps d)) rest
      both = both-each (λ d. matcher_at k d ≡ matcher_at j d) (λ d. of_step after.steps d ≡ of_step now.steps d) (λ d. (matcher_at k d ≡ matcher_at j d) × (of_step after.steps d ≡ of_step now.steps d)) (λ d p q. (p, q)) rest stay slots-stay

  pub showing-more : Showing i k idle after (done ++ c ∷ []) rest
  showing-more =
      record {
        made =
            each-append (λ d. IsMadeAt (matcher_at i d) (matcher_at k d)) done (c ∷ [])
            (both-each (λ d. IsMadeAt (matcher_at i d) (matcher_at j d)) (λ d. d ≡ c → ⊥) (λ d. IsMadeAt (matcher_at i d) (matcher_at k d)) (λ d p ne. subst (IsMadeAt (matcher_at i d)) (sym (h.others d ne)) p) done v.made earlier)
            (subst (λ o. IsMadeAt o (matcher_at k c)) v.same.0 h.made, tt);
        others = λ d n. h.others d (λ g. last d n (sym g)) ∙ v.others d (front d n);
        same = both-each (λ d. matcher_at k d ≡ matcher_at j d) (λ d. matcher_at j d ≡ matcher_at i d) (λ d. matcher_at k d ≡ matcher_at i d) (λ d p q. p ∙ q) rest stay v.same.1;
        apart =
            both-each (λ d. Each (λ x. x < d) done) (λ d. c < d) (λ d. Each (λ x. x < d) (done ++ c ∷ []))
            (λ d p l. each-append (λ x. x < d) done (c ∷ []) p (l, tt)) rest v.apart.1 v.ready.once.0;
        jobs =
            h.jobs
            ∙ (λ n. v.jobs n ++ map (λ q. (c, q)) (places-same n))
            ∙ append_assoc (known_jobs i) (new_jobs i done) (map (λ q. (c, q)) (new_places i c))
            ∙ ap (λ l. known_jobs i ++ l) (sym jobs-both);
        waiting =
            h.waiting
            ∙ (λ n. v.waiting n ++ map (λ o. (c, o)) (others_among (option_map_or brought (v.same.0 n) [])))
            ∙ append_assoc (waiting_things i) (new_things i done) (map (λ o. (c, o)) (others_among (brought_at i c)))
            ∙ ap (λ l. waiting_things i ++ l) (sym things-both);
        idle_is =
            after-is
            ∙ all-same (binds_fault j) (binds_fault i) (map (λ q. (c, q)) (new_places j c)) (flags-same c (binds_fault j) (binds_fault i) (λ q. ap (λ o. faulty_ahead_at o q) v.same.0) (new_places j c)) now
            ∙ (λ n. with_all_new (binds_fault i) (map (λ q. (c, q)) (places-same n)) (v.idle_is n))
            ∙ sym (all-both (binds_fault i) (new_jobs i done) (map (λ q. (c, q)) (new_places i c)) idle)
            ∙ ap (λ l. with_all_new (binds_fault i) l idle) (sym jobs-both);
        ready = still-ready;
        intaken = h.intaken;
      }
    where
      last : (d : ℕ) → Each (λ x. x ≡ d → ⊥) (done ++ c ∷ []) → c ≡ d → ⊥
      last d n g = (each-behind (λ x. x ≡ d → ⊥) done (c ∷ []) n).0 g

      front : (d : ℕ) → Each (λ x. x ≡ d → ⊥) (done ++ c ∷ []) → Each (λ x. x ≡ d → ⊥) done
      front d n = each-front (λ x. x ≡ d → ⊥) done (c ∷ []) n

      jobs-both : new_jobs i (done ++ c ∷ []) ≡ new_jobs i done ++ map (λ q. (c, q)) (new_places i c)
      jobs-both =
          flat_map-append (λ d. map (λ q. (d, q)) (new_places i d)) done (c ∷ [])
          ∙ ap (λ l. new_jobs i done ++ l) (append-nil (map (λ q. (c, q)) (new_places i c)))

      things-both : new_things i (done ++ c ∷ []) ≡ new_things i done ++ map (λ o. (c, o)) (others_among (brought_at i c))
      things-both =
          flat_map-append (λ d. map (λ o. (d, o)) (others_among (brought_at i d))) done (c ∷ [])
          ∙ ap (λ l. new_things i done ++ l) (append-nil (map (λ o. (c, o)) (others_among (brought_at i c))))
