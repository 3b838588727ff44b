-- What the matchers of all steps have matched, where one of them gets more.
use Rattle.std.specs.Option.{option_map_or}
use Rattle.std.specs.Prelude.{◌≡◌, ℕ, zero, suc, ◌+◌, ◌<◌, ◌≤◌, ◌==◌, Bool, true, false, if◌then◌else◌, List, [], ◌∷◌, ◌++◌, IsPermutation, Option, Some, None, drop, get_or, length, map, slice_get, slice_set, take, refl}
use Rattle.std.proofs.Common.{arith, ap, sym, subst, ◌∙◌, append_assoc, append-nil, eq-eqb, length-append}
use Rattle.std.proofs.lemmas.Bool.{eqb-true}
use Rattle.std.proofs.lemmas.List.{length-map, take-append-drop, map-append}
use Rattle.std.proofs.lemmas.List.Sorted.{IsPermutation-append, IsPermutation-append_comm, IsPermutation-refl, IsPermutation-sym, IsPermutation-trans}
use Rattle.std.proofs.lemmas.Option.{get_or_from_slice_get, slice_get_read, slice_get_within}
use Rattle.std.proofs.lemmas.Simd.{map-map}
use Rattle.tv_lemmas.specs.Members.{Each}
use Rattle.tv_lemmas.proofs.Numbers.{none-below, suc-plus, is-plus_zero}
use Rattle.tv_lemmas.proofs.Lists.{map-take, get-end}
use Rattle.tv_value.specs.Nested.{Place}
use Rattle.tv_matching.specs.Told.{faulty_at}
use Rattle.tv_strategy.specs.Measures.{leaf_names}
use Rattle.tv_value.specs.Strategies.{Strategy}
use Rattle.tv_value.specs.Values.{Name}
use Rattle.tv_matching.specs.Matchers.{CanTell, IsTold, Matching, Outcome, Starts, fault_at, job_at, list_at}
use Rattle.tv_matching.proofs.Members.{each-permutes}
use Rattle.tv_match.specs.declared.kinds.Kind.{Kind}
use Rattle.tv_match.specs.declared.kinds.Kind.TheVariants.{Job, Closed, Passed}
use Rattle.tv_match.specs.declared.matchers.Matcher.{Matcher}
use Rattle.tv_match.specs.declared.told.Told as code
use Rattle.tv_match.specs.Entries.{front}
use Rattle.tv_match.specs.Seen.{IsSound, bound_telling, matching, outcome_kind, outcome_of}
use Rattle.tv_match.specs.Ahead.{in_order_ahead}
use Rattle.tv_match.specs.Seen.{in_order}
use Rattle.tv_match.proofs.Fronts.{front-first}
use Rattle.tv_intake.specs.declared.found.Found.{Found}
use Rattle.tv_intake.specs.Sorting.{brought, found_at, found_jobs, found_others, job_places, job_positions, other_positions, others_among}
use Rattle.tv_intake.specs.Intaken.{AreSorted, CanHold, CanShow, IsFaultyAt, IsSoundAt, IsToldAll, brought_in, followed_in, placed, positions_of, thing_in}
use Rattle.tv_match.specs.Stated.{outcome_place}

abbrev no_job : Outcome
no_job = job_at []

-- ---- lists

module _ {A : Type 0} where
  pub get-set : (xs : List A) (i : ℕ) (x : A) → i < length xs → slice_get (slice_set xs i x) i ≡ Some x
  get-set [] i x h = none-below i h
  get-set (y ∷ xs) zero x h = refl
  get-set (y ∷ xs) (suc i) x h = get-set xs i x (omega arith)

  pub get-other : (xs : List A) (i k : ℕ) (x : A) → (k ≡ i → ⊥) → slice_get (slice_set xs i x) k ≡ slice_get xs k
  get-other [] i k x ne = refl
  get-other (y ∷ xs) zero zero x ne = absurd (ne refl)
  get-other (y ∷ xs) zero (suc k) x ne = refl
  get-other (y ∷ xs) (suc i) zero x ne = refl
  get-other (y ∷ xs) (suc i) (suc k) x ne = get-other xs i k x (λ e. ne (ap suc e))

  get-front : (xs ys : List A) (i : ℕ) (d : A) → i < length xs → get_or (xs ++ ys) i d ≡ get_or xs i d
  get-front [] ys i d h = none-below i h
  get-front (x ∷ xs) ys zero d h = refl
  get-front (x ∷ xs) ys (suc i) d h = get-front xs ys i d (omega arith)

  get-behind : (xs ys : List A) (j : ℕ) (d : A) → get_or (xs ++ ys) (length xs + j) d ≡ get_or ys j d
  get-behind [] ys j d = ap (λ k. get_or ys k d) (zero-plus j)
    where
      zero-plus : (j : ℕ) → 0 + j ≡ j
      zero-plus j = omega arith
  get-behind (x ∷ xs) ys j d = ap (λ k. get_or (x ∷ (xs ++ ys)) k d) (plus (length xs) j) ∙ get-behind xs ys j d
    where
      plus : (n j : ℕ) → suc n + j ≡ suc (n + j)
      plus n j = omega arith

  get-default : (xs : List A) (i : ℕ) (d e : A) → i < length xs → get_or xs i d ≡ get_or xs i e
  get-default [] i d e h = none-below i h
  get-default (x ∷ xs) zero d e h = refl
  get-default (x ∷ xs) (suc i) d e h = get-default xs i d e (omega arith)

  pub each-get : (P : A → Type 0) (xs : List A) (i : ℕ) (x : A) → Each P xs → i < length xs → x ≡ get_or xs i x → P x
  each-get P [] i x h l e = none-below i l
  each-get P (y ∷ xs) zero x h l e = subst P (sym e) h.0
  each-get P (y ∷ xs) (suc i) x h l e = each-get P xs i x h.1 (omega arith) e

  each-front : (P : A → Type 0) (xs ys : List A) → Each P (xs ++ ys) → Each P xs
  each-front P [] ys h = tt
  each-front P (x ∷ xs) ys h = (h.0, each-front P xs ys h.1)

map-each : {A B : Type 0} (P : A → Type 0) (f g : A → B) → ((x : A) → P x → f x ≡ g x) → (xs : List A) → Each P xs → map f xs ≡ map g xs
map-each P f g e [] h = refl
map-each P f g e (x ∷ xs) h = (λ i. e x h.0 i ∷ map-each P f g e xs h.1 i)

-- ---- of one matcher: what is brought stands behind what follows

pub ahead-parts : (m : Matcher) → in_order m ++ brought m ≡ in_order_ahead m
ahead-parts m =
    let n : length (in_order m) ≡ length (front m.told m.out) = length-map (front m.told m.out) outcome_of in
    let t : in_order m ≡ take (length (in_order m)) (in_order_ahead m) =
    ap (map outcome_of) (sym (front-first m.told m.out)) ∙ map-take outcome_of (length (front m.told m.out)) m.out ∙ ap (λ k. take k (in_order_ahead m)) (sym n) in
    ap (λ l. l ++ brought m) t ∙ take-append-drop (length (in_order m)) (in_order_ahead m)

pub ahead-longer : (m : Matcher) → length (in_order_ahead m) ≡ length (in_order m) + length (brought m)
ahead-longer m = sym (ap length (ahead-parts m)) ∙ length-append (in_order m) (brought m)

-- ---- positions

positions-both : (k : ℕ) (fs gs : List Found) → positions_of k (fs ++ gs) ≡ positions_of k fs ++ positions_of k gs
positions-both k [] gs = refl
positions-both k (f ∷ fs) gs = ap (λ l. if f.step == k then f.at ∷ l else l) (positions-both k fs gs) ∙ by (f.step == k)
  where
    by : (b : Bool) → (if b then f.at ∷ (positions_of k fs ++ positions_of k gs) else (positions_of k fs ++ positions_of k gs)) ≡ (if b then f.at ∷ positions_of k fs else positions_of k fs) ++ positions_of k gs
    by true = refl
    by false = refl

positions-own : (s k : ℕ) (ps : List ℕ) → (s == k) ≡ true → positions_of k (map (found_at s) ps) ≡ ps
positions-own s k [] e = refl
positions-own s k (p ∷ ps) e = ap (λ b. if b then p ∷ positions_of k (map (found_at s) ps) else positions_of k (map (found_at s) ps)) e ∙ ap (λ l. p ∷ l) (positions-own s k ps e)

positions-other : (s k : ℕ) (ps : List ℕ) → (s == k) ≡ false → positions_of k (map (found_at s) ps) ≡ []
positions-other s k [] e = refl
positions-other s k (p ∷ ps) e = ap (λ b. if b then p ∷ positions_of k (map (found_at s) ps) else positions_of k (map (found_at s) ps)) e ∙ positions-other s k ps e

jobs-both : (i : ℕ) (F G : List Outcome) → job_positions i (F ++ G) ≡ job_positions i F ++ job_positions (i + length F) G
jobs-both i [] G = ap (λ n. job_positions n G) (is-plus_zero i)
jobs-both i (job_at q ∷ F) G = ap (λ l. i ∷ l) (jobs-both (suc i) F G ∙ ap (λ n. job_positions (suc i) F ++ job_positions n G) (suc-plus i (length F)))
jobs-both i (list_at q n ∷ F) G = jobs-both (suc i) F G ∙ ap (λ n. job_positions (suc i) F ++ job_positions n G) (suc-plus i (length F))
jobs-both i (fault_at q n ∷ F) G = jobs-both (suc i) F G ∙ ap (λ n. job_positions (suc i) F ++ job_positions n G) (suc-plus i (length F))

others-both : (i : ℕ) (F G : List Outcome) → other_positions i (F ++ G) ≡ other_positions i F ++ other_positions (i + length F) G
others-both i [] G = ap (λ n. other_positions n G) (is-plus_zero i)
others-both i (job_at q ∷ F) G = others-both (suc i) F G ∙ ap (λ n. other_positions (suc i) F ++ other_positions n G) (suc-plus i (length F))
others-both i (list_at q n ∷ F) G = ap (λ l. i ∷ l) (others-both (suc i) F G ∙ ap (λ n. other_positions (suc i) F ++ other_positions n G) (suc-plus i (length F)))
others-both i (fault_at q n ∷ F) G = ap (λ l. i ∷ l) (others-both (suc i) F G ∙ ap (λ n. other_positions (suc i) F ++ other_positions n G) (suc-plus i (length F)))

jobs-within : (n i : ℕ) (os : List Outcome) → i + length os ≤ n → Each (λ a. a < n) (job_positions i os)
jobs-within n i [] h = tt
jobs-within n i (job_at q ∷ os) h = (omega arith, jobs-within n (suc i) os (omega arith))
jobs-within n i (list_at q m ∷ os) h = jobs-within n (suc i) os (omega arith)
jobs-within n i (fault_at q m ∷ os) h = jobs-within n (suc i) os (omega arith)

others-within : (n i : ℕ) (os : List Outcome) → i + length os ≤ n → Each (λ a. a < n) (other_positions i os)
others-within n i [] h = tt
others-within n i (job_at q ∷ os) h = others-within n (suc i) os (omega arith)
others-within n i (list_at q m ∷ os) h = (omega arith, others-within n (suc i) os (omega arith))
others-within n i (fault_at q m ∷ os) h = (omega arith, others-within n (suc i) os (omega arith))

each-of : (L : ℕ → ℕ) (fs : List Found) → ((k : ℕ) → Each (λ a. a < L k) (positions_of k fs)) → Each (λ (f : Found). f.at < L f.step) fs
each-of L [] h = tt
each-of L (f ∷ fs) h = (
  (subst (λ b. Each (λ a. a < L f.step) (if b then f.at ∷ positions_of f.step fs else positions_of f.step fs)) (eq-eqb f.step f.step refl) (h f.step)).0,
  each-of L fs (λ k. by k (f.step == k) (h k)),
)
  where
    by : (k : ℕ) (b : Bool) → Each (λ a. a < L k) (if b then f.at ∷ positions_of k fs else positions_of k fs) → Each (λ a. a < L k) (positions_of k fs)
    by k true h = h.1
    by k false h = h

-- ---- the things at new positions

module _ (s : ℕ) (W : List Outcome) where
  shifted : (i : ℕ) (o : Outcome) (G : List Outcome) → ((j : ℕ) → j < suc (length G) → get_or W (i + j) no_job ≡ get_or (o ∷ G) j no_job) → (j : ℕ) → j < length G → get_or W (suc i + j) no_job ≡ get_or G j no_job
  shifted i o G h j l = ap (λ k. get_or W k no_job) (suc-plus i j) ∙ h (suc j) (omega arith)

  head-is : (i : ℕ) (o : Outcome) (G : List Outcome) → ((j : ℕ) → j < suc (length G) → get_or W (i + j) no_job ≡ get_or (o ∷ G) j no_job) → get_or W i no_job ≡ o
  head-is i o G h = ap (λ k. get_or W k no_job) (is-plus_zero i) ∙ h 0 (omega arith)

  pub new-jobs : (i : ℕ) (G : List Outcome) → ((j : ℕ) → j < length G → get_or W (i + j) no_job ≡ get_or G j no_job) → map (λ p. placed (s, get_or W p no_job)) (job_positions i G) ≡ map (λ q. (s, q)) (job_places G)
  new-jobs i [] h = refl
  new-jobs i (job_at q ∷ G) h = (λ k. (s, outcome_place (head-is i (job_at q) G h k)) ∷ new-jobs (suc i) G (shifted i (job_at q) G h) k)
  new-jobs i (list_at q n ∷ G) h = new-jobs (suc i) G (shifted i (list_at q n) G h)
  new-jobs i (fault_at q n ∷ G) h = new-jobs (suc i) G (shifted i (fault_at q n) G h)

  pub new-others : (i : ℕ) (G : List Outcome) → ((j : ℕ) → j < length G → get_or W (i + j) no_job ≡ get_or G j no_job) → map {B = ℕ × Outcome} (λ p. (s, get_or W p no_job)) (other_positions i G) ≡ map (λ o. (s, o)) (others_among G)
  new-others i [] h = refl
  new-others i (job_at q ∷ G) h = new-others (suc i) G (shifted i (job_at q) G h)
  new-others i (list_at q n ∷ G) h = (λ k. (s, head-is i (list_at q n) G h k) ∷ new-others (suc i) G (shifted i (list_at q n) G h) k)
  new-others i (fault_at q n ∷ G) h = (λ k. (s, head-is i (fault_at q n) G h k) ∷ new-others (suc i) G (shifted i (fault_at q n) G h) k)

-- ---- all steps

follows-there : (ms : List Matcher) (k : ℕ) (m : Matcher) → slice_get ms k ≡ Some m → followed_in ms k ≡ in_order m
follows-there ms k m e = ap (λ o. option_map_or in_order o []) e

pub brings-there : (ms : List Matcher) (k : ℕ) (m : Matcher) → slice_get ms k ≡ Some m → brought_in ms k ≡ brought m
brings-there ms k m e = ap (λ o. option_map_or brought o []) e

-- a step at which something follows has a matcher
pub step-within : (ms : List Matcher) (k a : ℕ) → a < length (followed_in ms k) → k < length ms
step-within ms k a h = by (slice_get ms k) refl
  where
    by : (o : Option Matcher) → slice_get ms k ≡ o → k < length ms
    by None e = none-below a (subst (λ o. a < length (option_map_or in_order o [])) e h)
    by (Some m) e = slice_get_within ms k m e

pub can-within : (ms : List Matcher) (s : ℕ) (ts : List code.Told) → CanHold (slice_get ms s) ts → s < length ms
can-within ms s ts h = by (slice_get ms s) refl
  where
    by : (o : Option Matcher) → slice_get ms s ≡ o → s < length ms
    by None e = absurd (subst (λ o. CanHold o ts) e h)
    by (Some m) e = slice_get_within ms s m e

pub shown-within : (ms : List Matcher) (s : ℕ) → CanShow (slice_get ms s) → s < length ms
shown-within ms s h = by (slice_get ms s) refl
  where
    by : (o : Option Matcher) → slice_get ms s ≡ o → s < length ms
    by None e = absurd (subst CanShow e h)
    by (Some m) e = slice_get_within ms s m e

module _ (ms : List Matcher) (jobs waiting : List Found) (h : AreSorted ms jobs waiting) where
  pub jobs-there : Each (λ (f : Found). f.at < length (followed_in ms f.step)) jobs
  jobs-there = each-of (λ k. length (followed_in ms k)) jobs (λ k. subst (Each (λ a. a < length (followed_in ms k))) (sym (h.jobs_are k)) (jobs-within (length (followed_in ms k)) 0 (followed_in ms k) (omega arith)))

  pub waiting-there : Each (λ (f : Found). f.at < length (followed_in ms f.step)) waiting
  waiting-there =
      each-of (λ k. length (followed_in ms k)) waiting
      (λ k. each-front (λ a. a < length (followed_in ms k)) (positions_of k waiting) (h.settled k)
      (each-permutes (λ a. a < length (followed_in ms k)) _ _ (IsPermutation-sym _ _ (h.others_are k)) (others-within (length (followed_in ms k)) 0 (followed_in ms k) (omega arith))))

  -- one fewer waits
  module _ (fewer : List Found) (last : List Found) (e : waiting ≡ fewer ++ last) where
    pub fewer-wait : AreSorted ms jobs fewer
    fewer-wait =
        record {
          sound = h.sound;
          jobs_are = h.jobs_are;
          settled = λ k. positions_of k last ++ h.settled k;
          others_are = λ k.
              subst (λ l. IsPermutation l (other_positions 0 (followed_in ms k)))
              (ap (λ l. l ++ h.settled k) (ap (positions_of k) e ∙ positions-both k fewer last) ∙ append_assoc (positions_of k fewer) (positions_of k last) (h.settled k))
              (h.others_are k);
        }

  -- what follows at step s is more by G, and nothing else
  module _ (ns : List Matcher) (s : ℕ) (G : List Outcome) (grown : (k : ℕ) → followed_in ns k ≡ followed_in ms k ++ (if s == k then G else [])) where
    F : List Outcome
    F = followed_in ms s

    whole : followed_in ns s ≡ followed_in ms s ++ G
    whole = grown s ∙ ap (λ b. followed_in ms s ++ (if b then G else [])) (eq-eqb s s refl)

    stays : (f : Found) → f.at < length (followed_in ms f.step) → thing_in ns f ≡ thing_in ms f
    stays f l = ap (λ o. (f.step, o)) (ap (λ w. get_or w f.at no_job) (grown f.step) ∙ get-front (followed_in ms f.step) (if s == f.step then G else []) f.at no_job l)

    behind : (j : ℕ) → j < length G → get_or (followed_in ns s) (length (followed_in ms s) + j) no_job ≡ get_or G j no_job
    behind j l = ap (λ w. get_or w (length (followed_in ms s) + j) no_job) whole ∙ get-behind (followed_in ms s) G j no_job

    pub jobs-grow : map (λ f. placed (thing_in ns f)) (jobs ++ found_jobs s (length (followed_in ms s)) G) ≡ map (λ f. placed (thing_in ms f)) jobs ++ map (λ q. (s, q)) (job_places G)
    jobs-grow =
        map-append (λ f. placed (thing_in ns f)) jobs (found_jobs s (length (followed_in ms s)) G)
        ∙ ap (λ l. l ++ map (λ f. placed (thing_in ns f)) (found_jobs s (length (followed_in ms s)) G)) (map-each (λ (f : Found). f.at < length (followed_in ms f.step)) (λ f. placed (thing_in ns f)) (λ f. placed (thing_in ms f)) (λ f l. ap placed (stays f l)) jobs jobs-there)
        ∙ ap (λ l. map (λ f. placed (thing_in ms f)) jobs ++ l) (map-map (λ f. placed (thing_in ns f)) (found_at s) (job_positions (length (followed_in ms s)) G) ∙ new-jobs s (followed_in ns s) (length (followed_in ms s)) G behind)

    pub waiting-grows : map (thing_in ns) (waiting ++ found_others s (length (followed_in ms s)) G) ≡ map (thing_in ms) waiting ++ map (λ o. (s, o)) (others_among G)
    waiting-grows =
        map-append (thing_in ns) waiting (found_others s (length (followed_in ms s)) G)
        ∙ ap (λ l. l ++ map (thing_in ns) (found_others s (length (followed_in ms s)) G)) (map-each (λ (f : Found). f.at < length (followed_in ms f.step)) (thing_in ns) (thing_in ms) stays waiting waiting-there)
        ∙ ap (λ l. map (thing_in ms) waiting ++ l) (map-map (thing_in ns) (found_at s) (other_positions (length (followed_in ms s)) G) ∙ new-others s (followed_in ns s) (length (followed_in ms s)) G behind)

    jobs-at : (k : ℕ) → positions_of k (found_jobs s (length (followed_in ms s)) G) ≡ job_positions (0 + length (followed_in ms k)) (if s == k then G else [])
    jobs-at k = by (s == k) refl
      where
        at-own : (i j : ℕ) → i ≡ j → length (followed_in ms i) ≡ 0 + length (followed_in ms j)
        at-own i j e = let l = ap (λ k. length (followed_in ms k)) e in omega (arith, l)

        by : (b : Bool) → (s == k) ≡ b → positions_of k (found_jobs s (length (followed_in ms s)) G) ≡ job_positions (0 + length (followed_in ms k)) (if b then G else [])
        by true e = positions-own s k (job_positions (length (followed_in ms s)) G) e ∙ ap (λ n. job_positions n G) (at-own s k (eqb-true s k e))
        by false e = positions-other s k (job_positions (length (followed_in ms s)) G) e

    others-at : (k : ℕ) → positions_of k (found_others s (length (followed_in ms s)) G) ≡ other_positions (0 + length (followed_in ms k)) (if s == k then G else [])
    others-at k = by (s == k) refl
      where
        at-own : (i j : ℕ) → i ≡ j → length (followed_in ms i) ≡ 0 + length (followed_in ms j)
        at-own i j e = let l = ap (λ k. length (followed_in ms k)) e in omega (arith, l)

        by : (b : Bool) → (s == k) ≡ b → positions_of k (found_others s (length (followed_in ms s)) G) ≡ other_positions (0 + length (followed_in ms k)) (if b then G else [])
        by true e = positions-own s k (other_positions (length (followed_in ms s)) G) e ∙ ap (λ n. other_positions n G) (at-own s k (eqb-true s k e))
        by false e = positions-other s k (other_positions (length (followed_in ms s)) G) e

    -- more behind what waits, before what was settled
    put-between : (ws bs cs ds : List ℕ) → IsPermutation (ws ++ bs) ds → IsPermutation ((ws ++ cs) ++ bs) (ds ++ cs)
    put-between ws bs cs ds p =
        IsPermutation-trans _ _ _
        (subst (λ l. IsPermutation l (ws ++ (bs ++ cs))) (sym (append_assoc ws cs bs)) (IsPermutation-append ws ws (cs ++ bs) (bs ++ cs) (IsPermutation-refl ws) (IsPermutation-append_comm cs bs)))
        (subst (λ l. IsPermutation l (ds ++ cs)) (append_assoc ws bs cs) (IsPermutation-append (ws ++ bs) ds cs cs p (IsPermutation-refl cs)))

    pub sorted-grows : ((k : ℕ) → IsSoundAt (slice_get ns k)) → AreSorted ns (jobs ++ found_jobs s (length (followed_in ms s)) G) (waiting ++ found_others s (length (followed_in ms s)) G)
    sorted-grows sound =
        record {
          sound = sound;
          jobs_are = λ k.
              positions-both k jobs (found_jobs s (length (followed_in ms s)) G)
              ∙ (λ i. h.jobs_are k i ++ jobs-at k i)
              ∙ sym (jobs-both 0 (followed_in ms k) (if s == k then G else []))
              ∙ ap (job_positions 0) (sym (grown k));
          settled = h.settled;
          others_are = λ k.
              subst (λ l. IsPermutation ((positions_of k (waiting ++ found_others s (length (followed_in ms s)) G)) ++ h.settled k) (other_positions 0 l)) (sym (grown k))
              (subst (λ l. IsPermutation (l ++ h.settled k) (other_positions 0 (followed_in ms k ++ (if s == k then G else [])))) (sym (positions-both k waiting (found_others s (length (followed_in ms s)) G)))
              (subst (λ l. IsPermutation ((positions_of k waiting ++ positions_of k (found_others s (length (followed_in ms s)) G)) ++ h.settled k) l) (ap (λ l. other_positions 0 (followed_in ms k) ++ l) (others-at k) ∙ sym (others-both 0 (followed_in ms k) (if s == k then G else [])))
              (put-between (positions_of k waiting) (h.settled k) (positions_of k (found_others s (length (followed_in ms s)) G)) (other_positions 0 (followed_in ms k)) (h.others_are k))));
        }

-- ---- one matcher in the place of another

module _ (ms : List Matcher) (s : ℕ) (m n : Matcher) (there : slice_get ms s ≡ Some m) where
  pub placed-there : slice_get (slice_set ms s n) s ≡ Some n
  placed-there = get-set ms s n (slice_get_within ms s m there)

  -- it has more by G
  pub set-grown : (G : List Outcome) → in_order n ≡ in_order m ++ G → (k : ℕ) → followed_in (slice_set ms s n) k ≡ followed_in ms k ++ (if s == k then G else [])
  set-grown G e k = by (s == k) refl
    where
      clash : (b : Bool) → b ≡ true → b ≡ false → ⊥
      clash true f g = absurd (cc)
      clash false f g = absurd (cc)

      by : (b : Bool) → (s == k) ≡ b → followed_in (slice_set ms s n) k ≡ followed_in ms k ++ (if b then G else [])
      by true f =
          subst (λ j. followed_in (slice_set ms s n) j ≡ followed_in ms j ++ G) (eqb-true s k f)
          (follows-there (slice_set ms s n) s n placed-there ∙ e ∙ ap (λ l. l ++ G) (sym (follows-there ms s m there)))
      by false f =
          ap (λ o. option_map_or in_order o []) (get-other ms s k n (λ g. clash (s == k) (eq-eqb s k (sym g)) f))
          ∙ sym (append-nil (followed_in ms k))

  pub set-sound : ((k : ℕ) → IsSoundAt (slice_get ms k)) → IsSound n → (k : ℕ) → IsSoundAt (slice_get (slice_set ms s n) k)
  set-sound all own k = by (s == k) refl
    where
      clash : (b : Bool) → b ≡ true → b ≡ false → ⊥
      clash true f g = absurd (cc)
      clash false f g = absurd (cc)

      by : (b : Bool) → (s == k) ≡ b → IsSoundAt (slice_get (slice_set ms s n) k)
      by true f = subst (λ j. IsSoundAt (slice_get (slice_set ms s n) j)) (eqb-true s k f) (subst IsSoundAt (sym placed-there) own)
      by false f = subst IsSoundAt (sym (get-other ms s k n (λ g. clash (s == k) (eq-eqb s k (sym g)) f))) (all k)

  -- or the same
  pub set-same : in_order n ≡ in_order m → (k : ℕ) → followed_in (slice_set ms s n) k ≡ followed_in ms k
  set-same e k = set-grown [] (e ∙ sym (append-nil (in_order m))) k ∙ by (s == k)
    where
      by : (b : Bool) → followed_in ms k ++ (if b then [] else []) ≡ followed_in ms k
      by true = append-nil (followed_in ms k)
      by false = append-nil (followed_in ms k)

  -- what is sorted once its held tellings are made
  module _ (x : Matcher) (read : x ≡ get_or (slice_set ms s n) s x) (ahead : in_order_ahead n ≡ in_order_ahead m) (k : ℕ) (shown : k ≡ length (in_order m)) where
    read-is : x ≡ n
    read-is = read ∙ get_or_from_slice_get (slice_set ms s n) s n x placed-there

    from-there : length (in_order m) ≡ length (followed_in ms s)
    from-there = ap length (sym (follows-there ms s m there))

    ahead-is : in_order_ahead x ≡ in_order_ahead m
    ahead-is = ap in_order_ahead read-is ∙ ahead

    pub new-found : (fs : List Found) → fs ++ found_jobs s k (drop k (in_order_ahead x)) ≡ fs ++ found_jobs s (length (followed_in ms s)) (brought m)
    new-found fs = (λ i. fs ++ found_jobs s (shown i) (drop (shown i) (ahead-is i))) ∙ ap (λ j. fs ++ found_jobs s j (brought m)) from-there

    pub new-others_found : (fs : List Found) → fs ++ found_others s k (drop k (in_order_ahead x)) ≡ fs ++ found_others s (length (followed_in ms s)) (brought m)
    new-others_found fs = (λ i. fs ++ found_others s (shown i) (drop (shown i) (ahead-is i))) ∙ ap (λ j. fs ++ found_others s j (brought m)) from-there

-- where the same follows everywhere, the same is known
module _ (ms ns : List Matcher) (same : (k : ℕ) → followed_in ns k ≡ followed_in ms k) where
  pub jobs-same : (jobs : List Found) → map (λ f. placed (thing_in ns f)) jobs ≡ map (λ f. placed (thing_in ms f)) jobs
  jobs-same jobs = λ i. map (λ (f : Found). placed (f.step, get_or (same f.step i) f.at no_job)) jobs

  pub waiting-same : (waiting : List Found) → map (thing_in ns) waiting ≡ map (thing_in ms) waiting
  waiting-same waiting = λ i. map {B = ℕ × Outcome} (λ (f : Found). (f.step, get_or (same f.step i) f.at no_job)) waiting

  pub sorted-same : (jobs waiting : List Found) → ((k : ℕ) → IsSoundAt (slice_get ns k)) → AreSorted ms jobs waiting → AreSorted ns jobs waiting
  sorted-same jobs waiting sound h =
      record {
        sound = sound;
        jobs_are = λ k. h.jobs_are k ∙ ap (job_positions 0) (sym (same k));
        settled = h.settled;
        others_are = λ k. subst (λ l. IsPermutation (positions_of k waiting ++ h.settled k) (other_positions 0 l)) (sym (same k)) (h.others_are k);
      }

-- ---- one matcher more

get-before : {A : Type 0} (xs : List A) (x : A) (k : ℕ) → (k ≡ length xs → ⊥) → slice_get (xs ++ x ∷ []) k ≡ slice_get xs k
get-before [] x zero ne = absurd (ne refl)
get-before [] x (suc k) ne = refl
get-before (y ∷ xs) x zero ne = refl
get-before (y ∷ xs) x (suc k) ne = get-before xs x k (λ e. ne (ap suc e))

get-past : {A : Type 0} (xs : List A) → slice_get xs (length xs) ≡ None
get-past [] = refl
get-past (x ∷ xs) = get-past xs

module _ (ms : List Matcher) (m : Matcher) where
  pub last-there : slice_get (ms ++ m ∷ []) (length ms) ≡ Some m
  last-there = get-end ms m

  pub others-before : (k : ℕ) → (k ≡ length ms → ⊥) → slice_get (ms ++ m ∷ []) k ≡ slice_get ms k
  others-before k ne = get-before ms m k ne

  pub none-followed : followed_in ms (length ms) ≡ []
  none-followed = ap (λ o. option_map_or in_order o []) (get-past ms)

  pub end-grown : (k : ℕ) → followed_in (ms ++ m ∷ []) k ≡ followed_in ms k ++ (if length ms == k then in_order m else [])
  end-grown k = by (length ms == k) refl
    where
      clash : (b : Bool) → b ≡ true → b ≡ false → ⊥
      clash true f g = absurd (cc)
      clash false f g = absurd (cc)

      by : (b : Bool) → (length ms == k) ≡ b → followed_in (ms ++ m ∷ []) k ≡ followed_in ms k ++ (if b then in_order m else [])
      by true f =
          subst (λ j. followed_in (ms ++ m ∷ []) j ≡ followed_in ms j ++ in_order m) (eqb-true (length ms) k f)
          (follows-there (ms ++ m ∷ []) (length ms) m last-there ∙ ap (λ l. l ++ in_order m) (sym none-followed))
      by false f =
          ap (λ o. option_map_or in_order o []) (others-before k (λ g. clash (length ms == k) (eq-eqb (length ms) k (sym g)) f))
          ∙ sym (append-nil (followed_in ms k))

  pub end-sound : ((k : ℕ) → IsSoundAt (slice_get ms k)) → IsSound m → (k : ℕ) → IsSoundAt (slice_get (ms ++ m ∷ []) k)
  end-sound all own k = by (length ms == k) refl
    where
      clash : (b : Bool) → b ≡ true → b ≡ false → ⊥
      clash true f g = absurd (cc)
      clash false f g = absurd (cc)

      by : (b : Bool) → (length ms == k) ≡ b → IsSoundAt (slice_get (ms ++ m ∷ []) k)
      by true f = subst (λ j. IsSoundAt (slice_get (ms ++ m ∷ []) j)) (eqb-true (length ms) k f) (subst IsSoundAt (sym last-there) own)
      by false f = subst IsSoundAt (sym (others-before k (λ g. clash (length ms == k) (eq-eqb (length ms) k (sym g)) f))) (all k)

  -- what is sorted of it
  module _ (ahead : in_order_ahead m ≡ in_order m) (k : ℕ) (number : k ≡ length ms) where
    zero-there : 0 ≡ length (followed_in ms (length ms))
    zero-there = ap length (sym none-followed)

    pub first-found : (fs : List Found) → fs ++ found_jobs k 0 (drop 0 (in_order_ahead m)) ≡ fs ++ found_jobs (length ms) (length (followed_in ms (length ms))) (in_order m)
    first-found fs = (λ i. fs ++ found_jobs (number i) (zero-there i) (ahead i))

    pub first-others_found : (fs : List Found) → fs ++ found_others k 0 (drop 0 (in_order_ahead m)) ≡ fs ++ found_others (length ms) (length (followed_in ms (length ms))) (in_order m)
    first-others_found fs = (λ i. fs ++ found_others (number i) (zero-there i) (ahead i))

-- ---- none

pub none-sorted : (ms : List Matcher) (jobs waiting : List Found) → ms ≡ [] → jobs ≡ [] → waiting ≡ [] → AreSorted ms jobs waiting
none-sorted ms jobs waiting e f g =
    subst (λ x. AreSorted x jobs waiting) (sym e)
    (subst (λ x. AreSorted [] x waiting) (sym f)
    (subst (λ x. AreSorted [] [] x) (sym g)
    (record { sound = λ k. tt; jobs_are = λ k. refl; settled = λ k. []; others_are = λ k. IsPermutation-refl [] })))

-- ---- what stands at a thing that was found

pub place-kept : (q : Place) (k : Kind) → outcome_place (outcome_kind q k) ≡ q
place-kept q (Job b) = refl
place-kept q (Closed n) = refl
place-kept q (Passed l) = refl

module _ (ms : List Matcher) (f : Found) (m : Matcher) (within : f.step < length ms) (read : m ≡ get_or ms f.step m) (here : f.at < length (followed_in ms f.step)) where
  pub stands : slice_get ms f.step ≡ Some m
  stands = slice_get_read ms (length ms) f.step m refl within read

  pub item-there : f.at < length (in_order m)
  item-there = subst (λ w. f.at < length w) (follows-there ms f.step m stands) here

  pub sound-there : ((k : ℕ) → IsSoundAt (slice_get ms k)) → IsSound m
  sound-there sound = subst IsSoundAt stands (sound f.step)

  pub thing-is : (o : Outcome) → get_or (in_order m) f.at o ≡ o → thing_in ms f ≡ (f.step, o)
  thing-is o e =
      ap (λ x. (f.step, x))
      (ap (λ w. get_or w f.at no_job) (follows-there ms f.step m stands) ∙ get-default (in_order m) f.at no_job o item-there ∙ e)

  pub faulty-there : (q : Place) (b : Bool) → b ≡ faulty_at (matching m).strategy (matching m).told q → IsFaultyAt (slice_get ms f.step) q b
  faulty-there q b e = subst (λ o. IsFaultyAt o q b) (sym stands) e

-- ---- a matcher that starts, and is told one thing

module _ (s : Strategy) (mm : List (Name × ℕ)) (m : Matching) (starts : Starts s mm m) (leaf : ℕ) (b : Bool) where
  pub names-leaf : leaf < length (leaf_names s) → leaf < length (leaf_names m.strategy)
  names-leaf h = subst (λ g. leaf < length (leaf_names g)) (sym starts.strategy_is) h

  pub can-tell_bound : CanTell m (bound_telling s leaf b) → CanTell m (bound_telling m.strategy leaf b)
  can-tell_bound h = subst (λ g. CanTell m (bound_telling g leaf b)) (sym starts.strategy_is) h

  pub told-one : (n : Matching) → IsTold (bound_telling m.strategy leaf b) m n → n.held ≡ [] → IsToldAll s mm (bound_telling s leaf b ∷ []) n
  told-one n h e = record {
    strategy_is = h.strategy_is ∙ starts.strategy_is;
    mismatch_is = h.mismatch_is ∙ starts.mismatch_is;
    told = subst (λ g. IsPermutation n.told (bound_telling g leaf b ∷ [])) starts.strategy_is (subst (λ l. IsPermutation n.told (l ++ bound_telling m.strategy leaf b ∷ [])) starts.told_is h.told_is);
    held = e;
  }
