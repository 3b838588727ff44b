-- The code's step from one try to the next follows the fold of the finished list of tries.
use Rattle.std.specs.Prelude.{◌≡◌, ℕ, zero, suc, ◌+◌, ◌-◌, ◌*◌, ◌≤◌, ◌<◌, ◌⊎◌, List, [], ◌∷◌, ◌++◌, map, drop, length, refl, Bool, true, false, Some, is_ok, Result, Ok, Err}
use Rattle.std.specs.List.{range_with_len, slice_get}
use Rattle.std.proofs.Common.{arith, ap, sym, subst, ◌∙◌, inl, inr}
use Rattle.std.proofs.lemmas.Bool.{cases_lt}
use Rattle.tv_value.specs.Values.{Text, Value}
use Rattle.tv_gate.specs.Outcomes.{Giving}
use Rattle.tv_dispatch.specs.declared.plan.Kind.{Kind}
use Rattle.tv_dispatch.specs.declared.plan.Kind.TheVariants.{Service, Nested}
use Rattle.tv_dispatch.specs.declared.plan.Plan.{Plan}
use Rattle.tv_dispatch.specs.declared.plan.Next.{Next}
use Rattle.tv_dispatch.specs.declared.plan.Next.TheVariants as next
use Rattle.tv_value.specs.Activities.{Activity, service, nested}
use Rattle.tv_dispatch.specs.Jobs.{Ask, Try, ask, open_flow, tries, outcome_of, Taken, take_tries, match_result, right}
use Rattle.tv_dispatch.specs.Plans.{PlanTurn, asks, nests, turns, turns_of, left_after, first_next, next_try, asked, reached, taken_turns, kind_of, IsFate, number, came_right}
use Rattle.tv_dispatch.proofs.Turns.{attempts, rest, left-rest, rest-again, rest-over}

none_more : (p : Plan) (x : Next) (rs : List Bool) → ((k n : ℕ) → x ≡ next.Ask k n → ⊥) → asked p x rs ≡ []
none_more p x [] h = refl
none_more p (next.Ask k n) (r ∷ rs) h = absurd (h k n refl)
none_more p next.Bounce (r ∷ rs) h = refl
none_more p (next.Nest k) (r ∷ rs) h = refl
none_more p next.Done (r ∷ rs) h = refl
none_more p next.Failed (r ∷ rs) h = refl

module _ (p : Plan) where
  -- what may be left of the turns: nothing, a flow first, or an attempt at a service with what follows it
  pub data IsLeft : List PlanTurn → Type 0 where
    over : IsLeft []
    nesting : (k : ℕ) (ts : List PlanTurn) → IsLeft (nests k ∷ ts)
    asking : (k n : ℕ) → slice_get p.activities k ≡ Some Service → n ≤ p.retries → IsLeft (asks k n ∷ rest p.retries p.activities k n)

  head_is : (ks ls : List Kind) (k : ℕ) (l : Kind) → drop k ks ≡ l ∷ ls → (slice_get ks k ≡ Some l) × (drop (suc k) ks ≡ ls)
  head_is [] ls zero l e = absurd cc
  head_is [] ls (suc k) l e = absurd cc
  head_is (x ∷ ks) ls zero l e = (cc, cc)
  head_is (x ∷ ks) ls (suc k) l e = head_is ks ls k l e

  left_at : (k : ℕ) (ls : List Kind) → drop k p.activities ≡ ls → IsLeft (turns p.retries k ls)
  left_at k [] e = over
  left_at k (Nested ∷ ls) e = nesting k (turns p.retries (suc k) ls)
  left_at k (Service ∷ ls) e =
      let h = head_is p.activities ls k Service e in
      subst IsLeft (ap (λ ts. asks k 0 ∷ ts) (same h.1)) (asking k 0 h.0 (omega arith))
    where
      next_number : k + 1 ≡ suc k
      next_number = omega arith

      all_of : (r : ℕ) → r - 0 ≡ r
      all_of r = omega arith

      same : drop (suc k) p.activities ≡ ls → rest p.retries p.activities k 0 ≡ attempts k 1 p.retries ++ turns p.retries (suc k) ls
      same q =
          ap (λ m. attempts k 1 m ++ turns p.retries (k + 1) (drop (k + 1) p.activities)) (all_of p.retries)
          ∙ ap (λ i. attempts k 1 p.retries ++ turns p.retries i (drop i p.activities)) next_number
          ∙ ap (λ (ms : List Kind). attempts k 1 p.retries ++ turns p.retries (suc k) ms) q

  pub left_start : IsLeft (turns_of p)
  left_start = left_at 0 p.activities refl

  left_rest : (k n : ℕ) → slice_get p.activities k ≡ Some Service → n ≤ p.retries → IsLeft (rest p.retries p.activities k n)
  left_rest k n s h = by (cases_lt n p.retries)
    where
      by : (n < p.retries) ⊎ (p.retries ≤ n) → IsLeft (rest p.retries p.activities k n)
      by (inl q) = subst IsLeft (sym (rest-again p.retries p.activities k n q)) (asking k (n + 1) s (omega arith))
      by (inr q) = subst IsLeft (sym (rest-over p.retries p.activities k n q)) (left_at (k + 1) (drop (k + 1) p.activities) refl)

  -- the asks are the turns, up to the first that is right or opens a flow
  pub asked-turns : (ts : List PlanTurn) → IsLeft ts → (rs : List Bool) → asked p (next_try ts) rs ≡ taken_turns ts rs
  asked-turns _ over rs = none_more p next.Failed rs (λ k n e. cc)
  asked-turns _ (nesting k ts) rs = none_more p (next.Nest k) rs (λ j n e. cc)
  asked-turns _ (asking k n s q) [] = refl
  asked-turns _ (asking k n s q) (true ∷ rs) = ap (λ l. (k, n) ∷ l) (none_more p next.Done rs (λ j m e. cc))
  asked-turns _ (asking k n s q) (false ∷ rs) =
      ap (λ ts. (k, n) ∷ asked p (next_try ts) rs) (left-rest p.retries p.activities k n s q)
      ∙ ap (λ l. (k, n) ∷ l) (asked-turns (rest p.retries p.activities k n) (left_rest k n s q) rs)

-- the tries and the turns of the same activities
abbrev Match : List Activity → List Try → List PlanTurn → Type 0
Match as' [] [] = Unit {0}
Match as' [] (u ∷ us) = ⊥
Match as' (t ∷ ts) [] = ⊥
Match as' (ask a ∷ ts) (asks k n ∷ us) = (number a ≡ (k, n)) × Match as' ts us
Match as' (open_flow f ∷ ts) (nests k ∷ us) = (slice_get as' k ≡ Some (nested f)) × Match as' ts us
Match as' (ask a ∷ ts) (nests k ∷ us) = ⊥
Match as' (open_flow f ∷ ts) (asks k n ∷ us) = ⊥

match_attempts : (as' : List Activity) (f : ℕ → Ask) (k : ℕ) → ((n : ℕ) → number (f n) ≡ (k, n)) → (a m : ℕ) (ts : List Try) (us : List PlanTurn) → Match as' ts us → Match as' (map (λ n. ask (f n)) (range_with_len a m) ++ ts) (attempts k a m ++ us)
match_attempts as' f k e a zero ts us h = h
match_attempts as' f k e a (suc m) ts us h = (e a, match_attempts as' f k e (a + 1) m ts us h)

-- where the activities from k on stand in a list
abbrev StandAt : List Activity → ℕ → List Activity → Type 0
StandAt as' k [] = Unit {0}
StandAt as' k (b ∷ bs) = (slice_get as' k ≡ Some b) × StandAt as' (suc k) bs

stand_later : (a : Activity) (as' : List Activity) (k : ℕ) (bs : List Activity) → StandAt as' k bs → StandAt (a ∷ as') (suc k) bs
stand_later a as' k [] h = tt
stand_later a as' k (b ∷ bs) h = (h.0, stand_later a as' (suc k) bs h.1)

stand_all : (as' : List Activity) → StandAt as' 0 as'
stand_all [] = tt
stand_all (a ∷ as') = (refl, stand_later a as' 0 as' (stand_all as'))

match_tries : (vs : List Value) (ds : List ℕ) (retries : ℕ) (as' : List Activity) (k : ℕ) (bs : List Activity) → StandAt as' k bs → Match as' (tries vs ds retries k bs) (turns retries k (map kind_of bs))
match_tries vs ds retries as' k [] h = tt
match_tries vs ds retries as' k (service s ∷ bs) h = match_attempts as' (λ n. record { service = s; inputs = vs; outputs = ds; activity = k; attempt = n }) k (λ n. refl) 0 (suc retries) _ _ (match_tries vs ds retries as' (suc k) bs h.1)
match_tries vs ds retries as' k (nested f ∷ bs) h = (h.0, match_tries vs ds retries as' (suc k) bs h.1)

module _ (p : Plan) (gives : Giving) (as' : List Activity) where
  -- the code asks as the fold does, and comes to the same end
  abbrev pub Follows : Next → Taken → Type 0
  Follows x t =
      (asked p x (map (came_right gives) t.asks) ≡ map number t.asks)
      × IsFate as' t.fate (reached p x (map (came_right gives) t.asks))

  abbrev Again : Ask → Result (List Value) Text → (Text → Taken) → Taken
  Again a r later = match_result {C = Taken} r (λ vs. record { asks = a ∷ []; fate = right vs }) (λ reason. record { asks = a ∷ (later reason).asks; fate = (later reason).fate })

  asked_once : (a : Ask) (k n : ℕ) (later : Text → Taken) (us : List PlanTurn) → number a ≡ (k, n) → left_after k n (turns_of p) ≡ us → ((w : Text) → Follows (next_try us) (later w)) → (r : Result (List Value) Text) → outcome_of gives a ≡ r → Follows (next.Ask k n) (Again a r later)
  asked_once a k n later us e l h (Ok ws) o =
      let true_is : came_right gives a ≡ true = ap is_ok o in (
        ap (λ b. asked p (next.Ask k n) (b ∷ [])) true_is ∙ ap (λ x. x ∷ []) (sym e),
        ap (λ b. reached p (next.Ask k n) (b ∷ [])) true_is,
      )
  asked_once a k n later us e l h (Err w) o =
      let false_is : came_right gives a ≡ false = ap is_ok o in
      let rs = map (came_right gives) (later w).asks in (
        ap (λ b. asked p (next.Ask k n) (b ∷ rs)) false_is
            ∙ ap (λ ts. (k, n) ∷ asked p (next_try ts) rs) l
            ∙ ap (λ ps. (k, n) ∷ ps) (h w).0
            ∙ ap (λ x. x ∷ map number (later w).asks) (sym e),
        subst (λ x. IsFate as' (later w).fate x) (sym (ap (λ b. reached p (next.Ask k n) (b ∷ rs)) false_is ∙ ap (λ ts. reached p (next_try ts) rs) l)) (h w).1,
      )

  follows : (why : Text) (ts : List Try) (us : List PlanTurn) → IsLeft p us → Match as' ts us → Follows (next_try us) (take_tries gives why ts)
  follows why [] [] h m = (refl, refl)
  follows why [] (u ∷ us) h m = absurd m
  follows why (t ∷ ts) [] h m = absurd m
  follows why (open_flow f ∷ ts) (nests k ∷ us) h m = (refl, (k, refl, m.0))
  follows why (open_flow f ∷ ts) (asks k n ∷ us) h m = absurd m
  follows why (ask a ∷ ts) (nests k ∷ us) h m = absurd m
  follows why (ask a ∷ ts) (asks k n ∷ _) (asking _ _ s q) m =
      asked_once a k n (λ w. take_tries gives w ts) (rest p.retries p.activities k n) m.0 (left-rest p.retries p.activities k n s q) (λ w. follows w ts (rest p.retries p.activities k n) (left_rest p k n s q) m.1) (outcome_of gives a) refl

  pub follows-taken : (vs : List Value) (ds : List ℕ) → p.activities ≡ map kind_of as' → Follows (next_try (turns_of p)) (take_tries gives [] (tries vs ds p.retries 0 as'))
  follows-taken vs ds e = follows [] (tries vs ds p.retries 0 as') (turns_of p) (left_start p) (subst (λ ks. Match as' (tries vs ds p.retries 0 as') (turns p.retries 0 ks)) (sym e) (match_tries vs ds p.retries as' 0 as' (stand_all as')))

-- as many as the turns at the most
taken_few : (ts : List PlanTurn) (rs : List Bool) → length (taken_turns ts rs) ≤ length ts
taken_few [] rs = omega arith
taken_few (nests k ∷ ts) rs = omega arith
taken_few (asks k n ∷ ts) [] = omega arith
taken_few (asks k n ∷ ts) (true ∷ rs) = omega arith
taken_few (asks k n ∷ ts) (false ∷ rs) = let h = taken_few ts rs in omega arith

attempts_few : (k a m : ℕ) (ts : List PlanTurn) → length (attempts k a m ++ ts) ≡ m + length ts
attempts_few k a zero ts = omega arith
attempts_few k a (suc m) ts = let h = attempts_few k (a + 1) m ts in omega arith

turns_few : (retries k : ℕ) (ks : List Kind) → length (turns retries k ks) ≤ length ks * (retries + 1)
turns_few retries k [] = omega arith
turns_few retries k (Service ∷ ks) = by (length ks) (length (turns retries (suc k) ks)) (attempts_few k 0 (suc retries) (turns retries (suc k) ks)) (turns_few retries (suc k) ks)
  where
    by : (m n : ℕ) → length (turns retries k (Service ∷ ks)) ≡ suc retries + n → n ≤ m * (retries + 1) → length (turns retries k (Service ∷ ks)) ≤ suc m * (retries + 1)
    by m n e h = omega arith
turns_few retries k (Nested ∷ ks) = by (length ks) (length (turns retries (suc k) ks)) (turns_few retries (suc k) ks)
  where
    by : (m n : ℕ) → n ≤ m * (retries + 1) → suc n ≤ suc m * (retries + 1)
    by m n h = omega arith

pub asked-few : (p : Plan) (holds_error : Bool) (rs : List Bool) → length (asked p (first_next p holds_error) rs) ≤ length p.activities * (p.retries + 1)
asked-few p true rs = subst (λ (l : List (ℕ × ℕ)). length l ≤ length p.activities * (p.retries + 1)) (sym (none_more p next.Bounce rs (λ k n e. cc))) (omega arith)
asked-few p false rs =
    let first = ap (λ (l : List (ℕ × ℕ)). length l) (asked-turns p (turns_of p) (left_start p) rs) in
    let few = taken_few (turns_of p) rs in
    let all = turns_few p.retries 0 p.activities in
    omega arith

pub bounced-none : (p : Plan) (rs : List Bool) → asked p (first_next p true) rs ≡ []
bounced-none p rs = none_more p next.Bounce rs (λ k n e. cc)
