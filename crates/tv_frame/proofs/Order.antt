-- The steps of a flow in falling order of their ranks, by the rank of each.
use Rattle.std.specs.Prelude.{◌≡◌, refl, ℕ, zero, suc, ◌+◌, ◌-◌, ◌<◌, ◌≤◌, ◌⊎◌, false, List, [], ◌∷◌, if◌then◌else◌, length, Some, slice_get}
use Rattle.std.proofs.Common.{arith, sym, ap, ◌∙◌, get_or, inl, inr, set}
use Rattle.std.proofs.lemmas.List.{length-map, length-set}
use Rattle.std.proofs.lemmas.Option.{get_or_from_slice_get, slice_get_within}
use Rattle.std.proofs.lemmas.Bool.{cases_eq}
use Rattle.tv_lemmas.proofs.Lists.{get-map, get-within, same-lists}
use Rattle.tv_value.specs.Orders.{same_name}
use Rattle.tv_value.specs.Values.{Name}
use Rattle.tv_value.proofs.NameLemmas.{same_name-refl}
use Rattle.tv_flow.specs.Flows.{Flow, Step}
use Rattle.tv_naming.specs.Numbers.{position}
use Rattle.tv_naming.proofs.ByPosition.{position-at}
use Rattle.tv_naming.proofs.FormedParts.{few, flow-steps, steps-ascend}
use Rattle.tv_naming.proofs.Told.{got-in}
use Rattle.tv_model.specs.instance.Ranks.{ranked}
use Rattle.tv_check.proofs.Ranked.{get-set-other, get-set-same, one-place}
use Rattle.tv_model.proofs.Ranks.{ranked-ordered, ranks-apart}
use Rattle.tv_check.proofs.Ranks.{each-ranked}
use Rattle.tv_model.specs.instance.ByResults.{last_first}
use Rattle.tv_framing.specs.engine.WiredFlows.{IsWired}
use Rattle.tv_framing.specs.turns.FirstReady.{by_falling_rank}
use Rattle.tv_check.specs.declared.plans.FlowPlan.{FlowPlan}
use Rattle.tv_check.specs.declared.plans.StepPlan.{StepPlan}
use Rattle.tv_check.specs.Plans as plan
use Rattle.tv_check.specs.PlanViews.{step_plan_view}
use Rattle.tv_flow.specs.Formed.{is_step}
use Rattle.tv_flow.specs.Views.{flow_view}
use Rattle.tv_frame.proofs.Plans.{each-placed, each-there, rank-of}
use Rattle.tv_frame.proofs.TableLemmas.{as-many-steps, plan-wired, step-of}

module _ {A : Type 0} where
  first-position : (xs : List (Name × A)) (j : ℕ) (x : Name × A) → slice_get xs j ≡ Some x → ((i : ℕ) (r : Name × A) → slice_get xs i ≡ Some r → i < j → same_name x.0 r.0 ≡ false) → position x.0 xs ≡ j
  first-position [] j x e h = cc
  first-position (y ∷ xs) zero x e h = let f : y ≡ x = cc in ap (λ b. if b then 0 else suc (position x.0 xs)) (ap (λ (z : Name × A). same_name x.0 z.0) f ∙ same_name-refl x.0)
  first-position (y ∷ xs) (suc j) x e h =
      ap (λ b. if b then 0 else suc (position x.0 xs)) (h 0 y refl (omega arith))
      ∙ ap suc (first-position xs j x e (λ i r g lt. h (suc i) r g (omega (arith, lt))))

-- ---- a list turned round

last-rest : (xs ts : List (Name × Step)) (j : ℕ) → slice_get (last_first xs ts) (length xs + j) ≡ slice_get ts j
last-rest [] ts j = let n : 0 + j ≡ j = omega arith in ap (slice_get ts) n
last-rest (x ∷ xs) ts j =
    let n : suc (length xs) + j ≡ length xs + suc j = omega arith in
    ap (slice_get (last_first xs (x ∷ ts))) n ∙ last-rest xs (x ∷ ts) (suc j)

last-front : (xs ts : List (Name × Step)) (j : ℕ) (x : Name × Step) → slice_get xs j ≡ Some x → (k : ℕ) → k + j + 1 ≡ length xs → slice_get (last_first xs ts) k ≡ Some x
last-front [] ts j x e k h = cc
last-front (y ∷ xs) ts zero x e k h =
    let f : y ≡ x = cc in
    let n : k ≡ length xs + 0 = omega (arith, h) in
    ap (slice_get (last_first xs (y ∷ ts))) n ∙ last-rest xs (y ∷ ts) 0 ∙ ap Some f
last-front (y ∷ xs) ts (suc j) x e k h = last-front xs (y ∷ ts) j x e k (omega (arith, h))

last-long : (xs ts : List (Name × Step)) → length (last_first xs ts) ≡ length xs + length ts
last-long [] ts = omega arith
last-long (x ∷ xs) ts = let l = last-long xs (x ∷ ts) in omega (arith, l)

-- ---- ranks

module _ (f : Flow) (wired : IsWired f) where
  pub rank-is : (j : ℕ) (s : Name × Step) → slice_get (ranked f.steps) j ≡ Some s → position s.0 (ranked f.steps) ≡ j
  rank-is j s e = first-position (ranked f.steps) j s e (λ i r g lt. ranks-apart [] (ranked f.steps) i j r s (ranked-ordered f.steps) g e lt)

  -- the rank of a step is below the number of steps
  pub rank-below : (k : ℕ) (s : Name × Step) → slice_get f.steps k ≡ Some s → position s.0 (ranked f.steps) < length f.steps
  rank-below k s at =
      let r = rank-of f wired k s at in
      let lt : r.0 < length (ranked f.steps) = slice_get_within (ranked f.steps) r.0 s r.1 in
      let e : position s.0 (ranked f.steps) ≡ r.0 = rank-is r.0 s r.1 in
      let n : length (ranked f.steps) ≡ length f.steps = wired.ranked in
      omega (arith, lt, e, n)

  -- steps of one rank are one
  one-rank : (k l : ℕ) (s t : Name × Step) → slice_get f.steps k ≡ Some s → slice_get f.steps l ≡ Some t → position s.0 (ranked f.steps) ≡ position t.0 (ranked f.steps) → k ≡ l
  one-rank k l s t at bt e =
      let r = rank-of f wired k s at in
      let q = rank-of f wired l t bt in
      let same : r.0 ≡ q.0 = sym (rank-is r.0 s r.1) ∙ e ∙ rank-is q.0 t q.1 in
      let one : Some s ≡ Some t = sym r.1 ∙ ap (slice_get (ranked f.steps)) same ∙ q.1 in
      one-place f.steps k l s t (steps-ascend f wired.formed) at bt (named s t one)
    where
      named : (s t : Name × Step) → Some s ≡ Some t → s.0 ≡ t.0
      named s t e = let g : s ≡ t = cc in ap (λ (x : Name × Step). x.0) g

  -- the first so many steps stand in a list by falling rank
  pub record AreFilled (order : List ℕ) (count : ℕ) : Type 0 where
    pub many : length order ≡ length f.steps
    pub filled : (k : ℕ) (s : Name × Step) → k < count → slice_get f.steps k ≡ Some s → slice_get order (length f.steps - 1 - position s.0 (ranked f.steps)) ≡ Some k

  pub fill-next : (order after : List ℕ) (count at : ℕ) (s : Name × Step) → AreFilled order count → slice_get f.steps count ≡ Some s → at ≡ length f.steps - 1 - position s.0 (ranked f.steps) → after ≡ set order at count → length after ≡ length order → AreFilled after (count + 1)
  fill-next order after count at s h here at_is is long = record {
    many = long ∙ h.many;
    filled = λ k t lt there. by k t lt there (cases_eq k count);
  }
    where
      same-rank : (n a b : ℕ) → a < n → b < n → n - 1 - a ≡ n - 1 - b → a ≡ b
      same-rank n a b p q e = omega (arith, p, q, e)

      by : (k : ℕ) (t : Name × Step) → k < count + 1 → slice_get f.steps k ≡ Some t → (k ≡ count) ⊎ (k ≡ count → ⊥) → slice_get after (length f.steps - 1 - position t.0 (ranked f.steps)) ≡ Some k
      by k t lt there (inl e) =
          let one : Some t ≡ Some s = sym there ∙ ap (slice_get f.steps) e ∙ here in
          let same : t ≡ s = cc in
          let below = rank-below count s here in
          let within : at < length order = let m = h.many in omega (arith, at_is, below, m) in
          ap (λ l. slice_get l (length f.steps - 1 - position t.0 (ranked f.steps))) is
          ∙ ap (λ (u : Name × Step). slice_get (set order at count) (length f.steps - 1 - position u.0 (ranked f.steps))) same
          ∙ ap (slice_get (set order at count)) (sym at_is)
          ∙ get-set-same order at count within
          ∙ ap Some (sym e)
      by k t lt there (inr ne) =
          let low : k < count = omega (arith, lt, ne) in
          let b = rank-below count s here in
          let c = rank-below k t there in
          let apart : (at ≡ length f.steps - 1 - position t.0 (ranked f.steps)) → ⊥ = λ e. ne (one-rank k count t s there here (same-rank (length f.steps) (position t.0 (ranked f.steps)) (position s.0 (ranked f.steps)) c b (sym e ∙ at_is))) in
          ap (λ l. slice_get l (length f.steps - 1 - position t.0 (ranked f.steps))) is
          ∙ get-set-other order at (length f.steps - 1 - position t.0 (ranked f.steps)) count apart
          ∙ h.filled k t low there

  pub all-filled : (order : List ℕ) (count : ℕ) → length f.steps ≤ count → AreFilled order count → order ≡ by_falling_rank f
  all-filled order count le h =
      same-lists order (by_falling_rank f) (h.many ∙ sym wired.ranked ∙ sym (long ∙ sum)) (λ k y e. at k y e)
    where
      long : length (by_falling_rank f) ≡ length (ranked f.steps) + 0
      long = length-map (last_first (ranked f.steps) []) (λ (s : Name × Step). position s.0 f.steps) ∙ last-long (ranked f.steps) []

      sum : length (ranked f.steps) + 0 ≡ length (ranked f.steps)
      sum = omega arith

      member : (j : ℕ) (t : Name × Step) → slice_get (ranked f.steps) j ≡ Some t → (k : ℕ) × (slice_get f.steps k ≡ Some t)
      member j t e =
          each-there (λ u. (k : ℕ) × (slice_get f.steps k ≡ Some u)) (ranked f.steps) j t
          (each-ranked (λ u. (k : ℕ) × (slice_get f.steps k ≡ Some u)) f.steps (each-placed (λ u. (k : ℕ) × (slice_get f.steps k ≡ Some u)) f.steps (λ k u e. (k, e)))) e

      own-place : (k : ℕ) (t : Name × Step) → slice_get f.steps k ≡ Some t → position t.0 f.steps ≡ k
      own-place k t e = ap (λ (y : Name × Step). position y.0 f.steps) (sym (get_or_from_slice_get f.steps k t t e)) ∙ position-at f.steps k t (steps-ascend f wired.formed) (slice_get_within f.steps k t e)

      at : (k y : ℕ) → slice_get (by_falling_rank f) k ≡ Some y → slice_get order k ≡ Some y
      at k y e =
          let lt : k < length (by_falling_rank f) = slice_get_within (by_falling_rank f) k y e in
          let n : length (ranked f.steps) ≡ length f.steps = wired.ranked in
          let low : k < length (ranked f.steps) = omega (arith, lt, long) in
          let t = get-within (ranked f.steps) (length (ranked f.steps) - 1 - k) (omega (arith, low)) in
          let m = member (length (ranked f.steps) - 1 - k) t.0 t.1 in
          let pos : position t.0.0 f.steps ≡ m.0 = own-place m.0 t.0 m.1 in
          let here : slice_get (by_falling_rank f) k ≡ Some (position t.0.0 f.steps) =
          get-map (λ (s : Name × Step). position s.0 f.steps) (last_first (ranked f.steps) []) k t.0 (last-front (ranked f.steps) [] (length (ranked f.steps) - 1 - k) t.0 t.1 k (omega (arith, low)))
          in
          let is : Some y ≡ Some m.0 = sym e ∙ here ∙ ap Some pos in
          let rank_is : position t.0.0 (ranked f.steps) ≡ length (ranked f.steps) - 1 - k = rank-is (length (ranked f.steps) - 1 - k) t.0 t.1 in
          let spot : length f.steps - 1 - position t.0.0 (ranked f.steps) ≡ k = omega (arith, rank_is, n, low) in
          ap (slice_get order) (sym spot) ∙ h.filled m.0 t.0 (let i = slice_get_within f.steps m.0 t.0 m.1 in omega (arith, i, le)) m.1 ∙ sym is

-- ---- of a plan

planned-rank : (f : Flow) (q : StepPlan) (s : Name × Step) → step_plan_view q ≡ plan.step_plan f s → q.rank ≡ position s.0 (ranked f.steps)
planned-rank f q (n, s) e = ap (λ (r : plan.StepPlan). r.rank) e

module _ (p : FlowPlan) (xs : List StepPlan) (same : xs ≡ p.steps) where
  many-steps : length xs ≡ length (flow_view p.flow).steps
  many-steps = ap length same ∙ as-many-steps p

  pub few-steps : length xs ≤ 1000
  few-steps = let m = many-steps in let n : length (flow_view p.flow).steps ≤ 1000 = few is_step 0 1000 (flow_view p.flow).steps (flow-steps (flow_view p.flow) (plan-wired p).formed) in omega (arith, m, n)

  pub rank-low : (k : ℕ) (q : StepPlan) → k < length xs → q ≡ get_or xs k q → q.rank ≤ length xs - 1
  rank-low k q lt is =
      let s = step-of p k q (got-in xs p.steps k q same lt is) in
      let r = planned-rank (flow_view p.flow) q s.0 s.1.1 in
      let b = rank-below (flow_view p.flow) (plan-wired p) k s.0 s.1.0 in
      let m = many-steps in
      omega (arith, r, b, m)

  pub fill-more : (order : List ℕ) (k : ℕ) (q : StepPlan) → k < length xs → q ≡ get_or xs k q → AreFilled (flow_view p.flow) (plan-wired p) order k → AreFilled (flow_view p.flow) (plan-wired p) (set order (length xs - 1 - q.rank) k) (k + 1)
  fill-more order k q lt is h =
      let s = step-of p k q (got-in xs p.steps k q same lt is) in
      let r = planned-rank (flow_view p.flow) q s.0 s.1.1 in
      let at : length xs - 1 - q.rank ≡ length (flow_view p.flow).steps - 1 - position s.0.0 (ranked (flow_view p.flow).steps) = ap (λ n. n - 1 - q.rank) many-steps ∙ ap (λ n. length (flow_view p.flow).steps - 1 - n) r in
      fill-next (flow_view p.flow) (plan-wired p) order (set order (length xs - 1 - q.rank) k) k (length xs - 1 - q.rank) s.0 h s.1.0 at refl (length-set order (length xs - 1 - q.rank) k)

  pub filled-all : (order : List ℕ) (k : ℕ) → length xs ≤ k → AreFilled (flow_view p.flow) (plan-wired p) order k → order ≡ by_falling_rank (flow_view p.flow)
  filled-all order k le h = all-filled (flow_view p.flow) (plan-wired p) order k (let m = many-steps in omega (arith, le, m)) h
