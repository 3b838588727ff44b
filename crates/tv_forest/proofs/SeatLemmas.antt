-- The seats of an instance later on: the same jobs sit in them, and perhaps more; and of which the flows are open.
use Rattle.std.specs.Prelude.{◌≡◌, ◌≢◌, refl, ℕ, false, List, ◌++◌, Some, slice_get}
use Rattle.std.proofs.Common.{ap, subst, sym, ◌∙◌}
use Rattle.tv_lemmas.proofs.Cases.{on_either}
use Rattle.tv_lemmas.proofs.Lists.{in-front}
use Rattle.tv_model.proofs.Tests.{true≠false}
use Rattle.tv_seats.specs.Seats.{Seat, staged, with_stage}
use Rattle.tv_seats.specs.Stages.{is_nested}
use Rattle.tv_seats.specs.declared.stage.Stage.{Stage}
use Rattle.tv_seats.specs.declared.stage.Stage.TheVariants as stage
use Rattle.tv_seats.proofs.Staging.{staged-here, staged-other}
use Rattle.tv_forest.proofs.seats.Lists.{in-either}
use Rattle.tv_forest.proofs.Lists.{one-at, same-number}

-- each job sits where it sat
abbrev pub Spots : List Seat → List Seat → Type 0
Spots rs us =
    (n : ℕ) (s : Seat) → slice_get rs n ≡ Some s
    → (t : Seat) × (slice_get us n ≡ Some t) × (t.step ≡ s.step) × (t.place ≡ s.place)

-- those that have open flows had them before
abbrev pub WereNested : List Seat → List Seat → Type 0
WereNested rs us =
    (n k : ℕ) (t : Seat) → slice_get us n ≡ Some t → t.stage ≡ stage.Nested k
    → (s : Seat) × (slice_get rs n ≡ Some s) × (s.stage ≡ stage.Nested k)

-- and those that had them have them still
abbrev pub StayNested : List Seat → List Seat → Type 0
StayNested rs us =
    (n k : ℕ) (s t : Seat) → slice_get rs n ≡ Some s → slice_get us n ≡ Some t
    → s.stage ≡ stage.Nested k → t.stage ≡ stage.Nested k

abbrev pub AllWait : List Seat → Type 0
AllWait ns = (n : ℕ) (s : Seat) → slice_get ns n ≡ Some s → s.stage ≡ stage.Waiting

-- the number in a stage
abbrev pub number_of : Stage → ℕ
number_of (stage.Nested l) = l
number_of stage.Waiting = 0
number_of (stage.Out a t) = 0
number_of (stage.Idle a t) = 0
number_of (stage.Aside a) = 0
number_of stage.Settled = 0

pub not-nested : (x : Stage) (k : ℕ) → is_nested x ≡ false → x ≡ stage.Nested k → ⊥
not-nested x k p e = true≠false (sym (ap is_nested e) ∙ p)

pub waiting-not_nested : (x : Stage) (k : ℕ) → x ≡ stage.Waiting → x ≡ stage.Nested k → ⊥
waiting-not_nested x k e = not-nested x k (ap is_nested e)

-- ---- the same seats

pub spots-same : (rs : List Seat) → Spots rs rs
spots-same rs n s e = (s, e, refl, refl)

pub were-same : (rs : List Seat) → WereNested rs rs
were-same rs n k t e h = (t, e, h)

pub stay-same : (rs : List Seat) → StayNested rs rs
stay-same rs n k s t e f h = ap (λ (u : Seat). u.stage) (one-at rs n t s f e) ∙ h

-- ---- one at another stage

module _ (rs : List Seat) (n : ℕ) (s : Seat) (x : Stage) (there : slice_get rs n ≡ Some s) where
  abbrev us : List Seat
  us = with_stage n x rs

  here : (m : ℕ) → m ≡ n → slice_get us m ≡ Some (staged x s)
  here m is = subst (λ k. slice_get us k ≡ Some (staged x s)) (sym is) (staged-here rs n s x there)

  pub was-here : (m : ℕ) (r : Seat) → m ≡ n → slice_get rs m ≡ Some r → s ≡ r
  was-here m r is e = one-at rs n s r there (subst (λ k. slice_get rs k ≡ Some r) is e)

  -- another seat, and this one
  pub other-seat : (m : ℕ) (t : Seat) → m ≢ n → slice_get us m ≡ Some t → slice_get rs m ≡ Some t
  other-seat m t ne e = sym (staged-other rs n s x there m ne) ∙ e

  pub this-seat : (m : ℕ) (t : Seat) → m ≡ n → slice_get us m ≡ Some t → t ≡ staged x s
  this-seat m t is e = one-at us m t (staged x s) e (here m is)

  pub this-stage : (m : ℕ) (t : Seat) → m ≡ n → slice_get us m ≡ Some t → t.stage ≡ x
  this-stage m t is e = ap (λ (u : Seat). u.stage) (this-seat m t is e)

  pub spots-staged : Spots rs us
  spots-staged m r e =
      same-number m n
      (λ is.
      let q = was-here m r is e in
      (staged x s, here m is, ap (λ (u : Seat). u.step) q, ap (λ (u : Seat). u.place) q))
      (λ ne. (r, staged-other rs n s x there m ne ∙ e, refl, refl))

  pub were-staged : is_nested x ≡ false → WereNested rs us
  were-staged p m k t e h =
      same-number m n (λ is. absurd (not-nested x k p (sym (this-stage m t is e) ∙ h)))
      (λ ne. (t, other-seat m t ne e, h))

  pub stay-staged : is_nested s.stage ≡ false → StayNested rs us
  stay-staged p m k r t e f h =
      same-number m n
      (λ is. absurd (not-nested s.stage k p (ap (λ (u : Seat). u.stage) (was-here m r is e) ∙ h)))
      (λ ne. stay-same rs m k r t e (other-seat m t ne f) h)

-- ---- more seats

module _ (rs us ns : List Seat) where
  pub spots-behind : Spots rs us → Spots rs (us ++ ns)
  spots-behind on n s e = let r = on n s e in (r.0, in-front us ns n r.0 r.1, r.2, r.3)

  pub were-behind : AllWait ns → WereNested rs us → WereNested rs (us ++ ns)
  were-behind new were n k t e h =
      on_either (in-either us ns n t e) (λ f. were n k t f h)
      (λ r. absurd (waiting-not_nested t.stage k (new r.0 t r.1) h))

  pub stay-behind : Spots rs us → StayNested rs us → StayNested rs (us ++ ns)
  stay-behind on stay n k s t e f h =
      let r = on n s e in
      ap (λ (u : Seat). u.stage) (one-at (us ++ ns) n t r.0 f (in-front us ns n r.0 r.1)) ∙ stay n k s r.0 e r.1 h
