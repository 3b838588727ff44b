-- Turns without asks are taken first, and then the first of the others whose needs are done.
use Rattle.std.specs.Prelude.{◌≡◌, refl, ℕ, zero, suc, ◌+◌, ◌≤◌, ◌⊎◌, List, [], ◌∷◌, ◌++◌, length, Bool, true, false, if◌then◌else◌, Some, option_map}
use Rattle.std.specs.List.{list_any}
use Rattle.std.specs.Option.{option_map_or}
use Rattle.std.proofs.Common.{arith, sym, ap, subst, ◌∙◌, inl, inr, length-append}
use Rattle.tv_lemmas.specs.Members.{In}
use Rattle.tv_lemmas.proofs.Members.{in-append, in-left, in-right, of-all}
use Rattle.tv_lemmas.proofs.Cases.{on_either, on_or}
use Rattle.tv_value.specs.Values.{JobName}
use Rattle.tv_value.specs.Orders.{same_job}
use Rattle.tv_value.proofs.JobNameLemmas.{same_job_decides}
use Rattle.tv_model.specs.Turns.{Turn, all_done, first_turn, asks_by_turns}
use Rattle.tv_model.proofs.Tests.{or_right}
use Rattle.tv_model.proofs.Turns.{or_left}

abbrev pub NonePasses : List JobName → List Turn → Type 0
NonePasses done ts = (t : Turn) → In t ts → all_done done t.needs ≡ false

-- the first that passes, after those that don't
pub record Parted (done : List JobName) (ts : List Turn) : Type 0 where
  pub front : List Turn
  pub turn : Turn
  pub back : List Turn
  pub whole : ts ≡ front ++ turn ∷ back
  pub none : NonePasses done front
  pub passes : all_done done turn.needs ≡ true

pub part : (done : List JobName) (ts : List Turn) → NonePasses done ts ⊎ Parted done ts
part done [] = inl (λ t h. absurd h)
part done (t ∷ ts) = by (all_done done t.needs) refl (part done ts)
  where
    with_it : all_done done t.needs ≡ false → (us : List Turn) → NonePasses done us → NonePasses done (t ∷ us)
    with_it e us f u (inl p) = ap (λ (v : Turn). all_done done v.needs) p ∙ e
    with_it e us f u (inr h) = f u h

    by : (b : Bool) → all_done done t.needs ≡ b → NonePasses done ts ⊎ Parted done ts → NonePasses done (t ∷ ts) ⊎ Parted done (t ∷ ts)
    by true e r = inr (record { front = []; turn = t; back = ts; whole = refl; none = λ u h. absurd h; passes = e })
    by false e (inl f) = inl (with_it e ts f)
    by false e (inr p) = inr (record { front = t ∷ p.front; turn = p.turn; back = p.back; whole = ap (λ l. t ∷ l) p.whole; none = with_it e p.front p.none; passes = p.passes })

pub first-parted : (done : List JobName) (us : List Turn) (t : Turn) (vs : List Turn) → NonePasses done us → all_done done t.needs ≡ true → first_turn done (us ++ t ∷ vs) ≡ Some (t, us ++ vs)
first-parted done [] t vs f e = ap (λ b. if b then Some (t, vs) else option_map (λ r. (r.0, t ∷ r.1)) (first_turn done vs)) e
first-parted done (u ∷ us) t vs f e =
    ap (λ b. if b then Some (u, us ++ t ∷ vs) else option_map (λ r. (r.0, u ∷ r.1)) (first_turn done (us ++ t ∷ vs))) (f u (inl refl))
    ∙ ap (λ o. option_map (λ r. (r.0, u ∷ r.1)) o) (first-parted done us t vs (λ v h. f v (inr h)) e)

-- one turn
pub turn-taken : (n : ℕ) (done : List JobName) (us : List Turn) (t : Turn) (vs : List Turn) → NonePasses done us → all_done done t.needs ≡ true → asks_by_turns (suc n) done (us ++ t ∷ vs) ≡ t.asks ++ asks_by_turns n (t.name ∷ done) (us ++ vs)
turn-taken n done us t vs f e = ap (λ o. option_map_or (λ r. r.0.asks ++ asks_by_turns n (r.0.name ∷ done) r.1) o []) (first-parted done us t vs f e)

shift-append : {A : Type 0} (us : List A) (t : A) (vs xs : List A) → (us ++ t ∷ vs) ++ xs ≡ us ++ t ∷ (vs ++ xs)
shift-append [] t vs xs = refl
shift-append (u ∷ us) t vs xs = ap (λ l. u ∷ l) (shift-append us t vs xs)

pub join-append : {A : Type 0} (us vs xs : List A) → us ++ (vs ++ xs) ≡ (us ++ vs) ++ xs
join-append [] vs xs = refl
join-append (u ∷ us) vs xs = ap (λ l. u ∷ l) (join-append us vs xs)

-- S holds of what is settled
module _ (S : JobName → Type 0) (xs : List Turn) where
  -- the turns without asks were taken as far as they go
  pub record Skipped (n : ℕ) (done : List JobName) (bs : List Turn) : Type 0 where
    pub fuel : ℕ
    pub taken : List JobName
    pub left : List Turn
    pub same : asks_by_turns n done (bs ++ xs) ≡ asks_by_turns fuel taken (left ++ xs)
    pub enough : length (left ++ xs) ≤ fuel
    pub none : NonePasses taken left
    pub kept : (b : Turn) → In b left → In b bs
    pub more : (k : JobName) → list_any (same_job k) done ≡ true → list_any (same_job k) taken ≡ true
    pub cover : (b : Turn) → In b bs → In b left ⊎ (list_any (same_job b.name) taken ≡ true)
    pub settled : (k : JobName) → list_any (same_job k) taken ≡ true → S k

  abbrev AreEmpty : List Turn → Type 0
  AreEmpty bs = (b : Turn) → In b bs → b.asks ≡ []

  -- what has its needs settled is settled
  abbrev AreClosed : List Turn → Type 0
  AreClosed bs = (b : Turn) → In b bs → ((k : JobName) → In k b.needs → S k) → S b.name

  abbrev DoneIn : List JobName → Type 0
  DoneIn done = (k : JobName) → list_any (same_job k) done ≡ true → S k

  stop : (n : ℕ) (done : List JobName) (bs : List Turn) → length (bs ++ xs) ≤ n → DoneIn done → NonePasses done bs → Skipped n done bs
  stop n done bs w d f = record { fuel = n; taken = done; left = bs; same = refl; enough = w; none = f; kept = λ b h. h; more = λ k h. h; cover = λ b h. inl h; settled = d }

  go-on : (n : ℕ) (done : List JobName) (us : List Turn) (t : Turn) (vs : List Turn) → NonePasses done us → all_done done t.needs ≡ true → t.asks ≡ [] → Skipped n (t.name ∷ done) (us ++ vs) → Skipped (suc n) done (us ++ t ∷ vs)
  go-on n done us t vs f e a r =
      record { fuel = r.fuel; taken = r.taken; left = r.left; same = ap (λ l. asks_by_turns (suc n) done l) (shift-append us t vs xs) ∙ turn-taken n done us t (vs ++ xs) f e ∙ ap (λ l. l ++ asks_by_turns n (t.name ∷ done) (us ++ (vs ++ xs))) a ∙ ap (λ l. asks_by_turns n (t.name ∷ done) l) (join-append us vs xs) ∙ r.same; enough = r.enough; none = r.none; kept = λ b h. back b (r.kept b h); more = λ k h. r.more k (or_right (same_job k t.name) (list_any (same_job k) done) h); cover = λ b h. by b (in-append b us (t ∷ vs) h); settled = r.settled }
    where
      back : (b : Turn) → In b (us ++ vs) → In b (us ++ t ∷ vs)
      back b h = on_either (in-append b us vs h) (λ i. in-left b us (t ∷ vs) i) (λ i. in-right b us (t ∷ vs) (inr i))

      by : (b : Turn) → In b us ⊎ In b (t ∷ vs) → In b r.left ⊎ (list_any (same_job b.name) r.taken ≡ true)
      by b (inl i) = r.cover b (in-left b us vs i)
      by b (inr (inl p)) = inr (r.more b.name (or_left (same_job b.name t.name) (list_any (same_job b.name) done) ((same_job_decides b.name t.name).1 (ap (λ (v : Turn). v.name) p))))
      by b (inr (inr i)) = r.cover b (in-right b us vs i)

  fewer : (us : List Turn) (t : Turn) (vs : List Turn) (n : ℕ) → length ((us ++ t ∷ vs) ++ xs) ≤ suc n → length ((us ++ vs) ++ xs) ≤ n
  fewer us t vs n w =
      omega (arith, length-append (us ++ t ∷ vs) xs, length-append (us ++ vs) xs, length-append us (t ∷ vs), length-append us vs, w)

  too_few : (us : List Turn) (t : Turn) (vs : List Turn) → length ((us ++ t ∷ vs) ++ xs) ≤ 0 → ⊥
  too_few us t vs w = omega (arith, length-append (us ++ t ∷ vs) xs, length-append us (t ∷ vs), w)

  -- all turns without asks whose needs are done can be taken, one after another
  pub skip : (n : ℕ) (done : List JobName) (bs : List Turn) → length (bs ++ xs) ≤ n → AreEmpty bs → AreClosed bs → DoneIn done → Skipped n done bs
  skip zero done bs w e c d = on_either (part done bs) (λ f. stop zero done bs w d f) (λ p. absurd (too_few p.front p.turn p.back (subst (λ l. length (l ++ xs) ≤ 0) p.whole w)))
  skip (suc n) done bs w e c d = by (part done bs) (λ k l x y z u. skip n k l x y z u)
    where
      by : NonePasses done bs ⊎ Parted done bs → ((k : List JobName) (l : List Turn) → length (l ++ xs) ≤ n → AreEmpty l → AreClosed l → DoneIn k → Skipped n k l) → Skipped (suc n) done bs
      by (inl f) rec = stop (suc n) done bs w d f
      by (inr p) rec =
          subst (λ l. Skipped (suc n) done l) (sym p.whole)
          (go-on n done p.front p.turn p.back p.none p.passes (e p.turn here) (rec (p.turn.name ∷ done) (p.front ++ p.back) (fewer p.front p.turn p.back n (subst (λ l. length (l ++ xs) ≤ suc n) p.whole w)) (λ b h. e b (within b h)) (λ b h. c b (within b h)) settled_now))
        where
          here : In p.turn bs
          here = subst (λ l. In p.turn l) (sym p.whole) (in-right p.turn p.front (p.turn ∷ p.back) (inl refl))

          within : (b : Turn) → In b (p.front ++ p.back) → In b bs
          within b h = subst (λ l. In b l) (sym p.whole) (on_either (in-append b p.front p.back h) (λ i. in-left b p.front (p.turn ∷ p.back) i) (λ i. in-right b p.front (p.turn ∷ p.back) (inr i)))

          settled_now : DoneIn (p.turn.name ∷ done)
          settled_now k h = on_or (same_job k p.turn.name) (list_any (same_job k) done) h (λ q. subst S (sym ((same_job_decides k p.turn.name).0 q)) (c p.turn here (λ x i. d x (of-all (λ y. list_any (same_job y) done) p.turn.needs p.passes x i)))) (λ q. d k q)
