-- The order of one worker has each ask once.
use Rattle.std.specs.Prelude.{◌≡◌, refl, ℕ, zero, suc, ◌≤◌, ◌⊎◌, List, [], ◌∷◌, ◌++◌, length, Bool, true, false, Option, Some, None, option_map, flat_map, IsPermutation, if◌then◌else◌}
use Rattle.std.specs.List.{list_any}
use Rattle.std.specs.Option.{option_map_or}
use Rattle.std.proofs.Common.{arith, sym, ap, subst, ◌∙◌, inl, inr}
use Rattle.std.proofs.lemmas.List.Sorted.{IsPermutation-refl, IsPermutation-append_right, IsPermutation-trans}
use Rattle.tv_value.specs.Values.{JobName}
use Rattle.tv_value.specs.Orders.{same_job}
use Rattle.tv_dispatch.specs.Jobs.{Ask}
use Rattle.tv_model.specs.Turns.{Turn, all_done, asks_by_turns, first_turn}
use Rattle.tv_model.proofs.Tests.{true≠false, both_true, or_right}
pub use Rattle.std.proofs.lemmas.Bool.{or_left}
use Rattle.tv_lemmas.specs.Members.{Each, In}
use Rattle.tv_lemmas.proofs.Lists.{permute-front}
use Rattle.tv_strategy.proofs.Each.{each-weaken}

abbrev pub turn_asks : List Turn → List (JobName × Ask)
turn_asks ts = flat_map (λ t. t.asks) ts

-- what it means that t is taken out of ts, and `rest` is left
pub record IsTaken (done : List JobName) (ts : List Turn) (t : Turn) (rest : List Turn) : Type 0 where
  pub from : In t ts
  pub kept : (u : Turn) → In u rest → In u ts
  pub only : (u : Turn) → In u ts → (u ≡ t) ⊎ In u rest
  pub asks : IsPermutation (t.asks ++ turn_asks rest) (turn_asks ts)
  pub fewer : length ts ≡ suc (length rest)

-- nothing in the list has its needs done
abbrev NoneDone : List JobName → List Turn → Type 0
NoneDone done ts = (u : Turn) → In u ts → all_done done u.needs ≡ false

abbrev pub Found : List JobName → List Turn → Option (Turn × List Turn) → Type 0
Found done ts None = NoneDone done ts
Found done ts (Some r) = IsTaken done ts r.0 r.1

later-kept : (t : Turn) (ts rest : List Turn) → ((u : Turn) → In u rest → In u ts) → (u : Turn) → In u (t ∷ rest) → In u (t ∷ ts)
later-kept t ts rest k u (inl p) = inl p
later-kept t ts rest k u (inr h) = inr (k u h)

later-only : (t s : Turn) (ts rest : List Turn) → ((u : Turn) → In u ts → (u ≡ s) ⊎ In u rest) → (u : Turn) → In u (t ∷ ts) → (u ≡ s) ⊎ In u (t ∷ rest)
later-only t s ts rest o u (inl p) = inr (inl p)
later-only t s ts rest o u (inr h) = deeper (o u h)
  where
    deeper : (u ≡ s) ⊎ In u rest → (u ≡ s) ⊎ In u (t ∷ rest)
    deeper (inl p) = inl p
    deeper (inr k) = inr (inr k)

later-none : (done : List JobName) (t : Turn) (ts : List Turn) → all_done done t.needs ≡ false → NoneDone done ts → NoneDone done (t ∷ ts)
later-none done t ts e f u (inl p) = subst (λ s. all_done done s.needs ≡ false) (sym p) e
later-none done t ts e f u (inr h) = f u h

turn-step : (done : List JobName) (t : Turn) (ts : List Turn) (b : Bool) → all_done done t.needs ≡ b → (o : Option (Turn × List Turn)) → Found done ts o → Found done (t ∷ ts) (if b then Some (t, ts) else option_map (λ r. (r.0, t ∷ r.1)) o)
turn-step done t ts true e o f = record { from = inl refl; kept = λ u h. inr h; only = λ u h. h; asks = IsPermutation-refl (t.asks ++ turn_asks ts); fewer = refl }
turn-step done t ts false e None f = later-none done t ts e f
turn-step done t ts false e (Some r) f =
    record { from = inr f.from; kept = later-kept t ts r.1 f.kept; only = later-only t r.0 ts r.1 f.only; asks = IsPermutation-trans _ _ _ (permute-front r.0.asks t.asks (turn_asks r.1)) (IsPermutation-append_right t.asks (r.0.asks ++ turn_asks r.1) (turn_asks ts) f.asks); fewer = ap suc f.fewer }

pub first_turn-found : (done : List JobName) (ts : List Turn) → Found done ts (first_turn done ts)
first_turn-found done [] = λ u h. absurd h
first_turn-found done (t ∷ ts) = turn-step done t ts (all_done done t.needs) refl (first_turn done ts) (first_turn-found done ts)

-- ---- there is always a turn, where needs go down

-- t can be taken within k rounds: each need is done, or waits and can be taken within fewer
abbrev pub HasRate : List JobName → List Turn → ℕ → Turn → Type 0
HasRate done ts zero t = ⊥
HasRate done ts (suc k) t = Each (λ n. (list_any (same_job n) done ≡ true) ⊎ ((u : Turn) × In u ts × (same_job n u.name ≡ true) × HasRate done ts k u)) t.needs

abbrev pub AllRated : List JobName → List Turn → Type 0
AllRated done ts = (t : Turn) → In t ts → (k : ℕ) × HasRate done ts k t

abbrev Waits : List JobName → List Turn → ℕ → JobName → Type 0
Waits done ts k n = (list_any (same_job n) done ≡ true) ⊎ ((u : Turn) × In u ts × (same_job n u.name ≡ true) × HasRate done ts k u)

abbrev DoneOrLower : List JobName → List Turn → ℕ → List JobName → Type 0
DoneOrLower done ts k ns = (all_done done ns ≡ true) ⊎ ((u : Turn) × In u ts × HasRate done ts k u)

lower_or : (done : List JobName) (ts : List Turn) (k : ℕ) (n : JobName) (ns : List JobName) → Waits done ts k n → DoneOrLower done ts k ns → DoneOrLower done ts k (n ∷ ns)
lower_or done ts k n ns (inr u) o = inr (u.0, u.1, u.3)
lower_or done ts k n ns (inl e) (inr u) = inr u
lower_or done ts k n ns (inl e) (inl h) = inl (both_true (list_any (same_job n) done) (all_done done ns) e h)

lower : (done : List JobName) (ts : List Turn) (k : ℕ) (ns : List JobName) → Each (Waits done ts k) ns → DoneOrLower done ts k ns
lower done ts k [] h = inl refl
lower done ts k (n ∷ ns) h = lower_or done ts k n ns h.0 (lower done ts k ns h.1)

some_or : (done : List JobName) (ts : List Turn) (k : ℕ) (t : Turn) → In t ts → NoneDone done ts → ((u : Turn) → In u ts → HasRate done ts k u → ⊥) → DoneOrLower done ts k t.needs → ⊥
some_or done ts k t h none rec (inl e) = true≠false (sym e ∙ none t h)
some_or done ts k t h none rec (inr u) = rec u.0 u.1 u.2

some_done : (done : List JobName) (ts : List Turn) → NoneDone done ts → (k : ℕ) (t : Turn) → In t ts → HasRate done ts k t → ⊥
some_done done ts none zero t h w = w
some_done done ts none (suc k) t h w = some_or done ts k t h none (λ u i v. some_done done ts none k u i v) (lower done ts k t.needs w)

-- ---- after a turn

waits_after : (done : List JobName) (ts : List Turn) (s : Turn) (rest : List Turn) (k : ℕ) → ((u : Turn) → HasRate done ts k u → HasRate (s.name ∷ done) rest k u) → IsTaken done ts s rest → (n : JobName) → Waits done ts k n → Waits (s.name ∷ done) rest k n
waits_after done ts s rest k rec i n (inl e) = inl (or_right (same_job n s.name) (list_any (same_job n) done) e)
waits_after done ts s rest k rec i n (inr u) = place (i.only u.0 u.1)
  where
    place : (u.0 ≡ s) ⊎ In u.0 rest → Waits (s.name ∷ done) rest k n
    place (inl p) = inl (or_left (same_job n s.name) (list_any (same_job n) done) (subst (λ v. same_job n v.name ≡ true) p u.2))
    place (inr h) = inr (u.0, h, u.2, rec u.0 u.3)

rate_after : (done : List JobName) (ts : List Turn) (s : Turn) (rest : List Turn) → IsTaken done ts s rest → (k : ℕ) (t : Turn) → HasRate done ts k t → HasRate (s.name ∷ done) rest k t
rate_after done ts s rest i zero t h = h
rate_after done ts s rest i (suc k) t h =
    each-weaken (Waits done ts k) (Waits (s.name ∷ done) rest k) (waits_after done ts s rest k (λ u v. rate_after done ts s rest i k u v) i) t.needs h

-- the order has the asks of all turns, each as often
turns-nothing : (n : ℕ) (done : List JobName) → IsPermutation (asks_by_turns n done []) []
turns-nothing zero done = IsPermutation-refl []
turns-nothing (suc n) done = IsPermutation-refl []

one_turn : (n : ℕ) (done : List JobName) (ts : List Turn) → length ts ≤ suc n → AllRated done ts → (t : Turn) → In t ts → ((d : List JobName) (r : List Turn) → length r ≤ n → AllRated d r → IsPermutation (asks_by_turns n d r) (turn_asks r)) → (o : Option (Turn × List Turn)) → Found done ts o → IsPermutation (option_map_or (λ r. r.0.asks ++ asks_by_turns n (r.0.name ∷ done) r.1) o []) (turn_asks ts)
one_turn n done ts w g t h rec None f = absurd (some_done done ts f (g t h).0 t h (g t h).1)
one_turn n done ts w g t h rec (Some r) f =
    IsPermutation-trans _ _ _ (IsPermutation-append_right r.0.asks (asks_by_turns n (r.0.name ∷ done) r.1) (turn_asks r.1) (rec (r.0.name ∷ done) r.1 (omega (arith, f.fewer, w)) rated)) f.asks
  where
    rated : AllRated (r.0.name ∷ done) r.1
    rated u i = ((g u (f.kept u i)).0, rate_after done ts r.0 r.1 f (g u (f.kept u i)).0 u (g u (f.kept u i)).1)

pub turns-asks : (n : ℕ) (done : List JobName) (ts : List Turn) → length ts ≤ n → AllRated done ts → IsPermutation (asks_by_turns n done ts) (turn_asks ts)
turns-asks n done [] w g = turns-nothing n done
turns-asks zero done (t ∷ ts) w g = absurd (omega (arith, w))
turns-asks (suc n) done (t ∷ ts) w g =
    one_turn n done (t ∷ ts) w g t (inl refl) (λ d r v h. turns-asks n d r v h) (first_turn done (t ∷ ts)) (first_turn-found done (t ∷ ts))
