-- What waits at a step: with an event the thing that it settles is gone, and all lists and faults that are brought wait.
use Rattle.std.specs.List.{sum_by}
use Rattle.std.specs.Prelude.{◌≡◌, refl, ℕ, ◌+◌, ◌≤◌, ◌&&◌, ◌||◌, Bool, true, false, cond, not, filter, if◌then◌else◌, flat_map, List, [], ◌∷◌, ◌++◌, length, map, IsPermutation}
use Rattle.std.proofs.Common.{arith, sym, ap, ap₂, subst, ◌∙◌, inl, inr, length-append}
use Rattle.std.proofs.lemmas.Bool.{and_parts, true≢false}
use Rattle.std.proofs.lemmas.List.Sorted.{IsPermutation-sym, IsPermutation-trans, IsPermutation-append_left, sum_by-IsPermutation}
use Rattle.std.proofs.lemmas.List.Sums.{sum_by-append, sum_by-cons}
use Rattle.std.proofs.lemmas.List.Elements.{filter-append}
use Rattle.tv_lemmas.specs.Members.{Each, In}
use Rattle.tv_lemmas.proofs.Members.{in-left, in_each}
use Rattle.tv_value.specs.Nested.{Place}
use Rattle.tv_value.specs.Orders.{same_name}
use Rattle.tv_value.specs.Values.{JobName, Name}
use Rattle.tv_strategy.specs.Splits.{same_place}
use Rattle.tv_strategy.proofs.PlaceLemmas.{same-equal, same-itself}
use Rattle.tv_matching.specs.Items.{Bound, Item, Stopped, Kind, closes, ends, if_so, known_items, passes}
use Rattle.tv_matching.specs.Matchers.{Outcome, fault_at, job_at, list_at}
use Rattle.tv_matching.specs.Members.{Once, at_place}
use Rattle.tv_matching.proofs.Members.{in-permutes}
use Rattle.tv_matching.proofs.Onces.{known-once}
use Rattle.tv_matching.proofs.Permutes.{flat-permutes, perm-from}
use Rattle.tv_intake.specs.Sorting.{others_among}
use Rattle.tv_model.specs.instance.ByResults.{InstanceStep}
use Rattle.tv_model.specs.instance.Events as events
use Rattle.tv_model.specs.instance.Events.{Event, Events, fault_set, gave, has_level, is_spot, known_by, levels_at, took}
use Rattle.tv_model.specs.instance.Legality.{AreLegal, IsLegalNext}
use Rattle.tv_framing.specs.instances.InHistory.{Finds}
use Rattle.tv_framing.proofs.Frames.{legal-known, after-more}
use Rattle.tv_framing.proofs.Ports.{known-or_gained}
use Rattle.tv_framing.specs.Gaining.{gained_items}
use Rattle.tv_framing.specs.matches.Items.{standing, standing_kind, unnamed}
use Rattle.tv_framing.specs.matches.Waiting.{IsLeft, IsLeftBy, IsLessOne, is_waiting, waiting_of}
use Rattle.tv_match.specs.Stated.{outcome_place}

-- ---- parts of lists

filter-flat : {A : Type 0} (p : A → Bool) (xs : List A) → filter p xs ≡ flat_map (λ x. if_so (p x) x) xs
filter-flat p [] = refl
filter-flat p (x ∷ xs) = by (p x) (filter-flat p xs)
  where
    by : (b : Bool) → filter p xs ≡ flat_map (λ y. if_so (p y) y) xs → (if b then x ∷ filter p xs else filter p xs) ≡ if_so b x ++ flat_map (λ y. if_so (p y) y) xs
    by true e = ap (λ l. x ∷ l) e
    by false e = e

filter-permutes : {A : Type 0} (p : A → Bool) (xs ys : List A) → IsPermutation xs ys → IsPermutation (filter p xs) (filter p ys)
filter-permutes p xs ys h =
    IsPermutation-trans _ _ _ (perm-from _ _ (filter-flat p xs))
    (IsPermutation-trans _ _ _ (flat-permutes (λ x. if_so (p x) x) xs ys h) (perm-from _ _ (sym (filter-flat p ys))))

filter-same : {A : Type 0} (p r : A → Bool) → ((x : A) → p x ≡ r x) → (xs : List A) → filter p xs ≡ filter r xs
filter-same p r h [] = refl
filter-same p r h (x ∷ xs) = ap (λ b. if b then x ∷ filter p xs else filter p xs) (h x) ∙ ap (λ l. if r x then x ∷ l else l) (filter-same p r h xs)

filter-filter : {A : Type 0} (p r : A → Bool) (xs : List A) → filter p (filter r xs) ≡ filter (λ x. p x && r x) xs
filter-filter p r [] = refl
filter-filter p r (x ∷ xs) = by (p x) (r x) refl (filter-filter p r xs)
  where
    by : (a b : Bool) → p x ≡ a → filter p (filter r xs) ≡ filter (λ y. p y && r y) xs → filter p (if b then x ∷ filter r xs else filter r xs) ≡ (if a && b then x ∷ filter (λ y. p y && r y) xs else filter (λ y. p y && r y) xs)
    by true true e k = ap (λ c. if c then x ∷ filter p (filter r xs) else filter p (filter r xs)) e ∙ ap (λ l. x ∷ l) k
    by true false e k = k
    by false true e k = ap (λ c. if c then x ∷ filter p (filter r xs) else filter p (filter r xs)) e ∙ k
    by false false e k = k

-- ---- how often something stands at a place

abbrev one_at : Place → Outcome → ℕ
one_at q o = cond (same_place q (outcome_place o)) 1 0

abbrev times_at : Place → List Outcome → ℕ
times_at q os = sum_by (one_at q) os

times-unnamed : (q : Place) (os : List Outcome) → times_at q (map unnamed os) ≡ times_at q os
times-unnamed q [] = refl
times-unnamed q (o ∷ os) =
    sum_by-cons (one_at q) (unnamed o) (map unnamed os) ∙ ap₂ (λ a b. a + b) (by o) (times-unnamed q os) ∙ sym (sum_by-cons (one_at q) o os)
  where
    by : (o : Outcome) → one_at q (unnamed o) ≡ one_at q o
    by (job_at r) = refl
    by (list_at r n) = refl
    by (fault_at r l) = refl

times-standing : {X F : Type 0} (q : Place) (xs : List (Item X F)) → times_at q (map standing xs) ≡ length (at_place q xs)
times-standing q [] = refl
times-standing {X} {F} q (x ∷ xs) =
    sum_by-cons (one_at q) (standing x) (map standing xs) ∙ ap₂ (λ a b. a + b) (ap (λ r. cond (same_place q r) 1 0) (by x.place x.kind) ∙ one (same_place q x.place)) (times-standing q xs)
    ∙ sym (length-append (if_so (same_place q x.place) x) (at_place q xs))
  where
    by : (r : Place) (k : Kind X F) → outcome_place (standing_kind r k) ≡ r
    by r (ends b) = refl
    by r (closes n) = refl
    by r (passes f) = refl

    one : (b : Bool) → cond b 1 0 ≡ length (if_so b x)
    one true = refl
    one false = refl

-- no two outcomes stand at one place
pub outcomes-once : {X F : Type 0} (os : List Outcome) (xs : List (Item X F)) → IsPermutation (map unnamed os) (map standing xs) → Once xs → (q : Place) → times_at q os ≤ 1
outcomes-once os xs h once q =
    subst (λ n. n ≤ 1) (sym (times-standing q xs) ∙ sum_by-IsPermutation (one_at q) (map unnamed os) (map standing xs) h ∙ times-unnamed q os) (once q)

one-here : (q : Place) (o : Outcome) → outcome_place o ≡ q → one_at q o ≡ 1
one-here q o e = ap (λ r. cond (same_place q r) 1 0) e ∙ ap (λ b. cond b 1 0) (same-itself q)

some-here : (q : Place) (o : Outcome) (os : List Outcome) → In o os → outcome_place o ≡ q → 1 ≤ times_at q os
some-here q o [] i e = absurd i
some-here q o (u ∷ os) (inl h) e = more (one_at q u) (times_at q os) (times_at q (u ∷ os)) (ap (one_at q) (sym h) ∙ one-here q o e) (sum_by-cons (one_at q) u os)
  where
    more : (a b c : ℕ) → a ≡ 1 → c ≡ a + b → 1 ≤ c
    more a b c e f = omega arith
some-here q o (u ∷ os) (inr h) e = more (one_at q u) (times_at q os) (times_at q (u ∷ os)) (some-here q o os h e) (sum_by-cons (one_at q) u os)
  where
    more : (a b c : ℕ) → 1 ≤ b → c ≡ a + b → 1 ≤ c
    more a b c e f = omega arith

fewer : (q : Place) (p : Outcome → Bool) (os : List Outcome) → times_at q (filter p os) ≤ times_at q os
fewer q p [] = omega arith
fewer q p (o ∷ os) = by (p o) (fewer q p os)
  where
    by : (b : Bool) → times_at q (filter p os) ≤ times_at q os → times_at q (if b then o ∷ filter p os else filter p os) ≤ times_at q (o ∷ os)
    by true h = more (one_at q o) (times_at q (filter p os)) (times_at q os) (times_at q (o ∷ filter p os)) (times_at q (o ∷ os)) h (sum_by-cons (one_at q) o (filter p os)) (sum_by-cons (one_at q) o os)
      where
        more : (a m n c d : ℕ) → m ≤ n → c ≡ a + m → d ≡ a + n → c ≤ d
        more a m n c d h e f = omega arith
    by false h = more (one_at q o) (times_at q (filter p os)) (times_at q os) (times_at q (o ∷ os)) h (sum_by-cons (one_at q) o os)
      where
        more : (a m n d : ℕ) → m ≤ n → d ≡ a + n → m ≤ d
        more a m n d h f = omega arith

-- ---- what is left

abbrev elsewhere : Place → Outcome → Bool
elsewhere q o = not (same_place (outcome_place o) q)

elsewhere-all : (q : Place) (os : List Outcome) → times_at q os ≡ 0 → filter (elsewhere q) os ≡ os
elsewhere-all q [] e = refl
elsewhere-all q (o ∷ os) e =
    by (same_place (outcome_place o) q) refl
    (elsewhere-all q os (less (one_at q o) (times_at q os) (sym (sum_by-cons (one_at q) o os) ∙ e)))
  where
    less : (a b : ℕ) → a + b ≡ 0 → b ≡ 0
    less a b h = omega arith

    first : (a b : ℕ) → a ≡ 1 → a + b ≡ 0 → ⊥
    first a b h k = omega arith

    by : (b : Bool) → same_place (outcome_place o) q ≡ b → filter (elsewhere q) os ≡ os → (if not b then o ∷ filter (elsewhere q) os else filter (elsewhere q) os) ≡ o ∷ os
    by true h k = absurd (first (one_at q o) (times_at q os) (one-here q o (same-equal (outcome_place o) q h)) (sym (sum_by-cons (one_at q) o os) ∙ e))
    by false h k = ap (λ l. o ∷ l) k

elsewhere-first : (q : Place) (o : Outcome) (os : List Outcome) → outcome_place o ≡ q → filter (elsewhere q) (o ∷ os) ≡ filter (elsewhere q) os
elsewhere-first q o os e = ap (λ b. if not b then o ∷ filter (elsewhere q) os else filter (elsewhere q) os) (ap (λ r. same_place r q) e ∙ same-itself q)

-- with the event the thing at its place is gone from what waits, and nothing else
own-test : (b c : Bool) → not (b || c) ≡ (not b && not c)
own-test true c = refl
own-test false c = refl

settled-own : (es : Events) (e : Event) (s : Name) (q : Place) → ((r : Place) → levels_at s r e ≡ same_place r q) → (os : List Outcome) → waiting_of (e ∷ es) s os ≡ filter (elsewhere q) (waiting_of es s os)
settled-own es e s q h os =
    filter-same (is_waiting (e ∷ es) s) (λ o. elsewhere q o && is_waiting es s o) by os ∙ sym (filter-filter (elsewhere q) (is_waiting es s) os)
  where
    none : (b : Bool) → false ≡ (not b && false)
    none true = refl
    none false = refl

    by : (o : Outcome) → is_waiting (e ∷ es) s o ≡ (elsewhere q o && is_waiting es s o)
    by (job_at r) = none (same_place r q)
    by (list_at r n) = ap (λ b. not (b || has_level es s r)) (h r) ∙ own-test (same_place r q) (has_level es s r)
    by (fault_at r l) = ap (λ b. not (b || has_level es s r)) (h r) ∙ own-test (same_place r q) (has_level es s r)

settled-other : (es : Events) (e : Event) (s : Name) → ((r : Place) → levels_at s r e ≡ false) → (os : List Outcome) → waiting_of (e ∷ es) s os ≡ waiting_of es s os
settled-other es e s h os = filter-same (is_waiting (e ∷ es) s) (is_waiting es s) by os
  where
    by : (o : Outcome) → is_waiting (e ∷ es) s o ≡ is_waiting es s o
    by (job_at r) = refl
    by (list_at r n) = ap (λ b. not (b || has_level es s r)) (h r)
    by (fault_at r l) = ap (λ b. not (b || has_level es s r)) (h r)

module _ (es : Events) (s : Name) (os : List Outcome) (once : (q : Place) → times_at q os ≤ 1) (before left : List Outcome) (waits : IsPermutation before (waiting_of es s os)) where
  left-own : (e : Event) (q : Place) → ((r : Place) → levels_at s r e ≡ same_place r q) → IsLessOne before left q → IsPermutation left (waiting_of (e ∷ es) s os)
  left-own e q h w =
      let all : IsPermutation (waiting_of es s os) (w.gone ∷ left) = IsPermutation-trans _ _ _ (IsPermutation-sym _ _ waits) w.rest in
      let few : times_at q left ≡ 0 =
      none (one_at q w.gone) (times_at q left) (times_at q (w.gone ∷ left)) (times_at q (waiting_of es s os)) (times_at q os) (one-here q w.gone w.stands) (sum_by-cons (one_at q) w.gone left) (sum_by-IsPermutation (one_at q) (waiting_of es s os) (w.gone ∷ left) all) (fewer q (is_waiting es s) os) (once q)
      in
      IsPermutation-trans _ _ _ (perm-from _ _ (sym (elsewhere-first q w.gone left w.stands ∙ elsewhere-all q left few)))
      (IsPermutation-trans _ _ _ (filter-permutes (elsewhere q) (w.gone ∷ left) (waiting_of es s os) (IsPermutation-sym _ _ all)) (perm-from _ _ (sym (settled-own es e s q h os))))
    where
      none : (a b c d n : ℕ) → a ≡ 1 → c ≡ a + b → c ≡ d → d ≤ n → n ≤ 1 → b ≡ 0
      none a b c d n e f g k l = omega arith

  left-other : (e : Event) → ((r : Place) → levels_at s r e ≡ false) → IsPermutation before left → IsPermutation left (waiting_of (e ∷ es) s os)
  left-other e h w = IsPermutation-trans _ _ _ (IsPermutation-sym _ _ w) (IsPermutation-trans _ _ _ waits (perm-from _ _ (sym (settled-other es e s h os))))

  left-by : (e : Event) (t : Name) (q : Place) → ((r : Place) → levels_at s r e ≡ is_spot s r t q) → (b : Bool) → same_name s t ≡ b → IsLeftBy b before left q → IsPermutation left (waiting_of (e ∷ es) s os)
  left-by e t q h true g w = left-own e q (λ r. h r ∙ ap (λ b. b && same_place r q) g) w
  left-by e t q h false g w = left-other e (λ r. h r ∙ ap (λ b. b && same_place r q) g) w

  pub left-waits : (e : Event) → IsLeft e s before left → IsPermutation left (waiting_of (e ∷ es) s os)
  left-waits (gave t q vs) w = left-other (gave t q vs) (λ r. refl) w
  left-waits (events.closed t q n) w = left-by (events.closed t q n) t q (λ r. refl) (same_name s t) refl w
  left-waits (fault_set t q d) w = left-by (fault_set t q d) t q (λ r. refl) (same_name s t) refl w
  left-waits (took t q) w = left-other (took t q) (λ r. refl) w

-- ---- what is brought

-- nothing was told of it, where it is no job
abbrev pub IsUntold : Events → Name → Outcome → Type 0
IsUntold es s (job_at q) = Unit {0}
IsUntold es s (list_at q n) = has_level es s q ≡ false
IsUntold es s (fault_at q l) = has_level es s q ≡ false

untold-waits : (es : Events) (s : Name) (os : List Outcome) → Each (IsUntold es s) os → waiting_of es s os ≡ others_among os
untold-waits es s [] h = refl
untold-waits es s (job_at q ∷ os) h = untold-waits es s os h.1
untold-waits es s (list_at q n ∷ os) h = ap (λ b. if not b then list_at q n ∷ waiting_of es s os else waiting_of es s os) h.0 ∙ ap (λ l. list_at q n ∷ l) (untold-waits es s os h.1)
untold-waits es s (fault_at q l ∷ os) h = ap (λ b. if not b then fault_at q l ∷ waiting_of es s os else waiting_of es s os) h.0 ∙ ap (λ us. fault_at q l ∷ us) (untold-waits es s os h.1)

pub all-wait : (s : Name) (os : List Outcome) → waiting_of [] s os ≡ others_among os
all-wait s [] = refl
all-wait s (job_at q ∷ os) = all-wait s os
all-wait s (list_at q n ∷ os) = ap (λ l. list_at q n ∷ l) (all-wait s os)
all-wait s (fault_at q l ∷ os) = ap (λ us. fault_at q l ∷ us) (all-wait s os)

pub waiting-permutes : (es : Events) (s : Name) (os ps : List Outcome) → IsPermutation os ps → IsPermutation (waiting_of es s os) (waiting_of es s ps)
waiting-permutes es s os ps h = filter-permutes (is_waiting es s) os ps h

pub taking-leaves : (es : Events) (t s : Name) (q : Place) (os : List Outcome) → waiting_of (took t q ∷ es) s os ≡ waiting_of es s os
taking-leaves es t s q os = settled-other es (took t q) s (λ r. refl) os

pub waits-more : (es : Events) (e : Event) (s : Name) (os brought left : List Outcome) → IsPermutation left (waiting_of (e ∷ es) s os) → Each (IsUntold (e ∷ es) s) brought → IsPermutation (left ++ others_among brought) (waiting_of (e ∷ es) s (os ++ brought))
waits-more es e s os brought left h k =
    IsPermutation-trans _ _ _ (IsPermutation-append_left (others_among brought) left (waiting_of (e ∷ es) s os) h)
    (perm-from _ _ (ap (λ l. waiting_of (e ∷ es) s os ++ l) (sym (untold-waits (e ∷ es) s brought k)) ∙ sym (filter-append (is_waiting (e ∷ es) s) os brought)))

-- ---- of what was told something is known

module _ (instance : JobName) (fs : List InstanceStep) (f : InstanceStep) (self : Finds fs f) where
  abbrev pub KnownAt : Events → Place → Type 0
  KnownAt es q = (x : Item Bound Stopped) × In x (known_items (known_by instance es) f.step.iteration) × (x.place ≡ q)

  still-known : (e : Event) (es : Events) (q : Place) → KnownAt es q → KnownAt (e ∷ es) q
  still-known e es q h = (
    h.0,
    in-permutes h.0 (known_items (known_by instance (e ∷ es)) f.step.iteration) (known_items (known_by instance es) f.step.iteration ++ gained_items (known_by instance es) (known_by instance (e ∷ es)) f.step.iteration)
        (known-or_gained (known_by instance es) (known_by instance (e ∷ es)) (after-more instance e es) f.step.iteration)
        (in-left h.0 (known_items (known_by instance es) f.step.iteration) (gained_items (known_by instance es) (known_by instance (e ∷ es)) f.step.iteration) h.1),
    h.2,
  )

  event-known : (e : Event) (es : Events) → IsLegalNext instance fs es e → (q : Place) → levels_at f.step.step q e ≡ true → KnownAt es q
  event-known (gave t r vs) es h q k = absurd (true≢false (sym k))
  event-known (events.closed t r n) es h q k =
      let p = and_parts (same_name f.step.step t) (same_place q r) k in
      let w = legal-known instance fs f self es (events.closed t r n) p.0 h in
      (w.0, w.1, w.2 ∙ sym (same-equal q r p.1))
  event-known (fault_set t r d) es h q k =
      let p = and_parts (same_name f.step.step t) (same_place q r) k in
      let w = legal-known instance fs f self es (fault_set t r d) p.0 h in
      (w.0, w.1, w.2 ∙ sym (same-equal q r p.1))
  event-known (took t r) es h q k = absurd (true≢false (sym k))

  -- at the event's own place, or where it was told before
  known-by : (e : Event) (es : Events) → IsLegalNext instance fs es e → (q : Place) (b : Bool) → levels_at f.step.step q e ≡ b → (b || has_level es f.step.step q) ≡ true → (has_level es f.step.step q ≡ true → KnownAt es q) → KnownAt es q
  known-by e es h q true g k rec = event-known e es h q g
  known-by e es h q false g k rec = rec k

  level-known_at : (es : Events) → AreLegal instance fs es → (q : Place) → has_level es f.step.step q ≡ true → KnownAt es q
  level-known_at [] l q k = absurd (true≢false (sym k))
  level-known_at (e ∷ es) l q k = still-known e es q (known-by e es l.0 q (levels_at f.step.step q e) refl k (λ g. level-known_at es l.1 q g))

  -- where a list or fault was told, it was known before
  pub told-known : (e : Event) (es : Events) → IsLegalNext instance fs es e → AreLegal instance fs es → (q : Place) → has_level (e ∷ es) f.step.step q ≡ true → KnownAt es q
  told-known e es h l q k = known-by e es h q (levels_at f.step.step q e) refl k (λ g. level-known_at es l q g)

  -- ---- so what is brought wasn't told

  module _ (e : Event) (es : Events) (next : IsLegalNext instance fs es e) (legal : AreLegal instance fs es) (os brought : List Outcome)
      (stand : IsPermutation (map unnamed (os ++ brought)) (map standing (known_items (known_by instance (e ∷ es)) f.step.iteration)))
      (outcome_of : (x : Item Bound Stopped) → In x (known_items (known_by instance es) f.step.iteration) → (o : Outcome) × In o os × (standing x ≡ unnamed o)) where
    place-standing : (x : Item Bound Stopped) (o : Outcome) → standing x ≡ unnamed o → outcome_place o ≡ x.place
    place-standing x o h = sym (of-outcome o) ∙ ap outcome_place (sym h) ∙ of-item x.place x.kind
      where
        of-outcome : (u : Outcome) → outcome_place (unnamed u) ≡ outcome_place u
        of-outcome (job_at q) = refl
        of-outcome (list_at q n) = refl
        of-outcome (fault_at q l) = refl

        of-item : (q : Place) (k : Kind Bound Stopped) → outcome_place (standing_kind q k) ≡ q
        of-item q (ends b) = refl
        of-item q (closes n) = refl
        of-item q (passes g) = refl

    -- something of os and something that is brought don't stand at one place
    not-twice : (q : Place) → KnownAt es q → (o : Outcome) → In o brought → outcome_place o ≡ q → ⊥
    not-twice q h o i g =
        let u = outcome_of h.0 h.1 in
        two (times_at q os) (times_at q brought) (times_at q (os ++ brought)) (some-here q u.0 os u.1 (place-standing h.0 u.0 u.2 ∙ h.2)) (some-here q o brought i g) (sum_by-append (one_at q) os brought)
        (outcomes-once (os ++ brought) (known_items (known_by instance (e ∷ es)) f.step.iteration) stand (λ r. known-once (known_by instance (e ∷ es)) r f.step.iteration) q)
      where
        two : (a b c : ℕ) → 1 ≤ a → 1 ≤ b → c ≡ a + b → c ≤ 1 → ⊥
        two a b c h k l m = omega arith

    untold-at : (q : Place) (o : Outcome) → In o brought → outcome_place o ≡ q → has_level (e ∷ es) f.step.step q ≡ false
    untold-at q o i g = by (has_level (e ∷ es) f.step.step q) refl
      where
        by : (b : Bool) → has_level (e ∷ es) f.step.step q ≡ b → has_level (e ∷ es) f.step.step q ≡ false
        by true k = absurd (not-twice q (told-known e es next legal q k) o i g)
        by false k = k

    pub brought-untold : Each (IsUntold (e ∷ es) f.step.step) brought
    brought-untold = in_each (IsUntold (e ∷ es) f.step.step) brought by
      where
        by : (o : Outcome) → In o brought → IsUntold (e ∷ es) f.step.step o
        by (job_at q) i = tt
        by (list_at q n) i = untold-at q (list_at q n) i refl
        by (fault_at q l) i = untold-at q (fault_at q l) i refl
