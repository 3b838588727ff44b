-- The steps that have ended by counters are those that have by counting events.
use Rattle.std.specs.Prelude.{◌≡◌, refl, ℕ, zero, suc, ◌<◌, Bool, true, false, ◌&&◌, ◌||◌, if◌then◌else◌, List, [], ◌∷◌, Option, Some, None, length, is_some, map, slice_get, slice_index_or}
use Rattle.std.specs.List.{list_all}
use Rattle.std.proofs.Common.{arith, sym, ap, ap₂, subst, ◌∙◌}
use Rattle.std.proofs.lemmas.Bool.{and_parts, or_right, true≢false, and_from}
use Rattle.std.proofs.lemmas.Option.{get_or_from_slice_get, none-some, same_Some, slice_get_within}
use Rattle.std.specs.Cmp.Derive.{one_truth}
use Rattle.tv_lemmas.specs.Members.{Each}
use Rattle.tv_lemmas.proofs.Lists.{within-not_none, all-second}
use Rattle.tv_value.specs.Orders.{named, same_name}
use Rattle.tv_value.specs.Values.{Name}
use Rattle.tv_value.proofs.NameLemmas.{same_name-is, same_name-refl}
use Rattle.tv_flow.specs.Flows.{Step}
use Rattle.tv_flow.specs.Formed.{is_ascending}
use Rattle.tv_naming.specs.Naming.{has_name}
use Rattle.tv_naming.specs.Numbers.{position}
use Rattle.tv_naming.proofs.ByPosition.{names_of, position-at}
use Rattle.tv_model.specs.instance.Ranks.{earlier_steps, is_among, ranked}
use Rattle.tv_check.proofs.Ranked.{IsItem, all-ranked}
use Rattle.tv_model.proofs.Ranks.{IsOrdered, ranked-ordered}
use Rattle.tv_check.specs.Wirings.{after_of}
use Rattle.tv_model.specs.instance.ByResults.{last_first}
use Rattle.tv_model.specs.instance.Counting.{have_ended_by, whole_by}
use Rattle.tv_model.specs.instance.Events.{Events}
use Rattle.tv_check.proofs.Ranks.{each-ranked}

-- ---- of a list of steps, those that are named

module _ (H : Name → Bool) where
  abbrev pub named_all : List Name → List (Name × Step) → Bool
  named_all ns ss = list_all (λ t. if is_among ns t.0 then H t.0 else true) ss

  pick : (ns : List Name) (ss : List (Name × Step)) (n : Name) → named_all ns ss ≡ true → is_among (names_of ss) n ≡ true → is_among ns n ≡ true → H n ≡ true
  pick ns [] n h a b = absurd (true≢false (sym a))
  pick ns (t ∷ ss) n h a b = by (same_name n t.0) refl a (λ g k. pick ns ss n g k b)
    where
      parts : ((if is_among ns t.0 then H t.0 else true) ≡ true) × (named_all ns ss ≡ true)
      parts = and_parts (if is_among ns t.0 then H t.0 else true) (named_all ns ss) h

      by : (c : Bool) → same_name n t.0 ≡ c → (c || is_among (names_of ss) n) ≡ true → (named_all ns ss ≡ true → is_among (names_of ss) n ≡ true → H n ≡ true) → H n ≡ true
      by true e g rec =
          let same : n ≡ t.0 = same_name-is n t.0 e in
          ap H same ∙ sym (ap (λ c. if c then H t.0 else true) (subst (λ m. is_among ns m ≡ true) same b)) ∙ parts.0
      by false e g rec = rec parts.1 g

  every : (ns : List Name) (ss : List (Name × Step)) → named_all ns ss ≡ true → (ms : List Name) → ((n : Name) → is_among ms n ≡ true → is_among ns n ≡ true) → list_all (is_among (names_of ss)) ms ≡ true → list_all H ms ≡ true
  every ns ss h [] inside_ns a = refl
  every ns ss h (m ∷ ms) inside_ns a =
      let p = and_parts (is_among (names_of ss) m) (list_all (is_among (names_of ss)) ms) a in
      and_from (H m) (list_all H ms) (pick ns ss m h p.0 (inside_ns m (ap (λ b. b || is_among ms m) (same_name-refl m))))
      (every ns ss h ms (λ n k. inside_ns n (or_right (same_name n m) (is_among ms n) k)) p.1)

  taken : (ns : List Name) (n : Name) → list_all H ns ≡ true → is_among ns n ≡ true → H n ≡ true
  taken [] n h a = absurd (true≢false (sym a))
  taken (m ∷ ns) n h a = by (same_name n m) refl a (λ g k. taken ns n g k)
    where
      by : (c : Bool) → same_name n m ≡ c → (c || is_among ns n) ≡ true → (list_all H ns ≡ true → is_among ns n ≡ true → H n ≡ true) → H n ≡ true
      by true e g rec = ap H (same_name-is n m e) ∙ (and_parts (H m) (list_all H ns) h).0
      by false e g rec = rec ((and_parts (H m) (list_all H ns) h).1) g

  back : (ns : List Name) → list_all H ns ≡ true → (ss : List (Name × Step)) → named_all ns ss ≡ true
  back ns h [] = refl
  back ns h (t ∷ ss) = and_from (if is_among ns t.0 then H t.0 else true) (named_all ns ss) (by (is_among ns t.0) refl) (back ns h ss)
    where
      by : (c : Bool) → is_among ns t.0 ≡ c → (if c then H t.0 else true) ≡ true
      by true e = taken ns t.0 h e
      by false e = refl

  -- where all that are named are among them, these are all that are named
  pub named-is : (ns : List Name) (ss : List (Name × Step)) → list_all (is_among (names_of ss)) ns ≡ true → named_all ns ss ≡ list_all H ns
  named-is ns ss a = one_truth (named_all ns ss) (list_all H ns) (λ h. every ns ss h ns (λ n k. k) a) (λ h. back ns h ss)

-- ---- steps of which each runs after some of the rest

abbrev IsFromLast : List (Name × Step) → Type 0
IsFromLast [] = Unit {0}
IsFromLast (s ∷ ss) = (list_all (is_among (names_of ss)) s.1.after ≡ true) × IsFromLast ss

from-last : (rs ts : List (Name × Step)) → IsOrdered (names_of ts) rs → IsFromLast ts → IsFromLast (last_first rs ts)
from-last [] ts h k = k
from-last (r ∷ rs) ts h k = from-last rs (r ∷ ts) h.1.1 (after-there r.1 h.0, k)
  where
    after-there : (s : Step) → list_all (is_among (names_of ts)) (earlier_steps s) ≡ true → list_all (is_among (names_of ts)) s.after ≡ true
    after-there s g = all-second (is_among (names_of ts)) _ s.after g

each-last : (P : Name × Step → Type 0) (rs ts : List (Name × Step)) → Each P rs → Each P ts → Each P (last_first rs ts)
each-last P [] ts h k = k
each-last P (r ∷ rs) ts h k = each-last P rs (r ∷ ts) h.1 (h.0, k)

among-last : (rs ts : List (Name × Step)) (n : Name) → (is_among (names_of rs) n || is_among (names_of ts) n) ≡ true → is_among (names_of (last_first rs ts)) n ≡ true
among-last [] ts n h = h
among-last (r ∷ rs) ts n h = among-last rs (r ∷ ts) n (turned (same_name n r.0) (is_among (names_of rs) n) (is_among (names_of ts) n) h)
  where
    turned : (a b c : Bool) → ((a || b) || c) ≡ true → (b || (a || c)) ≡ true
    turned true true c h = refl
    turned true false c h = refl
    turned false true c h = refl
    turned false false c h = h

in-among : (s : Name × Step) (xs : List (Name × Step)) → IsItem s xs → is_among (names_of xs) s.0 ≡ true
in-among s [] (j, e) = absurd (none-some s e)
in-among s (x ∷ xs) (zero, e) = ap (λ b. b || is_among (names_of xs) s.0) (ap (same_name s.0) (ap (λ t. t.0) (same_Some x s e)) ∙ same_name-refl s.0)
in-among s (x ∷ xs) (suc j, e) = or_right (same_name s.0 x.0) (is_among (names_of xs) s.0) (in-among s xs (j, e))

-- ---- steps by name and by rank

pub position-of : (xs : List (Name × Step)) (k : ℕ) (s : Name × Step) → is_ascending (names_of xs) ≡ true → slice_get xs k ≡ Some s → position s.0 xs ≡ k
position-of xs k s rise e = ap (λ t. position t.0 xs) (sym (get_or_from_slice_get xs k s s e)) ∙ position-at xs k s rise (slice_get_within xs k s e)

step-named : (xs : List (Name × Step)) (n : Name) → has_name xs n ≡ true → (s : Name × Step) × (IsItem s xs) × (s.0 ≡ n)
step-named [] n h = absurd (true≢false (sym h))
step-named (x ∷ xs) n h = by (same_name n x.0) refl h (λ k. step-named xs n k)
  where
    by : (b : Bool) → same_name n x.0 ≡ b → is_some (if b then Some x.1 else named n xs) ≡ true → (is_some (named n xs) ≡ true → (s : Name × Step) × (IsItem s xs) × (s.0 ≡ n)) → (s : Name × Step) × (IsItem s (x ∷ xs)) × (s.0 ≡ n)
    by true e k rec = (x, (0, refl), sym (same_name-is n x.0 e))
    by false e k rec = let f = rec k in (f.0, (suc f.1.0, f.1.1), f.2)

or-none : (b : Bool) → b ≡ true → (b || false) ≡ true
or-none true e = refl
or-none false e = e

-- ---- by numbers

pub at-number : {A B : Type 0} (g : A → List B) (xs : List A) (k : ℕ) (x : A) → slice_get xs k ≡ Some x → slice_index_or (map g xs) k [] ≡ g x
at-number g [] k x e = absurd (none-some x e)
at-number g (y ∷ xs) zero x e = ap g (same_Some y x e)
at-number g (y ∷ xs) (suc k) x e = at-number g xs k x e

-- all of a list of tests are true
pub all-true : (bs : List Bool) → list_all (λ b. b) bs ≡ true → (k : ℕ) → k < length bs → slice_index_or bs k false ≡ true
all-true [] h k l = absurd (omega arith)
all-true (b ∷ bs) h zero l = (and_parts b (list_all (λ c. c) bs) h).0
all-true (b ∷ bs) h (suc k) l = all-true bs ((and_parts b (list_all (λ c. c) bs) h).1) k (omega arith)

pub true-all : (bs : List Bool) → ((k : ℕ) → k < length bs → slice_index_or bs k false ≡ true) → list_all (λ b. b) bs ≡ true
true-all [] h = refl
true-all (b ∷ bs) h = and_from b (list_all (λ c. c) bs) (h 0 (omega arith)) (true-all bs (λ k l. h (suc k) (up k (length bs) l)))
  where
    up : (m n : ℕ) → m < n → suc m < suc n
    up m n g = omega arith

all-mapped : {A B : Type 0} (p : B → Bool) (g : A → B) (xs : List A) → list_all p (map g xs) ≡ list_all (λ x. p (g x)) xs
all-mapped p g [] = refl
all-mapped p g (x ∷ xs) = ap (λ b. p (g x) && b) (all-mapped p g xs)

module _ (steps : List (Name × Step)) (es : Events) (levels : Name → ℕ) (whole ended : ℕ → Bool)
    (sound : (k : ℕ) → k < length steps → ended k ≡ (whole k && list_all ended (slice_index_or (map (λ s. after_of steps s.1) steps) k [])))
    (marked : (k : ℕ) (s : Name × Step) → slice_get steps k ≡ Some s → whole k ≡ whole_by es s.0 (levels s.0) []) where
  abbrev Stands : Name × Step → Type 0
  Stands s = slice_get steps (position s.0 steps) ≡ Some s

  abbrev by_name : Name → Bool
  by_name n = ended (position n steps)

  -- what is told of one step, by what is told of those that it runs after
  one-ended : (s : Name × Step) → Stands s → by_name s.0 ≡ (whole_by es s.0 (levels s.0) [] && list_all by_name s.1.after)
  one-ended s e =
      sound (position s.0 steps) (slice_get_within steps (position s.0 steps) s e)
      ∙ ap₂ (λ a b. a && b) (marked (position s.0 steps) s e)
      (ap (list_all ended) (at-number (λ (t : Name × Step). after_of steps t.1) steps (position s.0 steps) s e) ∙ all-mapped ended (λ a. position a steps) s.1.after)

  pub ended-by_events : (ss : List (Name × Step)) → IsFromLast ss → Each Stands ss → (ns : List Name) → have_ended_by es levels ss ns ≡ named_all by_name ns ss
  ended-by_events [] h e ns = refl
  ended-by_events (s ∷ ss) h e ns =
      ap₂ (λ a b. (if is_among ns s.0 then a else true) && b)
      (ap (λ b. whole_by es s.0 (levels s.0) [] && b) (ended-by_events ss h.1 e.1 s.1.after ∙ named-is by_name s.1.after ss h.0) ∙ sym (one-ended s e.0))
      (ended-by_events ss h.1 e.1 ns)

  -- where all are whole all have ended
  all-end : ((k : ℕ) → k < length steps → whole k ≡ true) → (ss : List (Name × Step)) → IsFromLast ss → Each Stands ss → list_all by_name (names_of ss) ≡ true
  all-end w [] h e = refl
  all-end w (s ∷ ss) h e =
      let rest = all-end w ss h.1 e.1 in
      and_from (by_name s.0) (list_all by_name (names_of ss))
      (one-ended s e.0 ∙ and_from (whole_by es s.0 (levels s.0) []) (list_all by_name s.1.after) (sym (marked (position s.0 steps) s e.0) ∙ w (position s.0 steps) (slice_get_within steps (position s.0 steps) s e.0)) (all-among (names_of ss) s.1.after rest h.0))
      rest
    where
      all-among : (ms ns : List Name) → list_all by_name ms ≡ true → list_all (is_among ms) ns ≡ true → list_all by_name ns ≡ true
      all-among ms [] g k = refl
      all-among ms (n ∷ ns) g k =
          let p = and_parts (is_among ms n) (list_all (is_among ms) ns) k in
          and_from (by_name n) (list_all by_name ns) (taken by_name ms n g p.0) (all-among ms ns g p.1)

  all-named : (ns : List Name) (ss : List (Name × Step)) → list_all by_name (names_of ss) ≡ true → named_all by_name ns ss ≡ true
  all-named ns [] h = refl
  all-named ns (s ∷ ss) h =
      let p = and_parts (by_name s.0) (list_all by_name (names_of ss)) h in
      and_from (if is_among ns s.0 then by_name s.0 else true) (named_all by_name ns ss) (by (is_among ns s.0) p.0) (all-named ns ss p.1)
    where
      by : (c : Bool) → by_name s.0 ≡ true → (if c then by_name s.0 else true) ≡ true
      by true k = k
      by false k = refl

  -- ---- all steps by rank

  module _ (rise : is_ascending (names_of steps) ≡ true) (all : length (ranked steps) ≡ length steps) where
    stands-at : (k : ℕ) (s : Name × Step) → slice_get steps k ≡ Some s → Stands s
    stands-at k s e = subst (λ j. slice_get steps j ≡ Some s) (sym (position-of steps k s rise e)) e

    each-stands : (xs : List (Name × Step)) → ((s : Name × Step) → IsItem s xs → Stands s) → Each Stands xs
    each-stands [] h = tt
    each-stands (x ∷ xs) h = (h x (0, refl), each-stands xs (λ s i. h s (suc i.0, i.1)))

    abbrev last : List (Name × Step)
    last = last_first (ranked steps) []

    ranked-stand : Each Stands last
    ranked-stand = each-last Stands (ranked steps) [] (each-ranked Stands steps (each-stands steps (λ s i. stands-at i.0 s i.1))) tt

    there-last : (ns : List Name) → list_all (has_name steps) ns ≡ true → list_all (is_among (names_of last)) ns ≡ true
    there-last [] h = refl
    there-last (n ∷ ns) h =
        let p = and_parts (has_name steps n) (list_all (has_name steps) ns) h in
        and_from (is_among (names_of last) n) (list_all (is_among (names_of last)) ns) (one n p.0) (there-last ns p.1)
      where
        one : (n : Name) → has_name steps n ≡ true → is_among (names_of last) n ≡ true
        one n g =
            let found = step-named steps n g in
            among-last (ranked steps) [] n (or-none (is_among (names_of (ranked steps)) n) (subst (λ m. is_among (names_of (ranked steps)) m ≡ true) found.2 (in-among found.0 (ranked steps) (all-ranked steps rise all found.0 found.1))))

    -- THE STEPS THAT HAVE ENDED
    pub have-ended : (ns : List Name) → list_all (has_name steps) ns ≡ true → list_all ended (map (λ n. position n steps) ns) ≡ have_ended_by es levels last ns
    have-ended ns h =
        all-mapped ended (λ n. position n steps) ns
        ∙ sym (named-is by_name ns last (there-last ns h))
        ∙ sym (ended-by_events last (from-last (ranked steps) [] (ranked-ordered steps) tt) ranked-stand ns)

    -- ALL STEPS HAVE ENDED
    pub all-ended : have_ended_by es levels last (names_of (ranked steps)) ≡ true → (k : ℕ) → k < length steps → whole k ≡ true
    all-ended h k l = by (slice_get steps k) refl
      where
        there : (s : Name × Step) → slice_get steps k ≡ Some s → whole k ≡ true
        there s e =
            let ns = names_of (ranked steps) in
            let among = in-among s (ranked steps) (all-ranked steps rise all s (k, e)) in
            let mine = pick by_name ns last s.0 (sym (ended-by_events last (from-last (ranked steps) [] (ranked-ordered steps) tt) ranked-stand ns) ∙ h) (among-last (ranked steps) [] s.0 (or-none (is_among ns s.0) among)) among in
            marked k s e ∙ (and_parts (whole_by es s.0 (levels s.0) []) (list_all by_name s.1.after) (sym (one-ended s (stands-at k s e)) ∙ mine)).0

        by : (o : Option (Name × Step)) → slice_get steps k ≡ o → whole k ≡ true
        by None e = absurd (within-not_none steps k l e)
        by (Some s) e = there s e

    pub all-whole : ((k : ℕ) → k < length steps → whole k ≡ true) → have_ended_by es levels last (names_of (ranked steps)) ≡ true
    all-whole w =
        ended-by_events last (from-last (ranked steps) [] (ranked-ordered steps) tt) ranked-stand (names_of (ranked steps))
        ∙ all-named (names_of (ranked steps)) last (all-end w last (from-last (ranked steps) [] (ranked-ordered steps) tt) ranked-stand)
