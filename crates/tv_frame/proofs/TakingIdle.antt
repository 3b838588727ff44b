-- The idle jobs of a frame once one of them is taken.
use Rattle.std.specs.Prelude.{◌≡◌, refl, ℕ, ◌<◌, ◌==◌, ◌&&◌, not, Bool, true, false, cond, List, [], ◌∷◌, filter, length, Some, slice_get, slice_set}
use Rattle.std.specs.Cmp.Lexicographic.{bytes_decides, slice_cmp}
use Rattle.std.specs.List.{list_all}
use Rattle.std.specs.Ordering.{is_lt, nat_cmp}
use Rattle.std.proofs.Common.{sym, ap, ap₂, subst, ◌∙◌, inl, inr}
use Rattle.std.proofs.lemmas.Bool.{and_parts, cases_eq, eq-eqb, ne_eqb, true≢false, not-true, or_parts, or_from, not_from_false}
use Rattle.std.proofs.lemmas.List.{get_or-set_other, get_or-set_same}
use Rattle.std.proofs.lemmas.Option.{same_Some}
use Rattle.tv_lemmas.specs.Members.{In}
use Rattle.tv_value.specs.Nested.{Place}
use Rattle.tv_value.specs.Orders.{same_name}
use Rattle.tv_value.specs.Values.{Name}
use Rattle.tv_flow.specs.Flows.{Step}
use Rattle.tv_flow.specs.Formed.{is_ascending}
use Rattle.tv_lemmas.proofs.Cases.{on_either, on_test}
use Rattle.tv_naming.specs.Numbers.{position}
use Rattle.tv_naming.proofs.ByPosition.{names_of}
use Rattle.tv_naming.proofs.FormedParts.{steps-ascend}
use Rattle.tv_intake.specs.declared.intakes.Intakes.{Intakes}
use Rattle.tv_idle.specs.Idles.{Idles, StepIdle, none_idle, of_step, without, without_job}
use Rattle.tv_idle.specs.Kept.{are_in_order}
use Rattle.tv_model.specs.instance.Events.{Event, gives_at, has_result, is_taken, takes_at, took}
use Rattle.tv_framing.specs.Answers.{numbered}
use Rattle.tv_framing.specs.Views.{View}
use Rattle.tv_framing.specs.engine.WiredFlows.{IsWired}
use Rattle.tv_framing.proofs.engine.Endings.{position-of}
use Rattle.tv_lemmas.proofs.Members.{in-filter}
use Rattle.tv_framing.specs.turns.IdleJobs.{AreIdleOf, AreInOrder, IsIdle}
use Rattle.tv_framing.proofs.turns.Turns.{in-passed}
use Rattle.tv_frame.specs.Kept.{AreIdle}
use Rattle.tv_frame.proofs.Added.{queue, set-many}

-- ---- a list in order stays so where some go

abbrev before : ℕ × List ℕ → ℕ × List ℕ → Bool
before j k = not (is_lt (slice_cmp nat_cmp k.1 j.1))

all-left : (p r : ℕ × List ℕ → Bool) (xs : List (ℕ × List ℕ)) → list_all r xs ≡ true → list_all r (filter p xs) ≡ true
all-left p r [] h = refl
all-left p r (x ∷ xs) h = by (p x) (all-left p r xs (and_parts (r x) (list_all r xs) h).1)
  where
    by : (b : Bool) → list_all r (filter p xs) ≡ true → list_all r (cond b (x ∷ filter p xs) (filter p xs)) ≡ true
    by true k = ap (λ b. b && list_all r (filter p xs)) (and_parts (r x) (list_all r xs) h).0 ∙ k
    by false k = k

left-order : (p : ℕ × List ℕ → Bool) (xs : List (ℕ × List ℕ)) → are_in_order xs ≡ true → are_in_order (filter p xs) ≡ true
left-order p [] o = refl
left-order p (x ∷ xs) o = by (p x) (left-order p xs (and_parts (list_all (before x) xs) (are_in_order xs) o).1)
  where
    by : (b : Bool) → are_in_order (filter p xs) ≡ true → are_in_order (cond b (x ∷ filter p xs) (filter p xs)) ≡ true
    by true k = ap (λ b. b && are_in_order (filter p xs)) (all-left p (before x) xs (and_parts (list_all (before x) xs) (are_in_order xs) o).0) ∙ k
    by false k = k

-- ---- one step of all

queue-left : (b : Bool) (n : ℕ) (st : StepIdle) → queue b (without n st) ≡ without_job n (queue b st)
queue-left true n st = refl
queue-left false n st = refl

module _ (ss : List StepIdle) (k : ℕ) (l : k < length ss) (n : ℕ) where
  abbrev pub left : List StepIdle
  left = slice_set ss k (without n (of_step ss k))

  at-step : (c : ℕ) → c ≡ k → of_step left c ≡ without n (of_step ss k)
  at-step c e = ap (of_step left) e ∙ get_or-set_same ss k (without n (of_step ss k)) (none_idle 0) l

  at-other : (c : ℕ) → (c ≡ k → ⊥) → of_step left c ≡ of_step ss c
  at-other c ne = get_or-set_other ss k c (without n (of_step ss k)) (none_idle 0) ne

  -- one that is still in a queue was there, and is another
  still-in : (b : Bool) (c : ℕ) (j : ℕ × List ℕ) → In j (queue b (of_step left c)) → In j (queue b (of_step ss c)) × (c ≡ k → (j.0 == n) ≡ false)
  still-in b c j i = on_either (cases_eq c k) here there
    where
      here : c ≡ k → In j (queue b (of_step ss c)) × (c ≡ k → (j.0 == n) ≡ false)
      here e =
          let m = in-passed (λ x. not (x.0 == n)) (queue b (of_step ss k)) j (subst (In j) (queue-left b n (of_step ss k)) (subst (λ st. In j (queue b st)) (at-step c e) i)) in
          (subst (λ d. In j (queue b (of_step ss d))) (sym e) m.0, λ same. not-true (j.0 == n) m.1)

      there : (c ≡ k → ⊥) → In j (queue b (of_step ss c)) × (c ≡ k → (j.0 == n) ≡ false)
      there ne = (subst (λ st. In j (queue b st)) (at-other c ne) i, λ same. absurd (ne same))

  stays-in : (b : Bool) (c : ℕ) (j : ℕ × List ℕ) → In j (queue b (of_step ss c)) → (c ≡ k → (j.0 == n) ≡ false) → In j (queue b (of_step left c))
  stays-in b c j i other = on_either (cases_eq c k) here there
    where
      here : c ≡ k → In j (queue b (of_step left c))
      here e =
          subst (λ st. In j (queue b st)) (sym (at-step c e))
          (subst (In j) (sym (queue-left b n (of_step ss k)))
          (in-filter (λ x. not (x.0 == n)) j (queue b (of_step ss k)) (subst (λ d. In j (queue b (of_step ss d))) e i) (not_from_false (j.0 == n) (other e))))

      there : (c ≡ k → ⊥) → In j (queue b (of_step left c))
      there ne = subst (λ st. In j (queue b st)) (sym (at-other c ne)) i

  was-idle : (c : ℕ) (j : ℕ × List ℕ) → IsIdle left c j → IsIdle ss c j × (c ≡ k → (j.0 == n) ≡ false)
  was-idle c j (inl i) = let m = still-in false c j i in (inl m.0, m.1)
  was-idle c j (inr i) = let m = still-in true c j i in (inr m.0, m.1)

  is-idle : (c : ℕ) (j : ℕ × List ℕ) → IsIdle ss c j → (c ≡ k → (j.0 == n) ≡ false) → IsIdle left c j
  is-idle c j (inl i) other = inl (stays-in false c j i other)
  is-idle c j (inr i) other = inr (stays-in true c j i other)

  queue-order : (b : Bool) → ((c : ℕ) → are_in_order (queue b (of_step ss c)) ≡ true) → (c : ℕ) → are_in_order (queue b (of_step left c)) ≡ true
  queue-order b o c = on_either (cases_eq c k) here there
    where
      here : c ≡ k → are_in_order (queue b (of_step left c)) ≡ true
      here e = ap (λ st. are_in_order (queue b st)) (at-step c e) ∙ ap are_in_order (queue-left b n (of_step ss k)) ∙ left-order (λ x. not (x.0 == n)) (queue b (of_step ss k)) (o k)

      there : (c ≡ k → ⊥) → are_in_order (queue b (of_step left c)) ≡ true
      there ne = ap (λ st. are_in_order (queue b st)) (at-other c ne) ∙ o c

  in-order : AreInOrder ss → AreInOrder left
  in-order o = record { good = queue-order false o.good; faulty = queue-order true o.faulty }

  same-levels : (c : ℕ) → (of_step left c).levels ≡ (of_step ss c).levels
  same-levels c =
      on_either (cases_eq c k)
      (λ e. ap (λ (st : StepIdle). st.levels) (at-step c e) ∙ ap (λ d. (of_step ss d).levels) (sym e))
      (λ ne. ap (λ (st : StepIdle). st.levels) (at-other c ne))

-- ---- the job of that number is taken, and no other is the same

module _ (v : View) (wired : IsWired v.flow) (ss : List StepIdle) (a : AreIdleOf v ss) (k : ℕ) (s : Name × Step) (at : slice_get v.flow.steps k ≡ Some s) (l : k < length ss) (n : ℕ) (q : Place)
    (is : numbered v n ≡ Some (s.0, q)) (only : (m : ℕ) → numbered v m ≡ Some (s.0, q) → m ≡ n) where
  abbrev e : Event
  e = took s.0 q

  abbrev pub after : View
  after = record v { events = took s.0 q ∷ v.events }

  abbrev ls : List StepIdle
  ls = left ss k l n

  rise : is_ascending (names_of v.flow.steps) ≡ true
  rise = steps-ascend v.flow wired.formed

  -- one that isn't taken by it is another
  another : (m : ℕ) (x : Name × Place) → numbered v m ≡ Some x → takes_at x.0 x.1 e ≡ false → m ≡ n → ⊥
  another m x g t same =
      let spot : x ≡ (s.0, q) = same_Some x (s.0, q) (sym g ∙ ap (numbered v) same ∙ is) in
      let own : takes_at s.0 q e ≡ true = ap₂ (λ b c. b && c) ((bytes_decides s.0 s.0).1 refl) ((bytes_decides q q).1 refl) in
      true≢false (sym (ap (λ (z : Name × Place). takes_at z.0 z.1 e) spot ∙ own) ∙ t)

  all-idle : (m : ℕ) (x : Name × Place) → numbered v m ≡ Some x → is_taken (e ∷ v.events) x.0 x.1 ≡ false → has_result (e ∷ v.events) x.0 x.1 ≡ false → IsIdle ls (position x.0 v.flow.steps) (m, x.1)
  all-idle m x g t r =
      let free = or_parts (takes_at x.0 x.1 e) (is_taken v.events x.0 x.1) t in
      let given = or_parts (gives_at x.0 x.1 e) (has_result v.events x.0 x.1) r in
      is-idle ss k l n (position x.0 v.flow.steps) (m, x.1) (a.all m x g free.1 given.1) (λ same. ne_eqb m n (another m x g free.0))

  -- it takes none that is idle after it
  apart : (c : ℕ) (t : Name × Step) (j : ℕ × List ℕ) → slice_get v.flow.steps c ≡ Some t → IsIdle ls c j → takes_at t.0 j.1 e ≡ true → ⊥
  apart c t j g i u =
      let o = was-idle ss k l n c j i in
      let p = and_parts (same_name t.0 s.0) (same_name j.1 q) u in
      let name : t.0 ≡ s.0 = (bytes_decides t.0 s.0).0 p.0 in
      let place : j.1 ≡ q = (bytes_decides j.1 q).0 p.1 in
      let same : j.0 ≡ n = only j.0 (a.known c t j g o.0 ∙ (λ w. Some (name w, place w))) in
      let here : c ≡ k = sym (position-of v.flow.steps c t rise g) ∙ ap (λ x. position x v.flow.steps) name ∙ position-of v.flow.steps k s rise at in
      true≢false (sym (eq-eqb j.0 n same) ∙ o.1 here)

  all-free : (c : ℕ) (t : Name × Step) (j : ℕ × List ℕ) → slice_get v.flow.steps c ≡ Some t → IsIdle ls c j → (is_taken (e ∷ v.events) t.0 j.1 ≡ false) × (has_result (e ∷ v.events) t.0 j.1 ≡ false)
  all-free c t j g i =
      let free = a.free c t j g (was-idle ss k l n c j i).0 in (
        or_from (takes_at t.0 j.1 e) (is_taken v.events t.0 j.1) (on_test (takes_at t.0 j.1 e) (λ u. absurd (apart c t j g i u)) (λ h. h)) free.0,
        or_from (gives_at t.0 j.1 e) (has_result v.events t.0 j.1) refl free.1,
      )

  pub idle-left : AreIdleOf after ls
  idle-left = record {
    order = in-order ss k l n a.order;
    steps = a.steps;
    all = all-idle;
    known = λ c t j g i. a.known c t j g (was-idle ss k l n c j i).0;
    free = all-free;
  }

-- all that is said of idle jobs stays so
pub taken-idle :
    (v : View) → IsWired v.flow → (i : Intakes) (idle new : Idles) → AreIdle v i idle
    → (k : ℕ) (s : Name × Step) → slice_get v.flow.steps k ≡ Some s → k < length idle.steps → (n : ℕ) (q : Place)
    → numbered v n ≡ Some (s.0, q) → ((m : ℕ) → numbered v m ≡ Some (s.0, q) → m ≡ n)
    → new.steps ≡ slice_set idle.steps k (without n (of_step idle.steps k)) → new.known ≡ idle.known
    → AreIdle (record v { events = took s.0 q ∷ v.events }) i new
taken-idle v wired i idle new a k s at l n q is only steps known = record {
  all = subst (AreIdleOf (record v { events = took s.0 q ∷ v.events })) (sym steps) (idle-left v wired idle.steps a.all k s at l n q is only);
  known = known ∙ a.known;
  as_many = ap length steps ∙ set-many idle.steps k (without n (of_step idle.steps k)) ∙ a.as_many;
  levels = λ c t g. ap (λ ss. (of_step ss c).levels) steps ∙ same-levels idle.steps k l n c ∙ a.levels c t g;
  good = λ c j m. a.good c j (still-in idle.steps k l n false c j (subst (λ ss. In j (of_step ss c).good) steps m)).0;
  faulty = λ c j m. a.faulty c j (still-in idle.steps k l n true c j (subst (λ ss. In j (of_step ss c).faulty) steps m)).0;
}
