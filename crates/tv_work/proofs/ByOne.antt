-- What is settled where nothing is out, handed out where nothing can be settled, or accepted, appends what one worker does.
use Rattle.std.specs.List.{list_all, list_any}
use Rattle.std.specs.Option.{option_map_or}
use Rattle.std.specs.Prelude.{Bool, List, None, Option, Some, [], cond, false, find, is_none, not, refl, true, ℕ, ◌&&◌, ◌++◌, ◌==◌, ◌||◌, ◌∷◌, ◌≡◌}
use Rattle.std.proofs.Common.{ap, inl, inr, subst, sym, ◌∙◌}
use Rattle.std.proofs.lemmas.Bool.{eq-eqb, false_from_ne_true}
use Rattle.std.proofs.lemmas.List.{append_assoc}
use Rattle.std.specs.Cmp.{first_so, second_so}
use Rattle.tv_history.proofs.Tests.{same-itself}
use Rattle.tv_lemmas.specs.Members.{In}
use Rattle.tv_lemmas.proofs.Members.{any-in, some_in}
use Rattle.tv_lemmas.proofs.Cases.{on_test}
use Rattle.tv_value.specs.Orders.{same_job}
use Rattle.tv_value.specs.Values.{JobName}
use Rattle.tv_gate.specs.Outcomes.{Giving}
use Rattle.tv_flow.specs.Flows.{Document}
use Rattle.tv_model.specs.Jobs.{Job}
use Rattle.tv_model.specs.Levels.{Level, levels}
use Rattle.tv_model.specs.Made.{Meaning}
use Rattle.tv_model.specs.Meanings.{meaning}
use Rattle.tv_model.proofs.Tests.{both_true, true≠false}
use Rattle.tv_history.specs.Alone.{is_by_one, is_by_one_after, nobody_out}
use Rattle.tv_history.specs.Entries as history
use Rattle.tv_history.specs.Entries.{History, is_out}
use Rattle.tv_history.specs.Histories.{can_bounce, can_end, can_open, can_settle, can_settle_more, instances, is_ask, is_at, is_legal_after, is_offered, next_ask}
use Rattle.tv_history.specs.Runs.{Appends, IsLegalRun, Run, instances_of, meant, name_at, past_of, with_names}
use Rattle.tv_history.specs.Calls.{NothingSettles, Settles, hands_out, is_settlement, settles}
use Rattle.tv_history.specs.Refusals.{accepts}
use Rattle.tv_history.specs.declared.entry.Entry.{Entry}
use Rattle.tv_history.specs.declared.entry.Entry.TheVariants as entry
use Rattle.tv_history.specs.declared.ticket.Ticket.{Ticket}
use Rattle.tv_history.specs.order.Chains.{is_by_one_from}
use Rattle.tv_work.specs.ByOne.{AppendsByOne, IsByOne}
use Rattle.tv_work.specs.Working.{IsFree}
use Rattle.tv_work.proofs.Ends.{none-out}
use Rattle.tv_history.proofs.OneMore.{before, before-same, named, one-newer}
use Rattle.tv_work.proofs.Tickets.{handed}

-- ---- lists

none-passes : {A : Type 0} (p : A → Bool) (xs : List A) → ((x : A) → In x xs → p x ≡ true → ⊥) → list_any p xs ≡ false
none-passes p xs f = on_test (list_any p xs) (λ e. let r = some_in p xs e in absurd (f r.0 r.1 r.2)) (λ e. e)

pub all-fail : {A : Type 0} (p : A → Bool) (xs : List A) → ((x : A) → In x xs → p x ≡ false) → list_all (λ x. not (p x)) xs ≡ true
all-fail p [] f = refl
all-fail p (x ∷ xs) f = both_true (not (p x)) (list_all (λ y. not (p y)) xs) (ap not (f x (inl refl))) (all-fail p xs (λ y i. f y (inr i)))

weaken-found : {A : Type 0} (p q : A → Bool) → ((x : A) → p x ≡ true → q x ≡ true) → (o : Option A) → option_map_or p o false ≡ true → option_map_or q o false ≡ true
weaken-found p q f None h = h
weaken-found p q f (Some x) h = f x h

-- where the first of either kind isn't of the second, it is the first of the first kind
first-of_either : {A : Type 0} (p q at : A → Bool) (xs : List A) → option_map_or at (find p xs) false ≡ true → option_map_or q (find (λ x. p x || q x) xs) false ≡ false → option_map_or at (find (λ x. p x || q x) xs) false ≡ true
first-of_either p q at [] h k = h
first-of_either {A = A} p q at (y ∷ ys) h k = by (p y) (q y) refl h k (λ g e. first-of_either p q at ys g e)
  where
    by : (b c : Bool) → q y ≡ c → option_map_or at (cond b (Some y) (find p ys)) false ≡ true → option_map_or q (cond (b || c) (Some y) (find (λ x. p x || q x) ys)) false ≡ false → (option_map_or at (find p ys) false ≡ true → option_map_or q (find (λ x. p x || q x) ys) false ≡ false → option_map_or at (find (λ x. p x || q x) ys) false ≡ true) → option_map_or at (cond (b || c) (Some y) (find (λ x. p x || q x) ys)) false ≡ true
    by true c e g n rec = g
    by false true e g n rec = absurd (true≠false (sym e ∙ n))
    by false false e g n rec = rec g n

-- ---- where nothing settles

module _ (gives : Giving) (m : Meaning) (past : History) (quiet : (e : history.Entry) → is_settlement e ≡ true → is_legal_after gives m past e ≡ false) where
  clash : (e : history.Entry) → is_settlement e ≡ true → is_legal_after gives m past e ≡ true → ⊥
  clash e s l = true≠false (sym l ∙ quiet e s)

  none-bounces : list_any (can_bounce m past) m.jobs ≡ false
  none-bounces =
      none-passes (can_bounce m past) m.jobs (λ j i h. clash (history.bounced j.name) refl (any-in (λ k. is_at k j.name && can_bounce m past k) j m.jobs i (both_true (is_at j j.name) (can_bounce m past j) (same-itself j.name) h)))

  no-level : (l : Level) → In l (levels m.steps) → can_settle m past l ≡ true → ⊥
  no-level l i h = by l.length refl
    where
      its-own : (same_job l.name l.name && can_settle m past l) ≡ true
      its-own = both_true (same_job l.name l.name) (can_settle m past l) (same-itself l.name) h

      by : (o : Option ℕ) → l.length ≡ o → ⊥
      by None e = clash (history.fault_passed l.name) refl (any-in (λ (x : Level). same_job l.name x.name && can_settle m past x && is_none x.length) l (levels m.steps) i (both_true (same_job l.name l.name && can_settle m past l) (is_none l.length) its-own (ap is_none e)))
      by (Some k) e =
          clash (history.closed l.name k) refl (any-in (λ (x : Level). same_job l.name x.name && can_settle m past x && option_map_or (λ c. c == k) x.length false) l (levels m.steps) i (both_true (same_job l.name l.name && can_settle m past l) (option_map_or (λ c. c == k) l.length false) its-own (subst (λ o. option_map_or (λ c. c == k) o false ≡ true) (sym e) (eq-eqb k k refl))))

  none-settle : list_any (can_settle m past) (levels m.steps) ≡ false
  none-settle = none-passes (can_settle m past) (levels m.steps) no-level

  none-end : list_any (can_end m past) (instances m) ≡ false
  none-end = none-passes (can_end m past) (instances m) (λ n i h. clash (history.ended n) refl h)

  settled-out : can_settle_more m past ≡ false
  settled-out = λ i. none-bounces i || none-settle i || none-end i

  -- nor can the first job that may go on open its flow
  none-opens : option_map_or (can_open m past) (find (λ j. is_offered m past j || can_open m past j) m.jobs) false ≡ false
  none-opens = by (find (λ j. is_offered m past j || can_open m past j) m.jobs) refl
    where
      by : (o : Option Job) → find (λ j. is_offered m past j || can_open m past j) m.jobs ≡ o → option_map_or (can_open m past) o false ≡ false
      by None e = refl
      by (Some k) e = false_from_ne_true (can_open m past k) (λ c. clash (history.opened k.name) refl (both_true (not (can_settle_more m past)) (option_map_or (λ j. is_at j k.name && can_open m past j) (find (λ j. is_offered m past j || can_open m past j) m.jobs) false) (ap not settled-out) (subst (λ o. option_map_or (λ j. is_at j k.name && can_open m past j) o false ≡ true) (sym e) (both_true (is_at k k.name) (can_open m past k) (same-itself k.name) c))))

  pub handed-by_one : (n : JobName) (a t : ℕ) → is_legal_after gives m past (history.handed_out n a t) ≡ true → nobody_out m past ≡ true → is_by_one_after m past (history.handed_out n a t) ≡ true
  handed-by_one n a t h none =
      both_true (not (can_settle_more m past) && option_map_or (λ j. is_at j n) (find (λ j. is_offered m past j || can_open m past j) m.jobs) false) (nobody_out m past)
      (both_true (not (can_settle_more m past)) (option_map_or (λ j. is_at j n) (find (λ j. is_offered m past j || can_open m past j) m.jobs) false) (ap not settled-out)
      (first-of_either (is_offered m past) (can_open m past) (λ j. is_at j n) m.jobs
      (weaken-found (λ j. is_at j n && option_map_or (is_ask a t) (next_ask past j) false) (λ j. is_at j n) (λ j k. first_so (is_at j n) (option_map_or (is_ask a t) (next_ask past j) false) k) (find (is_offered m past) m.jobs) h) none-opens))
      none

-- ---- what is appended to what was

joined :
    (m : Meaning) (base newer older : History) → is_by_one_from m base older ≡ true → is_by_one_from m (older ++ base) newer ≡ true
    → is_by_one_from m base (newer ++ older) ≡ true
joined m base [] older h k = h
joined m base (e ∷ es) older h k =
    let next = is_by_one_after m (es ++ (older ++ base)) e in
    both_true (is_by_one_from m base (es ++ older)) (is_by_one_after m ((es ++ older) ++ base) e)
    (joined m base es older h (first_so (is_by_one_from m (older ++ base) es) next k))
    (subst (λ p. is_by_one_after m p e ≡ true) (sym (append_assoc es older base))
    (second_so (is_by_one_from m (older ++ base) es) next k))

with-base :
    (m : Meaning) (base es : History) → is_by_one m base ≡ true → is_by_one_from m base es ≡ true → is_by_one m (es ++ base) ≡ true
with-base m base [] b h = b
with-base m base (e ∷ es) b h =
    let next = is_by_one_after m (es ++ base) e in
    both_true (is_by_one m (es ++ base)) next
    (with-base m base es b (first_so (is_by_one_from m base es) next h)) (second_so (is_by_one_from m base es) next h)

-- ---- one entry more

module _ (gives : Giving) where
  settled-by_one : (m : Meaning) (past : History) (d : Document) (ns is : List JobName) (e : Entry) → settles e ≡ true → nobody_out m past ≡ true → is_by_one_after m past (with_names d ns is e) ≡ true
  settled-by_one m past d ns is (entry.HandedOut k a t) h none = absurd (true≠false (sym h))
  settled-by_one m past d ns is (entry.Accepted k a t b) h none = absurd (true≠false (sym h))
  settled-by_one m past d ns is (entry.Opened k i) h none = none
  settled-by_one m past d ns is (entry.Recalled c) h none = absurd (true≠false (sym h))
  settled-by_one m past d ns is e h none = refl

  legal-there : (m k : Meaning) (past other : History) (e : history.Entry) → m ≡ k → past ≡ other → is_legal_after gives m past e ≡ true → is_legal_after gives k other e ≡ true
  legal-there m k past other e p q h = sym (λ i. is_legal_after gives (p i) (q i) e) ∙ h

  nobody : (r : Run) → IsFree gives r → nobody_out (meant gives r) (past_of r) ≡ true
  nobody r f = all-fail (λ (j : Job). is_out (past_of r) j.name) (meant gives r).jobs (none-out gives r f)

  module _ (r s : Run) (l : IsLegalRun gives r) where
    after-one : (e : Entry) → Appends r s e → is_by_one_after (meant gives r) (past_of r) (named s e) ≡ true → AppendsByOne gives r s
    after-one e a next = record {
      document = a.document;
      appended = named s e ∷ [];
      past = one-newer gives r s e l a;
      by_one = both_true true (is_by_one_after (meant gives r) (past_of r) (named s e)) refl next;
    }

    pub accepted-stays : (t : Ticket) (right : Bool) → Appends r s (accepts t right) → AppendsByOne gives r s
    accepted-stays t right a = after-one (accepts t right) a refl

  pub settled-stays : (r s : Run) → IsFree gives r → Settles r s → AppendsByOne gives r s
  settled-stays r s f h = after-one r s f.legal h.0 h.1 (settled-by_one (meant gives r) (past_of r) s.document s.names (instances_of s.names s.entries) h.0 h.2 (nobody r f))

  pub handed-stays : (r s : Run) (t : Ticket) → IsFree gives r → NothingSettles gives r → IsLegalRun gives s → Appends r s (hands_out t) → AppendsByOne gives r s
  handed-stays r s t f quiet l a =
      after-one r s f.legal (hands_out t) a
      (handed-by_one gives (meant gives r) (past_of r) quiet (name_at s.names t.job) t.activity t.attempt
      (legal-there (meant gives s) (meant gives r) (before r s) (past_of r) (history.handed_out (name_at s.names t.job) t.activity t.attempt) (ap (meaning gives) a.document) (before-same gives r s (hands_out t) f.legal a) (handed gives r s t l a))
      (nobody r f))

  pub stays-same : (r s : Run) → s ≡ r → AppendsByOne gives r s
  stays-same r s e = subst (AppendsByOne gives r) (sym e) (record { document = refl; appended = []; past = refl; by_one = refl })

  pub stays-then : (r s t : Run) → AppendsByOne gives r s → AppendsByOne gives s t → AppendsByOne gives r t
  stays-then r s t f g = record {
    document = g.document ∙ f.document;
    appended = g.appended ++ f.appended;
    past = g.past ∙ ap (λ p. g.appended ++ p) f.past ∙ sym (append_assoc g.appended f.appended (past_of r));
    by_one = joined (meant gives r) (past_of r) g.appended f.appended f.by_one
        (sym (λ i. is_by_one_from (ap (meaning gives) f.document i) (f.past i) g.appended) ∙ g.by_one);
  }

  -- where all before was done by one worker, all is
  pub stays-by_one : (r s : Run) → AppendsByOne gives r s → IsByOne gives r → IsByOne gives s
  stays-by_one r s f was =
      (λ i. is_by_one (ap (meaning gives) f.document i) (f.past i)) ∙ with-base (meant gives r) (past_of r) f.appended was f.by_one
