-- The jobs of an open instance that have no number get theirs, one after another.
use Rattle.std.specs.List.{range_with_len}
use Rattle.std.specs.Prelude.{◌≡◌, refl, ℕ, ◌+◌, ◌-◌, ◌<◌, ◌≤◌, ◌++◌, true, if◌then◌else◌, List, [], ◌∷◌, Some, length, map, slice_get, vec_capacity}
use Rattle.std.proofs.Common.{ap, append-nil, append_assoc, arith, get_or, length-append, subst, sym, ◌∙◌}
use Rattle.std.proofs.lemmas.List.{length-map}
use Rattle.std.proofs.lemmas.List.FromFn.{length-range_with_len, map-range_with_len_more}
use Rattle.std.proofs.lemmas.Option.{get_or_from_slice_get, same_Some, slice_get_within}
use Rattle.tv_lemmas.proofs.Lists.{get-within, range-more}
use Rattle.tv_instances.specs.declared.open.Open.{Open}
use Rattle.tv_run.specs.Following.{AddsNumber, CanFollow, CanNumber, FollowsIn, HasNumbers, HasSameAround, LooksInto, Numbers, OthersAreSame, numbered_in, unnumbered}
use Rattle.tv_run.specs.declared.instances.Instance as code
use Rattle.tv_run.specs.declared.run.OpenRun.{OpenRun}
use Rattle.tv_run.proofs.Fits.{unnumbered_by}
use Rattle.tv_run.proofs.BackRooms.{around-then}

-- those below k have theirs, and nothing else has changed
pub record AreNumbering (r s : OpenRun) (i k : ℕ) : Type 0 where
  pub around : HasSameAround r s
  pub others : OthersAreSame r s i
  pub busy : s.busy ≡ r.busy
  pub before : code.Instance
  pub was : slice_get r.instances.items i ≡ Some before
  pub after : code.Instance
  pub there : slice_get s.instances.items i ≡ Some after
  pub so_far : ℕ
  pub next : k ≡ length before.jobs.items + so_far
  pub low : so_far ≤ unnumbered before
  pub numbered : HasNumbers before after (before.jobs.items ++ range_with_len (length r.jobs.items) so_far)
  pub jobs : s.jobs.items ≡ r.jobs.items ++ map (numbered_in i) (range_with_len (length before.jobs.items) so_far)
  pub capacity : vec_capacity r.jobs ≤ vec_capacity s.jobs
  pub due : s.due ≡ r.due + so_far

-- what an index finds
pub found : {A : Type 0} (xs : List A) (i : ℕ) (x y : A) → slice_get xs i ≡ Some x → y ≡ get_or xs i y → y ≡ x
found xs i x y at e = e ∙ get_or_from_slice_get xs i x y at

-- the Open of an instance, and how many jobs it knows
pub known-open : (cs : List code.Instance) (i : ℕ) (c d : code.Instance) (o p : Open) → slice_get cs i ≡ Some c
    → c.open.items ≡ o ∷ [] → d ≡ get_or cs i d → p ≡ get_or d.open.items 0 p → p ≡ o
known-open cs i c d o p at opened e f =
    found d.open.items 0 o p
    (ap (λ (a : code.Instance). slice_get a.open.items 0) (found cs i c d at e) ∙ ap (λ l. slice_get l 0) opened) f

same-around : (r : OpenRun) → HasSameAround r r
same-around r = record {
  alloc = refl;
  run = refl;
  looks = refl;
  pool = refl;
  entries = refl;
  failed = refl;
  outs = refl;
}

pub others-then : (r s t : OpenRun) (i : ℕ) → OthersAreSame r s i → OthersAreSame s t i → OthersAreSame r t i
others-then r s t i a b = record {
  as_many = b.as_many ∙ a.as_many;
  others = λ k ne. b.others k ne ∙ a.others k ne;
}

module _ (r : OpenRun) (i : ℕ) (can : CanFollow r i) where
  unnumbered-is : unnumbered can.itself ≡ length can.opened.seats.seats - length can.itself.jobs.items
  unnumbered-is = ap (unnumbered_by (length can.itself.jobs.items)) can.is_open

  pub none-yet : (k : ℕ) → k ≡ length can.itself.jobs.items → AreNumbering r r i k
  none-yet k e = record {
    around = same-around r;
    others = record { as_many = refl; others = λ k ne. refl };
    busy = refl;
    before = can.itself;
    was = can.there;
    after = can.itself;
    there = can.there;
    so_far = 0;
    next = omega (arith, e);
    low = omega arith;
    numbered = record {
      flow = refl;
      opener = refl;
      jobs = sym (append-nil can.itself.jobs.items);
      capacity = omega arith;
      is_busy = refl;
      opened = refl;
      seats = refl;
    };
    jobs = sym (append-nil r.jobs.items);
    capacity = omega arith;
    due = omega arith;
  }

  module _ (s : OpenRun) (k : ℕ) (a : AreNumbering r s i k) where
    its : a.before ≡ can.itself
    its = same_Some a.before can.itself (sym a.was ∙ can.there)

    left : k < length can.opened.seats.seats → a.so_far < unnumbered can.itself
    left h =
        let next = a.next in
        let same = ap (λ (c : code.Instance). length c.jobs.items) its in
        let is = unnumbered-is in
        omega (arith, h, next, same, is)

    pub can-number : k < length can.opened.seats.seats → CanNumber s i
    can-number h = record {
      there = slice_get_within s.instances.items i a.after a.there;
      numbers = λ c at.
          let one = same_Some a.after c (sym a.there ∙ at) in
          let long : length a.after.jobs.items ≡ length a.before.jobs.items + a.so_far =
          ap length a.numbered.jobs
          ∙ length-append a.before.jobs.items (range_with_len (length r.jobs.items) a.so_far)
          ∙ ap (λ n. length a.before.jobs.items + n) (length-range_with_len (length r.jobs.items) a.so_far) in
          let room = can.room.numbers a.before a.was in
          let capacity = a.numbered.capacity in
          let more = left h in
          subst (λ (d : code.Instance). length d.jobs.items < vec_capacity d.jobs) one
          (omega (arith, long, room, capacity, more));
      jobs =
          let long : length s.jobs.items ≡ length r.jobs.items + a.so_far =
          ap length a.jobs
          ∙ length-append r.jobs.items (map (numbered_in i) (range_with_len (length a.before.jobs.items) a.so_far))
          ∙ ap (λ n. length r.jobs.items + n)
          (length-map (range_with_len (length a.before.jobs.items) a.so_far) (numbered_in i)
          ∙ length-range_with_len (length a.before.jobs.items) a.so_far) in
          let room = can.room.beside.jobs in
          let capacity = a.capacity in
          let more = left h in
          omega (arith, long, room, capacity, more);
      due =
          let room = can.room.beside.entries in
          let due = a.due in
          let more = left h in
          let capacity = ap vec_capacity a.around.entries in
          omega (arith, room, due, more, capacity);
    }

    pub one-numbered : (t : OpenRun) → k < length can.opened.seats.seats → AddsNumber s t i k
        → AreNumbering r t i (k + 1)
    one-numbered t h adds =
        let there = get-within t.instances.items i
        (subst (λ n. i < n) (sym adds.others.as_many) (slice_get_within s.instances.items i a.after a.there)) in
        let more = left h in
        let next = a.next in
        let e = adds.numbered a.after there.0 a.there there.1 in
        record {
          around = around-then r s t a.around adds.around;
          others = others-then r s t i a.others adds.others;
          busy = adds.busy ∙ a.busy;
          before = a.before;
          was = a.was;
          after = there.0;
          there = there.1;
          so_far = a.so_far + 1;
          next = omega (arith, next);
          low = subst (λ c. a.so_far + 1 ≤ unnumbered c) (sym its) (omega (arith, more));
          numbered = record {
            flow = e.flow ∙ a.numbered.flow;
            opener = e.opener ∙ a.numbered.opener;
            jobs =
                e.jobs
                ∙ (λ j. a.numbered.jobs j ++ long j ∷ [])
                ∙ append_assoc a.before.jobs.items (range_with_len (length r.jobs.items) a.so_far)
                ((length r.jobs.items + a.so_far) ∷ [])
                ∙ ap (λ l. a.before.jobs.items ++ l) (sym (range-more (length r.jobs.items) a.so_far));
            capacity = let p = e.capacity in let q = a.numbered.capacity in omega (arith, p, q);
            is_busy = e.is_busy ∙ a.numbered.is_busy;
            opened = e.opened ∙ a.numbered.opened;
            seats = e.seats ∙ a.numbered.seats;
          };
          jobs =
              adds.jobs
              ∙ (λ j. a.jobs j ++ numbered_in i (a.next j) ∷ [])
              ∙ append_assoc r.jobs.items (map (numbered_in i) (range_with_len (length a.before.jobs.items) a.so_far))
              (numbered_in i (length a.before.jobs.items + a.so_far) ∷ [])
              ∙ ap (λ l. r.jobs.items ++ l)
              (sym
              (map-range_with_len_more (numbered_in i) (length a.before.jobs.items) a.so_far
              (length a.before.jobs.items + a.so_far) refl));
          capacity = let p = adds.capacity in let q = a.capacity in omega (arith, p, q);
          due = let p = adds.due in let q = a.due in omega (arith, p, q);
        }
      where
        long : length s.jobs.items ≡ length r.jobs.items + a.so_far
        long =
            ap length a.jobs
            ∙ length-append r.jobs.items (map (numbered_in i) (range_with_len (length a.before.jobs.items) a.so_far))
            ∙ ap (λ n. length r.jobs.items + n)
            (length-map (range_with_len (length a.before.jobs.items) a.so_far) (numbered_in i)
            ∙ length-range_with_len (length a.before.jobs.items) a.so_far)

    pub all-numbered : length can.opened.seats.seats ≤ k → Numbers r s i
    all-numbered h = record {
      around = a.around;
      others = a.others;
      numbered = λ c e at is.
          subst (λ (b : code.Instance). HasNumbers b e (b.jobs.items ++ range_with_len (length r.jobs.items) (unnumbered b)))
          (same_Some a.before c (sym a.was ∙ at))
          (subst (λ n. HasNumbers a.before e (a.before.jobs.items ++ range_with_len (length r.jobs.items) n)) all
          (subst (λ f. HasNumbers a.before f (a.before.jobs.items ++ range_with_len (length r.jobs.items) a.so_far))
          (same_Some a.after e (sym a.there ∙ is)) a.numbered));
      busy = a.busy;
      jobs = λ c at.
          subst
          (λ (b : code.Instance). s.jobs.items
          ≡ r.jobs.items ++ map (numbered_in i) (range_with_len (length b.jobs.items) (unnumbered b)))
          (same_Some a.before c (sym a.was ∙ at))
          (a.jobs ∙ ap (λ n. r.jobs.items ++ map (numbered_in i) (range_with_len (length a.before.jobs.items) n)) all);
      due = λ c at.
          subst (λ b. s.due ≡ r.due + unnumbered b) (same_Some a.before c (sym a.was ∙ at))
          (a.due ∙ ap (λ n. r.due + n) all);
    }
      where
        all : a.so_far ≡ unnumbered a.before
        all =
            let next = a.next in
            let low = a.low in
            let same = ap (λ (c : code.Instance). length c.jobs.items) its in
            let is = ap unnumbered its ∙ unnumbered-is in
            let known = can.numbered in
            omega (arith, h, next, low, same, is, known)

-- and then the instance is looked into
pub followed : (r s t : OpenRun) (i : ℕ) → CanFollow r i → Numbers r s i → LooksInto s t i → FollowsIn r t i
followed r s t i can a b = record {
  around = around-then r s t a.around b.around;
  others = others-then r s t i a.others b.others;
  itself = λ c e at is.
      let d = between c at in
      let h = a.numbered c d.0 at d.1 in
      subst
      (λ f.
      HasNumbers (record c { is_busy = true }) f
      (c.jobs.items ++ range_with_len (length r.jobs.items) (unnumbered c)))
      (sym (b.itself d.0 e d.1 is))
      (record {
        flow = h.flow;
        opener = h.opener;
        jobs = h.jobs;
        capacity = h.capacity;
        is_busy = refl;
        opened = h.opened;
        seats = h.seats;
      });
  jobs = λ c at. ap (λ v. v.items) b.jobs ∙ a.jobs c at;
  due = λ c at. b.due ∙ a.due c at;
  busy = λ c at.
      let d = between c at in
      b.busy d.0 d.1
      ∙ (λ j. if (a.numbered c d.0 at d.1).is_busy j then (a.busy j).items else (a.busy j).items ++ i ∷ []);
}
  where
    between : (c : code.Instance) → slice_get r.instances.items i ≡ Some c
        → (d : code.Instance) × (slice_get s.instances.items i ≡ Some d)
    between c at =
        get-within s.instances.items i
        (subst (λ n. i < n) (sym a.others.as_many) (slice_get_within r.instances.items i c at))
