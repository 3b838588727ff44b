-- One open instance after another has all of it called back.
use Rattle.std.specs.Prelude.{◌≡◌, refl, ℕ, ◌+◌, ◌<◌, ◌≤◌, Some, length, slice_get}
use Rattle.std.proofs.Common.{ap, arith, subst, sym, ◌∙◌}
use Rattle.std.proofs.lemmas.Option.{same_Some, slice_get_within}
use Rattle.tv_instances.proofs.Lists.{same-number}
use Rattle.tv_run.specs.Following.{HasSameAround}
use Rattle.tv_run.specs.Recalling.{AllCalledBack, HasRoomForAll, HasRoomsIn, IsCalledBack, IsCalledBackIn}
use Rattle.tv_run.specs.declared.instances.Instance as code
use Rattle.tv_run.specs.declared.run.OpenRun.{OpenRun}
use Rattle.tv_run.proofs.BackRooms.{around-then}
use Rattle.tv_run.proofs.CalledBack.{IsAllBack}

-- those below the number are called back, and all others as they were
pub record AreBackBelow (r s : OpenRun) (n : ℕ) : Type 0 where
  pub around : HasSameAround r s
  pub as_many : length s.instances.items ≡ length r.instances.items
  pub busy : s.busy ≡ r.busy
  pub jobs : s.jobs ≡ r.jobs
  pub due : s.due ≡ r.due
  pub below :
      (i : ℕ) (c e : code.Instance) → i < n → slice_get r.instances.items i ≡ Some c
      → slice_get s.instances.items i ≡ Some e → IsCalledBack c e
  pub above : (i : ℕ) → n ≤ i → slice_get s.instances.items i ≡ slice_get r.instances.items i

pub none-back : (r : OpenRun) → AreBackBelow r r 0
none-back r = record {
  around = record {
    alloc = refl;
    run = refl;
    looks = refl;
    pool = refl;
    entries = refl;
    failed = refl;
    outs = refl;
  };
  as_many = refl;
  busy = refl;
  jobs = refl;
  due = refl;
  below = λ i c e low f g. absurd (omega (arith, low));
  above = λ i h. refl;
}

-- where nothing is open all stays as it was
pub none-open : (r : OpenRun) (i : ℕ) (g : code.Instance) → slice_get r.instances.items i ≡ Some g
    → length g.open.items ≡ 0 → IsCalledBackIn r r i
none-open r i g there none = record {
  around = record {
    alloc = refl;
    run = refl;
    looks = refl;
    pool = refl;
    entries = refl;
    failed = refl;
    outs = refl;
  };
  others = record { as_many = refl; others = λ k n. refl };
  busy = refl;
  jobs = refl;
  due = refl;
  itself = λ c e f h.
      subst (IsCalledBack c) (same_Some c e (sym f ∙ h))
      (record {
        flow = refl;
        opener = refl;
        jobs = refl;
        is_busy = refl;
        as_many = refl;
        opens = λ o p a b.
            let w = slice_get_within c.open.items 0 o a in
            let n = ap (λ (x : code.Instance). length x.open.items) (same_Some c g (sym f ∙ there)) ∙ none in
            absurd (omega (arith, w, n));
        seats = refl;
      });
}

pub one-back : (r s t : OpenRun) (n : ℕ) → AreBackBelow r s n → IsCalledBackIn s t n → AreBackBelow r t (n + 1)
one-back r s t n a b = record {
  around = around-then r s t a.around b.around;
  as_many = b.others.as_many ∙ a.as_many;
  busy = b.busy ∙ a.busy;
  jobs = b.jobs ∙ a.jobs;
  due = b.due ∙ a.due;
  below = λ i c e low f g.
      same-number i n
      (λ is.
      b.itself c e (a.above n (omega arith) ∙ subst (λ m. slice_get r.instances.items m ≡ Some c) is f)
      (subst (λ m. slice_get t.instances.items m ≡ Some e) is g))
      (λ ne. a.below i c e (less i n low ne) f (sym (b.others.others i ne) ∙ g));
  above = λ i h. b.others.others i (other i n h) ∙ a.above i (omega (arith, h));
}
  where
    less : (i n : ℕ) → i < n + 1 → (i ≡ n → ⊥) → i < n
    less i n low ne = omega (arith, low, ne)

    other : (i n : ℕ) → n + 1 ≤ i → i ≡ n → ⊥
    other i n h e = omega (arith, h, e)

pub all-back : (r s : OpenRun) (n : ℕ) → AreBackBelow r s n → length s.instances.items ≤ n → AllCalledBack r s
all-back r s n a h = record {
  around = a.around;
  as_many = a.as_many;
  busy = a.busy;
  jobs = a.jobs;
  due = a.due;
  each = λ i c e f g.
      let low = slice_get_within s.instances.items i e g in
      a.below i c e (omega (arith, low, h)) f g;
}

-- the room is there for the next
pub room-next : (r s : OpenRun) (n : ℕ) → AreBackBelow r s n → HasRoomForAll r → n < length s.instances.items
    → HasRoomsIn s n
room-next r s n a room low = record {
  each = λ c o f g.
      (room n (subst (λ m. n < m) a.as_many low)).each c o (sym (a.above n (omega arith)) ∙ f) g;
}

-- and stays where instances do
pub room-stays : (r s : OpenRun) → s.instances ≡ r.instances → HasRoomForAll r → HasRoomForAll s
room-stays r s same room i low = record {
  each = λ c o f g.
      (room i (subst (λ v. i < length v.items) same low)).each c o (ap (λ v. slice_get v.items i) (sym same) ∙ f) g;
}

-- with so many more due
pub back-then : (r s : OpenRun) (n : ℕ) → AllCalledBack r s → IsAllBack r (record s { due = s.due + n }) n
back-then r s n b = record {
  run = b.around.run;
  looks = b.around.looks;
  pool = b.around.pool;
  entries = b.around.entries;
  failed = b.around.failed;
  outs = b.around.outs;
  jobs = b.jobs;
  busy = b.busy;
  as_many = b.as_many;
  each = b.each;
  due = ap (λ d. d + n) b.due;
}
