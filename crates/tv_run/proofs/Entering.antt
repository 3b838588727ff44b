-- An instance that enters a run is the last of its instances, with numbers for all its jobs, and busy.
use Rattle.std.specs.List.{range_with_len}
use Rattle.std.specs.Global.{Global}
use Rattle.std.specs.Prelude.{◌≡◌, ◌≢◌, ℕ, suc, ◌+◌, ◌-◌, ◌≤◌, ◌++◌, true, false, if◌then◌else◌, List, [], ◌∷◌, Some, Vec, length, map, slice_get, vec_capacity}
use Rattle.std.proofs.Common.{ap, arith, length-append, subst, sym, ◌∙◌}
use Rattle.std.proofs.lemmas.Option.{none-some, same_Some}
use Rattle.tv_lemmas.proofs.Lists.{get-within, get-end}
use Rattle.tv_instances.specs.declared.open.Open.{Open}
use Rattle.tv_run.specs.Following.{CanFollow, Enters, FollowsIn, HasNumbers, IsEntering, numbered_in, unnumbered}
use Rattle.tv_run.specs.declared.instances.Instance as code
use Rattle.tv_run.specs.declared.run.OpenRun.{OpenRun}
use Rattle.tv_run.proofs.Fits.{unnumbered_by}

-- a list that differs from another in its last member alone
last-differs : {A : Type 0} (xs ys : List A) (e x : A) → length xs ≡ length ys + 1
    → ((k : ℕ) → k ≢ length ys → slice_get xs k ≡ slice_get (ys ++ e ∷ []) k) → slice_get xs (length ys) ≡ Some x
    → xs ≡ ys ++ x ∷ []
last-differs [] ys e x long others at = absurd (none-some x at)
last-differs (z ∷ []) [] e x long others at = ap (λ y. y ∷ []) (same_Some z x at)
last-differs (z ∷ w ∷ xs) [] e x long others at = absurd (omega (arith, long))
last-differs (z ∷ xs) (y ∷ ys) e x long others at =
    let first : z ≡ y = same_Some z y (others 0 (λ h. omega (arith, h))) in
    let rest =
    last-differs xs ys e x (omega (arith, long)) (λ k ne. others (suc k) (λ h. ne (omega (arith, h)))) at in
    λ i. first i ∷ rest i

-- m is r with e as its last instance
pub record HasLast (r m : OpenRun) (e : code.Instance) : Type 0 where
  pub same :
      m ≡ record {
        alloc = r.alloc;
        run = r.run;
        looks = r.looks;
        pool = r.pool;
        instances = m.instances;
        busy = r.busy;
        jobs = r.jobs;
        entries = r.entries;
        due = r.due;
        failed = r.failed;
        outs = r.outs;
        leftovers = r.leftovers;
      }
  pub instances : m.instances.items ≡ r.instances.items ++ e ∷ []

module _ (r m : OpenRun) (jobs : Vec ℕ Global) (slot : Vec Open Global) (o : Open) (e : code.Instance)
    (entering : IsEntering r jobs slot o) (last : HasLast r m e) (jobs-are : e.jobs ≡ jobs) (opened : e.open.items ≡ o ∷ []) where
  abbrev i : ℕ
  i = length r.instances.items

  at-itself : slice_get m.instances.items i ≡ Some e
  at-itself = ap (λ l. slice_get l i) last.instances ∙ get-end r.instances.items e

  none-numbered : length e.jobs.items ≡ 0
  none-numbered = ap (λ v. length v.items) jobs-are ∙ ap length entering.none_numbered

  all-unnumbered : unnumbered e ≡ length o.seats.seats
  all-unnumbered =
      let is : unnumbered e ≡ length o.seats.seats - length e.jobs.items =
      ap (unnumbered_by (length e.jobs.items)) opened in
      let none = none-numbered in
      omega (arith, is, none)

  pub can-follow : CanFollow m i
  can-follow = record {
    itself = e;
    there = at-itself;
    opened = o;
    is_open = opened;
    numbered = let none = none-numbered in omega (arith, none);
    room = record {
      numbers = λ c at.
          subst (λ (d : code.Instance). length d.jobs.items + unnumbered e ≤ vec_capacity d.jobs)
          (same_Some e c (sym at-itself ∙ at)) itself-room;
      beside = record {
        jobs =
            let room = entering.room in
            let more = all-unnumbered in
            let long = ap (λ (q : OpenRun). length q.jobs.items) last.same in
            let wide = ap (λ (q : OpenRun). vec_capacity q.jobs) last.same in
            omega (arith, room, more, long, wide);
        busy =
            let room = entering.busy in
            let long = ap (λ (q : OpenRun). length q.busy.items) last.same in
            let wide = ap (λ (q : OpenRun). vec_capacity q.busy) last.same in
            omega (arith, room, long, wide);
        entries =
            let room = entering.entries in
            let more = all-unnumbered in
            let long = ap (λ (q : OpenRun). length q.entries.items) last.same in
            let wide = ap (λ (q : OpenRun). vec_capacity q.entries) last.same in
            let due = ap (λ (q : OpenRun). q.due) last.same in
            omega (arith, room, more, long, wide, due);
      };
    };
  }
    where
      itself-room : length e.jobs.items + unnumbered e ≤ vec_capacity e.jobs
      itself-room =
          let room = entering.numbers in
          let none = none-numbered in
          let more = all-unnumbered in
          let wide = ap vec_capacity jobs-are in
          omega (arith, room, none, more, wide)

  module _ (s : OpenRun) (follows : FollowsIn m s i) (idle : e.is_busy ≡ false) where
    its-new : (f : code.Instance) × (slice_get s.instances.items i ≡ Some f)
    its-new =
        get-within s.instances.items i
        (let many = follows.others.as_many in
        let long = ap length last.instances ∙ length-append r.instances.items (e ∷ []) in
        omega (arith, many, long))

    itself : HasNumbers (record e { is_busy = true }) its-new.0
        (e.jobs.items ++ range_with_len (length m.jobs.items) (unnumbered e))
    itself = follows.itself e its-new.0 at-itself its-new.1

    none-before : e.jobs.items ≡ []
    none-before = ap (λ v. v.items) jobs-are ∙ entering.none_numbered

    pub entered-so : Enters r s e.flow e.opener o
    entered-so = record {
      around = record {
        alloc = follows.around.alloc ∙ ap (λ (q : OpenRun). q.alloc) last.same;
        run = follows.around.run ∙ ap (λ (q : OpenRun). q.run) last.same;
        looks = follows.around.looks ∙ ap (λ (q : OpenRun). q.looks) last.same;
        pool = follows.around.pool ∙ ap (λ (q : OpenRun). q.pool) last.same;
        entries = follows.around.entries ∙ ap (λ (q : OpenRun). q.entries) last.same;
        failed = follows.around.failed ∙ ap (λ (q : OpenRun). q.failed) last.same;
        outs = follows.around.outs ∙ ap (λ (q : OpenRun). q.outs) last.same;
      };
      itself = its-new.0;
      instances =
          last-differs s.instances.items r.instances.items e its-new.0
          (follows.others.as_many ∙ ap length last.instances ∙ length-append r.instances.items (e ∷ []))
          (λ k ne. follows.others.others k ne ∙ ap (λ l. slice_get l k) last.instances) its-new.1;
      flow_is = itself.flow;
      opener_is = itself.opener;
      is_busy = itself.is_busy;
      opened = ap (λ v. v.items) itself.opened ∙ opened;
      numbers =
          itself.jobs
          ∙ (λ j. none-before j ++ range_with_len (length (last.same j).jobs.items) (all-unnumbered j));
      jobs =
          follows.jobs e at-itself
          ∙ (λ j. (last.same j).jobs.items ++ map (numbered_in i) (range_with_len (none-numbered j) (all-unnumbered j)));
      due = follows.due e at-itself ∙ (λ j. (last.same j).due + all-unnumbered j);
      busy =
          follows.busy e at-itself
          ∙ (λ j. if idle j then (last.same j).busy.items else (last.same j).busy.items ++ i ∷ []);
    }
