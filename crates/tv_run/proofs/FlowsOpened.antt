-- The run goes on once a job has opened its flow, and the entry was noted.
use Rattle.std.specs.Prelude.{◌≡◌, refl, ℕ, zero, suc, ◌+◌, ◌≤◌, true, List, [], ◌∷◌, ◌++◌, Option, Some, is_none, length, slice_get, slice_set, vec_capacity}
use Rattle.std.proofs.Common.{ap, append_assoc, arith, subst, sym, ◌∙◌}
use Rattle.std.proofs.lemmas.List.{length-append, length-set, map-append}
use Rattle.std.proofs.lemmas.Option.{none-some, slice_get_within}
use Rattle.tv_lemmas.proofs.Cases.{on_either}
use Rattle.tv_value.specs.Values.{JobName, Value}
use Rattle.tv_gate.specs.Outcomes.{Giving}
use Rattle.tv_check.specs.RunViews.{run_view}
use Rattle.tv_history.specs.Entries.{opened}
use Rattle.tv_instances.specs.Answers.{AreInputs}
use Rattle.tv_instances.specs.FramingViews.{View}
use Rattle.tv_frame.specs.Tables.{levels_in}
use Rattle.tv_seats.specs.Seats.{with_stage}
use Rattle.tv_seats.specs.declared.stage.Stage.TheVariants as stage
use Rattle.tv_instances.specs.seats.Seated.{spot_of}
use Rattle.tv_instances.specs.Entries.{with_view, with_instance}
use Rattle.tv_instances.specs.Forest.{Instance, Instances, IsAt, Stand}
use Rattle.tv_instances.proofs.Lists.{of-last}
use Rattle.tv_instances.proofs.Opening.{opening}
use Rattle.tv_history.specs.Runs.{Appends, Run, meant, past_of}
use Rattle.tv_history.specs.declared.entry.Entry.TheVariants as entry
use Rattle.tv_history.proofs.ToldLemmas.{tells-opened}
use Rattle.tv_run.specs.Changes.{AddsTo, IsOpenedOn, TakesIn}
use Rattle.tv_run.specs.Rooms.{IsAsBefore, IsNoted}
use Rattle.tv_run.specs.Settlements.{OpensFirst}
use Rattle.tv_run.specs.Standing.{names_of, run_of}
use Rattle.tv_run.specs.Turns.{SettlesTo}
use Rattle.tv_run.specs.declared.instances.Numbered.{Numbered}
use Rattle.tv_run.specs.declared.run.OpenRun.{OpenRun}
use Rattle.tv_run.proofs.Failing.{failed_in, opened-fails_none}
use Rattle.tv_run.proofs.Next.{IsNext, KeepsMain, appends-noted, fits-noted, instance_names, main-kept, names-kept, outs-stay, past_then, stands-opened}
use Rattle.tv_run.proofs.Numbers.{job-named}
use Rattle.tv_run.proofs.Opening as opens

-- one in another's place, and one more
set-front : {A : Type 0} (xs : List A) (i : ℕ) (x y : A) (ys : List A) → slice_get xs i ≡ Some x
    → slice_set (xs ++ ys) i y ≡ slice_set xs i y ++ ys
set-front [] i x y ys e = absurd (none-some x e)
set-front (z ∷ xs) zero x y ys e = refl
set-front (z ∷ xs) (suc i) x y ys e = ap (λ l. z ∷ l) (set-front xs i x y ys e)

-- the main instance is where it was
main-before : (xs zs : Instances) (y : Instance) → length zs ≡ length xs → KeepsMain xs zs → KeepsMain xs (zs ++ y ∷ [])
main-before xs zs y long keeps p q was is =
    on_either (of-last zs y 0 q is) (λ h. keeps p q was h)
    (λ h.
    let some = slice_get_within xs 0 p was in
    let none : 0 ≡ length zs = h.0 in
    absurd (omega (arith, some, none, long)))

module _ (gives : Giving) (r : OpenRun) (k : ℕ) (q : OpensFirst gives r k) (m : Numbered)
    (at : slice_get r.jobs.items k ≡ Some m) (before : OpenRun) (b : IsAsBefore r before) (run : before.run ≡ r.run)
    (values : List Value) (bound : AreInputs (opens.v gives r k q) (spot_of (opens.x gives r k q).flow.steps (opens.s gives r k q)) values)
    (added : OpenRun) (y : Instance) (is_opened : IsOpenedOn (run_view before.run) (opens.flow gives r k q) values (opens.j gives r k q).name y)
    (adds : AddsTo before added (opens.xs gives r k q ++ y ∷ []))
    (taken : OpenRun)
    (takes :
    TakesIn added taken (opens.xs gives r k q ++ y ∷ []) m.instance (opens.x gives r k q) (opens.v gives r k q) m.number
    (stage.Nested (length (opens.xs gives r k q))))
    (due : taken.due + 1 ≡ added.due) (s : OpenRun)
    (noted : IsNoted taken s (entry.Opened k (length (opens.xs gives r k q))))
    (room : length added.entries.items + added.due + 1 ≤ vec_capacity added.entries) where
  abbrev xs : Instances
  xs = opens.xs gives r k q

  abbrev x : Instance
  x = opens.x gives r k q

  abbrev name : JobName
  name = (opens.j gives r k q).name

  abbrev z : Instance
  z = with_view x takes.view (with_stage m.number (stage.Nested (length xs)) x.seats)

  abbrev zs : Instances
  zs = with_instance xs m.instance z

  abbrev ys : Instances
  ys = with_instance (xs ++ y ∷ []) m.instance z

  there : IsAt xs m.instance x
  there = (opens.number-so gives r k q m at).is_job.instance

  ys-are : ys ≡ zs ++ y ∷ []
  ys-are = set-front xs m.instance x z (y ∷ []) there

  run-added : added.run ≡ r.run
  run-added = adds.run ∙ run

  stand : Stand gives (run_view r.run) levels_in (past_then r (opened name)) ys
  stand =
      subst (Stand gives (run_view r.run) levels_in (past_then r (opened name))) (sym ys-are)
      (opening gives (run_view r.run) levels_in (past_of (run_of r)) xs (opens.st gives r k q).stand m.instance m.number x
      (opens.s gives r k q) (opens.j gives r k q) (opens.v gives r k q) (opens.number-so gives r k q m at).is_job
      (opens.may gives r k q).is_open takes.view is_opened.view y (opens.legal-opening gives r k q)
      (opens.taken-for gives r k q m at added taken (xs ++ y ∷ []) (length xs) run-added takes)
      (opens.fresh gives r k q values bound before run y is_opened))

  appends-after : Appends (run_of added) (run_of s) (entry.Opened k (length xs))
  appends-after = appends-noted added taken s ys (entry.Opened k (length xs)) takes.changes noted

  appends : Appends (run_of r) (run_of s) (entry.Opened k (length xs))
  appends = record {
    document = appends-after.document ∙ ap run_view run-added;
    more = adds.more ++ appends-after.more;
    names =
        appends-after.names
        ∙ ap (λ l. l ++ appends-after.more) (adds.names ∙ ap (λ (a : Run). a.names ++ adds.more) b.same)
        ∙ append_assoc (names_of r) adds.more appends-after.more;
    entries =
        appends-after.entries
        ∙ ap (λ l. l ++ entry.Opened k (length xs) ∷ []) (adds.entries ∙ ap (λ (a : Run). a.entries) b.same);
  }

  failed : s.failed ≡ failed_in (meant gives (run_of r)) (past_then r (opened name))
  failed =
      noted.rest.failed
      ∙ takes.changes.rest.failed
      ∙ adds.failed
      ∙ b.failed
      ∙ (opens.st gives r k q).failed_is
      ∙ sym
      (opened-fails_none gives (run_view r.run) levels_in (past_of (run_of r)) xs (opens.st gives r k q).stand name
      (opens.legal-opening gives r k q))

  room-left : length s.entries.items + s.due ≤ vec_capacity s.entries
  room-left =
      let entries : length s.entries.items ≡ length taken.entries.items + 1 =
      ap length noted.entries ∙ length-append taken.entries.items (entry.Opened k (length xs) ∷ []) in
      let same = ap (λ v. length v.items) takes.changes.rest.entries in
      let wide = ap vec_capacity takes.changes.rest.entries in
      let more = noted.capacity in
      let left = noted.rest.due in
      omega (arith, entries, same, wide, more, left, due, room)

  main : KeepsMain xs ys
  main =
      subst (KeepsMain xs) (sym ys-are)
      (main-before xs zs y (length-set xs m.instance z)
      (main-kept xs m.instance x z there
      (sym (ap (λ (o : Option View). is_none o) (opens.may gives r k q).is_open))))

  is-next : IsNext gives r s ys (entry.Opened k (length xs)) (opened name)
  is-next = record {
    fits = fits-noted added taken s ys (entry.Opened k (length xs)) takes.changes noted;
    appends = appends;
    told =
        tells-opened (run_of r) k name
        (job-named gives r xs (opens.st gives r k q) k m.instance m.number x (opens.s gives r k q) (opens.j gives r k q)
        (opens.number-so gives r k q m at))
        (length xs);
    legal = opens.legal-opening gives r k q;
    stand = stand;
    failed = failed;
    room = room-left;
    outs =
        outs-stay gives r s xs ys (opens.st gives r k q) (noted.rest.run ∙ takes.changes.rest.run ∙ run-added)
        (noted.rest.outs ∙ takes.changes.rest.outs ∙ adds.outs ∙ b.outs) main;
  }

  names-then : instance_names ys ≡ instance_names xs ++ name ∷ []
  names-then =
      ap instance_names ys-are
      ∙ map-append (λ (a : Instance). a.name) zs (y ∷ [])
      ∙ ap (λ l. l ++ y.name ∷ []) (names-kept xs m.instance x z there refl)
      ∙ ap (λ n. instance_names xs ++ n ∷ []) is_opened.called

  pub opens-settles : SettlesTo gives r s true
  opens-settles = (
    (
      ys,
      stands-opened gives r s xs ys (opens.st gives r k q) k name
          (job-named gives r xs (opens.st gives r k q) k m.instance m.number x (opens.s gives r k q) (opens.j gives r k q)
          (opens.number-so gives r k q m at)) is-next names-then,
    ),
    (entry.Opened k (length xs), appends, refl),
  )
