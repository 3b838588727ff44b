-- A run that stands goes on with an entry: it stands with the instances that it has then.
use Rattle.std.specs.Prelude.{◌≡◌, ℕ, ◌+◌, ◌<◌, ◌≤◌, true, List, [], ◌∷◌, ◌++◌, None, Option, Some, is_none, length, map, option_and_then, option_map, slice_get, vec_capacity}
use Rattle.std.proofs.Common.{ap, arith, subst, sym, ◌∙◌}
use Rattle.std.proofs.lemmas.List.{length-append, length-map}
use Rattle.std.proofs.lemmas.Option.{none-some, same_Some}
use Rattle.tv_lemmas.specs.Members.{In}
use Rattle.tv_value.specs.Values.{JobName}
use Rattle.tv_gate.specs.Outcomes.{Giving}
use Rattle.tv_check.specs.RunViews.{run_view}
use Rattle.tv_model.specs.Meanings.{meaning}
use Rattle.tv_history.specs.Entries as history
use Rattle.tv_history.specs.Entries.{History}
use Rattle.tv_history.specs.Histories.{is_legal_after}
use Rattle.tv_instances.specs.FramingViews.{View}
use Rattle.tv_frame.specs.Tables.{levels_in}
use Rattle.tv_frame.specs.declared.frame.Frame.{Frame}
use Rattle.tv_frame_laws.specs.Theirs.{AreTheirs}
use Rattle.tv_instances.proofs.forest_seats.Lists.{same-images}
use Rattle.tv_instances.specs.stands.States.{AreNamesOfJobs}
use Rattle.tv_instances.specs.Forest.{Instance, Instances, IsAt, Stand}
use Rattle.tv_instances.specs.Entries.{with_instance}
use Rattle.tv_instances.proofs.Lists.{at-set, of-set, one-at, same-number}
use Rattle.tv_instances.proofs.forest_firsts.Names.{names-of_instances}
use Rattle.tv_history.specs.Runs.{Appends, instances_of, meant, opened_number, past_of}
use Rattle.tv_history.specs.declared.entry.Entry.{Entry}
use Rattle.tv_history.specs.declared.entry.Entry.TheVariants as entry
use Rattle.tv_history.proofs.LegalLemmas.{HasNames, legal-more}
use Rattle.tv_history.proofs.Numbers.{instance_count}
use Rattle.tv_history.proofs.ToldLemmas.{IsTold, instances-opened, instances-same, past-told}
use Rattle.tv_instances.specs.Standing.{IsOpen}
use Rattle.tv_instances.specs.declared.open.Open.{Open}
use Rattle.tv_run.specs.Changes.{ChangesTo}
use Rattle.tv_run.specs.Rooms.{IsNoted}
use Rattle.tv_run.specs.Standing.{Fits, IsLife, OutsAre, Stands, failed_count, frame_at, names_of, numbers_of, run_of, seats_of}
use Rattle.tv_run.specs.Turns.{GoesTo}
use Rattle.tv_run.specs.declared.instances.Instance as code
use Rattle.tv_run.specs.declared.run.OpenRun.{OpenRun}
use Rattle.tv_run.proofs.Alike.{AreAlike, fits-alike, names-alike}
use Rattle.tv_run.proofs.Failing.{failed_in}
use Rattle.tv_run.proofs.Names.{are-distinct, are-jobs, are-numbered}

-- ---- the run with one entry more

abbrev pub past_then : OpenRun → history.Entry → History
past_then r h = h ∷ past_of (run_of r)

-- s is the run r with the entry e, which tells h, and has these instances then
pub record IsNext (gives : Giving) (r s : OpenRun) (ys : Instances) (e : Entry) (h : history.Entry) : Type 0 where
  pub fits : Fits s ys
  pub appends : Appends (run_of r) (run_of s) e
  pub told : IsTold (run_of r) e h
  pub legal : is_legal_after gives (meant gives (run_of r)) (past_of (run_of r)) h ≡ true
  pub stand : Stand gives (run_view r.run) levels_in (past_then r h) ys
  pub failed : s.failed ≡ failed_in (meant gives (run_of r)) (past_then r h)
  pub room : length s.entries.items + s.due ≤ vec_capacity s.entries
  pub outs : (y : Instance) → IsAt ys 0 y → OutsAre gives (run_view s.run) s.outs (is_none y.view)

abbrev pub instance_names : Instances → List JobName
instance_names xs = map (λ (x : Instance). x.name) xs

module _ (gives : Giving) (r s : OpenRun) (xs ys : Instances) (st : Stands gives r xs) where
  -- its history then
  pub past-next : (e : Entry) (h : history.Entry) → Appends (run_of r) (run_of s) e → IsTold (run_of r) e h
      → past_of (run_of s) ≡ past_then r h
  past-next e h a t = past-told gives (run_of r) (run_of s) st.legal e h a t

  module _ (e : Entry) (h : history.Entry) (n : IsNext gives r s ys e h) where
    are-names : AreNamesOfJobs gives (run_view r.run) (past_then r h) (names_of s)
    are-names =
        subst (AreNamesOfJobs gives (run_view r.run) (past_then r h)) (sym n.fits.names_are)
        (names-of_instances gives (run_view r.run) levels_in (past_then r h) ys n.stand (numbers_of s) n.fits.numbered)

    -- what its names are
    pub has-names : HasNames gives (run_view r.run) (past_then r h) (names_of s)
    has-names = record {
      distinct = are-distinct gives (run_view r.run) (past_then r h) (names_of s) are-names;
      jobs = are-jobs gives (run_view r.run) (past_then r h) (names_of s) are-names;
      numbered = are-numbered gives (run_view r.run) (past_then r h) (names_of s) are-names;
    }

    past-is : past_of (run_of s) ≡ past_then r h
    past-is = past-next e h n.appends n.told

    -- an instance that is opened has the next number, and the instances have these names
    module _ (next : (i : ℕ) → opened_number e ≡ Some i → i ≡ instance_count (run_of r))
        (named : instances_of (names_of s) s.entries.items ≡ instance_names ys) where
      stand-then : Stand gives (run_view s.run) levels_in (past_of (run_of s)) ys
      stand-then =
          subst (λ d. Stand gives d levels_in (past_of (run_of s)) ys) (sym n.appends.document)
          (subst (λ p. Stand gives (run_view r.run) levels_in p ys) (sym past-is) n.stand)

      failed-then : s.failed ≡ failed_count gives (run_of s)
      failed-then =
          n.failed ∙ (λ i. failed_in (meaning gives (sym n.appends.document i)) (sym past-is i))

      stands-so : Stands gives s ys
      stands-so = record {
        fits = n.fits;
        stand = stand-then;
        named = named;
        legal = legal-more gives (run_of r) (run_of s) e h st.legal n.appends n.told n.legal next has-names;
        failed_is = failed-then;
        room = n.room;
        outs_are = n.outs;
      }

  -- no instance was opened
  pub stands-next : (e : Entry) (h : history.Entry) → IsNext gives r s ys e h → opened_number e ≡ None
      → instance_names ys ≡ instance_names xs → Stands gives s ys
  stands-next e h n none names =
      stands-so e h n (λ i o. absurd (none-some i (sym none ∙ o)))
      (instances-same gives (run_of r) (run_of s) st.legal e n.appends none ∙ st.named ∙ sym names)

  -- or the next one, by the job of this name
  pub stands-opened : (k : ℕ) (n : JobName) → slice_get (names_of r) k ≡ Some n
      → IsNext gives r s ys (entry.Opened k (length xs)) (history.opened n)
      → instance_names ys ≡ instance_names xs ++ n ∷ [] → Stands gives s ys
  stands-opened k n job is names =
      stands-so (entry.Opened k (length xs)) (history.opened n) is next
      (instances-opened gives (run_of r) (run_of s) st.legal k (length xs) n is.appends job
      ∙ ap (λ ns. ns ++ n ∷ []) st.named ∙ sym names)
    where
      next : (i : ℕ) → opened_number (entry.Opened k (length xs)) ≡ Some i → i ≡ instance_count (run_of r)
      next i o =
          sym (same_Some (length xs) i o)
          ∙ sym (length-map xs (λ (x : Instance). x.name))
          ∙ sym (ap length st.named)

-- ---- what most entries keep

-- the main instance is open in ys where it is in xs
abbrev pub KeepsMain : Instances → Instances → Type 0
KeepsMain xs ys = (x y : Instance) → IsAt xs 0 x → IsAt ys 0 y → is_none y.view ≡ is_none x.view

pub outs-stay : (gives : Giving) (r s : OpenRun) (xs ys : Instances) → Stands gives r xs → s.run ≡ r.run → s.outs ≡ r.outs
    → KeepsMain xs ys → (y : Instance) → IsAt ys 0 y → OutsAre gives (run_view s.run) s.outs (is_none y.view)
outs-stay gives r s xs ys st run outs keeps y at =
    let x = st.stand.main in
    subst (λ q. OutsAre gives (run_view q) s.outs (is_none y.view)) (sym run)
    (subst (λ o. OutsAre gives (run_view r.run) o (is_none y.view)) (sym outs)
    (subst (λ b. OutsAre gives (run_view r.run) r.outs b) (sym (keeps x.0 y x.1 at)) (st.outs_are x.0 x.1)))

module _ (xs : Instances) (i : ℕ) (x y : Instance) (at : IsAt xs i x) where
  pub names-kept : y.name ≡ x.name → instance_names (with_instance xs i y) ≡ instance_names xs
  names-kept e = same-images (λ (z : Instance). z.name) xs i x y at e

  pub main-kept : is_none y.view ≡ is_none x.view → KeepsMain xs (with_instance xs i y)
  main-kept e p q was is =
      same-number 0 i
      (λ here.
      let old : p ≡ x = one-at xs i p x (subst (λ n. slice_get xs n ≡ Some p) here was) at in
      let new : q ≡ y =
      one-at (with_instance xs i y) i q y (subst (λ n. slice_get (with_instance xs i y) n ≡ Some q) here is)
      (at-set xs i x y at) in
      ap (λ (z : Instance). is_none z.view) new ∙ e ∙ sym (ap (λ (z : Instance). is_none z.view) old))
      (λ ne. ap (λ (z : Instance). is_none z.view) (one-at xs 0 q p (of-set xs i x y at 0 q ne is) was))

-- ---- a change, and then the entry

abbrev frame_in : Option code.Instance → Option Frame
frame_in o = option_and_then (λ (c : code.Instance). option_map (λ (p : Open). p.frame) (slice_get c.open.items 0)) o

module _ (t s : OpenRun) (e : Entry) (noted : IsNoted t s e) where
  same : (i : ℕ) (c f : code.Instance) → slice_get t.instances.items i ≡ Some c → slice_get s.instances.items i ≡ Some f
      → f ≡ c
  same i c f was is =
      one-at t.instances.items i f c (ap (λ v. slice_get v.items i) (sym noted.rest.instances) ∙ is) was

  life-noted : (c : code.Instance) (x : Instance) (o : Option View) → IsLife t c x o → IsLife s c x o
  life-noted c x None life = life
  life-noted c x (Some v) life = record {
    itself = life.itself;
    there = life.there;
    flow = life.flow;
    is_open = λ plan e.
        subst (λ q. IsOpen (run_view q) plan s.pool life.itself v) (sym noted.rest.run)
        (subst (λ p. IsOpen (run_view t.run) plan p life.itself v) (sym noted.rest.pool) (life.is_open plan e));
    still = life.still;
  }

  alike : AreAlike t s
  alike = record {
    run = noted.rest.run;
    looks = noted.rest.looks;
    jobs = ap (λ v. v.items) noted.rest.jobs;
    due = noted.rest.due;
    as_many = ap (λ v. length v.items) noted.rest.instances;
    each = λ i c f was is.
        let one = same i c f was is in
        record {
          flow = ap (λ (g : code.Instance). g.flow) one;
          opener = ap (λ (g : code.Instance). g.opener) one;
          jobs = ap (λ (g : code.Instance). g.jobs.items) one;
          seats = ap seats_of one;
        };
  }

  -- an entry has nothing to do with the names
  pub names-noted : names_of s ≡ names_of t
  names-noted = names-alike t s alike

  pub fits-as_noted : (ys : Instances) → Fits t ys → Fits s ys
  fits-as_noted ys fits =
      fits-alike t s alike ys fits
      (λ i c f x was is there kept. subst (λ g. IsLife s g x x.view) (sym (same i c f was is)) (life-noted c x x.view kept.life))
      (subst (λ p. AreTheirs p (frame_at s)) (sym noted.rest.pool)
      (subst (AreTheirs t.pool) (λ j. λ i. frame_in (slice_get (sym noted.rest.instances j).items i)) fits.theirs))
      (λ i f is busy.
      subst (λ v. In i v.items) (sym noted.rest.busy)
      (fits.busy i f (ap (λ v. slice_get v.items i) (sym noted.rest.instances) ∙ is) busy))
      (λ i k.
      subst (λ v. i < length v.items) (sym noted.rest.instances)
      (fits.busy_low i (subst (λ v. In i v.items) noted.rest.busy k)))

module _ (r t s : OpenRun) (ys : Instances) (e : Entry) (changes : ChangesTo r t ys) (noted : IsNoted t s e) where
  pub appends-noted : Appends (run_of r) (run_of s) e
  appends-noted = record {
    document = ap run_view (noted.rest.run ∙ changes.rest.run);
    more = changes.more;
    names = names-noted t s e noted ∙ changes.names;
    entries = noted.entries ∙ ap (λ v. v.items ++ e ∷ []) changes.rest.entries;
  }

  pub fits-noted : Fits s ys
  fits-noted = fits-as_noted t s e noted ys changes.fits

-- the instances of t are ys, where as many jobs have failed, none is opened, and then e was noted, which tells h
pub record IsNotedNext (gives : Giving) (r t s : OpenRun) (xs ys : Instances) (e : Entry) (h : history.Entry) : Type 0
  where
    pub changes : ChangesTo r t ys
    pub noted : IsNoted t s e
    pub told : IsTold (run_of r) e h
    pub none : opened_number e ≡ None
    pub legal : is_legal_after gives (meant gives (run_of r)) (past_of (run_of r)) h ≡ true
    pub stand : Stand gives (run_view r.run) levels_in (past_then r h) ys
    pub failed : failed_in (meant gives (run_of r)) (past_then r h) ≡ failed_in (meant gives (run_of r)) (past_of (run_of r))
    pub room : length r.entries.items + t.due + 1 ≤ vec_capacity s.entries
    pub names : instance_names ys ≡ instance_names xs
    pub main : KeepsMain xs ys

module _ (gives : Giving) (r t s : OpenRun) (xs ys : Instances) (e : Entry) (h : history.Entry)
    (n : IsNotedNext gives r t s xs ys e h) (st : Stands gives r xs) where
  outs-same : s.outs ≡ r.outs
  outs-same = n.noted.rest.outs ∙ n.changes.rest.outs

  room-left : length s.entries.items + s.due ≤ vec_capacity s.entries
  room-left =
      let entries : length s.entries.items ≡ length r.entries.items + 1 =
      ap length (n.noted.entries ∙ ap (λ v. v.items ++ e ∷ []) n.changes.rest.entries)
      ∙ length-append r.entries.items (e ∷ []) in
      let due = n.noted.rest.due in
      let room = n.room in
      omega (arith, entries, due, room)

  is-next : IsNext gives r s ys e h
  is-next = record {
    fits = fits-noted r t s ys e n.changes n.noted;
    appends = appends-noted r t s ys e n.changes n.noted;
    told = n.told;
    legal = n.legal;
    stand = n.stand;
    failed = n.noted.rest.failed ∙ n.changes.rest.failed ∙ st.failed_is ∙ sym n.failed;
    room = room-left;
    outs = outs-stay gives r s xs ys st (n.noted.rest.run ∙ n.changes.rest.run) outs-same n.main;
  }

  pub stands-noted : Stands gives s ys
  stands-noted = stands-next gives r s xs ys st e h is-next n.none n.names

  pub goes-noted : r.outs ≡ None → GoesTo gives r s e
  goes-noted undone = record {
    stands = (ys, stands-noted, outs-same ∙ undone);
    appends = appends-noted r t s ys e n.changes n.noted;
  }
