-- A job's flow is opened, as an instance more.
use Rattle.std.specs.List.{list_any}
use Rattle.std.specs.Prelude.{◌≡◌, refl, ℕ, suc, ◌<◌, ◌⊎◌, [], ◌∷◌, ◌++◌, List, Option, None, Some, true, false, is_some, length, slice_get}
use Rattle.std.proofs.Common.{ap, inl, inr, length-set, subst, sym, ◌∙◌}
use Rattle.std.proofs.lemmas.Option.{same_Some, slice_get_within}
use Rattle.tv_lemmas.specs.Members.{In}
use Rattle.tv_lemmas.proofs.Cases.{on_either, on_or}
use Rattle.tv_lemmas.proofs.Lists.{in-front, get-end}
use Rattle.tv_value.specs.Nested.{Place}
use Rattle.tv_value.specs.Orders.{same_job}
use Rattle.tv_value.specs.Values.{JobName, Name}
use Rattle.tv_value.proofs.JobNameLemmas.{same_job_decides}
use Rattle.tv_gate.specs.Outcomes.{Giving}
use Rattle.tv_flow.specs.Flows.{Document, Flow}
use Rattle.tv_model.specs.instance.Steps.{spot}
use Rattle.tv_model.specs.instance.Events.{took}
use Rattle.tv_model.specs.Jobs.{Job}
use Rattle.tv_model.specs.Made.{Meaning}
use Rattle.tv_model.specs.Meanings.{meaning}
use Rattle.tv_model.proofs.Tests.{both_true, true≠false}
use Rattle.tv_history.specs.Entries.{Entry, History, is_ended_entry, is_opened_entry, opened}
use Rattle.tv_history.specs.Histories as histories
use Rattle.tv_history.specs.Histories.{has_open_instance, is_legal, is_legal_after, is_settled}
use Rattle.tv_framing.specs.Views.{View}
use Rattle.tv_seats.specs.Seats.{Seat, staged, with_stage}
use Rattle.tv_seats.specs.Stages.{is_nested}
use Rattle.tv_seats.specs.declared.stage.Stage.{Stage}
use Rattle.tv_seats.specs.declared.stage.Stage.TheVariants as stage
use Rattle.tv_seats.proofs.Staging.{staged-here}
use Rattle.tv_forest.specs.views.InRun.{IsOfJob}
use Rattle.tv_forest.proofs.runs.Settled.{settled-by_end}
use Rattle.tv_forest.proofs.runs.Elsewhere.{others-are_elsewhere}
use Rattle.tv_forest.specs.seats.Seated.{IsStage, Sit, spot_of}
use Rattle.tv_forest.proofs.seats.Entries.{opened-after_tries, opened_first}
use Rattle.tv_forest.proofs.seats.Runs.{sit-where_opened}
use Rattle.tv_forest.specs.Entries.{IsFresh, IsTakenFor, Opening, with_view, with_instance}
use Rattle.tv_forest.specs.Forest.{Instance, Instances, IsAt, IsJobAt, IsNamed, IsOpenAt, IsOpened, Stand, Stays}
use Rattle.tv_forest.proofs.Entries.{by-view, its-seat, same-flow, sit}
use Rattle.tv_forest.proofs.Instances.{Becomes, Later, StaysThen, later-itself, main-then, named-then, opened-then}
use Rattle.tv_forest.proofs.Lists.{at-each, at-set, of-last, of-set, same-number, to-set}
use Rattle.tv_forest.proofs.One.{stays-elsewhere}
use Rattle.tv_forest.proofs.SeatLemmas.{Spots, number_of, other-seat, spots-staged, stay-staged, this-seat, this-stage, waiting-not_nested}

module _ (gives : Giving) (d : Document) (levels : Flow → Name → ℕ) (past : History) (xs : Instances)
    (stand : Stand gives d levels past xs) (i n : ℕ) (x : Instance) (s : Seat) (j : Job) (v : View)
    (is : IsJobAt gives d xs i n x s j) (is_open : x.view ≡ Some v) (w u : View) (y : Instance)
    (legal : is_legal_after gives (meaning gives d) past (opened j.name) ≡ true)
    (taken : IsTakenFor d levels x s v w s.stage) (fresh : IsFresh d levels j y u) where
  abbrev m : Meaning
  m = meaning gives d

  abbrev p : Name × Place
  p = spot_of x.flow.steps s

  abbrev e : Entry
  e = opened j.name

  abbrev nests : Stage
  nests = stage.Nested (length xs)

  abbrev us : List Seat
  us = with_stage n nests x.seats

  abbrev x' : Instance
  x' = with_view x w us

  abbrev zs : Instances
  zs = with_instance xs i x'

  abbrev ys : Instances
  ys = zs ++ y ∷ []

  as-long : length zs ≡ length xs
  as-long = length-set xs i x'

  opens : is_some j.opens ≡ true
  opens = ap (λ (o : Option Name). is_some o) fresh.opened_by.of_job.opens

  -- ---- the job that opens

  abbrev its_sit : Sit gives d past x.name (levels x.flow) v x.seats
  its_sit = sit gives d levels past xs stand i n x s j v is is_open

  abbrev flow_is : v.flow ≡ x.flow
  flow_is = same-flow gives d levels past xs stand i n x s j v is is_open

  -- it hasn't opened it before, and its frame goes on
  record Opens (b : Stage) : Type 0 where
    pub unsettled : is_settled past j ≡ false
    pub shut : has_open_instance past j ≡ false
    pub plain : is_nested b ≡ false
    pub inputs : w.inputs ≡ v.inputs
    pub flow : w.flow ≡ v.flow
    pub now : Sit gives d (e ∷ past) x.name (levels x.flow) w us

  opens-it : Opens s.stage
  opens-it =
      by s.stage refl
      (its_sit.stages n s j is.seat (its-seat gives d levels past xs stand i n x s j v is is_open).job) taken
    where
      by : (b : Stage) → s.stage ≡ b → IsStage past j b → IsTakenFor d levels x s v w b → Opens b
      by stage.Waiting q h on = record {
        unsettled = h.unsettled;
        shut = h.inside;
        plain = refl;
        inputs = on.follows.inputs;
        flow = on.follows.flow;
        now =
            opened_first gives d past x.name (levels x.flow) v x.seats its_sit j n s.stage
            (its-seat gives d levels past xs stand i n x s j v is is_open) q legal w
            (by-view gives d levels past xs stand i n x s j v is is_open w (λ k. took k s.place) [] on) (length xs);
      }
      by (stage.Aside a) q h on = record {
        unsettled = h.0.unsettled;
        shut = h.0.inside;
        plain = refl;
        inputs = ap (λ (z : View). z.inputs) on;
        flow = ap (λ (z : View). z.flow) on;
        now =
            subst (λ z. Sit gives d (e ∷ past) x.name (levels x.flow) z us) (sym on)
            (opened-after_tries gives d past x.name (levels x.flow) v x.seats its_sit j n s.stage
            (its-seat gives d levels past xs stand i n x s j v is is_open) a q legal (length xs));
      }
      by (stage.Out a t) q h on = absurd on
      by (stage.Idle a t) q h on = absurd on
      by (stage.Nested k) q h on = absurd on
      by stage.Settled q h on = absurd on

  -- so no instance has its name yet
  is-new : (k : ℕ) (z : Instance) → IsAt xs k z → z.name ≡ j.name → ⊥
  is-new k z at named = by z.view (stand.each k z at)
    where
      by : (o : Option View) → Stays gives d levels past z o → ⊥
      by (Some a) h =
          true≠false
          (sym (both_true (is_some j.opens) (histories.is_open past j.name) opens
          (subst (λ J. histories.is_open past J ≡ true) named h.1.in_run.view.is_open))
          ∙ opens-it.shut)
      by None h =
          true≠false
          (sym (subst (λ J. list_any (is_ended_entry J) past ≡ true) named h.ended)
          ∙ sym (settled-by_end gives d j is.job.listed opens past) ∙ opens-it.unsettled)

  -- ---- all instances

  x-there : IsAt zs i x'
  x-there = at-set xs i x x' is.instance

  y-there : IsAt ys (length xs) y
  y-there = subst (λ k. IsAt ys k y) as-long (get-end zs y)

  spots : Spots x.seats us
  spots = spots-staged x.seats n s nests is.seat

  later-x : Later ys x x'
  later-x = record {
    name = refl;
    flow = refl;
    views = λ z f. (v, is_open, ap (λ (a : View). a.inputs) (sym (same_Some w z f)) ∙ opens-it.inputs);
    spots = spots;
    still = λ a k b c f g h o. stay-staged x.seats n s nests is.seat opens-it.plain a k b c f g h;
  }

  on : (k : ℕ) (z : Instance) → IsAt xs k z → Becomes gives d levels past xs stand e ys k z
  on =
      at-each xs i x is.instance (λ k z. Becomes gives d levels past xs stand e ys k z)
      (record { after = x'; there = in-front zs (y ∷ []) i x' x-there; later = later-x })
      (λ k z ne c.
      record {
        after = z;
        there = in-front zs (y ∷ []) k z (to-set xs i x x' is.instance k z ne c);
        later = later-itself ys z;
      })

  -- one of before, or the new one
  old-or_new : (k : ℕ) (z : Instance) → IsAt ys k z → (IsAt zs k z) ⊎ ((k ≡ length xs) × (y ≡ z))
  old-or_new k z b =
      on_either (of-last zs y k z b) (λ c. inl c) (λ r. inr (r.0 ∙ as-long, r.1))

  fresh-stays : StaysThen gives d levels past xs stand e ys y
  fresh-stays =
      let now =
      sit-where_opened gives d past j (levels y.flow) u y.seats stand.formed stand.accepted is.job.listed
      (both_true (is_legal gives m past) (is_legal_after gives m past e) stand.legal legal) fresh.opened_by fresh.new in
      subst (Stays gives d levels (e ∷ past) y) (sym fresh.view)
      (fresh.flow, subst (λ J. Sit gives d (e ∷ past) J (levels y.flow) u y.seats) (sym fresh.name) now)

  each : (k : ℕ) (z : Instance) → IsAt ys k z → StaysThen gives d levels past xs stand e ys z
  each k z b =
      on_either (old-or_new k z b)
      (at-each zs i x' x-there (λ k z. StaysThen gives d levels past xs stand e ys z)
      (opens-it.flow ∙ flow_is, opens-it.now)
      (λ k z ne c.
      let a = of-set xs i x x' is.instance k z ne c in
      let there =
      others-are_elsewhere e x.name z.name p.0 p.1 (ap Some is.job.name)
      (λ h. ne (stand.apart k i z x a is.instance h)) refl in
      stays-elsewhere gives d levels past e legal z there z.view (stand.each k z a)) k z)
      (λ r. subst (λ z. StaysThen gives d levels past xs stand e ys z) r.1 fresh-stays)

  abbrev Was : ℕ → Instance → Type 0
  Was k z = (a : Instance) × IsAt xs k a × Later ys a z

  was : (k : ℕ) (z : Instance) → IsAt zs k z → Was k z
  was =
      at-each zs i x' x-there Was (x, is.instance, later-x)
      (λ k z ne c. (z, of-set xs i x x' is.instance k z ne c, later-itself ys z))

  -- ---- the new one was opened by the job

  fresh-opened : (k : ℕ) → suc k ≡ length xs → IsOpened gives d ys (suc k) y
  fresh-opened k q =
      let h = slice_get_within xs i x is.instance in
      record {
        outer = i;
        before = subst (λ l. i < l) (sym q) h;
        number = n;
        around = x';
        seat = staged nests s;
        job = j;
        is_job = record {
          instance = in-front zs (y ∷ []) i x' x-there;
          seat = staged-here x.seats n s nests is.seat;
          job = is.job;
        };
        named = fresh.name;
        flow_name = fresh.opened_by.of_job.flow_name;
        opens = fresh.opened_by.of_job.opens;
        is_flow = fresh.opened_by.of_job.is_flow ∙ ap Some fresh.flow;
        while_open = λ z f. (
          ap (λ l. stage.Nested l) (sym q),
          subst (IsOfJob d j) (same_Some u z (sym fresh.view ∙ f)) fresh.opened_by.of_job,
        );
      }

  opened-by : (k : ℕ) (z : Instance) → IsAt ys (suc k) z → IsOpened gives d ys (suc k) z
  opened-by k z b =
      on_either (old-or_new (suc k) z b)
      (λ c.
      let r = was (suc k) z c in
      opened-then gives d levels past xs stand e ys on each k r.0 z r.1 b r.2)
      (λ r. subst (IsOpened gives d ys (suc k)) r.1 (fresh-opened k r.0))

  -- ---- open flows

  open-then : (name : JobName) (k : ℕ) → IsOpenAt xs k name → IsOpenAt ys k name
  open-then name k o =
      at-each xs i x is.instance (λ l z. z.name ≡ name → is_some z.view ≡ true → IsOpenAt ys l name)
      (λ h f. record { instance = x'; there = in-front zs (y ∷ []) i x' x-there; is_its = h; is_open = refl })
      (λ l z ne c h f.
      record {
        instance = z;
        there = in-front zs (y ∷ []) l z (to-set xs i x x' is.instance l z ne c);
        is_its = h;
        is_open = f;
      })
      k o.instance o.there o.is_its o.is_open

  -- the job's own
  own-open : (k : ℕ) (t : Job) → nests ≡ stage.Nested k → t.name ≡ j.name → IsOpenAt ys k t.name
  own-open k t q h =
      subst (λ l. IsOpenAt ys l t.name) (ap number_of q)
      (record {
        instance = y;
        there = y-there;
        is_its = fresh.name ∙ sym h;
        is_open = ap (λ (o : Option View). is_some o) fresh.view;
      })

  x-nested : (l k : ℕ) (t : Seat) (a : Job) → IsJobAt gives d ys i l x' t a → t.stage ≡ stage.Nested k
      → IsOpenAt ys k a.name
  x-nested l k t a b h =
      same-number l n
      (λ same.
      own-open k a (sym (this-stage x.seats n s nests is.seat l t same b.seat) ∙ h)
      (b.job.name
      ∙ ap (λ (r : Seat). spot x.name (spot_of x.flow.steps r).0 r.place)
      (this-seat x.seats n s nests is.seat l t same b.seat)
      ∙ sym is.job.name))
      (λ ne.
      open-then a.name k
      (stand.nested i l k x t a
      (record { instance = is.instance; seat = other-seat x.seats n s nests is.seat l t ne b.seat; job = b.job }) h))

  new-nested : (l k : ℕ) (t : Seat) → slice_get y.seats l ≡ Some t → t.stage ≡ stage.Nested k → ⊥
  new-nested l k t b h = waiting-not_nested t.stage k (fresh.new.new.waiting l t b) h

  nested : (o l k : ℕ) (z : Instance) (t : Seat) (a : Job) → IsJobAt gives d ys o l z t a → t.stage ≡ stage.Nested k
      → IsOpenAt ys k a.name
  nested o l k z t a b h =
      on_either (old-or_new o z b.instance)
      (λ c.
      at-each zs i x' x-there
      (λ o z. IsJobAt gives d ys o l z t a → IsOpenAt ys k a.name)
      (λ b. x-nested l k t a (record { instance = in-front zs (y ∷ []) i x' x-there; seat = b.seat; job = b.job }) h)
      (λ o z ne c b.
      let old = of-set xs i x x' is.instance o z ne c in
      open-then a.name k
      (stand.nested o l k z t a (record { instance = old; seat = b.seat; job = b.job }) h))
      o z c b)
      (λ r. absurd (new-nested l k t (subst (λ (z : Instance). slice_get z.seats l ≡ Some t) (sym r.1) b.seat) h))

  -- ---- names

  old-apart : (k l : ℕ) (z a : Instance) → IsAt zs k z → IsAt zs l a → z.name ≡ a.name → k ≡ l
  old-apart k l z a b c q =
      let r = was k z b in
      let o = was l a c in
      stand.apart k l r.0 o.0 r.1 o.1 (sym r.2.name ∙ q ∙ o.2.name)

  new-apart : (k : ℕ) (z a : Instance) → IsAt zs k z → y ≡ a → z.name ≡ a.name → ⊥
  new-apart k z a b e q =
      let r = was k z b in
      is-new k r.0 r.1 (sym r.2.name ∙ q ∙ ap (λ (o : Instance). o.name) (sym e) ∙ fresh.name)

  apart : (k l : ℕ) (z a : Instance) → IsAt ys k z → IsAt ys l a → z.name ≡ a.name → k ≡ l
  apart k l z a b c q =
      on_either (old-or_new k z b)
      (λ b.
      on_either (old-or_new l a c) (λ c. old-apart k l z a b c q) (λ r. absurd (new-apart k z a b r.1 q)))
      (λ r.
      on_either (old-or_new l a c) (λ c. absurd (new-apart l a z c r.1 (sym q))) (λ o. r.0 ∙ sym o.0))

  all : (a : Job) → In a m.jobs → list_any (is_opened_entry a.name) (e ∷ past) ≡ true → IsNamed ys a.name
  all a h f =
      on_or (same_job a.name j.name) (list_any (is_opened_entry a.name) past) f
      (λ q.
      record {
        number = length xs;
        instance = y;
        there = y-there;
        is_its = fresh.name ∙ sym ((same_job_decides a.name j.name).0 q);
      })
      (λ q. named-then gives d levels past xs stand e ys on each a.name (stand.all a h q))

  opens-one : Stand gives d levels (e ∷ past) ys
  opens-one = record {
    formed = stand.formed;
    accepted = stand.accepted;
    legal = both_true (is_legal gives m past) (is_legal_after gives m past e) stand.legal legal;
    main = main-then gives d levels past xs stand e ys on each;
    each = each;
    opened = opened-by;
    nested = nested;
    apart = apart;
    all = all;
  }

pub opening : Opening
opening = opens-one
