-- The instances of a run after an entry more, where each is one of before later on.
use Rattle.std.specs.List.{list_any}
use Rattle.std.specs.Option.{option_map_or}
use Rattle.std.specs.Prelude.{◌≡◌, refl, ℕ, suc, ◌||◌, ◌∷◌, [], List, false, true, Some, map, slice_get}
use Rattle.std.proofs.Common.{ap, subst, sym, ◌∙◌}
use Rattle.std.proofs.lemmas.Option.{none-some}
use Rattle.tv_lemmas.specs.Members.{In}
use Rattle.tv_value.specs.Nested.{Place}
use Rattle.tv_value.specs.Values.{JobName, Name, Value}
use Rattle.tv_gate.specs.Outcomes.{Giving}
use Rattle.tv_flow.specs.Flows.{Document, Flow}
use Rattle.tv_model.specs.Jobs.{Job}
use Rattle.tv_model.specs.Made.{Meaning}
use Rattle.tv_model.specs.Meanings.{meaning}
use Rattle.tv_model.proofs.Tests.{both_true}
use Rattle.tv_history.specs.Entries.{Entry, History, is_opened_entry}
use Rattle.tv_history.specs.Histories.{is_legal, is_legal_after}
use Rattle.tv_history.proofs.Ready.{AnyNumber, are-jobs, document-whole}
use Rattle.tv_framing.specs.Views.{View}
use Rattle.tv_seats.specs.Seats.{Seat}
use Rattle.tv_seats.specs.declared.stage.Stage.TheVariants as stage
use Rattle.tv_forest.specs.views.InRun.{IsJobThere, IsOfJob}
use Rattle.tv_forest.specs.seats.Seated.{Sit, spot_of}
use Rattle.tv_forest.specs.Entries.{shut}
use Rattle.tv_forest.specs.Forest.{Instance, Instances, IsAt, IsJobAt, IsMain, IsNamed, IsOfSeat, IsOpenAt, IsOpened, Stand, Stays}
use Rattle.tv_forest.proofs.Lists.{no-last, one-at}
use Rattle.tv_forest.proofs.SeatLemmas.{Spots, WereNested, spots-same, stay-same}

-- ---- one instance later on

-- it is open in this list
pub record IsOpenNumber (ys : Instances) (k : ℕ) : Type 0 where
  pub instance : Instance
  pub there : IsAt ys k instance
  pub view : View
  pub is_open : instance.view ≡ Some view

-- y is x later on, as the instances ys stand then: perhaps it ended, and its jobs' flows are open as long as they are
pub record Later (ys : Instances) (x y : Instance) : Type 0 where
  pub name : y.name ≡ x.name
  pub flow : y.flow ≡ x.flow
  pub views : (w : View) → y.view ≡ Some w → (v : View) × (x.view ≡ Some v) × (w.inputs ≡ v.inputs)
  pub spots : Spots x.seats y.seats
  pub still :
      (n k : ℕ) (s t : Seat) → slice_get x.seats n ≡ Some s → slice_get y.seats n ≡ Some t
      → s.stage ≡ stage.Nested k → IsOpenNumber ys k → t.stage ≡ stage.Nested k

pub later-itself : (ys : Instances) (x : Instance) → Later ys x x
later-itself ys x = record {
  name = refl;
  flow = refl;
  views = λ w e. (w, e, refl);
  spots = spots-same x.seats;
  still = λ n k s t e f h is. stay-same x.seats n k s t e f h;
}

-- it ended
pub later-shut : (ys : Instances) (x : Instance) → Later ys x (shut x)
later-shut ys x = record {
  name = refl;
  flow = refl;
  views = λ w e. absurd (none-some w e);
  spots = spots-same x.seats;
  still = λ n k s t e f h is. stay-same x.seats n k s t e f h;
}

-- the spot of a job stays
same-spot : (f g : Flow) (s t : Seat) → g ≡ f → t.step ≡ s.step → t.place ≡ s.place → spot_of g.steps t ≡ spot_of f.steps s
same-spot f g s t e a b = λ i. (option_map_or (λ u. u.0) (slice_get (e i).steps (a i)) [], b i)

-- the view is still of the flow that the job opens, on what it binds
pub of-job_then : (d : Document) (j : Job) (v w : View) → w.flow ≡ v.flow → w.inputs ≡ v.inputs → IsOfJob d j v
    → IsOfJob d j w
of-job_then d j v w f i h = record {
  flow_name = h.flow_name;
  opens = h.opens;
  is_flow = h.is_flow ∙ ap Some (sym f);
  names = ap (λ (l : List (Name × Value)). map (λ x. x.0) l) i ∙ h.names ∙ ap (λ (g : Flow). map (λ x. x.0) g.inputs) (sym f);
  values = ap (λ (l : List (Name × Value)). map (λ x. x.1) l) i ∙ h.values;
}

module _ (gives : Giving) (d : Document) where
  abbrev m : Meaning
  m = meaning gives d

  pub one-job : (j k : Job) → In j m.jobs → In k m.jobs → j.name ≡ k.name → j ≡ k
  one-job j k h i e = (are-jobs gives AnyNumber m [] (document-whole gives d)).once j k h i e

  -- no job is named as the main instance is
  pub job-named : (I : JobName) (j : Job) (x : Name × Place) → IsJobThere gives d I j x → j.name ≡ [] → ⊥
  job-named I j x it e = no-last I (x.0, x.1) (sym it.name ∙ e)

  module _ (ys : Instances) (x y : Instance) (l : Later ys x y) (s t : Seat) (step : t.step ≡ s.step)
      (place : t.place ≡ s.place) (j : Job) where
    spot-stays : spot_of y.flow.steps t ≡ spot_of x.flow.steps s
    spot-stays = same-spot x.flow y.flow s t l.flow step place

    pub job-then : IsOfSeat gives d x s j → IsOfSeat gives d y t j
    job-then it =
        subst (λ p. IsJobThere gives d y.name j p) (sym spot-stays)
        (subst (λ I. IsJobThere gives d I j (spot_of x.flow.steps s)) (sym l.name) it)

    pub job-before : IsOfSeat gives d y t j → IsOfSeat gives d x s j
    job-before it =
        subst (λ p. IsJobThere gives d x.name j p) spot-stays
        (subst (λ I. IsJobThere gives d I j (spot_of y.flow.steps t)) l.name it)

-- ---- all instances

module _ (gives : Giving) (d : Document) (levels : Flow → Name → ℕ) (past : History) (xs : Instances)
    (stand : Stand gives d levels past xs) where
  -- what an open one was told, and its seats
  pub sits : (i : ℕ) (x : Instance) (v : View) → IsAt xs i x → x.view ≡ Some v
      → (v.flow ≡ x.flow) × Sit gives d past x.name (levels x.flow) v x.seats
  sits i x v at is_open = subst (Stays gives d levels past x) is_open (stand.each i x at)

  module _ (e : Entry) (ys : Instances) where
    abbrev pub StaysThen : Instance → Type 0
    StaysThen y = Stays gives d levels (e ∷ past) y y.view

    -- number i of before, later on
    pub record Becomes (i : ℕ) (x : Instance) : Type 0 where
      pub after : Instance
      pub there : IsAt ys i after
      pub later : Later ys x after

    module _ (on : (i : ℕ) (x : Instance) → IsAt xs i x → Becomes i x)
        (each : (i : ℕ) (y : Instance) → IsAt ys i y → StaysThen y) where
      pub main-then : (y : Instance) × IsAt ys 0 y × IsMain d y
      main-then =
          let x = stand.main in
          let b = on 0 x.0 x.1 in
          let l = b.later in (
            b.after,
            b.there,
            record {
              unnamed = l.name ∙ x.2.unnamed;
              is_flow = x.2.is_flow ∙ ap Some (sym l.flow);
              inputs = λ w f. let v = l.views w f in v.2 ∙ x.2.inputs v.0 v.1;
            },
          )

      pub named-then : (n : JobName) → IsNamed xs n → IsNamed ys n
      named-then n x =
          let b = on x.number x.instance x.there in
          record { number = x.number; instance = b.after; there = b.there; is_its = b.later.name ∙ x.is_its }

      same-flow : (i : ℕ) (x y : Instance) (v w : View) → IsAt xs i x → IsAt ys i y → Later ys x y
          → x.view ≡ Some v → y.view ≡ Some w → w.flow ≡ v.flow
      same-flow i x y v w a b l f g =
          let now : (w.flow ≡ y.flow) × Sit gives d (e ∷ past) y.name (levels y.flow) w y.seats =
          subst (Stays gives d levels (e ∷ past) y) g (each i y b) in
          now.0 ∙ l.flow ∙ sym (sits i x v a f).0

      -- who opened it
      pub opened-then : (i : ℕ) (x y : Instance) → IsAt xs (suc i) x → IsAt ys (suc i) y → Later ys x y
          → IsOpened gives d ys (suc i) y
      opened-then i x y a b l =
          let o = stand.opened i x a in
          let r = on o.outer o.around o.is_job.instance in
          let t = r.later.spots o.number o.seat o.is_job.seat in
          record {
            outer = o.outer;
            before = o.before;
            number = o.number;
            around = r.after;
            seat = t.0;
            job = o.job;
            is_job = record {
              instance = r.there;
              seat = t.1;
              job = job-then gives d ys o.around r.after r.later o.seat t.0 t.2 t.3 o.job o.is_job.job;
            };
            named = l.name ∙ o.named;
            flow_name = o.flow_name;
            opens = o.opens;
            is_flow = o.is_flow ∙ ap Some (sym l.flow);
            while_open = λ w g.
                let v = l.views w g in
                let h = o.while_open v.0 v.1 in (
                  r.later.still o.number (suc i) o.seat t.0 o.is_job.seat t.1 h.0
                      (record { instance = y; there = b; view = w; is_open = g }),
                  of-job_then d o.job v.0 w (same-flow (suc i) x y v.0 w a b l v.1 g) v.2 h.1,
                );
          }

      -- the open flow of a job
      module _ (i n k : ℕ) (x y : Instance) (t : Seat) (j : Job) (a : IsAt xs i x) (l : Later ys x y)
          (were : WereNested x.seats y.seats) (is : IsJobAt gives d ys i n y t j) (h : t.stage ≡ stage.Nested k) where
        abbrev before : (s : Seat) × (slice_get x.seats n ≡ Some s) × (s.stage ≡ stage.Nested k)
        before = were n k t is.seat h

        pub job-was : IsJobAt gives d xs i n x before.0 j
        job-was =
            let r = l.spots n before.0 before.1 in
            let q = one-at y.seats n r.0 t r.1 is.seat in
            record {
              instance = a;
              seat = before.1;
              job = job-before gives d ys x y l before.0 t (ap (λ (u : Seat). u.step) (sym q) ∙ r.2)
                  (ap (λ (u : Seat). u.place) (sym q) ∙ r.3) j is.job;
            }

        pub open-was : IsOpenAt xs k j.name
        open-was = stand.nested i n k x before.0 j job-was before.2

      module _ (legal : is_legal_after gives (meaning gives d) past e ≡ true)
          (none : (n : JobName) → is_opened_entry n e ≡ false)
          (was : (i : ℕ) (y : Instance) → IsAt ys i y
          → (x : Instance) × IsAt xs i x × Later ys x y × WereNested x.seats y.seats)
          (stay : (i n k : ℕ) (y : Instance) (t : Seat) (j : Job) → IsJobAt gives d ys i n y t j
          → t.stage ≡ stage.Nested k → IsOpenAt xs k j.name → IsOpenAt ys k j.name) where
        -- no instance is new
        pub stand-then : Stand gives d levels (e ∷ past) ys
        stand-then = record {
          formed = stand.formed;
          accepted = stand.accepted;
          legal =
              both_true (is_legal gives (meaning gives d) past) (is_legal_after gives (meaning gives d) past e)
              stand.legal legal;
          main = main-then;
          each = each;
          opened = λ i y b. let r = was (suc i) y b in opened-then i r.0 y r.1 b r.2;
          nested = λ i n k y t j is h.
              let r = was i y is.instance in
              stay i n k y t j is h (open-was i n k r.0 y t j r.1 r.2 r.3 is h);
          apart = λ i k y z b c q.
              let r = was i y b in
              let u = was k z c in
              stand.apart i k r.0 u.0 r.1 u.1 (sym r.2.name ∙ q ∙ u.2.name);
          all = λ j i h.
              named-then j.name
              (stand.all j i (subst (λ b. (b || list_any (is_opened_entry j.name) past) ≡ true) (none j.name) h));
        }
