-- The first job inside an instance, by its seats.
use Rattle.std.specs.Prelude.{◌≡◌, refl, ℕ, ◌<◌, ◌≤◌, ◌⊎◌, Bool, true, false, not, ◌&&◌, if◌then◌else◌, [], ◌∷◌, ◌++◌, length, Option, Some, None, is_some, slice_get}
use Rattle.std.proofs.Common.{ap, append-nil, append_assoc, arith, inl, inr, length-append, subst, sym, ◌∙◌}
use Rattle.std.proofs.lemmas.Bool.{false_from_ne_true}
use Rattle.std.proofs.lemmas.Option.{none-some, same_Some}
use Rattle.std.specs.Cmp.{first_so, second_so}
use Rattle.tv_lemmas.specs.Members.{In}
use Rattle.tv_lemmas.proofs.Cases.{on_either}
use Rattle.tv_value.specs.Nested.{Place}
use Rattle.tv_value.specs.Values.{JobName, Name}
use Rattle.tv_gate.specs.Outcomes.{Giving}
use Rattle.tv_flow.specs.Flows.{Document, Flow}
use Rattle.tv_model.specs.instance.Ranks.{ranked}
use Rattle.tv_model.specs.Jobs.{Job}
use Rattle.tv_model.specs.Made.{Meaning}
use Rattle.tv_model.specs.Meanings.{meaning, nesting_limit}
use Rattle.tv_model.proofs.Tests.{true≠false}
use Rattle.tv_history.specs.Entries.{History, is_out}
use Rattle.tv_history.specs.Histories.{has_open_instance, is_open, is_running, may_go_on, next_ask}
use Rattle.tv_history.proofs.OneWorker.{Before}
use Rattle.tv_history.proofs.Ready.{AnyNumber, all-sound, are-jobs, document-whole}
use Rattle.tv_history.proofs.Running.{going_on}
use Rattle.tv_history.specs.order.Chains.{is_inside}
use Rattle.tv_model.specs.JobOrder.{steps_at}
use Rattle.tv_history.proofs.Documents.{any-first, any-laid, goes-going, name-length, shut}
use Rattle.tv_history.proofs.First.{HasOwn, before-trans, going-open, has-own, open-running}
use Rattle.tv_history.proofs.Still.{inside-parts, inside-of}
use Rattle.tv_framing.specs.Views.{View}
use Rattle.tv_seats.specs.Seats.{Seat}
use Rattle.tv_forest.specs.views.InRun.{IsJobThere}
use Rattle.tv_forest.specs.seats.Seated.{Sit, spot_of}
use Rattle.tv_forest.specs.stands.Offers.{ComesNotBefore}
use Rattle.tv_forest.specs.stands.Seats.{IsJobOf, stands_anywhere}
use Rattle.tv_forest.proofs.stands.Order.{order-by_seats}
use Rattle.tv_forest.proofs.stands.Seats.{jobs-have_seats}
use Rattle.tv_forest.specs.Forest.{Instance, Instances, IsAt, IsJobAt, Stand}
use Rattle.tv_forest.specs.firsts.FirstWithin.{FirstBySeats, IsFirst, IsFirstOfSeats, IsFirstWithin, IsFoundAt, Passing}
use Rattle.tv_forest.proofs.firsts.Flows.{flows-by_names, steps-led}
use Rattle.tv_forest.proofs.firsts.Instances.{one-seat, ready-anywhere, running-anywhere, seat-job, stays-so}

-- ---- inside

module _ (gives : Giving) (d : Document) (levels : Flow → Name → ℕ) (past : History) (xs : Instances)
    (stand : Stand gives d levels past xs) where
  abbrev m : Meaning
  m = meaning gives d

  -- at the job or inside it
  abbrev AtOrIn : Job → Job → Type 0
  AtOrIn j y = (r : JobName) × (y.name ≡ j.name ++ r)

  at-or_in : (j y : Job) → is_inside j.name y.name ≡ true → AtOrIn j y
  at-or_in j y h = let p = inside-parts j.name y.name h in (p.0 ∷ p.1, p.2)

  -- all at or in a job stand before all at or in a later one of its instance
  later : (j k x y : Job) → In j m.jobs → In k m.jobs → Before j k m.jobs → j.instance ≡ k.instance
      → In x m.jobs → AtOrIn j x → In y m.jobs → AtOrIn k y → Before x y m.jobs
  later j k x y ji ki b s xi a yi (c, e) = by c e
    where
      x-k : Before x k m.jobs
      x-k = any-laid gives d j k x b s xi a.0 a.1

      by : (c : JobName) → y.name ≡ k.name ++ c → Before x y m.jobs
      by [] e =
          subst (λ z. Before x z m.jobs)
          ((are-jobs gives AnyNumber m [] (document-whole gives d)).once k y ki yi (sym (e ∙ append-nil k.name)))
          x-k
      by (c ∷ r) e =
          before-trans (λ (z : Job). z.name) m.jobs (document-whole gives d).jobs_apart x k y x-k
          (any-first gives d k y ki yi c r e)

  module _ (passes : Job → Bool) (passing : Passing gives d past passes) where
    passes-going : (j : Job) → passes j ≡ true → may_go_on m past j ≡ true
    passes-going j h =
        on_either passing
        (λ e. second_so (is_some (next_ask past j)) (may_go_on m past j) (ap (λ f. f j) (sym e) ∙ h))
        (λ e. goes-going gives d past stand.legal j (ap (λ f. f j) (sym e) ∙ h))

    module _ (i : ℕ) (x : Instance) (v : View) (there : IsAt xs i x) (told : x.view ≡ Some v) (found : ℕ → Option Job)
        (is_found : (n : ℕ) (s : Seat) (j : Job) → IsJobAt gives d xs i n x s j → IsFoundAt gives d passes past j (found n))
      where
        abbrev I : JobName
        I = x.name

        same-flow : v.flow ≡ x.flow
        same-flow = (stays-so gives d levels past xs stand i x (Some v) there told).0

        sit : Sit gives d past I (levels x.flow) v x.seats
        sit = (stays-so gives d levels past xs stand i x (Some v) there told).1

        -- a job that goes on or whose flow is open has a seat
        a-seat : (j : Job) → In j m.jobs → j.instance ≡ I → stands_anywhere m past j ≡ true
            → (n : ℕ) × (s : Seat) × IsJobAt gives d xs i n x s j
        a-seat j h e k =
            let w = jobs-have_seats gives d past I (levels x.flow) v x.seats sit j h e k in (
              w.number,
              w.seat,
              record {
                instance = there;
                seat = w.there;
                job = subst (λ (f : Flow). IsJobThere gives d I j (spot_of f.steps w.seat)) same-flow w.is_its;
              },
            )

        going-anywhere : (j : Job) → may_go_on m past j ≡ true → stands_anywhere m past j ≡ true
        going-anywhere j g =
            on_either
            (going_on gives m (all-sound gives AnyNumber m [] (document-whole gives d)) (are-jobs gives AnyNumber m [] (document-whole gives d)) past j g)
            (λ k.
            running-anywhere m past j
            (first_so (is_running past j) (not (is_out past j.name))
            (first_so (is_running past j && not (is_out past j.name)) (not (has_open_instance past j)) k)))
            (λ k. ready-anywhere m past j k)

        -- ---- where the first inside is found

        -- at a seat something is found that y is or stands behind
        record IsCovered (y : Job) : Type 0 where
          number : ℕ
          seat : Seat
          own : Job
          is_its : IsJobAt gives d xs i number x seat own
          it : Job
          is_found_there : found number ≡ Some it
          is_job : In it m.jobs
          at_own : AtOrIn own it
          first : (y ≡ it) ⊎ Before it y m.jobs

        covered : (y : Job) → In y m.jobs → is_inside I y.name ≡ true → passes y ≡ true → IsCovered y
        covered y yi ins p =
            let c = inside-parts I y.name ins in
            let h = has-own gives AnyNumber m (document-whole gives d) past stand.legal I c.0 c.1 y yi c.2 open-there in
            by h (has_open_instance past h.own) refl
          where
            goes : may_go_on m past y ≡ true
            goes = passes-going y p

            open-there : is_open past y.instance ≡ true
            open-there = going-open gives AnyNumber m (document-whole gives d) past stand.legal y yi goes

            Own : Name × Place → Type 0
            Own c = HasOwn gives AnyNumber m (document-whole gives d) past stand.legal I c y

            -- its flow is open: y is inside
            nested : (c : Name × Place) (h : Own c) → has_open_instance past h.own ≡ true → (o : Option Job)
                → IsFirstWithin gives d passes h.own.name o
                → (it : Job) × (o ≡ Some it) × In it m.jobs × AtOrIn h.own it × ((y ≡ it) ⊎ Before it y m.jobs)
            nested c h inner o w = cases h.rest h.inside_it o w
              where
                cases : (r : JobName) → y.name ≡ h.own.name ++ r → (o : Option Job) → IsFirstWithin gives d passes h.own.name o
                    → (it : Job) × (o ≡ Some it) × In it m.jobs × AtOrIn h.own it × ((y ≡ it) ⊎ Before it y m.jobs)
                cases [] e o w =
                    let same = (are-jobs gives AnyNumber m [] (document-whole gives d)).once y h.own yi h.mine (e ∙ append-nil h.own.name) in
                    absurd (true≠false (sym p ∙ ap passes same ∙ shut gives d past stand.legal passes passes-going h.own h.mine inner))
                cases (k ∷ r) e None w =
                    absurd (true≠false (sym p ∙ w y yi (subst (λ n. is_inside h.own.name n ≡ true) (sym e) (inside-of h.own.name k r))))
                cases (k ∷ r) e (Some z) w = (
                  z,
                  refl,
                  w.is_job,
                  at-or_in h.own z w.inside,
                  w.first y yi (subst (λ n. is_inside h.own.name n ≡ true) (sym e) (inside-of h.own.name k r)) p,
                )

            by : {c : Name × Place} (h : Own c) (b : Bool) → has_open_instance past h.own ≡ b → IsCovered y
            by {c = c} h true e =
                let s =
                a-seat h.own h.mine h.in_instance
                (running-anywhere m past h.own (open-running gives AnyNumber m (document-whole gives d) past stand.legal h.own h.mine e))
                in
                let r = nested c h e (found s.0) ((is_found s.0 s.1 h.own s.2).within e) in
                record {
                  number = s.0;
                  seat = s.1;
                  own = h.own;
                  is_its = s.2;
                  it = r.0;
                  is_found_there = r.1;
                  is_job = r.2;
                  at_own = r.3;
                  first = r.4;
                }
            by {c = c} h false e =
                let same = on_either h.itself_or_open (λ q. q) (λ q. absurd (true≠false (sym q ∙ e))) in
                let s = a-seat h.own h.mine h.in_instance (going-anywhere h.own (subst (λ z. may_go_on m past z ≡ true) same goes)) in
                record {
                  number = s.0;
                  seat = s.1;
                  own = h.own;
                  is_its = s.2;
                  it = h.own;
                  is_found_there =
                      (is_found s.0 s.1 h.own s.2).itself e
                      ∙ ap (λ b. if b then Some h.own else None) (ap passes (sym same) ∙ p);
                  is_job = h.mine;
                  at_own = ([], sym (append-nil h.own.name));
                  first = inl same;
                }

        -- ---- what is found

        record IsFoundOf (p j : Job) : Type 0 where
          is_job : In j m.jobs
          at_own : AtOrIn p j
          does : passes j ≡ true

        found-of : (n : ℕ) (s : Seat) (p j : Job) → IsJobAt gives d xs i n x s p → found n ≡ Some j → IsFoundOf p j
        found-of n s p j it e = by (has_open_instance past p) refl
          where
            itself : (b : Bool) → passes p ≡ b → Some j ≡ (if b then Some p else None) → IsFoundOf p j
            itself true q f =
                let same = same_Some p j (sym f) in
                subst (IsFoundOf p) same
                (record { is_job = it.job.listed; at_own = ([], sym (append-nil p.name)); does = q })
            itself false q f = absurd (none-some j (sym f))

            by : (b : Bool) → has_open_instance past p ≡ b → IsFoundOf p j
            by true h =
                let w = subst (IsFirstWithin gives d passes p.name) e ((is_found n s p it).within h) in
                record { is_job = w.is_job; at_own = at-or_in p j w.inside; does = w.does }
            by false h = itself (passes p) refl (sym e ∙ (is_found n s p it).itself h)

        -- the steps of the instance are those to which its name leads
        led : (j : Job) → In j m.jobs → j.instance ≡ I → steps_at d.flows nesting_limit d.main I ≡ ranked v.flow.steps
        led j h e =
            steps-led gives d stand.formed stand.accepted nesting_limit d.main I x.flow
            (short ((document-whole gives d).jobs j h).key (name-length gives d j h)
            (((document-whole gives d).jobs j h).named ∙ ap (λ l. l ++ ((document-whole gives d).jobs j h).key ∷ []) e))
            (flows-by_names gives d levels past xs stand i x there)
            ∙ ap (λ (f : Flow). ranked f.steps) (sym same-flow)
          where
            short : (k : Name × Place) → length j.name ≤ nesting_limit → j.name ≡ I ++ k ∷ [] → length I < nesting_limit
            short k b q = omega (arith, b, ap (λ (l : JobName). length l) q ∙ length-append I (k ∷ []))

        of-view : (n : ℕ) (s : Seat) (j : Job) → IsJobAt gives d xs i n x s j → IsJobOf gives d I v j s
        of-view n s j it = subst (λ (f : Flow). IsJobThere gives d I j (spot_of f.steps s)) (sym same-flow) it.job

        first-is : (n : ℕ) (s : Seat) (j : Job) → slice_get x.seats n ≡ Some s → found n ≡ Some j
            → ((k : ℕ) (t : Seat) → slice_get x.seats k ≡ Some t → is_some (found k) ≡ true → ComesNotBefore v t s)
            → IsFirst gives d passes I j
        first-is n s j at e least =
            record { is_job = own.is_job; inside = inside-it; does = own.does; first = first }
          where
            p : (p : Job) × IsJobAt gives d xs i n x s p
            p = seat-job gives d levels past xs stand i n x s there at

            own : IsFoundOf p.0 j
            own = found-of n s p.0 j p.1 e

            inside-it : is_inside I j.name ≡ true
            inside-it =
                let k = spot_of x.flow.steps s in
                subst (λ l. is_inside I l ≡ true)
                (sym (own.at_own.1 ∙ ap (λ l. l ++ own.at_own.0) p.1.job.name ∙ append_assoc I (k ∷ []) own.at_own.0))
                (inside-of I k own.at_own.0)

            behind : (y : Job) → In y m.jobs → (w : IsCovered y) → (w.own ≡ p.0) ⊎ Before p.0 w.own m.jobs
                → (y ≡ j) ⊎ Before j y m.jobs
            behind y yi w (inl q) =
                let at-same = one-seat gives d levels past xs stand i n i w.number x x s w.seat p.0 p.1 (subst (IsJobAt gives d xs i w.number x w.seat) q w.is_its) in
                let same = same_Some w.it j (sym w.is_found_there ∙ ap found at-same.1 ∙ e) in
                subst (λ z. (y ≡ z) ⊎ Before z y m.jobs) same w.first
            behind y yi w (inr q) =
                let before =
                later p.0 w.own j w.it p.1.job.listed w.is_its.job.listed q (p.1.job.within ∙ sym w.is_its.job.within) own.is_job own.at_own
                w.is_job w.at_own
                in
                inr
                (on_either w.first (λ f. subst (λ z. Before j z m.jobs) (sym f) before)
                (λ f. before-trans (λ (z : Job). z.name) m.jobs (document-whole gives d).jobs_apart j w.it y before f))

            first : (y : Job) → In y m.jobs → is_inside I y.name ≡ true → passes y ≡ true → (y ≡ j) ⊎ Before j y m.jobs
            first y yi ins q =
                let w = covered y yi ins q in
                behind y yi w
                (order-by_seats gives d past I (levels x.flow) v x.seats sit n s p.0 at (of-view n s p.0 p.1)
                (led p.0 p.1.job.listed p.1.job.within) w.number w.seat w.own w.is_its.seat (of-view w.number w.seat w.own w.is_its)
                (least w.number w.seat w.is_its.seat (ap is_some w.is_found_there)))

        none-is : ((n : ℕ) (s : Seat) → slice_get x.seats n ≡ Some s → found n ≡ None) → IsFirstWithin gives d passes I None
        none-is none y yi ins =
            false_from_ne_true (passes y)
            (λ q.
            let w = covered y yi ins q in
            none-some w.it (sym (none w.number w.seat w.is_its.seat) ∙ w.is_found_there))

        pub first-of_seats : IsFirstOfSeats gives d passes x.name v x.seats found
        first-of_seats = record { first = first-is; none = none-is }

pub first-by_seats : FirstBySeats
first-by_seats gives d levels past xs stand i x v there told passes passing found is_found =
    first-of_seats gives d levels past xs stand passes passing i x v there told found is_found
