-- The main instance ends, and none is open then.
use Rattle.std.specs.List.{list_all, list_any}
use Rattle.std.specs.Prelude.{◌≡◌, refl, ℕ, zero, suc, ◌<◌, ◌∷◌, [], Option, None, Some, Bool, true, if◌then◌else◌, is_some, slice_get}
use Rattle.std.proofs.Common.{ap, arith, subst, sym, ◌∙◌}
use Rattle.std.proofs.lemmas.Bool.{not-true}
use Rattle.std.specs.Cmp.{first_so}
use Rattle.tv_value.specs.Nested.{Place}
use Rattle.tv_value.specs.Orders.{same_job}
use Rattle.tv_value.specs.Values.{JobName, Name}
use Rattle.tv_gate.specs.Outcomes.{Giving}
use Rattle.tv_flow.specs.Flows.{Document, Flow}
use Rattle.tv_model.specs.instance.Delivered.{StepMeaning}
use Rattle.tv_model.specs.Jobs.{Job}
use Rattle.tv_model.specs.Made.{Meaning}
use Rattle.tv_model.specs.Meanings.{meaning}
use Rattle.tv_model.proofs.Tests.{true≠false}
use Rattle.tv_history.specs.Entries.{Entry, History, ended, is_ended_entry}
use Rattle.tv_history.specs.Histories as histories
use Rattle.tv_history.specs.Histories.{can_end}
use Rattle.tv_framing.specs.Views.{View}
use Rattle.tv_seats.specs.Seats.{Seat}
use Rattle.tv_seats.specs.declared.stage.Stage.TheVariants as stage
use Rattle.tv_forest.specs.views.InRun.{IsJobThere}
use Rattle.tv_forest.proofs.runs.Elsewhere.{main-ends_elsewhere}
use Rattle.tv_forest.specs.seats.Seated.{HasEnded, spot_of}
use Rattle.tv_forest.proofs.seats.Ends.{ends-settled}
use Rattle.tv_forest.specs.Entries.{EndingMain, NoneOpenAtEnd, shut, with_instance}
use Rattle.tv_forest.specs.Forest.{Instance, Instances, IsAt, IsOpenAt, Stand, Stays}
use Rattle.tv_forest.proofs.Instances.{Becomes, Later, StaysThen, job-named, later-itself, later-shut, stand-then}
use Rattle.tv_forest.proofs.Lists.{at-each, at-set, of-set, one-at, to-set}
use Rattle.tv_forest.proofs.One.{stays-elsewhere}
use Rattle.tv_forest.proofs.SeatLemmas.{WereNested, not-nested, were-same}

module _ (gives : Giving) (d : Document) (levels : Flow → Name → ℕ) (past : History) (xs : Instances)
    (stand : Stand gives d levels past xs) where
  -- it is number 0, and no other is
  main-named : (x : Instance) → IsAt xs 0 x → x.name ≡ []
  main-named x at =
      let r = stand.main in ap (λ (z : Instance). z.name) (one-at xs 0 x r.0 at r.1) ∙ r.2.unnamed

  module _ (x : Instance) (at : IsAt xs 0 x) (can : can_end (meaning gives d) past [] ≡ true) where
    abbrev m : Meaning
    m = meaning gives d

    abbrev e : Entry
    e = ended []

    abbrev ys : Instances
    ys = with_instance xs 0 (shut x)

    x-there : IsAt ys 0 (shut x)
    x-there = at-set xs 0 x (shut x) at

    named : x.name ≡ []
    named = main-named x at

    on : (k : ℕ) (z : Instance) → IsAt xs k z → Becomes gives d levels past xs stand e ys k z
    on =
        at-each xs 0 x at (λ k z. Becomes gives d levels past xs stand e ys k z)
        (record { after = shut x; there = x-there; later = later-shut ys x })
        (λ k z ne c. record { after = z; there = to-set xs 0 x (shut x) at k z ne c; later = later-itself ys z })

    abbrev Was : ℕ → Instance → Type 0
    Was k z = (a : Instance) × IsAt xs k a × Later ys a z × WereNested a.seats z.seats

    was : (k : ℕ) (z : Instance) → IsAt ys k z → Was k z
    was =
        at-each ys 0 (shut x) x-there Was (x, at, later-shut ys x, were-same x.seats)
        (λ k z ne c. (z, of-set xs 0 x (shut x) at k z ne c, later-itself ys z, were-same z.seats))

    abbrev have_ended : Bool
    have_ended =
        list_all (λ (s : StepMeaning). if same_job [] s.instance then histories.all_known m past s.ending else true) m.steps

    main-ends : (o : Option View) → Stays gives d levels past x o → HasEnded gives d (e ∷ past) x.name x.flow x.seats
    main-ends (Some v) h =
        let last =
        ends-settled gives d past x.name (levels x.flow) v x.seats h.1
        (subst (λ J. can_end m past J ≡ true) (sym named) can) in
        subst (λ J. HasEnded gives d (ended J ∷ past) x.name x.flow x.seats) named
        (subst (λ g. HasEnded gives d (ended x.name ∷ past) x.name g x.seats) h.0 last)
    main-ends None h =
        let was_open = first_so (histories.is_open past []) have_ended can in
        let not_ended = not-true (list_any (is_ended_entry []) past) was_open in
        absurd
        (true≠false (sym (subst (λ J. list_any (is_ended_entry J) past ≡ true) named h.ended) ∙ not_ended))

    each : (k : ℕ) (z : Instance) → IsAt ys k z → StaysThen gives d levels past xs stand e ys z
    each =
        at-each ys 0 (shut x) x-there (λ k z. StaysThen gives d levels past xs stand e ys z)
        (main-ends x.view (stand.each 0 x at))
        (λ k z ne c.
        let a = of-set xs 0 x (shut x) at k z ne c in
        let elsewhere = main-ends_elsewhere z.name (λ h. ne (stand.apart k 0 z x a at (h ∙ sym named))) in
        stays-elsewhere gives d levels past e can z elsewhere z.view (stand.each k z a))

    open-then : (a : Job) (I : JobName) (p : Name × Place) → IsJobThere gives d I a p → (k : ℕ) → IsOpenAt xs k a.name
        → IsOpenAt ys k a.name
    open-then a I p it k o =
        at-each xs 0 x at (λ l z. z.name ≡ a.name → is_some z.view ≡ true → IsOpenAt ys l a.name)
        (λ h f. absurd (job-named gives d I a p it (sym h ∙ named)))
        (λ l z ne c h f.
        record { instance = z; there = to-set xs 0 x (shut x) at l z ne c; is_its = h; is_open = f })
        k o.instance o.there o.is_its o.is_open

    ends-main : Stand gives d levels (e ∷ past) ys
    ends-main =
        stand-then gives d levels past xs stand e ys on each can (λ n. refl) was
        (λ i n k y t j is h o. open-then j y.name (spot_of y.flow.steps t) is.job k o)

  -- ---- once it has ended

  module _ (x : Instance) (at : IsAt xs 0 x) (is_shut : x.view ≡ None) where
    -- a seat of one that has ended is settled, and no flow of its job is open
    not-open : (i n : ℕ) (o : Instance) (s : Seat) → HasEnded gives d past o.name o.flow o.seats
        → slice_get o.seats n ≡ Some s → s.stage ≡ stage.Nested i → ⊥
    not-open i n o s h f nested = not-nested stage.Settled i refl (sym (h.settled n s f) ∙ nested)

    within : (f i : ℕ) → i < f → (y : Instance) → IsAt xs i y → y.view ≡ None
    within zero i less y b = absurd (omega (arith, less))
    within (suc f) zero less y b = ap (λ (z : Instance). z.view) (one-at xs 0 y x b at) ∙ is_shut
    within (suc f) (suc i) less y b =
        let o = stand.opened i y b in
        let inner : o.outer < f = omega (arith, less, o.before) in
        let closed = within f o.outer inner o.around o.is_job.instance in
        let ended =
        subst (Stays gives d levels past o.around) closed (stand.each o.outer o.around o.is_job.instance) in
        by y.view refl
        (λ v q. not-open (suc i) o.number o.around o.seat ended o.is_job.seat (o.while_open v q).0)
      where
        by : (o : Option View) → y.view ≡ o → ((v : View) → y.view ≡ Some v → ⊥) → y.view ≡ None
        by None q h = q
        by (Some v) q h = absurd (h v q)

    all-shut : (i : ℕ) (y : Instance) → IsAt xs i y → y.view ≡ None
    all-shut i y b = within (suc i) i (omega arith) y b

pub ending-main : EndingMain
ending-main gives d levels past xs stand x at can = ends-main gives d levels past xs stand x at can

pub none-open_at_end : NoneOpenAtEnd
none-open_at_end gives d levels past xs stand x at is_shut = all-shut gives d levels past xs stand x at is_shut
