-- Where nothing can be settled of each open instance, nothing can be settled in the run.
use Rattle.std.specs.Prelude.{◌≡◌, refl, ℕ, true, false, not, ◌&&◌, ◌||◌, Some}
use Rattle.std.proofs.Common.{ap, sym, ◌∙◌}
use Rattle.std.proofs.lemmas.Bool.{false_from_ne_true, not-true}
use Rattle.std.specs.Cmp.{first_so, second_so}
use Rattle.tv_lemmas.specs.Members.{In}
use Rattle.tv_value.specs.Nested.{Place}
use Rattle.tv_value.specs.Values.{JobName, Name}
use Rattle.tv_gate.specs.Outcomes.{Giving}
use Rattle.tv_flow.specs.Flows.{Document, Flow}
use Rattle.tv_model.specs.Jobs.{Job}
use Rattle.tv_model.specs.Levels.{Level, levels as levels_of}
use Rattle.tv_model.specs.Made.{Meaning}
use Rattle.tv_model.specs.Meanings.{meaning}
use Rattle.tv_model.specs.Turns.{is_bounced}
use Rattle.tv_model.proofs.Tests.{true≠false}
use Rattle.tv_history.specs.Entries.{History}
use Rattle.tv_history.specs.Histories.{all_known, can_bounce, can_end, can_settle, can_settle_more, has_entry, instances, is_open, is_ready, is_running, is_settled, may_go_on}
use Rattle.tv_history.proofs.Documents.{going-plain}
use Rattle.tv_framing.specs.Answers.{IsReadyJob}
use Rattle.tv_framing.specs.Views.{View}
use Rattle.tv_seats.specs.Stages.{is_waiting}
use Rattle.tv_seats.specs.declared.stage.Stage.{Stage}
use Rattle.tv_seats.specs.declared.stage.Stage.TheVariants as stage
use Rattle.tv_forest.specs.views.Stated.{IsBoundAsTold}
use Rattle.tv_forest.proofs.views.LawLemmas.{inputs-are_told, instances-end_as_told, levels-settle_as_told, ready-is_told}
use Rattle.tv_forest.specs.seats.Seated.{HasSeatIn, IsStage, spot_of}
use Rattle.tv_history.proofs.offers.Runs.{none-of}
use Rattle.tv_forest.specs.Forest.{Instance, Instances, IsAt, Stand}
use Rattle.tv_forest.specs.firsts.FirstWithin.{GoingByNext}
use Rattle.tv_forest.specs.firsts.Opening.{IsStill, QuietByInstances}
use Rattle.tv_forest.proofs.firsts.Instances.{IsThere, open-there, ready-anywhere, seats-of}
use Rattle.tv_forest.proofs.firsts.Opened.{ready-open}
use Rattle.tv_forest.proofs.firsts.Seats.{AreSeats}

-- a job that neither runs nor is settled waits
waiting-is : (past : History) (j : Job) (x : Stage) → IsStage past j x → is_running past j ≡ false
    → is_settled past j ≡ false → is_waiting x ≡ true
waiting-is past j stage.Waiting h r s = refl
waiting-is past j (stage.Out a t) h r s = absurd (true≠false (sym h.0.runs ∙ r))
waiting-is past j (stage.Idle a t) h r s = absurd (true≠false (sym h.0.runs ∙ r))
waiting-is past j (stage.Aside a) h r s = absurd (true≠false (sym h.0.runs ∙ r))
waiting-is past j (stage.Nested i) h r s = absurd (true≠false (sym h.runs ∙ r))
waiting-is past j stage.Settled h r s = absurd (true≠false (sym h.0 ∙ s))

module _ (gives : Giving) (d : Document) (levels : Flow → Name → ℕ) (past : History) (xs : Instances)
    (stand : Stand gives d levels past xs)
    (still : (i : ℕ) (x : Instance) (v : View) → IsAt xs i x → x.view ≡ Some v → IsStill levels x v) where
  abbrev m : Meaning
  m = meaning gives d

  abbrev There : JobName → Type 0
  There I = IsThere gives d levels past xs stand I

  -- a ready job of an open instance isn't bounced
  tried-at : (j : Job) → In j m.jobs → is_ready m past j ≡ true → There j.instance → is_bounced j.ending ≡ false
  tried-at j i r t =
      sym told.bounced ∙ sym (told.fault false ((still t.number x v t.there t.told).bounces w.number w.seat w.there (waits, ready)))
    where
      x : Instance
      x = t.instance

      v : View
      v = t.view

      its : AreSeats gives d past x.name x.flow x.seats
      its = seats-of gives d levels past xs stand t.number x t.there

      w : HasSeatIn gives d x.name x.flow x.seats j
      w = its.have j i (sym t.named) (ready-anywhere m past j r)

      spot : Name × Place
      spot = spot_of x.flow.steps w.seat

      told : IsBoundAsTold v j spot
      told = inputs-are_told gives d past x.name (levels x.flow) v t.sit.in_run spot j w.is_its

      ready : IsReadyJob (levels x.flow) v spot
      ready = ((ready-is_told gives d past x.name (levels x.flow) v t.sit.in_run spot j w.is_its).told r).1

      waits : is_waiting w.seat.stage ≡ true
      waits =
          let a = first_so (is_open past j.instance && not (is_running past j) && not (is_settled past j)) (all_known m past j.waits) r in
          let b = first_so (is_open past j.instance && not (is_running past j)) (not (is_settled past j)) a in
          waiting-is past j w.seat.stage (its.stages w.number w.seat j w.there w.is_its)
          (not-true (is_running past j) (second_so (is_open past j.instance) (not (is_running past j)) b))
          (not-true (is_settled past j) (second_so (is_open past j.instance && not (is_running past j)) (not (is_settled past j)) a))

  none-bounces : (j : Job) → In j m.jobs → can_bounce m past j ≡ false
  none-bounces j i =
      false_from_ne_true (can_bounce m past j)
      (λ h.
      let r = first_so (is_ready m past j) (is_bounced j.ending) h in
      let t = open-there gives d levels past xs stand j.instance (ready-open gives d past j r) in
      true≠false (sym (second_so (is_ready m past j) (is_bounced j.ending) h) ∙ tried-at j i r t))

  none-settles : (l : Level) → In l (levels_of m.steps) → can_settle m past l ≡ false
  none-settles l i =
      false_from_ne_true (can_settle m past l)
      (λ h.
      let o =
      first_so (is_open past l.instance) (not (has_entry past l.name))
      (first_so (is_open past l.instance && not (has_entry past l.name)) (all_known m past l.sources) h)
      in
      let t = open-there gives d levels past xs stand l.instance o in
      let so = levels-settle_as_told gives d past t.instance.name (levels t.instance.flow) t.view t.sit.in_run in
      true≠false (sym h ∙ so.nothing (still t.number t.instance t.view t.there t.told).settles l i (sym t.named)))

  none-ends : (n : JobName) → can_end m past n ≡ false
  none-ends n =
      false_from_ne_true (can_end m past n)
      (λ h.
      let t = open-there gives d levels past xs stand n (first_so (is_open past n) _ h) in
      let so = instances-end_as_told gives d past t.instance.name (levels t.instance.flow) t.view t.sit.in_run in
      true≠false
      (sym h ∙ ap (can_end m past) (sym t.named) ∙ so ∙ (still t.number t.instance t.view t.there t.told).ends))

  quiet : can_settle_more m past ≡ false
  quiet =
      let b = none-of (can_bounce m past) m.jobs none-bounces in
      let s = none-of (can_settle m past) (levels_of m.steps) none-settles in
      let e = none-of (can_end m past) (instances m) (λ n i. none-ends n) in
      λ i. b i || s i || e i

pub quiet-by_instances : QuietByInstances
quiet-by_instances gives d levels past xs stand still = quiet gives d levels past xs stand still

-- ---- offers and openings by the next ask

pub going-by_next : GoingByNext
going-by_next gives d levels past xs stand j i = record {
  offered = λ h. ap (λ b. b && may_go_on (meaning gives d) past j) h;
  not_offered = λ h. ap (λ b. b && may_go_on (meaning gives d) past j) h;
  goes_on_is = going-plain gives d past stand.legal j i;
}
