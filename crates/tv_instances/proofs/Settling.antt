-- A list is closed, or a fault passed.
use Rattle.std.specs.Prelude.{◌≡◌, ◌++◌, ◌∷◌, [], refl, ℕ, List, Option, Some, IfSome, length}
use Rattle.std.proofs.Common.{subst, sym}
use Rattle.tv_value.specs.Values.{Name}
use Rattle.tv_flow.specs.Flows.{Document, Flow, Step}
use Rattle.tv_check.specs.declared.plans.FlowPlan.{FlowPlan}
use Rattle.tv_outputs.specs.Known.{Nodes}
use Rattle.tv_model.specs.instance.Events.{Event}
use Rattle.tv_frame.specs.Answers.{CanSettle}
use Rattle.tv_frame.specs.FramingViews.{View}
use Rattle.tv_frame.specs.matches.Steps.{IsStepAt}
use Rattle.tv_naming.specs.Numbers.{position}
use Rattle.tv_frame.specs.Calls.{Brings, GoesOn, IsReadyToSettle, Tells}
use Rattle.tv_frame.specs.declared.events.Settled.{Settled}
use Rattle.tv_frame.specs.declared.frame.Frame.{Frame}
use Rattle.tv_frame.specs.Kept.{Keeps}
use Rattle.tv_frame.specs.LastLevels.{IsLevelOf}
use Rattle.tv_frame.specs.Levels.{Level}
use Rattle.tv_seats.specs.Seats.{Seated}
use Rattle.tv_instances.specs.Events.{IsReadyToSettleAt, IsTold, TellsAt}
use Rattle.tv_instances.specs.Levels.{AreKept, Kept}
use Rattle.tv_instances.specs.Seating.{AllSit, CanSit, IsKept}
use Rattle.tv_instances.specs.Standing.{IsOpen}
use Rattle.tv_instances.specs.Turns.{TakeIn}
use Rattle.tv_instances.specs.declared.turns.Turns.{Turns}
use Rattle.tv_instances.specs.declared.open.Open.{Open}
use Rattle.tv_instances.proofs.LevelLemmas.{kept-more, own-number}
use Rattle.tv_instances.proofs.OpenLemmas.{still-open}
use Rattle.tv_instances.proofs.Quiet.{of-same}
use Rattle.tv_instances.proofs.Telling.{then-can, then-kept, then-told}

pub at-some : (P : ℕ → Type 0) (o : Option ℕ) (n : ℕ) → o ≡ Some n → IfSome o P → P n
at-some P o n e h = subst (λ u. IfSome u P) e h

-- what a room call found
pub ready-settle :
    (d : Document) (plan : FlowPlan) (pool : Nodes) (o : Open) (v : View) → IsOpen d plan pool o v
    → (after : Nodes) (p : Open)
    → ((flows : List (Name × Flow)) (u : View) → Keeps flows plan pool o.frame u → Keeps flows plan after p.frame u)
    → p.seats.seats ≡ o.seats.seats → p.seats.levels ≡ o.seats.levels → p.turns ≡ o.turns → p.levels.settled ≡ o.levels.settled
    → (more : ℕ) → p.seats.room ≡ more
    → ((n : ℕ) × (s : Name × Step) × (e : Event)
    × IsReadyToSettle d.flows plan after p.frame v n s e × CanSettle v e × Brings v e more)
    → (l : Level) → p.levels.next ≡ Some l
    → ((n : ℕ) (s : Name × Step) (e : Event) → IsReadyToSettle d.flows plan after p.frame v n s e → IsLevelOf v n s e l)
    → (e : Event) × IsReadyToSettleAt d plan after p v e more
ready-settle d plan pool o v io after p same seats levels turns kept more room x l next is = (
  x.2,
  record {
    is_open = still-open d plan pool o v io after p (same d.flows v io.keeps) seats levels turns kept;
    number = x.0;
    step = x.1;
    ready = x.3;
    can = x.4;
    brings = x.5;
    room = room;
    level = l;
    next = next;
    is_level = is x.0 x.1 x.2 x.3;
  },
)

-- ---- it is settled

module _ (d : Document) (plan : FlowPlan) (pool : Nodes) (o : Open) (v : View) (e : Event) (more : ℕ)
    (r : IsReadyToSettleAt d plan pool o v e more) (after : Nodes) (g : Frame) (x : Settled)
    (on : GoesOn d.flows plan after g v e × Tells x r.number e) where
  numbered : (m : ℕ) (t : Name × Step) → IsStepAt v m t → position t.0 v.flow.steps ≡ m
  numbered = own-number d.flows plan pool o.frame v r.is_open.keeps

  pub settled-kept : IsKept g
  settled-kept = then-kept d plan pool o v r.is_open e more r.brings after g on.0 o.seats refl refl r.room

  pub settled-can : CanSit g o.seats
  settled-can = then-can d plan pool o v r.is_open e more r.brings after g on.0 o.seats refl refl r.room

  pub settled-told : (z : Seated) → AllSit g o.seats z → (u : Turns) → TakeIn o.turns u (length o.seats.seats) z.seats
      → (ls : Kept) → ((l : Level) → o.levels.next ≡ Some l → ls.settled ≡ o.levels.settled ++ l ∷ [])
      → IsTold d plan after (record { frame = g; seats = z; turns = u; levels = ls }) v e more o.seats.seats
      × TellsAt v.flow.steps x e
  settled-told z all u take ls more_kept = (
    then-told d plan pool o v r.is_open e more r.brings after g on.0 o.seats refl refl r.room z all u take ls
        (subst (AreKept on.0.0) (sym (more_kept r.level r.next))
        (kept-more v o.levels.settled r.is_open.kept e r.number r.step r.level r.is_level r.ready.ready.at r.ready.ready.named
        (numbered r.number r.step r.ready.ready.at) numbered on.0.0 on.0.1 on.0.2))
        (of-same o.seats.seats o.seats.seats o.turns.positions.items u.from refl) o.seats.seats refl,
    (r.number, r.step, r.ready.ready.at, r.ready.ready.named, on.1),
  )
