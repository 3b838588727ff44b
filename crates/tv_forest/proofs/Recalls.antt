-- A recall, of all instances.
use Rattle.std.specs.Prelude.{◌≡◌, refl, ℕ, suc, ◌<◌, ◌==◌, ◌∷◌, [], List, Option, None, Some, true, map, nat_lt, slice_get}
use Rattle.std.proofs.Common.{ap, ap₂, subst, sym, ◌∙◌}
use Rattle.std.proofs.lemmas.Bool.{eq-eqb, lt-ltb}
use Rattle.tv_value.specs.Values.{JobName, Name}
use Rattle.tv_gate.specs.Outcomes.{Giving}
use Rattle.tv_flow.specs.Flows.{Document, Flow}
use Rattle.tv_model.specs.Made.{Meaning}
use Rattle.tv_model.specs.Meanings.{meaning}
use Rattle.tv_model.proofs.Tests.{both_true}
use Rattle.tv_history.specs.Entries.{Entry, History, recalled}
use Rattle.tv_history.specs.Histories.{is_legal_after, out_count}
use Rattle.tv_framing.specs.Views.{View}
use Rattle.tv_seats.specs.Seats.{Seat, back, staged}
use Rattle.tv_seats.specs.Stages as stages
use Rattle.tv_seats.specs.declared.stage.Stage.{Stage}
use Rattle.tv_seats.specs.declared.stage.Stage.TheVariants as stage
use Rattle.tv_forest.specs.seats.Seated.{HasEnded}
use Rattle.tv_forest.proofs.seats.Ends.{ended_stays}
use Rattle.tv_forest.proofs.seats.Runs.{recalled_all}
use Rattle.tv_forest.specs.Entries.{Recalling, called_back}
use Rattle.tv_forest.specs.Forest.{Instance, Instances, IsAt, IsOpenAt, Stand, Stays}
use Rattle.tv_forest.proofs.Instances.{Becomes, Later, StaysThen, stand-then}
use Rattle.tv_forest.proofs.Lists.{one-at}
use Rattle.tv_forest.proofs.SeatLemmas.{WereNested, not-nested}
use Rattle.tv_lemmas.proofs.Lists.{of-image, get-map}

-- ---- one instance

-- what is open stays so, and nothing else opens
nested-back : (y : Stage) (k : ℕ) → stages.called_back y ≡ stage.Nested k → y ≡ stage.Nested k
nested-back stage.Waiting k e = e
nested-back (stage.Out a t) k e = absurd (not-nested (stage.Idle a t) k refl e)
nested-back (stage.Idle a t) k e = e
nested-back (stage.Aside a) k e = e
nested-back (stage.Nested i) k e = e
nested-back stage.Settled k e = e

-- settled seats are what they were
pub settled-back : (ss : List Seat) → ((n : ℕ) (s : Seat) → slice_get ss n ≡ Some s → s.stage ≡ stage.Settled)
    → map back ss ≡ ss
settled-back [] h = refl
settled-back (s ∷ ss) h =
    let e = h 0 s refl in
    ap₂ (λ t ts. t ∷ ts)
    (ap (λ y. staged (stages.called_back y) s) e ∙ ap (λ y. staged y s) (sym e))
    (settled-back ss (λ n t g. h (suc n) t g))

later-back : (ys : Instances) (x : Instance) → Later ys x (called_back x)
later-back ys x = record {
  name = refl;
  flow = refl;
  views = λ w e. (w, e, refl);
  spots = λ n s e. (back s, get-map back x.seats n s e, refl, refl);
  still = λ n k s t e f h is.
      ap (λ (u : Seat). u.stage) (one-at (map back x.seats) n t (back s) f (get-map back x.seats n s e))
      ∙ ap stages.called_back h;
}

were-back : (ss : List Seat) → WereNested ss (map back ss)
were-back ss n k t e h =
    let r = of-image back ss n t e in
    (r.0, r.1, nested-back r.0.stage k (ap (λ (u : Seat). u.stage) r.2 ∙ h))

-- ---- all of them

module _ (gives : Giving) (d : Document) (levels : Flow → Name → ℕ) (past : History) (xs : Instances)
    (stand : Stand gives d levels past xs) (k : ℕ) (all : k ≡ out_count (meaning gives d) past) (some : 0 < k) where
  abbrev m : Meaning
  m = meaning gives d

  abbrev e : Entry
  e = recalled k

  abbrev ys : Instances
  ys = map called_back xs

  legal : is_legal_after gives m past e ≡ true
  legal = both_true (nat_lt 0 k) (k == out_count m past) (lt-ltb 0 k some) (eq-eqb k (out_count m past) all)

  on : (i : ℕ) (x : Instance) → IsAt xs i x → Becomes gives d levels past xs stand e ys i x
  on i x at = record { after = called_back x; there = get-map called_back xs i x at; later = later-back ys x }

  stays : (x : Instance) (o : Option View) → Stays gives d levels past x o
      → Stays gives d levels (e ∷ past) (called_back x) o
  stays x (Some v) h = (h.0, recalled_all gives d past x.name (levels x.flow) v x.seats h.1 k all some)
  stays x None h =
      subst (λ ss. HasEnded gives d (e ∷ past) x.name x.flow ss) (sym (settled-back x.seats h.settled))
      (ended_stays gives d past x.name x.flow x.seats h e legal)

  each : (i : ℕ) (y : Instance) → IsAt ys i y → StaysThen gives d levels past xs stand e ys y
  each i y b =
      let r = of-image called_back xs i y b in
      subst (λ z. StaysThen gives d levels past xs stand e ys z) r.2 (stays r.0 r.0.view (stand.each i r.0 r.1))

  abbrev Was : ℕ → Instance → Type 0
  Was i y = (x : Instance) × IsAt xs i x × Later ys x y × WereNested x.seats y.seats

  was : (i : ℕ) (y : Instance) → IsAt ys i y → Was i y
  was i y b =
      let r = of-image called_back xs i y b in
      subst (Was i) r.2 (r.0, r.1, later-back ys r.0, were-back r.0.seats)

  open-then : (n : JobName) (i : ℕ) → IsOpenAt xs i n → IsOpenAt ys i n
  open-then n i o = record {
    instance = called_back o.instance;
    there = get-map called_back xs i o.instance o.there;
    is_its = o.is_its;
    is_open = o.is_open;
  }

  recalls : Stand gives d levels (e ∷ past) ys
  recalls =
      stand-then gives d levels past xs stand e ys on each legal (λ n. refl) was
      (λ i n l y t j is h o. open-then j.name l o)

pub recalling : Recalling
recalling gives d levels past xs stand k all some = recalls gives d levels past xs stand k all some
