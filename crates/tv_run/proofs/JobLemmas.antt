-- The known jobs of a run, by number: the instance, seat, step and name of each, and where its seat stands.
use Rattle.std.specs.Option.{option_map_or}
use Rattle.std.specs.Prelude.{◌≡◌, refl, ℕ, ◌<◌, ◌≤◌, ◌++◌, true, List, [], ◌∷◌, None, Option, Some, is_some, length, option_and_then, option_map, slice_get}
use Rattle.std.proofs.Common.{ap, subst, sym, ◌∙◌}
use Rattle.std.proofs.lemmas.Option.{none-some, same_Some, slice_get-map, slice_get_past, slice_get_within}
use Rattle.tv_lemmas.proofs.Lists.{get-within, of-image, get-map}
use Rattle.tv_value.specs.Values.{JobName, Name}
use Rattle.tv_flow.specs.Flows.{Flow, Step}
use Rattle.tv_check.specs.RunViews.{run_view}
use Rattle.tv_instances.specs.FramingViews.{View}
use Rattle.tv_seats.specs.Seats.{Seat}
use Rattle.tv_seats.specs.Tables.{Rows}
use Rattle.tv_seats.specs.declared.stage.Stage.{Stage}
use Rattle.tv_seats.specs.declared.stage.Stage.TheVariants as stage
use Rattle.tv_instances.specs.seats.Seated.{spot_of}
use Rattle.tv_instances.specs.Forest.{Instance, Instances, IsAt, name_of}
use Rattle.tv_instances.specs.declared.open.Open.{Open}
use Rattle.tv_run.specs.Following.{numbered_in}
use Rattle.tv_run.specs.Jobs.{instance_of, named_step_of, seat_of, stage_in, stage_of, step_number_of, step_of}
use Rattle.tv_run.specs.Standing.{Fits, IsKept, IsLife, IsOpenOf, names_of, numbered_as, numbers_of, seats_of, steps_of}
use Rattle.tv_run.specs.declared.instances.Instance as code
use Rattle.tv_run.specs.declared.instances.Numbered.{Numbered}
use Rattle.tv_run.specs.declared.run.OpenRun.{OpenRun}

-- ---- one instance by the code

-- the seats while it is open, and after
abbrev pub seats_by : Option Rows → List Open → List Seat
seats_by ended [] = option_map_or (λ (s : Rows). s.seats) ended []
seats_by ended (o ∷ os) = o.seats.seats

abbrev stage_by : ℕ → List Open → Option Stage
stage_by n [] = Some stage.Settled
stage_by n (o ∷ os) = option_map (λ (s : Seat). s.stage) (slice_get o.seats.seats n)

pub seats-open : (c : code.Instance) (o : Open) (os : List Open) → c.open.items ≡ o ∷ os → seats_of c ≡ o.seats.seats
seats-open c o os e = ap (seats_by c.seats) e

-- the stage of one of its jobs
pub stage-found : (r : OpenRun) (k : ℕ) (m : Numbered) (c : code.Instance) → slice_get r.jobs.items k ≡ Some m
    → slice_get r.instances.items m.instance ≡ Some c → stage_of r k ≡ stage_in m c
stage-found r k m c e h =
    ap
    (option_and_then (λ (u : Numbered). option_and_then (stage_in u) (slice_get r.instances.items u.instance)))
    e
    ∙ ap (option_and_then (stage_in m)) h

pub stage-by_open : (c : code.Instance) (m : Numbered) (o : Open) (os : List Open) → c.open.items ≡ o ∷ os
    → stage_in m c ≡ option_map (λ (s : Seat). s.stage) (slice_get o.seats.seats m.number)
stage-by_open c m o os e = ap (stage_by m.number) e

pub stage-by_end : (c : code.Instance) (m : Numbered) → c.open.items ≡ [] → stage_in m c ≡ Some stage.Settled
stage-by_end c m e = ap (stage_by m.number) e

-- the steps of its flow
pub steps-are : (r : OpenRun) (i : ℕ) (c : code.Instance) (x : Instance) → IsKept r i c x
    → steps_of (run_view r.run) c ≡ x.flow.steps
steps-are r i c x kept = by (slice_get (run_view r.run).flows c.flow) kept.flow
  where
    by : (o : Option (Name × Flow)) → option_map (λ f. f.1) o ≡ Some x.flow
        → option_map_or (λ (f : Name × Flow). f.1.steps) o [] ≡ x.flow.steps
    by None e = absurd (none-some x.flow e)
    by (Some f) e = ap (λ (g : Flow). g.steps) (same_Some f.1 x.flow e)

-- it is open where it was told something, and has ended where not
pub open-is : (r : OpenRun) (i : ℕ) (c : code.Instance) (x : Instance) (v : View) → IsKept r i c x → x.view ≡ Some v
    → IsOpenOf r c x v
open-is r i c x v kept e = subst (IsLife r c x) e kept.life

pub shut-is : (r : OpenRun) (i : ℕ) (c : code.Instance) (x : Instance) → IsKept r i c x → x.view ≡ None
    → (c.open.items ≡ []) × (is_some c.seats ≡ true)
shut-is r i c x kept e = subst (IsLife r c x) e kept.life

-- where the code has it open, it was told something
pub view-is : (r : OpenRun) (i : ℕ) (c : code.Instance) (x : Instance) (o : Open) (os : List Open) → IsKept r i c x
    → c.open.items ≡ o ∷ os → (v : View) × (x.view ≡ Some v) × IsOpenOf r c x v
view-is r i c x o os kept e = by x.view refl kept.life
  where
    by : (w : Option View) → x.view ≡ w → IsLife r c x w → (v : View) × (x.view ≡ Some v) × IsOpenOf r c x v
    by None f life = absurd (nothing o os (sym life.0 ∙ e))
      where
        nothing : (o : Open) (os : List Open) → [] ≡ o ∷ os → ⊥
        nothing o os h = none-some o (ap (λ l. slice_get l 0) h)
    by (Some v) f life = (v, f, life)

-- ---- one job

-- a number of the run tells the instance and the number there
pub number-is : (r : OpenRun) (k i n : ℕ) → slice_get (numbers_of r) k ≡ Some (i, n)
    → slice_get r.jobs.items k ≡ Some (numbered_in i n)
number-is r k i n e =
    let w = of-image numbered_as r.jobs.items k (i, n) e in
    w.1 ∙ ap (λ (p : ℕ × ℕ). Some (numbered_in p.0 p.1)) w.2

-- job k of the run is job n of instance i, which is x: its seat is s, of step t
pub record IsKnownAs (r : OpenRun) (xs : Instances) (k i n : ℕ) (x : Instance) (s : Seat) (t : Name × Step) : Type 0
  where
    pub number : slice_get r.jobs.items k ≡ Some (numbered_in i n)
    pub itself : code.Instance
    pub is_itself : slice_get r.instances.items i ≡ Some itself
    pub there : IsAt xs i x
    pub kept : IsKept r i itself x
    pub seat : slice_get x.seats n ≡ Some s
    pub step : slice_get x.flow.steps s.step ≡ Some t

-- it is one of some instance
pub record IsKnown (r : OpenRun) (xs : Instances) (k : ℕ) : Type 0 where
  pub outer : ℕ
  pub number : ℕ
  pub instance : Instance
  pub seat : Seat
  pub step : Name × Step
  pub known : IsKnownAs r xs k outer number instance seat step

module _ (r : OpenRun) (xs : Instances) (fits : Fits r xs) where
  -- the code has each instance, and no more
  pub instance-there : (i : ℕ) (x : Instance) → IsAt xs i x
      → (c : code.Instance) × (slice_get r.instances.items i ≡ Some c) × IsKept r i c x
  instance-there i x at =
      let c = get-within r.instances.items i (subst (λ m. i < m) (sym fits.as_many) (slice_get_within xs i x at)) in
      (c.0, c.1, fits.kept i c.0 x c.1 at)

  pub instance-told : (i : ℕ) (c : code.Instance) → slice_get r.instances.items i ≡ Some c
      → (x : Instance) × IsAt xs i x × IsKept r i c x
  instance-told i c e =
      let x = get-within xs i (subst (λ m. i < m) fits.as_many (slice_get_within r.instances.items i c e)) in
      (x.0, x.1, fits.kept i c x.0 e x.1)

  -- job n of an instance, by its number
  pub known-as : (k i n : ℕ) (x : Instance) (s : Seat) → slice_get (numbers_of r) k ≡ Some (i, n) → IsAt xs i x
      → slice_get x.seats n ≡ Some s → (t : Name × Step) × IsKnownAs r xs k i n x s t
  known-as k i n x s e at sits =
      let c = instance-there i x at in
      let t = c.2.steps n s sits in (
        t.0,
        record {
          number = number-is r k i n e;
          itself = c.0;
          is_itself = c.1;
          there = at;
          kept = c.2;
          seat = sits;
          step = t.1;
        },
      )

  -- each number below the jobs is one's
  pub known-at : (k : ℕ) (m : Numbered) → slice_get r.jobs.items k ≡ Some m
      → (x : Instance) × (s : Seat) × (t : Name × Step) × IsKnownAs r xs k m.instance m.number x s t
  known-at k m e =
      let number = get-map numbered_as r.jobs.items k m e in
      let w = fits.numbered.seats k m.instance m.number number in
      let t = known-as k m.instance m.number w.0 w.1 number w.2 w.3 in
      (w.0, w.1, t.0, t.1)

  pub known : (k : ℕ) → k < length r.jobs.items → IsKnown r xs k
  known k low =
      let m = get-within r.jobs.items k low in
      let w = known-at k m.0 m.1 in
      record {
        outer = m.0.instance;
        number = m.0.number;
        instance = w.0;
        seat = w.1;
        step = w.2;
        known = w.3;
      }

  -- and each seat has a number
  pub number-there : (i n : ℕ) (x : Instance) (s : Seat) → IsAt xs i x → slice_get x.seats n ≡ Some s
      → (k : ℕ) × (slice_get (numbers_of r) k ≡ Some (i, n)) × (k < length r.jobs.items)
  number-there i n x s at sits =
      let k = fits.numbered.all i n x s at sits in
      (k.0, k.1, slice_get_within r.jobs.items k.0 (numbered_in i n) (number-is r k.0 i n k.1))

  -- of its own
  pub numbers-differ : (k l i n j m : ℕ) → slice_get (numbers_of r) k ≡ Some (i, n)
      → slice_get (numbers_of r) l ≡ Some (j, m) → k ≡ l → (i ≡ j) × (n ≡ m)
  numbers-differ k l i n j m e f h =
      let p = same_Some (i, n) (j, m) (sym e ∙ ap (slice_get (numbers_of r)) h ∙ f) in
      (ap (λ (q : ℕ × ℕ). q.0) p, ap (λ (q : ℕ × ℕ). q.1) p)

  -- ---- what is looked up of it

  module _ (k i n : ℕ) (x : Instance) (s : Seat) (t : Name × Step) (w : IsKnownAs r xs k i n x s t) where
    pub number-of : slice_get (numbers_of r) k ≡ Some (i, n)
    number-of = get-map numbered_as r.jobs.items k (numbered_in i n) w.number

    pub low : k < length r.jobs.items
    low = slice_get_within r.jobs.items k (numbered_in i n) w.number

    pub instance-low : i < length r.instances.items
    instance-low = slice_get_within r.instances.items i w.itself w.is_itself

    pub instance-is : instance_of r k ≡ Some w.itself
    instance-is =
        ap (option_and_then (λ (m : Numbered). slice_get r.instances.items m.instance)) w.number ∙ w.is_itself

    pub code-seat : slice_get (seats_of w.itself) n ≡ Some s
    code-seat = ap (λ (l : List Seat). slice_get l n) w.kept.seats ∙ w.seat

    pub seat-is : seat_of r k ≡ Some s
    seat-is =
        ap
        (option_and_then
        (λ (m : Numbered).
        option_and_then (λ (c : code.Instance). slice_get (seats_of c) m.number)
        (slice_get r.instances.items m.instance)))
        w.number
        ∙ ap (option_and_then (λ (c : code.Instance). slice_get (seats_of c) n)) w.is_itself
        ∙ code-seat

    pub step_number-is : step_number_of r k ≡ Some s.step
    step_number-is = ap (option_map (λ (u : Seat). u.step)) seat-is

    pub named_step-is : named_step_of r k ≡ Some t
    named_step-is =
        ap
        (option_and_then
        (λ (c : code.Instance).
        option_and_then (λ (u : Seat). slice_get (steps_of (run_view r.run) c) u.step) (seat_of r k)))
        instance-is
        ∙ ap (option_and_then (λ (u : Seat). slice_get (steps_of (run_view r.run) w.itself) u.step)) seat-is
        ∙ ap (λ (l : List (Name × Step)). slice_get l s.step) (steps-are r i w.itself x w.kept)
        ∙ w.step

    pub step-is : step_of r k ≡ Some t.1
    step-is = ap (option_map (λ (u : Name × Step). u.1)) named_step-is

    -- its spot, and its name
    pub spot-is : spot_of x.flow.steps s ≡ (t.0, s.place)
    spot-is = ap (λ (o : Option (Name × Step)). (option_map_or (λ u. u.0) o [], s.place)) w.step

    pub name-there : slice_get (names_of r) k ≡ Some (x.name ++ spot_of x.flow.steps s ∷ [])
    name-there =
        ap (λ (l : List JobName). slice_get l k) fits.names_are
        ∙ get-map (name_of xs) (numbers_of r) k (i, n) number-of
        ∙ ap
        (λ (o : Option Instance).
        Some (option_map_or (λ (y : Instance). option_map_or (λ u. y.name ++ spot_of y.flow.steps u ∷ []) (slice_get y.seats n) []) o []))
        w.there
        ∙ ap (λ (o : Option Seat). Some (option_map_or (λ u. x.name ++ spot_of x.flow.steps u ∷ []) o [])) w.seat

    -- ---- where its seat stands

    pub stage-here : stage_of r k ≡ stage_in (numbered_in i n) w.itself
    stage-here = stage-found r k (numbered_in i n) w.itself w.number w.is_itself

    pub stage-open : (o : Open) (os : List Open) → w.itself.open.items ≡ o ∷ os → stage_of r k ≡ Some s.stage
    stage-open o os e =
        stage-here
        ∙ ap (stage_by n) e
        ∙ ap (λ (l : List Seat). option_map (λ (u : Seat). u.stage) (slice_get l n)) (sym (seats-open w.itself o os e))
        ∙ ap (option_map (λ (u : Seat). u.stage)) code-seat

    pub stage-viewed : (v : View) → x.view ≡ Some v → stage_of r k ≡ Some s.stage
    stage-viewed v e =
        let o = open-is r i w.itself x v w.kept e in
        stage-open o.itself [] o.there

    pub stage-shut : x.view ≡ None → stage_of r k ≡ Some stage.Settled
    stage-shut e = stage-here ∙ ap (stage_by n) (shut-is r i w.itself x w.kept e).0

-- what no number has
pub no-name : (r : OpenRun) (xs : Instances) → Fits r xs → (k : ℕ) → length r.jobs.items ≤ k
    → slice_get (names_of r) k ≡ None
no-name r xs fits k h =
    ap (λ (l : List JobName). slice_get l k) fits.names_are
    ∙ slice_get-map (name_of xs) (numbers_of r) k
    ∙ ap (option_map (name_of xs))
    (slice_get-map numbered_as r.jobs.items k ∙ ap (option_map numbered_as) (slice_get_past r.jobs.items k h))
