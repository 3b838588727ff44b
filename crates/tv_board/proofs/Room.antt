-- The nodes of a run are those of its open instances' frames, which have no more than the steps of these instances.
use Rattle.std.specs.Cmp.Lexicographic.{bytes_decides}
use Rattle.std.specs.List.{sum_by}
use Rattle.std.specs.Prelude.{◌≡◌, ◌≢◌, refl, ℕ, zero, suc, ◌+◌, ◌≤◌, Bool, true, false, ◌&&◌, if◌then◌else◌, List, [], ◌∷◌, None, Option, Some, length, option_and_then, option_map, slice_get, ◌⊎◌}
use Rattle.std.proofs.Common.{ap, arith, inl, inr, subst, sym, ◌∙◌}
use Rattle.std.proofs.lemmas.Bool.{true≢false}
use Rattle.std.proofs.lemmas.List.Sums.{sum_by-cons}
use Rattle.std.proofs.lemmas.Option.{get_or_from_slice_get, same_Some}
use Rattle.std.specs.Cmp.{first_so, second_so}
use Rattle.tv_lemmas.specs.Members.{Each}
use Rattle.tv_lemmas.proofs.Members.{in-slice}
use Rattle.tv_value.specs.Orders.{same_job, same_name}
use Rattle.tv_value.specs.Values.{JobName, Name}
use Rattle.tv_value.proofs.JobNameLemmas.{same_job_decides}
use Rattle.tv_value.proofs.NameLemmas.{same_name-refl}
use Rattle.tv_gate.specs.Outcomes.{Giving}
use Rattle.tv_flow.specs.Flows.{Document, Flow}
use Rattle.tv_model.specs.instance.Delivered.{StepMeaning}
use Rattle.tv_pool.specs.Pool.{Contents, live_count, number_of, region_at, stored_in}
use Rattle.tv_check.specs.RunViews.{run_view}
use Rattle.tv_stream.specs.declared.nodes.Entry.{Entry}
use Rattle.tv_stream.specs.declared.held.Held.{Held}
use Rattle.tv_cell.specs.declared.piece.Piece.{Piece}
use Rattle.tv_outputs.specs.Known.{Nodes}
use Rattle.tv_model.specs.instance.ByResults.{InstanceStep}
use Rattle.tv_model.specs.Made.{Meaning}
use Rattle.tv_model.specs.Meanings.{meaning}
use Rattle.tv_history.specs.Entries.{History}
use Rattle.tv_history.specs.Histories.{has_open_instance, is_open, node_room, size_of, step_room}
use Rattle.tv_run.specs.FramingViews.{View}
use Rattle.tv_run.proofs.Frames.{AreDistinct, Other, steps-distinct}
use Rattle.tv_run.proofs.views.Runs.{Runs, in-all, runs, steps_here, results_here}
use Rattle.tv_run.proofs.views.Endings.{own-instance, step-listed}
use Rattle.tv_run.specs.Tables.{levels_in}
use Rattle.tv_run.specs.Inner.{Frame}
use Rattle.tv_run.specs.Theirs.{AreTheirs, Frames}
use Rattle.tv_run.specs.Forest.{Instance, Instances, IsAt, Stand}
use Rattle.tv_run.proofs.ForestInstances.{sits}
use Rattle.tv_history.specs.Runs.{past_of}
use Rattle.tv_run.specs.Inner.{Open}
use Rattle.tv_run.proofs.nodes.Covering.{Covers, covered, one-where, sum_where}
use Rattle.tv_run.proofs.nodes.Room.{nodes-fit_steps}
use Rattle.tv_run.specs.Standing.{Fits, IsLife, frame_at, run_of}
use Rattle.tv_run.specs.declared.instances.Instance as code
use Rattle.tv_run.specs.declared.run.OpenRun.{OpenRun}
use Rattle.tv_board.specs.Stated.{NodesHaveRoom}
use Rattle.tv_board.proofs.Lived.{has-frame}
use Rattle.tv_board.proofs.Regions.{HasFrame}

-- ---- the steps of one instance

each-number : {A : Type 0} (P : A → Type 0) (xs : List A) → Each P xs → (n : ℕ) (x : A) → slice_get xs n ≡ Some x → P x
each-number P [] h n x e = absurd (none e)
  where
    none : None ≡ Some x → ⊥
    none k = cc
each-number P (y ∷ xs) h zero x e = subst P (same_Some y x e) h.0
each-number P (y ∷ xs) h (suc n) x e = each-number P xs h.1 n x e

-- no two have one name
step-number : (fs : List InstanceStep) → AreDistinct fs → (n k : ℕ) (f g : InstanceStep) → slice_get fs n ≡ Some f → slice_get fs k ≡ Some g → f.step.step ≡ g.step.step → n ≡ k
step-number [] d n k f g a b e = absurd (none a)
  where
    none : None ≡ Some f → ⊥
    none h = cc
step-number (x ∷ fs) d zero zero f g a b e = refl
step-number (x ∷ fs) d zero (suc k) f g a b e = absurd (true≢false (sym (same_name-refl x.step.step) ∙ ap (λ m. same_name m x.step.step) (ap (λ (h : InstanceStep). h.step.step) (same_Some x f a) ∙ e) ∙ each-number (Other x.step.step) fs d.0 k g b))
step-number (x ∷ fs) d (suc n) zero f g a b e = absurd (true≢false (sym (same_name-refl x.step.step) ∙ ap (λ m. same_name m x.step.step) (ap (λ (h : InstanceStep). h.step.step) (same_Some x g b) ∙ sym e) ∙ each-number (Other x.step.step) fs d.0 n f a))
step-number (x ∷ fs) d (suc n) (suc k) f g a b e = ap suc (step-number fs d.1 n k f g a b e)

module _ (gives : Giving) (flows : List (Name × Flow)) (m : Meaning) (past : History) (I : JobName) (levels : Name → ℕ) (v : View) (r : Runs gives flows m past I levels v) where
  abbrev fs : List InstanceStep
  fs = steps_here gives flows m past I levels v r

  abbrev is_its : Name → StepMeaning → Bool
  is_its k s = same_job I s.instance && same_name k s.step

  abbrev HasName : ℕ → Name → Type 0
  HasName n k = (f : InstanceStep) × (slice_get fs n ≡ Some f) × (f.step.step ≡ k)

  distinct : AreDistinct fs
  distinct = steps-distinct v I (results_here gives flows m past I levels v r)

  names-apart : (n l : ℕ) (a b : Name) → HasName n a → HasName l b → n ≢ l → (s : StepMeaning) → is_its a s ≡ true → is_its b s ≡ true → ⊥
  names-apart n l a b h k ne s t u =
      ne
      (step-number fs distinct n l h.0 k.0 h.1 k.1
      (h.2
      ∙ (bytes_decides a s.step).0 (second_so (same_job I s.instance) (same_name a s.step) t)
      ∙ sym ((bytes_decides b s.step).0 (second_so (same_job I s.instance) (same_name b s.step) u))
      ∙ sym k.2))

  both-true : (a b : Bool) → a ≡ true → b ≡ true → (a && b) ≡ true
  both-true true true h k = refl
  both-true true false h k = absurd (true≢false (sym k))
  both-true false b h k = absurd (true≢false (sym h))

  -- the meaning has them among its steps
  pub own-room : sum_by (λ g. step_room g.step) fs ≤ sum_where step_room (λ s. same_job I s.instance) m.steps
  own-room =
      covered (λ (g : InstanceStep). step_room g.step) step_room is_its HasName names-apart m.steps 0 fs (λ s. same_job I s.instance)
      (λ n g e. inr (record {
        key = g.step.step;
        has = (g, ap (slice_get fs) (none n) ∙ e, refl);
        inside = λ s t. first_so (same_job I s.instance) (same_name g.step.step s.step) t;
        few = one-where step_room (is_its g.step.step) m.steps g.step (step-listed gives flows m past I levels v r g (in-slice fs n g e))
            (both-true (same_job I g.step.instance) (same_name g.step.step g.step.step)
            ((same_job_decides I g.step.instance).1 (sym (own-instance gives flows m past I levels v r g (in-slice fs n g e))))
            (same_name-refl g.step.step));
      }))
    where
      none : (n : ℕ) → 0 + n ≡ n
      none n = omega arith

-- ---- all instances

sum-where_is : {A : Type 0} (f : A → ℕ) (p : A → Bool) (xs : List A) → sum_where f p xs ≡ sum_by (λ x. if p x then f x else 0) xs
sum-where_is f p [] = refl
sum-where_is f p (x ∷ xs) = ap (λ n. (if p x then f x else 0) + n) (sum-where_is f p xs) ∙ sym (sum_by-cons (λ y. if p y then f y else 0) x xs)

module _ (gives : Giving) (d : Document) (past : History) (xs : Instances) (stand : Stand gives d levels_in past xs) (pool : Nodes) (fs : Frames) (theirs : AreTheirs pool fs)
    (framed : (i : ℕ) (x : Instance) (v : View) → IsAt xs i x → x.view ≡ Some v → HasFrame d.flows pool fs i v)
    (told : (i : ℕ) (f : Frame) → fs i ≡ Some f → (x : Instance) × (v : View) × IsAt xs i x × (x.view ≡ Some v)) where
  abbrev m : Meaning
  m = meaning gives d

  abbrev is_in : JobName → StepMeaning → Bool
  is_in I s = same_job I s.instance

  abbrev opened : StepMeaning → Bool
  opened s = is_open past s.instance

  -- the region of that number is of the frame of the instance of this name
  record IsOf (n : ℕ) (I : JobName) : Type 0 where
    number : ℕ
    frame : Frame
    there : fs number ≡ Some frame
    region : number_of frame.region ≡ n
    instance : Instance
    at : IsAt xs number instance
    named : instance.name ≡ I

  regions-apart : (n l : ℕ) (I J : JobName) → IsOf n I → IsOf l J → n ≢ l → (s : StepMeaning) → is_in I s ≡ true → is_in J s ≡ true → ⊥
  regions-apart n l I J a b ne s t u =
      let names = a.named ∙ (same_job_decides I s.instance).0 t ∙ sym ((same_job_decides J s.instance).0 u) ∙ sym b.named in
      let same = stand.apart a.number b.number a.instance b.instance a.at b.at names in
      let frames = same_Some a.frame b.frame (sym a.there ∙ ap fs same ∙ b.there) in
      ne (sym a.region ∙ ap (λ (f : Frame). number_of f.region) frames ∙ b.region)

  -- of one open instance
  module _ (i : ℕ) (f : Frame) (there : fs i ≡ Some f) where
    abbrev x : Instance
    x = (told i f there).0

    abbrev v : View
    v = (told i f there).1

    at : IsAt xs i x
    at = (told i f there).2

    shown : x.view ≡ Some v
    shown = (told i f there).3

    r : Runs gives d.flows m past x.name (levels_in x.flow) v
    r = runs gives d past x.name (levels_in x.flow) v (sits gives d levels_in past xs stand i x v at shown).1.in_run

    inside : (s : StepMeaning) → is_in x.name s ≡ true → opened s ≡ true
    inside s t = ap (is_open past) (sym ((same_job_decides x.name s.instance).0 t)) ∙ r.is_open

    one-room : length (stored_in (region_at pool (number_of f.region))) ≤ sum_where step_room (is_in x.name) m.steps
    one-room =
        let own = framed i x v at shown in
        let is = same_Some own.frame f (sym own.there ∙ there) in
        both _ _ _
        (subst (λ (g : Frame). length (stored_in (region_at pool (number_of g.region))) ≤ sum_by (λ h. step_room h.step) (steps_here gives d.flows m past x.name (levels_in x.flow) v r)) is
        (in-all gives d.flows m past x.name (levels_in x.flow) v r
        (λ instance results hs. length (stored_in (region_at pool (number_of own.frame.region))) ≤ sum_by (λ h. step_room h.step) hs)
        (nodes-fit_steps d.flows own.plan pool own.frame v own.keeps)))
        (own-room gives d.flows m past x.name (levels_in x.flow) v r)
      where
        both : (a b c : ℕ) → a ≤ b → b ≤ c → a ≤ c
        both a b c h k = omega arith

  pub all-room : live_count pool.regions ≤ sum_where step_room opened m.steps
  all-room =
      covered (λ (c : Option (Contents (Entry (Held Piece)))). length (stored_in c)) step_room is_in IsOf regions-apart m.steps 0 pool.regions opened
      (λ n c e. by n c e)
    where
      none : (n : ℕ) → n ≡ 0 + n
      none n = omega arith

      some : (n : ℕ) (c : Contents (Entry (Held Piece))) (o : Option (Contents (Entry (Held Piece)))) → o ≡ Some c → o ≢ None
      some n c None h = λ k. absurd (never h)
        where
          never : None ≡ Some c → ⊥
          never h = cc
      some n c (Some d) h = λ k. never k
        where
          never : Some d ≡ None → ⊥
          never k = cc

      by : (n : ℕ) (c : Option (Contents (Entry (Held Piece)))) → slice_get pool.regions n ≡ Some c → (length (stored_in c) ≡ 0) ⊎ Covers (λ (c : Option (Contents (Entry (Held Piece)))). length (stored_in c)) step_room is_in IsOf regions-apart m.steps (0 + n) c opened
      by n None e = inl refl
      by n (Some c) e =
          let here : region_at pool n ≡ Some c = get_or_from_slice_get pool.regions n (Some c) None e in
          let w = theirs.no_other n (some n c (region_at pool n) here) in
          inr (record {
            key = (x w.0 w.1 w.2).name;
            has = record {
              number = w.0;
              frame = w.1;
              there = w.2;
              region = w.3 ∙ none n;
              instance = x w.0 w.1 w.2;
              at = at w.0 w.1 w.2;
              named = refl;
            };
            inside = inside w.0 w.1 w.2;
            few =
                subst (λ o. length (stored_in o) ≤ sum_where step_room (is_in (x w.0 w.1 w.2).name) m.steps)
                (ap (region_at pool) w.3 ∙ here) (one-room w.0 w.1 w.2);
          })

  pub has-room : live_count pool.regions ≤ node_room m past
  has-room =
      all (live_count pool.regions) (sum_where step_room opened m.steps) (sum_by (λ s. if is_open past s.instance then step_room s else 0) m.steps)
      (sum_by (λ j. if has_open_instance past j then sum_by (λ w. size_of w) j.result else 0) m.jobs)
      (if is_open past [] then sum_by (λ o. size_of o.1) m.outputs else 0)
      all-room (sum-where_is step_room opened m.steps)
    where
      all : (a b c e g : ℕ) → a ≤ b → b ≡ c → a ≤ (c + e) + g
      all a b c e g h k = omega arith

-- ---- in a run

is-told : (r : OpenRun) (xs : Instances) → Fits r xs → (i : ℕ) (f : Frame) → frame_at r i ≡ Some f → (x : Instance) × (v : View) × IsAt xs i x × (x.view ≡ Some v)
is-told r xs fits i f e = by (slice_get r.instances.items i) refl e
  where
    within : {A B : Type 0} (us : List A) (ws : List B) → length us ≡ length ws → (n : ℕ) (a : A) → slice_get us n ≡ Some a → (b : B) × (slice_get ws n ≡ Some b)
    within [] ws l n a h = absurd (none h)
      where
        none : None ≡ Some a → ⊥
        none h = cc
    within (y ∷ us) [] l n a h = absurd (none (length us) l)
      where
        none : (n : ℕ) → suc n ≡ 0 → ⊥
        none n h = omega arith
    within (y ∷ us) (b ∷ ws) l zero a h = (b, refl)
    within (y ∷ us) (b ∷ ws) l (suc n) a h = within us ws (down (length us) (length ws) l) n a h
      where
        down : (a b : ℕ) → suc a ≡ suc b → a ≡ b
        down a b h = omega arith

    of-life : (c : code.Instance) (x : Instance) → IsAt xs i x → (o : Option View) → x.view ≡ o → IsLife r c x o → option_map (λ (o : Open). o.frame) (slice_get c.open.items 0) ≡ Some f
        → (x : Instance) × (v : View) × IsAt xs i x × (x.view ≡ Some v)
    of-life c x at None shown life is = absurd (none (sym (ap (λ os. option_map (λ (o : Open). o.frame) (slice_get os 0)) life.0) ∙ is))
      where
        none : None ≡ Some f → ⊥
        none h = cc
    of-life c x at (Some v) shown life is = (x, v, at, shown)

    by : (o : Option code.Instance) → slice_get r.instances.items i ≡ o → frame_at r i ≡ Some f → (x : Instance) × (v : View) × IsAt xs i x × (x.view ≡ Some v)
    by None there is = absurd (none (sym (ap (option_and_then (λ (c : code.Instance). option_map (λ (o : Open). o.frame) (slice_get c.open.items 0))) there) ∙ is))
      where
        none : None ≡ Some f → ⊥
        none h = cc
    by (Some c) there is =
        let w = within r.instances.items xs fits.as_many i c there in
        of-life c w.0 w.1 w.0.view refl (fits.kept i c w.0 there w.1).life
        (sym (ap (option_and_then (λ (c : code.Instance). option_map (λ (o : Open). o.frame) (slice_get c.open.items 0))) there) ∙ is)

pub nodes-have_room : NodesHaveRoom
nodes-have_room gives r h =
    let xs = h.0 in
    let st = h.1 in
    has-room gives (run_view r.run) (past_of (run_of r)) xs st.stand r.pool (frame_at r) st.fits.theirs (has-frame r xs st.fits) (is-told r xs st.fits)
