-- In every frame of a flow whose depths agree, wholeness and ended steps are told by the events alone, whatever isn't told.
use Rattle.std.specs.Prelude.{◌≡◌, refl, ℕ, List, [], ◌∷◌, Bool, true, ◌&&◌, ◌||◌, map}
use Rattle.std.specs.List.{list_all}
use Rattle.std.specs.Cmp.Lexicographic.{bytes_decides}
use Rattle.std.proofs.Common.{sym, ap, ap₂, subst, ◌∙◌}
use Rattle.std.proofs.lemmas.Bool.{or_right}
use Rattle.std.proofs.lemmas.Bool.{cond-true}
use Rattle.tv_lemmas.specs.Members.{Each}
use Rattle.tv_lemmas.proofs.Members.{each_in, in_each}
use Rattle.tv_value.specs.Orders.{same_name}
use Rattle.tv_strategy.specs.Origins.{Origin}
use Rattle.tv_value.specs.Values.{JobName, Name}
use Rattle.tv_flow.specs.Flows.{Flow, Step}
use Rattle.tv_strategy.specs.Levels.{HasLevels}
use Rattle.tv_strategy.proofs.Each.{each-weaken}
use Rattle.tv_model.specs.instance.Delivered.{Delivered}
use Rattle.tv_model.specs.instance.Ranks.{is_among, ranked}
use Rattle.tv_model.specs.instance.Steps.{spot}
use Rattle.tv_model.specs.Agreeing.{FlowAgrees, InputsHave}
use Rattle.tv_model.specs.Instances.{given_of}
use Rattle.tv_framing.proofs.Frames.{in-finds, steps-distinct}
use Rattle.tv_framing.specs.Answers.{has_ended_now}
use Rattle.tv_framing.specs.Frames.{IsFrame}
use Rattle.tv_framing.specs.Views.{InAll, View, steps_with}
use Rattle.tv_model.specs.instance.ByResults.{InstanceStep, Results, last_first, step_by, steps_by}
use Rattle.tv_model.specs.instance.Counting.{have_ended_by, whole_by}
use Rattle.tv_model.specs.instance.Endings.{has_ended, have_ended}
use Rattle.tv_model.specs.instance.Events.{known_by}
use Rattle.tv_model.specs.instance.OwnDepths.{AreLevels}
use Rattle.tv_model.specs.instance.Wholeness.{is_whole}
use Rattle.tv_framing.proofs.instances.Counted.{ended-by_events, steps-from_last}
use Rattle.tv_framing.proofs.instances.Counting.{step-whole_by}
use Rattle.tv_framing.proofs.instances.Legal.{legal-fit}
use Rattle.tv_framing.specs.instances.Stated.{HasItsLevels, IsCounted}
use Rattle.tv_framing.proofs.instances.Levels.{steps-have_their_levels}

module _ (flows : List (Name × Flow)) (v : View) (w : IsFrame v) (agree : FlowAgrees flows v.flow) (have : InputsHave v.flow.inputs v.inputs) (levels : Name → ℕ) (are : AreLevels levels v.flow.inputs [] (ranked v.flow.steps)) where
  abbrev given : List (Name × Delivered)
  given = given_of v.flow v.inputs

  pub leveled-in_all : InAll v (λ instance results fs. Each (λ (f : InstanceStep). HasLevels f.step.iteration (levels f.step.step)) fs)
  leveled-in_all instance results depth x =
      each-weaken (HasItsLevels levels) (λ (f : InstanceStep). HasLevels f.step.iteration (levels f.step.step)) (λ f h. h.levels_told) (steps_with v instance results)
      (steps-have_their_levels flows v.flow agree v.inputs have instance results depth levels are)

  counted : InAll v (λ instance results fs. Each (IsCounted v.events levels) fs)
  counted instance results depth x =
      let fs = steps_with v instance results in
      in_each (IsCounted v.events levels) fs
      (λ f i. record {
        fit = legal-fit instance fs f (in-finds fs (steps-distinct v instance results) f i) v.events (w.legal instance results depth x);
        counted = each_in (λ (f : InstanceStep). HasLevels f.step.iteration (levels f.step.step)) fs (leveled-in_all instance results depth x) f i;
      })

  -- WHOLE, whatever isn't told
  pub whole-in_all : InAll v (λ instance results fs. Each (λ (f : InstanceStep). is_whole (spot instance f.step.step) (known_by instance v.events) [] f.step.iteration ≡ whole_by v.events f.step.step (levels f.step.step) []) fs)
  whole-in_all instance results depth x =
      let fs = steps_with v instance results in
      in_each (λ (f : InstanceStep). is_whole (spot instance f.step.step) (known_by instance v.events) [] f.step.iteration ≡ whole_by v.events f.step.step (levels f.step.step) []) fs
      (λ f i. let c = each_in (IsCounted v.events levels) fs (counted instance results depth x) f i in step-whole_by f instance v.events c.fit (levels f.step.step) c.counted)

  -- ENDED, whatever isn't told
  pub ended-in_all : (ns : List Name) → InAll v (λ instance results fs. have_ended (known_by instance v.events) fs ns ≡ have_ended_by v.events levels (last_first (ranked v.flow.steps) []) ns)
  ended-in_all ns instance results depth x =
      let e = steps-from_last instance results given (ranked v.flow.steps) [] in
      ap (λ fs. have_ended (known_by instance v.events) fs ns) e
      ∙ ended-by_events instance results given v.events levels (last_first (ranked v.flow.steps) []) ns (subst (Each (IsCounted v.events levels)) e (counted instance results depth x))

  -- ---- all steps

  has-all : (known : Origin → Bool) (ns : List Name) (fs : List InstanceStep) → Each (λ (f : InstanceStep). is_among ns f.step.step ≡ true) fs → have_ended known fs ns ≡ list_all (has_ended known) fs
  has-all known ns [] h = refl
  has-all known ns (f ∷ fs) h = ap₂ (λ a b. a && b) (cond-true (is_among ns f.step.step) (has_ended known f) true h.0) (has-all known ns fs h.1)

  among-own : (n : Name) (ns : List Name) → is_among (n ∷ ns) n ≡ true
  among-own n ns = ap (λ b. b || is_among ns n) ((bytes_decides n n).1 refl)

  -- the names of all steps, where those so far are among these
  all-among : (instance : JobName) (results : Results) (g : List (Name × Delivered)) (ns : List Name) (fs : List InstanceStep) → Each (λ (f : InstanceStep). is_among ns f.step.step ≡ true) fs → (ss : List (Name × Step)) → Each (λ (s : Name × Step). is_among ns s.0 ≡ true) ss → Each (λ (f : InstanceStep). is_among ns f.step.step ≡ true) (steps_by instance results g fs ss)
  all-among instance results g ns fs h [] k = h
  all-among instance results g ns fs h ((n, s) ∷ ss) k = all-among instance results g ns (step_by instance results g fs (n, s) ∷ fs) (k.0, h) ss k.1

  names-among : (ss : List (Name × Step)) → Each (λ (s : Name × Step). is_among (map (λ (t : Name × Step). t.0) ss) s.0 ≡ true) ss
  names-among [] = tt
  names-among (s ∷ ss) = (among-own s.0 (map (λ (t : Name × Step). t.0) ss), later ss (names-among ss))
    where
      later : (ts : List (Name × Step)) → Each (λ (t : Name × Step). is_among (map (λ (t : Name × Step). t.0) ss) t.0 ≡ true) ts → Each (λ (t : Name × Step). is_among (s.0 ∷ map (λ (t : Name × Step). t.0) ss) t.0 ≡ true) ts
      later [] h = tt
      later (t ∷ ts) h = (or_right (same_name t.0 s.0) (is_among (map (λ (t : Name × Step). t.0) ss) t.0) h.0, later ts h.1)

  -- ALL ENDED, whatever isn't told
  pub all_ended-in_all : InAll v (λ instance results fs. list_all (has_ended (known_by instance v.events)) fs ≡ has_ended_now levels v)
  all_ended-in_all instance results depth x =
      let ns = map (λ (t : Name × Step). t.0) (ranked v.flow.steps) in
      sym (has-all (known_by instance v.events) ns (steps_with v instance results) (all-among instance results given ns [] tt (ranked v.flow.steps) (names-among (ranked v.flow.steps)))) ∙ ended-in_all ns instance results depth x
