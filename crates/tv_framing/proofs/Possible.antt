-- Some results are of the declared depths and have all that was told: 'in all' is never empty.
use Rattle.std.specs.Prelude.{◌≡◌, refl, ℕ, zero, suc, List, [], ◌∷◌, Bool, true, false, cond, ◌||◌, Some, find, map, if◌then◌else◌}
use Rattle.std.specs.Option.{option_map_or}
use Rattle.std.specs.Cmp.Lexicographic.{bytes_decides}
use Rattle.std.proofs.Common.{sym, ap, subst, ◌∙◌, inl, inr}
use Rattle.std.proofs.lemmas.Bool.{and_parts, true≢false}
use Rattle.tv_lemmas.specs.Members.{In}
use Rattle.tv_value.specs.Nested.{leaf, list, no_trees, tree, Place}
use Rattle.tv_value.specs.Orders.{same_name}
use Rattle.tv_value.specs.Values.{HasDepth, JobName, Name, Value, list_value, text_value}
use Rattle.tv_flow.specs.Flows.{Step}
use Rattle.tv_strategy.specs.Iterations.{Iteration, Iterations, job, passed}
use Rattle.tv_strategy.specs.Sources.{JobsStand, JobsStandFrom}
use Rattle.tv_model.specs.instance.Delivered.{Delivered}
use Rattle.tv_model.specs.instance.Ranks.{is_among, ranked}
use Rattle.tv_model.specs.RightDepths.{HaveTheseDepths}
use Rattle.tv_model.specs.Instances.{given_of}
use Rattle.tv_model.proofs.Instances.{ranked-fresh}
use Rattle.tv_model.proofs.Sound.{FreshNames}
use Rattle.tv_model.specs.instance.Events as events
use Rattle.tv_framing.specs.Views.{AreGiven, AreOfDepth, View}
use Rattle.tv_model.specs.instance.ByResults.{InstanceStep, Results, result_at, step_by}
use Rattle.tv_model.specs.instance.Events.{Events, Extends, fault_set, gave, is_spot, took}
use Rattle.tv_model.specs.instance.OwnDepths.{AllJobsGive, JobsGive}
use Rattle.tv_framing.proofs.instances.Meant.{first-fits, rest-fit, skip}
use Rattle.tv_framing.proofs.instances.Legal.{GaveOnce, told-extends, told_results}

-- ---- values of every depth

-- one value for each output, of its declared depth
abbrev pub FitOutputs : List Value → List (Name × ℕ) → Type 0
FitOutputs vs ps = HaveTheseDepths (map (λ (p : Name × ℕ). p.1) ps) vs

abbrev default_value : ℕ → Value
default_value zero = text_value []
default_value (suc d) = list_value no_trees

default-depth : (d : ℕ) → HasDepth (default_value d) d
default-depth zero = refl
default-depth (suc d) = tt

abbrev default_values : List (Name × ℕ) → List Value
default_values [] = []
default_values (p ∷ ps) = default_value p.1 ∷ default_values ps

defaults-fit : (ps : List (Name × ℕ)) → FitOutputs (default_values ps) ps
defaults-fit [] = tt
defaults-fit (p ∷ ps) = (default-depth p.1, defaults-fit ps)

-- of the first step of that name
abbrev other_results : List (Name × Step) → Results
other_results ss n q = option_map_or (λ (s : Name × Step). default_values s.1.outputs) (find (λ (s : Name × Step). same_name n s.0) ss) []

-- ---- names that are new are found

fresh-later : (ns : List Name) (ss : List (Name × Step)) → FreshNames ns ss → (s : Name × Step) → In s ss → is_among ns s.0 ≡ false
fresh-later ns [] f s i = absurd i
fresh-later ns (t ∷ ss) f s (inl p) = ap (λ (x : Name × Step). is_among ns x.0) p ∙ f.0
fresh-later ns (t ∷ ss) f s (inr i) = or-right (same_name s.0 t.0) (is_among ns s.0) (fresh-later (t.0 ∷ ns) ss f.1 s i)
  where
    or-right : (a b : Bool) → (a || b) ≡ false → b ≡ false
    or-right true b h = absurd (true≢false h)
    or-right false b h = h

found-own : (ns : List Name) (ss : List (Name × Step)) → FreshNames ns ss → (s : Name × Step) → In s ss → find (λ (t : Name × Step). same_name s.0 t.0) ss ≡ Some s
found-own ns [] f s i = absurd i
found-own ns (t ∷ ss) f s (inl p) = first (same_name s.0 t.0) ((bytes_decides s.0 t.0).1 (ap (λ (x : Name × Step). x.0) p))
  where
    first : (b : Bool) → b ≡ true → cond b (Some t) (find (λ (t : Name × Step). same_name s.0 t.0) ss) ≡ Some s
    first true e = ap (λ x. Some x) (sym p)
    first false e = absurd (true≢false (sym e))
found-own ns (t ∷ ss) f s (inr i) = later (same_name s.0 t.0) (or-left (same_name s.0 t.0) (is_among ns s.0) (fresh-later (t.0 ∷ ns) ss f.1 s i)) (found-own (t.0 ∷ ns) ss f.1 s i)
  where
    or-left : (a b : Bool) → (a || b) ≡ false → a ≡ false
    or-left true b h = h
    or-left false b h = refl

    later : (b : Bool) → b ≡ false → find (λ (t : Name × Step). same_name s.0 t.0) ss ≡ Some s → cond b (Some t) (find (λ (t : Name × Step). same_name s.0 t.0) ss) ≡ Some s
    later false e h = h
    later true e h = absurd (true≢false e)

-- ---- lists that fit, output by output

mutual
  jobs-all : (J : Place → Type 0) → ((q : Place) → J q) → (t : Iteration) (q : Place) → JobsStand J q t
  jobs-all J h (leaf s (job b)) q = h q
  jobs-all J h (leaf s (passed m e)) q = tt
  jobs-all J h (list s ts) q = jobs-all_from J h ts q 0

  jobs-all_from : (J : Place → Type 0) → ((q : Place) → J q) → (ts : Iterations) (q : Place) (i : ℕ) → JobsStandFrom J q i ts
  jobs-all_from J h no_trees q i = tt
  jobs-all_from J h (tree t ts) q i = (jobs-all J h t _, jobs-all_from J h ts q (suc i))

module _ (instance : JobName) (results : Results) (given : List (Name × Delivered)) where
  jobs-give : (f : InstanceStep) (k : ℕ) (ps : List (Name × ℕ)) → ((q : Place) → FitOutputs (skip k (results f.step.step q)) ps) → JobsGive results f k ps
  jobs-give f k [] h = tt
  jobs-give f k (p ∷ ps) h =
      (jobs-all (λ q. HasDepth (result_at results f.step.step k q) p.1) (λ q. first-fits k (results f.step.step q) p ps (h q)) f.step.iteration [], jobs-give f (suc k) ps (λ q. rest-fit k (results f.step.step q) p ps (h q)))

  all-give : (fs : List InstanceStep) (ss : List (Name × Step)) → ((s : Name × Step) → In s ss → (q : Place) → FitOutputs (results s.0 q) s.1.outputs) → AllJobsGive instance results given fs ss
  all-give fs [] h = tt
  all-give fs ((n, s) ∷ ss) h =
      (jobs-give (step_by instance results given fs (n, s)) 0 s.outputs (λ q. skipped (results n q) s.outputs (h (n, s) (inl refl) q)), all-give (step_by instance results given fs (n, s) ∷ fs) ss (λ t i q. h t (inr i) q))
    where
      skipped : (vs : List Value) (ps : List (Name × ℕ)) → FitOutputs vs ps → FitOutputs (skip 0 vs) ps
      skipped vs ps h = h

-- ---- what was told, and defaults elsewhere

gave-once : (ss : List (Name × Step)) (es : Events) → AreGiven ss es → GaveOnce es
gave-once ss [] h = tt
gave-once ss (gave s q vs ∷ es) h = (h.1, gave-once ss es h.2)
gave-once ss (events.closed s q n ∷ es) h = gave-once ss es h
gave-once ss (fault_set s q e ∷ es) h = gave-once ss es h
gave-once ss (took s q ∷ es) h = gave-once ss es h

module _ (ss : List (Name × Step)) (fresh : FreshNames [] ss) (s : Name × Step) (there : In s ss) (q : Place) where
  other-fits : FitOutputs (other_results ss s.0 q) s.1.outputs
  other-fits = subst (λ o. FitOutputs (option_map_or (λ (t : Name × Step). default_values t.1.outputs) o []) s.1.outputs) (sym (found-own [] ss fresh s there)) (defaults-fit s.1.outputs)

  told-fit : (es : Events) → AreGiven ss es → FitOutputs (told_results (other_results ss) es s.0 q) s.1.outputs
  told-fit [] h = other-fits
  told-fit (gave t r vs ∷ es) h = by (is_spot s.0 q t r) refl (told-fit es h.2)
    where
      by : (b : Bool) → is_spot s.0 q t r ≡ b → FitOutputs (told_results (other_results ss) es s.0 q) s.1.outputs → FitOutputs (if b then vs else told_results (other_results ss) es s.0 q) s.1.outputs
      by true e k = h.0 s there ((bytes_decides s.0 t).0 ((and_parts (same_name s.0 t) (same_name q r) e).0))
      by false e k = k
  told-fit (events.closed t r n ∷ es) h = told-fit es h
  told-fit (fault_set t r e ∷ es) h = told-fit es h
  told-fit (took t r ∷ es) h = told-fit es h

-- POSSIBLE
pub some-possible : (v : View) (instance : JobName) → AreGiven (ranked v.flow.steps) v.events → (results : Results) × AreOfDepth v instance results × Extends results v.events
some-possible v instance h =
    let ss = ranked v.flow.steps in
    let results = told_results (other_results ss) v.events in
    (results, all-give instance results (given_of v.flow v.inputs) [] ss (λ s i q. told-fit ss (ranked-fresh v.flow.steps) s i q v.events h), told-extends (other_results ss) v.events (gave-once ss v.events h))
