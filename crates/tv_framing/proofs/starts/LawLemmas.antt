-- The laws as they are stated.
use Rattle.std.specs.Prelude.{◌≡◌, refl, ℕ, ◌≤◌, List, [], ◌++◌, map, IsPermutation, Some, slice_get, unwrap_or}
use Rattle.std.proofs.Common.{arith, sym, ap, subst, ◌∙◌, append_assoc}
use Rattle.std.proofs.lemmas.List.Sorted.{IsPermutation-map, IsPermutation-sym}
use Rattle.std.proofs.lemmas.List.{map-append}
use Rattle.tv_lemmas.specs.Members.{Each, In}
use Rattle.tv_lemmas.proofs.Members.{in_each}
use Rattle.tv_value.specs.Values.{JobName, Name}
use Rattle.tv_flow.specs.Flows.{Flow, Step, StepInput}
use Rattle.tv_strategy.specs.Conditions.{number_of}
use Rattle.tv_strategy.specs.Iterations.{walk}
use Rattle.tv_strategy.specs.Origins.{Traced}
use Rattle.tv_model.specs.instance.Delivered.{Delivered, feed_delivers, at_port}
use Rattle.tv_model.specs.instance.Ranks.{ranked}
use Rattle.tv_model.specs.Instances.{given_of}
use Rattle.tv_matching.specs.Items.{known_items}
use Rattle.tv_matching.specs.Matchers.{CanTellAll, Matching}
use Rattle.tv_matching.specs.Members.{Once}
use Rattle.tv_matching.specs.Tellings.{Telling}
use Rattle.tv_matching.specs.Told.{Spot, Told, item_there, telling, tellings, told_to}
use Rattle.tv_matching.proofs.Lists.{each-map}
use Rattle.tv_matching.proofs.Members.{each-permutes}
use Rattle.tv_matching.proofs.Onces.{each-flat, known-once, once-permutes}
use Rattle.tv_check.specs.Ports.{levels_of, mismatches}
use Rattle.tv_model.specs.instance.ByResults.{InstanceStep, Results, step_of}
use Rattle.tv_model.specs.instance.Events.{Extends, known_by}
use Rattle.tv_model.specs.instance.Legality.{AreLegal}
use Rattle.tv_framing.specs.Frames.{known_jobs}
use Rattle.tv_framing.specs.Views.{AreGiven, AreOfDepth, View, steps_with}
use Rattle.tv_framing.proofs.Possible.{some-possible}
use Rattle.tv_framing.specs.keeping.Told.{PortIsTold, StepIsTold}
use Rattle.tv_framing.proofs.starts.Instances.{IsStepOf, inputs-rise, ports-are, step-of, step-there}
use Rattle.tv_framing.proofs.starts.Leaves.{each-first, each-last, named-own, told-any, told-at, told-permutes}
use Rattle.tv_framing.proofs.starts.Starts.{at_first, feed-starts, feed-to, port-told}
use Rattle.tv_framing.proofs.starts.Telling.{Fits, all-fit, can-tell, feed-fits, once-part, once-seen}
use Rattle.tv_framing.specs.starts.Starts.{port_start, step_start}
use Rattle.tv_framing.specs.starts.Stated.{IsBegun, StartCanBeTold, StartIsFrame, StartIsTold}

-- of a list in three parts the middle one
middle : (P : Telling Spot Spot → Type 0) (xs ys zs : List Told) → Each P (tellings (xs ++ (ys ++ zs))) → Each P (tellings ys)
middle P xs ys zs h =
    each-first P (tellings ys) (tellings zs)
    (subst (Each P) (map-append telling ys zs) (each-last P (tellings xs) (tellings (ys ++ zs)) (subst (Each P) (map-append telling xs (ys ++ zs)) h)))

module _ (flows : List (Name × Flow)) (levels : Name → ℕ) (v : View) (b : IsBegun flows levels v) (n : ℕ) (s : Name × Step) (there : slice_get v.flow.steps n ≡ Some s) where
  abbrev given : List (Name × Delivered)
  given = given_of v.flow v.inputs

  abbrev feed_of : List InstanceStep → Name × StepInput → Delivered
  feed_of before i = feed_delivers step_of given before i.1.from

  -- what one port is told of all that its step is told
  module _ (instance : JobName) (results : Results) (f : InstanceStep) (w : IsStepOf v.flow levels instance results v.inputs flows (steps_with v instance results) f s) where
    one-port : (i : Name × StepInput) → In i s.1.inputs → (values : Name → Traced) → values i.0 ≡ (at_port i.1.depth (feed_of w.before i)).value → map (item_there values) (told_to (step_start v.flow v.inputs s.1) i.0) ≡ known_items (at_first instance) (walk i.0 (at_port i.1.depth (feed_of w.before i)).mismatch (at_port i.1.depth (feed_of w.before i)).value)
    one-port i g values own =
        let p = w.ports i g in
        ap (map (item_there values)) (told-at (port_start v.flow v.inputs) (λ j. feed-to v.inputs j.0 (levels_of v.flow j.1) j.1.from) s.1.inputs (inputs-rise flows levels v b.depths b.wired n s there) i g)
        ∙ port-told v.inputs (at_first instance) refl i.1.depth (feed_of w.before i) p.right i.1.from (feed-starts v.flow levels instance results v.inputs w.before w.made i.1.from p.found) values i.0 own (levels_of v.flow i.1) p.planned

    told-in : (ts : List Told) → IsPermutation ts (step_start v.flow v.inputs s.1) → (i : Name × StepInput) → In i s.1.inputs → PortIsTold instance [] ts (i.0, at_port i.1.depth (feed_of w.before i))
    told-in ts h i g values own =
        subst (IsPermutation (map (item_there values) (told_to ts i.0))) (one-port i g values own)
        (IsPermutation-map (item_there values) (told_to ts i.0) (told_to (step_start v.flow v.inputs s.1) i.0)
        (told-permutes ts (step_start v.flow v.inputs s.1) (IsPermutation-map telling ts (step_start v.flow v.inputs s.1) h) i.0))

  step-told : (ts : List Told) → IsPermutation ts (step_start v.flow v.inputs s.1) → StepIsTold v s.0 ts
  step-told ts h instance results depth x f i e =
      let w = step-of flows levels v b.depths b.wired n s there instance results depth f i e in
      subst (λ es. Each (PortIsTold instance es ts) f.step.inputs) (sym b.events)
      (subst (Each (PortIsTold instance [] ts)) (sym (ports-are v.flow levels instance results v.inputs flows (steps_with v instance results) f s w))
      (each-map (PortIsTold instance [] ts) (λ (i : Name × StepInput). (i.0, at_port i.1.depth (feed_of w.before i))) s.1.inputs
      (in_each (λ (i : Name × StepInput). PortIsTold instance [] ts (i.0, at_port i.1.depth (feed_of w.before i))) s.1.inputs (told-in instance results f w ts h))))

  -- ---- no place twice

  some : (results : Results) × AreOfDepth v [] results × Extends results v.events
  some = some-possible v [] (subst (AreGiven (ranked v.flow.steps)) (sym b.events) tt)

  ports-once : (f : InstanceStep) → IsStepOf v.flow levels [] some.0 v.inputs flows (steps_with v [] some.0) f s → Each (λ i. Once (told_to (port_start v.flow v.inputs i) i.0)) s.1.inputs
  ports-once f w =
      in_each (λ (i : Name × StepInput). Once (told_to (port_start v.flow v.inputs i) i.0)) s.1.inputs
      (λ i g.
      let p = w.ports i g in
      let value = (at_port i.1.depth (feed_of w.before i)).value in
      once-seen (λ m. value) (told_to (port_start v.flow v.inputs i) i.0)
      (subst Once (sym (port-told v.inputs (at_first []) refl i.1.depth (feed_of w.before i) p.right i.1.from (feed-starts v.flow levels [] some.0 v.inputs w.before w.made i.1.from p.found) (λ m. value) i.0 refl (levels_of v.flow i.1) p.planned))
      (λ q. known-once (at_first []) q (walk i.0 (at_port i.1.depth (feed_of w.before i)).mismatch value))))

  step-once : (p : Name) → Once (told_to (step_start v.flow v.inputs s.1) p)
  step-once p =
      let f = step-there v b.wired n s there [] some.0 in
      let w = step-of flows levels v b.depths b.wired n s there [] some.0 some.1 f.0 f.1 f.2 in
      told-any (port_start v.flow v.inputs) (λ j. feed-to v.inputs j.0 (levels_of v.flow j.1) j.1.from) (λ xs. Once xs) (λ q. none) s.1.inputs (inputs-rise flows levels v b.depths b.wired n s there) (ports-once f.0 w) p
    where
      none : 0 ≤ 1
      none = omega arith

  -- ---- each fits

  step-fits : Each (Fits (number_of (mismatches v.flow s.1))) (tellings (step_start v.flow v.inputs s.1))
  step-fits =
      each-map (Fits (number_of (mismatches v.flow s.1))) telling (step_start v.flow v.inputs s.1)
      (each-flat (λ t. Fits (number_of (mismatches v.flow s.1)) (telling t)) (port_start v.flow v.inputs) s.1.inputs
      (in_each (λ (i : Name × StepInput). Each (λ t. Fits (number_of (mismatches v.flow s.1)) (telling t)) (port_start v.flow v.inputs i)) s.1.inputs
      (λ i g. feed-fits (number_of (mismatches v.flow s.1)) i.0 v.inputs (levels_of v.flow i.1) i.1.from (sym (ap (λ o. unwrap_or o 0) (named-own (λ j. levels_of v.flow j.1) s.1.inputs (inputs-rise flows levels v b.depths b.wired n s there) i g))))))

  step-can_be_told : (m : Matching) → m.mismatch ≡ mismatches v.flow s.1 → (ts rest : List Told) → IsPermutation (tellings (m.told ++ (ts ++ rest))) (tellings (step_start v.flow v.inputs s.1)) → CanTellAll m ts
  step-can_be_told m e ts rest h =
      let back = IsPermutation-sym (tellings (m.told ++ (ts ++ rest))) (tellings (step_start v.flow v.inputs s.1)) h in
      let fit : Each (Fits (number_of m.mismatch)) (tellings (m.told ++ (ts ++ rest))) =
      each-permutes (Fits (number_of m.mismatch)) (tellings (step_start v.flow v.inputs s.1)) (tellings (m.told ++ (ts ++ rest))) back
      (subst (λ x. Each (Fits (number_of x)) (tellings (step_start v.flow v.inputs s.1))) (sym e) step-fits) in
      can-tell m ts (all-fit (number_of m.mismatch) ts (middle (Fits (number_of m.mismatch)) m.told ts rest fit))
      (once-part (m.told ++ ts) rest
      (λ p. subst (λ l. Once (told_to l p)) (sym (append_assoc m.told ts rest))
      (once-permutes (told_to (step_start v.flow v.inputs s.1) p) (told_to (m.told ++ (ts ++ rest)) p) (told-permutes (step_start v.flow v.inputs s.1) (m.told ++ (ts ++ rest)) back p) (step-once p))))

pub start-is_told : StartIsTold
start-is_told flows levels v b n s there ts h = step-told flows levels v b n s there ts h

pub start-can_be_told : StartCanBeTold
start-can_be_told flows levels v b n s there m e ts rest h = step-can_be_told flows levels v b n s there m e ts rest h

pub start-is_frame : StartIsFrame
start-is_frame v e h =
    record {
      given = subst (AreGiven (ranked v.flow.steps)) (sym e) tt;
      legal = λ instance results depth x. subst (AreLegal instance (steps_with v instance results)) (sym e) tt;
      known = λ instance results depth x. subst (λ es. IsPermutation v.jobs (known_jobs (known_by instance es) (steps_with v instance results))) (sym e) (h instance results depth x);
    }
