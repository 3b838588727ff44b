-- What a feed delivers to a step comes from steps that were made before it, and stays the same when more are made.
use Rattle.std.specs.List.{list_all}
use Rattle.std.specs.Prelude.{◌≡◌, refl, ◌⊎◌, ◌++◌, ◌∷◌, ◌||◌, Bool, true, false, if◌then◌else◌, find, flat_map, is_some, length, List, [], map, Some, unwrap_or}
use Rattle.std.specs.Option.{option_map_or}
use Rattle.std.proofs.Common.{sym, ap, ap₂, ◌∙◌, inl, inr}
use Rattle.std.proofs.lemmas.Bool.{and_parts, or_right, true≢false}
use Rattle.std.proofs.lemmas.List.Folds.{list_all-append}
use Rattle.tv_lemmas.specs.Members.{Each, In}
use Rattle.tv_lemmas.proofs.Members.{in_each}
use Rattle.tv_value.specs.Orders.{named, same_name}
use Rattle.tv_value.specs.Values.{JobName, Name}
use Rattle.tv_value.proofs.NameLemmas.{same_name-is, same_name-refl}
use Rattle.tv_flow.specs.Flows.{Feed, Link, Step, StepInput, constant, input, link, merge, output}
use Rattle.tv_naming.specs.Naming.{has_name}
use Rattle.tv_naming.proofs.ByPosition.{names_of}
use Rattle.tv_model.specs.instance.Delivered.{Delivered, feed_delivers, link_delivers, merged, nothing_delivered, at_port}
use Rattle.tv_model.specs.instance.Ranks.{earlier_steps, feed_steps, is_among, link_step, ranked}
use Rattle.tv_model.proofs.Ranks.{IsOrdered}
use Rattle.tv_model.specs.instance.ByResults.{InstanceStep, Results, ports_on, step_by, step_of, steps_by}
use Rattle.tv_check.proofs.Ranks.{each-by_rank}

abbrev pub names : List InstanceStep → List Name
names fs = map (λ (f : InstanceStep). f.step.step) fs

-- the names of these steps are all among those
abbrev pub AreAmong : List Name → List Name → Type 0
AreAmong ns ms = list_all (is_among ns) ms ≡ true

pub among-left : (ns ms ls : List Name) → AreAmong ns (ms ++ ls) → AreAmong ns ms
among-left ns ms ls h = (and_parts (list_all (is_among ns) ms) (list_all (is_among ns) ls) (sym (list_all-append (is_among ns) ms ls) ∙ h)).0

pub among-right : (ns ms ls : List Name) → AreAmong ns (ms ++ ls) → AreAmong ns ls
among-right ns ms ls h = (and_parts (list_all (is_among ns) ms) (list_all (is_among ns) ls) (sym (list_all-append (is_among ns) ms ls) ∙ h)).1

module _ (instance : JobName) (results : Results) (given : List (Name × Delivered)) where
  abbrev more : List InstanceStep → List (Name × Step) → List InstanceStep
  more fs ss = steps_by instance results given fs ss

  -- a step that was made is there when more are
  pub in-more : (f : InstanceStep) (fs : List InstanceStep) (ss : List (Name × Step)) → In f fs → In f (more fs ss)
  in-more f fs [] i = i
  in-more f fs ((m, s) ∷ ss) i = in-more f (step_by instance results given fs (m, s) ∷ fs) ss (inr i)

  found-stays : (n : Name) (fs : List InstanceStep) (ss : List (Name × Step)) → is_among (names fs) n ≡ true → IsOrdered (names fs) ss → find (λ (g : InstanceStep). same_name n g.step.step) (more fs ss) ≡ find (λ (g : InstanceStep). same_name n g.step.step) fs
  found-stays n fs [] a h = refl
  found-stays n fs ((m, s) ∷ ss) a h =
      let g = step_by instance results given fs (m, s) in
      found-stays n (g ∷ fs) ss (or_right (same_name n m) (is_among (names fs) n) a) h.1.1
      ∙ by (same_name n m) refl
    where
      by : (b : Bool) → same_name n m ≡ b → (if b then Some (step_by instance results given fs (m, s)) else find (λ (g : InstanceStep). same_name n g.step.step) fs) ≡ find (λ (g : InstanceStep). same_name n g.step.step) fs
      by true e = absurd (true≢false (sym (ap (is_among (names fs)) (sym (same_name-is n m e)) ∙ a) ∙ h.1.0))
      by false e = refl

  module _ (fs : List InstanceStep) (ss : List (Name × Step)) (ordered : IsOrdered (names fs) ss) where
    pub link-stays : (l : Link) → AreAmong (names fs) (link_step l) → link_delivers step_of given fs l ≡ link_delivers step_of given (more fs ss) l
    link-stays (input x) h = refl
    link-stays (output s p) h =
        ap (λ o. option_map_or (λ (g : InstanceStep). unwrap_or (named p g.step.outputs) nothing_delivered) o nothing_delivered)
        (sym (found-stays s fs ss ((and_parts (is_among (names fs) s) true h).0) ordered))

    pub links-stay : (ls : List Link) → AreAmong (names fs) (flat_map link_step ls) → map (link_delivers step_of given fs) ls ≡ map (link_delivers step_of given (more fs ss)) ls
    links-stay [] h = refl
    links-stay (l ∷ ls) h =
        ap₂ (λ d ds. d ∷ ds) (link-stays l (among-left (names fs) (link_step l) (flat_map link_step ls) h))
        (links-stay ls (among-right (names fs) (link_step l) (flat_map link_step ls) h))

    pub feed-stays : (d : Feed) → AreAmong (names fs) (feed_steps d) → feed_delivers step_of given fs d ≡ feed_delivers step_of given (more fs ss) d
    feed-stays (link l) h = link-stays l h
    feed-stays (merge ls) h = ap merged (links-stay ls h)
    feed-stays (constant v) h = refl

    inputs-stay : (is : List (Name × StepInput)) → AreAmong (names fs) (flat_map (λ (i : Name × StepInput). feed_steps i.1.from) is) → ports_on (feed_delivers step_of given fs) is ≡ ports_on (feed_delivers step_of given (more fs ss)) is
    inputs-stay [] h = refl
    inputs-stay (i ∷ is) h =
        ap₂ (λ p ps. p ∷ ps)
        (ap (λ d. (i.0, at_port i.1.depth d)) (feed-stays i.1.from (among-left (names fs) (feed_steps i.1.from) (flat_map (λ (j : Name × StepInput). feed_steps j.1.from) is) h)))
        (inputs-stay is (among-right (names fs) (feed_steps i.1.from) (flat_map (λ (j : Name × StepInput). feed_steps j.1.from) is) h))

    -- the inputs of a step come from steps that were made
    pub fed-before : (s : Step) → AreAmong (names fs) (earlier_steps s) → AreAmong (names fs) (flat_map (λ (i : Name × StepInput). feed_steps i.1.from) s.inputs)
    fed-before s h = among-left (names fs) (flat_map (λ (i : Name × StepInput). feed_steps i.1.from) s.inputs) s.after h

    pub ports-stay : (s : Step) → AreAmong (names fs) (earlier_steps s) → ports_on (feed_delivers step_of given fs) s.inputs ≡ ports_on (feed_delivers step_of given (more fs ss)) s.inputs
    ports-stay s h = inputs-stay s.inputs (fed-before s h)

  -- each step that is made is of one of those that were to be made
  pub made-from : (f : InstanceStep) (fs : List InstanceStep) (ss : List (Name × Step)) → In f (more fs ss) → In f fs ⊎ (is_among (names_of ss) f.step.step ≡ true)
  made-from f fs [] i = inl i
  made-from f fs ((m, s) ∷ ss) i = by (made-from f (step_by instance results given fs (m, s) ∷ fs) ss i)
    where
      by : In f (step_by instance results given fs (m, s) ∷ fs) ⊎ (is_among (names_of ss) f.step.step ≡ true) → In f fs ⊎ (is_among (m ∷ names_of ss) f.step.step ≡ true)
      by (inl (inl p)) = inr (ap (λ b. b || is_among (names_of ss) f.step.step) (ap (same_name f.step.step) (ap (λ (g : InstanceStep). g.step.step) (sym p)) ∙ same_name-refl f.step.step))
      by (inl (inr k)) = inl k
      by (inr k) = inr (or_right (same_name f.step.step m) (is_among (names_of ss) f.step.step) k)

-- ---- steps by rank are steps of the flow

own-names : (xs : List (Name × Step)) → Each (λ (s : Name × Step). has_name xs s.0 ≡ true) xs
own-names xs = in_each (λ (s : Name × Step). has_name xs s.0 ≡ true) xs (λ s i. there s xs i)
  where
    there : (s : Name × Step) (ys : List (Name × Step)) → In s ys → has_name ys s.0 ≡ true
    there s [] i = absurd i
    there s (y ∷ ys) (inl p) = ap (λ b. is_some (if b then Some y.1 else named s.0 ys)) (ap (λ (t : Name × Step). same_name s.0 t.0) (sym p) ∙ same_name-refl s.0)
    there s (y ∷ ys) (inr i) = by (same_name s.0 y.0) (there s ys i)
      where
        by : (b : Bool) → has_name ys s.0 ≡ true → is_some (if b then Some y.1 else named s.0 ys) ≡ true
        by true h = refl
        by false h = h

pub ranked-named : (steps : List (Name × Step)) (n : Name) → is_among (names_of (ranked steps)) n ≡ true → has_name steps n ≡ true
ranked-named steps n h = pick (ranked steps) (each-by_rank (λ (s : Name × Step). has_name steps s.0 ≡ true) (length steps) [] steps (own-names steps)) h
  where
    pick : (xs : List (Name × Step)) → Each (λ (s : Name × Step). has_name steps s.0 ≡ true) xs → is_among (names_of xs) n ≡ true → has_name steps n ≡ true
    pick [] k a = absurd (true≢false (sym a))
    pick (x ∷ xs) k a = by (same_name n x.0) refl a (λ g. pick xs k.1 g)
      where
        by : (b : Bool) → same_name n x.0 ≡ b → (b || is_among (names_of xs) n) ≡ true → (is_among (names_of xs) n ≡ true → has_name steps n ≡ true) → has_name steps n ≡ true
        by true e g rec = ap (has_name steps) (same_name-is n x.0 e) ∙ k.0
        by false e g rec = rec g
