-- All steps are ranked exactly where none comes before itself.
use Rattle.std.specs.Prelude.{◌≡◌, ℕ, ◌<◌, ◌^◌, List, [], ◌∷◌, ◌++◌, length, Bool, true, false, not, ◌&&◌, Option, Some, None, option_map, refl, find, flat_map, cond}
use Rattle.std.specs.List.{list_all}
use Rattle.std.proofs.Common.{arith, get_or, ap, sym, ◌∙◌}
use Rattle.std.proofs.lemmas.List.{length-map}
use Rattle.tv_lemmas.specs.Members.{Each}
use Rattle.tv_value.specs.Values.{Name}
use Rattle.tv_flow.specs.Flows.{Flow, Document}
use Rattle.tv_flow.specs.Formed.{is_ascending, is_flow}
use Rattle.tv_naming.specs.graphs.Graphs.{by_least}
use Rattle.tv_naming.proofs.Cycles.{no_cycle-all_come, all_come-no_cycle}
use Rattle.tv_naming.specs.Faulty.{CheckComplaint, plainly, link_cycle, at_step, first_of}
use Rattle.tv_model.specs.instance.Ranks.{earlier_steps, ranked}
use Rattle.tv_check.specs.Cycles.{reaches, steps_before, flow_link_cycles, link_cycle_complaints}
use Rattle.tv_check.specs.NamedGraphs.{numbers_of, links_inside}
use Rattle.tv_check.specs.RankLaws.{is_acyclic}
use Rattle.tv_naming.proofs.Lists.{each-get}
use Rattle.tv_naming.proofs.ByPosition.{names_of}
use Rattle.tv_check.proofs.GraphLemmas.{graph, at, graph_of-is}
use Rattle.tv_check.proofs.CycleLemmas.{first-reaching, on_cycle, first-told}
use Rattle.tv_naming.proofs.Forms.{steps-named}
use Rattle.tv_check.proofs.Ranks.{ranked-numbers}

none-fails : {X : Type 0} (p : X → Bool) (xs : List X) → list_all (λ x. not (p x)) xs ≡ true → find p xs ≡ None
none-fails p [] e = refl
none-fails p (x ∷ xs) e = cases (p x) refl e (none-fails p xs)
  where
    cases : (b : Bool) → p x ≡ b → (not b && list_all (λ x. not (p x)) xs) ≡ true → (list_all (λ x. not (p x)) xs ≡ true → find p xs ≡ None) → cond b (Some x) (find p xs) ≡ None
    cases true q h t = cc
    cases false q h t = t h

fails-none : {X : Type 0} (p : X → Bool) (xs : List X) → find p xs ≡ None → list_all (λ x. not (p x)) xs ≡ true
fails-none p [] e = refl
fails-none p (x ∷ xs) e = cases (p x) e (fails-none p xs)
  where
    cases : (b : Bool) → cond b (Some x) (find p xs) ≡ None → (find p xs ≡ None → list_all (λ x. not (p x)) xs ≡ true) → (not b && list_all (λ x. not (p x)) xs) ≡ true
    cases true h t = cc
    cases false h t = t h

mapped-none : {X Y : Type 0} (f : X → Y) (o : Option X) → option_map f o ≡ None → o ≡ None
mapped-none f None e = refl
mapped-none f (Some x) e = cc

module _ (f : Flow) (rises : is_ascending (names_of f.steps) ≡ true) (inside : links_inside f ≡ true) where
  as-many : length (ranked f.steps) ≡ length (by_least (graph earlier_steps f.steps))
  as-many = sym (length-map (ranked f.steps) (λ s. at earlier_steps f.steps s.0)) ∙ ap length (ranked-numbers f.steps rises inside)

  vertices-many : length (graph earlier_steps f.steps) ≡ length f.steps
  vertices-many = length-map f.steps (λ s. numbers_of f.steps (earlier_steps s.1))

  -- where no step reaches itself, every step is ranked
  pub all-ranked : length f.steps < 2 ^ 32 → is_acyclic f ≡ true → length (ranked f.steps) ≡ length f.steps
  all-ranked few e =
      as-many
      ∙ no_cycle-all_come (graph earlier_steps f.steps) (graph_of-is f.steps earlier_steps few) (first-reaching earlier_steps f.steps rises ∙ ap (option_map (λ s. at earlier_steps f.steps s.0)) (none-fails (on_cycle earlier_steps f.steps rises) f.steps e))
      ∙ vertices-many

  pub ranked-acyclic : length (ranked f.steps) ≡ length f.steps → is_acyclic f ≡ true
  ranked-acyclic e =
      fails-none (on_cycle earlier_steps f.steps rises) f.steps
      (mapped-none (λ s. at earlier_steps f.steps s.0) _ (sym (first-reaching earlier_steps f.steps rises) ∙ all_come-no_cycle (graph earlier_steps f.steps) (sym as-many ∙ e ∙ sym vertices-many)))

pub all-ranked-formed : (f : Flow) → is_flow f ≡ true → links_inside f ≡ true → is_acyclic f ≡ true → length (ranked f.steps) ≡ length f.steps
all-ranked-formed f formed inside e = let n = steps-named f formed in all-ranked f n.rise inside (omega (arith, n.few)) e

pub ranked-acyclic-formed : (f : Flow) → is_flow f ≡ true → links_inside f ≡ true → length (ranked f.steps) ≡ length f.steps → is_acyclic f ≡ true
ranked-acyclic-formed f formed inside e = ranked-acyclic f (steps-named f formed).rise inside e

-- where nothing is told of a flow's links, no step reaches itself
pub acyclic-from : (n : Name) (f : Flow) → first_of (flow_link_cycles n f) ≡ None → is_acyclic f ≡ true
acyclic-from n f e =
    fails-none (λ s. reaches (steps_before f) (length f.steps) s.0 s.0) f.steps
    (mapped-none (λ s. plainly link_cycle (at_step n s.0)) _ (sym (first-told (λ s. reaches (steps_before f) (length f.steps) s.0 s.0) (λ s. plainly link_cycle (at_step n s.0)) f.steps) ∙ e))

-- so of each flow of a document
none-each : {X : Type 0} (G : X → List CheckComplaint) (xs : List X) → first_of (flat_map G xs) ≡ None → Each (λ x. first_of (G x) ≡ None) xs
none-each G [] e = tt
none-each G (x ∷ xs) e = cases (G x) e (none-each G xs)
  where
    cases : (cs : List CheckComplaint) → first_of (cs ++ flat_map G xs) ≡ None → (first_of (flat_map G xs) ≡ None → Each (λ x. first_of (G x) ≡ None) xs) → (first_of cs ≡ None) × Each (λ x. first_of (G x) ≡ None) xs
    cases [] h t = (refl, t h)
    cases (c ∷ cs) h t = cc

pub flow-acyclic : (d : Document) → first_of (link_cycle_complaints d) ≡ None → (k : ℕ) (x : Name × Flow) → k < length d.flows → is_acyclic (get_or d.flows k x).1 ≡ true
flow-acyclic d e k x lt =
    let f = get_or d.flows k x in
    acyclic-from f.0 f.1 (each-get (λ f. first_of (flow_link_cycles f.0 f.1) ≡ None) d.flows (none-each (λ f. flow_link_cycles f.0 f.1) d.flows e) k x lt)
