-- Where no name is complained of, what comes before a step and what a flow opens is there.
use Rattle.std.specs.Prelude.{◌≡◌, ◌<◌, ℕ, suc, List, [], ◌∷◌, length, Bool, true, false, not, ◌&&◌, Option, Some, None, refl, is_some, flat_map, filter_map}
use Rattle.std.specs.List.{list_all}
use Rattle.std.specs.Option.{option_map_or}
use Rattle.std.proofs.Common.{get_or, ap, ◌∙◌}
use Rattle.std.proofs.lemmas.List.Folds.{list_all-append}
use Rattle.std.proofs.lemmas.Bool.{and_parts}
use Rattle.tv_lemmas.specs.Members.{Each}
use Rattle.tv_lemmas.proofs.Lists.{append-none}
use Rattle.tv_value.specs.Values.{Name}
use Rattle.tv_value.specs.Orders.{named}
use Rattle.tv_value.specs.Activities.{Activity, service, nested}
use Rattle.tv_flow.specs.Flows.{Link, input, output, Feed, link, merge, constant, Step, Flow, Document}
use Rattle.tv_naming.specs.Faulty.{Where, CheckComplaint, plainly, no_such_port, no_such_flow, at_main, at_input, at_after}
use Rattle.tv_naming.specs.Naming.{has_name, is_there, complain_if, link_complaints, numbered, activity_complaints, step_naming, flow_naming, naming_complaints}
use Rattle.tv_model.specs.instance.Ranks.{link_step, feed_steps, earlier_steps}
use Rattle.tv_check.specs.Cycles.{opened_flow, opened_flows}
use Rattle.tv_check.specs.NamedGraphs.{leads_inside, links_inside, names_inside}
use Rattle.tv_naming.proofs.Lists.{list_all-at}

pub nil-each : {X Y : Type 0} (f : X → List Y) (xs : List X) → flat_map f xs ≡ [] → Each (λ x. f x ≡ []) xs
nil-each f [] e = tt
nil-each f (x ∷ xs) e = let p = append-none (f x) (flat_map f xs) e in (p.0, nil-each f xs p.1)

all-flat : {X Y : Type 0} (p : Y → Bool) (g : X → List Y) (xs : List X) → Each (λ x. list_all p (g x) ≡ true) xs → list_all p (flat_map g xs) ≡ true
all-flat p g [] e = refl
all-flat p g (x ∷ xs) e = list_all-append p (g x) (flat_map g xs) ∙ ap (λ b. b && list_all p (flat_map g xs)) e.0 ∙ all-flat p g xs e.1

pub each-all : {X : Type 0} (p : X → Bool) (xs : List X) → Each (λ x. p x ≡ true) xs → list_all p xs ≡ true
each-all p [] e = refl
each-all p (x ∷ xs) e = ap (λ b. b && list_all p xs) e.0 ∙ each-all p xs e.1

pub each-by : {X : Type 0} (P Q : X → Type 0) (xs : List X) → ((x : X) → P x → Q x) → Each P xs → Each Q xs
each-by P Q [] h e = tt
each-by P Q (x ∷ xs) h e = (h x e.0, each-by P Q xs h e.1)

pub silent : (b : Bool) (c : CheckComplaint) → complain_if (not b) c ≡ [] → b ≡ true
silent true c e = refl
silent false c e = cc

-- ---- links

module _ (flow : Flow) where
  link-inside : (l : Link) → is_there flow l ≡ true → list_all (has_name flow.steps) (link_step l) ≡ true
  link-inside (input x) e = refl
  link-inside (output s p) e = ap (λ b. b && true) (cases (named s flow.steps) e)
    where
      cases : (o : Option Step) → option_map_or (λ t. has_name t.outputs p) o false ≡ true → is_some o ≡ true
      cases None h = h
      cases (Some t) h = refl

  links-inside : (w : Where) (ls : List Link) → flat_map (λ l. complain_if (not (is_there flow l)) (plainly no_such_port w)) ls ≡ [] → list_all (has_name flow.steps) (flat_map link_step ls) ≡ true
  links-inside w ls e =
      all-flat (has_name flow.steps) link_step ls
      (each-by _ (λ l. list_all (has_name flow.steps) (link_step l) ≡ true) ls (λ l h. link-inside l (silent (is_there flow l) (plainly no_such_port w) h)) (nil-each (λ l. complain_if (not (is_there flow l)) (plainly no_such_port w)) ls e))

  feed-inside : (w : Where) (feed : Feed) → link_complaints flow w feed ≡ [] → list_all (has_name flow.steps) (feed_steps feed) ≡ true
  feed-inside w (link l) e = link-inside l (silent (is_there flow l) (plainly no_such_port w) (append-none (complain_if (not (is_there flow l)) (plainly no_such_port w)) [] e).0)
  feed-inside w (merge ls) e = links-inside w ls e
  feed-inside w (constant v) e = refl

  after-inside : (f n : Name) (k : ℕ) (names : List Name) → flat_map (λ a. complain_if (not (has_name flow.steps a.1)) (plainly no_such_port (at_after f n a.0))) (numbered k names) ≡ [] → list_all (has_name flow.steps) names ≡ true
  after-inside f n k [] e = refl
  after-inside f n k (m ∷ names) e =
      let p = append-none (complain_if (not (has_name flow.steps m)) (plainly no_such_port (at_after f n k))) _ e in
      ap (λ b. b && list_all (has_name flow.steps) names) (silent (has_name flow.steps m) _ p.0) ∙ after-inside f n (suc k) names p.1

module _ (knows : Name → Bool) (d : Document) where
  activities-inside : (f n : Name) (k : ℕ) (acts : List Activity) → flat_map (activity_complaints knows d f n) (numbered k acts) ≡ [] → list_all (has_name d.flows) (filter_map opened_flow acts) ≡ true
  activities-inside f n k [] e = refl
  activities-inside f n k (service m ∷ acts) e = activities-inside f n (suc k) acts (append-none (activity_complaints knows d f n (k, service m)) _ e).1
  activities-inside f n k (nested g ∷ acts) e =
      let p = append-none (activity_complaints knows d f n (k, nested g)) _ e in
      ap (λ b. b && list_all (has_name d.flows) (filter_map opened_flow acts)) (silent (has_name d.flows g) _ p.0) ∙ activities-inside f n (suc k) acts p.1

  pub record IsInside (flow : Flow) (s : Step) : Type 0 where
    pub earlier : list_all (has_name flow.steps) (earlier_steps s) ≡ true
    pub opened : list_all (has_name d.flows) (filter_map opened_flow s.activities) ≡ true

  step-inside : (f : Name) (flow : Flow) (x : Name × Step) → step_naming knows d f flow x ≡ [] → IsInside flow x.1
  step-inside f flow x e =
      let p = append-none _ _ e in
      let q = append-none _ _ (append-none _ _ p.0).0 in
      let r = append-none _ _ q.0 in
      record {
        earlier =
            list_all-append (has_name flow.steps) (flat_map (λ i. feed_steps i.1.from) x.1.inputs) x.1.after
            ∙ ap (λ b. b && list_all (has_name flow.steps) x.1.after)
            (all-flat (has_name flow.steps) (λ i. feed_steps i.1.from) x.1.inputs (each-by _ (λ i. list_all (has_name flow.steps) (feed_steps i.1.from) ≡ true) x.1.inputs (λ i h. feed-inside flow (at_input f x.0 i.0) i.1.from h) (nil-each (λ i. link_complaints flow (at_input f x.0 i.0) i.1.from) x.1.inputs r.0)))
            ∙ after-inside flow f x.0 0 x.1.after p.1;
        opened = activities-inside f x.0 0 x.1.activities q.1;
      }

  flow-inside : (f : Name × Flow) → flow_naming knows d f ≡ [] → Each (λ x. IsInside f.1 x.1) f.1.steps
  flow-inside f e = each-by _ (λ x. IsInside f.1 x.1) f.1.steps (step-inside f.0 f.1) (nil-each (step_naming knows d f.0 f.1) f.1.steps (append-none _ _ e).0)

  -- all that is named is there
  pub names-inside : naming_complaints knows d ≡ [] → names_inside d ≡ true
  names-inside e =
      let flows = each-by _ (λ f. Each (λ x. IsInside f.1 x.1) f.1.steps) d.flows flow-inside (nil-each (flow_naming knows d) d.flows (append-none (complain_if (not (has_name d.flows d.main)) (plainly no_such_flow at_main)) _ e).1) in
      ap (λ b. b && list_all (λ f. links_inside f.1) d.flows)
      (each-all (λ f. list_all (has_name d.flows) (opened_flows f.1)) d.flows
      (each-by _ _ d.flows (λ f h. all-flat (has_name d.flows) (λ s. filter_map opened_flow s.1.activities) f.1.steps (each-by _ _ f.1.steps (λ x i. i.opened) h)) flows))
      ∙ each-all (λ f. links_inside f.1) d.flows (each-by _ _ d.flows (λ f h. each-all (λ x. list_all (has_name f.1.steps) (earlier_steps x.1)) f.1.steps (each-by _ _ f.1.steps (λ x i. i.earlier) h)) flows)

pub flow-links-inside : (d : Document) → names_inside d ≡ true → (k : ℕ) (x : Name × Flow) → k < length d.flows → links_inside (get_or d.flows k x).1 ≡ true
flow-links-inside d e k x lt = list_all-at (λ f. links_inside f.1) d.flows k x (and_parts (leads_inside opened_flows d.flows) (list_all (λ f. links_inside f.1) d.flows) e).1 lt
