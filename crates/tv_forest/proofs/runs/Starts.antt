-- The main instance before any entry, and what it is given.
use Rattle.std.specs.Prelude.{◌≡◌, refl, ℕ, ◌⊎◌, [], ◌∷◌, List, ◌++◌, Bool, true, false, ◌&&◌, Some, flat_map, if◌then◌else◌, is_none, is_some, map, unwrap_or}
use Rattle.std.specs.List.{list_all}
use Rattle.std.specs.Ordering.{is_lt, ordering_reverse}
use Rattle.std.specs.Option.{option_map_or}
use Rattle.std.specs.Cmp.Lexicographic.{bytes_decides}
use Rattle.std.proofs.Common.{ap, ap₂, inl, inr, subst, sym, ◌∙◌}
use Rattle.std.proofs.lemmas.Bool.{false_from_ne_true}
use Rattle.std.proofs.lemmas.Cmp.{nat_list_cmp_total}
use Rattle.std.proofs.lemmas.Option.{same_Some}
use Rattle.std.specs.Cmp.{first_so, second_so}
use Rattle.tv_lemmas.specs.Members.{Each, In}
use Rattle.tv_lemmas.proofs.Members.{each_in, of-all, of-map}
use Rattle.tv_lemmas.proofs.Cases.{on_test}
use Rattle.tv_lemmas.proofs.Options.{is_none-none}
use Rattle.tv_lemmas.proofs.Orderings.{is_lt-less}
use Rattle.tv_lemmas.proofs.Lists.{append-none}
use Rattle.tv_value.specs.Nested.{list, no_trees}
use Rattle.tv_value.specs.Orders.{name_cmp, named, same_job, same_name}
use Rattle.tv_value.specs.Values.{HasDepth, JobName, Name, Value}
use Rattle.tv_gate.specs.Outcomes.{Giving}
use Rattle.tv_dispatch.specs.Jobs.{Ask}
use Rattle.tv_flow.specs.Flows.{Document, Flow}
use Rattle.tv_flow.specs.Formed.{are_entries, is_ascending, are_of_format, is_depth, is_flow, is_formed, is_value, are_named}
use Rattle.tv_flow.specs.Forms.{is_name}
use Rattle.tv_naming.specs.Faulty.{at_given, input_missing, input_unknown, plainly}
use Rattle.tv_naming.specs.Inputs.{depth_against, given_against, given_complaints, missing_against, unknown_against}
use Rattle.tv_naming.specs.Naming.{has_name}
use Rattle.tv_naming.proofs.FormedParts.{all-pass, ascending, document-flows, flow-inputs, named-passes}
use Rattle.tv_model.specs.instance.Steps.{spot}
use Rattle.tv_strategy.proofs.Each.{each-weaken}
use Rattle.tv_check.specs.Passes.{checked, complaints}
use Rattle.tv_check.proofs.Accepting.{first-none}
use Rattle.tv_check.proofs.Inside.{nil-each, silent}
use Rattle.tv_check.proofs.CycleLemmas.{IsThere, each-there}
use Rattle.tv_model.specs.instance.Events.{Extends}
use Rattle.tv_model.specs.Agreeing.{Agrees, InputsHave, NestsWithin, StepsNest}
use Rattle.tv_model.specs.Jobs.{Job}
use Rattle.tv_model.specs.Lists.{first_of_list, rest_of}
use Rattle.tv_model.specs.Made.{Meaning}
use Rattle.tv_model.specs.Meanings.{meaning}
use Rattle.tv_model.specs.RightDepths.{HaveTheseDepths}
use Rattle.tv_model.specs.Turns.{is_bounced}
use Rattle.tv_model.proofs.Tests.{true≠false}
use Rattle.tv_history.specs.Histories.{is_settled, is_settled_name}
use Rattle.tv_history.proofs.Tests.{found_in}
use Rattle.tv_history.proofs.activities.Read.{documents-have_activities}
use Rattle.tv_history.proofs.activities.Tried.{document-tried}
use Rattle.tv_history.proofs.AcceptedDocuments.{accepted-agrees}
use Rattle.tv_history.specs.order.Parts.{IsInstance, made_of}
use Rattle.tv_history.proofs.Parts.{main-instance}
use Rattle.tv_framing.specs.instances.InHistory.{IsPartOf}
use Rattle.tv_framing.specs.instances.OwnResults.{results_of}
use Rattle.tv_forest.specs.runs.Stated.{InputsAreInOrder, MainStarts}

-- ---- before any entry

module _ (gives : Giving) (d : Document) (formed : is_formed d ≡ true) where
  abbrev m : Meaning
  m = meaning gives d

  -- no job is settled: each is to be bounced, opens a flow or has an ask
  unsettled : (j : Job) → In j m.jobs → is_settled [] j ≡ false
  unsettled j i = by (is_bounced j.ending) refl (is_some j.opens) refl j.asks refl
    where
      by : (b : Bool) → is_bounced j.ending ≡ b → (o : Bool) → is_some j.opens ≡ o → (as' : List Ask) → j.asks ≡ as' → (if b then false else (if o then false else is_none (first_of_list as'))) ≡ false
      by true e o f as' g = refl
      by false e true f as' g = refl
      by false e false f [] g = absurd (true≠false (sym (document-tried gives d (documents-have_activities d formed) j i e g) ∙ f))
      by false e false f (a ∷ as') g = refl

  pub none-told : (I : JobName) → IsPartOf m [] I []
  none-told I = record {
    results = λ s q. false_from_ne_true (is_settled_name m [] (spot I s q)) (not-found (spot I s q));
    levels = λ s q. refl;
    taken = λ s q. refl;
  }
    where
      not-found : (n : JobName) → is_settled_name m [] n ≡ true → ⊥
      not-found n h = let f = found_in (is_settled []) (λ (j : Job). same_job n j.name) m.jobs h in true≠false (sym f.3 ∙ unsettled f.0 f.1)

pub main-starts : MainStarts
main-starts gives d flow is v f i e =
    let nests = (accepted-agrees d is.formed is.accepted).nests in
    let same = same_Some nests.0 flow (sym nests.1 ∙ is.is_main) in
    record {
      levels = 7;
      part =
          subst (λ vs. IsInstance gives d.flows (meaning gives d) [] 7 v.flow vs) (sym i)
          (subst (λ g. IsInstance gives d.flows (meaning gives d) [] 7 g d.inputs) (sym f) (main-instance gives d.flows 7 d.main flow is.is_main [] d.inputs));
      nests = subst (λ (g : Flow). StepsNest (NestsWithin d.flows 7) g.steps) (same ∙ sym f) nests.2;
      is_open = refl;
      told = subst (λ es. IsPartOf (meaning gives d) [] [] es) (sym e) (none-told gives d is.formed []);
      gave = subst (λ es. Extends (results_of [] (made_of gives d.flows 7 v.flow [] v.inputs)) es) (sym e) tt;
    }

-- ---- names in byte order

-- no two stand below each other
not-both : (x y : Name) → is_lt (name_cmp x y) ≡ true → is_lt (name_cmp y x) ≡ true → ⊥
not-both x y h k = true≠false (sym h ∙ ap is_lt (nat_list_cmp_total.antisymm x y ∙ ap ordering_reverse (is_lt-less (name_cmp y x) k)))

-- there is one list of the same members
one-order :
    (xs ys : List Name) → is_ascending xs ≡ true → is_ascending ys ≡ true
    → ((n : Name) → In n xs → In n ys) → ((n : Name) → In n ys → In n xs)
    → xs ≡ ys
one-order [] [] a b f g = refl
one-order [] (y ∷ ys) a b f g = absurd (g y (inl refl))
one-order (x ∷ xs) [] a b f g = absurd (f x (inl refl))
one-order (x ∷ xs) (y ∷ ys) a b f g =
    ap₂ (λ n ns. n ∷ ns) same
    (one-order xs ys (rises x xs a) (rises y ys b) (λ n i. later x y xs ys a same n i (f n (inr i))) (λ n i. later y x ys xs b (sym same) n i (g n (inr i))))
  where
    above : (z : Name) (zs : List Name) → is_ascending (z ∷ zs) ≡ true → (n : Name) → In n zs → is_lt (name_cmp z n) ≡ true
    above z zs h n i = of-all (λ k. is_lt (name_cmp z k)) zs (first_so (list_all (λ k. is_lt (name_cmp z k)) zs) (is_ascending zs) h) n i

    rises : (z : Name) (zs : List Name) → is_ascending (z ∷ zs) ≡ true → is_ascending zs ≡ true
    rises z zs h = second_so (list_all (λ k. is_lt (name_cmp z k)) zs) (is_ascending zs) h

    first : (x ≡ y) ⊎ In x ys → (y ≡ x) ⊎ In y xs → x ≡ y
    first (inl e) k = e
    first (inr i) (inl e) = sym e
    first (inr i) (inr k) = absurd (not-both x y (above x xs a y k) (above y ys b x i))

    same : x ≡ y
    same = first (f x (inl refl)) (g y (inl refl))

    later : (z w : Name) (zs ws : List Name) → is_ascending (z ∷ zs) ≡ true → z ≡ w → (n : Name) → In n zs → (n ≡ w) ⊎ In n ws → In n ws
    later z w zs ws h e n i (inl p) =
        let s = subst (λ k. is_lt (name_cmp z k) ≡ true) (p ∙ sym e) (above z zs h n i) in absurd (not-both z z s s)
    later z w zs ws h e n i (inr k) = k

-- a name that is there is among the names
named-in : {A : Type 0} (n : Name) (xs : List (Name × A)) → has_name xs n ≡ true → In n (map (λ x. x.0) xs)
named-in n [] h = absurd (true≠false (sym h))
named-in n (x ∷ xs) h = on_test (same_name n x.0) (λ e. inl ((bytes_decides n x.0).0 e)) (λ e. inr (named-in n xs (sym (ap (λ b. is_some (if b then Some x.1 else named n xs)) e) ∙ h)))

all-in : {A B : Type 0} (xs : List (Name × A)) (ys : List (Name × B)) → Each (λ x. has_name ys x.0 ≡ true) xs → (n : Name) → In n (map (λ x. x.0) xs) → In n (map (λ y. y.0) ys)
all-in xs ys h n i =
    let r = of-map (λ x. x.0) n xs i in
    subst (λ k. In k (map (λ y. y.0) ys)) (sym r.2) (named-in r.0.0 ys (each_in (λ x. has_name ys x.0 ≡ true) xs h r.0 r.1))

-- ---- what is given

-- values in the order of the inputs have the depths of these
in-order :
    (given : List (Name × Value)) (xs : List (Name × ℕ)) (ys : List (Name × Value))
    → map (λ y. y.0) ys ≡ map (λ x. x.0) xs → Each (IsThere given) ys → InputsHave xs given
    → HaveTheseDepths (map (λ x. x.1) xs) (map (λ y. y.1) ys)
in-order given [] [] e t h = tt
in-order given [] (y ∷ ys) e t h = cc
in-order given (x ∷ xs) [] e t h = cc
in-order given (x ∷ xs) (y ∷ ys) e t h =
    let n : y.0 ≡ x.0 = cc in
    (subst (λ o. HasDepth (unwrap_or o (list tt no_trees)) x.1) (ap (λ k. named k given) (sym n) ∙ t.0.1) h.0, in-order given xs ys (ap rest_of e) t.1 h.1)

-- of the same names and values there is one list
same-pairs : (xs ys : List (Name × Value)) → map (λ x. x.0) xs ≡ map (λ y. y.0) ys → map (λ x. x.1) xs ≡ map (λ y. y.1) ys → xs ≡ ys
same-pairs [] [] e f = refl
same-pairs [] (y ∷ ys) e f = cc
same-pairs (x ∷ xs) [] e f = cc
same-pairs (x ∷ xs) (y ∷ ys) e f =
    let n : x.0 ≡ y.0 = cc in
    let v : x.1 ≡ y.1 = cc in
    ap₂ (λ z zs. z ∷ zs) (λ i. (n i, v i)) (same-pairs xs ys (ap rest_of e) (ap rest_of f))

pub inputs-are_in_order : InputsAreInOrder
inputs-are_in_order d flow is = record {
  agrees = agrees.flows d.main flow is.is_main;
  names = names;
  right = in-order d.inputs flow.inputs d.inputs names (each-there d.inputs given_rise) (agrees.inputs flow is.is_main);
  only = λ given e f. same-pairs given d.inputs (e ∙ sym names) f;
}
  where
    agrees : Agrees d
    agrees = accepted-agrees d is.formed is.accepted

    given_rise : is_ascending (map (λ x. x.0) d.inputs) ≡ true
    given_rise =
        let entries = second_so (are_of_format d.format d.flows && is_name d.main && are_named is_flow 1 256 d.flows) (are_entries is_value d.inputs) is.formed in
        first_so (is_ascending (map (λ x. x.0) d.inputs)) (list_all (λ e. is_name e.0 && is_value e.1) d.inputs) entries

    inputs_rise : is_ascending (map (λ x. x.0) flow.inputs) ≡ true
    inputs_rise =
        let formed = named-passes is_flow d.main d.flows flow (all-pass is_flow 1 256 d.flows (document-flows d is.formed)) is.is_main in
        ascending is_depth 0 16 flow.inputs (flow-inputs flow formed)

    -- the check of what is given says nothing
    nothing_said : given_against flow.inputs d.inputs ≡ []
    nothing_said =
        let all = first-none (complaints (λ n. true) d) (is_none-none (checked (λ n. true) d) is.accepted) in
        ap (λ o. given_against (option_map_or (λ (f : Flow). f.inputs) o []) d.inputs) (sym is.is_main) ∙ (append-none _ (given_complaints d) all).1

    names : map (λ x. x.0) d.inputs ≡ map (λ x. x.0) flow.inputs
    names =
        let missing = flat_map (missing_against d.inputs) flow.inputs in
        let unknown = flat_map (unknown_against flow.inputs) d.inputs in
        let p = append-none (missing ++ unknown) (flat_map (depth_against flow.inputs) d.inputs) nothing_said in
        let q = append-none missing unknown p.0 in
        let known =
        each-weaken (λ v. unknown_against flow.inputs v ≡ []) (λ v. has_name flow.inputs v.0 ≡ true)
        (λ v e. silent (has_name flow.inputs v.0) (plainly input_unknown (at_given v.0)) e) d.inputs (nil-each (unknown_against flow.inputs) d.inputs q.1) in
        let given =
        each-weaken (λ x. missing_against d.inputs x ≡ []) (λ x. has_name d.inputs x.0 ≡ true)
        (λ x e. silent (has_name d.inputs x.0) (plainly input_missing (at_given x.0)) e) flow.inputs (nil-each (missing_against d.inputs) flow.inputs q.0) in
        one-order (map (λ x. x.0) d.inputs) (map (λ x. x.0) flow.inputs) given_rise inputs_rise (all-in d.inputs flow.inputs known) (all-in flow.inputs d.inputs given)
