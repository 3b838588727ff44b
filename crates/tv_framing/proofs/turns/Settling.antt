-- A step's jobs may settle, by counters and by what was told.
use Rattle.std.specs.Prelude.{◌≡◌, refl, ℕ, zero, suc, length, Bool, true, false, ◌&&◌, ◌||◌, if◌then◌else◌, List, [], ◌∷◌, find, flat_map, Option, Some, None, slice_get}
use Rattle.std.specs.List.{list_all}
use Rattle.std.proofs.Common.{ap, sym, subst, ◌∙◌, inl, inr}
use Rattle.std.proofs.lemmas.Bool.{and_parts}
use Rattle.tv_lemmas.specs.Members.{In}
use Rattle.tv_lemmas.proofs.Lists.{all-second}
use Rattle.tv_value.specs.Orders.{same_name}
use Rattle.tv_value.specs.Values.{Name}
use Rattle.tv_value.proofs.NameLemmas.{same_name-is, same_name-refl}
use Rattle.tv_flow.specs.Flows.{Step}
use Rattle.tv_flow.specs.Formed.{is_ascending}
use Rattle.tv_naming.specs.Naming.{has_name}
use Rattle.tv_naming.proofs.ByPosition.{names_of}
use Rattle.tv_naming.proofs.Forms.{steps-named}
use Rattle.tv_model.specs.instance.Ranks.{earlier_steps, feed_steps, is_among, ranked}
use Rattle.tv_check.proofs.Ranked.{all-ranked, one-place}
use Rattle.tv_model.proofs.Ranks.{IsOrdered, ranked-ordered}
use Rattle.tv_check.specs.Wirings.{wiring}
use Rattle.tv_check.specs.Wirings as wirings
use Rattle.tv_telling.specs.declared.endings.endings.Endings.{Endings}
use Rattle.tv_telling.specs.endings.Ends.{have_ended}
use Rattle.tv_model.specs.instance.ByResults.{last_first}
use Rattle.tv_model.specs.instance.Counting.{have_ended_by}
use Rattle.tv_framing.specs.Answers.{after_of}
use Rattle.tv_framing.specs.Views.{View}
use Rattle.tv_framing.specs.engine.EndedSteps.{AreEndingsOf}
use Rattle.tv_framing.specs.engine.WiredFlows.{IsWired}
use Rattle.tv_framing.proofs.engine.Endings.{at-number}
use Rattle.tv_framing.proofs.engine.Steps.{endings-are}
use Rattle.tv_telling.specs.endings.Turns.{may_settle}
use Rattle.tv_framing.proofs.turns.Ranks.{at-in, in-at, named-step, ranked-in}

-- ---- the step that is found by its name

found : (xs : List (Name × Step)) (k : ℕ) (s : Name × Step) → is_ascending (names_of xs) ≡ true → slice_get xs k ≡ Some s → find (λ t. same_name s.0 t.0) xs ≡ Some s
found xs k s rise e = by (find (λ t. same_name s.0 t.0) xs) refl (first xs k e)
  where
    -- one is found, of that name
    first : (ys : List (Name × Step)) (i : ℕ) → slice_get ys i ≡ Some s → (t : Name × Step) × (find (λ t. same_name s.0 t.0) ys ≡ Some t) × In t ys × (s.0 ≡ t.0)
    first [] i e = cc
    first (y ∷ ys) i e = split (same_name s.0 y.0) refl i e (λ j. first ys j)
      where
        split : (b : Bool) → same_name s.0 y.0 ≡ b → (i : ℕ) → slice_get (y ∷ ys) i ≡ Some s
            → ((j : ℕ) → slice_get ys j ≡ Some s → (t : Name × Step) × (find (λ t. same_name s.0 t.0) ys ≡ Some t) × In t ys × (s.0 ≡ t.0))
            → (t : Name × Step) × ((if b then Some y else find (λ t. same_name s.0 t.0) ys) ≡ Some t) × In t (y ∷ ys) × (s.0 ≡ t.0)
        split true f i e rec = (y, refl, inl refl, same_name-is s.0 y.0 f)
        split false f zero e rec = let p : y ≡ s = cc in let no : false ≡ true = sym f ∙ ap (λ (x : Name × Step). same_name s.0 x.0) p ∙ same_name-refl s.0 in cc
        split false f (suc i) e rec = let r = rec i e in (r.0, r.1, inr r.2, r.3)

    by : (o : Option (Name × Step)) → find (λ t. same_name s.0 t.0) xs ≡ o → (t : Name × Step) × (find (λ t. same_name s.0 t.0) xs ≡ Some t) × In t xs × (s.0 ≡ t.0) → find (λ t. same_name s.0 t.0) xs ≡ Some s
    by o f r =
        let at = at-in xs r.0 r.2 in
        let same : k ≡ at.0 = one-place xs k at.0 s r.0 rise e at.1 r.3 in
        r.1 ∙ sym at.1 ∙ ap (slice_get xs) (sym same) ∙ e

-- ---- what a step runs after are steps

all-by : (p q : Name → Bool) (xs : List Name) → ((x : Name) → p x ≡ true → q x ≡ true) → list_all p xs ≡ true → list_all q xs ≡ true
all-by p q [] h e = refl
all-by p q (x ∷ xs) h e = let b = and_parts (p x) (list_all p xs) e in ap (λ c. c && list_all q xs) (h x b.0) ∙ all-by p q xs h b.1

module _ (steps : List (Name × Step)) where
  earlier-named : (done : List Name) (rs : List (Name × Step)) → IsOrdered done rs → ((n : Name) → is_among done n ≡ true → has_name steps n ≡ true)
      → ((r : Name × Step) → In r rs → In r steps) → (s : Name × Step) → In s rs → list_all (has_name steps) (earlier_steps s.1) ≡ true
  earlier-named done [] o h inside s i = absurd i
  earlier-named done (r ∷ rs) o h inside s (inl e) =
      subst (λ (t : Name × Step). list_all (has_name steps) (earlier_steps t.1) ≡ true) (sym e) (all-by (is_among done) (has_name steps) (earlier_steps r.1) h o.0)
  earlier-named done (r ∷ rs) o h inside s (inr i) = earlier-named (r.0 ∷ done) rs o.1.1 more (λ t j. inside t (inr j)) s i
    where
      more : (n : Name) → is_among (r.0 ∷ done) n ≡ true → has_name steps n ≡ true
      more n g = by (same_name n r.0) refl g
        where
          by : (b : Bool) → same_name n r.0 ≡ b → (b || is_among done n) ≡ true → has_name steps n ≡ true
          by true f g = subst (λ m. has_name steps m ≡ true) (sym (same_name-is n r.0 f)) (named-step steps r (inside r (inl refl)))
          by false f g = h n g

  -- a step comes after steps of the flow
  earlier-steps : is_ascending (names_of steps) ≡ true → length (ranked steps) ≡ length steps → (s : Name × Step) → In s steps → list_all (has_name steps) (earlier_steps s.1) ≡ true
  earlier-steps rise all s i =
      let at = at-in steps s i in
      let there = all-ranked steps rise all s at in
      earlier-named [] (ranked steps) (ranked-ordered steps) (λ n g. none g) (ranked-in steps) s (in-at (ranked steps) there.0 s there.1)
    where
      none : {A : Type 0} → false ≡ true → A
      none g = cc

  after-named : is_ascending (names_of steps) ≡ true → length (ranked steps) ≡ length steps → (k : ℕ) (s : Name × Step) → slice_get steps k ≡ Some s → list_all (has_name steps) s.1.after ≡ true
  after-named rise all k s e =
      all-second (has_name steps) (flat_map (λ i. feed_steps i.1.from) s.1.inputs) s.1.after (earlier-steps rise all s (in-at steps k s e))

-- ---- by counters as by what was told

pub may-is : (v : View) → IsWired v.flow → (levels : Name → ℕ) (e : Endings) → AreEndingsOf v.flow levels v.events e → (k : ℕ) (s : Name × Step) → slice_get v.flow.steps k ≡ Some s
    → may_settle (wiring v.flow) e k ≡ have_ended_by v.events levels (last_first (ranked v.flow.steps) []) (after_of v s.0)
may-is v wired levels e are k s h =
    let f = v.flow in
    let rise = (steps-named f wired.formed).rise in
    ap (have_ended e) (at-number (λ (t : Name × Step). wirings.after_of f.steps t.1) f.steps k s h)
    ∙ endings-are f wired levels v.events e are s.1.after (after-named f.steps rise wired.ranked k s h)
    ∙ ap (have_ended_by v.events levels (last_first (ranked f.steps) [])) (sym runs-after)
  where
    runs-after : after_of v s.0 ≡ s.1.after
    runs-after = ap (λ o. elim o as (λ x. List Name) [ None ↦ [] | Some t ↦ t.1.after ]) (found v.flow.steps k s (steps-named v.flow wired.formed).rise h)
