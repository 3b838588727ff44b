-- The first ready job of a step, of those that bind no fault or of those that bind one.
use Rattle.std.specs.Prelude.{◌≡◌, refl, ℕ, not, Bool, true, false, List, [], ◌∷◌, Option, None}
use Rattle.std.specs.Cmp.Lexicographic.{slice_cmp}
use Rattle.std.specs.List.{list_all}
use Rattle.std.specs.Ordering.{is_lt, nat_cmp}
use Rattle.std.proofs.Common.{sym, ap, subst, ◌∙◌, inl, inr}
use Rattle.std.proofs.lemmas.Bool.{and_parts, true≢false, not-true}
use Rattle.tv_lemmas.specs.Members.{In}
use Rattle.tv_value.specs.Nested.{Place}
use Rattle.tv_value.specs.Values.{Name}
use Rattle.tv_flow.specs.Flows.{Flow, Step}
use Rattle.tv_model.specs.instance.Ranks.{ranked}
use Rattle.tv_check.specs.declared.plans.FlowPlan.{FlowPlan}
use Rattle.tv_outputs.specs.Known.{Nodes}
use Rattle.tv_idle.specs.Sought.{stands_after}
use Rattle.tv_idle.specs.Idles.{first_number, of_step}
use Rattle.tv_idle.specs.Kept.{are_in_order}
use Rattle.tv_spread.specs.Spreads.{is_faulty_now}
use Rattle.tv_model.specs.instance.ByResults.{last_first}
use Rattle.tv_model.specs.instance.Counting.{have_ended_by}
use Rattle.tv_framing.specs.Answers.{after_of}
use Rattle.tv_framing.specs.Views.{View}
use Rattle.tv_framing.specs.matches.Steps.{IsStepAt}
use Rattle.tv_framing.specs.turns.IdleJobs.{IsIdle}
use Rattle.tv_frame.specs.declared.frame.Frame.{Frame}
use Rattle.tv_frame.specs.Kept.{Keeps}
use Rattle.tv_frame.specs.Ready.{IsFirstOfStep, IsReadyWith}
use Rattle.tv_frame.specs.Tables.{levels_in}
use Rattle.tv_frame.proofs.Added.{queue}
use Rattle.tv_framing.proofs.turns.Ranks.{place-is}
use Rattle.tv_framing.proofs.turns.Turns.{itself}
use Rattle.tv_frame.proofs.ReadySteps.{its-number}

abbrev before : ℕ × List ℕ → ℕ × List ℕ → Bool
before j k = not (is_lt (slice_cmp nat_cmp k.1 j.1))

-- none stands before the first of a list in order
head-first : (x : ℕ × List ℕ) (xs : List (ℕ × List ℕ)) (j : ℕ × List ℕ) → are_in_order (x ∷ xs) ≡ true → In j (x ∷ xs) → stands_after j.1 x.1 ≡ false
head-first x xs j o (inl e) = ap (λ (k : ℕ × List ℕ). stands_after k.1 x.1) e ∙ itself x.1
head-first x xs j o (inr i) = among xs (and_parts (list_all (before x) xs) (are_in_order xs) o).0 i
  where
    among : (ys : List (ℕ × List ℕ)) → list_all (before x) ys ≡ true → In j ys → stands_after j.1 x.1 ≡ false
    among [] h i = absurd i
    among (y ∷ ys) h (inl e) = ap (λ (k : ℕ × List ℕ). stands_after k.1 x.1) e ∙ not-true (stands_after y.1 x.1) (and_parts (before x y) (list_all (before x) ys) h).0
    among (y ∷ ys) h (inr i) = among ys (and_parts (before x y) (list_all (before x) ys) h).1 i

module _ (flows : List (Name × Flow)) (plan : FlowPlan) (pool : Nodes) (f : Frame) (v : View) (k : Keeps flows plan pool f v) (n : ℕ) (s : Name × Step) (at : IsStepAt v n s) where
  abbrev says : Place → Bool
  says q = is_faulty_now f.intakes (n, q)

  abbrev Ready : Bool → ℕ → Place → Type 0
  Ready b m q = IsReadyWith (levels_in v.flow) v says s.0 b m q

  flag-so : (b : Bool) (j : ℕ × List ℕ) → In j (queue b (of_step f.idle.steps n)) → says j.1 ≡ b
  flag-so true j i = k.idle_are.faulty n j i
  flag-so false j i = k.idle_are.good n j i

  idle-by : (b : Bool) (j : ℕ × List ℕ) → In j (queue b (of_step f.idle.steps n)) → IsIdle f.idle.steps n j
  idle-by true j i = inr i
  idle-by false j i = inl i

  order-by : (b : Bool) → are_in_order (queue b (of_step f.idle.steps n)) ≡ true
  order-by true = k.idle_are.all.order.faulty n
  order-by false = k.idle_are.all.order.good n

  abbrev Settled : Type 0
  Settled = have_ended_by v.events (levels_in v.flow) (last_first (ranked v.flow.steps) []) (after_of v s.0) ≡ true

  -- those in the queue are ready where the step's jobs may settle
  ready-in : Settled → (b : Bool) (j : ℕ × List ℕ) → In j (queue b (of_step f.idle.steps n)) → Ready b j.0 j.1
  ready-in settled b j i =
      let idle = idle-by b j i in
      let free = k.idle_are.all.free n s j at idle in
      record {
        job = k.idle_are.all.known n s j at idle;
        ready = record { idle = free.0; without_result = free.1; after = settled };
        said = flag-so b j i;
      }

  -- and no others are
  in-ready : (b : Bool) (m : ℕ) (q : Place) → Ready b m q → In (m, q) (queue b (of_step f.idle.steps n))
  in-ready b m q r =
      by b r.said
      (subst (λ c. IsIdle f.idle.steps c (m, q)) (its-number flows plan pool f v k n s at)
      (k.idle_are.all.all m (s.0, q) r.job r.ready.idle r.ready.without_result))
    where
      by : (b : Bool) → says q ≡ b → IsIdle f.idle.steps n (m, q) → In (m, q) (queue b (of_step f.idle.steps n))
      by true h (inl i) = absurd (true≢false (sym h ∙ k.idle_are.good n (m, q) i))
      by true h (inr i) = i
      by false h (inl i) = i
      by false h (inr i) = absurd (true≢false (sym (k.idle_are.faulty n (m, q) i) ∙ h))

  pub first-so : Settled → (b : Bool) (o : Option ℕ) → o ≡ first_number (queue b (of_step f.idle.steps n)) → IsFirstOfStep (levels_in v.flow) v says s.0 b o
  first-so settled b o e =
      subst (IsFirstOfStep (levels_in v.flow) v says s.0 b) (sym e)
      (by (queue b (of_step f.idle.steps n)) (order-by b) (ready-in settled b) (in-ready b))
    where
      by : (js : List (ℕ × List ℕ)) → are_in_order js ≡ true → ((j : ℕ × List ℕ) → In j js → Ready b j.0 j.1) → ((m : ℕ) (q : Place) → Ready b m q → In (m, q) js)
          → IsFirstOfStep (levels_in v.flow) v says s.0 b (first_number js)
      by [] o to from = λ m q r. from m q r
      by (j ∷ js) o to from = record { place = j.1; is = to j (inl refl); first = λ m q r. place-is q j.1 ∙ head-first j js (m, q) o (from m q r) }

  -- where none of either kind is idle, none is ready
  pub none-so : (b : Bool) → queue b (of_step f.idle.steps n) ≡ [] → IsFirstOfStep (levels_in v.flow) v says s.0 b None
  none-so b e m q r = subst (In (m, q)) e (in-ready b m q r)
