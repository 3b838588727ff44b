-- What is seen by the table of levels, the lists that grow and the settled jobs.
use Rattle.std.specs.BTreeMap.{BTreeMap, get}
use Rattle.std.specs.BTreeSet.{BTreeSet, Updates, contains}
use Rattle.std.specs.Ordering.{is_eq}
use Rattle.std.specs.Prelude.{◌≡◌, refl, ℕ, suc, ◌+◌, ◌<◌, ◌⊎◌, Bool, true, false, List, [], ◌∷◌, ◌++◌, length, map, take, Option, Some, None, option_map}
use Rattle.std.proofs.Common.{arith, sym, ap, ap₂, subst, ◌∙◌, get_or, inl, inr}
use Rattle.std.proofs.lemmas.List.{map-append}
use Rattle.std.specs.Cmp.Lexicographic.{texts_ties}
use Rattle.tv_lemmas.specs.Members.{In}
use Rattle.tv_lemmas.proofs.Lists.{take-next}
use Rattle.tv_value.specs.Nested.{Place}
use Rattle.tv_value.specs.Orders.{place_cmp, same_name}
use Rattle.tv_value.specs.Values.{JobName}
use Rattle.tv_flow.specs.Flows.{Flow}
use Rattle.tv_strategy.specs.Origins.{Origin}
use Rattle.tv_model.specs.instance.Delivered.{StepMeaning}
use Rattle.tv_value.proofs.NameLemmas.{same_name-is}
use Rattle.tv_frame.specs.Levels as levels
use Rattle.tv_frame.specs.Levels.{AreLevels, closed}
use Rattle.tv_frame.specs.declared.level.What.{What}
use Rattle.tv_traces.specs.Seen.{AreKnownBy, AreSeen, Spot}
use Rattle.tv_traces.specs.Tables.{AreDone, AreGrown, IsTableOf, or_else, told_or}
use Rattle.tv_traces.proofs.Tables.{so_far-seen, whole-seen}
use Rattle.tv_traces.specs.Sights.{done_by, grown_in, job_view}
use Rattle.tv_traces.specs.Tabled.{told_in}
use Rattle.tv_traces.specs.declared.settled.SettledJob.{SettledJob}
use Rattle.tv_traces.proofs.GrowingLemmas.{at-key, in-end, in-front, same-key}
use Rattle.tv_lineage.proofs.Seeing.{last as in-last}

-- ---- settled jobs

module _ (s t : BTreeSet Place) (key : Place) (step : ℕ) (place : Place) (key_is : key ≡ step ∷ place) (u : Updates place_cmp s t key true) (js : List Spot) (h : AreDone js (done_by (Some s))) where
  off : (r : Place) → (r ≡ key → ⊥) → (b : Bool) → same_name key r ≡ b → is_eq (place_cmp key r) ≡ false
  off r g true k = absurd (g (sym (same_name-is key r k)))
  off r g false k = sym (texts_ties key r) ∙ k

  as-before : (r : Place) → (r ≡ key → ⊥) → contains place_cmp t r ≡ contains place_cmp s r
  as-before r g = u.2 r (off r g (same_name key r) refl)

  now-there : (r : Place) → r ≡ key → contains place_cmp t r ≡ true
  now-there r e = ap (contains place_cmp t) e ∙ u.1

  pub done-one : AreDone (js ++ (step, place) ∷ []) (done_by (Some t))
  done-one = record { told = λ n q i. told n q (in-end {A = Spot} (n, q) (step, place) js i); from = λ n q e. from n q e (at-key key (n ∷ q)) }
    where
      old : (n : ℕ) (q : Place) → In (n, q) js → (n ∷ q ≡ key) ⊎ (n ∷ q ≡ key → ⊥) → contains place_cmp t (n ∷ q) ≡ true
      old n q i (inl e) = now-there (n ∷ q) e
      old n q i (inr f) = as-before (n ∷ q) f ∙ h.told n q i

      told : (n : ℕ) (q : Place) → In (n, q) js ⊎ (◌≡◌ {A = Spot} (n, q) (step, place)) → done_by (Some t) n q ≡ true
      told n q (inl i) = old n q i (at-key key (n ∷ q))
      told n q (inr e) = now-there (n ∷ q) (ap (λ (y : Spot). y.0 ∷ y.1) e ∙ sym key_is)

      from : (n : ℕ) (q : Place) → done_by (Some t) n q ≡ true → (n ∷ q ≡ key) ⊎ (n ∷ q ≡ key → ⊥) → In (n, q) (js ++ (step, place) ∷ [])
      from n q e (inl f) =
          let k = same-key n step q place (f ∙ key_is) in
          subst (λ (y : Spot). In y (js ++ (step, place) ∷ [])) (ap₂ {C = Spot} (λ a b. (a, b)) (sym k.0) (sym k.1)) (in-last {A = Spot} (step, place) js)
      from n q e (inr f) = in-front {A = Spot} (n, q) (step, place) js (h.from n q (sym (as-before (n ∷ q) f) ∙ e))

pub done-more : (s t : BTreeSet Place) (key : Place) (xs : List SettledJob) (i : ℕ) (j : SettledJob) → i < length xs → j ≡ get_or xs i j → (q : Place) → key ≡ j.step ∷ q → q ≡ j.place → Updates place_cmp s t key true → AreDone (map job_view (take i xs)) (done_by (Some s)) → AreDone (map job_view (take (i + 1) xs)) (done_by (Some t))
done-more s t key xs i j lt is q e f u h =
    let one : suc i ≡ i + 1 = omega arith in
    subst (λ ls. AreDone ls (done_by (Some t)))
    (sym (ap (map job_view) (ap (λ n. take n xs) (sym one) ∙ take-next xs i j lt is) ∙ map-append job_view (take i xs) (j ∷ [])))
    (done-one s t key j.step j.place (e ∙ ap (λ p. j.step ∷ p) f) u (map job_view (take i xs)) h)

-- ---- sights

module _ (table : BTreeMap Place What) (grown : BTreeMap Place ℕ) (ls : List levels.Level) (told : IsTableOf ls (told_in (get place_cmp table))) where
  abbrev what : ℕ → Place → Option levels.What
  what = told_in (get place_cmp table)

  same-table : (f : ℕ → Place → Option levels.What) → ((n : ℕ) (q : Place) → f n q ≡ what n q) → IsTableOf ls f
  same-table f e = record {
    told = λ l i. let w = told.told l i in (w.0, e l.step l.place ∙ w.1);
    from = λ n q w x. told.from n q w (sym (e n q) ∙ x);
  }

  pub whole-sight : ((k : Place) → get place_cmp grown k ≡ None) → (flow : Flow) (fs : List StepMeaning) → AreLevels flow fs ls → AreSeen (λ o. true) (λ n. true) flow fs (told_or what (grown_in (get place_cmp grown))) (done_by None)
  whole-sight none flow fs h = whole-seen flow fs ls h (told_or what (grown_in (get place_cmp grown))) (same-table (told_or what (grown_in (get place_cmp grown))) (λ n q. by (what n q) (ap (option_map closed) (none (n ∷ q)))))
    where
      by : (o : Option levels.What) {p : Option levels.What} → p ≡ None → or_else o p ≡ o
      by None e = e
      by (Some w) e = refl

  pub sight-so_far : (js : List Spot) (places : BTreeSet Place) → AreGrown ls js (grown_in (get place_cmp grown)) → AreDone js (done_by (Some places)) → (known : Origin → Bool) (settled : JobName → Bool) (flow : Flow) (fs : List StepMeaning) → AreKnownBy known settled flow fs ls js → AreSeen known settled flow fs (told_or what (grown_in (get place_cmp grown))) (done_by (Some places))
  sight-so_far js places g d known settled flow fs h = so_far-seen known settled flow fs ls js h what (grown_in (get place_cmp grown)) (done_by (Some places)) told g d
