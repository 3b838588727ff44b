-- What the matchers of a frame were told, and what they bring, once the touched steps have shown what they held.
use Rattle.std.specs.Option.{option_map_or}
use Rattle.std.specs.Prelude.{◌≡◌, refl, ℕ, ◌+◌, ◌<◌, ◌≤◌, Bool, true, false, if◌then◌else◌, List, [], ◌++◌, length, map, Option, Some, None, slice_get}
use Rattle.std.proofs.Common.{sym, ap, subst, ◌∙◌, arith, append-nil}
use Rattle.std.proofs.lemmas.Option.{none-some}
use Rattle.std.proofs.lemmas.Simd.{map-map}
use Rattle.tv_lemmas.specs.Members.{Each}
use Rattle.tv_value.specs.Nested.{Place}
use Rattle.tv_value.specs.Values.{Name}
use Rattle.tv_flow.specs.Flows.{Flow, Step}
use Rattle.tv_lemmas.proofs.Cases.{on_test}
use Rattle.tv_lemmas.proofs.Lists.{within-not_none}
use Rattle.tv_matching.specs.Matchers.{Outcome}
use Rattle.tv_matching.proofs.Lists.{flat-each, map-flat}
use Rattle.tv_match.specs.declared.matchers.Matcher.{Matcher}
use Rattle.tv_intake.specs.declared.intakes.Intakes.{Intakes}
use Rattle.tv_intake.specs.Intaken.{IsMadeAt, brought_at, matcher_at}
use Rattle.tv_intake.specs.Sorting as intake
use Rattle.tv_intake.specs.Sorting.{brought}
use Rattle.tv_intake.proofs.IntakeLemmas.{ahead-parts}
use Rattle.tv_model.specs.instance.Events.{Event}
use Rattle.tv_framing.specs.Frames.{with_event}
use Rattle.tv_framing.specs.Views.{View}
use Rattle.tv_framing.specs.keeping.Told.{StepIsTold}
use Rattle.tv_framing.specs.faults.Telling.{TellsTruly}
use Rattle.tv_framing.specs.matches.Jobs.{all_jobs, jobs_of}
use Rattle.tv_spread.specs.Spreads.{IsAscending, MakeAll, new_jobs, new_places, new_things}
use Rattle.tv_frame.specs.Kept.{HasMatcher, followed_by, named_job, things_of}
use Rattle.tv_frame.specs.Prepared.{IsToldWith, is_one_of}
use Rattle.tv_frame.proofs.ShownLists.{flat-in, not-one, one-each, each-one, same-length, things-here, things-more, things-none}

-- ---- one step

module _ (v : View) (s : Name × Step) where
  module _ (e : Event) (new : List (Name × Place)) where
    pub goes-made : (o p : Option Matcher) → IsMadeAt o p → HasMatcher v s o → IsToldWith v e s true o → HasMatcher (with_event v e new) s p
    goes-made None p m h w = absurd m
    goes-made (Some o) None m h w = absurd m
    goes-made (Some o) (Some p) m h w = record {
      strategy_is = m.strategy ∙ h.strategy_is;
      mismatch_is = m.mismatch ∙ h.mismatch_is;
      told = subst (StepIsTold (with_event v e new) s.0) (sym m.told) w.told;
      truly = subst (TellsTruly (with_event v e new) s.0) (sym m.told) w.truly;
    }

    pub goes-same : (o : Option Matcher) → HasMatcher v s o → IsToldWith v e s false o → HasMatcher (with_event v e new) s o
    goes-same None h w = absurd h
    goes-same (Some o) h w = record { strategy_is = h.strategy_is; mismatch_is = h.mismatch_is; told = w.told; truly = w.truly }

made-follows : (o p : Option Matcher) → IsMadeAt o p → followed_by o ++ option_map_or brought o [] ≡ followed_by p
made-follows None p m = absurd m
made-follows (Some o) None m = absurd m
made-follows (Some o) (Some p) m = ahead-parts o ∙ sym m.follows

made-there : (o p : Option Matcher) → IsMadeAt o p → o ≡ None → p ≡ None
made-there None p m e = absurd m
made-there (Some o) p m e = absurd (none-some o (sym e))

made-here : (o p : Option Matcher) → IsMadeAt o p → p ≡ None → o ≡ None
made-here None p m e = absurd m
made-here (Some o) None m e = absurd m
made-here (Some o) (Some p) m e = absurd (none-some p (sym e))

-- ---- all steps

module _ (cs : List ℕ) (i j : Intakes) (m : MakeAll cs i j) where
  pub made-at : (c : ℕ) → is_one_of cs c ≡ true → IsMadeAt (matcher_at i c) (matcher_at j c)
  made-at c h = one-each (λ d. IsMadeAt (matcher_at i d) (matcher_at j d)) cs c m.made h

  pub same-at : (c : ℕ) → is_one_of cs c ≡ false → matcher_at j c ≡ matcher_at i c
  same-at c h = m.others c (not-one cs c h)

  pub as-many : length j.matchers.items ≡ length i.matchers.items
  as-many = same-length i.matchers.items j.matchers.items there here
    where
      there : (c : ℕ) → matcher_at i c ≡ None → matcher_at j c ≡ None
      there c e = on_test (is_one_of cs c) (λ h. made-there (matcher_at i c) (matcher_at j c) (made-at c h) e) (λ h. same-at c h ∙ e)

      here : (c : ℕ) → matcher_at j c ≡ None → matcher_at i c ≡ None
      here c e = on_test (is_one_of cs c) (λ h. made-here (matcher_at i c) (matcher_at j c) (made-at c h) e) (λ h. sym (same-at c h) ∙ e)

  -- what a step brings
  abbrev pub brings : ℕ → List Outcome
  brings c = if is_one_of cs c then brought_at i c else []

  pub follows-more : (c : ℕ) → followed_by (matcher_at i c) ++ brings c ≡ followed_by (matcher_at j c)
  follows-more c = by (is_one_of cs c) refl
    where
      by : (b : Bool) → is_one_of cs c ≡ b → followed_by (matcher_at i c) ++ (if b then brought_at i c else []) ≡ followed_by (matcher_at j c)
      by true h = made-follows (matcher_at i c) (matcher_at j c) (made-at c h)
      by false h = append-nil (followed_by (matcher_at i c)) ∙ ap followed_by (sym (same-at c h))

  pub matcher-goes : (v : View) (e : Event) (new : List (Name × Place)) (c : ℕ) (s : Name × Step) → HasMatcher v s (matcher_at i c) → IsToldWith v e s (is_one_of cs c) (matcher_at i c) → HasMatcher (with_event v e new) s (matcher_at j c)
  matcher-goes v e new c s h w = by (is_one_of cs c) refl w
    where
      by : (b : Bool) → is_one_of cs c ≡ b → IsToldWith v e s b (matcher_at i c) → HasMatcher (with_event v e new) s (matcher_at j c)
      by true k u = goes-made v s e new (matcher_at i c) (matcher_at j c) (made-at c k) h u
      by false k u = subst (HasMatcher (with_event v e new) s) (sym (same-at c k)) (goes-same v s e new (matcher_at i c) h u)

  -- ---- jobs

  module _ (f : Flow) (up : IsAscending cs) (within : Each (λ c. c < length f.steps) cs) where
    abbrev bringing : ℕ → Name × Step → List (Name × Place)
    bringing c s = jobs_of s.0 (brings c)

    none-brought : (c : ℕ) (s : Name × Step) → Each (λ d. d ≡ c → ⊥) cs → bringing c s ≡ []
    none-brought c s h = ap (λ b. jobs_of s.0 (if b then brought_at i c else [])) (on_test (is_one_of cs c) (λ k. absurd (one-each (λ d. d ≡ c → ⊥) cs c h k refl)) (λ k. k))

    own-jobs : (c : ℕ) → c < length f.steps → is_one_of cs c ≡ true → map (named_job f) (map (λ q. (c, q)) (new_places i c)) ≡ option_map_or (bringing c) (slice_get f.steps c) []
    own-jobs c l h =
        map-map (named_job f) (λ (q : Place). (c, q)) (new_places i c)
        ∙ by (slice_get f.steps c) refl
      where
        by : (o : Option (Name × Step)) → slice_get f.steps c ≡ o → map (λ (q : Place). (option_map_or (λ (s : Name × Step). s.0) (slice_get f.steps c) [], q)) (new_places i c) ≡ option_map_or (bringing c) o []
        by None e = absurd (within-not_none f.steps c l e)
        by (Some s) e =
            ap (λ o. map (λ (q : Place). (option_map_or (λ (s : Name × Step). s.0) o [], q)) (new_places i c)) e
            ∙ ap (λ b. jobs_of s.0 (if b then brought_at i c else [])) (sym h)

    -- the jobs that become known are those among what is brought
    pub jobs-brought : map (named_job f) (new_jobs i cs) ≡ all_jobs f brings
    jobs-brought =
        map-flat (named_job f) (λ c. map (λ q. (c, q)) (new_places i c)) cs
        ∙ flat-each (λ c. map (named_job f) (map (λ q. (c, q)) (new_places i c))) (λ c. option_map_or (bringing c) (slice_get f.steps c) []) cs
        (each-one (λ c. map (named_job f) (map (λ q. (c, q)) (new_places i c)) ≡ option_map_or (bringing c) (slice_get f.steps c) []) cs (λ c h. own-jobs c (one-each (λ d. d < length f.steps) cs c within h) h))
        ∙ sym (flat-in bringing (slice_get f.steps) 0 f.steps cs up (each-one (λ c. 0 ≤ c) cs (λ c h. omega arith)) (each-one (λ c. c < 0 + length f.steps) cs (λ c h. let l = one-each (λ d. d < length f.steps) cs c within h in omega (arith, l)))
        (λ n. ap (slice_get f.steps) (zero-plus n)) (λ c s l h. none-brought c s h))
      where
        zero-plus : (n : ℕ) → n ≡ 0 + n
        zero-plus n = omega arith

  -- ---- what waits

  pub things-brought : IsAscending cs → (n : ℕ) (left : List (ℕ × Outcome)) → things_of n (left ++ new_things i cs) ≡ things_of n left ++ intake.others_among (brings n)
  things-brought up n left =
      things-more (λ c. intake.others_among (brought_at i c)) n cs left ∙ ap (λ l. things_of n left ++ l) (by (is_one_of cs n) refl)
    where
      by : (b : Bool) → is_one_of cs n ≡ b → things_of n (new_things i cs) ≡ intake.others_among (if b then brought_at i n else [])
      by true h = things-here (λ c. intake.others_among (brought_at i c)) n cs up h
      by false h = things-none (λ c. intake.others_among (brought_at i c)) n cs (not-one cs n h)
